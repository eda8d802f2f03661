use Rattle.std.proofs.Common.{refl, ap, sym, ◌∙◌, List, map, append-nil}
use Rattle.std.proofs.lemmas.List.{map-append}
use Rattle.protocol_model.specs.Messages.{letter_of}
use Rattle.protocol_model.specs.declared.message.Message.{Message}
use Rattle.router_requests.specs.declared.fates.Fate.TheVariants.{Stays}
use Rattle.router_node.proofs.all_next.add_stay.Goals as goal

pub returns : goal.returns
returns c = λ q. record {
  fate = Stays c.args.stay;
  fates = c.in_ok-push.ensures.items;
  is = refl;
  mail = ap (λ (l : List Message). map (λ m. letter_of m) l) c.in_ok-add_all.ensures ∙ map-append (λ (m : Message). letter_of m) c.args.all.now.mail c.args.mail.items;
  replies = sym (append-nil c.args.all.now.replies);
}
