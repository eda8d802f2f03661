use Rattle.std.proofs.Common.{refl, ap, sym, ◌∙◌, List, ◌++◌, map, append-nil}
use Rattle.node_traits.specs.declared.outputs.ToLink.{ToLink}
use Rattle.protocol_model.specs.Messages.{letter_of}
use Rattle.router_requests.specs.declared.fates.Fate.TheVariants.{Leaves}
use Rattle.router_node.proofs.node.RouterNode.add_told.Goals as goal

pub returns : goal.returns
returns c = λ time. record {
  fate = Leaves;
  fates = c.in_ok-push.ensures.items;
  is = refl;
  mail = sym (append-nil (map (λ m. letter_of m) c.args.all.now.mail));
  replies = c.in_ok-add_reply.ensures ∙ ap (λ (l : List ToLink). c.args.all.now.replies ++ l) (c.in_ok-reply.ensures time);
}
