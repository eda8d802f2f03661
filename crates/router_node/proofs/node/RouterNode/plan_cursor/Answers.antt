use Rattle.std.proofs.Common.{◌≡◌, refl, ap, sym, subst, ◌∙◌, ℕ, List, [], ◌∷◌, ◌++◌, map, rules, w32}
use mir.Val.{SFits}
use Rattle.std.specs.Prelude.{Option, pos}
use Rattle.std.specs.Arc.{arc_value}
use Rattle.command_replies.specs.AnswerMeanings.{answer_view}
use Rattle.command_model.specs.Answers.{Answer, answer_document, first_answer}
use Rattle.node_model.specs.RouterRequests as requested
use Rattle.node_model.specs.RouterRows as rows
use Rattle.node_traits.specs.Effects.{AreReadable, spellings}
use Rattle.node_traits.specs.Lists.{listed}
use Rattle.router_requests.specs.Works.{open_view}
use Rattle.router_cursors.specs.Numbers.{block_given, block_kept}
use Rattle.router_node.specs.RouterStates.{router_of}
use Rattle.router_node.specs.Tellings.{MayTell}
use Rattle.router_node.specs.declared.step_plan.NewCursor.{NewCursor}
use Rattle.router_node.proofs.Puts.{told_as}
use Rattle.router_node.proofs.Shown.{told_cursor}
use Rattle.router_node.proofs.node.RouterNode.plan_cursor.Goals as goal

pub returns : goal.returns
returns c = λ m late left may.
    let n = c.args.self.now in
    let r = router_of n in
    let q = open_view n.me.0 n.life c.args.request.now in
    let at = c.args.at.0 in
    let batch = map arc_value c.args.batch.documents.items in
    let rest = map arc_value c.args.batch.rest.items in
    let answer = answer_view c.in_ok-answer.answer in
    let fits : SFits w32 c.args.request.now.number = search rules in
    let opened : NewCursor = record { namespace = c.in_ok-copy.field-0; time = c.args.at; rest = c.args.batch.rest } in
    let told : answer ≡ first_answer (rows.batch_of q at (pos (rows.next_number r)) batch) =
    c.in_ok-answer.ensures q refl ∙ ap (λ (k : ℕ). first_answer (rows.batch_of q at (pos k) batch)) c.in-Some.ensures.number in
    told_cursor r m c.hears_keeping.result c.args.time.0 late q answer (listed c.in_ok-reply.reply)
    (told_as _ (requested.id_of r q.count) (requested.heard r m) q.link q.number q.request (answer_document answer) fits (c.in_ok-reply.ensures (requested.id_of r q.count) (requested.heard r m)))
    opened
    (c.hears_keeping.ensures (block_kept (block_given r.blocks r.gave)) (c.in_ok-records.ensures.records ∙ ap (λ (b : Option ℕ). spellings (block_kept b)) c.in-Some.ensures.block))
    left
    (subst (λ (b : Option ℕ). AreReadable (block_kept b)) c.in-Some.ensures.block c.in_ok-records.ensures.readable)
    (subst (λ (a : Answer). MayTell r m q a (rows.gives_number r (r.cursors ++ record {
      router = r.me;
      life = r.life;
      number = pos (rows.next_number r);
      namespace = c.in_ok-copy.field-0;
      time = at;
      remaining = rest;
    } ∷ []))) (sym told)
    (subst (λ (s : List ℕ). MayTell r m q (first_answer (rows.batch_of q at (pos (rows.next_number r)) batch)) (rows.gives_number r (r.cursors ++ record {
      router = r.me;
      life = r.life;
      number = pos (rows.next_number r);
      namespace = s;
      time = at;
      remaining = rest;
    } ∷ []))) (sym c.in_ok-copy.ensures) may))
