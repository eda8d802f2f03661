use Rattle.std.proofs.Common.{◌≡◌, refl, ap, sym, ◌∙◌, ◌++◌, length, map, Bool, true, false, ◌==◌}
use Rattle.std.specs.Option.{option_map}
use Rattle.chunk_table.specs.Meanings.{version_view}
use Rattle.command_model.specs.Answers.{refusal_answer}
use Rattle.node_model.specs.RouterNext as nexts
use Rattle.node_model.specs.States.{Work}
use Rattle.read_parts.specs.Parts.{target_view}
use Rattle.reply_model.specs.Outcomes.{most_tries}
use Rattle.reply_model.specs.Refusals.{Refusal}
use Rattle.router_requests.specs.Askers.{asker_view}
use Rattle.router_requests.specs.Fates.{tried_by}
use Rattle.router_requests.specs.Nexts.{read_next}
use Rattle.router_requests.specs.Works.{open_view, stages_of, telling_view}
use Rattle.write_runs.specs.Runs.{tries_view}
use Rattle.router_requests.proofs.GivenUp.{all_tried, tries_again}
use Rattle.router_requests.proofs.asker.Asker.read_again.Goals as goal

pub returns-then-has_all_tries : goal.returns-then-has_all_tries
returns-then-has_all_tries c = λ all is.
    let r = asker_view c.args.self in
    let time = c.args.time.0 in
    let q = open_view r.me r.life c.args.request.now in
    let read = c.args.read.now in
    let tries = tries_view c.in_ok-tries.tries.items in
    let are = rw (c.deref.ensures.value, c.deref-2.ensures.value) at c.in_ok-tries.ensures in
    let last = rw c.deref-3.ensures.value at (sym c.has_all_tries.ensures ∙ c.if-has_all_tries.true) in
    let refusal = rw c.deref-then-has_all_tries.ensures.value at c.in_ok-refusal_by.ensures in
    all_tried all r time q (version_view c.args.met) read.named read.at.0 (stages_of read.parts) (telling_view read.telling) tries are last
    ∙ ap (λ (x : Refusal). nexts.is_told (nexts.reply_to r time q (refusal_answer x))) (sym refusal)
    ∙ sym (c.of_refusal.ensures r time q)

pub returns : goal.returns
returns c = λ all is.
    let r = asker_view c.args.self in
    let time = c.args.time.0 in
    let q = open_view r.me r.life c.args.request.now in
    let read = c.args.read.now in
    let tries = tries_view c.in_ok-tries.tries.items in
    let are = rw (c.deref.ensures.value, c.deref-2.ensures.value) at c.in_ok-tries.ensures in
    let more = rw c.deref-3.ensures.value at (sym c.has_all_tries.ensures ∙ c.if-has_all_tries.false) in
    tries_again all r time q (version_view c.args.met) read.named read.at.0 (stages_of read.parts) (telling_view read.telling) tries are
    (option_map (λ t. t.now) c.args.known) is more
    ∙ c.in_ok-sends.ensures (tried_by q tries) refl refl (ap tries_view (sym c.deref-4.ensures.value))
    ∙ ap (λ (w : Work). read_next (tried_by q tries) w c.in_ok-sends.sends) (sym c.requires)
    ∙ sym (c.of_tries.ensures r time q)
