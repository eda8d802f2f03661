use Rattle.std.proofs.Common.{◌≡◌, ap, ◌∙◌, ℕ, List, [], map}
use Rattle.std.specs.Arc.{arc_value}
use Rattle.node_model.specs.RouterRequests as requested
use Rattle.node_model.specs.RouterNext as nexts
use Rattle.node_model.specs.States as states
use Rattle.pipeline_lang.specs.Halves.{half_of}
use Rattle.pipeline_model.specs.Halves.{Half}
use Rattle.pipeline_model.specs.Split.{split}
use Rattle.protocol_model.specs.Messages.{letter_of}
use Rattle.read_parts.proofs.Come.{all_awaited}
use Rattle.read_parts.specs.Parts.{target_view, targets_by}
use Rattle.read_parts.specs.declared.parts.Target.{Target}
use Rattle.router_requests.specs.Askers.{asker_view}
use Rattle.router_requests.specs.Works.{stages_of, telling_view}
use Rattle.write_runs.specs.Runs.{tries_view}
use Rattle.router_requests.proofs.Reading.{reads_owners}
use Rattle.router_requests.proofs.asker.Asker.reads_by.Goals as goal

pub returns : goal.returns
returns c = λ q asks same of had.
    let r = asker_view c.args.self in
    let id = requested.id_of r c.args.count in
    let time = c.args.time.0 in
    let table = c.args.table.now in
    let at = c.args.at.0 in
    let read = c.args.read.now in
    let namespace = c.args.namespace.now in
    let stages = stages_of read.parts in
    let half = (split stages).0 in
    let tries = tries_view c.args.tries.now in
    let turn = requested.turn_after tries in
    let targets = map target_view c.in_ok-targets.targets.items in
    let all : targets ≡ requested.targets_at table at stages =
    c.in_ok-targets.ensures ∙ ap (λ (h : Half). targets_by table at h.span) (ap half_of c.deref.ensures ∙ c.half-half.ensures) in
    reads_owners r time c.args.count namespace q same of asks read.named at stages (telling_view read.telling) table targets (map (λ m. letter_of m) c.in_ok-mail.mail.items) tries had c.requires.reaches c.requires.owned all
    (c.in_ok-mail.ensures
    ∙ ap (λ (n : ℕ). requested.asks_to_read r time id namespace n at (half_of (arc_value c.half-half.result.now)) (nexts.awaited (map target_view c.deref-2.result.now) [])) c.in_ok-turn.ensures
    ∙ ap (λ (h : Half). requested.asks_to_read r time id namespace turn at h (nexts.awaited (map target_view c.deref-2.result.now) [])) c.half-half.ensures
    ∙ ap (λ (l : List Target). requested.asks_to_read r time id namespace turn at half (nexts.awaited (map target_view l) [])) c.deref-2.ensures.value
    ∙ ap (λ (ts : List states.Target). requested.asks_to_read r time id namespace turn at half ts) (all_awaited targets))
