use Rattle.std.proofs.Common.{None, ap, if◌then◌else◌, map, ◌∙◌}
use Rattle.std.specs.Arc.{arc_value}
use Rattle.std.proofs.lemmas.Result.{IfOk-weaker}
use Rattle.value_compare.specs.Keys.{inside_some}
use Rattle.shard_store.proofs.SpanDocuments.{same_listing, span_documents}
use Rattle.shard_store.specs.Collections.{shown_in}
use Rattle.shard_store.specs.Entries.{entries_kept}
use Rattle.shard_store.proofs.store.ShardStore.documents_at.Goals as goal

pub returns : goal.returns
returns c =
    let store = c.args.self.now in
    let span = c.args.span.now in
    let namespace = c.args.namespace.now in
    let time = c.args.time.0 in
    IfOk-weaker c.scan_at.result _ _
    (λ list listed. span_documents span (entries_kept store.shard.0 store.entries.items) namespace time (map (λ d. arc_value d.now) list.items)
    (same_listing _ _ _
    (λ key. ap (λ found. if inside_some span key then found else None)
    (ap (λ n. shown_in store.collections n key time) c.as_str.ensures.text ∙ store.shown namespace key time)) listed))
    c.scan_at.ensures
