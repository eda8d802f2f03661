use Rattle.std.proofs.Common.{◌≡◌, None, ap, arith, map}
use Rattle.std.specs.Arc.{arc_value}
use Rattle.std.specs.BTreeMap.{get_by_text}
use Rattle.std.proofs.lemmas.Map.Text.{text_keys}
use Rattle.value_compare.specs.Keys.{inside_some}
use Rattle.shard_store.proofs.SpanDocuments.{nothing_listed}
use Rattle.shard_store.specs.Collections.{at_of, shown_in}
use Rattle.shard_store.proofs.collections.Collections.scan_at.Goals as goal

pub returns-in-None : goal.returns-in-None
unfolding shown_in
returns-in-None c =
    let here : get_by_text c.args.self.now.by_name c.args.namespace.now ≡ None = grind (arith, text_keys) in
    nothing_listed (inside_some c.args.span.now) (λ key. shown_in c.args.self.now c.args.namespace.now key c.args.time.0) _
    (λ key. ap (λ o. at_of o key c.args.time.0) here) (ap (λ documents. map (λ d. arc_value d.now) documents) c.new.ensures.items)
