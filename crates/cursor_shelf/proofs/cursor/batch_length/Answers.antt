use Rattle.std.proofs.Common.{◌≡◌, ◌<◌, ◌-◌, ◌^◌, length, map, get_or, refl, sym, ap, ◌∙◌, arith}
use Rattle.std.specs.Prelude.{min}
use Rattle.std.specs.Arc.{arc_value}
use Rattle.std.proofs.lemmas.Grind.{common_steps}
use Rattle.std.proofs.lemmas.List.{length-map}
use Rattle.std.proofs.Math.ListN.{get_or-map}
use Rattle.bson_model.specs.Tree.{Fields}
use Rattle.pipeline_model.specs.Lengths.{document_length}
use Rattle.cursor_shelf.proofs.Longest.{may_go_on, is_longest, stops_by_size, more_bytes, none_yet}
use Rattle.cursor_shelf.proofs.cursor.batch_length.Goals as goal

pub loop-count-init : goal.loop-count-init
loop-count-init c = record { bytes = refl; may = none_yet _ _ }

pub returns-then-is_reached : goal.returns-then-is_reached
returns-then-is_reached c = stops_by_size _ _ _ (sym c.is_reached.ensures ∙ c.if-is_reached.true) c.loop-count.invariant.may

pub returns-then-is_too_long : goal.returns-then-is_too_long
returns-then-is_too_long c =
    let items = c.args.remaining.now.items in
    let within : c.loop-count.count < length items = grind (arith, common_steps, c.args.remaining.now.ok) in
    let less : c.loop-count.count < length (map arc_value items) = omega (arith, within, length-map items arc_value) in
    let there : arc_value c.index.result.now ≡ get_or (map arc_value items) c.loop-count.count (arc_value c.index.result.now) =
    ap arc_value c.index.ensures ∙ sym (get_or-map arc_value items c.loop-count.count c.index.result.now) in
    let long : c.size.result ≡ min (document_length (arc_value c.index.result.now)) (2 ^ 64 - 1) =
    c.size.ensures ∙ ap (λ (d : Fields). min (document_length d) (2 ^ 64 - 1)) c.deref.ensures in
    is_longest _ _ _ _
    (more_bytes (map arc_value items) c.loop-count.count (arc_value c.index.result.now) c.loop-count.bytes c.size.result c.saturating_add-bytes.result less there
    c.loop-count.invariant.bytes long c.saturating_add-bytes.ensures)
    (sym c.is_too_long.ensures ∙ c.if-is_too_long.true) c.loop-count.invariant.may

pub loop-count-preserved : goal.loop-count-preserved
loop-count-preserved c =
    let items = c.args.remaining.now.items in
    let within : c.loop-count.count < length items = grind (arith, common_steps, c.args.remaining.now.ok) in
    let less : c.loop-count.count < length (map arc_value items) = omega (arith, within, length-map items arc_value) in
    let there : arc_value c.index.result.now ≡ get_or (map arc_value items) c.loop-count.count (arc_value c.index.result.now) =
    ap arc_value c.index.ensures ∙ sym (get_or-map arc_value items c.loop-count.count c.index.result.now) in
    let long : c.size.result ≡ min (document_length (arc_value c.index.result.now)) (2 ^ 64 - 1) =
    c.size.ensures ∙ ap (λ (d : Fields). min (document_length d) (2 ^ 64 - 1)) c.deref.ensures in
    let grown = more_bytes (map arc_value items) c.loop-count.count (arc_value c.index.result.now) c.loop-count.bytes c.size.result
    c.saturating_add-bytes.result less there c.loop-count.invariant.bytes long c.saturating_add-bytes.ensures in
    record {
      bytes = grown;
      may = may_go_on _ _ _ _ grown less (sym c.is_reached.ensures ∙ c.if-is_reached.false) (sym c.is_too_long.ensures ∙ c.if-is_too_long.false);
    }
