-- The rows are kept from those that were read; the documents read, and those that are left, are all.
use Rattle.std.proofs.Common.{◌≡◌, ◌≤◌, ◌++◌, List, length, map}
use Rattle.std.specs.Prelude.{cond}
use Rattle.std.specs.Arc.{arc_value}
use Rattle.std.specs.List.{AllByRecursion}
use Rattle.std.specs.VecDeque.{deque_len}
use Rattle.pipeline_eval.specs.Keyed.{HasKey, document_of}
use Rattle.pipeline_eval.specs.Tops.{AreTop}
use Rattle.pipeline_eval.specs.declared.sorting.Keyed.{Keyed}
use Rattle.pipeline_eval.proofs.tops.kept_rows.Given as goal

abbrev pub invariant-rows : goal.invariant-rows
invariant-rows l = record {
  cut : cond l.top.is_cut l.count 0 ≤ length l.top.rows.items;
  seen : (seen : List Keyed) × (map document_of seen ++ map arc_value l.rest.items ≡ map arc_value l.initial.rest.items)
      × AllByRecursion (HasKey l.spec) seen × AreTop l.spec l.count l.top.is_cut seen l.top.rows.items;
}

abbrev pub decreases-rows : goal.decreases-rows
decreases-rows l = deque_len l.rest
