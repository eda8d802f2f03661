use Rattle.std.proofs.Common.{◌≡◌, ◌∷◌, ◌∙◌, [], ℕ, List, length, map, ap, sym, arith}
use Rattle.std.specs.Prelude.{◌-◌}
use Rattle.std.proofs.lemmas.List.{map_push}
use Rattle.std.proofs.lemmas.Result.{err_from_is_err_and}
use Rattle.std.specs.Vec.Iter.{into_iter_items}
use Rattle.any_node.specs.Kinds.{state_of, steps_of}
use Rattle.any_node.specs.declared.AnyNode.{AnyNode}
use Rattle.node_open.proofs.Opened.{all_with, none_left, up_to_end, up_to_fault, up_to_next, up_to_start}
use Rattle.node_open.proofs.nodes.open_nodes.Goals as goal

pub loop-records-init : goal.loop-records-init
loop-records-init c =
    let all : into_iter_items c.into_iter-records-iterator.result ≡ c.args.found.items = c.into_iter-records-iterator.ensures.into_iter_gives.0 in
    let none : c.in_ok-nodes.nodes.items ≡ [] = c.in_ok-nodes.ensures.none in
    let length_of_all = ap (λ (l : List (List (List ℕ))). length l) all in
    let length_of_none = ap (λ (l : List AnyNode). length l) none in
    record {
      so_far = rw (all, none) (up_to_start (c.args.shards - 1) c.args.found.items);
      new = rw none tt;
      count = omega (arith, length_of_all, c.args.found.ok);
      len = omega (arith, length_of_none, c.in_ok-nodes.nodes.ok);
      some = c.requires.some;
      few = c.requires.few;
      room = omega (arith, c.in_ok-nodes.ensures.room, c.len.ensures);
      left = c.into_iter-records-iterator.ensures.into_iter_gives.1 ∙ omega (arith, length_of_all, c.args.found.ok);
    }

pub push_reserved-requires : goal.push_reserved-requires
push_reserved-requires c =
    let first : into_iter_items c.loop-records.records-iterator ≡ c.in-Some.records ∷ (into_iter_items c.next.new.self) = c.in-Some.ensures.steps.0 in
    let short = ap (λ (l : List (List (List ℕ))). length l) first in
    let so_far = c.loop-records.invariant in
    omega (arith, short, so_far.count, so_far.len, so_far.room)

pub loop-records-preserved : goal.loop-records-preserved
loop-records-preserved c =
    let first : into_iter_items c.loop-records.records-iterator ≡ c.in-Some.records ∷ (into_iter_items c.next.new.self) = c.in-Some.ensures.steps.0 in
    let short = ap (λ (l : List (List (List ℕ))). length l) first in
    let node = c.in_ok-open_node.field-0 in
    let before = c.loop-records.nodes.items in
    record {
      so_far = rw (c.push_reserved.ensures.items, map_push state_of before node)
          (up_to_next (c.args.shards - 1) c.args.found.items (into_iter_items c.next.new.self) c.loop-records.me (map state_of before) c.in-Some.records
          (state_of node)
          (rw first at c.loop-records.invariant.so_far) c.in_ok-open_node.ensures.opened);
      new = rw c.push_reserved.ensures.items (all_with (λ n. steps_of n ≡ 0) before node c.loop-records.invariant.new c.in_ok-open_node.ensures.new);
      count = omega (arith, short, c.loop-records.invariant.count);
      len = omega (arith, c.loop-records.invariant.len, c.push_reserved.ensures.len);
      some = c.loop-records.invariant.some;
      few = c.loop-records.invariant.few;
      room = omega (arith, c.loop-records.invariant.room, c.push_reserved.ensures.capacity);
      left = omega (arith, short, c.loop-records.invariant.left, c.in-Some.ensures.steps.1);
    }

pub returns-in_err-open_node-clause-fault : goal.returns-in_err-open_node-clause-fault
returns-in_err-open_node-clause-fault c =
    let first : into_iter_items c.loop-records.records-iterator ≡ c.in-Some.records ∷ (into_iter_items c.next.new.self) = c.in-Some.ensures.steps.0 in
    let p = err_from_is_err_and c.from_residual-in_err-open_node.result c.from_residual-in_err-open_node.ensures.1 in
    rw (p.1, p.2)
    (up_to_fault (c.args.shards - 1) c.args.found.items (into_iter_items c.next.new.self) c.loop-records.me
    (map state_of c.loop-records.nodes.items) c.in-Some.records _
    (rw first at c.loop-records.invariant.so_far) c.in_err-open_node.ensures.fault)

pub returns-clause-opened : goal.returns-clause-opened
returns-clause-opened c =
    let left = into_iter_items c.loop-records.records-iterator in
    up_to_end (c.args.shards - 1) c.args.found.items left c.loop-records.me (map state_of c.loop-records.nodes.items) c.loop-records.invariant.so_far
    (none_left left (sym c.loop-records.invariant.left ∙ c.in-None.ensures.steps.0))

pub returns-clause-len : goal.returns-clause-len
returns-clause-len c =
    let so_far = c.loop-records.invariant in
    omega (arith, so_far.count, so_far.len, so_far.left, c.in-None.ensures.steps.0)
