use Rattle.std.proofs.Common.{arith, rules, leb, sym, ap, refl, ◌∙◌, ◌≡◌, ◌<◌, None}
use Rattle.std.specs.Arc.{arc_value}
use Rattle.std.specs.Option.{option_map}
use Rattle.std.proofs.lemmas.List.Sorted.{IsPartitionPoint-from_clause, IsPartitionedBy-leb}
use Rattle.mvcc_collection.specs.declared.chain.Version.{Version}
use Rattle.mvcc_collection.specs.View.{dated}
use Rattle.mvcc_collection.proofs.Chains.{none_left, last_left, shown}
use Rattle.mvcc_collection.proofs.chain.document_among.Goals as goal

pub returns-then-place-eq0 : goal.returns-then-place-eq0
returns-then-place-eq0 c =
    let t = c.args.time.0 in
    let xs = c.args.versions.now in
    let d : Version = record { time = c.args.time; document = None } in
    let parted = IsPartitionedBy-leb (λ v. v.time.0) xs t c.requires in
    let point = IsPartitionPoint-from_clause (λ v. leb v.time.0 t) _ _ c.partition_point-place.ensures.partitioned parted (λ a r q k. search rules) in
    let first : c.partition_point-place.result ≡ 0 = omega (arith, c.if-place-eq0.true) in
    sym (none_left dated xs xs c.partition_point-place.result t d refl first point)

pub returns : goal.returns
returns c =
    let t = c.args.time.0 in
    let xs = c.args.versions.now in
    let parted = IsPartitionedBy-leb (λ v. v.time.0) xs t c.requires in
    let point = IsPartitionPoint-from_clause (λ v. leb v.time.0 t) _ _ c.partition_point-place.ensures.partitioned parted (λ a r q k. search rules) in
    let some : 0 < c.partition_point-place.result = omega (arith, c.if-place-eq0.false) in
    shown arc_value c.as_ref.result ∙ ap (option_map arc_value) c.as_ref.ensures.value
    ∙ sym (last_left dated xs xs c.partition_point-place.result t c.index-versions-place.result refl some c.partition_point-place.ensures.bound point)
