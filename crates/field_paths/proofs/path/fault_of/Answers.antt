use Rattle.std.proofs.Common.{◌≡◌, ℕ, List, [], ◌∷◌, length, length-append, arith, ap, sym, ◌∙◌, rules}
use Rattle.std.proofs.lemmas.Str.Pattern.{split_parts}
use Rattle.query_model.specs.Paths.{Path, parts_of}
use Rattle.query_model.proofs.Names.{parts_around, one_part}
use Rattle.field_paths.proofs.Parts.{told_here, told_later, told_length}
use Rattle.field_paths.proofs.path.fault_of.Goals as goal

pub returns-in-Some-part_fault : goal.returns-in-Some-part_fault
returns-in-Some-part_fault c =
    let l = c.parts in
    let cut = rw c.in-Some.is at (split_parts 46 l.rest.now c.split_once.result c.split_once.ensures.cases (omega arith)) in
    told_here c.args.name.now l.rest.now c.in-Some.part.now (parts_of c.in-Some.others.now) c.in-Some-part_fault.fault c.in-Some-part_fault.ensures
    (ap parts_of cut.0 ∙ parts_around c.in-Some.part.now c.in-Some.others.now cut.1) l.invariant.fault

pub parts-preserved : goal.parts-preserved
parts-preserved c =
    let l = c.parts in
    let cut = rw c.in-Some.is at (split_parts 46 l.rest.now c.split_once.result c.split_once.ensures.cases (omega arith)) in
    let split : parts_of l.rest.now ≡ c.in-Some.part.now ∷ parts_of c.in-Some.others.now =
    ap parts_of cut.0 ∙ parts_around c.in-Some.part.now c.in-Some.others.now cut.1 in
    let later = told_later l.rest.now c.in-Some.part.now (parts_of c.in-Some.others.now) c.in_default-part_fault.ensures split in
    record {
      text = search rules;
      fault = sym later ∙ l.invariant.fault;
      count = omega (arith, ap (λ (p : Path). length p) split);
      room = omega (arith, length-append {A = ℕ}, ap (λ (x : List ℕ). length x) cut.0);
    }

pub returns-in-Some-part_fault-2 : goal.returns-in-Some-part_fault-2
returns-in-Some-part_fault-2 c =
    let l = c.parts in
    let none = rw c.in_default.is at (split_parts 46 l.rest.now c.split_once.result c.split_once.ensures.cases (omega arith)) in
    told_here c.args.name.now l.rest.now l.rest.now [] c.in-Some-part_fault-2.fault c.in-Some-part_fault-2.ensures (one_part l.rest.now none) l.invariant.fault

pub returns-in-None : goal.returns-in-None
returns-in-None c =
    let l = c.parts in
    let none = rw c.in_default.is at (split_parts 46 l.rest.now c.split_once.result c.split_once.ensures.cases (omega arith)) in
    c.length_fault.ensures ∙ told_length c.args.name.now l.rest.now l.dots c.in-None.ensures (one_part l.rest.now none) l.invariant.fault l.invariant.count
