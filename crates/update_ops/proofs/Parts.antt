-- The parts of a name without 00 have no 00.
use Rattle.std.proofs.Common.{◌≡◌, ◌≢◌, ℕ, ◌<◌, List, [], ◌∷◌, length, get_or, arith, ap, subst, suc, zero}
use Rattle.std.specs.Prelude.{Bool, true, false, Result, Ok, Err, ◌==◌, if◌then◌else◌}
use Rattle.std.specs.List.{AllByRecursion}
use Rattle.std.specs.Result.{result_map_both}
use Rattle.bson_model.specs.Grammar.{HasNoZero}
use Rattle.bson_values.specs.Names.{has_no_zero}
use Rattle.bson_values.proofs.NameTests.{test-from_HasNoZero}
use Rattle.query_model.specs.Paths.{Path, PathFault, into_first, parts_of, read_path}
use Rattle.query_model.specs.Queries.{path_fault}
use Rattle.query_model.proofs.Names.{read_is}

abbrev pub HaveNoZero : Path → Type 0
HaveNoZero path = AllByRecursion (λ part. HasNoZero part) path

into : (b : ℕ) (p : Path) → b ≢ 0 → HaveNoZero p → HaveNoZero (into_first b p)
into b [] some all = ((some, tt), tt)
into b (part ∷ parts) some all = ((some, all.0), all.1)

next : (is_dot : Bool) (b : ℕ) (p : Path) → b ≢ 0 → HaveNoZero p → HaveNoZero (if is_dot then [] ∷ p else into_first b p)
next true b p some all = (tt, all)
next false b p some all = into b p some all

parts_no_zero : (name : List ℕ) → HasNoZero name → HaveNoZero (parts_of name)
parts_no_zero [] all = (tt, tt)
parts_no_zero (b ∷ name) all = next (b == 46) b (parts_of name) all.0 (parts_no_zero name all.1)

found : (read : Result Path PathFault) (path : Path) → result_map_both (λ (p : Path). p) path_fault read ≡ Ok path → read ≡ Ok path
found (Ok p) path e = let same : p ≡ path = cc in ap (λ (x : Path). Ok x) same
found (Err fault) path e = absurd cc

pub read_no_zero : (name : List ℕ) (path : Path) → result_map_both (λ (p : Path). p) path_fault (read_path name) ≡ Ok path → HasNoZero name → HaveNoZero path
read_no_zero name path e all =
    subst (λ (p : Path). HaveNoZero p) (read_is name path (found (read_path name) path e)) (parts_no_zero name all)

pub part_no_zero : (path : Path) (i : ℕ) (part : List ℕ) → HaveNoZero path → i < length path → part ≡ get_or path i part → has_no_zero part ≡ true
part_no_zero [] i part all less is = absurd (omega arith)
part_no_zero (first ∷ path) zero part all less is = rw is (test-from_HasNoZero first all.0)
part_no_zero (first ∷ path) (suc i) part all less is = part_no_zero path i part all.1 (omega arith) is
