-- The first fault of a name, a part at a time.
use Rattle.std.proofs.Common.{◌≡◌, ℕ, ◌+◌, List, [], ◌∷◌, ◌++◌, length, refl, sym, ap, ◌∙◌, arith, append_assoc}
use Rattle.std.specs.Prelude.{Bool, Option, Some, None, Ok, Err, nat_lt, if◌then◌else◌, option_map}
use Rattle.std.specs.Result.{result_err}
use Rattle.std.proofs.lemmas.Bool.Decides.{nat_tests}
use Rattle.field_paths.specs.declared.path.PathFault.{PathFault}
use Rattle.field_paths.specs.declared.path.PathFault.TheVariants.{Long}
use Rattle.field_paths.specs.Faults.{shown_as}
use Rattle.query_model.specs.Paths as paths
use Rattle.query_model.proofs.Names.{checked}
use Rattle.query_model.specs.Paths.{Path, too_long, into_first, parts_of, part_fault, first_fault, read_path, IsPath}

-- a fault of the program is one of the definition
shown : (o : Option paths.PathFault) (e : PathFault) → Some e ≡ option_map shown_as o → (f : paths.PathFault) × (o ≡ Some f) × (e ≡ shown_as f)
shown None e h = absurd cc
shown (Some f) e h = (f, refl, cc)

not_shown : (o : Option paths.PathFault) → None ≡ option_map shown_as o → o ≡ None
not_shown None h = refl
not_shown (Some f) h = absurd cc

abbrev one_more : Option paths.PathFault → Path → Option paths.PathFault
one_more fault later = elim fault [ None ↦ first_fault later | Some f ↦ Some f ]

first_some : (fault : Option paths.PathFault) (later : Path) (f : paths.PathFault) → fault ≡ Some f → one_more fault later ≡ Some f
first_some None later f e = absurd cc
first_some (Some g) later f e = e

first_none : (fault : Option paths.PathFault) (later : Path) → fault ≡ None → one_more fault later ≡ first_fault later
first_none None later e = refl
first_none (Some g) later e = absurd cc

told_some : (fault : Option paths.PathFault) (long : Bool) (parts : Path) (f : paths.PathFault) → fault ≡ Some f →
    result_err (checked fault long parts) ≡ Some f
told_some None long parts f e = absurd cc
told_some (Some g) long parts f e = e

by_length : (dots n : ℕ) (parts : Path) → n ≡ dots + 1 →
    (if nat_lt dots 100 then None else Some Long) ≡ option_map shown_as (result_err (if nat_lt 100 n then Err too_long else Ok parts))
by_length dots n parts e = grind (arith, nat_tests)

told_none : (fault : Option paths.PathFault) (dots n : ℕ) (parts : Path) → fault ≡ None → n ≡ dots + 1 →
    (if nat_lt dots 100 then None else Some Long) ≡ option_map shown_as (result_err (checked fault (nat_lt 100 n) parts))
told_none None dots n parts e count = by_length dots n parts count
told_none (Some g) dots n parts e count = absurd cc

-- the first part has a fault
pub told_here : (name rest part : List ℕ) (later : Path) (e : PathFault) → Some e ≡ option_map shown_as (part_fault part) → parts_of rest ≡ part ∷ later →
    first_fault (parts_of rest) ≡ first_fault (parts_of name) → Some e ≡ option_map shown_as (result_err (read_path name))
told_here name rest part later e h split same =
    let f = shown (part_fault part) e h in
    let first : first_fault (parts_of name) ≡ Some f.0 = sym same ∙ ap first_fault split ∙ first_some (part_fault part) later f.0 f.1 in
    ap (λ (x : PathFault). Some x) f.2
    ∙ sym (ap (λ (o : Option paths.PathFault). option_map shown_as o) (told_some (first_fault (parts_of name)) (nat_lt 100 (length (parts_of name))) (parts_of name) f.0 first))

-- the first part has no fault
pub told_later : (rest part : List ℕ) (later : Path) → None ≡ option_map shown_as (part_fault part) → parts_of rest ≡ part ∷ later →
    first_fault (parts_of rest) ≡ first_fault later
told_later rest part later h split = ap first_fault split ∙ first_none (part_fault part) later (not_shown (part_fault part) h)

-- no part has a fault
pub told_length : (name rest : List ℕ) (dots : ℕ) → None ≡ option_map shown_as (part_fault rest) → parts_of rest ≡ rest ∷ [] →
    first_fault (parts_of rest) ≡ first_fault (parts_of name) → dots + length (parts_of rest) ≡ length (parts_of name) →
    (if nat_lt dots 100 then None else Some Long) ≡ option_map shown_as (result_err (read_path name))
told_length name rest dots h split same count =
    let none : first_fault (parts_of name) ≡ None = sym same ∙ told_later rest rest [] h split in
    let n : length (parts_of name) ≡ dots + 1 = omega (arith, ap (λ (p : Path). length p) split) in
    told_none (first_fault (parts_of name)) dots (length (parts_of name)) (parts_of name) none n

-- one more part is appended
pub grown : (parts now later whole : Path) (part rest : List ℕ) → now ≡ parts ++ part ∷ [] → parts_of rest ≡ part ∷ later →
    parts ++ parts_of rest ≡ whole → now ++ later ≡ whole
grown parts now later whole part rest put split so_far =
    ap (λ (p : Path). p ++ later) put ∙ append_assoc parts (part ∷ []) later ∙ ap (λ (p : Path). parts ++ p) (sym split) ∙ so_far

pub grown_last : (parts now whole : Path) (part : List ℕ) → now ≡ parts ++ part ∷ [] → parts_of part ≡ part ∷ [] → parts ++ parts_of part ≡ whole → now ≡ whole
grown_last parts now whole part put split so_far = put ∙ ap (λ (p : Path). parts ++ p) (sym split) ∙ so_far
