-- The parts of a name: with a dot between each two they are the name, and they are read from the left.
use Rattle.std.proofs.Common.{◌≡◌, ◌≢◌, ℕ, suc, ◌<◌, List, [], ◌∷◌, ◌++◌, length, get_or, refl, sym, ap, ◌∙◌, arith, ne_eqb}
use Rattle.std.specs.Prelude.{Bool, true, false, Option, Some, None, Result, Ok, Err, nat_lt, ◌==◌, if◌then◌else◌}
use Rattle.std.specs.List.{join_with_byte}
use Rattle.std.proofs.lemmas.Bool.{eqb-true}
use Rattle.query_model.specs.Paths.{PathFault, too_long, Path, into_first, parts_of, first_fault, read_path, IsPath}

some_into : (b : ℕ) (p : Path) → 0 < length (into_first b p)
some_into b [] = omega arith
some_into b (part ∷ parts) = omega arith

some_next : (is_dot : Bool) (b : ℕ) (p : Path) → 0 < length (if is_dot then [] ∷ p else into_first b p)
some_next true b p = omega arith
some_next false b p = some_into b p

pub some_part : (name : List ℕ) → 0 < length (parts_of name)
some_part [] = omega arith
some_part (b ∷ name) = some_next (b == 46) b (parts_of name)

joined_into : (b : ℕ) (p : Path) → 0 < length p → join_with_byte 46 (into_first b p) ≡ b ∷ join_with_byte 46 p
joined_into b [] h = absurd (omega arith)
joined_into b (part ∷ []) h = refl
joined_into b (part ∷ next ∷ parts) h = refl

joined_empty : (p : Path) → 0 < length p → join_with_byte 46 ([] ∷ p) ≡ 46 ∷ join_with_byte 46 p
joined_empty [] h = absurd (omega arith)
joined_empty (part ∷ parts) h = refl

joined_next : (is_dot : Bool) (b : ℕ) (p : Path) → (is_dot ≡ true → b ≡ 46) → 0 < length p →
    join_with_byte 46 (if is_dot then [] ∷ p else into_first b p) ≡ b ∷ join_with_byte 46 p
joined_next true b p dot h = joined_empty p h ∙ ap (λ (c : ℕ). c ∷ join_with_byte 46 p) (sym (dot refl))
joined_next false b p dot h = joined_into b p h

pub joined_parts : (name : List ℕ) → join_with_byte 46 (parts_of name) ≡ name
joined_parts [] = refl
joined_parts (b ∷ name) = joined_next (b == 46) b (parts_of name) (λ e. eqb-true b 46 e) (some_part name) ∙ ap (λ (rest : List ℕ). b ∷ rest) (joined_parts name)

-- the bytes lack a dot
abbrev pub LacksDot : List ℕ → Type 0
LacksDot xs = (i : ℕ) → i < length xs → get_or xs i 0 ≢ 46

-- a part, and what comes after its dot
pub parts_around : (part rest : List ℕ) → LacksDot part → parts_of (part ++ 46 ∷ rest) ≡ part ∷ parts_of rest
parts_around [] rest h = refl
parts_around (b ∷ part) rest h =
    rw (ne_eqb b 46 (h 0 (omega arith))) (ap (λ (p : Path). into_first b p) (parts_around part rest (λ i less. h (suc i) (omega arith))))

-- the last part
pub one_part : (part : List ℕ) → LacksDot part → parts_of part ≡ part ∷ []
one_part [] h = refl
one_part (b ∷ part) h = rw (ne_eqb b 46 (h 0 (omega arith))) (ap (λ (p : Path). into_first b p) (one_part part (λ i less. h (suc i) (omega arith))))

-- what is read, by the fault of the parts and whether there are too many
abbrev pub checked : Option PathFault → Bool → Path → Result Path PathFault
checked fault long parts = elim fault [ None ↦ if long then Err too_long else Ok parts | Some f ↦ Err f ]

checked_is : (fault : Option PathFault) (long : Bool) (parts path : Path) → checked fault long parts ≡ Ok path → parts ≡ path
checked_is None true parts path e = absurd cc
checked_is None false parts path e = cc
checked_is (Some f) long parts path e = absurd cc

-- what is read is the parts
pub read_is : (name : List ℕ) (path : Path) → read_path name ≡ Ok path → parts_of name ≡ path
read_is name path e = checked_is (first_fault (parts_of name)) (nat_lt 100 (length (parts_of name))) (parts_of name) path e

some_of : (p q : Path) → p ≡ q → 0 < length p → 0 < length q
some_of p q e h = omega (arith, ap (λ (x : Path). length x) e)

pub path_not_empty : (path : Path) → IsPath path → 0 < length path
path_not_empty path h = some_of (parts_of h.0) path (read_is h.0 path h.1) (some_part h.0)

pub name_of_path : (name : List ℕ) (path : Path) → read_path name ≡ Ok path → join_with_byte 46 path ≡ name
name_of_path name path e = ap (λ (p : Path). join_with_byte 46 p) (sym (read_is name path e)) ∙ joined_parts name
