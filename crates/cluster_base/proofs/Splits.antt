-- A full name is cut at its first dot, since a database's name has none.
use Rattle.std.proofs.Common.{◌≡◌, ℕ, ◌+◌, ◌<◌, List, [], ◌∷◌, ◌++◌, length, take, drop, get_or, refl, sym, ◌∙◌, ap, subst, eqb, Bool, true, false, arith, length-append, add-one, IsTrue, ◌↔◌}
use Rattle.std.specs.List.{AllByRecursion, position_or_len, before_first, after_first}
use Rattle.std.proofs.lemmas.List.Sums.{split_at_first, passes_at_first}
use Rattle.base_model.specs.Names.{IsDatabaseByte, IsNamespace, MakeNamespace, full_name}

abbrev is_dot : ℕ → Bool
is_dot b = eqb b 46

dot_place : (database collection : List ℕ) → AllByRecursion IsDatabaseByte database → position_or_len is_dot (full_name database collection) ≡ length database
dot_place [] collection bytes = refl
dot_place (b ∷ database) collection bytes =
    let no_dot : eqb b 46 ≡ false = grind (arith, bytes.0.dot) in
    let rest : position_or_len is_dot (full_name database collection) ≡ length database = dot_place database collection bytes.1 in
    rw no_dot (omega (arith, rest))

prefix : (database collection : List ℕ) → take (length database) (full_name database collection) ≡ database
prefix [] collection = refl
prefix (b ∷ database) collection = ap (λ bs. b ∷ bs) (prefix database collection)

back : (database collection : List ℕ) → drop (length database + 1) (full_name database collection) ≡ collection
back [] collection = refl
back (b ∷ database) collection = rw add-one (let e = back database collection in rw add-one at e)

pub IsNamespace-joined : (text : List ℕ) → position_or_len is_dot text < length text → MakeNamespace (before_first is_dot text) (after_first is_dot text) → IsNamespace text
IsNamespace-joined text found made =
    let dot : eqb (get_or text (position_or_len is_dot text) 0) 46 ≡ true = passes_at_first is_dot text 0 found in
    let is_46 : get_or text (position_or_len is_dot text) 0 ≡ 46 = grind (arith, dot) in
    let whole : text ≡ full_name (before_first is_dot text) (after_first is_dot text) = split_at_first is_dot text 0 found ∙ ap (λ b. before_first is_dot text ++ (b ∷ after_first is_dot text)) is_46 in
    (before_first is_dot text, after_first is_dot text, whole, made)

pub record IsSplit (text : List ℕ) : Type 0 where
  pub found : position_or_len is_dot text < length text
  pub made : MakeNamespace (before_first is_dot text) (after_first is_dot text)

split : (database collection : List ℕ) → MakeNamespace database collection → IsSplit (full_name database collection)
split database collection made =
    let place : position_or_len is_dot (full_name database collection) ≡ length database = dot_place database collection made.database_name.bytes in
    let before : before_first is_dot (full_name database collection) ≡ database = rw place (prefix database collection) in
    let after : after_first is_dot (full_name database collection) ≡ collection = rw place (back database collection) in
    record {
      found = omega (arith, place, length-append database (46 ∷ collection));
      made = rw (before, after) made;
    }

pub IsNamespace-split : (text : List ℕ) → IsNamespace text → IsSplit text
IsNamespace-split text (database, collection, text_is, made) = subst IsSplit (sym text_is) (split database collection made)

-- what the test of the two parts says of the whole
pub cut_answer : (text database collection : List ℕ) (made : Bool) → database ≡ before_first is_dot text → collection ≡ after_first is_dot text → position_or_len is_dot text < length text → (IsTrue made ↔ MakeNamespace database collection) → (IsTrue made ↔ IsNamespace text)
cut_answer text database collection made database_is collection_is found answer =
    (λ yes. IsNamespace-joined text found (rw (← database_is, ← collection_is) (answer.0 yes)), λ n. answer.1 (rw (database_is, collection_is) (IsNamespace-split text n).made))

pub uncut_answer : (text : List ℕ) → position_or_len is_dot text ≡ length text → ¬ (IsNamespace text)
uncut_answer text none n = let found : position_or_len is_dot text < length text = (IsNamespace-split text n).found in absurd (omega (arith, found, none))
