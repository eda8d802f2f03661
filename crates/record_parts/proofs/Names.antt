-- The test of a namespace passes just the full names of namespaces.
use Rattle.std.proofs.Common.{◌≡◌, ℕ, ◌+◌, ◌<◌, List, [], ◌∷◌, length, refl, ap, subst, ◌∙◌, Bool, true, false, ◌&&◌, eqb, arith}
use Rattle.std.specs.Prelude.{Option, Some, None, nat_le, nat_lt, if◌then◌else◌}
use Rattle.std.specs.List.{AllByRecursion}
use Rattle.std.specs.Str.{IsUtf8, is_utf8}
use Rattle.std.proofs.lemmas.Str.{IsUtf8-from_is_utf8, is_utf8-from_IsUtf8}
use Rattle.base_model.specs.Names.{IsDatabaseByte, MakeNamespace, IsNamespace, full_name, is_collection_name, is_database_name}
use Rattle.base_model.proofs.OpenNames.{collection_name, database_name, is_collection_name_of, is_database_name_of}
use Rattle.record_parts.specs.Readers.{◌>>=◌, cut_at_dot, make_name, are_names, is_name, name_in}
use Rattle.bson_model.proofs.Booleans.{both, is_false}

passes : (database collection : List ℕ) → MakeNamespace database collection → make_name database collection ≡ true
passes database collection made =
    let first : is_database_name database ≡ true = is_database_name_of database made.database_name in
    let second : is_collection_name collection ≡ true = is_collection_name_of collection made.collection_name in
    grind (arith, first, second, made.short)

made : (database collection : List ℕ) → make_name database collection ≡ true → MakeNamespace database collection
made database collection e =
    let a = both (is_database_name database && is_collection_name collection) (nat_le (length (full_name database collection)) 255) e in
    let b = both (is_database_name database) (is_collection_name collection) a.0 in
    record { database_name = database_name database b.0; collection_name = collection_name collection b.1; short = grind (arith, a.1) }

-- ---- a full name is cut at its first dot, since a database's name has none

cut_full : (database collection : List ℕ) → AllByRecursion IsDatabaseByte database → cut_at_dot (full_name database collection) ≡ Some (database, collection)
cut_full [] collection all = refl
cut_full (b ∷ database) collection all =
    let other : eqb b 46 ≡ false = grind (arith, all.0.dot) in
    rw (other, cut_full database collection all.1) refl

abbrev Parts : Type 0
Parts = List ℕ × List ℕ

some_is : (x y : Parts) → Path (Option Parts) (Some x) (Some y) → x ≡ y
some_is x y e = cc

-- one byte more
cut_more : (b : ℕ) (text : List ℕ) (x : Parts) (hit : Bool) (rest : Option Parts) → eqb b 46 ≡ hit → ((y : Parts) → rest ≡ Some y → text ≡ full_name y.0 y.1) → (if hit then Some ([], text) else (rest >>= λ y. Some (b ∷ y.0, y.1))) ≡ Some x → b ∷ text ≡ full_name x.0 x.1
cut_more b text x true rest is fact e =
    let dot : b ≡ 46 = grind (arith, is) in
    subst (λ (y : Parts). b ∷ text ≡ full_name y.0 y.1) (some_is ([], text) x e) (ap (λ (n : ℕ). n ∷ text) dot)
cut_more b text x false None is fact e = absurd (cc (e))
cut_more b text x false (Some y) is fact e =
    subst (λ (z : Parts). b ∷ text ≡ full_name z.0 z.1) (some_is (b ∷ y.0, y.1) x e) (ap (λ (t : List ℕ). b ∷ t) (fact y refl))

cut_is : (text : List ℕ) (x : Parts) → cut_at_dot text ≡ Some x → text ≡ full_name x.0 x.1
cut_is [] x e = absurd (cc (e))
cut_is (b ∷ text) x e = cut_more b text x (eqb b 46) (cut_at_dot text) refl (cut_is text) e

named : (text : List ℕ) → IsNamespace text → is_name text ≡ true
named text (database, collection, text_is, made_of) =
    ap is_name text_is ∙ ap are_names (cut_full database collection made_of.database_name.bytes) ∙ passes database collection made_of

by_cut : (text : List ℕ) (found : Option Parts) → cut_at_dot text ≡ found → are_names found ≡ true → IsNamespace text
by_cut text None e f = absurd (cc (f))
by_cut text (Some x) e f = (x.0, x.1, cut_is text x e, made x.0 x.1 f)

unnamed : (text : List ℕ) → ¬ (IsNamespace text) → is_name text ≡ false
unnamed text none = is_false (is_name text) (λ e. none (by_cut text (cut_at_dot text) refl e))

pub name_again : (name : List ℕ) → IsUtf8 name → IsNamespace name → name_in name ≡ Some name
unfolding name_in
name_again name text is = rw (is_utf8-from_IsUtf8 name text, named name is) refl

pub no_name : (name : List ℕ) → ¬ IsNamespace name → name_in name ≡ None
unfolding name_in
no_name name none = by_text (is_utf8 name)
  where
    by_text : (b : Bool) → (if b then (if is_name name then Some name else None) else None) ≡ None
    by_text true = rw (unnamed name none) refl
    by_text false = refl

pub no_text : (name : List ℕ) → ¬ IsUtf8 name → name_in name ≡ None
unfolding name_in
no_text name none = rw (is_false (is_utf8 name) (λ e. none (IsUtf8-from_is_utf8 name e))) refl

pub ruleset name_tests = (name_again, no_name, no_text)
