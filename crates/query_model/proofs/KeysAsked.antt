-- Which keys documents have, and where they find them.
use Rattle.std.proofs.Common.{◌≡◌, ℕ, List, [], ◌∷◌, refl, sym, ap, ◌∙◌}
use Rattle.std.specs.Prelude.{Bool, true, false, Option, Some, None, Result, Ok, Err, if◌then◌else◌, codes}
use Rattle.std.specs.Result.{result_ok}
use Rattle.std.proofs.lemmas.Slice.Eq.{bytes_eq-Decides}
use Rattle.bson_model.specs.Tree.{Datum, array_value, Fields, get}
use Rattle.value_model.specs.Keys.{is_key, key_of, KeyFault, absent_key, wrong_kind, valid_key}
use Rattle.query_model.specs.Paths.{Path, elements_of}
use Rattle.query_model.specs.Holds.{found_at, alone}
use Rattle.query_model.specs.Writes.{Write, insert_write, update_write, delete_write}
use Rattle.query_model.specs.Effects.{write_key}
use Rattle.query_model.specs.KeySpans.{is_id, key_asked}

abbrev pub kept : Datum → Bool → Result Datum KeyFault
kept d keeps = if keeps then Ok d else Err wrong_kind

abbrev pub valid : Option Datum → Result Datum KeyFault
valid found = elim found [ None ↦ Err absent_key | Some d ↦ if is_key d then Ok d else Err wrong_kind ]

kept_key : (d key : Datum) (keeps : Bool) → is_key d ≡ keeps → kept d keeps ≡ Ok key → (Some d ≡ Some key) × (is_key key ≡ true)
kept_key d key true keeps e =
    let same : d ≡ key = cc in
    (ap (λ (x : Datum). Some x) same, ap is_key (sym same) ∙ keeps)
kept_key d key false keeps e = absurd cc

pub valid_from : (found : Option Datum) (key : Datum) → valid found ≡ Ok key → (found ≡ Some key) × (is_key key ≡ true)
valid_from None key e = absurd cc
valid_from (Some d) key e = kept_key d key (is_key d) refl e

valid_is_key : (document : Fields) (key : Datum) (found : Result Datum KeyFault) → valid_key document ≡ found → result_ok found ≡ Some key → is_key key ≡ true
valid_is_key document key (Ok own) is e = let same : own ≡ key = cc in ap is_key (sym same) ∙ (valid_from (key_of document) own is).1
valid_is_key document key (Err fault) is e = absurd (cc)

pub asked_is_key : (found : Option Datum) (key : Datum) → elim found as (λ o. Option Datum) [ None ↦ None | Some x ↦ if is_key x then Some x else None ]
    ≡ Some key → is_key key ≡ true
asked_is_key None key e = absurd (cc)
asked_is_key (Some x) key e = by_test (is_key x) refl e
  where
    by_test : (b : Bool) → is_key x ≡ b → (if b then Some x else None) ≡ Some key → is_key key ≡ true
    by_test true is e = let same : x ≡ key = cc in ap is_key (sym same) ∙ is
    by_test false is e = absurd (cc)

-- what a change writes under is a key
pub write_is_key : (write : Write) (key : Datum) → write_key write ≡ Some key → is_key key ≡ true
write_is_key (insert_write document) key e = valid_is_key document key (valid_key document) refl e
write_is_key (update_write asked change start) key e = asked_is_key (key_asked asked) key e
write_is_key (delete_write asked) key e = asked_is_key (key_asked asked) key e

no_elements : (key : Datum) → is_key key ≡ true → elements_of key ≡ []
no_elements (array_value ds) e = absurd cc
no_elements key e = refl

-- at `_id` there is the key alone
pub found_key : (document : Fields) (key : Datum) → get (codes "_id") document ≡ Some key → is_key key ≡ true → found_at (codes "_id" ∷ []) document ≡ alone key
found_key document key e k = rw (e, no_elements key k) refl

pub id_path : (path : Path) → is_id path ≡ true → path ≡ codes "_id" ∷ []
id_path [] e = absurd cc
id_path (part ∷ []) e = ap (λ (p : List ℕ). p ∷ []) ((bytes_eq-Decides part (codes "_id")).0 e)
id_path (part ∷ other ∷ parts) e = absurd cc
