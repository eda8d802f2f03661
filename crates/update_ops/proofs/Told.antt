-- The outcomes of statements: how many documents were changed, and the key of one that was upserted.
use Rattle.std.proofs.Common.{◌≡◌, ℕ, ◌≤◌, List, length, refl, sym, ap, subst, ◌∙◌, arith}
use Rattle.std.specs.Prelude.{◌↔◌, IsTrue, Bool, true, false, Some, Result, Ok, Err, if◌then◌else◌}
use Rattle.std.specs.Result.{is_ok}
use Rattle.std.specs.Str.{bytes_eq}
use Rattle.std.proofs.lemmas.Bool.{ltb-false}
use Rattle.bson_model.specs.Tree.{Datum, Fields}
use Rattle.bson_model.specs.Spelling.{written}
use Rattle.bson_values.specs.Sound.{AreFields}
use Rattle.bson_values.proofs.Spells.{written_spelled}
use Rattle.value_model.specs.Keys.{KeyFault, key_of, valid_key}
use Rattle.query_model.specs.Changes.{Change}
use Rattle.query_model.specs.Edits.{WriteFault, too_large_fault, ◌>>=◌, is_too_large, changed, changed_by}
use Rattle.query_model.specs.Effects.{updated}
use Rattle.query_model.proofs.EditOrder.{one_spelling}
use Rattle.query_model.proofs.KeysStay.{change_keeps_key}
use Rattle.query_model.proofs.KeysAsked.{valid_from}
use Rattle.query_model.proofs.Puts.{same_bytes, equal_itself}
use Rattle.bson_model.specs.Limits.{most_bytes_kept}
use Rattle.bson_model.proofs.Booleans.{neither}

small : (after : Fields) → is_too_large after ≡ false → length (written after) ≤ most_bytes_kept
small after h = ltb-false most_bytes_kept (length (written after)) (neither _ _ h)

-- documents with the same encoding, one of which is not too large
same_spelling : (before after : Fields) → AreFields before → AreFields after → is_too_large after ≡ false → bytes_eq (written before) (written after) ≡ true →
    after ≡ before
same_spelling before after first second large same =
    let short : length (written after) ≤ most_bytes_kept = small after large in
    let bytes : length (written before) ≡ length (written after) = ap (λ (bs : List ℕ). length bs) (same_bytes (written before) (written after) same) in
    sym (one_spelling before after (written_spelled before first (omega (arith, short, bytes))) (written_spelled after second (omega (arith, short))) same)

pub changed_count : (same : Bool) (before after : Fields) → AreFields before → AreFields after → is_too_large after ≡ false →
    (IsTrue same ↔ (after ≡ before)) → (if same then 0 else 1) ≡ (updated before after).modified
changed_count true before after first second large is =
    let one : bytes_eq (written before) (written after) ≡ true = ap (λ (x : Fields). bytes_eq (written before) (written x)) (is.0 refl) ∙ equal_itself (written before) in
    rw one refl
changed_count false before after first second large is = by_bytes (bytes_eq (written before) (written after)) refl
  where
    by_bytes : (t : Bool) → bytes_eq (written before) (written after) ≡ t → ◌≡◌ {A = ℕ} 1 (if t then 0 else 1)
    by_bytes true e = absurd (differ (is.1 (same_spelling before after first second large e)))
      where
        differ : false ≡ true → ⊥
        differ h = cc
    by_bytes false e = refl

fits : (large : Bool) (made after : Fields) → is_too_large made ≡ large → (if large then Err too_large_fault else Ok made) ≡ Ok after → is_too_large after ≡ false
fits true made after is e = absurd cc
fits false made after is e = let same : made ≡ after = cc in subst (λ (x : Fields). is_too_large x ≡ false) same is

judged : (made : Result Fields WriteFault) (after : Fields) → (made >>= λ x. if is_too_large x then Err too_large_fault else Ok x) ≡ Ok after → is_too_large after ≡ false
judged (Ok made) after e = fits (is_too_large made) made after refl e
judged (Err fault) after e = absurd cc

-- the result of a change is not too large
pub not_large : (change : Change) (before after : Fields) → changed change before ≡ Ok after → is_too_large after ≡ false
not_large change before after e = judged (changed_by change before) after e

-- ---- keys

pub key_is : (document : Fields) (key : Datum) → valid_key document ≡ Ok key → key_of document ≡ Some key
key_is document key e = (valid_from (key_of document) key e).0

pub never_faulty : (document : Fields) (fault : KeyFault) → is_ok (valid_key document) ≡ true → valid_key document ≡ Err fault → ⊥
never_faulty document fault ok e = differ (sym (ap is_ok e) ∙ ok)
  where
    differ : false ≡ true → ⊥
    differ h = cc

started : (change : Change) (start after : Fields) (found : Result Datum KeyFault) → valid_key start ≡ found → is_ok found ≡ true → changed change start ≡ Ok after →
    is_ok (valid_key after) ≡ true
started change start after (Ok key) is ok e = ap is_ok (change_keeps_key change start after key is e).1
started change start after (Err fault) is ok e = absurd cc

-- the result of a change of a document with a key has one
pub stays_keyed : (change : Change) (start after : Fields) → is_ok (valid_key start) ≡ true → changed change start ≡ Ok after → is_ok (valid_key after) ≡ true
stays_keyed change start after ok e = started change start after (valid_key start) refl ok e
