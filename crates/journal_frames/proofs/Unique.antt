-- A file has one reading.
use Rattle.std.proofs.Common.{◌≡◌, ⊎_elim, ℕ, ◌<◌, ◌^◌, List, [], ◌∷◌, ◌++◌, length, drop, refl, sym, ◌∙◌, ap, subst, arith, append_assoc, length-append}
use Rattle.std.proofs.lemmas.Nat.{from_le_bytes-to_le_bytes_8}
use Rattle.std.specs.Int.{w64, to_le_bytes, from_le_bytes}
use Rattle.journal_frames.specs.Files.{BeginsRecord, Fit, IsDamaged, IsShut, Stands, blocks, body}
use Rattle.bson_model.proofs.Parts.{same_prefix}

-- an open gate, a record and the bytes from the next gate on
record Begins (file : List ℕ) : Type 0 where
  pub bytes : List ℕ
  pub behind : List ℕ
  pub fits : length bytes < 2 ^ 64
  pub some : 0 < length behind
  pub split : file ≡ 1 ∷ (body bytes ++ behind)

one_body : (r t x y : List ℕ) → length r < 2 ^ 64 → length t < 2 ^ 64 → body r ++ x ≡ body t ++ y → (r ≡ t) × (x ≡ y)
one_body r t x y fits fit is =
    let whole : to_le_bytes w64 (length r) ++ (r ++ x) ≡ to_le_bytes w64 (length t) ++ (t ++ y) =
    sym (append_assoc (to_le_bytes w64 (length r)) r x) ∙ is ∙ append_assoc (to_le_bytes w64 (length t)) t y in
    let parts = same_prefix (to_le_bytes w64 (length r)) (to_le_bytes w64 (length t)) (r ++ x) (t ++ y) refl whole in
    let len : length r ≡ length t = sym (from_le_bytes-to_le_bytes_8 (length r) fits) ∙ ap (λ (l : List ℕ). from_le_bytes w64 l) parts.0 ∙ from_le_bytes-to_le_bytes_8 (length t) fit in
    same_prefix r t x y len parts.1

-- records up to bytes that begin with none
one_split : (rs ts : List (List ℕ)) (x y : List ℕ) → Fit rs → Fit ts → 0 < length x → 0 < length y → ¬ Begins x → ¬ Begins y → blocks rs ++ x ≡ blocks ts ++ y → (rs ≡ ts) × (x ≡ y)
one_split [] [] x y fits fit some more stops ends is = (refl, is)
one_split [] (t ∷ ts) x y fits fit some more stops ends is = absurd (stops (record {
  bytes = t;
  behind = blocks ts ++ y;
  fits = fit.0;
  some = omega (arith, more, length-append (blocks ts) y);
  split = is ∙ ap (λ (l : List ℕ). 1 ∷ l) (append_assoc (body t) (blocks ts) y);
}))
one_split (r ∷ rs) [] x y fits fit some more stops ends is = absurd (ends (record {
  bytes = r;
  behind = blocks rs ++ x;
  fits = fits.0;
  some = omega (arith, some, length-append (blocks rs) x);
  split = sym is ∙ ap (λ (l : List ℕ). 1 ∷ l) (append_assoc (body r) (blocks rs) x);
}))
one_split (r ∷ rs) (t ∷ ts) x y fits fit some more stops ends is =
    let tails : body r ++ (blocks rs ++ x) ≡ body t ++ (blocks ts ++ y) =
    sym (append_assoc (body r) (blocks rs) x) ∙ ap (λ (l : List ℕ). drop 1 l) is ∙ append_assoc (body t) (blocks ts) y in
    let first = one_body r t (blocks rs ++ x) (blocks ts ++ y) fits.0 fit.0 tails in
    let others = one_split rs ts x y fits.1 fit.1 some more stops ends first.1 in
    (ap (λ (l : List ℕ). l ∷ rs) first.0 ∙ ap (λ (l : List (List ℕ)). t ∷ l) others.0, others.1)

shut_some : (x : List ℕ) → IsShut x → 0 < length x
shut_some [] shut = absurd shut
shut_some (gate ∷ x) shut = omega arith

shut_stops : (x : List ℕ) → IsShut x → ¬ Begins x
shut_stops [] shut begins = absurd shut
shut_stops (gate ∷ []) shut begins = absurd (omega (arith, ap length begins.split, length-append (body begins.bytes) begins.behind, begins.some))
shut_stops (gate ∷ b ∷ x) shut begins = absurd (shut (first_is gate 1 (b ∷ x) (body begins.bytes ++ begins.behind) begins.split))
  where
    first_is : (a b : ℕ) (x y : List ℕ) → a ∷ x ≡ b ∷ y → a ≡ b
    first_is a b x y is = cc

begins_record : (rest bytes behind : List ℕ) → length bytes < 2 ^ 64 → 0 < length behind → rest ≡ body bytes ++ behind → BeginsRecord rest
begins_record rest bytes [] fits some is = absurd (omega (arith, some))
begins_record rest bytes (gate ∷ behind) fits some is = record { bytes = bytes; gate = gate; behind = behind; fits = fits; split = is }

open_stops : (gate : ℕ) (rest : List ℕ) → ¬ BeginsRecord rest → ¬ Begins (gate ∷ rest)
open_stops gate rest no_record begins = no_record (begins_record rest begins.bytes begins.behind begins.fits begins.some (ap (λ (l : List ℕ). drop 1 l) begins.split))

pub shut_rest : (file : List ℕ) (records : List (List ℕ)) → (s : Stands file records) → 0 < length file → IsShut s.rest
shut_rest file records s some = ⊎_elim (λ shut. shut) (λ empty. absurd (omega (arith, some, ap length empty))) s.shut

-- the records of a file are determined
pub one_list : (file : List ℕ) (records others : List (List ℕ)) → Stands file records → Stands file others → records ≡ others
one_list [] records others s t = none records s.rest s.split ∙ sym (none others t.rest t.split)
  where
    none : (records : List (List ℕ)) (rest : List ℕ) → [] ≡ blocks records ++ rest → records ≡ []
    none [] rest is = refl
    none (r ∷ records) rest is = absurd (omega (arith, ap length is))
one_list (b ∷ file) records others s t =
    let shut = shut_rest (b ∷ file) records s (omega arith) in
    let closed = shut_rest (b ∷ file) others t (omega arith) in
    (one_split records others s.rest t.rest s.fits t.fits (shut_some s.rest shut) (shut_some t.rest closed) (shut_stops s.rest shut) (shut_stops t.rest closed) (sym s.split ∙ t.split)).0

-- the place of damage is determined
pub one_offset : (file : List ℕ) (offset other : ℕ) → IsDamaged file offset → IsDamaged file other → offset ≡ other
one_offset file offset other s t =
    let one = one_split s.records t.records (s.gate ∷ s.rest) (t.gate ∷ t.rest) s.fits t.fits (omega arith) (omega arith) (open_stops s.gate s.rest s.no_record) (open_stops t.gate t.rest t.no_record) (sym s.split ∙ t.split) in
    s.at ∙ ap (λ (l : List (List ℕ)). length (blocks l)) one.0 ∙ sym t.at

-- a file is not damaged where records are in it
pub not_both : (file : List ℕ) (records : List (List ℕ)) (offset : ℕ) → Stands file records → IsDamaged file offset → ⊥
not_both file records offset s t =
    let shut = shut_rest file records s (omega (arith, ap length t.split, length-append (blocks t.records) (t.gate ∷ t.rest))) in
    let one = one_split records t.records s.rest (t.gate ∷ t.rest) s.fits t.fits (shut_some s.rest shut) (omega arith) (shut_stops s.rest shut) (open_stops t.gate t.rest t.no_record) (sym s.split ∙ t.split) in
    t.open_gate (subst IsShut one.1 shut)
