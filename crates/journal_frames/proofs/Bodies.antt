-- The length and the bytes of a record.
use Rattle.std.proofs.Common.{◌≡◌, ℕ, ◌+◌, ◌<◌, ◌≤◌, List, ◌∷◌, ◌++◌, length, take, refl, ◌∙◌, ap, arith, append_assoc, length-append}
use Rattle.std.proofs.lemmas.List.{take_at}
use Rattle.std.proofs.lemmas.Nat.{from_le_bytes-to_le_bytes_8}
use Rattle.std.specs.Int.{w64, to_le_bytes, from_le_bytes}
use Rattle.journal_frames.specs.Files.{BeginsRecord, body}

length_bytes : (n : ℕ) → length (to_le_bytes w64 n) ≡ 8
length_bytes n = refl

pub length-body : (bytes : List ℕ) → length (body bytes) ≡ 8 + length bytes
length-body bytes = length-append (to_le_bytes w64 (length bytes)) bytes

-- the length that bytes after an open gate state, and how many follow
stated : (rest : List ℕ) → (b : BeginsRecord rest) → (from_le_bytes w64 (take 8 rest) ≡ length b.bytes) × (length rest ≡ 9 + length b.bytes + length b.behind)
stated rest b =
    let whole : rest ≡ to_le_bytes w64 (length b.bytes) ++ (b.bytes ++ b.gate ∷ b.behind) = b.split ∙ append_assoc (to_le_bytes w64 (length b.bytes)) b.bytes (b.gate ∷ b.behind) in
    let prefix : take 8 rest ≡ to_le_bytes w64 (length b.bytes) = ap (λ (l : List ℕ). take 8 l) whole ∙ take_at (to_le_bytes w64 (length b.bytes)) (b.bytes ++ b.gate ∷ b.behind) 8 (length_bytes (length b.bytes)) in (
      ap (λ (l : List ℕ). from_le_bytes w64 l) prefix ∙ from_le_bytes-to_le_bytes_8 (length b.bytes) b.fits,
      ap length b.split ∙ omega (arith, length-append (body b.bytes) (b.gate ∷ b.behind), length-body b.bytes),
    )

pub no_record_short : (rest : List ℕ) → length rest < 9 → ¬ BeginsRecord rest
no_record_short rest short b = absurd (omega (arith, (stated rest b).1))

pub no_record_long : (rest : List ℕ) (n : ℕ) → n ≡ from_le_bytes w64 (take 8 rest) → length rest ≤ n + 8 → ¬ BeginsRecord rest
no_record_long rest n is long b = absurd (omega (arith, is, (stated rest b).0, (stated rest b).1))
