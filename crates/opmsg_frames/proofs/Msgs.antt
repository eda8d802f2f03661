-- A whole message of OP_MSG without a fault.
use Rattle.std.proofs.Common.{◌≡◌, ℕ, ◌+◌, ◌≤◌, ◌⊎◌, inl, inr, Bool, true, false, Option, Some, None, List, ◌++◌, length, drop, refl, ap, ◌∙◌, arith, length-drop}
use Rattle.std.specs.Prelude.{◌||◌, ◌==◌, nat_lt, if◌then◌else◌}
use Rattle.std.specs.Int.{w32, cast_signed}
use Rattle.std.specs.List.{flat_map}
use Rattle.std.proofs.lemmas.Bool.Decides.{nat_tests}
use Rattle.opmsg_model.specs.Messages.{int32, header, number_at, opcode, op_msg, most_bytes}
use Rattle.opmsg_model.specs.Sections.{Section, section_bytes}
use Rattle.opmsg_model.specs.Requests.{msg_form, Body, IsMsg, is_more, low_flags}
use Rattle.opmsg_model.specs.Outline.{FrameFault, bad_flags, msg_fault, sections_fault, takes_flags}
use Rattle.opmsg_frames.proofs.Bytes.{number_fits, number_prefix}
use Rattle.bson_values.proofs.Leaves.{AreBytes-drop}
use Rattle.bson_model.specs.Grammar.{AreBytes}
use Rattle.opmsg_frames.proofs.Spellings.{sections_exist}

-- its flags are allowed, and its sections are valid
flags_and_sections : (short taken : Bool) (sections : Option FrameFault) → (if short then Some bad_flags else if taken then sections else Some bad_flags) ≡ None → (taken ≡ true) × (sections ≡ None)
flags_and_sections true taken sections e = absurd (let q : Some bad_flags ≡ None = e in cc)
flags_and_sections false false sections e = absurd (let q : Some bad_flags ≡ None = e in cc)
flags_and_sections false true sections e = (refl, e)

either : (low : ℕ) (a b : Bool) → (low == 0) ≡ a → (low == 2) ≡ b → (a || b) ≡ true → (low ≡ 0) ⊎ (low ≡ 2)
either low true b p q e = inl (grind (arith, nat_tests))
either low false true p q e = inr (grind (arith, nat_tests))
either low false false p q e = absurd (let r : false ≡ true = e in cc)

taken_flags : (low : ℕ) → ((low == 0) || (low == 2)) ≡ true → (low ≡ 0) ⊎ (low ≡ 2)
taken_flags low e = either low (low == 0) (low == 2) refl refl e

-- header, flags and sections, one after the other
joins : (b₀ b₄ b₈ b₁₂ b₁₆ s : List ℕ) (n i a c f : ℕ) → b₀ ≡ int32 n ++ b₄ → b₄ ≡ int32 i ++ b₈ → b₈ ≡ int32 a ++ b₁₂ → b₁₂ ≡ int32 c ++ b₁₆ → b₁₆ ≡ int32 f ++ s → b₀ ≡ header n i a c ++ (int32 f ++ s)
joins b₀ b₄ b₈ b₁₂ b₁₆ s n i a c f p q r t u = rw (p, q, r, t, u) refl

pub is_msg : (bytes : List ℕ) → AreBytes bytes → 20 ≤ length bytes → length bytes ≤ most_bytes → number_at 0 bytes ≡ length bytes → opcode bytes ≡ op_msg → msg_fault bytes ≡ None
    → (sections : List Section) × (drop 20 bytes ≡ flat_map section_bytes sections) × ((body : Body) → IsMsg (record { id = cast_signed w32 (number_at 4 bytes); more = is_more (number_at 16 bytes); form = msg_form; body = body; bytes = bytes }) sections)
is_msg bytes are least most stated code sound =
    let f = flags_and_sections (nat_lt (length bytes) 20) (takes_flags (number_at 16 bytes)) (sections_fault (length bytes) 0 false (drop 20 bytes)) sound in
    let x = sections_exist (length bytes) 0 false (drop 20 bytes) (AreBytes-drop 20 bytes are) f.1 in
    let size : number_at 0 bytes ≡ length (flat_map section_bytes x.sections) + 20 = stated ∙ omega (arith, length-drop 20 bytes, ap (λ (l : List ℕ). length l) x.split, least) in (
      x.sections,
      x.split,
      λ body. record {
        number = number_at 4 bytes;
        answers = number_at 8 bytes;
        flags = number_at 16 bytes;
        number_fits = number_fits 4 bytes are;
        answers_fit = number_fits 8 bytes are;
        flags_fit = number_fits 16 bytes are;
        whole = joins bytes (drop 4 bytes) (drop 8 bytes) (drop 12 bytes) (drop 16 bytes) (flat_map section_bytes x.sections) (length (flat_map section_bytes x.sections) + 20) (number_at 4 bytes) (number_at 8 bytes) op_msg (number_at 16 bytes)
            (number_prefix 0 bytes are (omega (arith, least)) ∙ ap (λ (n : ℕ). int32 n ++ drop 4 bytes) size)
            (number_prefix 4 bytes are (omega (arith, least)))
            (number_prefix 8 bytes are (omega (arith, least)))
            (number_prefix 12 bytes are (omega (arith, least)) ∙ ap (λ (n : ℕ). int32 n ++ drop 16 bytes) code)
            (number_prefix 16 bytes are (omega (arith, least)) ∙ ap (λ (l : List ℕ). int32 (number_at 16 bytes) ++ l) x.split);
        most = most;
        id = refl;
        taken = taken_flags (low_flags (number_at 16 bytes)) f.0;
        more = refl;
        each = x.each;
        one = omega (arith, x.one);
      },
    )
