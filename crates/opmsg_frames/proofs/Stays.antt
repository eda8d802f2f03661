-- An outline that is not partial does not change as bytes are added.
use Rattle.std.proofs.Common.{◌≡◌, ℕ, ◌+◌, ◌<◌, ◌≤◌, ◌⊎◌, inl, inr, Bool, true, false, Option, Some, None, List, ◌++◌, length, take, drop, refl, sym, ap, ◌∙◌, arith, length-append, length-drop}
use Rattle.std.specs.Prelude.{◌||◌, ◌==◌, ◌^◌, nat_lt, nat_le, if◌then◌else◌}
use Rattle.std.specs.Int.{w32, from_le_bytes}
use Rattle.std.proofs.lemmas.List.{take-append-le, drop-append-le, take-append-drop, length-take}
use Rattle.std.proofs.lemmas.Bool.Decides.{nat_tests}
use Rattle.opmsg_model.specs.Messages.{number_at, stated_length, opcode, op_msg, op_query, most_bytes}
use Rattle.opmsg_model.specs.Outline.{FrameFault, bad_length, too_long, bad_opcode, Outline, partial_outline, message_outline, faulty_outline, outline, headed_outline, whole_outline, header_fault, message_fault}
use Rattle.opmsg_frames.proofs.WholeMessages.{is_whole}

number_stays : (k : ℕ) (bytes more : List ℕ) → k + 4 ≤ length bytes → number_at k (bytes ++ more) ≡ number_at k bytes
number_stays k bytes more room =
    let behind : drop k (bytes ++ more) ≡ drop k bytes ++ more = drop-append-le k bytes more (omega arith) in
    let four : take 4 (drop k bytes ++ more) ≡ take 4 (drop k bytes) = take-append-le 4 (drop k bytes) more (omega (arith, length-drop k bytes)) in
    ap (λ (l : List ℕ). from_le_bytes w32 (take 4 l)) behind ∙ ap (λ (l : List ℕ). from_le_bytes w32 l) four

-- a header's fault, by its length and its opcode
abbrev fault_by : ℕ → ℕ → Option FrameFault
fault_by stated code =
    if nat_lt stated 16 || nat_le (2 ^ 31) stated then Some bad_length
    else if nat_lt most_bytes stated then Some too_long
    else if code == op_msg || code == op_query then None
    else Some bad_opcode

header_stays : (bytes more : List ℕ) → 16 ≤ length bytes → header_fault (bytes ++ more) ≡ header_fault bytes
header_stays bytes more least =
    ap (λ (n : ℕ). fault_by n (opcode (bytes ++ more))) (number_stays 0 bytes more (omega (arith, least))) ∙ ap (λ (n : ℕ). fault_by (stated_length bytes) n) (number_stays 12 bytes more (omega (arith, least)))

-- an outline after a valid header, by whether the message is incomplete, and its bytes
abbrev pub outline_by : ℕ → Bool → List ℕ → Outline
outline_by n cut message = if cut then partial_outline else whole_outline n (message_fault message)

abbrev Stays : Outline → Outline → Type 0
Stays old new = (old ≡ partial_outline) ⊎ (new ≡ old)

by_cut : (bytes more : List ℕ) (n : ℕ) (cut : Bool) → nat_lt (length bytes) n ≡ cut → Stays (outline_by n cut (take n bytes)) (outline_by n (nat_lt (length (bytes ++ more)) n) (take n (bytes ++ more)))
by_cut bytes more n true e = inl refl
by_cut bytes more n false e =
    let fits : n ≤ length bytes = grind (arith, nat_tests) in
    let l = length-append bytes more in
    let cut : nat_lt (length (bytes ++ more)) n ≡ false = grind (arith, nat_tests, l, fits) in
    let prefix : take n (bytes ++ more) ≡ take n bytes = take-append-le n bytes more fits in
    inr (ap (λ (c : Bool). outline_by n c (take n (bytes ++ more))) cut ∙ ap (λ (m : List ℕ). outline_by n false m) prefix)

then_same : (old new other : Outline) → other ≡ new → Stays old new → Stays old other
then_same old new other e (inl p) = inl p
then_same old new other e (inr p) = inr (e ∙ p)

abbrev pub cut_outline : ℕ → List ℕ → Outline
cut_outline n bytes = outline_by n (nat_lt (length bytes) n) (take n bytes)

by_header : (bytes more : List ℕ) (fault : Option FrameFault) → 16 ≤ length bytes → header_fault bytes ≡ fault → Stays (headed_outline bytes fault) (headed_outline (bytes ++ more) fault)
by_header bytes more (Some fault) least e = inr refl
by_header bytes more None least e =
    then_same (headed_outline bytes None) (cut_outline (stated_length bytes) (bytes ++ more)) (headed_outline (bytes ++ more) None)
    (ap (λ (n : ℕ). cut_outline n (bytes ++ more)) (number_stays 0 bytes more (omega (arith, least))))
    (by_cut bytes more (stated_length bytes) (nat_lt (length bytes) (stated_length bytes)) refl)

abbrev pub short_outline : Bool → List ℕ → Outline
short_outline short bytes = if short then partial_outline else headed_outline bytes (header_fault bytes)

by_short : (bytes more : List ℕ) (short : Bool) → nat_lt (length bytes) 16 ≡ short → Stays (short_outline short bytes) (outline (bytes ++ more))
by_short bytes more true e = inl refl
by_short bytes more false e =
    let least : 16 ≤ length bytes = grind (arith, nat_tests) in
    let l = length-append bytes more in
    let long : nat_lt (length (bytes ++ more)) 16 ≡ false = grind (arith, nat_tests, l, least) in
    then_same (short_outline false bytes) (headed_outline (bytes ++ more) (header_fault bytes)) (outline (bytes ++ more))
    (ap (λ (s : Bool). short_outline s (bytes ++ more)) long ∙ ap (λ (f : Option FrameFault). headed_outline (bytes ++ more) f) (header_stays bytes more least))
    (by_header bytes more (header_fault bytes) least refl)

pub stays : (bytes more : List ℕ) → (outline bytes ≡ partial_outline) ⊎ (outline (bytes ++ more) ≡ outline bytes)
stays bytes more = by_short bytes more (nat_lt (length bytes) 16) refl

pub whole_stays : (bytes more : List ℕ) (n : ℕ) → outline bytes ≡ message_outline n → outline (bytes ++ more) ≡ message_outline n
whole_stays bytes more n e = pick (stays bytes more)
  where
    pick : (outline bytes ≡ partial_outline) ⊎ (outline (bytes ++ more) ≡ outline bytes) → outline (bytes ++ more) ≡ message_outline n
    pick (inl p) = absurd (let q : partial_outline ≡ message_outline n = sym p ∙ e in cc)
    pick (inr p) = p ∙ e

pub fault_stays : (bytes more : List ℕ) (fault : FrameFault) → outline bytes ≡ faulty_outline fault → outline (bytes ++ more) ≡ faulty_outline fault
fault_stays bytes more fault e = pick (stays bytes more)
  where
    pick : (outline bytes ≡ partial_outline) ⊎ (outline (bytes ++ more) ≡ outline bytes) → outline (bytes ++ more) ≡ faulty_outline fault
    pick (inl p) = absurd (let q : partial_outline ≡ faulty_outline fault = sym p ∙ e in cc)
    pick (inr p) = p ∙ e

pub prefix_is_partial : (bytes : List ℕ) (n k : ℕ) → outline bytes ≡ message_outline n → k < n → outline (take k bytes) ≡ partial_outline
prefix_is_partial bytes n k e lt = pick (stays (take k bytes) (drop k bytes))
  where
    pick : (outline (take k bytes) ≡ partial_outline) ⊎ (outline (take k bytes ++ drop k bytes) ≡ outline (take k bytes)) → outline (take k bytes) ≡ partial_outline
    pick (inl p) = p
    pick (inr p) =
        let whole : outline (take k bytes) ≡ message_outline n = sym p ∙ ap (λ (l : List ℕ). outline l) (take-append-drop k bytes) ∙ e in
        let w = is_whole n (take k bytes) whole in
        absurd (omega (arith, w.fits, length-take k bytes, lt))
