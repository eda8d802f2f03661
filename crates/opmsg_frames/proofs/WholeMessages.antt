-- What the outline of a whole message says.
use Rattle.std.proofs.Common.{◌≡◌, ℕ, ◌+◌, ◌-◌, ◌++◌, ◌≤◌, ◌⊎◌, inl, inr, Bool, true, false, Option, Some, None, List, length, take, drop, refl, sym, ap, ◌∙◌, arith}
use Rattle.std.specs.Prelude.{◌||◌, ◌==◌, ◌^◌, nat_lt, nat_le, if◌then◌else◌, Result, Ok, Err, IfOk}
use Rattle.std.proofs.lemmas.Bool.Decides.{nat_tests}
use Rattle.opmsg_model.specs.Messages.{number_at, stated_length, opcode, op_msg, op_query, most_bytes}
use Rattle.std.specs.Int.{w32, from_le_bytes}
use Rattle.std.proofs.lemmas.List.{length-take-le, take-append-drop, drop-take, take-take}
use Rattle.opmsg_model.specs.Frames.{IsFirst}
use Rattle.opmsg_model.specs.Requests.{Request, IsRequest}
use Rattle.opmsg_frames.specs.declared.request.Content.{Content}
use Rattle.opmsg_frames.specs.RequestMeanings.{IsContent}
use Rattle.opmsg_model.specs.Outline.{FrameFault, bad_length, too_long, bad_opcode, bad_query, bad_flags, Outline, partial_outline, message_outline, faulty_outline, outline, headed_outline, whole_outline, header_fault, message_fault, msg_fault, is_query, takes_flags, sections_fault}

pub record IsWhole (n : ℕ) (bytes : List ℕ) : Type 0 where
  pub least : 16 ≤ n
  pub fits : n ≤ length bytes
  pub most : n ≤ most_bytes
  pub stated : stated_length bytes ≡ n
  pub code : (opcode bytes ≡ op_msg) ⊎ (opcode bytes ≡ op_query)
  pub sound : message_fault (take n bytes) ≡ None

abbrev number : Outline → ℕ
number (message_outline n) = n
number partial_outline = 0
number (faulty_outline fault) = 0

by_header : (bytes : List ℕ) (short negative long msg query : Bool) → nat_lt (stated_length bytes) 16 ≡ short → nat_le (2 ^ 31) (stated_length bytes) ≡ negative → nat_lt most_bytes (stated_length bytes) ≡ long → (opcode bytes == op_msg) ≡ msg → (opcode bytes == op_query) ≡ query
    → (if short || negative then Some bad_length else if long then Some too_long else if msg || query then None else Some bad_opcode) ≡ None → (16 ≤ stated_length bytes) × (stated_length bytes ≤ most_bytes) × ((opcode bytes ≡ op_msg) ⊎ (opcode bytes ≡ op_query))
by_header bytes true negative long msg query p q r s t e = absurd (let x : Some bad_length ≡ None = e in cc)
by_header bytes false true long msg query p q r s t e = absurd (let x : Some bad_length ≡ None = e in cc)
by_header bytes false false true msg query p q r s t e = absurd (let x : Some too_long ≡ None = e in cc)
by_header bytes false false false true query p q r s t e = (grind (arith, nat_tests), grind (arith, nat_tests), inl (grind (arith, nat_tests)))
by_header bytes false false false false true p q r s t e = (grind (arith, nat_tests), grind (arith, nat_tests), inr (grind (arith, nat_tests)))
by_header bytes false false false false false p q r s t e = absurd (let x : Some bad_opcode ≡ None = e in cc)

by_message : (n s : ℕ) (fault : Option FrameFault) → whole_outline s fault ≡ message_outline n → (s ≡ n) × (fault ≡ None)
by_message n s None e = (ap (λ (o : Outline). number o) e, refl)
by_message n s (Some fault) e = absurd (let x : faulty_outline fault ≡ message_outline n = e in cc)

by_cut : (n s : ℕ) (cut : Bool) (fault : Option FrameFault) → (if cut then partial_outline else whole_outline s fault) ≡ message_outline n → (cut ≡ false) × (s ≡ n) × (fault ≡ None)
by_cut n s true fault e = absurd (let x : partial_outline ≡ message_outline n = e in cc)
by_cut n s false fault e = let m = by_message n s fault e in (refl, m.0, m.1)

by_fault : (n : ℕ) (bytes : List ℕ) (fault : Option FrameFault) → header_fault bytes ≡ fault → headed_outline bytes fault ≡ message_outline n → IsWhole n bytes
by_fault n bytes (Some fault) t e = absurd (let x : faulty_outline fault ≡ message_outline n = e in cc)
by_fault n bytes None t e =
    let h = by_header bytes (nat_lt (stated_length bytes) 16) (nat_le (2 ^ 31) (stated_length bytes)) (nat_lt most_bytes (stated_length bytes)) (opcode bytes == op_msg) (opcode bytes == op_query) refl refl refl refl refl t in
    let c = by_cut n (stated_length bytes) (nat_lt (length bytes) (stated_length bytes)) (message_fault (take (stated_length bytes) bytes)) e in
    record {
      least = omega (arith, h.0, c.1);
      fits = grind (arith, nat_tests, c.0, c.1);
      most = omega (arith, h.1, c.1);
      stated = c.1;
      code = h.2;
      sound = rw c.1 at c.2;
    }

by_short : (n : ℕ) (bytes : List ℕ) (short : Bool) → (if short then partial_outline else headed_outline bytes (header_fault bytes)) ≡ message_outline n → IsWhole n bytes
by_short n bytes true e = absurd (let x : partial_outline ≡ message_outline n = e in cc)
by_short n bytes false e = by_fault n bytes (header_fault bytes) refl e

pub is_whole : (n : ℕ) (bytes : List ℕ) → outline bytes ≡ message_outline n → IsWhole n bytes
is_whole n bytes e = by_short n bytes (nat_lt (length bytes) 16) e

-- a whole message by its opcode
by_code : (msg query : Bool) (a : Option FrameFault) → (if msg then a else if query then None else Some bad_query) ≡ None → ((msg ≡ true) × (a ≡ None)) ⊎ ((msg ≡ false) × (query ≡ true))
by_code true query a e = inl (refl, e)
by_code false true a e = inr (refl, refl)
by_code false false a e = absurd (let x : Some bad_query ≡ None = e in cc)

pub msg_sound : (bytes : List ℕ) → message_fault bytes ≡ None → opcode bytes ≡ op_msg → msg_fault bytes ≡ None
msg_sound bytes e code = pick (by_code (opcode bytes == op_msg) (is_query bytes) (msg_fault bytes) e)
  where
    pick : (((opcode bytes == op_msg) ≡ true) × (msg_fault bytes ≡ None)) ⊎ (((opcode bytes == op_msg) ≡ false) × (is_query bytes ≡ true)) → msg_fault bytes ≡ None
    pick (inl h) = h.1
    pick (inr h) = absurd (grind (arith, nat_tests, h.0))

pub query_sound : (bytes : List ℕ) → message_fault bytes ≡ None → ¬ (opcode bytes ≡ op_msg) → is_query bytes ≡ true
query_sound bytes e code = pick (by_code (opcode bytes == op_msg) (is_query bytes) (msg_fault bytes) e)
  where
    pick : (((opcode bytes == op_msg) ≡ true) × (msg_fault bytes ≡ None)) ⊎ (((opcode bytes == op_msg) ≡ false) × (is_query bytes ≡ true)) → is_query bytes ≡ true
    pick (inl h) = absurd (code (grind (arith, nat_tests, h.0)))
    pick (inr h) = h.1

by_length : (short : Bool) (n : ℕ) (more : Option FrameFault) → nat_lt n 20 ≡ short → (if short then Some bad_flags else more) ≡ None → 20 ≤ n
by_length true n more t e = absurd (let x : Some bad_flags ≡ None = e in cc)
by_length false n more t e = grind (arith, nat_tests)

pub msg_length : (bytes : List ℕ) → msg_fault bytes ≡ None → 20 ≤ length bytes
msg_length bytes e = by_length (nat_lt (length bytes) 20) (length bytes) (if takes_flags (number_at 16 bytes) then sections_fault (length bytes) 0 false (drop 20 bytes) else Some bad_flags) refl e

-- the message has its own length and opcode
prefix_number : (k n : ℕ) (bytes : List ℕ) → k + 4 ≤ n → number_at k (take n bytes) ≡ number_at k bytes
prefix_number k n bytes room = ap (λ (four : List ℕ). from_le_bytes w32 four) (part k n bytes room)
  where
    part : (k n : ℕ) (bytes : List ℕ) → k + 4 ≤ n → take 4 (drop k (take n bytes)) ≡ take 4 (drop k bytes)
    part k n bytes room =
        let e : n ≡ k + (n - k) = omega arith in
        ap (λ (m : ℕ). take 4 (drop k (take m bytes))) e ∙ ap (λ (l : List ℕ). take 4 l) (drop-take k (n - k) bytes) ∙ take-take 4 (n - k) (drop k bytes) (omega arith)

pub prefix_stated : (n : ℕ) (bytes : List ℕ) → IsWhole n bytes → number_at 0 (take n bytes) ≡ length (take n bytes)
prefix_stated n bytes w = prefix_number 0 n bytes (omega (arith, w.least)) ∙ w.stated ∙ sym (length-take-le n bytes w.fits)

pub prefix_code : (n : ℕ) (bytes : List ℕ) → IsWhole n bytes → (opcode (take n bytes) ≡ op_msg) ⊎ (opcode (take n bytes) ≡ op_query)
prefix_code n bytes w = rw (prefix_number 12 n bytes (omega (arith, w.least))) w.code

pub is_first : (n : ℕ) (bytes : List ℕ) (meant : Request) → outline bytes ≡ message_outline n → meant.bytes ≡ take n bytes → IsRequest meant → IsFirst bytes meant (drop n bytes) × (length meant.bytes ≡ n)
is_first n bytes meant o e is =
    let w = is_whole n bytes o in
    let l : length meant.bytes ≡ n = ap (λ (m : List ℕ). length m) e ∙ length-take-le n bytes w.fits in (
      record {
        whole = o ∙ ap (λ (k : ℕ). message_outline k) (sym l);
        split = sym (take-append-drop n bytes) ∙ ap (λ (m : List ℕ). m ++ drop n bytes) (sym e);
        reads = is;
      },
      l,
    )

-- a message that was read is the request that comes first
pub first_read : {E : Type 0} (n : ℕ) (bytes message : List ℕ) (read : Result Content E) → outline bytes ≡ message_outline n → message ≡ take n bytes →
    IfOk read (λ c. (meant : Request) × IsContent c meant × (meant.bytes ≡ message) × IsRequest meant) →
    IfOk read (λ c. (meant : Request) × IsContent c meant × IsFirst bytes meant (drop n bytes) × (meant.bytes ≡ take n bytes) × (length meant.bytes ≡ n))
first_read n bytes message (Ok c) o e (meant, is, whole, reads) =
    let f = is_first n bytes meant o (whole ∙ e) reads in
    (meant, is, f.0, whole ∙ e, f.1)
first_read n bytes message (Err m) o e h = tt
