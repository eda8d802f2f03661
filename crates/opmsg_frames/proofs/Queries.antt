-- A whole message of OP_QUERY that is a greeting.
use Rattle.std.proofs.Common.{◌≡◌, ℕ, ◌+◌, ◌-◌, ◌<◌, ◌≤◌, inl, inr, Bool, true, false, Option, Some, None, List, [], ◌∷◌, ◌++◌, length, take, drop, refl, sym, ap, ◌∙◌, drop-cons, arith, length-drop}
use Rattle.std.specs.Prelude.{◌||◌, ◌&&◌, ◌==◌, nat_lt, nat_le, slice_index}
use Rattle.std.specs.Int.{w32, cast_signed}
use Rattle.std.specs.Str.{bytes_eq}
use Rattle.std.proofs.lemmas.Bool.Decides.{nat_tests}
use Rattle.std.proofs.lemmas.Slice.Eq.{bytes_eq-Decides}
use Rattle.std.proofs.lemmas.List.{take-append-drop, drop-drop}
use Rattle.bson_model.specs.Faults.{before_zero}
use Rattle.opmsg_model.specs.Messages.{int32, header, number_at, opcode, op_query, most_bytes}
use Rattle.opmsg_model.specs.Requests.{query_form, Body, IsQuery, IsGreeting, admin_command}
use Rattle.opmsg_model.specs.Outline.{is_query, greets}
use Rattle.opmsg_frames.proofs.Bytes.{number_fits, number_prefix}
use Rattle.bson_model.specs.Grammar.{AreBytes}
use Rattle.opmsg_frames.proofs.Spellings.{zero_splits}

same : (a b : List ℕ) → bytes_eq a b ≡ true → a ≡ b
same a b e = (bytes_eq-Decides a b).0 e

-- header, flags, collection, two numbers and a document
joins : (b₀ b₄ b₈ b₁₂ b₁₆ b₂₀ b₃₁ b₃₅ d : List ℕ) (n i a c f s m : ℕ) → b₀ ≡ int32 n ++ b₄ → b₄ ≡ int32 i ++ b₈ → b₈ ≡ int32 a ++ b₁₂ → b₁₂ ≡ int32 c ++ b₁₆ → b₁₆ ≡ int32 f ++ b₂₀ → b₂₀ ≡ admin_command ++ b₃₁ → b₃₁ ≡ int32 s ++ b₃₅ → b₃₅ ≡ int32 m ++ d → b₀ ≡ header n i a c ++ (int32 f ++ (admin_command ++ (int32 s ++ (int32 m ++ d))))
joins b₀ b₄ b₈ b₁₂ b₁₆ b₂₀ b₃₁ b₃₅ d n i a c f s m p q r t u v w x = rw (p, q, r, t, u, v, w, x) refl

-- its first name
abbrev Greeting : List ℕ → Type 0
Greeting bytes = (name : List ℕ) × (behind : List ℕ) × IsGreeting name × (bytes ≡ name ++ 0 ∷ behind)

abbrev capital : List ℕ
capital = 105 ∷ 115 ∷ 77 ∷ 97 ∷ 115 ∷ 116 ∷ 101 ∷ 114 ∷ []

abbrev small : List ℕ
small = 105 ∷ 115 ∷ 109 ∷ 97 ∷ 115 ∷ 116 ∷ 101 ∷ 114 ∷ []

abbrev hello : List ℕ
hello = 104 ∷ 101 ∷ 108 ∷ 108 ∷ 111 ∷ []

one_of : (name : List ℕ) (a b c : Bool) → bytes_eq name capital ≡ a → bytes_eq name small ≡ b → bytes_eq name hello ≡ c → ((a || b) || c) ≡ true → IsGreeting name
one_of name true b c p q r e = inl (same name capital p)
one_of name false true c p q r e = inr (inl (same name small q))
one_of name false false true p q r e = inr (inr (same name hello r))
one_of name false false false p q r e = absurd (let x : false ≡ true = e in cc)

by_name : (bytes : List ℕ) (found : Option (List ℕ)) → before_zero bytes ≡ found → greets found ≡ true → Greeting bytes
by_name bytes None t e = absurd (let q : false ≡ true = e in cc)
by_name bytes (Some name) t e =
    let s = zero_splits bytes name t in
    (name, s.0, one_of name (bytes_eq name capital) (bytes_eq name small) (bytes_eq name hello) refl refl refl e, s.1)

five : (a b c d e : Bool) → ((((a && b) && c) && d) && e) ≡ true → (b ≡ true) × (c ≡ true) × (d ≡ true) × (e ≡ true)
five true true true true true p = (refl, refl, refl, refl)
five false b c d e p = absurd (let x : false ≡ true = p in cc)
five true false c d e p = absurd (let x : false ≡ true = p in cc)
five true true false d e p = absurd (let x : false ≡ true = p in cc)
five true true true false e p = absurd (let x : false ≡ true = p in cc)
five true true true true false p = absurd (let x : false ≡ true = p in cc)

pub is_sound : (bytes : List ℕ) → AreBytes bytes → 44 ≤ length bytes → length bytes ≤ most_bytes → number_at 0 bytes ≡ length bytes → opcode bytes ≡ op_query → is_query bytes ≡ true
    → ((body : Body) → IsQuery (record { id = cast_signed w32 (number_at 4 bytes); more = false; form = query_form; body = body; bytes = bytes }) (drop 39 bytes))
is_sound bytes are least most stated code sound body =
    let p = five (nat_le 44 (length bytes)) (bytes_eq (take 11 (drop 20 bytes)) admin_command) (number_at 39 bytes == length bytes - 39) (nat_lt 0 (slice_index bytes 43)) (greets (before_zero (drop 44 bytes))) sound in
    let document : length (drop 39 bytes) ≡ length bytes - 39 = length-drop 39 bytes in
    let n : number_at 39 bytes ≡ length (drop 39 bytes) = grind (arith, nat_tests, p.1, document) in
    let k : 0 < slice_index bytes 43 = grind (arith, nat_tests, p.2) in
    let collection : take 11 (drop 20 bytes) ≡ admin_command = same (take 11 (drop 20 bytes)) admin_command p.0 in
    let g = by_name (drop 44 bytes) (before_zero (drop 44 bytes)) refl p.3 in
    record {
      number = number_at 4 bytes;
      answers = number_at 8 bytes;
      flags = number_at 16 bytes;
      skip = number_at 31 bytes;
      count = number_at 35 bytes;
      number_fits = number_fits 4 bytes are;
      answers_fit = number_fits 8 bytes are;
      flags_fit = number_fits 16 bytes are;
      skip_fits = number_fits 31 bytes are;
      count_fits = number_fits 35 bytes are;
      whole = joins bytes (drop 4 bytes) (drop 8 bytes) (drop 12 bytes) (drop 16 bytes) (drop 20 bytes) (drop 31 bytes) (drop 35 bytes) (drop 39 bytes) (length (drop 39 bytes) + 39) (number_at 4 bytes) (number_at 8 bytes) op_query (number_at 16 bytes) (number_at 31 bytes) (number_at 35 bytes)
          (number_prefix 0 bytes are (omega (arith, least)) ∙ ap (λ (n : ℕ). int32 n ++ drop 4 bytes) (omega (arith, stated, document, least)))
          (number_prefix 4 bytes are (omega (arith, least)))
          (number_prefix 8 bytes are (omega (arith, least)))
          (number_prefix 12 bytes are (omega (arith, least)) ∙ ap (λ (n : ℕ). int32 n ++ drop 16 bytes) code)
          (number_prefix 16 bytes are (omega (arith, least)))
          (sym (rw drop-drop at (take-append-drop 11 (drop 20 bytes))) ∙ ap (λ (l : List ℕ). l ++ drop 31 bytes) collection)
          (number_prefix 31 bytes are (omega (arith, least)))
          (number_prefix 35 bytes are (omega (arith, least)));
      most = most;
      id = refl;
      more = refl;
      stated = (omega (arith, document, least), n);
      greeting = (
        slice_index bytes 43,
        g.0,
        g.1,
        g.2,
        k,
        number_prefix 39 bytes are (omega (arith, least)) ∙ ap (λ (m : ℕ). int32 m ++ drop 43 bytes) n ∙ ap (λ (l : List ℕ). int32 (length (drop 39 bytes)) ++ l) (drop-cons bytes 43 0 (omega (arith, least)) ∙ ap (λ (l : List ℕ). slice_index bytes 43 ∷ l) g.3),
      );
    }

-- it has a first name
first_of_five : (a b c d e : Bool) → ((((a && b) && c) && d) && e) ≡ true → a ≡ true
first_of_five true b c d e p = refl
first_of_five false b c d e p = absurd (let x : false ≡ true = p in cc)

pub least_query : (bytes : List ℕ) → is_query bytes ≡ true → 44 ≤ length bytes
least_query bytes sound =
    let p = first_of_five (nat_le 44 (length bytes)) (bytes_eq (take 11 (drop 20 bytes)) admin_command) (number_at 39 bytes == length bytes - 39) (nat_lt 0 (slice_index bytes 43)) (greets (before_zero (drop 44 bytes))) sound in
    grind (arith, nat_tests, p)
