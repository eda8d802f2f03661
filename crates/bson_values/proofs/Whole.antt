-- The document at the beginning of some bytes.
use Rattle.std.proofs.Common.{◌≡◌, ℕ, suc, ◌+◌, ◌-◌, ◌≤◌, List, ◌++◌, length, take, drop, Result, Ok, Err, refl, sym, ap, subst, ◌∙◌, arith}
use Rattle.std.specs.Prelude.{IfOk}
use Rattle.std.proofs.lemmas.List.{take_at, take-append-drop, length-append, length-drop}
use Rattle.bson_model.specs.Tree.{Fields, document_depth}
use Rattle.bson_model.specs.Spelling.{framed}
use Rattle.bson_model.specs.Grammar.{AreBytes, ReadsAs, IsWithinDepth}
use Rattle.bson_model.specs.Limits.{length_limit, most_depth_kept}
use Rattle.bson_model.proofs.Lengths.{length-framed}
use Rattle.bson_values.specs.declared.fault.BsonFault.{BsonFault}
use Rattle.bson_values.specs.ReadFaults.{◌>>=◌, Gives}
use Rattle.bson_values.specs.Readers.{document_with, value_at, depth_inside, document_at, whole_at}
use Rattle.bson_values.proofs.Steps.{bind_ok, ok_is}
use Rattle.bson_values.proofs.Takes.{document_takes, value_takes}
use Rattle.bson_values.proofs.Again.{document_again}

-- what was found
pub record IsWhole (bytes : List ℕ) (x : Fields × ℕ) : Type 0 where
  pub within : x.1 ≤ length bytes
  pub reads : ReadsAs (take x.1 bytes) x.0
  pub low : document_depth x.0 ≤ most_depth_kept

pub whole_takes : (bytes : List ℕ) (x : Fields × ℕ) → AreBytes bytes → whole_at bytes ≡ Ok x → IsWhole bytes x
unfolding whole_at document_at
whole_takes bytes x h e =
    let a = bind_ok (document_at depth_inside bytes) (λ y. Ok (y.0, length bytes - length y.1)) x e in
    let t = document_takes (length bytes) depth_inside (value_at (length bytes) depth_inside) (value_takes (length bytes) depth_inside) length_limit bytes a.0 h a.1 in
    let len : length bytes ≡ length (framed t.body) + length a.0.1 = ap (λ (s : List ℕ). length s) t.parts ∙ length-append (framed t.body) a.0.1 in
    let used : length (framed t.body) ≡ length bytes - length a.0.1 = omega arith in
    let prefix : take (length bytes - length a.0.1) bytes ≡ framed t.body = ap (λ (s : List ℕ). take (length bytes - length a.0.1) s) t.parts ∙ take_at (framed t.body) a.0.1 (length bytes - length a.0.1) used in
    let all : Fields × ℕ = (a.0.0, length bytes - length a.0.1) in
    subst (λ (y : Fields × ℕ). IsWhole bytes y) (ok_is all x a.2)
    (record { within = omega arith; reads = (t.body, prefix, t.high, t.reads); low = t.low })

pub whole_again : (bytes : List ℕ) (ms : Fields) (n : ℕ) → n ≤ length bytes → ReadsAs (take n bytes) ms → document_depth ms ≤ most_depth_kept → whole_at bytes ≡ Ok (ms, n)
unfolding whole_at document_at
whole_again bytes ms n le h low =
    let size : length (framed h.0) ≤ length_limit = omega (arith, length-framed h.0, h.2) in
    let parts : bytes ≡ framed h.0 ++ drop n bytes = sym (take-append-drop n bytes) ∙ ap (λ (s : List ℕ). s ++ drop n bytes) h.1 in
    let read : document_at depth_inside bytes ≡ Ok (ms, drop n bytes) =
    ap (λ (s : List ℕ). document_with (length bytes) (value_at (length bytes) depth_inside) length_limit s) parts ∙ document_again (length bytes) depth_inside length_limit h.0 (drop n bytes) ms h.2 size h.3 low in
    let k : length bytes - length (drop n bytes) ≡ n = omega (arith, length-drop n bytes) in
    ap (λ (r : Result (Fields × List ℕ) BsonFault). r >>= λ x. Ok (x.0, length bytes - length x.1)) read ∙ ap (λ (m : ℕ). Ok (ms, m)) k

-- what the clauses of a call need

pub is_found : (bytes : List ℕ) (result : Result (Fields × ℕ) BsonFault) → AreBytes bytes → Gives (λ x. x) result (whole_at bytes)
    → IfOk result (λ x. (x.1 ≤ length bytes) × ReadsAs (take x.1 bytes) x.0 × IsWithinDepth x.0)
is_found bytes (Ok x) h e =
    let t = whole_takes bytes x h e in
    (t.within, t.reads, t.low)
is_found bytes (Err e) h k = tt

pub is_only : (bytes : List ℕ) (result : Result (Fields × ℕ) BsonFault) (ms : Fields) (n : ℕ) → Gives (λ x. x) result (whole_at bytes) → n ≤ length bytes → ReadsAs (take n bytes) ms → IsWithinDepth ms
    → Gives (λ x. x) result (Ok (ms, n))
is_only bytes result ms n e le reads low =
    subst (λ (r : Result (Fields × ℕ) BsonFault). Gives (λ x. x) result r) (whole_again bytes ms n le reads low) e

-- ---- one encoding

read_again : (n : ℕ) (a x : List ℕ) (ms : Fields) → ReadsAs a ms → document_depth ms ≤ suc n → document_with 0 (value_at 0 n) length_limit (a ++ x) ≡ Ok (ms, x)
read_again n a x ms h low =
    let size : length (framed h.0) ≤ length_limit = omega (arith, length-framed h.0, h.2) in
    ap (λ (s : List ℕ). document_with 0 (value_at 0 n) length_limit (s ++ x)) h.1 ∙ document_again 0 n length_limit h.0 x ms h.2 size h.3 low

same_prefix : (a b x y : List ℕ) → a ++ x ≡ b ++ y → x ≡ y → a ≡ b
same_prefix a b x y e f =
    let both : length a + length x ≡ length b + length y = sym (length-append a x) ∙ ap (λ (s : List ℕ). length s) e ∙ length-append b y in
    let same : length x ≡ length y = ap (λ (s : List ℕ). length s) f in
    let len : length b ≡ length a = omega arith in
    sym (take_at a x (length a) refl) ∙ ap (λ (s : List ℕ). take (length a) s) e ∙ take_at b y (length a) len

pub one_spelling : (a b x y : List ℕ) (ms ns : Fields) → ReadsAs a ms → ReadsAs b ns → a ++ x ≡ b ++ y → (a ≡ b) × (ms ≡ ns)
one_spelling a b x y ms ns h k e =
    let n = document_depth ms + document_depth ns in
    let first = read_again n a x ms h (omega arith) in
    let second = read_again n b y ns k (omega arith) in
    let both = sym first ∙ ap (λ (s : List ℕ). document_with 0 (value_at 0 n) length_limit s) e ∙ second in
    let p : Fields × List ℕ = (ms, x) in
    let q : Fields × List ℕ = (ns, y) in
    let same = ok_is p q both in
    (same_prefix a b x y e (ap (λ (r : Fields × List ℕ). r.1) same), ap (λ (r : Fields × List ℕ). r.0) same)
