-- A document that is a prefix of bytes of the stated length is all of them.
use Rattle.std.proofs.Common.{◌≡◌, ℕ, ◌+◌, ◌<◌, ◌≤◌, ◌^◌, List, length, take, sym, ap, ◌∙◌, arith}
use Rattle.std.specs.Int.{w32, from_le_bytes}
use Rattle.std.proofs.lemmas.List.{length-take-le, take-take}
use Rattle.std.proofs.Math.Seq.{take-length}
use Rattle.std.proofs.lemmas.Nat.{from_le_bytes-to_le_bytes_4}
use Rattle.bson_model.specs.Tree.{Fields}
use Rattle.bson_model.specs.Spelling.{framed}
use Rattle.bson_model.specs.Grammar.{ReadsAs, IsWithinDepth}
use Rattle.opmsg_model.specs.Messages.{number_at}
use Rattle.opmsg_model.specs.Sections.{IsStated}
use Rattle.opmsg_model.specs.Requests.{IsKept}
use Rattle.bson_model.proofs.Lengths.{length-framed}

-- an encoding states its length
framed_states : (body : List ℕ) → length body + 5 < 2 ^ 31 → number_at 0 (framed body) ≡ length body + 5
framed_states body low = from_le_bytes-to_le_bytes_4 (length body + 5) (omega arith)

states : (bytes : List ℕ) (ms : Fields) → ReadsAs bytes ms → (number_at 0 bytes ≡ length bytes) × (5 ≤ length bytes)
states bytes ms (body, e, low, reads) = rw e (framed_states body low ∙ sym (length-framed body), omega (arith, length-framed body))

take_prefix : (n : ℕ) (bytes : List ℕ) → 4 ≤ n → take 4 (take n bytes) ≡ take 4 bytes
take_prefix n bytes le = take-take 4 n bytes le

prefix_number : (n : ℕ) (bytes : List ℕ) → 4 ≤ n → number_at 0 (take n bytes) ≡ number_at 0 bytes
prefix_number n bytes le = ap (λ (four : List ℕ). from_le_bytes w32 four) (take_prefix n bytes le)

pub is_whole : (bytes : List ℕ) (n : ℕ) (ms : Fields) → IsStated bytes → n ≤ length bytes → ReadsAs (take n bytes) ms → IsWithinDepth ms → IsKept bytes ms
is_whole bytes n ms stated le reads depth =
    let s = states (take n bytes) ms reads in
    let l : length (take n bytes) ≡ n = length-take-le n bytes le in
    let e : n ≡ length bytes = omega (arith, s.0, s.1, l, stated.1, prefix_number n bytes (omega (arith, s.1, l))) in
    (rw (e, take-length bytes) at reads, depth)
