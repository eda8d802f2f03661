-- What the bytes of an encoded message contain: numbers, and what follows them.
use Rattle.std.proofs.Common.{◌≡◌, ℕ, ◌+◌, ◌≤◌, false, List, length, drop, sym, ap, ◌∙◌, arith}
use Rattle.std.specs.Int.{w32, cast_signed}
use Rattle.std.specs.List.{flat_map}
use Rattle.std.proofs.lemmas.Nat.{from_le_bytes-to_le_bytes_4}
use Rattle.opmsg_model.specs.Messages.{number_at, stated_length, opcode, op_msg, op_query, most_bytes}
use Rattle.opmsg_model.specs.Sections.{Section, section_bytes}
use Rattle.opmsg_model.specs.Requests.{Request, IsMsg, IsQuery, IsFlags, is_more, msg_bytes, query_bytes}

pub record MsgParts (r : Request) (sections : List Section) : Type 0 where
  pub stated : stated_length r.bytes ≡ length r.bytes
  pub code : opcode r.bytes ≡ op_msg
  pub id : r.id ≡ cast_signed w32 (number_at 4 r.bytes)
  pub more : r.more ≡ is_more (number_at 16 r.bytes)
  pub taken : IsFlags (number_at 16 r.bytes)
  pub behind : drop 20 r.bytes ≡ flat_map section_bytes sections
  pub least : 20 ≤ length r.bytes
  pub most : length r.bytes ≤ most_bytes

pub msg_parts : (r : Request) (sections : List Section) → IsMsg r sections → MsgParts r sections
msg_parts r sections m =
    let bytes = msg_bytes m.number m.answers m.flags sections in
    let size : length bytes ≡ length (flat_map section_bytes sections) + 20 = omega arith in
    let whole : length r.bytes ≡ length (flat_map section_bytes sections) + 20 = ap (λ (l : List ℕ). length l) m.whole ∙ size in
    let flags : number_at 16 r.bytes ≡ m.flags = ap (λ (l : List ℕ). number_at 16 l) m.whole ∙ from_le_bytes-to_le_bytes_4 m.flags m.flags_fit in
    let number : number_at 4 r.bytes ≡ m.number = ap (λ (l : List ℕ). number_at 4 l) m.whole ∙ from_le_bytes-to_le_bytes_4 m.number m.number_fits in
    record {
      stated = ap (λ (l : List ℕ). number_at 0 l) m.whole ∙ from_le_bytes-to_le_bytes_4 (length (flat_map section_bytes sections) + 20) (omega (arith, whole, m.most)) ∙ sym whole;
      code = ap (λ (l : List ℕ). number_at 12 l) m.whole ∙ from_le_bytes-to_le_bytes_4 op_msg (omega arith);
      id = m.id ∙ ap (λ (n : ℕ). cast_signed w32 n) (sym number);
      more = m.more ∙ ap (λ (n : ℕ). is_more n) (sym flags);
      taken = rw flags m.taken;
      behind = ap (λ (l : List ℕ). drop 20 l) m.whole;
      least = omega (arith, whole);
      most = m.most;
    }

pub record QueryParts (r : Request) (document : List ℕ) : Type 0 where
  pub stated : stated_length r.bytes ≡ length r.bytes
  pub code : opcode r.bytes ≡ op_query
  pub id : r.id ≡ cast_signed w32 (number_at 4 r.bytes)
  pub more : r.more ≡ false
  pub behind : drop 39 r.bytes ≡ document
  pub size : length r.bytes ≡ length document + 39
  pub most : length r.bytes ≤ most_bytes

pub query_parts : (r : Request) (document : List ℕ) → IsQuery r document → QueryParts r document
query_parts r document q =
    let bytes = query_bytes q.number q.answers q.flags q.skip q.count document in
    let size : length bytes ≡ length document + 39 = omega arith in
    let whole : length r.bytes ≡ length document + 39 = ap (λ (l : List ℕ). length l) q.whole ∙ size in
    let number : number_at 4 r.bytes ≡ q.number = ap (λ (l : List ℕ). number_at 4 l) q.whole ∙ from_le_bytes-to_le_bytes_4 q.number q.number_fits in
    record {
      stated = ap (λ (l : List ℕ). number_at 0 l) q.whole ∙ from_le_bytes-to_le_bytes_4 (length document + 39) (omega (arith, whole, q.most)) ∙ sym whole;
      code = ap (λ (l : List ℕ). number_at 12 l) q.whole ∙ from_le_bytes-to_le_bytes_4 op_query (omega arith);
      id = q.id ∙ ap (λ (n : ℕ). cast_signed w32 n) (sym number);
      more = q.more;
      behind = ap (λ (l : List ℕ). drop 39 l) q.whole;
      size = whole;
      most = q.most;
    }
