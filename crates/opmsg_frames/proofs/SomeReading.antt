-- Bytes whose outline is that of a message begin with a request, and all bytes have a reading.
use Rattle.std.proofs.Common.{◌≡◌, ℕ, zero, suc, ◌+◌, ◌<◌, ◌≤◌, ◌⊎◌, inl, inr, false, Option, Some, None, List, [], ◌∷◌, length, take, drop, refl, sym, ◌∙◌, arith, length-drop}
use Rattle.std.specs.Int.{w32, cast_signed}
use Rattle.std.specs.List.{AllByRecursion, flat_map}
use Rattle.std.proofs.lemmas.List.{length-take-le}
use Rattle.bson_model.specs.Tree.{Fields}
use Rattle.bson_model.specs.Faults.{Fault, short_fault}
use Rattle.opmsg_model.specs.Messages.{number_at, opcode, op_msg, op_query, most_bytes}
use Rattle.opmsg_model.specs.Sections.{Section, body_section, sequence_section, section_bytes, IsStated, IsSection, bodies, documents_in}
use Rattle.opmsg_model.specs.Requests.{Request, Body, read_body, faulty_body, msg_form, query_form, is_more, AreKept, FirstFaulty, Hold, HasBody, IsReadable, IsRequest}
use Rattle.opmsg_model.specs.Outline.{FrameFault, Outline, partial_outline, message_outline, faulty_outline, outline, message_fault}
use Rattle.opmsg_model.specs.Frames.{IsFirst, FramesFrom, ends, fails, goes_on}
use Rattle.bson_values.proofs.Leaves.{AreBytes-take, AreBytes-drop}
use Rattle.bson_model.specs.Grammar.{AreBytes}
use Rattle.opmsg_frames.proofs.OneBody.{backs, prefixes, named, section_documents}
use Rattle.opmsg_frames.proofs.OneRequest.{lone_bytes}
use Rattle.opmsg_frames.proofs.Msgs.{is_msg}
use Rattle.opmsg_frames.proofs.Queries as queries
use Rattle.opmsg_frames.proofs.SectionReads.{faulty_prefix, faulty_behind}
use Rattle.opmsg_frames.proofs.WalkEnds.{HasFault, read_or_faulty}
use Rattle.opmsg_frames.proofs.WholeMessages.{IsWhole, is_whole, is_first, prefix_stated, prefix_code, msg_length, msg_sound, query_sound}

abbrev HasFirst : List (List ℕ) → Type 0
HasFirst documents = (fault : Fault) × (offset : ℕ) × FirstFaulty documents fault offset

abbrev Kept : List (List ℕ) → Type 0
Kept documents = (mss : List Fields) × AreKept documents mss

one_more : (d : List ℕ) (documents : List (List ℕ)) → IsReadable d ⊎ HasFault d → Kept documents ⊎ HasFirst documents → Kept (d ∷ documents) ⊎ HasFirst (d ∷ documents)
one_more d documents (inr x) others = inr (x.0, x.1, inl x.2)
one_more d documents (inl k) (inl ks) = inl (k.0 ∷ ks.0, (k.0, ks.0, refl, k.1, ks.1))
one_more d documents (inl k) (inr x) = inr (x.0, x.1, inr (k, x.2))

some_documents : (documents : List (List ℕ)) → AllByRecursion AreBytes documents → AllByRecursion IsStated documents → Kept documents ⊎ HasFirst documents
some_documents [] are stated = inl ([], refl)
some_documents (d ∷ documents) are stated = one_more d documents (read_or_faulty d are.0 stated.0) (some_documents documents are.1 stated.1)

-- all documents of sections are supported: those of the bodies, and the sequences
record Held (sections : List Section) : Type 0 where
  mss : List Fields
  sequences : List (List ℕ × List Fields)
  hold : Hold sections mss sequences
  count : length mss ≡ bodies sections

with_body : (d : List ℕ) (sections : List Section) → IsReadable d ⊎ HasFault d → Held sections ⊎ HasFirst (documents_in sections) → Held (body_section d ∷ sections) ⊎ HasFirst (documents_in (body_section d ∷ sections))
with_body d sections (inr x) others = inr (x.0, x.1, inl x.2)
with_body d sections (inl k) (inl h) = inl (record { mss = k.0 ∷ h.mss; sequences = h.sequences; hold = (k.0, h.mss, refl, k.1, h.hold); count = omega (arith, h.count) })
with_body d sections (inl k) (inr x) = inr (x.0, x.1, inr (k, x.2))

with_sequence : (i : List ℕ) (documents : List (List ℕ)) (sections : List Section) → Kept documents ⊎ HasFirst documents → Held sections ⊎ HasFirst (documents_in sections) → Held (sequence_section i documents ∷ sections) ⊎ HasFirst (documents_in (sequence_section i documents ∷ sections))
with_sequence i documents sections (inr x) others = inr (x.0, x.1, faulty_prefix documents (documents_in sections) x.0 x.1 x.2)
with_sequence i documents sections (inl k) (inl h) = inl (record { mss = h.mss; sequences = named i k.0 ∷ h.sequences; hold = (k.0, h.sequences, refl, k.1, h.hold); count = h.count })
with_sequence i documents sections (inl k) (inr x) = inr (x.0, x.1, faulty_behind documents (documents_in sections) k.0 x.0 x.1 k.1 x.2)

some_sections : (sections : List Section) → AllByRecursion IsSection sections → AllByRecursion AreBytes (documents_in sections) → Held sections ⊎ HasFirst (documents_in sections)
some_sections [] each are = inl (record { mss = []; sequences = []; hold = (refl, refl); count = refl })
some_sections (body_section d ∷ sections) each are = with_body d sections (read_or_faulty d are.0 each.0) (some_sections sections each.1 are.1)
some_sections (sequence_section i documents ∷ sections) each are =
    with_sequence i documents sections (some_documents documents (prefixes AreBytes documents (documents_in sections) are) each.0.2) (some_sections sections each.1 (backs AreBytes documents (documents_in sections) are))

some_body : (sections : List Section) → AllByRecursion IsSection sections → AreBytes (flat_map section_bytes sections) → bodies sections ≡ 1 → (body : Body) × HasBody sections body
some_body sections each are one = by_held (some_sections sections each (section_documents sections are))
  where
    by_count : (mss : List Fields) (sequences : List (List ℕ × List Fields)) → Hold sections mss sequences → length mss ≡ 1 → (body : Body) × HasBody sections body
    by_count [] sequences hold count = absurd (omega (arith, count))
    by_count (ms ∷ []) sequences hold count = (read_body ms sequences, hold)
    by_count (ms ∷ ns ∷ mss) sequences hold count = absurd (omega (arith, count))

    by_held : Held sections ⊎ HasFirst (documents_in sections) → (body : Body) × HasBody sections body
    by_held (inl h) = by_count h.mss h.sequences h.hold (h.count ∙ one)
    by_held (inr x) = (faulty_body x.0 x.1, x.2)

-- ---- messages

abbrev IsSome : List ℕ → Type 0
IsSome bytes = (r : Request) × (r.bytes ≡ bytes) × IsRequest r

some_msg : (bytes : List ℕ) → AreBytes bytes → length bytes ≤ most_bytes → number_at 0 bytes ≡ length bytes → opcode bytes ≡ op_msg → message_fault bytes ≡ None → IsSome bytes
some_msg bytes are most stated code sound =
    let right = msg_sound bytes sound code in
    let m = is_msg bytes are (msg_length bytes right) most stated code right in
    let any = m.2 (faulty_body short_fault 0) in
    let b = some_body m.0 any.each (rw m.1 at (AreBytes-drop 20 bytes are)) any.one in
    (record { id = cast_signed w32 (number_at 4 bytes); more = is_more (number_at 16 bytes); form = msg_form; body = b.0; bytes = bytes }, refl, (m.0, m.2 b.0, b.1))

some_query : (bytes : List ℕ) → AreBytes bytes → 16 ≤ length bytes → length bytes ≤ most_bytes → number_at 0 bytes ≡ length bytes → opcode bytes ≡ op_query → message_fault bytes ≡ None → IsSome bytes
some_query bytes are least most stated code sound =
    let right = query_sound bytes sound (λ e. omega (arith, e, code)) in
    let q = queries.is_sound bytes are (queries.least_query bytes right) most stated code right in
    let any = q (faulty_body short_fault 0) in
    let b = some_body (body_section (drop 39 bytes) ∷ []) (any.stated, tt) (lone_bytes (drop 39 bytes) (AreBytes-drop 39 bytes are)) refl in
    (record { id = cast_signed w32 (number_at 4 bytes); more = false; form = query_form; body = b.0; bytes = bytes }, refl, (drop 39 bytes, q b.0, b.1))

some_prefix : (n : ℕ) (bytes : List ℕ) → AreBytes bytes → IsWhole n bytes → IsSome (take n bytes)
some_prefix n bytes are w = by_code (prefix_code n bytes w) (length-take-le n bytes w.fits)
  where
    by_code : (opcode (take n bytes) ≡ op_msg) ⊎ (opcode (take n bytes) ≡ op_query) → length (take n bytes) ≡ n → IsSome (take n bytes)
    by_code (inl code) size = some_msg (take n bytes) (AreBytes-take n bytes are) (omega (arith, size, w.most)) (prefix_stated n bytes w) code w.sound
    by_code (inr code) size = some_query (take n bytes) (AreBytes-take n bytes are) (omega (arith, size, w.least)) (omega (arith, size, w.most)) (prefix_stated n bytes w) code w.sound

pub some_request : (n : ℕ) (bytes : List ℕ) → AreBytes bytes → outline bytes ≡ message_outline n → (r : Request) × (n ≡ length r.bytes) × IsFirst bytes r (drop n bytes)
some_request n bytes are e =
    let found = some_prefix n bytes are (is_whole n bytes e) in
    let f = is_first n bytes found.0 e found.1 found.2 in
    (found.0, sym f.1, f.0)

-- ---- readings

abbrev IsRead : ℕ → List ℕ → Type 0
IsRead offset bytes = (requests : List Request) × (rest : List ℕ) × (fault : Option (FrameFault × ℕ)) × FramesFrom offset bytes requests rest fault

by_outline : (offset : ℕ) (bytes : List ℕ) (o : Outline) → AreBytes bytes → outline bytes ≡ o → ((n behind : ℕ) → IsWhole n bytes → IsRead behind (drop n bytes)) → IsRead offset bytes
by_outline offset bytes partial_outline are e others = ([], bytes, None, ends offset bytes e)
by_outline offset bytes (faulty_outline fault) are e others = ([], bytes, Some (fault, offset), fails offset bytes fault e)
by_outline offset bytes (message_outline n) are e others =
    let f = some_request n bytes are e in
    let more = others n (offset + length f.0.bytes) (is_whole n bytes e) in
    (f.0 ∷ more.0, more.1, more.2, goes_on offset bytes (drop n bytes) f.0 more.0 more.1 more.2 f.2 more.3)

some_frames : (limit offset : ℕ) (bytes : List ℕ) → AreBytes bytes → length bytes < limit → IsRead offset bytes
some_frames zero offset bytes are low = absurd (omega (arith, low))
some_frames (suc limit) offset bytes are low =
    by_outline offset bytes (outline bytes) are refl
    (λ n behind w. some_frames limit behind (drop n bytes) (AreBytes-drop n bytes are) (omega (arith, low, w.least, w.fits, length-drop n bytes)))

pub some_reading : (bytes : List ℕ) → AreBytes bytes → IsRead 0 bytes
some_reading bytes are = some_frames (suc (length bytes)) 0 bytes are (omega arith)
