-- The documents of a request are small, and the offset of its fault is within the message.
use Rattle.std.proofs.Common.{◌≡◌, ℕ, ◌-◌, ◌≤◌, inl, inr, List, [], ◌∷◌, length, sym, ap, subst, ◌∙◌, arith, length-append, length-drop}
use Rattle.std.specs.List.{AllByRecursion, concat, flat_map}
use Rattle.bson_model.specs.Tree.{Fields}
use Rattle.bson_model.specs.Faults.{Fault}
use Rattle.opmsg_model.specs.Sections.{Section, body_section, sequence_section, section_bytes, documents_in}
use Rattle.opmsg_model.specs.Requests.{Request, Form, msg_form, query_form, Body, read_body, faulty_body, AreKept, FirstFaulty, Hold, HasBody, IsForm, IsRequest}
use Rattle.opmsg_model.specs.MessageSizes.{IsSmall, IsSmallBody}
use Rattle.opmsg_frames.proofs.MessageParts.{msg_parts, query_parts}
use Rattle.opmsg_frames.proofs.OneBody.{all_append, prefixes, backs}
use Rattle.opmsg_frames.proofs.SmallSpellings.{kept_small}
use Rattle.opmsg_frames.proofs.WalkOffsets.{fault_within}

-- no longer than a message
abbrev IsShort : List ℕ → Type 0
IsShort bytes = length bytes ≤ 48000000

-- ---- documents are within their sections

documents_short : (documents : List (List ℕ)) → IsShort (concat documents) → AllByRecursion IsShort documents
documents_short [] few = tt
documents_short (d ∷ documents) few =
    (omega (arith, few, length-append d (concat documents)), documents_short documents (omega (arith, few, length-append d (concat documents))))

sections_short : (sections : List Section) → IsShort (flat_map section_bytes sections) → AllByRecursion IsShort (documents_in sections)
sections_short [] few = tt
sections_short (body_section d ∷ sections) few =
    let size = length-append d (flat_map section_bytes sections) in
    (omega (arith, few, size), sections_short sections (omega (arith, few, size)))
sections_short (sequence_section i documents ∷ sections) few =
    let size = length-append (section_bytes (sequence_section i documents)) (flat_map section_bytes sections) in
    let content = length-append i (0 ∷ concat documents) in
    all_append IsShort documents (documents_in sections) (documents_short documents (omega (arith, few, size, content))) (sections_short sections (omega (arith, few, size)))

-- what is read from short documents

are_small : (documents : List (List ℕ)) (mss : List Fields) → AllByRecursion IsShort documents → AreKept documents mss → AllByRecursion IsSmall mss
are_small [] mss few none = subst (λ (l : List Fields). AllByRecursion IsSmall l) (sym none) tt
are_small (d ∷ documents) mss few (ms, others, e, kept, more) =
    subst (λ (l : List Fields). AllByRecursion IsSmall l) (sym e) (kept_small d ms kept few.0, are_small documents others few.1 more)

abbrev AreSmall : List (List ℕ × List Fields) → Type 0
AreSmall sequences = AllByRecursion (λ s. AllByRecursion IsSmall s.1) sequences

held_small : (sections : List Section) (mss : List Fields) (sequences : List (List ℕ × List Fields)) → AllByRecursion IsShort (documents_in sections) → Hold sections mss sequences → AllByRecursion IsSmall mss × AreSmall sequences
held_small [] mss sequences few (none, nothing) =
    (subst (λ (l : List Fields). AllByRecursion IsSmall l) (sym none) tt, subst (λ (l : List (List ℕ × List Fields)). AreSmall l) (sym nothing) tt)
held_small (body_section d ∷ sections) mss sequences few (ms, others, e, kept, more) =
    let behind = held_small sections others sequences few.1 more in
    (subst (λ (l : List Fields). AllByRecursion IsSmall l) (sym e) (kept_small d ms kept few.0, behind.0), behind.1)
held_small (sequence_section i documents ∷ sections) mss sequences few (kept, others, e, are, more) =
    let behind = held_small sections mss others (backs IsShort documents (documents_in sections) few) more in
    let here = are_small documents kept (prefixes IsShort documents (documents_in sections) few) are in
    (behind.0, subst (λ (l : List (List ℕ × List Fields)). AreSmall l) (sym e) (here, behind.1))

faulty_short : (documents : List (List ℕ)) (fault : Fault) (offset : ℕ) → AllByRecursion IsShort documents → FirstFaulty documents fault offset → offset ≤ 48000000
faulty_short [] fault offset few found = absurd found
faulty_short (d ∷ documents) fault offset few (inl first) = omega (arith, few.0, fault_within d fault offset first)
faulty_short (d ∷ documents) fault offset few (inr behind) = faulty_short documents fault offset few.1 behind.1

body_small : (sections : List Section) (body : Body) → AllByRecursion IsShort (documents_in sections) → HasBody sections body → IsSmallBody body
body_small sections (read_body ms sequences) few holds =
    let all = held_small sections (ms ∷ []) sequences few holds in
    (all.0.0, all.1)
body_small sections (faulty_body fault offset) few found = faulty_short (documents_in sections) fault offset few found

-- ---- requests

by_form : (request : Request) (form : Form) → IsForm request form → IsSmallBody request.body
by_form request msg_form (sections, m, holds) =
    let p = msg_parts request sections m in
    let size : length (flat_map section_bytes sections) ≡ length request.bytes - 20 = ap (λ (l : List ℕ). length l) (sym p.behind) ∙ length-drop 20 request.bytes in
    body_small sections request.body (sections_short sections (omega (arith, size, p.most))) holds
by_form request query_form (document, q, holds) =
    let p = query_parts request document q in
    body_small (body_section document ∷ []) request.body (omega (arith, p.size, p.most), tt) holds

pub request_small : (request : Request) → IsRequest request → IsSmallBody request.body
request_small request is = by_form request request.form is
