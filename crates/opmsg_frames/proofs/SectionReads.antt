-- Reading sections one after the other: what was read, and what is left.
use Rattle.std.proofs.Common.{◌≡◌, ℕ, ◌<◌, ◌^◌, ◌⊎◌, inl, inr, List, [], ◌∷◌, ◌++◌, length, refl, arith, length-append, append_assoc}
use Rattle.std.specs.List.{AllByRecursion, flat_map}
use Rattle.std.proofs.lemmas.List.{append-nil}
use Rattle.bson_model.specs.Tree.{Fields}
use Rattle.bson_model.specs.Faults.{Fault, HasFirstFault}
use Rattle.opmsg_model.specs.Sections.{Section, body_section, sequence_section, sequence_bytes, section_bytes, IsStated, IsSection, bodies, documents_in}
use Rattle.opmsg_model.specs.Requests.{IsKept, AreKept, FirstFaulty, Hold}
use Rattle.opmsg_model.specs.Outline.{no_section, unknown_kind, bad_size, next_body, next_sequence, next_section}
use Rattle.opmsg_frames.proofs.SectionPrefixes.{next_of, next_is}

-- either the body is still to come, or it was this document
abbrev pub Held : List Section → List Section → Fields → List (List ℕ × List Fields) → Type 0
Held sections left doc read =
    ((bodies left ≡ 1) × ((ms : Fields) (sequences : List (List ℕ × List Fields)) → Hold left (ms ∷ []) sequences → Hold sections (ms ∷ []) (read ++ sequences)))
    ⊎ ((bodies left ≡ 0) × ((sequences : List (List ℕ × List Fields)) → Hold left [] sequences → Hold sections (doc ∷ []) (read ++ sequences)))

pub record Left (sections left : List Section) (rest : List ℕ) (doc : Fields) (read : List (List ℕ × List Fields)) : Type 0 where
  pub split : rest ≡ flat_map section_bytes left
  pub low : length rest < 2 ^ 32
  pub each : AllByRecursion IsSection left
  pub held : Held sections left doc read
  pub faulty : (fault : Fault) (offset : ℕ) → FirstFaulty (documents_in left) fault offset → FirstFaulty (documents_in sections) fault offset

pub none_read : (sections : List Section) (bytes : List ℕ) (doc : Fields) → bytes ≡ flat_map section_bytes sections → length bytes < 2 ^ 32 → AllByRecursion IsSection sections → bodies sections ≡ 1 → Left sections sections bytes doc []
none_read sections bytes doc e low each one = record { split = e; low = low; each = each; held = inl (one, λ ms sequences hold. hold); faulty = λ fault offset found. found }

-- what comes next
pub next_left : (sections left : List Section) (rest : List ℕ) (doc : Fields) (read : List (List ℕ × List Fields)) → Left sections left rest doc read → next_section rest ≡ next_of left
next_left sections left rest doc read l = rw l.split (next_is left l.each (rw l.split at l.low))

-- a body comes next
pub record AtBody (sections : List Section) (doc : Fields) (read : List (List ℕ × List Fields)) (document behind : List ℕ) : Type 0 where
  pub stated : IsStated document
  pub kept : (ms : Fields) → IsKept document ms → (more : List Section) × Left sections more behind ms read
  pub faulty : (fault : Fault) (offset : ℕ) → HasFirstFault document fault offset → FirstFaulty (documents_in sections) fault offset

held_body : (sections left : List Section) (document : List ℕ) (doc ms : Fields) (read : List (List ℕ × List Fields)) → IsKept document ms → Held sections (body_section document ∷ left) doc read → Held sections left ms read
held_body sections left document doc ms read kept (inl h) = inr (omega (arith, h.0), λ sequences hold. h.1 ms sequences (ms, [], refl, kept, hold))
held_body sections left document doc ms read kept (inr h) = absurd (omega (arith, h.0))

pub at_body : (sections left : List Section) (rest : List ℕ) (doc : Fields) (read : List (List ℕ × List Fields)) (document behind : List ℕ) → next_body document behind ≡ next_of left → Left sections left rest doc read → AtBody sections doc read document behind
at_body sections [] rest doc read document behind e l = absurd (let q : next_body document behind ≡ no_section = e in cc)
at_body sections (sequence_section identifier documents ∷ left) rest doc read document behind e l = absurd (let q : next_body document behind ≡ next_sequence (sequence_bytes identifier documents) (flat_map section_bytes left) = e in cc)
at_body sections (body_section d ∷ left) rest doc read document behind e l =
    let q : next_body document behind ≡ next_body d (flat_map section_bytes left) = e in
    let prefix : document ≡ d = cc in
    let back : behind ≡ flat_map section_bytes left = cc in
    rw prefix
    (record {
      stated = l.each.0;
      kept = λ ms kept. (
        left,
        record {
          split = back;
          low = rw back (omega (arith, rw l.split at l.low, length-append d (flat_map section_bytes left)));
          each = l.each.1;
          held = held_body sections left d doc ms read kept l.held;
          faulty = λ fault offset found. l.faulty fault offset (inr ((ms, kept), found));
        },
      );
      faulty = λ fault offset found. l.faulty fault offset (inl found);
    })

-- a document sequence comes next
pub record AtSequence (sections : List Section) (doc : Fields) (read : List (List ℕ × List Fields)) (content behind : List ℕ) : Type 0 where
  pub identifier : List ℕ
  pub documents : List (List ℕ)
  pub split : content ≡ sequence_bytes identifier documents
  pub section : IsSection (sequence_section identifier documents)
  pub kept : (mss : List Fields) → AreKept documents mss → (more : List Section) × Left sections more behind doc (read ++ (identifier, mss) ∷ [])
  pub faulty : (fault : Fault) (offset : ℕ) → FirstFaulty documents fault offset → FirstFaulty (documents_in sections) fault offset

held_sequence : (sections left : List Section) (identifier : List ℕ) (documents : List (List ℕ)) (doc : Fields) (mss : List Fields) (read : List (List ℕ × List Fields)) → AreKept documents mss → Held sections (sequence_section identifier documents ∷ left) doc read → Held sections left doc (read ++ (identifier, mss) ∷ [])
held_sequence sections left identifier documents doc mss read kept (inl h) =
    inl (h.0, λ ms sequences hold. rw (append_assoc read ((identifier, mss) ∷ []) sequences) (h.1 ms ((identifier, mss) ∷ sequences) (mss, sequences, refl, kept, hold)))
held_sequence sections left identifier documents doc mss read kept (inr h) =
    inr (h.0, λ sequences hold. rw (append_assoc read ((identifier, mss) ∷ []) sequences) (h.1 ((identifier, mss) ∷ sequences) (mss, sequences, refl, kept, hold)))

pub faulty_prefix : (documents more : List (List ℕ)) (fault : Fault) (offset : ℕ) → FirstFaulty documents fault offset → FirstFaulty (documents ++ more) fault offset
faulty_prefix [] more fault offset found = absurd found
faulty_prefix (d ∷ documents) more fault offset (inl found) = inl found
faulty_prefix (d ∷ documents) more fault offset (inr found) = inr (found.0, faulty_prefix documents more fault offset found.1)

pub faulty_behind : (documents more : List (List ℕ)) (mss : List Fields) (fault : Fault) (offset : ℕ) → AreKept documents mss → FirstFaulty more fault offset → FirstFaulty (documents ++ more) fault offset
faulty_behind [] more mss fault offset kept found = found
faulty_behind (d ∷ documents) more mss fault offset (ms, others, e, first, kept) found = inr ((ms, first), faulty_behind documents more others fault offset kept found)

pub at_sequence : (sections left : List Section) (rest : List ℕ) (doc : Fields) (read : List (List ℕ × List Fields)) (content behind : List ℕ) → next_sequence content behind ≡ next_of left → Left sections left rest doc read → AtSequence sections doc read content behind
at_sequence sections [] rest doc read content behind e l = absurd (let q : next_sequence content behind ≡ no_section = e in cc)
at_sequence sections (body_section d ∷ left) rest doc read content behind e l = absurd (let q : next_sequence content behind ≡ next_body d (flat_map section_bytes left) = e in cc)
at_sequence sections (sequence_section identifier documents ∷ left) rest doc read content behind e l =
    let q : next_sequence content behind ≡ next_sequence (sequence_bytes identifier documents) (flat_map section_bytes left) = e in
    let prefix : content ≡ sequence_bytes identifier documents = cc in
    let back : behind ≡ flat_map section_bytes left = cc in
    record {
      identifier = identifier;
      documents = documents;
      split = prefix;
      section = l.each.0;
      kept = λ mss kept. (
        left,
        record {
          split = back;
          low = rw back (omega (arith, rw l.split at l.low, length-append (sequence_bytes identifier documents) (flat_map section_bytes left)));
          each = l.each.1;
          held = held_sequence sections left identifier documents doc mss read kept l.held;
          faulty = λ fault offset found. l.faulty fault offset (faulty_behind documents (documents_in left) mss fault offset kept found);
        },
      );
      faulty = λ fault offset found. l.faulty fault offset (faulty_prefix documents (documents_in left) fault offset found);
    }

-- no section is left
pub at_end : (sections left : List Section) (rest : List ℕ) (doc : Fields) (read : List (List ℕ × List Fields)) → no_section ≡ next_of left → Left sections left rest doc read → Hold sections (doc ∷ []) read
at_end sections [] rest doc read e l = ended l.held
  where
    ended : Held sections [] doc read → Hold sections (doc ∷ []) read
    ended (inl h) = absurd (omega (arith, h.0))
    ended (inr h) = rw (append-nil read) at (h.1 [] (refl, refl))
at_end sections (body_section d ∷ left) rest doc read e l = absurd (let q : no_section ≡ next_body d (flat_map section_bytes left) = e in cc)
at_end sections (sequence_section identifier documents ∷ left) rest doc read e l = absurd (let q : no_section ≡ next_sequence (sequence_bytes identifier documents) (flat_map section_bytes left) = e in cc)

-- each section that is left is of kind 0 or 1
pub no_other_kind : (left : List Section) → unknown_kind ≡ next_of left → ⊥
no_other_kind [] e = let q : unknown_kind ≡ no_section = e in cc
no_other_kind (body_section d ∷ left) e = let q : unknown_kind ≡ next_body d (flat_map section_bytes left) = e in cc
no_other_kind (sequence_section identifier documents ∷ left) e = let q : unknown_kind ≡ next_sequence (sequence_bytes identifier documents) (flat_map section_bytes left) = e in cc

pub no_bad_size : (left : List Section) → bad_size ≡ next_of left → ⊥
no_bad_size [] e = let q : bad_size ≡ no_section = e in cc
no_bad_size (body_section d ∷ left) e = let q : bad_size ≡ next_body d (flat_map section_bytes left) = e in cc
no_bad_size (sequence_section identifier documents ∷ left) e = let q : bad_size ≡ next_sequence (sequence_bytes identifier documents) (flat_map section_bytes left) = e in cc
