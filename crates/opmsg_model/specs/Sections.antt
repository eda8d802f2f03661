-- The sections of a message (MongoDB Wire Protocol, "OP_MSG": Kind 0 Body, Kind 1 Document Sequence). A document is given as its bytes, of which only the
-- stated length is read.
use Rattle.std.specs.Prelude.{◌≡◌, ℕ, ◌+◌, ◌≤◌, List, [], ◌∷◌, ◌++◌, length}
use Rattle.std.specs.List.{concat, AllByRecursion}
use Rattle.std.specs.Str.{IsUtf8}
use Rattle.bson_model.specs.Grammar.{HasNoZero}
use Rattle.opmsg_model.specs.Messages.{int32, number_at}

pub data Section : Type 0 where
  -- the bytes of its document
  body_section : List ℕ → Section
  -- its identifier, and the bytes of each of its documents
  sequence_section : List ℕ → List (List ℕ) → Section

-- the content of a section of kind 1 after its size, which counts its own four bytes
abbrev pub sequence_bytes : List ℕ → List (List ℕ) → List ℕ
sequence_bytes identifier documents = identifier ++ (0 ∷ concat documents)

abbrev pub section_bytes : Section → List ℕ
section_bytes (body_section document) = 0 ∷ document
section_bytes (sequence_section identifier documents) =
    1 ∷ (int32 (length (sequence_bytes identifier documents) + 4) ++ sequence_bytes identifier documents)

-- a document has as many bytes as its first four state
abbrev pub IsStated : List ℕ → Type 0
IsStated document = (5 ≤ length document) × (number_at 0 document ≡ length document)

abbrev pub IsSection : Section → Type 0
IsSection (body_section document) = IsStated document
IsSection (sequence_section identifier documents) = IsUtf8 identifier × HasNoZero identifier × AllByRecursion IsStated documents

-- how many sections of kind 0 there are
abbrev pub bodies : List Section → ℕ
bodies [] = 0
bodies (body_section document ∷ sections) = bodies sections + 1
bodies (sequence_section identifier documents ∷ sections) = bodies sections

-- the documents, in the order of the message
abbrev pub documents_in : List Section → List (List ℕ)
documents_in [] = []
documents_in (body_section document ∷ sections) = document ∷ documents_in sections
documents_in (sequence_section identifier documents ∷ sections) = documents ++ documents_in sections
