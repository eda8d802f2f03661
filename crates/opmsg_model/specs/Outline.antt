-- What the bytes of a connection begin with, by tests on the bytes in order: less than a whole message, a whole message whose outline is valid, or a fault.
-- Of documents only the stated lengths are read here, and of the document of an OP_QUERY message its first name.
use Rattle.std.specs.Prelude.{ℕ, zero, suc, ◌+◌, ◌-◌, ◌^◌, ◌==◌, List, [], ◌∷◌, length, take, drop, slice_index, Bool, true, false, ◌&&◌, ◌||◌, not, Option, Some, None, nat_le, nat_lt, if◌then◌else◌}
use Rattle.std.specs.Str.{is_utf8, bytes_eq}
use Rattle.bson_model.specs.Faults.{before_zero}
use Rattle.opmsg_model.specs.Messages.{header_length, number_at, stated_length, opcode, op_msg, op_query, most_bytes, sections_offset}
use Rattle.opmsg_model.specs.Requests.{low_flags, admin_command}

-- why bytes are not a message
pub data FrameFault : Type 0 where
  -- it states a length below that of a header
  bad_length : FrameFault
  -- it states a length above the greatest one
  too_long : FrameFault
  bad_opcode : FrameFault
  -- a flag bit that must be understood is set, or there are no flags
  bad_flags : FrameFault
  -- a section is neither of kind 0 nor of kind 1
  bad_kind : FrameFault
  -- a length is below 5 or exceeds what contains it, or an identifier has no 00 or is not UTF-8
  bad_section : FrameFault
  two_bodies : FrameFault
  no_body : FrameFault
  -- a message of OP_QUERY that is not a greeting
  bad_query : FrameFault

pub data Outline : Type 0 where
  partial_outline : Outline
  -- the number of its bytes
  message_outline : ℕ → Outline
  faulty_outline : FrameFault → Outline

-- the length that the bytes begin with is at least 5 and within them
abbrev pub has_stated : List ℕ → Bool
has_stated bytes = nat_le 5 (length bytes) && nat_le 5 (number_at 0 bytes) && nat_le (number_at 0 bytes) (length bytes)

-- what comes next in the sections
pub data Next : Type 0 where
  no_section : Next
  unknown_kind : Next
  -- a size that does not say where the next section begins
  bad_size : Next
  -- the document, and what follows it
  next_body : List ℕ → List ℕ → Next
  -- what follows the size, and what follows the section
  next_sequence : List ℕ → List ℕ → Next

abbrev pub next_section : List ℕ → Next
next_section [] = no_section
next_section (kind ∷ bytes) =
    if kind == 0 then (if has_stated bytes then next_body (take (number_at 0 bytes) bytes) (drop (number_at 0 bytes) bytes) else bad_size)
    else if kind == 1 then (if has_stated bytes then next_sequence (drop 4 (take (number_at 0 bytes) bytes)) (drop (number_at 0 bytes) bytes) else bad_size)
    else unknown_kind

-- The bytes are documents, one after the other, at most n.
unfoldable pub are_documents : ℕ → List ℕ → Bool
are_documents n [] = true
are_documents zero (b ∷ bytes) = false
are_documents (suc n) (b ∷ bytes) =
    if has_stated (b ∷ bytes) then are_documents n (drop (number_at 0 (b ∷ bytes)) (b ∷ bytes)) else false

-- an identifier, 00 and documents
abbrev pub is_named : List ℕ → Option (List ℕ) → Bool
is_named content None = false
is_named content (Some name) =
    is_utf8 name && are_documents (length content) (drop (length name + 1) content)

abbrev pub is_sequence : List ℕ → Bool
is_sequence content = is_named content (before_zero content)

-- the fault at the end of the sections, by the number of bodies and whether another section was bad
abbrev pub ended_fault : ℕ → Bool → Option FrameFault
ended_fault bodies true = Some bad_section
ended_fault zero false = Some no_body
ended_fault (suc zero) false = None
ended_fault (suc (suc bodies)) false = Some two_bodies

-- the fault of what comes next, and of the sections after it
unfoldable pub behind_fault : (ℕ → Bool → List ℕ → Option FrameFault) → ℕ → Bool → Next → Option FrameFault
behind_fault others bodies bad no_section = ended_fault bodies bad
behind_fault others bodies bad unknown_kind = Some bad_kind
behind_fault others bodies bad bad_size = Some bad_section
behind_fault others bodies bad (next_body document rest) = others (bodies + 1) bad rest
behind_fault others bodies bad (next_sequence content rest) = others bodies (bad || not (is_sequence content)) rest

-- The fault of the sections that are left, at most n, by the number of bodies before them and whether a section before them was bad.
unfoldable pub sections_fault : ℕ → ℕ → Bool → List ℕ → Option FrameFault
sections_fault zero bodies bad bytes = Some bad_section
sections_fault (suc n) bodies bad bytes = behind_fault (sections_fault n) bodies bad (next_section bytes)

abbrev pub takes_flags : ℕ → Bool
takes_flags flags = low_flags flags == 0 || low_flags flags == 2

-- the fault of a whole message of OP_MSG
abbrev pub msg_fault : List ℕ → Option FrameFault
msg_fault bytes =
    if nat_lt (length bytes) sections_offset then Some bad_flags
    else if takes_flags (number_at 16 bytes) then sections_fault (length bytes) 0 false (drop sections_offset bytes)
    else Some bad_flags

-- isMaster, ismaster or hello
abbrev pub greets : Option (List ℕ) → Bool
greets None = false
greets (Some name) =
    bytes_eq name (105 ∷ 115 ∷ 77 ∷ 97 ∷ 115 ∷ 116 ∷ 101 ∷ 114 ∷ [])
    || bytes_eq name (105 ∷ 115 ∷ 109 ∷ 97 ∷ 115 ∷ 116 ∷ 101 ∷ 114 ∷ [])
    || bytes_eq name (104 ∷ 101 ∷ 108 ∷ 108 ∷ 111 ∷ [])

-- a whole message of OP_QUERY is a valid greeting
abbrev pub is_query : List ℕ → Bool
is_query bytes =
    nat_le 44 (length bytes)
    && bytes_eq (take 11 (drop 20 bytes)) admin_command
    && (number_at 39 bytes == length bytes - 39)
    && nat_lt 0 (slice_index bytes 43)
    && greets (before_zero (drop 44 bytes))

-- the fault of a whole message with one of the two opcodes
abbrev pub message_fault : List ℕ → Option FrameFault
message_fault bytes =
    if opcode bytes == op_msg then msg_fault bytes
    else if is_query bytes then None
    else Some bad_query

-- the fault of a header; a negative length, too, is below that of a header
abbrev pub header_fault : List ℕ → Option FrameFault
header_fault bytes =
    if nat_lt (stated_length bytes) header_length || nat_le (2 ^ 31) (stated_length bytes) then Some bad_length
    else if nat_lt most_bytes (stated_length bytes) then Some too_long
    else if opcode bytes == op_msg || opcode bytes == op_query then None
    else Some bad_opcode

abbrev pub whole_outline : ℕ → Option FrameFault → Outline
whole_outline n None = message_outline n
whole_outline n (Some fault) = faulty_outline fault

abbrev pub headed_outline : List ℕ → Option FrameFault → Outline
headed_outline bytes (Some fault) = faulty_outline fault
headed_outline bytes None =
    if nat_lt (length bytes) (stated_length bytes) then partial_outline
    else whole_outline (stated_length bytes) (message_fault (take (stated_length bytes) bytes))

abbrev pub outline : List ℕ → Outline
outline bytes = if nat_lt (length bytes) header_length then partial_outline else headed_outline bytes (header_fault bytes)
