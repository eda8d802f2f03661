-- The program's outlines as those of the definitions.
use Rattle.std.specs.Prelude.{ℕ, ◌+◌, List, length, drop, Bool, true, false, Option, Some, None}
use Rattle.std.specs.Str.{is_utf8}
use Rattle.bson_model.specs.Faults.{before_zero}
use Rattle.opmsg_model.specs.Outline as wire
use Rattle.opmsg_frames.specs.declared.fault.Malformed.{Malformed}
use Rattle.opmsg_frames.specs.declared.fault.Malformed.TheVariants.{BadLength, TooLong, BadOpcode, BadFlags, BadKind, BadSection, TwoBodies, NoBody, BadQuery}
use Rattle.opmsg_frames.specs.declared.outline.Outline.{Outline}
use Rattle.opmsg_frames.specs.declared.outline.Outline.TheVariants.{Partial, Message, Faulty}
use Rattle.opmsg_frames.specs.declared.sections.Next.{Next}
use Rattle.opmsg_frames.specs.declared.sections.Next.TheVariants.{Nothing, UnknownKind, BadSize, Body, Sequence}

abbrev pub fault_view : Malformed → wire.FrameFault
fault_view BadLength = wire.bad_length
fault_view TooLong = wire.too_long
fault_view BadOpcode = wire.bad_opcode
fault_view BadFlags = wire.bad_flags
fault_view BadKind = wire.bad_kind
fault_view BadSection = wire.bad_section
fault_view TwoBodies = wire.two_bodies
fault_view NoBody = wire.no_body
fault_view BadQuery = wire.bad_query

abbrev pub outline_view : Outline → wire.Outline
outline_view Partial = wire.partial_outline
outline_view (Message count) = wire.message_outline count
outline_view (Faulty fault) = wire.faulty_outline (fault_view fault)

abbrev pub next_view : Next → wire.Next
next_view Nothing = wire.no_section
next_view UnknownKind = wire.unknown_kind
next_view BadSize = wire.bad_size
next_view (Body document behind) = wire.next_body document.now behind.now
next_view (Sequence content behind) = wire.next_sequence content.now behind.now

-- a property of the bytes after a section, if there is one
abbrev pub IfBehind : Next → (List ℕ → Type 0) → Type 0
IfBehind (Body document behind) holds = holds behind.now
IfBehind (Sequence content behind) holds = holds behind.now
IfBehind next holds = Unit {0}

-- the identifier of a document sequence, if it is a text, and what follows its 00
abbrev pub parts_if : Bool → List ℕ → List ℕ → Option (List ℕ × List ℕ)
parts_if false content name = None
parts_if true content name = Some (name, drop (length name + 1) content)

abbrev pub parts_by : List ℕ → Option (List ℕ) → Option (List ℕ × List ℕ)
parts_by content None = None
parts_by content (Some name) = parts_if (is_utf8 name) content name

abbrev pub sequence_parts : List ℕ → Option (List ℕ × List ℕ)
sequence_parts content = parts_by content (before_zero content)

abbrev pub text_if : Bool → List ℕ → Option (List ℕ)
text_if false bytes = None
text_if true bytes = Some bytes
