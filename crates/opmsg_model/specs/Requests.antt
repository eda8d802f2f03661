-- Requests, and the messages that they come in (MongoDB Wire Protocol, "OP_MSG", "OP_QUERY").
use Rattle.std.specs.Prelude.{◌≡◌, ℕ, ℤ, ◌+◌, ◌%◌, ◌<◌, ◌≤◌, ◌^◌, ◌⊎◌, ◌==◌, Bool, false, List, [], ◌∷◌, ◌++◌, length}
use Rattle.std.specs.Int.{w32, cast_signed}
use Rattle.std.specs.List.{flat_map, AllByRecursion}
use Rattle.bson_model.specs.Tree.{Fields}
use Rattle.bson_model.specs.Grammar.{ReadsAs, IsWithinDepth}
use Rattle.bson_model.specs.Faults.{Fault, HasFirstFault}
use Rattle.opmsg_model.specs.Messages.{int32, header, op_msg, op_query, most_bytes}
use Rattle.opmsg_model.specs.Sections.{Section, body_section, sequence_section, section_bytes, IsStated, IsSection, bodies, documents_in}

pub data Form : Type 0 where
  msg_form : Form
  query_form : Form

-- the documents of a request
pub data Body : Type 0 where
  -- its document, and its document sequences with their identifiers
  read_body : Fields → List (List ℕ × List Fields) → Body
  -- the first fault of the first document that has one; its offset counts from that document's first byte
  faulty_body : Fault → ℕ → Body

pub record Request : Type 0 where
  pub id : ℤ
  -- no reply is requested
  pub more : Bool
  pub form : Form
  pub body : Body
  -- the whole message
  pub bytes : List ℕ

-- the bits that a receiver must understand; the others may be any
abbrev pub low_flags : ℕ → ℕ
low_flags flags = flags % 2 ^ 16

-- bit 1 is moreToCome
abbrev pub is_more : ℕ → Bool
is_more flags = low_flags flags == 2

abbrev pub IsFlags : ℕ → Type 0
IsFlags flags = (low_flags flags ≡ 0) ⊎ (low_flags flags ≡ 2)

-- id, answered id, flags and sections
abbrev pub msg_bytes : ℕ → ℕ → ℕ → List Section → List ℕ
msg_bytes id answers flags sections =
    header (length (flat_map section_bytes sections) + 20) id answers op_msg ++ (int32 flags ++ flat_map section_bytes sections)

-- the text admin.$cmd and 00
abbrev pub admin_command : List ℕ
admin_command = 97 ∷ 100 ∷ 109 ∷ 105 ∷ 110 ∷ 46 ∷ 36 ∷ 99 ∷ 109 ∷ 100 ∷ 0 ∷ []

-- id, answered id, flags, how many to skip and to return, and a document
abbrev pub query_bytes : ℕ → ℕ → ℕ → ℕ → ℕ → List ℕ → List ℕ
query_bytes id answers flags skip count document =
    header (length document + 39) id answers op_query ++ (int32 flags ++ (admin_command ++ (int32 skip ++ (int32 count ++ document))))

-- isMaster, ismaster or hello
abbrev pub IsGreeting : List ℕ → Type 0
IsGreeting name =
    (name ≡ 105 ∷ 115 ∷ 77 ∷ 97 ∷ 115 ∷ 116 ∷ 101 ∷ 114 ∷ [])
    ⊎ (name ≡ 105 ∷ 115 ∷ 109 ∷ 97 ∷ 115 ∷ 116 ∷ 101 ∷ 114 ∷ [])
    ⊎ (name ≡ 104 ∷ 101 ∷ 108 ∷ 108 ∷ 111 ∷ [])

-- these bytes, all of them, encode a supported document
abbrev pub IsKept : List ℕ → Fields → Type 0
IsKept bytes ms = ReadsAs bytes ms × IsWithinDepth ms

abbrev pub IsReadable : List ℕ → Type 0
IsReadable bytes = (ms : Fields) × IsKept bytes ms

abbrev pub AreKept : List (List ℕ) → List Fields → Type 0
AreKept [] mss = mss ≡ []
AreKept (bytes ∷ documents) mss = (ms : Fields) × (others : List Fields) × (mss ≡ ms ∷ others) × IsKept bytes ms × AreKept documents others

-- what the sections contain: the documents of those of kind 0, and the sequences
abbrev pub Hold : List Section → List Fields → List (List ℕ × List Fields) → Type 0
Hold [] mss sequences = (mss ≡ []) × (sequences ≡ [])
Hold (body_section document ∷ sections) mss sequences =
    (ms : Fields) × (others : List Fields) × (mss ≡ ms ∷ others) × IsKept document ms × Hold sections others sequences
Hold (sequence_section identifier documents ∷ sections) mss sequences =
    (kept : List Fields) × (others : List (List ℕ × List Fields)) × (sequences ≡ (identifier, kept) ∷ others) × AreKept documents kept × Hold sections mss others

-- one of these documents has this first fault, and those before it are supported
abbrev pub FirstFaulty : List (List ℕ) → Fault → ℕ → Type 0
FirstFaulty [] fault offset = ⊥
FirstFaulty (bytes ∷ documents) fault offset = HasFirstFault bytes fault offset ⊎ (IsReadable bytes × FirstFaulty documents fault offset)

abbrev pub HasBody : List Section → Body → Type 0
HasBody sections (read_body ms sequences) = Hold sections (ms ∷ []) sequences
HasBody sections (faulty_body fault offset) = FirstFaulty (documents_in sections) fault offset

-- the request is the message of OP_MSG with these sections
pub record IsMsg (r : Request) (sections : List Section) : Type 0 where
  pub number : ℕ
  pub answers : ℕ
  pub flags : ℕ
  pub number_fits : number < 2 ^ 32
  pub answers_fit : answers < 2 ^ 32
  pub flags_fit : flags < 2 ^ 32
  pub whole : r.bytes ≡ msg_bytes number answers flags sections
  pub most : length r.bytes ≤ most_bytes
  pub id : r.id ≡ cast_signed w32 number
  pub taken : IsFlags flags
  pub more : r.more ≡ is_more flags
  pub each : AllByRecursion IsSection sections
  pub one : bodies sections ≡ 1

-- the request is the message of OP_QUERY with this document, whose first name is a greeting
pub record IsQuery (r : Request) (document : List ℕ) : Type 0 where
  pub number : ℕ
  pub answers : ℕ
  pub flags : ℕ
  pub skip : ℕ
  pub count : ℕ
  pub number_fits : number < 2 ^ 32
  pub answers_fit : answers < 2 ^ 32
  pub flags_fit : flags < 2 ^ 32
  pub skip_fits : skip < 2 ^ 32
  pub count_fits : count < 2 ^ 32
  pub whole : r.bytes ≡ query_bytes number answers flags skip count document
  pub most : length r.bytes ≤ most_bytes
  pub id : r.id ≡ cast_signed w32 number
  pub more : r.more ≡ false
  pub stated : IsStated document
  pub greeting : (kind : ℕ) × (name : List ℕ) × (behind : List ℕ) × IsGreeting name × (0 < kind) × (document ≡ int32 (length document) ++ (kind ∷ name ++ 0 ∷ behind))

-- a request is the content of its message
abbrev pub IsForm : Request → Form → Type 0
IsForm r msg_form = (sections : List Section) × IsMsg r sections × HasBody sections r.body
IsForm r query_form = (document : List ℕ) × IsQuery r document × HasBody (body_section document ∷ []) r.body

abbrev pub IsRequest : Request → Type 0
IsRequest r = IsForm r r.form
