-- Messages of a connection (MongoDB Wire Protocol, "Standard Message Header"). Numbers are little-endian int32, given here as the numbers of their four
-- bytes: a negative one is 2^31 or more.
use Rattle.std.specs.Prelude.{ℕ, List, ◌++◌, take, drop}
use Rattle.std.specs.Int.{w32, to_le_bytes, from_le_bytes}

abbrev pub int32 : ℕ → List ℕ
int32 n = to_le_bytes w32 n

-- the four bytes from offset k, as a number
abbrev pub number_at : ℕ → List ℕ → ℕ
number_at k bytes = from_le_bytes w32 (take 4 (drop k bytes))

-- the supported opcodes
abbrev pub op_msg : ℕ
op_msg = 2013

abbrev pub op_query : ℕ
op_query = 2004

-- the greatest length of a supported message
abbrev pub most_bytes : ℕ
most_bytes = 48000000

-- the bytes of a header
abbrev pub header_length : ℕ
header_length = 16

-- the bytes of an OP_MSG before its sections: header and flags
abbrev pub sections_offset : ℕ
sections_offset = 20

abbrev pub stated_length : List ℕ → ℕ
stated_length bytes = number_at 0 bytes

abbrev pub opcode : List ℕ → ℕ
opcode bytes = number_at 12 bytes

-- a header: the length of the whole message, its id, the id that it answers, and its opcode
abbrev pub header : ℕ → ℕ → ℕ → ℕ → List ℕ
header length id answers code = int32 length ++ (int32 id ++ (int32 answers ++ int32 code))
