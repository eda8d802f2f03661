-- Bytes to try the definitions on.
use Rattle.std.specs.Prelude.{ℕ, List, [], ◌∷◌, ◌++◌}
use Rattle.opmsg_model.specs.Messages.{int32}

-- a header of this length and opcode, of request 1, which answers no message
abbrev pub header_stating : ℕ → ℕ → List ℕ
header_stating length code = int32 length ++ (int32 1 ++ (int32 0 ++ int32 code))

-- the bytes of the empty document
abbrev pub empty_document : List ℕ
empty_document = 5 ∷ 0 ∷ 0 ∷ 0 ∷ 0 ∷ []

-- request 1 with these flags and that document
abbrev pub least_bytes : ℕ → List ℕ
least_bytes flags = header_stating 26 2013 ++ (int32 flags ++ (0 ∷ empty_document))
