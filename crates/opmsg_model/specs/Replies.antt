-- The bytes of a reply (MongoDB Wire Protocol, "OP_MSG", "OP_REPLY").
use Rattle.std.specs.Prelude.{ℕ, ℤ, ◌+◌, List, [], ◌∷◌, ◌++◌, length, replicate}
use Rattle.std.specs.Int.{w32, cast_unsigned}
use Rattle.bson_model.specs.Tree.{Fields}
use Rattle.bson_model.specs.Spelling.{written}
use Rattle.opmsg_model.specs.Messages.{int32, header, op_msg}
use Rattle.opmsg_model.specs.Requests.{Form, msg_form, query_form}

abbrev pub op_reply : ℕ
op_reply = 1

-- What precedes the document of `size` bytes in the reply with this number to the request with this id. To OP_MSG: flags 0 and a section of kind 0. To
-- OP_QUERY: flags 8, cursor 0, starting from 0, one document.
abbrev pub reply_head : Form → ℤ → ℤ → ℕ → List ℕ
reply_head msg_form id number size =
    header (size + 21) (cast_unsigned w32 number) (cast_unsigned w32 id) op_msg ++ (int32 0 ++ 0 ∷ [])
reply_head query_form id number size =
    header (size + 36) (cast_unsigned w32 number) (cast_unsigned w32 id) op_reply
    ++ (int32 8 ++ (replicate 8 0 ++ (int32 0 ++ int32 1)))

abbrev pub reply_bytes : Form → ℤ → ℤ → Fields → List ℕ
reply_bytes form id number document = reply_head form id number (length (written document)) ++ written document
