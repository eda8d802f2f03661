-- The requests of the definitions whose heads are stored.
use Rattle.std.specs.Prelude.{ℕ, List, [], ◌∷◌}
use Rattle.bson_model.specs.Tree.{no_fields}
use Rattle.opmsg_model.specs.Requests as wire
use Rattle.opmsg_frames.specs.RequestMeanings.{form_view}
use Rattle.opmsg_frames.specs.declared.request.Request.{Request}
use Rattle.protocol_model.specs.Requests.{body_of}
use Rattle.protocol_model.specs.declared.head.Head.{Head}

abbrev pub body_came : List (Request × ℕ) → wire.Body
body_came [] = wire.read_body no_fields []
body_came (c ∷ more) = body_of c.0.body

abbrev pub bytes_came : List (Request × ℕ) → List ℕ
bytes_came [] = []
bytes_came (c ∷ more) = c.0.bytes

-- the request that came: its documents and its bytes exist only for proofs
abbrev pub head_request : Head → wire.Request
head_request h = record { id = h.id; more = h.more; form = form_view h.form; body = body_came h.came.items; bytes = bytes_came h.came.items }
