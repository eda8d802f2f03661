-- The requests in the bytes of a connection, the rest that is not a whole message, and the first fault, after which nothing is read as a request. An offset
-- counts the bytes before it.
use Rattle.std.specs.Prelude.{◌≡◌, ℕ, ◌+◌, List, [], ◌∷◌, ◌++◌, length, Option, Some, None}
use Rattle.opmsg_model.specs.Requests.{Request, IsRequest}
use Rattle.opmsg_model.specs.Outline.{FrameFault, outline, partial_outline, message_outline, faulty_outline}

-- the bytes begin with this request, and these bytes follow it
pub record IsFirst (bytes : List ℕ) (request : Request) (behind : List ℕ) : Type 0 where
  pub whole : outline bytes ≡ message_outline (length request.bytes)
  pub split : bytes ≡ request.bytes ++ behind
  pub reads : IsRequest request

-- the requests, the rest and the fault in these bytes, the first of which is at an offset
pub data FramesFrom : ℕ → List ℕ → List Request → List ℕ → Option (FrameFault × ℕ) → Type 0 where
  ends : (offset : ℕ) (bytes : List ℕ) → outline bytes ≡ partial_outline → FramesFrom offset bytes [] bytes None
  fails : (offset : ℕ) (bytes : List ℕ) (fault : FrameFault) → outline bytes ≡ faulty_outline fault → FramesFrom offset bytes [] bytes (Some (fault, offset))
  goes_on : (offset : ℕ) (bytes behind : List ℕ) (request : Request) (requests : List Request) (rest : List ℕ) (fault : Option (FrameFault × ℕ)) → IsFirst bytes request behind → FramesFrom (offset + length request.bytes) behind requests rest fault → FramesFrom offset bytes (request ∷ requests) rest fault

abbrev pub Frames : List ℕ → List Request → List ℕ → Option (FrameFault × ℕ) → Type 0
Frames taken requests rest fault = FramesFrom 0 taken requests rest fault
