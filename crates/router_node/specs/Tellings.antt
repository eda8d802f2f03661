-- The answers that a message allows an open read.
use Rattle.std.specs.Prelude.{◌≡◌, ℕ, List, [], ◌∷◌, Result, Some, true}
use Rattle.base_model.specs.Identities.{RequestId}
use Rattle.command_model.specs.Answers.{Answer}
use Rattle.node_model.specs.Letters.{Letter, HalfFault, letter_input, read_rows}
use Rattle.node_model.specs.RouterRequests.{heard, turn_after}
use Rattle.node_model.specs.RouterNext.{is_target, knows, reply_to}
use Rattle.node_model.specs.RouterRows.{RouterRow, Opened, Tells, open_of, opens}
use Rattle.pipeline_model.specs.Halves.{Merge, MergesInTurn, Rows}
use Rattle.pipeline_model.specs.Runs.{Outcome}
use Rattle.node_model.specs.States.{Telling, Open, Router, without}

-- it may get this answer, and these are the cursors afterwards
abbrev pub MayTell : Router → Letter → Open → Answer → Opened → Type 0
MayTell r m q answer f =
    RouterRow r (letter_input m) (record { written = f.written; mail = []; taken = []; replies = reply_to r (heard r m) q answer ∷ []; away = [] })
    (opens f (knows r (heard r m) r.tables (without q.count r.requests)))

-- it may get the answer to a read of a time for an outcome
abbrev pub MayTellOf : Router → Letter → Open → (at : ℕ) → Telling → Outcome → Type 0
MayTellOf r m q at telling out = (answer : Answer) (f : Opened) → Tells r q at telling out answer f → MayTell r m q answer f

-- it may get the answer for what these rows merge to
abbrev pub MayTellMerged : Router → Letter → Open → (at : ℕ) → Telling → Merge → List Rows → Type 0
MayTellMerged r m q at telling by all = (out : Outcome) → MergesInTurn by all out → MayTellOf r m q at telling out

-- the message has a part of an open read, of the turn that it is in, from a shard that it was sent to
pub record IsPart (r : Router) (m : Letter) (id : RequestId) (q : Open) (rows : Result Rows HalfFault) : Type 0 where
  pub body : m.body ≡ read_rows id (turn_after q.tries) rows
  pub opened : open_of r id ≡ Some q
  pub sent : is_target m.sender q.targets ≡ true
