-- Outcomes that are new to an open write.
use Rattle.std.specs.Prelude.{◌≡◌, ◌≢◌, ℕ, List, Option, Some}
use Rattle.base_model.specs.Identities.{RequestId}
use Rattle.command_replies.specs.Kinds.{kind_view}
use Rattle.node_model.specs.Letters.{Letter, write_done}
use Rattle.reply_model.specs.Outcomes.{Done}
use Rattle.node_model.specs.RouterRequests.{id_of}
use Rattle.node_model.specs.RouterNext.{Next, noted, served_in_part, settled, write_on}
use Rattle.node_model.specs.RouterRows.{open_of}
use Rattle.node_model.specs.States.{Open, Router}
use Rattle.protocol_model.specs.declared.statement.StatementOutcome.{StatementOutcome}
use Rattle.router_requests.specs.Works.{statements_of, write_course, write_view}
use Rattle.router_requests.specs.declared.write.OpenWrite.{OpenWrite}
use Rattle.write_runs.specs.Runs.{answers_view, runs_view}

-- the message has outcomes for an open write; with them its answers are these, which are more than it had
pub record IsNews (r : Router) (m : Letter) (id : RequestId) (q : Open) (write : OpenWrite) (answers : List (Option StatementOutcome)) : Type 0 where
  pub dones : List Done
  pub opened : open_of r id ≡ Some q
  pub body : m.body ≡ write_done id dones
  pub work : q.work ≡ write_view (id_of r q.count) write
  pub are : noted write.ordered (answers_view write.answers.items) dones ≡ answers_view answers
  pub news : noted write.ordered (answers_view write.answers.items) dones ≢ answers_view write.answers.items

-- what becomes of it at a time
abbrev pub next_noted : Router → (time : ℕ) → Open → OpenWrite → List (Option StatementOutcome) → Next
next_noted r time q write answers =
    write_on r time r.tables write.ordered (served_in_part (answers_view answers) (runs_view write.runs.items)) q (kind_view write.kind) write.ordered
    (statements_of (id_of r q.count) write) (settled (write_course write) (answers_view answers))
