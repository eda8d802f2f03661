-- What is judged: what nodes stored, what routers took and replied, and what nodes were given.
use Rattle.std.specs.Prelude.{ℕ, ℤ, List, [], map}
use Rattle.bson_model.specs.Tree.{Fields}
use Rattle.opmsg_model.specs.Requests.{Request}
use Rattle.chunk_model.specs.Tables.{Table}
use Rattle.chunk_model.specs.Changes.{Change}
use Rattle.history_model.specs.History.{Entry}
use Rattle.reply_model.specs.Exchanges.{Asked, Answered}

-- a change of the catalogue, with the step in which it was made
pub record Dated : Type 0 where
  pub change : Change
  pub step : ℕ

-- the changes of the catalogue, newest first
abbrev pub changes_in : List Dated → List Change
changes_in dated = map (λ (d : Dated). d.change) dated

-- a moment that was given to a node, in a step
pub record Given : Type 0 where
  pub node : ℕ
  pub moment : ℕ
  pub step : ℕ

-- a table that a router received, in a step
pub record Learned : Type 0 where
  pub node : ℕ
  pub table : Table
  pub step : ℕ

-- why a node takes no step: it is out of memory, or at its last step after so many
pub data Lack : Type 0 where
  no_memory : Lack
  no_steps : (steps : ℕ) → Lack

-- what a node was given had no effect on it, for this lack; the step is the number of that event
pub record Missed : Type 0 where
  pub node : ℕ
  pub lack : Lack
  pub step : ℕ

-- a request that a router did not take, and the reply
pub record TurnedAway : Type 0 where
  pub router : ℕ
  pub link : ℕ
  pub number : ℤ
  pub request : Request
  pub step : ℕ
  pub document : Fields

-- what journals stored at the start
pub record Stored : Type 0 where
  pub changes : List Change
  pub entries : List Entry

abbrev pub nothing_stored : Stored
nothing_stored = record { changes = []; entries = [] }

-- The changes of the catalogue, newest first, and each with the step in which it was made; the entries of all shards, as one history; the requests that routers
-- took and their replies, in order; the moments that nodes were given, and the tables that routers received; what nodes could not do, and the requests that
-- were not taken; and what was stored at the start.
pub record Account : Type 0 where
  pub changes : List Change
  pub dated : List Dated
  pub history : List Entry
  pub asked : List Asked
  pub answered : List Answered
  pub given : List Given
  pub learned : List Learned
  pub missed : List Missed
  pub away : List TurnedAway
  pub stored : Stored
