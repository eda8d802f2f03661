-- The effect of a table that arrives on an open request.
use Rattle.std.specs.Prelude.{ℕ, List, Bool}
use Rattle.std.specs.Arc.{arc_value}
use Rattle.std.specs.Option.{option_map}
use Rattle.node_model.specs.RouterNext.{Next, adopted, next_of, was_created}
use Rattle.node_model.specs.States.{Open, Router}
use Rattle.chunk_model.specs.Tables.{Table}
use Rattle.protocol_model.specs.Tables.{at_view}
use Rattle.protocol_model.specs.declared.tables.TableTold.{TableTold}

-- the tables with the one that arrived, if there is one
abbrev pub tables_told : TableTold → List Table → List Table
tables_told told tables = adopted (option_map (λ t. arc_value t) told.table) tables

-- a table arrived of a collection that was to be created
abbrev pub made_by : TableTold → Bool
made_by told = was_created told.create (option_map (λ t. arc_value t) told.table)

-- at a time of the router
abbrev pub next_at : Router → (time : ℕ) → TableTold → Open → Next
next_at r time told q = next_of r time (tables_told told r.tables) told.namespace (made_by told) (at_view told.at) q
