-- What stays true by the journals: each node stores what its journal replays to; the tables that nodes have, journals store and messages say are those of the
-- catalogue; and what was read stays as it was read (own; docs/JOURNAL.md, "Records").
use Rattle.std.specs.List.{AllByRecursion}
use Rattle.node_model.specs.World.{World}
use Rattle.node_replay.specs.Holds.{HoldsOwn, Replays}
use Rattle.restart_laws.specs.Pinned.{IsPinned}
use Rattle.restart_laws.specs.Tables.{CatalogueRuns, HasTablesOf, SaysTableOf, SaysTableOfItsTime, StoresTablesOf, changes_stored, sent_since}

-- In a world, by what the journals store there. `tables`: those that nodes have; `stored`: those in journals, also replaced ones; `messages`: those that
-- messages say; `in_their_time`: while the catalogue runs, a message says the table of its own time.
pub record JournalsStayTrue (w : World) : Type 0 where
  pub replays : AllByRecursion Replays w.nodes
  pub times : AllByRecursion HoldsOwn w.nodes
  pub tables : AllByRecursion (HasTablesOf (changes_stored w)) w.nodes
  pub stored : AllByRecursion (StoresTablesOf (changes_stored w)) w.nodes
  pub messages : AllByRecursion (SaysTableOf (changes_stored w)) w.sent
  pub in_their_time : (u : World) → CatalogueRuns u w → AllByRecursion (SaysTableOfItsTime (changes_stored w)) (sent_since u w)
  pub reads : AllByRecursion (IsPinned w) w.sent
