-- The world that a call begins in, by the files of its nodes (docs/JOURNAL.md, "The program's journals").
use Rattle.std.specs.Prelude.{ℕ, List}
use Rattle.node_model.specs.World.{World, start}
use Rattle.restart_laws.specs.Calls.{BeginsOn, Reached}
use Rattle.journal_starts.specs.Journals.{AreJournals}

-- The nodes of a cluster with so many shards after the first, and so many routers. No call was made before, and no file has a record; or the files are the
-- journals that earlier calls left, and all nodes were started on them.
pub data BeginsOnFiles (others routers : ℕ) (files : List (List ℕ)) : World → Type 0 where
  begins_new : AreJournals files (start others routers).nodes → BeginsOnFiles others routers files (start others routers)
  begins_again : (u first : World) → Reached others routers u → AreJournals files u.nodes → BeginsOn u first → BeginsOnFiles others routers files first
