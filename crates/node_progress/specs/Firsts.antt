-- The worlds that a call begins in (own).
use Rattle.std.specs.Prelude.{◌≡◌, ℕ, ◌<◌, [], length}
use Rattle.std.specs.List.{AllByRecursion}
use Rattle.reply_model.specs.Exchanges.{Asked}
use Rattle.node_model.specs.World.{Held, World, start}
use Rattle.restart_laws.specs.Calls.{BeginsOn, Reached}
use Rattle.node_progress.specs.Completion.{IsQuiet}

-- Nothing is under way: no message is, no request is open and none waits for a table. Each request that was taken before is of one of the nodes.
pub record IsAtRest (w : World) : Type 0 where
  pub none_sent : w.sent ≡ []
  pub placed : AllByRecursion (λ (a : Asked). a.id.router < length w.nodes) w.asked
  pub quiet : AllByRecursion (λ (h : Held). IsQuiet h.state) w.nodes

pub data IsFirst : World → Type 0 where
  -- journals are empty
  first_start : (others routers : ℕ) → IsFirst (start others routers)
  -- earlier calls left them, and all nodes were started on them
  first_again : (others routers : ℕ) (u first : World) → Reached others routers u → BeginsOn u first → IsFirst first
