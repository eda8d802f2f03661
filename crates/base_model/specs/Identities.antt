-- Who sends a request: the requests of routers, each of which also names the move of a chunk that it requests (own).
use Rattle.std.specs.Prelude.{ℕ, Bool, ◌==◌, ◌&&◌}

-- which request it is: that of a router, in one of its lives, as the how many-th that it took
pub record RequestId : Type 0 where
  pub router : ℕ
  pub life : ℕ
  pub count : ℕ

abbrev pub same_request : RequestId → RequestId → Bool
same_request a b = (a.router == b.router) && ((a.life == b.life) && (a.count == b.count))
