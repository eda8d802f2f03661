-- Counts of requests rise in the order in which they were taken.
use Rattle.std.specs.Prelude.{Box, ℕ, suc, List, [], ◌∷◌, Bool, ◌&&◌, ◌==◌, nat_le, nat_lt, if◌then◌else◌}
use Rattle.std.specs.Global.{Global}
use Rattle.router_requests.specs.declared.work.OpenRequest.{OpenRequest}

-- an open request in its box
abbrev pub Held : Type 0
Held = Box OpenRequest Global

-- each count is above the one before, the first above `least`, and none is above `greatest`
abbrev pub rises : (least greatest : ℕ) → List Held → Bool
rises least greatest [] = nat_le least greatest
rises least greatest (q ∷ requests) = nat_lt least q.value.count && rises q.value.count greatest requests

-- how many requests come before that with this count; all where there is none
abbrev pub place_of : ℕ → List Held → ℕ
place_of count [] = 0
place_of count (q ∷ requests) = if q.value.count == count then 0 else suc (place_of count requests)
