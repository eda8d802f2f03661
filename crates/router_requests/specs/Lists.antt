-- What a list of open requests holds.
use Rattle.std.specs.Prelude.{ℕ, List, [], ◌∷◌, Bool, true, ◌==◌, map, nat_lt, if◌then◌else◌}
use Rattle.std.specs.Vec.{vec_len, vec_capacity}
use Rattle.node_model.specs.States.{Open}
use Rattle.router_requests.specs.Order.{Held}
use Rattle.router_requests.specs.Works.{open_view}
use Rattle.router_requests.specs.declared.list.OpenList.{OpenList}
use Rattle.router_requests.specs.declared.work.OpenRequest.{OpenRequest}

-- how many requests were taken
abbrev pub taken_of : OpenList → ℕ
taken_of list = list.taken

-- the open ones, of this router in this of its lives
abbrev pub opens_of : (router life : ℕ) → OpenList → List Open
opens_of router life list = map (λ q. open_view router life q.value) list.requests.items

-- there is room for one more
abbrev pub has_room : OpenList → Bool
has_room list = nat_lt (vec_len list.requests) (vec_capacity list.requests)

-- a request has room for one part more
abbrev pub has_part_room : OpenRequest → Bool
has_part_room q = nat_lt (vec_len q.parts) (vec_capacity q.parts)

-- the request with this count has it, if there is one
abbrev pub have_part_room : (count : ℕ) → List Held → Bool
have_part_room count [] = true
have_part_room count (q ∷ requests) = if q.value.count == count then has_part_room q.value else have_part_room count requests

abbrev pub has_room_for_part : (count : ℕ) → OpenList → Bool
has_room_for_part count list = have_part_room count list.requests.items
