-- Room for a part of the request with a count.
use Rattle.std.proofs.Common.{◌≡◌, refl, ap, sym, ◌∙◌, ℕ, suc, ◌≤◌, ◌<◌, List, [], ◌∷◌, map, length, get_or, Bool, true, false, ◌==◌, if◌then◌else◌, arith}
use Rattle.std.specs.Box.{with_value}
use Rattle.std.specs.Prelude.{zero}
use Rattle.std.specs.List.{slice_set}
use Rattle.router_requests.specs.declared.work.OpenRequest.{OpenRequest}
use Rattle.router_requests.specs.Lists.{has_part_room, have_part_room}
use Rattle.router_requests.specs.Order.{Held, place_of}
use Rattle.router_requests.specs.Works.{open_view}

-- the request that has it
there : (count : ℕ) (items : List Held) (old : Held) → have_part_room count items ≡ true → place_of count items < length items → old ≡ get_or items (place_of count items) old
    → has_part_room old.value ≡ true
there count [] old room inside here = absurd (omega (arith, inside))
there count (q ∷ items) old room inside here = by (q.value.count == count) (there count items old) room inside here where
  by : (same : Bool) → (have_part_room count items ≡ true → place_of count items < length items → old ≡ get_or items (place_of count items) old → has_part_room old.value ≡ true)
      → (if same then has_part_room q.value else have_part_room count items) ≡ true → (if same then 0 else suc (place_of count items)) < suc (length items)
      → old ≡ get_or (q ∷ items) (if same then 0 else suc (place_of count items)) old → has_part_room old.value ≡ true
  by true next has low at = ap (λ (x : Held). has_part_room x.value) at ∙ has
  by false next has low at = next has (omega (arith, low)) at

pub room_there : (count place : ℕ) (items : List Held) (old : Held) (was : OpenRequest) → have_part_room count items ≡ true → place ≡ place_of count items → place < length items → old ≡ get_or items place old
    → was ≡ old.value → has_part_room was ≡ true
room_there count place items old was room stands inside here is =
    ap (λ (x : OpenRequest). has_part_room x) is ∙ there count items old room (rw (sym stands) inside) (rw stands at here)

-- the request that gets it
made : (count : ℕ) (items : List Held) (old new : Held) → place_of count items < length items → old ≡ get_or items (place_of count items) old → new.value.count ≡ old.value.count
    → has_part_room new.value ≡ true → have_part_room count (slice_set items (place_of count items) new) ≡ true
made count [] old new inside here same room = absurd (omega (arith, inside))
made count (q ∷ items) old new inside here same room = by (q.value.count == count) refl (made count items old new) inside here where
  by : (hit : Bool) → (q.value.count == count) ≡ hit
      → (place_of count items < length items → old ≡ get_or items (place_of count items) old → new.value.count ≡ old.value.count → has_part_room new.value ≡ true → have_part_room count (slice_set items (place_of count items) new) ≡ true)
      → (if hit then 0 else suc (place_of count items)) < suc (length items) → old ≡ get_or (q ∷ items) (if hit then 0 else suc (place_of count items)) old
      → have_part_room count (slice_set (q ∷ items) (if hit then 0 else suc (place_of count items)) new) ≡ true
  by true hit next low at =
      ap (λ (b : Bool). if b then has_part_room new.value else have_part_room count items) (ap (λ (n : ℕ). n == count) (same ∙ ap (λ (x : Held). x.value.count) at) ∙ hit) ∙ room
  by false hit next low at = ap (λ (b : Bool). if b then has_part_room q.value else have_part_room count (slice_set items (place_of count items) new)) hit ∙ next (omega (arith, low)) at same room

pub room_made : (count place : ℕ) (items : List Held) (old : Held) (was new : OpenRequest) → place ≡ place_of count items → place < length items → old ≡ get_or items place old → was ≡ old.value
    → new.count ≡ was.count → has_part_room new ≡ true → have_part_room count (slice_set items place (with_value old new)) ≡ true
room_made count place items old was new stands inside here is same room =
    rw stands (made count items old (with_value old new) (rw (sym stands) inside) (rw stands at here) (same ∙ ap (λ (x : OpenRequest). x.count) is) room)

-- where none has the count there is nothing to make room in
pub no_room_needed : (count : ℕ) (items : List Held) → length items ≤ place_of count items → have_part_room count items ≡ true
no_room_needed count [] past = refl
no_room_needed count (q ∷ items) past = by (q.value.count == count) (no_room_needed count items) past where
  by : (same : Bool) → (length items ≤ place_of count items → have_part_room count items ≡ true) → suc (length items) ≤ (if same then 0 else suc (place_of count items))
      → (if same then has_part_room q.value else have_part_room count items) ≡ true
  by true next low = absurd (omega (arith, low))
  by false next low = next (omega (arith, low))

-- one with the same content in its place
pub same_opens : (router life place : ℕ) (items : List Held) (old : Held) (was new : OpenRequest) → place < length items → old ≡ get_or items place old → was ≡ old.value
    → open_view router life new ≡ open_view router life was
    → map (λ q. open_view router life q.value) (slice_set items place (with_value old new)) ≡ map (λ q. open_view router life q.value) items
same_opens router life place [] old was new inside here is same = absurd (omega (arith, inside))
same_opens router life zero (q ∷ items) old was new inside here is same =
    ap (λ o. o ∷ map (λ q. open_view router life q.value) items) (same ∙ ap (λ (x : OpenRequest). open_view router life x) is ∙ ap (λ (x : Held). open_view router life x.value) here)
same_opens router life (suc place) (q ∷ items) old was new inside here is same =
    ap (λ l. open_view router life q.value ∷ l) (same_opens router life place items old was new (omega (arith, inside)) here is same)
