-- What is under way after one line in which no step is missed.
use Rattle.std.proofs.Common.{◌≡◌, ◌≢◌, ◌⊎◌, inl, inr, ℕ, zero, suc, ◌+◌, ◌≤◌, ◌<◌, List, [], ◌∷◌, length, refl, ap, ◌∙◌, arith, true}
use Rattle.std.specs.Prelude.{Bool, Option, Some}
use Rattle.std.specs.List.{AllByRecursion, slice_get}
use Rattle.base_model.specs.Identities.{RequestId}
use Rattle.node_model.specs.Letters.{Letter}
use Rattle.node_model.specs.Requests.{Request}
use Rattle.node_model.specs.World.{World, Event, deliver_event, moment_event, Happens, Run, stands, goes}
use Rattle.node_progress.proofs.Bags.{Left, left_but}
use Rattle.node_progress.proofs.BagRuns.{BagIn, IsNoDelivery, goes_to_node, delivery_bag, event_keeps}
use Rattle.node_progress.proofs.NoneMissed.{first_misses_none, rest_misses_none}
use Rattle.node_progress.proofs.Places.{same_place}
use Rattle.node_progress.proofs.Rounds.{sent_before}
use Rattle.pipe_driver.specs.Rounds.{replies_after}
use Rattle.script_lines.specs.Lines.{Line}
use Rattle.sim_driver.specs.Plays.{client_events, events_on, SettlesBut, but_none, but_passed, but_next, but_lost}
use Rattle.sim_driver.specs.Plays.{IsPlayedWhole, plays_client, closes, plays_deliver, plays_moment, plays_settle, plays_next, loses_next}
use Rattle.sim_driver.specs.Scripts.{ScriptView, is_delivered, marked}
use Rattle.sim_driver.specs.Undelivered.{IsUndelivered}
use Rattle.sim_driver.proofs.Deliveries.{but_run}

-- MARKS

pub marked_here : (place : ℕ) (ds : List Bool) → is_delivered (marked place ds) place ≡ true
marked_here zero [] = refl
marked_here zero (d ∷ ds) = refl
marked_here (suc place) [] = marked_here place []
marked_here (suc place) (d ∷ ds) = marked_here place ds

marked_other : (place n : ℕ) (ds : List Bool) → n ≢ place → is_delivered (marked place ds) n ≡ is_delivered ds n
marked_other zero zero ds other = absurd (other refl)
marked_other zero (suc n) [] other = refl
marked_other zero (suc n) (d ∷ ds) other = refl
marked_other (suc place) zero [] other = refl
marked_other (suc place) zero (d ∷ ds) other = refl
marked_other (suc place) (suc n) [] other = marked_other place n [] (λ e. other (ap suc e))
marked_other (suc place) (suc n) (d ∷ ds) other = marked_other place n ds (λ e. other (ap suc e))

-- a mark that is set stays
pub marked_stays : (place n : ℕ) (ds : List Bool) → is_delivered ds n ≡ true → is_delivered (marked place ds) n ≡ true
marked_stays place n ds is = by_place (same_place n place)
  where
    by_place : (n ≡ place) ⊎ (n ≢ place) → is_delivered (marked place ds) n ≡ true
    by_place (inl same) = ap (λ k. is_delivered (marked place ds) k) same ∙ marked_here place ds
    by_place (inr other) = marked_other place n ds other ∙ is

clients_deliver_none : (at link replied : ℕ) (requests : List Request) → AllByRecursion IsNoDelivery (client_events at link replied requests)
clients_deliver_none at link replied [] = tt
clients_deliver_none at link replied (q ∷ requests) = (tt, clients_deliver_none at link (replies_after q.more replied) requests)

-- DELIVERIES

module _ (lost : RequestId → Type 0) where
  abbrev pub left_of : List Bool → Left
  left_of ds = left_but (IsUndelivered ds) lost

  marked_bag : (u v : World) (ds : List Bool) (at which : ℕ) → BagIn (left_of ds) u → v.missed ≡ u.missed → Happens u (deliver_event at which) v
      → BagIn (left_of (marked which ds)) v
  marked_bag u v ds at which b none h =
      delivery_bag lost lost (IsUndelivered ds) (IsUndelivered (marked which ds)) u v at which b (λ n left. by_place n left (same_place n which)) (λ id l. l)
      (λ n le. marked_other which n ds (past n le (sent_before u v at which h)) ∙ b.bag.fresh n le) (inl none) h
    where
      by_place : (n : ℕ) → IsUndelivered ds n → (n ≡ which) ⊎ (n ≢ which) → IsUndelivered (marked which ds) n ⊎ (n ≡ which)
      by_place n left (inl same) = inr same
      by_place n left (inr other) = inl (marked_other which n ds other ∙ left)

      past : (n : ℕ) → length u.sent ≤ n → which < length u.sent → n ≢ which
      past n le below same = omega (arith, le, below, same)

  -- a message that goes to no node is none
  never_lost : (u : World) (ds : List Bool) (n : ℕ) (m : Letter) → BagIn (left_of ds) u → slice_get u.sent n ≡ Some m → length u.nodes ≤ m.receiver → ⊥
  never_lost u ds n m b got none = let here = goes_to_node (left_of ds) u n m b got in omega (arith, here, none)

  but_bag : (except : Option (List ℕ)) (u : World) (ds : List Bool) (next : ℕ) (events : List Event) (w : World) (es : List Bool) (later : ℕ)
      → SettlesBut except u ds next events w es later → w.missed ≡ u.missed → BagIn (left_of ds) u → BagIn (left_of es) w
  but_bag except _ _ _ _ _ _ _ (but_none w ds next) none b = b
  but_bag except _ _ _ _ _ _ _ (but_passed u w ds es next later m events got is more) none b = but_bag except u ds (next + 1) events w es later more none b
  but_bag except _ _ _ _ _ _ _ (but_next u v w ds es next later m events got new h more) none b =
      let run = but_run except v (marked next ds) (next + 1) events w es later more in
      but_bag except v (marked next ds) (next + 1) events w es later more (rest_misses_none u v w (deliver_event m.receiver next) events h run none)
      (marked_bag u v ds m.receiver next b (first_misses_none u v w (deliver_event m.receiver next) events h run none) h)
  but_bag except _ _ _ _ _ _ _ (but_lost u w ds es next later m events got new nowhere more) none b = absurd (never_lost u ds next m b got nowhere)

  -- events that deliver nothing
  pub others_bag : (u : World) (ds : List Bool) (es : List Event) (w : World) → AllByRecursion IsNoDelivery es → BagIn (left_of ds) u → Run u es w
      → w.missed ≡ u.missed → BagIn (left_of ds) w
  others_bag _ ds _ _ all b (stands w) none = b
  others_bag _ ds _ _ all b (goes u v w e es h run) none =
      others_bag v ds es w all.1
      (event_keeps (IsUndelivered ds) lost lost u v e all.0 b (λ id l. l) (inl (first_misses_none u v w e es h run none)) h) run
      (rest_misses_none u v w e es h run none)

  -- LINES

  pub whole_bag : (u : World) (s : ScriptView) (line : Line) (events : List Event) (w : World) (t : ScriptView) (closed : Option ℕ)
      → IsPlayedWhole u s line events w t closed → w.missed ≡ u.missed → BagIn (left_of s.delivered) u → BagIn (left_of t.delivered) w
  whole_bag u s _ _ _ _ _ (plays_client router link bytes left requests w there frames run) none b =
      others_bag u s.delivered (events_on s.first_router router link requests) w
      (clients_deliver_none (s.first_router + router) link.number link.replied requests) b run none
  whole_bag u s _ _ _ _ _ (closes router link bytes left requests fault w there frames run) none b =
      others_bag u s.delivered (events_on s.first_router router link requests) w
      (clients_deliver_none (s.first_router + router) link.number link.replied requests) b run none
  whole_bag u s _ _ _ _ _ (plays_deliver node k which w place h) none b = marked_bag u w s.delivered node which b none h
  whole_bag u s _ _ _ _ _ (plays_moment node moment w h) none b =
      event_keeps (IsUndelivered s.delivered) lost lost u w (moment_event node moment) tt b (λ id l. l) (inl none) h
  whole_bag u s _ _ _ _ _ (plays_settle except events w delivered settles) none b =
      but_bag except u s.delivered 0 events w delivered (length w.sent) settles none b
  whole_bag u s _ _ _ _ _ (plays_next kind which m w place got h) none b = marked_bag u w s.delivered m.receiver which b none h
  whole_bag u s _ _ _ _ _ (loses_next kind which m place got nowhere) none b = absurd (never_lost u s.delivered which m b got nowhere)
