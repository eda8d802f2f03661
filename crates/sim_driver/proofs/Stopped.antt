-- A line in which a node stops.
use Rattle.std.proofs.Common.{◌≡◌, ◌⊎◌, inl, inr, ℕ, ◌+◌, ◌<◌, ◌≤◌, List, [], Bool, false, length, refl, sym, ap, subst, ◌∙◌, arith}
use Rattle.std.proofs.lemmas.Option.{slice_get_within}
use Rattle.std.specs.Prelude.{Option, Some, None}
use Rattle.std.specs.List.{slice_get}
use Rattle.node_model.specs.Letters.{Input, Letter, letter_input}
use Rattle.node_model.specs.World.{Event, World, deliver_event}
use Rattle.node_replay.specs.Restarts.{EventOrStop, gives_message, restart_event}
use Rattle.node_traits.specs.declared.outputs.ToLink.{ToLink}
use Rattle.driver_steps.specs.Restarts.{BeginToStop, MayGive, StopsBy, by_itself, by_step, stop_and_open}
use Rattle.driver_steps.specs.Seats.{Hosted, SeatView}
use Rattle.driver_steps.specs.Worlds.{NetworkView}
use Rattle.pipe_driver.specs.declared.status.Status.{Status}
use Rattle.pipe_driver.specs.declared.status.Status.TheVariants as statuses
use Rattle.script_lines.specs.Lines.{Line, kept_line, lost_line, restart_line}
use Rattle.sim_driver.specs.Links.{LinkView}
use Rattle.sim_driver.specs.LineOutcomes.{HasPlayed, IsCutIn, StopsLine, line_at_disk, line_at_memory}
use Rattle.sim_driver.specs.Moves.{AreStill, HasReturned}
use Rattle.sim_driver.specs.Plays.{IsPartOfLine, IsPlayed, StopsNode, part_of_restart, plays_restart, stops_between, stops_kept, stops_lost, stops_unkept}
use Rattle.sim_driver.specs.Scripts.{ScriptView, ClosesLink, closes_none, closes_open, marked, place_from, with_closed, with_delivered}
use Rattle.sim_driver.proofs.Faults.{cut_in_as, cut_in_here}
use Rattle.sim_driver.proofs.PlayedLines.{goes_there}

-- LINKS

-- a link is closed after a message was marked, or before
unmarked : (s : ScriptView) (ds : List Bool) (node : ℕ) (t : ScriptView) (closed : Option ℕ) → ClosesLink (with_delivered s ds) node t closed
    → (x : ScriptView) × ClosesLink s node x closed × (t ≡ with_delivered x ds)
unmarked s ds node _ _ (closes_open router link is got opened) = (with_closed s router, closes_open router link is got opened, refl)
unmarked s ds node _ _ (closes_none none) = (s, closes_none none, refl)

-- the node is no router whose link is open
pub none_before : (s : ScriptView) (node : ℕ) → node < s.first_router → ClosesLink s node s None
none_before s node before = closes_none (λ router link is got. absurd (omega (arith, is, before)))

pub none_past : (s : ScriptView) (node : ℕ) → s.first_router + length s.links ≤ node → ClosesLink s node s None
none_past s node past = closes_none (λ router link is got. absurd (omega (arith, is, past, slice_get_within s.links router link got)))

pub none_open : (s : ScriptView) (node router : ℕ) (link : LinkView) → node ≡ s.first_router + router → slice_get s.links router ≡ Some link
    → link.is_open ≡ false → ClosesLink s node s None
none_open s node router link is got shut = closes_none (λ r other same there.
    let one : r ≡ router = omega (arith, is, same) in
    let both : Some other ≡ Some link = sym there ∙ (ap (λ (k : ℕ). slice_get s.links k) one ∙ got) in
    let link_is : other ≡ link = cc both in
    ap (λ (x : LinkView). x.is_open) link_is ∙ shut)

-- THE EVENTS OF A LINE

-- how the node stops in this line, whose message was marked
module _ {S : Type 0} (view : S → SeatView) (hosts : Hosted S) (w : World) (s : ScriptView) (line : Line) (node : ℕ) (e : Option Event) (ds : List Bool)
    (stops : (x : EventOrStop) → StopsBy node e x → StopsNode w s line node x ds) where
  pub returned : (network : NetworkView) (handed : List ToLink) (old new : ScriptView) (closed : Option ℕ) → old ≡ with_delivered s ds
      → HasReturned view hosts network handed w node e old new closed
      → HasPlayed view hosts network handed w line s new closed
  returned network handed old new closed marks r =
      let x = unmarked s ds node new closed (subst (λ (v : ScriptView). ClosesLink v node new closed) marks r.closes) in
      record {
        events = stop_and_open node r.again.stop;
        end = r.again.end;
        run = r.again.run;
        played = subst (λ (v : ScriptView). IsPlayed w s line (stop_and_open node r.again.stop) r.again.end v closed) (sym x.2)
            (plays_restart line node r.again.stop ds r.again.end x.0 closed (stops r.again.stop r.again.which) r.again.run x.1);
        stands = r.again.stands;
      }

  begin_is_part : (events : List EventOrStop) → BeginToStop node e events → IsPartOfLine w s line events
  begin_is_part events (x, which, first) = part_of_restart line node x ds events (stops x which) first

  either_line : (status : Status) → (status ≡ statuses.DiskFailed) ⊎ (status ≡ statuses.OutOfMemory) → IsCutIn view hosts w (IsPartOfLine w s line) status
      → StopsLine view hosts w line s status
  either_line status (inl is) cut =
      subst (λ (n : Status). StopsLine view hosts w line s n) (sym is)
      (line_at_disk (subst (λ (n : Status). IsCutIn view hosts w (IsPartOfLine w s line) n) is cut))
  either_line status (inr is) cut =
      subst (λ (n : Status). StopsLine view hosts w line s n) (sym is)
      (line_at_memory (subst (λ (n : Status). IsCutIn view hosts w (IsPartOfLine w s line) n) is cut))

  pub failed : (status : Status) → (status ≡ statuses.DiskFailed) ⊎ (status ≡ statuses.OutOfMemory) → IsCutIn view hosts w (BeginToStop node e) status
      → StopsLine view hosts w line s status
  failed status either cut = either_line status either (cut_in_as view hosts w (BeginToStop node e) (IsPartOfLine w s line) status begin_is_part cut)

  -- before it stopped
  pub not_stopped : AreStill view hosts w → StopsLine view hosts w line s statuses.OutOfMemory
  not_stopped are =
      line_at_memory (cut_in_here view hosts w (IsPartOfLine w s line) statuses.OutOfMemory
      (begin_is_part [] (restart_event node, by_itself e, (stop_and_open node (restart_event node), refl))) are)

-- THE LINES

module _ (w : World) (s : ScriptView) (node : ℕ) where
  pub stops_alone : (x : EventOrStop) → StopsBy node None x → StopsNode w s (restart_line node) node x s.delivered
  stops_alone _ (by_itself _) = stops_between node

  module _ (k which : ℕ) (place : place_from 0 node k w.sent ≡ Some which) where
    pub stops_before : (x : EventOrStop) → StopsBy node None x → StopsNode w s (lost_line node k) node x (marked which s.delivered)
    stops_before _ (by_itself _) = stops_lost node k which place

    pub stops_in : (x : EventOrStop) → StopsBy node (Some (deliver_event node which)) x → StopsNode w s (kept_line node k) node x (marked which s.delivered)
    stops_in _ (by_itself _) = stops_unkept node k which place
    stops_in _ (by_step _) = stops_kept node k which place

-- the message is given to its node
pub gives_it : {S : Type 0} (view : S → SeatView) (hosts : Hosted S) (network : NetworkView) (handed : List ToLink) (w : World) (s : ScriptView)
    (node k which : ℕ) (m : Letter) (i : Input) → place_from 0 node k w.sent ≡ Some which → slice_get w.sent which ≡ Some m → i ≡ letter_input m
    → MayGive w node (Some (deliver_event node which)) (Some i)
gives_it view hosts network handed w s node k which m i place got is =
    subst (λ (j : Input). MayGive w node (Some (deliver_event node which)) (Some j)) (sym is)
    (gives_message node which m got (goes_there view hosts network handed w s node k which m place got))
