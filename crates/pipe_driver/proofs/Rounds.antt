-- One round of the schedule.
use Rattle.std.proofs.Common.{◌≡◌, ℕ, ℤ, ◌+◌, ◌<◌, ◌%◌, ◌^◌, List, [], ◌∷◌, ◌++◌, length, refl, sym, ap, subst, ◌∙◌, append_assoc, append-nil}
use Rattle.std.proofs.Common.{arith, w32, to_z, of_z}
use Rattle.std.specs.List.{flat_map}
use Rattle.std.proofs.lemmas.List.{map-append}
use Rattle.std.proofs.lemmas.Int.{fits_signed_from_abs, to_z-of_z}
use Rattle.std.proofs.lemmas.Grind.{flat_map-append}
use Rattle.opmsg_frames.specs.Requests.{Request, IsRequest}
use Rattle.node_model.specs.World.{World, Event, client_event, IsRouter, Happens, Run, goes}
use Rattle.node_model.specs.Schedule.{moments_given, Round, Pipes}
use Rattle.node_model.proofs.Schedules.{run_then}
use Rattle.node_progress.proofs.Rounds.{pipes_bag, round_asked}
use Rattle.node_traits.specs.declared.outputs.NotTaken.{NotTaken}
use Rattle.node_traits.specs.declared.outputs.ToLink.{ToLink}
use Rattle.driver_steps.specs.Seats.{Hosted, SeatView}
use Rattle.driver_steps.specs.Worlds.{NetworkView}
use Rattle.driver_steps.specs.Moves.{BeginWith, AreDeliveries, HasSettled, HasStopped}
use Rattle.driver_steps.proofs.Runs.{stopped_behind, up_to_more}
use Rattle.pipe_driver.specs.Progress.{AreAsked}
use Rattle.pipe_driver.specs.Rounds.{first_link, requests_of, replies_after, replies_behind, number_behind, AreNumbered, AreOfOne}
use Rattle.pipe_driver.specs.Schedules.{MayServe, IsPart, in_moments, in_deliveries, HasServed}
use Rattle.pipe_driver.proofs.Frames.{all_more}
use Rattle.pipe_driver.proofs.Routers.{none_lost, router_there, run_stays}

-- THE EVENTS

module _ {S : Type 0} (view : S → SeatView) (handed : List ToLink) (first : World) (rounds : List Round) (before : List Event) (w : World) (next count : ℕ)
    (r : Round) (router : ℕ) (may : MayServe first router) (pipes : Pipes first rounds before w next) (as_many : count ≡ length w.nodes) (place : r.at ≡ router) where
  -- the router is there when the request comes
  pub router_asked : (given : World) → Run w (moments_given 0 count r.moment) given → IsRouter given.nodes router
  router_asked given run = run_stays w (moments_given 0 count r.moment) given router run (router_there first router rounds before w next may.there pipes)

  -- all messages of the round were delivered
  pub round_served : (hosts : Hosted S) (network : NetworkView) (given asked : World) → Run w (moments_given 0 count r.moment) given
      → Happens given (client_event r.at r.link r.number r.request) asked → HasSettled view hosts network handed asked next
      → HasServed view hosts network handed w next r
  round_served hosts network given asked run came s =
      let same : moments_given 0 count r.moment ≡ moments_given 0 (length w.nodes) r.moment = ap (λ (n : ℕ). moments_given 0 n r.moment) as_many in
      let moments : Run w (moments_given 0 (length w.nodes) r.moment) given = subst (λ (l : List Event). Run w l given) same run in
      let bag = round_asked first w given asked next r (pipes_bag first may.begins rounds before w next pipes) moments came in
      record {
        events = moments_given 0 (length w.nodes) r.moment ++ client_event r.at r.link r.number r.request ∷ s.events;
        end = s.end;
        round = record {
          given = given;
          asked = asked;
          deliveries = s.events;
          all = refl;
          moments = moments;
          comes = came;
          settles = none_lost first asked next s.events s.end (length s.end.sent) bag s.settles;
        };
        stands = s.stands;
      }

-- A ROUND THAT IS CUT SHORT

module _ {S : Type 0} (view : S → SeatView) (hosts : Hosted S) (replies handed : List ToLink) (w : World) (count : ℕ) (r : Round) (fault : NotTaken) where
  pub stopped_in_moments : HasStopped view hosts replies handed w (λ events. BeginWith events (moments_given 0 count r.moment)) fault
      → HasStopped view hosts replies handed w (IsPart count r) fault
  stopped_in_moments s = record {
    events = s.events;
    end = s.end;
    which = in_moments s.events s.which;
    run = s.run;
    nodes = s.nodes;
    last = s.last;
    up_to = up_to_more fault s.end s.last _ _ s.up_to (λ more. (more.0, in_moments (s.events ++ more.0 ∷ []) more.1, more.2));
    crashes = s.crashes;
    missing = s.missing;
    given = s.given;
  }

  -- the request came, or it did not
  part_asked : (more : List Event) → BeginWith more (client_event r.at r.link r.number r.request ∷ []) → IsPart count r (moments_given 0 count r.moment ++ more)
  part_asked [] (others, is) = in_moments (moments_given 0 count r.moment ++ []) (
    [],
    sym (append-nil (moments_given 0 count r.moment ++ [])
        ∙ append-nil (moments_given 0 count r.moment)),
  )
  part_asked (e ∷ []) (others, is) =
      let same : client_event r.at r.link r.number r.request ≡ e = cc is in
      subst (λ (x : Event). IsPart count r (moments_given 0 count r.moment ++ x ∷ [])) same (in_deliveries [] tt)
  part_asked (e ∷ f ∷ more) (others, is) = absurd (cc is)

  pub stopped_in_asking : (given : World) → Run w (moments_given 0 count r.moment) given
      → HasStopped view hosts replies handed given (λ events. BeginWith events (client_event r.at r.link r.number r.request ∷ [])) fault
      → HasStopped view hosts replies handed w (IsPart count r) fault
  stopped_in_asking given run s =
      stopped_behind view hosts replies handed w (moments_given 0 count r.moment) given
      (λ events. BeginWith events (client_event r.at r.link r.number r.request ∷ [])) (IsPart count r) fault run part_asked s

  pub stopped_in_deliveries : (given asked : World) → Run w (moments_given 0 count r.moment) given
      → Happens given (client_event r.at r.link r.number r.request) asked
      → HasStopped view hosts replies handed asked AreDeliveries fault → HasStopped view hosts replies handed w (IsPart count r) fault
  stopped_in_deliveries given asked run came s = record {
    events = moments_given 0 count r.moment ++ client_event r.at r.link r.number r.request ∷ s.events;
    end = s.end;
    which = in_deliveries s.events s.which;
    run = run_then w (moments_given 0 count r.moment) given (client_event r.at r.link r.number r.request ∷ s.events) s.end run
        (goes given asked s.end (client_event r.at r.link r.number r.request) s.events came s.run);
    nodes = s.nodes;
    last = s.last;
    up_to = up_to_more fault s.end s.last _ _ s.up_to
        (λ more. (
          more.0,
          subst (λ (l : List Event). IsPart count r l)
              (sym (append_assoc (moments_given 0 count r.moment) (client_event r.at r.link r.number r.request ∷ s.events) (more.0 ∷ [])))
              (in_deliveries (s.events ++ more.0 ∷ []) more.1),
          more.2,
        ));
    crashes = s.crashes;
    missing = s.missing;
    given = s.given;
  }

-- ONE ROUND MORE

pub requests_more : (rounds : List Round) (r : Round) → requests_of (rounds ++ r ∷ []) ≡ requests_of rounds ++ r.request ∷ []
requests_more rounds r = map-append (λ (x : Round). x.request) rounds (r ∷ [])

pub behind_more : (replied : ℕ) (requests : List Request) (q : Request)
    → replies_behind replied (requests ++ q ∷ []) ≡ replies_after q.more (replies_behind replied requests)
behind_more replied [] q = refl
behind_more replied (p ∷ requests) q = behind_more (replies_after p.more replied) requests q

numbered_more : (replied : ℕ) (rounds : List Round) (r : Round) → AreNumbered replied rounds
    → r.number ≡ number_behind (replies_behind replied (requests_of rounds)) → AreNumbered replied (rounds ++ r ∷ [])
numbered_more replied [] r all number = (number, tt)
numbered_more replied (x ∷ rounds) r all number = (all.0, numbered_more (replies_after x.request.more replied) rounds r all.1 number)

pub one_more : (gives : ℕ → Type 0) (router : ℕ) (rounds : List Round) (r : Round) → AreOfOne gives router rounds → gives r.moment → r.at ≡ router → r.link ≡ first_link
    → r.number ≡ number_behind (replies_behind 0 (requests_of rounds)) → AreOfOne gives router (rounds ++ r ∷ [])
one_more gives router rounds r one given place link number = record {
  moments = all_more (λ (x : Round). gives x.moment) rounds r one.moments given;
  routers = all_more (λ (x : Round). x.at ≡ router) rounds r one.routers place;
  links = all_more (λ (x : Round). x.link ≡ first_link) rounds r one.links link;
  numbers = numbered_more 0 rounds r one.numbers number;
}

pub asked_more : (bytes : List ℕ) (requests : List Request) (q : Request) → AreAsked bytes requests → IsRequest q
    → AreAsked (bytes ++ q.bytes) (requests ++ q ∷ [])
asked_more bytes requests q asked is = record {
  all = ap (λ (b : List ℕ). b ++ q.bytes) asked.all
      ∙ (ap (λ (b : List ℕ). flat_map (λ (r : Request). r.bytes) requests ++ b) (sym (append-nil q.bytes))
      ∙ sym (flat_map-append (λ (r : Request). r.bytes) requests (q ∷ [])));
  each = all_more IsRequest requests q asked.each is;
}

-- a number as the program has it
pub number_is : (z : ℤ) (replied : ℕ) → z ≡ number_behind replied → to_z w32 (of_z w32 z) ≡ number_behind replied
number_is z replied is =
    let below : (replied + 1) % 2 ^ 31 < 2 ^ 31 = omega arith in
    ap (λ (x : ℤ). to_z w32 (of_z w32 x)) is ∙ to_z-of_z w32 (number_behind replied) (fits_signed_from_abs w32 (number_behind replied) below)
