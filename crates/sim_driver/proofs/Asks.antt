-- Requests that come on a link, one after another.
use Rattle.std.proofs.Common.{◌≡◌, ℕ, ℤ, ◌+◌, true, false, List, [], ◌∷◌, ◌++◌, length, refl, sym, ap, subst, ◌∙◌, append_assoc, append-nil}
use Rattle.std.specs.Prelude.{Some, None}
use Rattle.opmsg_frames.specs.Outline.{outline, partial_outline}
use Rattle.opmsg_frames.specs.Frames.{FramesFrom, ends, fails}
use Rattle.opmsg_frames.specs.Requests.{IsRequest}
use Rattle.node_model.specs.Requests.{Request}
use Rattle.node_model.specs.World.{World, IsRouter, Event, client_event, Happens, Run, stands, goes}
use Rattle.node_model.proofs.Schedules.{run_then}
use Rattle.node_traits.specs.declared.outputs.NotTaken.{NotTaken}
use Rattle.node_traits.specs.declared.outputs.ToLink.{ToLink}
use Rattle.driver_steps.specs.Seats.{Hosted, SeatView}
use Rattle.driver_steps.specs.Worlds.{NetworkView, StandsFor}
use Rattle.driver_steps.specs.Moves.{BeginWith, HasHappened, HasStopped}
use Rattle.pipe_driver.specs.Progress.{AreAsked}
use Rattle.pipe_driver.specs.Rounds.{number_behind, replies_after, replies_behind}
use Rattle.pipe_driver.specs.Stops.{IsMalformed, status_for}
use Rattle.pipe_driver.specs.declared.status.Status.{Status}
use Rattle.pipe_driver.proofs.Frames.{bytes_of, frames_behind}
use Rattle.pipe_driver.proofs.Rounds.{asked_more, behind_more}
use Rattle.pipe_driver.proofs.Routers.{happens_stays}
use Rattle.sim_driver.specs.Moves.{HasAsked, IsCut, IsFirstAsked}
use Rattle.sim_driver.specs.Plays.{client_events}
use Rattle.sim_driver.proofs.Faults.{cut_behind, cut_here, still}

events_more : (at link replied : ℕ) (requests : List Request) (q : Request) → client_events at link replied (requests ++ q ∷ [])
    ≡ client_events at link replied requests ++ client_event at link (number_behind (replies_behind replied requests)) q ∷ []
events_more at link replied [] q = refl
events_more at link replied (p ∷ requests) q =
    ap (λ (l : List Event). client_event at link (number_behind replied) p ∷ l) (events_more at link (replies_after p.more replied) requests q)

-- after some of the requests
pub record AreAsking {S : Type 0} (view : S → SeatView) (hosts : Hosted S) (network : NetworkView) (handed : List ToLink) (before : World)
    (at link replied_before : ℕ) (bytes left : List ℕ) (replied : ℕ) : Type 0 where
  pub consumed : List ℕ
  pub requests : List Request
  pub end : World
  pub all : bytes ≡ consumed ++ left
  pub asked : AreAsked consumed requests
  pub run : Run before (client_events at link replied_before requests) end
  pub count : replied ≡ replies_behind replied_before requests
  pub router : IsRouter end.nodes at
  pub stands : StandsFor view hosts network handed end 0

module _ {S : Type 0} (view : S → SeatView) (handed : List ToLink) (w : World) (at link replied_before : ℕ) (bytes : List ℕ) where
  pub asking_none : (hosts : Hosted S) (network : NetworkView) → IsRouter w.nodes at → StandsFor view hosts network handed w 0
      → AreAsking view hosts network handed w at link replied_before bytes bytes replied_before
  asking_none hosts network router s = record {
    consumed = [];
    requests = [];
    end = w;
    all = refl;
    asked = record { all = refl; each = tt };
    run = stands w;
    count = refl;
    router = router;
    stands = s;
  }

  module _ (hosts : Hosted S) (network : NetworkView) (left : List ℕ) (replied : ℕ)
      (a : AreAsking view hosts network handed w at link replied_before bytes left replied) where
    -- the framer gave no more
    pub asking_ends : (rest : List ℕ) → rest ≡ left → outline rest ≡ partial_outline
        → HasAsked view hosts network handed w at link replied_before bytes rest replied false
    asking_ends rest same partial = record {
      requests = a.requests ++ [];
      fault = None;
      end = a.end;
      frames = subst (λ (b : List ℕ). FramesFrom 0 b (a.requests ++ []) rest None) (sym whole)
          (frames_behind 0 a.requests rest [] rest None a.asked.each (ends _ rest partial));
      run = subst (λ (l : List Request). Run w (client_events at link replied_before l) a.end) (sym (append-nil a.requests)) a.run;
      count = a.count ∙ ap (λ (l : List Request). replies_behind replied_before l) (sym (append-nil a.requests));
      ends = refl;
      stands = a.stands;
    }
      where
        whole : bytes ≡ bytes_of a.requests ++ rest
        whole = a.all ∙ (ap (λ (b : List ℕ). b ++ left) a.asked.all ∙ ap (λ (b : List ℕ). bytes_of a.requests ++ b) (sym same))

    -- what is left is no request
    pub asking_fails : (rest : List ℕ) → rest ≡ left → IsMalformed rest → HasAsked view hosts network handed w at link replied_before bytes rest replied true
    asking_fails rest same malformed = record {
      requests = a.requests ++ [];
      fault = Some (malformed.0, 0 + length (bytes_of a.requests));
      end = a.end;
      frames = subst (λ (b : List ℕ). FramesFrom 0 b (a.requests ++ []) rest (Some (malformed.0, 0 + length (bytes_of a.requests)))) (sym whole)
          (frames_behind 0 a.requests rest [] rest (Some (malformed.0, 0 + length (bytes_of a.requests))) a.asked.each
          (fails (0 + length (bytes_of a.requests)) rest malformed.0 malformed.1));
      run = subst (λ (l : List Request). Run w (client_events at link replied_before l) a.end) (sym (append-nil a.requests)) a.run;
      count = a.count ∙ ap (λ (l : List Request). replies_behind replied_before l) (sym (append-nil a.requests));
      ends = refl;
      stands = a.stands;
    }
      where
        whole : bytes ≡ bytes_of a.requests ++ rest
        whole = a.all ∙ (ap (λ (b : List ℕ). b ++ left) a.asked.all ∙ ap (λ (b : List ℕ). bytes_of a.requests ++ b) (sym same))

    -- memory ran out for the next one
    pub asking_cut : (status : Status) → IsCut view hosts w (IsFirstAsked at link replied_before bytes) status
    asking_cut status =
        cut_here view hosts w (client_events at link replied_before a.requests) a.end (IsFirstAsked at link replied_before bytes) status a.run
        (record {
          consumed = a.consumed;
          rest = left;
          requests = a.requests;
          all = a.all;
          asked = a.asked;
          first = ([], sym (append-nil (client_events at link replied_before a.requests)));
        }) (still view hosts network handed a.end a.stands)

    module _ (q asked : Request) (behind : List ℕ) (number : ℤ) (split : left ≡ q.bytes ++ behind) (is : IsRequest q) (same : asked ≡ q)
        (numbered : number ≡ number_behind replied) where
      event_is : client_event at link number asked ≡ client_event at link (number_behind (replies_behind replied_before a.requests)) q
      event_is = ap (λ (z : ℤ). client_event at link z asked) (numbered ∙ ap (λ (n : ℕ). number_behind n) a.count)
          ∙ ap (λ (x : Request). client_event at link (number_behind (replies_behind replied_before a.requests)) x) same

      all_then : bytes ≡ (a.consumed ++ q.bytes) ++ behind
      all_then = a.all ∙ (ap (λ (b : List ℕ). a.consumed ++ b) split ∙ sym (append_assoc a.consumed q.bytes behind))

      -- one request more came
      pub asking_more : (hosts_after : Hosted S) (post_after : NetworkView) (after : ℕ)
          → HasHappened view hosts_after post_after handed a.end 0 (client_event at link number asked)
          → after ≡ replies_after q.more replied
          → AreAsking view hosts_after post_after handed w at link replied_before bytes behind after
      asking_more hosts_after post_after after h counted = record {
        consumed = a.consumed ++ q.bytes;
        requests = a.requests ++ q ∷ [];
        end = h.end;
        all = all_then;
        asked = asked_more a.consumed a.requests q a.asked is;
        run = subst (λ (l : List Event). Run w l h.end) (sym (events_more at link replied_before a.requests q))
            (run_then w (client_events at link replied_before a.requests) a.end
            (client_event at link (number_behind (replies_behind replied_before a.requests)) q ∷ []) h.end a.run
            (goes a.end h.end h.end (client_event at link (number_behind (replies_behind replied_before a.requests)) q) []
            (subst (λ (e : Event). Happens a.end e h.end) event_is h.happens) (stands h.end)));
        count = counted ∙ (ap (λ (n : ℕ). replies_after q.more n) a.count ∙ sym (behind_more replied_before a.requests q));
        router = happens_stays a.end h.end (client_event at link number asked) at h.happens a.router;
        stands = h.stands;
      }

      first_then : (more : List Event) → BeginWith more (client_event at link number asked ∷ [])
          → IsFirstAsked at link replied_before bytes (client_events at link replied_before a.requests ++ more)
      first_then more (others, rest) = record {
        consumed = a.consumed ++ q.bytes;
        rest = behind;
        requests = a.requests ++ q ∷ [];
        all = all_then;
        asked = asked_more a.consumed a.requests q a.asked is;
        first = (
          others,
          events_more at link replied_before a.requests q
              ∙ (ap (λ (e : Event). client_events at link replied_before a.requests ++ e ∷ []) (sym event_is)
              ∙ (ap (λ (l : List Event). client_events at link replied_before a.requests ++ l) rest
              ∙ sym (append_assoc (client_events at link replied_before a.requests) more others))),
        );
      }

      -- its step failed
      pub asking_stopped : (hosts_after : Hosted S) (replies : List ToLink) (fault : NotTaken) (status : Status) → status ≡ status_for fault
          → HasStopped view hosts_after replies handed a.end (λ events. BeginWith events (client_event at link number asked ∷ [])) fault
          → IsCut view hosts_after w (IsFirstAsked at link replied_before bytes) status
      asking_stopped hosts_after replies fault status is_for s =
          cut_behind view hosts_after replies handed w (client_events at link replied_before a.requests) a.end
          (λ events. BeginWith events (client_event at link number asked ∷ [])) (IsFirstAsked at link replied_before bytes) fault status is_for
          a.run first_then s
