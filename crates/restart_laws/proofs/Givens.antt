-- What routers know of moments, that replies are true, and what they rest on: it stays where a node stops and is started again.
use Rattle.std.proofs.Common.{◌≡◌, ℕ, ◌+◌, ◌<◌, List, ◌++◌, sym, subst, arith, append-nil}
use Rattle.std.specs.Prelude.{Some}
use Rattle.std.specs.List.{AllByRecursion, slice_get}
use Rattle.history_model.proofs.Lists.{all_weaken, all_append, all_both}
use Rattle.reply_model.specs.Exchanges.{Asked, Answered}
use Rattle.reply_model.specs.Accounts.{Given, Dated}
use Rattle.node_model.specs.Journal.{Kept}
use Rattle.node_model.specs.Letters.{Input, moment_input, Effect}
use Rattle.node_model.specs.States.{NodeState, catalogue_state, shard_state, router_state}
use Rattle.node_model.specs.Steps.{Step}
use Rattle.node_model.specs.World.{Held, World, asked_by, dated_onto, moment_in, is_given, tick}
use Rattle.node_laws.proofs.Views.{View}
use Rattle.node_laws.proofs.Facts.{StateFits}
use Rattle.node_laws.proofs.Journals.{with_more}
use Rattle.node_laws.proofs.Moments.{HasMoment, HadMoment, Moments, last_here, given_now, other_has, old_had, asked_news, step_moments}
use Rattle.node_laws.proofs.Places.{each_get, each_set}
use Rattle.node_laws.proofs.ReplySteps.{AreBased, IsBased, steps_after, based_still}
use Rattle.node_laws.proofs.Requests.{asked_now}
use Rattle.node_replay.specs.Durable.{durable_of}
use Rattle.node_replay.specs.Openings.{opened}
use Rattle.node_replay.specs.Restarts.{after_start, cut_off}

-- THE WORLD AFTER A STOP

-- the node at a place stopped in a step on the input, and was started again as this one
abbrev pub stopped : World → (at : ℕ) → Input → Held → (steps : ℕ) → Effect → NodeState → World
stopped w at i old steps f new = tick (after_start (is_given (is_given w at i) at (moment_input 0)) at old steps (cut_off f) new)

-- the moments that were given by then
abbrev pub given_by : World → (at : ℕ) → Input → List Given
given_by w at i = (w.given ++ moment_in at w.now i) ++ moment_in at w.now (moment_input 0)

-- MOMENTS

-- a router that is started is given no moment
pub moment_anew : (v : View) (asked : List Asked) (answered : List Answered) (given : List Given) (at now : ℕ) (kept : List Kept) (time stored : ℕ)
    (s : NodeState) → StateFits v asked answered at kept (opened time (durable_of stored s))
    → HasMoment (given ++ moment_in at now (moment_input 0)) at (opened time (durable_of stored s))
moment_anew v asked answered given at now kept time stored (router_state r) fits =
    (fits.own, sym (last_here at 0 given now (moment_input 0)), omega arith)
moment_anew v asked answered given at now kept time stored (catalogue_state c) fits = tt
moment_anew v asked answered given at now kept time stored (shard_state s) fits = tt

-- what requests that are taken in a step say of moments
pub taken_moments : (w : World) (at : ℕ) (i : Input) (old : Held) (f : Effect) (reached : NodeState) → Moments w → slice_get w.nodes at ≡ Some old
    → Step old.state i f reached
    → AllByRecursion (λ a. HadMoment (w.given ++ moment_in at w.now i) a × (a.came < w.now + 1)) (asked_by w.now f.taken)
taken_moments w at i old f reached m here step =
    let zero_at : 0 + at ≡ at = omega arith in
    let has : HasMoment w.given at old.state = subst (λ k. HasMoment w.given k old.state) zero_at
    (each_get (λ j h. HasMoment w.given j h.state) 0 at w.nodes old m.nodes here) in
    asked_news w.given at w.now i f old.state reached (step_moments old.state reached i f step) has m.givens

module _ (w : World) (at : ℕ) (i : Input) (old : Held) (steps : ℕ) (f : Effect) (new : NodeState) (m : Moments w) where
  -- a request of before, and one that was taken in the step
  asked_still : (a : Asked) → a.came < w.now + 1 → HadMoment (w.given ++ moment_in at w.now i) a → HadMoment (given_by w at i) a
  asked_still a came h = old_had (w.given ++ moment_in at w.now i) at w.now (moment_input 0) a came h

  pub moments_stop : HasMoment (given_by w at i) at new
      → AllByRecursion (λ a. HadMoment (w.given ++ moment_in at w.now i) a × (a.came < w.now + 1)) (asked_by w.now f.taken)
      → Moments (stopped w at i old steps f new)
  moments_stop has taken =
      let zero_at : 0 + at ≡ at = omega arith in
      record {
        nodes = each_set (λ j h. HasMoment w.given j h.state) (λ j h. HasMoment (given_by w at i) j h.state) 0 at w.nodes
            (with_more old f.written new steps)
            (λ j h other had. other_has (w.given ++ moment_in at w.now i) at w.now (moment_input 0) j h.state (λ e. other (omega (arith, e)))
            (other_has w.given at w.now i j h.state (λ e. other (omega (arith, e))) had))
            (subst (λ k. HasMoment (given_by w at i) k new) (sym zero_at) has) m.nodes;
        asked = all_append (λ a. HadMoment (given_by w at i) a × (a.came < w.now + 1)) w.asked (asked_by w.now f.taken)
            (all_weaken (λ a. HadMoment w.given a × (a.came < w.now)) (λ a. HadMoment (given_by w at i) a × (a.came < w.now + 1)) w.asked
            (λ a h.
            let came : a.came < w.now + 1 = (let before = h.1 in omega (arith, before)) in
            (asked_still a came (old_had w.given at w.now i a came h.0), came)) m.asked)
            (all_both (λ (a : Asked). a.came ≡ w.now) (λ a. HadMoment (w.given ++ moment_in at w.now i) a × (a.came < w.now + 1))
            (λ a. HadMoment (given_by w at i) a × (a.came < w.now + 1)) (asked_by w.now f.taken)
            (λ a now h. (asked_still a (omega (arith, now)) h.0, h.1)) (asked_now w.now f.taken) taken);
        givens = all_append (λ (g : Given). g.step < w.now + 1) (w.given ++ moment_in at w.now i) (moment_in at w.now (moment_input 0))
            (all_append (λ (g : Given). g.step < w.now + 1) w.given (moment_in at w.now i)
            (all_weaken (λ (g : Given). g.step < w.now) (λ (g : Given). g.step < w.now + 1) w.given (λ g h. omega (arith, h)) m.givens)
            (all_weaken (λ (g : Given). g.step ≡ w.now) (λ (g : Given). g.step < w.now + 1) (moment_in at w.now i) (λ g e. omega (arith, e))
            (given_now at w.now i)))
            (omega arith, tt);
      }

-- REPLIES

-- no reply is sent in a step that is cut off
pub based_stop : (w : World) (at : ℕ) (i : Input) (old : Held) (steps : ℕ) (f : Effect) (new : NodeState) → AreBased w
    → AreBased (stopped w at i old steps f new)
based_stop w at i old steps f new based = record {
  steps = steps_after w.now w.changed f.written
      (all_weaken (λ (d : Dated). d.step < w.now) (λ (d : Dated). d.step < w.now + 1) w.changed (λ d less. omega (arith, less)) based.steps);
  replies = subst (λ l. AllByRecursion (IsBased (w.now + 1) (dated_onto w.now w.changed f.written)) l) (sym (append-nil w.answered))
      (based_still w.now w.changed f.written w.answered based.replies);
}
