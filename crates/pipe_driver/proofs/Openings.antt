-- Openings: nothing is replied in them, and what comes after them.
use Rattle.std.proofs.Common.{◌≡◌, inl, inr, ℕ, zero, suc, ◌+◌, List, [], ◌++◌, map, refl, sym, ap, ◌∙◌, append-nil}
use Rattle.std.specs.List.{AllByRecursion}
use Rattle.node_model.specs.Letters.{Letter, opened_input, Effect, Reply}
use Rattle.node_model.specs.States.{NodeState}
use Rattle.node_model.specs.CatalogueRows.{catalogue_opened}
use Rattle.node_model.specs.ShardRows.{shard_opened}
use Rattle.node_model.specs.RouterRows.{router_begin, router_opened}
use Rattle.node_model.specs.Steps.{Step, catalogue_step, shard_step, router_step, begin_step}
use Rattle.node_model.specs.World.{World, Event, client_event, deliver_event, moment_event, opened_event, answered_by, Happens, comes, delivers}
use Rattle.node_model.specs.World.{passes, begins as was_opened, Run, stands, goes}
use Rattle.node_model.specs.Schedule.{openings}
use Rattle.node_progress.specs.Firsts.{IsFirst}
use Rattle.node_progress.proofs.Firsts.{first_rests}
use Rattle.node_traits.specs.declared.outputs.ToLink.{ToLink}
use Rattle.driver_steps.specs.declared.network.Network.{Network}
use Rattle.driver_steps.specs.Seats.{Hosted, SeatView, AreCounted, AreHeld, LeaveKept}
use Rattle.driver_steps.specs.Worlds.{StandsFor, network_view, puts_given}

-- NOTHING IS REPLIED

opened_tells : (s : NodeState) (f : Effect) (t : NodeState) → Step s opened_input f t → f.replies ≡ []
opened_tells _ _ _ (catalogue_step _ _ _ _ own (catalogue_opened c)) = refl
opened_tells _ _ _ (shard_step _ _ _ _ own (shard_opened s)) = refl
opened_tells _ _ _ (router_step _ _ _ _ own (router_begin r early)) = refl
opened_tells _ _ _ (router_step _ _ _ _ own (router_opened r begun)) = refl
opened_tells _ _ _ (begin_step r q i f early before row) = absurd before

abbrev pub IsOpening : Event → Type 0
IsOpening (client_event at link number request) = ⊥
IsOpening (deliver_event at which) = ⊥
IsOpening (moment_event at moment) = ⊥
IsOpening (opened_event at) = Unit {0}

openings_are : (first count : ℕ) → AllByRecursion IsOpening (openings first count)
openings_are first zero = tt
openings_are first (suc count) = (tt, openings_are (first + 1) count)

opening_tells : (w v : World) (e : Event) → IsOpening e → Happens w e v → v.answered ≡ w.answered
opening_tells _ _ _ is (comes w v at link number request router m) = absurd is
opening_tells _ _ _ is (delivers w v at which letter got to m) = absurd is
opening_tells _ _ _ is (passes w v at moment m) = absurd is
opening_tells _ _ _ is (was_opened w v at (inr m)) = ap (λ (x : World). x.answered) m.then
opening_tells _ _ _ is (was_opened w v at (inl m)) =
    ap (λ (x : World). x.answered) m.then
    ∙ (ap (λ (l : List Reply). w.answered ++ answered_by w.now l) (opened_tells m.old.state m.f m.new m.step) ∙ append-nil w.answered)

run_tells : (u : World) (es : List Event) (w : World) → AllByRecursion IsOpening es → Run u es w → w.answered ≡ u.answered
run_tells _ _ _ all (stands w) = refl
run_tells _ _ _ all (goes u v w e es h run) = run_tells v es w all.1 run ∙ opening_tells u v e all.0 h

pub nothing_told : (first : World) (count : ℕ) (w : World) → Run first (openings 0 count) w → w.answered ≡ first.answered
nothing_told first count w run = run_tells first (openings 0 count) w (openings_are 0 count) run

-- AT THE START

pub starts : {S M : Type 0} (view : S → SeatView) (letter : M → Letter) (hosts : Hosted S) (first : World) (network : Network M)
    → IsFirst first → AreHeld view hosts.seats first.nodes → AreCounted view hosts.seats first.nodes → LeaveKept view hosts first → network.waiting.items ≡ [] → network.replies.items ≡ []
    → StandsFor view hosts (network_view letter network) (puts_given first.answered) first 0
starts {S} {M} view letter hosts first network begins are as_many leave none silent = record {
  nodes = are;
  counted = as_many;
  crashes = leave;
  past = [];
  sent = (first_rests first begins).none_sent ∙ sym (ap (λ (l : List M). map letter l) none);
  place = refl;
  given = sym (ap (λ (l : List ToLink). puts_given first.answered ++ l) silent ∙ append-nil (puts_given first.answered));
}
