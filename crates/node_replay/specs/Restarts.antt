-- Nodes that stop and are started again, among the events of a run: between two steps, or in a step, after its records are stored and
-- before its messages and replies are sent (docs/JOURNAL.md, "Why a crash leaves it whole": the records of a step are stored all or not at all).
-- A node that is started again was given no moment: this is noted as the moment 0, so that the last one it was given is that of its new life.
use Rattle.std.specs.Prelude.{◌≡◌, ◌⊎◌, ℕ, ℤ, ◌+◌, List, [], ◌∷◌, ◌++◌, false, Some}
use Rattle.std.specs.List.{slice_get, slice_set}
use Rattle.reply_model.specs.Requests.{Request}
use Rattle.node_model.specs.Letters.{Letter, Input, client_input, letter_input, moment_input, opened_input, Effect, nothing}
use Rattle.node_model.specs.States.{NodeState}
use Rattle.node_model.specs.Steps.{Step}
use Rattle.node_model.specs.Lacks.{is_last}
use Rattle.node_model.specs.World.{Held, World, asked_by, answered_by, dated_onto, is_given, tick, IsRouter, Event, client_event, deliver_event, moment_event, opened_event, Happens}
use Rattle.node_replay.specs.Openings.{opened_on}

-- How many steps a node has taken where it is started again: as many as before, and one more if it stopped in a step for which it found no memory; or none, where
-- a call begins (own).
abbrev pub CountsFrom : (before after : ℕ) → Type 0
CountsFrom before after = (after ≡ before) ⊎ ((after ≡ before + 1) ⊎ (after ≡ 0))

-- the world with what a step of the node at a place leaves, where it has taken so many
abbrev pub after_start : World → (at : ℕ) → Held → (steps : ℕ) → Effect → NodeState → World
after_start w at old steps f new = record {
  nodes = slice_set w.nodes at (record { state = new; kept = old.kept ++ f.written; steps = steps });
  sent = w.sent ++ f.mail;
  asked = w.asked ++ asked_by w.now f.taken;
  answered = w.answered ++ answered_by w.now f.replies;
  given = w.given;
  learned = w.learned;
  missed = w.missed;
  away = w.away;
  changed = dated_onto w.now w.changed f.written;
  now = w.now;
}

-- the node at a place stops between two steps, and becomes what its journal replays to
pub record Restarts (w : World) (at : ℕ) (v : World) : Type 0 where
  pub old : Held
  pub new : NodeState
  pub steps : ℕ
  pub here : slice_get w.nodes at ≡ Some old
  pub opens : opened_on old.state old.kept ≡ Some new
  pub counts : CountsFrom old.steps steps
  pub then : v ≡ tick (after_start (is_given w at (moment_input 0)) at old steps nothing new)

-- what remains of a step in which a node stops: the records that it stored, and that it took its requests
abbrev pub cut_off : Effect → Effect
cut_off f = record { written = f.written; mail = []; taken = f.taken; replies = []; away = [] }

-- the node at a place stops in a step on the input, which counts, and becomes what its journal replays to with the records of that step
pub record Stops (w : World) (at : ℕ) (i : Input) (v : World) : Type 0 where
  pub old : Held
  pub f : Effect
  pub reached : NodeState
  pub new : NodeState
  pub here : slice_get w.nodes at ≡ Some old
  pub goes : is_last old.steps old.state i ≡ false
  pub step : Step old.state i f reached
  pub opens : opened_on old.state (old.kept ++ f.written) ≡ Some new
  pub then : v ≡ tick (after_start (is_given (is_given w at i) at (moment_input 0)) at old (old.steps + 1) (cut_off f) new)

-- the place of the node that an event is for, and its input
pub data Gives (w : World) : Event → (at : ℕ) → Input → Type 0 where
  gives_request : (at link : ℕ) (number : ℤ) (request : Request) → IsRouter w.nodes at
      → Gives w (client_event at link number request) at (client_input link number request)
  gives_message : (at which : ℕ) (m : Letter) → slice_get w.sent which ≡ Some m → m.receiver ≡ at → Gives w (deliver_event at which) at (letter_input m)
  gives_moment : (at moment : ℕ) → Gives w (moment_event at moment) at (moment_input moment)
  gives_opening : (at : ℕ) → Gives w (opened_event at) at opened_input

-- an event; or the node at a place is started again; or it stops in the step of an event, and is started again
pub data EventOrStop : Type 0 where
  whole_event : Event → EventOrStop
  restart_event : (at : ℕ) → EventOrStop
  stop_event : (at : ℕ) → Event → EventOrStop

pub data Occurs : World → EventOrStop → World → Type 0 where
  occurs : (w v : World) (e : Event) → Happens w e v → Occurs w (whole_event e) v
  restarts : (w v : World) (at : ℕ) → Restarts w at v → Occurs w (restart_event at) v
  stops : (w v : World) (at : ℕ) (e : Event) (i : Input) → Gives w e at i → Stops w at i v → Occurs w (stop_event at e) v

-- these occur, one after another
pub data RunWithStops : World → List EventOrStop → World → Type 0 where
  stays : (w : World) → RunWithStops w [] w
  proceeds : (u v w : World) (e : EventOrStop) (events : List EventOrStop) → Occurs u e v → RunWithStops v events w → RunWithStops u (e ∷ events) w
