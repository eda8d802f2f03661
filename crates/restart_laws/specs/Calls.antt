-- Calls of the program that begin on the journals that earlier calls left: each node is started on its own (docs/JOURNAL.md, "The program's journals"), and
-- no message of one call is delivered in another (docs/NODES.md, "Messages"). That a node receives `Opened` is an event of the call itself.
use Rattle.std.specs.Prelude.{◌≡◌, ℕ, zero, suc, ◌+◌, List, [], ◌∷◌, ◌++◌, length}
use Rattle.std.specs.List.{AllByRecursion}
use Rattle.history_laws.specs.Merged.{IsJournalOf}
use Rattle.node_model.specs.Letters.{Letter}
use Rattle.node_model.specs.World.{Held, World, Event, entries_at, start}
use Rattle.node_replay.specs.Restarts.{EventOrStop, whole_event, restart_event, RunWithStops}

-- events in which no node stops
abbrev pub wholes : List Event → List EventOrStop
wholes [] = []
wholes (e ∷ events) = whole_event e ∷ wholes events

-- so many nodes are started, from this place on, in order
abbrev pub restarts_of : (at n : ℕ) → List EventOrStop
restarts_of at zero = []
restarts_of at (suc n) = restart_event at ∷ restarts_of (at + 1) n

-- no message is under way
abbrev pub without_mail : World → World
without_mail w = record {
  nodes = w.nodes;
  sent = [];
  asked = w.asked;
  answered = w.answered;
  given = w.given;
  learned = w.learned;
  missed = w.missed;
  away = w.away;
  changed = w.changed;
  now = w.now;
}

-- these messages were sent before all others
abbrev pub with_mail : List Letter → World → World
with_mail mail w = record {
  nodes = w.nodes;
  sent = mail ++ w.sent;
  asked = w.asked;
  answered = w.answered;
  given = w.given;
  learned = w.learned;
  missed = w.missed;
  away = w.away;
  changed = w.changed;
  now = w.now;
}

-- a call begins on what the calls before it left: every node was started on its journal, and then none has taken a step, and no message is under way
pub record BeginsOn (u first : World) : Type 0 where
  pub started : World
  pub starts : RunWithStops u (restarts_of 0 (length u.nodes)) started
  pub counts : AllByRecursion (λ (h : Held). h.steps ≡ 0) started.nodes
  pub then : first ≡ without_mail started

-- what a call leads to from one of its worlds, or calls after it do, each on the journals that the one before it left; nodes may also stop in a call
pub data Calls (u : World) : World → Type 0 where
  this_call : (w : World) (events : List EventOrStop) → RunWithStops u events w → Calls u w
  next_call : (v first w : World) (events : List EventOrStop) → Calls u v → BeginsOn v first → RunWithStops first events w → Calls u w

-- what calls lead to of which the first begins on empty journals
abbrev pub Reached : (others routers : ℕ) → World → Type 0
Reached others routers w = Calls (start others routers) w

-- with these messages, sent before the others, it is a world of one run
pub record IsOfRun (u w : World) : Type 0 where
  pub mail : List Letter
  pub events : List EventOrStop
  pub run : RunWithStops u events (with_mail mail w)

-- each journal has the entries of its own shard, with rising times
abbrev pub HaveOwnEntries : List Held → Type 0
HaveOwnEntries nodes = (at : ℕ) → IsJournalOf at (entries_at nodes at)
