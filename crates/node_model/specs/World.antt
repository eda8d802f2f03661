-- All nodes with their journals, and every message that was ever sent: any of these may be delivered, again, late or never.
use Rattle.std.specs.Prelude.{◌≡◌, ◌⊎◌, ℕ, ℤ, zero, suc, ◌+◌, List, [], ◌∷◌, ◌++◌, map, true, false, Some, None}
use Rattle.std.specs.List.{slice_get, slice_set}
use Rattle.chunk_model.specs.Tables.{first_shard}
use Rattle.history_model.specs.History.{Entry}
use Rattle.history_laws.specs.Merged.{merged}
use Rattle.reply_model.specs.Requests.{Request}
use Rattle.reply_model.specs.Exchanges.{Asked, Answered}
use Rattle.reply_model.specs.Accounts.{Dated, Given, Learned, Lack, no_memory, no_steps, Missed, TurnedAway, nothing_stored, Account}
use Rattle.node_model.specs.Journal.{Kept, kept_table, kept_entry, kept_ceiling, kept_change, kept_none, kept_life, kept_block, entries_kept, changes_kept}
use Rattle.node_model.specs.Letters.{table_told, Letter, Input, client_input, letter_input, moment_input, opened_input, Taken, Reply, Rejection, Effect}
use Rattle.node_model.specs.States.{Router, NodeState, catalogue_state, shard_state, router_state, new_catalogue, new_shard, new_router}
use Rattle.node_model.specs.Steps.{Step}
use Rattle.node_model.specs.Lacks.{is_last, misses}

-- a node, what its journal stores, and how many steps it has taken
pub record Held : Type 0 where
  pub state : NodeState
  pub kept : List Kept
  pub steps : ℕ

-- `nodes` in order of their numbers; `sent`, `asked`, `answered` and `given`, the moments, in the order in which they came, and so `learned`, the tables that
-- were received, `missed`, the steps that were not taken, and `away`, the requests that were not; the changes that were made, newest first; `now` is the number
-- of the step to come.
pub record World : Type 0 where
  pub nodes : List Held
  pub sent : List Letter
  pub asked : List Asked
  pub answered : List Answered
  pub given : List Given
  pub learned : List Learned
  pub missed : List Missed
  pub away : List TurnedAway
  pub changed : List Dated
  pub now : ℕ

abbrev pub asked_by : (now : ℕ) → List Taken → List Asked
asked_by now taken = map (λ (x : Taken). record { id = x.id; link = x.link; number = x.number; came = now; time = x.time; moment = x.moment; request = x.request }) taken

abbrev pub answered_by : (now : ℕ) → List Reply → List Answered
answered_by now replies = map (λ (x : Reply). record { id = x.id; link = x.link; number = x.number; request = x.request; step = now; time = x.time; document = x.document }) replies

-- the changes of the catalogue among what is written, before others, newest first
abbrev pub dated_onto : (now : ℕ) → List Dated → List Kept → List Dated
dated_onto now older [] = older
dated_onto now older (kept_change x ∷ kept) = dated_onto now (record { change = x; step = now } ∷ older) kept
dated_onto now older (kept_entry e ∷ kept) = dated_onto now older kept
dated_onto now older (kept_ceiling n ∷ kept) = dated_onto now older kept
dated_onto now older (kept_none n ∷ kept) = dated_onto now older kept
dated_onto now older (kept_table t ∷ kept) = dated_onto now older kept
dated_onto now older (kept_life n ∷ kept) = dated_onto now older kept
dated_onto now older (kept_block n ∷ kept) = dated_onto now older kept

-- the world with what a step of the node at a place leaves
abbrev pub after : World → (at : ℕ) → Held → Effect → NodeState → World
after w at old f new = record {
  nodes = slice_set w.nodes at (record { state = new; kept = old.kept ++ f.written; steps = old.steps + 1 });
  sent = w.sent ++ f.mail;
  asked = w.asked ++ asked_by w.now f.taken;
  answered = w.answered ++ answered_by w.now f.replies;
  given = w.given;
  learned = w.learned;
  missed = w.missed;
  away = w.away;
  changed = dated_onto w.now w.changed f.written;
  now = w.now;
}

-- the moment that an input gives to the node at a place
abbrev pub moment_in : (at now : ℕ) → Input → List Given
moment_in at now (client_input link number request) = []
moment_in at now (letter_input m) = []
moment_in at now (moment_input moment) = record { node = at; moment = moment; step = now } ∷ []
moment_in at now opened_input = []

-- the table that it has
abbrev pub table_in : (at now : ℕ) → Input → List Learned
table_in at now (letter_input m) = elim m.body [
  | table_told namespace create wanted table ↦ elim table [ None ↦ [] | Some t ↦ record { node = at; table = t; step = now } ∷ [] ]
  | body ↦ []
]
table_in at now i = []

abbrev pub is_given : World → (at : ℕ) → Input → World
is_given w at i = record { nodes = w.nodes; sent = w.sent; asked = w.asked; answered = w.answered; given = w.given ++ moment_in at w.now i; learned = w.learned ++ table_in at w.now i; missed = w.missed; away = w.away; changed = w.changed; now = w.now }

-- the step is over
abbrev pub tick : World → World
tick w = record { nodes = w.nodes; sent = w.sent; asked = w.asked; answered = w.answered; given = w.given; learned = w.learned; missed = w.missed; away = w.away; changed = w.changed; now = w.now + 1 }

-- the node at a place takes a step on the input
pub record Moves (w : World) (at : ℕ) (i : Input) (v : World) : Type 0 where
  pub old : Held
  pub f : Effect
  pub new : NodeState
  pub here : slice_get w.nodes at ≡ Some old
  pub goes : is_last old.steps old.state i ≡ false
  pub step : Step old.state i f new
  pub then : v ≡ tick (after (is_given w at i) at old f new)

-- why it may take none: at its last step it takes none and is not out of memory
abbrev pub MayLack : (steps : ℕ) → NodeState → Input → Lack → Type 0
MayLack steps s i no_memory = is_last steps s i ≡ false
MayLack steps s i (no_steps n) = (is_last steps s i ≡ true) × (n ≡ steps)

-- a step that finds no memory counts, the last one does not
abbrev pub steps_after : Lack → ℕ → ℕ
steps_after no_memory steps = steps + 1
steps_after (no_steps n) steps = steps

abbrev pub away_by : (at now : ℕ) → List Rejection → List TurnedAway
away_by at now away = map (λ (x : Rejection). record { router = at; link = x.link; number = x.number; request = x.request; step = now; document = x.document }) away

-- the world where the node at a place took no step, for this lack, and returned this
abbrev pub after_lack : World → (at : ℕ) → Held → Lack → Effect → World
after_lack w at old lack f = record {
  nodes = slice_set w.nodes at (record { state = old.state; kept = old.kept; steps = steps_after lack old.steps });
  sent = w.sent ++ f.mail;
  asked = w.asked;
  answered = w.answered;
  given = w.given;
  learned = w.learned;
  missed = w.missed ++ record { node = at; lack = lack; step = w.now } ∷ [];
  away = w.away ++ away_by at w.now f.away;
  changed = w.changed;
  now = w.now;
}

-- the node at a place takes no step on the input
pub record Misses (w : World) (at : ℕ) (i : Input) (v : World) : Type 0 where
  pub old : Held
  pub lack : Lack
  pub here : slice_get w.nodes at ≡ Some old
  pub may : MayLack old.steps old.state i lack
  pub then : v ≡ tick (after_lack w at old lack (misses old.state lack i))

-- an input comes to the node at a place
abbrev pub Meets : World → (at : ℕ) → Input → World → Type 0
Meets w at i v = Moves w at i v ⊎ Misses w at i v

-- there is a router at a place
abbrev pub IsRouter : List Held → ℕ → Type 0
IsRouter nodes at = (r : Router) × (kept : List Kept) × (steps : ℕ) × (slice_get nodes at ≡ Some (record { state = router_state r; kept = kept; steps = steps }))

-- a request comes to a router; the message with this place among all that were sent is delivered; a moment is given; a node is opened
pub data Event : Type 0 where
  client_event : (at link : ℕ) → (number : ℤ) → Request → Event
  deliver_event : (at which : ℕ) → Event
  moment_event : (at moment : ℕ) → Event
  opened_event : (at : ℕ) → Event

pub data Happens : World → Event → World → Type 0 where
  comes : (w v : World) (at link : ℕ) (number : ℤ) (request : Request) → IsRouter w.nodes at → Meets w at (client_input link number request) v → Happens w (client_event at link number request) v
  delivers : (w v : World) (at which : ℕ) (m : Letter) → slice_get w.sent which ≡ Some m → m.receiver ≡ at → Meets w at (letter_input m) v → Happens w (deliver_event at which) v
  passes : (w v : World) (at moment : ℕ) → Meets w at (moment_input moment) v → Happens w (moment_event at moment) v
  begins : (w v : World) (at : ℕ) → Meets w at opened_input v → Happens w (opened_event at) v

-- these events happen, one after another
pub data Run : World → List Event → World → Type 0 where
  stands : (w : World) → Run w [] w
  goes : (u v w : World) (e : Event) (es : List Event) → Happens u e v → Run v es w → Run u (e ∷ es) w

-- so many shards from this number on, with nothing kept
abbrev pub shards_from : (at n : ℕ) → List Held
shards_from at zero = []
shards_from at (suc n) = record { state = shard_state (new_shard at); kept = []; steps = 0 } ∷ shards_from (at + 1) n

-- so many routers from this number on, which know of so many shards, with nothing kept
abbrev pub routers_from : (at shards n : ℕ) → List Held
routers_from at shards zero = []
routers_from at shards (suc n) = record { state = router_state (new_router at shards); kept = []; steps = 0 } ∷ routers_from (at + 1) shards n

-- the catalogue, the first shard, so many others, and then so many routers
abbrev pub start : (others routers : ℕ) → World
start others routers = record {
  nodes =
      record { state = catalogue_state (new_catalogue 0); kept = []; steps = 0 }
      ∷ record { state = shard_state (new_shard first_shard); kept = []; steps = 0 }
      ∷ shards_from (first_shard + 1) others ++ routers_from (first_shard + others + 1) (others + 1) routers;
  sent = [];
  asked = [];
  answered = [];
  given = [];
  learned = [];
  missed = [];
  away = [];
  changed = [];
  now = 0;
}

-- what the journal at a place stores
abbrev pub journal_at : List Held → ℕ → List Kept
journal_at [] at = []
journal_at (h ∷ nodes) zero = h.kept
journal_at (h ∷ nodes) (suc at) = journal_at nodes at

-- the entries that the journal at a place stores, in order
abbrev pub entries_at : List Held → ℕ → List Entry
entries_at nodes at = entries_kept (journal_at nodes at)

-- The history: the entries that all journals store, in one order, by time, and at one time by shard.
abbrev pub history_of : List Held → List Entry
history_of nodes = merged (map (λ (h : Held). entries_kept h.kept) nodes)

-- what is judged of a world
abbrev pub account_of : World → Account
account_of w = record {
  changes = changes_kept (journal_at w.nodes 0);
  dated = w.changed;
  history = history_of w.nodes;
  asked = w.asked;
  answered = w.answered;
  given = w.given;
  learned = w.learned;
  missed = w.missed;
  away = w.away;
  stored = nothing_stored;
}
