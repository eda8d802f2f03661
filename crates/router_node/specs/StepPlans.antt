-- The router after a step, and that the step is one of its transitions.
use Rattle.std.specs.Prelude.{◌≡◌, ◌<◌, ◌≤◌, ◌-◌, ◌^◌, ℕ, ◌+◌, pos, Bool, true, false, List, [], ◌∷◌, ◌++◌, Some, None, IfSome, map}
use Rattle.std.specs.Arc.{arc_value}
use Rattle.std.specs.Option.{option_map}
use Rattle.reply_model.specs.Cursors.{Cursor}
use Rattle.node_model.specs.Journal.{Kept}
use Rattle.node_model.specs.Letters.{Letter, Input, letter_input, Effect}
use Rattle.node_model.specs.RouterRequests.{id_of, reached}
use Rattle.node_model.specs.RouterNext.{adopted, with_part, with_work}
use Rattle.node_model.specs.RouterRows.{RouterRow, next_number}
use Rattle.node_model.specs.States.{Open, Router, router_state, open_with, without, replaced}
use Rattle.chunk_model.specs.Tables.{Table}
use Rattle.node_traits.specs.Effects.{AreReadable, StepPlanned, puts_of, spellings}
use Rattle.node_traits.specs.declared.outputs.ToLink.{ToLink}
use Rattle.read_parts.specs.Parts.{target_view}
use Rattle.router_requests.specs.Fates.{fated, stay_of}
use Rattle.router_requests.specs.Lists.{has_room, has_room_for_part}
use Rattle.router_requests.specs.Works.{numbers_of, open_view, told_by, wait_view}
use Rattle.protocol_model.specs.Bodies.{rows_view}
use Rattle.protocol_model.specs.Messages.{letter_of}
use Rattle.router_cursors.specs.CursorLists as cursors
use Rattle.router_cursors.specs.CursorLists.{advanced, closed_all}
use Rattle.router_cursors.specs.Marks.{is_left}
use Rattle.router_cursors.specs.Numbers.{blocks_then}
use Rattle.router_node.specs.RouterStates.{router_of}
use Rattle.router_node.specs.Rows.{life_kept}
use Rattle.router_node.specs.declared.node.RouterNode.{RouterNode}
use Rattle.router_node.specs.declared.step_plan.Change.{Change}
use Rattle.router_node.specs.declared.step_plan.Change.TheVariants.{Stays, Counts, Opens, Closes, Reaches, Told, Gains, Goes, Learns, Shelves, Advances, Ends}
use Rattle.router_node.specs.declared.step_plan.StepPlan.{StepPlan}

-- how many requests were taken afterwards
abbrev pub count_then : Change → ℕ → ℕ
count_then Stays count = count
count_then Counts count = count + 1
count_then (Opens q) count = count + 1
count_then (Closes closed) count = count
count_then (Reaches waiting wait targets) count = count
count_then (Told waiting told) count = count
count_then (Gains waiting shard rows) count = count
count_then (Goes going stay) count = count
count_then (Learns table fates) count = count
count_then (Shelves told opened) count = count
count_then (Advances number shown) count = count + 1
count_then (Ends numbers) count = count + 1

-- the tables afterwards
abbrev pub tables_then : Change → List Table → List Table
tables_then Stays tables = tables
tables_then Counts tables = tables
tables_then (Opens q) tables = tables
tables_then (Closes closed) tables = tables
tables_then (Reaches waiting wait targets) tables = tables
tables_then (Told waiting told) tables = tables
tables_then (Gains waiting shard rows) tables = tables
tables_then (Goes going stay) tables = tables
tables_then (Learns table fates) tables = adopted (option_map (λ t. arc_value t) table) tables
tables_then (Shelves told opened) tables = tables
tables_then (Advances number shown) tables = tables
tables_then (Ends numbers) tables = tables

-- the open requests afterwards, at a time
abbrev pub opens_then : Router → (time : ℕ) → Change → List Open
opens_then r time Stays = r.requests
opens_then r time Counts = r.requests
opens_then r time (Opens q) = r.requests ++ open_view r.me r.life q.value ∷ []
opens_then r time (Closes count) = without count r.requests
opens_then r time (Reaches count wait targets) = elim (open_with count r.requests) [
  | None ↦ r.requests
  | Some q ↦ replaced (with_work q (wait_view wait) (map target_view targets.items) (reached time q.work)) r.requests
]
opens_then r time (Told count told) = elim (open_with count r.requests) [
  | None ↦ r.requests
  | Some q ↦ replaced (told_by q (numbers_of told.items)) r.requests
]
opens_then r time (Gains count shard rows) = elim (open_with count r.requests) [
  | None ↦ r.requests
  | Some q ↦ replaced (with_part q shard.0 (rows_view rows)) r.requests
]
opens_then r time (Goes count stay) = elim (open_with count r.requests) [
  | None ↦ r.requests
  | Some q ↦ replaced (stay_of q stay) r.requests
]
opens_then r time (Learns table fates) = fated r.requests fates.items
opens_then r time (Shelves count opened) = without count r.requests
opens_then r time (Advances number shown) = r.requests
opens_then r time (Ends numbers) = r.requests

-- the cursors afterwards: an opened one has the next number; a change for a request that was just taken is made under that request's id
abbrev pub cursors_then : Router → Change → List Cursor
cursors_then r Stays = r.cursors
cursors_then r Counts = r.cursors
cursors_then r (Opens q) = r.cursors
cursors_then r (Closes count) = r.cursors
cursors_then r (Reaches count wait targets) = r.cursors
cursors_then r (Told count told) = r.cursors
cursors_then r (Gains count shard rows) = r.cursors
cursors_then r (Goes count stay) = r.cursors
cursors_then r (Learns table fates) = r.cursors
cursors_then r (Shelves count opened) = r.cursors ++ record {
  router = r.me;
  life = r.life;
  number = pos (next_number r);
  namespace = opened.namespace;
  time = opened.time.0;
  remaining = map (λ d. arc_value d) opened.rest.items;
} ∷ []
cursors_then r (Advances number shown) = advanced (id_of r (r.count + 1)) number shown r.cursors
cursors_then r (Ends numbers) = closed_all (id_of r (r.count + 1)) numbers.items r.cursors

-- how many blocks of numbers were written afterwards, and the last number that was used
abbrev pub blocks_after : Router → Change → ℕ
blocks_after r Stays = r.blocks
blocks_after r Counts = r.blocks
blocks_after r (Opens q) = r.blocks
blocks_after r (Closes count) = r.blocks
blocks_after r (Reaches count wait targets) = r.blocks
blocks_after r (Told count told) = r.blocks
blocks_after r (Gains count shard rows) = r.blocks
blocks_after r (Goes count stay) = r.blocks
blocks_after r (Learns table fates) = r.blocks
blocks_after r (Shelves count opened) = blocks_then r.blocks r.gave
blocks_after r (Advances number shown) = r.blocks
blocks_after r (Ends numbers) = r.blocks

abbrev pub gave_after : Router → Change → ℕ
gave_after r Stays = r.gave
gave_after r Counts = r.gave
gave_after r (Opens q) = r.gave
gave_after r (Closes count) = r.gave
gave_after r (Reaches count wait targets) = r.gave
gave_after r (Told count told) = r.gave
gave_after r (Gains count shard rows) = r.gave
gave_after r (Goes count stay) = r.gave
gave_after r (Learns table fates) = r.gave
gave_after r (Shelves count opened) = next_number r
gave_after r (Advances number shown) = r.gave
gave_after r (Ends numbers) = r.gave

-- the router at that time and moment, in its life or not, after the change
abbrev pub changed : Router → (time : ℕ) → (begun : Bool) → (moment : ℕ) → Change → Router
changed r time begun moment change = record {
  me = r.me;
  shards = r.shards;
  time = time;
  life = r.life;
  begun = begun;
  moment = moment;
  count = count_then change r.count;
  tables = tables_then change r.tables;
  requests = opens_then r time change;
  cursors = cursors_then r change;
  blocks = blocks_after r change;
  gave = gave_after r change;
}

abbrev pub router_then : Router → StepPlan → Router
router_then r plan = changed r plan.time.0 plan.begun plan.moment plan.change

-- A plan at a time that has no records: this is the router after it, and these are its messages and replies.
pub record Hears (r : Router) (time : ℕ) (change : Change) (mail : List Letter) (replies : List ToLink) (p : StepPlan) : Type 0 where
  pub new : router_then r p ≡ changed r time r.begun r.moment change
  pub sent : map letter_of p.mail ≡ mail
  pub told : p.replies ≡ replies
  pub unkept : p.records.items ≡ []
  pub begun : p.begun ≡ r.begun
  pub is : p.change ≡ change

-- A plan at a time with these records: this is the router after it, and these are its replies.
pub record HearsKeeping (r : Router) (time : ℕ) (change : Change) (replies : List ToLink) (kept : List Kept) (p : StepPlan) : Type 0 where
  pub new : router_then r p ≡ changed r time r.begun r.moment change
  pub sent : map letter_of p.mail ≡ []
  pub told : p.replies ≡ replies
  pub spelled : p.records.items ≡ spellings kept
  pub begun : p.begun ≡ r.begun
  pub is : p.change ≡ change

-- A plan before which the life begins, if it did not begin.
pub record Starts (r : Router) (time moment : ℕ) (change : Change) (mail : List Letter) (replies : List ToLink) (p : StepPlan) : Type 0 where
  pub new : router_then r p ≡ changed r time true moment change
  pub sent : map letter_of p.mail ≡ mail
  pub told : p.replies ≡ replies
  pub kept : p.records.items ≡ spellings (life_kept r)
  pub readable : AreReadable (life_kept r)
  pub begun : p.begun ≡ true
  pub is : p.change ≡ change

-- The plan is a step of the router: its messages, replies and records are those of the step.
abbrev pub IsStep : Router → Input → StepPlan → Type 0
IsStep r i p = StepPlanned (router_state r) i (map letter_of p.mail) p.replies p.records.items (router_state (router_then r p))

-- The change may follow on the router, in its life or not: a request is taken only in a life, and counted once; one that proceeds is open.
abbrev pub FollowsBy : Router → (begun : Bool) → Change → Type 0
FollowsBy r begun Stays = begun ≡ false → r.begun ≡ false
FollowsBy r begun Counts = (begun ≡ true) × (r.count < 2 ^ 64 - 1)
FollowsBy r begun (Opens q) = (begun ≡ true) × (r.count < 2 ^ 64 - 1) × (q.value.count ≡ r.count + 1)
FollowsBy r begun (Closes count) = begun ≡ false → r.begun ≡ false
FollowsBy r begun (Reaches count wait targets) = (begun ≡ false → r.begun ≡ false) × (q : Open) × (open_with count r.requests ≡ Some q)
FollowsBy r begun (Told count told) = (begun ≡ false → r.begun ≡ false) × (q : Open) × (open_with count r.requests ≡ Some q)
FollowsBy r begun (Gains count shard rows) = (begun ≡ false → r.begun ≡ false) × (q : Open) × (open_with count r.requests ≡ Some q)
FollowsBy r begun (Goes count stay) = (begun ≡ false → r.begun ≡ false) × (q : Open) × (open_with count r.requests ≡ Some q)
FollowsBy r begun (Learns table fates) = begun ≡ false → r.begun ≡ false
FollowsBy r begun (Shelves count opened) = (begun ≡ false → r.begun ≡ false) × (is_left (map (λ d. arc_value d) opened.rest.items) ≡ true)
FollowsBy r begun (Advances number shown) = (begun ≡ true) × (r.count < 2 ^ 64 - 1)
FollowsBy r begun (Ends numbers) = (begun ≡ true) × (r.count < 2 ^ 64 - 1)

abbrev pub Follows : Router → StepPlan → Type 0
Follows r p = FollowsBy r p.begun p.change

-- The plan for a message is a transition.
pub record IsHeard (r : Router) (m : Letter) (p : StepPlan) : Type 0 where
  pub effect : Effect
  pub row : RouterRow r (letter_input m) effect (router_then r p)
  pub sent : effect.mail ≡ map letter_of p.mail
  pub told : p.replies ≡ puts_of effect.replies
  pub readable : AreReadable effect.written
  pub spelled : p.records.items ≡ spellings effect.written
  pub follows : Follows r p

-- The plan is a step, and may follow.
pub record IsPlanned (r : Router) (i : Input) (p : StepPlan) : Type 0 where
  pub step : IsStep r i p
  pub follows : Follows r p

-- there is room for the change
abbrev pub HasRoomFor : RouterNode → Change → Type 0
HasRoomFor n Stays = Unit {0}
HasRoomFor n Counts = Unit {0}
HasRoomFor n (Opens q) = has_room n.requests ≡ true
HasRoomFor n (Closes count) = Unit {0}
HasRoomFor n (Reaches count wait targets) = Unit {0}
HasRoomFor n (Told count told) = Unit {0}
HasRoomFor n (Gains count shard rows) = has_room_for_part count n.requests ≡ true
HasRoomFor n (Goes count stay) = Unit {0}
HasRoomFor n (Learns table fates) = IfSome table (λ t. 1 ≤ n.tables.room)
HasRoomFor n (Shelves count opened) = cursors.HasRoomFor n.cursors opened.namespace opened.time.0
HasRoomFor n (Advances number shown) = Unit {0}
HasRoomFor n (Ends numbers) = Unit {0}

-- The router may change as planned, which then takes no memory.
pub record IsReady (n : RouterNode) (p : StepPlan) : Type 0 where
  pub follows : Follows (router_of n) p
  pub room : HasRoomFor n p.change
