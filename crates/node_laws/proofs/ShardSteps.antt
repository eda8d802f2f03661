-- What a step of a shard owes: quiet steps, later times, requests that wait, and what is found of a read.
use Rattle.std.proofs.Common.{◌≡◌, ℕ, ◌≤◌, List, [], ◌∷◌, ◌++◌, refl, sym, ap, subst, ◌∙◌, arith, append-nil, Bool}
use Rattle.std.specs.Prelude.{Option, Some, None, Ok, true, false}
use Rattle.std.specs.List.{AllByRecursion}
use Rattle.std.specs.Str.{bytes_eq}
use Rattle.history_model.proofs.Lists.{all_weaken, all_at}
use Rattle.chunk_model.specs.Placement.{AreFitting}
use Rattle.chunk_model.specs.Tables.{Table, first_shard, table_of}
use Rattle.chunk_model.specs.Verdicts.{sent_by, fits, shard_is_old, router_is_old, verdict_of}
use Rattle.chunk_model.specs.Versions.{Version}
use Rattle.bson_model.specs.Tree.{Fields}
use Rattle.pipeline_model.specs.Halves.{Half}
use Rattle.history_model.specs.History.{Entry, IsIn}
use Rattle.command_model.specs.Writes.{WriteCommand}
use Rattle.command_model.specs.Command.{write_command, command_of}
use Rattle.base_model.specs.Identities.{RequestId}
use Rattle.reply_model.specs.Exchanges.{Asked}
use Rattle.reply_model.specs.Accounts.{Given}
use Rattle.reply_model.specs.Outcomes.{Done}
use Rattle.reply_model.specs.OneHistory.{IsPlaced, ids_asked, ids_told, AreDifferent}
use Rattle.node_model.specs.Journal.{Kept, greatest_kept}
use Rattle.node_model.specs.Letters.{Statement, Body, table_ask, table_told, split_ask, split_done, write_ask, write_done, read_ask, half_ask, read_rows, refused, time_ask, time_told, Letter}
use Rattle.node_model.specs.States.{Shard, NodeState, time_of_node}
use Rattle.node_model.specs.ShardRows.{at_later, says, Ask, ask_in, wants_table, asks_table, asks_again}
use Rattle.node_model.specs.World.{World}
use Rattle.node_laws.proofs.Views.{Book, View, view_of, entries_in, changes_in, IsShardAt, history_in, IsAbove, Later}
use Rattle.node_laws.proofs.ReadFacts.{IsShown}
use Rattle.node_laws.proofs.WriteFacts.{IsDoneAt, OnlyLast, WasMade}
use Rattle.node_laws.proofs.Facts.{Node, ReachFits, IsKnownTable, IsOwned, HasBegun, IsDoneOf, BodyFits, LetterFits, ParkedFits, ShardFits, StateFits, OwnCursors, IsMet, TellsAll, SameKind, Good}
use Rattle.node_laws.proofs.Owes.{IsSaid, Owes}
use Rattle.node_laws.proofs.CatalogueRows.{no_answers}
use Rattle.node_laws.proofs.LongerJournals.{still_grows}
use Rattle.node_laws.proofs.Growth.{version_grows, next_later, begun_grows, made_later, known_grows, owned_grows, shown_grows, letter_grows, placed_grows}
use Rattle.node_laws.proofs.Journals.{later_self}
use Rattle.node_laws.proofs.ServedStatements.{up_to_later}
use Rattle.node_laws.proofs.KnownTables.{FoundTable, table_found, table_created}
use Rattle.node_laws.proofs.TableFacts.{IsVersionOf}
use Rattle.node_laws.proofs.TableVersions.{known_fits}
use Rattle.node_laws.proofs.RequestParts.{owned_by_first}

-- A STEP THAT TAKES AND REPLIES NOTHING

-- the node fits after the step, and so do the messages that it sends
pub record Leaves (v : View) (w : World) (at : ℕ) (kept : List Kept) (mail : List Letter) (new : NodeState) : Type 0 where
  pub node : StateFits v w.asked w.answered at kept new
  pub met : IsMet v w.given (time_of_node new)
  pub cursors : OwnCursors v.cursors at new
  pub letters : AllByRecursion (IsSaid v w.asked w.given) mail

pub wrote : (w : World) (book : Book) (at : ℕ) (old : Node) (written : List Kept) (mail : List Letter) (new : NodeState) → Good w book → SameKind old.state new → ReachFits book.reached new
    → AllByRecursion (IsAbove at (time_of_node old.state)) written → time_of_node old.state ≤ time_of_node new
    → greatest_kept (old.kept ++ written) ≤ time_of_node new
    → ((v : View) → Later (view_of w.nodes book) v → v.journal at ≡ old.kept ++ written → v.bound at ≡ greatest_kept (old.kept ++ written)
    → Leaves v w at (old.kept ++ written) mail new)
    → Owes w book at old (record { written = written; mail = mail; taken = []; replies = []; away = [] }) new
wrote w book at old written mail new good kind raised rises later within leaves = record {
  kind = kind;
  rises = rises;
  taken = tt;
  told = tt;
  one = subst (λ l. AreDifferent (ids_asked l)) (sym (append-nil w.asked)) good.one;
  once = subst (λ l. AreDifferent (ids_told l)) (sym (append-nil w.answered)) good.once;
  fresh = tt;
  in_order = tt;
  news = [];
  chose = tt;
  cursors = book.cursors;
  raised = raised;
  elsewhere = λ router other. refl;
  owed = λ v grows others journal bound chosen cursors notes.
      let l = leaves v grows journal bound in
      record {
        node = rw (append-nil w.asked, append-nil w.answered) (record { state = l.node; met = l.met; cursors = l.cursors; within = within });
        letters = rw (append-nil w.asked) l.letters;
        answers = no_answers v (w.asked ++ []) (w.answered ++ []) book.cursors cursors;
        known = tt;
        met = tt;
      };
}

-- and writes nothing
pub quiet : (w : World) (book : Book) (at : ℕ) (old : Node) (mail : List Letter) (new : NodeState) → Good w book → SameKind old.state new → ReachFits book.reached new
    → time_of_node old.state ≤ time_of_node new → greatest_kept old.kept ≤ time_of_node new
    → ((v : View) → Later (view_of w.nodes book) v → v.journal at ≡ old.kept → v.bound at ≡ greatest_kept old.kept → Leaves v w at old.kept mail new)
    → Owes w book at old (record { written = []; mail = mail; taken = []; replies = []; away = [] }) new
quiet w book at old mail new good kind raised later within leaves = wrote w book at old [] mail new good kind raised tt later
    (subst (λ k. greatest_kept k ≤ time_of_node new) (sym (append-nil old.kept)) within)
    (λ v grows journal bound. subst (λ k. Leaves v w at k mail new) (sym (append-nil old.kept)) (leaves v grows (journal ∙ append-nil old.kept)
    (bound ∙ ap (λ k. greatest_kept k) (append-nil old.kept))))

-- LATER TIMES

pub letter_later : (u v : View) (asked : List Asked) (m : Letter) → Later u v → LetterFits u asked m → LetterFits v asked m
letter_later u v asked m later f = subst (λ a. LetterFits v a m) (append-nil asked) (letter_grows u v asked [] m later f)

pub parked_later : (u v : View) (asked : List Asked) (a b : ℕ) (m : Letter) → Later u v → a ≤ b → ParkedFits u asked a m → ParkedFits v asked b m
parked_later u v asked a b m later le f = (letter_later u v asked m later f.0, (let h = f.1 in omega arith), f.2)

pub shown_later : (u v : View) (asked : List Asked) (sender a b : ℕ) (id : RequestId) (namespace : List ℕ) (at : ℕ) (half : Half) (documents : List Fields)
    → Later u v → a ≤ b
    → IsShown u asked sender a id namespace at half documents → IsShown v asked sender b id namespace at half documents
shown_later u v asked sender a b id namespace at half documents later le s =
    subst (λ l. IsShown v l sender b id namespace at half documents) (append-nil asked)
    (shown_grows u v asked [] sender a b id namespace at half documents later le s)

-- a shard that keeps its entries and what waits, at a later time
pub shard_later : (u v : View) (asked : List Asked) (at time : ℕ) (kept : List Kept) (s : Shard) → Later u v → s.time ≤ time → ShardFits u asked at kept s
    → ShardFits v asked at kept (at_later s time)
shard_later u v asked at time kept s later le f = record {
  own = f.own;
  came = f.came;
  entries = f.entries;
  tops = f.tops;
  past = up_to_later s.time time s.entries le f.past;
  legal = f.legal;
  sent = all_weaken (WasMade (history_in u) asked u.reached) (WasMade (history_in v) asked v.reached) s.entries (λ e m. made_later u v asked e later m) f.sent;
  numbers = f.numbers;
  placed = all_weaken (IsPlaced (changes_in u)) (IsPlaced (changes_in v)) s.entries (λ e p. placed_grows u v e later f.still p) f.placed;
  parts = f.parts;
  still = still_grows u v later f.still;
  tables = all_weaken (IsKnownTable u s.time) (IsKnownTable v time) s.tables (λ t k. known_grows u v s.time time t later le k) f.tables;
  parked = all_weaken (ParkedFits u asked s.time) (ParkedFits v asked time) s.parked (λ m p. parked_later u v asked s.time time m later le p) f.parked;
}

-- REQUESTS

no_ask : {X : Type 0} {x : X} → None ≡ Some x → ⊥
no_ask e = cc

same_asks : (x y : Ask) → Some x ≡ Some y → x ≡ y
same_asks x y e = cc

-- a request is for a shard
pub ask_receiver : (v : View) (asked : List Asked) (sender receiver time : ℕ) (b : Body) (a : Ask) → ask_in b ≡ Some a
    → BodyFits v asked sender receiver time b → IsShardAt receiver
ask_receiver v asked sender receiver time (write_ask id turn ordered namespace [] sent) a is f = absurd (no_ask is)
ask_receiver v asked sender receiver time (write_ask id turn ordered namespace (s ∷ statements) sent) a is f =
    owned_by_first v time namespace receiver s f.0.owned.0
ask_receiver v asked sender receiver time (read_ask id turn namespace moment half sent) a is f = f.2
ask_receiver v asked sender receiver time (table_ask namespace create moment) a is f = absurd (no_ask is)
ask_receiver v asked sender receiver time (table_told namespace create moment table) a is f = absurd (no_ask is)
ask_receiver v asked sender receiver time (split_ask id namespace middle) a is f = absurd (no_ask is)
ask_receiver v asked sender receiver time (split_done id found) a is f = absurd (no_ask is)
ask_receiver v asked sender receiver time (write_done id dones) a is f = absurd (no_ask is)
ask_receiver v asked sender receiver time (half_ask id turn namespace moment half documents) a is f = absurd (no_ask is)
ask_receiver v asked sender receiver time (read_rows id turn rows) a is f = absurd (no_ask is)
ask_receiver v asked sender receiver time (refused what cause) a is f = absurd (no_ask is)
ask_receiver v asked sender receiver time (time_ask id) a is f = absurd (no_ask is)
ask_receiver v asked sender receiver time (time_told id) a is f = absurd (no_ask is)

-- the versions that it was sent with are of a table that the catalogue had
ask_version : (v : View) (asked : List Asked) (sender receiver time : ℕ) (b : Body) (a : Ask) → ask_in b ≡ Some a
    → BodyFits v asked sender receiver time b → IsVersionOf v time a.namespace receiver a.sent
ask_version v asked sender receiver time (write_ask id turn ordered namespace [] sent) a is f = absurd (no_ask is)
ask_version v asked sender receiver time (write_ask id turn ordered namespace (s ∷ statements) sent) a is f =
    subst (λ (x : Ask). IsVersionOf v time x.namespace receiver x.sent) (same_asks _ a is) f.1
ask_version v asked sender receiver time (read_ask id turn namespace moment half sent) a is f =
    subst (λ (x : Ask). IsVersionOf v time x.namespace receiver x.sent) (same_asks _ a is) f.3
ask_version v asked sender receiver time (table_ask namespace create moment) a is f = absurd (no_ask is)
ask_version v asked sender receiver time (table_told namespace create moment table) a is f = absurd (no_ask is)
ask_version v asked sender receiver time (split_ask id namespace middle) a is f = absurd (no_ask is)
ask_version v asked sender receiver time (split_done id found) a is f = absurd (no_ask is)
ask_version v asked sender receiver time (write_done id dones) a is f = absurd (no_ask is)
ask_version v asked sender receiver time (half_ask id turn namespace moment half documents) a is f = absurd (no_ask is)
ask_version v asked sender receiver time (read_rows id turn rows) a is f = absurd (no_ask is)
ask_version v asked sender receiver time (refused what cause) a is f = absurd (no_ask is)
ask_version v asked sender receiver time (time_ask id) a is f = absurd (no_ask is)
ask_version v asked sender receiver time (time_told id) a is f = absurd (no_ask is)

-- nothing moves, so no request is older than the shard's table
pub never_stale : (v : View) (asked : List Asked) (sender receiver time known : ℕ) (me : ℕ) (tables : List Table) (b : Body) (a : Ask) (met : Version)
    → AreFitting (changes_in v) → AllByRecursion (IsKnownTable v known) tables → receiver ≡ me → BodyFits v asked sender receiver time b → ask_in b ≡ Some a
    → verdict_of a.sent me (table_of a.namespace tables) ≡ router_is_old met → ⊥
never_stale v asked sender receiver time known me tables b a met fitting all to f asks old = by_table (table_of a.namespace tables) refl
  where
    sent : IsVersionOf v time a.namespace receiver a.sent
    sent = ask_version v asked sender receiver time b a asks f

    place : receiver ≡ first_shard
    place = ask_receiver v asked sender receiver time b a asks f

    no_fit : fits ≡ router_is_old met → ⊥
    no_fit e = cc

    no_old : shard_is_old ≡ router_is_old met → ⊥
    no_old e = cc

    by_table : (o : Option Table) → table_of a.namespace tables ≡ o → ⊥
    by_table None h = no_old (ap (λ x. verdict_of a.sent me x) (sym h) ∙ old)
    by_table (Some u) h =
        let found : FoundTable a.namespace tables u = table_found a.namespace tables u h in
        let both = known_fits v time known sent.table u fitting sent.known (all_at (IsKnownTable v known) u tables all found.stands) (sent.name ∙ sym found.name) in
        let as_sent : a.sent ≡ sent_by sent.table first_shard = sent.same ∙ ap (λ n. sent_by sent.table n) place in
        no_fit (sym both ∙ ap (λ n. verdict_of (sent_by sent.table first_shard) n (Some u)) (sym place ∙ to)
        ∙ ap (λ x. verdict_of x me (Some u)) (sym as_sent) ∙ ap (λ x. verdict_of a.sent me x) (sym h) ∙ old)

-- it fits as a message to the same node from any other, at a later time
pub ask_retried : (v : View) (asked : List Asked) (sender other receiver early late : ℕ) (b : Body) (a : Ask) → ask_in b ≡ Some a → early ≤ late
    → BodyFits v asked sender receiver early b → BodyFits v asked other receiver late b
ask_retried v asked sender other receiver early late (write_ask id turn ordered namespace statements sent) a is le f = (
  record {
    request = f.0.request;
    write = f.0.write;
    taken = f.0.taken;
    own = f.0.own;
    asks = f.0.asks;
    order = f.0.order;
    name = f.0.name;
    each = f.0.each;
    next = λ in_order. next_later v v early late f.0.write id statements (later_self v) le (f.0.next in_order);
    owned = all_weaken (IsOwned v early namespace receiver) (IsOwned v late namespace receiver) statements
        (λ s o. owned_grows v v early late namespace receiver s (later_self v) le o) f.0.owned;
    fresh = let h = f.0.fresh in omega arith;
    below = f.0.below;
  },
  version_grows v v early late namespace receiver sent (later_self v) le f.1,
)
ask_retried v asked sender other receiver early late (read_ask id turn namespace moment half sent) a is le f =
    (f.0, (let h = f.1 in omega arith), f.2, version_grows v v early late namespace receiver sent (later_self v) le f.3)
ask_retried v asked sender other receiver early late (table_ask namespace create moment) a is le f = absurd (no_ask is)
ask_retried v asked sender other receiver early late (table_told namespace create moment table) a is le f = absurd (no_ask is)
ask_retried v asked sender other receiver early late (split_ask id namespace middle) a is le f = absurd (no_ask is)
ask_retried v asked sender other receiver early late (split_done id found) a is le f = absurd (no_ask is)
ask_retried v asked sender other receiver early late (write_done id dones) a is le f = absurd (no_ask is)
ask_retried v asked sender other receiver early late (half_ask id turn namespace moment half documents) a is le f = absurd (no_ask is)
ask_retried v asked sender other receiver early late (read_rows id turn rows) a is le f = absurd (no_ask is)
ask_retried v asked sender other receiver early late (refused what cause) a is le f = absurd (no_ask is)
ask_retried v asked sender other receiver early late (time_ask id) a is le f = f
ask_retried v asked sender other receiver early late (time_told id) a is le f = absurd (no_ask is)

wants_by : (namespace : List ℕ) (o : Option Ask) → (elim o as (λ (x : Option Ask). Bool) [ None ↦ false | Some a ↦ bytes_eq a.namespace namespace ]) ≡ true
    → (a : Ask) × (o ≡ Some a)
wants_by namespace None h = absurd (cc)
wants_by namespace (Some a) h = (a, refl)

-- what waited fits as it is tried again
pub retried_fits : (v : View) (asked : List Asked) (s : Shard) (early time : ℕ) (namespace : List ℕ) (m : Letter) → m.receiver ≡ s.me → early ≤ time
    → ParkedFits v asked early m → wants_table namespace m ≡ true → LetterFits v asked (says s s.me time m.body)
retried_fits v asked s early time namespace m own le p wants =
    let a = wants_by namespace (ask_in m.body) wants in
    let before = p.1 in
    ask_retried v asked m.sender s.me s.me m.time time m.body a.0 a.1 (omega arith)
    (subst (λ r. BodyFits v asked m.sender r m.time m.body) own p.0)

-- messages that request tables fit at a time that was met
pub asks_again_fit : (v : View) (asked : List Asked) (given : List Given) (s : Shard) (time : ℕ) (parked : List Letter) → IsMet v given time
    → AllByRecursion (IsSaid v asked given) (asks_again s time parked)
asks_again_fit v asked given s time [] met = tt
asks_again_fit v asked given s time (m ∷ parked) met = by_ask (ask_in m.body) (asks_again_fit v asked given s time parked met)
  where
    by_ask : (o : Option Ask) → AllByRecursion (IsSaid v asked given) (asks_again s time parked)
        → AllByRecursion (IsSaid v asked given)
        (elim o as (λ (x : Option Ask). List Letter) [ None ↦ asks_again s time parked | Some a ↦ asks_table s time a.namespace ∷ asks_again s time parked ])
    by_ask None more = more
    by_ask (Some a) more = ((tt, met, tt), more)

-- WHAT IS SENT BACK

-- the outcomes of statements of a request, of these entries
pub record AreToldBy (v : View) (asked : List Asked) (history : List Entry) (time : ℕ) (id : RequestId) (dones : List Done) : Type 0 where
  pub request : Asked
  pub write : WriteCommand
  pub taken : IsIn request asked
  pub own : request.id ≡ id
  pub asks : command_of request.request ≡ Ok (write_command write)
  pub each : AllByRecursion (IsDoneAt history time write id) dones
  pub last : OnlyLast write.ordered dones
  pub begun : HasBegun v time write.namespace

-- of those that are stored in a later view
pub told_done : (u v : View) (asked : List Asked) (sender time : ℕ) (id : RequestId) (history : List Entry) (dones : List Done) → Later u v
    → entries_in v sender ≡ history → AreToldBy u asked history time id dones → IsDoneOf v asked sender time id dones
told_done u v asked sender time id history dones later same t = record {
  request = t.request;
  write = t.write;
  taken = t.taken;
  own = t.own;
  asks = t.asks;
  each = subst (λ l. AllByRecursion (IsDoneAt l time t.write id) dones) (sym same) t.each;
  last = t.last;
  begun = begun_grows u v time t.write.namespace later t.begun;
}

-- a collection was created where statements are sent to the shard that owns them
pub begun_owned : (v : View) (early time : ℕ) (namespace other : List ℕ) (receiver : ℕ) (s : Statement) → early ≤ time → namespace ≡ other
    → IsOwned v early namespace receiver s → HasBegun v time other
begun_owned v early time namespace other receiver s le name o =
    let c = table_created v early o.table o.known in
    record { creation = c.creation; begun = c.begun; name = c.name ∙ o.name ∙ name; before = let h = c.before in omega arith }

-- what waited has no time
pub tells_none : (v : View) (asked : List Asked) (sender time : ℕ) (namespace : List ℕ) (b : Body)
    → (elim (ask_in b) as (λ (x : Option Ask). Bool) [ None ↦ false | Some a ↦ bytes_eq a.namespace namespace ]) ≡ true → TellsAll v asked sender time b
tells_none v asked sender time namespace (time_told id) h = absurd (cc)
tells_none v asked sender time namespace (table_ask name create moment) h = tt
tells_none v asked sender time namespace (table_told name create moment table) h = tt
tells_none v asked sender time namespace (write_ask id turn ordered name statements sent) h = tt
tells_none v asked sender time namespace (split_ask id name middle) h = tt
tells_none v asked sender time namespace (split_done id true) h = tt
tells_none v asked sender time namespace (split_done id false) h = absurd (cc)
tells_none v asked sender time namespace (write_done id dones) h = tt
tells_none v asked sender time namespace (read_ask id turn name moment half sent) h = tt
tells_none v asked sender time namespace (half_ask id turn name moment half documents) h = tt
tells_none v asked sender time namespace (read_rows id turn rows) h = tt
tells_none v asked sender time namespace (refused what cause) h = tt
tells_none v asked sender time namespace (time_ask id) h = tt
