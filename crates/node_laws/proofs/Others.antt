-- A step of one node leaves the facts on the other nodes.
use Rattle.std.proofs.Common.{◌≡◌, ◌≢◌, inl, inr, ℕ, ◌≤◌, List, ◌++◌, sym, ap, subst, ◌∙◌, arith}
use Rattle.std.specs.Prelude.{None, filter}
use Rattle.std.specs.List.{AllByRecursion}
use Rattle.history_model.proofs.Lists.{all_weaken, all_append, in_prefix}
use Rattle.history_model.specs.History.{IsIn}
use Rattle.base_model.specs.Identities.{RequestId}
use Rattle.reply_model.specs.Exchanges.{Asked, Answered}
use Rattle.reply_model.specs.Accounts.{Given}
use Rattle.reply_model.specs.OneHistory.{WasWanted, IsPlaced, ids_asked, ids_told, AreDifferent}
use Rattle.node_model.specs.Journal.{Kept}
use Rattle.node_model.specs.Letters.{Letter}
use Rattle.reply_model.specs.Cursors.{Cursor}
use Rattle.node_model.specs.States.{Target, Router, Wait, for_time, for_catalogue, for_shards, Work, writing, reading, sharding, splitting, Open, NodeState, catalogue_state, shard_state, router_state, time_of_node}
use Rattle.node_model.specs.RouterRequests.{id_of}
use Rattle.node_model.specs.World.{Held}
use Rattle.node_laws.proofs.Views.{Choice, View, chosen_time, changes_in, history_in, Later}
use Rattle.node_laws.proofs.ReadFacts.{WaitsFor, IsDecided}
use Rattle.node_laws.proofs.WriteFacts.{WasMade}
use Rattle.node_laws.proofs.TableFacts.{IsSentTo}
use Rattle.node_laws.proofs.Facts.{IsKnownTable, ParkedFits, HasTime, IsOpenOf, IsBy, ToldBelow, IsClosedOrOpen, RouterFits, StateFits, IsGiven, is_of, OwnCursors, HeldFits}
use Rattle.node_laws.proofs.Choices.{none_longer, none_of_others, decided_stays}
use Rattle.node_laws.proofs.OwnCursors.{same_lives}
use Rattle.node_laws.proofs.Lists.{map_longer}
use Rattle.node_laws.proofs.LongerJournals.{still_grows}
use Rattle.node_laws.proofs.Growth.{known_grows, letter_grows, seen_grows, made_grows_both, change_wanted_grows, placed_grows, met_later}
use Rattle.node_laws.proofs.Requests.{parts_grow}

pub told_more : (id : RequestId) (answered news : List Answered) → IsIn id (ids_told answered) → IsIn id (ids_told (answered ++ news))
told_more id answered news i = subst (λ l. IsIn id l) (sym (map_longer (λ (t : Answered). t.id) answered news))
    (in_prefix id (ids_told answered) (ids_told news) i)

-- what a request waits for or is decided for it, where nothing is decided meanwhile that was not
waits_grow : (v w : View) (a : Asked) (id : RequestId) (work : Work) → (chosen_time id v.chosen ≡ None → chosen_time id w.chosen ≡ None)
    → WaitsFor v a id work → WaitsFor w a id work
waits_grow v w a id (writing kind ordered statements answers) still f = f
waits_grow v w a id (reading named at stages telling) still f =
    record { read = f.read; reads = f.reads; wanted = f.wanted; ahead = f.ahead; undecided = still f.undecided }
waits_grow v w a id sharding still f = f
waits_grow v w a id (splitting middle) still f = f

pub decided_grows : (v w : View) (id : RequestId) (work : Work) → Later v w → IsDecided v id work → IsDecided w id work
decided_grows v w id (writing kind ordered statements answers) later f = f
decided_grows v w id (reading named at stages telling) later f = decided_stays v w id at later f
decided_grows v w id sharding later f = f
decided_grows v w id (splitting middle) later f = f

-- where it was sent stays so
pub sent_grows : (v w : View) (early late : ℕ) (namespace : List ℕ) (wait : Wait) (work : Work) (targets : List Target) → Later v w → early ≤ late
    → IsSentTo v early namespace wait work targets → IsSentTo w late namespace wait work targets
sent_grows v w early late namespace for_time work targets later le s = s
sent_grows v w early late namespace for_catalogue work targets later le s = s
sent_grows v w early late namespace for_shards (writing kind ordered statements answers) targets later le s = s
sent_grows v w early late namespace for_shards (reading named at stages telling) targets later le s = record {
  table = s.table;
  known = known_grows v w early late s.table later le s.known;
  name = s.name;
  targets_are = s.targets_are;
  enough = s.enough;
}
sent_grows v w early late namespace for_shards sharding targets later le s = s
sent_grows v w early late namespace for_shards (splitting middle) targets later le s = s

-- an open request stays one, where the answers that are new are to others, and no time is decided for it
pub open_grows : (v w : View) (asked more : List Asked) (answered news : List Answered) (r : Router) (q : Open) → Later v w
    → (chosen_time (id_of r q.count) v.chosen ≡ None → chosen_time (id_of r q.count) w.chosen ≡ None)
    → AllByRecursion (λ (t : Answered). t.id ≢ id_of r q.count) news → IsOpenOf v asked answered r q → IsOpenOf w (asked ++ more) (answered ++ news) r q
open_grows v w asked more answered news r q later still others o = record {
  request = o.request;
  taken = in_prefix o.request asked more o.taken;
  own = o.own;
  link = o.link;
  number = o.number;
  asks = o.asks;
  arrived = o.arrived;
  past = o.past;
  reached = by_reached o.reached;
  silent = all_append (λ (t : Answered). t.id ≢ id_of r q.count) answered news o.silent others;
  work = o.work;
  seen = seen_grows v w r.time r.time o.request q.work later (omega arith) o.seen;
  sent = sent_grows v w r.time r.time q.namespace q.wait q.work q.targets later (omega arith) o.sent;
  parts = o.parts;
}
  where
    by_reached : HasTime v o.request (id_of r q.count) r.time q.wait q.work → HasTime w o.request (id_of r q.count) r.time q.wait q.work
    by_reached (inl (e, f)) = inl (e, waits_grow v w o.request (id_of r q.count) q.work still f)
    by_reached (inr (e, f, d)) = inr (e, f, decided_grows v w (id_of r q.count) q.work later d)

pub closed_grows : (requests : List Open) (answered news : List Answered) (a : Asked) → IsClosedOrOpen requests answered a
    → IsClosedOrOpen requests (answered ++ news) a
closed_grows requests answered news a (inl i) = inl i
closed_grows requests answered news a (inr i) = inr (told_more a.id answered news i)

-- the requests and replies of another router say nothing of this one
abbrev pub AreOf : ℕ → List Asked → Type 0
AreOf at asked = AllByRecursion (λ (a : Asked). a.id.router ≡ at) asked

abbrev pub AreToldBy : ℕ → List Answered → Type 0
AreToldBy at answered = AllByRecursion (λ (t : Answered). t.id.router ≡ at) answered

-- of requests of another router anything holds that is said of those of this one
no_asked : (P : Asked → Type 0) (j at : ℕ) (more : List Asked) → j ≢ at → AreOf at more → AllByRecursion (λ (a : Asked). a.id.router ≡ j → P a) more
no_asked P j at more other own = all_weaken (λ (a : Asked). a.id.router ≡ at) (λ (a : Asked). a.id.router ≡ j → P a) more
    (λ a o e. absurd (other (sym e ∙ o))) own

-- times that are decided for requests of one router
pub record Decided (at : ℕ) (v w : View) : Type 0 where
  pub news : List Choice
  pub same : w.chosen ≡ v.chosen ++ news
  pub theirs : AllByRecursion (λ (c : Choice). c.id.router ≡ at) news

-- none is decided for a request of another
pub still_undecided : (v w : View) (j at : ℕ) (id : RequestId) → j ≢ at → id.router ≡ j → Decided at v w → chosen_time id v.chosen ≡ None
    → chosen_time id w.chosen ≡ None
still_undecided v w j at id other router d e =
    ap (λ l. chosen_time id l) d.same
    ∙ none_longer id v.chosen d.news e
    (none_of_others id d.news (all_weaken (λ (c : Choice). c.id.router ≡ at) (λ (c : Choice). c.id ≢ id) d.news
    (λ c h same. other (sym router ∙ sym (ap (λ (i : RequestId). i.router) same) ∙ h)) d.theirs))

pub other_router : (v w : View) (asked more : List Asked) (answered news : List Answered) (j at : ℕ) (r : Router) → j ≢ at → Later v w → Decided at v w
    → AreOf at more
    → AreToldBy at news → RouterFits v asked answered j r → RouterFits w (asked ++ more) (answered ++ news) j r
other_router v w asked more answered news j at r other later decides own told fits = record {
  own = fits.own;
  place = fits.place;
  requests = all_weaken (IsOpenOf v asked answered r) (IsOpenOf w (asked ++ more) (answered ++ news) r) r.requests
      (λ q o. open_grows v w asked more answered news r q later (still_undecided v w j at (id_of r q.count) other fits.own decides)
      (all_weaken (λ (t : Answered). t.id.router ≡ at) (λ (t : Answered). t.id ≢ id_of r q.count) news
      (λ t h e. other (sym fits.own ∙ sym (ap (λ (id : RequestId). id.router) e) ∙ h)) told) o) fits.requests;
  different = fits.different;
  counted = all_append (λ (a : Asked). a.id.router ≡ j → IsBy a.id.life r.life r.begun (a.id.count ≤ r.count)) asked more fits.counted
      (no_asked (λ a. IsBy a.id.life r.life r.begun (a.id.count ≤ r.count)) j at more other own);
  told = all_append (λ (t : Answered). t.id.router ≡ j → IsBy t.id.life r.life r.begun (ToldBelow r.time t)) answered news fits.told
      (all_weaken (λ (t : Answered). t.id.router ≡ at) (λ (t : Answered). t.id.router ≡ j → IsBy t.id.life r.life r.begun (ToldBelow r.time t)) news
      (λ t o e. absurd (other (sym e ∙ o))) told);
  tables = all_weaken (IsKnownTable v r.time) (IsKnownTable w r.time) r.tables (λ t k. known_grows v w r.time r.time t later (omega arith) k) fits.tables;
  closed = all_append (λ (a : Asked). a.id.router ≡ j → a.id.life ≡ r.life → IsClosedOrOpen r.requests (answered ++ news) a) asked more
      (all_weaken (λ (a : Asked). a.id.router ≡ j → a.id.life ≡ r.life → IsClosedOrOpen r.requests answered a)
      (λ (a : Asked). a.id.router ≡ j → a.id.life ≡ r.life → IsClosedOrOpen r.requests (answered ++ news) a) asked
      (λ a c e f. closed_grows r.requests answered news a (c e f)) fits.closed)
      (no_asked (λ a. a.id.life ≡ r.life → IsClosedOrOpen r.requests (answered ++ news) a) j at more other own);
  risen = all_append (λ (a : Asked). a.id.router ≡ j → IsBy a.id.life r.life r.begun (a.time ≤ r.time)) asked more fits.risen
      (no_asked (λ a. IsBy a.id.life r.life r.begun (a.time ≤ r.time)) j at more other own);
}

pub parked_grows : (v w : View) (asked more : List Asked) (a b : ℕ) (m : Letter) → Later v w → a ≤ b → ParkedFits v asked a m → ParkedFits w (asked ++ more) b m
parked_grows v w asked more a b m later le f = (letter_grows v w asked more m later f.0, (let h = f.1 in omega arith), f.2)

pub other_state : (v w : View) (asked more : List Asked) (answered news : List Answered) (j at : ℕ) (kept : List Kept) (s : NodeState) → j ≢ at → Later v w
    → Decided at v w → AreDifferent (ids_asked (asked ++ more)) → AreOf at more → AreToldBy at news → StateFits v asked answered j kept s
    → StateFits w (asked ++ more) (answered ++ news) j kept s
other_state v w asked more answered news j at kept (catalogue_state c) other later decides different own told fits = record {
  own = fits.own;
  place = fits.place;
  changes = fits.changes;
  past = fits.past;
  fitting = fits.fitting;
  wanted = all_weaken (WasWanted asked) (WasWanted (asked ++ more)) _ (λ x s. change_wanted_grows asked more x s) fits.wanted;
}
other_state v w asked more answered news j at kept (shard_state s) other later decides different own told fits = record {
  own = fits.own;
  came = fits.came;
  entries = fits.entries;
  tops = fits.tops;
  past = fits.past;
  legal = fits.legal;
  sent = all_weaken (WasMade (history_in v) asked v.reached) (WasMade (history_in w) (asked ++ more) w.reached) s.entries
      (λ e h. made_grows_both v w asked more e later h) fits.sent;
  numbers = fits.numbers;
  placed = all_weaken (IsPlaced (changes_in v)) (IsPlaced (changes_in w)) s.entries (λ e h. placed_grows v w e later fits.still h) fits.placed;
  parts = parts_grow asked more v.reached (history_in v) s.entries different fits.sent fits.parts;
  still = still_grows v w later fits.still;
  tables = all_weaken (IsKnownTable v s.time) (IsKnownTable w s.time) s.tables (λ t k. known_grows v w s.time s.time t later (omega arith) k) fits.tables;
  parked = all_weaken (ParkedFits v asked s.time) (ParkedFits w (asked ++ more) s.time) s.parked
      (λ m p. parked_grows v w asked more s.time s.time m later (omega arith) p) fits.parked;
}
other_state v w asked more answered news j at kept (router_state r) other later decides different own told fits =
    other_router v w asked more answered news j at r other later decides own told fits

other_cursors : (v w : List Cursor) (j at : ℕ) (s : NodeState) → j ≢ at → ((router : ℕ) → router ≢ at → filter (is_of router) w ≡ filter (is_of router) v)
    → OwnCursors v j s → OwnCursors w j s
other_cursors v w j at (catalogue_state c) other same own = own
other_cursors v w j at (shard_state s) other same own = own
other_cursors v w j at (router_state r) other same own = record {
  own = same_lives j r.life v w (same j other) ∙ own.own;
  given = subst (λ l. AllByRecursion (IsGiven r.life r.begun r.gave r.time) l) (sym (same j other)) own.given;
  most = own.most;
}

pub other_fits : (v w : View) (asked more : List Asked) (answered news : List Answered) (given : List Given) (j at : ℕ) (h : Held) → j ≢ at → Later v w
    → Decided at v w
    → ((router : ℕ) → router ≢ at → filter (is_of router) w.cursors ≡ filter (is_of router) v.cursors) → AreDifferent (ids_asked (asked ++ more))
    → AreOf at more → AreToldBy at news
    → HeldFits v asked answered given j h → HeldFits w (asked ++ more) (answered ++ news) given j h
other_fits v w asked more answered news given j at h other later decides cursors different own told fits = record {
  state = other_state v w asked more answered news j at h.kept h.state other later decides different own told fits.state;
  met = met_later v w given (time_of_node h.state) later fits.met;
  cursors = other_cursors v.cursors w.cursors j at h.state other cursors fits.cursors;
  within = fits.within;
}
