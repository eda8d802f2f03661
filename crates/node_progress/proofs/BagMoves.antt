-- Each step of each node keeps the bag.
use Rattle.std.proofs.Common.{◌≡◌, ◌≢◌, inl, ℕ, ◌<◌, ◌≤◌, List, [], length, sym, subst, ◌∙◌, arith}
use Rattle.std.specs.Prelude.{Some, false, ◌==◌, not}
use Rattle.std.specs.List.{AllByRecursion, slice_get, list_any}
use Rattle.std.proofs.lemmas.Option.{slice_get_within}
use Rattle.history_model.proofs.Lists.{all_at, all_weaken}
use Rattle.history_model.specs.History.{IsIn}
use Rattle.chunk_model.specs.Tables.{first_shard}
use Rattle.reply_model.specs.Exchanges.{Asked}
use Rattle.node_model.specs.Journal.{Kept}
use Rattle.node_model.specs.Letters.{no_time, Letter, Input, letter_input, Effect}
use Rattle.node_model.specs.States.{Shard, Router, Open, NodeState, catalogue_state, shard_state, router_state}
use Rattle.node_model.specs.RouterRequests.{id_of, shards_of, untold}
use Rattle.node_model.specs.RouterNext.{awaited}
use Rattle.node_model.specs.World.{Held, World, asked_by, after, is_given, tick}
use Rattle.node_laws.proofs.Views.{Book}
use Rattle.node_laws.proofs.Facts.{RouterFits, StateFits, HeldFits, Good}
use Rattle.node_progress.specs.UnderWay.{Thing, a_table, things_of}
use Rattle.node_progress.proofs.Members.{in_filtered}
use Rattle.node_progress.proofs.Things.{Awaits, awaits, home, home_of, IsTimeAt}
use Rattle.node_progress.proofs.Lateness.{wants_other, wants_time}
use Rattle.node_progress.proofs.Versions.{IsWell}
use Rattle.node_progress.proofs.CataloguePasses.{IsAmong}
use Rattle.node_progress.proofs.Shards.{IsShardIn, IsSameNode}
use Rattle.node_progress.proofs.Bags.{Left, AllLost, changes_made, OpenGoes, ParkedGoes, NodeGoes, IsPosted, posted_from, Bag, WasFor, Clears}
use Rattle.node_progress.proofs.BagSteps.{Carries, still_well, open_moves, parked_moves, open_lost, parked_lost, bag_after}
use Rattle.node_progress.proofs.BagFacts.{IsHere, now, known_shard}

-- no table that a shard wants
abbrev pub NoShardTable : Thing → Type 0
NoShardTable t = (node : ℕ) (namespace : List ℕ) → t ≡ a_table node namespace false no_time → ⊥

-- it is waited for at a router elsewhere; a time is that of a shard
pub record IsElsewhere (nodes : List Held) (p : ℕ) (t : Thing) : Type 0 where
  pub above : first_shard < home t
  pub away : home t ≢ p
  pub none : NoShardTable t
  pub times : (at : ℕ) → IsTimeAt t at → IsShardIn nodes at

module _ (left later : Left) (w : World) (book : Book) (p : ℕ) (i : Input) (kept : List Kept) (steps : ℕ) (old : NodeState) (f : Effect) (new : NodeState)
    (good : Good w book) (bag : Bag left w) (here : slice_get w.nodes p ≡ Some (record { state = old; kept = kept; steps = steps })) (clears : Clears left later w.sent i)
    (fresh : (n : ℕ) → length w.sent ≤ n → later.places n) (comes : IsHere w p i) where
  abbrev v : World
  v = tick (after (is_given w p i) p (record { state = old; kept = kept; steps = steps }) f new)

  abbrev CarriesHere : Thing → Type 0
  CarriesHere t = Carries left later w p i kept steps old f new bag here clears fresh t

  pub within : p < length w.nodes
  within = slice_get_within w.nodes p (record { state = old; kept = kept; steps = steps }) here

  pub from_node : (m : Letter) → i ≡ letter_input m → m.sender < length w.nodes
  from_node m is =
      posted_from left (changes_made w) (length w.nodes) m (all_at (IsPosted left (changes_made w) (length w.nodes)) m w.sent bag.well (comes m is).1)

  -- WHAT OTHER NODES HAVE

  elsewhere : (j : ℕ) (r : Router) (more : List Kept) (count : ℕ) (q : Open) (t : Thing) → slice_get w.nodes j ≡ Some (record { state = router_state r; kept = more; steps = count })
      → j ≢ p → RouterFits (now w book) w.asked w.answered j r → IsIn t (things_of r q) → IsElsewhere w.nodes p t
  elsewhere j r more count q t there other fits one =
      let own = fits.own in
      let place = fits.place in
      let home_is = home_of r q t one in
      record {
        above = omega (arith, own, place, home_is);
        away = λ e. other (sym own ∙ (sym home_is ∙ e));
        none = λ node namespace e. wants_other (id_of r q.count) r.me (untold q.told (shards_of r))
            (awaited q.targets q.parts) q.namespace q.work q.wait node namespace
            (subst (λ x. Awaits r q x) e (awaits r q t one));
        times = λ at time.
            let among = wants_time (id_of r q.count) r.me (untold q.told (shards_of r)) (awaited q.targets q.parts) q.namespace q.work q.wait time.0 at
            (subst (λ x. Awaits r q x) time.1 (awaits r q t one)) in
            known_shard w book left good bag r j at more count there (in_filtered (λ s. not (list_any (λ x. x == s) q.told)) at (shards_of r) among).0;
      }

  other_open : ((t : Thing) → IsElsewhere w.nodes p t → CarriesHere t) → (j : ℕ) (r : Router) (more : List Kept) (count : ℕ)
      → slice_get w.nodes j ≡ Some (record { state = router_state r; kept = more; steps = count }) → j ≢ p
      → RouterFits (now w book) w.asked w.answered j r → AllByRecursion (OpenGoes left w r) r.requests → AllByRecursion (OpenGoes later v r) r.requests
  other_open carries j r more count there other fits all =
      all_weaken (OpenGoes left w r) (OpenGoes later v r) r.requests (λ q o.
      open_moves left later w p i kept steps old f new bag here clears fresh r q (λ t one. carries t (elsewhere j r more count q t there other fits one)) o) all

  pub others : ((t : Thing) → IsElsewhere w.nodes p t → CarriesHere t)
      → (p ≢ first_shard → (j : ℕ) (s : Shard) (x : Letter) (g : ParkedGoes left w j s x) → WasFor i (a_table first_shard g.ask.namespace false no_time)
      → IsAmong f.mail (a_table first_shard g.ask.namespace false no_time))
      → (j : ℕ) (h : Held) → slice_get w.nodes j ≡ Some h → j ≢ p → HeldFits (now w book) w.asked w.answered w.given j h → NodeGoes left w j h.state
      → NodeGoes later v j h.state
  others carries tables j h there other fits goes = by_state h.state there fits.state goes
    where
      by_state : (s : NodeState) → slice_get w.nodes j ≡ Some (record { state = s; kept = h.kept; steps = h.steps }) → StateFits (now w book) w.asked w.answered j h.kept s
          → NodeGoes left w j s → NodeGoes later v j s
      by_state (catalogue_state c) there own goes = tt
      by_state (shard_state s) there own goes =
          all_weaken (ParkedGoes left w j s) (ParkedGoes later v j s) s.parked
          (λ x g. parked_moves left later w p i kept steps old f new bag here clears fresh j s x g (tables (λ e. other (g.first ∙ sym e)) j s x g)) goes
      by_state (router_state r) there own goes = other_open carries j r h.kept h.steps there other own goes

  -- where all was lost
  pub others_lost : AllLost later → (j : ℕ) (h : Held) → slice_get w.nodes j ≡ Some h → j ≢ p → HeldFits (now w book) w.asked w.answered w.given j h
      → NodeGoes left w j h.state → NodeGoes later v j h.state
  others_lost lost j h there other fits goes = by_state h.state goes
    where
      by_state : (s : NodeState) → NodeGoes left w j s → NodeGoes later v j s
      by_state (catalogue_state c) goes = tt
      by_state (shard_state s) goes =
          all_weaken (ParkedGoes left w j s) (ParkedGoes later v j s) s.parked
          (λ x g. parked_lost left later w p i kept steps old f new bag here clears fresh lost j s x g) goes
      by_state (router_state r) goes =
          all_weaken (OpenGoes left w r) (OpenGoes later v r) r.requests
          (λ q o. open_lost left later w p i kept steps old f new bag here clears fresh lost r q o) goes

  -- where the bag is that of a step that takes nothing
  pub nothing_taken : f.taken ≡ [] → AllByRecursion (λ (a : Asked). a.id.router < length w.nodes) (asked_by w.now f.taken)
  nothing_taken none = subst (λ l. AllByRecursion (λ (a : Asked). a.id.router < length w.nodes) (asked_by w.now l)) (sym none) tt

  well_there : AllByRecursion (IsWell (changes_made w) (length w.nodes)) f.mail → AllByRecursion (IsWell (changes_made v) (length v.nodes)) f.mail
  well_there all =
      all_weaken (IsWell (changes_made w) (length w.nodes)) (IsWell (changes_made v) (length v.nodes)) f.mail
      (λ m x. still_well left later w p i kept steps old f new bag here clears fresh m x) all

  -- THE PARTS TOGETHER

  pub together : IsSameNode old new → AllByRecursion (IsWell (changes_made w) (length w.nodes)) f.mail → NodeGoes later v p new
      → ((j : ℕ) (h : Held) → slice_get w.nodes j ≡ Some h → j ≢ p → HeldFits (now w book) w.asked w.answered w.given j h → NodeGoes left w j h.state
      → NodeGoes later v j h.state)
      → AllByRecursion (λ (a : Asked). a.id.router < length w.nodes) (asked_by w.now f.taken) → Bag later v
  together same well node other taken =
      bag_after left later w p i kept steps old f new bag here clears fresh (now w book) w.answered same good.nodes
      (all_weaken (IsWell (changes_made v) (length v.nodes)) (IsPosted later (changes_made v) (length v.nodes)) f.mail (λ m x. inl x) (well_there well)) node other taken

  -- where messages refuse something
  pub together_lost : AllLost later → IsSameNode old new → AllByRecursion (IsPosted later (changes_made v) (length v.nodes)) f.mail → NodeGoes later v p new
      → AllByRecursion (λ (a : Asked). a.id.router < length w.nodes) (asked_by w.now f.taken) → Bag later v
  together_lost lost same posted node taken =
      bag_after left later w p i kept steps old f new bag here clears fresh (now w book) w.answered same good.nodes posted node (others_lost lost) taken
