-- What is known where a message comes to a node.
use Rattle.std.proofs.Common.{◌≡◌, ◌≢◌, ◌⊎◌, inl, inr, ℕ, ◌<◌, List, [], ◌∷◌, length, refl, sym, ap, subst, ◌∙◌, arith}
use Rattle.std.specs.Prelude.{Some, None, true, Bool}
use Rattle.std.specs.List.{AllByRecursion, slice_get}
use Rattle.std.proofs.lemmas.Option.{slice_get_within}
use Rattle.history_model.specs.History.{IsIn}
use Rattle.history_model.proofs.Lists.{all_at, all_weaken}
use Rattle.chunk_model.specs.Tables.{Table}
use Rattle.base_model.specs.Identities.{RequestId}
use Rattle.reply_model.specs.Exchanges.{Asked}
use Rattle.command_model.proofs.Taken.{operations_with_keys}
use Rattle.node_model.specs.Journal.{Kept, changes_kept, greatest_kept}
use Rattle.node_model.specs.Letters.{At, Statement, Body, table_ask, table_told, split_ask, split_done, write_ask, write_done, read_ask, half_ask, read_rows, refused, time_ask, time_told, Letter, Input, client_input, letter_input, moment_input, opened_input}
use Rattle.node_model.specs.States.{Target, Wait, for_time, for_catalogue, for_shards, Catalogue, Shard, Router, Work, writing, reading, sharding, splitting, Open, NodeState, catalogue_state, shard_state, router_state}
use Rattle.node_model.specs.ShardRows.{Ask, ask_in}
use Rattle.node_model.specs.RouterRequests.{shards_of}
use Rattle.node_model.specs.RouterNext.{is_target}
use Rattle.node_model.specs.World.{Held, World, journal_at}
use Rattle.node_model.proofs.Journals.{journal_got}
use Rattle.node_laws.proofs.Views.{Book, View, view_of, changes_in}
use Rattle.node_laws.proofs.Facts.{IsKnownTable, BodyFits, IsOfRequest, ParkedFits, WorkFits, IsOpenOf, AreMade, CatalogueFits, ShardFits, RouterFits, SentFits, Good}
use Rattle.node_laws.proofs.TableFacts.{IsSentTo}
use Rattle.node_laws.proofs.KnownTables.{one_target}
use Rattle.node_laws.proofs.Keeps.{the_begun}
use Rattle.node_laws.proofs.Outcomes.{statements_long}
use Rattle.node_laws.proofs.StepsKeep.{fits_here}
use Rattle.node_progress.proofs.Versions.{IsFirst, IsTableOf, table_had, IsPlain, fits_there}
use Rattle.node_progress.proofs.ShardPasses.{FitsThere}
use Rattle.node_progress.proofs.ShardSends.{request_in}
use Rattle.node_progress.proofs.RouterWaits.{IsWaiting}
use Rattle.node_progress.proofs.RouterGoesOn.{IsStated, WaitsForParts, IsReady}
use Rattle.node_progress.proofs.RouterSends.{WasSent, OpenWasSent}
use Rattle.node_progress.proofs.Shards.{IsShardIn}
use Rattle.node_progress.proofs.Bags.{Left, AllLost, changes_made, OpenGoes, IsPosted, posted_ask, Bag}

-- WHAT IS KNOWN OF AN INPUT

-- a message is for the node at the place, and was sent
abbrev pub IsHere : World → ℕ → Input → Type 0
IsHere w p i = (m : Letter) → i ≡ letter_input m → (m.receiver ≡ p) × IsIn m w.sent

abbrev pub now : World → Book → View
now w book = view_of w.nodes book

-- what may be parked is of a request that was taken
pub ask_taken : (v : View) (asked : List Asked) (sender receiver time : ℕ) (b : Body) (a : Ask) → BodyFits v asked sender receiver time b → ask_in b ≡ Some a
    → IsOfRequest asked a.id
ask_taken v asked sender receiver time (write_ask id turn ordered namespace [] sent) a fits asks = absurd (cc asks)
ask_taken v asked sender receiver time (write_ask id turn ordered namespace (s ∷ statements) sent) a fits asks =
    let one : record { id = id; turn = turn; first = Some s.number.index; namespace = namespace; sent = sent } ≡ a = cc asks in
    record { request = fits.0.request; taken = fits.0.taken; own = fits.0.own ∙ ap (λ (o : Ask). o.id) one }
ask_taken v asked sender receiver time (read_ask id turn namespace at half sent) a fits asks =
    let one : record { id = id; turn = turn; first = None; namespace = namespace; sent = sent } ≡ a = cc asks in
    record { request = fits.0.request; taken = fits.0.taken; own = fits.0.own ∙ ap (λ (o : Ask). o.id) one }
ask_taken v asked sender receiver time (table_ask namespace create at) a fits asks = absurd (cc asks)
ask_taken v asked sender receiver time (table_told namespace create at table) a fits asks = absurd (cc asks)
ask_taken v asked sender receiver time (split_ask id namespace middle) a fits asks = absurd (cc asks)
ask_taken v asked sender receiver time (split_done id found) a fits asks = absurd (cc asks)
ask_taken v asked sender receiver time (write_done id dones) a fits asks = absurd (cc asks)
ask_taken v asked sender receiver time (half_ask id turn namespace at half documents) a fits asks = absurd (cc asks)
ask_taken v asked sender receiver time (read_rows id turn rows) a fits asks = absurd (cc asks)
ask_taken v asked sender receiver time (refused what cause) a fits asks = absurd (cc asks)
ask_taken v asked sender receiver time (time_ask id) a fits asks = absurd (cc asks)
ask_taken v asked sender receiver time (time_told id) a fits asks = absurd (cc asks)

module _ (w : World) (book : Book) (left : Left) (good : Good w book) (bag : Bag left w) where
  pub made : AreMade (greatest_kept (journal_at w.nodes 0)) (changes_in (now w book))
  made = the_begun (now w book) w.asked w.answered w.given w.nodes good.order good.nodes

  pub sent_fits : (m : Letter) → IsIn m w.sent → SentFits (now w book) w.changed w.asked w.answered w.given m
  sent_fits m there = all_at (SentFits (now w book) w.changed w.asked w.answered w.given) m w.sent good.letters there

  -- a table that comes was one that the catalogue had
  pub told_had : (m : Letter) → IsIn m w.sent → (namespace : List ℕ) (create : Bool) (at : At) (t : Table) → m.body ≡ table_told namespace create at (Some t)
      → IsTableOf (changes_made w) t × (t.namespace ≡ namespace)
  told_had m there namespace create at t says =
      let table = subst (λ b. BodyFits (now w book) w.asked m.sender m.receiver m.time b) says (sent_fits m there).0 in
      (table_had (now w book) m.time t table.0, table.1)

  -- a request that was taken is of a node
  pub of_node : (a : Asked) → IsIn a w.asked → (id : RequestId) → a.id ≡ id → id.router < length w.nodes
  of_node a there id own =
      subst (λ (x : RequestId). x.router < length w.nodes) own (all_at (λ (x : Asked). x.id.router < length w.nodes) a w.asked bag.asked there)

  pub named_request : (m : Letter) → IsIn m w.sent → (id : RequestId) → request_in m.body ≡ Some id → id.router < length w.nodes
  named_request m there id names = by_body m.body (sent_fits m there).0 names
    where
      by_body : (b : Body) → BodyFits (now w book) w.asked m.sender m.receiver m.time b → request_in b ≡ Some id → id.router < length w.nodes
      by_body (write_ask i turn ordered namespace statements sent) fits names =
          of_node fits.0.request fits.0.taken id (fits.0.own ∙ cc names)
      by_body (half_ask i turn namespace at half documents) fits names =
          of_node fits.0.read.request fits.0.read.taken id (fits.0.read.own ∙ cc names)
      by_body (time_ask i) fits names = of_node fits.request fits.taken id (fits.own ∙ cc names)
      by_body (read_ask i turn namespace at half sent) fits names = absurd (cc names)
      by_body (table_ask namespace create at) fits names = absurd (cc names)
      by_body (table_told namespace create at table) fits names = absurd (cc names)
      by_body (split_ask i namespace middle) fits names = absurd (cc names)
      by_body (split_done i found) fits names = absurd (cc names)
      by_body (write_done i dones) fits names = absurd (cc names)
      by_body (read_rows i turn rows) fits names = absurd (cc names)
      by_body (refused what cause) fits names = absurd (cc names)
      by_body (time_told i) fits names = absurd (cc names)

  -- what is parked is of a node
  pub parked_request : (s : Shard) (p : ℕ) (kept : List Kept) (steps : ℕ) → slice_get w.nodes p ≡ Some (record { state = shard_state s; kept = kept; steps = steps })
      → (x : Letter) (a : Ask) → IsIn x s.parked → ask_in x.body ≡ Some a → a.id.router < length w.nodes
  parked_request s p kept steps here x a there asks =
      let fits : ShardFits (now w book) w.asked p kept s = (fits_here w book p (record { state = shard_state s; kept = kept; steps = steps }) good here).state in
      let parked = all_at (ParkedFits (now w book) w.asked s.time) x s.parked fits.parked there in
      let taken = ask_taken (now w book) w.asked x.sender x.receiver x.time x.body a parked.0 asks in
      of_node taken.request taken.taken a.id taken.own

  -- nothing is refused, or all was lost
  pub plain_or_lost : (p : ℕ) (i : Input) → IsHere w p i → ((m : Letter) → i ≡ letter_input m → IsPlain m.body) ⊎ AllLost left
  plain_or_lost p (client_input link number request) comes = inl (λ m is. absurd (cc is))
  plain_or_lost p (moment_input moment) comes = inl (λ m is. absurd (cc is))
  plain_or_lost p opened_input comes = inl (λ m is. absurd (cc is))
  plain_or_lost p (letter_input m) comes =
      by_posted (all_at (IsPosted left (changes_made w) (length w.nodes)) m w.sent bag.well (comes m refl).1)
    where
      by_posted : IsPosted left (changes_made w) (length w.nodes) m → ((n : Letter) → letter_input m ≡ letter_input n → IsPlain n.body) ⊎ AllLost left
      by_posted (inl well) = inl (λ n is. let same : m ≡ n = cc is in subst (λ (x : Letter). IsPlain x.body) same well.plain)
      by_posted (inr r) = inr r.lost

  -- what a shard wants the catalogue has
  pub known_to : (c : Catalogue) (p : ℕ) (kept : List Kept) (steps : ℕ) → slice_get w.nodes p ≡ Some (record { state = catalogue_state c; kept = kept; steps = steps })
      → c.changes ≡ changes_made w
  known_to c p kept steps here =
      let fits : CatalogueFits w.asked p kept c = (fits_here w book p (record { state = catalogue_state c; kept = kept; steps = steps }) good here).state in
      fits.changes ∙ ap (λ k. changes_kept k) (sym (ap (λ n. journal_at w.nodes n) (sym fits.place)
      ∙ journal_got w.nodes p (record { state = catalogue_state c; kept = kept; steps = steps }) here))

  -- a request that comes to the shard fits there
  pub fit_here : (s : Shard) (p : ℕ) (kept : List Kept) (steps : ℕ) (m : Letter) → slice_get w.nodes p ≡ Some (record { state = shard_state s; kept = kept; steps = steps }) → IsIn m w.sent
      → m.receiver ≡ p → FitsThere s m
  fit_here s p kept steps m here there to a asks =
      let fits : ShardFits (now w book) w.asked p kept s = (fits_here w book p (record { state = shard_state s; kept = kept; steps = steps }) good here).state in
      let well = posted_ask left (changes_made w) (length w.nodes) m a asks (all_at (IsPosted left (changes_made w) (length w.nodes)) m w.sent bag.well there) in (
        fits.own ∙ (sym to ∙ well.first a asks),
        fits_there (now w book) s.time (greatest_kept (journal_at w.nodes 0)) s.tables a made fits.tables (well.knowing a asks),
      )

  -- a node that is not the catalogue is not node 0
  pub not_catalogue : (h : Held) (p : ℕ) → slice_get w.nodes p ≡ Some h → ((c : Catalogue) → h.state ≡ catalogue_state c → ⊥) → p ≢ 0
  not_catalogue h p here other zero_place =
      let c = bag.shards.first in
      let both : Some h ≡ Some (record { state = catalogue_state c.0; kept = c.1; steps = c.2 }) = sym here ∙ (ap (λ k. slice_get w.nodes k) zero_place ∙ c.3) in
      let held : h ≡ record { state = catalogue_state c.0; kept = c.1; steps = c.2 } = cc both in
      other c.0 (ap (λ (x : Held). x.state) held)

  -- and one that is not a shard is none
  pub not_shard_here : (p : ℕ) (s : NodeState) (kept : List Kept) (steps : ℕ) → slice_get w.nodes p ≡ Some (record { state = s; kept = kept; steps = steps })
      → ((x : Shard) → s ≡ shard_state x → ⊥) → IsShardIn w.nodes p → ⊥
  not_shard_here p s kept steps here other is =
      let both : Some (record { state = s; kept = kept; steps = steps }) ≡ Some (record { state = shard_state is.0; kept = is.1; steps = is.2 }) = sym here ∙ is.3 in
      let held : record { state = s; kept = kept; steps = steps } ≡ record { state = shard_state is.0; kept = is.1; steps = is.2 } = cc both in
      other is.0 (ap (λ (x : Held). x.state) held)

  -- shards that a router knows
  pub known_shard : (r : Router) (p at : ℕ) (kept : List Kept) (steps : ℕ) → slice_get w.nodes p ≡ Some (record { state = router_state r; kept = kept; steps = steps })
      → IsIn at (shards_of r) → IsShardIn w.nodes at
  known_shard r p at kept steps here among = all_at (IsShardIn w.nodes) at (shards_of r) (bag.shards.known p r kept steps here).each among

  -- are nodes
  pub shards_within : (r : Router) (p : ℕ) (kept : List Kept) (steps : ℕ) → slice_get w.nodes p ≡ Some (record { state = router_state r; kept = kept; steps = steps })
      → AllByRecursion (λ s. s < length w.nodes) (shards_of r)
  shards_within r p kept steps here =
      all_weaken (IsShardIn w.nodes) (λ s. s < length w.nodes) (shards_of r)
      (λ s is. slice_get_within w.nodes s (record { state = shard_state is.0; kept = is.1; steps = is.2 }) is.3) (bag.shards.known p r kept steps here).each

  -- a router may proceed
  router_fits : (r : Router) (p : ℕ) (kept : List Kept) (steps : ℕ) → slice_get w.nodes p ≡ Some (record { state = router_state r; kept = kept; steps = steps })
      → RouterFits (now w book) w.asked w.answered p r
  router_fits r p kept steps here = (fits_here w book p (record { state = router_state r; kept = kept; steps = steps }) good here).state

  stated_work : (a : Asked) (namespace : List ℕ) (work : Work) → WorkFits a namespace work → IsStated work
  stated_work a namespace (writing kind ordered statements c) fits = record {
    given = fits.0.number;
    id = a.id;
    operations = fits.0.operations;
    are = fits.5;
    keys = operations_with_keys a.request fits.0 fits.1;
    long = fits.6.long ∙ (ap (λ (l : List Statement). length l) fits.5 ∙ statements_long fits.0.number a.id 0 fits.0.operations);
  }
  stated_work a namespace (reading named at stages telling) fits = tt
  stated_work a namespace sharding fits = tt
  stated_work a namespace (splitting middle) fits = tt

  -- no request was sent to shards but one that waits for them
  waits_for : (time : ℕ) (namespace : List ℕ) (wait : Wait) (work : Work) (targets : List Target) → IsSentTo (now w book) time namespace wait work targets
      → (shard : ℕ) → is_target shard targets ≡ true → wait ≡ for_shards
  waits_for time namespace for_time work targets sent shard target =
      let none : is_target shard [] ≡ true = subst (λ l. is_target shard l ≡ true) sent target in
      absurd (cc none)
  waits_for time namespace for_catalogue work targets sent shard target =
      let none : is_target shard [] ≡ true = subst (λ l. is_target shard l ≡ true) sent target in
      absurd (cc none)
  waits_for time namespace for_shards work targets sent shard target = refl

  pub ready_here : (r : Router) (p : ℕ) (kept : List Kept) (steps : ℕ) (i : Input) → slice_get w.nodes p ≡ Some (record { state = router_state r; kept = kept; steps = steps })
      → IsHere w p i → AllByRecursion (OpenGoes left w r) r.requests → IsReady r i
  ready_here r p kept steps i here comes goes =
      let fits = router_fits r p kept steps here in
      let own = fits.own in
      let place = fits.place in
      record {
        place = λ m is. (comes m is).0 ∙ sym own;
        not_zero = λ e. omega (arith, own, place, e);
        not_one = λ e. omega (arith, own, place, e);
        not_shard = λ among. not_shard_here p (router_state r) kept steps here (λ x is. cc is) (known_shard r p p kept steps here (subst (λ n. IsIn n (shards_of r)) own among));
        some = (bag.shards.known p r kept steps here).some;
        different = fits.different;
        waiting = all_weaken (OpenGoes left w r) IsWaiting r.requests (λ q o. o.waiting) goes;
        stated = all_weaken (IsOpenOf (now w book) w.asked w.answered r) (λ (q : Open). IsStated q.work) r.requests
            (λ q o. stated_work o.request q.namespace q.work o.work) fits.requests;
        sent = all_weaken (IsOpenOf (now w book) w.asked w.answered r) WaitsForParts r.requests
            (λ q o shard target. waits_for r.time q.namespace q.wait q.work q.targets o.sent shard target) fits.requests;
        tables = all_weaken (IsKnownTable (now w book) r.time) IsFirst r.tables (λ t k. (table_had (now w book) r.time t k).1) fits.tables;
        current = λ m is id turn first met says.
            subst (λ b. BodyFits (now w book) w.asked m.sender m.receiver m.time b) says (sent_fits m (comes m is).1).0;
        told = λ m is namespace create at t says. let h = told_had m (comes m is).1 namespace create at t says in (h.0.1, h.1);
      }

  pub tables_here : (r : Router) (p : ℕ) (kept : List Kept) (steps : ℕ) → slice_get w.nodes p ≡ Some (record { state = router_state r; kept = kept; steps = steps })
      → AllByRecursion (IsTableOf (changes_made w)) r.tables
  tables_here r p kept steps here =
      all_weaken (IsKnownTable (now w book) r.time) (IsTableOf (changes_made w)) r.tables (λ t k. table_had (now w book) r.time t k) (router_fits r p kept steps here).tables

  -- where its open requests were sent
  sent_out : (time : ℕ) (namespace : List ℕ) (wait : Wait) (work : Work) (targets : List Target) → IsSentTo (now w book) time namespace wait work targets
      → WasSent (changes_made w) namespace wait work targets
  sent_out time namespace for_time work targets sent = tt
  sent_out time namespace for_catalogue work targets sent = tt
  sent_out time namespace for_shards (writing kind ordered statements c) targets sent = tt
  sent_out time namespace for_shards (reading named at stages telling) targets sent = record {
    table = sent.table;
    had = (table_had (now w book) time sent.table sent.known).0;
    name = sent.name;
    targets_are = one_target (now w book) time namespace at stages targets sent;
  }
  sent_out time namespace for_shards sharding targets sent = tt
  sent_out time namespace for_shards (splitting middle) targets sent = tt

  pub sent_here : (r : Router) (p : ℕ) (kept : List Kept) (steps : ℕ) → slice_get w.nodes p ≡ Some (record { state = router_state r; kept = kept; steps = steps })
      → AllByRecursion (OpenWasSent (changes_made w)) r.requests
  sent_here r p kept steps here =
      all_weaken (IsOpenOf (now w book) w.asked w.answered r) (OpenWasSent (changes_made w)) r.requests
      (λ q o. sent_out r.time q.namespace q.wait q.work q.targets o.sent) (router_fits r p kept steps here).requests
