-- What an open request waits for, and which messages are for it.
use Rattle.std.proofs.Common.{◌≡◌, ◌≢◌, ◌⊎◌, inl, inr, ℕ, List, [], ◌∷◌, refl, sym, ap, ◌∙◌, Bool}
use Rattle.std.specs.Prelude.{Option, Some, None, true, false, ◌==◌, ◌&&◌}
use Rattle.std.proofs.lemmas.Bool.{eqb-true}
use Rattle.history_model.specs.History.{IsIn}
use Rattle.history_model.proofs.Lists.{in_cons, in_none}
use Rattle.chunk_model.specs.Tables.{first_shard}
use Rattle.base_model.specs.Identities.{RequestId, same_request}
use Rattle.node_model.specs.Letters.{no_time, at_time, Body, table_ask, table_told, split_ask, split_done, write_ask, write_done, read_ask, half_ask, read_rows, refused, time_ask, time_told}
use Rattle.node_model.specs.States.{Target, Run, Wait, for_time, for_catalogue, for_shards, Work, writing, reading, sharding, splitting, Open, Router}
use Rattle.node_model.specs.CatalogueRows.{AsksNothing as AsksNoTable}
use Rattle.node_model.specs.ShardRows.{Ask, ask_in, same_index, same_ask, AsksNothing}
use Rattle.node_model.specs.RouterRequests.{id_of, places_from, shards_of, untold}
use Rattle.node_model.specs.RouterNext.{awaited}
use Rattle.node_model.specs.RouterRows.{TellsNothing}
use Rattle.reply_facts.proofs.Requests.{same_id}
use Rattle.node_progress.proofs.Members.{in_mapped}
use Rattle.node_progress.specs.UnderWay.{Thing, a_time, a_table, a_split, a_run, a_part, thing_there, first_index, runs_of, things_sent, things_stored, things_by, things_of, Brings}

-- ONE OF THE THINGS

-- it is one of these runs
abbrev pub IsOfRun : RequestId → List Run → Thing → Type 0
IsOfRun id runs t = (run : Run) × IsIn run runs × (t ≡ a_run id (first_index run.indices))

-- it is the part of one of these shards, a run, or the one thing
abbrev pub IsAwaitedStored : RequestId → (node : ℕ) → List Target → (namespace : List ℕ) → Work → Thing → Type 0
IsAwaitedStored id node targets namespace (writing kind ordered statements c) t = IsOfRun id c.runs t
IsAwaitedStored id node targets namespace (reading named at stages telling) t = (x : Target) × IsIn x targets × (t ≡ a_part id x.shard 1)
IsAwaitedStored id node targets namespace sharding t = t ≡ a_table node namespace true no_time
IsAwaitedStored id node targets namespace (splitting middle) t = t ≡ a_split id

-- of the catalogue it is one thing; a write may have runs under way beside that
abbrev pub IsAwaitedThere : RequestId → (node : ℕ) → (namespace : List ℕ) → Work → Thing → Type 0
IsAwaitedThere id node namespace (writing kind ordered statements c) t = (t ≡ a_table node namespace true no_time) ⊎ IsOfRun id c.runs t
IsAwaitedThere id node namespace (reading named at stages telling) t = t ≡ a_table node namespace false (at_time at)
IsAwaitedThere id node namespace sharding t = t ≡ a_table node namespace true no_time
IsAwaitedThere id node namespace (splitting middle) t = t ≡ a_split id

-- it is the time of one of these shards, the part of one of those, or the one thing
abbrev pub IsAwaited : RequestId → (node : ℕ) → (shards : List ℕ) → List Target → (namespace : List ℕ) → Work → Wait → Thing → Type 0
IsAwaited id node shards targets namespace work for_time t = (shard : ℕ) × IsIn shard shards × (t ≡ a_time id shard)
IsAwaited id node shards targets namespace work for_catalogue t = IsAwaitedThere id node namespace work t
IsAwaited id node shards targets namespace work for_shards t = IsAwaitedStored id node targets namespace work t

only_one : (t x : Thing) → IsIn t (x ∷ []) → t ≡ x
only_one t x there = by_place (in_cons t x [] there)
  where
    by_place : (t ≡ x) ⊎ IsIn t [] → t ≡ x
    by_place (inl same) = same
    by_place (inr none) = absurd (in_none t none)

of_run : (id : RequestId) (runs : List Run) (t : Thing) → IsIn t (things_sent id runs) → IsOfRun id runs t
of_run id runs t there = in_mapped (λ (run : Run). a_run id (first_index run.indices)) t runs there

awaited_stored : (id : RequestId) (node : ℕ) (targets : List Target) (namespace : List ℕ) (work : Work) (t : Thing)
    → IsIn t (things_stored id node targets namespace work) → IsAwaitedStored id node targets namespace work t
awaited_stored id node targets namespace (writing kind ordered statements c) t there = of_run id c.runs t there
awaited_stored id node targets namespace (reading named at stages telling) t there = in_mapped (λ (x : Target). a_part id x.shard 1) t targets there
awaited_stored id node targets namespace sharding t there = only_one t (a_table node namespace true no_time) there
awaited_stored id node targets namespace (splitting middle) t there = only_one t (a_split id) there

awaited_there : (id : RequestId) (node : ℕ) (namespace : List ℕ) (work : Work) (t : Thing)
    → IsIn t (thing_there id node namespace work ∷ things_sent id (runs_of work)) → IsAwaitedThere id node namespace work t
awaited_there id node namespace (writing kind ordered statements c) t there = by_place (in_cons t (a_table node namespace true no_time) (things_sent id c.runs) there)
  where
    by_place : (t ≡ a_table node namespace true no_time) ⊎ IsIn t (things_sent id c.runs) → (t ≡ a_table node namespace true no_time) ⊎ IsOfRun id c.runs t
    by_place (inl same) = inl same
    by_place (inr one) = inr (of_run id c.runs t one)
awaited_there id node namespace (reading named at stages telling) t there = only_one t (a_table node namespace false (at_time at)) there
awaited_there id node namespace sharding t there = only_one t (a_table node namespace true no_time) there
awaited_there id node namespace (splitting middle) t there = only_one t (a_split id) there

pub is_awaited : (id : RequestId) (node : ℕ) (shards : List ℕ) (targets : List Target) (namespace : List ℕ) (work : Work) (wait : Wait) (t : Thing)
    → IsIn t (things_by id node shards targets namespace work wait) → IsAwaited id node shards targets namespace work wait t
is_awaited id node shards targets namespace work for_time t there = in_mapped (λ shard. a_time id shard) t shards there
is_awaited id node shards targets namespace work for_catalogue t there = awaited_there id node namespace work t there
is_awaited id node shards targets namespace work for_shards t there = awaited_stored id node targets namespace work t there

-- of an open request
abbrev pub Awaits : Router → Open → Thing → Type 0
Awaits r q t = IsAwaited (id_of r q.count) r.me (untold q.told (shards_of r)) (awaited q.targets q.parts) q.namespace q.work q.wait t

pub awaits : (r : Router) (q : Open) (t : Thing) → IsIn t (things_of r q) → Awaits r q t
awaits r q t there =
    is_awaited (id_of r q.count) r.me (untold q.told (shards_of r)) (awaited q.targets q.parts) q.namespace q.work q.wait t there

-- a router that is in the same life, and knows of the same shards
pub record InSameLife (r u : Router) : Type 0 where
  pub me : u.me ≡ r.me
  pub shards : u.shards ≡ r.shards
  pub life : u.life ≡ r.life

-- waits for the same
pub same_things : (r u : Router) (q : Open) → InSameLife r u → things_of u q ≡ things_of r q
same_things r u q same = λ i. things_by (record { router = same.me i; life = same.life i; count = q.count }) (same.me i)
    (untold q.told (places_from first_shard (same.shards i))) (awaited q.targets q.parts) q.namespace q.work q.wait

-- WHERE MESSAGES GO

-- the node that waits for a thing
abbrev pub home : Thing → ℕ
home (a_time id shard) = id.router
home (a_table node namespace create at) = node
home (a_split id) = id.router
home (a_run id first) = id.router
home (a_part id shard turn) = id.router

pub home_of : (r : Router) (q : Open) (t : Thing) → IsIn t (things_of r q) → home t ≡ r.me
home_of r q t there = by_wait q.wait (awaits r q t there)
  where
    in_catalogue : (work : Work) → IsAwaitedThere (id_of r q.count) r.me q.namespace work t → home t ≡ r.me
    in_catalogue (writing kind ordered statements c) (inl is) = ap (λ x. home x) is
    in_catalogue (writing kind ordered statements c) (inr is) = ap (λ x. home x) is.2
    in_catalogue (reading named at stages telling) is = ap (λ x. home x) is
    in_catalogue sharding is = ap (λ x. home x) is
    in_catalogue (splitting middle) is = ap (λ x. home x) is

    in_shards : (work : Work) → IsAwaitedStored (id_of r q.count) r.me (awaited q.targets q.parts) q.namespace work t → home t ≡ r.me
    in_shards (writing kind ordered statements c) is = ap (λ x. home x) is.2
    in_shards (reading named at stages telling) is = ap (λ x. home x) is.2
    in_shards sharding is = ap (λ x. home x) is
    in_shards (splitting middle) is = ap (λ x. home x) is

    by_wait : (wait : Wait) → IsAwaited (id_of r q.count) r.me (untold q.told (shards_of r)) (awaited q.targets q.parts) q.namespace q.work wait t
        → home t ≡ r.me
    by_wait for_time is = ap (λ x. home x) is.2
    by_wait for_catalogue is = in_catalogue q.work is
    by_wait for_shards is = in_shards q.work is

-- the thing is the time of the node at a place
abbrev pub IsTimeAt : Thing → ℕ → Type 0
IsTimeAt t at = (id : RequestId) × (t ≡ a_time id at)

module _ (t : Thing) (from to : ℕ) where
  at_home : (x : Thing) → t ≡ x → to ≡ home x → to ≡ home t
  at_home x same place = place ∙ sym (ap (λ y. home y) same)

  -- a message that is for a thing goes to the catalogue, to the first shard, to the node that waits, or to the shard whose time it is
  pub brings_to : (b : Body) → Brings t from to b → (to ≡ 0) ⊎ ((to ≡ first_shard) ⊎ ((to ≡ home t) ⊎ IsTimeAt t to))
  brings_to (table_ask namespace create at) is = inl is.1
  brings_to (table_told namespace create at table) is = inr (inr (inl (at_home (a_table to namespace create at) is.0 refl)))
  brings_to (split_ask id namespace middle) is = inl is.1
  brings_to (split_done id found) is = inr (inr (inl (at_home (a_split id) is.0 is.1)))
  brings_to (write_ask id turn ordered namespace [] sent) is = absurd is
  brings_to (write_ask id turn ordered namespace (s ∷ more) sent) is = inr (inl is.1)
  brings_to (write_done id []) is = absurd is
  brings_to (write_done id (d ∷ dones)) is = inr (inr (inl (at_home (a_run id d.index) is.0 is.1)))
  brings_to (read_ask id turn namespace at half sent) is = inr (inl is.1)
  brings_to (half_ask id turn namespace at half documents) is = inr (inl is.1)
  brings_to (read_rows id turn rows) is = inr (inr (inl (at_home (a_part id from turn) is.0 is.1)))
  brings_to (refused what cause) is = absurd is
  brings_to (time_ask id) is = inr (inr (inr (id, is)))
  brings_to (time_told id) is = inr (inr (inl (at_home (a_time id from) is.0 is.1)))

  -- none that the catalogue passes over is for another node's thing
  pub catalogue_idle : (b : Body) → to ≡ 0 → home t ≢ 0 → (IsTimeAt t to → ⊥) → AsksNoTable b → Brings t from to b → ⊥
  catalogue_idle (table_ask namespace create at) place own timeless none is = none
  catalogue_idle (table_told namespace create at table) place own timeless none is = own (sym (at_home (a_table to namespace create at) is.0 refl) ∙ place)
  catalogue_idle (split_ask id namespace middle) place own timeless none is = none
  catalogue_idle (split_done id found) place own timeless none is = own (sym (at_home (a_split id) is.0 is.1) ∙ place)
  catalogue_idle (write_ask id turn ordered namespace [] sent) place own timeless none is = is
  catalogue_idle (write_ask id turn ordered namespace (s ∷ more) sent) place own timeless none is = cc (is.1, place)
  catalogue_idle (write_done id []) place own timeless none is = is
  catalogue_idle (write_done id (d ∷ dones)) place own timeless none is = own (sym (at_home (a_run id d.index) is.0 is.1) ∙ place)
  catalogue_idle (read_ask id turn namespace at half sent) place own timeless none is = cc (is.1, place)
  catalogue_idle (half_ask id turn namespace at half documents) place own timeless none is = cc (is.1, place)
  catalogue_idle (read_rows id turn rows) place own timeless none is = own (sym (at_home (a_part id from turn) is.0 is.1) ∙ place)
  catalogue_idle (refused what cause) place own timeless none is = is
  catalogue_idle (time_ask id) place own timeless none is = timeless (id, is)
  catalogue_idle (time_told id) place own timeless none is = own (sym (at_home (a_time id from) is.0 is.1) ∙ place)

  -- nor one that a shard passes over
  pub shard_idle : (b : Body) → to ≢ 0 → home t ≢ to → AsksNothing b → Brings t from to b → ⊥
  shard_idle (table_ask namespace create at) not_zero own none is = not_zero is.1
  shard_idle (table_told namespace create at table) not_zero own none is = none
  shard_idle (split_ask id namespace middle) not_zero own none is = not_zero is.1
  shard_idle (split_done id found) not_zero own none is = own (sym (at_home (a_split id) is.0 is.1))
  shard_idle (write_ask id turn ordered namespace statements sent) not_zero own none is = none
  shard_idle (write_done id []) not_zero own none is = is
  shard_idle (write_done id (d ∷ dones)) not_zero own none is = own (sym (at_home (a_run id d.index) is.0 is.1))
  shard_idle (read_ask id turn namespace at half sent) not_zero own none is = none
  shard_idle (half_ask id turn namespace at half documents) not_zero own none is = none
  shard_idle (read_rows id turn rows) not_zero own none is = own (sym (at_home (a_part id from turn) is.0 is.1))
  shard_idle (refused what cause) not_zero own none is = is
  shard_idle (time_ask id) not_zero own none is = none
  shard_idle (time_told id) not_zero own none is = own (sym (at_home (a_time id from) is.0 is.1))

  -- nor one that a router passes over
  pub router_idle : (b : Body) → to ≢ 0 → to ≢ first_shard → (IsTimeAt t to → ⊥) → TellsNothing b → Brings t from to b → ⊥
  router_idle (table_ask namespace create at) not_zero not_one timeless none is = not_zero is.1
  router_idle (table_told namespace create at table) not_zero not_one timeless none is = none
  router_idle (split_ask id namespace middle) not_zero not_one timeless none is = not_zero is.1
  router_idle (split_done id found) not_zero not_one timeless none is = none
  router_idle (write_ask id turn ordered namespace [] sent) not_zero not_one timeless none is = is
  router_idle (write_ask id turn ordered namespace (s ∷ more) sent) not_zero not_one timeless none is = not_one is.1
  router_idle (write_done id dones) not_zero not_one timeless none is = none
  router_idle (read_ask id turn namespace at half sent) not_zero not_one timeless none is = not_one is.1
  router_idle (half_ask id turn namespace at half documents) not_zero not_one timeless none is = not_one is.1
  router_idle (read_rows id turn rows) not_zero not_one timeless none is = none
  router_idle (refused what cause) not_zero not_one timeless none is = none
  router_idle (time_ask id) not_zero not_one timeless none is = timeless (id, is)
  router_idle (time_told id) not_zero not_one timeless none is = none

-- REQUESTS OF DOCUMENTS

-- what a request of documents is for, at the first shard
abbrev pub thing_asked : Ask → Thing
thing_asked a = elim a.first as (λ (o : Option ℕ). Thing) [ None ↦ a_part a.id first_shard a.turn | Some first ↦ a_run a.id first ]

pub ask_brings : (t : Thing) (from to : ℕ) (b : Body) (a : Ask) → ask_in b ≡ Some a → Brings t from to b → t ≡ thing_asked a
ask_brings t from to (table_ask namespace create at) a asks is = absurd (cc asks)
ask_brings t from to (table_told namespace create at table) a asks is = absurd (cc asks)
ask_brings t from to (split_ask id namespace middle) a asks is = absurd (cc asks)
ask_brings t from to (split_done id found) a asks is = absurd (cc asks)
ask_brings t from to (write_ask id turn ordered namespace [] sent) a asks is = absurd is
ask_brings t from to (write_ask id turn ordered namespace (s ∷ more) sent) a asks is =
    let same : record { id = id; turn = turn; first = Some s.number.index; namespace = namespace; sent = sent } ≡ a = cc asks in
    is.0 ∙ ap (λ x. thing_asked x) same
ask_brings t from to (write_done id dones) a asks is = absurd (cc asks)
ask_brings t from to (read_ask id turn namespace at half sent) a asks is =
    let same : record { id = id; turn = turn; first = None; namespace = namespace; sent = sent } ≡ a = cc asks in
    is.0 ∙ ap (λ n. a_part id n turn) is.1 ∙ ap (λ x. thing_asked x) same
ask_brings t from to (half_ask id turn namespace at half documents) a asks is = absurd (cc asks)
ask_brings t from to (read_rows id turn rows) a asks is = absurd (cc asks)
ask_brings t from to (refused what cause) a asks is = absurd (cc asks)
ask_brings t from to (time_ask id) a asks is = absurd (cc asks)
ask_brings t from to (time_told id) a asks is = absurd (cc asks)

pub brings_asked : (from to : ℕ) (b : Body) (a : Ask) → ask_in b ≡ Some a → to ≡ first_shard → Brings (thing_asked a) from to b
brings_asked from to (table_ask namespace create at) a asks place = absurd (cc asks)
brings_asked from to (table_told namespace create at table) a asks place = absurd (cc asks)
brings_asked from to (split_ask id namespace middle) a asks place = absurd (cc asks)
brings_asked from to (split_done id found) a asks place = absurd (cc asks)
brings_asked from to (write_ask id turn ordered namespace [] sent) a asks place = absurd (cc asks)
brings_asked from to (write_ask id turn ordered namespace (s ∷ more) sent) a asks place =
    let same : record { id = id; turn = turn; first = Some s.number.index; namespace = namespace; sent = sent } ≡ a = cc asks in
    (ap (λ x. thing_asked x) (sym same), place)
brings_asked from to (write_done id dones) a asks place = absurd (cc asks)
brings_asked from to (read_ask id turn namespace at half sent) a asks place =
    let same : record { id = id; turn = turn; first = None; namespace = namespace; sent = sent } ≡ a = cc asks in
    (ap (λ x. thing_asked x) (sym same) ∙ ap (λ n. a_part id n turn) (sym place), place)
brings_asked from to (half_ask id turn namespace at half documents) a asks place = absurd (cc asks)
brings_asked from to (read_rows id turn rows) a asks place = absurd (cc asks)
brings_asked from to (refused what cause) a asks place = absurd (cc asks)
brings_asked from to (time_ask id) a asks place = absurd (cc asks)
brings_asked from to (time_told id) a asks place = absurd (cc asks)

-- two requests that are the same are for the same
pub same_thing : (a b : Ask) → same_ask a b ≡ true → thing_asked a ≡ thing_asked b
same_thing a b is = by_ids (same_request a.id b.id) (a.turn == b.turn) (same_index a.first b.first) refl refl refl is
  where
    by_first : (x y : Option ℕ) → a.id ≡ b.id → a.turn ≡ b.turn → same_index x y ≡ true
        → (elim x as (λ (o : Option ℕ). Thing) [ None ↦ a_part a.id first_shard a.turn | Some first ↦ a_run a.id first ])
        ≡ (elim y as (λ (o : Option ℕ). Thing) [ None ↦ a_part b.id first_shard b.turn | Some first ↦ a_run b.id first ])
    by_first None None id turn same = cc (id, turn)
    by_first None (Some m) id turn same = absurd (cc same)
    by_first (Some n) None id turn same = absurd (cc same)
    by_first (Some n) (Some m) id turn same = let e : n ≡ m = eqb-true _ _ same in cc (id, e)

    by_ids : (x y z : Bool) → same_request a.id b.id ≡ x → (a.turn == b.turn) ≡ y → same_index a.first b.first ≡ z → (x && (y && z)) ≡ true
        → thing_asked a ≡ thing_asked b
    by_ids true true true p q r is = by_first a.first b.first (same_id a.id b.id p) (eqb-true _ _ q) r
    by_ids true true false p q r is = absurd (cc is)
    by_ids true false z p q r is = absurd (cc is)
    by_ids false y z p q r is = absurd (cc is)
