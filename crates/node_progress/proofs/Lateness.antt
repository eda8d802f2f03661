-- A message that is for what an open request waits for is not late.
use Rattle.std.proofs.Common.{◌≡◌, ◌≢◌, ◌⊎◌, inl, inr, ℕ, List, [], ◌∷◌, refl, sym, ap, subst, ◌∙◌, arith, Bool}
use Rattle.std.specs.Prelude.{Option, Some, None, is_some, true, false, not, ◌==◌, ◌||◌, if◌then◌else◌}
use Rattle.std.proofs.lemmas.Bool.{eqb-true}
use Rattle.std.proofs.lemmas.Bool.Decides.{Decides-eqb}
use Rattle.history_model.specs.History.{IsIn}
use Rattle.history_model.proofs.Lists.{in_first, in_later, in_cons, in_none, all_at}
use Rattle.base_model.specs.Identities.{RequestId}
use Rattle.reply_model.specs.Outcomes.{Done, has_outcome}
use Rattle.node_model.specs.Letters.{At, no_time, at_time, Statement, Body, table_ask, table_told, split_ask, split_done, write_ask, write_done, read_ask, half_ask, read_rows, refused, time_ask, time_told}
use Rattle.node_model.specs.States.{Target, Run, Course, Wait, for_time, for_catalogue, for_shards, Work, writing, reading, sharding, splitting, Open, Router, open_with}
use Rattle.node_model.specs.RouterRequests.{id_of, shards_of, untold, turn_after, indices_of}
use Rattle.node_model.specs.RouterNext.{part_of, is_target, awaited, has_before, noted}
use Rattle.node_model.specs.RouterRows.{AreNoNews, IsNoRead, IsNotAwaited, IsNoSplit, IsLate, open_of}
use Rattle.node_laws.proofs.Facts.{counts_of, AreDifferentCounts}
use Rattle.node_laws.proofs.SeenStatements.{own_session}
use Rattle.node_progress.specs.UnderWay.{Thing, a_time, a_table, a_split, a_run, a_part, first_index, things_of, Brings}
use Rattle.node_progress.proofs.Members.{in_filtered}
use Rattle.node_progress.proofs.Things.{IsOfRun, IsAwaited, Awaits, awaits}
use Rattle.node_progress.proofs.FirstLeft.{noted_has}
use Rattle.node_progress.proofs.OneRun.{HasNext, OneRun, AreUntried}

-- WHAT WORK MAY WAIT FOR

-- there is something to do next
abbrev pub IsGoing : Work → Type 0
IsGoing (writing kind ordered statements c) = HasNext statements c.answers
IsGoing (reading named at stages telling) = Unit {0}
IsGoing sharding = Unit {0}
IsGoing (splitting middle) = Unit {0}

abbrev pub WaitFits : Work → Wait → Type 0
WaitFits (writing kind ordered statements c) for_time = ⊥
WaitFits (writing kind ordered statements c) for_catalogue = c.runs ≡ []
WaitFits (writing kind ordered statements c) for_shards = OneRun statements c
WaitFits (reading named at stages telling) wait = Unit {0}
WaitFits sharding for_time = ⊥
WaitFits sharding for_catalogue = Unit {0}
WaitFits sharding for_shards = ⊥
WaitFits (splitting middle) for_time = ⊥
WaitFits (splitting middle) for_catalogue = Unit {0}
WaitFits (splitting middle) for_shards = ⊥

-- nothing that was sent for it met a later table
abbrev pub IsFresh : Work → Type 0
IsFresh (writing kind ordered statements c) = AreUntried c.tries
IsFresh (reading named at stages telling) = Unit {0}
IsFresh sharding = Unit {0}
IsFresh (splitting middle) = Unit {0}

-- a table is requested as the work wants it
abbrev pub WantsTable : Work → (create : Bool) → At → Type 0
WantsTable (writing kind ordered statements c) create at = (create ≡ true) × (at ≡ no_time)
WantsTable (reading named time stages telling) create at = (create ≡ false) × (at ≡ at_time time)
WantsTable sharding create at = (create ≡ true) × (at ≡ no_time)
WantsTable (splitting middle) create at = ⊥

-- THE THINGS OF A REQUEST

-- what names a request
abbrev pub named_in : Thing → Option RequestId
named_in (a_time id shard) = Some id
named_in (a_table node namespace create at) = None
named_in (a_split id) = Some id
named_in (a_run id first) = Some id
named_in (a_part id shard turn) = Some id

one_name : (t x : Thing) (id i : RequestId) → t ≡ x → named_in x ≡ Some id → named_in t ≡ Some i → i ≡ id
one_name t x id i is own named =
    let e : Some id ≡ Some i = sym own ∙ (sym (ap (λ y. named_in y) is) ∙ named) in
    cc e

no_name : {P : Type 0} (t x : Thing) (i : RequestId) → t ≡ x → named_in x ≡ None → named_in t ≡ Some i → P
no_name t x i is none named =
    let e : None ≡ Some i = sym none ∙ (sym (ap (λ y. named_in y) is) ∙ named) in
    absurd (cc e)

module _ (id : RequestId) (node : ℕ) (shards : List ℕ) (targets : List Target) (namespace : List ℕ) where
  -- names this one
  pub names_own : (work : Work) (wait : Wait) (t : Thing) (i : RequestId) → IsAwaited id node shards targets namespace work wait t → named_in t ≡ Some i
      → i ≡ id
  names_own work for_time t i is named = one_name t (a_time id is.0) id i is.2 refl named
  names_own (writing kind ordered statements c) for_catalogue t i (inl is) named = no_name t (a_table node namespace true no_time) i is refl named
  names_own (writing kind ordered statements c) for_catalogue t i (inr is) named = one_name t (a_run id (first_index is.0.indices)) id i is.2 refl named
  names_own (writing kind ordered statements c) for_shards t i is named = one_name t (a_run id (first_index is.0.indices)) id i is.2 refl named
  names_own (reading named_time at stages telling) for_catalogue t i is named = no_name t (a_table node namespace false (at_time at)) i is refl named
  names_own (reading named_time at stages telling) for_shards t i is named = one_name t (a_part id is.0.shard 1) id i is.2 refl named
  names_own sharding for_catalogue t i is named = no_name t (a_table node namespace true no_time) i is refl named
  names_own sharding for_shards t i is named = no_name t (a_table node namespace true no_time) i is refl named
  names_own (splitting middle) for_catalogue t i is named = one_name t (a_split id) id i is refl named
  names_own (splitting middle) for_shards t i is named = one_name t (a_split id) id i is refl named

  -- a table: it waits for the catalogue, and the table is as it wants it
  pub wants_table : (work : Work) (wait : Wait) (n : ℕ) (name : List ℕ) (create : Bool) (at : At) → WaitFits work wait
      → IsAwaited id node shards targets namespace work wait (a_table n name create at)
      → (wait ≡ for_catalogue) × (name ≡ namespace) × WantsTable work create at
  wants_table work for_time n name create at fits is = let e = is.2 in absurd (cc e)
  wants_table (writing kind ordered statements c) for_catalogue n name create at fits (inl is) = (refl, cc is, (cc is, cc is))
  wants_table (writing kind ordered statements c) for_catalogue n name create at fits (inr is) = let e = is.2 in absurd (cc e)
  wants_table (writing kind ordered statements c) for_shards n name create at fits is = let e = is.2 in absurd (cc e)
  wants_table (reading named time stages telling) for_catalogue n name create at fits is = (refl, cc is, (cc is, cc is))
  wants_table (reading named time stages telling) for_shards n name create at fits is = let e = is.2 in absurd (cc e)
  wants_table sharding for_catalogue n name create at fits is = (refl, cc is, (cc is, cc is))
  wants_table sharding for_shards n name create at fits is = absurd fits
  wants_table (splitting middle) for_catalogue n name create at fits is = absurd (cc is)
  wants_table (splitting middle) for_shards n name create at fits is = absurd fits

  -- no request waits for a table that a shard wants
  pub wants_other : (work : Work) (wait : Wait) (n : ℕ) (name : List ℕ) → IsAwaited id node shards targets namespace work wait (a_table n name false no_time)
      → ⊥
  wants_other work for_time n name is = let e = is.2 in cc e
  wants_other (writing kind ordered statements c) for_catalogue n name (inl is) = cc is
  wants_other (writing kind ordered statements c) for_catalogue n name (inr is) = let e = is.2 in cc e
  wants_other (writing kind ordered statements c) for_shards n name is = let e = is.2 in cc e
  wants_other (reading named time stages telling) for_catalogue n name is = cc is
  wants_other (reading named time stages telling) for_shards n name is = let e = is.2 in cc e
  wants_other sharding for_catalogue n name is = cc is
  wants_other sharding for_shards n name is = cc is
  wants_other (splitting middle) for_catalogue n name is = cc is
  wants_other (splitting middle) for_shards n name is = cc is

  -- a time is that of one of the shards
  pub wants_time : (work : Work) (wait : Wait) (i : RequestId) (at : ℕ) → IsAwaited id node shards targets namespace work wait (a_time i at) → IsIn at shards
  wants_time work for_time i at is =
      let e = is.2 in
      let same : at ≡ is.0 = cc e in
      subst (λ n. IsIn n shards) (sym same) is.1
  wants_time (writing kind ordered statements c) for_catalogue i at (inl is) = absurd (cc is)
  wants_time (writing kind ordered statements c) for_catalogue i at (inr is) = let e = is.2 in absurd (cc e)
  wants_time (writing kind ordered statements c) for_shards i at is = let e = is.2 in absurd (cc e)
  wants_time (reading named time stages telling) for_catalogue i at is = absurd (cc is)
  wants_time (reading named time stages telling) for_shards i at is = let e = is.2 in absurd (cc e)
  wants_time sharding for_catalogue i at is = absurd (cc is)
  wants_time sharding for_shards i at is = absurd (cc is)
  wants_time (splitting middle) for_catalogue i at is = absurd (cc is)
  wants_time (splitting middle) for_shards i at is = absurd (cc is)

-- WHAT IS NEW TO IT

pub only_one_run : (x run : Run) → IsIn x (run ∷ []) → x ≡ run
only_one_run x run i = by_place (in_cons x run [] i)
  where
    by_place : (x ≡ run) ⊎ IsIn x [] → x ≡ run
    by_place (inl same) = same
    by_place (inr none) = absurd (in_none x none)

module _ (id : RequestId) (node : ℕ) (shards : List ℕ) (targets : List Target) (namespace : List ℕ) (i : RequestId) where
  pub time_is_new : (at : ℕ) (work : Work) (wait : Wait) → WaitFits work wait → IsAwaited id node shards targets namespace work wait (a_time i at)
      → (elim work as (λ (w : Work). Type 0)
      [ writing kind ordered statements c ↦ Unit {0} | reading named at stages telling ↦ wait ≢ for_time | sharding ↦ Unit {0} | splitting middle ↦ Unit {0} ])
      → ⊥
  time_is_new at (writing kind ordered statements c) for_time fits is late = fits
  time_is_new at (writing kind ordered statements c) for_catalogue fits (inl is) late = cc is
  time_is_new at (writing kind ordered statements c) for_catalogue fits (inr is) late = let e = is.2 in cc e
  time_is_new at (writing kind ordered statements c) for_shards fits is late = let e = is.2 in cc e
  time_is_new at (reading named time stages telling) for_time fits is late = late refl
  time_is_new at (reading named time stages telling) for_catalogue fits is late = cc is
  time_is_new at (reading named time stages telling) for_shards fits is late = let e = is.2 in cc e
  time_is_new at sharding for_time fits is late = fits
  time_is_new at sharding for_catalogue fits is late = cc is
  time_is_new at sharding for_shards fits is late = cc is
  time_is_new at (splitting middle) for_time fits is late = fits
  time_is_new at (splitting middle) for_catalogue fits is late = cc is
  time_is_new at (splitting middle) for_shards fits is late = cc is

  pub rows_are_new : (shard turn : ℕ) (all : List Target) (work : Work) (wait : Wait)
      → ((x : Target) → IsIn x targets → is_target x.shard all ≡ true) → IsAwaited id node shards targets namespace work wait (a_part i shard turn)
      → (elim work as (λ (w : Work). Type 0) [
        | writing kind ordered statements c ↦ Unit {0}
        | reading named at stages telling ↦ (turn ≢ 1) ⊎ (is_target shard all ≡ false)
        | sharding ↦ Unit {0}
        | splitting middle ↦ Unit {0}
      ])
      → ⊥
  rows_are_new shard turn all work for_time among is late = let e = is.2 in cc e
  rows_are_new shard turn all (writing kind ordered statements c) for_catalogue among (inl is) late = cc is
  rows_are_new shard turn all (writing kind ordered statements c) for_catalogue among (inr is) late = let e = is.2 in cc e
  rows_are_new shard turn all (writing kind ordered statements c) for_shards among is late = let e = is.2 in cc e
  rows_are_new shard turn all (reading named at stages telling) for_catalogue among is late = cc is
  rows_are_new shard turn all (reading named at stages telling) for_shards among is (inl late) =
      let e = is.2 in
      let first : turn ≡ 1 = cc e in
      late first
  rows_are_new shard turn all (reading named at stages telling) for_shards among is (inr late) =
      let e = is.2 in
      let place : shard ≡ is.0.shard = cc e in
      let yes : is_target shard all ≡ true = ap (λ n. is_target n all) place ∙ among is.0 is.1 in
      cc (yes, late)
  rows_are_new shard turn all sharding for_catalogue among is late = cc is
  rows_are_new shard turn all sharding for_shards among is late = cc is
  rows_are_new shard turn all (splitting middle) for_catalogue among is late = cc is
  rows_are_new shard turn all (splitting middle) for_shards among is late = cc is

  pub split_is_new : (work : Work) (wait : Wait) → WaitFits work wait → IsAwaited id node shards targets namespace work wait (a_split i)
      → (elim work as (λ (w : Work). Type 0)
      [ writing kind ordered statements c ↦ Unit {0} | reading named at stages telling ↦ Unit {0} | sharding ↦ Unit {0} | splitting middle ↦ ⊥ ])
      → ⊥
  split_is_new work for_time fits is late = let e = is.2 in cc e
  split_is_new (writing kind ordered statements c) for_catalogue fits (inl is) late = cc is
  split_is_new (writing kind ordered statements c) for_catalogue fits (inr is) late = let e = is.2 in cc e
  split_is_new (writing kind ordered statements c) for_shards fits is late = let e = is.2 in cc e
  split_is_new (reading named at stages telling) for_catalogue fits is late = cc is
  split_is_new (reading named at stages telling) for_shards fits is late = let e = is.2 in cc e
  split_is_new sharding for_catalogue fits is late = cc is
  split_is_new sharding for_shards fits is late = cc is
  split_is_new (splitting middle) for_catalogue fits is late = late
  split_is_new (splitting middle) for_shards fits is late = late

  -- the index of the one run is that of the first statement that is not answered
  first_of_run : (statements : List Statement) (c : Course) (one : OneRun statements c) (n : HasNext statements c.answers) (d : Done)
      → IsOfRun id c.runs (a_run i d.index) → d.index ≡ n.first.number.index
  first_of_run statements c one n d is =
      let among : IsIn is.0 (one.run ∷ []) = subst (λ l. IsIn is.0 l) one.alone is.1 in
      let same : is.0 ≡ one.run = only_one_run is.0 one.run among in
      let first : first_index one.run.indices ≡ n.first.number.index =
      ap (λ l. first_index l) one.all ∙ ap (λ l. first_index (indices_of l)) n.left in
      let e = is.2 in
      let at : d.index ≡ first_index is.0.indices = cc e in
      at ∙ (ap (λ (run : Run). first_index run.indices) same ∙ first)

  pub outcomes_are_new : (d : Done) (dones : List Done) (work : Work) (wait : Wait) → IsGoing work → WaitFits work wait
      → IsAwaited id node shards targets namespace work wait (a_run i d.index)
      → (elim work as (λ (w : Work). Type 0) [
        | writing kind ordered statements c ↦ noted ordered c.answers (d ∷ dones) ≡ c.answers
        | reading named at stages telling ↦ Unit {0}
        | sharding ↦ Unit {0}
        | splitting middle ↦ Unit {0}
      ])
      → ⊥
  outcomes_are_new d dones work for_time going fits is late = let e = is.2 in cc e
  outcomes_are_new d dones (writing kind ordered statements c) for_catalogue going fits (inl is) late = cc is
  outcomes_are_new d dones (writing kind ordered statements c) for_catalogue going fits (inr is) late =
      in_none is.0 (subst (λ l. IsIn is.0 l) fits is.1)
  outcomes_are_new d dones (writing kind ordered statements c) for_shards going fits is late =
      let at : d.index ≡ going.first.number.index = first_of_run statements c fits going d is in
      let before : has_before d.index c.answers ≡ true = ap (λ n. has_before n c.answers) at ∙ going.next.before in
      let within = going.next.within in
      let has : has_outcome (noted ordered c.answers (d ∷ dones)) d.index ≡ true =
      noted_has ordered c.answers d dones before (omega (arith, at, within)) in
      let none : has_outcome (noted ordered c.answers (d ∷ dones)) d.index ≡ false =
      ap (λ l. has_outcome l d.index) late ∙ (ap (λ n. has_outcome c.answers n) at ∙ going.next.missing) in
      cc (has, none)
  outcomes_are_new d dones (reading named at stages telling) for_catalogue going fits is late = cc is
  outcomes_are_new d dones (reading named at stages telling) for_shards going fits is late = let e = is.2 in cc e
  outcomes_are_new d dones sharding for_catalogue going fits is late = cc is
  outcomes_are_new d dones sharding for_shards going fits is late = cc is
  outcomes_are_new d dones (splitting middle) for_catalogue going fits is late = cc is
  outcomes_are_new d dones (splitting middle) for_shards going fits is late = cc is

-- a target is one
target_there : (x : Target) (targets : List Target) → IsIn x targets → is_target x.shard targets ≡ true
target_there x [] i = absurd (in_none x i)
target_there x (t ∷ targets) i = by_place (in_cons x t targets i) (λ j. target_there x targets j)
  where
    either : (b : Bool) → (b || true) ≡ true
    either true = refl
    either false = refl

    by_place : (x ≡ t) ⊎ IsIn x targets → (IsIn x targets → is_target x.shard targets ≡ true)
        → ((t.shard == x.shard) || is_target x.shard targets) ≡ true
    by_place (inl same) later =
        ap (λ b. b || is_target x.shard targets) ((Decides-eqb t.shard x.shard).1 (ap (λ (y : Target). y.shard) (sym same)))
    by_place (inr there) later = ap (λ b. (t.shard == x.shard) || b) (later there) ∙ either (t.shard == x.shard)

-- LOOKING IT UP

in_counts : (p : Open) (requests : List Open) → IsIn p requests → IsIn p.count (counts_of requests)
in_counts p [] i = absurd (in_none p i)
in_counts p (q ∷ requests) i = by_place (in_cons p q requests i) (λ j. in_counts p requests j)
  where
    by_place : (p ≡ q) ⊎ IsIn p requests → (IsIn p requests → IsIn p.count (counts_of requests)) → IsIn p.count (q.count ∷ counts_of requests)
    by_place (inl same) later = subst (λ n. IsIn p.count (n ∷ counts_of requests)) (ap (λ (x : Open). x.count) same) (in_first p.count (counts_of requests))
    by_place (inr there) later = in_later p.count q.count (counts_of requests) (later there)

pub open_there : (requests : List Open) (p : Open) → AreDifferentCounts (counts_of requests) → IsIn p requests → open_with p.count requests ≡ Some p
open_there [] p different i = absurd (in_none p i)
open_there (q ∷ requests) p different i = by_place (in_cons p q requests i) (λ j. open_there requests p different.1 j)
  where
    by_count : (b : Bool) → (q.count == p.count) ≡ b → IsIn p requests → open_with p.count requests ≡ Some p
        → (if b then Some q else open_with p.count requests) ≡ Some p
    by_count true h there later =
        let same : q.count ≡ p.count = eqb-true _ _ h in
        absurd (all_at (λ m. m ≢ q.count) p.count (counts_of requests) different.0 (in_counts p requests there) (sym same))
    by_count false h there later = later

    by_place : (p ≡ q) ⊎ IsIn p requests → (IsIn p requests → open_with p.count requests ≡ Some p)
        → (if q.count == p.count then Some q else open_with p.count requests) ≡ Some p
    by_place (inl same) later =
        ap (λ b. if b then Some q else open_with p.count requests) ((Decides-eqb q.count p.count).1 (ap (λ (x : Open). x.count) (sym same)))
        ∙ ap (λ x. Some x) (sym same)
    by_place (inr there) later = by_count (q.count == p.count) refl there (later there)

pub found_there : (r : Router) (q : Open) (id : RequestId) → AreDifferentCounts (counts_of r.requests) → IsIn q r.requests → id ≡ id_of r q.count
    → open_of r id ≡ Some q
found_there r q id different there own =
    ap (λ i. open_of r i) own
    ∙ (ap (λ b. if b then open_with q.count r.requests else None) (own_session (id_of r q.count)) ∙ open_there r.requests q different there)

-- NO SUCH MESSAGE IS LATE

pub not_late : (r : Router) (q : Open) (t : Thing) (from to : ℕ) (b : Body) → AreDifferentCounts (counts_of r.requests) → IsIn q r.requests
    → IsGoing q.work → WaitFits q.work q.wait → q.tries ≡ [] → IsIn t (things_of r q) → IsLate r from b → Brings t from to b → ⊥
not_late r q t from to b different there going fits untried one late is = by_body b late is
  where
    awaits_it : (x : Thing) → t ≡ x → Awaits r q x
    awaits_it x same = subst (λ y. Awaits r q y) same (awaits r q t one)

    found : (x : Thing) (id : RequestId) → t ≡ x → named_in x ≡ Some id → open_of r id ≡ Some q
    found x id same named =
        found_there r q id different there
        (names_own (id_of r q.count) r.me (untold q.told (shards_of r)) (awaited q.targets q.parts) q.namespace q.work q.wait x id (awaits_it x same) named)

    by_body : (b : Body) → IsLate r from b → Brings t from to b → ⊥
    by_body (table_ask namespace create at) late is = late
    by_body (table_told namespace create at table) late is = late
    by_body (split_ask id namespace middle) late is = late
    by_body (split_done id done) late is =
        split_is_new (id_of r q.count) r.me (untold q.told (shards_of r)) (awaited q.targets q.parts) q.namespace id q.work q.wait fits
        (awaits_it (a_split id) is.0)
        (subst (λ o. IsNoSplit o) (found (a_split id) id is.0 refl) late)
    by_body (write_ask id turn ordered namespace statements sent) late is = late
    by_body (write_done id []) late is = is
    by_body (write_done id (d ∷ dones)) late is =
        outcomes_are_new (id_of r q.count) r.me (untold q.told (shards_of r)) (awaited q.targets q.parts) q.namespace id d dones q.work q.wait going fits
        (awaits_it (a_run id d.index) is.0)
        (subst (λ o. AreNoNews o (d ∷ dones)) (found (a_run id d.index) id is.0 refl) late)
    by_body (read_ask id turn namespace at half sent) late is = late
    by_body (half_ask id turn namespace at half documents) late is = late
    by_body (read_rows id turn rows) late is =
        rows_are_new (id_of r q.count) r.me (untold q.told (shards_of r)) (awaited q.targets q.parts) q.namespace id from turn q.targets q.work q.wait
        (λ x one. target_there x q.targets (in_filtered (λ (y : Target). not (is_some (part_of y.shard q.parts))) x q.targets one).0)
        (awaits_it (a_part id from turn) is.0)
        (subst (λ l. elim q.work as (λ (w : Work). Type 0) [
          | writing kind ordered statements c ↦ Unit {0}
          | reading named at stages telling ↦ (turn ≢ turn_after l) ⊎ (is_target from q.targets ≡ false)
          | sharding ↦ Unit {0}
          | splitting middle ↦ Unit {0}
        ]) untried (subst (λ o. IsNoRead o from turn) (found (a_part id from turn) id is.0 refl) late))
    by_body (refused what cause) late is = is
    by_body (time_ask id) late is = late
    by_body (time_told id) late is =
        time_is_new (id_of r q.count) r.me (untold q.told (shards_of r)) (awaited q.targets q.parts) q.namespace id from q.work q.wait fits
        (awaits_it (a_time id from) is.0)
        (subst (λ o. IsNotAwaited o) (found (a_time id from) id is.0 refl) late)
