-- A table arrives at a router: what its open requests wait for then.
use Rattle.std.proofs.Common.{◌≡◌, inl, ℕ, List, [], ◌∷◌, refl, sym, ap, subst, ◌∙◌, Bool}
use Rattle.std.specs.Prelude.{Option, Some, None, is_some, true, false, not, IsSome, ◌&&◌, if◌then◌else◌}
use Rattle.std.specs.List.{AllByRecursion, flat_map}
use Rattle.std.specs.Str.{bytes_eq}
use Rattle.std.proofs.lemmas.Bool.Decides.{Decides-eqb}
use Rattle.std.proofs.lemmas.Slice.Eq.{bytes_eq-Decides}
use Rattle.history_model.specs.History.{IsIn}
use Rattle.history_model.proofs.Lists.{all_at}
use Rattle.chunk_model.specs.Tables.{Table, table_of}
use Rattle.command_model.specs.Answers.{sharded_answer}
use Rattle.command_model.specs.Writes.{WriteKind}
use Rattle.pipeline_model.specs.Stages.{Stage}
use Rattle.node_model.specs.Letters.{At, no_time, Statement, table_told, Letter, letter_input}
use Rattle.node_model.specs.States.{Course, Telling, Wait, for_time, for_catalogue, for_shards, Router, Work, writing, reading, sharding, splitting, Open}
use Rattle.node_model.specs.RouterRequests.{id_of, shards_of, untold, table_to_read}
use Rattle.node_model.specs.RouterNext.{awaited, with_work, adopted, is_for, is_for_catalogue, Next, stays, is_told, was_created, write_on, read_on, next_of, stay_in, letters_in, reply_to, empty_answer}
use Rattle.node_laws.proofs.KnownTables.{table_found, table_there}
use Rattle.node_progress.specs.UnderWay.{thing_there, things_sent, things_by, things_of, Brings, IsFor}
use Rattle.node_progress.proofs.Things.{Awaits, awaits, InSameLife}
use Rattle.node_progress.proofs.Lateness.{IsGoing, WaitFits, IsFresh, WantsTable, wants_table}
use Rattle.node_progress.proofs.Versions.{IsFirst}
use Rattle.node_progress.proofs.OneRun.{unsent_course}
use Rattle.node_progress.proofs.RouterWaits.{StillWaits, WaitsAfter, IsWaiting, unchanged_as, all_flat, in_flat}
use Rattle.node_progress.proofs.NextWaits.{NextWaits, next_after, first_waits, read_waits}

-- A TABLE ARRIVES

some_there : (namespace : List ℕ) (table : Option Table) (tables : List Table) → IsSome table
    → ((t : Table) → table ≡ Some t → t.namespace ≡ namespace) → table_of namespace (adopted table tables) ≡ None → ⊥
some_there namespace None tables some named none = cc some
some_there namespace (Some t) tables some named none =
    let there = table_there namespace t tables (named t refl) in
    let is = there.1 in
    cc (is, none)

module _ (r u : Router) (m : Letter) (time : ℕ) (namespace : List ℕ) (create : Bool) (at : At) (table : Option Table) (says : m.body ≡ table_told namespace create at table)
    (named : (t : Table) → table ≡ Some t → t.namespace ≡ namespace) (alive : InSameLife r u)
    (firsts : AllByRecursion IsFirst (adopted table r.tables)) (q : Open) (there : IsIn q r.requests) (waiting : IsWaiting q) where
  -- it stays where the message does not bring what it waits for
  kept_as : (p : Open) → p.count ≡ q.count → things_of r p ≡ things_of r q → (IsWaiting q → IsWaiting p)
      → ((at ≡ no_time → IsSome table) → namespace ≡ q.namespace → q.wait ≡ for_catalogue → WantsTable q.work create at → ⊥)
      → StillWaits r u (letter_input m) p
  kept_as p counts those known none = unchanged_as r u (letter_input m) q p alive there counts those known (λ t one n is brings.
      let same : m ≡ n = cc is in
      let own : IsFor t m = subst (λ x. IsFor t x) (sym same) brings in
      let l = subst (λ b. Brings t m.sender m.receiver b) says own in
      let w = wants_table (id_of r q.count) r.me (untold q.told (shards_of r)) (awaited q.targets q.parts) q.namespace q.work
      q.wait m.receiver namespace create at waiting.fits
      (subst (λ x. Awaits r q x) l.0 (awaits r q t one)) in
      none l.1 w.1 w.0 w.2)

  kept : ((at ≡ no_time → IsSome table) → namespace ≡ q.namespace → q.wait ≡ for_catalogue → WantsTable q.work create at → ⊥)
      → StillWaits r u (letter_input m) q
  kept none = kept_as q refl refl (λ w. w) none

  abbrev all_tables : List Table
  all_tables = adopted table r.tables

  first_there : (t : Table) → table_of q.namespace all_tables ≡ Some t → IsFirst t
  first_there t got = all_at IsFirst t all_tables firsts (table_found q.namespace all_tables t got).stands

  -- a write that has its table
  next_write : (kind : WriteKind) (ordered : Bool) (statements : List Statement) (c : Course) → q.work ≡ writing kind ordered statements c
      → q.wait ≡ for_catalogue → NextWaits r u (letter_input m) (write_on r time all_tables false [] q kind ordered statements c)
  next_write kind ordered statements c is wait =
      let known : IsGoing (writing kind ordered statements c) = subst (λ w. IsGoing w) is waiting.going in
      let fresh : IsFresh (writing kind ordered statements c) = subst (λ w. IsFresh w) is waiting.fresh in
      let none : c.runs ≡ [] = subst (λ w. WaitFits w for_catalogue) is (subst (λ w. WaitFits q.work w) wait waiting.fits) in
      subst (λ runs. NextWaits r u (letter_input m) (write_on r time all_tables false [] q kind ordered statements (record { answers = c.answers; tries = c.tries; runs = runs })))
      (sym none)
      (first_waits r u (letter_input m) time all_tables q alive waiting.untried first_there kind ordered statements c.tries fresh false c.answers (λ h. known)
      (λ a absent. kept_as (with_work q for_catalogue [] (writing kind ordered statements (unsent_course c.tries c.answers))) refl
      (sym (ap (λ w. things_by (id_of r q.count) r.me (untold q.told (shards_of r)) (awaited q.targets q.parts) q.namespace q.work w) wait
      ∙ (ap (λ w. things_by (id_of r q.count) r.me (untold q.told (shards_of r)) (awaited q.targets q.parts) q.namespace w for_catalogue) is
      ∙ ap (λ runs. thing_there (id_of r q.count) r.me q.namespace (writing kind ordered statements c) ∷ things_sent (id_of r q.count) runs) none)))
      (λ w. record { going = known; fits = refl; untried = w.untried; fresh = fresh })
      (λ some name waits wants.
      let w : WantsTable (writing kind ordered statements c) create at = subst (λ x. WantsTable x create at) is wants in
      some_there q.namespace table r.tables (some w.1) (λ x e. named x e ∙ name) absent)))

  next_read : (named_time : Bool) (at_read : ℕ) (stages : List Stage) (telling : Telling) → q.work ≡ reading named_time at_read stages telling
      → q.wait ≡ for_catalogue → NextWaits r u (letter_input m)
      (if is_for at at_read && not (is_some (table_to_read (table_of q.namespace all_tables) at_read [])) then is_told (reply_to r time q (empty_answer q at_read telling))
      else read_on r time all_tables false q named_time at_read stages telling)
  next_read named_time at_read stages telling is wait = by_told (is_for at at_read) refl (is_some (table_to_read (table_of q.namespace all_tables) at_read [])) refl
    where
      on : (table_to_read (table_of q.namespace all_tables) at_read [] ≡ None → is_for at at_read ≡ true → ⊥)
          → NextWaits r u (letter_input m) (read_on r time all_tables false q named_time at_read stages telling)
      on other =
          read_waits r u (letter_input m) time all_tables q alive waiting.untried first_there named_time at_read stages telling false
          (λ a absent. kept_as (with_work q for_catalogue [] (reading named_time at_read stages telling)) refl
          (sym (ap (λ w. things_by (id_of r q.count) r.me (untold q.told (shards_of r)) (awaited q.targets q.parts) q.namespace q.work w) wait
          ∙ ap (λ w. things_by (id_of r q.count) r.me (untold q.told (shards_of r)) (awaited q.targets q.parts) q.namespace w for_catalogue) is))
          (λ w. record { going = tt; fits = tt; untried = w.untried; fresh = tt })
          (λ some name waits wants.
          let w : WantsTable (reading named_time at_read stages telling) create at = subst (λ x. WantsTable x create at) is wants in
          let yes : is_for at at_read ≡ true = ap (λ a. is_for a at_read) w.1 ∙ (Decides-eqb at_read at_read).1 refl in
          other (ap (λ l. table_to_read (table_of q.namespace all_tables) at_read l) (sym waiting.untried) ∙ absent) yes))

      by_told : (a : Bool) → is_for at at_read ≡ a → (b : Bool) → is_some (table_to_read (table_of q.namespace all_tables) at_read []) ≡ b
          → NextWaits r u (letter_input m) (if a && not b then is_told (reply_to r time q (empty_answer q at_read telling))
          else read_on r time all_tables false q named_time at_read stages telling)
      by_told true e false h = tt
      by_told true e true h =
          on (λ absent yes. let lost : is_some (table_to_read (table_of q.namespace all_tables) at_read []) ≡ false = ap (λ o. is_some o) absent in cc (h, lost))
      by_told false e b h = on (λ absent yes. cc (e, yes))

  next_shard : q.work ≡ sharding
      → NextWaits r u (letter_input m) (if was_created create table then is_told (reply_to r time q (sharded_answer q.namespace time)) else stays q [])
  next_shard is = by_test (was_created create table) refl
    where
      made : (o : Option Table) → create ≡ true → IsSome o → was_created create o ≡ true
      made None is_made some = absurd (cc some)
      made (Some t) is_made some = is_made

      by_test : (b : Bool) → was_created create table ≡ b
          → NextWaits r u (letter_input m) (if b then is_told (reply_to r time q (sharded_answer q.namespace time)) else stays q [])
      by_test true h = tt
      by_test false h =
          inl (kept (λ some name wait wants.
          let w : WantsTable sharding create at = subst (λ x. WantsTable x create at) is wants in
          let yes = made table w.0 (some w.1) in
          cc (yes, h)))

  pub learn_waits : NextWaits r u (letter_input m) (next_of r time all_tables namespace (was_created create table) at q)
  learn_waits = by_test (is_for_catalogue q.wait && bytes_eq q.namespace namespace) refl
    where
      catalogue : (w : Wait) (b : Bool) → (is_for_catalogue w && b) ≡ true → w ≡ for_catalogue
      catalogue for_time b h = absurd (cc h)
      catalogue for_catalogue b h = refl
      catalogue for_shards b h = absurd (cc h)

      by_work : q.wait ≡ for_catalogue → (work : Work) → q.work ≡ work → NextWaits r u (letter_input m) (elim work as (λ (x : Work). Next) [
        | writing kind ordered statements c ↦ write_on r time all_tables false [] q kind ordered statements c
        | reading named_time at_read stages telling ↦
            if is_for at at_read && not (is_some (table_to_read (table_of q.namespace all_tables) at_read []))
            then is_told (reply_to r time q (empty_answer q at_read telling))
            else read_on r time all_tables false q named_time at_read stages telling
        | sharding ↦ if was_created create table then is_told (reply_to r time q (sharded_answer q.namespace time)) else stays q []
        | splitting middle ↦ stays q []
      ])
      by_work wait (writing kind ordered statements c) is = next_write kind ordered statements c is wait
      by_work wait (reading named_time at_read stages telling) is = next_read named_time at_read stages telling is wait
      by_work wait sharding is = next_shard is
      by_work wait (splitting middle) is = inl (kept (λ some name w wants. subst (λ x. WantsTable x create at) is wants))

      by_test : (b : Bool) → (is_for_catalogue q.wait && bytes_eq q.namespace namespace) ≡ b → NextWaits r u (letter_input m)
          (if not b then stays q [] else elim q.work as (λ (x : Work). Next) [
            | writing kind ordered statements c ↦ write_on r time all_tables false [] q kind ordered statements c
            | reading named_time at_read stages telling ↦
                if is_for at at_read && not (is_some (table_to_read (table_of q.namespace all_tables) at_read []))
                then is_told (reply_to r time q (empty_answer q at_read telling))
                else read_on r time all_tables false q named_time at_read stages telling
            | sharding ↦ if was_created create table then is_told (reply_to r time q (sharded_answer q.namespace time)) else stays q []
            | splitting middle ↦ stays q []
          ])
      by_test true h = by_work (catalogue q.wait (bytes_eq q.namespace namespace) h) q.work refl
      by_test false h =
          inl (kept (λ some name wait wants.
          let same : bytes_eq q.namespace namespace ≡ true = (bytes_eq-Decides q.namespace namespace).1 (sym name) in
          let yes : (is_for_catalogue q.wait && bytes_eq q.namespace namespace) ≡ true =
          ap (λ w. is_for_catalogue w && bytes_eq q.namespace namespace) wait ∙ same in
          cc (yes, h)))

-- all requests after it
pub learned_wait : (r u : Router) (m : Letter) (time : ℕ) (namespace : List ℕ) (create : Bool) (at : At) (table : Option Table)
    → m.body ≡ table_told namespace create at table → ((t : Table) → table ≡ Some t → t.namespace ≡ namespace) → InSameLife r u
    → AllByRecursion IsFirst (adopted table r.tables) → AllByRecursion IsWaiting r.requests
    → AllByRecursion (WaitsAfter r u (letter_input m)
    (flat_map (λ q. letters_in (next_of r time (adopted table r.tables) namespace (was_created create table) at q)) r.requests))
    (flat_map (λ q. stay_in (next_of r time (adopted table r.tables) namespace (was_created create table) at q)) r.requests)
learned_wait r u m time namespace create at table says named alive firsts waiting =
    all_flat (WaitsAfter r u (letter_input m) (flat_map (λ q. letters_in (next_of r time (adopted table r.tables) namespace (was_created create table) at q)) r.requests))
    (λ q. stay_in (next_of r time (adopted table r.tables) namespace (was_created create table) at q)) r.requests
    (λ q there. next_after r u (letter_input m) _ (next_of r time (adopted table r.tables) namespace (was_created create table) at q)
    (λ x i. in_flat (λ q. letters_in (next_of r time (adopted table r.tables) namespace (was_created create table) at q)) r.requests q x there i)
    (learn_waits r u m time namespace create at table says named alive firsts q there (all_at IsWaiting q r.requests waiting there)))
