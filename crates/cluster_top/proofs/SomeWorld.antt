-- Nodes that are opened on the records of their journals are those of some world.
use Rattle.std.specs.Prelude.{◌≡◌, ℕ, zero, suc, ◌+◌, ◌-◌, ◌<◌, ◌≤◌, Bool, true, false, List, [], ◌∷◌, length, map, Option, Some, None, is_some, is_none, nat_lt, ◌&&◌, if◌then◌else◌}
use Rattle.std.proofs.Common.{refl, sym, ap, subst, ◌∙◌, arith}
use Rattle.std.specs.List.{AllByRecursion}
use Rattle.std.specs.Option.{option_map}
use Rattle.std.proofs.lemmas.Bool.{lt-ltb}
use Rattle.chunk_model.specs.Changes.{create_change, split_change}
use Rattle.chunk_model.specs.Tables.{table_of}
use Rattle.record_model.specs.RecordFormat.{spelled}
use Rattle.record_model.specs.Records.{EntryWords, OutcomeWords, outcome_words, Record, table_record, entry_record, ceiling_record, create_record, split_record, catalogue_ceiling_record, life_record, block_record}
use Rattle.shard_records.specs.Readable.{IsReadable}
use Rattle.journal_frames.specs.Views.{JournalView}
use Rattle.node_model.specs.Journal.{Kept, kept_table, kept_entry, kept_ceiling, kept_change, kept_none, kept_life, kept_block, record_kept}
use Rattle.node_model.specs.Service.{seen_before}
use Rattle.node_model.specs.States.{NodeState, Router, router_state}
use Rattle.node_model.specs.World.{Held, IsRouter}
use Rattle.node_replay.specs.Durable.{DurableShard, DurableState, durable_catalogue, durable_shard, durable_router, empty_router}
use Rattle.node_replay.specs.Follow.{entry_from, may_enter, with_entry}
use Rattle.node_replay.specs.Openings.{opened}
use Rattle.node_replay.specs.Replays.{follow, records_of, replayed}
use Rattle.node_replay.specs.SameData.{same_words}
use Rattle.node_replay.proofs.SameWords.{words_is}
use Rattle.node_traits.specs.Effects.{AreReadable, spellings}
use Rattle.journal_starts.specs.Records.{AreOpened, IsOpened, part_at}
use Rattle.journal_starts.proofs.Readings.{spelled_kept}
use Rattle.cluster_service.specs.OpenJournals.{AreOpenWith, IsOpenWith}
use Rattle.cluster_service.specs.Openings.{DiskFacts, InThrees, IsOpenedOn}
use Rattle.cluster_service.specs.Servers.{AreOfSomeWorld}
use Rattle.cluster_service.proofs.Firsts.{router_replays}

-- WHAT A JOURNAL KEPT

-- a record that follows is that of something that a node keeps
abbrev pub IsKept : Record → Type 0
IsKept r = (k : Kept) × (record_kept k ≡ r)

second : (a b : Bool) → a && b ≡ true → b ≡ true
second true b is = is
second false b is = absurd (cc is)

entry_words : (d : DurableShard) (w : EntryWords) → may_enter d w ≡ true → outcome_words (entry_from d w).outcome ≡ w.outcome
entry_words d w may =
    let words : Bool = same_words (outcome_words (entry_from d w).outcome) w.outcome in
    let new : Bool = is_none (seen_before w.number d.entries) in
    let placed : Bool = is_some (table_of w.namespace d.tables) in
    words_is (outcome_words (entry_from d w).outcome) w.outcome
    (second new words (second placed (new && words) (second (nat_lt d.top w.time) (placed && (new && words)) may)))

entry_kept : (d : DurableShard) (w : EntryWords) → outcome_words (entry_from d w).outcome ≡ w.outcome → IsKept (entry_record w)
entry_kept d w same = (
  kept_entry (entry_from d w),
  ap (λ (o : OutcomeWords). entry_record (record { time = w.time; namespace = w.namespace; number = w.number; operation = w.operation; outcome = o })) same,
)

kept_again : (d e : DurableState) (r : Record) → follow d r ≡ Some e → IsKept r
kept_again (durable_catalogue d) e (create_record c) same = (kept_change (create_change c), refl)
kept_again (durable_catalogue d) e (split_record s) same = (kept_change (split_change s), refl)
kept_again (durable_catalogue d) e (catalogue_ceiling_record time) same = (kept_none time, refl)
kept_again (durable_catalogue d) e r same = absurd (cc)
kept_again (durable_shard d) e (table_record t) same = (kept_table t, refl)
kept_again (durable_shard d) e (entry_record w) same = by_test (may_enter d w) refl same
  where
    by_test : (b : Bool) → may_enter d w ≡ b → option_map durable_shard (if b then Some (with_entry d (entry_from d w)) else None) ≡ Some e
        → IsKept (entry_record w)
    by_test false may none = absurd (cc)
    by_test true may some = entry_kept d w (entry_words d w may)
kept_again (durable_shard d) e (ceiling_record time) same = (kept_ceiling time, refl)
kept_again (durable_shard d) e r same = absurd (cc)
kept_again (durable_router d) e (life_record n) same = (kept_life n, refl)
kept_again (durable_router d) e (block_record n) same = (kept_block n, refl)
kept_again (durable_router d) e r same = absurd (cc)

kept_all : (d e : DurableState) (records : List Record) → replayed (Some d) records ≡ Some e → (kept : List Kept) × (records_of kept ≡ records)
kept_all d e [] leads = ([], refl)
kept_all d e (r ∷ records) leads = by_next (λ x more. kept_all x e records more) (follow d r) refl leads
  where
    by_next : ((x : DurableState) → replayed (Some x) records ≡ Some e → (kept : List Kept) × (records_of kept ≡ records)) → (o : Option DurableState)
        → follow d r ≡ o → replayed o records ≡ Some e → (kept : List Kept) × (records_of kept ≡ r ∷ records)
    by_next all None is more = absurd (cc)
    by_next all (Some x) is more =
        let k = kept_again d x r is in
        let others = all x more in
        (k.0 ∷ others.0, λ i. k.1 i ∷ others.1 i)

unmapped : (kept : List Kept) → AllByRecursion IsReadable (records_of kept) → AreReadable kept
unmapped [] are = tt
unmapped (k ∷ kept) are = (are.0, unmapped kept are.1)

-- ONE NODE

-- The node of a number, in its state, which stores these records; there are so many shards after the first.
record IsHeldAs (others n : ℕ) (records : List (List ℕ)) (state : NodeState) : Type 0 where
  held : Held
  none : held.steps ≡ 0
  same : state ≡ held.state
  stores : spellings held.kept ≡ records
  readable : AreReadable held.kept
  router : others + 2 ≤ n → (r : Router) × (held.state ≡ router_state r)

router_of : NodeState → Router → Router
router_of (router_state r) other = r
router_of s other = other

opened_router : (others n time : ℕ) (d : DurableState) (records : List Record) → replayed (Some (part_at others n)) records ≡ Some d → others + 2 ≤ n
    → (r : Router) × (opened time d ≡ router_state r)
opened_router others zero time d records leads far = absurd (omega (arith, far))
opened_router others (suc n) time d records leads far =
    let is : part_at others (suc n) ≡ durable_router (empty_router (suc n) (others + 1)) = rw (lt-ltb others n (omega (arith, far))) refl in
    let x = router_replays records (empty_router (suc n) (others + 1)) d (subst (λ (p : DurableState). replayed (Some p) records ≡ Some d) is leads) in
    subst (λ (e : DurableState). (r : Router) × (opened time e ≡ router_state r)) (sym x.1) (_, refl)

one_held : (others n : ℕ) (records : List (List ℕ)) (state : NodeState) → IsOpened (part_at others n) records state → IsHeldAs others n records state
one_held others n records state o =
    let kept = kept_all (part_at others n) o.d o.replayed.records o.replayed.leads in
    record {
      held = record { state = opened o.time o.d; kept = kept.0; steps = 0 };
      none = refl;
      same = o.is;
      stores = sym (spelled_kept kept.0) ∙ ap (λ (rs : List Record). map (spelled 1) rs) kept.1 ∙ o.replayed.encoded;
      readable = unmapped kept.0 (subst (λ (rs : List Record). AllByRecursion IsReadable rs) (sym kept.1) o.replayed.readable);
      router = λ far. opened_router others n o.time o.d o.replayed.records o.replayed.leads far;
    }

-- ALL NODES

-- those from a number on
record AreHeldAs {D : Type 0} (tells : Bool) (content : D → List ℕ) (others n : ℕ) (journals : List (JournalView D)) (states : List NodeState) : Type 0 where
  nodes : List Held
  same : states ≡ map (λ h. h.state) nodes
  are : AreOpenWith tells content journals nodes
  counts : AllByRecursion (λ (h : Held). h.steps ≡ 0) nodes
  routers : (at : ℕ) → others + 2 ≤ n + at → at < length nodes → IsRouter nodes at

module _ {D : Type 0} (facts : DiskFacts D) where
  all_held : (others n : ℕ) (disks : List D) (journals : List (JournalView D)) (found : List (List (List ℕ))) (states : List NodeState)
      → InThrees (IsOpenedOn facts) disks journals found → AreOpened others n found states → AreHeldAs facts.tells facts.content others n journals states
  all_held others n [] [] [] [] on opens = record { nodes = []; same = refl; are = tt; counts = tt; routers = λ at far below. absurd (omega (arith, below)) }
  all_held others n [] [] [] (s ∷ states) on opens = absurd opens
  all_held others n [] [] (records ∷ found) states on opens = absurd on
  all_held others n [] (j ∷ journals) found states on opens = absurd on
  all_held others n (d ∷ disks) [] found states on opens = absurd on
  all_held others n (d ∷ disks) (j ∷ journals) [] states on opens = absurd on
  all_held others n (d ∷ disks) (j ∷ journals) (records ∷ found) [] on opens = absurd opens
  all_held others n (d ∷ disks) (j ∷ journals) (records ∷ found) (s ∷ states) on opens =
      let one = one_held others n records s opens.0 in
      let later = all_held others (n + 1) disks journals found states on.1 opens.1 in
      record {
        nodes = one.held ∷ later.nodes;
        same = λ i. one.same i ∷ later.same i;
        are = (
          (subst (λ (rs : List (List ℕ)). IsOpenWith facts.tells facts.content j rs) (sym one.stores) on.0.has, one.readable),
          later.are,
        );
        counts = (one.none, later.counts);
        routers = each one later;
      }
    where
      each : (one : IsHeldAs others n records s) (later : AreHeldAs facts.tells facts.content others (n + 1) journals states)
          → (at : ℕ) → others + 2 ≤ n + at → at < length (one.held ∷ later.nodes) → IsRouter (one.held ∷ later.nodes) at
      each one later zero far below =
          let r = one.router (omega (arith, far)) in
          (r.0, one.held.kept, one.held.steps, ap (λ (s : NodeState). Some (record { state = s; kept = one.held.kept; steps = one.held.steps })) r.1)
      each one later (suc at) far below = later.routers at (omega (arith, far)) (omega (arith, below))

  pub some_world : (shards : ℕ) → 0 < shards → (disks : List D) (journals : List (JournalView D)) (found : List (List (List ℕ))) (states : List NodeState)
      → InThrees (IsOpenedOn facts) disks journals found → AreOpened (shards - 1) 0 found states
      → AreOfSomeWorld (1 + shards) facts.tells facts.content states journals
  some_world shards some disks journals found states on opens =
      let all = all_held (shards - 1) 0 disks journals found states on opens in
      record { nodes = all.nodes; same = all.same; are = all.are; counts = all.counts; routers = λ at far below. all.routers at (omega (arith, far, some)) below }
