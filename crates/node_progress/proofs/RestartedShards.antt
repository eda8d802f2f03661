-- Nodes that are started again stay of their kinds, and routers know of the same shards.
use Rattle.std.proofs.Common.{◌≡◌, inl, inr, ℕ, ◌+◌, List, [], ◌∷◌, ◌++◌, refl, sym, ap, subst, ◌∙◌, Bool}
use Rattle.std.specs.Prelude.{Option, Some, None, true, false, ◌==◌, ◌&&◌, nat_lt, if◌then◌else◌}
use Rattle.std.specs.Option.{option_map}
use Rattle.record_model.specs.Records.{Record, table_record, entry_record, ceiling_record, floor_record, move_start_record, section_record, move_end_record, released_record, receive_start_record, batch_record, receive_done_record, receive_end_record, deletion_record, create_record, split_record, commit_record, resolve_record, purge_record, catalogue_ceiling_record, life_record, block_record}
use Rattle.node_model.specs.Journal.{Kept}
use Rattle.node_model.specs.Letters.{Input}
use Rattle.node_model.specs.States.{NodeState, catalogue_state, shard_state, router_state}
use Rattle.node_model.specs.World.{World, Moves, steps_after, Misses, Meets, Event, Happens, comes, delivers, passes, begins as was_opened}
use Rattle.node_replay.specs.Durable.{DurableCatalogue, DurableShard, DurableRouter, DurableState, durable_catalogue, durable_shard, durable_router, empty_of}
use Rattle.node_replay.specs.Follow.{catalogue_follow, shard_follow, router_follow}
use Rattle.node_replay.specs.Openings.{opened, opened_on}
use Rattle.node_replay.specs.Replays.{follow, replayed, records_of, latest_time}
use Rattle.node_replay.specs.Restarts.{EventOrStop, Occurs, occurs, restarts, stops, RunWithStops, stays, proceeds}
use Rattle.node_progress.proofs.Shards.{AreShards, IsSameNode, same_node, step_same, shards_stay}

-- RECORDS

-- it is what a node of this kind stores of itself; a router's, of as many shards
abbrev IsPartOf : NodeState → DurableState → Type 0
IsPartOf (catalogue_state c) (durable_catalogue d) = Unit {0}
IsPartOf (shard_state s) (durable_shard d) = Unit {0}
IsPartOf (router_state r) (durable_router d) = d.shards ≡ r.shards
IsPartOf s d = ⊥

other_catalogue : (s : NodeState) (d e : DurableCatalogue) → IsPartOf s (durable_catalogue d) → IsPartOf s (durable_catalogue e)
other_catalogue (catalogue_state c) d e part = tt
other_catalogue (shard_state s) d e part = absurd part
other_catalogue (router_state r) d e part = absurd part

other_shard : (s : NodeState) (d e : DurableShard) → IsPartOf s (durable_shard d) → IsPartOf s (durable_shard e)
other_shard (catalogue_state c) d e part = absurd part
other_shard (shard_state s) d e part = tt
other_shard (router_state r) d e part = absurd part

other_router : (s : NodeState) (d e : DurableRouter) → e.shards ≡ d.shards → IsPartOf s (durable_router d) → IsPartOf s (durable_router e)
other_router (catalogue_state c) d e same part = absurd part
other_router (shard_state s) d e same part = absurd part
other_router (router_state r) d e same part = same ∙ part

-- a record of a router does not change the number of shards
if_some : (b : Bool) (d e next : DurableRouter) → e.shards ≡ d.shards → (if b then Some e else None) ≡ Some next → next.shards ≡ d.shards
if_some true d e next same is =
    let one : e ≡ next = cc is in
    ap (λ (x : DurableRouter). x.shards) (sym one) ∙ same
if_some false d e next same is = absurd (cc is)

router_follow_same : (d next : DurableRouter) (x : Record) → router_follow d x ≡ Some next → next.shards ≡ d.shards
router_follow_same d next (life_record n) is = if_some (n == d.life) d _ next refl is
router_follow_same d next (block_record n) is = if_some (nat_lt 1 d.life && n == d.blocks) d _ next refl is
router_follow_same d next (table_record x) is = absurd (cc is)
router_follow_same d next (entry_record x) is = absurd (cc is)
router_follow_same d next (ceiling_record x) is = absurd (cc is)
router_follow_same d next (floor_record x) is = absurd (cc is)
router_follow_same d next (move_start_record x) is = absurd (cc is)
router_follow_same d next (section_record x) is = absurd (cc is)
router_follow_same d next (move_end_record x) is = absurd (cc is)
router_follow_same d next (released_record x) is = absurd (cc is)
router_follow_same d next (receive_start_record x) is = absurd (cc is)
router_follow_same d next (batch_record x) is = absurd (cc is)
router_follow_same d next (receive_done_record x) is = absurd (cc is)
router_follow_same d next (receive_end_record x) is = absurd (cc is)
router_follow_same d next (deletion_record x) is = absurd (cc is)
router_follow_same d next (create_record x) is = absurd (cc is)
router_follow_same d next (split_record x) is = absurd (cc is)
router_follow_same d next (commit_record x) is = absurd (cc is)
router_follow_same d next (resolve_record x) is = absurd (cc is)
router_follow_same d next (purge_record x) is = absurd (cc is)
router_follow_same d next (catalogue_ceiling_record x) is = absurd (cc is)

-- records change neither what kind a node is of, nor how many shards a router knows of
follow_same : (s : NodeState) (d e : DurableState) (x : Record) → IsPartOf s d → follow d x ≡ Some e → IsPartOf s e
follow_same s (durable_catalogue d) e x part is = by_next (catalogue_follow d x) is
  where
    by_next : (o : Option DurableCatalogue) → option_map durable_catalogue o ≡ Some e → IsPartOf s e
    by_next None is = absurd (cc is)
    by_next (Some next) is =
        let same : durable_catalogue next ≡ e = cc is in
        subst (λ y. IsPartOf s y) same (other_catalogue s d next part)
follow_same s (durable_shard d) e x part is = by_next (shard_follow d x) is
  where
    by_next : (o : Option DurableShard) → option_map durable_shard o ≡ Some e → IsPartOf s e
    by_next None is = absurd (cc is)
    by_next (Some next) is =
        let same : durable_shard next ≡ e = cc is in
        subst (λ y. IsPartOf s y) same (other_shard s d next part)
follow_same s (durable_router d) e x part is = by_next (router_follow d x) refl is
  where
    by_next : (o : Option DurableRouter) → router_follow d x ≡ o → option_map durable_router o ≡ Some e → IsPartOf s e
    by_next None follows is = absurd (cc is)
    by_next (Some next) follows is =
        let same : durable_router next ≡ e = cc is in
        subst (λ y. IsPartOf s y) same (other_router s d next (router_follow_same d next x follows) part)

replayed_same : (s : NodeState) (d e : DurableState) (records : List Record) → IsPartOf s d → replayed (Some d) records ≡ Some e → IsPartOf s e
replayed_same s d e [] part is = let same : d ≡ e = cc is in subst (λ y. IsPartOf s y) same part
replayed_same s d e (x ∷ records) part is = by_next (follow d x) refl is (λ next part more. replayed_same s next e records part more)
  where
    by_next : (o : Option DurableState) → follow d x ≡ o → replayed o records ≡ Some e
        → ((next : DurableState) → IsPartOf s next → replayed (Some next) records ≡ Some e → IsPartOf s e) → IsPartOf s e
    by_next None follows is later = absurd (cc is)
    by_next (Some next) follows is later = later next (follow_same s d next x part follows) is

opened_same : (s : NodeState) (time : ℕ) (d : DurableState) → IsPartOf s d → IsSameNode s (opened time d)
opened_same (catalogue_state c) time (durable_catalogue d) part = tt
opened_same (catalogue_state c) time (durable_shard d) part = absurd part
opened_same (catalogue_state c) time (durable_router d) part = absurd part
opened_same (shard_state x) time (durable_catalogue d) part = absurd part
opened_same (shard_state x) time (durable_shard d) part = tt
opened_same (shard_state x) time (durable_router d) part = absurd part
opened_same (router_state r) time (durable_catalogue d) part = absurd part
opened_same (router_state r) time (durable_shard d) part = absurd part
opened_same (router_state r) time (durable_router d) part = part

empty_part : (s : NodeState) → IsPartOf s (empty_of s)
empty_part (catalogue_state c) = tt
empty_part (shard_state s) = tt
empty_part (router_state r) = refl

opened_on_same : (s : NodeState) (kept : List Kept) (new : NodeState) → opened_on s kept ≡ Some new → IsSameNode s new
opened_on_same s kept new = by_replay (replayed (Some (empty_of s)) (records_of kept)) refl
  where
    by_replay : (o : Option DurableState) → replayed (Some (empty_of s)) (records_of kept) ≡ o → option_map (opened (latest_time (records_of kept))) o ≡ Some new
        → IsSameNode s new
    by_replay None replays is = absurd (cc is)
    by_replay (Some d) replays is =
        let same : opened (latest_time (records_of kept)) d ≡ new = cc is in
        subst (λ t. IsSameNode s t) same
        (opened_same s (latest_time (records_of kept)) d (replayed_same s (empty_of s) d (records_of kept) (empty_part s) replays))

-- EVENTS

move_shards : (w v : World) (at : ℕ) (i : Input) → Moves w at i v → AreShards w.nodes → AreShards v.nodes
move_shards w v at i m are =
    subst (λ (x : World). AreShards x.nodes) (sym m.then)
    (shards_stay w.nodes at m.old (record { state = m.new; kept = m.old.kept ++ m.f.written; steps = m.old.steps + 1 }) m.here (step_same m.old.state m.new i m.f m.step) are)

miss_shards : (w v : World) (at : ℕ) (i : Input) → Misses w at i v → AreShards w.nodes → AreShards v.nodes
miss_shards w v at i m are =
    subst (λ (x : World). AreShards x.nodes) (sym m.then)
    (shards_stay w.nodes at m.old (record { state = m.old.state; kept = m.old.kept; steps = steps_after m.lack m.old.steps }) m.here (same_node m.old.state) are)

meet_shards : (w v : World) (at : ℕ) (i : Input) → Meets w at i v → AreShards w.nodes → AreShards v.nodes
meet_shards w v at i (inl m) are = move_shards w v at i m are
meet_shards w v at i (inr m) are = miss_shards w v at i m are

happens_shards : (w v : World) (e : Event) → Happens w e v → AreShards w.nodes → AreShards v.nodes
happens_shards _ _ _ (comes w v at link number request router m) are = meet_shards w v at _ m are
happens_shards _ _ _ (delivers w v at which letter got to m) are = meet_shards w v at _ m are
happens_shards _ _ _ (passes w v at moment m) are = meet_shards w v at _ m are
happens_shards _ _ _ (was_opened w v at m) are = meet_shards w v at _ m are

pub occurs_shards : (w v : World) (e : EventOrStop) → Occurs w e v → AreShards w.nodes → AreShards v.nodes
occurs_shards _ _ _ (occurs w v e h) are = happens_shards w v e h are
occurs_shards _ _ _ (restarts w v at m) are =
    subst (λ (x : World). AreShards x.nodes) (sym m.then)
    (shards_stay w.nodes at m.old (record { state = m.new; kept = m.old.kept ++ []; steps = m.steps }) m.here (opened_on_same m.old.state m.old.kept m.new m.opens) are)
occurs_shards _ _ _ (stops w v at e i gives m) are =
    subst (λ (x : World). AreShards x.nodes) (sym m.then)
    (shards_stay w.nodes at m.old (record { state = m.new; kept = m.old.kept ++ m.f.written; steps = m.old.steps + 1 }) m.here
    (opened_on_same m.old.state (m.old.kept ++ m.f.written) m.new m.opens) are)

pub run_shards : (u w : World) (events : List EventOrStop) → RunWithStops u events w → AreShards u.nodes → AreShards w.nodes
run_shards _ _ _ (stays w) are = are
run_shards _ _ _ (proceeds u v w e events h more) are = run_shards v w events more (occurs_shards u v e h are)
