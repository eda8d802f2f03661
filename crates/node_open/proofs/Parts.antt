-- What the records of a journal replay to, opened.
use Rattle.std.proofs.Common.{◌≡◌, ◌∙◌, ℕ, List, [], false, sym, ap, subst}
use Rattle.std.specs.Prelude.{◌*◌}
use Rattle.chunk_model.specs.Changes.{Change}
use Rattle.chunk_model.specs.Tables.{Table}
use Rattle.history_model.specs.History.{Entry}
use Rattle.journal_replay.specs.Replayed.{IsReplayed}
use Rattle.journal_starts.specs.Records.{IsOpened}
use Rattle.node_model.specs.States.{NodeState, catalogue_state, shard_state, router_state}
use Rattle.node_replay.specs.Durable.{DurableState, DurableCatalogue, DurableShard, DurableRouter, durable_catalogue, durable_shard, durable_router}
use Rattle.node_replay.specs.Openings.{opened}

-- the same of the part that is begun with, and of the records
replayed_of : (start empty d : DurableState) (bytes records : List (List ℕ)) (time : ℕ) → start ≡ empty → bytes ≡ records → IsReplayed start bytes d time
    → IsReplayed empty records d time
replayed_of start empty d bytes records time begins are replayed =
    subst (λ bs. IsReplayed empty bs d time) are (subst (λ s. IsReplayed s bytes d time) begins replayed)

pub catalogue_opened : (start empty part : DurableCatalogue) (bytes records : List (List ℕ)) (me time : ℕ) (changes : List Change) (state : NodeState)
    → start ≡ empty → bytes ≡ records → IsReplayed (durable_catalogue start) bytes (durable_catalogue part) part.top
    → part ≡ record { me = me; top = time; changes = changes }
    → state ≡ catalogue_state (record { me = me; time = time; changes = changes })
    → IsOpened (durable_catalogue empty) records state
catalogue_opened start empty part bytes records me time changes state begins are replayed is opens = record {
  d = durable_catalogue part;
  time = part.top;
  replayed = replayed_of (durable_catalogue start) (durable_catalogue empty) (durable_catalogue part) bytes records part.top (ap durable_catalogue begins) are
      replayed;
  is = opens ∙ sym (ap (λ (d : DurableCatalogue). opened d.top (durable_catalogue d)) is);
}

pub shard_opened : (start empty part : DurableShard) (bytes records : List (List ℕ)) (me late time ceiling : ℕ) (tables : List Table) (entries : List Entry)
    (state : NodeState)
    → start ≡ empty → bytes ≡ records → IsReplayed (durable_shard start) bytes (durable_shard part) late
    → part ≡ record { me = me; top = ceiling; tables = tables; entries = entries } → time ≡ late
    → state ≡ shard_state (record { me = me; time = time; tables = tables; entries = entries; ceiling = ceiling; parked = [] })
    → IsOpened (durable_shard empty) records state
shard_opened start empty part bytes records me late time ceiling tables entries state begins are replayed is latest opens = record {
  d = durable_shard part;
  time = late;
  replayed = replayed_of (durable_shard start) (durable_shard empty) (durable_shard part) bytes records late (ap durable_shard begins) are replayed;
  is = opens
      ∙ ap (λ (t : ℕ). shard_state (record { me = me; time = t; tables = tables; entries = entries; ceiling = ceiling; parked = [] })) latest
      ∙ sym (ap (λ (d : DurableShard). opened late (durable_shard d)) is);
}

-- a router before its first step
abbrev router_at : (me shards life blocks : ℕ) → NodeState
router_at me shards life blocks = router_state (record {
  me = me;
  shards = shards;
  time = 0;
  life = life;
  begun = false;
  moment = 0;
  count = 0;
  tables = [];
  requests = [];
  cursors = [];
  blocks = blocks;
  gave = 64 * blocks;
})

pub router_opened : (start empty part : DurableRouter) (bytes records : List (List ℕ)) (me shards life blocks time : ℕ) (state : NodeState)
    → start ≡ empty → bytes ≡ records → IsReplayed (durable_router start) bytes (durable_router part) time
    → me ≡ part.me → shards ≡ part.shards → life ≡ part.life → blocks ≡ part.blocks
    → state ≡ router_at me shards life blocks
    → IsOpened (durable_router empty) records state
router_opened start empty part bytes records me shards life blocks time state begins are replayed same_me same_shards same_life same_blocks opens =
    record {
      d = durable_router part;
      time = time;
      replayed = replayed_of (durable_router start) (durable_router empty) (durable_router part) bytes records time (ap durable_router begins) are replayed;
      is = opens ∙ (λ i. router_at (same_me i) (same_shards i) (same_life i) (same_blocks i));
    }
