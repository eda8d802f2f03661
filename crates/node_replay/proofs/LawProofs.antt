-- The laws, as the functions of `src/laws.rt` state them.
use Rattle.std.proofs.Common.{◌≡◌, ℕ, List}
use Rattle.std.specs.Prelude.{max, Some}
use Rattle.std.specs.List.{AllByRecursion}
use Rattle.history_model.proofs.Lists.{all_weaken}
use Rattle.record_model.specs.Records.{Record}
use Rattle.reply_model.specs.OneHistory.{AreDifferent, ids_told}
use Rattle.node_model.specs.Journal.{greatest_kept}
use Rattle.node_model.specs.Letters.{Effect, Input}
use Rattle.node_model.specs.States.{NodeState}
use Rattle.node_model.specs.Steps.{Step}
use Rattle.node_model.specs.World.{Event, Run, World, start}
use Rattle.node_replay.specs.Acknowledged.{KeepsJournals}
use Rattle.node_replay.specs.Durable.{DurableCatalogue, DurableShard, durable_catalogue, durable_of, durable_shard, empty_catalogue, empty_shard}
use Rattle.node_replay.specs.Histories.{AreChanges, HasKey, IsHistory}
use Rattle.node_replay.specs.Holds.{Holds, HoldsOwn, MayOpen, Replays}
use Rattle.node_replay.specs.ReadTimes.{IsInTime, ComesInTime}
use Rattle.node_replay.specs.Replays.{records_of, replayed}
use Rattle.node_replay.specs.Restarts.{Gives, EventOrStop, RunWithStops}
use Rattle.node_replay.proofs.Steps.{step_follows}
use Rattle.node_replay.proofs.Runs.{NodeReplays, run_replays, start_replays}
use Rattle.node_replay.proofs.Restarts.{run_with_stops_replays, run_with_stops_holds, run_with_stops_in_time}
use Rattle.node_replay.proofs.JournalsStay.{run_with_stops_grows}
use Rattle.node_replay.proofs.OnceRuns.{run_with_stops_once}
use Rattle.node_replay.proofs.ShardHistories.{shard_history}
use Rattle.node_replay.proofs.CatalogueHistories.{catalogue_changes}

pub steps_store_what_may_follow : (stored : ℕ) (s t : NodeState) (i : Input) (f : Effect) → Holds stored s → Step s i f t
    → (replayed (Some (durable_of stored s)) (records_of f.written) ≡ Some (durable_of (max stored (greatest_kept f.written)) t))
    × (ComesInTime i → Holds (max stored (greatest_kept f.written)) t)
steps_store_what_may_follow stored s t i f holds step = let h = step_follows stored s t i f holds step in (h.leads, h.holds)

pub runs_with_stops_hold : (others routers : ℕ) (events : List EventOrStop) (w : World) → RunWithStops (start others routers) events w
    → AllByRecursion HoldsOwn w.nodes × ((e : Event) (at : ℕ) (i : Input) → Gives w e at i → ComesInTime i)
runs_with_stops_hold = run_with_stops_holds

pub no_message_reads_ahead : (others routers : ℕ) (events : List EventOrStop) (w : World) → RunWithStops (start others routers) events w
    → AllByRecursion IsInTime w.sent
no_message_reads_ahead = run_with_stops_in_time

pub runs_replay : (others routers : ℕ) (events : List Event) (w : World) → Run (start others routers) events w → AllByRecursion Replays w.nodes
runs_replay others routers events w run =
    all_weaken NodeReplays Replays w.nodes (λ h r. r.0) (run_replays (start others routers) w events (start_replays others routers) run).nodes

pub runs_with_stops_replay : (others routers : ℕ) (events : List EventOrStop) (w : World) → RunWithStops (start others routers) events w
    → AllByRecursion Replays w.nodes × AllByRecursion MayOpen w.nodes
runs_with_stops_replay = run_with_stops_replays

pub replayed_shard_is_one_history : (me : ℕ) (records : List Record) (d : DurableShard)
    → replayed (Some (durable_shard (empty_shard me))) records ≡ Some (durable_shard d) → IsHistory records d
replayed_shard_is_one_history = shard_history

pub replayed_catalogue_has_changes : (me : ℕ) (records : List Record) (d : DurableCatalogue) → AllByRecursion HasKey records
    → replayed (Some (durable_catalogue (empty_catalogue me))) records ≡ Some (durable_catalogue d) → AreChanges records d
replayed_catalogue_has_changes = catalogue_changes

pub runs_with_stops_keep_journals : (u : World) (events : List EventOrStop) (w : World) → RunWithStops u events w → KeepsJournals u w
runs_with_stops_keep_journals u events w run = run_with_stops_grows u w events run

pub runs_with_stops_answer_once : (others routers : ℕ) (events : List EventOrStop) (w : World) → RunWithStops (start others routers) events w
    → AreDifferent (ids_told w.answered)
runs_with_stops_answer_once = run_with_stops_once
