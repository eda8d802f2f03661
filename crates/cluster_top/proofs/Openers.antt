-- The nodes of the cluster are opened again as they were opened.
use Rattle.std.proofs.Common.{◌≡◌, ℕ, ◌+◌, List, [], ◌∷◌, sym, ap, subst, ◌∙◌, arith}
use Rattle.std.specs.Prelude.{Some}
use Rattle.std.specs.List.{AllByRecursion}
use Rattle.std.specs.Option.{option_map}
use Rattle.shard_records.specs.Readable.{IsReadable}
use Rattle.record_model.specs.Records.{Record}
use Rattle.node_model.specs.Journal.{Kept}
use Rattle.node_model.specs.States.{NodeState}
use Rattle.node_model.specs.World.{World, start}
use Rattle.node_replay.specs.Durable.{DurableState, empty_of}
use Rattle.node_replay.specs.Openings.{opened}
use Rattle.node_replay.specs.Replays.{latest_time, records_of, replayed}
use Rattle.node_replay.specs.Restarts.{stays}
use Rattle.node_laws.proofs.Places.{each_get}
use Rattle.restart_laws.specs.Calls.{Reached, next_call, this_call}
use Rattle.node_traits.specs.Effects.{AreReadable}
use Rattle.driver_steps.specs.Restarts.{HaveParts, IsOpenedAs}
use Rattle.journal_starts.specs.Records.{IsOpened, part_at}
use Rattle.journal_starts.specs.Starts.{BeginsOnFiles, begins_again, begins_new}
use Rattle.journal_starts.proofs.OfPlaces.{IsOfPlace, reached_of_places}
use Rattle.journal_starts.proofs.Readings.{same_records, spelled_kept}

readable_records : (kept : List Kept) → AreReadable kept → AllByRecursion IsReadable (records_of kept)
readable_records [] all = tt
readable_records (k ∷ kept) all = (all.0, readable_records kept all.1)

-- a node that is opened on what its journal keeps
pub opened_as : (empty : DurableState) (bytes : List (List ℕ)) (state : NodeState) → IsOpened empty bytes state → IsOpenedAs empty bytes state
opened_as empty bytes state o s kept own readable is =
    let same : o.replayed.records ≡ records_of kept =
    same_records o.replayed.records (records_of kept) o.replayed.readable (readable_records kept readable)
    (o.replayed.encoded ∙ is ∙ sym (spelled_kept kept)) in
    let replays : replayed (Some (empty_of s)) (records_of kept) ≡ Some o.d =
    ap (λ (e : DurableState). replayed (Some e) (records_of kept)) own
    ∙ ap (λ (l : List Record). replayed (Some empty) l) (sym same) ∙ o.replayed.leads in
    let time : latest_time (records_of kept) ≡ o.time = ap latest_time (sym same) ∙ sym o.replayed.latest in
    ap (λ x. option_map (opened (latest_time (records_of kept))) x) replays
    ∙ ap (λ (n : ℕ). Some (opened n o.d)) time ∙ ap (λ (x : NodeState). Some x) (sym o.is)

first_reached : (others routers : ℕ) (files : List (List ℕ)) (first : World) → BeginsOnFiles others routers files first → Reached others routers first
first_reached others routers files _ (begins_new are) = this_call (start others routers) [] (stays (start others routers))
first_reached others routers files _ (begins_again u first reached are b) = next_call u first first [] reached b (stays first)

-- the nodes that a call begins with are those of their places
pub first_parts : (others routers : ℕ) (files : List (List ℕ)) (first : World) → BeginsOnFiles others routers files first
    → HaveParts (part_at others) first.nodes
first_parts others routers files first begins at h got =
    let from_zero : 0 + at ≡ at = omega arith in
    subst (λ (n : ℕ). empty_of h.state ≡ part_at others n) from_zero
    (each_get (IsOfPlace others) 0 at first.nodes h (reached_of_places others routers first (first_reached others routers files first begins)) got)
