-- Openings on the files of a world that a call may begin in.
use Rattle.std.specs.Prelude.{◌≡◌, ℕ, ◌+◌, List, [], ◌∷◌, map, Option, Some, None}
use Rattle.std.proofs.Common.{refl, sym, subst}
use Rattle.std.specs.Option.{option_map}
use Rattle.std.proofs.lemmas.Option.{same_Some}
use Rattle.node_model.specs.Journal.{Kept, record_kept}
use Rattle.node_model.specs.States.{NodeState}
use Rattle.node_model.specs.World.{Held, World}
use Rattle.node_laws.proofs.Lists.{all_mapped}
use Rattle.node_laws.proofs.Places.{EachAt}
use Rattle.node_replay.specs.Durable.{DurableState}
use Rattle.node_replay.specs.Openings.{opened}
use Rattle.node_replay.specs.Replays.{latest_time, records_of, replayed}
use Rattle.node_traits.specs.Effects.{AreReadable, spellings}
use Rattle.shard_records.specs.Readable.{IsReadable}
use Rattle.journal_starts.specs.Journals.{AreJournals}
use Rattle.journal_starts.specs.Records.{AreOpened, AreRefused, HaveRecords, IsOpened, part_at}
use Rattle.journal_starts.specs.Starts.{BeginsOnFiles}
use Rattle.journal_starts.proofs.Begun.{IsBegun, begins_begun, begins_stored}
use Rattle.journal_starts.proofs.Readings as readings

abbrev encodings : List Held → List (List (List ℕ))
encodings nodes = map (λ h. spellings h.kept) nodes

abbrev states_of : List Held → List NodeState
states_of nodes = map (λ h. h.state) nodes

-- the state after the opening is that of records that replay
node_opened : (others n : ℕ) (kept : List Kept) (state : NodeState) (o : Option DurableState) → AreReadable kept
    → replayed (Some (part_at others n)) (records_of kept) ≡ o
    → option_map (opened (latest_time (records_of kept))) o ≡ Some state → IsOpened (part_at others n) (spellings kept) state
node_opened others n kept state None readable leads is = absurd (cc)
node_opened others n kept state (Some d) readable leads is = record {
  d = d;
  time = latest_time (records_of kept);
  replayed = record {
    records = records_of kept;
    readable = all_mapped IsReadable record_kept kept readable;
    encoded = readings.spelled_kept kept;
    leads = leads;
    latest = refl;
  };
  is = sym (same_Some _ _ is);
}

nodes_opened : (others n : ℕ) (files : List (List ℕ)) (nodes : List Held) → AreJournals files nodes → EachAt (IsBegun others) n nodes
    → AreOpened others n (encodings nodes) (states_of nodes)
nodes_opened others n [] [] stored begun = tt
nodes_opened others n [] (h ∷ nodes) stored begun = absurd stored
nodes_opened others n (file ∷ files) [] stored begun = tt
nodes_opened others n (file ∷ files) (h ∷ nodes) stored begun = (
  node_opened others n h.kept h.state (replayed (Some (part_at others n)) (records_of h.kept)) stored.0.readable refl begun.0,
  nodes_opened others (n + 1) files nodes stored.1 begun.1,
)

have_encodings : (files : List (List ℕ)) (nodes : List Held) → AreJournals files nodes → HaveRecords files (encodings nodes)
have_encodings [] [] stored = tt
have_encodings [] (h ∷ nodes) stored = absurd stored
have_encodings (file ∷ files) [] stored = absurd stored
have_encodings (file ∷ files) (h ∷ nodes) stored = (stored.0.stands, have_encodings files nodes stored.1)

-- LAWS

pub starts_are_stored : (others routers : ℕ) (files : List (List ℕ)) (first : World) → BeginsOnFiles others routers files first → AreJournals files first.nodes
starts_are_stored = begins_stored

pub starts_are_opened : (others routers : ℕ) (files : List (List ℕ)) (first : World) (found : List (List (List ℕ))) (states : List NodeState)
    → BeginsOnFiles others routers files first → HaveRecords files found → AreOpened others 0 found states → states ≡ map (λ h. h.state) first.nodes
starts_are_opened others routers files first found states b have opens =
    let stored : AreJournals files first.nodes = begins_stored others routers files first b in
    let same : found ≡ encodings first.nodes = readings.one_found files found (encodings first.nodes) have (have_encodings files first.nodes stored) in
    readings.one_opened others 0 (encodings first.nodes) states (states_of first.nodes)
    (subst (λ (l : List (List (List ℕ))). AreOpened others 0 l states) same opens)
    (nodes_opened others 0 files first.nodes stored (begins_begun others routers files first b))

pub starts_are_not_refused : (others routers : ℕ) (files : List (List ℕ)) (first : World) → BeginsOnFiles others routers files first → ¬ AreRefused others files
starts_are_not_refused others routers files first b =
    let stored : AreJournals files first.nodes = begins_stored others routers files first b in
    readings.opened_are_not_refused others files (encodings first.nodes) (states_of first.nodes) (have_encodings files first.nodes stored)
    (nodes_opened others 0 files first.nodes stored (begins_begun others routers files first b))

pub opened_are_not_refused : (others : ℕ) (files : List (List ℕ)) (found : List (List (List ℕ))) (states : List NodeState) → HaveRecords files found
    → AreOpened others 0 found states → ¬ AreRefused others files
opened_are_not_refused = readings.opened_are_not_refused
