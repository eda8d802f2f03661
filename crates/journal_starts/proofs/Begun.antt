-- Each node of the world that a call begins in is what its journal opens, and the files are the journals.
use Rattle.std.proofs.Common.{◌≡◌, ℕ, ◌+◌, List, [], ◌∷◌, refl, sym, ap, subst}
use Rattle.std.specs.Prelude.{Option, Some}
use Rattle.std.specs.List.{AllByRecursion}
use Rattle.std.specs.Option.{option_map}
use Rattle.node_model.specs.Journal.{Kept}
use Rattle.node_model.specs.States.{NodeState}
use Rattle.node_model.specs.World.{Held, World, start}
use Rattle.node_laws.proofs.Places.{EachAt}
use Rattle.node_replay.specs.Openings.{opened}
use Rattle.node_replay.specs.Replays.{latest_time, records_of, replayed}
use Rattle.node_replay.proofs.Starts.{all_starts, places_each}
use Rattle.journal_starts.specs.Journals.{IsJournal, AreJournals}
use Rattle.journal_starts.specs.Records.{part_at}
use Rattle.journal_starts.specs.Starts.{BeginsOnFiles, begins_new, begins_again}
use Rattle.journal_starts.proofs.OfPlaces.{IsOfPlace, shard_part, router_part, reached_of_places}
use Rattle.journal_starts.proofs.Restarted.{IsStarted, AreStarted, begins_started}

-- the state to which the journal of the node with a number opens, if its records replay
abbrev pub opened_at : (others n : ℕ) → List Kept → Option NodeState
opened_at others n kept = option_map (opened (latest_time (records_of kept))) (replayed (Some (part_at others n)) (records_of kept))

abbrev pub IsBegun : (others n : ℕ) → Held → Type 0
IsBegun others n h = opened_at others n h.kept ≡ Some h.state

-- NO CALL BEFORE

start_begun : (others routers : ℕ) → EachAt (IsBegun others) 0 (start others routers).nodes
start_begun others routers =
    places_each (IsBegun others) others routers refl (λ j le less. ap (λ d. Some (opened 0 d)) (shard_part others j le less))
    (λ j le. ap (λ d. Some (opened 0 d)) (router_part others j le))

-- CALLS BEFORE

node_begun : (others n : ℕ) (old new : Held) → IsStarted old new → IsOfPlace others n old → IsBegun others n new
node_begun others n old new s place =
    subst (λ k. opened_at others n k ≡ Some new.state) (sym s.kept)
    (subst (λ d. option_map (opened (latest_time (records_of old.kept))) (replayed (Some d) (records_of old.kept)) ≡ Some new.state) place s.opens)

nodes_begun : (others n : ℕ) (olds news : List Held) → AreStarted olds news → EachAt (IsOfPlace others) n olds → EachAt (IsBegun others) n news
nodes_begun others n [] [] started places = tt
nodes_begun others n [] (new ∷ news) started places = absurd started
nodes_begun others n (old ∷ olds) [] started places = absurd started
nodes_begun others n (old ∷ olds) (new ∷ news) started places =
    (node_begun others n old new started.0 places.0, nodes_begun others (n + 1) olds news started.1 places.1)

still_stored : (files : List (List ℕ)) (olds news : List Held) → AreStarted olds news → AreJournals files olds → AreJournals files news
still_stored [] [] [] started stored = tt
still_stored [] [] (new ∷ news) started stored = absurd started
still_stored [] (old ∷ olds) news started stored = absurd stored
still_stored (file ∷ files) [] news started stored = absurd stored
still_stored (file ∷ files) (old ∷ olds) [] started stored = absurd started
still_stored (file ∷ files) (old ∷ olds) (new ∷ news) started stored =
    (subst (λ k. IsJournal file k) (sym started.0.kept) stored.0, still_stored files olds news started.1 stored.1)

-- BOTH

pub begins_stored : (others routers : ℕ) (files : List (List ℕ)) (first : World) → BeginsOnFiles others routers files first → AreJournals files first.nodes
begins_stored others routers files _ (begins_new stored) = stored
begins_stored others routers files _ (begins_again u first reached stored b) = still_stored files u.nodes first.nodes (begins_started u first b) stored

pub begins_begun : (others routers : ℕ) (files : List (List ℕ)) (first : World) → BeginsOnFiles others routers files first
    → EachAt (IsBegun others) 0 first.nodes
begins_begun others routers files _ (begins_new stored) = start_begun others routers
begins_begun others routers files _ (begins_again u first reached stored b) =
    nodes_begun others 0 u.nodes first.nodes (begins_started u first b) (reached_of_places others routers u reached)

-- no node has taken a step of the call
pub begins_uncounted : (others routers : ℕ) (files : List (List ℕ)) (first : World) → BeginsOnFiles others routers files first
    → AllByRecursion (λ (h : Held). h.steps ≡ 0) first.nodes
begins_uncounted others routers files _ (begins_new stored) = all_starts (λ (h : Held). h.steps ≡ 0) others routers refl (λ j. refl) (λ j. refl)
begins_uncounted others routers files _ (begins_again u first reached stored b) =
    subst (λ (x : World). AllByRecursion (λ (h : Held). h.steps ≡ 0) x.nodes) (sym b.then) b.counts
