-- Nodes with their journals: in the first world, and after a connection.
use Rattle.std.specs.Prelude.{◌≡◌, ◌≢◌, ℕ, ◌+◌, Bool, IsTrue, List, [], ◌∷◌, length, map}
use Rattle.std.proofs.Common.{refl, sym, ap, subst, ◌∙◌, arith}
use Rattle.std.specs.List.{AllByRecursion}
use Rattle.outside.specs.Devices.{SourceCall, SinkCall, NoneFell}
use Rattle.outside.proofs.Relations.{none_fell_self}
use Rattle.outside.specs.Disks.{Outcomes}
use Rattle.journal_frames.specs.Views.{JournalView, journal_facts}
use Rattle.node_model.specs.States.{NodeState}
use Rattle.node_model.specs.World.{Held, World}
use Rattle.driver_steps.specs.Seats.{AreCounted, AreHeld, AreKept, seat_view}
use Rattle.driver_steps.specs.declared.seat.Seat.{Seat}
use Rattle.pipe_driver.specs.Endings.{most_taken}
use Rattle.pipe_driver.proofs.Endings.{piped_with}
use Rattle.pipe_driver.specs.Counts.{HaveRisenWhere, RoseWhere}
use Rattle.pipe_driver.proofs.Counts.{rose_as}
use Rattle.sim_driver.proofs.Endings.{simulated_as}
use Rattle.pipe_driver.specs.declared.status.Status as connections
use Rattle.pipe_driver.specs.declared.status.Status.TheVariants as ended
use Rattle.cluster_service.specs.Counts.{OneRoseWhere}
use Rattle.cluster_service.specs.Drivers.{IsDriven}
use Rattle.cluster_service.specs.declared.arguments.Command.{Command}
use Rattle.cluster_service.specs.declared.arguments.Command.TheVariants.{Pipe, Sim, Serve}
use Rattle.journal_starts.specs.Journals.{AreJournals}
use Rattle.cluster_service.specs.OpenJournals.{AreAllOpen, AreOpenWith, disks_of}
use Rattle.cluster_service.specs.Seats.{seats_of}
use Rattle.cluster_service.specs.Statuses.{of_connection}
use Rattle.cluster_service.specs.declared.status.Status.{Status}
use Rattle.cluster_service.specs.declared.status.Status.TheVariants as statuses
use Rattle.cluster_service.proofs.Counts.{one_rose_as}

module _ {N D : Type 0} (state : N → NodeState) (steps : N → ℕ) (tells : Bool) (content : D → List ℕ) (moment : D → ℕ) (left_at : D → ℕ → Outcomes) (fault_count : D → ℕ)
    (place : D → List ℕ) where
  -- nodes in the states of a world, with journals that store what these do, are those of the world
  pub held_from : (nodes : List N) (journals : List (JournalView D)) (held : List Held) → map state nodes ≡ map (λ h. h.state) held
      → AreOpenWith tells content journals held → AllByRecursion (λ (h : Held). h.steps ≡ 0) held
      → AreHeld (seat_view state steps (journal_facts tells content moment left_at fault_count place)) (seats_of nodes journals) held
  held_from [] [] [] same are none = tt
  held_from [] [] (h ∷ held) same are none = absurd are
  held_from [] (journal ∷ journals) [] same are none = absurd are
  held_from [] (journal ∷ journals) (h ∷ held) same are none = absurd (cc same)
  held_from (node ∷ nodes) journals [] same are none = absurd (cc same)
  held_from (node ∷ nodes) [] (h ∷ held) same are none = absurd are
  held_from (node ∷ nodes) (journal ∷ journals) (h ∷ held) same are none = (
    record {
      same = cc same;
      counted = omega (arith, none.0);
      written = are.0.0.listed;
      keeps = record { readable = are.0.1; found = λ told. are.0.0.stands };
    },
    held_from nodes journals held (cc same) are.1 none.1,
  )

  -- before their first steps
  pub counted_from : (nodes : List N) (journals : List (JournalView D)) (held : List Held) → length nodes ≡ length journals → length nodes ≡ length held
      → AllByRecursion (λ n. steps n ≡ 0) nodes → AllByRecursion (λ (h : Held). h.steps ≡ 0) held
      → AreCounted (seat_view state steps (journal_facts tells content moment left_at fault_count place)) (seats_of nodes journals) held
  counted_from [] [] [] long as_many new none = tt
  counted_from [] [] (h ∷ held) long as_many new none = absurd (omega (arith, as_many))
  counted_from [] (journal ∷ journals) held long as_many new none = absurd (omega (arith, long))
  counted_from (node ∷ nodes) [] held long as_many new none = absurd (omega (arith, long))
  counted_from (node ∷ nodes) (journal ∷ journals) [] long as_many new none = absurd (omega (arith, as_many))
  counted_from (node ∷ nodes) (journal ∷ journals) (h ∷ held) long as_many new none =
      (none.0 ∙ sym new.0, counted_from nodes journals held (omega (arith, long)) (omega (arith, as_many)) new.1 none.1)

  -- where the logs keep what the journals keep, so do the files
  pub kept_in_files : (seats : List (Seat N (JournalView D))) (nodes : List Held)
      → AreKept (seat_view state steps (journal_facts tells content moment left_at fault_count place)) seats nodes
      → IsTrue tells → AreJournals (map content (map (λ s. s.log.disk) seats)) nodes
  kept_in_files [] [] kept told = tt
  kept_in_files (s ∷ seats) (h ∷ nodes) kept told =
      (record { stands = kept.0.found told told; readable = kept.0.readable }, kept_in_files seats nodes kept.1 told)
  kept_in_files [] (h ∷ nodes) kept told = absurd kept
  kept_in_files (s ∷ seats) [] kept told = absurd kept

-- the files of journals that store what the nodes do
pub open_files : {D : Type 0} (tells : Bool) (content : D → List ℕ) (journals : List (JournalView D)) (nodes : List Held)
    → AreOpenWith tells content journals nodes → IsTrue tells → AreJournals (map content (disks_of journals)) nodes
open_files tells content [] [] are told = tt
open_files tells content [] (h ∷ nodes) are told = absurd are
open_files tells content (j ∷ journals) [] are told = absurd are
open_files tells content (j ∷ journals) (h ∷ nodes) are told =
    (record { stands = are.0.0.stands told; readable = are.0.1 }, open_files tells content journals nodes are.1 told)

-- of the disks of the seats, before
pub told_before : {N D X : Type 0} (f : D → X) (nodes : List N) (journals : List (JournalView D)) (seats : List (Seat N (JournalView D)))
    → seats ≡ seats_of nodes journals → length nodes ≡ length journals → map (λ s. f s.log.disk) seats ≡ map f (disks_of journals)
told_before {N = N} {D = D} {X = X} f nodes journals seats is count =
    ap (λ (ss : List (Seat N (JournalView D))). map (λ s. f s.log.disk) ss) is ∙ each nodes journals count
  where
    each : (ns : List N) (js : List (JournalView D)) → length ns ≡ length js → map {B = X} (λ s. f s.log.disk) (seats_of ns js) ≡ map f (disks_of js)
    each [] [] count = refl
    each [] (j ∷ js) count = absurd (omega (arith, count))
    each (n ∷ ns) [] count = absurd (omega (arith, count))
    each (n ∷ ns) (j ∷ js) count = ap (λ (xs : List X). f j.disk ∷ xs) (each ns js (omega (arith, count)))

pub seat_disks : {N D : Type 0} (nodes : List N) (journals : List (JournalView D)) → length nodes ≡ length journals
    → map {B = D} (λ s. s.log.disk) (seats_of nodes journals) ≡ disks_of journals
seat_disks [] [] count = refl
seat_disks [] (j ∷ journals) count = absurd (omega (arith, count))
seat_disks (n ∷ nodes) [] count = absurd (omega (arith, count))
seat_disks {D = D} (n ∷ nodes) (j ∷ journals) count = ap (λ (ds : List D). j.disk ∷ ds) (seat_disks nodes journals (omega (arith, count)))

-- where the journals are open, so are those of the seats
pub seats_open : {N D : Type 0} (nodes : List N) (journals : List (JournalView D)) → AreAllOpen journals
    → AllByRecursion (λ s. IsTrue s.log.is_open) (seats_of nodes journals)
seats_open [] journals are = tt
seats_open (n ∷ nodes) [] are = tt
seats_open (n ∷ nodes) (j ∷ journals) are = (are.0, seats_open nodes journals are.1)

-- and after it
pub told_after : {N D X : Type 0} (f : D → X) (disks : List D) (seats : List (Seat N (JournalView D)))
    → disks ≡ map (λ s. s.log.disk) seats → map (λ s. f s.log.disk) seats ≡ map f disks
told_after {N = N} {D = D} {X = X} f disks seats is = each seats ∙ ap (λ (ds : List D). map f ds) (sym is)
  where
    each : (ss : List (Seat N (JournalView D))) → map {B = X} (λ s. f s.log.disk) ss ≡ map f (map (λ s. s.log.disk) ss)
    each [] = refl
    each (s ∷ ss) = ap (λ (xs : List X). f s.log.disk ∷ xs) (each ss)

pub moved : {X : Type 0} (R : X → X → Type 0) (a b c d : X) → a ≡ c → b ≡ d → R a b → R c d
moved {X = X} R a b c d first second is = subst (λ (y : X). R c y) second (subst (λ (x : X). R x b) first is)

-- the same run, of which another thing is said
pub driven_as : (command : Command) (first : World) (source : SourceCall) (sink : SinkCall) (gives : ℕ → Type 0) (kept then : List Held → Type 0)
    (leaves leaves_then : World → Type 0) (owed owed_then : World → List ℕ → Type 0) (status : connections.Status) (rest : ℕ)
    → ((nodes : List Held) → kept nodes → then nodes) → ((w : World) → leaves w → leaves_then w)
    → ((w : World) (put : List ℕ) → owed w put → owed_then w put) → IsDriven command first source sink gives kept leaves owed status rest
    → IsDriven command first source sink gives then leaves_then owed_then status rest
driven_as (Pipe shards) first source sink gives kept then leaves leaves_then owed owed_then status rest f g pays driven =
    piped_with source sink gives (1 + shards) kept then leaves leaves_then owed owed_then first most_taken status rest driven f g
    (λ w put leave owes. pays w put owes)
driven_as (Sim shards routers) first source sink gives kept then leaves leaves_then owed owed_then status rest f g pays driven = (
  simulated_as source sink (1 + shards) kept then leaves leaves_then owed owed_then first most_taken status f g (λ w put leave owes. pays w put owes)
      driven.0,
  driven.1,
)
driven_as (Serve server) first source sink gives kept then leaves leaves_then owed owed_then status rest f g pays driven = driven

-- a connection ends with no status of another kind
pub of_no_other : (ending : connections.Status)
    → (of_connection ending ≢ statuses.BadArguments) × (of_connection ending ≢ statuses.DamagedJournal) × (of_connection ending ≢ statuses.AcceptFailed)
of_no_other ended.InputEnded = (λ e. cc, λ e. cc, λ e. cc)
of_no_other ended.ReadFailed = (λ e. cc, λ e. cc, λ e. cc)
of_no_other ended.WriteFailed = (λ e. cc, λ e. cc, λ e. cc)
of_no_other ended.DiskFailed = (λ e. cc, λ e. cc, λ e. cc)
of_no_other ended.OutOfMemory = (λ e. cc, λ e. cc, λ e. cc)
of_no_other ended.BadInput = (λ e. cc, λ e. cc, λ e. cc)
of_no_other ended.InputTooLong = (λ e. cc, λ e. cc, λ e. cc)

abbrev connection_of : Status → connections.Status
connection_of statuses.ReadFailed = ended.ReadFailed
connection_of statuses.WriteFailed = ended.WriteFailed
connection_of statuses.DiskFailed = ended.DiskFailed
connection_of statuses.OutOfMemory = ended.OutOfMemory
connection_of statuses.BadInput = ended.BadInput
connection_of statuses.InputTooLong = ended.InputTooLong
connection_of status = ended.InputEnded

back : (ending : connections.Status) → connection_of (of_connection ending) ≡ ending
back ended.InputEnded = refl
back ended.ReadFailed = refl
back ended.WriteFailed = refl
back ended.DiskFailed = refl
back ended.OutOfMemory = refl
back ended.BadInput = refl
back ended.InputTooLong = refl

pub same_ending : (ending known : connections.Status) (status : Status) → status ≡ of_connection ending → status ≡ of_connection known → ending ≡ known
same_ending ending known status is same = sym (back ending) ∙ ap connection_of (sym is ∙ same) ∙ back known

pub has_ending : (ending known : connections.Status) (status : Status) → status ≡ of_connection ending → ending ≡ known → status ≡ of_connection known
has_ending ending known status is same = is ∙ ap of_connection same

pub rose_of : (known ending : connections.Status) (status : Status) → status ≡ of_connection ending → (a b : ℕ)
    → RoseWhere (ending ≡ known) a b → RoseWhere (status ≡ of_connection known) a b
rose_of known ending status is a b where_it =
    rose_as (ending ≡ known) (status ≡ of_connection known) a b (has_ending ending known status is) (same_ending ending known status is) where_it

pub one_rose_of : (known ending : connections.Status) (status : Status) → status ≡ of_connection ending → (a b : List ℕ) → HaveRisenWhere (ending ≡ known) a b
    → OneRoseWhere (status ≡ of_connection known) a b
one_rose_of known ending status is a b where_it =
    one_rose_as (ending ≡ known) (status ≡ of_connection known) a b (has_ending ending known status is) (same_ending ending known status is)
    ((λ e. (where_it.0 e).one), where_it.1)

-- no count fell
pub later_of : (ending : connections.Status) (a b : List ℕ) → HaveRisenWhere (ending ≡ ended.DiskFailed) a b → NoneFell a b
later_of ended.DiskFailed a b where_it = (where_it.0 refl).none_fell
later_of ended.InputEnded a b where_it = subst (λ (ns : List ℕ). NoneFell a ns) (sym (where_it.1 (λ e. cc))) (none_fell_self a)
later_of ended.ReadFailed a b where_it = subst (λ (ns : List ℕ). NoneFell a ns) (sym (where_it.1 (λ e. cc))) (none_fell_self a)
later_of ended.WriteFailed a b where_it = subst (λ (ns : List ℕ). NoneFell a ns) (sym (where_it.1 (λ e. cc))) (none_fell_self a)
later_of ended.OutOfMemory a b where_it = subst (λ (ns : List ℕ). NoneFell a ns) (sym (where_it.1 (λ e. cc))) (none_fell_self a)
later_of ended.BadInput a b where_it = subst (λ (ns : List ℕ). NoneFell a ns) (sym (where_it.1 (λ e. cc))) (none_fell_self a)
later_of ended.InputTooLong a b where_it = subst (λ (ns : List ℕ). NoneFell a ns) (sym (where_it.1 (λ e. cc))) (none_fell_self a)
