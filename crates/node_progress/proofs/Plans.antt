-- A request with work to do has a first thing to do.
use Rattle.std.proofs.Common.{◌≡◌, ◌≢◌, ℕ, zero, suc, List, [], ◌∷◌, refl, subst, ◌∙◌, Bool}
use Rattle.std.specs.Prelude.{Option, Some, None, Result, Ok, Err, true, false, max, map, ◌||◌}
use Rattle.std.specs.List.{AllByRecursion}
use Rattle.std.specs.Option.{unwrap_or}
use Rattle.opmsg_model.specs.Requests.{Request}
use Rattle.base_model.specs.Refusals.{Refusal}
use Rattle.command_model.specs.Command.{Command, hello_command, legacy_command, ping_command, end_sessions_command, write_command, find_command, count_command, more_command, kill_command, shard_collection_command, split_command, command_of}
use Rattle.command_model.specs.Reading.{Reading}
use Rattle.reply_model.specs.Right.{usual_size}
use Rattle.command_model.specs.Writes.{ClientNumber, WriteKind}
use Rattle.history_model.specs.History.{Operation}
use Rattle.base_model.specs.Identities.{RequestId}
use Rattle.reply_model.specs.Outcomes.{none_yet}
use Rattle.node_model.specs.States.{Telling, in_batches, as_number, Router, Work, writing, reading, sharding, splitting}
use Rattle.node_model.specs.RouterRequests.{needs, plan_of, begun_write, statements_from, tries_at}
use Rattle.command_model.proofs.Taken.{some_operations, operations_with_keys}
use Rattle.command_model.proofs.Judged.{HasKey}
use Rattle.node_laws.proofs.Outcomes.{none_long, statements_long}
use Rattle.node_progress.proofs.Lateness.{IsGoing}
use Rattle.node_progress.proofs.OneRun.{AreUntried, going_of}

same_plan : {n m : List ℕ} {a b : Work} → needs n a ≡ needs m b → a ≡ b
same_plan e = cc e

-- nothing was sent for it
abbrev pub IsBegun : Work → Type 0
IsBegun (writing kind ordered statements c) = (c.runs ≡ []) × AreUntried c.tries
IsBegun (reading named at stages telling) = Unit {0}
IsBegun sharding = Unit {0}
IsBegun (splitting middle) = Unit {0}

abbrev pub Starts : Work → Type 0
Starts work = IsGoing work × IsBegun work

none_tried : {X : Type 0} (xs : List X) (index : ℕ) → tries_at index (map (λ (x : X). []) xs) ≡ []
none_tried [] index = refl
none_tried (x ∷ xs) zero = refl
none_tried (x ∷ xs) (suc index) = none_tried xs index

write_goes : (given : Option ClientNumber) (id : RequestId) (kind : WriteKind) (ordered : Bool) (operations : List Operation) → operations ≢ []
    → AllByRecursion HasKey operations
    → Starts (begun_write kind ordered (statements_from given id 0 operations))
write_goes given id kind ordered [] some keys = absurd (some refl)
write_goes given id kind ordered (operation ∷ operations) some keys = (
  going_of ordered (statements_from given id 0 (operation ∷ operations)) (none_yet (statements_from given id 0 (operation ∷ operations))) (record {
    given = given;
    id = id;
    operations = operation ∷ operations;
    are = refl;
    keys = keys;
    long = none_long (statements_from given id 0 (operation ∷ operations)) ∙ statements_long given id 0 (operation ∷ operations);
  }) refl,
  (refl, none_tried (statements_from given id 0 (operation ∷ operations))),
)

-- a read is of some time
read_goes : (r : Router) (read : Reading) (telling : Telling) (at : Option ℕ) → Starts (elim at as (λ (o : Option ℕ). Work) [
  | None ↦ reading false (max r.time (unwrap_or read.after 0)) read.stages telling
  | Some named ↦ reading true named read.stages telling
])
read_goes r read telling None = (tt, tt)
read_goes r read telling (Some named) = (tt, tt)

-- a request with work to do has a first thing to do
pub plan_goes : (r : Router) (id : RequestId) (silent : Bool) (request : Request) (namespace : List ℕ) (work : Work) (o : Result Command Refusal)
    → command_of request ≡ o
    → plan_of r id silent o ≡ needs namespace work → Starts work
plan_goes r id silent request namespace work (Err refusal) is plan = absurd (cc plan)
plan_goes r id silent request namespace work (Ok hello_command) is plan = absurd (cc plan)
plan_goes r id silent request namespace work (Ok (legacy_command legacy)) is plan = absurd (cc plan)
plan_goes r id silent request namespace work (Ok ping_command) is plan = absurd (cc plan)
plan_goes r id silent request namespace work (Ok end_sessions_command) is plan = absurd (cc plan)
plan_goes r id silent request namespace work (Ok (write_command write)) is plan =
    subst (λ w. Starts w) (same_plan plan)
    (write_goes write.number id write.kind write.ordered write.operations (some_operations request write is) (operations_with_keys request write is))
plan_goes r id silent request namespace work (Ok (find_command find)) is plan =
    subst (λ w. Starts w) (same_plan plan)
    (read_goes r find.reading (in_batches (unwrap_or find.batches.size usual_size) (find.batches.single || silent)) find.reading.at)
plan_goes r id silent request namespace work (Ok (count_command read)) is plan = subst (λ w. Starts w) (same_plan plan) (read_goes r read as_number read.at)
plan_goes r id silent request namespace work (Ok (more_command get)) is plan = absurd (cc plan)
plan_goes r id silent request namespace work (Ok (kill_command kill)) is plan = absurd (cc plan)
plan_goes r id silent request namespace work (Ok (shard_collection_command name)) is plan = subst (λ w. Starts w) (same_plan plan) (tt, tt)
plan_goes r id silent request namespace work (Ok (split_command split)) is plan = subst (λ w. Starts w) (same_plan plan) (tt, tt)
