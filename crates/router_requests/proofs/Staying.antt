-- How open requests stay open, by what they have to do.
use Rattle.std.proofs.Common.{◌≡◌, refl, ℕ, List, [], Bool}
use Rattle.std.specs.Prelude.{Option}
use Rattle.command_model.specs.Writes.{WriteKind}
use Rattle.node_model.specs.Letters.{Statement}
use Rattle.node_model.specs.States.{Course, Open, Router, Run, Work, reading, sharding, splitting, writing}
use Rattle.reply_model.specs.Outcomes.{StatementOutcome}
use Rattle.router_requests.specs.Fates.{answers_in, course_in, runs_in}
use Rattle.router_requests.specs.Nexts.{write_next}
use Rattle.router_requests.specs.declared.writes.WriteNext.{WriteNext}
use Rattle.router_requests.specs.declared.writes.WriteNext.TheVariants as writes

-- the runs that come last count
pub runs_after_answers : (work : Work) (answers : List (Option StatementOutcome)) (before runs : List Run) → answers_in work answers runs ≡ runs_in (answers_in work answers before) runs
runs_after_answers (writing kind ordered statements c) answers before runs = refl
runs_after_answers (reading named at stages telling) answers before runs = refl
runs_after_answers sharding answers before runs = refl
runs_after_answers (splitting middle) answers before runs = refl

pub runs_after_course : (work : Work) (c : Course) (runs : List Run)
    → course_in work (record { answers = c.answers; tries = c.tries; runs = runs }) ≡ runs_in (course_in work c) runs
runs_after_course (writing kind ordered statements d) c runs = refl
runs_after_course (reading named at stages telling) c runs = refl
runs_after_course sharding c runs = refl
runs_after_course (splitting middle) c runs = refl

-- how a write goes on does not depend on the runs that it had
pub with_other_runs : (r : Router) (time : ℕ) (q : Open) (kind : WriteKind) (ordered : Bool) (statements : List Statement) (c : Course) (runs : List Run) (next : WriteNext)
    → write_next r time q (writing kind ordered statements c) next
    ≡ write_next r time q (writing kind ordered statements (record { answers = c.answers; tries = c.tries; runs = runs })) next
with_other_runs r time q kind ordered statements c runs (writes.GoesOn s) = refl
with_other_runs r time q kind ordered statements c runs (writes.IsWritten answer) = refl
