-- The runs, the answers and the tries of a write in the program, by the definitions.
use Rattle.std.specs.Prelude.{List, map, Option}
use Rattle.std.specs.Option.{option_map}
use Rattle.std.specs.declared.vec.Vec.{Vec}
use Rattle.chunk_table.specs.VerdictMeanings.{sent_view}
use Rattle.node_model.specs.States as states
use Rattle.protocol_model.specs.Refusals.{try_view}
use Rattle.protocol_model.specs.Statements.{answer_view}
use Rattle.protocol_model.specs.declared.refused.Try.{Try}
use Rattle.protocol_model.specs.declared.statement.StatementOutcome.{StatementOutcome}
use Rattle.reply_model.specs.Outcomes as outcomes
use Rattle.write_runs.specs.declared.course.Course.{Course}
use Rattle.write_runs.specs.declared.run.Run.{Run}

abbrev pub run_view : Run → states.Run
run_view run = record { shard = run.shard.0; sent = sent_view run.sent; indices = run.indices.items }

abbrev pub runs_view : List Run → List states.Run
runs_view runs = map run_view runs

-- the outcomes of the statements, by their indices
abbrev pub answers_view : List (Option StatementOutcome) → List (Option outcomes.StatementOutcome)
answers_view answers = map (λ a. option_map answer_view a) answers

-- the tries of a statement, or of a read
abbrev pub tries_view : List Try → List outcomes.Try
tries_view tries = map try_view tries

-- those of the statements, by their indices
abbrev pub all_tries_view : {Z : Type 0} → List (Vec Try Z) → List (List outcomes.Try)
all_tries_view tries = map (λ own. tries_view own.items) tries

-- how far a write has come that has these answers and these tries, of which these runs are under way
abbrev pub course_by : List (Option StatementOutcome) → List (List outcomes.Try) → List Run → states.Course
course_by answers tries runs = record { answers = answers_view answers; tries = tries; runs = runs_view runs }

abbrev pub course_view : {Z : Type 0} → List (Option StatementOutcome) → List (Vec Try Z) → List Run → states.Course
course_view answers tries runs = course_by answers (all_tries_view tries) runs

abbrev pub course_of : Course → states.Course
course_of c = course_view c.answers.items c.tries.items c.runs.items
