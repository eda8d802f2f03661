use Rattle.std.proofs.Common.{◌∙◌, map}
use Rattle.node_model.specs.RouterRequests.{unsent}
use Rattle.protocol_model.specs.Statements.{statement_view}
use Rattle.write_runs.proofs.Placing.{runs_placed}
use Rattle.write_runs.proofs.Sends.{placed_unsent}
use Rattle.write_runs.specs.Places.{place_view}
use Rattle.write_runs.specs.Runs.{all_tries_view, answers_view, course_view, runs_view}
use Rattle.std.specs.Prelude.{false}
use Rattle.write_runs.proofs.sending.all_runs.Goals as goal

pub returns : goal.returns
returns c = λ given id.
    c.in_ok-more.ensures
    ∙ runs_placed c.args.table.now (all_tries_view c.args.tries.now) (map place_view c.in_ok-places.places.items)
    (unsent false (map (λ s. statement_view given id s) c.args.statements.now) (course_view c.args.answers.now c.args.tries.now c.args.runs.now))
    (placed_unsent c.args.table.now (all_tries_view c.args.tries.now) (map (λ s. statement_view given id s) c.args.statements.now) (answers_view c.args.answers.now)
    (runs_view c.args.runs.now) c.in_ok-places.places.items (c.in_ok-places.ensures given id))
