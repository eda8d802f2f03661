use Rattle.std.proofs.Common.{sym, ◌∙◌, map}
use Rattle.write_runs.proofs.Nexts.{one_left, one_taken}
use Rattle.write_runs.proofs.Placing.{placed_both}
use Rattle.write_runs.specs.Marks.{is_new}
use Rattle.write_runs.specs.Places.{all_placed, place_view}
use Rattle.write_runs.specs.Runs.{all_tries_view, answers_view, runs_view}
use Rattle.write_runs.proofs.places.places_of.Goals as goal
use Rattle.write_runs.proofs.places.places_of.Goals.{then-is_new+in_ok-add_place, else-is_new}

pub loop-statement-preserved : goal.loop-statement-preserved
loop-statement-preserved c = λ given id.
    elim c.if-is_new.branch [
      | then-is_new+in_ok-add_place w ↦
          rw w.places-is (one_taken given id c.args.statements.now c.loop-statement.statement-index c.statement-item.result c.loop-statement-test.true c.statement-item.is
          (λ l. all_placed c.args.table.now (all_tries_view c.args.tries.now) l) (placed_both c.args.table.now (all_tries_view c.args.tries.now))
          (is_new (answers_view c.args.answers.now) (runs_view c.args.runs.now)) (map place_view c.loop-statement.places.items) (map place_view w.add_place.new.places.items) _
          (w.in_ok-add_place.ensures given id) (sym (c.is_new.ensures given id) ∙ w.if-is_new.true) (c.loop-statement.invariant given id))
      | else-is_new w ↦
          rw w.places-is (one_left given id c.args.statements.now c.loop-statement.statement-index c.statement-item.result c.loop-statement-test.true c.statement-item.is
          (λ l. all_placed c.args.table.now (all_tries_view c.args.tries.now) l) (placed_both c.args.table.now (all_tries_view c.args.tries.now))
          (is_new (answers_view c.args.answers.now) (runs_view c.args.runs.now)) (map place_view c.loop-statement.places.items) _
          (sym (c.is_new.ensures given id) ∙ w.if-is_new.false) (c.loop-statement.invariant given id))
    ]
