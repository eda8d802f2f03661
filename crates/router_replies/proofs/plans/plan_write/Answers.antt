use Rattle.std.proofs.Common.{◌≡◌, ap, ◌∙◌, ℕ, List, [], map, Bool}
use Rattle.std.specs.Prelude.{Option}
use Rattle.command_model.specs.Writes.{WriteKind}
use Rattle.command_replies.specs.Kinds.{given_view, kind_view}
use Rattle.node_model.specs.Letters.{Statement}
use Rattle.node_model.specs.RouterRequests.{begun_write, needs, statements_from}
use Rattle.node_model.specs.States.{Run, writing}
use Rattle.protocol_model.specs.Statements.{statement_view}
use Rattle.protocol_model.specs.declared.statement.Statement.{Statement as StatementTold}
use Rattle.reply_model.specs.Outcomes.{StatementOutcome, Try, none_yet}
use Rattle.statement_views.specs.Views.{operation_view}
use Rattle.write_runs.specs.Runs.{all_tries_view, answers_view, runs_view}
use Rattle.write_runs.specs.declared.run.Run.{Run as RunMade}
use Rattle.router_replies.proofs.plans.plan_write.Goals as goal

abbrev untried : List Statement → List (List Try)
untried statements = map (λ (s : Statement). []) statements

-- a write of which nothing was sent
begun_so : (namespace : List ℕ) (kind : WriteKind) (ordered : Bool) (made given : List Statement) (answers : List (Option StatementOutcome)) (tries : List (List Try)) (runs : List Run) → made ≡ given → answers ≡ none_yet made →
    tries ≡ untried made → runs ≡ [] →
    needs namespace (writing kind ordered made (record { answers = answers; tries = tries; runs = runs })) ≡ needs namespace (begun_write kind ordered given)
begun_so namespace kind ordered made given answers tries runs are unanswered fresh none =
    ap (λ (xs : List (Option StatementOutcome)). needs namespace (writing kind ordered made (record { answers = xs; tries = tries; runs = runs }))) unanswered
    ∙ ap (λ (ts : List (List Try)). needs namespace (writing kind ordered made (record { answers = none_yet made; tries = ts; runs = runs }))) fresh
    ∙ ap (λ (rs : List Run). needs namespace (writing kind ordered made (record { answers = none_yet made; tries = untried made; runs = rs }))) none
    ∙ ap (λ (ss : List Statement). needs namespace (begun_write kind ordered ss)) are

pub returns : goal.returns
returns c = λ id.
    let write = c.args.write in
    let given = given_view write.number in
    let made = λ (l : List StatementTold). map (λ s. statement_view given id s) l in
    begun_so write.namespace (kind_view write.kind) write.ordered (made c.in_ok-statements.statements.items)
    (statements_from given id 0 (map operation_view write.operations.items)) (answers_view c.in_ok-answers.answers.items) (all_tries_view c.in_ok-tries.tries.items) (runs_view c.new.result.items)
    (c.in_ok-statements.ensures given id)
    (c.in_ok-answers.ensures given id ∙ ap (λ (l : List StatementTold). none_yet (made l)) c.deref.ensures.value)
    (c.in_ok-tries.ensures given id ∙ ap (λ (l : List StatementTold). untried (made l)) c.deref-2.ensures.value)
    (ap (λ (l : List RunMade). runs_view l) c.new.ensures.items)
