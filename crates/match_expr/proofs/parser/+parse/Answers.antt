use Rattle.std.proofs.lemmas.Result.{err_from_is_err_and}
use Rattle.std.proofs.Common.{◌≡◌, Result, ap, subst, sym}
use Rattle.bson_values.specs.declared.value.Value.{Value}
use Rattle.bson_values.specs.Tree.{document_value}
use Rattle.bson_values.specs.View.{datum_of}
use Rattle.field_paths.specs.ReadFaults.{Gives}
use Rattle.query_model.specs.Queries as queries
use Rattle.query_model.specs.Queries.{QueryFault}
use Rattle.query_model.specs.Reading.{read_tests_within, read_within}
use Rattle.match_expr.specs.View.{clause_of}
use Rattle.field_paths.proofs.FieldLists.{passes_on}
use Rattle.match_expr.proofs.ReadLoops.{clauses_go_on, connective_read, path_clause_read, queries_go_on, tests_fail, tests_go_on}
use Rattle.match_expr.proofs.parser.+parse.Goals as goal

pub parse_clause-returns : goal.parse_clause-returns
parse_clause-returns t c =
    let plain = rw c.if-begins_with_dollar.false at c.begins_with_dollar.ensures in
    let same =
    path_clause_read (read_within c.args.levels) (read_tests_within c.args.levels) c.args.name.now (datum_of c.args.value.now) _ plain
    c.in_ok-path.ensures.gives in
    record { gives = subst (λ (read : Result queries.Clause QueryFault). Gives (λ x. clause_of x) c.parse_asked.result read) (sym same) c.parse_asked.ensures.gives }

pub parse_clauses-loop-field-preserved : goal.parse_clauses-loop-field-preserved
parse_clauses-loop-field-preserved t c =
    clauses_go_on (read_within c.args.levels) (read_tests_within c.args.levels) c.loop-field.clauses.items _ c.in_ok-clause.clause
    c.fields-field-items.result.now c.loop-field.field-index c.field-item.result c.as_str.result.now _ c.loop-field-test.true c.field-item.is
    c.in_ok-push.ensures.items
    c.as_str.ensures.text c.in_ok-clause.ensures.gives c.loop-field.invariant

pub parse_connective-returns : goal.parse_connective-returns
parse_connective-returns t c =
    record {
      gives =
          connective_read (read_within c.args.levels) (read_tests_within c.args.levels) c.args.name.now (datum_of c.args.value.now) _ _ _ c.in-Some.ensures
          c.in-Some-some_documents.ensures c.in_ok-queries.ensures.gives;
    }

pub parse_tests-returns-in_err-test : goal.parse_tests-returns-in_err-test
parse_tests-returns-in_err-test t c =
    let p = err_from_is_err_and c.from_residual.result c.from_residual.ensures.1 in
    let failed = rw c.as_str.ensures.text at c.in_err-test.ensures.gives in
    record {
      gives =
          rw (p.1, p.2)
          (passes_on _ _ _
          (λ f h. tests_fail (read_within c.args.levels) (read_tests_within c.args.levels) c.loop-field.tests.items c.fields-field-items.result.now
          c.loop-field.field-index c.field-item.result _ f c.loop-field-test.true c.field-item.is c.loop-field.invariant h)
          failed);
    }

pub parse_tests-loop-field-preserved : goal.parse_tests-loop-field-preserved
parse_tests-loop-field-preserved t c =
    let read = rw c.as_str.ensures.text at c.in_ok-test.ensures.gives in
    tests_go_on (read_within c.args.levels) (read_tests_within c.args.levels) c.loop-field.tests.items _ c.in_ok-test.test
    c.fields-field-items.result.now c.loop-field.field-index c.field-item.result _ c.loop-field-test.true c.field-item.is
    c.in_ok-push.ensures.items read c.loop-field.invariant

pub parse_queries-loop-value-preserved : goal.parse_queries-loop-value-preserved
parse_queries-loop-value-preserved t c =
    let is_document : datum_of c.value-item.result ≡ document_value c.in-Doc.document = ap (λ (v : Value). datum_of v) c.in-Doc.is in
    queries_go_on (read_within c.args.levels) (read_tests_within c.args.levels) c.loop-value.queries.items _ c.in_ok-query.query
    c.values-value-items.result.now c.loop-value.value-index c.value-item.result c.in-Doc.document _ c.loop-value-test.true c.value-item.is
    is_document c.in_ok-push.ensures.items
    c.in_ok-query.ensures.gives c.loop-value.invariant
