use Rattle.query_model.proofs.SpanKeys.{keys_in_span, span_ascends}
use Rattle.query_model.proofs.laws.keys_in_span.Goals as goal

pub returns-clause-inside : goal.returns-clause-inside
returns-clause-inside c = keys_in_span

pub returns-clause-ascending : goal.returns-clause-ascending
returns-clause-ascending c = span_ascends
