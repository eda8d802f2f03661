use Rattle.std.proofs.Common.{rules}
use Rattle.match_expr.proofs.Operands.{documents_alone}
use Rattle.match_expr.proofs.operators.some_documents.Goals as goal

pub returns-then-has_documents_only : goal.returns-then-has_documents_only
returns-then-has_documents_only c = search (rules, documents_alone)
