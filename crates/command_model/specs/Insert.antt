-- The statements of `insert` (MongoDB manual, "insert"): each is the document to insert.
use Rattle.std.specs.Prelude.{None, codes}
use Rattle.history_model.specs.History.{insert_operation}
use Rattle.command_model.specs.Statements.{StatementForm}

abbrev pub insert_statements : StatementForm
insert_statements = record { identifier = codes "documents"; check = λ document. None; operation = insert_operation }
