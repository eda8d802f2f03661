-- The program's errors of statements, by the definitions.
use Rattle.std.specs.Prelude.{List, [], ◌∷◌}
use Rattle.command_model.specs.Writes as model
use Rattle.command_replies.specs.declared.answer.WriteError.{WriteError}
use Rattle.command_replies.specs.Refusals.{refusal_view}

abbrev pub error_view : WriteError → model.WriteError
error_view e = record { index = e.index; refusal = refusal_view e.refusal }

abbrev pub errors_view : List WriteError → List model.WriteError
errors_view [] = []
errors_view (e ∷ errors) = error_view e ∷ errors_view errors
