-- What a parser returns, by what the definitions say of reading a document.
use Rattle.std.specs.Prelude.{◌≡◌, Result, Ok, Err}
use Rattle.query_model.specs.Paths.{empty_part, digits_part, dollar_part, too_long}
use Rattle.query_model.specs.Queries.{QueryFault, unknown_operator, bad_operand, path_fault, too_deep}
use Rattle.field_paths.specs.declared.path.PathFault.{PathFault}
use Rattle.field_paths.specs.declared.path.PathFault.TheVariants as paths
use Rattle.field_paths.specs.declared.path.ParseFault.{ParseFault}
use Rattle.field_paths.specs.declared.path.ParseFault.TheVariants.{UnknownOperator, BadOperand, Path, Deep, Memory}

-- A name is not a path, for this reason.
abbrev pub FailsAt : {Y : Type 0} → PathFault → Result Y QueryFault → Type 0
FailsAt paths.Empty read = read ≡ Err (path_fault empty_part)
FailsAt paths.Digits read = read ≡ Err (path_fault digits_part)
FailsAt paths.Dollar read = read ≡ Err (path_fault dollar_part)
FailsAt paths.Long read = read ≡ Err (path_fault too_long)
FailsAt paths.Memory read = ⊥

-- Unless memory runs out, an error is this fault.
abbrev pub Fails : {Y : Type 0} → ParseFault → Result Y QueryFault → Type 0
Fails UnknownOperator read = read ≡ Err unknown_operator
Fails BadOperand read = read ≡ Err bad_operand
Fails (Path fault) read = FailsAt fault read
Fails Deep read = read ≡ Err too_deep
Fails Memory read = Unit {0}

-- Unless memory runs out, the result of a function, seen by `view`, is this result of reading.
abbrev pub Gives : {X Y : Type 0} → (X → Y) → Result X ParseFault → Result Y QueryFault → Type 0
Gives view (Ok x) read = read ≡ Ok (view x)
Gives view (Err e) read = Fails e read
