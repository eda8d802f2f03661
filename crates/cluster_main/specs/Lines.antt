-- What the program writes to standard error.
use Rattle.std.specs.Prelude.{ℕ, List, Option, Some, None}
use Rattle.cluster_service.specs.Statuses.{line_of, with_number}
use Rattle.cluster_service.specs.declared.status.Status.{Status}

-- the line of the status, if there is one
abbrev pub line_if : Option Status → Option (List ℕ)
line_if None = None
line_if (Some status) = line_of status

-- the line of the status with this number
abbrev pub line_at : ℕ → Option (List ℕ)
line_at number = line_if (with_number number)
