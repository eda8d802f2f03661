-- The line that a `Line` models.
use Rattle.std.specs.Prelude.{Some, None}
use Rattle.script_lines.specs.Lines as said
use Rattle.script_lines.specs.Lines.{client_line, deliver_line, moment_line, settle_line, next_line, restart_line, kept_line, lost_line}
use Rattle.script_lines.specs.declared.line.Line.{Line}
use Rattle.script_lines.specs.declared.line.Line.TheVariants.{Client, Deliver, Moment, Settle, SettleExcept, Next, Restart, RestartKept, RestartLost}

abbrev pub meaning_of : Line → said.Line
meaning_of (Client router bytes) = client_line router bytes.items
meaning_of (Deliver node k) = deliver_line node k
meaning_of (Moment node moment) = moment_line node moment
meaning_of Settle = settle_line None
meaning_of (SettleExcept kind) = settle_line (Some kind.items)
meaning_of (Next kind) = next_line kind.items
meaning_of (Restart node) = restart_line node
meaning_of (RestartKept node k) = kept_line node k
meaning_of (RestartLost node k) = lost_line node k
