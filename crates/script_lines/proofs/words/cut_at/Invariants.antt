use Rattle.std.proofs.Common.{take}
use Rattle.script_lines.specs.Words.{HasNone}
use Rattle.script_lines.proofs.words.cut_at.Given as goal

abbrev pub invariant-bytes : goal.invariant-bytes
invariant-bytes l = HasNone l.byte (take l.i l.bytes)
