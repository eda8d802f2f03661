use Rattle.std.proofs.Common.{◌≡◌, drop}
use Rattle.std.specs.Prelude.{◌||◌, ◌==◌}
use Rattle.std.specs.List.{list_any}
use Rattle.std.specs.Str.{byte}
use Rattle.pipeline_lang.proofs.parser.has_dot_or_zero.Given as goal

abbrev pub invariant-loop-b : goal.invariant-loop-b
invariant-loop-b l = list_any (λ b. (b == byte ".") || (b == 0)) (drop l.b-index l.bytes) ≡ list_any (λ b. (b == byte ".") || (b == 0)) l.bytes
