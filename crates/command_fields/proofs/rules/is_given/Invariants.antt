use Rattle.std.proofs.Common.{◌≡◌, drop}
use Rattle.std.specs.List.{list_any}
use Rattle.std.specs.Str.{bytes_eq}
use Rattle.command_fields.proofs.rules.is_given.Given as goal

abbrev pub invariant-loop-field : goal.invariant-loop-field
invariant-loop-field l = list_any (λ m. bytes_eq m.name l.name) (drop l.field-index l.given) ≡ list_any (λ m. bytes_eq m.name l.name) l.given
