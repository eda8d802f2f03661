-- The program's upserted keys, by the definitions.
use Rattle.std.specs.Arc.{arc_value}
use Rattle.std.specs.Prelude.{ℕ, List, [], ◌∷◌}
use Rattle.command_model.specs.Writes as model
use Rattle.command_replies.specs.declared.answer.Upserted.{Upserted}

abbrev pub key_view : Upserted → model.Upserted
key_view u = record { index = u.index; key = arc_value u.key }

abbrev pub upserted_view : List Upserted → List model.Upserted
upserted_view [] = []
upserted_view (u ∷ upserted) = key_view u ∷ upserted_view upserted

-- a summary with only changes
abbrev pub changes_alone : (modified : ℕ) → List model.Upserted → model.WriteSummary
changes_alone modified upserted = record { count = 0; modified = modified; upserted = upserted; errors = []; time = 0 }
