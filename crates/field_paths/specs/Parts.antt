-- The parts of a path as a list.
use Rattle.std.specs.Prelude.{ℕ, List, [], ◌∷◌}
use Rattle.field_paths.specs.declared.path.Parts.{Parts}
use Rattle.field_paths.specs.declared.path.Parts.TheVariants.{One, Several}

abbrev pub parts_in : Parts → List (List ℕ)
parts_in (One part) = part ∷ []
parts_in (Several parts) = parts.items
