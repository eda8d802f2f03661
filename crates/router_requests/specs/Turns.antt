-- A list of open requests of which the first have had their fates.
use Rattle.std.specs.Prelude.{ℕ, List, ◌++◌, take, drop, map}
use Rattle.node_model.specs.States.{Open}
use Rattle.router_requests.specs.Fates.{fated}
use Rattle.router_requests.specs.declared.fates.Fate.{Fate}

-- those before the place as they are, and what the others become by these fates
abbrev pub settled : {X : Type 0} → (X → Open) → ℕ → List X → List Fate → List Open
settled meant place items fates = map meant (take place items) ++ fated (map meant (drop place items)) fates
