-- Commands that wait, each once (own).
use Rattle.std.specs.Prelude.{List, [], ◌∷◌, ◌++◌, Bool, ◌&&◌, ◌==◌, if◌then◌else◌}
use Rattle.std.specs.List.{list_any}
use Rattle.cluster_base.specs.declared.identity.RequestId.{RequestId}
use Rattle.critical_section.specs.declared.parked.Parked.{Parked}

abbrev pub same_request : RequestId → RequestId → Bool
same_request a b = (a.router.0 == b.router.0) && ((a.life == b.life) && (a.count == b.count))

module _ {C : Type 0} where
  -- they are of one request, turn and index
  abbrev pub same_wait : Parked C → Parked C → Bool
  same_wait a b = same_request a.id b.id && ((a.turn == b.turn) && (a.index == b.index))

  -- one with the same request, turn and index is among these
  abbrev pub is_parked : List (Parked C) → Parked C → Bool
  is_parked parked command = list_any (λ p. same_wait p command) parked

  -- the list once a command was parked: after the others, where it is not there yet
  abbrev pub parked_with : List (Parked C) → Parked C → List (Parked C)
  parked_with parked command = if is_parked parked command then parked else parked ++ command ∷ []
