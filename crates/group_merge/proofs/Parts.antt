-- Parts, one after the other.
use Rattle.std.proofs.Common.{◌≡◌, List, [], ◌∷◌, ◌++◌, map, refl, sym, ap, ◌∙◌, subst, append_assoc, append-nil}
use Rattle.std.specs.Prelude.{flat_map}
use Rattle.pipeline_model.specs.GroupSpecs.{GroupSpec}
use Rattle.pipeline_model.specs.Groups.{IsJoined, PartialRow}

module _ {P Y X : Type 0} (see : P → Y) (f : Y → List X) where
  -- the next part is appended
  pub next_part : (done now : List X) (left rest : List P) (part : P) (whole : List X) → now ≡ done ++ f (see part) → left ≡ part ∷ rest →
      done ++ flat_map f (map see left) ≡ whole → now ++ flat_map f (map see rest) ≡ whole
  next_part done now left rest part whole put is so_far =
      ap (λ (l : List X). l ++ flat_map f (map see rest)) put ∙ append_assoc done (f (see part)) (flat_map f (map see rest))
      ∙ ap (λ (l : List P). done ++ flat_map f (map see l)) (sym is) ∙ so_far

  pub no_part_left : (done : List X) (left : List P) (whole : List X) → left ≡ [] → done ++ flat_map f (map see left) ≡ whole → done ≡ whole
  no_part_left done left whole none so_far = sym (ap (λ (l : List P). done ++ flat_map f (map see l)) none ∙ append-nil done) ∙ so_far

-- the rows that were joined are those of the parts that were visited
abbrev pub AreSoFar : {P Y : Type 0} → (P → Y) → (Y → List PartialRow) → GroupSpec → List P → List PartialRow → List PartialRow → Type 0
AreSoFar see f spec left joined whole = (front : List PartialRow) × (front ++ flat_map f (map see left) ≡ whole) × IsJoined spec front joined

module _ {P Y : Type 0} (see : P → Y) (f : Y → List PartialRow) (spec : GroupSpec) where
  pub next_joined : (joined after : List PartialRow) (left rest : List P) (part : P) (whole : List PartialRow) → left ≡ part ∷ rest →
      ((front : List PartialRow) → IsJoined spec front joined → IsJoined spec (front ++ f (see part)) after) →
      AreSoFar see f spec left joined whole → AreSoFar see f spec rest after whole
  next_joined joined after left rest part whole is joins so_far =
      (so_far.0 ++ f (see part), next_part see f so_far.0 (so_far.0 ++ f (see part)) left rest part whole refl is so_far.1, joins so_far.0 so_far.2)

  pub all_joined : (joined : List PartialRow) (left : List P) (whole : List PartialRow) → left ≡ [] → AreSoFar see f spec left joined whole → IsJoined spec whole joined
  all_joined joined left whole none so_far =
      subst (λ (l : List PartialRow). IsJoined spec l joined) (no_part_left see f so_far.0 left whole none so_far.1) so_far.2

  pub nothing_joined : (joined : List PartialRow) (left : List P) → joined ≡ [] → AreSoFar see f spec left joined (flat_map f (map see left))
  nothing_joined joined left none =
      ([], refl, subst (λ (l : List PartialRow). IsJoined spec [] l) (sym none) (record { each = tt; apart = tt; every = tt }))
