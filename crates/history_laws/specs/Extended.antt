-- What one history keeps of an earlier one: what is stored stays, in its order; and each new entry comes after all that its shard had stored (own).
use Rattle.std.specs.Prelude.{◌≡◌, ◌≢◌, List, [], ◌∷◌, ◌++◌}
use Rattle.std.specs.List.{AllByRecursion}
use Rattle.history_model.specs.History.{Entry}

-- the later entries are the earlier ones, with new ones among them
pub data Extends (New : Entry → Type 0) : (old new : List Entry) → Type 0 where
  extends_none : Extends New [] []
  entry_kept : (e : Entry) (old new : List Entry) → Extends New old new → Extends New (e ∷ old) (e ∷ new)
  entry_comes : (e : Entry) (old new : List Entry) → New e → AllByRecursion (λ (d : Entry). d.shard ≢ e.shard) old → Extends New old new
      → Extends New old (e ∷ new)

-- each journal goes on with entries that are new
abbrev pub GoOn : (Entry → Type 0) → List (List Entry) → List (List Entry) → Type 0
GoOn New [] [] = Unit {0}
GoOn New [] (later ∷ laters) = ⊥
GoOn New (journal ∷ journals) [] = ⊥
GoOn New (journal ∷ journals) (later ∷ laters) =
    ((more : List Entry) × (later ≡ journal ++ more) × AllByRecursion New more) × GoOn New journals laters
