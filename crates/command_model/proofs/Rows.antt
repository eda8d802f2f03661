-- What holds of each entry of the table holds of the form that is found by a name.
use Rattle.std.proofs.Common.{◌≡◌, ℕ, List, [], ◌∷◌, refl, Bool, true, false, Some, if◌then◌else◌, subst}
use Rattle.std.specs.List.{AllByRecursion}
use Rattle.std.specs.Str.{bytes_eq}
use Rattle.std.proofs.lemmas.Slice.Eq.{bytes_eq-Decides}
use Rattle.command_model.specs.Forms.{CommandForm}
use Rattle.command_model.specs.Command.{Command, Row, find_form_in}

pub found_row : (P : List ℕ → CommandForm Command → Type 0) (name : List ℕ) (rows : List Row) (form : CommandForm Command) → AllByRecursion (λ row. P row.name row.form) rows → find_form_in name rows ≡ Some form → P name form
found_row P name [] form all e = absurd cc
found_row P name (row ∷ others) form all e = by_test (bytes_eq row.name name) refl (λ later. found_row P name others form all.1 later) e
  where
    by_test : (b : Bool) → bytes_eq row.name name ≡ b → (find_form_in name others ≡ Some form → P name form) → (if b then Some row.form else find_form_in name others) ≡ Some form → P name form
    by_test true named there is =
        let forms : row.form ≡ form = cc in
        subst (λ (n : List ℕ). P n form) ((bytes_eq-Decides row.name name).0 named) (subst (λ (f : CommandForm Command). P row.name f) forms all.0)
    by_test false named there is = there is
