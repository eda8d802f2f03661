-- Room for a cursor, and a cursor that is stored there.
use Rattle.std.proofs.Common.{◌≡◌, sym, subst, ℕ, ℤ, List, []}
use Rattle.std.specs.Prelude.{Some, pos}
use Rattle.cursor_shelf.specs.Cursors.{OpenCursor}
use Rattle.cursor_shelf.specs.Shelves.{cursor_in}
use Rattle.cursor_shelf.specs.declared.shelf.Shelf.{Shelf}
use Rattle.bson_model.specs.Tree.{Fields}

abbrev opened_on : (namespace : List ℕ) → (time : ℕ) → List Fields → OpenCursor
opened_on namespace time rest = record { namespace = namespace; time = time; remaining = rest }

pub filled_there : (old new : Shelf) (k : ℤ) (n given : ℕ) (namespace : List ℕ) (time : ℕ) (rest : List Fields) → k ≡ pos n → n ≡ given
    → cursor_in old (pos given) ≡ Some (record { namespace = namespace; time = time; remaining = [] })
    → ((c : OpenCursor) → cursor_in old k ≡ Some c → cursor_in new k ≡ Some (record { namespace = c.namespace; time = c.time; remaining = rest }))
    → cursor_in new (pos n) ≡ Some (record { namespace = namespace; time = time; remaining = rest })
filled_there old new k n given namespace time rest same is room filled =
    subst (λ (i : ℤ). cursor_in new i ≡ Some (opened_on namespace time rest)) same
    (filled (opened_on namespace time [])
    (subst (λ (i : ℤ). cursor_in old i ≡ Some (opened_on namespace time [])) (sym same)
    (subst (λ (j : ℕ). cursor_in old (pos j) ≡ Some (opened_on namespace time [])) (sym is) room)))
