-- The test for the same data is true of equal data, and of no other.
use Rattle.std.proofs.Common.{◌≡◌, refl, ap, sym, ◌∙◌}
use Rattle.std.specs.Prelude.{Bool, true, false, IsTrue, ◌↔◌}
use Rattle.bson_model.specs.Tree.{Datum}
use Rattle.node_replay.specs.SameData.{same_datum}
use Rattle.node_replay.proofs.SameWords.{datum_is, datum_itself}

pub same_keys : (a b : Datum) (same : Bool) → IsTrue same ↔ (a ≡ b) → same ≡ same_datum a b
same_keys a b true decides = sym (ap (λ x. same_datum a x) (sym (decides.0 refl)) ∙ datum_itself a)
same_keys a b false decides = by_test (same_datum a b) refl
  where
    by_test : (t : Bool) → same_datum a b ≡ t → false ≡ t
    by_test false e = refl
    by_test true e =
        let h : IsTrue false = decides.1 (datum_is a b e) in
        absurd (cc)
