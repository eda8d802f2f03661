-- What is seen of collections once one of them changed.
use Rattle.std.proofs.Common.{◌≡◌, ℕ, List, refl, sym}
use Rattle.std.specs.Prelude.{Bool, true, false, Option, Some, if◌then◌else◌}
use Rattle.std.specs.Str.{bytes_eq}
use Rattle.std.proofs.lemmas.Bool.Decides.{Decides-like, same_from_decides}
use Rattle.std.proofs.lemmas.Slice.Eq.{bytes_eq-Decides}
use Rattle.mvcc_collection.specs.declared.collection.Collection.{Collection}

pub turned_bytes : (a b : List ℕ) → bytes_eq a b ≡ bytes_eq b a
turned_bytes a b = same_from_decides (bytes_eq a b) (bytes_eq b a) (bytes_eq-Decides a b) (Decides-like (bytes_eq b a) sym sym (bytes_eq-Decides b a))

-- another collection takes the place of one
pub changed_at : {A : Type 0} (see : Option Collection → A) (P : A → A → Type 0) (here : Bool) (old new : Option Collection) (before : Option Collection) (c : Collection) →
    (here ≡ true → old ≡ before) → new ≡ (if here then Some c else old) →
    (here ≡ true → P (see (Some c)) (see before)) → (here ≡ false → P (see old) (see old)) → P (see new) (see old)
changed_at see P true old new before c found changed own other = rw (changed, found refl) (own refl)
changed_at see P false old new before c found changed own other = rw changed (other refl)
