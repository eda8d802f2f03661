-- The bytes of replies, one after the other.
use Rattle.std.proofs.Common.{◌≡◌, refl, ap, subst, ℕ, ℤ, w32, List, [], ◌∷◌, ◌++◌, Bool, true, false, if◌then◌else◌}
use Rattle.node_model.specs.Letters.{Reply}
use Rattle.base_model.specs.Identities.{RequestId}
use Rattle.opmsg_model.specs.Requests.{Request}
use Rattle.bson_model.specs.Tree.{Fields}
use Rattle.node_traits.specs.Effects.{puts_of, put_by}
use Rattle.std.proofs.lemmas.Int.{to_z-of_z}
use mir.Val.{SFits, of_z, to_z}
use Rattle.node_traits.specs.declared.outputs.ToLink.{ToLink}

pub puts_append : (xs ys : List Reply) → puts_of (xs ++ ys) ≡ puts_of xs ++ puts_of ys
puts_append [] ys = refl
puts_append (x ∷ xs) ys = by_more x.request.more (puts_append xs ys) where
  by_more : (more : Bool) → puts_of (xs ++ ys) ≡ puts_of xs ++ puts_of ys
      → (if more then puts_of (xs ++ ys) else record { link = x.link; bytes = put_by x } ∷ puts_of (xs ++ ys))
      ≡ (if more then puts_of xs else record { link = x.link; bytes = put_by x } ∷ puts_of xs) ++ puts_of ys
  by_more true next = next
  by_more false next = ap (λ (l : List ToLink). record { link = x.link; bytes = put_by x } ∷ l) next

-- a number that was passed on is unchanged
pub told_as : (replies : List ToLink) (id : RequestId) (time link : ℕ) (number : ℤ) (request : Request) (document : Fields) → SFits w32 number
    → replies ≡ puts_of (record { id = id; link = link; number = to_z w32 (of_z w32 number); request = request; time = time; document = document } ∷ [])
    → replies ≡ puts_of (record { id = id; link = link; number = number; request = request; time = time; document = document } ∷ [])
told_as replies id time link number request document fits told =
    subst (λ (z : ℤ). replies ≡ puts_of (record { id = id; link = link; number = z; request = request; time = time; document = document } ∷ [])) (to_z-of_z w32 number fits) told
