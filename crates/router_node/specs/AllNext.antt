-- What becomes of open requests.
use Rattle.std.specs.Prelude.{◌≡◌, List, [], ◌∷◌, ◌++◌, length, map}
use Rattle.std.specs.List.{flat_map}
use Rattle.node_model.specs.RouterNext.{Next, letters_in, replies_in, stay_in}
use Rattle.node_model.specs.States.{Open}
use Rattle.node_traits.specs.Effects.{puts_of}
use Rattle.protocol_model.specs.Messages.{letter_of}
use Rattle.router_requests.specs.Fates.{fate_of, fated}
use Rattle.router_requests.specs.declared.fates.Fate.{Fate}
use Rattle.router_node.specs.declared.all_next.AllNext.{AllNext}

-- what becomes of one more open request is appended
pub record Adds (q : Open) (next : Next) (old new : AllNext) : Type 0 where
  pub fate : Fate
  pub fates : new.fates.items ≡ old.fates.items ++ fate ∷ []
  pub is : fate_of q fate ≡ stay_in next
  pub mail : map (λ m. letter_of m) new.mail ≡ map (λ m. letter_of m) old.mail ++ letters_in next
  pub replies : new.replies ≡ old.replies ++ puts_of (replies_in next)

-- this becomes of these open requests, each of which has a fate
pub record AreNext (next : Open → Next) (requests : List Open) (all : AllNext) : Type 0 where
  pub count : length all.fates.items ≡ length requests
  pub mail : map (λ m. letter_of m) all.mail ≡ flat_map (λ q. letters_in (next q)) requests
  pub replies : all.replies ≡ puts_of (flat_map (λ q. replies_in (next q)) requests)
  pub fates : fated requests all.fates.items ≡ flat_map (λ q. stay_in (next q)) requests
