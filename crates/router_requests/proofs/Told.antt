-- Which shards have not returned their time.
use Rattle.std.proofs.Common.{◌≡◌, ◌≢◌, refl, ap, sym, ◌∙◌, ℕ, suc, ◌+◌, ◌<◌, List, [], ◌∷◌, ◌++◌, map, Bool, true, false, ◌==◌, if◌then◌else◌, arith, append-nil}
use Rattle.std.specs.Prelude.{zero, not, ◌||◌}
use Rattle.std.specs.List.{list_any}
use Rattle.std.proofs.lemmas.List.Elements.{filter-append}
use Rattle.std.proofs.lemmas.List.{map-append}
use Rattle.cluster_base.specs.declared.identity.NodeId.{NodeId}
use Rattle.node_model.specs.Letters.{Body, Letter}
use Rattle.node_model.specs.RouterRequests.{says, untold, places_from}
use Rattle.node_model.specs.States.{Router}
use Rattle.router_requests.specs.Works.{numbers_of}

pub is_told : (s : ℕ) (told : List NodeId) → list_any (λ (n : NodeId). n.0 == s) told ≡ list_any (λ t. t == s) (numbers_of told)
is_told s [] = refl
is_told s (n ∷ told) = ap (λ (b : Bool). (n.0 == s) || b) (is_told s told)

places_more : (first n : ℕ) → places_from first (suc n) ≡ places_from first n ++ (first + n) ∷ []
places_more first zero = ap (λ (s : ℕ). s ∷ []) (omega arith)
places_more first (suc n) = ap (λ (l : List ℕ). first ∷ l) (places_more (first + 1) n ∙ ap (λ (s : ℕ). places_from (first + 1) n ++ s ∷ []) (omega arith))

untold_more : (told : List ℕ) (n : ℕ) → untold told (places_from 1 (n + 1)) ≡ untold told (places_from 1 n) ++ untold told ((1 + n) ∷ [])
untold_more told n =
    ap (λ (k : ℕ). untold told (places_from 1 k)) (let e : n + 1 ≡ suc n = omega arith in e)
    ∙ ap (λ (l : List ℕ). untold told l) (places_more 1 n)
    ∙ filter-append (λ s. not (list_any (λ t. t == s) told)) (places_from 1 n) ((1 + n) ∷ [])

-- one that returned it adds nothing
pub passed : (told : List ℕ) (n : ℕ) → list_any (λ t. t == (1 + n)) told ≡ true → untold told (places_from 1 n) ≡ [] → untold told (places_from 1 (n + 1)) ≡ []
passed told n is none =
    untold_more told n
    ∙ ap (λ (b : Bool). untold told (places_from 1 n) ++ (if not b then (1 + n) ∷ [] else [])) is
    ∙ append-nil (untold told (places_from 1 n)) ∙ none

-- the next shard has its turn
pub asked : (r : Router) (time : ℕ) (body : Body) (told : List ℕ) (n : ℕ) (before after : List Letter) → after ≡ before ++ map (λ s. says r s time body) (untold told ((1 + n) ∷ []))
    → before ≡ map (λ s. says r s time body) (untold told (places_from 1 n)) → after ≡ map (λ s. says r s time body) (untold told (places_from 1 (n + 1)))
asked r time body told n before after more is =
    more ∙ ap (λ (l : List Letter). l ++ map (λ s. says r s time body) (untold told ((1 + n) ∷ []))) is
    ∙ sym (map-append (λ s. says r s time body) (untold told (places_from 1 n)) (untold told ((1 + n) ∷ [])))
    ∙ ap (λ (l : List ℕ). map (λ s. says r s time body) l) (sym (untold_more told n))

-- where one has not, not all have
some_left : (told : List ℕ) (first n i s : ℕ) → i < n → s ≡ first + i → list_any (λ t. t == s) told ≡ false → untold told (places_from first n) ≢ []
some_left told first zero i s low here is none = absurd (omega (arith, low))
some_left told first (suc n) zero s low here is none =
    let same : s ≡ first = omega (arith, here) in
    let first_is : list_any (λ t. t == first) told ≡ false = ap (λ (k : ℕ). list_any (λ t. t == k) told) (sym same) ∙ is in
    cc (sym (ap (λ (b : Bool). if not b then first ∷ untold told (places_from (first + 1) n) else untold told (places_from (first + 1) n)) first_is) ∙ none)
some_left told first (suc n) (suc i) s low here is none =
    by_first (some_left told (first + 1) n i s (omega (arith, low)) (omega (arith, here)) is) (list_any (λ t. t == first) told) none where
      by_first : (untold told (places_from (first + 1) n) ≢ []) → (b : Bool) → (if not b then first ∷ untold told (places_from (first + 1) n) else untold told (places_from (first + 1) n)) ≡ [] → ⊥
      by_first rest true e = rest e
      by_first rest false e = absurd (cc e)

pub not_all : (told : List ℕ) (n i : ℕ) → i < n → list_any (λ t. t == (1 + i)) told ≡ false → untold told (places_from 1 n) ≢ []
not_all told n i low is = some_left told 1 n i (1 + i) low refl is
