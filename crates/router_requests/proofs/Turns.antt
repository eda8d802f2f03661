-- The fates of open requests, one after the other.
use Rattle.std.proofs.Common.{◌≡◌, refl, ap, sym, subst, ◌∙◌, ℕ, suc, ◌+◌, ◌≤◌, ◌<◌, List, [], ◌∷◌, ◌++◌, take, map, length, get_or, arith, add-one, append_assoc, append-nil, take-suc}
use Rattle.std.proofs.lemmas.Grind.{flat_map-append}
use Rattle.std.proofs.lemmas.List.{length-append, length-map, length-take-le, map_push}
use Rattle.std.specs.Prelude.{zero}
use Rattle.std.specs.List.{flat_map, slice_set, remove}
use Rattle.node_model.specs.States.{Open}
use Rattle.router_requests.specs.Fates.{fate_of, fated}
use Rattle.router_requests.specs.Turns.{settled}
use Rattle.router_requests.specs.declared.fates.Fate.{Fate}
use Rattle.router_requests.specs.declared.fates.Fate.TheVariants.{Leaves}

-- no fate changes nothing
no_fates : (requests : List Open) → fated requests [] ≡ requests
no_fates [] = refl
no_fates (q ∷ requests) = refl

module _ {X : Type 0} (meant : X → Open) where
  -- it becomes another
  pub settled_put : (items : List X) (place : ℕ) (x y : X) (f : Fate) (fates : List Fate) → place < length items → x ≡ get_or items place x → fate_of (meant x) f ≡ meant y ∷ []
      → settled meant (suc place) (slice_set items place y) fates ≡ settled meant place items (f ∷ fates)
  settled_put [] place x y f fates inside here one = absurd (omega (arith, inside))
  settled_put (z ∷ items) zero x y f fates inside here one =
      ap (λ (l : List Open). l ++ fated (map meant items) fates) (sym (ap (λ (w : X). fate_of (meant w) f) (sym here) ∙ one))
  settled_put (z ∷ items) (suc place) x y f fates inside here one =
      ap (λ (l : List Open). meant z ∷ l) (settled_put items place x y f fates (omega (arith, inside)) here one)

  -- it leaves
  pub settled_leaves : (items : List X) (place : ℕ) (fates : List Fate) → place < length items → settled meant place (remove items place) fates ≡ settled meant place items (Leaves ∷ fates)
  settled_leaves [] place fates inside = absurd (omega (arith, inside))
  settled_leaves (z ∷ items) zero fates inside = refl
  settled_leaves (z ∷ items) (suc place) fates inside = ap (λ (l : List Open). meant z ∷ l) (settled_leaves items place fates (omega (arith, inside)))

  -- after the last request a fate changes nothing
  pub settled_past : (items : List X) (place : ℕ) (fates more : List Fate) → length items ≤ place → settled meant place items fates ≡ settled meant place items more
  settled_past [] zero fates more past = refl
  settled_past [] (suc place) fates more past = refl
  settled_past (z ∷ items) zero fates more past = absurd (omega (arith, past))
  settled_past (z ∷ items) (suc place) fates more past = ap (λ (l : List Open). meant z ∷ l) (settled_past items place fates more (omega (arith, past)))

  -- after the last fate all are settled
  pub settled_all : (items : List X) (place : ℕ) → settled meant place items [] ≡ map meant items
  settled_all [] zero = refl
  settled_all [] (suc place) = refl
  settled_all (z ∷ items) zero = refl
  settled_all (z ∷ items) (suc place) = ap (λ (l : List Open). meant z ∷ l) (settled_all items place)

-- one request more, with its fate
fated_push : (requests : List Open) (q : Open) (fates : List Fate) (f : Fate) → length fates ≡ length requests → fated (requests ++ q ∷ []) (fates ++ f ∷ []) ≡ fated requests fates ++ fate_of q f
fated_push [] q [] f same = append-nil (fate_of q f)
fated_push [] q (g ∷ fates) f same = absurd (omega (arith, same))
fated_push (p ∷ requests) q [] f same = absurd (omega (arith, same))
fated_push (p ∷ requests) q (g ∷ fates) f same =
    ap (λ (l : List Open). fate_of p g ++ l) (fated_push requests q fates f (omega (arith, same))) ∙ sym (append_assoc (fate_of p g) (fated requests fates) (fate_of q f))

pub more_fates : {X : Type 0} (meant : X → Open) (becomes : Open → List Open) (xs : List X) (i : ℕ) (x : X) (fates : List Fate) (f : Fate) → i < length xs → x ≡ get_or xs i x → length fates ≡ i
    → fated (map meant (take i xs)) fates ≡ flat_map becomes (map meant (take i xs)) → fate_of (meant x) f ≡ becomes (meant x)
    → fated (map meant (take (i + 1) xs)) (fates ++ f ∷ []) ≡ flat_map becomes (map meant (take (i + 1) xs))
more_fates {X} meant becomes xs i x fates f inside here count before one =
    let cut : take (i + 1) xs ≡ take i xs ++ x ∷ [] = rw add-one (take-suc xs i x inside ∙ ap (λ (y : X). take i xs ++ y ∷ []) (sym here)) in
    let front : map meant (take (i + 1) xs) ≡ map meant (take i xs) ++ meant x ∷ [] = ap (λ (l : List X). map meant l) cut ∙ map_push meant (take i xs) x in
    let many : length fates ≡ length (map meant (take i xs)) = count ∙ sym (length-map (take i xs) meant ∙ length-take-le i xs (omega (arith, inside))) in
    ap (λ (l : List Open). fated l (fates ++ f ∷ [])) front
    ∙ fated_push (map meant (take i xs)) (meant x) fates f many
    ∙ ap (λ (l : List Open). l ++ fate_of (meant x) f) before
    ∙ ap (λ (l : List Open). flat_map becomes (map meant (take i xs)) ++ l) (one ∙ sym (append-nil (becomes (meant x))))
    ∙ sym (flat_map-append becomes (map meant (take i xs)) (meant x ∷ []))
    ∙ ap (λ (l : List Open). flat_map becomes l) (sym front)

take_all : {X : Type 0} (i : ℕ) (xs : List X) → length xs ≤ i → take i xs ≡ xs
take_all zero [] past = refl
take_all (suc i) [] past = refl
take_all zero (x ∷ xs) past = absurd (omega (arith, past))
take_all {X} (suc i) (x ∷ xs) past = ap (λ (l : List X). x ∷ l) (take_all i xs (omega (arith, past)))

-- after the last request
pub all_fates : {X : Type 0} (meant : X → Open) (becomes : Open → List Open) (xs : List X) (i : ℕ) (fates : List Fate) → length xs ≤ i
    → fated (map meant (take i xs)) fates ≡ flat_map becomes (map meant (take i xs)) → fated (map meant xs) fates ≡ flat_map becomes (map meant xs)
all_fates {X} meant becomes xs i fates past is =
    subst (λ (l : List X). fated (map meant l) fates ≡ flat_map becomes (map meant l)) (take_all i xs past) is

pub one_more : (fates : List Fate) (f : Fate) (n : ℕ) (more : List Fate) → more ≡ fates ++ f ∷ [] → length fates ≡ n → length more ≡ n + 1
one_more fates f n more is count = ap (λ (l : List Fate). length l) is ∙ omega (arith, length-append fates (f ∷ []), count)

pub none_left : {X : Type 0} (l : List X) → length l ≡ 0 → l ≡ []
none_left [] is = refl
none_left (x ∷ l) is = absurd (omega (arith, is))
