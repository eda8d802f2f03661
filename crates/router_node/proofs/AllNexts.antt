-- What becomes of all open requests, one after another.
use Rattle.std.proofs.Common.{◌≡◌, refl, ap, sym, subst, ◌∙◌, ℕ, zero, suc, ◌+◌, ◌<◌, ◌≤◌, List, [], ◌∷◌, ◌++◌, length, get_or, map, take, arith, add-one, append_assoc, append-nil, take-suc}
use Rattle.std.proofs.lemmas.Grind.{flat_map-append}
use Rattle.std.proofs.lemmas.List.{length-append, map_push}
use Rattle.std.specs.List.{flat_map}
use Rattle.node_model.specs.Letters.{Letter}
use Rattle.node_model.specs.RouterNext.{Next, letters_in, replies_in, stay_in}
use Rattle.node_model.specs.States.{Open}
use Rattle.node_traits.specs.Effects.{puts_of}
use Rattle.node_traits.specs.declared.outputs.ToLink.{ToLink}
use Rattle.protocol_model.specs.Messages.{letter_of}
use Rattle.protocol_model.specs.declared.message.Message.{Message}
use Rattle.router_requests.specs.Fates.{fate_of, fated}
use Rattle.router_requests.specs.declared.fates.Fate.{Fate}
use Rattle.router_node.specs.AllNext.{Adds, AreNext}
use Rattle.router_node.specs.declared.all_next.AllNext.{AllNext}
use Rattle.router_node.proofs.Puts.{puts_append}

pub none_next : (next : Open → Next) (requests : List Open) (l : AllNext) → requests ≡ [] → l.fates.items ≡ [] → l.mail ≡ [] → l.replies ≡ [] → AreNext next requests l
none_next next requests l none no_fates no_mail no_replies = record {
  count = ap (λ (fs : List Fate). length fs) no_fates ∙ sym (ap (λ (qs : List Open). length qs) none);
  mail = ap (λ (ms : List Message). map (λ m. letter_of m) ms) no_mail ∙ sym (ap (λ (qs : List Open). flat_map (λ q. letters_in (next q)) qs) none);
  replies = no_replies ∙ sym (ap (λ (qs : List Open). puts_of (flat_map (λ q. replies_in (next q)) qs)) none);
  fates = ap (λ (fs : List Fate). fated requests fs) no_fates ∙ ap (λ (qs : List Open). fated qs []) none ∙ sym (ap (λ (qs : List Open). flat_map (λ q. stay_in (next q)) qs) none);
}

-- one request more, with its fate
fated_push : (requests : List Open) (q : Open) (fates : List Fate) (f : Fate) → length fates ≡ length requests → fated (requests ++ q ∷ []) (fates ++ f ∷ []) ≡ fated requests fates ++ fate_of q f
fated_push [] q [] f same = append-nil (fate_of q f)
fated_push [] q (g ∷ fates) f same = absurd (omega (arith, same))
fated_push (p ∷ requests) q [] f same = absurd (omega (arith, same))
fated_push (p ∷ requests) q (g ∷ fates) f same =
    ap (λ (l : List Open). fate_of p g ++ l) (fated_push requests q fates f (omega (arith, same))) ∙ sym (append_assoc (fate_of p g) (fated requests fates) (fate_of q f))

-- what each of them gives
one_more : {A : Type 0} (f : Open → List A) (requests : List Open) (q : Open) → flat_map f (requests ++ q ∷ []) ≡ flat_map f requests ++ f q
one_more {A} f requests q = flat_map-append f requests (q ∷ []) ∙ ap (λ (l : List A). flat_map f requests ++ l) (append-nil (f q))

more_next : (next : Open → Next) (requests : List Open) (q : Open) (old new : AllNext) → AreNext next requests old → Adds q (next q) old new → AreNext next (requests ++ q ∷ []) new
more_next next requests q old new before adds = record {
  count = ap (λ (fs : List Fate). length fs) adds.fates ∙ omega (arith, length-append old.fates.items (adds.fate ∷ []), length-append requests (q ∷ []), before.count);
  mail = adds.mail ∙ ap (λ (ls : List Letter). ls ++ letters_in (next q)) before.mail ∙ sym (one_more (λ p. letters_in (next p)) requests q);
  replies = adds.replies ∙ ap (λ (rs : List ToLink). rs ++ puts_of (replies_in (next q))) before.replies
      ∙ sym (puts_append (flat_map (λ p. replies_in (next p)) requests) (replies_in (next q)))
      ∙ sym (ap puts_of (one_more (λ p. replies_in (next p)) requests q));
  fates = ap (λ (fs : List Fate). fated (requests ++ q ∷ []) fs) adds.fates
      ∙ fated_push requests q old.fates.items adds.fate before.count
      ∙ ap (λ (qs : List Open). qs ++ fate_of q adds.fate) before.fates
      ∙ ap (λ (qs : List Open). flat_map (λ p. stay_in (next p)) requests ++ qs) adds.is
      ∙ sym (one_more (λ p. stay_in (next p)) requests q);
}

-- the first requests of a list
module _ {X : Type 0} (meant : X → Open) (next : Open → Next) (xs : List X) where
  pub turn_next : (i : ℕ) (x : X) (old new : AllNext) → i < length xs → x ≡ get_or xs i x → AreNext next (map meant (take i xs)) old → Adds (meant x) (next (meant x)) old new
      → AreNext next (map meant (take (i + 1) xs)) new
  turn_next i x old new inside here before adds =
      let cut : take (i + 1) xs ≡ take i xs ++ x ∷ [] = rw add-one (take-suc xs i x inside ∙ ap (λ (y : X). take i xs ++ y ∷ []) (sym here)) in
      subst (λ (qs : List Open). AreNext next qs new) (sym (ap (λ (l : List X). map meant l) cut ∙ map_push meant (take i xs) x))
      (more_next next (map meant (take i xs)) (meant x) old new before adds)

  -- where what becomes of the next one was found
  pub turn_found : (i : ℕ) (x : X) (old new : AllNext) (found : Next) → i < length xs → x ≡ get_or xs i x → AreNext next (map meant (take i xs)) old → next (meant x) ≡ found → Adds (meant x) found old new
      → AreNext next (map meant (take (i + 1) xs)) new
  turn_found i x old new found inside here before is adds = turn_next i x old new inside here before (subst (λ (n : Next). Adds (meant x) n old new) (sym is) adds)

  take_all : (i : ℕ) (ys : List X) → length ys ≤ i → take i ys ≡ ys
  take_all zero [] past = refl
  take_all (suc i) [] past = refl
  take_all zero (y ∷ ys) past = absurd (omega (arith, past))
  take_all (suc i) (y ∷ ys) past = ap (λ (l : List X). y ∷ l) (take_all i ys (omega (arith, past)))

  -- all of them
  pub all_next : (i : ℕ) (l : AllNext) → length xs ≤ i → AreNext next (map meant (take i xs)) l → AreNext next (map meant xs) l
  all_next i l past are = subst (λ (ys : List X). AreNext next (map meant ys) l) (take_all i xs past) are
