-- Changes of a request in its place.
use Rattle.std.proofs.Common.{◌≡◌, refl, ap, sym, ◌∙◌, ℕ, suc, ◌≤◌, ◌<◌, List, [], ◌∷◌, map, length, get_or, Bool, true, false, ◌==◌, if◌then◌else◌, arith, nat_lt}
use Rattle.std.proofs.lemmas.Bool.{eqb-true, ltb-true}
use Rattle.std.specs.Box.{with_value}
use Rattle.std.specs.Prelude.{Some, None, zero}
use Rattle.std.specs.List.{slice_set}
use Rattle.bson_model.proofs.Booleans.{both}
use Rattle.node_model.specs.States.{Open, open_with, replaced}
use Rattle.router_requests.specs.declared.work.OpenRequest.{OpenRequest}
use Rattle.router_requests.specs.Order.{Held, rises, place_of}
use Rattle.router_requests.specs.Works.{open_view}
use Rattle.router_requests.proofs.Places.{and, not_same}

-- one is put in the place of one with the same count
rises_set : (least greatest : ℕ) (items : List Held) (p : Held) → rises least greatest items ≡ true → rises least greatest (slice_set items (place_of p.value.count items) p) ≡ true
rises_set least greatest [] p e = e
rises_set least greatest (q ∷ items) p e =
    let h = both (nat_lt least q.value.count) (rises q.value.count greatest items) e in by_hit (q.value.count == p.value.count) refl h.0 (rises_set q.value.count greatest items p h.1) where
      by_hit : (same : Bool) → (q.value.count == p.value.count) ≡ same → nat_lt least q.value.count ≡ true → rises q.value.count greatest (slice_set items (place_of p.value.count items) p) ≡ true
          → rises least greatest (slice_set (q ∷ items) (if same then 0 else suc (place_of p.value.count items)) p) ≡ true
      by_hit true hit above next = rw (sym (eqb-true q.value.count p.value.count hit)) e
      by_hit false hit above next = and above next

module _ (router life : ℕ) where
  replaced_none : (next : Open) (least greatest : ℕ) (items : List Held) → rises least greatest items ≡ true → next.count ≤ least
      → replaced next (map (λ q. open_view router life q.value) items) ≡ map (λ q. open_view router life q.value) items
  replaced_none next least greatest [] e low = refl
  replaced_none next least greatest (q ∷ items) e low =
      let p = both (nat_lt least q.value.count) (rises q.value.count greatest items) e in
      let above = ltb-true least q.value.count p.0 in
      rw (not_same router life next.count q.value.count least low above) (ap (λ l. open_view router life q.value ∷ l) (replaced_none next q.value.count greatest items p.1 (omega (arith, low, above))))

  replaced_at : (new : Held) (least greatest : ℕ) (items : List Held) → rises least greatest items ≡ true
      → map (λ q. open_view router life q.value) (slice_set items (place_of new.value.count items) new) ≡ replaced (open_view router life new.value) (map (λ q. open_view router life q.value) items)
  replaced_at new least greatest [] e = refl
  replaced_at new least greatest (q ∷ items) e =
      let p = both (nat_lt least q.value.count) (rises q.value.count greatest items) e in by_hit (q.value.count == new.value.count) refl p.1 (replaced_at new q.value.count greatest items p.1) where
        by_hit : (same : Bool) → (q.value.count == new.value.count) ≡ same → rises q.value.count greatest items ≡ true
            → map (λ q. open_view router life q.value) (slice_set items (place_of new.value.count items) new) ≡ replaced (open_view router life new.value) (map (λ q. open_view router life q.value) items)
            → map (λ q. open_view router life q.value) (slice_set (q ∷ items) (if same then 0 else suc (place_of new.value.count items)) new)
            ≡ replaced (open_view router life new.value) (map (λ q. open_view router life q.value) (q ∷ items))
        by_hit true hit rest next = rw hit (ap (λ l. open_view router life new.value ∷ l) (sym (replaced_none (open_view router life new.value) q.value.count greatest items rest (omega (arith, eqb-true q.value.count new.value.count hit)))))
        by_hit false hit rest next = rw hit (ap (λ l. open_view router life q.value ∷ l) next)

  found_at : (count : ℕ) (old : Held) (items : List Held) → place_of count items < length items → old ≡ get_or items (place_of count items) old
      → (open_with count (map (λ q. open_view router life q.value) items) ≡ Some (open_view router life old.value)) × (old.value.count ≡ count)
  found_at count old [] inside here = absurd (omega (arith, inside))
  found_at count old (q ∷ items) inside here = by_hit (q.value.count == count) refl (found_at count old items) inside here where
    by_hit : (same : Bool) → (q.value.count == count) ≡ same
        → (place_of count items < length items → old ≡ get_or items (place_of count items) old → (open_with count (map (λ q. open_view router life q.value) items) ≡ Some (open_view router life old.value)) × (old.value.count ≡ count))
        → (if same then 0 else suc (place_of count items)) < suc (length items) → old ≡ get_or (q ∷ items) (if same then 0 else suc (place_of count items)) old
        → (open_with count (map (λ q. open_view router life q.value) (q ∷ items)) ≡ Some (open_view router life old.value)) × (old.value.count ≡ count)
    by_hit true hit next low at = (rw hit (ap (λ (x : Held). Some (open_view router life x.value)) (sym at)), ap (λ (x : Held). x.value.count) at ∙ eqb-true q.value.count count hit)
    by_hit false hit next low at = let found = next (omega (arith, low)) at in (rw hit found.0, found.1)

  -- where none has the count, none is there
  pub none_there : (count : ℕ) (items : List Held) → length items ≤ place_of count items → open_with count (map (λ q. open_view router life q.value) items) ≡ None
  none_there count [] le = refl
  none_there count (q ∷ items) le = by_hit (q.value.count == count) refl (none_there count items) le where
    by_hit : (same : Bool) → (q.value.count == count) ≡ same → (length items ≤ place_of count items → open_with count (map (λ q. open_view router life q.value) items) ≡ None)
        → suc (length items) ≤ (if same then 0 else suc (place_of count items)) → open_with count (map (λ q. open_view router life q.value) (q ∷ items)) ≡ None
    by_hit true hit next low = absurd (omega (arith, low))
    by_hit false hit next low = rw hit (next (omega (arith, low)))

  pub not_there : (count : ℕ) (items : List Held) (q : Open) → length items ≤ place_of count items → open_with count (map (λ q. open_view router life q.value) items) ≡ Some q → ⊥
  not_there count items q le found = cc (sym (none_there count items le) ∙ found)

  -- the one that was there
  pub was_there : (count place : ℕ) (items : List Held) (old : Held) (was : OpenRequest) (q : Open) → place ≡ place_of count items → place < length items → old ≡ get_or items place old
      → was ≡ old.value → open_with count (map (λ q. open_view router life q.value) items) ≡ Some q → open_view router life was ≡ q
  was_there count place items old was q at inside here is found =
      let there = found_at count old items (rw (sym at) inside) (rw at at here) in
      let same : open_view router life old.value ≡ q = cc (sym there.0 ∙ found) in ap (λ (x : OpenRequest). open_view router life x) is ∙ same

  pub is_found : (count place : ℕ) (items : List Held) (old : Held) (was : OpenRequest) → place ≡ place_of count items → place < length items → old ≡ get_or items place old → was ≡ old.value
      → Some (open_view router life was) ≡ open_with count (map (λ q. open_view router life q.value) items)
  is_found count place items old was at inside here is =
      let there = found_at count old items (rw (sym at) inside) (rw at at here) in ap (λ (x : OpenRequest). Some (open_view router life x)) is ∙ sym there.0

  -- another with its count in its place, in the same box
  pub is_put : (count taken place : ℕ) (items : List Held) (old : Held) (was new : OpenRequest) → rises 0 taken items ≡ true → place ≡ place_of count items → place < length items
      → old ≡ get_or items place old → was ≡ old.value → new.count ≡ was.count
      → map (λ q. open_view router life q.value) (slice_set items place (with_value old new)) ≡ replaced (open_view router life new) (map (λ q. open_view router life q.value) items)
  is_put count taken place items old was new e at inside here is same =
      let there = found_at count old items (rw (sym at) inside) (rw at at here) in
      let its : new.count ≡ count = same ∙ ap (λ (x : OpenRequest). x.count) is ∙ there.1 in
      let stands : place ≡ place_of new.count items = rw its at in
      rw stands (replaced_at (with_value old new) 0 taken items e)

pub rises_put : (count taken place : ℕ) (items : List Held) (old : Held) (was new : OpenRequest) → rises 0 taken items ≡ true → place ≡ place_of count items → place < length items
    → old ≡ get_or items place old → was ≡ old.value → new.count ≡ was.count → rises 0 taken (slice_set items place (with_value old new)) ≡ true
rises_put count taken place items old was new e at inside here is same =
    let there = found_at 0 0 count old items (rw (sym at) inside) (rw at at here) in
    let its : new.count ≡ count = same ∙ ap (λ (x : OpenRequest). x.count) is ∙ there.1 in
    let stands : place ≡ place_of new.count items = rw its at in
    rw stands (rises_set 0 taken items (with_value old new) e)

-- one is put at a place, with the count of the one there
pub rises_at : (least greatest place : ℕ) (items : List Held) (old : Held) (was new : OpenRequest) → rises least greatest items ≡ true → place < length items
    → old ≡ get_or items place old → was ≡ old.value → new.count ≡ was.count → rises least greatest (slice_set items place (with_value old new)) ≡ true
rises_at least greatest place [] old was new e inside here is same = absurd (omega (arith, inside))
rises_at least greatest zero (q ∷ items) old was new e inside here is same =
    let count : new.count ≡ q.value.count = same ∙ ap (λ (x : OpenRequest). x.count) is ∙ ap (λ (x : Held). x.value.count) here in rw count e
rises_at least greatest (suc place) (q ∷ items) old was new e inside here is same =
    let h = both (nat_lt least q.value.count) (rises q.value.count greatest items) e in and h.0 (rises_at q.value.count greatest place items old was new h.1 (omega (arith, inside)) here is same)
