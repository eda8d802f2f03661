-- Where requests are in a list whose counts rise.
use Rattle.std.proofs.Common.{◌≡◌, refl, ap, sym, ℕ, suc, ◌+◌, ◌≤◌, ◌<◌, List, [], ◌∷◌, ◌++◌, map, length, Bool, true, false, ◌&&◌, ◌==◌, if◌then◌else◌, arith, nat_lt}
use Rattle.std.proofs.lemmas.Bool.{eqb-true, le-leb, leb-true, ltb-true, lt-ltb}
use Rattle.std.specs.Prelude.{zero}
use Rattle.std.specs.List.{remove}
use Rattle.bson_model.proofs.Booleans.{both}
use Rattle.node_model.specs.States.{without}
use Rattle.router_requests.specs.Order.{Held, rises, place_of}
use Rattle.router_requests.specs.Works.{open_view}

pub and : {a b : Bool} → a ≡ true → b ≡ true → (a && b) ≡ true
and e f = rw (e, f) refl

-- counts that end at `greatest` end at more
pub rises_more : (least greatest more : ℕ) (items : List Held) → rises least greatest items ≡ true → greatest ≤ more → rises least more items ≡ true
rises_more least greatest more [] e le = le-leb least more (omega (arith, leb-true least greatest e, le))
rises_more least greatest more (q ∷ items) e le =
    let p = both (nat_lt least q.value.count) (rises q.value.count greatest items) e in and p.0 (rises_more q.value.count greatest more items p.1 le)

-- counts that begin above `least` begin above less
pub rises_less : (less least greatest : ℕ) (items : List Held) → less ≤ least → rises least greatest items ≡ true → rises less greatest items ≡ true
rises_less less least greatest [] le e = le-leb less greatest (omega (arith, leb-true least greatest e, le))
rises_less less least greatest (q ∷ items) le e =
    let p = both (nat_lt least q.value.count) (rises q.value.count greatest items) e in and (lt-ltb less q.value.count (omega (arith, ltb-true least q.value.count p.0, le))) p.1

-- a request after the others
pub rises_pushed : (least greatest : ℕ) (items : List Held) (q : Held) → rises least greatest items ≡ true → q.value.count ≡ greatest + 1
    → rises least q.value.count (items ++ q ∷ []) ≡ true
rises_pushed least greatest [] q e next = and (lt-ltb least q.value.count (omega (arith, leb-true least greatest e, next))) (le-leb q.value.count q.value.count (omega arith))
rises_pushed least greatest (p ∷ items) q e next =
    let h = both (nat_lt least p.value.count) (rises p.value.count greatest items) e in and h.0 (rises_pushed p.value.count greatest items q h.1 next)

-- a request is removed
pub rises_removed : (least greatest place : ℕ) (items : List Held) → rises least greatest items ≡ true → rises least greatest (remove items place) ≡ true
rises_removed least greatest place [] e = removed_nothing place where
  removed_nothing : (n : ℕ) → rises least greatest (remove [] n) ≡ true
  removed_nothing zero = e
  removed_nothing (suc n) = e
rises_removed least greatest zero (q ∷ items) e =
    let p = both (nat_lt least q.value.count) (rises q.value.count greatest items) e in rises_less least q.value.count greatest items (omega (arith, ltb-true least q.value.count p.0)) p.1
rises_removed least greatest (suc place) (q ∷ items) e =
    let p = both (nat_lt least q.value.count) (rises q.value.count greatest items) e in and p.0 (rises_removed q.value.count greatest place items p.1)

module _ (router life count : ℕ) where
  pub not_same : (a least : ℕ) → count ≤ least → least < a → (a == count) ≡ false
  not_same a least low above = by_test (a == count) refl where
    by_test : (same : Bool) → (a == count) ≡ same → same ≡ false
    by_test true e = absurd (omega (arith, eqb-true a count e, low, above))
    by_test false e = refl

  -- after greater counts there is none to remove
  without_none : (least greatest : ℕ) (items : List Held) → rises least greatest items ≡ true → count ≤ least → without count (map (λ q. open_view router life q.value) items) ≡ map (λ q. open_view router life q.value) items
  without_none least greatest [] e low = refl
  without_none least greatest (q ∷ items) e low =
      let p = both (nat_lt least q.value.count) (rises q.value.count greatest items) e in
      let above = ltb-true least q.value.count p.0 in
      rw (not_same q.value.count least low above) (ap (λ l. open_view router life q.value ∷ l) (without_none q.value.count greatest items p.1 (omega (arith, low, above))))

  -- taking out the one at its place, or none
  pub without_at : (least greatest : ℕ) (items : List Held) → rises least greatest items ≡ true → map (λ q. open_view router life q.value) (remove items (place_of count items)) ≡ without count (map (λ q. open_view router life q.value) items)
  without_at least greatest [] e = refl
  without_at least greatest (q ∷ items) e =
      by_hit (q.value.count == count) refl (without_at q.value.count greatest items (both (nat_lt least q.value.count) (rises q.value.count greatest items) e).1) where
        p : (nat_lt least q.value.count ≡ true) × (rises q.value.count greatest items ≡ true)
        p = both (nat_lt least q.value.count) (rises q.value.count greatest items) e

        by_hit : (same : Bool) → (q.value.count == count) ≡ same
            → map (λ q. open_view router life q.value) (remove items (place_of count items)) ≡ without count (map (λ q. open_view router life q.value) items)
            → map (λ q. open_view router life q.value) (remove (q ∷ items) (if same then 0 else suc (place_of count items)))
            ≡ (if same then without count (map (λ q. open_view router life q.value) items) else open_view router life q.value ∷ without count (map (λ q. open_view router life q.value) items))
        by_hit true hit next = sym (without_none q.value.count greatest items p.1 (omega (arith, eqb-true q.value.count count hit)))
        by_hit false hit next = ap (λ l. open_view router life q.value ∷ l) next

  -- where none has the count, none is removed
  pub none_out : (items : List Held) → length items ≤ place_of count items → without count (map (λ q. open_view router life q.value) items) ≡ map (λ q. open_view router life q.value) items
  none_out [] le = refl
  none_out (q ∷ items) le = by_hit (q.value.count == count) refl (none_out items) le where
    by_hit : (same : Bool) → (q.value.count == count) ≡ same
        → (length items ≤ place_of count items → without count (map (λ q. open_view router life q.value) items) ≡ map (λ q. open_view router life q.value) items)
        → suc (length items) ≤ (if same then 0 else suc (place_of count items)) → without count (map (λ q. open_view router life q.value) (q ∷ items)) ≡ map (λ q. open_view router life q.value) (q ∷ items)
    by_hit true hit next low = absurd (omega (arith, low))
    by_hit false hit next low = rw hit (ap (λ l. open_view router life q.value ∷ l) (next (omega (arith, low))))
