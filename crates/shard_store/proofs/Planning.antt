-- Plans with one more entry.
use Rattle.std.proofs.Common.{◌≡◌, ◌<◌, ◌≤◌, ◌+◌, ℕ, List, [], ◌∷◌, ◌++◌, refl, sym, ap, subst, ◌∙◌, arith}
use Rattle.std.specs.Prelude.{Bool, true, false, ◌||◌, Option, Some, None, is_some, if◌then◌else◌}
use Rattle.std.specs.BTreeMap.{get_by, is_at}
use Rattle.std.specs.List.{AllByRecursion, list_any}
use Rattle.bson_values.specs.Tree.{Datum}
use Rattle.value_compare.specs.Order.{order, same_value}
use Rattle.node_model.specs.History.{Entry}
use Rattle.history_model.proofs.Lists.{all_push, all_weaken}
use Rattle.shard_store.proofs.Lists.{any_push}
use Rattle.shard_store.specs.Plans.{IsNext, IsBehind, AreInTurn, IsOf, IsPlan}
use Rattle.shard_store.specs.declared.plan.EntryPlan.{EntryPlan}
use Rattle.shard_store.specs.declared.entry.Planned.{Planned}

turn_push : (ps : List Planned) (q : Planned) → AreInTurn ps → AllByRecursion (λ (p : Planned). IsBehind p q) ps → AreInTurn (ps ++ q ∷ [])
turn_push [] q turn behind = (tt, tt)
turn_push (p ∷ ps) q turn behind = (all_push (IsBehind p) ps q turn.0 behind.0, turn_push ps q turn.1 behind.1)

neither : (a b : Bool) → (a || b) ≡ false → (a ≡ false) × (b ≡ false)
neither true b e = absurd cc
neither false b e = (refl, e)

behinds : (ps : List Planned) (q : Planned) (last free : ℕ) → last < q.time.0 → free ≤ q.statement.index →
    AllByRecursion (λ (p : Planned). p.time.0 ≤ last) ps → AllByRecursion (λ (p : Planned). p.statement.index < free) ps →
    list_any (λ (p : Planned). same_value p.key q.key) ps ≡ false → AllByRecursion (λ (p : Planned). IsBehind p q) ps
behinds [] q last free later index past indexes none = tt
behinds (p ∷ ps) q last free later index past indexes none =
    let no = neither (same_value p.key q.key) (list_any (λ (p : Planned). same_value p.key q.key) ps) none in (
      record { later = omega (arith, past.0, later); index = omega (arith, indexes.0, index); key = no.0 },
      behinds ps q last free later index past.1 indexes.1 no.1,
    )

not_empty : (ps : List Planned) (q : Planned) → ps ++ q ∷ [] ≡ [] → ⊥
not_empty [] q e = cc
not_empty (p ∷ ps) q e = cc

taken_by : (same : Bool) (was : Option (Unit {0})) → is_some (if same then Some tt else was) ≡ (is_some was || same)
taken_by true None = refl
taken_by true (Some u) = refl
taken_by false None = refl
taken_by false (Some u) = refl

pub pushed : (entries : List Entry) (last : ℕ) (namespace : List ℕ) (old new : EntryPlan) (q : Planned) → IsPlan entries last namespace old →
    IsNext entries last namespace q → IsOf old.number old.id q → old.last.0 < q.time.0 → old.free ≤ q.statement.index →
    list_any (λ (p : Planned). same_value p.key q.key) old.planned.items ≡ false → new.number ≡ old.number → new.id ≡ old.id → new.last ≡ q.time →
    new.free ≡ q.statement.index + 1 → new.planned.items ≡ old.planned.items ++ q ∷ [] →
    ((k : Datum) → get_by (order k) new.keys ≡ (if is_at (order q.key) k then Some tt else get_by (order k) old.keys)) →
    IsPlan entries last namespace new
pushed entries last namespace old new q plan next own later index none number id time free items keys =
    let ps = old.planned.items in
    let time_is : new.last.0 ≡ q.time.0 = ap (λ t. t.0) time in
    record {
      next = record {
        each = subst (λ (l : List Planned). AllByRecursion (IsNext entries last namespace) l) (sym items) (all_push (IsNext entries last namespace) ps q plan.next.each next);
        turn = subst (λ (l : List Planned). AreInTurn l) (sym items)
            (turn_push ps q plan.next.turn (behinds ps q old.last.0 old.free later index plan.past plan.indexes none));
        own = rw (number, id, items) (all_push (IsOf old.number old.id) ps q plan.next.own own);
      };
      before = omega (arith, plan.before, later, time_is);
      past = rw items (all_push (λ (p : Planned). p.time.0 ≤ new.last.0) ps q
          (all_weaken (λ (p : Planned). p.time.0 ≤ old.last.0) (λ (p : Planned). p.time.0 ≤ new.last.0) ps (λ p le. omega (arith, le, later, time_is)) plan.past)
          (omega (arith, time_is)));
      indexes = rw items (all_push (λ (p : Planned). p.statement.index < new.free) ps q
          (all_weaken (λ (p : Planned). p.statement.index < old.free) (λ (p : Planned). p.statement.index < new.free) ps (λ p lt. omega (arith, lt, index, free)) plan.indexes)
          (omega (arith, free)));
      taken = λ k.
          ap (λ (o : Option (Unit {0})). is_some o) (keys k) ∙ taken_by (is_at (order q.key) k) (get_by (order k) old.keys)
          ∙ ap (λ (b : Bool). b || same_value q.key k) (plan.taken k) ∙ sym (any_push (λ (p : Planned). same_value p.key k) ps q)
          ∙ ap (λ (l : List Planned). list_any (λ (p : Planned). same_value p.key k) l) (sym items);
      empty = λ e. absurd (not_empty ps q (sym items ∙ e));
    }
