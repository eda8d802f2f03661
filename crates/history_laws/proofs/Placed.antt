-- The order of entries, and an entry placed among others.
use Rattle.std.proofs.Common.{◌≡◌, ◌≢◌, ◌⊎◌, inl, inr, List, [], ◌∷◌, refl, sym, ap, ◌∙◌, arith}
use Rattle.std.specs.Prelude.{Bool, true, false, ◌&&◌, ◌||◌, if◌then◌else◌, nat_lt, nat_eq, filter}
use Rattle.std.specs.List.{AllByRecursion}
use Rattle.std.proofs.lemmas.Bool.{ltb-true, ltb-false, lt-ltb, eqb-true, eq-eqb}
use Rattle.bson_model.proofs.Booleans.{both, is_false}
use Rattle.history_model.specs.History.{Entry, IsBefore}
use Rattle.history_model.proofs.Lists.{all_weaken, all_filter}
use Rattle.history_laws.specs.Merged.{precedes, placed, IsRising, IsOneMore}

either : (a b : Bool) → (a || b) ≡ true → (a ≡ true) ⊎ (b ≡ true)
either true b h = inl refl
either false b h = inr h

or_true : (a : Bool) → (a || true) ≡ true
or_true true = refl
or_true false = refl

pub precedes_before : (d e : Entry) → precedes d e ≡ true → IsBefore d e
precedes_before d e is = by_case (either (nat_lt d.time e.time) (nat_eq d.time e.time && nat_lt d.shard e.shard) is)
  where
    by_case : (nat_lt d.time e.time ≡ true) ⊎ ((nat_eq d.time e.time && nat_lt d.shard e.shard) ≡ true) → IsBefore d e
    by_case (inl less) = inl (ltb-true d.time e.time less)
    by_case (inr equal) =
        let p = both (nat_eq d.time e.time) (nat_lt d.shard e.shard) equal in
        inr (eqb-true d.time e.time p.0, ltb-true d.shard e.shard p.1)

pub before_precedes : (d e : Entry) → IsBefore d e → precedes d e ≡ true
before_precedes d e (inl less) = ap (λ (b : Bool). b || (nat_eq d.time e.time && nat_lt d.shard e.shard)) (lt-ltb d.time e.time less)
before_precedes d e (inr equal) =
    ap (λ (b : Bool). nat_lt d.time e.time || (b && nat_lt d.shard e.shard)) (eq-eqb d.time e.time equal.0)
    ∙ ap (λ (b : Bool). nat_lt d.time e.time || b) (lt-ltb d.shard e.shard equal.1)
    ∙ or_true (nat_lt d.time e.time)

pub one_way : (d e : Entry) → IsBefore d e → IsBefore e d → ⊥
one_way d e (inl p) (inl q) = omega arith
one_way d e (inl p) (inr q) = omega (arith, q.0)
one_way d e (inr p) (inl q) = omega (arith, p.0)
one_way d e (inr p) (inr q) = omega (arith, p.1, q.1)

pub never_after : (d e : Entry) → IsBefore d e → precedes e d ≡ false
never_after d e less = is_false (precedes e d) (λ other. one_way d e less (precedes_before e d other))

pub before_both : (a b c : Entry) → IsBefore a b → IsBefore b c → IsBefore a c
before_both a b c (inl p) (inl q) = inl (omega arith)
before_both a b c (inl p) (inr q) = inl (omega (arith, q.0))
before_both a b c (inr p) (inl q) = inl (omega (arith, p.0))
before_both a b c (inr p) (inr q) = inr (p.0 ∙ q.0, omega (arith, p.1, q.1))

-- one of the two comes before the other
abbrev pub AreOrdered : Entry → Entry → Type 0
AreOrdered d e = IsBefore d e ⊎ IsBefore e d

pub turned : (d e : Entry) → AreOrdered d e → AreOrdered e d
turned d e (inl less) = inr less
turned d e (inr more) = inl more

-- entries of two shards
pub two_shards : (d e : Entry) → e.shard ≢ d.shard → AreOrdered d e
two_shards d e other = by_tests (nat_lt d.time e.time) refl (nat_lt e.time d.time) refl (nat_lt d.shard e.shard) refl
  where
    by_tests : (earlier : Bool) → nat_lt d.time e.time ≡ earlier → (later : Bool) → nat_lt e.time d.time ≡ later → (less : Bool) →
        nat_lt d.shard e.shard ≡ less → AreOrdered d e
    by_tests true p later q less r = inl (inl (ltb-true d.time e.time p))
    by_tests false p true q less r = inr (inl (ltb-true e.time d.time q))
    by_tests false p false q true r = inl (inr (omega (arith, ltb-false d.time e.time p, ltb-false e.time d.time q), ltb-true d.shard e.shard r))
    by_tests false p false q false r =
        inr (inr (omega (arith, ltb-false d.time e.time p, ltb-false e.time d.time q), omega (arith, other, ltb-false d.shard e.shard r)))

pub after_it : (d e : Entry) → precedes d e ≡ false → AreOrdered e d → IsBefore e d
after_it d e is (inl less) = less
after_it d e is (inr more) = absurd (differ (precedes d e) is (before_precedes d e more))
  where
    differ : (b : Bool) → b ≡ false → b ≡ true → ⊥
    differ true p q = cc
    differ false p q = cc

pub all_placed : (P : Entry → Type 0) (e : Entry) (entries : List Entry) → P e → AllByRecursion P entries → AllByRecursion P (placed e entries)
all_placed P e [] one all = (one, tt)
all_placed P e (d ∷ later) one all = by_test (precedes d e) (all_placed P e later one all.1)
  where
    by_test : (first : Bool) → AllByRecursion P (placed e later) → AllByRecursion P (if first then d ∷ placed e later else e ∷ d ∷ later)
    by_test true rest = (all.0, rest)
    by_test false rest = (one, all)

pub rising_placed : (e : Entry) (entries : List Entry) → AllByRecursion (λ d. AreOrdered e d) entries → IsRising entries → IsRising (placed e entries)
rising_placed e [] ordered rising = (tt, tt)
rising_placed e (d ∷ later) ordered rising = by_test (precedes d e) refl (rising_placed e later ordered.1 rising.1)
  where
    by_test : (first : Bool) → precedes d e ≡ first → IsRising (placed e later) → IsRising (if first then d ∷ placed e later else e ∷ d ∷ later)
    by_test true is rest = (all_placed (λ (x : Entry). IsBefore d x) e later (precedes_before d e is) rising.0, rest)
    by_test false is rest =
        let less : IsBefore e d = after_it d e is ordered.0 in
        ((less, all_weaken (λ (x : Entry). IsBefore d x) (λ (x : Entry). IsBefore e x) later (λ x more. before_both e d x less more) rising.0), rising)

-- the others stay, with the entry among them
pub one_more_placed : (e : Entry) (entries : List Entry) → IsOneMore e entries (placed e entries)
one_more_placed e [] = ([], [], refl, refl)
one_more_placed e (d ∷ later) = by_test (precedes d e) (one_more_placed e later)
  where
    by_test : (first : Bool) → IsOneMore e later (placed e later) → IsOneMore e (d ∷ later) (if first then d ∷ placed e later else e ∷ d ∷ later)
    by_test true (prefix, back, was, is) = (d ∷ prefix, back, ap (λ (l : List Entry). d ∷ l) was, ap (λ (l : List Entry). d ∷ l) is)
    by_test false more = ([], d ∷ later, refl, refl)

-- what an entry that does not pass leaves of a filter
pub filter_placed_other : (test : Entry → Bool) (e : Entry) (entries : List Entry) → test e ≡ false → filter test (placed e entries) ≡ filter test entries
filter_placed_other test e [] other = rw other refl
filter_placed_other test e (d ∷ later) other = by_test (precedes d e) (filter_placed_other test e later other)
  where
    by_test : (first : Bool) → filter test (placed e later) ≡ filter test later →
        filter test (if first then d ∷ placed e later else e ∷ d ∷ later) ≡ filter test (d ∷ later)
    by_test true same = ap (λ (l : List Entry). if test d then d ∷ l else l) same
    by_test false same = rw other refl

-- an entry that passes, where no other that passes comes before it
pub filter_placed_first : (test : Entry → Bool) (e : Entry) (entries : List Entry) → test e ≡ true →
    AllByRecursion (λ d. ¬ IsBefore d e) (filter test entries) → filter test (placed e entries) ≡ e ∷ filter test entries
filter_placed_first test e [] passes none = rw passes refl
filter_placed_first test e (d ∷ later) passes none = by_tests (precedes d e) refl (test d) refl none (λ rest. filter_placed_first test e later passes rest)
  where
    by_tests : (first : Bool) → precedes d e ≡ first → (kept : Bool) → test d ≡ kept →
        AllByRecursion (λ x. ¬ IsBefore x e) (if kept then d ∷ filter test later else filter test later) →
        (AllByRecursion (λ x. ¬ IsBefore x e) (filter test later) → filter test (placed e later) ≡ e ∷ filter test later) →
        filter test (if first then d ∷ placed e later else e ∷ d ∷ later) ≡ e ∷ (if kept then d ∷ filter test later else filter test later)
    by_tests true is true keeps all rest = absurd (all.0 (precedes_before d e is))
    by_tests true is false keeps all rest = rw keeps (rest all)
    by_tests false is kept keeps all rest = rw (passes, keeps) refl

pub first_placed : (e : Entry) (entries : List Entry) → AllByRecursion (λ d. IsBefore e d) entries → placed e entries ≡ e ∷ entries
first_placed e [] rising = refl
first_placed e (d ∷ later) rising = rw (never_after e d rising.0) refl

-- an entry that passes is placed among those that pass
pub filter_placed : (test : Entry → Bool) (e : Entry) (entries : List Entry) → test e ≡ true → AllByRecursion (λ d. AreOrdered e d) entries →
    IsRising entries → filter test (placed e entries) ≡ placed e (filter test entries)
filter_placed test e [] passes ordered rising = rw passes refl
filter_placed test e (d ∷ later) passes ordered rising =
    by_tests (precedes d e) refl (test d) refl (filter_placed test e later passes ordered.1 rising.1)
  where
    by_tests : (first : Bool) → precedes d e ≡ first → (kept : Bool) → test d ≡ kept → filter test (placed e later) ≡ placed e (filter test later) →
        filter test (if first then d ∷ placed e later else e ∷ d ∷ later) ≡ placed e (if kept then d ∷ filter test later else filter test later)
    by_tests true is true keeps same = rw (keeps, is) (ap (λ (l : List Entry). d ∷ l) same)
    by_tests true is false keeps same = rw keeps same
    by_tests false is kept keeps same =
        let less : IsBefore e d = after_it d e is ordered.0 in
        let all : AllByRecursion (λ x. IsBefore e x) (d ∷ later) =
        (less, all_weaken (λ (x : Entry). IsBefore d x) (λ (x : Entry). IsBefore e x) later (λ x more. before_both e d x less more) rising.0) in
        ap (λ (b : Bool). if b then e ∷ filter test (d ∷ later) else filter test (d ∷ later)) passes
        ∙ sym (first_placed e (filter test (d ∷ later)) (all_filter (λ (x : Entry). IsBefore e x) test (d ∷ later) all))
        ∙ ap (λ (b : Bool). placed e (if b then d ∷ filter test later else filter test later)) keeps

-- which of two is placed first makes no difference
placed_in_turn : (d e : Entry) (entries : List Entry) → IsBefore d e → placed d (placed e entries) ≡ placed e (placed d entries)
placed_in_turn d e [] less = rw (before_precedes d e less, never_after d e less) refl
placed_in_turn d e (x ∷ later) less = by_tests (precedes x d) refl (precedes x e) refl (placed_in_turn d e later less)
  where
    up : precedes d e ≡ true
    up = before_precedes d e less

    down : precedes e d ≡ false
    down = never_after d e less

    by_tests : (a : Bool) → precedes x d ≡ a → (b : Bool) → precedes x e ≡ b → placed d (placed e later) ≡ placed e (placed d later) →
        placed d (placed e (x ∷ later)) ≡ placed e (placed d (x ∷ later))
    by_tests true p true q same = simp (p, q) (ap (λ (l : List Entry). x ∷ l) same)
    by_tests true p false q same =
        absurd (clash (precedes x e) q (before_precedes x e (before_both x d e (precedes_before x d p) less)))
      where
        clash : (b : Bool) → b ≡ false → b ≡ true → ⊥
        clash true s t = cc
        clash false s t = cc
    by_tests false p true q same = simp (p, q, up) refl
    by_tests false p false q same = simp (p, q, up, down) refl

pub placed_twice : (d e : Entry) (entries : List Entry) → AreOrdered d e → placed d (placed e entries) ≡ placed e (placed d entries)
placed_twice d e entries (inl less) = placed_in_turn d e entries less
placed_twice d e entries (inr more) = sym (placed_in_turn e d entries more)
