-- One version after others, and the place up to which versions are no later than a time.
use Rattle.std.proofs.Common.{◌≡◌, ◌+◌, ◌-◌, ◌<◌, ◌≤◌, ℕ, zero, suc, List, [], ◌∷◌, ◌++◌, length, map, refl, sym, ap, ◌∙◌, subst, arith}
use Rattle.std.specs.Prelude.{Bool, true, false, Option, Some, None, IfSome, nat_le, if◌then◌else◌}
use Rattle.std.specs.List.{slice_index_or}
use Rattle.std.specs.List.Sorted.{IsPartitionPoint}
use Rattle.std.specs.Arc.{arc_value}
use Rattle.std.specs.Option.{unwrap_or, option_map, option_copied}
use Rattle.std.proofs.lemmas.Bool.{le-leb, lt-leb}
use Rattle.std.proofs.lemmas.List.Sorted.{IsNonDecreasingBy-push}
use denote.Ref.{Bor}
use Rattle.bson_values.specs.Tree.{Fields}
use Rattle.mvcc_collection.specs.Chains.{Dated, document_left, left_after, last_time}
use Rattle.mvcc_collection.specs.View.{AreRising, dated, dated_with}
use Rattle.mvcc_collection.specs.declared.chain.Version.{Version}

pub left_push : (before : Option Fields) (vs : List Dated) (v : Dated) (time : ℕ) →
    left_after before (vs ++ v ∷ []) time ≡ (if nat_le v.0 time then v.1 else left_after before vs time)
left_push before [] v time = refl
left_push before (w ∷ vs) v time = left_push (if nat_le w.0 time then w.1 else before) vs v time

pub last_push : (vs : List Dated) (v : Dated) → last_time (vs ++ v ∷ []) ≡ Some v.0
last_push [] v = refl
last_push (w ∷ vs) v = ap (λ (t : Option ℕ). Some (unwrap_or t w.0)) (last_push vs v)

module _ {X : Type 0} (seen : X → Dated) where
  -- the last of n + 1 versions
  last_is : (xs : List X) (n : ℕ) (d : X) → n + 1 ≡ length xs → last_time (map seen xs) ≡ Some (seen (slice_index_or xs n d)).0
  last_is [] n d long = absurd (omega (arith, long))
  last_is (x ∷ []) zero d long = refl
  last_is (x ∷ []) (suc n) d long = absurd (omega (arith, long))
  last_is (x ∷ y ∷ xs) zero d long = absurd (omega (arith, long))
  last_is (x ∷ y ∷ xs) (suc n) d long = ap (λ (t : Option ℕ). Some (unwrap_or t (seen x).0)) (last_is (y ∷ xs) n d (omega (arith, long)))

  pub later_than : (xs : List X) (d : X) (time : ℕ) → IfSome (last_time (map seen xs)) (λ t. t < time) → 0 < length xs →
      (seen (slice_index_or xs (length xs - 1) d)).0 ≤ time
  later_than xs d time later some =
      let earlier : (seen (slice_index_or xs (length xs - 1) d)).0 < time = rw (last_is xs (length xs - 1) d (omega (arith, some))) at later in
      omega (arith, earlier)

  later_leave : (before : Option Fields) (xs : List X) (time : ℕ) →
      ((k : ℕ) (d : X) → k < length xs → nat_le (seen (slice_index_or xs k d)).0 time ≡ false) → left_after before (map seen xs) time ≡ before
  later_leave before [] time later = refl
  later_leave before (x ∷ xs) time later =
      ap (λ (b : Bool). left_after (if b then (seen x).1 else before) (map seen xs) time) (later 0 x (omega arith))
      ∙ later_leave before xs time (λ k d below. later (suc k) d (omega (arith, below)))

  -- what the first of the versions result in: the last of them, or what was stored there before where they are none
  abbrev left_by_first : Option Fields → List X → ℕ → X → Option Fields
  left_by_first before xs zero d = before
  left_by_first before xs (suc i) d = (seen (slice_index_or xs i d)).1

  one_before : (before : Option Fields) (x : X) (xs : List X) (i : ℕ) (d : X) → left_by_first (seen x).1 xs i d ≡ (seen (slice_index_or (x ∷ xs) i d)).1
  one_before before x xs zero d = refl
  one_before before x xs (suc i) d = refl

  left_at_place : (before : Option Fields) (xs : List X) (i time : ℕ) (d : X) → i ≤ length xs →
      IsPartitionPoint (λ y. nat_le (seen y).0 time ≡ true) (λ y. nat_le (seen y).0 time ≡ false) xs i →
      left_after before (map seen xs) time ≡ left_by_first before xs i d
  left_at_place before xs zero time d bound point = later_leave before xs time (λ k e below. point.1 k e (omega arith) below)
  left_at_place before [] (suc i) time d bound point = absurd (omega (arith, bound))
  left_at_place before (x ∷ xs) (suc i) time d bound point =
      ap (λ (b : Bool). left_after (if b then (seen x).1 else before) (map seen xs) time) (point.0 0 x (omega arith) (omega arith))
      ∙ left_at_place (seen x).1 xs i time d (omega (arith, bound)) (
        λ k e least below. point.0 (suc k) e (omega arith) (omega (arith, below)),
        λ k e least below. point.1 (suc k) e (omega (arith, least))
            (omega (arith, below)),
      )
      ∙ one_before before x xs i d

  abbrev pub IsPlace : List X → ℕ → ℕ → Type 0
  IsPlace xs i time = IsPartitionPoint (λ y. nat_le (seen y).0 time ≡ true) (λ y. nat_le (seen y).0 time ≡ false) xs i

  -- where no version is early enough nothing is left, and else what the last of those leaves that are
  pub none_left : (xs ys : List X) (i time : ℕ) (d : X) → ys ≡ xs → i ≡ 0 → IsPlace ys i time → left_after None (map seen xs) time ≡ None
  none_left xs ys i time d same first place =
      left_at_place None xs 0 time d (omega arith) (subst (λ n. IsPlace xs n time) first (subst (λ zs. IsPlace zs i time) same place))

  pub last_left : (xs ys : List X) (i time : ℕ) (d : X) → ys ≡ xs → 0 < i → i ≤ length ys → IsPlace ys i time →
      left_after None (map seen xs) time ≡ (seen (slice_index_or xs (i - 1) d)).1
  last_left xs ys zero time d same some bound place = absurd (omega (arith, some))
  last_left xs ys (suc i) time d same some bound place =
      let before : suc i - 1 ≡ i = omega arith in
      left_at_place None xs (suc i) time d (subst (λ zs. suc i ≤ length zs) same bound) (subst (λ zs. IsPlace zs (suc i) time) same place)
      ∙ ap (λ (n : ℕ). (seen (slice_index_or xs n d)).1) (sym before)

pub shown : {X Y : Type 0} (f : X → Y) (r : Option (Bor X)) → option_map (λ d. f d.now) r ≡ option_map f (option_copied r)
shown f None = refl
shown f (Some d) = refl

-- where the last version is no later than the time it is what is left, and else the older ones leave it
pub last_leaves : (last : Version) (older : List Version) (time : ℕ) → last.time.0 ≤ time →
    option_map arc_value last.document ≡ document_left (dated_with (Some last) older) time
last_leaves last older time early =
    sym (left_push None (map dated older) (dated last) time
    ∙ ap (λ (b : Bool). if b then option_map arc_value last.document else left_after None (map dated older) time) (le-leb last.time.0 time early))

pub older_leave : (last : Version) (older : List Version) (time : ℕ) → time < last.time.0 →
    document_left (map dated older) time ≡ document_left (dated_with (Some last) older) time
older_leave last older time late =
    sym (left_push None (map dated older) (dated last) time
    ∙ ap (λ (b : Bool). if b then option_map arc_value last.document else left_after None (map dated older) time) (lt-leb last.time.0 time late))

-- the last version goes after the older ones
pub joined_rising : (last : Version) (older : List Version) → AreRising (Some last) older → AreRising None (older ++ last ∷ [])
joined_rising last older rising = record {
  sorted = IsNonDecreasingBy-push (λ v. v.time.0) older last rising.sorted (λ d some. later_than dated older d last.time.0 rising.later some);
  later = tt;
}
