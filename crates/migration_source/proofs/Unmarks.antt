-- The changed keys without those of members.
use Rattle.std.proofs.Common.{◌≡◌, ℕ, suc, ◌+◌, ◌<◌, ◌≤◌, List, [], ◌∷◌, length, get_or, drop, drop-cons, map, refl, sym, ap, ◌∙◌, add-one, Less}
use Rattle.std.proofs.lemmas.List.{drop_all}
use Rattle.std.specs.Prelude.{Bool, true, false, cond, not, ◌||◌, Option, Some, None, filter}
use Rattle.std.specs.BTreeMap.{is_at}
use Rattle.std.specs.List.{AllByRecursion}
use Rattle.std.specs.List.Sorted.{IsStrictlySortedBy}
use Rattle.std.specs.Map.{keys_of, lookup, set_value}
use Rattle.std.specs.Option.{option_map}
use Rattle.std.specs.Ordering.{is_eq}
use Rattle.query_model.proofs.Entries.{equal_is}
use Rattle.bson_values.specs.Tree.{Datum}
use Rattle.value_compare.specs.Order.{order, same_value}
use Rattle.value_model.specs.Keys.{Bound}
use Rattle.value_model.proofs.Flat.{order_total}
use Rattle.record_model.specs.Moves.{Batch, MovedDocument}
use Rattle.shard_records.specs.Batches.{moved_view}
use Rattle.shard_records.specs.declared.batch.MovedDocument as code
use Rattle.move_model.specs.Sources.{Source, has_key}
use Rattle.move_model.specs.Batches.{keys_of_members, source_after}
use Rattle.migration_source.specs.Changed.{changed_among}
use Rattle.migration_source.proofs.Changes.{Entries, above_changed}

-- the keys that are not among those
abbrev pub without : List Datum → List Datum → List Datum
without gone keys = filter (λ key. not (has_key key gone)) keys

keep_all : (p : Datum → Bool) (keys : List Datum) → AllByRecursion (λ k. p k ≡ true) keys → filter p keys ≡ keys
keep_all p [] all = refl
keep_all p (k ∷ keys) all =
    ap (λ (b : Bool). cond b (k ∷ filter p keys) (filter p keys)) all.0 ∙ ap (λ (l : List Datum). k ∷ l) (keep_all p keys all.1)

-- none of the keys above one is the same
apart_above : (low key : Datum) → same_value key low ≡ true → (keys : List Datum) → AllByRecursion (λ k. order low k ≡ Less) keys →
    AllByRecursion (λ k. not (same_value key k) ≡ true) keys
apart_above low key same [] above = tt
apart_above low key same (k ∷ keys) above = (
  ap (λ o. not (is_eq o)) (order_total.congr key low k (equal_is (order key low) same) ∙ above.0),
  apart_above low key same keys above.1,
)

-- a key that is unmarked leaves them
pub unmarked : (key : Datum) (es : Entries) → IsStrictlySortedBy order (keys_of es) →
    changed_among (set_value (is_at (order key)) es false) ≡ filter (λ k. not (same_value key k)) (changed_among es)
unfolding IsStrictlySortedBy
unmarked key [] sorted = refl
unmarked key (e ∷ es) sorted = by (same_value key e.0) refl (unmarked key es sorted.1)
  where
    gone : (b : Bool) → same_value key e.0 ≡ true →
        changed_among es ≡ filter (λ k. not (same_value key k)) (map (λ x. x.0) (cond b (e ∷ filter (λ x. x.1) es) (filter (λ x. x.1) es)))
    gone true same =
        sym (ap (λ (t : Bool). cond (not t) (e.0 ∷ filter (λ k. not (same_value key k)) (changed_among es)) (filter (λ k. not (same_value key k)) (changed_among es))) same
        ∙ keep_all (λ k. not (same_value key k)) (changed_among es) (apart_above e.0 key same (changed_among es) (above_changed e.0 es sorted.0)))
    gone false same = sym (keep_all (λ k. not (same_value key k)) (changed_among es) (apart_above e.0 key same (changed_among es) (above_changed e.0 es sorted.0)))

    stays : (b : Bool) → same_value key e.0 ≡ false →
        changed_among (set_value (is_at (order key)) es false) ≡ filter (λ k. not (same_value key k)) (changed_among es) →
        map (λ x. x.0) (cond b (e ∷ filter (λ x. x.1) (set_value (is_at (order key)) es false)) (filter (λ x. x.1) (set_value (is_at (order key)) es false)))
        ≡ filter (λ k. not (same_value key k)) (map (λ x. x.0) (cond b (e ∷ filter (λ x. x.1) es) (filter (λ x. x.1) es)))
    stays true other rest =
        ap (λ (l : List Datum). e.0 ∷ l) rest
        ∙ sym (ap (λ (t : Bool). cond (not t) (e.0 ∷ filter (λ k. not (same_value key k)) (changed_among es)) (filter (λ k. not (same_value key k)) (changed_among es))) other)
    stays false other rest = rest

    by : (at : Bool) → same_value key e.0 ≡ at →
        changed_among (set_value (is_at (order key)) es false) ≡ filter (λ k. not (same_value key k)) (changed_among es) →
        changed_among (cond at ((e.0, false) ∷ es) (e ∷ set_value (is_at (order key)) es false)) ≡ filter (λ k. not (same_value key k)) (changed_among (e ∷ es))
    by true is rest = gone e.1 is
    by false is rest = stays e.1 is rest

-- a key without a place has no mark
pub unplaced : (key : Datum) (es : Entries) → lookup (is_at (order key)) es ≡ None → es ≡ set_value (is_at (order key)) es false
unplaced key [] none = refl
unplaced key (e ∷ es) none = by (is_eq (order key e.0)) none (λ n. unplaced key es n)
  where
    by : (at : Bool) → cond at (Some e.1) (lookup (is_at (order key)) es) ≡ None → (lookup (is_at (order key)) es ≡ None → es ≡ set_value (is_at (order key)) es false) →
        (e ∷ es) ≡ cond at ((e.0, false) ∷ es) (e ∷ set_value (is_at (order key)) es false)
    by true n rest = absurd (cc n)
    by false n rest = ap (λ (l : Entries). e ∷ l) (rest n)

-- keys without one and then without others
without_two : (key : Datum) (gone keys : List Datum) → without gone (filter (λ k. not (same_value key k)) keys) ≡ without (key ∷ gone) keys
without_two key gone [] = refl
without_two key gone (k ∷ keys) = by (same_value key k) (without_two key gone keys)
  where
    kept : (b : Bool) → without gone (filter (λ q. not (same_value key q)) keys) ≡ without (key ∷ gone) keys →
        cond (not b) (k ∷ without gone (filter (λ q. not (same_value key q)) keys)) (without gone (filter (λ q. not (same_value key q)) keys))
        ≡ cond (not b) (k ∷ without (key ∷ gone) keys) (without (key ∷ gone) keys)
    kept b rest = ap (λ (l : List Datum). cond (not b) (k ∷ l) l) rest

    by : (b : Bool) → without gone (filter (λ q. not (same_value key q)) keys) ≡ without (key ∷ gone) keys →
        without gone (cond (not b) (k ∷ filter (λ q. not (same_value key q)) keys) (filter (λ q. not (same_value key q)) keys))
        ≡ cond (not (b || has_key k gone)) (k ∷ without (key ∷ gone) keys) (without (key ∷ gone) keys)
    by true rest = rest
    by false rest = kept (has_key k gone) rest

pub without_none : (keys : List Datum) → without [] keys ≡ keys
without_none keys = keep_all (λ key. true) keys (all keys)
  where
    all : (keys : List Datum) → AllByRecursion (λ k. true ≡ true) keys
    all [] = tt
    all (k ∷ keys) = (refl, all keys)

-- A LOOP OVER MEMBERS

abbrev pub keys_left : List code.MovedDocument → List Datum
keys_left docs = keys_of_members (map moved_view docs)

module _ (docs : List code.MovedDocument) (i : ℕ) (m : code.MovedDocument) (less : i < length docs) (is : m ≡ get_or docs i m) where
  next_is : drop i docs ≡ m ∷ drop (i + 1) docs
  next_is = rw add-one (drop-cons docs i m less ∙ ap (λ (first : code.MovedDocument). first ∷ drop (suc i) docs) (sym is))

  -- the key of the next member is unmarked
  pub next_unmarked : (es more : Entries) (all : List Datum) → IsStrictlySortedBy order (keys_of es) → more ≡ set_value (is_at (order m.key)) es false →
      without (keys_left (drop i docs)) (changed_among es) ≡ all → without (keys_left (drop (i + 1) docs)) (changed_among more) ≡ all
  next_unmarked es more all sorted set whole =
      ap (λ (l : Entries). without (keys_left (drop (i + 1) docs)) (changed_among l)) set
      ∙ ap (λ (l : List Datum). without (keys_left (drop (i + 1) docs)) l) (unmarked m.key es sorted)
      ∙ without_two m.key (keys_left (drop (i + 1) docs)) (changed_among es)
      ∙ ap (λ (l : List code.MovedDocument). without (keys_left l) (changed_among es)) (sym next_is) ∙ whole

-- the keys of all members are
pub all_unmarked : (docs : List code.MovedDocument) (i : ℕ) (es : Entries) (all : List Datum) → length docs ≤ i →
    without (keys_left (drop i docs)) (changed_among es) ≡ all → changed_among es ≡ all
all_unmarked docs i es all past whole =
    sym (without_none (changed_among es))
    ∙ ap (λ (l : List code.MovedDocument). without (keys_left l) (changed_among es)) (sym (drop_all i docs past)) ∙ whole

-- A BATCH THAT IS HANDED OUT

pub prepared_is : {X : Type 0} (f : X → Batch) (ready : Option X) (x : X) (b : Batch) → option_map f ready ≡ Some b → ready ≡ Some x → f x ≡ b
prepared_is f ready x b has is = let same : Some (f x) ≡ Some b = sym (ap (λ r. option_map f r) is) ∙ has in cc

pub handed_out : (s : Source) (b prepared : Batch) (cursor : Bound) (changed : List Datum) → prepared ≡ b → cursor ≡ prepared.upto →
    changed ≡ without (keys_of_members prepared.docs) s.changed →
    record { range = s.range; number = prepared.number; cursor = cursor; changed = changed; unanswered = true } ≡ source_after s b
handed_out s b prepared cursor changed is at left =
    let with_both : Bound → List Datum → Source =
    λ upto keys. record { range = s.range; number = prepared.number; cursor = upto; changed = keys; unanswered = true } in
    ap (λ (upto : Bound). with_both upto changed) at ∙ ap (with_both prepared.upto) left ∙ ap (source_after s) is
