-- The position of a key among entries, and that of a new one.
use Rattle.std.proofs.Common.{◌≡◌, List, [], ◌∷◌, ◌++◌, refl, sym, ap, ◌∙◌, Ordering, Less, Equal, Greater}
use Rattle.std.specs.Prelude.{Bool, true, false, cond, ◌||◌, Some, None}
use Rattle.std.specs.BTreeMap.{insert_entry, is_at}
use Rattle.std.specs.List.{list_any}
use Rattle.std.specs.Map.{lookup, set_value}
use Rattle.std.specs.Ordering.{is_eq, match_ordering}
use Rattle.std.specs.declared.vec.Vec.{Vec}
use Rattle.bson_model.specs.Tree.{Datum}
use Rattle.value_model.specs.Order.{order}
use Rattle.pipeline_model.specs.Groups.{has_key}
use Rattle.group_accum.specs.declared.absorb.Cell.{Cell}
use Rattle.group_accum.specs.Rows.{rows_of}

some_same : {X : Type 0} (a b : X) → Some a ≡ Some b → a ≡ b
some_same a b e = cc

some_none : {X : Type 0} (a : X) → Some a ≡ None → ⊥
some_none a e = cc

module _ {X : Type 0} (key : Datum) where
  -- the value is stored under a key that is equal to this one
  pub record Found (entries : List (Datum × X)) (value : X) : Type 0 where
    pub front : List (Datum × X)
    pub back : List (Datum × X)
    pub kept : Datum
    pub whole : entries ≡ front ++ (kept, value) ∷ back
    pub same : is_eq (order key kept) ≡ true
    pub put : (w : X) → set_value (is_at (order key)) entries w ≡ front ++ (kept, w) ∷ back

  first_put : (e : Datum × X) (entries : List (Datum × X)) (w : X) (b : Bool) → is_eq (order key e.0) ≡ b →
      set_value (is_at (order key)) (e ∷ entries) w ≡ cond b ((e.0, w) ∷ entries) (e ∷ set_value (is_at (order key)) entries w)
  first_put e entries w b is = ap (λ (b' : Bool). cond b' ((e.0, w) ∷ entries) (e ∷ set_value (is_at (order key)) entries w)) is

  found_by : (e : Datum × X) (entries : List (Datum × X)) (value : X) (b : Bool) → is_eq (order key e.0) ≡ b →
      (lookup (is_at (order key)) entries ≡ Some value → Found entries value) → cond b (Some e.1) (lookup (is_at (order key)) entries) ≡ Some value →
      Found (e ∷ entries) value
  found_by e entries value true here later is = record {
    front = [];
    back = entries;
    kept = e.0;
    whole = ap (λ (v : X). (e.0, v) ∷ entries) (some_same e.1 value is);
    same = here;
    put = λ w. first_put e entries w true here;
  }
  found_by e entries value false there later is =
      let f = later is in
      record {
        front = e ∷ f.front;
        back = f.back;
        kept = f.kept;
        whole = ap (λ (l : List (Datum × X)). e ∷ l) f.whole;
        same = f.same;
        put = λ w. first_put e entries w false there ∙ ap (λ (l : List (Datum × X)). e ∷ l) (f.put w);
      }

  pub found_in : (entries : List (Datum × X)) (value : X) → lookup (is_at (order key)) entries ≡ Some value → Found entries value
  found_in [] value is = absurd (some_none value (sym is))
  found_in (e ∷ entries) value is = found_by e entries value (is_eq (order key e.0)) refl (found_in entries value) is

  -- the value is to be inserted between entries of other keys
  pub record Gap (entries : List (Datum × X)) (value : X) : Type 0 where
    pub front : List (Datum × X)
    pub back : List (Datum × X)
    pub whole : entries ≡ front ++ back
    pub put : insert_entry order entries key value ≡ front ++ (key, value) ∷ back

  first_insert : (e : Datum × X) (entries : List (Datum × X)) (value : X) (r : Ordering) → order key e.0 ≡ r →
      insert_entry order (e ∷ entries) key value
      ≡ match_ordering r ((key, value) ∷ e ∷ entries) ((e.0, value) ∷ entries) (e ∷ insert_entry order entries key value)
  first_insert e entries value r is =
      ap (λ (r' : Ordering). match_ordering r' ((key, value) ∷ e ∷ entries) ((e.0, value) ∷ entries) (e ∷ insert_entry order entries key value)) is

  gap_by : (e : Datum × X) (entries : List (Datum × X)) (value : X) (r : Ordering) → order key e.0 ≡ r →
      (lookup (is_at (order key)) entries ≡ None → Gap entries value) → cond (is_eq r) (Some e.1) (lookup (is_at (order key)) entries) ≡ None →
      Gap (e ∷ entries) value
  gap_by e entries value Less less later none = record { front = []; back = e ∷ entries; whole = refl; put = first_insert e entries value Less less }
  gap_by e entries value Equal same later none = absurd (some_none e.1 none)
  gap_by e entries value Greater greater later none =
      let g = later none in
      record {
        front = e ∷ g.front;
        back = g.back;
        whole = ap (λ (l : List (Datum × X)). e ∷ l) g.whole;
        put = first_insert e entries value Greater greater ∙ ap (λ (l : List (Datum × X)). e ∷ l) g.put;
      }

  pub gap_in : (entries : List (Datum × X)) (value : X) → lookup (is_at (order key)) entries ≡ None → Gap entries value
  gap_in [] value none = record { front = []; back = []; whole = refl; put = refl }
  gap_in (e ∷ entries) value none = gap_by e entries value (order key e.0) refl (gap_in entries value) none

module _ {Z : Type 0} (key : Datum) where
  none_by : (e : Datum × Vec Cell Z) (entries : List (Datum × Vec Cell Z)) (b : Bool) → is_eq (order key e.0) ≡ b →
      (lookup (is_at (order key)) entries ≡ None → list_any (has_key key) (rows_of entries) ≡ false) →
      cond b (Some e.1) (lookup (is_at (order key)) entries) ≡ None → list_any (has_key key) (rows_of (e ∷ entries)) ≡ false
  none_by e entries true here later none = absurd (some_none e.1 none)
  none_by e entries false there later none = ap (λ (b : Bool). b || list_any (has_key key) (rows_of entries)) there ∙ later none

  -- no row has the key
  pub none_with : (entries : List (Datum × Vec Cell Z)) → lookup (is_at (order key)) entries ≡ None → list_any (has_key key) (rows_of entries) ≡ false
  none_with [] none = refl
  none_with (e ∷ entries) none = none_by e entries (is_eq (order key e.0)) refl (none_with entries) none
