-- Keys in lists, and what members of a batch have.
use Rattle.std.proofs.Common.{◌≡◌, List, [], ◌∷◌, ◌++◌, refl, sym, ap, ◌∙◌, Ordering, Less}
use Rattle.std.specs.Prelude.{Bool, true, false, cond, not, ◌&&◌, ◌||◌, Option, Some, None, map, filter, if◌then◌else◌}
use Rattle.std.specs.BTreeMap.{is_at}
use Rattle.std.specs.List.{AllByRecursion}
use Rattle.std.specs.Ordering.{is_eq}
use Rattle.std.proofs.lemmas.Cmp.{tied_itself}
use Rattle.std.proofs.lemmas.Map.Entries.{lookup-filter-keys}
use Rattle.std.proofs.lemmas.Map.Views.{any-filter_same}
use Rattle.query_model.proofs.Entries.{equal_is, equal_turned, same_find}
use Rattle.bson_model.specs.Tree.{Datum, Fields}
use Rattle.value_model.specs.Keys.{Bound, key_bound}
use Rattle.value_model.specs.Order.{order, same_value}
use Rattle.value_model.proofs.Flat.{order_total}
use Rattle.value_model.proofs.Spans.{same_value_equivalence}
use Rattle.history_model.specs.Documents.{Rows, AreInOrder, document_under}
use Rattle.history_model.proofs.Collections.{above_row, later_rows}
use Rattle.move_model.specs.Sources.{has_key, is_up_to}
use Rattle.record_model.specs.Moves.{MovedDocument}
use Rattle.move_model.specs.Batches.{keys_of_members, moved}
use Rattle.move_model.specs.Recipients.{overlay}
use Rattle.move_model.proofs.Cursors.{differ, past_less, AreAfter}

-- keys that compare equal are in the same lists
pub has_alike : (a b : Datum) (keys : List Datum) → same_value a b ≡ true → has_key a keys ≡ has_key b keys
has_alike a b [] same = refl
has_alike a b (k ∷ keys) same =
    let first : same_value k a ≡ same_value k b = same_value_equivalence.symm k a ∙ same_value_equivalence.congr a b k same
    ∙ same_value_equivalence.symm b k in
    ap (λ (t : Bool). t || has_key a keys) first ∙ ap (λ (t : Bool). same_value k b || t) (has_alike a b keys same)

-- the keys that are not among those
pub has_without : (key : Datum) (gone keys : List Datum) →
    has_key key (filter (λ k. not (has_key k gone)) keys) ≡ (not (has_key key gone) && has_key key keys)
has_without key gone keys =
    any-filter_same (λ k. same_value k key) (λ k. not (has_key k gone)) (not (has_key key gone)) (λ k same. ap not (has_alike k key gone same)) keys

-- what is true of each member is true of a key among them
pub at_member : (P : Datum → Type 0) (ms : List MovedDocument) (key : Datum) → ((a : Datum) → same_value a key ≡ true → P a → P key) →
    AllByRecursion (λ m. P m.key) ms → has_key key (keys_of_members ms) ≡ true → P key
at_member P [] key alike all has = absurd (cc has)
at_member P (m ∷ ms) key alike all has = by (same_value m.key key) refl has (λ e. at_member P ms key alike all.1 e)
  where
    by : (b : Bool) → same_value m.key key ≡ b → (b || has_key key (keys_of_members ms)) ≡ true → (has_key key (keys_of_members ms) ≡ true → P key) → P key
    by true is e rest = alike m.key is all.0
    by false is e rest = rest e

-- a member has the present document of its key
abbrev pub IsPresent : Rows → MovedDocument → Type 0
IsPresent rows m = m.document ≡ document_under m.key rows

pub overlay_present : (rows : Rows) (ms : List MovedDocument) (key : Datum) (before : Option Fields) → AllByRecursion (IsPresent rows) ms →
    overlay ms key before ≡ cond (has_key key (keys_of_members ms)) (document_under key rows) before
overlay_present rows [] key before all = refl
overlay_present rows (m ∷ ms) key before all = by (same_value m.key key) refl (overlay_present rows ms key (if same_value m.key key then m.document else before) all.1)
  where
    either : (b : Bool) → cond b (document_under key rows) (document_under key rows) ≡ document_under key rows
    either true = refl
    either false = refl

    by : (b : Bool) → same_value m.key key ≡ b →
        overlay ms key (if same_value m.key key then m.document else before)
        ≡ cond (has_key key (keys_of_members ms)) (document_under key rows) (if same_value m.key key then m.document else before) →
        overlay ms key (if same_value m.key key then m.document else before) ≡ cond (b || has_key key (keys_of_members ms)) (document_under key rows) before
    by true is rest =
        rest ∙ ap (λ (t : Bool). cond (has_key key (keys_of_members ms)) (document_under key rows) (if t then m.document else before)) is
        ∙ ap (λ (d : Option Fields). cond (has_key key (keys_of_members ms)) (document_under key rows) d) (all.0
        ∙ same_find order_total m.key key rows (equal_is (order m.key key) is))
        ∙ either (has_key key (keys_of_members ms))
    by false is rest = rest ∙ ap (λ (t : Bool). cond (has_key key (keys_of_members ms)) (document_under key rows) (if t then m.document else before)) is

-- rows as members
abbrev pub members_of : Rows → List MovedDocument
members_of rows = map (λ row. moved row.0 (Some row.1)) rows

-- what a filtered row passes, and where it is
above_own : (low : Datum) (rows : Rows) → AllByRecursion (λ y. order low y ≡ Less) (map (λ row. row.0) rows) →
    AllByRecursion (λ row. order low row.0 ≡ Less) rows
above_own low [] all = tt
above_own low (row ∷ rows) all = (all.0, above_own low rows all.1)

less_not : (low k : Datum) → order low k ≡ Less → is_eq (order k low) ≡ false
less_not low k less = equal_turned order_total k low ∙ ap is_eq less

-- each row finds itself
pub rows_present : (rows : Rows) → AreInOrder rows → AllByRecursion (λ row. Some row.1 ≡ document_under row.0 rows) rows
rows_present [] ordered = tt
rows_present (row ∷ rows) ordered = (
  sym (ap (λ (o : Ordering). cond (is_eq o) (Some row.1) (document_under row.0 rows)) (tied_itself order_total row.0)),
  weaken rows (above_own row.0 rows (above_row row rows ordered)) (rows_present rows (later_rows row rows ordered)),
)
  where
    weaken : (more : Rows) → AllByRecursion (λ r. order row.0 r.0 ≡ Less) more → AllByRecursion (λ r. Some r.1 ≡ document_under r.0 rows) more →
        AllByRecursion (λ r. Some r.1 ≡ document_under r.0 (row ∷ rows)) more
    weaken [] above all = tt
    weaken (r ∷ more) above all =
        (all.0 ∙ sym (ap (λ (t : Bool). cond t (Some row.1) (document_under r.0 rows)) (less_not row.0 r.0 above.0)), weaken more above.1 all.1)

-- filtered rows rise after a cursor that they are past
pub filtered_after : (low : Bound) (p : Datum → Bool) (rows : Rows) → AreInOrder rows → AllByRecursion (λ r. p r.0 ≡ true → is_up_to low r.0 ≡ false) rows →
    AreAfter low (members_of (filter (λ r. p r.0) rows))
filtered_after low p [] ordered past = tt
filtered_after low p (row ∷ rows) ordered past =
    by (p row.0) refl (filtered_after low p rows (later_rows row rows ordered) past.1)
    (filtered_after (key_bound row.0) p rows (later_rows row rows ordered) (beyond rows (above_own row.0 rows (above_row row rows ordered))))
  where
    beyond : (more : Rows) → AllByRecursion (λ r. order row.0 r.0 ≡ Less) more → AllByRecursion (λ r. p r.0 ≡ true →
        is_up_to (key_bound row.0) r.0 ≡ false) more
    beyond [] all = tt
    beyond (r ∷ more) all = (λ pass. past_less row.0 r.0 all.0, beyond more all.1)

    by : (b : Bool) → p row.0 ≡ b → AreAfter low (members_of (filter (λ r. p r.0) rows)) →
        AreAfter (key_bound row.0) (members_of (filter (λ r. p r.0) rows)) →
        AreAfter low (members_of (cond b (row ∷ filter (λ r. p r.0) rows) (filter (λ r. p r.0) rows)))
    by true is skip take = (past.0 is, take)
    by false is skip take = skip

-- a key that is not among rows has no document there
pub not_found : (rows : Rows) (key : Datum) → has_key key (keys_of_members (members_of rows)) ≡ false → document_under key rows ≡ None
not_found [] key none = refl
not_found (row ∷ rows) key none = by (same_value row.0 key) refl none (λ e. not_found rows key e)
  where
    by : (b : Bool) → same_value row.0 key ≡ b → (b || has_key key (keys_of_members (members_of rows))) ≡ false →
        (has_key key (keys_of_members (members_of rows)) ≡ false → document_under key rows ≡ None) → document_under key (row ∷ rows) ≡ None
    by true is e rest = absurd (cc e)
    by false is e rest =
        ap (λ (t : Bool). cond t (Some row.1) (document_under key rows)) (equal_turned order_total key row.0 ∙ is) ∙ rest e

-- what passes a test of keys is found among what passes
pub found_after : (p : Datum → Bool) (rows : Rows) (key : Datum) → ((a b : Datum) → same_value a b ≡ true → p a ≡ p b) → p key ≡ true →
    document_under key (filter (λ r. p r.0) rows) ≡ document_under key rows
found_after p rows key alike pass = lookup-filter-keys (is_at (order key)) p true (λ k at. sym (alike key k at) ∙ pass) rows

pub has_append : (key : Datum) (ms ns : List MovedDocument) →
    has_key key (keys_of_members (ms ++ ns)) ≡ (has_key key (keys_of_members ms) || has_key key (keys_of_members ns))
has_append key [] ns = refl
has_append key (m ∷ ms) ns = ap (λ (t : Bool). same_value m.key key || t) (has_append key ms ns) ∙ sym (or_assoc (same_value m.key key) _ _)
  where
    or_assoc : (a b c : Bool) → ((a || b) || c) ≡ (a || (b || c))
    or_assoc true b c = refl
    or_assoc false b c = refl

-- a key that some test tells from each member is not among them
pub not_among : (p : Datum → Bool) (ms : List MovedDocument) (key : Datum) → ((a b : Datum) → same_value a b ≡ true → p a ≡ p b) →
    AllByRecursion (λ m. p m.key ≡ false) ms → p key ≡ true → has_key key (keys_of_members ms) ≡ false
not_among p [] key alike all pass = refl
not_among p (m ∷ ms) key alike all pass = by (same_value m.key key) refl (not_among p ms key alike all.1 pass)
  where
    by : (b : Bool) → same_value m.key key ≡ b → has_key key (keys_of_members ms) ≡ false → (b || has_key key (keys_of_members ms)) ≡ false
    by true is rest = absurd (differ (sym pass ∙ sym (alike m.key key is) ∙ all.0))
    by false is rest = rest

pub all_map : {X Y : Type 0} (P : Y → Type 0) (f : X → Y) (xs : List X) → AllByRecursion (λ x. P (f x)) xs → AllByRecursion P (map f xs)
all_map P f [] all = tt
all_map P f (x ∷ xs) all = (all.0, all_map P f xs all.1)

pub all_first : {X : Type 0} (P : X → Type 0) (xs ys : List X) → AllByRecursion P (xs ++ ys) → AllByRecursion P xs
all_first P [] ys all = tt
all_first P (x ∷ xs) ys all = (all.0, all_first P xs ys all.1)
