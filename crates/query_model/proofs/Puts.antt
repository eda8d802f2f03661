-- A value that is put at a path is found there, and the values at paths apart from it stay; so with a value that is removed.
use Rattle.std.proofs.Common.{◌≡◌, ℕ, List, [], ◌∷◌, refl, sym, ap, subst, ◌∙◌}
use Rattle.std.specs.Prelude.{Bool, true, false, ◌&&◌, ◌||◌, not, Option, Some, None, Result, Ok, Err, if◌then◌else◌}
use Rattle.std.specs.List.{starts_with}
use Rattle.std.specs.Option.{option_and_then}
use Rattle.std.specs.Str.{bytes_eq}
use Rattle.std.proofs.lemmas.Slice.Eq.{bytes_eq-Decides}
use Rattle.bson_model.specs.Tree.{Datum, document_value, Fields, no_fields, field, get}
use Rattle.query_model.specs.Paths.{Path, as_document}
use Rattle.query_model.specs.Changes.{is_apart}
use Rattle.query_model.specs.Edits.{WriteFault, not_document_fault, ◌>>=◌, with_field, without_field, value_at, on_the_way, put_at, change_inside, take_at}

-- a step that was done, and one that was not
abbrev pub done : {A : Type 0} → A → Result A WriteFault
done x = Ok x

abbrev pub failed : WriteFault → Result Fields WriteFault
failed fault = Err fault

pub done_is : {A : Type 0} (x y : A) → done x ≡ Ok y → x ≡ y
done_is x y e = cc

-- what is done after a step that was done
pub then_ok : {A B : Type 0} (r : Result A WriteFault) (f : A → Result B WriteFault) (b : B) → (r >>= f) ≡ Ok b → (a : A) × (r ≡ Ok a) × (f a ≡ Ok b)
then_ok (Ok a) f b e = (a, refl, e)
then_ok (Err fault) f b e = absurd cc

pub same_bytes : (a b : List ℕ) → bytes_eq a b ≡ true → a ≡ b
same_bytes a b e = (bytes_eq-Decides a b).0 e

pub equal_itself : (a : List ℕ) → bytes_eq a a ≡ true
equal_itself a = (bytes_eq-Decides a a).1 refl

found_there : (name : List ℕ) (value : Datum) (b : Bool) (first : List ℕ) (d : Datum) (ms rest : Fields) → bytes_eq first name ≡ b →
    get name rest ≡ Some value →
    get name (if b then field first value ms else field first d rest) ≡ Some value
found_there name value true first d ms rest e there = rw e refl
found_there name value false first d ms rest e there = rw e there

pub put_there : (name : List ℕ) (value : Datum) (document : Fields) → get name (with_field name value document) ≡ Some value
put_there name value no_fields = rw (equal_itself name) refl
put_there name value (field first d ms) = found_there name value (bytes_eq first name) first d ms (with_field name value ms) refl (put_there name value ms)

-- under another name
stays_beside : (name other : List ℕ) (value : Datum) (b : Bool) (first : List ℕ) (d : Datum) (ms rest : Fields) → bytes_eq first name ≡ b →
    bytes_eq name other ≡ false → get other rest ≡ get other ms →
    get other (if b then field first value ms else field first d rest) ≡ get other (field first d ms)
stays_beside name other value true first d ms rest e apart there =
    let no : bytes_eq first other ≡ false = ap (λ (n : List ℕ). bytes_eq n other) (same_bytes first name e) ∙ apart in rw no refl
stays_beside name other value false first d ms rest e apart there = ap (λ (found : Option Datum). if bytes_eq first other then Some d else found) there

pub put_beside : (name other : List ℕ) (value : Datum) (document : Fields) → bytes_eq name other ≡ false →
    get other (with_field name value document) ≡ get other document
put_beside name other value no_fields apart = rw apart refl
put_beside name other value (field first d ms) apart =
    stays_beside name other value (bytes_eq first name) first d ms (with_field name value ms) refl apart (put_beside name other value ms apart)

left_beside : (name other : List ℕ) (b : Bool) (first : List ℕ) (d : Datum) (ms rest : Fields) → bytes_eq first name ≡ b → bytes_eq name other ≡ false →
    get other rest ≡ get other ms →
    get other (if b then ms else field first d rest) ≡ get other (field first d ms)
left_beside name other true first d ms rest e apart there =
    let no : bytes_eq first other ≡ false = ap (λ (n : List ℕ). bytes_eq n other) (same_bytes first name e) ∙ apart in rw no refl
left_beside name other false first d ms rest e apart there = ap (λ (found : Option Datum). if bytes_eq first other then Some d else found) there

pub take_beside : (name other : List ℕ) (document : Fields) → bytes_eq name other ≡ false → get other (without_field name document) ≡ get other document
take_beside name other no_fields apart = refl
take_beside name other (field first d ms) apart =
    left_beside name other (bytes_eq first name) first d ms (without_field name ms) refl apart (take_beside name other ms apart)

-- paths that begin alike are apart where their rests are
pub starts_more : (a b : List ℕ) (p q : Path) → starts_with bytes_eq (a ∷ p) (b ∷ q) ≡ (bytes_eq b a && starts_with bytes_eq p q)
starts_more a b p q = refl

starts_whatever : (p : Path) → starts_with bytes_eq p [] ≡ true
starts_whatever p = refl

starts_none : (a : List ℕ) (q : Path) → starts_with bytes_eq [] (a ∷ q) ≡ false
starts_none a q = refl

apart_empty : (q : Path) → is_apart [] q ≡ true → ⊥
apart_empty [] e = cc
apart_empty (b ∷ q) e = cc

apart_rest : (a b : List ℕ) (p q : Path) → bytes_eq a b ≡ true → is_apart (a ∷ p) (b ∷ q) ≡ true → is_apart p q ≡ true
apart_rest a b p q same apart =
    let back : bytes_eq b a ≡ true = ap (λ (n : List ℕ). bytes_eq n a) (sym (same_bytes a b same)) ∙ equal_itself a in
    sym (rw (same, back) refl) ∙ apart

-- the value below a name depends on the value at it
value_by : (b : List ℕ) (q : Path) (d e : Fields) → get b d ≡ get b e → value_at (b ∷ q) d ≡ value_at (b ∷ q) e
value_by b [] d e same = same
value_by b (n ∷ q) d e same = ap (λ (found : Option Datum). option_and_then (value_at (n ∷ q)) (option_and_then as_document found)) same

nothing_at : (q : Path) → value_at q no_fields ≡ None
nothing_at [] = refl
nothing_at (b ∷ []) = refl
nothing_at (b ∷ n ∷ q) = refl

-- the value below a document on the way
below_way : (n : List ℕ) (q : Path) (found : Option Datum) (inner : Fields) → on_the_way found ≡ Ok inner →
    value_at (n ∷ q) inner ≡ option_and_then (value_at (n ∷ q)) (option_and_then as_document found)
below_way n q None inner e = ap (λ (ms : Fields). value_at (n ∷ q) ms) (sym (done_is no_fields inner e)) ∙ nothing_at (n ∷ q)
below_way n q (Some (document_value ms)) inner e =
    let same : ms ≡ inner = cc in ap (λ (fields : Fields). value_at (n ∷ q) fields) (sym same)
below_way n q (Some d) inner e = absurd cc

-- a document that is changed at a name, where it is on the way
at_name : (a b : List ℕ) (q : Path) (found : Option Datum) (document inner changed : Fields) → a ≡ b → get a document ≡ found → on_the_way found ≡ Ok inner →
    value_at q changed ≡ value_at q inner → (q ≡ [] → ⊥) → value_at (b ∷ q) (with_field a (document_value changed) document) ≡ value_at (b ∷ q) document
at_name a b [] found document inner changed same there way rest some = absurd (some refl)
at_name a b (n ∷ q) found document inner changed same there way rest some =
    ap (λ (x : List ℕ). option_and_then (value_at (n ∷ q)) (option_and_then as_document (get x (with_field a (document_value changed) document)))) (sym same)
    ∙ ap (λ (x : Option Datum). option_and_then (value_at (n ∷ q)) (option_and_then as_document x)) (put_there a (document_value changed) document)
    ∙ rest
    ∙ below_way n q found inner way
    ∙ ap (λ (x : Option Datum). option_and_then (value_at (n ∷ q)) (option_and_then as_document x)) (sym there)
    ∙ ap (λ (x : List ℕ). option_and_then (value_at (n ∷ q)) (option_and_then as_document (get x document))) same

-- by whether the two paths begin with one name
by_name : (same : Bool) (a b : List ℕ) (p q : Path) (value : Datum) (document after : Fields) → bytes_eq a b ≡ same → after ≡ with_field a value document →
    (bytes_eq a b ≡ true → value_at (b ∷ q) (with_field a value document) ≡ value_at (b ∷ q) document) → value_at (b ∷ q) after ≡ value_at (b ∷ q) document
by_name true a b p q value document after e is alike = ap (λ (ms : Fields). value_at (b ∷ q) ms) is ∙ alike e
by_name false a b p q value document after e is alike = ap (λ (ms : Fields). value_at (b ∷ q) ms) is ∙ value_by b q (with_field a value document) document (put_beside a b value document e)

-- what a put makes of a name on its way
pub record PutsInside (a : List ℕ) (p : Path) (value : Datum) (document after : Fields) : Type 0 where
  pub inner : Fields
  pub changed : Fields
  pub way : on_the_way (get a document) ≡ Ok inner
  pub put : put_at p value inner ≡ Ok changed
  pub is : after ≡ with_field a (document_value changed) document

pub puts_inside : (a n : List ℕ) (p : Path) (value : Datum) (document after : Fields) → put_at (a ∷ n ∷ p) value document ≡ Ok after →
    PutsInside a (n ∷ p) value document after
puts_inside a n p value document after e =
    let first = then_ok (on_the_way (get a document)) (λ inner. put_at (n ∷ p) value inner >>= λ changed. Ok (with_field a (document_value changed) document)) after e in
    let second = then_ok (put_at (n ∷ p) value first.0) (λ changed. Ok (with_field a (document_value changed) document)) after first.2 in
    let made : with_field a (document_value second.0) document ≡ after = done_is (with_field a (document_value second.0) document) after second.2 in
    record { inner = first.0; changed = second.0; way = first.1; put = second.1; is = sym made }

-- a value at a path apart from this one stays
pub put_leaves : (p q : Path) (value : Datum) (document after : Fields) → is_apart p q ≡ true → put_at p value document ≡ Ok after →
    value_at q after ≡ value_at q document
put_leaves [] q value document after apart e = absurd (apart_empty q apart)
put_leaves (a ∷ p) [] value document after apart e = absurd cc
put_leaves (a ∷ []) (b ∷ q) value document after apart e =
    let is : with_field a value document ≡ after = cc in
    by_name (bytes_eq a b) a b [] q value document after refl (sym is) (λ same. absurd (apart_empty q (apart_rest a b [] q same apart)))
put_leaves (a ∷ n ∷ p) (b ∷ q) value document after apart e =
    let inside : PutsInside a (n ∷ p) value document after = puts_inside a n p value document after e in
    by_name (bytes_eq a b) a b (n ∷ p) q (document_value inside.changed) document after refl inside.is
    (λ same. at_name a b q (get a document) document inside.inner inside.changed (same_bytes a b same) refl inside.way
    (put_leaves (n ∷ p) q value inside.inner inside.changed (apart_rest a b (n ∷ p) q same apart) inside.put)
    (λ none. absurd_apart n p q none (apart_rest a b (n ∷ p) q same apart)))
  where
    absurd_apart : (n : List ℕ) (p q : Path) → q ≡ [] → is_apart (n ∷ p) q ≡ true → ⊥
    absurd_apart n p [] none h = cc
    absurd_apart n p (b ∷ q) none h = absurd cc

-- a value that is put is found there
pub put_stands : (a : List ℕ) (p : Path) (value : Datum) (document after : Fields) → put_at (a ∷ p) value document ≡ Ok after →
    value_at (a ∷ p) after ≡ Some value
put_stands a [] value document after e =
    let is : with_field a value document ≡ after = cc in ap (λ (ms : Fields). get a ms) (sym is) ∙ put_there a value document
put_stands a (n ∷ p) value document after e =
    let inside : PutsInside a (n ∷ p) value document after = puts_inside a n p value document after e in
    ap (λ (ms : Fields). option_and_then (value_at (n ∷ p)) (option_and_then as_document (get a ms))) inside.is
    ∙ ap (λ (x : Option Datum). option_and_then (value_at (n ∷ p)) (option_and_then as_document x)) (put_there a (document_value inside.changed) document)
    ∙ put_stands n p value inside.inner inside.changed inside.put

-- a document inside, or none
inside_stays : (a b : List ℕ) (p q : Path) (found : Option Datum) (document : Fields) (same : Bool) → bytes_eq a b ≡ same → get a document ≡ found →
    ((ms : Fields) → bytes_eq a b ≡ true → value_at q (take_at p ms) ≡ value_at q ms) → (bytes_eq a b ≡ true → q ≡ [] → ⊥) →
    value_at (b ∷ q) (change_inside a (take_at p) found document) ≡ value_at (b ∷ q) document
inside_stays a b p q (Some (document_value ms)) document false e there rest some = value_by b q (with_field a (document_value (take_at p ms)) document) document (put_beside a b (document_value (take_at p ms)) document e)
inside_stays a b p q (Some (document_value ms)) document true e there rest some =
    at_name a b q (Some (document_value ms)) document ms (take_at p ms) (same_bytes a b e) there refl (rest ms e) (some e)
inside_stays a b p q (Some d) document same e there rest some = refl
inside_stays a b p q None document same e there rest some = refl

pub take_leaves : (p q : Path) (document : Fields) → is_apart p q ≡ true → value_at q (take_at p document) ≡ value_at q document
take_leaves [] q document apart = refl
take_leaves (a ∷ p) [] document apart = absurd cc
take_leaves (a ∷ []) (b ∷ q) document apart = by_same (bytes_eq a b) refl
  where
    by_same : (same : Bool) → bytes_eq a b ≡ same → value_at (b ∷ q) (without_field a document) ≡ value_at (b ∷ q) document
    by_same true e = absurd (apart_empty q (apart_rest a b [] q e apart))
    by_same false e = value_by b q (without_field a document) document (take_beside a b document e)
take_leaves (a ∷ n ∷ p) (b ∷ q) document apart =
    inside_stays a b (n ∷ p) q (get a document) document (bytes_eq a b) refl refl (λ ms same. take_leaves (n ∷ p) q ms (apart_rest a b (n ∷ p) q same apart))
    (λ same none. absurd_apart n p q none (apart_rest a b (n ∷ p) q same apart))
  where
    absurd_apart : (n : List ℕ) (p q : Path) → q ≡ [] → is_apart (n ∷ p) q ≡ true → ⊥
    absurd_apart n p [] none h = cc
    absurd_apart n p (b ∷ q) none h = absurd cc
