-- How lists grow where their items are read, one after another.
use Rattle.std.proofs.Common.{◌≡◌, ℕ, zero, suc, ◌+◌, ◌-◌, ◌<◌, ◌≤◌, List, [], ◌∷◌, ◌++◌, length, map, refl, sym, ap, ◌∙◌, subst, arith, append_assoc, length-append, ◌^◌}
use Rattle.std.proofs.lemmas.List.{append-nil}
use Rattle.std.specs.Prelude.{Option, Some, None, Err}
use Rattle.std.specs.List.{AllByRecursion, flat_map}
use Rattle.record_model.specs.RecordFormat.{four, spelled_list}
use Rattle.record_parts.specs.Finds.{Finds}
use Rattle.record_parts.specs.declared.fault.RecordFault.{RecordFault}
use Rattle.record_parts.specs.declared.fault.RecordFault.TheVariants.{NoRecord, Memory}
use Rattle.record_parts.specs.Readers.{◌>>=◌, Found, four_at, items_at, list_at}
use Rattle.record_parts.proofs.Again.{stepped, first, four_again}

-- these items, and then those that were found
abbrev pub with_front : {X : Type 0} → List X → Found (List X) → Found (List X)
with_front front None = None
with_front front (Some x) = Some (front ++ x.0, x.1)

-- of so many items those up to i were read, and what is read of the rest gives all of them
pub record ReadSoFar {X : Type 0} (item_at : List ℕ → Found X) (count i : ℕ) (items : List X) (left bytes : List ℕ) : Type 0 where
  pub rest : with_front items (items_at item_at (count - i) left) ≡ items_at item_at count bytes
  pub number : length items ≡ i
  pub within : i ≤ count

none_in_front : {X : Type 0} (found : Found (List X)) → with_front [] found ≡ found
none_in_front None = refl
none_in_front (Some x) = refl

pub begins : {X : Type 0} (item_at : List ℕ → Found X) (count : ℕ) (bytes : List ℕ) → ReadSoFar item_at count 0 [] bytes bytes
begins item_at count bytes = record {
  rest = let all : count - 0 ≡ count = omega arith in ap (λ (m : ℕ). with_front [] (items_at item_at m bytes)) all ∙ none_in_front (items_at item_at count bytes);
  number = refl;
  within = omega arith;
}

pub begins_empty : {X Y : Type 0} (item_at : List ℕ → Found Y) (f : X → Y) (count : ℕ) (items : List X) (bytes : List ℕ) → items ≡ [] → ReadSoFar item_at count 0 (map f items) bytes bytes
begins_empty item_at f count items bytes e =
    subst (λ (xs : List _). ReadSoFar item_at count 0 xs bytes bytes) (sym (ap (map f) e)) (begins item_at count bytes)

pub none_held : {X Y : Type 0} (P : Y → Type 0) (f : X → Y) (items : List X) → items ≡ [] → AllByRecursion P (map f items)
none_held P f [] e = tt
none_held P f (x ∷ items) e = absurd (cc (e))

map_size : {X Y : Type 0} (f : X → Y) (items : List X) → length (map f items) ≡ length items
map_size f [] = refl
map_size f (x ∷ items) = ap suc (map_size f items)

pub counted : {X Y : Type 0} (item_at : List ℕ → Found Y) (f : X → Y) (count i : ℕ) (items : List X) (left bytes : List ℕ) → count ≤ i → ReadSoFar item_at count i (map f items) left bytes → length items ≡ count
counted item_at f count i items left bytes all so_far = omega (arith, map_size f items, so_far.number, so_far.within)

moved : {X : Type 0} (items : List X) (x : X) (found : Found (List X)) → with_front items (found >>= λ xs. Some (x ∷ xs.0, xs.1)) ≡ with_front (items ++ x ∷ []) found
moved items x None = refl
moved items x (Some xs) = ap (λ (ys : List _). Some (ys, xs.1)) (sym (append_assoc items (x ∷ []) xs.0))

one_more : {X : Type 0} (item_at : List ℕ → Found X) (n : ℕ) (items : List X) (x : X) (left rest : List ℕ) → item_at left ≡ Some (x, rest) → with_front items (items_at item_at (suc n) left) ≡ with_front (items ++ x ∷ []) (items_at item_at n rest)
unfolding items_at
one_more item_at n items x left rest e =
    ap (λ (found : Found _). with_front items found) (stepped _ e refl) ∙ moved items x (items_at item_at n rest)

pub goes_on : {X : Type 0} (item_at : List ℕ → Found X) (count i : ℕ) (items : List X) (x : X) (left rest bytes : List ℕ) → i < count → item_at left ≡ Some (x, rest) → ReadSoFar item_at count i items left bytes → ReadSoFar item_at count (i + 1) (items ++ x ∷ []) rest bytes
goes_on item_at count i items x left rest bytes within e so_far =
    let n : ℕ = count - (i + 1) in
    let left_over : count - i ≡ suc n = omega (arith, within) in
    record {
      rest = sym (one_more item_at n items x left rest e) ∙ ap (λ (m : ℕ). with_front items (items_at item_at m left)) (sym left_over) ∙ so_far.rest;
      number = omega (arith, so_far.number, length-append items (x ∷ []));
      within = omega (arith, within);
    }

stops : {X : Type 0} (item_at : List ℕ → Found X) (n : ℕ) (left : List ℕ) → item_at left ≡ None → items_at item_at (suc n) left ≡ None
unfolding items_at
stops item_at n left e = ap (λ (found : Found _). found >>= λ x. items_at item_at n x.1 >>= λ xs. Some (x.0 ∷ xs.0, xs.1)) e

pub fails : {X : Type 0} (item_at : List ℕ → Found X) (count i : ℕ) (items : List X) (left bytes : List ℕ) → i < count → item_at left ≡ None → ReadSoFar item_at count i items left bytes → items_at item_at count bytes ≡ None
fails item_at count i items left bytes within e so_far =
    let n : ℕ = count - (i + 1) in
    let left_over : count - i ≡ suc n = omega (arith, within) in
    sym so_far.rest ∙ ap (λ (m : ℕ). with_front items (items_at item_at m left)) left_over ∙ ap (λ (found : Found _). with_front items found) (stops item_at n left e)

nothing_left : {X : Type 0} (item_at : List ℕ → Found X) (left : List ℕ) (items : List X) → with_front items (items_at item_at 0 left) ≡ Some (items, left)
unfolding items_at
nothing_left item_at left items = ap (λ (xs : List _). Some (xs, left)) (append-nil items)

pub ends : {X : Type 0} (item_at : List ℕ → Found X) (count i : ℕ) (items : List X) (left bytes : List ℕ) → count ≤ i → ReadSoFar item_at count i items left bytes → items_at item_at count bytes ≡ Some (items, left)
ends item_at count i items left bytes all so_far =
    let none : count - i ≡ 0 = omega (arith, all) in
    sym so_far.rest ∙ ap (λ (m : ℕ). with_front items (items_at item_at m left)) none ∙ nothing_left item_at left items

pub map_behind : {X Y : Type 0} (f : X → Y) (items : List X) (x : X) → map f (items ++ x ∷ []) ≡ map f items ++ f x ∷ []
map_behind f [] x = refl
map_behind f (y ∷ items) x = ap (λ ys. f y ∷ ys) (map_behind f items x)

-- items that end themselves are read as they are encoded
pub items_again : {X : Type 0} (item_at : List ℕ → Found X) (spelled_item : X → List ℕ) (P : X → Type 0) → ((x : X) (rest : List ℕ) → P x → item_at (spelled_item x ++ rest) ≡ Some (x, rest)) → (xs : List X) (rest : List ℕ) → AllByRecursion P xs → items_at item_at (length xs) (flat_map spelled_item xs ++ rest) ≡ Some (xs, rest)
unfolding items_at
items_again item_at spelled_item P item [] rest all = refl
items_again item_at spelled_item P item (x ∷ xs) rest all =
    stepped _ (first item_at (spelled_item x) (flat_map spelled_item xs) rest (item x (flat_map spelled_item xs ++ rest) all.0))
    (stepped _ (items_again item_at spelled_item P item xs rest all.1) refl)

pub list_again : {X : Type 0} (item_at : List ℕ → Found X) (spelled_item : X → List ℕ) (P : X → Type 0) → ((x : X) (rest : List ℕ) → P x → item_at (spelled_item x ++ rest) ≡ Some (x, rest)) → (xs : List X) (rest : List ℕ) → length xs < 2 ^ 32 → AllByRecursion P xs → list_at item_at (spelled_list spelled_item xs ++ rest) ≡ Some (xs, rest)
unfolding list_at
list_again item_at spelled_item P item xs rest few all =
    stepped _ (first four_at (four (length xs)) (flat_map spelled_item xs) rest (four_again (length xs) (flat_map spelled_item xs ++ rest) few))
    (items_again item_at spelled_item P item xs rest all)

-- where a part fails so does the whole
pub failed : {X W : Type 0} (e : RecordFault) (there : Option X) (whole : Option W) → (there ≡ None → whole ≡ None) → Finds (λ (x : X). x) (Err e) there → Finds (λ (x : W). x) (Err e) whole
failed NoRecord there whole none h = none h
failed Memory there whole none h = tt
