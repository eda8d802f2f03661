-- A value as a list of tokens, whose order from left to right is the order of values.
use Rattle.std.proofs.Common.{◌≡◌, ℕ, ℤ, pos, List, [], ◌∷◌, ◌++◌, refl, sym, ap, ◌∙◌, subst, Ordering, Less, Equal, Greater, nat_cmp}
use Rattle.std.specs.Prelude.{Bool, false, ◌==◌, ◌||◌}
use Rattle.std.specs.Ordering.{ordering_then, on, then_cmp}
use Rattle.std.specs.Cmp.{IsTotalOrder}
use Rattle.std.specs.Cmp.Lexicographic.{slice_cmp}
use Rattle.std.proofs.lemmas.Cmp.{on_total, then_total, nat_cmp_total, int_cmp_total, nat_list_cmp_total, lists_total, ranked}
use Rattle.std.proofs.lemmas.List.{append_assoc, append-nil}
use Rattle.bson_model.specs.Tree.{Datum, document_value, array_value, Items, no_items, item, Fields, no_fields, field}
use Rattle.value_model.specs.Order.{class_of, scalar_of, order_scalars, order_within, order_items, order_fields, order}

abbrev Token : Type 0
Token = ℕ × (ℤ × List ℕ)

abbrev order_tokens : Token → Token → Ordering
order_tokens = then_cmp (on (λ t. t.0) nat_cmp) (on (λ t. t.1) order_scalars)

-- of an end, and of what comes before one more value
abbrev end : Token
end = (0, (pos 0, []))

abbrev more : Token
more = (1, (pos 0, []))

abbrev mutual
  content : Datum → List Token
  content (document_value ms) = fields_tokens ms
  content (array_value ds) = items_tokens ds
  content d = (0, scalar_of d) ∷ []

  items_tokens : Items → List Token
  items_tokens no_items = end ∷ []
  items_tokens (item d ds) = more ∷ (class_of d, (pos 0, [])) ∷ (content d ++ items_tokens ds)

  fields_tokens : Fields → List Token
  fields_tokens no_fields = end ∷ []
  fields_tokens (field name d ms) = more ∷ (class_of d, (pos 0, name)) ∷ (content d ++ fields_tokens ms)

abbrev tokens : Datum → List Token
tokens d = (class_of d, (pos 0, [])) ∷ content d

-- the classes of documents and arrays
abbrev holds_values : ℕ → Bool
holds_values c = (c == 4) || (c == 5)

plain : (d : Datum) → holds_values (class_of d) ≡ false → content d ≡ (0, scalar_of d) ∷ []
plain (document_value ms) e = absurd (cc e)
plain (array_value ds) e = absurd (cc e)
plain d e = refl

-- a class, then a name, then a value, and then what is left
chained : (c n w m r s : Ordering) → (c ≡ Equal → s ≡ ordering_then w (ordering_then m r)) →
    ordering_then (ordering_then c n) s ≡ ordering_then (ordering_then c (ordering_then n (ordering_then w m))) r
chained Less n w m r s h = refl
chained Greater n w m r s h = refl
chained Equal Less w m r s h = refl
chained Equal Greater w m r s h = refl
chained Equal Equal Less m r s h = h refl
chained Equal Equal Equal m r s h = h refl
chained Equal Equal Greater m r s h = h refl

pub one_class : (a b : ℕ) → nat_cmp a b ≡ Equal → a ≡ b
one_class a b e = ranked a b Equal (sym e)

mutual
  within_flat : (a b : Datum) (xs ys : List Token) → class_of a ≡ class_of b →
      slice_cmp order_tokens (content a ++ xs) (content b ++ ys) ≡ ordering_then (order_within a b) (slice_cmp order_tokens xs ys)
  within_flat (document_value ms) (document_value ns) xs ys e = fields_flat ms ns xs ys
  within_flat (document_value ms) b xs ys e = absurd (cc e)
  within_flat (array_value ds) (array_value es) xs ys e = items_flat ds es xs ys
  within_flat (array_value ds) b xs ys e = absurd (cc e)
  within_flat a b xs ys e = rw (plain b (ap holds_values (sym e))) refl

  items_flat : (ds es : Items) (xs ys : List Token) →
      slice_cmp order_tokens (items_tokens ds ++ xs) (items_tokens es ++ ys) ≡ ordering_then (order_items ds es) (slice_cmp order_tokens xs ys)
  items_flat no_items no_items xs ys = refl
  items_flat no_items (item e es) xs ys = refl
  items_flat (item d ds) no_items xs ys = refl
  items_flat (item d ds) (item e es) xs ys =
      rw (append_assoc (content d) (items_tokens ds) xs, append_assoc (content e) (items_tokens es) ys)
      (chained (nat_cmp (class_of d) (class_of e)) Equal (order_within d e) (order_items ds es) (slice_cmp order_tokens xs ys) _
      (λ same. within_flat d e (items_tokens ds ++ xs) (items_tokens es ++ ys) (one_class _ _ same)
      ∙ ap (λ (o : Ordering). ordering_then (order_within d e) o) (items_flat ds es xs ys)))

  fields_flat : (ms ns : Fields) (xs ys : List Token) →
      slice_cmp order_tokens (fields_tokens ms ++ xs) (fields_tokens ns ++ ys) ≡ ordering_then (order_fields ms ns) (slice_cmp order_tokens xs ys)
  fields_flat no_fields no_fields xs ys = refl
  fields_flat no_fields (field n e ns) xs ys = refl
  fields_flat (field m d ms) no_fields xs ys = refl
  fields_flat (field m d ms) (field n e ns) xs ys =
      rw (append_assoc (content d) (fields_tokens ms) xs, append_assoc (content e) (fields_tokens ns) ys)
      (chained (nat_cmp (class_of d) (class_of e)) (slice_cmp nat_cmp m n) (order_within d e) (order_fields ms ns) (slice_cmp order_tokens xs ys) _
      (λ same. within_flat d e (fields_tokens ms ++ xs) (fields_tokens ns ++ ys) (one_class _ _ same)
      ∙ ap (λ (o : Ordering). ordering_then (order_within d e) o) (fields_flat ms ns xs ys)))

order_tokens_total : IsTotalOrder order_tokens
order_tokens_total = then_total (on_total (λ (t : Token). t.0) nat_cmp_total)
    (on_total (λ (t : Token). t.1) (then_total (on_total (λ (s : ℤ × List ℕ). s.0) int_cmp_total) (on_total (λ (s : ℤ × List ℕ). s.1) nat_list_cmp_total)))

then_Equal : (o : Ordering) → ordering_then o Equal ≡ o
then_Equal Less = refl
then_Equal Equal = refl
then_Equal Greater = refl

by_class : (c s w : Ordering) → (c ≡ Equal → s ≡ w) → ordering_then (ordering_then c Equal) s ≡ ordering_then c w
by_class Less s w h = refl
by_class Equal s w h = h refl
by_class Greater s w h = refl

flat : (a b : Datum) → slice_cmp order_tokens (tokens a) (tokens b) ≡ order a b
flat a b =
    by_class (nat_cmp (class_of a) (class_of b)) (slice_cmp order_tokens (content a) (content b)) (order_within a b)
    (λ same.
    let whole = within_flat a b [] [] (one_class _ _ same) in
    let ends = rw (append-nil (content a), append-nil (content b)) at whole in
    ends ∙ then_Equal (order_within a b))

pub order_total : IsTotalOrder order
order_total = subst IsTotalOrder (λ i a b. flat a b i) (on_total tokens (lists_total order_tokens_total))
