-- Chunks that follow one another from below all keys to above them give every key an owner.
use Rattle.std.proofs.Common.{◌≡◌, ℕ, List, [], ◌∷◌, refl, sym, subst, Ordering, Less, Equal, Greater}
use Rattle.std.specs.Prelude.{Bool, true, ◌&&◌, Option, Some, None, is_some, if◌then◌else◌}
use Rattle.std.specs.Ordering.{ordering_reverse, is_le, is_lt, is_eq}
use Rattle.std.specs.Cmp.{Equal-is}
use Rattle.bson_model.specs.Tree.{Datum, document_value, array_value, min_key_value, max_key_value}
use Rattle.value_model.specs.Order.{order}
use Rattle.value_model.specs.Keys.{is_key, Bound, min_bound, max_bound, value_of_bound, order_bounds}
use Rattle.value_model.proofs.Flat.{order_total}
use Rattle.chunk_model.specs.Tables.{Chunk, Table, newest, chunk_of, owner_now}
use Rattle.chunk_table.specs.Whole.{follow_from}
use Rattle.bson_model.proofs.Booleans.{both}

-- who has the key now, of the chunk that was found
abbrev owner_of : Option Chunk → Option ℕ
owner_of found = elim found as (λ (o : Option Chunk). Option ℕ) [ None ↦ None | Some c ↦ newest c.owners ]

by_end : (end : Ordering) (low : Bool) (c : Chunk) (others : Option Chunk) → low ≡ true → is_some (newest c.owners) ≡ true → (is_le (ordering_reverse end) ≡ true → is_some (owner_of others) ≡ true) → is_some (owner_of (if low && is_lt end then Some c else others)) ≡ true
by_end Less low c others above has later = rw above has
by_end Equal low c others above has later = rw above (later refl)
by_end Greater low c others above has later = rw above (later refl)

below_end : (key : Datum) → is_key key ≡ true → is_le (order max_key_value key) ≡ true → ⊥
below_end (document_value ms) valid e = cc
below_end (array_value ds) valid e = cc
below_end min_key_value valid e = cc
below_end max_key_value valid e = cc
below_end key valid e = cc

-- a bound that is where another is has the same order to a key
as_far : (a b : Bound) (key : Datum) → is_eq (order_bounds a b) ≡ true → order (value_of_bound a) key ≡ order (value_of_bound b) key
as_far a b key same = order_total.congr (value_of_bound a) (value_of_bound b) key ((Equal-is (order_bounds a b)).0 same)

covered : (chunks : List Chunk) (start : Bound) (key : Datum) → is_key key ≡ true → follow_from start chunks ≡ true → is_le (order (value_of_bound start) key) ≡ true → is_some (owner_of (chunk_of key chunks)) ≡ true
covered [] start key valid follows above =
    absurd (below_end key valid (subst (λ (o : Ordering). is_le o ≡ true) (as_far start max_bound key follows) above))
covered (c ∷ chunks) start key valid follows above =
    let begin = both _ _ follows in
    let others = both _ _ begin.1 in
    let end = value_of_bound c.range.max in
    let low : is_le (order (value_of_bound c.range.min) key) ≡ true = subst (λ (o : Ordering). is_le o ≡ true) (as_far start c.range.min key begin.0) above in
    by_end (order key end) _ c (chunk_of key chunks) low others.0 (λ turned. covered chunks c.range.max key valid others.1 (subst (λ (o : Ordering). is_le o ≡ true) (sym (order_total.antisymm end key)) turned))

at_start : (key : Datum) → is_key key ≡ true → is_le (order min_key_value key) ≡ true
at_start (document_value ms) valid = absurd (cc valid)
at_start (array_value ds) valid = absurd (cc valid)
at_start min_key_value valid = absurd (cc valid)
at_start max_key_value valid = absurd (cc valid)
at_start key valid = refl

pub every_key : (t : Table) (key : Datum) → follow_from min_bound t.chunks ≡ true → is_key key ≡ true → is_some (owner_now t key) ≡ true
every_key t key follows valid = covered t.chunks min_bound key valid follows (at_start key valid)
