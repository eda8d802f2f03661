-- What a store says of itself, once it has one more entry.
use Rattle.std.proofs.Common.{◌≡◌, ◌≤◌, ◌<◌, ◌⊎◌, inl, inr, ℕ, List, [], ◌∷◌, ◌++◌, refl, sym, ap, subst, ◌∙◌, arith}
use Rattle.std.specs.Prelude.{Bool, true, false, ◌&&◌, Option, Some, None, Result, Ok, Err, IfSome, OnOk, filter, nat_le}
use Rattle.std.specs.List.{AllByRecursion}
use Rattle.std.specs.Str.{bytes_eq}
use Rattle.std.proofs.lemmas.List.{map-append}
use Rattle.bson_values.specs.Tree.{Datum}
use Rattle.value_compare.specs.Order.{same_value}
use Rattle.value_model.specs.Keys.{is_key}
use Rattle.value_model.proofs.Spans.{same_is_key}
use Rattle.node_model.specs.History.{same_key, key_written, Entry, writes_to, document_after, document_at, IsIn}
use Rattle.node_model.specs.ShardRows.{greatest_entry}
use Rattle.history_model.proofs.Lists.{in_first, in_later, in_push}
use Rattle.history_model.proofs.Keyed.{written_is_key}
use Rattle.shard_store.specs.Collections.{room_under}
use Rattle.shard_store.specs.declared.collections.Collections.{Collections}
use Rattle.shard_store.specs.Entries.{Kept, entry_view, entries_kept, note_kept, notes_kept}
use Rattle.shard_store.specs.declared.entry.Planned.{Planned}

-- the greatest time is at least that of an entry that follows
greatest_pushed : (es : List Entry) (e : Entry) → e.time ≤ greatest_entry (es ++ e ∷ [])
greatest_pushed [] e = omega arith
greatest_pushed (x ∷ es) e = let more = greatest_pushed es e in omega (arith, more)

greatest_within : (es : List Entry) (last : ℕ) → ((e : Entry) → IsIn e es → e.time ≤ last) → greatest_entry es ≤ last
greatest_within [] last past = omega arith
greatest_within (x ∷ es) last past =
    let first = past x (in_first x es) in
    let more = greatest_within es last (λ e i. past e (in_later e x es i)) in
    omega (arith, first, more)

-- where no entry is later than the last, and one is at its time, that is the greatest time
pub last_is_greatest : (es : List Entry) (last : ℕ) → ((e : Entry) → IsIn e es → e.time ≤ last) → last ≤ greatest_entry es → last ≡ greatest_entry es
last_is_greatest es last past reached = let within = greatest_within es last past in omega (arith, within, reached)

module _ (shard : ℕ) (kept new : List Kept) (namespace : List ℕ) (p : Planned) (grown : new ≡ kept ++ (namespace, p) ∷ []) where
  pub entries_grown : entries_kept shard new ≡ entries_kept shard kept ++ entry_view shard namespace p ∷ []
  entries_grown = ap (λ (l : List Kept). entries_kept shard l) grown ∙ map-append (λ (k : Kept). entry_view shard k.0 k.1) kept ((namespace, p) ∷ [])

  pub notes_grown : notes_kept new ≡ notes_kept kept ++ note_kept (namespace, p) ∷ []
  notes_grown = ap (λ (l : List Kept). notes_kept l) grown ∙ map-append note_kept kept ((namespace, p) ∷ [])

  pub past_grown : (last : ℕ) → ((e : Entry) → IsIn e (entries_kept shard kept) → e.time ≤ last) → last < p.time.0 →
      (e : Entry) → IsIn e (entries_kept shard new) → e.time ≤ p.time.0
  past_grown last past later e i =
      by_part (in_push e (entries_kept shard kept) (entry_view shard namespace p) (subst (λ (l : List Entry). IsIn e l) entries_grown i))
    where
      by_part : IsIn e (entries_kept shard kept) ⊎ (e ≡ entry_view shard namespace p) → e.time ≤ p.time.0
      by_part (inl j) = omega (arith, past e j, later)
      by_part (inr same) = omega (arith, ap (λ (d : Entry). d.time) same)

  pub reached_grown : p.time.0 ≤ greatest_entry (entries_kept shard new)
  reached_grown =
      subst (λ (l : List Entry). p.time.0 ≤ greatest_entry l) (sym entries_grown) (greatest_pushed (entries_kept shard kept) (entry_view shard namespace p))

-- versions that are no later than the entries are earlier than the next
pub versions_earlier : (o : Option ℕ) (last time : ℕ) → ((t : ℕ) → o ≡ Some t → t ≤ last) → last < time → IfSome o (λ t. t < time)
versions_earlier None last time each later = tt
versions_earlier (Some t) last time each later = omega (arith, each t refl, later)

pub versions_grown : (was now : Option ℕ) (last time : ℕ) → ((t : ℕ) → was ≡ Some t → t ≤ last) → last < time →
    ((t : ℕ) → now ≡ Some t → (t ≡ time) ⊎ (was ≡ Some t)) → (t : ℕ) → now ≡ Some t → t ≤ time
versions_grown was now last time each later entered t e = by_part (entered t e)
  where
    by_part : (t ≡ time) ⊎ (was ≡ Some t) → t ≤ time
    by_part (inl same) = omega (arith, same)
    by_part (inr old) = omega (arith, each t old, later)

pub on_ok : {T E : Type 0} (r : Result T E) (P Q : Type 0) → (P → Q) → OnOk r P → OnOk r Q
on_ok (Ok x) P Q step all = step all
on_ok (Err e) P Q step all = tt

-- room in the same collections for the same entries
pub same_rooms : (c : Collections) (m n : List ℕ) (ps qs : List Planned) → m ≡ n → ps ≡ qs → AllByRecursion (λ (p : Planned). 1 ≤ room_under c m p.key) ps →
    AllByRecursion (λ (p : Planned). 1 ≤ room_under c n p.key) qs
same_rooms c m n ps qs name same all =
    subst (λ (l : List ℕ). AllByRecursion (λ (p : Planned). 1 ≤ room_under c l p.key) qs) name
    (subst (λ (l : List Planned). AllByRecursion (λ (p : Planned). 1 ≤ room_under c m p.key) l) same all)

-- NOTHING IS STORED UNDER WHAT IS NO KEY

other_key : (written : Option Datum) (d : Datum) → is_key d ≡ false → ((key : Datum) → written ≡ Some key → is_key key ≡ true) → same_key written (Some d) ≡ false
other_key None d none own = refl
other_key (Some key) d none own = by_test (same_value key d) refl
  where
    by_test : (b : Bool) → same_value key d ≡ b → b ≡ false
    by_test false h = refl
    by_test true h = sym (own key refl) ∙ same_is_key key d h ∙ none

and_false : (a b : Bool) → b ≡ false → (a && b) ≡ false
and_false true b e = e
and_false false b e = refl

never_writes : (namespace : List ℕ) (d : Datum) → is_key d ≡ false → (e : Entry) → writes_to namespace (Some d) e ≡ false
never_writes namespace d none e =
    and_false (bytes_eq e.namespace namespace) (same_key (key_written e.operation) (Some d))
    (other_key (key_written e.operation) d none (λ key is. written_is_key e.operation key is))

never_left : (namespace : List ℕ) (d : Datum) → is_key d ≡ false → (es : List Entry) → document_after namespace (Some d) None es ≡ None
never_left namespace d none [] = refl
never_left namespace d none (e ∷ es) = rw (never_writes namespace d none e) (never_left namespace d none es)

pub nothing_at : (entries : List Entry) (namespace : List ℕ) (d : Datum) (time : ℕ) → is_key d ≡ false → document_at entries namespace (Some d) time ≡ None
nothing_at entries namespace d time none = never_left namespace d none (filter (λ (e : Entry). nat_le e.time time) entries)
