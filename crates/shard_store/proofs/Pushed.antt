-- What entries leave at a time, with one more.
use Rattle.std.proofs.Common.{◌≡◌, ◌≤◌, ◌<◌, ◌⊎◌, inl, inr, ℕ, List, [], ◌∷◌, ◌++◌, refl, sym, ap, subst, ◌∙◌, arith, append-nil}
use Rattle.std.specs.Prelude.{Bool, true, false, ◌&&◌, Option, Some, None, filter, nat_le, if◌then◌else◌}
use Rattle.std.specs.Str.{bytes_eq}
use Rattle.std.proofs.lemmas.Bool.{le-leb}
use Rattle.std.proofs.lemmas.Bool.Decides.{leb_tells}
use Rattle.std.proofs.lemmas.List.Elements.{filter-append}
use Rattle.std.proofs.lemmas.Slice.Eq.{bytes_eq-Decides}
use Rattle.bson_values.specs.Tree.{Datum, Fields}
use Rattle.value_compare.specs.Order.{same_value}
use Rattle.node_model.specs.History.{Operation, same_key, key_written, effect, Entry, writes_to, document_after, document_left, document_at, IsIn}
use Rattle.history_model.proofs.LegalHistories.{same_written}
use Rattle.history_model.proofs.Lists.{in_first, in_later}
use Rattle.history_model.proofs.Stores.{document_after_push}
use Rattle.history_model.specs.Versions.{one_more}
use Rattle.shard_store.specs.Entries.{entry_view, is_other, left_behind, operation_of, put_of}
use Rattle.shard_store.specs.Plans.{IsNext}
use Rattle.shard_store.specs.declared.entry.Left.{Left}
use Rattle.shard_store.specs.declared.entry.Left.TheVariants.{Same, Other}
use Rattle.shard_store.specs.declared.entry.Planned.{Planned}

-- keys that compare equal find the same
pub same_left : (namespace : List ℕ) (a b : Datum) → same_value a b ≡ true → (before : Option Fields) (es : List Entry) →
    document_after namespace (Some a) before es ≡ document_after namespace (Some b) before es
same_left namespace a b same before [] = refl
same_left namespace a b same before (e ∷ es) =
    ap (λ (hit : Bool). document_after namespace (Some a) (if bytes_eq e.namespace namespace && hit then (effect e.operation before).0 else before) es)
    (same_written (key_written e.operation) a b same)
    ∙ same_left namespace a b same (if writes_to namespace (Some b) e then (effect e.operation before).0 else before) es

-- entries that are all up to a time
filter_whole : (time : ℕ) (es : List Entry) → ((e : Entry) → IsIn e es → e.time ≤ time) → filter (λ (e : Entry). nat_le e.time time) es ≡ es
filter_whole time [] all = refl
filter_whole time (e ∷ es) all =
    rw (le-leb e.time time (all e (in_first e es))) (ap (λ (l : List Entry). e ∷ l) (filter_whole time es (λ d i. all d (in_later d e es i))))

-- at a time that no entry is later than, all of them count
pub left_at : (es : List Entry) (last time : ℕ) → ((e : Entry) → IsIn e es → e.time ≤ last) → last ≤ time → (namespace : List ℕ) (key : Option Datum) →
    document_at es namespace key time ≡ document_left namespace key es
left_at es last time past le namespace key =
    ap (λ (l : List Entry). document_left namespace key l) (filter_whole time es (λ e i. omega (arith, past e i, le)))

-- one more entry
at_push : (n : List ℕ) (key : Option Datum) (t : ℕ) (es : List Entry) (e : Entry) → document_at (es ++ e ∷ []) n key t
    ≡ (if nat_le e.time t then (if writes_to n key e then (effect e.operation (document_at es n key t)).0 else document_at es n key t) else document_at es n key t)
at_push n key t es e =
    ap (λ (l : List Entry). document_left n key l) (filter-append (λ (d : Entry). nat_le d.time t) es (e ∷ [])) ∙ by_test (nat_le e.time t)
  where
    before : List Entry
    before = filter (λ (d : Entry). nat_le d.time t) es

    by_test : (test : Bool) → document_left n key (before ++ (if test then e ∷ [] else []))
        ≡ (if test then (if writes_to n key e then (effect e.operation (document_left n key before)).0 else document_left n key before) else document_left n key before)
    by_test true = document_after_push n key None before e
    by_test false = ap (λ (l : List Entry). document_left n key l) (append-nil before)

-- what is stored at a time, by whether another is left, and writes here and up to then
by_tests : (left : Left) (name same early : Bool) (was d after : Option Fields) → was ≡ d → (name ≡ true → same ≡ true → early ≡ true → left_behind left d ≡ after) →
    (if is_other left && name then (if same && early then left_behind left None else was) else was) ≡ (if early then (if name && same then after else d) else d)
by_tests (Other document) true true true was d after e h = h refl refl refl
by_tests Same true true true was d after e h = e ∙ h refl refl refl
by_tests (Other document) true true false was d after e h = e
by_tests (Other document) true false true was d after e h = e
by_tests (Other document) true false false was d after e h = e
by_tests (Other document) false same true was d after e h = e
by_tests (Other document) false same false was d after e h = e
by_tests Same true true false was d after e h = e
by_tests Same true false true was d after e h = e
by_tests Same true false false was d after e h = e
by_tests Same false same true was d after e h = e
by_tests Same false same false was d after e h = e

at_least : (a b : ℕ) → nat_le a b ≡ true → a ≤ b
at_least a b e = by_test (leb_tells a b) e
  where
    by_test : ((nat_le a b ≡ true) × (a ≤ b)) ⊎ ((nat_le a b ≡ false) × (b < a)) → nat_le a b ≡ true → a ≤ b
    by_test (inl met) e = met.1
    by_test (inr unmet) e = absurd (let clash : true ≡ false = sym e ∙ unmet.0 in cc)

module _ (shard : ℕ) (entries : List Entry) (last : ℕ) (namespace : List ℕ) (p : Planned) (past : (e : Entry) → IsIn e entries → e.time ≤ last)
    (next : IsNext entries last namespace p) where
  abbrev operation : Operation
  operation = operation_of p.words

  -- where the entry writes, all entries before it count
  leaves : (n : List ℕ) (k : Datum) (t : ℕ) → bytes_eq namespace n ≡ true → same_value p.key k ≡ true → nat_le p.time.0 t ≡ true →
      left_behind p.left (document_at entries n (Some k) t) ≡ (effect operation (document_at entries n (Some k) t)).0
  leaves n k t name same early =
      let here : document_at entries n (Some k) t ≡ document_left namespace (Some p.key) entries =
      left_at entries last t past (omega (arith, next.later, at_least p.time.0 t early)) n (Some k)
      ∙ ap (λ (m : List ℕ). document_left m (Some k) entries) (sym ((bytes_eq-Decides namespace n).0 name))
      ∙ sym (same_left namespace p.key k same None entries) in
      subst (λ (b : Option Fields). left_behind p.left b ≡ (effect operation b).0) (sym here) next.does.leaves

  -- the collections show the entry too
  pub shown_after : (n : List ℕ) (k : Datum) (t : ℕ) (was now : Option Fields) → was ≡ document_at entries n (Some k) t →
      now ≡ (if is_other p.left && bytes_eq namespace n then one_more (put_of p.key p.time p.left) k t was else was) →
      now ≡ document_at (entries ++ entry_view shard namespace p ∷ []) n (Some k) t
  shown_after n k t was now e is =
      is
      ∙ by_tests p.left (bytes_eq namespace n) (same_value p.key k) (nat_le p.time.0 t) was (document_at entries n (Some k) t)
      (effect operation (document_at entries n (Some k) t)).0 e (leaves n k t)
      ∙ ap (λ (written : Option Datum). if nat_le p.time.0 t
      then (if bytes_eq namespace n && same_key written (Some k) then (effect operation (document_at entries n (Some k) t)).0 else document_at entries n (Some k) t)
      else document_at entries n (Some k) t) (sym next.does.under)
      ∙ sym (at_push n (Some k) t entries (entry_view shard namespace p))
