-- What is seen of a collection once the chain of one key changed.
use Rattle.std.proofs.Common.{◌≡◌, ◌+◌, ◌≤◌, ℕ, List, [], ◌∷◌, ◌++◌, refl, sym, ap, ◌∙◌, arith}
use Rattle.std.specs.Prelude.{Bool, true, false, cond, ◌&&◌, Option, Some, None, nat_le, if◌then◌else◌}
use Rattle.std.specs.BTreeMap.{BTreeMap, get_by}
use Rattle.query_model.proofs.Entries.{equal_is, same_find}
use Rattle.bson_values.specs.Tree.{Datum}
use Rattle.value_compare.specs.Order.{order, same_value}
use Rattle.value_compare.proofs.Flat.{order_total}
use Rattle.history_model.specs.Versions.{Put, one_more}
use Rattle.mvcc_collection.specs.Chains.{Dated, Past, document_left, last_time}
use Rattle.mvcc_collection.specs.Places.{chain_at}
use Rattle.mvcc_collection.specs.Collections.{document_in, last_of, room_of, at_in, last_in, room_in, past_in}
use Rattle.mvcc_collection.specs.declared.collection.Collection.{Collection}
use Rattle.mvcc_collection.proofs.Chains.{left_push, last_push}

-- keys that compare equal find the same
pub same_place : (m : BTreeMap Datum ℕ) (a b : Datum) → same_value a b ≡ true → get_by (order a) m ≡ get_by (order b) m
same_place m a b same = same_find order_total a b m.entries (equal_is (order a b) same)

same_past : (c : Collection) (a b : Datum) → same_value a b ≡ true → past_in c a ≡ past_in c b
same_past c a b same = ap (λ (place : Option ℕ). chain_at c.chains.items place) (same_place c.places a b same)

pub same_documents : (c : Collection) (a b : Datum) (time : ℕ) → same_value a b ≡ true → at_in c a time ≡ at_in c b time
unfolding at_in
same_documents c a b time same = ap (λ (p : Option Past). document_in p time) (same_past c a b same)

pub same_last : (c : Collection) (a b : Datum) → same_value a b ≡ true → last_in c a ≡ last_in c b
unfolding last_in
same_last c a b same = ap last_of (same_past c a b same)

pub same_room : (c : Collection) (a b : Datum) → same_value a b ≡ true → room_in c a ≡ room_in c b
unfolding room_in
same_room c a b same = ap room_of (same_past c a b same)

-- the versions that each key has
abbrev pub Pasts : Type 0
Pasts = Datum → Option Past

-- keys that compare equal have the same
abbrev pub AreOfKeys : Pasts → Type 0
AreOfKeys pasts = (a b : Datum) → same_value a b ≡ true → pasts a ≡ pasts b

-- the key has these versions now, and others have theirs as before
abbrev pub IsChanged : (old new : Pasts) (key : Datum) (past : Past) → Type 0
IsChanged old new key past = (q : Datum) → new q ≡ cond (same_value key q) (Some past) (old q)

module _ (old new : Pasts) (alike : AreOfKeys old) (key : Datum) (before : Option Past) (is : old key ≡ before) (past : Past)
    (changed : IsChanged old new key past) where
  same_before : (q : Datum) → same_value key q ≡ true → old q ≡ before
  same_before q same = sym (alike key q same) ∙ is

  by_key : {A : Type 0} (see : Option Past → A) (P : A → A → Type 0) (q : Datum) (same : Bool) → same_value key q ≡ same →
      (same ≡ true → P (see (Some past)) (see before)) → (same ≡ false → P (see (old q)) (see (old q))) →
      P (see (new q)) (see (old q))
  by_key see P q true e own other = rw (changed q, e, same_before q e) (own refl)
  by_key see P q false e own other = rw (changed q, e) (other refl)

  module _ (versions : past.versions ≡ (elim before [ None ↦ [] | Some p ↦ p.versions ])) where
    as_document : (b : Option Past) → past.versions ≡ (elim b [ None ↦ [] | Some p ↦ p.versions ]) → (time : ℕ) →
        document_in (Some past) time ≡ document_in b time
    as_document None e time = ap (λ (vs : List Dated). document_left vs time) e
    as_document (Some p) e time = ap (λ (vs : List Dated). document_left vs time) e

    as_last : (b : Option Past) → past.versions ≡ (elim b [ None ↦ [] | Some p ↦ p.versions ]) → last_of (Some past) ≡ last_of b
    as_last None e = ap last_time e
    as_last (Some p) e = ap last_time e

    pub documents_stay : (q : Datum) (time : ℕ) → document_in (new q) time ≡ document_in (old q) time
    documents_stay q time =
        by_key (λ b. document_in b time) (λ x y. x ≡ y) q (same_value key q) refl (λ same. as_document before versions time) (λ other. refl)

    pub last_stays : (q : Datum) → last_of (new q) ≡ last_of (old q)
    last_stays q = by_key last_of (λ x y. x ≡ y) q (same_value key q) refl (λ same. as_last before versions) (λ other. refl)

  pub rooms_grow : room_of before ≤ past.room → (q : Datum) → room_of (old q) ≤ room_of (new q)
  rooms_grow grows q = by_key room_of (λ x y. y ≤ x) q (same_value key q) refl (λ same. grows) (λ other. omega arith)

module _ (old new : Pasts) (alike : AreOfKeys old) (key : Datum) (before : Past) (is : old key ≡ Some before) (past : Past)
    (changed : IsChanged old new key past) (v : Dated) (grown : past.versions ≡ before.versions ++ v ∷ []) where
  abbrev put : Put
  put = record { key = key; time = v.0; document = v.1 }

  pub documents_put : (q : Datum) (time : ℕ) → document_in (new q) time ≡ one_more put q time (document_in (old q) time)
  documents_put q time =
      by_key old new alike key (Some before) is past changed (λ b. document_in b time) (λ x y. x ≡ one_more put q time y) q (same_value key q) refl
      (λ same. ap (λ (vs : List Dated). document_left vs time) grown ∙ left_push None before.versions v time
      ∙ ap (λ (b : Bool). if b && nat_le v.0 time then v.1 else document_left before.versions time) (sym same))
      (λ other. ap (λ (b : Bool). if b && nat_le v.0 time then v.1 else document_in (old q) time) (sym other))

  pub last_put_time : (q : Datum) → last_of (new q) ≡ (if same_value key q then Some v.0 else last_of (old q))
  last_put_time q =
      by_key old new alike key (Some before) is past changed last_of (λ x y. x ≡ (if same_value key q then Some v.0 else y)) q (same_value key q) refl
      (λ same. ap last_time grown ∙ last_push before.versions v ∙ ap (λ (b : Bool). if b then Some v.0 else last_time before.versions) (sym same))
      (λ other. ap (λ (b : Bool). if b then Some v.0 else last_of (old q)) (sym other))

  pub one_room : before.room ≤ past.room + 1 → (q : Datum) →
      room_of (old q) ≤ room_of (new q) + (if same_value key q then 1 else 0)
  one_room room q =
      by_key old new alike key (Some before) is past changed room_of (λ x y. y ≤ x + (if same_value key q then 1 else 0)) q (same_value key q) refl
      (λ same. rw same room) (λ other. omega arith)
