-- Members of a batch, from the last on: what is done so far, and one more.
use Rattle.std.proofs.Common.{◌≡◌, ℕ, ◌+◌, ◌≤◌, ◌<◌, List, [], ◌∷◌, ◌++◌, map, refl, sym, ap, ◌∙◌, subst, arith}
use Rattle.std.specs.Prelude.{Bool, true, false, ◌||◌, Option, Some, None, IfSome, nat_lt, nat_le, if◌then◌else◌}
use Rattle.std.specs.List.{AllByRecursion}
use Rattle.std.proofs.lemmas.Bool.Decides.{nat_tests}
use Rattle.std.proofs.lemmas.List.{append_assoc, append-nil}
use Rattle.bson_values.specs.Tree.{Datum, Fields}
use Rattle.value_compare.specs.Order.{same_value}
use Rattle.record_model.specs.Moves.{MovedDocument}
use Rattle.move_model.specs.Sources.{has_key}
use Rattle.move_model.specs.Batches.{keys_of_members}
use Rattle.move_model.specs.Recipients.{overlay}
use Rattle.history_model.proofs.Lists.{all_push}
use Rattle.move_model.proofs.Cursors.{differ}
use Rattle.move_model.proofs.Keys.{has_alike}
use Rattle.mvcc_collection.specs.Collections.{at_in, last_in, room_in}
use Rattle.mvcc_collection.specs.declared.collection.Collection.{Collection}
use Rattle.shard_records.specs.Batches.{moved_view}
use Rattle.shard_records.specs.declared.batch.MovedDocument as code
use Rattle.migration_recipient.specs.Applied.{HasRoom, IsLater, IsPut, IsSame, is_earlier}

-- a key among the members has what they have, and another what it had before
pub overlay_has : (ms : List MovedDocument) (k : Datum) (a b : Option Fields) → has_key k (keys_of_members ms) ≡ true → overlay ms k a ≡ overlay ms k b
overlay_has [] k a b has = absurd cc
overlay_has (m ∷ ms) k a b has = by (same_value m.key k) has (λ h. overlay_has ms k a b h)
  where
    by : (same : Bool) → (same || has_key k (keys_of_members ms)) ≡ true → (has_key k (keys_of_members ms) ≡ true → overlay ms k a ≡ overlay ms k b) →
        overlay ms k (if same then m.document else a) ≡ overlay ms k (if same then m.document else b)
    by true h rest = refl
    by false h rest = rest h

pub overlay_none : (ms : List MovedDocument) (k : Datum) (a : Option Fields) → has_key k (keys_of_members ms) ≡ false → overlay ms k a ≡ a
overlay_none [] k a none = refl
overlay_none (m ∷ ms) k a none = by (same_value m.key k) none (λ h. overlay_none ms k a h)
  where
    by : (same : Bool) → (same || has_key k (keys_of_members ms)) ≡ false → (has_key k (keys_of_members ms) ≡ false → overlay ms k a ≡ a) →
        overlay ms k (if same then m.document else a) ≡ a
    by true h rest = absurd (cc h)
    by false h rest = rest h

pub not_earlier : (last : Option ℕ) (time : ℕ) → last ≡ Some time → is_earlier last time ≡ false
not_earlier last time e = let never : nat_lt time time ≡ false = grind (arith, nat_tests) in ap (λ (o : Option ℕ). is_earlier o time) e ∙ never

pub earlier_of : (last : Option ℕ) (time : ℕ) → IfSome last (λ t. t < time) → is_earlier last time ≡ true
earlier_of None time less = refl
earlier_of (Some t) time less = grind (arith, less)

pub earlier_is : (last : Option ℕ) (time : ℕ) → is_earlier last time ≡ true → IfSome last (λ t. t < time)
earlier_is None time e = tt
earlier_is (Some t) time e = grind (arith, e)

pub at_middle : (P : MovedDocument → Type 0) (ms : List MovedDocument) (m : MovedDocument) (rest : List MovedDocument) →
    AllByRecursion P (ms ++ m ∷ rest) → P m
at_middle P [] m rest all = all.0
at_middle P (x ∷ ms) m rest all = at_middle P ms m rest all.1

-- the members after those that are left were applied
pub record Applies (before now : Collection) (all left : List MovedDocument) (time : ℕ) : Type 0 where
  pub rest : List MovedDocument
  pub whole : all ≡ left ++ rest
  pub documents : (k : Datum) (t : ℕ) → at_in now k t ≡ (if nat_le time t then overlay rest k (at_in before k t) else at_in before k t)
  pub last : (k : Datum) → last_in now k ≡ (if has_key k (keys_of_members rest) then Some time else last_in before k)
  pub rooms : (k : Datum) → has_key k (keys_of_members rest) ≡ false → room_in before k ≤ room_in now k

either : {A : Type 0} (b : Bool) (x : A) → x ≡ (if b then x else x)
either true x = refl
either false x = refl

pub begins : (c : Collection) (all : List MovedDocument) (time : ℕ) → Applies c c all all time
begins c all time = record {
  rest = [];
  whole = sym (append-nil all);
  documents = λ k t. either (nat_le time t) (at_in c k t);
  last = λ k. refl;
  rooms = λ k none. omega arith;
}

module _ (before now new : Collection) (all left : List MovedDocument) (m : MovedDocument) (time : ℕ)
    (h : Applies before now all (left ++ m ∷ []) time) where
  grown : all ≡ left ++ (m ∷ h.rest)
  grown = h.whole ∙ append_assoc left (m ∷ []) h.rest

  -- what a step needs: room, where the key is not done
  room_by : (has : Bool) → has_key m.key (keys_of_members h.rest) ≡ has → HasRoom before all → is_earlier (last_in now m.key) time ≡ true →
      1 ≤ room_in now m.key
  room_by true is room early =
      let done : last_in now m.key ≡ Some time = h.last m.key ∙ ap (λ (b : Bool). if b then Some time else last_in before m.key) is in
      absurd (differ (sym early ∙ not_earlier (last_in now m.key) time done))
  room_by false is room early =
      let one : 1 ≤ room_in before m.key = at_middle (λ x. 1 ≤ room_in before x.key) left m h.rest (subst (λ l. HasRoom before l) grown room) in
      let more : room_in before m.key ≤ room_in now m.key = h.rooms m.key is in omega (arith, one, more)

  pub step_room : HasRoom before all → is_earlier (last_in now m.key) time ≡ true → 1 ≤ room_in now m.key
  step_room = room_by (has_key m.key (keys_of_members h.rest)) refl

  -- a key that is done
  done_documents : IsSame now new → has_key m.key (keys_of_members h.rest) ≡ true → (k : Datum) (t : ℕ) → (same : Bool) → same_value m.key k ≡ same →
      at_in new k t ≡ (if nat_le time t then overlay h.rest k (if same then m.document else at_in before k t) else at_in before k t)
  done_documents stays has k t true is =
      stays.documents k t ∙ h.documents k t
      ∙ ap (λ (d : Option Fields). if nat_le time t then d else at_in before k t)
      (overlay_has h.rest k (at_in before k t) m.document (sym (has_alike m.key k (keys_of_members h.rest) is) ∙ has))
  done_documents stays has k t false is = stays.documents k t ∙ h.documents k t

  done_last : IsSame now new → has_key m.key (keys_of_members h.rest) ≡ true → (k : Datum) → (same : Bool) → same_value m.key k ≡ same →
      last_in new k ≡ (if same || has_key k (keys_of_members h.rest) then Some time else last_in before k)
  done_last stays has k true is =
      stays.last k ∙ h.last k
      ∙ ap (λ (b : Bool). if b then Some time else last_in before k) (sym (has_alike m.key k (keys_of_members h.rest) is) ∙ has)
  done_last stays has k false is = stays.last k ∙ h.last k

  neither_same : (k : Datum) → (same_value m.key k || has_key k (keys_of_members h.rest)) ≡ false → (same : Bool) → same_value m.key k ≡ same →
      (same ≡ false) × (has_key k (keys_of_members h.rest) ≡ false)
  neither_same k none true is = absurd (differ (sym (ap (λ (b : Bool). b || has_key k (keys_of_members h.rest)) is) ∙ none))
  neither_same k none false is = (refl, sym (ap (λ (b : Bool). b || has_key k (keys_of_members h.rest)) is) ∙ none)

  done : IsSame now new → has_key m.key (keys_of_members h.rest) ≡ true → Applies before new all left time
  done stays has = record {
    rest = m ∷ h.rest;
    whole = grown;
    documents = λ k t. done_documents stays has k t (same_value m.key k) refl;
    last = λ k. done_last stays has k (same_value m.key k) refl;
    rooms = λ k none.
        let apart = neither_same k none (same_value m.key k) refl in
        let a : room_in before k ≤ room_in now k = h.rooms k apart.1 in
        let b : room_in now k ≤ room_in new k = stays.rooms k in omega (arith, a, b);
  }

  -- a key that is put
  put_documents : IsPut m time now new → has_key m.key (keys_of_members h.rest) ≡ false → (k : Datum) (t : ℕ) → (same : Bool) → same_value m.key k ≡ same →
      (reached : Bool) → nat_le time t ≡ reached →
      at_in new k t ≡ (if reached then overlay h.rest k (if same then m.document else at_in before k t) else at_in before k t)
  put_documents puts none k t true is true r =
      puts.documents k t ∙ rw (is, r) refl ∙ sym (overlay_none h.rest k m.document (sym (has_alike m.key k (keys_of_members h.rest) is) ∙ none))
  put_documents puts none k t true is false r = puts.documents k t ∙ rw (is, r) refl ∙ h.documents k t ∙ rw r refl
  put_documents puts none k t false is reached r =
      puts.documents k t ∙ rw is refl ∙ h.documents k t ∙ ap (λ (b : Bool). if b then overlay h.rest k (at_in before k t) else at_in before k t) r

  put_last : IsPut m time now new → (k : Datum) → (same : Bool) → same_value m.key k ≡ same →
      last_in new k ≡ (if same || has_key k (keys_of_members h.rest) then Some time else last_in before k)
  put_last puts k true is = puts.last k ∙ ap (λ (b : Bool). if b then Some time else last_in now k) is
  put_last puts k false is = puts.last k ∙ ap (λ (b : Bool). if b then Some time else last_in now k) is ∙ h.last k

  zero_by : (b : Bool) → b ≡ false → ◌≡◌ {A = ℕ} (if b then 1 else 0) 0
  zero_by true e = absurd (cc e)
  zero_by false e = refl

  put : IsPut m time now new → has_key m.key (keys_of_members h.rest) ≡ false → Applies before new all left time
  put puts absent = record {
    rest = m ∷ h.rest;
    whole = grown;
    documents = λ k t. put_documents puts absent k t (same_value m.key k) refl (nat_le time t) refl;
    last = λ k. put_last puts k (same_value m.key k) refl;
    rooms = λ k none.
        let apart = neither_same k none (same_value m.key k) refl in
        let a : room_in before k ≤ room_in now k = h.rooms k apart.1 in
        let b : room_in now k ≤ room_in new k + (if same_value m.key k then 1 else 0) = puts.rooms k in
        let z = zero_by (same_value m.key k) (own k none) in omega (arith, a, b, z);
  }
    where
      own : (k : Datum) → (same_value m.key k || has_key k (keys_of_members h.rest)) ≡ false → same_value m.key k ≡ false
      own k none = by (same_value m.key k) none
        where
          by : (b : Bool) → (b || has_key k (keys_of_members h.rest)) ≡ false → b ≡ false
          by true e = absurd (cc e)
          by false e = refl

  by_done : (has : Bool) → has_key m.key (keys_of_members h.rest) ≡ has → IsLater before time all →
      (is_earlier (last_in now m.key) time ≡ true → IsPut m time now new) → (is_earlier (last_in now m.key) time ≡ false → IsSame now new) →
      Applies before new all left time
  by_done true is later puts stays =
      let last : last_in now m.key ≡ Some time = h.last m.key ∙ ap (λ (b : Bool). if b then Some time else last_in before m.key) is in
      done (stays (not_earlier (last_in now m.key) time last)) is
  by_done false is later puts stays =
      let old : IfSome (last_in before m.key) (λ t. t < time) =
      at_middle (λ x. IfSome (last_in before x.key) (λ t. t < time)) left m h.rest (subst (λ l. IsLater before time l) grown later) in
      let last : last_in now m.key ≡ last_in before m.key = h.last m.key ∙ ap (λ (b : Bool). if b then Some time else last_in before m.key) is in
      put (puts (ap (λ (o : Option ℕ). is_earlier o time) last ∙ earlier_of (last_in before m.key) time old)) is

  -- one member more
  pub step : IsLater before time all → (is_earlier (last_in now m.key) time ≡ true → IsPut m time now new) →
      (is_earlier (last_in now m.key) time ≡ false → IsSame now new) → Applies before new all left time
  step = by_done (has_key m.key (keys_of_members h.rest)) refl

-- all were applied
module _ (before now : Collection) (all : List MovedDocument) (time : ℕ) (h : Applies before now all [] time) where
  pub all_documents : (k : Datum) (t : ℕ) → at_in now k t ≡ (if nat_le time t then overlay all k (at_in before k t) else at_in before k t)
  all_documents k t = h.documents k t
      ∙ ap (λ (l : List MovedDocument). if nat_le time t then overlay l k (at_in before k t) else at_in before k t) (sym h.whole)

  pub all_last : (k : Datum) → last_in now k ≡ (if has_key k (keys_of_members all) then Some time else last_in before k)
  all_last k = h.last k ∙ ap (λ (l : List MovedDocument). if has_key k (keys_of_members l) then Some time else last_in before k) (sym h.whole)

  pub all_rooms : (k : Datum) → has_key k (keys_of_members all) ≡ false → room_in before k ≤ room_in now k
  all_rooms k none = h.rooms k (ap (λ (l : List MovedDocument). has_key k (keys_of_members l)) (sym h.whole) ∙ none)

-- one more, as the definitions see it
pub seen_pushed : (items before : List code.MovedDocument) (m : code.MovedDocument) → items ≡ before ++ m ∷ [] →
    map moved_view items ≡ map moved_view before ++ moved_view m ∷ []
seen_pushed items before m e = ap (λ (l : List code.MovedDocument). map moved_view l) e ∙ pushed before
  where
    pushed : (l : List code.MovedDocument) → map moved_view (l ++ m ∷ []) ≡ map moved_view l ++ moved_view m ∷ []
    pushed [] = refl
    pushed (x ∷ l) = ap (λ (r : List MovedDocument). moved_view x ∷ r) (pushed l)

-- one more key has room
pub more_room : (old new : Collection) (items before : List code.MovedDocument) (m : code.MovedDocument) → items ≡ before ++ m ∷ [] →
    ((k : Datum) → room_in old k ≤ room_in new k) → HasRoom old (map moved_view before) → 1 ≤ room_in new m.key → HasRoom new (map moved_view items)
more_room old new items before m e grows room one =
    subst (HasRoom new) (sym (seen_pushed items before m e)) (all_push (λ x. 1 ≤ room_in new x.key) (map moved_view before) (moved_view m) (wider (map moved_view before) room) one)
  where
    wider : (l : List MovedDocument) → HasRoom old l → HasRoom new l
    wider [] all = tt
    wider (x ∷ l) all = (let a : 1 ≤ room_in old x.key = all.0 in let b : room_in old x.key ≤ room_in new x.key = grows x.key in omega (arith, a, b), wider l all.1)

-- nothing is seen of two changes of which nothing is seen
pub same_then : (a b c : Collection) → IsSame a b → ((k : Datum) (t : ℕ) → at_in c k t ≡ at_in b k t) → ((k : Datum) → last_in c k ≡ last_in b k) →
    ((k : Datum) → room_in b k ≤ room_in c k) → IsSame a c
same_then a b c h documents last rooms = record {
  documents = λ k t. documents k t ∙ h.documents k t;
  last = λ k. last k ∙ h.last k;
  rooms = λ k. let x : room_in a k ≤ room_in b k = h.rooms k in let y : room_in b k ≤ room_in c k = rooms k in omega (arith, x, y);
}
