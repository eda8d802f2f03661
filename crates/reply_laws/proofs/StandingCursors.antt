-- One cursor among those that routers opened, and what happens to it as requests are answered.
use Rattle.std.proofs.Common.{◌≡◌, ◌≢◌, ℕ, ℤ, ◌⊎◌, inl, inr, List, [], ◌∷◌, ◌++◌, refl, sym, ap, subst, ◌∙◌, append_assoc}
use Rattle.std.specs.Prelude.{Bool, true, false, ◌==◌, ◌&&◌, Option, Some, None, Decides, if◌then◌else◌}
use Rattle.std.specs.List.{AllByRecursion}
use Rattle.std.specs.Ordering.{int_eq}
use Rattle.std.specs.Str.{bytes_eq}
use Rattle.std.proofs.lemmas.Bool.Decides.{Decides-and, Decides-eqb, Decides-int_eq}
use Rattle.std.proofs.lemmas.Slice.Eq.{bytes_eq-Decides}
use Rattle.bson_model.proofs.Booleans.{both, is_false}
use Rattle.bson_model.specs.Tree.{Fields}
use Rattle.history_model.specs.History.{IsIn}
use Rattle.history_model.proofs.Lists.{all_push, in_cons, in_first, in_later, in_none}
use Rattle.base_model.specs.Identities.{RequestId}
use Rattle.reply_model.specs.Cursors.{Cursor, has_number, is_open, open_cursor, with_remaining, IsNewNumber, Opens, opens_none, opens_one, Kills, kills_none, kills, misses}

-- NUMBERS

has_decides : (id : RequestId) (n : ℤ) (c : Cursor) → Decides (has_number id n c) ((c.router ≡ id.router) × ((c.life ≡ id.life) × (c.number ≡ n)))
has_decides id n c =
    Decides-and (c.router == id.router) ((c.life == id.life) && int_eq c.number n) (Decides-eqb c.router id.router)
    (Decides-and (c.life == id.life) (int_eq c.number n) (Decides-eqb c.life id.life) (Decides-int_eq c.number n))

numbers_decide : (router : ℕ) (number : ℤ) (c : Cursor) → Decides ((c.router == router) && int_eq c.number number) ((c.router ≡ router) × (c.number ≡ number))
numbers_decide router number c = Decides-and (c.router == router) (int_eq c.number number) (Decides-eqb c.router router) (Decides-int_eq c.number number)

-- what is found open has the number and the namespace
pub record IsFound (id : RequestId) (n : ℤ) (namespace : List ℕ) (c : Cursor) : Type 0 where
  pub number : has_number id n c ≡ true
  pub name : bytes_eq c.namespace namespace ≡ true
  pub unended : is_open c ≡ true

pub found_open : (id : RequestId) (n : ℤ) (namespace : List ℕ) (cursors : List Cursor) (c : Cursor) → open_cursor id n namespace cursors ≡ Some c
    → IsFound id n namespace c
found_open id n namespace [] c found = absurd (cc)
found_open id n namespace (d ∷ cursors) c found =
    by_test (has_number id n d && (bytes_eq d.namespace namespace && is_open d)) refl found (λ later. found_open id n namespace cursors c later)
  where
    by_test : (b : Bool) → (has_number id n d && (bytes_eq d.namespace namespace && is_open d)) ≡ b
        → (if b then Some d else open_cursor id n namespace cursors) ≡ Some c
        → (open_cursor id n namespace cursors ≡ Some c → IsFound id n namespace c) → IsFound id n namespace c
    by_test true is found later =
        let same : d ≡ c = cc in
        let parts = both (has_number id n d) (bytes_eq d.namespace namespace && is_open d) is in
        let others = both (bytes_eq d.namespace namespace) (is_open d) parts.1 in
        subst (λ (x : Cursor). IsFound id n namespace x) same (record { number = parts.0; name = others.0; unended = others.1 })
    by_test false is found later = later found

pub number_found : (id : RequestId) (n : ℤ) (c : Cursor) → has_number id n c ≡ true → c.number ≡ n
number_found id n c is = ((has_decides id n c).0 is).1.1

-- a cursor that has no more documents is not open
ended : (remaining : List Fields) (c : Cursor) → c.remaining ≡ remaining → is_open c ≡ true → remaining ≢ []
ended remaining c same unended none =
    let e : false ≡ true = ap (λ (r : List Fields). elim r as (λ (s : List Fields). Bool) [ [] ↦ false | document ∷ documents ↦ true ])
    (sym none ∙ sym same) ∙ unended in cc

still : (remaining : List Fields) → remaining ≢ [] → elim remaining as (λ (s : List Fields). Bool) [ [] ↦ false | document ∷ documents ↦ true ] ≡ true
still [] some = absurd (some refl)
still (document ∷ documents) some = refl

closed_or : (remaining : List Fields) → elim remaining as (λ (s : List Fields). Bool) [ [] ↦ false | document ∷ documents ↦ true ] ≡ false → remaining ≡ []
closed_or [] e = refl
closed_or (document ∷ documents) e = absurd (cc)

-- ONE CURSOR

module _ (router life : ℕ) (number : ℤ) (namespace : List ℕ) (time : ℕ) where
  abbrev pub cursor_with : List Fields → Cursor
  cursor_with remaining = record { router = router; life = life; number = number; namespace = namespace; time = time; remaining = remaining }

  abbrev pub IsOther : Cursor → Type 0
  IsOther c = ((c.router == router) && int_eq c.number number) ≡ false

  -- it is there with these documents, and no other of its router has its number
  pub record Stands (remaining : List Fields) (cursors : List Cursor) : Type 0 where
    pub front : List Cursor
    pub back : List Cursor
    pub is : cursors ≡ front ++ cursor_with remaining ∷ back
    pub before : AllByRecursion IsOther front
    pub behind : AllByRecursion IsOther back

  -- the request names it in its router's life
  pub record IsNamed (id : RequestId) (n : ℤ) : Type 0 where
    pub router_is : id.router ≡ router
    pub life_is : id.life ≡ life
    pub number_is : n ≡ number

  pub named : (id : RequestId) (n : ℤ) (remaining : List Fields) → has_number id n (cursor_with remaining) ≡ true → IsNamed id n
  named id n remaining is =
      let parts = (has_decides id n (cursor_with remaining)).0 is in
      record { router_is = sym parts.0; life_is = sym parts.1.0; number_is = sym parts.1.1 }

  has_own : (id : RequestId) (n : ℤ) (remaining : List Fields) → IsNamed id n → has_number id n (cursor_with remaining) ≡ true
  has_own id n remaining own = (has_decides id n (cursor_with remaining)).1 (sym own.router_is, (sym own.life_is, sym own.number_is))

  other_never : (id : RequestId) (n : ℤ) (c : Cursor) → IsNamed id n → IsOther c → has_number id n c ≡ false
  other_never id n c own other =
      is_false (has_number id n c) (λ is.
      let parts = (has_decides id n c).0 is in
      let e : true ≡ false = sym ((numbers_decide router number c).1 (parts.0 ∙ own.router_is, parts.1.1 ∙ own.number_is)) ∙ other in cc)

  passed : (id : RequestId) (n : ℤ) (name : List ℕ) (front rest : List Cursor) → IsNamed id n → AllByRecursion IsOther front
      → open_cursor id n name (front ++ rest) ≡ open_cursor id n name rest
  passed id n name [] rest own others = refl
  passed id n name (c ∷ front) rest own others =
      ap (λ (b : Bool). if b && (bytes_eq c.namespace name && is_open c) then Some c else open_cursor id n name (front ++ rest))
      (other_never id n c own others.0)
      ∙ passed id n name front rest own others.1

  none_open : (id : RequestId) (n : ℤ) (name : List ℕ) (back : List Cursor) → IsNamed id n → AllByRecursion IsOther back → open_cursor id n name back ≡ None
  none_open id n name [] own others = refl
  none_open id n name (c ∷ back) own others =
      ap (λ (b : Bool). if b && (bytes_eq c.namespace name && is_open c) then Some c else open_cursor id n name back) (other_never id n c own others.0)
      ∙ none_open id n name back own others.1

  -- what a request that names it finds
  found_own : (id : RequestId) (n : ℤ) (name : List ℕ) (remaining : List Fields) (cursors : List Cursor) → IsNamed id n → Stands remaining cursors
      → open_cursor id n name cursors ≡ (if bytes_eq namespace name && is_open (cursor_with remaining) then Some (cursor_with remaining) else None)
  found_own id n name remaining cursors own stands =
      ap (open_cursor id n name) stands.is
      ∙ passed id n name stands.front (cursor_with remaining ∷ stands.back) own stands.before
      ∙ ap (λ (b : Bool). if b && (bytes_eq namespace name && is_open (cursor_with remaining)) then Some
      (cursor_with remaining) else open_cursor id n name stands.back) (has_own id n remaining own)
      ∙ ap (λ (o : Option Cursor). if bytes_eq namespace name && is_open (cursor_with remaining) then Some (cursor_with remaining) else o)
      (none_open id n name stands.back own stands.behind)

  pub found_standing : (id : RequestId) (n : ℤ) (remaining : List Fields) (cursors : List Cursor) → IsNamed id n → remaining ≢ [] → Stands remaining cursors
      → open_cursor id n namespace cursors ≡ Some (cursor_with remaining)
  found_standing id n remaining cursors own some stands =
      found_own id n namespace remaining cursors own stands
      ∙ ap (λ (b : Bool). if b && is_open (cursor_with remaining) then Some (cursor_with remaining) else None) ((bytes_eq-Decides namespace namespace).1 refl)
      ∙ ap (λ (b : Bool). if b then Some (cursor_with remaining) else None) (still remaining some)

  pub none_found : (id : RequestId) (n : ℤ) (name : List ℕ) (cursors : List Cursor) → IsNamed id n → Stands [] cursors → open_cursor id n name cursors ≡ None
  none_found id n name cursors own stands = found_own id n name [] cursors own stands ∙ by_name (bytes_eq namespace name)
    where
      by_name : (b : Bool) → (if b && false then Some (cursor_with []) else None) ≡ None
      by_name true = refl
      by_name false = refl

  -- what a request that names it finds is the cursor itself, in its namespace
  pub record IsItself (name : List ℕ) (remaining : List Fields) (c : Cursor) : Type 0 where
    pub same : cursor_with remaining ≡ c
    pub name_is : name ≡ namespace
    pub some : remaining ≢ []

  pub itself : (id : RequestId) (n : ℤ) (name : List ℕ) (remaining : List Fields) (cursors : List Cursor) (c : Cursor) → IsNamed id n
      → Stands remaining cursors
      → open_cursor id n name cursors ≡ Some c → IsItself name remaining c
  itself id n name remaining cursors c own stands found =
      by_tests (bytes_eq namespace name) (is_open (cursor_with remaining)) refl refl (sym (found_own id n name remaining cursors own stands) ∙ found)
    where
      by_tests : (x y : Bool) → bytes_eq namespace name ≡ x → is_open (cursor_with remaining) ≡ y → (if x && y then Some (cursor_with remaining) else None)
          ≡ Some c
          → IsItself name remaining c
      by_tests true true p q e = record {
        same = cc;
        name_is = sym ((bytes_eq-Decides namespace name).0 p);
        some = ended remaining (cursor_with remaining) refl q;
      }
      by_tests true false p q e = absurd (cc)
      by_tests false y p q e = absurd (cc)

  -- WHAT IS CHANGED

  abbrev changed : List Fields → Cursor → Cursor
  changed remaining c = record { router = c.router; life = c.life; number = c.number; namespace = c.namespace; time = c.time; remaining = remaining }

  others_kept : (id : RequestId) (n : ℤ) (remaining : List Fields) (cs : List Cursor) → AllByRecursion IsOther cs
      → AllByRecursion IsOther (with_remaining id n remaining cs)
  others_kept id n remaining [] others = tt
  others_kept id n remaining (c ∷ cs) others = by_test (has_number id n c) (others_kept id n remaining cs others.1)
    where
      by_test : (b : Bool) → AllByRecursion IsOther (with_remaining id n remaining cs)
          → AllByRecursion IsOther (if b then changed remaining c ∷ cs else c ∷ with_remaining id n remaining cs)
      by_test true rest = others
      by_test false rest = (others.0, rest)

  set_passed : (id : RequestId) (n : ℤ) (left : List Fields) (front rest : List Cursor) → IsNamed id n → AllByRecursion IsOther front
      → with_remaining id n left (front ++ rest) ≡ front ++ with_remaining id n left rest
  set_passed id n left [] rest own others = refl
  set_passed id n left (c ∷ front) rest own others =
      ap (λ (b : Bool). if b then changed left c ∷ (front ++ rest) else c ∷ with_remaining id n left (front ++ rest)) (other_never id n c own others.0)
      ∙ ap (λ (l : List Cursor). c ∷ l) (set_passed id n left front rest own others.1)

  -- a request that names it sets its documents
  pub set_own : (id : RequestId) (n : ℤ) (left remaining : List Fields) (cursors : List Cursor) → IsNamed id n → Stands remaining cursors
      → Stands left (with_remaining id n left cursors)
  set_own id n left remaining cursors own stands = record {
    front = stands.front;
    back = stands.back;
    is = ap (with_remaining id n left) stands.is
        ∙ set_passed id n left stands.front (cursor_with remaining ∷ stands.back) own stands.before
        ∙ ap (λ (b : Bool). stands.front ++ (if b then cursor_with left ∷ stands.back else cursor_with remaining ∷ with_remaining id n left stands.back))
        (has_own id n remaining own);
    before = stands.before;
    behind = stands.behind;
  }

  in_front : (remaining : List Fields) (cursors : List Cursor) (c : Cursor) → IsOther c → Stands remaining cursors → Stands remaining (c ∷ cursors)
  in_front remaining cursors c other stands = record {
    front = c ∷ stands.front;
    back = stands.back;
    is = ap (λ (l : List Cursor). c ∷ l) stands.is;
    before = (other, stands.before);
    behind = stands.behind;
  }

  set_among : (id : RequestId) (n : ℤ) (left remaining : List Fields) (front back : List Cursor) → has_number id n (cursor_with remaining) ≡ false
      → AllByRecursion IsOther front → AllByRecursion IsOther back → Stands remaining (with_remaining id n left (front ++ cursor_with remaining ∷ back))
  set_among id n left remaining [] back other before behind = record {
    front = [];
    back = with_remaining id n left back;
    is = ap (λ (b : Bool). if b then cursor_with left ∷ back else cursor_with remaining ∷ with_remaining id n left back) other;
    before = tt;
    behind = others_kept id n left back behind;
  }
  set_among id n left remaining (c ∷ front) back other before behind = by_test (has_number id n c)
      (set_among id n left remaining front back other before.1 behind)
    where
      by_test : (b : Bool) → Stands remaining (with_remaining id n left (front ++ cursor_with remaining ∷ back))
          → Stands remaining (if b then changed left c ∷ (front ++ cursor_with remaining ∷ back) else c
          ∷ with_remaining id n left (front ++ cursor_with remaining ∷ back))
      by_test true rest = record { front = changed left c ∷ front; back = back; is = refl; before = before; behind = behind }
      by_test false rest = in_front remaining (with_remaining id n left (front ++ cursor_with remaining ∷ back)) c before.0 rest

  -- and another does not
  pub set_other : (id : RequestId) (n : ℤ) (left remaining : List Fields) (cursors : List Cursor) → has_number id n (cursor_with remaining) ≡ false
      → Stands remaining cursors
      → Stands remaining (with_remaining id n left cursors)
  set_other id n left remaining cursors other stands =
      subst (λ (l : List Cursor). Stands remaining (with_remaining id n left l)) (sym stands.is)
      (set_among id n left remaining stands.front stands.back other stands.before stands.behind)

  -- a cursor that is opened has another number
  opened_other : (id : RequestId) (n : ℤ) (remaining : List Fields) (cursors : List Cursor) (c : Cursor) → Stands remaining cursors
      → AllByRecursion (λ (d : Cursor). ((d.router == id.router) && int_eq d.number n) ≡ false) cursors → c.router ≡ id.router → c.number ≡ n → IsOther c
  opened_other id n remaining cursors c stands new router_is number_is =
      is_false ((c.router == router) && int_eq c.number number) (λ is.
      let parts = (numbers_decide router number c).0 is in
      let own : ((router == id.router) && int_eq number n) ≡ true =
      (numbers_decide id.router n (cursor_with remaining)).1 (sym parts.0 ∙ router_is, sym parts.1 ∙ number_is) in
      let e : true ≡ false = sym own ∙ all_middle stands.front (subst (AllByRecursion
      (λ (d : Cursor). ((d.router == id.router) && int_eq d.number n) ≡ false)) stands.is new) in cc)
    where
      all_middle : (front : List Cursor) → AllByRecursion (λ (d : Cursor). ((d.router == id.router) && int_eq d.number n) ≡ false)
          (front ++ cursor_with remaining ∷ stands.back)
          → ((router == id.router) && int_eq number n) ≡ false
      all_middle [] all = all.0
      all_middle (d ∷ front) all = all_middle front all.1

  pub another_number : (id : RequestId) (n : ℤ) (remaining : List Fields) (cursors : List Cursor) → Stands remaining cursors → IsNewNumber id n cursors
      → id.router ≡ router → n ≢ number
  another_number id n remaining cursors stands new router_is number_is =
      let e = opened_other id n remaining cursors (cursor_with remaining) stands new.1 (sym router_is) (sym number_is) in
      let own : ((router == router) && int_eq number number) ≡ true = (numbers_decide router number (cursor_with remaining)).1 (refl, refl) in
      let never : true ≡ false = sym own ∙ e in cc

  one_more : (remaining : List Fields) (cursors : List Cursor) (c : Cursor) → Stands remaining cursors → IsOther c → Stands remaining (cursors ++ c ∷ [])
  one_more remaining cursors c stands other = record {
    front = stands.front;
    back = stands.back ++ c ∷ [];
    is = ap (λ l. l ++ c ∷ []) stands.is ∙ append_assoc stands.front (cursor_with remaining ∷ stands.back) (c ∷ []);
    before = stands.before;
    behind = all_push IsOther stands.back c stands.behind other;
  }

  pub opens_stays : (id : RequestId) (single : Bool) (name : List ℕ) (at : ℕ) (cursors : List Cursor) (rest : List Fields) (n : ℤ) (next : List Cursor)
      (remaining : List Fields)
      → Opens id single name at cursors rest n next → Stands remaining cursors → Stands remaining next
  opens_stays id single name at cursors rest n next remaining (opens_none r why) stands = stands
  opens_stays id single name at cursors rest n next remaining (opens_one r m some more new) stands =
      one_more remaining cursors (record { router = id.router; life = id.life; number = m; namespace = name; time = at; remaining = r }) stands
      (opened_other id m remaining cursors (record {
        router = id.router;
        life = id.life;
        number = m;
        namespace = name;
        time = at;
        remaining = r;
      }) stands new.1 refl refl)

  -- WHAT IS CLOSED

  -- it is still there; one that has ended stays so
  pub record StandsStill (remaining : List Fields) (next : List Cursor) : Type 0 where
    pub left : List Fields
    pub stands : Stands left next
    pub stays_ended : remaining ≡ [] → left ≡ []

  set_still : (id : RequestId) (n : ℤ) (left remaining : List Fields) (cursors : List Cursor) → (IsNamed id n → remaining ≢ []) → Stands remaining cursors
      → StandsStill remaining (with_remaining id n left cursors)
  set_still id n left remaining cursors some stands = by_test (has_number id n (cursor_with remaining)) refl
    where
      by_test : (b : Bool) → has_number id n (cursor_with remaining) ≡ b → StandsStill remaining (with_remaining id n left cursors)
      by_test true is = record {
        left = left;
        stands = set_own id n left remaining cursors (named id n remaining is) stands;
        stays_ended = λ none. absurd (some (named id n remaining is) none);
      }
      by_test false is = record { left = remaining; stands = set_other id n left remaining cursors is stands; stays_ended = λ none. none }

  pub found_still : (id : RequestId) (n : ℤ) (name : List ℕ) (left remaining : List Fields) (cursors : List Cursor) (c : Cursor)
      → open_cursor id n name cursors ≡ Some c
      → Stands remaining cursors → StandsStill remaining (with_remaining id n left cursors)
  found_still id n name left remaining cursors c found stands =
      set_still id n left remaining cursors (λ own. (itself id n name remaining cursors c own stands found).some) stands

  pub kills_still : (id : RequestId) (name : List ℕ) (cursors : List Cursor) (numbers killed missing : List ℤ) (next : List Cursor) (remaining : List Fields)
      → Kills id name cursors numbers killed missing next → Stands remaining cursors → StandsStill remaining next
  kills_still id name cursors numbers killed missing next remaining (kills_none cs) stands =
      record { left = remaining; stands = stands; stays_ended = λ none. none }
  kills_still id name cursors numbers killed missing next remaining (kills cs after n ns ks ms c found rest) stands =
      let first = found_still id n name [] remaining cs c found stands in
      let last = kills_still id name (with_remaining id n [] cs) ns ks ms after first.left rest first.stands in
      record { left = last.left; stands = last.stands; stays_ended = λ none. last.stays_ended (first.stays_ended none) }
  kills_still id name cursors numbers killed missing next remaining (misses cs after n ns ks ms none rest) stands =
      kills_still id name cs ns ks ms after remaining rest stands

  -- a request that does not name it in its namespace leaves it
  pub kills_leave : (id : RequestId) (name : List ℕ) (cursors : List Cursor) (numbers killed missing : List ℤ) (next : List Cursor) (remaining : List Fields)
      → (IsIn number numbers → name ≡ namespace → id.router ≡ router → id.life ≡ life → ⊥)
      → Kills id name cursors numbers killed missing next → Stands remaining cursors → Stands remaining next
  kills_leave id name cursors numbers killed missing next remaining never (kills_none cs) stands = stands
  kills_leave id name cursors numbers killed missing next remaining never (kills cs after n ns ks ms c found rest) stands =
      kills_leave id name (with_remaining id n [] cs) ns ks ms after remaining (λ i. never (in_later number n ns i)) rest
      (by_test (has_number id n (cursor_with remaining)) refl)
    where
      by_test : (b : Bool) → has_number id n (cursor_with remaining) ≡ b → Stands remaining (with_remaining id n [] cs)
      by_test true is =
          let own = named id n remaining is in
          absurd (never (subst (λ (x : ℤ). IsIn x (n ∷ ns)) own.number_is (in_first n ns))
          (itself id n name remaining cs c own stands found).name_is own.router_is own.life_is)
      by_test false is = set_other id n [] remaining cs is stands
  kills_leave id name cursors numbers killed missing next remaining never (misses cs after n ns ks ms none rest) stands =
      kills_leave id name cs ns ks ms after remaining (λ i. never (in_later number n ns i)) rest stands

  -- one that does ends it
  missed : (id : RequestId) (n : ℤ) (remaining : List Fields) (cursors : List Cursor) → IsNamed id n → open_cursor id n namespace cursors ≡ None
      → Stands remaining cursors → Stands [] cursors
  missed id n [] cursors own none stands = stands
  missed id n (document ∷ documents) cursors own none stands =
      absurd (let e : None ≡ Some (cursor_with (document ∷ documents)) = sym none
      ∙ found_standing id n (document ∷ documents) cursors own (λ e. cc) stands in cc)

  pub kills_end : (id : RequestId) (name : List ℕ) (cursors : List Cursor) (numbers killed missing : List ℤ) (next : List Cursor) (remaining : List Fields)
      → IsIn number numbers → name ≡ namespace → id.router ≡ router → id.life ≡ life
      → Kills id name cursors numbers killed missing next → Stands remaining cursors → Stands [] next
  kills_end id name cursors numbers killed missing next remaining i is at in_life (kills_none cs) stands = absurd (in_none number i)
  kills_end id name cursors numbers killed missing next remaining i is at in_life (kills cs after n ns ks ms c found rest) stands =
      by_place (in_cons number n ns i) (λ j left. kills_end id name (with_remaining id n [] cs) ns ks ms after left j is at in_life rest)
    where
      by_place : (number ≡ n) ⊎ IsIn number ns → (IsIn number ns → (left : List Fields) → Stands left (with_remaining id n [] cs) → Stands [] after)
          → Stands [] after
      by_place (inl same) later =
          let own : IsNamed id n = record { router_is = at; life_is = in_life; number_is = sym same } in
          let last = kills_still id name (with_remaining id n [] cs) ns ks ms after [] rest (set_own id n [] remaining cs own stands) in
          subst (λ l. Stands l after) (last.stays_ended refl) last.stands
      by_place (inr j) later = let first = found_still id n name [] remaining cs c found stands in later j first.left first.stands
  kills_end id name cursors numbers killed missing next remaining i is at in_life (misses cs after n ns ks ms none rest) stands =
      by_place (in_cons number n ns i) (λ j. kills_end id name cs ns ks ms after remaining j is at in_life rest stands)
    where
      by_place : (number ≡ n) ⊎ IsIn number ns → (IsIn number ns → Stands [] after) → Stands [] after
      by_place (inl same) later =
          let own : IsNamed id n = record { router_is = at; life_is = in_life; number_is = sym same } in
          let gone = missed id n remaining cs own (subst (λ (l : List ℕ). open_cursor id n l cs ≡ None) is none) stands in
          let last = kills_still id name cs ns ks ms after [] rest gone in
          subst (λ l. Stands l after) (last.stays_ended refl) last.stands
      by_place (inr j) later = later j
