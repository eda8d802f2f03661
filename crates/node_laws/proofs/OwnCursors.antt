-- The cursors of one router, in one of its lives, among those of all.
use Rattle.std.proofs.Common.{◌≡◌, ◌≢◌, ℕ, ◌<◌, List, [], ◌∷◌, ◌++◌, refl, sym, ap, ◌∙◌, arith, append-nil, Bool}
use Rattle.std.specs.Prelude.{ℤ, pos, Some, None, true, false, filter, ◌==◌, ◌&&◌, if◌then◌else◌}
use Rattle.std.specs.List.{AllByRecursion}
use Rattle.std.specs.Ordering.{int_eq}
use Rattle.std.specs.Str.{bytes_eq}
use Rattle.std.proofs.lemmas.Bool.{eqb-true}
use Rattle.std.proofs.lemmas.Bool.Decides.{Decides-int_eq}
use Rattle.std.proofs.lemmas.List.Elements.{filter-append}
use Rattle.bson_model.proofs.Booleans.{both}
use Rattle.bson_model.specs.Tree.{Fields}
use Rattle.base_model.specs.Identities.{RequestId}
use Rattle.reply_model.specs.Cursors.{Cursor, has_number, is_open, open_cursor, with_remaining, Kills, kills_none, kills, misses}
use Rattle.node_laws.proofs.Facts.{IsGiven, is_of, is_of_life}

-- LIVES

of_life : (router life : ℕ) (cursors : List Cursor)
    → filter (is_of_life router life) cursors ≡ filter (λ (c : Cursor). c.life == life) (filter (is_of router) cursors)
of_life router life [] = refl
of_life router life (c ∷ cursors) = by_tests (c.router == router) (c.life == life) refl (of_life router life cursors)
  where
    by_tests : (a b : Bool) → (c.life == life) ≡ b
        → filter (is_of_life router life) cursors ≡ filter (λ (d : Cursor). d.life == life) (filter (is_of router) cursors)
        → (if a && b then c ∷ filter (is_of_life router life) cursors else filter (is_of_life router life) cursors)
        ≡ filter (λ (d : Cursor). d.life == life) (if a then c ∷ filter (is_of router) cursors else filter (is_of router) cursors)
    by_tests true b h more = by_life b h
      where
        rest : List Cursor
        rest = filter (λ (d : Cursor). d.life == life) (filter (is_of router) cursors)

        by_life : (t : Bool) → (c.life == life) ≡ t
            → (if t then c ∷ filter (is_of_life router life) cursors else filter (is_of_life router life) cursors) ≡ (if c.life == life then c ∷ rest else rest)
        by_life true g = ap (λ l. c ∷ l) more ∙ sym (ap (λ (t : Bool). if t then c ∷ rest else rest) g)
        by_life false g = more ∙ sym (ap (λ (t : Bool). if t then c ∷ rest else rest) g)
    by_tests false b h more = more

pub same_lives : (router life : ℕ) (old new : List Cursor) → filter (is_of router) new ≡ filter (is_of router) old
    → filter (is_of_life router life) new ≡ filter (is_of_life router life) old
same_lives router life old new same =
    of_life router life new ∙ ap (λ l. filter (λ (c : Cursor). c.life == life) l) same ∙ sym (of_life router life old)

-- ONE MORE CURSOR

pub filter_with : (P : Cursor → Bool) (cursors : List Cursor) (c : Cursor) → P c ≡ true → filter P (cursors ++ c ∷ []) ≡ filter P cursors ++ c ∷ []
filter_with P cursors c is = filter-append P cursors (c ∷ []) ∙ ap (λ (t : Bool). filter P cursors ++ (if t then c ∷ [] else [])) is

pub filter_without : (P : Cursor → Bool) (cursors : List Cursor) (c : Cursor) → P c ≡ false → filter P (cursors ++ c ∷ []) ≡ filter P cursors
filter_without P cursors c is =
    filter-append P cursors (c ∷ []) ∙ ap (λ (t : Bool). filter P cursors ++ (if t then c ∷ [] else [])) is ∙ append-nil (filter P cursors)

-- a number above those that were given is new
pub new_number : (id : RequestId) (life : ℕ) (begun : Bool) (gave time n : ℕ) (cursors : List Cursor) → AllByRecursion (IsGiven life begun gave time) (filter (is_of id.router) cursors) → gave < n
    → AllByRecursion (λ (c : Cursor). ((c.router == id.router) && int_eq c.number (pos n)) ≡ false) cursors
new_number id life begun gave time n [] all less = tt
new_number id life begun gave time n (c ∷ cursors) all less = by_router (c.router == id.router) refl all (λ g. new_number id life begun gave time n cursors g less)
  where
    other : IsGiven life begun gave time c → (t : Bool) → int_eq c.number (pos n) ≡ t → t ≡ false
    other g false h = refl
    other g true h =
        let same : pos g.n ≡ pos n = sym g.number ∙ (Decides-int_eq c.number (pos n)).0 h in
        let equal : g.n ≡ n = cc in
        let given = g.given in
        absurd (omega arith)

    by_router : (b : Bool) → (c.router == id.router) ≡ b
        → AllByRecursion (IsGiven life begun gave time) (if b then c ∷ filter (is_of id.router) cursors else filter (is_of id.router) cursors)
        → (AllByRecursion (IsGiven life begun gave time) (filter (is_of id.router) cursors)
        → AllByRecursion (λ (d : Cursor). ((d.router == id.router) && int_eq d.number (pos n)) ≡ false) cursors)
        → (((c.router == id.router) && int_eq c.number (pos n)) ≡ false) × AllByRecursion
        (λ (d : Cursor). ((d.router == id.router) && int_eq d.number (pos n)) ≡ false) cursors
    by_router true h g more = (ap (λ b. b && int_eq c.number (pos n)) h ∙ other g.0 (int_eq c.number (pos n)) refl, more g.1)
    by_router false h g more = (ap (λ b. b && int_eq c.number (pos n)) h, more g)

-- LOOKING UP

abbrev pub own_life : RequestId → Cursor → Bool
own_life id c = is_of_life id.router id.life c

-- a cursor of another life has no number of this one
no_number : (x y z : Bool) → (x && y) ≡ false → (x && (y && z)) ≡ false
no_number true true z e = absurd (cc)
no_number true false z e = refl
no_number false y z e = refl

pub open_own : (id : RequestId) (number : ℤ) (namespace : List ℕ) (cursors : List Cursor)
    → open_cursor id number namespace (filter (own_life id) cursors) ≡ open_cursor id number namespace cursors
open_own id number namespace [] = refl
open_own id number namespace (c ∷ cursors) = by_own (own_life id c) refl (open_own id number namespace cursors)
  where
    by_own : (b : Bool) → own_life id c ≡ b → open_cursor id number namespace (filter (own_life id) cursors) ≡ open_cursor id number namespace cursors
        → open_cursor id number namespace (if b then c ∷ filter (own_life id) cursors else filter (own_life id) cursors) ≡ open_cursor id number namespace
        (c ∷ cursors)
    by_own true h more = ap (λ o. if has_number id number c && (bytes_eq c.namespace namespace && is_open c) then Some c else o) more
    by_own false h more =
        more ∙ sym (ap (λ (t : Bool). if t && (bytes_eq c.namespace namespace && is_open c) then Some c else open_cursor id number namespace cursors)
        (no_number (c.router == id.router) (c.life == id.life) (int_eq c.number number) h))

-- WHAT REMAINS

abbrev left_with : Cursor → List Fields → Cursor
left_with c remaining = record { router = c.router; life = c.life; number = c.number; namespace = c.namespace; time = c.time; remaining = remaining }

pub remaining_own : (id : RequestId) (number : ℤ) (remaining : List Fields) (cursors : List Cursor)
    → filter (own_life id) (with_remaining id number remaining cursors) ≡ with_remaining id number remaining (filter (own_life id) cursors)
remaining_own id number remaining [] = refl
remaining_own id number remaining (c ∷ cursors) = by_own (own_life id c) refl (remaining_own id number remaining cursors)
  where
    by_number : (t : Bool) → own_life id c ≡ true
        → filter (own_life id) (with_remaining id number remaining cursors) ≡ with_remaining id number remaining (filter (own_life id) cursors)
        → filter (own_life id) (if t then left_with c remaining ∷ cursors else c ∷ with_remaining id number remaining cursors)
        ≡ (if t then left_with c remaining ∷ filter (own_life id) cursors else c ∷ with_remaining id number remaining (filter (own_life id) cursors))
    by_number true h more = ap (λ (b : Bool). if b then left_with c remaining ∷ filter (own_life id) cursors else filter (own_life id) cursors) h
    by_number false h more =
        ap (λ (b : Bool). if b then c ∷ filter (own_life id) (with_remaining id number remaining cursors) else filter (own_life id)
        (with_remaining id number remaining cursors)) h
        ∙ ap (λ l. c ∷ l) more

    by_own : (b : Bool) → own_life id c ≡ b
        → filter (own_life id) (with_remaining id number remaining cursors) ≡ with_remaining id number remaining (filter (own_life id) cursors)
        → filter (own_life id) (with_remaining id number remaining (c ∷ cursors))
        ≡ with_remaining id number remaining (if b then c ∷ filter (own_life id) cursors else filter (own_life id) cursors)
    by_own true h more = by_number (has_number id number c) h more
    by_own false h more =
        ap (λ (t : Bool). filter (own_life id) (if t then left_with c remaining ∷ cursors else c ∷ with_remaining id number remaining cursors))
        (no_number (c.router == id.router) (c.life == id.life) (int_eq c.number number) h)
        ∙ ap (λ (b : Bool). if b then c ∷ filter (own_life id) (with_remaining id number remaining cursors) else filter (own_life id)
        (with_remaining id number remaining cursors)) h
        ∙ more

-- the cursors of another router stay
pub remaining_elsewhere : (id : RequestId) (number : ℤ) (remaining : List Fields) (router : ℕ) (cursors : List Cursor) → router ≢ id.router
    → filter (is_of router) (with_remaining id number remaining cursors) ≡ filter (is_of router) cursors
remaining_elsewhere id number remaining router [] other = refl
remaining_elsewhere id number remaining router (c ∷ cursors) other = by_number (has_number id number c) refl
    (remaining_elsewhere id number remaining router cursors other)
  where
    not_here : has_number id number c ≡ true → (b : Bool) → (c.router == router) ≡ b → b ≡ false
    not_here h false g = refl
    not_here h true g =
        let own : c.router ≡ id.router = eqb-true _ _ (both (c.router == id.router) ((c.life == id.life) && int_eq c.number number) h).0 in
        absurd (other (sym (eqb-true _ _ g) ∙ own))

    by_number : (t : Bool) → has_number id number c ≡ t → filter (is_of router) (with_remaining id number remaining cursors) ≡ filter (is_of router) cursors
        → filter (is_of router) (if t then left_with c remaining ∷ cursors else c ∷ with_remaining id number remaining cursors)
        ≡ (if c.router == router then c ∷ filter (is_of router) cursors else filter (is_of router) cursors)
    by_number true h more =
        let none : (c.router == router) ≡ false = not_here h (c.router == router) refl in
        ap (λ (b : Bool). if b then left_with c remaining ∷ filter (is_of router) cursors else filter (is_of router) cursors) none
        ∙ sym (ap (λ (b : Bool). if b then c ∷ filter (is_of router) cursors else filter (is_of router) cursors) none)
    by_number false h more = ap (λ l. if c.router == router then c ∷ l else l) more

-- their numbers and times stay
pub remaining_given : (id : RequestId) (number : ℤ) (remaining : List Fields) (router life : ℕ) (begun : Bool) (gave time : ℕ) (cursors : List Cursor)
    → AllByRecursion (IsGiven life begun gave time) (filter (is_of router) cursors)
    → AllByRecursion (IsGiven life begun gave time) (filter (is_of router) (with_remaining id number remaining cursors))
remaining_given id number remaining router life begun gave time [] all = tt
remaining_given id number remaining router life begun gave time (c ∷ cursors) all =
    by_number (has_number id number c) all (λ more. remaining_given id number remaining router life begun gave time cursors more)
  where
    left : IsGiven life begun gave time c → IsGiven life begun gave time (left_with c remaining)
    left g = record { n = g.n; number = g.number; given = g.given; past = g.past }

    by_first : (b : Bool) → AllByRecursion (IsGiven life begun gave time) (if b then c ∷ filter (is_of router) cursors else filter (is_of router) cursors)
        → AllByRecursion (IsGiven life begun gave time) (if b then left_with c remaining ∷ filter (is_of router) cursors else filter (is_of router) cursors)
    by_first true g = (left g.0, g.1)
    by_first false g = g

    by_rest : (b : Bool) → AllByRecursion (IsGiven life begun gave time) (if b then c ∷ filter (is_of router) cursors else filter (is_of router) cursors)
        → (AllByRecursion (IsGiven life begun gave time) (filter (is_of router) cursors)
        → AllByRecursion (IsGiven life begun gave time) (filter (is_of router) (with_remaining id number remaining cursors)))
        → AllByRecursion (IsGiven life begun gave time)
        (if b then c ∷ filter (is_of router) (with_remaining id number remaining cursors) else filter (is_of router)
        (with_remaining id number remaining cursors))
    by_rest true g more = (g.0, more g.1)
    by_rest false g more = more g

    by_number : (t : Bool) → AllByRecursion (IsGiven life begun gave time)
        (if c.router == router then c ∷ filter (is_of router) cursors else filter (is_of router) cursors)
        → (AllByRecursion (IsGiven life begun gave time) (filter (is_of router) cursors)
        → AllByRecursion (IsGiven life begun gave time) (filter (is_of router) (with_remaining id number remaining cursors)))
        → AllByRecursion (IsGiven life begun gave time)
        (filter (is_of router) (if t then left_with c remaining ∷ cursors else c ∷ with_remaining id number remaining cursors))
    by_number true g more = by_first (c.router == router) g
    by_number false g more = by_rest (c.router == router) g more

-- CURSORS THAT ARE CLOSED

-- the same closed among the cursors of all
pub record KillsAll (id : RequestId) (namespace : List ℕ) (cursors : List Cursor) (numbers killed missing : List ℤ) (next : List Cursor) : Type 0 where
  pub after : List Cursor
  pub closes : Kills id namespace cursors numbers killed missing after
  pub own : filter (own_life id) after ≡ next
  pub elsewhere : (router : ℕ) → router ≢ id.router → filter (is_of router) after ≡ filter (is_of router) cursors
  pub given : (life : ℕ) (begun : Bool) (gave time : ℕ) → AllByRecursion (IsGiven life begun gave time) (filter (is_of id.router) cursors)
      → AllByRecursion (IsGiven life begun gave time) (filter (is_of id.router) after)

pub kills_all : (id : RequestId) (namespace : List ℕ) (own all : List Cursor) (numbers killed missing : List ℤ) (next : List Cursor)
    → Kills id namespace own numbers killed missing next → filter (own_life id) all ≡ own → KillsAll id namespace all numbers killed missing next
kills_all id namespace _ all _ _ _ _ (kills_none cursors) same = record
    { after = all; closes = kills_none all; own = same; elsewhere = λ router other. refl; given = λ life begun gave time g. g }
kills_all id namespace _ all _ _ _ _ (kills cursors next number numbers killed missing c found more) same =
    let open_all : open_cursor id number namespace all ≡ Some c = sym (open_own id number namespace all)
    ∙ ap (λ l. open_cursor id number namespace l) same ∙ found in
    let left : List Cursor = with_remaining id number [] all in
    let own : filter (own_life id) (with_remaining id number [] all) ≡ with_remaining id number [] cursors =
    remaining_own id number [] all ∙ ap (λ l. with_remaining id number [] l) same in
    let k = kills_all id namespace (with_remaining id number [] cursors) (with_remaining id number [] all) numbers killed missing next more own in
    record {
      after = k.after;
      closes = kills all k.after number numbers killed missing c open_all k.closes;
      own = k.own;
      elsewhere = λ router other. k.elsewhere router other ∙ remaining_elsewhere id number [] router all other;
      given = λ life begun gave time g. k.given life begun gave time (remaining_given id number [] id.router life begun gave time all g);
    }
kills_all id namespace _ all _ _ _ _ (misses cursors next number numbers killed missing none more) same =
    let none_all : open_cursor id number namespace all ≡ None = sym (open_own id number namespace all)
    ∙ ap (λ l. open_cursor id number namespace l) same ∙ none in
    let k = kills_all id namespace cursors all numbers killed missing next more same in
    record {
      after = k.after;
      closes = misses all k.after number numbers killed missing none_all k.closes;
      own = k.own;
      elsewhere = k.elsewhere;
      given = k.given;
    }
