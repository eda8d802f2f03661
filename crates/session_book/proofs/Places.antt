-- What is stored of sessions once other is kept at one place, or one place more.
use Rattle.std.proofs.Common.{◌≡◌, ◌≢◌, ◌+◌, ◌<◌, ℕ, List, [], ◌∷◌, ◌++◌, length, refl, sym, ap, ◌∙◌, arith}
use Rattle.std.specs.Prelude.{Bool, true, false, Option, Some, None, if◌then◌else◌}
use Rattle.std.specs.List.{slice_get, slice_set, slice_index_or}
use Rattle.std.specs.Option.{unwrap_or}
use Rattle.std.proofs.lemmas.Bool.{eq-eqb}
use Rattle.std.proofs.lemmas.List.{get_or-set_other, get_or-set_same, get_or_append_left, length-append, length-set}
use Rattle.std.proofs.lemmas.Option.{slice_get-get_or, slice_get_read}
use Rattle.std.proofs.lemmas.Slice.Eq.{bytes_eq-Decides}
use Rattle.std.proofs.Math.Seq.{get_or-append_seam}
use Rattle.cluster_base.specs.declared.identity.Session.{Session}
use Rattle.history_model.specs.History as history
use Rattle.history_model.specs.History.{client_session, router_session}
use Rattle.history_model.specs.Notes.{same_session}
use Rattle.history_model.proofs.Noted.{same_session_is}
use Rattle.session_book.specs.Statements.{Statements}
use Rattle.session_book.specs.Places.{AreApart, place_of, statements_at}
use Rattle.session_book.proofs.Booked.{Changes}

one_place : (i j : ℕ) → Some i ≡ Some j → i ≡ j
one_place i j e = ap (λ (o : Option ℕ). unwrap_or o 0) e

pub itself : (s : history.Session) → same_session s s ≡ true
itself (client_session id) = (bytes_eq-Decides id id).1 refl
itself (router_session node life request) = rw (eq-eqb node node refl, eq-eqb life life refl, eq-eqb request request refl) refl

differ : (s x : history.Session) → same_session s x ≡ false → s ≢ x
differ s x apart same = no (sym (itself s) ∙ ap (λ (y : history.Session). same_session s y) same ∙ apart)
  where
    no : true ≢ false
    no h = cc

-- what is stored of each session, by its place
abbrev pub kept_by : List (Session × ℕ) → List Statements → history.Session → Option Statements
kept_by places kept x = statements_at kept (place_of places x)

module _ (places : List (Session × ℕ)) (kept : List Statements) (apart : AreApart places kept) (s : history.Session) where
  module _ (place : ℕ) (is : place_of places s ≡ Some place) where
    bound : place < length kept
    bound = apart.inside s place is

    -- what is at the session's place is kept of it
    pub kept_there : (was : Statements) → was ≡ slice_index_or kept place was → kept_by places kept s ≡ Some was
    kept_there was read =
        ap (λ (o : Option ℕ). statements_at kept o) is ∙ slice_get_read kept (length kept) place was refl bound read

    module _ (w : Statements) where
      long : length (slice_set kept place w) ≡ length kept
      long = length-set kept place w

      there : slice_get (slice_set kept place w) place ≡ Some w
      there = slice_get-get_or (slice_set kept place w) place w (rw long bound) ∙ ap (λ (k : Statements). Some k) (get_or-set_same kept place w w bound)

      beside : (i : ℕ) → i < length kept → i ≢ place → slice_get (slice_set kept place w) i ≡ slice_get kept i
      beside i low other =
          slice_get-get_or (slice_set kept place w) i w (rw long low)
          ∙ ap (λ (k : Statements). Some k) (get_or-set_other kept place i w w other)
          ∙ sym (slice_get-get_or kept i w low)

      changed_by : (x : history.Session) (same : Bool) → same_session s x ≡ same → (o : Option ℕ) → place_of places x ≡ o →
          statements_at (slice_set kept place w) o ≡ (if same then Some w else statements_at kept o)
      changed_by x true same o at =
          ap (λ (p : Option ℕ). statements_at (slice_set kept place w) p) (sym at ∙ ap (λ (y : history.Session). place_of places y) (sym (same_session_is s x same)) ∙ is) ∙ there
      changed_by x false same None at = refl
      changed_by x false same (Some i) at =
          beside i (apart.inside x i at) (λ it. differ s x same (apart.own s x place is (at ∙ ap (λ (n : ℕ). Some n) it)))

      -- other is kept at the session's place now
      pub now_there : kept_by places (slice_set kept place w) s ≡ Some w
      now_there = ap (λ (o : Option ℕ). statements_at (slice_set kept place w) o) is ∙ there

      pub changes_there : (was : Statements) → was ≡ slice_index_or kept place was →
          Changes s (kept_by places kept) (kept_by places (slice_set kept place w)) (Some was) w
      changes_there was read = record {
        here = kept_there was read;
        changed = λ x. changed_by x (same_session s x) refl (place_of places x) refl;
      }

  module _ (none : place_of places s ≡ None) (more : List (Session × ℕ)) (w : Statements)
      (added : (x : history.Session) → place_of more x ≡ (if same_session s x then Some (length kept) else place_of places x)) where
    -- its place is after the others
    pub added_there : place_of more s ≡ Some (length kept)
    added_there = added s ∙ ap (λ (b : Bool). if b then Some (length kept) else place_of places s) (itself s)

    longer : length (kept ++ w ∷ []) ≡ length kept + 1
    longer = length-append kept (w ∷ [])

    last : slice_get (kept ++ w ∷ []) (length kept) ≡ Some w
    last = slice_get-get_or (kept ++ w ∷ []) (length kept) w (rw longer (omega arith)) ∙ ap (λ (k : Statements). Some k) (get_or-append_seam kept w [] w)

    before_last : (i : ℕ) → i < length kept → slice_get (kept ++ w ∷ []) i ≡ slice_get kept i
    before_last i low =
        slice_get-get_or (kept ++ w ∷ []) i w (rw longer (omega (arith, low)))
        ∙ ap (λ (k : Statements). Some k) (get_or_append_left kept (w ∷ []) w i low)
        ∙ sym (slice_get-get_or kept i w low)

    added_by : (x : history.Session) (same : Bool) → (o : Option ℕ) → place_of places x ≡ o →
        statements_at (kept ++ w ∷ []) (if same then Some (length kept) else o) ≡ (if same then Some w else statements_at kept o)
    added_by x true o at = last
    added_by x false None at = refl
    added_by x false (Some i) at = before_last i (apart.inside x i at)

    -- what is stored of the session is after the rest
    pub added_last : (x : history.Session) → kept_by more (kept ++ w ∷ []) x ≡ (if same_session s x then Some w else kept_by places kept x)
    added_last x = ap (λ (o : Option ℕ). statements_at (kept ++ w ∷ []) o) (added x) ∙ added_by x (same_session s x) (place_of places x) refl

    inside_by : (x : history.Session) (same : Bool) (i : ℕ) → (if same then Some (length kept) else place_of places x) ≡ Some i →
        i < length (kept ++ w ∷ [])
    inside_by x true i at = rw longer (omega (arith, one_place (length kept) i at))
    inside_by x false i at = rw longer (omega (arith, apart.inside x i at))

    own_by : (a b : history.Session) (at_a at_b : Bool) → same_session s a ≡ at_a → same_session s b ≡ at_b → (i : ℕ) →
        (if at_a then Some (length kept) else place_of places a) ≡ Some i → (if at_b then Some (length kept) else place_of places b) ≡ Some i → a ≡ b
    own_by a b true true is_a is_b i at_a at_b = sym (same_session_is s a is_a) ∙ same_session_is s b is_b
    own_by a b true false is_a is_b i at_a at_b = absurd (omega (arith, one_place (length kept) i at_a, apart.inside b i at_b))
    own_by a b false true is_a is_b i at_a at_b = absurd (omega (arith, one_place (length kept) i at_b, apart.inside a i at_a))
    own_by a b false false is_a is_b i at_a at_b = apart.own a b i at_a at_b

    pub added_apart : AreApart more (kept ++ w ∷ [])
    added_apart = record {
      inside = λ x i at. inside_by x (same_session s x) i (sym (added x) ∙ at);
      own = λ a b i at_a at_b. own_by a b (same_session s a) (same_session s b) refl refl i (sym (added a) ∙ at_a) (sym (added b) ∙ at_b);
    }
