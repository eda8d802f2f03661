-- What is stored of all sessions, as notes.
use Rattle.std.proofs.Common.{◌≡◌, ◌<◌, ◌≤◌, ℕ, List, [], ◌∷◌, ◌++◌, length, append_assoc, refl, sym, ap, ◌∙◌}
use Rattle.std.specs.Prelude.{Bool, true, false, Option, Some, None, if◌then◌else◌}
use Rattle.std.specs.List.{AllByRecursion, slice_get, slice_index_or}
use Rattle.std.specs.BTreeMap.{BTreeMap, get}
use Rattle.std.proofs.lemmas.List.{append-nil}
use Rattle.std.proofs.lemmas.Option.{slice_get_past, slice_get_read}
use Rattle.cluster_base.specs.declared.identity.Session.{Session}
use Rattle.history_model.specs.History as history
use Rattle.history_model.specs.History.{StatementNumber}
use Rattle.history_model.specs.Notes.{Note, Seen, new_statement, same_session, seen}
use Rattle.history_model.specs.Merges.{seen_by_both}
use Rattle.history_model.proofs.Noted.{same_session_is}
use Rattle.history_model.proofs.Merged.{both_itself, both_new, seen_after_others}
use Rattle.value_compare.specs.declared.words.Reply.{Reply}
use Rattle.statement_views.specs.Views.{session_view}
use Rattle.session_book.specs.Statements.{Statements}
use Rattle.session_book.specs.Places.{place_of, statements_at}
use Rattle.session_book.specs.Books.{seen_of}
use Rattle.session_book.specs.Records.{statement_notes}
use Rattle.session_book.proofs.Merging.{kept_notes, other_session, seen_kept}
use Rattle.session_book.proofs.Places.{itself}
use Rattle.session_book.proofs.Sessions.{place_at, session_order}

-- the notes of what is stored of each of these sessions, in their order
abbrev pub floor_notes : List Statements → List (Session × ℕ) → List (Note Reply)
floor_notes kept [] = []
floor_notes kept (e ∷ entries) = kept_notes (session_view e.0) (statements_at kept (Some e.1)) ++ floor_notes kept entries

-- each entry has the place that is looked up under its session
abbrev pub AreLookedUp : List (Session × ℕ) → List (Session × ℕ) → Type 0
AreLookedUp places entries = AllByRecursion (λ e. place_of places (session_view e.0) ≡ Some e.1) entries

turned : (a b : history.Session) (t : Bool) → same_session a b ≡ t → same_session b a ≡ t
turned a b true e = ap (λ (x : history.Session). same_session x a) (sym (same_session_is a b e)) ∙ itself a
turned a b false e = by_test (same_session b a) refl
  where
    by_test : (c : Bool) → same_session b a ≡ c → c ≡ false
    by_test true h = absurd (let g : true ≡ false = sym (itself a) ∙ ap (λ (x : history.Session). same_session a x) (sym (same_session_is b a h)) ∙ e in cc)
    by_test false h = refl

other_kept : (x : history.Session) (o : Option Statements) (n : StatementNumber) → same_session x n.session ≡ false → seen (kept_notes x o) n ≡ new_statement
other_kept x None n apart = refl
other_kept x (Some w) n apart = other_session x w.transaction w.notes n apart

module _ (kept : List Statements) (places : List (Session × ℕ)) (n : StatementNumber) where
  here : (e : Session × ℕ) → place_of places (session_view e.0) ≡ Some e.1 → same_session (session_view e.0) n.session ≡ true →
      seen (kept_notes (session_view e.0) (statements_at kept (Some e.1))) n ≡ seen_of (statements_at kept (place_of places n.session)) n
  here e is same =
      let session : session_view e.0 ≡ n.session = same_session_is (session_view e.0) n.session same in
      ap (λ (x : history.Session). seen (kept_notes x (statements_at kept (Some e.1))) n) session
      ∙ sym (seen_kept (statements_at kept (Some e.1)) n)
      ∙ ap (λ (o : Option ℕ). seen_of (statements_at kept o) n) (sym is ∙ ap (λ (x : history.Session). place_of places x) session)

  abbrev among : List (Session × ℕ) → Bool
  among [] = false
  among (e ∷ entries) = if same_session (session_view e.0) n.session then true else among entries

  twice : (b : Bool) (x : Seen Reply) → seen_by_both x (if b then x else new_statement) ≡ x
  twice true x = both_itself x
  twice false x = both_new x

  by_head : (e : Session × ℕ) (entries : List (Session × ℕ)) (b : Bool) → same_session (session_view e.0) n.session ≡ b →
      place_of places (session_view e.0) ≡ Some e.1 →
      seen (floor_notes kept entries) n ≡ (if among entries then seen_of (statements_at kept (place_of places n.session)) n else new_statement) →
      seen_by_both (seen (kept_notes (session_view e.0) (statements_at kept (Some e.1))) n) (seen (floor_notes kept entries) n)
      ≡ (if (if b then true else among entries) then seen_of (statements_at kept (place_of places n.session)) n else new_statement)
  by_head e entries true same is rest =
      ap (λ (x : Seen Reply). seen_by_both x (seen (floor_notes kept entries) n)) (here e is same)
      ∙ ap (λ (x : Seen Reply). seen_by_both (seen_of (statements_at kept (place_of places n.session)) n) x) rest
      ∙ twice (among entries) (seen_of (statements_at kept (place_of places n.session)) n)
  by_head e entries false apart is rest =
      ap (λ (x : Seen Reply). seen_by_both x (seen (floor_notes kept entries) n)) (other_kept (session_view e.0) (statements_at kept (Some e.1)) n apart) ∙ rest

  seen_among_entries : (entries : List (Session × ℕ)) → AreLookedUp places entries →
      seen (floor_notes kept entries) n ≡ (if among entries then seen_of (statements_at kept (place_of places n.session)) n else new_statement)
  seen_among_entries [] are = refl
  seen_among_entries (e ∷ entries) are =
      seen_after_others (kept_notes (session_view e.0) (statements_at kept (Some e.1))) (floor_notes kept entries) n
      ∙ by_head e entries (same_session (session_view e.0) n.session) refl are.0 (seen_among_entries entries are.1)

  -- where no entry is of the session, none is looked up
  not_among : (entries : List (Session × ℕ)) → among entries ≡ false → place_of entries n.session ≡ None
  not_among [] e = refl
  not_among (e ∷ entries) is = by_test (same_session (session_view e.0) n.session) refl (λ none. not_among entries none)
    where
      by_test : (b : Bool) → same_session (session_view e.0) n.session ≡ b → (among entries ≡ false → place_of entries n.session ≡ None) →
          place_of (e ∷ entries) n.session ≡ None
      by_test true same rest = absurd (let h : true ≡ false = rw same at is in cc)
      by_test false apart rest = rw (turned (session_view e.0) n.session false apart) (rest (rw apart at is))

  by_among : (b : Bool) → among places ≡ b → (if b then seen_of (statements_at kept (place_of places n.session)) n else new_statement) ≡ seen_of (statements_at kept (place_of places n.session)) n
  by_among true is = refl
  by_among false is = sym (ap (λ (o : Option ℕ). seen_of (statements_at kept o) n) (not_among places is))

-- what a number is against all that is kept
pub seen_floors : (kept : List Statements) (places : List (Session × ℕ)) → AreLookedUp places places → (n : StatementNumber) →
    seen_of (statements_at kept (place_of places n.session)) n ≡ seen (floor_notes kept places) n
seen_floors kept places are n = sym (seen_among_entries kept places n places are ∙ by_among kept places n (among kept places n places) refl)

-- one session more
pub floor_step : (kept : List Statements) (all : List (Note Reply)) (e : Session × ℕ) (left rest : List (Session × ℕ)) (notes more : List (Note Reply)) →
    notes ++ floor_notes kept left ≡ all → left ≡ e ∷ rest → more ≡ notes ++ kept_notes (session_view e.0) (statements_at kept (Some e.1)) →
    more ++ floor_notes kept rest ≡ all
floor_step kept all e left rest notes more whole front added =
    ap (λ (x : List (Note Reply)). x ++ floor_notes kept rest) added
    ∙ append_assoc notes (kept_notes (session_view e.0) (statements_at kept (Some e.1))) (floor_notes kept rest)
    ∙ ap (λ (x : List (Session × ℕ)). notes ++ floor_notes kept x) (sym front)
    ∙ whole

pub slot_some : (kept read : List Statements) (place : ℕ) (w : Statements) → read ≡ kept → place < length read → w ≡ slice_index_or read place w →
    statements_at kept (Some place) ≡ Some w
slot_some kept read place w same bound is =
    ap (λ (x : List Statements). slice_get x place) (sym same) ∙ slice_get_read read (length read) place w refl bound is

pub slot_none : (kept read : List Statements) (place : ℕ) → read ≡ kept → length read ≤ place → statements_at kept (Some place) ≡ None
slot_none kept read place same past = ap (λ (x : List Statements). slice_get x place) (sym same) ∙ slice_get_past read place past

pub kept_none : (x : history.Session) (o : Option Statements) (notes : List (Note Reply)) → o ≡ None → notes ≡ notes ++ kept_notes x o
kept_none x o notes none = rw none (sym (append-nil notes))

pub kept_some : (x : history.Session) (o : Option Statements) (w : Statements) (notes more : List (Note Reply)) → o ≡ Some w →
    more ≡ notes ++ statement_notes x w.transaction w.notes → more ≡ notes ++ kept_notes x o
kept_some x o w notes more some added = added ∙ ap (λ (p : Option Statements). notes ++ kept_notes x p) (sym some)

-- none is left
pub floor_end : (kept : List Statements) (all : List (Note Reply)) (left : List (Session × ℕ)) (notes : List (Note Reply)) →
    notes ++ floor_notes kept left ≡ all → left ≡ [] → notes ≡ all
floor_end kept all left notes whole none =
    sym (append-nil notes) ∙ ap (λ (x : List (Session × ℕ)). notes ++ floor_notes kept x) (sym none) ∙ whole

-- the entries of a map are those that it finds
pub looked_up : (m : BTreeMap Session ℕ) (entries : List (Session × ℕ)) → AllByRecursion (λ e. get session_order m e.0 ≡ Some e.1) entries → AreLookedUp m.entries entries
looked_up m [] found = tt
looked_up m (e ∷ entries) found = (place_at m e.0 ∙ found.0, looked_up m entries found.1)
