-- What is stored under a key at a time is what the last entry under it left, of those up to then.
use Rattle.std.proofs.Common.{◌≡◌, ℕ, ◌<◌, ◌≤◌, ◌⊎◌, inl, inr, List, [], ◌∷◌, ◌++◌, refl, ap, ◌∙◌, arith}
use Rattle.std.specs.Prelude.{true, false, Option, None, Bool, if◌then◌else◌, nat_le}
use Rattle.std.specs.List.{AllByRecursion}
use Rattle.std.proofs.lemmas.Bool.{le-leb}
use Rattle.std.proofs.lemmas.Bool.Decides.{leb_tells}
use Rattle.std.proofs.lemmas.List.Elements.{filter-append}
use Rattle.bson_model.specs.Tree.{Datum, Fields}
use Rattle.history_model.specs.History.{effect, Entry, writes_to, document_after, document_left, document_at, IsBefore, Legal}
use Rattle.history_model.proofs.Lists.{all_weaken}
use Rattle.reply_laws.proofs.StandingDocuments.{no_later, up_to}
use Rattle.history_model.proofs.LegalHistories.{all_untouched, document_after_append, follows_prefix}

-- ENTRIES UP TO A TIME

abbrev Told : ℕ → ℕ → Type 0
Told a time = ((nat_le a time ≡ true) × (a ≤ time)) ⊎ ((nat_le a time ≡ false) × (time < a))

whole_up_to : (time : ℕ) (es : List Entry) → AllByRecursion (λ e. e.time ≤ time) es → up_to time es ≡ es
whole_up_to time [] all = refl
whole_up_to time (e ∷ es) all = rw (le-leb e.time time all.0) (ap (λ l. e ∷ l) (whole_up_to time es all.1))

-- of a legal history all that is before an entry of a time is of that time
up_to_entry : (earlier later : List Entry) (e : Entry) (time : ℕ) → Legal (earlier ++ e ∷ later) → e.time ≤ time
    → up_to time (earlier ++ e ∷ later) ≡ earlier ++ e ∷ up_to time later
up_to_entry earlier later e time legal early =
    filter-append (λ (d : Entry). nat_le d.time time) earlier (e ∷ later)
    ∙ rw (
      le-leb e.time time early,
      whole_up_to time earlier (all_weaken (λ (d : Entry). IsBefore d e) (λ (d : Entry). d.time ≤ time) earlier
          (λ d is. omega (arith, no_later d e is, early)) (follows_prefix earlier later e legal).rises),
    ) refl

module _ (namespace : List ℕ) (key : Option Datum) where
  -- where no entry up to a time writes such a key, what is stored there stays
  abbrev pub WritesNone : ℕ → List Entry → Type 0
  WritesNone time es = AllByRecursion (λ (d : Entry). d.time ≤ time → writes_to namespace key d ≡ false) es

  none_up_to : (time : ℕ) (es : List Entry) → WritesNone time es → AllByRecursion (λ (d : Entry). writes_to namespace key d ≡ false) (up_to time es)
  none_up_to time [] none = tt
  none_up_to time (e ∷ es) none = by_time (leb_tells e.time time) (none_up_to time es none.1)
    where
      by_time : Told e.time time → AllByRecursion (λ (d : Entry). writes_to namespace key d ≡ false) (up_to time es)
          → AllByRecursion (λ (d : Entry). writes_to namespace key d ≡ false) (up_to time (e ∷ es))
      by_time (inl early) rest = rw early.0 (none.0 early.1, rest)
      by_time (inr late) rest = rw late.0 rest

  -- WHAT IS STORED AT A TIME

  -- where an entry is the last under a key up to a time, what it left
  pub last_left : (earlier later : List Entry) (e : Entry) (time : ℕ) → Legal (earlier ++ e ∷ later) → e.time ≤ time → writes_to namespace key e ≡ true
      → WritesNone time later → document_at (earlier ++ e ∷ later) namespace key time ≡ (effect e.operation (document_left namespace key earlier)).0
  last_left earlier later e time legal early hits none =
      let before : Option Fields = document_left namespace key earlier in
      ap (λ (l : List Entry). document_left namespace key l) (up_to_entry earlier later e time legal early)
      ∙ document_after_append namespace key None earlier (e ∷ up_to time later)
      ∙ ap (λ (hit : Bool). document_after namespace key (if hit then (effect e.operation before).0 else before) (up_to time later)) hits
      ∙ all_untouched namespace key (effect e.operation before).0 (up_to time later) (none_up_to time later none)

  -- where there is none, nothing
  pub nothing_left : (history : List Entry) (time : ℕ) → WritesNone time history → document_at history namespace key time ≡ None
  nothing_left history time none = all_untouched namespace key None (up_to time history) (none_up_to time history none)

  -- where none came between two times, what was stored there before
  abbrev pub WritesNoneBetween : ℕ → ℕ → List Entry → Type 0
  WritesNoneBetween before time es = AllByRecursion (λ (d : Entry). before < d.time → d.time ≤ time → writes_to namespace key d ≡ false) es

  abbrev left_by : Entry → Option Fields → Option Fields
  left_by e document = if writes_to namespace key e then (effect e.operation document).0 else document

  left_since : (before time : ℕ) (es : List Entry) (document : Option Fields) → before ≤ time → WritesNoneBetween before time es
      → document_after namespace key document (up_to time es) ≡ document_after namespace key document (up_to before es)
  left_since before time [] document less none = refl
  left_since before time (e ∷ es) document less none =
      by_times (leb_tells e.time before) (leb_tells e.time time)
      (λ next. left_since before time es next less none.1)
    where
      by_times : Told e.time before → Told e.time time
          → ((other : Option Fields) → document_after namespace key other (up_to time es) ≡ document_after namespace key other (up_to before es))
          → document_after namespace key document (up_to time (e ∷ es)) ≡ document_after namespace key document (up_to before (e ∷ es))
      by_times (inl early) (inl in_time) later = rw (early.0, in_time.0) (later (left_by e document))
      by_times (inl early) (inr late) later = absurd (omega (arith, early.1, late.1, less))
      by_times (inr after) (inl in_time) later =
          let passed : document_after namespace key document (e ∷ up_to time es) ≡ document_after namespace key document (up_to time es) =
          ap (λ (hit : Bool). document_after namespace key (if hit then (effect e.operation document).0 else document) (up_to time es))
          (none.0 after.1 in_time.1) in
          rw (after.0, in_time.0) (passed ∙ later document)
      by_times (inr after) (inr late) later = rw (after.0, late.0) (later document)

  pub stands_since : (history : List Entry) (before time : ℕ) → before ≤ time → WritesNoneBetween before time history
      → document_at history namespace key time ≡ document_at history namespace key before
  stands_since history before time less none = left_since before time history None less none
