-- What a number is against what is stored of a session, as against notes; and once one more statement was merged.
use Rattle.std.proofs.Common.{◌≡◌, ◌≢◌, ℕ, ℤ, List, [], ◌∷◌, refl, sym, ap, subst, ◌∙◌, arith}
use Rattle.std.specs.Prelude.{Bool, true, false, ◌&&◌, Option, Some, None, ◌==◌, int_lt, if◌then◌else◌}
use Rattle.std.specs.Int.{int_max}
use Rattle.std.specs.Option.{option_map, unwrap_or}
use Rattle.std.specs.Ordering.{int_eq}
use Rattle.std.proofs.lemmas.Int.{ints, clamps}
use Rattle.std.proofs.lemmas.Bool.Decides.{Decides-int_eq}
use Rattle.std.proofs.lemmas.Cmp.{int_eq_equiv}
use Rattle.history_model.specs.History as history
use Rattle.history_model.specs.History.{StatementNumber}
use Rattle.history_model.specs.Notes.{Note, Seen, new_statement, done_before, older_than, same_session, same_number, greatest_of, noted, seen_beside, seen, seen_with}
use Rattle.history_model.specs.Merges.{seen_by_both}
use Rattle.history_model.proofs.Noted.{one_more_note, same_session_is, same_number_is}
use Rattle.history_model.proofs.Merged.{both_new, seen_after_others}
use Rattle.value_compare.specs.declared.words.Reply.{Reply}
use Rattle.statement_views.specs.declared.sessions.StatementRecord.{StatementRecord}
use Rattle.session_book.specs.Statements.{Statements, are_some, with_index, seen_as}
use Rattle.session_book.specs.Books.{is_new, seen_of}
use Rattle.session_book.specs.Records.{statement_note, statement_notes}
use Rattle.session_book.proofs.Booked.{none_done}
use Rattle.session_book.proofs.Places.{itself}

pub is_new_one : (x : Seen Reply) → is_new x ≡ true → x ≡ new_statement
is_new_one new_statement e = refl
is_new_one (done_before time told) e = absurd cc
is_new_one (older_than t) e = absurd cc

pub is_known : (x : Seen Reply) → is_new x ≡ false → x ≢ new_statement
is_known new_statement e = absurd cc
is_known (done_before time told) e = λ same. cc
is_known (older_than t) e = λ same. cc

abbrev pub kept_notes : history.Session → Option Statements → List (Note Reply)
kept_notes session None = []
kept_notes session (Some w) = statement_notes session w.transaction w.notes

abbrev greatest_if : Bool → ℤ → Option ℤ
greatest_if some t = if some then Some t else None

same_greatest : (some : Bool) (t : ℤ) → Some (int_max t (unwrap_or (greatest_if some t) t)) ≡ Some t
same_greatest true t = ap (λ (x : ℤ). Some x) (omega (arith, ints, clamps))
same_greatest false t = ap (λ (x : ℤ). Some x) (omega (arith, ints, clamps))

greatest_is : (x : history.Session) (t : ℤ) (ns : List StatementRecord) → greatest_of x (statement_notes x t ns) ≡ greatest_if (are_some ns) t
greatest_is x t [] = refl
greatest_is x t (s ∷ ns) =
    ap (λ (b : Bool). if b then Some (int_max t (unwrap_or (greatest_of x (statement_notes x t ns)) t)) else greatest_of x (statement_notes x t ns)) (itself x)
    ∙ ap (λ (g : Option ℤ). Some (int_max t (unwrap_or g t))) (greatest_is x t ns)
    ∙ same_greatest (are_some ns) t

abbrev noted_if : Bool → history.Session → ℤ → Option StatementRecord → Option (Note Reply)
noted_if equal x t found = if equal then option_map (statement_note x t) found else None

noted_first : (equal same : Bool) (x : history.Session) (t : ℤ) (s : StatementRecord) (found : Option StatementRecord) →
    (if equal && same then Some (statement_note x t s) else noted_if equal x t found) ≡ noted_if equal x t (if same then Some s else found)
noted_first true true x t s found = refl
noted_first true false x t s found = refl
noted_first false true x t s found = refl
noted_first false false x t s found = refl

none_if : (equal : Bool) (x : history.Session) (t : ℤ) → None ≡ noted_if equal x t None
none_if true x t = refl
none_if false x t = refl

noted_is : (n : StatementNumber) (t : ℤ) (ns : List StatementRecord) →
    noted n (statement_notes n.session t ns) ≡ noted_if (int_eq t n.transaction) n.session t (with_index n.index ns)
noted_is n t [] = none_if (int_eq t n.transaction) n.session t
noted_is n t (s ∷ ns) =
    ap (λ (b : Bool). if b && (int_eq t n.transaction && s.index == n.index) then Some (statement_note n.session t s) else noted n (statement_notes n.session t ns)) (itself n.session)
    ∙ ap (λ (f : Option (Note Reply)). if int_eq t n.transaction && s.index == n.index then Some (statement_note n.session t s) else f) (noted_is n t ns)
    ∙ noted_first (int_eq t n.transaction) (s.index == n.index) n.session t s (with_index n.index ns)

-- the answer by what is kept, and by notes
abbrev kept_answer : Bool → Bool → ℤ → Option StatementRecord → Seen Reply
kept_answer less equal t found = if less then older_than t else if equal then seen_as found else new_statement

by_notes : (n : StatementNumber) (t : ℤ) (less equal : Bool) (found : Option StatementRecord) → int_lt n.transaction t ≡ less →
    kept_answer less equal t found ≡ seen_beside n (Some t) (noted_if equal n.session t found)
by_notes n t true true None l = rw l refl
by_notes n t true true (Some s) l = rw l refl
by_notes n t true false found l = rw l refl
by_notes n t false true None l = rw l refl
by_notes n t false true (Some s) l = rw l refl
by_notes n t false false found l = rw l refl

some_less : (less : Bool) (x y : Seen Reply) → (if less && true then x else y) ≡ (if less then x else y)
some_less true x y = refl
some_less false x y = refl

seen_some : (n : StatementNumber) (t : ℤ) (ns : List StatementRecord) (some : Bool) → are_some ns ≡ some → some ≡ true →
    (if int_lt n.transaction t && are_some ns then older_than t else if int_eq n.transaction t then seen_as (with_index n.index ns) else new_statement)
    ≡ seen (statement_notes n.session t ns) n
seen_some n t ns false is some = absurd cc
seen_some n t ns true is some =
    ap (λ (b : Bool). if int_lt n.transaction t && b then older_than t else if int_eq n.transaction t then seen_as (with_index n.index ns) else new_statement) is
    ∙ some_less (int_lt n.transaction t) (older_than t) (if int_eq n.transaction t then seen_as (with_index n.index ns) else new_statement)
    ∙ ap (λ (b : Bool). kept_answer (int_lt n.transaction t) b t (with_index n.index ns)) (int_eq_equiv.symm n.transaction t)
    ∙ by_notes n t (int_lt n.transaction t) (int_eq t n.transaction) (with_index n.index ns) refl
    ∙ ap (λ (g : Option ℤ). seen_beside n g (noted_if (int_eq t n.transaction) n.session t (with_index n.index ns))) (sym (greatest_is n.session t ns ∙ ap (λ (b : Bool). greatest_if b t) is))
    ∙ ap (λ (f : Option (Note Reply)). seen_beside n (greatest_of n.session (statement_notes n.session t ns)) f) (sym (noted_is n t ns))

-- a number against what is stored of its session is what it is against these notes
pub seen_kept : (o : Option Statements) (n : StatementNumber) → seen_of o n ≡ seen (kept_notes n.session o) n
seen_kept None n = refl
seen_kept (Some w) n = by_notes_there w.notes refl
  where
    by_notes_there : (ns : List StatementRecord) → w.notes ≡ ns → seen_of (Some w) n ≡ seen (kept_notes n.session (Some w)) n
    by_notes_there [] is = none_done w is n ∙ sym (ap (λ (ms : List StatementRecord). seen (statement_notes n.session w.transaction ms) n) is)
    by_notes_there (s ∷ ns) is = seen_some n w.transaction w.notes (are_some w.notes) refl (ap are_some is)

greatest_none : (x y : history.Session) (t : ℤ) (ns : List StatementRecord) → same_session x y ≡ false → greatest_of y (statement_notes x t ns) ≡ None
greatest_none x y t [] apart = refl
greatest_none x y t (s ∷ ns) apart =
    ap (λ (b : Bool). if b then Some (int_max t (unwrap_or (greatest_of y (statement_notes x t ns)) t)) else greatest_of y (statement_notes x t ns)) apart
    ∙ greatest_none x y t ns apart

-- and against those of another session it is new
pub other_session : (x : history.Session) (t : ℤ) (ns : List StatementRecord) (n : StatementNumber) → same_session x n.session ≡ false →
    seen (statement_notes x t ns) n ≡ new_statement
other_session x t ns n apart = ap (λ (g : Option ℤ). seen_beside n g (noted n (statement_notes x t ns))) (greatest_none x n.session t ns apart)

-- against one note
one_note : (note : Note Reply) (n : StatementNumber) → seen (note ∷ []) n ≡ seen_with note n new_statement
one_note note n = one_more_note [] note n refl

one_other : (note : Note Reply) (n : StatementNumber) → same_session note.number.session n.session ≡ false → seen (note ∷ []) n ≡ new_statement
one_other note n apart = one_note note n ∙ rw apart refl

-- a statement that is not new: some were done, and none in a lesser transaction alone
record Stands (w : Statements) (t : ℤ) : Type 0 where
  some : are_some w.notes ≡ true
  reached : int_lt w.transaction t ≡ false

none_there : (notes : List StatementRecord) → are_some notes ≡ false → notes ≡ []
none_there [] e = refl
none_there (s ∷ notes) e = absurd cc

not_less : (a b : ℤ) → int_lt a b ≡ true → int_lt b a ≡ false
not_less a b e = by_test (int_lt b a) refl
  where
    by_test : (c : Bool) → int_lt b a ≡ c → c ≡ false
    by_test true h = absurd (omega (arith, ints))
    by_test false h = refl

not_itself : (a b : ℤ) → a ≡ b → int_lt b a ≡ false
not_itself a b e = by_test (int_lt b a) refl
  where
    by_test : (c : Bool) → int_lt b a ≡ c → c ≡ false
    by_test true h = absurd (omega (arith, ints))
    by_test false h = refl

stands : (w : Statements) (n : StatementNumber) → seen_of (Some w) n ≢ new_statement → Stands w n.transaction
stands w n known = by_tests (are_some w.notes) (int_lt n.transaction w.transaction) (int_eq n.transaction w.transaction) refl refl refl
  where
    is_new_then : are_some w.notes ≡ true → int_lt n.transaction w.transaction ≡ false → int_eq n.transaction w.transaction ≡ false → seen_of (Some w) n ≡ new_statement
    is_new_then s l e = rw (s, e, l) refl

    by_tests : (some less equal : Bool) → are_some w.notes ≡ some → int_lt n.transaction w.transaction ≡ less → int_eq n.transaction w.transaction ≡ equal → Stands w n.transaction
    by_tests false less equal s l e = absurd (known (none_done w (none_there w.notes s) n))
    by_tests true true equal s l e = record { some = s; reached = not_less n.transaction w.transaction l }
    by_tests true false true s l e = record { some = s; reached = not_itself n.transaction w.transaction ((Decides-int_eq n.transaction w.transaction).0 e) }
    by_tests true false false s l e = absurd (known (is_new_then s l e))

both_done : (x : Seen Reply) (time : ℕ) (told : Reply) → x ≢ new_statement → seen_by_both x (done_before time told) ≡ x
both_done new_statement time told known = absurd (known refl)
both_done (done_before t r) time told known = refl
both_done (older_than g) time told known = refl

older_there : (w : Statements) (n : StatementNumber) (t : ℤ) → Stands w t → int_lt n.transaction t ≡ true →
    seen_by_both (seen_of (Some w) n) (older_than t) ≡ seen_of (Some w) n
older_there w n t there less =
    let lt : int_lt n.transaction w.transaction ≡ true = below (int_lt n.transaction w.transaction) refl in
    let is : seen_of (Some w) n ≡ older_than w.transaction = rw (lt, there.some) refl in
    ap (λ (x : Seen Reply). seen_by_both x (older_than t)) is ∙ ap (λ (g : ℤ). older_than g) greatest ∙ sym is
  where
    below : (b : Bool) → int_lt n.transaction w.transaction ≡ b → b ≡ true
    below true h = refl
    below false h = absurd (omega (arith, ints, less, there.reached, h))

    greatest : int_max w.transaction t ≡ w.transaction
    greatest = omega (arith, ints, clamps, there.reached)

-- a note of a number that is not new changes nothing
known_there : (o : Option Statements) (note : Note Reply) (n : StatementNumber) → note.number.session ≡ n.session → seen_of o note.number ≢ new_statement →
    seen_by_both (seen_of o n) (seen (note ∷ []) n) ≡ seen_of o n
known_there None note n session known = absurd (known refl)
known_there (Some w) note n session known =
    ap (λ (x : Seen Reply). seen_by_both (seen_of (Some w) n) x) (one_note note n)
    ∙ by_tests (same_session note.number.session n.session) (int_lt n.transaction note.number.transaction) (same_number note.number n) refl refl
  where
    by_tests : (session less same : Bool) → int_lt n.transaction note.number.transaction ≡ less → same_number note.number n ≡ same →
        seen_by_both (seen_of (Some w) n) (if session then (if less then older_than note.number.transaction else if same then done_before note.time note.told else new_statement) else new_statement)
        ≡ seen_of (Some w) n
    by_tests false less same l s = both_new (seen_of (Some w) n)
    by_tests true true same l s = older_there w n note.number.transaction (stands w note.number known) l
    by_tests true false true l s =
        both_done (seen_of (Some w) n) note.time note.told (subst (λ (m : StatementNumber). seen_of (Some w) m ≢ new_statement) (same_number_is note.number n s) known)
    by_tests true false false l s = both_new (seen_of (Some w) n)

module _ (old : history.Session → Option Statements) (note : Note Reply) (n : StatementNumber) where
  pub known_merges : seen_of (old note.number.session) note.number ≢ new_statement →
      seen_of (old n.session) n ≡ seen_by_both (seen_of (old n.session) n) (seen (note ∷ []) n)
  known_merges known = by_test (same_session note.number.session n.session) refl
    where
      by_test : (b : Bool) → same_session note.number.session n.session ≡ b → seen_of (old n.session) n ≡ seen_by_both (seen_of (old n.session) n) (seen (note ∷ []) n)
      by_test true here =
          let session : note.number.session ≡ n.session = same_session_is note.number.session n.session here in
          sym (known_there (old n.session) note n session (subst (λ (x : history.Session). seen_of (old x) note.number ≢ new_statement) session known))
      by_test false apart = sym (ap (λ (x : Seen Reply). seen_by_both (seen_of (old n.session) n) x) (one_other note n apart) ∙ both_new (seen_of (old n.session) n))

  pub new_merges : seen_of (old note.number.session) note.number ≡ new_statement →
      seen_with note n (seen_of (old n.session) n) ≡ seen_by_both (seen_of (old n.session) n) (seen (note ∷ []) n)
  new_merges new = by_test (same_session note.number.session n.session) refl
    where
      by_test : (b : Bool) → same_session note.number.session n.session ≡ b → seen_with note n (seen_of (old n.session) n) ≡ seen_by_both (seen_of (old n.session) n) (seen (note ∷ []) n)
      by_test true here =
          let session : note.number.session ≡ n.session = same_session_is note.number.session n.session here in
          let own = kept_notes n.session (old n.session) in
          let own_new : seen (kept_notes n.session (old n.session)) note.number ≡ new_statement =
          subst (λ (x : history.Session). seen (kept_notes x (old x)) note.number ≡ new_statement) session (sym (seen_kept (old note.number.session) note.number) ∙ new) in
          ap (λ (x : Seen Reply). seen_with note n x) (seen_kept (old n.session) n)
          ∙ sym (one_more_note own note n own_new)
          ∙ seen_after_others own (note ∷ []) n
          ∙ ap (λ (x : Seen Reply). seen_by_both x (seen (note ∷ []) n)) (sym (seen_kept (old n.session) n))
      by_test false apart =
          rw apart refl ∙ sym (ap (λ (x : Seen Reply). seen_by_both (seen_of (old n.session) n) x) (one_other note n apart) ∙ both_new (seen_of (old n.session) n))
