-- What a book answers once something else is kept of one session.
use Rattle.std.proofs.Common.{◌≡◌, ◌≢◌, ◌≤◌, ◌+◌, ℕ, ℤ, [], refl, sym, ap, ◌∙◌, arith}
use Rattle.std.specs.Prelude.{Bool, true, false, ◌&&◌, Option, Some, int_lt, if◌then◌else◌}
use Rattle.std.specs.Ordering.{int_eq}
use Rattle.history_model.specs.History as history
use Rattle.history_model.specs.History.{StatementNumber}
use Rattle.history_model.specs.Notes.{Seen, new_statement, older_than, same_session, seen_with}
use Rattle.history_model.proofs.Noted.{same_session_is}
use Rattle.cluster_base.specs.declared.identity.Stmt.{Stmt}
use Rattle.cluster_base.specs.declared.time.Time.{Time}
use Rattle.value_compare.specs.declared.words.Reply.{Reply}
use Rattle.statement_views.specs.Views.{session_view}
use Rattle.session_book.specs.Statements.{Statements, seen_among, seen_after}
use Rattle.session_book.specs.Books.{seen_of, room_of, note_view}

-- what is stored of a session, where w is what is stored of s from now on, and was what was before
pub record Changes (s : history.Session) (old : history.Session → Option Statements) (new : history.Session → Option Statements) (was : Option Statements) (w : Statements) : Type 0 where
  pub here : old s ≡ was
  pub changed : (x : history.Session) → new x ≡ (if same_session s x then Some w else old x)

module _ (s : history.Session) (old new : history.Session → Option Statements) (was : Option Statements) (w : Statements) (change : Changes s old new was w) where
  old_here : (x : history.Session) → same_session s x ≡ true → old x ≡ was
  old_here x same = ap (λ (y : history.Session). old y) (sym (same_session_is s x same)) ∙ change.here

  pub new_here : (x : history.Session) → same_session s x ≡ true → new x ≡ Some w
  new_here x same = change.changed x ∙ ap (λ (b : Bool). if b then Some w else old x) same

  pub elsewhere : (x : history.Session) → same_session s x ≡ false → new x ≡ old x
  elsewhere x apart = change.changed x ∙ ap (λ (b : Bool). if b then Some w else old x) apart

  -- where each statement of the session is as it was, all are
  pub seen_same : ((n : StatementNumber) → seen_of (Some w) n ≡ seen_of was n) → (n : StatementNumber) → seen_of (new n.session) n ≡ seen_of (old n.session) n
  seen_same same n = by_test (same_session s n.session) refl
    where
      by_test : (b : Bool) → same_session s n.session ≡ b → seen_of (new n.session) n ≡ seen_of (old n.session) n
      by_test true here = rw (new_here n.session here, old_here n.session here) (same n)
      by_test false apart = rw (elsewhere n.session apart) refl

  -- and how much less room there is
  pub room_less : (k : ℕ) → room_of was ≤ w.room + k → (x : history.Session) → room_of (old x) ≤ room_of (new x) + k
  room_less k less x = by_test (same_session s x) refl
    where
      by_test : (b : Bool) → same_session s x ≡ b → room_of (old x) ≤ room_of (new x) + k
      by_test true here = rw (new_here x here, old_here x here) less
      by_test false apart = rw (elsewhere x apart) (omega arith)

  pub room_no_less : room_of was ≤ w.room → (x : history.Session) → room_of (old x) ≤ room_of (new x)
  room_no_less less x = omega (arith, room_less 0 (omega (arith, less)) x)

  pub room_elsewhere : (x : history.Session) → x ≢ s → room_of (old x) ≤ room_of (new x)
  room_elsewhere x apart = by_test (same_session s x) refl
    where
      by_test : (b : Bool) → same_session s x ≡ b → room_of (old x) ≤ room_of (new x)
      by_test true here = absurd (apart (sym (same_session_is s x here)))
      by_test false other = rw (elsewhere x other) (omega arith)

all_new : (less equal : Bool) (x : Seen Reply) → (if less && false then x else if equal then new_statement else new_statement) ≡ new_statement
all_new true true x = refl
all_new true false x = refl
all_new false true x = refl
all_new false false x = refl

-- of a session of which nothing was done each statement is new
pub none_done : (w : Statements) → w.notes ≡ [] → (n : StatementNumber) → seen_of (Some w) n ≡ new_statement
none_done w none n = rw none (all_new (int_lt n.transaction w.transaction) (int_eq n.transaction w.transaction) (older_than w.transaction))

-- by transaction and notes alone
pub same_done : (w was : Statements) → w.transaction ≡ was.transaction → w.notes ≡ was.notes → (n : StatementNumber) →
    seen_of (Some w) n ≡ seen_of (Some was) n
same_done w was transaction notes n = rw (transaction, notes) refl

-- one note more
pub seen_noted : (s : Stmt) (time : Time) (reply : Reply) (old new : history.Session → Option Statements) (was w : Statements) →
    Changes (session_view s.session) old new (Some was) w →
    ((t : ℤ) (i : ℕ) → seen_among w t i ≡ seen_after s.txn (record { index = s.index; time = time; reply = reply }) t i (seen_among was t i)) →
    (n : StatementNumber) → seen_of (new n.session) n ≡ seen_with (note_view s time reply) n (seen_of (old n.session) n)
seen_noted s time reply old new was w change sees n = by_test (same_session (session_view s.session) n.session) refl
  where
    by_test : (b : Bool) → same_session (session_view s.session) n.session ≡ b →
        seen_of (new n.session) n ≡ seen_with (note_view s time reply) n (seen_of (old n.session) n)
    by_test true here = rw (new_here (session_view s.session) old new (Some was) w change n.session here, old_here (session_view s.session) old new (Some was) w change n.session here, here) (sees n.transaction n.index)
    by_test false apart = rw (elsewhere (session_view s.session) old new (Some was) w change n.session apart, apart) refl
