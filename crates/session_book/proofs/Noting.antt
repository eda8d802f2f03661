-- What a statement of a session is, once another was noted.
use Rattle.std.proofs.Common.{◌≡◌, ℕ, ℤ, List, [], ◌∷◌, refl, sym, ap, ◌∙◌, arith}
use Rattle.std.specs.Prelude.{Bool, true, false, ◌&&◌, Option, Some, None, ◌==◌, int_lt, if◌then◌else◌}
use Rattle.std.specs.Ordering.{int_eq}
use Rattle.std.proofs.lemmas.Int.{ints}
use Rattle.std.proofs.lemmas.Bool.{eq-eqb}
use Rattle.std.proofs.lemmas.Bool.Decides.{Decides-int_eq}
use Rattle.std.proofs.lemmas.Cmp.{int_eq_equiv}
use Rattle.history_model.specs.Notes.{Seen, new_statement, older_than}
use Rattle.value_compare.specs.declared.words.Reply.{Reply}
use Rattle.statement_views.specs.declared.sessions.StatementRecord.{StatementRecord}
use Rattle.session_book.specs.Statements.{Statements, are_some, with_index, seen_as, seen_among, notes_in, seen_after}

as_none : (found : Option StatementRecord) → seen_as found ≡ new_statement → found ≡ None
as_none None e = refl
as_none (Some noted) e = absurd cc

-- what makes a statement new
pub record IsNew (kept : Statements) (transaction : ℤ) (index : ℕ) : Type 0 where
  pub not_older : (int_lt transaction kept.transaction && are_some kept.notes) ≡ false
  pub none : int_eq transaction kept.transaction ≡ true → with_index index kept.notes ≡ None

pub is_new : (kept : Statements) (transaction : ℤ) (index : ℕ) → seen_among kept transaction index ≡ new_statement → IsNew kept transaction index
is_new kept transaction index new = by_tests (int_lt transaction kept.transaction && are_some kept.notes) (int_eq transaction kept.transaction) refl refl
  where
    by_tests : (older equal : Bool) → (int_lt transaction kept.transaction && are_some kept.notes) ≡ older →
        int_eq transaction kept.transaction ≡ equal → IsNew kept transaction index
    by_tests true equal o e = absurd (let h : older_than kept.transaction ≡ new_statement = rw o at new in cc)
    by_tests false true o e = record { not_older = o; none = λ _. as_none (with_index index kept.notes) (rw (o, e) at new) }
    by_tests false false o e = record { not_older = o; none = λ t. absurd cc }

-- none of its transaction has its index
pub none_in : (kept : Statements) (transaction : ℤ) (index : ℕ) → seen_among kept transaction index ≡ new_statement →
    with_index index (notes_in transaction kept) ≡ None
none_in kept transaction index new = by_test (int_eq transaction kept.transaction) refl
  where
    by_test : (equal : Bool) → int_eq transaction kept.transaction ≡ equal → with_index index (notes_in transaction kept) ≡ None
    by_test true e = rw e ((is_new kept transaction index new).none e)
    by_test false e = rw e refl

some_from : (notes : List StatementRecord) (index : ℕ) (noted : StatementRecord) → with_index index notes ≡ Some noted → are_some notes ≡ true
some_from [] index noted e = absurd cc
some_from (first ∷ notes) index noted e = refl

none_among : (notes : List StatementRecord) (index : ℕ) → are_some notes ≡ false → with_index index notes ≡ None
none_among [] index e = refl
none_among (first ∷ notes) index e = absurd cc

both_false : (b : Bool) (x : Seen Reply) → (if b && false then x else new_statement) ≡ new_statement
both_false true x = refl
both_false false x = refl

-- what has a greater transaction than a new statement is new
greater_new : (kept : Statements) (txn : ℤ) (index : ℕ) → IsNew kept txn index → (t : ℤ) (i : ℕ) → int_lt t txn ≡ false → int_eq txn t ≡ false →
    seen_among kept t i ≡ new_statement
greater_new kept txn index new t i lt eq =
    by_tests (are_some kept.notes) (int_lt txn kept.transaction) (int_lt t kept.transaction) (int_eq t kept.transaction) refl refl refl refl
  where
    by_tests : (some older less equal : Bool) → are_some kept.notes ≡ some → int_lt txn kept.transaction ≡ older →
        int_lt t kept.transaction ≡ less → int_eq t kept.transaction ≡ equal → seen_among kept t i ≡ new_statement
    by_tests false older less true s o l e = rw (s, e, l, none_among kept.notes i s) (both_false less (older_than kept.transaction))
    by_tests false older less false s o l e = rw (s, e, l) (both_false less (older_than kept.transaction))
    by_tests true true less equal s o l e = absurd (let h : true ≡ false = rw (o, s) at new.not_older in cc)
    by_tests true false true equal s o l e = absurd (omega (arith, ints))
    by_tests true false false true s o l e =
        let same : t ≡ kept.transaction = (Decides-int_eq t kept.transaction).0 e in
        let equal : txn ≡ t = omega (arith, ints, same, lt, o) in
        absurd (let h : false ≡ true = sym eq ∙ (Decides-int_eq txn t).1 equal in cc)
    by_tests true false false false s o l e = rw (s, e, l) refl

-- in the transaction of a new statement nothing is older
same_transaction : (kept : Statements) (txn : ℤ) (index : ℕ) → IsNew kept txn index → (i : ℕ) →
    seen_as (with_index i (notes_in txn kept)) ≡ seen_among kept txn i
same_transaction kept txn index new i = by_test (int_eq txn kept.transaction) refl
  where
    by_test : (equal : Bool) → int_eq txn kept.transaction ≡ equal → seen_as (with_index i (notes_in txn kept)) ≡ seen_among kept txn i
    by_test true e = rw (new.not_older, e) refl
    by_test false e = rw (new.not_older, e) refl

-- what a statement is, once a new one was noted
pub after_note : (old new : Statements) (txn : ℤ) (noted : StatementRecord) → new.transaction ≡ txn →
    ((q : ℕ) → with_index q new.notes ≡ (if noted.index == q then Some noted else with_index q (notes_in txn old))) →
    seen_among old txn noted.index ≡ new_statement → (t : ℤ) (i : ℕ) → seen_among new t i ≡ seen_after txn noted t i (seen_among old t i)
after_note old new txn noted is_txn finds was_new t i = by_tests (int_lt t txn) (int_eq txn t) (noted.index == i) refl refl refl
  where
    facts : IsNew old txn noted.index
    facts = is_new old txn noted.index was_new

    itself : (noted.index == noted.index) ≡ true
    itself = eq-eqb noted.index noted.index refl

    some : are_some new.notes ≡ true
    some = some_from new.notes noted.index noted (finds noted.index ∙ (rw itself refl))

    by_tests : (less equal same : Bool) → int_lt t txn ≡ less → int_eq txn t ≡ equal → (noted.index == i) ≡ same →
        seen_among new t i ≡ seen_after txn noted t i (seen_among old t i)
    by_tests true equal same l e s = rw (is_txn, l, some) refl
    by_tests false false same l e s = rw (is_txn, int_eq_equiv.symm t txn, e, l) (sym (greater_new old txn noted.index facts t i l e))
    by_tests false true true l e s = rw (is_txn, int_eq_equiv.symm t txn, e, l, finds i, s) refl
    by_tests false true false l e s =
        let one : txn ≡ t = (Decides-int_eq txn t).0 e in
        rw (is_txn, int_eq_equiv.symm t txn, e, l, finds i, s) (same_transaction old txn noted.index facts i ∙ ap (λ (z : ℤ). seen_among old z i) one)
