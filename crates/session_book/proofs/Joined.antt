-- The notes and the counts of records, with one more.
use Rattle.std.proofs.Common.{◌≡◌, ◌+◌, ◌<◌, ◌≤◌, ℕ, ℤ, zero, suc, List, [], ◌∷◌, ◌++◌, length, get_or, take, append_assoc, refl, sym, ap, ◌∙◌, arith}
use Rattle.std.specs.Prelude.{Bool, true, false, if◌then◌else◌}
use Rattle.std.proofs.lemmas.List.{append-nil, map-append}
use Rattle.history_model.specs.History as history
use Rattle.history_model.specs.History.{StatementNumber}
use Rattle.history_model.specs.Notes.{Note, Seen, same_session, seen}
use Rattle.history_model.specs.Merges.{seen_by_both}
use Rattle.history_model.proofs.Merged.{both_joined, seen_after_others}
use Rattle.value_compare.specs.declared.words.Reply.{Reply}
use Rattle.statement_views.specs.Views.{session_view}
use Rattle.statement_views.specs.declared.sessions.StatementRecord.{StatementRecord}
use Rattle.statement_views.specs.declared.sessions.SessionRecord.{SessionRecord}
use Rattle.session_book.specs.Records.{count_of, session_notes, statement_note, statement_notes}
use Rattle.session_book.proofs.Places.{itself}

-- notes merged after others
joined : (own : Seen Reply) (before after : Seen Reply) (notes more : List (Note Reply)) (n : StatementNumber) →
    before ≡ seen_by_both own (seen notes n) → after ≡ seen_by_both before (seen more n) → after ≡ seen_by_both own (seen (notes ++ more) n)
joined own before after notes more n merged now =
    now
    ∙ ap (λ (x : Seen Reply). seen_by_both x (seen more n)) merged
    ∙ both_joined own (seen notes n) (seen more n)
    ∙ ap (λ (x : Seen Reply). seen_by_both own x) (sym (seen_after_others notes more n))

pub statement_joined : (own before after : Seen Reply) (x : history.Session) (t : ℤ) (statements : List StatementRecord) (s : StatementRecord) (n : StatementNumber) →
    before ≡ seen_by_both own (seen (statement_notes x t statements) n) → after ≡ seen_by_both before (seen (statement_note x t s ∷ []) n) →
    after ≡ seen_by_both own (seen (statement_notes x t (statements ++ s ∷ [])) n)
statement_joined own before after x t statements s n merged now =
    joined own before after (statement_notes x t statements) (statement_note x t s ∷ []) n merged now
    ∙ ap (λ (ns : List (Note Reply)). seen_by_both own (seen ns n)) (sym (map-append (statement_note x t) statements (s ∷ [])))

pub notes_push : (records : List SessionRecord) (r : SessionRecord) →
    session_notes (records ++ r ∷ []) ≡ session_notes records ++ statement_notes (session_view r.session) r.txn r.statements.items
notes_push [] r = append-nil (statement_notes (session_view r.session) r.txn r.statements.items)
notes_push (q ∷ records) r =
    ap (λ (ns : List (Note Reply)). statement_notes (session_view q.session) q.txn q.statements.items ++ ns) (notes_push records r)
    ∙ sym (append_assoc (statement_notes (session_view q.session) q.txn q.statements.items) (session_notes records) (statement_notes (session_view r.session) r.txn r.statements.items))

pub session_joined : (own before after : Seen Reply) (records : List SessionRecord) (r : SessionRecord) (n : StatementNumber) →
    before ≡ seen_by_both own (seen (session_notes records) n) →
    after ≡ seen_by_both before (seen (statement_notes (session_view r.session) r.txn r.statements.items) n) →
    after ≡ seen_by_both own (seen (session_notes (records ++ r ∷ [])) n)
session_joined own before after records r n merged now =
    joined own before after (session_notes records) (statement_notes (session_view r.session) r.txn r.statements.items) n merged now
    ∙ ap (λ (ns : List (Note Reply)). seen_by_both own (seen ns n)) (sym (notes_push records r))

-- a session as it was copied, after others
pub pushed : (records : List SessionRecord) (r : SessionRecord) (t : ℤ) (statements : List StatementRecord) → r.txn ≡ t → r.statements.items ≡ statements →
    session_notes (records ++ r ∷ []) ≡ session_notes records ++ statement_notes (session_view r.session) t statements
pushed records r t statements txn items =
    notes_push records r
    ∙ ap (λ (u : ℤ). session_notes records ++ statement_notes (session_view r.session) u r.statements.items) txn
    ∙ ap (λ (ss : List StatementRecord). session_notes records ++ statement_notes (session_view r.session) t ss) items

pub length_one_more : (statements : List StatementRecord) (s : StatementRecord) → length (statements ++ s ∷ []) ≡ length statements + 1
length_one_more [] s = refl
length_one_more (q ∷ statements) s = omega (arith, length_one_more statements s)

pub room_more : (b : Bool) (old mid new k m : ℕ) → m ≡ k + 1 → old ≤ mid + (if b then k else 0) → mid ≤ new + (if b then 1 else 0) →
    old ≤ new + (if b then m else 0)
room_more true old mid new k m is first then_ = omega (arith, is, first, then_)
room_more false old mid new k m is first then_ = omega (arith, first, then_)

pub count_push : (x : history.Session) (records : List SessionRecord) (r : SessionRecord) →
    count_of x (records ++ r ∷ []) ≡ count_of x records + (if same_session (session_view r.session) x then length r.statements.items else 0)
count_push x [] r = omega arith
count_push x (q ∷ records) r = omega (arith, count_push x records r)

-- what was counted before a record, and the record, is no more than all
pub count_reached : (x : history.Session) (records : List SessionRecord) (i : ℕ) (r : SessionRecord) → i < length records → r ≡ get_or records i r →
    count_of x (take i records) + (if same_session (session_view r.session) x then length r.statements.items else 0) ≤ count_of x records
count_reached x [] i r inside is = absurd (omega (arith, inside))
count_reached x (q ∷ records) zero r inside is =
    let same : (if same_session (session_view r.session) x then length r.statements.items else 0) ≡ (if same_session (session_view q.session) x then length q.statements.items else 0) =
    ap (λ (y : SessionRecord). if same_session (session_view y.session) x then length y.statements.items else 0) is in
    omega (arith, same)
count_reached x (q ∷ records) (suc i) r inside is = omega (arith, count_reached x records i r (omega (arith, inside)) is)

pub room_left : (x : history.Session) (r : SessionRecord) (before all old mid : ℕ) (counted : ℕ) → before ≡ counted →
    before + (if same_session (session_view r.session) x then length r.statements.items else 0) ≤ all → all ≤ old → old ≤ mid + counted →
    x ≡ session_view r.session → length r.statements.items ≤ mid
room_left x r before all old mid counted is reached room more here =
    let taken : (if same_session (session_view r.session) x then length r.statements.items else 0) ≡ length r.statements.items =
    ap (λ (y : history.Session). if same_session (session_view r.session) y then length r.statements.items else 0) here
    ∙ ap (λ (b : Bool). if b then length r.statements.items else 0) (itself (session_view r.session)) in
    omega (arith, is, reached, room, more, taken)

pub room_on : (old mid new before after k : ℕ) → after ≡ before + k → old ≤ mid + before → mid ≤ new + k → old ≤ new + after
room_on old mid new before after k is first then_ = omega (arith, is, first, then_)
