-- What a number is against entries that are kept, and against their notes.
use Rattle.std.proofs.Common.{◌≡◌, ℕ, ℤ, List, [], ◌∷◌, ◌++◌, refl, sym, ap, ◌∙◌, arith}
use Rattle.std.specs.Prelude.{Bool, true, false, Option, Some, None, int_lt, map, if◌then◌else◌}
use Rattle.std.specs.Int.{int_max}
use Rattle.std.specs.Option.{option_map, unwrap_or}
use Rattle.std.proofs.lemmas.Int.{ints}
use Rattle.std.proofs.lemmas.List.{map-append}
use Rattle.cluster_base.specs.declared.identity.RequestId.{RequestId}
use Rattle.cluster_base.specs.declared.identity.Stmt.{Stmt}
use Rattle.value_compare.specs.declared.words.Reply.{Reply}
use Rattle.command_replies.specs.Kinds.{given_view}
use Rattle.command_replies.specs.declared.answer.ClientNumber.{ClientNumber}
use Rattle.node_model.specs.Exchanges.{number_for}
use Rattle.node_model.specs.History.{Session, StatementNumber, Outcome, Entry}
use Rattle.node_model.specs.Outcomes.{Done}
use Rattle.node_model.specs.Service.{seen_by, told_again, seen_before}
use Rattle.node_traits.specs.Ids.{id_view}
use Rattle.history_model.specs.Notes.{Note, Seen, new_statement, done_before, older_than, same_session, same_number, greatest_of, noted, seen_beside, seen, notes_of}
use Rattle.history_model.proofs.Noted.{one_more_note, same_number_is}
use Rattle.statement_views.specs.Views.{session_view, number_view}
use Rattle.shard_store.specs.declared.outcome.EntryResult.{EntryResult}
use Rattle.shard_store.specs.declared.outcome.StatementOutcome.TheVariants.{WasDone, Older}
use Rattle.shard_store.specs.Outcomes.{outcome_view, reply_view, done_view, statement_of}
use Rattle.shard_store.specs.Entries.{Kept, entries_kept, notes_kept}

-- A STATEMENT IS FOUND, WHATEVER ITS OUTCOME

abbrev itself : Kept → Kept
itself k = k

module _ {A : Type 0} (tell : Kept → A) where
  -- the note of an entry, with this outcome
  abbrev note_telling : Kept → Note A
  note_telling k = record { number = number_view k.1.statement; time = k.1.time.0; told = tell k }

  abbrev notes_telling : List Kept → List (Note A)
  notes_telling kept = map note_telling kept

  abbrev as_told : Note Kept → Note A
  as_told n = record { number = n.number; time = n.time; told = tell n.told }

  abbrev seen_as : Seen Kept → Seen A
  seen_as new_statement = new_statement
  seen_as (done_before time k) = done_before time (tell k)
  seen_as (older_than greatest) = older_than greatest

module _ {A : Type 0} (tell : Kept → A) where
  greatest_same : (session : Session) (kept : List Kept) → greatest_of session (notes_telling tell kept) ≡ greatest_of session (notes_telling itself kept)
  greatest_same session [] = refl
  greatest_same session (k ∷ kept) =
      ap (λ (g : Option ℤ). if same_session (session_view k.1.statement.session) session then Some (int_max k.1.statement.txn (unwrap_or g k.1.statement.txn)) else g)
      (greatest_same session kept)

  noted_same : (number : StatementNumber) (kept : List Kept) →
      noted number (notes_telling tell kept) ≡ option_map (as_told tell) (noted number (notes_telling itself kept))
  noted_same number [] = refl
  noted_same number (k ∷ kept) = by_test (same_number (number_view k.1.statement) number) (noted_same number kept)
    where
      by_test : (b : Bool) → noted number (notes_telling tell kept) ≡ option_map (as_told tell) (noted number (notes_telling itself kept)) →
          (if b then Some (note_telling tell k) else noted number (notes_telling tell kept))
          ≡ option_map (as_told tell) (if b then Some (note_telling itself k) else noted number (notes_telling itself kept))
      by_test true e = refl
      by_test false e = e

  beside_same : (number : StatementNumber) (greatest : Option ℤ) (found : Option (Note Kept)) →
      seen_beside number greatest (option_map (as_told tell) found) ≡ seen_as tell (seen_beside number greatest found)
  beside_same number None found = refl
  beside_same number (Some greatest) None = by_test (int_lt number.transaction greatest)
    where
      by_test : (b : Bool) → (if b then older_than greatest else new_statement) ≡ seen_as tell (if b then older_than greatest else new_statement)
      by_test true = refl
      by_test false = refl
  beside_same number (Some greatest) (Some n) = by_test (int_lt number.transaction greatest)
    where
      by_test : (b : Bool) → (if b then older_than greatest else done_before n.time (tell n.told)) ≡ seen_as tell (if b then older_than greatest else done_before n.time n.told)
      by_test true = refl
      by_test false = refl

  seen_same : (number : StatementNumber) (kept : List Kept) → seen (notes_telling tell kept) number ≡ seen_as tell (seen (notes_telling itself kept) number)
  seen_same number kept =
      ap (λ (g : Option ℤ). seen_beside number g (noted number (notes_telling tell kept))) (greatest_same number.session kept)
      ∙ ap (λ (found : Option (Note A)). seen_beside number (greatest_of number.session (notes_telling itself kept)) found) (noted_same number kept)
      ∙ beside_same number (greatest_of number.session (notes_telling itself kept)) (noted number (notes_telling itself kept))

-- WHAT THE BOOK FINDS AND WHAT THE ENTRIES SAY

abbrev outcome_told : Kept → Outcome
outcome_told k = outcome_view k.1.outcome

abbrev reply_told : Kept → Reply
reply_told k = reply_view (outcome_view k.1.outcome)

-- which entry a number finds
abbrev found_among : List Kept → StatementNumber → Seen Kept
found_among kept number = seen (notes_telling itself kept) number

notes_are : (shard : ℕ) (kept : List Kept) → notes_of (entries_kept shard kept) ≡ notes_telling outcome_told kept
notes_are shard [] = refl
notes_are shard (k ∷ kept) = ap (λ (l : List (Note Outcome)). note_telling outcome_told k ∷ l) (notes_are shard kept)

told_is : (shard : ℕ) (number : StatementNumber) (kept : List Kept) →
    seen_before number (entries_kept shard kept) ≡ told_again number (seen_as outcome_told (found_among kept number))
told_is shard number kept =
    ap (λ (l : List (Note Outcome)). told_again number (seen l number)) (notes_are shard kept)
    ∙ ap (λ (s : Seen Outcome). told_again number s) (seen_same outcome_told number kept)

-- what was not seen among entries is new
pub new_kept : (shard : ℕ) (number : StatementNumber) (kept : List Kept) → seen_before number (entries_kept shard kept) ≡ None →
    seen (notes_kept kept) number ≡ new_statement
new_kept shard number kept none = seen_same reply_told number kept ∙ by_found (found_among kept number) (sym (told_is shard number kept) ∙ none)
  where
    by_found : (found : Seen Kept) → told_again number (seen_as outcome_told found) ≡ None → seen_as reply_told found ≡ new_statement
    by_found new_statement e = refl
    by_found (done_before time k) e = absurd cc
    by_found (older_than greatest) e = absurd cc

module _ (shard : ℕ) (number : StatementNumber) (kept : List Kept) where
  -- what is new has no outcome yet
  pub look_new : seen (notes_kept kept) number ≡ new_statement → None ≡ seen_before number (entries_kept shard kept)
  look_new new = by_found (found_among kept number) (sym (seen_same reply_told number kept) ∙ new) ∙ sym (told_is shard number kept)
    where
      by_found : (found : Seen Kept) → seen_as reply_told found ≡ new_statement → None ≡ told_again number (seen_as outcome_told found)
      by_found new_statement e = refl
      by_found (done_before time k) e = absurd cc
      by_found (older_than greatest) e = absurd cc

  -- what was done gets its outcome again
  pub look_done : (told : EntryResult) (reply : Reply) → seen (notes_kept kept) number ≡ done_before told.time.0 reply →
      ((k : Kept) → reply ≡ reply_view (outcome_view k.1.outcome) → outcome_view told.outcome ≡ outcome_view k.1.outcome) →
      Some (done_view number.index (WasDone told)) ≡ seen_before number (entries_kept shard kept)
  look_done told reply done outcome = by_found (found_among kept number) (sym (seen_same reply_told number kept) ∙ done) ∙ sym (told_is shard number kept)
    where
      by_found : (found : Seen Kept) → seen_as reply_told found ≡ done_before told.time.0 reply →
          Some (done_view number.index (WasDone told)) ≡ told_again number (seen_as outcome_told found)
      by_found new_statement e = absurd cc
      by_found (done_before time k) e =
          let timed : told.time.0 ≡ time = cc in
          let words : reply ≡ reply_view (outcome_view k.1.outcome) = cc in
          let is : outcome_view told.outcome ≡ outcome_view k.1.outcome = outcome k words in
          cc
      by_found (older_than greatest) e = absurd cc

  -- and of what is older, which transaction is greater
  pub look_older : (greatest : ℤ) → seen (notes_kept kept) number ≡ older_than greatest →
      Some (done_view number.index (Older greatest)) ≡ seen_before number (entries_kept shard kept)
  look_older greatest older = by_found (found_among kept number) (sym (seen_same reply_told number kept) ∙ older) ∙ sym (told_is shard number kept)
    where
      by_found : (found : Seen Kept) → seen_as reply_told found ≡ older_than greatest →
          Some (done_view number.index (Older greatest)) ≡ told_again number (seen_as outcome_told found)
      by_found new_statement e = absurd cc
      by_found (done_before time k) e = absurd cc
      by_found (older_than other) e = let same : greatest ≡ other = cc in cc

-- THE NUMBERS OF ONE REQUEST

-- the number of a statement is that of the definitions
pub number_is : (given : Option ClientNumber) (id : RequestId) (index : ℕ) → number_view (statement_of given id index) ≡ number_for (given_view given) (id_view id) index
number_is None id index = refl
number_is (Some given) id index = refl

pub index_is : (given : Option ClientNumber) (id : RequestId) (index : ℕ) → (statement_of given id index).index ≡ index
index_is None id index = refl
index_is (Some given) id index = refl

pub index_from : (given : Option ClientNumber) (id : RequestId) (index : ℕ) (s : Stmt) → s ≡ statement_of given id index → s.index ≡ index
index_from given id index s own = ap (λ (x : Stmt). x.index) own ∙ index_is given id index

pub seen_number : (entries : List Entry) (given : Option ClientNumber) (id : RequestId) (index : ℕ) (s : Stmt) → s ≡ statement_of given id index →
    seen_before (number_view s) entries ≡ seen_before (number_for (given_view given) (id_view id) index) entries
seen_number entries given id index s own =
    ap (λ (x : Stmt). seen_before (number_view x) entries) own ∙ ap (λ (n : StatementNumber). seen_before n entries) (number_is given id index)

pub transactions_same : (given : Option ClientNumber) (id : RequestId) (i j : ℕ) → (statement_of given id i).txn ≡ (statement_of given id j).txn
transactions_same None id i j = refl
transactions_same (Some given) id i j = refl

pub sessions_same : (given : Option ClientNumber) (id : RequestId) (i j : ℕ) → (statement_of given id i).session ≡ (statement_of given id j).session
sessions_same None id i j = refl
sessions_same (Some given) id i j = refl

-- ONE ENTRY MORE

new_from : (number : StatementNumber) (s : Seen Outcome) → told_again number s ≡ None → s ≡ new_statement
new_from number new_statement e = refl
new_from number (done_before time outcome) e = absurd cc
new_from number (older_than greatest) e = absurd cc

not_below : (a b : ℤ) → a ≡ b → int_lt b a ≡ false
not_below a b same = by_test (int_lt b a) refl
  where
    by_test : (t : Bool) → int_lt b a ≡ t → int_lt b a ≡ false
    by_test true h = absurd (omega (arith, ints))
    by_test false h = h

-- a new entry changes nothing for another number of its transaction
pub seen_aside : (entries : List Entry) (e : Entry) (number : StatementNumber) → seen_before e.number entries ≡ None →
    e.number.transaction ≡ number.transaction → same_number e.number number ≡ false → seen_by (entries ++ e ∷ []) number ≡ seen_by entries number
seen_aside entries e number new same other =
    let note : Note Outcome = record { number = e.number; time = e.time; told = e.outcome } in
    ap (λ (l : List (Note Outcome)). seen l number) (map-append (λ (d : Entry). record { number = d.number; time = d.time; told = d.outcome }) entries (e ∷ []))
    ∙ one_more_note (notes_of entries) note number (new_from e.number (seen_by entries e.number) new)
    ∙ by_tests (same_session e.number.session number.session) (int_lt number.transaction e.number.transaction) (same_number e.number number)
    (not_below e.number.transaction number.transaction same) other
  where
    by_tests : (session less hit : Bool) → less ≡ false → hit ≡ false →
        (if session then (if less then older_than e.number.transaction else if hit then done_before e.time e.outcome else seen_by entries number) else seen_by entries number)
        ≡ seen_by entries number
    by_tests true less hit l h = rw (l, h) refl
    by_tests false less hit l h = refl

-- what had an outcome without an entry was not the number of a new one
pub other_than_new : (entries : List Entry) (new number : StatementNumber) (d : Done) → seen_before new entries ≡ None → seen_before number entries ≡ Some d →
    same_number new number ≡ false
other_than_new entries new number d none told = by_test (same_number new number) refl
  where
    by_test : (b : Bool) → same_number new number ≡ b → b ≡ false
    by_test true h = absurd (let clash : None ≡ Some d = sym none ∙ ap (λ (n : StatementNumber). seen_before n entries) (same_number_is new number h) ∙ told in cc)
    by_test false h = refl
