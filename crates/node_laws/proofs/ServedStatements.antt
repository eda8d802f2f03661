-- What serving statements results in: entries that rise, each as its operation says, each once, and the outcomes of their statements.
use Rattle.std.proofs.Common.{◌≡◌, ◌⊎◌, inl, inr, ℕ, ◌+◌, ◌<◌, ◌≤◌, List, [], ◌∷◌, ◌++◌, refl, sym, ap, subst, ◌∙◌, arith, append_assoc, append-nil, Bool}
use Rattle.std.specs.Prelude.{None, length, int_lt}
use Rattle.std.specs.List.{AllByRecursion}
use Rattle.history_model.proofs.Lists.{all_weaken, all_append, all_at, in_first, in_later, in_back, in_prefix}
use Rattle.command_model.specs.Writes.{WriteCommand}
use Rattle.history_model.specs.History.{StatementNumber, Entry, IsIn, IsBefore, IsSameStatement, Follows, LegalAfter, Legal}
use Rattle.base_model.specs.Identities.{RequestId}
use Rattle.reply_model.specs.Exchanges.{number_for}
use Rattle.reply_model.specs.Outcomes.{Done, done_of}
use Rattle.reply_model.specs.OneHistory.{KeepsNumbers, AreNumbered}
use Rattle.node_model.specs.Letters.{Statement}
use Rattle.node_model.specs.Service.{seen_before, entry_for, Serves, serves_no_more, serves_again, serves_new, ends_again, ends_new, Repeats, repeats_no_more, repeats, ends_repeat}
use Rattle.node_laws.proofs.WriteFacts.{by_entry, by_older, IsDoneAt, OnlyLast}
use Rattle.node_laws.proofs.SeenStatements.{true_false, IsFound, found_entry, found_older, seen_found, IsNewBehind, unseen_new}

-- the entries are not above a time
abbrev pub AreUpTo : ℕ → List Entry → Type 0
AreUpTo time entries = AllByRecursion (λ (e : Entry). e.time ≤ time) entries

pub up_to_later : (a b : ℕ) (entries : List Entry) → a ≤ b → AreUpTo a entries → AreUpTo b entries
up_to_later a b entries le all = all_weaken (λ (e : Entry). e.time ≤ a) (λ (e : Entry). e.time ≤ b) entries (λ e h. omega arith) all

-- with one more, at the next time
pub up_to_next : (time : ℕ) (entries : List Entry) (e : Entry) → e.time ≡ time + 1 → AreUpTo time entries → AreUpTo (time + 1) (entries ++ e ∷ [])
up_to_next time entries e at all = all_append (λ (d : Entry). d.time ≤ time + 1) entries (e ∷ []) (up_to_later time (time + 1) entries (omega arith) all)
    ((omega arith), tt)

-- TIMES

-- the entries that are made come after a time; the last time is reached by one of them, where there is one
pub record Rises (time : ℕ) (made : List Entry) (last : ℕ) : Type 0 where
  pub above : AllByRecursion (λ (e : Entry). time < e.time) made
  pub past : AreUpTo last made
  pub later : time ≤ last
  pub reached : (last ≡ time) ⊎ ((e : Entry) × IsIn e made × (last ≡ e.time))

rises_more : (time : ℕ) (e : Entry) (made : List Entry) (last : ℕ) → e.time ≡ time + 1 → Rises (time + 1) made last → Rises time (e ∷ made) last
rises_more time e made last at r =
    let le = r.later in
    record {
      above = ((omega arith), all_weaken (λ (d : Entry). time + 1 < d.time) (λ (d : Entry). time < d.time) made (λ d h. omega arith) r.above);
      past = ((omega arith), r.past);
      later = omega arith;
      reached = by_last r.reached;
    }
  where
    by_last : (last ≡ time + 1) ⊎ ((d : Entry) × IsIn d made × (last ≡ d.time)) → (last ≡ time) ⊎ ((d : Entry) × IsIn d (e ∷ made) × (last ≡ d.time))
    by_last (inl same) = inr (e, in_first e made, same ∙ sym at)
    by_last (inr (d, i, same)) = inr (d, in_later d e made i, same)

rises_none : (time : ℕ) → Rises time [] time
rises_none time = record { above = tt; past = tt; later = omega arith; reached = inl refl }

pub serves_rises : (shard : ℕ) (namespace : List ℕ) (ordered : Bool) (entries : List Entry) (time : ℕ) (statements : List Statement) (dones : List Done)
    (made : List Entry) (last : ℕ) → Serves shard namespace ordered entries time statements dones made last → Rises time made last
serves_rises shard namespace ordered _ _ _ _ _ _ (serves_no_more entries time rest) = rises_none time
serves_rises shard namespace ordered _ _ _ _ _ _ (serves_again entries time s rest e dones made last seen on more) =
    serves_rises shard namespace ordered entries time rest dones made last more
serves_rises shard namespace ordered _ _ _ _ _ _ (serves_new entries time s rest dones made last new on more) =
    rises_more time (entry_for entries (time + 1) shard namespace s) made last refl
    (serves_rises shard namespace ordered (entries ++ entry_for entries (time + 1) shard namespace s ∷ []) (time + 1) rest dones made last more)
serves_rises shard namespace ordered _ _ _ _ _ _ (ends_again entries time s rest e seen over) = rises_none time
serves_rises shard namespace ordered _ _ _ _ _ _ (ends_new entries time s rest new over) =
    rises_more time (entry_for entries (time + 1) shard namespace s) [] (time + 1) refl (rises_none (time + 1))

-- ONE LEGAL HISTORY

-- a new statement's entry may follow
new_follows : (shard : ℕ) (namespace : List ℕ) (entries : List Entry) (time : ℕ) (s : Statement) → seen_before s.number entries ≡ None
    → AreUpTo time entries → Follows entries (entry_for entries (time + 1) shard namespace s)
new_follows shard namespace entries time s new past =
    let e : Entry = entry_for entries (time + 1) shard namespace s in
    record {
      rises = all_weaken (λ (d : Entry). d.time ≤ time) (λ (d : Entry). IsBefore d (entry_for entries (time + 1) shard namespace s)) entries
          (λ d h. inl (omega arith)) past;
      told = refl;
      once = all_weaken (IsNewBehind s.number entries) (λ (d : Entry). ¬ IsSameStatement d (entry_for entries (time + 1) shard namespace s)) entries
          (λ d other same. other.0 same.number) (unseen_new s.number entries new);
    }

pub serves_legal : (shard : ℕ) (namespace : List ℕ) (ordered : Bool) (entries : List Entry) (time : ℕ) (statements : List Statement) (dones : List Done)
    (made : List Entry) (last : ℕ) → Serves shard namespace ordered entries time statements dones made last → AreUpTo time entries → LegalAfter entries made
serves_legal shard namespace ordered _ _ _ _ _ _ (serves_no_more entries time rest) past = tt
serves_legal shard namespace ordered _ _ _ _ _ _ (serves_again entries time s rest e dones made last seen on more) past =
    serves_legal shard namespace ordered entries time rest dones made last more past
serves_legal shard namespace ordered _ _ _ _ _ _ (serves_new entries time s rest dones made last new on more) past = (
  new_follows shard namespace entries time s new past,
  serves_legal shard namespace ordered (entries ++ entry_for entries (time + 1) shard namespace s ∷ []) (time + 1) rest dones made last more
      (up_to_next time entries (entry_for entries (time + 1) shard namespace s) refl past),
)
serves_legal shard namespace ordered _ _ _ _ _ _ (ends_again entries time s rest e seen over) past = tt
serves_legal shard namespace ordered _ _ _ _ _ _ (ends_new entries time s rest new over) past = (new_follows shard namespace entries time s new past, tt)

legal_joined_after : (earlier entries made : List Entry) → LegalAfter earlier entries → LegalAfter (earlier ++ entries) made
    → LegalAfter earlier (entries ++ made)
legal_joined_after earlier [] made legal next = subst (λ l. LegalAfter l made) (append-nil earlier) next
legal_joined_after earlier (e ∷ entries) made legal next = (
  legal.0,
  legal_joined_after (earlier ++ e ∷ []) entries made legal.1
      (subst (λ l. LegalAfter l made) (sym (append_assoc earlier (e ∷ []) entries)) next),
)

pub legal_joined : (entries made : List Entry) → Legal entries → LegalAfter entries made → Legal (entries ++ made)
legal_joined entries made legal next = legal_joined_after [] entries made legal next

-- NUMBERS

numbered_push : (entries : List Entry) (e : Entry) → AreNumbered entries → AllByRecursion (λ (d : Entry). KeepsNumbers d e) entries
    → AreNumbered (entries ++ e ∷ [])
numbered_push [] e numbered all = (tt, tt)
numbered_push (d ∷ entries) e numbered all =
    (all_append (KeepsNumbers d) entries (e ∷ []) numbered.0 (all.0, tt), numbered_push entries e numbered.1 all.1)

-- a new statement's entry keeps the numbers
new_numbered : (shard : ℕ) (namespace : List ℕ) (entries : List Entry) (time : ℕ) (s : Statement) → seen_before s.number entries ≡ None → AreNumbered entries
    → AreNumbered (entries ++ entry_for entries time shard namespace s ∷ [])
new_numbered shard namespace entries time s new numbered =
    numbered_push entries (entry_for entries time shard namespace s) numbered
    (all_weaken (IsNewBehind s.number entries) (λ (d : Entry). KeepsNumbers d (entry_for entries time shard namespace s)) entries
    (λ d n. record { apart = λ same e. n.0 (sym e); rises = λ same session. n.1 session }) (unseen_new s.number entries new))

pub serves_numbered : (shard : ℕ) (namespace : List ℕ) (ordered : Bool) (entries : List Entry) (time : ℕ) (statements : List Statement) (dones : List Done)
    (made : List Entry) (last : ℕ) → Serves shard namespace ordered entries time statements dones made last → AreNumbered entries
    → AreNumbered (entries ++ made)
serves_numbered shard namespace ordered _ _ _ _ _ _ (serves_no_more entries time rest) numbered = subst (λ l. AreNumbered l) (sym (append-nil entries)) numbered
serves_numbered shard namespace ordered _ _ _ _ _ _ (serves_again entries time s rest d dones made last seen on more) numbered =
    serves_numbered shard namespace ordered entries time rest dones made last more numbered
serves_numbered shard namespace ordered _ _ _ _ _ _ (serves_new entries time s rest dones made last new on more) numbered =
    subst (λ l. AreNumbered l) (append_assoc entries (entry_for entries (time + 1) shard namespace s ∷ []) made)
    (serves_numbered shard namespace ordered (entries ++ entry_for entries (time + 1) shard namespace s ∷ []) (time + 1) rest dones made last more
    (new_numbered shard namespace entries (time + 1) s new numbered))
serves_numbered shard namespace ordered _ _ _ _ _ _ (ends_again entries time s rest d seen over) numbered =
    subst (λ l. AreNumbered l) (sym (append-nil entries)) numbered
serves_numbered shard namespace ordered _ _ _ _ _ _ (ends_new entries time s rest new over) numbered =
    new_numbered shard namespace entries (time + 1) s new numbered

-- ENTRIES OF STATEMENTS

abbrev pub statement_of : Entry → Statement
statement_of e = record { number = e.number; operation = e.operation }

-- the entry is that of a statement of which this holds, on the shard and in the namespace
abbrev pub IsEntryOf : (shard : ℕ) (namespace : List ℕ) → (Statement → Type 0) → Entry → Type 0
IsEntryOf shard namespace P e = (e.shard ≡ shard) × (e.namespace ≡ namespace) × P (statement_of e)

pub serves_entries : (P : Statement → Type 0) (shard : ℕ) (namespace : List ℕ) (ordered : Bool) (entries : List Entry) (time : ℕ)
    (statements : List Statement) (dones : List Done) (made : List Entry) (last : ℕ)
    → Serves shard namespace ordered entries time statements dones made last → AllByRecursion P statements
    → AllByRecursion (IsEntryOf shard namespace P) made
serves_entries P shard namespace ordered _ _ _ _ _ _ (serves_no_more entries time rest) all = tt
serves_entries P shard namespace ordered _ _ _ _ _ _ (serves_again entries time s rest e dones made last seen on more) all =
    serves_entries P shard namespace ordered entries time rest dones made last more all.1
serves_entries P shard namespace ordered _ _ _ _ _ _ (serves_new entries time s rest dones made last new on more) all = (
  (refl, refl, all.0),
  serves_entries P shard namespace ordered (entries ++ entry_for entries (time + 1) shard namespace s ∷ [])
      (time + 1) rest dones made last more all.1,
)
serves_entries P shard namespace ordered _ _ _ _ _ _ (ends_again entries time s rest e seen over) all = tt
serves_entries P shard namespace ordered _ _ _ _ _ _ (ends_new entries time s rest new over) all = ((refl, refl, all.0), tt)

-- OUTCOMES

-- the statement is one of a write, by its number
pub record IsOf (write : WriteCommand) (id : RequestId) (s : Statement) : Type 0 where
  pub numbered : s.number ≡ number_for write.number id s.number.index
  pub within : s.number.index < length write.operations

abbrev pub AreOf : WriteCommand → RequestId → List Statement → Type 0
AreOf write id statements = AllByRecursion (IsOf write id) statements

module _ (write : WriteCommand) (id : RequestId) where
  -- an entry under the number of a statement answers it
  told_entry : (history : List Entry) (last : ℕ) (s : Statement) (e : Entry) → IsOf write id s → IsIn e history → e.number ≡ s.number → e.time ≤ last
      → IsDoneAt history last write id (done_of e)
  told_entry history last s e of stands same past =
      let index : s.number.index ≡ e.number.index = ap (λ (n : StatementNumber). n.index) (sym same) in
      let within = of.within in
      record {
        within = omega (arith, index);
        answer = by_entry e stands (same ∙ of.numbered ∙ ap (λ n. number_for write.number id n) index) past;
      }

  -- so does what was found of one
  told_found : (entries more : List Entry) (time last : ℕ) (s : Statement) (d : Done) → IsOf write id s → IsFound entries s.number d → AreUpTo time entries
      → time ≤ last → IsDoneAt (entries ++ more) last write id d
  told_found entries more time last s _ of (found_entry e stands same) past le =
      let early : e.time ≤ time = all_at (λ (d : Entry). d.time ≤ time) e entries past stands in
      told_entry (entries ++ more) last s e of (in_prefix e entries more stands) same (omega arith)
  told_found entries more time last s _ of (found_older e stands session less) past le =
      let early : e.time ≤ time = all_at (λ (d : Entry). d.time ≤ time) e entries past stands in
      record {
        within = of.within;
        answer = by_older e (in_prefix e entries more stands) (session ∙ ap (λ (n : StatementNumber). n.session) of.numbered)
            (ap (λ (n : StatementNumber). int_lt n.transaction e.number.transaction) (sym of.numbered) ∙ less) (omega arith);
      }

  pub serves_told : (shard : ℕ) (namespace : List ℕ) (ordered : Bool) (entries : List Entry) (time : ℕ) (statements : List Statement)
      (dones : List Done) (made : List Entry) (last : ℕ) → Serves shard namespace ordered entries time statements dones made last → AreOf write id statements
      → AreUpTo time entries → AllByRecursion (IsDoneAt (entries ++ made) last write id) dones
  serves_told shard namespace ordered _ _ _ _ _ _ (serves_no_more entries time rest) own past = tt
  serves_told shard namespace ordered _ _ _ _ _ _ (serves_again entries time s rest d dones made last seen on more) own past =
      let r = serves_rises shard namespace ordered entries time rest dones made last more in (
        told_found entries made time last s d own.0 (seen_found s.number entries d seen) past r.later,
        serves_told shard namespace ordered entries time rest dones made last more own.1 past,
      )
  serves_told shard namespace ordered _ _ _ _ _ _ (serves_new entries time s rest dones made last new on more) own past =
      let e : Entry = entry_for entries (time + 1) shard namespace s in
      let r = serves_rises shard namespace ordered (entries ++ entry_for entries (time + 1) shard namespace s ∷ []) (time + 1) rest dones made last more in (
        told_entry (entries ++ entry_for entries (time + 1) shard namespace s ∷ made) last s e own.0 (in_back e entries (e ∷ made) (in_first e made)) refl
            r.later,
        subst (λ l. AllByRecursion (IsDoneAt l last write id) dones) (append_assoc entries (entry_for entries (time + 1) shard namespace s ∷ []) made)
            (serves_told shard namespace ordered (entries ++ entry_for entries (time + 1) shard namespace s ∷ [])
            (time + 1) rest dones made last more own.1 (up_to_next time entries (entry_for entries (time + 1) shard namespace s) refl past)),
      )
  serves_told shard namespace ordered _ _ _ _ _ _ (ends_again entries time s rest d seen over) own past =
      (told_found entries [] time time s d own.0 (seen_found s.number entries d seen) past (omega arith), tt)
  serves_told shard namespace ordered _ _ _ _ _ _ (ends_new entries time s rest new over) own past =
      let e : Entry = entry_for entries (time + 1) shard namespace s in (
        told_entry (entries ++ entry_for entries (time + 1) shard namespace s ∷ []) (time + 1) s e own.0 (in_back e entries (e ∷ []) (in_first e [])) refl
            (omega arith),
        tt,
      )

  repeats_more : (ordered : Bool) (entries : List Entry) (time : ℕ) (statements : List Statement) (dones : List Done)
      → Repeats ordered entries statements dones → AreOf write id statements → AreUpTo time entries
      → AllByRecursion (IsDoneAt (entries ++ []) time write id) dones
  repeats_more ordered entries time _ _ (repeats_no_more rest) own past = tt
  repeats_more ordered entries time _ _ (repeats s rest d dones seen on more) own past = (
    told_found entries [] time time s d own.0 (seen_found s.number entries d seen) past (omega arith),
    repeats_more ordered entries time rest dones more own.1 past,
  )
  repeats_more ordered entries time _ _ (ends_repeat s rest d seen over) own past =
      (told_found entries [] time time s d own.0 (seen_found s.number entries d seen) past (omega arith), tt)

  pub repeats_told : (ordered : Bool) (entries : List Entry) (time : ℕ) (statements : List Statement) (dones : List Done)
      → Repeats ordered entries statements dones → AreOf write id statements → AreUpTo time entries → AllByRecursion (IsDoneAt entries time write id) dones
  repeats_told ordered entries time statements dones repeated own past =
      subst (λ l. AllByRecursion (IsDoneAt l time write id) dones) (append-nil entries)
      (repeats_more ordered entries time statements dones repeated own past)

-- THE LAST

-- only the last of the outcomes ends the command
pub serves_last : (shard : ℕ) (namespace : List ℕ) (ordered : Bool) (entries : List Entry) (time : ℕ) (statements : List Statement)
    (dones : List Done) (made : List Entry) (last : ℕ) → Serves shard namespace ordered entries time statements dones made last → OnlyLast ordered dones
serves_last shard namespace ordered _ _ _ _ _ _ (serves_no_more entries time rest) = tt
serves_last shard namespace ordered _ _ _ _ _ _ (serves_again entries time s rest d dones made last seen on more) =
    ((λ over. absurd (true_false (sym over ∙ on))), serves_last shard namespace ordered entries time rest dones made last more)
serves_last shard namespace ordered _ _ _ _ _ _ (serves_new entries time s rest dones made last new on more) = (
  (λ over. absurd (true_false (sym over ∙ on))),
  serves_last shard namespace ordered (entries ++ entry_for entries (time + 1) shard namespace s ∷ []) (time + 1) rest dones made last more,
)
serves_last shard namespace ordered _ _ _ _ _ _ (ends_again entries time s rest d seen over) = ((λ h. refl), tt)
serves_last shard namespace ordered _ _ _ _ _ _ (ends_new entries time s rest new over) = ((λ h. refl), tt)

pub repeats_last : (ordered : Bool) (entries : List Entry) (statements : List Statement) (dones : List Done) → Repeats ordered entries statements dones
    → OnlyLast ordered dones
repeats_last ordered entries _ _ (repeats_no_more rest) = tt
repeats_last ordered entries _ _ (repeats s rest d dones seen on more) = (
  (λ over. absurd (true_false (sym over ∙ on))),
  repeats_last ordered entries rest dones more,
)
repeats_last ordered entries _ _ (ends_repeat s rest d seen over) = ((λ h. refl), tt)
