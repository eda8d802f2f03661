-- For which statement of a request a shard makes an entry, and that it makes it after those before it.
use Rattle.std.proofs.Common.{◌≡◌, ℕ, zero, suc, ◌+◌, ◌<◌, ◌≤◌, List, [], ◌∷◌, ◌++◌, refl, sym, ap, subst, ◌∙◌, arith, append_assoc, Bool}
use Rattle.std.specs.Prelude.{Option, Some, None, true, false, length, drop, is_some, nat_le}
use Rattle.std.specs.List.{AllByRecursion}
use Rattle.std.proofs.lemmas.Bool.{leb-true, leb-false}
use Rattle.history_model.proofs.Lists.{all_at, in_back, in_first, in_prefix}
use Rattle.base_model.specs.Errors.{ErrorCode}
use Rattle.base_model.specs.Refusals.{Refusal, without_evidence}
use Rattle.command_model.specs.Writes.{ClientNumber, WriteCommand}
use Rattle.history_model.specs.History.{StatementNumber, Operation, Entry, IsIn}
use Rattle.base_model.specs.Identities.{RequestId}
use Rattle.reply_model.specs.Exchanges.{Asked, number_for}
use Rattle.reply_model.specs.Outcomes.{StatementOutcome, is_older, Done, answer_by, done_of}
use Rattle.reply_model.specs.Right.{ends, IsEntryAt}
use Rattle.node_model.specs.Letters.{Statement}
use Rattle.node_model.specs.Service.{entry_for, Serves, serves_no_more, serves_again, serves_new, ends_again, ends_new}
use Rattle.node_model.specs.RouterRequests.{statements_from}
use Rattle.node_laws.proofs.WriteFacts.{IsAnswerOf, by_entry, by_older, AreAnswers, AreDoneBefore}
use Rattle.node_laws.proofs.SeenStatements.{true_false, IsFound, found_entry, found_older, seen_found}
use Rattle.node_laws.proofs.ServedStatements.{AreUpTo, up_to_next, IsOf, AreOf}
use Rattle.node_laws.proofs.ServedParts.{next_is}

-- THE STATEMENTS OF A WRITE

pub index_at : (given : Option ClientNumber) (id : RequestId) (n : ℕ) → n ≡ (number_for given id n).index
index_at None id n = refl
index_at (Some by) id n = refl

of_from : (write : WriteCommand) (id : RequestId) (index : ℕ) (operations : List Operation) → index + length operations ≤ length write.operations
    → AreOf write id (statements_from write.number id index operations)
of_from write id index [] le = tt
of_from write id index (operation ∷ operations) le =
    let at = index_at write.number id index in (
      record { numbered = ap (λ n. number_for write.number id n) at; within = omega (arith, at) },
      of_from write id (index + 1) operations (omega arith),
    )

all_dropped : {X : Type 0} (P : X → Type 0) (n : ℕ) (xs : List X) → AllByRecursion P xs → AllByRecursion P (drop n xs)
all_dropped P zero xs all = all
all_dropped P (suc n) [] all = tt
all_dropped P (suc n) (x ∷ xs) all = all_dropped P n xs all.1

pub drop_statements : (given : Option ClientNumber) (id : RequestId) (index n : ℕ) (operations : List Operation)
    → drop n (statements_from given id index operations) ≡ statements_from given id (index + n) (drop n operations)
drop_statements given id index zero operations = ap (λ k. statements_from given id k operations) (omega arith)
drop_statements given id index (suc n) [] = refl
drop_statements given id index (suc n) (d ∷ operations) = drop_statements given id (index + 1) n operations
    ∙ ap (λ k. statements_from given id k (drop n operations)) (omega arith)

pub statements_of : (write : WriteCommand) (id : RequestId) (n : ℕ) → AreOf write id (drop n (statements_from write.number id 0 write.operations))
statements_of write id n = all_dropped (IsOf write id) n (statements_from write.number id 0 write.operations)
    (of_from write id 0 write.operations (omega arith))

-- a list at a place
pub record Parted {X : Type 0} (xs : List X) (n : ℕ) : Type 0 where
  pub front : List X
  pub both : xs ≡ front ++ drop n xs
  pub count : length front ≡ n

pub parted : {X : Type 0} (xs : List X) (n : ℕ) → n ≤ length xs → Parted xs n
parted xs zero le = record { front = []; both = refl; count = refl }
parted [] (suc n) le = absurd (omega arith)
parted (x ∷ xs) (suc n) le =
    let p = parted xs n (omega arith) in
    let count = p.count in
    record { front = x ∷ p.front; both = ap (λ l. x ∷ l) p.both; count = omega (arith, count) }

length_push : {X : Type 0} (xs : List X) (x : X) → length (xs ++ x ∷ []) ≡ length xs + 1
length_push [] x = refl
length_push (y ∷ xs) x = let n = length_push xs x in omega (arith, n)

-- there are no more outcomes than statements
pub few_answers : (history : List Entry) (time : ℕ) (write : WriteCommand) (id : RequestId) (index : ℕ) (dones : List Done)
    → AreAnswers history time write id index dones → index ≤ length write.operations → index + length dones ≤ length write.operations
few_answers history time write id index [] all le = omega arith
few_answers history time write id index (d ∷ dones) all le =
    let at = all.0 in
    let within = all.1.within in
    let rest = few_answers history time write id (index + 1) dones all.2 (omega (arith, at, within)) in
    omega (arith, rest)

-- WHAT PROCEEDS WAS DONE

no_error : (o : Option ErrorCode) → is_some (elim o as (λ (x : Option ErrorCode). Option Refusal)
    [ None ↦ None | Some error ↦ Some (without_evidence error) ]) ≡ false
    → o ≡ None
no_error None e = refl
no_error (Some error) e = absurd (cc)

pub entry_goes : (e : Entry) (ordered : Bool) → ordered ≡ true → ends ordered (done_of e) ≡ false → e.outcome.error ≡ None
entry_goes e ordered is on = no_error e.outcome.error (ap (λ b. ends b (done_of e)) (sym is) ∙ on)

-- an entry under a number, without an error
pub record WasDone (history : List Entry) (number : StatementNumber) (time : ℕ) : Type 0 where
  pub entry : Entry
  pub stands : IsIn entry history
  pub numbered : entry.number ≡ number
  pub good : entry.outcome.error ≡ None
  pub past : entry.time ≤ time

found_goes : (entries : List Entry) (time : ℕ) (number : StatementNumber) (d : Done) (ordered : Bool) → ordered ≡ true → ends ordered d ≡ false
    → AreUpTo time entries → IsFound entries number d → WasDone entries number time
found_goes entries time number _ ordered is on past (found_entry e stands same) = record {
  entry = e;
  stands = stands;
  numbered = same;
  good = entry_goes e ordered is on;
  past = all_at_time e stands;
}
  where
    all_at_time : (x : Entry) → IsIn x entries → x.time ≤ time
    all_at_time x i = all_at (λ (y : Entry). y.time ≤ time) x entries past i
found_goes entries time number _ ordered is on past (found_older e stands session less) =
    absurd (true_false (ap (λ b. ends b (record { index = number.index; answer = is_older e.number.transaction })) (sym is) ∙ on))

answer_goes : (history : List Entry) (time : ℕ) (number : StatementNumber) (index : ℕ) (answer : StatementOutcome) (ordered : Bool) → ordered ≡ true
    → ends ordered (record { index = index; answer = answer }) ≡ false → IsAnswerOf history time number answer → WasDone history number time
answer_goes history time number index _ ordered is on (by_entry e stands same past) = record {
  entry = e;
  stands = stands;
  numbered = same;
  good = no_error e.outcome.error (ap (λ b. ends b (record { index = index; answer = answer_by e })) (sym is) ∙ on);
  past = past;
}
answer_goes history time number index _ ordered is on (by_older e stands session less past) =
    absurd (true_false (ap (λ b. ends b (record { index = index; answer = is_older e.number.transaction })) (sym is) ∙ on))

-- each statement that has an outcome and did not end its command was done
pub front_done : (history : List Entry) (time : ℕ) (write : WriteCommand) (id : RequestId) (ordered : Bool) (index : ℕ) (dones : List Done) → ordered ≡ true
    → AreAnswers history time write id index dones → AllByRecursion (λ d. ends ordered d ≡ false) dones → (i : ℕ) → index ≤ i → i < index + length dones
    → WasDone history (number_for write.number id i) time
front_done history time write id ordered index [] is all goes i from below = absurd (omega arith)
front_done history time write id ordered index (d ∷ dones) is all goes i from below =
    by_place (nat_le i index) refl (λ l. front_done history time write id ordered (index + 1) dones is all.2 goes.1 i l (omega arith))
  where
    by_place : (t : Bool) → nat_le i index ≡ t → (index + 1 ≤ i → WasDone history (number_for write.number id i) time)
        → WasDone history (number_for write.number id i) time
    by_place true h later =
        let here : i ≤ index = leb-true _ _ h in
        let at : d.index ≡ i = all.0 ∙ omega arith in
        subst (λ n. WasDone history (number_for write.number id n) time) at
        (answer_goes history time (number_for write.number id d.index) d.index d.answer ordered is goes.0 all.1.answer)
    by_place false h later = later (let more : index < i = leb-false _ _ h in omega arith)

-- ENTRIES THAT ARE MADE

-- the entry is that of a statement of a write, after all before it where they are in order
pub record IsMadeAt (a : Asked) (write : WriteCommand) (ordered : Bool) (history : List Entry) (e : Entry) : Type 0 where
  pub index : ℕ
  pub entry : IsEntryAt a write index e
  pub reached : ordered ≡ true → AreDoneBefore history e.time write a.id index

module _ (a : Asked) (write : WriteCommand) (shard : ℕ) (namespace : List ℕ) (ordered : Bool) (name : namespace ≡ write.namespace) where
  done_longer : (entries more : List Entry) (early late index : ℕ) → early ≤ late → AreDoneBefore entries early write a.id index
      → AreDoneBefore (entries ++ more) late write a.id index
  done_longer entries more early late index le done = λ i below.
      let d = done i below in
      let before = d.4 in
      (d.0, in_prefix d.0 entries more d.1, d.2, d.3, omega (arith, before))

  -- and with one more
  done_next : (entries : List Entry) (time index : ℕ) → AreDoneBefore entries time write a.id index
      → (e : Entry) → IsIn e entries → e.number ≡ number_for write.number a.id index → e.outcome.error ≡ None → e.time < time
      → AreDoneBefore entries time write a.id (index + 1)
  done_next entries time index done e stands numbered good early = λ i below. by_place i (nat_le index i) refl below
    where
      by_place : (i : ℕ) (t : Bool) → nat_le index i ≡ t → i < index + 1
          → (d : Entry) × IsIn d entries × (d.number ≡ number_for write.number a.id i) × (d.outcome.error ≡ None) × (d.time < time)
      by_place i true h below =
          let from : index ≤ i = leb-true _ _ h in
          let same : index ≡ i = omega arith in
          (e, stands, numbered ∙ ap (λ n. number_for write.number a.id n) same, good, early)
      by_place i false h below = done i (let less : i < index = leb-false _ _ h in less)

  -- the entry of the next statement
  made_next : (entries more : List Entry) (time index : ℕ) (prefix operations : List Operation) (operation : Operation) (s : Statement)
      → write.operations ≡ prefix ++ operation ∷ operations → length prefix ≡ index → s.number ≡ number_for write.number a.id index → s.operation ≡ operation
      → (ordered ≡ true → AreDoneBefore entries (time + 1) write a.id index)
      → IsMadeAt a write ordered (entries ++ more) (entry_for entries (time + 1) shard namespace s)
  made_next entries more time index prefix operations operation s both count numbered does done = record {
    index = index;
    entry = record {
      prefix = prefix;
      operation = operation;
      back = operations;
      both = both;
      at = count;
      statement = record { same_number = numbered; name = name; does = does };
    };
    reached = λ is. done_longer entries more (time + 1) (time + 1) index (omega arith) (done is);
  }

  pub serves_made : (entries : List Entry) (time : ℕ) (statements : List Statement) (dones : List Done) (made : List Entry) (last : ℕ)
      → Serves shard namespace ordered entries time statements dones made last → (index : ℕ) (prefix operations : List Operation) (later : List Statement)
      → write.operations ≡ prefix ++ operations → length prefix ≡ index → statements_from write.number a.id index operations ≡ statements ++ later
      → AreUpTo time entries → (ordered ≡ true → AreDoneBefore entries (time + 1) write a.id index)
      → AllByRecursion (IsMadeAt a write ordered (entries ++ made)) made
  serves_made _ _ _ _ _ _ (serves_no_more entries time rest) index prefix operations later both count next past done = tt
  serves_made _ _ _ _ _ _ (serves_again entries time s rest d dones made last seen on more) index prefix [] later both count next past done = absurd (cc)
  serves_made _ _ _ _ _ _ (serves_again entries time s rest d dones made last seen on more) index prefix (operation ∷ operations) later both count next past
      done =
      let n = next_is write.number a.id index operation operations s (rest ++ later) next in
      serves_made entries time rest dones made last more (index + 1) (prefix ++ operation ∷ []) operations later
      (both ∙ sym (append_assoc prefix (operation ∷ []) operations)) (length_push prefix operation ∙ ap (λ k. k + 1) count) n.others_are past
      (λ is.
      let w = found_goes entries time s.number d ordered is on past (seen_found s.number entries d seen) in
      let early = w.past in
      done_next entries (time + 1) index (done is) w.entry w.stands (w.numbered ∙ n.number) w.good (omega (arith, early)))
  serves_made _ _ _ _ _ _ (serves_new entries time s rest dones made last new on more) index prefix [] later both count next past done = absurd (cc)
  serves_made _ _ _ _ _ _ (serves_new entries time s rest dones made last new on more) index prefix (operation ∷ operations) later both count next past
      done =
      let n = next_is write.number a.id index operation operations s (rest ++ later) next in
      let e : Entry = entry_for entries (time + 1) shard namespace s in (
        made_next entries (e ∷ made) time index prefix operations operation s both count n.number n.does done,
        subst (λ l. AllByRecursion (IsMadeAt a write ordered l) made) (append_assoc entries (entry_for entries (time + 1) shard namespace s ∷ []) made)
            (serves_made (entries ++ entry_for entries (time + 1) shard namespace s ∷ []) (time + 1) rest dones made last more (index + 1)
            (prefix ++ operation ∷ []) operations later
            (both ∙ sym (append_assoc prefix (operation ∷ []) operations)) (length_push prefix operation ∙ ap (λ k. k + 1) count) n.others_are
            (up_to_next time entries (entry_for entries (time + 1) shard namespace s) refl past)
            (λ is. done_next (entries ++ entry_for entries (time + 1) shard namespace s ∷ []) (time + 1 + 1) index
            (done_longer entries (entry_for entries (time + 1) shard namespace s ∷ []) (time + 1) (time + 1 + 1) index (omega arith) (done is))
            (entry_for entries (time + 1) shard namespace s)
            (in_back (entry_for entries (time + 1) shard namespace s) entries (entry_for entries (time + 1) shard namespace s ∷ [])
            (in_first (entry_for entries (time + 1) shard namespace s) []))
            n.number (entry_goes (entry_for entries (time + 1) shard namespace s) ordered is on) (omega arith))),
      )
  serves_made _ _ _ _ _ _ (ends_again entries time s rest d seen over) index prefix operations later both count next past done = tt
  serves_made _ _ _ _ _ _ (ends_new entries time s rest new over) index prefix [] later both count next past done = absurd (cc)
  serves_made _ _ _ _ _ _ (ends_new entries time s rest new over) index prefix (operation ∷ operations) later both count next past done =
      let n = next_is write.number a.id index operation operations s (rest ++ later) next in
      (made_next entries (entry_for entries (time + 1) shard namespace s ∷ []) time index prefix operations operation s both count n.number n.does done, tt)
