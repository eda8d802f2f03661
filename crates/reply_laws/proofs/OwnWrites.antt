-- Writes without a client's number, to try the definitions on: what is right, and what a right answer says.
use Rattle.std.proofs.Common.{◌≡◌, ℕ, ◌+◌, ◌≤◌, inl, inr, List, [], ◌∷◌, ◌++◌, refl, sym, ap, subst, ◌∙◌, arith, codes}
use Rattle.std.specs.Prelude.{Bool, true, false, Option, None, Result, Ok, map, length, ◌==◌}
use Rattle.std.proofs.lemmas.Bool.{eqb-true}
use Rattle.std.proofs.lemmas.List.{append_assoc, length-append}
use Rattle.std.specs.List.{AllByRecursion}
use Rattle.base_model.specs.Refusals.{Refusal}
use Rattle.bson_model.specs.Tree.{Fields}
use Rattle.command_model.specs.Writes.{ClientNumber, WriteCommand, WriteKind}
use Rattle.command_model.specs.Answers.{answer_document}
use Rattle.command_model.specs.Command.{Command, command_of, time_limit, write_command}
use Rattle.chunk_model.specs.SampleCollections.{creation}
use Rattle.chunk_model.specs.Tables.{first_shard}
use Rattle.chunk_model.specs.Changes.{create_change}
use Rattle.history_model.specs.History.{Operation, StatementNumber, Entry, IsIn}
use Rattle.history_model.proofs.Lists.{all_at, all_weaken, in_first, in_later}
use Rattle.base_model.specs.Identities.{RequestId}
use Rattle.reply_model.specs.Exchanges.{Asked, Answered, number_for, is_session_of, entries_by}
use Rattle.reply_laws.specs.SampleExchanges.{tells, account_of}
use Rattle.reply_laws.specs.SampleRetries.{IsUntold}
use Rattle.reply_laws.proofs.Quiet.{IsQuiet, quiet}
use Rattle.reply_laws.proofs.NumberedWrites.{Gives, told_by_entries}
use Rattle.reply_model.specs.Outcomes.{StatementOutcome, WasDone, Done, answer_by, done_of, answer_of}
use Rattle.reply_model.specs.Accounts.{Account}
use Rattle.reply_model.specs.Cursors.{Cursor}
use Rattle.reply_model.specs.Right.{MayBeTold, told_own, told_other, told_older, told_stale, told_given_up, AreTold, AreStatements, AreSingle, IsPart, IsShown, IsWhole, told_by, ends, IsRight, right_write}
use Rattle.reply_model.specs.OneHistory.{AreNumbered, EndsBefore, Shows}
use Rattle.reply_facts.proofs.Requests.{by_in, entry_by, own_session}
use Rattle.reply_facts.proofs.RightAnswers.{TellsWrite, right_of}
use Rattle.reply_facts.proofs.Statements.{UnlessEnded, one_number, all_told, part_ordered, part_single}

-- nothing ends before the first statement
pub none_before : (write : WriteCommand) (dones : List Done) → EndsBefore 0 write dones → ⊥
none_before write [] before = before
none_before write (d ∷ dones) (inl before) = omega (arith, before.0)
none_before write (d ∷ dones) (inr before) = none_before write dones before

-- these are outcomes of all the operations, or up to the error that ends an ordered command
abbrev pub AreAll : (ordered : Bool) → List Operation → List Done → Type 0
AreAll ordered [] dones = dones ≡ []
AreAll ordered (operation ∷ operations) [] = ⊥
AreAll ordered (operation ∷ operations) (d ∷ dones) = elim (ends ordered d) [ true ↦ dones ≡ [] | false ↦ AreAll ordered operations dones ]

-- its statements were done in order, and no other one is left
pub record IsDone (history : List Entry) (id : RequestId) (write : WriteCommand) : Type 0 where
  pub part : AreStatements id write.namespace write.ordered 0 write.operations (entries_by id history)
  pub all : AreAll write.ordered write.operations (told_by id history)

-- WHAT IS STORED

module _ (id : RequestId) (write : WriteCommand) where
  later_index : (ordered : Bool) (index : ℕ) (operations : List Operation) (entries : List Entry)
      → AreStatements id write.namespace ordered index operations entries → AllByRecursion (λ (e : Entry). index ≤ e.number.index) entries
  later_index ordered index operations [] are = tt
  later_index ordered index [] (e ∷ entries) are = absurd are
  later_index ordered index (operation ∷ operations) (e ∷ entries) are = (
    let at : e.number.index ≡ index = ap (λ (n : StatementNumber). n.index) are.0.same_number in omega (arith, at),
    all_weaken (λ (d : Entry). index + 1 ≤ d.number.index) (λ (d : Entry). index ≤ d.number.index) entries (λ d le. omega (arith, le))
        (later_index ordered (index + 1) operations entries are.2),
  )

  apart : (i j : ℕ) → i + 1 ≤ j → (j == i) ≡ false
  apart i j less = by_case (j == i) refl
    where
      by_case : (b : Bool) → (j == i) ≡ b → b ≡ false
      by_case true same = absurd (let e : j ≡ i = eqb-true j i same in omega (arith, less, e))
      by_case false same = refl

  -- in order, each is of another statement
  singles : (ordered : Bool) (before operations : List Operation) (entries : List Entry) → write.operations ≡ before ++ operations
      → AreStatements id write.namespace ordered (length before) operations entries → AreSingle id write entries
  singles ordered before operations [] all are = tt
  singles ordered before [] (e ∷ entries) all are = absurd are
  singles ordered before (operation ∷ operations) (e ∷ entries) all are =
      let at : e.number.index ≡ length before = ap (λ (n : StatementNumber). n.index) are.0.same_number in
      let next : length before + 1 ≡ length (before ++ operation ∷ []) = sym (length-append before (operation ∷ [])) in (
        record {
          before = before;
          operation = operation;
          back = operations;
          all = all;
          at = sym at;
          statement = record {
            same_number = are.0.same_number ∙ ap (λ n. number_for None id n) (sym at);
            name = are.0.name;
            does = are.0.does;
          };
        },
        all_weaken (λ (d : Entry). length before + 1 ≤ d.number.index) (λ (d : Entry). (d.number.index == e.number.index) ≡ false) entries
            (λ d le. apart e.number.index d.number.index (omega (arith, le, at))) (later_index ordered (length before + 1) operations entries are.2),
        singles ordered (before ++ operation ∷ []) operations entries (all ∙ sym (append_assoc before (operation ∷ []) operations))
            (subst (λ n. AreStatements id write.namespace ordered n operations entries) next are.2),
      )

  pub stored_part : (history : List Entry) → AreStatements id write.namespace write.ordered 0 write.operations (entries_by id history) → IsPart history id write
  stored_part history are = by_order write.ordered refl
    where
      by_order : (b : Bool) → write.ordered ≡ b → IsPart history id write
      by_order true is = part_ordered history id write is are
      by_order false is = part_single history id write is (singles write.ordered [] write.operations (entries_by id history) refl are)

all_shown : (entries : List Entry) → AllByRecursion (λ (e : Entry). IsShown e (map done_of entries)) entries
all_shown [] = tt
all_shown (e ∷ entries) = (
  inl (inl refl),
  all_weaken (λ (d : Entry). IsShown d (map done_of entries)) (λ (d : Entry). IsShown d (done_of e ∷ map done_of entries)) entries (λ d shown. inr shown)
      (all_shown entries),
)

-- where nothing is given up each statement was applied
pub was_done_own : (account : Account) (a : Asked) (t : Answered) → IsQuiet account a t → (number : StatementNumber) (namespace : List ℕ)
    (operation : Operation) (answer : StatementOutcome) → MayBeTold account a t None number namespace operation answer → WasDone answer
was_done_own account a t quiet number namespace operation answer (told_own e i is at) = tt
was_done_own account a t quiet number namespace operation answer (told_other e by i some is at had) = absurd (cc)
was_done_own account a t quiet number namespace operation answer (told_older e by i some is less at had) = absurd (cc)
was_done_own account a t quiet number namespace operation answer (told_stale tries were) = absurd (quiet.0 namespace tries were)
was_done_own account a t quiet number namespace operation answer (told_given_up refusal is) = absurd (quiet.1 refusal is)

module _ (history : List Entry) (asked : List Asked) (a : Asked) (t : Answered) (write : WriteCommand) (none : write.number ≡ None) (answered : List Answered) where
  -- it may have the outcomes of its entries
  own_told : (index : ℕ) (operations : List Operation) (entries : List Entry) → AreStatements t.id write.namespace write.ordered index operations entries
      → AreAll write.ordered operations (map done_of entries) → ((e : Entry) → IsIn e entries → IsIn e history × (e.time ≤ t.time))
      → AreTold (account_of history asked answered) a t write index operations (map done_of entries)
  own_told index [] entries are all stand = all
  own_told index (operation ∷ operations) [] are all stand = absurd all
  own_told index (operation ∷ operations) (e ∷ entries) are all stand = (
    ap (λ (n : StatementNumber). n.index) are.0.same_number,
    subst (λ (given : Option ClientNumber). MayBeTold (account_of history asked answered) a t given (number_for given t.id index) write.namespace operation
        (answer_by e)) (sym none)
        (told_own e here.0 are.0 here.1),
    by_end (ends write.ordered (done_of e)) all (λ every. own_told (index + 1) operations entries are.2 every (λ x i. stand x (in_later x e entries i))),
  )
    where
      here : IsIn e history × (e.time ≤ t.time)
      here = stand e (in_first e entries)

      by_end : (b : Bool) → UnlessEnded b (map done_of entries) (AreAll write.ordered operations (map done_of entries))
          → (AreAll write.ordered operations (map done_of entries)
          → AreTold (account_of history asked answered) a t write (index + 1) operations (map done_of entries))
          → UnlessEnded b (map done_of entries) (AreTold (account_of history asked answered) a t write (index + 1) operations (map done_of entries))
      by_end true nothing more = nothing
      by_end false every more = more every

  pub own_tells : IsDone history t.id write → AllByRecursion (λ (e : Entry). e.time ≤ t.time) (entries_by t.id history)
      → AreTold (account_of history asked answered) a t write 0 write.operations (told_by t.id history)
  own_tells done early =
      own_told 0 write.operations (entries_by t.id history) done.part done.all
      (λ e i. ((by_in t.id history e i).0, all_at (λ (d : Entry). d.time ≤ t.time) e (entries_by t.id history) early i))

  -- with these answers beside it
  pub own_right : a.id ≡ t.id → command_of a.request ≡ Ok (write_command write) → IsDone history t.id write
      → AllByRecursion (λ (e : Entry). e.time ≤ t.time) (entries_by t.id history) → creation.namespace ≡ write.namespace → creation.at ≤ t.time
      → t.document ≡ answer_document (answer_of write.kind t.time (told_by t.id history)) → IsRight (account_of history asked answered) [] a t []
  own_right own asks done early name began says =
      right_write write (told_by t.id history) asks (own_tells done early)
      (λ given. subst (λ (id : RequestId). IsWhole history id write (told_by t.id history)) (sym own) (record {
        part = stored_part t.id write history done.part;
        shown = all_shown (entries_by t.id history);
      }))
      (λ any. record { creation = creation; begun = in_first (create_change creation) []; name = name; before = began }) says

  pub own_shown : IsDone history t.id write → AllByRecursion (λ (e : Entry). e.time ≤ t.time) (entries_by t.id history)
      → t.document ≡ answer_document (answer_of write.kind t.time (told_by t.id history)) → Shows (account_of history asked answered) a t write
  own_shown done early says = record { dones = told_by t.id history; told = own_tells done early; same = says }

  -- WHAT A RIGHT ANSWER SAYS

  all_done : IsQuiet (account_of history asked answered) a t → (index : ℕ) (operations : List Operation) (dones : List Done)
      → AreTold (account_of history asked answered) a t write index operations dones → AllByRecursion (λ (d : Done). WasDone d.answer) dones
  all_done quiet index operations [] told = tt
  all_done quiet index [] (d ∷ dones) told = absurd (cc)
  all_done quiet index (operation ∷ operations) (d ∷ dones) told = (
    was_done_own (account_of history asked answered) a t quiet (number_for None t.id index) write.namespace operation d.answer
        (subst (λ (given : Option ClientNumber). MayBeTold (account_of history asked answered) a t given (number_for given t.id index) write.namespace operation
        d.answer) none told.1),
    by_end (ends write.ordered d) told.2 (λ rest. all_done quiet (index + 1) operations dones rest),
  )
    where
      by_end : (b : Bool) → UnlessEnded b dones (AreTold (account_of history asked answered) a t write (index + 1) operations dones)
          → (AreTold (account_of history asked answered) a t write (index + 1) operations dones → AllByRecursion (λ (x : Done). WasDone x.answer) dones)
          → AllByRecursion (λ (x : Done). WasDone x.answer) dones
      by_end true nothing more = subst (λ (l : List Done). AllByRecursion (λ (x : Done). WasDone x.answer) l) (sym nothing) tt
      by_end false rest more = more rest

  pub own_says : AreNumbered history → AllByRecursion (λ (e : Entry). e.shard ≡ first_shard) history
      → AreStatements t.id write.namespace write.ordered 0 write.operations (entries_by t.id history) → (next : List Cursor)
      → a.id ≡ t.id → command_of a.request ≡ Ok (write_command write) → time_limit a.request ≡ 0 → IsRight (account_of history asked answered) [] a t next
      → t.document ≡ answer_document (answer_of write.kind t.time (told_by t.id history))
  own_says numbered first are next own asks free right =
      told.says ∙ ap (λ (dones : List Done). answer_document (answer_of write.kind t.time dones)) same
    where
      told : TellsWrite (account_of history asked answered) a t write
      told = (right_of (account_of history asked answered) [] a t (Ok (write_command write)) next asks right).0

      same : told.dones ≡ told_by t.id history
      same = all_told (account_of history asked answered) a t write none
          (one_number history numbered (λ e i. all_at (λ (d : Entry). d.shard ≡ first_shard) e history first i))
          0 write.operations told.dones (entries_by t.id history) told.tells are (λ e i. (by_in t.id history e i).0)
          (λ e n i le is. entry_by t.id e history i (ap (λ (k : StatementNumber). is_session_of t.id k.session) is ∙ own_session t.id))
          (all_done (quiet history asked answered a t free) 0 write.operations told.dones told.tells)

-- the first statement may have no outcome
pub own_untold : (history : List Entry) (asked : List Asked) (a : Asked) (step counter : ℕ) (kind : WriteKind) (ordered : Bool) (operation : Operation)
    (rest : List Operation) → command_of a.request ≡ Ok (write_command (record
    { kind = kind; namespace = codes "d.c"; operations = operation ∷ rest; ordered = ordered; number = None }))
    → time_limit a.request ≡ 0 → ((document : Fields) → AllByRecursion
    (Gives asked (tells a step counter document) (number_for None a.id 0) (codes "d.c") operation (λ x. ⊥)) history)
    → IsUntold history asked a step counter
own_untold history asked a step counter kind ordered operation rest asks free none other next right =
    let told = (right_of (account_of history asked []) [] a (tells a step counter other) (Ok (write_command asked_for)) next asks right).0 in
    no_first told.dones told.tells
  where
    asked_for : WriteCommand
    asked_for = record { kind = kind; namespace = codes "d.c"; operations = operation ∷ rest; ordered = ordered; number = None }

    no_first : (dones : List Done) → AreTold (account_of history asked []) a (tells a step counter other) asked_for 0 (operation ∷ rest) dones → ⊥
    no_first [] told = told
    no_first (d ∷ dones) told =
        told_by_entries (account_of history asked []) a (tells a step counter other) (quiet history asked [] a (tells a step counter other) free) None (number_for None a.id 0) (codes "d.c") operation (λ x. ⊥) d.answer
        (none other) told.1

-- a request is for one write
pub same_write : (f g : WriteCommand) → Path (Result Command Refusal) (Ok (write_command f)) (Ok (write_command g)) → f ≡ g
same_write f g e = cc
