-- A number has one entry, and the outcome of a statement that was done is that of the entry of its number.
use Rattle.std.proofs.Common.{◌≡◌, ℕ, ◌+◌, ◌<◌, ◌≤◌, ◌⊎◌, inl, inr, List, [], ◌∷◌, ◌++◌, refl, sym, ap, subst, ◌∙◌, arith}
use Rattle.std.specs.Prelude.{Bool, true, false, ◌&&◌, Option, Some, None, map, length, nat_le, zero, suc, if◌then◌else◌}
use Rattle.std.specs.List.{AllByRecursion}
use Rattle.std.specs.Str.{bytes_eq}
use Rattle.bson_model.specs.Tree.{Datum}
use Rattle.command_model.specs.Writes.{ClientNumber, WriteCommand}
use Rattle.chunk_model.specs.Placement.{owner}
use Rattle.chunk_model.specs.Tables.{first_shard}
use Rattle.chunk_model.specs.Changes.{Change, create_change, split_change, commit_change}
use Rattle.history_model.specs.History.{StatementNumber, Operation, Entry, IsIn}
use Rattle.history_model.proofs.Lists.{all_at, all_from, in_cons, in_first, in_later, in_none}
use Rattle.base_model.specs.Identities.{RequestId}
use Rattle.reply_model.specs.Exchanges.{Asked, Answered, number_for, entries_by}
use Rattle.reply_model.specs.Accounts.{Account}
use Rattle.reply_model.specs.Outcomes.{StatementOutcome, was_done, was_refused, WasDone, WasRefused, Done, answer_by, done_of}
use Rattle.reply_model.specs.Right.{MayBeTold, told_own, told_other, told_older, told_stale, told_given_up, AreTold, AreStatements, IsStored, AreSingle, IsPart, IsShown, IsWhole, ends}
use Rattle.reply_facts.proofs.Requests.{by_in}
use Rattle.reply_model.specs.OneHistory.{KeepsNumbers, AreNumbered, IsPlaced, WasWanted}

-- ONE ENTRY

-- no request moves a chunk, so all keys are on the first shard
unmoved : (asked : List Asked) (changes : List Change) → AllByRecursion (WasWanted asked) changes → (namespace : List ℕ) (key : Datum) (time shard : ℕ)
    → owner namespace key time changes ≡ Some shard → shard ≡ first_shard
unmoved asked [] wanted namespace key time shard owns = absurd (cc)
unmoved asked (create_change c ∷ older) wanted namespace key time shard owns =
    by_test (bytes_eq c.namespace namespace && nat_le c.at time) owns (λ e. unmoved asked older wanted.1 namespace key time shard e)
  where
    by_test : (test : Bool) → (if test then Some first_shard else owner namespace key time older) ≡ Some shard
        → (owner namespace key time older ≡ Some shard → shard ≡ first_shard) → shard ≡ first_shard
    by_test true e more = cc
    by_test false e more = more e
unmoved asked (split_change s ∷ older) wanted namespace key time shard owns = unmoved asked older wanted.1 namespace key time shard owns
unmoved asked (commit_change c ∷ older) wanted namespace key time shard owns = absurd wanted.0.asks

pub on_first : (asked : List Asked) (changes : List Change) → AllByRecursion (WasWanted asked) changes → (e : Entry) → IsPlaced changes e
    → e.shard ≡ first_shard
on_first asked changes wanted e placed = unmoved asked changes wanted e.namespace placed.key e.time e.shard placed.owner

pub one_number : (history : List Entry) → AreNumbered history → ((e : Entry) → IsIn e history → e.shard ≡ first_shard)
    → (d e : Entry) → IsIn d history → IsIn e history → d.number ≡ e.number → d ≡ e
one_number [] numbered first d e i j same = absurd (in_none d i)
one_number (c ∷ history) numbered first d e i j same =
    by_place (in_cons d c history i) (in_cons e c history j)
    (λ k l. one_number history numbered.1 (λ x m. first x (in_later x c history m)) d e k l same)
  where
    apart : (x : Entry) → IsIn x history → x.number ≡ c.number → ⊥
    apart x k e = (all_at (KeepsNumbers c) x history numbered.0 k).apart (first c (in_first c history) ∙ sym (first x (in_later x c history k))) e

    by_place : (d ≡ c) ⊎ IsIn d history → (e ≡ c) ⊎ IsIn e history → (IsIn d history → IsIn e history → d ≡ e) → d ≡ e
    by_place (inl x) (inl y) more = x ∙ sym y
    by_place (inl x) (inr l) more = absurd (apart e l (sym same ∙ ap (λ (z : Entry). z.number) x))
    by_place (inr k) (inl y) more = absurd (apart d k (same ∙ ap (λ (z : Entry). z.number) y))
    by_place (inr k) (inr l) more = more k l

-- OUTCOMES OF STATEMENTS

-- nothing follows where the command has ended
abbrev pub UnlessEnded : {X : Type 0} → (ended : Bool) → List X → Type 0 → Type 0
UnlessEnded ended xs More = elim ended [ true ↦ xs ≡ [] | false ↦ More ]

-- an entry under the number gives the answer
pub record IsAnswerOf (history : List Entry) (number : StatementNumber) (answer : StatementOutcome) : Type 0 where
  pub entry : Entry
  pub stands : IsIn entry history
  pub numbered : entry.number ≡ number
  pub says : answer ≡ answer_by entry

module _ (account : Account) (a : Asked) (t : Answered) where
  pub answer_of_entry : (given : Option ClientNumber) (number : StatementNumber) (namespace : List ℕ) (operation : Operation) (answer : StatementOutcome)
      → MayBeTold account a t given number namespace operation answer → WasDone answer → IsAnswerOf account.history number answer
  answer_of_entry given number namespace operation answer (told_own e i is at) done = record { entry = e; stands = i; numbered = is.same_number; says = refl }
  answer_of_entry given number namespace operation answer (told_other e by i some is at had) done = record { entry = e; stands = i; numbered = is; says = refl }
  answer_of_entry given number namespace operation answer (told_older e by i some is less at had) done = absurd done
  answer_of_entry given number namespace operation answer (told_stale tries were) done = absurd done
  answer_of_entry given number namespace operation answer (told_given_up refusal is) done = absurd done

  module _ (write : WriteCommand) where
    pub record IsToldSo (d : Done) : Type 0 where
      pub operation : Operation
      pub may : MayBeTold account a t write.number (number_for write.number t.id d.index) write.namespace operation d.answer

    -- each answer is one of a statement, by its index
    pub told_in : (index : ℕ) (operations : List Operation) (dones : List Done) (d : Done) → AreTold account a t write index operations dones
        → IsIn d dones → IsToldSo d
    told_in index [] dones d told i = absurd (in_none d (subst (λ (l : List Done). IsIn d l) told i))
    told_in index (operation ∷ operations) [] d told i = absurd told
    told_in index (operation ∷ operations) (x ∷ dones) d told i =
        by_place (in_cons d x dones i) (λ more j. told_in (index + 1) operations dones d more j)
      where
        own : IsToldSo x
        own = record {
          operation = operation;
          may = subst (λ n. MayBeTold account a t write.number (number_for write.number t.id n) write.namespace operation x.answer) (sym told.0) told.1;
        }

        by_end : (b : Bool) → UnlessEnded b dones (AreTold account a t write (index + 1) operations dones) → IsIn d dones
            → (AreTold account a t write (index + 1) operations dones → IsIn d dones → IsToldSo d) → IsToldSo d
        by_end true none j more = absurd (in_none d (subst (λ (l : List Done). IsIn d l) none j))
        by_end false rest j more = more rest j

        by_place : (d ≡ x) ⊎ IsIn d dones → (AreTold account a t write (index + 1) operations dones → IsIn d dones → IsToldSo d) → IsToldSo d
        by_place (inl same) more = subst (λ (y : Done). IsToldSo y) (sym same) own
        by_place (inr j) more = by_end (ends write.ordered x) told.2 j more

-- WITHOUT A CLIENT'S NUMBER

-- the stored part by whether the write is ordered
abbrev pub PartBy : Bool → Type 0 → Type 0 → Type 0
PartBy ordered Ordered Other = elim ordered [ true ↦ Ordered | false ↦ Other ]

pub ordered_part : (history : List Entry) (id : RequestId) (write : WriteCommand) → write.ordered ≡ true → IsPart history id write
    → AreStatements id write.namespace write.ordered 0 write.operations (entries_by id history)
ordered_part history id write is part =
    subst (λ o. AreStatements id write.namespace o 0 write.operations (entries_by id history)) (sym is)
    (subst (λ o. PartBy o (AreStatements id write.namespace true 0 write.operations (entries_by id history)) (AreSingle id write (entries_by id history)))
    is part)

pub single_part : (history : List Entry) (id : RequestId) (write : WriteCommand) → write.ordered ≡ false → IsPart history id write
    → AreSingle id write (entries_by id history)
single_part history id write is part =
    subst (λ o. PartBy o (AreStatements id write.namespace true 0 write.operations (entries_by id history)) (AreSingle id write (entries_by id history)))
    is part

pub part_ordered : (history : List Entry) (id : RequestId) (write : WriteCommand) → write.ordered ≡ true
    → AreStatements id write.namespace write.ordered 0 write.operations (entries_by id history) → IsPart history id write
part_ordered history id write is all =
    subst (λ o. PartBy o (AreStatements id write.namespace true 0 write.operations (entries_by id history)) (AreSingle id write (entries_by id history)))
    (sym is) (subst (λ o. AreStatements id write.namespace o 0 write.operations (entries_by id history)) is all)

pub part_single : (history : List Entry) (id : RequestId) (write : WriteCommand) → write.ordered ≡ false → AreSingle id write (entries_by id history)
    → IsPart history id write
part_single history id write is all =
    subst (λ o. PartBy o (AreStatements id write.namespace true 0 write.operations (entries_by id history)) (AreSingle id write (entries_by id history)))
    (sym is) all

-- by its entries alone
pub part_same : (old new : List Entry) (id : RequestId) (write : WriteCommand) → entries_by id new ≡ entries_by id old → IsPart old id write → IsPart new id write
part_same old new id write same part =
    subst (λ l. PartBy write.ordered (AreStatements id write.namespace true 0 write.operations l) (AreSingle id write l)) (sym same) part

pub part_none : (history : List Entry) (id : RequestId) (write : WriteCommand) → entries_by id history ≡ [] → IsPart history id write
part_none history id write none =
    subst (λ l. PartBy write.ordered (AreStatements id write.namespace true 0 write.operations l) (AreSingle id write l)) (sym none) (by_order write.ordered)
  where
    by_order : (b : Bool) → PartBy b (AreStatements id write.namespace true 0 write.operations []) (AreSingle id write [])
    by_order true = tt
    by_order false = tt

-- Where a number has one entry and all statements were applied, the outcomes are those of the entries of an ordered write's statements, among which each from an
-- index on is.
pub all_told : (account : Account) (a : Asked) (t : Answered) (write : WriteCommand) → write.number ≡ None
    → ((d e : Entry) → IsIn d account.history → IsIn e account.history → d.number ≡ e.number → d ≡ e)
    → (index : ℕ) (operations : List Operation) (dones : List Done) (entries : List Entry) → AreTold account a t write index operations dones
    → AreStatements t.id write.namespace write.ordered index operations entries
    → ((e : Entry) → IsIn e entries → IsIn e account.history)
    → ((e : Entry) (n : ℕ) → IsIn e account.history → index ≤ n → e.number ≡ number_for None t.id n → IsIn e entries)
    → AllByRecursion (λ (d : Done). WasDone d.answer) dones → dones ≡ map done_of entries
all_told account a t write none one index [] dones [] told are stand reach done = told
all_told account a t write none one index [] dones (e ∷ entries) told are stand reach done = absurd are
all_told account a t write none one index (operation ∷ operations) [] entries told are stand reach done = absurd told
all_told account a t write none one index (operation ∷ operations) (d ∷ dones) entries told are stand reach done =
    by_entries entries are stand reach
    (λ es more are stand reach. all_told account a t write none one (index + 1) operations dones es more are stand reach done.1)
  where
    may : MayBeTold account a t None (number_for None t.id index) write.namespace operation d.answer
    may = subst (λ (given : Option ClientNumber). MayBeTold account a t given (number_for given t.id index) write.namespace operation d.answer) none told.1

    answer : IsAnswerOf account.history (number_for None t.id index) d.answer
    answer = answer_of_entry account a t None (number_for None t.id index) write.namespace operation d.answer may done.0

    same : (e : Entry) → e.number ≡ number_for None t.id index → IsIn e account.history → d ≡ done_of e
    same e number stands =
        let entry : answer.entry ≡ e = one answer.entry e answer.stands stands (answer.numbered ∙ sym number) in
        let says : d.answer ≡ answer_by e = answer.says ∙ ap answer_by entry in
        let at : d.index ≡ e.number.index = told.0 ∙ ap (λ (n : StatementNumber). n.index) (sym number) in
        λ i. record { index = at i; answer = says i }

    behind : (e : Entry) (es : List Entry) → e.number ≡ number_for None t.id index
        → ((x : Entry) (n : ℕ) → IsIn x account.history → index ≤ n → x.number ≡ number_for None t.id n → IsIn x (e ∷ es))
        → (x : Entry) (n : ℕ) → IsIn x account.history → index + 1 ≤ n → x.number ≡ number_for None t.id n → IsIn x es
    behind e es number reach x n i le numbered = by_place (in_cons x e es (reach x n i (omega arith) numbered))
      where
        by_place : (x ≡ e) ⊎ IsIn x es → IsIn x es
        by_place (inl is) = absurd (
            let own : n ≡ index = ap (λ (k : StatementNumber). k.index) (sym numbered ∙ ap (λ (y : Entry). y.number) is ∙ number) in omega arith)
        by_place (inr j) = j

    by_entries : (es : List Entry) → AreStatements t.id write.namespace write.ordered index (operation ∷ operations) es
        → ((e : Entry) → IsIn e es → IsIn e account.history)
        → ((e : Entry) (n : ℕ) → IsIn e account.history → index ≤ n → e.number ≡ number_for None t.id n → IsIn e es)
        → ((es : List Entry) → AreTold account a t write (index + 1) operations dones
        → AreStatements t.id write.namespace write.ordered (index + 1) operations es → ((e : Entry) → IsIn e es → IsIn e account.history)
        → ((e : Entry) (n : ℕ) → IsIn e account.history → index + 1 ≤ n → e.number ≡ number_for None t.id n → IsIn e es) → dones ≡ map done_of es)
        → d ∷ dones ≡ map done_of es
    by_entries [] are stand reach later = absurd (in_none answer.entry (reach answer.entry index answer.stands (omega arith) answer.numbered))
    by_entries (e ∷ es) are stand reach later =
        let is : d ≡ done_of e = same e are.0.same_number (stand e (in_first e es)) in
        let rest : dones ≡ map done_of es = by_end (ends write.ordered (done_of e)) refl
        (subst (λ (x : Done). UnlessEnded (ends write.ordered x) dones (AreTold account a t write (index + 1) operations dones)) is told.2)
        (λ more. later es more are.2 (λ x i. stand x (in_later x e es i))
        (λ x n i le numbered. behind e es are.0.same_number reach x n i le numbered)) in
        λ i. is i ∷ rest i
      where
        by_end : (b : Bool) → ends write.ordered (done_of e) ≡ b → UnlessEnded b dones (AreTold account a t write (index + 1) operations dones)
            → (AreTold account a t write (index + 1) operations dones → dones ≡ map done_of es) → dones ≡ map done_of es
        by_end true h told_none more = told_none ∙ ap (λ (l : List Entry). map done_of l) (sym (are.1 h))
        by_end false h some more = more some

-- WHOLE WRITES

-- the outcome of an entry's statement is that of the entry, or a refusal
abbrev IsShownBy : Entry → Done → Type 0
IsShownBy e d = (d ≡ done_of e) ⊎ ((d.index ≡ e.number.index) × WasRefused d.answer)

shown_in : (e : Entry) (d : Done) (dones : List Done) → IsIn d dones → IsShownBy e d → IsShown e dones
shown_in e d [] i is = absurd (in_none d i)
shown_in e d (x ∷ dones) i is = by_place (in_cons d x dones i) (λ j. shown_in e d dones j is)
  where
    by_place : (d ≡ x) ⊎ IsIn d dones → (IsIn d dones → IsShown e dones) → IsShown e (x ∷ dones)
    by_place (inl same) later = inl (subst (λ (y : Done). IsShownBy e y) same is)
    by_place (inr j) later = inr (later j)

-- the entries of an ordered write have its router's numbers
pub numbered_at : (id : RequestId) (namespace : List ℕ) (ordered : Bool) (index : ℕ) (operations : List Operation) (entries : List Entry) (e : Entry)
    → AreStatements id namespace ordered index operations entries → IsIn e entries → e.number ≡ number_for None id e.number.index
numbered_at id namespace ordered index operations [] e are i = absurd (in_none e i)
numbered_at id namespace ordered index [] (d ∷ entries) e are i = absurd are
numbered_at id namespace ordered index (operation ∷ operations) (d ∷ entries) e are i =
    by_place (in_cons e d entries i) (λ j. numbered_at id namespace ordered (index + 1) operations entries e are.2 j)
  where
    own : d.number ≡ number_for None id d.number.index
    own = are.0.same_number ∙ ap (λ n. number_for None id n) (sym (ap (λ (n : StatementNumber). n.index) are.0.same_number))

    by_place : (e ≡ d) ⊎ IsIn e entries → (IsIn e entries → e.number ≡ number_for None id e.number.index) → e.number ≡ number_for None id e.number.index
    by_place (inl same) later = subst (λ (x : Entry). x.number ≡ number_for None id x.number.index) (sym same) own
    by_place (inr j) later = later j

pub single_at : (id : RequestId) (write : WriteCommand) (entries : List Entry) (e : Entry) → AreSingle id write entries → IsIn e entries → IsStored id write e
single_at id write [] e all i = absurd (in_none e i)
single_at id write (d ∷ entries) e all i = by_place (in_cons e d entries i) (λ j. single_at id write entries e all.2 j)
  where
    by_place : (e ≡ d) ⊎ IsIn e entries → (IsIn e entries → IsStored id write e) → IsStored id write e
    by_place (inl same) later = subst (λ x. IsStored id write x) (sym same) all.0
    by_place (inr j) later = later j

module _ (account : Account) (a : Asked) (t : Answered) (write : WriteCommand) where
  -- a statement has an outcome
  pub record HasDone (dones : List Done) (index : ℕ) : Type 0 where
    pub done : Done
    pub stands : IsIn done dones
    pub at : done.index ≡ index

  done_later : (d : Done) (dones : List Done) (before index : ℕ) → before ≡ index → HasDone dones before → HasDone (d ∷ dones) index
  done_later d dones before index same has = record { done = has.done; stands = in_later has.done d dones has.stands; at = has.at ∙ same }

  -- and this operation may have it
  pub record HasOutcome (dones : List Done) (index : ℕ) (operation : Operation) : Type 0 where
    pub has : HasDone dones index
    pub may : MayBeTold account a t write.number (number_for write.number t.id index) write.namespace operation has.done.answer

  outcome_later : (d : Done) (dones : List Done) (before index : ℕ) (operation : Operation) → before ≡ index → HasOutcome dones before operation
      → HasOutcome (d ∷ dones) index operation
  unfolding done_later
  outcome_later d dones before index operation same found = record {
    has = done_later d dones before index same found.has;
    may = subst (λ n. MayBeTold account a t write.number (number_for write.number t.id n) write.namespace operation found.has.done.answer) same found.may;
  }

  -- of an unordered write each
  pub told_at : (index : ℕ) (operations : List Operation) (dones : List Done) → AreTold account a t write index operations dones → write.ordered ≡ false
      → (before : List Operation) (operation : Operation) (back : List Operation) → operations ≡ before ++ operation ∷ back
      → HasOutcome dones (index + length before) operation
  told_at index [] dones told loose [] operation back same = absurd (cc)
  told_at index [] dones told loose (x ∷ before) operation back same = absurd (cc)
  told_at index (o ∷ operations) [] told loose before operation back same = absurd told
  told_at index (o ∷ operations) (d ∷ dones) told loose [] operation back same =
      let head : o ≡ operation = cc in
      record {
        has = record { done = d; stands = in_first d dones; at = told.0 ∙ omega arith };
        may = subst (λ n. MayBeTold account a t write.number (number_for write.number t.id n) write.namespace operation d.answer) (omega arith)
            (subst (λ x. MayBeTold account a t write.number (number_for write.number t.id index) write.namespace x d.answer) head told.1);
      }
  told_at index (o ∷ operations) (d ∷ dones) told loose (x ∷ before) operation back same =
      let rest : AreTold account a t write (index + 1) operations dones =
      subst (λ b. UnlessEnded (ends b d) dones (AreTold account a t write (index + 1) operations dones)) loose told.2 in
      outcome_later d dones (index + 1 + length before) (index + length (x ∷ before)) operation (omega arith)
      (told_at (index + 1) operations dones rest loose before operation back (cc))

  -- of any write so many as there are
  pub told_upto : (index : ℕ) (operations : List Operation) (dones : List Done) → AreTold account a t write index operations dones
      → (n : ℕ) → n < length dones → HasDone dones (index + n)
  told_upto index [] dones told n less = absurd (let none : length dones ≡ 0 = ap (λ (l : List Done). length l) told in omega (arith, none, less))
  told_upto index (o ∷ operations) [] told n less = absurd told
  told_upto index (o ∷ operations) (d ∷ dones) told zero less = record { done = d; stands = in_first d dones; at = told.0 ∙ omega arith }
  told_upto index (o ∷ operations) (d ∷ dones) told (suc n) less =
      by_end (ends write.ordered d) told.2 (λ rest. told_upto (index + 1) operations dones rest n (omega arith))
    where
      by_end : (b : Bool) → UnlessEnded b dones (AreTold account a t write (index + 1) operations dones)
          → (AreTold account a t write (index + 1) operations dones → HasDone dones (index + 1 + n)) → HasDone (d ∷ dones) (index + suc n)
      by_end true none later = absurd (let empty : length dones ≡ 0 = ap (λ (l : List Done). length l) none in omega (arith, empty, less))
      by_end false rest later = done_later d dones (index + 1 + n) (index + suc n) (omega arith) (later rest)

  -- right outcomes of a write without a client's number, of which a part is stored, are whole where those of an ordered write reach as far as its entries
  pub part_whole : write.number ≡ None
      → ((d e : Entry) → IsIn d account.history → IsIn e account.history → d.number ≡ e.number → d ≡ e)
      → (dones : List Done) → AreTold account a t write 0 write.operations dones → IsPart account.history t.id write
      → (write.ordered ≡ true → (e : Entry) → IsIn e (entries_by t.id account.history) → e.number.index < length dones)
      → IsWhole account.history t.id write dones
  part_whole none one dones told part reach = record {
    part = part;
    shown = all_from (λ (e : Entry). IsShown e dones) (entries_by t.id account.history) (λ e i. by_order write.ordered refl e i);
  }
    where
      shown_by : (e : Entry) → IsIn e (entries_by t.id account.history) → e.number ≡ number_for None t.id e.number.index
          → HasDone dones e.number.index → IsShown e dones
      shown_by e i numbered has = shown_in e has.done dones has.stands (by_answer has.done.answer refl)
        where
          so : IsToldSo account a t write has.done
          so = told_in account a t write 0 write.operations dones has.done told has.stands

          may : MayBeTold account a t None (number_for None t.id has.done.index) write.namespace so.operation has.done.answer
          may = subst (λ (given : Option ClientNumber). MayBeTold account a t given (number_for given t.id has.done.index) write.namespace so.operation has.done.answer) none so.may

          done_so : WasDone has.done.answer → has.done ≡ done_of e
          done_so done =
              let answer = answer_of_entry account a t None (number_for None t.id has.done.index) write.namespace so.operation has.done.answer may done in
              let entry : answer.entry ≡ e = one answer.entry e answer.stands (by_in t.id account.history e i).0
              (answer.numbered ∙ ap (λ n. number_for None t.id n) has.at ∙ sym numbered) in
              let says : has.done.answer ≡ answer_by e = answer.says ∙ ap answer_by entry in
              let index : has.done.index ≡ e.number.index = has.at in
              λ k. record { index = index k; answer = says k }

          by_answer : (x : StatementOutcome) → has.done.answer ≡ x → IsShownBy e has.done
          by_answer (was_done time outcome) is = inl (done_so (subst (λ (y : StatementOutcome). WasDone y) (sym is) tt))
          by_answer (was_refused refusal) is = inr (has.at, subst (λ (y : StatementOutcome). WasRefused y) (sym is) tt)

      in_order : write.ordered ≡ true → (e : Entry) → IsIn e (entries_by t.id account.history) → IsShown e dones
      in_order ordered e i =
          let found = told_upto 0 write.operations dones told e.number.index (reach ordered e i) in
          shown_by e i
          (numbered_at t.id write.namespace write.ordered 0 write.operations (entries_by t.id account.history) e
          (ordered_part account.history t.id write ordered part) i)
          (record { done = found.done; stands = found.stands; at = found.at ∙ omega arith })

      loose : write.ordered ≡ false → (e : Entry) → IsIn e (entries_by t.id account.history) → IsShown e dones
      loose unordered e i =
          let stored = single_at t.id write (entries_by t.id account.history) e (single_part account.history t.id write unordered part) i in
          let found = (told_at 0 write.operations dones told unordered stored.before stored.operation stored.back stored.all).has in
          let n : length stored.before ≡ e.number.index = stored.at in
          shown_by e i stored.statement.same_number (record { done = found.done; stands = found.stands; at = found.at ∙ omega (arith, n) })

      by_order : (b : Bool) → write.ordered ≡ b → (e : Entry) → IsIn e (entries_by t.id account.history) → IsShown e dones
      by_order true h e i = in_order h e i
      by_order false h e i = loose h e i
