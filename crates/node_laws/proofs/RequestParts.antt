-- Where a request to write is served, its entries are sent and placed, and of each request the entries of a prefix are stored.
use Rattle.std.proofs.Common.{◌≡◌, ◌≢◌, ℕ, ◌+◌, ◌<◌, List, [], ◌∷◌, ◌++◌, refl, sym, ap, subst, ◌∙◌, arith, append_assoc, append-nil, Bool}
use Rattle.std.specs.Prelude.{Option, Some, None, Result, Ok, true, false, map, length, drop, if◌then◌else◌}
use Rattle.std.specs.List.{AllByRecursion}
use Rattle.std.proofs.lemmas.List.{length-map, length-append}
use Rattle.history_model.proofs.Keyed.{written_is_key}
use Rattle.bson_model.specs.Tree.{Datum}
use Rattle.command_model.specs.Writes.{ClientNumber, WriteCommand}
use Rattle.base_model.specs.Refusals.{Refusal}
use Rattle.command_model.specs.Command.{Command, write_command, command_of}
use Rattle.chunk_model.specs.Tables.{Table, first_shard, owner_now}
use Rattle.history_model.specs.History.{StatementNumber, Operation, Entry, IsIn, key_written}
use Rattle.base_model.specs.Identities.{RequestId, same_request}
use Rattle.reply_model.specs.Exchanges.{Asked, number_for, is_session_of, entries_by}
use Rattle.reply_model.specs.Outcomes.{Done, done_of}
use Rattle.reply_model.specs.Right.{ends, AreStatements, IsPart, told_by}
use Rattle.reply_model.specs.OneHistory.{StandsInPart, IsPlaced, ids_asked, AreDifferent}
use Rattle.node_model.specs.Letters.{Statement}
use Rattle.node_model.specs.Service.{Serves}
use Rattle.node_model.specs.RouterRequests.{statements_from, owner_of_statement}
use Rattle.node_laws.proofs.Views.{View, changes_in}
use Rattle.node_laws.proofs.Facts.{IsOwned, IsStatementOf, IsWriteOf}
use Rattle.node_laws.proofs.CatalogueTables.{owned_from}
use Rattle.node_laws.proofs.KnownTables.{table_created, known_now}
use Rattle.node_laws.proofs.Lists.{all_unmapped, all_within}
use Rattle.node_laws.proofs.Growth.{entries_by_longer}
use Rattle.reply_facts.proofs.Requests.{same_id, one_asked}
use Rattle.reply_facts.proofs.Statements.{part_same}
use Rattle.node_laws.proofs.Outcomes.{index_is}
use Rattle.history_model.proofs.Lists.{all_weaken}
use Rattle.node_laws.proofs.Requests.{other_number}
use Rattle.node_laws.proofs.SeenStatements.{true_false, own_session}
use Rattle.node_laws.proofs.NotedOutcomes.{HasNoOther}
use Rattle.node_laws.proofs.ServedStatements.{IsOf, AreOf, IsEntryOf, statement_of}
use Rattle.node_laws.proofs.MadeEntries.{drop_statements}
use Rattle.node_laws.proofs.ServedParts.{GoOn, front_below, behind_front, other_back, serves_stands}

-- OWNERS

-- the key of a statement that has an owner
pub record HasKey (t : Table) (written : Option Datum) (shard : ℕ) : Type 0 where
  pub key : Datum
  pub writes : written ≡ Some key
  pub owner : owner_now t key ≡ Some shard

owned_key_by : (t : Table) (written : Option Datum) (shard : ℕ)
    → (elim written as (λ (o : Option Datum). Option ℕ) [ None ↦ None | Some key ↦ owner_now t key ]) ≡ Some shard → HasKey t written shard
owned_key_by t None shard e = absurd (cc)
owned_key_by t (Some key) shard e = record { key = key; writes = refl; owner = e }

pub owned_key : (t : Table) (s : Statement) (shard : ℕ) → owner_of_statement t s ≡ Some shard → HasKey t (key_written s.operation) shard
owned_key t s shard e = owned_key_by t (key_written s.operation) shard e

-- currently the first shard owns all
pub owned_by_first : (v : View) (time : ℕ) (namespace : List ℕ) (shard : ℕ) (s : Statement) → IsOwned v time namespace shard s → shard ≡ first_shard
owned_by_first v time namespace shard s o =
    let k = owned_key o.table s shard o.owner in
    known_now v time o.table k.key shard o.known (written_is_key s.operation k.key k.writes) k.owner

-- the entry of a statement that is owned is placed
pub owned_placed : (v : View) (time : ℕ) (namespace : List ℕ) (receiver : ℕ) (e : Entry)
    → IsEntryOf first_shard namespace (IsOwned v time namespace receiver) e → time < e.time → IsPlaced (changes_in v) e
owned_placed v time namespace receiver e (shard, name, o) later =
    let k = owned_key o.table (statement_of e) receiver o.owner in
    let c = table_created v time o.table o.known in
    let begun = c.before in
    let named : c.creation.namespace ≡ e.namespace = c.name ∙ o.name ∙ sym name in
    record {
      creation = c.creation;
      key = k.key;
      begun = c.begun;
      name = named;
      before = omega arith;
      writes = k.writes;
      owner = owned_from (changes_in v) o.known.still e.namespace k.key e.time
          (record { creation = c.creation; begun = c.begun; name = named; before = omega arith })
          ∙ ap (λ n. Some n) (sym shard);
    }

-- STATEMENTS OF A REQUEST

-- the statements of a message are those of its request
pub ask_own : (v : View) (asked : List Asked) (receiver time : ℕ) (id : RequestId) (ordered : Bool) (namespace : List ℕ) (statements : List Statement)
    → (a : IsWriteOf v asked receiver time id ordered namespace statements) → AreOf a.write id statements
ask_own v asked receiver time id ordered namespace statements a =
    all_weaken (IsStatementOf a.write id) (IsOf a.write id) statements (λ s f. own s f) a.each
  where
    own : (s : Statement) → IsStatementOf a.write id s → IsOf a.write id s
    own s f =
        let at : s.number.index ≡ length f.before = ap (λ (n : StatementNumber). n.index) f.numbered ∙ index_is a.write.number id (length f.before) in
        let long : length a.write.operations ≡ length (f.before ++ f.operation ∷ f.back) = ap (λ (l : List Operation). length l) f.all in
        let parts : length (f.before ++ f.operation ∷ f.back) ≡ length f.before + length (f.operation ∷ f.back) = length-append f.before (f.operation ∷ f.back) in
        record { numbered = f.numbered ∙ ap (λ n. number_for a.write.number id n) (sym at); within = omega (arith, at, long, parts) }

-- the outcomes of some entries are those of the first of them
pub record ToldFirst (entries : List Entry) (front : List Done) : Type 0 where
  pub ahead : List Entry
  pub behind : List Entry
  pub split : entries ≡ ahead ++ behind
  pub told : map done_of ahead ≡ front

told_first : (entries : List Entry) (front standing : List Done) → map done_of entries ≡ front ++ standing → ToldFirst entries front
told_first entries [] standing e = record { ahead = []; behind = entries; split = refl; told = refl }
told_first [] (d ∷ front) standing e = absurd (cc)
told_first (x ∷ entries) (d ∷ front) standing e =
    let first : done_of x ≡ d = cc in
    let t = told_first entries front standing (cc) in
    record { ahead = x ∷ t.ahead; behind = t.behind; split = ap (λ l. x ∷ l) t.split; told = ap (λ l. done_of x ∷ l) t.told ∙ ap (λ y. y ∷ front) first }

pub request_part : (id : RequestId) (shard : ℕ) (namespace : List ℕ) (ordered : Bool) (operations : List Operation) (entries : List Entry) (time : ℕ)
    (statements : List Statement) (dones : List Done) (made : List Entry) (last : ℕ)
    → Serves shard namespace ordered entries time statements dones made last → (front standing : List Done) (back : List Statement)
    → told_by id entries ≡ front ++ standing → AllByRecursion (λ d. ends ordered d ≡ false) front → AllByRecursion HasNoOther entries
    → drop (length front) (statements_from None id 0 operations) ≡ statements ++ back → AreStatements id namespace ordered 0 operations (entries_by id entries)
    → AreStatements id namespace ordered 0 operations (entries_by id (entries ++ made))
request_part id shard namespace ordered operations entries time statements dones made last serves front standing back told goes none next part =
    let t = told_first (entries_by id entries) front standing told in
    let all : AreStatements id namespace ordered 0 operations (t.ahead ++ t.behind) =
    subst (λ l. AreStatements id namespace ordered 0 operations l) t.split part in
    let count : length t.ahead ≡ length front = sym (length-map t.ahead done_of) ∙ ap (λ (l : List Done). length l) t.told in
    let from : statements_from None id (0 + length t.ahead) (drop (length t.ahead) operations) ≡ statements ++ back =
    sym (drop_statements None id 0 (length t.ahead) operations) ∙ ap (λ n. drop n (statements_from None id 0 operations)) count ∙ next in
    let goes_on : GoOn ordered t.ahead = all_unmapped (λ d. ends ordered d ≡ false) done_of t.ahead
    (subst (λ l. AllByRecursion (λ d. ends ordered d ≡ false) l) (sym t.told) goes) in
    let new = serves_stands id shard namespace ordered entries time statements dones made last serves (0 + length t.ahead)
    (drop (length t.ahead) operations) back t.ahead t.behind from
    (record {
      split = t.split;
      below = front_below id namespace ordered 0 operations t.ahead t.behind all;
      from = behind_front id namespace ordered 0 operations t.ahead t.behind all;
      zero = none;
    }) in
    subst (λ l. AreStatements id namespace ordered 0 operations l)
    (sym (entries_by_longer id entries made ∙ ap (λ l. l ++ entries_by id made) t.split ∙ append_assoc t.ahead t.behind (entries_by id made)))
    (other_back id namespace ordered 0 operations t.ahead t.behind (t.behind ++ entries_by id made) goes_on all new)

-- ALL REQUESTS

-- the entry is under a number of the request
abbrev pub IsBy : Option ClientNumber → RequestId → Entry → Type 0
IsBy given id e = (index : ℕ) × (e.number ≡ number_for given id index)

none_of_other : (given : Option ClientNumber) (a b : RequestId) (made : List Entry) → a ≢ b → AllByRecursion (IsBy given a) made → entries_by b made ≡ []
none_of_other given a b [] other own = refl
none_of_other given a b (e ∷ made) other own =
    ap (λ t. if t then e ∷ entries_by b made else entries_by b made)
    (ap (λ (n : StatementNumber). is_session_of b n.session) own.0.1 ∙ other_number given a b own.0.0 other)
    ∙ none_of_other given a b made other own.1

write_is : (r : Result Command Refusal) (a b : WriteCommand) → r ≡ Ok (write_command a) → r ≡ Ok (write_command b) → a ≡ b
write_is r a b e h = cc

-- where of one request a prefix is stored, and none of the others made an entry, of each a prefix is stored
pub parts_longer : (asked : List Asked) (entries made : List Entry) (own : Asked) (write : WriteCommand) → AreDifferent (ids_asked asked) → IsIn own asked
    → command_of own.request ≡ Ok (write_command write)
    → AllByRecursion (IsBy write.number own.id) made → (write.number ≡ None → IsPart (entries ++ made) own.id write)
    → AllByRecursion (StandsInPart entries) asked → AllByRecursion (StandsInPart (entries ++ made)) asked
parts_longer asked entries made own write different taken asks mine part parts =
    all_within (StandsInPart entries) (StandsInPart (entries ++ made)) asked (λ a i p. each a i p) parts
  where
    by_id : (a : Asked) → IsIn a asked → StandsInPart entries a → (t : Bool) → same_request own.id a.id ≡ t → StandsInPart (entries ++ made) a
    by_id a i old true same wanted is none =
        let one : own ≡ a = one_asked own a asked different taken i (same_id own.id a.id same) in
        let writes : write ≡ wanted = write_is (command_of own.request) write wanted asks (ap (λ (b : Asked). command_of b.request) one ∙ is) in
        subst (λ (b : Asked). IsPart (entries ++ made) b.id wanted) one
        (subst (λ n. IsPart (entries ++ made) own.id n) writes (part (ap (λ (c : WriteCommand). c.number) writes ∙ none)))
    by_id a i old false other wanted is none =
        let different : own.id ≢ a.id = λ e. true_false (sym (own_session own.id) ∙ ap (λ n. same_request own.id n) e ∙ other) in
        let same : entries_by a.id (entries ++ made) ≡ entries_by a.id entries = entries_by_longer a.id entries made
        ∙ ap (λ l. entries_by a.id entries ++ l) (none_of_other write.number own.id a.id made different mine) ∙ append-nil (entries_by a.id entries) in
        part_same entries (entries ++ made) a.id wanted same (old wanted is none)

    each : (a : Asked) → IsIn a asked → StandsInPart entries a → StandsInPart (entries ++ made) a
    each a i p = by_id a i p (same_request own.id a.id) refl
