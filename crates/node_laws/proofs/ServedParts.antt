-- Where statements of a request without a client's number are served that are its next ones, a prefix of its statements is stored before
-- and after.
use Rattle.std.proofs.Common.{◌≡◌, ◌≢◌, ◌⊎◌, inl, inr, ℕ, ◌+◌, ◌<◌, ◌≤◌, List, [], ◌∷◌, ◌++◌, refl, sym, ap, subst, ◌∙◌, arith, append_assoc, append-nil, Bool}
use Rattle.std.specs.Prelude.{pos, Option, Some, None, true, false, length, drop, int_lt, if◌then◌else◌}
use Rattle.std.specs.List.{AllByRecursion}
use Rattle.history_model.proofs.Lists.{all_weaken, all_append, all_at, in_cons, in_none}
use Rattle.command_model.specs.Writes.{ClientNumber}
use Rattle.history_model.specs.History.{StatementNumber, Operation, Entry, IsIn}
use Rattle.base_model.specs.Identities.{RequestId}
use Rattle.reply_model.specs.Exchanges.{number_for, is_session_of, entries_by}
use Rattle.reply_model.specs.Outcomes.{Done, done_of}
use Rattle.reply_model.specs.Right.{IsStatement, ends, AreStatements}
use Rattle.node_model.specs.Letters.{Statement}
use Rattle.node_model.specs.Service.{seen_before, entry_for, Serves, serves_no_more, serves_again, serves_new, ends_again, ends_new}
use Rattle.node_model.specs.RouterRequests.{statements_from}
use Rattle.node_laws.proofs.Lists.{all_behind}
use Rattle.node_laws.proofs.Growth.{entries_by_longer}
use Rattle.node_laws.proofs.NotedOutcomes.{HasNoOther}
use Rattle.node_laws.proofs.SeenStatements.{true_false, IsFound, found_entry, found_older, seen_found, IsNewBehind, unseen_new, own_session, entry_by, all_by}

-- BEFORE AN INDEX, AND AFTER IT

abbrev pub AreBelow : ℕ → List Entry → Type 0
AreBelow index entries = AllByRecursion (λ (e : Entry). e.number.index < index) entries

-- these do not end their command
abbrev pub GoOn : Bool → List Entry → Type 0
GoOn ordered entries = AllByRecursion (λ (e : Entry). ends ordered (done_of e) ≡ false) entries

index_of : (id : RequestId) (namespace : List ℕ) (index : ℕ) (operation : Operation) (e : Entry) → IsStatement (number_for None id index) namespace operation e
    → e.number.index ≡ index
index_of id namespace index operation e s = ap (λ (n : StatementNumber). n.index) s.same_number

-- the entries before others have the first indices
pub front_below : (id : RequestId) (namespace : List ℕ) (ordered : Bool) (index : ℕ) (operations : List Operation) (front back : List Entry)
    → AreStatements id namespace ordered index operations (front ++ back) → AreBelow (index + length front) front
front_below id namespace ordered index operations [] back all = tt
front_below id namespace ordered index [] (e ∷ front) back all = absurd all
front_below id namespace ordered index (d ∷ operations) (e ∷ front) back all =
    let i : e.number.index ≡ index = index_of id namespace index d e all.0 in
    let n : index + 1 + length front ≡ index + length (e ∷ front) = omega arith in
    ((omega arith), subst (λ k. AreBelow k front) n (front_below id namespace ordered (index + 1) operations front back all.2))

-- the entries from an index on are not below it
from_index : (id : RequestId) (namespace : List ℕ) (ordered : Bool) (index least : ℕ) (operations : List Operation) (entries : List Entry) → least ≤ index
    → AreStatements id namespace ordered index operations entries → AllByRecursion (λ (e : Entry). least ≤ e.number.index) entries
from_index id namespace ordered index least operations [] le all = tt
from_index id namespace ordered index least [] (e ∷ entries) le all = absurd all
from_index id namespace ordered index least (d ∷ operations) (e ∷ entries) le all =
    let i : e.number.index ≡ index = index_of id namespace index d e all.0 in
    ((omega arith), from_index id namespace ordered (index + 1) least operations entries (omega arith) all.2)

-- the statements after a front are those from its length on
pub behind_front : (id : RequestId) (namespace : List ℕ) (ordered : Bool) (index : ℕ) (operations : List Operation) (front back : List Entry)
    → AreStatements id namespace ordered index operations (front ++ back)
    → AreStatements id namespace ordered (index + length front) (drop (length front) operations) back
behind_front id namespace ordered index operations [] back all = subst (λ k. AreStatements id namespace ordered k operations back) (omega arith) all
behind_front id namespace ordered index [] (e ∷ front) back all = absurd all
behind_front id namespace ordered index (d ∷ operations) (e ∷ front) back all =
    let n : index + 1 + length front ≡ index + length (e ∷ front) = omega arith in
    subst (λ k. AreStatements id namespace ordered k (drop (length front) operations) back) n
    (behind_front id namespace ordered (index + 1) operations front back all.2)

-- others may come after a front that proceeds
pub other_back : (id : RequestId) (namespace : List ℕ) (ordered : Bool) (index : ℕ) (operations : List Operation) (front back other : List Entry)
    → GoOn ordered front → AreStatements id namespace ordered index operations (front ++ back)
    → AreStatements id namespace ordered (index + length front) (drop (length front) operations) other
    → AreStatements id namespace ordered index operations (front ++ other)
other_back id namespace ordered index operations [] back other goes all new =
    subst (λ k. AreStatements id namespace ordered k operations other) (omega arith) new
other_back id namespace ordered index [] (e ∷ front) back other goes all new = absurd all
other_back id namespace ordered index (d ∷ operations) (e ∷ front) back other goes all new =
    let n : index + length (e ∷ front) ≡ index + 1 + length front = omega arith in (
      all.0,
      (λ h. absurd (true_false (sym h ∙ goes.0))),
      other_back id namespace ordered (index + 1) operations front back other goes.1 all.2
          (subst (λ k. AreStatements id namespace ordered k (drop (length front) operations) other) n new),
    )

-- THE NEXT STATEMENT

-- the entries of a request that are stored: these before an index, and after it these, of the statements from there on
pub record Stands (id : RequestId) (namespace : List ℕ) (ordered : Bool) (entries : List Entry) (index : ℕ) (operations : List Operation)
    (front back : List Entry) : Type 0 where
  pub split : entries_by id entries ≡ front ++ back
  pub below : AreBelow index front
  pub from : AreStatements id namespace ordered index operations back
  pub zero : AllByRecursion HasNoOther entries

-- the next statement, where it was applied before: its entry is the first after the front
pub record IsFirst (back : List Entry) (d : Done) : Type 0 where
  pub entry : Entry
  pub more : List Entry
  pub first : back ≡ entry ∷ more
  pub says : d ≡ done_of entry

first_behind : (id : RequestId) (namespace : List ℕ) (ordered : Bool) (entries : List Entry) (index : ℕ) (operations : List Operation) (front back : List Entry)
    (e : Entry)
    → Stands id namespace ordered entries index operations front back → IsIn e entries → e.number ≡ number_for None id index → (more : List Entry)
    × (back ≡ e ∷ more)
first_behind id namespace ordered entries index operations front back e s stands numbered =
    let own : is_session_of id e.number.session ≡ true = ap (λ (n : StatementNumber). is_session_of id n.session) numbered ∙ own_session id in
    let at : e.number.index ≡ index = ap (λ (n : StatementNumber). n.index) numbered in
    by_back front back s.below operations s.from at (subst (λ l. IsIn e l) s.split (entry_by id e entries stands own))
  where
    in_back_part : (front back : List Entry) → AreBelow index front → e.number.index ≡ index → IsIn e (front ++ back) → IsIn e back
    in_back_part [] back below at i = i
    in_back_part (d ∷ front) back below at i = by_first (in_cons e d (front ++ back) i) (λ j. in_back_part front back below.1 at j)
      where
        by_first : (e ≡ d) ⊎ IsIn e (front ++ back) → (IsIn e (front ++ back) → IsIn e back) → IsIn e back
        by_first (inl same) later = absurd (let less = below.0 in let k : e.number.index ≡ d.number.index = ap (λ (c : Entry). c.number.index) same in
            omega arith)
        by_first (inr j) later = later j

    by_back : (front back : List Entry) → AreBelow index front → (operations : List Operation) → AreStatements id namespace ordered index operations back
        → e.number.index ≡ index → IsIn e (front ++ back) → (more : List Entry) × (back ≡ e ∷ more)
    by_back front [] below operations all at i = absurd (in_none e (in_back_part front [] below at i))
    by_back front (d ∷ back) below [] all at i = absurd all
    by_back front (d ∷ back) below (operation ∷ operations) all at i = by_first (in_cons e d back (in_back_part front (d ∷ back) below at i))
      where
        by_first : (e ≡ d) ⊎ IsIn e back → (more : List Entry) × (d ∷ back ≡ e ∷ more)
        by_first (inl same) = (back, ap (λ c. c ∷ back) (sym same))
        by_first (inr j) = absurd (let h : index + 1 ≤ e.number.index =
            all_at (λ (c : Entry). index + 1 ≤ c.number.index) e back
            (from_index id namespace ordered (index + 1) (index + 1) operations back (omega arith) all.2) j in omega arith)

pub seen_first : (id : RequestId) (namespace : List ℕ) (ordered : Bool) (entries : List Entry) (index : ℕ) (operations : List Operation)
    (front back : List Entry) (d : Done)
    → Stands id namespace ordered entries index operations front back → IsFound entries (number_for None id index) d → IsFirst back d
seen_first id namespace ordered entries index operations front back _ s (found_entry e stands numbered) =
    let f = first_behind id namespace ordered entries index operations front back e s stands numbered in
    record { entry = e; more = f.0; first = f.1; says = refl }
seen_first id namespace ordered entries index operations front back _ s (found_older e stands session less) =
    let none : e.number.transaction ≡ pos 0 = all_at HasNoOther e entries s.zero stands id.router id.life id.count session in
    absurd (true_false (sym less ∙ ap (λ n. int_lt (pos 0) n) none))

-- where it was not applied before, nothing is stored after the front
unseen_none : (id : RequestId) (namespace : List ℕ) (ordered : Bool) (entries : List Entry) (index : ℕ) (operations : List Operation) (front back : List Entry)
    → Stands id namespace ordered entries index operations front back → seen_before (number_for None id index) entries ≡ None → back ≡ []
unseen_none id namespace ordered entries index operations front back s new =
    by_back operations back s.from (all_behind (λ (d : Entry). d.number ≢ number_for None id index) front back
    (subst (λ l. AllByRecursion (λ (d : Entry). d.number ≢ number_for None id index) l) s.split
    (all_by (λ (d : Entry). d.number ≢ number_for None id index) id entries
    (all_weaken (IsNewBehind (number_for None id index) entries) (λ (d : Entry). d.number ≢ number_for None id index) entries (λ d n. n.0)
    (unseen_new (number_for None id index) entries new)))))
  where
    by_back : (operations : List Operation) (back : List Entry) → AreStatements id namespace ordered index operations back
        → AllByRecursion (λ (d : Entry). d.number ≢ number_for None id index) back → back ≡ []
    by_back operations [] all others = refl
    by_back [] (d ∷ back) all others = absurd all
    by_back (operation ∷ operations) (d ∷ back) all others = absurd (others.0 all.0.same_number)

-- with the entry of this index after it the front is below the next one
below_next : (id : RequestId) (namespace : List ℕ) (index : ℕ) (operation : Operation) (front : List Entry) (e : Entry) → AreBelow index front
    → IsStatement (number_for None id index) namespace operation e → AreBelow (index + 1) (front ++ e ∷ [])
below_next id namespace index operation front e below is =
    let i : e.number.index ≡ index = index_of id namespace index operation e is in
    all_append (λ (d : Entry). d.number.index < index + 1) front (e ∷ [])
    (all_weaken (λ (d : Entry). d.number.index < index) (λ (d : Entry). d.number.index < index + 1) front (λ d h. omega arith) below)
    ((omega arith), tt)

-- where the next statement was seen, its entry counts to the front
next_again : (id : RequestId) (namespace : List ℕ) (ordered : Bool) (entries : List Entry) (index : ℕ) (operation : Operation) (operations : List Operation)
    (front back more made : List Entry) (e : Entry)
    → back ≡ e ∷ more → ends ordered (done_of e) ≡ false → Stands id namespace ordered entries index (operation ∷ operations) front back
    → (Stands id namespace ordered entries (index + 1) operations (front ++ e ∷ []) more
    → AreStatements id namespace ordered (index + 1) operations (more ++ made))
    → AreStatements id namespace ordered index (operation ∷ operations) (back ++ made)
next_again id namespace ordered entries index operation operations front back more made e same on s later =
    let from : AreStatements id namespace ordered index (operation ∷ operations) (e ∷ more) =
    subst (λ l. AreStatements id namespace ordered index (operation ∷ operations) l) same s.from in
    let behind : AreStatements id namespace ordered (index + 1) operations (more ++ made) = later (record {
      split = s.split ∙ ap (λ l. front ++ l) same ∙ sym (append_assoc front (e ∷ []) more);
      below = below_next id namespace index operation front e s.below from.0;
      from = from.2;
      zero = s.zero;
    }) in
    subst (λ l. AreStatements id namespace ordered index (operation ∷ operations) (l ++ made)) (sym same)
    (from.0, (λ h. absurd (true_false (sym h ∙ on))), behind)

-- the entry of one of a request's own statements is one of the request's
own_first : (id : RequestId) (namespace : List ℕ) (index : ℕ) (operation : Operation) (e : Entry) (entries : List Entry)
    → IsStatement (number_for None id index) namespace operation e → entries_by id (e ∷ entries) ≡ e ∷ entries_by id entries
own_first id namespace index operation e entries is =
    ap (λ t. if t then e ∷ entries_by id entries else entries_by id entries)
    (ap (λ (n : StatementNumber). is_session_of id n.session) is.same_number ∙ own_session id)

-- where it is new, its entry is alone after the front
next_new : (id : RequestId) (namespace : List ℕ) (ordered : Bool) (entries : List Entry) (index : ℕ) (operation : Operation) (operations : List Operation)
    (front made : List Entry) (e : Entry)
    → IsStatement (number_for None id index) namespace operation e → ends ordered (done_of e) ≡ false
    → Stands id namespace ordered entries index (operation ∷ operations) front []
    → (Stands id namespace ordered (entries ++ e ∷ []) (index + 1) operations (front ++ e ∷ []) []
    → AreStatements id namespace ordered (index + 1) operations (entries_by id made))
    → AreStatements id namespace ordered index (operation ∷ operations) (entries_by id (e ∷ made))
next_new id namespace ordered entries index operation operations front made e is on s later =
    let behind : AreStatements id namespace ordered (index + 1) operations (entries_by id made) = later (record {
      split = entries_by_longer id entries (e ∷ []) ∙ ap (λ l. l ++ entries_by id (e ∷ [])) (s.split ∙ append-nil front)
          ∙ ap (λ l. front ++ l) (own_first id namespace index operation e [] is) ∙ sym (append-nil (front ++ e ∷ []));
      below = below_next id namespace index operation front e s.below is;
      from = tt;
      zero = all_append HasNoOther entries (e ∷ []) s.zero (own_zero, tt);
    }) in
    subst (λ l. AreStatements id namespace ordered index (operation ∷ operations) l) (sym (own_first id namespace index operation e made is))
    (is, (λ h. absurd (true_false (sym h ∙ on))), behind)
  where
    own_zero : HasNoOther e
    own_zero node life request same = ap (λ (n : StatementNumber). n.transaction) is.same_number

-- the next statement, and those after it
pub record Next (given : Option ClientNumber) (id : RequestId) (index : ℕ) (operation : Operation) (operations : List Operation) (s : Statement)
    (others : List Statement) : Type 0 where
  pub number : s.number ≡ number_for given id index
  pub does : s.operation ≡ operation
  pub others_are : statements_from given id (index + 1) operations ≡ others

pub next_is : (given : Option ClientNumber) (id : RequestId) (index : ℕ) (operation : Operation) (operations : List Operation) (s : Statement)
    (others : List Statement)
    → statements_from given id index (operation ∷ operations) ≡ s ∷ others → Next given id index operation operations s others
next_is given id index operation operations s others e =
    let first : record { number = number_for given id index; operation = operation } ≡ s = cc in
    record { number = ap (λ (x : Statement). x.number) (sym first); does = ap (λ (x : Statement). x.operation) (sym first); others_are = cc }

entry_is : (id : RequestId) (index : ℕ) (operation : Operation) (operations : List Operation) (s : Statement) (others : List Statement) (entries : List Entry)
    (time shard : ℕ) (namespace : List ℕ) → Next None id index operation operations s others
    → IsStatement (number_for None id index) namespace operation (entry_for entries time shard namespace s)
entry_is id index operation operations s others entries time shard namespace n = record { same_number = n.number; name = refl; does = n.does }

pub serves_stands : (id : RequestId) (shard : ℕ) (namespace : List ℕ) (ordered : Bool) (entries : List Entry) (time : ℕ) (statements : List Statement)
    (dones : List Done) (made : List Entry) (last : ℕ) → Serves shard namespace ordered entries time statements dones made last
    → (index : ℕ) (operations : List Operation) (later : List Statement) (front back : List Entry)
    → statements_from None id index operations ≡ statements ++ later
    → Stands id namespace ordered entries index operations front back
    → AreStatements id namespace ordered index operations (back ++ entries_by id made)
serves_stands id shard namespace ordered _ _ _ _ _ _ (serves_no_more entries time rest) index operations later front back next s =
    subst (λ l. AreStatements id namespace ordered index operations l) (sym (append-nil back)) s.from
serves_stands id shard namespace ordered _ _ _ _ _ _ (serves_again entries time st rest d dones made last seen on more) index [] later front back next s =
    absurd (cc)
serves_stands id shard namespace ordered _ _ _ _ _ _ (serves_again entries time st rest d dones made last seen on more) index
    (operation ∷ operations) later front back next s =
    let n = next_is None id index operation operations st (rest ++ later) next in
    let f = seen_first id namespace ordered entries index (operation ∷ operations) front back d s
    (seen_found (number_for None id index) entries d (subst (λ k. seen_before k entries ≡ Some d) n.number seen)) in
    next_again id namespace ordered entries index operation operations front back f.more (entries_by id made) f.entry f.first
    (ap (λ x. ends ordered x) (sym f.says) ∙ on) s
    (λ t. serves_stands id shard namespace ordered entries time rest dones made last more (index + 1) operations later (front ++ f.entry ∷ []) f.more
    n.others_are t)
serves_stands id shard namespace ordered _ _ _ _ _ _ (serves_new entries time st rest dones made last new on more) index [] later front back next s =
    absurd (cc)
serves_stands id shard namespace ordered _ _ _ _ _ _ (serves_new entries time st rest dones made last new on more) index
    (operation ∷ operations) later front back next s =
    let n = next_is None id index operation operations st (rest ++ later) next in
    let none = unseen_none id namespace ordered entries index (operation ∷ operations) front back s (subst (λ k. seen_before k entries ≡ None) n.number new) in
    let e : Entry = entry_for entries (time + 1) shard namespace st in
    subst (λ l. AreStatements id namespace ordered index (operation ∷ operations)
    (l ++ entries_by id (entry_for entries (time + 1) shard namespace st ∷ made))) (sym none)
    (next_new id namespace ordered entries index operation operations front made (entry_for entries (time + 1) shard namespace st)
    (entry_is id index operation operations st (rest ++ later) entries (time + 1) shard namespace n) on
    (subst (λ l. Stands id namespace ordered entries index (operation ∷ operations) front l) none s)
    (λ t. serves_stands id shard namespace ordered (entries ++ entry_for entries (time + 1) shard namespace st ∷ []) (time + 1) rest dones made last more
    (index + 1) operations later (front ++ entry_for entries (time + 1) shard namespace st ∷ []) [] n.others_are t))
serves_stands id shard namespace ordered _ _ _ _ _ _ (ends_again entries time st rest e seen over) index operations later front back next s =
    subst (λ l. AreStatements id namespace ordered index operations l) (sym (append-nil back)) s.from
serves_stands id shard namespace ordered _ _ _ _ _ _ (ends_new entries time st rest new over) index [] later front back next s = absurd (cc)
serves_stands id shard namespace ordered _ _ _ _ _ _ (ends_new entries time st rest new over) index (operation ∷ operations) later front back next s =
    let n = next_is None id index operation operations st (rest ++ later) next in
    let none = unseen_none id namespace ordered entries index (operation ∷ operations) front back s (subst (λ k. seen_before k entries ≡ None) n.number new) in
    let is : IsStatement (number_for None id index) namespace operation (entry_for entries (time + 1) shard namespace st) =
    entry_is id index operation operations st (rest ++ later) entries (time + 1) shard namespace n in
    subst (λ l. AreStatements id namespace ordered index (operation ∷ operations)
    (l ++ entries_by id (entry_for entries (time + 1) shard namespace st ∷ []))) (sym none)
    (subst (λ l. AreStatements id namespace ordered index (operation ∷ operations) l)
    (sym (own_first id namespace index operation (entry_for entries (time + 1) shard namespace st) [] is)) (is, (λ h. refl), tt))
