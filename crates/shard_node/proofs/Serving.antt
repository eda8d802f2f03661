-- Statements that are served one after another.
use Rattle.std.proofs.Common.{◌≡◌, ◌≢◌, ◌≤◌, ◌<◌, ℕ, ◌+◌, List, [], ◌∷◌, ◌++◌, refl, sym, ap, subst, ◌∙◌, append_assoc, append-nil, arith, get_or, length, map, Bool, true, false}
use Rattle.std.specs.Prelude.{Option, Some, None, not}
use Rattle.std.specs.List.{AllByRecursion}
use Rattle.std.specs.Option.{option_map}
use Rattle.std.proofs.lemmas.List.{map-append}
use Rattle.shard_records.specs.Records.{record_of}
use Rattle.shard_records.specs.Readable.{IsReadable}
use Rattle.node_model.specs.Right.{ends}
use Rattle.node_model.specs.Service.{entry_for, seen_before, Serves, serves_no_more, serves_again, serves_new, ends_again, ends_new, Repeats, repeats, ends_repeat, repeats_no_more}
use Rattle.node_traits.specs.History.{Entry}
use Rattle.chunk_table.specs.Tables.{Table, table_of}
use Rattle.chunk_table.specs.Verdicts.{Sent, fits, verdict_of}
use Rattle.node_traits.specs.Letters.{Statement, write_ask}
use Rattle.node_traits.specs.ShardRows.{Ask, ask_in}
use Rattle.node_traits.specs.Outcomes.{Done, done_of}
use Rattle.command_model.specs.Writes.{ClientNumber}
use Rattle.shard_store.specs.Plans.{IsServed, served_again, served_new, left_for_later}
use Rattle.protocol_model.specs.Statements as rust
use Rattle.base_model.specs.Identities.{RequestId}
use Rattle.node_traits.specs.Exchanges.{number_for}
use Rattle.protocol_model.specs.declared.statement.Done.{Done as StatementDone}
use Rattle.protocol_model.specs.declared.statement.Statement.{Statement as Asked}
use Rattle.shard_requests.specs.declared.answers.StatementResult.{StatementResult}
use Rattle.shard_node.specs.Progress.{GoesOn, GoesOrEnds}
use Rattle.shard_requests.specs.Results.{record_in}
use Rattle.shard_node.specs.Writes.{AreKept, IsStep, spellings_of}

module _ (shard : ℕ) (namespace : List ℕ) (entries : List Entry) (time : ℕ) (s : Statement) where
  -- what is left for later changes nothing
  left_is : (o : Option Done) (more : List Entry) (after : ℕ) → IsServed shard namespace entries time s o more after → o ≡ None → (more ≡ []) × (after ≡ time)
  left_is o more after (served_again e seen) is = absurd cc
  left_is o more after (served_new unseen) is = absurd cc
  left_is o more after left_for_later is = (refl, refl)

  pub one_later : (o : Option Done) (more : List Entry) (after : ℕ) → IsServed shard namespace entries time s o more after → after ≤ time + 1
  one_later o more after (served_again e seen) = omega arith
  one_later o more after (served_new unseen) = omega arith
  one_later o more after left_for_later = omega arith

module _ (shard : ℕ) (namespace : List ℕ) (ordered : Bool) (entries : List Entry) (start : ℕ) (all : List Statement) where
  -- nothing was served yet
  pub goes_first : (made : List Entry) → made ≡ [] → GoesOn shard namespace ordered entries start all all [] made start
  goes_first made none = record {
    on = λ more further last served.
        subst (λ (m : List Entry). Serves shard namespace ordered entries start all more (m ++ further) last) (sym none)
        (subst (λ (es : List Entry). Serves shard namespace ordered es start all more further last)
        (ap (λ (m : List Entry). entries ++ m) none ∙ append-nil entries) served);
  }

  -- no more is served
  pub goes_no_more : (left : List Statement) (dones : List Done) (made : List Entry) (now : ℕ) → GoesOn shard namespace ordered entries start all left dones made now
      → Serves shard namespace ordered entries start all dones made now
  goes_no_more left dones made now goes =
      subst (λ (ds : List Done). Serves shard namespace ordered entries start all ds made now) (append-nil dones)
      (subst (λ (m : List Entry). Serves shard namespace ordered entries start all (dones ++ []) m now) (append-nil made)
      (goes.on [] [] now (serves_no_more (entries ++ made) now left)))

  -- what is served after one more
  behind : (left : List Statement) (dones : List Done) (made : List Entry) (d : Done) (more : List Entry) (after : ℕ)
      → ((ds : List Done) (further : List Entry) (last : ℕ) → Serves shard namespace ordered ((entries ++ made) ++ more) after left ds further last
      → Serves shard namespace ordered entries start all (dones ++ d ∷ ds) (made ++ (more ++ further)) last)
      → GoesOn shard namespace ordered entries start all left (dones ++ d ∷ []) (made ++ more) after
  behind left dones made d more after served = record {
    on = λ ds further last then.
        subst (λ (x : List Done). Serves shard namespace ordered entries start all x ((made ++ more) ++ further) last) (sym (append_assoc dones (d ∷ []) ds))
        (subst (λ (x : List Entry). Serves shard namespace ordered entries start all (dones ++ d ∷ ds) x last) (sym (append_assoc made more further))
        (served ds further last (subst (λ (x : List Entry). Serves shard namespace ordered x after left ds further last) (sym (append_assoc entries made more)) then)));
  }

  one_more : (s : Statement) (left : List Statement) (dones : List Done) (made : List Entry) (now : ℕ) (more : List Entry) (after : ℕ) (o : Option Done) (d : Done)
      → GoesOn shard namespace ordered entries start all (s ∷ left) dones made now → IsServed shard namespace (entries ++ made) now s o more after → o ≡ Some d
      → ends ordered d ≡ false → GoesOn shard namespace ordered entries start all left (dones ++ d ∷ []) (made ++ more) after
  one_more s left dones made now more after o d goes (served_again told seen) is on =
      let same : told ≡ d = cc in
      subst (λ (x : Done). GoesOn shard namespace ordered entries start all left (dones ++ x ∷ []) (made ++ []) now) same
      (behind left dones made told [] now
      (λ ds further last then. goes.on (told ∷ ds) further last
      (serves_again (entries ++ made) now s left told ds further last seen (subst (λ (x : Done). ends ordered x ≡ false) (sym same) on)
      (subst (λ (x : List Entry). Serves shard namespace ordered x now left ds further last) (append-nil (entries ++ made)) then))))
  one_more s left dones made now more after o d goes (served_new unseen) is on =
      let e = entry_for (entries ++ made) (now + 1) shard namespace s in
      let same : done_of e ≡ d = cc in
      subst (λ (x : Done). GoesOn shard namespace ordered entries start all left (dones ++ x ∷ []) (made ++ e ∷ []) (now + 1)) same
      (behind left dones made (done_of e) (e ∷ []) (now + 1)
      (λ ds further last then. goes.on (done_of e ∷ ds) (e ∷ further) last
      (serves_new (entries ++ made) now s left ds further last unseen (subst (λ (x : Done). ends ordered x ≡ false) (sym same) on) then)))
  one_more s left dones made now more after o d goes left_for_later is on = absurd cc

  last_one : (s : Statement) (left : List Statement) (dones : List Done) (made : List Entry) (now : ℕ) (more : List Entry) (after : ℕ) (o : Option Done) (d : Done)
      → GoesOn shard namespace ordered entries start all (s ∷ left) dones made now → IsServed shard namespace (entries ++ made) now s o more after → o ≡ Some d
      → ends ordered d ≡ true → Serves shard namespace ordered entries start all (dones ++ d ∷ []) (made ++ more) after
  last_one s left dones made now more after o d goes (served_again told seen) is on =
      let same : told ≡ d = cc in
      subst (λ (x : Done). Serves shard namespace ordered entries start all (dones ++ x ∷ []) (made ++ []) now) same
      (goes.on (told ∷ []) [] now (ends_again (entries ++ made) now s left told seen (subst (λ (x : Done). ends ordered x ≡ true) (sym same) on)))
  last_one s left dones made now more after o d goes (served_new unseen) is on =
      let e = entry_for (entries ++ made) (now + 1) shard namespace s in
      let same : done_of e ≡ d = cc in
      subst (λ (x : Done). Serves shard namespace ordered entries start all (dones ++ x ∷ []) (made ++ e ∷ []) (now + 1)) same
      (goes.on (done_of e ∷ []) (e ∷ []) (now + 1) (ends_new (entries ++ made) now s left unseen (subst (λ (x : Done). ends ordered x ≡ true) (sym same) on)))
  last_one s left dones made now more after o d goes left_for_later is on = absurd cc

  -- one statement more was served, and more may come after it or not
  pub goes_or_ends : (s : Statement) (left : List Statement) (dones dones_then : List Done) (made made_then more : List Entry) (now after : ℕ) (o : Option Done) (d : Done) (b : Bool)
      → GoesOn shard namespace ordered entries start all (s ∷ left) dones made now → IsServed shard namespace (entries ++ made) now s o more after → o ≡ Some d
      → ends ordered d ≡ b → made_then ≡ made ++ more → dones_then ≡ dones ++ d ∷ []
      → (b ≡ true → Serves shard namespace ordered entries start all dones_then made_then after) × (b ≡ false → GoesOn shard namespace ordered entries start all left dones_then made_then after)
  goes_or_ends s left dones dones_then made made_then more now after o d b goes served is on grown told = (
    λ (y : b ≡ true).
        subst (λ (x : List Done). Serves shard namespace ordered entries start all x made_then after) (sym told)
        (subst (λ (x : List Entry). Serves shard namespace ordered entries start all (dones ++ d ∷ []) x after) (sym grown)
        (last_one s left dones made now more after o d goes served is (on ∙ y))),
    λ (n : b ≡ false).
        subst (λ (x : List Done). GoesOn shard namespace ordered entries start all left x made_then after) (sym told)
        (subst (λ (x : List Entry). GoesOn shard namespace ordered entries start all left (dones ++ d ∷ []) x after) (sym grown)
        (one_more s left dones made now more after o d goes served is (on ∙ n))),
  )

  -- nothing more is served in this step
  pub none_goes : (s : Statement) (left : List Statement) (dones : List Done) (made made_then : List Entry) (now after : ℕ) (r : Option StatementResult)
      → GoesOn shard namespace ordered entries start all (s ∷ left) dones made now → IsStep shard namespace entries made now s r made_then after → r ≡ None
      → Serves shard namespace ordered entries start all dones made_then after
  none_goes s left dones made made_then now after r goes step is =
      let none : option_map (λ x. rust.done_view x.done) r ≡ None = ap (λ o. option_map (λ (x : StatementResult). rust.done_view x.done) o) is in
      let same = left_is shard namespace (entries ++ made) now s (option_map (λ x. rust.done_view x.done) r) step.more after step.served_is none in
      subst (λ (x : List Entry). Serves shard namespace ordered entries start all dones x after)
      (sym (step.grown ∙ ap (λ (x : List Entry). made ++ x) same.0 ∙ append-nil made))
      (subst (λ (n : ℕ). Serves shard namespace ordered entries start all dones made n) (sym same.1) (goes_no_more (s ∷ left) dones made now goes))

  -- one statement more was served
  pub some_goes : (s : Statement) (left : List Statement) (dones dones_then : List StatementDone) (made made_then : List Entry) (now after : ℕ) (r : Option StatementResult) (served : StatementResult) (ended : Bool)
      → GoesOn shard namespace ordered entries start all (s ∷ left) (map (λ d. rust.done_view d) dones) made now → IsStep shard namespace entries made now s r made_then after
      → r ≡ Some served → ended ≡ ends ordered (rust.done_view served.done) → dones_then ≡ dones ++ served.done ∷ []
      → GoesOrEnds (not ended) shard namespace ordered entries start all left (map (λ d. rust.done_view d) dones_then) made_then after
  some_goes s left dones dones_then made made_then now after r served ended goes step is on told =
      let told_then : map (λ d. rust.done_view d) dones_then ≡ map (λ d. rust.done_view d) dones ++ rust.done_view served.done ∷ [] =
      ap (λ (ds : List StatementDone). map (λ d. rust.done_view d) ds) told ∙ map-append (λ (d : StatementDone). rust.done_view d) dones (served.done ∷ []) in
      let either = goes_or_ends s left (map (λ d. rust.done_view d) dones) (map (λ d. rust.done_view d) dones_then) made made_then step.more now after
      (option_map (λ x. rust.done_view x.done) r) (rust.done_view served.done) ended goes step.served_is
      (ap (λ o. option_map (λ (x : StatementResult). rust.done_view x.done) o) is) (sym on) step.grown told_then in
      by_end ended either
    where
      by_end : (b : Bool) → (b ≡ true → Serves shard namespace ordered entries start all (map (λ d. rust.done_view d) dones_then) made_then after)
          × (b ≡ false → GoesOn shard namespace ordered entries start all left (map (λ d. rust.done_view d) dones_then) made_then after)
          → GoesOrEnds (not b) shard namespace ordered entries start all left (map (λ d. rust.done_view d) dones_then) made_then after
      by_end true either = either.0 refl
      by_end false either = either.1 refl

-- records of entries that were made, and of those after them
pub kept_more : (made made_then more : List Entry) (records records_then : List (List ℕ)) (r : Option StatementResult) → AreKept made records → AreKept more (record_in r)
    → made_then ≡ made ++ more → records_then ≡ records ++ record_in r → AreKept made_then records_then
kept_more made made_then more records records_then r kept next grown written = record {
  spelled = written ∙ ap (λ (x : List (List ℕ)). x ++ record_in r) kept.spelled ∙ ap (λ (x : List (List ℕ)). spellings_of made ++ x) next.spelled
      ∙ sym (map-append _ made more) ∙ ap (λ (x : List Entry). spellings_of x) (sym grown);
  readable = subst (λ (x : List Entry). AllByRecursion (λ e. IsReadable (record_of e)) x) (sym grown) (both made kept.readable);
}
  where
    both : (es : List Entry) → AllByRecursion (λ e. IsReadable (record_of e)) es → AllByRecursion (λ e. IsReadable (record_of e)) (es ++ more)
    both [] all = next.readable
    both (e ∷ es) all = (all.0, both es all.1)

pub kept_first : (made : List Entry) (records : List (List ℕ)) → made ≡ [] → records ≡ [] → AreKept made records
kept_first made records none unwritten = record {
  spelled = unwritten ∙ sym (ap (λ (x : List Entry). spellings_of x) none);
  readable = subst (λ (x : List Entry). AllByRecursion (λ e. IsReadable (record_of e)) x) (sym none) tt;
}

pub none_left : {X : Type 0} (items : List X) (i : ℕ) → length items ≤ i → i ≡ 0 → items ≡ []
none_left [] i past first = refl
none_left (x ∷ items) i past first = absurd (omega (arith, past, first))

pub not_none : {X : Type 0} (items : List X) → 1 ≤ length items → items ≡ [] → ⊥
not_none [] some none = absurd (omega (arith, some))
not_none (x ∷ items) some none = absurd cc

-- the outcome of the first statement of a request unless it is new
pub repeats_first : (ordered : Bool) (entries : List Entry) (given : Option ClientNumber) (id : RequestId) (items seen : List Asked) (x : Asked) (d : Done) → seen ≡ items →
    0 < length seen → x ≡ get_or seen 0 x → Some d ≡ seen_before (number_for given id x.index) entries →
    Repeats ordered entries (map (rust.statement_view given id) items) (d ∷ [])
repeats_first ordered entries given id items seen x d same some first told =
    subst (λ (l : List Asked). Repeats ordered entries (map (rust.statement_view given id) l) (d ∷ [])) same (by_list seen some first)
  where
    by_end : (s : Statement) (rest : List Statement) (b : Bool) → seen_before s.number entries ≡ Some d → ends ordered d ≡ b → Repeats ordered entries (s ∷ rest) (d ∷ [])
    by_end s rest true before on = ends_repeat s rest d before on
    by_end s rest false before on = repeats s rest d [] before on (repeats_no_more rest)

    by_list : (l : List Asked) → 0 < length l → x ≡ get_or l 0 x → Repeats ordered entries (map (rust.statement_view given id) l) (d ∷ [])
    by_list [] here is = absurd (omega (arith, here))
    by_list (y ∷ l) here is =
        subst (λ (z : Asked). Repeats ordered entries (rust.statement_view given id z ∷ map (rust.statement_view given id) l) (d ∷ [])) is
        (by_end (rust.statement_view given id x) (map (rust.statement_view given id) l) (ends ordered d) (sym told) refl)

-- a request of statements whose table does not fit
pub not_fitting : (me : ℕ) (tables : List Table) (given : Option ClientNumber) (id : RequestId) (turn : ℕ) (ordered : Bool) (namespace : List ℕ) (items seen : List Asked)
    (sent : Sent) → seen ≡ items → 0 < length seen
    → ((a : Ask) → ask_in (write_ask id turn ordered namespace (map (rust.statement_view given id) items) sent) ≡ Some a → verdict_of a.sent me (table_of a.namespace tables) ≢ fits)
    → verdict_of sent me (table_of namespace tables) ≢ fits
not_fitting me tables given id turn ordered namespace items seen sent same some old =
    by_list seen some
    (subst (λ (l : List Asked). (a : Ask) → ask_in (write_ask id turn ordered namespace (map (rust.statement_view given id) l) sent) ≡ Some a
    → verdict_of a.sent me (table_of a.namespace tables) ≢ fits) (sym same) old)
  where
    by_list : (l : List Asked) → 0 < length l
        → ((a : Ask) → ask_in (write_ask id turn ordered namespace (map (rust.statement_view given id) l) sent) ≡ Some a → verdict_of a.sent me (table_of a.namespace tables) ≢ fits)
        → verdict_of sent me (table_of namespace tables) ≢ fits
    by_list [] here h = absurd (omega (arith, here))
    by_list (y ∷ l) here h =
        h (record { id = id; turn = turn; first = Some (rust.statement_view given id y).number.index; namespace = namespace; sent = sent }) refl
