-- Steps of loops over the statements of a write.
use Rattle.std.proofs.Common.{◌≡◌, refl, ap, sym, ◌∙◌, ℕ, ◌+◌, ◌<◌, List, [], ◌∷◌, ◌++◌, drop, map, length, get_or, Bool, true, false, if◌then◌else◌, append-nil}
use Rattle.std.proofs.lemmas.List.{append_assoc, map-append}
use Rattle.std.specs.Prelude.{Option, filter, not}
use Rattle.base_model.specs.Identities.{RequestId}
use Rattle.chunk_model.specs.Tables.{Table}
use Rattle.command_model.specs.Writes.{ClientNumber}
use Rattle.node_model.specs.Letters as letters
use Rattle.node_model.specs.RouterRequests.{has_index, indices_of, in_run, is_on, run_to, shard_for, unanswered}
use Rattle.node_model.specs.States.{Run}
use Rattle.protocol_model.specs.Statements.{statement_view}
use Rattle.protocol_model.specs.declared.statement.Statement.{Statement}
use Rattle.reply_model.specs.Outcomes.{StatementOutcome, Try, has_outcome}
use Rattle.write_runs.proofs.News.{index_is}
use Rattle.write_runs.proofs.Steps.{next_cut}

module _ (given : Option ClientNumber) (id : RequestId) (statements : List Statement) (i : ℕ) (s : Statement) (less : i < length statements) (here : s ≡ get_or statements i s) where
  abbrev seen : List Statement → List letters.Statement
  seen l = map (λ s. statement_view given id s) l

  cut : seen (drop i statements) ≡ statement_view given id s ∷ seen (drop (i + 1) statements)
  cut = ap (λ l. seen l) (next_cut statements i s less here)

  -- THOSE THAT PASS ONE

  -- what a function gives of them, one after another
  module _ {Y : Type 0} (f : List letters.Statement → List Y) (both : (x : letters.Statement) (xs : List letters.Statement) → f (x ∷ xs) ≡ f (x ∷ []) ++ f xs)
      (p : letters.Statement → Bool) where
    passing_by : (b : Bool) → p (statement_view given id s) ≡ b
        → f (filter p (seen (drop i statements))) ≡ f (if b then statement_view given id s ∷ filter p (seen (drop (i + 1) statements)) else filter p (seen (drop (i + 1) statements)))
    passing_by b is =
        ap (λ l. f (filter p l)) cut
        ∙ ap (λ (b : Bool). f (if b then statement_view given id s ∷ filter p (seen (drop (i + 1) statements)) else filter p (seen (drop (i + 1) statements)))) is

    pub one_taken : (old new whole : List Y) → new ≡ old ++ f (statement_view given id s ∷ []) → p (statement_view given id s) ≡ true
        → old ++ f (filter p (seen (drop i statements))) ≡ whole → new ++ f (filter p (seen (drop (i + 1) statements))) ≡ whole
    one_taken old new whole pushed passes inv =
        ap (λ l. l ++ f (filter p (seen (drop (i + 1) statements)))) pushed
        ∙ append_assoc old (f (statement_view given id s ∷ [])) (f (filter p (seen (drop (i + 1) statements))))
        ∙ ap (λ l. old ++ l) (sym (passing_by true passes ∙ both (statement_view given id s) (filter p (seen (drop (i + 1) statements))))) ∙ inv

    pub one_left : (old whole : List Y) → p (statement_view given id s) ≡ false → old ++ f (filter p (seen (drop i statements))) ≡ whole
        → old ++ f (filter p (seen (drop (i + 1) statements))) ≡ whole
    one_left old whole fails inv = ap (λ l. old ++ l) (sym (passing_by false fails)) ∙ inv

  -- indices of those that pass
  module _ (p : letters.Statement → Bool) (old whole : List ℕ) where
    pub index_taken : (new : List ℕ) → new ≡ old ++ s.index ∷ [] → p (statement_view given id s) ≡ true → old ++ indices_of (filter p (seen (drop i statements))) ≡ whole
        → new ++ indices_of (filter p (seen (drop (i + 1) statements))) ≡ whole
    index_taken new pushed passes inv =
        one_taken (λ l. indices_of l) (λ x xs. refl) p old new whole (pushed ∙ ap (λ (n : ℕ). old ++ n ∷ []) (sym (index_is given id s.index))) passes inv

    pub index_left : p (statement_view given id s) ≡ false → old ++ indices_of (filter p (seen (drop i statements))) ≡ whole
        → old ++ indices_of (filter p (seen (drop (i + 1) statements))) ≡ whole
    index_left fails inv = one_left (λ l. indices_of l) (λ x xs. refl) p old whole fails inv

  -- STATEMENTS OF A RUN

  pub in_run_taken : (run : Run) (old new : List Statement) (copy : Statement) (whole : List letters.Statement) → new ≡ old ++ copy ∷ []
      → has_index run.indices s.index ≡ true → statement_view given id copy ≡ statement_view given id s
      → seen old ++ in_run run (seen (drop i statements)) ≡ whole → seen new ++ in_run run (seen (drop (i + 1) statements)) ≡ whole
  in_run_taken run old new copy whole pushed has same inv =
      ap (λ l. seen l ++ in_run run (seen (drop (i + 1) statements))) pushed
      ∙ ap (λ l. l ++ in_run run (seen (drop (i + 1) statements))) (map-append (λ s. statement_view given id s) old (copy ∷ []))
      ∙ append_assoc (seen old) (statement_view given id copy ∷ []) (in_run run (seen (drop (i + 1) statements)))
      ∙ ap (λ y. seen old ++ y ∷ in_run run (seen (drop (i + 1) statements))) same
      ∙ ap (λ l. seen old ++ l) (sym (step true has)) ∙ inv
    where
      step : (b : Bool) → has_index run.indices s.index ≡ b → in_run run (seen (drop i statements))
          ≡ (if b then statement_view given id s ∷ in_run run (seen (drop (i + 1) statements)) else in_run run (seen (drop (i + 1) statements)))
      step b is =
          ap (λ l. in_run run l) cut
          ∙ ap (λ b. if b then statement_view given id s ∷ in_run run (seen (drop (i + 1) statements)) else in_run run (seen (drop (i + 1) statements)))
          (ap (λ n. has_index run.indices n) (index_is given id s.index) ∙ is)

  pub in_run_left : (run : Run) (old : List Statement) (whole : List letters.Statement) → has_index run.indices s.index ≡ false
      → seen old ++ in_run run (seen (drop i statements)) ≡ whole → seen old ++ in_run run (seen (drop (i + 1) statements)) ≡ whole
  in_run_left run old whole has inv =
      ap (λ l. seen old ++ l) (sym (ap (λ l. in_run run l) cut
      ∙ ap (λ b. if b then statement_view given id s ∷ in_run run (seen (drop (i + 1) statements)) else in_run run (seen (drop (i + 1) statements)))
      (ap (λ n. has_index run.indices n) (index_is given id s.index) ∙ has))) ∙ inv

  -- STATEMENTS WITHOUT OUTCOMES

  module _ (answers : List (Option StatementOutcome)) where
    abbrev rest : List letters.Statement
    rest = unanswered (seen (drop (i + 1) statements)) answers

    left_by : (has : Bool) → has ≡ has_outcome answers s.index
        → unanswered (seen (drop i statements)) answers ≡ (if not has then statement_view given id s ∷ rest else rest)
    left_by has is =
        ap (λ l. unanswered l answers) cut
        ∙ ap (λ b. if not b then statement_view given id s ∷ rest else rest) (ap (λ n. has_outcome answers n) (index_is given id s.index) ∙ sym is)

    pub is_left : (has : Bool) → has ≡ has_outcome answers s.index → not (has_outcome answers (statement_view given id s).number.index) ≡ not has
    is_left has is = ap (λ b. not b) (ap (λ n. has_outcome answers n) (index_is given id s.index) ∙ sym is)

    module _ (t : Table) (tries : List (List Try)) (shard : ℕ) (old whole : List ℕ) where
      abbrev run : List letters.Statement → List ℕ
      run l = indices_of (run_to t tries shard l)

      -- one that is answered
      pub run_passes : true ≡ has_outcome answers s.index → old ++ run (unanswered (seen (drop i statements)) answers) ≡ whole → old ++ run rest ≡ whole
      run_passes has inv = sym (ap (λ l. old ++ run l) (left_by true has)) ∙ inv

      run_by : (on : Bool) → is_on shard (shard_for t tries (statement_view given id s)) ≡ on → false ≡ has_outcome answers s.index
          → run (unanswered (seen (drop i statements)) answers) ≡ indices_of (if on then statement_view given id s ∷ run_to t tries shard rest else [])
      run_by on is none =
          ap (λ l. run l) (left_by false none) ∙ ap (λ b. indices_of (if b then statement_view given id s ∷ run_to t tries shard rest else [])) is

      -- one that goes elsewhere
      pub run_ends : is_on shard (shard_for t tries (statement_view given id s)) ≡ false → false ≡ has_outcome answers s.index
          → old ++ run (unanswered (seen (drop i statements)) answers) ≡ whole → old ≡ whole
      run_ends other none inv = sym (append-nil old) ∙ ap (λ l. old ++ l) (sym (run_by false other none)) ∙ inv

      -- one that goes there
      pub run_goes : (new : List ℕ) → new ≡ old ++ s.index ∷ [] → is_on shard (shard_for t tries (statement_view given id s)) ≡ true → false ≡ has_outcome answers s.index
          → old ++ run (unanswered (seen (drop i statements)) answers) ≡ whole → new ++ run rest ≡ whole
      run_goes new pushed there none inv =
          ap (λ l. l ++ run rest) pushed ∙ append_assoc old (s.index ∷ []) (run rest)
          ∙ ap (λ n. old ++ n ∷ run rest) (sym (index_is given id s.index))
          ∙ ap (λ l. old ++ l) (sym (run_by true there none)) ∙ inv
