-- Both values have one row, whose sum is 2.
use Rattle.std.proofs.Common.{◌≡◌, ◌⊎◌, inl, inr, List, [], ◌∷◌, take, refl, sym, ap, subst, ◌∙◌, arith, pos}
use Rattle.std.specs.Prelude.{true, Some, None, Ok}
use Rattle.std.proofs.lemmas.List.Sorted.{IsPermutation-refl}
use Rattle.bson_model.specs.Tree.{Fields}
use Rattle.base_model.specs.Times.{timestamp}
use Rattle.command_model.specs.Reading.{Reading}
use Rattle.command_model.specs.Command.{find_command}
use Rattle.pipeline_model.specs.Groups.{sum_cell, PartialRow, IsGrouped, documents_of}
use Rattle.pipeline_model.specs.Stages.{Stage, group_stage}
use Rattle.pipeline_model.specs.Runs.{Runs, no_stage_run, group_run, listed, overflowed}
use Rattle.pipeline_model.proofs.Fronts.{opened}
use Rattle.pipeline_laws.proofs.SampleRuns.{less}
use Rattle.reply_model.specs.Cursors.{Cursor}
use Rattle.reply_model.specs.Reads.{own_time, MayGive}
use Rattle.reply_model.specs.Right.{IsReadRefused, refused_overflow, refused_excess, refused_ahead}
use Rattle.reply_laws.specs.SampleReads.{one, two, three}
use Rattle.reply_laws.specs.SampleSums.{both_valued, of_sum, sum_spec, summing, told_batch, told_overflow, valued}
use Rattle.reply_laws.specs.SampleTimes.{find_in, reading_of}
use Rattle.reply_laws.proofs.Quiet.{read_refused}
use Rattle.reply_facts.proofs.RightAnswers.{RightBy, right_of}
use Rattle.reply_laws.proofs.TimedReads.{own_is, find_right, told_first}
use Rattle.reply_laws.proofs.SumReads.{two_orders, joined_of, joined_is}
use Rattle.reply_laws.proofs.sum_examples.small_sums.Goals as goal
use Rattle.reply_laws.specs.SampleExchanges.{account_of}

abbrev stages : List Stage
stages = group_stage sum_spec ∷ []

abbrev reading : Reading
reading = reading_of stages None None

abbrev both : List Fields
both = valued one one ∷ valued two one ∷ []

abbrev other_way : List Fields
other_way = valued two one ∷ valued one one ∷ []

one_row : (ordered : List Fields) (rows : List PartialRow) → (ordered ≡ both) ⊎ (ordered ≡ other_way) → IsGrouped sum_spec ordered rows
    → documents_of sum_spec rows ≡ Some (of_sum two).documents
one_row ordered rows (inl is) grouped =
    ap (documents_of sum_spec) (joined_is (sum_cell (pos 1) true) (sum_cell (pos 1) true) rows
    (subst (λ (l : List Fields). IsGrouped sum_spec l rows) is grouped))
one_row ordered rows (inr is) grouped =
    ap (documents_of sum_spec) (joined_is (sum_cell (pos 1) true) (sum_cell (pos 1) true) rows
    (subst (λ (l : List Fields). IsGrouped sum_spec l rows) is grouped))

pub returns-clause-shown : goal.returns-clause-shown
returns-clause-shown c =
    find_right (both_valued one one) summing (told_batch (of_sum two)) stages None None refl (timestamp 1000 4) (of_sum two).documents (own_time refl tt)
    (record {
      ordered = both;
      permutes = IsPermutation-refl both;
      runs = group_run sum_spec [] both (joined_of (sum_cell (pos 1) true) (sum_cell (pos 1) true) ∷ []) (of_sum two).documents
          (listed (of_sum two).documents) (record {
            each = (record { key = (0, less 0 2 refl, refl); cells = (refl, refl) }, tt);
            apart = (tt, tt);
            every = (refl, (refl, tt));
          }) refl (no_stage_run (of_sum two).documents);
    })
    (omega arith) (inl (omega arith)) refl refl

same_list : (documents others : List Fields) → listed documents ≡ listed others → documents ≡ others
same_list documents others e = cc

shown_is : (rows : List PartialRow) (documents : List Fields) → documents_of sum_spec rows ≡ Some (of_sum two).documents
    → ((shown : List Fields) × (documents_of sum_spec rows ≡ Some shown) × Runs [] shown (listed documents))
    ⊎ ((documents_of sum_spec rows ≡ None) × (listed documents ≡ overflowed))
    → documents ≡ (of_sum two).documents
shown_is rows documents is (inl some) =
    let both : Some some.0 ≡ Some (of_sum two).documents = sym some.1 ∙ is in
    let same : some.0 ≡ (of_sum two).documents = cc in
    same_list documents some.0 (opened some.2) ∙ same
shown_is rows documents is (inr over) = absurd (let e = over.1 in cc)

pub returns-clause-another : goal.returns-clause-another
returns-clause-another c next right =
    let told = told_first (both_valued one one) summing (told_batch (of_sum three)) stages None None refl (of_sum three) next right refl in
    let run = opened told.gives.runs in
    let is = shown_is run.0 told.documents (one_row told.gives.ordered run.0 (two_orders (valued one one)
    (valued two one) told.gives.ordered told.gives.permutes) run.1) run.2 in
    let front : (of_sum three).documents ≡ (of_sum two).documents = told.shows.batch_of.front ∙ ap (λ (l : List Fields). take 1 l) is in
    cc

never : (rows : List PartialRow) → documents_of sum_spec rows ≡ Some (of_sum two).documents
    → ((shown : List Fields) × (documents_of sum_spec rows ≡ Some shown) × Runs [] shown overflowed)
    ⊎ ((documents_of sum_spec rows ≡ None) × (overflowed ≡ overflowed)) → ⊥
never rows is (inl some) = let e : overflowed ≡ listed some.0 = opened some.2 in cc
never rows is (inr none) = let e : Some (of_sum two).documents ≡ None = sym is ∙ none.0 in cc

not_refused : IsReadRefused (account_of (both_valued one one) [] []) summing told_overflow reading → ⊥
not_refused (refused_overflow time read gives told) =
    let when : time ≡ timestamp 1000 4 = own_is summing told_overflow stages time read in
    let same = subst (λ n. MayGive (both_valued one one) reading n overflowed) when gives in
    let run = opened same.runs in
    never run.0 (one_row same.ordered run.0 (two_orders (valued one one) (valued two one) same.ordered same.permutes) run.1) run.2
not_refused (refused_excess time n read excess told) = let e = told in cc
not_refused (refused_ahead ahead told) = let e = told in cc

by_told : (next : List Cursor) → RightBy (account_of (both_valued one one) [] []) [] summing told_overflow (Ok (find_command (find_in reading))) next → ⊥
by_told next (inl told) = let e = told.says in cc
by_told next (inr refused) = not_refused (read_refused (both_valued one one) [] [] summing told_overflow [] reading refl refused.0)

pub returns-clause-never_refused : goal.returns-clause-never_refused
returns-clause-never_refused c next right =
    by_told next (right_of (account_of (both_valued one one) [] []) [] summing told_overflow (Ok (find_command (find_in reading))) next refl right)
