-- No document is there.
use Rattle.std.proofs.Common.{◌≡◌, ℤ, pos, inl, inr, List, [], refl, sym, subst, ◌∙◌, arith, codes}
use Rattle.std.specs.Prelude.{false, Ok}
use Rattle.std.proofs.lemmas.List.Sorted.{IsPermutation-refl, IsPermutation-trans}
use Rattle.bson_model.specs.Tree.{Fields, no_fields}
use Rattle.base_model.specs.Times.{timestamp}
use Rattle.command_model.specs.Cursors.{Batch}
use Rattle.command_model.specs.Command.{find_command}
use Rattle.pipeline_model.specs.SortKeys.{comes_before}
use Rattle.pipeline_model.specs.Runs.{sort_run, no_stage_run, listed}
use Rattle.pipeline_model.proofs.Fronts.{opened}
use Rattle.pipeline_model.proofs.OrderedLists.{sorted_from_up}
use Rattle.pipeline_laws.proofs.PartRows.{chain_of, one_way_of}
use Rattle.reply_model.specs.Exchanges.{Asked}
use Rattle.reply_laws.specs.SampleExchanges.{account_of}
use Rattle.reply_model.specs.Cursors.{Cursor, Opens, opens_none, opens_one, ShowsFirst}
use Rattle.reply_model.specs.Reads.{own_time, MayGive}
use Rattle.reply_model.specs.Right.{right_find}
use Rattle.reply_laws.specs.SampleReads.{batch, by_id, finds_sorted, reading_all, sorting, told_first}
use Rattle.reply_laws.proofs.Quiet.{never_batch}
use Rattle.reply_facts.proofs.RightAnswers.{RightBy, right_of, same_first}
use Rattle.reply_laws.proofs.FilteredOrders.{no_order}
use Rattle.reply_laws.proofs.KeyFinds.{whole_batch}
use Rattle.reply_laws.proofs.cursor_examples.no_documents.Goals as goal

abbrev asked : Asked
asked = sorting false 0 no_fields

pub returns-clause-ended : goal.returns-clause-ended
returns-clause-ended c =
    right_find (finds_sorted 0 false) (timestamp 1000 4) [] (batch (pos 0) []) [] refl (own_time refl tt)
    (record {
      ordered = [];
      permutes = IsPermutation-refl [];
      runs = sort_run by_id [] [] [] (listed []) (IsPermutation-refl []) (sorted_from_up (comes_before by_id) (chain_of by_id) (one_way_of by_id) [] tt)
          (no_stage_run []);
    })
    refl refl refl (record { batch_of = whole_batch 0 [] (omega arith) (inl (omega arith)); opens = opens_none [] (inl refl) }) refl

same_list : (documents others : List Fields) → listed documents ≡ listed others → documents ≡ others
same_list documents others e = cc

never_opens : (rest : List Fields) (number : ℤ) (next : List Cursor) → rest ≡ [] → number ≡ pos 1
    → Opens asked.id false (codes "d.c") (timestamp 1000 4) [] rest number next → ⊥
never_opens rest number next none is (opens_none r why) = let e : pos 0 ≡ pos 1 = is in cc
never_opens rest number next none is (opens_one r n some more new) = some none

by_told : (next : List Cursor) → RightBy (account_of [] [] []) [] asked (told_first (sorting false 0 no_fields) (pos 1) [])
    (Ok (find_command (finds_sorted 0 false))) next → ⊥
by_told next (inr refused) =
    never_batch (account_of [] [] []) [] asked (told_first (sorting false 0 no_fields) (pos 1) []) reading_all (batch (pos 1) []) refl refused.0
by_told next (inl first) =
    let same : first.batch ≡ batch (pos 1) [] = same_first first.batch (batch (pos 1) []) (sym first.says) in
    let gives = subst (λ (x : Batch). MayGive [] reading_all x.time (listed first.documents)) same first.gives in
    let run = opened gives.runs in
    let none : first.documents ≡ [] = same_list first.documents run.0 (opened run.3)
    ∙ no_order run.0 (IsPermutation-trans [] gives.ordered run.0 gives.permutes run.1) in
    let shows = subst (λ (x : Batch). ShowsFirst asked.id 0 false [] first.documents x next) same first.shows in
    never_opens first.documents (pos 1) next none refl shows.opens

pub returns-clause-open : goal.returns-clause-open
returns-clause-open c next right =
    by_told next (right_of (account_of [] [] []) [] asked (told_first (sorting false 0 no_fields) (pos 1) [])
    (Ok (find_command (finds_sorted 0 false))) next refl right)
