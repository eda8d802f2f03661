-- Both values have one row, whose sum is outside int64.
use Rattle.std.proofs.Common.{◌≡◌, ◌⊎◌, inl, inr, List, [], ◌∷◌, refl, sym, ap, subst, ◌∙◌, pos}
use Rattle.std.specs.Prelude.{true, false, Some, None}
use Rattle.std.proofs.lemmas.List.Sorted.{IsPermutation-refl}
use Rattle.bson_model.specs.Tree.{Fields}
use Rattle.base_model.specs.Times.{timestamp}
use Rattle.command_model.specs.Reading.{Reading}
use Rattle.pipeline_model.specs.Groups.{sum_cell, PartialRow, IsGrouped, documents_of}
use Rattle.pipeline_model.specs.Stages.{Stage, group_stage}
use Rattle.pipeline_model.specs.Runs.{Runs, overflow_run, listed, overflowed}
use Rattle.pipeline_model.proofs.Fronts.{opened}
use Rattle.pipeline_laws.proofs.SampleRuns.{less}
use Rattle.reply_model.specs.Reads.{own_time, MayGive}
use Rattle.reply_model.specs.Right.{refused_overflow, right_refused_read}
use Rattle.reply_laws.specs.SampleReads.{one, two}
use Rattle.reply_laws.specs.SampleSums.{both_valued, greatest, sum_spec, summing, told_batch, told_overflow, valued}
use Rattle.reply_laws.specs.SampleTimes.{reading_of}
use Rattle.reply_laws.proofs.TimedReads.{own_is, asks_read, find_time, told_first}
use Rattle.reply_laws.proofs.SumReads.{two_orders, joined_of, joined_is}
use Rattle.reply_laws.proofs.sum_examples.overflows.Goals as goal

abbrev stages : List Stage
stages = group_stage sum_spec ∷ []

abbrev reading : Reading
reading = reading_of stages None None

abbrev both : List Fields
both = valued one greatest ∷ valued two one ∷ []

abbrev other_way : List Fields
other_way = valued two one ∷ valued one greatest ∷ []

one_row : (ordered : List Fields) (rows : List PartialRow) → (ordered ≡ both) ⊎ (ordered ≡ other_way) → IsGrouped sum_spec ordered rows
    → documents_of sum_spec rows ≡ None
one_row ordered rows (inl is) grouped =
    ap (documents_of sum_spec) (joined_is (sum_cell (pos 9223372036854775807) false) (sum_cell (pos 1) true) rows
    (subst (λ (l : List Fields). IsGrouped sum_spec l rows) is grouped))
one_row ordered rows (inr is) grouped =
    ap (documents_of sum_spec) (joined_is (sum_cell (pos 1) true) (sum_cell (pos 9223372036854775807) false) rows
    (subst (λ (l : List Fields). IsGrouped sum_spec l rows) is grouped))

pub returns-clause-refused : goal.returns-clause-refused
returns-clause-refused c =
    right_refused_read reading (asks_read (both_valued greatest one) summing told_overflow stages None None refl)
    (refused_overflow (timestamp 1000 4) (own_time refl tt)
    (record {
      ordered = both;
      permutes = IsPermutation-refl both;
      runs = overflow_run sum_spec [] both (joined_of (sum_cell (pos 9223372036854775807) false) (sum_cell (pos 1) true) ∷ [])
          (record { each = (record { key = (0, less 0 2 refl, refl); cells = (refl, refl) }, tt); apart = (tt, tt); every = (refl, (refl, tt)) }) refl;
    })
    refl)

never : (rows : List PartialRow) (documents : List Fields) → documents_of sum_spec rows ≡ None
    → ((shown : List Fields) × (documents_of sum_spec rows ≡ Some shown) × Runs [] shown (listed documents))
    ⊎ ((documents_of sum_spec rows ≡ None) × (listed documents ≡ overflowed)) → ⊥
never rows documents none (inl some) = let e : None ≡ Some some.0 = sym none ∙ some.1 in cc
never rows documents none (inr over) = let e = over.1 in cc

pub returns-clause-never_shown : goal.returns-clause-never_shown
returns-clause-never_shown c b next right =
    let when : b.time ≡ timestamp 1000 4 =
    own_is summing (told_batch b) stages b.time (find_time (both_valued greatest one) summing (told_batch b) stages None None refl next b.time right refl) in
    let told = told_first (both_valued greatest one) summing (told_batch b) stages None None refl b next right refl in
    let gives = subst (λ n. MayGive (both_valued greatest one) reading n (listed told.documents)) when told.gives in
    let run = opened gives.runs in
    never run.0 told.documents (one_row gives.ordered run.0 (two_orders (valued one greatest) (valued two one) gives.ordered gives.permutes) run.1) run.2
