-- Documents can always be grouped and sorted, so each pipeline has an outcome.
use Rattle.std.proofs.Common.{◌≡◌, List, [], ◌∷◌, ◌++◌, map, length, take, drop, refl, sym, ap, ◌∙◌, subst}
use Rattle.std.specs.Prelude.{Bool, true, false, ◌||◌, filter, Option, Some, None}
use Rattle.std.specs.List.{list_any}
use Rattle.std.proofs.lemmas.List.{append-nil, append_assoc}
use Rattle.bson_model.specs.Tree.{Datum, Fields}
use Rattle.value_model.proofs.Spans.{same_value_equivalence}
use Rattle.query_model.specs.Holds.{holds}
use Rattle.pipeline_model.specs.Projections.{project}
use Rattle.pipeline_model.specs.SortKeys.{comes_before}
use Rattle.pipeline_model.specs.GroupSpecs.{GroupSpec}
use Rattle.pipeline_model.specs.Groups.{PartialRow, own_row, has_key, IsJoined, IsGrouped, documents_of}
use Rattle.pipeline_model.specs.Stages.{Stage, match_stage, project_stage, group_stage, sort_stage, skip_stage, limit_stage, count_stage}
use Rattle.pipeline_model.specs.Runs.{Outcome, listed, overflowed, Runs, no_stage_run, match_run, project_run, group_run, overflow_run, sort_run, skip_run, limit_run, count_run, count_documents}
use Rattle.pipeline_model.proofs.KeptRows.{known_row, new_row}
use Rattle.pipeline_model.proofs.OrderedLists.{in_order, in_order_permutes, in_order_up, sorted_from_up}
use Rattle.pipeline_laws.proofs.PartRows.{chain_of, one_way_of}

pub data Found (k : Datum) : List PartialRow → Type 0 where
  not_there : (rows : List PartialRow) → list_any (has_key k) rows ≡ false → Found k rows
  there_is : (front back : List PartialRow) (m : PartialRow) → has_key k m ≡ true → Found k (front ++ m ∷ back)

behind_one : (k : Datum) (row : PartialRow) (rows : List PartialRow) → has_key k row ≡ false → Found k rows → Found k (row ∷ rows)
behind_one k row rows e (not_there others none) = not_there (row ∷ others) (ap (λ b. b || list_any (has_key k) others) e ∙ none)
behind_one k row rows e (there_is front back m found) = there_is (row ∷ front) back m found

find_either : (b : Bool) (k : Datum) (row : PartialRow) (rows : List PartialRow) → has_key k row ≡ b → Found k rows → Found k (row ∷ rows)
find_either true k row rows e others = there_is [] rows row e
find_either false k row rows e others = behind_one k row rows e others

find : (k : Datum) (rows : List PartialRow) → Found k rows
find k [] = not_there [] refl
find k (row ∷ rows) = find_either (has_key k row) k row rows refl (find k rows)

module _ (spec : GroupSpec) where
  pub record SomeRows (sources : List PartialRow) : Type 0 where
    pub rows : List PartialRow
    pub joined : IsJoined spec sources rows

  one_more : (sources rows : List PartialRow) (r : PartialRow) → Found r.key rows → IsJoined spec sources rows → SomeRows (sources ++ r ∷ [])
  one_more sources rows r (not_there others none) h = record { rows = _; joined = new_row spec sources r [] others none h }
  one_more sources rows r (there_is front back m found) h =
      record { rows = _; joined = known_row spec sources r front back m (same_value_equivalence.symm m.key r.key ∙ found) h }

  all_more : (sources more : List PartialRow) → SomeRows sources → SomeRows (sources ++ more)
  all_more sources [] h = subst SomeRows (sym (append-nil sources)) h
  all_more sources (r ∷ more) h =
      subst SomeRows (append_assoc sources (r ∷ []) more) (all_more (sources ++ r ∷ []) more (one_more sources h.rows r (find r.key h.rows) h.joined))

  some_rows : (sources : List PartialRow) → SomeRows sources
  some_rows sources = all_more [] sources (record { rows = []; joined = record { each = tt; apart = tt; every = tt } })

pub record HasOutcome (stages : List Stage) (docs : List Fields) : Type 0 where
  pub out : Outcome
  pub runs : Runs stages docs out

grouped_outcome : (spec : GroupSpec) (rest : List Stage) (docs : List Fields) (rows : List PartialRow) (documents : Option (List Fields)) →
    documents_of spec rows ≡ documents → IsGrouped spec docs rows → ((list : List Fields) → HasOutcome rest list) → HasOutcome (group_stage spec ∷ rest) docs
grouped_outcome spec rest docs rows None e grouped later = record { out = overflowed; runs = overflow_run spec rest docs rows grouped e }
grouped_outcome spec rest docs rows (Some documents) e grouped later =
    record { out = (later documents).out; runs = group_run spec rest docs rows documents (later documents).out grouped e (later documents).runs }

has_outcome : (stages : List Stage) (docs : List Fields) → HasOutcome stages docs
has_outcome [] docs = record { out = listed docs; runs = no_stage_run docs }
has_outcome (match_stage asked ∷ rest) docs =
    let later = has_outcome rest (filter (holds asked) docs) in record { out = later.out; runs = match_run asked rest docs later.out later.runs }
has_outcome (project_stage rules ∷ rest) docs =
    let later = has_outcome rest (map (project rules) docs) in record { out = later.out; runs = project_run rules rest docs later.out later.runs }
has_outcome (sort_stage spec ∷ rest) docs =
    let sorted = in_order (comes_before spec) (chain_of spec) (one_way_of spec) docs in
    let later = has_outcome rest sorted in
    record {
      out = later.out;
      runs = sort_run spec rest docs sorted later.out (in_order_permutes (comes_before spec) (chain_of spec) (one_way_of spec) docs)
          (sorted_from_up (comes_before spec) (chain_of spec) (one_way_of spec) sorted
          (in_order_up (comes_before spec) (chain_of spec) (one_way_of spec) docs)) later.runs;
    }
has_outcome (skip_stage n ∷ rest) docs = let later = has_outcome rest (drop n docs) in record
    { out = later.out; runs = skip_run n rest docs later.out later.runs }
has_outcome (limit_stage n ∷ rest) docs = let later = has_outcome rest (take n docs) in record
    { out = later.out; runs = limit_run n rest docs later.out later.runs }
has_outcome (count_stage name ∷ rest) docs =
    let later = has_outcome rest (count_documents name (length docs)) in record { out = later.out; runs = count_run name rest docs later.out later.runs }
has_outcome (group_stage spec ∷ rest) docs =
    let grouped = some_rows spec (map (own_row spec) docs) in
    grouped_outcome spec rest docs grouped.rows (documents_of spec grouped.rows) refl grouped.joined (has_outcome rest)

pub some_outcome : (stages : List Stage) (docs : List Fields) → (out : Outcome) × Runs stages docs out
some_outcome stages docs = ((has_outcome stages docs).out, (has_outcome stages docs).runs)
