-- The front of $match and $project acts on each document alone; and a run by its first stage.
use Rattle.std.proofs.Common.{◌≡◌, ◌≤◌, ◌⊎◌, inl, inr, List, [], ◌∷◌, ◌++◌, map, length, take, drop, refl, ap, ◌∙◌, subst, arith}
use Rattle.std.specs.Prelude.{filter, flat_map, IsPermutation, IsSortedBy, Some, None}
use Rattle.std.proofs.lemmas.List.{map-append, length-map}
use Rattle.std.proofs.lemmas.List.Sums.{length-filter, count_by-le-length}
use Rattle.std.proofs.lemmas.List.Elements.{filter-append}
use Rattle.bson_model.specs.Tree.{Fields}
use Rattle.query_model.specs.Holds.{holds}
use Rattle.pipeline_model.specs.Projections.{project}
use Rattle.pipeline_model.specs.SortKeys.{comes_before}
use Rattle.pipeline_model.specs.Groups.{PartialRow, IsGrouped, documents_of}
use Rattle.pipeline_model.specs.Stages.{Stage, match_stage, project_stage, group_stage, sort_stage, skip_stage, limit_stage, count_stage}
use Rattle.pipeline_model.specs.Runs.{Outcome, listed, overflowed, Runs, no_stage_run, match_run, project_run, group_run, overflow_run, sort_run, skip_run, limit_run, count_run, count_documents}
use Rattle.pipeline_model.specs.Split.{front, behind_front}

-- what a run by its first stage is
abbrev pub Opens : List Stage → List Fields → Outcome → Type 0
Opens [] docs out = out ≡ listed docs
Opens (match_stage asked ∷ rest) docs out = Runs rest (filter (holds asked) docs) out
Opens (project_stage rules ∷ rest) docs out = Runs rest (map (project rules) docs) out
Opens (sort_stage spec ∷ rest) docs out = (sorted : List Fields) × IsPermutation docs sorted × IsSortedBy (comes_before spec) sorted × Runs rest sorted out
Opens (skip_stage n ∷ rest) docs out = Runs rest (drop n docs) out
Opens (limit_stage n ∷ rest) docs out = Runs rest (take n docs) out
Opens (count_stage name ∷ rest) docs out = Runs rest (count_documents name (length docs)) out
Opens (group_stage spec ∷ rest) docs out =
    (rows : List PartialRow) × IsGrouped spec docs rows
    × (((documents : List Fields) × (documents_of spec rows ≡ Some documents) × Runs rest documents out)
    ⊎ ((documents_of spec rows ≡ None) × (out ≡ overflowed)))

pub opened : {stages : List Stage} {docs : List Fields} {out : Outcome} → Runs stages docs out → Opens stages docs out
opened (no_stage_run docs) = refl
opened (match_run asked rest docs out h) = h
opened (project_run rules rest docs out h) = h
opened (sort_run spec rest docs sorted out moved up h) = (sorted, moved, up, h)
opened (skip_run n rest docs out h) = h
opened (limit_run n rest docs out h) = h
opened (count_run name rest docs out h) = h
opened (group_run spec rest docs rows documents out grouped shown h) = (rows, grouped, inl (documents, shown, h))
opened (overflow_run spec rest docs rows grouped none) = (rows, grouped, inr (none, refl))

-- what the front leaves of documents
abbrev pub past_front : List Stage → List Fields → List Fields
past_front [] docs = docs
past_front (match_stage asked ∷ rest) docs = past_front rest (filter (holds asked) docs)
past_front (project_stage rules ∷ rest) docs = past_front rest (map (project rules) docs)
past_front (stage ∷ rest) docs = docs

pub past_append : (stages : List Stage) (xs ys : List Fields) → past_front stages (xs ++ ys) ≡ past_front stages xs ++ past_front stages ys
past_append [] xs ys = refl
past_append (match_stage asked ∷ rest) xs ys = ap (past_front rest) (filter-append (holds asked) xs ys)
    ∙ past_append rest (filter (holds asked) xs) (filter (holds asked) ys)
past_append (project_stage rules ∷ rest) xs ys = ap (past_front rest) (map-append (project rules) xs ys)
    ∙ past_append rest (map (project rules) xs) (map (project rules) ys)
past_append (stage ∷ rest) xs ys = refl

pub past_nothing : (stages : List Stage) → past_front stages [] ≡ []
past_nothing [] = refl
past_nothing (match_stage asked ∷ rest) = past_nothing rest
past_nothing (project_stage rules ∷ rest) = past_nothing rest
past_nothing (stage ∷ rest) = refl

pub past_parts : (stages : List Stage) (parts : List (List Fields)) →
    past_front stages (flat_map (λ p. p) parts) ≡ flat_map (λ p. p) (map (past_front stages) parts)
past_parts stages [] = past_nothing stages
past_parts stages (p ∷ parts) = past_append stages p (flat_map (λ q. q) parts) ∙ ap (λ l. past_front stages p ++ l) (past_parts stages parts)

-- no more documents are left than there were
pub past_length : (stages : List Stage) (docs : List Fields) → length (past_front stages docs) ≤ length docs
past_length [] docs = omega arith
past_length (match_stage asked ∷ rest) docs = omega (
  arith,
  past_length rest (filter (holds asked) docs),
  length-filter (holds asked) docs,
  count_by-le-length (holds asked) docs,
)
past_length (project_stage rules ∷ rest) docs = omega (arith, past_length rest (map (project rules) docs), length-map docs (project rules))
past_length (stage ∷ rest) docs = omega arith

pub comes_in : (stages more : List Stage) (docs : List Fields) (out : Outcome) → Runs more (past_front stages docs) out → Runs (front stages ++ more) docs out
comes_in [] more docs out h = h
comes_in (match_stage asked ∷ rest) more docs out h = match_run asked (front rest ++ more) docs out (comes_in rest more (filter (holds asked) docs) out h)
comes_in (project_stage rules ∷ rest) more docs out h = project_run rules (front rest ++ more) docs out (comes_in rest more (map (project rules) docs) out h)
comes_in (stage ∷ rest) more docs out h = h

pub leaves : (stages more : List Stage) (docs : List Fields) (out : Outcome) → Runs (front stages ++ more) docs out → Runs more (past_front stages docs) out
leaves [] more docs out h = h
leaves (match_stage asked ∷ rest) more docs out h = leaves rest more (filter (holds asked) docs) out (opened h)
leaves (project_stage rules ∷ rest) more docs out h = leaves rest more (map (project rules) docs) out (opened h)
leaves (stage ∷ rest) more docs out h = h

pub front_and_behind : (stages : List Stage) → front stages ++ behind_front stages ≡ stages
front_and_behind [] = refl
front_and_behind (match_stage asked ∷ rest) = ap (λ l. match_stage asked ∷ l) (front_and_behind rest)
front_and_behind (project_stage rules ∷ rest) = ap (λ l. project_stage rules ∷ l) (front_and_behind rest)
front_and_behind (stage ∷ rest) = refl

pub enters : (stages : List Stage) (docs : List Fields) (out : Outcome) → Runs (behind_front stages) (past_front stages docs) out → Runs stages docs out
enters stages docs out h = subst (λ l. Runs l docs out) (front_and_behind stages) (comes_in stages (behind_front stages) docs out h)
