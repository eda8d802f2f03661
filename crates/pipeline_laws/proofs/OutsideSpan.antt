-- A document whose key is outside a half's span is removed by the front; and no half overflows.
use Rattle.std.proofs.Common.{◌≡◌, List, [], ◌∷◌, ◌++◌, refl, sym, ap, ◌∙◌, subst}
use Rattle.std.specs.Prelude.{Bool, true, false, cond, codes, filter, Some, Result, Ok, Err, ◌↔◌}
use Rattle.bson_model.specs.Tree.{Datum, Fields, get}
use Rattle.value_model.specs.Keys.{Span, inside_some, is_key, KeyFault, valid_key}
use Rattle.query_model.specs.Holds.{holds}
use Rattle.query_model.specs.KeySpans.{KeyLimits, no_limits, narrowed_by, spans_of}
use Rattle.query_model.proofs.KeysAsked.{valid_from}
use Rattle.query_model.proofs.SpanKeys.{Fits, any_fits, document_fits, fits_inside}
use Rattle.pipeline_model.specs.Stages.{Stage, match_stage, project_stage, group_stage, sort_stage, skip_stage, limit_stage, count_stage}
use Rattle.pipeline_model.specs.Runs.{Outcome, listed, overflowed, Runs}
use Rattle.pipeline_model.specs.Halves.{Rows, Half, IsHalf, Merge, may_stand_in}
use Rattle.pipeline_model.specs.Split.{front, behind_front, cut, narrowed_by_stages, span_of_stages, split}
use Rattle.pipeline_model.proofs.Fronts.{opened, past_front, past_append, past_nothing, comes_in, leaves, front_and_behind}

pub record IsOutside (span : List Span) (document : Fields) : Type 0 where
  pub key : Datum
  pub valid : valid_key document ≡ Ok key
  pub outside : inside_some span key ≡ false

outside_from : (span : List Span) (document : Fields) (r : Result Datum KeyFault) → valid_key document ≡ r →
    elim r as (λ s. Bool) [ Ok key ↦ inside_some span key | Err fault ↦ true ] ≡ false → IsOutside span document
outside_from span document (Ok key) e h = record { key = key; valid = e; outside = h }
outside_from span document (Err fault) e h = absurd (cc h)

is_outside : (span : List Span) (document : Fields) → may_stand_in span document ≡ false → IsOutside span document
is_outside span document h = outside_from span document (valid_key document) refl h

gone_from : (stages : List Stage) (document : Fields) (key : Datum) (own : is_key key ≡ true) → get (codes "_id") document ≡ Some key →
    (limits : KeyLimits) → Fits key own limits → inside_some (spans_of (narrowed_by_stages stages limits)) key ≡ false →
    past_front stages (document ∷ []) ≡ []
gone_from (match_stage asked ∷ rest) document key own is limits fits outside =
    by (holds asked document) refl (gone_from rest document key own is (narrowed_by asked limits))
  where
    by : (b : Bool) → holds asked document ≡ b →
        (Fits key own (narrowed_by asked limits) → inside_some (spans_of (narrowed_by_stages rest (narrowed_by asked limits))) key ≡ false →
        past_front rest (document ∷ []) ≡ []) → past_front rest (cond b (document ∷ []) []) ≡ []
    by true h gone = gone (document_fits asked document key own is limits h fits) outside
    by false h gone = past_nothing rest
gone_from stages document key own is limits fits outside =
    let e : true ≡ false = sym (fits_inside key own limits fits) ∙ outside in absurd cc

-- a document that is outside the span of the stages is gone past their front
gone : (stages : List Stage) (document : Fields) → IsOutside (span_of_stages stages) document → past_front stages (document ∷ []) ≡ []
gone stages document h =
    let kept = valid_from (get (codes "_id") document) h.key h.valid in
    gone_from stages document h.key kept.1 kept.0 no_limits (any_fits h.key kept.1) h.outside

module _ (stages : List Stage) where
  abbrev stands : Fields → Bool
  stands = may_stand_in (span_of_stages stages)

  first_or_not : (b : Bool) (document : Fields) (docs left : List Fields) → stands document ≡ b → past_front stages left ≡ past_front stages docs →
      past_front stages (cond b (document ∷ left) left) ≡ past_front stages (document ∷ docs)
  first_or_not true document docs left e same =
      past_append stages (document ∷ []) left ∙ ap (λ l. past_front stages (document ∷ []) ++ l) same ∙ sym (past_append stages (document ∷ []) docs)
  first_or_not false document docs left e same =
      same ∙ sym (past_append stages (document ∷ []) docs ∙ ap (λ l. l ++ past_front stages docs)
      (gone stages document (is_outside (span_of_stages stages) document e)))

  -- the documents in the span have the same result after the front as all
  pub past_outside : (docs : List Fields) → past_front stages (filter stands docs) ≡ past_front stages docs
  past_outside [] = refl
  past_outside (document ∷ docs) = first_or_not (stands document) document docs (filter stands docs) refl (past_outside docs)

  moved : (more : List Stage) (xs ys : List Fields) (out : Outcome) → past_front stages xs ≡ past_front stages ys → Runs (front stages ++ more) xs out →
      Runs (front stages ++ more) ys out
  moved more xs ys out e h = comes_in stages more ys out (subst (λ docs. Runs more docs out) e (leaves stages more xs out h))

  pub half_outside : (docs : List Fields) (rows : Rows) → IsHalf (split stages).0 (filter stands docs) rows ↔ IsHalf (split stages).0 docs rows
  half_outside docs rows = (
    λ h. record {
      left = h.left;
      runs = moved (cut (behind_front stages)).stages (filter stands docs) docs (listed h.left) (past_outside docs) h.runs;
      ends = h.ends;
    },
    λ h. record {
      left = h.left;
      runs = moved (cut (behind_front stages)).stages docs (filter stands docs) (listed h.left) (sym (past_outside docs))
          h.runs;
      ends = h.ends;
    },
  )

  pub run_outside : (docs : List Fields) (out : Outcome) → Runs stages (filter stands docs) out ↔ Runs stages docs out
  run_outside docs out =
      let whole = front_and_behind stages in (
        λ h. subst (λ l. Runs l docs out) whole (moved (behind_front stages) (filter stands docs) docs out (past_outside docs)
            (subst (λ l. Runs l (filter stands docs) out) (sym whole) h)),
        λ h. subst (λ l. Runs l (filter stands docs) out) whole
            (moved (behind_front stages) docs (filter stands docs) out (sym (past_outside docs)) (subst (λ l. Runs l docs out) (sym whole) h)),
      )

not_listed : {docs : List Fields} → overflowed ≡ listed docs → ⊥
not_listed e = cc

cut_lists : (stages : List Stage) (docs : List Fields) → Runs (cut stages).stages docs overflowed → ⊥
cut_lists (sort_stage spec ∷ skip_stage s ∷ limit_stage n ∷ rest) docs h = not_listed (opened (opened (opened h).3))
cut_lists (sort_stage spec ∷ limit_stage n ∷ rest) docs h = not_listed (opened (opened (opened h).3))
cut_lists (sort_stage spec ∷ rest) docs h = not_listed (opened (opened h).3)
cut_lists (group_stage spec ∷ rest) docs h = not_listed (opened h)
cut_lists (count_stage name ∷ rest) docs h = not_listed (opened h)
cut_lists (skip_stage s ∷ limit_stage n ∷ rest) docs h = not_listed (opened (opened h))
cut_lists (limit_stage n ∷ rest) docs h = not_listed (opened (opened h))
cut_lists stages docs h = not_listed (opened h)

-- the stages of a half never overflow
pub half_lists : (stages : List Stage) (docs : List Fields) → Runs (split stages).0.stages docs overflowed → ⊥
half_lists stages docs h = cut_lists (behind_front stages) (past_front stages docs) (leaves stages (cut (behind_front stages)).stages docs overflowed h)

-- the same for a half that stages are split into
pub split_half_outside : (stages : List Stage) (half : Half) (merge : Merge) (docs : List Fields) (rows : Rows) → split stages ≡ (half, merge) →
    IsHalf half (filter (may_stand_in half.span) docs) rows ↔ IsHalf half docs rows
split_half_outside stages half merge docs rows e = subst (λ s. IsHalf s.0 (filter (may_stand_in s.0.span) docs) rows ↔ IsHalf s.0 docs rows) e
    (half_outside stages docs rows)

pub split_run_outside : (stages : List Stage) (half : Half) (merge : Merge) (docs : List Fields) (out : Outcome) → split stages ≡ (half, merge) →
    Runs stages (filter (may_stand_in half.span) docs) out ↔ Runs stages docs out
split_run_outside stages half merge docs out e = subst (λ s. Runs stages (filter (may_stand_in s.0.span) docs) out ↔ Runs stages docs out) e
    (run_outside stages docs out)

pub split_half_lists : (stages : List Stage) (half : Half) (merge : Merge) (docs : List Fields) → split stages ≡ (half, merge) →
    Runs half.stages docs overflowed → ⊥
split_half_lists stages half merge docs e h = half_lists stages docs (subst (λ s. Runs s.0.stages docs overflowed) (sym e) h)
