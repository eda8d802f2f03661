-- How halves and merges are compared with others: by what they hold, each in a place of its own.
use Rattle.std.specs.Prelude.{◌≡◌, ◌⊎◌, ℕ, List, refl, ◌==◌, if◌then◌else◌}
use Rattle.std.proofs.Common.{inl, inr}
use Rattle.std.specs.Coded.{Coded, code_by, coded×, coded⊎, coded_list, coded_ℕ}
use Rattle.group_accum.specs.Code.{group_code}
use Rattle.pipeline_model.specs.Halves.{Half, HalfEnd, documents_end, partials_end, counted_end, Joining, joined_in_order, joined_groups, joined_counts, joined_as_they_come, Merge}
use Rattle.value_model.specs.Keys.{Span}
use Rattle.pipeline_model.specs.Stages.{Stage}
use Rattle.pipeline_lang.specs.Code.{stages_code}
use Rattle.pipeline_model.specs.GroupSpecs.{GroupSpec}
use Rattle.pipeline_model.specs.SortKeys.{SortField}
use Rattle.sort_keys.specs.Code.{spec_code}
use Rattle.value_compare.specs.Code.{spans_code}

abbrev pub EndParts : Type 0
EndParts = ℕ ⊎ GroupSpec

abbrev pub end_parts : HalfEnd → EndParts
end_parts documents_end = inl 0
end_parts counted_end = inl 1
end_parts (partials_end spec) = inr spec

abbrev pub end_from : EndParts → HalfEnd
end_from (inl n) = if n == 0 then documents_end else counted_end
end_from (inr spec) = partials_end spec

abbrev pub end_back : (e : HalfEnd) → end_from (end_parts e) ≡ e
end_back documents_end = refl
end_back counted_end = refl
end_back (partials_end spec) = refl

abbrev pub end_code : Coded HalfEnd
end_code = code_by EndParts (coded⊎ coded_ℕ group_code) end_parts end_from end_back

abbrev pub half_code : Coded Half
half_code =
    code_by (List Span × (List Stage × HalfEnd)) (coded× spans_code (coded× stages_code end_code)) (λ h. (h.span, (h.stages, h.last)))
    (λ p. record { span = p.0; stages = p.1.0; last = p.1.1 }) (λ h. refl)

abbrev pub JoiningParts : Type 0
JoiningParts = ℕ ⊎ (List SortField ⊎ (GroupSpec ⊎ List ℕ))

abbrev pub joining_parts : Joining → JoiningParts
joining_parts joined_as_they_come = inl 0
joining_parts (joined_in_order spec) = inr (inl spec)
joining_parts (joined_groups spec) = inr (inr (inl spec))
joining_parts (joined_counts name) = inr (inr (inr name))

abbrev pub joining_from : JoiningParts → Joining
joining_from (inl n) = joined_as_they_come
joining_from (inr (inl spec)) = joined_in_order spec
joining_from (inr (inr (inl spec))) = joined_groups spec
joining_from (inr (inr (inr name))) = joined_counts name

abbrev pub joining_back : (j : Joining) → joining_from (joining_parts j) ≡ j
joining_back joined_as_they_come = refl
joining_back (joined_in_order spec) = refl
joining_back (joined_groups spec) = refl
joining_back (joined_counts name) = refl

abbrev pub joining_code : Coded Joining
joining_code = code_by JoiningParts (coded⊎ coded_ℕ (coded⊎ spec_code (coded⊎ group_code (coded_list coded_ℕ)))) joining_parts joining_from joining_back

abbrev pub merge_code : Coded Merge
merge_code =
    code_by (Joining × List Stage) (coded× joining_code stages_code) (λ m. (m.joining, m.stages)) (λ p. record { joining = p.0; stages = p.1 }) (λ m. refl)
