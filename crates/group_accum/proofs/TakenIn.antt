-- A row is absorbed into the entries of groups.
use Rattle.std.proofs.Common.{◌≡◌, List, [], ◌∷◌, ◌++◌, map, Result, Ok, Err, refl, sym, ap, ◌∙◌, subst, append_assoc, append-nil}
use Rattle.std.specs.Prelude.{false, Some, None, OnOk}
use Rattle.std.specs.BTreeMap.{insert_entry, is_at}
use Rattle.std.specs.List.{list_any}
use Rattle.std.specs.Map.{lookup, set_value}
use Rattle.std.specs.declared.vec.Vec.{Vec}
use Rattle.std.proofs.lemmas.List.{map-append}
use Rattle.bson_model.specs.Tree.{Datum}
use Rattle.value_model.specs.Order.{order}
use Rattle.value_model.proofs.Spans.{same_value_equivalence}
use Rattle.pipeline_model.specs.GroupSpecs.{GroupSpec}
use Rattle.pipeline_model.specs.Groups as groups
use Rattle.pipeline_model.specs.Groups.{IsJoined, PartialRow, has_key}
use Rattle.pipeline_model.proofs.Absorbed.{absorb_row, empty_row}
use Rattle.pipeline_model.proofs.KeptRows.{known_row, new_row}
use Rattle.group_accum.specs.declared.absorb.Cell.{Cell}
use Rattle.group_accum.specs.Rows.{row_of, rows_of}
use Rattle.group_accum.specs.View.{cell_of}
use Rattle.group_accum.proofs.Entries.{found_in, gap_in, none_with}

-- a fact that follows from what a call that succeeds promises
pub on_ok : {V E : Type 0} (r : Result V E) (P Q : Type 0) → (P → Q) → OnOk r P → OnOk r Q
on_ok (Ok x) P Q f h = f h
on_ok (Err e) P Q f h = tt

module _ {Z : Type 0} (spec : GroupSpec) (sources : List PartialRow) (key : Datum) (cells : List groups.Cell) where
  pub taken_in : (entries : List (Datum × Vec Cell Z)) (v w : Vec Cell Z) → lookup (is_at (order key)) entries ≡ Some v →
      map cell_of w.items ≡ absorb_row spec.fields (map cell_of v.items) cells → IsJoined spec sources (rows_of entries) →
      IsJoined spec (sources ++ record { key = key; cells = cells } ∷ []) (rows_of (set_value (is_at (order key)) entries w))
  taken_in entries v w is absorbed joined =
      let f = found_in key entries v is in
      let before : IsJoined spec sources (rows_of f.front ++ row_of (f.kept, v) ∷ rows_of f.back) =
      subst (λ (l : List PartialRow). IsJoined spec sources l) (ap (λ (es : List (Datum × Vec Cell Z)). rows_of es) f.whole
      ∙ map-append row_of f.front ((f.kept, v) ∷ f.back)) joined in
      let after = known_row spec sources (record { key = key; cells = cells }) (rows_of f.front) (rows_of f.back) (row_of (f.kept, v)) (same_value_equivalence.symm f.kept key ∙ f.same) before in
      subst (λ (rows : List PartialRow). IsJoined spec (sources ++ record { key = key; cells = cells } ∷ []) rows)
      (sym (ap (λ (es : List (Datum × Vec Cell Z)). rows_of es) (f.put w) ∙ map-append row_of f.front ((f.kept, w) ∷ f.back)
      ∙ ap (λ (cs : List groups.Cell). rows_of f.front ++ record { key = f.kept; cells = cs } ∷ rows_of f.back) absorbed))
      after

  pub new_in : (entries : List (Datum × Vec Cell Z)) (w : Vec Cell Z) → lookup (is_at (order key)) entries ≡ None →
      map cell_of w.items ≡ absorb_row spec.fields (empty_row spec.fields) cells → IsJoined spec sources (rows_of entries) →
      IsJoined spec (sources ++ record { key = key; cells = cells } ∷ []) (rows_of (insert_entry order entries key w))
  new_in entries w none absorbed joined =
      let g = gap_in key entries w none in
      let apart : rows_of entries ≡ rows_of g.front ++ rows_of g.back =
      ap (λ (es : List (Datum × Vec Cell Z)). rows_of es) g.whole ∙ map-append row_of g.front g.back in
      let before : IsJoined spec sources (rows_of g.front ++ rows_of g.back) = subst (λ (l : List PartialRow). IsJoined spec sources l) apart joined in
      let away : list_any (has_key key) (rows_of g.front ++ rows_of g.back) ≡ false =
      subst (λ (l : List PartialRow). list_any (has_key key) l ≡ false) apart (none_with key entries none) in
      let after = new_row spec sources (record { key = key; cells = cells }) (rows_of g.front) (rows_of g.back) away before in
      subst (λ (rows : List PartialRow). IsJoined spec (sources ++ record { key = key; cells = cells } ∷ []) rows)
      (sym (ap (λ (es : List (Datum × Vec Cell Z)). rows_of es) g.put ∙ map-append row_of g.front ((key, w) ∷ g.back)
      ∙ ap (λ (cs : List groups.Cell). rows_of g.front ++ record { key = key; cells = cs } ∷ rows_of g.back) absorbed))
      after

-- the next of the rows that are joined
pub next_taken : (spec : GroupSpec) (before whole now left kept after : List PartialRow) (row : PartialRow) → now ≡ row ∷ left →
    ((rows : List PartialRow) → IsJoined spec rows kept → IsJoined spec (rows ++ row ∷ []) after) →
    (taken : List PartialRow) × (taken ++ now ≡ whole) × IsJoined spec (before ++ taken) kept →
    (taken : List PartialRow) × (taken ++ left ≡ whole) × IsJoined spec (before ++ taken) after
next_taken spec before whole now left kept after row is takes h = (
  h.0 ++ row ∷ [],
  append_assoc h.0 (row ∷ []) left ∙ ap (λ (l : List PartialRow). h.0 ++ l) (sym is) ∙ h.1,
  subst (λ (l : List PartialRow). IsJoined spec l after) (append_assoc before h.0 (row ∷ [])) (takes (before ++ h.0) h.2),
)

-- none is absorbed yet
pub none_taken : (spec : GroupSpec) (before whole kept : List PartialRow) → IsJoined spec before kept →
    (taken : List PartialRow) × (taken ++ whole ≡ whole) × IsJoined spec (before ++ taken) kept
none_taken spec before whole kept joined = ([], refl, subst (λ (l : List PartialRow). IsJoined spec l kept) (sym (append-nil before)) joined)
