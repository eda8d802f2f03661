-- Edits sorted by their paths, and listed again.
use Rattle.std.proofs.Common.{◌≡◌, List, [], ◌∷◌, ◌++◌, refl, sym, ap, ◌∙◌, append_assoc, Ordering, Less, Equal, Greater}
use Rattle.std.specs.BTreeMap.{insert_entry}
use Rattle.std.specs.Ordering.{match_ordering}
use Rattle.std.proofs.lemmas.List.{map-append}
use Rattle.query_model.specs.Paths.{Path}
use Rattle.query_model.specs.Changes as changes
use Rattle.query_model.specs.Changes.{path_order, put_among}
use Rattle.update_ops.specs.declared.change.Edit.{Edit}
use Rattle.update_ops.specs.declared.change.PathEdit.{PathEdit}
use Rattle.update_ops.specs.View.{edit_of, edits_of, entries_of, path_edit_of}

at_first : (o : Ordering) (e : Path × Edit) (es rest : List (Path × Edit)) (k : Path) (v : Edit) → entries_of rest ≡ insert_entry path_order (entries_of es) k (edit_of v) →
    entries_of (match_ordering o ((k, v) ∷ e ∷ es) ((e.0, v) ∷ es) (e ∷ rest))
    ≡ match_ordering o ((k, edit_of v) ∷ (e.0, edit_of e.1) ∷ entries_of es) ((e.0, edit_of v) ∷ entries_of es) ((e.0, edit_of e.1) ∷ insert_entry path_order (entries_of es) k (edit_of v))
at_first Less e es rest k v h = refl
at_first Equal e es rest k v h = refl
at_first Greater e es rest k v h = ap (λ (xs : List (Path × changes.Edit)). (e.0, edit_of e.1) ∷ xs) h

pub entries_insert : (es : List (Path × Edit)) (k : Path) (v : Edit) →
    entries_of (insert_entry path_order es k v) ≡ insert_entry path_order (entries_of es) k (edit_of v)
entries_insert [] k v = refl
entries_insert (e ∷ es) k v = at_first (path_order k e.0) e es (insert_entry path_order es k v) k v (entries_insert es k v)

-- one more edit is inserted
pub sort_goes_on : (old now : List (Path × Edit)) (left rest : List PathEdit) (e : PathEdit) (whole : List (Path × changes.Edit)) → left ≡ e ∷ rest →
    now ≡ insert_entry path_order old e.path.items e.edit → put_among (entries_of old) (edits_of left) ≡ whole →
    put_among (entries_of now) (edits_of rest) ≡ whole
sort_goes_on old now left rest e whole first put so_far =
    ap (λ (x : List (Path × changes.Edit)). put_among x (edits_of rest)) (ap entries_of put ∙ entries_insert old e.path.items e.edit)
    ∙ ap (λ (x : List PathEdit). put_among (entries_of old) (edits_of x)) (sym first)
    ∙ so_far

-- one more edit is listed
pub list_goes_on : (es now : List PathEdit) (left rest : List (Path × Edit)) (k : Path) (v : Edit) (e : PathEdit) (whole : List (Path × changes.Edit)) →
    left ≡ (k, v) ∷ rest → now ≡ es ++ e ∷ [] → e.path.items ≡ k → e.edit ≡ v → edits_of es ++ entries_of left ≡ whole → edits_of now ++ entries_of rest ≡ whole
list_goes_on es now left rest k v e whole first put path edit so_far =
    let same : path_edit_of e ≡ (k, edit_of v) = λ i. (path i, edit_of (edit i)) in
    ap (λ (x : List PathEdit). edits_of x ++ entries_of rest) put
    ∙ ap (λ (x : List (Path × changes.Edit)). x ++ entries_of rest) (map-append path_edit_of es (e ∷ []))
    ∙ append_assoc (edits_of es) (path_edit_of e ∷ []) (entries_of rest)
    ∙ ap (λ (x : Path × changes.Edit). edits_of es ++ x ∷ entries_of rest) same
    ∙ ap (λ (x : List (Path × Edit)). edits_of es ++ entries_of x) (sym first)
    ∙ so_far
