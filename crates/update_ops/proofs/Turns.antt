-- Edits one after the other, and faults that later steps pass on.
use Rattle.std.proofs.Common.{◌≡◌, ℕ, ◌<◌, ◌+◌, List, length, get_or, drop, refl, sym, ap, ◌∙◌}
use Rattle.std.specs.Prelude.{Result, Ok, Err}
use Rattle.bson_model.specs.Tree.{Fields}
use Rattle.query_model.specs.Edits.{WriteFault, ◌>>=◌, edited, edited_by}
use Rattle.field_paths.proofs.FieldLists.{next_one}
use Rattle.update_ops.specs.declared.change.PathEdit.{PathEdit}
use Rattle.update_ops.specs.declared.fault.ApplyFault.{ApplyFault}
use Rattle.update_ops.specs.declared.fault.ApplyFault.TheVariants.{Duplicate, Immutable, Overflow, TooLarge, NotNumber, NotDocument, Memory}
use Rattle.update_ops.specs.ApplyFaults.{Fails}
use Rattle.update_ops.specs.View.{edit_of, edits_of}

pub passes_on : {A B : Type 0} (e : ApplyFault) (r : Result A WriteFault) (s : Result B WriteFault) →
    ((f : WriteFault) → r ≡ Err f → s ≡ Err f) → Fails e r → Fails e s
passes_on Duplicate r s on h = on _ h
passes_on Immutable r s on h = on _ h
passes_on Overflow r s on h = on _ h
passes_on TooLarge r s on h = on _ h
passes_on NotNumber r s on h = on _ h
passes_on NotDocument r s on h = on _ h
passes_on Memory r s on h = tt

-- a step after one that failed
pub fails_first : {A B : Type 0} (r : Result A WriteFault) (step : A → Result B WriteFault) (f : WriteFault) → r ≡ Err f → (r >>= step) ≡ Err f
fails_first r step f h = rw h refl

pub edit_goes_on : (es : List PathEdit) (i : ℕ) (e : PathEdit) (before after : Fields) (whole : Result Fields WriteFault) → i < length es → e ≡ get_or es i e →
    edited e.path.items (edit_of e.edit) before ≡ Ok after → edited_by (edits_of (drop i es)) before ≡ whole →
    edited_by (edits_of (drop (i + 1) es)) after ≡ whole
edit_goes_on es i e before after whole less is done so_far =
    let rest = edits_of (drop (i + 1) es) in
    sym (ap (λ (x : Result Fields WriteFault). x >>= edited_by rest) done)
    ∙ ap (λ (x : List PathEdit). edited_by (edits_of x) before) (sym (next_one es i e less is))
    ∙ so_far

pub edit_fails : (es : List PathEdit) (i : ℕ) (e : PathEdit) (before : Fields) (whole : Result Fields WriteFault) (f : WriteFault) → i < length es →
    e ≡ get_or es i e → edited_by (edits_of (drop i es)) before ≡ whole → edited e.path.items (edit_of e.edit) before ≡ Err f → whole ≡ Err f
edit_fails es i e before whole f less is so_far failed =
    sym so_far
    ∙ ap (λ (x : List PathEdit). edited_by (edits_of x) before) (next_one es i e less is)
    ∙ fails_first (edited e.path.items (edit_of e.edit) before) (edited_by (edits_of (drop (i + 1) es))) f failed
