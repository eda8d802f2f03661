use mir.Syntax.{w64}
use Rattle.std.proofs.Common.{◌≡◌, refl, sym, ap, ◌∙◌, subst, length, map, true}
use Rattle.std.specs.Prelude.{Option, Some, None, is_some, ◌==◌}
use Rattle.std.specs.Arc.{arc_value}
use Rattle.std.proofs.lemmas.Int.{to_z-of_z}
use Rattle.std.proofs.lemmas.List.{length-map}
use Rattle.std.proofs.lemmas.Result.{err_from_is_err_and}
use Rattle.pipeline_model.specs.Batches.{IsBatch}
use Rattle.cursor_shelf.specs.Cursors.{OpenCursor}
use Rattle.cursor_shelf.specs.Shelves.{cursor_under}
use Rattle.cursor_shelf.proofs.Shelved.{found_never, memory_alone, same_test, same_under, the_same}
use Rattle.cursor_shelf.proofs.shelf.Shelf.next.Goals as goal

pub returns-in_default-clause-not_found : goal.returns-in_default-clause-not_found
returns-in_default-clause-not_found c =
    let none = same_under c.args.self.now _ c.args.id c.args.namespace.now _ (to_z-of_z w64 c.args.id c.ranges.id) c.in_default.ensures in (λ e. none, λ e. refl)

pub returns-in_err-documents-clause-not_found : goal.returns-in_err-documents-clause-not_found
returns-in_err-documents-clause-not_found c =
    let p = err_from_is_err_and c.from_residual.result c.from_residual.ensures.1 in
    let found = same_under c.args.self.now _ c.args.id c.args.namespace.now (Some c.in-Some.cursor.now) (to_z-of_z w64 c.args.id c.ranges.id) c.in-Some.ensures in
    (λ e. memory_alone c.from_residual.result p.0 p.1 p.2 e, λ none. found_never _ c.in-Some.cursor.now found none)

pub returns-clause-documents : goal.returns-clause-documents
returns-clause-documents c = λ d is.
    let found = same_under c.args.self.now _ c.args.id c.args.namespace.now (Some c.in-Some.cursor.now) (to_z-of_z w64 c.args.id c.ranges.id) c.in-Some.ensures in
    subst (λ (k : OpenCursor). IsBatch c.args.size k.remaining (map arc_value c.in_ok-documents.documents.items)) (the_same _ c.in-Some.cursor.now d found is) c.in_ok-documents.ensures

pub returns-clause-time : goal.returns-clause-time
returns-clause-time c = λ d is.
    let found = same_under c.args.self.now _ c.args.id c.args.namespace.now (Some c.in-Some.cursor.now) (to_z-of_z w64 c.args.id c.ranges.id) c.in-Some.ensures in
    c.time.ensures ∙ ap (λ (k : OpenCursor). k.time) (the_same _ c.in-Some.cursor.now d found is)

pub returns-clause-found : goal.returns-clause-found
returns-clause-found c =
    ap (λ (o : Option OpenCursor). is_some o) (same_under c.args.self.now _ c.args.id c.args.namespace.now (Some c.in-Some.cursor.now) (to_z-of_z w64 c.args.id c.ranges.id) c.in-Some.ensures)

pub returns-clause-not_found : goal.returns-clause-not_found
returns-clause-not_found c =
    let found = same_under c.args.self.now _ c.args.id c.args.namespace.now (Some c.in-Some.cursor.now) (to_z-of_z w64 c.args.id c.ranges.id) c.in-Some.ensures in
    (λ e. absurd cc, λ none. found_never _ c.in-Some.cursor.now found none)

pub returns-clause-last : goal.returns-clause-last
returns-clause-last c = λ d is.
    let found = same_under c.args.self.now _ c.args.id c.args.namespace.now (Some c.in-Some.cursor.now) (to_z-of_z w64 c.args.id c.ranges.id) c.in-Some.ensures in
    same_test c.count.result c.len.result (length d.remaining) (length (map arc_value c.in_ok-documents.documents.items))
    (c.count.ensures ∙ ap (λ (k : OpenCursor). length k.remaining) (the_same _ c.in-Some.cursor.now d found is))
    (c.len.ensures ∙ c.in_ok-documents.documents.ok.0 ∙ sym (length-map c.in_ok-documents.documents.items arc_value))
