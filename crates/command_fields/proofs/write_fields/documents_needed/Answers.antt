use Rattle.std.proofs.Common.{◌≡◌, true, sym, ◌∙◌, ap}
use Rattle.std.specs.Option.{is_some}
use Rattle.command_model.specs.Writes.{documents_in}
use Rattle.command_fields.proofs.Copied.{documents_counted}
use Rattle.command_fields.proofs.write_fields.documents_needed.Goals as goal

pub returns-then-are_documents : goal.returns-then-are_documents
returns-then-are_documents c =
    let all : is_some (documents_in c.in-Array.array) ≡ true = ap (λ ds. is_some (documents_in ds)) (sym c.values-values.ensures.values) ∙ sym c.are_documents.ensures ∙ c.if-are_documents.true in
    rw c.in-Array.is (rw (documents_counted c.in-Array.array all, ← c.len.ensures) c.check_count.ensures)
