-- No document is looked at.
use Rattle.std.proofs.Common.{refl}
use Rattle.std.specs.Prelude.{false}
use Rattle.base_model.specs.Refusals.{no_document_at}
use Rattle.reply_model.specs.Right.{right_legacy, right_refusal}
use Rattle.reply_laws.proofs.examples.without_documents.Goals as goal

pub returns-clause-greeting : goal.returns-clause-greeting
returns-clause-greeting c = right_legacy (record { shows_hello_ok = false }) refl refl

pub returns-clause-refused : goal.returns-clause-refused
returns-clause-refused c fault place = right_refusal (no_document_at place) refl refl
