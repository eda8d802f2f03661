-- Commands whose statements are still in their request.
use Rattle.std.specs.Prelude.{◌≡◌, ℕ, List, map, Bool, Option, Result, Ok, Err}
use Rattle.bson_model.specs.Tree.{Fields}
use Rattle.base_model.specs.Errors.{ErrorCode}
use Rattle.cluster_base.specs.Codes.{meaning_of}
use Rattle.command_model.specs.Forms.{Sequences}
use Rattle.command_model.specs.Statements.{check_statements}
use Rattle.command_model.specs.Writes.{ClientNumber, WriteKind, documents_asked, or_documents, statement_form}
use Rattle.command_replies.specs.Kinds.{given_view, kind_view}
use Rattle.command_model.specs.Command as model
use Rattle.command_words.specs.Commands.{command_view}
use Rattle.command_words.specs.declared.draft.Draft.{Draft}
use Rattle.command_words.specs.declared.draft.Draft.TheVariants.{Whole, Write}
use Rattle.command_fields.specs.declared.fault.CheckFault.{CheckFault}
use Rattle.command_fields.specs.declared.fault.CheckFault.TheVariants.{Refused, Memory}

-- the write of these statements, unless one of them is refused
abbrev pub judged : WriteKind → List ℕ → Bool → Option ClientNumber → List Fields → Result model.Command ErrorCode
judged kind namespace ordered number statements =
    model.by_verdict (check_statements (statement_form kind) statements)
    (model.write_command (record {
      kind = kind;
      namespace = namespace;
      operations = map (statement_form kind).operation statements;
      ordered = ordered;
      number = number;
    }))

-- the program returns what the checks return, except that the statements of a write are still to be added and checked
abbrev pub Drafts : Fields → Sequences → Result Draft CheckFault → Result model.Command ErrorCode → Type 0
Drafts document sequences (Ok (Whole command)) told = told ≡ Ok (command_view command)
Drafts document sequences (Ok (Write draft)) told =
    told ≡ judged (kind_view draft.kind) draft.namespace draft.ordered (given_view draft.number)
    (or_documents (documents_asked (statement_form (kind_view draft.kind)) document sequences))
Drafts document sequences (Err (Refused code)) told = told ≡ Err (meaning_of code)
Drafts document sequences (Err Memory) told = Unit {0}
