-- The answer to a write, one part at a time.
use Rattle.std.proofs.Common.{◌≡◌, List, [], ◌∷◌, refl, ◌∙◌, ap, codes}
use Rattle.bson_model.specs.Tree.{Fields, no_fields, field, joined}
use Rattle.command_model.specs.AnswerParts.{count, ok, operation_time_at}
use Rattle.command_model.specs.Writes.{WriteKind, insert_kind, update_kind, delete_kind, WriteError, Upserted, WriteSummary, changes_shown, upserted_shown, write_document, write_errors_shown}
use Rattle.command_replies.specs.Upserts.{changes_alone}

joined_behind : (a b c : Fields) → joined (joined a b) c ≡ joined a (joined b c)
joined_behind no_fields b c = refl
joined_behind (field name d a) b c = ap (λ (rest : Fields). field name d rest) (joined_behind a b c)

errors_before : (errors : List WriteError) (more : Fields) → joined (write_errors_shown errors no_fields) more ≡ write_errors_shown errors more
errors_before [] more = refl
errors_before (e ∷ errors) more = refl

upserted_before : (upserted : List Upserted) (more : Fields) → joined (upserted_shown upserted no_fields) more ≡ upserted_shown upserted more
upserted_before [] more = refl
upserted_before (u ∷ upserted) more = refl

changes_before : (kind : WriteKind) (told : WriteSummary) (more : Fields) → joined (changes_shown kind (changes_alone told.modified told.upserted) no_fields) more ≡ changes_shown kind told more
changes_before insert_kind told more = refl
changes_before update_kind told more = ap (λ (rest : Fields). field (codes "nModified") (count told.modified) rest) (upserted_before told.upserted more)
changes_before delete_kind told more = refl

-- the count, the changes, the errors and the end, one after the other
pub parts_of_write : (kind : WriteKind) (told : WriteSummary) →
    joined (joined (joined (field (codes "n") (count told.count) no_fields) (changes_shown kind (changes_alone told.modified told.upserted) no_fields)) (write_errors_shown told.errors no_fields)) (ok (operation_time_at told.time))
    ≡ write_document kind told
parts_of_write kind told =
    let end : Fields = ok (operation_time_at told.time) in
    let changes : Fields = changes_shown kind (changes_alone told.modified told.upserted) no_fields in
    ap (λ (rest : Fields). field (codes "n") (count told.count) rest)
    (joined_behind changes (write_errors_shown told.errors no_fields) end
    ∙ ap (λ (rest : Fields). joined changes rest) (errors_before told.errors end)
    ∙ changes_before kind told (write_errors_shown told.errors end))
