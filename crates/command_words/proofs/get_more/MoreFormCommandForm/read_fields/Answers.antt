use Rattle.std.proofs.Common.{◌∙◌, sym, Ok, Err, codes}
use Rattle.bson_model.specs.Tree.{get}
use Rattle.command_words.specs.Held.{IsCollection}
use Rattle.command_words.proofs.MoreRules.{more_behind, none_refused}
use Rattle.command_words.proofs.get_more.MoreFormCommandForm.read_fields.Goals as goal

pub returns-in-Some : goal.returns-in-Some
returns-in-Some c = λ own value others named is.
    sym (more_behind c.in_ok-collection.collection c.args.database.now c.args.document.now own value others c.in_ok-collection.ensures is) ∙ sym (c.in-Some.ensures own value others is)

pub returns-in-Ok : goal.returns-in-Ok
returns-in-Ok c =
    let read : IsCollection (Ok c.in-Ok.namespace) c.args.database.now (get (codes "collection") c.args.document.now) = rw c.in-Ok.is at c.in_ok-collection.ensures in
    λ own value others named is. (
      sym (more_behind c.in_ok-collection.collection c.args.database.now c.args.document.now own value others c.in_ok-collection.ensures is) ∙ sym (c.in_default.ensures own value others is),
      read,
    )

pub returns-in-Err : goal.returns-in-Err
returns-in-Err c =
    let read : IsCollection (Err c.in-Err.code) c.args.database.now (get (codes "collection") c.args.document.now) = rw c.in-Err.is at c.in_ok-collection.ensures in
    λ own value others named is.
    absurd
    (none_refused c.in-Err.code c.args.database.now c.args.document.now own value others read named is
    (sym (more_behind c.in_ok-collection.collection c.args.database.now c.args.document.now own value others c.in_ok-collection.ensures is) ∙ sym (c.in_default.ensures own value others is)))
