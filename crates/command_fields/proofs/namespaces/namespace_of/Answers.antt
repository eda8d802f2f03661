use Rattle.std.proofs.Common.{◌≡◌, refl, sym, true, false, ◌∙◌, ap, Err}
use Rattle.base_model.specs.Names.{is_reserved}
use Rattle.base_model.proofs.OpenNames.{no_namespace, open_namespace, reserved_namespace}
use Rattle.command_fields.proofs.namespaces.namespace_of.Goals as goal

pub returns-then-is_reserved_database : goal.returns-then-is_reserved_database
returns-then-is_reserved_database c =
    let reserved : is_reserved c.args.database.now ≡ true = sym c.is_reserved_database.ensures ∙ c.if-is_reserved_database.true in
    rw (reserved_namespace c.args.database.now c.args.collection.now reserved) refl

pub returns-in-Ok : goal.returns-in-Ok
returns-in-Ok c =
    let open_to : is_reserved c.args.database.now ≡ false = sym c.is_reserved_database.ensures ∙ c.if-is_reserved_database.false in
    (rw (open_namespace c.args.database.now c.args.collection.now c.in-Ok.ensures.ok.1 open_to) refl, c.in-Ok.ensures.ok.0)

pub returns-in-Err-Form : goal.returns-in-Err-Form
returns-in-Err-Form c = rw (no_namespace c.args.database.now c.args.collection.now (c.of_parts.ensures.form.0 (c.in-Err-Form.is ∙ ap Err c.in-Err-Form.field-0-is))) refl
