use Rattle.std.proofs.Common.{◌≡◌, ◌∙◌, sym, rules, Some, codes}
use Rattle.std.proofs.lemmas.Int.{to_z-of_z}
use mir.Syntax.{w64}
use mir.Val.{SFits}
use Rattle.bson_model.specs.Tree.{get}
use Rattle.bson_values.specs.View.{datum_of}
use Rattle.command_fields.proofs.Sessions.{number_is, sixteen_bytes}
use Rattle.command_fields.proofs.write_fields.client_number.Goals as goal

pub returns-in-Some : goal.returns-in-Some
returns-in-Some c = λ has needed.
    let got : get (codes "txnNumber") c.args.document.now ≡ Some (datum_of c.in-Some.value.now) = sym c.in-Some.ensures in
    let session = c.session_of.ensures (sixteen_bytes c.args.document.now (datum_of c.in-Some.value.now) has needed got) in
    let fits : SFits w64 c.whole_or_zero.result = search rules in
    number_is c.args.document.now (datum_of c.in-Some.value.now) c.session_of.result _ got session (to_z-of_z w64 c.whole_or_zero.result fits ∙ c.whole_or_zero.ensures)
