use Rattle.std.proofs.Common.{◌≡◌}
use Rattle.bson_values.specs.View.{datum_of}
use Rattle.command_model.specs.Checks.{is_one_of}
use Rattle.command_model.specs.Fields.{names_of}
use Rattle.command_words.proofs.Sequences.{given_by_get}
use Rattle.command_words.proofs.forms.check_first.Goals as goal

pub returns : goal.returns
returns g c =
    let given : is_one_of c.args.first.now.identifier (names_of c.args.document.now) ≡ c.is_some-given.result = given_by_get (λ v. datum_of v.now) c.get.result c.is_some-given.result c.args.first.now.identifier c.args.document.now (rw c.as_str.ensures.text at c.get.ensures) c.is_some-given.ensures in
    rw given c.check_sequence.ensures
