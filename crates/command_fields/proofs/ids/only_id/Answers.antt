use Rattle.std.proofs.Common.{◌≡◌, None, subst, arith}
use Rattle.bson_model.specs.Tree.{Fields}
use Rattle.command_model.specs.AdminCommands.{only_id}
use Rattle.command_fields.proofs.OnlyIds.{some_fields}
use Rattle.command_fields.proofs.ids.only_id.Goals as goal

pub returns-in-len2-up : goal.returns-in-len2-up
returns-in-len2-up c = subst (λ (ms : Fields). None ≡ only_id ms) c.fields.ensures.fields (some_fields c.fields.result.now (omega (arith, c.in-len2-up.len_at_least)))
