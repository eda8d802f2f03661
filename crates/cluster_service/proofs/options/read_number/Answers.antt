use Rattle.cluster_service.proofs.Numbers.{parsed_none, parsed_some}
use Rattle.cluster_service.proofs.options.read_number.Goals as goal

pub returns-in-Ok : goal.returns-in-Ok
returns-in-Ok c = parsed_some c.args.word.now c.parse.result c.in-Ok.number c.in-Ok.is c.parse.ensures.value.0

pub returns-in-Err : goal.returns-in-Err
returns-in-Err c = parsed_none c.args.word.now c.parse.result _ c.in-Err.is c.parse.ensures.value.0
