use Rattle.std.proofs.Common.{refl, arith}
use Rattle.std.proofs.lemmas.Str.Pattern.{split_once_first}
use Rattle.command_fields.proofs.FullNames.{cut_read, no_dot}
use Rattle.command_fields.proofs.namespaces.open_name.Goals as goal

pub returns-in-Some : goal.returns-in-Some
returns-in-Some c =
    let cut = rw c.in-Some.is at (split_once_first 46 c.args.name.now c.split_once.result c.split_once.ensures.cases (omega arith)) in
    cut_read c.args.name.now c.in-Some.database.now c.in-Some.collection.now c.namespace_of.result cut.1 cut.2 cut.0 c.namespace_of.ensures

pub returns-in-None : goal.returns-in-None
returns-in-None c =
    let uncut = rw c.in-None.is at (split_once_first 46 c.args.name.now c.split_once.result c.split_once.ensures.cases (omega arith)) in
    rw (no_dot c.args.name.now uncut) refl
