use Rattle.std.proofs.Common.{[], refl}
use Rattle.opmsg_model.specs.Frames.{ends, fails}
use Rattle.opmsg_model.specs.Outline.{bad_length}
use Rattle.opmsg_model.proofs.examples.placed.Goals as goal

pub returns-clause-first : goal.returns-clause-first
returns-clause-first c = fails 0 _ bad_length refl

pub returns-clause-nothing : goal.returns-clause-nothing
returns-clause-nothing c = ends 0 [] refl
