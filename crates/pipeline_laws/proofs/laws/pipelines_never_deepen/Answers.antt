use Rattle.pipeline_laws.proofs.PlainConstants.{read_plain}
use Rattle.pipeline_laws.proofs.RunDepths.{run_fits}
use Rattle.pipeline_laws.proofs.laws.pipelines_never_deepen.Goals as goal

pub returns-clause-depth : goal.returns-clause-depth
returns-clause-depth c = run_fits

pub returns-clause-read : goal.returns-clause-read
returns-clause-read c = read_plain
