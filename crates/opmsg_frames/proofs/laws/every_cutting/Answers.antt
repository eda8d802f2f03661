use Rattle.opmsg_frames.proofs.Cuttings as cut
use Rattle.opmsg_frames.proofs.laws.every_cutting.Goals as goal

pub returns-clause-prefix : goal.returns-clause-prefix
returns-clause-prefix c = cut.a_prefix

pub returns-clause-all : goal.returns-clause-all
returns-clause-all c = cut.all_given

pub returns-clause-fault : goal.returns-clause-fault
returns-clause-fault c = cut.fault_told

pub returns-clause-again : goal.returns-clause-again
returns-clause-again c = cut.again
