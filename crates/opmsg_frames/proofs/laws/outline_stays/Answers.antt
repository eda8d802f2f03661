use Rattle.opmsg_frames.proofs.Stays.{fault_stays, prefix_is_partial, whole_stays}
use Rattle.opmsg_frames.proofs.laws.outline_stays.Goals as goal

pub returns-clause-whole : goal.returns-clause-whole
returns-clause-whole c = whole_stays

pub returns-clause-faulty : goal.returns-clause-faulty
returns-clause-faulty c = fault_stays

pub returns-clause-partial : goal.returns-clause-partial
returns-clause-partial c = prefix_is_partial
