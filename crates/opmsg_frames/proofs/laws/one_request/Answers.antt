use Rattle.opmsg_frames.proofs.OneRequest as once
use Rattle.opmsg_frames.proofs.laws.one_request.Goals as goal

pub returns : goal.returns
returns c = once.one_request
