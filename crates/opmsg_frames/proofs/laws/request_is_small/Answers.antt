use Rattle.opmsg_frames.proofs.SmallRequests.{request_small}
use Rattle.opmsg_frames.proofs.laws.request_is_small.Goals as goal

pub returns : goal.returns
returns c = request_small
