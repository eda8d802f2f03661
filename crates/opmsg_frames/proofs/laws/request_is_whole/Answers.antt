use Rattle.std.proofs.Common.{length}
use Rattle.opmsg_frames.proofs.Stays.{whole_stays}
use Rattle.opmsg_frames.proofs.SpelledOutlines.{spelled_outline}
use Rattle.opmsg_frames.proofs.laws.request_is_whole.Goals as goal

pub returns : goal.returns
returns c = λ request more is. whole_stays request.bytes more (length request.bytes) (spelled_outline request is)
