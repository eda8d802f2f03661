use Rattle.opmsg_model.specs.MessageSizes.{IsSmall}
use Rattle.opmsg_frames.proofs.OneBody.{all_append}
use Rattle.opmsg_frames.proofs.lists.DocList.push.Goals as goal

pub invariant_of-self-2 : goal.invariant_of-self-2
invariant_of-self-2 c = rw c.in_ok-push.ensures.items (all_append IsSmall _ _ c.self.invariant (c.requires.small, tt))
