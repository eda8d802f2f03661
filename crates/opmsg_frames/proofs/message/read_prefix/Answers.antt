use Rattle.opmsg_frames.proofs.WholeMessages.{first_read, is_whole, prefix_stated, prefix_code}
use Rattle.opmsg_frames.proofs.message.read_prefix.Goals as goal

pub read_message-requires-clause-stated : goal.read_message-requires-clause-stated
read_message-requires-clause-stated c = rw c.split_at.ensures.front (prefix_stated c.args.count c.args.bytes.now (is_whole c.args.count c.args.bytes.now c.requires))

pub read_message-requires-clause-opcode : goal.read_message-requires-clause-opcode
read_message-requires-clause-opcode c = rw c.split_at.ensures.front (prefix_code c.args.count c.args.bytes.now (is_whole c.args.count c.args.bytes.now c.requires))

pub read_message-requires-clause-sound : goal.read_message-requires-clause-sound
read_message-requires-clause-sound c = rw c.split_at.ensures.front (is_whole c.args.count c.args.bytes.now c.requires).sound

pub returns : goal.returns
returns c = first_read c.args.count c.args.bytes.now _ _ c.requires c.split_at.ensures.front c.read_message.ensures
