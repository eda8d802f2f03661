use Rattle.std.proofs.Common.{append_assoc}
use Rattle.std.specs.Int.{w32}
use Rattle.std.proofs.lemmas.Int.{to_z-of_z}
use Rattle.opmsg_frames.proofs.reply.put_header.Goals as goal

pub returns-clause-ok : goal.returns-clause-ok
returns-clause-ok c =
    rw (c.in_ok-put_opcode.ensures.ok, c.in_ok-put_length.ensures.ok, to_z-of_z w32 c.args.id c.ranges.id, to_z-of_z w32 c.args.answers c.ranges.answers)
    (append_assoc c.args.out.now.items _ _)
