use Rattle.std.proofs.Common.{append_assoc}
use Rattle.std.specs.Int.{w32}
use Rattle.std.proofs.lemmas.Int.{to_z-of_z}
use Rattle.opmsg_frames.proofs.reply.put_query_head.Goals as goal

pub returns-clause-ok : goal.returns-clause-ok
returns-clause-ok c =
    rw (c.in_ok-extend_from_slice.ensures.items, c.in_ok-put_header.ensures.ok, to_z-of_z w32 c.args.number c.ranges.number, to_z-of_z w32 c.args.id c.ranges.id)
    (append_assoc c.args.out.now.items _ _)
