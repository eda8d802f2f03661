use Rattle.std.proofs.Common.{◌∙◌, arith}
use Rattle.opmsg_frames.proofs.framer.Framer.take_message.Goals as goal

pub returns : goal.returns
returns c =
    let read = c.in-Ok.ensures in
    let cut = c.in-Ok-freeze_to.ensures in
    let kept = c.let_go.ensures in (
      c.requires.fault,
      (
        read.0,
        record {
          meant_is = c.with_bytes.ensures read.0 read.1 (rw (cut.front, ← c.as_slice.ensures) read.3);
          first = rw (kept.bytes, ← c.self.view_is, cut.rest.0, ← c.as_slice.ensures) read.2;
          offset = rw (kept.offset, ← c.self.view_is, read.4) (omega arith);
          fault = kept.fault ∙ rw (← c.self.view_is) at c.requires.fault;
        },
      ),
    )
