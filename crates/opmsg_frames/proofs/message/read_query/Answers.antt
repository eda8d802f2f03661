use Rattle.std.proofs.Common.{arith, refl}
use Rattle.bson_model.specs.Faults.{short_fault}
use Rattle.opmsg_model.specs.Messages.{number_at}
use Rattle.opmsg_model.specs.Requests.{faulty_body}
use Rattle.opmsg_frames.proofs.Bodies.{signed_back}
use Rattle.opmsg_frames.proofs.Bytes.{number_fits}
use Rattle.opmsg_frames.proofs.Queries.{is_sound}
use Rattle.opmsg_frames.proofs.message.read_query.Goals as goal

pub returns : goal.returns
returns c =
    let m = is_sound c.args.bytes.now (λ i. omega (arith, c.type_inv.bytes i)) c.requires.least c.requires.most c.requires.stated c.requires.opcode c.requires.sound in
    let b = rw c.split_at.ensures.back at (c.in_ok-body.ensures (rw c.split_at.ensures.back (m (faulty_body short_fault 0)).stated)) in
    (_, record { id = signed_back (number_at 4 c.args.bytes.now) c.request_id.result (number_fits 4 c.args.bytes.now (λ i. omega (arith, c.type_inv.bytes i))) c.request_id.ensures; more = refl; form = refl; body = b.1 }, refl, (_, m b.0, b.2))
