use Rattle.std.proofs.Common.{arith, refl, sym, ◌∙◌}
use Rattle.bson_model.specs.Faults.{short_fault}
use Rattle.opmsg_model.specs.Requests.{faulty_body}
use Rattle.opmsg_model.specs.Messages.{number_at}
use Rattle.opmsg_frames.proofs.Bodies.{signed_back}
use Rattle.opmsg_frames.proofs.Bytes.{number_fits}
use Rattle.opmsg_frames.proofs.Msgs.{is_msg}
use Rattle.opmsg_frames.proofs.message.read_msg.Goals as goal

pub returns : goal.returns
returns c =
    let m = is_msg c.args.bytes.now (λ i. omega (arith, c.type_inv.bytes i)) c.requires.least c.requires.most c.requires.stated c.requires.opcode c.requires.sound in
    let b = c.in_ok-body.ensures m.0 (c.split_at.ensures.back ∙ m.1) (m.2 (faulty_body short_fault 0)).each (m.2 (faulty_body short_fault 0)).one in
    (_, record { id = signed_back (number_at 4 c.args.bytes.now) c.request_id.result (number_fits 4 c.args.bytes.now (λ i. omega (arith, c.type_inv.bytes i))) c.request_id.ensures; more = sym c.is_more.ensures; form = refl; body = b.1 }, refl, (m.0, m.2 b.0, b.2))
