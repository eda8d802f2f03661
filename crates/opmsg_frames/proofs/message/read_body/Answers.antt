use Rattle.std.proofs.Common.{refl}
use Rattle.opmsg_model.specs.Requests.{read_body}
use Rattle.opmsg_frames.proofs.Bodies.{told}
use Rattle.opmsg_frames.proofs.message.read_body.Goals as goal

pub returns-in-Ok : goal.returns-in-Ok
returns-in-Ok c = λ sections split each one. (read_body c.in-Ok.doc c.in-Ok.sequences, refl, c.in-Ok.ensures sections split each one)

pub returns-in-Err : goal.returns-in-Err
returns-in-Err c = λ sections split each one. told sections c.faulty_body.result c.in-Err.fault c.faulty_body.ensures (c.in-Err.ensures sections split each one)
