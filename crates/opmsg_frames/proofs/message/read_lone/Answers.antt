use Rattle.std.proofs.Common.{refl, inl, [], ◌∷◌}
use Rattle.opmsg_model.specs.Requests.{read_body}
use Rattle.opmsg_model.specs.Sections.{body_section}
use Rattle.opmsg_frames.proofs.Bodies.{told}
use Rattle.opmsg_frames.proofs.message.read_lone.Goals as goal

pub returns-in-Ok : goal.returns-in-Ok
returns-in-Ok c = λ stated. (read_body c.in-Ok.doc [], rw c.new.ensures refl, (c.in-Ok.doc, [], refl, c.in-Ok.ensures.kept stated, (refl, refl)))

pub returns-in-Err : goal.returns-in-Err
returns-in-Err c = λ stated.
    told (body_section c.args.bytes.now ∷ []) c.faulty_body.result c.in-Err.fault c.faulty_body.ensures (λ known. let h = c.in-Err.ensures.kept stated known in (h.0, h.1, h.2, inl h.3))
