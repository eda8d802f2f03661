use Rattle.opmsg_frames.proofs.StatedDocuments.{named, unnamed}
use Rattle.opmsg_frames.proofs.sections.is_sequence.Goals as goal

pub returns-in-Some : goal.returns-in-Some
returns-in-Some c =
    named c.args.content.now c.in-Some.field-0-0.now c.in-Some.documents.now c.are_documents.result c.in-Some.ensures.parts c.in-Some.ensures.shorter c.are_documents.ensures

pub returns-in-None : goal.returns-in-None
returns-in-None c = unnamed c.args.content.now c.in-None.ensures.parts
