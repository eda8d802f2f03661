use Rattle.opmsg_frames.proofs.Wholes.{is_whole}
use Rattle.opmsg_frames.proofs.SmallSpellings.{prefix_small}
use Rattle.opmsg_frames.proofs.documents.read_whole.Goals as goal

pub returns-clause-kept : goal.returns-clause-kept
returns-clause-kept c = λ stated. is_whole c.args.bytes.now _ c.in_ok-doc.doc stated c.in_ok-doc.ensures.found.0 c.in_ok-doc.ensures.found.1 c.in_ok-doc.ensures.found.2

pub returns-clause-small : goal.returns-clause-small
returns-clause-small c = λ short. prefix_small c.args.bytes.now _ c.in_ok-doc.doc short c.in_ok-doc.ensures.found.0 c.in_ok-doc.ensures.found.1 c.in_ok-doc.ensures.found.2
