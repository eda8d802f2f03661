use Rattle.record_parts.proofs.Documents.{key_fits}
use Rattle.record_parts.proofs.parts.read_key.Goals as goal

pub returns-clause-fits : goal.returns-clause-fits
returns-clause-fits c = key_fits c.in_ok-document.document c.in_ok-key.key c.in_ok-key.ensures.key c.in_ok-document.ensures.fits
