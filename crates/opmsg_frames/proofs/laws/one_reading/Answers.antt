use Rattle.opmsg_frames.proofs.OneReading as once
use Rattle.opmsg_frames.proofs.laws.one_reading.Goals as goal

pub returns-clause-requests : goal.returns-clause-requests
returns-clause-requests c = λ bytes rest more requests others fault other are a b.
    (once.one_reading 0 bytes requests others rest more fault other are a b).requests_are

pub returns-clause-rest : goal.returns-clause-rest
returns-clause-rest c = λ bytes rest more requests others fault other are a b.
    (once.one_reading 0 bytes requests others rest more fault other are a b).rest_is

pub returns-clause-fault : goal.returns-clause-fault
returns-clause-fault c = λ bytes rest more requests others fault other are a b.
    (once.one_reading 0 bytes requests others rest more fault other are a b).fault_is
