use Rattle.cluster_main.proofs.status.serve.Goals as goal

pub returns-clause-unreadable : goal.returns-clause-unreadable
returns-clause-unreadable g c = rw c.told.ensures c.status_of-stopped.ensures.unreadable

pub returns-clause-no_memory : goal.returns-clause-no_memory
returns-clause-no_memory g c = rw c.told.ensures c.status_of-stopped.ensures.no_memory

pub returns-clause-words : goal.returns-clause-words
returns-clause-words g c = rw c.told.ensures c.status_of-stopped.ensures.words

pub returns-clause-untouched : goal.returns-clause-untouched
returns-clause-untouched g c = rw c.told.ensures c.status_of-stopped.ensures.untouched

pub returns-clause-read_fault : goal.returns-clause-read_fault
returns-clause-read_fault g c = rw c.told.ensures c.status_of-stopped.ensures.read_fault

pub returns-clause-write_fault : goal.returns-clause-write_fault
returns-clause-write_fault g c = rw c.told.ensures c.status_of-stopped.ensures.write_fault

pub returns-clause-disks : goal.returns-clause-disks
returns-clause-disks g c = rw c.told.ensures c.status_of-stopped.ensures.disks

pub returns-clause-accept_fault : goal.returns-clause-accept_fault
returns-clause-accept_fault g c = rw c.told.ensures c.status_of-stopped.ensures.accept_fault

pub returns-clause-served : goal.returns-clause-served
returns-clause-served g c = rw c.told.ensures c.status_of-stopped.ensures.served
