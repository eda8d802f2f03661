use Rattle.conn_server.proofs.workers.serve_all.Given as goal

-- the acceptor that was passed
abbrev pub ghosts-serve_lent : goal.ghosts-serve_lent
ghosts-serve_lent g a = record { name = a.acceptor.ghost_name; faults = g.A.Acceptor.fault_count a.acceptor.now }
