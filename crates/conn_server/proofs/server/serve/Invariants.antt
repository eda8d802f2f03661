use Rattle.conn_server.proofs.server.serve.Given as goal

-- the table that was just made
abbrev pub ghosts-serve_named : goal.ghosts-serve_named
ghosts-serve_named g a = record { table = a.numbers.table.shared.table_id; routers = a.numbers.routers }
