use Rattle.std.proofs.Common.{◌≡◌, vec_len}
use Rattle.cluster_main.proofs.locks.lock_journals.Given as goal

-- a file for each node that was visited
abbrev pub invariant-loop-node : goal.invariant-loop-node
invariant-loop-node g l = vec_len l.files ≡ l.node
