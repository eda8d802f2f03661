use Rattle.std.proofs.Common.{◌≡◌, map, replicate, string_bytes, vec_len}
use Rattle.cluster_main.specs.Names.{journal_names}
use Rattle.cluster_main.proofs.journals.file_disks.Given as goal

-- each disk that was made is new
abbrev pub invariant-loop-node : goal.invariant-loop-node
invariant-loop-node g l = (vec_len l.disks ≡ l.node) × (map (λ d. d.faults) l.disks.items ≡ replicate l.node 0) × (map (λ d. string_bytes d.path) l.disks.items ≡ journal_names l.node)
