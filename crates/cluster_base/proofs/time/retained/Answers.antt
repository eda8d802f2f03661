use Rattle.std.proofs.Common.{rules, ◌≡◌, ℕ, ◌+◌, ◌-◌, ◌*◌, ◌<◌, ◌≤◌, length, ◌/◌, ◌%◌, Bool, true, false, nat_eq, nat_lt, List, [], ◌∷◌, ◌++◌, slice_index_or, slice_set, bit_and, bit_or, Fits, w8, w32, w64, Bor, MutBor}
use Rattle.base_model.specs.Times.{time_of_moment, retained_at}
use Rattle.cluster_base.proofs.time.retained.Goals as goal

-- src/time.rt:25:1
pub returns : goal.returns
returns c = search rules
