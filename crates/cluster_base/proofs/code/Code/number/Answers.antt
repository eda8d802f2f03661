use Rattle.std.proofs.Common.{rules, ◌≡◌, pos, ℕ, ◌+◌, ◌-◌, ◌*◌, ◌<◌, ◌≤◌, length, ◌/◌, ◌%◌, Bool, true, false, nat_eq, nat_lt, List, [], ◌∷◌, ◌++◌, slice_index_or, slice_set, bit_and, bit_or, Fits, w8, w32, w64, Bor, MutBor, ℤ, ◌+ℤ◌, ◌-ℤ◌, ◌*ℤ◌, ◌≤ℤ◌, ◌<ℤ◌, FitsSigned, to_z, of_z}
use Rattle.cluster_base.specs.Codes.{meaning_of}
use Rattle.cluster_base.proofs.code.Code.number.Goals as goal

-- src/code.rt:62:5
pub returns-in-StaleConfig : goal.returns-in-StaleConfig
returns-in-StaleConfig c = search rules
