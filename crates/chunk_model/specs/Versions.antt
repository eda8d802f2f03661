-- Versions of chunks and of whole tables (MongoDB manual, "Sharded Cluster Balancer", chunk and shard versions): which collection of
-- its name, how many moves, how many splits.
use Rattle.std.specs.Prelude.{ℕ, Bool, ◌==◌, ◌&&◌, ◌||◌, nat_lt, if◌then◌else◌}

pub record Version : Type 0 where
  pub epoch : ℕ
  pub major : ℕ
  pub minor : ℕ

-- they agree in which keys each shard has: splits leave these
abbrev pub agrees : Version → Version → Bool
agrees a b = (a.epoch == b.epoch) && (a.major == b.major)

-- the first is the later one: a later collection of the name, or more moves
abbrev pub is_later : Version → Version → Bool
is_later a b = nat_lt b.epoch a.epoch || ((a.epoch == b.epoch) && nat_lt b.major a.major)

-- the greater of two, and of equal ones the greater minor number
abbrev pub is_greater : Version → Version → Bool
is_greater a b = is_later a b || (agrees a b && nat_lt b.minor a.minor)

abbrev pub greater : Version → Version → Version
greater a b = if is_greater b a then b else a

-- below every version of a chunk of this collection
abbrev pub no_chunk : ℕ → Version
no_chunk epoch = record { epoch = epoch; major = 0; minor = 0 }
