-- The program's times, by the definitions.
use Rattle.std.specs.Prelude.{ℕ, Option}
use Rattle.std.specs.Option.{option_map}
use Rattle.cluster_base.specs.declared.time.Time.{Time}

abbrev pub time_view : Option Time → Option ℕ
time_view time = option_map (λ (t : Time). t.0) time
