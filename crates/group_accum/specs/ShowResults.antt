-- What showing rows returns, by what the definitions show.
use Rattle.std.specs.Prelude.{◌≡◌, Result, Ok, Err, Option, Some, None}
use Rattle.group_accum.specs.declared.fault.GroupFault.{GroupFault}
use Rattle.group_accum.specs.declared.fault.GroupFault.TheVariants.{Overflow, Memory}

-- Unless memory runs out, the result of a function, seen by `view`, is what the definitions show; it is `Overflow` where they show nothing.
abbrev pub Shows : {X Y : Type 0} → (X → Y) → Result X GroupFault → Option Y → Type 0
Shows view (Ok x) shown = shown ≡ Some (view x)
Shows view (Err Overflow) shown = shown ≡ None
Shows view (Err Memory) shown = Unit {0}
