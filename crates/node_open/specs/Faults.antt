-- What a fault of an opening says.
use Rattle.journal_replay.specs.declared.fault.OpenFault.{OpenFault}
use Rattle.journal_replay.specs.declared.fault.OpenFault.TheVariants.{Refused, Memory}

-- what holds where a record is refused
abbrev pub IfRefused : OpenFault → Type 0 → Type 0
IfRefused (Refused index) refused = refused
IfRefused Memory refused = Unit {0}
