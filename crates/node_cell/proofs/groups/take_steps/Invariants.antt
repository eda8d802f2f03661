use Rattle.std.proofs.Common.{Some}
use Rattle.node_cell.specs.Views.{given_by}
use Rattle.node_cell.proofs.groups.take_steps.Given as goal

-- the steps that were just taken
abbrev pub ghosts-place : goal.ghosts-place
ghosts-place g a = record { step = Some (given_by g.L.Log.facts a.at a.parts.now a.seat.now) }
