use Rattle.std.proofs.Common.{◌≡◌, ◌+◌, ◌≤◌, length}
use denote.Text.{Utf8}
use denote.Shadow.{shadow}
use Rattle.query_model.specs.Paths.{first_fault, parts_of}
use Rattle.field_paths.proofs.path.fault_of.Given as goal

abbrev pub invariant-parts : goal.invariant-parts
invariant-parts l = record {
  text : shadow (Utf8 l.rest);
  fault : first_fault (parts_of l.rest) ≡ first_fault (parts_of l.name);
  count : l.dots + length (parts_of l.rest) ≡ length (parts_of l.name);
  room : l.dots + length l.rest ≤ length l.name;
}

abbrev pub decreases-parts : goal.decreases-parts
decreases-parts l = length l.rest
