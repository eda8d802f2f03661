use Rattle.std.proofs.Common.{◌≡◌, ◌++◌, length}
use denote.Text.{Utf8}
use denote.Shadow.{shadow}
use Rattle.query_model.specs.Paths.{parts_of}
use Rattle.field_paths.proofs.path.split.Given as goal

abbrev pub invariant-parts : goal.invariant-parts
invariant-parts l = record {
  text : shadow (Utf8 l.rest);
  whole : l.parts.items ++ parts_of l.rest ≡ parts_of l.name;
}

abbrev pub decreases-parts : goal.decreases-parts
decreases-parts l = length l.rest
