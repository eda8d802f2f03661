-- The runs of a list that grows.
use Rattle.std.proofs.Common.{◌≡◌, ap, ◌∙◌, List, ◌++◌}
use Rattle.std.proofs.lemmas.List.{map-append}
use Rattle.write_runs.specs.Runs.{run_view, runs_view}
use Rattle.write_runs.specs.declared.run.Run.{Run}

pub views_appended : (old more new : List Run) → new ≡ old ++ more → runs_view new ≡ runs_view old ++ runs_view more
views_appended old more new is = ap (λ (l : List Run). runs_view l) is ∙ map-append run_view old more
