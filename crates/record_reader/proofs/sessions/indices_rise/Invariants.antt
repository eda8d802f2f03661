use Rattle.std.proofs.Common.{◌≡◌, drop, map}
use Rattle.std.specs.Prelude.{None}
use Rattle.history_model.specs.Sessions.{indices_rise}
use Rattle.statement_views.specs.Views.{statement_record_view}
use Rattle.record_reader.proofs.sessions.indices_rise.Given as goal

abbrev pub invariant-loop-kept : goal.invariant-loop-kept
invariant-loop-kept l = indices_rise l.last (map statement_record_view (drop l.kept-index l.statements)) ≡ indices_rise None
    (map statement_record_view l.statements)
