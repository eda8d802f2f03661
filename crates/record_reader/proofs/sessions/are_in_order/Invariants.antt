use Rattle.std.proofs.Common.{◌≡◌, drop, map}
use Rattle.std.specs.Option.{option_map}
use Rattle.std.specs.Prelude.{None}
use Rattle.history_model.specs.Sessions.{sessions_rise}
use Rattle.statement_views.specs.Views.{session_record_view, session_view}
use Rattle.record_reader.proofs.sessions.are_in_order.Given as goal

abbrev pub invariant-loop-kept : goal.invariant-loop-kept
invariant-loop-kept l =
    sessions_rise (option_map session_view l.last) (map session_record_view (drop l.kept-index l.sessions)) ≡ sessions_rise None
    (map session_record_view l.sessions)
