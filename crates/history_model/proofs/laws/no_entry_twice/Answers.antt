-- Each entry follows all before it.
use Rattle.history_model.proofs.LegalHistories.{times_rise, not_before_itself, no_statement_twice}
use Rattle.history_model.proofs.laws.no_entry_twice.Goals as goal

pub returns-clause-rises : goal.returns-clause-rises
returns-clause-rises c = times_rise

pub returns-clause-never_equal : goal.returns-clause-never_equal
returns-clause-never_equal c = not_before_itself

pub returns-clause-once : goal.returns-clause-once
returns-clause-once c = no_statement_twice
