-- Entries are later than what their routers knew.
use Rattle.reply_facts.proofs.Freshness.{comes_later}
use Rattle.reply_laws.proofs.laws.writes_come_later.Goals as goal

pub returns : goal.returns
returns c account e one i = comes_later account one e i
