-- A time that is shown is that of an entry, or else the router's.
use Rattle.reply_facts.proofs.Freshness.{not_earlier, later_told}
use Rattle.reply_laws.proofs.laws.later_writes_tell_later.Goals as goal

pub returns-clause-not_earlier : goal.returns-clause-not_earlier
returns-clause-not_earlier c account a s t write before now one told w asks none shows shown =
    not_earlier account one a s t write before now told w asks none shows shown

pub returns-clause-later : goal.returns-clause-later
returns-clause-later c account a s t write dones before now one told w none tells says any shows shown =
    later_told account one a s t write dones before now told w none tells says any shows shown
