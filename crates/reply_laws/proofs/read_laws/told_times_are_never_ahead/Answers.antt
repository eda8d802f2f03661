-- What is ahead is ahead of each entry whose time was returned.
use Rattle.reply_facts.proofs.Freshness.{never_ahead_of_told}
use Rattle.reply_laws.proofs.read_laws.told_times_are_never_ahead.Goals as goal

pub returns : goal.returns
returns c account a s t write index e reading greatest one told i before writes j numbered shows nothing asks wants says =
    never_ahead_of_told account one a s t write index e reading greatest told i before writes j numbered shows nothing asks wants says
