-- Both return the outcome of the one entry of the number.
use Rattle.reply_facts.proofs.Freshness.{told_again}
use Rattle.reply_laws.proofs.laws.retries_are_told_the_same.Goals as goal

pub returns : goal.returns
returns c account a b s t write again by first second d e before now outcome other one told also own own_again i j at is was =
    told_again account one a b s t write again by first second d e before now outcome other told also own own_again i j at is was
