-- A statement under a router's own number is of one request.
use Rattle.reply_facts.proofs.Freshness.{sent}
use Rattle.reply_facts.proofs.Requests.{own_entry}
use Rattle.reply_laws.proofs.laws.own_entry.Goals as goal

pub returns-clause-sent : goal.returns-clause-sent
returns-clause-sent c account e one i =
    let s = sent account one e i in
    (s.request, s.taken, s.sends)

pub returns-clause-alone : goal.returns-clause-alone
returns-clause-alone c a b e sends own other = own_entry a b e sends own other
