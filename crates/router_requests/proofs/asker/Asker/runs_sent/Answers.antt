use Rattle.command_replies.specs.Kinds.{given_view}
use Rattle.router_requests.proofs.asker.Asker.runs_sent.Goals as goal

pub returns-in-Some : goal.returns-in-Some
returns-in-Some c = λ id. rw c.in-Some.is (rw c.deref.ensures.value at (c.runs_by.ensures (given_view c.args.write.now.number) id))
