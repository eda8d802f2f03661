use Rattle.std.proofs.Common.{◌≡◌, sym, subst, List}
use Rattle.std.specs.Prelude.{Option}
use Rattle.command_replies.specs.AnswerMeanings.{answer_view}
use Rattle.node_model.specs.RouterNext as nexts
use Rattle.node_model.specs.RouterRequests as requested
use Rattle.node_traits.specs.Ids.{id_view}
use Rattle.protocol_model.specs.declared.statement.StatementOutcome.{StatementOutcome}
use Rattle.router_requests.specs.Nexts.{write_next}
use Rattle.router_requests.specs.Works.{open_view, work_of}
use Rattle.router_requests.specs.declared.writes.WriteNext.{WriteNext}
use Rattle.write_runs.specs.Runs.{course_view}
use Rattle.router_node.specs.News.{IsNews, next_noted}
use Rattle.router_node.specs.RouterStates.{router_of}
use Rattle.router_node.proofs.node.RouterNode.plan_noted.Goals as goal

pub returns-in-IsWritten : goal.returns-in-IsWritten
returns-in-IsWritten c = λ m late news.
    let n = c.args.self.now in
    let r = router_of n in
    let q = open_view n.me.0 n.life c.args.request.now in
    let write = c.args.write.now in
    let time = c.args.time.0 in
    let id = requested.id_of r q.count in
    let next = subst (λ (l : List (Option StatementOutcome)). next_noted r time q write l ≡ write_next r time q (work_of id write (course_view l write.tries.items write.runs.items)) c.in_ok-next.next) c.deref.ensures.value c.in_ok-next.ensures in
    let told = subst (λ (x : WriteNext). next_noted r time q write c.args.noted.items ≡ write_next r time q (work_of id write (course_view c.args.noted.items write.tries.items write.runs.items)) x) c.in-IsWritten.is next in
    c.plan_written.ensures m late
    (subst (λ (l : List (Option StatementOutcome)). IsNews r m (id_view c.args.id) q write l) (sym c.deref-in-IsWritten.ensures.value) news)
    (subst (λ (l : List (Option StatementOutcome)). next_noted r time q write l ≡ nexts.is_told (nexts.reply_to r time q (answer_view c.in-IsWritten.answer))) (sym c.deref-in-IsWritten.ensures.value) told)

pub returns-in-GoesOn : goal.returns-in-GoesOn
returns-in-GoesOn c = λ m late news.
    let n = c.args.self.now in
    let r = router_of n in
    let q = open_view n.me.0 n.life c.args.request.now in
    let write = c.args.write.now in
    let time = c.args.time.0 in
    let id = requested.id_of r q.count in
    let next = subst (λ (l : List (Option StatementOutcome)). next_noted r time q write l ≡ write_next r time q (work_of id write (course_view l write.tries.items write.runs.items)) c.in_ok-next.next) c.deref.ensures.value c.in_ok-next.ensures in
    c.plan_sent.ensures m late news
    (subst (λ (x : WriteNext). next_noted r time q write c.args.noted.items ≡ write_next r time q (work_of id write (course_view c.args.noted.items write.tries.items write.runs.items)) x) c.in-GoesOn.is next)
