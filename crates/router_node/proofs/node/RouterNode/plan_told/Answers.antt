use Rattle.std.proofs.Common.{Global, ◌≡◌, ◌≢◌, sym, subst, List, map}
use Rattle.std.specs.Prelude.{Option, IfSome}
use Rattle.std.specs.declared.vec.Vec.{Vec}
use Rattle.command_replies.specs.Kinds.{kind_view}
use Rattle.node_model.specs.RouterNext as nexts
use Rattle.node_model.specs.RouterRequests as requested
use Rattle.node_traits.specs.Ids.{id_view}
use Rattle.protocol_model.specs.Statements.{done_view}
use Rattle.protocol_model.specs.declared.statement.StatementOutcome.{StatementOutcome}
use Rattle.router_requests.specs.Works.{open_view, statements_of, write_course}
use Rattle.write_runs.specs.Runs.{answers_view}
use Rattle.router_node.specs.RouterStates.{router_of}
use Rattle.router_node.proofs.Heard.{heard_late}
use Rattle.router_node.proofs.Fates.{dones_no_news}
use Rattle.router_node.proofs.node.RouterNode.plan_told.Goals as goal

pub returns-in-None : goal.returns-in-None
returns-in-None c = λ m is late.
    let n = c.args.self.now in
    let r = router_of n in
    let q = open_view n.me.0 n.life c.args.request.now in
    let write = c.args.write.now in
    let dones = map done_view c.args.dones.now in
    heard_late r m c.late.result c.args.time.0 late c.late.ensures
    (dones_no_news r m (id_view c.args.id) q dones (kind_view write.kind) write.ordered (statements_of (requested.id_of r q.count) write) (write_course write)
    c.requires.open is c.requires.work
    (subst (λ (l : List (Option StatementOutcome)). nexts.noted write.ordered (answers_view l) dones ≡ answers_view l) c.deref.ensures.value (c.in_ok-noted.ensures.none c.in-None.is)))

pub returns-in-Some : goal.returns-in-Some
returns-in-Some c = λ m is late.
    let write = c.args.write.now in
    let dones = map done_view c.args.dones.now in
    let before = answers_view c.deref.result.now in
    let news = subst (λ (o : Option (Vec (Option StatementOutcome) Global)). IfSome o (λ list. answers_view list.items ≡ nexts.noted write.ordered before dones)) c.in-Some.is c.in_ok-noted.ensures.news in
    let more = subst (λ (o : Option (Vec (Option StatementOutcome) Global)). IfSome o (λ list. nexts.noted write.ordered before dones ≢ before)) c.in-Some.is c.in_ok-noted.ensures.changed in
    c.plan_noted.ensures m late (record {
      dones = dones;
      opened = c.requires.open;
      body = is;
      work = c.requires.work;
      are = subst (λ (l : List (Option StatementOutcome)). nexts.noted write.ordered (answers_view l) dones ≡ answers_view c.in-Some.noted.items) c.deref.ensures.value (sym news);
      news = subst (λ (l : List (Option StatementOutcome)). nexts.noted write.ordered (answers_view l) dones ≢ answers_view l) c.deref.ensures.value more;
    })
