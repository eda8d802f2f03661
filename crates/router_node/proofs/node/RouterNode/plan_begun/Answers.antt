use Rattle.std.proofs.Common.{ap, sym, subst, ◌∙◌, List, [], map}
use Rattle.node_model.specs.RouterNext as nexts
use Rattle.node_model.specs.RouterRequests as requested
use Rattle.node_model.specs.RouterRows.{opened_request}
use Rattle.node_model.specs.States as states
use Rattle.protocol_model.specs.Heads.{head_request}
use Rattle.protocol_model.specs.Messages.{letter_of}
use Rattle.read_parts.specs.Parts.{target_view}
use Rattle.read_parts.specs.declared.parts.Target.{Target}
use Rattle.router_requests.specs.Fates.{runs_in}
use Rattle.router_requests.specs.Nexts.{write_next}
use Rattle.router_requests.specs.Works.{wait_view, work_view}
use Rattle.router_requests.specs.declared.writes.WriteNext.{WriteNext}
use Rattle.write_runs.specs.Runs.{runs_view}
use Rattle.router_node.specs.Begins.{Begins}
use Rattle.router_node.specs.RouterStates.{router_of}
use Rattle.router_node.specs.Rows.{started}
use Rattle.router_node.proofs.node.RouterNode.plan_begun.Goals as goal

pub returns-in-GoesOn : goal.returns-in-GoesOn
returns-in-GoesOn c = λ needed is begun.
    let n = c.args.self.now in
    let r = router_of n in
    let id = requested.id_of r c.args.count in
    let link = c.args.asked.link in
    let number = c.args.asked.number in
    let request = head_request c.args.asked.head in
    let namespace = c.args.namespace in
    let q = opened_request (started r) link number request namespace needed in
    let s = c.in-GoesOn.sends in
    c.plan_waits.ensures needed
    (subst (λ (ts : List states.Target). Begins r link number request namespace needed (nexts.stays (nexts.with_work q (wait_view s.wait) ts (work_view id c.with_runs-work.result)) (map letter_of s.mail.items)))
    (sym (ap (λ (ts : List Target). map target_view ts) c.new-targets.ensures.items))
    (subst (λ (w : states.Work). Begins r link number request namespace needed (nexts.stays (nexts.with_work q (wait_view s.wait) [] w) (map letter_of s.mail.items)))
    (ap (λ (w : states.Work). runs_in w (runs_view s.runs.items)) is ∙ sym (c.with_runs-work.ensures id))
    (subst (λ (x : WriteNext). Begins r link number request namespace needed (write_next (started r) r.time q needed x)) c.in-GoesOn.is begun)))

pub returns-in-IsWritten : goal.returns-in-IsWritten
returns-in-IsWritten c = λ needed is begun.
    let n = c.args.self.now in
    let r = router_of n in
    let request = head_request c.args.asked.head in
    let q = opened_request (started r) c.args.asked.link c.args.asked.number request c.args.namespace needed in
    c.plan_done.ensures c.args.namespace needed
    (subst (λ (x : WriteNext). Begins r c.args.asked.link c.args.asked.number request c.args.namespace needed (write_next (started r) r.time q needed x)) c.in-IsWritten.is begun)
