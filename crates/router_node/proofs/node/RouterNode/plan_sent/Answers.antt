use Rattle.std.proofs.Common.{ap, sym, subst, ◌∙◌, List, [], map}
use Rattle.node_model.specs.Letters.{Letter, letter_input}
use Rattle.node_model.specs.RouterNext.{stays, with_work}
use Rattle.node_model.specs.RouterRequests as requested
use Rattle.node_model.specs.States.{Work}
use Rattle.node_traits.specs.Ids.{id_view}
use Rattle.node_traits.specs.declared.outputs.ToLink.{ToLink}
use Rattle.protocol_model.specs.Messages.{letter_of}
use Rattle.protocol_model.specs.declared.message.Message.{Message}
use Rattle.router_requests.specs.Fates.{answers_in, stay_of}
use Rattle.router_requests.specs.Works.{open_view, wait_view}
use Rattle.router_requests.specs.declared.fates.Stay.TheVariants.{Answers}
use Rattle.write_runs.specs.Runs.{answers_view, runs_view}
use Rattle.router_node.specs.RouterStates.{router_of}
use Rattle.router_node.specs.StepPlans.{Hears}
use Rattle.router_node.specs.declared.step_plan.Change.TheVariants.{Goes}
use Rattle.router_node.proofs.Heard.{found, goes_so, heard_by}
use Rattle.router_node.proofs.Fates.{news_sent}
use Rattle.router_node.proofs.node.RouterNode.plan_sent.Goals as goal

pub returns : goal.returns
returns c = λ m late news is.
    let n = c.args.self.now in
    let r = router_of n in
    let q = open_view n.me.0 n.life c.args.request.now in
    let id = id_view c.args.id in
    let write = c.args.write.now in
    let time = c.args.time.0 in
    let s = c.args.sends in
    let letters = map letter_of s.mail.items in
    let stay = Answers s.wait c.args.noted s.runs in
    let change = Goes c.args.id.count stay in
    heard_by r m c.hears_all.result time late change letters []
    (subst (λ (ls : List Letter). Hears r time change ls [] c.hears_all.result) (ap (λ (ms : List Message). map letter_of ms) c.in_ok-mail.ensures)
    (subst (λ (rs : List ToLink). Hears r time change (map letter_of c.in_ok-mail.mail) rs c.hears_all.result) c.new-replies.ensures c.hears_all.ensures))
    ((λ e. e), q, found r id q news.opened)
    (goes_so r id q news.opened (letter_input m) letters [] (requested.heard r m) stay
    (news_sent r m id q write c.args.noted.items news time late (stay_of q stay) letters (is
    ∙ ap (λ (w : Work). stays (with_work q (wait_view s.wait) [] (answers_in w (answers_view c.args.noted.items) (runs_view s.runs.items))) letters) (sym news.work))))
