use Rattle.std.proofs.Common.{ap, refl, sym, subst, List, [], map}
use Rattle.command_model.specs.Answers.{Answer}
use Rattle.node_model.specs.Letters.{Letter, letter_input}
use Rattle.node_model.specs.RouterNext as nexts
use Rattle.node_model.specs.RouterRequests as requested
use Rattle.node_traits.specs.Ids.{id_view}
use Rattle.node_traits.specs.declared.outputs.ToLink.{ToLink}
use Rattle.protocol_model.specs.Messages.{letter_of}
use Rattle.protocol_model.specs.declared.message.Message.{Message}
use Rattle.router_requests.specs.Fates.{stay_of}
use Rattle.router_requests.specs.Nexts.{next_view}
use Rattle.router_requests.specs.Works.{open_view}
use Rattle.router_requests.specs.declared.next.Next.{Next}
use Rattle.router_node.specs.Goings.{MayGo}
use Rattle.router_node.specs.RouterStates.{router_of}
use Rattle.router_node.specs.StepPlans.{Hears}
use Rattle.router_node.specs.declared.step_plan.Change.TheVariants.{Goes}
use Rattle.router_node.proofs.Heard.{found, goes_so, heard_by}
use Rattle.router_node.proofs.Refused.{goes_stays}
use Rattle.router_node.proofs.node.RouterNode.plan_goes.Goals as goal

pub returns-in_ok-mail-in-Stays : goal.returns-in_ok-mail-in-Stays
returns-in_ok-mail-in-Stays c = λ m late may.
    let n = c.args.self.now in
    let r = router_of n in
    let q = open_view n.me.0 n.life c.args.request.now in
    let id = id_view c.args.id in
    let time = c.args.time.0 in
    let stay = c.in-Stays.stay in
    let letters = map letter_of c.in-Stays.mail.items in
    let change = Goes c.args.id.count stay in
    heard_by r m c.hears_all.result time late change letters []
    (subst (λ (ls : List Letter). Hears r time change ls [] c.hears_all.result) (ap (λ (ms : List Message). map letter_of ms) c.in_ok-mail-in-Stays.ensures)
    (subst (λ (rs : List ToLink). Hears r time change (map letter_of c.in_ok-mail-in-Stays.mail) rs c.hears_all.result) c.new-replies.ensures c.hears_all.ensures))
    ((λ e. e), q, found r id q c.requires.open)
    (goes_so r id q c.requires.open (letter_input m) letters [] (requested.heard r m) stay
    (goes_stays r m q (stay_of q stay) letters (subst (λ (x : Next). MayGo r m q (next_view r time q x)) c.in-Stays.is may)))

pub returns-in-IsTold : goal.returns-in-IsTold
returns-in-IsTold c = λ m late may.
    let n = c.args.self.now in
    let r = router_of n in
    let q = open_view n.me.0 n.life c.args.request.now in
    c.plan_closes.ensures m late (subst (λ (x : Next). MayGo r m q (next_view r c.args.time.0 q x)) c.in-IsTold.is may)

pub returns-in_ok-answer-in-IsEmpty : goal.returns-in_ok-answer-in-IsEmpty
returns-in_ok-answer-in-IsEmpty c = λ m late may.
    let n = c.args.self.now in
    let r = router_of n in
    let q = open_view n.me.0 n.life c.args.request.now in
    let time = c.args.time.0 in
    c.plan_closes-in-IsEmpty.ensures m late
    (subst (λ (a : Answer). MayGo r m q (nexts.is_told (nexts.reply_to r time q a))) (sym (c.in_ok-answer-in-IsEmpty.ensures q refl))
    (subst (λ (x : Next). MayGo r m q (next_view r time q x)) c.in-IsEmpty.is may))

pub returns-in_ok-answer-in-IsSharded : goal.returns-in_ok-answer-in-IsSharded
returns-in_ok-answer-in-IsSharded c = λ m late may.
    let n = c.args.self.now in
    let r = router_of n in
    let q = open_view n.me.0 n.life c.args.request.now in
    let time = c.args.time.0 in
    c.plan_closes-in-IsSharded.ensures m late
    (subst (λ (a : Answer). MayGo r m q (nexts.is_told (nexts.reply_to r time q a))) (sym c.in_ok-answer-in-IsSharded.ensures)
    (subst (λ (x : Next). MayGo r m q (next_view r time q x)) c.in-IsSharded.is may))
