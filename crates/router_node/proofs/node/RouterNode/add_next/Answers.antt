use Rattle.std.proofs.Common.{refl, sym, subst}
use Rattle.std.specs.Prelude.{OnOk}
use Rattle.command_model.specs.Answers.{Answer}
use Rattle.node_model.specs.RouterNext as nexts
use Rattle.router_requests.specs.Nexts.{next_view}
use Rattle.router_requests.specs.Works.{open_view}
use Rattle.router_requests.specs.declared.next.Next.{Next}
use Rattle.router_node.specs.AllNext.{Adds}
use Rattle.router_node.specs.RouterStates.{router_of}
use Rattle.router_node.proofs.node.RouterNode.add_next.Goals as goal

pub returns-in-Stays : goal.returns-in-Stays
returns-in-Stays c =
    let n = c.args.self.now in
    let q = open_view n.me.0 n.life c.args.request.now in
    subst (λ (x : Next). OnOk c.add_stay.result (Adds q (next_view (router_of n) c.args.time.0 q x) c.args.all.now c.add_stay.new.all)) (sym c.in-Stays.is) (c.add_stay.ensures q)

pub returns-in-IsTold : goal.returns-in-IsTold
returns-in-IsTold c =
    let n = c.args.self.now in
    let q = open_view n.me.0 n.life c.args.request.now in
    subst (λ (x : Next). OnOk c.add_told.result (Adds q (next_view (router_of n) c.args.time.0 q x) c.args.all.now c.add_told.new.all)) (sym c.in-IsTold.is) (c.add_told.ensures c.args.time.0)

pub returns-in_ok-answer-in-IsEmpty : goal.returns-in_ok-answer-in-IsEmpty
returns-in_ok-answer-in-IsEmpty c =
    let n = c.args.self.now in
    let r = router_of n in
    let q = open_view n.me.0 n.life c.args.request.now in
    subst (λ (x : Next). OnOk c.add_told-in-IsEmpty.result (Adds q (next_view r c.args.time.0 q x) c.args.all.now c.add_told-in-IsEmpty.new.all)) (sym c.in-IsEmpty.is)
    (subst (λ (a : Answer). OnOk c.add_told-in-IsEmpty.result (Adds q (nexts.is_told (nexts.reply_to r c.args.time.0 q a)) c.args.all.now c.add_told-in-IsEmpty.new.all)) (c.in_ok-answer-in-IsEmpty.ensures q refl)
    (c.add_told-in-IsEmpty.ensures c.args.time.0))

pub returns-in_ok-answer-in-IsSharded : goal.returns-in_ok-answer-in-IsSharded
returns-in_ok-answer-in-IsSharded c =
    let n = c.args.self.now in
    let r = router_of n in
    let q = open_view n.me.0 n.life c.args.request.now in
    subst (λ (x : Next). OnOk c.add_told-in-IsSharded.result (Adds q (next_view r c.args.time.0 q x) c.args.all.now c.add_told-in-IsSharded.new.all)) (sym c.in-IsSharded.is)
    (subst (λ (a : Answer). OnOk c.add_told-in-IsSharded.result (Adds q (nexts.is_told (nexts.reply_to r c.args.time.0 q a)) c.args.all.now c.add_told-in-IsSharded.new.all)) c.in_ok-answer-in-IsSharded.ensures
    (c.add_told-in-IsSharded.ensures c.args.time.0))
