use mir.Syntax.{w64}
use mir.Val.{SFits}
use Rattle.std.proofs.Common.{◌≡◌, refl, ap, sym, subst, ◌∙◌, ℤ, ◌+◌, List, rules}
use Rattle.std.proofs.lemmas.Int.{to_z-of_z}
use Rattle.node_model.specs.RouterRequests.{id_of}
use Rattle.router_cursors.specs.CursorLists.{advanced, closed_all, cursors_of}
use Rattle.router_node.specs.RouterStates.{router_of}
use Rattle.router_node.specs.StepPlans.{FollowsBy, changed}
use Rattle.router_node.proofs.Changed.{becomes, opens_gains, opens_goes, opens_reaches, opens_told}
use Rattle.router_node.specs.declared.step_plan.Change.{Change}
use Rattle.router_node.proofs.node.RouterNode.change.Goals as goal

pub returns-in-Told-clause-state : goal.returns-in-Told-clause-state
returns-in-Told-clause-state c =
    let r = router_of c.args.self.now in
    let follows = subst (λ (x : Change). FollowsBy r c.args.begun x) c.in-Told.is c.requires.follows in
    becomes r.me r.shards c.args.time.0 r.life c.args.begun c.args.moment _ _ _ _ _ _ _ _ _ _ _ _ c.hear.ensures.taken refl
    (c.hear.ensures.opens r.me r.life follows.1 follows.2 ∙ opens_told r c.args.time.0 c.in-Told.count follows.1 follows.2 c.in-Told.told) refl refl refl
    ∙ ap (λ (x : Change). changed r c.args.time.0 c.args.begun c.args.moment x) (sym c.in-Told.is)

pub returns-in-Gains-clause-state : goal.returns-in-Gains-clause-state
returns-in-Gains-clause-state c =
    let r = router_of c.args.self.now in
    let follows = subst (λ (x : Change). FollowsBy r c.args.begun x) c.in-Gains.is c.requires.follows in
    becomes r.me r.shards c.args.time.0 r.life c.args.begun c.args.moment _ _ _ _ _ _ _ _ _ _ _ _ c.note_part.ensures.taken refl
    (c.note_part.ensures.opens r.me r.life follows.1 follows.2 ∙ opens_gains r c.args.time.0 c.in-Gains.count follows.1 follows.2 c.in-Gains.shard c.in-Gains.rows) refl refl refl
    ∙ ap (λ (x : Change). changed r c.args.time.0 c.args.begun c.args.moment x) (sym c.in-Gains.is)

pub returns-in-Reaches-clause-state : goal.returns-in-Reaches-clause-state
returns-in-Reaches-clause-state c =
    let r = router_of c.args.self.now in
    let follows = subst (λ (x : Change). FollowsBy r c.args.begun x) c.in-Reaches.is c.requires.follows in
    becomes r.me r.shards c.args.time.0 r.life c.args.begun c.args.moment _ _ _ _ _ _ _ _ _ _ _ _ c.reach.ensures.taken refl
    (c.reach.ensures.opens r.me r.life follows.1 follows.2 ∙ opens_reaches r c.args.time.0 c.in-Reaches.count follows.1 follows.2 c.in-Reaches.wait c.in-Reaches.targets) refl refl refl
    ∙ ap (λ (x : Change). changed r c.args.time.0 c.args.begun c.args.moment x) (sym c.in-Reaches.is)

pub returns-in-Goes-clause-state : goal.returns-in-Goes-clause-state
returns-in-Goes-clause-state c =
    let r = router_of c.args.self.now in
    let follows = subst (λ (x : Change). FollowsBy r c.args.begun x) c.in-Goes.is c.requires.follows in
    becomes r.me r.shards c.args.time.0 r.life c.args.begun c.args.moment _ _ _ _ _ _ _ _ _ _ _ _ c.stay.ensures.taken refl
    (c.stay.ensures.opens r.me r.life follows.1 follows.2 ∙ opens_goes r c.args.time.0 c.in-Goes.count follows.1 follows.2 c.in-Goes.stay) refl refl refl
    ∙ ap (λ (x : Change). changed r c.args.time.0 c.args.begun c.args.moment x) (sym c.in-Goes.is)

pub returns-in-Learns-clause-state : goal.returns-in-Learns-clause-state
returns-in-Learns-clause-state c =
    let r = router_of c.args.self.now in
    becomes r.me r.shards c.args.time.0 r.life c.args.begun c.args.moment _ _ _ _ _ _ _ _ _ _ _ _ c.learn.ensures.taken c.learn.ensures.tables (c.learn.ensures.opens r.me r.life) refl refl refl
    ∙ ap (λ (x : Change). changed r c.args.time.0 c.args.begun c.args.moment x) (sym c.in-Learns.is)

pub returns-in-Shelves-clause-state : goal.returns-in-Shelves-clause-state
returns-in-Shelves-clause-state c =
    let r = router_of c.args.self.now in
    becomes r.me r.shards c.args.time.0 r.life c.args.begun c.args.moment _ _ _ _ _ _ _ _ _ _ _ _ c.remove-in-Shelves.ensures.taken refl (c.remove-in-Shelves.ensures.opens r.me r.life) (c.«open».ensures.cursors r.me r.life) c.«open».ensures.blocks c.«open».ensures.gave
    ∙ ap (λ (x : Change). changed r c.args.time.0 c.args.begun c.args.moment x) (sym c.in-Shelves.is)

pub returns-in-Advances-clause-state : goal.returns-in-Advances-clause-state
returns-in-Advances-clause-state c =
    let r = router_of c.args.self.now in
    let fits : SFits w64 c.in-Advances.number = search rules in
    becomes r.me r.shards c.args.time.0 r.life c.args.begun c.args.moment _ _ _ _ _ _ _ _ _ _ _ _ c.count_one-in-Advances.ensures.taken refl (c.count_one-in-Advances.ensures.opens r.me r.life)
    (subst (λ (i : ℤ). cursors_of r.me r.life c.advance.new.self ≡ advanced (id_of r (r.count + 1)) i c.in-Advances.count r.cursors) (to_z-of_z w64 c.in-Advances.number fits)
    (c.advance.ensures.cursors r.me r.life (r.count + 1))) c.advance.ensures.blocks c.advance.ensures.gave
    ∙ ap (λ (x : Change). changed r c.args.time.0 c.args.begun c.args.moment x) (sym c.in-Advances.is)

pub returns-in-Ends-clause-state : goal.returns-in-Ends-clause-state
returns-in-Ends-clause-state c =
    let r = router_of c.args.self.now in
    becomes r.me r.shards c.args.time.0 r.life c.args.begun c.args.moment _ _ _ _ _ _ _ _ _ _ _ _ c.count_one-in-Ends.ensures.taken refl (c.count_one-in-Ends.ensures.opens r.me r.life)
    (subst (λ (ns : List ℤ). cursors_of r.me r.life c.close.new.self ≡ closed_all (id_of r (r.count + 1)) ns r.cursors) c.deref.ensures.value
    (c.close.ensures.cursors r.me r.life (r.count + 1))) c.close.ensures.blocks c.close.ensures.gave
    ∙ ap (λ (x : Change). changed r c.args.time.0 c.args.begun c.args.moment x) (sym c.in-Ends.is)
