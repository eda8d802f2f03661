use Rattle.std.proofs.Common.{ap, sym, ◌∙◌, ℕ, List, [], ◌∷◌, true}
use Rattle.node_model.specs.Letters.{Letter, no_time, split_ask, table_ask}
use Rattle.node_model.specs.RouterRequests as requested
use Rattle.node_model.specs.RouterNext as nexts
use Rattle.node_model.specs.States as states
use Rattle.router_requests.specs.Askers.{asker_view}
use Rattle.router_requests.proofs.asker.Asker.begins_work.Goals as goal

pub returns-in_ok-begins_asking-in-Sharding : goal.returns-in_ok-begins_asking-in-Sharding
returns-in_ok-begins_asking-in-Sharding c = λ q same of untried.
    let r = asker_view c.args.self in
    rw c.in-Sharding.is
    (ap (λ (n : List ℕ). nexts.stays (nexts.with_work q states.for_catalogue [] states.sharding) (requested.says r 0 c.args.time.0 (table_ask n true no_time) ∷ [])) of
    ∙ ap (λ (m : Letter). nexts.stays (nexts.with_work q states.for_catalogue [] states.sharding) (m ∷ [])) (sym c.in_ok-letter-in-Sharding.ensures)
    ∙ c.in_ok-begins_asking-in-Sharding.ensures q states.sharding)

pub returns-in_ok-begins_asking-in-Splitting : goal.returns-in_ok-begins_asking-in-Splitting
returns-in_ok-begins_asking-in-Splitting c = λ q same of untried.
    let r = asker_view c.args.self in
    let middle = c.in-Splitting.middle in
    rw c.in-Splitting.is
    (ap (λ (n : ℕ). nexts.stays (nexts.with_work q states.for_catalogue [] (states.splitting middle)) (requested.says r 0 c.args.time.0 (split_ask (requested.id_of r n) q.namespace middle) ∷ [])) same
    ∙ ap (λ (n : List ℕ). nexts.stays (nexts.with_work q states.for_catalogue [] (states.splitting middle)) (requested.says r 0 c.args.time.0 (split_ask (requested.id_of r c.args.count) n middle) ∷ [])) of
    ∙ ap (λ (m : Letter). nexts.stays (nexts.with_work q states.for_catalogue [] (states.splitting middle)) (m ∷ [])) (sym c.in_ok-letter-in-Splitting.ensures)
    ∙ c.in_ok-begins_asking-in-Splitting.ensures q (states.splitting middle))
