use Rattle.std.proofs.Common.{◌≡◌, ◌+◌, ap, rules, arith, length, length-append, ◌∙◌}
use Rattle.shard_node.proofs.Serving.{goes_no_more, none_goes, one_later, some_goes}
use Rattle.shard_node.proofs.node.ShardNode.serve_next.Goals as goal

pub returns-then-len-ge-MOST_SERVED-clause-goes : goal.returns-then-len-ge-MOST_SERVED-clause-goes
returns-then-len-ge-MOST_SERVED-clause-goes c = λ start whole left goes. goes_no_more _ _ _ _ start whole _ _ _ _ goes

pub returns-in_default-clause-goes : goal.returns-in_default-clause-goes
returns-in_default-clause-goes c = λ start whole left goes. none_goes _ _ _ _ start whole _ left _ _ _ _ _ c.in_ok-served.field-0 goes c.in_ok-served.ensures.served (search rules)

pub returns-clause-early : goal.returns-clause-early
returns-clause-early c =
    let more : length c.push.new.self.dones.items ≡ length c.args.all.now.dones.items + 1 =
    ap (λ ds. length ds) c.in_ok-push.ensures.dones ∙ length-append c.args.all.now.dones.items _ in
    let step = c.in_ok-served.ensures.served in
    omega (arith, one_later _ _ _ _ _ _ step.more _ step.served_is, c.requires.early, more)

pub returns-clause-goes : goal.returns-clause-goes
returns-clause-goes c = λ start whole left goes.
    some_goes _ _ _ _ start whole _ left _ _ _ _ _ _ c.in_ok-served.field-0 c.in-Some.served c.ends-ended.result goes c.in_ok-served.ensures.served (search rules) c.ends-ended.ensures
    c.in_ok-push.ensures.dones
