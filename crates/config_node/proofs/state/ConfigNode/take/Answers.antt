use Rattle.config_node.proofs.state.ConfigNode.take.Goals as goal

pub pass-requires : goal.pass-requires
pass-requires c = record { later = c.requires.ready.later; next = c.requires.ready.next; past = c.requires.ready.past }
