use Rattle.bson_values.proofs.Views.{pushed_items, are_items-joined}
use Rattle.bson_values.proofs.value.Array.push.Goals as goal

pub invariant_of-self-2 : goal.invariant_of-self-2
invariant_of-self-2 c =
    rw (c.in_ok-push.ensures.items, pushed_items) (are_items-joined _ _ c.self.invariant c.look.ensures)
