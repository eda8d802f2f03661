use Rattle.bson_values.proofs.Views.{pushed_fields, are_fields-joined}
use Rattle.bson_values.proofs.value.Document.push.Goals as goal

pub invariant_of-self : goal.invariant_of-self
invariant_of-self c =
    rw (c.push_reserved.ensures.items, pushed_fields)
    (are_fields-joined _ _ _ c.self.invariant c.as_str-name.ensures.no_zero c.as_str-name.ensures.utf8 c.look.ensures)

pub invariant_of-self-2 : goal.invariant_of-self-2
invariant_of-self-2 c =
    rw (c.in_ok-push.ensures.items, pushed_fields)
    (are_fields-joined _ _ _ c.self.invariant c.as_str-name.ensures.no_zero c.as_str-name.ensures.utf8 c.look.ensures)
