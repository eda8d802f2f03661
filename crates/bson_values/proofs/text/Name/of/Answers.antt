-- The bytes that are stored are those of the text, whether short or long.
use Rattle.std.proofs.Common.{◌≡◌, ap, ◌∙◌}
use Rattle.std.specs.Prelude.{string_bytes}
use Rattle.bson_values.specs.Texts.{name_bytes}
use Rattle.bson_values.proofs.NameTests.{HasNoZero-from_test}
use Rattle.bson_values.proofs.text.Name.of.Goals as goal
use Rattle.bson_values.proofs.text.Name.of.Goals.{in-Some, in-None+in_ok-from_str-in-None+in_ok-new-in-None}

pub invariant_of-result : goal.invariant_of-result
invariant_of-result c =
    let same : name_bytes c.match-of.held ≡ c.args.text.now = elim c.match-of.branch [
      | in-Some w ↦ ap name_bytes w.held-is ∙ w.in-Some.ensures
      | in-None+in_ok-from_str-in-None+in_ok-new-in-None w ↦ ap name_bytes w.held-is ∙ ap (λ s. string_bytes s) w.in_ok-new-in-None.ensures.ok ∙ w.in_ok-from_str-in-None.ensures.ok
    ] in
    rw same (c.utf8.text, HasNoZero-from_test _ c.requires)
