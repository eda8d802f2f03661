-- The node returns nothing where it takes no step, as nothing is requested of it.
use Rattle.std.proofs.Common.{◌≡◌, List, [], refl, sym, ap, Bool, true, false, map, ◌∙◌}
use Rattle.std.specs.Prelude.{◌==◌, if◌then◌else◌}
use Rattle.node_traits.specs.Faults.{StepMissed}
use Rattle.node_traits.specs.Lacks.{misses}
use Rattle.node_traits.specs.Letters.{Letter, Effect, nothing}
use Rattle.node_traits.specs.declared.outputs.ToLink.{ToLink}
use Rattle.reply_model.specs.Accounts.{Lack}
use Rattle.node_tests.specs.Idle.{idle_input, idle_state, silent_letter}
use Rattle.node_tests.specs.declared.idle.IdleInput.{IdleInput}
use Rattle.node_tests.specs.declared.idle.IdleInput.TheVariants as inputs
use Rattle.node_tests.specs.declared.idle.Silent.{Silent}
use Rattle.node_tests.specs.declared.state.Idle.{Idle}

abbrev mail_of : Effect → List Letter
mail_of f = f.mail

none_either : (b : Bool) → mail_of (if b then nothing else nothing) ≡ []
none_either true = refl
none_either false = refl

none_missed : (node : Idle) (lack : Lack) (i : IdleInput) → mail_of (misses (idle_state node) lack (idle_input i)) ≡ []
none_missed node lack (inputs.Client link number) = refl
none_missed node lack (inputs.Letter m) = none_either (m.to.0 == node.me.0)
none_missed node lack (inputs.Moment moment) = refl
none_missed node lack inputs.Opened = refl

pub idle_missed : (node : Idle) (lack : Lack) (i : IdleInput) (mail : List Silent) (replies : List ToLink) → mail ≡ [] → replies ≡ []
    → StepMissed (idle_state node) (idle_input i) lack (map silent_letter mail) replies
idle_missed node lack i mail replies silent unanswered = record {
  sent = none_missed node lack i ∙ sym (ap (λ (l : List Silent). map silent_letter l) silent);
  none = unanswered;
}
