-- What a node that takes no step returns, by what was requested of it.
use Rattle.std.proofs.Common.{◌≡◌, ℕ, List, [], ◌∷◌, refl, sym, ap, ◌∙◌, Bool, true, false}
use Rattle.std.proofs.lemmas.Bool.Decides.{Decides-eqb}
use Rattle.std.specs.Prelude.{Option, Some, None, ◌==◌, if◌then◌else◌}
use Rattle.cluster_base.specs.declared.identity.NodeId.{NodeId}
use Rattle.reply_model.specs.Accounts.{Lack, no_memory, no_steps}
use Rattle.node_model.specs.Lacks.{requested_of, refusal_to, misses}
use Rattle.node_model.specs.Letters.{Letter, Input, client_input, letter_input, moment_input, opened_input, Refused, Effect, nothing, sends}
use Rattle.node_model.specs.States.{Router, NodeState, router_state, time_of_node}
use Rattle.node_model.specs.Steps.{number_of}
use Rattle.node_traits.specs.declared.outputs.StepFault.{StepFault}
use Rattle.node_traits.specs.declared.outputs.StepFault.TheVariants.{Disk, Steps, Memory}
use Rattle.protocol_model.specs.Missed.{IsAsked, Refuses, TellsMissed, refusals}
use Rattle.protocol_model.specs.Refusals.{about_view}
use Rattle.protocol_model.specs.declared.message.Message.{Message}
use Rattle.protocol_model.specs.declared.not_taken.Asked.{Asked}
use Rattle.protocol_model.specs.declared.refused.About.{About}

abbrev mail_of : Effect → List Letter
mail_of f = f.mail

module _ (s : NodeState) (m : Letter) where
  abbrev answer : Lack → Option Refused → Effect
  answer lack o = elim o as (λ (o : Option Refused). Effect) [
    | None ↦ nothing
    | Some what ↦ sends (refusal_to (number_of s) (time_of_node s) m.sender what lack ∷ [])
  ]

  -- what is returned where the message is to this node, or not
  abbrev by_receiver : Lack → Bool → List Letter
  by_receiver lack b = mail_of (if b then answer lack (requested_of s m.body) else nothing)

  -- a message to this node that requests something
  pub asked_some : (sender : NodeId) (about : About) → m.receiver ≡ number_of s → sender.0 ≡ m.sender → Some (about_view about) ≡ requested_of s m.body
      → IsAsked s (letter_input m) (Some (record { sender = sender; about = about }))
  asked_some sender about here from is = λ lack.
      let to_me : (m.receiver == number_of s) ≡ true = (Decides-eqb m.receiver (number_of s)).1 here in
      let one : by_receiver lack (m.receiver == number_of s) ≡ mail_of (answer lack (requested_of s m.body)) = ap (by_receiver lack) to_me in
      let two : mail_of (answer lack (requested_of s m.body)) ≡ refusal_to (number_of s) (time_of_node s) m.sender (about_view about) lack ∷ [] =
      sym (ap (λ (o : Option Refused). mail_of (answer lack o)) is) in
      let three : refusal_to (number_of s) (time_of_node s) m.sender (about_view about) lack ∷ []
      ≡ refusals (number_of s) (time_of_node s) lack (Some (record { sender = sender; about = about })) =
      sym (ap (λ (n : ℕ). refusal_to (number_of s) (time_of_node s) n (about_view about) lack ∷ []) from) in
      (one ∙ two) ∙ three

  -- a message that requests nothing
  nothing_either : (lack : Lack) (b : Bool) → mail_of (if b then answer lack None else nothing) ≡ []
  nothing_either lack true = refl
  nothing_either lack false = refl

  pub asked_none : None ≡ requested_of s m.body → IsAsked s (letter_input m) None
  asked_none is = λ lack.
      let same : by_receiver lack (m.receiver == number_of s) ≡ mail_of (if m.receiver == number_of s then answer lack None else nothing) =
      ap (λ (o : Option Refused). mail_of (if m.receiver == number_of s then answer lack o else nothing)) (sym is) in
      same ∙ nothing_either lack (m.receiver == number_of s)

  -- a message to another node
  to_other : (m.receiver ≡ number_of s → ⊥) → (lack : Lack) (b : Bool) → (m.receiver == number_of s) ≡ b → by_receiver lack b ≡ []
  to_other other lack false is = refl
  to_other other lack true is = absurd (other ((Decides-eqb m.receiver (number_of s)).0 is))

  pub asked_other : (m.receiver ≡ number_of s → ⊥) → IsAsked s (letter_input m) None
  asked_other other = λ lack. to_other other lack (m.receiver == number_of s) refl

-- the refusals are those of the definitions
pub are_missed : (s : NodeState) (i : Input) (steps : ℕ) (asked : Option Asked) (fault : StepFault Message) → IsAsked s i asked
    → Refuses (number_of s) (time_of_node s) steps asked fault → TellsMissed s i steps fault
are_missed s i steps asked (Disk faults) is refuses = tt
are_missed s i steps asked (Steps told) is refuses = record { sent = is (no_steps steps) ∙ sym refuses.0; none = refuses.1 }
are_missed s i steps asked (Memory told) is refuses = record { sent = is no_memory ∙ sym refuses.0; none = refuses.1 }

-- nothing is requested of a router by a node
pub router_unasked : (r : Router) (i : Input) → IsAsked (router_state r) i None
router_unasked r (letter_input m) = asked_none (router_state r) m refl
router_unasked r (client_input link number request) = λ lack. refl
router_unasked r (moment_input moment) = λ lack. refl
router_unasked r opened_input = λ lack. refl
