-- What a node returns where it takes no step: refusals alone.
use Rattle.std.proofs.Common.{◌≡◌, ℕ, List, [], ◌∷◌, refl, Bool}
use Rattle.std.specs.Prelude.{ℤ, Option, Some, None, true, false, ◌==◌, if◌then◌else◌}
use Rattle.std.specs.List.{AllByRecursion}
use Rattle.reply_model.specs.Accounts.{Lack}
use Rattle.reply_model.specs.Requests.{Request}
use Rattle.node_model.specs.Lacks.{requested_of, refusal_to, turns_away, misses}
use Rattle.node_model.specs.Letters.{no_time, at_time, refused, Refused, of_request, of_table, Cause, Letter, Input, client_input, letter_input, moment_input, opened_input, Effect, nothing, sends}
use Rattle.node_model.specs.States.{NodeState, catalogue_state, shard_state, router_state, time_of_node}
use Rattle.node_model.specs.Steps.{number_of}

abbrev pub IsRefusal : Letter → Type 0
IsRefusal m = (what : Refused) × (cause : Cause) × (m.body ≡ refused what cause)

is_refusal : (me time sender : ℕ) (what : Refused) (lack : Lack) → IsRefusal (refusal_to me time sender what lack)
is_refusal me time sender (of_request id turn first) lack = (_, _, refl)
is_refusal me time sender (of_table namespace create no_time) lack = (_, _, refl)
is_refusal me time sender (of_table namespace create (at_time at)) lack = (_, _, refl)

none_away : (s : NodeState) (lack : Lack) (link : ℕ) (number : ℤ) (request : Request) → AllByRecursion IsRefusal (turns_away s lack link number request).mail
none_away (catalogue_state c) lack link number request = tt
none_away (shard_state s) lack link number request = tt
none_away (router_state r) lack link number request = tt

pub misses_refuse : (s : NodeState) (lack : Lack) (i : Input) → AllByRecursion IsRefusal (misses s lack i).mail
misses_refuse s lack (client_input link number request) = none_away s lack link number request
misses_refuse s lack (moment_input moment) = tt
misses_refuse s lack opened_input = tt
misses_refuse s lack (letter_input m) = by_receiver (m.receiver == number_of s)
  where
    mail_of : Effect → List Letter
    mail_of f = f.mail

    answer : Option Refused → Effect
    answer o = elim o as (λ (o : Option Refused). Effect) [
      | None ↦ nothing
      | Some what ↦ sends (refusal_to (number_of s) (time_of_node s) m.sender what lack ∷ [])
    ]

    by_request : (o : Option Refused) → AllByRecursion IsRefusal (mail_of (answer o))
    by_request None = tt
    by_request (Some what) = (is_refusal (number_of s) (time_of_node s) m.sender what lack, tt)

    by_receiver : (b : Bool) → AllByRecursion IsRefusal (mail_of (if b then answer (requested_of s m.body) else nothing))
    by_receiver true = by_request (requested_of s m.body)
    by_receiver false = tt
