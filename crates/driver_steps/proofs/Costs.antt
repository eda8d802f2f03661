-- What waits costs less after each delivery.
use Rattle.std.proofs.Common.{◌≡◌, ◌⊎◌, inl, inr, ℕ, ◌+◌, ◌*◌, ◌<◌, ◌≤◌, ◌^◌, List, [], ◌∷◌, ◌++◌, Bool, map, length, refl, sym, ap, subst, ◌∙◌, arith}
use Rattle.std.proofs.lemmas.List.{map-append}
use Rattle.std.specs.Prelude.{Option, Some, None, true, false, ◌==◌, if◌then◌else◌, Result, Ok, Err, OnOk}
use Rattle.reply_model.specs.Accounts.{Lack}
use Rattle.node_model.specs.Lacks.{requested_of, refusal_to, misses}
use Rattle.node_model.specs.Letters.{no_time, at_time, Body, table_ask, table_told, split_ask, split_done, write_ask, write_done, read_ask, half_ask, read_rows, refused, Refused, of_request, of_table, time_ask, time_told, Letter, Input, client_input, letter_input, moment_input, opened_input, Effect, nothing, sends}
use Rattle.node_model.specs.States.{NodeState, catalogue_state, shard_state, router_state, time_of_node}
use Rattle.node_model.specs.Steps.{number_of}
use Rattle.node_traits.specs.declared.outputs.NotTaken.{NotTaken}
use Rattle.driver_steps.specs.Moves.{IsLess, IsNoRequest, cost_of, costs_of, cost_in}

-- ONE MESSAGE

none_same : {X : Type 0} {x : X} → None ≡ Some x → ⊥
none_same e = cc

cost_is : (b : Body) → (cost_of b ≡ 2) ⊎ (cost_of b ≡ 1)
cost_is (table_ask namespace create at) = inl refl
cost_is (table_told namespace create at table) = inl refl
cost_is (split_ask id namespace middle) = inl refl
cost_is (split_done id found) = inl refl
cost_is (write_ask id turn ordered namespace statements sent) = inl refl
cost_is (write_done id dones) = inl refl
cost_is (read_ask id turn namespace at half sent) = inl refl
cost_is (half_ask id turn namespace at half documents) = inl refl
cost_is (read_rows id turn rows) = inl refl
cost_is (refused what cause) = inr refl
cost_is (time_ask id) = inl refl
cost_is (time_told id) = inl refl

cost_least : (b : Body) → 1 ≤ cost_of b
cost_least b = elim (cost_is b) [
  | inl two ↦ omega (arith, two)
  | inr one ↦ omega (arith, one)
]

cost_most : (b : Body) → cost_of b ≤ 2
cost_most b = elim (cost_is b) [
  | inl two ↦ omega (arith, two)
  | inr one ↦ omega (arith, one)
]

-- what is refused is no refusal
requested_cost : (s : NodeState) (b : Body) (what : Refused) → requested_of s b ≡ Some what → cost_of b ≡ 2
requested_cost s (table_ask namespace create at) what is = refl
requested_cost s (table_told namespace create at table) what is = refl
requested_cost s (split_ask id namespace middle) what is = refl
requested_cost s (split_done id found) what is = refl
requested_cost s (write_ask id turn ordered namespace statements sent) what is = refl
requested_cost s (write_done id dones) what is = refl
requested_cost s (read_ask id turn namespace at half sent) what is = refl
requested_cost s (half_ask id turn namespace at half documents) what is = refl
requested_cost s (read_rows id turn rows) what is = refl
requested_cost s (time_ask id) what is = refl
requested_cost s (time_told id) what is = refl
requested_cost (catalogue_state c) (refused own cause) what is = absurd (none_same is)
requested_cost (shard_state t) (refused own cause) what is = absurd (none_same is)
requested_cost (router_state r) (refused own cause) what is = absurd (none_same is)

refusal_cost : (me time sender : ℕ) (what : Refused) (lack : Lack) → cost_of (refusal_to me time sender what lack).body ≡ 1
refusal_cost me time sender (of_request id turn first) lack = refl
refusal_cost me time sender (of_table namespace create no_time) lack = refl
refusal_cost me time sender (of_table namespace create (at_time at)) lack = refl

-- what is returned where no step is taken costs less than what came
pub told_costs : (s : NodeState) (lack : Lack) (i : Input) → costs_of (misses s lack i).mail < cost_in i
told_costs s lack (letter_input m) = by_own (m.receiver == number_of s)
  where
    by_asked : (o : Option Refused) → requested_of s m.body ≡ o → costs_of (elim o as (λ (x : Option Refused). Effect) [
      | None ↦ nothing
      | Some what ↦ sends (refusal_to (number_of s) (time_of_node s) m.sender what lack ∷ [])
    ]).mail < cost_of m.body
    by_asked None is = let least = cost_least m.body in omega (arith, least)
    by_asked (Some what) is =
        let came : cost_of m.body ≡ 2 = requested_cost s m.body what is in
        let one : cost_of (refusal_to (number_of s) (time_of_node s) m.sender what lack).body ≡ 1 = refusal_cost (number_of s) (time_of_node s) m.sender what lack in
        omega (arith, came, one)

    by_own : (b : Bool) → costs_of (if b then elim (requested_of s m.body) as (λ (x : Option Refused). Effect) [
      | None ↦ nothing
      | Some what ↦ sends (refusal_to (number_of s) (time_of_node s) m.sender what lack ∷ [])
    ] else nothing).mail < cost_of m.body
    by_own true = by_asked (requested_of s m.body) refl
    by_own false = let least = cost_least m.body in omega (arith, least)
told_costs (catalogue_state c) lack (client_input link number request) = omega arith
told_costs (shard_state s) lack (client_input link number request) = omega arith
told_costs (router_state r) lack (client_input link number request) = omega arith
told_costs s lack (moment_input moment) = omega arith
told_costs s lack opened_input = omega arith

-- MESSAGES

pub costs_append : (mail more : List Letter) → costs_of (mail ++ more) ≡ costs_of mail + costs_of more
costs_append [] more = omega arith
costs_append (m ∷ mail) more =
    let rest : costs_of (mail ++ more) ≡ costs_of mail + costs_of more = costs_append mail more in
    omega (arith, rest)

pub costs_below : {M : Type 0} (letter : M → Letter) (items : List M) → costs_of (map letter items) ≤ 2 * length items
costs_below letter [] = omega arith
costs_below letter (m ∷ items) =
    let rest : costs_of (map letter items) ≤ 2 * length items = costs_below letter items in
    let one : cost_of (letter m).body ≤ 2 = cost_most (letter m).body in
    omega (arith, rest, one)

-- one step less is left, or as many and cheaper messages: a measure falls
pub less_left : {M : Type 0} (letter : M → Letter) (left left_after : ℕ) (m : M) (before taken after : List M)
    → IsLess left left_after (map letter taken) (cost_of (letter m).body) (map letter after) → before ≡ m ∷ taken → length after < 2 ^ 64
    → left_after * 2 ^ 66 + costs_of (map letter after) < left * 2 ^ 66 + costs_of (map letter before)
less_left letter left left_after m before taken after (inl fewer) first fits =
    let most : costs_of (map letter after) ≤ 2 * length after = costs_below letter after in
    omega (arith, fewer, most, fits)
less_left {M} letter left left_after m before taken after (inr (same, costs)) first fits =
    let all : costs_of (map letter before) ≡ cost_of (letter m).body + costs_of (map letter taken) = ap (λ (l : List M). costs_of (map letter l)) first in
    omega (arith, same, costs, all)

-- a message to no node is lost
pub lost_costs : (left : ℕ) (waiting : List Letter) (b : Body) → IsLess left left waiting (cost_of b) waiting
lost_costs left waiting b = let least = cost_least b in inr (refl, omega (arith, least))

-- what a node gives out, in a step or where it takes none, is queued
module _ {M X : Type 0} (letter : M → Letter) (old new : List M) (left left_after came : ℕ) where
  pub step_less : (result : Result X NotTaken) → left_after + 1 ≡ left → OnOk result (IsLess left left_after (map letter old) came (map letter new))
  step_less (Ok x) fewer = inl fewer
  step_less (Err fault) fewer = tt

  pub told_less : (mail : List M) (result : Result X NotTaken) → OnOk result (new ≡ old ++ mail) → IsLess left left_after [] came (map letter mail)
      → OnOk result (IsLess left left_after (map letter old) came (map letter new))
  told_less mail (Ok x) queued (inl fewer) = inl fewer
  told_less mail (Ok x) queued (inr (same, costs)) =
      let all : costs_of (map letter new) ≡ costs_of (map letter old) + costs_of (map letter mail) =
      ap (λ (l : List M). costs_of (map letter l)) queued ∙ (ap (λ (l : List Letter). costs_of l) (map-append letter old mail)
      ∙ costs_append (map letter old) (map letter mail)) in
      inr (same, omega (arith, costs, all))
  told_less mail (Err fault) queued less = tt

-- what came is this message
pub delivered_less : (left left_after : ℕ) (waited waits : List Letter) (i : Input) (m : Letter) → i ≡ letter_input m
    → IsLess left left_after waited (cost_in i) waits → IsLess left left_after waited (cost_of m.body) waits
delivered_less left left_after waited waits i m is less = subst (λ (x : Input). IsLess left left_after waited (cost_in x) waits) is less

-- no message is a request of a client, nor is a moment or an opening
pub is_no_request : (i j : Input) → i ≡ j → IsNoRequest j → IsNoRequest i
is_no_request i j same none = subst (λ (x : Input). IsNoRequest x) (sym same) none
