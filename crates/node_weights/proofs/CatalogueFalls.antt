-- What a step of the catalogue on a message lowers, and a step that a node misses.
use Rattle.std.proofs.Common.{◌≡◌, ℕ, ◌<◌, List, [], ◌∷◌, refl, ap, arith, Bool}
use Rattle.std.specs.Prelude.{Option, Some, None, true, false, ◌==◌, if◌then◌else◌}
use Rattle.chunk_model.specs.Changes.{known_table}
use Rattle.chunk_model.specs.Tables.{Table}
use Rattle.reply_model.specs.Accounts.{Lack, Dated}
use Rattle.node_model.specs.Letters.{At, no_time, at_time, Body, table_ask, table_told, split_ask, split_done, write_ask, write_done, read_ask, half_ask, read_rows, refused, Refused, of_request, of_table, time_ask, time_told, Letter, letter_input, Effect, nothing, sends}
use Rattle.node_model.specs.CatalogueRows.{none_at, CatalogueRow, catalogue_create, catalogue_tell, catalogue_split, catalogue_bound, catalogue_none, catalogue_skip}
use Rattle.node_model.specs.Lacks.{requested_of, refusal_to, misses}
use Rattle.node_model.specs.States.{Catalogue, NodeState, catalogue_state, shard_state, router_state, time_of_node}
use Rattle.node_model.specs.Steps.{number_of}
use Rattle.node_model.specs.World.{dated_onto}
use Rattle.node_weights.specs.Weights.{changes_by, changes_to_come, cost_of, costs_of}
use Rattle.node_weights.proofs.Falls.{WritesNoChange, Spends, spends_none, spends_one, SameTables, Falls, falls_messages}
use Rattle.node_weights.proofs.ShardFalls.{some_cost}

-- that there is no table is no change
none_plain : (at : At) (o : Option Table) (now : ℕ) (changed : List Dated) → dated_onto now changed (none_at at o) ≡ changed
none_plain no_time o now changed = refl
none_plain (at_time at) None now changed = refl
none_plain (at_time at) (Some t) now changed = refl

module _ (c d : Catalogue) (m : Letter) (f : Effect) where
  answers : Spends m f → (b : Body) → m.body ≡ b → costs_of f.mail < cost_of b → Falls (catalogue_state c) m f (catalogue_state d)
  answers spends b says less = let cost = ap cost_of says in falls_messages (omega arith) (omega arith) tt spends (omega (arith, cost, less))

pub catalogue_falls : (c : Catalogue) (m : Letter) (f : Effect) (d : Catalogue) → CatalogueRow c (letter_input m) f d
    → Falls (catalogue_state c) m f (catalogue_state d)
catalogue_falls _ _ _ _ (catalogue_create c m namespace at x says new) =
    let may = ap changes_by says in
    answers c _ m _ (spends_one x refl (omega (arith, may))) _ says (omega arith)
catalogue_falls _ _ _ _ (catalogue_tell c m namespace create at says there) =
    answers c _ m _ (spends_none (none_plain at (known_table namespace c.changes)) (omega arith)) _ says (omega arith)
catalogue_falls _ _ _ _ (catalogue_split c m id namespace middle x says new) =
    let may = ap changes_by says in
    answers c _ m _ (spends_one x refl (omega (arith, may))) _ says (omega arith)
catalogue_falls _ _ _ _ (catalogue_bound c m id namespace middle says there) =
    answers c _ m _ (spends_none (λ now changed. refl) (omega arith)) _ says (omega arith)
catalogue_falls _ _ _ _ (catalogue_none c m id namespace middle says none) =
    answers c _ m _ (spends_none (λ now changed. refl) (omega arith)) _ says (omega arith)
catalogue_falls _ _ _ _ (catalogue_skip c m none) =
    let some = some_cost m.body in
    falls_messages (omega arith) (omega arith) tt (spends_none (λ now changed. refl) (omega arith)) (omega (arith, some))

-- A STEP THAT IS MISSED

-- what gets a refusal weighs more than that
requested_costs : (s : NodeState) (b : Body) (what : Refused) → requested_of s b ≡ Some what → 1 < cost_of b
requested_costs (catalogue_state c) (table_ask namespace create at) what is = omega arith
requested_costs (catalogue_state c) (split_ask id namespace middle) what is = omega arith
requested_costs (catalogue_state c) (table_told namespace create at table) what is = absurd (cc)
requested_costs (catalogue_state c) (split_done id found) what is = absurd (cc)
requested_costs (catalogue_state c) (write_ask id turn ordered namespace statements sent) what is = absurd (cc)
requested_costs (catalogue_state c) (write_done id dones) what is = absurd (cc)
requested_costs (catalogue_state c) (read_ask id turn namespace at half sent) what is = absurd (cc)
requested_costs (catalogue_state c) (half_ask id turn namespace at half documents) what is = absurd (cc)
requested_costs (catalogue_state c) (read_rows id turn rows) what is = absurd (cc)
requested_costs (catalogue_state c) (refused it cause) what is = absurd (cc)
requested_costs (catalogue_state c) (time_ask id) what is = absurd (cc)
requested_costs (catalogue_state c) (time_told id) what is = absurd (cc)
requested_costs (shard_state s) (write_ask id turn ordered namespace statements sent) what is = omega arith
requested_costs (shard_state s) (read_ask id turn namespace at half sent) what is = omega arith
requested_costs (shard_state s) (half_ask id turn namespace at half documents) what is = omega arith
requested_costs (shard_state s) (time_ask id) what is = omega arith
requested_costs (shard_state s) (table_ask namespace create at) what is = absurd (cc)
requested_costs (shard_state s) (split_ask id namespace middle) what is = absurd (cc)
requested_costs (shard_state s) (table_told namespace create at table) what is = absurd (cc)
requested_costs (shard_state s) (split_done id found) what is = absurd (cc)
requested_costs (shard_state s) (write_done id dones) what is = absurd (cc)
requested_costs (shard_state s) (read_rows id turn rows) what is = absurd (cc)
requested_costs (shard_state s) (refused it cause) what is = absurd (cc)
requested_costs (shard_state s) (time_told id) what is = absurd (cc)
requested_costs (router_state r) b what is = absurd (cc)

same_tables : (s : NodeState) → SameTables s s
same_tables (catalogue_state c) = tt
same_tables (shard_state s) = refl
same_tables (router_state r) = tt

-- a node as it was sends what weighs less
pub stays_falls : (s : NodeState) (m : Letter) (f : Effect) → WritesNoChange f → changes_to_come f.mail ≡ 0 → costs_of f.mail < cost_of m.body → Falls s m f s
stays_falls s m f plain none less = falls_messages (omega arith) (omega arith) (same_tables s) (spends_none plain (omega (arith, none))) (omega (arith, less))

refusal_light : (me time sender : ℕ) (what : Refused) (lack : Lack)
    → (costs_of (refusal_to me time sender what lack ∷ []) ≡ 1) × (changes_to_come (refusal_to me time sender what lack ∷ []) ≡ 0)
refusal_light me time sender (of_request id turn first) lack = (refl, refl)
refusal_light me time sender (of_table namespace create no_time) lack = (refl, refl)
refusal_light me time sender (of_table namespace create (at_time at)) lack = (refl, refl)

pub missed_falls : (s : NodeState) (m : Letter) (lack : Lack) → Falls s m (misses s lack (letter_input m)) s
missed_falls s m lack = by_own (m.receiver == number_of s)
  where
    by_what : (o : Option Refused) → requested_of s m.body ≡ o → Falls s m (elim o as (λ (o : Option Refused). Effect) [
      | None ↦ nothing
      | Some what ↦ sends (refusal_to (number_of s) (time_of_node s) m.sender what lack ∷ [])
    ]) s
    by_what None h = stays_falls s m nothing (λ now changed. refl) refl (some_cost m.body)
    by_what (Some what) h =
        let light = refusal_light (number_of s) (time_of_node s) m.sender what lack in
        let one = light.0 in
        let more = requested_costs s m.body what h in
        stays_falls s m (sends (refusal_to (number_of s) (time_of_node s) m.sender what lack ∷ [])) (λ now changed. refl) light.1 (omega (arith, one, more))

    by_own : (b : Bool) → Falls s m (if b then elim (requested_of s m.body) as (λ (o : Option Refused). Effect) [
      | None ↦ nothing
      | Some what ↦ sends (refusal_to (number_of s) (time_of_node s) m.sender what lack ∷ [])
    ] else nothing) s
    by_own true = by_what (requested_of s m.body) refl
    by_own false = stays_falls s m nothing (λ now changed. refl) refl (some_cost m.body)

-- and writes nothing
pub missed_plain : (s : NodeState) (m : Letter) (lack : Lack) → WritesNoChange (misses s lack (letter_input m))
missed_plain s m lack = by_own (m.receiver == number_of s)
  where
    by_what : (o : Option Refused) → WritesNoChange (elim o as (λ (o : Option Refused). Effect) [
      | None ↦ nothing
      | Some what ↦ sends (refusal_to (number_of s) (time_of_node s) m.sender what lack ∷ [])
    ])
    by_what None now changed = refl
    by_what (Some what) now changed = refl

    by_own : (b : Bool) → WritesNoChange (if b then elim (requested_of s m.body) as (λ (o : Option Refused). Effect) [
      | None ↦ nothing
      | Some what ↦ sends (refusal_to (number_of s) (time_of_node s) m.sender what lack ∷ [])
    ] else nothing)
    by_own true now changed = by_what (requested_of s m.body) now changed
    by_own false now changed = refl
