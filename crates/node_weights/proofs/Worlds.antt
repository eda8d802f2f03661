-- What is lower at one node, and among the messages that wait, is lower in the world.
use Rattle.std.proofs.Common.{◌≡◌, ◌⊎◌, inl, inr, ℕ, ◌+◌, ◌<◌, ◌≤◌, List, ◌++◌, sym, subst, ap, ◌∙◌, arith, Bool}
use Rattle.std.specs.Prelude.{Some, length}
use Rattle.std.specs.List.{slice_get, slice_set}
use Rattle.history_model.specs.History.{IsIn}
use Rattle.chunk_model.specs.Changes.{namespace_of}
use Rattle.chunk_model.specs.Tables.{Table}
use Rattle.reply_model.specs.Accounts.{Dated}
use Rattle.node_model.specs.Letters.{At, table_told, Letter, Effect}
use Rattle.node_model.specs.States.{NodeState, catalogue_state, shard_state, router_state}
use Rattle.node_model.specs.World.{Held, dated_onto}
use Rattle.node_weights.specs.Deliveries.{IsTaken}
use Rattle.node_weights.specs.Weights.{Weight, IsLower, fewer_requests, fewer_turns, fewer_changes, fewer_messages, total, requests_in, turns_in, changes_by, changes_to_come, changes_left, changes_left_in, cost_of, costs_of, parked_in, weight_by}
use Rattle.node_weights.proofs.Changes.{left_fewer, left_made, left_learned}
use Rattle.node_weights.proofs.Falls.{Spends, spends_none, spends_one, SameTables, Falls, falls_requests, falls_turns, falls_changes, falls_messages}
use Rattle.node_weights.proofs.ShardFalls.{some_cost}
use Rattle.node_weights.proofs.Sums.{total_append, total_taken, total_below, total_set, less_or_same}

-- NUMBER BY NUMBER

module _ (a b : Weight) where
  on_requests : a.requests ≤ b.requests → (a.requests ≡ b.requests → IsLower a b) → IsLower a b
  on_requests le next = by_order (less_or_same a.requests b.requests le)
    where
      by_order : (a.requests < b.requests) ⊎ (a.requests ≡ b.requests) → IsLower a b
      by_order (inl less) = fewer_requests less
      by_order (inr same) = next same

  on_turns : a.requests ≡ b.requests → a.turns ≤ b.turns → (a.turns ≡ b.turns → IsLower a b) → IsLower a b
  on_turns before le next = by_order (less_or_same a.turns b.turns le)
    where
      by_order : (a.turns < b.turns) ⊎ (a.turns ≡ b.turns) → IsLower a b
      by_order (inl less) = fewer_turns before less
      by_order (inr same) = next same

  pub lower_turns : a.requests ≤ b.requests → a.turns < b.turns → IsLower a b
  lower_turns few less = on_requests few (λ same. fewer_turns same less)

  pub lower_changes : a.requests ≤ b.requests → a.turns ≤ b.turns → a.changes < b.changes → IsLower a b
  lower_changes few le less = on_requests few (λ same. on_turns same le (λ still. fewer_changes same still less))

  pub lower_messages : a.requests ≤ b.requests → a.turns ≤ b.turns → a.changes ≤ b.changes → a.messages < b.messages → IsLower a b
  lower_messages few le most less = on_requests few (λ same. on_turns same le (λ still. by_order same still (less_or_same a.changes b.changes most)))
    where
      by_order : a.requests ≡ b.requests → a.turns ≡ b.turns → (a.changes < b.changes) ⊎ (a.changes ≡ b.changes) → IsLower a b
      by_order same still (inl fewer) = fewer_changes same still fewer
      by_order same still (inr as_many) = fewer_messages same still as_many less

-- THE MESSAGES THAT WAIT

taken_total : (weigh : Letter → ℕ) (m : Letter) (letters others : List Letter) → IsTaken m letters others → total weigh letters ≡ weigh m + total weigh others
taken_total weigh m letters others (front, back, all, rest) =
    ap (λ l. total weigh l) all ∙ total_taken weigh m front back ∙ ap (λ l. weigh m + total weigh l) (sym rest)

-- CHANGES THAT ARE LEFT

module _ (now : ℕ) (changed : List Dated) (coming fewer : ℕ) (m : Letter) (f : Effect)
    (spent : fewer + changes_by m.body ≡ coming + changes_to_come f.mail) where
  spends_below : Spends m f → (s : NodeState) → changes_left_in (dated_onto now changed f.written) fewer s ≤ changes_left_in changed coming s
  spends_below spends (catalogue_state c) = omega arith
  spends_below (spends_none plain le) (shard_state s) =
      subst (λ l. changes_left l fewer s.tables ≤ changes_left changed coming s.tables) (sym (plain now changed))
      (left_fewer changed coming fewer s.tables (omega (arith, spent, le)))
  spends_below (spends_one x is le) (shard_state s) =
      subst (λ l. changes_left (dated_onto now changed l) fewer s.tables ≤ changes_left changed coming s.tables) (sym is)
      (left_made (record { change = x; step = now }) changed coming fewer s.tables (omega (arith, spent, le)))
  spends_below spends (router_state r) = omega arith

  same_below : Spends m f → (old new : NodeState) → SameTables old new
      → changes_left_in (dated_onto now changed f.written) fewer new ≤ changes_left_in changed coming old
  same_below spends (catalogue_state c) (catalogue_state d) same = omega arith
  same_below spends (shard_state s) (shard_state t) same =
      subst (λ l. changes_left (dated_onto now changed f.written) fewer l ≤ changes_left changed coming s.tables) (sym same)
      (spends_below spends (shard_state s))
  same_below spends (router_state r) (router_state q) same = omega arith
  same_below spends (catalogue_state c) (shard_state t) same = absurd same
  same_below spends (catalogue_state c) (router_state q) same = absurd same
  same_below spends (shard_state s) (catalogue_state d) same = absurd same
  same_below spends (shard_state s) (router_state q) same = absurd same
  same_below spends (router_state r) (catalogue_state d) same = absurd same
  same_below spends (router_state r) (shard_state t) same = absurd same

-- A DELIVERY

-- a table that the catalogue had, by the changes that were made
pub record WasTold (changed : List Dated) (t : Table) : Type 0 where
  pub few : t.changes ≤ length changed
  pub change : Dated
  pub made : IsIn change changed
  pub name : namespace_of change.change ≡ t.namespace

abbrev pub TellsKnown : List Dated → Letter → Type 0
TellsKnown changed m = (namespace : List ℕ) (create : Bool) (at : At) (t : Table) → m.body ≡ table_told namespace create at (Some t) → WasTold changed t

module _ (nodes : List Held) (changed : List Dated) (now at : ℕ) (letters others : List Letter) (m : Letter) (old new : Held) (f : Effect)
    (got : slice_get nodes at ≡ Some old) (taken : IsTaken m letters others) where
  abbrev before : Weight
  before = weight_by nodes changed letters

  abbrev next : Weight
  next = weight_by (slice_set nodes at new) (dated_onto now changed f.written) (others ++ f.mail)

  requests_set : total (λ (h : Held). requests_in h.state) (slice_set nodes at new) + requests_in old.state
      ≤ total (λ (h : Held). requests_in h.state) nodes + requests_in new.state
  requests_set = total_set (λ (h : Held). requests_in h.state) (λ (h : Held). requests_in h.state) nodes at old new (λ h. omega arith) got

  turns_set : total (λ (h : Held). turns_in h.state) (slice_set nodes at new) + turns_in old.state
      ≤ total (λ (h : Held). turns_in h.state) nodes + turns_in new.state
  turns_set = total_set (λ (h : Held). turns_in h.state) (λ (h : Held). turns_in h.state) nodes at old new (λ h. omega arith) got

  parked_set : total (λ (h : Held). parked_in h.state) (slice_set nodes at new) + parked_in old.state
      ≤ total (λ (h : Held). parked_in h.state) nodes + parked_in new.state
  parked_set = total_set (λ (h : Held). parked_in h.state) (λ (h : Held). parked_in h.state) nodes at old new (λ h. omega arith) got

  costs_are : costs_of (others ++ f.mail) + cost_of m.body ≡ costs_of letters + costs_of f.mail
  costs_are =
      let all = taken_total (λ (x : Letter). cost_of x.body) m letters others taken in
      let both = total_append (λ (x : Letter). cost_of x.body) others f.mail in
      omega (arith, all, both)

  spent : changes_to_come (others ++ f.mail) + changes_by m.body ≡ changes_to_come letters + changes_to_come f.mail
  spent =
      let all = taken_total (λ (x : Letter). changes_by x.body) m letters others taken in
      let both = total_append (λ (x : Letter). changes_by x.body) others f.mail in
      omega (arith, all, both)

  changes_set : ((s : NodeState) → changes_left_in (dated_onto now changed f.written) (changes_to_come (others ++ f.mail)) s
      ≤ changes_left_in changed (changes_to_come letters) s)
      → next.changes + changes_left_in changed (changes_to_come letters) old.state
      ≤ before.changes + changes_left_in (dated_onto now changed f.written) (changes_to_come (others ++ f.mail)) new.state
  changes_set below =
      total_set (λ (h : Held). changes_left_in (dated_onto now changed f.written) (changes_to_come (others ++ f.mail)) h.state)
      (λ (h : Held). changes_left_in changed (changes_to_come letters) h.state) nodes at old new (λ h. below h.state) got

  pub lowers : TellsKnown changed m → Falls old.state m f new.state → IsLower next before
  lowers known (falls_requests few) = let set = requests_set in fewer_requests (omega (arith, set, few))
  lowers known (falls_turns few less) =
      let set = requests_set in
      let turn = turns_set in
      lower_turns next before (omega (arith, set, few)) (omega (arith, turn, less))
  lowers known (falls_messages few le same spends light) =
      let set = requests_set in
      let turn = turns_set in
      let left = changes_set (spends_below now changed (changes_to_come letters) (changes_to_come (others ++ f.mail)) m f spent spends) in
      let own = same_below now changed (changes_to_come letters) (changes_to_come (others ++ f.mail)) m f spent spends old.state new.state same in
      let park = parked_set in
      let cost = costs_are in
      lower_messages next before (omega (arith, set, few)) (omega (arith, turn, le)) (omega (arith, left, own)) (omega (arith, park, cost, light))
  lowers known (falls_changes s t was is learns) =
      let set = requests_set in
      let turn = turns_set in
      let none_open : requests_in new.state ≡ 0 = ap requests_in is in
      let no_turn : turns_in new.state ≡ 0 = ap turns_in is in
      let spends : Spends m f = spends_none learns.same (let n = learns.none in omega (arith, n)) in
      let left = changes_set (spends_below now changed (changes_to_come letters) (changes_to_come (others ++ f.mail)) m f spent spends) in
      let told = known learns.namespace learns.create learns.at learns.table learns.says in
      let less = left_learned changed (changes_to_come letters) learns.table s.tables told.change learns.news told.few told.made told.name in
      let own = spends_below now changed (changes_to_come letters) (changes_to_come (others ++ f.mail)) m f spent spends (shard_state t) in
      let after = ap (λ l. changes_left changed (changes_to_come letters) l) learns.learned in
      let here = ap (λ x. changes_left_in changed (changes_to_come letters) x) was in
      let there = ap (λ x. changes_left_in (dated_onto now changed f.written) (changes_to_come (others ++ f.mail)) x) is in
      lower_changes next before (omega (arith, set, none_open)) (omega (arith, turn, no_turn)) (omega (arith, left, less, own, after, here, there))

-- a message to no node
pub lost_lowers : (nodes : List Held) (changed : List Dated) (letters others : List Letter) (m : Letter) → IsTaken m letters others
    → IsLower (weight_by nodes changed others) (weight_by nodes changed letters)
lost_lowers nodes changed letters others m taken =
    let cost = taken_total (λ (x : Letter). cost_of x.body) m letters others taken in
    let some = some_cost m.body in
    let coming = taken_total (λ (x : Letter). changes_by x.body) m letters others taken in
    let left = total_below (λ (h : Held). changes_left_in changed (changes_to_come others) h.state)
    (λ (h : Held). changes_left_in changed (changes_to_come letters) h.state) nodes
    (λ h. below (omega (arith, coming)) h.state) in
    lower_messages (weight_by nodes changed others) (weight_by nodes changed letters) (omega arith) (omega arith) left (omega (arith, cost, some))
  where
    below : changes_to_come others ≤ changes_to_come letters → (s : NodeState)
        → changes_left_in changed (changes_to_come others) s ≤ changes_left_in changed (changes_to_come letters) s
    below le (catalogue_state c) = omega arith
    below le (shard_state s) = left_fewer changed (changes_to_come letters) (changes_to_come others) s.tables le
    below le (router_state r) = omega arith
