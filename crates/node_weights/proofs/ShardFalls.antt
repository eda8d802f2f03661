-- What a shard's step on a message lowers.
use Rattle.std.proofs.Common.{◌≡◌, ℕ, ◌+◌, ◌<◌, ◌≤◌, List, [], ◌∷◌, length, length-append, refl, ap, arith, Bool}
use Rattle.std.specs.Prelude.{Option, Some, None, true, false, not, map, filter, if◌then◌else◌}
use Rattle.std.specs.List.{flat_map}
use Rattle.std.specs.Str.{bytes_eq}
use Rattle.std.proofs.lemmas.List.Filters.{length-filter_both}
use Rattle.history_model.specs.History.{Entry}
use Rattle.reply_model.specs.Accounts.{Lack, Dated}
use Rattle.node_model.specs.Journal.{kept_entry}
use Rattle.node_model.specs.Letters.{Body, table_ask, table_told, split_ask, split_done, write_ask, write_done, read_ask, half_ask, read_rows, refused, of_request, is_lack, time_ask, time_told, Letter, letter_input, Effect}
use Rattle.node_model.specs.ShardRows.{heard, says as says_there, Ask, ask_in, index_shown, wants_table, tries, refuses, ShardRow, shard_write, shard_repeat, shard_empty, shard_park, shard_waits, shard_stale, shard_read, shard_read_above, shard_rows, shard_excess, shard_overflow, shard_time, shard_learn, shard_known, shard_no_table, shard_skip}
use Rattle.node_model.specs.States.{Shard, shard_state}
use Rattle.node_model.specs.World.{dated_onto}
use Rattle.node_weights.specs.Weights.{changes_by, changes_to_come, cost_of, costs_of}
use Rattle.node_weights.proofs.Falls.{WritesNoChange, spends_none, Falls, falls_changes, falls_messages}
use Rattle.node_weights.proofs.Sums.{total_append}

-- each message weighs something
pub some_cost : (b : Body) → 0 < cost_of b
some_cost (table_ask namespace create at) = omega arith
some_cost (table_told namespace create at table) = omega arith
some_cost (split_ask id namespace middle) = omega arith
some_cost (split_done id found) = omega arith
some_cost (write_ask id turn ordered namespace statements sent) = omega arith
some_cost (write_done id dones) = omega arith
some_cost (read_ask id turn namespace at half sent) = omega arith
some_cost (half_ask id turn namespace at half documents) = omega arith
some_cost (read_rows id turn rows) = omega arith
some_cost (refused what cause) = omega arith
some_cost (time_ask id) = omega arith
some_cost (time_told id) = omega arith

-- a request of documents weighs more than what is parked and sent for it
record AsksDocuments (b : Body) : Type 0 where
  more : 3 < cost_of b
  plain : changes_by b ≡ 0

asks_documents : (b : Body) (a : Ask) → ask_in b ≡ Some a → AsksDocuments b
asks_documents (table_ask namespace create at) a asks = absurd (cc)
asks_documents (table_told namespace create at table) a asks = absurd (cc)
asks_documents (split_ask id namespace middle) a asks = absurd (cc)
asks_documents (split_done id found) a asks = absurd (cc)
asks_documents (write_ask id turn ordered namespace [] sent) a asks = absurd (cc)
asks_documents (write_ask id turn ordered namespace (s ∷ statements) sent) a asks = record { more = omega arith; plain = refl }
asks_documents (write_done id dones) a asks = absurd (cc)
asks_documents (read_ask id turn namespace at half sent) a asks = record { more = omega arith; plain = refl }
asks_documents (half_ask id turn namespace at half documents) a asks = absurd (cc)
asks_documents (read_rows id turn rows) a asks = absurd (cc)
asks_documents (refused what cause) a asks = absurd (cc)
asks_documents (time_ask id) a asks = absurd (cc)
asks_documents (time_told id) a asks = absurd (cc)

-- entries are no changes of the catalogue
entries_plain : (now : ℕ) (changed : List Dated) (made : List Entry) → dated_onto now changed (map kept_entry made) ≡ changed
entries_plain now changed [] = refl
entries_plain now changed (e ∷ made) = entries_plain now changed made

-- what waited for a table, and is tried again, changes none
tried_plain : (s : Shard) (time : ℕ) (namespace : List ℕ) (parked : List Letter) → changes_to_come (tries s time (filter (wants_table namespace) parked)) ≡ 0
tried_plain s time namespace [] = refl
tried_plain s time namespace (m ∷ parked) = by_ask (ask_in m.body) refl (tried_plain s time namespace parked)
  where
    by_wants : (b : Bool) → changes_by m.body ≡ 0 → changes_to_come (tries s time (filter (wants_table namespace) parked)) ≡ 0
        → changes_to_come (tries s time (if b then m ∷ filter (wants_table namespace) parked else filter (wants_table namespace) parked)) ≡ 0
    by_wants true plain more = omega (arith, plain, more)
    by_wants false plain more = more

    by_ask : (o : Option Ask) → ask_in m.body ≡ o → changes_to_come (tries s time (filter (wants_table namespace) parked)) ≡ 0
        → changes_to_come (tries s time (if elim o as (λ (x : Option Ask). Bool) [ None ↦ false | Some a ↦ bytes_eq a.namespace namespace ]
        then m ∷ filter (wants_table namespace) parked else filter (wants_table namespace) parked)) ≡ 0
    by_ask None h more = more
    by_ask (Some a) h more = by_wants (bytes_eq a.namespace namespace) (asks_documents m.body a h).plain more

-- for each that waited for a table one message is sent at most
module _ (s : Shard) (time node : ℕ) (lack : Lack) where
  one_refused : (m : Letter) → costs_of (refuses s time node lack m) ≤ 1
  one_refused m = by_ask (ask_in m.body)
    where
      by_ask : (o : Option Ask) → costs_of (elim o as (λ (o : Option Ask). List Letter) [
        | None ↦ []
        | Some a ↦ says_there s a.id.router time (refused (of_request a.id a.turn (index_shown a.first)) (is_lack node lack)) ∷ []
      ]) ≤ 1
      by_ask None = omega arith
      by_ask (Some a) = omega arith

  one_plain : (m : Letter) → changes_to_come (refuses s time node lack m) ≡ 0
  one_plain m = by_ask (ask_in m.body)
    where
      by_ask : (o : Option Ask) → changes_to_come (elim o as (λ (o : Option Ask). List Letter) [
        | None ↦ []
        | Some a ↦ says_there s a.id.router time (refused (of_request a.id a.turn (index_shown a.first)) (is_lack node lack)) ∷ []
      ]) ≡ 0
      by_ask None = refl
      by_ask (Some a) = refl

  refused_few : (parked : List Letter) → costs_of (flat_map (refuses s time node lack) parked) ≤ length parked
  refused_few [] = omega arith
  refused_few (m ∷ parked) =
      let both = total_append (λ (x : Letter). cost_of x.body) (refuses s time node lack m) (flat_map (refuses s time node lack) parked) in
      let one = one_refused m in
      let more = refused_few parked in
      omega (arith, both, one, more)

  refused_plain : (parked : List Letter) → changes_to_come (flat_map (refuses s time node lack) parked) ≡ 0
  refused_plain [] = refl
  refused_plain (m ∷ parked) =
      let both = total_append (λ (x : Letter). changes_by x.body) (refuses s time node lack m) (flat_map (refuses s time node lack) parked) in
      let one = one_plain m in
      let more = refused_plain parked in
      omega (arith, both, one, more)

-- tables stay, and what is sent and parked weighs less than the message
lighter : (s t : Shard) (m : Letter) (f : Effect) → t.tables ≡ s.tables → WritesNoChange f → changes_to_come f.mail ≡ 0 → (b : Body) → m.body ≡ b
    → length t.parked + costs_of f.mail < length s.parked + cost_of b → Falls (shard_state s) m f (shard_state t)
lighter s t m f same plain none b says less =
    let cost = ap cost_of says in
    falls_messages (omega arith) (omega arith) same (spends_none plain (omega (arith, none))) (omega (arith, cost, less))

unchanged : (s t : Shard) (m : Letter) (f : Effect) → t.tables ≡ s.tables → t.parked ≡ s.parked → WritesNoChange f → f.mail ≡ []
    → Falls (shard_state s) m f (shard_state t)
unchanged s t m f same still plain none =
    let some = some_cost m.body in
    let parked = ap (λ (l : List Letter). length l) still in
    let light = ap costs_of none in
    lighter s t m f same plain (ap changes_to_come none) m.body refl (omega (arith, some, parked, light))

pub shard_falls : (s : Shard) (m : Letter) (f : Effect) (t : Shard) → ShardRow s (letter_input m) f t → Falls (shard_state s) m f (shard_state t)
shard_falls _ _ _ _ (shard_write s m id turn ordered namespace statements sent d dones made last says fit serves) =
    lighter s _ m _ refl (λ now changed. entries_plain now changed made) refl _ says (omega arith)
shard_falls _ _ _ _ (shard_repeat s m id turn ordered namespace statements sent d dones says unfit again) =
    lighter s _ m _ refl (λ now changed. refl) refl _ says (omega arith)
shard_falls _ _ _ _ (shard_empty s m id turn ordered namespace sent says) = unchanged s _ m _ refl refl (λ now changed. refl) refl
shard_falls _ _ _ _ (shard_park s m a asks unseen old new) =
    let one = length-append s.parked (m ∷ []) in
    let more = (asks_documents m.body a asks).more in
    lighter s _ m _ refl (λ now changed. refl) refl m.body refl (omega (arith, one, more))
shard_falls _ _ _ _ (shard_waits s m a asks unseen old waits) = unchanged s _ m _ refl refl (λ now changed. refl) refl
shard_falls _ _ _ _ (shard_stale s m a met asks unseen old) =
    let more = (asks_documents m.body a asks).more in
    lighter s _ m _ refl (λ now changed. refl) refl m.body refl (omega (arith, more))
shard_falls _ _ _ _ (shard_read s m id turn namespace at half sent says fit covered) =
    lighter s _ m _ refl (λ now changed. refl) refl _ says (omega arith)
shard_falls _ _ _ _ (shard_read_above s m id turn namespace at half sent says fit above) =
    lighter s _ m _ refl (λ now changed. refl) refl _ says (omega arith)
shard_falls _ _ _ _ (shard_rows s m id turn namespace at half documents rows says makes few) =
    lighter s _ m _ refl (λ now changed. refl) refl _ says (omega arith)
shard_falls _ _ _ _ (shard_excess s m id turn namespace at half documents rows long n says makes much told) =
    lighter s _ m _ refl (λ now changed. refl) refl _ says (omega arith)
shard_falls _ _ _ _ (shard_overflow s m id turn namespace at half documents says runs) =
    lighter s _ m _ refl (λ now changed. refl) refl _ says (omega arith)
shard_falls _ _ _ _ (shard_time s m id says) = lighter s _ m _ refl (λ now changed. refl) refl _ says (omega arith)
shard_falls _ _ _ _ (shard_learn s m namespace create at t says news) =
    falls_changes s _ refl refl (record {
      namespace = namespace;
      create = create;
      at = at;
      table = t;
      says = says;
      news = news;
      learned = refl;
      same = λ now changed. refl;
      none = tried_plain s (heard s m) t.namespace s.parked;
    })
shard_falls _ _ _ _ (shard_known s m namespace create at table says none) = unchanged s _ m _ refl refl (λ now changed. refl) refl
shard_falls _ _ _ _ (shard_no_table s m namespace node lack says) =
    let both = length-filter_both (wants_table namespace) (λ p. not (wants_table namespace p)) (λ p. refl) s.parked in
    let few = refused_few s (heard s m) node lack (filter (wants_table namespace) s.parked) in
    lighter s _ m _ refl (λ now changed. refl) (refused_plain s (heard s m) node lack (filter (wants_table namespace) s.parked)) _ says
    (omega (arith, both, few))
shard_falls _ _ _ _ (shard_skip s m skips) = unchanged s s m _ refl refl (λ now changed. refl) refl
