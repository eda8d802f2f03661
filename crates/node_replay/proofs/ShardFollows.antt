-- The records of each transition of a shard may follow, and lead to the durable part of the shard after it.
use Rattle.std.proofs.Common.{◌≡◌, ℕ, ◌+◌, ◌<◌, ◌≤◌, List, [], ◌∷◌, ◌++◌, map, refl, sym, ap, subst, ◌∙◌, arith, append_assoc, append-nil}
use Rattle.std.specs.Prelude.{max, Bool, true, ◌&&◌, Option, Some, None, is_some, is_none, filter, not, nat_lt, if◌then◌else◌}
use Rattle.std.specs.Option.{option_map}
use Rattle.std.proofs.lemmas.Bool.{and_from, lt-ltb}
use Rattle.base_model.specs.Times.{time_of_moment}
use Rattle.chunk_model.specs.Tables.{Table, table_of, with_table}
use Rattle.chunk_model.specs.Verdicts.{Sent, fits, verdict_of}
use Rattle.history_model.specs.History.{Entry}
use Rattle.record_model.specs.Records.{outcome_words}
use Rattle.reply_model.specs.Outcomes.{Done}
use Rattle.node_model.specs.Journal.{kept_table, kept_entry, kept_ceiling}
use Rattle.node_model.specs.Letters.{Statement, Letter, Input, Effect}
use Rattle.node_model.specs.Service.{seen_before, entry_for, Serves, serves_no_more, serves_again, serves_new, ends_again, ends_new}
use Rattle.node_model.specs.ShardRows.{is_news, heard, top, greatest_entry, wants_table, ShardRow, shard_write, shard_repeat, shard_empty, shard_park, shard_waits, shard_stale, shard_read, shard_read_above, shard_rows, shard_excess, shard_overflow, shard_time, shard_learn, shard_known, shard_no_table, shard_skip, shard_moment, shard_opened, shard_client}
use Rattle.node_model.specs.States.{Shard}
use Rattle.node_replay.specs.SameData.{same_words}
use Rattle.node_replay.specs.Durable.{DurableShard, durable_shard, shard_part}
use Rattle.node_replay.specs.Follow.{has_table, with_entry, with_new_table}
use Rattle.node_replay.specs.Replays.{replayed, records_of}
use Rattle.node_replay.specs.ReadTimes.{ReadsBy, IsInTime, ComesInTime}
use Rattle.node_replay.proofs.SameWords.{words_itself}
use Rattle.node_replay.proofs.Replay.{replayed_then, latest_push}

-- what a step of a shard has to show; that it holds what nodes hold, where its input comes in time
pub record ShardFollows (s : Shard) (i : Input) (f : Effect) (t : Shard) : Type 0 where
  pub own : t.me ≡ s.me
  pub leads : replayed (Some (durable_shard (shard_part s))) (records_of f.written) ≡ Some (durable_shard (shard_part t))
  pub holds : ComesInTime i → top t ≤ t.time

-- ENTRIES

abbrev pub durable_with : (me ceiling : ℕ) → List Table → List Entry → DurableShard
durable_with me ceiling tables entries = record { me = me; top = max ceiling (greatest_entry entries); tables = tables; entries = entries }

-- the entry of a new statement may follow at a later time, where its collection has a table
pub entry_follows : (me ceiling : ℕ) (tables : List Table) (entries : List Entry) (time : ℕ) (namespace : List ℕ) (s : Statement)
    → max ceiling (greatest_entry entries) < time → is_some (table_of namespace tables) ≡ true → seen_before s.number entries ≡ None
    → replayed (Some (durable_shard (durable_with me ceiling tables entries))) (records_of (kept_entry (entry_for entries time me namespace s) ∷ []))
    ≡ Some (durable_shard (durable_with me ceiling tables (entries ++ entry_for entries time me namespace s ∷ [])))
entry_follows me ceiling tables entries time namespace s later has new =
    let e : Entry = entry_for entries time me namespace s in
    let d : DurableShard = durable_with me ceiling tables entries in
    let words : same_words (outcome_words e.outcome) (outcome_words e.outcome) ≡ true = words_itself (outcome_words e.outcome) in
    let may : (nat_lt (max ceiling (greatest_entry entries)) time
    && (is_some (table_of namespace tables)
    && (is_none (seen_before s.number entries) && same_words (outcome_words e.outcome) (outcome_words e.outcome)))) ≡ true =
    and_from _ _ (lt-ltb (max ceiling (greatest_entry entries)) time later) (and_from _ _ has (and_from _ _ (ap (λ o. is_none o) new) words)) in
    let push : greatest_entry (entries ++ e ∷ []) ≡ time = latest_push entries e (omega (arith, later)) in
    let next : time ≡ max ceiling (greatest_entry (entries ++ e ∷ [])) = omega (arith, later, push) in
    ap (λ t. replayed (option_map durable_shard (if t then Some (with_entry d e) else None)) []) may
    ∙ ap (λ n. Some (durable_shard (record { me = me; top = n; tables = tables; entries = entries ++ e ∷ [] }))) next

-- the entries of statements that are served may follow, one after another
pub served_follow : (me ceiling : ℕ) (tables : List Table) (namespace : List ℕ) (ordered : Bool) → is_some (table_of namespace tables) ≡ true
    → (entries : List Entry) (time : ℕ) (statements : List Statement) (dones : List Done) (made : List Entry) (last : ℕ)
    → Serves me namespace ordered entries time statements dones made last → max ceiling (greatest_entry entries) ≤ time
    → replayed (Some (durable_shard (durable_with me ceiling tables entries))) (records_of (map kept_entry made))
    ≡ Some (durable_shard (durable_with me ceiling tables (entries ++ made)))
served_follow me ceiling tables namespace ordered has _ _ _ _ _ _ (serves_no_more entries time rest) past =
    ap (λ l. Some (durable_shard (durable_with me ceiling tables l))) (sym (append-nil entries))
served_follow me ceiling tables namespace ordered has _ _ _ _ _ _ (serves_again entries time s rest d dones made last seen on more) past =
    served_follow me ceiling tables namespace ordered has entries time rest dones made last more past
served_follow me ceiling tables namespace ordered has _ _ _ _ _ _ (serves_new entries time s rest dones made last new on more) past =
    let e : Entry = entry_for entries (time + 1) me namespace s in
    let push : greatest_entry (entries ++ e ∷ []) ≡ time + 1 = latest_push entries e (omega (arith, past)) in
    replayed_then (Some (durable_shard (durable_with me ceiling tables entries))) (kept_entry e ∷ []) (map kept_entry made)
    (durable_shard (durable_with me ceiling tables (entries ++ e ∷ []))) (durable_shard (durable_with me ceiling tables (entries ++ e ∷ made)))
    (entry_follows me ceiling tables entries (time + 1) namespace s (omega (arith, past)) has new)
    (served_follow me ceiling tables namespace ordered has (entries ++ e ∷ []) (time + 1) rest dones made last more (omega (arith, past, push))
    ∙ ap (λ l. Some (durable_shard (durable_with me ceiling tables l))) (append_assoc entries (e ∷ []) made))
served_follow me ceiling tables namespace ordered has _ _ _ _ _ _ (ends_again entries time s rest d seen over) past =
    ap (λ l. Some (durable_shard (durable_with me ceiling tables l))) (sym (append-nil entries))
served_follow me ceiling tables namespace ordered has _ _ _ _ _ _ (ends_new entries time s rest new over) past =
    entry_follows me ceiling tables entries (time + 1) namespace s (omega (arith, past)) has new

-- and none is later than the last time
pub served_past : (me ceiling : ℕ) (namespace : List ℕ) (ordered : Bool) (entries : List Entry) (time : ℕ) (statements : List Statement)
    (dones : List Done) (made : List Entry) (last : ℕ) → Serves me namespace ordered entries time statements dones made last
    → max ceiling (greatest_entry entries) ≤ time → max ceiling (greatest_entry (entries ++ made)) ≤ last
served_past me ceiling namespace ordered _ _ _ _ _ _ (serves_no_more entries time rest) past =
    subst (λ l. max ceiling (greatest_entry l) ≤ time) (sym (append-nil entries)) past
served_past me ceiling namespace ordered _ _ _ _ _ _ (serves_again entries time s rest d dones made last seen on more) past =
    served_past me ceiling namespace ordered entries time rest dones made last more past
served_past me ceiling namespace ordered _ _ _ _ _ _ (serves_new entries time s rest dones made last new on more) past =
    let e : Entry = entry_for entries (time + 1) me namespace s in
    let push : greatest_entry (entries ++ e ∷ []) ≡ time + 1 = latest_push entries e (omega (arith, past)) in
    subst (λ l. max ceiling (greatest_entry l) ≤ last) (append_assoc entries (e ∷ []) made)
    (served_past me ceiling namespace ordered (entries ++ e ∷ []) (time + 1) rest dones made last more (omega (arith, past, push)))
served_past me ceiling namespace ordered _ _ _ _ _ _ (ends_again entries time s rest d seen over) past =
    subst (λ l. max ceiling (greatest_entry l) ≤ time) (sym (append-nil entries)) past
served_past me ceiling namespace ordered _ _ _ _ _ _ (ends_new entries time s rest new over) past =
    let push : greatest_entry (entries ++ entry_for entries (time + 1) me namespace s ∷ []) ≡ time + 1 =
    latest_push entries (entry_for entries (time + 1) me namespace s) (omega (arith, past)) in
    omega (arith, past, push)

-- a version fits where there is a table
fits_table : (sent : Sent) (me : ℕ) (o : Option Table) → verdict_of sent me o ≡ fits → is_some o ≡ true
fits_table sent me None same = absurd (cc)
fits_table sent me (Some t) same = refl

-- TABLES

table_follows : (me ceiling : ℕ) (tables : List Table) (entries : List Entry) (t : Table) → is_news t (table_of t.namespace tables) ≡ true
    → replayed (Some (durable_shard (durable_with me ceiling tables entries))) (records_of (kept_table t ∷ []))
    ≡ Some (durable_shard (durable_with me ceiling (with_table t tables) entries))
table_follows me ceiling tables entries t news =
    ap (λ b. replayed (option_map durable_shard (if b then Some (with_new_table (durable_with me ceiling tables entries) t) else None)) []) news

-- CEILINGS

some_table : (namespace : List ℕ) (tables : List Table) → is_some (table_of namespace tables) ≡ true → has_table tables ≡ true
some_table namespace [] some = absurd (cc)
some_table namespace (t ∷ tables) some = refl

-- a ceiling may follow above all that is stored, where some collection has a table
ceiling_follows : (me ceiling : ℕ) (tables : List Table) (entries : List Entry) (time : ℕ) → max ceiling (greatest_entry entries) < time
    → has_table tables ≡ true
    → replayed (Some (durable_shard (durable_with me ceiling tables entries))) (records_of (kept_ceiling time ∷ []))
    ≡ Some (durable_shard (durable_with me time tables entries))
ceiling_follows me ceiling tables entries time above has =
    let may : (nat_lt (max ceiling (greatest_entry entries)) time && has_table tables) ≡ true =
    and_from _ _ (lt-ltb (max ceiling (greatest_entry entries)) time above) has in
    let next : time ≡ max time (greatest_entry entries) = omega (arith, above) in
    ap (λ b. replayed (option_map durable_shard (if b then Some (record { me = me; top = time; tables = tables; entries = entries }) else None)) []) may
    ∙ ap (λ n. Some (durable_shard (record { me = me; top = n; tables = tables; entries = entries }))) next

-- TRANSITIONS

-- the shard stores nothing, and its time does not fall
still : (s : Shard) (i : Input) (f : Effect) (time : ℕ) (parked : List Letter) → f.written ≡ [] → s.time ≤ time → top s ≤ s.time
    → ShardFollows s i f (record { me = s.me; time = time; tables = s.tables; entries = s.entries; ceiling = s.ceiling; parked = parked })
still s i f time parked none le past = record {
  own = refl;
  leads = ap (λ l. replayed (Some (durable_shard (shard_part s))) (records_of l)) none;
  holds = λ input. omega (arith, le, past);
}

heard_later : (s : Shard) (m : Letter) → s.time ≤ max s.time m.time
heard_later s m = omega arith

pub shard_follows : (s t : Shard) (i : Input) (f : Effect) → top s ≤ s.time → ShardRow s i f t → ShardFollows s i f t
shard_follows _ _ _ _ past (shard_write s m id turn ordered namespace statements sent d dones made last asks agree serves) =
    let le : max s.ceiling (greatest_entry s.entries) ≤ heard s m = omega (arith, past) in
    record {
      own = refl;
      leads = served_follow s.me s.ceiling s.tables namespace ordered (fits_table sent s.me (table_of namespace s.tables) agree) s.entries (heard s m)
          statements (d ∷ dones) made last serves le;
      holds = λ input. served_past s.me s.ceiling namespace ordered s.entries (heard s m) statements (d ∷ dones) made last serves le;
    }
shard_follows _ _ _ _ past (shard_repeat s m id turn ordered namespace statements sent d dones asks differ repeated) =
    still s _ _ (heard s m) s.parked refl (heard_later s m) past
shard_follows _ _ _ _ past (shard_empty s m id turn ordered namespace sent asks) = still s _ _ (heard s m) s.parked refl (heard_later s m) past
shard_follows _ _ _ _ past (shard_park s m a asks unseen old waits) = still s _ _ (heard s m) (s.parked ++ m ∷ []) refl (heard_later s m) past
shard_follows _ _ _ _ past (shard_waits s m a asks unseen old waits) = still s _ _ (heard s m) s.parked refl (heard_later s m) past
shard_follows _ _ _ _ past (shard_stale s m a met asks unseen old) = still s _ _ (heard s m) s.parked refl (heard_later s m) past
shard_follows _ _ _ _ past (shard_read s m id turn namespace at half sent asks agree covered) =
    still s _ _ (heard s m) s.parked refl (heard_later s m) past
shard_follows _ _ _ _ past (shard_read_above s m id turn namespace at half sent asks agree above) =
    let early : IsInTime m → at ≤ m.time = λ input. subst (λ b. ReadsBy m.time b) asks input in
    let has : has_table s.tables ≡ true = some_table namespace s.tables (fits_table sent s.me (table_of namespace s.tables) agree) in
    record {
      own = refl;
      leads = ceiling_follows s.me s.ceiling s.tables s.entries at above has;
      holds = λ input. let by = early input in omega (arith, past, above, by);
    }
shard_follows _ _ _ _ past (shard_rows s m id turn namespace at half documents rows asks shows small) =
    still s _ _ (heard s m) s.parked refl (heard_later s m) past
shard_follows _ _ _ _ past (shard_excess s m id turn namespace at half documents rows length n asks shows much told) =
    still s _ _ (heard s m) s.parked refl (heard_later s m) past
shard_follows _ _ _ _ past (shard_overflow s m id turn namespace at half documents asks over) = still s _ _ (heard s m) s.parked refl (heard_later s m) past
shard_follows _ _ _ _ past (shard_time s m id asks) = still s _ _ (heard s m) s.parked refl (heard_later s m) past
shard_follows _ _ _ _ past (shard_learn s m namespace create at t tells news) = record {
  own = refl;
  leads = table_follows s.me s.ceiling s.tables s.entries t news;
  holds = λ input. omega (arith, past);
}
shard_follows _ _ _ _ past (shard_known s m namespace create at table tells none) = still s _ _ (heard s m) s.parked refl (heard_later s m) past
shard_follows _ _ _ _ past (shard_no_table s m namespace node lack none) =
    still s _ _ (heard s m) (filter (λ p. not (wants_table namespace p)) s.parked) refl (heard_later s m) past
shard_follows _ _ _ _ past (shard_skip s m none) = still s _ _ s.time s.parked refl (omega arith) past
shard_follows _ _ _ _ past (shard_moment s moment) = still s _ _ (max s.time (time_of_moment moment)) s.parked refl (omega arith) past
shard_follows _ _ _ _ past (shard_opened s) = still s _ _ s.time s.parked refl (omega arith) past
shard_follows _ _ _ _ past (shard_client s link number request) = still s _ _ s.time s.parked refl (omega arith) past
