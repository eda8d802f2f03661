-- A journal of a shard that replays is one legal history.
use Rattle.std.proofs.Common.{◌≡◌, inl, ℕ, ◌<◌, ◌≤◌, List, [], ◌∷◌, ◌++◌, refl, sym, ap, subst, ◌∙◌, arith, append_assoc, append-nil}
use Rattle.std.specs.Prelude.{Bool, true, false, ◌&&◌, Option, Some, None, is_some, is_none, nat_lt, if◌then◌else◌}
use Rattle.std.specs.List.{AllByRecursion}
use Rattle.std.specs.Option.{option_map}
use Rattle.std.proofs.lemmas.Bool.{ltb-true}
use Rattle.bson_model.proofs.Booleans.{both}
use Rattle.chunk_model.specs.Tables.{table_of}
use Rattle.history_model.specs.History.{Entry, IsBefore, IsSameStatement, Legal, key_written, document_left}
use Rattle.history_model.proofs.Lists.{all_weaken, all_append}
use Rattle.record_model.specs.RecordContents.{Keeps, KeepEntries, known_errors, error_among}
use Rattle.record_model.specs.Records.{EntryWords, OutcomeWords, outcome_words, Record, table_record, entry_record, ceiling_record}
use Rattle.record_model.proofs.Entries.{in_parts, known_effect}
use Rattle.reply_model.specs.OneHistory.{KeepsNumbers, AreNumbered}
use Rattle.node_model.specs.Service.{seen_before}
use Rattle.node_model.specs.ShardRows.{is_news}
use Rattle.node_laws.proofs.SeenStatements.{IsNewBehind, unseen_new}
use Rattle.node_laws.proofs.ServedStatements.{legal_joined}
use Rattle.node_replay.specs.SameData.{same_words}
use Rattle.node_replay.specs.Durable.{DurableShard, durable_shard, empty_shard}
use Rattle.node_replay.specs.Follow.{entry_from, may_enter, has_table, with_new_table, with_entry, shard_follow}
use Rattle.node_replay.specs.Histories.{IsHistory}
use Rattle.node_replay.specs.Replays.{replayed}
use Rattle.node_replay.proofs.SameWords.{words_is}

-- a choice that gives something gives this
pub picked : {X : Type 0} (t : Bool) (x y : X) → (if t then Some x else None) ≡ Some y → (t ≡ true) × (x ≡ y)
picked true x y e = (refl, cc)
picked false x y e = absurd (cc)

pub none_is : {X : Type 0} (o : Option X) → is_none o ≡ true → o ≡ None
none_is None e = refl
none_is (Some x) e = absurd (cc)

numbered_push : (entries : List Entry) (e : Entry) → AreNumbered entries → AllByRecursion (λ (d : Entry). KeepsNumbers d e) entries
    → AreNumbered (entries ++ e ∷ [])
numbered_push [] e numbered all = (tt, tt)
numbered_push (d ∷ entries) e numbered all =
    (all_append (KeepsNumbers d) entries (e ∷ []) numbered.0 (all.0, tt), numbered_push entries e numbered.1 all.1)

-- the record of an entry keeps the entry that it is read as
keeps_entry : (d : DurableShard) (w : EntryWords) → outcome_words (entry_from d w).outcome ≡ w.outcome → Keeps d.me w (entry_from d w)
keeps_entry d w same = record {
  own = ap (λ (o : OutcomeWords).
      entry_record (record { time = w.time; namespace = w.namespace; number = w.number; operation = w.operation; outcome = o })) same;
  place = refl;
  error = known_effect w.operation (document_left w.namespace (key_written w.operation) d.entries)
      ∙ ap (λ (o : OutcomeWords). error_among known_errors o.code) same;
}

entry_history : (done : List Record) (d : DurableShard) (w : EntryWords) → IsHistory done d → may_enter d w ≡ true
    → IsHistory (done ++ entry_record w ∷ []) (with_entry d (entry_from d w))
entry_history done d w h may =
    let e : Entry = entry_from d w in
    let p = both (nat_lt d.top w.time) _ may in
    let q = both (is_some (table_of w.namespace d.tables)) _ p.1 in
    let r = both (is_none (seen_before w.number d.entries)) (same_words (outcome_words e.outcome) w.outcome) q.1 in
    let later : d.top < w.time = ltb-true d.top w.time p.0 in
    let new : AllByRecursion (IsNewBehind w.number d.entries) d.entries = unseen_new w.number d.entries (none_is (seen_before w.number d.entries) r.0) in
    let words : outcome_words e.outcome ≡ w.outcome = words_is (outcome_words e.outcome) w.outcome r.1 in
    record {
      kept = in_parts d.me done (entry_record w ∷ []) d.entries (e ∷ []) h.kept (e, [], refl, keeps_entry d w words, refl);
      legal = legal_joined d.entries (e ∷ []) h.legal (
        record {
          rises = all_weaken (λ (c : Entry). c.time ≤ d.top) (λ (c : Entry). IsBefore c e) d.entries (λ c le. inl (omega (arith, le, later))) h.past;
          told = refl;
          once = all_weaken (IsNewBehind w.number d.entries) (λ (c : Entry). ¬ IsSameStatement c e) d.entries (λ c other same. other.0 same.number) new;
        },
        tt,
      );
      numbered = numbered_push d.entries e h.numbered
          (all_weaken (IsNewBehind w.number d.entries) (λ (c : Entry). KeepsNumbers c e) d.entries
          (λ c n. record { apart = λ same s. n.0 (sym s); rises = λ same session. n.1 session }) new);
      past = all_append (λ (c : Entry). c.time ≤ w.time) d.entries (e ∷ [])
          (all_weaken (λ (c : Entry). c.time ≤ d.top) (λ (c : Entry). c.time ≤ w.time) d.entries (λ c le. omega (arith, le, later)) h.past)
          ((omega arith), tt);
    }

-- a record that stores no entry
plain_history : (done : List Record) (r : Record) (d x : DurableShard) → IsHistory done d → KeepEntries d.me (r ∷ []) [] → x.me ≡ d.me
    → x.entries ≡ d.entries → d.top ≤ x.top → IsHistory (done ++ r ∷ []) x
plain_history done r d x h none me entries le =
    let kept : KeepEntries d.me (done ++ r ∷ []) d.entries =
    subst (λ l. KeepEntries d.me (done ++ r ∷ []) l) (append-nil d.entries) (in_parts d.me done (r ∷ []) d.entries [] h.kept none) in
    record {
      kept = subst (λ n. KeepEntries n (done ++ r ∷ []) x.entries) (sym me) (subst (λ l. KeepEntries d.me (done ++ r ∷ []) l) (sym entries) kept);
      legal = subst (λ l. Legal l) (sym entries) h.legal;
      numbered = subst (λ l. AreNumbered l) (sym entries) h.numbered;
      past = subst (λ l. AllByRecursion (λ (e : Entry). e.time ≤ x.top) l) (sym entries)
          (all_weaken (λ (e : Entry). e.time ≤ d.top) (λ (e : Entry). e.time ≤ x.top) d.entries (λ e l. omega (arith, l, le)) h.past);
    }

history_step : (done : List Record) (r : Record) (d x : DurableShard) → IsHistory done d → shard_follow d r ≡ Some x → IsHistory (done ++ r ∷ []) x
history_step done (table_record t) d x h same =
    let p = picked (is_news t (table_of t.namespace d.tables)) (with_new_table d t) x same in
    subst (λ y. IsHistory (done ++ table_record t ∷ []) y) p.1 (plain_history done (table_record t) d (with_new_table d t) h refl refl refl (omega arith))
history_step done (entry_record w) d x h same =
    let p = picked (may_enter d w) (with_entry d (entry_from d w)) x same in
    subst (λ y. IsHistory (done ++ entry_record w ∷ []) y) p.1 (entry_history done d w h p.0)
history_step done (ceiling_record time) d x h same =
    let next : DurableShard = record { me = d.me; top = time; tables = d.tables; entries = d.entries } in
    let p = picked (nat_lt d.top time && has_table d.tables) next x same in
    let q = both (nat_lt d.top time) (has_table d.tables) p.0 in
    let later : d.top < time = ltb-true d.top time q.0 in
    subst (λ y. IsHistory (done ++ ceiling_record time ∷ []) y) p.1 (plain_history done (ceiling_record time) d next h refl refl refl (omega (arith, later)))
history_step done r d x h same = absurd (cc)

history_goes : (done records : List Record) (d x : DurableShard) → IsHistory done d → replayed (Some (durable_shard d)) records ≡ Some (durable_shard x)
    → IsHistory (done ++ records) x
history_goes done [] d x h same =
    let is : d ≡ x = cc in
    subst (λ l. IsHistory l x) (sym (append-nil done)) (subst (λ y. IsHistory done y) is h)
history_goes done (r ∷ records) d x h same =
    by_next (shard_follow d r) refl (λ y i more. history_goes (done ++ r ∷ []) records y x i more) same
  where
    by_next : (o : Option DurableShard) → shard_follow d r ≡ o
        → ((y : DurableShard) → IsHistory (done ++ r ∷ []) y → replayed (Some (durable_shard y)) records ≡ Some (durable_shard x)
        → IsHistory ((done ++ r ∷ []) ++ records) x)
        → replayed (option_map durable_shard o) records ≡ Some (durable_shard x) → IsHistory (done ++ r ∷ records) x
    by_next None is later more = absurd (cc)
    by_next (Some y) is later more =
        subst (λ l. IsHistory l x) (append_assoc done (r ∷ []) records) (later y (history_step done r d y h is) more)

pub shard_history : (me : ℕ) (records : List Record) (d : DurableShard) → replayed (Some (durable_shard (empty_shard me))) records ≡ Some (durable_shard d)
    → IsHistory records d
shard_history me records d same = history_goes [] records (empty_shard me) d (record { kept = refl; legal = tt; numbered = tt; past = tt }) same
