-- Each transition of a shard keeps the facts that stay.
use Rattle.std.proofs.Common.{◌≡◌, ℕ, ◌≤◌, List, [], ◌∷◌, ◌++◌, refl, sym, ap, subst, ◌∙◌, arith, append-nil}
use Rattle.std.specs.Prelude.{max, map, filter, not, Bool, Option, Some, None}
use Rattle.std.specs.List.{AllByRecursion, flat_map}
use Rattle.base_model.specs.Identities.{RequestId}
use Rattle.base_model.specs.Times.{time_of_moment}
use Rattle.chunk_model.specs.Tables.{Table, with_table}
use Rattle.command_model.specs.Writes.{WriteCommand}
use Rattle.history_model.proofs.Lists.{all_weaken, all_append, all_at, all_filter}
use Rattle.history_model.specs.History.{StatementNumber, Entry, IsIn}
use Rattle.reply_model.specs.Accounts.{Lack}
use Rattle.reply_model.specs.Exchanges.{Asked, number_for}
use Rattle.reply_model.specs.Outcomes.{StatementOutcome, Done}
use Rattle.node_model.specs.Journal.{Kept, kept_table, kept_entry, kept_ceiling, entries_kept}
use Rattle.node_model.specs.Letters.{Statement, write_done, refused, of_request, is_lack, Letter, Input, client_input, letter_input, moment_input, opened_input, Effect, sends, writes}
use Rattle.node_model.specs.RouterRequests.{statements_from}
use Rattle.node_model.specs.Service.{Serves, Repeats}
use Rattle.node_model.specs.ShardRows.{heard, greatest_entry, at_later, under, Ask, ask_in, index_shown, wants_table, says, asks_table, tries, asks_again, refuses, ShardRow, shard_write, shard_repeat, shard_empty, shard_park, shard_waits, shard_stale, shard_read, shard_read_above, shard_rows, shard_excess, shard_overflow, shard_time, shard_learn, shard_known, shard_no_table, shard_skip, shard_moment, shard_opened, shard_client}
use Rattle.node_model.specs.States.{Shard}
use Rattle.node_laws.proofs.Dates.{IsNoChange}
use Rattle.node_laws.proofs.Lists.{all_mapped}
use Rattle.node_laws.proofs.LongerJournals.{entries_longer}
use Rattle.node_laws.proofs.MadeEntries.{statements_of}
use Rattle.node_laws.proofs.ServedStatements.{AreUpTo, IsOf, AreOf, serves_told, repeats_told}
use Rattle.node_laws.proofs.WriteFacts.{IsAnswerOf, by_entry, by_older, IsDoneAt}
use Rattle.node_replay.specs.Acknowledged.{IsOutcomeOf, of_entry, of_greater, IsOutcomeAt}
use Rattle.node_replay.proofs.StayFacts.{AreSent, AreDone, BodyStays, LetterStays, ShardStays, Grows, outcomes_grow, body_grows, letters_grow}

-- what is known of an input
abbrev pub InputStays : List Asked → List Entry → Input → Type 0
InputStays asked history (letter_input m) = LetterStays asked history m
InputStays asked history (client_input link number request) = Unit {0}
InputStays asked history (moment_input moment) = Unit {0}
InputStays asked history opened_input = Unit {0}

-- what a step of a shard has to show, for what was requested and is stored after it
pub record ShardNext (asked : List Asked) (history : List Entry) (at : ℕ) (kept : List Kept) (f : Effect) (t : Shard) : Type 0 where
  pub node : ShardStays asked history at (kept ++ f.written) t
  pub letters : AllByRecursion (LetterStays asked history) f.mail
  pub takes : f.taken ≡ []
  pub tells : f.replies ≡ []
  pub stores : AllByRecursion IsNoChange f.written

-- LISTS

-- no entry is above the latest
pub latest_above : (time : ℕ) (entries : List Entry) → greatest_entry entries ≤ time → AreUpTo time entries
latest_above time [] le = tt
latest_above time (e ∷ entries) le = (omega (arith, le), latest_above time entries (omega (arith, le)))

only_entries : (made : List Entry) → entries_kept (map kept_entry made) ≡ made
only_entries [] = refl
only_entries (e ∷ made) = ap (λ l. e ∷ l) (only_entries made)

no_changes : (made : List Entry) → AllByRecursion IsNoChange (map kept_entry made)
no_changes [] = tt
no_changes (e ∷ made) = (tt, no_changes made)

-- OUTCOMES

outcome_from : (history : List Entry) (time : ℕ) (write : WriteCommand) (id : RequestId) (dones : List Done)
    → AllByRecursion (IsDoneAt history time write id) dones → AllByRecursion (IsOutcomeAt history write id) dones
outcome_from history time write id dones all =
    all_weaken (IsDoneAt history time write id) (IsOutcomeAt history write id) dones
    (λ d h. record { within = h.within; outcome = by_answer (number_for write.number id d.index) d.answer h.answer }) all
  where
    by_answer : (number : StatementNumber) (answer : StatementOutcome) → IsAnswerOf history time number answer → IsOutcomeOf history number answer
    by_answer number _ (by_entry e i same past) = of_entry e i same
    by_answer number _ (by_older e i session less past) = of_greater e i session less

-- the statements of a message have the numbers of their write
own_statements : (asked : List Asked) (id : RequestId) (namespace : List ℕ) (statements : List Statement) (s : AreSent asked id namespace statements)
    → AreOf s.write id statements
own_statements asked id namespace statements s =
    all_weaken (λ x. IsIn x (statements_from s.write.number id 0 s.write.operations)) (IsOf s.write id) statements
    (λ x i. all_at (IsOf s.write id) x (statements_from s.write.number id 0 s.write.operations) (statements_of s.write id 0) i) s.each

-- MESSAGES

asks_again_stay : (asked : List Asked) (history : List Entry) (s : Shard) (time : ℕ) (parked : List Letter)
    → AllByRecursion (LetterStays asked history) (asks_again s time parked)
asks_again_stay asked history s time [] = tt
asks_again_stay asked history s time (m ∷ parked) = by_ask (ask_in m.body) (asks_again_stay asked history s time parked)
  where
    by_ask : (o : Option Ask) → AllByRecursion (LetterStays asked history) (asks_again s time parked)
        → AllByRecursion (LetterStays asked history) (elim o as (λ (o : Option Ask). List Letter) [
          | None ↦ asks_again s time parked
          | Some a ↦ asks_table s time a.namespace ∷ asks_again s time parked
        ])
    by_ask None rest = rest
    by_ask (Some a) rest = (tt, rest)

refused_stay : (asked : List Asked) (history : List Entry) (s : Shard) (time node : ℕ) (lack : Lack) (parked : List Letter)
    → AllByRecursion (LetterStays asked history) (flat_map (refuses s time node lack) parked)
refused_stay asked history s time node lack [] = tt
refused_stay asked history s time node lack (m ∷ parked) =
    all_append (LetterStays asked history) (refuses s time node lack m) (flat_map (refuses s time node lack) parked) (by_ask (ask_in m.body))
    (refused_stay asked history s time node lack parked)
  where
    by_ask : (o : Option Ask) → AllByRecursion (LetterStays asked history) (elim o as (λ (o : Option Ask). List Letter) [
      | None ↦ []
      | Some a ↦ says s a.id.router time (refused (of_request a.id a.turn (index_shown a.first)) (is_lack node lack)) ∷ []
    ])
    by_ask None = tt
    by_ask (Some a) = (tt, tt)

-- TRANSITIONS

module _ (asked more : List Asked) (history longer : List Entry) (g : Grows asked more history longer) (at : ℕ) (kept : List Kept) (s : Shard)
    (mine : ShardStays asked history at kept s) (past : greatest_entry s.entries ≤ s.time) where
  -- the shard stores nothing
  quiet : (f : Effect) (time : ℕ) (parked : List Letter) → f.written ≡ [] → f.taken ≡ [] → f.replies ≡ []
      → AllByRecursion (LetterStays more longer) parked → AllByRecursion (LetterStays more longer) f.mail
      → ShardNext more longer at kept f (record { me = s.me; time = time; tables = s.tables; entries = s.entries; ceiling = s.ceiling; parked = parked })
  quiet f time parked none takes tells waits letters = record {
    node = record {
      own = mine.own;
      place = mine.place;
      entries = mine.entries ∙ ap (λ l. entries_kept l) (sym (append-nil kept)) ∙ ap (λ l. entries_kept (kept ++ l)) (sym none);
      parked = waits;
    };
    letters = letters;
    takes = takes;
    tells = tells;
    stores = subst (λ l. AllByRecursion IsNoChange l) (sym none) tt;
  }

  parked_stay : AllByRecursion (LetterStays more longer) s.parked
  parked_stay = letters_grow asked more history longer g s.parked mine.parked

  -- one message, about which nothing is known, or none
  says_one : (f : Effect) (time : ℕ) → f.written ≡ [] → f.taken ≡ [] → f.replies ≡ [] → AllByRecursion (LetterStays more longer) f.mail
      → ShardNext more longer at kept f (record { me = s.me; time = time; tables = s.tables; entries = s.entries; ceiling = s.ceiling; parked = s.parked })
  says_one f time none takes tells letters = quiet f time s.parked none takes tells parked_stay letters

  -- outcomes of entries that are stored
  done_stay : (entries : List Entry) (id : RequestId) (namespace : List ℕ) (statements : List Statement) (ask : AreSent asked id namespace statements)
      (last : ℕ) (dones : List Done) → ((e : Entry) → IsIn e entries → IsIn e longer) → AllByRecursion (IsDoneAt entries last ask.write id) dones
      → AreDone more longer id dones
  done_stay entries id namespace statements ask last dones stored all = record {
    request = ask.request;
    write = ask.write;
    taken = g.taken ask.request ask.taken;
    own = ask.own;
    asks = ask.asks;
    each = outcomes_grow more more entries longer (record { taken = λ a i. i; stored = stored }) ask.write id dones
        (outcome_from entries last ask.write id dones all);
  }

  -- entries are made of statements
  writes_stay : (id : RequestId) (namespace : List ℕ) (ordered : Bool) (time : ℕ) (statements : List Statement) (dones : List Done) (made : List Entry)
      (last to : ℕ) → s.time ≤ time → ((e : Entry) → IsIn e (entries_kept (kept ++ map kept_entry made)) → IsIn e longer)
      → AreSent asked id namespace statements
      → Serves s.me namespace ordered s.entries time statements dones made last
      → ShardNext more longer at kept (writes (map kept_entry made) (says s to last (write_done id dones) ∷ []))
      (record { me = s.me; time = last; tables = s.tables; entries = s.entries ++ made; ceiling = s.ceiling; parked = s.parked })
  writes_stay id namespace ordered time statements dones made last to le here ask serves =
      let stored : entries_kept (kept ++ map kept_entry made) ≡ s.entries ++ made =
      entries_longer kept (map kept_entry made)
      ∙ ap (λ l. l ++ entries_kept (map kept_entry made)) (sym mine.entries) ∙ ap (λ l. s.entries ++ l) (only_entries made) in
      let up : AreUpTo time s.entries = latest_above time s.entries (omega (arith, past, le)) in
      let told : AllByRecursion (IsDoneAt (s.entries ++ made) last ask.write id) dones =
      serves_told ask.write id s.me namespace ordered s.entries time statements dones made last serves (own_statements asked id namespace statements ask) up in
      record {
        node = record {
          own = mine.own;
          place = mine.place;
          entries = sym stored;
          parked = parked_stay;
        };
        letters = (
          done_stay (s.entries ++ made) id namespace statements ask last dones (λ e i. here e (subst (λ l. IsIn e l) (sym stored) i)) told,
          tt,
        );
        takes = refl;
        tells = refl;
        stores = no_changes made;
      }

  -- statements that were applied before
  repeats_stay : (id : RequestId) (namespace : List ℕ) (ordered : Bool) (time : ℕ) (statements : List Statement) (dones : List Done) (to : ℕ) → s.time ≤ time
      → ((e : Entry) → IsIn e (entries_kept (kept ++ [])) → IsIn e longer) → AreSent asked id namespace statements → Repeats ordered s.entries statements dones
      → ShardNext more longer at kept (sends (says s to time (write_done id dones) ∷ [])) (at_later s time)
  repeats_stay id namespace ordered time statements dones to le here ask repeated =
      let up : AreUpTo time s.entries = latest_above time s.entries (omega (arith, past, le)) in
      let stored : entries_kept (kept ++ []) ≡ s.entries = ap (λ l. entries_kept l) (append-nil kept) ∙ sym mine.entries in
      says_one (sends (says s to time (write_done id dones) ∷ [])) time refl refl refl (
        done_stay s.entries id namespace statements ask time dones (λ e i. here e (subst (λ l. IsIn e l) (sym stored) i))
            (repeats_told ask.write id ordered s.entries time statements dones repeated (own_statements asked id namespace statements ask) up),
        tt,
      )

  -- a table arrives: what waited for it is tried again
  learns_stay : (t : Table) (time : ℕ) (mail : List Letter) (parked : List Letter) → AllByRecursion (LetterStays more longer) mail
      → AllByRecursion (LetterStays more longer) parked
      → ShardNext more longer at kept (writes (kept_table t ∷ []) mail)
      (record { me = s.me; time = time; tables = with_table t s.tables; entries = s.entries; ceiling = s.ceiling; parked = parked })
  learns_stay t time mail parked letters waits = record {
    node = record {
      own = mine.own;
      place = mine.place;
      entries = mine.entries ∙ sym (append-nil (entries_kept kept)) ∙ sym (entries_longer kept (kept_table t ∷ []));
      parked = waits;
    };
    letters = letters;
    takes = refl;
    tells = refl;
    stores = (tt, tt);
  }

  -- the time of a read is stored as a ceiling
  ceils_stay : (time ceiling : ℕ) (mail : List Letter) → AllByRecursion (LetterStays more longer) mail
      → ShardNext more longer at kept (writes (kept_ceiling ceiling ∷ []) mail) (under s time ceiling)
  ceils_stay time ceiling mail letters = record {
    node = record {
      own = mine.own;
      place = mine.place;
      entries = mine.entries ∙ sym (append-nil (entries_kept kept)) ∙ sym (entries_longer kept (kept_ceiling ceiling ∷ []));
      parked = parked_stay;
    };
    letters = letters;
    takes = refl;
    tells = refl;
    stores = (tt, tt);
  }

pub shard_stays : (asked more : List Asked) (history longer : List Entry) (g : Grows asked more history longer) (at : ℕ) (kept : List Kept) (s t : Shard)
    (i : Input) (f : Effect) → ((e : Entry) → IsIn e (entries_kept (kept ++ f.written)) → IsIn e longer) → ShardStays asked history at kept s
    → greatest_entry s.entries ≤ s.time → InputStays asked history i → ShardRow s i f t → ShardNext more longer at kept f t
shard_stays asked more history longer g at kept _ _ _ _ here mine past input
    (shard_write s m id turn ordered namespace statements sent d dones made last asks agree serves) =
    writes_stay asked more history longer g at kept s mine past id namespace ordered (heard s m) statements (d ∷ dones) made last id.router (omega arith) here
    (subst (λ b. BodyStays asked history b) asks input) serves
shard_stays asked more history longer g at kept _ _ _ _ here mine past input
    (shard_repeat s m id turn ordered namespace statements sent d dones asks differ repeated) =
    repeats_stay asked more history longer g at kept s mine past id namespace ordered (heard s m) statements (d ∷ dones) id.router (omega arith) here
    (subst (λ b. BodyStays asked history b) asks input) repeated
shard_stays asked more history longer g at kept _ _ _ _ here mine past input (shard_empty s m id turn ordered namespace sent asks) =
    says_one asked more history longer g at kept s mine past _ (heard s m) refl refl refl tt
shard_stays asked more history longer g at kept _ _ _ _ here mine past input (shard_park s m a asks unseen old waits) =
    quiet asked more history longer g at kept s mine past _ (heard s m) (s.parked ++ m ∷ []) refl refl refl
    (all_append (LetterStays more longer) s.parked (m ∷ []) (parked_stay asked more history longer g at kept s mine past)
    (body_grows asked more history longer g m.body input, tt)) (tt, tt)
shard_stays asked more history longer g at kept _ _ _ _ here mine past input (shard_waits s m a asks unseen old waits) =
    says_one asked more history longer g at kept s mine past _ (heard s m) refl refl refl tt
shard_stays asked more history longer g at kept _ _ _ _ here mine past input (shard_stale s m a met asks unseen old) =
    says_one asked more history longer g at kept s mine past _ (heard s m) refl refl refl (tt, tt)
shard_stays asked more history longer g at kept _ _ _ _ here mine past input (shard_read s m id turn namespace at_time half sent asks agree covered) =
    says_one asked more history longer g at kept s mine past _ (heard s m) refl refl refl (tt, tt)
shard_stays asked more history longer g at kept _ _ _ _ here mine past input (shard_read_above s m id turn namespace at_time half sent asks agree above) =
    ceils_stay asked more history longer g at kept s mine past (heard s m) at_time _ (tt, tt)
shard_stays asked more history longer g at kept _ _ _ _ here mine past input (shard_rows s m id turn namespace at_time half documents rows asks shows small) =
    says_one asked more history longer g at kept s mine past _ (heard s m) refl refl refl (tt, tt)
shard_stays asked more history longer g at kept _ _ _ _ here mine past input
    (shard_excess s m id turn namespace at_time half documents rows length n asks shows much told) =
    says_one asked more history longer g at kept s mine past _ (heard s m) refl refl refl (tt, tt)
shard_stays asked more history longer g at kept _ _ _ _ here mine past input (shard_overflow s m id turn namespace at_time half documents asks over) =
    says_one asked more history longer g at kept s mine past _ (heard s m) refl refl refl (tt, tt)
shard_stays asked more history longer g at kept _ _ _ _ here mine past input (shard_time s m id asks) =
    says_one asked more history longer g at kept s mine past _ (heard s m) refl refl refl (tt, tt)
shard_stays asked more history longer g at kept _ _ _ _ here mine past input (shard_learn s m namespace create told t tells news) =
    let parked : AllByRecursion (LetterStays more longer) s.parked = parked_stay asked more history longer g at kept s mine past in
    learns_stay asked more history longer g at kept s mine past t (heard s m) (tries s (heard s m) (filter (wants_table t.namespace) s.parked))
    (filter (λ p. not (wants_table t.namespace p)) s.parked)
    (all_mapped (LetterStays more longer) (λ (p : Letter). says s s.me (heard s m) p.body) (filter (wants_table t.namespace) s.parked)
    (all_filter (LetterStays more longer) (wants_table t.namespace) s.parked parked))
    (all_filter (LetterStays more longer) (λ p. not (wants_table t.namespace p)) s.parked parked)
shard_stays asked more history longer g at kept _ _ _ _ here mine past input (shard_known s m namespace create told table tells none) =
    says_one asked more history longer g at kept s mine past _ (heard s m) refl refl refl tt
shard_stays asked more history longer g at kept _ _ _ _ here mine past input (shard_no_table s m namespace node lack none) =
    quiet asked more history longer g at kept s mine past _ (heard s m) (filter (λ p. not (wants_table namespace p)) s.parked) refl refl refl
    (all_filter (LetterStays more longer) (λ p. not (wants_table namespace p)) s.parked (parked_stay asked more history longer g at kept s mine past))
    (refused_stay more longer s (heard s m) node lack (filter (wants_table namespace) s.parked))
shard_stays asked more history longer g at kept _ _ _ _ here mine past input (shard_skip s m none) =
    says_one asked more history longer g at kept s mine past _ s.time refl refl refl tt
shard_stays asked more history longer g at kept _ _ _ _ here mine past input (shard_moment s moment) =
    says_one asked more history longer g at kept s mine past _ (max s.time (time_of_moment moment)) refl refl refl
    (asks_again_stay more longer s (max s.time (time_of_moment moment)) s.parked)
shard_stays asked more history longer g at kept _ _ _ _ here mine past input (shard_opened s) =
    says_one asked more history longer g at kept s mine past _ s.time refl refl refl tt
shard_stays asked more history longer g at kept _ _ _ _ here mine past input (shard_client s link number request) =
    says_one asked more history longer g at kept s mine past _ s.time refl refl refl tt
