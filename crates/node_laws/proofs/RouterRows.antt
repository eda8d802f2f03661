-- Each row of a router owes nothing that it does not give.
use Rattle.std.proofs.Common.{◌≡◌, ◌≢◌, inl, inr, ℕ, ℤ, ◌+◌, ◌≤◌, List, [], ◌∷◌, ◌++◌, refl, sym, ap, subst, ◌∙◌, arith, append-nil, Bool}
use Rattle.std.specs.Prelude.{Option, Some, None, Result, Ok, Err, true, false, max, length, drop, ◌||◌, if◌then◌else◌}
use Rattle.std.specs.List.{AllByRecursion, flat_map}
use Rattle.std.specs.Option.{unwrap_or}
use Rattle.std.proofs.lemmas.Bool.{ltb-true}
use Rattle.history_model.proofs.Lists.{in_back, in_first}
use Rattle.command_model.specs.Cursors.{Batch}
use Rattle.command_model.specs.GetMore.{GetMore}
use Rattle.command_model.specs.KillCursors.{KillCursors}
use Rattle.opmsg_model.specs.Requests.{Request}
use Rattle.base_model.specs.Errors.{cursor_not_found}
use Rattle.base_model.specs.Refusals.{Refusal, cursor_evidence}
use Rattle.command_model.specs.Command.{Command, hello_command, legacy_command, ping_command, end_sessions_command, write_command, find_command, count_command, more_command, kill_command, shard_collection_command, split_command, command_of}
use Rattle.command_model.specs.Reading.{Reading}
use Rattle.command_model.specs.Answers.{Answer, next_answer, killed_answer, refusal_answer, answer_document}
use Rattle.reply_model.specs.Cursors.{Cursor, open_cursor, with_remaining, ShowsNext, Kills}
use Rattle.history_model.specs.History.{IsIn}
use Rattle.base_model.specs.Identities.{RequestId}
use Rattle.history_model.specs.History.{Operation}
use Rattle.command_model.specs.Writes.{WriteCommand}
use Rattle.command_model.proofs.Taken.{some_operations}
use Rattle.reply_model.specs.Outcomes.{none_yet, AnyDone, lack_refusal}
use Rattle.reply_model.specs.Accounts.{Lack}
use Rattle.base_model.specs.Times.{time_of_moment}
use Rattle.node_laws.proofs.Outcomes.{none_front, none_are, none_long, none_outcomes, no_dones}
use Rattle.node_laws.proofs.SeenStatements.{true_false}
use Rattle.reply_model.specs.Exchanges.{Asked, Answered}
use Rattle.reply_model.specs.Right.{asks_for_one, usual_size, unless_silent, right_more, right_no_cursor, right_kill}
use Rattle.node_model.specs.Journal.{Kept}
use Rattle.node_model.specs.Letters.{nothing, At, Cause, is_lack, refused, of_request, of_table, Letter, Input, letter_input, moment_input, Reply, Effect}
use Rattle.node_model.specs.States.{Telling, in_batches, as_number, Work, writing, reading, sharding, splitting, Open, Router, router_state}
use Rattle.node_model.specs.RouterRequests.{id_of, begun_write, statements_from, heard, RequestPlan, at_once, needs, needs_batch, needs_end, plan_of, plan_read}
use Rattle.node_model.specs.RouterNext.{Next, stays, is_told, stay_in, letters_in, replies_in, is_answered, begins_work, after_next, refused_next, table_refused, knows, at_moment}
use Rattle.node_model.specs.RouterRows.{open_of, goes_on, go_on, opened_request, taken_now, RouterRow, router_begin, router_opened, router_plain, router_more, router_no_cursor, router_kill, router_take, router_learn, router_split, router_not_sharded, router_reach, router_hear, router_ahead, router_note, router_part, router_read, router_excess, router_overflow, router_refused, router_no_table, router_late, router_skip, router_moment}
use Rattle.node_model.specs.World.{World}
use Rattle.node_laws.proofs.Views.{Choice, Book, View, view_of, chosen_time, history_in}
use Rattle.node_laws.proofs.TimeFacts.{HasHeard}
use Rattle.node_laws.proofs.ReadFacts.{is_ahead, is_named, WaitsFor, IsDecided, IsTelling, tells_find, tells_count}
use Rattle.node_laws.proofs.Facts.{WasLacking, IsReached, IsNoted, WorkFits, AreSeen, IsOpenOf, CursorsFit, NodeFits, AnswerFits, AnswersFit, no_answer, one_answer, Good}
use Rattle.node_laws.proofs.Owes.{IsSaid, InputFits, Owes}
use Rattle.node_laws.proofs.Choices.{chosen_last}
use Rattle.node_laws.proofs.OwnCursors.{open_own, kills_all}
use Rattle.node_laws.proofs.Growth.{met_later}
use Rattle.node_laws.proofs.Answers.{StaysRight}
use Rattle.node_laws.proofs.OpenRequests.{open_of_found}
use Rattle.node_laws.proofs.AnswerTimes.{ShowsBelow, refusal_below, next_below, killed_below}
use Rattle.node_laws.proofs.ReadTimes.{reads_of, first_time, planned_time, awaits_first, awaits_named}
use Rattle.node_laws.proofs.NextRequests.{KeepsCount, NextIs}
use Rattle.node_laws.proofs.NextFacts.{IsStay, begins_stay}
use Rattle.node_laws.proofs.NextKeeps.{keeps_count, begins_keeps}
use Rattle.node_laws.proofs.Goings.{begins_goes}
use Rattle.node_laws.proofs.RouterAnswers.{as_answered, IsPlain, plain_fits}
use Rattle.node_laws.proofs.Turns.{Turns, turns_same, turns_left, turns_closed, open_past}
use Rattle.node_laws.proofs.RouterLater.{told_now}
use Rattle.node_laws.proofs.RouterForms.{IsBehind, known_tables, stays_owes}
use Rattle.node_laws.proofs.RouterMessages.{heard_met, learn_owes, reach_owes, hear_owes, ahead_owes, note_owes}
use Rattle.node_laws.proofs.RouterReads.{part_is_all, read_owes, much_owes, none_overflows}
use Rattle.node_laws.proofs.RouterSplits.{split_owes, unsplit_owes}
use Rattle.node_laws.proofs.RouterTakes.{asked_now, took, counts_behind, new_answer, undecided, begin_owes, takes_owes}

-- WORK THAT IS PLANNED

-- what is said of a plan: the work of a request, with the collection that it is on. A read that waits for its time waits for
-- one that it wants.
abbrev IsPlanned : View → Router → Asked → RequestPlan → Type 0
IsPlanned v r a (at_once answer) = ⊥
IsPlanned v r a (needs namespace work) =
    WorkFits a namespace work × AreSeen v a.time a work × (is_ahead r.time work ≡ true → chosen_time a.id v.chosen ≡ None → WaitsFor v a a.id work)
IsPlanned v r a (needs_batch get) = ⊥
IsPlanned v r a (needs_end kill) = ⊥

module _ (v : View) (r : Router) (a : Asked) (time : a.time ≡ r.time) where
  planned_first : (read : Reading) (telling : Telling) → IsTelling a read telling → (after : Option ℕ) → read.at ≡ None → read.after ≡ after
      → IsPlanned v r a (needs read.namespace (reading false (first_time r.time after) read.stages telling))
  planned_first read telling tells after none wants = (
    record { read = read; tells = tells; name = refl; words = refl; time = planned_time a read r.time after time none wants },
    tt,
    λ ahead undecided. awaits_first v a a.id read r.time after (reads_of a read telling tells) time none wants
        (ltb-true r.time (first_time r.time after) ahead) undecided,
  )

  planned_named : (read : Reading) (telling : Telling) → IsTelling a read telling → (named : ℕ) → read.at ≡ Some named
      → IsPlanned v r a (needs read.namespace (reading true named read.stages telling))
  planned_named read telling tells named names = (
    record { read = read; tells = tells; name = refl; words = refl; time = is_named names },
    tt,
    λ ahead undecided. awaits_named v a a.id read r.time named (reads_of a read telling tells) time names (ltb-true r.time named ahead) undecided,
  )

  planned_read : (read : Reading) (telling : Telling) → IsTelling a read telling → IsPlanned v r a (plan_read r read telling)
  planned_read read telling tells = by_at read.at refl
    where
      by_at : (at : Option ℕ) → read.at ≡ at → IsPlanned v r a (needs read.namespace (elim at as (λ (o : Option ℕ). Work) [
        | None ↦ reading false (max r.time (unwrap_or read.after 0)) read.stages telling
        | Some named ↦ reading true named read.stages telling
      ]))
      by_at None none = planned_first read telling tells read.after none refl
      by_at (Some named) names = planned_named read telling tells named names

  -- a write of which nothing was sent
  begun_planned : (write : WriteCommand) → command_of a.request ≡ Ok (write_command write)
      → IsPlanned v r a (needs write.namespace (begun_write write.kind write.ordered (statements_from write.number a.id 0 write.operations)))
  begun_planned write asks = (
    (
      write,
      asks,
      refl,
      refl,
      refl,
      refl,
      record {
        long = none_long (statements_from write.number a.id 0 write.operations);
        front = λ ordered. none_front (none_yet (statements_from write.number a.id 0 write.operations))
            (none_are (statements_from write.number a.id 0 write.operations));
        open_yet = open_yet write.operations (some_operations a.request write asks);
        one = λ in_order. omega arith;
      },
    ),
    (λ own of. (
      none_outcomes (WasLacking v) (history_in v) a.time own a.id 0 (statements_from write.number a.id 0 write.operations),
      tt,
      λ any. absurd (subst (λ l. AnyDone l)
          (no_dones 0 (none_yet (statements_from write.number a.id 0 write.operations)) (none_are (statements_from write.number a.id 0 write.operations))) any),
    )),
    λ ahead undecided. absurd (cc),
  )
    where
      open_yet : (operations : List Operation) → operations ≢ [] → is_answered write.ordered (none_yet (statements_from write.number a.id 0 operations)) ≡ false
      open_yet [] some = absurd (some refl)
      open_yet (operation ∷ operations) some = refl

  planned : (silent : Bool) (namespace : List ℕ) (work : Work) (command : Result Command Refusal) → command_of a.request ≡ command → a.request.more ≡ silent
      → plan_of r a.id silent command ≡ needs namespace work → IsPlanned v r a (needs namespace work)
  planned silent namespace work (Err refusal) asks more plan = absurd (cc)
  planned silent namespace work (Ok hello_command) asks more plan = absurd (cc)
  planned silent namespace work (Ok (legacy_command legacy)) asks more plan = absurd (cc)
  planned silent namespace work (Ok ping_command) asks more plan = absurd (cc)
  planned silent namespace work (Ok end_sessions_command) asks more plan = absurd (cc)
  planned silent namespace work (Ok (more_command get)) asks more plan = absurd (cc)
  planned silent namespace work (Ok (kill_command kill)) asks more plan = absurd (cc)
  planned silent namespace work (Ok (write_command write)) asks more plan =
      subst (λ p. IsPlanned v r a p) plan (begun_planned write asks)
  planned silent namespace work (Ok (find_command find)) asks more plan =
      subst (λ p. IsPlanned v r a p) plan
      (subst (λ b. IsPlanned v r a (plan_read r find.reading (in_batches (unwrap_or find.batches.size usual_size) (find.batches.single || b)))) more
      (planned_read find.reading (in_batches (unwrap_or find.batches.size usual_size) (asks_for_one find.batches a.request)) (tells_find find asks)))
  planned silent namespace work (Ok (count_command read)) asks more plan =
      subst (λ p. IsPlanned v r a p) plan (planned_read read as_number (tells_count read asks))
  planned silent namespace work (Ok (shard_collection_command name)) asks more plan =
      subst (λ p. IsPlanned v r a p) plan (asks, tt, λ ahead undecided. absurd (cc))
  planned silent namespace work (Ok (split_command split)) asks more plan =
      subst (λ p. IsPlanned v r a p) plan (asks, tt, λ ahead undecided. absurd (cc))

-- the time of a read that can proceed
abbrev pub choice_of : RequestId → Work → List Choice
choice_of id (writing kind ordered statements c) = []
choice_of id (reading named at stages telling) = record { id = id; at = at } ∷ []
choice_of id sharding = []
choice_of id (splitting middle) = []

choice_own : (id : RequestId) (work : Work) → AllByRecursion (λ (c : Choice). c.id ≡ id) (choice_of id work)
choice_own id (writing kind ordered statements c) = tt
choice_own id (reading named at stages telling) = (refl, tt)
choice_own id sharding = tt
choice_own id (splitting middle) = tt

choice_decides : (v : View) (id : RequestId) (old : List Choice) (work : Work) → chosen_time id old ≡ None → v.chosen ≡ old ++ choice_of id work
    → IsDecided v id work
choice_decides v id old (writing kind ordered statements c) none same = tt
choice_decides v id old (reading named at stages telling) none same = ap (λ l. chosen_time id l) same ∙ chosen_last id at old none
choice_decides v id old sharding none same = tt
choice_decides v id old (splitting middle) none same = tt

module _ (w : World) (book : Book) (at : ℕ) (kept : List Kept) (r : Router) (good : Good w book)
    (h : NodeFits (view_of w.nodes book) w.asked w.answered w.given at (record { state = router_state r; kept = kept }))
    (reach : AllByRecursion (IsReached book.reached r) r.requests)
    (link : ℕ) (number : ℤ) (request : Request) (begun : r.begun ≡ true) where
  abbrev New : Asked
  New = asked_now w.now r link number request

  taken : IsIn New (w.asked ++ New ∷ [])
  taken = in_back New w.asked (New ∷ []) (in_first New [])

  abbrev Plain : Answer → Reply
  Plain answer = record { id = id_of r (r.count + 1); link = link; number = number; request = request; time = r.time; document = answer_document answer }

  abbrev Said : Answer → List Answered
  Said answer = w.answered ++ as_answered w.now (Plain answer) ∷ []

  -- a request that is answered at once, where these cursors are left
  told_at_once : (answer : Answer) (own after : List Cursor) → Turns book.cursors after at (took r own []) → ShowsBelow r.time answer
      → ((v : View) → StaysRight v (w.asked ++ New ∷ []) (Said answer) book.cursors New (as_answered w.now (Plain answer)) after)
      → Owes w book at (record { state = router_state r; kept = kept })
      (record { written = []; mail = []; taken = taken_now r link number request ∷ []; replies = Plain answer ∷ []; away = [] }) (router_state (took r own []))
  told_at_once answer own after turns below right =
      takes_owes w book at kept r good h reach link number request begun [] own after [] [] (Plain answer ∷ []) tt turns tt tt (refl, tt) (tt, tt) (below, tt)
      (refl, tt)
      (inr (told_now (id_of r (r.count + 1)) w.answered (as_answered w.now (Plain answer) ∷ []) (in_first (id_of r (r.count + 1)) [])))
      (λ v behind chosen cursors noted. record {
        requests = tt;
        letters = tt;
        answers = subst (λ l. AnswersFit v (w.asked ++ New ∷ []) (Said answer) book.cursors (as_answered w.now (Plain answer) ∷ []) l) (sym cursors)
            (one_answer book.cursors after after (as_answered w.now (Plain answer)) [] (fits v) (no_answer after));
      })
    where
      fits : (v : View) → AnswerFits v (w.asked ++ New ∷ []) (Said answer) book.cursors (as_answered w.now (Plain answer)) after
      fits v = record {
        request = New;
        taken = taken;
        own = refl;
        link = refl;
        number = refl;
        same = refl;
        came = omega arith;
        risen = omega arith;
        right = (right v).right;
        settled = (right v).settled;
      }

  -- the cursors stay
  turns_kept : (more : List Open) → Turns book.cursors book.cursors at (took r r.cursors more)
  turns_kept more = turns_same book.cursors at r (took r r.cursors more) h.cursors refl (λ e. e) refl refl refl (omega arith)

  plain_owes : (answer : Answer) → plan_of r (id_of r (r.count + 1)) request.more (command_of request) ≡ at_once answer
      → Owes w book at (record { state = router_state r; kept = kept })
      (record { written = []; mail = []; taken = taken_now r link number request ∷ []; replies = Plain answer ∷ []; away = [] }) (router_state (took r r.cursors []))
  plain_owes answer plan =
      told_at_once answer r.cursors book.cursors (turns_kept []) (plain (view_of w.nodes book)).below (λ v. (plain v).right)
    where
      plain : (v : View) → IsPlain v (w.asked ++ New ∷ []) (Said answer) book.cursors New (as_answered w.now (Plain answer)) r.time answer
      plain v = plain_fits v (w.asked ++ New ∷ []) (Said answer) book.cursors New (as_answered w.now (Plain answer)) r (id_of r (r.count + 1)) request.more
          r.time answer
          (command_of request) refl refl plan refl

  -- CURSORS

  mine : CursorsFit book.cursors r.me r
  mine = subst (λ n. CursorsFit book.cursors n r) (sym h.state.own) h.cursors

  -- what a command about cursors is
  batch_asked : (get : GetMore) (command : Result Command Refusal) → plan_of r (id_of r (r.count + 1)) request.more command ≡ needs_batch get
      → command ≡ Ok (more_command get)
  batch_asked get (Err refusal) e = absurd (cc)
  batch_asked get (Ok hello_command) e = absurd (cc)
  batch_asked get (Ok (legacy_command legacy)) e = absurd (cc)
  batch_asked get (Ok ping_command) e = absurd (cc)
  batch_asked get (Ok end_sessions_command) e = absurd (cc)
  batch_asked get (Ok (write_command write)) e = absurd (cc)
  batch_asked get (Ok (find_command find)) e = absurd (cc)
  batch_asked get (Ok (count_command read)) e = absurd (cc)
  batch_asked get (Ok (more_command own)) e = let same : own ≡ get = cc in ap (λ g. Ok (more_command g)) same
  batch_asked get (Ok (kill_command kill)) e = absurd (cc)
  batch_asked get (Ok (shard_collection_command namespace)) e = absurd (cc)
  batch_asked get (Ok (split_command split)) e = absurd (cc)

  end_asked : (kill : KillCursors) (command : Result Command Refusal) → plan_of r (id_of r (r.count + 1)) request.more command ≡ needs_end kill
      → command ≡ Ok (kill_command kill)
  end_asked kill (Err refusal) e = absurd (cc)
  end_asked kill (Ok hello_command) e = absurd (cc)
  end_asked kill (Ok (legacy_command legacy)) e = absurd (cc)
  end_asked kill (Ok ping_command) e = absurd (cc)
  end_asked kill (Ok end_sessions_command) e = absurd (cc)
  end_asked kill (Ok (write_command write)) e = absurd (cc)
  end_asked kill (Ok (find_command find)) e = absurd (cc)
  end_asked kill (Ok (count_command read)) e = absurd (cc)
  end_asked kill (Ok (more_command get)) e = absurd (cc)
  end_asked kill (Ok (shard_collection_command namespace)) e = absurd (cc)
  end_asked kill (Ok (split_command split)) e = absurd (cc)
  end_asked kill (Ok (kill_command own)) e = let same : own ≡ kill = cc in ap (λ k. Ok (kill_command k)) same

  -- the cursor among those of all
  found_all : (n : ℤ) (namespace : List ℕ) (found : Option Cursor) → open_cursor (id_of r (r.count + 1)) n namespace r.cursors ≡ found
      → open_cursor (id_of r (r.count + 1)) n namespace book.cursors ≡ found
  found_all n namespace found e =
      sym (open_own (id_of r (r.count + 1)) n namespace book.cursors) ∙ ap (λ l. open_cursor (id_of r (r.count + 1)) n namespace l) mine.own ∙ e

  more_owes : (get : GetMore) (c : Cursor) (batch : Batch) (next : List Cursor)
      → plan_of r (id_of r (r.count + 1)) request.more (command_of request) ≡ needs_batch get
      → open_cursor (id_of r (r.count + 1)) get.cursor get.namespace r.cursors ≡ Some c → ShowsNext (id_of r (r.count + 1)) get.size r.cursors c batch next
      → Owes w book at (record { state = router_state r; kept = kept })
      (record { written = []; mail = []; taken = taken_now r link number request ∷ []; replies = Plain (next_answer batch) ∷ []; away = [] })
      (router_state (took r (unless_silent request r.cursors next) []))
  more_owes get c batch next plan found shows =
      told_at_once (next_answer batch) (unless_silent request r.cursors next)
      (unless_silent request book.cursors (with_remaining (id_of r (r.count + 1)) c.number (drop (length batch.documents) c.remaining) book.cursors))
      (turns request.more)
      (next_below r.time batch (subst (λ n. n ≤ r.time) (sym shows.time)
      (open_past (id_of r (r.count + 1)) get.cursor get.namespace r.begun r.gave r.time book.cursors c (found_all get.cursor get.namespace (Some c) found) mine.given)))
      (λ v. record {
        right = right_more get c batch (with_remaining (id_of r (r.count + 1)) c.number (drop (length batch.documents) c.remaining) book.cursors)
            (batch_asked get (command_of request) plan) (found_all get.cursor get.namespace (Some c) found)
            (record { batch_of = shows.batch_of; number = shows.number; name = shows.name; time = shows.time; rest = refl }) refl;
        settled = tt;
      })
    where
      turns : (b : Bool) → Turns book.cursors
          (if b then book.cursors else with_remaining (id_of r (r.count + 1)) c.number (drop (length batch.documents) c.remaining) book.cursors) at
          (took r (if b then r.cursors else next) [])
      turns true = turns_kept []
      turns false =
          subst (λ n. Turns book.cursors (with_remaining (id_of r (r.count + 1)) c.number (drop (length batch.documents) c.remaining) book.cursors) n
          (took r next [])) h.state.own
          (turns_left book.cursors r (took r next []) (id_of r (r.count + 1)) c.number (drop (length batch.documents) c.remaining) mine refl refl refl
          (λ e. e) shows.rest refl refl (omega arith))

  missing_owes : (get : GetMore) → plan_of r (id_of r (r.count + 1)) request.more (command_of request) ≡ needs_batch get
      → open_cursor (id_of r (r.count + 1)) get.cursor get.namespace r.cursors ≡ None
      → Owes w book at (record { state = router_state r; kept = kept })
      (record {
        written = [];
        mail = [];
        taken = taken_now r link number request ∷ [];
        replies = Plain (refusal_answer (record { error = cursor_not_found; evidence = cursor_evidence get.cursor })) ∷ [];
        away = [];
      })
      (router_state (took r r.cursors []))
  missing_owes get plan none =
      told_at_once (refusal_answer (record { error = cursor_not_found; evidence = cursor_evidence get.cursor })) r.cursors book.cursors (turns_kept [])
      (refusal_below r.time (record { error = cursor_not_found; evidence = cursor_evidence get.cursor }))
      (λ v. record {
        right = right_no_cursor get (batch_asked get (command_of request) plan) (found_all get.cursor get.namespace None none) refl;
        settled = tt;
      })

  kill_owes : (kill : KillCursors) (killed missing : List ℤ) (next : List Cursor)
      → plan_of r (id_of r (r.count + 1)) request.more (command_of request) ≡ needs_end kill
      → Kills (id_of r (r.count + 1)) kill.namespace r.cursors kill.cursors killed missing next
      → Owes w book at (record { state = router_state r; kept = kept })
      (record { written = []; mail = []; taken = taken_now r link number request ∷ []; replies = Plain (killed_answer killed missing) ∷ []; away = [] })
      (router_state (took r next []))
  kill_owes kill killed missing next plan ends =
      let k = kills_all (id_of r (r.count + 1)) kill.namespace r.cursors book.cursors kill.cursors killed missing next ends mine.own in
      told_at_once (killed_answer killed missing) next k.after
      (subst (λ n. Turns book.cursors k.after n (took r next [])) h.state.own
      (turns_closed book.cursors r (took r next []) (id_of r (r.count + 1)) kill.namespace kill.cursors killed missing next mine refl refl k refl (λ e. e) refl refl
      refl (omega arith)))
      (killed_below r.time killed missing)
      (λ v. record { right = right_kill kill killed missing k.after (end_asked kill (command_of request) plan) k.closes refl; settled = tt })

  -- a request that has work to do
  abbrev Asking : List ℕ → Work → Open
  Asking namespace work = opened_request r link number request namespace work

  -- what becomes of it: it stays open
  stays_owes_of : (namespace : List ℕ) (work : Work) (next : Next) (news : List Choice) → KeepsCount r (Asking namespace work) next → IsStay next
      → AllByRecursion (λ (c : Choice). c.id ≡ id_of r (r.count + 1)) news
      → ((v : View) → IsBehind w book at kept r good h reach v → v.chosen ≡ book.chosen ++ news → AllByRecursion (IsNoted v.reached r) (stay_in next)
      → NextIs (IsOpenOf v (w.asked ++ New ∷ []) w.answered (took r r.cursors (stay_in next))) (IsSaid v (w.asked ++ New ∷ []) w.given) (λ x. Unit {0}) next)
      → Owes w book at (record { state = router_state r; kept = kept })
      (record { written = []; mail = letters_in next; taken = taken_now r link number request ∷ []; replies = replies_in next; away = [] })
      (router_state (took r r.cursors (stay_in next)))
  stays_owes_of namespace work (is_told reply) news same stay chose becomes = absurd stay
  stays_owes_of namespace work (stays q letters) news same stay chose becomes =
      takes_owes w book at kept r good h reach link number request begun news r.cursors book.cursors (q ∷ [])
      letters [] chose (turns_kept (q ∷ []))
      (tt, tt) (same, tt) tt tt tt tt
      (inl (counts_behind (r.count + 1) r.requests (q ∷ []) (subst (λ n. IsIn (r.count + 1) (n ∷ [])) (sym same) (in_first (r.count + 1) []))))
      (λ v behind chosen cursors noted.
      let g = becomes v behind chosen noted in
      record {
        requests = (subst (λ l. IsOpenOf v (w.asked ++ New ∷ []) l (took r r.cursors (q ∷ [])) q) (sym (append-nil w.answered)) g.0, tt);
        letters = g.1;
        answers = subst (λ l. AnswersFit v (w.asked ++ New ∷ []) (w.answered ++ []) book.cursors [] l) (sym cursors) (no_answer book.cursors);
      })

  work_owes : (namespace : List ℕ) (work : Work) (news : List Choice) → ((v : View) → IsPlanned v r New (needs namespace work))
      → AllByRecursion (λ (c : Choice). c.id ≡ id_of r (r.count + 1)) news
      → ((v : View) → v.chosen ≡ book.chosen ++ news → (is_ahead r.time work ≡ true → WaitsFor v New (id_of r (r.count + 1)) work)
      × (is_ahead r.time work ≡ false → IsDecided v (id_of r (r.count + 1)) work))
      → Owes w book at (record { state = router_state r; kept = kept })
      (record {
        written = [];
        mail = letters_in (begins_work r r.time (Asking namespace work) work);
        taken = taken_now r link number request ∷ [];
        replies = replies_in (begins_work r r.time (Asking namespace work) work);
        away = [];
      })
      (router_state (took r r.cursors (stay_in (begins_work r r.time (Asking namespace work) work))))
  work_owes namespace work news does chose timed =
      stays_owes_of namespace work (begins_work r r.time (opened_request r link number request namespace work) work) news
      (keeps_count r r.time (opened_request r link number request namespace work)
      (begins_work r r.time (opened_request r link number request namespace work) work)
      (begins_keeps r r.time (opened_request r link number request namespace work) work))
      (begins_stay r r.time (opened_request r link number request namespace work) New namespace work (does (view_of w.nodes book)).0) chose
      (λ v behind chosen noted.
      begins_goes v (w.asked ++ New ∷ []) w.answered w.given r
      (took r r.cursors (stay_in (begins_work r r.time (opened_request r link number request namespace work) work)))
      (met_later (view_of w.nodes book) v w.given r.time behind.0 h.met)
      (known_tables w book at kept r good h reach v behind r.time (omega arith)) (λ x. Unit {0}) (opened_request r link number request namespace work)
      (record {
        request = New;
        taken = taken;
        own = refl;
        link = refl;
        number = refl;
        asks = refl;
        arrived = refl;
        past = omega arith;
        silent = new_answer w book at kept r good h reach;
      }) work (does v).0 (does v).1 (timed v chosen).0 (timed v chosen).1 noted)

  take_owes : (namespace : List ℕ) (work : Work) → plan_of r (id_of r (r.count + 1)) request.more (command_of request) ≡ needs namespace work
      → Owes w book at (record { state = router_state r; kept = kept })
      (record {
        written = [];
        mail = letters_in (begins_work r r.time (Asking namespace work) work);
        taken = taken_now r link number request ∷ [];
        replies = replies_in (begins_work r r.time (Asking namespace work) work);
        away = [];
      })
      (router_state (took r r.cursors (stay_in (begins_work r r.time (Asking namespace work) work))))
  take_owes namespace work plan = by_ahead (is_ahead r.time work) refl
    where
      does : (v : View) → IsPlanned v r New (needs namespace work)
      does v = planned v r New refl request.more namespace work (command_of request) refl refl plan

      none_chosen : (v : View) → v.chosen ≡ book.chosen ++ [] → chosen_time (id_of r (r.count + 1)) v.chosen ≡ None
      none_chosen v same = ap (λ l. chosen_time (id_of r (r.count + 1)) l) (same ∙ append-nil book.chosen) ∙ undecided w book at kept r good h reach

      by_ahead : (b : Bool) → is_ahead r.time work ≡ b
          → Owes w book at (record { state = router_state r; kept = kept })
          (record {
            written = [];
            mail = letters_in (begins_work r r.time (opened_request r link number request namespace work) work);
            taken = taken_now r link number request ∷ [];
            replies = replies_in (begins_work r r.time (opened_request r link number request namespace work) work);
            away = [];
          })
          (router_state (took r r.cursors (stay_in (begins_work r r.time (opened_request r link number request namespace work) work))))
      by_ahead true ahead =
          work_owes namespace work [] does tt
          (λ v same. ((λ e. (does v).2 ahead (none_chosen v same)), λ e. absurd (true_false (sym ahead ∙ e))))
      by_ahead false reached =
          work_owes namespace work (choice_of (id_of r (r.count + 1)) work) does (choice_own (id_of r (r.count + 1)) work)
          (λ v same. (
            (λ e. absurd (true_false (sym e ∙ reached))),
            λ e. choice_decides v (id_of r (r.count + 1)) book.chosen work (undecided w book at kept r good h reach) same,
          ))

-- WORK THAT IS GIVEN UP

-- what the rows owe in which work may be given up (`GivesUp`)
pub record RestOwes (w : World) (book : Book) (at : ℕ) (kept : List Kept) (r : Router) : Type 0 where
  pub refused_one : (m : Letter) (id : RequestId) (turn first : ℕ) (cause : Cause) (q : Open) (next : Next) → InputFits w book at (letter_input m)
      → m.body ≡ refused (of_request id turn first) cause → open_of r id ≡ Some q → refused_next r (heard r m) q m.sender turn first cause ≡ Some next
      → Owes w book at (record { state = router_state r; kept = kept }) (goes_on next)
      (router_state (knows r (heard r m) r.tables (after_next q next r.requests)))
  pub refused_table : (m : Letter) (namespace : List ℕ) (create : Bool) (at_one : At) (node : ℕ) (lack : Lack) → InputFits w book at (letter_input m)
      → m.body ≡ refused (of_table namespace create at_one) (is_lack node lack)
      → Owes w book at (record { state = router_state r; kept = kept })
      (go_on (table_refused r (heard r m) namespace create at_one (lack_refusal node lack)) r.requests)
      (router_state (knows r (heard r m) r.tables
      (flat_map (λ q. stay_in (table_refused r (heard r m) namespace create at_one (lack_refusal node lack) q)) r.requests)))
  pub given_moment : (moment : ℕ) → r.begun ≡ true → InputFits w book at (moment_input moment)
      → Owes w book at (record { state = router_state r; kept = kept }) (go_on (at_moment r (max r.time (time_of_moment moment)) moment) r.requests)
      (router_state (record {
        me = r.me;
        shards = r.shards;
        time = max r.time (time_of_moment moment);
        life = r.life;
        begun = r.begun;
        moment = moment;
        count = r.count;
        tables = r.tables;
        requests = flat_map (λ q. stay_in (at_moment r (max r.time (time_of_moment moment)) moment q)) r.requests;
        cursors = r.cursors;
        blocks = r.blocks;
        gave = r.gave;
      }))

-- where nothing happens
pub router_rests : (w : World) (book : Book) (at : ℕ) (kept : List Kept) (r : Router) → Good w book → AllByRecursion (IsReached book.reached r) r.requests
    → NodeFits (view_of w.nodes book) w.asked w.answered w.given at (record { state = router_state r; kept = kept })
    → Owes w book at (record { state = router_state r; kept = kept }) nothing (router_state r)
router_rests w book at kept r good reach h = stays_owes w book at kept r good h reach r.time (omega arith) h.met

-- ALL ROWS

pub router_owes : (w : World) (book : Book) (at : ℕ) (kept : List Kept) (r q : Router) (i : Input) (f : Effect) → Good w book
    → AllByRecursion (IsReached book.reached r) r.requests → HasHeard (view_of w.nodes book) w.asked w.answered r
    → NodeFits (view_of w.nodes book) w.asked w.answered w.given at (record { state = router_state r; kept = kept }) → InputFits w book at i → RestOwes w book at kept r
    → RouterRow r i f q → Owes w book at (record { state = router_state r; kept = kept }) f (router_state q)
router_owes w book at kept _ _ _ _ good reach hears h comes rest (router_begin r none) = begin_owes w book at kept r good h reach none
router_owes w book at kept _ _ _ _ good reach hears h comes rest (router_opened r begun) = stays_owes w book at kept r good h reach r.time (omega arith) h.met
router_owes w book at kept _ _ _ _ good reach hears h comes rest
    (router_plain r link number request answer begun plan) = plain_owes w book at kept r good h reach link number request begun answer plan
router_owes w book at kept _ _ _ _ good reach hears h comes rest (router_more r link number request get c batch next begun plan found shows) =
    more_owes w book at kept r good h reach link number request begun get c batch next plan found shows
router_owes w book at kept _ _ _ _ good reach hears h comes rest (router_no_cursor r link number request get begun plan none) =
    missing_owes w book at kept r good h reach link number request begun get plan none
router_owes w book at kept _ _ _ _ good reach hears h comes rest (router_kill r link number request kill killed missing next begun plan ends) =
    kill_owes w book at kept r good h reach link number request begun kill killed missing next plan ends
router_owes w book at kept _ _ _ _ good reach hears h comes rest
    (router_take r link number request namespace work begun plan) = take_owes w book at kept r good h reach link number request begun namespace work plan
router_owes w book at kept _ _ _ _ good reach hears h comes rest
    (router_learn r m namespace create told table says) = learn_owes w book at kept r good h reach m comes namespace create told table says
router_owes w book at kept _ _ _ _ good reach hears h comes rest (router_split r m id q middle says found work) =
    split_owes w book at kept r good h reach m comes id q middle says (open_of_found r id q found) work
router_owes w book at kept _ _ _ _ good reach hears h comes rest (router_not_sharded r m id q middle says found work) =
    unsplit_owes w book at kept r good h reach m comes id q middle (open_of_found r id q found) work
router_owes w book at kept _ _ _ _ good reach hears h comes rest (router_reach r m id q named time stages telling says found work wait reached) =
    reach_owes w book at kept r good h reach m comes q named time stages telling (open_of_found r id q found).stands work wait reached
router_owes w book at kept _ _ _ _ good reach hears h comes rest (router_hear r m id q named time stages telling says found work wait ahead some) =
    hear_owes w book at kept r good h reach m comes id q (open_of_found r id q found)
router_owes w book at kept _ _ _ _ good reach hears h comes rest (router_ahead r m id q named time stages telling says found work wait ahead all) =
    ahead_owes w book at kept r good h reach m comes id q named time stages telling says (open_of_found r id q found) work wait ahead
    hears all
router_owes w book at kept _ _ _ _ good reach hears h comes rest (router_note r m id dones q kind ordered statements c next says found work news is) =
    note_owes w book at kept r good h reach m comes id dones q kind ordered statements c says (open_of_found r id q found) work next is
router_owes w book at kept _ _ _ _ good reach hears h comes rest (router_part r m id rows q named time stages telling says found work target some) =
    absurd (some (part_is_all w book at kept r good h reach m comes id rows q (open_of_found r id q found) target))
router_owes w book at kept _ _ _ _ good reach hears h comes rest
    (router_read r m id rows q named time stages telling all out answer f says found work target whole got merged tells) =
    read_owes w book at kept r good h reach m comes id rows q named time stages telling all out answer f says (open_of_found r id q found) work target got merged
    tells
router_owes w book at kept _ _ _ _ good reach hears h comes rest (router_excess r m id rows n q named time stages telling says found work target whole got) =
    much_owes w book at kept r good h reach m comes id rows n q named time stages telling says (open_of_found r id q found) work target got
router_owes w book at kept _ _ _ _ good reach hears h comes rest (router_overflow r m id rows q named time stages telling says found work target whole got) =
    absurd (none_overflows w book at kept r good h reach m comes id rows q says (open_of_found r id q found) target got)
router_owes w book at kept _ _ _ _ good reach hears h comes rest (router_late r m late) = stays_owes w book at kept r good h reach (heard r m) (omega arith)
    (heard_met w book at kept r good h reach m comes)
router_owes w book at kept _ _ _ _ good reach hears h comes rest (router_skip r m none) = stays_owes w book at kept r good h reach r.time (omega arith) h.met
router_owes w book at kept _ _ _ _ good reach hears h comes rest (router_refused r m id turn first cause q next says found is) =
    rest.refused_one m id turn first cause q next comes says found is
router_owes w book at kept _ _ _ _ good reach hears h comes rest (router_no_table r m namespace create told node lack says) =
    rest.refused_table m namespace create told node lack comes says
router_owes w book at kept _ _ _ _ good reach hears h comes rest (router_moment r moment begun) = rest.given_moment moment begun comes
