-- What a message carries for a router, and what the router requests and replies then.
use Rattle.std.proofs.Common.{◌≡◌, ◌≢◌, inl, inr, ℕ, ◌+◌, ◌<◌, ◌≤◌, List, [], ◌∷◌, ◌++◌, refl, sym, ap, subst, ◌∙◌, arith, append-nil, Bool}
use Rattle.std.specs.Prelude.{Option, Some, None, true, false, not, filter, length, nat_lt, if◌then◌else◌}
use Rattle.std.specs.List.{AllByRecursion, list_any}
use Rattle.history_model.proofs.Lists.{all_weaken, all_filter, all_at, in_first, in_later}
use Rattle.base_model.specs.Refusals.{Refusal, time_ahead}
use Rattle.reply_model.specs.Accounts.{Missed}
use Rattle.reply_model.specs.Right.{IsGivenUp, given_up_lacking}
use Rattle.command_model.specs.Answers.{refusal_answer}
use Rattle.pipeline_model.specs.Stages.{Stage}
use Rattle.chunk_model.specs.Tables.{Table, first_shard}
use Rattle.command_model.specs.Writes.{WriteKind}
use Rattle.history_model.specs.History.{IsIn}
use Rattle.base_model.specs.Identities.{RequestId}
use Rattle.reply_model.specs.Exchanges.{Asked, Answered}
use Rattle.reply_model.specs.OneHistory.{IsPlaced, ids_asked}
use Rattle.reply_model.specs.Outcomes.{StatementOutcome, Done, has_outcome, dones_from, answer_of}
use Rattle.node_model.specs.Journal.{Kept, entries_kept}
use Rattle.node_model.specs.Letters.{At, Statement, Body, table_told, write_done, time_told, Letter, letter_input}
use Rattle.node_model.specs.States.{Run, Course, Telling, writing, reading, for_time, Open, Router, router_state, replaced, without}
use Rattle.node_model.specs.RouterRequests.{id_of, heard, untold, shards_of, reached}
use Rattle.node_model.specs.RouterNext.{also_told, with_told, noted, left_of, served_in_part, settled, reply_to, adopted, next_of, was_created, Next, letters_in, replies_in, stay_in, after_next, write_on, begins_work}
use Rattle.node_model.specs.RouterRows.{as_before}
use Rattle.node_model.specs.World.{World, answered_by}
use Rattle.reply_facts.proofs.Requests.{one_asked}
use Rattle.node_laws.proofs.SeenStatements.{true_false}
use Rattle.node_laws.proofs.Outcomes.{HasMore, outcomes_below, noted_more}
use Rattle.node_laws.proofs.SentRuns.{left_long, rest_of, all_left, rest_owned, rest_next}
use Rattle.node_laws.proofs.Views.{Book, View, view_of, changes_in, chosen_time, history_in, IsShardAt, account_in}
use Rattle.node_laws.proofs.ReadFacts.{IsAwaited, WaitsFor, IsDecided}
use Rattle.node_laws.proofs.TimeFacts.{IsPast, IsHeard, HasHeard}
use Rattle.node_laws.proofs.Facts.{WasLacking, IsReached, IsNoted, IsKnownTable, IsOwned, RunFits, TableFits, IsDoneOf, BodyFits, WorkFits, AreSeen, HasTime, IsOpenOf, NodeFits, IsMet, NeighboursFit, TimeFits, SentFits, Good}
use Rattle.node_laws.proofs.Owes.{IsSaid, Owes}
use Rattle.node_laws.proofs.Lists.{map_longer}
use Rattle.node_laws.proofs.Choices.{chosen_last, none_of_others}
use Rattle.node_laws.proofs.Journals.{later_self}
use Rattle.node_laws.proofs.Growth.{known_grows, seen_grows, met_max}
use Rattle.node_laws.proofs.OpenRequests.{IsOpenWith, all_replaced, parted_replaced}
use Rattle.node_laws.proofs.NextRequests.{NextIs, left_by, sent_by, told_by}
use Rattle.node_laws.proofs.NextCases.{IsTask}
use Rattle.node_laws.proofs.Raises.{next_raises, begins_raises, write_raises, settled_unsent}
use Rattle.node_laws.proofs.HeardTimes.{TellsTime, all_told, first_of_all, told_past}
use Rattle.node_laws.proofs.CatalogueTables.{placed_first}
use Rattle.node_laws.proofs.KnownTables.{all_adopted}
use Rattle.node_laws.proofs.AnswerTimes.{refusal_below, write_below}
use Rattle.node_laws.proofs.ReadTimes.{reads_of, reached_time}
use Rattle.node_laws.proofs.RouterAnswers.{as_answered, answer_fits, ahead_right, NotedFits, noted_fits, wrote_right}
use Rattle.node_laws.proofs.OpenFacts.{opener_of, letter_stays}
use Rattle.node_laws.proofs.Goings.{write_goes, begins_goes}
use Rattle.node_laws.proofs.NextFacts.{IsToldRightly, next_fits}
use Rattle.node_laws.proofs.NextKeeps.{write_keeps, begins_keeps, next_keeps}
use Rattle.node_laws.proofs.RouterLater.{IsKept, goes_to, tells, goes_owes}
use Rattle.node_laws.proofs.RouterForms.{not_ahead, IsBehind, each_open, risen_open, known_tables, came_by, turns_stay, quiet, no_answers, each_owes, next_owes, told_owes}

-- what becomes of each open request where a message carries a table
abbrev next_by : Router → Letter → Option Table → (namespace : List ℕ) → (create : Bool) → At → Open → Next
next_by r m table namespace create told q = next_of r (heard r m) (adopted table r.tables) namespace (was_created create table) told q

abbrev learns : Router → Letter → Option Table → (namespace : List ℕ) → (create : Bool) → At → Router
learns r m table namespace create told = goes_to r (heard r m) r.moment (adopted table r.tables) (left_by (next_by r m table namespace create told) r.requests) (as_before r)

-- the number of a request that was taken
in_ids : (a : Asked) (asked : List Asked) → IsIn a asked → IsIn a.id (ids_asked asked)
in_ids a asked (front, back, e) =
    (ids_asked front, ids_asked back, ap (λ l. ids_asked l) e ∙ map_longer (λ (b : Asked). b.id) front (a ∷ back))

-- a time that is decided for one request is for no other of its router's life
not_others : (r : Router) (count at n : ℕ) → n ≢ count → chosen_time (id_of r n) (record { id = id_of r count; at = at } ∷ []) ≡ None
not_others r count at n other =
    none_of_others (id_of r n) (record { id = id_of r count; at = at } ∷ []) ((λ e. other (sym (ap (λ (i : RequestId). i.count) e))), tt)

-- an open request stays one where a shard returned its time to it
open_told : (v : View) (asked : List Asked) (answered : List Answered) (r : Router) (q : Open) (shard : ℕ) → IsOpenOf v asked answered r q
    → IsOpenOf v asked answered r (with_told q shard)
open_told v asked answered r q shard o = record {
  request = o.request;
  taken = o.taken;
  own = o.own;
  link = o.link;
  number = o.number;
  asks = o.asks;
  arrived = o.arrived;
  past = o.past;
  reached = o.reached;
  silent = o.silent;
  work = o.work;
  seen = o.seen;
  sent = o.sent;
  parts = o.parts;
}

-- a message that returns a time says so of its sender
pub time_said : (w : World) (book : Book) (m : Letter) → SentFits (view_of w.nodes book) w.changed w.asked w.answered w.given m
    → TellsTime (view_of w.nodes book) w.asked w.answered (letter_input m)
time_said w book m comes = λ id says. subst (λ b. TimeFits (view_of w.nodes book) w.changed w.asked w.answered m.sender m.time b) says comes.2

-- what is left of some runs is among what is left of all
left_among : (answers : List (Option StatementOutcome)) (p : Run → Bool) (runs : List Run)
    → AllByRecursion (λ run. IsIn run (left_of answers runs)) (left_of answers (filter p runs))
left_among answers p [] = tt
left_among answers p (run ∷ runs) = by_test (p run) (left_among answers p runs)
  where
    others : (rest : List ℕ) (xs : List Run) → AllByRecursion (λ x. IsIn x (left_of answers runs)) xs
        → AllByRecursion (λ x. IsIn x (elim rest as (λ (l : List ℕ). List Run) [
          | [] ↦ left_of answers runs
          | i ∷ indices ↦ record { shard = run.shard; sent = run.sent; indices = i ∷ indices } ∷ left_of answers runs
        ])) xs
    others [] xs all = all
    others (i ∷ indices) xs all = all_weaken (λ x. IsIn x (left_of answers runs))
        (λ x. IsIn x (record { shard = run.shard; sent = run.sent; indices = i ∷ indices } ∷ left_of answers runs)) xs
        (λ x j. in_later x (record { shard = run.shard; sent = run.sent; indices = i ∷ indices }) (left_of answers runs) j) all

    own : (rest : List ℕ) (xs : List Run) → AllByRecursion (λ x. IsIn x (left_of answers runs)) xs
        → AllByRecursion (λ x. IsIn x (elim rest as (λ (l : List ℕ). List Run) [
          | [] ↦ left_of answers runs
          | i ∷ indices ↦ record { shard = run.shard; sent = run.sent; indices = i ∷ indices } ∷ left_of answers runs
        ])) (elim rest as (λ (l : List ℕ). List Run) [
          | [] ↦ xs
          | i ∷ indices ↦ record { shard = run.shard; sent = run.sent; indices = i ∷ indices } ∷ xs
        ])
    own [] xs all = all
    own (i ∷ indices) xs all = (
      in_first (record { shard = run.shard; sent = run.sent; indices = i ∷ indices }) (left_of answers runs),
      all_weaken (λ x. IsIn x (left_of answers runs))
          (λ x. IsIn x (record { shard = run.shard; sent = run.sent; indices = i ∷ indices } ∷ left_of answers runs)) xs
          (λ x j. in_later x (record { shard = run.shard; sent = run.sent; indices = i ∷ indices }) (left_of answers runs) j) all,
    )

    by_test : (b : Bool) → AllByRecursion (λ x. IsIn x (left_of answers runs)) (left_of answers (filter p runs))
        → AllByRecursion (λ x. IsIn x (left_of answers (run ∷ runs))) (left_of answers (if b then run ∷ filter p runs else filter p runs))
    by_test true all = own (filter (λ i. not (has_outcome answers i)) run.indices) (left_of answers (filter p runs)) all
    by_test false all = others (filter (λ i. not (has_outcome answers i)) run.indices) (left_of answers (filter p runs)) all

module _ (w : World) (book : Book) (at : ℕ) (kept : List Kept) (r : Router) (good : Good w book)
    (h : NodeFits (view_of w.nodes book) w.asked w.answered w.given at (record { state = router_state r; kept = kept }))
    (reach : AllByRecursion (IsReached book.reached r) r.requests)
    (m : Letter) (comes : SentFits (view_of w.nodes book) w.changed w.asked w.answered w.given m) where
  abbrev Behind : View → Type 0
  Behind v = IsBehind w book at kept r good h reach v

  -- the router's time after the message
  pub later : r.time ≤ heard r m
  later = omega arith

  met_time : IsMet (view_of w.nodes book) w.given (heard r m)
  met_time = met_max (view_of w.nodes book) w.given r.time m.time h.met comes.1

  pub body_in : (v : View) → Behind v → (b : Body) → m.body ≡ b → BodyFits v w.asked m.sender m.receiver m.time b
  body_in v behind b says = subst (λ x. BodyFits v w.asked m.sender m.receiver m.time x) says (letter_stays (view_of w.nodes book) v w.asked m behind.0 comes.0)

  pub heard_met : IsMet (view_of w.nodes book) w.given (heard r m)
  heard_met = met_time

  -- A TABLE

  adopts : (v : View) → Behind v → (namespace : List ℕ) (told : At) (table : Option Table) → TableFits v m.time namespace told table
      → AllByRecursion (IsKnownTable v (heard r m)) (adopted table r.tables)
  adopts v behind namespace told table fit =
      all_adopted (IsKnownTable v (heard r m)) table r.tables (λ t same. of_table t (subst (λ x. TableFits v m.time namespace told x) same fit))
      (known_tables w book at kept r good h reach v behind (heard r m) later)
    where
      of_table : (t : Table) → TableFits v m.time namespace told (Some t) → IsKnownTable v (heard r m) t
      of_table t f = known_grows v v m.time (heard r m) t (later_self v) (omega arith) f.0

  pub learn_owes : (namespace : List ℕ) (create : Bool) (told : At) (table : Option Table) → m.body ≡ table_told namespace create told table
      → Owes w book at (record { state = router_state r; kept = kept })
      (tells (as_before r) (sent_by (next_by r m table namespace create told) r.requests) (told_by (next_by r m table namespace create told) r.requests))
      (router_state (learns r m table namespace create told))
  learn_owes namespace create told table says =
      each_owes w book at kept r good h reach (next_by r m table namespace create told) (heard r m) r.moment (adopted table r.tables) later met_time
      (λ q. next_keeps r (heard r m) (adopted table r.tables) namespace (was_created create table) told q)
      (λ q. next_raises r (heard r m) (adopted table r.tables) namespace (was_created create table) told q)
      (λ v behind. adopts v behind namespace told table (body_in v behind (table_told namespace create told table) says))
      (λ v behind given n known met q o noted reaching.
      next_fits v w.asked w.answered (w.answered ++ answered_by w.now (told_by (next_by r m table namespace create told) r.requests)) book.cursors w.given r
      (learns r m table namespace create told) w.now m.time namespace create told table r.tables n met later
      (body_in v behind (table_told namespace create told table) says) known q o (came_by w book at kept r good h reach o.request o.taken) noted)

  -- A TIME

  open_now : (q : Open) → IsIn q r.requests → IsOpenOf (view_of w.nodes book) w.asked w.answered r q
  open_now q stands = all_at (IsOpenOf (view_of w.nodes book) w.asked w.answered r) q r.requests h.state.requests stands

  -- what an open read waits for
  awaited : (v : View) (q : Open) (a : Asked) (named : Bool) (at : ℕ) (stages : List Stage) (telling : Telling) → q.work ≡ reading named at stages telling
      → q.wait ≡ for_time
      → HasTime v a (id_of r q.count) r.time q.wait q.work → IsAwaited v a (id_of r q.count) at
  awaited v q a named at stages telling work wait (inl (e, f)) = subst (λ x. WaitsFor v a (id_of r q.count) x) work f
  awaited v q a named at stages telling work wait (inr (w, e, d)) = absurd (w wait)

  pub reach_owes : (q : Open) (named : Bool) (time : ℕ) (stages : List Stage) (telling : Telling) → IsIn q r.requests
      → q.work ≡ reading named time stages telling → q.wait ≡ for_time
      → time ≤ heard r m
      → Owes w book at (record { state = router_state r; kept = kept })
      (tells (as_before r) (letters_in (begins_work r (heard r m) q (reached (heard r m) q.work)))
      (replies_in (begins_work r (heard r m) q (reached (heard r m) q.work))))
      (router_state (goes_to r (heard r m) r.moment r.tables (after_next q (begins_work r (heard r m) q (reached (heard r m) q.work)) r.requests) (as_before r)))
  reach_owes q named time stages telling stands work wait le =
      subst (λ x. Owes w book at (record { state = router_state r; kept = kept })
      (tells (as_before r) (letters_in (begins_work r (heard r m) q (reached (heard r m) x))) (replies_in (begins_work r (heard r m) q (reached (heard r m) x))))
      (router_state (goes_to r (heard r m) r.moment r.tables (after_next q (begins_work r (heard r m) q (reached (heard r m) x)) r.requests)
      (as_before r)))) (sym work)
      (next_owes w book at kept r good h reach q (begins_work r (heard r m) q (reading named (if named then time else heard r m) stages telling)) (heard r m)
      (record { id = id_of r q.count; at = if named then time else heard r m } ∷ []) stands
      (begins_keeps r (heard r m) q (reading named (if named then time else heard r m) stages telling))
      (begins_raises r (heard r m) q (reading named (if named then time else heard r m) stages telling) (subst (λ x. IsTask x) (sym work) tt)) later met_time
      ((h.state.own, asked_now (open_now q stands)), tt)
      (λ n other. not_others r q.count (if named then time else heard r m) n other)
      (λ said v behind chosen given n known met noted reaching.
      let o = open_now q stands in
      let k = opener_of (view_of w.nodes book) w.asked w.answered r (heard r m) q later o in
      begins_goes v w.asked w.answered w.given r (goes_to r (heard r m) r.moment r.tables
      (after_next q (begins_work r (heard r m) q (reading named (if named then time else heard r m) stages telling)) r.requests) (as_before r)) met known
      (IsToldRightly v w.asked said book.cursors (heard r m) w.now) q
      (record { request = k.request; taken = k.taken; own = k.own; link = k.link; number = k.number; asks = k.asks; arrived = k.arrived; past = k.past; silent = k.silent })
      (reading named (if named then time else heard r m) stages telling) (does o) tt
      (λ ahead. absurd (true_false (sym ahead ∙ in_time named))) (λ e. decided v chosen o) noted))
    where
      in_time : (b : Bool) → nat_lt (heard r m) (if b then time else heard r m) ≡ false
      in_time true = not_ahead (heard r m) time le
      in_time false = not_ahead (heard r m) (heard r m) (omega arith)

      asked_now : IsOpenOf (view_of w.nodes book) w.asked w.answered r q → IsIn (id_of r q.count) (ids_asked w.asked)
      asked_now o = subst (λ i. IsIn i (ids_asked w.asked)) o.own (in_ids o.request w.asked o.taken)

      waits : (o : IsOpenOf (view_of w.nodes book) w.asked w.answered r q) → IsAwaited (view_of w.nodes book) o.request (id_of r q.count) time
      waits o = awaited (view_of w.nodes book) q o.request named time stages telling work wait o.reached

      does : (o : IsOpenOf (view_of w.nodes book) w.asked w.answered r q)
          → WorkFits o.request q.namespace (reading named (if named then time else heard r m) stages telling)
      does o =
          let old : WorkFits o.request q.namespace (reading named time stages telling) = subst (λ x. WorkFits o.request q.namespace x) work o.work in
          record {
            read = old.read;
            tells = old.tells;
            name = old.name;
            words = old.words;
            time = reached_time (view_of w.nodes book) o.request (id_of r q.count) old.read time (heard r m) named
                (reads_of o.request old.read telling old.tells) old.time (waits o) le;
          }

      decided : (v : View) → v.chosen ≡ book.chosen ++ record { id = id_of r q.count; at = if named then time else heard r m } ∷ []
          → (o : IsOpenOf (view_of w.nodes book) w.asked w.answered r q)
          → IsDecided v (id_of r q.count) (reading named (if named then time else heard r m) stages telling)
      decided v chosen o =
          ap (λ l. chosen_time (id_of r q.count) l) chosen
          ∙ chosen_last (id_of r q.count) (if named then time else heard r m) book.chosen (waits o).undecided

  -- a shard returned its time, and others have not
  pub hear_owes : (id : RequestId) (q : Open) → IsOpenWith r id q
      → Owes w book at (record { state = router_state r; kept = kept }) (tells (as_before r) [] [])
      (router_state (goes_to r (heard r m) r.moment r.tables (replaced (with_told q m.sender) r.requests) (as_before r)))
  hear_owes id q found =
      goes_owes w book at r h.state good kept (heard r m) r.moment r.tables (replaced (with_told q m.sender) r.requests) (as_before r) [] [] later h.within
      met_time (parted_replaced r (with_told q m.sender) r.requests h.state.different)
      (quiet w book at kept r good h reach (heard r m) r.moment r.tables (replaced (with_told q m.sender) r.requests) later
      (all_replaced (IsReached book.reached r) (with_told q m.sender) r.requests (all_at (IsReached book.reached r) q r.requests reach found.stands)
      (all_weaken (IsReached book.reached r) (λ (p : Open). p.count ≢ q.count → IsReached book.reached r p) r.requests (λ p le other. le) reach)))
      (λ v grows others chosen cursors given noted reached.
      let rise = risen_open w book at kept r good h reach v (grows, others) chosen
      (goes_to r (heard r m) r.moment r.tables (replaced (with_told q m.sender) r.requests) (as_before r)) later in
      record {
        tables = known_tables w book at kept r good h reach v (grows, others) (heard r m) later;
        requests = all_replaced
            (IsOpenOf v w.asked w.answered (goes_to r (heard r m) r.moment r.tables (replaced (with_told q m.sender) r.requests) (as_before r)))
            (with_told q m.sender) r.requests
            (open_told v w.asked w.answered (goes_to r (heard r m) r.moment r.tables (replaced (with_told q m.sender) r.requests) (as_before r)) q m.sender
            (all_at (IsOpenOf v w.asked w.answered (goes_to r (heard r m) r.moment r.tables (replaced (with_told q m.sender) r.requests) (as_before r))) q
            r.requests rise found.stands))
            (all_weaken
            (IsOpenOf v w.asked w.answered (goes_to r (heard r m) r.moment r.tables (replaced (with_told q m.sender) r.requests) (as_before r)))
            (λ (p : Open). p.count ≢ q.count
            → IsOpenOf v w.asked w.answered (goes_to r (heard r m) r.moment r.tables (replaced (with_told q m.sender) r.requests) (as_before r)) p)
            r.requests (λ p o other. o) rise);
        letters = tt;
        answers = no_answers w book at kept r good h reach v cursors;
        below = tt;
        times = tt;
      })

  -- all shards returned their times, so that no entry of a write that was answered before the request came is above the router's time
  told_before : (v : View) → Behind v → (q : Open) (id : RequestId) → m.body ≡ time_told id → IsOpenWith r id q
      → HasHeard (view_of w.nodes book) w.asked w.answered r → untold (also_told q.told m.sender) (shards_of r) ≡ []
      → (a : Asked) → IsIn a w.asked → a.id ≡ id_of r q.count → IsPast v first_shard w.answered a (heard r m)
  told_before v behind q id says found hears all a taken own =
      let x = all_at (IsHeard (view_of w.nodes book) w.asked w.answered r) q r.requests hears.requests found.stands in
      let same : x.request ≡ a = one_asked x.request a w.asked good.one x.taken taken (x.own ∙ sym own) in
      let stored : history_in v ≡ history_in (view_of w.nodes book) =
      ap (λ l. entries_kept l) (behind.1 first_shard (λ e. let place = h.state.place in omega (arith, e, place))) in
      let past : AllByRecursion (λ shard. IsPast v shard (w.answered ++ []) x.request (heard r m)) (also_told q.told m.sender) =
      told_past (view_of w.nodes book) v w.asked [] w.answered [] w.now stored good.came tt good.one r (heard r m) q m later (omega arith)
      (says ∙ ap (λ i. time_told i) found.own) (time_said w book m comes) x in
      first_of_all (λ shard. IsPast v shard w.answered a (heard r m)) r.shards hears.some
      (all_told (λ shard. IsPast v shard w.answered a (heard r m)) (also_told q.told m.sender) (shards_of r) all
      (subst (λ b. AllByRecursion (λ shard. IsPast v shard w.answered b (heard r m)) (also_told q.told m.sender)) same
      (subst (λ l. AllByRecursion (λ shard. IsPast v shard l x.request (heard r m)) (also_told q.told m.sender)) (append-nil w.answered) past)))

  pub ahead_owes : (id : RequestId) (q : Open) (named : Bool) (time : ℕ) (stages : List Stage) (telling : Telling) → m.body ≡ time_told id → IsOpenWith r id q
      → q.work ≡ reading named time stages telling → q.wait ≡ for_time → heard r m < time
      → HasHeard (view_of w.nodes book) w.asked w.answered r → untold (also_told q.told m.sender) (shards_of r) ≡ []
      → Owes w book at (record { state = router_state r; kept = kept })
      (tells (as_before r) [] (reply_to r (heard r m) q (refusal_answer (time_ahead (heard r m))) ∷ []))
      (router_state (goes_to r (heard r m) r.moment r.tables (without q.count r.requests) (as_before r)))
  ahead_owes id q named time stages telling says found work wait ahead hears all =
      told_owes w book at kept r good h reach q (refusal_answer (time_ahead (heard r m))) (heard r m) (as_before r) book.cursors found.stands later met_time tt
      (turns_stay w book at kept r good h reach (heard r m) r.moment r.tables (without q.count r.requests) later)
      (λ v behind o n. (
        answer_fits v w.asked w.answered (w.answered ++ as_answered w.now (reply_to r (heard r m) q (refusal_answer (time_ahead (heard r m)))) ∷ []) r
            (heard r m) w.now q (refusal_answer (time_ahead (heard r m))) book.cursors book.cursors o later
            (came_by w book at kept r good h reach o.request o.taken)
            (ahead_right v w.asked (w.answered ++ as_answered w.now (reply_to r (heard r m) q (refusal_answer (time_ahead (heard r m)))) ∷ []) book.cursors
            o.request
            (as_answered w.now (reply_to r (heard r m) q (refusal_answer (time_ahead (heard r m))))) (id_of r q.count) time first_shard (heard r m) w.now w.answered
            (awaited v q o.request named time stages telling work wait o.reached) (told_before v behind q id says found hears all o.request o.taken o.own)
            (λ e i. placed_first (changes_in v) n.begun.still e (all_at (IsPlaced (changes_in v)) e (history_in v) n.placed i))
            (omega arith) ahead
            (came_by w book at kept r good h reach o.request o.taken) refl refl refl),
        refusal_below (heard r m) (time_ahead (heard r m)),
      ))

  -- OUTCOMES

  seen_in : (v : View) (q : Open) (kind : WriteKind) (ordered : Bool) (statements : List Statement) (c : Course) → q.work ≡ writing kind ordered statements c
      → (o : IsOpenOf v w.asked w.answered r q) → AreSeen v (heard r m) o.request (writing kind ordered statements c)
  seen_in v q kind ordered statements c work o =
      subst (λ x. AreSeen v (heard r m) o.request x) work (seen_grows v v r.time (heard r m) o.request q.work (later_self v) later o.seen)

  -- what is noted of an open write
  noted_in : (v : View) → Behind v
      → (id : RequestId) (dones : List Done) (q : Open) (kind : WriteKind) (ordered : Bool) (statements : List Statement) (c : Course)
      → m.body ≡ write_done id dones
      → id ≡ id_of r q.count → q.work ≡ writing kind ordered statements c → (o : IsOpenOf v w.asked w.answered r q)
      → NotedFits (WasLacking v) v o.request (heard r m) q.namespace kind ordered statements (noted ordered c.answers dones)
  noted_in v behind id dones q kind ordered statements c says own work o =
      let done : IsShardAt m.sender × IsDoneOf v w.asked m.sender m.time id dones = body_in v behind (write_done id dones) says in
      noted_fits v w.asked o.request m.sender m.time (heard r m) id q.namespace kind ordered statements c dones good.one o.taken (o.own ∙ sym own)
      (subst (λ x. WorkFits o.request q.namespace x) work o.work) (seen_in v q kind ordered statements c work o) (omega arith) done.0 done.1

  -- what is left of the runs fits, with the outcomes that are noted
  runs_left : (v : View) (namespace : List ℕ) (ordered : Bool) (statements : List Statement) (old new : List (Option StatementOutcome)) (runs : List Run)
      → HasMore old new → AllByRecursion (RunFits v (heard r m) namespace ordered statements old) runs
      → AllByRecursion (RunFits v (heard r m) namespace ordered statements new) (left_of new runs)
  runs_left v namespace ordered statements old new runs more all =
      all_left (RunFits v (heard r m) namespace ordered statements new) new runs
      (all_weaken (RunFits v (heard r m) namespace ordered statements old) (λ run. RunFits v (heard r m) namespace ordered statements new (rest_of new run)) runs
      (λ run f. record {
        version = f.version;
        within = all_filter (λ i. i < length statements) (λ i. not (has_outcome new i)) run.indices f.within;
        owned = rest_owned (IsOwned v (heard r m) namespace run.shard) statements new run f.owned;
        next = λ in_order. rest_next statements old new run more (f.next in_order);
      }) all)

  -- a lack that is noted was one by now
  pub given_by : (said : List Answered) (v : View) → IsKept v w → {q : Open} → (o : IsOpenOf v w.asked w.answered r q) → (t : Answered) → t.step ≡ w.now
      → (refusal : Refusal) → WasLacking v refusal → IsGivenUp (account_in v w.asked said) o.request t refusal
  given_by said v k o t now refusal lacking =
      let had = lacking.had in
      let before : had.missed.step < w.now + 1 = all_at (λ (x : Missed). x.step < w.now + 1) had.missed v.missed k.lacks had.had in
      subst (λ x. IsGivenUp (account_in v w.asked said) o.request t x) (sym lacking.is)
      (given_up_lacking lacking.node lacking.lack (record {
        missed = had.missed;
        had = had.had;
        own = had.own;
        same = had.same;
        before = omega (arith, before, now);
      }))

  pub note_owes : (id : RequestId) (dones : List Done) (q : Open) (kind : WriteKind) (ordered : Bool) (statements : List Statement) (c : Course)
      → m.body ≡ write_done id dones
      → IsOpenWith r id q → q.work ≡ writing kind ordered statements c → (next : Next)
      → next ≡ write_on r (heard r m) r.tables ordered (served_in_part (noted ordered c.answers dones) c.runs) q kind ordered statements
      (settled c (noted ordered c.answers dones))
      → Owes w book at (record { state = router_state r; kept = kept }) (tells (as_before r) (letters_in next) (replies_in next))
      (router_state (goes_to r (heard r m) r.moment r.tables (after_next q next r.requests) (as_before r)))
  note_owes id dones q kind ordered statements c says found work next is =
      subst (λ x. Owes w book at (record { state = router_state r; kept = kept }) (tells (as_before r) (letters_in x) (replies_in x))
      (router_state (goes_to r (heard r m) r.moment r.tables (after_next q x r.requests) (as_before r)))) (sym is)
      (next_owes w book at kept r good h reach q (write_on r (heard r m) r.tables ordered Again q kind ordered statements (settled c New)) (heard r m) [] found.stands
      (write_keeps r (heard r m) r.tables ordered Again q kind ordered statements (settled c New))
      (write_raises r (heard r m) r.tables ordered Again q kind ordered statements c (settled c New) work
      (settled_unsent statements c New (noted_more ordered c.answers dones))) later met_time tt (λ n other. refl)
      (λ said v behind chosen given n known met noted reaching.
      let o = all_at (IsOpenOf v w.asked w.answered r) q r.requests (each_open w book at kept r good h reach v behind (chosen)) found.stands in
      goes said v behind given n known met o noted))
    where
      New : List (Option StatementOutcome)
      New = noted ordered c.answers dones

      Again : List Run
      Again = served_in_part New c.runs

      After : Router
      After = goes_to r (heard r m) r.moment r.tables
          (after_next q (write_on r (heard r m) r.tables ordered Again q kind ordered statements (settled c New)) r.requests) (as_before r)

      goes : (said : List Answered) (v : View) → Behind v → IsKept v w → NeighboursFit v w.asked → (known : AllByRecursion (IsKnownTable v (heard r m)) r.tables)
          → (met : IsMet v w.given (heard r m)) → (o : IsOpenOf v w.asked w.answered r q)
          → AllByRecursion (IsNoted v.reached r) (stay_in (write_on r (heard r m) r.tables ordered Again q kind ordered statements (settled c New)))
          → NextIs (IsOpenOf v w.asked w.answered After) (IsSaid v w.asked w.given) (IsToldRightly v w.asked said book.cursors (heard r m) w.now)
          (write_on r (heard r m) r.tables ordered Again q kind ordered statements (settled c New))
      goes said v behind kept_so n known met o noted =
          let f = noted_in v behind id dones q kind ordered statements c says found.own work o in
          let seen = seen_in v q kind ordered statements c work o f.write f.asks in
          let more : HasMore c.answers New = noted_more ordered c.answers dones in
          write_goes v w.asked w.answered w.given r After met r.tables known (IsToldRightly v w.asked said book.cursors (heard r m) w.now) ordered Again q
          (opener_of v w.asked w.answered r (heard r m) q later o) kind ordered statements (settled c New)
          (record {
            write = f.write;
            asks = f.asks;
            is = f.is;
            name = f.name;
            order = f.order;
            all = f.all;
            long = f.long;
            front = f.front;
            outcomes = f.outcomes;
            begun = f.begun;
            one = λ in_order. left_long New c.runs ((subst (λ x. WorkFits o.request q.namespace x) work o.work).6.one in_order);
            runs = runs_left v f.write.namespace ordered statements c.answers New c.runs more seen.1;
            again_fits = runs_left v f.write.namespace ordered statements c.answers New Again more
                (all_filter (RunFits v (heard r m) f.write.namespace ordered statements c.answers) (λ (run : Run). list_any (has_outcome New) run.indices) c.runs
                seen.1);
            again_in = left_among New (λ (run : Run). list_any (has_outcome New) run.indices) c.runs;
          })
          (λ whole. (
            answer_fits v w.asked w.answered said r (heard r m) w.now q (answer_of kind (heard r m) (dones_from 0 New)) book.cursors book.cursors o later
                (came_by w book at kept r good h reach o.request o.taken)
                (wrote_right (WasLacking v) v w.asked said book.cursors o.request (as_answered w.now (reply_to r (heard r m) q (answer_of kind (heard r m) (dones_from 0 New))))
                q.namespace kind ordered statements New (λ refusal lacking. given_by said v kept_so o (as_answered w.now (reply_to r (heard r m) q (answer_of kind (heard r m) (dones_from 0 New)))) refl refusal lacking) f
                (record {
                  around = n;
                  taken = o.taken;
                  asks = f.asks;
                  own = o.own;
                  came = all_weaken (λ (a : Asked). a.came < w.now + 1) (λ (a : Asked). a.came ≤ w.now) w.asked (λ a l. omega arith) good.came;
                }) whole refl),
            write_below (heard r m) kind (heard r m) (dones_from 0 New) (omega arith)
                (outcomes_below (WasLacking v) (history_in v) (heard r m) f.write o.request.id 0 New f.outcomes),
            refl,
          )) noted
