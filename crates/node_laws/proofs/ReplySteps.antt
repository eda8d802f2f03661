-- What a reply says of the catalogue was so by its step.
use Rattle.std.proofs.Common.{◌≡◌, ◌⊎◌, inl, inr, ℕ, ◌+◌, ◌<◌, List, [], ◌∷◌, ◌++◌, refl, sym, ap, subst, ◌∙◌, arith, Bool}
use Rattle.std.specs.Prelude.{Some, None, Result, Ok, Err, true, false, nat_lt, if◌then◌else◌}
use Rattle.std.specs.List.{AllByRecursion}
use Rattle.std.proofs.lemmas.Bool.Decides.{nat_tests}
use Rattle.history_model.proofs.Lists.{all_weaken, all_append}
use Rattle.bson_model.specs.Tree.{Fields}
use Rattle.base_model.specs.Errors.{namespace_not_sharded}
use Rattle.base_model.specs.Refusals.{Refusal, without_evidence}
use Rattle.base_model.specs.ReplyParts.{operation_time}
use Rattle.command_model.specs.Writes.{WriteCommand}
use Rattle.command_model.specs.Split.{SplitCommand}
use Rattle.command_model.specs.Reading.{Reading}
use Rattle.command_model.specs.Command.{Command, hello_command, legacy_command, ping_command, end_sessions_command, write_command, find_command, count_command, more_command, kill_command, shard_collection_command, split_command, command_of}
use Rattle.command_model.specs.Answers.{changed_answer, sharded_answer, refusal_answer, answer_document}
use Rattle.command_model.proofs.AnswerTimes.{time_of_changed, time_refused}
use Rattle.chunk_model.specs.Changes.{Change}
use Rattle.reply_model.specs.Exchanges.{Asked, Answered}
use Rattle.reply_model.specs.Accounts.{Dated, Account, changes_in as changes_of}
use Rattle.reply_model.specs.Cursors.{Cursor}
use Rattle.reply_model.specs.Right.{Reads, find_reads, count_reads, WasCreated, WasSplit, not_sharded, IsRight, right_write, right_find, right_count, right_refused_read, right_stale, right_given_up, IsOneTask, right_more, right_no_cursor, right_kill, right_shard, right_split, right_not_sharded, right_hello, right_legacy, right_ping, right_end_sessions, right_refusal}
use Rattle.reply_model.specs.OneHistory.{Shows, changes_before, changes_by}
use Rattle.reply_facts.proofs.RightAnswers.{TellsSharded, TellsSplit, TellsGivenUp, right_of}
use Rattle.node_model.specs.Journal.{Kept, kept_table, kept_entry, kept_change, kept_ceiling, kept_none, kept_life, kept_block}
use Rattle.node_model.specs.Letters.{Input, Reply}
use Rattle.node_model.specs.World.{World, answered_by, dated_onto, after, is_given, tick, Moves}
use Rattle.node_laws.proofs.Views.{Book, View, view_of, changes_in, account_in}
use Rattle.node_laws.proofs.Facts.{AreCut, IsSettled, AnswersFit, no_answer, one_answer, Good}
use Rattle.node_laws.proofs.Dates.{before_stays}

-- BY CHANGES

-- what the reply says of the catalogue is so by these changes
pub record RestsOn (changes : List Change) (t : Answered) : Type 0 where
  pub created : (namespace : List ℕ) → command_of t.request ≡ Ok (shard_collection_command namespace)
      → t.document ≡ answer_document (sharded_answer namespace t.time) → WasCreated changes namespace t.time
  pub begins : (split : SplitCommand) → command_of t.request ≡ Ok (split_command split) → t.document ≡ answer_document (changed_answer t.time)
      → WasSplit changes split.namespace split.middle t.time

some_none : {X : Type 0} {x : X} → Some x ≡ None → ⊥
some_none e = cc

pub changed_differs : (time : ℕ) → answer_document (changed_answer time) ≡ not_sharded → ⊥
changed_differs time same =
    some_none (sym (time_of_changed time) ∙ ap (λ (d : Fields). operation_time (Some d)) same ∙ time_refused (without_evidence namespace_not_sharded))

changed_not_refused : (time : ℕ) (refusal : Refusal) → answer_document (changed_answer time) ≡ answer_document (refusal_answer refusal) → ⊥
changed_not_refused time refusal same =
    some_none (sym (time_of_changed time) ∙ ap (λ (d : Fields). operation_time (Some d)) same ∙ time_refused refusal)

sharded_not_refused : (namespace : List ℕ) (time : ℕ) (refusal : Refusal)
    → answer_document (sharded_answer namespace time) ≡ answer_document (refusal_answer refusal) → ⊥
sharded_not_refused namespace time refusal same = cc

pub same_write : (a b : WriteCommand) (command : Result Command Refusal) → command ≡ Ok (write_command a) → command ≡ Ok (write_command b) → a ≡ b
same_write a b command e f = cc

-- a command that does not write
abbrev pub IsNoWrite : Result Command Refusal → Type 0
IsNoWrite command = (write : WriteCommand) → command ≡ Ok (write_command write) → ⊥

pub reads_not : (command : Result Command Refusal) (read : Reading) → Reads command read → IsNoWrite command
reads_not _ _ (find_reads find) write e = cc
reads_not _ _ (count_reads read) write e = cc

pub task_not : (command : Result Command Refusal) → IsOneTask command → IsNoWrite command
task_not (Ok (find_command find)) task write e = cc
task_not (Ok (count_command read)) task write e = cc
task_not (Ok (shard_collection_command namespace)) task write e = cc
task_not (Ok (split_command split)) task write e = cc
task_not (Ok (write_command own)) task write e = absurd task
task_not (Ok hello_command) task write e = absurd task
task_not (Ok (legacy_command legacy)) task write e = absurd task
task_not (Ok ping_command) task write e = absurd task
task_not (Ok end_sessions_command) task write e = absurd task
task_not (Ok (more_command more)) task write e = absurd task
task_not (Ok (kill_command kill)) task write e = absurd task
task_not (Err refusal) task write e = absurd task

pub other_not : (command other : Result Command Refusal) (write : WriteCommand) → command ≡ other → command ≡ Ok (write_command write) → IsNoWrite other → ⊥
other_not command other write is asks not = not write (sym is ∙ asks)

module _ (account : Account) (cursors : List Cursor) (a : Asked) (t : Answered) where
  -- the outcomes that the reply to a write shows reach as far as its statements were sent
  pub shows_cut : (v : View) (next : List Cursor) (write : WriteCommand) → command_of a.request ≡ Ok (write_command write)
      → (right : IsRight account cursors a t next) → IsSettled v account cursors a t next right
      → (shown : Shows account a t write) × (write.ordered ≡ true → AreCut v.reached a.id shown.dones)
  shows_cut v _ write asks (right_write other dones wants may whole created says) settled =
      subst (λ (x : WriteCommand). (shown : Shows account a t x) × (x.ordered ≡ true → AreCut v.reached a.id shown.dones))
      (same_write other write (command_of a.request) wants asks) (record { dones = dones; told = may; same = says }, settled.1)
  shows_cut v _ write asks (right_find find time documents batch next wants of may small name at shows says) settled =
      absurd (other_not _ _ write wants asks (λ w e. cc))
  shows_cut v _ write asks (right_count read time n wants of may says) settled = absurd (other_not _ _ write wants asks (λ w e. cc))
  shows_cut v _ write asks (right_refused_read read reads refused) settled = absurd (reads_not (command_of a.request) read reads write asks)
  shows_cut v _ write asks (right_stale read tries reads were says) settled = absurd (reads_not (command_of a.request) read reads write asks)
  shows_cut v _ write asks (right_given_up refusal task why says) settled = absurd (task_not (command_of a.request) task write asks)
  shows_cut v _ write asks (right_more more c batch next wants found shows says) settled = absurd (other_not _ _ write wants asks (λ w e. cc))
  shows_cut v _ write asks (right_no_cursor more wants none says) settled = absurd (other_not _ _ write wants asks (λ w e. cc))
  shows_cut v _ write asks (right_kill kill killed missing next wants closed says) settled = absurd (other_not _ _ write wants asks (λ w e. cc))
  shows_cut v _ write asks (right_shard namespace wants created says) settled = absurd (other_not _ _ write wants asks (λ w e. cc))
  shows_cut v _ write asks (right_split split wants begins says) settled = absurd (other_not _ _ write wants asks (λ w e. cc))
  shows_cut v _ write asks (right_not_sharded split wants says) settled = absurd (other_not _ _ write wants asks (λ w e. cc))
  shows_cut v _ write asks (right_hello wants says) settled = absurd (other_not _ _ write wants asks (λ w e. cc))
  shows_cut v _ write asks (right_legacy legacy wants says) settled = absurd (other_not _ _ write wants asks (λ w e. cc))
  shows_cut v _ write asks (right_ping wants says) settled = absurd (other_not _ _ write wants asks (λ w e. cc))
  shows_cut v _ write asks (right_end_sessions wants says) settled = absurd (other_not _ _ write wants asks (λ w e. cc))
  shows_cut v _ write asks (right_refusal refusal wants says) settled = absurd (other_not _ _ write wants asks (λ w e. cc))

  split_rests : (next : List Cursor) (split : SplitCommand) → command_of a.request ≡ Ok (split_command split)
      → IsRight account cursors a t next → t.document ≡ answer_document (changed_answer t.time)
      → WasSplit account.changes split.namespace split.middle t.time
  split_rests next split asks right says =
      by_told (right_of account cursors a t (Ok (split_command split)) next asks right).0
    where
      by_told : TellsSplit account cursors a t split ⊎ ((t.document ≡ not_sharded) ⊎ TellsGivenUp account cursors a t)
          → WasSplit account.changes split.namespace split.middle t.time
      by_told (inl changed) = changed.begins
      by_told (inr (inl none)) = absurd (changed_differs t.time (sym says ∙ none))
      by_told (inr (inr given)) = absurd (changed_not_refused t.time given.refusal (sym says ∙ given.says))

  created_by : (namespace : List ℕ) → TellsSharded account cursors a t namespace ⊎ TellsGivenUp account cursors a t
      → t.document ≡ answer_document (sharded_answer namespace t.time) → WasCreated account.changes namespace t.time
  created_by namespace (inl sharded) says = sharded.created
  created_by namespace (inr given) says = absurd (sharded_not_refused namespace t.time given.refusal (sym says ∙ given.says))

  -- a right reply rests on the changes that it is right by
  right_rests : (next : List Cursor) → a.request ≡ t.request → IsRight account cursors a t next → RestsOn account.changes t
  right_rests next same right = record {
    created = λ namespace asks says.
        created_by namespace (right_of account cursors a t (Ok (shard_collection_command namespace)) next (ap (λ r. command_of r) same ∙ asks) right).0 says;
    begins = λ split asks says. split_rests next split (ap (λ r. command_of r) same ∙ asks) right says;
  }

pub all_rest : (v : View) (asked : List Asked) (answered : List Answered) (cursors last : List Cursor) (told : List Answered)
    → AnswersFit v asked answered cursors told last → AllByRecursion (RestsOn (changes_in v)) told
all_rest v asked answered _ _ _ (no_answer cursors) = tt
all_rest v asked answered _ _ _ (one_answer cursors next last t rest f others) = (
  right_rests (account_in v asked answered) cursors f.request t next f.same f.right,
  all_rest v asked answered next last rest others,
)

-- STEPS

is_before : (n step : ℕ) → n < step → nat_lt n step ≡ true
is_before n step less = grind (arith, nat_tests)

-- all changes were made before a step that is later than theirs
pub all_before : (step : ℕ) (dated : List Dated) → AllByRecursion (λ (d : Dated). d.step < step) dated → changes_before step dated ≡ changes_of dated
all_before step [] all = refl
all_before step (d ∷ dated) all =
    by_test (nat_lt d.step step) (is_before d.step step all.0) (all_before step dated all.1)
  where
    by_test : (b : Bool) → b ≡ true → changes_before step dated ≡ changes_of dated
        → (if b then d.change ∷ changes_before step dated else changes_before step dated) ≡ d.change ∷ changes_of dated
    by_test true is rest = ap (λ l. d.change ∷ l) rest
    by_test false is rest = absurd (cc)

pub steps_after : (now : ℕ) (dated : List Dated) (written : List Kept) → AllByRecursion (λ (d : Dated). d.step < now + 1) dated
    → AllByRecursion (λ (d : Dated). d.step < now + 1) (dated_onto now dated written)
steps_after now dated [] all = all
steps_after now dated (kept_change x ∷ written) all = steps_after now (record { change = x; step = now } ∷ dated) written (omega arith, all)
steps_after now dated (kept_entry e ∷ written) all = steps_after now dated written all
steps_after now dated (kept_table t ∷ written) all = steps_after now dated written all
steps_after now dated (kept_life n ∷ written) all = steps_after now dated written all
steps_after now dated (kept_block n ∷ written) all = steps_after now dated written all
steps_after now dated (kept_ceiling n ∷ written) all = steps_after now dated written all
steps_after now dated (kept_none n ∷ written) all = steps_after now dated written all

-- the reply was made before this step, and rests on what was made by its own
pub record IsBased (now : ℕ) (dated : List Dated) (t : Answered) : Type 0 where
  pub before : t.step < now
  pub rests : RestsOn (changes_by dated t) t

-- all changes and replies were made before this step, and each reply rests on the changes that were made by its own
pub record AreBased (w : World) : Type 0 where
  pub steps : AllByRecursion (λ (d : Dated). d.step < w.now) w.changed
  pub replies : AllByRecursion (IsBased w.now w.changed) w.answered

pub all_back : {X : Type 0} (P : X → Type 0) (xs ys : List X) → AllByRecursion P (xs ++ ys) → AllByRecursion P ys
all_back P [] ys all = all
all_back P (x ∷ xs) ys all = all_back P xs ys all.1

-- replies that are made now
pub based_now : (now : ℕ) (dated : List Dated) (replies : List Reply) → AllByRecursion (RestsOn (changes_before (now + 1) dated)) (answered_by now replies)
    → AllByRecursion (IsBased (now + 1) dated) (answered_by now replies)
based_now now dated [] all = tt
based_now now dated (x ∷ replies) all = (record { before = omega arith; rests = all.0 }, based_now now dated replies all.1)

-- replies that were made before
pub based_still : (now : ℕ) (dated : List Dated) (written : List Kept) (answered : List Answered) → AllByRecursion (IsBased now dated) answered
    → AllByRecursion (IsBased (now + 1) (dated_onto now dated written)) answered
based_still now dated written answered all =
    all_weaken (IsBased now dated) (IsBased (now + 1) (dated_onto now dated written)) answered
    (λ t h.
    let earlier : t.step < now = h.before in
    record {
      before = omega arith;
      rests = subst (λ l. RestsOn l t) (sym (before_stays (t.step + 1) now dated written (omega arith))) h.rests;
    })
    all

-- a step keeps it, by the facts after it
pub move_based : (w v : World) (book : Book) (at : ℕ) (i : Input) → AreBased w → Good v book → Moves w at i v → AreBased v
move_based w v book at i old good m =
    let u : World = tick (after (is_given w at i) at m.old m.f m.new) in
    let fits : Good u book = subst (λ x. Good x book) m.then good in
    let steps : AllByRecursion (λ (d : Dated). d.step < w.now + 1) u.changed =
    steps_after w.now w.changed m.f.written
    (all_weaken (λ (d : Dated). d.step < w.now) (λ (d : Dated). d.step < w.now + 1) w.changed (λ d less. omega arith) old.steps) in
    let same : changes_in (view_of u.nodes book) ≡ changes_before (w.now + 1) u.changed = sym fits.dated ∙ sym (all_before (w.now + 1) u.changed steps) in
    let all : AllByRecursion (RestsOn (changes_before (w.now + 1) u.changed)) u.answered =
    subst (λ l. AllByRecursion (RestsOn l) u.answered) same (all_rest (view_of u.nodes book) u.asked u.answered [] book.cursors u.answered fits.answers) in
    subst (λ x. AreBased x) (sym m.then)
    (record {
      steps = steps;
      replies = all_append (IsBased (w.now + 1) u.changed) w.answered (answered_by w.now m.f.replies)
          (based_still w.now w.changed m.f.written w.answered old.replies)
          (based_now w.now u.changed m.f.replies
          (all_back (RestsOn (changes_before (w.now + 1) u.changed)) w.answered (answered_by w.now m.f.replies) all));
    })
