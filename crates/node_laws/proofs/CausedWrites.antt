-- What a reply to a write says of the catalogue was so by its step.
use Rattle.std.proofs.Common.{◌≡◌, ℕ, ◌+◌, ◌<◌, List, [], ◌∷◌, ◌++◌, refl, sym, ap, subst, ◌∙◌, arith, append-nil, Bool}
use Rattle.std.specs.Prelude.{Some, Ok, true, false, ◌==◌}
use Rattle.std.specs.List.{AllByRecursion, slice_get, slice_set}
use Rattle.std.proofs.lemmas.Bool.{eqb-true, eqb-false}
use Rattle.history_model.proofs.Lists.{all_weaken, all_both, all_append, in_prefix}
use Rattle.history_model.specs.History.{IsIn}
use Rattle.chunk_model.specs.Changes.{Change}
use Rattle.chunk_model.specs.Tables.{first_shard}
use Rattle.command_model.specs.Writes.{WriteCommand}
use Rattle.command_model.specs.Command.{write_command, command_of}
use Rattle.reply_model.specs.Exchanges.{Asked, Answered}
use Rattle.reply_model.specs.Accounts.{Given, Dated, Missed, Account, nothing_stored}
use Rattle.reply_model.specs.Cursors.{Cursor}
use Rattle.reply_model.specs.Outcomes.{AnyDone}
use Rattle.reply_model.specs.Right.{WasCreated, IsRight, right_write, right_find, right_count, right_refused_read, right_stale, right_given_up, right_more, right_no_cursor, right_kill, right_shard, right_split, right_not_sharded, right_hello, right_legacy, right_ping, right_end_sessions, right_refusal}
use Rattle.reply_model.specs.OneHistory.{Shows, changes_before, changes_by, ids_asked, AreDifferent}
use Rattle.reply_facts.proofs.Requests.{one_asked}
use Rattle.reply_facts.proofs.Grown.{Grows, told_stays}
use Rattle.node_model.specs.Journal.{Kept, entries_kept, changes_kept}
use Rattle.node_model.specs.Letters.{Input, Reply}
use Rattle.node_model.specs.World.{Held, World, asked_by, answered_by, dated_onto, moment_in, after, is_given, tick, Moves, after_lack, Misses, journal_at, entries_at, account_of}
use Rattle.node_model.specs.Lacks.{misses}
use Rattle.node_model.proofs.Journals.{journal_here, journal_got}
use Rattle.node_laws.proofs.Journals.{journal_else}
use Rattle.node_laws.proofs.Views.{Book, View, view_of, changes_in, account_in}
use Rattle.node_laws.proofs.Facts.{AnswersFit, no_answer, one_answer, NeighboursFit, Good}
use Rattle.node_laws.proofs.LongerJournals.{entries_longer, changes_longer}
use Rattle.node_laws.proofs.Dates.{before_stays}
use Rattle.node_laws.proofs.Keeps.{nodes_keep}
use Rattle.node_laws.proofs.TableVersions.{never_were_stale}
use Rattle.node_laws.proofs.SameReplies.{told_so}
use Rattle.node_laws.proofs.ReplySteps.{same_write, reads_not, task_not, other_not, all_before, all_back, steps_after, IsBased, AreBased}

-- what is judged of a world, without the tables that routers received
abbrev pub bare : World → Account
bare w = record (account_of w) { history = entries_at w.nodes first_shard; learned = [] }

-- the reply to a write shows outcomes, and the collection was created if a statement was applied
abbrev pub CausedBy : (account : Account) → (changes : List Change) → (a : Asked) → (t : Answered) → (write : WriteCommand) → Type 0
CausedBy account changes a t write = (shown : Shows account a t write) × (AnyDone shown.dones → WasCreated changes write.namespace t.time)

abbrev pub IsCausedIn : World → Answered → Type 0
IsCausedIn w t = (a : Asked) (write : WriteCommand) → IsIn a w.asked → a.id ≡ t.id → command_of a.request ≡ Ok (write_command write)
    → CausedBy (bare w) (changes_by w.changed t) a t write

abbrev pub AreCaused : World → Type 0
AreCaused w = AllByRecursion (IsCausedIn w) w.answered

module _ (account : Account) (cursors : List Cursor) (a : Asked) (t : Answered) where
  write_caused : (next : List Cursor) (write : WriteCommand) → command_of a.request ≡ Ok (write_command write)
      → IsRight account cursors a t next → CausedBy account account.changes a t write
  write_caused _ write asks (right_write other dones wants may whole created says) =
      subst (λ (x : WriteCommand). CausedBy account account.changes a t x)
      (same_write other write (command_of a.request) wants asks) (record { dones = dones; told = may; same = says }, created)
  write_caused _ write asks (right_find find time documents batch next wants of may small name at shows says) =
      absurd (other_not _ _ write wants asks (λ w e. cc))
  write_caused _ write asks (right_count read time n wants of may says) = absurd (other_not _ _ write wants asks (λ w e. cc))
  write_caused _ write asks (right_refused_read read reads refused) = absurd (reads_not (command_of a.request) read reads write asks)
  write_caused _ write asks (right_stale read tries reads were says) = absurd (reads_not (command_of a.request) read reads write asks)
  write_caused _ write asks (right_given_up refusal task why says) = absurd (task_not (command_of a.request) task write asks)
  write_caused _ write asks (right_more more c batch next wants found shows says) = absurd (other_not _ _ write wants asks (λ w e. cc))
  write_caused _ write asks (right_no_cursor more wants none says) = absurd (other_not _ _ write wants asks (λ w e. cc))
  write_caused _ write asks (right_kill kill killed missing next wants closed says) = absurd (other_not _ _ write wants asks (λ w e. cc))
  write_caused _ write asks (right_shard namespace wants created says) = absurd (other_not _ _ write wants asks (λ w e. cc))
  write_caused _ write asks (right_split split wants begins says) = absurd (other_not _ _ write wants asks (λ w e. cc))
  write_caused _ write asks (right_not_sharded split wants says) = absurd (other_not _ _ write wants asks (λ w e. cc))
  write_caused _ write asks (right_hello wants says) = absurd (other_not _ _ write wants asks (λ w e. cc))
  write_caused _ write asks (right_legacy legacy wants says) = absurd (other_not _ _ write wants asks (λ w e. cc))
  write_caused _ write asks (right_ping wants says) = absurd (other_not _ _ write wants asks (λ w e. cc))
  write_caused _ write asks (right_end_sessions wants says) = absurd (other_not _ _ write wants asks (λ w e. cc))
  write_caused _ write asks (right_refusal refusal wants says) = absurd (other_not _ _ write wants asks (λ w e. cc))

-- IN A VIEW

abbrev IsCausedOf : (v : View) → (asked : List Asked) → (answered : List Answered) → Answered → Type 0
IsCausedOf v asked answered t = (a : Asked) (write : WriteCommand) → IsIn a asked → a.id ≡ t.id → command_of a.request ≡ Ok (write_command write)
    → CausedBy (account_in v asked answered) (changes_in v) a t write

caused_of : (v : View) (asked : List Asked) (answered : List Answered) (cursors last : List Cursor) (told : List Answered) → AreDifferent (ids_asked asked)
    → AnswersFit v asked answered cursors told last → AllByRecursion (IsCausedOf v asked answered) told
caused_of v asked answered _ _ _ different (no_answer cursors) = tt
caused_of v asked answered _ _ _ different (one_answer cursors next last t rest f others) = (
  (λ a write i same asks.
      let one : f.request ≡ a = one_asked f.request a asked different f.taken i (f.own ∙ sym same) in
      subst (λ (b : Asked). CausedBy (account_in v asked answered) (changes_in v) b t write) one
      (write_caused (account_in v asked answered) cursors f.request t next write (ap (λ (b : Asked). command_of b.request) one ∙ asks) f.right)),
  caused_of v asked answered next last rest different others,
)

abbrev HasOwner : List Asked → Answered → Type 0
HasOwner asked t = (a : Asked) × IsIn a asked × (a.id ≡ t.id)

owners : (v : View) (asked : List Asked) (answered : List Answered) (cursors last : List Cursor) (told : List Answered)
    → AnswersFit v asked answered cursors told last → AllByRecursion (HasOwner asked) told
owners v asked answered _ _ _ (no_answer cursors) = tt
owners v asked answered _ _ _ (one_answer cursors next last t rest f others) = ((f.request, f.taken, f.own), owners v asked answered next last rest others)

-- A STEP

-- each journal is longer
journal_on : (nodes : List Held) (at : ℕ) (old held : Held) (written : List Kept) → slice_get nodes at ≡ Some old → held.kept ≡ old.kept ++ written → (p : ℕ)
    → (l : List Kept) × (journal_at (slice_set nodes at held) p ≡ journal_at nodes p ++ l)
journal_on nodes at old held written here is p = by_place (p == at) refl
  where
    own : journal_at (slice_set nodes at held) at ≡ journal_at nodes at ++ written
    own = journal_here nodes at old held here ∙ is ∙ ap (λ k. k ++ written) (sym (journal_got nodes at old here))

    by_place : (b : Bool) → (p == at) ≡ b → (l : List Kept) × (journal_at (slice_set nodes at held) p ≡ journal_at nodes p ++ l)
    by_place true h =
        subst (λ n. (l : List Kept) × (journal_at (slice_set nodes at held) n ≡ journal_at nodes n ++ l)) (sym (eqb-true p at h)) (written, own)
    by_place false h = ([], journal_else nodes at held p (eqb-false p at h) ∙ sym (append-nil (journal_at nodes p)))

grows_on : (w v : World) (at : ℕ) (old held : Held) (written : List Kept) → slice_get w.nodes at ≡ Some old → held.kept ≡ old.kept ++ written
    → v.nodes ≡ slice_set w.nodes at held → ((x : Asked) → IsIn x w.asked → IsIn x v.asked) → ((x : Given) → IsIn x w.given → IsIn x v.given)
    → ((x : Missed) → IsIn x w.missed → IsIn x v.missed) → (a : Asked) → Grows (bare w) (bare v) a
grows_on w v at old held written here is nodes asked given missed a =
    let first = journal_on w.nodes at old held written here is first_shard in
    let zeroth = journal_on w.nodes at old held written here is 0 in
    let entries : entries_at v.nodes first_shard ≡ entries_at w.nodes first_shard ++ entries_kept first.0 =
    ap (λ l. entries_at l first_shard) nodes ∙ ap (λ k. entries_kept k) first.1 ∙ entries_longer (journal_at w.nodes first_shard) first.0 in
    record {
      stays = λ e i. subst (λ l. IsIn e l) (sym entries) (in_prefix e (entries_at w.nodes first_shard) (entries_kept first.0) i);
      taken = asked;
      given = given;
      missed = missed;
      learned = λ x i before. i;
      more = changes_kept zeroth.0;
      changes = ap (λ l. changes_kept (journal_at l 0)) nodes ∙ ap (λ k. changes_kept k) zeroth.1 ∙ changes_longer (journal_at w.nodes 0) zeroth.0;
    }

caused_still : (w v : World) → ((a : Asked) → Grows (bare w) (bare v) a) → AreDifferent (ids_asked v.asked) → ((x : Asked) → IsIn x w.asked → IsIn x v.asked)
    → (t : Answered) → changes_by v.changed t ≡ changes_by w.changed t → HasOwner w.asked t → IsCausedIn w t → IsCausedIn v t
caused_still w v grows different stay t same own old = λ a write i is asks.
    let one : own.0 ≡ a = one_asked own.0 a v.asked different (stay own.0 own.1) i (own.2 ∙ sym is) in
    let c = old a write (subst (λ b. IsIn b w.asked) one own.1) is asks in (
      record { dones = c.0.dones; told = told_stays (bare w) (bare v) a t (grows a) write 0 write.operations c.0.dones c.0.told; same = c.0.same },
      λ any. subst (λ l. WasCreated l write.namespace t.time) (sym same) (c.1 any),
    )

caused_now : (v : World) (book : Book) → Good v book → (t : Answered) → changes_by v.changed t ≡ changes_in (view_of v.nodes book)
    → IsCausedOf (view_of v.nodes book) v.asked v.answered t → IsCausedIn v t
caused_now v book good t same new = λ a write i is asks.
    let c = new a write i is asks in (
      record {
        dones = c.0.dones;
        told = told_so (account_in (view_of v.nodes book) v.asked v.answered) v.changed v.given [] v.missed v.away nothing_stored
            (λ x j. subst (λ l. IsIn x l) (sym good.given.same) (in_prefix x book.given good.given.news j)) (λ x j. subst (λ l. IsIn x l) (sym good.missed) j)
            (λ b namespace tries were. never_were_stale (view_of v.nodes book) v.asked v.answered b namespace tries around.begun.fitting around.begun.still were)
            a t write 0 write.operations c.0.dones c.0.told;
        same = c.0.same;
      },
      λ any. subst (λ l. WasCreated l write.namespace t.time) (sym same) (c.1 any),
    )
  where
    around : NeighboursFit (view_of v.nodes book) v.asked
    around = nodes_keep (view_of v.nodes book) v.asked v.answered v.given v.nodes good.order good.nodes (λ p. refl) (λ p. refl) good.one

steps_now : (now : ℕ) (replies : List Reply) → AllByRecursion (λ (t : Answered). t.step ≡ now) (answered_by now replies)
steps_now now [] = tt
steps_now now (x ∷ replies) = (refl, steps_now now replies)

pub move_caused : (w v : World) (old_book book : Book) (at : ℕ) (i : Input) → Good w old_book → AreBased w → AreCaused w → Good v book → Moves w at i v
    → AreCaused v
move_caused w v old_book book at i before based caused good m = subst (λ x. AreCaused x) (sym m.then)
    (all_append (IsCausedIn u) w.answered (answered_by w.now m.f.replies)
    (all_both (IsBased w.now w.changed) (λ t. HasOwner w.asked t × IsCausedIn w t) (IsCausedIn u) w.answered
    (λ t b both. caused_still w u (λ a. grows_on w u at m.old _ m.f.written m.here refl refl stay (λ x j. in_prefix x w.given (moment_in at w.now i) j) (λ x j. j) a)
    fits.one stay t (before_stays (t.step + 1) w.now w.changed m.f.written (let less = b.before in omega (arith, less))) both.0 both.1)
    based.replies
    (all_both (HasOwner w.asked) (IsCausedIn w) (λ t. HasOwner w.asked t × IsCausedIn w t) w.answered (λ t a b. (a, b))
    (owners (view_of w.nodes old_book) w.asked w.answered [] old_book.cursors w.answered before.answers) caused))
    (all_both (λ (t : Answered). t.step ≡ w.now) (IsCausedOf (view_of u.nodes book) u.asked u.answered) (IsCausedIn u) (answered_by w.now m.f.replies)
    (λ t now new. caused_now u book fits t (ap (λ n. changes_before (n + 1) u.changed) now ∙ all_before (w.now + 1) u.changed steps ∙ fits.dated) new)
    (steps_now w.now m.f.replies)
    (all_back (IsCausedOf (view_of u.nodes book) u.asked u.answered) w.answered (answered_by w.now m.f.replies)
    (caused_of (view_of u.nodes book) u.asked u.answered [] book.cursors u.answered fits.one fits.answers))))
  where
    u : World
    u = tick (after (is_given w at i) at m.old m.f m.new)

    fits : Good u book
    fits = subst (λ x. Good x book) m.then good

    stay : (x : Asked) → IsIn x w.asked → IsIn x u.asked
    stay x j = in_prefix x w.asked (asked_by w.now m.f.taken) j

    steps : AllByRecursion (λ (d : Dated). d.step < w.now + 1) u.changed
    steps = steps_after w.now w.changed m.f.written
        (all_weaken (λ (d : Dated). d.step < w.now) (λ (d : Dated). d.step < w.now + 1) w.changed (λ d less. omega arith) based.steps)

pub misses_caused : (w v : World) (book : Book) (at : ℕ) (i : Input) → Good w book → AreCaused w → Misses w at i v → AreCaused v
misses_caused w v book at i good caused m = subst (λ x. AreCaused x) (sym m.then)
    (all_both (HasOwner w.asked) (IsCausedIn w) (IsCausedIn u) w.answered
    (λ t own old. caused_still w u (λ a. grows_on w u at m.old _ [] m.here (sym (append-nil m.old.kept)) refl (λ x j. j) (λ x j. j)
    (λ x j. in_prefix x w.missed _ j) a) good.one (λ x j. j) t refl own old)
    (owners (view_of w.nodes book) w.asked w.answered [] book.cursors w.answered good.answers) caused)
  where
    u : World
    u = tick (after_lack w at m.old m.lack (misses m.old.state m.lack i))

-- also where a node stops: no reply is sent, and its journal is longer
pub still_caused : (w v : World) (book : Book) (at : ℕ) (old held : Held) (written : List Kept) → Good w book → AreBased w → AreCaused w
    → slice_get w.nodes at ≡ Some old → held.kept ≡ old.kept ++ written → v.nodes ≡ slice_set w.nodes at held
    → ((x : Asked) → IsIn x w.asked → IsIn x v.asked) → ((x : Given) → IsIn x w.given → IsIn x v.given)
    → ((x : Missed) → IsIn x w.missed → IsIn x v.missed) → AreDifferent (ids_asked v.asked) → v.changed ≡ dated_onto w.now w.changed written
    → AllByRecursion (IsCausedIn v) w.answered
still_caused w v book at old held written before based caused here is nodes asked given missed different changed =
    all_both (IsBased w.now w.changed) (λ t. HasOwner w.asked t × IsCausedIn w t) (IsCausedIn v) w.answered
    (λ t b both. caused_still w v (λ a. grows_on w v at old held written here is nodes asked given missed a) different asked t
    (ap (λ l. changes_by l t) changed ∙ before_stays (t.step + 1) w.now w.changed written (let less = b.before in omega (arith, less))) both.0 both.1)
    based.replies
    (all_both (HasOwner w.asked) (IsCausedIn w) (λ t. HasOwner w.asked t × IsCausedIn w t) w.answered (λ t a b. (a, b))
    (owners (view_of w.nodes book) w.asked w.answered [] book.cursors w.answered before.answers) caused)
