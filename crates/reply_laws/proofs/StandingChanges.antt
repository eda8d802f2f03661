-- What later changes of the catalogue leave as it is.
use Rattle.std.proofs.Common.{◌≡◌, ℕ, ◌<◌, ◌≤◌, List, [], ◌∷◌, ◌++◌, refl, sym, ap, subst, ◌∙◌, arith}
use Rattle.std.specs.Prelude.{Bool, true, false, ◌&&◌, Option, Some, None, nat_le, filter, IsPermutation, if◌then◌else◌}
use Rattle.std.specs.List.{AllByRecursion}
use Rattle.std.specs.Str.{bytes_eq}
use Rattle.std.proofs.lemmas.Bool.Decides.{nat_tests}
use Rattle.std.proofs.lemmas.List.{append_assoc}
use Rattle.bson_model.specs.Tree.{Datum, Fields}
use Rattle.value_model.specs.Keys.{key_of, range_span, inside}
use Rattle.chunk_model.specs.Tables.{first_shard}
use Rattle.chunk_model.specs.Changes.{Change, create_change, split_change, commit_change, time_of}
use Rattle.chunk_model.specs.Placement.{owner}
use Rattle.command_model.specs.Reading.{Reading}
use Rattle.history_model.specs.Documents.{documents_at}
use Rattle.history_model.proofs.Lists.{in_back}
use Rattle.reply_model.specs.Exchanges.{Asked, Answered}
use Rattle.reply_facts.proofs.Grown.{Grows, created_still, stale_still, given_up_still, told_stays}
use Rattle.reply_model.specs.Accounts.{Account}
use Rattle.reply_model.specs.Cursors.{Cursor}
use Rattle.reply_model.specs.Reads.{IsTimeRead, named_time, own_time, later_time, is_on, owned_by, IsExcess, excess_answer, excess_half}
use Rattle.reply_model.specs.Right.{IsReadRefused, refused_overflow, refused_excess, refused_ahead, WasCreated, WasSplit, IsRight, right_write, right_find, right_count, right_refused_read, right_stale, right_given_up, right_more, right_no_cursor, right_kill, right_shard, right_split, right_not_sharded, right_hello, right_legacy, right_ping, right_end_sessions, right_refusal}

-- WHAT WAS CREATED OR SPLIT

pub created_stays : (more changes : List Change) (namespace : List ℕ) (before time : ℕ) → WasCreated changes namespace before → before ≤ time
    → WasCreated (more ++ changes) namespace time
created_stays more changes namespace before time was later = record {
  creation = was.creation;
  begun = in_back (create_change was.creation) more changes was.begun;
  name = was.name;
  before = omega (arith, was.before, later);
}

all_until : (before time : ℕ) (changes : List Change) → before ≤ time → AllByRecursion (λ x. time_of x ≤ before) changes
    → AllByRecursion (λ x. time_of x ≤ time) changes
all_until before time [] later past = tt
all_until before time (x ∷ changes) later past = (omega (arith, past.0, later), all_until before time changes later past.1)

pub split_stays : (more changes : List Change) (namespace : List ℕ) (key : Datum) (before time : ℕ) → WasSplit changes namespace key before → before ≤ time
    → WasSplit (more ++ changes) namespace key time
split_stays more changes namespace key before time was later = record {
  later = more ++ was.later;
  older = was.older;
  table = was.table;
  all = ap (λ (l : List Change). more ++ l) was.all ∙ sym (append_assoc more was.later was.older);
  past = all_until before time was.older later was.past;
  known = was.known;
  bound = was.bound;
}

-- OWNERS AT AN EARLIER TIME

first_skips : (name early : Bool) (own rest : Option ℕ) → early ≡ false → (if name && early then own else rest) ≡ rest
first_skips true true own rest late = absurd (cc)
first_skips true false own rest late = refl
first_skips false early own rest late = refl

then_skips : (name early inside : Bool) (own rest : Option ℕ) → early ≡ false → (if name && (early && inside) then own else rest) ≡ rest
then_skips true true inside own rest late = absurd (cc)
then_skips true false inside own rest late = refl
then_skips false early inside own rest late = refl

is_late : (at time : ℕ) → time < at → nat_le at time ≡ false
is_late at time later = grind (arith, nat_tests)

same_owner : (namespace : List ℕ) (key : Datum) (time : ℕ) (more changes : List Change) → AllByRecursion (λ x. time < time_of x) more
    → owner namespace key time (more ++ changes) ≡ owner namespace key time changes
same_owner namespace key time [] changes later = refl
same_owner namespace key time (create_change c ∷ more) changes later =
    first_skips (bytes_eq c.namespace namespace) (nat_le c.at time) (Some first_shard) (owner namespace key time (more ++ changes))
    (is_late c.at time later.0)
    ∙ same_owner namespace key time more changes later.1
same_owner namespace key time (split_change s ∷ more) changes later = same_owner namespace key time more changes later.1
same_owner namespace key time (commit_change c ∷ more) changes later =
    then_skips (bytes_eq c.namespace namespace) (nat_le c.at time) (inside (range_span c.range) key) (Some c.to)
    (owner namespace key time (more ++ changes)) (is_late c.at time later.0)
    ∙ same_owner namespace key time more changes later.1

-- the documents whose keys have such owners
abbrev documents_on : (Datum → Option ℕ) → ℕ → List Fields → List Fields
documents_on owners shard documents =
    filter (λ (document : Fields). is_on shard (elim (key_of document) [ None ↦ None | Some key ↦ owners key ])) documents

same_owned : (more changes : List Change) (namespace : List ℕ) (shard time : ℕ) (documents : List Fields) → AllByRecursion (λ x. time < time_of x) more
    → owned_by (more ++ changes) namespace shard time documents ≡ owned_by changes namespace shard time documents
same_owned more changes namespace shard time documents later =
    ap (λ (owners : Datum → Option ℕ). documents_on owners shard documents) (λ i key. same_owner namespace key time more changes later i)

-- REPLIES

-- the account with more changes
abbrev after_more : List Change → Account → Account
after_more more account = record account { changes = more ++ account.changes }

excess_stays : (more : List Change) (account : Account) (reading : Reading) (time n : ℕ) → AllByRecursion (λ x. time < time_of x) more
    → IsExcess account reading time n → IsExcess (after_more more account) reading time n
excess_stays more account reading time n later (excess_answer answer gives is) = excess_answer answer gives is
excess_stays more account reading time n later (excess_half shard ordered rows moved half is) =
    excess_half shard ordered rows
    (subst (λ (l : List Fields). IsPermutation l ordered)
    (sym (same_owned more account.changes reading.namespace shard time (documents_at account.history reading.namespace time) later)) moved)
    half is

all_after : (time later : ℕ) (changes : List Change) → time ≤ later → AllByRecursion (λ x. later < time_of x) changes
    → AllByRecursion (λ x. time < time_of x) changes
all_after time later [] less after = tt
all_after time later (x ∷ changes) less after = (omega (arith, less, after.0), all_after time later changes less after.1)

-- the time of a read is its router's as it took the request, or not later than that as it replied
time_reached : (more : List Change) (a : Asked) (t : Answered) (reading : Reading) (time : ℕ) → AllByRecursion (λ x. a.time < time_of x) more
    → AllByRecursion (λ x. t.time < time_of x) more → IsTimeRead a t reading time → AllByRecursion (λ x. time < time_of x) more
time_reached more a t reading time taken replied (named_time named at risen) = all_after named t.time more risen replied
time_reached more a t reading time taken replied (own_time at reached) = taken
time_reached more a t reading time taken replied (later_time later after at wants less reached risen) = all_after later t.time more risen replied

module _ (more : List Change) (account : Account) (cursors : List Cursor) (a : Asked) (t : Answered) where
  refused_stays : (reading : Reading) → AllByRecursion (λ x. a.time < time_of x) more → AllByRecursion (λ x. t.time < time_of x) more
      → IsReadRefused account a t reading → IsReadRefused (after_more more account) a t reading
  refused_stays reading taken replied (refused_overflow time read gives says) = refused_overflow time read gives says
  refused_stays reading taken replied (refused_excess time n read excess says) =
      refused_excess time n read (excess_stays more account reading time n (time_reached more a t reading time taken replied read) excess) says
  refused_stays reading taken replied (refused_ahead ahead says) =
      refused_ahead (record { wanted = ahead.wanted; wants = ahead.wants; ahead = ahead.ahead; of_all = ahead.of_all }) says

  grows : Grows account (after_more more account) a
  grows = record {
    stays = λ e i. i;
    taken = λ b i. i;
    given = λ x i. i;
    missed = λ x i. i;
    learned = λ x i before. i;
    more = more;
    changes = refl;
  }

  stays : (next : List Cursor) → AllByRecursion (λ x. a.time < time_of x) more → AllByRecursion (λ x. t.time < time_of x) more
      → IsRight account cursors a t next → IsRight (after_more more account) cursors a t next
  stays next taken replied (right_write write dones wants tells whole created says) =
      right_write write dones wants (told_stays account (after_more more account) a t grows write 0 write.operations dones tells) whole
      (λ any. created_still account (after_more more account) a t grows write.namespace t.time (created any)) says
  stays next taken replied (right_find find time documents batch after wants read gives small name at shows says) =
      right_find find time documents batch after wants read gives small name at shows says
  stays next taken replied (right_count reading time n wants read gives says) = right_count reading time n wants read gives says
  stays next taken replied (right_refused_read reading wants refused) = right_refused_read reading wants (refused_stays reading taken replied refused)
  stays next taken replied (right_stale reading tries wants were says) =
      right_stale reading tries wants (stale_still account (after_more more account) a t grows reading.namespace tries were) says
  stays next taken replied (right_given_up refusal task why says) =
      right_given_up refusal task (given_up_still account (after_more more account) a t grows refusal why) says
  stays next taken replied (right_more further c batch shown wants found shows says) = right_more further c batch shown wants found shows says
  stays next taken replied (right_no_cursor further wants closed says) = right_no_cursor further wants closed says
  stays next taken replied (right_kill kill killed missing after wants closes says) = right_kill kill killed missing after wants closes says
  stays next taken replied (right_shard namespace wants was says) =
      right_shard namespace wants (created_stays more account.changes namespace t.time t.time was (omega arith)) says
  stays next taken replied (right_split split wants was says) =
      right_split split wants (split_stays more account.changes split.namespace split.middle t.time t.time was (omega arith)) says
  stays next taken replied (right_not_sharded split wants says) = right_not_sharded split wants says
  stays next taken replied (right_hello wants says) = right_hello wants says
  stays next taken replied (right_legacy legacy wants says) = right_legacy legacy wants says
  stays next taken replied (right_ping wants says) = right_ping wants says
  stays next taken replied (right_end_sessions wants says) = right_end_sessions wants says
  stays next taken replied (right_refusal refusal wants says) = right_refusal refusal wants says

pub right_stays : (more : List Change) (account : Account) (cursors next : List Cursor) (a : Asked) (t : Answered)
    → AllByRecursion (λ (x : Change). a.time < time_of x) more → AllByRecursion (λ (x : Change). t.time < time_of x) more
    → IsRight account cursors a t next → IsRight (after_more more account) cursors a t next
right_stays more account cursors next a t taken replied right = stays more account cursors a t next taken replied right
