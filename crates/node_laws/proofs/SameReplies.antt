-- A right reply is right also with the notes of a run, where nothing was stale: with the steps of the changes, the tables that routers received, the requests that
-- were not taken, what was stored at the start, and more moments and lacks.
use Rattle.std.proofs.Common.{◌≡◌, ℕ, ◌+◌, List, [], ◌∷◌, Bool}
use Rattle.std.specs.Prelude.{Option, true, false}
use Rattle.base_model.specs.Refusals.{Refusal}
use Rattle.command_model.specs.Reading.{Reading}
use Rattle.command_model.specs.Writes.{ClientNumber, WriteCommand}
use Rattle.history_model.specs.History.{StatementNumber, Operation, IsIn}
use Rattle.reply_model.specs.Exchanges.{Asked, Answered, number_for}
use Rattle.reply_model.specs.Accounts.{Dated, Given, Learned, Missed, TurnedAway, Stored, Account}
use Rattle.reply_model.specs.Cursors.{Cursor}
use Rattle.reply_model.specs.Outcomes.{Try, Done, StatementOutcome}
use Rattle.reply_model.specs.Reads.{IsExcess, excess_answer, excess_half}
use Rattle.reply_model.specs.Right.{ends, IsGivenUp, given_up_late, given_up_lacking, WereStale, MayBeTold, told_own, told_other, told_older, told_stale, told_given_up, AreTold, IsReadRefused, refused_overflow, refused_excess, refused_ahead, IsRight, right_write, right_find, right_count, right_refused_read, right_stale, right_given_up, right_more, right_no_cursor, right_kill, right_shard, right_split, right_not_sharded, right_hello, right_legacy, right_ping, right_end_sessions, right_refusal}
use Rattle.reply_model.specs.OneHistory.{Shows}

module _ (account : Account) (dated : List Dated) (given : List Given) (learned : List Learned) (missed : List Missed) (away : List TurnedAway) (stored : Stored)
    (more_given : (x : Given) → IsIn x account.given → IsIn x given) (more_missed : (x : Missed) → IsIn x account.missed → IsIn x missed)
    (never : (a : Asked) (namespace : List ℕ) (tries : List Try) → WereStale account a namespace tries → ⊥) where
  -- all else the same
  abbrev pub with_notes : Account
  with_notes = record account { dated = dated; given = given; learned = learned; missed = missed; away = away; stored = stored }

  excess_so : (reading : Reading) (time n : ℕ) → IsExcess account reading time n → IsExcess with_notes reading time n
  excess_so reading time n (excess_answer answer gives is) = excess_answer answer gives is
  excess_so reading time n (excess_half shard ordered rows moved half is) = excess_half shard ordered rows moved half is

  refused_so : (a : Asked) (t : Answered) (reading : Reading) → IsReadRefused account a t reading → IsReadRefused with_notes a t reading
  refused_so a t reading (refused_overflow time read gives says) = refused_overflow time read gives says
  refused_so a t reading (refused_excess time n read excess says) = refused_excess time n read (excess_so reading time n excess) says
  refused_so a t reading (refused_ahead ahead says) =
      refused_ahead (record { wanted = ahead.wanted; wants = ahead.wants; ahead = ahead.ahead; of_all = ahead.of_all }) says

  given_up_so : (a : Asked) (t : Answered) (refusal : Refusal) → IsGivenUp account a t refusal → IsGivenUp with_notes a t refusal
  given_up_so a t _ (given_up_late now is) = given_up_late now (record {
    given = is.given;
    had = more_given is.given is.had;
    own = is.own;
    moment = is.moment;
    after = is.after;
    same = is.same;
    limited = is.limited;
    passed = is.passed;
  })
  given_up_so a t _ (given_up_lacking node lack was) =
      given_up_lacking node lack (record { missed = was.missed; had = more_missed was.missed was.had; own = was.own; same = was.same; before = was.before })

  may_so : (a : Asked) (t : Answered) (by : Option ClientNumber) (number : StatementNumber) (namespace : List ℕ) (operation : Operation)
      (answer : StatementOutcome) → MayBeTold account a t by number namespace operation answer → MayBeTold with_notes a t by number namespace operation answer
  may_so a t by number namespace operation _ (told_own e stands own past) = told_own e stands own past
  may_so a t by number namespace operation _ (told_other e client stands some own past had) = told_other e client stands some own past had
  may_so a t by number namespace operation _ (told_older e client stands some session less past had) = told_older e client stands some session less past had
  may_so a t by number namespace operation _ (told_stale tries were) = absurd (never a namespace tries were)
  may_so a t by number namespace operation _ (told_given_up refusal why) = told_given_up refusal (given_up_so a t refusal why)

  pub told_so : (a : Asked) (t : Answered) (write : WriteCommand) (index : ℕ) (operations : List Operation) (dones : List Done)
      → AreTold account a t write index operations dones → AreTold with_notes a t write index operations dones
  told_so a t write index [] dones told = told
  told_so a t write index (operation ∷ operations) [] told = absurd told
  told_so a t write index (operation ∷ operations) (d ∷ dones) told = (
    told.0,
    may_so a t write.number (number_for write.number t.id index) write.namespace operation d.answer told.1,
    by_end (ends write.ordered d) told.2 (λ rest. told_so a t write (index + 1) operations dones rest),
  )
    where
      by_end : (b : Bool) → (elim b as (λ x. Type 0) [ true ↦ dones ≡ [] | false ↦ AreTold account a t write (index + 1) operations dones ])
          → (AreTold account a t write (index + 1) operations dones → AreTold with_notes a t write (index + 1) operations dones)
          → (elim b as (λ x. Type 0) [ true ↦ dones ≡ [] | false ↦ AreTold with_notes a t write (index + 1) operations dones ])
      by_end true none more = none
      by_end false rest more = more rest

  pub shows_so : (a : Asked) (t : Answered) (write : WriteCommand) → Shows account a t write → Shows with_notes a t write
  shows_so a t write shown = record { dones = shown.dones; told = told_so a t write 0 write.operations shown.dones shown.told; same = shown.same }

  pub right_so : (cursors next : List Cursor) (a : Asked) (t : Answered) → IsRight account cursors a t next → IsRight with_notes cursors a t next
  right_so cursors next a t (right_write write dones wants tells whole created says) =
      right_write write dones wants (told_so a t write 0 write.operations dones tells) whole created says
  right_so cursors next a t (right_find find time documents batch after wants read gives small name at shows says) =
      right_find find time documents batch after wants read gives small name at shows says
  right_so cursors next a t (right_count reading time n wants read gives says) = right_count reading time n wants read gives says
  right_so cursors next a t (right_refused_read reading wants refused) = right_refused_read reading wants (refused_so a t reading refused)
  right_so cursors next a t (right_stale reading tries wants were says) = absurd (never a reading.namespace tries were)
  right_so cursors next a t (right_given_up refusal task why says) = right_given_up refusal task (given_up_so a t refusal why) says
  right_so cursors next a t (right_more more c batch shown wants found shows says) = right_more more c batch shown wants found shows says
  right_so cursors next a t (right_no_cursor more wants closed says) = right_no_cursor more wants closed says
  right_so cursors next a t (right_kill kill killed missing after wants closes says) = right_kill kill killed missing after wants closes says
  right_so cursors next a t (right_shard namespace wants was says) = right_shard namespace wants was says
  right_so cursors next a t (right_split split wants was says) = right_split split wants was says
  right_so cursors next a t (right_not_sharded split wants says) = right_not_sharded split wants says
  right_so cursors next a t (right_hello wants says) = right_hello wants says
  right_so cursors next a t (right_legacy legacy wants says) = right_legacy legacy wants says
  right_so cursors next a t (right_ping wants says) = right_ping wants says
  right_so cursors next a t (right_end_sessions wants says) = right_end_sessions wants says
  right_so cursors next a t (right_refusal refusal wants says) = right_refusal refusal wants says
