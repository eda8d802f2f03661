-- A right reply is right whatever the steps of the changes are, and what was stored at the start.
use Rattle.std.proofs.Common.{ℕ, List, [], refl}
use Rattle.command_model.specs.Reading.{Reading}
use Rattle.reply_model.specs.Exchanges.{Asked, Answered}
use Rattle.reply_model.specs.Accounts.{Dated, Stored, Account}
use Rattle.reply_model.specs.Cursors.{Cursor}
use Rattle.reply_model.specs.Reads.{IsExcess, excess_answer, excess_half}
use Rattle.reply_model.specs.Right.{IsReadRefused, refused_overflow, refused_excess, refused_ahead, IsRight, right_write, right_find, right_count, right_refused_read, right_stale, right_given_up, right_more, right_no_cursor, right_kill, right_shard, right_split, right_not_sharded, right_hello, right_legacy, right_ping, right_end_sessions, right_refusal}
use Rattle.reply_facts.proofs.Grown.{Grows, stale_still, given_up_still, told_stays}

module _ (account : Account) (dated : List Dated) (stored : Stored) where
  -- all else the same
  abbrev pub with_notes : Account
  with_notes = record account { dated = dated; stored = stored }

  excess_so : (reading : Reading) (time n : ℕ) → IsExcess account reading time n → IsExcess with_notes reading time n
  excess_so reading time n (excess_answer answer gives is) = excess_answer answer gives is
  excess_so reading time n (excess_half shard ordered rows moved half is) = excess_half shard ordered rows moved half is

  refused_so : (a : Asked) (t : Answered) (reading : Reading) → IsReadRefused account a t reading → IsReadRefused with_notes a t reading
  refused_so a t reading (refused_overflow time read gives says) = refused_overflow time read gives says
  refused_so a t reading (refused_excess time n read excess says) = refused_excess time n read (excess_so reading time n excess) says
  refused_so a t reading (refused_ahead ahead says) =
      refused_ahead (record { wanted = ahead.wanted; wants = ahead.wants; ahead = ahead.ahead; of_all = ahead.of_all }) says

  grows_so : (a : Asked) → Grows account with_notes a
  grows_so a = record {
    stays = λ e i. i;
    taken = λ b i. i;
    given = λ x i. i;
    missed = λ x i. i;
    learned = λ x i before. i;
    more = [];
    changes = refl;
  }

  pub right_so : (cursors next : List Cursor) (a : Asked) (t : Answered) → IsRight account cursors a t next → IsRight with_notes cursors a t next
  right_so cursors next a t (right_write write dones wants tells whole created says) =
      right_write write dones wants (told_stays account with_notes a t (grows_so a) write 0 write.operations dones tells) whole created says
  right_so cursors next a t (right_find find time documents batch after wants read gives small name at shows says) =
      right_find find time documents batch after wants read gives small name at shows says
  right_so cursors next a t (right_count reading time n wants read gives says) = right_count reading time n wants read gives says
  right_so cursors next a t (right_refused_read reading wants refused) = right_refused_read reading wants (refused_so a t reading refused)
  right_so cursors next a t (right_stale reading tries wants were says) =
      right_stale reading tries wants (stale_still account with_notes a t (grows_so a) reading.namespace tries were) says
  right_so cursors next a t (right_given_up refusal task why says) =
      right_given_up refusal task (given_up_still account with_notes a t (grows_so a) refusal why) says
  right_so cursors next a t (right_more more c batch shown wants found shows says) = right_more more c batch shown wants found shows says
  right_so cursors next a t (right_no_cursor more wants closed says) = right_no_cursor more wants closed says
  right_so cursors next a t (right_kill kill killed missing after wants closes says) = right_kill kill killed missing after wants closes says
  right_so cursors next a t (right_shard namespace wants was says) = right_shard namespace wants was says
  right_so cursors next a t (right_split split wants was says) = right_split split wants was says
  right_so cursors next a t (right_not_sharded split wants says) = right_not_sharded split wants says
  right_so cursors next a t (right_hello wants says) = right_hello wants says
  right_so cursors next a t (right_legacy legacy wants says) = right_legacy legacy wants says
  right_so cursors next a t (right_ping wants says) = right_ping wants says
  right_so cursors next a t (right_end_sessions wants says) = right_end_sessions wants says
  right_so cursors next a t (right_refusal refusal wants says) = right_refusal refusal wants says
