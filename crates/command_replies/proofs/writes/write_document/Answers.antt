use Rattle.command_replies.specs.Errors.{errors_view}
use Rattle.command_replies.specs.Kinds.{kind_view}
use Rattle.command_replies.specs.Upserts.{upserted_view}
use Rattle.command_replies.proofs.WriteParts.{parts_of_write}
use Rattle.command_replies.proofs.writes.write_document.Goals as goal

pub returns : goal.returns
returns c =
    rw (c.in_ok-add_end.ensures, c.in_ok-add_errors.ensures, c.in_ok-add_changes.ensures, c.in_ok-add.ensures, c.count_shown.ensures, c.from.ensures, c.new-answer.ensures)
    (parts_of_write (kind_view c.args.kind) (record {
      count = c.args.count;
      modified = c.args.modified;
      upserted = upserted_view c.args.upserted.now;
      errors = errors_view c.args.errors.now;
      time = c.args.time.0;
    }))
