-- The members are those of the next batch, by whether all documents found room.
use Rattle.std.proofs.Common.{◌≡◌, ◌∙◌, sym}
use Rattle.mvcc_collection.specs.Present.{rows_of}
use Rattle.migration_source.specs.Filled.{members_in}
use Rattle.migration_source.specs.Givings.{source_of}
use Rattle.migration_source.proofs.Fills.{all_cursor, all_next, cut_cursor, cut_next}
use Rattle.migration_source.proofs.giving.Giving.fill.Goals as goal

pub returns-in-Some-clause-members : goal.returns-in-Some-clause-members
returns-in-Some-clause-members c =
    let filling = c.add_documents.new.filling in
    sym (cut_next (source_of c.args.self.now) (rows_of c.args.c.now) (members_in filling) _ filling.fit (rw c.in-Some.is at c.in_ok-last.ensures))

pub returns-in-Some-clause-upto : goal.returns-in-Some-clause-upto
returns-in-Some-clause-upto c =
    let filling = c.add_documents.new.filling in
    cut_cursor (source_of c.args.self.now) (rows_of c.args.c.now) (members_in filling) _ filling.fit (rw c.in-Some.is at c.in_ok-last.ensures)

pub returns-in_ok-end-in-None-clause-members : goal.returns-in_ok-end-in-None-clause-members
returns-in_ok-end-in-None-clause-members c =
    sym (all_next (source_of c.args.self.now) (rows_of c.args.c.now) (members_in c.add_documents.new.filling) (members_in c.add_changed.new.filling)
    (rw c.in-None.is at c.in_ok-last.ensures) c.in_ok-add_changed-in-None.ensures.fit)

pub returns-in_ok-end-in-None-clause-upto : goal.returns-in_ok-end-in-None-clause-upto
returns-in_ok-end-in-None-clause-upto c =
    let more = c.in_ok-add_changed-in-None.ensures.more in
    c.in_ok-end-in-None.ensures ∙ c.max.ensures.max
    ∙ all_cursor (source_of c.args.self.now) (rows_of c.args.c.now) (members_in c.add_documents.new.filling) more.0 (members_in c.add_changed.new.filling)
    (rw c.in-None.is at c.in_ok-last.ensures) c.in_ok-add_changed-in-None.ensures.fit more.1
