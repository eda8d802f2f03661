use Rattle.std.proofs.Common.{sym, ◌∙◌}
use Rattle.statement_views.specs.Views.{number_view, operation_view}
use Rattle.std.specs.Arc.{arc_value}
use Rattle.shard_store.proofs.Again.{entry_again, seen_again, unseen_again}
use Rattle.shard_store.specs.Entries.{operation_of}
use Rattle.shard_store.specs.Plans.{IsEffect}
use Rattle.shard_store.specs.Stores.{entries_of, shard_of}
use Rattle.shard_store.specs.declared.entry.Planned.{Planned}
use Rattle.session_book.specs.Books.{seen_in}
use Rattle.shard_store.proofs.store.ShardStore.plan_again.Goals as goal

pub returns-then-not-is_new-clause-none : goal.returns-then-not-is_new-clause-none
returns-then-not-is_new-clause-none c = λ none.
    let store = c.args.self.now in
    let number = number_view c.args.statement in
    seen_again store.shard.0 number store.entries.items (seen_in store.book number) (store.noted number) (sym c.is_new.ensures ∙ c.if-not-is_new.true)

pub returns-clause-next : goal.returns-clause-next
returns-clause-next c =
    let store = c.args.self.now in
    let number = number_view c.args.statement in
    record {
      later = c.requires.later;
      does = rw c.in_ok-words.ensures c.in_ok-key.ensures;
      unseen = unseen_again store.shard.0 number store.entries.items (seen_in store.book number) (store.noted number) (sym c.is_new.ensures ∙ c.if-not-is_new.false);
    }

pub returns-clause-entry : goal.returns-clause-entry
returns-clause-entry c =
    let store = c.args.self.now in
    let e = c.in_ok-key.field-0 in
    let p : Planned = record {
      statement = c.args.statement;
      time = c.args.time;
      words = c.in_ok-words.words;
      key = e.key;
      left = e.left;
      outcome = e.outcome;
    } in
    entry_again (shard_of store) (entries_of store) c.args.namespace.now p (operation_view (arc_value c.args.words.now)) c.in_ok-words.ensures c.in_ok-key.ensures
