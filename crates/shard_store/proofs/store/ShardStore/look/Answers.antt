use Rattle.std.proofs.Common.{◌≡◌, sym, ap, ◌∙◌, rules}
use Rattle.command_replies.specs.Kinds.{given_view}
use Rattle.node_model.specs.Exchanges.{number_for}
use Rattle.node_model.specs.Service.{seen_before}
use Rattle.node_traits.specs.Ids.{id_view}
use Rattle.history_model.specs.Notes.{new_statement, done_before, older_than, seen}
use Rattle.session_book.specs.Meanings.{number_view}
use Rattle.std.specs.Prelude.{Some}
use Rattle.shard_store.proofs.Seen.{index_from, look_new, look_done, look_older, seen_number}
use Rattle.shard_store.specs.Outcomes.{done_view}
use Rattle.shard_store.specs.declared.outcome.EntryResult.{EntryResult}
use Rattle.shard_store.specs.declared.outcome.StatementOutcome.TheVariants.{WasDone, Older}
use Rattle.shard_store.specs.Entries.{notes_kept}
use Rattle.shard_store.specs.Stores.{entries_of}
use Rattle.shard_store.proofs.store.ShardStore.look.Goals as goal

pub returns-in-New : goal.returns-in-New
returns-in-New c =
    let store = c.args.self.now in
    let number = number_view c.statement_number.result in
    let new : seen (notes_kept store.entries.items) number ≡ new_statement = sym (store.noted number) ∙ sym c.in-New.ensures in
    look_new store.shard.0 number store.entries.items new
    ∙ seen_number (entries_of store) c.args.number c.args.id c.args.index c.statement_number.result c.statement_number.ensures

pub returns-in_ok-outcome-in-Done : goal.returns-in_ok-outcome-in-Done
returns-in_ok-outcome-in-Done c =
    let store = c.args.self.now in
    let s = c.statement_number.result in
    let done : seen (notes_kept store.entries.items) (number_view s) ≡ done_before c.in-Done.time.0 c.in-Done.reply.now =
    sym (store.noted (number_view s)) ∙ sym c.in-Done.ensures in
    let told : EntryResult = record { time = c.in-Done.time; outcome = c.in_ok-outcome-in-Done.outcome } in
    ap (λ i. Some (done_view i (WasDone told))) (sym (index_from c.args.number c.args.id c.args.index s c.statement_number.ensures))
    ∙ look_done store.shard.0 (number_view s) store.entries.items told c.in-Done.reply.now done (λ k is. c.in_ok-outcome-in-Done.ensures k.1.outcome is)
    ∙ seen_number (entries_of store) c.args.number c.args.id c.args.index s c.statement_number.ensures

pub returns-in-Older : goal.returns-in-Older
returns-in-Older c =
    let store = c.args.self.now in
    let s = c.statement_number.result in
    let older : seen (notes_kept store.entries.items) (number_view s) ≡ older_than c.in-Older.greatest =
    sym (store.noted (number_view s)) ∙ sym c.in-Older.ensures in
    let told : Some (done_view c.args.index (Older c.in-Older.greatest)) ≡ seen_before (number_for (given_view c.args.number) (id_view c.args.id) c.args.index) (entries_of store) =
    ap (λ i. Some (done_view i (Older c.in-Older.greatest))) (sym (index_from c.args.number c.args.id c.args.index s c.statement_number.ensures))
    ∙ look_older store.shard.0 (number_view s) store.entries.items c.in-Older.greatest older
    ∙ seen_number (entries_of store) c.args.number c.args.id c.args.index s c.statement_number.ensures in
    search (rules, told)
