use Rattle.std.proofs.Common.{Some, sym, ap, ◌∙◌}
use Rattle.std.specs.Prelude.{◌++◌, ◌∷◌, []}
use Rattle.node_model.specs.History.{document_at}
use Rattle.history_model.specs.Notes.{seen}
use Rattle.session_book.specs.Books.{note_view}
use Rattle.statement_views.specs.Views.{number_view}
use Rattle.shard_store.proofs.Facts.{entries_grown, notes_grown, past_grown, reached_grown, versions_grown}
use Rattle.shard_store.proofs.Pushed.{shown_after}
use Rattle.shard_store.proofs.Seen.{new_kept}
use Rattle.shard_store.specs.Collections.{last_under, shown_in}
use Rattle.shard_store.specs.Entries.{entries_kept, notes_kept}
use Rattle.shard_store.proofs.store.ShardStore.enter.Goals as goal

pub note-requires-clause-new : goal.note-requires-clause-new
note-requires-clause-new c =
    let store = c.args.self.now in
    let number = number_view c.args.planned.statement in
    store.noted number
    ∙ new_kept store.shard.0 number store.entries.items c.requires.next.unseen

pub invariant_of-self : goal.invariant_of-self
invariant_of-self c =
    let store = c.args.self.now in
    let kept = store.entries.items in
    let new = c.with-self.result.items in
    let p = c.args.planned in
    let name = c.args.namespace.now in
    let grown = c.with-self.ensures in
    let later = c.requires.next.later in
    let entered = rw c.as_str.ensures.text at c.enter.ensures.shown in
    record {
      past = past_grown store.shard.0 kept new name p grown store.last.0 store.past later;
      reached = reached_grown store.shard.0 kept new name p grown;
      shown = λ n k t.
          shown_after store.shard.0 (entries_kept store.shard.0 kept) store.last.0 name p store.past c.requires.next n k t
          (shown_in store.collections n k t) (shown_in c.enter.new.self n k t) (store.shown n k t) (entered n k t)
          ∙ ap (λ l. document_at l n (Some k) t) (sym (entries_grown store.shard.0 kept new name p grown));
      versions = λ n k t e.
          versions_grown (last_under store.collections n k) (last_under c.enter.new.self n k) store.last.0 p.time.0 (store.versions n k) later
          (c.enter.ensures.last n k) t e;
      noted = λ number.
          c.note.ensures.so_far (notes_kept kept) store.noted number
          ∙ ap (λ reply. seen (notes_kept kept ++ note_view p.statement p.time reply ∷ []) number) c.into_reply.ensures
          ∙ ap (λ l. seen l number) (sym (notes_grown store.shard.0 kept new name p grown));
    }
