use Rattle.std.proofs.Common.{Some, sym, ap, subst, ◌∙◌, arith}
use Rattle.node_model.specs.History.{IsIn, document_at}
use Rattle.history_model.proofs.Lists.{in_none}
use Rattle.history_model.specs.Notes.{seen}
use Rattle.shard_store.specs.Entries.{entries_kept, notes_kept}
use Rattle.shard_store.proofs.store.ShardStore.new.Goals as goal

pub invariant_of-result : goal.invariant_of-result
invariant_of-result c =
    let none = c.new-3.ensures in
    record {
      past = λ e i. absurd (in_none e (subst (λ l. IsIn e (entries_kept c.args.shard.0 l)) none i));
      reached = omega arith;
      shown = λ n k t. c.new.ensures.shown n k t ∙ ap (λ l. document_at (entries_kept c.args.shard.0 l) n (Some k) t) (sym none);
      versions = λ n k t e. absurd (let clash = sym (c.new.ensures.last n k) ∙ e in cc);
      noted = λ number. c.new-2.ensures.so_far number ∙ ap (λ l. seen (notes_kept l) number) (sym none);
    }
