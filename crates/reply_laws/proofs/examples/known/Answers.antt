-- Moments and times by their lists.
use Rattle.std.proofs.Common.{◌≤◌, inl, inr, [], ◌∷◌, refl, arith}
use Rattle.base_model.specs.Times.{timestamp, time_of_moment}
use Rattle.chunk_model.specs.Changes.{Change, time_of}
use Rattle.history_model.specs.History.{Entry}
use Rattle.history_model.proofs.Lists.{all_at, in_first}
use Rattle.reply_model.specs.OneHistory.{WasMet}
use Rattle.reply_laws.specs.SampleExchanges.{both_entries, first_entry, moments, second_entry, created, account_of}
use Rattle.reply_laws.proofs.examples.known.Goals as goal
use Rattle.reply_model.specs.Accounts.{Given}

pub returns-clause-right : goal.returns-clause-right
returns-clause-right c = record {
  moment = refl;
  time = inr (inr (inr (first_entry, in_first first_entry (second_entry ∷ []), omega arith)));
  reached = omega arith;
}

-- no moment, collection or entry is of this time
never_met : WasMet (account_of both_entries [] []) (timestamp 1000 7) → ⊥
never_met (inl zero) = omega (arith, zero)
never_met (inr (inl (g, i, same))) = all_at (λ (g : Given). timestamp 1000 7 ≤ time_of_moment g.moment → ⊥) g moments
    ((λ e. omega (arith, e)), ((λ e. omega (arith, e)), tt)) i same
never_met (inr (inr (inl (x, i, same)))) = all_at (λ (x : Change). timestamp 1000 7 ≤ time_of x → ⊥) x created ((λ e. omega (arith, e)), tt) i same
never_met (inr (inr (inr (e, i, same)))) = all_at (λ (e : Entry). timestamp 1000 7 ≤ e.time → ⊥) e both_entries
    ((λ e. omega (arith, e)), ((λ e. omega (arith, e)), tt)) i same

pub returns-clause-made_up : goal.returns-clause-made_up
returns-clause-made_up c k = never_met k.time
