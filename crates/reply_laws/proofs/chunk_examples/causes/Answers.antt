-- By the steps in which there was no collection.
use Rattle.std.proofs.Common.{◌≡◌, ℕ, ◌≤◌, List, [], ◌∷◌, refl, sym, ap, ◌∙◌, arith, codes}
use Rattle.std.specs.Prelude.{Bool, true, Some, None, nat_lt, if◌then◌else◌}
use Rattle.std.proofs.lemmas.Bool.Decides.{nat_tests}
use Rattle.command_laws.specs.SampleRequests.{five}
use Rattle.command_model.specs.Answers.{changed_answer, answer_document}
use Rattle.chunk_model.specs.Changes.{known_table}
use Rattle.chunk_model.specs.SampleCollections.{creation}
use Rattle.chunk_model.specs.Tables.{first_table}
use Rattle.history_model.proofs.Lists.{in_first}
use Rattle.reply_model.specs.Right.{not_sharded, right_not_sharded}
use Rattle.reply_model.specs.OneHistory.{IsCaused, changes_before}
use Rattle.reply_laws.specs.SampleExchanges.{created, account_by}
use Rattle.reply_laws.specs.SampleChunks.{created_in, splitting, told_none}
use Rattle.reply_laws.proofs.CausedReplies.{by_split, caused_by}
use Rattle.reply_laws.proofs.ChunkReplies.{changed_differs}
use Rattle.reply_laws.proofs.chunk_examples.causes.Goals as goal
use Rattle.reply_model.specs.Accounts.{Dated}

pub returns-clause-right : goal.returns-clause-right
returns-clause-right c = right_not_sharded (record { namespace = codes "d.c"; middle = five }) refl refl

unchanged : (time : ℕ) → not_sharded ≡ answer_document (changed_answer time) → ⊥
unchanged time same = changed_differs time (sym same)

-- where no change was made before the request came
caused : (dated : List Dated) → changes_before 4 dated ≡ [] → IsCaused (account_by dated [] (splitting ∷ []) []) told_none
caused dated none =
    caused_by (account_by dated [] (splitting ∷ []) []) told_none (
      by_split (account_by dated [] (splitting ∷ []) []) splitting told_none (record { namespace = codes "d.c"; middle = five }) (λ says. absurd (unchanged told_none.time says))
          (λ says. record { step = 4; after = omega arith; before = omega arith; none = ap (known_table (codes "d.c")) none }),
      tt,
    )

pub returns-clause-none : goal.returns-clause-none
returns-clause-none c = caused [] refl

pub returns-clause-created_after : goal.returns-clause-created_after
returns-clause-created_after c = caused (created_in 5) refl

there : (step : ℕ) → 4 ≤ step → known_table (codes "d.c") (changes_before step (created_in 3)) ≡ None → ⊥
there step after none =
    let before : nat_lt 3 step ≡ true = grind (arith, nat_tests) in
    let both : Some (first_table creation) ≡ None = sym (ap (λ (b : Bool). known_table (codes "d.c") (if b then created else [])) before) ∙ none in
    cc

pub returns-clause-created_before : goal.returns-clause-created_before
returns-clause-created_before c is =
    let absent = is.absent splitting (record { namespace = codes "d.c"; middle = five })
    (record { taken = in_first splitting []; own = refl; asks = refl }) refl in
    there absent.step absent.after absent.none
