-- Replies to shardCollection and split, to try the definitions on: what is wrong.
use Rattle.std.proofs.Common.{◌≡◌, ◌≢◌, ℕ, ◌≤◌, ◌⊎◌, inl, inr, List, [], ◌∷◌, ◌++◌, refl, sym, ap, subst, ◌∙◌, codes}
use Rattle.std.specs.Prelude.{Bool, true, false, Option, Some, None, Ok}
use Rattle.std.specs.List.{AllByRecursion}
use Rattle.bson_model.specs.Tree.{Fields}
use Rattle.base_model.specs.Errors.{namespace_not_sharded}
use Rattle.base_model.specs.Refusals.{without_evidence}
use Rattle.base_model.specs.ReplyParts.{operation_time}
use Rattle.command_laws.specs.SampleRequests.{five}
use Rattle.command_model.specs.Answers.{changed_answer, answer_document}
use Rattle.command_model.proofs.AnswerTimes.{time_of_changed, time_refused}
use Rattle.command_model.specs.Command.{shard_collection_command, split_command}
use Rattle.chunk_model.specs.Tables.{Table}
use Rattle.chunk_model.specs.Changes.{Change, create_change, split_change, commit_change, time_of, known_table, begins_at}
use Rattle.history_model.proofs.Lists.{all_at}
use Rattle.reply_model.specs.Exchanges.{Answered}
use Rattle.reply_laws.specs.SampleExchanges.{account_with}
use Rattle.reply_model.specs.Cursors.{Cursor}
use Rattle.reply_model.specs.Right.{WasSplit, IsRight, not_sharded}
use Rattle.reply_facts.proofs.RightAnswers.{TellsSharded, TellsSplit, TellsGivenUp, right_of}
use Rattle.reply_laws.proofs.Quiet.{never_given_up}
use Rattle.reply_laws.specs.SampleChunks.{sharding, splitting}

-- the change creates d.c, by this time
abbrev pub Creates : ℕ → Change → Type 0
Creates time (create_change c) = (c.namespace ≡ codes "d.c") × (c.at ≤ time)
Creates time (split_change s) = ⊥
Creates time (commit_change c) = ⊥

pub wrongly_sharded : (changes : List Change) (t : Answered) (next : List Cursor) → AllByRecursion (λ (x : Change). Creates t.time x → ⊥) changes
    → IsRight (account_with changes [] [] []) [] sharding t next → ⊥
wrongly_sharded changes t next none right =
    by_told (right_of (account_with changes [] [] []) [] sharding t (Ok (shard_collection_command (codes "d.c"))) next refl right).0
  where
    by_told : TellsSharded (account_with changes [] [] []) [] sharding t (codes "d.c") ⊎ TellsGivenUp (account_with changes [] [] []) [] sharding t → ⊥
    by_told (inl told) =
        all_at (λ (x : Change). Creates t.time x → ⊥) (create_change told.created.creation) changes none told.created.begun
        (told.created.name, told.created.before)
    by_told (inr tells) = never_given_up (account_with changes [] [] []) sharding t refl refl tells.refusal tells.why

-- a chunk of the table begins at 5
abbrev pub begins_in : Option Table → Bool
begins_in None = false
begins_in (Some table) = begins_at five table.chunks

-- by none of these changes and those before it that are not later than this time
abbrev pub NeverBegins : ℕ → List Change → Type 0
NeverBegins time [] = Unit {0}
NeverBegins time (x ∷ older) =
    (AllByRecursion (λ y. time_of y ≤ time) (x ∷ older) → begins_in (known_table (codes "d.c") (x ∷ older)) ≡ true → ⊥) × NeverBegins time older

at_first : (changes : List Change) (time : ℕ) → NeverBegins time changes → AllByRecursion (λ y. time_of y ≤ time) changes
    → begins_in (known_table (codes "d.c") changes) ≡ true → ⊥
at_first [] time never past begins = cc
at_first (x ∷ changes) time never past begins = never.0 past begins

at_none : (later changes older : List Change) (time : ℕ) → NeverBegins time changes → changes ≡ later ++ older
    → AllByRecursion (λ y. time_of y ≤ time) older → begins_in (known_table (codes "d.c") older) ≡ true → ⊥
at_none [] changes older time never all past begins = at_first older time (subst (NeverBegins time) all never) past begins
at_none (y ∷ later) [] older time never all past begins = absurd (cc)
at_none (y ∷ later) (x ∷ changes) older time never all past begins =
    let rest : changes ≡ later ++ older = cc in
    at_none later changes older time never.1 rest past begins

module _ (changes : List Change) (t : Answered) (never : NeverBegins t.time changes) where
  pub unsplit : WasSplit changes (codes "d.c") five t.time → ⊥
  unsplit was = at_none was.later changes was.older t.time never was.all was.past (ap begins_in was.known ∙ was.bound)

  pub wrongly_split : (next : List Cursor) → t.document ≢ not_sharded → IsRight (account_with changes [] [] []) [] splitting t next → ⊥
  wrongly_split next told right =
      by_told (right_of (account_with changes [] [] []) [] splitting t (Ok (split_command (record { namespace = codes "d.c"; middle = five }))) next refl
      right).0
    where
      by_told : TellsSplit (account_with changes [] [] []) [] splitting t (record { namespace = codes "d.c"; middle = five })
          ⊎ ((t.document ≡ not_sharded) ⊎ TellsGivenUp (account_with changes [] [] []) [] splitting t) → ⊥
      by_told (inl changed) = unsplit changed.begins
      by_told (inr (inl none)) = told none
      by_told (inr (inr tells)) = never_given_up (account_with changes [] [] []) splitting t refl refl tells.refusal tells.why

-- WHICH REPLY IT IS

some_none : {X : Type 0} {x : X} → Some x ≡ None → ⊥
some_none e = cc

pub changed_differs : (time : ℕ) → answer_document (changed_answer time) ≡ not_sharded → ⊥
changed_differs time same =
    some_none (sym (time_of_changed time) ∙ ap (λ (d : Fields). operation_time (Some d)) same ∙ time_refused (without_evidence namespace_not_sharded))
