-- Replies of which what they say was so by their step, by the command of each request.
use Rattle.std.proofs.Common.{◌≡◌, ℕ, ◌≤◌, List, [], refl, sym, subst, codes}
use Rattle.std.specs.Prelude.{Result, Ok}
use Rattle.std.specs.List.{AllByRecursion}
use Rattle.base_model.specs.Refusals.{Refusal}
use Rattle.command_model.specs.Answers.{changed_answer, answer_document}
use Rattle.command_model.specs.Command.{Command, write_command, find_command, shard_collection_command, split_command, command_of}
use Rattle.command_model.specs.Find.{Find}
use Rattle.command_model.specs.Split.{SplitCommand}
use Rattle.command_model.specs.Writes.{WriteCommand}
use Rattle.chunk_model.specs.Changes.{Change, create_change}
use Rattle.chunk_model.specs.SampleCollections.{creation}
use Rattle.history_model.specs.History.{IsIn}
use Rattle.history_model.proofs.Lists.{all_at, in_first}
use Rattle.reply_model.specs.Exchanges.{Asked, Answered}
use Rattle.reply_model.specs.Accounts.{Dated, Account}
use Rattle.reply_model.specs.Right.{WasCreated, WasSplit, not_sharded}
use Rattle.reply_model.specs.OneHistory.{Shows, IsCausedWrite, IsCaused, WasAbsent, changes_by}
use Rattle.reply_laws.specs.SampleExchanges.{created}

-- what a reply to a request with this command says was so by its step
pub record IsCausedFor (account : Account) (a : Asked) (t : Answered) (command : Result Command Refusal) : Type 0 where
  pub written : (write : WriteCommand) → command ≡ Ok (write_command write) → a.id ≡ t.id → IsCausedWrite account a t write
  pub created : (namespace : List ℕ) → command ≡ Ok (shard_collection_command namespace) → WasCreated (changes_by account.dated t) namespace t.time
  pub begins : (split : SplitCommand) → command ≡ Ok (split_command split) → t.document ≡ answer_document (changed_answer t.time)
      → WasSplit (changes_by account.dated t) split.namespace split.middle t.time
  pub absent : (split : SplitCommand) → command ≡ Ok (split_command split) → t.document ≡ not_sharded
      → WasAbsent account.dated split.namespace a.came t.step

-- of each of these requests
pub caused_by : (account : Account) (t : Answered)
    → AllByRecursion (λ (a : Asked). IsCausedFor account a t (command_of a.request)) account.asked → IsCaused account t
caused_by account t all = record {
  written = λ a write to. (of_request a to.taken).written write to.asks to.own;
  created = λ a namespace to says. (of_request a to.taken).created namespace to.asks;
  begins = λ a split to says. (of_request a to.taken).begins split to.asks says;
  absent = λ a split to says. (of_request a to.taken).absent split to.asks says;
}
  where
    of_request : (a : Asked) → IsIn a account.asked → IsCausedFor account a t (command_of a.request)
    of_request a i = all_at (λ (b : Asked). IsCausedFor account b t (command_of b.request)) a account.asked all i

-- BY THE COMMAND

module _ (account : Account) (a : Asked) (t : Answered) where
  abbrev For : Command → Type 0
  For command = IsCausedFor account a t (Ok command)

  one_write : (write other : WriteCommand) → Path (Result Command Refusal) (Ok (write_command write)) (Ok (write_command other)) → write ≡ other
  one_write write other same = cc

  one_name : (namespace other : List ℕ) → Path (Result Command Refusal) (Ok (shard_collection_command namespace)) (Ok (shard_collection_command other))
      → namespace ≡ other
  one_name namespace other same = cc

  one_split : (split other : SplitCommand) → Path (Result Command Refusal) (Ok (split_command split)) (Ok (split_command other)) → split ≡ other
  one_split split other same = cc

  pub by_write : (write : WriteCommand) → (a.id ≡ t.id → Shows account a t write) → WasCreated (changes_by account.dated t) write.namespace t.time
      → For (write_command write)
  by_write write shows was = record {
    written = λ other same own. subst (λ (w : WriteCommand). IsCausedWrite account a t w) (one_write write other same)
        (record { shown = shows own; created = λ any. was });
    created = λ namespace same. absurd (cc);
    begins = λ split same says. absurd (cc);
    absent = λ split same says. absurd (cc);
  }

  pub by_find : (find : Find) → For (find_command find)
  by_find find = record {
    written = λ write same own. absurd (cc);
    created = λ namespace same. absurd (cc);
    begins = λ split same says. absurd (cc);
    absent = λ split same says. absurd (cc);
  }

  pub by_shard : (namespace : List ℕ) → WasCreated (changes_by account.dated t) namespace t.time → For (shard_collection_command namespace)
  by_shard namespace was = record {
    written = λ write same own. absurd (cc);
    created = λ other same. subst (λ (n : List ℕ). WasCreated (changes_by account.dated t) n t.time) (one_name namespace other same) was;
    begins = λ split same says. absurd (cc);
    absent = λ split same says. absurd (cc);
  }

  pub by_split : (split : SplitCommand)
      → (t.document ≡ answer_document (changed_answer t.time) → WasSplit (changes_by account.dated t) split.namespace split.middle t.time)
      → (t.document ≡ not_sharded → WasAbsent account.dated split.namespace a.came t.step) → For (split_command split)
  by_split split was none = record {
    written = λ write same own. absurd (cc);
    created = λ namespace same. absurd (cc);
    begins = λ other same says.
        subst (λ (s : SplitCommand). WasSplit (changes_by account.dated t) s.namespace s.middle t.time) (one_split split other same) (was says);
    absent = λ other same says. subst (λ (s : SplitCommand). WasAbsent account.dated s.namespace a.came t.step) (one_split split other same) (none says);
  }

-- d.c was created, by the one change that was made by the step
pub made_by : (dated : List Dated) (t : Answered) → changes_by dated t ≡ created → creation.at ≤ t.time → WasCreated (changes_by dated t) (codes "d.c") t.time
made_by dated t same past = record {
  creation = creation;
  begun = subst (λ (l : List Change). IsIn (create_change creation) l) (sym same) (in_first (create_change creation) []);
  name = refl;
  before = past;
}
