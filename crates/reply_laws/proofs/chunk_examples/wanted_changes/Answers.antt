-- By the one request.
use Rattle.std.proofs.Common.{◌≡◌, inl, inr, [], ◌∷◌, refl, ap, arith, codes}
use Rattle.std.specs.Prelude.{true, false, Some, Result, Ok}
use Rattle.bson_model.specs.Tree.{Datum}
use Rattle.base_model.specs.Refusals.{Refusal}
use Rattle.query_model.specs.Edits.{same_key}
use Rattle.command_model.specs.Command.{Command, split_command}
use Rattle.command_model.specs.Split.{SplitCommand}
use Rattle.command_laws.specs.SampleRequests.{five, six}
use Rattle.chunk_model.specs.Changes.{create_change}
use Rattle.chunk_model.specs.SampleCollections.{creation}
use Rattle.history_model.proofs.Lists.{all_at, in_first}
use Rattle.reply_model.specs.Exchanges.{Asked}
use Rattle.reply_model.specs.OneHistory.{AsksFor}
use Rattle.reply_laws.specs.SampleChunks.{sharding, split_of, splitting}
use Rattle.reply_laws.proofs.chunk_examples.wanted_changes.Goals as goal

pub returns-clause-created : goal.returns-clause-created
returns-clause-created c = record { request = sharding; taken = in_first sharding []; asks = inr refl; later = omega arith }

pub returns-clause-split : goal.returns-clause-split
returns-clause-split c = record { request = splitting; taken = in_first splitting []; asks = refl; later = omega arith }

not_created : AsksFor splitting (create_change creation) → ⊥
not_created (inl write) = let e = write.asks in cc
not_created (inr asks) = cc

pub returns-clause-split_alone : goal.returns-clause-split_alone
returns-clause-split_alone c wanted =
    all_at (λ (a : Asked). AsksFor a (create_change creation) → ⊥) wanted.request (splitting ∷ []) (not_created, tt) wanted.taken wanted.asks

same_split : (a b : SplitCommand) → Path (Result Command Refusal) (Ok (split_command a)) (Ok (split_command b)) → a ≡ b
same_split a b same = cc

abbrev at_key : Datum → SplitCommand
at_key key = record { namespace = codes "d.c"; middle = key }

not_six : AsksFor splitting (split_of six 2) → ⊥
not_six asks =
    let both : true ≡ false = ap (λ (s : SplitCommand). same_key (Some s.middle) (Some five)) (same_split (at_key five) (at_key six) asks) in
    cc

pub returns-clause-another_key : goal.returns-clause-another_key
returns-clause-another_key c wanted =
    all_at (λ (a : Asked). AsksFor a (split_of six 2) → ⊥) wanted.request (splitting ∷ []) (not_six, tt) wanted.taken wanted.asks

pub returns-clause-moved : goal.returns-clause-moved
returns-clause-moved c asked commit wanted = wanted.asks
