-- By the table that each part of the changes makes.
use Rattle.std.proofs.Common.{◌≡◌, ℕ, [], ◌∷◌, refl, arith, codes}
use Rattle.command_laws.specs.SampleRequests.{five, long_five, six}
use Rattle.bson_model.specs.Tree.{Datum}
use Rattle.base_model.specs.Times.{timestamp}
use Rattle.chunk_model.specs.Changes.{split_table}
use Rattle.chunk_model.specs.SampleCollections.{creation}
use Rattle.chunk_model.specs.Tables.{Table, first_table}
use Rattle.reply_model.specs.Right.{WasSplit, not_sharded, right_split}
use Rattle.reply_laws.specs.SampleExchanges.{created}
use Rattle.reply_laws.specs.SampleChunks.{split_of, split_once, told_split}
use Rattle.reply_laws.proofs.ChunkReplies.{NeverBegins, wrongly_split}
use Rattle.reply_laws.proofs.chunk_examples.split_replies.Goals as goal

-- the table after the split at a key
abbrev table_split : Datum → Table
table_split key = split_table key (first_table creation)

split_five : WasSplit (split_once five) (codes "d.c") five (timestamp 1000 3)
split_five = record {
  later = [];
  older = split_once five;
  table = table_split five;
  all = refl;
  past = (omega arith, (omega arith, tt));
  known = refl;
  bound = refl;
}

split_long : WasSplit (split_once long_five) (codes "d.c") five (timestamp 1000 3)
split_long = record {
  later = [];
  older = split_once long_five;
  table = table_split long_five;
  all = refl;
  past = (omega arith, (omega arith, tt));
  known = refl;
  bound = refl;
}

split_twice : WasSplit (split_of six 4 ∷ split_once five) (codes "d.c") five (timestamp 1000 3)
split_twice = record {
  later = split_of six 4 ∷ [];
  older = split_once five;
  table = table_split five;
  all = refl;
  past = (omega arith, (omega arith, tt));
  known = refl;
  bound = refl;
}

pub returns-clause-right : goal.returns-clause-right
returns-clause-right c = right_split (record { namespace = codes "d.c"; middle = five }) refl split_five refl

pub returns-clause-same_key : goal.returns-clause-same_key
returns-clause-same_key c = right_split (record { namespace = codes "d.c"; middle = five }) refl split_long refl

pub returns-clause-split_again : goal.returns-clause-split_again
returns-clause-split_again c = right_split (record { namespace = codes "d.c"; middle = five }) refl split_twice refl

-- WRONG

another_reply : (counter : ℕ) → (told_split counter).document ≡ not_sharded → ⊥
another_reply counter same = cc

never_by_creation : (time : ℕ) → NeverBegins time created
never_by_creation time = ((λ past begins. cc), tt)

pub returns-clause-not_split : goal.returns-clause-not_split
returns-clause-not_split c next right = wrongly_split created (told_split 3) (never_by_creation (timestamp 1000 3)) next (another_reply 3) right

pub returns-clause-early : goal.returns-clause-early
returns-clause-early c next right =
    wrongly_split (split_once five) (told_split 1) ((λ past begins. omega (arith, past.0)), never_by_creation (timestamp 1000 1)) next (another_reply 1) right

pub returns-clause-another_key : goal.returns-clause-another_key
returns-clause-another_key c next right =
    wrongly_split (split_once six) (told_split 3) ((λ past begins. cc), never_by_creation (timestamp 1000 3)) next (another_reply 3) right

pub returns-clause-not_created : goal.returns-clause-not_created
returns-clause-not_created c next right = wrongly_split (split_of five 2 ∷ []) (told_split 3) ((λ past begins. cc), tt) next (another_reply 3) right
