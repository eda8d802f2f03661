-- By the one creation.
use Rattle.std.proofs.Common.{◌≡◌, ℕ, List, [], refl, ap, arith, codes}
use Rattle.std.specs.Prelude.{true, false}
use Rattle.std.specs.Str.{bytes_eq}
use Rattle.chunk_model.specs.Changes.{create_change}
use Rattle.chunk_model.specs.SampleCollections.{creation}
use Rattle.history_model.proofs.Lists.{in_first}
use Rattle.reply_model.specs.Right.{right_shard}
use Rattle.reply_laws.specs.SampleExchanges.{created}
use Rattle.reply_laws.specs.SampleChunks.{created_other, told_sharded}
use Rattle.reply_laws.proofs.ChunkReplies.{wrongly_sharded}
use Rattle.reply_laws.proofs.chunk_examples.shard_replies.Goals as goal

pub returns-clause-right : goal.returns-clause-right
returns-clause-right c = right_shard (codes "d.c") refl
    (record { creation = creation; begun = in_first (create_change creation) []; name = refl; before = omega arith }) refl

pub returns-clause-just_then : goal.returns-clause-just_then
returns-clause-just_then c = right_shard (codes "d.c") refl
    (record { creation = creation; begun = in_first (create_change creation) []; name = refl; before = omega arith }) refl

pub returns-clause-early : goal.returns-clause-early
returns-clause-early c next right = wrongly_sharded created (told_sharded 0) next ((λ begun. omega (arith, begun.1)), tt) right

pub returns-clause-another_name : goal.returns-clause-another_name
returns-clause-another_name c next right = wrongly_sharded created_other (told_sharded 2) next
    ((λ begun. let both : true ≡ false = ap (λ (name : List ℕ). bytes_eq name (codes "d.b")) begun.0 in cc), tt) right

pub returns-clause-none : goal.returns-clause-none
returns-clause-none c next right = wrongly_sharded [] (told_sharded 2) next tt right
