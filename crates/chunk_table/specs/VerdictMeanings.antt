-- What is sent along and found, as plain data.
use Rattle.chunk_model.specs.Verdicts as verdicts
use Rattle.chunk_model.specs.Verdicts.{fits, shard_is_old, router_is_old}
use Rattle.chunk_table.specs.declared.verdict.Sent.{Sent}
use Rattle.chunk_table.specs.declared.verdict.Verdict.{Verdict}
use Rattle.chunk_table.specs.declared.verdict.Verdict.TheVariants.{Fits, ShardOld, RouterOld}
use Rattle.chunk_table.specs.Meanings.{version_view}

abbrev pub sent_view : Sent → verdicts.Sent
sent_view s = record { shard = version_view s.shard; collection = version_view s.collection }

abbrev pub verdict_view : Verdict → verdicts.Verdict
verdict_view Fits = fits
verdict_view ShardOld = shard_is_old
verdict_view (RouterOld version) = router_is_old (version_view version)
