use Rattle.std.proofs.Common.{rules}
use Rattle.router_replies.proofs.records.block_record.Goals as goal

pub returns-clause-record : goal.returns-clause-record
returns-clause-record c = search rules
