use Rattle.chunk_laws.proofs.Requests.{split_follows, commit_follows}
use Rattle.chunk_laws.proofs.laws.answers_follow.Goals as goal

pub returns-clause-split : goal.returns-clause-split
returns-clause-split c = split_follows

pub returns-clause-commit : goal.returns-clause-commit
returns-clause-commit c = commit_follows
