use Rattle.cluster_top.proofs.opener.OpenerOpensAnyNodeJournal.reopen.Goals as goal

pub returns-in-Ok-clause-reread : goal.returns-in-Ok-clause-reread
returns-in-Ok-clause-reread g c = record { same = c.reopen.ensures.records; holds = c.reopen.ensures.kept; left = c.reopen.ensures.any_moment }

pub returns-in-Err-clause-reread : goal.returns-in-Err-clause-reread
returns-in-Err-clause-reread g c = record { same = c.reopen.ensures.records; holds = c.reopen.ensures.kept; left = c.reopen.ensures.any_moment }
