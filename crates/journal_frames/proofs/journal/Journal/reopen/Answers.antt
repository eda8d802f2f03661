use Rattle.std.proofs.Common.{◌≡◌, ◌∙◌, IsTrue, ap}
use Rattle.journal_frames.specs.Files.{records_in}
use Rattle.journal_frames.specs.Views.{JournalView}
use Rattle.journal_frames.proofs.Opened.{rest_list}
use Rattle.journal_frames.proofs.journal.Journal.reopen.Goals as goal

pub returns-clause-found : goal.returns-clause-found
returns-clause-found g c told =
    let is_open : IsTrue c.self.inside.is_open = ap (λ (j : JournalView _). j.is_open) c.self.view_is ∙ c.requires in
    rest_list g.D.Disk.tells (g.D.Disk.content c.self.inside.disk) (g.D.Disk.may_leave c.self.inside.disk) (records_in (g.D.Disk.content c.self.inside.disk))
    c.self.inside.end (c.self.invariant is_open told) told c.deref.result.now c.in-Ok-scan.found.0 (c.deref.ensures.value ∙ c.in-Ok.ensures.file told)
    c.in-Ok-scan.ensures.found.0 ∙ ap (λ (j : JournalView _). j.records) c.self.view_is
