use Rattle.std.proofs.Common.{◌∙◌, ◌∷◌, [], IsTrue, ap}
use Rattle.journal_frames.specs.Views.{JournalView}
use Rattle.journal_frames.proofs.Journals.{left_alone}
use Rattle.journal_frames.proofs.journal.JournalLog.append.Goals as goal

pub returns-in_default-clause-any_moment : goal.returns-in_default-clause-any_moment
returns-in_default-clause-any_moment g c tells =
    let is_open : IsTrue c.self.inside.is_open = ap (λ (j : JournalView _). j.is_open) c.self.view_is ∙ c.requires in
    left_alone g.D.Disk.tells g.D.Disk.content g.D.Disk.may_leave g.D.Disk.moment g.D.Disk.left_at c.self.inside.disk c.self.inside.end
    c.self.inside.is_open c.args.self.now (c.args.bytes.now ∷ []) (c.self.invariant is_open tells) tells
    (λ f left. g.met.D.Disk.only_now c.self.inside.disk f left) c.self.view_is
