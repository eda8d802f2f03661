use Rattle.std.proofs.Common.{◌≡◌, ◌∙◌, ℕ, List, sym, ap, subst}
use Rattle.std.specs.Prelude.{IsTrue}
use Rattle.journal_frames.specs.Files.{Stands, records_in}
use Rattle.journal_frames.specs.Views.{IsSettled, JournalView}
use Rattle.journal_frames.proofs.Opened.{rest_durable, rest_stands}
use Rattle.journal_frames.proofs.journal.Journal.into_disk.Goals as goal

pub returns-clause-durable : goal.returns-clause-durable
returns-clause-durable g c is_open tells left may =
    let open_inside : IsTrue c.self.inside.is_open =
    subst (λ b. IsTrue b) (sym (ap (λ (j : JournalView _). j.is_open) c.self.view_is)) is_open in
    let records : records_in (g.D.Disk.content c.self.inside.disk) ≡ c.args.self.records = ap (λ (j : JournalView _). j.records) c.self.view_is in
    subst (λ (rs : List (List ℕ)). Stands left rs) records
    (rest_durable g.D.Disk.tells (g.D.Disk.content c.self.inside.disk) (g.D.Disk.may_leave c.self.inside.disk) _ _
    (c.self.invariant open_inside tells) tells left may)

pub returns-clause-file : goal.returns-clause-file
returns-clause-file g c is_open tells =
    let open_inside : IsTrue c.self.inside.is_open =
    subst (λ b. IsTrue b) (sym (ap (λ (j : JournalView _). j.is_open) c.self.view_is)) is_open in
    let records : records_in (g.D.Disk.content c.self.inside.disk) ≡ c.args.self.records = ap (λ (j : JournalView _). j.records) c.self.view_is in
    subst (λ (rs : List (List ℕ)). Stands (g.D.Disk.content c.self.inside.disk) rs) records
    (rest_stands g.D.Disk.tells (g.D.Disk.content c.self.inside.disk) (g.D.Disk.may_leave c.self.inside.disk) _ _
    (c.self.invariant open_inside tells) tells)

pub returns-clause-settled : goal.returns-clause-settled
returns-clause-settled g c is_open tells =
    let open_inside : IsTrue c.self.inside.is_open =
    subst (λ b. IsTrue b) (sym (ap (λ (j : JournalView _). j.is_open) c.self.view_is)) is_open in
    let records : records_in (g.D.Disk.content c.self.inside.disk) ≡ c.args.self.records = ap (λ (j : JournalView _). j.records) c.self.view_is in
    let rest = c.self.invariant open_inside tells in
    subst (λ (rs : List (List ℕ)). IsSettled (g.D.Disk.content c.self.inside.disk) (g.D.Disk.may_leave c.self.inside.disk) rs) records
    (rest.file tells, rest.durable tells)
