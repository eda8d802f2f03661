use Rattle.std.proofs.Common.{true, false, ◌≡◌, ◌∙◌, ◌++◌, ◌-◌, List, ℕ, length, drop, sym, ap, subst, IsTrue, arith}
use Rattle.std.proofs.lemmas.List.{length-take, length-drop}
use Rattle.outside.specs.Disks.{LeavesOnly}
use Rattle.journal_frames.specs.Files.{Stands, StandsWithOrWithout, records_in}
use Rattle.journal_frames.specs.Views.{JournalView}
use Rattle.journal_frames.proofs.Appended.{is_ready, not_empty, rest_listed}
use Rattle.journal_frames.proofs.Journals.{left_alone, of_disks}
use Rattle.journal_frames.proofs.Listed.{listed_rest}
use Rattle.journal_frames.proofs.Opened.{either_where, rest_durable, rest_stands}
use Rattle.journal_frames.proofs.journal.JournalLog.append_all.Goals as goal

pub invariant_of-self : goal.invariant_of-self
invariant_of-self g c is tells =
    let is_open : IsTrue c.self.inside.is_open = ap (λ (j : JournalView _). j.is_open) c.self.view_is ∙ c.requires in
    let ready = is_ready g.D.Disk.tells (g.D.Disk.content c.self.inside.disk) (g.D.Disk.may_leave c.self.inside.disk) (records_in (g.D.Disk.content
    c.self.inside.disk)) c.self.inside.end c.args.bodies.now c.deref.result.now (c.self.invariant is_open tells) (not_empty c.args.bodies.now
    c.is_empty.result c.is_empty.ensures c.if-is_empty.false) (c.deref.ensures.value ∙ c.in-Ok.ensures) (omega (
      arith,
      c.if-end-ge-MOST_BYTES.false,
      c.saturating_add-end.ensures,
    )) in
    let rest = c.in-Ok-put_records.ensures.put _ c.args.bodies.now ready in
    rest_listed g.D.Disk.tells (g.D.Disk.content c.put_records.new.disk) (g.D.Disk.may_leave c.put_records.new.disk) _ _ c.saturating_add-end.result
    rest tells (omega (
      arith,
      c.if-end-ge-MOST_BYTES.false,
      c.saturating_add-end.ensures,
      length-take (length c.deref.result.now - 1) (drop 1
          c.deref.result.now),
      length-drop 1 c.deref.result.now,
    ))

pub returns-in-Ok-put_records-clause-appended : goal.returns-in-Ok-put_records-clause-appended
returns-in-Ok-put_records-clause-appended g c tells =
    let is_open : IsTrue c.self.inside.is_open = ap (λ (j : JournalView _). j.is_open) c.self.view_is ∙ c.requires in
    let records : records_in (g.D.Disk.content c.self.inside.disk) ≡ c.args.self.now.records = ap (λ (j : JournalView _). j.records) c.self.view_is in
    let ready = is_ready g.D.Disk.tells (g.D.Disk.content c.self.inside.disk) (g.D.Disk.may_leave c.self.inside.disk) (records_in (g.D.Disk.content
    c.self.inside.disk)) c.self.inside.end c.args.bodies.now c.deref.result.now (c.self.invariant is_open tells) (not_empty c.args.bodies.now
    c.is_empty.result c.is_empty.ensures c.if-is_empty.false) (c.deref.ensures.value ∙ c.in-Ok.ensures) (omega (
      arith,
      c.if-end-ge-MOST_BYTES.false,
      c.saturating_add-end.ensures,
    )) in
    let rest = c.in-Ok-put_records.ensures.put _ c.args.bodies.now ready in
    listed_rest _ _ rest.fits (rest.file tells) ∙ ap (λ (rs : List (List ℕ)). rs ++ c.args.bodies.now) records

pub returns-in-Ok-put_records-clause-kept : goal.returns-in-Ok-put_records-clause-kept
returns-in-Ok-put_records-clause-kept g c tells =
    let is_open : IsTrue c.self.inside.is_open = ap (λ (j : JournalView _). j.is_open) c.self.view_is ∙ c.requires in
    let ready = is_ready g.D.Disk.tells (g.D.Disk.content c.self.inside.disk) (g.D.Disk.may_leave c.self.inside.disk) (records_in (g.D.Disk.content
    c.self.inside.disk)) c.self.inside.end c.args.bodies.now c.deref.result.now (c.self.invariant is_open tells) (not_empty c.args.bodies.now
    c.is_empty.result c.is_empty.ensures c.if-is_empty.false) (c.deref.ensures.value ∙ c.in-Ok.ensures) (omega (
      arith,
      c.if-end-ge-MOST_BYTES.false,
      c.saturating_add-end.ensures,
    )) in
    let rest = c.in-Ok-put_records.ensures.put _ c.args.bodies.now ready in
    subst (λ (rs : List (List ℕ)). Stands (g.D.Disk.content c.put_records.new.disk) rs) (sym (listed_rest _ _ rest.fits (rest.file tells)))
    (rest_stands g.D.Disk.tells (g.D.Disk.content c.put_records.new.disk) (g.D.Disk.may_leave c.put_records.new.disk) _ _ rest tells)

pub returns-in-Ok-put_records-clause-durable : goal.returns-in-Ok-put_records-clause-durable
returns-in-Ok-put_records-clause-durable g c tells left may =
    let is_open : IsTrue c.self.inside.is_open = ap (λ (j : JournalView _). j.is_open) c.self.view_is ∙ c.requires in
    let ready = is_ready g.D.Disk.tells (g.D.Disk.content c.self.inside.disk) (g.D.Disk.may_leave c.self.inside.disk) (records_in (g.D.Disk.content
    c.self.inside.disk)) c.self.inside.end c.args.bodies.now c.deref.result.now (c.self.invariant is_open tells) (not_empty c.args.bodies.now
    c.is_empty.result c.is_empty.ensures c.if-is_empty.false) (c.deref.ensures.value ∙ c.in-Ok.ensures) (omega (
      arith,
      c.if-end-ge-MOST_BYTES.false,
      c.saturating_add-end.ensures,
    )) in
    let rest = c.in-Ok-put_records.ensures.put _ c.args.bodies.now ready in
    subst (λ (rs : List (List ℕ)). Stands left rs) (sym (listed_rest _ _ rest.fits (rest.file tells)))
    (rest_durable g.D.Disk.tells (g.D.Disk.content c.put_records.new.disk) (g.D.Disk.may_leave c.put_records.new.disk) _ _ rest tells left may)

pub returns-in-Ok-put_records-clause-any_moment : goal.returns-in-Ok-put_records-clause-any_moment
returns-in-Ok-put_records-clause-any_moment g c tells =
    let is_open : IsTrue c.self.inside.is_open = ap (λ (j : JournalView _). j.is_open) c.self.view_is ∙ c.requires in
    let ready = is_ready g.D.Disk.tells (g.D.Disk.content c.self.inside.disk) (g.D.Disk.may_leave c.self.inside.disk) (records_in (g.D.Disk.content
    c.self.inside.disk)) c.self.inside.end c.args.bodies.now c.deref.result.now (c.self.invariant is_open tells) (not_empty c.args.bodies.now
    c.is_empty.result c.is_empty.ensures c.if-is_empty.false) (c.deref.ensures.value ∙ c.in-Ok.ensures) (omega (
      arith,
      c.if-end-ge-MOST_BYTES.false,
      c.saturating_add-end.ensures,
    )) in
    let list = records_in (g.D.Disk.content c.self.inside.disk) in
    let before : JournalView _ = record { disk = c.self.inside.disk; records = list; is_open = c.self.inside.is_open } in
    let after : JournalView _ = record {
      disk = c.put_records.new.disk;
      records = records_in (g.D.Disk.content c.put_records.new.disk);
      is_open =
          true;
    } in
    subst (λ (j : JournalView _). LeavesOnly (λ (k : JournalView _). g.D.Disk.moment k.disk) (λ k t file. g.D.Disk.left_at k.disk t file) j after
    (StandsWithOrWithout j.records c.args.bodies.now)) c.self.view_is
    (of_disks g.D.Disk.moment g.D.Disk.left_at before after (StandsWithOrWithout list c.args.bodies.now) (c.put_records.ensures.any_moment list
    c.args.bodies.now ready tells))

pub returns-clause-failed : goal.returns-clause-failed
returns-clause-failed g c = either_where g.D.Disk.tells (λ tells.
    let is_open : IsTrue c.self.inside.is_open = ap (λ (j : JournalView _). j.is_open) c.self.view_is ∙ c.requires in
    let records : records_in (g.D.Disk.content c.self.inside.disk) ≡ c.args.self.now.records = ap (λ (j : JournalView _). j.records) c.self.view_is in
    let ready = is_ready g.D.Disk.tells (g.D.Disk.content c.self.inside.disk) (g.D.Disk.may_leave c.self.inside.disk) (records_in (g.D.Disk.content
    c.self.inside.disk)) c.self.inside.end c.args.bodies.now c.deref.result.now (c.self.invariant is_open tells) (not_empty c.args.bodies.now
    c.is_empty.result c.is_empty.ensures c.if-is_empty.false) (c.deref.ensures.value ∙ c.in-Ok.ensures) (omega (
      arith,
      c.if-end-ge-MOST_BYTES.false,
      c.saturating_add-end.ensures,
    )) in
    subst (λ (rs : List (List ℕ)). StandsWithOrWithout rs c.args.bodies.now (g.D.Disk.content c.put_records.new.disk)) records
    (c.put_records.ensures.held _ c.args.bodies.now ready tells))

pub returns-clause-any_moment : goal.returns-clause-any_moment
returns-clause-any_moment g c tells =
    let is_open : IsTrue c.self.inside.is_open = ap (λ (j : JournalView _). j.is_open) c.self.view_is ∙ c.requires in
    let ready = is_ready g.D.Disk.tells (g.D.Disk.content c.self.inside.disk) (g.D.Disk.may_leave c.self.inside.disk) (records_in (g.D.Disk.content
    c.self.inside.disk)) c.self.inside.end c.args.bodies.now c.deref.result.now (c.self.invariant is_open tells) (not_empty c.args.bodies.now
    c.is_empty.result c.is_empty.ensures c.if-is_empty.false) (c.deref.ensures.value ∙ c.in-Ok.ensures) (omega (
      arith,
      c.if-end-ge-MOST_BYTES.false,
      c.saturating_add-end.ensures,
    )) in
    let list = records_in (g.D.Disk.content c.self.inside.disk) in
    let before : JournalView _ = record { disk = c.self.inside.disk; records = list; is_open = c.self.inside.is_open } in
    let after : JournalView _ = record {
      disk = c.put_records.new.disk;
      records = records_in (g.D.Disk.content c.put_records.new.disk);
      is_open =
          false;
    } in
    subst (λ (j : JournalView _). LeavesOnly (λ (k : JournalView _). g.D.Disk.moment k.disk) (λ k t file. g.D.Disk.left_at k.disk t file) j after
    (StandsWithOrWithout j.records c.args.bodies.now)) c.self.view_is
    (of_disks g.D.Disk.moment g.D.Disk.left_at before after (StandsWithOrWithout list c.args.bodies.now) (c.put_records.ensures.any_moment list
    c.args.bodies.now ready tells))

pub returns-then-is_empty-clause-any_moment : goal.returns-then-is_empty-clause-any_moment
returns-then-is_empty-clause-any_moment g c tells =
    let is_open : IsTrue c.self.inside.is_open = ap (λ (j : JournalView _). j.is_open) c.self.view_is ∙ c.requires in
    left_alone g.D.Disk.tells g.D.Disk.content g.D.Disk.may_leave g.D.Disk.moment g.D.Disk.left_at c.self.inside.disk c.self.inside.end
    c.self.inside.is_open c.args.self.now c.args.bodies.now (c.self.invariant is_open tells) tells
    (λ f left. g.met.D.Disk.only_now c.self.inside.disk f left) c.self.view_is

pub returns-in_default-clause-any_moment : goal.returns-in_default-clause-any_moment
returns-in_default-clause-any_moment g c tells =
    let is_open : IsTrue c.self.inside.is_open = ap (λ (j : JournalView _). j.is_open) c.self.view_is ∙ c.requires in
    left_alone g.D.Disk.tells g.D.Disk.content g.D.Disk.may_leave g.D.Disk.moment g.D.Disk.left_at c.self.inside.disk c.self.inside.end
    c.self.inside.is_open c.args.self.now c.args.bodies.now (c.self.invariant is_open tells) tells
    (λ f left. g.met.D.Disk.only_now c.self.inside.disk f left) c.self.view_is

pub returns-then-end-ge-MOST_BYTES-clause-any_moment : goal.returns-then-end-ge-MOST_BYTES-clause-any_moment
returns-then-end-ge-MOST_BYTES-clause-any_moment g c tells =
    let is_open : IsTrue c.self.inside.is_open = ap (λ (j : JournalView _). j.is_open) c.self.view_is ∙ c.requires in
    left_alone g.D.Disk.tells g.D.Disk.content g.D.Disk.may_leave g.D.Disk.moment g.D.Disk.left_at c.self.inside.disk c.self.inside.end
    c.self.inside.is_open c.args.self.now c.args.bodies.now (c.self.invariant is_open tells) tells
    (λ f left. g.met.D.Disk.only_now c.self.inside.disk f left) c.self.view_is
