use Rattle.std.proofs.Common.{◌∙◌, List, [], length, ap, arith, inr}
use Rattle.std.proofs.lemmas.List.{length-map}
use Rattle.cluster_service.specs.Openings.{disk_facts}
use Rattle.cluster_service.proofs.OpenedUpTo.{all_opened, has_stopped, up_to_len}
use Rattle.cluster_service.proofs.disks.open_all.Goals as goal

pub close_all-requires-clause-room : goal.close_all-requires-clause-room
close_all-requires-clause-room g c =
    let all = up_to_len
    (disk_facts g.D.Disk.tells g.D.Disk.content g.D.Disk.may_leave g.D.Disk.moment g.D.Disk.left_at g.D.Disk.place g.D.Disk.fault_count)
    c.args.disks.items [] c.open_some.result c.open_some.new.journals.items c.open_some.new.found.items c.open_some.new.unopened.items
    c.open_some.ensures in
    omega (arith, all, c.in-Ok.ensures.back.1, c.len.ensures, c.args.disks.ok, c.open_some.new.journals.ok, c.open_some.new.unopened.ok)

pub put_after-requires : goal.put_after-requires
put_after-requires g c =
    let all = up_to_len
    (disk_facts g.D.Disk.tells g.D.Disk.content g.D.Disk.may_leave g.D.Disk.moment g.D.Disk.left_at g.D.Disk.place g.D.Disk.fault_count)
    c.args.disks.items [] c.open_some.result c.open_some.new.journals.items c.open_some.new.found.items c.open_some.new.unopened.items
    c.open_some.ensures in
    let closed = ap (λ (l : List g.row.D.Denot). length l) c.close_all.ensures.disks ∙ length-map c.open_some.new.journals.items (λ journal. journal.disk) in
    omega (
      arith,
      all,
      closed,
      c.in-Ok.ensures.back.1,
      c.close_all.ensures.capacity,
      c.len.ensures,
      c.args.disks.ok,
      c.close_all.new.back.ok,
      c.open_some.new.unopened.ok,
    )

pub returns-in-None-clause-opened : goal.returns-in-None-clause-opened
returns-in-None-clause-opened g c =
    all_opened
    (disk_facts g.D.Disk.tells g.D.Disk.content g.D.Disk.may_leave g.D.Disk.moment g.D.Disk.left_at g.D.Disk.place g.D.Disk.fault_count)
    c.args.disks.items c.open_some.new.journals.items c.open_some.new.found.items c.open_some.new.unopened.items (rw c.in-None.is at c.open_some.ensures)

pub returns-in-Some-clause-unopened : goal.returns-in-Some-clause-unopened
returns-in-Some-clause-unopened g c =
    rw (c.put_after.ensures, c.close_all.ensures.disks)
    (inr (has_stopped
    (disk_facts g.D.Disk.tells g.D.Disk.content g.D.Disk.may_leave g.D.Disk.moment g.D.Disk.left_at g.D.Disk.place g.D.Disk.fault_count)
    c.args.disks.items c.open_some.new.journals.items c.open_some.new.found.items c.open_some.new.unopened.items
    c.in-Some.status (rw c.in-Some.is at c.open_some.ensures)))
