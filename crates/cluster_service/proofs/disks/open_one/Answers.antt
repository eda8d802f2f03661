use Rattle.cluster_service.specs.Openings.{disk_facts}
use Rattle.cluster_service.proofs.OpenJournals.{is_as_it_was, unopened_by_damage, unopened_by_disk, unopened_by_memory}
use Rattle.cluster_service.proofs.disks.open_one.Goals as goal

pub returns-in-Ok-clause-opened : goal.returns-in-Ok-clause-opened
returns-in-Ok-clause-opened g c =
    let facts = disk_facts g.D.Disk.tells g.D.Disk.content g.D.Disk.may_leave g.D.Disk.moment g.D.Disk.left_at g.D.Disk.place g.D.Disk.fault_count in
    let ensured = c.in-Ok.ensures in
    record {
      had = ensured.found;
      has = record { ready = ensured.«open»; listed = ensured.list; stands = λ told. ensured.same _ told (ensured.found told) };
      was = is_as_it_was facts g.met.D.Disk.counts_now c.args.disk _ ensured.same ensured.as_damaged ensured.any_moment;
      calm = ensured.calm;
      place = ensured.place;
    }

pub returns-in-Err-Disk-clause-unopened : goal.returns-in-Err-Disk-clause-unopened
returns-in-Err-Disk-clause-unopened g c =
    let facts = disk_facts g.D.Disk.tells g.D.Disk.content g.D.Disk.may_leave g.D.Disk.moment g.D.Disk.left_at g.D.Disk.place g.D.Disk.fault_count in
    let ensured = c.in-Err-Disk.ensures in
    unopened_by_disk facts c.args.disk _ _ c.in-Err-Disk.field-0-is (record {
      was = is_as_it_was facts g.met.D.Disk.counts_now c.args.disk _ ensured.same ensured.as_damaged ensured.any_moment;
      damaged = ensured.damaged;
      cause = ensured.cause;
      calm = ensured.calm;
      later = ensured.later;
      place = ensured.place;
    })

pub returns-in-Err-Damaged-clause-unopened : goal.returns-in-Err-Damaged-clause-unopened
returns-in-Err-Damaged-clause-unopened g c =
    let facts = disk_facts g.D.Disk.tells g.D.Disk.content g.D.Disk.may_leave g.D.Disk.moment g.D.Disk.left_at g.D.Disk.place g.D.Disk.fault_count in
    let ensured = c.in-Err-Damaged.ensures in
    unopened_by_damage facts c.args.disk _ _ _ c.in-Err-Damaged.field-0-is (record {
      was = is_as_it_was facts g.met.D.Disk.counts_now c.args.disk _ ensured.same ensured.as_damaged ensured.any_moment;
      damaged = ensured.damaged;
      cause = ensured.cause;
      calm = ensured.calm;
      later = ensured.later;
      place = ensured.place;
    })

pub returns-in-Err-Memory-clause-unopened : goal.returns-in-Err-Memory-clause-unopened
returns-in-Err-Memory-clause-unopened g c =
    let facts = disk_facts g.D.Disk.tells g.D.Disk.content g.D.Disk.may_leave g.D.Disk.moment g.D.Disk.left_at g.D.Disk.place g.D.Disk.fault_count in
    let ensured = c.in-Err-Memory.ensures in
    unopened_by_memory facts c.args.disk _ _ c.in-Err-Memory.field-0-is (record {
      was = is_as_it_was facts g.met.D.Disk.counts_now c.args.disk _ ensured.same ensured.as_damaged ensured.any_moment;
      damaged = ensured.damaged;
      cause = ensured.cause;
      calm = ensured.calm;
      later = ensured.later;
      place = ensured.place;
    })
