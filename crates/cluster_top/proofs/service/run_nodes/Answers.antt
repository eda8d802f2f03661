use Rattle.std.proofs.Common.{◌∙◌, ◌≡◌, refl, sym, map, append-nil, arith, inl, inr}
use Rattle.outside.specs.Devices.{sink_call, source_call}
use Rattle.pipe_driver.proofs.Counts.{none_fell_after, still}
use Rattle.journal_starts.proofs.Starts.{starts_are_stored}
use Rattle.cluster_service.specs.Arguments.{others_of, shards_of}
use Rattle.cluster_service.specs.Crashes.{AreDurableBefore, LeaveAll}
use Rattle.cluster_service.specs.OpenJournals.{disks_of}
use Rattle.cluster_service.specs.Openings.{disk_facts}
use Rattle.cluster_service.specs.declared.status.Status.TheVariants as statuses
use Rattle.cluster_service.proofs.Counts.{one_rose_after, one_rose_as}
use Rattle.cluster_service.proofs.Crashes.{first_leaves_all, none_owed}
use Rattle.cluster_service.proofs.Firsts.{first_may_play}
use Rattle.cluster_service.proofs.NotBegun.{not_begun, not_begun_calm, stopped_by}
use Rattle.cluster_service.proofs.Openings.{found_len, opened_calm, opened_len, opened_open, opened_places, unopened_fault, unopened_journals, unopened_later, unopened_leave, unopened_places, unopened_refused, unopened_stops, unopened_undamaged}
use Rattle.cluster_service.proofs.NotServed.{opening_ends, opening_not_refused, unopened}
use Rattle.cluster_top.proofs.service.run_nodes.Goals as goal

-- THE JOURNALS ARE OPEN

pub run_opened-requires-clause-journals : goal.run_opened-requires-clause-journals
run_opened-requires-clause-journals g c =
    let same = opened_len (disk_facts g.D.Disk.tells g.D.Disk.content g.D.Disk.may_leave g.D.Disk.moment g.D.Disk.left_at g.D.Disk.place g.D.Disk.fault_count) c.args.disks.items c.in-Ok.opened.journals.items c.in-Ok.opened.found.items c.in-Ok.ensures.opened in
    omega (arith, same, c.requires.disks, c.args.disks.ok, c.in-Ok.opened.journals.ok)

pub run_opened-requires-clause-found : goal.run_opened-requires-clause-found
run_opened-requires-clause-found g c =
    let same = found_len (disk_facts g.D.Disk.tells g.D.Disk.content g.D.Disk.may_leave g.D.Disk.moment g.D.Disk.left_at g.D.Disk.place g.D.Disk.fault_count) c.args.disks.items c.in-Ok.opened.journals.items c.in-Ok.opened.found.items c.in-Ok.ensures.opened in
    omega (arith, same, c.requires.disks, c.args.disks.ok, c.in-Ok.opened.found.ok)

pub run_opened-requires-clause-open : goal.run_opened-requires-clause-open
run_opened-requires-clause-open g c κs within = opened_open (disk_facts g.D.Disk.tells g.D.Disk.content g.D.Disk.may_leave g.D.Disk.moment g.D.Disk.left_at g.D.Disk.place g.D.Disk.fault_count) c.args.disks.items c.in-Ok.opened.journals.items c.in-Ok.opened.found.items c.in-Ok.ensures.opened

pub returns-in-Ok-clause-headline : goal.returns-in-Ok-clause-headline
returns-in-Ok-clause-headline g c = λ first told begun. c.run_opened.ensures.headline c.args.disks.items first told c.in-Ok.ensures.opened begun

pub returns-in-Ok-clause-durable : goal.returns-in-Ok-clause-durable
returns-in-Ok-clause-durable g c = λ told failed. inl (c.run_opened.ensures.durable told failed)

pub returns-in-Ok-clause-damaged : goal.returns-in-Ok-clause-damaged
returns-in-Ok-clause-damaged g c = λ is.
    let damaged = c.run_opened.ensures.damaged is in
    (damaged.0, damaged.1, damaged.2, λ told. damaged.3 c.args.disks.items told c.in-Ok.ensures.opened)

pub returns-in-Ok-clause-refused : goal.returns-in-Ok-clause-refused
returns-in-Ok-clause-refused g c = λ told refused.
    let done = c.run_opened.ensures.refused c.args.disks.items told c.in-Ok.ensures.opened refused in
    (elim done.0 [ inl damaged ↦ inl damaged | inr memory ↦ inr (inr memory) ], done.1)

pub returns-in-Ok-clause-disk_fault : goal.returns-in-Ok-clause-disk_fault
returns-in-Ok-clause-disk_fault g c =
    one_rose_after _ (map g.D.Disk.fault_count c.args.disks.items) (map g.D.Disk.fault_count (disks_of c.in-Ok.opened.journals.items)) (map g.D.Disk.fault_count c.run_opened.result.disks.items)
    (opened_calm (disk_facts g.D.Disk.tells g.D.Disk.content g.D.Disk.may_leave g.D.Disk.moment g.D.Disk.left_at g.D.Disk.place g.D.Disk.fault_count) c.args.disks.items c.in-Ok.opened.journals.items c.in-Ok.opened.found.items c.in-Ok.ensures.opened) c.run_opened.ensures.disk_fault

pub returns-in-Ok-clause-later : goal.returns-in-Ok-clause-later
returns-in-Ok-clause-later g c =
    none_fell_after (map g.D.Disk.fault_count c.args.disks.items) (map g.D.Disk.fault_count (disks_of c.in-Ok.opened.journals.items)) (map g.D.Disk.fault_count c.run_opened.result.disks.items)
    (opened_calm (disk_facts g.D.Disk.tells g.D.Disk.content g.D.Disk.may_leave g.D.Disk.moment g.D.Disk.left_at g.D.Disk.place g.D.Disk.fault_count) c.args.disks.items c.in-Ok.opened.journals.items c.in-Ok.opened.found.items c.in-Ok.ensures.opened) c.run_opened.ensures.later

pub returns-in-Ok-clause-places : goal.returns-in-Ok-clause-places
returns-in-Ok-clause-places g c = c.run_opened.ensures.places ∙ opened_places (disk_facts g.D.Disk.tells g.D.Disk.content g.D.Disk.may_leave g.D.Disk.moment g.D.Disk.left_at g.D.Disk.place g.D.Disk.fault_count) c.args.disks.items c.in-Ok.opened.journals.items c.in-Ok.opened.found.items c.in-Ok.ensures.opened

-- ONE IS NOT OPENED

pub returns-in-Err-clause-headline : goal.returns-in-Err-clause-headline
returns-in-Err-clause-headline g c = λ first told begun.
    let journals = starts_are_stored _ _ (map g.D.Disk.content c.args.disks.items) first begun in
    let other = unopened_undamaged (disk_facts g.D.Disk.tells g.D.Disk.content g.D.Disk.may_leave g.D.Disk.moment g.D.Disk.left_at g.D.Disk.place g.D.Disk.fault_count) c.in-Err.field-0.status c.args.disks.items c.in-Err.field-0.disks.items first.nodes c.in-Err.ensures.unopened told journals in
    rw (c.unserved.ensures.disks, c.unserved.ensures.status)
    (unopened (source_call g.S.Source.tells g.S.Source.left g.S.Source.fault_count c.args.input.now c.args.input.now) (sink_call g.K.Sink.tells g.K.Sink.held g.K.Sink.fault_count c.args.out.now c.args.out.now)
    g.D.Disk.tells (map g.D.Disk.content c.in-Err.field-0.disks.items)
    (LeaveAll first g.K.Sink.tells g.D.Disk.tells g.D.Disk.place g.D.Disk.moment g.D.Disk.left_at (g.K.Sink.noted c.args.out.now) (g.K.Sink.noted c.args.out.now)
    c.args.disks.items c.in-Err.field-0.disks.items)
    (AreDurableBefore g.K.Sink.tells g.D.Disk.tells g.D.Disk.place g.D.Disk.moment g.D.Disk.left_at c.args.command first (g.K.Sink.noted c.args.out.now) (g.K.Sink.held c.args.out.now) c.in-Err.field-0.disks.items)
    (g.C.Clock.gives c.args.clock.now) _ first c.unserved.ensures.rest (λ told. refl) (λ told. sym (append-nil (g.K.Sink.held c.args.out.now)))
    (λ told. unopened_journals (disk_facts g.D.Disk.tells g.D.Disk.content g.D.Disk.may_leave g.D.Disk.moment g.D.Disk.left_at g.D.Disk.place g.D.Disk.fault_count) c.in-Err.field-0.status c.args.disks.items c.in-Err.field-0.disks.items c.in-Err.ensures.unopened first.nodes told journals)
    (first_leaves_all first g.K.Sink.tells g.D.Disk.tells g.D.Disk.place g.D.Disk.moment g.D.Disk.left_at (g.K.Sink.noted c.args.out.now)
    (g.K.Sink.noted c.args.out.now) c.args.disks.items c.in-Err.field-0.disks.items (λ told. unopened_leave (disk_facts g.D.Disk.tells g.D.Disk.content g.D.Disk.may_leave g.D.Disk.moment g.D.Disk.left_at g.D.Disk.place g.D.Disk.fault_count) c.in-Err.field-0.status c.args.disks.items c.in-Err.field-0.disks.items c.in-Err.ensures.unopened first.nodes told journals))
    (none_owed g.K.Sink.tells g.D.Disk.tells g.D.Disk.place g.D.Disk.moment g.D.Disk.left_at c.args.command first (g.K.Sink.noted c.args.out.now) (g.K.Sink.held c.args.out.now) _ first)
    c.args.command c.requires.driver (first_may_play (shards_of c.args.command) _ (map g.D.Disk.content c.args.disks.items) first c.requires.some_shards begun).begins c.in-Err.field-0.status
    (opening_ends c.in-Err.field-0.status (unopened_stops (disk_facts g.D.Disk.tells g.D.Disk.content g.D.Disk.may_leave g.D.Disk.moment g.D.Disk.left_at g.D.Disk.place g.D.Disk.fault_count) c.in-Err.field-0.status c.args.disks.items c.in-Err.field-0.disks.items c.in-Err.ensures.unopened) other))

pub returns-in-Err-clause-durable : goal.returns-in-Err-clause-durable
returns-in-Err-clause-durable g c = λ told failed.
    rw (c.unserved.ensures.disks, c.unserved.ensures.status)
    (inr (not_begun_calm (disk_facts g.D.Disk.tells g.D.Disk.content g.D.Disk.may_leave g.D.Disk.moment g.D.Disk.left_at g.D.Disk.place g.D.Disk.fault_count) c.args.disks.items c.in-Err.field-0.disks.items
    (source_call g.S.Source.tells g.S.Source.left g.S.Source.fault_count c.args.input.now c.args.input.now) (sink_call g.K.Sink.tells g.K.Sink.held g.K.Sink.fault_count c.args.out.now c.args.out.now) _
    ((λ told. refl), refl) ((λ told. sym (append-nil (g.K.Sink.held c.args.out.now))), refl) c.unserved.ensures.rest
    c.in-Err.field-0.status c.in-Err.ensures.unopened (λ is. failed (c.unserved.ensures.status ∙ is))))

pub returns-in-Err-clause-status : goal.returns-in-Err-clause-status
returns-in-Err-clause-status g c =
    let none = opening_not_refused _ (unopened_stops (disk_facts g.D.Disk.tells g.D.Disk.content g.D.Disk.may_leave g.D.Disk.moment g.D.Disk.left_at g.D.Disk.place g.D.Disk.fault_count) c.in-Err.field-0.status c.args.disks.items c.in-Err.field-0.disks.items c.in-Err.ensures.unopened) in
    (λ is. none.0 (sym c.unserved.ensures.status ∙ is), λ is. none.3 (sym c.unserved.ensures.status ∙ is))

pub returns-in-Err-clause-damaged : goal.returns-in-Err-clause-damaged
returns-in-Err-clause-damaged g c = λ is. (
  c.unserved.ensures.rest,
  (λ told. refl, refl),
  (λ told. sym (append-nil (g.K.Sink.held c.args.out.now)), refl),
  λ told. unopened_refused (disk_facts g.D.Disk.tells g.D.Disk.content g.D.Disk.may_leave g.D.Disk.moment g.D.Disk.left_at g.D.Disk.place g.D.Disk.fault_count) (others_of c.args.command) c.in-Err.field-0.status c.args.disks.items c.in-Err.field-0.disks.items c.in-Err.ensures.unopened (sym c.unserved.ensures.status ∙ is) told,
)

pub returns-in-Err-clause-refused : goal.returns-in-Err-clause-refused
returns-in-Err-clause-refused g c = λ told refused.
    rw (c.unserved.ensures.disks, c.unserved.ensures.status) (
      stopped_by c.in-Err.field-0.status (unopened_stops (disk_facts g.D.Disk.tells g.D.Disk.content g.D.Disk.may_leave g.D.Disk.moment g.D.Disk.left_at g.D.Disk.place g.D.Disk.fault_count) c.in-Err.field-0.status c.args.disks.items c.in-Err.field-0.disks.items c.in-Err.ensures.unopened),
      not_begun (disk_facts g.D.Disk.tells g.D.Disk.content g.D.Disk.may_leave g.D.Disk.moment g.D.Disk.left_at g.D.Disk.place g.D.Disk.fault_count) c.args.disks.items c.in-Err.field-0.disks.items
          (source_call g.S.Source.tells g.S.Source.left g.S.Source.fault_count c.args.input.now c.args.input.now) (sink_call g.K.Sink.tells g.K.Sink.held g.K.Sink.fault_count c.args.out.now c.args.out.now) _
          ((λ told. refl), refl) ((λ told. sym (append-nil (g.K.Sink.held c.args.out.now))), refl) c.unserved.ensures.rest
          c.in-Err.field-0.status c.in-Err.ensures.unopened,
    )

pub returns-in-Err-clause-read_fault : goal.returns-in-Err-clause-read_fault
returns-in-Err-clause-read_fault g c =
    still _ _ _ (λ is. (opening_not_refused _ (unopened_stops (disk_facts g.D.Disk.tells g.D.Disk.content g.D.Disk.may_leave g.D.Disk.moment g.D.Disk.left_at g.D.Disk.place g.D.Disk.fault_count) c.in-Err.field-0.status c.args.disks.items c.in-Err.field-0.disks.items c.in-Err.ensures.unopened)).1 (sym c.unserved.ensures.status ∙ is)) refl

pub returns-in-Err-clause-write_fault : goal.returns-in-Err-clause-write_fault
returns-in-Err-clause-write_fault g c =
    still _ _ _ (λ is. (opening_not_refused _ (unopened_stops (disk_facts g.D.Disk.tells g.D.Disk.content g.D.Disk.may_leave g.D.Disk.moment g.D.Disk.left_at g.D.Disk.place g.D.Disk.fault_count) c.in-Err.field-0.status c.args.disks.items c.in-Err.field-0.disks.items c.in-Err.ensures.unopened)).2 (sym c.unserved.ensures.status ∙ is)) refl

pub returns-in-Err-clause-disk_fault : goal.returns-in-Err-clause-disk_fault
returns-in-Err-clause-disk_fault g c =
    rw c.unserved.ensures.disks
    (one_rose_as (c.in-Err.field-0.status ≡ statuses.DiskFailed) _ (map g.D.Disk.fault_count c.args.disks.items)
    (map g.D.Disk.fault_count c.in-Err.field-0.disks.items) (λ is. c.unserved.ensures.status ∙ is)
    (λ is. sym c.unserved.ensures.status ∙ is) (unopened_fault (disk_facts g.D.Disk.tells g.D.Disk.content g.D.Disk.may_leave g.D.Disk.moment g.D.Disk.left_at g.D.Disk.place g.D.Disk.fault_count) c.in-Err.field-0.status c.args.disks.items c.in-Err.field-0.disks.items c.in-Err.ensures.unopened))

pub returns-in-Err-clause-later : goal.returns-in-Err-clause-later
returns-in-Err-clause-later g c =
    rw c.unserved.ensures.disks (unopened_later (disk_facts g.D.Disk.tells g.D.Disk.content g.D.Disk.may_leave g.D.Disk.moment g.D.Disk.left_at g.D.Disk.place g.D.Disk.fault_count) c.in-Err.field-0.status c.args.disks.items c.in-Err.field-0.disks.items c.in-Err.ensures.unopened)

pub returns-in-Err-clause-places : goal.returns-in-Err-clause-places
returns-in-Err-clause-places g c =
    rw c.unserved.ensures.disks (unopened_places (disk_facts g.D.Disk.tells g.D.Disk.content g.D.Disk.may_leave g.D.Disk.moment g.D.Disk.left_at g.D.Disk.place g.D.Disk.fault_count) c.in-Err.field-0.status c.args.disks.items c.in-Err.field-0.disks.items c.in-Err.ensures.unopened)
