use Rattle.std.proofs.Common.{◌∙◌, ◌≡◌, ◌-◌, refl, sym, ap, map, arith, inl, inr}
use Rattle.outside.proofs.Relations.{none_fell_self}
use Rattle.pipe_driver.proofs.Counts.{none_fell_after}
use Rattle.journal_starts.proofs.Starts.{starts_are_stored}
use Rattle.cluster_service.specs.OpenJournals.{disks_of}
use Rattle.cluster_service.specs.Openings.{disk_facts}
use Rattle.cluster_service.specs.Servers.{at_accept}
use Rattle.cluster_service.specs.declared.status.Status.TheVariants as statuses
use Rattle.cluster_service.proofs.Counts.{all_still, one_rose_after, one_rose_as}
use Rattle.cluster_service.proofs.Crashes.{first_leaves}
use Rattle.cluster_service.proofs.Firsts.{first_may_play}
use Rattle.cluster_service.proofs.NotBegun.{stopped_by, stopped_calm}
use Rattle.cluster_service.proofs.NotServed.{opening_not_refused}
use Rattle.cluster_service.proofs.Openings.{are_alone, found_len, leave_kept, opened_calm, opened_len, opened_open, opened_places, unopened_as_were, unopened_fault, unopened_journals, unopened_later, unopened_leave, unopened_places, unopened_refused, unopened_stops}
use Rattle.cluster_service.proofs.ServedDisks.{none_served}
use Rattle.cluster_top.proofs.Refused.{not_ended, stopped_end}
use Rattle.cluster_top.proofs.threads.serve_nodes.Goals as goal

-- THE PORT IS REFUSED

pub returns-in-Err-clause-headline : goal.returns-in-Err-clause-headline
returns-in-Err-clause-headline g c = λ first told begun.
    let journals = starts_are_stored _ _ (map g.D.Disk.content c.args.disks.items) first begun in
    rw (c.not_served.ensures.disks, c.not_served.ensures.links)
    (none_served _ _ first g.D.Disk.tells _ (map g.D.Disk.content c.args.disks.items)
    (map g.D.Disk.place c.args.disks.items) g.D.Disk.moment g.D.Disk.left_at c.args.disks.items c.args.disks.items
    (first_may_play c.args.server.shards _ (map g.D.Disk.content c.args.disks.items) first c.requires.some_shards begun).begins (λ told. journals)
    (λ told. first_leaves g.D.Disk.moment g.D.Disk.left_at first c.args.disks.items c.args.disks.items
    (leave_kept (disk_facts g.D.Disk.tells g.D.Disk.content g.D.Disk.may_leave g.D.Disk.moment g.D.Disk.left_at g.D.Disk.place g.D.Disk.fault_count) c.args.disks.items c.args.disks.items first.nodes told (are_alone (disk_facts g.D.Disk.tells g.D.Disk.content g.D.Disk.may_leave g.D.Disk.moment g.D.Disk.left_at g.D.Disk.place g.D.Disk.fault_count) c.args.disks.items) journals)))

pub returns-in-Err-clause-durable : goal.returns-in-Err-clause-durable
returns-in-Err-clause-durable g c = λ told failed. inr (inr (c.not_served.ensures.status, c.not_served.ensures.disks))

pub returns-in-Err-clause-status : goal.returns-in-Err-clause-status
returns-in-Err-clause-status g c = inl (rw c.not_served.ensures.status at_accept)

pub returns-in-Err-clause-damaged : goal.returns-in-Err-clause-damaged
returns-in-Err-clause-damaged g c = λ is.
    let clash : statuses.AcceptFailed ≡ statuses.DamagedJournal = sym c.not_served.ensures.status ∙ is in absurd (cc clash)

pub returns-in-Err-clause-refused : goal.returns-in-Err-clause-refused
returns-in-Err-clause-refused g c = λ told refused. (
  inr (c.not_served.ensures.status, c.not_served.ensures.disks),
  c.not_served.ensures.links,
  c.listen.ensures.left,
  rw c.not_served.ensures.disks (are_alone (disk_facts g.D.Disk.tells g.D.Disk.content g.D.Disk.may_leave g.D.Disk.moment g.D.Disk.left_at g.D.Disk.place g.D.Disk.fault_count) c.args.disks.items),
)

pub returns-in-Err-clause-disk_fault : goal.returns-in-Err-clause-disk_fault
returns-in-Err-clause-disk_fault g c =
    rw c.not_served.ensures.disks
    (all_still _ (map g.D.Disk.fault_count c.args.disks.items) (map g.D.Disk.fault_count c.args.disks.items)
    (λ is. let clash : statuses.AcceptFailed ≡ statuses.DiskFailed = sym c.not_served.ensures.status ∙ is in cc) refl)

pub returns-in-Err-clause-later : goal.returns-in-Err-clause-later
returns-in-Err-clause-later g c = rw c.not_served.ensures.disks (none_fell_self (map g.D.Disk.fault_count c.args.disks.items))

pub returns-in-Err-clause-places : goal.returns-in-Err-clause-places
returns-in-Err-clause-places g c = rw c.not_served.ensures.disks refl

pub returns-in-Err-clause-done : goal.returns-in-Err-clause-done
returns-in-Err-clause-done g c = λ is.
    let clash : statuses.AcceptFailed ≡ statuses.InputEnded = sym c.not_served.ensures.status ∙ is in absurd (cc clash)

pub returns-in-Err-clause-accept_fault : goal.returns-in-Err-clause-accept_fault
returns-in-Err-clause-accept_fault g c = λ is. c.in-Err.ensures.cause

-- THE JOURNALS ARE OPEN

pub serve_opened-requires-clause-journals : goal.serve_opened-requires-clause-journals
serve_opened-requires-clause-journals g c =
    let same = opened_len (disk_facts g.D.Disk.tells g.D.Disk.content g.D.Disk.may_leave g.D.Disk.moment g.D.Disk.left_at g.D.Disk.place g.D.Disk.fault_count) c.args.disks.items c.in-Ok-open_all.opened.journals.items c.in-Ok-open_all.opened.found.items c.in-Ok-open_all.ensures.opened in
    omega (arith, same, c.requires.disks, c.args.disks.ok, c.in-Ok-open_all.opened.journals.ok)

pub serve_opened-requires-clause-found : goal.serve_opened-requires-clause-found
serve_opened-requires-clause-found g c =
    let same = found_len (disk_facts g.D.Disk.tells g.D.Disk.content g.D.Disk.may_leave g.D.Disk.moment g.D.Disk.left_at g.D.Disk.place g.D.Disk.fault_count) c.args.disks.items c.in-Ok-open_all.opened.journals.items c.in-Ok-open_all.opened.found.items c.in-Ok-open_all.ensures.opened in
    omega (arith, same, c.requires.disks, c.args.disks.ok, c.in-Ok-open_all.opened.found.ok)

pub serve_opened-requires-clause-opened : goal.serve_opened-requires-clause-opened
serve_opened-requires-clause-opened g c κs within = (c.args.disks.items, c.in-Ok-open_all.ensures.opened)

pub serve_opened-requires-clause-open : goal.serve_opened-requires-clause-open
serve_opened-requires-clause-open g c κs within = opened_open (disk_facts g.D.Disk.tells g.D.Disk.content g.D.Disk.may_leave g.D.Disk.moment g.D.Disk.left_at g.D.Disk.place g.D.Disk.fault_count) c.args.disks.items c.in-Ok-open_all.opened.journals.items c.in-Ok-open_all.opened.found.items c.in-Ok-open_all.ensures.opened

pub returns-in-Ok-open_all-clause-headline : goal.returns-in-Ok-open_all-clause-headline
returns-in-Ok-open_all-clause-headline g c = λ first told begun. c.serve_opened.ensures.headline c.args.disks.items first told c.in-Ok-open_all.ensures.opened begun

pub returns-in-Ok-open_all-clause-durable : goal.returns-in-Ok-open_all-clause-durable
returns-in-Ok-open_all-clause-durable g c = λ told failed. inl (c.serve_opened.ensures.durable told failed)

pub returns-in-Ok-open_all-clause-damaged : goal.returns-in-Ok-open_all-clause-damaged
returns-in-Ok-open_all-clause-damaged g c = λ is.
    let damaged = c.serve_opened.ensures.damaged is in
    (damaged.0, ap (λ a. g.A.Acceptor.left a) damaged.1 ∙ c.listen.ensures.left, λ told. damaged.2 c.args.disks.items told c.in-Ok-open_all.ensures.opened)

pub returns-in-Ok-open_all-clause-refused : goal.returns-in-Ok-open_all-clause-refused
returns-in-Ok-open_all-clause-refused g c = λ told refused.
    let done = c.serve_opened.ensures.refused c.args.disks.items told c.in-Ok-open_all.ensures.opened refused in (
      inl (elim done.0 [ inl damaged ↦ inl damaged | inr memory ↦ inr (inr memory) ]),
      done.1,
      ap (λ a. g.A.Acceptor.left a) done.2 ∙ c.listen.ensures.left,
      done.3,
    )

pub returns-in-Ok-open_all-clause-disk_fault : goal.returns-in-Ok-open_all-clause-disk_fault
returns-in-Ok-open_all-clause-disk_fault g c =
    one_rose_after _ (map g.D.Disk.fault_count c.args.disks.items) (map g.D.Disk.fault_count (disks_of c.in-Ok-open_all.opened.journals.items))
    (map g.D.Disk.fault_count c.serve_opened.result.disks.items)
    (opened_calm (disk_facts g.D.Disk.tells g.D.Disk.content g.D.Disk.may_leave g.D.Disk.moment g.D.Disk.left_at g.D.Disk.place g.D.Disk.fault_count) c.args.disks.items c.in-Ok-open_all.opened.journals.items c.in-Ok-open_all.opened.found.items c.in-Ok-open_all.ensures.opened) c.serve_opened.ensures.disk_fault

pub returns-in-Ok-open_all-clause-later : goal.returns-in-Ok-open_all-clause-later
returns-in-Ok-open_all-clause-later g c =
    none_fell_after (map g.D.Disk.fault_count c.args.disks.items) (map g.D.Disk.fault_count (disks_of c.in-Ok-open_all.opened.journals.items))
    (map g.D.Disk.fault_count c.serve_opened.result.disks.items)
    (opened_calm (disk_facts g.D.Disk.tells g.D.Disk.content g.D.Disk.may_leave g.D.Disk.moment g.D.Disk.left_at g.D.Disk.place g.D.Disk.fault_count) c.args.disks.items c.in-Ok-open_all.opened.journals.items c.in-Ok-open_all.opened.found.items c.in-Ok-open_all.ensures.opened) c.serve_opened.ensures.later

pub returns-in-Ok-open_all-clause-places : goal.returns-in-Ok-open_all-clause-places
returns-in-Ok-open_all-clause-places g c = c.serve_opened.ensures.places ∙ opened_places (disk_facts g.D.Disk.tells g.D.Disk.content g.D.Disk.may_leave g.D.Disk.moment g.D.Disk.left_at g.D.Disk.place g.D.Disk.fault_count) c.args.disks.items c.in-Ok-open_all.opened.journals.items c.in-Ok-open_all.opened.found.items c.in-Ok-open_all.ensures.opened

pub returns-in-Ok-open_all-clause-accept_fault : goal.returns-in-Ok-open_all-clause-accept_fault
returns-in-Ok-open_all-clause-accept_fault g c = λ is. rw c.in-Ok.ensures.calm at c.serve_opened.ensures.accept_fault is

-- ONE IS NOT OPENED

pub returns-in-Err-open_all-clause-headline : goal.returns-in-Err-open_all-clause-headline
returns-in-Err-open_all-clause-headline g c = λ first told begun.
    let journals = starts_are_stored _ _ (map g.D.Disk.content c.args.disks.items) first begun in
    rw (c.not_served-in-Err-open_all.ensures.disks, c.not_served-in-Err-open_all.ensures.links)
    (none_served _ _ first g.D.Disk.tells _ (map g.D.Disk.content c.in-Err-open_all.field-0.disks.items)
    (map g.D.Disk.place c.in-Err-open_all.field-0.disks.items) g.D.Disk.moment g.D.Disk.left_at c.args.disks.items
    c.in-Err-open_all.field-0.disks.items (first_may_play c.args.server.shards _ (map g.D.Disk.content c.args.disks.items) first c.requires.some_shards begun).begins
    (λ told. unopened_journals (disk_facts g.D.Disk.tells g.D.Disk.content g.D.Disk.may_leave g.D.Disk.moment g.D.Disk.left_at g.D.Disk.place g.D.Disk.fault_count) c.in-Err-open_all.field-0.status c.args.disks.items c.in-Err-open_all.field-0.disks.items c.in-Err-open_all.ensures.unopened first.nodes told journals)
    (λ told. first_leaves g.D.Disk.moment g.D.Disk.left_at first c.args.disks.items c.in-Err-open_all.field-0.disks.items
    (unopened_leave (disk_facts g.D.Disk.tells g.D.Disk.content g.D.Disk.may_leave g.D.Disk.moment g.D.Disk.left_at g.D.Disk.place g.D.Disk.fault_count) c.in-Err-open_all.field-0.status c.args.disks.items c.in-Err-open_all.field-0.disks.items c.in-Err-open_all.ensures.unopened first.nodes told journals)))

pub returns-in-Err-open_all-clause-durable : goal.returns-in-Err-open_all-clause-durable
returns-in-Err-open_all-clause-durable g c = λ told failed.
    rw (c.not_served-in-Err-open_all.ensures.disks, c.not_served-in-Err-open_all.ensures.status)
    (inr (inl (
      stopped_calm c.in-Err-open_all.field-0.status (unopened_stops (disk_facts g.D.Disk.tells g.D.Disk.content g.D.Disk.may_leave g.D.Disk.moment g.D.Disk.left_at g.D.Disk.place g.D.Disk.fault_count) c.in-Err-open_all.field-0.status c.args.disks.items c.in-Err-open_all.field-0.disks.items c.in-Err-open_all.ensures.unopened)
          (λ is. failed (c.not_served-in-Err-open_all.ensures.status ∙ is)),
      unopened_as_were (disk_facts g.D.Disk.tells g.D.Disk.content g.D.Disk.may_leave g.D.Disk.moment g.D.Disk.left_at g.D.Disk.place g.D.Disk.fault_count) c.in-Err-open_all.field-0.status c.args.disks.items c.in-Err-open_all.field-0.disks.items c.in-Err-open_all.ensures.unopened,
    )))

pub returns-in-Err-open_all-clause-status : goal.returns-in-Err-open_all-clause-status
returns-in-Err-open_all-clause-status g c = rw c.not_served-in-Err-open_all.ensures.status (stopped_end c.in-Err-open_all.field-0.status (unopened_stops (disk_facts g.D.Disk.tells g.D.Disk.content g.D.Disk.may_leave g.D.Disk.moment g.D.Disk.left_at g.D.Disk.place g.D.Disk.fault_count) c.in-Err-open_all.field-0.status c.args.disks.items c.in-Err-open_all.field-0.disks.items c.in-Err-open_all.ensures.unopened))

pub returns-in-Err-open_all-clause-damaged : goal.returns-in-Err-open_all-clause-damaged
returns-in-Err-open_all-clause-damaged g c = λ is. (
  c.not_served-in-Err-open_all.ensures.links,
  c.listen.ensures.left,
  λ told. unopened_refused (disk_facts g.D.Disk.tells g.D.Disk.content g.D.Disk.may_leave g.D.Disk.moment g.D.Disk.left_at g.D.Disk.place g.D.Disk.fault_count) (c.args.server.shards - 1) c.in-Err-open_all.field-0.status c.args.disks.items c.in-Err-open_all.field-0.disks.items c.in-Err-open_all.ensures.unopened (sym c.not_served-in-Err-open_all.ensures.status ∙ is) told,
)

pub returns-in-Err-open_all-clause-refused : goal.returns-in-Err-open_all-clause-refused
returns-in-Err-open_all-clause-refused g c = λ told refused.
    rw (c.not_served-in-Err-open_all.ensures.disks, c.not_served-in-Err-open_all.ensures.status) (
      inl (stopped_by c.in-Err-open_all.field-0.status (unopened_stops (disk_facts g.D.Disk.tells g.D.Disk.content g.D.Disk.may_leave g.D.Disk.moment g.D.Disk.left_at g.D.Disk.place g.D.Disk.fault_count) c.in-Err-open_all.field-0.status c.args.disks.items c.in-Err-open_all.field-0.disks.items c.in-Err-open_all.ensures.unopened)),
      c.not_served-in-Err-open_all.ensures.links,
      c.listen.ensures.left,
      unopened_as_were (disk_facts g.D.Disk.tells g.D.Disk.content g.D.Disk.may_leave g.D.Disk.moment g.D.Disk.left_at g.D.Disk.place g.D.Disk.fault_count) c.in-Err-open_all.field-0.status c.args.disks.items c.in-Err-open_all.field-0.disks.items c.in-Err-open_all.ensures.unopened,
    )

pub returns-in-Err-open_all-clause-disk_fault : goal.returns-in-Err-open_all-clause-disk_fault
returns-in-Err-open_all-clause-disk_fault g c =
    rw c.not_served-in-Err-open_all.ensures.disks
    (one_rose_as (c.in-Err-open_all.field-0.status ≡ statuses.DiskFailed) _ (map g.D.Disk.fault_count c.args.disks.items)
    (map g.D.Disk.fault_count c.in-Err-open_all.field-0.disks.items) (λ is. c.not_served-in-Err-open_all.ensures.status ∙ is)
    (λ is. sym c.not_served-in-Err-open_all.ensures.status ∙ is) (unopened_fault (disk_facts g.D.Disk.tells g.D.Disk.content g.D.Disk.may_leave g.D.Disk.moment g.D.Disk.left_at g.D.Disk.place g.D.Disk.fault_count) c.in-Err-open_all.field-0.status c.args.disks.items c.in-Err-open_all.field-0.disks.items c.in-Err-open_all.ensures.unopened))

pub returns-in-Err-open_all-clause-later : goal.returns-in-Err-open_all-clause-later
returns-in-Err-open_all-clause-later g c = rw c.not_served-in-Err-open_all.ensures.disks (unopened_later (disk_facts g.D.Disk.tells g.D.Disk.content g.D.Disk.may_leave g.D.Disk.moment g.D.Disk.left_at g.D.Disk.place g.D.Disk.fault_count) c.in-Err-open_all.field-0.status c.args.disks.items c.in-Err-open_all.field-0.disks.items c.in-Err-open_all.ensures.unopened)

pub returns-in-Err-open_all-clause-places : goal.returns-in-Err-open_all-clause-places
returns-in-Err-open_all-clause-places g c = rw c.not_served-in-Err-open_all.ensures.disks (unopened_places (disk_facts g.D.Disk.tells g.D.Disk.content g.D.Disk.may_leave g.D.Disk.moment g.D.Disk.left_at g.D.Disk.place g.D.Disk.fault_count) c.in-Err-open_all.field-0.status c.args.disks.items c.in-Err-open_all.field-0.disks.items c.in-Err-open_all.ensures.unopened)

pub returns-in-Err-open_all-clause-done : goal.returns-in-Err-open_all-clause-done
returns-in-Err-open_all-clause-done g c = λ is. absurd (not_ended c.in-Err-open_all.field-0.status (unopened_stops (disk_facts g.D.Disk.tells g.D.Disk.content g.D.Disk.may_leave g.D.Disk.moment g.D.Disk.left_at g.D.Disk.place g.D.Disk.fault_count) c.in-Err-open_all.field-0.status c.args.disks.items c.in-Err-open_all.field-0.disks.items c.in-Err-open_all.ensures.unopened) (sym c.not_served-in-Err-open_all.ensures.status ∙ is))

pub returns-in-Err-open_all-clause-accept_fault : goal.returns-in-Err-open_all-clause-accept_fault
returns-in-Err-open_all-clause-accept_fault g c = λ is.
    absurd ((opening_not_refused c.in-Err-open_all.field-0.status (unopened_stops (disk_facts g.D.Disk.tells g.D.Disk.content g.D.Disk.may_leave g.D.Disk.moment g.D.Disk.left_at g.D.Disk.place g.D.Disk.fault_count) c.in-Err-open_all.field-0.status c.args.disks.items c.in-Err-open_all.field-0.disks.items c.in-Err-open_all.ensures.unopened)).3 (sym c.not_served-in-Err-open_all.ensures.status ∙ is))
