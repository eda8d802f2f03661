use Rattle.std.proofs.Common.{◌∙◌, ◌≡◌, refl, sym, map, append-nil, arith, inr}
use Rattle.outside.specs.Devices.{sink_call, source_call}
use Rattle.pipe_driver.proofs.Counts.{still}
use Rattle.outside.proofs.Relations.{none_fell_self}
use Rattle.any_node.specs.Kinds.{state_of}
use Rattle.journal_starts.specs.Records.{SomeRefused, by_record}
use Rattle.journal_starts.proofs.Starts.{opened_are_not_refused, starts_are_not_refused, starts_are_opened, starts_are_stored}
use Rattle.cluster_service.specs.Arguments.{others_of, shards_of}
use Rattle.cluster_service.specs.Crashes.{AreDurableBefore, LeaveAll}
use Rattle.cluster_service.specs.OpenJournals.{disks_of}
use Rattle.cluster_service.specs.Openings.{disk_facts}
use Rattle.cluster_service.specs.declared.status.Status.TheVariants as statuses
use Rattle.cluster_service.proofs.Counts.{all_still}
use Rattle.cluster_service.proofs.Crashes.{first_leaves_all, none_owed}
use Rattle.cluster_service.proofs.Firsts.{first_may_play}
use Rattle.cluster_service.proofs.NotBegun.{begun_none}
use Rattle.cluster_service.proofs.Openings.{opened_as_were, opened_leave, opened_records, opened_with, still_journals}
use Rattle.cluster_service.proofs.NotServed.{unopened}
use Rattle.cluster_top.proofs.Asked.{asked_as_read}
use Rattle.cluster_top.proofs.Openers.{first_parts}
use Rattle.cluster_top.proofs.Refused.{memory_of, not_other, refused_of}
use Rattle.cluster_top.proofs.service.run_opened.Goals as goal

pub open_nodes-requires-clause-some : goal.open_nodes-requires-clause-some
open_nodes-requires-clause-some g c = omega (arith, c.shards.ensures, c.requires.some_shards)

pub open_nodes-requires-clause-few : goal.open_nodes-requires-clause-few
open_nodes-requires-clause-few g c = omega (arith, c.requires.found, c.requires.few, c.requires.few_shards)

-- THE NODES ARE OPENED

pub serve-requires-clause-nodes : goal.serve-requires-clause-nodes
serve-requires-clause-nodes g c = omega (arith, c.in-Ok.ensures.len, c.requires.found)

pub returns-in-Ok-clause-headline : goal.returns-in-Ok-clause-headline
returns-in-Ok-clause-headline g c = λ disks first told opened begun.
    let facts = disk_facts g.D.Disk.tells g.D.Disk.content g.D.Disk.may_leave g.D.Disk.moment g.D.Disk.left_at g.D.Disk.place g.D.Disk.fault_count in
    let journals = starts_are_stored _ _ (map g.D.Disk.content disks) first begun in
    c.serve.ensures.headline asked_as_read told first (first_may_play (shards_of c.args.command) _ (map g.D.Disk.content disks) first c.requires.some_shards begun)
    (rw c.shards-in-Ok.ensures (first_parts (others_of c.args.command) _ (map g.D.Disk.content disks) first begun))
    (starts_are_opened _ _ (map g.D.Disk.content disks) first c.args.opened.found.items (map state_of c.in-Ok.nodes.items) begun
    (opened_records facts disks c.args.opened.journals.items c.args.opened.found.items told opened) (rw c.shards.ensures at c.in-Ok.ensures.opened))
    c.in-Ok.ensures.new
    (opened_with facts disks c.args.opened.journals.items c.args.opened.found.items first.nodes opened journals) disks
    (λ told. opened_leave facts disks c.args.opened.journals.items c.args.opened.found.items first.nodes told opened journals)

pub returns-in-Ok-clause-status : goal.returns-in-Ok-clause-status
returns-in-Ok-clause-status g c = (c.serve.ensures.status.0, c.serve.ensures.status.2)

pub returns-in-Ok-clause-damaged : goal.returns-in-Ok-clause-damaged
returns-in-Ok-clause-damaged g c = λ is. absurd (c.serve.ensures.status.1 is)

pub returns-in-Ok-clause-refused : goal.returns-in-Ok-clause-refused
returns-in-Ok-clause-refused g c = λ disks told opened refused.
    let facts = disk_facts g.D.Disk.tells g.D.Disk.content g.D.Disk.may_leave g.D.Disk.moment g.D.Disk.left_at g.D.Disk.place g.D.Disk.fault_count in
    absurd (opened_are_not_refused (others_of c.args.command) (map g.D.Disk.content disks) c.args.opened.found.items (map state_of c.in-Ok.nodes.items)
    (opened_records facts disks c.args.opened.journals.items c.args.opened.found.items told opened) (rw c.shards.ensures at c.in-Ok.ensures.opened) refused)

-- ONE IS REFUSED, OR MEMORY RAN OUT

pub returns-in-Err-clause-headline : goal.returns-in-Err-clause-headline
returns-in-Err-clause-headline g c = λ disks first told opened begun.
    let facts = disk_facts g.D.Disk.tells g.D.Disk.content g.D.Disk.may_leave g.D.Disk.moment g.D.Disk.left_at g.D.Disk.place g.D.Disk.fault_count in
    let journals = starts_are_stored _ _ (map g.D.Disk.content disks) first begun in
    let records = opened_records facts disks c.args.opened.journals.items c.args.opened.found.items told opened in
    let other : ¬ (c.status_of.result ≡ statuses.DamagedJournal) =
    λ is. starts_are_not_refused _ _ (map g.D.Disk.content disks) first begun
    (by_record c.args.opened.found.items records (refused_of c.in-Err.fault (SomeRefused (others_of c.args.command) 0 c.args.opened.found.items) (c.status_of.ensures.refused is) (rw c.shards.ensures at c.in-Err.ensures.fault))) in
    rw (c.unserved.ensures.disks, c.close_all.ensures.disks, c.unserved.ensures.status)
    (unopened (source_call g.S.Source.tells g.S.Source.left g.S.Source.fault_count c.args.input.now c.args.input.now) (sink_call g.K.Sink.tells g.K.Sink.held g.K.Sink.fault_count c.args.out.now c.args.out.now)
    g.D.Disk.tells (map g.D.Disk.content (disks_of c.args.opened.journals.items))
    (LeaveAll first g.K.Sink.tells g.D.Disk.tells g.D.Disk.place g.D.Disk.moment g.D.Disk.left_at (g.K.Sink.noted c.args.out.now) (g.K.Sink.noted c.args.out.now)
    disks (disks_of c.args.opened.journals.items))
    (AreDurableBefore g.K.Sink.tells g.D.Disk.tells g.D.Disk.place g.D.Disk.moment g.D.Disk.left_at c.args.command first (g.K.Sink.noted c.args.out.now) (g.K.Sink.held c.args.out.now) (disks_of c.args.opened.journals.items))
    (g.C.Clock.gives c.args.clock.now) _ first c.unserved.ensures.rest (λ told. refl) (λ told. sym (append-nil (g.K.Sink.held c.args.out.now)))
    (λ told. still_journals facts disks (disks_of c.args.opened.journals.items) first.nodes told (opened_as_were facts disks c.args.opened.journals.items c.args.opened.found.items opened) journals)
    (first_leaves_all first g.K.Sink.tells g.D.Disk.tells g.D.Disk.place g.D.Disk.moment g.D.Disk.left_at (g.K.Sink.noted c.args.out.now)
    (g.K.Sink.noted c.args.out.now) disks (disks_of c.args.opened.journals.items) (λ told. opened_leave facts disks c.args.opened.journals.items c.args.opened.found.items first.nodes told opened journals))
    (none_owed g.K.Sink.tells g.D.Disk.tells g.D.Disk.place g.D.Disk.moment g.D.Disk.left_at c.args.command first (g.K.Sink.noted c.args.out.now) (g.K.Sink.held c.args.out.now) _ first)
    c.args.command c.requires.driver (first_may_play (shards_of c.args.command) _ (map g.D.Disk.content disks) first c.requires.some_shards begun).begins c.status_of.result (inr (memory_of c.status_of.result c.status_of.ensures.two other)))

pub returns-in-Err-clause-durable : goal.returns-in-Err-clause-durable
returns-in-Err-clause-durable g c = λ told failed. rw c.unserved.ensures.disks (c.close_all.ensures.durable told c.requires.«open»)

pub returns-in-Err-clause-status : goal.returns-in-Err-clause-status
returns-in-Err-clause-status g c = (
  not_other statuses.BadArguments (λ e. cc) (λ e. cc) c.status_of.result c.unserved.result.status c.unserved.ensures.status c.status_of.ensures.two,
  not_other statuses.AcceptFailed (λ e. cc) (λ e. cc) c.status_of.result c.unserved.result.status c.unserved.ensures.status c.status_of.ensures.two,
)

pub returns-in-Err-clause-damaged : goal.returns-in-Err-clause-damaged
returns-in-Err-clause-damaged g c = λ is. (
  c.unserved.ensures.rest,
  (λ told. refl, refl),
  (λ told. sym (append-nil (g.K.Sink.held c.args.out.now)), refl),
  λ disks told opened.
      by_record c.args.opened.found.items
      (opened_records (disk_facts g.D.Disk.tells g.D.Disk.content g.D.Disk.may_leave g.D.Disk.moment g.D.Disk.left_at g.D.Disk.place g.D.Disk.fault_count) disks c.args.opened.journals.items c.args.opened.found.items told opened)
      (refused_of c.in-Err.fault (SomeRefused (others_of c.args.command) 0 c.args.opened.found.items) (c.status_of.ensures.refused (sym c.unserved.ensures.status ∙ is)) (rw c.shards.ensures at c.in-Err.ensures.fault)),
)

pub returns-in-Err-clause-refused : goal.returns-in-Err-clause-refused
returns-in-Err-clause-refused g c = λ disks told opened refused.
    let facts = disk_facts g.D.Disk.tells g.D.Disk.content g.D.Disk.may_leave g.D.Disk.moment g.D.Disk.left_at g.D.Disk.place g.D.Disk.fault_count in
    rw (c.unserved.ensures.disks, c.close_all.ensures.disks, c.unserved.ensures.status) (
      c.status_of.ensures.two,
      begun_none facts disks (disks_of c.args.opened.journals.items)
          (source_call g.S.Source.tells g.S.Source.left g.S.Source.fault_count c.args.input.now c.args.input.now) (sink_call g.K.Sink.tells g.K.Sink.held g.K.Sink.fault_count c.args.out.now c.args.out.now) _
          ((λ told. refl), refl) ((λ told. sym (append-nil (g.K.Sink.held c.args.out.now))), refl) c.unserved.ensures.rest
          (opened_as_were facts disks c.args.opened.journals.items c.args.opened.found.items opened),
    )

pub returns-in-Err-clause-read_fault : goal.returns-in-Err-clause-read_fault
returns-in-Err-clause-read_fault g c =
    still _ _ _ (not_other statuses.ReadFailed (λ e. cc) (λ e. cc) c.status_of.result c.unserved.result.status c.unserved.ensures.status c.status_of.ensures.two) refl

pub returns-in-Err-clause-write_fault : goal.returns-in-Err-clause-write_fault
returns-in-Err-clause-write_fault g c =
    still _ _ _ (not_other statuses.WriteFailed (λ e. cc) (λ e. cc) c.status_of.result c.unserved.result.status c.unserved.ensures.status c.status_of.ensures.two) refl

pub returns-in-Err-clause-disk_fault : goal.returns-in-Err-clause-disk_fault
returns-in-Err-clause-disk_fault g c =
    rw (c.unserved.ensures.disks, c.close_all.ensures.disks)
    (all_still _ (map g.D.Disk.fault_count (disks_of c.args.opened.journals.items)) (map g.D.Disk.fault_count (disks_of c.args.opened.journals.items))
    (not_other statuses.DiskFailed (λ e. cc) (λ e. cc) c.status_of.result c.unserved.result.status c.unserved.ensures.status c.status_of.ensures.two) refl)

pub returns-in-Err-clause-later : goal.returns-in-Err-clause-later
returns-in-Err-clause-later g c = rw (c.unserved.ensures.disks, c.close_all.ensures.disks) (none_fell_self (map g.D.Disk.fault_count (disks_of c.args.opened.journals.items)))

pub returns-in-Err-clause-places : goal.returns-in-Err-clause-places
returns-in-Err-clause-places g c = rw (c.unserved.ensures.disks, c.close_all.ensures.disks) refl
