use Rattle.std.proofs.Common.{◌∙◌, ◌≡◌, ℕ, List, inr, refl, sym, ap, map, subst, append-nil, arith}
use Rattle.std.specs.Prelude.{IsTrue, length}
use Rattle.std.proofs.lemmas.List.{length-map}
use Rattle.outside.specs.Devices.{NoneFell, sink_call, source_call}
use Rattle.outside.proofs.Relations.{none_fell_self}
use Rattle.journal_frames.specs.Views.{journal_facts}
use Rattle.pipe_driver.specs.Acknowledgements.{AreAcknowledgedBy}
use Rattle.driver_steps.specs.Seats.{AreCounted, AreHeld, AreKept, LeaveKept, seat_since, seat_view, since_noted, since_then}
use Rattle.driver_steps.specs.Together.{hosted}
use Rattle.node_model.specs.World.{Held, World}
use Rattle.pipe_driver.proofs.Counts.{still}
use Rattle.cluster_service.specs.Counts.{OneRoseWhere}
use Rattle.cluster_service.specs.Crashes.{AreDurableBefore, IsOfWorld, LeaveAll, LeaveSuch}
use Rattle.cluster_service.specs.Drivers.{output_of}
use Rattle.journal_starts.specs.Journals.{AreJournals}
use Rattle.cluster_service.specs.OpenJournals.{disks_of}
use Rattle.cluster_service.specs.declared.status.Status.TheVariants as statuses
use Rattle.pipe_driver.specs.declared.status.Status.TheVariants as ended
use Rattle.cluster_service.proofs.Counts.{all_still}
use Rattle.cluster_service.proofs.Crashes.{disks_owed, first_leaves_all, none_owed}
use Rattle.cluster_service.proofs.Together.{seats_leave_all}
use Rattle.cluster_service.proofs.Firsts.{first_taken}
use Rattle.cluster_service.proofs.SeatFacts.{counted_from, driven_as, has_ending, held_from, kept_in_files, later_of, moved, of_no_other, one_rose_of, open_files}
use Rattle.cluster_service.proofs.SeatFacts.{rose_of, seat_disks, seats_open, told_after, told_before}
use Rattle.cluster_service.proofs.NotServed.{headline_of, unopened}
use Rattle.cluster_service.proofs.service.serve.Goals as goal

pub returns-then-is_err-clause-headline : goal.returns-then-is_err-clause-headline
returns-then-is_err-clause-headline g c = λ asked told first may parts same new are disks early.
    let left = disks_of c.args.journals.items in
    rw (c.unserved.ensures.disks, c.unserved.ensures.status, c.close_all.ensures.disks)
    (unopened (source_call g.S.Source.tells g.S.Source.left g.S.Source.fault_count c.args.input.now c.args.input.now)
    (sink_call g.K.Sink.tells g.K.Sink.held g.K.Sink.fault_count c.args.out.now c.args.out.now) g.D.Disk.tells (map g.D.Disk.content left)
    (LeaveAll first g.K.Sink.tells g.D.Disk.tells g.D.Disk.place g.D.Disk.moment g.D.Disk.left_at (g.K.Sink.noted c.args.out.now) (g.K.Sink.noted c.args.out.now)
    disks left)
    (AreDurableBefore g.K.Sink.tells g.D.Disk.tells g.D.Disk.place g.D.Disk.moment g.D.Disk.left_at c.args.command first (g.K.Sink.noted c.args.out.now)
    (g.K.Sink.held c.args.out.now) left) (g.C.Clock.gives c.args.clock.now) _ first c.unserved.ensures.rest (λ told. refl)
    (λ told. sym (append-nil (g.K.Sink.held c.args.out.now))) (open_files g.D.Disk.tells g.D.Disk.content c.args.journals.items first.nodes are)
    (first_leaves_all first g.K.Sink.tells g.D.Disk.tells g.D.Disk.place g.D.Disk.moment g.D.Disk.left_at (g.K.Sink.noted c.args.out.now)
    (g.K.Sink.noted c.args.out.now) disks left early)
    (none_owed g.K.Sink.tells g.D.Disk.tells g.D.Disk.place g.D.Disk.moment g.D.Disk.left_at c.args.command first (g.K.Sink.noted c.args.out.now)
    (g.K.Sink.held c.args.out.now) left first) c.args.command c.requires.driver may.begins statuses.OutOfMemory (inr refl))

pub returns-then-is_err-clause-status : goal.returns-then-is_err-clause-status
returns-then-is_err-clause-status g c = rw c.unserved.ensures.status (λ e. cc, λ e. cc, λ e. cc)

pub returns-then-is_err-clause-durable : goal.returns-then-is_err-clause-durable
returns-then-is_err-clause-durable g c = λ told failed. rw c.unserved.ensures.disks (c.close_all.ensures.durable told c.requires.«open»)

pub returns-then-is_err-clause-read_fault : goal.returns-then-is_err-clause-read_fault
returns-then-is_err-clause-read_fault g c =
    still _ _ _ (λ is. let clash : statuses.OutOfMemory ≡ statuses.ReadFailed = sym c.unserved.ensures.status ∙ is in cc) refl

pub returns-then-is_err-clause-write_fault : goal.returns-then-is_err-clause-write_fault
returns-then-is_err-clause-write_fault g c =
    still _ _ _ (λ is. let clash : statuses.OutOfMemory ≡ statuses.WriteFailed = sym c.unserved.ensures.status ∙ is in cc) refl

pub returns-then-is_err-clause-disk_fault : goal.returns-then-is_err-clause-disk_fault
returns-then-is_err-clause-disk_fault g c =
    rw c.unserved.ensures.disks
    (subst (λ (ds : List g.row.D.Denot). OneRoseWhere (c.unserved.result.status ≡ statuses.DiskFailed)
    (map g.D.Disk.fault_count (disks_of c.args.journals.items)) (map g.D.Disk.fault_count ds)) (sym c.close_all.ensures.disks)
    (all_still _ (map g.D.Disk.fault_count (disks_of c.args.journals.items)) (map g.D.Disk.fault_count (disks_of c.args.journals.items))
    (λ is. let clash : statuses.OutOfMemory ≡ statuses.DiskFailed = sym c.unserved.ensures.status ∙ is in cc) refl))

pub returns-then-is_err-clause-later : goal.returns-then-is_err-clause-later
returns-then-is_err-clause-later g c =
    rw c.unserved.ensures.disks
    (subst (λ (ds : List g.row.D.Denot). NoneFell (map g.D.Disk.fault_count (disks_of c.args.journals.items)) (map g.D.Disk.fault_count ds))
    (sym c.close_all.ensures.disks) (none_fell_self (map g.D.Disk.fault_count (disks_of c.args.journals.items))))

pub returns-then-is_err-clause-places : goal.returns-then-is_err-clause-places
returns-then-is_err-clause-places g c = rw c.unserved.ensures.disks (ap (λ (ds : List g.row.D.Denot). map g.D.Disk.place ds) c.close_all.ensures.disks)

pub drive-ending-requires-clause-open : goal.drive-ending-requires-clause-open
drive-ending-requires-clause-open g c κs within = rw c.put_in.ensures.items (seats_open c.args.nodes.items c.args.journals.items c.requires.«open»)

pub returns-clause-headline : goal.returns-clause-headline
returns-clause-headline g c = λ asked told first may parts same new are disks early.
    let source = (source_call g.S.Source.tells g.S.Source.left g.S.Source.fault_count c.args.input.now c.drive-ending.new.input) in
    let sink = (sink_call g.K.Sink.tells g.K.Sink.held g.K.Sink.fault_count c.args.out.now c.drive-ending.new.out) in
    let facts = journal_facts g.D.Disk.tells g.D.Disk.content g.D.Disk.moment g.D.Disk.left_at g.D.Disk.fault_count g.D.Disk.place in
    let view = seat_view g.N.Node.state g.N.Node.steps facts in
    let seats = c.put_in.new.seats.items in
    let after = c.drive-ending.new.seats.items in
    let back = c.take_disks.new.back.items in
    let files : List g.row.D.Denot → List Held → Type 0 = λ ds nodes. AreJournals (map g.D.Disk.content ds) nodes in
    let way : List g.row.D.Denot → World → Type 0 = λ ds w. LeaveAll first g.K.Sink.tells g.D.Disk.tells g.D.Disk.place g.D.Disk.moment g.D.Disk.left_at
    (g.K.Sink.noted c.args.out.now) (g.K.Sink.noted c.drive-ending.new.out) disks ds w in
    let owed : List g.row.D.Denot → World → List ℕ → Type 0 = λ ds w put.
    AreDurableBefore g.K.Sink.tells g.D.Disk.tells g.D.Disk.place g.D.Disk.moment g.D.Disk.left_at c.args.command first
    (g.K.Sink.noted c.drive-ending.new.out) (g.K.Sink.held c.args.out.now) ds w put in
    let begun : AreHeld view seats first.nodes =
    subst (λ seats. AreHeld view seats first.nodes) (sym c.put_in.ensures.items)
    (held_from g.N.Node.state g.N.Node.steps g.D.Disk.tells g.D.Disk.content g.D.Disk.moment g.D.Disk.left_at g.D.Disk.fault_count g.D.Disk.place c.args.nodes.items
    c.args.journals.items first.nodes same are (first_taken first may.begins)) in
    let as_many : length c.args.nodes.items ≡ length first.nodes =
    sym (length-map c.args.nodes.items g.N.Node.state) ∙ ap (λ l. length l) same ∙ length-map first.nodes (λ (h : Held). h.state) in
    let counted : AreCounted view seats first.nodes =
    subst (λ seats. AreCounted view seats first.nodes) (sym c.put_in.ensures.items)
    (counted_from g.N.Node.state g.N.Node.steps g.D.Disk.tells g.D.Disk.content g.D.Disk.moment g.D.Disk.left_at g.D.Disk.fault_count g.D.Disk.place
    c.args.nodes.items c.args.journals.items first.nodes
    (omega (arith, c.requires.nodes, c.requires.journals, c.args.nodes.ok, c.args.journals.ok)) as_many new (first_taken first may.begins)) in
    let kept : (nodes : List Held) → AreKept view after nodes → IsTrue g.D.Disk.tells → files back nodes = λ nodes keeps told.
    subst (λ (ds : List g.row.D.Denot). files ds nodes) (sym c.take_disks.ensures.disks)
    (kept_in_files g.N.Node.state g.N.Node.steps g.D.Disk.tells g.D.Disk.content g.D.Disk.moment g.D.Disk.left_at g.D.Disk.fault_count g.D.Disk.place
    after nodes keeps told) in
    let leaves : (w : World) → LeaveKept (seat_since g.N.Node.state g.N.Node.steps facts (since_then seats first))
    (hosted g.K.Sink.tells facts (since_noted seats first (g.K.Sink.noted c.args.out.now)) (g.K.Sink.noted c.drive-ending.new.out) after) w
    → way back w = λ w leave.
    subst (λ (ds : List g.row.D.Denot). way ds w) (sym c.take_disks.ensures.disks)
    (seats_leave_all g.N.Node.state g.N.Node.steps g.D.Disk.tells g.D.Disk.content g.D.Disk.moment g.D.Disk.left_at g.D.Disk.fault_count g.D.Disk.place first w
    (g.K.Sink.noted c.args.out.now) (g.K.Sink.noted c.drive-ending.new.out) disks seats after
    (λ told. subst (λ seats. LeaveSuch g.D.Disk.moment g.D.Disk.left_at (IsOfWorld first) disks (map (λ s. s.log.disk) seats)) (sym c.put_in.ensures.items)
    (subst (λ (ds : List g.row.D.Denot). LeaveSuch g.D.Disk.moment g.D.Disk.left_at (IsOfWorld first) disks ds)
    (sym (seat_disks c.args.nodes.items c.args.journals.items
    (omega (arith, c.requires.nodes, c.requires.journals, c.args.nodes.ok, c.args.journals.ok)))) (early told)))
    (omega (arith, c.put_in.new.seats.ok, c.drive-ending.new.seats.ok, c.drive-ending.ensures.len)) g.K.Sink.tells leave) in
    let pays : (w : World) (put : List ℕ)
    → AreAcknowledgedBy facts g.K.Sink.tells (output_of c.args.command first) first (g.K.Sink.noted c.drive-ending.new.out)
    (g.K.Sink.held c.args.out.now) after w put
    → owed back w put = λ w put owes.
    subst (λ (ds : List g.row.D.Denot). owed ds w put) (sym c.take_disks.ensures.disks)
    (disks_owed g.K.Sink.tells g.D.Disk.tells g.D.Disk.content g.D.Disk.moment g.D.Disk.left_at g.D.Disk.fault_count g.D.Disk.place c.args.command first
    (g.K.Sink.noted c.drive-ending.new.out) (g.K.Sink.held c.args.out.now) after w put owes) in (
      c.drive-ending.result.status,
      c.of.ensures,
      headline_of source sink g.D.Disk.tells (map g.D.Disk.content back) (way back) (owed back) (g.C.Clock.gives c.args.clock.now)
          c.drive-ending.result.rest c.args.command first may.begins c.drive-ending.result.status
          (driven_as c.args.command first source sink (g.C.Clock.gives c.args.clock.now) (AreKept view after) _ _ (way back) _ (owed back)
          c.drive-ending.result.status c.drive-ending.result.rest kept leaves pays (c.drive-ending.ensures.driven asked told first may parts begun counted)),
    )

pub returns-clause-durable : goal.returns-clause-durable
returns-clause-durable g c = λ told failed.
    c.take_disks.ensures.durable told
    (c.drive-ending.ensures.open (λ is. failed (has_ending c.drive-ending.result.status ended.DiskFailed c.of.result c.of.ensures is)))

pub returns-clause-status : goal.returns-clause-status
returns-clause-status g c = rw c.of.ensures (of_no_other c.drive-ending.result.status)

pub returns-clause-read_fault : goal.returns-clause-read_fault
returns-clause-read_fault g c = rose_of ended.ReadFailed c.drive-ending.result.status c.of.result c.of.ensures _ _ c.drive-ending.ensures.read_fault

pub returns-clause-write_fault : goal.returns-clause-write_fault
returns-clause-write_fault g c = rose_of ended.WriteFailed c.drive-ending.result.status c.of.result c.of.ensures _ _ c.drive-ending.ensures.write_fault

pub returns-clause-disk_fault : goal.returns-clause-disk_fault
returns-clause-disk_fault g c =
    moved (OneRoseWhere (c.of.result ≡ statuses.DiskFailed)) _ _ _ _
    (told_before g.D.Disk.fault_count c.args.nodes.items c.args.journals.items c.put_in.new.seats.items c.put_in.ensures.items
    (omega (arith, c.requires.nodes, c.requires.journals, c.args.nodes.ok, c.args.journals.ok)))
    (told_after g.D.Disk.fault_count c.take_disks.new.back.items c.drive-ending.new.seats.items c.take_disks.ensures.disks)
    (one_rose_of ended.DiskFailed c.drive-ending.result.status c.of.result c.of.ensures _ _ c.drive-ending.ensures.disk_fault)

pub returns-clause-later : goal.returns-clause-later
returns-clause-later g c =
    moved NoneFell _ _ _ _
    (told_before g.D.Disk.fault_count c.args.nodes.items c.args.journals.items c.put_in.new.seats.items c.put_in.ensures.items
    (omega (arith, c.requires.nodes, c.requires.journals, c.args.nodes.ok, c.args.journals.ok)))
    (told_after g.D.Disk.fault_count c.take_disks.new.back.items c.drive-ending.new.seats.items c.take_disks.ensures.disks)
    (later_of c.drive-ending.result.status _ _ c.drive-ending.ensures.disk_fault)

pub returns-clause-places : goal.returns-clause-places
returns-clause-places g c =
    sym (told_after g.D.Disk.place c.take_disks.new.back.items c.drive-ending.new.seats.items c.take_disks.ensures.disks) ∙ c.drive-ending.ensures.places
    ∙ told_before g.D.Disk.place c.args.nodes.items c.args.journals.items c.put_in.new.seats.items c.put_in.ensures.items
    (omega (arith, c.requires.nodes, c.requires.journals, c.args.nodes.ok, c.args.journals.ok))
