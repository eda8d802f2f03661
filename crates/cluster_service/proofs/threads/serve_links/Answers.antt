use Rattle.std.proofs.Common.{◌∙◌, ◌≡◌, List, refl, sym, ap, map, subst, arith}
use Rattle.outside.specs.Devices.{NoneFell}
use Rattle.outside.proofs.Relations.{none_fell_self}
use Rattle.journal_frames.specs.Views.{journal_facts}
use Rattle.driver_steps.specs.Seats.{AreHeld, seat_view}
use Rattle.cluster_service.specs.Counts.{OneRoseWhere}
use Rattle.cluster_service.specs.Crashes.{IsOfWorld, LeaveSuch}
use Rattle.cluster_service.specs.OpenJournals.{disks_of}
use Rattle.cluster_service.specs.Servers.{at_memory}
use Rattle.cluster_service.specs.declared.status.Status.TheVariants as statuses
use Rattle.cluster_service.proofs.Counts.{all_still}
use Rattle.cluster_service.proofs.Crashes.{first_leaves}
use Rattle.cluster_service.proofs.Firsts.{first_taken}
use Rattle.cluster_service.proofs.SeatFacts.{held_from, moved, open_files, seat_disks, seats_open, told_before}
use Rattle.cluster_service.proofs.ServedDisks.{none_served}
use Rattle.cluster_service.proofs.ServerEnds.{seat_nodes, small_seats}
use Rattle.cluster_service.proofs.threads.serve_links.Goals as goal

-- MEMORY RAN OUT

pub returns-then-is_err-clause-headline : goal.returns-then-is_err-clause-headline
returns-then-is_err-clause-headline g c = λ first may same are disks early.
    let left = disks_of c.args.journals.items in
    rw (c.not_served.ensures.disks, c.not_served.ensures.links, c.close_all.ensures.disks)
    (none_served _ _ first g.D.Disk.tells _ (map g.D.Disk.content left) _ g.D.Disk.moment g.D.Disk.left_at disks left may.begins
    (open_files g.D.Disk.tells g.D.Disk.content c.args.journals.items first.nodes are)
    (λ told. first_leaves g.D.Disk.moment g.D.Disk.left_at first disks left (early told)))

pub returns-then-is_err-clause-durable : goal.returns-then-is_err-clause-durable
returns-then-is_err-clause-durable g c = λ told failed. rw c.not_served.ensures.disks (c.close_all.ensures.durable told c.requires.«open»)

pub returns-then-is_err-clause-status : goal.returns-then-is_err-clause-status
returns-then-is_err-clause-status g c = rw c.not_served.ensures.status at_memory

pub returns-then-is_err-clause-disk_fault : goal.returns-then-is_err-clause-disk_fault
returns-then-is_err-clause-disk_fault g c =
    rw c.not_served.ensures.disks
    (subst (λ (ds : List g.row.D.Denot). OneRoseWhere (c.not_served.result.status ≡ statuses.DiskFailed)
    (map g.D.Disk.fault_count (disks_of c.args.journals.items)) (map g.D.Disk.fault_count ds)) (sym c.close_all.ensures.disks)
    (all_still _ (map g.D.Disk.fault_count (disks_of c.args.journals.items)) (map g.D.Disk.fault_count (disks_of c.args.journals.items))
    (λ is. let clash : statuses.OutOfMemory ≡ statuses.DiskFailed = sym c.not_served.ensures.status ∙ is in cc) refl))

pub returns-then-is_err-clause-later : goal.returns-then-is_err-clause-later
returns-then-is_err-clause-later g c =
    rw c.not_served.ensures.disks
    (subst (λ (ds : List g.row.D.Denot). NoneFell (map g.D.Disk.fault_count (disks_of c.args.journals.items)) (map g.D.Disk.fault_count ds))
    (sym c.close_all.ensures.disks) (none_fell_self (map g.D.Disk.fault_count (disks_of c.args.journals.items))))

pub returns-then-is_err-clause-places : goal.returns-then-is_err-clause-places
returns-then-is_err-clause-places g c = rw c.not_served.ensures.disks (ap (λ (ds : List g.row.D.Denot). map g.D.Disk.place ds) c.close_all.ensures.disks)

pub returns-then-is_err-clause-done : goal.returns-then-is_err-clause-done
returns-then-is_err-clause-done g c = λ is. let clash : statuses.OutOfMemory ≡ statuses.InputEnded = sym c.not_served.ensures.status ∙ is in absurd (cc clash)

pub returns-then-is_err-clause-accept_fault : goal.returns-then-is_err-clause-accept_fault
returns-then-is_err-clause-accept_fault g c = λ is. let clash : statuses.OutOfMemory ≡ statuses.AcceptFailed = sym c.not_served.ensures.status ∙ is in absurd (cc clash)

-- THE NODES ARE SEATED

pub serve_seats-requires-clause-few : goal.serve_seats-requires-clause-few
serve_seats-requires-clause-few g c = omega (arith, c.requires.few, c.put_in.ensures.len)

pub serve_seats-requires-clause-room : goal.serve_seats-requires-clause-room
serve_seats-requires-clause-room g c = omega (arith, c.requires.room, c.put_in.ensures.len)

pub serve_seats-requires-clause-somewhere : goal.serve_seats-requires-clause-somewhere
serve_seats-requires-clause-somewhere g c κs within =
    rw c.put_in.ensures.items (record {
      nodes = c.requires.somewhere.nodes;
      held = held_from g.N.Node.state g.N.Node.steps g.D.Disk.tells g.D.Disk.content g.D.Disk.moment g.D.Disk.left_at g.D.Disk.fault_count g.D.Disk.place c.args.nodes.items
          c.args.journals.items c.requires.somewhere.nodes c.requires.somewhere.same c.requires.somewhere.are c.requires.somewhere.counts;
      routers = c.requires.somewhere.routers;
    })

pub serve_seats-requires-clause-small : goal.serve_seats-requires-clause-small
serve_seats-requires-clause-small g c κs within =
    rw c.put_in.ensures.items
    (small_seats g.N.Node.steps (λ s. s.node) _ c.args.nodes.items
    (seat_nodes c.args.nodes.items c.args.journals.items (omega (arith, c.requires.nodes, c.args.nodes.ok, c.args.journals.ok))) c.requires.small)

pub serve_seats-requires-clause-open : goal.serve_seats-requires-clause-open
serve_seats-requires-clause-open g c κs within = rw c.put_in.ensures.items (seats_open c.args.nodes.items c.args.journals.items c.requires.«open»)

pub returns-clause-headline : goal.returns-clause-headline
returns-clause-headline g c = λ first may same are disks early.
    let facts = journal_facts g.D.Disk.tells g.D.Disk.content g.D.Disk.moment g.D.Disk.left_at g.D.Disk.fault_count g.D.Disk.place in
    c.serve_seats.ensures.headline first may
    (subst (λ seats. AreHeld (seat_view g.N.Node.state g.N.Node.steps facts) seats first.nodes) (sym c.put_in.ensures.items)
    (held_from g.N.Node.state g.N.Node.steps g.D.Disk.tells g.D.Disk.content g.D.Disk.moment g.D.Disk.left_at g.D.Disk.fault_count g.D.Disk.place c.args.nodes.items
    c.args.journals.items first.nodes same are (first_taken first may.begins))) disks
    (λ told. subst (λ seats. LeaveSuch g.D.Disk.moment g.D.Disk.left_at (IsOfWorld first) disks (map (λ s. s.log.disk) seats)) (sym c.put_in.ensures.items)
    (subst (λ (ds : List g.row.D.Denot). LeaveSuch g.D.Disk.moment g.D.Disk.left_at (IsOfWorld first) disks ds)
    (sym (seat_disks c.args.nodes.items c.args.journals.items (omega (arith, c.requires.nodes, c.args.nodes.ok, c.args.journals.ok)))) (early told)))

pub returns-clause-disk_fault : goal.returns-clause-disk_fault
returns-clause-disk_fault g c =
    moved (OneRoseWhere (c.serve_seats.result.status ≡ statuses.DiskFailed)) _ _ _ _
    (told_before g.D.Disk.fault_count c.args.nodes.items c.args.journals.items c.put_in.new.seats.items c.put_in.ensures.items
    (omega (arith, c.requires.nodes, c.args.nodes.ok, c.args.journals.ok))) refl c.serve_seats.ensures.disk_fault

pub returns-clause-later : goal.returns-clause-later
returns-clause-later g c =
    moved NoneFell _ _ _ _
    (told_before g.D.Disk.fault_count c.args.nodes.items c.args.journals.items c.put_in.new.seats.items c.put_in.ensures.items
    (omega (arith, c.requires.nodes, c.args.nodes.ok, c.args.journals.ok))) refl c.serve_seats.ensures.later

pub returns-clause-places : goal.returns-clause-places
returns-clause-places g c =
    c.serve_seats.ensures.places ∙ told_before g.D.Disk.place c.args.nodes.items c.args.journals.items c.put_in.new.seats.items c.put_in.ensures.items
    (omega (arith, c.requires.nodes, c.args.nodes.ok, c.args.journals.ok))
