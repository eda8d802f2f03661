use Rattle.std.proofs.Common.{◌≡◌, ◌∙◌, ◌+◌, List, map, sym, ap, arith}
use Rattle.outside.proofs.Relations.{none_fell_same}
use Rattle.journal_frames.specs.Views.{JournalView, journal_facts}
use Rattle.driver_steps.specs.Seats.{since_then}
use Rattle.driver_steps.specs.declared.seat.Seat.{Seat}
use Rattle.node_cell.specs.Courses.{node_facts}
use Rattle.cluster_service.specs.Statuses.{of_server}
use Rattle.cluster_service.specs.declared.status.Status.TheVariants as statuses
use Rattle.cluster_service.proofs.Counts.{all_still}
use Rattle.cluster_service.proofs.Served.{opened_as, routers_there, world_of}
use Rattle.cluster_service.proofs.ServedDisks.{mapped_twice, none_served, same_files, same_leave, served_fault, served_later, served_open, served_places, some_served}
use Rattle.cluster_service.proofs.ServerEnds.{by_acceptor, by_disk, by_done, by_no_acceptor, by_no_disk, by_not_done, server_ends}
use Rattle.cluster_service.proofs.threads.serve_seats.Goals as goal

-- SERVED

pub returns-in-Ok-clause-headline : goal.returns-in-Ok-clause-headline
returns-in-Ok-clause-headline g c = λ first may held disks early.
    some_served g.N.Node.state g.N.Node.steps g.D.Disk.tells g.D.Disk.content g.D.Disk.moment g.D.Disk.left_at g.D.Disk.fault_count g.D.Disk.place first c.args.seats.items held
    _ _ _ c.in-Ok.field-0.nodes.items c.in-Ok.field-0.links.items c.take_placed.new.back.items disks _ may.begins
    c.in-Ok.ensures.places (omega (arith, c.in-Ok.ensures.len, c.in-Ok.field-0.nodes.ok, c.args.seats.ok)) c.take_placed.ensures.disks
    (λ some. c.of_server.ensures ∙ ap of_server (c.in-Ok.ensures.failed.1 some))
    (c.in-Ok.ensures.served (since_then c.args.seats.items first) first
    (opened_as (node_facts g.N.Node.state g.N.Node.steps (λ m. g.N.Mail.Mail.letter m) g.N.Node.meaning (journal_facts g.D.Disk.tells g.D.Disk.content g.D.Disk.moment g.D.Disk.left_at g.D.Disk.fault_count g.D.Disk.place))
    (1 + c.args.server.shards) first c.args.seats.items held (routers_there (1 + c.args.server.shards) first may))) early

pub returns-in-Ok-clause-durable : goal.returns-in-Ok-clause-durable
returns-in-Ok-clause-durable g c = λ told failed.
    let s = (c.in-Ok.ensures.served (since_then c.args.seats.items (world_of c.requires.somewhere.nodes)) (world_of c.requires.somewhere.nodes) (opened_as (node_facts g.N.Node.state g.N.Node.steps (λ m. g.N.Mail.Mail.letter m) g.N.Node.meaning (journal_facts g.D.Disk.tells g.D.Disk.content g.D.Disk.moment g.D.Disk.left_at g.D.Disk.fault_count g.D.Disk.place)) (1 + c.args.server.shards) (world_of c.requires.somewhere.nodes) c.args.seats.items c.requires.somewhere.held c.requires.somewhere.routers)) in
    c.take_placed.ensures.durable told
    (served_open g.N.Node.state g.N.Node.steps g.D.Disk.tells g.D.Disk.content g.D.Disk.moment g.D.Disk.left_at g.D.Disk.fault_count g.D.Disk.place (world_of c.requires.somewhere.nodes) c.args.seats.items c.requires.somewhere.held _ _ c.in-Ok.field-0.nodes.items s.events s.marks s.world s.run c.in-Ok.ensures.places s.nodes (omega (arith, c.in-Ok.ensures.len, c.in-Ok.field-0.nodes.ok, c.args.seats.ok)) c.take_placed.new.back.items c.take_placed.ensures.disks (λ some. failed (c.of_server.ensures ∙ ap of_server (c.in-Ok.ensures.failed.1 some))))

pub returns-in-Ok-clause-status : goal.returns-in-Ok-clause-status
returns-in-Ok-clause-status g c = rw c.of_server.ensures (server_ends c.in-Ok.field-0.end)

pub returns-in-Ok-clause-disk_fault : goal.returns-in-Ok-clause-disk_fault
returns-in-Ok-clause-disk_fault g c =
    let s = (c.in-Ok.ensures.served (since_then c.args.seats.items (world_of c.requires.somewhere.nodes)) (world_of c.requires.somewhere.nodes) (opened_as (node_facts g.N.Node.state g.N.Node.steps (λ m. g.N.Mail.Mail.letter m) g.N.Node.meaning (journal_facts g.D.Disk.tells g.D.Disk.content g.D.Disk.moment g.D.Disk.left_at g.D.Disk.fault_count g.D.Disk.place)) (1 + c.args.server.shards) (world_of c.requires.somewhere.nodes) c.args.seats.items c.requires.somewhere.held c.requires.somewhere.routers)) in
    served_fault g.N.Node.state g.N.Node.steps g.D.Disk.tells g.D.Disk.content g.D.Disk.moment g.D.Disk.left_at g.D.Disk.fault_count g.D.Disk.place (world_of c.requires.somewhere.nodes) c.args.seats.items c.requires.somewhere.held _ _ c.in-Ok.field-0.nodes.items s.events s.marks s.world s.run c.in-Ok.ensures.places s.nodes (omega (arith, c.in-Ok.ensures.len, c.in-Ok.field-0.nodes.ok, c.args.seats.ok)) c.take_placed.new.back.items c.take_placed.ensures.disks (c.of_server.result ≡ statuses.DiskFailed)
    (λ is. c.in-Ok.ensures.failed.0 (by_disk c.in-Ok.field-0.end (sym c.of_server.ensures ∙ is)), λ some. c.of_server.ensures ∙ ap of_server (c.in-Ok.ensures.failed.1 some))

pub returns-in-Ok-clause-later : goal.returns-in-Ok-clause-later
returns-in-Ok-clause-later g c =
    let s = (c.in-Ok.ensures.served (since_then c.args.seats.items (world_of c.requires.somewhere.nodes)) (world_of c.requires.somewhere.nodes) (opened_as (node_facts g.N.Node.state g.N.Node.steps (λ m. g.N.Mail.Mail.letter m) g.N.Node.meaning (journal_facts g.D.Disk.tells g.D.Disk.content g.D.Disk.moment g.D.Disk.left_at g.D.Disk.fault_count g.D.Disk.place)) (1 + c.args.server.shards) (world_of c.requires.somewhere.nodes) c.args.seats.items c.requires.somewhere.held c.requires.somewhere.routers)) in
    served_later g.N.Node.state g.N.Node.steps g.D.Disk.tells g.D.Disk.content g.D.Disk.moment g.D.Disk.left_at g.D.Disk.fault_count g.D.Disk.place (world_of c.requires.somewhere.nodes) c.args.seats.items c.requires.somewhere.held _ _ c.in-Ok.field-0.nodes.items s.events s.marks s.world s.run c.in-Ok.ensures.places s.nodes (omega (arith, c.in-Ok.ensures.len, c.in-Ok.field-0.nodes.ok, c.args.seats.ok)) c.take_placed.new.back.items c.take_placed.ensures.disks

pub returns-in-Ok-clause-places : goal.returns-in-Ok-clause-places
returns-in-Ok-clause-places g c =
    let s = (c.in-Ok.ensures.served (since_then c.args.seats.items (world_of c.requires.somewhere.nodes)) (world_of c.requires.somewhere.nodes) (opened_as (node_facts g.N.Node.state g.N.Node.steps (λ m. g.N.Mail.Mail.letter m) g.N.Node.meaning (journal_facts g.D.Disk.tells g.D.Disk.content g.D.Disk.moment g.D.Disk.left_at g.D.Disk.fault_count g.D.Disk.place)) (1 + c.args.server.shards) (world_of c.requires.somewhere.nodes) c.args.seats.items c.requires.somewhere.held c.requires.somewhere.routers)) in
    served_places g.N.Node.state g.N.Node.steps g.D.Disk.tells g.D.Disk.content g.D.Disk.moment g.D.Disk.left_at g.D.Disk.fault_count g.D.Disk.place (world_of c.requires.somewhere.nodes) c.args.seats.items c.requires.somewhere.held _ _ c.in-Ok.field-0.nodes.items s.events s.marks s.world s.run c.in-Ok.ensures.places s.nodes (omega (arith, c.in-Ok.ensures.len, c.in-Ok.field-0.nodes.ok, c.args.seats.ok)) c.take_placed.new.back.items c.take_placed.ensures.disks

pub returns-in-Ok-clause-accept_fault : goal.returns-in-Ok-clause-accept_fault
returns-in-Ok-clause-accept_fault g c = λ is. c.in-Ok.ensures.accept (by_acceptor c.in-Ok.field-0.end (sym c.of_server.ensures ∙ is))

pub returns-in-Ok-clause-done : goal.returns-in-Ok-clause-done
returns-in-Ok-clause-done g c = λ is. c.in-Ok.ensures.done (by_done c.in-Ok.field-0.end (sym c.of_server.ensures ∙ is))

-- NOT SERVED

pub returns-in-Err-clause-headline : goal.returns-in-Err-clause-headline
returns-in-Err-clause-headline g c = λ first may held disks early.
    let same = (c.take_disks.ensures.disks ∙ ap (λ (ss : List (Seat g.row.N.Denot (JournalView g.row.D.Denot))). map {B = g.row.D.Denot} (λ s. s.log.disk) ss) c.in-Err.ensures.unserved) in
    rw (c.not_served.ensures.disks, c.not_served.ensures.links, same)
    (none_served _ _ first g.D.Disk.tells _ _ _ g.D.Disk.moment g.D.Disk.left_at disks _ may.begins
    (same_files g.N.Node.state g.N.Node.steps g.D.Disk.tells g.D.Disk.content g.D.Disk.moment g.D.Disk.left_at g.D.Disk.fault_count g.D.Disk.place first c.args.seats.items held)
    (same_leave g.N.Node.state g.N.Node.steps g.D.Disk.tells g.D.Disk.content g.D.Disk.moment g.D.Disk.left_at g.D.Disk.fault_count g.D.Disk.place first c.args.seats.items held disks early))

pub returns-in-Err-clause-durable : goal.returns-in-Err-clause-durable
returns-in-Err-clause-durable g c = λ told failed.
    rw c.not_served.ensures.disks (c.take_disks.ensures.durable told (rw c.in-Err.ensures.unserved c.requires.«open»))

pub returns-in-Err-clause-status : goal.returns-in-Err-clause-status
returns-in-Err-clause-status g c = rw (c.not_served.ensures.status, c.of_server-in-Err.ensures) (server_ends c.in-Err.field-0.end)

pub returns-in-Err-clause-disk_fault : goal.returns-in-Err-clause-disk_fault
returns-in-Err-clause-disk_fault g c =
    let same = (c.take_disks.ensures.disks ∙ ap (λ (ss : List (Seat g.row.N.Denot (JournalView g.row.D.Denot))). map {B = g.row.D.Denot} (λ s. s.log.disk) ss) c.in-Err.ensures.unserved) in
    rw (c.not_served.ensures.disks, c.not_served.ensures.status, c.of_server-in-Err.ensures)
    (all_still _ _ _ (λ is. by_no_disk c.in-Err.field-0.end c.in-Err.ensures.not_failed (by_disk c.in-Err.field-0.end is))
    (ap (λ (ds : List g.row.D.Denot). map g.D.Disk.fault_count ds) same ∙ mapped_twice g.D.Disk.fault_count (λ (s : Seat g.row.N.Denot (JournalView g.row.D.Denot)). s.log.disk) c.args.seats.items))

pub returns-in-Err-clause-later : goal.returns-in-Err-clause-later
returns-in-Err-clause-later g c =
    let same = (c.take_disks.ensures.disks ∙ ap (λ (ss : List (Seat g.row.N.Denot (JournalView g.row.D.Denot))). map {B = g.row.D.Denot} (λ s. s.log.disk) ss) c.in-Err.ensures.unserved) in
    rw c.not_served.ensures.disks (none_fell_same _ _ (ap (λ (ds : List g.row.D.Denot). map g.D.Disk.fault_count ds) same ∙ mapped_twice g.D.Disk.fault_count (λ (s : Seat g.row.N.Denot (JournalView g.row.D.Denot)). s.log.disk) c.args.seats.items))

pub returns-in-Err-clause-places : goal.returns-in-Err-clause-places
returns-in-Err-clause-places g c =
    let same = (c.take_disks.ensures.disks ∙ ap (λ (ss : List (Seat g.row.N.Denot (JournalView g.row.D.Denot))). map {B = g.row.D.Denot} (λ s. s.log.disk) ss) c.in-Err.ensures.unserved) in
    rw c.not_served.ensures.disks (ap (λ (ds : List g.row.D.Denot). map g.D.Disk.place ds) same ∙ mapped_twice g.D.Disk.place (λ (s : Seat g.row.N.Denot (JournalView g.row.D.Denot)). s.log.disk) c.args.seats.items)

pub returns-in-Err-clause-accept_fault : goal.returns-in-Err-clause-accept_fault
returns-in-Err-clause-accept_fault g c = λ is.
    absurd (by_no_acceptor c.in-Err.field-0.end c.in-Err.ensures.not_failed
    (by_acceptor c.in-Err.field-0.end (sym c.of_server-in-Err.ensures ∙ (sym c.not_served.ensures.status ∙ is))))

pub returns-in-Err-clause-done : goal.returns-in-Err-clause-done
returns-in-Err-clause-done g c = λ is.
    absurd (by_not_done c.in-Err.field-0.end c.in-Err.ensures.not_failed
    (by_done c.in-Err.field-0.end (sym c.of_server-in-Err.ensures ∙ (sym c.not_served.ensures.status ∙ is))))
