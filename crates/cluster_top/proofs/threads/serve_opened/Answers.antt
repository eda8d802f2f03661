use denote.Param.Send.{sendable}
use Rattle.std.proofs.Common.{◌∙◌, ◌-◌, refl, sym, map, arith, inl}
use Rattle.outside.proofs.Relations.{none_fell_self}
use Rattle.any_node.specs.Kinds.{state_of, steps_of}
use Rattle.journal_starts.specs.Records.{SomeRefused, by_record}
use Rattle.journal_starts.proofs.Starts.{opened_are_not_refused, starts_are_opened, starts_are_stored}
use Rattle.cluster_service.specs.OpenJournals.{disks_of}
use Rattle.cluster_service.specs.Openings.{disk_facts}
use Rattle.cluster_service.specs.declared.status.Status.TheVariants as statuses
use Rattle.cluster_service.proofs.Counts.{all_still}
use Rattle.cluster_service.proofs.Crashes.{first_leaves}
use Rattle.cluster_service.proofs.Firsts.{first_may_play}
use Rattle.cluster_service.proofs.Openings.{opened_as_were, opened_leave, opened_records, opened_with, still_journals}
use Rattle.cluster_service.proofs.ServedDisks.{none_served}
use Rattle.cluster_service.proofs.ServerEnds.{not_damaged, zero_small}
use Rattle.thread_laws.proofs.Messages.{input_sends, message_sends}
use Rattle.thread_laws.proofs.Nodes.{node_sends}
use Rattle.thread_laws.proofs.Wire.{request_sends}
use Rattle.cluster_top.proofs.Refused.{not_other, refused_of, unopened_end}
use Rattle.cluster_top.proofs.SomeWorld.{some_world}
use Rattle.cluster_top.proofs.threads.serve_opened.Goals as goal

pub open_nodes-requires-clause-few : goal.open_nodes-requires-clause-few
open_nodes-requires-clause-few g c = omega (arith, c.requires.found, c.requires.few, c.requires.few_shards)

-- THE NODES ARE OPENED

-- nodes, their inputs, messages and requests may go to other threads
pub serve_links-requires-send-N : goal.serve_links-requires-send-N
serve_links-requires-send-N g c κs within = search (sendable, node_sends)

pub serve_links-requires-send-N-Input : goal.serve_links-requires-send-N-Input
serve_links-requires-send-N-Input g c κs within = search (sendable, input_sends)

pub serve_links-requires-send-N-Mail : goal.serve_links-requires-send-N-Mail
serve_links-requires-send-N-Mail g c κs within = search (sendable, message_sends)

pub serve_links-requires-send-N-Request : goal.serve_links-requires-send-N-Request
serve_links-requires-send-N-Request g c κs within = search (sendable, request_sends)

pub serve_links-requires-clause-few : goal.serve_links-requires-clause-few
serve_links-requires-clause-few g c = omega (arith, c.requires.journals, c.requires.few, c.requires.few_shards)

pub serve_links-requires-clause-nodes : goal.serve_links-requires-clause-nodes
serve_links-requires-clause-nodes g c = omega (arith, c.in-Ok.ensures.len, c.requires.found, c.requires.journals)

pub serve_links-requires-clause-somewhere : goal.serve_links-requires-clause-somewhere
serve_links-requires-clause-somewhere g c κs within =
    some_world (disk_facts g.D.Disk.tells g.D.Disk.content g.D.Disk.may_leave g.D.Disk.moment g.D.Disk.left_at g.D.Disk.place g.D.Disk.fault_count)
    c.args.server.shards c.requires.some_shards c.requires.opened.0 c.args.opened.journals.items c.args.opened.found.items (map state_of c.in-Ok.nodes.items) c.requires.opened.1 c.in-Ok.ensures.opened

pub serve_links-requires-clause-small : goal.serve_links-requires-clause-small
serve_links-requires-clause-small g c κs within = zero_small steps_of c.in-Ok.nodes.items c.in-Ok.ensures.new

pub serve_links-requires-clause-room : goal.serve_links-requires-clause-room
serve_links-requires-clause-room g c = omega (arith, c.requires.room, c.requires.journals)

pub returns-in-Ok-clause-headline : goal.returns-in-Ok-clause-headline
returns-in-Ok-clause-headline g c = λ disks first told opened begun.
    let facts = disk_facts g.D.Disk.tells g.D.Disk.content g.D.Disk.may_leave g.D.Disk.moment g.D.Disk.left_at g.D.Disk.place g.D.Disk.fault_count in
    let journals = starts_are_stored _ _ (map g.D.Disk.content disks) first begun in
    c.serve_links.ensures.headline first (first_may_play c.args.server.shards _ (map g.D.Disk.content disks) first c.requires.some_shards begun)
    (starts_are_opened _ _ (map g.D.Disk.content disks) first c.args.opened.found.items (map state_of c.in-Ok.nodes.items) begun
    (opened_records facts disks c.args.opened.journals.items c.args.opened.found.items told opened) c.in-Ok.ensures.opened)
    (opened_with facts disks c.args.opened.journals.items c.args.opened.found.items first.nodes opened journals) disks
    (λ told. opened_leave facts disks c.args.opened.journals.items c.args.opened.found.items first.nodes told opened journals)

pub returns-in-Ok-clause-status : goal.returns-in-Ok-clause-status
returns-in-Ok-clause-status g c = inl c.serve_links.ensures.status

pub returns-in-Ok-clause-damaged : goal.returns-in-Ok-clause-damaged
returns-in-Ok-clause-damaged g c = λ is. absurd (not_damaged c.serve_links.result.status c.serve_links.ensures.status is)

pub returns-in-Ok-clause-refused : goal.returns-in-Ok-clause-refused
returns-in-Ok-clause-refused g c = λ disks told opened refused.
    let facts = disk_facts g.D.Disk.tells g.D.Disk.content g.D.Disk.may_leave g.D.Disk.moment g.D.Disk.left_at g.D.Disk.place g.D.Disk.fault_count in
    absurd (opened_are_not_refused (c.args.server.shards - 1) (map g.D.Disk.content disks) c.args.opened.found.items (map state_of c.in-Ok.nodes.items)
    (opened_records facts disks c.args.opened.journals.items c.args.opened.found.items told opened) c.in-Ok.ensures.opened refused)

-- ONE IS REFUSED, OR MEMORY RAN OUT

pub returns-in-Err-clause-headline : goal.returns-in-Err-clause-headline
returns-in-Err-clause-headline g c = λ disks first told opened begun.
    let facts = disk_facts g.D.Disk.tells g.D.Disk.content g.D.Disk.may_leave g.D.Disk.moment g.D.Disk.left_at g.D.Disk.place g.D.Disk.fault_count in
    let journals = starts_are_stored _ _ (map g.D.Disk.content disks) first begun in
    let left = disks_of c.args.opened.journals.items in
    rw (c.not_served.ensures.disks, c.not_served.ensures.links, c.close_all.ensures.disks)
    (none_served _ _ first g.D.Disk.tells _ (map g.D.Disk.content left) (map g.D.Disk.place left) g.D.Disk.moment g.D.Disk.left_at disks left
    (first_may_play c.args.server.shards _ (map g.D.Disk.content disks) first c.requires.some_shards begun).begins
    (λ told. still_journals facts disks left first.nodes told (opened_as_were facts disks c.args.opened.journals.items c.args.opened.found.items opened) journals)
    (λ told. first_leaves g.D.Disk.moment g.D.Disk.left_at first disks left
    (opened_leave facts disks c.args.opened.journals.items c.args.opened.found.items first.nodes told opened journals)))

pub returns-in-Err-clause-durable : goal.returns-in-Err-clause-durable
returns-in-Err-clause-durable g c = λ told failed. rw c.not_served.ensures.disks (c.close_all.ensures.durable told c.requires.«open»)

pub returns-in-Err-clause-status : goal.returns-in-Err-clause-status
returns-in-Err-clause-status g c = unopened_end c.status_of.result c.not_served.result.status c.not_served.ensures.status c.status_of.ensures.two

pub returns-in-Err-clause-damaged : goal.returns-in-Err-clause-damaged
returns-in-Err-clause-damaged g c = λ is. (
  c.not_served.ensures.links,
  refl,
  λ disks told opened.
      by_record c.args.opened.found.items
      (opened_records (disk_facts g.D.Disk.tells g.D.Disk.content g.D.Disk.may_leave g.D.Disk.moment g.D.Disk.left_at g.D.Disk.place g.D.Disk.fault_count) disks c.args.opened.journals.items c.args.opened.found.items told opened)
      (refused_of c.in-Err.fault (SomeRefused (c.args.server.shards - 1) 0 c.args.opened.found.items) (c.status_of.ensures.refused (sym c.not_served.ensures.status ∙ is)) c.in-Err.ensures.fault),
)

pub returns-in-Err-clause-refused : goal.returns-in-Err-clause-refused
returns-in-Err-clause-refused g c = λ disks told opened refused.
    let facts = disk_facts g.D.Disk.tells g.D.Disk.content g.D.Disk.may_leave g.D.Disk.moment g.D.Disk.left_at g.D.Disk.place g.D.Disk.fault_count in
    rw (c.not_served.ensures.disks, c.close_all.ensures.disks, c.not_served.ensures.status)
    (c.status_of.ensures.two, c.not_served.ensures.links, refl, opened_as_were facts disks c.args.opened.journals.items c.args.opened.found.items opened)

pub returns-in-Err-clause-disk_fault : goal.returns-in-Err-clause-disk_fault
returns-in-Err-clause-disk_fault g c =
    rw (c.not_served.ensures.disks, c.close_all.ensures.disks)
    (all_still _ (map g.D.Disk.fault_count (disks_of c.args.opened.journals.items)) (map g.D.Disk.fault_count (disks_of c.args.opened.journals.items))
    (not_other statuses.DiskFailed (λ e. cc) (λ e. cc) c.status_of.result c.not_served.result.status c.not_served.ensures.status c.status_of.ensures.two) refl)

pub returns-in-Err-clause-later : goal.returns-in-Err-clause-later
returns-in-Err-clause-later g c =
    rw (c.not_served.ensures.disks, c.close_all.ensures.disks) (none_fell_self (map g.D.Disk.fault_count (disks_of c.args.opened.journals.items)))

pub returns-in-Err-clause-places : goal.returns-in-Err-clause-places
returns-in-Err-clause-places g c = rw (c.not_served.ensures.disks, c.close_all.ensures.disks) refl

pub returns-in-Err-clause-done : goal.returns-in-Err-clause-done
returns-in-Err-clause-done g c = λ is.
    absurd (not_other statuses.InputEnded (λ e. cc) (λ e. cc) c.status_of.result c.not_served.result.status c.not_served.ensures.status c.status_of.ensures.two is)

pub returns-in-Err-clause-accept_fault : goal.returns-in-Err-clause-accept_fault
returns-in-Err-clause-accept_fault g c = λ is.
    absurd (not_other statuses.AcceptFailed (λ e. cc) (λ e. cc) c.status_of.result c.not_served.result.status c.not_served.ensures.status c.status_of.ensures.two is)
