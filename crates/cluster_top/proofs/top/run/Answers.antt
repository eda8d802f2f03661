use Rattle.std.proofs.Common.{◌≡◌, ◌∙◌, ℕ, map, refl, sym, ap, subst, append-nil, arith, inl}
use Rattle.std.specs.Prelude.{vec_len}
use Rattle.outside.specs.Devices.{sink_call, source_call}
use Rattle.outside.proofs.Relations.{none_fell_self}
use Rattle.pipe_driver.proofs.Counts.{still}
use Rattle.journal_starts.specs.Records.{AreRefused}
use Rattle.cluster_service.specs.Arguments.{routers_of, shards_of}
use Rattle.cluster_service.specs.Openings.{disk_facts}
use Rattle.cluster_service.specs.declared.status.Status.TheVariants as statuses
use Rattle.cluster_service.proofs.Counts.{one_rose_numbered, rose_numbered}
use Rattle.cluster_service.proofs.NotBegun.{begun_none}
use Rattle.cluster_service.proofs.ServedDisks.{headline_as}
use Rattle.cluster_service.proofs.ServerEnds.{is_server, no_server, others_are, routers_are, server_no_other, sessions_are, shards_are}
use Rattle.cluster_service.proofs.Statuses.{durable_number, has_number, is_status, refused_number, refused_or_damaged}
use Rattle.cluster_top.proofs.Refused.{by_number, server_durable, server_refused}
use Rattle.cluster_top.proofs.top.run.Goals as goal

-- THE ARGUMENTS ARE REFUSED

pub returns-in-None-clause-untouched : goal.returns-in-None-clause-untouched
returns-in-None-clause-untouched g c = λ refused. (refl, (λ told. refl, refl), (λ told. sym (append-nil (g.K.Sink.held c.args.out.now)), refl))

pub returns-in-None-clause-none_fell : goal.returns-in-None-clause-none_fell
returns-in-None-clause-none_fell g c = none_fell_self (map g.D.Disk.fault_count c.args.disks.items)

pub returns-in-None-clause-words : goal.returns-in-None-clause-words
returns-in-None-clause-words g c = rw (sym c.read_command.ensures.command, c.in-None.is) (λ two. refl, λ none. c.number.ensures)

pub returns-in-None-clause-refused : goal.returns-in-None-clause-refused
returns-in-None-clause-refused g c = rw (sym c.read_command.ensures.command, c.in-None.is) tt

pub returns-in-None-clause-durable : goal.returns-in-None-clause-durable
returns-in-None-clause-durable g c = rw (sym c.read_command.ensures.command, c.in-None.is) (λ some. absurd (cc some))

pub returns-in-None-clause-headline : goal.returns-in-None-clause-headline
returns-in-None-clause-headline g c = rw (sym c.read_command.ensures.command, c.in-None.is) tt

pub returns-in-None-clause-server : goal.returns-in-None-clause-server
returns-in-None-clause-server g c = rw (sym c.read_command.ensures.command, c.in-None.is) tt

pub returns-in-None-clause-server_end : goal.returns-in-None-clause-server_end
returns-in-None-clause-server_end g c = rw (sym c.read_command.ensures.command, c.in-None.is) tt

pub returns-in-None-clause-served : goal.returns-in-None-clause-served
returns-in-None-clause-served g c = rw (sym c.read_command.ensures.command, c.in-None.is) tt

pub returns-in-None-clause-sessions : goal.returns-in-None-clause-sessions
returns-in-None-clause-sessions g c = rw (sym c.read_command.ensures.command, c.in-None.is) tt

pub returns-in-None-clause-none_accepted : goal.returns-in-None-clause-none_accepted
returns-in-None-clause-none_accepted g c = rw (sym c.read_command.ensures.command, c.in-None.is) tt

pub returns-in-None-clause-number : goal.returns-in-None-clause-number
returns-in-None-clause-number g c = (statuses.BadArguments, c.number.ensures, λ e. let clash : statuses.BadArguments ≡ statuses.AcceptFailed = e in absurd (cc clash))

-- A SERVER

pub serve_nodes-requires-clause-some_shards : goal.serve_nodes-requires-clause-some_shards
serve_nodes-requires-clause-some_shards g c =
    let same : shards_of c.in-Some.command ≡ c.in-Some-server.server.shards = shards_are c.in-Some.command c.in-Some-server.server (sym c.server.ensures ∙ c.in-Some-server.is) in
    let some = rw c.in-Some.is at c.read_command.ensures.some_shards in omega (arith, same, some)

pub serve_nodes-requires-clause-few_shards : goal.serve_nodes-requires-clause-few_shards
serve_nodes-requires-clause-few_shards g c =
    let same : shards_of c.in-Some.command ≡ c.in-Some-server.server.shards = shards_are c.in-Some.command c.in-Some-server.server (sym c.server.ensures ∙ c.in-Some-server.is) in
    let few = rw c.in-Some.is at c.read_command.ensures.few_shards in omega (arith, same, few)

pub serve_nodes-requires-clause-few : goal.serve_nodes-requires-clause-few
serve_nodes-requires-clause-few g c = let same : routers_of c.in-Some.command ≡ c.in-Some-server.server.routers = routers_are c.in-Some.command c.in-Some-server.server (sym c.server.ensures ∙ c.in-Some-server.is) in
    let few = rw c.in-Some.is at c.read_command.ensures.few in omega (arith, same, few)

pub serve_nodes-requires-clause-disks : goal.serve_nodes-requires-clause-disks
serve_nodes-requires-clause-disks g c =
    let shards : shards_of c.in-Some.command ≡ c.in-Some-server.server.shards = shards_are c.in-Some.command c.in-Some-server.server (sym c.server.ensures ∙ c.in-Some-server.is) in
    let routers : routers_of c.in-Some.command ≡ c.in-Some-server.server.routers = routers_are c.in-Some.command c.in-Some-server.server (sym c.server.ensures ∙ c.in-Some-server.is) in
    let count = rw (sym c.read_command.ensures.command, c.in-Some.is) at c.requires in omega (arith, shards, routers, count)

pub returns-in-Some-server-clause-words : goal.returns-in-Some-server-clause-words
returns-in-Some-server-clause-words g c = rw (sym c.read_command.ensures.command, c.in-Some.is) (
  λ two. absurd ((server_no_other c.serve_nodes.result.status c.serve_nodes.ensures.status).0 (is_status statuses.BadArguments c.serve_nodes.result.status c.after_server.result.status c.after_server.ensures.status two)),
  λ none. absurd (cc none),
)

pub returns-in-Some-server-clause-arguments : goal.returns-in-Some-server-clause-arguments
returns-in-Some-server-clause-arguments g c = λ two. absurd ((server_no_other c.serve_nodes.result.status c.serve_nodes.ensures.status).0 (is_status statuses.BadArguments c.serve_nodes.result.status c.after_server.result.status c.after_server.ensures.status two))

pub returns-in-Some-server-clause-number : goal.returns-in-Some-server-clause-number
returns-in-Some-server-clause-number g c = rw (sym c.read_command.ensures.command, c.in-Some.is) (c.serve_nodes.result.status, c.after_server.ensures.status, λ is. (is_server c.in-Some.command c.in-Some-server.server (sym c.server.ensures ∙ c.in-Some-server.is)))

pub returns-in-Some-server-clause-untouched : goal.returns-in-Some-server-clause-untouched
returns-in-Some-server-clause-untouched g c = λ refused. (c.after_server.ensures.rest, (λ told. refl, refl), (λ told. sym (append-nil (g.K.Sink.held c.args.out.now)), refl))

pub returns-in-Some-server-clause-six : goal.returns-in-Some-server-clause-six
returns-in-Some-server-clause-six g c = rw (sym c.read_command.ensures.command, c.in-Some.is) (λ six told.
    subst (λ (n : ℕ). AreRefused n (map g.D.Disk.content c.args.disks.items)) (sym (others_are c.in-Some.command c.in-Some-server.server (sym c.server.ensures ∙ c.in-Some-server.is)))
    ((c.serve_nodes.ensures.damaged (is_status statuses.DamagedJournal c.serve_nodes.result.status c.after_server.result.status c.after_server.ensures.status six)).2 told))

pub returns-in-Some-server-clause-refused : goal.returns-in-Some-server-clause-refused
returns-in-Some-server-clause-refused g c = rw (sym c.read_command.ensures.command, c.in-Some.is) (λ told refused.
    let done = c.serve_nodes.ensures.refused told
    (subst (λ (n : ℕ). AreRefused n (map g.D.Disk.content c.args.disks.items)) (others_are c.in-Some.command c.in-Some-server.server (sym c.server.ensures ∙ c.in-Some-server.is)) refused) in
    rw c.after_server.ensures.disks (
      server_refused c.serve_nodes.result.status c.after_server.result.status c.after_server.ensures.status _ done.0,
      begun_none (disk_facts g.D.Disk.tells g.D.Disk.content g.D.Disk.may_leave g.D.Disk.moment g.D.Disk.left_at g.D.Disk.place g.D.Disk.fault_count) c.args.disks.items c.serve_nodes.result.disks.items
          (source_call g.S.Source.tells g.S.Source.left g.S.Source.fault_count c.args.input.now c.args.input.now) (sink_call g.K.Sink.tells g.K.Sink.held g.K.Sink.fault_count c.args.out.now c.args.out.now) c.after_server.result.rest
          ((λ told. refl), refl) ((λ told. sym (append-nil (g.K.Sink.held c.args.out.now))), refl) c.after_server.ensures.rest done.3,
    ))

pub returns-in-Some-server-clause-places : goal.returns-in-Some-server-clause-places
returns-in-Some-server-clause-places g c = rw c.after_server.ensures.disks c.serve_nodes.ensures.places

pub returns-in-Some-server-clause-read_fault : goal.returns-in-Some-server-clause-read_fault
returns-in-Some-server-clause-read_fault g c = still _ _ _ (λ is. (server_no_other c.serve_nodes.result.status c.serve_nodes.ensures.status).1 (is_status statuses.ReadFailed c.serve_nodes.result.status c.after_server.result.status c.after_server.ensures.status is)) refl

pub returns-in-Some-server-clause-write_fault : goal.returns-in-Some-server-clause-write_fault
returns-in-Some-server-clause-write_fault g c = still _ _ _ (λ is. (server_no_other c.serve_nodes.result.status c.serve_nodes.ensures.status).2 (is_status statuses.WriteFailed c.serve_nodes.result.status c.after_server.result.status c.after_server.ensures.status is)) refl

pub returns-in-Some-server-clause-disk_fault : goal.returns-in-Some-server-clause-disk_fault
returns-in-Some-server-clause-disk_fault g c = rw c.after_server.ensures.disks (one_rose_numbered statuses.DiskFailed c.serve_nodes.result.status c.after_server.result.status c.after_server.ensures.status _ _ c.serve_nodes.ensures.disk_fault)

pub returns-in-Some-server-clause-none_fell : goal.returns-in-Some-server-clause-none_fell
returns-in-Some-server-clause-none_fell g c = rw c.after_server.ensures.disks c.serve_nodes.ensures.later

pub returns-in-Some-server-clause-headline : goal.returns-in-Some-server-clause-headline
returns-in-Some-server-clause-headline g c = rw (sym c.read_command.ensures.command, c.in-Some.is) (λ driver. absurd (driver (is_server c.in-Some.command c.in-Some-server.server (sym c.server.ensures ∙ c.in-Some-server.is))))

pub returns-in-Some-server-clause-durable : goal.returns-in-Some-server-clause-durable
returns-in-Some-server-clause-durable g c = λ some told failed.
    rw c.after_server.ensures.disks (server_durable c.serve_nodes.result.status c.after_server.result.status c.after_server.ensures.status _ _ _ _
    (λ are. begun_none (disk_facts g.D.Disk.tells g.D.Disk.content g.D.Disk.may_leave g.D.Disk.moment g.D.Disk.left_at g.D.Disk.place g.D.Disk.fault_count) c.args.disks.items c.serve_nodes.result.disks.items
    (source_call g.S.Source.tells g.S.Source.left g.S.Source.fault_count c.args.input.now c.args.input.now) (sink_call g.K.Sink.tells g.K.Sink.held g.K.Sink.fault_count c.args.out.now c.args.out.now) c.after_server.result.rest
    ((λ told. refl), refl) ((λ told. sym (append-nil (g.K.Sink.held c.args.out.now))), refl) c.after_server.ensures.rest are)
    (c.serve_nodes.ensures.durable told (λ is. failed (has_number statuses.DiskFailed c.serve_nodes.result.status c.after_server.result.status c.after_server.ensures.status is))))

pub returns-in-Some-server-clause-server : goal.returns-in-Some-server-clause-server
returns-in-Some-server-clause-server g c = rw (sym c.read_command.ensures.command, c.in-Some.is) (λ any. ((λ told. refl, refl), (λ told. sym (append-nil (g.K.Sink.held c.args.out.now)), refl), c.after_server.ensures.rest))

pub returns-in-Some-server-clause-server_end : goal.returns-in-Some-server-clause-server_end
returns-in-Some-server-clause-server_end g c = rw (sym c.read_command.ensures.command, c.in-Some.is) (λ any. (c.serve_nodes.result.status, c.after_server.ensures.status, c.serve_nodes.ensures.status))

pub returns-in-Some-server-clause-served : goal.returns-in-Some-server-clause-served
returns-in-Some-server-clause-served g c =
    rw (sym c.read_command.ensures.command, c.in-Some.is) (λ any first told begun.
    rw (c.after_server.ensures.disks, c.after_server.ensures.links)
    (headline_as _ _ _ _ _ _ _ _ _ _ _ _ (λ is. has_number statuses.DiskFailed c.serve_nodes.result.status c.after_server.result.status c.after_server.ensures.status is)
    (c.serve_nodes.ensures.headline first told (rw (others_are c.in-Some.command c.in-Some-server.server (sym c.server.ensures ∙ c.in-Some-server.is), routers_are c.in-Some.command c.in-Some-server.server (sym c.server.ensures ∙ c.in-Some-server.is)) at begun))))

pub returns-in-Some-server-clause-sessions : goal.returns-in-Some-server-clause-sessions
returns-in-Some-server-clause-sessions g c =
    rw (sym c.read_command.ensures.command, c.in-Some.is) (λ any zero.
    ap vec_len c.after_server.ensures.links
    ∙ (c.serve_nodes.ensures.done (is_status statuses.InputEnded c.serve_nodes.result.status c.after_server.result.status c.after_server.ensures.status zero)
    ∙ sym (sessions_are c.in-Some.command c.in-Some-server.server (sym c.server.ensures ∙ c.in-Some-server.is))))

pub returns-in-Some-server-clause-accept_fault : goal.returns-in-Some-server-clause-accept_fault
returns-in-Some-server-clause-accept_fault g c = λ eight. c.serve_nodes.ensures.accept_fault (is_status statuses.AcceptFailed c.serve_nodes.result.status c.after_server.result.status c.after_server.ensures.status eight)

pub returns-in-Some-server-clause-acceptor : goal.returns-in-Some-server-clause-acceptor
returns-in-Some-server-clause-acceptor g c = rw (sym c.read_command.ensures.command, c.in-Some.is) (λ other. absurd (other (is_server c.in-Some.command c.in-Some-server.server (sym c.server.ensures ∙ c.in-Some-server.is))))

pub returns-in-Some-server-clause-links : goal.returns-in-Some-server-clause-links
returns-in-Some-server-clause-links g c = rw (sym c.read_command.ensures.command, c.in-Some.is) (λ other. absurd (other (is_server c.in-Some.command c.in-Some-server.server (sym c.server.ensures ∙ c.in-Some-server.is))))

pub returns-in-Some-server-clause-not_accepted : goal.returns-in-Some-server-clause-not_accepted
returns-in-Some-server-clause-not_accepted g c = λ six.
    let none = c.serve_nodes.ensures.damaged (is_status statuses.DamagedJournal c.serve_nodes.result.status c.after_server.result.status c.after_server.ensures.status six) in
    rw c.after_server.ensures.links (none.1, none.0)

pub returns-in-Some-server-clause-none_accepted : goal.returns-in-Some-server-clause-none_accepted
returns-in-Some-server-clause-none_accepted g c = rw (sym c.read_command.ensures.command, c.in-Some.is) (λ told refused.
    let none = c.serve_nodes.ensures.refused told
    (subst (λ (n : ℕ). AreRefused n (map g.D.Disk.content c.args.disks.items)) (others_are c.in-Some.command c.in-Some-server.server (sym c.server.ensures ∙ c.in-Some-server.is)) refused) in
    rw c.after_server.ensures.links (none.2, none.1))

-- A CONNECTION OR A SCRIPT

pub run_nodes-ending-requires-clause-driver : goal.run_nodes-ending-requires-clause-driver
run_nodes-ending-requires-clause-driver g c κs within = (no_server c.in-Some.command (sym c.server.ensures ∙ c.in-None-server.is))

pub run_nodes-ending-requires-clause-disks : goal.run_nodes-ending-requires-clause-disks
run_nodes-ending-requires-clause-disks g c κs within = rw (sym c.read_command.ensures.command, c.in-Some.is) at c.requires

pub returns-in-None-server-clause-words : goal.returns-in-None-server-clause-words
returns-in-None-server-clause-words g c = rw (sym c.read_command.ensures.command, c.in-Some.is) (
  λ two. absurd (c.run_nodes-ending.ensures.status.0 (is_status statuses.BadArguments c.run_nodes-ending.result.status c.after_run.result.status c.after_run.ensures.status two)),
  λ none. absurd (cc none),
)

pub returns-in-None-server-clause-arguments : goal.returns-in-None-server-clause-arguments
returns-in-None-server-clause-arguments g c = λ two. absurd (c.run_nodes-ending.ensures.status.0 (is_status statuses.BadArguments c.run_nodes-ending.result.status c.after_run.result.status c.after_run.ensures.status two))

pub returns-in-None-server-clause-number : goal.returns-in-None-server-clause-number
returns-in-None-server-clause-number g c = (c.run_nodes-ending.result.status, c.after_run.ensures.status, λ is. absurd (c.run_nodes-ending.ensures.status.1 is))

pub returns-in-None-server-clause-untouched : goal.returns-in-None-server-clause-untouched
returns-in-None-server-clause-untouched g c = λ refused.
    let damaged = c.run_nodes-ending.ensures.damaged (refused_or_damaged c.run_nodes-ending.result.status c.after_run.result.status c.after_run.ensures.status c.run_nodes-ending.ensures.status.0 refused) in
    (c.after_run.ensures.rest ∙ damaged.0, damaged.1, damaged.2)

pub returns-in-None-server-clause-six : goal.returns-in-None-server-clause-six
returns-in-None-server-clause-six g c = rw (sym c.read_command.ensures.command, c.in-Some.is) (λ is. (c.run_nodes-ending.ensures.damaged (is_status statuses.DamagedJournal c.run_nodes-ending.result.status c.after_run.result.status c.after_run.ensures.status is)).3)

pub returns-in-None-server-clause-refused : goal.returns-in-None-server-clause-refused
returns-in-None-server-clause-refused g c = rw (sym c.read_command.ensures.command, c.in-Some.is) (λ told refused.
    let done = c.run_nodes-ending.ensures.refused told refused in
    rw (c.after_run.ensures.disks, c.after_run.ensures.rest) (inl (refused_number c.run_nodes-ending.result.status c.after_run.result.status c.after_run.ensures.status done.0), done.1))

pub returns-in-None-server-clause-places : goal.returns-in-None-server-clause-places
returns-in-None-server-clause-places g c = rw c.after_run.ensures.disks c.run_nodes-ending.ensures.places

pub returns-in-None-server-clause-read_fault : goal.returns-in-None-server-clause-read_fault
returns-in-None-server-clause-read_fault g c = rose_numbered statuses.ReadFailed c.run_nodes-ending.result.status c.after_run.result.status c.after_run.ensures.status _ _ c.run_nodes-ending.ensures.read_fault

pub returns-in-None-server-clause-write_fault : goal.returns-in-None-server-clause-write_fault
returns-in-None-server-clause-write_fault g c = rose_numbered statuses.WriteFailed c.run_nodes-ending.result.status c.after_run.result.status c.after_run.ensures.status _ _ c.run_nodes-ending.ensures.write_fault

pub returns-in-None-server-clause-disk_fault : goal.returns-in-None-server-clause-disk_fault
returns-in-None-server-clause-disk_fault g c = rw c.after_run.ensures.disks (one_rose_numbered statuses.DiskFailed c.run_nodes-ending.result.status c.after_run.result.status c.after_run.ensures.status _ _ c.run_nodes-ending.ensures.disk_fault)

pub returns-in-None-server-clause-none_fell : goal.returns-in-None-server-clause-none_fell
returns-in-None-server-clause-none_fell g c = rw c.after_run.ensures.disks c.run_nodes-ending.ensures.later

pub returns-in-None-server-clause-headline : goal.returns-in-None-server-clause-headline
returns-in-None-server-clause-headline g c =
    rw (sym c.read_command.ensures.command, c.in-Some.is)
    (λ driver first told begun. rw (c.after_run.ensures.disks, c.after_run.ensures.rest) (
      c.run_nodes-ending.result.status,
      c.after_run.ensures.status,
      c.run_nodes-ending.ensures.headline first told begun,
    ))

pub returns-in-None-server-clause-durable : goal.returns-in-None-server-clause-durable
returns-in-None-server-clause-durable g c = λ some told failed.
    rw (c.after_run.ensures.disks, c.after_run.ensures.rest) (by_number _ _ _ (durable_number c.run_nodes-ending.result.status c.after_run.result.status c.after_run.ensures.status _ _
    (c.run_nodes-ending.ensures.durable told (λ is. failed (has_number statuses.DiskFailed c.run_nodes-ending.result.status c.after_run.result.status c.after_run.ensures.status is)))))

pub returns-in-None-server-clause-server : goal.returns-in-None-server-clause-server
returns-in-None-server-clause-server g c = rw (sym c.read_command.ensures.command, c.in-Some.is) (λ server. absurd ((no_server c.in-Some.command (sym c.server.ensures ∙ c.in-None-server.is)) server))

pub returns-in-None-server-clause-server_end : goal.returns-in-None-server-clause-server_end
returns-in-None-server-clause-server_end g c = rw (sym c.read_command.ensures.command, c.in-Some.is) (λ server. absurd ((no_server c.in-Some.command (sym c.server.ensures ∙ c.in-None-server.is)) server))

pub returns-in-None-server-clause-served : goal.returns-in-None-server-clause-served
returns-in-None-server-clause-served g c = rw (sym c.read_command.ensures.command, c.in-Some.is) (λ server. absurd ((no_server c.in-Some.command (sym c.server.ensures ∙ c.in-None-server.is)) server))

pub returns-in-None-server-clause-sessions : goal.returns-in-None-server-clause-sessions
returns-in-None-server-clause-sessions g c = rw (sym c.read_command.ensures.command, c.in-Some.is) (λ server. absurd ((no_server c.in-Some.command (sym c.server.ensures ∙ c.in-None-server.is)) server))

pub returns-in-None-server-clause-accept_fault : goal.returns-in-None-server-clause-accept_fault
returns-in-None-server-clause-accept_fault g c = λ eight. absurd (c.run_nodes-ending.ensures.status.1 (is_status statuses.AcceptFailed c.run_nodes-ending.result.status c.after_run.result.status c.after_run.ensures.status eight))

pub returns-in-None-server-clause-acceptor : goal.returns-in-None-server-clause-acceptor
returns-in-None-server-clause-acceptor g c = λ other. refl

pub returns-in-None-server-clause-links : goal.returns-in-None-server-clause-links
returns-in-None-server-clause-links g c = λ other. c.after_run.ensures.links

pub returns-in-None-server-clause-not_accepted : goal.returns-in-None-server-clause-not_accepted
returns-in-None-server-clause-not_accepted g c = λ six. (refl, c.after_run.ensures.links)

pub returns-in-None-server-clause-none_accepted : goal.returns-in-None-server-clause-none_accepted
returns-in-None-server-clause-none_accepted g c = rw (sym c.read_command.ensures.command, c.in-Some.is) (λ told refused. (refl, c.after_run.ensures.links))
