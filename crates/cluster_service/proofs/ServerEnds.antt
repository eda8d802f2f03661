-- How a server ended, and its status.
use Rattle.std.specs.Prelude.{◌≡◌, ◌≢◌, ◌⊎◌, ◌-◌, ◌<◌, ◌^◌, ℕ, List, [], ◌∷◌, length, map, Some, None}
use Rattle.std.proofs.Common.{refl, sym, ap, subst, inl, inr, arith, ◌∙◌}
use Rattle.std.specs.List.{AllByRecursion}
use Rattle.journal_frames.specs.Views.{JournalView}
use Rattle.conn_server.specs.declared.server.ServeEnd.{ServeEnd}
use Rattle.conn_server.specs.declared.server.ServeEnd.TheVariants as served
use Rattle.cluster_service.specs.Arguments.{IsServer, others_of, routers_of, server_in, sessions_of, shards_of}
use Rattle.cluster_service.specs.Seats.{seats_of}
use Rattle.cluster_service.specs.Servers.{IsServerEnd, at_end, at_disk, at_memory, at_accept}
use Rattle.cluster_service.specs.Statuses.{of_server}
use Rattle.cluster_service.specs.declared.arguments.Command.{Command}
use Rattle.cluster_service.specs.declared.arguments.Command.TheVariants.{Pipe, Sim, Serve}
use Rattle.cluster_service.specs.declared.arguments.Server.{Server}
use Rattle.cluster_service.specs.declared.status.Status.{Status}
use Rattle.cluster_service.specs.declared.status.Status.TheVariants as statuses

pub server_ends : (e : ServeEnd) → IsServerEnd (of_server e)
server_ends served.Done = at_end
server_ends served.AcceptFailed = at_accept
server_ends served.DiskFailed = at_disk
server_ends served.OutOfMemory = at_memory

pub by_disk : (e : ServeEnd) → of_server e ≡ statuses.DiskFailed → e ≡ served.DiskFailed
by_disk served.Done is = absurd (cc is)
by_disk served.AcceptFailed is = absurd (cc is)
by_disk served.DiskFailed is = refl
by_disk served.OutOfMemory is = absurd (cc is)

pub by_acceptor : (e : ServeEnd) → of_server e ≡ statuses.AcceptFailed → e ≡ served.AcceptFailed
by_acceptor served.Done is = absurd (cc is)
by_acceptor served.AcceptFailed is = refl
by_acceptor served.DiskFailed is = absurd (cc is)
by_acceptor served.OutOfMemory is = absurd (cc is)

pub by_done : (e : ServeEnd) → of_server e ≡ statuses.InputEnded → e ≡ served.Done
by_done served.Done is = refl
by_done served.AcceptFailed is = absurd (cc is)
by_done served.DiskFailed is = absurd (cc is)
by_done served.OutOfMemory is = absurd (cc is)

-- nothing was served, since memory ran out: no disk failed, no acceptor, and not all was done
pub by_no_disk : (e : ServeEnd) → e ≡ served.OutOfMemory → e ≢ served.DiskFailed
by_no_disk e memory is = let clash : served.OutOfMemory ≡ served.DiskFailed = sym memory ∙ is in absurd (cc clash)

pub by_no_acceptor : (e : ServeEnd) → e ≡ served.OutOfMemory → e ≢ served.AcceptFailed
by_no_acceptor e memory is = let clash : served.OutOfMemory ≡ served.AcceptFailed = sym memory ∙ is in absurd (cc clash)

pub by_not_done : (e : ServeEnd) → e ≡ served.OutOfMemory → e ≢ served.Done
by_not_done e memory is = let clash : served.OutOfMemory ≡ served.Done = sym memory ∙ is in absurd (cc clash)

-- a server has a status of its own
pub not_damaged : (status : Status) → IsServerEnd status → status ≢ statuses.DamagedJournal
not_damaged status at_end is = absurd (cc is)
not_damaged status at_disk is = absurd (cc is)
not_damaged status at_memory is = absurd (cc is)
not_damaged status at_accept is = absurd (cc is)

pub server_no_other : (status : Status) → IsServerEnd status ⊎ (status ≡ statuses.DamagedJournal)
    → (status ≢ statuses.BadArguments) × (status ≢ statuses.ReadFailed) × (status ≢ statuses.WriteFailed)
server_no_other status (inl at_end) = (λ is. cc, λ is. cc, λ is. cc)
server_no_other status (inl at_disk) = (λ is. cc, λ is. cc, λ is. cc)
server_no_other status (inl at_memory) = (λ is. cc, λ is. cc, λ is. cc)
server_no_other status (inl at_accept) = (λ is. cc, λ is. cc, λ is. cc)
server_no_other status (inr damaged) = rw damaged (λ is. cc, λ is. cc, λ is. cc)

-- COMMANDS

pub is_server : (command : Command) (server : Server) → server_in command ≡ Some server → IsServer command
is_server (Pipe shards) server is = absurd (cc is)
is_server (Sim shards routers) server is = absurd (cc is)
is_server (Serve other) server is = tt

pub no_server : (command : Command) → server_in command ≡ None → ¬ IsServer command
no_server (Pipe shards) none is = is
no_server (Sim shards routers) none is = is
no_server (Serve server) none is = absurd (cc none)

pub shards_are : (command : Command) (server : Server) → server_in command ≡ Some server → shards_of command ≡ server.shards
shards_are (Pipe shards) server is = absurd (cc is)
shards_are (Sim shards routers) server is = absurd (cc is)
shards_are (Serve other) server is = let same : other ≡ server = cc is in ap (λ (s : Server). s.shards) same

pub others_are : (command : Command) (server : Server) → server_in command ≡ Some server → others_of command ≡ server.shards - 1
others_are command server is = ap (λ (shards : ℕ). shards - 1) (shards_are command server is)

pub routers_are : (command : Command) (server : Server) → server_in command ≡ Some server → routers_of command ≡ server.routers
routers_are (Pipe shards) server is = absurd (cc is)
routers_are (Sim shards routers) server is = absurd (cc is)
routers_are (Serve other) server is = let same : other ≡ server = cc is in ap (λ (s : Server). s.routers) same

pub sessions_are : (command : Command) (server : Server) → server_in command ≡ Some server → sessions_of command ≡ server.sessions
sessions_are (Pipe shards) server is = absurd (cc is)
sessions_are (Sim shards routers) server is = absurd (cc is)
sessions_are (Serve other) server is = let same : other ≡ server = cc is in ap (λ (s : Server). s.sessions) same

-- nodes that took no step are far from their last
pub zero_small : {N : Type 0} (steps : N → ℕ) (nodes : List N) → AllByRecursion (λ n. steps n ≡ 0) nodes → AllByRecursion (λ n. steps n < 2 ^ 56) nodes
zero_small steps [] are = tt
zero_small steps (n ∷ nodes) are = (omega (arith, are.0), zero_small steps nodes are.1)

-- what is said of the nodes is said of those of the seats
pub small_seats : {S N : Type 0} (steps : N → ℕ) (node : S → N) (seats : List S) (nodes : List N) → map node seats ≡ nodes
    → AllByRecursion (λ n. steps n < 2 ^ 56) nodes → AllByRecursion (λ s. steps (node s) < 2 ^ 56) seats
small_seats {S} {N} steps node seats nodes same small = each seats (subst (λ (ns : List N). AllByRecursion (λ n. steps n < 2 ^ 56) ns) (sym same) small)
  where
    each : (ss : List S) → AllByRecursion (λ n. steps n < 2 ^ 56) (map node ss) → AllByRecursion (λ s. steps (node s) < 2 ^ 56) ss
    each [] are = tt
    each (s ∷ ss) are = (are.0, each ss are.1)

-- the nodes of the seats are those that were seated
pub seat_nodes : {N D : Type 0} (nodes : List N) (journals : List (JournalView D)) → length nodes ≡ length journals
    → map {B = N} (λ s. s.node) (seats_of nodes journals) ≡ nodes
seat_nodes [] [] count = refl
seat_nodes [] (j ∷ journals) count = absurd (omega (arith, count))
seat_nodes (n ∷ nodes) [] count = absurd (omega (arith, count))
seat_nodes {N = N} (n ∷ nodes) (j ∷ journals) count = ap (λ (ns : List N). n ∷ ns) (seat_nodes nodes journals (omega (arith, count)))
