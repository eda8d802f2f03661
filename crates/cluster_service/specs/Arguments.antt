-- The arguments of the command line: a command, `pipe`, `sim` or `serve`, and its options (own).
use Rattle.std.specs.Prelude.{ℕ, ◌+◌, ◌-◌, List, [], ◌∷◌, Option, Some, None, codes, if◌then◌else◌}
use Rattle.std.specs.Option.{option_map, unwrap_or}
use Rattle.std.specs.Str.{bytes_eq}
use Rattle.cluster_service.specs.Options.{nothing_given, options_in}
use Rattle.cluster_service.specs.declared.arguments.Command.{Command}
use Rattle.cluster_service.specs.declared.arguments.Command.TheVariants.{Pipe, Sim, Serve}
use Rattle.cluster_service.specs.declared.arguments.Server.{Server}
use Rattle.cluster_service.specs.declared.options.Given.{Given}
use Rattle.cluster_service.specs.declared.options.Name.{Name}

-- `pipe` has the option `--shards`
abbrev pub pipe_by : (port routers sessions : Option ℕ) → (waiting : Option Name) → (shards : ℕ) → Option Command
pipe_by None None None None shards = Some (Pipe shards)
pipe_by port routers sessions waiting shards = None

-- `sim` has `--shards` and `--routers`
abbrev pub sim_by : (port sessions : Option ℕ) → (waiting : Option Name) → (shards routers : ℕ) → Option Command
sim_by None None None shards routers = Some (Sim shards routers)
sim_by port sessions waiting shards routers = None

-- `serve` has these too, and needs `--port` and `--sessions`
abbrev pub serve_by : (port sessions : Option ℕ) → (waiting : Option Name) → (shards routers : ℕ) → Option Command
serve_by (Some port) (Some sessions) None shards routers =
    Some (Serve (record { port = port; shards = shards; routers = routers; sessions = sessions }))
serve_by port sessions waiting shards routers = None

-- the command that a word names, with these options: one shard for `pipe` and else two, and one router, where no number is given
abbrev pub named_by : (word : List ℕ) → Given → Option Command
named_by word g =
    if bytes_eq word (codes "pipe") then pipe_by g.port g.routers g.sessions g.waiting (unwrap_or g.shards 1)
    else if bytes_eq word (codes "sim") then sim_by g.port g.sessions g.waiting (unwrap_or g.shards 2) (unwrap_or g.routers 1)
    else if bytes_eq word (codes "serve") then serve_by g.port g.sessions g.waiting (unwrap_or g.shards 2) (unwrap_or g.routers 1)
    else None

-- the same where options may have been refused
abbrev pub named_with : (word : List ℕ) → Option Given → Option Command
named_with word None = None
named_with word (Some g) = named_by word g

-- The command that the arguments are, or none where they are refused.
abbrev pub command_of : List (List ℕ) → Option Command
command_of [] = None
command_of (word ∷ words) = named_with word (options_in (Some nothing_given) words)

-- how many shards a command has
abbrev pub shards_of : Command → ℕ
shards_of (Pipe shards) = shards
shards_of (Sim shards routers) = shards
shards_of (Serve server) = server.shards

-- those beside the first
abbrev pub others_of : Command → ℕ
others_of command = shards_of command - 1

-- how many routers it has
abbrev pub routers_of : Command → ℕ
routers_of (Pipe shards) = 1
routers_of (Sim shards routers) = routers
routers_of (Serve server) = server.routers

-- the number of the first: the catalogue and the shards come before it
abbrev pub first_router_of : Command → ℕ
first_router_of command = 1 + shards_of command

abbrev pub server_in : Command → Option Server
server_in (Serve server) = Some server
server_in command = None

-- connections to a port are served
abbrev pub IsServer : Command → Type 0
IsServer (Pipe shards) = ⊥
IsServer (Sim shards routers) = ⊥
IsServer (Serve server) = Unit {0}

-- how many connections a command serves on a port
abbrev pub sessions_of : Command → ℕ
sessions_of (Pipe shards) = 0
sessions_of (Sim shards routers) = 0
sessions_of (Serve server) = server.sessions

-- how many nodes a command starts: the catalogue, its shards and its routers
abbrev pub nodes_of : Command → ℕ
nodes_of command = 1 + shards_of command + routers_of command

-- How many nodes the arguments start, or none where they are refused.
abbrev pub node_count_of : List (List ℕ) → Option ℕ
node_count_of words = option_map nodes_of (command_of words)
