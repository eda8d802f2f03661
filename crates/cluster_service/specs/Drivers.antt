-- What a driver of the nodes says, by the command.
use Rattle.std.specs.Prelude.{◌≡◌, ℕ, ◌+◌, List}
use Rattle.outside.specs.Devices.{SourceCall, SinkCall}
use Rattle.node_model.specs.World.{Held, World}
use Rattle.pipe_driver.specs.Endings.{IsPiped, most_taken}
use Rattle.pipe_driver.specs.declared.status.Status.{Status}
use Rattle.pipe_driver.specs.Progress.{all_replies}
use Rattle.sim_driver.specs.Simulations.{IsSimulated, all_printed}
use Rattle.cluster_service.specs.declared.arguments.Command.{Command}
use Rattle.cluster_service.specs.declared.arguments.Command.TheVariants.{Pipe, Sim, Serve}

-- From the first world on one connection was served, or a script was played, for which no rest is returned. A server is driven otherwise.
abbrev pub IsDriven : Command → World → SourceCall → SinkCall → (ℕ → Type 0) → (List Held → Type 0) → (World → Type 0) → (World → List ℕ → Type 0) → Status
    → (rest : ℕ) → Type 0
IsDriven (Pipe shards) first source sink gives kept leaves owed status rest =
    IsPiped source sink gives (1 + shards) kept leaves owed first most_taken status rest
IsDriven (Sim shards routers) first source sink gives kept leaves owed status rest =
    IsSimulated source sink (1 + shards) kept leaves owed first most_taken status × (rest ≡ 0)
IsDriven (Serve server) first source sink gives kept leaves owed status rest = ⊥

-- what is all output in a world, since the first one: the replies that were given, or what the lines of a script print
abbrev pub output_of : Command → (first w : World) → List ℕ → Type 0
output_of (Pipe shards) = all_replies
output_of (Sim shards routers) = all_printed (1 + shards)
output_of (Serve server) = λ first w bytes. ⊥
