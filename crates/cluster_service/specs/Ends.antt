-- The world in which a call ends.
use Rattle.std.specs.Prelude.{ℕ, Bool, List}
use Rattle.outside.specs.Devices.{SourceCall, SinkCall}
use Rattle.node_model.specs.World.{World}
use Rattle.pipe_driver.specs.declared.status.Status.{Status}
use Rattle.cluster_service.specs.Headline.{HeadlineOf}
use Rattle.cluster_service.specs.declared.arguments.Command.{Command}
use Rattle.cluster_service.specs.declared.arguments.Command.TheVariants.{Pipe, Sim, Serve}

-- that of the run that a headline says there was, whose type has all other arguments
abbrev pub ends_in : (command : Command) (first : World) (source : SourceCall) (sink : SinkCall) (tells : Bool) (files : List (List ℕ))
    (leaves : World → Type 0) (owed : World → List ℕ → Type 0) (gives : ℕ → Type 0) (status : Status) (rest : ℕ)
    → HeadlineOf command first source sink tells files leaves owed gives status rest → World
ends_in (Pipe shards) first source sink tells files leaves owed gives status rest headline = headline.piped.end
ends_in (Sim shards routers) first source sink tells files leaves owed gives status rest headline = headline.simulated.end
ends_in (Serve server) first source sink tells files leaves owed gives status rest headline = absurd headline
