-- That a plan is a step of the catalogue, and may be taken.
use Rattle.std.specs.Prelude.{◌≤◌, [], IfSome}
use Rattle.std.specs.Option.{option_map}
use Rattle.chunk_catalogue.specs.Catalogues.{IsNext, changes_of}
use Rattle.chunk_catalogue.specs.Views.{change_view}
use Rattle.chunk_model.specs.Changes.{time_of}
use Rattle.node_model.specs.Letters.{Input}
use Rattle.node_traits.specs.Effects.{StepPlanned}
use Rattle.config_node.specs.Plans.{at_then}
use Rattle.config_node.specs.State.{state_of}
use Rattle.config_node.specs.Told.{answers}
use Rattle.config_node.specs.declared.state.ConfigNode.{ConfigNode}
use Rattle.config_node.specs.declared.plan.StepPlan.{StepPlan}

-- the plan is a step: its answer and its records are those of the step
abbrev pub IsPlanned : ConfigNode → Input → StepPlan → Type 0
IsPlanned n i p =
    StepPlanned (state_of n) i (answers n.me.0 p.time.0 p.answer i) [] p.records.items
    (at_then n.me.0 p.time.0 (option_map (λ c. change_view c.fields) p.change) (changes_of n.catalogue))

-- it may be taken: no time falls, and its change may be the next and is not later
pub record IsReady (n : ConfigNode) (p : StepPlan) : Type 0 where
  pub later : n.time.0 ≤ p.time.0
  pub next : IfSome p.change (λ c. IsNext n.catalogue c)
  pub past : IfSome p.change (λ c. time_of (change_view c.fields) ≤ p.time.0)
