-- The answer to a request that arrives, or the work that it needs.
use Rattle.base_model.specs.Identities as identities
use Rattle.node_model.specs.RouterRequests as requested
use Rattle.node_model.specs.RouterRequests.{at_once, needs, needs_batch, needs_end}
use Rattle.command_replies.specs.AnswerMeanings.{answer_view}
use Rattle.command_words.specs.Commands.{kill_view, more_view}
use Rattle.router_requests.specs.Works.{work_view}
use Rattle.router_replies.specs.declared.plans.RequestPlan.{RequestPlan}
use Rattle.router_replies.specs.declared.plans.RequestPlan.TheVariants.{AtOnce, Needs, NeedsBatch, NeedsEnd}

-- as the plan of the request with this id
abbrev pub plan_view : identities.RequestId → RequestPlan → requested.RequestPlan
plan_view id (AtOnce answer) = at_once (answer_view answer)
plan_view id (Needs namespace work) = needs namespace (work_view id work)
plan_view id (NeedsBatch more) = needs_batch (more_view more)
plan_view id (NeedsEnd kill) = needs_end (kill_view kill)
