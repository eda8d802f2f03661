-- What open requests of the program are, by the definitions.
use Rattle.std.specs.Prelude.{ℕ, List, map}
use Rattle.pipeline_model.specs.Stages.{Stage}
use Rattle.base_model.specs.Identities as identities
use Rattle.cluster_base.specs.declared.identity.NodeId.{NodeId}
use Rattle.node_model.specs.Letters as letters
use Rattle.node_model.specs.States as states
use Rattle.node_model.specs.States.{in_batches, as_number, writing, reading, sharding, splitting, for_time, for_catalogue, for_shards}
use Rattle.command_replies.specs.Kinds.{given_view, kind_view}
use Rattle.protocol_model.specs.Heads.{head_request}
use Rattle.protocol_model.specs.Statements.{statement_view}
use Rattle.read_parts.specs.Parts.{part_view, target_view}
use Rattle.write_runs.specs.Runs.{course_view, tries_view}
use Rattle.router_requests.specs.declared.read.Parts.{Parts}
use Rattle.router_requests.specs.declared.read.OpenRead.{OpenRead}
use Rattle.router_requests.specs.declared.read.Telling.{Telling}
use Rattle.router_requests.specs.declared.read.Telling.TheVariants.{Batches, Number}
use Rattle.router_requests.specs.declared.write.OpenWrite.{OpenWrite}
use Rattle.router_requests.specs.declared.work.Work.{Work}
use Rattle.router_requests.specs.declared.work.Work.TheVariants.{Writing, Reading, Sharding, Splitting}
use Rattle.router_requests.specs.declared.work.Wait.{Wait}
use Rattle.router_requests.specs.declared.work.Wait.TheVariants.{ForTime, ForCatalogue, ForShards}
use Rattle.router_requests.specs.declared.work.OpenRequest.{OpenRequest}

-- the pipeline that has these parts
abbrev pub stages_of : Parts → List Stage
stages_of parts = parts.pipeline

abbrev pub telling_view : Telling → states.Telling
telling_view (Batches size single) = in_batches size single
telling_view Number = as_number

-- a read, of this time
abbrev pub read_at : OpenRead → (at : ℕ) → states.Work
read_at read at = reading read.named at (stages_of read.parts) (telling_view read.telling)

abbrev pub read_view : OpenRead → states.Work
read_view read = read_at read read.at.0

-- the statements of the write with this id
abbrev pub statements_of : identities.RequestId → OpenWrite → List letters.Statement
statements_of id write = map (λ s. statement_view (given_view write.number) id s) write.statements.items

-- a write that has come this far
abbrev pub work_of : identities.RequestId → OpenWrite → states.Course → states.Work
work_of id write c = writing (kind_view write.kind) write.ordered (statements_of id write) c

abbrev pub write_course : OpenWrite → states.Course
write_course write = course_view write.answers.items write.tries.items write.runs.items

abbrev pub write_view : identities.RequestId → OpenWrite → states.Work
write_view id write = work_of id write (write_course write)

-- the work of the request with this id
abbrev pub work_view : identities.RequestId → Work → states.Work
work_view id (Writing write) = write_view id write
work_view id (Reading read) = read_view read
work_view id Sharding = sharding
work_view id (Splitting middle) = splitting middle

abbrev pub wait_view : Wait → states.Wait
wait_view ForTime = for_time
wait_view ForCatalogue = for_catalogue
wait_view ForShards = for_shards

-- the numbers of nodes
abbrev pub numbers_of : List NodeId → List ℕ
numbers_of nodes = map (λ n. n.0) nodes

-- an open request of this router, in this of its lives
abbrev pub open_view : (router life : ℕ) → OpenRequest → states.Open
open_view router life q = record {
  count = q.count;
  link = q.link;
  number = q.number;
  request = head_request q.head;
  arrived = q.arrived;
  tries = tries_view q.tries.items;
  namespace = q.namespace;
  wait = wait_view q.wait;
  told = numbers_of q.told.items;
  targets = map target_view q.targets.items;
  parts = map part_view q.parts.items;
  work = work_view (record { router = router; life = life; count = q.count }) q.work;
}

-- the open request, to which these shards returned their time
abbrev pub told_by : states.Open → (told : List ℕ) → states.Open
told_by q told =
    record { count = q.count; link = q.link; number = q.number; request = q.request; arrived = q.arrived; tries = q.tries; namespace = q.namespace; wait = q.wait; told = told; targets = q.targets; parts = q.parts; work = q.work }
