-- What becomes of open requests.
use Rattle.std.specs.Prelude.{List, [], ◌∷◌, ◌++◌, map, Option}
use Rattle.node_model.specs.RouterNext.{with_work}
use Rattle.node_model.specs.States as states
use Rattle.node_model.specs.States.{Course, Open, Work, reading, sharding, splitting, writing}
use Rattle.read_parts.specs.Parts.{target_view}
use Rattle.reply_model.specs.Outcomes.{StatementOutcome, Try}
use Rattle.router_requests.specs.Works.{wait_view}
use Rattle.router_requests.specs.declared.fates.Fate.{Fate}
use Rattle.router_requests.specs.declared.fates.Fate.TheVariants.{Leaves}
use Rattle.router_requests.specs.declared.fates.Fate.TheVariants as fates
use Rattle.router_requests.specs.declared.fates.Stay.{Stay}
use Rattle.router_requests.specs.declared.fates.Stay.TheVariants.{Same, Reads, ReadsAgain, Writes, Answers, Tries}
use Rattle.write_runs.specs.Runs.{answers_view, course_of, runs_view, tries_view}

-- OF ONE

-- a write that has come this far
abbrev pub course_in : Work → Course → Work
course_in (writing kind ordered statements c) d = writing kind ordered statements d
course_in (reading named at stages telling) d = reading named at stages telling
course_in sharding d = sharding
course_in (splitting middle) d = splitting middle

-- a write that has these answers, of which these runs are under way
abbrev pub answers_in : Work → List (Option StatementOutcome) → List states.Run → Work
answers_in (writing kind ordered statements c) answers runs = writing kind ordered statements (record { answers = answers; tries = c.tries; runs = runs })
answers_in (reading named at stages telling) answers runs = reading named at stages telling
answers_in sharding answers runs = sharding
answers_in (splitting middle) answers runs = splitting middle

-- a write of which these runs are under way
abbrev pub runs_in : Work → List states.Run → Work
runs_in (writing kind ordered statements c) runs = writing kind ordered statements (record { answers = c.answers; tries = c.tries; runs = runs })
runs_in (reading named at stages telling) runs = reading named at stages telling
runs_in sharding runs = sharding
runs_in (splitting middle) runs = splitting middle

-- a read that has had these tries
abbrev pub tried_by : Open → List Try → Open
tried_by q tries =
    record { count = q.count; link = q.link; number = q.number; request = q.request; arrived = q.arrived; tries = tries; namespace = q.namespace; wait = q.wait; told = q.told; targets = q.targets; parts = q.parts; work = q.work }

-- the open request that stays open like this
abbrev pub stay_of : Open → Stay → Open
stay_of q Same = q
stay_of q (Reads wait targets) = with_work q (wait_view wait) (map target_view targets.items) q.work
stay_of q (ReadsAgain tries wait targets) = with_work (tried_by q (tries_view tries.items)) (wait_view wait) (map target_view targets.items) q.work
stay_of q (Writes wait runs) = with_work q (wait_view wait) [] (runs_in q.work (runs_view runs.items))
stay_of q (Answers wait answers runs) = with_work q (wait_view wait) [] (answers_in q.work (answers_view answers.items) (runs_view runs.items))
stay_of q (Tries wait course) = with_work q (wait_view wait) [] (course_in q.work (course_of course))

-- OF ALL

-- it stays open, or is answered
abbrev pub fate_of : Open → Fate → List Open
fate_of q (fates.Stays stay) = stay_of q stay ∷ []
fate_of q Leaves = []

-- the open requests after these fates, in their order; those for which there is none stay as they are
abbrev pub fated : List Open → List Fate → List Open
fated [] fates = []
fated (q ∷ requests) [] = q ∷ requests
fated (q ∷ requests) (f ∷ fates) = fate_of q f ++ fated requests fates
