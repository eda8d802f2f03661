-- A transition before which the life begins, if it did not begin.
use Rattle.std.proofs.Common.{◌≡◌, refl, ap, sym, subst, ◌∙◌, ℕ, ℤ, ◌+◌, List, [], ◌∷◌, ◌++◌, Bool, true, false, map, append-nil, if◌then◌else◌}
use Rattle.std.specs.Prelude.{Result, Ok, Err, IfOk}
use Rattle.command_model.specs.Answers.{Answer, answer_document}
use Rattle.command_model.specs.Command.{command_of}
use Rattle.node_model.specs.Journal.{kept_life}
use Rattle.node_model.specs.Letters.{Letter, Input, Reply, client_input, letter_input, opened_input, Effect, nothing, writes}
use Rattle.opmsg_model.specs.Requests.{Request}
use Rattle.node_model.specs.RouterRequests.{plan_of, at_once, id_of}
use Rattle.node_model.specs.RouterNext.{Next, stays, is_told, letters_in, replies_in, stay_in, with_work}
use Rattle.node_model.specs.RouterRows.{RouterRow, router_begin, router_opened, router_plain, router_take, router_skip, TellsNothing, begins, takes, opened_request, taken_now}
use Rattle.node_model.specs.States.{Router, Work, Wait, Open, Target, Part, router_state}
use Rattle.node_model.specs.Steps.{Step, IsFor, BeginsBefore, router_step, begin_step, other_step}
use Rattle.reply_model.specs.Outcomes.{Try}
use Rattle.node_traits.specs.Effects.{AreReadable, puts_of, spellings}
use Rattle.node_traits.specs.declared.outputs.ToLink.{ToLink}
use Rattle.cluster_base.specs.declared.identity.NodeId.{NodeId}
use Rattle.read_parts.specs.Parts.{part_view, target_view}
use Rattle.read_parts.specs.declared.parts.Part.{Part as PartTold}
use Rattle.protocol_model.specs.declared.refused.Try.{Try as TryMade}
use Rattle.router_requests.specs.Order.{Held}
use Rattle.router_requests.specs.Works.{numbers_of, open_view, wait_view, work_view}
use Rattle.router_requests.specs.declared.work.OpenRequest.{OpenRequest}
use Rattle.protocol_model.specs.Heads.{head_request}
use Rattle.write_runs.specs.Runs.{tries_view}
use Rattle.router_node.specs.Begins.{Begins}
use Rattle.router_node.specs.Rows.{TookRow, started, life_kept}
use Rattle.router_node.proofs.Heard.{follows_so}
use Rattle.router_node.specs.StepPlans.{FollowsBy, Hears, IsHeard, IsPlanned, Starts, changed, count_then, router_then}
use Rattle.router_node.specs.declared.step_plan.Change.{Change}
use Rattle.router_node.specs.declared.step_plan.Change.TheVariants.{Stays, Counts, Opens, Closes, Reaches, Told, Gains, Goes, Learns, Shelves, Advances, Ends}
use Rattle.router_node.specs.declared.step_plan.StepPlan.{StepPlan}

-- the effect with the record of a life that begins
abbrev with_life : Router → Effect → Effect
with_life r f = record { written = life_kept r ++ f.written; mail = f.mail; taken = f.taken; replies = f.replies; away = f.away }

-- a router in its life
in_life : (r : Router) → r.begun ≡ true → started r ≡ r
in_life r is = ap (λ (b : Bool). record { me = r.me; shards = r.shards; time = r.time; life = r.life; begun = b; moment = r.moment; count = r.count; tables = r.tables; requests = r.requests; cursors = r.cursors; blocks = r.blocks; gave = r.gave }) (sym is)

-- one whose life begins
not_yet : (r : Router) → r.count ≡ 0 → started r ≡ begins r
not_yet r is = ap (λ (n : ℕ). record { me = r.me; shards = r.shards; time = r.time; life = r.life; begun = true; moment = r.moment; count = n; tables = r.tables; requests = r.requests; cursors = r.cursors; blocks = r.blocks; gave = r.gave }) is

started_step : (r q : Router) (i : Input) (f : Effect) → (r.begun ≡ false → r.count ≡ 0) → IsFor r.me i → BeginsBefore i → RouterRow (started r) i f q
    → Step (router_state r) i (with_life r f) (router_state q)
started_step r q i f quiet for before row = by_begun r.begun refl where
  by_begun : (begun : Bool) → r.begun ≡ begun
      → Step (router_state r) i (record { written = (if begun then [] else kept_life r.life ∷ []) ++ f.written; mail = f.mail; taken = f.taken; replies = f.replies; away = f.away }) (router_state q)
  by_begun true is = router_step r q i f for (subst (λ (s : Router). RouterRow s i f q) (in_life r is) row)
  by_begun false is = begin_step r q i f is before (subst (λ (s : Router). RouterRow s i f q) (not_yet r (quiet is)) row)

opened_step : (r : Router) → (r.begun ≡ false → r.count ≡ 0) → Step (router_state r) opened_input (writes (life_kept r) []) (router_state (started r))
opened_step r quiet = by_begun r.begun refl where
  by_begun : (begun : Bool) → r.begun ≡ begun → Step (router_state r) opened_input (writes (if begun then [] else kept_life r.life ∷ []) []) (router_state (started r))
  by_begun true is = subst (λ (s : Router). Step (router_state r) opened_input (writes [] []) (router_state s)) (sym (in_life r is)) (router_step r r opened_input nothing tt (router_opened r is))
  by_begun false is = subst (λ (s : Router). Step (router_state r) opened_input (writes (kept_life r.life ∷ []) []) (router_state s)) (sym (not_yet r (quiet is)))
      (router_step r (begins r) opened_input _ tt (router_begin r is))

module _ (r : Router) (p : StepPlan) where
  -- a transition on a request or a moment is a step
  pub starts_step : (quiet : r.begun ≡ false → r.count ≡ 0) (i : Input) (time moment : ℕ) (change : Change) (mail : List Letter) (replies : List ToLink) → IsFor r.me i → BeginsBefore i
      → Starts r time moment change mail replies p → FollowsBy r true change
      → TookRow (started r) i mail replies (changed r time true moment change) → IsPlanned r i p
  starts_step quiet i time moment change mail replies for before s follows took = record {
    step = record {
      effect = with_life r took.effect;
      step = started_step r (router_then r p) i took.effect quiet for before (subst (λ (q : Router). RouterRow (started r) i took.effect q) (sym s.new) took.row);
      sent = took.sent ∙ sym s.sent;
      told = s.told ∙ took.told;
      readable = subst (λ w. AreReadable (life_kept r ++ w)) (sym took.written) (subst (λ w. AreReadable w) (sym (append-nil (life_kept r))) s.readable);
      spelled = s.kept ∙ ap spellings (sym (append-nil (life_kept r)) ∙ ap (λ w. life_kept r ++ w) (sym took.written));
    };
    follows = follows_so r p true change s.begun s.is follows;
  }

  -- the router was opened
  pub opened_is : (r.begun ≡ false → r.count ≡ 0) → Starts r r.time r.moment Stays [] [] p → IsPlanned r opened_input p
  opened_is quiet s = record {
    step = record {
      effect = writes (life_kept r) [];
      step = subst (λ (q : Router). Step (router_state r) opened_input (writes (life_kept r) []) (router_state q)) (sym s.new) (opened_step r quiet);
      sent = sym s.sent;
      told = s.told;
      readable = s.readable;
      spelled = s.kept;
    };
    follows = follows_so r p true Stays s.begun s.is (λ e. absurd (cc e));
  }

  -- a transition on a message is a step
  pub heard_step : (m : Letter) → m.receiver ≡ r.me → IsHeard r m p → IsPlanned r (letter_input m) p
  heard_step m here h = record {
    step = record {
      effect = h.effect;
      step = router_step r (router_then r p) (letter_input m) h.effect here h.row;
      sent = h.sent;
      told = h.told;
      readable = h.readable;
      spelled = h.spelled;
    };
    follows = h.follows;
  }

  -- a message to another node
  pub other_is : (m : Letter) → (m.receiver ≡ r.me → ⊥) → Hears r r.time Stays [] [] p → IsPlanned r (letter_input m) p
  other_is m other h = record {
    step = record {
      effect = nothing;
      step = subst (λ (q : Router). Step (router_state r) (letter_input m) nothing (router_state q)) (sym h.new) (other_step (router_state r) m other);
      sent = sym h.sent;
      told = h.told;
      readable = tt;
      spelled = h.unkept;
    };
    follows = follows_so r p r.begun Stays h.begun h.is (λ e. e);
  }

  -- a message of another kind
  pub skipped : (m : Letter) → TellsNothing m.body → Hears r r.time Stays [] [] p → IsHeard r m p
  skipped m none h = record {
    effect = nothing;
    row = subst (λ (q : Router). RouterRow r (letter_input m) nothing q) (sym h.new) (router_skip r m none);
    sent = sym h.sent;
    told = h.told;
    readable = tt;
    spelled = h.unkept;
    follows = follows_so r p r.begun Stays h.begun h.is (λ e. e);
  }

module _ (r : Router) (link : ℕ) (number : ℤ) (request : Request) (answer : Answer) where
  abbrev answered : Effect
  answered = record {
    written = [];
    mail = [];
    taken = taken_now (started r) link number request ∷ [];
    replies = record { id = id_of r (r.count + 1); link = link; number = number; request = request; time = r.time; document = answer_document answer } ∷ [];
    away = [];
  }

  -- answered at once
  pub took_plain : (replies : List ToLink) → plan_of (started r) (id_of r (r.count + 1)) request.more (command_of request) ≡ at_once answer
      → replies ≡ puts_of (record { id = id_of r (r.count + 1); link = link; number = number; request = request; time = r.time; document = answer_document answer } ∷ [])
      → TookRow (started r) (client_input link number request) [] replies (changed r r.time true r.moment Counts)
  took_plain replies plan told = record {
    effect = answered;
    row = subst (λ (l : List Open). RouterRow (started r) (client_input link number request) answered
        (record { me = r.me; shards = r.shards; time = r.time; life = r.life; begun = true; moment = r.moment; count = r.count + 1; tables = r.tables; requests = l; cursors = r.cursors; blocks = r.blocks; gave = r.gave }))
        (append-nil r.requests) (router_plain (started r) link number request answer refl plan);
    written = refl;
    sent = refl;
    told = told;
  }

-- by its parts
same_open : (q : Open) (work : Work) (wait : Wait) (targets : List Target) (a b : ℕ) (tries : List Try) (told : List ℕ) (parts : List Part) → a ≡ q.count → b ≡ q.arrived → tries ≡ q.tries → told ≡ q.told → parts ≡ []
    → ◌≡◌ {A = Open} (record { count = a; link = q.link; number = q.number; request = q.request; arrived = b; tries = tries; namespace = q.namespace; wait = wait; told = told; targets = targets; parts = parts; work = work })
    (with_work q wait targets work)
same_open q work wait targets a b tries told parts count now untried shards none = rw (count, now, untried, shards, none) refl

-- a request whose work begins
module _ (r : Router) (link : ℕ) (number : ℤ) (request : Request) (namespace : List ℕ) (needed : Work) (next : Next) (begun : Begins r link number request namespace needed next) where
  abbrev effect : Next → Effect
  effect n = record { written = []; mail = letters_in n; taken = taken_now (started r) link number request ∷ []; replies = replies_in n; away = [] }

  abbrev Takes : Next → Type 0
  Takes n = RouterRow (started r) (client_input link number request) (effect n) (takes (started r) (stay_in n))

  took : Takes next
  took = subst (λ (n : Next). Takes n) begun.begins (router_take (started r) link number request namespace needed refl begun.plan)

  -- it is kept open
  pub took_open : (o : Held) (letters : List Letter) → next ≡ stays (open_view r.me r.life o.value) letters
      → TookRow (started r) (client_input link number request) letters [] (changed r r.time true r.moment (Opens o))
  took_open o letters is = record {
    effect = effect (stays (open_view r.me r.life o.value) letters);
    row = subst (λ (n : Next). Takes n) is took;
    written = refl;
    sent = refl;
    told = refl;
  }

  -- it is answered
  pub took_done : (reply : Reply) (replies : List ToLink) → next ≡ is_told reply → replies ≡ puts_of (reply ∷ [])
      → TookRow (started r) (client_input link number request) [] replies (changed r r.time true r.moment Counts)
  took_done reply replies is told = record {
    effect = effect (is_told reply);
    row = subst (λ (l : List Open). RouterRow (started r) (client_input link number request) (effect (is_told reply))
        (record { me = r.me; shards = r.shards; time = r.time; life = r.life; begun = true; moment = r.moment; count = r.count + 1; tables = r.tables; requests = l; cursors = r.cursors; blocks = r.blocks; gave = r.gave }))
        (append-nil r.requests) (subst (λ (n : Next). Takes n) is took);
    written = refl;
    sent = refl;
    told = told;
  }

-- an open request that was sent, of a request that just came
pub opens_so : (r : Router) (o : OpenRequest) (needed : Work) → o.count ≡ r.count + 1 → o.arrived ≡ r.moment → o.tries.items ≡ [] → o.told.items ≡ [] → o.parts.items ≡ []
    → with_work (opened_request (started r) o.link o.number (head_request o.head) o.namespace needed) (wait_view o.wait) (map target_view o.targets.items) (work_view (id_of r o.count) o.work)
    ≡ open_view r.me r.life o
opens_so r o needed next now untried untold none =
    let q = opened_request (started r) o.link o.number (head_request o.head) o.namespace needed in
    sym (same_open q (work_view (id_of r o.count) o.work) (wait_view o.wait) (map target_view o.targets.items) o.count o.arrived (tries_view o.tries.items) (numbers_of o.told.items) (map part_view o.parts.items)
    next now (ap (λ (l : List TryMade). tries_view l) untried) (ap (λ (l : List NodeId). numbers_of l) untold) (ap (λ (l : List PartTold). map part_view l) none))

-- OVER RESULTS

module _ {E : Type 0} (r : Router) (x : Result StepPlan E) where
  pub ok_same : (i j : Input) → j ≡ i → IfOk x (λ p. IsPlanned r i p) → IfOk x (λ p. IsPlanned r j p)
  ok_same i j is planned = subst (λ (k : Input). IfOk x (λ p. IsPlanned r k p)) (sym is) planned

  pub ok_heard : (m : Letter) → m.receiver ≡ r.me → IfOk x (λ p. IsHeard r m p) → IfOk x (λ p. IsPlanned r (letter_input m) p)
  ok_heard m here heard = by_result x heard where
    by_result : (y : Result StepPlan E) → IfOk y (λ p. IsHeard r m p) → IfOk y (λ p. IsPlanned r (letter_input m) p)
    by_result (Ok p) h = heard_step r p m here h
    by_result (Err e) h = tt

  pub ok_opened : (mail : List Letter) → (r.begun ≡ false → r.count ≡ 0) → mail ≡ [] → IfOk x (λ p. Starts r r.time r.moment Stays mail [] p) → IfOk x (λ p. IsPlanned r opened_input p)
  ok_opened mail quiet none starts = by_result x (subst (λ (ls : List Letter). IfOk x (λ p. Starts r r.time r.moment Stays ls [] p)) none starts) where
    by_result : (y : Result StepPlan E) → IfOk y (λ p. Starts r r.time r.moment Stays [] [] p) → IfOk y (λ p. IsPlanned r opened_input p)
    by_result (Ok p) h = opened_is r p quiet h
    by_result (Err e) h = tt

  pub ok_starts : (quiet : r.begun ≡ false → r.count ≡ 0) (i : Input) (time moment : ℕ) (change : Change) (mail : List Letter) (replies : List ToLink) → IsFor r.me i → BeginsBefore i
      → FollowsBy r true change → TookRow (started r) i mail replies (changed r time true moment change)
      → IfOk x (λ p. Starts r time moment change mail replies p) → IfOk x (λ p. IsPlanned r i p)
  ok_starts quiet i time moment change mail replies for before follows took starts = by_result x starts where
    by_result : (y : Result StepPlan E) → IfOk y (λ p. Starts r time moment change mail replies p) → IfOk y (λ p. IsPlanned r i p)
    by_result (Ok p) h = starts_step r p quiet i time moment change mail replies for before h follows took
    by_result (Err e) h = tt

-- that no request was taken where no life began holds afterwards too
pub quiet_then : (r : Router) (begun : Bool) (change : Change) → (r.begun ≡ false → r.count ≡ 0) → FollowsBy r begun change → begun ≡ false → count_then change r.count ≡ 0
quiet_then r begun Stays quiet follows not_begun = quiet (follows not_begun)
quiet_then r begun Counts quiet follows not_begun = absurd (cc (sym follows.0 ∙ not_begun))
quiet_then r begun (Opens q) quiet follows not_begun = absurd (cc (sym follows.0 ∙ not_begun))
quiet_then r begun (Closes count) quiet follows not_begun = quiet (follows not_begun)
quiet_then r begun (Reaches count wait targets) quiet follows not_begun = quiet (follows.0 not_begun)
quiet_then r begun (Told count told) quiet follows not_begun = quiet (follows.0 not_begun)
quiet_then r begun (Gains count shard rows) quiet follows not_begun = quiet (follows.0 not_begun)
quiet_then r begun (Goes count stay) quiet follows not_begun = quiet (follows.0 not_begun)
quiet_then r begun (Learns table fates) quiet follows not_begun = quiet (follows not_begun)
quiet_then r begun (Shelves count opened) quiet follows not_begun = quiet (follows.0 not_begun)
quiet_then r begun (Advances number shown) quiet follows not_begun = absurd (cc (sym follows.0 ∙ not_begun))
quiet_then r begun (Ends numbers) quiet follows not_begun = absurd (cc (sym follows.0 ∙ not_begun))
