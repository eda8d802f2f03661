-- The plan for a message is a transition.
use Rattle.std.proofs.Common.{Global, ◌≡◌, refl, ap, sym, subst, ◌∙◌, ℕ, List, [], map, Bool, true, false, if◌then◌else◌}
use Rattle.std.specs.Prelude.{Option, Some, None, Result}
use Rattle.base_model.specs.Identities.{RequestId, same_request}
use Rattle.node_model.specs.Letters.{Letter, Input, letter_input, nothing, Effect}
use Rattle.node_model.specs.RouterRequests.{heard, id_of, reached}
use Rattle.node_model.specs.RouterNext.{knows, with_part, with_work}
use Rattle.node_model.specs.RouterRows.{open_of, router_late, IsLate, RouterRow}
use Rattle.node_model.specs.States.{Open, Router, open_with, replaced}
use Rattle.node_traits.specs.Effects.{AreReadable, puts_of, spellings}
use Rattle.node_traits.specs.declared.outputs.ToLink.{ToLink}
use Rattle.cluster_base.specs.declared.identity.NodeId.{NodeId}
use Rattle.pipeline_eval.specs.declared.rows.Rows.{Rows}
use Rattle.protocol_model.specs.Bodies.{rows_view}
use Rattle.protocol_model.specs.declared.reads.HalfFault.{HalfFault}
use Rattle.read_parts.specs.Parts.{target_view}
use Rattle.read_parts.specs.declared.parts.Target.{Target}
use Rattle.router_requests.specs.Fates.{stay_of}
use Rattle.router_requests.specs.Works.{numbers_of, told_by, wait_view}
use Rattle.router_requests.specs.declared.fates.Stay.{Stay}
use Rattle.router_requests.specs.declared.work.Wait.{Wait}
use Rattle.std.specs.declared.vec.Vec.{Vec}
use Rattle.router_node.specs.Rows.{TookRow}
use Rattle.router_node.specs.StepPlans.{Follows, FollowsBy, Hears, HearsKeeping, IsHeard, changed}
use Rattle.router_node.specs.declared.step_plan.Change.{Change}
use Rattle.router_node.specs.declared.step_plan.Change.TheVariants.{Stays, Reaches, Told, Gains, Goes}
use Rattle.router_node.specs.declared.step_plan.StepPlan.{StepPlan}

-- the change that was planned may follow
pub follows_so : (n : Router) (p : StepPlan) (begun : Bool) (change : Change) → p.begun ≡ begun → p.change ≡ change → FollowsBy n begun change → Follows n p
follows_so n p begun change life is follows =
    subst (λ (b : Bool). FollowsBy n b p.change) (sym life) (subst (λ (c : Change). FollowsBy n begun c) (sym is) follows)

module _ (r : Router) (m : Letter) (p : StepPlan) (time : ℕ) (late : time ≡ heard r m) where
  pub heard_by : (change : Change) (mail : List Letter) (replies : List ToLink) → Hears r time change mail replies p → FollowsBy r r.begun change
      → TookRow r (letter_input m) mail replies (changed r (heard r m) r.begun r.moment change) → IsHeard r m p
  heard_by change mail replies h follows took = record {
    effect = took.effect;
    row = subst (λ (q : Router). RouterRow r (letter_input m) took.effect q) (sym (h.new ∙ ap (λ (t : ℕ). changed r t r.begun r.moment change) late)) took.row;
    sent = took.sent ∙ sym h.sent;
    told = h.told ∙ took.told;
    readable = subst (λ w. AreReadable w) (sym took.written) tt;
    spelled = h.unkept ∙ ap spellings (sym took.written);
    follows = follows_so r p r.begun change h.begun h.is follows;
  }

  -- a plan that writes records
  pub heard_keeping : (change : Change) (replies : List ToLink) (effect : Effect) → HearsKeeping r time change replies effect.written p → FollowsBy r r.begun change
      → RouterRow r (letter_input m) effect (changed r (heard r m) r.begun r.moment change) → effect.mail ≡ [] → replies ≡ puts_of effect.replies → AreReadable effect.written → IsHeard r m p
  heard_keeping change replies effect h follows row none told readable = record {
    effect = effect;
    row = subst (λ (q : Router). RouterRow r (letter_input m) effect q) (sym (h.new ∙ ap (λ (t : ℕ). changed r t r.begun r.moment change) late)) row;
    sent = none ∙ sym h.sent;
    told = h.told ∙ told;
    readable = readable;
    spelled = h.spelled;
    follows = follows_so r p r.begun change h.begun h.is follows;
  }

  pub heard_late : Hears r time Stays [] [] p → IsLate r m.sender m.body → IsHeard r m p
  heard_late h is = heard_by Stays [] [] h (λ e. e) (record { effect = nothing; row = router_late r m is; written = refl; sent = refl; told = refl })

some_open : (b : Bool) (o : Option Open) (q : Open) → (if b then o else None) ≡ Some q → o ≡ Some q
some_open true o q e = e
some_open false o q e = absurd (cc e)

module _ (r : Router) (id : RequestId) (q : Open) (opened : open_of r id ≡ Some q) where
  pub found : open_with id.count r.requests ≡ Some q
  found = some_open (same_request id (id_of r id.count)) (open_with id.count r.requests) q opened

  -- it waits for this
  pub reaches_so : (i : Input) (ls : List Letter) (rs : List ToLink) (time : ℕ) (wait : Wait) (targets : Vec Target Global)
      → TookRow r i ls rs (knows r time r.tables (replaced (with_work q (wait_view wait) (map target_view targets.items) (reached time q.work)) r.requests))
      → TookRow r i ls rs (changed r time r.begun r.moment (Reaches id.count wait targets))
  reaches_so i ls rs time wait targets took =
      subst (λ (o : Option Open). TookRow r i ls rs (record {
        me = r.me;
        shards = r.shards;
        time = time;
        life = r.life;
        begun = r.begun;
        moment = r.moment;
        count = r.count;
        tables = r.tables;
        requests = elim o as (λ _. List Open) [ None ↦ r.requests | Some x ↦ replaced (with_work x (wait_view wait) (map target_view targets.items) (reached time x.work)) r.requests ];
        cursors = r.cursors;
        blocks = r.blocks;
        gave = r.gave;
      })) (sym found) took

  -- these shards returned their time
  pub told_so : (i : Input) (ls : List Letter) (rs : List ToLink) (time : ℕ) (told : Vec NodeId Global)
      → TookRow r i ls rs (knows r time r.tables (replaced (told_by q (numbers_of told.items)) r.requests))
      → TookRow r i ls rs (changed r time r.begun r.moment (Told id.count told))
  told_so i ls rs time told took =
      subst (λ (o : Option Open). TookRow r i ls rs (record {
        me = r.me;
        shards = r.shards;
        time = time;
        life = r.life;
        begun = r.begun;
        moment = r.moment;
        count = r.count;
        tables = r.tables;
        requests = elim o as (λ _. List Open) [ None ↦ r.requests | Some x ↦ replaced (told_by x (numbers_of told.items)) r.requests ];
        cursors = r.cursors;
        blocks = r.blocks;
        gave = r.gave;
      })) (sym found) took

  -- this shard returned its part
  pub gains_so : (i : Input) (ls : List Letter) (rs : List ToLink) (time : ℕ) (shard : NodeId) (rows : Result Rows HalfFault)
      → TookRow r i ls rs (knows r time r.tables (replaced (with_part q shard.0 (rows_view rows)) r.requests))
      → TookRow r i ls rs (changed r time r.begun r.moment (Gains id.count shard rows))
  gains_so i ls rs time shard rows took =
      subst (λ (o : Option Open). TookRow r i ls rs (record {
        me = r.me;
        shards = r.shards;
        time = time;
        life = r.life;
        begun = r.begun;
        moment = r.moment;
        count = r.count;
        tables = r.tables;
        requests = elim o as (λ _. List Open) [ None ↦ r.requests | Some x ↦ replaced (with_part x shard.0 (rows_view rows)) r.requests ];
        cursors = r.cursors;
        blocks = r.blocks;
        gave = r.gave;
      })) (sym found) took

  -- it stays open like this
  pub goes_so : (i : Input) (ls : List Letter) (rs : List ToLink) (time : ℕ) (stay : Stay) → TookRow r i ls rs (knows r time r.tables (replaced (stay_of q stay) r.requests))
      → TookRow r i ls rs (changed r time r.begun r.moment (Goes id.count stay))
  goes_so i ls rs time stay took =
      subst (λ (o : Option Open). TookRow r i ls rs (record {
        me = r.me;
        shards = r.shards;
        time = time;
        life = r.life;
        begun = r.begun;
        moment = r.moment;
        count = r.count;
        tables = r.tables;
        requests = elim o as (λ _. List Open) [ None ↦ r.requests | Some x ↦ replaced (stay_of x stay) r.requests ];
        cursors = r.cursors;
        blocks = r.blocks;
        gave = r.gave;
      })) (sym found) took
