-- A router that was changed as planned.
use Rattle.std.proofs.Common.{◌≡◌, refl, sym, subst, ℕ, List, [], Bool, Global, map}
use Rattle.std.specs.Prelude.{Option, Some, None, Result}
use Rattle.std.specs.declared.vec.Vec.{Vec}
use Rattle.reply_model.specs.Cursors.{Cursor}
use Rattle.node_model.specs.RouterRequests.{reached}
use Rattle.node_model.specs.RouterNext.{with_part, with_work}
use Rattle.node_model.specs.States.{Open, Router, open_with, replaced}
use Rattle.chunk_model.specs.Tables.{Table}
use Rattle.cluster_base.specs.declared.identity.NodeId.{NodeId}
use Rattle.pipeline_eval.specs.declared.rows.Rows.{Rows}
use Rattle.protocol_model.specs.Bodies.{rows_view}
use Rattle.protocol_model.specs.declared.reads.HalfFault.{HalfFault}
use Rattle.read_parts.specs.Parts.{target_view}
use Rattle.read_parts.specs.declared.parts.Target.{Target}
use Rattle.router_requests.specs.Fates.{stay_of}
use Rattle.router_requests.specs.Works.{numbers_of, told_by, wait_view}
use Rattle.router_requests.specs.declared.fates.Stay.{Stay}
use Rattle.router_requests.specs.declared.work.Wait.{Wait}
use Rattle.router_node.specs.StepPlans.{opens_then}
use Rattle.router_node.specs.declared.step_plan.Change.TheVariants.{Reaches, Told, Gains, Goes}

-- by its parts
pub becomes : (me shards time life : ℕ) (begun : Bool) (moment a b : ℕ) (s t : List Table) (p q : List Open) (x y : List Cursor) (j k g h : ℕ) → a ≡ b → s ≡ t → p ≡ q → x ≡ y → j ≡ k → g ≡ h
    → ◌≡◌ {A = Router} (record { me = me; shards = shards; time = time; life = life; begun = begun; moment = moment; count = a; tables = s; requests = p; cursors = x; blocks = j; gave = g })
    (record { me = me; shards = shards; time = time; life = life; begun = begun; moment = moment; count = b; tables = t; requests = q; cursors = y; blocks = k; gave = h })
becomes me shards time life begun moment a b s t p q x y j k g h count tables requests cursors blocks gave = rw (count, tables, requests, cursors, blocks, gave) refl

module _ (r : Router) (time count : ℕ) (q : Open) (found : open_with count r.requests ≡ Some q) where
  pub opens_reaches : (wait : Wait) (targets : Vec Target Global)
      → replaced (with_work q (wait_view wait) (map target_view targets.items) (reached time q.work)) r.requests ≡ opens_then r time (Reaches count wait targets)
  opens_reaches wait targets =
      subst (λ (o : Option Open). replaced (with_work q (wait_view wait) (map target_view targets.items) (reached time q.work)) r.requests
      ≡ elim o as (λ _. List Open) [ None ↦ r.requests | Some x ↦ replaced (with_work x (wait_view wait) (map target_view targets.items) (reached time x.work)) r.requests ]) (sym found) refl

  pub opens_told : (told : Vec NodeId Global) → replaced (told_by q (numbers_of told.items)) r.requests ≡ opens_then r time (Told count told)
  opens_told told =
      subst (λ (o : Option Open). replaced (told_by q (numbers_of told.items)) r.requests
      ≡ elim o as (λ _. List Open) [ None ↦ r.requests | Some x ↦ replaced (told_by x (numbers_of told.items)) r.requests ]) (sym found) refl

  pub opens_gains : (shard : NodeId) (rows : Result Rows HalfFault) → replaced (with_part q shard.0 (rows_view rows)) r.requests ≡ opens_then r time (Gains count shard rows)
  opens_gains shard rows =
      subst (λ (o : Option Open). replaced (with_part q shard.0 (rows_view rows)) r.requests
      ≡ elim o as (λ _. List Open) [ None ↦ r.requests | Some x ↦ replaced (with_part x shard.0 (rows_view rows)) r.requests ]) (sym found) refl

  pub opens_goes : (stay : Stay) → replaced (stay_of q stay) r.requests ≡ opens_then r time (Goes count stay)
  opens_goes stay =
      subst (λ (o : Option Open). replaced (stay_of q stay) r.requests ≡ elim o as (λ _. List Open) [ None ↦ r.requests | Some x ↦ replaced (stay_of x stay) r.requests ]) (sym found) refl
