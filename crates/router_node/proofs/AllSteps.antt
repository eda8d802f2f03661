-- The transitions by which something becomes of all open requests: a table arrives, the request for one is refused, and a moment.
use Rattle.std.proofs.Common.{◌≡◌, refl, sym, subst, ℕ, List, Bool, true, map}
use Rattle.std.specs.Prelude.{max, None}
use Rattle.std.specs.Arc.{arc_value}
use Rattle.std.specs.List.{flat_map}
use Rattle.std.specs.Option.{option_map}
use Rattle.base_model.specs.Times.{time_of_moment}
use Rattle.node_model.specs.Letters.{At, Letter, Input, is_lack, letter_input, moment_input, of_table, refused}
use Rattle.node_model.specs.RouterRequests.{heard}
use Rattle.node_model.specs.RouterNext.{Next, at_moment, knows, stay_in, table_refused}
use Rattle.node_model.specs.RouterRows.{RouterRow, go_on, router_learn, router_moment, router_no_table}
use Rattle.node_model.specs.States.{Open, Router}
use Rattle.protocol_model.specs.Bodies.{table_told_view}
use Rattle.protocol_model.specs.Messages.{letter_of}
use Rattle.protocol_model.specs.Tables.{at_view}
use Rattle.protocol_model.specs.declared.tables.TableTold.{TableTold}
use Rattle.reply_model.specs.Accounts.{Lack}
use Rattle.reply_model.specs.Outcomes.{lack_refusal}
use Rattle.router_requests.specs.Fates.{fated}
use Rattle.router_node.specs.AllNext.{AreNext}
use Rattle.router_node.specs.Nexts.{next_at, tables_told}
use Rattle.router_node.specs.Rows.{TookRow, started}
use Rattle.router_node.specs.StepPlans.{changed}
use Rattle.router_node.specs.declared.all_next.AllNext.{AllNext}
use Rattle.router_node.specs.declared.step_plan.Change.TheVariants.{Learns}

-- by a transition that results in this router with these open requests
took_all : (r : Router) (i : Input) (next : Open → Next) (all : AllNext) (requests : List Open) (new : List Open → Router) → requests ≡ r.requests → AreNext next requests all
    → RouterRow r i (go_on next r.requests) (new (flat_map (λ q. stay_in (next q)) r.requests))
    → TookRow r i (map (λ m. letter_of m) all.mail) all.replies (new (fated r.requests all.fates.items))
took_all r i next all requests new same are row =
    let here : AreNext next r.requests all = subst (λ (qs : List Open). AreNext next qs all) same are in record {
      effect = go_on next r.requests;
      row = subst (λ (qs : List Open). RouterRow r i (go_on next r.requests) (new qs)) (sym here.fates) row;
      written = refl;
      sent = sym here.mail;
      told = here.replies;
    }

module _ (r : Router) (all : AllNext) (requests : List Open) (same : requests ≡ r.requests) where
  pub took_learn : (m : Letter) (told : TableTold) (time : ℕ) → m.body ≡ table_told_view told → time ≡ heard r m → AreNext (λ q. next_at r time told q) requests all
      → TookRow r (letter_input m) (map (λ m. letter_of m) all.mail) all.replies (changed r (heard r m) r.begun r.moment (Learns told.table all.fates))
  took_learn m told time is late are =
      took_all r (letter_input m) (λ q. next_at r (heard r m) told q) all requests (λ qs. knows r (heard r m) (tables_told told r.tables) qs) same
      (subst (λ (t : ℕ). AreNext (λ q. next_at r t told q) requests all) late are)
      (router_learn r m told.namespace told.create (at_view told.at) (option_map (λ t. arc_value t) told.table) is)

  pub took_no_table : (m : Letter) (namespace : List ℕ) (create : Bool) (at : At) (node : ℕ) (lack : Lack) (time : ℕ) → m.body ≡ refused (of_table namespace create at) (is_lack node lack)
      → time ≡ heard r m → AreNext (λ q. table_refused r time namespace create at (lack_refusal node lack) q) requests all
      → TookRow r (letter_input m) (map (λ m. letter_of m) all.mail) all.replies (changed r (heard r m) r.begun r.moment (Learns None all.fates))
  took_no_table m namespace create at node lack time is late are =
      took_all r (letter_input m) (λ q. table_refused r (heard r m) namespace create at (lack_refusal node lack) q) all requests (λ qs. knows r (heard r m) r.tables qs) same
      (subst (λ (t : ℕ). AreNext (λ q. table_refused r t namespace create at (lack_refusal node lack) q) requests all) late are)
      (router_no_table r m namespace create at node lack is)

  pub took_moment : (moment time : ℕ) → time ≡ max r.time (time_of_moment moment) → AreNext (λ q. at_moment (started r) time moment q) requests all
      → TookRow (started r) (moment_input moment) (map (λ m. letter_of m) all.mail) all.replies (changed r time true moment (Learns None all.fates))
  took_moment moment time is are =
      subst (λ (t : ℕ). TookRow (started r) (moment_input moment) (map (λ m. letter_of m) all.mail) all.replies (changed r t true moment (Learns None all.fates))) (sym is)
      (took_all (started r) (moment_input moment) (λ q. at_moment (started r) (max r.time (time_of_moment moment)) moment q) all requests (λ qs. record {
        me = r.me;
        shards = r.shards;
        time = max r.time (time_of_moment moment);
        life = r.life;
        begun = true;
        moment = moment;
        count = r.count;
        tables = r.tables;
        requests = qs;
        cursors = r.cursors;
        blocks = r.blocks;
        gave = r.gave;
      }) same (subst (λ (t : ℕ). AreNext (λ q. at_moment (started r) t moment q) requests all) is are)
      (router_moment (started r) moment refl))
