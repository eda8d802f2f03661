-- What a router requests is for what the request waits for.
use Rattle.std.proofs.Common.{◌≡◌, ◌≢◌, ℕ, zero, suc, List, [], ◌∷◌, map, refl, sym, ap, subst, ◌∙◌, Bool}
use Rattle.std.specs.Prelude.{Option, Some, None, is_some, true, false, ◌&&◌, if◌then◌else◌}
use Rattle.std.specs.List.{AllByRecursion}
use Rattle.pipeline_model.specs.Stages.{Stage}
use Rattle.pipeline_model.specs.Split.{split}
use Rattle.bson_model.specs.Tree.{null_value}
use Rattle.chunk_model.specs.Tables.{Table, first_shard, owner_at}
use Rattle.chunk_model.specs.Verdicts.{sent_by}
use Rattle.base_model.specs.Identities.{RequestId}
use Rattle.reply_model.specs.Outcomes.{StatementOutcome, Try}
use Rattle.node_model.specs.Letters.{Statement, write_ask, read_ask, time_ask, Letter}
use Rattle.node_model.specs.States.{Target, Run, Course, Router, Work, writing, reading, sharding, splitting}
use Rattle.node_model.specs.RouterRequests.{id_of, places_from, shards_of, untold, reaches, turn_after, says, indices_of, turn_of, unanswered, in_run, asks_to_write, targets_at, asks_to_read, asks_catalogue, is_owned_at, table_to_read, asks_times}
use Rattle.node_model.specs.RouterNext.{awaited}
use Rattle.history_model.proofs.Lists.{all_from}
use Rattle.node_laws.proofs.SpanOwners.{listed_owner}
use Rattle.node_progress.specs.UnderWay.{Thing, a_time, a_run, a_part, first_index, thing_there, things_sent, Brings, IsFor}
use Rattle.node_progress.proofs.Members.{in_map, in_mapped}
use Rattle.node_progress.proofs.Versions.{IsFirst}
use Rattle.node_progress.proofs.OneRun.{HasNext, in_one}
use Rattle.node_progress.proofs.CataloguePasses.{IsAmong, only_among}

-- there is something that is waited for, and each of these things is requested
pub record AreSent (mail : List Letter) (things : List Thing) : Type 0 where
  pub some : things ≢ []
  pub each : AllByRecursion (IsAmong mail) things

one_sent : (m : Letter) (t : Thing) → IsFor t m → AreSent (m ∷ []) (t ∷ [])
one_sent m t is = record { some = λ e. cc e; each = (only_among m t is, tt) }

-- TIMES

-- each of these shards is sent a request of its time
times_among : (r : Router) (time : ℕ) (id : RequestId) (shards : List ℕ)
    → AllByRecursion (IsAmong (map (λ s. says r s time (time_ask id)) shards)) (map (λ s. a_time id s) shards)
times_among r time id shards =
    all_from (IsAmong (map (λ s. says r s time (time_ask id)) shards)) (map (λ s. a_time id s) shards) (λ t there.
    let one = in_mapped (λ s. a_time id s) t shards there in
    record {
      letter = says r one.0 time (time_ask id);
      sent = in_map (λ s. says r s time (time_ask id)) one.0 shards one.1;
      brings = one.2;
    })

-- at first that is all shards, of which there is one at least
some_times : (id : RequestId) (count : ℕ) → count ≢ 0 → map (λ s. a_time id s) (untold [] (places_from first_shard count)) ≢ []
some_times id zero some = absurd (some refl)
some_times id (suc count) some = λ e. cc e

-- READS

-- a read by a table that says who owned each key at its time
abbrev pub first_target : Table → Target
first_target t = record { shard = first_shard; sent = sent_by t first_shard }

pub one_target : (t : Table) (at : ℕ) (stages : List Stage) → IsFirst t → is_owned_at t at ≡ true → targets_at t at stages ≡ first_target t ∷ []
one_target t at stages first enough = by_owner (owner_at t null_value at) refl (sym (first.owned at) ∙ enough)
  where
    by_owner : (o : Option ℕ) → owner_at t null_value at ≡ o → is_some o ≡ true → targets_at t at stages ≡ first_target t ∷ []
    by_owner None is enough = absurd (cc enough)
    by_owner (Some shard) is enough =
        let owner : owner_at t null_value at ≡ Some first_shard = is ∙ ap (λ n. Some n) (first.before null_value at shard refl is) in
        ap (map (λ s. record { shard = s; sent = sent_by t s })) (first.spans at (split stages).0.span ∙ ap listed_owner owner)

-- a read that a table is enough for
pub table_of_read : (o : Option Table) (at : ℕ) (tries : List Try) (t : Table) → table_to_read o at tries ≡ Some t → (o ≡ Some t) × (is_owned_at t at ≡ true)
table_of_read None at tries t got = absurd (cc got)
table_of_read (Some x) at tries t got = by_enough (reaches x tries) (is_owned_at x at) refl got
  where
    by_enough : (a b : Bool) → is_owned_at x at ≡ b → (if a && b then Some x else None) ≡ Some t → (Some x ≡ Some t) × (is_owned_at t at ≡ true)
    by_enough false b lacks got = absurd (cc got)
    by_enough true false lacks got = absurd (cc got)
    by_enough true true enough got =
        let same : x ≡ t = cc got in
        (got, subst (λ z. is_owned_at z at ≡ true) same enough)

-- WHAT COMES NEXT

module _ (r : Router) (time count : ℕ) (namespace : List ℕ) where
  -- the message of the one run
  pub run_sends : (ordered : Bool) (statements : List Statement) (c : Course) (answers : List (Option StatementOutcome)) (run : Run) → HasNext statements answers
      → run.shard ≡ first_shard → run.indices ≡ indices_of (unanswered statements answers)
      → AreSent (asks_to_write r time (id_of r count) namespace ordered statements c (run ∷ [])) (things_sent (id_of r count) (run ∷ []))
  run_sends ordered statements c answers run n shard all =
      one_sent (says r run.shard time (write_ask (id_of r count) (turn_of c run) ordered namespace (in_run run statements) run.sent))
      (a_run (id_of r count) (first_index run.indices))
      (subst (λ l. Brings (a_run (id_of r count) (first_index run.indices)) r.me run.shard (write_ask (id_of r count) (turn_of c run) ordered namespace l run.sent))
      (sym (in_one statements answers run n.rising all ∙ n.left))
      (ap (λ k. a_run (id_of r count) k) (ap (λ l. first_index l) all ∙ ap (λ l. first_index (indices_of l)) n.left), shard))

  -- in the first turn
  first_turn : (t : Table) → IsFirst t → (at : ℕ) (stages : List Stage) → is_owned_at t at ≡ true
      → AreSent (asks_to_read r time (id_of r count) namespace 1 at (split stages).0 (targets_at t at stages))
      (map (λ (x : Target). a_part (id_of r count) x.shard 1) (awaited (targets_at t at stages) []))
  first_turn t first at stages enough =
      subst (λ l. AreSent (asks_to_read r time (id_of r count) namespace 1 at (split stages).0 l)
      (map (λ (x : Target). a_part (id_of r count) x.shard 1) (awaited l [])))
      (sym (one_target t at stages first enough))
      (one_sent (says r first_shard time (read_ask (id_of r count) 1 namespace at (split stages).0 (sent_by t first_shard)))
      (a_part (id_of r count) first_shard 1) (refl, refl))

  pub read_sends : (t : Table) → IsFirst t → (tries : List Try) → tries ≡ [] → (at : ℕ) (stages : List Stage) → is_owned_at t at ≡ true
      → AreSent (asks_to_read r time (id_of r count) namespace (turn_after tries) at (split stages).0 (targets_at t at stages))
      (map (λ (x : Target). a_part (id_of r count) x.shard 1) (awaited (targets_at t at stages) []))
  read_sends t first tries untried at stages enough =
      subst (λ tried. AreSent (asks_to_read r time (id_of r count) namespace (turn_after tried) at (split stages).0 (targets_at t at stages))
      (map (λ (x : Target). a_part (id_of r count) x.shard 1) (awaited (targets_at t at stages) [])))
      (sym untried) (first_turn t first at stages enough)

  -- THE CATALOGUE

  catalogue_is : (work : Work) → IsFor (thing_there (id_of r count) r.me namespace work) (asks_catalogue r time count namespace work)
  catalogue_is (writing kind ordered statements c) = (refl, refl)
  catalogue_is (reading named at stages telling) = (refl, refl)
  catalogue_is sharding = (refl, refl)
  catalogue_is (splitting middle) = (refl, refl, refl)

  pub catalogue_sends : (work : Work)
      → AreSent (asks_catalogue r time count namespace work ∷ []) (thing_there (id_of r count) r.me namespace work ∷ [])
  catalogue_sends work =
      one_sent (asks_catalogue r time count namespace work) (thing_there (id_of r count) r.me namespace work) (catalogue_is work)

  -- where it waits for a time, no shard has returned it
  pub times_sent : (told : List ℕ) → r.shards ≢ 0 → told ≡ []
      → AreSent (asks_times r time (id_of r count) []) (map (λ s. a_time (id_of r count) s) (untold told (shards_of r)))
  times_sent told some fresh =
      subst (λ l. AreSent (asks_times r time (id_of r count) []) (map (λ s. a_time (id_of r count) s) (untold l (shards_of r)))) (sym fresh) (record {
        some = some_times (id_of r count) r.shards some;
        each = times_among r time (id_of r count) (untold [] (shards_of r));
      })
