-- What becomes of open reads, by the table that is known of their collection.
use Rattle.std.proofs.Common.{◌≡◌, refl, ap, sym, ◌∙◌, ℕ, List, [], ◌∷◌, Bool, true, false, ◌&&◌, if◌then◌else◌}
use Rattle.std.specs.Prelude.{Option, Some, None, is_some, nat_lt}
use Rattle.chunk_model.specs.Tables.{Table}
use Rattle.node_model.specs.Letters.{Letter, at_time, table_ask}
use Rattle.node_model.specs.RouterNext as nexts
use Rattle.node_model.specs.RouterNext.{stays, with_work}
use Rattle.node_model.specs.RouterRequests.{asks_times, asks_to_read, id_of, is_owned_at, reaches, says, table_to_read, targets_at, turn_after}
use Rattle.node_model.specs.States.{Open, Router, Target, Telling, for_catalogue, for_shards, for_time, reading}
use Rattle.pipeline_model.specs.Split.{split}
use Rattle.pipeline_model.specs.Stages.{Stage}
use Rattle.reply_model.specs.Outcomes.{Try}
use Rattle.router_requests.specs.Nexts.{begins_by, read_by}

-- whether a table says who owned each key at a time
pub if_read : (t : Table) (b : Bool) → is_some (if b then Some t else None) ≡ b
if_read t true = refl
if_read t false = refl

module _ (r : Router) (time count : ℕ) (namespace : List ℕ) (q : Open) (same : q.count ≡ count) (of : q.namespace ≡ namespace) (asks named : Bool) (at : ℕ) (stages : List Stage) (telling : Telling) where
  -- how a read goes on by the table that it can be sent with, if there is one
  abbrev by_table : Option Table → nexts.Next
  by_table o = elim o [
    | None ↦ stays (with_work q for_catalogue [] (reading named at stages telling)) (if asks then says r 0 time (table_ask q.namespace false (at_time at)) ∷ [] else [])
    | Some t ↦ stays (with_work q for_shards (targets_at t at stages) (reading named at stages telling))
        (asks_to_read r time (id_of r q.count) q.namespace (turn_after q.tries) at (split stages).0 (targets_at t at stages))
  ]

  pub reads_owners : (t : Table) (targets : List Target) (letters : List Letter) (tries : List Try) → q.tries ≡ tries → reaches t tries ≡ true → is_owned_at t at ≡ true
      → targets ≡ targets_at t at stages → letters ≡ asks_to_read r time (id_of r count) namespace (turn_after tries) at (split stages).0 targets
      → read_by r time (Some t) asks q named at stages telling ≡ stays (with_work q for_shards targets (reading named at stages telling)) letters
  reads_owners t targets letters tries had comes owned all asked =
      ap by_table
      (ap (λ (b : Bool). if b && is_owned_at t at then Some t else None) (ap (λ (ts : List Try). reaches t ts) had ∙ comes)
      ∙ ap (λ (b : Bool). if b then Some t else None) owned)
      ∙ ap (λ (ls : List Letter). stays (with_work q for_shards (targets_at t at stages) (reading named at stages telling)) ls)
      (ap (λ (n : ℕ). asks_to_read r time (id_of r n) q.namespace (turn_after q.tries) at (split stages).0 (targets_at t at stages)) same
      ∙ ap (λ (n : List ℕ). asks_to_read r time (id_of r count) n (turn_after q.tries) at (split stages).0 (targets_at t at stages)) of
      ∙ ap (λ (ts : List Try). asks_to_read r time (id_of r count) namespace (turn_after ts) at (split stages).0 (targets_at t at stages)) had
      ∙ ap (λ (ts : List Target). asks_to_read r time (id_of r count) namespace (turn_after tries) at (split stages).0 ts) (sym all)
      ∙ sym asked)
      ∙ ap (λ (ts : List Target). stays (with_work q for_shards ts (reading named at stages telling)) letters) (sym all)

  pub reads_none : (known : Option Table) (letters : List Letter) → table_to_read known at q.tries ≡ None
      → letters ≡ (if asks then says r 0 time (table_ask namespace false (at_time at)) ∷ [] else [])
      → read_by r time known asks q named at stages telling ≡ stays (with_work q for_catalogue [] (reading named at stages telling)) letters
  reads_none known letters none asked =
      ap by_table none
      ∙ ap (λ (ls : List Letter). stays (with_work q for_catalogue [] (reading named at stages telling)) ls)
      (ap (λ (n : List ℕ). if asks then says r 0 time (table_ask n false (at_time at)) ∷ [] else []) of ∙ sym asked)

  -- one of a time that is ahead waits for it
  pub waits_ahead : (known : Option Table) (letters : List Letter) → nat_lt time at ≡ true → letters ≡ asks_times r time (id_of r count) []
      → begins_by r time known q (reading named at stages telling) ≡ stays (with_work q for_time [] (reading named at stages telling)) letters
  waits_ahead known letters ahead asked =
      ap (λ (b : Bool). if b then stays (with_work q for_time [] (reading named at stages telling)) (asks_times r time (id_of r q.count) [])
      else read_by r time known true q named at stages telling) ahead
      ∙ ap (λ (ls : List Letter). stays (with_work q for_time [] (reading named at stages telling)) ls)
      (ap (λ (n : ℕ). asks_times r time (id_of r n) []) same ∙ sym asked)

pub reads_now : (r : Router) (time : ℕ) (q : Open) (named : Bool) (at : ℕ) (stages : List Stage) (telling : Telling) (known : Option Table) → nat_lt time at ≡ false
    → begins_by r time known q (reading named at stages telling) ≡ read_by r time known true q named at stages telling
reads_now r time q named at stages telling known now =
    ap (λ (b : Bool). if b then stays (with_work q for_time [] (reading named at stages telling)) (asks_times r time (id_of r q.count) [])
    else read_by r time known true q named at stages telling) now
