-- No message of a shard, or of the catalogue, reads at a time that is later than itself.
use Rattle.std.proofs.Common.{ℕ, ◌≤◌, List, [], ◌∷◌, arith}
use Rattle.std.specs.Prelude.{max, filter, not, Option, Some, None}
use Rattle.std.specs.List.{AllByRecursion, flat_map}
use Rattle.base_model.specs.Times.{time_of_moment}
use Rattle.reply_model.specs.Accounts.{Lack}
use Rattle.history_model.proofs.Lists.{all_weaken, all_append, all_filter}
use Rattle.node_model.specs.CatalogueRows.{CatalogueRow, catalogue_create, catalogue_tell, catalogue_split, catalogue_bound, catalogue_none, catalogue_skip, catalogue_moment, catalogue_opened, catalogue_client}
use Rattle.node_model.specs.Letters.{At, no_time, at_time, Body, table_ask, table_told, split_ask, split_done, write_ask, write_done, read_ask, half_ask, read_rows, refused, of_request, is_lack, time_ask, time_told, Letter, Input, Effect}
use Rattle.node_model.specs.ShardRows.{heard as heard_there, Ask, ask_in, index_shown, wants_table, says as says_there, asks_table, asks_again as asks_tables, refuses, ShardRow, shard_write, shard_repeat, shard_empty, shard_park, shard_waits, shard_stale, shard_read, shard_read_above, shard_rows, shard_excess, shard_overflow, shard_time, shard_learn, shard_known, shard_no_table, shard_skip, shard_moment, shard_opened, shard_client}
use Rattle.node_model.specs.States.{Work, writing, reading, sharding, splitting, Wait, for_time, for_catalogue, for_shards, Open, Shard, Catalogue}
use Rattle.node_laws.proofs.Lists.{all_mapped}
use Rattle.node_laws.proofs.ServedStatements.{serves_rises}
use Rattle.node_replay.specs.ReadTimes.{IsNamedBy, ReadsBy, IsInTime, ComesInTime, WorksBy, WaitsBy, OpensBy, KeepsBy}

-- A LATER TIME

named_later : (early late : ℕ) (at : At) → early ≤ late → IsNamedBy early at → IsNamedBy late at
named_later early late no_time le by = tt
named_later early late (at_time at) le by = omega (arith, le, by)

pub reads_later : (early late : ℕ) (b : Body) → early ≤ late → ReadsBy early b → ReadsBy late b
reads_later early late (read_ask id turn namespace at half sent) le by = omega (arith, le, by)
reads_later early late (table_ask namespace create at) le by = named_later early late at le by
reads_later early late (table_told namespace create at table) le by = tt
reads_later early late (split_ask id namespace middle) le by = tt
reads_later early late (split_done id found) le by = tt
reads_later early late (write_ask id turn ordered namespace statements sent) le by = tt
reads_later early late (write_done id dones) le by = tt
reads_later early late (half_ask id turn namespace at half documents) le by = tt
reads_later early late (read_rows id turn rows) le by = tt
reads_later early late (refused what cause) le by = tt
reads_later early late (time_ask id) le by = tt
reads_later early late (time_told id) le by = tt

pub works_later : (early late : ℕ) (work : Work) → early ≤ late → WorksBy early work → WorksBy late work
works_later early late (writing kind ordered statements c) le by = tt
works_later early late (reading named at stages telling) le by = omega (arith, le, by)
works_later early late sharding le by = tt
works_later early late (splitting middle) le by = tt

pub waits_later : (early late : ℕ) (wait : Wait) (work : Work) → early ≤ late → WaitsBy early wait work → WaitsBy late wait work
waits_later early late for_time work le by = tt
waits_later early late for_catalogue work le by = works_later early late work le by
waits_later early late for_shards work le by = works_later early late work le by

kept_later : (early late : ℕ) (parked : List Letter) → early ≤ late → AllByRecursion (KeepsBy early) parked → AllByRecursion (KeepsBy late) parked
kept_later early late parked le all = all_weaken (KeepsBy early) (KeepsBy late) parked (λ p by. reads_later early late p.body le by) all

pub open_later : (early late : ℕ) (requests : List Open) → early ≤ late → AllByRecursion (OpensBy early) requests → AllByRecursion (OpensBy late) requests
open_later early late requests le all = all_weaken (OpensBy early) (OpensBy late) requests (λ q by. waits_later early late q.wait q.work le by) all

-- A SHARD

-- what a step shows: what is parked reads by the time of the shard, and what it sends by its own
pub record ShardInTime (f : Effect) (t : Shard) : Type 0 where
  pub parked : AllByRecursion (KeepsBy t.time) t.parked
  pub letters : AllByRecursion IsInTime f.mail

tables_in_time : (s : Shard) (time : ℕ) (parked : List Letter) → AllByRecursion IsInTime (asks_tables s time parked)
tables_in_time s time [] = tt
tables_in_time s time (m ∷ parked) = by_ask (ask_in m.body) (tables_in_time s time parked)
  where
    by_ask : (o : Option Ask) → AllByRecursion IsInTime (asks_tables s time parked)
        → AllByRecursion IsInTime
        (elim o as (λ (o : Option Ask). List Letter) [ None ↦ asks_tables s time parked | Some a ↦ asks_table s time a.namespace ∷ asks_tables s time parked ])
    by_ask None rest = rest
    by_ask (Some a) rest = (tt, rest)

refused_in_time : (s : Shard) (time node : ℕ) (lack : Lack) (parked : List Letter) → AllByRecursion IsInTime (flat_map (refuses s time node lack) parked)
refused_in_time s time node lack [] = tt
refused_in_time s time node lack (m ∷ parked) =
    all_append IsInTime (refuses s time node lack m) (flat_map (refuses s time node lack) parked) (by_ask (ask_in m.body))
    (refused_in_time s time node lack parked)
  where
    by_ask : (o : Option Ask) → AllByRecursion IsInTime (elim o as (λ (o : Option Ask). List Letter) [
      | None ↦ []
      | Some a ↦ says_there s a.id.router time (refused (of_request a.id a.turn (index_shown a.first)) (is_lack node lack)) ∷ []
    ])
    by_ask None = tt
    by_ask (Some a) = (tt, tt)

heard_later : (s : Shard) (m : Letter) → s.time ≤ heard_there s m
heard_later s m = omega arith

pub shard_in_time : (s t : Shard) (i : Input) (f : Effect) → AllByRecursion (KeepsBy s.time) s.parked → ComesInTime i → ShardRow s i f t → ShardInTime f t
shard_in_time _ _ _ _ all input (shard_write s m id turn ordered namespace statements sent d dones made last asks agree serves) =
    let later = (serves_rises s.me namespace ordered s.entries (heard_there s m) statements (d ∷ dones) made last serves).later in
    record { parked = kept_later s.time last s.parked (omega (arith, later)) all; letters = (tt, tt) }
shard_in_time _ _ _ _ all input (shard_repeat s m id turn ordered namespace statements sent d dones asks differ repeated) =
    record { parked = kept_later s.time (heard_there s m) s.parked (heard_later s m) all; letters = (tt, tt) }
shard_in_time _ _ _ _ all input (shard_empty s m id turn ordered namespace sent asks) =
    record { parked = kept_later s.time (heard_there s m) s.parked (heard_later s m) all; letters = tt }
shard_in_time _ _ _ _ all input (shard_park s m a asks unseen old waits) = record {
  parked = all_append (KeepsBy (heard_there s m)) s.parked (m ∷ []) (kept_later s.time (heard_there s m) s.parked (heard_later s m) all)
      (reads_later m.time (heard_there s m) m.body (omega arith) input, tt);
  letters = (tt, tt);
}
shard_in_time _ _ _ _ all input (shard_waits s m a asks unseen old waits) =
    record { parked = kept_later s.time (heard_there s m) s.parked (heard_later s m) all; letters = tt }
shard_in_time _ _ _ _ all input (shard_stale s m a met asks unseen old) =
    record { parked = kept_later s.time (heard_there s m) s.parked (heard_later s m) all; letters = (tt, tt) }
shard_in_time _ _ _ _ all input (shard_read s m id turn namespace at half sent asks agree covered) =
    record { parked = kept_later s.time (heard_there s m) s.parked (heard_later s m) all; letters = (tt, tt) }
shard_in_time _ _ _ _ all input (shard_read_above s m id turn namespace at half sent asks agree above) =
    record { parked = kept_later s.time (heard_there s m) s.parked (heard_later s m) all; letters = (tt, tt) }
shard_in_time _ _ _ _ all input (shard_rows s m id turn namespace at half documents rows asks shows small) =
    record { parked = kept_later s.time (heard_there s m) s.parked (heard_later s m) all; letters = (tt, tt) }
shard_in_time _ _ _ _ all input (shard_excess s m id turn namespace at half documents rows length n asks shows much told) =
    record { parked = kept_later s.time (heard_there s m) s.parked (heard_later s m) all; letters = (tt, tt) }
shard_in_time _ _ _ _ all input (shard_overflow s m id turn namespace at half documents asks over) =
    record { parked = kept_later s.time (heard_there s m) s.parked (heard_later s m) all; letters = (tt, tt) }
shard_in_time _ _ _ _ all input (shard_time s m id asks) =
    record { parked = kept_later s.time (heard_there s m) s.parked (heard_later s m) all; letters = (tt, tt) }
shard_in_time _ _ _ _ all input (shard_learn s m namespace create at t tells news) =
    let now : AllByRecursion (KeepsBy (heard_there s m)) s.parked = kept_later s.time (heard_there s m) s.parked (heard_later s m) all in
    record {
      parked = all_filter (KeepsBy (heard_there s m)) (λ p. not (wants_table t.namespace p)) s.parked now;
      letters = all_mapped IsInTime (λ (p : Letter). says_there s s.me (heard_there s m) p.body) (filter (wants_table t.namespace) s.parked)
          (all_filter (KeepsBy (heard_there s m)) (wants_table t.namespace) s.parked now);
    }
shard_in_time _ _ _ _ all input (shard_known s m namespace create at table tells none) =
    record { parked = kept_later s.time (heard_there s m) s.parked (heard_later s m) all; letters = tt }
shard_in_time _ _ _ _ all input (shard_no_table s m namespace node lack none) = record {
  parked = all_filter (KeepsBy (heard_there s m)) (λ p. not (wants_table namespace p)) s.parked
      (kept_later s.time (heard_there s m) s.parked (heard_later s m) all);
  letters = refused_in_time s (heard_there s m) node lack (filter (wants_table namespace) s.parked);
}
shard_in_time _ _ _ _ all input (shard_skip s m none) = record { parked = all; letters = tt }
shard_in_time _ _ _ _ all input (shard_moment s moment) = record {
  parked = kept_later s.time (max s.time (time_of_moment moment)) s.parked (omega arith) all;
  letters = tables_in_time s (max s.time (time_of_moment moment)) s.parked;
}
shard_in_time _ _ _ _ all input (shard_opened s) = record { parked = all; letters = tt }
shard_in_time _ _ _ _ all input (shard_client s link number request) = record { parked = all; letters = tt }

-- THE CATALOGUE

pub catalogue_in_time : (c d : Catalogue) (i : Input) (f : Effect) → CatalogueRow c i f d → AllByRecursion IsInTime f.mail
catalogue_in_time _ _ _ _ (catalogue_create c m namespace at x asks answer) = (tt, tt)
catalogue_in_time _ _ _ _ (catalogue_tell c m namespace create at asks known) = (tt, tt)
catalogue_in_time _ _ _ _ (catalogue_split c m id namespace middle x asks answer) = (tt, tt)
catalogue_in_time _ _ _ _ (catalogue_bound c m id namespace middle asks answer) = (tt, tt)
catalogue_in_time _ _ _ _ (catalogue_none c m id namespace middle asks answer) = (tt, tt)
catalogue_in_time _ _ _ _ (catalogue_skip c m none) = tt
catalogue_in_time _ _ _ _ (catalogue_moment c moment) = tt
catalogue_in_time _ _ _ _ (catalogue_opened c) = tt
catalogue_in_time _ _ _ _ (catalogue_client c link number request) = tt
