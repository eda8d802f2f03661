-- Who takes requests: a router, in its life.
use Rattle.std.proofs.Common.{◌≡◌, [], refl}
use Rattle.std.specs.List.{AllByRecursion}
use Rattle.node_model.specs.Letters.{Input, Taken, Effect}
use Rattle.node_model.specs.States.{Catalogue, Shard, Router}
use Rattle.node_model.specs.CatalogueRows.{CatalogueRow, catalogue_create, catalogue_tell, catalogue_split, catalogue_bound, catalogue_none, catalogue_skip, catalogue_moment, catalogue_opened, catalogue_client}
use Rattle.node_model.specs.ShardRows.{ShardRow, shard_write, shard_repeat, shard_empty, shard_park, shard_waits, shard_stale, shard_read, shard_read_above, shard_rows, shard_excess, shard_overflow, shard_time, shard_learn, shard_known, shard_no_table, shard_skip, shard_moment, shard_opened, shard_client}
use Rattle.node_model.specs.RouterRows.{RouterRow, router_begin, router_opened, router_plain, router_more, router_no_cursor, router_kill, router_take, router_learn, router_split, router_not_sharded, router_reach, router_hear, router_ahead, router_note, router_refused, router_no_table, router_part, router_read, router_excess, router_overflow, router_late, router_skip, router_moment}

pub catalogue_takes_none : (c d : Catalogue) (i : Input) (f : Effect) → CatalogueRow c i f d → f.taken ≡ []
catalogue_takes_none _ _ _ _ (catalogue_create c m namespace at x says new) = refl
catalogue_takes_none _ _ _ _ (catalogue_tell c m namespace create at says there) = refl
catalogue_takes_none _ _ _ _ (catalogue_split c m id namespace middle x says new) = refl
catalogue_takes_none _ _ _ _ (catalogue_bound c m id namespace middle says there) = refl
catalogue_takes_none _ _ _ _ (catalogue_none c m id namespace middle says none) = refl
catalogue_takes_none _ _ _ _ (catalogue_skip c m none) = refl
catalogue_takes_none _ _ _ _ (catalogue_moment c moment) = refl
catalogue_takes_none _ _ _ _ (catalogue_opened c) = refl
catalogue_takes_none _ _ _ _ (catalogue_client c link number request) = refl

pub shard_takes_none : (s t : Shard) (i : Input) (f : Effect) → ShardRow s i f t → f.taken ≡ []
shard_takes_none _ _ _ _ (shard_write s m id turn ordered namespace statements sent d dones made last body verdict serves) = refl
shard_takes_none _ _ _ _ (shard_repeat s m id turn ordered namespace statements sent d dones body verdict again) = refl
shard_takes_none _ _ _ _ (shard_empty s m id turn ordered namespace sent body) = refl
shard_takes_none _ _ _ _ (shard_park s m a asks unseen old not_parked) = refl
shard_takes_none _ _ _ _ (shard_waits s m a asks unseen old waits) = refl
shard_takes_none _ _ _ _ (shard_stale s m a met asks unseen old) = refl
shard_takes_none _ _ _ _ (shard_read s m id turn namespace at half sent body verdict covered) = refl
shard_takes_none _ _ _ _ (shard_read_above s m id turn namespace at half sent body verdict above) = refl
shard_takes_none _ _ _ _ (shard_rows s m id turn namespace at half documents rows body makes few) = refl
shard_takes_none _ _ _ _ (shard_excess s m id turn namespace at half documents rows length n body makes much told) = refl
shard_takes_none _ _ _ _ (shard_overflow s m id turn namespace at half documents body runs) = refl
shard_takes_none _ _ _ _ (shard_time s m id body) = refl
shard_takes_none _ _ _ _ (shard_learn s m namespace create at t body news) = refl
shard_takes_none _ _ _ _ (shard_known s m namespace create at table body old) = refl
shard_takes_none _ _ _ _ (shard_no_table s m namespace node lack body) = refl
shard_takes_none _ _ _ _ (shard_skip s m none) = refl
shard_takes_none _ _ _ _ (shard_moment s moment) = refl
shard_takes_none _ _ _ _ (shard_opened s) = refl
shard_takes_none _ _ _ _ (shard_client s link number request) = refl

-- a router stays in its life, with the shards that it knows, and what it takes is of that life
pub record IsInLife (r u : Router) (f : Effect) : Type 0 where
  pub life : u.life ≡ r.life
  pub shards : u.shards ≡ r.shards
  pub taken : AllByRecursion (λ (x : Taken). (x.id.router ≡ r.me) × (x.id.life ≡ r.life)) f.taken

pub stays_in_life : (r u : Router) (i : Input) (f : Effect) → RouterRow r i f u → IsInLife r u f
stays_in_life _ _ _ _ (router_begin r early) = record { life = refl; shards = refl; taken = tt }
stays_in_life _ _ _ _ (router_opened r begun) = record { life = refl; shards = refl; taken = tt }
stays_in_life _ _ _ _ (router_plain r link number request answer begun plan) = record { life = refl; shards = refl; taken = ((refl, refl), tt) }
stays_in_life _ _ _ _ (router_more r link number request get c batch next begun plan found shows) = record { life = refl; shards = refl; taken = ((refl, refl), tt) }
stays_in_life _ _ _ _ (router_no_cursor r link number request get begun plan none) = record { life = refl; shards = refl; taken = ((refl, refl), tt) }
stays_in_life _ _ _ _ (router_kill r link number request kill killed missing next begun plan ends) = record { life = refl; shards = refl; taken = ((refl, refl), tt) }
stays_in_life _ _ _ _ (router_take r link number request namespace work begun plan) = record { life = refl; shards = refl; taken = ((refl, refl), tt) }
stays_in_life _ _ _ _ (router_learn r m namespace create at table says) = record { life = refl; shards = refl; taken = tt }
stays_in_life _ _ _ _ (router_split r m id q middle says found work) = record { life = refl; shards = refl; taken = tt }
stays_in_life _ _ _ _ (router_not_sharded r m id q middle says found work) = record { life = refl; shards = refl; taken = tt }
stays_in_life _ _ _ _ (router_reach r m id q named at stages telling says found work waits le) = record { life = refl; shards = refl; taken = tt }
stays_in_life _ _ _ _ (router_hear r m id q named at stages telling says found work waits ahead others) = record { life = refl; shards = refl; taken = tt }
stays_in_life _ _ _ _ (router_ahead r m id q named at stages telling says found work waits ahead all) = record { life = refl; shards = refl; taken = tt }
stays_in_life _ _ _ _ (router_note r m id dones q kind ordered statements c next says found work news is) = record { life = refl; shards = refl; taken = tt }
stays_in_life _ _ _ _ (router_refused r m id turn first cause q next says found is) = record { life = refl; shards = refl; taken = tt }
stays_in_life _ _ _ _ (router_no_table r m namespace create at node lack says) = record { life = refl; shards = refl; taken = tt }
stays_in_life _ _ _ _ (router_part r m id rows q named at stages telling says found work target some) = record { life = refl; shards = refl; taken = tt }
stays_in_life _ _ _ _ (router_read r m id rows q named at stages telling all out answer f says found work target whole got merged tells) =
    record { life = refl; shards = refl; taken = tt }
stays_in_life _ _ _ _ (router_excess r m id rows n q named at stages telling says found work target whole got) =
    record { life = refl; shards = refl; taken = tt }
stays_in_life _ _ _ _ (router_overflow r m id rows q named at stages telling says found work target whole got) =
    record { life = refl; shards = refl; taken = tt }
stays_in_life _ _ _ _ (router_late r m late) = record { life = refl; shards = refl; taken = tt }
stays_in_life _ _ _ _ (router_skip r m none) = record { life = refl; shards = refl; taken = tt }
stays_in_life _ _ _ _ (router_moment r moment begun) = record { life = refl; shards = refl; taken = tt }
