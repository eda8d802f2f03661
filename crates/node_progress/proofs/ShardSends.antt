-- What a shard sends goes to nodes, and it refuses nothing, unless no table can be had.
use Rattle.std.proofs.Common.{◌≡◌, ℕ, ◌<◌, List, [], ◌∷◌, refl, ap, subst}
use Rattle.std.specs.Prelude.{Option, Some, None, false, filter}
use Rattle.std.specs.List.{AllByRecursion, flat_map}
use Rattle.history_model.proofs.Lists.{all_filter, all_weaken}
use Rattle.chunk_model.specs.Changes.{Change}
use Rattle.chunk_model.specs.Tables.{first_shard, table_of}
use Rattle.chunk_model.specs.Verdicts.{router_is_old, verdict_of}
use Rattle.base_model.specs.Identities.{RequestId}
use Rattle.reply_model.specs.Accounts.{Lack}
use Rattle.node_model.specs.Letters.{Body, table_ask, table_told, split_ask, split_done, write_ask, write_done, read_ask, half_ask, read_rows, refused, of_table, is_lack, no_time, time_ask, time_told, Letter, Input, letter_input, Effect}
use Rattle.node_model.specs.States.{Shard}
use Rattle.node_model.specs.ShardRows.{Ask, ask_in, asks_table, asks_again, tries, says, heard, refuses, wants_table, ShardRow, shard_write, shard_repeat, shard_empty, shard_park, shard_waits, shard_stale, shard_read, shard_read_above, shard_rows, shard_excess, shard_overflow, shard_time, shard_learn, shard_known, shard_no_table, shard_skip, shard_moment, shard_opened, shard_client}
use Rattle.node_laws.proofs.Lists.{all_mapped}
use Rattle.node_progress.proofs.Versions.{IsPlain, IsWell, never_stale}
use Rattle.node_progress.proofs.ShardPasses.{FitsThere}

-- the request that a message to a shard names
abbrev pub request_in : Body → Option RequestId
request_in (write_ask id turn ordered namespace statements sent) = Some id
request_in (half_ask id turn namespace at half documents) = Some id
request_in (time_ask id) = Some id
request_in (read_ask id turn namespace at half sent) = None
request_in (table_ask namespace create at) = None
request_in (table_told namespace create at table) = None
request_in (split_ask id namespace middle) = None
request_in (split_done id found) = None
request_in (write_done id dones) = None
request_in (read_rows id turn rows) = None
request_in (refused what cause) = None
request_in (time_told id) = None

-- it is of a node
abbrev pub IsOfNode : (count : ℕ) → Input → Type 0
IsOfNode count i = (m : Letter) → i ≡ letter_input m → (id : RequestId) → request_in m.body ≡ Some id → id.router < count

module _ (changes : List Change) (count : ℕ) (s : Shard) (own : s.me < count) (P : Letter → Type 0) (well_is : (m : Letter) → IsWell changes count m → P m) where
  -- an answer
  answer_well : (to time : ℕ) (b : Body) → ask_in b ≡ None → IsPlain b → to < count → AllByRecursion P (says s to time b ∷ [])
  answer_well to time b none plain goes = (
    well_is (says s to time b)
        (record { knowing = λ a asks. absurd (cc (none, asks)); first = λ a asks. absurd (cc (none, asks)); plain = plain; from = own; to = goes }),
    tt,
  )

  again_well : (time : ℕ) (parked : List Letter) → 0 < count → AllByRecursion P (asks_again s time parked)
  again_well time [] some = tt
  again_well time (p ∷ parked) some = by_ask (ask_in p.body) (again_well time parked some)
    where
      by_ask : (o : Option Ask) → AllByRecursion P (asks_again s time parked)
          → AllByRecursion P
          (elim o as (λ (o : Option Ask). List Letter) [ None ↦ asks_again s time parked | Some a ↦ asks_table s time a.namespace ∷ asks_again s time parked ])
      by_ask None more = more
      by_ask (Some a) more = (
        well_is (asks_table s time a.namespace)
            (record { knowing = λ b asks. absurd (cc asks); first = λ b asks. absurd (cc asks); plain = tt; from = own; to = some }),
        more,
      )

  tries_well : (time : ℕ) (namespace : List ℕ) (parked : List Letter)
      → AllByRecursion (λ (p : Letter). IsWell changes count p × (s.me ≡ first_shard)) parked
      → AllByRecursion P (tries s time (filter (wants_table namespace) parked))
  tries_well time namespace parked all =
      all_mapped P (λ (p : Letter). says s s.me time p.body) (filter (wants_table namespace) parked)
      (all_weaken (λ (p : Letter). IsWell changes count p × (s.me ≡ first_shard)) (λ (p : Letter). P (says s s.me time p.body))
      (filter (wants_table namespace) parked)
      (λ p w. well_is (says s s.me time p.body)
      (record { knowing = w.0.knowing; first = λ a asks. w.1; plain = w.0.plain; from = own; to = own }))
      (all_filter (λ (p : Letter). IsWell changes count p × (s.me ≡ first_shard)) (wants_table namespace) parked all))

-- what holds of the refusals where no table can be had
abbrev pub MayRefuse : (Letter → Type 0) → Shard → Input → Type 0
MayRefuse P s i = (m : Letter) (namespace : List ℕ) (node : ℕ) (lack : Lack) → i ≡ letter_input m
    → m.body ≡ refused (of_table namespace false no_time) (is_lack node lack)
    → AllByRecursion P (flat_map (refuses s (heard s m) node lack) (filter (wants_table namespace) s.parked))

pub shard_well : (changes : List Change) (count : ℕ) (s : Shard) (i : Input) (f : Effect) (u : Shard) → s.me < count → 0 < count
    → IsOfNode count i → ((m : Letter) → i ≡ letter_input m → FitsThere s m)
    → AllByRecursion (λ (p : Letter). IsWell changes count p × (s.me ≡ first_shard)) s.parked
    → (P : Letter → Type 0) → ((m : Letter) → IsWell changes count m → P m) → MayRefuse P s i
    → ShardRow s i f u → AllByRecursion P f.mail
shard_well changes count _ _ _ _ own some of fit parked P well_is refused_all (shard_write s m id turn ordered namespace statements sent d dones made last body verdict serves) =
    answer_well changes count s own P well_is id.router last _ refl tt (of m refl id (ap (λ b. request_in b) body))
shard_well changes count _ _ _ _ own some of fit parked P well_is refused_all (shard_repeat s m id turn ordered namespace statements sent d dones body verdict again) =
    answer_well changes count s own P well_is id.router _ _ refl tt (of m refl id (ap (λ b. request_in b) body))
shard_well changes count _ _ _ _ own some of fit parked P well_is refused_all (shard_empty s m id turn ordered namespace sent body) = tt
shard_well changes count _ _ _ _ own some of fit parked P well_is refused_all (shard_park s m a asks unseen old not_parked) =
    answer_well changes count s own P well_is 0 _ _ refl tt some
shard_well changes count _ _ _ _ own some of fit parked P well_is refused_all (shard_waits s m a asks unseen old waits) = tt
shard_well changes count _ _ _ _ own some of fit parked P well_is refused_all (shard_stale s m a met asks unseen old) =
    let there = fit m refl a asks in
    absurd (never_stale s.tables a met (subst (λ n. verdict_of a.sent n (table_of a.namespace s.tables) ≡ router_is_old met) there.0 old) there.1)
shard_well changes count _ _ _ _ own some of fit parked P well_is refused_all (shard_read s m id turn namespace at half sent body verdict covered) =
    answer_well changes count s own P well_is s.me _ _ refl tt own
shard_well changes count _ _ _ _ own some of fit parked P well_is refused_all (shard_read_above s m id turn namespace at half sent body verdict above) =
    answer_well changes count s own P well_is s.me _ _ refl tt own
shard_well changes count _ _ _ _ own some of fit parked P well_is refused_all (shard_rows s m id turn namespace at half documents rows body makes few) =
    answer_well changes count s own P well_is id.router _ _ refl tt (of m refl id (ap (λ b. request_in b) body))
shard_well changes count _ _ _ _ own some of fit parked P well_is refused_all (shard_excess s m id turn namespace at half documents rows length n body makes much told) =
    answer_well changes count s own P well_is id.router _ _ refl tt (of m refl id (ap (λ b. request_in b) body))
shard_well changes count _ _ _ _ own some of fit parked P well_is refused_all (shard_overflow s m id turn namespace at half documents body runs) =
    answer_well changes count s own P well_is id.router _ _ refl tt (of m refl id (ap (λ b. request_in b) body))
shard_well changes count _ _ _ _ own some of fit parked P well_is refused_all (shard_time s m id body) =
    answer_well changes count s own P well_is id.router _ _ refl tt (of m refl id (ap (λ b. request_in b) body))
shard_well changes count _ _ _ _ own some of fit parked P well_is refused_all (shard_learn s m namespace create at t body news) =
    tries_well changes count s own P well_is _ t.namespace s.parked parked
shard_well changes count _ _ _ _ own some of fit parked P well_is refused_all (shard_known s m namespace create at table body old) = tt
shard_well changes count _ _ _ _ own some of fit parked P well_is refused_all (shard_no_table s m namespace node lack body) =
    refused_all m namespace node lack refl body
shard_well changes count _ _ _ _ own some of fit parked P well_is refused_all (shard_skip s m none) = tt
shard_well changes count _ _ _ _ own some of fit parked P well_is refused_all (shard_moment s moment) = again_well changes count s own P well_is _ s.parked some
shard_well changes count _ _ _ _ own some of fit parked P well_is refused_all (shard_opened s) = tt
shard_well changes count _ _ _ _ own some of fit parked P well_is refused_all (shard_client s link number request) = tt
