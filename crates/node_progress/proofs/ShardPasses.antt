-- The shard passes on what is under way, or parks it.
use Rattle.std.proofs.Common.{◌≡◌, ◌≢◌, ◌⊎◌, inl, inr, ℕ, List, [], ◌∷◌, map, refl, sym, ap, subst, ◌∙◌, Bool}
use Rattle.std.specs.Prelude.{Option, Some, None, Result, Ok, Err, true, false, filter, not}
use Rattle.std.specs.List.{AllByRecursion}
use Rattle.history_model.specs.History.{StatementNumber, Entry, IsIn}
use Rattle.history_model.proofs.Lists.{all_at, in_first, in_back, in_prefix}
use Rattle.chunk_model.specs.Tables.{first_shard, table_of}
use Rattle.chunk_model.specs.Verdicts.{Sent, fits, router_is_old, verdict_of}
use Rattle.bson_model.specs.Tree.{Fields}
use Rattle.pipeline_model.specs.Halves.{Half, Rows}
use Rattle.base_model.specs.Identities.{RequestId}
use Rattle.reply_model.specs.Outcomes.{Done}
use Rattle.node_model.specs.Letters.{Statement, HalfFault, half_overflow, half_excess, write_ask, write_done, half_ask, read_rows, time_told, Letter, Input, letter_input, Effect}
use Rattle.node_model.specs.States.{Shard}
use Rattle.node_model.specs.Service.{seen_before, Serves, serves_again, serves_new, ends_again, ends_new, Repeats, repeats, ends_repeat, documents_at}
use Rattle.node_model.specs.ShardRows.{Ask, is_ask, same_ask, ask_in, wants_table, says, heard, ShardRow, shard_write, shard_repeat, shard_empty, shard_park, shard_waits, shard_stale, shard_read, shard_read_above, shard_rows, shard_excess, shard_overflow, shard_time, shard_learn, shard_known, shard_no_table, shard_skip, shard_moment, shard_opened, shard_client}
use Rattle.node_laws.proofs.SeenStatements.{IsFound, found_entry, found_older, seen_found}
use Rattle.node_progress.specs.UnderWay.{Thing, a_time, a_run, a_part, Brings, IsFor}
use Rattle.node_progress.proofs.Members.{in_map, in_filter, any_found}
use Rattle.node_progress.proofs.Things.{home, shard_idle, thing_asked, ask_brings, brings_asked, same_thing}
use Rattle.node_progress.proofs.Versions.{IsPlain, never_stale}
use Rattle.node_progress.proofs.CataloguePasses.{IsAmong, only_among}

-- a parked request is for the thing
abbrev pub IsWaiting : List Letter → Thing → Type 0
IsWaiting parked t = (p : Letter) × IsIn p parked × IsFor t p

-- OUTCOMES

-- the first outcome is that of the first statement
abbrev IsOfFirst : List Statement → Done → Type 0
IsOfFirst [] d = ⊥
IsOfFirst (s ∷ more) d = d.index ≡ s.number.index

found_index : (entries : List Entry) (number : StatementNumber) (d : Done) → IsFound entries number d → d.index ≡ number.index
found_index entries number _ (found_entry e stands same) = ap (λ (n : StatementNumber). n.index) same
found_index entries number _ (found_older e stands session less) = refl

seen_index : (s : Statement) (entries : List Entry) (d : Done) → seen_before s.number entries ≡ Some d → d.index ≡ s.number.index
seen_index s entries d some = found_index entries s.number d (seen_found s.number entries d some)

served_first : (shard : ℕ) (namespace : List ℕ) (ordered : Bool) (entries : List Entry) (time : ℕ) (statements : List Statement) (d : Done)
    (dones : List Done) (made : List Entry) (last : ℕ)
    → Serves shard namespace ordered entries time statements (d ∷ dones) made last → IsOfFirst statements d
served_first shard namespace ordered _ _ _ _ _ _ _ (serves_again entries time s rest e dones made last seen goes more) = seen_index s entries e seen
served_first shard namespace ordered _ _ _ _ _ _ _ (serves_new entries time s rest dones made last seen goes more) = refl
served_first shard namespace ordered _ _ _ _ _ _ _ (ends_again entries time s rest e seen goes) = seen_index s entries e seen
served_first shard namespace ordered _ _ _ _ _ _ _ (ends_new entries time s rest seen goes) = refl

repeated_first : (ordered : Bool) (entries : List Entry) (statements : List Statement) (d : Done) (dones : List Done)
    → Repeats ordered entries statements (d ∷ dones) → IsOfFirst statements d
repeated_first ordered entries _ _ _ (repeats s rest e dones seen goes more) = seen_index s entries e seen
repeated_first ordered entries _ _ _ (ends_repeat s rest e seen goes) = seen_index s entries e seen

module _ (s : Shard) (m : Letter) (t : Thing) (is : IsFor t m) where
  -- the outcomes of a write are for what the write is for
  done_among : (time : ℕ) (id : RequestId) (turn : ℕ) (ordered : Bool) (namespace : List ℕ) (statements : List Statement) (sent : Sent) (d : Done)
      (dones : List Done) → m.body ≡ write_ask id turn ordered namespace statements sent → IsOfFirst statements d
      → IsAmong (says s id.router time (write_done id (d ∷ dones)) ∷ []) t
  done_among time id turn ordered namespace [] sent d dones body first = absurd first
  done_among time id turn ordered namespace (x ∷ more) sent d dones body first =
      let l = subst (λ b. Brings t m.sender m.receiver b) body is in
      only_among (says s id.router time (write_done id (d ∷ dones))) t (l.0 ∙ ap (λ n. a_run id n) (sym first), refl)

  -- and the rows of a half
  rows_among : (time : ℕ) (id : RequestId) (turn : ℕ) (namespace : List ℕ) (at : ℕ) (half : Half) (documents : List Fields) (rows : Result Rows HalfFault)
      → m.receiver ≡ s.me → m.body ≡ half_ask id turn namespace at half documents → IsAmong (says s id.router time (read_rows id turn rows) ∷ []) t
  rows_among time id turn namespace at half documents rows place body =
      let l = subst (λ b. Brings t m.sender m.receiver b) body is in
      only_among (says s id.router time (read_rows id turn rows)) t (l.0 ∙ ap (λ n. a_part id n turn) place, refl)

  -- a request that waits already
  waits_already : (a : Ask) (parked : List Letter) (p : Letter) (o : Option Ask) → ask_in m.body ≡ Some a → ask_in p.body ≡ o → p.receiver ≡ first_shard
      → IsIn p parked → elim o as (λ (o : Option Ask). Bool) [ None ↦ false | Some b ↦ same_ask b a ] ≡ true → IsWaiting parked t
  waits_already a parked p None asks none to there same = absurd (cc same)
  waits_already a parked p (Some b) asks some to there same =
      let own = ask_brings t m.sender m.receiver m.body a asks is in
      (p, there, subst (λ x. Brings x p.sender p.receiver p.body) (same_thing b a same ∙ sym own) (brings_asked p.sender p.receiver p.body b some to))

-- what a message to a shard asks for is asked of the first shard, and served by its table, or there is none
abbrev pub FitsThere : Shard → Letter → Type 0
FitsThere s m = (a : Ask) → ask_in m.body ≡ Some a
    → (s.me ≡ first_shard) × ((table_of a.namespace s.tables ≡ None) ⊎ (verdict_of a.sent first_shard (table_of a.namespace s.tables) ≡ fits))

pub shard_passes : (s : Shard) (m : Letter) (f : Effect) (u : Shard) (t : Thing) → m.receiver ≡ s.me → s.me ≢ 0 → home t ≢ s.me
    → FitsThere s m → AllByRecursion (λ (p : Letter). p.receiver ≡ first_shard) s.parked → IsFor t m → ShardRow s (letter_input m) f u
    → IsAmong f.mail t ⊎ IsWaiting u.parked t
shard_passes _ _ _ _ t place away own fit to is (shard_write s m id turn ordered namespace statements sent d dones made last body verdict serves) =
    inl (done_among s m t is last id turn ordered namespace statements sent d dones body
    (served_first s.me namespace ordered s.entries (heard s m) statements d dones made last serves))
shard_passes _ _ _ _ t place away own fit to is (shard_repeat s m id turn ordered namespace statements sent d dones body verdict again) =
    inl (done_among s m t is (heard s m) id turn ordered namespace statements sent d dones body (repeated_first ordered s.entries statements d dones again))
shard_passes _ _ _ _ t place away own fit to is (shard_empty s m id turn ordered namespace sent body) =
    absurd (subst (λ b. Brings t m.sender m.receiver b) body is)
shard_passes _ _ _ _ t place away own fit to is (shard_park s m a asks unseen old not_parked) =
    inr (m, in_back m s.parked (m ∷ []) (in_first m []), is)
shard_passes _ _ _ _ t place away own fit to is (shard_waits s m a asks unseen old waits) =
    let found = any_found (is_ask a) s.parked waits in
    inr (waits_already s m t is a s.parked found.0 (ask_in found.0.body) asks refl (all_at (λ (p : Letter). p.receiver ≡ first_shard) found.0 s.parked to found.1)
    found.1 found.2)
shard_passes _ _ _ _ t place away own fit to is (shard_stale s m a met asks unseen old) =
    let there = fit a asks in
    absurd (never_stale s.tables a met (subst (λ n. verdict_of a.sent n (table_of a.namespace s.tables) ≡ router_is_old met) there.0 old) there.1)
shard_passes _ _ _ _ t place away own fit to is (shard_read s m id turn namespace at half sent body verdict covered) =
    let l = subst (λ b. Brings t m.sender m.receiver b) body is in
    inl (only_among (says s s.me (heard s m) (half_ask id turn namespace at half (documents_at s.entries namespace at half))) t
    (l.0 ∙ ap (λ n. a_part id n turn) place, sym place ∙ l.1))
shard_passes _ _ _ _ t place away own fit to is (shard_read_above s m id turn namespace at half sent body verdict above) =
    let l = subst (λ b. Brings t m.sender m.receiver b) body is in
    inl (only_among (says s s.me (heard s m) (half_ask id turn namespace at half (documents_at s.entries namespace at half))) t
    (l.0 ∙ ap (λ n. a_part id n turn) place, sym place ∙ l.1))
shard_passes _ _ _ _ t place away own fit to is (shard_rows s m id turn namespace at half documents rows body makes few) =
    inl (rows_among s m t is (heard s m) id turn namespace at half documents (Ok rows) place body)
shard_passes _ _ _ _ t place away own fit to is (shard_excess s m id turn namespace at half documents rows length n body makes much told) =
    inl (rows_among s m t is (heard s m) id turn namespace at half documents (Err (half_excess n)) place body)
shard_passes _ _ _ _ t place away own fit to is (shard_overflow s m id turn namespace at half documents body runs) =
    inl (rows_among s m t is (heard s m) id turn namespace at half documents (Err half_overflow) place body)
shard_passes _ _ _ _ t place away own fit to is (shard_time s m id body) =
    let l = subst (λ b. Brings t m.sender m.receiver b) body is in
    inl (only_among (says s id.router (heard s m) (time_told id)) t (l ∙ ap (λ n. a_time id n) place, refl))
shard_passes _ _ _ _ t place away own fit to is (shard_learn s m namespace create at table body news) =
    let l = subst (λ b. Brings t m.sender m.receiver b) body is in
    absurd (own (ap (λ x. home x) l.0 ∙ place))
shard_passes _ _ _ _ t place away own fit to is (shard_known s m namespace create at table body old) =
    let l = subst (λ b. Brings t m.sender m.receiver b) body is in
    absurd (own (ap (λ x. home x) l.0 ∙ place))
shard_passes _ _ _ _ t place away own fit to is (shard_no_table s m namespace node lack body) =
    absurd (subst (λ b. Brings t m.sender m.receiver b) body is)
shard_passes _ _ _ _ t place away own fit to is (shard_skip s m none) =
    absurd (shard_idle t m.sender m.receiver m.body (λ e. away (sym place ∙ e)) (λ e. own (e ∙ place)) none is)

-- WHAT IS PARKED

-- it stays parked, or is tried again; where no table is refused
pub shard_holds : (s : Shard) (i : Input) (f : Effect) (u : Shard) (p : Letter) (a : Ask) → s.me ≡ first_shard → IsIn p s.parked → ask_in p.body ≡ Some a
    → ((m : Letter) → i ≡ letter_input m → IsPlain m.body) → ShardRow s i f u → IsIn p u.parked ⊎ IsAmong f.mail (thing_asked a)
shard_holds _ _ _ _ p a me there asks plain (shard_write s m id turn ordered namespace statements sent d dones made last body verdict serves) = inl there
shard_holds _ _ _ _ p a me there asks plain (shard_repeat s m id turn ordered namespace statements sent d dones body verdict again) = inl there
shard_holds _ _ _ _ p a me there asks plain (shard_empty s m id turn ordered namespace sent body) = inl there
shard_holds _ _ _ _ p a me there asks plain (shard_park s m b own unseen old not_parked) = inl (in_prefix p s.parked (m ∷ []) there)
shard_holds _ _ _ _ p a me there asks plain (shard_waits s m b own unseen old waits) = inl there
shard_holds _ _ _ _ p a me there asks plain (shard_stale s m b met own unseen old) = inl there
shard_holds _ _ _ _ p a me there asks plain (shard_read s m id turn namespace at half sent body verdict covered) = inl there
shard_holds _ _ _ _ p a me there asks plain (shard_read_above s m id turn namespace at half sent body verdict above) = inl there
shard_holds _ _ _ _ p a me there asks plain (shard_rows s m id turn namespace at half documents rows body makes few) = inl there
shard_holds _ _ _ _ p a me there asks plain (shard_excess s m id turn namespace at half documents rows length n body makes much told) = inl there
shard_holds _ _ _ _ p a me there asks plain (shard_overflow s m id turn namespace at half documents body runs) = inl there
shard_holds _ _ _ _ p a me there asks plain (shard_time s m id body) = inl there
shard_holds _ _ _ _ p a me there asks plain (shard_learn s m namespace create at t body news) = by_test (wants_table t.namespace p) refl
  where
    by_test : (b : Bool) → wants_table t.namespace p ≡ b
        → IsIn p (filter (λ q. not (wants_table t.namespace q)) s.parked)
        ⊎ IsAmong (map (λ (q : Letter). says s s.me (heard s m) q.body) (filter (wants_table t.namespace) s.parked)) (thing_asked a)
    by_test false is = inl (in_filter (λ q. not (wants_table t.namespace q)) p s.parked there (ap (λ b. not b) is))
    by_test true is = inr (record {
      letter = says s s.me (heard s m) p.body;
      sent = in_map (λ (q : Letter). says s s.me (heard s m) q.body) p (filter (wants_table t.namespace) s.parked)
          (in_filter (wants_table t.namespace) p s.parked there is);
      brings = brings_asked s.me s.me p.body a asks me;
    })
shard_holds _ _ _ _ p a me there asks plain (shard_known s m namespace create at table body old) = inl there
shard_holds _ _ _ _ p a me there asks plain (shard_no_table s m namespace node lack body) = absurd (subst (λ b. IsPlain b) body (plain m refl))
shard_holds _ _ _ _ p a me there asks plain (shard_skip s m none) = inl there
shard_holds _ _ _ _ p a me there asks plain (shard_moment s moment) = inl there
shard_holds _ _ _ _ p a me there asks plain (shard_opened s) = inl there
shard_holds _ _ _ _ p a me there asks plain (shard_client s link number request) = inl there
