-- Of each request that is parked at a shard the table is under way.
use Rattle.std.proofs.Common.{◌≡◌, ◌≢◌, ◌⊎◌, inl, inr, ℕ, List, [], ◌∷◌, refl, sym, ap, subst, ◌∙◌, Bool}
use Rattle.std.specs.Prelude.{Option, Some, None, true, false, filter, not, if◌then◌else◌}
use Rattle.std.specs.List.{AllByRecursion}
use Rattle.std.specs.Str.{bytes_eq}
use Rattle.std.proofs.lemmas.Slice.Eq.{bytes_eq-Decides}
use Rattle.history_model.specs.History.{IsIn}
use Rattle.history_model.proofs.Lists.{all_from, all_weaken, all_push}
use Rattle.chunk_model.specs.Tables.{Table, first_shard, table_of, with_table, is_longer}
use Rattle.chunk_model.specs.Verdicts.{shard_is_old, verdict_of}
use Rattle.reply_model.specs.Accounts.{Lack}
use Rattle.node_model.specs.Letters.{At, no_time, of_table, is_lack, Body, table_ask, table_told, split_ask, split_done, write_ask, write_done, read_ask, half_ask, read_rows, refused, time_ask, time_told, Letter, Input, letter_input, Effect}
use Rattle.node_model.specs.States.{Shard}
use Rattle.node_model.specs.ShardRows.{Ask, ask_in, wants_table, asks_table, says, heard, is_news, IsNoNews, AsksNothing, ShardRow, shard_write, shard_repeat, shard_empty, shard_park, shard_waits, shard_stale, shard_read, shard_read_above, shard_rows, shard_excess, shard_overflow, shard_time, shard_learn, shard_known, shard_no_table, shard_skip, shard_moment, shard_opened, shard_client}
use Rattle.node_laws.proofs.Lists.{all_filtered}
use Rattle.node_progress.specs.UnderWay.{a_table, Brings, IsFor}
use Rattle.node_progress.proofs.Versions.{none_where_old}
use Rattle.node_progress.proofs.CataloguePasses.{IsAmong, only_among}
use Rattle.node_progress.proofs.ShardPasses.{FitsThere}

-- A TABLE FOR A SHARD

-- such a message brings the table, or goes to the catalogue
record IsToldTable (namespace : List ℕ) (b : Body) : Type 0 where
  table : Table
  is : b ≡ table_told namespace false no_time (Some table)

a_table_told : (node : ℕ) (namespace : List ℕ) (from to : ℕ) (b : Body) → to ≢ 0 → Brings (a_table node namespace false no_time) from to b
    → IsToldTable namespace b
a_table_told node namespace from to (table_ask name create at) place is = absurd (place is.1)
a_table_told node namespace from to (table_told name create at (Some t)) place is = record { table = t; is = cc is.0 }
a_table_told node namespace from to (table_told name create at None) place is = let e : no_time ≡ at = cc is.0 in let some = is.1 (sym e) in absurd (cc some)
a_table_told node namespace from to (split_ask id name middle) place is = absurd (cc is.0)
a_table_told node namespace from to (split_done id found) place is = absurd (cc is.0)
a_table_told node namespace from to (write_ask id turn ordered name [] sent) place is = absurd is
a_table_told node namespace from to (write_ask id turn ordered name (s ∷ more) sent) place is = absurd (cc is.0)
a_table_told node namespace from to (write_done id []) place is = absurd is
a_table_told node namespace from to (write_done id (d ∷ dones)) place is = absurd (cc is.0)
a_table_told node namespace from to (read_ask id turn name at half sent) place is = absurd (cc is.0)
a_table_told node namespace from to (half_ask id turn name at half documents) place is = absurd (cc is.0)
a_table_told node namespace from to (read_rows id turn rows) place is = absurd (cc is.0)
a_table_told node namespace from to (refused what cause) place is = absurd is
a_table_told node namespace from to (time_ask id) place is = absurd (cc is)
a_table_told node namespace from to (time_told id) place is = absurd (cc is.0)

-- the table that a message brings is that of its collection
abbrev pub IsNamed : Letter → Type 0
IsNamed m = (namespace : List ℕ) (create : Bool) (at : At) (t : Table) → m.body ≡ table_told namespace create at (Some t) → t.namespace ≡ namespace

-- other tables stay
other_table : (namespace : List ℕ) (t : Table) (tables : List Table) → bytes_eq t.namespace namespace ≡ false
    → table_of namespace (with_table t tables) ≡ table_of namespace tables
other_table namespace t [] other = ap (λ b. if b then Some t else None) other
other_table namespace t (u ∷ tables) other = by_own (bytes_eq u.namespace t.namespace) refl (other_table namespace t tables other)
  where
    by_longer : (b : Bool) → bytes_eq u.namespace t.namespace ≡ true
        → table_of namespace ((if b then t else u) ∷ tables) ≡ (if bytes_eq u.namespace namespace then Some u else table_of namespace tables)
    by_longer false same = refl
    by_longer true same =
        let name : u.namespace ≡ t.namespace = (bytes_eq-Decides u.namespace t.namespace).0 same in
        let apart : bytes_eq u.namespace namespace ≡ false = ap (λ n. bytes_eq n namespace) name ∙ other in
        ap (λ b. if b then Some t else table_of namespace tables) other ∙ ap (λ b. if b then Some u else table_of namespace tables) (sym apart)

    by_own : (b : Bool) → bytes_eq u.namespace t.namespace ≡ b → table_of namespace (with_table t tables) ≡ table_of namespace tables
        → table_of namespace (if b then ((if is_longer t u then t else u) ∷ tables) else u ∷ with_table t tables)
        ≡ (if bytes_eq u.namespace namespace then Some u else table_of namespace tables)
    by_own true same later = by_longer (is_longer t u) same
    by_own false apart later = ap (λ o. if bytes_eq u.namespace namespace then Some u else o) later

-- WHAT STAYS PARKED

-- of a request that stays parked no table arrives
pub record Stays (s u : Shard) (i : Input) (p : Letter) : Type 0 where
  pub there : IsIn p s.parked
  pub still : (a : Ask) → ask_in p.body ≡ Some a → table_of a.namespace s.tables ≡ None → table_of a.namespace u.tables ≡ None
  pub not_come : (a : Ask) → ask_in p.body ≡ Some a → table_of a.namespace s.tables ≡ None
      → (m : Letter) → i ≡ letter_input m → IsFor (a_table s.me a.namespace false no_time) m → ⊥

-- and of one that is parked now it is requested
pub record Begins (s u : Shard) (i : Input) (mail : List Letter) (p : Letter) : Type 0 where
  pub came : i ≡ letter_input p
  pub first : s.me ≡ first_shard
  pub ask : Ask
  pub asks : ask_in p.body ≡ Some ask
  pub none : table_of ask.namespace u.tables ≡ None
  pub sent : IsAmong mail (a_table s.me ask.namespace false no_time)

abbrev pub IsParkedAfter : (s u : Shard) → Input → List Letter → Letter → Type 0
IsParkedAfter s u i mail p = Stays s u i p ⊎ Begins s u i mail p

same_letter : (m n : Letter) → letter_input m ≡ letter_input n → m ≡ n
same_letter m n e = cc e

-- the input is no table
abbrev pub IsNoTable : Input → Type 0
IsNoTable i = (m : Letter) → i ≡ letter_input m → (namespace : List ℕ) (t : Table) → m.body ≡ table_told namespace false no_time (Some t) → ⊥

other_body : (m : Letter) (b : Body) → m.body ≡ b → ((namespace : List ℕ) (t : Table) → b ≡ table_told namespace false no_time (Some t) → ⊥)
    → IsNoTable (letter_input m)
other_body m b says other n is namespace t told = other namespace t (sym says ∙ ap (λ (x : Letter). x.body) (same_letter m n is) ∙ told)

no_ask : (m : Letter) (a : Ask) → ask_in m.body ≡ Some a → IsNoTable (letter_input m)
no_ask m a asks n is namespace t told =
    let none : ask_in m.body ≡ None = ap (λ b. ask_in b) (ap (λ (x : Letter). x.body) (same_letter m n is) ∙ told) in
    cc (none, asks)

-- what comes does not come to the catalogue
abbrev pub IsToShard : Input → Type 0
IsToShard i = (m : Letter) → i ≡ letter_input m → m.receiver ≢ 0

module _ (s u : Shard) (i : Input) (mail : List Letter) (place : IsToShard i) where
  all_stay : u.tables ≡ s.tables → IsNoTable i → AllByRecursion (IsParkedAfter s u i mail) s.parked
  all_stay same other = all_from (IsParkedAfter s u i mail) s.parked (λ p there. inl (record {
    there = there;
    still = λ a asks none. ap (λ l. table_of a.namespace l) same ∙ none;
    not_come = λ a asks none m is brings.
        let told = a_table_told s.me a.namespace m.sender m.receiver m.body (place m is) brings in
        other m is a.namespace told.table told.is;
  }))

wanted_by_ask : (namespace : List ℕ) (p : Letter) (a : Ask) → ask_in p.body ≡ Some a → wants_table namespace p ≡ bytes_eq a.namespace namespace
wanted_by_ask namespace p a asks = ap (λ o. elim o as (λ (o : Option Ask). Bool) [ None ↦ false | Some b ↦ bytes_eq b.namespace namespace ]) asks

not_wanted : (namespace name : List ℕ) → not (bytes_eq name namespace) ≡ true → bytes_eq namespace name ≡ false
not_wanted namespace name other = by_test (bytes_eq namespace name) refl
  where
    by_test : (b : Bool) → bytes_eq namespace name ≡ b → b ≡ false
    by_test false is = refl
    by_test true is =
        let same : bytes_eq name namespace ≡ true = (bytes_eq-Decides name namespace).1 (sym ((bytes_eq-Decides namespace name).0 is)) in
        absurd (cc (same, other))

-- a table that is stored: what wanted it is tried again
learned : (s : Shard) (m : Letter) (namespace : List ℕ) (create : Bool) (at : At) (t : Table) (u : Shard) (mail : List Letter)
    → m.body ≡ table_told namespace create at (Some t) → m.receiver ≢ 0 → IsNamed m → u.tables ≡ with_table t s.tables
    → AllByRecursion (IsParkedAfter s u (letter_input m) mail) (filter (λ p. not (wants_table t.namespace p)) s.parked)
learned s m namespace create at t u mail says place named tables =
    all_weaken (λ (p : Letter). IsIn p s.parked × (not (wants_table t.namespace p) ≡ true)) (IsParkedAfter s u (letter_input m) mail)
    (filter (λ p. not (wants_table t.namespace p)) s.parked) (λ p h. inl (stays p h.0 h.1))
    (all_filtered (λ (p : Letter). IsIn p s.parked) (λ p. not (wants_table t.namespace p)) s.parked (all_from (λ (p : Letter). IsIn p s.parked) s.parked (λ p i. i)))
  where
    apart : (p : Letter) (a : Ask) → not (wants_table t.namespace p) ≡ true → ask_in p.body ≡ Some a → bytes_eq t.namespace a.namespace ≡ false
    apart p a other asks = not_wanted t.namespace a.namespace (ap (λ b. not b) (sym (wanted_by_ask t.namespace p a asks)) ∙ other)

    stays : (p : Letter) → IsIn p s.parked → not (wants_table t.namespace p) ≡ true → Stays s u (letter_input m) p
    stays p there other = record {
      there = there;
      still = λ a asks none.
          ap (λ l. table_of a.namespace l) tables ∙ (other_table a.namespace t s.tables (apart p a other asks) ∙ none);
      not_come = λ a asks none n is brings.
          let same = same_letter m n is in
          let told = a_table_told s.me a.namespace n.sender n.receiver n.body (λ e. place (ap (λ (x : Letter). x.receiver) same ∙ e)) brings in
          let body : table_told namespace create at (Some t) ≡ table_told a.namespace false no_time (Some told.table) =
          sym says ∙ (ap (λ (x : Letter). x.body) same ∙ told.is) in
          let name : namespace ≡ a.namespace = cc body in
          let yes : bytes_eq t.namespace a.namespace ≡ true =
          (bytes_eq-Decides t.namespace a.namespace).1 (named namespace create at t says ∙ name) in
          let no = apart p a other asks in
          absurd (cc (yes, no));
    }

-- a table that is not new: nothing waits for it
knew : (s : Shard) (m : Letter) (namespace : List ℕ) (create : Bool) (at : At) (table : Option Table) (u : Shard) (mail : List Letter)
    → m.body ≡ table_told namespace create at table → m.receiver ≢ 0 → IsNamed m → IsNoNews table s namespace → u.tables ≡ s.tables
    → AllByRecursion (IsParkedAfter s u (letter_input m) mail) s.parked
knew s m namespace create at table u mail says place named old tables =
    all_from (IsParkedAfter s u (letter_input m) mail) s.parked (λ p there. inl (record {
      there = there;
      still = λ a asks none. ap (λ l. table_of a.namespace l) tables ∙ none;
      not_come = λ a asks none n is brings.
          let same = same_letter m n is in
          let told = a_table_told s.me a.namespace n.sender n.receiver n.body (λ e. place (ap (λ (x : Letter). x.receiver) same ∙ e)) brings in
          let body : m.body ≡ table_told a.namespace false no_time (Some told.table) = ap (λ (x : Letter). x.body) same ∙ told.is in
          let name = named a.namespace false no_time told.table body in
          let both : table_told namespace create at table ≡ table_told a.namespace false no_time (Some told.table) = sym says ∙ body in
          let some : table ≡ Some told.table = cc both in
          let news : is_news told.table (table_of told.table.namespace s.tables) ≡ false = subst (λ o. IsNoNews o s namespace) some old in
          let none_there : table_of told.table.namespace s.tables ≡ None = ap (λ x. table_of x s.tables) name ∙ none in
          let is_new : is_news told.table (table_of told.table.namespace s.tables) ≡ true = ap (λ o. is_news told.table o) none_there in
          absurd (cc (news, is_new));
    }))

-- no table can be had: what does not want it stays
not_had : (s : Shard) (m : Letter) (namespace : List ℕ) (node : ℕ) (lack : Lack) (u : Shard) (mail : List Letter)
    → m.body ≡ refused (of_table namespace false no_time) (is_lack node lack) → m.receiver ≢ 0 → u.tables ≡ s.tables
    → AllByRecursion (IsParkedAfter s u (letter_input m) mail) (filter (λ p. not (wants_table namespace p)) s.parked)
not_had s m namespace node lack u mail says place tables =
    all_weaken (λ (p : Letter). IsIn p s.parked × (not (wants_table namespace p) ≡ true)) (IsParkedAfter s u (letter_input m) mail)
    (filter (λ p. not (wants_table namespace p)) s.parked) (λ p h. inl (record {
      there = h.0;
      still = λ a asks none. ap (λ l. table_of a.namespace l) tables ∙ none;
      not_come = λ a asks none n is brings.
          let same = same_letter m n is in
          let refuses : n.body ≡ refused (of_table namespace false no_time) (is_lack node lack) = sym (ap (λ (x : Letter). x.body) same) ∙ says in
          subst (λ b. Brings (a_table s.me a.namespace false no_time) n.sender n.receiver b) refuses brings;
    }))
    (all_filtered (λ (p : Letter). IsIn p s.parked) (λ p. not (wants_table namespace p)) s.parked (all_from (λ (p : Letter). IsIn p s.parked) s.parked (λ p i. i)))

pub shard_parked : (s : Shard) (i : Input) (f : Effect) (u : Shard) → IsToShard i → ((m : Letter) → i ≡ letter_input m → IsNamed m)
    → ((m : Letter) → i ≡ letter_input m → FitsThere s m) → ShardRow s i f u → AllByRecursion (IsParkedAfter s u i f.mail) u.parked
shard_parked _ _ _ u to named fit (shard_write s m id turn ordered namespace statements sent d dones made last body verdict serves) =
    all_stay s u (letter_input m) _ to refl (other_body m (write_ask id turn ordered namespace statements sent) body (λ n t e. cc e))
shard_parked _ _ _ u to named fit (shard_repeat s m id turn ordered namespace statements sent d dones body verdict again) =
    all_stay s u (letter_input m) _ to refl (other_body m (write_ask id turn ordered namespace statements sent) body (λ n t e. cc e))
shard_parked _ _ _ u to named fit (shard_empty s m id turn ordered namespace sent body) =
    all_stay s u (letter_input m) _ to refl (other_body m (write_ask id turn ordered namespace [] sent) body (λ n t e. cc e))
shard_parked _ _ _ u to named fit (shard_park s m a asks unseen old not_parked) =
    let there = fit m refl a asks in
    all_push (IsParkedAfter s u (letter_input m) _) s.parked m (all_stay s u (letter_input m) _ to refl (no_ask m a asks))
    (inr (record {
      came = refl;
      first = there.0;
      ask = a;
      asks = asks;
      none = none_where_old s.tables a (subst (λ n. verdict_of a.sent n (table_of a.namespace s.tables) ≡ shard_is_old) there.0 old) there.1;
      sent = only_among (asks_table s (heard s m) a.namespace) (a_table s.me a.namespace false no_time) (refl, refl);
    }))
shard_parked _ _ _ u to named fit (shard_waits s m a asks unseen old waits) = all_stay s u (letter_input m) _ to refl (no_ask m a asks)
shard_parked _ _ _ u to named fit (shard_stale s m a met asks unseen old) = all_stay s u (letter_input m) _ to refl (no_ask m a asks)
shard_parked _ _ _ u to named fit (shard_read s m id turn namespace at half sent body verdict covered) =
    all_stay s u (letter_input m) _ to refl (other_body m (read_ask id turn namespace at half sent) body (λ n t e. cc e))
shard_parked _ _ _ u to named fit (shard_read_above s m id turn namespace at half sent body verdict above) =
    all_stay s u (letter_input m) _ to refl (other_body m (read_ask id turn namespace at half sent) body (λ n t e. cc e))
shard_parked _ _ _ u to named fit (shard_rows s m id turn namespace at half documents rows body makes few) =
    all_stay s u (letter_input m) _ to refl (other_body m (half_ask id turn namespace at half documents) body (λ n t e. cc e))
shard_parked _ _ _ u to named fit (shard_excess s m id turn namespace at half documents rows length n body makes much told) =
    all_stay s u (letter_input m) _ to refl (other_body m (half_ask id turn namespace at half documents) body (λ n t e. cc e))
shard_parked _ _ _ u to named fit (shard_overflow s m id turn namespace at half documents body runs) =
    all_stay s u (letter_input m) _ to refl (other_body m (half_ask id turn namespace at half documents) body (λ n t e. cc e))
shard_parked _ _ _ u to named fit (shard_time s m id body) =
    all_stay s u (letter_input m) _ to refl (other_body m (time_ask id) body (λ n t e. cc e))
shard_parked _ _ _ u to named fit (shard_learn s m namespace create at t body news) =
    learned s m namespace create at t u _ body (to m refl) (named m refl) refl
shard_parked _ _ _ u to named fit (shard_known s m namespace create at table body old) =
    knew s m namespace create at table u _ body (to m refl) (named m refl) old refl
shard_parked _ _ _ u to named fit (shard_no_table s m namespace node lack body) = not_had s m namespace node lack u _ body (to m refl) refl
shard_parked _ _ _ u to named fit (shard_skip s m none) =
    all_stay s u (letter_input m) _ to refl (λ n is namespace t told.
    subst (λ b. AsksNothing b) (ap (λ (x : Letter). x.body) (same_letter m n is) ∙ told) none)
shard_parked _ _ _ u to named fit (shard_moment s moment) = all_stay s u _ _ to refl (λ m is. absurd (cc is))
shard_parked _ _ _ u to named fit (shard_opened s) = all_stay s u _ _ to refl (λ m is. absurd (cc is))
shard_parked _ _ _ u to named fit (shard_client s link number request) = all_stay s u _ _ to refl (λ m is. absurd (cc is))
