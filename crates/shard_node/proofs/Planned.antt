-- Rows that write nothing, as plans.
use Rattle.std.proofs.Common.{◌≡◌, ◌≤◌, ◌+◌, ℕ, List, [], ◌∷◌, ◌++◌, refl, sym, ap, subst, ◌∙◌, arith, length}
use Rattle.std.specs.Prelude.{map, Option, Some, None, Result, Ok, Err, IfOk, ◌==◌, Bool, true, false}
use Rattle.node_traits.specs.Ids.{id_view}
use Rattle.node_model.specs.History.{Entry}
use Rattle.std.proofs.Math.Nat.{le-max_left}
use Rattle.std.proofs.lemmas.Bool.{eqb-true}
use Rattle.std.specs.List.{AllByRecursion}
use Rattle.chunk_table.specs.Tables.{table_of}
use Rattle.chunk_table.specs.Verdicts.{Sent, fits, verdict_of}
use Rattle.node_model.specs.Service.{Serves, serves_no_more, serves_again, serves_new, ends_again, ends_new, entry_for}
use Rattle.node_model.specs.Times.{time_of_moment}
use Rattle.base_model.specs.Identities.{RequestId}
use Rattle.node_traits.specs.Effects.{AreReadable, puts_of, spellings}
use Rattle.node_traits.specs.Journal.{kept_entry}
use Rattle.node_traits.specs.Outcomes.{Done}
use Rattle.node_traits.specs.Steps.{IsFor, Step, shard_step, other_step}
use Rattle.shard_records.specs.Records.{record_of}
use Rattle.shard_records.specs.RecordFormat.{spelled}
use Rattle.shard_records.specs.Readable.{IsReadable}
use Rattle.shard_node.specs.Writes.{AreKept, spellings_of}
use Rattle.node_traits.specs.Letters as letters
use Rattle.node_traits.specs.Letters.{Letter, Body, Input, letter_input, table_told, write_ask, write_done, Effect, sends, writes, nothing}
use Rattle.command_replies.specs.Kinds.{given_view}
use Rattle.node_traits.specs.ShardRows.{Ask, AsksNothing, ShardRow, shard_write, shard_repeat, shard_empty, shard_park, shard_waits, shard_stale, shard_read, shard_read_above, shard_rows, shard_excess, shard_overflow, shard_time, shard_learn, shard_known, shard_no_table, shard_skip, shard_moment, shard_opened, shard_client, at_later, heard, says, ask_in, asks_again, asks_table}
use Rattle.node_traits.specs.States.{Shard, shard_state}
use Rattle.chunk_table.specs.VerdictMeanings.{sent_view}
use Rattle.protocol_model.specs.Bodies.{body_view, table_told_view}
use Rattle.protocol_model.specs.Tables.{at_view}
use Rattle.protocol_model.specs.Statements.{statement_view}
use Rattle.protocol_model.specs.declared.body.Body as bodies
use Rattle.protocol_model.specs.declared.body.Body.TheVariants as variants
use Rattle.protocol_model.specs.declared.statement.Statement.{Statement as Asked}
use Rattle.protocol_model.specs.declared.tables.TableTold.{TableTold}
use Rattle.protocol_model.specs.declared.writes.WriteAsk.{WriteAsk}
use Rattle.shard_store.specs.Plans.{IsPlan}
use Rattle.shard_store.specs.Stores.{entries_of, last_of}
use Rattle.shard_node.specs.declared.node.ShardNode.{ShardNode}
use Rattle.std.specs.Arc.{arc_value}
use Rattle.std.specs.Option.{option_map}
use Rattle.protocol_model.specs.Messages.{letter_of}
use Rattle.shard_node.specs.Plans.{changed, after, FollowsBy, IsPlanned, IsStep}
use Rattle.shard_node.specs.declared.plan.Change.{Change}
use Rattle.shard_node.specs.declared.plan.Change.TheVariants.{Nothing, Park, Learn, Release, Ceil, Write}
use Rattle.shard_node.specs.declared.plan.StepPlan.{StepPlan}

-- the shard changes nothing but its time
quiet_after : (s : Shard) (p : StepPlan) (time : ℕ) → p.time.0 ≡ time → p.change ≡ Nothing → at_later s time ≡ after s p
quiet_after s p time timed none = ap (λ (t : ℕ). at_later s t) (sym timed) ∙ ap (λ (c : Change). changed s p.time.0 c) (sym none)

-- a row that sends messages, and changes nothing but the time
pub sends_planned : (s : Shard) (i : Input) (p : StepPlan) (time : ℕ) (mail : List Letter) → p.time.0 ≡ time → p.change ≡ Nothing → p.records.items ≡ [] →
    mail ≡ map letter_of p.mail → ShardRow s i (sends mail) (at_later s time) → IsPlanned s i p
sends_planned s i p time mail timed none unwritten sent row = record {
  effect = sends mail;
  row = subst (λ (t : Shard). ShardRow s i (sends mail) t) (quiet_after s p time timed none) row;
  sent = sent;
  untold = refl;
  readable = tt;
  spelled = unwritten;
}

-- a row that sends nothing either
pub quiet_planned : (s : Shard) (i : Input) (p : StepPlan) (time : ℕ) → p.time.0 ≡ time → p.change ≡ Nothing → p.records.items ≡ [] →
    map letter_of p.mail ≡ [] → ShardRow s i nothing (at_later s time) → IsPlanned s i p
quiet_planned s i p time timed none unwritten unsent row = record {
  effect = nothing;
  row = subst (λ (t : Shard). ShardRow s i nothing t) (quiet_after s p time timed none) row;
  sent = sym unsent;
  untold = refl;
  readable = tt;
  spelled = unwritten;
}

-- a row that sends one message
pub told_planned : (s : Shard) (i : Input) (p : StepPlan) (to t time : ℕ) (body : Body) (l : Letter) → p.time.0 ≡ t → t ≡ time → p.change ≡ Nothing →
    p.records.items ≡ [] → map letter_of p.mail ≡ l ∷ [] → l ≡ says s to t body → ShardRow s i (sends (says s to time body ∷ [])) (at_later s time) → IsPlanned s i p
told_planned s i p to t time body l timed is none unwritten sent said row =
    sends_planned s i p time (says s to time body ∷ []) (timed ∙ is) none unwritten
    (sym (sent ∙ ap (λ (x : Letter). x ∷ []) (said ∙ ap (λ (u : ℕ). says s to u body) is))) row

-- the tables that are requested again, message by message
pub again_cons : (s : Shard) (time : ℕ) (m : Letter) (parked : List Letter) → asks_again s time (m ∷ []) ++ asks_again s time parked ≡ asks_again s time (m ∷ parked)
again_cons s time m parked = by_ask (ask_in m.body)
  where
    by_ask : (o : Option Ask) → (elim o [ None ↦ [] | Some a ↦ asks_table s time a.namespace ∷ [] ]) ++ asks_again s time parked
        ≡ (elim o [ None ↦ asks_again s time parked | Some a ↦ asks_table s time a.namespace ∷ asks_again s time parked ])
    by_ask None = refl
    by_ask (Some a) = refl

-- statements are served, with the records of their entries
pub write_planned : (s : Shard) (m : Letter) (p : StepPlan) (id : RequestId) (turn : ℕ) (ordered : Bool) (namespace : List ℕ) (statements : List letters.Statement) (sent : Sent) (time : ℕ)
    (dones : List Done) (made : List Entry) (last : ℕ) → time ≡ heard s m → m.body ≡ write_ask id turn ordered namespace statements sent
    → verdict_of sent s.me (table_of namespace s.tables) ≡ fits → Serves s.me namespace ordered s.entries time statements dones made last → (dones ≡ [] → ⊥) → AreKept made p.records.items
    → map letter_of p.mail ≡ says s id.router last (write_done id dones) ∷ []
    → after s p ≡ record { me = s.me; time = last; tables = s.tables; entries = s.entries ++ made; ceiling = s.ceiling; parked = s.parked } → IsPlanned s (letter_input m) p
write_planned s m p id turn ordered namespace statements sent time [] made last late body fits_it serves some kept mail is = absurd (some refl)
write_planned s m p id turn ordered namespace statements sent time (d ∷ dones) made last late body fits_it serves some kept mail is = record {
  effect = writes (map kept_entry made) (says s id.router last (write_done id (d ∷ dones)) ∷ []);
  row = subst (λ (t : Shard). ShardRow s (letter_input m) (writes (map kept_entry made) (says s id.router last (write_done id (d ∷ dones)) ∷ [])) t) (sym is)
      (shard_write s m id turn ordered namespace statements sent d dones made last body fits_it
      (subst (λ (n : ℕ). Serves s.me namespace ordered s.entries n statements (d ∷ dones) made last) late serves));
  sent = sym mail;
  untold = refl;
  readable = all_readable made kept.readable;
  spelled = kept.spelled ∙ same_spellings made;
}
  where
    all_readable : (es : List Entry) → AllByRecursion (λ e. IsReadable (record_of e)) es → AreReadable (map kept_entry es)
    all_readable [] all = tt
    all_readable (e ∷ es) all = (all.0, all_readable es all.1)

    same_spellings : (es : List Entry) → spellings_of es ≡ spellings (map kept_entry es)
    same_spellings [] = refl
    same_spellings (e ∷ es) = ap (λ (rs : List (List ℕ)). spelled 1 (record_of e) ∷ rs) (same_spellings es)

-- no row goes back in time
serves_later : (shard : ℕ) (namespace : List ℕ) (ordered : Bool) (entries : List Entry) (time : ℕ) (ss : List letters.Statement) (dones : List Done) (made : List Entry) (last : ℕ)
    → Serves shard namespace ordered entries time ss dones made last → time ≤ last
serves_later shard namespace ordered _ _ _ _ _ _ (serves_no_more entries time rest) = omega arith
serves_later shard namespace ordered _ _ _ _ _ _ (serves_again entries time s rest e dones made last seen on more) = serves_later shard namespace ordered entries time rest dones made last more
serves_later shard namespace ordered _ _ _ _ _ _ (serves_new entries time s rest dones made last unseen on more) =
    omega (arith, serves_later shard namespace ordered (entries ++ entry_for entries (time + 1) shard namespace s ∷ []) (time + 1) rest dones made last more)
serves_later shard namespace ordered _ _ _ _ _ _ (ends_again entries time s rest e seen on) = omega arith
serves_later shard namespace ordered _ _ _ _ _ _ (ends_new entries time s rest unseen on) = omega arith

row_later : (s t : Shard) (i : Input) (f : Effect) → ShardRow s i f t → s.time ≤ t.time
row_later _ _ _ _ (shard_write s m id turn ordered namespace statements sent d dones made last body fits_it serves) =
    let later = serves_later s.me namespace ordered s.entries (heard s m) statements (d ∷ dones) made last serves in
    omega (arith, later, le-max_left s.time m.time)
row_later _ _ _ _ (shard_repeat s m id turn ordered namespace statements sent d dones body old repeated) = le-max_left s.time m.time
row_later _ _ _ _ (shard_empty s m id turn ordered namespace sent body) = le-max_left s.time m.time
row_later _ _ _ _ (shard_park s m a ask unseen old new) = le-max_left s.time m.time
row_later _ _ _ _ (shard_waits s m a ask unseen old known) = le-max_left s.time m.time
row_later _ _ _ _ (shard_stale s m a met ask unseen old) = le-max_left s.time m.time
row_later _ _ _ _ (shard_read s m id turn namespace at half sent body fits_it covered) = le-max_left s.time m.time
row_later _ _ _ _ (shard_read_above s m id turn namespace at half sent body fits_it above) = le-max_left s.time m.time
row_later _ _ _ _ (shard_rows s m id turn namespace at half documents rows body is fewer) = le-max_left s.time m.time
row_later _ _ _ _ (shard_excess s m id turn namespace at half documents rows length n body is more told) = le-max_left s.time m.time
row_later _ _ _ _ (shard_overflow s m id turn namespace at half documents body over) = le-max_left s.time m.time
row_later _ _ _ _ (shard_time s m id body) = le-max_left s.time m.time
row_later _ _ _ _ (shard_learn s m namespace create at t body news) = le-max_left s.time m.time
row_later _ _ _ _ (shard_known s m namespace create at table body known) = le-max_left s.time m.time
row_later _ _ _ _ (shard_no_table s m namespace node lack body) = le-max_left s.time m.time
row_later _ _ _ _ (shard_skip s m none) = omega arith
row_later _ _ _ _ (shard_moment s moment) = le-max_left s.time (time_of_moment moment)
row_later _ _ _ _ (shard_opened s) = omega arith
row_later _ _ _ _ (shard_client s link number request) = omega arith

time_after : (s : Shard) (time : ℕ) (change : Change) → (changed s time change).time ≡ time
time_after s time Nothing = refl
time_after s time (Park message) = refl
time_after s time (Learn table) = refl
time_after s time (Release namespace) = refl
time_after s time (Ceil at) = refl
time_after s time (Write namespace entries) = refl

-- a row is a step, where the input is none of another node
pub row_step : (s : Shard) (i : Input) (p : StepPlan) → IsFor s.me i → IsPlanned s i p → IsStep s i p
row_step s i p for planned = (
  record {
    effect = planned.effect;
    step = shard_step s (after s p) i planned.effect for planned.row;
    sent = planned.sent;
    told = sym (ap (λ rs. puts_of rs) planned.untold);
    readable = planned.readable;
    spelled = planned.spelled;
  },
  subst (λ (n : ℕ). s.time ≤ n) (time_after s p.time.0 p.change) (row_later s (after s p) i planned.effect planned.row),
)

-- a message to another node
pub other_planned : (s : Shard) (m : Letter) (p : StepPlan) → (m.receiver ≡ s.me → ⊥) → p.time.0 ≡ s.time → p.change ≡ Nothing → p.records.items ≡ [] → map letter_of p.mail ≡ []
    → IsStep s (letter_input m) p
other_planned s m p other timed none unwritten unsent = (
  record {
    effect = nothing;
    step = subst (λ (t : Shard). Step (shard_state s) (letter_input m) nothing (shard_state t)) (quiet_after s p s.time timed none) (other_step (shard_state s) m other);
    sent = sym unsent;
    told = refl;
    readable = tt;
    spelled = unwritten;
  },
  omega (arith, timed),
)

-- no table arrives
pub none_told : (s : Shard) (m : Letter) (p : StepPlan) (told : TableTold) → m.body ≡ table_told_view told → told.table ≡ None → p.time.0 ≡ heard s m → p.change ≡ Nothing
    → p.records.items ≡ [] → map letter_of p.mail ≡ [] → IsPlanned s (letter_input m) p
none_told s m p told body none timed still unwritten unsent =
    quiet_planned s (letter_input m) p (heard s m) timed still unwritten unsent
    (shard_known s m told.namespace told.create (at_view told.at) None
    (body ∙ ap (λ o. table_told told.namespace told.create (at_view told.at) (option_map (λ t. arc_value t) o)) none) tt)

-- a request to write no statement
pub empty_planned : (s : Shard) (m : Letter) (p : StepPlan) (ask : WriteAsk) (body : bodies.Body) → body ≡ variants.WriteAsk ask → ask_in (body_view body) ≡ None → m.body ≡ body_view body
    → p.time.0 ≡ heard s m → p.change ≡ Nothing → p.records.items ≡ [] → map letter_of p.mail ≡ [] → IsPlanned s (letter_input m) p
empty_planned s m p ask body is none said timed still unwritten unsent =
    quiet_planned s (letter_input m) p (heard s m) timed still unwritten unsent
    (shard_empty s m (id_view ask.id) ask.turn ask.ordered ask.namespace (sent_view ask.sent)
    (said ∙ ap (λ (b : bodies.Body). body_view b) is
    ∙ ap (λ (xs : List Asked). write_ask (id_view ask.id) ask.turn ask.ordered ask.namespace (map (statement_view (given_view ask.number) (id_view ask.id)) xs) (sent_view ask.sent))
    (no_statement ask.statements.items (ap (λ (b : bodies.Body). ask_in (body_view b)) (sym is) ∙ none))))
  where
    no_statement : (items : List Asked) → ask_in (write_ask (id_view ask.id) ask.turn ask.ordered ask.namespace (map (statement_view (given_view ask.number) (id_view ask.id)) items) (sent_view ask.sent)) ≡ None
        → items ≡ []
    no_statement [] e = refl
    no_statement (x ∷ items) e = absurd cc

-- a message that requests nothing
pub skip_planned : (s : Shard) (m : Letter) (p : StepPlan) (body b : bodies.Body) → body ≡ b → AsksNothing (body_view b) → m.body ≡ body_view body
    → p.time.0 ≡ s.time → p.change ≡ Nothing → p.records.items ≡ [] → map letter_of p.mail ≡ [] → IsPlanned s (letter_input m) p
skip_planned s m p body b is nothing_asked said timed still unwritten unsent =
    quiet_planned s (letter_input m) p s.time timed still unwritten unsent
    (shard_skip s m (subst (λ (x : Body). AsksNothing x) (sym (said ∙ ap (λ (x : bodies.Body). body_view x) is)) nothing_asked))

-- an input that is no message comes to a step
pub quiet_step : (s : Shard) (i j : Input) (p : StepPlan) → j ≡ i → IsFor s.me i → ShardRow s i nothing s → p.time.0 ≡ s.time → p.change ≡ Nothing → p.records.items ≡ [] → map letter_of p.mail ≡ []
    → IsStep s j p
quiet_step s i j p is for row timed still unwritten unsent =
    subst (λ (x : Input). IsStep s x p) (sym is) (row_step s i p for (quiet_planned s i p s.time timed still unwritten unsent row))

pub ok_steps : {E : Type 0} (s : Shard) (i j : Input) (r : Result StepPlan E) → j ≡ i → IsFor s.me i → IfOk r (λ p. IsPlanned s i p) → IfOk r (λ p. IsStep s j p)
ok_steps s i j (Ok p) is for planned = subst (λ (x : Input). IsStep s x p) (sym is) (row_step s i p for planned)
ok_steps s i j (Err e) is for planned = tt

pub other_step_of : (s : Shard) (m : Letter) (j : Input) (p : StepPlan) → j ≡ letter_input m → (m.receiver ≡ s.me → ⊥) → p.time.0 ≡ s.time → p.change ≡ Nothing → p.records.items ≡ []
    → map letter_of p.mail ≡ [] → IsStep s j p
other_step_of s m j p is other timed still unwritten unsent = subst (λ (x : Input). IsStep s x p) (sym is) (other_planned s m p other timed still unwritten unsent)

-- what follows the entries of a shard follows those of one that is the same
pub follows_same : (n k : ShardNode) (time : ℕ) (change : Change) → entries_of k.store ≡ entries_of n.store → last_of k.store ≡ last_of n.store → FollowsBy n time change → FollowsBy k time change
follows_same n k time Nothing entries last follows = tt
follows_same n k time (Park message) entries last follows = tt
follows_same n k time (Learn table) entries last follows = tt
follows_same n k time (Release namespace) entries last follows = tt
follows_same n k time (Ceil at) entries last follows = tt
follows_same n k time (Write namespace plan) entries last follows = (
  subst (λ (es : List Entry). IsPlan es (last_of k.store) namespace plan) (sym entries)
      (subst (λ (t : ℕ). IsPlan (entries_of n.store) t namespace plan) (sym last) follows.0),
  follows.1,
)

pub is_none : {X : Type 0} (items : List X) (n : ℕ) → n ≡ length items → true ≡ (n == 0) → items ≡ []
is_none [] n long e = refl
is_none (x ∷ items) n long e = absurd (omega (arith, long, eqb-true n 0 (sym e)))

pub not_empty : {X Y : Type 0} (f : X → Y) (items : List X) (n : ℕ) → n ≡ length items → false ≡ (n == 0) → map f items ≡ [] → ⊥
not_empty f [] n long e none = absurd (let z : n ≡ 0 = long in cc)
not_empty f (x ∷ items) n long e none = absurd cc
