-- What a router heard of the times of shards: it stays true in each step of the router, and where all shards returned theirs, it is said of all.
use Rattle.std.proofs.Common.{◌≡◌, ◌≢◌, ◌⊎◌, inl, inr, ℕ, zero, suc, ◌+◌, ◌<◌, ◌≤◌, List, [], ◌∷◌, ◌++◌, refl, sym, ap, subst, ◌∙◌, arith, append-nil, Bool}
use Rattle.std.specs.Prelude.{true, false, not, ◌==◌, ◌||◌, if◌then◌else◌, max}
use Rattle.std.specs.List.{AllByRecursion, flat_map, list_any}
use Rattle.std.proofs.lemmas.Bool.{eqb-true}
use Rattle.history_model.proofs.Lists.{all_push, all_weaken, all_append, all_at, all_from, in_first, in_later, in_cons, in_none, in_prefix, in_back, in_append}
use Rattle.command_model.specs.Writes.{WriteCommand}
use Rattle.chunk_model.specs.Tables.{first_shard}
use Rattle.history_model.specs.History.{Entry, IsIn}
use Rattle.base_model.specs.Identities.{RequestId}
use Rattle.base_model.specs.Times.{time_of_moment}
use Rattle.reply_model.specs.Outcomes.{lack_refusal}
use Rattle.reply_model.specs.Exchanges.{Asked, Answered}
use Rattle.reply_model.specs.OneHistory.{ids_asked, AreDifferent}
use Rattle.node_model.specs.Letters.{time_told, Letter, Input, client_input, letter_input, moment_input, opened_input, Taken, Effect}
use Rattle.node_model.specs.States.{Open, Router, replaced, without}
use Rattle.node_model.specs.RouterRequests.{id_of, heard, places_from, untold, reached}
use Rattle.node_model.specs.RouterNext.{also_told, with_told, with_part, noted, served_in_part, settled, was_created, adopted, Next, stays, is_told, begins_work, next_of, stay_in, after_next, table_refused, at_moment}
use Rattle.node_model.specs.RouterRows.{opened_request, taken_now, RouterRow, router_begin, router_opened, router_plain, router_more, router_no_cursor, router_kill, router_take, router_learn, router_split, router_not_sharded, router_reach, router_hear, router_ahead, router_note, router_part, router_read, router_excess, router_overflow, router_refused, router_no_table, router_late, router_skip, router_moment}
use Rattle.node_model.specs.World.{asked_by, answered_by}
use Rattle.reply_facts.proofs.Requests.{one_asked}
use Rattle.node_laws.proofs.Views.{View, history_in}
use Rattle.node_laws.proofs.TimeFacts.{IsToldOf, IsPast, IsHeard, HasHeard}
use Rattle.node_laws.proofs.Requests.{answered_now}
use Rattle.node_laws.proofs.NextKeeps.{Continues, write_keeps, begins_keeps, next_keeps, refused_keeps, no_table_keeps, moment_keeps}
use Rattle.node_laws.proofs.OpenRequests.{open_of_found, all_without, all_replaced}

-- THE SHARDS THAT RETURNED THEIR TIME

-- what holds of those before, and of one more
pub all_also_told : (P : ℕ → Type 0) (told : List ℕ) (shard : ℕ) → AllByRecursion P told → P shard → AllByRecursion P (also_told told shard)
all_also_told P told shard all one = by_test (list_any (λ t. t == shard) told)
  where
    by_test : (b : Bool) → AllByRecursion P (if b then told else told ++ shard ∷ [])
    by_test true = all
    by_test false = all_push P told shard all one

was_told : (P : ℕ → Type 0) (told : List ℕ) (shard : ℕ) → list_any (λ t. t == shard) told ≡ true → AllByRecursion P told → P shard
was_told P [] shard is all = absurd (cc)
was_told P (t ∷ told) shard is all = by_test (t == shard) refl is (λ more. was_told P told shard more all.1)
  where
    by_test : (b : Bool) → (t == shard) ≡ b → (b || list_any (λ u. u == shard) told) ≡ true → (list_any (λ u. u == shard) told ≡ true → P shard) → P shard
    by_test true h is later = subst P (eqb-true t shard h) all.0
    by_test false h is later = later is

-- where none is left, what holds of those that returned it holds of all
pub all_told : (P : ℕ → Type 0) (told shards : List ℕ) → untold told shards ≡ [] → AllByRecursion P told → AllByRecursion P shards
all_told P told [] none all = tt
all_told P told (s ∷ shards) none all = by_test (list_any (λ t. t == s) told) refl none (λ rest. all_told P told shards rest all)
  where
    by_test : (b : Bool) → list_any (λ t. t == s) told ≡ b → (if not b then s ∷ untold told shards else untold told shards) ≡ []
        → (untold told shards ≡ [] → AllByRecursion P shards) → AllByRecursion P (s ∷ shards)
    by_test true h none later = (was_told P told s h all, later none)
    by_test false h none later = absurd (cc)

-- the first shard is one of all
pub first_of_all : (P : ℕ → Type 0) (count : ℕ) → 0 < count → AllByRecursion P (places_from first_shard count) → P first_shard
first_of_all P zero some all = absurd (omega arith)
first_of_all P (suc count) some all = all.0

-- A STEP OF THE ROUTER

-- An open request after a step: one from before, with the shards that had returned their time to it; or a new one, with none; or one from before to which a
-- message returned the time of one more.
pub data IsFrom (r : Router) (i : Input) (f : Effect) (s : Router) (p : Open) : Type 0 where
  from_before : (q : Open) → IsIn q r.requests → p.count ≡ q.count → p.told ≡ q.told → IsFrom r i f s p
  from_request : (x : Taken) → IsIn x f.taken → x.id ≡ id_of r p.count → p.told ≡ [] → IsFrom r i f s p
  from_time : (q : Open) (m : Letter) → IsIn q r.requests → i ≡ letter_input m → m.body ≡ time_told (id_of r q.count) → m.time ≤ s.time
      → p.count ≡ q.count → p.told ≡ also_told q.told m.sender → IsFrom r i f s p

-- what a step leaves of the times of shards
pub record LeavesTimes (r : Router) (i : Input) (f : Effect) (s : Router) : Type 0 where
  pub same : (n : ℕ) → id_of r n ≡ id_of s n
  pub shards : s.shards ≡ r.shards
  pub later : r.time ≤ s.time
  pub requests : AllByRecursion (IsFrom r i f s) s.requests

module _ (r : Router) (i : Input) (f : Effect) (s : Router) where
  same_from : (q : Open) → IsIn q r.requests → IsFrom r i f s q
  same_from q stands = from_before q stands refl refl

  all_from_before : AllByRecursion (IsFrom r i f s) r.requests
  all_from_before = all_from (IsFrom r i f s) r.requests same_from

  from_replaced : (p : Open) → IsFrom r i f s p → AllByRecursion (IsFrom r i f s) (replaced p r.requests)
  from_replaced p own =
      all_replaced (IsFrom r i f s) p r.requests own (all_from (λ (q : Open). q.count ≢ p.count → IsFrom r i f s q) r.requests (λ q stands other. same_from q stands))

  from_without : (count : ℕ) → AllByRecursion (IsFrom r i f s) (without count r.requests)
  from_without count = all_without (IsFrom r i f s) count r.requests all_from_before

  from_next : (time : ℕ) (next : Open → Next) → ((q : Open) → Continues r time q (next q)) → (requests : List Open) → AllByRecursion (λ q. IsIn q r.requests) requests
      → AllByRecursion (IsFrom r i f s) (flat_map (λ q. stay_in (next q)) requests)
  from_next time next keeps [] all = tt
  from_next time next keeps (q ∷ requests) all =
      all_append (IsFrom r i f s) (stay_in (next q)) (flat_map (λ p. stay_in (next p)) requests) (by_next (next q) (keeps q)) (from_next time next keeps requests all.1)
    where
      by_next : (n : Next) → Continues r time q n → AllByRecursion (IsFrom r i f s) (stay_in n)
      by_next (stays p letters) is = (from_before q all.0 is.count is.told, tt)
      by_next (is_told reply) is = tt

  -- one of them continues
  from_after : (time : ℕ) (q : Open) (next : Next) → IsIn q r.requests → Continues r time q next → AllByRecursion (IsFrom r i f s) (after_next q next r.requests)
  from_after time q (stays p letters) stands is = from_replaced p (from_before q stands is.count is.told)
  from_after time q (is_told reply) stands is = from_without q.count

  -- a new one begins
  from_taken : (time : ℕ) (x : Taken) (q : Open) (next : Next) → IsIn x f.taken → x.id ≡ id_of r q.count → q.told ≡ [] → Continues r time q next
      → AllByRecursion (IsFrom r i f s) (stay_in next)
  from_taken time x q (stays p letters) stands own none is =
      (from_request x stands (own ∙ ap (λ n. id_of r n) (sym is.count)) (is.told ∙ none), tt)
  from_taken time x q (is_told reply) stands own none is = tt

-- where no open request changes
pub leaves_all : (r : Router) (i : Input) (f : Effect) (s : Router) → ((n : ℕ) → id_of r n ≡ id_of s n) → s.shards ≡ r.shards → r.time ≤ s.time
    → s.requests ≡ r.requests → LeavesTimes r i f s
leaves_all r i f s same shards later requests = record {
  same = same;
  shards = shards;
  later = later;
  requests = subst (λ l. AllByRecursion (IsFrom r i f s) l) (sym requests) (all_from_before r i f s);
}

pub row_times : (r s : Router) (i : Input) (f : Effect) → RouterRow r i f s → LeavesTimes r i f s
row_times _ _ _ _ (router_begin r nb) = leaves_all r _ _ _ (λ n. refl) refl (omega arith) refl
row_times _ _ _ _ (router_opened r b) = leaves_all r _ _ _ (λ n. refl) refl (omega arith) refl
row_times _ _ _ _ (router_plain r link number request answer b p) = leaves_all r _ _ _ (λ n. refl) refl (omega arith) (append-nil r.requests)
row_times _ _ _ _ (router_more r link number request get c batch next b p found shows) =
    leaves_all r _ _ _ (λ n. refl) refl (omega arith) (append-nil r.requests)
row_times _ _ _ _ (router_no_cursor r link number request get b p none) = leaves_all r _ _ _ (λ n. refl) refl (omega arith) (append-nil r.requests)
row_times _ _ _ _ (router_kill r link number request kill killed missing next b p ends) =
    leaves_all r _ _ _ (λ n. refl) refl (omega arith) (append-nil r.requests)
row_times _ _ _ _ (router_take r link number request namespace work b p) = record {
  same = λ n. refl;
  shards = refl;
  later = omega arith;
  requests = all_append _ r.requests (stay_in (begins_work r r.time (opened_request r link number request namespace work) work)) (all_from_before r _ _ _)
      (from_taken r _ _ _ r.time (taken_now r link number request) (opened_request r link number request namespace work)
      (begins_work r r.time (opened_request r link number request namespace work) work) (in_first (taken_now r link number request) []) refl refl
      (begins_keeps r r.time (opened_request r link number request namespace work) work));
}
row_times _ _ _ _ (router_learn r m namespace create at table says) = record {
  same = λ n. refl;
  shards = refl;
  later = omega arith;
  requests = from_next r _ _ _ (heard r m) (λ q. next_of r (heard r m) (adopted table r.tables) namespace (was_created create table) at q)
      (λ q. next_keeps r (heard r m) (adopted table r.tables) namespace (was_created create table) at q) r.requests
      (all_from (λ q. IsIn q r.requests) r.requests (λ q stands. stands));
}
row_times _ _ _ _ (router_split r m id q middle says o work) =
    record { same = λ n. refl; shards = refl; later = omega arith; requests = from_without r _ _ _ q.count }
row_times _ _ _ _ (router_not_sharded r m id q middle says o work) =
    record { same = λ n. refl; shards = refl; later = omega arith; requests = from_without r _ _ _ q.count }
row_times _ _ _ _ (router_reach r m id q named at stages telling says o w t le) = record {
  same = λ n. refl;
  shards = refl;
  later = omega arith;
  requests = from_after r _ _ _ (heard r m) q (begins_work r (heard r m) q (reached (heard r m) q.work)) (open_of_found r id q o).stands
      (begins_keeps r (heard r m) q (reached (heard r m) q.work));
}
row_times _ _ _ _ (router_hear r m id q named at stages telling says o w t le some) = record {
  same = λ n. refl;
  shards = refl;
  later = omega arith;
  requests = from_replaced r _ _ _ (with_told q m.sender)
      (from_time q m (open_of_found r id q o).stands refl (says ∙ ap (λ n. time_told n) (open_of_found r id q o).own) (omega arith) refl refl);
}
row_times _ _ _ _ (router_ahead r m id q named at stages telling says o w t le all) =
    record { same = λ n. refl; shards = refl; later = omega arith; requests = from_without r _ _ _ q.count }
row_times _ _ _ _ (router_note r m id dones q kind ordered statements c next says o w n is) = record {
  same = λ n. refl;
  shards = refl;
  later = omega arith;
  requests = from_after r _ _ _ (heard r m) q next (open_of_found r id q o).stands
      (subst (λ x. Continues r (heard r m) q x) (sym is)
      (write_keeps r (heard r m) r.tables ordered (served_in_part (noted ordered c.answers dones) c.runs) q kind ordered statements
      (settled c (noted ordered c.answers dones))));
}
row_times _ _ _ _ (router_part r m id rows q named at stages telling says o w target some) = record {
  same = λ n. refl;
  shards = refl;
  later = omega arith;
  requests = from_replaced r _ _ _ (with_part q m.sender rows) (from_before q (open_of_found r id q o).stands refl refl);
}
row_times _ _ _ _ (router_read r m id rows q named at stages telling all out answer f says o w target whole got merged tells) =
    record { same = λ n. refl; shards = refl; later = omega arith; requests = from_without r _ _ _ q.count }
row_times _ _ _ _ (router_excess r m id rows n q named at stages telling says o w target whole got) =
    record { same = λ n. refl; shards = refl; later = omega arith; requests = from_without r _ _ _ q.count }
row_times _ _ _ _ (router_overflow r m id rows q named at stages telling says o w target whole got) =
    record { same = λ n. refl; shards = refl; later = omega arith; requests = from_without r _ _ _ q.count }
row_times _ _ _ _ (router_refused r m id turn first cause q next says o is) = record {
  same = λ n. refl;
  shards = refl;
  later = omega arith;
  requests = from_after r _ _ _ (heard r m) q next (open_of_found r id q o).stands (refused_keeps r (heard r m) q m.sender turn first cause next is);
}
row_times _ _ _ _ (router_no_table r m namespace create at node lack says) = record {
  same = λ n. refl;
  shards = refl;
  later = omega arith;
  requests = from_next r _ _ _ (heard r m) (λ q. table_refused r (heard r m) namespace create at (lack_refusal node lack) q)
      (λ q. no_table_keeps r (heard r m) namespace create at (lack_refusal node lack) q) r.requests
      (all_from (λ q. IsIn q r.requests) r.requests (λ q stands. stands));
}
row_times _ _ _ _ (router_late r m l) = leaves_all r _ _ _ (λ n. refl) refl (omega arith) refl
row_times _ _ _ _ (router_skip r m s) = leaves_all r _ _ _ (λ n. refl) refl (omega arith) refl
row_times _ _ _ _ (router_moment r moment b) = record {
  same = λ n. refl;
  shards = refl;
  later = omega arith;
  requests = from_next r _ _ _ (max r.time (time_of_moment moment)) (λ q. at_moment r (max r.time (time_of_moment moment)) moment q)
      (λ q. moment_keeps r (max r.time (time_of_moment moment)) moment q) r.requests (all_from (λ q. IsIn q r.requests) r.requests (λ q stands. stands));
}

-- WHAT IS KNOWN OF THE TIMES

-- what a message says of the times of its sender
abbrev pub TellsTime : View → List Asked → List Answered → Input → Type 0
TellsTime v asked answered (letter_input m) =
    (id : RequestId) → m.body ≡ time_told id → (a : Asked) × IsIn a asked × (a.id ≡ id) × IsPast v m.sender answered a m.time
TellsTime v asked answered (client_input link number request) = Unit {0}
TellsTime v asked answered (moment_input moment) = Unit {0}
TellsTime v asked answered opened_input = Unit {0}

-- a request that is taken is one that was requested
taken_asked : (now : ℕ) (taken : List Taken) (x : Taken) → IsIn x taken → (a : Asked) × IsIn a (asked_by now taken) × (a.id ≡ x.id)
taken_asked now [] x i = absurd (in_none x i)
taken_asked now (y ∷ taken) x i = by_first (in_cons x y taken i) (λ j. taken_asked now taken x j)
  where
    one : Taken → Asked
    one z = record { id = z.id; link = z.link; number = z.number; came = now; time = z.time; moment = z.moment; request = z.request }

    by_first : (x ≡ y) ⊎ IsIn x taken → (IsIn x taken → (a : Asked) × IsIn a (asked_by now taken) × (a.id ≡ x.id))
        → (a : Asked) × IsIn a (asked_by now (y ∷ taken)) × (a.id ≡ x.id)
    by_first (inl same) later = (one y, in_first (one y) (asked_by now taken), ap (λ (z : Taken). z.id) (sym same))
    by_first (inr j) later = let a = later j in (a.0, in_later a.0 (one y) (asked_by now taken) a.1, a.2)

-- A later view, in which the history is the same, where more is requested and replied in a step.
module _ (u v : View) (asked more : List Asked) (answered news : List Answered) (now : ℕ) (stored : history_in v ≡ history_in u)
    (came : AllByRecursion (λ (a : Asked). a.came < now + 1) asked) (steps : AllByRecursion (λ (t : Answered). t.step ≡ now) news)
    (one : AreDifferent (ids_asked asked)) where
  past_here : (a : Asked) (shard early late : ℕ) → IsIn a asked → early ≤ late → IsPast u shard answered a early → IsPast v shard (answered ++ news) a late
  past_here a shard early late taken le past = λ s write index e i before stands own told.
      by_place s write index e before stands own told (in_append s answered news i)
    where
      by_place : (s : Answered) (write : WriteCommand) (index : ℕ) (e : Entry) → s.step < a.came → IsIn e (history_in v) → e.shard ≡ shard
          → IsToldOf s write index e → IsIn s answered ⊎ IsIn s news → e.time ≤ late
      by_place s write index e before stands own told (inl j) =
          let at_most : e.time ≤ early = past s write index e j before (subst (λ l. IsIn e l) stored stands) own told in omega arith
      by_place s write index e before stands own told (inr j) =
          let at : s.step ≡ now = all_at (λ (x : Answered). x.step ≡ now) s news steps j in
          let first : a.came < now + 1 = all_at (λ (x : Asked). x.came < now + 1) a asked came taken in
          absurd (omega arith)

  -- of the shards that had returned their time, and of one more
  heard_past : (r : Router) (late : ℕ) (q : Open) → r.time ≤ late → (h : IsHeard u asked answered r q)
      → AllByRecursion (λ shard. IsPast v shard (answered ++ news) h.request late) q.told
  heard_past r late q later h =
      all_weaken (λ shard. IsPast u shard answered h.request r.time) (λ shard. IsPast v shard (answered ++ news) h.request late) q.told
      (λ shard past. past_here h.request shard r.time late h.taken later past) h.past

  pub told_past : (r : Router) (late : ℕ) (q : Open) (m : Letter) → r.time ≤ late → m.time ≤ late → m.body ≡ time_told (id_of r q.count)
      → TellsTime u asked answered (letter_input m) → (h : IsHeard u asked answered r q)
      → AllByRecursion (λ shard. IsPast v shard (answered ++ news) h.request late) (also_told q.told m.sender)
  told_past r late q m later le says tells h =
      let t = tells (id_of r q.count) says in
      let same : t.0 ≡ h.request = one_asked t.0 h.request asked one t.1 h.taken (t.2 ∙ sym h.own) in
      all_also_told (λ shard. IsPast v shard (answered ++ news) h.request late) q.told m.sender (heard_past r late q later h)
      (past_here h.request m.sender m.time late h.taken le (subst (λ a. IsPast u m.sender answered a m.time) same t.3))

-- a step of the router keeps it
pub still_heard : (u v : View) (asked : List Asked) (answered : List Answered) (now : ℕ) (r s : Router) (i : Input) (f : Effect)
    → history_in v ≡ history_in u → AllByRecursion (λ (a : Asked). a.came < now + 1) asked → AreDifferent (ids_asked asked) → TellsTime u asked answered i
    → HasHeard u asked answered r → LeavesTimes r i f s → HasHeard v (asked ++ asked_by now f.taken) (answered ++ answered_by now f.replies) s
still_heard u v asked answered now r s i f stored came one tells h leaves = record {
  some = subst (λ n. 0 < n) (sym leaves.shards) h.some;
  requests = all_weaken (IsFrom r i f s) (IsHeard v (asked ++ asked_by now f.taken) (answered ++ answered_by now f.replies) s) s.requests
      (λ p from. by_from p from) leaves.requests;
}
  where
    was_heard : (q : Open) → IsIn q r.requests → IsHeard u asked answered r q
    was_heard q stands = all_at (IsHeard u asked answered r) q r.requests h.requests stands

    by_from : (p : Open) → IsFrom r i f s p → IsHeard v (asked ++ asked_by now f.taken) (answered ++ answered_by now f.replies) s p
    by_from p (from_before q stands count told) = let g = was_heard q stands in record {
      request = g.request;
      taken = in_prefix g.request asked (asked_by now f.taken) g.taken;
      own = g.own ∙ leaves.same q.count ∙ ap (λ n. id_of s n) (sym count);
      past = subst (λ l. AllByRecursion (λ shard. IsPast v shard (answered ++ answered_by now f.replies) g.request s.time) l) (sym told)
          (heard_past u v asked (asked_by now f.taken) answered (answered_by now f.replies) now stored came (answered_now now f.replies) one r s.time q leaves.later g);
    }
    by_from p (from_request x stands own told) = let a = taken_asked now f.taken x stands in record {
      request = a.0;
      taken = in_back a.0 asked (asked_by now f.taken) a.1;
      own = a.2 ∙ own ∙ leaves.same p.count;
      past = subst (λ l. AllByRecursion (λ shard. IsPast v shard (answered ++ answered_by now f.replies) a.0 s.time) l) (sym told) tt;
    }
    by_from p (from_time q m stands is says le count told) = let g = was_heard q stands in record {
      request = g.request;
      taken = in_prefix g.request asked (asked_by now f.taken) g.taken;
      own = g.own ∙ leaves.same q.count ∙ ap (λ n. id_of s n) (sym count);
      past = subst (λ l. AllByRecursion (λ shard. IsPast v shard (answered ++ answered_by now f.replies) g.request s.time) l) (sym told)
          (told_past u v asked (asked_by now f.taken) answered (answered_by now f.replies) now stored came (answered_now now f.replies) one r s.time q m leaves.later le
          says (subst (λ j. TellsTime u asked answered j) is tells) g);
    }
