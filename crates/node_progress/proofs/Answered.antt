-- Where no message is left, every request is answered and every write is served.
use Rattle.std.proofs.Common.{◌≡◌, ◌⊎◌, inl, inr, ℕ, ◌<◌, List, [], ◌∷◌, length, sym, subst}
use Rattle.std.specs.List.{AllByRecursion}
use Rattle.history_model.proofs.Lists.{all_weaken, in_first, in_later, in_cons, in_none, in_prefix}
use Rattle.history_model.specs.History.{IsIn}
use Rattle.base_model.specs.Identities.{RequestId}
use Rattle.reply_model.specs.Exchanges.{Asked, Answered}
use Rattle.reply_model.specs.OneHistory.{ids_told}
use Rattle.node_model.specs.Letters.{Body, table_ask, table_told, split_ask, split_done, write_ask, write_done, read_ask, half_ask, read_rows, refused, of_request, of_table, is_stale, is_lack, time_ask, time_told, Input, Letter}
use Rattle.node_model.specs.World.{World, asked_by, answered_by, Moves, Misses, Meets, Event, Happens, comes, delivers, passes, begins as was_opened, Run, stands, goes, account_of}
use Rattle.reply_facts.proofs.Freshness.{tells_its_write}
use Rattle.node_laws.proofs.Lists.{all_within}
use Rattle.node_laws.proofs.Others.{told_more}
use Rattle.node_laws.proofs.StepsKeep.{StaysTrue}
use Rattle.restart_laws.proofs.Kept.{events_keep as run_keeps}
use Rattle.node_laws.proofs.Views.{View, view_of}
use Rattle.node_laws.proofs.Facts.{BodyFits, SentFits}
use Rattle.node_laws.proofs.Runs.{makes_one_history}
use Rattle.node_progress.specs.Completion.{IsAnswered, IsServed, AreAnswered, asked_since}
use Rattle.node_progress.specs.Firsts.{IsFirst}
use Rattle.node_progress.specs.UnderWay.{IsLeft, IsDelivered, IsNotStale}
use Rattle.node_progress.proofs.Bags.{all_of, changes_made, IsPosted, posted_to, Bag}
use Rattle.node_progress.proofs.BagRuns.{run_bag, any_bag}
use Rattle.node_progress.proofs.Firsts.{first_true, first_rests, first_shards}
use Rattle.node_progress.proofs.Lives.{TakenSince, taken_since}
use Rattle.node_progress.proofs.Progress.{bag_under_way, all_answered, all_quiet}

-- WHAT AN ANSWERED REQUEST HAS

told_in : (id : RequestId) (answered : List Answered) → IsIn id (ids_told answered) → (t : Answered) × IsIn t answered × (t.id ≡ id)
told_in id [] there = absurd (in_none id there)
told_in id (t ∷ answered) there = by_place (in_cons id t.id (ids_told answered) there) (λ later. told_in id answered later)
  where
    by_place : (id ≡ t.id) ⊎ IsIn id (ids_told answered) → (IsIn id (ids_told answered) → (x : Answered) × IsIn x answered × (x.id ≡ id))
        → (x : Answered) × IsIn x (t ∷ answered) × (x.id ≡ id)
    by_place (inl same) later = (t, in_first t answered, sym same)
    by_place (inr there) later = let x = later there in (x.0, in_later x.0 t answered x.1, x.2)

-- a write that was answered was served whole
pub answered_served : (w : World) → StaysTrue w → (a : Asked) → IsIn a w.asked → IsAnswered w.answered a
    → IsServed (account_of w) a
answered_served w good a taken done = λ write asks.
    let told = told_in a.id w.answered done in
    let x = tells_its_write (account_of w) (makes_one_history w good) a told.0 write (record { taken = taken; told = told.1; own = sym told.2 }) asks in
    record { tells = record { answer = told.0; told = told.1; own = told.2; dones = x.dones; tells = x.tells }; whole = x.whole }

-- WHERE NO MESSAGE IS LEFT

pub are_answered : (first : World) (left : ℕ → Type 0) (w : World) → StaysTrue w → Bag (all_of left) w → TakenSince first w
    → ((n : ℕ) → n < length w.sent → left n → ⊥) → AreAnswered first w
are_answered first left w good bag taken none =
    let under = bag_under_way left w good.0.book good.0.good bag first taken in
    let all = all_answered first left w none under in
    record {
      answered = all;
      served = all_within (IsAnswered w.answered) (IsServed (account_of w)) (asked_since first w)
          (λ a there done. answered_served w good a (taken.among a there) done) all;
      quiet = all_quiet first left w none under;
    }

pub delivered_runs_are_answered : (first : World) (events : List Event) (w : World) → IsFirst first → Run first events w → w.missed ≡ first.missed
    → ((n : ℕ) → n < length w.sent → IsDelivered events n) → AreAnswered first w
delivered_runs_are_answered first events w is run missed all =
    let good = first_true first is in
    let b = run_bag first good (first_rests first is) (first_shards first is) events w run missed in
    are_answered first (IsLeft events) w b.true_there b.bag (taken_since first good events w run) (λ n below left. let d = all n below in left d.0 d.1)

-- WHAT IS TRUE OF EVERY MESSAGE

not_stale : (v : View) (asked : List Asked) (sender receiver time : ℕ) (b : Body) → BodyFits v asked sender receiver time b → IsNotStale b
not_stale v asked sender receiver time (refused (of_request id turn first) (is_stale met)) fits = fits
not_stale v asked sender receiver time (refused (of_request id turn first) (is_lack node lack)) fits = tt
not_stale v asked sender receiver time (refused (of_table namespace create at) cause) fits = tt
not_stale v asked sender receiver time (table_ask namespace create at) fits = tt
not_stale v asked sender receiver time (table_told namespace create at table) fits = tt
not_stale v asked sender receiver time (split_ask id namespace middle) fits = tt
not_stale v asked sender receiver time (split_done id found) fits = tt
not_stale v asked sender receiver time (write_ask id turn ordered namespace statements sent) fits = tt
not_stale v asked sender receiver time (write_done id dones) fits = tt
not_stale v asked sender receiver time (read_ask id turn namespace at half sent) fits = tt
not_stale v asked sender receiver time (half_ask id turn namespace at half documents) fits = tt
not_stale v asked sender receiver time (read_rows id turn rows) fits = tt
not_stale v asked sender receiver time (time_ask id) fits = tt
not_stale v asked sender receiver time (time_told id) fits = tt

pub none_is_sent_back : (first : World) (events : List Event) (w : World) → IsFirst first → Run first events w
    → AllByRecursion (λ (m : Letter). IsNotStale m.body) w.sent
none_is_sent_back first events w is run =
    let good = run_keeps first w events (first_true first is) run in
    let v : View = view_of w.nodes good.0.book in
    all_weaken (SentFits v w.changed w.asked w.answered w.given) (λ (m : Letter). IsNotStale m.body) w.sent
    (λ m fits. not_stale v w.asked m.sender m.receiver m.time m.body fits.0) good.0.good.letters

pub messages_go_to_nodes : (first : World) (events : List Event) (w : World) → IsFirst first → Run first events w
    → AllByRecursion (λ (m : Letter). m.receiver < length w.nodes) w.sent
messages_go_to_nodes first events w is run =
    let b = any_bag first (first_true first is) (first_rests first is) (first_shards first is) events w run in
    all_weaken (IsPosted b.left (changes_made w) (length w.nodes)) (λ (m : Letter). m.receiver < length w.nodes) w.sent
    (λ m x. posted_to b.left (changes_made w) (length w.nodes) m x) b.there.bag.well

-- WHAT COMES LATER

-- a request that was taken and answered
record WasAnswered (w : World) (a : Asked) : Type 0 where
  taken : IsIn a w.asked
  done : IsAnswered w.answered a

move_stays : (u v : World) (at : ℕ) (i : Input) (a : Asked) → WasAnswered u a → Moves u at i v → WasAnswered v a
move_stays u v at i a was m =
    subst (λ x. WasAnswered x a) (sym m.then)
    (record { taken = in_prefix a u.asked (asked_by u.now m.f.taken) was.taken; done = told_more a.id u.answered (answered_by u.now m.f.replies) was.done })

miss_stays : (u v : World) (at : ℕ) (i : Input) (a : Asked) → WasAnswered u a → Misses u at i v → WasAnswered v a
miss_stays u v at i a was m = subst (λ x. WasAnswered x a) (sym m.then) (record { taken = was.taken; done = was.done })

meet_stays : (u v : World) (at : ℕ) (i : Input) (a : Asked) → WasAnswered u a → Meets u at i v → WasAnswered v a
meet_stays u v at i a was (inl m) = move_stays u v at i a was m
meet_stays u v at i a was (inr m) = miss_stays u v at i a was m

happens_stays : (u v : World) (e : Event) (a : Asked) → WasAnswered u a → Happens u e v → WasAnswered v a
happens_stays _ _ _ a was (comes u v at link number request is m) = meet_stays u v at _ a was m
happens_stays _ _ _ a was (delivers u v at which letter got to m) = meet_stays u v at _ a was m
happens_stays _ _ _ a was (passes u v at moment m) = meet_stays u v at _ a was m
happens_stays _ _ _ a was (was_opened u v at m) = meet_stays u v at _ a was m

run_stays : (u : World) (es : List Event) (w : World) (a : Asked) → WasAnswered u a → Run u es w → WasAnswered w a
run_stays _ _ _ a was (stands w) = was
run_stays _ _ _ a was (goes u v w e es h run) = run_stays v es w a (happens_stays u v e a was h) run

pub stay_answered : (u : World) (es : List Event) (w : World) → StaysTrue w → Run u es w → (asked : List Asked) → ((a : Asked) → IsIn a asked → IsIn a u.asked)
    → AllByRecursion (IsAnswered u.answered) asked
    → AllByRecursion (IsAnswered w.answered) asked × AllByRecursion (IsServed (account_of w)) asked
stay_answered u es w good run asked among all = (
  all_within (IsAnswered u.answered) (IsAnswered w.answered) asked
      (λ a there done. (run_stays u es w a (record { taken = among a there; done = done }) run).done) all,
  all_within (IsAnswered u.answered) (IsServed (account_of w)) asked
      (λ a there done.
      let now = run_stays u es w a (record { taken = among a there; done = done }) run in
      answered_served w good a now.taken now.done) all,
)
