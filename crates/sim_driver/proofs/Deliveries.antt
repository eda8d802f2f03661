-- Deliveries in order of sending, but for those before.
use Rattle.std.proofs.Common.{◌≡◌, inl, inr, ℕ, zero, suc, ◌+◌, ◌<◌, ◌≤◌, List, [], ◌∷◌, ◌++◌, length, refl, sym, ap, subst, ◌∙◌, arith}
use Rattle.std.proofs.Common.{add-one, append-nil, true, false}
use Rattle.std.specs.Prelude.{Bool, Option, Some, ◌||◌}
use Rattle.std.specs.List.{slice_get}
use Rattle.std.proofs.lemmas.Option.{slice_get_within}
use Rattle.node_model.specs.Letters.{Letter}
use Rattle.node_model.specs.World.{World, Event, deliver_event, Happens, Run, stands, goes}
use Rattle.node_progress.proofs.BagRuns.{sent_grows}
use Rattle.node_traits.specs.declared.outputs.ToLink.{ToLink}
use Rattle.driver_steps.specs.Seats.{Hosted, SeatView}
use Rattle.driver_steps.specs.Worlds.{NetworkView, StandsFor}
use Rattle.driver_steps.specs.Moves.{DeliversOrLoses}
use Rattle.pipe_driver.specs.declared.status.Status.{Status}
use Rattle.sim_driver.specs.Scripts.{AreDelivered, is_held, marked}
use Rattle.sim_driver.specs.Moves.{HasDeliveredOne, HasSettledBut, IsCut, IsPartOfDelivery, PassesOrDelivers, has_passed, has_delivered}
use Rattle.sim_driver.specs.Plays.{SettlesBut, IsPartOfSettling, is_passed, but_none, but_passed, but_next, but_lost}
use Rattle.sim_driver.proofs.Faults.{cut_here, cut_then, still}
use Rattle.sim_driver.proofs.Marks.{delivered_at, delivered_length, fewer_delivered}

module _ (except : Option (List ℕ)) where
  pub but_run : (u : World) (ds : List Bool) (next : ℕ) (events : List Event) (w : World) (es : List Bool) (later : ℕ)
      → SettlesBut except u ds next events w es later → Run u events w
  but_run _ _ _ _ _ _ _ (but_none w ds next) = stands w
  but_run _ _ _ _ _ _ _ (but_passed u w ds es next later m events got is more) = but_run u ds (next + 1) events w es later more
  but_run _ _ _ _ _ _ _ (but_next u v w ds es next later m events got new h more) =
      goes u v w (deliver_event m.receiver next) events h (but_run v (marked next ds) (next + 1) events w es later more)
  but_run _ _ _ _ _ _ _ (but_lost u w ds es next later m events got new none more) = but_run u (marked next ds) (next + 1) events w es later more

  -- one run of deliveries after another
  pub but_then : (u : World) (ds : List Bool) (next : ℕ) (events : List Event) (v : World) (es : List Bool) (later : ℕ) (more : List Event) (w : World)
      (fs : List Bool) (last : ℕ) → SettlesBut except u ds next events v es later → SettlesBut except v es later more w fs last
      → SettlesBut except u ds next (events ++ more) w fs last
  but_then _ _ _ _ _ _ _ others x fs last (but_none w ds next) then = then
  but_then _ _ _ _ _ _ _ others x fs last (but_passed u w ds es next later m events got is more) then =
      but_passed u x ds fs next last m (events ++ others) got is (but_then u ds (next + 1) events w es later others x fs last more then)
  but_then _ _ _ _ _ _ _ others x fs last (but_next u v w ds es next later m events got new h more) then =
      but_next u v x ds fs next last m (events ++ others) got new h
      (but_then v (marked next ds) (next + 1) events w es later others x fs last more then)
  but_then _ _ _ _ _ _ _ others x fs last (but_lost u w ds es next later m events got new none more) then =
      but_lost u x ds fs next last m (events ++ others) got new none
      (but_then u (marked next ds) (next + 1) events w es later others x fs last more then)

-- there is a message at each place
pub message_at : (letters : List Letter) (at : ℕ) → at < length letters → (m : Letter) × (slice_get letters at ≡ Some m)
message_at [] at within = absurd (omega (arith, within))
message_at (m ∷ letters) zero within = (m, refl)
message_at (m ∷ letters) (suc at) within = message_at letters at (omega (arith, within))

-- one more is passed
passed_more : (except : Option (List ℕ)) (u : World) (ds : List Bool) (next : ℕ) (events : List Event) (v : World) (es : List Bool) (later : ℕ) (m : Letter)
    → SettlesBut except u ds next events v es later → slice_get v.sent later ≡ Some m → is_passed except es later m ≡ true
    → SettlesBut except u ds next events v es (later + 1)
passed_more except u ds next events v es later m so_far got is =
    subst (λ (l : List Event). SettlesBut except u ds next l v es (later + 1)) (append-nil events)
    (but_then except u ds next events v es later [] v es (later + 1) so_far
    (but_passed v v es es later (later + 1) m [] got is (but_none v es (later + 1))))

-- all before a place were delivered
passed_before : (except : Option (List ℕ)) (u : World) (ds : List Bool) (n : ℕ) → n ≤ length u.sent → AreDelivered n ds → SettlesBut except u ds 0 [] u ds n
passed_before except u ds zero within all = but_none u ds 0
passed_before except u ds (suc n) within all =
    let here = message_at u.sent n (omega (arith, within)) in
    subst (λ (k : ℕ). SettlesBut except u ds 0 [] u ds k) (add-one n)
    (passed_more except u ds 0 [] u ds n here.0 (passed_before except u ds n (omega (arith, within)) (fewer_delivered n ds all)) here.1
    (ap (λ (b : Bool). b || is_held except here.0) (delivered_at (suc n) ds n all (omega arith))))

-- it is the one that is there
pub passes_by : (sent : List Letter) (at : ℕ) (m n : Letter) (except : Option (List ℕ)) (ds : List Bool) → slice_get sent at ≡ Some m → slice_get sent at
    ≡ Some n
    → is_passed except ds at m ≡ false → is_passed except ds at n ≡ false
passes_by sent at m n except ds first second is =
    let both : Some m ≡ Some n = sym first ∙ second in
    let same : m ≡ n = cc both in
    subst (λ (l : Letter). is_passed except ds at l ≡ false) same is

-- AFTER SOME OF THEM

-- all that waits was ever sent
pub all_sent : {S : Type 0} (view : S → SeatView) (hosts : Hosted S) (network : NetworkView) (handed : List ToLink) (u : World)
    → StandsFor view hosts network handed u 0 → u.sent ≡ network.waiting
all_sent view hosts network handed u s = s.sent ∙ ap (λ (l : List Letter). l ++ network.waiting) (empty s.past s.place)
  where
    empty : (past : List Letter) → length past ≡ 0 → past ≡ []
    empty [] none = refl
    empty (m ∷ past) none = absurd (omega (arith, none))

pub record IsSettling {S : Type 0} (view : S → SeatView) (hosts : Hosted S) (network : NetworkView) (handed : List ToLink) (before : World)
    (except : Option (List ℕ)) (ds es : List Bool) (later : ℕ) : Type 0 where
  pub events : List Event
  pub end : World
  pub settles : SettlesBut except before ds 0 events end es later
  pub within : later ≤ length end.sent
  pub stands : StandsFor view hosts network handed end 0

pub settling_none : {S : Type 0} (view : S → SeatView) (hosts : Hosted S) (network : NetworkView) (handed : List ToLink) (u : World)
    (except : Option (List ℕ)) (ds : List Bool) (first : ℕ) → AreDelivered first ds → length ds ≤ length u.sent → StandsFor view hosts network handed u 0
    → IsSettling view hosts network handed u except ds ds first
settling_none view hosts network handed u except ds first all within s =
    let inside : first ≤ length u.sent = omega (arith, within, delivered_length first ds all) in
    record { events = []; end = u; settles = passed_before except u ds first inside all; within = inside; stands = s }

module _ {S : Type 0} (view : S → SeatView) (hosts_after : Hosted S) (post_after : NetworkView) (handed : List ToLink) (u : World)
    (except : Option (List ℕ)) (ds es : List Bool) (later : ℕ) where
  settling_on : (hosts : Hosted S) (network : NetworkView) → (s : IsSettling view hosts network handed u except ds es later)
      → (d : HasDeliveredOne view hosts_after post_after handed s.end later) → is_passed except es later d.message ≡ false
      → IsSettling view hosts_after post_after handed u except ds (marked later es) (later + 1)
  settling_on hosts network s d new = by_kind d.delivers
    where
      by_kind : DeliversOrLoses s.end later d.message.receiver d.end
          → IsSettling view hosts_after post_after handed u except ds (marked later es) (later + 1)
      by_kind (inl h) = record {
        events = s.events ++ deliver_event d.message.receiver later ∷ [];
        end = d.end;
        settles = but_then except u ds 0 s.events s.end es later (deliver_event d.message.receiver later ∷ []) d.end (marked later es) (later + 1) s.settles
            (but_next s.end d.end d.end es (marked later es) later (later + 1) d.message [] d.got new h (but_none d.end (marked later es) (later + 1)));
        within = omega (arith, slice_get_within s.end.sent later d.message d.got, sent_grows s.end d.end (deliver_event d.message.receiver later) h);
        stands = d.stands;
      }
      by_kind (inr (same, none)) = record {
        events = s.events ++ [];
        end = d.end;
        settles = subst (λ (x : World). SettlesBut except u ds 0 (s.events ++ []) x (marked later es) (later + 1)) (sym same)
            (but_then except u ds 0 s.events s.end es later [] s.end (marked later es) (later + 1) s.settles
            (but_lost s.end s.end es (marked later es) later (later + 1) d.message [] d.got new none (but_none s.end (marked later es) (later + 1))));
        within = subst (λ (x : World). later + 1 ≤ length x.sent) (sym same) (omega (arith, slice_get_within s.end.sent later d.message d.got));
        stands = d.stands;
      }

  pub settling_step : (hosts : Hosted S) (network : NetworkView) (fs : List Bool) → (s : IsSettling view hosts network handed u except ds es later)
      → PassesOrDelivers view hosts_after post_after handed s.end except later es fs
      → IsSettling view hosts_after post_after handed u except ds fs (later + 1)
  settling_step hosts network fs s (has_passed m got is there same) =
      subst (λ (l : List Bool). IsSettling view hosts_after post_after handed u except ds l (later + 1)) (sym same) (record {
        events = s.events;
        end = s.end;
        settles = passed_more except u ds 0 s.events s.end es later m s.settles got is;
        within = omega (arith, slice_get_within s.end.sent later m got);
        stands = there;
      })
  settling_step hosts network fs s (has_delivered d new same) =
      subst (λ (l : List Bool). IsSettling view hosts_after post_after handed u except ds l (later + 1)) (sym same) (settling_on hosts network s d new)

pub settling_cut : {S : Type 0} (view : S → SeatView) (hosts hosts_after : Hosted S) (network : NetworkView) (handed : List ToLink) (u : World)
    (except : Option (List ℕ)) (ds es : List Bool) (later : ℕ) (status : Status) → (s : IsSettling view hosts network handed u except ds es later)
    → IsCut view hosts_after s.end (IsPartOfDelivery s.end later) status → IsCut view hosts_after u (IsPartOfSettling except u ds) status
settling_cut view hosts hosts_after network handed u except ds es later status s c =
    cut_then view hosts_after u s.events s.end (IsPartOfDelivery s.end later) (IsPartOfSettling except u ds) status
    (but_run except u ds 0 s.events s.end es later s.settles)
    (λ more part. record {
      before = s.events;
      more = more;
      then = s.end;
      marks = es;
      later = later;
      at = part.message.receiver;
      settles = s.settles;
      first = part.first;
      all = refl;
    }) c

-- a message was delivered, and memory ran out when it was noted
pub delivered_cut : {S : Type 0} (view : S → SeatView) (hosts : Hosted S) (network : NetworkView) (handed : List ToLink) (w : World) (which : ℕ)
    (status : Status)
    → HasDeliveredOne view hosts network handed w which → IsCut view hosts w (IsPartOfDelivery w which) status
delivered_cut view hosts network handed w which status d = by_kind d.delivers
  where
    by_kind : DeliversOrLoses w which d.message.receiver d.end → IsCut view hosts w (IsPartOfDelivery w which) status
    by_kind (inl h) =
        cut_here view hosts w (deliver_event d.message.receiver which ∷ []) d.end (IsPartOfDelivery w which) status
        (goes w d.end d.end (deliver_event d.message.receiver which) [] h (stands d.end))
        (record { message = d.message; got = d.got; first = ([], refl) }) (still view hosts network handed d.end d.stands)
    by_kind (inr (same, none)) =
        cut_here view hosts w [] d.end (IsPartOfDelivery w which) status (subst (λ (x : World). Run w [] x) (sym same) (stands w))
        (record { message = d.message; got = d.got; first = (deliver_event d.message.receiver which ∷ [], refl) })
        (still view hosts network handed d.end d.stands)

pub settling_end : {S : Type 0} (view : S → SeatView) (hosts : Hosted S) (network : NetworkView) (handed : List ToLink) (u : World)
    (except : Option (List ℕ)) (ds es : List Bool) (later : ℕ) → IsSettling view hosts network handed u except ds es later
    → length network.waiting ≤ later → HasSettledBut view hosts network handed u except ds es
settling_end view hosts network handed u except ds es later s past =
    let all = ap (λ (l : List Letter). length l) (all_sent view hosts network handed s.end s.stands) in
    let end : later ≡ length s.end.sent = omega (arith, all, past, s.within) in
    record {
      events = s.events;
      end = s.end;
      settles = subst (λ (n : ℕ). SettlesBut except u ds 0 s.events s.end es n) end s.settles;
      stands = s.stands;
    }
