-- Events, one after another.
use Rattle.std.proofs.Common.{◌≡◌, inl, inr, ℕ, ℤ, zero, suc, ◌+◌, ◌-◌, ◌<◌, ◌≤◌, List}
use Rattle.std.proofs.Common.{[], ◌∷◌, ◌++◌, map, length, refl, sym, ap, subst, ◌∙◌, arith, append_assoc, append-nil, length-append, add-one}
use Rattle.std.specs.Prelude.{Option, Some, None, MatchOption, option_to_list}
use Rattle.std.specs.VecDeque.{deque_len}
use Rattle.std.specs.List.{slice_get}
use Rattle.node_model.specs.Letters.{Letter, Input, client_input, letter_input, moment_input, opened_input}
use Rattle.node_model.specs.Requests.{Request}
use Rattle.node_model.specs.Schedule.{moments_given, openings, Delivers, delivers_none, delivers_next}
use Rattle.node_model.specs.World.{World, IsRouter, Meets, Event, client_event, deliver_event, moment_event, opened_event}
use Rattle.node_model.specs.World.{Happens, comes, delivers, passes, begins as was_opened, Run, stands, goes}
use Rattle.node_model.proofs.Schedules.{run_then}
use Rattle.node_traits.specs.declared.outputs.NotTaken.{NotTaken}
use Rattle.node_traits.specs.declared.outputs.NotTaken.TheVariants.{Disk, Steps, Memory}
use Rattle.node_traits.specs.declared.outputs.ToLink.{ToLink}
use Rattle.driver_steps.specs.declared.network.Network.{Network}
use Rattle.driver_steps.specs.Seats.{Hosted, SeatView}
use Rattle.driver_steps.specs.Worlds.{NetworkView, StandsFor, network_view}
use Rattle.driver_steps.specs.Moves.{IsEvent, IsUpTo, BeginWith, IsDelivery, AreDeliveries, HasDelivered, HasHappened, HasMoved, HasRun, HasSettled, HasStopped}
use Rattle.driver_steps.specs.Moves.{IsCutShort, MeetsOrNot, DeliversOrLoses, Settles, settles_none, settles_next, loses_next}

-- THE SCHEDULE

pub one_moment_more : (first count moment : ℕ) → moments_given first (suc count) moment ≡ moments_given first count moment ++ moment_event
    (first + count) moment ∷ []
one_moment_more first zero moment = let here : first ≡ first + 0 = omega arith in ap (λ (n : ℕ). moment_event n moment ∷ []) here
one_moment_more first (suc count) moment =
    let there : (first + 1) + count ≡ first + suc count = omega arith in
    ap (λ (l : List Event). moment_event first moment ∷ l)
    (one_moment_more (first + 1) count moment ∙ ap (λ (n : ℕ). moments_given (first + 1) count moment ++ moment_event n moment ∷ []) there)

pub one_opening_more : (first count : ℕ) → openings first (suc count) ≡ openings first count ++ opened_event (first + count) ∷ []
one_opening_more first zero = let here : first ≡ first + 0 = omega arith in ap (λ (n : ℕ). opened_event n ∷ []) here
one_opening_more first (suc count) =
    let there : (first + 1) + count ≡ first + suc count = omega arith in
    ap (λ (l : List Event). opened_event first ∷ l)
    (one_opening_more (first + 1) count ∙ ap (λ (n : ℕ). openings (first + 1) count ++ opened_event n ∷ []) there)

-- DELIVERIES

pub settles_run : (u : World) (next : ℕ) (events : List Event) (w : World) (later : ℕ) → Settles u next events w later → Run u events w
settles_run _ _ _ _ _ (settles_none w next) = stands w
settles_run _ _ _ _ _ (settles_next u v w next later at events h more) =
    goes u v w (deliver_event at next) events h (settles_run v (next + 1) events w later more)
settles_run _ _ _ _ _ (loses_next u w next later m events got none more) = settles_run u (next + 1) events w later more

pub settles_which : (u : World) (next : ℕ) (events : List Event) (w : World) (later : ℕ) → Settles u next events w later → AreDeliveries events
settles_which _ _ _ _ _ (settles_none w next) = tt
settles_which _ _ _ _ _ (settles_next u v w next later at events h more) = (tt, settles_which v (next + 1) events w later more)
settles_which _ _ _ _ _ (loses_next u w next later m events got none more) = settles_which u (next + 1) events w later more

pub deliveries_then : (events more : List Event) → AreDeliveries events → AreDeliveries more → AreDeliveries (events ++ more)
deliveries_then [] more are others = others
deliveries_then (e ∷ events) more are others = (are.0, deliveries_then events more are.1 others)

pub settles_more : (u : World) (next : ℕ) (events : List Event) (v : World) (later at : ℕ) (w : World) → Settles u next events v later
    → Happens v (deliver_event at later) w → Settles u next (events ++ deliver_event at later ∷ []) w (later + 1)
settles_more _ _ _ _ _ at x (settles_none w next) h = settles_next w x x next (next + 1) at [] h (settles_none x (next + 1))
settles_more _ _ _ _ _ at x (settles_next u v w next later first events here more) h =
    settles_next u v x next (later + 1) first (events ++ deliver_event at later ∷ []) here (settles_more v (next + 1) events w later at x more h)
settles_more _ _ _ _ _ at x (loses_next u w next later m events got none more) h =
    loses_next u x next (later + 1) m (events ++ deliver_event at later ∷ []) got none (settles_more u (next + 1) events w later at x more h)

pub loses_more : (u : World) (next : ℕ) (events : List Event) (v : World) (later : ℕ) (m : Letter) → Settles u next events v later
    → slice_get v.sent later ≡ Some m → length v.nodes ≤ m.receiver → Settles u next events v (later + 1)
loses_more _ _ _ _ _ m (settles_none w next) got none = loses_next w w next (next + 1) m [] got none (settles_none w (next + 1))
loses_more _ _ _ _ _ m (settles_next u v w next later first events here more) got none =
    settles_next u v w next (later + 1) first events here (loses_more v (next + 1) events w later m more got none)
loses_more _ _ _ _ _ m (loses_next u w next later o events before lost more) got none =
    loses_next u w next (later + 1) o events before lost (loses_more u (next + 1) events w later m more got none)

seam : (past : List Letter) (m : Letter) (rest : List Letter) → slice_get (past ++ m ∷ rest) (length past) ≡ Some m
seam [] m rest = refl
seam (x ∷ past) m rest = seam past m rest

-- what waited longest is taken from the queue
pub record Popped {S M : Type 0} (view : S → SeatView) (letter : M → Letter) (hosts : Hosted S) (handed : List ToLink) (w : World) (next : ℕ) (m : M)
    (new : Network M) : Type 0 where
  pub got : slice_get w.sent next ≡ Some (letter m)
  pub stands : StandsFor view hosts (network_view letter new) handed w (next + 1)

pub popped : {S M : Type 0} (view : S → SeatView) (letter : M → Letter) (hosts : Hosted S) (handed : List ToLink) (w : World) (next : ℕ) (m : M)
    (old new : Network M)
    → StandsFor view hosts (network_view letter old) handed w next → old.waiting.items ≡ m ∷ new.waiting.items → new.replies.items ≡ old.replies.items
    → Popped view letter hosts handed w next m new
popped view letter hosts handed w next m old new s first same =
    let all : w.sent ≡ s.past ++ letter m ∷ map letter new.waiting.items =
    s.sent ∙ ap (λ l. s.past ++ map letter l) first in
    let count : length (s.past ++ letter m ∷ []) ≡ next + 1 = length-append s.past (letter m ∷ []) ∙ ap (λ (n : ℕ). n + 1) s.place in
    record {
      got = ap (λ (l : List Letter). slice_get l next) all ∙ subst (λ (n : ℕ). slice_get (s.past ++ letter m ∷ map letter new.waiting.items) n ≡ Some
          (letter m)) s.place
          (seam s.past (letter m) (map letter new.waiting.items));
      stands = record {
        nodes = s.nodes;
        counted = s.counted;
        crashes = s.crashes;
        past = s.past ++ letter m ∷ [];
        sent = all ∙ sym (append_assoc s.past (letter m ∷ []) (map letter new.waiting.items));
        place = count;
        given = s.given ∙ ap (λ (l : List ToLink). handed ++ l) (sym same);
      };
    }

-- FROM STEPS TO EVENTS

is_delivery : (w : World) (which at : ℕ) (m : Letter) (i : Input) → slice_get w.sent which ≡ Some m → i ≡ letter_input m → at ≡ m.receiver
    → IsEvent w at i (deliver_event m.receiver which)
is_delivery w which at m i got is to v meets =
    delivers w v m.receiver which m got refl (subst (λ (n : ℕ). Meets w n (letter_input m) v) to (subst (λ (x : Input). Meets w at x v) is meets))

is_request : (w : World) (at link : ℕ) (number : ℤ) (request : Request) (i : Input) → IsRouter w.nodes at → i ≡ client_input link number request
    → IsEvent w at i (client_event at link number request)
is_request w at link number request i router is v meets = comes w v at link number request router (subst (λ (x : Input). Meets w at x v) is meets)

is_opening : (w : World) (at : ℕ) (i : Input) → i ≡ opened_input → IsEvent w at i (opened_event at)
is_opening w at i is v meets = was_opened w v at (subst (λ (x : Input). Meets w at x v) is meets)

is_passing : (w : World) (at moment : ℕ) (i : Input) → i ≡ moment_input moment → IsEvent w at i (moment_event at moment)
is_passing w at moment i is v meets = passes w v at moment (subst (λ (x : Input). Meets w at x v) is meets)

pub delivered : {S : Type 0} (view : S → SeatView) (hosts : Hosted S) (network : NetworkView) (handed : List ToLink) (w : World) (next which at : ℕ)
    (m : Letter) (i : Input)
    → slice_get w.sent which ≡ Some m → i ≡ letter_input m → at ≡ m.receiver → HasMoved view hosts network handed w next at i
    → HasDelivered view hosts network handed w next which m.receiver
delivered view hosts network handed w next which at m i got is to h = record {
  end = h.end;
  delivers = inl (is_delivery w which at m i got is to h.end h.meets);
  stands = h.stands (deliver_event m.receiver which) (is_delivery w which at m i got is to);
}

-- it went to no node
pub lost : {S : Type 0} (view : S → SeatView) (hosts : Hosted S) (network : NetworkView) (handed : List ToLink) (w : World) (next which receiver count at : ℕ)
    → length hosts.seats ≡ length w.nodes → count ≡ length hosts.seats → at ≡ receiver → count ≤ at → StandsFor view hosts network handed w next
    → HasDelivered view hosts network handed w next which receiver
lost view hosts network handed w next which receiver count at same counted to behind s = record {
  end = w;
  delivers = inr (refl, omega arith);
  stands = s;
}

-- what comes to a node leads to another world
never_still : (w v : World) (at : ℕ) (i : Input) → Meets w at i v → v ≡ w → ⊥
never_still w v at i (inl m) same =
    let later : v.now ≡ w.now + 1 = ap (λ (x : World). x.now) m.then in
    let now : v.now ≡ w.now = ap (λ (x : World). x.now) same in
    omega (arith, later, now)
never_still w v at i (inr m) same =
    let later : v.now ≡ w.now + 1 = ap (λ (x : World). x.now) m.then in
    let now : v.now ≡ w.now = ap (λ (x : World). x.now) same in
    omega (arith, later, now)

pub up_to_more : (fault : NotTaken) (end last : World) (A B : Type 0) → IsUpTo fault end last A → (A → B) → IsUpTo fault end last B
up_to_more (Disk faults) end last A B (inl same) f = inl same
up_to_more (Disk faults) end last A B (inr more) f = inr (f more)
up_to_more Steps end last A B same f = same
up_to_more Memory end last A B same f = same

-- events happened, and the next one was cut short
pub stopped : {S : Type 0} (view : S → SeatView) (hosts : Hosted S) (replies handed : List ToLink) (u : World) (events : List Event) (w : World)
    (e : Event) (at : ℕ) (i : Input) (P : List Event → Type 0) (fault : NotTaken)
    → Run u events w → IsEvent w at i e → P events → P (events ++ e ∷ [])
    → IsCutShort view hosts replies handed w at i fault → HasStopped view hosts replies handed u P fault
stopped view hosts replies handed u events w e at i P fault run event before behind c = by_step c.meets
  where
    by_step : MeetsOrNot w at i c.end → HasStopped view hosts replies handed u P fault
    by_step (inl same) = record {
      events = events;
      end = c.end;
      which = before;
      run = subst (λ (x : World). Run u events x) (sym same) run;
      nodes = c.nodes;
      last = c.last;
      up_to = up_to_more fault c.end c.last _ _ c.up_to
          (λ more. (e, behind, subst (λ (x : World). Happens x e c.last) (sym same) (event c.last (inl more.1))));
      crashes = c.crashes e event;
      missing = c.missing;
      given = c.given;
    }
    by_step (inr m) = record {
      events = events ++ e ∷ [];
      end = c.end;
      which = behind;
      run = run_then u events w (e ∷ []) c.end run (goes w c.end c.end e [] (event c.end m) (stands c.end));
      nodes = c.nodes;
      last = c.last;
      up_to = up_to_more fault c.end c.last _ _ c.up_to (λ more. absurd (never_still w c.end at i m more.0));
      crashes = c.crashes e event;
      missing = c.missing;
      given = c.given;
    }

pub run_more : {S : Type 0} (view : S → SeatView) (hosts : Hosted S) (network : NetworkView) (handed : List ToLink) (u : World) (events : List Event)
    (w : World) (next : ℕ) (e : Event) (at : ℕ) (i : Input)
    → Run u events w → IsEvent w at i e → HasMoved view hosts network handed w next at i
    → HasRun view hosts network handed u next (events ++ e ∷ [])
run_more view hosts network handed u events w next e at i run event h = record {
  end = h.end;
  run = run_then u events w (e ∷ []) h.end run (goes w h.end h.end e [] (event h.end h.meets) (stands h.end));
  stands = h.stands e event;
}

-- a run, and then a stop
pub stopped_behind : {S : Type 0} (view : S → SeatView) (hosts : Hosted S) (replies handed : List ToLink) (u : World) (events : List Event) (w : World)
    (P Q : List Event → Type 0) (fault : NotTaken)
    → Run u events w → ((more : List Event) → P more → Q (events ++ more)) → HasStopped view hosts replies handed w P fault
    → HasStopped view hosts replies handed u Q fault
stopped_behind view hosts replies handed u events w P Q fault run all s = record {
  events = events ++ s.events;
  end = s.end;
  which = all s.events s.which;
  run = run_then u events w s.events s.end run s.run;
  nodes = s.nodes;
  last = s.last;
  up_to = up_to_more fault s.end s.last _ _ s.up_to
      (λ more. (
        more.0,
        subst (λ (l : List Event). Q l) (sym (append_assoc events s.events (more.0 ∷ []))) (all (s.events ++ more.0 ∷ []) more.1),
        more.2,
      ));
  crashes = s.crashes;
  missing = s.missing;
  given = s.given;
}

-- ALL THAT WAITED

-- after some of the deliveries
pub record IsSettling {S : Type 0} (view : S → SeatView) (hosts : Hosted S) (network : NetworkView) (handed : List ToLink) (before : World) (next : ℕ) : Type 0 where
  pub events : List Event
  pub end : World
  pub later : ℕ
  pub settles : Settles before next events end later
  pub stands : StandsFor view hosts network handed end later

pub settling_more : {S : Type 0} (view : S → SeatView) (hosts : Hosted S) (network : NetworkView) (handed : List ToLink) (u : World) (next : ℕ)
    (events : List Event) (v : World) (later : ℕ) (m : Letter)
    → Settles u next events v later → slice_get v.sent later ≡ Some m → HasDelivered view hosts network handed v (later + 1) later m.receiver
    → IsSettling view hosts network handed u next
settling_more view hosts network handed u next events v later m so_far got d = by_delivery d.delivers
  where
    by_delivery : DeliversOrLoses v later m.receiver d.end → IsSettling view hosts network handed u next
    by_delivery (inl happens) = record {
      events = events ++ deliver_event m.receiver later ∷ [];
      end = d.end;
      later = later + 1;
      settles = settles_more u next events v later m.receiver d.end so_far happens;
      stands = d.stands;
    }
    by_delivery (inr (same, none)) = record {
      events = events;
      end = d.end;
      later = later + 1;
      settles = subst (λ (x : World). Settles u next events x (later + 1)) (sym same) (loses_more u next events v later m so_far got none);
      stands = d.stands;
    }

-- a message is taken from the queue and delivered
pub settling_step : {S M : Type 0} (view : S → SeatView) (letter : M → Letter) (hosts hosts_after : Hosted S) (network : NetworkView) (handed : List ToLink)
    (u : World) (next : ℕ) (m : M) (old taken : Network M)
    → IsSettling view hosts (network_view letter old) handed u next → old.waiting.items ≡ m ∷ taken.waiting.items → taken.replies.items ≡ old.replies.items
    → ((v : World) (n which : ℕ) → StandsFor view hosts (network_view letter taken) handed v n → slice_get v.sent which ≡ Some (letter m)
    → HasDelivered view hosts_after network handed v n which (letter m).receiver)
    → IsSettling view hosts_after network handed u next
settling_step view letter hosts hosts_after network handed u next m old taken r first same deliver =
    let p = popped view letter hosts handed r.end r.later m old taken r.stands first same in
    settling_more view hosts_after network handed u next r.events r.end r.later (letter m) r.settles p.got (deliver r.end (r.later + 1) r.later p.stands p.got)

-- the first of one delivery, as far as it goes
first_is_delivery : (receiver which : ℕ) (events : List Event) → BeginWith events (deliver_event receiver which ∷ []) → AreDeliveries events
first_is_delivery receiver which [] first = tt
first_is_delivery receiver which (e ∷ []) (others, all) =
    let same : deliver_event receiver which ≡ e = cc in
    (subst (λ (x : Event). IsDelivery x) same tt, tt)
first_is_delivery receiver which (e ∷ f ∷ events) (others, all) = absurd (cc)

pub settling_stopped : {S M : Type 0} (view : S → SeatView) (letter : M → Letter) (hosts hosts_after : Hosted S) (replies handed : List ToLink)
    (u : World) (next : ℕ) (m : M) (old taken : Network M) (fault : NotTaken)
    → IsSettling view hosts (network_view letter old) handed u next → old.waiting.items ≡ m ∷ taken.waiting.items → taken.replies.items ≡ old.replies.items
    → ((v : World) (n which : ℕ) → StandsFor view hosts (network_view letter taken) handed v n → slice_get v.sent which ≡ Some (letter m)
    → HasStopped view hosts_after replies handed v (λ events. BeginWith events (deliver_event (letter m).receiver which ∷ [])) fault)
    → HasStopped view hosts_after replies handed u AreDeliveries fault
settling_stopped view letter hosts hosts_after replies handed u next m old taken fault r first same deliver =
    let p = popped view letter hosts handed r.end r.later m old taken r.stands first same in
    stopped_behind view hosts_after replies handed u r.events r.end (λ events. BeginWith events (deliver_event (letter m).receiver r.later ∷ []))
    AreDeliveries fault (settles_run u next r.events r.end r.later r.settles)
    (λ more are. deliveries_then r.events more (settles_which u next r.events r.end r.later r.settles)
    (first_is_delivery (letter m).receiver r.later more are))
    (deliver r.end (r.later + 1) r.later p.stands p.got)

-- nothing waits any more
pub settled : {S : Type 0} (view : S → SeatView) (hosts : Hosted S) (network : NetworkView) (handed : List ToLink) (u : World) (next : ℕ)
    → IsSettling view hosts network handed u next → network.waiting ≡ [] → HasSettled view hosts network handed u next
settled view hosts network handed u next s none =
    let past_all : s.end.sent ≡ s.stands.past = s.stands.sent ∙ (ap (λ (l : List Letter). s.stands.past ++ l) none ∙ append-nil s.stands.past) in
    let all : s.later ≡ length s.end.sent = sym s.stands.place ∙ sym (ap (λ (l : List Letter). length l) past_all) in
    record {
      events = s.events;
      end = s.end;
      settles = subst (λ (n : ℕ). Settles u next s.events s.end n) all s.settles;
      stands = subst (λ (n : ℕ). StandsFor view hosts network handed s.end n) all s.stands;
    }

pub empty_of : {M : Type 0} (items : List M) → length items ≡ 0 → items ≡ []
empty_of [] none = refl
empty_of (x ∷ items) none = absurd (omega (arith, none))

-- the queue was found empty
pub settled_at_end : {S M : Type 0} (view : S → SeatView) (letter : M → Letter) (hosts : Hosted S) (handed : List ToLink) (u : World) (next : ℕ)
    (old taken : Network M) (found : Option M) → IsSettling view hosts (network_view letter old) handed u next → found ≡ None
    → old.waiting.items ≡ option_to_list found ++ taken.waiting.items
    → MatchOption found ((deque_len old.waiting ≡ 0) × (deque_len taken.waiting ≡ 0)) (λ m. deque_len taken.waiting + 1 ≡ deque_len old.waiting)
    → deque_len taken.waiting ≡ length taken.waiting.items → taken.replies.items ≡ old.replies.items
    → HasSettled view hosts (network_view letter taken) handed u next
settled_at_end view letter hosts handed u next old taken (Some m) r none items cases count same = absurd (cc)
settled_at_end {S} {M} view letter hosts handed u next old taken None r none items cases count same =
    let empty : taken.waiting.items ≡ [] = empty_of taken.waiting.items (sym count ∙ cases.1) in
    let h = settled view hosts (network_view letter old) handed u next r (ap (λ (l : List M). map letter l) (items ∙ empty)) in
    record {
      events = h.events;
      end = h.end;
      settles = h.settles;
      stands = record {
        nodes = h.stands.nodes;
        counted = h.stands.counted;
        crashes = h.stands.crashes;
        past = h.stands.past;
        sent = h.stands.sent ∙ ap (λ (l : List M). h.stands.past ++ map letter l) items;
        place = h.stands.place;
        given = h.stands.given ∙ ap (λ (l : List ToLink). handed ++ l) (sym same);
      };
    }

-- OPENINGS, MOMENTS AND REQUESTS

pub delivery_stopped : {S : Type 0} (view : S → SeatView) (hosts : Hosted S) (replies handed : List ToLink) (w : World) (which at : ℕ) (m : Letter)
    (i : Input) (fault : NotTaken)
    → slice_get w.sent which ≡ Some m → i ≡ letter_input m → at ≡ m.receiver → IsCutShort view hosts replies handed w at i fault
    → HasStopped view hosts replies handed w (λ events. BeginWith events (deliver_event m.receiver which ∷ [])) fault
delivery_stopped view hosts replies handed w which at m i fault got is to c =
    stopped view hosts replies handed w [] w (deliver_event m.receiver which) at i
    (λ events. BeginWith events (deliver_event m.receiver which ∷ [])) fault (stands w)
    (is_delivery w which at m i got is to)
    (deliver_event m.receiver which ∷ [], refl) ([], refl) c

pub ask_stopped : {S : Type 0} (view : S → SeatView) (hosts : Hosted S) (replies handed : List ToLink) (w : World) (at link : ℕ) (number : ℤ)
    (request : Request) (i : Input) (fault : NotTaken)
    → IsRouter w.nodes at → i ≡ client_input link number request → IsCutShort view hosts replies handed w at i fault
    → HasStopped view hosts replies handed w (λ events. BeginWith events (client_event at link number request ∷ [])) fault
ask_stopped view hosts replies handed w at link number request i fault router is c =
    stopped view hosts replies handed w [] w (client_event at link number request) at i
    (λ events. BeginWith events (client_event at link number request ∷ [])) fault (stands w)
    (is_request w at link number request i router is)
    (client_event at link number request ∷ [], refl) ([], refl) c

-- the first of so many openings, and of so many moments
openings_parts : (first a b : ℕ) → openings first (a + b) ≡ openings first a ++ openings (first + a) b
openings_parts first zero b =
    let none : 0 + b ≡ b = omega arith in
    let here : first ≡ first + 0 = omega arith in
    ap (λ (n : ℕ). openings first n) none ∙ ap (λ (n : ℕ). openings n b) here
openings_parts first (suc a) b =
    let one : suc a + b ≡ suc (a + b) = omega arith in
    let there : (first + 1) + a ≡ first + suc a = omega arith in
    ap (λ (n : ℕ). openings first n) one
    ∙ ap (λ (l : List Event). opened_event first ∷ l)
    (openings_parts (first + 1) a b ∙ ap (λ (n : ℕ). openings (first + 1) a ++ openings n b) there)

moments_parts : (first a b moment : ℕ) → moments_given first (a + b) moment ≡ moments_given first a moment ++ moments_given (first + a) b moment
moments_parts first zero b moment =
    let none : 0 + b ≡ b = omega arith in
    let here : first ≡ first + 0 = omega arith in
    ap (λ (n : ℕ). moments_given first n moment) none ∙ ap (λ (n : ℕ). moments_given n b moment) here
moments_parts first (suc a) b moment =
    let one : suc a + b ≡ suc (a + b) = omega arith in
    let there : (first + 1) + a ≡ first + suc a = omega arith in
    ap (λ (n : ℕ). moments_given first n moment) one
    ∙ ap (λ (l : List Event). moment_event first moment ∷ l)
    (moments_parts (first + 1) a b moment ∙ ap (λ (n : ℕ). moments_given (first + 1) a moment ++ moments_given n b moment) there)

first_openings : (at count : ℕ) → at ≤ count → BeginWith (openings 0 at) (openings 0 count)
first_openings at count within =
    let sum : count ≡ at + (count - at) = omega arith in
    (openings (0 + at) (count - at), ap (λ (n : ℕ). openings 0 n) sum ∙ openings_parts 0 at (count - at))

first_moments : (at count moment : ℕ) → at ≤ count → BeginWith (moments_given 0 at moment) (moments_given 0 count moment)
first_moments at count moment within =
    let sum : count ≡ at + (count - at) = omega arith in
    (moments_given (0 + at) (count - at) moment, ap (λ (n : ℕ). moments_given 0 n moment) sum ∙ moments_parts 0 at (count - at) moment)

one_more_opening : (at : ℕ) → openings 0 (at + 1) ≡ openings 0 at ++ opened_event at ∷ []
one_more_opening at =
    let zero_at : 0 + at ≡ at = omega arith in
    ap (λ (n : ℕ). openings 0 n) (add-one at) ∙ (one_opening_more 0 at ∙ ap (λ (n : ℕ). openings 0 at ++ opened_event n ∷ []) zero_at)

one_more_moment : (at moment : ℕ) → moments_given 0 (at + 1) moment ≡ moments_given 0 at moment ++ moment_event at moment ∷ []
one_more_moment at moment =
    let zero_at : 0 + at ≡ at = omega arith in
    ap (λ (n : ℕ). moments_given 0 n moment) (add-one at) ∙ (one_moment_more 0 at moment
    ∙ ap (λ (n : ℕ). moments_given 0 at moment ++ moment_event n moment ∷ []) zero_at)

pub opened_stopped : {S : Type 0} (view : S → SeatView) (hosts_before hosts : Hosted S) (post_before : NetworkView) (replies handed : List ToLink)
    (u : World) (next at count : ℕ) (i : Input) (fault : NotTaken) → at < count
    → (r : HasRun view hosts_before post_before handed u next (openings 0 at)) → i ≡ opened_input → IsCutShort view hosts replies handed r.end at i fault
    → HasStopped view hosts replies handed u (λ events. BeginWith events (openings 0 count)) fault
opened_stopped view hosts_before hosts post_before replies handed u next at count i fault within r is c =
    stopped view hosts replies handed u (openings 0 at) r.end (opened_event at) at i (λ events. BeginWith events (openings 0 count)) fault r.run
    (is_opening r.end at i is)
    (first_openings at count (omega (arith, within)))
    (subst (λ (l : List Event). BeginWith l (openings 0 count)) (one_more_opening at) (first_openings (at + 1) count (omega (arith, within)))) c

pub given_stopped : {S : Type 0} (view : S → SeatView) (hosts_before hosts : Hosted S) (post_before : NetworkView) (replies handed : List ToLink)
    (u : World) (next at count moment : ℕ) (i : Input) (fault : NotTaken) → at < count
    → (r : HasRun view hosts_before post_before handed u next (moments_given 0 at moment)) → i ≡ moment_input moment
    → IsCutShort view hosts replies handed r.end at i fault
    → HasStopped view hosts replies handed u (λ events. BeginWith events (moments_given 0 count moment)) fault
given_stopped view hosts_before hosts post_before replies handed u next at count moment i fault within r is c =
    stopped view hosts replies handed u (moments_given 0 at moment) r.end (moment_event at moment) at i
    (λ events. BeginWith events (moments_given 0 count moment)) fault r.run
    (is_passing r.end at moment i is)
    (first_moments at count moment (omega (arith, within)))
    (subst (λ (l : List Event). BeginWith l (moments_given 0 count moment)) (one_more_moment at moment)
    (first_moments (at + 1) count moment (omega (arith, within)))) c

pub opened_more : {S : Type 0} (view : S → SeatView) (hosts_before hosts : Hosted S) (post_before network : NetworkView) (handed : List ToLink) (u : World)
    (next at : ℕ) (i : Input)
    → (r : HasRun view hosts_before post_before handed u next (openings 0 at)) → i ≡ opened_input → HasMoved view hosts network handed r.end next at i
    → HasRun view hosts network handed u next (openings 0 (at + 1))
opened_more view hosts_before hosts post_before network handed u next at i r is h =
    subst (λ (l : List Event). HasRun view hosts network handed u next l) (sym (one_more_opening at))
    (run_more view hosts network handed u (openings 0 at) r.end next (opened_event at) at i r.run
    (is_opening r.end at i is) h)

pub given_more : {S : Type 0} (view : S → SeatView) (hosts_before hosts : Hosted S) (post_before network : NetworkView) (handed : List ToLink) (u : World)
    (next at moment : ℕ) (i : Input)
    → (r : HasRun view hosts_before post_before handed u next (moments_given 0 at moment)) → i ≡ moment_input moment
    → HasMoved view hosts network handed r.end next at i
    → HasRun view hosts network handed u next (moments_given 0 (at + 1) moment)
given_more view hosts_before hosts post_before network handed u next at moment i r is h =
    subst (λ (l : List Event). HasRun view hosts network handed u next l) (sym (one_more_moment at moment))
    (run_more view hosts network handed u (moments_given 0 at moment) r.end next (moment_event at moment) at i r.run
    (is_passing r.end at moment i is) h)

pub run_none : {S : Type 0} (view : S → SeatView) (hosts : Hosted S) (network : NetworkView) (handed : List ToLink) (u : World) (next : ℕ)
    → StandsFor view hosts network handed u next → HasRun view hosts network handed u next []
run_none view hosts network handed u next s = record { end = u; run = stands u; stands = s }

pub settling_none : {S : Type 0} (view : S → SeatView) (hosts : Hosted S) (network : NetworkView) (handed : List ToLink) (u : World) (next : ℕ)
    → StandsFor view hosts network handed u next → IsSettling view hosts network handed u next
settling_none view hosts network handed u next s = record { events = []; end = u; later = next; settles = settles_none u next; stands = s }

pub asked : {S : Type 0} (view : S → SeatView) (hosts : Hosted S) (network : NetworkView) (handed : List ToLink) (u : World) (next at link : ℕ) (number : ℤ)
    (request : Request) (i : Input)
    → IsRouter u.nodes at → i ≡ client_input link number request → HasMoved view hosts network handed u next at i
    → HasHappened view hosts network handed u next (client_event at link number request)
asked view hosts network handed u next at link number request i router is h = record {
  end = h.end;
  happens = is_request u at link number request i router is h.end h.meets;
  stands = h.stands (client_event at link number request) (is_request u at link number request i router is);
}

-- NO MESSAGE IS LOST

module _ (P : World → (next : ℕ) → Type 0) (there : (v : World) (n : ℕ) (m : Letter) → P v n → slice_get v.sent n ≡ Some m
    → m.receiver < length v.nodes) (kept : (v x : World) (n at : ℕ) → P v n → Happens v (deliver_event at n) x → P x (n + 1)) where
  -- where each message that is next goes to a node
  pub settles_delivers : (u : World) (next : ℕ) (events : List Event) (w : World) (later : ℕ) → P u next → Settles u next events w later
      → Delivers u next events w later
  settles_delivers _ _ _ _ _ p (settles_none w next) = delivers_none w next
  settles_delivers _ _ _ _ _ p (settles_next u v w next later at events h more) =
      delivers_next u v w next later at events h (settles_delivers v (next + 1) events w later (kept u v next at p h) more)
  settles_delivers _ _ _ _ _ p (loses_next u w next later m events got none more) =
      let here : m.receiver < length u.nodes = there u next m p got in
      absurd (omega (arith, here, none))

-- HANDING ON

-- the replies were appended to the others
pub handed_on : {S M : Type 0} (view : S → SeatView) (letter : M → Letter) (hosts : Hosted S) (handed : List ToLink) (w : World) (next : ℕ) (old new : Network M)
    → StandsFor view hosts (network_view letter old) handed w next → new.waiting.items ≡ old.waiting.items → new.replies.items ≡ []
    → StandsFor view hosts (network_view letter new) (handed ++ old.replies.items) w next
handed_on view letter hosts handed w next old new s same none = record {
  nodes = s.nodes;
  counted = s.counted;
  crashes = s.crashes;
  past = s.past;
  sent = s.sent ∙ ap (λ l. s.past ++ map letter l) (sym same);
  place = s.place;
  given = s.given ∙ (sym (append-nil (handed ++ old.replies.items)) ∙ ap (λ (l : List ToLink). (handed ++ old.replies.items) ++ l) (sym none));
}
