-- After each round of the schedule of `pipe` every request is answered.
use Rattle.std.proofs.Common.{◌≡◌, ◌≢◌, ◌⊎◌, inl, inr, ℕ, zero, suc, ◌+◌, ◌<◌, ◌≤◌, List, [], ◌++◌, length, refl, sym, ap, subst, ◌∙◌, arith, append-nil}
use Rattle.std.specs.List.{AllByRecursion}
use Rattle.std.proofs.lemmas.Option.{slice_get_within}
use Rattle.base_model.specs.Identities.{RequestId}
use Rattle.node_model.specs.Letters.{Letter, opened_input, Effect}
use Rattle.node_model.specs.States.{NodeState}
use Rattle.node_model.specs.CatalogueRows.{catalogue_opened}
use Rattle.node_model.specs.ShardRows.{shard_opened}
use Rattle.node_model.specs.RouterRows.{router_begin, router_opened}
use Rattle.node_model.specs.Steps.{Step, catalogue_step, shard_step, router_step, begin_step}
use Rattle.node_model.specs.World.{World, Event, client_event, deliver_event, opened_event, Happens, delivers, begins as was_opened, Run, stands, goes, account_of}
use Rattle.node_model.specs.Schedule.{openings, moments_given, Delivers, delivers_none, delivers_next, Round, Pipes, opens, serves}
use Rattle.restart_laws.proofs.Kept.{events_keep as run_keeps}
use Rattle.node_model.proofs.Schedules.{pipes_run}
use Rattle.node_progress.specs.Completion.{IsAnswered, IsServed, AreAnswered, asked_since}
use Rattle.node_progress.specs.Firsts.{IsFirst}
use Rattle.node_progress.proofs.Places.{same_place}
use Rattle.node_progress.proofs.BagRuns.{BagIn, IsNoDelivery, lost_bag, found_bag, first_bag, event_keeps, delivery_bag}
use Rattle.node_progress.proofs.Firsts.{first_true, first_rests, first_shards}
use Rattle.node_progress.proofs.Bags.{left_but}
use Rattle.node_progress.proofs.NoneMissed.{MissedMore, happens_more, more_then_more, first_none_missed, missed_or}
use Rattle.node_progress.proofs.Lives.{TakenSince, taken_since}
use Rattle.node_progress.proofs.Answered.{are_answered, stay_answered}

-- MESSAGES IN ORDER OF SENDING

-- a step was missed since the first world; then nothing is said of any request
abbrev pub HasMissed : (first w : World) → RequestId → Type 0
HasMissed first w id = w.missed ≡ first.missed → ⊥

-- the messages from a place on are left
pub record BagAt (first w : World) (next : ℕ) : Type 1 where
  pub more : MissedMore first w
  pub here : BagIn (left_but (λ n. next ≤ n) (HasMissed first w)) w

still_missed : (first w v : World) → MissedMore first w → MissedMore w v → (id : RequestId) → HasMissed first w id → HasMissed first v id
still_missed first w v before more id has none = has (first_none_missed first w v before more none)

missed_now : (first v : World) (w : World) → (v.missed ≡ w.missed) ⊎ (v.missed ≡ first.missed → ⊥) → (v.missed ≡ w.missed) ⊎ ((id : RequestId) → HasMissed first v id)
missed_now first v w (inl none) = inl none
missed_now first v w (inr some) = inr (λ id. some)

pub sent_before : (u x : World) (to which : ℕ) → Happens u (deliver_event to which) x → which < length u.sent
sent_before _ _ _ _ (delivers u x to which letter got place m) = slice_get_within u.sent which letter got

-- the next one is delivered
pub delivery_keeps : (first w v : World) (next at : ℕ) → BagAt first w next → Happens w (deliver_event at next) v → BagAt first v (next + 1)
delivery_keeps first w v next at b h = record {
  more = more_then_more first w v b.more (happens_more w v (deliver_event at next) h);
  here = delivery_bag (HasMissed first w) (HasMissed first v) (λ n. next ≤ n) (λ n. next + 1 ≤ n) w v at next b.here (λ n le. by_place n le (same_place n next))
      (still_missed first w v b.more (happens_more w v (deliver_event at next) h))
      (λ n le. let l = sent_before w v at next h in omega (arith, le, l))
      (missed_now first v w (missed_or first w v (deliver_event at next) b.more h)) h;
}
  where
    by_place : (n : ℕ) → next ≤ n → (n ≡ next) ⊎ (n ≢ next) → (next + 1 ≤ n) ⊎ (n ≡ next)
    by_place n le (inl same) = inr same
    by_place n le (inr other) = inl (omega (arith, le, other))

-- an event that delivers nothing
pub other_keeps : (first w v : World) (next : ℕ) (e : Event) → IsNoDelivery e → BagAt first w next → Happens w e v → BagAt first v next
other_keeps first w v next e is b h = record {
  more = more_then_more first w v b.more (happens_more w v e h);
  here = event_keeps (λ n. next ≤ n) (HasMissed first w) (HasMissed first v) w v e is b.here (still_missed first w v b.more (happens_more w v e h))
      (missed_now first v w (missed_or first w v e b.more h)) h;
}

pub others_keep : (first u : World) (next : ℕ) (es : List Event) (w : World) → AllByRecursion IsNoDelivery es → BagAt first u next → Run u es w → BagAt first w next
others_keep first _ next _ _ all b (stands w) = b
others_keep first _ next _ _ all b (goes u v w e es h run) = others_keep first v next es w all.1 (other_keeps first u v next e all.0 b h) run

first_at : (first : World) → IsFirst first → BagAt first first 0
first_at first is = record {
  more = record { news = []; is = sym (append-nil first.missed) };
  here = record {
    true_there = first_true first is;
    bag = lost_bag (λ n. 0 ≤ n) (HasMissed first first) first
        (first_bag (λ n. 0 ≤ n) first (first_rests first is) (first_shards first is) (λ n. omega arith));
  };
}

-- A ROUND

pub openings_deliver_none : (first count : ℕ) → AllByRecursion IsNoDelivery (openings first count)
openings_deliver_none first zero = tt
openings_deliver_none first (suc count) = (tt, openings_deliver_none (first + 1) count)

pub moments_deliver_none : (first count moment : ℕ) → AllByRecursion IsNoDelivery (moments_given first count moment)
moments_deliver_none first zero moment = tt
moments_deliver_none first (suc count) moment = (tt, moments_deliver_none (first + 1) count moment)

deliveries_keep : (first u : World) (next : ℕ) (events : List Event) (w : World) (later : ℕ) → BagAt first u next → Delivers u next events w later
    → BagAt first w later
deliveries_keep first _ _ _ _ _ b (delivers_none w next) = b
deliveries_keep first _ _ _ _ _ b (delivers_next u v w next later at events h more) =
    deliveries_keep first v (next + 1) events w later (delivery_keeps first u v next at b h) more

-- the world of a round where its request has come
pub round_asked : (first u given asked : World) (next : ℕ) (r : Round) → BagAt first u next → Run u (moments_given 0 (length u.nodes) r.moment) given
    → Happens given (client_event r.at r.link r.number r.request) asked → BagAt first asked next
round_asked first u given asked next r b run came =
    other_keeps first given asked next (client_event r.at r.link r.number r.request) tt
    (others_keep first u next (moments_given 0 (length u.nodes) r.moment) given (moments_deliver_none 0 (length u.nodes) r.moment) b run) came

pub pipes_bag : (first : World) → IsFirst first → (rounds : List Round) (events : List Event) (w : World) (next : ℕ) → Pipes first rounds events w next
    → BagAt first w next
pipes_bag first is _ _ _ _ (opens w run) =
    others_keep first first 0 (openings 0 (length first.nodes)) w (openings_deliver_none 0 (length first.nodes)) (first_at first is) run
pipes_bag first is _ _ _ _ (serves rounds r before events u w next pipes round) =
    deliveries_keep first round.asked next round.deliveries w (length w.sent)
    (round_asked first u round.given round.asked next r (pipes_bag first is rounds before u next pipes) round.moments round.comes) round.settles

-- ALL IS ANSWERED

opened_sends_none : (s t : NodeState) (f : Effect) → Step s opened_input f t → f.mail ≡ []
opened_sends_none _ _ _ (catalogue_step _ _ _ _ own (catalogue_opened c)) = refl
opened_sends_none _ _ _ (shard_step _ _ _ _ own (shard_opened s)) = refl
opened_sends_none _ _ _ (router_step _ _ _ _ own (router_begin r early)) = refl
opened_sends_none _ _ _ (router_step _ _ _ _ own (router_opened r begun)) = refl
opened_sends_none _ _ _ (begin_step r q i f early before row) = absurd before

opening_sends_none : (w v : World) (at : ℕ) → Happens w (opened_event at) v → v.sent ≡ w.sent
opening_sends_none _ _ _ (was_opened w v at (inl m)) =
    ap (λ (x : World). x.sent) m.then ∙ (ap (λ l. w.sent ++ l) (opened_sends_none m.old.state m.new m.f m.step) ∙ append-nil w.sent)
opening_sends_none _ _ _ (was_opened w v at (inr m)) = ap (λ (x : World). x.sent) m.then ∙ append-nil w.sent

openings_send_none : (first count : ℕ) (u w : World) (es : List Event) → es ≡ openings first count → Run u es w → w.sent ≡ u.sent
openings_send_none first zero _ _ _ is (stands w) = refl
openings_send_none first zero _ _ _ is (goes u v w e es h run) = absurd (cc is)
openings_send_none first (suc count) _ _ _ is (stands w) = absurd (cc is)
openings_send_none first (suc count) _ _ _ is (goes u v w e es h run) =
    let one : e ≡ opened_event first = cc is in
    let rest : es ≡ openings (first + 1) count = cc is in
    openings_send_none (first + 1) count v w es rest run ∙ opening_sends_none u v first (subst (λ x. Happens u x v) one h)

-- after a round no message is left
none_left : (first : World) → IsFirst first → (rounds : List Round) (events : List Event) (w : World) (next : ℕ) → Pipes first rounds events w next
    → (n : ℕ) → n < length w.sent → next ≤ n → ⊥
none_left first is _ _ _ _ (opens w run) n below left =
    let same : length w.sent ≡ 0 =
    ap (λ (l : List Letter). length l)
    (openings_send_none 0 (length first.nodes) first w (openings 0 (length first.nodes)) refl run ∙ (first_rests first is).none_sent) in
    omega (arith, below, same)
none_left first is _ _ _ _ (serves rounds r before events u w next pipes round) n below left = omega (arith, below, left)

pub piped_since : (first : World) → IsFirst first → (rounds : List Round) (events : List Event) (w : World) (next : ℕ) → Pipes first rounds events w next
    → TakenSince first w
piped_since first is rounds events w next pipes = taken_since first (first_true first is) events w (pipes_run first rounds events w next pipes)

pub piped_requests_are_answered : (first : World) (rounds : List Round) (events : List Event) (w : World) (next : ℕ) → IsFirst first
    → Pipes first rounds events w next → w.missed ≡ first.missed → AreAnswered first w
piped_requests_are_answered first rounds events w next is pipes none =
    let b = (pipes_bag first is rounds events w next pipes).here in
    are_answered first (λ n. next ≤ n) w b.true_there (found_bag (λ n. next ≤ n) (HasMissed first w) w (λ id lost. lost none) b.bag) (piped_since first is rounds events w next pipes)
    (none_left first is rounds events w next pipes)

pub earlier_requests_stay_answered : (first : World) (rounds : List Round) (events : List Event) (u : World) (next : ℕ) → IsFirst first
    → Pipes first rounds events u next → u.missed ≡ first.missed → (more : List Event) (w : World) → Run u more w
    → AllByRecursion (IsAnswered w.answered) (asked_since first u) × AllByRecursion (IsServed (account_of w)) (asked_since first u)
earlier_requests_stay_answered first rounds events u next is pipes none more w run =
    stay_answered u more w (run_keeps u w more (pipes_bag first is rounds events u next pipes).here.true_there run) run (asked_since first u)
    (piped_since first is rounds events u next pipes).among (piped_requests_are_answered first rounds events u next is pipes none).answered
