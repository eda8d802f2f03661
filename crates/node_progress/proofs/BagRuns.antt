-- Every event keeps the bag, and so does every run.
use Rattle.std.proofs.Common.{◌≡◌, ◌≢◌, ◌⊎◌, inl, inr, ℕ, ◌+◌, ◌<◌, ◌≤◌, List, [], ◌∷◌, ◌++◌, length, refl, sym, ap, subst, ◌∙◌, arith, append-nil, append_assoc, length-append}
use Rattle.std.specs.Prelude.{Some}
use Rattle.std.specs.List.{AllByRecursion, slice_get}
use Rattle.std.proofs.lemmas.Option.{slice_get_within}
use Rattle.base_model.specs.Identities.{RequestId}
use Rattle.history_model.specs.History.{IsIn}
use Rattle.history_model.proofs.Lists.{all_at, all_weaken, in_push, in_none}
use Rattle.node_model.specs.Journal.{Kept, kept_life}
use Rattle.node_model.specs.Letters.{Letter, Input, client_input, letter_input, moment_input, opened_input, Effect, writes, both}
use Rattle.node_model.specs.States.{Router, NodeState, catalogue_state, shard_state, router_state}
use Rattle.node_model.specs.RouterRows.{begins}
use Rattle.node_model.specs.Steps.{Step, catalogue_step, shard_step, router_step, begin_step, other_step}
use Rattle.node_model.specs.Lacks.{misses}
use Rattle.node_model.specs.World.{Held, World, after, is_given, tick, Moves, Misses, Meets, Event, client_event, deliver_event, moment_event, opened_event, Happens, comes, delivers, passes, begins as was_opened, Run, stands, goes}
use Rattle.node_laws.proofs.Views.{Book}
use Rattle.node_laws.proofs.Places.{EachAt, each_get}
use Rattle.node_laws.proofs.Facts.{Good}
use Rattle.node_laws.proofs.StepsKeep.{StaysTrue, fits_here, got_is_in}
use Rattle.restart_laws.proofs.Kept.{event_keeps as facts_keep}
use Rattle.node_progress.specs.Completion.{IsQuiet}
use Rattle.node_progress.specs.Firsts.{IsAtRest}
use Rattle.node_progress.specs.UnderWay.{IsLeft}
use Rattle.node_progress.proofs.Places.{same_place}
use Rattle.node_progress.proofs.Shards.{AreShards}
use Rattle.node_progress.proofs.RouterGoesOn.{IsReady}
use Rattle.node_progress.proofs.Bags.{Left, left_but, all_of, AllLost, changes_made, OpenGoes, ParkedGoes, NodeGoes, IsPosted, posted_later, posted_to, Bag, Clears}
use Rattle.node_progress.proofs.BagFacts.{IsHere, ready_here, tables_here, sent_here}
use Rattle.node_progress.proofs.NoneMissed.{miss_noted, first_misses_none, rest_misses_none}
use Rattle.node_progress.proofs.BagMisses.{state_place, miss_bag}
use Rattle.node_progress.proofs.BagKinds.{catalogue_keeps, shard_keeps, router_keeps}

-- A STEP

-- a router that begins its life is as it was, for what is known before
ready_begins : (r : Router) (i : Input) → IsReady r i → IsReady (begins r) i
ready_begins r i x = record {
  place = x.place;
  not_zero = x.not_zero;
  not_one = x.not_one;
  not_shard = x.not_shard;
  some = x.some;
  different = x.different;
  waiting = x.waiting;
  stated = x.stated;
  sent = x.sent;
  tables = x.tables;
  current = x.current;
  told = x.told;
}

step_bag : (left later : Left) (w : World) (book : Book) (p : ℕ) (i : Input) (kept : List Kept) (steps : ℕ) (old : NodeState) (f : Effect) (new : NodeState)
    → Good w book → Bag left w → slice_get w.nodes p ≡ Some (record { state = old; kept = kept; steps = steps }) → Clears left later w.sent i
    → ((n : ℕ) → length w.sent ≤ n → later.places n) → IsHere w p i → NodeGoes left w p old → Step old i f new
    → Bag later (tick (after (is_given w p i) p (record { state = old; kept = kept; steps = steps }) f new))
step_bag left later w book p _ kept steps _ _ _ good bag here clears fresh arrives node (catalogue_step c d i f own row) =
    catalogue_keeps left later w book p i kept steps c d f good bag here clears fresh arrives row
step_bag left later w book p _ kept steps _ _ _ good bag here clears fresh arrives node (shard_step s u i f own row) =
    shard_keeps left later w book p i kept steps s u f good bag here clears fresh arrives row node
step_bag left later w book p _ kept steps _ _ _ good bag here clears fresh arrives node (router_step r u i f own row) =
    router_keeps left later w book p i kept steps r r u f good bag here clears fresh arrives row (ready_here w book left good bag r p kept steps i here arrives node) node
    (tables_here w book left good bag r p kept steps here) (sent_here w book left good bag r p kept steps here) refl refl f refl refl
step_bag left later w book p _ kept steps _ _ _ good bag here clears fresh arrives node (begin_step r u i f early before row) =
    router_keeps left later w book p i kept steps r (begins r) u f good bag here clears fresh arrives row
    (ready_begins r i (ready_here w book left good bag r p kept steps i here arrives node))
    (all_weaken (OpenGoes left w r) (OpenGoes left w (begins r)) r.requests (λ q o. record { waiting = o.waiting; runs = o.runs; some = o.some; carried = o.carried }) node)
    (tables_here w book left good bag r p kept steps here) (sent_here w book left good bag r p kept steps here) refl refl (both (writes (kept_life r.life ∷ []) []) f)
    refl refl
step_bag left later w book p _ kept steps _ _ _ good bag here clears fresh arrives node (other_step s m other) =
    absurd (other ((arrives m refl).0
    ∙ sym (state_place w book p kept s (fits_here w book p (record { state = s; kept = kept; steps = steps }) good here).state)))

-- AN EVENT

-- what is left later, after an event: all but the message that it delivers
abbrev pub Leaves : (left later : ℕ → Type 0) → Event → Type 0
Leaves left later (client_event at link number request) = (n : ℕ) → left n → later n
Leaves left later (deliver_event at which) = (n : ℕ) → left n → later n ⊎ (n ≡ which)
Leaves left later (moment_event at moment) = (n : ℕ) → left n → later n
Leaves left later (opened_event at) = (n : ℕ) → left n → later n

move_bag : (left later : Left) (w v : World) (book : Book) (p : ℕ) (i : Input) → Good w book → Bag left w → Clears left later w.sent i
    → ((n : ℕ) → length w.sent ≤ n → later.places n) → IsHere w p i → Moves w p i v → Bag later v
move_bag left later w v book p i good bag clears fresh arrives m =
    let from_zero : 0 + p ≡ p = omega arith in
    let node = subst (λ k. NodeGoes left w k m.old.state) from_zero
    (each_get (λ j (h : Held). NodeGoes left w j h.state) 0 p w.nodes m.old bag.nodes m.here) in
    subst (λ x. Bag later x) (sym m.then)
    (step_bag left later w book p i m.old.kept m.old.steps m.old.state m.f m.new good bag m.here clears fresh arrives node m.step)

-- or it is missed, and nothing is said of any request
meet_bag : (left later : Left) (w v : World) (book : Book) (p : ℕ) (i : Input) → Good w book → Bag left w → Clears left later w.sent i
    → ((n : ℕ) → length w.sent ≤ n → later.places n) → IsHere w p i → (v.missed ≡ w.missed) ⊎ AllLost later → Meets w p i v → Bag later v
meet_bag left later w v book p i good bag clears fresh arrives none (inl m) = move_bag left later w v book p i good bag clears fresh arrives m
meet_bag left later w v book p i good bag clears fresh arrives (inl none) (inr m) = miss_noted w v p i m none
meet_bag left later w v book p i good bag clears fresh arrives (inr lost) (inr m) = miss_bag left later w v book p i good bag lost clears.stay fresh arrives m

no_letter : (w : World) (p : ℕ) (i : Input) → ((m : Letter) → i ≡ letter_input m → ⊥) → IsHere w p i
no_letter w p i none m is = absurd (none m is)

pub event_bag : (left later : Left) (w v : World) (book : Book) (e : Event) → Good w book → Bag left w → Leaves left.places later.places e
    → ((id : RequestId) → left.lost id → later.lost id) → ((n : ℕ) → length w.sent ≤ n → later.places n) → (v.missed ≡ w.missed) ⊎ AllLost later
    → Happens w e v → Bag later v
event_bag left later _ _ book _ good bag leaves stay fresh none (comes w v at link number request is m) =
    meet_bag left later w v book at (client_input link number request) good bag (record { places = λ n l. inl (leaves n l); stay = stay }) fresh
    (no_letter w at (client_input link number request) (λ x e. cc e)) none m
event_bag left later _ _ book _ good bag leaves stay fresh none (delivers w v at which letter got to m) =
    meet_bag left later w v book at (letter_input letter) good bag (record { places = λ n l. clears n (leaves n l); stay = stay }) fresh
    (λ x e. let same : letter ≡ x = cc e in subst (λ y. (y.receiver ≡ at) × IsIn y w.sent) same (to, got_is_in w.sent which letter got)) none m
  where
    clears : (n : ℕ) → later.places n ⊎ (n ≡ which) → later.places n ⊎ ((x : Letter) × (slice_get w.sent n ≡ Some x) × (letter_input letter ≡ letter_input x))
    clears n (inl still) = inl still
    clears n (inr same) = inr (letter, ap (λ k. slice_get w.sent k) same ∙ got, refl)
event_bag left later _ _ book _ good bag leaves stay fresh none (passes w v at moment m) =
    meet_bag left later w v book at (moment_input moment) good bag (record { places = λ n l. inl (leaves n l); stay = stay }) fresh (no_letter w at (moment_input moment) (λ x e. cc e)) none m
event_bag left later _ _ book _ good bag leaves stay fresh none (was_opened w v at m) =
    meet_bag left later w v book at opened_input good bag (record { places = λ n l. inl (leaves n l); stay = stay }) fresh (no_letter w at opened_input (λ x e. cc e)) none m

-- THE FIRST WORLD

-- where no request is open and none is parked, nothing is under way
pub quiet_goes : (left : Left) (w : World) (at : ℕ) (s : NodeState) → IsQuiet s → NodeGoes left w at s
quiet_goes left w at (catalogue_state c) quiet = tt
quiet_goes left w at (shard_state s) quiet = subst (λ l. AllByRecursion (ParkedGoes left w at s) l) (sym quiet) tt
quiet_goes left w at (router_state r) quiet = subst (λ l. AllByRecursion (OpenGoes left w r) l) (sym quiet) tt

all_go : (left : Left) (w : World) (at : ℕ) (nodes : List Held) → AllByRecursion (λ (h : Held). IsQuiet h.state) nodes
    → EachAt (λ j (h : Held). NodeGoes left w j h.state) at nodes
all_go left w at [] quiet = tt
all_go left w at (h ∷ nodes) quiet = (quiet_goes left w at h.state quiet.0, all_go left w (at + 1) nodes quiet.1)

pub first_bag : (left : ℕ → Type 0) (w : World) → IsAtRest w → AreShards w.nodes → ((n : ℕ) → left n) → Bag (all_of left) w
first_bag left w rest shards all = record {
  fresh = λ n le. all n;
  well = subst (λ l. AllByRecursion (IsPosted (all_of left) (changes_made w) (length w.nodes)) l) (sym rest.none_sent) tt;
  shards = shards;
  nodes = all_go (all_of left) w 0 w.nodes rest.quiet;
  asked = rest.placed;
}

-- A WORLD WITH ITS BAG

pub record BagIn (left : Left) (w : World) : Type 0 where
  pub true_there : StaysTrue w
  pub bag : Bag left w

-- each message goes to a node
pub goes_to_node : (left : Left) (w : World) (n : ℕ) (m : Letter) → BagIn left w → slice_get w.sent n ≡ Some m → m.receiver < length w.nodes
goes_to_node left w n m b got =
    posted_to left (changes_made w) (length w.nodes) m
    (all_at (IsPosted left (changes_made w) (length w.nodes)) m w.sent b.bag.well (got_is_in w.sent n m got))

pub delivery_bag : (lost later_lost : RequestId → Type 0) (left later : ℕ → Type 0) (w v : World) (at which : ℕ) → BagIn (left_but left lost) w
    → Leaves left later (deliver_event at which) → ((id : RequestId) → lost id → later_lost id) → ((n : ℕ) → length w.sent ≤ n → later n)
    → (v.missed ≡ w.missed) ⊎ ((id : RequestId) → later_lost id) → Happens w (deliver_event at which) v → BagIn (left_but later later_lost) v
delivery_bag lost later_lost left later w v at which b leaves stay fresh none h = record {
  true_there = facts_keep w v (deliver_event at which) b.true_there h;
  bag = event_bag (left_but left lost) (left_but later later_lost) w v b.true_there.0.book (deliver_event at which) b.true_there.0.good b.bag leaves stay fresh none h;
}

-- an event that delivers nothing
abbrev pub IsNoDelivery : Event → Type 0
IsNoDelivery (client_event at link number request) = Unit {0}
IsNoDelivery (deliver_event at which) = ⊥
IsNoDelivery (moment_event at moment) = Unit {0}
IsNoDelivery (opened_event at) = Unit {0}

all_left : (left : ℕ → Type 0) (e : Event) → IsNoDelivery e → Leaves left left e
all_left left (client_event at link number request) is = λ n l. l
all_left left (deliver_event at which) is = absurd is
all_left left (moment_event at moment) is = λ n l. l
all_left left (opened_event at) is = λ n l. l

pub event_keeps : (places : ℕ → Type 0) (lost later_lost : RequestId → Type 0) (w v : World) (e : Event) → IsNoDelivery e → BagIn (left_but places lost) w
    → ((id : RequestId) → lost id → later_lost id) → (v.missed ≡ w.missed) ⊎ ((id : RequestId) → later_lost id) → Happens w e v
    → BagIn (left_but places later_lost) v
event_keeps places lost later_lost w v e is b stay none h = record {
  true_there = facts_keep w v e b.true_there h;
  bag = event_bag (left_but places lost) (left_but places later_lost) w v b.true_there.0.book e b.true_there.0.good b.bag (all_left places e is) stay b.bag.fresh
      none h;
}

-- WHERE NOTHING WAS LOST

each_to : (P Q : ℕ → Held → Type 0) (at : ℕ) (nodes : List Held) → ((j : ℕ) (h : Held) → P j h → Q j h) → EachAt P at nodes → EachAt Q at nodes
each_to P Q at [] to all = tt
each_to P Q at (h ∷ nodes) to all = (to at h all.0, each_to P Q (at + 1) nodes to all.1)

-- what was lost is lost, or more is
module _ (places : ℕ → Type 0) (lost later_lost : RequestId → Type 0) (w : World) (stay : (id : RequestId) → lost id → later_lost id) where
  or_lost : {X : Type 0} (id : RequestId) → lost id ⊎ X → later_lost id ⊎ X
  or_lost id (inl l) = inl (stay id l)
  or_lost id (inr x) = inr x

  goes_or_lost : (j : ℕ) (s : NodeState) → NodeGoes (left_but places lost) w j s → NodeGoes (left_but places later_lost) w j s
  goes_or_lost j (catalogue_state c) held = tt
  goes_or_lost j (shard_state s) held =
      all_weaken (ParkedGoes (left_but places lost) w j s) (ParkedGoes (left_but places later_lost) w j s) s.parked
      (λ x g. record { first = g.first; ask = g.ask; asks = g.asks; none = g.none; well = g.well; table = or_lost g.ask.id g.table }) held
  goes_or_lost j (router_state r) held =
      all_weaken (OpenGoes (left_but places lost) w r) (OpenGoes (left_but places later_lost) w r) r.requests
      (λ q o. record { waiting = o.waiting; runs = o.runs; some = o.some; carried = or_lost _ o.carried }) held

  pub weaker_bag : Bag (left_but places lost) w → Bag (left_but places later_lost) w
  weaker_bag bag = record {
    fresh = bag.fresh;
    well = all_weaken (IsPosted (left_but places lost) (changes_made w) (length w.nodes)) (IsPosted (left_but places later_lost) (changes_made w) (length w.nodes)) w.sent
        (λ m x. posted_later (left_but places lost) (left_but places later_lost) [] (changes_made w) (changes_made w) (length w.nodes) m stay refl x) bag.well;
    shards = bag.shards;
    nodes = each_to (λ j (h : Held). NodeGoes (left_but places lost) w j h.state) (λ j (h : Held). NodeGoes (left_but places later_lost) w j h.state) 0 w.nodes
        (λ j h held. goes_or_lost j h.state held) bag.nodes;
    asked = bag.asked;
  }

pub lost_bag : (places : ℕ → Type 0) (lost : RequestId → Type 0) (w : World) → Bag (all_of places) w → Bag (left_but places lost) w
lost_bag places lost w bag = weaker_bag places (λ id. ⊥) lost w (λ id none. absurd none) bag

pub found_bag : (places : ℕ → Type 0) (lost : RequestId → Type 0) (w : World) → ((id : RequestId) → lost id → ⊥) → Bag (left_but places lost) w → Bag (all_of places) w
found_bag places lost w none bag = weaker_bag places lost (λ id. ⊥) w none bag

-- A RUN

-- no event delivers what was not sent
abbrev pub AreWithin : List Event → World → Type 0
AreWithin events w = (at n : ℕ) → IsIn (deliver_event at n) events → n < length w.sent

pub record BagOf (events : List Event) (w : World) : Type 0 where
  pub true_there : StaysTrue w
  pub bag : Bag (all_of (IsLeft events)) w
  pub within : AreWithin events w

pub sent_grows : (w v : World) (e : Event) → Happens w e v → length w.sent ≤ length v.sent
sent_grows w v e h = by_event h
  where
    by_move : (u x : World) (p : ℕ) (i : Input) → Moves u p i x → length u.sent ≤ length x.sent
    by_move u x p i m =
        let l = length-append u.sent m.f.mail in
        let same : length x.sent ≡ length (u.sent ++ m.f.mail) = ap (λ (y : World). length y.sent) m.then in
        omega (arith, l, same)

    by_miss : (u x : World) (p : ℕ) (i : Input) → Misses u p i x → length u.sent ≤ length x.sent
    by_miss u x p i m =
        let mail : List Letter = (misses m.old.state m.lack i).mail in
        let l = length-append u.sent mail in
        let same : length x.sent ≡ length (u.sent ++ mail) = ap (λ (y : World). length y.sent) m.then in
        omega (arith, l, same)

    by_meet : (u x : World) (p : ℕ) (i : Input) → Meets u p i x → length u.sent ≤ length x.sent
    by_meet u x p i (inl m) = by_move u x p i m
    by_meet u x p i (inr m) = by_miss u x p i m

    by_event : {u x : World} {d : Event} → Happens u d x → length u.sent ≤ length x.sent
    by_event (comes u x at link number request is m) = by_meet u x at _ m
    by_event (delivers u x at which letter got to m) = by_meet u x at _ m
    by_event (passes u x at moment m) = by_meet u x at _ m
    by_event (was_opened u x at m) = by_meet u x at _ m

-- what an event delivers was sent
delivered_within : (w v : World) (e : Event) (at n : ℕ) → Happens w e v → deliver_event at n ≡ e → n < length w.sent
delivered_within _ _ _ at n (comes w v to link number request is m) same = absurd (cc same)
delivered_within _ _ _ at n (delivers w v to which letter got place m) same =
    let e : n ≡ which = cc same in
    let l = slice_get_within w.sent which letter got in
    omega (arith, e, l)
delivered_within _ _ _ at n (passes w v to moment m) same = absurd (cc same)
delivered_within _ _ _ at n (was_opened w v to m) same = absurd (cc same)

pub leaves_last : (before : List Event) (e : Event) → Leaves (IsLeft before) (IsLeft (before ++ e ∷ [])) e
leaves_last before (client_event to link number request) = λ n left at i. by_last n at left (in_push (deliver_event at n) before (client_event to link number request) i)
  where
    by_last : (n at : ℕ) → IsLeft before n → IsIn (deliver_event at n) before ⊎ (deliver_event at n ≡ client_event to link number request) → ⊥
    by_last n at left (inl there) = left at there
    by_last n at left (inr same) = cc same
leaves_last before (moment_event to moment) = λ n left at i. by_last n at left (in_push (deliver_event at n) before (moment_event to moment) i)
  where
    by_last : (n at : ℕ) → IsLeft before n → IsIn (deliver_event at n) before ⊎ (deliver_event at n ≡ moment_event to moment) → ⊥
    by_last n at left (inl there) = left at there
    by_last n at left (inr same) = cc same
leaves_last before (opened_event to) = λ n left at i. by_last n at left (in_push (deliver_event at n) before (opened_event to) i)
  where
    by_last : (n at : ℕ) → IsLeft before n → IsIn (deliver_event at n) before ⊎ (deliver_event at n ≡ opened_event to) → ⊥
    by_last n at left (inl there) = left at there
    by_last n at left (inr same) = cc same
leaves_last before (deliver_event to which) = λ n left. by_place n left (same_place n which)
  where
    by_last : (n at : ℕ) → n ≢ which → IsLeft before n → IsIn (deliver_event at n) before ⊎ (deliver_event at n ≡ deliver_event to which) → ⊥
    by_last n at other left (inl there) = left at there
    by_last n at other left (inr same) = other (cc same)

    by_place : (n : ℕ) → IsLeft before n → (n ≡ which) ⊎ (n ≢ which) → IsLeft (before ++ deliver_event to which ∷ []) n ⊎ (n ≡ which)
    by_place n left (inl same) = inr same
    by_place n left (inr other) = inl (λ at i. by_last n at other left (in_push (deliver_event at n) before (deliver_event to which) i))

-- what is sent in an event, or later, no event up to it delivers
pub left_past : (before : List Event) (w v : World) (e : Event) → AreWithin before w → Happens w e v → (n : ℕ) → length w.sent ≤ n → IsLeft (before ++ e ∷ []) n
left_past before w v e within h n le at i = by_place (in_push (deliver_event at n) before e i)
  where
    by_place : IsIn (deliver_event at n) before ⊎ (deliver_event at n ≡ e) → ⊥
    by_place (inl there) = let l = within at n there in omega (arith, le, l)
    by_place (inr same) = let l = delivered_within w v e at n h same in omega (arith, le, l)

pub within_more : (before : List Event) (w v : World) (e : Event) → AreWithin before w → Happens w e v → AreWithin (before ++ e ∷ []) v
within_more before w v e within h at n i = by_place (in_push (deliver_event at n) before e i)
  where
    by_place : IsIn (deliver_event at n) before ⊎ (deliver_event at n ≡ e) → n < length v.sent
    by_place (inl there) = let l = within at n there in let g = sent_grows w v e h in omega (arith, l, g)
    by_place (inr same) = let l = delivered_within w v e at n h same in let g = sent_grows w v e h in omega (arith, l, g)

event_more : (before : List Event) (w v : World) (e : Event) → BagOf before w → v.missed ≡ w.missed → Happens w e v → BagOf (before ++ e ∷ []) v
event_more before w v e b none h = record {
  true_there = facts_keep w v e b.true_there h;
  bag = event_bag (all_of (IsLeft before)) (all_of (IsLeft (before ++ e ∷ []))) w v b.true_there.0.book e b.true_there.0.good b.bag (leaves_last before e)
      (λ id l. l) (left_past before w v e b.within h) (inl none) h;
  within = within_more before w v e b.within h;
}

pub run_more : (before : List Event) (u : World) (es : List Event) (w : World) → BagOf before u → Run u es w → w.missed ≡ u.missed → BagOf (before ++ es) w
run_more before _ _ _ b (stands w) none = subst (λ l. BagOf l w) (sym (append-nil before)) b
run_more before _ _ _ b (goes u v w e es h run) none =
    subst (λ l. BagOf l w) (append_assoc before (e ∷ []) es)
    (run_more (before ++ e ∷ []) v es w (event_more before u v e b (first_misses_none u v w e es h run none) h) run (rest_misses_none u v w e es h run none))

pub run_bag : (first : World) → StaysTrue first → IsAtRest first → AreShards first.nodes → (events : List Event) (w : World) → Run first events w
    → w.missed ≡ first.missed → BagOf events w
run_bag first good rest shards events w run none =
    run_more [] first events w (record {
      true_there = good;
      bag = first_bag (IsLeft []) first rest shards (λ n at i. in_none (deliver_event at n) i);
      within = λ at n i. absurd (in_none (deliver_event at n) i);
    }) run none

-- WHERE STEPS MAY BE MISSED

-- some bag
pub record AnyBag (w : World) : Type 1 where
  pub left : Left
  pub there : BagIn left w

-- of no request is anything said
abbrev all_lost : Left
all_lost = left_but (λ n. Unit {0}) (λ id. Unit {0})

leaves_any : (left : ℕ → Type 0) (e : Event) → Leaves left (λ n. Unit {0}) e
leaves_any left (client_event at link number request) = λ n l. tt
leaves_any left (deliver_event at which) = λ n l. inl tt
leaves_any left (moment_event at moment) = λ n l. tt
leaves_any left (opened_event at) = λ n l. tt

pub event_any : (left : Left) (w v : World) (e : Event) → BagIn left w → Happens w e v → AnyBag v
event_any left w v e b h = record {
  left = all_lost;
  there = record {
    true_there = facts_keep w v e b.true_there h;
    bag = event_bag left all_lost w v b.true_there.0.book e b.true_there.0.good b.bag (leaves_any left.places e) (λ id l. tt) (λ n le. tt) (inr (λ id. tt)) h;
  };
}

pub run_any : (u : World) (es : List Event) (w : World) → AnyBag u → Run u es w → AnyBag w
run_any _ _ _ b (stands w) = b
run_any _ _ _ b (goes u v w e es h run) = run_any v es w (event_any b.left u v e b.there h) run

pub any_bag : (first : World) → StaysTrue first → IsAtRest first → AreShards first.nodes → (events : List Event) (w : World) → Run first events w → AnyBag w
any_bag first good rest shards events w run =
    run_any first events w
    (record { left = all_of (λ n. Unit {0}); there = record { true_there = good; bag = first_bag (λ n. Unit {0}) first rest shards (λ n. tt) } }) run
