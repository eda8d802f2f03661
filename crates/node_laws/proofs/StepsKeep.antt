-- Every step keeps all facts.
use Rattle.std.proofs.Common.{◌≡◌, ℕ, zero, suc, ◌+◌, ◌<◌, List, [], ◌∷◌, ◌++◌, refl, sym, ap, subst, ◌∙◌, arith, append-nil, append_assoc, inl, inr}
use Rattle.std.specs.Prelude.{Some}
use Rattle.std.specs.List.{AllByRecursion, slice_get, slice_set}
use Rattle.history_model.proofs.Lists.{all_weaken, all_at, in_back, in_first}
use Rattle.base_model.specs.Times.{time_of_moment}
use Rattle.history_model.specs.History.{IsIn}
use Rattle.reply_model.specs.Exchanges.{Asked, Answered}
use Rattle.reply_model.specs.Accounts.{Given, Missed}
use Rattle.node_model.specs.Journal.{Kept, kept_life, entries_kept}
use Rattle.node_model.specs.Letters.{Input, client_input, letter_input, moment_input, opened_input, Taken, Reply, Effect, nothing, writes, both}
use Rattle.node_model.specs.States.{Router, NodeState, catalogue_state, shard_state, router_state, time_of_node}
use Rattle.node_model.specs.RouterRows.{begins, RouterRow, router_begin}
use Rattle.node_model.specs.Steps.{Step, catalogue_step, shard_step, router_step, begin_step, other_step, BeginsBefore}
use Rattle.node_model.specs.World.{Held, World, asked_by, answered_by, after, moment_in, is_given, tick, Moves, Misses, Meets, Event, Happens, comes, delivers, passes, begins as was_opened, Run, stands, goes}
use Rattle.node_laws.proofs.Views.{Book, View, view_of, Later}
use Rattle.node_laws.proofs.Places.{each_get, each_weaken}
use Rattle.chunk_model.specs.Tables.{first_shard}
use Rattle.node_laws.proofs.TimeFacts.{HeardFits}
use Rattle.node_laws.proofs.HeardTimes.{TellsTime, leaves_all, row_times, still_heard}
use Rattle.node_laws.proofs.RouterMessages.{time_said}
use Rattle.node_laws.proofs.Facts.{node_of, NodeFits, IsReached, ReachFits, raises_of, HeldFits, IsMet, SentFits, Good}
use Rattle.node_laws.proofs.Owes.{InputFits, StaysHeard, Owes}
use Rattle.node_laws.proofs.Growth.{met_grows, met_later}
use Rattle.node_laws.proofs.Journals.{with_more, more_self, more_then, later_self, views_later}
use Rattle.node_laws.proofs.Views.{More}
use Rattle.node_laws.proofs.Dates.{dated_more}
use Rattle.node_laws.proofs.Causes.{IsTrueReply, IsTrueAnswer, no_replies, shard_aside, router_aside, row_true, works_of, input_truly, all_still_true}
use Rattle.node_laws.proofs.ReplySteps.{AreBased, move_based}
use Rattle.node_laws.proofs.CausedWrites.{AreCaused, move_caused}
use Rattle.node_laws.proofs.Keeps.{turned, book_after, good_after}
use Rattle.node_laws.proofs.CatalogueRows.{catalogue_rests, catalogue_owes}
use Rattle.node_laws.proofs.ShardRows.{shard_rests, shard_owes}
use Rattle.node_laws.proofs.RouterRows.{RestOwes, router_rests, router_owes}
use Rattle.node_model.proofs.Journals.{journal_got}
use Rattle.node_laws.proofs.Moments.{HadMoment, Moments, moments_move}

-- A MOMENT THAT IS GIVEN

-- facts stay where a moment is given
pub given_good : (w : World) (book : Book) (at : ℕ) (i : Input) → Good w book → Good (is_given w at i) book
given_good w book at i good =
    let v : View = view_of w.nodes book in
    let more : List Given = moment_in at w.now i in
    record {
      order = good.order;
      dated = good.dated;
      beside = good.beside;
      nodes = each_weaken (HeldFits v w.asked w.answered w.given) (HeldFits v w.asked w.answered (w.given ++ more)) 0 w.nodes
          (λ j h f. record { state = f.state; met = met_grows v v w.given more (time_of_node h.state) (later_self v) f.met; cursors = f.cursors; within = f.within }) good.nodes;
      letters = all_weaken (SentFits v w.changed w.asked w.answered w.given) (SentFits v w.changed w.asked w.answered (w.given ++ more)) w.sent
          (λ m f. (f.0, met_grows v v w.given more m.time (later_self v) f.1, f.2)) good.letters;
      heard = good.heard;
      answers = good.answers;
      decided = good.decided;
      came = good.came;
      one = good.one;
      once = good.once;
      fresh = good.fresh;
      in_order = good.in_order;
      known = all_weaken (λ (a : Asked). IsMet v w.given a.time) (λ (a : Asked). IsMet v (w.given ++ more) a.time) w.asked
          (λ a f. met_grows v v w.given more a.time (later_self v) f) good.known;
      met = all_weaken (λ (t : Answered). IsMet v w.given t.time) (λ (t : Answered). IsMet v (w.given ++ more) t.time) w.answered
          (λ t f. met_grows v v w.given more t.time (later_self v) f) good.met;
      given = more_then book.given w.given (w.given ++ more) good.given (record { news = more; same = refl });
      missed = good.missed;
      lacks = good.lacks;
      away = good.away;
      reach = good.reach;
      noted = good.noted;
    }

-- what is known of an input where it comes: its message was sent before
abbrev pub WasPosted : World → Input → Type 0
WasPosted w (letter_input m) = IsIn m w.sent
WasPosted w (client_input link number request) = Unit {0}
WasPosted w (moment_input moment) = Unit {0}
WasPosted w opened_input = Unit {0}

pub input_fits : (w : World) (book : Book) (at : ℕ) (i : Input) → Good w book → AllByRecursion (λ (a : Asked). a.came < w.now) w.asked → WasPosted w i → InputFits (is_given w at i) book at i
input_fits w book at (letter_input m) good came there =
    let v : View = view_of w.nodes book in
    let f = all_at (SentFits v w.changed w.asked w.answered w.given) m w.sent good.letters there in
    (f.0, met_grows v v w.given [] m.time (later_self v) f.1, f.2)
input_fits w book at (client_input link number request) good came there = tt
input_fits w book at (moment_input moment) good came there = (
  inr (inl (
    record { node = at; moment = moment; step = w.now },
    in_back (record { node = at; moment = moment; step = w.now }) w.given
        (record { node = at; moment = moment; step = w.now } ∷ []) (in_first (record { node = at; moment = moment; step = w.now }) []),
    omega arith,
  )),
  in_back (record { node = at; moment = moment; step = w.now }) w.given
      (record { node = at; moment = moment; step = w.now } ∷ []) (in_first (record { node = at; moment = moment; step = w.now }) []),
  came,
)
input_fits w book at opened_input good came there = tt

-- A STEP

pub fits_here : (w : World) (book : Book) (at : ℕ) (old : Held) → Good w book → slice_get w.nodes at ≡ Some old
    → HeldFits (view_of w.nodes book) w.asked w.answered w.given at old
fits_here w book at old good here =
    let zero_at : 0 + at ≡ at = omega arith in
    subst (λ k. HeldFits (view_of w.nodes book) w.asked w.answered w.given k old) zero_at
    (each_get (HeldFits (view_of w.nodes book) w.asked w.answered w.given) 0 at w.nodes old good.nodes here)

pub set_set : {X : Type 0} (xs : List X) (k : ℕ) (x y : X) → slice_set (slice_set xs k x) k y ≡ slice_set xs k y
set_set [] k x y = refl
set_set (z ∷ xs) zero x y = refl
set_set (z ∷ xs) (suc k) x y = ap (λ l. z ∷ l) (set_set xs k x y)

pub get_set : {X : Type 0} (xs : List X) (k : ℕ) (x y : X) → slice_get xs k ≡ Some x → slice_get (slice_set xs k y) k ≡ Some y
get_set [] k x y got = absurd (cc)
get_set (z ∷ xs) zero x y got = refl
get_set (z ∷ xs) (suc k) x y got = get_set xs k x y got

pub set_same : {X : Type 0} (xs : List X) (k : ℕ) (x : X) → slice_get xs k ≡ Some x → slice_set xs k x ≡ xs
set_same [] k x got = refl
set_same (z ∷ xs) zero x got = let same : z ≡ x = cc in ap (λ y. y ∷ xs) (sym same)
set_same (z ∷ xs) (suc k) x got = ap (λ l. z ∷ l) (set_same xs k x got)

asked_more : (now : ℕ) (xs ys : List Taken) → asked_by now (xs ++ ys) ≡ asked_by now xs ++ asked_by now ys
asked_more now [] ys = refl
asked_more now (x ∷ xs) ys = ap
    (λ l. record { id = x.id; link = x.link; number = x.number; came = now; time = x.time; moment = x.moment; request = x.request } ∷ l) (asked_more now xs ys)

answered_more : (now : ℕ) (xs ys : List Reply) → answered_by now (xs ++ ys) ≡ answered_by now xs ++ answered_by now ys
answered_more now [] ys = refl
answered_more now (x ∷ xs) ys = ap
    (λ l. record { id = x.id; link = x.link; number = x.number; request = x.request; step = now; time = x.time; document = x.document } ∷ l)
    (answered_more now xs ys)

pub after_both : (w : World) (at : ℕ) (old : Held) (f g : Effect) (u t : NodeState)
    → turned (turned w at old f u old.steps w.missed w.away) at (with_more old f.written u old.steps) g t (old.steps + 1) w.missed w.away
    ≡ after w at old (both f g) t
after_both w at old f g u t =
    let n = set_set w.nodes at (with_more old f.written u old.steps)
    (record { state = t; kept = (old.kept ++ f.written) ++ g.written; steps = old.steps + 1 })
    ∙ ap (λ (l : List Kept). slice_set w.nodes at (record { state = t; kept = l; steps = old.steps + 1 })) (append_assoc old.kept f.written g.written) in
    let s = append_assoc w.sent f.mail g.mail in
    let a = append_assoc w.asked (asked_by w.now f.taken) (asked_by w.now g.taken) ∙ ap (λ l. w.asked ++ l) (sym (asked_more w.now f.taken g.taken)) in
    let d = append_assoc w.answered (answered_by w.now f.replies) (answered_by w.now g.replies)
    ∙ ap (λ l. w.answered ++ l) (sym (answered_more w.now f.replies g.replies)) in
    let c = sym (dated_more w.now w.changed f.written g.written) in
    λ i. record {
      nodes = n i;
      sent = s i;
      asked = a i;
      answered = d i;
      given = w.given;
      learned = w.learned;
      missed = w.missed;
      away = w.away;
      changed = c i;
      now = w.now;
    }

-- an input that a life begins before says the same after the beginning
pub fits_later : (w : World) (book : Book) (at : ℕ) (old : Held) (f : Effect) (new : NodeState) (steps : ℕ) (next : Book) (i : Input) → BeginsBefore i
    → f.taken ≡ [] → Later (view_of w.nodes book) (view_of (slice_set w.nodes at (with_more old f.written new steps)) next) → InputFits w book at i
    → InputFits (turned w at old f new steps w.missed w.away) next at i
fits_later w book at old f new steps next (client_input link number request) before none later fits = tt
fits_later w book at old f new steps next (moment_input moment) before none later fits = (
  met_later (view_of w.nodes book) (view_of (slice_set w.nodes at (with_more old f.written new steps)) next) w.given (time_of_moment moment) later fits.0,
  fits.1,
  subst (λ l. AllByRecursion (λ (a : Asked). a.came < w.now) (w.asked ++ asked_by w.now l)) (sym none)
      (subst (λ l. AllByRecursion (λ (a : Asked). a.came < w.now) l) (sym (append-nil w.asked)) fits.2),
)
fits_later w book at old f new steps next (letter_input m) before none later fits = absurd before
fits_later w book at old f new steps next opened_input before none later fits = absurd before

-- a step of a router keeps what it heard
pub router_hears : (w : World) (book : Book) (at : ℕ) (kept : List Kept) (steps : ℕ) (r s : Router) (i : Input) (f : Effect) → Good w book
    → slice_get w.nodes at ≡ Some (record { state = router_state r; kept = kept; steps = steps }) → InputFits w book at i → RouterRow r i f s
    → StaysHeard w at f (router_state s)
router_hears w book at kept steps r s i f good here input row = λ v others.
    still_heard (view_of w.nodes book) v w.asked w.answered w.now r s i f
    (let place = (fits_here w book at (record { state = router_state r; kept = kept; steps = steps }) good here).state.place in
    ap (λ l. entries_kept l) (others first_shard (λ e. omega (arith, e, place))))
    good.came good.one (input_said i input)
    (each_get (λ k (x : Held). HeardFits (view_of w.nodes book) w.asked w.answered x.state) 0 at w.nodes _ good.heard here) (row_times r s i f row)
  where
    input_said : (j : Input) → InputFits w book at j → TellsTime (view_of w.nodes book) w.asked w.answered j
    input_said (letter_input m) fits = time_said w book m fits
    input_said (client_input link number request) fits = tt
    input_said (moment_input moment) fits = tt
    input_said opened_input fits = tt

-- a world with what is noted of its run
pub record HasBook (w : World) : Type 0 where
  pub book : Book
  pub good : Good w book

pub reach_here : (w : World) (book : Book) (at : ℕ) (old : Held) → Good w book → slice_get w.nodes at ≡ Some old → ReachFits book.reached old.state
reach_here w book at old good here = each_get (λ k (x : Held). ReachFits book.reached x.state) 0 at w.nodes old good.reach here

pub hears_here : (w : World) (book : Book) (at : ℕ) (old : Held) → Good w book → slice_get w.nodes at ≡ Some old
    → HeardFits (view_of w.nodes book) w.asked w.answered old.state
hears_here w book at old good here = each_get (λ k (x : Held). HeardFits (view_of w.nodes book) w.asked w.answered x.state) 0 at w.nodes old good.heard here

-- where nothing happens nothing is owed
pub rests_owe : (w : World) (book : Book) (at : ℕ) (kept : List Kept) (steps : ℕ) (s : NodeState) → Good w book
    → slice_get w.nodes at ≡ Some (record { state = s; kept = kept; steps = steps }) → Owes w book at (record { state = s; kept = kept }) nothing s
rests_owe w book at kept steps (catalogue_state c) good here = catalogue_rests w book at kept c good (fits_here w book at _ good here)
rests_owe w book at kept steps (shard_state s) good here = shard_rests w book at kept s good (journal_got w.nodes at _ here) (fits_here w book at _ good here)
rests_owe w book at kept steps (router_state r) good here =
    router_rests w book at kept r good (reach_here w book at _ good here) (fits_here w book at _ good here)

pub rests_heard : (w : World) (book : Book) (at : ℕ) (kept : List Kept) (steps : ℕ) (s : NodeState) → Good w book
    → slice_get w.nodes at ≡ Some (record { state = s; kept = kept; steps = steps }) → StaysHeard w at nothing s
rests_heard w book at kept steps (catalogue_state c) good here = λ v others. tt
rests_heard w book at kept steps (shard_state s) good here = λ v others. tt
rests_heard w book at kept steps (router_state r) good here = λ v others.
    still_heard (view_of w.nodes book) v w.asked w.answered w.now r r opened_input nothing
    (let place = (fits_here w book at (record { state = router_state r; kept = kept; steps = steps }) good here).state.place in
    ap (λ l. entries_kept l) (others first_shard (λ e. omega (arith, e, place))))
    good.came good.one tt (hears_here w book at _ good here) (leaves_all r _ _ r (λ n. refl) refl (omega arith) refl)

-- what the rows owe in which work is given up (`GivesUp`)
abbrev pub AllRest : Type 0
AllRest = (w : World) (book : Book) (at : ℕ) (kept : List Kept) (r : Router) → Good w book
    → NodeFits (view_of w.nodes book) w.asked w.answered w.given at (record { state = router_state r; kept = kept })
    → AllByRecursion (IsReached book.reached r) r.requests → RestOwes w book at kept r

pub step_good : AllRest → (w : World) (book : Book) (at : ℕ) (kept : List Kept) (steps : ℕ) (s t : NodeState) (i : Input) (f : Effect) → Good w book
    → slice_get w.nodes at ≡ Some (record { state = s; kept = kept; steps = steps }) → InputFits w book at i → Step s i f t
    → HasBook (after w at (record { state = s; kept = kept; steps = steps }) f t)
step_good rest w book at kept steps _ _ _ _ good here input (catalogue_step c d i f own row) =
    record {
      book = _;
      good = good_after w book at _ f _ (steps + 1) w.missed w.away good here (more_self w.missed) good.lacks good.away
          (inl (fits_here w book at _ good here).state.place) (λ v others. tt)
          (catalogue_owes w book at kept c d i f good (fits_here w book at _ good here) input row);
    }
step_good rest w book at kept steps _ _ _ _ good here input (shard_step s t i f own row) =
    record {
      book = _;
      good = good_after w book at _ f _ (steps + 1) w.missed w.away good here (more_self w.missed) good.lacks good.away
          (inr (shard_aside s t i f row).stores) (λ v others. tt)
          (shard_owes w book at kept s t i f good (journal_got w.nodes at _ here) (fits_here w book at _ good here) own input row);
    }
step_good rest w book at kept steps _ _ _ _ good here input (router_step r q i f own row) =
    record {
      book = _;
      good = good_after w book at _ f _ (steps + 1) w.missed w.away good here (more_self w.missed) good.lacks good.away
          (inr (router_aside r q i f row)) (router_hears w book at kept steps r q i f good here input row)
          (router_owes w book at kept r q i f good (reach_here w book at _ good here) (hears_here w book at _ good here) (fits_here w book at _ good here) input
          (rest w book at kept r good (fits_here w book at _ good here) (reach_here w book at _ good here)) row);
    }
step_good rest w book at kept steps _ _ _ _ good here input (other_step s m other) =
    record {
      book = _;
      good = good_after w book at _ nothing s (steps + 1) w.missed w.away good here (more_self w.missed) good.lacks good.away (inr tt)
          (rests_heard w book at kept steps s good here) (rests_owe w book at kept steps s good here);
    }
step_good rest w book at kept steps _ _ _ _ good here input (begin_step r q i f nb before row) =
    let old : Held = record { state = router_state r; kept = kept; steps = steps } in
    let first : Effect = writes (kept_life r.life ∷ []) [] in
    let u : World = turned w at old first (router_state (begins r)) steps w.missed w.away in
    let held : Held = with_more old first.written (router_state (begins r)) steps in
    let owes : Owes w book at (node_of old) first (router_state (begins r)) =
    router_owes w book at kept r (begins r) opened_input first good (reach_here w book at old good here) (hears_here w book at old good here)
    (fits_here w book at old good here) tt (rest w book at kept r good (fits_here w book at old good here) (reach_here w book at old good here))
    (router_begin r nb) in
    let begun : Book = book_after w book at old first (router_state (begins r)) w.missed owes in
    let good_v : Good u begun =
    good_after w book at old first (router_state (begins r)) steps w.missed w.away good here (more_self w.missed) good.lacks good.away (inr (tt, tt))
    (router_hears w book at kept steps r (begins r) opened_input first good here tt (router_begin r nb)) owes in
    let here_v : slice_get u.nodes at ≡ Some held = get_set w.nodes at old held here in
    let later : Later (view_of w.nodes book) (view_of u.nodes begun) =
    views_later w.nodes at old first.written (router_state (begins r)) steps book owes.news owes.cursors w.given w.missed
    (raises_of (router_state (begins r))) good.given (subst (λ l. More l w.missed) good.missed (more_self w.missed)) here owes.rises
    (fits_here w book at old good here).within in
    let input_v : InputFits u begun at i = fits_later w book at old first (router_state (begins r)) steps begun i before refl later input in
    let next : Owes u begun at (node_of held) f (router_state q) =
    router_owes u begun at held.kept (begins r) q i f good_v (reach_here u begun at held good_v here_v) (hears_here u begun at held good_v here_v)
    (fits_here u begun at held good_v here_v) input_v
    (rest u begun at held.kept (begins r) good_v (fits_here u begun at held good_v here_v) (reach_here u begun at held good_v here_v)) row in
    subst (λ x. HasBook x) (after_both w at old first f (router_state (begins r)) (router_state q))
    (record {
      book = _;
      good = good_after u begun at held f (router_state q) (steps + 1) w.missed w.away good_v here_v (more_self w.missed) good.lacks good.away
          (inr (router_aside (begins r) q i f row)) (router_hears u begun at held.kept steps (begins r) q i f good_v here_v input_v row) next;
    })

pub tick_good : (w : World) (book : Book) → Good w book → Good (tick w) book
tick_good w book good = record {
  order = good.order;
  dated = good.dated;
  beside = good.beside;
  nodes = good.nodes;
  letters = good.letters;
  heard = good.heard;
  answers = good.answers;
  decided = good.decided;
  came = all_weaken (λ (a : Asked). a.came < w.now + 1) (λ (a : Asked). a.came < w.now + 1 + 1) w.asked (λ a l. omega arith) good.came;
  one = good.one;
  once = good.once;
  fresh = good.fresh;
  in_order = good.in_order;
  known = good.known;
  met = good.met;
  given = good.given;
  missed = good.missed;
  lacks = all_weaken (λ (x : Missed). x.step < w.now + 1) (λ (x : Missed). x.step < w.now + 1 + 1) w.missed (λ x l. omega arith) good.lacks;
  away = good.away;
  reach = good.reach;
  noted = good.noted;
}

pub move_keeps : AllRest → (w v : World) (book : Book) (at : ℕ) (i : Input) → Good w book → AllByRecursion (λ (a : Asked). a.came < w.now) w.asked → WasPosted w i → Moves w at i v → HasBook v
move_keeps rest w v book at i good came there m =
    let s = step_good rest (is_given w at i) book at m.old.kept m.old.steps m.old.state m.new i m.f (given_good w book at i good) m.here
    (input_fits w book at i good came there) m.step in
    subst (λ x. HasBook x) (sym m.then) (record { book = s.book; good = tick_good (after (is_given w at i) at m.old m.f m.new) s.book s.good })

pub got_is_in : {X : Type 0} (xs : List X) (k : ℕ) (x : X) → slice_get xs k ≡ Some x → IsIn x xs
got_is_in [] k x got = absurd (cc)
got_is_in (y ∷ xs) zero x got = ([], xs, ap (λ z. z ∷ xs) (first_same got))
  where
    first_same : Some y ≡ Some x → y ≡ x
    first_same e = cc
got_is_in (y ∷ xs) (suc k) x got = behind_one (got_is_in xs k x got)
  where
    behind_one : IsIn x xs → IsIn x (y ∷ xs)
    behind_one (prefix, back, e) = (y ∷ prefix, back, ap (λ l. y ∷ l) e)

-- REPLIES THAT NO COLLECTION EXISTS

-- the node at a place replies so truly
pub step_true : (w : World) (book : Book) (at : ℕ) (kept : List Kept) (steps : ℕ) (s t : NodeState) (i : Input) (f : Effect) → Good w book
    → slice_get w.nodes at ≡ Some (record { state = s; kept = kept; steps = steps }) → InputFits w book at i → Step s i f t
    → AllByRecursion (IsTrueReply w.changed w.asked) f.replies
step_true w book at kept steps _ _ _ _ good here input (catalogue_step c d i f own row) =
    subst (λ l. AllByRecursion (IsTrueReply w.changed w.asked) l) (sym (no_replies c d i f row)) tt
step_true w book at kept steps _ _ _ _ good here input (shard_step s t i f own row) =
    subst (λ l. AllByRecursion (IsTrueReply w.changed w.asked) l) (sym (shard_aside s t i f row).replies) tt
step_true w book at kept steps _ _ _ _ good here input (router_step r q i f own row) =
    row_true w.changed w.asked r q i f
    (works_of (view_of w.nodes book) w.asked w.answered r (fits_here w book at _ good here).state.requests) (input_truly w book at i input) row
step_true w book at kept steps _ _ _ _ good here input (begin_step r q i f nb before row) =
    row_true w.changed w.asked (begins r) q i f
    (works_of (view_of w.nodes book) w.asked w.answered r (fits_here w book at _ good here).state.requests) (input_truly w book at i input) row
step_true w book at kept steps _ _ _ _ good here input (other_step s m other) = tt

abbrev pub AreTrue : World → Type 0
AreTrue w = AllByRecursion (IsTrueAnswer w.changed w.asked) w.answered

move_true : (w v : World) (book : Book) (at : ℕ) (i : Input) → Good w book → AllByRecursion (λ (a : Asked). a.came < w.now) w.asked → WasPosted w i → AreTrue w → Moves w at i v → AreTrue v
move_true w v book at i good came there old m =
    let new = step_true (is_given w at i) book at m.old.kept m.old.steps m.old.state m.new i m.f (given_good w book at i good) m.here
    (input_fits w book at i good came there) m.step in
    subst (λ x. AreTrue x) (sym m.then)
    (all_still_true w.now w.changed m.f.written w.asked (asked_by w.now m.f.taken) w.answered m.f.replies good.came old new)

-- the facts, what routers know of moments, that replies are true, and what they rest on
abbrev pub StaysTrue : World → Type 0
StaysTrue w = HasBook w × Moments w × AreTrue w × AreBased w × AreCaused w

-- that a step that a node does not take, for a lack, keeps all (`NodeLacks`)
abbrev pub MissesKeep : Type 0
MissesKeep = (w v : World) (at : ℕ) (i : Input) → WasPosted w i → StaysTrue w → Misses w at i v → StaysTrue v

-- what came before a step
all_came : (w : World) → Moments w → AllByRecursion (λ (a : Asked). a.came < w.now) w.asked
all_came w moments = all_weaken (λ a. HadMoment w.given a × (a.came < w.now)) (λ (a : Asked). a.came < w.now) w.asked (λ a h. h.1) moments.asked

move_stays : AllRest → (w v : World) (at : ℕ) (i : Input) → WasPosted w i → StaysTrue w → Moves w at i v → StaysTrue v
move_stays rest w v at i there (known, moments, told, based, caused) m =
    let next = move_keeps rest w v known.book at i known.good (all_came w moments) there m in (
      next,
      moments_move w v at i moments m,
      move_true w v known.book at i known.good (all_came w moments) there told m,
      move_based w v next.book at i based next.good m,
      move_caused w v known.book next.book at i known.good based caused next.good m,
    )

meets_stays : AllRest → MissesKeep → (w v : World) (at : ℕ) (i : Input) → WasPosted w i → StaysTrue w → Meets w at i v → StaysTrue v
meets_stays rest lacks w v at i there kept (inl m) = move_stays rest w v at i there kept m
meets_stays rest lacks w v at i there kept (inr m) = lacks w v at i there kept m

pub happens_keeps : AllRest → MissesKeep → (w v : World) (e : Event) → StaysTrue w → Happens w e v → StaysTrue v
happens_keeps rest lacks _ _ _ kept (comes w v at link number request is m) = meets_stays rest lacks w v at (client_input link number request) tt kept m
happens_keeps rest lacks _ _ _ kept (delivers w v at which letter got to m) =
    meets_stays rest lacks w v at (letter_input letter) (got_is_in w.sent which letter got) kept m
happens_keeps rest lacks _ _ _ kept (passes w v at moment m) = meets_stays rest lacks w v at (moment_input moment) tt kept m
happens_keeps rest lacks _ _ _ kept (was_opened w v at m) = meets_stays rest lacks w v at opened_input tt kept m

pub run_keeps : AllRest → MissesKeep → (w v : World) (es : List Event) → StaysTrue w → Run w es v → StaysTrue v
run_keeps rest lacks _ _ _ kept (stands w) = kept
run_keeps rest lacks _ _ _ kept (goes u v w e es h r) = run_keeps rest lacks v w es (happens_keeps rest lacks u v e kept h) r
