-- Steps keep the rule.
use Rattle.std.proofs.Common.{◌≡◌, ◌≢◌, inl, ℕ, zero, suc, ◌+◌, ◌%◌, ◌<◌, ◌≤◌, ◌^◌, List, [], ◌∷◌, ◌++◌, map, length, set}
use Rattle.std.proofs.Common.{refl, sym, ap, ◌∙◌, subst, arith, append-nil, length-append, length-set}
use Rattle.std.specs.Prelude.{⊤, Option, Some, slice_index}
use Rattle.std.specs.List.{slice_get, slice_set, AllByRecursion}
use Rattle.std.proofs.Math.Nat.{mod-eq_of_lt}
use Rattle.std.proofs.lemmas.Option.{same_Some, slice_get_within}
use mathlib.Core.Option.{some}
use lib.ListN.{get_elem?}
use Rattle.atomic_table.specs.Table.{State, Me, Step as TableStep, Allows, keeps}
use Rattle.node_model.specs.Letters.{Letter, Input}
use Rattle.node_model.specs.World.{World, IsRouter, Moves, Event, Happens, Run}
use Rattle.node_model.specs.World.{stands, goes, answered_by}
use Rattle.node_model.proofs.Schedules.{run_then}
use Rattle.node_traits.specs.Effects.{puts_of}
use Rattle.driver_steps.specs.declared.seat.Seat.{Seat}
use Rattle.driver_steps.specs.Crashes.{LeadsTo, Since}
use Rattle.driver_steps.proofs.Crashes.{leads_by, leads_nowhere, leads_on, leaves_on}
use Rattle.driver_steps.proofs.Seats.{held_len}
use Rattle.group_steps.specs.Groups.{MovesAll, moves_none, moves_on, Part as PartOf, TakesAll}
use Rattle.group_steps.specs.Parts.{parts_of}
use Rattle.group_steps.specs.declared.group.Part.{Part}
use Rattle.history_model.proofs.Lists.{all_weaken}
use Rattle.node_cell.specs.declared.view.Safe.{Safe}
use Rattle.node_cell.specs.declared.view.View.{View}
use Rattle.outside.specs.Logs.{LogFacts}
use Rattle.node_cell.specs.Courses.{NodeFacts, Course, Fits, Goes, Has, Holds, IsCalm, IsCalmAt, IsOnWay, IsStepOn, Saw, WasSent}
use Rattle.node_cell.specs.Courses.{places_at, view_by, with_marks}
use Rattle.node_cell.specs.Standing.{IsKnown, MayTake}
use Rattle.node_cell.specs.Views.{Given, Sights, after_steps, holder, mail_of, next_number, renewed, seen_anew, sight_of, taken_from, takes, told_from}
use Rattle.node_cell.specs.Views.{view_of}
use Rattle.node_cell.proofs.Lists.{all_at, all_map, all_set, each_set, get_set_other, get_set_same, holder_one}
use Rattle.node_cell.proofs.Lists.{sum_more, sum_small}
use Rattle.node_cell.proofs.Routers.{happens_stays, run_stays}
use Rattle.node_cell.proofs.Events.{event_of, holder_alone, sent_on, part_seen, saw_more, still_saw, now_saw}

-- ONE STEP

-- the same after more events
abbrev pub went : Course → List Event → World → Course
went c events w = record {
  events = events;
  world = w;
  owner = c.owner;
  counts = c.counts;
  keeper = c.keeper;
  sights = c.sights;
  marks = c.marks;
}

module _ {N L M I : Type 0} (f : NodeFacts N L M I) (since : Since L) (first : World) (c : Course) (e : Event) (v : World) (at : ℕ) (i : Input)
    (moves : Moves c.world at i v) (happens : Happens c.world e v) where
  -- what it saw
  saw_on : (u : View N L M I) → Saw f (places_at f.facts since) first.now c.events c.marks c.world u
      → Saw f (places_at f.facts since) first.now (c.events ++ e ∷ []) c.marks v u
  saw_on u saw =
      still_saw f (places_at f.facts since) first.now c.events c.marks e c.world v moves.f.mail (answered_by c.world.now moves.f.replies) (ap (λ (x : World). x.sent) moves.then)
      (ap (λ (x : World). x.answered) moves.then) u saw

  -- of another pass
  still_fits : (id j : ℕ) (u : View N L M I) → c.owner at ≡ id → j ≢ id → Fits f since first.now c j u
      → Fits f since first.now (went c (c.events ++ e ∷ []) v) j u
  still_fits id j u mine apart fit = record {
    held = λ k s got.
        let has = fit.held k s got in
        let other : k ≢ at = λ (same : k ≡ at). apart (sym has.mine ∙ (ap c.owner same ∙ mine)) in
        record {
          mine = has.mine;
          stands = record {
            held = has.stands.held;
            here = ap (λ (x : World). slice_get x.nodes k) moves.then
                ∙ (get_set_other c.world.nodes at k (record { state = moves.new; kept = moves.old.kept ++ moves.f.written; steps = moves.old.steps + 1 }) other ∙ has.stands.here);
            is = has.stands.is;
            leaves = leaves_on f.facts since s.log k c.world v has.stands.leaves (leads_by e c.world v happens);
          };
          calm = has.calm;
          count = has.count;
          sight = has.sight;
          durable = has.durable;
        };
    board = λ disks is. record { mine = (fit.board disks is).mine; shows = (fit.board disks is).shows };
    saw = saw_on u fit.saw;
  }

-- MANY STEPS

-- the events lead from the first world to the last, and there are so many of them
record IsUpTo (first : World) (many : ℕ) (events : List Event) (w : World) : Type 0 where
  run : Run first events w
  none_missed : w.missed ≡ first.missed
  now : w.now ≡ first.now + length events
  nodes : length w.nodes ≡ many

-- these steps of the node at a place were taken, which a pass with this number has: one event each
record Gone {N L M I : Type 0} (f : NodeFacts N L M I) (since : Since L) (first : World) (many at id : ℕ) (c : Course) (parts : List (Part M I)) (w : World) : Type 0 where
  events : List Event
  way : LeadsTo c.world w
  long : length events ≡ length c.events + length parts
  is : IsUpTo first many events w
  still : (u : View N L M I) → Saw f (places_at f.facts since) first.now c.events c.marks c.world u → Saw f (places_at f.facts since) first.now events c.marks w u
  others : (j : ℕ) (u : View N L M I) → j ≢ id → Fits f since first.now c j u → Fits f since first.now (went c events w) j u
  saw : Saw f (places_at f.facts since) first.now events c.marks w
      (view_of [] [] (mail_of parts) (told_from (length c.events) parts) (taken_from (length c.events) at parts) [])

module _ {N L M I : Type 0} (f : NodeFacts N L M I) (routers many : ℕ) (since : Since L) (first : World) (at id : ℕ) (start : Course)
    (mine : start.owner at ≡ id) (seen : List Letter) where
  abbrev course : List Event → World → Course
  course events w = went start events w

  none_gone : (events : List Event) (u : World) → IsUpTo first many events u → Gone f since first many at id (course events u) [] u
  none_gone events u is = record {
    events = events;
    way = leads_nowhere u;
    long = omega arith;
    is = is;
    still = λ x saw. saw;
    others = λ j x apart fit. fit;
    saw = record { seen = tt; told = tt; taken = tt; safe = tt };
  }

  -- after the first of them
  abbrev then_on : List Event → Event → World → Course
  then_on events e v = course (events ++ e ∷ []) v

  one_up : (events : List Event) (u v : World) (i : Input) (e : Event) → IsUpTo first many events u → Moves u at i v → Happens u e v
      → IsUpTo first many (events ++ e ∷ []) v
  one_up events u v i e is m happens =
      let long : length (events ++ e ∷ []) ≡ length events + 1 = length-append events (e ∷ []) in
      let tick : v.now ≡ u.now + 1 = ap (λ (x : World). x.now) m.then in
      record {
        run = run_then first events u (e ∷ []) v is.run (goes u v v e [] happens (stands v));
        none_missed = ap (λ (x : World). x.missed) m.then ∙ is.none_missed;
        now = omega (arith, tick, long, is.now);
        nodes = ap (λ (x : World). length x.nodes) m.then
            ∙ (length-set u.nodes at (record { state = m.new; kept = m.old.kept ++ m.f.written; steps = m.old.steps + 1 }) ∙ is.nodes);
      }

  more_gone : (events : List Event) (u v w : World) (p : Part M I) (parts : List (Part M I)) (m : Moves u at (f.meaning p.input.value) v) (e : Event)
      → Happens u e v → IsStepOn u e at (f.meaning p.input.value) → m.f.mail ≡ map f.letter p.outputs.mail → p.outputs.replies ≡ puts_of m.f.replies
      → IsUpTo first many events u → length events + 1 < 2 ^ 64 → Gone f since first many at id (then_on events e v) parts w
      → Gone f since first many at id (course events u) (p ∷ parts) w
  more_gone events u v w p parts m e happens on sent told is short rest =
      let long : length (events ++ e ∷ []) ≡ length events + 1 = length-append events (e ∷ []) in
      let next : length (events ++ e ∷ []) ≡ next_number (length events) = long ∙ sym (mod-eq_of_lt short) in
      let c = course events u in
      let now = now_saw f (places_at f.facts since) first.now events start.marks e u v m.f.mail (answered_by u.now m.f.replies) (ap (λ (x : World). x.sent) m.then)
      (ap (λ (x : World). x.answered) m.then) at p m.f.replies sent told refl is.now on in
      record {
        events = rest.events;
        way = leads_on u v w (leads_by e u v happens) rest.way;
        long = omega (arith, long, rest.long);
        is = rest.is;
        still = λ x saw. rest.still x (saw_on f since first c e v at (f.meaning p.input.value) m happens x saw);
        others = λ j x apart fit. rest.others j x apart (still_fits f since first c e v at (f.meaning p.input.value) m happens id j x mine apart fit);
        saw = saw_more f (places_at f.facts since) first.now rest.events start.marks w [] [] (part_seen (length events) at p)
            (view_of [] [] (mail_of parts) (told_from (next_number (length events)) parts) (taken_from (next_number (length events)) at parts) [])
            (rest.still (part_seen (length events) at p) now)
            (subst (λ (k : ℕ). Saw f (places_at f.facts since) first.now rest.events start.marks w
            (view_of [] [] (mail_of parts) (told_from k parts) (taken_from k at parts) [])) next rest.saw);
      }

  -- all that were given are known, and so each is an event
  all_gone : (parts : List (Part M I)) (events : List Event) (u w : World) → IsUpTo first many events u → length events + length parts < 2 ^ 64
      → (routers ≤ at → IsRouter u.nodes at)
      → AllByRecursion (λ m. WasSent u m) seen → AllByRecursion (λ (p : Part M I). IsKnown routers seen at (f.meaning p.input.value)) parts
      → MovesAll at u (parts_of f.letter f.meaning parts) w → Gone f since first many at id (course events u) parts w
  all_gone [] events u _ is short router sent known (moves_none _) = none_gone events u is
  all_gone (p ∷ parts) events u w is short router sent known (moves_on _ v _ _ _ m mail replies rest) =
      let k = event_of routers u at seen sent router (f.meaning p.input.value) known.0 in
      let happens : Happens u k.event v = k.is v (inl m) in
      let long : length (events ++ k.event ∷ []) ≡ length events + 1 = length-append events (k.event ∷ []) in
      more_gone events u v w p parts m k.event happens k.on mail replies is (omega (arith, short))
      (all_gone parts (events ++ k.event ∷ []) v w (one_up events u v (f.meaning p.input.value) k.event is m happens) (omega (arith, short, long))
      (λ far. happens_stays u v k.event at happens (router far))
      (all_weaken (λ x. WasSent u x) (λ x. WasSent v x) seen (λ x was. sent_on u v m.f.mail (ap (λ (y : World). y.sent) m.then) x was) sent) known.1 rest)

-- the same of steps by the definitions, of which only the run is said
pub moves_run : (routers at : ℕ) (u : World) (parts : List PartOf) (w : World) (seen : List Letter) → MovesAll at u parts w
    → AllByRecursion (λ m. WasSent u m) seen → (routers ≤ at → IsRouter u.nodes at)
    → AllByRecursion (λ (p : PartOf). IsKnown routers seen at p.input) parts → (events : List Event) × Run u events w
moves_run routers at _ _ _ seen (moves_none w) sent router known = ([], stands w)
moves_run routers at _ _ _ seen (moves_on u v w p parts m mail replies more) sent router known =
    let k = event_of routers u at seen sent router p.input known.0 in
    let happens : Happens u k.event v = k.is v (inl m) in
    let rest = moves_run routers at v parts w seen more
    (all_weaken (λ x. WasSent u x) (λ x. WasSent v x) seen (λ x was. sent_on u v m.f.mail (ap (λ (y : World). y.sent) m.then) x was) sent)
    (λ far. happens_stays u v k.event at happens (router far)) known.1 in
    (k.event ∷ rest.0, goes u v w k.event rest.0 happens rest.1)

still_calm : {L : Type 0} (facts : LogFacts L) (firsts : List L) (at : ℕ) (old new : L) → IsCalmAt facts firsts at old → IsCalm facts old new
    → IsCalmAt facts firsts at new
still_calm facts firsts at old new was is =
    record { first = was.first; here = was.here; calm = record { place = is.place ∙ was.calm.place; faults = is.faults ∙ was.calm.faults } }

-- the same with another count and another sight of the node at a place
abbrev pub counted_anew : Course → (at count : ℕ) → List ℕ × ℕ → Course
counted_anew c at count sight = record {
  events = c.events;
  world = c.world;
  owner = c.owner;
  counts = set c.counts at count;
  keeper = c.keeper;
  sights = set c.sights at sight;
  marks = c.marks;
}

-- another pass, while the count of a node that it has not changes, and the board, which it has not
recounted : {N L M I : Type 0} (f : NodeFacts N L M I) (since : Since L) (first : ℕ) (c : Course) (at id count : ℕ) (sight : List ℕ × ℕ) (j : ℕ)
    (u : View N L M I) → c.owner at ≡ id → c.keeper ≡ id → j ≢ id → Fits f since first c j u → Fits f since first (counted_anew c at count sight) j u
recounted f since first c at id count sight j u mine keeps_it apart fit = record {
  held = λ k s got.
      let has = fit.held k s got in
      let other : k ≢ at = λ (same : k ≡ at). apart (sym has.mine ∙ (ap c.owner same ∙ mine)) in
      record {
        mine = has.mine;
        stands = has.stands;
        calm = has.calm;
        count = get_set_other c.counts at k count other ∙ has.count;
        sight = get_set_other c.sights at k sight other ∙ has.sight;
        durable = has.durable;
      };
  board = λ disks is. absurd (apart (sym (fit.board disks is).mine ∙ keeps_it));
  saw = fit.saw;
}

-- what a board shows
pub first_of : (d e : Sights) → d ∷ [] ≡ e ∷ [] → d ≡ e
first_of d e is = cc is

-- a disk that is seen anew is where it was
same_places : (sights : Sights) (at : ℕ) (old new : List ℕ × ℕ) → slice_get sights at ≡ Some old → new.0 ≡ old.0
    → map (λ d. d.0) (set sights at new) ≡ map (λ d. d.0) sights
same_places [] at old new here same = refl
same_places (d ∷ sights) zero old new here same =
    ap (λ (p : List ℕ). p ∷ map (λ (x : List ℕ × ℕ). x.0) sights) (same ∙ ap (λ (x : List ℕ × ℕ). x.0) (sym (same_Some d old here)))
same_places (d ∷ sights) (suc at) old new here same =
    ap (λ (l : List (List ℕ)). d.0 ∷ l) (same_places sights at old new here same)

module _ {N L M I : Type 0} (f : NodeFacts N L M I) (routers nodes : ℕ) (since : Since L) (first : World)
    (there : (at : ℕ) → routers ≤ at → at < nodes → IsRouter first.nodes at) where
  pub goes_on : (s : State ⊤ (View N L M I)) (id : ℕ) (v : View N L M I) (g : Given N L M I) (disks : Sights) → v.board ≡ disks ∷ [] → MayTake f routers v g
      → Goes f since first nodes s → get_elem? s.views id ≡ some v
      → Goes f since first nodes
      (record { words = slice_set s.words 0 ((slice_index s.words 0 + length g.parts) % 2 ^ 64); homes = s.homes; views = slice_set s.views id (after_steps g (slice_index s.words 0) v) })
  goes_on s id v g disks on_board may h here =
      let c = h.course in
      let marked = with_marks since c.marks in
      let mine = h.fits id v here in
      let board = mine.board disks on_board in
      let has : Has f marked c id g.at may.old = mine.held g.at may.old (holder_alone g.at may.old v.held may.held) in
      let step : TakesAll (view_by f marked g.new) c.world g.at (parts_of f.letter f.meaning g.parts) = may.steps marked c.world has.stands in
      let inside : g.at < length c.world.nodes = slice_get_within c.world.nodes g.at has.stands.held has.stands.here in
      let w = step.end in
      let count = f.steps g.new.node in
      let found : slice_index s.words 0 ≡ length c.events = ap (λ (ws : List ℕ). slice_index ws 0) h.is.word in
      let below = may.below (all_at (λ n. n < 2 ^ 56) c.counts g.at (f.steps may.old.node) has.count h.is.small) in
      let all_small = all_set (λ n. n < 2 ^ 56) c.counts g.at count below h.is.small in
      let small = sum_small (set c.counts g.at count) all_small in
      let same_long = length-set c.counts g.at count in
      let some_more = sum_more c.counts g.at (f.steps may.old.node) count (length g.parts) has.count may.more in
      let short : length c.events + length g.parts < 2 ^ 64 = omega (arith, h.is.counted, h.is.few, small, some_more, same_long) in
      let gone = all_gone f routers nodes marked first g.at id c has.mine (map f.letter v.seen) g.parts c.events c.world step.end
      (record { run = h.is.run; none_missed = h.is.none_missed; now = h.is.now; nodes = h.is.nodes }) short
      (λ far. run_stays first c.events c.world g.at h.is.run (there g.at far (omega (arith, inside, h.is.nodes))))
      (all_map f.letter (λ m. WasSent c.world m) v.seen mine.saw.seen) may.known step.moves in
      let course : Course = counted_anew (went c gone.events w) g.at count g.sight in
      let number : (slice_index s.words 0 + length g.parts) % 2 ^ 64 ≡ length gone.events =
      ap (λ (k : ℕ). (k + length g.parts) % 2 ^ 64) found ∙ (mod-eq_of_lt short ∙ sym gone.long) in
      record {
        course = course;
        is = record {
          run = gone.is.run;
          none_missed = gone.is.none_missed;
          now = gone.is.now;
          word = ap (λ (ws : List ℕ). set ws 0 ((slice_index s.words 0 + length g.parts) % 2 ^ 64)) h.is.word ∙ ap (λ (k : ℕ). k ∷ []) number;
          nodes = gone.is.nodes;
          few = omega (arith, h.is.few, same_long);
          small = all_small;
          counted = omega (arith, h.is.counted, some_more, gone.long);
          places_are = same_places c.sights g.at (sight_of f.facts may.old.log) g.sight has.sight (ap (λ (d : List ℕ × ℕ). d.0) may.sight ∙ may.calm.place)
              ∙ h.is.places_are;
          marked = all_weaken (λ n. IsOnWay first c.world n) (λ n. IsOnWay first w n) c.marks
              (λ n on. record { before = on.before; behind = leads_on n.world c.world w on.behind gone.way }) h.is.marked;
        };
        fits = each_set (Fits f marked first.now course) s.views id (after_steps g (slice_index s.words 0) v)
            (λ j u apart got. recounted f marked first.now (went c gone.events w) g.at id count g.sight j u has.mine board.mine apart
            (gone.others j u apart (h.fits j u got)))
            (subst (λ (k : ℕ). Fits f marked first.now course id (after_steps g k v)) (sym found)
            (record {
              held = λ k t got.
                  let one = holder_one g.at k g.new t (sym (ap (λ (l : List (ℕ × Seat N L)). holder k (renewed l g.new)) may.held) ∙ got) in
                  subst (λ (x : ℕ × Seat N L). Has f marked course id x.0 x.1) (λ i. (one.0 i, one.1 i))
                  (record {
                    mine = has.mine;
                    stands = record { held = step.held; here = step.here; is = step.is; leaves = step.crashes gone.way };
                    calm = still_calm f.facts since.logs g.at may.old.log g.new.log has.calm may.calm;
                    count = get_set_same c.counts g.at count (f.steps may.old.node) has.count;
                    sight = get_set_same c.sights g.at g.sight (sight_of f.facts may.old.log) has.sight ∙ ap (λ (d : List ℕ × ℕ). Some d) may.sight;
                    durable = may.durable;
                  });
              board = λ shows is. record {
                mine = board.mine;
                shows = ap (λ (l : Sights). set l g.at g.sight) board.shows
                    ∙ first_of (set disks g.at g.sight) shows (sym (ap (λ (l : List Sights). seen_anew g.at g.sight l) on_board) ∙ is);
              };
              saw = subst (λ (l : List Safe). Saw f (places_at f.facts since) first.now gone.events c.marks w
                  (view_of (renewed v.held g.new) (seen_anew g.at g.sight v.board) (v.seen ++ mail_of g.parts) (v.told ++ told_from (length c.events) g.parts)
                  (v.taken ++ taken_from (length c.events) g.at g.parts) l)) (append-nil v.safe)
                  (saw_more f (places_at f.facts since) first.now gone.events c.marks w (renewed v.held g.new) (seen_anew g.at g.sight v.board) v
                  (view_of [] [] (mail_of g.parts) (told_from (length c.events) g.parts) (taken_from (length c.events) g.at g.parts) []) (gone.still v mine.saw)
                  gone.saw);
            }));
      }

module _ {N L M I : Type 0} (f : NodeFacts N L M I) (routers : ℕ) (start : List (Seat N L)) where
  -- steps that are given keep the rule, with the number that word 0 is found to be, and those after it
  pub may_take : (slots id : ℕ) (me : Me ⊤ (View N L M I)) (told_step : Option (Given N L M I)) (g : Given N L M I) (many : ℕ) (shown : TableStep ⊤)
      (disks : Sights) → told_step ≡ Some g → many ≡ length g.parts → me.0.board ≡ disks ∷ [] → MayTake f routers me.0 g
      → Allows {S = ⊤} (Holds f routers start) slots id me 0 (λ k. (k + many) % 2 ^ 64) (takes told_step shown me)
  may_take slots id me told_step g many shown disks is long on_board may s holds sized here fits64 = (
    after_steps g (slice_index s.words 0) me.0,
    keeps,
    tt,
    λ since first opened.
        subst (λ (n : ℕ). Goes f since first (length start) (record {
          words = slice_set s.words 0 ((slice_index s.words 0 + n) % 2 ^ 64);
          homes = s.homes;
          views = slice_set s.views id (after_steps g (slice_index s.words 0) me.0);
        })) (sym long)
        (goes_on f routers (length start) since first
        (λ at far inside. opened.are_routers at far (omega (arith, inside, held_len (view_by f since) start first.nodes opened.nodes)))
        s id me.0 g disks on_board may (holds since first opened) here),
    subst (λ (o : Option (Given N L M I)). takes o shown me (slice_index s.words 0) (after_steps g (slice_index s.words 0) me.0, me.1)) (sym is) refl,
  )
