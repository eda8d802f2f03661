-- The board is shown: the present world is marked, since all logs are durable and the board shows their disks as they are.
use Rattle.std.proofs.Common.{◌≡◌, ℕ, zero, suc, List, [], ◌∷◌, ◌++◌, map, length, set, IsTrue, refl, sym, ap, ◌∙◌, subst, arith}
use Rattle.std.specs.Prelude.{⊤, Some}
use Rattle.std.specs.List.{slice_get, AllByRecursion}
use Rattle.std.proofs.lemmas.Option.{none-some, same_Some}
use mathlib.Core.Option.{some}
use lib.ListN.{get_elem?}
use Rattle.atomic_table.specs.Table.{State, Splits}
use Rattle.node_model.specs.Journal.{Kept}
use Rattle.node_model.specs.World.{World, Event, Run, stands, goes}
use Rattle.node_model.proofs.Journals.{journal_got}
use Rattle.node_traits.specs.Effects.{spellings}
use Rattle.node_traits.specs.declared.outputs.ToLink.{ToLink}
use Rattle.driver_steps.specs.declared.seat.Seat.{Seat}
use Rattle.driver_steps.specs.Crashes.{LeadsTo, LeavesNoLess, LeavesSinceNotes, Noted, Since, leaves_kept}
use Rattle.driver_steps.proofs.Crashes.{leads_by, leads_nowhere, leads_on}
use Rattle.history_model.proofs.Lists.{all_append, all_weaken}
use Rattle.node_cell.specs.declared.view.Safe.{Safe}
use Rattle.node_cell.specs.declared.view.View.{View}
use Rattle.node_cell.specs.Courses.{NodeFacts, Course, Fits, Goes, Has, Holds, IsCourse, Saw, WasSafe, WasTold, places_at, with_marks}
use Rattle.node_cell.specs.Views.{Sights, safe_by, safe_from, shown, sight_of, view_of}
use Rattle.node_cell.proofs.Lists.{all_map, each_more}
use Rattle.node_cell.proofs.Passes.{again, none_held}

-- events lead to their last world
run_leads : (u w : World) (events : List Event) → Run u events w → LeadsTo u w
run_leads u _ [] (stands _) = leads_nowhere u
run_leads u w (e ∷ events) (goes _ v _ _ _ happens rest) = leads_on u v w (leads_by e u v happens) (run_leads v w events rest)

-- the moment that is shown at a place
moment_shown : (sights : Sights) (at : ℕ) (d : List ℕ × ℕ) (m : ℕ) → slice_get sights at ≡ Some d → slice_get (map (λ x. x.1) sights) at ≡ Some m → d.1 ≡ m
moment_shown [] at d m here of = absurd (none-some d here)
moment_shown (x ∷ sights) zero d m here of =
    ap (λ (y : List ℕ × ℕ). y.1) (sym (same_Some x d here)) ∙ same_Some x.1 m of
moment_shown (x ∷ sights) (suc at) d m here of = moment_shown sights at d m here of

module _ {N L M I : Type 0} (f : NodeFacts N L M I) (since : Since L) (first : World) (c : Course) where
  -- the present world, with the disks as they are shown
  abbrev mark : Noted
  mark = record { world = c.world; moments = map (λ d. d.1) c.sights; length = 0 }

  abbrev marked : Course
  marked = record {
    events = c.events;
    world = c.world;
    owner = c.owner;
    counts = c.counts;
    keeper = c.keeper;
    sights = c.sights;
    marks = mark ∷ c.marks;
  }

  abbrev before : Since L
  before = with_marks since c.marks

  abbrev after : Since L
  after = with_marks since (mark ∷ c.marks)

  -- a durable log whose disk is as it is shown
  no_less : (id k : ℕ) (s : Seat N L) → Has f before c id k s → IsTrue f.facts.tells → LeavesNoLess f.facts c.world (f.facts.moment s.log) s.log k c.world
  no_less id k s has tells = record {
    came = leads_nowhere c.world;
    later = omega arith;
    left = λ t file from to left. record {
      world = c.world;
      before = leads_nowhere c.world;
      behind = leads_nowhere c.world;
      has = subst (λ (l : List Kept). f.facts.finds file (spellings l)) (sym (journal_got c.world.nodes k has.stands.held has.stands.here))
          (subst (λ (l : List (List ℕ)). f.facts.finds file l) (has.stands.is.written tells)
          (has.durable tells file (let now : t ≡ f.facts.moment s.log = omega (arith, from, to) in subst (λ n. f.facts.left_at s.log n file) now left)));
    };
  }

  still_leaves : (id k : ℕ) (s : Seat N L) → Has f before c id k s → leaves_kept f.facts after s.log k c.world
  still_leaves id k s has tells = ((has.stands.leaves tells).0, noted_by)
    where
      noted_by : LeavesSinceNotes f.facts after.noted s.log k c.world
      noted_by zero n m had of =
          let same : mark ≡ n = same_Some mark n had in
          let shows : f.facts.moment s.log ≡ m =
          moment_shown c.sights k (sight_of f.facts s.log) m has.sight (subst (λ (x : Noted). slice_get x.moments k ≡ Some m) (sym same) of) in
          subst (λ (x : Noted). LeavesNoLess f.facts x.world m s.log k c.world) same
          (subst (λ (t : ℕ). LeavesNoLess f.facts c.world t s.log k c.world) shows (no_less id k s has tells))
      noted_by (suc j) n m had of = (has.stands.leaves tells).1 j n m had of

  -- what a pass has stays so
  still_has : (id k : ℕ) (s : Seat N L) → Has f before c id k s → Has f after marked id k s
  still_has id k s has = record {
    mine = has.mine;
    stands = record {
      held = has.stands.held;
      here = has.stands.here;
      is = record {
        same = has.stands.is.same;
        counted = has.stands.is.counted;
        written = has.stands.is.written;
        keeps = record { readable = has.stands.is.keeps.readable; found = has.stands.is.keeps.found };
      };
      leaves = still_leaves id k s has;
    };
    calm = has.calm;
    count = has.count;
    sight = has.sight;
    durable = has.durable;
  }

  still_safe : (s : Safe) → WasSafe (places_at f.facts since) first.now c.marks s → WasSafe (places_at f.facts since) first.now (mark ∷ c.marks) s
  still_safe s was = record {
    which = suc was.which;
    mark = was.mark;
    here = was.here;
    told = was.told;
    moments = was.moments;
    places_are = was.places_are;
  }

  abbrev SawBefore : View N L M I → Type 0
  SawBefore v = Saw f (places_at f.facts since) first.now c.events c.marks c.world v

  abbrev SawAfter : View N L M I → Type 0
  SawAfter v = Saw f (places_at f.facts since) first.now c.events (mark ∷ c.marks) c.world v

  still_saw : (v : View N L M I) → SawBefore v → SawAfter v
  still_saw v saw = record {
    seen = saw.seen;
    told = saw.told;
    taken = saw.taken;
    safe = all_weaken (λ s. WasSafe (places_at f.facts since) first.now c.marks s) (λ s. WasSafe (places_at f.facts since) first.now (mark ∷ c.marks) s)
        v.safe still_safe saw.safe;
  }

  still_fits : (id : ℕ) (v : View N L M I) → Fits f before first.now c id v → Fits f after first.now marked id v
  still_fits id v fit = record {
    held = λ k s got. still_has id k s (fit.held k s got);
    board = λ disks is. record { mine = (fit.board disks is).mine; shows = (fit.board disks is).shows };
    saw = still_saw v fit.saw;
  }

  still_course : (many : ℕ) (words : List ℕ) → IsCourse (places_at f.facts since) first many words c → IsCourse (places_at f.facts since) first many words marked
  still_course many words is = record {
    run = is.run;
    none_missed = is.none_missed;
    now = is.now;
    word = is.word;
    nodes = is.nodes;
    few = is.few;
    small = is.small;
    counted = is.counted;
    places_are = is.places_are;
    marked = (record { before = run_leads first c.world c.events is.run; behind = leads_nowhere c.world }, is.marked);
  }

  -- the replies that were seen are safe from now on
  now_safe : (disks : Sights) → c.sights ≡ disks → map (λ d. d.0) c.sights ≡ places_at f.facts since → (r : ℕ × ToLink) → WasTold first.now c.world r
      → WasSafe (places_at f.facts since) first.now (mark ∷ c.marks) (safe_from disks r)
  now_safe disks shows places r told = record {
    which = 0;
    mark = mark;
    here = refl;
    told = told;
    moments = ap (λ (l : Sights). map (λ d. d.1) l) (sym shows);
    places_are = ap (λ (l : Sights). map (λ d. d.0) l) (sym shows) ∙ places;
  }

module _ {N L M I : Type 0} (f : NodeFacts N L M I) (routers : ℕ) (start : List (Seat N L)) where
  abbrev note_by : View N L M I → List Sights → View N L M I
  note_by v board = view_of [] [] v.seen v.told v.taken (v.safe ++ safe_by board v.told)

  -- nothing is marked
  unmarked : (id : ℕ) (v : View N L M I) (board : List Sights) (s : State ⊤ (View N L M I)) (since : Since L) (first : World) → safe_by board v.told ≡ []
      → (h : Goes f since first (length start) s) → get_elem? s.views id ≡ some v
      → Goes f since first (length start) (record { words = s.words; homes = s.homes; views = set s.views id v ++ note_by v board ∷ [] })
  unmarked id v board s since first none h here =
      let marked = with_marks since h.course.marks in
      let saw = (h.fits id v here).saw in
      record {
        course = h.course;
        is = h.is;
        fits = each_more (Fits f marked first.now h.course) (set s.views id v) (note_by v board)
            (again f routers start marked first.now h.course s.views id v h.fits here)
            (none_held f marked first.now h.course (length (set s.views id v)) v.seen v.told v.taken (v.safe ++ safe_by board v.told) (record {
              seen = saw.seen;
              told = saw.told;
              taken = saw.taken;
              safe = all_append (λ x. WasSafe (places_at f.facts since) first.now h.course.marks x) v.safe (safe_by board v.told) saw.safe
                  (subst (λ (l : List Safe). AllByRecursion (λ x. WasSafe (places_at f.facts since) first.now h.course.marks x) l) (sym none) tt);
            }));
      }

  -- a note that the replies that a pass has seen are safe, where it has the board
  pub shows : (id : ℕ) (v : View N L M I) → Splits {S = ⊤} (Holds f routers start) id v v (shown v)
  shows id v s holds here since first opened = by_board v.board refl
    where
      by_board : (board : List Sights) → v.board ≡ board
          → Goes f since first (length start) (record { words = s.words; homes = s.homes; views = set s.views id v ++ note_by v board ∷ [] })
      by_board [] is = unmarked id v [] s since first refl (holds since first opened) here
      by_board (d ∷ e ∷ more) is = unmarked id v (d ∷ e ∷ more) s since first refl (holds since first opened) here
      by_board (disks ∷ []) is =
          let h = holds since first opened in
          let c = h.course in
          let next = marked f since first c in
          let later = with_marks since (mark f since first c ∷ c.marks) in
          let mine = h.fits id v here in
          let board = mine.board disks is in
          let fits : (j : ℕ) (u : View N L M I) → get_elem? s.views j ≡ some u → Fits f later first.now next j u =
          λ j u got. still_fits f since first c j u (h.fits j u got) in
          let saw = still_saw f since first c v mine.saw in
          record {
            course = next;
            is = still_course f since first c (length start) s.words h.is;
            fits = each_more (Fits f later first.now next) (set s.views id v) (note_by v (disks ∷ []))
                (again f routers start later first.now next s.views id v fits here)
                (none_held f later first.now next (length (set s.views id v)) v.seen v.told v.taken (v.safe ++ safe_by (disks ∷ []) v.told) (record {
                  seen = saw.seen;
                  told = saw.told;
                  taken = saw.taken;
                  safe = all_append (λ x. WasSafe (places_at f.facts since) first.now next.marks x) v.safe (map (λ r. safe_from disks r) v.told) saw.safe
                      (all_map (λ r. safe_from disks r) (λ x. WasSafe (places_at f.facts since) first.now next.marks x) v.told
                      (all_weaken (λ r. WasTold first.now c.world r) (λ r. WasSafe (places_at f.facts since) first.now next.marks (safe_from disks r)) v.told
                      (λ r told. now_safe f since first c disks board.shows h.is.places_are r told) mine.saw.told));
                }));
          }
