-- Passes are made, split, joined and closed.
use Rattle.std.proofs.Common.{◌≡◌, ◌≢◌, ◌⊎◌, inl, inr, ℕ, zero, suc, ◌<◌, ◌≤◌, ◌^◌, ◌==◌, List, [], ◌∷◌, ◌++◌, map, length, set, Bool}
use Rattle.std.proofs.Common.{true, false, refl, sym, ap, ◌∙◌, subst, ⊎_elim, arith, length-set}
use Rattle.std.specs.Prelude.{⊤, Some, if◌then◌else◌}
use Rattle.std.specs.List.{slice_get, AllByRecursion}
use Rattle.std.proofs.lemmas.Bool.Decides.{nat_tests}
use Rattle.std.proofs.lemmas.List.{length-map}
use Rattle.std.proofs.lemmas.Option.{none-some, same_Some}
use mathlib.Core.Option.{some, some-injective, some-ne-none}
use lib.ListN.{get_elem?}
use Rattle.atomic_table.specs.Table.{State, Splits, Joins, opening}
use Rattle.atomic_table.proofs.Lists.{at_set, set_again}
use Rattle.node_model.specs.World.{World, stands}
use Rattle.driver_steps.specs.declared.seat.Seat.{Seat}
use Rattle.driver_steps.specs.Crashes.{Since}
use Rattle.driver_steps.specs.Seats.{AreDurable}
use Rattle.driver_steps.proofs.Seats.{held_len}
use Rattle.driver_steps.proofs.Stepping.{stands_at}
use Rattle.node_traits.specs.declared.outputs.ToLink.{ToLink}
use Rattle.history_model.proofs.Lists.{all_append}
use Rattle.node_cell.specs.declared.view.Safe.{Safe}
use Rattle.node_cell.specs.declared.view.Taken.{Taken}
use Rattle.node_cell.specs.declared.view.View.{View}
use Rattle.node_cell.specs.Courses.{NodeFacts, Course, Fits, Goes, Has, Holds, IsCourse, OpenedAs, Saw, WasSafe, WasSent, WasTaken, WasTold}
use Rattle.node_cell.specs.Courses.{places_at, view_by, with_marks}
use Rattle.node_cell.specs.Views.{Sights, all_at_start, board_held, board_off, both_views, first_alone, first_off, holder, nodes_held, noted, nothing_seen}
use Rattle.node_cell.specs.Views.{sight_of, sights_of, view_of, without}
use Rattle.node_cell.proofs.Lists.{each_more, each_set, holder_both, holder_numbered, holder_one, holder_without}
use Rattle.node_cell.proofs.Steps.{first_of}

slice_get_map : {A B : Type 0} (g : A → B) (xs : List A) (k : ℕ) (x : A) → slice_get xs k ≡ Some x → slice_get (map g xs) k ≡ Some (g x)
slice_get_map g [] k x e = absurd (none-some x e)
slice_get_map g (y ∷ ys) zero x e = ap (λ z. Some (g z)) (same_Some y x e)
slice_get_map g (y ∷ ys) (suc k) x e = slice_get_map g ys k x e

no_board : (disks : Sights) → [] ≡ disks ∷ [] → ⊥
no_board disks is = cc is

-- of two boards one is there
one_board : (boards more : List Sights) (disks : Sights) → boards ++ more ≡ disks ∷ [] → (boards ≡ disks ∷ []) ⊎ (more ≡ disks ∷ [])
one_board [] more disks is = inr is
one_board (d ∷ []) [] disks is = inl is
one_board (d ∷ []) (e ∷ more) disks is = absurd (cc is)
one_board (d ∷ e ∷ boards) more disks is = absurd (cc is)

-- the same where nodes and the board have other passes
abbrev with_owners : Course → (ℕ → ℕ) → (keeper : ℕ) → Course
with_owners c owner keeper = record {
  events = c.events;
  world = c.world;
  owner = owner;
  counts = c.counts;
  keeper = keeper;
  sights = c.sights;
  marks = c.marks;
}

same_course : (places : List (List ℕ)) (first : World) (many : ℕ) (words : List ℕ) (c : Course) (owner : ℕ → ℕ) (keeper : ℕ)
    → IsCourse places first many words c → IsCourse places first many words (with_owners c owner keeper)
same_course places first many words c owner keeper is = record {
  run = is.run;
  none_missed = is.none_missed;
  now = is.now;
  word = is.word;
  nodes = is.nodes;
  few = is.few;
  small = is.small;
  counted = is.counted;
  places_are = is.places_are;
  marked = is.marked;
}

module _ {N L M I : Type 0} (f : NodeFacts N L M I) (since : Since L) (first : ℕ) where
  -- what was seen is so
  abbrev SawAll : Course → View N L M I → Type 0
  SawAll c v = Saw f (places_at f.facts since) first c.events c.marks c.world v

  -- a node that another pass has now
  has_now : (c : Course) (owner : ℕ → ℕ) (keeper id other k : ℕ) (s : Seat N L) → Has f since c id k s → owner k ≡ other
      → Has f since (with_owners c owner keeper) other k s
  has_now c owner keeper id other k s has mine = record {
    mine = mine;
    stands = has.stands;
    calm = has.calm;
    count = has.count;
    sight = has.sight;
    durable = has.durable;
  }

  abbrev with_owner : Course → (ℕ → ℕ) → Course
  with_owner c owner = with_owners c owner c.keeper

  -- another pass, while others change hands
  reseated : (c : Course) (owner : ℕ → ℕ) (id : ℕ) (u : View N L M I)
      → ((k : ℕ) (s : Seat N L) → holder k u.held ≡ Some s → c.owner k ≡ id → owner k ≡ id) → Fits f since first c id u → Fits f since first (with_owner c owner) id u
  reseated c owner id u keep fit = record {
    held = λ k s e. has_now c owner c.keeper id id k s (fit.held k s e) (keep k s e (fit.held k s e).mine);
    board = λ disks is. record { mine = (fit.board disks is).mine; shows = (fit.board disks is).shows };
    saw = fit.saw;
  }

  -- one without nodes
  pub none_held : (c : Course) (id : ℕ) (seen : List M) (told : List (ℕ × ToLink)) (taken : List (Taken I)) (safe : List Safe)
      → SawAll c (view_of [] [] seen told taken safe) → Fits f since first c id (view_of [] [] seen told taken safe)
  none_held c id seen told taken safe saw = record { held = λ k s e. absurd (none-some s e); board = λ disks is. absurd (no_board disks is); saw = saw }

  pub saw_nothing : (c : Course) → SawAll c nothing_seen
  saw_nothing c = record { seen = tt; told = tt; taken = tt; safe = tt }

  pub saw_both : (c : Course) (v w : View N L M I) → SawAll c v → SawAll c w → SawAll c (both_views v w)
  saw_both c v w a b = record {
    seen = all_append (λ m. WasSent c.world (f.letter m)) v.seen w.seen a.seen b.seen;
    told = all_append (λ r. WasTold first c.world r) v.told w.told a.told b.told;
    taken = all_append (λ t. WasTaken f.meaning c.events c.world t) v.taken w.taken a.taken b.taken;
    safe = all_append (λ s. WasSafe (places_at f.facts since) first c.marks s) v.safe w.safe a.safe b.safe;
  }

module _ {N L M I : Type 0} (f : NodeFacts N L M I) (routers : ℕ) (start : List (Seat N L)) where
  -- the same views but one, which is what it was
  pub again : (since : Since L) (first : ℕ) (c : Course) (views : List (View N L M I)) (id : ℕ) (v : View N L M I)
      → ((j : ℕ) (u : View N L M I) → get_elem? views j ≡ some u → Fits f since first c j u) → get_elem? views id ≡ some v
      → (j : ℕ) (u : View N L M I) → get_elem? (set views id v) j ≡ some u → Fits f since first c j u
  again since first c views id v fits here j u was =
      fits j u (subst (λ (l : List (View N L M I)). get_elem? l j ≡ some u) (set_again views id v here) was)

  -- a note is split off
  pub notes : (id : ℕ) (v : View N L M I) → Splits {S = ⊤} (Holds f routers start) id v v (noted v)
  notes id v s holds here since first opened =
      let h = holds since first opened in
      let marked = with_marks since h.course.marks in
      let saw = (h.fits id v here).saw in
      record {
        course = h.course;
        is = h.is;
        fits = each_more (Fits f marked first.now h.course) (set s.views id v) (noted v) (again marked first.now h.course s.views id v h.fits here)
            (none_held f marked first.now h.course (length (set s.views id v)) v.seen v.told v.taken v.safe
            (record { seen = saw.seen; told = saw.told; taken = saw.taken; safe = saw.safe }));
      }

  module _ (id : ℕ) (k0 : ℕ) (s0 : Seat N L) (rest : List (ℕ × Seat N L)) (board : List Sights) (seen : List M) (told : List (ℕ × ToLink))
      (taken : List (Taken I)) (safe : List Safe) (s : State ⊤ (View N L M I)) (since : Since L) (first : World) (h : Goes f since first (length start) s)
      (here : get_elem? s.views id ≡ some (view_of ((k0, s0) ∷ rest) board seen told taken safe)) where
    abbrev marked : Since L
    marked = with_marks since h.course.marks

    abbrev left : View N L M I
    left = view_of (without k0 rest) board seen told taken safe

    abbrev right : View N L M I
    right = nodes_held ((k0, s0) ∷ [])

    abbrev owners : ℕ → ℕ
    owners k = if k == k0 then length s.views else h.course.owner k

    abbrev next : Course
    next = with_owner f marked first.now h.course owners

    mine : Fits f marked first.now h.course id (view_of ((k0, s0) ∷ rest) board seen told taken safe)
    mine = h.fits id (view_of ((k0, s0) ∷ rest) board seen told taken safe) here

    first_has : Has f marked h.course id k0 s0
    first_has = mine.held k0 s0 (grind (arith, nat_tests))

    owners_other : (k : ℕ) → k ≢ k0 → owners k ≡ h.course.owner k
    owners_other k apart =
        let no : (k == k0) ≡ false = grind (arith, nat_tests, apart) in ap (λ (c : Bool). if c then length s.views else h.course.owner k) no

    owners_first : owners k0 ≡ length s.views
    owners_first = let yes : (k0 == k0) ≡ true = grind (arith, nat_tests) in ap (λ (c : Bool). if c then length s.views else h.course.owner k0) yes

    others : (j : ℕ) (u : View N L M I) → j ≢ id → get_elem? s.views j ≡ some u → Fits f marked first.now next j u
    others j u apart e = reseated f marked first.now h.course owners j u
        (λ k n _ was. owners_other k (λ (same : k ≡ k0). apart (sym was ∙ (ap h.course.owner same ∙ first_has.mine))) ∙ was) (h.fits j u e)

    left_fits : Fits f marked first.now next id left
    left_fits = record {
      held = λ k n e.
          let out = holder_without k0 k n rest e in
          let no : (k0 == k) ≡ false = grind (arith, nat_tests, out.0) in
          let has = mine.held k n (ap (λ (c : Bool). if c then Some s0 else holder k rest) no ∙ out.1) in
          has_now f marked first.now h.course owners h.course.keeper id id k n has (owners_other k out.0 ∙ has.mine);
      board = λ disks is. record { mine = (mine.board disks is).mine; shows = (mine.board disks is).shows };
      saw = record { seen = mine.saw.seen; told = mine.saw.told; taken = mine.saw.taken; safe = mine.saw.safe };
    }

    right_fits : Fits f marked first.now next (length s.views) right
    right_fits = record {
      held = λ k n e.
          let one = holder_one k0 k s0 n e in
          subst (λ (x : ℕ × Seat N L). Has f marked next (length s.views) x.0 x.1) (λ i. (one.0 i, one.1 i))
          (has_now f marked first.now h.course owners h.course.keeper id (length s.views) k0 s0 first_has owners_first);
      board = λ disks is. absurd (no_board disks is);
      saw = record { seen = tt; told = tt; taken = tt; safe = tt };
    }

    first_splits : Goes f since first (length start) (record { words = s.words; homes = s.homes; views = set s.views id left ++ right ∷ [] })
    first_splits = record {
      course = next;
      is = same_course (places_at f.facts since) first (length start) s.words h.course owners h.course.keeper h.is;
      fits = each_more (Fits f marked first.now next) (set s.views id left) right (each_set (Fits f marked first.now next) s.views id left others left_fits)
          (subst (λ (j : ℕ). Fits f marked first.now next j right) (sym (length-set s.views id left)) right_fits);
    }

  -- the first node gets a pass of its own
  pub firsts : (id : ℕ) (v : View N L M I)
      → Splits {S = ⊤} (Holds f routers start) id v (view_of (first_off v.held) v.board v.seen v.told v.taken v.safe) (nodes_held (first_alone v.held))
  firsts id v s holds here since first opened = by_held v.held refl
    where
      by_held : (held : List (ℕ × Seat N L)) → v.held ≡ held
          → Goes f since first (length start)
          (record {
            words = s.words;
            homes = s.homes;
            views = set s.views id (view_of (first_off held) v.board v.seen v.told v.taken v.safe) ++ nodes_held (first_alone held) ∷ [];
          })
      by_held (x ∷ rest) is =
          first_splits id x.0 x.1 rest v.board v.seen v.told v.taken v.safe s since first (holds since first opened)
          (here ∙ ap (λ (l : List (ℕ × Seat N L)). some (view_of l v.board v.seen v.told v.taken v.safe)) is)
      by_held [] is =
          let h = holds since first opened in
          let marked = with_marks since h.course.marks in
          let v' : View N L M I = view_of [] v.board v.seen v.told v.taken v.safe in
          let here' : get_elem? s.views id ≡ some v' = here ∙ ap (λ (l : List (ℕ × Seat N L)). some (view_of l v.board v.seen v.told v.taken v.safe)) is in
          record {
            course = h.course;
            is = h.is;
            fits = each_more (Fits f marked first.now h.course) (set s.views id v') nothing_seen (again marked first.now h.course s.views id v' h.fits here')
                (none_held f marked first.now h.course (length (set s.views id v')) [] [] [] [] (record { seen = tt; told = tt; taken = tt; safe = tt }));
          }

  -- a pass takes in what another has and knows
  pub joins : (id : ℕ) (v : View N L M I) (other : ℕ) (w : View N L M I) → Joins {S = ⊤} (Holds f routers start) id v other w (both_views v w) nothing_seen
  joins id v other w s holds here apart there since first opened =
      let h = holds since first opened in
      let c = h.course in
      let marked = with_marks since c.marks in
      let both = both_views v w in
      let mine = h.fits id v here in
      let theirs : Fits f marked first.now c other w =
      ⊎_elim (λ (t : (other ≡ id) × (both ≡ w)). absurd (apart t.0)) (λ (t : (other ≢ id) × (get_elem? s.views other ≡ some w)). h.fits other w t.1)
      (at_set s.views id other both w there) in
      let owners : ℕ → ℕ = λ k. if c.owner k == other then id else c.owner k in
      let keeper : ℕ = if c.keeper == other then id else c.keeper in
      let next = with_owners c owners keeper in
      let kept : (j : ℕ) → j ≢ other → c.keeper ≡ j → keeper ≡ j = λ j off is.
      (let no : (c.keeper == other) ≡ false = grind (arith, nat_tests, is, off) in ap (λ (b : Bool). if b then id else c.keeper) no ∙ is) in
      let taken_over : c.keeper ≡ other → keeper ≡ id = λ is.
      (let yes : (c.keeper == other) ≡ true = grind (arith, nat_tests, is) in ap (λ (b : Bool). if b then id else c.keeper) yes) in
      let moved : (k : ℕ) → c.owner k ≡ other → owners k ≡ id = λ k is.
      (let yes : (c.owner k == other) ≡ true = grind (arith, nat_tests, is) in ap (λ (b : Bool). if b then id else c.owner k) yes) in
      let stay : (k j : ℕ) → j ≢ other → c.owner k ≡ j → owners k ≡ j = λ k j off is.
      (let no : (c.owner k == other) ≡ false = grind (arith, nat_tests, is, off) in ap (λ (b : Bool). if b then id else c.owner k) no ∙ is) in
      let both_fit : Fits f marked first.now next id both = record {
        held = λ k n e. ⊎_elim
            (λ (x : holder k v.held ≡ Some n). let has = mine.held k n x in
            has_now f marked first.now c owners keeper id id k n has (stay k id (λ (same : id ≡ other). apart (sym same)) has.mine))
            (λ (x : holder k w.held ≡ Some n). let has = theirs.held k n x in has_now f marked first.now c owners keeper other id k n has (moved k has.mine))
            (holder_both k n v.held w.held e);
        board = λ disks is. ⊎_elim
            (λ (x : v.board ≡ disks ∷ []).
            record { mine = kept id (λ (same : id ≡ other). apart (sym same)) (mine.board disks x).mine; shows = (mine.board disks x).shows })
            (λ (x : w.board ≡ disks ∷ []). record { mine = taken_over (theirs.board disks x).mine; shows = (theirs.board disks x).shows })
            (one_board v.board w.board disks is);
        saw = saw_both f marked first.now c v w mine.saw theirs.saw;
      } in
      let others : (j : ℕ) (u : View N L M I) → j ≢ other → get_elem? (set s.views id both) j ≡ some u → Fits f marked first.now next j u = λ j u off e.
      ⊎_elim
      (λ (x : (j ≡ id) × (both ≡ u)). subst (λ (y : ℕ × View N L M I). Fits f marked first.now next y.0 y.1) (λ i. (sym x.0 i, x.1 i)) both_fit)
      (λ (x : (j ≢ id) × (get_elem? s.views j ≡ some u)). let fit = h.fits j u x.1 in
      record {
        held = λ k n got. has_now f marked first.now c owners keeper j j k n (fit.held k n got) (stay k j off (fit.held k n got).mine);
        board = λ disks is. record { mine = kept j off (fit.board disks is).mine; shows = (fit.board disks is).shows };
        saw = fit.saw;
      })
      (at_set s.views id j both u e) in
      record {
        course = next;
        is = same_course (places_at f.facts since) first (length start) s.words c owners keeper h.is;
        fits = each_set (Fits f marked first.now next) (set s.views id both) other nothing_seen others
            (none_held f marked first.now next other [] [] [] [] (record { seen = tt; told = tt; taken = tt; safe = tt }));
      }

  -- the board gets a pass of its own
  pub boards : (id : ℕ) (v : View N L M I) → Splits {S = ⊤} (Holds f routers start) id v (board_off v) (board_held v.board)
  boards id v s holds here since first opened =
      let h = holds since first opened in
      let c = h.course in
      let marked = with_marks since c.marks in
      let mine = h.fits id v here in
      let own = length s.views in
      let keeper : ℕ = if c.keeper == id then own else c.keeper in
      let next = with_owners c c.owner keeper in
      let kept : (j : ℕ) → j ≢ id → c.keeper ≡ j → keeper ≡ j = λ j off is.
      (let no : (c.keeper == id) ≡ false = grind (arith, nat_tests, is, off) in ap (λ (b : Bool). if b then own else c.keeper) no ∙ is) in
      let given_over : c.keeper ≡ id → keeper ≡ own = λ is.
      (let yes : (c.keeper == id) ≡ true = grind (arith, nat_tests, is) in ap (λ (b : Bool). if b then own else c.keeper) yes) in
      let others : (j : ℕ) (u : View N L M I) → j ≢ id → get_elem? s.views j ≡ some u → Fits f marked first.now next j u = λ j u off e.
      (let fit = h.fits j u e in
      record {
        held = λ k n got. has_now f marked first.now c c.owner keeper j j k n (fit.held k n got) (fit.held k n got).mine;
        board = λ disks is. record { mine = kept j off (fit.board disks is).mine; shows = (fit.board disks is).shows };
        saw = fit.saw;
      }) in
      let left_fits : Fits f marked first.now next id (board_off v) = record {
        held = λ k n got. has_now f marked first.now c c.owner keeper id id k n (mine.held k n got) (mine.held k n got).mine;
        board = λ disks is. absurd (no_board disks is);
        saw = record { seen = mine.saw.seen; told = mine.saw.told; taken = mine.saw.taken; safe = mine.saw.safe };
      } in
      let right_fits : Fits f marked first.now next own (board_held v.board) = record {
        held = λ k n got. absurd (none-some n got);
        board = λ disks is. record { mine = given_over (mine.board disks is).mine; shows = (mine.board disks is).shows };
        saw = record { seen = tt; told = tt; taken = tt; safe = tt };
      } in
      record {
        course = next;
        is = same_course (places_at f.facts since) first (length start) s.words c c.owner keeper h.is;
        fits = each_more (Fits f marked first.now next) (set s.views id (board_off v)) (board_held v.board)
            (each_set (Fits f marked first.now next) s.views id (board_off v) others left_fits)
            (subst (λ (j : ℕ). Fits f marked first.now next j (board_held v.board)) (sym (length-set s.views id (board_off v))) right_fits);
      }

  places_of : (seats : List (Seat N L)) → map (λ d. d.0) (sights_of f.facts seats) ≡ map f.facts.place (map (λ s. s.log) seats)
  places_of [] = refl
  places_of (s ∷ seats) = ap (λ (l : List (List ℕ)). f.facts.place s.log ∷ l) (places_of seats)

  all_steps : (seats : List (Seat N L)) → AllByRecursion (λ s. f.steps s.node < 2 ^ 56) seats → AllByRecursion (λ n. n < 2 ^ 56) (map (λ s. f.steps s.node) seats)
  all_steps [] a = tt
  all_steps (s ∷ seats) a = (a.0, all_steps seats a.1)

  abbrev at_first : World → Course
  at_first first = record {
    events = [];
    world = first;
    owner = λ _. 0;
    counts = map (λ s. f.steps s.node) start;
    keeper = 0;
    sights = sights_of f.facts start;
    marks = [];
  }

  all_fit : (since : Since L) (first : World) → AreDurable f.facts start → OpenedAs f since routers start first
      → Fits f since first.now (at_first first) 0 (all_at_start f.facts start)
  all_fit since first durable opened = record {
    held = λ k s e.
        let at = holder_numbered 0 k s start e in
        let same : k ≡ at.0 = omega (arith, at.1) in
        let there : slice_get start k ≡ Some s = ap (λ (j : ℕ). slice_get start j) same ∙ at.2 in
        record {
          mine = refl;
          stands = stands_at (view_by f since) start first k s opened.nodes opened.crashes there;
          calm = record {
            first = s.log;
            here = ap (λ (l : List L). slice_get l k) opened.logs ∙ slice_get_map (λ (x : Seat N L). x.log) start k s there;
            calm = record { place = refl; faults = refl };
          };
          count = slice_get_map (λ (x : Seat N L). f.steps x.node) start k s there;
          sight = slice_get_map (λ (x : Seat N L). sight_of f.facts x.log) start k s there;
          durable = durable k s there;
        };
    board = λ disks is. record { mine = refl; shows = first_of (sights_of f.facts start) disks is };
    saw = record { seen = tt; told = tt; taken = tt; safe = tt };
  }

  fits_first : (since : Since L) (first : World) → AreDurable f.facts start → OpenedAs f since routers start first → (id : ℕ) (u : View N L M I)
      → get_elem? (all_at_start f.facts start ∷ []) id ≡ some u → Fits f since first.now (at_first first) id u
  fits_first since first durable opened zero u e =
      subst (λ (x : View N L M I). Fits f since first.now (at_first first) 0 x) (some-injective _ _ e) (all_fit since first durable opened)
  fits_first since first durable opened (suc id) u e = absurd (some-ne-none u (sym e))

  -- the first pass has all nodes
  pub begins : length start ≤ 64 → AllByRecursion (λ s. f.steps s.node < 2 ^ 56) start → AreDurable f.facts start
      → Holds f routers start (opening {S = ⊤} (0 ∷ []) [] (all_at_start f.facts start))
  begins few small durable since first opened = record {
    course = at_first first;
    is = record {
      run = stands first;
      none_missed = refl;
      now = omega arith;
      word = refl;
      nodes = sym (held_len (view_by f since) start first.nodes opened.nodes);
      few = omega (arith, few, length-map start (λ (s : Seat N L). f.steps s.node));
      small = all_steps start small;
      counted = omega arith;
      places_are = places_of start ∙ ap (λ (l : List L). map f.facts.place l) (sym opened.logs);
      marked = tt;
    };
    fits = fits_first since first durable opened;
  }

pub begins_with : {N L M I : Type 0} (f : NodeFacts N L M I) (routers : ℕ) (seats start : List (Seat N L)) → start ≡ seats → length seats ≤ 64
    → AllByRecursion (λ s. f.steps s.node < 2 ^ 56) seats → AreDurable f.facts seats
    → Holds f routers start (opening {S = ⊤} (0 ∷ []) [] (all_at_start f.facts start))
begins_with {N} {L} f routers seats start same few small durable =
    subst (λ (l : List (Seat N L)). Holds f routers l (opening {S = ⊤} (0 ∷ []) [] (all_at_start f.facts l))) (sym same)
    (begins f routers seats few small durable)
