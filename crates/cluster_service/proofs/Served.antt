-- From the nodes of a server at its end to their disks.
use Rattle.std.specs.Prelude.{◌≡◌, ◌⊎◌, ℕ, zero, suc, ◌+◌, ◌-◌, ◌<◌, ◌≤◌, Bool, true, false, ◌||◌, IsTrue, List, [], ◌∷◌, length, map, MatchOption, Option, Some, None}
use Rattle.std.proofs.Common.{refl, sym, ap, subst, ◌∙◌, inl, inr, arith}
use Rattle.std.specs.List.{AllByRecursion, slice_get}
use Rattle.outside.specs.Causes.{Rose}
use Rattle.outside.specs.Devices.{NoneFell, OneRose}
use Rattle.outside.specs.Logs.{LogFacts}
use Rattle.node_model.specs.World.{Held, World, IsRouter, stands}
use Rattle.driver_steps.specs.declared.seat.Seat.{Seat}
use Rattle.driver_steps.specs.Crashes.{Since}
use Rattle.driver_steps.specs.Seats.{AreHeld, Keeps, seat_view, since_then}
use Rattle.driver_steps.proofs.Crashes.{held_since, start_leaves}
use Rattle.group_steps.specs.Groups.{moves_none}
use Rattle.node_cell.specs.declared.view.Halt.{Halt}
use Rattle.node_cell.specs.declared.view.Halt.TheVariants.{Disk, Memory}
use Rattle.node_cell.specs.declared.view.Placed.{Placed}
use Rattle.node_cell.specs.Courses.{NodeFacts, OpenedAs, RoutersFrom, view_by}
use Rattle.node_cell.specs.Standing.{AreFrom, Ends, EndsHalted, KeepsAt, StaysAt}
use Rattle.conn_server.specs.Conversations.{has_failed, is_by_disk, some_failed}
use Rattle.sim_driver.specs.Moves.{MayPlay}
use Rattle.restart_laws.specs.Calls.{wholes}
use Rattle.restart_laws.proofs.ReachedCalls.{run_whole}
use Rattle.cluster_service.specs.Openings.{InPairs}
use Rattle.cluster_service.specs.Servers.{IsUpTo}

-- THE START

pub routers_there : (first_router : ℕ) (first : World) → MayPlay first_router first → RoutersFrom first_router first.nodes
routers_there first_router first may at far below =
    let there : first_router + (at - first_router) ≡ at = omega (arith, far) in
    subst (λ (n : ℕ). IsRouter first.nodes n) there (may.routers (at - first_router) (subst (λ (n : ℕ). n < length first.nodes) (sym there) below))

pub opened_as : {N L M I : Type 0} (f : NodeFacts N L M I) (first_router : ℕ) (first : World) (seats : List (Seat N L))
    → AreHeld (seat_view f.state f.steps f.facts) seats first.nodes
    → RoutersFrom first_router first.nodes → OpenedAs f (since_then seats first) first_router seats first
opened_as f first_router first seats held routers = record {
  logs = refl;
  nodes = held_since f.state f.steps f.facts (since_then seats first) seats first.nodes held;
  crashes = start_leaves f.state f.steps f.facts seats first;
  are_routers = routers;
}

-- a world with these nodes, in which nothing happened yet
abbrev pub world_of : List Held → World
world_of nodes = record { nodes = nodes; sent = []; asked = []; answered = []; given = []; learned = []; missed = []; away = []; changed = []; now = 0 }

-- THE END

-- a node after its log was this one: its disk is in its place, and its count of faults rose if it failed
pub record IsAfter {N L : Type 0} (facts : LogFacts L) (first : L) (p : Placed N L) : Type 0 where
  pub place : facts.place p.seat.log ≡ facts.place first
  pub calm : ¬ IsTrue (has_failed p) → facts.fault_count p.seat.log ≡ facts.fault_count first
  pub rose : IsTrue (has_failed p) → Rose (facts.fault_count first) (facts.fault_count p.seat.log)
  pub later : facts.fault_count first ≤ facts.fault_count p.seat.log

-- no steps more
pub no_more : (at : ℕ) (w : World) → IsUpTo at w w
no_more at w = record { parts = []; moves = moves_none w; events = []; run = stands w }

-- steps whose records are stored or are not
stored_or_not : (at : ℕ) (w end last : World) → (end ≡ w) ⊎ (end ≡ last) → IsUpTo at w last → IsUpTo at w end
stored_or_not at w end last (inl same) more = subst (λ (v : World). IsUpTo at w v) (sym same) (no_more at w)
stored_or_not at w end last (inr same) more = subst (λ (v : World). IsUpTo at w v) (sym same) more

module _ {N L M I : Type 0} (f : NodeFacts N L M I) (since : Since L) (w : World) where
  -- what the log keeps, in this world or after more steps
  pub record KeepsUpTo (at : ℕ) (s : Seat N L) : Type 0 where
    pub end : World
    pub up_to : IsUpTo at w end
    pub held : Held
    pub here : slice_get end.nodes at ≡ Some held
    pub keeps : Keeps (view_by f since s) held.kept

  -- what a crash left of it
  pub record LeavesAt (at : ℕ) (s : Seat N L) : Type 0 where
    pub last : World
    pub up_to : IsUpTo at w last
    pub leaves : (view_by f since s).leaves at last

  -- a node that ended was there before, and its log keeps what its journal stores if its disk did not fail
  pub record WasAt (at : ℕ) (p : Placed N L) : Type 0 where
    pub first : L
    pub here : slice_get since.logs at ≡ Some first
    pub is : IsAfter f.facts first p
    pub stays : ¬ IsTrue (has_failed p) → KeepsAt f since w at p.seat
    pub kept : KeepsUpTo at p.seat
    pub crash : LeavesAt at p.seat

  keeps_there : (at : ℕ) (s : Seat N L) → StaysAt f since w at s → KeepsAt f since w at s
  keeps_there at s there = record {
    held = there.stands.held;
    here = there.stands.here;
    keeps = there.stands.is.keeps;
    leaves = there.stands.leaves;
    calm = there.calm;
    is_open = there.is_open;
  }

  -- its disk did not fail
  was_calm : (p : Placed N L) → has_failed p ≡ false → KeepsAt f since w p.at p.seat → WasAt p.at p
  was_calm p is k = record {
    first = k.calm.first;
    here = k.calm.here;
    is = record {
      place = k.calm.calm.place;
      calm = λ never. k.calm.calm.faults;
      rose = λ fails. let clash : false ≡ true = sym is ∙ fails in absurd (cc clash);
      later = omega (arith, k.calm.calm.faults);
    };
    stays = λ never. k;
    kept = record { end = w; up_to = no_more p.at w; held = k.held; here = k.here; keeps = k.keeps };
    crash = record { last = w; up_to = no_more p.at w; leaves = k.leaves };
  }

  was_there : (p : Placed N L) → Ends f since w p → WasAt p.at p
  was_there p ends = by_halt p.halt refl ends
    where
      by_halt : (halt : Option Halt) → p.halt ≡ halt
          → MatchOption halt (StaysAt f since w p.at p.seat) (λ h. EndsHalted f since w p.at h p.seat) → WasAt p.at p
      by_halt None is s = was_calm p (ap is_by_disk is) (keeps_there p.at p.seat s)
      by_halt (Some Memory) is k = was_calm p (ap is_by_disk is) k
      by_halt (Some (Disk faults)) is s = record {
        first = s.first;
        here = s.here;
        is = record {
          place = s.failed.place;
          calm = λ never. absurd (never (ap is_by_disk is));
          rose = λ fails. s.failed.rose.rose;
          later = s.failed.rose.no_fall;
        };
        stays = λ never. absurd (never (ap is_by_disk is));
        kept = record {
          end = s.breaks.end;
          up_to = stored_or_not p.at w s.breaks.end s.breaks.last s.breaks.which
              (record { parts = s.parts; moves = s.breaks.moves; events = s.events; run = s.run });
          held = s.breaks.held;
          here = s.breaks.here;
          keeps = s.breaks.keeps;
        };
        crash = record {
          last = s.breaks.last;
          up_to = record { parts = s.parts; moves = s.breaks.moves; events = s.events; run = s.run };
          leaves = s.breaks.crashes (wholes s.events, run_whole w s.breaks.last s.events s.run);
        };
      }

  pub all_were : (k : ℕ) (placed : List (Placed N L)) → AreFrom k placed → AllByRecursion (λ p. Ends f since w p) placed
      → (at : ℕ) (p : Placed N L) → slice_get placed at ≡ Some p → WasAt (k + at) p
  all_were k [] from ends at p got = absurd (cc got)
  all_were k (q ∷ placed) from ends zero p got =
      let same : q ≡ p = cc got in
      let there : q.at ≡ k + zero = omega (arith, from.0) in
      subst (λ (x : Placed N L). WasAt (k + zero) x) same (subst (λ (n : ℕ). WasAt n q) there (was_there q ends.0))
  all_were k (q ∷ placed) from ends (suc at) p got =
      let there : (k + 1) + at ≡ k + suc at = omega arith in
      subst (λ (n : ℕ). WasAt n p) there (all_were (k + 1) placed from.1 ends.1 at p got)

  -- each of them
  pub each_was : (placed : List (Placed N L)) → AreFrom 0 placed → AllByRecursion (λ p. Ends f since w p) placed
      → (at : ℕ) (p : Placed N L) → slice_get placed at ≡ Some p → WasAt at p
  each_was placed from ends at p got =
      let there : 0 + at ≡ at = omega arith in
      subst (λ (n : ℕ). WasAt n p) there (all_were 0 placed from ends at p got)

-- each two in one place
pub in_pairs : {A B : Type 0} (R : A → B → Type 0) (xs : List A) (ys : List B)
    → ((at : ℕ) (y : B) → slice_get ys at ≡ Some y → (x : A) × ((slice_get xs at ≡ Some x) × R x y)) → length ys ≡ length xs → InPairs R xs ys
in_pairs R [] [] each count = tt
in_pairs R [] (y ∷ ys) each count = absurd (omega (arith, count))
in_pairs R (x ∷ xs) [] each count = absurd (omega (arith, count))
in_pairs {A} R (x ∷ xs) (y ∷ ys) each count =
    let first = each zero y refl in
    let same : first.0 ≡ x = cc first.1.0 in
    (subst (λ (z : A). R z y) same first.1.1, in_pairs R xs ys (λ at. each (suc at)) (omega (arith, count)))

-- neither this one nor another failed
none_of : (a b : Bool) → ¬ IsTrue (a || b) → (¬ IsTrue a) × (¬ IsTrue b)
none_of true b never = absurd (never refl)
none_of false b never = (λ is. cc is, never)

module _ {N L : Type 0} (facts : LogFacts L) where
  pub after_places : (logs : List L) (placed : List (Placed N L)) → InPairs (IsAfter facts) logs placed
      → map (λ p. facts.place p.seat.log) placed ≡ map facts.place logs
  after_places [] [] are = refl
  after_places [] (p ∷ placed) are = absurd are
  after_places (l ∷ logs) [] are = absurd are
  after_places (l ∷ logs) (p ∷ placed) are =
      ap (λ (x : List ℕ). x ∷ map (λ q. facts.place q.seat.log) placed) are.0.place
      ∙ ap (λ (xs : List (List ℕ)). facts.place l ∷ xs) (after_places logs placed are.1)

  pub after_later : (logs : List L) (placed : List (Placed N L)) → InPairs (IsAfter facts) logs placed
      → NoneFell (map facts.fault_count logs) (map (λ p. facts.fault_count p.seat.log) placed)
  after_later [] [] are = tt
  after_later [] (p ∷ placed) are = absurd are
  after_later (l ∷ logs) [] are = absurd are
  after_later (l ∷ logs) (p ∷ placed) are = (are.0.later, after_later logs placed are.1)

  pub after_calm : (logs : List L) (placed : List (Placed N L)) → InPairs (IsAfter facts) logs placed → ¬ IsTrue (some_failed placed)
      → map (λ p. facts.fault_count p.seat.log) placed ≡ map facts.fault_count logs
  after_calm [] [] are never = refl
  after_calm [] (p ∷ placed) are never = absurd are
  after_calm (l ∷ logs) [] are never = absurd are
  after_calm (l ∷ logs) (p ∷ placed) are never =
      let none = none_of (has_failed p) (some_failed placed) never in
      ap (λ (x : ℕ). x ∷ map (λ q. facts.fault_count q.seat.log) placed) (are.0.calm none.0)
      ∙ ap (λ (xs : List ℕ). facts.fault_count l ∷ xs) (after_calm logs placed are.1 none.1)

  pub after_rose : (logs : List L) (placed : List (Placed N L)) → InPairs (IsAfter facts) logs placed → IsTrue (some_failed placed)
      → OneRose (map facts.fault_count logs) (map (λ p. facts.fault_count p.seat.log) placed)
  after_rose [] [] are some = absurd (cc some)
  after_rose [] (p ∷ placed) are some = absurd are
  after_rose (l ∷ logs) [] are some = absurd are
  after_rose (l ∷ logs) (p ∷ placed) are some = either (has_failed p) refl (λ others. after_rose logs placed are.1 others)
    where
      either : (b : Bool) → has_failed p ≡ b
          → (IsTrue (some_failed placed) → OneRose (map facts.fault_count logs) (map (λ q. facts.fault_count q.seat.log) placed))
          → OneRose (map facts.fault_count (l ∷ logs)) (map (λ q. facts.fault_count q.seat.log) (p ∷ placed))
      either true is others = inl (are.0.rose is)
      either false is others = inr (others (sym (ap (λ (b : Bool). b || some_failed placed) is) ∙ some))

  pub none_failed_at : (placed : List (Placed N L)) → ¬ IsTrue (some_failed placed) → (at : ℕ) (p : Placed N L) → slice_get placed at ≡ Some p
      → ¬ IsTrue (has_failed p)
  none_failed_at [] never at p got = absurd (cc got)
  none_failed_at (q ∷ placed) never zero p got =
      let same : q ≡ p = cc got in
      subst (λ (x : Placed N L). ¬ IsTrue (has_failed x)) same (none_of (has_failed q) (some_failed placed) never).0
  none_failed_at (q ∷ placed) never (suc at) p got = none_failed_at placed (none_of (has_failed q) (some_failed placed) never).1 at p got

-- each one of a list
pub all_by_place : {A : Type 0} (P : A → Type 0) (xs : List A) → ((at : ℕ) (x : A) → slice_get xs at ≡ Some x → P x) → AllByRecursion P xs
all_by_place P [] each = tt
all_by_place P (x ∷ xs) each = (each zero x refl, all_by_place P xs (λ at. each (suc at)))
