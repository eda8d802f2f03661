-- A node behind its lock, while it takes steps.
use Rattle.std.proofs.Common.{◌≡◌, ℕ, ℤ, ◌+◌, ◌<◌, ◌≤◌, ◌^◌, List, [], ◌∷◌, ◌++◌, map, length, Bool, IsTrue, refl, sym, ap, ◌∙◌, subst, arith, append-nil}
use Rattle.std.specs.Prelude.{⊤, Option, None, Some, MatchOption}
use Rattle.std.specs.List.{AllByRecursion, slice_set}
use Rattle.std.proofs.lemmas.List.{map-append}
use Rattle.atomic_table.specs.Table.{Me, Step as TableStep}
use Rattle.node_model.specs.Letters.{Letter, Input, client_input, letter_input, moment_input, opened_input}
use Rattle.node_model.specs.Requests.{Request}
use Rattle.node_model.specs.World.{World}
use Rattle.node_traits.specs.declared.outputs.ToLink.{ToLink}
use Rattle.driver_steps.specs.declared.seat.Seat.{Seat}
use Rattle.driver_steps.specs.Crashes.{Since}
use Rattle.driver_steps.specs.OneSeat.{NamesFault, StandsAt}
use Rattle.driver_steps.specs.Seats.{AreOpen}
use Rattle.driver_steps.proofs.Stepping.{same_stands}
use Rattle.group_steps.specs.declared.fault.GroupFault.{GroupFault}
use Rattle.group_steps.specs.declared.fault.GroupFault.TheVariants.{Disk as disk_failed, Memory as no_memory}
use Rattle.group_steps.specs.declared.group.Part.{Part}
use Rattle.group_steps.specs.Groups.{Part as PartOf, TakesAll}
use Rattle.group_steps.specs.Parts.{Among, AreBroken, AreOn, ByGroupFault, parts_of}
use Rattle.history_model.proofs.Lists.{all_weaken}
use Rattle.node_cell.specs.declared.view.Halt.{Halt}
use Rattle.node_cell.specs.declared.view.Placed.{Placed}
use Rattle.node_cell.specs.declared.view.View.{View}
use Rattle.outside.specs.Logs.{IsDurable}
use Rattle.node_cell.specs.Courses.{IsCalm, NodeFacts, view_by}
use Rattle.node_cell.specs.Deliveries.{AreKnown}
use Rattle.node_cell.specs.Standing.{AllSit, AreSeen, AreTold, HasFailed, IsAsKnown, IsHalted, IsKept, IsKnown, IsPart, MayTake, Sits, halt_by}
use Rattle.node_cell.specs.Views.{Given, IsFree, Sights, after_steps, board_held, board_off, both_views, first_alone, first_off, given_by, nodes_held, nothing_seen}
use Rattle.node_cell.specs.Views.{numbered, renewed, takes, view_of}
use Rattle.node_cell.proofs.Lists.{all_at, all_map, among_behind, are_among_map, first_numbered, rest_numbered}
use Rattle.node_cell.proofs.Closing.{kept_on, part_front, part_self, sit_joined, sit_on}

module _ {N L M I : Type 0} (f : NodeFacts N L M I) (routers : ℕ) where
  -- a node that takes steps
  as_known : (seen : List Letter) (old : Seat N L) (p : Placed N L) → p.halt ≡ None → IsKept f routers seen old p → IsAsKnown f old p.seat
  as_known seen old p none is =
      subst (λ (o : Option Halt). MatchOption o (IsAsKnown f old p.seat) (λ h. IsHalted f routers p.at seen h old p.seat)) none is

  is_kept : (seen : List Letter) (old t : Seat N L) (p : Placed N L) → p.halt ≡ None → IsAsKnown f old t
      → IsKept f routers seen old (record { at = p.at; halt = p.halt; seat = t })
  is_kept seen old t p none known =
      subst (λ (o : Option Halt). MatchOption o (IsAsKnown f old t) (λ h. IsHalted f routers p.at seen h old t)) (sym none) known

  -- its pass may take the steps that it took
  pub group_may : (p : Placed N L) (t : Seat N L) (v : View N L M I) (parts : List (Part M I)) (inputs : List I) → p.halt ≡ None → Sits f routers p v
      → ((since : Since L) (w : World) (k : ℕ) → StandsAt (view_by f since p.seat) w k
      → TakesAll (view_by f since t) w k (parts_of f.letter f.meaning parts))
      → f.steps p.seat.node + length parts ≤ f.steps t.node → (f.steps p.seat.node < 2 ^ 56 → f.steps t.node < 2 ^ 56) → IsCalm f.facts p.seat.log t.log
      → AreOn inputs parts → AreKnown f.meaning routers (map f.letter v.seen) p.at inputs → IsDurable f.facts t.log
      → MayTake f routers v (given_by f.facts p.at parts t)
  group_may p t v parts inputs none here steps counted below calm on known durable =
      let is : IsAsKnown f here.old p.seat = as_known (map f.letter v.seen) here.old p none here.is in
      record {
        old = here.old;
        held = here.held;
        steps = λ since w stands. steps since w p.at (same_stands f.state f.steps f.facts since w p.at here.old p.seat (omega (arith, is.steps)) (sym is.state, sym is.log) stands);
        more = omega (arith, is.steps, counted);
        below = λ small. below (omega (arith, is.steps, small));
        calm = subst (λ (l : L). IsCalm f.facts l t.log) (sym is.log) calm;
        known = all_weaken (λ (x : Part M I). Among x.input.value inputs) (λ (x : Part M I). IsKnown routers (map f.letter v.seen) p.at (f.meaning x.input.value))
            parts (λ x there. all_at (λ i. IsKnown routers (map f.letter v.seen) p.at (f.meaning i)) inputs there.0 x.input.value there.1 known) on;
        sight = refl;
        durable = durable;
      }

  -- after them the pass has the node as it is
  pub sits_after : (p : Placed N L) (t : Seat N L) (v w : View N L M I) (g : Given N L M I) (number : ℕ) → p.halt ≡ None → Sits f routers p v → g.new ≡ t
      → IsTrue (f.facts.is_open t.log) → w ≡ board_off (after_steps g number v) → Sits f routers (record { at = p.at; halt = p.halt; seat = t }) w
  sits_after p t v w g number none here new is_open is =
      subst (λ (u : View N L M I). Sits f routers (record { at = p.at; halt = p.halt; seat = t }) u) (sym is)
      (record {
        old = t;
        held = ap (λ (l : List (ℕ × Seat N L)). renewed l g.new) here.held ∙ ap (λ (x : Seat N L). (p.at, x) ∷ []) new;
        is = is_kept (map f.letter (board_off (after_steps g number v)).seen) t t p none (record { state = refl; log = refl; steps = refl; is_open = is_open });
      })

  -- and after a fault
  pub sits_halted : (p : Placed N L) (t : Seat N L) (v : View N L M I) (inputs : List I) (fault : GroupFault) → p.halt ≡ None → Sits f routers p v
      → AreKnown f.meaning routers (map f.letter v.seen) p.at inputs → AreBroken f.state f.steps f.facts f.meaning inputs p.seat t
      → ByGroupFault fault (λ faults. NamesFault faults (f.facts.fault_count p.seat.log) (f.facts.fault_count t.log)) (t.log ≡ p.seat.log)
      → f.facts.place t.log ≡ f.facts.place p.seat.log → Sits f routers (record { at = p.at; halt = Some (halt_by fault); seat = t }) v
  sits_halted p t v inputs (disk_failed faults) none here known broken rose place =
      let is : IsAsKnown f here.old p.seat = as_known (map f.letter v.seen) here.old p none here.is in
      let all = all_map f.meaning (λ i. IsKnown routers (map f.letter v.seen) p.at i) inputs known in
      record {
        old = here.old;
        held = here.held;
        is = record {
          parts = broken.parts;
          known = all_weaken (λ (x : PartOf). Among x.input (map f.meaning inputs)) (λ (x : PartOf). IsKnown routers (map f.letter v.seen) p.at x.input)
              broken.parts (λ x there. all_at (λ i. IsKnown routers (map f.letter v.seen) p.at i) (map f.meaning inputs) there.0 x.input there.1 all) broken.on;
          failed = subst (λ (l : L). HasFailed f.facts faults l t.log) (sym is.log) (record { place = place; rose = rose });
          breaks = λ since w stands.
              broken.breaks since w p.at (same_stands f.state f.steps f.facts since w p.at here.old p.seat (omega (arith, is.steps)) (sym is.state, sym is.log) stands);
        };
      }
  sits_halted p t v inputs no_memory none here known broken same place =
      let is : IsAsKnown f here.old p.seat = as_known (map f.letter v.seen) here.old p none here.is in
      record { old = here.old; held = here.held; is = (same ∙ sym is.log, subst (λ (l : L). IsTrue (f.facts.is_open l)) (sym same) is.is_open) }

  -- its pass has seen more
  pub sits_learnt : (p : Placed N L) (v w : View N L M I) → Sits f routers p v → w.held ≡ v.held → IsPart v w → Sits f routers p w
  sits_learnt p v w here same part = record {
    old = here.old;
    held = same ∙ here.held;
    is = kept_on f routers (map f.letter v.seen) (map f.letter w.seen) here.old p (are_among_map f.letter v.seen w.seen part.seen) here.is;
  }

  -- its pass takes in a note
  pub sits_noted : (p : Placed N L) (v note : View N L M I) → Sits f routers p v → note.held ≡ [] → Sits f routers p (both_views v note)
  sits_noted p v note here none = record {
    old = here.old;
    held = ap (λ (l : List (ℕ × Seat N L)). v.held ++ l) none ∙ (append-nil v.held ∙ here.held);
    is = kept_on f routers (map f.letter v.seen) (map f.letter (both_views v note).seen) here.old p
        (are_among_map f.letter v.seen (both_views v note).seen (part_front v v note (part_self v)).seen) here.is;
  }

-- WHAT A NOTE HAS SEEN

-- the first of what was seen, and the others
pub all_first : {A : Type 0} (P : A → Type 0) (all rest : List A) (x : A) → AllByRecursion P all → all ≡ x ∷ rest → P x × AllByRecursion P rest
all_first {A} P all rest x are is = subst (λ (l : List A). AllByRecursion P l) is are

-- a message that a note has seen is known once its receiver takes in the note
pub letter_known : {N L M I : Type 0} (f : NodeFacts N L M I) (routers at : ℕ) (v note : View N L M I) (m : Letter) (i : Input) → i ≡ letter_input m
    → m.receiver ≡ at → Among m (map f.letter note.seen) → IsKnown routers (map f.letter (both_views v note).seen) at i
letter_known {N} {L} {M} f routers at v note m i is to among =
    subst (λ (x : Input). IsKnown routers (map f.letter (both_views v note).seen) at x) (sym is)
    (to, subst (λ (l : List Letter). Among m l) (sym (map-append f.letter v.seen note.seen)) (among_behind m (map f.letter v.seen) (map f.letter note.seen) among))

-- MANY NODES

pub open_next : {N L : Type 0} (is_open : L → Bool) (s : Seat N L) (all rest : List (Seat N L)) → all ≡ s ∷ rest → AreOpen is_open all
    → IsTrue (is_open s.log) × AreOpen is_open rest
open_next {N} {L} is_open s all rest first are = subst (λ (l : List (Seat N L)). AreOpen is_open l) first are

module _ {N L M I : Type 0} (at : ℕ) (s : Seat N L) (all rest : List (Seat N L)) (old : Me ⊤ (View N L M I))
    (was : old ≡ (nodes_held (numbered at all), [])) (first : all ≡ s ∷ rest) where
  abbrev only : List (ℕ × Seat N L) → Me ⊤ (View N L M I)
  only held = (nodes_held held, [])

  abbrev off : Me ⊤ (View N L M I) → Me ⊤ (View N L M I)
  off m = (view_of (first_off m.0.held) m.0.board m.0.seen m.0.told m.0.taken m.0.safe, m.1)

  -- the pass of the first node
  pub own_first : (own : Me ⊤ (View N L M I)) → own ≡ (nodes_held (first_alone old.0.held), []) → own.0.held ≡ (at, s) ∷ []
  own_first own is =
      ap (λ (m : Me ⊤ (View N L M I)). m.0.held) is ∙ (ap (λ (m : Me ⊤ (View N L M I)). first_alone m.0.held) was ∙ first_numbered at s all rest first)

  -- and of the others
  pub pass_next : (new : Me ⊤ (View N L M I))
      → new ≡ (view_of (first_off old.0.held) old.0.board old.0.seen old.0.told old.0.taken old.0.safe, old.1)
      → new ≡ (nodes_held (numbered (at + 1) rest), [])
  pass_next new is = is ∙ (ap off was ∙ ap only (rest_numbered at s all rest first))

-- one more node is taken out of its lock
pub sit_next : {N L M I : Type 0} (f : NodeFacts N L M I) (routers at : ℕ) (v own w : View N L M I) (ended : List (Placed N L)) (p : Placed N L)
    → AllSit f routers (map f.letter v.seen) 0 v.held ended → Sits f routers p own → p.at ≡ at → at ≡ length ended → w ≡ both_views v own
    → AllSit f routers (map f.letter w.seen) 0 w.held (ended ++ p ∷ [])
sit_next {N} {L} {M} {I} f routers at v own w ended p all here place number is =
    subst (λ (u : View N L M I). AllSit f routers (map f.letter u.seen) 0 u.held (ended ++ p ∷ [])) (sym is)
    (sit_joined f routers v own ended p all here (place ∙ number))

-- no node yet
pub sit_none : {N L M I : Type 0} (f : NodeFacts N L M I) (routers : ℕ) (v : View N L M I) (ended : List (Placed N L)) → v ≡ nothing_seen → ended ≡ []
    → AllSit f routers (map f.letter v.seen) 0 v.held ended
sit_none {N} {L} {M} {I} f routers v ended none empty =
    subst (λ (l : List (Placed N L)). AllSit f routers (map f.letter v.seen) 0 v.held l) (sym empty)
    (subst (λ (u : View N L M I). AllSit f routers (map f.letter u.seen) 0 u.held []) (sym none) tt)

-- notes were joined to the pass of all nodes
pub sit_learnt : {N L M I : Type 0} (f : NodeFacts N L M I) (routers : ℕ) (v w : View N L M I) (ended : List (Placed N L))
    → AllSit f routers (map f.letter v.seen) 0 v.held ended → w.held ≡ v.held → IsPart v w → AllSit f routers (map f.letter w.seen) 0 w.held ended
sit_learnt {N} {L} {M} {I} f routers v w ended all same part =
    subst (λ (l : List (ℕ × Seat N L)). AllSit f routers (map f.letter w.seen) 0 l ended) (sym same)
    (sit_on f routers (map f.letter v.seen) (map f.letter w.seen) 0 v.held ended (are_among_map f.letter v.seen w.seen part.seen) all)

-- a note was joined
pub held_same : {N L M I : Type 0} (v note w : View N L M I) → w ≡ both_views v note → note.held ≡ [] → w.held ≡ v.held
held_same {N} {L} {M} {I} v note w is none =
    ap (λ (u : View N L M I). u.held) is ∙ (ap (λ (l : List (ℕ × Seat N L)). v.held ++ l) none ∙ append-nil v.held)

pub part_next : {N L M I : Type 0} (first v note w : View N L M I) → w ≡ both_views v note → IsPart first v → IsPart first w
part_next {N} {L} {M} {I} first v note w is part = subst (λ (u : View N L M I). IsPart first u) (sym is) (part_front first v note part)

-- routers are from the same number on
pub may_at : {N L M I : Type 0} (f : NodeFacts N L M I) (key routers : ℕ) → key ≡ routers → (v : View N L M I) (g : Given N L M I) → MayTake f routers v g
    → MayTake f key v g
may_at {N} {L} {M} {I} f key routers same v g may = subst (λ (r : ℕ). MayTake f r v g) (sym same) may

pub seen_as : {M : Type 0} (letter : M → Letter) (seen mail taken : List M) → taken ≡ mail → AreSeen letter seen mail → AreSeen letter seen taken
seen_as {M} letter seen mail taken same are = subst (λ (l : List M). AreSeen letter seen l) (sym same) are

pub told_as : (told : List (ℕ × ToLink)) (number : ℕ) (replies taken : List ToLink) → taken ≡ replies → AreTold told number replies → AreTold told number taken
told_as told number replies taken same are = subst (λ (l : List ToLink). AreTold told number l) (sym same) are

pub known_at : (routers : ℕ) (seen : List Letter) (at place : ℕ) (i : Input) → at ≡ place → IsKnown routers seen at i → IsKnown routers seen place i
known_at routers seen at place i same known = subst (λ (k : ℕ). IsKnown routers seen k i) same known

pub client_known : (routers : ℕ) (seen : List Letter) (at link : ℕ) (number : ℤ) (request : Request) (i : Input) → i ≡ client_input link number request
    → routers ≤ at → IsKnown routers seen at i
client_known routers seen at link number request i is far = subst (λ (x : Input). IsKnown routers seen at x) (sym is) far

pub moment_known : (routers : ℕ) (seen : List Letter) (at moment : ℕ) (i : Input) → i ≡ moment_input moment → IsKnown routers seen at i
moment_known routers seen at moment i is = subst (λ (x : Input). IsKnown routers seen at x) (sym is) tt

pub opened_known : (routers : ℕ) (seen : List Letter) (at : ℕ) (i : Input) → i ≡ opened_input → IsKnown routers seen at i
opened_known routers seen at i is = subst (λ (x : Input). IsKnown routers seen at x) (sym is) tt

module _ {N L M I : Type 0} (f : NodeFacts N L M I) (routers : ℕ) where
  pub sits_still : (p : Placed N L) (v w : View N L M I) → w ≡ v → Sits f routers p v → Sits f routers p w
  sits_still p v w same here = subst (λ (u : View N L M I). Sits f routers p u) (sym same) here

  -- a message is delivered to the node that took in its note
  pub delivered_known : (at : ℕ) (v note given w : View N L M I) (m : Letter) (i : Input) → w ≡ both_views v note → note ≡ given → i ≡ letter_input m
      → m.receiver ≡ at → Among m (map f.letter given.seen) → IsKnown routers (map f.letter w.seen) at i
  delivered_known at v note given w m i is view kind to among =
      subst (λ (u : View N L M I). IsKnown routers (map f.letter u.seen) at i) (sym is) (known kind)
    where
      among_note : Among m (map f.letter note.seen)
      among_note = subst (λ (u : View N L M I). Among m (map f.letter u.seen)) (sym view) among

      known : i ≡ letter_input m → IsKnown routers (map f.letter (both_views v note).seen) at i
      known what = letter_known f routers at v note m i what to among_note

pub sit_as : {N L M I : Type 0} (f : NodeFacts N L M I) (key routers : ℕ) → key ≡ routers → (seen : List Letter) (held : List (ℕ × Seat N L))
    (ended : List (Placed N L)) → AllSit f routers seen 0 held ended → AllSit f key seen 0 held ended
sit_as f key routers same seen held ended all = subst (λ (r : ℕ). AllSit f r seen 0 held ended) (sym same) all

pub sit_list : {N L M I : Type 0} (f : NodeFacts N L M I) (routers : ℕ) (seen : List Letter) (held : List (ℕ × Seat N L)) (ended all : List (Placed N L))
    → all ≡ ended → AllSit f routers seen 0 held ended → AllSit f routers seen 0 held all
sit_list {N} {L} f routers seen held ended all same sit = subst (λ (l : List (Placed N L)). AllSit f routers seen 0 held l) (sym same) sit

-- a pass that took in a note holds neither a slot nor the board
pub free_both : {N L M I : Type 0} (old new note : Me ⊤ (View N L M I)) → new ≡ (both_views old.0 note.0, old.1) → IsFree old → IsFree note → IsFree new
free_both {N} {L} {M} {I} old new note is free noted =
    subst (λ (m : Me ⊤ (View N L M I)). IsFree m) (sym is)
    (free.0, ap (λ (l : List Sights). l ++ note.0.board) free.1 ∙ noted.1)

-- A PASS WITH THE BOARD

-- steps that were given were taken
pub taken_so : {N L M I : Type 0} (told : Option (Given N L M I)) (g : Given N L M I) (s : TableStep ⊤) (me : Me ⊤ (View N L M I)) (found : ℕ)
    (left : Me ⊤ (View N L M I)) → told ≡ Some g → takes told s me found left → left ≡ (after_steps g found me.0, me.1)
taken_so {N} {L} {M} {I} told g s me found left is took = subst (λ (o : Option (Given N L M I)). takes o s me found left) is took

module _ {N L M I : Type 0} (f : NodeFacts N L M I) (routers : ℕ) (v : View N L M I) (board : List Sights) (g : Given N L M I) where
  -- it may take the steps that it may take without
  pub may_with_board : MayTake f routers v g → MayTake f routers (both_views v (board_held board)) g
  may_with_board may = record {
    old = may.old;
    held = append-nil v.held ∙ may.held;
    steps = may.steps;
    more = may.more;
    below = may.below;
    calm = may.calm;
    known = subst (λ (l : List M). AllByRecursion (λ (p : Part M I). IsKnown routers (map f.letter l) g.at (f.meaning p.input.value)) g.parts)
        (sym (append-nil v.seen)) may.known;
    sight = may.sight;
    durable = may.durable;
  }

  -- after them, without the board
  pub placed_off : (number : ℕ) → board_off (after_steps g number (both_views v (board_held board))) ≡ board_off (after_steps g number v)
  placed_off number =
      rw (append-nil v.held, append-nil v.seen, append-nil v.told, append-nil v.taken, append-nil v.safe) refl

module _ {N L M I : Type 0} (old own board joined : Me ⊤ (View N L M I)) (disks : Sights) (own_is : own ≡ (board_held (disks ∷ []), []))
    (board_is : board ≡ (board_held own.0.board, [])) (joined_is : joined ≡ (both_views old.0 board.0, old.1)) where
  pub view_joined : joined.0 ≡ both_views old.0 (board_held (disks ∷ []))
  view_joined = rw (joined_is, board_is, own_is) refl

  pub board_joined : IsFree old → joined.0.board ≡ disks ∷ []
  board_joined free = rw (joined_is, board_is, own_is, free.1) refl

  pub may_joined : (f : NodeFacts N L M I) (key routers : ℕ) (g : Given N L M I) → key ≡ routers → MayTake f routers old.0 g → MayTake f key joined.0 g
  may_joined f key routers g same may =
      subst (λ (u : View N L M I). MayTake f key u g) (sym view_joined)
      (may_with_board f key old.0 (disks ∷ []) g (may_at f key routers same old.0 g may))

  -- the board goes back to where it was
  pub board_back : (off left back kept : Me ⊤ (View N L M I)) (g : Given N L M I) (number : ℕ) (next : Sights) → IsFree old → off ≡ (board_off own.0, own.1)
      → left ≡ (after_steps g number joined.0, joined.1) → back ≡ (board_held left.0.board, []) → kept ≡ (both_views off.0 back.0, off.1)
      → next ≡ slice_set disks g.at g.sight → kept ≡ (board_held (next ∷ []), [])
  board_back off left back kept g number next free off_is left_is back_is kept_is next_is =
      rw (kept_is, back_is, left_is, joined_is, board_is, off_is, own_is, next_is, free.1) refl
