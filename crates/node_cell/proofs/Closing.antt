-- What all nodes are, once their passes are one.
use Rattle.std.proofs.Common.{◌≡◌, ℕ, ◌+◌, ◌<◌, ◌≤◌, ◌==◌, List, [], ◌∷◌, ◌++◌, map, length, Bool, true, false, sym, ap, ◌∙◌, subst}
use Rattle.std.proofs.Common.{arith, append_assoc, append-nil}
use Rattle.std.specs.Prelude.{⊤, Option, Some, None, MatchOption, if◌then◌else◌}
use Rattle.std.specs.List.{AllByRecursion}
use Rattle.std.proofs.lemmas.Bool.Decides.{nat_tests}
use Rattle.atomic_table.specs.Table.{Final, Seen}
use Rattle.node_model.specs.Letters.{Letter, Input, client_input, letter_input, moment_input, opened_input}
use Rattle.node_model.specs.World.{World, IsRouter}
use Rattle.node_traits.specs.Effects.{spellings}
use Rattle.driver_steps.specs.declared.seat.Seat.{Seat}
use Rattle.driver_steps.specs.Crashes.{Since, leaves_kept}
use Rattle.outside.specs.Logs.{LogFacts}
use Rattle.driver_steps.specs.OneSeat.{NamesFault, StandsAt}
use Rattle.driver_steps.proofs.Seats.{held_len}
use Rattle.driver_steps.proofs.Stepping.{same_stands}
use Rattle.history_model.proofs.Lists.{all_weaken}
use Rattle.group_steps.specs.Groups.{Part}
use Rattle.group_steps.specs.Parts.{Among}
use Rattle.node_cell.specs.declared.view.Halt.{Halt}
use Rattle.node_cell.specs.declared.view.Halt.TheVariants.{Disk, Memory}
use Rattle.node_cell.specs.declared.view.Placed.{Placed}
use Rattle.node_cell.specs.declared.view.View.{View}
use Rattle.node_cell.specs.Courses.{IsCalm, IsCalmAt, NodeFacts, Goes, Holds, Saw, WasSafe, WasSent, WasTaken, WasTold, places_at, view_by, with_marks}
use Rattle.node_cell.specs.Standing.{AllSit, AreAmong, AreFrom, AreRun, Ends, EndsHalted, HasFailed, IsAsKnown, IsHalted, IsKept, IsKnown, IsPart, Sits, StaysAt}
use Rattle.node_cell.specs.Views.{both_views, holder}
use Rattle.node_cell.proofs.Lists.{all_at, all_map, all_of_part, are_among_front, are_among_map, are_among_self, sits}
use Rattle.node_cell.proofs.Routers.{run_stays}
use Rattle.node_cell.proofs.Steps.{moves_run}

-- WHAT WAS SEEN

pub part_self : {N L M I : Type 0} (v : View N L M I) → IsPart v v
part_self v = record { seen = are_among_self v.seen; told = are_among_self v.told; taken = are_among_self v.taken; safe = are_among_self v.safe }

pub part_front : {N L M I : Type 0} (u v w : View N L M I) → IsPart u v → IsPart u (both_views v w)
part_front u v w p = record {
  seen = are_among_front u.seen v.seen w.seen p.seen;
  told = are_among_front u.told v.told w.told p.told;
  taken = are_among_front u.taken v.taken w.taken p.taken;
  safe = are_among_front u.safe v.safe w.safe p.safe;
}

pub part_behind : {N L M I : Type 0} (v w : View N L M I) → IsPart w (both_views v w)
part_behind v w = record { seen = sits v.seen w.seen; told = sits v.told w.told; taken = sits v.taken w.taken; safe = sits v.safe w.safe }

-- of these notes all but those that are left were joined
pub record Joined {N L M I : Type 0} (all left : List (View N L M I)) (v : View N L M I) : Type 0 where
  pub joined : List (View N L M I)
  pub which : all ≡ left ++ joined
  pub parts : AllByRecursion (λ n. IsPart n v) joined

pub joined_none : {N L M I : Type 0} (all : List (View N L M I)) (v : View N L M I) → Joined all all v
joined_none all v = record { joined = []; which = sym (append-nil all); parts = tt }

pub joined_more : {N L M I : Type 0} (all left rest : List (View N L M I)) (v note w : View N L M I) → Joined all left v → left ≡ rest ++ note ∷ []
    → w ≡ both_views v note → Joined all rest w
joined_more {N} {L} {M} {I} all left rest v note w j last is =
    subst (λ (x : View N L M I). Joined all rest x) (sym is)
    (record {
      joined = note ∷ j.joined;
      which = j.which ∙ (ap (λ (l : List (View N L M I)). l ++ j.joined) last ∙ append_assoc rest (note ∷ []) j.joined);
      parts = (part_behind v note, all_weaken (λ n. IsPart n v) (λ n. IsPart n (both_views v note)) j.joined (λ n p. part_front n v note p) j.parts);
    })

pub joined_all : {N L M I : Type 0} (all left : List (View N L M I)) (v : View N L M I) → Joined all left v → left ≡ []
    → AllByRecursion (λ n. IsPart n v) all
joined_all {N} {L} {M} {I} all left v j none =
    subst (λ (l : List (View N L M I)). AllByRecursion (λ n. IsPart n v) l) (sym (j.which ∙ ap (λ (l : List (View N L M I)). l ++ j.joined) none)) j.parts

pub known_on : (routers : ℕ) (seen more : List Letter) (at : ℕ) (i : Input) → AreAmong seen more → IsKnown routers seen at i → IsKnown routers more at i
known_on routers seen more at (client_input link number request) part known = known
known_on routers seen more at (letter_input m) part known =
    (known.0, all_at (λ x. Among x more) seen known.1.0 m known.1.1 part)
known_on routers seen more at (moment_input moment) part known = tt
known_on routers seen more at opened_input part known = tt

still_failed : {L : Type 0} (facts : LogFacts L) (faults : ℕ) (first old log : L) → IsCalm facts first old → HasFailed facts faults old log
    → HasFailed facts faults first log
still_failed facts faults first old log calm h = record {
  place = h.place ∙ calm.place;
  rose = subst (λ (n : ℕ). NamesFault faults n (facts.fault_count log)) calm.faults h.rose;
}

module _ {N L M I : Type 0} (f : NodeFacts N L M I) (routers : ℕ) where
  pub kept_on : (seen more : List Letter) (old : Seat N L) (p : Placed N L) → AreAmong seen more → IsKept f routers seen old p → IsKept f routers more old p
  kept_on seen more old p part is = by_halt p.halt is
    where
      by_halt : (halt : Option Halt) → MatchOption halt (IsAsKnown f old p.seat) (λ h. IsHalted f routers p.at seen h old p.seat)
          → MatchOption halt (IsAsKnown f old p.seat) (λ h. IsHalted f routers p.at more h old p.seat)
      by_halt None is = is
      by_halt (Some (Disk faults)) h = record {
        parts = h.parts;
        known = all_weaken (λ (x : Part). IsKnown routers seen p.at x.input) (λ (x : Part). IsKnown routers more p.at x.input) h.parts
            (λ x known. known_on routers seen more p.at x.input part known) h.known;
        failed = h.failed;
        breaks = h.breaks;
      }
      by_halt (Some Memory) h = h

  pub sit_on : (seen more : List Letter) (k : ℕ) (held : List (ℕ × Seat N L)) (ended : List (Placed N L)) → AreAmong seen more
      → AllSit f routers seen k held ended → AllSit f routers more k held ended
  sit_on seen more k [] [] part all = tt
  sit_on seen more k [] (p ∷ ended) part all = absurd all
  sit_on seen more k (h ∷ held) [] part all = absurd all
  sit_on seen more k (h ∷ held) (p ∷ ended) part all = (
    record { number_is = all.0.number_is; place = all.0.place; is = kept_on seen more h.1 p part all.0.is },
    sit_on seen more (k + 1) held ended part all.1,
  )

  pub sit_more : (seen : List Letter) (k : ℕ) (held : List (ℕ × Seat N L)) (ended : List (Placed N L)) (h : ℕ × Seat N L) (p : Placed N L)
      → AllSit f routers seen k held ended → h.0 ≡ k + length ended → p.at ≡ k + length ended → IsKept f routers seen h.1 p
      → AllSit f routers seen k (held ++ h ∷ []) (ended ++ p ∷ [])
  sit_more seen k [] [] h p all number place is = (record { number_is = omega (arith, number); place = omega (arith, place); is = is }, tt)
  sit_more seen k [] (q ∷ ended) h p all number place is = absurd all
  sit_more seen k (g ∷ held) [] h p all number place is = absurd all
  sit_more seen k (g ∷ held) (q ∷ ended) h p all number place is =
      (all.0, sit_more seen (k + 1) held ended h p all.1 (omega (arith, number)) (omega (arith, place)) is)

  pub sit_from : (seen : List Letter) (k : ℕ) (held : List (ℕ × Seat N L)) (ended : List (Placed N L)) → AllSit f routers seen k held ended → AreFrom k ended
  sit_from seen k [] [] all = tt
  sit_from seen k [] (p ∷ ended) all = absurd all
  sit_from seen k (h ∷ held) [] all = absurd all
  sit_from seen k (h ∷ held) (p ∷ ended) all = (all.0.place, sit_from seen (k + 1) held ended all.1)

  -- one more node with its pass
  pub sit_joined : (v own : View N L M I) (ended : List (Placed N L)) (p : Placed N L) → AllSit f routers (map f.letter v.seen) 0 v.held ended
      → Sits f routers p own → p.at ≡ length ended
      → AllSit f routers (map f.letter (both_views v own).seen) 0 (both_views v own).held (ended ++ p ∷ [])
  sit_joined v own ended p all sits_here place =
      let both = both_views v own in
      let front : AreAmong (map f.letter v.seen) (map f.letter both.seen) = are_among_map f.letter v.seen both.seen (part_front v v own (part_self v)).seen in
      let behind : AreAmong (map f.letter own.seen) (map f.letter both.seen) = are_among_map f.letter own.seen both.seen (part_behind v own).seen in
      subst (λ (l : List (ℕ × Seat N L)). AllSit f routers (map f.letter both.seen) 0 (v.held ++ l) (ended ++ p ∷ [])) (sym sits_here.held)
      (sit_more (map f.letter both.seen) 0 v.held ended (p.at, sits_here.old) p (sit_on (map f.letter v.seen) (map f.letter both.seen) 0 v.held ended front all)
      (omega (arith, place)) (omega (arith, place)) (kept_on (map f.letter own.seen) (map f.letter both.seen) sits_here.old p behind sits_here.is))

  -- THE END

  node_ends : (since : Since L) (w : World) (seen : List Letter) → AllByRecursion (λ m. WasSent w m) seen → (old : Seat N L) (p : Placed N L)
      → (routers ≤ p.at → IsRouter w.nodes p.at) → IsKept f routers seen old p → StandsAt (view_by f since old) w p.at
      → IsCalmAt f.facts since.logs p.at old.log → Ends f since w p
  node_ends since w seen sent old p router is here calm = by_halt p.halt is
    where
      by_halt : (halt : Option Halt) → MatchOption halt (IsAsKnown f old p.seat) (λ h. IsHalted f routers p.at seen h old p.seat)
          → MatchOption halt (StaysAt f since w p.at p.seat) (λ h. EndsHalted f since w p.at h p.seat)
      by_halt None known = record {
        stands = same_stands f.state f.steps f.facts since w p.at old p.seat (omega (arith, known.steps)) (sym known.state, sym known.log) here;
        calm = subst (λ (l : L). IsCalmAt f.facts since.logs p.at l) known.log calm;
        is_open = known.is_open;
      }
      by_halt (Some (Disk faults)) h =
          let breaks = h.breaks since w here in
          let more = moves_run routers p.at w h.parts breaks.last seen breaks.moves sent router h.known in
          record {
            first = calm.first;
            here = calm.here;
            failed = still_failed f.facts faults calm.first old.log p.seat.log calm.calm h.failed;
            parts = h.parts;
            breaks = breaks;
            events = more.0;
            run = more.1;
          }
      by_halt (Some Memory) h = record {
        held = here.held;
        here = here.here;
        keeps = record {
          readable = here.is.keeps.readable;
          found = λ tells. subst (λ (l : L). f.facts.holds l (spellings here.held.kept)) (sym h.0) (here.is.keeps.found tells);
        };
        leaves = subst (λ (l : L). leaves_kept f.facts since l p.at w) (sym h.0) here.leaves;
        calm = subst (λ (l : L). IsCalmAt f.facts since.logs p.at l) (sym h.0) calm;
        is_open = h.1;
      }

  all_end : (since : Since L) (w : World) (seen : List Letter) → AllByRecursion (λ m. WasSent w m) seen → (k : ℕ) (held : List (ℕ × Seat N L))
      (ended : List (Placed N L)) → ((at : ℕ) (s : Seat N L) → k ≤ at → holder at held ≡ Some s → StandsAt (view_by f since s) w at × IsCalmAt f.facts since.logs at s.log)
      → ((at : ℕ) → at < k + length ended → routers ≤ at → IsRouter w.nodes at) → AllSit f routers seen k held ended
      → AllByRecursion (λ p. Ends f since w p) ended
  all_end since w seen sent k [] [] look router all = tt
  all_end since w seen sent k [] (p ∷ ended) look router all = absurd all
  all_end since w seen sent k (h ∷ held) [] look router all = absurd all
  all_end since w seen sent k (h ∷ held) (p ∷ ended) look router all =
      let number = all.0.number_is in
      let place = all.0.place in
      let here : (h.0 == p.at) ≡ true = grind (arith, nat_tests, number, place) in
      let both = look p.at h.1 (omega (arith, place)) (ap (λ (c : Bool). if c then Some h.1 else holder p.at held) here) in (
        node_ends since w seen sent h.1 p (λ far. router p.at (omega (arith, place)) far) all.0.is both.0 both.1,
        all_end since w seen sent (k + 1) held ended
            (λ at s far got.
            let no : (h.0 == at) ≡ false = grind (arith, nat_tests, number, far) in
            look at s (omega (arith, far)) (ap (λ (c : Bool). if c then Some h.1 else holder at held) no ∙ got))
            (λ at below far. router at (omega (arith, below)) far) all.1,
      )

  -- from the state that the table ends with
  pub run_ends : (start : List (Seat N L)) (v : View N L M I) (ended : List (Placed N L)) (notes : List (View N L M I)) (words : List ℕ) (slots : List ⊤)
      (id : ℕ) → AllSit f routers (map f.letter v.seen) 0 v.held ended → length ended ≡ length start → AllByRecursion (λ n. IsPart n v) notes
      → Final (Seen (Holds f routers start) id v) words slots → AreRun f routers start ended notes
  run_ends start v ended notes words slots id all many parts final since first opened =
      let h : Goes f since first (length start) final.0 = final.1.0 since first opened in
      let mine = h.fits id v final.1.1 in
      let c = h.course in
      let long : length start ≡ length first.nodes = held_len (view_by f since) start first.nodes opened.nodes in
      record {
        events = c.events;
        world = c.world;
        run = h.is.run;
        none_missed = h.is.none_missed;
        marks = c.marks;
        marked = h.is.marked;
        nodes = all_end (with_marks since c.marks) c.world (map f.letter v.seen) (all_map f.letter (λ m. WasSent c.world m) v.seen mine.saw.seen) 0 v.held ended
            (λ at s far got. ((mine.held at s got).stands, (mine.held at s got).calm))
            (λ at below far. run_stays first c.events c.world at h.is.run (opened.are_routers at far (omega (arith, below, many, long)))) all;
        noted = all_weaken (λ n. IsPart n v) (λ n. Saw f (places_at f.facts since) first.now c.events c.marks c.world n)
            notes (λ n part. record {
              seen = all_of_part (λ m. WasSent c.world (f.letter m)) n.seen v.seen part.seen mine.saw.seen;
              told = all_of_part (λ r. WasTold first.now c.world r) n.told v.told part.told mine.saw.told;
              taken = all_of_part (λ t. WasTaken f.meaning c.events c.world t) n.taken v.taken part.taken mine.saw.taken;
              safe = all_of_part (λ s. WasSafe (places_at f.facts since) first.now c.marks s) n.safe v.safe part.safe mine.saw.safe;
            }) parts;
      }

-- the table ends with this number of the first router
pub final_at : {N L M I : Type 0} (f : NodeFacts N L M I) (key routers : ℕ) → key ≡ routers → (start : List (Seat N L)) (id : ℕ) (v : View N L M I)
    (words : List ℕ) (slots : List ⊤) → Final (Seen (Holds f key start) id v) words slots
    → (ends : List ℕ) × (empty : List ⊤) × Final (Seen (Holds f routers start) id v) ends empty
final_at f key routers same start id v words slots final =
    (words, slots, subst (λ (r : ℕ). Final (Seen (Holds f r start) id v) words slots) same final)
