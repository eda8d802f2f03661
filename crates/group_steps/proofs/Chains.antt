-- Steps that are taken one after another, in memory and in a world.
use Rattle.std.proofs.Common.{◌≡◌, inl, inr, ℕ, ◌+◌, ◌≤◌, List, [], ◌∷◌, ◌++◌, length, false, IsTrue, refl, sym, ap, subst, ◌∙◌, append-nil, append_assoc, arith}
use Rattle.std.proofs.Common.{length-append}
use Rattle.std.specs.Prelude.{Some}
use Rattle.std.specs.List.{slice_get}
use Rattle.outside.specs.Logs.{LogFacts, WithOrWithout}
use Rattle.node_model.specs.Journal.{Kept}
use Rattle.node_model.specs.Letters.{Effect}
use Rattle.node_model.specs.Lacks.{is_last}
use Rattle.node_model.specs.States.{NodeState}
use Rattle.node_model.specs.Steps.{Step}
use Rattle.node_model.specs.World.{Held, World, Moves, after, is_given, tick}
use Rattle.node_model.proofs.Journals.{journal_got}
use Rattle.node_traits.specs.Calls.{Appended, LeftOff, LogCall, log_call}
use Rattle.node_traits.specs.Effects.{AreReadable, ByNotTaken, StepDone, puts_of, spellings}
use Rattle.node_traits.specs.declared.outputs.NotTaken.{NotTaken}
use Rattle.node_traits.specs.declared.outputs.NotTaken.TheVariants.{Disk, Steps, Memory}
use Rattle.driver_steps.specs.declared.seat.Seat.{Seat}
use Rattle.driver_steps.specs.Crashes.{Since, LeadsTo, leaves_kept}
use Rattle.driver_steps.specs.OneSeat.{StandsAt}
use Rattle.driver_steps.specs.Seats.{SeatView, seat_since}
use Rattle.driver_steps.proofs.Counts.{goes_with_fewer}
use Rattle.driver_steps.proofs.Crashes.{leaves_on, leaves_step, spellings_append}
use Rattle.driver_steps.proofs.Seats.{get_set}
use Rattle.driver_steps.proofs.Stepping.{readable_append}
use Rattle.group_steps.specs.Collected.{Collects}
use Rattle.group_steps.specs.Groups.{BreaksAll, Leads, leads_nowhere, leads_on, MovesAll, moves_none, moves_on, Part, TakesAll}

-- IN MEMORY

-- one step more
leads_then : (s t u : NodeState) (n now : ℕ) (p : Part) (parts : List Part) (f : Effect) (written : List Kept) → Leads s n parts written t
    → n + length parts ≤ now → is_last now t p.input ≡ false → Step t p.input f u → f.mail ≡ p.mail → p.replies ≡ puts_of f.replies → AreReadable f.written
    → Leads s n (parts ++ p ∷ []) (written ++ f.written) u
leads_then _ _ u _ now p _ f _ (leads_nowhere s n) within goes step sent told readable =
    subst (λ (l : List Kept). Leads s n (p ∷ []) l u) (append-nil f.written)
    (leads_on s u u n p [] f [] (goes_with_fewer n now s p.input (omega (arith, within)) goes) step sent told readable (leads_nowhere u (n + 1)))
leads_then _ _ u _ now p _ f _ (leads_on s r t n q parts g written before first mail replies are more) within goes step sent told readable =
    subst (λ (l : List Kept). Leads s n (q ∷ (parts ++ p ∷ [])) l u) (sym (append_assoc g.written written f.written))
    (leads_on s r u n q (parts ++ p ∷ []) g (written ++ f.written) before first mail replies are
    (leads_then r t u (n + 1) now p parts f written more (omega (arith, within)) goes step sent told readable))

leads_readable : (s t : NodeState) (n : ℕ) (parts : List Part) (written : List Kept) → Leads s n parts written t → AreReadable written
leads_readable _ _ _ _ _ (leads_nowhere s n) = tt
leads_readable _ _ _ _ _ (leads_on s r t n q parts g written before first mail replies are more) =
    readable_append g.written written are (leads_readable r t (n + 1) parts written more)

-- no step was taken yet
pub collects_none : (s : NodeState) (n : ℕ) (records : List (List ℕ)) → records ≡ [] → Collects s n [] records s n
collects_none s n records none = record { written = []; leads = leads_nowhere s n; counted = omega arith; spelled = none }

-- and one was not, which may count
pub collects_still : (s t : NodeState) (n before now : ℕ) (parts : List Part) (records : List (List ℕ)) → Collects s n parts records t before → before ≤ now
    → Collects s n parts records t now
collects_still s t n before now parts records c no_fewer =
    record { written = c.written; leads = c.leads; counted = omega (arith, c.counted, no_fewer); spelled = c.spelled }

-- a step was taken, whose records were appended to the others
pub collects_then : (s t u : NodeState) (n before now : ℕ) (parts : List Part) (p : Part) (call : LogCall) → IsTrue call.tells
    → Collects s n parts call.before t before → is_last before t p.input ≡ false → now ≡ before + 1 → StepDone t p.input p.mail p.replies call u
    → Collects s n (parts ++ p ∷ []) call.after u now
collects_then s t u n before now parts p call tells c goes one d =
    let count : length (parts ++ p ∷ []) ≡ length parts + 1 = length-append parts (p ∷ []) in
    record {
      written = c.written ++ d.effect.written;
      leads = leads_then s t u n before p parts d.effect c.written c.leads c.counted goes d.step d.sent d.told d.readable;
      counted = omega (arith, count, one, c.counted);
      spelled = d.kept.grown tells ∙ (ap (λ (l : List (List ℕ)). l ++ spellings d.effect.written) c.spelled
          ∙ sym (spellings_append c.written d.effect.written));
    }

-- IN A WORLD

-- the node at a place took these steps, and is this one after them
record Reached (at : ℕ) (w : World) (parts : List Part) (h : Held) : Type 0 where
  end : World
  moves : MovesAll at w parts end
  here : slice_get end.nodes at ≡ Some h

same_held : (old : Held) (s : NodeState) → old.state ≡ s → old ≡ record { state = s; kept = old.kept ++ []; steps = old.steps + 0 }
same_held old s same =
    let none : old.steps ≡ old.steps + 0 = omega arith in
    ap (λ (x : NodeState). record { state = x; kept = old.kept; steps = old.steps }) same
    ∙ (ap (λ (k : List Kept). record { state = s; kept = k; steps = old.steps }) (sym (append-nil old.kept))
    ∙ ap (λ (n : ℕ). record { state = s; kept = old.kept ++ []; steps = n }) none)

reach : (at : ℕ) (w : World) (s u : NodeState) (n : ℕ) (parts : List Part) (written : List Kept) (old : Held) → slice_get w.nodes at ≡ Some old → old.state ≡ s
    → old.steps ≤ n → Leads s n parts written u
    → Reached at w parts (record { state = u; kept = old.kept ++ written; steps = old.steps + length parts })
reach at w _ _ _ _ _ old here same counted (leads_nowhere s n) =
    record { end = w; moves = moves_none w; here = here ∙ ap (λ (h : Held). Some h) (same_held old s same) }
reach at w _ _ _ _ _ old here same counted (leads_on s t u n p parts f written goes step sent told readable more) =
    let mid : Held = record { state = t; kept = old.kept ++ f.written; steps = old.steps + 1 } in
    let v : World = tick (after (is_given w at p.input) at old f t) in
    let m : Moves w at p.input v = record {
      old = old;
      f = f;
      new = t;
      here = here;
      goes = goes_with_fewer old.steps n old.state p.input counted (subst (λ (x : NodeState). is_last n x p.input ≡ false) (sym same) goes);
      step = subst (λ (x : NodeState). Step x p.input f t) (sym same) step;
      then = refl;
    } in
    let r : Reached at v parts (record { state = u; kept = (old.kept ++ f.written) ++ written; steps = (old.steps + 1) + length parts }) =
    reach at v t u (n + 1) parts written mid (get_set w.nodes at old mid here) refl (omega (arith, counted)) more in
    let count : (old.steps + 1) + length parts ≡ old.steps + length (p ∷ parts) = omega arith in
    subst (λ (c : ℕ). Reached at w (p ∷ parts) (record { state = u; kept = old.kept ++ (f.written ++ written); steps = c })) count
    (subst (λ (k : List Kept). Reached at w (p ∷ parts) (record { state = u; kept = k; steps = (old.steps + 1) + length parts }))
    (append_assoc old.kept f.written written)
    (record { end = r.end; moves = moves_on w v r.end p parts m sent told r.moves; here = r.here }))

-- the records of the steps are appended
module _ {N L : Type 0} (state : N → NodeState) (steps : N → ℕ) (facts : LogFacts L) (since : Since L) (w : World) (at : ℕ) (s t : Seat N L) (parts : List Part)
    (records : List (List ℕ)) (stands : StandsAt (seat_since state steps facts since s) w at)
    (c : Collects (state s.node) (steps s.node) parts records (state t.node) (steps t.node)) where
  abbrev now : Held
  now = record { state = state t.node; kept = stands.held.kept ++ c.written; steps = stands.held.steps + length parts }

  abbrev view : SeatView
  view = seat_since state steps facts since t

  reached : Reached at w parts now
  reached =
      reach at w (state s.node) (state t.node) (steps s.node) parts c.written stands.held stands.here stands.is.same stands.is.counted c.leads

  are_readable : AreReadable now.kept
  are_readable =
      readable_append stands.held.kept c.written stands.is.keeps.readable (leads_readable (state s.node) (state t.node) (steps s.node) parts c.written c.leads)

  -- what the journal stores after all of them
  all_stored : IsTrue facts.tells → facts.records s.log ++ spellings c.written ≡ spellings now.kept
  all_stored told =
      ap (λ (l : List (List ℕ)). l ++ spellings c.written) (stands.is.written told) ∙ sym (spellings_append stands.held.kept c.written)

  module _ (end : World) (here : slice_get end.nodes at ≡ Some now) where
    leaves_all : (IsTrue facts.tells → (log_call facts s.log t.log).leaves_then
        (λ file. WithOrWithout (facts.finds file) (facts.records s.log) (spellings c.written))) → LeadsTo w end → view.leaves at end
    leaves_all whole on =
        leaves_step facts since s.log t.log at w end stands.held.kept c.written stands.leaves whole on stands.is.written
        (journal_got w.nodes at stands.held stands.here) (journal_got end.nodes at now here)

  pub takes_all : Appended (log_call facts s.log t.log) records
      → (facts.holds s.log (facts.records s.log) → facts.holds t.log (facts.records t.log)) → TakesAll view w at parts
  takes_all appended kept =
      let more : Appended (log_call facts s.log t.log) (spellings c.written) =
      subst (λ (l : List (List ℕ)). Appended (log_call facts s.log t.log) l) c.spelled appended in
      let written : (IsTrue facts.tells → facts.records t.log ≡ spellings now.kept) = λ told. more.grown told ∙ all_stored told in
      record {
        end = reached.end;
        moves = reached.moves;
        held = now;
        here = reached.here;
        is = record {
          same = refl;
          counted = omega (arith, stands.is.counted, c.counted);
          written = written;
          keeps = record {
            readable = are_readable;
            found = λ told. subst (λ (l : List (List ℕ)). facts.holds t.log l) (written told)
                (kept (subst (λ (l : List (List ℕ)). facts.holds s.log l) (sym (stands.is.written told)) (stands.is.keeps.found told)));
          };
        };
        crashes = leaves_all reached.end reached.here more.whole;
      }

  -- they are all stored, or none is
  left_all : (left : LeftOff (log_call facts s.log t.log) (spellings c.written)) → WithOrWithout (facts.holds t.log) (facts.records s.log) (spellings c.written)
      → BreaksAll view w at parts
  left_all left (inl none) = record {
    end = w;
    last = reached.end;
    which = inl refl;
    moves = reached.moves;
    held = stands.held;
    here = stands.here;
    keeps = record {
      readable = stands.is.keeps.readable;
      found = λ told. subst (λ (l : List (List ℕ)). facts.holds t.log l) (stands.is.written told) none;
    };
    crashes = leaves_all reached.end reached.here left.whole;
  }
  left_all left (inr all) = record {
    end = reached.end;
    last = reached.end;
    which = inr refl;
    moves = reached.moves;
    held = now;
    here = reached.here;
    keeps = record {
      readable = are_readable;
      found = λ told. subst (λ (l : List (List ℕ)). facts.holds t.log l) (all_stored told) all;
    };
    crashes = leaves_all reached.end reached.here left.whole;
  }

  -- the log is unchanged
  none_left : t.log ≡ s.log → BreaksAll view w at parts
  none_left same = record {
    end = w;
    last = reached.end;
    which = inl refl;
    moves = reached.moves;
    held = stands.held;
    here = stands.here;
    keeps = record {
      readable = stands.is.keeps.readable;
      found = λ told. subst (λ (l : L). facts.holds l (spellings stands.held.kept)) (sym same) (stands.is.keeps.found told);
    };
    crashes = λ on. subst (λ (l : L). leaves_kept facts since l at reached.end) (sym same) (leaves_on facts since s.log at w reached.end stands.leaves on);
  }

  pub breaks_all : (fault : NotTaken) → ByNotTaken fault (λ faults. LeftOff (log_call facts s.log t.log) records) (t.log ≡ s.log)
      → BreaksAll view w at parts
  breaks_all (Disk faults) left =
      let more : LeftOff (log_call facts s.log t.log) (spellings c.written) =
      subst (λ (l : List (List ℕ)). LeftOff (log_call facts s.log t.log) l) c.spelled left in
      left_all more more.left
  breaks_all Steps same = none_left same
  breaks_all Memory same = none_left same
