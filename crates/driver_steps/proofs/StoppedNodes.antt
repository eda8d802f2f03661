-- A node that stops and is started again: of one node with its log.
use Rattle.std.proofs.Common.{◌≡◌, inl, inr, List, [], ◌++◌, IsTrue, sym, ap, subst, ◌∙◌, arith}
use Rattle.std.proofs.lemmas.Bool.{cases_lt}
use Rattle.std.specs.Option.{option_map}
use Rattle.std.specs.Prelude.{◌+◌, false, Err, IfErr, Ok, OnOk, Option, Result, Some, ℕ}
use Rattle.outside.specs.Logs.{LogFacts}
use Rattle.node_model.specs.Letters.{Input, Letter}
use Rattle.node_model.specs.Lacks.{is_last}
use Rattle.node_model.specs.States.{NodeState}
use Rattle.node_replay.specs.Durable.{DurableState}
use Rattle.node_traits.specs.Calls.{Appended, IsWhole, log_call}
use Rattle.node_traits.specs.Effects.{ByNotTaken, StepBroken, StepDone, spellings}
use Rattle.node_traits.specs.declared.outputs.NotTaken.{NotTaken}
use Rattle.node_traits.specs.declared.outputs.NotTaken.TheVariants.{Disk, Steps, Memory}
use Rattle.node_traits.specs.declared.outputs.ToLink.{ToLink}
use Rattle.node_traits.proofs.Calls.{left_alone}
use Rattle.driver_steps.specs.Restarts.{IsOpenedAs, IsReread, IsStartedAgain, IsStopped, IsStoppedAtDisk, StopsWith, stores_none, is_short, stores_step}
use Rattle.driver_steps.specs.declared.seat.Seat.{Seat}

module _ {L : Type 0} (facts : LogFacts L) where
  -- records were appended, or were to be, and then all were read again
  reread_whole : (old mid new : L) (more : List (List ℕ)) → IsWhole (log_call facts old mid) more → (IsTrue facts.tells → facts.records mid ≡ facts.records old ++ more)
      → IsReread facts mid new → IsWhole (log_call facts old new) more
  reread_whole old mid new more whole grown r told =
      let first = whole told in
      let second = r.left told in
      record {
        later = omega (arith, first.later, second.later);
        before = λ t file le left. first.before t file le (second.before t file (omega (arith, le, first.later)) left);
        each = λ t file past to left. elim (cases_lt (facts.moment mid) t) [
          | inl later ↦ inr (subst (λ (l : List (List ℕ)). facts.finds file l) (grown told) (second.each t file (omega (arith, later)) to left))
          | inr until ↦ first.each t file past until (second.before t file until left)
        ];
      }

  reread_call : (old mid new : L) (more : List (List ℕ)) → Appended (log_call facts old mid) more → IsReread facts mid new → Appended (log_call facts old new) more
  reread_call old mid new more a r = record {
    grown = λ told. r.same told ∙ a.grown told;
    whole = reread_whole old mid new more a.whole a.grown r;
  }

module _ {N L : Type 0} (state : N → NodeState) (steps : N → ℕ) (facts : LogFacts L) where
  found_again : (m t : L) → IsReread facts m t → IsTrue facts.tells → facts.holds t (facts.records t)
  found_again m t r told = subst (λ (l : List (List ℕ)). facts.holds t l) (sym (r.same told)) r.holds

  -- it stopped, and counts as many steps now as it had taken then
  abbrev pub Stopped : (i : Option Input) (s t : Seat N L) → Type 0
  Stopped i s t = (x : IsStopped state steps facts i s t) × (x.count ≡ steps t.node)

  -- it took a step, and its log was read again
  pub stopped_in_step : (i : Input) (mail : List Letter) (replies : List ToLink) (s m t : Seat N L) → is_last (steps s.node) (state s.node) i ≡ false
      → StepDone (state s.node) i mail replies (log_call facts s.log m.log) (state m.node) → steps m.node ≡ steps s.node + 1
      → IsReread facts m.log t.log → steps t.node ≡ steps m.node → Stopped (Some i) s t
  stopped_in_step i mail replies s m t goes d one r same = (
    record {
      more = d.effect.written;
      count = steps s.node + 1;
      how = stores_step i d.effect (state m.node) goes d.step;
      readable = d.readable;
      kept = reread_call facts s.log m.log t.log (spellings d.effect.written) d.kept r;
      holds = found_again m.log t.log r;
    },
    omega (arith, one, same),
  )

  -- it took none, and stored nothing
  stopped_so : (i : Option Input) (s m t : Seat N L) (count : ℕ) → StopsWith (state s.node) (steps s.node) i [] count → m.log ≡ s.log
      → count ≡ steps m.node → IsReread facts m.log t.log → steps t.node ≡ steps m.node → Stopped i s t
  stopped_so i s m t count how same as_many r counted = (
    record {
      more = [];
      count = count;
      how = how;
      readable = tt;
      kept = reread_call facts s.log m.log t.log [] (subst (λ (l : L). Appended (log_call facts s.log l) []) (sym same) (left_alone facts s.log)) r;
      holds = found_again m.log t.log r;
    },
    as_many ∙ sym counted,
  )

  pub stopped_alone : (i : Option Input) (s m t : Seat N L) → m.log ≡ s.log → steps m.node ≡ steps s.node → IsReread facts m.log t.log
      → steps t.node ≡ steps m.node → Stopped i s t
  stopped_alone i s m t same as_many r counted = stopped_so i s m t (steps s.node) (stores_none i) same (sym as_many) r counted

  -- it was out of memory for the step
  stopped_short : (i : Input) (s m t : Seat N L) → is_last (steps s.node) (state s.node) i ≡ false → m.log ≡ s.log → steps m.node ≡ steps s.node + 1
      → IsReread facts m.log t.log → steps t.node ≡ steps m.node → Stopped (Some i) s t
  stopped_short i s m t goes same one r counted = stopped_so (Some i) s m t (steps s.node + 1) (is_short i goes) same (sym one) r counted

  pub broken_in_step : (i : Input) (s t : Seat N L) → is_last (steps s.node) (state s.node) i ≡ false
      → StepBroken (state s.node) i (log_call facts s.log t.log) → IsStoppedAtDisk state steps facts (Some i) s t
  broken_in_step i s t goes b = record {
    more = b.effect.written;
    count = steps s.node + 1;
    how = stores_step i b.effect b.new goes b.step;
    readable = b.readable;
    left = λ told. b.left.left;
    whole = b.left.whole;
  }

  -- a disk failed while the log was read again
  at_disk : (i : Option Input) (s t : Seat N L) → IsStopped state steps facts i s t → IsStoppedAtDisk state steps facts i s t
  at_disk i s t x = record {
    more = x.more;
    count = x.count;
    how = x.how;
    readable = x.readable;
    left = λ told. inr (subst (λ (l : List (List ℕ)). facts.holds t.log l) (x.kept.grown told) (x.holds told));
    whole = x.kept.whole;
  }

  pub stopped_by : (fault : NotTaken) (i : Option Input) (s t : Seat N L) → IsStopped state steps facts i s t
      → ByNotTaken fault (λ faults. IsStoppedAtDisk state steps facts i s t) (IsStopped state steps facts i s t)
  stopped_by (Disk faults) i s t x = at_disk i s t x
  stopped_by Steps i s t x = x
  stopped_by Memory i s t x = x

  -- it was opened again on the records that its log has
  pub started_on : (empty : DurableState) (i : Option Input) (s m t : Seat N L) → Stopped i s t → IsReread facts m.log t.log
      → (IsTrue facts.tells → IsOpenedAs empty (facts.records m.log) (state t.node)) → IsStartedAgain state steps facts empty i s t
  started_on empty i s m t (x, counted) r opened = record {
    stopped = x;
    counted = counted;
    opened = λ told. subst (λ (l : List (List ℕ)). IsOpenedAs empty l (state t.node)) (sym (r.same told)) (opened told);
  }

  -- what the result of starting it again says, where it had stopped
  module _ {X : Type 0} (i : Option Input) (s now : Seat N L) (told : Result X NotTaken) where
    pub again_started : (empty : DurableState) (result : Result X NotTaken) (m t : Seat N L) → told ≡ result → now ≡ t → Stopped i s t
        → IsReread facts m.log t.log → OnOk result (IsTrue facts.tells → IsOpenedAs empty (facts.records m.log) (state t.node))
        → OnOk told (IsStartedAgain state steps facts empty i s now)
    again_started empty (Ok x) m t same at stopped r opened =
        subst (λ (n : Result X NotTaken). OnOk n (IsStartedAgain state steps facts empty i s now)) (sym same)
        (subst (λ (n : Seat N L). IsStartedAgain state steps facts empty i s n) (sym at) (started_on empty i s m t stopped r opened))
    again_started empty (Err fault) m t same at stopped r opened =
        subst (λ (n : Result X NotTaken). OnOk n (IsStartedAgain state steps facts empty i s now)) (sym same) tt

    abbrev Failed : Result X NotTaken → Seat N L → Type 0
    Failed result t = IfErr result (λ e. ByNotTaken e (λ faults. IsStoppedAtDisk state steps facts i s t) (IsStopped state steps facts i s t))

    failed_as : (result : Result X NotTaken) (t : Seat N L) → told ≡ result → now ≡ t → Failed result t → Failed told now
    failed_as result t same at failed =
        subst (λ (n : Result X NotTaken). Failed n now) (sym same) (subst (λ (n : Seat N L). Failed result n) (sym at) failed)

    pub again_failed : (result : Result X NotTaken) (t : Seat N L) → told ≡ result → now ≡ t → Stopped i s t → Failed told now
    again_failed (Ok x) t same at stopped = failed_as (Ok x) t same at tt
    again_failed (Err fault) t same at stopped = failed_as (Err fault) t same at (stopped_by fault i s t stopped.0)

    pub stopped_at_disk : (faults : ℕ) (t : Seat N L) → told ≡ Err (Disk faults) → now ≡ t → IsStoppedAtDisk state steps facts i s t → Failed told now
    stopped_at_disk faults t same at broken = failed_as (Err (Disk faults)) t same at broken

  -- the input was given to it
  module _ {I : Type 0} (meaning : I → Input) (input : Option I) (given : I) (is : input ≡ Some given) (s m t : Seat N L)
      (goes : is_last (steps s.node) (state s.node) (meaning given) ≡ false) where
    named : option_map (λ (j : I). meaning j) input ≡ Some (meaning given)
    named = ap (λ (o : Option I). option_map (λ (j : I). meaning j) o) is

    pub given_in_step : (mail : List Letter) (replies : List ToLink)
        → StepDone (state s.node) (meaning given) mail replies (log_call facts s.log m.log) (state m.node) → steps m.node ≡ steps s.node + 1
        → IsReread facts m.log t.log → steps t.node ≡ steps m.node → Stopped (option_map (λ (j : I). meaning j) input) s t
    given_in_step mail replies d one r same =
        subst (λ (o : Option Input). Stopped o s t) (sym named) (stopped_in_step (meaning given) mail replies s m t goes d one r same)

    pub given_short : m.log ≡ s.log → steps m.node ≡ steps s.node + 1 → IsReread facts m.log t.log → steps t.node ≡ steps m.node
        → Stopped (option_map (λ (j : I). meaning j) input) s t
    given_short unchanged one r same =
        subst (λ (o : Option Input). Stopped o s t) (sym named) (stopped_short (meaning given) s m t goes unchanged one r same)

    pub broken_by : StepBroken (state s.node) (meaning given) (log_call facts s.log t.log)
        → IsStoppedAtDisk state steps facts (option_map (λ (j : I). meaning j) input) s t
    broken_by b = subst (λ (o : Option Input). IsStoppedAtDisk state steps facts o s t) (sym named) (broken_in_step (meaning given) s t goes b)
