-- What a node gives out, in a step or where it takes none, is taken in.
use Rattle.std.proofs.Common.{◌≡◌, ◌⊎◌, inl, inr, ℕ, List, [], ◌++◌, map, refl, sym, ap, subst, ◌∙◌, append_assoc, append-nil}
use Rattle.std.proofs.lemmas.List.{map-append}
use Rattle.std.specs.Prelude.{Result, Ok, Err, OnOk, OnErr, IfErr}
use Rattle.node_model.specs.Letters.{Letter, Input}
use Rattle.node_model.specs.World.{World, Moves}
use Rattle.node_traits.specs.Effects.{ByNotTaken}
use Rattle.node_traits.specs.declared.outputs.NotTaken.{NotTaken}
use Rattle.node_traits.specs.declared.outputs.NotTaken.TheVariants.{Disk, Steps, Memory}
use Rattle.node_traits.specs.declared.outputs.ToLink.{ToLink}
use Rattle.driver_steps.specs.declared.network.Network.{Network}
use Rattle.driver_steps.specs.Seats.{Hosted, SeatView, AreCounted, AreHeld, LeaveKept, TellsFaults, UnlessDiskFailed}
use Rattle.driver_steps.specs.Worlds.{StandsFor, network_view, puts_given}
use Rattle.driver_steps.specs.Moves.{HasMissed, HasStepped, HasMoved, IsBroken, IsCutShort, MeetsOrNot}
use Rattle.driver_steps.proofs.Stepping.{puts_moved}

module _ {S M : Type 0} (view : S → SeatView) (letter : M → Letter) (hosts hosts_after : Hosted S) (handed : List ToLink) (w : World) (next at : ℕ)
    (i : Input) (old new : Network M) (stands : StandsFor view hosts (network_view letter old) handed w next) where
  sent_then : (mail : List M) (sent : List Letter) → sent ≡ w.sent ++ map letter mail → new.waiting.items ≡ old.waiting.items ++ mail
      → sent ≡ stands.past ++ map letter new.waiting.items
  sent_then mail sent more waits =
      more ∙ (ap (λ (l : List Letter). l ++ map letter mail) stands.sent
      ∙ (append_assoc stands.past (map letter old.waiting.items) (map letter mail)
      ∙ ap (λ (l : List Letter). stands.past ++ l) (sym (map-append letter old.waiting.items mail) ∙ sym (ap (λ (l : List M). map letter l) waits))))

  pub moved : (mail : List M) (replies : List ToLink) (h : HasStepped view hosts_after w at i (map letter mail) replies)
      → AreCounted view hosts_after.seats h.end.nodes
      → new.waiting.items ≡ old.waiting.items ++ mail → new.replies.items ≡ old.replies.items ++ replies
      → HasMoved view hosts_after (network_view letter new) handed w next at i
  moved mail replies h counted waits puts = record {
    end = h.end;
    meets = inl h.moves;
    stands = λ e event. record {
      nodes = h.nodes;
      counted = counted;
      crashes = h.crashes e event;
      past = stands.past;
      sent = sent_then mail h.end.sent h.sent waits;
      place = stands.place;
      given = h.given ∙ (ap (λ (l : List ToLink). l ++ replies) stands.given ∙ (append_assoc handed old.replies.items replies
          ∙ ap (λ (l : List ToLink). handed ++ l) (sym puts)));
    };
  }

  -- no step was taken
  pub told : (mail : List M) (replies : List ToLink) (h : HasMissed view hosts_after w at i (map letter mail)) → replies ≡ []
      → new.waiting.items ≡ old.waiting.items ++ mail → new.replies.items ≡ old.replies.items ++ replies
      → HasMoved view hosts_after (network_view letter new) handed w next at i
  told mail replies h none waits puts =
      let same : new.replies.items ≡ old.replies.items = puts ∙ (ap (λ (l : List ToLink). old.replies.items ++ l) none ∙ append-nil old.replies.items) in
      record {
        end = h.end;
        meets = inr h.misses;
        stands = λ e event. record {
          nodes = h.nodes;
          counted = h.counted;
          crashes = h.crashes e event;
          past = stands.past;
          sent = sent_then mail h.end.sent h.sent waits;
          place = stands.place;
          given = ap puts_given h.same ∙ (stands.given ∙ ap (λ (l : List ToLink). handed ++ l) (sym same));
        };
      }

  -- the replies that were given after what came to a node, or did not
  given_or_not : (end : World) → MeetsOrNot w at i end → (missing : List ToLink) × (puts_given end.answered ≡ (handed ++ old.replies.items) ++ missing)
  given_or_not end (inl same) = ([], ap (λ (x : World). puts_given x.answered) same ∙ (stands.given ∙ sym (append-nil (handed ++ old.replies.items))))
  given_or_not end (inr (inl m)) =
      let more = puts_moved w at i end m in
      (more.0, more.1 ∙ ap (λ (l : List ToLink). l ++ more.0) stands.given)
  given_or_not end (inr (inr m)) =
      ([], ap (λ (x : World). puts_given x.answered) m.then ∙ (stands.given ∙ sym (append-nil (handed ++ old.replies.items))))

  -- of a step at which a disk failed, the logs store what they store before it or after it
  step_or_not : (b : IsBroken view hosts_after w at i) → (b.end ≡ w) ⊎ (b.end ≡ b.last) → MeetsOrNot w at i b.end
  step_or_not b (inl before) = inl before
  step_or_not b (inr behind) = inr (inl (subst (λ (x : World). Moves w at i x) (sym behind) b.moves))

  one_more : (b : IsBroken view hosts_after w at i) → (b.end ≡ w) ⊎ (b.end ≡ b.last) → (b.last ≡ b.end) ⊎ ((b.end ≡ w) × Moves w at i b.last)
  one_more b (inl before) = inr (before, b.moves)
  one_more b (inr behind) = inl (sym behind)

  pub cut_short : (fault : NotTaken)
      → ByNotTaken fault (λ faults. IsBroken view hosts_after w at i) (AreHeld view hosts_after.seats w.nodes × LeaveKept view hosts_after w)
      → IsCutShort view hosts_after old.replies.items handed w at i fault
  cut_short (Disk faults) b =
      let more = given_or_not b.end (step_or_not b b.which) in
      record {
        end = b.end;
        meets = step_or_not b b.which;
        nodes = b.kept;
        last = b.last;
        up_to = one_more b b.which;
        crashes = b.crashes;
        missing = more.0;
        given = more.1;
      }
  cut_short Steps are =
      let more = given_or_not w (inl refl) in
      record {
        end = w;
        meets = inl refl;
        nodes = are.0;
        last = w;
        up_to = refl;
        crashes = λ e event. are.1;
        missing = more.0;
        given = more.1;
      }
  cut_short Memory are =
      let more = given_or_not w (inl refl) in
      record {
        end = w;
        meets = inl refl;
        nodes = are.0;
        last = w;
        up_to = refl;
        crashes = λ e event. are.1;
        missing = more.0;
        given = more.1;
      }

  -- a step was taken, and memory ran out for replies or messages
  pub found_no_room : (mail : List Letter) (replies kept : List ToLink) → HasStepped view hosts_after w at i mail replies
      → (missing : List ToLink) × (old.replies.items ++ replies ≡ kept ++ missing) → IsCutShort view hosts_after kept handed w at i Memory
  found_no_room mail replies kept h (missing, e) = record {
    end = h.end;
    meets = inr (inl h.moves);
    nodes = h.nodes;
    last = h.end;
    up_to = refl;
    crashes = h.crashes;
    missing = missing;
    given = h.given ∙ (ap (λ (l : List ToLink). l ++ replies) stands.given ∙ (append_assoc handed old.replies.items replies
        ∙ (ap (λ (l : List ToLink). handed ++ l) e ∙ sym (append_assoc handed kept missing))));
  }

  -- no step was taken, and memory ran out for its refusal
  pub told_no_room : (mail : List Letter) (replies kept : List ToLink) → HasMissed view hosts_after w at i mail → replies ≡ []
      → (missing : List ToLink) × (old.replies.items ++ replies ≡ kept ++ missing) → IsCutShort view hosts_after kept handed w at i Memory
  told_no_room mail replies kept h none (missing, e) =
      let same : old.replies.items ≡ kept ++ missing =
      sym (append-nil old.replies.items) ∙ (ap (λ (l : List ToLink). old.replies.items ++ l) (sym none) ∙ e) in
      record {
        end = h.end;
        meets = inr (inr h.misses);
        nodes = h.nodes;
        last = h.end;
        up_to = refl;
        crashes = h.crashes;
        missing = missing;
        given = ap puts_given h.same ∙ (stands.given ∙ (ap (λ (l : List ToLink). handed ++ l) same ∙ sym (append_assoc handed kept missing)));
      }

  -- what the result of queuing says
  module _ {X : Type 0} (result : Result X NotTaken) where
    pub queued : (mail : List M) (replies : List ToLink) (h : HasStepped view hosts_after w at i (map letter mail) replies)
        → AreCounted view hosts_after.seats h.end.nodes → OnOk result (new.waiting.items ≡ old.waiting.items ++ mail)
        → OnOk result (new.replies.items ≡ old.replies.items ++ replies)
        → OnOk result (HasMoved view hosts_after (network_view letter new) handed w next at i)
    queued mail replies h counted waits puts = by_result result waits puts
      where
        by_result : (r : Result X NotTaken) → OnOk r (new.waiting.items ≡ old.waiting.items ++ mail)
            → OnOk r (new.replies.items ≡ old.replies.items ++ replies)
            → OnOk r (HasMoved view hosts_after (network_view letter new) handed w next at i)
        by_result (Ok x) here there = moved mail replies h counted here there
        by_result (Err fault) here there = tt

    pub told_queued : (mail : List M) (replies : List ToLink) → HasMissed view hosts_after w at i (map letter mail) → replies ≡ []
        → OnOk result (new.waiting.items ≡ old.waiting.items ++ mail) → OnOk result (new.replies.items ≡ old.replies.items ++ replies)
        → OnOk result (HasMoved view hosts_after (network_view letter new) handed w next at i)
    told_queued mail replies h none waits puts = by_result result waits puts
      where
        by_result : (r : Result X NotTaken) → OnOk r (new.waiting.items ≡ old.waiting.items ++ mail)
            → OnOk r (new.replies.items ≡ old.replies.items ++ replies)
            → OnOk r (HasMoved view hosts_after (network_view letter new) handed w next at i)
        by_result (Ok x) here there = told mail replies h none here there
        by_result (Err fault) here there = tt

    pub queue_full : (mail : List Letter) (replies kept : List ToLink) → HasStepped view hosts_after w at i mail replies → IfErr result (λ e. e ≡ Memory)
        → OnErr result ((missing : List ToLink) × (old.replies.items ++ replies ≡ kept ++ missing))
        → IfErr result (λ e. IsCutShort view hosts_after kept handed w at i e)
    queue_full mail replies kept h cause missing = by_result result cause missing
      where
        by_result : (r : Result X NotTaken) → IfErr r (λ e. e ≡ Memory)
            → OnErr r ((missing : List ToLink) × (old.replies.items ++ replies ≡ kept ++ missing))
            → IfErr r (λ e. IsCutShort view hosts_after kept handed w at i e)
        by_result (Ok x) is lost = tt
        by_result (Err fault) is lost =
            subst (λ (f : NotTaken). IsCutShort view hosts_after kept handed w at i f) (sym is) (found_no_room mail replies kept h lost)

    pub told_full : (mail : List Letter) (replies kept : List ToLink) → HasMissed view hosts_after w at i mail → replies ≡ []
        → IfErr result (λ e. e ≡ Memory) → OnErr result ((missing : List ToLink) × (old.replies.items ++ replies ≡ kept ++ missing))
        → IfErr result (λ e. IsCutShort view hosts_after kept handed w at i e)
    told_full mail replies kept h none cause missing = by_result result cause missing
      where
        by_result : (r : Result X NotTaken) → IfErr r (λ e. e ≡ Memory)
            → OnErr r ((missing : List ToLink) × (old.replies.items ++ replies ≡ kept ++ missing))
            → IfErr r (λ e. IsCutShort view hosts_after kept handed w at i e)
        by_result (Ok x) is lost = tt
        by_result (Err fault) is lost =
            subst (λ (f : NotTaken). IsCutShort view hosts_after kept handed w at i f) (sym is) (told_no_room mail replies kept h none lost)

-- no disk failed where memory ran out
module _ {X : Type 0} where
  pub open_queued : (result : Result X NotTaken) (holds : Type 0) → holds → UnlessDiskFailed result holds
  open_queued (Ok x) holds are = are
  open_queued (Err (Disk faults)) holds are = tt
  open_queued (Err Steps) holds are = are
  open_queued (Err Memory) holds are = are

  pub faults_queued : (result : Result X NotTaken) (before after : List ℕ) → IfErr result (λ e. e ≡ Memory) → after ≡ before → TellsFaults result before after
  faults_queued (Ok x) before after cause same = same
  faults_queued (Err (Disk faults)) before after cause same = absurd (cc cause)
  faults_queued (Err Steps) before after cause same = same
  faults_queued (Err Memory) before after cause same = same
