-- Nodes that are opened one after another, each on the records of its journal.
use Rattle.std.proofs.Common.{◌≡◌, ◌∙◌, inl, inr, ℕ, suc, ◌+◌, List, [], ◌∷◌, ◌++◌, length, refl, sym, subst, append_assoc, append-nil, length-append, arith}
use Rattle.std.specs.List.{AllByRecursion}
use Rattle.journal_replay.specs.Replayed.{IsFault, IsRefused}
use Rattle.journal_replay.specs.declared.fault.OpenFault.{OpenFault}
use Rattle.journal_replay.specs.declared.fault.OpenFault.TheVariants.{Refused, Memory}
use Rattle.journal_starts.specs.Records.{AreOpened, IsOpened, SomeRefused, part_at}
use Rattle.node_model.specs.States.{NodeState}
use Rattle.node_open.specs.Faults.{IfRefused}

-- those that were opened, with the node after them
opened_next : (others first : ℕ) (gone : List (List (List ℕ))) (states : List NodeState) (records : List (List ℕ)) (state : NodeState)
    → AreOpened others first gone states → IsOpened (part_at others (first + length gone)) records state
    → AreOpened others first (gone ++ records ∷ []) (states ++ state ∷ [])
opened_next others first [] [] records state before next =
    let e : first + 0 ≡ first = omega arith in
    (subst (λ n. IsOpened (part_at others n) records state) e next, tt)
opened_next others first [] (s ∷ states) records state before next = absurd before
opened_next others first (r ∷ gone) [] records state before next = absurd before
opened_next others first (r ∷ gone) (s ∷ states) records state before next =
    let e : first + suc (length gone) ≡ first + 1 + length gone = omega arith in
    (before.0, opened_next others (first + 1) gone states records state before.1 (subst (λ n. IsOpened (part_at others n) records state) e next))

-- a record that is refused behind some nodes is one of all
refused_behind : (others first : ℕ) (gone left : List (List (List ℕ))) → SomeRefused others (first + length gone) left → SomeRefused others first (gone ++ left)
refused_behind others first [] left some =
    let e : first + 0 ≡ first = omega arith in
    subst (λ n. SomeRefused others n left) e some
refused_behind others first (r ∷ gone) left some =
    let e : first + suc (length gone) ≡ first + 1 + length gone = omega arith in
    inr (refused_behind others (first + 1) gone left (subst (λ n. SomeRefused others n left) e some))

-- the nodes before what is left are opened; `me` is the number of the next one
pub record OpenedUpTo (others : ℕ) (all left : List (List (List ℕ))) (me : ℕ) (states : List NodeState) : Type 0 where
  pub gone : List (List (List ℕ))
  pub whole : all ≡ gone ++ left
  pub count : me ≡ length gone
  pub opened : AreOpened others 0 gone states

pub up_to_start : (others : ℕ) (all : List (List (List ℕ))) → OpenedUpTo others all all 0 []
up_to_start others all = record { gone = []; whole = refl; count = refl; opened = tt }

pub up_to_next : (others : ℕ) (all left : List (List (List ℕ))) (me : ℕ) (states : List NodeState) (records : List (List ℕ)) (state : NodeState)
    → OpenedUpTo others all (records ∷ left) me states → IsOpened (part_at others me) records state → OpenedUpTo others all left (me + 1) (states ++ state ∷ [])
up_to_next others all left me states records state u is =
    let e : me ≡ 0 + length u.gone = omega (arith, u.count) in
    record {
      gone = u.gone ++ records ∷ [];
      whole = u.whole ∙ sym (append_assoc u.gone (records ∷ []) left);
      count = omega (arith, u.count, length-append u.gone (records ∷ []));
      opened = opened_next others 0 u.gone states records state u.opened (subst (λ n. IsOpened (part_at others n) records state) e is);
    }

pub up_to_end : (others : ℕ) (all left : List (List (List ℕ))) (me : ℕ) (states : List NodeState) → OpenedUpTo others all left me states → left ≡ []
    → AreOpened others 0 all states
up_to_end others all left me states u none =
    let e : u.gone ≡ all = sym (append-nil u.gone) ∙ sym (subst (λ l. all ≡ u.gone ++ l) none u.whole) in
    subst (λ l. AreOpened others 0 l states) e u.opened

-- a record of the next node that is refused is one of all
up_to_refused : (others : ℕ) (all left : List (List (List ℕ))) (me : ℕ) (states : List NodeState) (records : List (List ℕ)) (index : ℕ)
    → OpenedUpTo others all (records ∷ left) me states → IsRefused (part_at others me) records index → SomeRefused others 0 all
up_to_refused others all left me states records index u refused =
    let e : me ≡ 0 + length u.gone = omega (arith, u.count) in
    let here : SomeRefused others (0 + length u.gone) (records ∷ left) = inl (index, subst (λ n. IsRefused (part_at others n) records index) e refused) in
    subst (λ l. SomeRefused others 0 l) (sym u.whole) (refused_behind others 0 u.gone (records ∷ left) here)

-- a fault of the next node is one of all
pub up_to_fault : (others : ℕ) (all left : List (List (List ℕ))) (me : ℕ) (states : List NodeState) (records : List (List ℕ)) (fault : OpenFault)
    → OpenedUpTo others all (records ∷ left) me states → IsFault (part_at others me) records fault → IfRefused fault (SomeRefused others 0 all)
up_to_fault others all left me states records (Refused index) u refused = up_to_refused others all left me states records index u refused
up_to_fault others all left me states records Memory u refused = tt

pub none_left : (left : List (List (List ℕ))) → length left ≡ 0 → left ≡ []
none_left [] e = refl
none_left (r ∷ left) e = absurd (omega arith)

-- so is it of each, with one more
pub all_with : {X : Type 0} (P : X → Type 0) (all : List X) (x : X) → AllByRecursion P all → P x → AllByRecursion P (all ++ x ∷ [])
all_with P [] x are is = (is, tt)
all_with P (y ∷ all) x are is = (are.0, all_with P all x are.1 is)
