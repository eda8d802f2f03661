-- What a framer returns and keeps, beside the bytes that were taken.
use Rattle.std.specs.Prelude.{◌⊎◌, Option, Some, None, Ok, Err}
use Rattle.std.proofs.Common.{◌≡◌, ℕ, ◌+◌, inl, inr, List, ◌++◌, length, sym, ap, ◌∙◌, subst, append_assoc, length-append}
use Rattle.opmsg_frames.specs.Requests.{Request}
use Rattle.opmsg_frames.specs.Frames.{IsFirst}
use Rattle.opmsg_frames.specs.Outline.{FrameFault, outline, partial_outline, faulty_outline}
use Rattle.opmsg_frames.specs.FramerViews.{FramerView}
use Rattle.opmsg_frames.specs.Framers.{Given, IsNext, Told}
use Rattle.opmsg_frames.specs.Outlines.{fault_view}
use Rattle.opmsg_frames.specs.declared.fault.FrameFault as declared
use Rattle.opmsg_frames.specs.declared.fault.FrameFault.TheVariants.{Malformed, Memory}
use Rattle.opmsg_frames.specs.declared.fault.Malformed as faults
use Rattle.opmsg_frames.specs.declared.request.Request as frames
use Rattle.pipe_driver.specs.Stops.{IsMalformed}

-- one request was given, of all bytes
pub one_given : (all more before after : List ℕ) (m : Request) → all ≡ more ++ before → IsFirst before m after → all ≡ (more ++ m.bytes) ++ after
one_given all more before after m whole first = whole ∙ ap (λ (b : List ℕ). more ++ b) first.split ∙ sym (append_assoc more m.bytes after)

-- how many bytes are left then
pub left_behind : (before after : List ℕ) (m : Request) → IsFirst before m after → length before ≡ length m.bytes + length after
left_behind before after m first = ap (λ (b : List ℕ). length b) first.split ∙ length-append m.bytes after

-- nothing was given
pub none_given : (all more : List ℕ) (old new : FramerView) → all ≡ more ++ old.bytes → new.bytes ≡ old.bytes → all ≡ more ++ new.bytes
none_given all more old new whole same = whole ∙ ap (λ (b : List ℕ). more ++ b) (sym same)

pub same_bytes : (old new : FramerView) → new ≡ old → new.bytes ≡ old.bytes
same_bytes old new same = ap (λ (f : FramerView). f.bytes) same

pub still_partial : (old new : FramerView) → new ≡ old → outline old.bytes ≡ partial_outline → outline new.bytes ≡ partial_outline
still_partial old new same partial = ap (λ (b : List ℕ). outline b) (same_bytes old new same) ∙ partial

-- a fault that is reported for the first time is at the beginning of the bytes
pub told_malformed : (old new : FramerView) (fault : FrameFault) (place : ℕ) → old.fault ≡ None → Told old new fault place → IsMalformed new.bytes
told_malformed old new fault place none told = by_cause told.cause
  where
    by_cause : (old.fault ≡ Some fault) ⊎ ((old.fault ≡ None) × (outline old.bytes ≡ faulty_outline fault)) → IsMalformed new.bytes
    by_cause (inl before) = let clash : None ≡ Some fault = sym none ∙ before in cc
    by_cause (inr first) = (fault, ap (λ (b : List ℕ). outline b) told.bytes ∙ first.1)

-- what a call for the next request answered, by its answer
pub next_given : (old new : FramerView) (answer : Option frames.Request) (request : frames.Request) → answer ≡ Some request → IsNext old new (Ok answer)
    → (meant : Request) × Given old new request meant
next_given old new answer request is next = (subst (λ (a : Option frames.Request). IsNext old new (Ok a)) is next).1

pub next_none : (old new : FramerView) (answer : Option frames.Request) → answer ≡ None → IsNext old new (Ok answer)
    → (outline old.bytes ≡ partial_outline) × (new ≡ old)
next_none old new answer is next = let told = subst (λ (a : Option frames.Request). IsNext old new (Ok a)) is next in (told.1, told.2)

pub next_malformed : (old new : FramerView) (answer : declared.FrameFault) (fault : faults.Malformed) (place : ℕ) → answer ≡ Malformed fault place
    → IsNext old new (Err answer) → Told old new (fault_view fault) place
next_malformed old new answer fault place is next = subst (λ (a : declared.FrameFault). IsNext old new (Err a)) is next

pub next_memory : (old new : FramerView) (answer : declared.FrameFault) → answer ≡ Memory → IsNext old new (Err answer) → new ≡ old
next_memory old new answer is next = (subst (λ (a : declared.FrameFault). IsNext old new (Err a)) is next).1

-- all bytes that are fed, where there was room for them
pub all_fed : (before reserved fed piece bytes : List ℕ) → reserved ≡ before → fed ≡ reserved ++ piece → piece ≡ bytes → fed ≡ before ++ bytes
all_fed before reserved fed piece bytes same takes is = takes ∙ ap (λ (b : List ℕ). b ++ piece) same ∙ ap (λ (b : List ℕ). before ++ b) is
