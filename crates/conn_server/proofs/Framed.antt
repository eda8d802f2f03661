-- What a framer returned, beside what was asked.
use Rattle.std.proofs.Common.{◌≡◌, ◌⊎◌, inl, inr, ℕ, ◌+◌, List, ◌++◌, length, Bool, sym, ap, ◌∙◌, subst}
use Rattle.std.specs.Prelude.{None, Some}
use Rattle.opmsg_model.specs.Outline as wire
use Rattle.opmsg_model.specs.Requests as requests
use Rattle.opmsg_frames.specs.FramerViews.{FramerView}
use Rattle.opmsg_frames.specs.Framers.{Given, Told}
use Rattle.opmsg_frames.specs.declared.request.Request.{Request}
use Rattle.outside.specs.declared.exchange.Exchange.{Exchange}
use Rattle.outside.specs.declared.exchange.LinkEnd.TheVariants.{NoFrame}
use Rattle.conn_server.specs.Talks.{IsRest, SpokeSome}

-- the request that was returned comes first, and the rest after it
pub one_split : (old new : FramerView) (request : Request) (meant : requests.Request) → Given old new request meant
    → (old.bytes ≡ request.bytes ++ new.bytes) × (new.offset ≡ old.offset + length request.bytes)
one_split old new request meant given =
    let same : meant.bytes ≡ request.bytes = given.meant_is.bytes in (
      given.first.split ∙ ap (λ (b : List ℕ). b ++ new.bytes) same,
      given.offset ∙ ap (λ (b : List ℕ). old.offset + length b) same,
    )

-- none was returned
pub same_framer : (tells : Bool) (a b : List ℕ) (s t : List Exchange) (offset : ℕ) (bytes : List ℕ) (old new : FramerView) → new ≡ old
    → SpokeSome tells a b s t offset bytes old.offset old.bytes → SpokeSome tells a b s t offset bytes new.offset new.bytes
same_framer tells a b s t offset bytes old new same some = subst (λ (f : FramerView). SpokeSome tells a b s t offset bytes f.offset f.bytes) (sym same) some

-- a fault that is returned for the first time is that of the bytes
pub rest_malformed : (old new : FramerView) (fault : wire.FrameFault) (place : ℕ) → old.fault ≡ None → Told old new fault place
    → IsRest (NoFrame place) old.offset old.bytes
rest_malformed old new fault place none told = (told.at, (fault, by_cause told.cause))
  where
    by_cause : (old.fault ≡ Some fault) ⊎ ((old.fault ≡ None) × (wire.outline old.bytes ≡ wire.faulty_outline fault))
        → wire.outline old.bytes ≡ wire.faulty_outline fault
    by_cause (inl before) = let clash : None ≡ Some fault = sym none ∙ before in cc
    by_cause (inr first) = first.1
