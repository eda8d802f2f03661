-- Conversations with a framer: the bytes of a connection are fed to it in any pieces, and the next request is requested any number of times between them.
use Rattle.std.specs.Prelude.{◌≡◌, ℕ, List, [], ◌∷◌, ◌++◌, Option, Some, None, Result, Ok, Err}
use Rattle.std.specs.List.{flat_map, AllByRecursion}
use Rattle.opmsg_model.specs.Requests as wire
use Rattle.opmsg_frames.specs.declared.fault.FrameFault.{FrameFault}
use Rattle.opmsg_frames.specs.declared.fault.FrameFault.TheVariants.{Malformed}
use Rattle.opmsg_frames.specs.declared.fault.Malformed as faults
use Rattle.opmsg_frames.specs.declared.request.Request.{Request}
use Rattle.opmsg_frames.specs.Framers.{IsNext}
use Rattle.opmsg_frames.specs.FramerViews.{FramerView}
use Rattle.opmsg_frames.specs.RequestMeanings.{IsMeant}

pub data Step : Type 0 where
  -- this piece was taken
  took : List ℕ → Step
  -- a piece was not taken, because memory ran out
  refused : Step
  -- what a call for the next request returned
  answered : Result (Option Request) FrameFault → Step

-- what each step does to a framer
abbrev pub IsStep : FramerView → Step → FramerView → Type 0
IsStep old (took piece) new = (new.bytes ≡ old.bytes ++ piece) × (new.offset ≡ old.offset) × (new.fault ≡ old.fault)
IsStep old refused new = (new.bytes ≡ old.bytes) × (new.offset ≡ old.offset) × (new.fault ≡ old.fault)
IsStep old (answered answer) new = IsNext old new answer

abbrev pub IsConversation : FramerView → List Step → FramerView → Type 0
IsConversation old [] new = new ≡ old
IsConversation old (step ∷ steps) new = (between : FramerView) × IsStep old step between × IsConversation between steps new

-- a framer to which no bytes were fed
abbrev pub new_framer : FramerView
new_framer = record { bytes = []; offset = 0; fault = None; room = 0 }

abbrev pub piece_of : Step → List ℕ
piece_of (took piece) = piece
piece_of step = []

-- all bytes that were fed
abbrev pub fed : List Step → List ℕ
fed steps = flat_map piece_of steps

abbrev pub request_of : Step → List Request
request_of (answered (Ok (Some request))) = request ∷ []
request_of step = []

-- the requests that were returned, in order
abbrev pub given : List Step → List Request
given steps = flat_map request_of steps

-- these are, one by one, requests of the definitions
abbrev pub AreMeant : List Request → List wire.Request → Type 0
AreMeant [] meants = meants ≡ []
AreMeant (request ∷ requests) meants =
    (meant : wire.Request) × (others : List wire.Request) × (meants ≡ meant ∷ others) × IsMeant request meant × AreMeant requests others

-- each call for the next request among these steps returns this fault at this offset
abbrev pub IsToldAgain : faults.Malformed → ℕ → Step → Type 0
IsToldAgain fault offset (answered answer) = answer ≡ Err (Malformed fault offset)
IsToldAgain fault offset step = Unit {0}

abbrev pub OnlyTell : faults.Malformed → ℕ → List Step → Type 0
OnlyTell fault offset steps = AllByRecursion (λ step. IsToldAgain fault offset step) steps
