-- What was said on a link, and what was seen of it (own).
use Rattle.std.specs.Prelude.{◌≡◌, ◌⊎◌, ◌≤◌, ℕ, ℤ, ◌+◌, List, [], ◌∷◌, ◌++◌, length, Bool, IsTrue, true, false, MatchOption, Option, Some, None}
use Rattle.std.specs.List.{flat_map}
use Rattle.std.specs.Option.{unwrap_or}
use Rattle.opmsg_model.specs.Outline.{FrameFault, outline, partial_outline, faulty_outline}
use Rattle.opmsg_model.specs.Requests.{Request, IsRequest}
use Rattle.opmsg_frames.specs.RequestMeanings.{IsMeant}
use Rattle.opmsg_frames.specs.declared.request.Request as frames
use Rattle.outside.specs.Notes.{Note}
use Rattle.outside.specs.Streams.{Put}
use Rattle.outside.specs.declared.exchange.Exchange.{Exchange}
use Rattle.outside.specs.declared.exchange.LinkEnd.{LinkEnd}
use Rattle.outside.specs.declared.exchange.LinkEnd.TheVariants.{AtEnd, NoFrame, ReadFault, WriteFault, Long, Lost}
use Rattle.pipe_driver.specs.Pieces.{PutInPart}
use Rattle.node_model.specs.Letters.{Input, client_input}
use Rattle.node_model.specs.World.{World, Event}
use Rattle.node_traits.specs.declared.outputs.ToLink.{ToLink}
use Rattle.node_cell.specs.declared.view.Safe.{Safe}
use Rattle.node_cell.specs.declared.view.Taken.{Taken}
use Rattle.node_cell.specs.declared.view.View.{View}
use Rattle.node_cell.specs.Board.{notes_at}
use Rattle.node_cell.specs.Courses.{WasTaken, WasTold}
use Rattle.group_steps.specs.Parts.{Among}
use Rattle.node_cell.specs.Standing.{AreAmong, step_of}
use Rattle.node_cell.specs.Views.{Sights, safe_from}

-- WHAT A NOTE HAS SEEN

-- the requests of a link with their replies, of which so many have room, the number that the next step of the link has at least, and a note
pub record TalkView (N L M I : Type 0) : Type 0 where
  pub link : ℕ
  pub said : List Exchange
  pub next : ℕ
  pub room : ℕ
  pub note : View N L M I

-- A step on an input with a request of a link: a message of the wire protocol, of these bytes.
pub record IsAsking {I : Type 0} (meaning : I → Input) (link : ℕ) (bytes : List ℕ) (input : I) : Type 0 where
  pub number : ℤ
  pub request : Request
  pub asks : meaning input ≡ client_input link number request
  pub reads : IsRequest request
  pub bytes_are : request.bytes ≡ bytes

-- a message of the wire protocol was read as this request
abbrev pub IsRead : frames.Request → Type 0
IsRead request = (meant : Request) × IsMeant request meant × IsRequest meant

-- the step with a number took the request with these bytes
pub record IsAsked {I : Type 0} (meaning : I → Input) (taken : List (Taken I)) (link came : ℕ) (bytes : List ℕ) : Type 0 where
  pub at : ℕ
  pub input : I
  pub is : IsAsking meaning link bytes input
  pub here : Among (step_of came at input) taken

abbrev pub reply_on : (link : ℕ) → List ℕ → ToLink
reply_on link bytes = record { link = link; bytes = bytes }

-- The reply was returned by the step with its number. Where there is none, that number is the one of the step that took the request.
abbrev pub IsReplied : (told : List (ℕ × ToLink)) → (link came step : ℕ) → Option (List ℕ) → Type 0
IsReplied told link came step reply = MatchOption reply (step ≡ came) (λ bytes. Among (step, reply_on link bytes) told)

-- a note has seen the steps that took the request and returned its reply
pub record IsNoted {N L M I : Type 0} (meaning : I → Input) (link : ℕ) (note : View N L M I) (e : Exchange) : Type 0 where
  pub asked : IsAsked meaning note.taken link e.came e.request
  pub replied : IsReplied note.told link e.came e.step e.reply

abbrev pub exchange_of : (came step : ℕ) → (request : List ℕ) → (reply : Option (List ℕ)) → Exchange
exchange_of came step request reply = record { came = came; step = step; request = request; reply = reply }

-- In a run from a world: the request was taken in the step with its number, and the reply was returned in the step with its own.
pub record WasExchanged {I : Type 0} (meaning : I → Input) (first : ℕ) (events : List Event) (w : World) (link : ℕ) (e : Exchange) : Type 0 where
  pub at : ℕ
  pub input : I
  pub is : IsAsking meaning link e.request input
  pub taken : WasTaken meaning events w (step_of e.came at input)
  pub replied : MatchOption e.reply (e.step ≡ e.came) (λ bytes. WasTold first w (e.step, reply_on link bytes))

-- THE ORDER OF REQUESTS

-- the requests were taken one after another, in steps below a number
abbrev pub AreRising : (from below : ℕ) → List Exchange → Type 0
AreRising from below [] = from ≤ below
AreRising from below (e ∷ said) = (from ≤ e.came) × AreRising (e.came + 1) below said

-- a number above that of a step, or above none
abbrev pub above : Option ℕ → ℕ
above None = 0
above (Some last) = last + 1

-- WHICH REQUESTS WERE ASKED, AND WHICH HAVE REPLIES

-- the bytes of requests, one after another
abbrev pub bytes_of : List Request → List ℕ
bytes_of requests = flat_map (λ (r : Request). r.bytes) requests

-- A request with moreToCome has no reply, and each other one has one (MongoDB manual, "Wire Protocol", flag bits); where the link was lost, the last may have
-- none.
abbrev pub HasReply : (lost : Type 0) → (more : Bool) → (later : List Exchange) → Option (List ℕ) → Type 0
HasReply lost more later reply = MatchOption reply ((more ≡ true) ⊎ (lost × (later ≡ []))) (λ bytes. more ≡ false)

-- these requests were asked, in order, and have their replies
abbrev pub AreAsWanted : (lost : Type 0) → List Request → List Exchange → Type 0
AreAsWanted lost [] [] = Unit {0}
AreAsWanted lost (r ∷ requests) (e ∷ said) = (e.request ≡ r.bytes) × IsRequest r × HasReply lost r.more said e.reply × AreAsWanted lost requests said
AreAsWanted lost requests said = ⊥

-- WHAT WAS WRITTEN TO THE LINK

-- the bytes of the replies
abbrev pub replies_of : List Exchange → List ℕ
replies_of [] = []
replies_of (e ∷ said) = unwrap_or e.reply [] ++ replies_of said

-- WHAT IS NOTED BEFORE A REPLY IS WRITTEN

-- The disks of all nodes were noted on a link when it held so many bytes, and a note has seen that the reply is safe from these moments on.
pub record IsShown (tells : Bool) (notes : List Note) (before : ℕ) (safe : List Safe) (reply : ℕ × ToLink) : Type 0 where
  pub disks : Sights
  pub here : Among (safe_from disks reply) safe
  pub noted : IsTrue tells → AreAmong (notes_at before disks) notes

-- so it is of each reply, of which the first begins after so many bytes
abbrev pub AreShown : (tells : Bool) → List Note → (before : ℕ) → List Safe → (link : ℕ) → List Exchange → Type 0
AreShown tells notes before safe link [] = Unit {0}
AreShown tells notes before safe link (e ∷ said) =
    MatchOption e.reply (Unit {0}) (λ bytes. IsShown tells notes before safe (e.step, reply_on link bytes))
    × AreShown tells notes (before + length (unwrap_or e.reply [])) safe link said

-- and the link holds these replies after so many bytes
pub record HasShown (tells : Bool) (held : List ℕ) (notes : List Note) (before : ℕ) (safe : List Safe) (link : ℕ) (said : List Exchange) : Type 0 where
  pub at : IsTrue tells → length held ≡ before + length (replies_of said)
  pub shown : AreShown tells notes before safe link said

-- From one moment to another the requests in these bytes were asked, and their replies were put to the link. `lost` says whether the last may have no reply.
pub record Spoke (lost : Type 0) (puts : List ℕ → Type 0) (said : List Exchange) (said_after : List Exchange) (bytes : List ℕ) : Type 0 where
  pub requests : List Request
  pub more : List Exchange
  pub bytes_are : bytes ≡ bytes_of requests
  pub wanted : AreAsWanted lost requests more
  pub all : said_after ≡ said ++ more
  pub put : puts (replies_of more)

-- all that was to be put was put
abbrev pub PutWhole : Bool → (held held_after : List ℕ) → List ℕ → Type 0
PutWhole tells held held_after bytes = Put tells held bytes held_after

-- of what was to be put only a first part was
abbrev pub PutPart : Bool → (held held_after : List ℕ) → List ℕ → Type 0
PutPart tells held held_after bytes = PutInPart tells held bytes held_after

-- by why the link ended
abbrev pub SpokeUntil : LinkEnd → Bool → (held held_after : List ℕ) → (said said_after : List Exchange) → (bytes : List ℕ) → Type 0
SpokeUntil WriteFault tells held held_after said said_after bytes = Spoke ⊥ (PutPart tells held held_after) said said_after bytes
SpokeUntil Lost tells held held_after said said_after bytes = Spoke (Unit {0}) (PutWhole tells held held_after) said said_after bytes
SpokeUntil AtEnd tells held held_after said said_after bytes = Spoke ⊥ (PutWhole tells held held_after) said said_after bytes
SpokeUntil (NoFrame place) tells held held_after said said_after bytes = Spoke ⊥ (PutWhole tells held held_after) said said_after bytes
SpokeUntil ReadFault tells held held_after said said_after bytes = Spoke ⊥ (PutWhole tells held held_after) said said_after bytes
SpokeUntil Long tells held held_after said said_after bytes = Spoke ⊥ (PutWhole tells held held_after) said said_after bytes

-- What comes after the requests, from an offset on, by why the link ended: an incomplete message, or bytes that begin none; after a fault or a loss any bytes.
abbrev pub IsRest : LinkEnd → (offset : ℕ) → List ℕ → Type 0
IsRest AtEnd offset rest = outline rest ≡ partial_outline
IsRest ReadFault offset rest = outline rest ≡ partial_outline
IsRest Long offset rest = outline rest ≡ partial_outline
IsRest (NoFrame place) offset rest = (place ≡ offset) × ((fault : FrameFault) × (outline rest ≡ faulty_outline fault))
IsRest WriteFault offset rest = Unit {0}
IsRest Lost offset rest = Unit {0}

-- a link ended, after the requests in the first of these bytes, from an offset on
pub record SpokeToEnd (end : LinkEnd) (tells : Bool) (held held_after : List ℕ) (said said_after : List Exchange) (offset : ℕ) (bytes : List ℕ) : Type 0 where
  pub asked : List ℕ
  pub rest : List ℕ
  pub all_bytes : bytes ≡ asked ++ rest
  pub rest_is : IsRest end (offset + length asked) rest
  pub spoke : SpokeUntil end tells held held_after said said_after asked

-- The requests in the first of these bytes were asked, which begin at an offset, and the rest begins at another.
pub record SpokeSome (tells : Bool) (held held_after : List ℕ) (said said_after : List Exchange) (offset : ℕ) (bytes : List ℕ) (place : ℕ) (rest : List ℕ)
    : Type 0 where
  pub asked : List ℕ
  pub all_bytes : bytes ≡ asked ++ rest
  pub moved : place ≡ offset + length asked
  pub spoke : Spoke ⊥ (PutWhole tells held held_after) said said_after asked

-- a link that ended, with what was said on it
pub record HeardView (N L M I S : Type 0) : Type 0 where
  pub opened : S
  pub link : S
  pub end : LinkEnd
  pub talk : TalkView N L M I
