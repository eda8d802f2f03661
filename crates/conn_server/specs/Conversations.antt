-- What was said on several links, and that one run took it (own).
use Rattle.std.specs.Prelude.{◌≡◌, ℕ, ◌+◌, ◌≤◌, List, [], ◌∷◌, length, Bool, IsTrue, true, false, ◌||◌, MatchOption, Option, Some, None}
use Rattle.std.specs.List.{AllByRecursion}
use Rattle.std.specs.Option.{unwrap_or}
use Rattle.outside.specs.Notes.{Note}
use Rattle.outside.specs.Streams.{Took}
use Rattle.outside.specs.declared.exchange.Exchange.{Exchange}
use Rattle.outside.specs.declared.exchange.LinkEnd.{LinkEnd}
use Rattle.outside.specs.declared.exchange.LinkEnd.TheVariants.{AtEnd}
use Rattle.outside.specs.declared.exchange.Spoken.{Spoken}
use Rattle.node_model.specs.Letters.{Input}
use Rattle.node_model.specs.World.{World, Event, Run}
use Rattle.driver_steps.specs.declared.seat.Seat.{Seat}
use Rattle.driver_steps.specs.Crashes.{Noted, Since}
use Rattle.node_traits.specs.declared.outputs.ToLink.{ToLink}
use Rattle.node_cell.specs.Board.{notes_at}
use Rattle.node_cell.specs.Views.{Sights, safe_from}
use Rattle.node_cell.specs.declared.view.Halt.{Halt}
use Rattle.node_cell.specs.declared.view.Halt.TheVariants.{Disk, Memory}
use Rattle.node_cell.specs.declared.view.Placed.{Placed}
use Rattle.node_cell.specs.declared.view.View.{View}
use Rattle.node_cell.specs.Courses.{IsOnWay, NodeFacts, OpenedAs, WasSafe, places_at, with_marks}
use Rattle.node_cell.specs.Standing.{AreAmong, Ends}
use Rattle.conn_server.specs.Talks.{AreRising, AreShown, IsNoted, SpokeToEnd, WasExchanged, reply_on}

-- what links show: whether the bytes that come from them are observable, and those that are still to come; whether those that are written to them are, and
-- these; the disks that were noted on them; and whether a link was closed
pub record LinkFacts (S : Type 0) : Type 0 where
  pub gives : Bool
  pub left : S → List ℕ
  pub tells : Bool
  pub held : S → List ℕ
  pub noted : S → List Note
  pub closed : S → Bool

abbrev pub link_facts : {S : Type 0} → Bool → (S → List ℕ) → Bool → (S → List ℕ) → (S → List Note) → (S → Bool) → LinkFacts S
link_facts gives left tells held noted closed = record { gives = gives; left = left; tells = tells; held = held; noted = noted; closed = closed }

-- From one state of a link to another bytes were taken from it, and the requests in these were asked, one after another, as many as the end says; their
-- replies were written to the link, after what it held.
pub record WasTalked {S : Type 0} (bytes : LinkFacts S) (end : LinkEnd) (opened link : S) (said : List Exchange) : Type 0 where
  pub read : List ℕ
  pub took : Took bytes.gives (bytes.left opened) read (bytes.left link)
  pub to_end : end ≡ AtEnd → IsTrue bytes.gives → bytes.left link ≡ []
  pub spoke : SpokeToEnd end bytes.tells (bytes.held opened) (bytes.held link) [] said 0 read

-- so it was from the opening of the link to its end, and then it was closed
pub record WasHeard {S : Type 0} (bytes : LinkFacts S) (s : Spoken S) : Type 0 where
  pub talked : WasTalked bytes s.end s.opened.value s.link s.said.items
  pub closed : IsTrue (bytes.closed s.link)

-- the requests of the link were taken one after another
abbrev pub InTurn : List Exchange → Type 0
InTurn said = (below : ℕ) × AreRising 0 below said

-- a note has seen that each reply is safe from moments on at which the disks of all nodes were noted on the link, before the reply was written
abbrev pub WasShown : {N L M I S : Type 0} → LinkFacts S → (link : ℕ) → Spoken S → View N L M I → Type 0
WasShown bytes link s v = AreShown bytes.tells (bytes.noted s.link) (length (bytes.held s.opened.value)) v.safe link s.said.items

-- the link has a number that is not below one, and a note has seen what was said on it
pub record IsHeard {N L M I S : Type 0} (meaning : I → Input) (bytes : LinkFacts S) (from : ℕ) (s : Spoken S) (v : View N L M I) : Type 0 where
  pub link : ℕ
  pub far : from ≤ link
  pub noted : AllByRecursion (λ e. IsNoted meaning link v e) s.said.items
  pub in_turn : InTurn s.said.items
  pub heard : WasHeard bytes s
  pub shown : WasShown bytes link s v

-- Links in the order of their numbers, of which no two are the same, each with a note of what was said on it; and the number that is next.
abbrev pub AreHeard : {N L M I S : Type 0} → (meaning : I → Input) → LinkFacts S → (from next : ℕ) → List (Spoken S) → List (View N L M I) → Type 0
AreHeard meaning bytes from next [] [] = from ≤ next
AreHeard meaning bytes from next (s ∷ spoken) (v ∷ notes) =
    (h : IsHeard meaning bytes from s v) × AreHeard meaning bytes (h.link + 1) next spoken notes
AreHeard meaning bytes from next spoken notes = ⊥

-- The disks of all nodes, which are at these places, were noted on a link when it held so many bytes, as one of the worlds was marked in which the reply had
-- been returned.
pub record IsMarked (tells : Bool) (notes : List Note) (before : ℕ) (places : List (List ℕ)) (first : ℕ) (marks : List Noted) (reply : ℕ × ToLink)
    : Type 0 where
  pub disks : Sights
  pub safe : WasSafe places first marks (safe_from disks reply)
  pub noted : IsTrue tells → AreAmong (notes_at before disks) notes

-- so it is of each reply, of which the first begins after so many bytes
abbrev pub AreMarked : (tells : Bool) → List Note → (before : ℕ) → (places : List (List ℕ)) → (first : ℕ) → List Noted → (link : ℕ) → List Exchange → Type 0
AreMarked tells notes before places first marks link [] = Unit {0}
AreMarked tells notes before places first marks link (e ∷ said) =
    MatchOption e.reply (Unit {0}) (λ bytes. IsMarked tells notes before places first marks (e.step, reply_on link bytes))
    × AreMarked tells notes (before + length (unwrap_or e.reply [])) places first marks link said

-- A run took the requests that were read from the link, in their order, and returned the replies, which were written to it, each after the disks of all nodes,
-- which are at these places, were noted in a world on the way.
pub record WasServed {I S : Type 0} (meaning : I → Input) (bytes : LinkFacts S) (places : List (List ℕ)) (first : ℕ) (events : List Event)
    (marks : List Noted) (w : World) (from : ℕ) (s : Spoken S) : Type 0 where
  pub link : ℕ
  pub far : from ≤ link
  pub exchanged : AllByRecursion (λ e. WasExchanged meaning first events w link e) s.said.items
  pub in_turn : InTurn s.said.items
  pub heard : WasHeard bytes s
  pub marked : AreMarked bytes.tells (bytes.noted s.link) (length (bytes.held s.opened.value)) places first marks link s.said.items

-- so it is on these links, in the order of their numbers, of which no two are the same
abbrev pub WereServed : {I S : Type 0} → (meaning : I → Input) → LinkFacts S → (places : List (List ℕ)) → (first : ℕ) → List Event → List Noted → World
    → (from : ℕ) → List (Spoken S) → Type 0
WereServed meaning bytes places first events marks w from [] = Unit {0}
WereServed meaning bytes places first events marks w from (s ∷ spoken) =
    (h : WasServed meaning bytes places first events marks w from s) × WereServed meaning bytes places first events marks w (h.link + 1) spoken

-- From a world whose nodes they were at the start there is one run, in which no step was missed, to a world in which these are the nodes, with their logs, also
-- as for crashes since worlds on the way that were marked; it took what was said on the links.
pub record Served {N L M I S : Type 0} (f : NodeFacts N L M I) (bytes : LinkFacts S) (since : Since L) (first : World)
    (ended : List (Placed N L)) (links : List (Spoken S)) : Type 0 where
  pub events : List Event
  pub world : World
  pub run : Run first events world
  pub none_missed : world.missed ≡ first.missed
  pub marks : List Noted
  pub on_way : AllByRecursion (λ n. IsOnWay first world n) marks
  pub nodes : AllByRecursion (λ p. Ends f (with_marks since marks) world p) ended
  pub links_are : WereServed f.meaning bytes (places_at f.facts since) first.now events marks world 0 links

abbrev pub AreServed : {N L M I S : Type 0} → NodeFacts N L M I → LinkFacts S → (routers : ℕ) → List (Seat N L) → List (Placed N L) → List (Spoken S) → Type 0
AreServed {N} {L} f bytes routers seats ended links =
    (since : Since L) (first : World) → OpenedAs f since routers seats first → Served f bytes since first ended links

-- a disk failed, if a node takes no more steps by this
abbrev pub is_by_disk : Option Halt → Bool
is_by_disk None = false
is_by_disk (Some Memory) = false
is_by_disk (Some (Disk faults)) = true

-- the disk of one of these nodes failed
abbrev pub has_failed : {N L : Type 0} → Placed N L → Bool
has_failed p = is_by_disk p.halt

abbrev pub some_failed : {N L : Type 0} → List (Placed N L) → Bool
some_failed [] = false
some_failed (p ∷ nodes) = has_failed p || some_failed nodes
