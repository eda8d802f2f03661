-- What a script has beside the nodes: where their routers begin, the open links of these, and which messages were delivered (own).
use Rattle.std.specs.Prelude.{◌≡◌, ℕ, zero, suc, ◌+◌, ◌-◌, ◌==◌, ◌&&◌, not, List, [], ◌∷◌, ◌++◌, map, Option, Some, None, Bool, true, false, if◌then◌else◌}
use Rattle.std.specs.List.{flat_map, slice_get, slice_set}
use Rattle.std.specs.Str.{bytes_eq}
use Rattle.node_model.specs.Letters.{Letter}
use Rattle.node_traits.specs.Kinds.{kind_of}
use Rattle.node_traits.specs.declared.outputs.ToLink.{ToLink}
use Rattle.script_lines.specs.Output.{closed_line, reply_line}
use Rattle.sim_driver.specs.Links.{LinkView, new_link, next_link}
use Rattle.sim_driver.specs.declared.script.Script.{Script}

-- `first_router` is the place of router 0 among the nodes; `links` are those of the routers, one of each, in order; so many links were `opened` or are next,
-- which is the number of the one after these; `delivered` says of the messages, in order of sending, whether they were delivered: those past its end were not
pub record ScriptView : Type 0 where
  pub first_router : ℕ
  pub links : List LinkView
  pub opened : ℕ
  pub delivered : List Bool

abbrev pub script_view : Script → ScriptView
script_view s = record { first_router = s.first_router; links = s.links.items; opened = s.opened; delivered = s.delivered }

-- LINKS

-- so many new links, with numbers from this one on
abbrev pub links_from : (first count : ℕ) → List LinkView
links_from first zero = []
links_from first (suc count) = new_link first ∷ links_from (first + 1) count

-- before the first line
abbrev pub new_script : (first_router routers : ℕ) → ScriptView
new_script first_router routers = record { first_router = first_router; links = links_from 0 routers; opened = routers; delivered = [] }

-- the router's link is this one
abbrev pub with_link : ScriptView → (router : ℕ) → LinkView → ScriptView
with_link s router link = record { first_router = s.first_router; links = slice_set s.links router link; opened = s.opened; delivered = s.delivered }

-- the router's link was closed: its next one, which is not open, has the next number
abbrev pub with_closed : ScriptView → (router : ℕ) → ScriptView
with_closed s router = record {
  first_router = s.first_router;
  links = slice_set s.links router (next_link s.opened);
  opened = s.opened + 1;
  delivered = s.delivered;
}

-- The node at a place was started again: if it is a router whose link is open, that link was closed.
pub data ClosesLink (s : ScriptView) (node : ℕ) : ScriptView → (closed : Option ℕ) → Type 0 where
  closes_open : (router : ℕ) (link : LinkView) → node ≡ s.first_router + router → slice_get s.links router ≡ Some link → link.is_open ≡ true
      → ClosesLink s node (with_closed s router) (Some router)
  closes_none : ((router : ℕ) (link : LinkView) → node ≡ s.first_router + router → slice_get s.links router ≡ Some link → link.is_open ≡ false)
      → ClosesLink s node s None

-- MESSAGES

abbrev pub with_delivered : ScriptView → List Bool → ScriptView
with_delivered s delivered = record { first_router = s.first_router; links = s.links; opened = s.opened; delivered = delivered }

-- the message at a place was delivered
abbrev pub is_delivered : List Bool → (place : ℕ) → Bool
is_delivered [] place = false
is_delivered (d ∷ delivered) zero = d
is_delivered (d ∷ delivered) (suc place) = is_delivered delivered place

-- so were all before a place
abbrev pub AreDelivered : (before : ℕ) → List Bool → Type 0
AreDelivered zero delivered = Unit {0}
AreDelivered (suc before) [] = ⊥
AreDelivered (suc before) (d ∷ delivered) = (d ≡ true) × AreDelivered before delivered

-- so was, now, the one at this place
abbrev pub marked : (place : ℕ) → List Bool → List Bool
marked zero [] = true ∷ []
marked zero (d ∷ delivered) = true ∷ delivered
marked (suc place) [] = false ∷ marked place []
marked (suc place) (d ∷ delivered) = d ∷ marked place delivered

abbrev pub is_of_kind : (kind : List ℕ) → Letter → Bool
is_of_kind kind m = bytes_eq (kind_of m.body) kind

-- the message is passed over, where those of a kind are
abbrev pub is_held : (except : Option (List ℕ)) → Letter → Bool
is_held None m = false
is_held (Some kind) m = is_of_kind kind m

-- the place, among those from n on, of the k-th message to the node
abbrev pub place_from : (n node k : ℕ) → List Letter → Option ℕ
place_from n node k [] = None
place_from n node k (m ∷ letters) =
    if m.receiver == node then (if k == 0 then Some n else place_from (n + 1) node (k - 1) letters) else place_from (n + 1) node k letters

-- the place, among those from n on, of the first message of the kind that was not delivered
abbrev pub next_from : (n : ℕ) → (kind : List ℕ) → (delivered : List Bool) → List Letter → Option ℕ
next_from n kind delivered [] = None
next_from n kind delivered (m ∷ letters) =
    if not (is_delivered delivered n) && is_of_kind kind m then Some n else next_from (n + 1) kind delivered letters

-- OUTPUT

-- the numbers of links
abbrev pub numbers_of : List LinkView → List ℕ
numbers_of links = map (λ (link : LinkView). link.number) links

-- the router whose link has this number, of links with these numbers, from this router on
abbrev pub router_from : (first : ℕ) → (numbers : List ℕ) → (number : ℕ) → Option ℕ
router_from first [] number = None
router_from first (n ∷ numbers) number = if n == number then Some first else router_from (first + 1) numbers number

abbrev pub line_by : (router : Option ℕ) → (reply : List ℕ) → List ℕ
line_by None reply = []
line_by (Some router) reply = reply_line router reply

-- the lines of the replies to links with these numbers
abbrev pub reply_lines : (numbers : List ℕ) → List ToLink → List ℕ
reply_lines numbers replies = flat_map (λ (t : ToLink). line_by (router_from 0 numbers t.link) t.bytes) replies

abbrev pub closed_lines : (closed : Option ℕ) → List ℕ
closed_lines None = []
closed_lines (Some router) = closed_line router

-- what is printed for a line: the replies to the links that were open, in the order in which they were given, and the router whose link was closed
abbrev pub printed : List LinkView → List ToLink → (closed : Option ℕ) → List ℕ
printed links replies closed = reply_lines (numbers_of links) replies ++ closed_lines closed
