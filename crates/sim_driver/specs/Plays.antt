-- The events of a line.
use Rattle.std.specs.Prelude.{◌≡◌, ℕ, ◌+◌, ◌≤◌, ◌||◌, List, [], ◌∷◌, ◌++◌, length, Option, Some, None, Bool, true, false}
use Rattle.std.specs.List.{slice_get}
use Rattle.opmsg_frames.specs.Outline.{FrameFault}
use Rattle.opmsg_frames.specs.Frames.{FramesFrom}
use Rattle.node_model.specs.Letters.{Letter}
use Rattle.node_model.specs.Requests.{Request}
use Rattle.node_model.specs.World.{World, Event, client_event, deliver_event, moment_event, Happens, Run}
use Rattle.node_replay.specs.Restarts.{EventOrStop, restart_event, stop_event, RunWithStops}
use Rattle.restart_laws.specs.Calls.{wholes}
use Rattle.driver_steps.specs.Moves.{BeginWith}
use Rattle.driver_steps.specs.Restarts.{stop_and_open}
use Rattle.pipe_driver.specs.Progress.{AreAsked}
use Rattle.pipe_driver.specs.Rounds.{number_behind, replies_after, replies_behind}
use Rattle.script_lines.specs.Lines.{Line, client_line, deliver_line, moment_line, settle_line, next_line, restart_line, kept_line, lost_line}
use Rattle.sim_driver.specs.Links.{LinkView}
use Rattle.sim_driver.specs.Scripts.{ScriptView, ClosesLink, is_delivered, is_held, marked, next_from, place_from, with_closed, with_delivered, with_link}

-- these requests come to the router at a place on the link, which had so many replies before
abbrev pub client_events : (at link replied : ℕ) → List Request → List Event
client_events at link replied [] = []
client_events at link replied (q ∷ requests) =
    client_event at link (number_behind replied) q ∷ client_events at link (replies_after q.more replied) requests

-- those of a router's link
abbrev pub events_on : (first_router router : ℕ) → LinkView → List Request → List Event
events_on first_router router link requests = client_events (first_router + router) link.number link.replied requests

-- the message at a place is passed over: it was delivered before, or those of its kind are
abbrev pub is_passed : (except : Option (List ℕ)) → (delivered : List Bool) → (place : ℕ) → Letter → Bool
is_passed except delivered place m = is_delivered delivered place || is_held except m

-- Messages that were not delivered are delivered in order of sending, but for those of a kind, if there is one, from a place among all that were
-- sent up to a later one; those too that are sent meanwhile. One that goes to no node is lost.
pub data SettlesBut (except : Option (List ℕ)) : World → List Bool → (next : ℕ) → List Event → World → List Bool → (later : ℕ) → Type 0 where
  but_none : (w : World) (ds : List Bool) (next : ℕ) → SettlesBut except w ds next [] w ds next
  but_passed : (u w : World) (ds es : List Bool) (next later : ℕ) (m : Letter) (events : List Event) → slice_get u.sent next ≡ Some m
      → is_passed except ds next m ≡ true → SettlesBut except u ds (next + 1) events w es later → SettlesBut except u ds next events w es later
  but_next : (u v w : World) (ds es : List Bool) (next later : ℕ) (m : Letter) (events : List Event) → slice_get u.sent next ≡ Some m
      → is_passed except ds next m ≡ false → Happens u (deliver_event m.receiver next) v
      → SettlesBut except v (marked next ds) (next + 1) events w es later
      → SettlesBut except u ds next (deliver_event m.receiver next ∷ events) w es later
  but_lost : (u w : World) (ds es : List Bool) (next later : ℕ) (m : Letter) (events : List Event) → slice_get u.sent next ≡ Some m
      → is_passed except ds next m ≡ false → length u.nodes ≤ m.receiver → SettlesBut except u (marked next ds) (next + 1) events w es later
      → SettlesBut except u ds next events w es later

-- THE LINES IN WHICH NO NODE STOPS

-- These events are those of the line: they lead from world to world, and from what the script had to what it has; the link of a router may be closed.
pub data IsPlayedWhole (u : World) (s : ScriptView) : Line → List Event → World → ScriptView → (closed : Option ℕ) → Type 0 where
  -- its whole requests come, in order
  plays_client : (router : ℕ) (link : LinkView) (bytes left : List ℕ) (requests : List Request) (w : World) → slice_get s.links router ≡ Some link
      → FramesFrom 0 (link.left ++ bytes) requests left None → Run u (events_on s.first_router router link requests) w
      → IsPlayedWhole u s (client_line router bytes) (events_on s.first_router router link requests) w
      (with_link s router (record { number = link.number; left = left; replied = replies_behind link.replied requests; is_open = true })) None
  -- after them comes what is no request
  closes : (router : ℕ) (link : LinkView) (bytes left : List ℕ) (requests : List Request) (fault : FrameFault × ℕ) (w : World)
      → slice_get s.links router ≡ Some link → FramesFrom 0 (link.left ++ bytes) requests left (Some fault) → Run u
      (events_on s.first_router router link requests) w
      → IsPlayedWhole u s (client_line router bytes) (events_on s.first_router router link requests) w (with_closed s router) (Some router)
  plays_deliver : (node k which : ℕ) (w : World) → place_from 0 node k u.sent ≡ Some which → Happens u (deliver_event node which) w
      → IsPlayedWhole u s (deliver_line node k) (deliver_event node which ∷ []) w (with_delivered s (marked which s.delivered)) None
  plays_moment : (node moment : ℕ) (w : World) → Happens u (moment_event node moment) w
      → IsPlayedWhole u s (moment_line node moment) (moment_event node moment ∷ []) w s None
  plays_settle : (except : Option (List ℕ)) (events : List Event) (w : World) (delivered : List Bool)
      → SettlesBut except u s.delivered 0 events w delivered (length w.sent)
      → IsPlayedWhole u s (settle_line except) events w (with_delivered s delivered) None
  plays_next : (kind : List ℕ) (which : ℕ) (m : Letter) (w : World) → next_from 0 kind s.delivered u.sent ≡ Some which → slice_get u.sent which ≡ Some m
      → Happens u (deliver_event m.receiver which) w
      → IsPlayedWhole u s (next_line kind) (deliver_event m.receiver which ∷ []) w (with_delivered s (marked which s.delivered)) None
  -- it goes to no node
  loses_next : (kind : List ℕ) (which : ℕ) (m : Letter) → next_from 0 kind s.delivered u.sent ≡ Some which → slice_get u.sent which ≡ Some m
      → length u.nodes ≤ m.receiver → IsPlayedWhole u s (next_line kind) [] u (with_delivered s (marked which s.delivered)) None

-- The first events of deliveries of what was not delivered: some of these, and maybe the one that is next.
pub record IsPartOfSettling (except : Option (List ℕ)) (u : World) (delivered : List Bool) (events : List Event) : Type 0 where
  pub before : List Event
  pub more : List Event
  pub then : World
  pub marks : List Bool
  pub later : ℕ
  pub at : ℕ
  pub settles : SettlesBut except u delivered 0 before then marks later
  pub first : BeginWith more (deliver_event at later ∷ [])
  pub all : events ≡ before ++ more

-- the first events of such a line
pub data IsPartOfWhole (u : World) (s : ScriptView) : Line → List Event → Type 0 where
  part_of_client : (router : ℕ) (link : LinkView) (bytes consumed rest : List ℕ) (requests : List Request) (events : List Event)
      → slice_get s.links router ≡ Some link → link.left ++ bytes ≡ consumed ++ rest → AreAsked consumed requests
      → BeginWith events (events_on s.first_router router link requests) → IsPartOfWhole u s (client_line router bytes) events
  part_of_deliver : (node k which : ℕ) (events : List Event) → place_from 0 node k u.sent ≡ Some which → BeginWith events (deliver_event node which ∷ [])
      → IsPartOfWhole u s (deliver_line node k) events
  part_of_moment : (node moment : ℕ) (events : List Event) → BeginWith events (moment_event node moment ∷ [])
      → IsPartOfWhole u s (moment_line node moment) events
  part_of_settle : (except : Option (List ℕ)) (events : List Event) → IsPartOfSettling except u s.delivered events
      → IsPartOfWhole u s (settle_line except) events
  part_of_next : (kind : List ℕ) (which : ℕ) (m : Letter) (events : List Event) → next_from 0 kind s.delivered u.sent ≡ Some which
      → slice_get u.sent which ≡ Some m → BeginWith events (deliver_event m.receiver which ∷ []) → IsPartOfWhole u s (next_line kind) events

-- THE LINES IN WHICH A NODE STOPS

-- The node stops by this event; and then these messages were delivered. In a step in which it stops its records are stored, and nothing that it sends or
-- returns goes out. Where it can't take that step, or no memory is found for it, it stops before it.
pub data StopsNode (u : World) (s : ScriptView) : Line → (node : ℕ) → EventOrStop → (delivered : List Bool) → Type 0 where
  stops_between : (node : ℕ) → StopsNode u s (restart_line node) node (restart_event node) s.delivered
  stops_kept : (node k which : ℕ) → place_from 0 node k u.sent ≡ Some which
      → StopsNode u s (kept_line node k) node (stop_event node (deliver_event node which)) (marked which s.delivered)
  stops_unkept : (node k which : ℕ) → place_from 0 node k u.sent ≡ Some which
      → StopsNode u s (kept_line node k) node (restart_event node) (marked which s.delivered)
  stops_lost : (node k which : ℕ) → place_from 0 node k u.sent ≡ Some which
      → StopsNode u s (lost_line node k) node (restart_event node) (marked which s.delivered)

-- ALL LINES

-- The line is played: these events lead from world to world, and from what the script had to what it has; the link of a router may be closed.
pub data IsPlayed (u : World) (s : ScriptView) : Line → List EventOrStop → World → ScriptView → (closed : Option ℕ) → Type 0 where
  -- no node stops
  plays_whole : (line : Line) (events : List Event) (w : World) (t : ScriptView) (closed : Option ℕ) → IsPlayedWhole u s line events w t closed
      → IsPlayed u s line (wholes events) w t closed
  -- the node stops and is started again on its journal, and is opened
  plays_restart : (line : Line) (node : ℕ) (e : EventOrStop) (delivered : List Bool) (w : World) (t : ScriptView) (closed : Option ℕ)
      → StopsNode u s line node e delivered → RunWithStops u (stop_and_open node e) w → ClosesLink s node t closed
      → IsPlayed u s line (stop_and_open node e) w (with_delivered t delivered) closed

-- the events of a line that was cut short
pub data IsPartOfLine (u : World) (s : ScriptView) : Line → List EventOrStop → Type 0 where
  part_of_whole : (line : Line) (events : List Event) → IsPartOfWhole u s line events → IsPartOfLine u s line (wholes events)
  part_of_restart : (line : Line) (node : ℕ) (e : EventOrStop) (delivered : List Bool) (events : List EventOrStop) → StopsNode u s line node e delivered
      → BeginWith events (stop_and_open node e) → IsPartOfLine u s line events

-- the line is about the k-th message to the node
pub data NamesMessage : Line → (node k : ℕ) → Type 0 where
  names_delivered : (node k : ℕ) → NamesMessage (deliver_line node k) node k
  names_kept : (node k : ℕ) → NamesMessage (kept_line node k) node k
  names_lost : (node k : ℕ) → NamesMessage (lost_line node k) node k

-- the line names a router, a node or a message that does not exist
pub data NamesNothing (u : World) (s : ScriptView) : Line → Type 0 where
  no_router : (router : ℕ) (bytes : List ℕ) → length u.nodes ≤ s.first_router + router → NamesNothing u s (client_line router bytes)
  no_node : (line : Line) (node k : ℕ) → NamesMessage line node k → length u.nodes ≤ node → NamesNothing u s line
  no_message : (line : Line) (node k : ℕ) → NamesMessage line node k → place_from 0 node k u.sent ≡ None → NamesNothing u s line
  no_node_of_restart : (node : ℕ) → length u.nodes ≤ node → NamesNothing u s (restart_line node)
  no_node_of_moment : (node moment : ℕ) → length u.nodes ≤ node → NamesNothing u s (moment_line node moment)
  none_of_kind : (kind : List ℕ) → next_from 0 kind s.delivered u.sent ≡ None → NamesNothing u s (next_line kind)
