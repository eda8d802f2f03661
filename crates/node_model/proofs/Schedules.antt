-- The events of the schedule of `pipe` are a run.
use Rattle.std.proofs.Common.{ℕ, ◌+◌, List, [], ◌∷◌, ◌++◌, length, sym, subst}
use Rattle.node_model.specs.World.{World, Event, client_event, deliver_event, Happens, Run, stands, goes}
use Rattle.node_model.specs.Schedule.{moments_given, Delivers, delivers_none, delivers_next, Round, Pipes, opens, serves}

-- one run after another
pub run_then : (u : World) (es : List Event) (v : World) (fs : List Event) (w : World) → Run u es v → Run v fs w → Run u (es ++ fs) w
run_then _ _ _ fs w (stands u) more = more
run_then _ _ _ fs w (goes u v x e es h run) more = goes u v w e (es ++ fs) h (run_then v es x fs w run more)

pub delivers_run : (u : World) (next : ℕ) (events : List Event) (w : World) (later : ℕ) → Delivers u next events w later → Run u events w
delivers_run _ _ _ _ _ (delivers_none w next) = stands w
delivers_run _ _ _ _ _ (delivers_next u v w next later at events h more) =
    goes u v w (deliver_event at next) events h (delivers_run v (next + 1) events w later more)

-- one more is delivered
pub delivers_more : (u : World) (next : ℕ) (events : List Event) (v : World) (later at : ℕ) (w : World) → Delivers u next events v later
    → Happens v (deliver_event at later) w → Delivers u next (events ++ deliver_event at later ∷ []) w (later + 1)
delivers_more _ _ _ _ _ at x (delivers_none w next) h = delivers_next w x x next (next + 1) at [] h (delivers_none x (next + 1))
delivers_more _ _ _ _ _ at x (delivers_next u v w next later first events here more) h =
    delivers_next u v x next (later + 1) first (events ++ deliver_event at later ∷ []) here (delivers_more v (next + 1) events w later at x more h)

pub pipes_run : (first : World) (rounds : List Round) (events : List Event) (w : World) (next : ℕ) → Pipes first rounds events w next
    → Run first events w
pipes_run first _ _ _ _ (opens w run) = run
pipes_run first _ _ _ _ (serves rounds r before events u w next pipes round) =
    run_then first before u events w (pipes_run first rounds before u next pipes)
    (subst (λ l. Run u l w) (sym round.all)
    (run_then u (moments_given 0 (length u.nodes) r.moment) round.given (client_event r.at r.link r.number r.request ∷ round.deliveries) w round.moments
    (goes round.given round.asked w (client_event r.at r.link r.number r.request) round.deliveries round.comes
    (delivers_run round.asked next round.deliveries w (length w.sent) round.settles))))
