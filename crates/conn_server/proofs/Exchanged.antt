-- From notes to the run.
use Rattle.std.proofs.Common.{◌≡◌, ℕ, ◌+◌, ◌≤◌, List, [], ◌∷◌, ◌++◌, length, sym, subst, arith}
use Rattle.std.specs.Prelude.{Option, Some, None, MatchOption}
use Rattle.std.specs.List.{AllByRecursion}
use Rattle.outside.specs.declared.exchange.Exchange.{Exchange}
use Rattle.outside.specs.declared.exchange.Spoken.{Spoken}
use Rattle.node_model.specs.Letters.{Input}
use Rattle.node_model.specs.World.{World, Event}
use Rattle.node_traits.specs.declared.outputs.ToLink.{ToLink}
use Rattle.history_model.proofs.Lists.{all_weaken}
use Rattle.driver_steps.specs.declared.seat.Seat.{Seat}
use Rattle.node_cell.specs.declared.view.Placed.{Placed}
use Rattle.node_cell.specs.declared.view.View.{View}
use Rattle.node_cell.specs.declared.view.Taken.{Taken}
use Rattle.driver_steps.specs.Crashes.{Noted}
use Rattle.node_cell.specs.Courses.{NodeFacts, Saw, WasTaken, WasTold, places_at}
use Rattle.node_cell.specs.Standing.{AreRun, step_of}
use Rattle.node_cell.proofs.Lists.{all_at, among_front}
use Rattle.conn_server.specs.Conversations.{AreHeard, AreServed, InTurn, LinkFacts, WasHeard, WasShown, WereServed}
use Rattle.conn_server.specs.Talks.{IsAsked, IsNoted, IsReplied, WasExchanged, reply_on}
use Rattle.conn_server.proofs.Shown.{all_marked}

-- WHAT A NOTE HAS SEEN STAYS SEEN

pub asked_on : {I : Type 0} (meaning : I → Input) (taken more : List (Taken I)) (link came : ℕ) (bytes : List ℕ) → IsAsked meaning taken link came bytes
    → IsAsked meaning (taken ++ more) link came bytes
asked_on meaning taken more link came bytes a =
    record { at = a.at; input = a.input; is = a.is; here = among_front (step_of came a.at a.input) taken more a.here }

pub replied_on : (told more : List (ℕ × ToLink)) (link came step : ℕ) (reply : Option (List ℕ)) → IsReplied told link came step reply
    → IsReplied (told ++ more) link came step reply
replied_on told more link came step None r = r
replied_on told more link came step (Some bytes) r = among_front (step, reply_on link bytes) told more r

pub noted_on : {N L M I : Type 0} (meaning : I → Input) (link : ℕ) (v w : View N L M I) (more : List (Taken I)) (answers : List (ℕ × ToLink))
    → w.taken ≡ v.taken ++ more → w.told ≡ v.told ++ answers → (said : List Exchange)
    → AllByRecursion (λ e. IsNoted meaning link v e) said → AllByRecursion (λ e. IsNoted meaning link w e) said
noted_on {N} {L} {M} {I} meaning link v w more answers taken told said =
    all_weaken (λ e. IsNoted meaning link v e) (λ e. IsNoted meaning link w e) said
    (λ e n. record {
      asked = subst (λ (l : List (Taken I)). IsAsked meaning l link e.came e.request) (sym taken) (asked_on meaning v.taken more link e.came e.request n.asked);
      replied = subst (λ (l : List (ℕ × ToLink)). IsReplied l link e.came e.step e.reply) (sym told)
          (replied_on v.told answers link e.came e.step e.reply n.replied);
    })

-- ONE LINK MORE

pub heard_more : {N L M I S : Type 0} (meaning : I → Input) (bytes : LinkFacts S) (from next : ℕ) (spoken : List (Spoken S)) (notes : List (View N L M I))
    (s : Spoken S) (v : View N L M I) (link : ℕ) → AreHeard meaning bytes from next spoken notes → next ≤ link
    → AllByRecursion (λ e. IsNoted meaning link v e) s.said.items → InTurn s.said.items → WasHeard bytes s → WasShown bytes link s v
    → AreHeard meaning bytes from (link + 1) (spoken ++ s ∷ []) (notes ++ v ∷ [])
heard_more meaning bytes from next [] [] s v link all high noted in_turn heard shown =
    (record { link = link; far = omega (arith, all, high); noted = noted; in_turn = in_turn; heard = heard; shown = shown }, omega arith)
heard_more meaning bytes from next [] (w ∷ notes) s v link all high noted in_turn heard shown = absurd all
heard_more meaning bytes from next (t ∷ spoken) [] s v link all high noted in_turn heard shown = absurd all
heard_more meaning bytes from next (t ∷ spoken) (w ∷ notes) s v link all high noted in_turn heard shown =
    (all.0, heard_more meaning bytes (all.0.link + 1) next spoken notes s v link all.1 high noted in_turn heard shown)

-- IN ONE RUN

module _ {N L M I : Type 0} (f : NodeFacts N L M I) (places : List (List ℕ)) (first : ℕ) (events : List Event) (marks : List Noted) (w : World) where
  exchanged : (link : ℕ) (v : View N L M I) → Saw f places first events marks w v → (e : Exchange) → IsNoted f.meaning link v e
      → WasExchanged f.meaning first events w link e
  exchanged link v saw e n = record {
    at = n.asked.at;
    input = n.asked.input;
    is = n.asked.is;
    taken = all_at (λ t. WasTaken f.meaning events w t) v.taken n.asked.here.0 (step_of e.came n.asked.at n.asked.input) n.asked.here.1 saw.taken;
    replied = by_reply e.reply n.replied;
  }
    where
      by_reply : (reply : Option (List ℕ)) → IsReplied v.told link e.came e.step reply
          → MatchOption reply (e.step ≡ e.came) (λ bytes. WasTold first w (e.step, reply_on link bytes))
      by_reply None r = r
      by_reply (Some bytes) r = all_at (λ t. WasTold first w t) v.told r.0 (e.step, reply_on link bytes) r.1 saw.told

  pub links_served : {S : Type 0} (bytes : LinkFacts S) (from next : ℕ) (spoken : List (Spoken S)) (notes : List (View N L M I))
      → AreHeard f.meaning bytes from next spoken notes → AllByRecursion (λ v. Saw f places first events marks w v) notes
      → WereServed f.meaning bytes places first events marks w from spoken
  links_served bytes from next [] [] all saw = tt
  links_served bytes from next [] (v ∷ notes) all saw = absurd all
  links_served bytes from next (s ∷ spoken) [] all saw = absurd all
  links_served bytes from next (s ∷ spoken) (v ∷ notes) all saw = (
    record {
      link = all.0.link;
      far = all.0.far;
      exchanged = all_weaken (λ e. IsNoted f.meaning all.0.link v e) (λ e. WasExchanged f.meaning first events w all.0.link e) s.said.items
          (λ e n. exchanged all.0.link v saw.0 e n) all.0.noted;
      in_turn = all.0.in_turn;
      heard = all.0.heard;
      marked = all_marked places first marks bytes.tells (bytes.noted s.link) (length (bytes.held s.opened.value)) v.safe all.0.link s.said.items saw.0.safe
          all.0.shown;
    },
    links_served bytes (all.0.link + 1) next spoken notes all.1 saw.1,
  )

pub all_served : {N L M I S : Type 0} (f : NodeFacts N L M I) (bytes : LinkFacts S) (routers next : ℕ) (seats : List (Seat N L)) (ended : List (Placed N L))
    (notes : List (View N L M I)) (spoken : List (Spoken S)) → AreRun f routers seats ended notes → AreHeard f.meaning bytes 0 next spoken notes
    → AreServed f bytes routers seats ended spoken
all_served f bytes routers next seats ended notes spoken run heard since first opened =
    let r = run since first opened in
    record {
      events = r.events;
      world = r.world;
      run = r.run;
      none_missed = r.none_missed;
      marks = r.marks;
      on_way = r.marked;
      nodes = r.nodes;
      links_are = links_served f (places_at f.facts since) first.now r.events r.marks r.world bytes 0 next spoken notes heard r.noted;
    }
