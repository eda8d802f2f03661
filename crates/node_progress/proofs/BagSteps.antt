-- A step of a node keeps the bag.
use Rattle.std.proofs.Common.{◌≡◌, ◌≢◌, ◌⊎◌, inl, inr, ℕ, ◌+◌, ◌<◌, ◌≤◌, List, [], ◌∷◌, ◌++◌, length, refl, sym, ap, subst, ◌∙◌, arith, length-append}
use Rattle.std.specs.Prelude.{Some, false}
use Rattle.std.specs.List.{AllByRecursion, slice_get}
use Rattle.base_model.specs.Identities.{RequestId}
use Rattle.history_model.specs.History.{IsIn}
use Rattle.history_model.proofs.Lists.{all_at, all_weaken, all_append, all_both, all_from}
use Rattle.chunk_model.specs.Tables.{first_shard}
use Rattle.reply_model.specs.Exchanges.{Asked, Answered}
use Rattle.node_model.specs.Journal.{Kept}
use Rattle.node_model.specs.Letters.{no_time, Letter, Input, letter_input, Effect}
use Rattle.node_model.specs.States.{Shard, Router, Open, NodeState, shard_state}
use Rattle.node_model.specs.RouterRequests.{id_of}
use Rattle.node_model.specs.World.{Held, World, asked_by, after, is_given, tick}
use Rattle.node_laws.proofs.Views.{View}
use Rattle.node_laws.proofs.Lists.{all_within}
use Rattle.node_laws.proofs.Places.{EachAt, each_set}
use Rattle.node_laws.proofs.Facts.{HeldFits}
use Rattle.node_progress.specs.UnderWay.{Thing, a_table, things_of, IsFor, IsSent}
use Rattle.node_progress.proofs.Places.{get_other, length_set, same_place, each_there}
use Rattle.node_progress.proofs.Shards.{IsSameNode, shards_stay}
use Rattle.node_progress.proofs.Versions.{IsWell, well_later}
use Rattle.node_progress.proofs.CataloguePasses.{IsAmong}
use Rattle.node_progress.proofs.ShardParks.{IsParkedAfter}
use Rattle.node_progress.proofs.RunVersions.{OpenRuns, runs_later}
use Rattle.node_progress.proofs.RouterWaits.{WaitsAfter}
use Rattle.node_progress.proofs.Bags.{Left, AllLost, changes_made, IsHeldFor, IsCarried, OpenGoes, ParkedGoes, NodeGoes, IsPosted, posted_later, posted_ask, Bag, WasFor, Clears, sent_moves, sent_anew, MoreMade, changes_more}

pub each_both : (P Q : ℕ → Held → Type 0) (i : ℕ) (xs : List Held) → EachAt P i xs → EachAt Q i xs → EachAt (λ j h. P j h × Q j h) i xs
each_both P Q i [] p q = tt
each_both P Q i (x ∷ xs) p q = ((p.0, q.0), each_both P Q (i + 1) xs p.1 q.1)

module _ (left later : Left) (w : World) (p : ℕ) (i : Input) (kept : List Kept) (steps : ℕ) (old : NodeState) (f : Effect) (new : NodeState)
    (bag : Bag left w) (here : slice_get w.nodes p ≡ Some (record { state = old; kept = kept; steps = steps })) (clears : Clears left later w.sent i)
    (fresh : (n : ℕ) → length w.sent ≤ n → later.places n) where
  abbrev pub stepped : Held
  stepped = record { state = new; kept = kept ++ f.written; steps = steps + 1 }

  abbrev pub next_world : World
  next_world = tick (after (is_given w p i) p (record { state = old; kept = kept; steps = steps }) f new)

  more_made : MoreMade (changes_made w) (changes_made next_world)
  more_made = changes_more w.nodes p old kept f.written steps (steps + 1) new here

  pub still_well : (m : Letter) → IsWell (changes_made w) (length w.nodes) m → IsWell (changes_made next_world) (length next_world.nodes) m
  still_well m well =
      subst (λ n. IsWell (changes_made next_world) n m) (sym (length_set w.nodes p stepped))
      (well_later more_made.news (changes_made w) (changes_made next_world) (length w.nodes) m more_made.is well)

  pub posted_still : (m : Letter) → IsPosted left (changes_made w) (length w.nodes) m → IsPosted later (changes_made next_world) (length next_world.nodes) m
  posted_still m posted =
      subst (λ n. IsPosted later (changes_made next_world) n m) (sym (length_set w.nodes p stepped))
      (posted_later left later more_made.news (changes_made w) (changes_made next_world) (length w.nodes) m clears.stay more_made.is posted)

  -- WHAT IS UNDER WAY

  -- what the node at the place does with what comes for a thing, and with what it holds for it
  pub record Carries (t : Thing) : Type 0 where
    pub passes : WasFor i t → IsAmong f.mail t ⊎ IsHeldFor next_world.nodes t
    pub holds : (s : Shard) → old ≡ shard_state s → (x : Letter) → IsIn x s.parked → IsFor t x → IsAmong f.mail t ⊎ IsHeldFor next_world.nodes t

  goes_by : (t : Thing) → IsAmong f.mail t ⊎ IsHeldFor next_world.nodes t → IsCarried later next_world t
  goes_by t (inl among) = inl (sent_anew left.places later.places w.sent f.mail i t fresh among)
  goes_by t (inr held) = inr held

  held_here : (t : Thing) → (h : IsHeldFor w.nodes t) → h.at ≡ p → old ≡ shard_state h.shard
  held_here t h same =
      let both : Some (record { state = shard_state h.shard; kept = h.kept; steps = h.steps }) ≡ Some (record { state = old; kept = kept; steps = steps }) =
      sym h.here ∙ (ap (λ k. slice_get w.nodes k) same ∙ here) in
      let held : record { state = old; kept = kept; steps = steps } ≡ record { state = shard_state h.shard; kept = h.kept; steps = h.steps } = cc both in
      ap (λ (x : Held). x.state) held

  pub carried_moves : (t : Thing) → Carries t → IsCarried left w t → IsCarried later next_world t
  carried_moves t c (inl s) = by_place (sent_moves left.places later.places w.sent f.mail i t clears.places s)
    where
      by_place : IsSent later.places (w.sent ++ f.mail) t ⊎ WasFor i t → IsCarried later next_world t
      by_place (inl still) = inl still
      by_place (inr was) = goes_by t (c.passes was)
  carried_moves t c (inr h) = by_place (same_place h.at p)
    where
      by_place : (h.at ≡ p) ⊎ (h.at ≢ p) → IsCarried later next_world t
      by_place (inl same) = goes_by t (c.holds h.shard (held_here t h same) h.letter h.parked h.brings)
      by_place (inr other) = inr (record {
        at = h.at;
        shard = h.shard;
        kept = h.kept;
        steps = h.steps;
        letter = h.letter;
        here = get_other w.nodes p h.at stepped other ∙ h.here;
        parked = h.parked;
        brings = h.brings;
      })

  -- what was lost stays so
  lost_or : {X Y : Type 0} (id : RequestId) → (X → Y) → left.lost id ⊎ X → later.lost id ⊎ Y
  lost_or id moves (inl lost) = inl (clears.stay id lost)
  lost_or id moves (inr x) = inr (moves x)

  pub open_moves : (r : Router) (q : Open) → ((t : Thing) → IsIn t (things_of r q) → Carries t) → OpenGoes left w r q → OpenGoes later next_world r q
  open_moves r q c o = record {
    waiting = o.waiting;
    runs = runs_later more_made.news (changes_made w) (changes_made next_world) q.namespace q.work more_made.is o.runs;
    some = o.some;
    carried = lost_or (id_of r q.count)
        (λ all. all_within (IsCarried left w) (IsCarried later next_world) (things_of r q) (λ t there was. carried_moves t (c t there) was) all) o.carried;
  }

  -- the table of a parked request
  table_moves : (at : ℕ) (s : Shard) (x : Letter) → (g : ParkedGoes left w at s x)
      → (WasFor i (a_table first_shard g.ask.namespace false no_time) → IsAmong f.mail (a_table first_shard g.ask.namespace false no_time))
      → later.lost g.ask.id ⊎ IsSent later.places (w.sent ++ f.mail) (a_table first_shard g.ask.namespace false no_time)
  table_moves at s x g passes =
      lost_or g.ask.id
      (λ sent. by_place (sent_moves left.places later.places w.sent f.mail i (a_table first_shard g.ask.namespace false no_time) clears.places sent)) g.table
    where
      by_place : IsSent later.places (w.sent ++ f.mail) (a_table first_shard g.ask.namespace false no_time) ⊎ WasFor i (a_table first_shard g.ask.namespace false no_time)
          → IsSent later.places (w.sent ++ f.mail) (a_table first_shard g.ask.namespace false no_time)
      by_place (inl still) = still
      by_place (inr was) = sent_anew left.places later.places w.sent f.mail i (a_table first_shard g.ask.namespace false no_time) fresh (passes was)

  pub parked_moves : (at : ℕ) (s : Shard) (x : Letter) → (g : ParkedGoes left w at s x)
      → (WasFor i (a_table first_shard g.ask.namespace false no_time) → IsAmong f.mail (a_table first_shard g.ask.namespace false no_time))
      → ParkedGoes later next_world at s x
  parked_moves at s x g passes =
      record { first = g.first; ask = g.ask; asks = g.asks; none = g.none; well = still_well x g.well; table = table_moves at s x g passes }

  -- where all was lost
  pub open_lost : AllLost later → (r : Router) (q : Open) → OpenGoes left w r q → OpenGoes later next_world r q
  open_lost lost r q o = record {
    waiting = o.waiting;
    runs = runs_later more_made.news (changes_made w) (changes_made next_world) q.namespace q.work more_made.is o.runs;
    some = o.some;
    carried = inl (lost (id_of r q.count));
  }

  pub parked_lost : AllLost later → (at : ℕ) (s : Shard) (x : Letter) → ParkedGoes left w at s x → ParkedGoes later next_world at s x
  parked_lost lost at s x g =
      record { first = g.first; ask = g.ask; asks = g.asks; none = g.none; well = still_well x g.well; table = inl (lost g.ask.id) }

  -- THE NODE ITSELF

  -- a shard's parked requests after its step
  pub parked_after : (s u : Shard) → s.me ≡ p → AllByRecursion (ParkedGoes left w p s) s.parked
      → ((x : Letter) → i ≡ letter_input x → IsIn x w.sent)
      → AllByRecursion (IsParkedAfter s u i f.mail) u.parked → AllByRecursion (ParkedGoes later next_world p u) u.parked
  parked_after s u me before came all =
      all_weaken (IsParkedAfter s u i f.mail) (ParkedGoes later next_world p u) u.parked (λ x a. by_case x a) all
    where
      by_case : (x : Letter) → IsParkedAfter s u i f.mail x → ParkedGoes later next_world p u x
      by_case x (inl still) =
          let g = all_at (ParkedGoes left w p s) x s.parked before still.there in
          record {
            first = g.first;
            ask = g.ask;
            asks = g.asks;
            none = still.still g.ask g.asks g.none;
            well = still_well x g.well;
            table = table_moves p s x g (λ was. absurd (still.not_come g.ask g.asks g.none was.letter was.is
                (subst (λ n. IsFor (a_table n g.ask.namespace false no_time) was.letter) (sym (me ∙ g.first)) was.brings)));
          }
      by_case x (inr begins) = record {
        first = sym me ∙ begins.first;
        ask = begins.ask;
        asks = begins.asks;
        none = begins.none;
        well = still_well x (posted_ask left (changes_made w) (length w.nodes) x begins.ask begins.asks
            (all_at (IsPosted left (changes_made w) (length w.nodes)) x w.sent bag.well (came x begins.came)));
        table = inr (sent_anew left.places later.places w.sent f.mail i (a_table first_shard begins.ask.namespace false no_time) fresh
            (subst (λ n. IsAmong f.mail (a_table n begins.ask.namespace false no_time)) begins.first begins.sent));
      }

  -- a router's open requests after its step
  pub open_after : (r u : Router) → ((s : Shard) → old ≡ shard_state s → ⊥) → AllByRecursion (OpenGoes left w r) r.requests
      → AllByRecursion (WaitsAfter r u i f.mail) u.requests → AllByRecursion (OpenRuns (changes_made w)) u.requests
      → AllByRecursion (OpenGoes later next_world u) u.requests
  open_after r u no_shard before all runs =
      all_both (WaitsAfter r u i f.mail) (OpenRuns (changes_made w)) (OpenGoes later next_world u) u.requests (λ q a sent. by_case q sent a) all runs
    where
      by_case : (q : Open) → OpenRuns (changes_made w) q → WaitsAfter r u i f.mail q → OpenGoes later next_world u q
      by_case q sent (inl still) =
          let o = all_at (OpenGoes left w r) still.before r.requests before still.there in
          record {
            waiting = still.known o.waiting;
            runs = runs_later more_made.news (changes_made w) (changes_made next_world) q.namespace q.work more_made.is sent;
            some = still.some o.some;
            carried = lost_or (id_of u q.count)
                (λ all. all_from (IsCarried later next_world) (things_of u q) (λ t one.
                carried_moves t (record {
                  passes = λ was. absurd (still.not_come t one was.letter was.is was.brings);
                  holds = λ s is x there brings. absurd (no_shard s is);
                }) (all_at (IsCarried left w) t (things_of r still.before) all (still.among t one))))
                (subst (λ id. left.lost id ⊎ AllByRecursion (IsCarried left w) (things_of r still.before)) (sym still.own) o.carried);
          }
      by_case q sent (inr anew) = record {
        waiting = record { going = anew.going; fits = anew.fits; untried = anew.untried; fresh = anew.fresh };
        runs = runs_later more_made.news (changes_made w) (changes_made next_world) q.namespace q.work more_made.is sent;
        some = anew.sent.some;
        carried = inr (all_weaken (IsAmong f.mail) (IsCarried later next_world) (things_of u q)
            (λ t among. inl (sent_anew left.places later.places w.sent f.mail i t fresh among)) anew.sent.each);
      }

  -- THE WORLD

  -- a request stays that of a node
  asked_stays : (a : Asked) → a.id.router < length w.nodes → a.id.router < length next_world.nodes
  asked_stays a inside = subst (λ n. a.id.router < n) (sym (length_set w.nodes p stepped)) inside

  -- the bag, where its parts are known
  pub bag_after : (v : View) (answered : List Answered) → IsSameNode old new → EachAt (HeldFits v w.asked answered w.given) 0 w.nodes
      → AllByRecursion (IsPosted later (changes_made next_world) (length next_world.nodes)) f.mail
      → NodeGoes later next_world p new
      → ((j : ℕ) (h : Held) → slice_get w.nodes j ≡ Some h → j ≢ p → HeldFits v w.asked answered w.given j h → NodeGoes left w j h.state
      → NodeGoes later next_world j h.state)
      → AllByRecursion (λ (a : Asked). a.id.router < length w.nodes) (asked_by w.now f.taken)
      → Bag later next_world
  bag_after v answered same fit well node others taken = record {
    fresh = λ n le. let l = length-append w.sent f.mail in fresh n (omega (arith, le, l));
    well = all_append (IsPosted later (changes_made next_world) (length next_world.nodes)) w.sent f.mail
        (all_weaken (IsPosted left (changes_made w) (length w.nodes)) (IsPosted later (changes_made next_world) (length next_world.nodes)) w.sent
        (λ m x. posted_still m x) bag.well) well;
    shards = shards_stay w.nodes p (record { state = old; kept = kept; steps = steps }) stepped here same bag.shards;
    nodes =
        each_set Before (λ j (h : Held). NodeGoes later next_world j h.state) 0 p w.nodes stepped
        (λ j h other x. others j h x.0 (λ e. other (e ∙ from_zero)) x.1.0 x.1.1) (subst (λ k. NodeGoes later next_world k new) from_zero node)
        (each_both (λ j (h : Held). slice_get w.nodes j ≡ Some h) (λ j h. HeldFits v w.asked answered w.given j h × NodeGoes left w j h.state) 0 w.nodes
        (each_there [] w.nodes 0 refl)
        (each_both (HeldFits v w.asked answered w.given) (λ j (h : Held). NodeGoes left w j h.state) 0 w.nodes fit bag.nodes));
    asked = all_append (λ (a : Asked). a.id.router < length next_world.nodes) w.asked (asked_by w.now f.taken)
        (all_weaken (λ (a : Asked). a.id.router < length w.nodes) (λ (a : Asked). a.id.router < length next_world.nodes) w.asked asked_stays bag.asked)
        (all_weaken (λ (a : Asked). a.id.router < length w.nodes) (λ (a : Asked). a.id.router < length next_world.nodes) (asked_by w.now f.taken) asked_stays
        taken);
  }
    where
      Before : ℕ → Held → Type 0
      Before j h = (slice_get w.nodes j ≡ Some h) × (HeldFits v w.asked answered w.given j h × NodeGoes left w j h.state)

      from_zero : p ≡ 0 + p
      from_zero = omega arith
