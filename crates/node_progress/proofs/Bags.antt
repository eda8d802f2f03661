-- What is under way in a world, and what of it a step leaves.
use Rattle.std.proofs.Common.{◌≡◌, ◌≢◌, ◌⊎◌, inl, inr, ℕ, ◌<◌, ◌≤◌, List, [], ◌∷◌, ◌++◌, length, sym, ap, subst, ◌∙◌, arith, append_assoc, length-append}
use Rattle.std.specs.Prelude.{Some, false, None}
use Rattle.std.specs.List.{AllByRecursion, slice_get, slice_set}
use Rattle.base_model.specs.Identities.{RequestId}
use Rattle.history_model.specs.History.{IsIn}
use Rattle.history_model.proofs.Lists.{all_at}
use Rattle.node_laws.proofs.Facts.{IsOfRequest}
use Rattle.chunk_model.specs.Changes.{Change}
use Rattle.chunk_model.specs.Tables.{first_shard, table_of}
use Rattle.reply_model.specs.Exchanges.{Asked}
use Rattle.node_model.specs.Journal.{Kept, changes_kept}
use Rattle.node_model.specs.Letters.{no_time, refused, Refused, Cause, Letter, Input, letter_input}
use Rattle.node_model.specs.States.{Shard, Router, Open, NodeState, catalogue_state, shard_state, router_state}
use Rattle.node_model.specs.ShardRows.{Ask, ask_in}
use Rattle.node_model.specs.RouterRequests.{id_of}
use Rattle.node_model.specs.World.{Held, World, journal_at}
use Rattle.node_model.proofs.Journals.{journal_here, journal_got}
use Rattle.node_laws.proofs.Places.{EachAt}
use Rattle.node_laws.proofs.LongerJournals.{changes_longer}
use Rattle.node_laws.proofs.Journals.{journal_else}
use Rattle.node_progress.specs.UnderWay.{Thing, a_table, things_of, IsFor, IsSent}
use Rattle.node_progress.proofs.Places.{get_behind, get_longer}
pub use Rattle.node_progress.proofs.Places.{get_other, length_set, same_place}
use Rattle.node_progress.proofs.Shards.{AreShards}
use Rattle.node_progress.proofs.Versions.{IsWell, well_later}
use Rattle.node_progress.proofs.CataloguePasses.{IsAmong}
use Rattle.node_progress.proofs.RouterWaits.{IsWaiting}
use Rattle.node_progress.proofs.RunVersions.{OpenRuns}

-- THE BAG

-- The places of the messages that are left to deliver; and the requests of which nothing is said: they were taken before a node stopped, or a step was missed.
pub record Left : Type 1 where
  pub places : ℕ → Type 0
  pub lost : RequestId → Type 0

abbrev pub left_but : (left : ℕ → Type 0) → (lost : RequestId → Type 0) → Left
left_but left lost = record { places = left; lost = lost }

-- those where no node stopped, and none missed a step
abbrev pub all_of : (ℕ → Type 0) → Left
all_of left = left_but left (λ id. ⊥)

-- nothing is said of any request, as where a step was missed
abbrev pub AllLost : Left → Type 0
AllLost left = (id : RequestId) → left.lost id

abbrev pub changes_made : World → List Change
changes_made w = changes_kept (journal_at w.nodes 0)

-- a message that is parked at a shard is for the thing
pub record IsHeldFor (nodes : List Held) (t : Thing) : Type 0 where
  pub at : ℕ
  pub shard : Shard
  pub kept : List Kept
  pub steps : ℕ
  pub letter : Letter
  pub here : slice_get nodes at ≡ Some (record { state = shard_state shard; kept = kept; steps = steps })
  pub parked : IsIn letter shard.parked
  pub brings : IsFor t letter

abbrev pub IsCarried : (left : Left) → World → Thing → Type 0
IsCarried left w t = IsSent left.places w.sent t ⊎ IsHeldFor w.nodes t

pub record OpenGoes (left : Left) (w : World) (r : Router) (q : Open) : Type 0 where
  pub waiting : IsWaiting q
  pub runs : OpenRuns (changes_made w) q
  pub some : things_of r q ≢ []
  pub carried : left.lost (id_of r q.count) ⊎ AllByRecursion (IsCarried left w) (things_of r q)

-- currently only the first shard is sent what it may park
pub record ParkedGoes (left : Left) (w : World) (at : ℕ) (s : Shard) (p : Letter) : Type 0 where
  pub first : at ≡ first_shard
  pub ask : Ask
  pub asks : ask_in p.body ≡ Some ask
  pub none : table_of ask.namespace s.tables ≡ None
  pub well : IsWell (changes_made w) (length w.nodes) p
  pub table : left.lost ask.id ⊎ IsSent left.places w.sent (a_table first_shard ask.namespace false no_time)

abbrev pub NodeGoes : (left : Left) → World → (at : ℕ) → NodeState → Type 0
NodeGoes left w at (catalogue_state c) = Unit {0}
NodeGoes left w at (shard_state s) = AllByRecursion (ParkedGoes left w at s) s.parked
NodeGoes left w at (router_state r) = AllByRecursion (OpenGoes left w r) r.requests

-- a message that refuses something goes from one node to another; there is none where no step was missed
pub record Refuses (left : Left) (count : ℕ) (m : Letter) : Type 0 where
  pub lost : AllLost left
  pub what : Refused
  pub cause : Cause
  pub says : m.body ≡ refused what cause
  pub from : m.sender < count
  pub to : m.receiver < count

abbrev pub IsPosted : (left : Left) → List Change → (count : ℕ) → Letter → Type 0
IsPosted left changes count m = IsWell changes count m ⊎ Refuses left count m

pub posted_later : (left later : Left) (news changes more : List Change) (count : ℕ) (m : Letter) → ((id : RequestId) → left.lost id → later.lost id)
    → more ≡ news ++ changes → IsPosted left changes count m → IsPosted later more count m
posted_later left later news changes more count m stay is (inl well) = inl (well_later news changes more count m is well)
posted_later left later news changes more count m stay is (inr r) =
    inr (record { lost = λ id. stay id (r.lost id); what = r.what; cause = r.cause; says = r.says; from = r.from; to = r.to })

-- a request of documents refuses nothing
pub posted_ask : (left : Left) (changes : List Change) (count : ℕ) (m : Letter) (a : Ask) → ask_in m.body ≡ Some a → IsPosted left changes count m
    → IsWell changes count m
posted_ask left changes count m a asks (inl well) = well
posted_ask left changes count m a asks (inr r) =
    let none : ask_in m.body ≡ None = ap (λ b. ask_in b) r.says in
    absurd (cc (none, asks))

-- where not all was lost nothing was refused
pub none_refuses : (left : Left) (changes : List Change) (count : ℕ) (m : Letter) → (AllLost left → ⊥) → IsPosted left changes count m → IsWell changes count m
none_refuses left changes count m some (inl well) = well
none_refuses left changes count m some (inr r) = absurd (some r.lost)

-- not every request was taken
pub not_all_taken : (places : ℕ → Type 0) (w : World) → AllByRecursion (λ (a : Asked). a.id.router < length w.nodes) w.asked
    → AllLost (left_but places (IsOfRequest w.asked)) → ⊥
not_all_taken places w placed all =
    let o = all (record { router = length w.nodes; life = 0; count = 0 }) in
    let inside = all_at (λ (a : Asked). a.id.router < length w.nodes) o.request w.asked placed o.taken in
    let there = ap (λ (id : RequestId). id.router) o.own in
    omega (arith, inside, there)

pub posted_from : (left : Left) (changes : List Change) (count : ℕ) (m : Letter) → IsPosted left changes count m → m.sender < count
posted_from left changes count m (inl well) = well.from
posted_from left changes count m (inr r) = r.from

pub posted_to : (left : Left) (changes : List Change) (count : ℕ) (m : Letter) → IsPosted left changes count m → m.receiver < count
posted_to left changes count m (inl well) = well.to
posted_to left changes count m (inr r) = r.to

pub record Bag (left : Left) (w : World) : Type 0 where
  pub fresh : (n : ℕ) → length w.sent ≤ n → left.places n
  pub well : AllByRecursion (IsPosted left (changes_made w) (length w.nodes)) w.sent
  pub shards : AreShards w.nodes
  pub nodes : EachAt (λ j (h : Held). NodeGoes left w j h.state) 0 w.nodes
  pub asked : AllByRecursion (λ (a : Asked). a.id.router < length w.nodes) w.asked

-- MESSAGES

-- the input is a message that is for the thing
pub record WasFor (i : Input) (t : Thing) : Type 0 where
  pub letter : Letter
  pub is : i ≡ letter_input letter
  pub brings : IsFor t letter

-- of the places that are left only that of the message in the input is none later
abbrev pub ClearsPlaces : (left later : ℕ → Type 0) → List Letter → Input → Type 0
ClearsPlaces left later sent i = (n : ℕ) → left n → later n ⊎ ((m : Letter) × (slice_get sent n ≡ Some m) × (i ≡ letter_input m))

-- and what was lost stays so
pub record Clears (left later : Left) (sent : List Letter) (i : Input) : Type 0 where
  pub places : ClearsPlaces left.places later.places sent i
  pub stay : (id : RequestId) → left.lost id → later.lost id

module _ (left later : ℕ → Type 0) (sent mail : List Letter) (i : Input) (t : Thing) where
  pub sent_moves : ClearsPlaces left later sent i → IsSent left sent t → IsSent later (sent ++ mail) t ⊎ WasFor i t
  sent_moves clears s = by_place (clears s.place s.undelivered)
    where
      by_place : later s.place ⊎ ((m : Letter) × (slice_get sent s.place ≡ Some m) × (i ≡ letter_input m)) → IsSent later (sent ++ mail) t ⊎ WasFor i t
      by_place (inl still) = inl (record {
        place = s.place;
        letter = s.letter;
        got = get_longer sent mail s.place s.letter s.got;
        undelivered = still;
        brings = s.brings;
      })
      by_place (inr (m, got, is)) =
          let both : Some s.letter ≡ Some m = sym s.got ∙ got in
          let same : s.letter ≡ m = cc both in
          inr (record { letter = m; is = is; brings = subst (λ x. IsFor t x) same s.brings })

  pub sent_anew : ((n : ℕ) → length sent ≤ n → later n) → IsAmong mail t → IsSent later (sent ++ mail) t
  sent_anew fresh a =
      let front : List Letter = a.sent.0 in
      let back : List Letter = a.sent.1 in
      let all : (sent ++ front) ++ a.letter ∷ back ≡ sent ++ mail = append_assoc sent front (a.letter ∷ back) ∙ ap (λ l. sent ++ l) (sym a.sent.2) in
      let l = length-append sent front in
      record {
        place = length (sent ++ front);
        letter = a.letter;
        got = subst (λ l. slice_get l (length (sent ++ front)) ≡ Some a.letter) all (get_behind (sent ++ front) a.letter back);
        undelivered = fresh (length (sent ++ front)) (omega (arith, l));
        brings = a.brings;
      }

-- CHANGES

pub record MoreMade (old new : List Change) : Type 0 where
  pub news : List Change
  pub is : new ≡ news ++ old

pub changes_more : (nodes : List Held) (p : ℕ) (old : NodeState) (kept written : List Kept) (steps new_steps : ℕ) (new : NodeState)
    → slice_get nodes p ≡ Some (record { state = old; kept = kept; steps = steps })
    → MoreMade (changes_kept (journal_at nodes 0)) (changes_kept (journal_at (slice_set nodes p (record { state = new; kept = kept ++ written; steps = new_steps })) 0))
changes_more nodes p old kept written steps new_steps new here = by_place (same_place p 0)
  where
    by_place : (p ≡ 0) ⊎ (p ≢ 0)
        → MoreMade (changes_kept (journal_at nodes 0)) (changes_kept (journal_at (slice_set nodes p (record { state = new; kept = kept ++ written; steps = new_steps })) 0))
    by_place (inl zero_place) =
        let new_held : Held = record { state = new; kept = kept ++ written; steps = new_steps } in
        let after : journal_at (slice_set nodes p new_held) p ≡ kept ++ written = journal_here nodes p (record { state = old; kept = kept; steps = steps }) new_held here in
        let before : journal_at nodes p ≡ kept = journal_got nodes p (record { state = old; kept = kept; steps = steps }) here in
        record {
          news = changes_kept written;
          is = ap (λ k. changes_kept (journal_at (slice_set nodes p new_held) k)) (sym zero_place)
              ∙ (ap (λ l. changes_kept l) after ∙ (changes_longer kept written
              ∙ ap (λ l. changes_kept written ++ l) (ap (λ l. changes_kept l) (sym before) ∙ ap (λ k. changes_kept (journal_at nodes k)) zero_place)));
        }
    by_place (inr other) = record {
      news = [];
      is = ap (λ l. changes_kept l) (journal_else nodes p (record { state = new; kept = kept ++ written; steps = new_steps }) 0 (λ e. other (sym e)));
    }
