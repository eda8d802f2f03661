-- A step that a node misses keeps the bag, and nothing is said of any request then.
use Rattle.std.proofs.Common.{◌≡◌, ◌≢◌, ◌⊎◌, inl, inr, ℕ, ◌+◌, ◌<◌, ◌≤◌, List, [], ◌∷◌, length, refl, sym, ap, subst, ◌∙◌, arith, length-append, Bool}
use Rattle.std.specs.Prelude.{ℤ, Option, Some, None, true, false, ◌==◌, if◌then◌else◌}
use Rattle.std.specs.List.{AllByRecursion, slice_get, slice_set}
use Rattle.std.proofs.lemmas.Option.{slice_get_within}
use Rattle.base_model.specs.Identities.{RequestId}
use Rattle.history_model.proofs.Lists.{all_at, all_weaken, all_append}
use Rattle.reply_model.specs.Accounts.{Lack}
use Rattle.reply_model.specs.Exchanges.{Asked}
use Rattle.reply_model.specs.Requests.{Request}
use Rattle.node_model.specs.Journal.{Kept, changes_kept}
use Rattle.node_model.specs.Lacks.{requested_of, requested_of_shard, requested_of_catalogue, refusal_to, turns_away, misses}
use Rattle.node_model.specs.Letters.{no_time, at_time, Body, table_ask, table_told, split_ask, split_done, write_ask, write_done, read_ask, half_ask, read_rows, refused, Refused, of_request, of_table, is_lack, time_ask, time_told, Letter, Input, client_input, letter_input, moment_input, opened_input, Effect, nothing, sends}
use Rattle.node_model.specs.States.{NodeState, catalogue_state, shard_state, router_state, time_of_node}
use Rattle.node_model.specs.Steps.{number_of}
use Rattle.node_model.specs.World.{Held, World, journal_at, steps_after, after_lack, tick, Misses}
use Rattle.node_model.proofs.Journals.{journal_here, journal_got}
use Rattle.node_laws.proofs.Journals.{journal_else}
use Rattle.node_laws.proofs.Places.{each_get, each_set}
use Rattle.node_laws.proofs.Views.{Book, View}
use Rattle.node_laws.proofs.Facts.{BodyFits, IsOfRequest, StateFits, Good}
use Rattle.node_laws.proofs.StepsKeep.{fits_here}
use Rattle.node_progress.proofs.Places.{length_set, same_place}
use Rattle.node_progress.proofs.Shards.{same_node, shards_stay}
use Rattle.node_progress.proofs.Versions.{IsWell, well_later}
use Rattle.node_progress.proofs.RunVersions.{runs_later}
use Rattle.node_progress.proofs.Bags.{Left, AllLost, changes_made, OpenGoes, ParkedGoes, NodeGoes, IsPosted, posted_later, posted_from, Bag}
use Rattle.node_progress.proofs.BagFacts.{IsHere, now, sent_fits, of_node}

-- THE PLACE OF A NODE

pub state_place : (w : World) (book : Book) (p : ℕ) (kept : List Kept) (s : NodeState) → StateFits (now w book) w.asked w.answered p kept s → number_of s ≡ p
state_place w book p kept (catalogue_state c) fits = fits.own
state_place w book p kept (shard_state s) fits = fits.own
state_place w book p kept (router_state r) fits = fits.own

-- WHAT IS REFUSED

-- what is requested names a request that was taken
module _ (v : View) (asked : List Asked) (sender receiver time : ℕ) (id : RequestId) (turn first : ℕ) where
  shard_taken : (b : Body) → requested_of_shard b ≡ Some (of_request id turn first) → BodyFits v asked sender receiver time b → IsOfRequest asked id
  shard_taken (write_ask i t ordered namespace [] sent) is fits =
      record { request = fits.0.request; taken = fits.0.taken; own = fits.0.own ∙ cc is }
  shard_taken (write_ask i t ordered namespace (s ∷ statements) sent) is fits =
      record { request = fits.0.request; taken = fits.0.taken; own = fits.0.own ∙ cc is }
  shard_taken (read_ask i t namespace at half sent) is fits = record { request = fits.0.request; taken = fits.0.taken; own = fits.0.own ∙ cc is }
  shard_taken (half_ask i t namespace at half documents) is fits =
      record { request = fits.0.read.request; taken = fits.0.read.taken; own = fits.0.read.own ∙ cc is }
  shard_taken (time_ask i) is fits = record { request = fits.request; taken = fits.taken; own = fits.own ∙ cc is }
  shard_taken (table_ask namespace create at) is fits = absurd (cc is)
  shard_taken (table_told namespace create at table) is fits = absurd (cc is)
  shard_taken (split_ask i namespace middle) is fits = absurd (cc is)
  shard_taken (split_done i found) is fits = absurd (cc is)
  shard_taken (write_done i dones) is fits = absurd (cc is)
  shard_taken (read_rows i t rows) is fits = absurd (cc is)
  shard_taken (refused what cause) is fits = absurd (cc is)
  shard_taken (time_told i) is fits = absurd (cc is)

  catalogue_taken : (b : Body) → requested_of_catalogue b ≡ Some (of_request id turn first) → BodyFits v asked sender receiver time b → IsOfRequest asked id
  catalogue_taken (split_ask i namespace middle) is fits = record { request = fits.request; taken = fits.taken; own = fits.own ∙ cc is }
  catalogue_taken (table_ask namespace create at) is fits = absurd (cc is)
  catalogue_taken (table_told namespace create at table) is fits = absurd (cc is)
  catalogue_taken (split_done i found) is fits = absurd (cc is)
  catalogue_taken (write_ask i t ordered namespace statements sent) is fits = absurd (cc is)
  catalogue_taken (write_done i dones) is fits = absurd (cc is)
  catalogue_taken (read_ask i t namespace at half sent) is fits = absurd (cc is)
  catalogue_taken (half_ask i t namespace at half documents) is fits = absurd (cc is)
  catalogue_taken (read_rows i t rows) is fits = absurd (cc is)
  catalogue_taken (refused what cause) is fits = absurd (cc is)
  catalogue_taken (time_ask i) is fits = absurd (cc is)
  catalogue_taken (time_told i) is fits = absurd (cc is)

  requested_taken : (s : NodeState) (b : Body) → requested_of s b ≡ Some (of_request id turn first) → BodyFits v asked sender receiver time b → IsOfRequest asked id
  requested_taken (catalogue_state c) b is fits = catalogue_taken b is fits
  requested_taken (shard_state s) b is fits = shard_taken b is fits
  requested_taken (router_state r) b is fits = absurd (cc is)

module _ (left later : Left) (w : World) (book : Book) (p : ℕ) (i : Input) (old : Held) (lack : Lack) (good : Good w book) (bag : Bag left w)
    (here : slice_get w.nodes p ≡ Some old) (comes : IsHere w p i) (lost : AllLost later) where
  abbrev Posted : List Letter → Type 0
  Posted mail = AllByRecursion (IsPosted later (changes_made w) (length w.nodes)) mail

  own_number : number_of old.state < length w.nodes
  own_number =
      subst (λ n. n < length w.nodes) (sym (state_place w book p old.kept old.state (fits_here w book p old good here).state)) (slice_get_within w.nodes p old here)

  refusal_posted : (m : Letter) → i ≡ letter_input m → (what : Refused) → requested_of old.state m.body ≡ Some what
      → Posted (refusal_to (number_of old.state) (time_of_node old.state) m.sender what lack ∷ [])
  refusal_posted m is (of_request id turn first) asks =
      let taken = requested_taken (now w book) w.asked m.sender m.receiver m.time id turn first old.state m.body asks (sent_fits w book left good bag m (comes m is).1).0 in (
        inr (record {
          lost = lost;
          what = of_request id turn first;
          cause = is_lack (number_of old.state) lack;
          says = refl;
          from = own_number;
          to = of_node w book left good bag taken.request taken.taken id taken.own;
        }),
        tt,
      )
  refusal_posted m is (of_table namespace create no_time) asks = (
    inr (record {
      lost = lost;
      what = of_table namespace create no_time;
      cause = is_lack (number_of old.state) lack;
      says = refl;
      from = own_number;
      to = posted_from left (changes_made w) (length w.nodes) m (all_at (IsPosted left (changes_made w) (length w.nodes)) m w.sent bag.well (comes m is).1);
    }),
    tt,
  )
  refusal_posted m is (of_table namespace create (at_time at)) asks = (
    inr (record {
      lost = lost;
      what = of_table namespace create (at_time at);
      cause = is_lack (number_of old.state) lack;
      says = refl;
      from = own_number;
      to = posted_from left (changes_made w) (length w.nodes) m (all_at (IsPosted left (changes_made w) (length w.nodes)) m w.sent bag.well (comes m is).1);
    }),
    tt,
  )

  away_posted : (s : NodeState) (link : ℕ) (number : ℤ) (request : Request) → Posted (turns_away s lack link number request).mail
  away_posted (catalogue_state c) link number request = tt
  away_posted (shard_state s) link number request = tt
  away_posted (router_state r) link number request = tt

  abbrev mail_of : Effect → List Letter
  mail_of f = f.mail

  letter_posted : (m : Letter) → i ≡ letter_input m → Posted (misses old.state lack (letter_input m)).mail
  letter_posted m is = by_receiver (m.receiver == number_of old.state)
    where
      by_request : (o : Option Refused) → requested_of old.state m.body ≡ o → Posted (mail_of (elim o as (λ (o : Option Refused). Effect) [
        | None ↦ nothing
        | Some what ↦ sends (refusal_to (number_of old.state) (time_of_node old.state) m.sender what lack ∷ [])
      ]))
      by_request None asks = tt
      by_request (Some what) asks = refusal_posted m is what asks

      by_receiver : (b : Bool) → Posted (mail_of (if b then elim (requested_of old.state m.body) as (λ (o : Option Refused). Effect) [
        | None ↦ nothing
        | Some what ↦ sends (refusal_to (number_of old.state) (time_of_node old.state) m.sender what lack ∷ [])
      ] else nothing))
      by_receiver true = by_request (requested_of old.state m.body) refl
      by_receiver false = tt

  pub miss_posted : (j : Input) → i ≡ j → Posted (misses old.state lack j).mail
  miss_posted (client_input link number request) is = away_posted old.state link number request
  miss_posted (letter_input m) is = letter_posted m is
  miss_posted (moment_input moment) is = tt
  miss_posted opened_input is = tt

  -- THE WORLD

  abbrev stayed : Held
  stayed = record { state = old.state; kept = old.kept; steps = steps_after lack old.steps }

  abbrev v : World
  v = tick (after_lack w p old lack (misses old.state lack i))

  changes_same : changes_made v ≡ changes_made w
  changes_same = ap (λ l. changes_kept l) (by_place (same_place 0 p))
    where
      by_place : (0 ≡ p) ⊎ (0 ≢ p) → journal_at (slice_set w.nodes p stayed) 0 ≡ journal_at w.nodes 0
      by_place (inl same) =
          subst (λ k. journal_at (slice_set w.nodes p stayed) k ≡ journal_at w.nodes k) (sym same)
          (journal_here w.nodes p old stayed here ∙ sym (journal_got w.nodes p old here))
      by_place (inr other) = journal_else w.nodes p stayed 0 other

  count_same : length v.nodes ≡ length w.nodes
  count_same = length_set w.nodes p stayed

  well_same : (m : Letter) → IsWell (changes_made w) (length w.nodes) m → IsWell (changes_made v) (length v.nodes) m
  well_same m well =
      subst (λ n. IsWell (changes_made v) n m) (sym count_same) (well_later [] (changes_made w) (changes_made v) (length w.nodes) m changes_same well)

  posted_same : ((id : RequestId) → left.lost id → later.lost id) → (m : Letter) → IsPosted left (changes_made w) (length w.nodes) m
      → IsPosted later (changes_made v) (length v.nodes) m
  posted_same stay m posted =
      subst (λ n. IsPosted later (changes_made v) n m) (sym count_same)
      (posted_later left later [] (changes_made w) (changes_made v) (length w.nodes) m stay changes_same posted)

  new_posted : (m : Letter) → IsPosted later (changes_made w) (length w.nodes) m → IsPosted later (changes_made v) (length v.nodes) m
  new_posted m posted =
      subst (λ n. IsPosted later (changes_made v) n m) (sym count_same)
      (posted_later later later [] (changes_made w) (changes_made v) (length w.nodes) m (λ id l. l) changes_same posted)

  goes_lost : (j : ℕ) (s : NodeState) → NodeGoes left w j s → NodeGoes later v j s
  goes_lost j (catalogue_state c) goes = tt
  goes_lost j (shard_state s) goes =
      all_weaken (ParkedGoes left w j s) (ParkedGoes later v j s) s.parked (λ x g. record {
        first = g.first;
        ask = g.ask;
        asks = g.asks;
        none = g.none;
        well = well_same x g.well;
        table = inl (lost g.ask.id);
      }) goes
  goes_lost j (router_state r) goes =
      all_weaken (OpenGoes left w r) (OpenGoes later v r) r.requests (λ q o. record {
        waiting = o.waiting;
        runs = runs_later [] (changes_made w) (changes_made v) q.namespace q.work changes_same o.runs;
        some = o.some;
        carried = inl (lost _);
      }) goes

  asked_same : (a : Asked) → a.id.router < length w.nodes → a.id.router < length v.nodes
  asked_same a inside = subst (λ n. a.id.router < n) (sym count_same) inside

  pub missed_bag : ((id : RequestId) → left.lost id → later.lost id) → ((n : ℕ) → length w.sent ≤ n → later.places n) → Bag later v
  missed_bag stay fresh = record {
    fresh = λ n le. let l = length-append w.sent (misses old.state lack i).mail in fresh n (omega (arith, le, l));
    well = all_append (IsPosted later (changes_made v) (length v.nodes)) w.sent (misses old.state lack i).mail
        (all_weaken (IsPosted left (changes_made w) (length w.nodes)) (IsPosted later (changes_made v) (length v.nodes)) w.sent (λ m x. posted_same stay m x) bag.well)
        (all_weaken (IsPosted later (changes_made w) (length w.nodes)) (IsPosted later (changes_made v) (length v.nodes)) (misses old.state lack i).mail
        (λ m x. new_posted m x) (miss_posted i refl));
    shards = shards_stay w.nodes p old stayed here (same_node old.state) bag.shards;
    nodes =
        each_set (λ j (h : Held). NodeGoes left w j h.state) (λ j (h : Held). NodeGoes later v j h.state) 0 p w.nodes stayed
        (λ j h other goes. goes_lost j h.state goes)
        (goes_lost (0 + p) old.state (each_get (λ j (h : Held). NodeGoes left w j h.state) 0 p w.nodes old bag.nodes here)) bag.nodes;
    asked = all_weaken (λ (a : Asked). a.id.router < length w.nodes) (λ (a : Asked). a.id.router < length v.nodes) w.asked asked_same bag.asked;
  }

pub miss_bag : (left later : Left) (w v : World) (book : Book) (p : ℕ) (i : Input) → Good w book → Bag left w → AllLost later
    → ((id : RequestId) → left.lost id → later.lost id) → ((n : ℕ) → length w.sent ≤ n → later.places n) → IsHere w p i → Misses w p i v → Bag later v
miss_bag left later w v book p i good bag lost stay fresh comes m =
    subst (λ x. Bag later x) (sym m.then) (missed_bag left later w book p i m.old m.lack good bag m.here comes lost stay fresh)
