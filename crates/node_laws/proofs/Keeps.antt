-- A step that owes what it owes keeps all facts.
use Rattle.std.proofs.Common.{◌≡◌, ◌≢◌, ◌⊎◌, inl, inr, ℕ, zero, suc, ◌+◌, ◌<◌, ◌≤◌, List, [], ◌∷◌, ◌++◌, refl, sym, ap, subst, ◌∙◌, arith}
use Rattle.std.specs.Prelude.{Some, true, false, filter}
use Rattle.std.specs.List.{AllByRecursion, slice_get, slice_set}
use Rattle.history_model.proofs.Lists.{all_weaken, all_both, all_append, all_at, all_from, in_prefix, in_append}
use Rattle.command_model.specs.Writes.{WriteCommand}
use Rattle.chunk_model.specs.Changes.{known_table}
use Rattle.chunk_model.specs.Tables.{first_shard}
use Rattle.history_model.specs.History.{Entry, IsIn}
use Rattle.reply_model.specs.Exchanges.{Asked, Answered}
use Rattle.reply_model.specs.Accounts.{Given, Missed, TurnedAway, Dated, changes_in as changes_of}
use Rattle.reply_model.specs.OneHistory.{WasWanted, StandsInPart, IsPlaced, AreNumbered, IsFresh, IsInOrder, ids_asked, ids_told, AreDifferent}
use Rattle.node_model.specs.Journal.{Kept, entries_kept, changes_kept, greatest_kept}
use Rattle.node_model.specs.Letters.{Body, table_ask, table_told, split_ask, split_done, write_ask, write_done, read_ask, half_ask, read_rows, refused, time_ask, time_told, Letter, Effect}
use Rattle.node_model.specs.States.{Open, Router, Shard, NodeState, catalogue_state, shard_state, router_state}
use Rattle.node_model.specs.RouterRequests.{id_of}
use Rattle.node_model.specs.World.{Held, World, asked_by, answered_by, dated_onto, journal_at}
use Rattle.node_model.proofs.Journals.{journal_here}
use Rattle.node_laws.proofs.Views.{Choice, Reach, reach_of, More, Book, View, view_of, entries_in, changes_in, history_in, IsWithin, MovesNothing, Later}
use Rattle.node_laws.proofs.CatalogueTables.{wanted_still, placed_first}
use Rattle.node_laws.proofs.Places.{EachAt, each_get, each_set, each_both}
use Rattle.node_laws.proofs.WriteFacts.{WasMade}
use Rattle.node_laws.proofs.TimeFacts.{IsToldOf, IsPast, IsHeard, HeardFits}
use Rattle.node_laws.proofs.Facts.{IsOpenOf, RouterFits, node_of, ReachFits, raises_of, IsAwayOf, BodyFits, ShardFits, StateFits, is_of, HeldFits, IsMet, AnswersFit, TimeFits, TellsAll, AreMade, NeighboursFit, IsCatalogue, IsShard, InOrder, SentFits, Good, SameKind}
use Rattle.node_laws.proofs.Dates.{IsNoChange, none_before, missing_grows, dated_same}
use Rattle.node_laws.proofs.Owes.{asked_after, answered_after, dated_after, IsSaid, StaysHeard, OwesIn, Owes}
use Rattle.node_laws.proofs.Lists.{all_of, map_longer, in_mapped}
use Rattle.node_laws.proofs.Reaches.{reach_joined, reach_else, raises_own, reach_after, reach_other}
use Rattle.node_laws.proofs.LongerJournals.{beside_stays}
use Rattle.node_laws.proofs.Growth.{letter_grows, met_later}
use Rattle.node_laws.proofs.Journals.{with_more, with_news, more_self, views_later, journal_else}
use Rattle.node_laws.proofs.GreatestTimes.{entries_within, changes_within}
use Rattle.node_laws.proofs.Requests.{answered_now, answered_here, asked_now, asked_here, still_fresh}
use Rattle.node_laws.proofs.Others.{Decided, other_fits}
use Rattle.node_laws.proofs.Answers.{Grows, IsClosed, all_closed, answers_grow, answers_joined}

-- THE ORDER OF NODES

kind_catalogue : (s t : NodeState) → SameKind s t → IsCatalogue s → IsCatalogue t
kind_catalogue (catalogue_state c) (catalogue_state d) same is = tt
kind_catalogue (catalogue_state c) (shard_state d) same is = absurd same
kind_catalogue (catalogue_state c) (router_state d) same is = absurd same
kind_catalogue (shard_state s) t same is = absurd is
kind_catalogue (router_state s) t same is = absurd is

kind_shard : (s t : NodeState) → SameKind s t → IsShard s → IsShard t
kind_shard (shard_state c) (shard_state d) same is = tt
kind_shard (shard_state c) (catalogue_state d) same is = absurd same
kind_shard (shard_state c) (router_state d) same is = absurd same
kind_shard (catalogue_state s) t same is = absurd is
kind_shard (router_state s) t same is = absurd is

order_set : (c s : Held) (routers : List Held) (at : ℕ) (old new : Held) → slice_get (c ∷ s ∷ routers) at ≡ Some old → SameKind old.state new.state
    → IsCatalogue c.state → IsShard s.state → InOrder (slice_set (c ∷ s ∷ routers) at new)
order_set c s routers zero old new here kind is_c is_s = let same : c ≡ old = cc in
    (new, s, routers, refl, kind_catalogue old.state new.state kind (subst (λ (h : Held). IsCatalogue h.state) same is_c), is_s)
order_set c s routers (suc zero) old new here kind is_c is_s = let same : s ≡ old = cc in
    (c, new, routers, refl, is_c, kind_shard old.state new.state kind (subst (λ (h : Held). IsShard h.state) same is_s))
order_set c s routers (suc (suc at)) old new here kind is_c is_s = (c, s, slice_set routers at new, refl, is_c, is_s)

order_after : (nodes : List Held) (at : ℕ) (old new : Held) → InOrder nodes → slice_get nodes at ≡ Some old → SameKind old.state new.state
    → InOrder (slice_set nodes at new)
order_after nodes at old new (c, s, routers, same, is_c, is_s) here kind = subst (λ l. InOrder (slice_set l at new)) (sym same)
    (order_set c s routers at old new (ap (λ l. slice_get l at) (sym same) ∙ here) kind is_c is_s)

-- the first shard, where its journal says all entries
pub record TheShard (w : View) (asked : List Asked) (nodes : List Held) : Type 0 where
  pub shard : Shard
  pub kept : List Kept
  pub fits : ShardFits w asked first_shard kept shard
  pub journal : journal_at nodes first_shard ≡ kept

the_shard_in : (w : View) (asked : List Asked) (answered : List Answered) (given : List Given) (c h : Held) (routers : List Held) → IsShard h.state
    → EachAt (HeldFits w asked answered given) 0 (c ∷ h ∷ routers) → TheShard w asked (c ∷ h ∷ routers)
the_shard_in w asked answered given c h routers is all = by_state h.state refl is all.1.0.state
  where
    by_state : (s : NodeState) → h.state ≡ s → IsShard s → StateFits w asked answered first_shard h.kept s → TheShard w asked (c ∷ h ∷ routers)
    by_state (shard_state s) same is fits = record { shard = s; kept = h.kept; fits = fits; journal = refl }
    by_state (catalogue_state s) same is fits = absurd is
    by_state (router_state s) same is fits = absurd is

pub the_shard : (w : View) (asked : List Asked) (answered : List Answered) (given : List Given) (nodes : List Held) → InOrder nodes
    → EachAt (HeldFits w asked answered given) 0 nodes → TheShard w asked nodes
the_shard w asked answered given nodes (c, s, routers, same, is_c, is_s) all =
    let t = the_shard_in w asked answered given c s routers is_s (subst (λ l. EachAt (HeldFits w asked answered given) 0 l) same all) in
    record {
      shard = t.shard;
      kept = t.kept;
      fits = t.fits;
      journal = ap (λ l. journal_at l first_shard) same ∙ t.journal;
    }

-- WHAT THE CATALOGUE AND THE SHARD KEEP

catalogue_begun : (w : View) (asked : List Asked) (answered : List Answered) (kept : List Kept) (s : NodeState) → IsCatalogue s
    → StateFits w asked answered 0 kept s → AreMade (greatest_kept kept) (changes_kept kept)
catalogue_begun w asked answered kept (catalogue_state c) is fits = record {
  fitting = fits.fitting;
  past = changes_within kept;
  still = all_weaken (WasWanted asked) MovesNothing (changes_kept kept) (λ x h. wanted_still asked x h) fits.wanted;
}
catalogue_begun w asked answered kept (shard_state s) is fits = absurd is
catalogue_begun w asked answered kept (router_state r) is fits = absurd is

pub the_begun : (w : View) (asked : List Asked) (answered : List Answered) (given : List Given) (nodes : List Held) → InOrder nodes
    → EachAt (HeldFits w asked answered given) 0 nodes → AreMade (greatest_kept (journal_at nodes 0)) (changes_kept (journal_at nodes 0))
the_begun w asked answered given nodes (c, s, routers, same, is_c, is_s) all =
    let fits = (subst (λ l. EachAt (HeldFits w asked answered given) 0 l) same all).0 in
    subst (λ l. AreMade (greatest_kept (journal_at l 0)) (changes_kept (journal_at l 0))) (sym same) (catalogue_begun w asked answered c.kept c.state is_c fits.state)

-- in a view of the nodes
pub nodes_keep : (v : View) (asked : List Asked) (answered : List Answered) (given : List Given) (nodes : List Held) → InOrder nodes
    → EachAt (HeldFits v asked answered given) 0 nodes → ((at : ℕ) → v.journal at ≡ journal_at nodes at) → ((at : ℕ) → v.bound at ≡ greatest_kept (journal_at nodes at))
    → AreDifferent (ids_asked asked) → NeighboursFit v asked
nodes_keep v asked answered given nodes order all journals bounds different =
    let s = the_shard v asked answered given nodes order all in
    let b = the_begun v asked answered given nodes order all in
    let changes : changes_in v ≡ changes_kept (journal_at nodes 0) = ap (λ k. changes_kept k) (journals 0) in
    let entries : s.shard.entries ≡ history_in v = s.fits.entries ∙ sym (ap (λ k. entries_kept k) (journals first_shard ∙ s.journal)) in
    record {
      begun = subst (λ l. AreMade (v.bound 0) l) (sym changes) (subst (λ t. AreMade t (changes_kept (journal_at nodes 0))) (sym (bounds 0)) b);
      one = different;
      past = subst (λ l. AllByRecursion (IsWithin v.bound) l) entries
          (all_both (λ (e : Entry). e.time ≤ greatest_kept s.kept) (IsPlaced (changes_in v)) (IsWithin v.bound) s.shard.entries
          (λ e le placed.
          let of_first : e.shard ≡ first_shard = placed_first (changes_in v) s.fits.still e placed in (
            of_first,
            subst (λ n. e.time ≤ n)
                (sym (bounds e.shard ∙ ap (λ n. greatest_kept (journal_at nodes n)) of_first ∙ ap (λ k. greatest_kept k) s.journal)) le,
          ))
          (subst (λ l. AllByRecursion (λ (e : Entry). e.time ≤ greatest_kept s.kept) l) (sym s.fits.entries) (entries_within s.kept)) s.fits.placed);
      sent = subst (λ l. AllByRecursion (WasMade (history_in v) asked v.reached) l) entries s.fits.sent;
      numbers = subst (λ l. AreNumbered l) entries s.fits.numbers;
      parts = subst (λ l. AllByRecursion (StandsInPart l) asked) entries s.fits.parts;
      placed = subst (λ l. AllByRecursion (IsPlaced (changes_in v)) l) entries s.fits.placed;
    }

-- REQUESTS

-- requests in order stay so, since a new one comes now
order_stays : (asked more : List Asked) (now : ℕ) (a : Asked) → a.came < now + 1 → AllByRecursion (λ (b : Asked). b.came ≡ now) more → IsInOrder asked a
    → IsInOrder (asked ++ more) a
order_stays asked more now a came news order =
    all_append (λ (b : Asked). b.id.router ≡ a.id.router → b.id.life ≡ a.id.life → b.came < a.came → b.time ≤ a.time) asked more order
    (all_weaken (λ (b : Asked). b.came ≡ now) (λ (b : Asked). b.id.router ≡ a.id.router → b.id.life ≡ a.id.life → b.came < a.came → b.time ≤ a.time) more
    (λ b e router life before. absurd (omega arith)) news)

-- TIMES THAT SHARDS SEND

-- a shard stores the entries of its own among all
stored_there : (v : View) (asked : List Asked) (shard : ℕ) (e : Entry) → NeighboursFit v asked → IsIn e (history_in v) → e.shard ≡ shard
    → IsIn e (entries_in v shard)
stored_there v asked shard e n i own =
    let first : e.shard ≡ first_shard = placed_first (changes_in v) n.begun.still e (all_at (IsPlaced (changes_in v)) e (history_in v) n.placed i) in
    subst (λ k. IsIn e (entries_in v k)) (sym first ∙ own) i

-- what is sent fits
times_told : (v : View) (dated : List Dated) (asked : List Asked) (answered : List Answered) (sender receiver time : ℕ) (b : Body)
    → changes_of dated ≡ changes_in v → NeighboursFit v asked → BodyFits v asked sender receiver time b
    → TellsAll v asked sender time b
    → TimeFits v dated asked answered sender time b
times_told v dated asked answered sender receiver time (split_done id false) same around fits none = record {
  request = none.request;
  taken = none.taken;
  own = none.own;
  split = none.split;
  asks = none.asks;
  none = none_before none.request.came none.split.namespace dated (ap (λ l. known_table none.split.namespace l) same ∙ none.none);
}
times_told v dated asked answered sender receiver time (split_done id true) same around fits all = tt
times_told v dated asked answered sender receiver time (split_ask id namespace middle) same around fits all = tt
times_told v dated asked answered sender receiver time (time_told id) same around fits all = (
  fits.request,
  fits.taken,
  fits.own,
  λ s write index e i before stands own told. all_at (λ (d : Entry). d.time ≤ time) e (entries_in v sender) all (stored_there v asked sender e around stands own),
)
times_told v dated asked answered sender receiver time (table_ask namespace create at) same around fits all = tt
times_told v dated asked answered sender receiver time (table_told namespace create at table) same around fits all = tt
times_told v dated asked answered sender receiver time (write_ask id turn ordered namespace statements sent) same around fits all = tt
times_told v dated asked answered sender receiver time (write_done id dones) same around fits all = tt
times_told v dated asked answered sender receiver time (read_ask id turn namespace at half sent) same around fits all = tt
times_told v dated asked answered sender receiver time (half_ask id turn namespace at half documents) same around fits all = tt
times_told v dated asked answered sender receiver time (read_rows id turn rows) same around fits all = tt
times_told v dated asked answered sender receiver time (refused what cause) same around fits all = tt
times_told v dated asked answered sender receiver time (time_ask id) same around fits all = tt

-- and continues to fit
module _ (v w : View) (dated : List Dated) (written : List Kept) (asked more : List Asked) (answered news : List Answered) (now : ℕ)
    (g : Grows v w asked more answered news now)
    (closed : AllByRecursion (IsClosed v w) answered) where
  past_grows : (a : Asked) (shard time : ℕ) → IsIn a asked → IsPast v shard answered a time → IsPast w shard (answered ++ news) a time
  past_grows a shard time taken past = λ s write index e i before stands own told.
      by_place s write index e before stands own told (in_append s answered news i)
    where
      by_place : (s : Answered) (write : WriteCommand) (index : ℕ) (e : Entry) → s.step < a.came → IsIn e (history_in w) → e.shard ≡ shard
          → IsToldOf s write index e → IsIn s answered ⊎ IsIn s news → e.time ≤ time
      by_place s write index e before stands own told (inl j) =
          past s write index e j before (all_at (IsClosed v w) s answered closed j write index e stands told) own told
      by_place s write index e before stands own told (inr j) =
          let at : s.step ≡ now = all_at (λ (x : Answered). x.step ≡ now) s news g.steps j in
          let came : a.came < now + 1 = all_at (λ (x : Asked). x.came < now + 1) a asked g.came taken in
          absurd (omega arith)

  times_grow : (sender receiver time : ℕ) (b : Body) → BodyFits v asked sender receiver time b → TimeFits v dated asked answered sender time b
      → TimeFits w (dated_onto now dated written) (asked ++ more) (answered ++ news) sender time b
  times_grow sender receiver time (split_done id false) fits f = missing_grows now dated written asked more g.came id f
  times_grow sender receiver time (split_done id true) fits f = tt
  times_grow sender receiver time (split_ask id namespace middle) fits f = tt
  times_grow sender receiver time (time_told id) fits (a, taken, own, past) =
      (a, in_prefix a asked more taken, own, past_grows a sender time taken past)
  times_grow sender receiver time (table_ask namespace create at) fits f = tt
  times_grow sender receiver time (table_told namespace create at table) fits f = tt
  times_grow sender receiver time (write_ask id turn ordered namespace statements sent) fits f = tt
  times_grow sender receiver time (write_done id dones) fits f = tt
  times_grow sender receiver time (read_ask id turn namespace at half sent) fits f = tt
  times_grow sender receiver time (half_ask id turn namespace at half documents) fits f = tt
  times_grow sender receiver time (read_rows id turn rows) fits f = tt
  times_grow sender receiver time (refused what cause) fits f = tt
  times_grow sender receiver time (time_ask id) fits f = tt

  heard_grows : (s : NodeState) → HeardFits v asked answered s → HeardFits w (asked ++ more) (answered ++ news) s
  heard_grows (catalogue_state c) h = tt
  heard_grows (shard_state s) h = tt
  heard_grows (router_state r) h = record {
    some = h.some;
    requests = all_weaken (IsHeard v asked answered r) (IsHeard w (asked ++ more) (answered ++ news) r) r.requests
        (λ q x. record {
          request = x.request;
          taken = in_prefix x.request asked more x.taken;
          own = x.own;
          past = all_weaken (λ shard. IsPast v shard answered x.request r.time) (λ shard. IsPast w shard (answered ++ news) x.request r.time) q.told
              (λ shard past. past_grows x.request shard r.time x.taken past) x.past;
        }) h.requests;
  }

  letters_grow : (given : List Given) (m : Letter) → SentFits v dated asked answered given m
      → SentFits w (dated_onto now dated written) (asked ++ more) (answered ++ news) given m
  letters_grow given m f = (
    letter_grows v w asked more m g.later f.0,
    met_later v w given m.time g.later f.1,
    times_grow m.sender m.receiver m.time m.body f.0 f.2,
  )

-- WHAT IS NOTED

-- what is noted is of requests of the node that were taken and not answered
of_router : (v : View) (asked : List Asked) (answered : List Answered) (at : ℕ) (kept : List Kept) (new : NodeState) → StateFits v asked answered at kept new
    → (r : Router) → new ≡ router_state r → RouterFits v asked answered at r
of_router v asked answered at kept new fits r same = subst (λ s. StateFits v asked answered at kept s) same fits

raises_at : (v : View) (asked : List Asked) (answered : List Answered) (at : ℕ) (kept : List Kept) (new : NodeState) → StateFits v asked answered at kept new
    → AllByRecursion (λ (x : Reach). x.id.router ≡ at) (raises_of new)
raises_at v asked answered at kept new fits =
    raises_own (λ id. id.router ≡ at) new
    (λ r same. let own = (of_router v asked answered at kept new fits r same).own in all_of (λ (q : Open). (id_of r q.count).router ≡ at) r.requests (λ q. own))

raises_asked : (v : View) (asked : List Asked) (answered : List Answered) (at : ℕ) (kept : List Kept) (new : NodeState) → StateFits v asked answered at kept new
    → AllByRecursion (λ (x : Reach). IsIn x.id (ids_asked asked)) (raises_of new)
raises_asked v asked answered at kept new fits =
    raises_own (λ id. IsIn id (ids_asked asked)) new
    (λ r same. all_weaken (IsOpenOf v asked answered r) (λ (q : Open). IsIn (id_of r q.count) (ids_asked asked)) r.requests
    (λ q o. subst (λ id. IsIn id (ids_asked asked)) o.own (in_mapped (λ (a : Asked). a.id) o.request asked o.taken))
    (of_router v asked answered at kept new fits r same).requests)

-- so nothing is noted of those that were answered before
cut_by : (v : View) (asked : List Asked) (answered news : List Answered) (at : ℕ) (kept : List Kept) (notes : List Reach) (new : NodeState)
    → StateFits v asked (answered ++ news) at kept new
    → AllByRecursion (λ (t : Answered). reach_of t.id (notes ++ raises_of new) ≤ reach_of t.id notes) answered
cut_by v asked answered news at kept notes new fits =
    all_from (λ (t : Answered). reach_of t.id (notes ++ raises_of new) ≤ reach_of t.id notes) answered
    (λ t i. reach_joined t.id notes (raises_of new) (reach_of t.id notes) (omega arith)
    (let none = reach_else t.id (raises_of new)
    (raises_own (λ id. id ≢ t.id) new
    (λ r same. all_weaken (IsOpenOf v asked (answered ++ news) r) (λ (q : Open). id_of r q.count ≢ t.id) r.requests
    (λ q o e. all_at (λ (x : Answered). x.id ≢ id_of r q.count) t (answered ++ news) o.silent (in_prefix t answered news i) (sym e))
    (of_router v asked (answered ++ news) at kept new fits r same).requests)) in
    omega (arith, none)))

-- A STEP

-- the facts on the world after a step, in this view of it
pub record GoodIn (v : View) (w : World) (at : ℕ) (old : Held) (f : Effect) (new : NodeState) (steps : ℕ) : Type 0 where
  pub order : InOrder (slice_set w.nodes at (with_more old f.written new steps))
  pub nodes : EachAt (HeldFits v (asked_after w f) (answered_after w f) w.given) 0 (slice_set w.nodes at (with_more old f.written new steps))
  pub letters : AllByRecursion (SentFits v (dated_after w f) (asked_after w f) (answered_after w f) w.given) (w.sent ++ f.mail)
  pub heard : EachAt (λ k h. HeardFits v (asked_after w f) (answered_after w f) h.state) 0 (slice_set w.nodes at (with_more old f.written new steps))
  pub answers : AnswersFit v (asked_after w f) (answered_after w f) [] (answered_after w f) v.cursors
  pub decided : AllByRecursion (λ (c : Choice). IsIn c.id (ids_asked (asked_after w f))) v.chosen
  pub came : AllByRecursion (λ (a : Asked). a.came < w.now + 1) (asked_after w f)
  pub one : AreDifferent (ids_asked (asked_after w f))
  pub once : AreDifferent (ids_told (answered_after w f))
  pub fresh : AllByRecursion (IsFresh (answered_after w f)) (asked_after w f)
  pub in_order : AllByRecursion (IsInOrder (asked_after w f)) (asked_after w f)
  pub known : AllByRecursion (λ (a : Asked). IsMet v w.given a.time) (asked_after w f)
  pub met : AllByRecursion (λ (t : Answered). IsMet v w.given t.time) (answered_after w f)

good_parts : (w : World) (book : Book) (at : ℕ) (old : Held) (f : Effect) (new : NodeState) (steps : ℕ) (missed : List Missed) (v : View) → Good w book
    → slice_get w.nodes at ≡ Some old → (owes : Owes w book at (node_of old) f new)
    → v ≡ view_of (slice_set w.nodes at (with_more old f.written new steps)) (with_news book owes.news owes.cursors w.given missed (raises_of new))
    → Later (view_of w.nodes book) v → changes_of (dated_after w f) ≡ changes_in v → HeardFits v (asked_after w f) (answered_after w f) new
    → OwesIn v w book at (node_of old) f new → GoodIn v w at old f new steps
good_parts w book at old f new steps missed v good here owes is later dated heard owed =
    let u : View = view_of w.nodes book in
    let more : List Asked = asked_by w.now f.taken in
    let news : List Answered = answered_by w.now f.replies in
    let own = asked_here w.now at f.taken owes.taken in
    let told = answered_here w.now at f.replies owes.told in
    let replied = answered_now w.now f.replies in
    let comes = asked_now w.now f.taken in
    let zero_at : 0 + at ≡ at = omega arith in
    let decides : Decided at u v = record {
      news = owes.news;
      same = ap (λ (x : View). x.chosen) is;
      theirs = all_weaken (λ (c : Choice). (c.id.router ≡ at) × IsIn c.id (ids_asked (asked_after w f))) (λ (c : Choice). c.id.router ≡ at) owes.news
          (λ c h. h.0) owes.chose;
    } in
    let elsewhere : (router : ℕ) → router ≢ at → filter (is_of router) v.cursors ≡ filter (is_of router) book.cursors =
    λ router other. ap (λ (x : View). filter (is_of router) x.cursors) is ∙ owes.elsewhere router other in
    let nodes : EachAt (HeldFits v (asked_after w f) (answered_after w f) w.given) 0 (slice_set w.nodes at (with_more old f.written new steps)) =
    each_set (HeldFits u w.asked w.answered w.given) (HeldFits v (asked_after w f) (answered_after w f) w.given) 0 at w.nodes (with_more old f.written new steps)
    (λ j h other fits. other_fits u v w.asked more w.answered news w.given j at h (λ e. other (omega (arith, e))) later decides elsewhere owes.one
    own told fits)
    (subst (λ k. HeldFits v (asked_after w f) (answered_after w f) w.given k (with_more old f.written new steps)) (sym zero_at) owed.node) good.nodes in
    let order : InOrder (slice_set w.nodes at (with_more old f.written new steps)) = order_after w.nodes at old (with_more old f.written new steps) good.order
    here owes.kind in
    let before : NeighboursFit u w.asked = nodes_keep u w.asked w.answered w.given w.nodes good.order good.nodes (λ p. refl) (λ p. refl) good.one in
    let after : NeighboursFit v (asked_after w f) = nodes_keep v (asked_after w f) (answered_after w f) w.given
    (slice_set w.nodes at (with_more old f.written new steps)) order nodes
    (λ p. ap (λ (x : View). x.journal p) is) (λ p. ap (λ (x : View). x.bound p) is) owes.one in
    let noted : v.reached ≡ book.reached ++ raises_of new = ap (λ (x : View). x.reached) is in
    let g : Grows u v w.asked more w.answered news w.now = record {
      later = later;
      before = before;
      after = after;
      came = good.came;
      steps = replied;
      cut = subst (λ l. AllByRecursion (λ (t : Answered). reach_of t.id l ≤ reach_of t.id book.reached) w.answered) (sym noted)
          (cut_by v (asked_after w f) w.answered news at (old.kept ++ f.written) book.reached new owed.node.state);
    } in
    let closed : AllByRecursion (IsClosed u v) w.answered = all_closed u v w.asked more w.answered later before after [] book.cursors w.answered good.answers in
    record {
      order = order;
      nodes = nodes;
      letters = all_append (SentFits v (dated_after w f) (asked_after w f) (answered_after w f) w.given) w.sent f.mail
          (all_weaken (SentFits u w.changed w.asked w.answered w.given) (SentFits v (dated_after w f) (asked_after w f) (answered_after w f) w.given) w.sent
          (λ m h. letters_grow u v w.changed f.written w.asked more w.answered news w.now g closed w.given m h) good.letters)
          (all_weaken (IsSaid v (asked_after w f) w.given) (SentFits v (dated_after w f) (asked_after w f) (answered_after w f) w.given) f.mail
          (λ m h. (
            h.0,
            h.1,
            times_told v (dated_after w f) (asked_after w f) (answered_after w f) m.sender m.receiver m.time m.body dated after h.0 h.2,
          )) owed.letters);
      heard = each_set (λ k h. HeardFits u w.asked w.answered h.state) (λ k h. HeardFits v (asked_after w f) (answered_after w f) h.state) 0 at w.nodes
          (with_more old f.written new steps)
          (λ k h other fits. heard_grows u v w.changed f.written w.asked more w.answered news w.now g closed h.state fits) heard good.heard;
      answers = answers_joined v (asked_after w f) (answered_after w f) [] book.cursors v.cursors w.answered news
          (answers_grow u v w.asked more w.answered news w.now g closed [] book.cursors w.answered (λ t i. i) good.answers) owed.answers;
      decided = subst (λ l. AllByRecursion (λ (c : Choice). IsIn c.id (ids_asked (asked_after w f))) l) (sym (ap (λ (x : View). x.chosen) is))
          (all_append (λ (c : Choice). IsIn c.id (ids_asked (asked_after w f))) book.chosen owes.news
          (all_weaken (λ (c : Choice). IsIn c.id (ids_asked w.asked)) (λ (c : Choice). IsIn c.id (ids_asked (asked_after w f))) book.chosen
          (λ c i. subst (λ l. IsIn c.id l) (sym (map_longer (λ (a : Asked). a.id) w.asked more)) (in_prefix c.id (ids_asked w.asked) (ids_asked more) i))
          good.decided)
          (all_weaken (λ (c : Choice). (c.id.router ≡ at) × IsIn c.id (ids_asked (asked_after w f)))
          (λ (c : Choice). IsIn c.id (ids_asked (asked_after w f))) owes.news
          (λ c h. h.1) owes.chose));
      came = all_append (λ (a : Asked). a.came < w.now + 1) w.asked more good.came
          (all_weaken (λ (a : Asked). a.came ≡ w.now) (λ (a : Asked). a.came < w.now + 1) more (λ a e. omega arith) comes);
      one = owes.one;
      once = owes.once;
      fresh = all_append (IsFresh (answered_after w f)) w.asked more
          (all_both (λ (a : Asked). a.came < w.now + 1) (IsFresh w.answered) (IsFresh (answered_after w f)) w.asked
          (λ a early h. still_fresh w.answered news w.now a early replied h) good.came good.fresh)
          (all_both (λ (a : Asked). a.came ≡ w.now) (IsFresh w.answered) (IsFresh (answered_after w f)) more
          (λ a e h. still_fresh w.answered news w.now a (omega arith) replied h) comes owes.fresh);
      in_order = all_append (IsInOrder (asked_after w f)) w.asked more
          (all_both (λ (a : Asked). a.came < w.now + 1) (IsInOrder w.asked) (IsInOrder (asked_after w f)) w.asked
          (λ a early h. order_stays w.asked more w.now a early comes h) good.came good.in_order)
          (all_both (λ (a : Asked). a.came ≡ w.now) (IsInOrder w.asked) (IsInOrder (asked_after w f)) more
          (λ a e h. order_stays w.asked more w.now a (omega arith) comes h) comes owes.in_order);
      known = all_append (λ (a : Asked). IsMet v w.given a.time) w.asked more
          (all_weaken (λ (a : Asked). IsMet u w.given a.time) (λ (a : Asked). IsMet v w.given a.time) w.asked
          (λ a h. met_later u v w.given a.time later h) good.known)
          owed.known;
      met = all_append (λ (t : Answered). IsMet v w.given t.time) w.answered news
          (all_weaken (λ (t : Answered). IsMet u w.given t.time) (λ (t : Answered). IsMet v w.given t.time) w.answered
          (λ t h. met_later u v w.given t.time later h) good.met)
          owed.met;
    }

-- the world after what a node did, with so many steps, these lacks, and these requests that were not taken
abbrev pub turned : World → (at : ℕ) → Held → Effect → NodeState → (steps : ℕ) → List Missed → List TurnedAway → World
turned w at old f new steps missed away = record {
  nodes = slice_set w.nodes at (with_more old f.written new steps);
  sent = w.sent ++ f.mail;
  asked = asked_after w f;
  answered = answered_after w f;
  given = w.given;
  learned = w.learned;
  missed = missed;
  away = away;
  changed = dated_after w f;
  now = w.now;
}

-- the book then
abbrev pub book_after : (w : World) (book : Book) (at : ℕ) (old : Held) (f : Effect) (new : NodeState) → List Missed → Owes w book at (node_of old) f new → Book
book_after w book at old f new missed owes = with_news book owes.news owes.cursors w.given missed (raises_of new)

-- A step that owes what it owes keeps all facts, where only the catalogue changes the catalogue.
pub good_after : (w : World) (book : Book) (at : ℕ) (old : Held) (f : Effect) (new : NodeState) (steps : ℕ) (missed : List Missed) (away : List TurnedAway)
    → Good w book → slice_get w.nodes at ≡ Some old → More w.missed missed → AllByRecursion (λ (x : Missed). x.step < w.now + 1) missed
    → AllByRecursion (IsAwayOf missed) away → (at ≡ 0) ⊎ AllByRecursion IsNoChange f.written → StaysHeard w at f new
    → (owes : Owes w book at (node_of old) f new)
    → Good (turned w at old f new steps missed away) (book_after w book at old f new missed owes)
good_after w book at old f new steps missed away good here more lacks turned_away changes heard owes =
    let next : Book = book_after w book at old f new missed owes in
    let v : View = view_of (slice_set w.nodes at (with_more old f.written new steps)) next in
    let later : Later (view_of w.nodes book) (view_of (slice_set w.nodes at (with_more old f.written new steps)) (book_after w book at old f new missed owes)) =
    views_later w.nodes at old f.written new steps book owes.news owes.cursors w.given missed (raises_of new) good.given
    (subst (λ l. More l missed) good.missed more) here owes.rises
    (each_get (HeldFits (view_of w.nodes book) w.asked w.answered w.given) 0 at w.nodes old good.nodes here).within in
    let dated : changes_of (dated_after w f) ≡ changes_kept (journal_at (slice_set w.nodes at (with_more old f.written new steps)) 0) =
    dated_same w.now w.nodes at old f.written new steps w.changed here good.dated changes in
    let owed : OwesIn v w book at (node_of old) f new =
    owes.owed v later (λ p other. journal_else w.nodes at (with_more old f.written new steps) p other)
    (journal_here w.nodes at old (with_more old f.written new steps) here)
    (ap (λ k. greatest_kept k) (journal_here w.nodes at old (with_more old f.written new steps) here)) refl refl
    (record { given = refl; lacks = lacks; reached = refl }) in
    let g : GoodIn (view_of (slice_set w.nodes at (with_more old f.written new steps)) (book_after w book at old f new missed owes)) w at old f new steps =
    good_parts w book at old f new steps missed v good here owes refl later dated
    (heard v (λ p other. journal_else w.nodes at (with_more old f.written new steps) p other))
    owed in
    let zero_at : 0 + at ≡ at = omega arith in
    let theirs : AllByRecursion (λ (x : Reach). x.id.router ≡ at) (raises_of new) =
    raises_at v (asked_after w f) (answered_after w f) at (old.kept ++ f.written) new owed.node.state in
    record {
      order = g.order;
      nodes = g.nodes;
      dated = dated;
      beside = λ p other. beside_stays (view_of w.nodes book) v p later other ∙ good.beside p other;
      letters = g.letters;
      heard = g.heard;
      answers = g.answers;
      decided = g.decided;
      came = g.came;
      one = g.one;
      once = g.once;
      fresh = g.fresh;
      in_order = g.in_order;
      known = g.known;
      met = g.met;
      given = more_self w.given;
      missed = refl;
      lacks = lacks;
      away = turned_away;
      reach = each_set (λ j h. HeldFits (view_of w.nodes book) w.asked w.answered w.given j h × ReachFits book.reached h.state)
          (λ j h. ReachFits (book.reached ++ raises_of new) h.state) 0 at w.nodes (with_more old f.written new steps)
          (λ j h other fits. reach_other (view_of w.nodes book) w.asked w.answered j at h.kept book.reached (raises_of new) h.state
          (λ e. other (omega (arith, e))) theirs fits.0.state fits.1)
          (reach_after v (asked_after w f) (answered_after w f) at (old.kept ++ f.written) book.reached new owed.node.state owes.raised)
          (each_both (HeldFits (view_of w.nodes book) w.asked w.answered w.given) (λ j h. ReachFits book.reached h.state) 0 w.nodes good.nodes good.reach);
      noted = all_append (λ (x : Reach). IsIn x.id (ids_asked (asked_after w f))) book.reached (raises_of new)
          (all_weaken (λ (x : Reach). IsIn x.id (ids_asked w.asked)) (λ (x : Reach). IsIn x.id (ids_asked (asked_after w f))) book.reached
          (λ x i. subst (λ l. IsIn x.id l) (sym (map_longer (λ (a : Asked). a.id) w.asked (asked_by w.now f.taken)))
          (in_prefix x.id (ids_asked w.asked) (ids_asked (asked_by w.now f.taken)) i)) good.noted)
          (raises_asked v (asked_after w f) (answered_after w f) at (old.kept ++ f.written) new owed.node.state);
    }
