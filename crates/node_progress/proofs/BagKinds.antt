-- A step of the catalogue, of a shard and of a router keeps the bag.
use Rattle.std.proofs.Common.{◌≡◌, ◌≢◌, ◌⊎◌, inl, inr, ℕ, ◌+◌, ◌<◌, ◌≤◌, List, [], ◌∷◌, ◌++◌, length, refl, sym, ap, subst, ◌∙◌, arith}
use Rattle.std.specs.Prelude.{Option, Some, None, false, filter}
use Rattle.std.specs.List.{AllByRecursion, slice_get, slice_set}
use Rattle.history_model.specs.History.{IsIn}
use Rattle.history_model.proofs.Lists.{all_at, all_weaken}
use Rattle.chunk_model.specs.Changes.{known_table}
use Rattle.chunk_model.specs.Tables.{first_shard}
use Rattle.reply_model.specs.Accounts.{Lack}
use Rattle.reply_model.specs.Exchanges.{Asked}
use Rattle.node_model.specs.Journal.{Kept}
use Rattle.node_model.specs.Letters.{no_time, refused, of_request, is_lack, Letter, Input, letter_input, Taken, Effect}
use Rattle.node_model.specs.States.{Catalogue, Shard, Router, catalogue_state, shard_state, router_state}
use Rattle.node_model.specs.CatalogueRows.{CatalogueRow}
use Rattle.node_model.specs.ShardRows.{Ask, ask_in, index_shown, wants_table, says, heard, refuses, ShardRow}
use Rattle.node_model.specs.RouterRequests.{places_from, shards_of}
use Rattle.node_model.specs.RouterRows.{RouterRow}
use Rattle.node_model.specs.World.{World, asked_by, after, is_given, tick}
use Rattle.node_laws.proofs.Views.{Book}
use Rattle.node_laws.proofs.Facts.{CatalogueFits, ShardFits, RouterFits, Good}
use Rattle.node_laws.proofs.Lists.{all_mapped}
use Rattle.node_laws.proofs.StepsKeep.{fits_here, get_set}
use Rattle.node_progress.specs.UnderWay.{Thing, a_table, IsFor}
use Rattle.node_progress.proofs.Members.{in_filtered}
use Rattle.node_progress.proofs.Things.{home, IsTimeAt, brings_to, ask_brings}
use Rattle.node_progress.proofs.Versions.{IsTableOf, still_there, IsPlain, IsWell}
use Rattle.node_progress.proofs.CataloguePasses.{IsAmong, catalogue_passes, catalogue_well}
use Rattle.node_progress.proofs.ShardPasses.{FitsThere, shard_passes, shard_holds}
use Rattle.node_progress.proofs.ShardParks.{shard_parked}
use Rattle.node_progress.proofs.ShardSends.{MayRefuse, shard_well}
use Rattle.node_progress.proofs.RouterWaits.{WaitsAfter, all_flat}
use Rattle.node_progress.proofs.RouterGoesOn.{IsReady, router_waits}
use Rattle.node_progress.proofs.RouterSends.{OpenWasSent, router_well}
use Rattle.node_progress.proofs.RouterRuns.{router_runs}
use Rattle.node_progress.proofs.RunVersions.{OpenRuns}
use Rattle.node_progress.proofs.Takings.{catalogue_takes_none, shard_takes_none, IsInLife, stays_in_life}
use Rattle.node_progress.proofs.Shards.{IsShardIn}
use Rattle.node_progress.proofs.Bags.{Left, AllLost, changes_made, IsHeldFor, OpenGoes, ParkedGoes, IsPosted, Bag, WasFor, Clears}
use Rattle.node_progress.proofs.BagSteps.{Carries, posted_still, parked_after, open_after}
use Rattle.node_progress.proofs.BagFacts.{IsHere, now, told_had, named_request, known_to, fit_here, parked_request, plain_or_lost, not_catalogue, not_shard_here, shards_within}
use Rattle.node_progress.proofs.BagMoves.{IsElsewhere, within, from_node, others, nothing_taken, together, together_lost}

-- THE CATALOGUE

pub catalogue_keeps : (left later : Left) (w : World) (book : Book) (p : ℕ) (i : Input) (kept : List Kept) (steps : ℕ) (c d : Catalogue) (f : Effect)
    → Good w book → Bag left w → slice_get w.nodes p ≡ Some (record { state = catalogue_state c; kept = kept; steps = steps }) → Clears left later w.sent i
    → ((n : ℕ) → length w.sent ≤ n → later.places n) → IsHere w p i → CatalogueRow c i f d
    → Bag later (tick (after (is_given w p i) p (record { state = catalogue_state c; kept = kept; steps = steps }) f (catalogue_state d)))
catalogue_keeps left later w book p i kept steps c d f good bag here clears fresh comes row =
    together left later w book p i kept steps (catalogue_state c) f (catalogue_state d) good bag here clears fresh comes tt
    (catalogue_well (changes_made w) (length w.nodes) c d i f (subst (λ n. n < length w.nodes) (sym fits.own) inside) from row)
    tt
    (others left later w book p i kept steps (catalogue_state c) f (catalogue_state d) good bag here clears fresh comes carries tables)
    (nothing_taken left later w book p i kept steps (catalogue_state c) f (catalogue_state d) good bag here clears fresh comes (catalogue_takes_none c d i f row))
  where
    fits : CatalogueFits w.asked p kept c
    fits = (fits_here w book p (record { state = catalogue_state c; kept = kept; steps = steps }) good here).state

    inside : p < length w.nodes
    inside = within left later w book p i kept steps (catalogue_state c) f (catalogue_state d) good bag here clears fresh comes

    from : (m : Letter) → i ≡ letter_input m → m.sender < length w.nodes
    from = from_node left later w book p i kept steps (catalogue_state c) f (catalogue_state d) good bag here clears fresh comes

    changes : c.changes ≡ changes_made w
    changes = known_to w book left good bag c p kept steps here

    passes : (t : Thing) → home t ≢ 0 → ((at : ℕ) → IsTimeAt t at → IsShardIn w.nodes at) → ((node : ℕ) (namespace : List ℕ) → t ≡ a_table node namespace false no_time
        → known_table namespace (changes_made w) ≡ None → ⊥) → WasFor i t → IsAmong f.mail t
    passes t away times known was =
        let to = (comes was.letter was.is).0 in
        catalogue_passes c was.letter f d t (to ∙ fits.place) away
        (λ time. not_shard_here w book left good bag p (catalogue_state c) kept steps here (λ x e. cc e)
        (subst (λ n. IsShardIn w.nodes n) to (times was.letter.receiver time)))
        (λ node namespace e none. known node namespace e (ap (λ l. known_table namespace l) (sym changes) ∙ none)) was.brings
        (subst (λ x. CatalogueRow c x f d) was.is row)

    carries : (t : Thing) → IsElsewhere w.nodes p t → Carries left later w p i kept steps (catalogue_state c) f (catalogue_state d) bag here clears fresh t
    carries t x = record {
      passes = λ was. inl (passes t (let above = x.above in λ e. omega (arith, above, e)) x.times (λ node namespace e missing. x.none node namespace e) was);
      holds = λ s is l there brings. absurd (cc is);
    }

    tables : p ≢ first_shard → (j : ℕ) (s : Shard) (x : Letter) (g : ParkedGoes left w j s x) → WasFor i (a_table first_shard g.ask.namespace false no_time)
        → IsAmong f.mail (a_table first_shard g.ask.namespace false no_time)
    tables other j s x g was =
        let k = g.well.knowing g.ask g.asks in
        passes (a_table first_shard g.ask.namespace false no_time) (λ e. cc e) (λ at time. let e = time.1 in absurd (cc e))
        (λ node namespace e missing.
        let name : g.ask.namespace ≡ namespace = cc e in
        still_there (changes_made w) k.table k.had (ap (λ n. known_table n (changes_made w)) (k.name ∙ name) ∙ missing)) was

-- A SHARD

module _ (left later : Left) (w : World) (book : Book) (p : ℕ) (i : Input) (kept : List Kept) (steps : ℕ) (s u : Shard) (f : Effect)
    (good : Good w book) (bag : Bag left w) (here : slice_get w.nodes p ≡ Some (record { state = shard_state s; kept = kept; steps = steps }))
    (clears : Clears left later w.sent i) (fresh : (n : ℕ) → length w.sent ≤ n → later.places n) (comes : IsHere w p i) (row : ShardRow s i f u)
    (goes : AllByRecursion (ParkedGoes left w p s) s.parked) where
  shard_fits : ShardFits (now w book) w.asked p kept s
  shard_fits = (fits_here w book p (record { state = shard_state s; kept = kept; steps = steps }) good here).state

  own_place : s.me ≡ p
  own_place = shard_fits.own

  not_zero : p ≢ 0
  not_zero = not_catalogue w book left good bag (record { state = shard_state s; kept = kept; steps = steps }) p here (λ c is. cc is)

  fit_there : (m : Letter) → i ≡ letter_input m → FitsThere s m
  fit_there m is = fit_here w book left good bag s p kept steps m here (comes m is).1 (comes m is).0

  -- what is parked was sent to the first shard, which this is
  parked_first : AllByRecursion (λ (x : Letter). x.receiver ≡ first_shard) s.parked
  parked_first =
      all_weaken (ParkedGoes left w p s) (λ (x : Letter). x.receiver ≡ first_shard) s.parked (λ x g. g.well.first g.ask g.asks) goes

  waits_at : (t : Thing) (x : Letter) → IsIn x u.parked → IsFor t x
      → IsHeldFor (slice_set w.nodes p (record { state = shard_state u; kept = kept ++ f.written; steps = steps + 1 })) t
  waits_at t x there brings = record {
    at = p;
    shard = u;
    kept = kept ++ f.written;
    steps = steps + 1;
    letter = x;
    here = get_set w.nodes p (record { state = shard_state s; kept = kept; steps = steps }) (record { state = shard_state u; kept = kept ++ f.written; steps = steps + 1 }) here;
    parked = there;
    brings = brings;
  }

  shard_carries : ((m : Letter) → i ≡ letter_input m → IsPlain m.body) → (t : Thing) → IsElsewhere w.nodes p t → Carries left later w p i kept steps (shard_state s) f (shard_state u) bag here clears fresh t
  shard_carries plain t e = record {
    passes = λ was. by_case (shard_passes s was.letter f u t ((comes was.letter was.is).0 ∙ sym own_place) (λ z. not_zero (sym own_place ∙ z))
        (λ h. e.away (h ∙ own_place)) (fit_there was.letter was.is) parked_first was.brings (subst (λ x. ShardRow s x f u) was.is row));
    holds = λ o is x there brings. by_parked x (subst (λ l. IsIn x l) (ap (λ (y : Shard). y.parked) (sym (same_shard o is))) there) brings;
  }
    where
      same_shard : (o : Shard) → shard_state s ≡ shard_state o → s ≡ o
      same_shard o is = cc is

      by_case : IsAmong f.mail t ⊎ ((x : Letter) × IsIn x u.parked × IsFor t x)
          → IsAmong f.mail t ⊎ IsHeldFor (slice_set w.nodes p (record { state = shard_state u; kept = kept ++ f.written; steps = steps + 1 })) t
      by_case (inl among) = inl among
      by_case (inr waits) = inr (waits_at t waits.0 waits.1 waits.2)

      by_parked : (x : Letter) → IsIn x s.parked → IsFor t x
          → IsAmong f.mail t ⊎ IsHeldFor (slice_set w.nodes p (record { state = shard_state u; kept = kept ++ f.written; steps = steps + 1 })) t
      by_parked x there brings =
          let g = all_at (ParkedGoes left w p s) x s.parked goes there in
          let thing = ask_brings t x.sender x.receiver x.body g.ask g.asks brings in
          by_held (shard_holds s i f u x g.ask (own_place ∙ g.first) there g.asks plain row) thing
        where
          by_held : {y : Thing} → IsIn x u.parked ⊎ IsAmong f.mail y → t ≡ y
              → IsAmong f.mail t ⊎ IsHeldFor (slice_set w.nodes p (record { state = shard_state u; kept = kept ++ f.written; steps = steps + 1 })) t
          by_held (inl stays) same = inr (waits_at t x stays brings)
          by_held (inr among) same = inl (subst (λ y. IsAmong f.mail y) (sym same) among)

  -- no table for the first shard comes to another
  no_table : p ≢ first_shard → (namespace : List ℕ) → WasFor i (a_table first_shard namespace false no_time) → ⊥
  no_table other namespace was =
      let t : Thing = a_table first_shard namespace false no_time in
      by_place (sym (comes was.letter was.is).0) (brings_to t was.letter.sender was.letter.receiver was.letter.body was.brings)
    where
      by_place : {n : ℕ} → p ≡ n → (n ≡ 0) ⊎ ((n ≡ first_shard) ⊎ ((n ≡ first_shard) ⊎ IsTimeAt (a_table first_shard namespace false no_time) n)) → ⊥
      by_place place (inl zero_place) = not_zero (place ∙ zero_place)
      by_place place (inr (inl one_place)) = other (place ∙ one_place)
      by_place place (inr (inr (inl home_place))) = other (place ∙ home_place)
      by_place place (inr (inr (inr time))) = let e = time.1 in cc e

  inside : p < length w.nodes
  inside = within left later w book p i kept steps (shard_state s) f (shard_state u) good bag here clears fresh comes

  -- what it sends, by what holds of refusals
  sends_well : (P : Letter → Type 0) → ((m : Letter) → IsWell (changes_made w) (length w.nodes) m → P m) → MayRefuse P s i
      → AllByRecursion P f.mail
  sends_well P well_is refused_all =
      shard_well (changes_made w) (length w.nodes) s i f u (subst (λ n. n < length w.nodes) (sym own_place) inside) (omega (arith, inside))
      (λ m is id names. named_request w book left good bag m (comes m is).1 id names) fit_there
      (all_weaken (ParkedGoes left w p s) (λ (x : Letter). IsWell (changes_made w) (length w.nodes) x × (s.me ≡ first_shard)) s.parked
      (λ x g. (g.well, own_place ∙ g.first)) goes) P well_is refused_all row

  node_goes : AllByRecursion (ParkedGoes later (tick (after (is_given w p i) p (record { state = shard_state s; kept = kept; steps = steps }) f (shard_state u))) p u) u.parked
  node_goes =
      parked_after left later w p i kept steps (shard_state s) f (shard_state u) bag here clears fresh s u own_place goes (λ x is. (comes x is).1)
      (shard_parked s i f u (λ m is e. not_zero (sym (comes m is).0 ∙ e))
      (λ m is namespace create at t says. (told_had w book left good bag m (comes m is).1 namespace create at t says).1) fit_there row)

  none_taken : AllByRecursion (λ (a : Asked). a.id.router < length w.nodes) (asked_by w.now f.taken)
  none_taken = nothing_taken left later w book p i kept steps (shard_state s) f (shard_state u) good bag here clears fresh comes (shard_takes_none s u i f row)

  -- refusals go to the routers of what was parked
  refusal_posted : AllLost left → (m : Letter) (node : ℕ) (lack : Lack) (x : Letter) → IsIn x s.parked
      → AllByRecursion (IsPosted left (changes_made w) (length w.nodes)) (refuses s (heard s m) node lack x)
  refusal_posted lost m node lack x there = by_ask (ask_in x.body) refl
    where
      by_ask : (o : Option Ask) → ask_in x.body ≡ o → AllByRecursion (IsPosted left (changes_made w) (length w.nodes)) (elim o as (λ (o : Option Ask). List Letter) [
        | None ↦ []
        | Some a ↦ says s a.id.router (heard s m) (refused (of_request a.id a.turn (index_shown a.first)) (is_lack node lack)) ∷ []
      ])
      by_ask None asks = tt
      by_ask (Some a) asks = (
        inr (record {
          lost = lost;
          what = of_request a.id a.turn (index_shown a.first);
          cause = is_lack node lack;
          says = refl;
          from = subst (λ n. n < length w.nodes) (sym own_place) inside;
          to = parked_request w book left good bag s p kept steps here x a there asks;
        }),
        tt,
      )

  abbrev next_world : World
  next_world = tick (after (is_given w p i) p (record { state = shard_state s; kept = kept; steps = steps }) f (shard_state u))

  by_plain : ((m : Letter) → i ≡ letter_input m → IsPlain m.body) ⊎ AllLost left → Bag later next_world
  by_plain (inl plain) =
      together left later w book p i kept steps (shard_state s) f (shard_state u) good bag here clears fresh comes tt
      (sends_well (IsWell (changes_made w) (length w.nodes)) (λ m x. x)
      (λ m namespace node lack is body. absurd (subst (λ b. IsPlain b) body (plain m is))))
      node_goes
      (others left later w book p i kept steps (shard_state s) f (shard_state u) good bag here clears fresh comes (shard_carries plain)
      (λ other j o x g was. absurd (no_table other g.ask.namespace was)))
      none_taken
  by_plain (inr lost) =
      together_lost left later w book p i kept steps (shard_state s) f (shard_state u) good bag here clears fresh comes (λ id. clears.stay id (lost id)) tt
      (all_weaken (IsPosted left (changes_made w) (length w.nodes)) (IsPosted later (changes_made next_world) (length next_world.nodes)) f.mail
      (λ m x. posted_still left later w p i kept steps (shard_state s) f (shard_state u) bag here clears fresh m x)
      (sends_well (IsPosted left (changes_made w) (length w.nodes))
      (λ m x. inl x)
      (λ m namespace node lack is body. all_flat (IsPosted left (changes_made w) (length w.nodes)) (refuses s (heard s m) node lack)
      (filter (wants_table namespace) s.parked)
      (λ x there. refusal_posted lost m node lack x (in_filtered (wants_table namespace) x s.parked there).0))))
      node_goes none_taken

  pub shard_keeps : Bag later next_world
  shard_keeps = by_plain (plain_or_lost w book left good bag p i comes)

-- A ROUTER

pub router_keeps : (left later : Left) (w : World) (book : Book) (p : ℕ) (i : Input) (kept : List Kept) (steps : ℕ) (o r u : Router) (f : Effect)
    → Good w book → Bag left w → slice_get w.nodes p ≡ Some (record { state = router_state o; kept = kept; steps = steps }) → Clears left later w.sent i
    → ((n : ℕ) → length w.sent ≤ n → later.places n) → IsHere w p i → RouterRow r i f u → IsReady r i → AllByRecursion (OpenGoes left w r) r.requests
    → AllByRecursion (IsTableOf (changes_made w)) r.tables → AllByRecursion (OpenWasSent (changes_made w)) r.requests → r.me ≡ o.me → r.shards ≡ o.shards
    → (g : Effect) → g.mail ≡ f.mail → g.taken ≡ f.taken
    → Bag later (tick (after (is_given w p i) p (record { state = router_state o; kept = kept; steps = steps }) g (router_state u)))
router_keeps left later w book p i kept steps o r u f good bag here clears fresh comes row ready goes tables sent me shards g mail taken =
    together left later w book p i kept steps (router_state o) g (router_state u) good bag here clears fresh comes
    (lives.shards ∙ shards)
    (subst (λ l. AllByRecursion (IsWell (changes_made w) (length w.nodes)) l) (sym mail)
    (router_well (changes_made w) (length w.nodes) r i f u (subst (λ n. n < length w.nodes) (sym own) inside)
    (omega (arith, inside, place)) known ready tables sent runs
    (λ m is namespace create at t says. (told_had w book left good bag m (comes m is).1 namespace create at t says).0) row))
    (open_after left later w p i kept steps (router_state o) g (router_state u) bag here clears fresh r u (λ s is. cc is) goes
    (subst (λ l. AllByRecursion (WaitsAfter r u i l) u.requests) (sym mail) (router_waits r i f u ready row))
    (router_runs (changes_made w) (length w.nodes) r i f u (subst (λ n. n < length w.nodes) (sym own) inside)
    (omega (arith, inside, place)) known ready tables runs
    (λ m is namespace create at t says. (told_had w book left good bag m (comes m is).1 namespace create at t says).0) row))
    (others left later w book p i kept steps (router_state o) g (router_state u) good bag here clears fresh comes carries
    (λ other j s x x_goes was. absurd (away (a_table first_shard x_goes.ask.namespace false no_time) (λ e. omega (arith, e, place))
    (λ at time. let e = time.1 in absurd (cc e)) was)))
    (subst (λ l. AllByRecursion (λ (a : Asked). a.id.router < length w.nodes) (asked_by w.now l)) (sym taken) of_router)
  where
    fits : RouterFits (now w book) w.asked w.answered p o
    fits = (fits_here w book p (record { state = router_state o; kept = kept; steps = steps }) good here).state

    place : first_shard < p
    place = fits.place

    known : AllByRecursion (λ s. s < length w.nodes) (shards_of r)
    known = subst (λ n. AllByRecursion (λ s. s < length w.nodes) (places_from first_shard n)) (sym shards) (shards_within w book left good bag o p kept steps here)

    own : r.me ≡ p
    own = me ∙ fits.own

    runs : AllByRecursion (OpenRuns (changes_made w)) r.requests
    runs = all_weaken (OpenGoes left w r) (OpenRuns (changes_made w)) r.requests (λ q o. o.runs) goes

    lives : IsInLife r u f
    lives = stays_in_life r u i f row

    inside : p < length w.nodes
    inside = within left later w book p i kept steps (router_state o) g (router_state u) good bag here clears fresh comes

    -- a message that comes is for no other node
    away : (t : Thing) → home t ≢ p → ((at : ℕ) → IsTimeAt t at → IsShardIn w.nodes at) → WasFor i t → ⊥
    away t other times was =
        by_place (comes was.letter was.is).0 (brings_to t was.letter.sender was.letter.receiver was.letter.body was.brings)
      where
        by_place : {n : ℕ} → n ≡ p → (n ≡ 0) ⊎ ((n ≡ first_shard) ⊎ ((n ≡ home t) ⊎ IsTimeAt t n)) → ⊥
        by_place to (inl zero_place) = omega (arith, to, zero_place, place)
        by_place to (inr (inl one_place)) = omega (arith, to, one_place, place)
        by_place to (inr (inr (inl home_place))) = other (sym home_place ∙ to)
        by_place {n = n} to (inr (inr (inr time))) =
            not_shard_here w book left good bag p (router_state o) kept steps here (λ x e. cc e) (subst (λ k. IsShardIn w.nodes k) to (times n time))

    carries : (t : Thing) → IsElsewhere w.nodes p t → Carries left later w p i kept steps (router_state o) g (router_state u) bag here clears fresh t
    carries t e = record { passes = λ was. absurd (away t e.away e.times was); holds = λ s is x there brings. absurd (cc is) }

    of_router : AllByRecursion (λ (a : Asked). a.id.router < length w.nodes) (asked_by w.now f.taken)
    of_router =
        all_mapped (λ (a : Asked). a.id.router < length w.nodes) _ f.taken
        (all_weaken (λ (x : Taken). (x.id.router ≡ r.me) × (x.id.life ≡ r.life)) (λ (x : Taken). x.id.router < length w.nodes) f.taken
        (λ x h. subst (λ n. n < length w.nodes) (sym (h.0 ∙ own)) inside) lives.taken)
