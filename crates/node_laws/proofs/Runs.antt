-- Every run keeps all facts, and so makes one history.
use Rattle.std.proofs.Common.{◌≡◌, ℕ, zero, suc, ◌+◌, ◌<◌, ◌≤◌, List, [], ◌∷◌, ◌++◌, refl, sym, ap, subst, ◌∙◌, arith, inl}
use Rattle.std.specs.List.{AllByRecursion}
use Rattle.history_model.proofs.Lists.{all_weaken, all_both, all_at, in_prefix, in_none}
use Rattle.chunk_model.specs.Placement.{AreFitting}
use Rattle.chunk_model.specs.Tables.{first_shard}
use Rattle.history_model.specs.History.{Entry, IsIn, Legal}
use Rattle.reply_model.specs.Exchanges.{Asked, Answered}
use Rattle.node_laws.proofs.SameReplies.{right_so, told_so}
use Rattle.node_laws.proofs.TableVersions.{never_were_stale}
use Rattle.command_model.specs.Writes.{WriteCommand}
use Rattle.command_model.specs.Command.{write_command, command_of}
use Rattle.reply_model.specs.Outcomes.{Try}
use Rattle.reply_model.specs.Right.{WereStale}
use Rattle.std.specs.Prelude.{Ok, true}
use Rattle.reply_model.specs.Accounts.{Account, Given, Missed, nothing_stored, changes_in as changes_of}
use Rattle.reply_model.specs.OneHistory.{Shows, IsReplyTo, IsCausedWrite, IsTurnedAway, WasSent, AreNumbered, IsReached, WasWanted, StandsInPart, IsPlaced, AreRight, nothing_told, then_told, IsKnown, OneHistory}
use Rattle.reply_model.specs.Cursors.{Cursor}
use Rattle.node_model.specs.Journal.{Kept, entries_kept, changes_kept}
use Rattle.node_model.specs.States.{Catalogue, NodeState, catalogue_state, shard_state, router_state, new_catalogue, new_shard, new_router}
use Rattle.node_model.specs.World.{Held, World, Event, Run, shards_from, routers_from, start, journal_at, entries_at, account_of}
use Rattle.node_laws.proofs.Views.{Book, View, view_of, changes_in, MovesNothing, account_in}
use Rattle.node_laws.proofs.Places.{EachAt}
use Rattle.node_laws.proofs.WriteFacts.{WasMade}
use Rattle.node_laws.proofs.SentEntries.{ShowsCut, shows_of, was_sent, is_reached}
use Rattle.node_laws.proofs.TimeFacts.{HeardFits}
use Rattle.node_laws.proofs.Facts.{AreCut, IsAwayOf, ReachFits, NeighboursFit, Good, CatalogueFits, StateFits, CursorsFit, HeldFits, IsMet, AnswersFit, no_answer, one_answer, IsCatalogue, InOrder}
use Rattle.node_laws.proofs.CatalogueTables.{placed_first}
use Rattle.node_laws.proofs.Causes.{is_caused}
use Rattle.node_laws.proofs.Keeps.{the_shard, nodes_keep}
use Rattle.node_laws.proofs.OneJournal.{history_is}
use Rattle.node_laws.proofs.Moments.{HasMoment, HadMoment, Moments}
use Rattle.node_laws.proofs.CausedWrites.{bare, IsCausedIn}
use Rattle.node_laws.proofs.NodeLacks.{misses_keep}
use Rattle.node_laws.proofs.GivesUp.{all_rest}
use Rattle.node_laws.proofs.GivesWell.{gives_fit}
use Rattle.node_laws.proofs.StepsKeep.{HasBook, StaysTrue, run_keeps}

-- THE START

abbrev pub start_nodes : (others routers : ℕ) → List Held
start_nodes others routers = (start others routers).nodes

abbrev shard_at : ℕ → Held
shard_at at = record { state = shard_state (new_shard at); kept = []; steps = 0 }

abbrev router_at : (at shards : ℕ) → Held
router_at at shards = record { state = router_state (new_router at shards); kept = []; steps = 0 }

-- what holds of each shard, and of what comes after them, holds of all
shards_each : (P : ℕ → Held → Type 0) (at n : ℕ) (later : List Held) → ((j : ℕ) → P j (shard_at j)) → EachAt P (at + n) later
    → EachAt P at (shards_from at n ++ later)
shards_each P at zero later one more = let same : at + 0 ≡ at = omega arith in subst (λ j. EachAt P j later) same more
shards_each P at (suc n) later one more =
    let same : at + suc n ≡ at + 1 + n = omega arith in
    (one at, shards_each P (at + 1) n later one (subst (λ j. EachAt P j later) same more))

routers_each : (P : ℕ → Held → Type 0) (at shards n : ℕ) → ((j : ℕ) → at ≤ j → P j (router_at j shards)) → EachAt P at (routers_from at shards n)
routers_each P at shards zero one = tt
routers_each P at shards (suc n) one = (one at (omega arith), routers_each P (at + 1) shards n (λ j le. one j (omega arith)))

-- what holds of each node as it starts
starts_each : (P : ℕ → Held → Type 0) (others routers : ℕ) → P 0 (record { state = catalogue_state (new_catalogue 0); kept = []; steps = 0 })
    → ((j : ℕ) → P j (shard_at j)) → ((j : ℕ) → first_shard < j → P j (router_at j (others + 1))) → EachAt P 0 (start_nodes others routers)
starts_each P others routers catalogue shard router = (
  catalogue,
  (
    shard first_shard,
    shards_each P (first_shard + 1) others (routers_from (first_shard + others + 1) (others + 1) routers) shard
        (let same : first_shard + others + 1 ≡ first_shard + 1 + others = omega arith in
        subst (λ k. EachAt P k (routers_from (first_shard + others + 1) (others + 1) routers)) same
        (routers_each P (first_shard + others + 1) (others + 1) routers (λ j le. router j (omega arith)))),
  ),
)

shard_fits : (v : View) (at : ℕ) → changes_in v ≡ [] → HeldFits v [] [] [] at (shard_at at)
shard_fits v at none = record {
  state = record {
    own = refl;
    came = tt;
    entries = refl;
    tops = refl;
    past = tt;
    legal = tt;
    sent = tt;
    numbers = tt;
    placed = tt;
    parts = tt;
    still = subst (λ l. AllByRecursion MovesNothing l) (sym none) tt;
    tables = tt;
    parked = tt;
  };
  met = inl refl;
  cursors = tt;
  within = omega arith;
}

router_fits : (v : View) (at shards : ℕ) → v.cursors ≡ [] → first_shard < at → HeldFits v [] [] [] at (router_at at shards)
router_fits v at shards none less = record {
  state = record { own = refl; place = less; requests = tt; different = tt; counted = tt; told = tt; tables = tt; closed = tt; risen = tt };
  met = inl refl;
  cursors = subst (λ l. CursorsFit l at (new_router at shards)) (sym none) (record { own = refl; given = tt; most = omega arith });
  within = omega arith;
}

-- journals without records
none_kept : (i : ℕ) (nodes : List Held) (at : ℕ) → EachAt (λ j h. h.kept ≡ []) i nodes → journal_at nodes at ≡ []
none_kept i [] at all = refl
none_kept i (h ∷ nodes) zero all = all.0
none_kept i (h ∷ nodes) (suc at) all = none_kept (i + 1) nodes at all.1

pub start_good : (others routers : ℕ) → HasBook (start others routers)
start_good others routers = record {
  book = record { chosen = []; cursors = []; given = []; missed = []; reached = [] };
  good = record {
    order = (_, _, _, refl, tt, tt);
    nodes = starts_each (HeldFits (view_of (start_nodes others routers) (record { chosen = []; cursors = []; given = []; missed = []; reached = [] })) [] [] []) others routers
        (record {
          state = record { own = refl; place = refl; changes = refl; past = tt; fitting = tt; wanted = tt };
          met = inl refl;
          cursors = tt;
          within = omega arith;
        })
        (λ j. shard_fits (view_of (start_nodes others routers) (record { chosen = []; cursors = []; given = []; missed = []; reached = [] })) j refl)
        (λ j less. router_fits (view_of (start_nodes others routers) (record { chosen = []; cursors = []; given = []; missed = []; reached = [] })) j (others + 1) refl less);
    dated = refl;
    beside = λ at other. ap (λ k. entries_kept k)
        (none_kept 0 (start_nodes others routers) at (starts_each (λ j h. h.kept ≡ []) others routers refl (λ j. refl) (λ j less. refl)));
    letters = tt;
    heard = starts_each (λ j h. HeardFits (view_of (start_nodes others routers) (record { chosen = []; cursors = []; given = []; missed = []; reached = [] })) [] [] h.state) others routers tt
        (λ j. tt) (λ j less. record { some = omega arith; requests = tt });
    answers = no_answer [];
    decided = tt;
    came = tt;
    one = tt;
    once = tt;
    fresh = tt;
    in_order = tt;
    known = tt;
    met = tt;
    given = record { news = []; same = refl };
    missed = refl;
    lacks = tt;
    away = tt;
    reach = starts_each (λ j h. ReachFits [] h.state) others routers tt (λ j. tt) (λ j less. tt);
    noted = tt;
  };
}

pub start_moments : (others routers : ℕ) → Moments (start others routers)
start_moments others routers = record {
  nodes = starts_each (λ j h. HasMoment [] j h.state) others routers tt (λ j. tt) (λ j less. (refl, refl, omega arith));
  asked = tt;
  givens = tt;
}

pub start_true : (others routers : ℕ) → StaysTrue (start others routers)
start_true others routers = (start_good others routers, start_moments others routers, tt, record { steps = tt; replies = tt }, tt)

-- ONE HISTORY

-- the catalogue, where its journal says all collections
pub record TheCatalogue (asked : List Asked) (nodes : List Held) : Type 0 where
  pub catalogue : Catalogue
  pub kept : List Kept
  pub fits : CatalogueFits asked 0 kept catalogue
  pub journal : journal_at nodes 0 ≡ kept

the_catalogue_in : (w : View) (asked : List Asked) (answered : List Answered) (given : List Given) (h s : Held) (routers : List Held) → IsCatalogue h.state
    → EachAt (HeldFits w asked answered given) 0 (h ∷ s ∷ routers) → TheCatalogue asked (h ∷ s ∷ routers)
the_catalogue_in w asked answered given h s routers is all = by_state h.state is all.0.state
  where
    by_state : (x : NodeState) → IsCatalogue x → StateFits w asked answered 0 h.kept x → TheCatalogue asked (h ∷ s ∷ routers)
    by_state (catalogue_state c) is fits = record { catalogue = c; kept = h.kept; fits = fits; journal = refl }
    by_state (shard_state c) is fits = absurd is
    by_state (router_state c) is fits = absurd is

pub the_catalogue : (w : View) (asked : List Asked) (answered : List Answered) (given : List Given) (nodes : List Held) → InOrder nodes
    → EachAt (HeldFits w asked answered given) 0 nodes → TheCatalogue asked nodes
the_catalogue w asked answered given nodes (c, s, routers, same, is_c, is_s) all =
    let t = the_catalogue_in w asked answered given c s routers is_c (subst (λ l. EachAt (HeldFits w asked answered given) 0 l) same all) in
    record { catalogue = t.catalogue; kept = t.kept; fits = t.fits; journal = ap (λ l. journal_at l 0) same ∙ t.journal }

-- what is judged of a world, of the history that the first shard stores
abbrev first_account : World → Account
first_account w = record (account_of w) { history = entries_at w.nodes first_shard }

module _ (w : World) (book : Book) (good : Good w book) where
  v : View
  v = view_of w.nodes book

  n : NeighboursFit (view_of w.nodes book) w.asked
  n = nodes_keep (view_of w.nodes book) w.asked w.answered w.given w.nodes good.order good.nodes (λ p. refl) (λ p. refl) good.one

  more_given : (x : Given) → IsIn x book.given → IsIn x w.given
  more_given x i = subst (λ l. IsIn x l) (sym good.given.same) (in_prefix x book.given good.given.news i)

  more_missed : (x : Missed) → IsIn x book.missed → IsIn x w.missed
  more_missed x i = subst (λ l. IsIn x l) (sym good.missed) i

  never : (a : Asked) (namespace : List ℕ) (tries : List Try) → WereStale (account_in (view_of w.nodes book) w.asked w.answered) a namespace tries → ⊥
  never a namespace tries were = never_were_stale (view_of w.nodes book) w.asked w.answered a namespace tries n.begun.fitting n.begun.still were

  -- all replies are right, at times that were met
  all_right : (cursors last : List Cursor) (told : List Answered) → AnswersFit (view_of w.nodes book) w.asked w.answered cursors told last
      → AllByRecursion (λ (t : Answered). IsMet (view_of w.nodes book) w.given t.time) told → AreRight (first_account w) cursors told
  all_right _ _ _ (no_answer cursors) met = nothing_told cursors
  all_right _ _ _ (one_answer cursors next last t rest f others) met = then_told cursors next t rest (record {
    request = f.request;
    taken = f.taken;
    own = f.own;
    link = f.link;
    number = f.number;
    same = f.same;
    came = f.came;
    risen = f.risen;
    met = met.0;
    right = right_so (account_in (view_of w.nodes book) w.asked w.answered) w.changed w.given w.learned w.missed w.away nothing_stored more_given more_missed never
        cursors next f.request t f.right;
  }) (all_right next last rest others met.1)

  caused_here : (t : Answered) → IsCausedIn w t → (a : Asked) (write : WriteCommand) → IsReplyTo w.asked a (write_command write) t
      → IsCausedWrite (first_account w) a t write
  caused_here t h a write to =
      let c = h a write to.taken to.own to.asks in
      record {
        shown = record {
          dones = c.0.dones;
          told = told_so (bare w) w.changed w.given w.learned w.missed w.away nothing_stored (λ x i. i) (λ x i. i)
              (λ b namespace tries were. never b namespace tries
              (record { all = were.all; turns = were.turns; had = were.had; first = λ x i own before name. absurd (in_none x i) }))
              a t write 0 write.operations c.0.dones c.0.told;
          same = c.0.same;
        };
        created = c.1;
      }

  shows_here : (t : Answered) (a : Asked) (write : WriteCommand) → IsIn t w.answered → IsIn a w.asked → t.id ≡ a.id
      → command_of a.request ≡ Ok (write_command write) → ShowsCut (first_account w) book.reached a t write
  shows_here t a write i j own asks = by_shown s.0 s.1
    where
      s : ShowsCut (account_in (view_of w.nodes book) w.asked w.answered) book.reached a t write
      s = shows_of (view_of w.nodes book) w.asked w.answered [] book.cursors w.answered good.one good.answers t a write i j own asks

      by_shown : (shown : Shows (account_in (view_of w.nodes book) w.asked w.answered) a t write)
          → (write.ordered ≡ true → AreCut book.reached a.id shown.dones) → ShowsCut (first_account w) book.reached a t write
      by_shown shown cut = (
        record {
          dones = shown.dones;
          told = told_so (account_in (view_of w.nodes book) w.asked w.answered) w.changed w.given w.learned w.missed w.away nothing_stored more_given more_missed
              never a t write 0 write.operations shown.dones shown.told;
          same = shown.same;
        },
        cut,
      )

first_makes_one : (w : World) → StaysTrue w → OneHistory (first_account w)
first_makes_one w (known, moments, told, based, caused) =
    let good = known.good in
    let v : View = view_of w.nodes known.book in
    let s = the_shard v w.asked w.answered w.given w.nodes good.order good.nodes in
    let c = the_catalogue v w.asked w.answered w.given w.nodes good.order good.nodes in
    let n = nodes_keep v w.asked w.answered w.given w.nodes good.order good.nodes (λ p. refl) (λ p. refl) good.one in
    let entries : s.shard.entries ≡ entries_at w.nodes first_shard = s.fits.entries ∙ sym (ap (λ k. entries_kept k) s.journal) in
    let changes : changes_kept c.kept ≡ changes_kept (journal_at w.nodes 0) = sym (ap (λ k. changes_kept k) c.journal) in
    let history : List Entry = entries_at w.nodes first_shard in
    let numbers : AreNumbered history = subst (λ l. AreNumbered l) entries s.fits.numbers in
    let made : AllByRecursion (WasMade history w.asked known.book.reached) history = n.sent in
    let first : (e : Entry) → IsIn e history → e.shard ≡ first_shard =
    λ e i. placed_first (changes_in v) n.begun.still e (all_at (IsPlaced (changes_in v)) e history n.placed i) in
    record {
      legal = subst (λ l. Legal l) entries s.fits.legal;
      sent = all_weaken (WasMade history w.asked known.book.reached) (WasSent (first_account w)) history
          (λ e m. was_sent (first_account w) known.book.reached numbers first e m (λ t a write i j own asks. shows_here w known.book good t a write i j own asks)) made;
      numbers = numbers;
      reached = all_weaken (WasMade history w.asked known.book.reached) (IsReached (first_account w)) history
          (λ e m. is_reached (first_account w) known.book.reached numbers first e m) made;
      placed = n.placed;
      parts = subst (λ l. AllByRecursion (StandsInPart l) w.asked) entries s.fits.parts;
      wanted = subst (λ l. AllByRecursion (WasWanted w.asked) l) changes c.fits.wanted;
      fitting = subst (λ l. AreFitting l) changes c.fits.fitting;
      steps = good.dated;
      caused = is_caused (first_account w) v w.now w.answered [] known.book.cursors w.answered good.one
          (all_weaken (IsCausedIn w)
          (λ (t : Answered). (a : Asked) (write : WriteCommand) → IsReplyTo w.asked a (write_command write) t → IsCausedWrite (first_account w) a t write) w.answered
          (λ t h a write to. caused_here w known.book good t h a write to) caused) good.answers told based.replies;
      right = all_right w known.book good [] known.book.cursors w.answered good.answers good.met;
      away = all_weaken (IsAwayOf w.missed) (IsTurnedAway (first_account w)) w.away
          (λ x h. record { missed = h.lack; had = h.had; own = h.own; during = h.during; same = h.same }) good.away;
      one = good.one;
      once = good.once;
      fresh = good.fresh;
      order = good.in_order;
      known = all_both (λ (a : Asked). IsMet v w.given a.time) (λ a. HadMoment w.given a × (a.came < w.now)) (IsKnown (first_account w)) w.asked
          (λ a met had. record { moment = had.0.0; time = met; reached = had.0.1 }) good.known moments.asked;
      anew = refl;
    }

pub makes_one_history : (w : World) → StaysTrue w → OneHistory (account_of w)
makes_one_history w stays =
    subst (λ l. OneHistory (record (account_of w) { history = l })) (sym (history_is w stays.0.book stays.0.good)) (first_makes_one w stays)

pub run_makes_one_history : (others routers : ℕ) (events : List Event) (w : World) → Run (start others routers) events w → OneHistory (account_of w)
run_makes_one_history others routers events w run = makes_one_history w (run_keeps (all_rest gives_fit) misses_keep (start others routers) w events (start_true others routers) run)

-- THE CHANGES OF THE CATALOGUE

-- those that were made, newest first, are those that the catalogue's journal stores
pub run_keeps_changes : (others routers : ℕ) (events : List Event) (w : World) → Run (start others routers) events w
    → changes_of w.changed ≡ changes_kept (journal_at w.nodes 0)
run_keeps_changes others routers events w run = (run_keeps (all_rest gives_fit) misses_keep (start others routers) w events (start_true others routers) run).0.good.dated
