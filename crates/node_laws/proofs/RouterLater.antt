-- A router at a later time, where it took no request, owes nothing that its row does not give.
use Rattle.std.proofs.Common.{◌≡◌, ◌≢◌, ◌⊎◌, inl, inr, ℕ, ◌+◌, ◌<◌, ◌≤◌, List, [], ◌∷◌, ◌++◌, refl, sym, ap, subst, ◌∙◌, arith, append-nil}
use Rattle.std.specs.Prelude.{true, map}
use Rattle.std.specs.List.{AllByRecursion}
use Rattle.history_model.proofs.Lists.{all_weaken, all_both, all_append, all_at, in_back}
use Rattle.chunk_model.specs.Tables.{Table}
use Rattle.history_model.specs.History.{IsIn}
use Rattle.base_model.specs.Identities.{RequestId}
use Rattle.reply_model.specs.Exchanges.{Asked, Answered}
use Rattle.reply_model.specs.Accounts.{Given, Missed}
use Rattle.reply_model.specs.OneHistory.{ids_asked, ids_told, AreDifferent}
use Rattle.node_model.specs.Journal.{Kept, time_kept, greatest_kept}
use Rattle.node_model.specs.Letters.{Letter, Reply, Effect}
use Rattle.node_model.specs.States.{Open, Router, router_state}
use Rattle.reply_model.specs.Cursors.{Cursor}
use Rattle.node_model.specs.RouterRequests.{id_of}
use Rattle.node_model.specs.RouterRows.{Opened}
use Rattle.node_model.specs.World.{World, answered_by, journal_at}
use Rattle.node_laws.proofs.Views.{Choice, Book, View, view_of, IsAbove, Later}
use Rattle.node_laws.proofs.GreatestTimes.{within_more}
use Rattle.node_laws.proofs.Facts.{raise_of, IsReached, IsNoted, IsKnownTable, IsOpenOf, IsBy, ToldBelow, IsClosedOrOpen, RouterFits, CursorsFit, IsMet, AnswersFit, Good}
use Rattle.node_laws.proofs.Owes.{IsSaid, IsNotedIn, Owes}
use Rattle.node_laws.proofs.Reaches.{all_noted}
use Rattle.node_laws.proofs.Growth.{met_later}
use Rattle.node_laws.proofs.Others.{told_more}
use Rattle.node_laws.proofs.OpenRequests.{IsParted}
use Rattle.node_laws.proofs.RouterAnswers.{as_answered}
use Rattle.node_laws.proofs.Turns.{Turns}
use Rattle.node_laws.proofs.OpenFacts.{by_weaken, open_begun}

-- the router with what a row changes, where it took no request
abbrev pub goes_to : Router → (time moment : ℕ) → List Table → List Open → Opened → Router
goes_to r time moment tables requests f = record {
  me = r.me;
  shards = r.shards;
  time = time;
  life = r.life;
  begun = r.begun;
  moment = moment;
  count = r.count;
  tables = tables;
  requests = requests;
  cursors = f.cursors;
  blocks = f.blocks;
  gave = f.gave;
}

abbrev pub tells : Opened → List Letter → List Reply → Effect
tells f mail replies = record { written = f.written; mail = mail; taken = []; replies = replies; away = [] }

-- what a transition results in, in a view after the step
pub record RowFits (v : View) (w : World) (book : Book) (s : Router) (mail : List Letter) (replies : List Reply) : Type 0 where
  pub tables : AllByRecursion (IsKnownTable v s.time) s.tables
  pub requests : AllByRecursion (IsOpenOf v w.asked w.answered s) s.requests
  pub letters : AllByRecursion (IsSaid v w.asked w.given) mail
  pub answers : AnswersFit v w.asked (w.answered ++ answered_by w.now replies) book.cursors (answered_by w.now replies) v.cursors
  pub below : AllByRecursion (λ x. ToldBelow s.time (as_answered w.now x)) replies
  pub times : AllByRecursion (λ (x : Reply). x.time ≡ s.time) replies

-- what a view after the step has of moments and lacks
pub record IsKept (v : View) (w : World) : Type 0 where
  pub given : v.given ≡ w.given
  pub lacks : AllByRecursion (λ (x : Missed). x.step < w.now + 1) v.missed

-- a record without a time is above any, and not later than any
abbrev pub IsTimeless : (at time : ℕ) → Kept → Type 0
IsTimeless at time k = IsAbove at time k × (time_kept k ≤ time)

-- what it leaves beside that: the times that it decides, and the cursors
pub record Leaves (w : World) (book : Book) (at : ℕ) (r s : Router) (f : Opened) : Type 0 where
  pub news : List Choice
  pub chose : AllByRecursion (λ (c : Choice). (c.id.router ≡ at) × IsIn c.id (ids_asked w.asked)) news
  pub cursors : List Cursor
  pub turns : Turns book.cursors cursors at s
  pub raised : AllByRecursion (IsReached book.reached s) s.requests
  pub timeless : AllByRecursion (IsTimeless at r.time) f.written

-- LISTS

-- what holds of an answer holds of its reply
pub of_replies : (P : Answered → Type 0) (now : ℕ) (replies : List Reply) → AllByRecursion P (answered_by now replies)
    → AllByRecursion (λ x. P (as_answered now x)) replies
of_replies P now [] all = tt
of_replies P now (x ∷ replies) all = (all.0, of_replies P now replies all.1)

pub of_answers : (P : Answered → Type 0) (now : ℕ) (replies : List Reply) → AllByRecursion (λ x. P (as_answered now x)) replies
    → AllByRecursion P (answered_by now replies)
of_answers P now [] all = tt
of_answers P now (x ∷ replies) all = (all.0, of_answers P now replies all.1)

-- answers at a time that was met
pub met_answers : (v : View) (given : List Given) (now time : ℕ) (replies : List Reply) → IsMet v given time
    → AllByRecursion (λ (x : Reply). x.time ≡ time) replies → AllByRecursion (λ (t : Answered). IsMet v given t.time) (answered_by now replies)
met_answers v given now time replies met times =
    of_answers (λ (t : Answered). IsMet v given t.time) now replies
    (all_weaken (λ (x : Reply). x.time ≡ time) (λ x. IsMet v given (as_answered now x).time) replies (λ x e. subst (λ n. IsMet v given n) (sym e) met) times)

-- answers of which each is to another than those before
pub once_more : (old news : List Answered) → AreDifferent (ids_told old) → AreDifferent (ids_told news)
    → AllByRecursion (λ (t : Answered). AllByRecursion (λ (x : Answered). x.id ≢ t.id) old) news
    → AreDifferent (ids_told (old ++ news))
once_more [] news old_once new_once apart = new_once
once_more (x ∷ old) news old_once new_once apart = (
  joined old old_once.0 apart,
  once_more old news old_once.1 new_once
      (all_weaken (λ (t : Answered). AllByRecursion (λ (y : Answered). y.id ≢ t.id) (x ∷ old))
      (λ (t : Answered). AllByRecursion (λ (y : Answered). y.id ≢ t.id) old) news (λ t a. a.1) apart),
)
  where
    firsts : (rest before : List Answered) → AllByRecursion (λ (t : Answered). AllByRecursion (λ (y : Answered). y.id ≢ t.id) (x ∷ before)) rest
        → AllByRecursion (λ other. ¬ (other ≡ x.id)) (ids_told rest)
    firsts [] before all = tt
    firsts (t ∷ rest) before all = ((λ e. all.0.0 (sym e)), firsts rest before all.1)

    joined : (rest : List Answered) → AllByRecursion (λ other. ¬ (other ≡ x.id)) (ids_told rest)
        → AllByRecursion (λ (t : Answered). AllByRecursion (λ (y : Answered). y.id ≢ t.id) (x ∷ old)) news
        → AllByRecursion (λ other. ¬ (other ≡ x.id)) (ids_told (rest ++ news))
    joined [] all more = firsts news old more
    joined (t ∷ rest) all more = (all.0, joined rest all.1 more)

ids_longer : (old news : List Answered) → ids_told (old ++ news) ≡ ids_told old ++ ids_told news
ids_longer [] news = refl
ids_longer (t ∷ old) news = ap (λ l. t.id ∷ l) (ids_longer old news)

-- an answer among new ones
pub told_now : (id : RequestId) (old news : List Answered) → IsIn id (ids_told news) → IsIn id (ids_told (old ++ news))
told_now id old news i = subst (λ l. IsIn id l) (sym (ids_longer old news)) (in_back id (ids_told old) (ids_told news) i)

-- THE ROUTER

module _ (w : World) (book : Book) (at : ℕ) (r : Router) (fits : RouterFits (view_of w.nodes book) w.asked w.answered at r) (good : Good w book) where
  -- an answer to an open request of this router
  abbrev IsOwn : Answered → Type 0
  IsOwn t = (q : Open) × IsIn q r.requests × (t.id ≡ id_of r q.count)

  open_at : (t : Answered) → (o : IsOwn t) → IsOpenOf (view_of w.nodes book) w.asked w.answered r o.0
  open_at t o = all_at (IsOpenOf (view_of w.nodes book) w.asked w.answered r) o.0 r.requests fits.requests o.1

  own_router : (t : Answered) → IsOwn t → t.id.router ≡ at
  own_router t o = ap (λ (i : RequestId). i.router) o.2 ∙ fits.own

  own_begun : (t : Answered) → IsOwn t → r.begun ≡ true
  own_begun t o = open_begun (view_of w.nodes book) w.asked w.answered at r o.0 fits.own fits.counted (open_at t o)

  own_new : (t : Answered) → IsOwn t → AllByRecursion (λ (x : Answered). x.id ≢ t.id) w.answered
  own_new t o = subst (λ i. AllByRecursion (λ (x : Answered). x.id ≢ i) w.answered) (sym o.2) (open_at t o).silent

  closed_still : (requests : List Open) (news : List Answered) (a : Asked) → IsParted r r.requests requests news → a.id.router ≡ at → a.id.life ≡ r.life
      → IsClosedOrOpen r.requests w.answered a → IsClosedOrOpen requests (w.answered ++ news) a
  closed_still requests news a parted router life (inl i) = by_parted (parted.closed a.id.count i)
    where
      own : id_of r a.id.count ≡ a.id
      own = λ i. record { router = (fits.own ∙ sym router) i; life = (sym life) i; count = a.id.count }

      by_parted : IsIn a.id.count (map (λ (q : Open). q.count) requests) ⊎ IsIn (id_of r a.id.count) (ids_told news)
          → IsClosedOrOpen requests (w.answered ++ news) a
      by_parted (inl k) = inl k
      by_parted (inr k) = inr (told_now a.id w.answered news (subst (λ i. IsIn i (ids_told news)) own k))
  closed_still requests news a parted router life (inr i) = inr (told_more a.id w.answered news i)

  told_still : (time : ℕ) (news : List Answered) → r.time ≤ time → AllByRecursion IsOwn news → AllByRecursion (ToldBelow time) news
      → AllByRecursion (λ (t : Answered). t.id.router ≡ at → IsBy t.id.life r.life r.begun (ToldBelow time t)) (w.answered ++ news)
  told_still time news later own below =
      all_append (λ (t : Answered). t.id.router ≡ at → IsBy t.id.life r.life r.begun (ToldBelow time t)) w.answered news
      (all_weaken (λ (t : Answered). t.id.router ≡ at → IsBy t.id.life r.life r.begun (ToldBelow r.time t))
      (λ (t : Answered). t.id.router ≡ at → IsBy t.id.life r.life r.begun (ToldBelow time t)) w.answered
      (λ t h e. by_weaken t.id.life r.life r.begun (ToldBelow r.time t) (ToldBelow time t) (λ b n s. let l = b n s in omega arith) (h e)) fits.told)
      (all_both IsOwn (ToldBelow time) (λ (t : Answered). t.id.router ≡ at → IsBy t.id.life r.life r.begun (ToldBelow time t)) news
      (λ t o b e. inr (ap (λ (i : RequestId). i.life) o.2, own_begun t o, b)) own below)

  router_goes : (v : View) (time moment : ℕ) (tables : List Table) (requests : List Open) (f : Opened) (mail : List Letter) (replies : List Reply)
      → r.time ≤ time
      → IsParted r r.requests requests (answered_by w.now replies) → RowFits v w book (goes_to r time moment tables requests f) mail replies
      → RouterFits v w.asked (w.answered ++ answered_by w.now replies) at (goes_to r time moment tables requests f)
  router_goes v time moment tables requests f mail replies later parted row = record {
    own = fits.own;
    place = fits.place;
    requests = all_both (IsOpenOf v w.asked w.answered (goes_to r time moment tables requests f))
        (λ (q : Open). AllByRecursion (λ (t : Answered). t.id ≢ id_of r q.count) (answered_by w.now replies))
        (IsOpenOf v w.asked (w.answered ++ answered_by w.now replies) (goes_to r time moment tables requests f)) requests
        (λ q o s. record {
          request = o.request;
          taken = o.taken;
          own = o.own;
          link = o.link;
          number = o.number;
          asks = o.asks;
          arrived = o.arrived;
          past = o.past;
          reached = o.reached;
          silent = all_append (λ (t : Answered). t.id ≢ id_of r q.count) w.answered (answered_by w.now replies) o.silent s;
          work = o.work;
          seen = o.seen;
          sent = o.sent;
          parts = o.parts;
        }) row.requests parted.silent;
    different = parted.different;
    counted = fits.counted;
    told = told_still time (answered_by w.now replies) later parted.own (of_answers (ToldBelow time) w.now replies row.below);
    tables = row.tables;
    closed = all_weaken (λ (a : Asked). a.id.router ≡ at → a.id.life ≡ r.life → IsClosedOrOpen r.requests w.answered a)
        (λ (a : Asked). a.id.router ≡ at → a.id.life ≡ r.life → IsClosedOrOpen requests (w.answered ++ answered_by w.now replies) a) w.asked
        (λ a c e f. closed_still requests (answered_by w.now replies) a parted e f (c e f)) fits.closed;
    risen = all_weaken (λ (a : Asked). a.id.router ≡ at → IsBy a.id.life r.life r.begun (a.time ≤ r.time))
        (λ (a : Asked). a.id.router ≡ at → IsBy a.id.life r.life r.begun (a.time ≤ time)) w.asked
        (λ a h e. by_weaken a.id.life r.life r.begun (a.time ≤ r.time) (a.time ≤ time) (λ l. omega arith) (h e)) fits.risen;
  }

  pub goes_owes : (kept : List Kept) (time moment : ℕ) (tables : List Table) (requests : List Open) (f : Opened) (mail : List Letter) (replies : List Reply)
      → r.time ≤ time → greatest_kept kept ≤ r.time
      → IsMet (view_of w.nodes book) w.given time → IsParted r r.requests requests (answered_by w.now replies)
      → (left : Leaves w book at r (goes_to r time moment tables requests f) f)
      → ((v : View) → Later (view_of w.nodes book) v → ((p : ℕ) → p ≢ at → v.journal p ≡ journal_at w.nodes p) → v.chosen ≡ book.chosen ++ left.news
      → v.cursors ≡ left.cursors → IsKept v w → AllByRecursion (IsNoted v.reached (goes_to r time moment tables requests f)) requests
      → v.reached ≡ book.reached ++ map (raise_of r) requests → RowFits v w book (goes_to r time moment tables requests f) mail replies)
      → Owes w book at (record { state = router_state r; kept = kept }) (tells f mail replies) (router_state (goes_to r time moment tables requests f))
  goes_owes kept time moment tables requests f mail replies later within met parted left row = record {
    kind = tt;
    rises = all_weaken (IsTimeless at r.time) (IsAbove at r.time) f.written (λ k h. h.0) left.timeless;
    taken = tt;
    told = of_replies (λ (t : Answered). t.id.router ≡ at) w.now replies
        (all_weaken IsOwn (λ (t : Answered). t.id.router ≡ at) (answered_by w.now replies) (λ t o. own_router t o) parted.own);
    one = rw (append-nil w.asked) good.one;
    once = once_more w.answered (answered_by w.now replies) good.once parted.apart
        (all_weaken IsOwn (λ (t : Answered). AllByRecursion (λ (x : Answered). x.id ≢ t.id) w.answered) (answered_by w.now replies)
        (λ t o. own_new t o) parted.own);
    fresh = tt;
    in_order = tt;
    news = left.news;
    chose = rw (append-nil w.asked) left.chose;
    cursors = left.cursors;
    raised = left.raised;
    elsewhere = left.turns.elsewhere;
    owed = λ v grows others journal bound chosen cursors notes. let given_row = row v grows others chosen cursors (record { given = notes.given; lacks = notes.lacks }) (noted v notes) notes.reached in record {
      node = rw (append-nil w.asked) (record {
        state = router_goes v time moment tables requests f mail replies later parted given_row;
        met = met_later (view_of w.nodes book) v w.given time grows met;
        cursors = subst (λ l. CursorsFit l at (goes_to r time moment tables requests f)) (sym cursors) left.turns.fits;
        within = within_more kept f.written r.time time within later
            (all_weaken (IsTimeless at r.time) (λ k. time_kept k ≤ time) f.written (λ k h. let n = h.1 in omega (arith, n, later)) left.timeless);
      });
      letters = rw (append-nil w.asked) given_row.letters;
      answers = rw (append-nil w.asked) given_row.answers;
      known = tt;
      met = met_answers v w.given w.now time replies (met_later (view_of w.nodes book) v w.given time grows met) given_row.times;
    };
  }
    where
      noted : (v : View) → IsNotedIn v w book (router_state (goes_to r time moment tables requests f))
          → AllByRecursion (IsNoted v.reached (goes_to r time moment tables requests f)) requests
      noted v notes = subst (λ l. AllByRecursion (IsNoted l (goes_to r time moment tables requests f)) requests) (sym notes.reached)
          (all_noted book.reached (goes_to r time moment tables requests f) requests)
