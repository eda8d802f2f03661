-- A router's life begins, and a request comes.
use Rattle.std.proofs.Common.{◌≡◌, ◌≢◌, inl, inr, ℕ, ℤ, ◌+◌, ◌<◌, ◌≤◌, List, [], ◌∷◌, ◌++◌, refl, sym, ap, subst, ◌∙◌, arith, append-nil, Bool}
use Rattle.std.specs.Prelude.{None, true, false, filter}
use Rattle.std.specs.List.{AllByRecursion}
use Rattle.history_model.proofs.Lists.{all_weaken, all_append, all_at, in_back, in_first, in_prefix}
use Rattle.opmsg_model.specs.Requests.{Request}
use Rattle.history_model.specs.History.{IsIn}
use Rattle.base_model.specs.Identities.{RequestId}
use Rattle.reply_model.specs.Exchanges.{Asked, Answered}
use Rattle.reply_model.specs.OneHistory.{IsNotBefore, ids_asked, ids_told, AreDifferent}
use Rattle.node_model.specs.Journal.{Kept, kept_life}
use Rattle.node_model.specs.Letters.{Letter, Reply, writes}
use Rattle.reply_model.specs.Cursors.{Cursor}
use Rattle.node_model.specs.States.{Open, Router, router_state}
use Rattle.node_model.specs.RouterRequests.{id_of}
use Rattle.node_model.specs.RouterRows.{begins, takes, with_cursors, taken_now}
use Rattle.node_model.specs.World.{World, answered_by}
use Rattle.node_laws.proofs.Views.{Reach, reach_of, Choice, Book, View, view_of, chosen_time}
use Rattle.node_laws.proofs.GreatestTimes.{within_more}
use Rattle.node_laws.proofs.Facts.{IsReached, IsNoted, IsOpenOf, IsBy, is_of, ToldBelow, counts_of, AreDifferentCounts, IsClosedOrOpen, RouterFits, CursorsFit, NodeFits, AnswersFit, no_answer, one_answer, Good}
use Rattle.node_laws.proofs.Owes.{IsSaid, Owes, IsNotedIn}
use Rattle.node_laws.proofs.Reaches.{reach_else, all_noted}
use Rattle.node_laws.proofs.Lists.{all_mapped, map_longer}
use Rattle.node_laws.proofs.Choices.{none_longer, none_of_others}
use Rattle.node_laws.proofs.Turns.{Turns, given_later}
use Rattle.node_laws.proofs.Growth.{met_later}
use Rattle.node_laws.proofs.Others.{open_grows, closed_grows}
use Rattle.node_laws.proofs.RouterAnswers.{as_answered}
use Rattle.node_laws.proofs.OpenFacts.{of_this_life, by_weaken, open_rises}
use Rattle.node_laws.proofs.RouterLater.{of_answers, met_answers, once_more}
use Rattle.node_laws.proofs.RouterForms.{IsBehind, risen_open, known_tables}

-- of a life that did not begin there is nothing
before : (life now : ℕ) (begun : Bool) (P Q : Type 0) → begun ≡ false → IsBy life now begun P → IsBy life now true Q
before life now begun P Q none (inl less) = inl less
before life now begun P Q none (inr (e, is, p)) = absurd (cc)

not_taken : (life now count most : ℕ) (begun : Bool) → IsBy life now begun (count ≤ most) → life ≡ now → count ≡ most + 1 → ⊥
not_taken life now count most begun (inl less) a b = omega arith
not_taken life now count most begun (inr (e, is, l)) a b = omega arith

one_more : (asked : List Asked) (a : Asked) → AreDifferent (ids_asked asked) → AllByRecursion (λ (b : Asked). b.id ≢ a.id) asked
    → AreDifferent (ids_asked (asked ++ a ∷ []))
one_more [] a different new = (tt, tt)
one_more (b ∷ asked) a different new = (joined asked different.0, one_more asked a different.1 new.1)
  where
    joined : (rest : List Asked) → AllByRecursion (λ other. ¬ (other ≡ b.id)) (ids_asked rest)
        → AllByRecursion (λ other. ¬ (other ≡ b.id)) (ids_asked (rest ++ a ∷ []))
    joined [] all = ((λ e. new.0 (sym e)), tt)
    joined (c ∷ rest) all = (all.0, joined rest all.1)

-- open requests with others of another count
counts_more : (count : ℕ) (requests more : List Open) → AreDifferentCounts (counts_of requests) → AreDifferentCounts (counts_of more)
    → AllByRecursion (λ (q : Open). q.count ≢ count) requests
    → AllByRecursion (λ (q : Open). q.count ≡ count) more → AreDifferentCounts (counts_of (requests ++ more))
counts_more count [] more different others apart same = others
counts_more count (q ∷ requests) more different others apart same =
    (joined requests different.0, counts_more count requests more different.1 others apart.1 same)
  where
    behind : (rest : List Open) → AllByRecursion (λ (p : Open). p.count ≡ count) rest → AllByRecursion (λ n. n ≢ q.count) (counts_of rest)
    behind [] all = tt
    behind (p ∷ rest) all = ((λ e. apart.0 (sym e ∙ all.0)), behind rest all.1)

    joined : (rest : List Open) → AllByRecursion (λ n. n ≢ q.count) (counts_of rest) → AllByRecursion (λ n. n ≢ q.count) (counts_of (rest ++ more))
    joined [] all = behind more same
    joined (p ∷ rest) all = (all.0, joined rest all.1)

counts_longer : (n : ℕ) (requests more : List Open) → IsIn n (counts_of requests) → IsIn n (counts_of (requests ++ more))
counts_longer n requests more i = subst (λ l. IsIn n l) (same requests) (in_prefix n (counts_of requests) (counts_of more) i)
  where
    same : (rest : List Open) → counts_of rest ++ counts_of more ≡ counts_of (rest ++ more)
    same [] = refl
    same (q ∷ rest) = ap (λ l. q.count ∷ l) (same rest)

pub counts_behind : (n : ℕ) (requests more : List Open) → IsIn n (counts_of more) → IsIn n (counts_of (requests ++ more))
counts_behind n requests more i = subst (λ l. IsIn n l) (same requests) (in_back n (counts_of requests) (counts_of more) i)
  where
    same : (rest : List Open) → counts_of rest ++ counts_of more ≡ counts_of (rest ++ more)
    same [] = refl
    same (q ∷ rest) = ap (λ l. q.count ∷ l) (same rest)

-- what holds of all holds of the last ones
all_behind : {X : Type 0} (P : X → Type 0) (xs ys : List X) → AllByRecursion P (xs ++ ys) → AllByRecursion P ys
all_behind P [] ys all = all
all_behind P (x ∷ xs) ys all = all_behind P xs ys all.1

-- the request that comes
abbrev pub asked_now : (now : ℕ) → Router → (link : ℕ) → (number : ℤ) → Request → Asked
asked_now now r link number request = record {
  id = id_of r
      (r.count + 1);
  link = link;
  number = number;
  came = now;
  time = r.time;
  moment = r.moment;
  request = request;
}

-- the router with a request more, and these cursors
abbrev pub took : Router → List Cursor → List Open → Router
took r own more = with_cursors own (takes r more)

-- what a row gives where it takes a request
pub record TakesFit (v : View) (w : World) (book : Book) (asked : List Asked) (answered : List Answered) (s : Router)
    (more : List Open) (mail : List Letter) (replies : List Reply) : Type 0 where
  pub requests : AllByRecursion (IsOpenOf v asked answered s) more
  pub letters : AllByRecursion (IsSaid v asked w.given) mail
  pub answers : AnswersFit v asked answered book.cursors (answered_by w.now replies) v.cursors

module _ (w : World) (book : Book) (at : ℕ) (kept : List Kept) (r : Router) (good : Good w book)
    (h : NodeFits (view_of w.nodes book) w.asked w.answered w.given at (record { state = router_state r; kept = kept }))
    (reach : AllByRecursion (IsReached book.reached r) r.requests) where
  mine : RouterFits (view_of w.nodes book) w.asked w.answered at r
  mine = h.state

  -- A LIFE BEGINS

  begun_fits : (v : View) → IsBehind w book at kept r good h reach v → v.chosen ≡ book.chosen ++ [] → r.begun ≡ false → RouterFits v w.asked w.answered at (begins r)
  begun_fits v behind same none = record {
    own = mine.own;
    place = mine.place;
    requests = risen_open w book at kept r good h reach v behind same (begins r) (omega arith);
    different = mine.different;
    counted = all_weaken (λ (a : Asked). a.id.router ≡ at → IsBy a.id.life r.life r.begun (a.id.count ≤ r.count))
        (λ (a : Asked). a.id.router ≡ at → IsBy a.id.life r.life true (a.id.count ≤ 0)) w.asked
        (λ a c e. before a.id.life r.life r.begun (a.id.count ≤ r.count) (a.id.count ≤ 0) none (c e)) mine.counted;
    told = all_weaken (λ (t : Answered). t.id.router ≡ at → IsBy t.id.life r.life r.begun (ToldBelow r.time t))
        (λ (t : Answered). t.id.router ≡ at → IsBy t.id.life r.life true (ToldBelow r.time t)) w.answered
        (λ t c e. before t.id.life r.life r.begun (ToldBelow r.time t) (ToldBelow r.time t) none (c e)) mine.told;
    tables = known_tables w book at kept r good h reach v behind r.time (omega arith);
    closed = mine.closed;
    risen = all_weaken (λ (a : Asked). a.id.router ≡ at → IsBy a.id.life r.life r.begun (a.time ≤ r.time))
        (λ (a : Asked). a.id.router ≡ at → IsBy a.id.life r.life true (a.time ≤ r.time)) w.asked
        (λ a c e. before a.id.life r.life r.begun (a.time ≤ r.time) (a.time ≤ r.time) none (c e)) mine.risen;
  }

  pub begin_owes : r.begun ≡ false
      → Owes w book at (record { state = router_state r; kept = kept }) (writes (kept_life r.life ∷ []) []) (router_state (begins r))
  begin_owes none = record {
    kind = tt;
    rises = (tt, tt);
    taken = tt;
    told = tt;
    one = rw (append-nil w.asked) good.one;
    once = rw (append-nil w.answered) good.once;
    fresh = tt;
    in_order = tt;
    news = [];
    chose = tt;
    cursors = book.cursors;
    raised = reach;
    elsewhere = λ router other. refl;
    owed = λ v grows others journal bound chosen cursors notes. record {
      node = rw (append-nil w.asked, append-nil w.answered) (record {
        state = begun_fits v (grows, others) chosen none;
        met = met_later (view_of w.nodes book) v w.given r.time grows h.met;
        cursors = subst (λ l. CursorsFit l at (begins r)) (sym cursors) (record {
          own = h.cursors.own;
          given = given_later r.life r.begun true r.gave r.gave r.time r.time (filter (is_of at) book.cursors) (λ e. refl) (omega arith) (omega arith)
              h.cursors.given;
          most = h.cursors.most;
        });
        within = within_more kept (kept_life r.life ∷ []) r.time r.time h.within (omega arith) (omega arith, tt);
      });
      letters = tt;
      answers = subst (λ l. AnswersFit v (w.asked ++ []) (w.answered ++ []) book.cursors [] l) (sym cursors) (no_answer book.cursors);
      known = tt;
      met = tt;
    };
  }

  -- A REQUEST COMES

  -- none before has its number
  new_number : AllByRecursion (λ (b : Asked). b.id ≢ id_of r (r.count + 1)) w.asked
  new_number =
      all_weaken (λ (a : Asked). a.id.router ≡ at → IsBy a.id.life r.life r.begun (a.id.count ≤ r.count)) (λ (b : Asked). b.id ≢ id_of r (r.count + 1)) w.asked
      (λ b c e. not_taken b.id.life r.life b.id.count r.count r.begun (c (ap (λ (i : RequestId). i.router) e ∙ mine.own))
      (ap (λ (i : RequestId). i.life) e) (ap (λ (i : RequestId). i.count) e)) mine.counted

  -- nor was it answered
  none_told : (v : View) (asked : List Asked) (answered : List Answered) (cursors last : List Cursor) (told : List Answered)
      → AnswersFit v asked answered cursors told last
      → AllByRecursion (λ (b : Asked). b.id ≢ id_of r (r.count + 1)) asked → AllByRecursion (λ (x : Answered). x.id ≢ id_of r (r.count + 1)) told
  none_told v asked answered _ _ _ (no_answer cursors) all = tt
  none_told v asked answered _ _ _ (one_answer cursors next last t rest f others) all = (
    (λ e. all_at (λ (b : Asked). b.id ≢ id_of r (r.count + 1)) f.request asked all f.taken (f.own ∙ e)),
    none_told v asked answered next last rest others all,
  )

  pub new_answer : AllByRecursion (λ (x : Answered). x.id ≢ id_of r (r.count + 1)) w.answered
  new_answer = none_told (view_of w.nodes book) w.asked w.answered [] book.cursors w.answered good.answers new_number

  -- nor is it noted how far its statements were sent
  none_reached : reach_of (id_of r (r.count + 1)) book.reached ≡ 0
  none_reached =
      reach_else (id_of r (r.count + 1)) book.reached
      (all_weaken (λ (x : Reach). IsIn x.id (ids_asked w.asked)) (λ (x : Reach). x.id ≢ id_of r (r.count + 1)) book.reached
      (λ x i e. all_at (λ n. n ≢ id_of r (r.count + 1)) x.id (ids_asked w.asked)
      (all_mapped (λ n. n ≢ id_of r (r.count + 1)) (λ (a : Asked). a.id) w.asked new_number) i e) good.noted)

  new_reached : (more : List Open) → AllByRecursion (λ (q : Open). q.count ≡ r.count + 1) more → AllByRecursion (IsReached book.reached r) more
  new_reached more counts = all_weaken (λ (q : Open). q.count ≡ r.count + 1) (IsReached book.reached r) more
      (λ q e. let none : reach_of (id_of r q.count) book.reached ≡ 0 = ap (λ n. reach_of (id_of r n) book.reached) e ∙ none_reached in omega (arith, none)) counts

  -- nor is a time decided for it
  pub undecided : chosen_time (id_of r (r.count + 1)) book.chosen ≡ None
  undecided =
      none_of_others (id_of r (r.count + 1)) book.chosen
      (all_weaken (λ (c : Choice). IsIn c.id (ids_asked w.asked)) (λ (c : Choice). c.id ≢ id_of r (r.count + 1)) book.chosen
      (λ c i e. all_at (λ n. n ≢ id_of r (r.count + 1)) c.id (ids_asked w.asked)
      (all_mapped (λ n. n ≢ id_of r (r.count + 1)) (λ (a : Asked). a.id) w.asked new_number) i e) good.decided)

  -- an open request has another
  open_other : (q : Open) → IsOpenOf (view_of w.nodes book) w.asked w.answered r q → id_of r (r.count + 1) ≢ id_of r q.count
  open_other q o e = all_at (λ (b : Asked). b.id ≢ id_of r (r.count + 1)) o.request w.asked new_number o.taken (o.own ∙ sym e)

  open_counts : AllByRecursion (λ (q : Open). q.count ≢ r.count + 1) r.requests
  open_counts = all_weaken (IsOpenOf (view_of w.nodes book) w.asked w.answered r) (λ (q : Open). q.count ≢ r.count + 1) r.requests
      (λ q o e. open_other q o (ap (λ n. id_of r n) (sym e))) mine.requests

  module _ (link : ℕ) (number : ℤ) (request : Request) (begun : r.begun ≡ true) where
    abbrev News : List Asked
    News = asked_now w.now r link number request ∷ []

    not_before : AllByRecursion (IsNotBefore (asked_now w.now r link number request)) w.answered
    not_before =
        all_weaken (λ (t : Answered). t.id.router ≡ at → IsBy t.id.life r.life r.begun (ToldBelow r.time t))
        (IsNotBefore (asked_now w.now r link number request)) w.answered
        (λ t c time router life step shows. (of_this_life t.id.life r.life r.begun (ToldBelow r.time t) life (c (router ∙ mine.own))).1 time shows) mine.told

    in_turn : AllByRecursion (λ (b : Asked). b.id.router ≡ r.me → b.id.life ≡ r.life → b.came < w.now → b.time ≤ r.time) w.asked
    in_turn =
        all_weaken (λ (b : Asked). b.id.router ≡ at → IsBy b.id.life r.life r.begun (b.time ≤ r.time))
        (λ (b : Asked). b.id.router ≡ r.me → b.id.life ≡ r.life → b.came < w.now → b.time ≤ r.time) w.asked
        (λ b c router life step. (of_this_life b.id.life r.life r.begun (b.time ≤ r.time) life (c (router ∙ mine.own))).1) mine.risen

    taken_fits : (v : View) → IsBehind w book at kept r good h reach v → (news : List Choice) → v.chosen ≡ book.chosen ++ news
        → AllByRecursion (λ (c : Choice). c.id ≡ id_of r (r.count + 1)) news
        → (own : List Cursor) (more : List Open) (mail : List Letter) (replies : List Reply)
        → AreDifferentCounts (counts_of more) → AllByRecursion (λ (q : Open). q.count ≡ r.count + 1) more
        → AllByRecursion (λ (x : Answered). x.id ≡ id_of r (r.count + 1)) (answered_by w.now replies)
        → AllByRecursion (ToldBelow r.time) (answered_by w.now replies)
        → IsClosedOrOpen (r.requests ++ more) (w.answered ++ answered_by w.now replies) (asked_now w.now r link number request)
        → TakesFit v w book (w.asked ++ News) (w.answered ++ answered_by w.now replies) (took r own more) more mail replies
        → RouterFits v (w.asked ++ News) (w.answered ++ answered_by w.now replies) at (took r own more)
    taken_fits v behind news same chose own more mail replies apart counts names below closed row = record {
      own = mine.own;
      place = mine.place;
      requests = all_append (IsOpenOf v (w.asked ++ News) (w.answered ++ answered_by w.now replies) (took r own more)) r.requests more
          (all_weaken (IsOpenOf (view_of w.nodes book) w.asked w.answered r)
          (IsOpenOf v (w.asked ++ News) (w.answered ++ answered_by w.now replies) (took r own more)) r.requests
          (λ q o. open_rises v (w.asked ++ News) (w.answered ++ answered_by w.now replies) r (took r own more) q (omega arith)
          (open_grows (view_of w.nodes book) v w.asked News w.answered (answered_by w.now replies) r q behind.0 (λ e. still_none q o e)
          (all_weaken (λ (x : Answered). x.id ≡ id_of r (r.count + 1)) (λ (x : Answered). x.id ≢ id_of r q.count) (answered_by w.now replies)
          (λ x same e. open_other q o (sym same ∙ e)) names) o)) mine.requests)
          row.requests;
      different = counts_more (r.count + 1) r.requests more mine.different apart open_counts counts;
      counted = all_append (λ (a : Asked). a.id.router ≡ at → IsBy a.id.life r.life r.begun (a.id.count ≤ r.count + 1)) w.asked News
          (all_weaken (λ (a : Asked). a.id.router ≡ at → IsBy a.id.life r.life r.begun (a.id.count ≤ r.count))
          (λ (a : Asked). a.id.router ≡ at → IsBy a.id.life r.life r.begun (a.id.count ≤ r.count + 1)) w.asked
          (λ a c e. by_weaken a.id.life r.life r.begun (a.id.count ≤ r.count) (a.id.count ≤ r.count + 1) (λ l. omega arith) (c e)) mine.counted)
          ((λ e. inr (refl, begun, omega arith)), tt);
      told = all_append (λ (t : Answered). t.id.router ≡ at → IsBy t.id.life r.life r.begun (ToldBelow r.time t)) w.answered
          (answered_by w.now replies) mine.told
          (told_new (answered_by w.now replies) names below);
      tables = known_tables w book at kept r good h reach v behind r.time (omega arith);
      closed = all_append (λ (a : Asked). a.id.router ≡ at → a.id.life ≡ r.life → IsClosedOrOpen (r.requests ++ more)
          (w.answered ++ answered_by w.now replies) a) w.asked News
          (all_weaken (λ (a : Asked). a.id.router ≡ at → a.id.life ≡ r.life → IsClosedOrOpen r.requests w.answered a)
          (λ (a : Asked). a.id.router ≡ at → a.id.life ≡ r.life → IsClosedOrOpen (r.requests ++ more) (w.answered ++ answered_by w.now replies) a) w.asked
          (λ a c e f. still a (closed_grows r.requests w.answered (answered_by w.now replies) a (c e f))) mine.closed)
          ((λ e f. closed), tt);
      risen = all_append (λ (a : Asked). a.id.router ≡ at → IsBy a.id.life r.life r.begun (a.time ≤ r.time)) w.asked News mine.risen
          ((λ e. inr (refl, begun, omega arith)), tt);
    }
      where
        still_none : (q : Open) → IsOpenOf (view_of w.nodes book) w.asked w.answered r q → chosen_time (id_of r q.count) book.chosen ≡ None
            → chosen_time (id_of r q.count) v.chosen ≡ None
        still_none q o e =
            ap (λ l. chosen_time (id_of r q.count) l) same
            ∙ none_longer (id_of r q.count) book.chosen news e
            (none_of_others (id_of r q.count) news
            (all_weaken (λ (c : Choice). c.id ≡ id_of r (r.count + 1)) (λ (c : Choice). c.id ≢ id_of r q.count) news
            (λ c is x. open_other q o (sym is ∙ x)) chose))

        still : (a : Asked) → IsClosedOrOpen r.requests (w.answered ++ answered_by w.now replies) a
            → IsClosedOrOpen (r.requests ++ more) (w.answered ++ answered_by w.now replies) a
        still a (inl i) = inl (counts_longer a.id.count r.requests more i)
        still a (inr i) = inr i

        told_new : (news : List Answered) → AllByRecursion (λ (x : Answered). x.id ≡ id_of r (r.count + 1)) news → AllByRecursion (ToldBelow r.time) news
            → AllByRecursion (λ (t : Answered). t.id.router ≡ at → IsBy t.id.life r.life r.begun (ToldBelow r.time t)) news
        told_new [] names below = tt
        told_new (t ∷ news) names below = ((λ e. inr (ap (λ (i : RequestId). i.life) names.0, begun, below.0)), told_new news names.1 below.1)

    -- what it leaves beside its facts: the time that it decides, and the cursors
    pub takes_owes : (news : List Choice) (own after : List Cursor) (more : List Open) (mail : List Letter) (replies : List Reply)
        → AllByRecursion (λ (c : Choice). c.id ≡ id_of r (r.count + 1)) news → Turns book.cursors after at (took r own more)
        → AreDifferentCounts (counts_of more)
        → AllByRecursion (λ (q : Open). q.count ≡ r.count + 1) more
        → AllByRecursion (λ (x : Reply). x.id ≡ id_of r (r.count + 1)) replies → AreDifferent (ids_told (answered_by w.now replies))
        → AllByRecursion (λ x. ToldBelow r.time (as_answered w.now x)) replies → AllByRecursion (λ (x : Reply). x.time ≡ r.time) replies
        → IsClosedOrOpen (r.requests ++ more) (w.answered ++ answered_by w.now replies) (asked_now w.now r link number request)
        → ((v : View) → IsBehind w book at kept r good h reach v → v.chosen ≡ book.chosen ++ news → v.cursors ≡ after → AllByRecursion (IsNoted v.reached r) more
        → TakesFit v w book (w.asked ++ News) (w.answered ++ answered_by w.now replies) (took r own more) more mail replies)
        → Owes w book at (record { state = router_state r; kept = kept })
        (record { written = []; mail = mail; taken = taken_now r link number request ∷ []; replies = replies; away = [] }) (router_state (took r own more))
    takes_owes news own after more mail replies chose turns apart counts names once below times closed row = record {
      kind = tt;
      rises = tt;
      taken = (mine.own, tt);
      told = all_weaken (λ (x : Reply). x.id ≡ id_of r (r.count + 1)) (λ (x : Reply). x.id.router ≡ at) replies
          (λ x e. ap (λ (i : RequestId). i.router) e ∙ mine.own) names;
      one = one_more w.asked (asked_now w.now r link number request) good.one new_number;
      once = once_more w.answered (answered_by w.now replies) good.once once
          (all_weaken (λ (t : Answered). t.id ≡ id_of r (r.count + 1)) (λ (t : Answered). AllByRecursion (λ (x : Answered). x.id ≢ t.id) w.answered)
          (answered_by w.now replies)
          (λ t e. subst (λ i. AllByRecursion (λ (x : Answered). x.id ≢ i) w.answered) (sym e) new_answer)
          (of_answers (λ (t : Answered). t.id ≡ id_of r (r.count + 1)) w.now replies names));
      fresh = (not_before, tt);
      in_order = (in_turn, tt);
      news = news;
      chose = all_weaken (λ (c : Choice). c.id ≡ id_of r (r.count + 1)) (λ (c : Choice). (c.id.router ≡ at) × IsIn c.id (ids_asked (w.asked ++ News))) news
          (λ c e. (ap (λ (i : RequestId). i.router) e ∙ mine.own, subst (λ i. IsIn i (ids_asked (w.asked ++ News))) (sym e) asked_too)) chose;
      cursors = after;
      raised = all_append (IsReached book.reached r) r.requests more reach (new_reached more counts);
      elsewhere = turns.elsewhere;
      owed = λ v grows others journal bound chosen cursors notes. let given_row = row v (grows, others) chosen cursors (noted_more v own more notes) in record {
        node = record {
          state = taken_fits v (grows, others) news chosen chose own more mail replies apart counts
              (of_answers (λ (t : Answered). t.id ≡ id_of r (r.count + 1)) w.now replies names)
              (of_answers (ToldBelow r.time) w.now replies below) closed given_row;
          met = met_later (view_of w.nodes book) v w.given r.time grows h.met;
          cursors = subst (λ l. CursorsFit l at (took r own more)) (sym cursors) turns.fits;
          within = within_more kept [] r.time r.time h.within (omega arith) tt;
        };
        letters = given_row.letters;
        answers = given_row.answers;
        known = (met_later (view_of w.nodes book) v w.given r.time grows h.met, tt);
        met = met_answers v w.given w.now r.time replies (met_later (view_of w.nodes book) v w.given r.time grows h.met) times;
      };
    }
      where
        noted_more : (v : View) (own : List Cursor) (more : List Open) → IsNotedIn v w book (router_state (took r own more)) → AllByRecursion (IsNoted v.reached r) more
        noted_more v own more notes =
            all_behind (IsNoted v.reached r) r.requests more
            (subst (λ l. AllByRecursion (IsNoted l r) (r.requests ++ more)) (sym notes.reached) (all_noted book.reached r (r.requests ++ more)))

        asked_too : IsIn (id_of r (r.count + 1)) (ids_asked (w.asked ++ News))
        asked_too =
            subst (λ l. IsIn (id_of r (r.count + 1)) l) (sym (map_longer (λ (a : Asked). a.id) w.asked News))
            (in_back (id_of r (r.count + 1)) (ids_asked w.asked) (id_of r (r.count + 1) ∷ []) (in_first (id_of r (r.count + 1)) []))
