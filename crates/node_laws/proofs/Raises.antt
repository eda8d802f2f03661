-- How far the statements of an open request were sent only rises, in all that becomes of it.
use Rattle.std.proofs.Common.{◌≡◌, ◌≢◌, ◌⊎◌, inl, inr, ℕ, zero, suc, ◌≤◌, List, [], ◌∷◌, ◌++◌, refl, sym, ap, subst, ◌∙◌, arith, Bool}
use Rattle.std.specs.Prelude.{Option, Some, None, true, false, not, map, length, filter, ◌-◌, ◌==◌, ◌&&◌, ◌||◌, if◌then◌else◌}
use Rattle.std.specs.List.{AllByRecursion, flat_map}
use Rattle.std.proofs.lemmas.Bool.{eqb-false}
use Rattle.history_model.proofs.Lists.{all_weaken, all_from, all_append, all_at, in_first, in_later, in_none, in_cons}
use Rattle.history_model.specs.History.{IsIn}
use Rattle.base_model.specs.Identities.{RequestId}
use Rattle.base_model.specs.Refusals.{Refusal}
use Rattle.chunk_model.specs.Tables.{Table}
use Rattle.chunk_model.specs.Versions.{Version}
use Rattle.command_model.specs.Writes.{WriteKind}
use Rattle.reply_model.specs.Outcomes.{StatementOutcome, has_outcome, with_outcome, was_refused, lack_refusal, expired_refusal}
use Rattle.node_model.specs.Letters.{At, Cause, is_stale, Statement}
use Rattle.node_model.specs.States.{Run, Course, Work, writing, reading, sharding, splitting, Open, Router, replaced, without}
use Rattle.node_model.specs.RouterRequests.{id_of, has_index, is_sent, unanswered, unsent, with_runs, indices_of}
use Rattle.node_model.specs.RouterNext.{left_of, settled, Next, stays, is_told, stay_in, after_next, write_on, read_on, begins_work, next_of, with_outcomes, given_up, gives_up, refused_next, table_refused, at_moment}
use Rattle.node_laws.proofs.Views.{Reach, reach_of}
use Rattle.node_laws.proofs.Facts.{reach_in, raise_of, counts_of, AreDifferentCounts, IsReached}
use Rattle.node_laws.proofs.Reaches.{reach_else, reach_joined}
use Rattle.node_laws.proofs.Outcomes.{HasMore}
use Rattle.node_laws.proofs.SentRuns.{twice, index_left}
use Rattle.node_laws.proofs.SentParts.{filter_less}
use Rattle.node_laws.proofs.OpenRequests.{all_without, all_replaced}
use Rattle.node_laws.proofs.NextCases.{more_of, IsTask, by_write, by_next, by_refused, by_no_table, by_moment}
use Rattle.node_laws.proofs.NextKeeps.{Continues}

-- WHAT IS NOT SENT

two_true : (a b : Bool) → (a && b) ≡ true → (a ≡ true) × (b ≡ true)
two_true true b h = (refl, h)
two_true false b h = absurd (cc)

both_true : (a b : Bool) → a ≡ true → b ≡ true → (a && b) ≡ true
both_true true b h k = k
both_true false b h k = absurd (cc)

not_true : (a : Bool) → not a ≡ true → a ≡ false
not_true true h = absurd (cc)
not_true false h = refl

true_false : (a : Bool) → a ≡ true → a ≡ false → ⊥
true_false a h k = let e : true ≡ false = sym h ∙ k in cc

-- fewer are left where each that is left was left before
unsent_less : (statements : List Statement) (c d : Course)
    → ((s : Statement) → has_outcome d.answers s.number.index ≡ false → is_sent d.runs s ≡ false
    → (has_outcome c.answers s.number.index ≡ false) × (is_sent c.runs s ≡ false))
    → length (unsent false statements d) ≤ length (unsent false statements c)
unsent_less statements c d each =
    let now : length (unsent false statements d) ≡ length (filter (Left d) statements) = ap (λ (l : List Statement). length l)
    (twice (λ (s : Statement). not (has_outcome d.answers s.number.index)) (λ (s : Statement). not (is_sent d.runs s)) statements) in
    let before : length (unsent false statements c) ≡ length (filter (Left c) statements) = ap (λ (l : List Statement). length l)
    (twice (λ (s : Statement). not (has_outcome c.answers s.number.index)) (λ (s : Statement). not (is_sent c.runs s)) statements) in
    let less = filter_less (Left d) (Left c) statements (all_from (λ s. Left d s ≡ true → Left c s ≡ true) statements (λ s i h. so s h)) in
    omega (arith, now, before, less)
  where
    Left : Course → Statement → Bool
    Left x s = not (has_outcome x.answers s.number.index) && not (is_sent x.runs s)

    so : (s : Statement) → Left d s ≡ true → Left c s ≡ true
    so s h =
        let parts = two_true (not (has_outcome d.answers s.number.index)) (not (is_sent d.runs s)) h in
        let was = each s (not_true (has_outcome d.answers s.number.index) parts.0) (not_true (is_sent d.runs s) parts.1) in
        both_true (not (has_outcome c.answers s.number.index)) (not (is_sent c.runs s)) (ap not was.0) (ap not was.1)

-- with more runs
sent_first : (runs more : List Run) (s : Statement) → is_sent (runs ++ more) s ≡ false → is_sent runs s ≡ false
sent_first [] more s h = refl
sent_first (run ∷ runs) more s h = by_own (has_index run.indices s.number.index) h (λ k. sent_first runs more s k)
  where
    by_own : (b : Bool) → (b || is_sent (runs ++ more) s) ≡ false → (is_sent (runs ++ more) s ≡ false → is_sent runs s ≡ false) → (b || is_sent runs s) ≡ false
    by_own true h later = absurd (cc)
    by_own false h later = later h

pub more_unsent : (statements : List Statement) (c : Course) (more : List Run)
    → length (unsent false statements (with_runs c more)) ≤ length (unsent false statements c)
more_unsent statements c more = unsent_less statements c (with_runs c more) (λ s open_yet not_sent. (open_yet, sent_first c.runs more s not_sent))

-- with more outcomes
sent_left : (answers : List (Option StatementOutcome)) (runs : List Run) (s : Statement) → has_outcome answers s.number.index ≡ false
    → is_sent (left_of answers runs) s ≡ is_sent runs s
sent_left answers [] s open_yet = refl
sent_left answers (run ∷ runs) s open_yet =
    by_rest (filter (λ i. not (has_outcome answers i)) run.indices) own (sent_left answers runs s open_yet)
  where
    with_true : (a b : Bool) → b ≡ false → (a && not b) ≡ a
    with_true true b h = ap not h
    with_true false b h = refl

    own : has_index (filter (λ i. not (has_outcome answers i)) run.indices) s.number.index ≡ has_index run.indices s.number.index
    own = index_left (λ i. not (has_outcome answers i)) run.indices s.number.index
        ∙ with_true (has_index run.indices s.number.index) (has_outcome answers s.number.index) open_yet

    by_rest : (rest : List ℕ) → has_index rest s.number.index ≡ has_index run.indices s.number.index → is_sent (left_of answers runs) s ≡ is_sent runs s
        → is_sent (elim rest as (λ (l : List ℕ). List Run) [
          | [] ↦ left_of answers runs
          | i ∷ indices ↦ record { shard = run.shard; sent = run.sent; indices = i ∷ indices } ∷ left_of answers runs
        ]) s ≡ (has_index run.indices s.number.index || is_sent runs s)
    by_rest [] same more = more ∙ ap (λ b. b || is_sent runs s) same
    by_rest (i ∷ rest) same more = ap (λ b. b || is_sent (left_of answers runs) s) same ∙ ap (λ b. has_index run.indices s.number.index || b) more

pub settled_unsent : (statements : List Statement) (c : Course) (answers : List (Option StatementOutcome)) → HasMore c.answers answers
    → length (unsent false statements (settled c answers)) ≤ length (unsent false statements c)
settled_unsent statements c answers more = unsent_less statements c (settled c answers)
    (λ s open_yet not_sent. (
      open_before s.number.index (has_outcome c.answers s.number.index) refl open_yet,
      sym (sent_left answers c.runs s open_yet) ∙ not_sent,
    ))
  where
    open_before : (n : ℕ) (b : Bool) → has_outcome c.answers n ≡ b → has_outcome answers n ≡ false → b ≡ false
    open_before n true h open_yet = absurd (true_false (has_outcome answers n) (more n h) open_yet)
    open_before n false h open_yet = refl

-- what is given up keeps the outcomes that there are
pub with_more : (index : ℕ) (x : StatementOutcome) (answers : List (Option StatementOutcome)) → HasMore answers (with_outcome index x answers)
with_more index x [] i h = h
with_more zero x (None ∷ answers) zero h = refl
with_more zero x (None ∷ answers) (suc i) h = h
with_more zero x (Some y ∷ answers) i h = h
with_more (suc index) x (y ∷ answers) zero h = h
with_more (suc index) x (y ∷ answers) (suc i) h = with_more index x answers i h

all_more : (indices : List ℕ) (x : StatementOutcome) (answers : List (Option StatementOutcome)) → HasMore answers (with_outcomes indices x answers)
all_more [] x answers i h = h
all_more (index ∷ indices) x answers i h = with_more index x (with_outcomes indices x answers) i (all_more indices x answers i h)

pub given_more : (ordered : Bool) (refusal : Refusal) (indices : List ℕ) (answers : List (Option StatementOutcome))
    → HasMore answers (given_up ordered refusal indices answers)
given_more ordered refusal [] answers i h = h
given_more true refusal (index ∷ indices) answers i h = with_more index (was_refused refusal) answers i h
given_more false refusal (index ∷ indices) answers i h = all_more (index ∷ indices) (was_refused refusal) answers i h

-- WHAT BECOMES OF AN OPEN REQUEST

-- where it stays open, not less was sent of it
abbrev pub Raises : Open → Next → Type 0
Raises q (stays p letters) = reach_in q.work ≤ reach_in p.work
Raises q (is_told reply) = Unit {0}

reach_rises : (ordered : Bool) (n a b : ℕ) → b ≤ a → (if ordered then n - a else 0) ≤ (if ordered then n - b else 0)
reach_rises true n a b le = omega (arith, le)
reach_rises false n a b le = omega arith

-- a write that goes on, with no more left than there was
pub write_raises : (r : Router) (time : ℕ) (tables : List Table) (asks : Bool) (again : List Run) (q : Open) (kind : WriteKind) (ordered : Bool)
    (statements : List Statement) (c d : Course) → q.work ≡ writing kind ordered statements c
    → length (unsent false statements d) ≤ length (unsent false statements c) → Raises q (write_on r time tables asks again q kind ordered statements d)
write_raises r time tables asks again q kind ordered statements c d work less = by_write (Raises q) r time tables q asks again kind ordered statements d
    (λ whole. tt) (λ open_yet none. rises) (λ open_yet s left some. rises)
  where
    rises : reach_in q.work ≤ reach_in (writing kind ordered statements (with_runs d (more_of tables q ordered statements d)))
    rises =
        let more = more_unsent statements d (more_of tables q ordered statements d) in
        subst (λ x. reach_in x ≤ reach_in (writing kind ordered statements (with_runs d (more_of tables q ordered statements d)))) (sym work)
        (reach_rises ordered (length statements) (length (unsent false statements c))
        (length (unsent false statements (with_runs d (more_of tables q ordered statements d)))) (omega (arith, more, less)))

pub gives_raises : (r : Router) (time : ℕ) (q : Open) (kind : WriteKind) (ordered : Bool) (statements : List Statement) (c : Course) (refusal : Refusal)
    (indices : List ℕ) → q.work ≡ writing kind ordered statements c → Raises q (gives_up r time q kind ordered statements c refusal indices)
gives_raises r time q kind ordered statements c refusal indices work =
    write_raises r time r.tables false [] q kind ordered statements c (settled c (given_up ordered refusal indices c.answers)) work
    (settled_unsent statements c (given_up ordered refusal indices c.answers) (given_more ordered refusal indices c.answers))

-- of other work nothing is noted
pub task_raises : (q : Open) → IsTask q.work → (next : Next) → Raises q next
task_raises q task (stays p letters) = let none = nothing q.work task in omega (arith, none)
  where
    nothing : (work : Work) → IsTask work → reach_in work ≡ 0
    nothing (writing kind ordered statements c) is = absurd is
    nothing (reading named at stages telling) is = refl
    nothing sharding is = refl
    nothing (splitting middle) is = refl
task_raises q task (is_told reply) = tt

is_task : (q : Open) (work : Work) → q.work ≡ work → IsTask work → IsTask q.work
is_task q work same task = subst (λ x. IsTask x) (sym same) task

pub next_raises : (r : Router) (time : ℕ) (tables : List Table) (namespace : List ℕ) (made : Bool) (told : At) (q : Open)
    → Raises q (next_of r time tables namespace made told q)
next_raises r time tables namespace made told q = by_next (Raises q) r time tables q namespace made told (λ other. omega arith) (λ here. (
  (λ kind ordered statements c work. write_raises r time tables false [] q kind ordered statements c c work (omega arith)),
  (λ named at stages telling work own. tt),
  (λ named at stages telling work.
      task_raises q (is_task q (reading named at stages telling) work tt) (read_on r time tables false q named at stages telling)),
  (λ work is. tt),
  (λ not_made. omega arith),
  (λ middle work. omega arith),
))

pub begins_raises : (r : Router) (time : ℕ) (q : Open) (work : Work) → IsTask q.work → Raises q (begins_work r time q work)
begins_raises r time q work task = task_raises q task (begins_work r time q work)

pub refused_raises : (r : Router) (time : ℕ) (q : Open) (sender turn first : ℕ) (cause : Cause) (next : Next) → ((met : Version) → cause ≡ is_stale met → ⊥)
    → refused_next r time q sender turn first cause ≡ Some next → Raises q next
refused_raises r time q sender turn first cause next never is = by_refused (Raises q) r time q sender turn first cause next (record {
  stale_write = λ kind ordered statements c run met work same. absurd (never met same);
  lack_write = λ kind ordered statements c run node lack work same has free.
      gives_raises r time q kind ordered statements c (lack_refusal node lack) run.indices work;
  stale_read = λ named at stages telling met work same. absurd (never met same);
  lack_task = λ node lack same task. tt;
}) is

pub no_table_raises : (r : Router) (time : ℕ) (namespace : List ℕ) (create : Bool) (at : At) (refusal : Refusal) (q : Open)
    → Raises q (table_refused r time namespace create at refusal q)
no_table_raises r time namespace create at refusal q = by_no_table (Raises q) r time namespace create at refusal q (omega arith)
    (λ kind ordered statements c work waits. gives_raises r time q kind ordered statements c refusal (indices_of (unsent ordered statements c)) work)
    (λ task. tt)

pub moment_raises : (r : Router) (time moment : ℕ) (q : Open) → Raises q (at_moment r time moment q)
moment_raises r time moment q = by_moment (Raises q) r time moment q (omega arith)
    (λ late kind ordered statements c work free.
    gives_raises r time q kind ordered statements c (expired_refusal q.arrived moment) (indices_of (unanswered statements c.answers)) work)
    (λ late task. tt)

-- OPEN REQUESTS

-- what is noted of one is not more than of the other that it becomes
reached_on : (notes : List Reach) (r : Router) (q p : Open) → p.count ≡ q.count → reach_in q.work ≤ reach_in p.work → IsReached notes r q → IsReached notes r p
reached_on notes r q p same rises le =
    let own : reach_of (id_of r p.count) notes ≡ reach_of (id_of r q.count) notes = ap (λ n. reach_of (id_of r n) notes) same in
    omega (arith, own, rises, le)

pub after_reached : (notes : List Reach) (r : Router) (time : ℕ) (q : Open) (next : Next) → IsIn q r.requests → Continues r time q next → Raises q next
    → AllByRecursion (IsReached notes r) r.requests → AllByRecursion (IsReached notes r) (after_next q next r.requests)
after_reached notes r time q (stays p letters) stands is rises all =
    all_replaced (IsReached notes r) p r.requests
    (reached_on notes r q p is.count rises (all_at (IsReached notes r) q r.requests all stands))
    (all_weaken (IsReached notes r) (λ (x : Open). x.count ≢ p.count → IsReached notes r x) r.requests (λ x h other. h) all)
after_reached notes r time q (is_told reply) stands is rises all = all_without (IsReached notes r) q.count r.requests all

pub each_reached : (notes : List Reach) (r : Router) (time : ℕ) (next : Open → Next) (requests : List Open) → ((q : Open) → Continues r time q (next q))
    → ((q : Open) → Raises q (next q)) → AllByRecursion (IsReached notes r) requests
    → AllByRecursion (IsReached notes r) (flat_map (λ q. stay_in (next q)) requests)
each_reached notes r time next [] keeps rises all = tt
each_reached notes r time next (q ∷ requests) keeps rises all =
    all_append (IsReached notes r) (stay_in (next q)) (flat_map (λ p. stay_in (next p)) requests) (by_next_one (next q) (keeps q) (rises q))
    (each_reached notes r time next requests keeps rises all.1)
  where
    by_next_one : (n : Next) → Continues r time q n → Raises q n → AllByRecursion (IsReached notes r) (stay_in n)
    by_next_one (stays p letters) is rise = (reached_on notes r q p is.count rise all.0, tt)
    by_next_one (is_told reply) is rise = tt

-- what holds of all that stay holds of what stays of each
pub all_apart : (P : Open → Type 0) (next : Open → Next) (requests : List Open) → AllByRecursion P (flat_map (λ q. stay_in (next q)) requests)
    → AllByRecursion (λ q. AllByRecursion P (stay_in (next q))) requests
all_apart P next [] all = tt
all_apart P next (q ∷ requests) all = by_own (next q) all (λ rest. all_apart P next requests rest)
  where
    by_own : (n : Next) → AllByRecursion P (stay_in n ++ flat_map (λ p. stay_in (next p)) requests)
        → (AllByRecursion P (flat_map (λ p. stay_in (next p)) requests) → AllByRecursion (λ p. AllByRecursion P (stay_in (next p))) requests)
        → AllByRecursion P (stay_in n) × AllByRecursion (λ p. AllByRecursion P (stay_in (next p))) requests
    by_own (stays p letters) both more = ((both.0, tt), more both.1)
    by_own (is_told reply) both more = (tt, more both)

-- one that is replaced stands in its place
in_place : (q p : Open) (requests : List Open) → p.count ≡ q.count → IsIn q requests → IsIn p (replaced p requests)
in_place q p [] same i = absurd (in_none q i)
in_place q p (x ∷ requests) same i = by_test (x.count == p.count) refl (in_cons q x requests i) (λ j. in_place q p requests same j)
  where
    by_test : (b : Bool) → (x.count == p.count) ≡ b → (q ≡ x) ⊎ IsIn q requests → (IsIn q requests → IsIn p (replaced p requests))
        → IsIn p (if b then p ∷ replaced p requests else x ∷ replaced p requests)
    by_test true h place more = in_first p (replaced p requests)
    by_test false h (inl own) more = absurd (eqb-false x.count p.count h (ap (λ (y : Open). y.count) (sym own) ∙ sym same))
    by_test false h (inr j) more = in_later p x (replaced p requests) (more j)

pub after_noted : (P : Open → Type 0) (r : Router) (time : ℕ) (q : Open) (next : Next) → IsIn q r.requests → Continues r time q next
    → AllByRecursion P (after_next q next r.requests) → AllByRecursion P (stay_in next)
after_noted P r time q (stays p letters) stands is all = (all_at P p (replaced p r.requests) all (in_place q p r.requests is.count stands), tt)
after_noted P r time q (is_told reply) stands is all = tt

-- WHAT IS ANSWERED

-- where it is answered, no more is noted of it than was sent
abbrev pub TellsReach : List Reach → Router → Open → Next → Type 0
TellsReach notes r q (stays p letters) = Unit {0}
TellsReach notes r q (is_told reply) = reach_of (id_of r q.count) notes ≤ reach_in q.work

-- no request of these has this count
pub none_counted : (count : ℕ) (requests : List Open) → AllByRecursion (λ (p : Open). p.count ≢ count) (without count requests)
none_counted count [] = tt
none_counted count (p ∷ requests) = by_test (p.count == count) refl (none_counted count requests)
  where
    by_test : (b : Bool) → (p.count == count) ≡ b → AllByRecursion (λ (x : Open). x.count ≢ count) (without count requests)
        → AllByRecursion (λ (x : Open). x.count ≢ count) (if b then without count requests else p ∷ without count requests)
    by_test true h more = more
    by_test false h more = ((λ e. eqb-false p.count count h e), more)

pub told_reach : (old new : List Reach) (r : Router) (q : Open) (others : List Open) → new ≡ old ++ map (raise_of r) others → IsReached old r q
    → AllByRecursion (λ (p : Open). p.count ≢ q.count) others → reach_of (id_of r q.count) new ≤ reach_in q.work
told_reach old new r q others same own apart =
    let none : reach_of (id_of r q.count) (map (raise_of r) others) ≡ 0 = reach_else (id_of r q.count) (map (raise_of r) others) (else_all others apart) in
    subst (λ l. reach_of (id_of r q.count) l ≤ reach_in q.work) (sym same)
    (reach_joined (id_of r q.count) old (map (raise_of r) others) (reach_in q.work) own (omega (arith, none)))
  where
    else_all : (ps : List Open) → AllByRecursion (λ (p : Open). p.count ≢ q.count) ps → AllByRecursion (λ (x : Reach). x.id ≢ id_of r q.count) (map (raise_of r) ps)
    else_all [] all = tt
    else_all (p ∷ ps) all = ((λ e. all.0 (ap (λ (i : RequestId). i.count) e)), else_all ps all.1)

-- what becomes of others has other counts
left_apart : (r : Router) (time count : ℕ) (next : Open → Next) (requests : List Open) → ((q : Open) → Continues r time q (next q))
    → AllByRecursion (λ n. n ≢ count) (counts_of requests) → AllByRecursion (λ (p : Open). p.count ≢ count) (flat_map (λ q. stay_in (next q)) requests)
left_apart r time count next [] keeps all = tt
left_apart r time count next (q ∷ requests) keeps all =
    all_append (λ (p : Open). p.count ≢ count) (stay_in (next q)) (flat_map (λ p. stay_in (next p)) requests) (by_own (next q) (keeps q))
    (left_apart r time count next requests keeps all.1)
  where
    by_own : (n : Next) → Continues r time q n → AllByRecursion (λ (p : Open). p.count ≢ count) (stay_in n)
    by_own (stays p letters) is = ((λ e. all.0 (sym is.count ∙ e)), tt)
    by_own (is_told reply) is = tt

apart_at : (count : ℕ) (requests : List Open) (q : Open) → AllByRecursion (λ n. n ≢ count) (counts_of requests) → IsIn q requests → q.count ≢ count
apart_at count requests q all i = all_at (λ (p : Open). p.count ≢ count) q requests (each requests all) i
  where
    each : (ps : List Open) → AllByRecursion (λ n. n ≢ count) (counts_of ps) → AllByRecursion (λ (p : Open). p.count ≢ count) ps
    each [] none = tt
    each (p ∷ ps) some = (some.0, each ps some.1)

-- where one is answered, all that stay are others
left_but : (r : Router) (time : ℕ) (next : Open → Next) (q : Open) (requests : List Open) → ((p : Open) → Continues r time p (next p))
    → AreDifferentCounts (counts_of requests) → IsIn q requests → stay_in (next q) ≡ []
    → AllByRecursion (λ (p : Open). p.count ≢ q.count) (flat_map (λ p. stay_in (next p)) requests)
left_but r time next q [] keeps different i told = tt
left_but r time next q (x ∷ requests) keeps different i told =
    by_place (in_cons q x requests i) (λ j. left_but r time next q requests keeps different.1 j told)
  where
    by_own : x.count ≢ q.count → (n : Next) → Continues r time x n → AllByRecursion (λ (p : Open). p.count ≢ q.count) (stay_in n)
    by_own other (stays p letters) is = ((λ e. other (sym is.count ∙ e)), tt)
    by_own other (is_told reply) is = tt

    by_place : (q ≡ x) ⊎ IsIn q requests
        → (IsIn q requests → AllByRecursion (λ (p : Open). p.count ≢ q.count) (flat_map (λ p. stay_in (next p)) requests))
        → AllByRecursion (λ (p : Open). p.count ≢ q.count) (stay_in (next x) ++ flat_map (λ p. stay_in (next p)) requests)
    by_place (inl same) more =
        subst (λ l. AllByRecursion (λ (p : Open). p.count ≢ q.count) (l ++ flat_map (λ p. stay_in (next p)) requests))
        (sym told ∙ ap (λ y. stay_in (next y)) same)
        (left_apart r time q.count next requests keeps
        (subst (λ n. AllByRecursion (λ k. k ≢ n) (counts_of requests)) (ap (λ (y : Open). y.count) (sym same)) different.0))
    by_place (inr j) more =
        all_append (λ (p : Open). p.count ≢ q.count) (stay_in (next x)) (flat_map (λ p. stay_in (next p)) requests)
        (by_own (λ e. apart_at x.count requests q different.0 j (sym e)) (next x) (keeps x)) (more j)

pub each_tells_reach : (old new : List Reach) (r : Router) (time : ℕ) (next : Open → Next) (requests : List Open) → ((q : Open) → Continues r time q (next q))
    → new ≡ old ++ map (raise_of r) (flat_map (λ q. stay_in (next q)) requests) → AreDifferentCounts (counts_of requests)
    → AllByRecursion (IsReached old r) requests → AllByRecursion (λ q. TellsReach new r q (next q)) requests
each_tells_reach old new r time next requests keeps same different reach =
    all_from (λ q. TellsReach new r q (next q)) requests (λ q i. by_own q i (next q) refl)
  where
    by_own : (q : Open) → IsIn q requests → (n : Next) → next q ≡ n → TellsReach new r q n
    by_own q i (stays p letters) is = tt
    by_own q i (is_told reply) is = told_reach old new r q (flat_map (λ p. stay_in (next p)) requests) same (all_at (IsReached old r) q requests reach i)
        (left_but r time next q requests keeps different i (ap (λ n. stay_in n) is))
