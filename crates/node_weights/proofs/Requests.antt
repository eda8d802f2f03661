-- What becomes of an open request: it is answered, or it has fewer turns left, or nothing is sent for it.
use Rattle.std.proofs.Common.{◌≡◌, ◌≢◌, ◌⊎◌, inl, inr, ℕ, suc, ◌+◌, ◌<◌, ◌≤◌, List, [], ◌∷◌, ◌++◌, length, refl, sym, subst, ap, ◌∙◌, arith, Bool}
use Rattle.std.specs.Prelude.{Some, true, false, nat_lt, ◌==◌, ◌&&◌, if◌then◌else◌}
use Rattle.std.specs.List.{AllByRecursion, flat_map}
use Rattle.std.specs.Str.{bytes_eq}
use Rattle.std.proofs.lemmas.Bool.{eqb-true, eqb-false}
use Rattle.history_model.specs.History.{IsIn}
use Rattle.history_model.proofs.Lists.{all_at, in_none, in_cons}
use Rattle.base_model.specs.Refusals.{Refusal}
use Rattle.chunk_model.specs.Tables.{Table, table_of}
use Rattle.chunk_model.specs.Versions.{Version}
use Rattle.command_model.specs.Writes.{WriteKind}
use Rattle.pipeline_model.specs.Stages.{Stage}
use Rattle.reply_model.specs.Outcomes.{Done, lack_refusal}
use Rattle.node_model.specs.Letters.{At, Statement, Cause, is_stale, Letter, Reply}
use Rattle.node_model.specs.RouterNext.{noted, settled, with_work, given_up, gives_up, is_for_catalogue, Next, stays, is_told, stay_in, letters_in, after_next, write_on, read_on, begins_work, next_of, refused_next, table_refused}
use Rattle.node_model.specs.RouterRequests.{id_of, indices_of, unsent, with_runs, asks_to_write, asks_times, reached}
use Rattle.node_model.specs.States.{Run, Course, Telling, Work, writing, reading, Wait, for_time, for_catalogue, for_shards, Open, Router, without, replaced}
use Rattle.node_laws.proofs.Facts.{counts_of, AreDifferentCounts}
use Rattle.node_laws.proofs.Lists.{in_mapped}
use Rattle.node_laws.proofs.Outcomes.{noted_more}
use Rattle.node_laws.proofs.NextCases.{more_of, by_write, by_read, by_next, by_refused, by_no_table}
use Rattle.node_laws.proofs.Raises.{more_unsent, settled_unsent, given_more}
use Rattle.node_progress.proofs.RouterHears.{reached_now}
use Rattle.node_weights.specs.Weights.{total, without_outcome, turns_before, turns_of}
use Rattle.node_weights.proofs.Writes.{given_fewer, noted_less, run_less}

-- what becomes of a request with this count, which has so many turns left
pub data Proceeds (count turns : ℕ) : Next → Type 0 where
  proceeds_told : (reply : Reply) → Proceeds count turns (is_told reply)
  proceeds_less : (p : Open) (letters : List Letter) → p.count ≡ count → turns_of p.work p.wait < turns → Proceeds count turns (stays p letters)
  proceeds_same : (p : Open) → p.count ≡ count → turns_of p.work p.wait ≤ turns → Proceeds count turns (stays p [])

-- WRITES

module _ (r : Router) (time : ℕ) (tables : List Table) (q : Open) (kind : WriteKind) (ordered : Bool) (statements : List Statement) (c : Course)
    (turns : ℕ) where
  abbrev left : Course → ℕ
  left d = without_outcome d.answers + length (unsent false statements d)

  -- a write that has fewer turns left before it goes on
  pub write_less : (asks : Bool) (again : List Run) → left c < turns → Proceeds q.count turns (write_on r time tables asks again q kind ordered statements c)
  write_less asks again less =
      let more = more_unsent statements c (more_of tables q ordered statements c) in
      by_write (Proceeds q.count turns) r time tables q asks again kind ordered statements c
      (λ whole. proceeds_told _)
      (λ open_yet none. proceeds_less _ _ refl (omega (arith, less, more)))
      (λ open_yet s others some. proceeds_less _ _ refl (omega (arith, less, more)))

  -- and one that has as many: where something is sent it has fewer after it
  pub write_quiet : left c ≤ turns → Proceeds q.count turns (write_on r time tables false [] q kind ordered statements c)
  write_quiet le =
      by_write (Proceeds q.count turns) r time tables q false [] kind ordered statements c
      (λ whole. proceeds_told _)
      (λ open_yet none. by_more for_shards (more_of tables q ordered statements c) refl)
      (λ open_yet s others some. by_more for_catalogue (more_of tables q ordered statements c) refl)
    where
      by_more : (wait : Wait) (more : List Run) → more_of tables q ordered statements c ≡ more
          → Proceeds q.count turns (stays (with_work q wait [] (writing kind ordered statements (with_runs c more)))
          (asks_to_write r time (id_of r q.count) q.namespace ordered statements (with_runs c more) more))
      by_more wait [] is =
          let fewer = more_unsent statements c [] in
          proceeds_same _ refl (omega (arith, le, fewer))
      by_more wait (run ∷ more) is =
          let fewer = run_less ordered (table_of q.namespace tables) statements c run more is in
          proceeds_less _ _ refl (omega (arith, le, fewer))

-- where statements are given up
pub gives_up_proceeds : (r : Router) (time : ℕ) (q : Open) (kind : WriteKind) (ordered : Bool) (statements : List Statement) (c : Course) (refusal : Refusal)
    (indices : List ℕ) (turns : ℕ) → turns ≡ turns_of (writing kind ordered statements c) q.wait
    → Proceeds q.count turns (gives_up r time q kind ordered statements c refusal indices)
gives_up_proceeds r time q kind ordered statements c refusal indices turns is =
    let open_yet = given_fewer ordered refusal indices c.answers in
    let fewer = settled_unsent statements c (given_up ordered refusal indices c.answers) (given_more ordered refusal indices c.answers) in
    write_quiet r time r.tables q kind ordered statements (settled c (given_up ordered refusal indices c.answers)) turns (omega (arith, is, open_yet, fewer))

-- where statements are answered
pub note_proceeds : (r : Router) (time : ℕ) (asks : Bool) (again : List Run) (q : Open) (kind : WriteKind) (ordered : Bool) (statements : List Statement)
    (c : Course) (dones : List Done) (turns : ℕ) → turns ≡ turns_of (writing kind ordered statements c) q.wait → noted ordered c.answers dones ≢ c.answers
    → Proceeds q.count turns (write_on r time r.tables asks again q kind ordered statements (settled c (noted ordered c.answers dones)))
note_proceeds r time asks again q kind ordered statements c dones turns is new =
    let open_yet = noted_less ordered c.answers dones new in
    let fewer = settled_unsent statements c (noted ordered c.answers dones) (noted_more ordered c.answers dones) in
    write_less r time r.tables q kind ordered statements (settled c (noted ordered c.answers dones)) turns asks again (omega (arith, is, open_yet, fewer))

-- READS

module _ (r : Router) (time : ℕ) (tables : List Table) (q : Open) (named : Bool) (at : ℕ) (stages : List Stage) (telling : Telling) (turns : ℕ) where
  pub read_less : (asks : Bool) → 1 < turns → Proceeds q.count turns (read_on r time tables asks q named at stages telling)
  read_less asks less =
      by_read (Proceeds q.count turns) r time tables q asks named at stages telling
      (λ none. proceeds_less _ _ refl less)
      (λ t got. proceeds_less _ _ refl (omega (arith, less)))

  -- the catalogue was asked before
  pub read_quiet : turns ≡ 1 → Proceeds q.count turns (read_on r time tables false q named at stages telling)
  read_quiet is =
      by_read (Proceeds q.count turns) r time tables q false named at stages telling
      (λ none. proceeds_same _ refl (omega (arith, is)))
      (λ t got. proceeds_less _ _ refl (omega (arith, is)))

-- WHAT A MESSAGE DOES

for_it : (wait : Wait) (b : Bool) → (is_for_catalogue wait && b) ≡ true → wait ≡ for_catalogue
for_it for_time b h = absurd (cc)
for_it for_catalogue b h = refl
for_it for_shards b h = absurd (cc)

abbrev pub turns_now : Open → ℕ
turns_now q = turns_of q.work q.wait

turns_are : (q : Open) (work : Work) → q.work ≡ work → turns_now q ≡ turns_of work q.wait
turns_are q work same = ap (λ (w : Work). turns_of w q.wait) same

-- it stays as it is
pub just_proceeds : (q : Open) → Proceeds q.count (turns_now q) (stays q [])
just_proceeds q = proceeds_same q refl (omega arith)

pub next_proceeds : (r : Router) (time : ℕ) (tables : List Table) (namespace : List ℕ) (made : Bool) (told : At) (q : Open)
    → Proceeds q.count (turns_now q) (next_of r time tables namespace made told q)
next_proceeds r time tables namespace made told q =
    by_next (Proceeds q.count (turns_now q)) r time tables q namespace made told (λ other. just_proceeds q) (λ here. (
      (λ kind ordered statements c work.
          let same = turns_are q (writing kind ordered statements c) work in
          write_quiet r time tables q kind ordered statements c (turns_now q) (omega (arith, same))),
      (λ named at stages telling work own. proceeds_told _),
      (λ named at stages telling work.
          read_quiet r time tables q named at stages telling (turns_now q)
          (turns_are q (reading named at stages telling) work ∙ ap turns_before (for_it q.wait (bytes_eq q.namespace namespace) here))),
      (λ work is. proceeds_told _),
      (λ not_made. just_proceeds q),
      (λ middle work. just_proceeds q),
    ))

-- the time that a read waited for is reached
pub reach_proceeds : (r : Router) (time : ℕ) (q : Open) (named : Bool) (at : ℕ) (stages : List Stage) (telling : Telling)
    → q.work ≡ reading named at stages telling
    → q.wait ≡ for_time → at ≤ time → Proceeds q.count (turns_now q) (begins_work r time q (reached time q.work))
reach_proceeds r time q named at stages telling work waits le =
    subst (λ (w : Work). Proceeds q.count (turns_now q) (begins_work r time q (reached time w))) (sym work)
    (by_time (nat_lt time (if named then at else time)) (reached_now named at time le))
  where
    two : turns_now q ≡ 2
    two = turns_are q (reading named at stages telling) work ∙ ap turns_before waits

    by_time : (b : Bool) → b ≡ false → Proceeds q.count (turns_now q)
        (if b then stays (with_work q for_time [] (reading named (if named then at else time) stages telling)) (asks_times r time (id_of r q.count) [])
        else read_on r time r.tables true q named (if named then at else time) stages telling)
    by_time true h = absurd (cc)
    by_time false h = read_less r time r.tables q named (if named then at else time) stages telling (turns_now q) true (omega (arith, two))

-- a refusal that is for no later table
pub refused_proceeds : (r : Router) (time : ℕ) (q : Open) (sender turn first : ℕ) (cause : Cause) (next : Next) → ((met : Version) → cause ≡ is_stale met → ⊥)
    → refused_next r time q sender turn first cause ≡ Some next → Proceeds q.count (turns_now q) next
refused_proceeds r time q sender turn first cause next never is =
    by_refused (Proceeds q.count (turns_now q)) r time q sender turn first cause next (record {
      stale_write = λ kind ordered statements c run met work same. absurd (never met same);
      lack_write = λ kind ordered statements c run node lack work same has free.
          gives_up_proceeds r time q kind ordered statements c (lack_refusal node lack) run.indices (turns_now q)
          (turns_are q (writing kind ordered statements c) work);
      stale_read = λ named at stages telling met work same. absurd (never met same);
      lack_task = λ node lack same task. proceeds_told _;
    }) is

pub no_table_proceeds : (r : Router) (time : ℕ) (namespace : List ℕ) (create : Bool) (at : At) (refusal : Refusal) (q : Open)
    → Proceeds q.count (turns_now q) (table_refused r time namespace create at refusal q)
no_table_proceeds r time namespace create at refusal q =
    by_no_table (Proceeds q.count (turns_now q)) r time namespace create at refusal q (just_proceeds q)
    (λ kind ordered statements c work waits.
    gives_up_proceeds r time q kind ordered statements c refusal (indices_of (unsent ordered statements c)) (turns_now q)
    (turns_are q (writing kind ordered statements c) work))
    (λ task. proceeds_told _)

-- ALL OF A ROUTER

-- fewer are open; or those have fewer turns; or nothing is sent
abbrev pub turns_all : List Open → ℕ
turns_all requests = total (λ (q : Open). turns_of q.work q.wait) requests

pub data Goes (old new : List Open) (mail : List Letter) : Type 0 where
  goes_fewer : length new < length old → Goes old new mail
  goes_less : length new ≤ length old → turns_all new < turns_all old → Goes old new mail
  goes_same : length new ≤ length old → turns_all new ≤ turns_all old → mail ≡ [] → Goes old new mail

-- one goes on, and the others
both_go : (q : Open) (next : Next) (old new : List Open) (mail : List Letter) → Proceeds q.count (turns_now q) next → Goes old new mail
    → Goes (q ∷ old) (stay_in next ++ new) (letters_in next ++ mail)
both_go q _ old new mail (proceeds_told reply) (goes_fewer few) = goes_fewer (omega (arith, few))
both_go q _ old new mail (proceeds_told reply) (goes_less few less) = goes_fewer (omega (arith, few))
both_go q _ old new mail (proceeds_told reply) (goes_same few le none) = goes_fewer (omega (arith, few))
both_go q _ old new mail (proceeds_less p letters own under) (goes_fewer few) = goes_fewer (omega (arith, few))
both_go q _ old new mail (proceeds_less p letters own under) (goes_less few less) = goes_less (omega (arith, few)) (omega (arith, under, less))
both_go q _ old new mail (proceeds_less p letters own under) (goes_same few le none) = goes_less (omega (arith, few)) (omega (arith, under, le))
both_go q _ old new mail (proceeds_same p own most) (goes_fewer few) = goes_fewer (omega (arith, few))
both_go q _ old new mail (proceeds_same p own most) (goes_less few less) = goes_less (omega (arith, few)) (omega (arith, most, less))
both_go q _ old new mail (proceeds_same p own most) (goes_same few le none) = goes_same (omega (arith, few)) (omega (arith, most, le)) none

pub each_goes : (next : Open → Next) → ((q : Open) → Proceeds q.count (turns_now q) (next q)) → (requests : List Open)
    → Goes requests (flat_map (λ q. stay_in (next q)) requests) (flat_map (λ q. letters_in (next q)) requests)
each_goes next one [] = goes_same (omega arith) (omega arith) refl
each_goes next one (q ∷ requests) =
    both_go q (next q) requests (flat_map (λ p. stay_in (next p)) requests) (flat_map (λ p. letters_in (next p)) requests) (one q) (each_goes next one requests)

-- where no other has its count
without_most : (count : ℕ) (requests : List Open) → length (without count requests) ≤ length requests
without_most count [] = omega arith
without_most count (q ∷ requests) = by_own (q.count == count) (without_most count requests)
  where
    by_own : (b : Bool) → length (without count requests) ≤ length requests
        → length (if b then without count requests else q ∷ without count requests) ≤ suc (length requests)
    by_own true le = omega (arith, le)
    by_own false le = omega (arith, le)

replaced_none : (p : Open) (requests : List Open) → AllByRecursion (λ (n : ℕ). n ≢ p.count) (counts_of requests) → replaced p requests ≡ requests
replaced_none p [] all = refl
replaced_none p (q ∷ requests) all = by_own (q.count == p.count) refl (replaced_none p requests all.1)
  where
    by_own : (b : Bool) → (q.count == p.count) ≡ b → replaced p requests ≡ requests
        → (if b then p ∷ replaced p requests else q ∷ replaced p requests) ≡ q ∷ requests
    by_own true h more = absurd (all.0 (eqb-true q.count p.count h))
    by_own false h more = ap (λ l. q ∷ l) more

replaced_first : (q p : Open) (requests : List Open) → p.count ≡ q.count → AllByRecursion (λ (n : ℕ). n ≢ q.count) (counts_of requests)
    → replaced p (q ∷ requests) ≡ p ∷ requests
replaced_first q p requests same others = by_own (q.count == p.count) refl
  where
    by_own : (b : Bool) → (q.count == p.count) ≡ b → (if b then p ∷ replaced p requests else q ∷ replaced p requests) ≡ p ∷ requests
    by_own true h = ap (λ l. p ∷ l) (replaced_none p requests (subst (λ m. AllByRecursion (λ (n : ℕ). n ≢ m) (counts_of requests)) (sym same) others))
    by_own false h = absurd (eqb-false q.count p.count h (sym same))

without_first : (q : Open) (requests : List Open) → length (without q.count (q ∷ requests)) < length (q ∷ requests)
without_first q requests = by_own (q.count == q.count) refl
  where
    by_own : (b : Bool) → (q.count == q.count) ≡ b → length (if b then without q.count requests else q ∷ without q.count requests) < suc (length requests)
    by_own true h = let few = without_most q.count requests in omega (arith, few)
    by_own false h = absurd (eqb-false q.count q.count h refl)

-- the first goes on, and no other has its count
first_goes : (q : Open) (next : Next) (requests : List Open) → Proceeds q.count (turns_now q) next
    → AllByRecursion (λ (n : ℕ). n ≢ q.count) (counts_of requests)
    → Goes (q ∷ requests) (after_next q next (q ∷ requests)) (letters_in next)
first_goes q _ requests (proceeds_told reply) others = goes_fewer (without_first q requests)
first_goes q _ requests (proceeds_less p letters same under) others =
    subst (λ (l : List Open). Goes (q ∷ requests) l letters) (sym (replaced_first q p requests same others)) (goes_less (omega arith) (omega (arith, under)))
first_goes q _ requests (proceeds_same p same most) others =
    subst (λ (l : List Open). Goes (q ∷ requests) l []) (sym (replaced_first q p requests same others)) (goes_same (omega arith) (omega (arith, most)) refl)

-- one before it stays
later_goes : (o q : Open) (next : Next) (requests : List Open) → o.count ≢ q.count → Proceeds q.count (turns_now q) next
    → Goes requests (after_next q next requests) (letters_in next) → Goes (o ∷ requests) (after_next q next (o ∷ requests)) (letters_in next)
later_goes o q next requests other proceeds goes =
    subst (λ (l : List Open). Goes (o ∷ requests) l (letters_in next)) (sym (stays_before next proceeds))
    (both_go o (stays o []) requests (after_next q next requests) (letters_in next) (just_proceeds o) goes)
  where
    by_replaced : (p : Open) → p.count ≡ q.count → (b : Bool) → (o.count == p.count) ≡ b
        → (if b then p ∷ replaced p requests else o ∷ replaced p requests) ≡ o ∷ replaced p requests
    by_replaced p same true h = absurd (other (eqb-true o.count p.count h ∙ same))
    by_replaced p same false h = refl

    by_without : (b : Bool) → (o.count == q.count) ≡ b → (if b then without q.count requests else o ∷ without q.count requests) ≡ o ∷ without q.count requests
    by_without true h = absurd (other (eqb-true o.count q.count h))
    by_without false h = refl

    stays_before : (n : Next) → Proceeds q.count (turns_now q) n → after_next q n (o ∷ requests) ≡ o ∷ after_next q n requests
    stays_before _ (proceeds_told reply) = by_without (o.count == q.count) refl
    stays_before _ (proceeds_less p letters same under) = by_replaced p same (o.count == p.count) refl
    stays_before _ (proceeds_same p same most) = by_replaced p same (o.count == p.count) refl

pub one_goes : (q : Open) (next : Next) (requests : List Open) → Proceeds q.count (turns_now q) next → AreDifferentCounts (counts_of requests)
    → IsIn q requests → Goes requests (after_next q next requests) (letters_in next)
one_goes q next [] proceeds different there = absurd (in_none q there)
one_goes q next (o ∷ requests) proceeds different there = by_place (in_cons q o requests there) (λ i. one_goes q next requests proceeds different.1 i)
  where
    by_place : (q ≡ o) ⊎ IsIn q requests → (IsIn q requests → Goes requests (after_next q next requests) (letters_in next))
        → Goes (o ∷ requests) (after_next q next (o ∷ requests)) (letters_in next)
    by_place (inl same) later =
        subst (λ (x : Open). Goes (x ∷ requests) (after_next q next (x ∷ requests)) (letters_in next)) same
        (first_goes q next requests proceeds (subst (λ (x : Open). AllByRecursion (λ (n : ℕ). n ≢ x.count) (counts_of requests)) (sym same) different.0))
    by_place (inr i) later =
        later_goes o q next requests
        (λ e. all_at (λ (n : ℕ). n ≢ o.count) q.count (counts_of requests) different.0 (in_mapped (λ (x : Open). x.count) q requests i) (sym e))
        proceeds (later i)
