-- What an open request waits for, by what is next of it.
use Rattle.std.proofs.Common.{◌≡◌, ◌≢◌, ◌⊎◌, inl, inr, ℕ, List, [], ◌∷◌, ◌++◌, refl, sym, ap, subst, ◌∙◌, Bool}
use Rattle.std.specs.Prelude.{Option, Some, None, true, false, nat_lt}
use Rattle.std.specs.List.{AllByRecursion}
use Rattle.history_model.specs.History.{IsIn}
use Rattle.history_model.proofs.Lists.{all_weaken}
use Rattle.chunk_model.specs.Tables.{Table, first_shard, table_of}
use Rattle.command_model.specs.Writes.{WriteKind}
use Rattle.pipeline_model.specs.Stages.{Stage}
use Rattle.pipeline_model.specs.Split.{split}
use Rattle.reply_model.specs.Outcomes.{StatementOutcome, Done, Try}
use Rattle.node_model.specs.Letters.{Statement, Letter, Input}
use Rattle.node_model.specs.States.{Target, Run, Course, Telling, Wait, for_time, for_catalogue, for_shards, Router, Work, writing, reading, sharding, splitting, Open}
use Rattle.node_model.specs.RouterRequests.{id_of, shards_of, untold, turn_after, indices_of, unanswered, unsent, runs_by, with_runs, asks_to_write, targets_at, asks_to_read, asks_catalogue, table_to_read, asks_times}
use Rattle.node_model.specs.RouterNext.{awaited, noted, is_answered, left_of, served_in_part, settled, with_work, Next, stays, is_told, write_on, read_on, begins_work, stay_in, letters_in}
use Rattle.node_laws.proofs.NextCases.{with_catalogue, by_write, by_read, by_begins}
use Rattle.node_laws.proofs.Outcomes.{noted_long, noted_more}
use Rattle.node_progress.specs.UnderWay.{Thing, things_by, things_of}
use Rattle.node_progress.proofs.Things.{InSameLife, same_things}
use Rattle.node_progress.proofs.Lateness.{IsGoing, WaitFits, IsFresh}
use Rattle.node_progress.proofs.Versions.{IsFirst}
use Rattle.node_progress.proofs.OneRun.{AreStated, HasNext, AreUntried, going_of, unsent_course, run_course, all_unsent, run_left, gives_one, none_unsent, gives_none, rest_run, one_rest, served_one}
use Rattle.node_progress.proofs.CataloguePasses.{IsAmong}
use Rattle.node_progress.proofs.Sends.{AreSent, table_of_read, run_sends, read_sends, catalogue_sends, times_sent}
use Rattle.node_progress.proofs.Plans.{Starts}
use Rattle.node_progress.proofs.RouterWaits.{StillWaits, WaitsAfter}

-- WHAT IS NEXT

-- what becomes of a request, by what is next of it
abbrev pub NextWaits : (r u : Router) → Input → Next → Type 0
NextWaits r u i (stays p letters) = StillWaits r u i p
    ⊎ (IsGoing p.work × WaitFits p.work p.wait × AreSent letters (things_of u p) × (p.tries ≡ []) × IsFresh p.work)
NextWaits r u i (is_told reply) = Unit {0}

all_among : (letters mail : List Letter) (things : List Thing) → ((x : Letter) → IsIn x letters → IsIn x mail) → AreSent letters things → AreSent mail things
all_among letters mail things among sent = record {
  some = sent.some;
  each = all_weaken (IsAmong letters) (IsAmong mail) things (λ t a. record { letter = a.letter; sent = among a.letter a.sent; brings = a.brings }) sent.each;
}

pub next_after : (r u : Router) (i : Input) (mail : List Letter) (next : Next) → ((x : Letter) → IsIn x (letters_in next) → IsIn x mail) → NextWaits r u i next
    → AllByRecursion (WaitsAfter r u i mail) (stay_in next)
next_after r u i mail (stays p letters) among (inl still) = (inl still, tt)
next_after r u i mail (stays p letters) among (inr anew) = (
  inr (record { going = anew.0; fits = anew.1; sent = all_among letters mail (things_of u p) among anew.2; untried = anew.3; fresh = anew.4 }),
  tt,
)
next_after r u i mail (is_told reply) among next = tt

module _ (r u : Router) (i : Input) (time : ℕ) (tables : List Table) (q : Open) (alive : InSameLife r u) (untried : q.tries ≡ [])
    (firsts : (t : Table) → table_of q.namespace tables ≡ Some t → IsFirst t) where
  abbrev Waits : Next → Type 0
  Waits next = NextWaits r u i next

  anew : (wait : Wait) (targets : List Target) (work : Work) (letters : List Letter) → IsGoing work → WaitFits work wait → IsFresh work
      → AreSent letters (things_by (id_of r q.count) r.me (untold q.told (shards_of r)) (awaited targets []) q.namespace work wait)
      → Waits (stays (with_work q wait targets work) letters)
  anew wait targets work letters going fits fresh sent =
      inr (going, fits, subst (λ l. AreSent letters l) (sym (same_things r u (with_work q wait targets work) alive)) sent, untried, fresh)

  -- WRITES

  module _ (kind : WriteKind) (ordered : Bool) (statements : List Statement) where
    abbrev of_course : Course → Work
    of_course c = writing kind ordered statements c

    abbrev asks_of : Course → List Run → List Letter
    asks_of c runs = asks_to_write r time (id_of r q.count) q.namespace ordered statements c runs

    -- a table sends all
    module _ (tries : List (List Try)) (fresh : AreUntried tries) where
      abbrev start_of : List (Option StatementOutcome) → Course
      start_of answers = unsent_course tries answers

      abbrev runs_of : (o : Option Table) → List (Option StatementOutcome) → List Run
      runs_of o answers = runs_by ordered o statements (start_of answers)

      sent_first : (answers : List (Option StatementOutcome)) → HasNext statements answers → (o : Option Table) → ((t : Table) → o ≡ Some t → IsFirst t)
          → unsent ordered statements (with_runs (start_of answers) (runs_of o answers)) ≡ []
          → Waits (stays (with_work q for_shards [] (of_course (with_runs (start_of answers) (runs_of o answers))))
          (asks_of (with_runs (start_of answers) (runs_of o answers)) (runs_of o answers)))
      sent_first answers n None known none =
          let e : n.first ∷ n.more ≡ [] = sym (all_unsent ordered statements tries answers ∙ n.left) ∙ none in
          absurd (cc e)
      sent_first answers n (Some t) known none =
          let run : Run = run_left t statements answers in
          let c : Course = run_course tries answers run in
          subst (λ l. Waits (stays (with_work q for_shards [] (of_course (with_runs (start_of answers) l))) (asks_of (with_runs (start_of answers) l) l)))
          (sym (gives_one t (known t refl) ordered statements tries fresh answers n))
          (anew for_shards [] (of_course c) (asks_of c (run ∷ [])) n (record { run = run; alone = refl; there = refl; all = refl }) fresh
          (run_sends r time q.count q.namespace ordered statements c answers run n refl refl))

      -- or there is no table
      waits_first : (asks : Bool) (answers : List (Option StatementOutcome)) → HasNext statements answers → (o : Option Table)
          → ((t : Table) → o ≡ Some t → IsFirst t)
          → (asks ≡ false → o ≡ None → StillWaits r u i (with_work q for_catalogue [] (of_course (start_of answers))))
          → (s : Statement) (left : List Statement)
          → unsent ordered statements (with_runs (start_of answers) (runs_of o answers)) ≡ s ∷ left
          → Waits (stays (with_work q for_catalogue [] (of_course (with_runs (start_of answers) (runs_of o answers))))
          (with_catalogue asks (asks_catalogue r time q.count q.namespace (of_course (with_runs (start_of answers) (runs_of o answers))))
          (asks_of (with_runs (start_of answers) (runs_of o answers)) (runs_of o answers))))
      waits_first true answers n None known stay s left some =
          anew for_catalogue [] (of_course (start_of answers))
          (asks_catalogue r time q.count q.namespace (of_course (start_of answers)) ∷ []) n refl fresh
          (catalogue_sends r time q.count q.namespace (of_course (start_of answers)))
      waits_first false answers n None known stay s left some = inl (stay refl refl)
      waits_first asks answers n (Some t) known stay s left some =
          let e : s ∷ left ≡ [] = sym some ∙ (ap (λ l. unsent ordered statements (with_runs (start_of answers) l))
          (gives_one t (known t refl) ordered statements tries fresh answers n)
          ∙ none_unsent ordered statements tries answers (run_left t statements answers) refl) in
          absurd (cc e)

      pub first_waits : (asks : Bool) (answers : List (Option StatementOutcome)) → (is_answered ordered answers ≡ false → HasNext statements answers)
          → (asks ≡ false → table_of q.namespace tables ≡ None → StillWaits r u i (with_work q for_catalogue [] (of_course (start_of answers))))
          → Waits (write_on r time tables asks [] q kind ordered statements (start_of answers))
      first_waits asks answers goes stay =
          by_write Waits r time tables q asks [] kind ordered statements (start_of answers) (λ told. tt)
          (λ h none. sent_first answers (goes h) (table_of q.namespace tables) firsts none)
          (λ h s left some. waits_first asks answers (goes h) (table_of q.namespace tables) firsts stay s left some)

      -- the rest of the one run is sent again
      rest_waits : (asks : Bool) (again : List Run) (answers : List (Option StatementOutcome)) (run : Run) → HasNext statements answers
          → run.shard ≡ first_shard → run.indices ≡ indices_of (unanswered statements answers) → left_of answers again ≡ run ∷ []
          → Waits (write_on r time tables asks again q kind ordered statements (run_course tries answers run))
      rest_waits asks again answers run n shard all left =
          by_write Waits r time tables q asks again kind ordered statements c (λ told. tt)
          (λ h none. subst (λ more. Waits (stays (with_work q for_shards [] (of_course (with_runs c more)))
          (asks_of (with_runs c more) (left_of answers again ++ more)))) (sym nothing)
          (subst (λ l. Waits (stays (with_work q for_shards [] (of_course c)) (asks_of c (l ++ [])))) (sym left)
          (anew for_shards [] (of_course c) (asks_of c (run ∷ [])) n (record { run = run; alone = refl; there = shard; all = all }) fresh
          (run_sends r time q.count q.namespace ordered statements c answers run n shard all))))
          (λ h s more some. absurd (
          let e : s ∷ more ≡ [] = sym some ∙ (ap (λ l. unsent ordered statements (with_runs c l)) nothing
          ∙ none_unsent ordered statements tries answers run all) in
          cc e))
        where
          c : Course
          c = run_course tries answers run

          nothing : runs_by ordered (table_of q.namespace tables) statements (run_course tries answers run) ≡ []
          nothing = gives_none ordered (table_of q.namespace tables) statements tries answers run all

    -- after outcomes that are new
    pub note_waits : (asks : Bool) (c : Course) (dones : List Done) → (wait : Wait) → AreStated statements c.answers → WaitFits (of_course c) wait → AreUntried c.tries
        → noted ordered c.answers dones ≢ c.answers
        → (HasNext statements (noted ordered c.answers dones) → wait ≡ for_catalogue
        → StillWaits r u i (with_work q for_catalogue [] (of_course (unsent_course c.tries (noted ordered c.answers dones)))))
        → Waits (write_on r time tables asks (served_in_part (noted ordered c.answers dones) c.runs) q kind ordered statements
        (settled c (noted ordered c.answers dones)))
    note_waits asks c dones wait stated fits fresh news stay = by_answered (is_answered ordered new) refl
      where
        new : List (Option StatementOutcome)
        new = noted ordered c.answers dones

        stated_new : AreStated statements new
        stated_new = record {
          given = stated.given;
          id = stated.id;
          operations = stated.operations;
          are = stated.are;
          keys = stated.keys;
          long = noted_long ordered c.answers dones ∙ stated.long;
        }

        by_wait : (w : Wait) → wait ≡ w → WaitFits (of_course c) w → is_answered ordered new ≡ false
            → Waits (write_on r time tables asks (served_in_part new c.runs) q kind ordered statements (settled c new))
        by_wait for_time is fit h = absurd fit
        by_wait for_catalogue is fit h =
            subst (λ l. Waits (write_on r time tables asks (served_in_part new l) q kind ordered statements (record { answers = new; tries = c.tries; runs = left_of new l })))
            (sym fit)
            (first_waits c.tries fresh asks new (λ e. going_of ordered statements new stated_new e) (λ a none. stay (going_of ordered statements new stated_new h) is))
        by_wait for_shards is fit h =
            let n : HasNext statements new = going_of ordered statements new stated_new h in
            let served : served_in_part new (fit.run ∷ []) ≡ fit.run ∷ [] = served_one ordered statements c.answers dones fit.run stated fit.all news in
            let left : left_of new (fit.run ∷ []) ≡ rest_run fit.run statements new ∷ [] =
            one_rest statements c.answers new fit.run (noted_more ordered c.answers dones) n fit.all in
            subst (λ l. Waits (write_on r time tables asks (served_in_part new l) q kind ordered statements (record { answers = new; tries = c.tries; runs = left_of new l })))
            (sym fit.alone)
            (subst (λ l. Waits (write_on r time tables asks l q kind ordered statements (record { answers = new; tries = c.tries; runs = left_of new (fit.run ∷ []) })))
            (sym served)
            (subst (λ l. Waits (write_on r time tables asks (fit.run ∷ []) q kind ordered statements (record { answers = new; tries = c.tries; runs = l }))) (sym left)
            (rest_waits c.tries fresh asks (fit.run ∷ []) new (rest_run fit.run statements new) n fit.there refl left)))

        by_answered : (b : Bool) → is_answered ordered new ≡ b
            → Waits (write_on r time tables asks (served_in_part new c.runs) q kind ordered statements (settled c new))
        by_answered true h =
            by_write Waits r time tables q asks (served_in_part new c.runs) kind ordered statements (settled c new) (λ told. tt)
            (λ e none. absurd (cc (h, e))) (λ e s left some. absurd (cc (h, e)))
        by_answered false h = by_wait wait refl fits h

  -- READS

  module _ (named : Bool) (at : ℕ) (stages : List Stage) (telling : Telling) where
    waits_read : (asks : Bool)
        → (asks ≡ false → StillWaits r u i (with_work q for_catalogue [] (reading named at stages telling)))
        → Waits (stays (with_work q for_catalogue [] (reading named at stages telling))
        (with_catalogue asks (asks_catalogue r time q.count q.namespace (reading named at stages telling)) []))
    waits_read true stay =
        anew for_catalogue [] (reading named at stages telling)
        (asks_catalogue r time q.count q.namespace (reading named at stages telling) ∷ []) tt tt tt
        (catalogue_sends r time q.count q.namespace (reading named at stages telling))
    waits_read false stay = inl (stay refl)

    pub read_waits : (asks : Bool)
        → (asks ≡ false → table_to_read (table_of q.namespace tables) at q.tries ≡ None
        → StillWaits r u i (with_work q for_catalogue [] (reading named at stages telling)))
        → Waits (read_on r time tables asks q named at stages telling)
    read_waits asks stay =
        by_read Waits r time tables q asks named at stages telling (λ none. waits_read asks (λ a. stay a none))
        (λ t got. let found = table_of_read (table_of q.namespace tables) at q.tries t got in
        anew for_shards (targets_at t at stages) (reading named at stages telling)
        (asks_to_read r time (id_of r q.count) q.namespace (turn_after q.tries) at (split stages).0 (targets_at t at stages)) tt tt tt
        (read_sends r time q.count q.namespace t (firsts t found.0) q.tries untried at stages found.1))

-- WORK THAT BEGINS

pub begins_waits : (r u : Router) (i : Input) (time : ℕ) (q : Open) (work : Work) → InSameLife r u → q.tries ≡ []
    → ((t : Table) → table_of q.namespace r.tables ≡ Some t → IsFirst t) → r.shards ≢ 0 → Starts work
    → ((named : Bool) (at : ℕ) (stages : List Stage) (telling : Telling) → work ≡ reading named at stages telling → nat_lt time at ≡ true → q.told ≡ [])
    → NextWaits r u i (begins_work r time q work)
begins_waits r u i time q work alive untried firsts some starts fresh =
    by_begins (NextWaits r u i) r time q work
    (λ kind ordered statements c is.
    let s : Starts (writing kind ordered statements c) = subst (λ w. Starts w) is starts in
    subst (λ runs. NextWaits r u i (write_on r time r.tables true [] q kind ordered statements (record { answers = c.answers; tries = c.tries; runs = runs }))) (sym s.1.0)
    (first_waits r u i time r.tables q alive untried firsts kind ordered statements c.tries s.1.1 true c.answers (λ h. s.0) (λ a none. absurd (cc a))))
    (λ named at stages telling is ahead.
    anew r u i time r.tables q alive untried firsts for_time [] (reading named at stages telling) (asks_times r time (id_of r q.count) []) tt tt tt
    (times_sent r time q.count q.namespace q.told some (fresh named at stages telling is ahead)))
    (λ named at stages telling is reached.
    read_waits r u i time r.tables q alive untried firsts named at stages telling true (λ a none. absurd (cc a)))
    (λ is. anew r u i time r.tables q alive untried firsts for_catalogue [] sharding (asks_catalogue r time q.count q.namespace sharding ∷ []) tt tt tt
    (catalogue_sends r time q.count q.namespace sharding))
    (λ middle is. anew r u i time r.tables q alive untried firsts for_catalogue [] (splitting middle)
    (asks_catalogue r time q.count q.namespace (splitting middle) ∷ []) tt tt tt (catalogue_sends r time q.count q.namespace (splitting middle)))
