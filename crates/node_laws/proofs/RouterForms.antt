-- The forms of the steps in which a router takes no request.
use Rattle.std.proofs.Common.{◌≡◌, ◌≢◌, ℕ, ◌+◌, ◌<◌, ◌≤◌, List, [], ◌∷◌, ◌++◌, refl, sym, ap, subst, ◌∙◌, arith, append-nil, Bool}
use Rattle.std.specs.Prelude.{None, true, false, nat_lt, ◌==◌, if◌then◌else◌}
use Rattle.std.specs.List.{AllByRecursion}
use Rattle.std.proofs.lemmas.Bool.{ltb-true}
use Rattle.std.proofs.lemmas.Bool.Decides.{Decides-eqb}
use Rattle.history_model.proofs.Lists.{all_weaken, all_both, all_at}
use Rattle.command_model.specs.Answers.{Answer}
use Rattle.reply_model.specs.Cursors.{Cursor}
use Rattle.chunk_model.specs.Tables.{Table}
use Rattle.history_model.specs.History.{IsIn}
use Rattle.reply_model.specs.Exchanges.{Asked, Answered}
use Rattle.reply_model.specs.OneHistory.{ids_asked}
use Rattle.node_model.specs.Journal.{Kept}
use Rattle.node_model.specs.Letters.{Reply}
use Rattle.node_model.specs.States.{Open, Router, router_state, replaced, without}
use Rattle.node_model.specs.RouterRequests.{id_of}
use Rattle.node_model.specs.RouterNext.{reply_to, Next, stays, is_told, stay_in, letters_in, replies_in, after_next}
use Rattle.node_model.specs.RouterRows.{Opened, as_before}
use Rattle.node_model.specs.World.{World, answered_by, journal_at}
use Rattle.node_laws.proofs.Views.{Choice, Book, View, view_of, chosen_time, Later}
use Rattle.node_laws.proofs.SeenStatements.{true_false}
use Rattle.node_laws.proofs.NextRequests.{NextIs, left_by, sent_by, told_by, each_next, parted_next}
use Rattle.node_laws.proofs.NextKeeps.{Continues, keeps_count}
use Rattle.node_laws.proofs.Raises.{TellsReach, told_reach, none_counted, each_tells_reach, Raises, after_reached, each_reached, all_apart, after_noted}
use Rattle.node_laws.proofs.NextFacts.{IsToldRightly}
use Rattle.node_laws.proofs.Facts.{IsReached, IsNoted, IsKnownTable, IsOpenOf, ToldBelow, RouterFits, NodeFits, IsMet, AnswerFits, AnswersFit, no_answer, one_answer, NeighboursFit, Good}
use Rattle.node_laws.proofs.Owes.{IsSaid, Owes}
use Rattle.node_laws.proofs.Growth.{known_grows, met_later}
use Rattle.node_laws.proofs.OpenRequests.{all_without, all_replaced, parted_same, parted_replaced, parted_without}
use Rattle.node_laws.proofs.Neighbours.{neighbours}
use Rattle.node_laws.proofs.RouterAnswers.{as_answered}
use Rattle.node_laws.proofs.OpenFacts.{with_own, open_rises, open_stays}
use Rattle.node_laws.proofs.Choices.{none_longer}
use Rattle.node_laws.proofs.Turns.{Turns, turns_same}
use Rattle.node_laws.proofs.RouterLater.{IsKept, goes_to, tells, IsTimeless, Leaves, goes_owes}

-- a read whose time is reached
pub not_ahead : (time at : ℕ) → at ≤ time → nat_lt time at ≡ false
not_ahead time at reached = by_test (nat_lt time at) refl
  where
    by_test : (t : Bool) → nat_lt time at ≡ t → nat_lt time at ≡ false
    by_test true h = let less : time < at = ltb-true time at h in absurd (omega arith)
    by_test false h = h

module _ (w : World) (book : Book) (at : ℕ) (kept : List Kept) (r : Router) (good : Good w book)
    (h : NodeFits (view_of w.nodes book) w.asked w.answered w.given at (record { state = router_state r; kept = kept }))
    (reach : AllByRecursion (IsReached book.reached r) r.requests) where
  pub fits : RouterFits (view_of w.nodes book) w.asked w.answered at r
  fits = h.state

  -- a view after the step: the other journals stay
  abbrev pub IsBehind : View → Type 0
  IsBehind v = Later (view_of w.nodes book) v × ((p : ℕ) → p ≢ at → v.journal p ≡ journal_at w.nodes p)

  pub around : (v : View) → IsBehind v → NeighboursFit v w.asked
  around v behind = neighbours w book at v good fits.place behind.0 behind.1

  -- where no time is decided, open requests stay so
  pub each_open : (v : View) → IsBehind v → v.chosen ≡ book.chosen ++ [] → AllByRecursion (IsOpenOf v w.asked w.answered r) r.requests
  each_open v behind same =
      all_weaken (IsOpenOf (view_of w.nodes book) w.asked w.answered r) (IsOpenOf v w.asked w.answered r) r.requests
      (λ q o. open_stays (view_of w.nodes book) v w.asked w.answered r q behind.0
      (λ e. ap (λ l. chosen_time (id_of r q.count) l) (same ∙ append-nil book.chosen) ∙ e) o) fits.requests

  -- and where one is decided for another
  pub others_open : (v : View) → IsBehind v → (news : List Choice) → v.chosen ≡ book.chosen ++ news → (s : Router) → r.time ≤ s.time → (count : ℕ)
      → ((n : ℕ) → n ≢ count → chosen_time (id_of r n) news ≡ None)
      → AllByRecursion (λ (q : Open). q.count ≢ count → IsOpenOf v w.asked w.answered (with_own r s) q) r.requests
  others_open v behind news same s later count none =
      all_weaken (IsOpenOf (view_of w.nodes book) w.asked w.answered r)
      (λ (q : Open). q.count ≢ count → IsOpenOf v w.asked w.answered (with_own r s) q) r.requests
      (λ q o other. open_rises v w.asked w.answered r s q later
      (open_stays (view_of w.nodes book) v w.asked w.answered r q behind.0
      (λ e. ap (λ l. chosen_time (id_of r q.count) l) same ∙ none_longer (id_of r q.count) book.chosen news e (none q.count other)) o)) fits.requests

  pub risen_open : (v : View) → IsBehind v → v.chosen ≡ book.chosen ++ [] → (s : Router) → r.time ≤ s.time
      → AllByRecursion (IsOpenOf v w.asked w.answered (with_own r s)) r.requests
  risen_open v behind same s later =
      all_weaken (IsOpenOf v w.asked w.answered r) (IsOpenOf v w.asked w.answered (with_own r s)) r.requests
      (λ q o. open_rises v w.asked w.answered r s q later o) (each_open v behind same)

  pub known_tables : (v : View) → IsBehind v → (time : ℕ) → r.time ≤ time → AllByRecursion (IsKnownTable v time) r.tables
  known_tables v behind time later =
      all_weaken (IsKnownTable (view_of w.nodes book) r.time) (IsKnownTable v time) r.tables
      (λ t k. known_grows (view_of w.nodes book) v r.time time t behind.0 later k) fits.tables

  pub came_by : (a : Asked) → IsIn a w.asked → a.came < w.now + 1
  came_by a i = all_at (λ (b : Asked). b.came < w.now + 1) a w.asked good.came i

  -- the cursors stay where no reply is about them
  pub turns_stay : (time moment : ℕ) (tables : List Table) (requests : List Open) → r.time ≤ time
      → Turns book.cursors book.cursors at (goes_to r time moment tables requests (as_before r))
  turns_stay time moment tables requests later =
      turns_same book.cursors at r (goes_to r time moment tables requests (as_before r)) h.cursors refl (λ e. e) refl refl refl later

  abbrev pub quiet : (time moment : ℕ) (tables : List Table) (requests : List Open) → r.time ≤ time
      → AllByRecursion (IsReached book.reached r) requests → Leaves w book at r (goes_to r time moment tables requests (as_before r)) (as_before r)
  quiet time moment tables requests later raised = record
      { news = []; chose = tt; cursors = book.cursors; turns = turns_stay time moment tables requests later; raised = raised; timeless = tt }

  pub no_answers : (v : View) → v.cursors ≡ book.cursors → AnswersFit v w.asked (w.answered ++ []) book.cursors [] v.cursors
  no_answers v same = subst (λ l. AnswersFit v w.asked (w.answered ++ []) book.cursors [] l) (sym same) (no_answer book.cursors)

  -- FORMS OF STEPS

  -- nothing is replied
  pub stays_owes : (time : ℕ) → r.time ≤ time → IsMet (view_of w.nodes book) w.given time
      → Owes w book at (record { state = router_state r; kept = kept }) (tells (as_before r) [] [])
      (router_state (goes_to r time r.moment r.tables r.requests (as_before r)))
  stays_owes time later met =
      goes_owes w book at r fits good kept time r.moment r.tables r.requests (as_before r) [] [] later h.within met (parted_same r r.requests fits.different)
      (quiet time r.moment r.tables r.requests later reach)
      (λ v grows others chosen cursors given noted reached. record {
        tables = known_tables v (grows, others) time later;
        requests = risen_open v (grows, others) chosen (goes_to r time r.moment r.tables r.requests (as_before r)) later;
        letters = tt;
        answers = no_answers v cursors;
        below = tt;
        times = tt;
      })

  -- answers that leave the cursors
  all_same : (v : View) (asked : List Asked) (said : List Answered) (cursors : List Cursor) (now : ℕ) (replies : List Reply)
      → AllByRecursion (λ x. AnswerFits v asked said cursors (as_answered now x) cursors) replies
      → AnswersFit v asked said cursors (answered_by now replies) cursors
  all_same v asked said cursors now [] all = no_answer cursors
  all_same v asked said cursors now (x ∷ replies) all =
      one_answer cursors cursors cursors (as_answered now x) (answered_by now replies) all.0 (all_same v asked said cursors now replies all.1)

  -- something becomes of each open request
  pub each_owes : (next : Open → Next) (time moment : ℕ) (tables : List Table) → r.time ≤ time → IsMet (view_of w.nodes book) w.given time
      → ((q : Open) → Continues r time q (next q)) → ((q : Open) → Raises q (next q))
      → ((v : View) → IsBehind v → AllByRecursion (IsKnownTable v time) tables)
      → ((v : View) → IsBehind v → IsKept v w → NeighboursFit v w.asked → (known : AllByRecursion (IsKnownTable v time) tables)
      → IsMet v w.given time → (q : Open) → (o : IsOpenOf v w.asked w.answered r q) → AllByRecursion (IsNoted v.reached r) (stay_in (next q))
      → TellsReach v.reached r q (next q)
      → NextIs (IsOpenOf v w.asked w.answered (goes_to r time moment tables (left_by next r.requests) (as_before r))) (IsSaid v w.asked w.given)
      (IsToldRightly v w.asked (w.answered ++ answered_by w.now (told_by next r.requests)) book.cursors time w.now) (next q))
      → Owes w book at (record { state = router_state r; kept = kept }) (tells (as_before r) (sent_by next r.requests) (told_by next r.requests))
      (router_state (goes_to r time moment tables (left_by next r.requests) (as_before r)))
  each_owes next time moment tables later met keeps rises known becomes =
      goes_owes w book at r fits good kept time moment tables (left_by next r.requests) (as_before r) (sent_by next r.requests) (told_by next r.requests) later
      h.within met (parted_next r w.now next (λ q. keeps_count r time q (next q) (keeps q)) r.requests fits.different)
      (quiet time moment tables (left_by next r.requests) later (each_reached book.reached r time next r.requests keeps rises reach))
      (λ v grows others chosen cursors given noted reached.
      let all = each_next (IsOpenOf v w.asked w.answered (After)) (IsSaid v w.asked w.given) (IsToldRightly v w.asked said book.cursors time w.now) next r.requests
      (all_both (IsOpenOf v w.asked w.answered r) (λ q. AllByRecursion (IsNoted v.reached r) (stay_in (next q)) × TellsReach v.reached r q (next q))
      (λ q. NextIs (IsOpenOf v w.asked w.answered After) (IsSaid v w.asked w.given) (IsToldRightly v w.asked said book.cursors time w.now) (next q)) r.requests
      (λ q o n. becomes v (grows, others) given (around v (grows, others)) (known v (grows, others)) (met_later (view_of w.nodes book) v w.given time grows met) q o n.0 n.1)
      (each_open v (grows, others) chosen)
      (all_both (λ q. AllByRecursion (IsNoted v.reached r) (stay_in (next q))) (λ q. TellsReach v.reached r q (next q))
      (λ q. AllByRecursion (IsNoted v.reached r) (stay_in (next q)) × TellsReach v.reached r q (next q)) r.requests (λ q a b. (a, b))
      (all_apart (IsNoted v.reached r) next r.requests noted)
      (each_tells_reach book.reached v.reached r time next r.requests keeps reached fits.different reach))) in
      record {
        tables = known v (grows, others);
        requests = all.stay;
        letters = all.ask;
        answers = subst (λ l. AnswersFit v w.asked said book.cursors (answered_by w.now (told_by next r.requests)) l) (sym cursors)
            (all_same v w.asked said book.cursors w.now (told_by next r.requests)
            (all_weaken (IsToldRightly v w.asked said book.cursors time w.now) (λ x. AnswerFits v w.asked said book.cursors (as_answered w.now x) book.cursors)
            (told_by next r.requests) (λ x t. t.0) all.tell));
        below = all_weaken (IsToldRightly v w.asked said book.cursors time w.now) (λ x. ToldBelow time (as_answered w.now x)) (told_by next r.requests)
            (λ x t. t.1) all.tell;
        times = all_weaken (IsToldRightly v w.asked said book.cursors time w.now) (λ (x : Reply). x.time ≡ time) (told_by next r.requests) (λ x t. t.2) all.tell;
      })
    where
      said : List Answered
      said = w.answered ++ answered_by w.now (told_by next r.requests)

      After : Router
      After = goes_to r time moment tables (left_by next r.requests) (as_before r)

  -- what becomes of an open request, of a time that is decided
  pub next_owes : (q : Open) (next : Next) (time : ℕ) (news : List Choice) → IsIn q r.requests → Continues r time q next → Raises q next
      → r.time ≤ time → IsMet (view_of w.nodes book) w.given time
      → AllByRecursion (λ (c : Choice). (c.id.router ≡ at) × IsIn c.id (ids_asked w.asked)) news
      → ((n : ℕ) → n ≢ q.count → chosen_time (id_of r n) news ≡ None)
      → ((said : List Answered) (v : View) → IsBehind v → v.chosen ≡ book.chosen ++ news → IsKept v w → NeighboursFit v w.asked
      → AllByRecursion (IsKnownTable v time) r.tables → IsMet v w.given time → AllByRecursion (IsNoted v.reached r) (stay_in next) → TellsReach v.reached r q next
      → NextIs (IsOpenOf v w.asked w.answered (goes_to r time r.moment r.tables (after_next q next r.requests) (as_before r))) (IsSaid v w.asked w.given)
      (IsToldRightly v w.asked said book.cursors time w.now) next)
      → Owes w book at (record { state = router_state r; kept = kept }) (tells (as_before r) (letters_in next) (replies_in next))
      (router_state (goes_to r time r.moment r.tables (after_next q next r.requests) (as_before r)))
  next_owes q (stays p letters) time news stands same rises later met chose none becomes =
      goes_owes w book at r fits good kept time r.moment r.tables (replaced p r.requests) (as_before r) letters [] later h.within
      met (parted_replaced r p r.requests fits.different)
      (record {
        news = news;
        chose = chose;
        cursors = book.cursors;
        turns = turns_stay time r.moment r.tables (replaced p r.requests) later;
        raised = after_reached book.reached r time q (stays p letters) stands same rises reach;
        timeless = tt;
      })
      (λ v grows others chosen cursors given noted reached.
      let known = known_tables v (grows, others) time later in
      let g = becomes (w.answered ++ []) v (grows, others) chosen given (around v (grows, others)) known
      (met_later (view_of w.nodes book) v w.given time grows met) (after_noted (IsNoted v.reached r) r time q (stays p letters) stands same noted) tt in
      record {
        tables = known;
        requests = all_replaced (IsOpenOf v w.asked w.answered (goes_to r time r.moment r.tables (replaced p r.requests) (as_before r))) p r.requests g.0
            (others_open v (grows, others) news chosen (goes_to r time r.moment r.tables (replaced p r.requests) (as_before r)) later
            p.count (λ n other. none n (λ e. other (e ∙ sym same.count))));
        letters = g.1;
        answers = no_answers v cursors;
        below = tt;
        times = tt;
      })
  next_owes q (is_told reply) time news stands same rises later met chose none becomes =
      goes_owes w book at r fits good kept time r.moment r.tables (without q.count r.requests) (as_before r) [] (reply ∷ []) later h.within
      met (parted_without r q (as_answered w.now reply) r.requests fits.different stands same.id)
      (record {
        news = news;
        chose = chose;
        cursors = book.cursors;
        turns = turns_stay time r.moment r.tables (without q.count r.requests) later;
        raised = all_without (IsReached book.reached r) q.count r.requests reach;
        timeless = tt;
      })
      (λ v grows others chosen cursors given noted reached.
      let known = known_tables v (grows, others) time later in
      let g = becomes (w.answered ++ as_answered w.now reply ∷ []) v (grows, others) chosen given (around v (grows, others)) known
      (met_later (view_of w.nodes book) v w.given time grows met) tt
      (told_reach book.reached v.reached r q (without q.count r.requests) reached (all_at (IsReached book.reached r) q r.requests reach stands)
      (none_counted q.count r.requests)) in
      record {
        tables = known;
        requests = all_left (IsOpenOf v w.asked w.answered (goes_to r time r.moment r.tables (without q.count r.requests) (as_before r))) q.count r.requests
            (others_open v (grows, others) news chosen (goes_to r time r.moment r.tables (without q.count r.requests) (as_before r)) later q.count none);
        letters = tt;
        answers = subst (λ l. AnswersFit v w.asked (w.answered ++ as_answered w.now reply ∷ []) book.cursors (as_answered w.now reply ∷ []) l)
            (sym cursors) (one_answer book.cursors book.cursors book.cursors (as_answered w.now reply) [] g.0 (no_answer book.cursors));
        below = (g.1, tt);
        times = (g.2, tt);
      })
    where
      -- the others stay
      all_left : (P : Open → Type 0) (count : ℕ) (requests : List Open) → AllByRecursion (λ (p : Open). p.count ≢ count → P p) requests
          → AllByRecursion P (without count requests)
      all_left P count [] all = tt
      all_left P count (p ∷ requests) all = by_test (p.count == count) refl (all_left P count requests all.1)
        where
          by_test : (b : Bool) → (p.count == count) ≡ b → AllByRecursion P (without count requests)
              → AllByRecursion P (if b then without count requests else p ∷ without count requests)
          by_test true h more = more
          by_test false h more = (all.0 (λ e. absurd (true_false (sym ((Decides-eqb p.count count).1 e) ∙ h))), more)

  -- an open request is answered
  pub told_owes : (q : Open) (answer : Answer) (time : ℕ) (f : Opened) (next : List Cursor) → IsIn q r.requests → r.time ≤ time
      → IsMet (view_of w.nodes book) w.given time
      → AllByRecursion (IsTimeless at r.time) f.written → Turns book.cursors next at (goes_to r time r.moment r.tables (without q.count r.requests) f)
      → ((v : View) → IsBehind v → (o : IsOpenOf v w.asked w.answered r q) → NeighboursFit v w.asked
      → AnswerFits v w.asked (w.answered ++ as_answered w.now (reply_to r time q answer) ∷ []) book.cursors (as_answered w.now (reply_to r time q answer)) next
      × ToldBelow time (as_answered w.now (reply_to r time q answer)))
      → Owes w book at (record { state = router_state r; kept = kept }) (tells f [] (reply_to r time q answer ∷ []))
      (router_state (goes_to r time r.moment r.tables (without q.count r.requests) f))
  told_owes q answer time f next stands later met rises turns told =
      goes_owes w book at r fits good kept time r.moment r.tables (without q.count r.requests) f [] (reply_to r time q answer ∷ []) later h.within
      met (parted_without r q (as_answered w.now (reply_to r time q answer)) r.requests fits.different stands refl)
      (record {
        news = [];
        chose = tt;
        cursors = next;
        turns = turns;
        raised = all_without (IsReached book.reached r) q.count r.requests reach;
        timeless = rises;
      })
      (λ v grows others chosen cursors given noted reached.
      let o = all_at (IsOpenOf v w.asked w.answered r) q r.requests (each_open v (grows, others) chosen) stands in
      let t = told v (grows, others) o (around v (grows, others)) in
      record {
        tables = known_tables v (grows, others) time later;
        requests = all_without (IsOpenOf v w.asked w.answered (goes_to r time r.moment r.tables (without q.count r.requests) f)) q.count r.requests
            (risen_open v (grows, others) chosen (goes_to r time r.moment r.tables (without q.count r.requests) f) later);
        letters = tt;
        answers = subst (λ l. AnswersFit v w.asked (w.answered ++ as_answered w.now (reply_to r time q answer) ∷ []) book.cursors
            (as_answered w.now (reply_to r time q answer) ∷ []) l)
            (sym cursors) (one_answer book.cursors next next (as_answered w.now (reply_to r time q answer)) [] t.0 (no_answer next));
        below = (t.1, tt);
        times = (refl, tt);
      })
