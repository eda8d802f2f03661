-- The rows of a read determine the reply of a router.
use Rattle.std.proofs.Common.{◌≡◌, ◌≢◌, inl, inr, ℕ, ◌≤◌, ◌*◌, List, [], ◌∷◌, ◌++◌, refl, sym, ap, subst, ◌∙◌, arith, Bool}
use Rattle.std.specs.Prelude.{pos, Some, None, Result, Ok, Err, true, false, length, drop, codes, nat_lt}
use Rattle.std.specs.List.{AllByRecursion}
use Rattle.pipeline_model.specs.Batches.{IsBatch}
use Rattle.pipeline_model.specs.Halves.{Rows, MergesInTurn}
use Rattle.pipeline_model.specs.Lengths.{excess_of_answer}
use Rattle.pipeline_model.specs.Runs.{Outcome, listed, overflowed, count_documents}
use Rattle.pipeline_model.specs.Split.{split}
use Rattle.bson_model.specs.Tree.{Fields}
use Rattle.base_model.specs.Errors.{overflow}
use Rattle.base_model.specs.Refusals.{without_evidence}
use Rattle.command_model.specs.Answers.{Answer, first_answer, count_answer, refusal_answer}
use Rattle.reply_model.specs.Cursors.{Cursor, Opens, opens_none, opens_one, IsNewNumber}
use Rattle.pipeline_model.specs.Stages.{Stage}
use Rattle.history_model.proofs.Lists.{all_at}
use Rattle.history_model.specs.History.{IsIn}
use Rattle.base_model.specs.Identities.{RequestId}
use Rattle.reply_model.specs.Exchanges.{Asked, Answered}
use Rattle.reply_model.specs.Reads.{MayGive, excess_answer}
use Rattle.node_model.specs.Journal.{Kept}
use Rattle.node_model.specs.Letters.{HalfFault, half_overflow, half_excess, read_rows, Letter}
use Rattle.node_model.specs.States.{Telling, in_batches, as_number, reading, Open, Router, router_state, without}
use Rattle.node_model.specs.RouterRequests.{turn_after, id_of, heard}
use Rattle.node_model.specs.RouterNext.{is_target, also_part, awaited, rows_of, reply_to}
use Rattle.node_model.specs.RouterRows.{Opened, as_before, too_much, block_size, gives_number, next_number, new_cursor, batch_of, Tells, tells_overflow, tells_excess, tells_number, tells_batch, tells_cursor}
use Rattle.node_model.specs.World.{World}
use Rattle.node_laws.proofs.Views.{Book, View, view_of, chosen_time, history_in}
use Rattle.node_laws.proofs.ReadFacts.{WaitsFor, IsDecided, IsReading, IsMade, IsTooMuch}
use Rattle.node_laws.proofs.Facts.{IsReached, WorkFits, HasTime, IsOpenOf, IsBy, CursorsFit, NodeFits, NeighboursFit, SentFits, Good}
use Rattle.node_laws.proofs.Owes.{Owes}
use Rattle.node_laws.proofs.Journals.{later_self}
use Rattle.node_laws.proofs.Answers.{some_none, StaysRight}
use Rattle.node_laws.proofs.OpenRequests.{IsOpenWith}
use Rattle.node_laws.proofs.AnswerTimes.{ShowsBelow, refusal_below, first_below, count_below}
use Rattle.node_laws.proofs.OwnCursors.{new_number}
use Rattle.node_laws.proofs.ReadTimes.{read_int64}
use Rattle.node_laws.proofs.RouterAnswers.{as_answered, answer_fits}
use Rattle.node_laws.proofs.ReadAnswers.{MadeFor, made_for, rows_give, rows_exceed, told_alike, overflow_right, excess_right, number_right, batch_right}
use Rattle.node_laws.proofs.Turns.{Turns, began_by, next_above, one_more_number, turns_one}
use Rattle.node_laws.proofs.SentReads.{alone, none_awaited, rows_alone}
use Rattle.node_laws.proofs.RouterLater.{goes_to, tells, IsTimeless}
use Rattle.node_laws.proofs.RouterForms.{IsBehind, came_by, turns_stay, told_owes}
use Rattle.node_laws.proofs.RouterMessages.{body_in, later, heard_met}

no_time : (at time : ℕ) (r : Router) (cursors : List Cursor) → AllByRecursion (IsTimeless at time) (gives_number r cursors).written
no_time at time r cursors = by_test (nat_lt r.gave (block_size * r.blocks)) refl
  where
    by_test : (b : Bool) → nat_lt r.gave (block_size * r.blocks) ≡ b → AllByRecursion (IsTimeless at time) (gives_number r cursors).written
    by_test true h = rw h tt
    by_test false h = rw h ((tt, omega arith), tt)

-- what rows are made of, for an open read
record ReadIn (v : View) (a : Asked) (namespace : List ℕ) (named : Bool) (time : ℕ) (stages : List Stage) (telling : Telling) (heard_at : ℕ)
    (rows : Rows) : Type 0 where
  pub does : IsReading a namespace named time stages telling
  pub made : MadeFor v does.read time heard_at rows

module _ (w : World) (book : Book) (at : ℕ) (kept : List Kept) (r : Router) (good : Good w book)
    (h : NodeFits (view_of w.nodes book) w.asked w.answered w.given at (record { state = router_state r; kept = kept }))
    (reach : AllByRecursion (IsReached book.reached r) r.requests)
    (m : Letter) (comes : SentFits (view_of w.nodes book) w.changed w.asked w.answered w.given m) where
  -- the time of a read that rows are sent for is decided
  decided_of : (v : View) (q : Open) (a : Asked) (named : Bool) (time other : ℕ) (stages : List Stage) (telling : Telling)
      → q.work ≡ reading named time stages telling
      → HasTime v a (id_of r q.count) r.time q.wait q.work → chosen_time (id_of r q.count) v.chosen ≡ Some other
      → chosen_time (id_of r q.count) v.chosen ≡ Some time
  decided_of v q a named time other stages telling work (inl (e, f)) d =
      let waits : WaitsFor v a (id_of r q.count) (reading named time stages telling) = subst (λ x. WaitsFor v a (id_of r q.count) x) work f in
      absurd (some_none (sym d ∙ waits.undecided))
  decided_of v q a named time other stages telling work (inr (n, e, f)) d = subst (λ x. IsDecided v (id_of r q.count) x) work f

  read_in : (v : View) (id : RequestId) (rows : Rows) (q : Open) (named : Bool) (time : ℕ) (stages : List Stage) (telling : Telling)
      → IsMade v w.asked m.sender m.time id rows
      → IsOpenWith r id q → q.work ≡ reading named time stages telling → (o : IsOpenOf v w.asked w.answered r q)
      → ReadIn v o.request q.namespace named time stages telling m.time rows
  read_in v id rows q named time stages telling made found work o =
      let does : WorkFits o.request q.namespace (reading named time stages telling) = subst (λ x. WorkFits o.request q.namespace x) work o.work in
      let here : chosen_time (id_of r q.count) v.chosen ≡ Some made.at = subst (λ i. chosen_time i v.chosen ≡ Some made.at) found.own made.shown.read.decided in
      let decided : chosen_time id v.chosen ≡ Some time =
      subst (λ i. chosen_time i v.chosen ≡ Some time) (sym found.own) (decided_of v q o.request named time made.at stages telling work o.reached here) in
      record {
        does = does;
        made = made_for v w.asked o.request m.sender m.time id q.namespace named time stages telling rows good.one o.taken (o.own ∙ sym found.own) does
            decided made;
      }

  abbrev Told : Open → Answer → List Answered
  Told q answer = w.answered ++ as_answered w.now (reply_to r (heard r m) q answer) ∷ []

  -- an answer that leaves the cursors
  told_still : (q : Open) (answer : Answer) → IsIn q r.requests
      → ((v : View) → IsBehind w book at kept r good h reach v → (o : IsOpenOf v w.asked w.answered r q) → NeighboursFit v w.asked
      → StaysRight v w.asked (Told q answer) book.cursors o.request (as_answered w.now (reply_to r (heard r m) q answer)) book.cursors × ShowsBelow
      (heard r m) answer)
      → Owes w book at (record { state = router_state r; kept = kept }) (tells (as_before r) [] (reply_to r (heard r m) q answer ∷ []))
      (router_state (goes_to r (heard r m) r.moment r.tables (without q.count r.requests) (as_before r)))
  told_still q answer stands right =
      told_owes w book at kept r good h reach q answer (heard r m) (as_before r) book.cursors stands (later w book at kept r good h reach m comes)
      (heard_met w book at kept r good h reach m comes) tt
      (turns_stay w book at kept r good h reach (heard r m) r.moment r.tables (without q.count r.requests) (later w book at kept r good h reach m comes))
      (λ v behind o n.
      let x = right v behind o n in (
        answer_fits v w.asked w.answered (Told q answer) r (heard r m) w.now q answer book.cursors book.cursors o (later w book at kept r good h reach m comes)
            (came_by w book at kept r good h reach o.request o.taken) x.0,
        x.1,
      ))

  module _ (id : RequestId) (rows : Rows) (q : Open) (named : Bool) (time : ℕ) (stages : List Stage) (telling : Telling)
      (says : m.body ≡ read_rows id (turn_after q.tries) (Ok rows))
      (found : IsOpenWith r id q) (work : q.work ≡ reading named time stages telling) where
    read_now : (v : View) → IsBehind w book at kept r good h reach v → (o : IsOpenOf v w.asked w.answered r q)
        → ReadIn v o.request q.namespace named time stages telling m.time rows
    read_now v behind o = read_in v id rows q named time stages telling
        (body_in w book at kept r good h reach m comes v behind (read_rows id (turn_after q.tries) (Ok rows)) says) found work o

    gives : (v : View) (a : Asked) (out : Outcome) → (x : ReadIn v a q.namespace named time stages telling m.time rows)
        → MergesInTurn (split stages).1 (rows ∷ []) out
        → MayGive (history_in v) x.does.read time out
    gives v a out x merged =
        rows_give v x.does.read time m.time rows out (read_int64 a x.does.read telling x.does.tells) x.made
        (subst (λ (l : List Stage). MergesInTurn (split l).1 (rows ∷ []) out) x.does.words merged)

    past : (v : View) (a : Asked) → (x : ReadIn v a q.namespace named time stages telling m.time rows) → time ≤ heard r m
    past v a x = let p = x.made.past in omega arith

  opened_owes : (id : RequestId) (rows : Rows) (q : Open) (named : Bool) (time : ℕ) (stages : List Stage) (size : ℕ) (documents batch : List Fields)
      → m.body ≡ read_rows id (turn_after q.tries) (Ok rows)
      → IsOpenWith r id q → q.work ≡ reading named time stages (in_batches size false) → MergesInTurn (split stages).1 (rows ∷ []) (listed documents)
      → excess_of_answer documents ≡ None → IsBatch (Some size) documents batch → drop (length batch) documents ≢ []
      → Owes w book at (record { state = router_state r; kept = kept })
      (tells (gives_number r (r.cursors ++ new_cursor r q time (drop (length batch) documents) ∷ [])) []
      (reply_to r (heard r m) q (first_answer (batch_of q time (pos (next_number r)) batch)) ∷ []))
      (router_state (goes_to r (heard r m) r.moment r.tables (without q.count r.requests)
      (gives_number r (r.cursors ++ new_cursor r q time (drop (length batch) documents) ∷ []))))
  opened_owes id rows q named time stages size documents batch says found work merged small is_batch rest =
      let c : Cursor = new_cursor r q time (drop (length batch) documents) in
      let shown : Answer = first_answer (batch_of q time (pos (next_number r)) batch) in
      let now : Answered = as_answered w.now (reply_to r (heard r m) q (first_answer (batch_of q time (pos (next_number r)) batch))) in
      let up = later w book at kept r good h reach m comes in
      told_owes w book at kept r good h reach q shown (heard r m) (gives_number r (r.cursors ++ c ∷ [])) (book.cursors ++ c ∷ []) found.stands up
      (heard_met w book at kept r good h reach m comes) (no_time at r.time r (r.cursors ++ c ∷ [])) (turns reached_now up)
      (λ v behind o n.
      let x = read_now id rows q named time stages (in_batches size false) says found work v behind o in
      let reached = past id rows q named time stages (in_batches size false) says found work v o.request x in (
        answer_fits v w.asked w.answered (Told q shown) r (heard r m) w.now q shown book.cursors (book.cursors ++ c ∷ []) o up
            (came_by w book at kept r good h reach o.request o.taken)
            (batch_right v w.asked (Told q shown) book.cursors o.request now q.namespace named time stages size false documents
            (batch_of q time (pos (next_number r)) batch) (book.cursors ++ c ∷ []) x.does
            (gives id rows q named time stages (in_batches size false) says found work v o.request (listed documents) x merged) small is_batch refl refl
            (opened o.request o.own) (inl x.made.settled) reached refl),
        first_below (heard r m) (batch_of q time (pos (next_number r)) batch) reached,
      ))
    where
      mine : CursorsFit book.cursors r.me r
      mine = subst (λ n. CursorsFit book.cursors n r) (sym h.state.own) h.cursors

      began : r.begun ≡ true
      began =
          let o : IsOpenOf (view_of w.nodes book) w.asked w.answered r q = all_at (IsOpenOf (view_of w.nodes book) w.asked w.answered r) q r.requests
          h.state.requests found.stands in
          began_by o.request.id.life r.life r.begun (o.request.id.count ≤ r.count) (ap (λ (i : RequestId). i.life) o.own)
          (all_at (λ (a : Asked). a.id.router ≡ at → IsBy a.id.life r.life r.begun (a.id.count ≤ r.count)) o.request w.asked h.state.counted o.taken
          (ap (λ (i : RequestId). i.router) o.own ∙ h.state.own))

      reached_now : time ≤ heard r m
      reached_now =
          let u : View = view_of w.nodes book in
          let o : IsOpenOf u w.asked w.answered r q = all_at (IsOpenOf (view_of w.nodes book) w.asked w.answered r) q r.requests h.state.requests
          found.stands in
          past id rows q named time stages (in_batches size false) says found work u o.request
          (read_now id rows q named time stages (in_batches size false) says found work u (later_self (view_of w.nodes book), λ p other. refl) o)

      turns : time ≤ heard r m → r.time ≤ heard r m → Turns book.cursors (book.cursors ++ new_cursor r q time (drop (length batch) documents) ∷ []) at
          (goes_to r (heard r m) r.moment r.tables (without q.count r.requests)
          (gives_number r (r.cursors ++ new_cursor r q time (drop (length batch) documents) ∷ [])))
      turns reached up =
          let more = one_more_number r (r.cursors ++ new_cursor r q time (drop (length batch) documents) ∷ []) in
          subst (λ n. Turns book.cursors (book.cursors ++ new_cursor r q time (drop (length batch) documents) ∷ []) n
          (goes_to r (heard r m) r.moment r.tables (without q.count r.requests)
          (gives_number r (r.cursors ++ new_cursor r q time (drop (length batch) documents) ∷ [])))) h.state.own
          (turns_one book.cursors r
          (goes_to r (heard r m) r.moment r.tables (without q.count r.requests)
          (gives_number r (r.cursors ++ new_cursor r q time (drop (length batch) documents) ∷ [])))
          (new_cursor r q time (drop (length batch) documents)) mine refl refl refl reached refl began up more.own more.gave more.most)

      opened : (a : Asked) → a.id ≡ id_of r q.count
          → Opens a.id false q.namespace time book.cursors (drop (length batch) documents) (pos (next_number r))
          (book.cursors ++ new_cursor r q time (drop (length batch) documents) ∷ [])
      opened a own =
          let less = next_above r mine.most in
          let new : IsNewNumber (id_of r q.count) (pos (next_number r)) book.cursors =
          ((next_number r, omega (arith, less), refl), new_number (id_of r q.count) r.life r.begun r.gave r.time (next_number r) book.cursors mine.given less) in
          subst (λ i. Opens i false q.namespace time book.cursors (drop (length batch) documents) (pos (next_number r))
          (book.cursors ++ new_cursor r q time (drop (length batch) documents) ∷ [])) (sym own)
          (opens_one (drop (length batch) documents) (pos (next_number r)) rest refl new)

  one_owes : (id : RequestId) (rows : Rows) (q : Open) (named : Bool) (time : ℕ) (stages : List Stage) (telling : Telling) (out : Outcome)
      (answer : Answer) (f : Opened)
      → m.body ≡ read_rows id (turn_after q.tries) (Ok rows) → IsOpenWith r id q → q.work ≡ reading named time stages telling → MergesInTurn (split stages).1 (rows ∷ []) out
      → Tells r q time telling out answer f
      → Owes w book at (record { state = router_state r; kept = kept }) (tells f [] (reply_to r (heard r m) q answer ∷ []))
      (router_state (goes_to r (heard r m) r.moment r.tables (without q.count r.requests) f))
  one_owes id rows q named time stages _ _ _ _ says found work merged (tells_overflow telling) =
      told_still q (refusal_answer (without_evidence overflow)) found.stands
      (λ v behind o n.
      let x = read_now id rows q named time stages telling says found work v behind o in (
        overflow_right v w.asked (Told q (refusal_answer (without_evidence overflow))) book.cursors o.request
            (as_answered w.now (reply_to r (heard r m) q (refusal_answer (without_evidence overflow)))) q.namespace named time stages telling x.does
            (gives id rows q named time stages telling says found work v o.request overflowed x merged) (inl x.made.settled)
            (past id rows q named time stages telling says found work v o.request x) refl,
        refusal_below (heard r m) (without_evidence overflow),
      ))
  one_owes id rows q named time stages _ _ _ _ says found work merged (tells_excess telling documents n much) =
      told_still q (refusal_answer (too_much n)) found.stands
      (λ v behind o k.
      let x = read_now id rows q named time stages telling says found work v behind o in (
        excess_right v w.asked (Told q (refusal_answer (too_much n))) book.cursors o.request
            (as_answered w.now (reply_to r (heard r m) q (refusal_answer (too_much n)))) q.namespace named time n stages telling x.does
            (excess_answer documents (gives id rows q named time stages telling says found work v o.request (listed documents) x merged) much)
            (inl x.made.settled)
            (past id rows q named time stages telling says found work v o.request x) refl,
        refusal_below (heard r m) (too_much n),
      ))
  one_owes id rows q named time stages _ _ _ _ says found work merged (tells_number n) =
      told_still q (count_answer n time) found.stands
      (λ v behind o k.
      let x = read_now id rows q named time stages as_number says found work v behind o in
      let reached = past id rows q named time stages as_number says found work v o.request x in (
        number_right v w.asked (Told q (count_answer n time)) book.cursors o.request
            (as_answered w.now (reply_to r (heard r m) q (count_answer n time))) q.namespace named time n stages x.does
            (gives id rows q named time stages as_number says found work v o.request (listed (count_documents (codes "n") n)) x merged) (inl x.made.settled)
            reached refl,
        count_below (heard r m) n time reached,
      ))
  one_owes id rows q named time stages _ _ _ _ says found work merged (tells_batch size single documents batch small is_batch rest) =
      told_still q (first_answer (batch_of q time (pos 0) batch)) found.stands
      (λ v behind o k.
      let x = read_now id rows q named time stages (in_batches size single) says found work v behind o in
      let reached = past id rows q named time stages (in_batches size single) says found work v o.request x in (
        batch_right v w.asked (Told q (first_answer (batch_of q time (pos 0) batch))) book.cursors o.request
            (as_answered w.now (reply_to r (heard r m) q (first_answer (batch_of q time (pos 0) batch)))) q.namespace named time stages size single documents
            (batch_of q time (pos 0) batch) book.cursors x.does
            (gives id rows q named time stages (in_batches size single) says found work v o.request (listed documents) x merged) small is_batch refl refl
            (opens_none (drop (length batch) documents) rest) (inl x.made.settled) reached refl,
        first_below (heard r m) (batch_of q time (pos 0) batch) reached,
      ))
  one_owes id rows q named time stages _ _ _ _ says found work merged (tells_cursor size documents batch small is_batch rest) =
      opened_owes id rows q named time stages size documents batch says found work merged small is_batch rest

  -- WHERE IT WAS SENT

  open_now : (q : Open) → IsIn q r.requests → IsOpenOf (view_of w.nodes book) w.asked w.answered r q
  open_now q stands = all_at (IsOpenOf (view_of w.nodes book) w.asked w.answered r) q r.requests h.state.requests stands

  -- no read waits for more parts than the one that comes
  pub part_is_all : (id : RequestId) (rows : Result Rows HalfFault) (q : Open) → IsOpenWith r id q → is_target m.sender q.targets ≡ true
      → awaited q.targets (also_part q.parts m.sender rows) ≡ []
  part_is_all id rows q found target =
      let o = open_now q found.stands in
      none_awaited m.sender rows (view_of w.nodes book) r.time q.namespace q.wait q.work q.targets q.parts o.sent o.parts target

  all_alone : (id : RequestId) (rows : Result Rows HalfFault) (q : Open) (all : Result (List Rows) HalfFault) → IsOpenWith r id q
      → is_target m.sender q.targets ≡ true
      → rows_of q.targets (also_part q.parts m.sender rows) ≡ all → alone rows ≡ all
  all_alone id rows q all found target got =
      let o = open_now q found.stands in
      sym (rows_alone m.sender rows (view_of w.nodes book) r.time q.namespace q.wait q.work q.targets q.parts o.sent o.parts target) ∙ got

  pub read_owes : (id : RequestId) (rows : Result Rows HalfFault) (q : Open) (named : Bool) (time : ℕ) (stages : List Stage) (telling : Telling)
      (all : List Rows) (out : Outcome) (answer : Answer) (f : Opened)
      → m.body ≡ read_rows id (turn_after q.tries) rows → IsOpenWith r id q → q.work ≡ reading named time stages telling → is_target m.sender q.targets ≡ true
      → rows_of q.targets (also_part q.parts m.sender rows) ≡ Ok all → MergesInTurn (split stages).1 all out
      → Tells r q time telling out answer f
      → Owes w book at (record { state = router_state r; kept = kept }) (tells f [] (reply_to r (heard r m) q answer ∷ []))
      (router_state (goes_to r (heard r m) r.moment r.tables (without q.count r.requests) f))
  read_owes id rows q named time stages telling all out answer f says found work target got merged told =
      by_rows rows says (all_alone id rows q (Ok all) found target got)
    where
      by_rows : (x : Result Rows HalfFault) → m.body ≡ read_rows id (turn_after q.tries) x → alone x ≡ Ok all
          → Owes w book at (record { state = router_state r; kept = kept }) (tells f [] (reply_to r (heard r m) q answer ∷ []))
          (router_state (goes_to r (heard r m) r.moment r.tables (without q.count r.requests) f))
      by_rows (Err fault) says is = absurd (cc)
      by_rows (Ok own) says is =
          let same : all ≡ own ∷ [] = cc in
          one_owes id own q named time stages telling out answer f says found work (subst (λ l. MergesInTurn (split stages).1 l out) same merged) told

  same_fault : (rows : Result Rows HalfFault) (fault : HalfFault) → alone rows ≡ Err fault → rows ≡ Err fault
  same_fault (Ok own) fault is = absurd (cc)
  same_fault (Err own) fault is = cc

  -- too much
  one_much : (id : RequestId) (n : ℕ) (q : Open) (named : Bool) (time : ℕ) (stages : List Stage) (telling : Telling)
      → m.body ≡ read_rows id (turn_after q.tries) (Err (half_excess n))
      → IsOpenWith r id q → q.work ≡ reading named time stages telling
      → Owes w book at (record { state = router_state r; kept = kept }) (tells (as_before r) [] (reply_to r (heard r m) q (refusal_answer (too_much n)) ∷ []))
      (router_state (goes_to r (heard r m) r.moment r.tables (without q.count r.requests) (as_before r)))
  one_much id n q named time stages telling says found work =
      told_still q (refusal_answer (too_much n)) found.stands
      (λ v behind o k.
      let much : IsTooMuch v w.asked m.sender m.time id n = body_in w book at kept r good h reach m comes v behind (read_rows id (turn_after q.tries) (Err (half_excess n))) says in
      let x = read_in v id much.rows q named time stages telling much.made found work o in
      let past = x.made.past in (
        excess_right v w.asked (Told q (refusal_answer (too_much n))) book.cursors o.request
            (as_answered w.now (reply_to r (heard r m) q (refusal_answer (too_much n)))) q.namespace named time much.length stages telling x.does
            (rows_exceed v w.asked (Told q (refusal_answer (too_much n))) x.does.read time m.time much.length much.rows k x.made much.excess)
            (inl x.made.settled) (omega arith)
            (told_alike much.length n much.told),
        refusal_below (heard r m) (too_much n),
      ))

  pub much_owes : (id : RequestId) (rows : Result Rows HalfFault) (n : ℕ) (q : Open) (named : Bool) (time : ℕ) (stages : List Stage) (telling : Telling)
      → m.body ≡ read_rows id (turn_after q.tries) rows
      → IsOpenWith r id q → q.work ≡ reading named time stages telling → is_target m.sender q.targets ≡ true
      → rows_of q.targets (also_part q.parts m.sender rows) ≡ Err (half_excess n)
      → Owes w book at (record { state = router_state r; kept = kept }) (tells (as_before r) [] (reply_to r (heard r m) q (refusal_answer (too_much n)) ∷ []))
      (router_state (goes_to r (heard r m) r.moment r.tables (without q.count r.requests) (as_before r)))
  much_owes id rows n q named time stages telling says found work target got =
      let fault : rows ≡ Err (half_excess n) = same_fault rows (half_excess n) (all_alone id rows q (Err (half_excess n)) found target got) in
      one_much id n q named time stages telling (says ∙ ap (λ x. read_rows id (turn_after q.tries) x) fault) found work

  -- no half overflows
  pub none_overflows : (id : RequestId) (rows : Result Rows HalfFault) (q : Open) → m.body ≡ read_rows id (turn_after q.tries) rows → IsOpenWith r id q
      → is_target m.sender q.targets ≡ true
      → rows_of q.targets (also_part q.parts m.sender rows) ≡ Err half_overflow → ⊥
  none_overflows id rows q says found target got =
      let fault : rows ≡ Err half_overflow = same_fault rows half_overflow (all_alone id rows q (Err half_overflow) found target got) in
      body_in w book at kept r good h reach m comes (view_of w.nodes book) (later_self (view_of w.nodes book), λ p other. refl)
      (read_rows id (turn_after q.tries) (Err half_overflow)) (says ∙ ap (λ x. read_rows id (turn_after q.tries) x) fault)
