-- The transitions for messages that answer an open request.
use Rattle.std.proofs.Common.{◌≡◌, ◌≢◌, refl, ap, sym, subst, ◌∙◌, ℕ, ◌<◌, ◌≤◌, ◌⊎◌, List, [], ◌∷◌, Bool, true, false, if◌then◌else◌}
use Rattle.std.specs.Prelude.{Option, Some, None, Result}
use Rattle.bson_model.specs.Tree.{Datum}
use Rattle.command_model.specs.Answers.{changed_answer, refusal_answer}
use Rattle.command_replies.specs.Kinds.{kind_view}
use Rattle.base_model.specs.Errors.{namespace_not_sharded}
use Rattle.base_model.specs.Identities.{RequestId}
use Rattle.node_model.specs.Letters as letters
use Rattle.node_model.specs.Letters.{Letter, HalfFault, Reply, letter_input, split_done, write_done, read_rows, time_told, nothing}
use Rattle.reply_model.specs.Outcomes as outcomes
use Rattle.reply_model.specs.Outcomes.{Done}
use Rattle.base_model.specs.Refusals.{time_ahead, without_evidence}
use Rattle.node_model.specs.RouterRequests.{heard, id_of, reached, shards_of, turn_after, untold}
use Rattle.node_model.specs.RouterNext.{Next, stays, is_told, after_next, also_part, also_told, awaited, begins_work, is_target, knows, noted, reply_to, served_in_part, settled, with_part, with_told, with_work, write_on}
use Rattle.node_model.specs.RouterRows.{RouterRow, router_split, router_not_sharded, router_reach, router_hear, router_ahead, router_note, router_part, open_of, goes_on, answers_now, IsLate, IsNoRead, IsNotAwaited, IsNoSplit, AreNoNews}
use Rattle.node_model.specs.States.{Course, Telling, Open, Router, Work, for_time, reading, writing, splitting, without, replaced}
use Rattle.pipeline_model.specs.Halves.{Rows}
use Rattle.pipeline_model.specs.Stages.{Stage}
use Rattle.command_model.specs.Writes.{WriteKind}
use Rattle.node_traits.specs.Effects.{puts_of}
use Rattle.node_traits.specs.declared.outputs.ToLink.{ToLink}
use Rattle.protocol_model.specs.declared.statement.StatementOutcome.{StatementOutcome}
use Rattle.router_requests.specs.Works.{statements_of, write_course}
use Rattle.router_requests.specs.declared.write.OpenWrite.{OpenWrite}
use Rattle.write_runs.specs.Runs.{runs_view}
use Rattle.router_node.specs.News.{IsNews, next_noted}
use Rattle.router_node.specs.Rows.{TookRow}

-- no request is open under it
pub rows_of_none : (r : Router) (m : Letter) (id : RequestId) (turn : ℕ) (rows : Result Rows HalfFault) → m.body ≡ read_rows id turn rows → open_of r id ≡ None → IsLate r m.sender m.body
rows_of_none r m id turn rows is none = subst (λ b. IsLate r m.sender b) (sym is) (subst (λ o. IsNoRead o m.sender turn) (sym none) tt)

pub time_of_none : (r : Router) (m : Letter) (id : RequestId) → m.body ≡ time_told id → open_of r id ≡ None → IsLate r m.sender m.body
time_of_none r m id is none = subst (λ b. IsLate r m.sender b) (sym is) (subst (λ o. IsNotAwaited o) (sym none) tt)

pub dones_of_none : (r : Router) (m : Letter) (id : RequestId) (dones : List Done) → m.body ≡ write_done id dones → open_of r id ≡ None → IsLate r m.sender m.body
dones_of_none r m id dones is none = subst (λ b. IsLate r m.sender b) (sym is) (subst (λ o. AreNoNews o dones) (sym none) tt)

pub split_of_none : (r : Router) (m : Letter) (id : RequestId) (found : Bool) → m.body ≡ split_done id found → open_of r id ≡ None → IsLate r m.sender m.body
split_of_none r m id found is none = subst (λ b. IsLate r m.sender b) (sym is) (subst (λ o. IsNoSplit o) (sym none) tt)

module _ (r : Router) (m : Letter) (id : RequestId) (q : Open) (opened : open_of r id ≡ Some q) where
  -- the open request has work of another kind
  pub rows_late : (turn : ℕ) (rows : Result Rows HalfFault) (work : Work) → m.body ≡ read_rows id turn rows → q.work ≡ work → IsNoRead (Some (with_work q q.wait q.targets work)) m.sender turn → IsLate r m.sender m.body
  rows_late turn rows work is has other =
      subst (λ b. IsLate r m.sender b) (sym is) (subst (λ o. IsNoRead o m.sender turn) (sym opened) (subst (λ (w : Work). IsNoRead (Some (with_work q q.wait q.targets w)) m.sender turn) (sym has) other))

  pub dones_late : (dones : List Done) (work : Work) → m.body ≡ write_done id dones → q.work ≡ work → AreNoNews (Some (with_work q q.wait q.targets work)) dones → IsLate r m.sender m.body
  dones_late dones work is has other =
      subst (λ b. IsLate r m.sender b) (sym is) (subst (λ o. AreNoNews o dones) (sym opened) (subst (λ (w : Work). AreNoNews (Some (with_work q q.wait q.targets w)) dones) (sym has) other))

  pub time_late : (work : Work) → m.body ≡ time_told id → q.work ≡ work → IsNotAwaited (Some (with_work q q.wait q.targets work)) → IsLate r m.sender m.body
  time_late work is has other =
      subst (λ b. IsLate r m.sender b) (sym is) (subst (λ o. IsNotAwaited o) (sym opened) (subst (λ (w : Work). IsNotAwaited (Some (with_work q q.wait q.targets w))) (sym has) other))

  pub split_late : (found : Bool) (work : Work) → m.body ≡ split_done id found → q.work ≡ work → IsNoSplit (Some (with_work q q.wait q.targets work)) → IsLate r m.sender m.body
  split_late found work is has other =
      subst (λ b. IsLate r m.sender b) (sym is) (subst (λ o. IsNoSplit o) (sym opened) (subst (λ (w : Work). IsNoSplit (Some (with_work q q.wait q.targets w))) (sym has) other))

  -- a chunk was split, or there is no such collection
  pub split_told : (found : Bool) (middle : Datum) (replies : List ToLink) → m.body ≡ split_done id found → q.work ≡ splitting middle
      → replies ≡ puts_of (reply_to r (heard r m) q (if found then changed_answer (heard r m) else refusal_answer (without_evidence namespace_not_sharded)) ∷ [])
      → TookRow r (letter_input m) [] replies (knows r (heard r m) r.tables (without q.count r.requests))
  split_told true middle replies is work told = record {
    effect = answers_now (reply_to r (heard r m) q (changed_answer (heard r m)));
    row = router_split r m id q middle is opened work;
    written = refl;
    sent = refl;
    told = told;
  }
  split_told false middle replies is work told = record {
    effect = answers_now (reply_to r (heard r m) q (refusal_answer (without_evidence namespace_not_sharded)));
    row = router_not_sharded r m id q middle is opened work;
    written = refl;
    sent = refl;
    told = told;
  }

  pub rows_of_write : (turn : ℕ) (rows : Result Rows HalfFault) (kind : WriteKind) (ordered : Bool) (statements : List letters.Statement) (c : Course) → m.body ≡ read_rows id turn rows
      → q.work ≡ writing kind ordered statements c → IsLate r m.sender m.body
  rows_of_write turn rows kind ordered statements c is work = rows_late turn rows (writing kind ordered statements c) is work tt

  pub rows_of_turn : (turn : ℕ) (rows : Result Rows HalfFault) (named : Bool) (at : ℕ) (stages : List Stage) (telling : Telling) → m.body ≡ read_rows id turn rows → q.work ≡ reading named at stages telling
      → (turn ≢ turn_after q.tries) ⊎ (is_target m.sender q.targets ≡ false) → IsLate r m.sender m.body
  rows_of_turn turn rows named at stages telling is work other = rows_late turn rows (reading named at stages telling) is work other

  pub dones_of_read : (dones : List Done) (named : Bool) (at : ℕ) (stages : List Stage) (telling : Telling) → m.body ≡ write_done id dones → q.work ≡ reading named at stages telling → IsLate r m.sender m.body
  dones_of_read dones named at stages telling is work = dones_late dones (reading named at stages telling) is work tt

  pub time_of_write : (kind : WriteKind) (ordered : Bool) (statements : List letters.Statement) (c : Course) → m.body ≡ time_told id → q.work ≡ writing kind ordered statements c → IsLate r m.sender m.body
  time_of_write kind ordered statements c is work = time_late (writing kind ordered statements c) is work tt

  pub time_not_awaited : (named : Bool) (at : ℕ) (stages : List Stage) (telling : Telling) → m.body ≡ time_told id → q.work ≡ reading named at stages telling → q.wait ≢ for_time → IsLate r m.sender m.body
  time_not_awaited named at stages telling is work other = time_late (reading named at stages telling) is work other

  pub time_ahead_told : (named : Bool) (at : ℕ) (stages : List Stage) (telling : Telling) (replies : List ToLink) → m.body ≡ time_told id → q.work ≡ reading named at stages telling → q.wait ≡ for_time → heard r m < at
      → untold (also_told q.told m.sender) (shards_of r) ≡ []
      → replies ≡ puts_of (reply_to r (heard r m) q (refusal_answer (time_ahead (heard r m))) ∷ [])
      → TookRow r (letter_input m) [] replies (knows r (heard r m) r.tables (without q.count r.requests))
  time_ahead_told named at stages telling replies is work waits ahead all told = record {
    effect = answers_now (reply_to r (heard r m) q (refusal_answer (time_ahead (heard r m))));
    row = router_ahead r m id q named at stages telling is opened work waits ahead all;
    written = refl;
    sent = refl;
    told = told;
  }

  -- others have not returned their parts
  pub rows_gained : (rows : Result Rows HalfFault) (named : Bool) (at : ℕ) (stages : List Stage) (telling : Telling) → m.body ≡ read_rows id (turn_after q.tries) rows → q.work ≡ reading named at stages telling
      → is_target m.sender q.targets ≡ true → awaited q.targets (also_part q.parts m.sender rows) ≢ []
      → TookRow r (letter_input m) [] [] (knows r (heard r m) r.tables (replaced (with_part q m.sender rows) r.requests))
  rows_gained rows named at stages telling is work sent some = record {
    effect = nothing;
    row = router_part r m id rows q named at stages telling is opened work sent some;
    written = refl;
    sent = refl;
    told = refl;
  }

  -- others have not returned their time
  pub time_heard : (named : Bool) (at : ℕ) (stages : List Stage) (telling : Telling) (next : Open) → m.body ≡ time_told id → q.work ≡ reading named at stages telling → q.wait ≡ for_time → heard r m < at
      → untold (also_told q.told m.sender) (shards_of r) ≢ [] → next ≡ with_told q m.sender
      → TookRow r (letter_input m) [] [] (knows r (heard r m) r.tables (replaced next r.requests))
  time_heard named at stages telling next is work waits ahead some goes =
      subst (λ n. TookRow r (letter_input m) [] [] (knows r (heard r m) r.tables (replaced n r.requests))) (sym goes) (record {
        effect = nothing;
        row = router_hear r m id q named at stages telling is opened work waits ahead some;
        written = refl;
        sent = refl;
        told = refl;
      })

  -- the time is reached, and the read goes on
  pub time_reached : (named : Bool) (at : ℕ) (stages : List Stage) (telling : Telling) (mail : List Letter) (next : Open) → m.body ≡ time_told id → q.work ≡ reading named at stages telling → q.wait ≡ for_time → at ≤ heard r m
      → begins_work r (heard r m) q (reached (heard r m) q.work) ≡ stays next mail
      → TookRow r (letter_input m) mail [] (knows r (heard r m) r.tables (replaced next r.requests))
  time_reached named at stages telling mail next is work waits come goes = record {
    effect = goes_on (stays next mail);
    row = subst (λ (n : Next). RouterRow r (letter_input m) (goes_on n) (knows r (heard r m) r.tables (after_next q n r.requests))) goes
        (router_reach r m id q named at stages telling is opened work waits come);
    written = refl;
    sent = refl;
    told = refl;
  }

-- outcomes that are not new to an open write
pub dones_no_news : (r : Router) (m : Letter) (id : RequestId) (q : Open) (dones : List Done) (kind : WriteKind) (ordered : Bool) (statements : List letters.Statement) (c : Course) → open_of r id ≡ Some q
    → m.body ≡ write_done id dones → q.work ≡ writing kind ordered statements c → noted ordered c.answers dones ≡ c.answers → IsLate r m.sender m.body
dones_no_news r m id q dones kind ordered statements c opened is work same = dones_late r m id q opened dones (writing kind ordered statements c) is work same

-- outcomes that are new
module _ (r : Router) (m : Letter) (id : RequestId) (q : Open) (write : OpenWrite) (answers : List (Option StatementOutcome)) (news : IsNews r m id q write answers) (time : ℕ) (late : time ≡ heard r m) where
  goes : (next : Next) → next_noted r time q write answers ≡ next → RouterRow r (letter_input m) (goes_on next) (knows r (heard r m) r.tables (after_next q next r.requests))
  goes next is =
      router_note r m id news.dones q (kind_view write.kind) write.ordered (statements_of (id_of r q.count) write) (write_course write) next news.body news.opened news.work news.news
      (sym is ∙ ap (λ (t : ℕ). next_noted r t q write answers) late ∙ ap (λ (xs : List (Option outcomes.StatementOutcome)). write_on r (heard r m) r.tables write.ordered
      (served_in_part xs (runs_view write.runs.items)) q (kind_view write.kind) write.ordered (statements_of (id_of r q.count) write)
      (settled (write_course write) xs)) (sym news.are))

  -- the write is answered
  pub news_told : (reply : Reply) (replies : List ToLink) → next_noted r time q write answers ≡ is_told reply → replies ≡ puts_of (reply ∷ [])
      → TookRow r (letter_input m) [] replies (knows r (heard r m) r.tables (without q.count r.requests))
  news_told reply replies is told = record { effect = goes_on (is_told reply); row = goes (is_told reply) is; written = refl; sent = refl; told = told }

  -- it goes on
  pub news_sent : (next : Open) (mail : List Letter) → next_noted r time q write answers ≡ stays next mail
      → TookRow r (letter_input m) mail [] (knows r (heard r m) r.tables (replaced next r.requests))
  news_sent next mail is = record { effect = goes_on (stays next mail); row = goes (stays next mail) is; written = refl; sent = refl; told = refl }
