-- Each transition of a router keeps the facts that stay: all of them.
use Rattle.std.proofs.Common.{ℕ, ◌+◌, List, [], refl, sym, subst}
use Rattle.std.specs.Prelude.{max}
use Rattle.std.specs.List.{AllByRecursion, flat_map}
use Rattle.base_model.specs.Errors.{cursor_not_found, namespace_not_sharded, overflow}
use Rattle.base_model.specs.Refusals.{cursor_evidence, time_ahead, without_evidence}
use Rattle.base_model.specs.Times.{time_of_moment}
use Rattle.command_model.specs.Answers.{next_answer, killed_answer, changed_answer, refusal_answer}
use Rattle.history_model.proofs.Lists.{all_weaken}
use Rattle.history_model.specs.History.{Entry}
use Rattle.reply_model.specs.Exchanges.{Asked}
use Rattle.reply_model.specs.OneHistory.{ids_asked, AreDifferent}
use Rattle.reply_model.specs.Outcomes.{lack_refusal}
use Rattle.node_model.specs.Letters.{Input, Effect}
use Rattle.node_model.specs.RouterRequests.{heard, id_of, needs, at_once, needs_batch, needs_end, reached}
use Rattle.node_model.specs.RouterNext.{noted, served_in_part, settled, begins_work, next_of, adopted, knows, was_created, asks_again, table_refused, at_moment, Next, stays, stay_in}
use Rattle.node_model.specs.RouterRows.{begins, takes, too_much, RouterRow, router_begin, router_opened, router_plain, router_more, router_no_cursor, router_kill, router_take, router_learn, router_split, router_not_sharded, router_reach, router_hear, router_ahead, router_note, router_part, router_read, router_excess, router_overflow, router_late, router_skip, router_moment, router_refused, router_no_table}
use Rattle.node_model.specs.States.{Open, Router}
use Rattle.node_laws.proofs.NextRequests.{NextIs, each_next}
use Rattle.node_replay.specs.Acknowledged.{says_lacking}
use Rattle.node_replay.proofs.GivenUp.{IsLaterTable, refused_goes, table_refused_goes, moment_goes}
use Rattle.node_replay.proofs.GivenUpStays.{goes_stays, stays_or_goes}
use Rattle.node_replay.proofs.StayFacts.{BodyStays, LetterStays, WorkStays, RouterStays}
use Rattle.node_replay.proofs.ShardStays.{InputStays}
use Rattle.node_replay.proofs.RouterStays.{planned, again_stays, IsOwn, IsTold, plain_told, Becomes, write_becomes, begins_becomes, next_stays}
use Rattle.node_replay.proofs.RouterNext.{RouterSteps, no_request, still, found, closed, becomes, hears, has_part, read_no_write, split_none, news, begins_stays, at_once_stays, take_stays, no_write_told, each_goes}

-- ALL ROWS

pub router_steps : (asked : List Asked) (history : List Entry) (now at : ℕ) (r q : Router) (i : Input) (f : Effect) → RouterStays asked history at r
    → AreDifferent (ids_asked asked) → InputStays asked history i → RouterRow r i f q → RouterSteps asked history now at f q
router_steps asked history now at _ _ _ _ mine one input (router_begin r not_begun) =
    no_request asked history now at r mine one _ (begins r) refl
    (record { node = begins_stays asked history now at r mine one not_begun; letters = tt; told = tt })
router_steps asked history now at _ _ _ _ mine one input (router_opened r begun) =
    still asked history now at r mine one _ r refl refl refl refl refl mine.requests tt tt
router_steps asked history now at _ _ _ _ mine one input (router_plain r link number request answer begun plan) =
    let plain = planned history r (id_of r (r.count + 1)) request request.more (at_once answer) plan in
    at_once_stays asked history now at r mine one link number request begun _ (takes r []) refl refl refl refl refl refl refl
    (no_write_told asked history now at r mine one link number request begun answer plain, tt)
router_steps asked history now at _ _ _ _ mine one input (router_more r link number request more c batch next begun plan found shows) =
    let plain = planned history r (id_of r (r.count + 1)) request request.more (needs_batch more) plan in
    at_once_stays asked history now at r mine one link number request begun _ _ refl refl refl refl refl refl refl
    (no_write_told asked history now at r mine one link number request begun (next_answer batch) plain, tt)
router_steps asked history now at _ _ _ _ mine one input (router_no_cursor r link number request more begun plan none) =
    let plain = planned history r (id_of r (r.count + 1)) request request.more (needs_batch more) plan in
    at_once_stays asked history now at r mine one link number request begun _ (takes r []) refl refl refl refl refl refl refl (
      no_write_told asked history now at r mine one link number request begun
          (refusal_answer (record { error = cursor_not_found; evidence = cursor_evidence more.cursor })) plain,
      tt,
    )
router_steps asked history now at _ _ _ _ mine one input (router_kill r link number request kill killed missing next begun plan ends) =
    let plain = planned history r (id_of r (r.count + 1)) request request.more (needs_end kill) plan in
    at_once_stays asked history now at r mine one link number request begun _ _ refl refl refl refl refl refl refl
    (no_write_told asked history now at r mine one link number request begun (killed_answer killed missing) plain, tt)
router_steps asked history now at _ _ _ _ mine one input (router_take r link number request namespace work begun plan) =
    take_stays asked history now at r mine one link number request begun namespace work
    (planned history r (id_of r (r.count + 1)) request request.more (needs namespace work) plan)
router_steps asked history now at _ _ _ _ mine one input (router_learn r m namespace create told table tells) =
    let next : (q : Open) → Next = λ q. next_of r (heard r m) (adopted table r.tables) namespace (was_created create table) told q in
    let all : AllByRecursion (λ q. NextIs (IsOwn asked history now r) (LetterStays asked history) (IsTold asked history now r) (next q)) r.requests =
    all_weaken (IsOwn asked history now r)
    (λ q. NextIs (IsOwn asked history now r) (LetterStays asked history) (IsTold asked history now r) (next q)) r.requests
    (λ q o. next_stays asked history now r (heard r m) (adopted table r.tables) namespace (was_created create table) told q o) mine.requests in
    let e = each_next (IsOwn asked history now r) (LetterStays asked history) (IsTold asked history now r) next r.requests all in
    still asked history now at r mine one _ _ refl refl refl refl refl e.stay e.ask e.tell
router_steps asked history now at _ _ _ _ mine one input (router_split r m id q middle tells opens_here work) =
    let o = found asked history now at r mine one id q opens_here in
    still asked history now at r mine one _ _ refl refl refl refl refl (closed asked history now at r mine one q) tt
    (plain_told asked history now r q (heard r m) (changed_answer (heard r m)) (split_none asked history now at r mine one q middle work o), tt)
router_steps asked history now at _ _ _ _ mine one input (router_not_sharded r m id q middle tells opens_here work) =
    let o = found asked history now at r mine one id q opens_here in
    still asked history now at r mine one _ _ refl refl refl refl refl (closed asked history now at r mine one q) tt (
      plain_told asked history now r q (heard r m) (refusal_answer (without_evidence namespace_not_sharded))
          (split_none asked history now at r mine one q middle work o),
      tt,
    )
router_steps asked history now at _ _ _ _ mine one input (router_reach r m id q named time stages telling tells opens_here work waits past) =
    let o = found asked history now at r mine one id q opens_here in
    let plain = read_no_write asked history now at r mine one q named time stages telling work o in
    let does : WorkStays history (id_of r q.count) q.request q.namespace (reached (heard r m) q.work) =
    subst (λ w. WorkStays history (id_of r q.count) q.request q.namespace (reached (heard r m) w)) (sym work) plain in
    let p = becomes asked history now at r mine one q (begins_work r (heard r m) q (reached (heard r m) q.work))
    (begins_becomes asked history now r (heard r m) q (reached (heard r m) q.work) o does) in
    still asked history now at r mine one _ _ refl refl refl refl refl p.0 p.1 p.2
router_steps asked history now at _ _ _ _ mine one input (router_hear r m id q named time stages telling tells opens_here work waits ahead some) =
    still asked history now at r mine one _ _ refl refl refl refl refl
    (hears asked history now at r mine one q m.sender (found asked history now at r mine one id q opens_here)) tt tt
router_steps asked history now at _ _ _ _ mine one input (router_ahead r m id q named time stages telling tells opens_here work waits ahead all) =
    let o = found asked history now at r mine one id q opens_here in
    still asked history now at r mine one _ _ refl refl refl refl refl (closed asked history now at r mine one q) tt (
      plain_told asked history now r q (heard r m) (refusal_answer (time_ahead (heard r m)))
          (read_no_write asked history now at r mine one q named time stages telling work o),
      tt,
    )
router_steps asked history now at _ _ _ _ mine one input (router_note r m id dones q kind ordered statements c next tells opens_here work news_come is) =
    let does = news asked history now at r mine one id dones q kind ordered statements c opens_here work
    (subst (λ b. BodyStays asked history b) tells input) in
    let p = becomes asked history now at r mine one q next (subst (λ x. Becomes asked history now r x) (sym is)
    (write_becomes asked history now r (heard r m) r.tables ordered (served_in_part (noted ordered c.answers dones) c.runs) q kind ordered statements
    (settled c (noted ordered c.answers dones)) (found asked history now at r mine one id q opens_here) does)) in
    still asked history now at r mine one _ _ refl refl refl refl refl p.0 p.1 p.2
router_steps asked history now at _ _ _ _ mine one input (router_refused r m id turn first cause q next tells opens_here is) =
    let o = found asked history now at r mine one id q opens_here in
    let p = becomes asked history now at r mine one q next (goes_stays asked history now r (heard r m) q o (IsLaterTable cause) next
    (refused_goes r (heard r m) q m.sender turn first cause next is)) in
    still asked history now at r mine one _ _ refl refl refl refl refl p.0 p.1 p.2
router_steps asked history now at _ _ _ _ mine one input (router_no_table r m namespace create told node lack tells) =
    each_goes asked history now at r mine one (heard r m) (table_refused r (heard r m) namespace create told (lack_refusal node lack))
    (λ q o. stays_or_goes asked history now r (heard r m) q o (stays q []) _ (o, tt)
    (table_refused_goes r (heard r m) q namespace create told (lack_refusal node lack) (says_lacking node lack)))
    (knows r (heard r m) r.tables (flat_map (λ q. stay_in (table_refused r (heard r m) namespace create told (lack_refusal node lack) q)) r.requests))
    refl refl refl refl refl
router_steps asked history now at _ _ _ _ mine one input (router_part r m id rows q named time stages telling tells opens_here work target some) =
    still asked history now at r mine one _ _ refl refl refl refl refl
    (has_part asked history now at r mine one q m.sender rows (found asked history now at r mine one id q opens_here)) tt tt
router_steps asked history now at _ _ _ _ mine one input
    (router_read r m id rows q named time stages telling all out answer f tells opens_here work target whole got merges shown) =
    let o = found asked history now at r mine one id q opens_here in
    still asked history now at r mine one _ _ refl refl refl refl refl (closed asked history now at r mine one q) tt
    (plain_told asked history now r q (heard r m) answer (read_no_write asked history now at r mine one q named time stages telling work o), tt)
router_steps asked history now at _ _ _ _ mine one input (router_excess r m id rows n q named time stages telling tells opens_here work target whole got) =
    let o = found asked history now at r mine one id q opens_here in
    still asked history now at r mine one _ _ refl refl refl refl refl (closed asked history now at r mine one q) tt (
      plain_told asked history now r q (heard r m) (refusal_answer (too_much n))
          (read_no_write asked history now at r mine one q named time stages telling work o),
      tt,
    )
router_steps asked history now at _ _ _ _ mine one input (router_overflow r m id rows q named time stages telling tells opens_here work target whole got) =
    let o = found asked history now at r mine one id q opens_here in
    still asked history now at r mine one _ _ refl refl refl refl refl (closed asked history now at r mine one q) tt (
      plain_told asked history now r q (heard r m) (refusal_answer (without_evidence overflow))
          (read_no_write asked history now at r mine one q named time stages telling work o),
      tt,
    )
router_steps asked history now at _ _ _ _ mine one input (router_late r m late) =
    still asked history now at r mine one _ _ refl refl refl refl refl mine.requests tt tt
router_steps asked history now at _ _ _ _ mine one input (router_skip r m none) =
    still asked history now at r mine one _ r refl refl refl refl refl mine.requests tt tt
router_steps asked history now at _ _ _ _ mine one input (router_moment r moment begun) =
    each_goes asked history now at r mine one (max r.time (time_of_moment moment)) (at_moment r (max r.time (time_of_moment moment)) moment)
    (λ q o. stays_or_goes asked history now r (max r.time (time_of_moment moment)) q o (stays q (asks_again r (max r.time (time_of_moment moment)) q)) _
    (o, again_stays asked history now r (max r.time (time_of_moment moment)) q o) (moment_goes r (max r.time (time_of_moment moment)) q moment))
    _ refl refl refl refl refl
