-- No request is answered twice, in whichever runs with stops.
use Rattle.std.proofs.Common.{◌≡◌, ◌≢◌, ℕ, ◌+◌, List, [], ◌∷◌, ◌++◌, refl, sym, ap, subst, ◌∙◌, append-nil}
use Rattle.std.specs.Prelude.{max, true, Some}
use Rattle.std.specs.List.{AllByRecursion}
use Rattle.base_model.specs.Identities.{RequestId}
use Rattle.base_model.specs.Times.{time_of_moment}
use Rattle.reply_model.specs.Outcomes.{lack_refusal}
use Rattle.node_replay.specs.Acknowledged.{says_lacking}
use Rattle.node_replay.proofs.GivenUp.{IsLaterTable, GoesOn, write_goes, read_goes, is_answered, StaysOrGoes, just_stays, goes_on as goes_on_so, refused_goes, table_refused_goes, moment_goes}
use Rattle.history_model.proofs.Lists.{all_weaken, all_append, all_at, all_both, in_back, in_first}
use Rattle.history_model.specs.History.{Entry, IsIn}
use Rattle.reply_model.specs.Exchanges.{Asked, Answered}
use Rattle.reply_model.specs.OneHistory.{ids_asked, ids_told, AreDifferent}
use Rattle.node_model.specs.Letters.{Input, Effect, Taken, Reply}
use Rattle.node_model.specs.RouterRequests.{heard, id_of, reached}
use Rattle.node_model.specs.RouterNext.{noted, served_in_part, settled, write_on, begins_work, next_of, adopted, was_created, also_tried, table_refused, asks_again, at_moment, knows, Next, stays, is_told, stay_in, letters_in, replies_in, after_next}
use Rattle.node_model.specs.RouterRows.{open_of, begins, takes, opened_request, taken_now, goes_on, RouterRow, router_begin, router_opened, router_plain, router_more, router_no_cursor, router_kill, router_take, router_learn, router_split, router_not_sharded, router_reach, router_hear, router_ahead, router_note, router_part, router_read, router_excess, router_overflow, router_late, router_skip, router_moment, router_refused, router_no_table}
use Rattle.node_model.specs.States.{Open, Router, without, replaced}
use Rattle.node_model.specs.World.{asked_by, answered_by}
use Rattle.node_laws.proofs.Facts.{counts_of, AreDifferentCounts}
use Rattle.node_laws.proofs.Lists.{all_mapped}
use Rattle.node_laws.proofs.NextKeeps.{keeps_count, write_keeps, read_keeps, begins_keeps, next_keeps}
use Rattle.node_laws.proofs.NextRequests.{KeepsCount, left_by, parted_next}
use Rattle.node_laws.proofs.OpenRequests.{open_of_found, all_without, all_replaced, IsParted, parted_replaced, parted_without}
use Rattle.node_laws.proofs.RouterAnswers.{as_answered}
use Rattle.node_laws.proofs.RouterLater.{once_more}
use Rattle.node_replay.proofs.RouterNext.{new_number}
use Rattle.node_replay.proofs.StayFacts.{id_in, OpenStays, RouterStays}

-- no reply is to this request
abbrev pub IsSilent : List Answered → (me life count : ℕ) → Type 0
IsSilent answered me life count = AllByRecursion (λ (t : Answered). t.id ≢ id_in me life count) answered

pub record RouterOnce (answered : List Answered) (r : Router) : Type 0 where
  pub different : AreDifferentCounts (counts_of r.requests)
  pub silent : AllByRecursion (λ (q : Open). IsSilent answered r.me r.life q.count) r.requests

-- what a step of a router shows, with these replies
pub record RepliesOnce (asked : List Asked) (answered news : List Answered) (at : ℕ) (q : Router) : Type 0 where
  pub node : RouterOnce (answered ++ news) q
  pub here : AllByRecursion (λ (t : Answered). t.id.router ≡ at) news
  pub told : AllByRecursion (λ (t : Answered). IsIn t.id (ids_asked asked)) news
  pub once : AreDifferent (ids_told (answered ++ news))

pub record StepOnce (asked : List Asked) (answered : List Answered) (now at : ℕ) (f : Effect) (q : Router) : Type 0 where
  pub all : RepliesOnce (asked ++ asked_by now f.taken) answered (answered_by now f.replies) at q

pub id_asked : (a : Asked) (asked : List Asked) → IsIn a asked → IsIn a.id (ids_asked asked)
id_asked a asked (prefix, back, same) =
    subst (λ l. IsIn a.id (ids_asked l)) (sym same) (ids_asked prefix, ids_asked back, joined prefix)
  where
    joined : (rest : List Asked) → ids_asked (rest ++ a ∷ back) ≡ ids_asked rest ++ a.id ∷ ids_asked back
    joined [] = refl
    joined (b ∷ rest) = ap (λ l. b.id ∷ l) (joined rest)

-- one open request more, with another count
counts_push : (requests : List Open) (q : Open) → AreDifferentCounts (counts_of requests) → AllByRecursion (λ (p : Open). p.count ≢ q.count) requests
    → AreDifferentCounts (counts_of (requests ++ q ∷ []))
counts_push [] q different apart = (tt, tt)
counts_push (p ∷ requests) q different apart = (joined requests different.0, counts_push requests q different.1 apart.1)
  where
    joined : (rest : List Open) → AllByRecursion (λ n. n ≢ p.count) (counts_of rest) → AllByRecursion (λ n. n ≢ p.count) (counts_of (rest ++ q ∷ []))
    joined [] all = ((λ e. apart.0 (sym e)), tt)
    joined (x ∷ rest) all = (all.0, joined rest all.1)

-- what becomes of requests that were not answered
left_silent : (r : Router) (answered : List Answered) (next : Open → Next) → ((q : Open) → KeepsCount r q (next q)) → (requests : List Open)
    → AllByRecursion (λ (q : Open). IsSilent answered r.me r.life q.count) requests
    → AllByRecursion (λ (q : Open). IsSilent answered r.me r.life q.count) (left_by next requests)
left_silent r answered next keeps [] all = tt
left_silent r answered next keeps (q ∷ requests) all = by_next (next q) (keeps q) (left_silent r answered next keeps requests all.1)
  where
    by_next : (n : Next) → KeepsCount r q n → AllByRecursion (λ (q : Open). IsSilent answered r.me r.life q.count) (left_by next requests)
        → AllByRecursion (λ (q : Open). IsSilent answered r.me r.life q.count) (stay_in n ++ left_by next requests)
    by_next (stays p letters) same rest = (subst (λ c. IsSilent answered r.me r.life c) (sym same) all.0, rest)
    by_next (is_told reply) same rest = rest

-- work that is refused or given up
goes_keep : (again : Type 0) (r : Router) (time : ℕ) (q : Open) (next : Next) → GoesOn again r time q next → KeepsCount r q next
goes_keep again r time q _ (write_goes asks kind ordered statements c d is after) =
    keeps_count r time q _ (write_keeps r time r.tables asks [] q kind ordered statements d)
goes_keep again r time q _ (read_goes later met named at stages telling is waits) =
    keeps_count r time (also_tried q met) _ (read_keeps r time r.tables true (also_tried q met) named at stages telling)
goes_keep again r time q _ (is_answered answer plain) = refl

stay_or_go : (r : Router) (time : ℕ) (q : Open) (mail next : Next) → KeepsCount r q mail → StaysOrGoes r time q mail next → KeepsCount r q next
stay_or_go r time q mail _ same just_stays = same
stay_or_go r time q mail _ same (goes_on_so next goes) = goes_keep ⊥ r time q next goes

module _ (asked : List Asked) (history : List Entry) (answered : List Answered) (now at : ℕ) (r : Router) (mine : RouterStays asked history at r)
    (own : RouterOnce answered r) (told : AllByRecursion (λ (t : Answered). IsIn t.id (ids_asked asked)) answered)
    (once : AreDifferent (ids_told answered)) where
  -- a reply to an open request
  abbrev IsHere : Answered → Type 0
  IsHere t = (x : Open) × IsIn x r.requests × (t.id ≡ id_of r x.count)

  -- requests that stay open, and others that are answered
  parted_all : (f : Effect) (q : Router) → f.taken ≡ [] → q.me ≡ r.me → q.life ≡ r.life → IsParted r r.requests q.requests (answered_by now f.replies)
      → AllByRecursion (λ (p : Open). IsSilent answered r.me r.life p.count) q.requests
      → RepliesOnce (asked ++ asked_by now f.taken) answered (answered_by now f.replies) at q
  parted_all f q none me life p quiet =
      let news : List Answered = answered_by now f.replies in
      let same : asked ≡ asked ++ asked_by now f.taken = sym (append-nil asked) ∙ ap (λ l. asked ++ asked_by now l) (sym none) in
      record {
        node = record {
          different = p.different;
          silent = all_both (λ (x : Open). IsSilent answered r.me r.life x.count)
              (λ (x : Open). AllByRecursion (λ (t : Answered). t.id ≢ id_of r x.count) (answered_by now f.replies))
              (λ (x : Open). IsSilent (answered ++ answered_by now f.replies) q.me q.life x.count) q.requests
              (λ x old new. subst (λ n. IsSilent (answered ++ answered_by now f.replies) n q.life x.count) (sym me)
              (subst (λ n. IsSilent (answered ++ answered_by now f.replies) r.me n x.count) (sym life)
              (all_append (λ (t : Answered). t.id ≢ id_in r.me r.life x.count) answered (answered_by now f.replies) old new))) quiet p.silent;
        };
        here = all_weaken IsHere (λ (t : Answered). t.id.router ≡ at) news (λ t h. ap (λ (i : RequestId). i.router) h.2 ∙ mine.own) p.own;
        told = subst (λ l. AllByRecursion (λ (t : Answered). IsIn t.id (ids_asked l)) (answered_by now f.replies)) same
            (all_weaken IsHere (λ (t : Answered). IsIn t.id (ids_asked asked)) (answered_by now f.replies) (λ t h. was_asked t h.0 h.1 h.2) p.own);
        once = once_more answered (answered_by now f.replies) once p.apart
            (all_weaken IsHere (λ (t : Answered). AllByRecursion (λ (x : Answered). x.id ≢ t.id) answered) (answered_by now f.replies)
            (λ t h. subst (λ i. AllByRecursion (λ (x : Answered). x.id ≢ i) answered) (sym h.2)
            (all_at (λ (x : Open). IsSilent answered r.me r.life x.count) h.0 r.requests own.silent h.1)) p.own);
      }
    where
      was_asked : (t : Answered) (x : Open) → IsIn x r.requests → t.id ≡ id_of r x.count → IsIn t.id (ids_asked asked)
      was_asked t x i same =
          let o = all_at (OpenStays asked history r.me r.life) x r.requests mine.requests i in
          subst (λ n. IsIn n (ids_asked asked)) (o.own ∙ sym same) (id_asked o.request asked o.taken)

  parted : (f : Effect) (q : Router) → f.taken ≡ [] → q.me ≡ r.me → q.life ≡ r.life → IsParted r r.requests q.requests (answered_by now f.replies)
      → AllByRecursion (λ (p : Open). IsSilent answered r.me r.life p.count) q.requests
      → StepOnce asked answered now at f q
  parted f q none me life p quiet = record { all = parted_all f q none me life p quiet }

  -- none is answered
  none_told_all : (f : Effect) (q : Router) → f.taken ≡ [] → f.replies ≡ [] → q.me ≡ r.me → q.life ≡ r.life → AreDifferentCounts (counts_of q.requests)
      → AllByRecursion (λ (p : Open). IsSilent answered r.me r.life p.count) q.requests
      → RepliesOnce (asked ++ asked_by now f.taken) answered (answered_by now f.replies) at q
  none_told_all f q none quiet me life different silent =
      let same : asked ≡ asked ++ asked_by now f.taken = sym (append-nil asked) ∙ ap (λ l. asked ++ asked_by now l) (sym none) in
      subst (λ l. RepliesOnce (asked ++ asked_by now f.taken) answered (answered_by now l) at q) (sym quiet) (record {
        node = record {
          different = different;
          silent = subst (λ l. AllByRecursion (λ (p : Open). IsSilent l q.me q.life p.count) q.requests) (sym (append-nil answered))
              (subst (λ n. AllByRecursion (λ (p : Open). IsSilent answered n q.life p.count) q.requests) (sym me)
              (subst (λ n. AllByRecursion (λ (p : Open). IsSilent answered r.me n p.count) q.requests) (sym life) silent));
        };
        here = tt;
        told = tt;
        once = subst (λ l. AreDifferent (ids_told l)) (sym (append-nil answered)) once;
      })

  none_told : (f : Effect) (q : Router) → f.taken ≡ [] → f.replies ≡ [] → q.me ≡ r.me → q.life ≡ r.life → AreDifferentCounts (counts_of q.requests)
      → AllByRecursion (λ (p : Open). IsSilent answered r.me r.life p.count) q.requests
      → StepOnce asked answered now at f q
  none_told f q none quiet me life different silent = record { all = none_told_all f q none quiet me life different silent }

  -- A REQUEST COMES

  new_id : r.begun ≡ true → AreDifferent (ids_asked asked) → AllByRecursion (λ i. i ≢ id_of r (r.count + 1)) (ids_asked asked)
  new_id begun one =
      all_mapped (λ i. i ≢ id_of r (r.count + 1)) (λ (a : Asked). a.id) asked (new_number asked history now at r mine one begun)

  new_silent : r.begun ≡ true → AreDifferent (ids_asked asked) → IsSilent answered r.me r.life (r.count + 1)
  new_silent begun one =
      all_weaken (λ (t : Answered). IsIn t.id (ids_asked asked)) (λ (t : Answered). t.id ≢ id_of r (r.count + 1)) answered
      (λ t i e. all_at (λ n. n ≢ id_of r (r.count + 1)) t.id (ids_asked asked) (new_id begun one) i e) told

  -- an open request has another number
  other_open : r.begun ≡ true → AreDifferent (ids_asked asked) → AllByRecursion (λ (p : Open). id_of r (r.count + 1) ≢ id_of r p.count) r.requests
  other_open begun one =
      all_weaken (OpenStays asked history r.me r.life) (λ (p : Open). id_of r (r.count + 1) ≢ id_of r p.count) r.requests
      (λ p o e. all_at (λ n. n ≢ id_of r (r.count + 1)) o.request.id (ids_asked asked) (new_id begun one) (id_asked o.request asked o.taken) (o.own ∙ sym e))
      mine.requests

  -- the router after it took a request: it is answered at once
  answers_all : r.begun ≡ true → AreDifferent (ids_asked asked) → (f : Effect) (q : Router) (x : Reply) (a : Asked) → asked_by now f.taken ≡ a ∷ []
      → a.id ≡ id_of r (r.count + 1) → f.replies ≡ x ∷ [] → x.id ≡ id_of r (r.count + 1) → q.me ≡ r.me → q.life ≡ r.life → q.requests ≡ r.requests ++ []
      → RepliesOnce (asked ++ asked_by now f.taken) answered (answered_by now f.replies) at q
  answers_all begun one f q x a takes asks replies number me life requests =
      subst (λ l. RepliesOnce (asked ++ l) answered (answered_by now f.replies) at q) (sym takes)
      (subst (λ l. RepliesOnce (asked ++ a ∷ []) answered (answered_by now l) at q) (sym replies) (record {
        node = record {
          different = subst (λ l. AreDifferentCounts (counts_of l)) same own.different;
          silent = subst (λ l. AllByRecursion (λ (p : Open). IsSilent (answered ++ as_answered now x ∷ []) q.me q.life p.count) l) same
              (subst (λ n. AllByRecursion (λ (p : Open). IsSilent (answered ++ as_answered now x ∷ []) n q.life p.count) r.requests) (sym me)
              (subst (λ n. AllByRecursion (λ (p : Open). IsSilent (answered ++ as_answered now x ∷ []) r.me n p.count) r.requests) (sym life)
              (all_both (λ (p : Open). IsSilent answered r.me r.life p.count) (λ (p : Open). id_of r (r.count + 1) ≢ id_of r p.count)
              (λ (p : Open). IsSilent (answered ++ as_answered now x ∷ []) r.me r.life p.count) r.requests
              (λ p old other. all_append (λ (t : Answered). t.id ≢ id_in r.me r.life p.count) answered (as_answered now x ∷ []) old
              ((λ e. other (sym number ∙ e)), tt)) own.silent (other_open begun one))));
        };
        here = (ap (λ (i : RequestId). i.router) number ∙ mine.own, tt);
        told = (
          subst (λ i. IsIn i (ids_asked (asked ++ a ∷ []))) (asks ∙ sym number) (id_asked a (asked ++ a ∷ []) (in_back a asked (a ∷ []) (in_first a []))),
          tt,
        );
        once = once_more answered (as_answered now x ∷ []) once (tt, tt)
            (subst (λ i. AllByRecursion (λ (t : Answered). t.id ≢ i) answered) (sym number) (new_silent begun one), tt);
      }))
    where
      same : r.requests ≡ q.requests
      same = sym (append-nil r.requests) ∙ sym requests

  answers : r.begun ≡ true → AreDifferent (ids_asked asked) → (f : Effect) (q : Router) (x : Reply) (a : Asked) → asked_by now f.taken ≡ a ∷ []
      → a.id ≡ id_of r (r.count + 1) → f.replies ≡ x ∷ [] → x.id ≡ id_of r (r.count + 1) → q.me ≡ r.me → q.life ≡ r.life → q.requests ≡ r.requests ++ []
      → StepOnce asked answered now at f q
  answers begun one f q x a takes asks replies number me life requests =
      record { all = answers_all begun one f q x a takes asks replies number me life requests }

  -- or it stays open
  opens_all : r.begun ≡ true → AreDifferent (ids_asked asked) → (f : Effect) (q : Router) (p : Open) → f.replies ≡ [] → p.count ≡ r.count + 1 → q.me ≡ r.me
      → q.life ≡ r.life → q.requests ≡ r.requests ++ p ∷ []
      → RepliesOnce (asked ++ asked_by now f.taken) answered (answered_by now f.replies) at q
  opens_all begun one f q p quiet count me life requests =
      subst (λ l. RepliesOnce (asked ++ asked_by now f.taken) answered (answered_by now l) at q) (sym quiet) (record {
        node = record {
          different = subst (λ l. AreDifferentCounts (counts_of l)) (sym requests)
              (counts_push r.requests p own.different
              (all_weaken (λ (y : Open). id_of r (r.count + 1) ≢ id_of r y.count) (λ (y : Open). y.count ≢ p.count) r.requests
              (λ y other e. other (ap (λ c. id_of r c) (sym (e ∙ count)))) (other_open begun one)));
          silent = subst (λ l. AllByRecursion (λ (y : Open). IsSilent (answered ++ []) q.me q.life y.count) l) (sym requests)
              (subst (λ l. AllByRecursion (λ (y : Open). IsSilent l q.me q.life y.count) (r.requests ++ p ∷ [])) (sym (append-nil answered))
              (subst (λ n. AllByRecursion (λ (y : Open). IsSilent answered n q.life y.count) (r.requests ++ p ∷ [])) (sym me)
              (subst (λ n. AllByRecursion (λ (y : Open). IsSilent answered r.me n y.count) (r.requests ++ p ∷ [])) (sym life)
              (all_append (λ (y : Open). IsSilent answered r.me r.life y.count) r.requests (p ∷ []) own.silent
              (subst (λ c. IsSilent answered r.me r.life c) (sym count) (new_silent begun one), tt)))));
        };
        here = tt;
        told = tt;
        once = subst (λ l. AreDifferent (ids_told l)) (sym (append-nil answered)) once;
      })

  opens : r.begun ≡ true → AreDifferent (ids_asked asked) → (f : Effect) (q : Router) (p : Open) → f.replies ≡ [] → p.count ≡ r.count + 1 → q.me ≡ r.me
      → q.life ≡ r.life → q.requests ≡ r.requests ++ p ∷ []
      → StepOnce asked answered now at f q
  opens begun one f q p quiet count me life requests = record { all = opens_all begun one f q p quiet count me life requests }

  -- an open request is answered, or proceeds
  closes : (f : Effect) (q : Router) (x : Reply) (p : Open) (id : RequestId) → open_of r id ≡ Some p → f.taken ≡ [] → f.replies ≡ x ∷ []
      → x.id ≡ id_of r p.count → q.me ≡ r.me → q.life ≡ r.life → q.requests ≡ without p.count r.requests
      → StepOnce asked answered now at f q
  closes f q x p id found none replies number me life requests =
      let place = open_of_found r id p found in
      parted f q none me life
      (subst (λ l. IsParted r r.requests q.requests (answered_by now l)) (sym replies)
      (subst (λ l. IsParted r r.requests l (as_answered now x ∷ [])) (sym requests)
      (parted_without r p (as_answered now x) r.requests own.different place.stands number)))
      (subst (λ l. AllByRecursion (λ (y : Open). IsSilent answered r.me r.life y.count) l) (sym requests)
      (all_without (λ (y : Open). IsSilent answered r.me r.life y.count) p.count r.requests own.silent))

  goes_on_with : (f : Effect) (q : Router) (p y : Open) (id : RequestId) → open_of r id ≡ Some p → y.count ≡ p.count → f.taken ≡ [] → f.replies ≡ [] → q.me ≡ r.me
      → q.life ≡ r.life → q.requests ≡ replaced y r.requests
      → StepOnce asked answered now at f q
  goes_on_with f q p y id found count none quiet me life requests =
      let place = open_of_found r id p found in
      parted f q none me life
      (subst (λ l. IsParted r r.requests q.requests (answered_by now l)) (sym quiet)
      (subst (λ l. IsParted r r.requests l []) (sym requests) (parted_replaced r y r.requests own.different)))
      (subst (λ l. AllByRecursion (λ (z : Open). IsSilent answered r.me r.life z.count) l) (sym requests)
      (all_replaced (λ (z : Open). IsSilent answered r.me r.life z.count) y r.requests
      (subst (λ c. IsSilent answered r.me r.life c) (sym count)
      (all_at (λ (z : Open). IsSilent answered r.me r.life z.count) p r.requests own.silent place.stands))
      (all_weaken (λ (z : Open). IsSilent answered r.me r.life z.count) (λ (z : Open). z.count ≢ y.count → IsSilent answered r.me r.life z.count) r.requests
      (λ z h apart. h) own.silent)))

  -- or what becomes of it
  continues : (p : Open) (next : Next) (id : RequestId) (time : ℕ) → open_of r id ≡ Some p → KeepsCount r p next
      → StepOnce asked answered now at (goes_on next) (knows r time r.tables (after_next p next r.requests))
  continues p (stays y letters) id time found count = goes_on_with _ _ p y id found count refl refl refl refl refl
  continues p (is_told x) id time found number = closes _ _ x p id found refl refl number refl refl refl

  -- of a request that comes
  comes : r.begun ≡ true → AreDifferent (ids_asked asked) → (taken : Taken) → taken.id ≡ id_of r (r.count + 1) → (p : Open) → p.count ≡ r.count + 1
      → (next : Next) → KeepsCount r p next
      → StepOnce asked answered now at (record { written = []; mail = letters_in next; taken = taken ∷ []; replies = replies_in next; away = [] }) (takes r (stay_in next))
  comes begun one taken own p count (stays y letters) same = opens begun one _ _ y refl (same ∙ count) refl refl refl
  comes begun one taken own p count (is_told x) same = answers begun one _ _ x _ refl own refl (same ∙ ap (λ n. id_of r n) count) refl refl refl

-- ALL TRANSITIONS

pub router_once : (asked : List Asked) (history : List Entry) (answered : List Answered) (now at : ℕ) (r q : Router) (i : Input) (f : Effect)
    → RouterStays asked history at r → AreDifferent (ids_asked asked) → RouterOnce answered r
    → AllByRecursion (λ (t : Answered). IsIn t.id (ids_asked asked)) answered → AreDifferent (ids_told answered) → RouterRow r i f q
    → StepOnce asked answered now at f q
router_once asked history answered now at _ _ _ _ mine one own told once (router_begin r not_begun) =
    none_told asked history answered now at r mine own told once _ (begins r) refl refl refl refl own.different own.silent
router_once asked history answered now at _ _ _ _ mine one own told once (router_opened r begun) =
    none_told asked history answered now at r mine own told once _ r refl refl refl refl own.different own.silent
router_once asked history answered now at _ _ _ _ mine one own told once (router_plain r link number request answer begun plan) =
    answers asked history answered now at r mine own told once begun one _ _ _ _ refl refl refl refl refl refl refl
router_once asked history answered now at _ _ _ _ mine one own told once (router_more r link number request more c batch next begun plan found shows) =
    answers asked history answered now at r mine own told once begun one _ _ _ _ refl refl refl refl refl refl refl
router_once asked history answered now at _ _ _ _ mine one own told once (router_no_cursor r link number request more begun plan none) =
    answers asked history answered now at r mine own told once begun one _ _ _ _ refl refl refl refl refl refl refl
router_once asked history answered now at _ _ _ _ mine one own told once (router_kill r link number request kill killed missing next begun plan ends) =
    answers asked history answered now at r mine own told once begun one _ _ _ _ refl refl refl refl refl refl refl
router_once asked history answered now at _ _ _ _ mine one own told once (router_take r link number request namespace work begun plan) =
    comes asked history answered now at r mine own told once begun one (taken_now r link number request) refl
    (opened_request r link number request namespace work) refl (begins_work r r.time (opened_request r link number request namespace work) work)
    (keeps_count r r.time (opened_request r link number request namespace work)
    (begins_work r r.time (opened_request r link number request namespace work) work)
    (begins_keeps r r.time (opened_request r link number request namespace work) work))
router_once asked history answered now at _ _ _ _ mine one own told once (router_learn r m namespace create at_told table tells) =
    let next : (q : Open) → Next = λ q. next_of r (heard r m) (adopted table r.tables) namespace (was_created create table) at_told q in
    let keeps : (q : Open) → KeepsCount r q (next q) = λ q. keeps_count r (heard r m) q (next q)
    (next_keeps r (heard r m) (adopted table r.tables) namespace (was_created create table) at_told q) in
    parted asked history answered now at r mine own told once _ _ refl refl refl (parted_next r now next keeps r.requests own.different)
    (left_silent r answered next keeps r.requests own.silent)
router_once asked history answered now at _ _ _ _ mine one own told once (router_split r m id q middle tells found work) =
    closes asked history answered now at r mine own told once _ _ _ q id found refl refl refl refl refl refl
router_once asked history answered now at _ _ _ _ mine one own told once (router_not_sharded r m id q middle tells found work) =
    closes asked history answered now at r mine own told once _ _ _ q id found refl refl refl refl refl refl
router_once asked history answered now at _ _ _ _ mine one own told once (router_reach r m id q named time stages telling tells found work waits past) =
    continues asked history answered now at r mine own told once q (begins_work r (heard r m) q (reached (heard r m) q.work)) id (heard r m) found
    (keeps_count r (heard r m) q (begins_work r (heard r m) q (reached (heard r m) q.work)) (begins_keeps r (heard r m) q (reached (heard r m) q.work)))
router_once asked history answered now at _ _ _ _ mine one own told once (router_hear r m id q named time stages telling tells found work waits ahead some) =
    goes_on_with asked history answered now at r mine own told once _ _ q _ id found refl refl refl refl refl refl
router_once asked history answered now at _ _ _ _ mine one own told once (router_ahead r m id q named time stages telling tells found work waits ahead all) =
    closes asked history answered now at r mine own told once _ _ _ q id found refl refl refl refl refl refl
router_once asked history answered now at _ _ _ _ mine one own told once
    (router_note r m id dones q kind ordered statements c next tells found work news is) =
    continues asked history answered now at r mine own told once q next id (heard r m) found
    (subst (λ x. KeepsCount r q x) (sym is)
    (keeps_count r (heard r m) q (write_on r (heard r m) r.tables ordered (served_in_part (noted ordered c.answers dones) c.runs) q kind ordered statements
    (settled c (noted ordered c.answers dones)))
    (write_keeps r (heard r m) r.tables ordered (served_in_part (noted ordered c.answers dones) c.runs) q kind ordered statements
    (settled c (noted ordered c.answers dones)))))
router_once asked history answered now at _ _ _ _ mine one own told once (router_part r m id rows q named time stages telling tells found work target some) =
    goes_on_with asked history answered now at r mine own told once _ _ q _ id found refl refl refl refl refl refl
router_once asked history answered now at _ _ _ _ mine one own told once
    (router_read r m id rows q named time stages telling parts out answer f tells found work target whole got merges shown) =
    closes asked history answered now at r mine own told once _ _ _ q id found refl refl refl refl refl refl
router_once asked history answered now at _ _ _ _ mine one own told once
    (router_excess r m id rows n q named time stages telling tells found work target whole got) =
    closes asked history answered now at r mine own told once _ _ _ q id found refl refl refl refl refl refl
router_once asked history answered now at _ _ _ _ mine one own told once
    (router_overflow r m id rows q named time stages telling tells found work target whole got) =
    closes asked history answered now at r mine own told once _ _ _ q id found refl refl refl refl refl refl
router_once asked history answered now at _ _ _ _ mine one own told once (router_late r m late) =
    none_told asked history answered now at r mine own told once _ _ refl refl refl refl own.different own.silent
router_once asked history answered now at _ _ _ _ mine one own told once (router_refused r m id turn first cause q next tells found is) =
    continues asked history answered now at r mine own told once q next id (heard r m) found
    (goes_keep (IsLaterTable cause) r (heard r m) q next (refused_goes r (heard r m) q m.sender turn first cause next is))
router_once asked history answered now at _ _ _ _ mine one own told once (router_no_table r m namespace create at_told node lack tells) =
    let next : (q : Open) → Next = table_refused r (heard r m) namespace create at_told (lack_refusal node lack) in
    let keeps : (q : Open) → KeepsCount r q (next q) = λ q. stay_or_go r (heard r m) q (stays q []) (next q) refl
    (table_refused_goes r (heard r m) q namespace create at_told (lack_refusal node lack) (says_lacking node lack)) in
    parted asked history answered now at r mine own told once _ _ refl refl refl (parted_next r now next keeps r.requests own.different)
    (left_silent r answered next keeps r.requests own.silent)
router_once asked history answered now at _ _ _ _ mine one own told once (router_skip r m none) =
    none_told asked history answered now at r mine own told once _ r refl refl refl refl own.different own.silent
router_once asked history answered now at _ _ _ _ mine one own told once (router_moment r moment begun) =
    let time : ℕ = max r.time (time_of_moment moment) in
    let next : (q : Open) → Next = at_moment r time moment in
    let keeps : (q : Open) → KeepsCount r q (next q) = λ q. stay_or_go r time q (stays q (asks_again r time q)) (next q) refl (moment_goes r time q moment) in
    parted asked history answered now at r mine own told once _ _ refl refl refl (parted_next r now next keeps r.requests own.different)
    (left_silent r answered next keeps r.requests own.silent)
