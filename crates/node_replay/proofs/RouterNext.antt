-- Each transition of a router keeps the facts that stay: the rows.
use Rattle.std.proofs.Common.{◌≡◌, ◌≢◌, inl, inr, ℕ, ℤ, ◌+◌, ◌≤◌, List, [], ◌∷◌, ◌++◌, refl, sym, ap, subst, ◌∙◌, arith, append-nil}
use Rattle.std.specs.Prelude.{Bool, true, false, Some, Ok, Result}
use Rattle.std.specs.List.{AllByRecursion, flat_map}
use Rattle.base_model.specs.Identities.{RequestId}
use Rattle.command_model.specs.Answers.{Answer, answer_document}
use Rattle.command_model.specs.Command.{write_command, command_of}
use Rattle.command_model.specs.Writes.{WriteKind}
use Rattle.history_model.proofs.Lists.{all_weaken, all_append, all_at, in_back, in_first, in_prefix}
use Rattle.pipeline_model.specs.Halves.{Rows}
use Rattle.history_model.specs.History.{Entry}
use Rattle.reply_model.specs.Requests.{Request}
use Rattle.pipeline_model.specs.Stages.{Stage}
use Rattle.bson_model.specs.Tree.{Datum}
use Rattle.reply_model.specs.Exchanges.{Asked}
use Rattle.reply_model.specs.OneHistory.{ids_asked, AreDifferent}
use Rattle.reply_model.specs.Outcomes.{Done}
use Rattle.node_model.specs.Letters.{Statement, HalfFault, Effect}
use Rattle.node_model.specs.RouterRequests.{id_of}
use Rattle.node_model.specs.RouterNext.{noted, settled, begins_work, Next, stays, is_told, stay_in, letters_in, replies_in, after_next, with_told, with_part}
use Rattle.node_model.specs.RouterRows.{open_of, begins, takes, go_on, opened_request, taken_now}
use Rattle.node_model.specs.States.{Course, Telling, Work, writing, reading, splitting, Open, Router, without, replaced}
use Rattle.node_model.specs.World.{asked_by}
use Rattle.node_laws.proofs.Facts.{IsBy}
use Rattle.node_laws.proofs.NextRequests.{each_next}
use Rattle.node_laws.proofs.OpenFacts.{by_weaken}
use Rattle.node_laws.proofs.OpenRequests.{open_of_found, all_without, all_replaced}
use Rattle.node_laws.proofs.RouterAnswers.{as_answered, same_write}
use Rattle.node_laws.proofs.Outcomes.{noted_long, noted_more}
use Rattle.reply_facts.proofs.Requests.{one_asked}
use Rattle.node_replay.specs.Acknowledged.{IsOutcomeAt, IsStored}
use Rattle.node_replay.proofs.NextOnes.{one_later}
use Rattle.node_replay.proofs.StayFacts.{AreDone, LetterStays, IsNoWrite, WorkStays, OpenStays, RouterStays, Grows, open_grows}
use Rattle.node_replay.proofs.Noted.{IsPrefix, all_noted, noted_prefix}
use Rattle.node_replay.proofs.RouterStays.{IsOwn, IsTold, split_no_write, Becomes, begins_becomes}

-- what a step of a router has to show, for what was requested after it
pub record RouterNext (asked : List Asked) (history : List Entry) (now at : ℕ) (f : Effect) (q : Router) : Type 0 where
  pub node : RouterStays asked history at q
  pub letters : AllByRecursion (LetterStays asked history) f.mail
  pub told : AllByRecursion (λ x. IsStored history (as_answered now x)) f.replies

-- with no request, or with one that is new
pub record RouterSteps (asked : List Asked) (history : List Entry) (now at : ℕ) (f : Effect) (q : Router) : Type 0 where
  pub next : RouterNext (asked ++ asked_by now f.taken) history now at f q
  pub one : AreDifferent (ids_asked (asked ++ asked_by now f.taken))
  pub here : AllByRecursion (λ (a : Asked). a.id.router ≡ at) (asked_by now f.taken)

-- LISTS

one_more : (asked : List Asked) (a : Asked) → AreDifferent (ids_asked asked) → AllByRecursion (λ (b : Asked). b.id ≢ a.id) asked
    → AreDifferent (ids_asked (asked ++ a ∷ []))
one_more [] a different new = (tt, tt)
one_more (b ∷ asked) a different new = (joined asked different.0, one_more asked a different.1 new.1)
  where
    joined : (rest : List Asked) → AllByRecursion (λ other. ¬ (other ≡ b.id)) (ids_asked rest)
        → AllByRecursion (λ other. ¬ (other ≡ b.id)) (ids_asked (rest ++ a ∷ []))
    joined [] all = ((λ e. new.0 (sym e)), tt)
    joined (c ∷ rest) all = (all.0, joined rest all.1)

-- TRANSITIONS

module _ (asked : List Asked) (history : List Entry) (now at : ℕ) (r : Router) (mine : RouterStays asked history at r)
    (one : AreDifferent (ids_asked asked)) where
  -- a step that takes no request
  pub no_request : (f : Effect) (q : Router) → f.taken ≡ [] → RouterNext asked history now at f q → RouterSteps asked history now at f q
  no_request f q none next =
      let same : asked ≡ asked ++ asked_by now f.taken = sym (append-nil asked) ∙ ap (λ l. asked ++ asked_by now l) (sym none) in
      record {
        next = subst (λ l. RouterNext l history now at f q) same next;
        one = subst (λ l. AreDifferent (ids_asked l)) same one;
        here = subst (λ l. AllByRecursion (λ (a : Asked). a.id.router ≡ at) (asked_by now l)) (sym none) tt;
      }

  -- the router in the same life, with the same count of requests
  in_place : (q : Router) → q.me ≡ r.me → q.life ≡ r.life → q.begun ≡ r.begun → q.count ≡ r.count
      → AllByRecursion (OpenStays asked history q.me q.life) q.requests → RouterStays asked history at q
  in_place q me life begun count requests = record {
    own = me ∙ mine.own;
    place = mine.place;
    requests = requests;
    counted = all_weaken (λ (a : Asked). a.id.router ≡ at → IsBy a.id.life r.life r.begun (a.id.count ≤ r.count))
        (λ (a : Asked). a.id.router ≡ at → IsBy a.id.life q.life q.begun (a.id.count ≤ q.count)) asked
        (λ a c e. subst (λ n. IsBy a.id.life n q.begun (a.id.count ≤ q.count)) (sym life)
        (subst (λ b. IsBy a.id.life r.life b (a.id.count ≤ q.count)) (sym begun)
        (subst (λ n. IsBy a.id.life r.life r.begun (a.id.count ≤ n)) (sym count) (c e)))) mine.counted;
  }

  pub still : (f : Effect) (q : Router) → f.taken ≡ [] → q.me ≡ r.me → q.life ≡ r.life → q.begun ≡ r.begun → q.count ≡ r.count
      → AllByRecursion (OpenStays asked history q.me q.life) q.requests → AllByRecursion (LetterStays asked history) f.mail
      → AllByRecursion (IsTold asked history now r) f.replies → RouterSteps asked history now at f q
  still f q none me life begun count requests letters told =
      no_request f q none (record { node = in_place q me life begun count requests; letters = letters; told = told })

  -- the open request with a number
  pub found : (id : RequestId) (q : Open) → open_of r id ≡ Some q → IsOwn asked history now r q
  found id q opens_here = all_at (IsOwn asked history now r) q r.requests mine.requests (open_of_found r id q opens_here).stands

  pub closed : (q : Open) → AllByRecursion (IsOwn asked history now r) (without q.count r.requests)
  closed q = all_without (IsOwn asked history now r) q.count r.requests mine.requests

  -- what becomes of it
  pub becomes : (q : Open) (next : Next) → Becomes asked history now r next → AllByRecursion (IsOwn asked history now r) (after_next q next r.requests)
      × AllByRecursion (LetterStays asked history) (letters_in next) × AllByRecursion (IsTold asked history now r) (replies_in next)
  becomes q (stays p letters) b = (
    all_replaced (IsOwn asked history now r) p r.requests b.0
        (all_weaken (IsOwn asked history now r) (λ (x : Open). x.count ≢ p.count → IsOwn asked history now r x) r.requests (λ x o apart. o) mine.requests),
    b.1,
    tt,
  )
  becomes q (is_told reply) b = (closed q, tt, (b, tt))

  -- what becomes of each
  pub each_goes : (time : ℕ) (next : Open → Next) → ((q : Open) → IsOwn asked history now r q → Becomes asked history now r (next q)) → (s : Router) → s.me ≡ r.me
      → s.life ≡ r.life → s.begun ≡ r.begun → s.count ≡ r.count → s.requests ≡ flat_map (λ q. stay_in (next q)) r.requests
      → RouterSteps asked history now at (go_on next r.requests) s
  each_goes time next goes s me life begun count requests =
      let all : AllByRecursion (λ q. Becomes asked history now r (next q)) r.requests =
      all_weaken (IsOwn asked history now r) (λ q. Becomes asked history now r (next q)) r.requests goes mine.requests in
      let e = each_next (IsOwn asked history now r) (LetterStays asked history) (IsTold asked history now r) next r.requests all in
      still (go_on next r.requests) s refl me life begun count
      (subst (λ l. AllByRecursion (OpenStays asked history s.me s.life) l) (sym requests)
      (subst (λ n. AllByRecursion (OpenStays asked history s.me n) (flat_map (λ q. stay_in (next q)) r.requests)) (sym life)
      (subst (λ n. AllByRecursion (OpenStays asked history n r.life) (flat_map (λ q. stay_in (next q)) r.requests)) (sym me) e.stay))) e.ask e.tell

  -- it waits for the times of other shards
  pub hears : (q : Open) (shard : ℕ) → IsOwn asked history now r q
      → AllByRecursion (IsOwn asked history now r) (replaced (with_told q shard) r.requests)
  hears q shard o =
      all_replaced (IsOwn asked history now r) (with_told q shard) r.requests
      (record { request = o.request; taken = o.taken; own = o.own; asks = o.asks; work = o.work })
      (all_weaken (IsOwn asked history now r) (λ (p : Open). p.count ≢ q.count → IsOwn asked history now r p) r.requests (λ p o apart. o) mine.requests)

  -- or for the parts of other shards
  pub has_part : (q : Open) (shard : ℕ) (rows : Result Rows HalfFault) → IsOwn asked history now r q
      → AllByRecursion (IsOwn asked history now r) (replaced (with_part q shard rows) r.requests)
  has_part q shard rows o =
      all_replaced (IsOwn asked history now r) (with_part q shard rows) r.requests
      (record { request = o.request; taken = o.taken; own = o.own; asks = o.asks; work = o.work })
      (all_weaken (IsOwn asked history now r) (λ (p : Open). p.count ≢ q.count → IsOwn asked history now r p) r.requests (λ p o apart. o) mine.requests)

  -- a read goes on
  pub read_no_write : (q : Open) (named : Bool) (time : ℕ) (stages : List Stage) (telling : Telling) → q.work ≡ reading named time stages telling
      → IsOwn asked history now r q → IsNoWrite q.request
  read_no_write q named time stages telling is o = subst (λ w. WorkStays history (id_of r q.count) q.request q.namespace w) is o.work

  pub split_none : (q : Open) (middle : Datum) → q.work ≡ splitting middle → IsOwn asked history now r q → IsNoWrite q.request
  split_none q middle is o =
      split_no_write asked history now r q.request q.namespace middle (subst (λ w. WorkStays history (id_of r q.count) q.request q.namespace w) is o.work)

  -- outcomes that arrive are of the same write
  pub news : (id : RequestId) (dones : List Done) (q : Open) (kind : WriteKind) (ordered : Bool) (statements : List Statement) (c : Course)
      → open_of r id ≡ Some q → q.work ≡ writing kind ordered statements c → AreDone asked history id dones
      → WorkStays history (id_of r q.count) q.request q.namespace (writing kind ordered statements (settled c (noted ordered c.answers dones)))
  news id dones q kind ordered statements c opens_here is d =
      let o = found id q opens_here in
      let number : id ≡ id_of r q.count = (open_of_found r id q opens_here).own in
      let request : d.request ≡ o.request = one_asked d.request o.request asked one d.taken o.taken (d.own ∙ number ∙ sym o.own) in
      of_work (subst (λ x. WorkStays history (id_of r q.count) q.request q.namespace x) is o.work)
      (subst (λ i. AllByRecursion (IsOutcomeAt history d.write i) dones) number d.each)
      (ap (λ x. command_of x) (sym (ap (λ (a : Asked). a.request) request ∙ o.asks)) ∙ d.asks)
    where
      of_work : WorkStays history (id_of r q.count) q.request q.namespace (writing kind ordered statements c)
          → AllByRecursion (IsOutcomeAt history d.write (id_of r q.count)) dones → command_of q.request ≡ Ok (write_command d.write)
          → WorkStays history (id_of r q.count) q.request q.namespace (writing kind ordered statements (settled c (noted ordered c.answers dones)))
      of_work (own, asks, same, name, all, each, order, long, turns) new wants =
          let write : d.write ≡ own = same_write d.write own (command_of q.request) wants asks in (
            own,
            asks,
            same,
            name,
            all,
            all_noted (IsOutcomeAt history own (id_of r q.count)) ordered c.answers dones each
                (subst (λ x. AllByRecursion (IsOutcomeAt history x (id_of r q.count)) dones) write new),
            order,
            noted_long ordered c.answers dones ∙ long,
            λ in_order. (
              subst (λ b. IsPrefix (noted b c.answers dones)) (sym in_order) (noted_prefix c.answers dones (turns in_order).0),
              one_later statements c.answers (noted ordered c.answers dones) c.runs (noted_more ordered c.answers dones) (turns in_order).1,
            ),
          )

  -- a life begins: of a life that did not begin there is nothing
  pub begins_stays : r.begun ≡ false → RouterStays asked history at (begins r)
  begins_stays none = record {
    own = mine.own;
    place = mine.place;
    requests = mine.requests;
    counted = all_weaken (λ (a : Asked). a.id.router ≡ at → IsBy a.id.life r.life r.begun (a.id.count ≤ r.count))
        (λ (a : Asked). a.id.router ≡ at → IsBy a.id.life r.life true (a.id.count ≤ 0)) asked
        (λ a c e. before a.id.life r.begun (a.id.count ≤ r.count) (a.id.count ≤ 0) none (c e)) mine.counted;
  }
    where
      before : (life : ℕ) (begun : Bool) (P Q : Type 0) → begun ≡ false → IsBy life r.life begun P → IsBy life r.life true Q
      before life begun P Q none (inl less) = inl less
      before life begun P Q none (inr (e, is, p)) = absurd (cc)

  -- A REQUEST COMES

  pub new_number : r.begun ≡ true → AllByRecursion (λ (b : Asked). b.id ≢ id_of r (r.count + 1)) asked
  new_number begun =
      all_weaken (λ (a : Asked). a.id.router ≡ at → IsBy a.id.life r.life r.begun (a.id.count ≤ r.count)) (λ (b : Asked). b.id ≢ id_of r (r.count + 1)) asked
      (λ b c e. not_taken b.id.life b.id.count (c (ap (λ (i : RequestId). i.router) e ∙ mine.own)) (ap (λ (i : RequestId). i.life) e)
      (ap (λ (i : RequestId). i.count) e)) mine.counted
    where
      not_taken : (life count : ℕ) → IsBy life r.life r.begun (count ≤ r.count) → life ≡ r.life → count ≡ r.count + 1 → ⊥
      not_taken life count (inl less) a b = omega arith
      not_taken life count (inr (e, is, l)) a b = omega arith

  module _ (link : ℕ) (number : ℤ) (request : Request) (begun : r.begun ≡ true) where
    abbrev Came : Asked
    Came = record { id = id_of r (r.count + 1); link = link; number = number; came = now; time = r.time; moment = r.moment; request = request }

    grown : Grows asked (asked ++ Came ∷ []) history history
    grown = record { taken = λ a i. in_prefix a asked (Came ∷ []) i; stored = λ e i. i }

    -- what it has to do is known, where it stays open
    took : (f : Effect) (q : Router) (more : List Open) → f.taken ≡ taken_now r link number request ∷ [] → q.me ≡ r.me → q.life ≡ r.life → q.begun ≡ r.begun
        → q.count ≡ r.count + 1 → q.requests ≡ r.requests ++ more → AllByRecursion (IsOwn (asked ++ Came ∷ []) history now r) more
        → AllByRecursion (LetterStays (asked ++ Came ∷ []) history) f.mail → AllByRecursion (IsTold asked history now r) f.replies
        → RouterSteps asked history now at f q
    took f q more takes me life begun_same count requests opens letters told =
        let same : asked ++ Came ∷ [] ≡ asked ++ asked_by now f.taken = ap (λ l. asked ++ asked_by now l) (sym takes) in
        let own : AllByRecursion (IsOwn (asked ++ Came ∷ []) history now r) (r.requests ++ more) =
        all_append (IsOwn (asked ++ Came ∷ []) history now r) r.requests more
        (all_weaken (IsOwn asked history now r) (IsOwn (asked ++ Came ∷ []) history now r) r.requests
        (λ p o. open_grows asked (asked ++ Came ∷ []) history history grown r.me r.life p o) mine.requests) opens in
        record {
          next = subst (λ l. RouterNext l history now at f q) same (record {
            node = record {
              own = me ∙ mine.own;
              place = mine.place;
              requests = subst (λ l. AllByRecursion (OpenStays (asked ++ Came ∷ []) history q.me q.life) l) (sym requests)
                  (subst (λ n. AllByRecursion (OpenStays (asked ++ Came ∷ []) history q.me n) (r.requests ++ more)) (sym life)
                  (subst (λ n. AllByRecursion (OpenStays (asked ++ Came ∷ []) history n r.life) (r.requests ++ more)) (sym me) own));
              counted = counted q life begun_same count;
            };
            letters = letters;
            told = told;
          });
          one = subst (λ l. AreDifferent (ids_asked l)) same (one_more asked Came one (new_number begun));
          here = subst (λ l. AllByRecursion (λ (a : Asked). a.id.router ≡ at) (asked_by now l)) (sym takes) (mine.own, tt);
        }
      where
        counted : (q : Router) → q.life ≡ r.life → q.begun ≡ r.begun → q.count ≡ r.count + 1
            → AllByRecursion (λ (a : Asked). a.id.router ≡ at → IsBy a.id.life q.life q.begun (a.id.count ≤ q.count)) (asked ++ Came ∷ [])
        counted q life begun_same count =
            all_append (λ (a : Asked). a.id.router ≡ at → IsBy a.id.life q.life q.begun (a.id.count ≤ q.count)) asked (Came ∷ [])
            (all_weaken (λ (a : Asked). a.id.router ≡ at → IsBy a.id.life r.life r.begun (a.id.count ≤ r.count))
            (λ (a : Asked). a.id.router ≡ at → IsBy a.id.life q.life q.begun (a.id.count ≤ q.count)) asked
            (λ a c e. subst (λ n. IsBy a.id.life n q.begun (a.id.count ≤ q.count)) (sym life)
            (subst (λ b. IsBy a.id.life r.life b (a.id.count ≤ q.count)) (sym begun_same)
            (by_weaken a.id.life r.life r.begun (a.id.count ≤ r.count) (a.id.count ≤ q.count) (λ l. omega (arith, l, count)) (c e)))) mine.counted)
            ((λ e. inr (sym life, begun_same ∙ begun, omega (arith, count))), tt)

    -- it is answered at once
    pub at_once_stays : (f : Effect) (q : Router) → f.taken ≡ taken_now r link number request ∷ [] → q.me ≡ r.me → q.life ≡ r.life → q.begun ≡ r.begun
        → q.count ≡ r.count + 1 → q.requests ≡ r.requests ++ [] → f.mail ≡ [] → AllByRecursion (IsTold asked history now r) f.replies
        → RouterSteps asked history now at f q
    at_once_stays f q takes me life begun_same count requests none told =
        took f q [] takes me life begun_same count requests tt (subst (λ l. AllByRecursion (LetterStays (asked ++ Came ∷ []) history) l) (sym none) tt) told

    -- it has work to do
    opened : (namespace : List ℕ) (work : Work) → WorkStays history (id_of r (r.count + 1)) request namespace work
        → IsOwn (asked ++ Came ∷ []) history now r (opened_request r link number request namespace work)
    opened namespace work does = record {
      request = Came;
      taken = in_back Came asked (Came ∷ []) (in_first Came []);
      own = refl;
      asks = refl;
      work = does;
    }

    -- what becomes of it
    taken_stays : (namespace : List ℕ) (work : Work) (next : Next) → Becomes (asked ++ Came ∷ []) history now r next
        → RouterSteps asked history now at (record {
          written = [];
          mail = letters_in next;
          taken = taken_now r link number request ∷ [];
          replies = replies_in next;
          away = [];
        }) (takes r (stay_in next))
    taken_stays namespace work (stays q letters) b = took _ (takes r (q ∷ [])) (q ∷ []) refl refl refl refl refl refl (b.0, tt) b.1 tt
    taken_stays namespace work (is_told reply) b = took _ (takes r []) [] refl refl refl refl refl refl tt tt (b, tt)

    pub take_stays : (namespace : List ℕ) (work : Work) → WorkStays history (id_of r (r.count + 1)) request namespace work
        → RouterSteps asked history now at (record {
          written = [];
          mail = letters_in (begins_work r r.time (opened_request r link number request namespace work) work);
          taken = taken_now r link number request ∷ [];
          replies = replies_in (begins_work r r.time (opened_request r link number request namespace work) work);
          away = [];
        }) (takes r (stay_in (begins_work r r.time (opened_request r link number request namespace work) work)))
    take_stays namespace work does =
        taken_stays namespace work (begins_work r r.time (opened_request r link number request namespace work) work)
        (begins_becomes (asked ++ Came ∷ []) history now r r.time (opened_request r link number request namespace work) work (opened namespace work does) does)

    -- a request that is no write is answered
    pub no_write_told : (answer : Answer) → IsNoWrite request
        → IsTold asked history now r (record {
          id = id_of r (r.count + 1);
          link = link;
          number = number;
          request = request;
          time = r.time;
          document = answer_document answer;
        })
    no_write_told answer plain write asks = absurd (plain write asks)
