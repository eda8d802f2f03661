-- What open requests are, at a later time of their router and with other work.
use Rattle.std.proofs.Common.{◌≡◌, inl, inr, ℕ, ◌<◌, ◌≤◌, ◌≢◌, List, [], ◌++◌, refl, ap, subst, ◌∙◌, arith, append-nil, Bool}
use Rattle.std.specs.Prelude.{None, true, false, nat_lt}
use Rattle.std.specs.List.{AllByRecursion}
use Rattle.std.proofs.lemmas.Bool.{ltb-true, ltb-false}
use Rattle.history_model.proofs.Lists.{all_at}
use Rattle.base_model.specs.Identities.{RequestId}
use Rattle.history_model.specs.History.{IsIn}
use Rattle.reply_model.specs.Exchanges.{Asked, Answered}
use Rattle.node_model.specs.Letters.{Letter}
use Rattle.node_model.specs.States.{Target, Work, writing, reading, sharding, splitting, Wait, Open, Router}
use Rattle.node_model.specs.RouterRequests.{id_of}
use Rattle.node_model.specs.RouterNext.{with_work}
use Rattle.node_laws.proofs.Views.{View, chosen_time, Later}
use Rattle.node_laws.proofs.ReadFacts.{is_ahead}
use Rattle.node_laws.proofs.TableFacts.{IsSentTo}
use Rattle.node_laws.proofs.Facts.{LetterFits, WorkFits, AreSeen, HasTime, IsOpenOf, IsBy}
use Rattle.node_laws.proofs.Growth.{letter_grows, seen_grows}
use Rattle.node_laws.proofs.Journals.{later_self}
use Rattle.node_laws.proofs.Others.{sent_grows, open_grows}

-- another state of a router, in the same life
abbrev pub with_own : Router → Router → Router
with_own r s = record {
  me = r.me;
  shards = r.shards;
  time = s.time;
  life = r.life;
  begun = s.begun;
  moment = s.moment;
  count = s.count;
  tables = s.tables;
  requests =
      s.requests;
  cursors = s.cursors;
  blocks = s.blocks;
  gave = s.gave;
}

pub ahead_later : (a b : ℕ) (work : Work) → a ≤ b → is_ahead a work ≡ false → is_ahead b work ≡ false
ahead_later a b (writing kind ordered statements answers) le not_ahead = refl
ahead_later a b (reading named at stages telling) le not_ahead = by_test (nat_lt b at) refl
  where
    by_test : (t : Bool) → nat_lt b at ≡ t → nat_lt b at ≡ false
    by_test true h =
        let early : at ≤ a = ltb-false a at not_ahead in
        let less : b < at = ltb-true b at h in
        absurd (omega arith)
    by_test false h = h
ahead_later a b sharding le not_ahead = refl
ahead_later a b (splitting middle) le not_ahead = refl

-- what is known of an open request whatever it has to do
pub record IsOpener (v : View) (asked : List Asked) (answered : List Answered) (r : Router) (time : ℕ) (q : Open) : Type 0 where
  pub request : Asked
  pub taken : IsIn request asked
  pub own : request.id ≡ id_of r q.count
  pub link : request.link ≡ q.link
  pub number : request.number ≡ q.number
  pub asks : request.request ≡ q.request
  pub arrived : request.moment ≡ q.arrived
  pub past : request.time ≤ time
  pub silent : AllByRecursion (λ (t : Answered). t.id ≢ id_of r q.count) answered

abbrev pub opener_of : (v : View) (asked : List Asked) (answered : List Answered) (r : Router) (time : ℕ) (q : Open) → r.time ≤ time → IsOpenOf v asked answered r q
    → IsOpener v asked answered r time q
opener_of v asked answered r time q later o = record {
  request = o.request;
  taken = o.taken;
  own = o.own;
  link = o.link;
  number = o.number;
  asks = o.asks;
  arrived = o.arrived;
  past = (let p = o.past in omega arith);
  silent = o.silent;
}

-- an open request proceeds, with other work
pub opens_with : (v : View) (asked : List Asked) (answered : List Answered) (r s : Router) (q : Open) (wait : Wait) (targets : List Target) (work : Work)
    → (k : IsOpener v asked answered r s.time q)
    → HasTime v k.request (id_of r q.count) s.time wait work
    → WorkFits k.request q.namespace work → AreSeen v s.time k.request work → IsSentTo v s.time q.namespace wait work targets
    → IsOpenOf v asked answered (with_own r s) (with_work q wait targets work)
opens_with v asked answered r s q wait targets work k reached fits seen sent = record {
  request = k.request;
  taken = k.taken;
  own = k.own;
  link = k.link;
  number = k.number;
  asks = k.asks;
  arrived = k.arrived;
  past = k.past;
  reached = reached;
  silent = k.silent;
  work = fits;
  seen = seen;
  sent = sent;
  parts = refl;
}

pub open_rises : (v : View) (asked : List Asked) (answered : List Answered) (r s : Router) (q : Open) → r.time ≤ s.time → IsOpenOf v asked answered r q
    → IsOpenOf v asked answered (with_own r s) q
open_rises v asked answered r s q later o = record {
  request = o.request;
  taken = o.taken;
  own = o.own;
  link = o.link;
  number = o.number;
  asks = o.asks;
  arrived = o.arrived;
  past = (let p = o.past in omega arith);
  reached = by_reached o.reached;
  silent = o.silent;
  work = o.work;
  seen = seen_grows v v r.time s.time o.request q.work (later_self v) later o.seen;
  sent = sent_grows v v r.time s.time q.namespace q.wait q.work q.targets (later_self v) later o.sent;
  parts = o.parts;
}
  where
    by_reached : HasTime v o.request (id_of r q.count) r.time q.wait q.work → HasTime v o.request (id_of r q.count) s.time q.wait q.work
    by_reached (inl e) = inl e
    by_reached (inr (w, e, d)) = inr (w, ahead_later r.time s.time q.work later e, d)

-- it is one in a later view, where no time is decided for it
pub open_stays : (v w : View) (asked : List Asked) (answered : List Answered) (r : Router) (q : Open) → Later v w
    → (chosen_time (id_of r q.count) v.chosen ≡ None → chosen_time (id_of r q.count) w.chosen ≡ None) → IsOpenOf v asked answered r q
    → IsOpenOf w asked answered r q
open_stays v w asked answered r q later still o =
    subst (λ l. IsOpenOf w l answered r q) (append-nil asked)
    (subst (λ l. IsOpenOf w (asked ++ []) l r q) (append-nil answered) (open_grows v w asked [] answered [] r q later still tt o))

pub letter_stays : (v w : View) (asked : List Asked) (m : Letter) → Later v w → LetterFits v asked m → LetterFits w asked m
letter_stays v w asked m later f = subst (λ l. LetterFits w l m) (append-nil asked) (letter_grows v w asked [] m later f)

-- what is said of this life and no other
pub of_this_life : (life now : ℕ) (begun : Bool) (P : Type 0) → life ≡ now → IsBy life now begun P → (begun ≡ true) × P
of_this_life life now begun P same (inl less) = absurd (omega arith)
of_this_life life now begun P same (inr (e, is, p)) = (is, p)

pub by_weaken : (life now : ℕ) (begun : Bool) (P Q : Type 0) → (P → Q) → IsBy life now begun P → IsBy life now begun Q
by_weaken life now begun P Q f (inl less) = inl less
by_weaken life now begun P Q f (inr (e, is, p)) = inr (e, is, f p)

-- an open request is one of a life that did begin
pub open_begun : (v : View) (asked : List Asked) (answered : List Answered) (at : ℕ) (r : Router) (q : Open) → r.me ≡ at
    → AllByRecursion (λ (a : Asked). a.id.router ≡ at → IsBy a.id.life r.life r.begun (a.id.count ≤ r.count)) asked → IsOpenOf v asked answered r q
    → r.begun ≡ true
open_begun v asked answered at r q own counted o =
    let by = all_at (λ (a : Asked). a.id.router ≡ at → IsBy a.id.life r.life r.begun (a.id.count ≤ r.count)) o.request asked counted o.taken
    (ap (λ (i : RequestId). i.router) o.own ∙ own) in
    (of_this_life o.request.id.life r.life r.begun (o.request.id.count ≤ r.count) (ap (λ (i : RequestId). i.life) o.own) by).0
