-- How far statements of requests were sent: what is noted of open requests, and what this says of others.
use Rattle.std.proofs.Common.{◌≡◌, ◌≢◌, ◌⊎◌, inl, inr, ℕ, ◌≤◌, List, [], ◌∷◌, ◌++◌, refl, sym, ap, subst, ◌∙◌, arith, Bool}
use Rattle.std.specs.Prelude.{true, false, max, map, if◌then◌else◌}
use Rattle.std.specs.List.{AllByRecursion}
use Rattle.history_model.proofs.Lists.{all_weaken, all_both, in_first, in_later, in_cons, in_none}
use Rattle.history_model.specs.History.{IsIn}
use Rattle.base_model.specs.Identities.{RequestId, same_request}
use Rattle.reply_facts.proofs.Requests.{same_id, own_session}
use Rattle.reply_model.specs.Exchanges.{Asked, Answered}
use Rattle.node_model.specs.Journal.{Kept}
use Rattle.node_model.specs.States.{Open, Router, NodeState, catalogue_state, shard_state, router_state}
use Rattle.node_model.specs.RouterRequests.{id_of}
use Rattle.node_laws.proofs.Views.{Reach, reach_of, View}
use Rattle.node_laws.proofs.Facts.{AreDifferentCounts, counts_of, IsReached, ReachFits, raise_of, raises_of, IsNoted, reach_in, StateFits}

-- WHAT IS NOTED OF A REQUEST

-- not more than in each part
pub reach_joined : (id : RequestId) (xs ys : List Reach) (n : ℕ) → reach_of id xs ≤ n → reach_of id ys ≤ n → reach_of id (xs ++ ys) ≤ n
reach_joined id [] ys n first second = second
reach_joined id (x ∷ xs) ys n first second = by_test (same_request x.id id) first (λ le. reach_joined id xs ys n le second)
  where
    by_test : (b : Bool) → (if b then max x.index (reach_of id xs) else reach_of id xs) ≤ n → (reach_of id xs ≤ n → reach_of id (xs ++ ys) ≤ n)
        → (if b then max x.index (reach_of id (xs ++ ys)) else reach_of id (xs ++ ys)) ≤ n
    by_test true le more = let m = more (omega (arith, le)) in omega (arith, le, m)
    by_test false le more = more le

-- nothing is noted of it by notes of others
pub reach_else : (id : RequestId) (notes : List Reach) → AllByRecursion (λ (x : Reach). x.id ≢ id) notes → reach_of id notes ≡ 0
reach_else id [] all = refl
reach_else id (x ∷ notes) all = by_test (same_request x.id id) refl (reach_else id notes all.1)
  where
    by_test : (b : Bool) → same_request x.id id ≡ b → reach_of id notes ≡ 0 → (if b then max x.index (reach_of id notes) else reach_of id notes) ≡ 0
    by_test true h rest = absurd (all.0 (same_id x.id id h))
    by_test false h rest = rest

pub reach_among : (id : RequestId) (index : ℕ) (xs ys : List Reach) → IsIn (record { id = id; index = index }) ys → index ≤ reach_of id (xs ++ ys)
reach_among id index [] [] i = absurd (in_none (record { id = id; index = index }) i)
reach_among id index [] (y ∷ ys) i = by_place (in_cons (record { id = id; index = index }) y ys i) (λ j. reach_among id index [] ys j)
  where
    own : index ≤ (if same_request id id then max index (reach_of id ys) else reach_of id ys)
    own = subst (λ b. index ≤ (if b then max index (reach_of id ys) else reach_of id ys)) (sym (own_session id)) (omega arith)

    more : (b : Bool) → index ≤ reach_of id ys → index ≤ (if b then max y.index (reach_of id ys) else reach_of id ys)
    more true le = omega (arith, le)
    more false le = le

    by_place : (record { id = id; index = index } ≡ y) ⊎ IsIn (record { id = id; index = index }) ys
        → (IsIn (record { id = id; index = index }) ys → index ≤ reach_of id ys) → index ≤ reach_of id (y ∷ ys)
    by_place (inl same) later = subst (λ (z : Reach). index ≤ reach_of id (z ∷ ys)) same own
    by_place (inr j) later = more (same_request y.id id) (later j)
reach_among id index (x ∷ xs) ys i = by_test (same_request x.id id) (reach_among id index xs ys i)
  where
    by_test : (b : Bool) → index ≤ reach_of id (xs ++ ys) → index ≤ (if b then max x.index (reach_of id (xs ++ ys)) else reach_of id (xs ++ ys))
    by_test true le = omega (arith, le)
    by_test false le = le

-- OPEN REQUESTS

raises_in : (r : Router) (requests : List Open) → AllByRecursion (λ (q : Open). IsIn (raise_of r q) (map (raise_of r) requests)) requests
raises_in r [] = tt
raises_in r (q ∷ requests) = (
  in_first (raise_of r q) (map (raise_of r) requests),
  all_weaken (λ (p : Open). IsIn (raise_of r p) (map (raise_of r) requests)) (λ (p : Open). IsIn (raise_of r p) (raise_of r q ∷ map (raise_of r) requests)) requests
      (λ p i. in_later (raise_of r p) (raise_of r q) (map (raise_of r) requests) i) (raises_in r requests),
)

-- of each it is noted after the step how far its statements were sent
pub all_noted : (notes : List Reach) (r : Router) (requests : List Open) → AllByRecursion (IsNoted (notes ++ map (raise_of r) requests) r) requests
all_noted notes r requests =
    all_weaken (λ (q : Open). IsIn (raise_of r q) (map (raise_of r) requests)) (IsNoted (notes ++ map (raise_of r) requests) r) requests
    (λ q i. reach_among (id_of r q.count) (reach_in q.work) notes (map (raise_of r) requests) i) (raises_in r requests)

count_is : (r : Router) (a b : ℕ) → id_of r a ≡ id_of r b → a ≡ b
count_is r a b same = ap (λ (i : RequestId). i.count) same

raises_else : (r : Router) (count : ℕ) (requests : List Open) → AllByRecursion (λ n. n ≢ count) (counts_of requests)
    → AllByRecursion (λ (x : Reach). x.id ≢ id_of r count) (map (raise_of r) requests)
raises_else r count [] all = tt
raises_else r count (q ∷ requests) all = ((λ same. all.0 (count_is r q.count count same)), raises_else r count requests all.1)

-- and no more than that, where requests have counts of their own
own_raise : (r : Router) (requests : List Open) → AreDifferentCounts (counts_of requests)
    → AllByRecursion (λ (q : Open). reach_of (id_of r q.count) (map (raise_of r) requests) ≤ reach_in q.work) requests
own_raise r [] different = tt
own_raise r (q ∷ requests) different = (
  first (same_request (id_of r q.count) (id_of r q.count)),
  others requests different.0 (own_raise r requests different.1),
)
  where
    none : reach_of (id_of r q.count) (map (raise_of r) requests) ≡ 0
    none = reach_else (id_of r q.count) (map (raise_of r) requests) (raises_else r q.count requests different.0)

    first : (b : Bool) → (if b then max (reach_in q.work) (reach_of (id_of r q.count) (map (raise_of r) requests))
        else reach_of (id_of r q.count) (map (raise_of r) requests)) ≤ reach_in q.work
    first true = omega (arith, none)
    first false = omega (arith, none)

    other : (p : Open) → p.count ≢ q.count → (b : Bool) → same_request (id_of r q.count) (id_of r p.count) ≡ b
        → reach_of (id_of r p.count) (map (raise_of r) requests) ≤ reach_in p.work
        → (if b then max (reach_in q.work) (reach_of (id_of r p.count) (map (raise_of r) requests)) else reach_of (id_of r p.count) (map (raise_of r) requests))
        ≤ reach_in p.work
    other p apart true h le = absurd (apart (sym (count_is r q.count p.count (same_id (id_of r q.count) (id_of r p.count) h))))
    other p apart false h le = le

    others : (ps : List Open) → AllByRecursion (λ n. n ≢ q.count) (counts_of ps)
        → AllByRecursion (λ (p : Open). reach_of (id_of r p.count) (map (raise_of r) requests) ≤ reach_in p.work) ps
        → AllByRecursion (λ (p : Open). reach_of (id_of r p.count) (map (raise_of r) (q ∷ requests)) ≤ reach_in p.work) ps
    others [] apart all = tt
    others (p ∷ ps) apart all =
        (other p apart.0 (same_request (id_of r q.count) (id_of r p.count)) refl all.0, others ps apart.1 all.1)

pub all_reached : (notes : List Reach) (r : Router) (requests : List Open) → AreDifferentCounts (counts_of requests)
    → AllByRecursion (IsReached notes r) requests → AllByRecursion (IsReached (notes ++ map (raise_of r) requests) r) requests
all_reached notes r requests different all =
    all_both (IsReached notes r) (λ (q : Open). reach_of (id_of r q.count) (map (raise_of r) requests) ≤ reach_in q.work)
    (IsReached (notes ++ map (raise_of r) requests) r) requests
    (λ q old own. reach_joined (id_of r q.count) notes (map (raise_of r) requests) (reach_in q.work) old own) all (own_raise r requests different)

-- A STEP

-- all that is noted is of open requests of the node
pub raises_own : (P : RequestId → Type 0) (s : NodeState) → ((r : Router) → s ≡ router_state r → AllByRecursion (λ (q : Open). P (id_of r q.count)) r.requests)
    → AllByRecursion (λ (x : Reach). P x.id) (raises_of s)
raises_own P (catalogue_state c) own = tt
raises_own P (shard_state s) own = tt
raises_own P (router_state r) own = mapped r.requests (own r refl)
  where
    mapped : (requests : List Open) → AllByRecursion (λ (q : Open). P (id_of r q.count)) requests
        → AllByRecursion (λ (x : Reach). P x.id) (map (raise_of r) requests)
    mapped [] all = tt
    mapped (q ∷ requests) all = (all.0, mapped requests all.1)

pub reach_after : (v : View) (asked : List Asked) (answered : List Answered) (at : ℕ) (kept : List Kept) (notes : List Reach) (s : NodeState)
    → StateFits v asked answered at kept s → ReachFits notes s → ReachFits (notes ++ raises_of s) s
reach_after v asked answered at kept notes (catalogue_state c) fits f = tt
reach_after v asked answered at kept notes (shard_state s) fits f = tt
reach_after v asked answered at kept notes (router_state r) fits f = all_reached notes r r.requests fits.different f

-- what is noted of another node's requests says nothing of this one's
pub reach_other : (v : View) (asked : List Asked) (answered : List Answered) (j at : ℕ) (kept : List Kept) (notes raises : List Reach) (s : NodeState) → j ≢ at
    → AllByRecursion (λ (x : Reach). x.id.router ≡ at) raises → StateFits v asked answered j kept s → ReachFits notes s → ReachFits (notes ++ raises) s
reach_other v asked answered j at kept notes raises (catalogue_state c) other theirs fits f = tt
reach_other v asked answered j at kept notes raises (shard_state s) other theirs fits f = tt
reach_other v asked answered j at kept notes raises (router_state r) other theirs fits f =
    all_weaken (IsReached notes r) (IsReached (notes ++ raises) r) r.requests
    (λ q le. reach_joined (id_of r q.count) notes raises (reach_in q.work) le
    (let none = reach_else (id_of r q.count) raises
    (all_weaken (λ (x : Reach). x.id.router ≡ at) (λ (x : Reach). x.id ≢ id_of r q.count) raises
    (λ x own same. other (sym fits.own ∙ sym (ap (λ (i : RequestId). i.router) same) ∙ own)) theirs) in
    omega (arith, none))) f
