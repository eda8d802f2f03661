-- Looking up, replacing and removing open requests.
use Rattle.std.proofs.Common.{◌≡◌, ◌≢◌, ◌⊎◌, inl, inr, ℕ, List, [], ◌∷◌, refl, sym, ap, subst, ◌∙◌, Bool}
use Rattle.std.specs.Prelude.{Some, None, true, false, ◌==◌, if◌then◌else◌}
use Rattle.std.specs.List.{AllByRecursion}
use Rattle.std.proofs.lemmas.Bool.{eqb-true, eqb-false}
use Rattle.history_model.proofs.Lists.{all_weaken, in_first, in_later, in_none, in_cons}
use Rattle.history_model.specs.History.{IsIn}
use Rattle.base_model.specs.Identities.{RequestId, same_request}
use Rattle.reply_model.specs.Exchanges.{Answered}
use Rattle.reply_model.specs.OneHistory.{ids_told, AreDifferent}
use Rattle.node_model.specs.States.{Open, Router, open_with, without, replaced}
use Rattle.node_model.specs.RouterRequests.{id_of}
use Rattle.node_model.specs.RouterRows.{open_of}
use Rattle.node_laws.proofs.Facts.{counts_of, AreDifferentCounts}
use Rattle.node_laws.proofs.Lists.{all_of}
use Rattle.reply_facts.proofs.Requests.{same_id}

-- LOOKING UP

pub record FoundOpen (count : ℕ) (requests : List Open) (q : Open) : Type 0 where
  pub stands : IsIn q requests
  pub number : q.count ≡ count

pub open_found : (count : ℕ) (requests : List Open) (q : Open) → open_with count requests ≡ Some q → FoundOpen count requests q
open_found count [] q got = absurd (cc)
open_found count (p ∷ requests) q got = by_test (p.count == count) refl got (λ g. open_found count requests q g)
  where
    by_test : (a : Bool) → (p.count == count) ≡ a → (if a then Some p else open_with count requests) ≡ Some q
        → (open_with count requests ≡ Some q → FoundOpen count requests q) → FoundOpen count (p ∷ requests) q
    by_test true h got more =
        let same : p ≡ q = cc in
        subst (λ z. FoundOpen count (p ∷ requests) z) same (record { stands = in_first p requests; number = eqb-true _ _ h })
    by_test false h got more =
        let f = more got in
        record { stands = in_later q p requests f.stands; number = f.number }

-- the request with a number is an open one with its count
pub record IsOpenWith (r : Router) (id : RequestId) (q : Open) : Type 0 where
  pub stands : IsIn q r.requests
  pub own : id ≡ id_of r q.count

pub open_of_found : (r : Router) (id : RequestId) (q : Open) → open_of r id ≡ Some q → IsOpenWith r id q
open_of_found r id q got = by_test (same_request id (id_of r id.count)) refl got
  where
    by_test : (a : Bool) → same_request id (id_of r id.count) ≡ a → (if a then open_with id.count r.requests else None) ≡ Some q → IsOpenWith r id q
    by_test true h got =
        let f : FoundOpen id.count r.requests q = open_found id.count r.requests q got in
        record { stands = f.stands; own = same_id id (id_of r id.count) h ∙ ap (λ n. id_of r n) (sym f.number) }
    by_test false h got = absurd (cc)

-- WHAT HOLDS OF EACH

pub all_without : (P : Open → Type 0) (count : ℕ) (requests : List Open) → AllByRecursion P requests → AllByRecursion P (without count requests)
all_without P count [] all = tt
all_without P count (q ∷ requests) all = by_test (q.count == count) (all_without P count requests all.1)
  where
    by_test : (a : Bool) → AllByRecursion P (without count requests) → AllByRecursion P (if a then without count requests else q ∷ without count requests)
    by_test true more = more
    by_test false more = (all.0, more)

-- what is put in their place has it, and so have those of another count
pub all_replaced : (P : Open → Type 0) (p : Open) (requests : List Open) → P p → AllByRecursion (λ (q : Open). q.count ≢ p.count → P q) requests
    → AllByRecursion P (replaced p requests)
all_replaced P p [] own all = tt
all_replaced P p (q ∷ requests) own all = by_test (q.count == p.count) refl (all_replaced P p requests own all.1)
  where
    by_test : (a : Bool) → (q.count == p.count) ≡ a → AllByRecursion P (replaced p requests)
        → AllByRecursion P (if a then p ∷ replaced p requests else q ∷ replaced p requests)
    by_test true h more = (own, more)
    by_test false h more = (all.0 (λ e. eqb-false _ _ h e), more)

-- COUNTS

counts_replaced : (p : Open) (requests : List Open) → counts_of (replaced p requests) ≡ counts_of requests
counts_replaced p [] = refl
counts_replaced p (q ∷ requests) = by_test (q.count == p.count) refl (counts_replaced p requests)
  where
    by_test : (a : Bool) → (q.count == p.count) ≡ a → counts_of (replaced p requests) ≡ counts_of requests
        → counts_of (if a then p ∷ replaced p requests else q ∷ replaced p requests) ≡ q.count ∷ counts_of requests
    by_test true h more =
        let same : q.count ≡ p.count = eqb-true _ _ h in
        ap (λ n. n ∷ counts_of (replaced p requests)) (sym same) ∙ ap (λ l. q.count ∷ l) more
    by_test false h more = ap (λ l. q.count ∷ l) more

counts_without : (P : ℕ → Type 0) (count : ℕ) (requests : List Open) → AllByRecursion P (counts_of requests)
    → AllByRecursion P (counts_of (without count requests))
counts_without P count [] all = tt
counts_without P count (q ∷ requests) all = by_test (q.count == count) (counts_without P count requests all.1)
  where
    by_test : (a : Bool) → AllByRecursion P (counts_of (without count requests))
        → AllByRecursion P (counts_of (if a then without count requests else q ∷ without count requests))
    by_test true more = more
    by_test false more = (all.0, more)

different_without : (count : ℕ) (requests : List Open) → AreDifferentCounts (counts_of requests) → AreDifferentCounts (counts_of (without count requests))
different_without count [] all = tt
different_without count (q ∷ requests) all = by_test (q.count == count) (different_without count requests all.1)
  where
    by_test : (a : Bool) → AreDifferentCounts (counts_of (without count requests))
        → AreDifferentCounts (counts_of (if a then without count requests else q ∷ without count requests))
    by_test true more = more
    by_test false more = (counts_without (λ m. m ≢ q.count) count requests all.0, more)

others_without : (count : ℕ) (requests : List Open) → AllByRecursion (λ (q : Open). q.count ≢ count) (without count requests)
others_without count [] = tt
others_without count (q ∷ requests) = by_test (q.count == count) refl (others_without count requests)
  where
    by_test : (a : Bool) → (q.count == count) ≡ a → AllByRecursion (λ (p : Open). p.count ≢ count) (without count requests)
        → AllByRecursion (λ (p : Open). p.count ≢ count) (if a then without count requests else q ∷ without count requests)
    by_test true h more = more
    by_test false h more = ((λ e. eqb-false _ _ h e), more)

left_without : (n count : ℕ) (requests : List Open) → IsIn n (counts_of requests) → IsIn n (counts_of (without count requests)) ⊎ (n ≡ count)
left_without n count [] i = absurd (in_none n i)
left_without n count (q ∷ requests) i = by_test (q.count == count) refl (in_cons n q.count (counts_of requests) i) (λ j. left_without n count requests j)
  where
    by_test : (a : Bool) → (q.count == count) ≡ a → (n ≡ q.count) ⊎ IsIn n (counts_of requests)
        → (IsIn n (counts_of requests) → IsIn n (counts_of (without count requests)) ⊎ (n ≡ count))
        → IsIn n (counts_of (if a then without count requests else q ∷ without count requests)) ⊎ (n ≡ count)
    by_test true h (inl e) more = inr (e ∙ eqb-true _ _ h)
    by_test true h (inr j) more = more j
    by_test false h (inl e) more = inl (subst (λ m. IsIn n (m ∷ counts_of (without count requests))) e (in_first n (counts_of (without count requests))))
    by_test false h (inr j) more = by_rest (more j)
      where
        by_rest : IsIn n (counts_of (without count requests)) ⊎ (n ≡ count) → IsIn n (q.count ∷ counts_of (without count requests)) ⊎ (n ≡ count)
        by_rest (inl k) = inl (in_later n q.count (counts_of (without count requests)) k)
        by_rest (inr e) = inr e

-- THE OPEN REQUESTS AFTER A STEP

-- Some of the open requests were answered, and the others stay open.
pub record IsParted (r : Router) (old new : List Open) (news : List Answered) : Type 0 where
  pub different : AreDifferentCounts (counts_of new)
  pub silent : AllByRecursion (λ (q : Open). AllByRecursion (λ (t : Answered). t.id ≢ id_of r q.count) news) new
  pub apart : AreDifferent (ids_told news)
  pub own : AllByRecursion (λ (t : Answered). (q : Open) × IsIn q old × (t.id ≡ id_of r q.count)) news
  pub closed : (n : ℕ) → IsIn n (counts_of old) → IsIn n (counts_of new) ⊎ IsIn (id_of r n) (ids_told news)

pub parted_same : (r : Router) (requests : List Open) → AreDifferentCounts (counts_of requests) → IsParted r requests requests []
parted_same r requests different = record {
  different = different;
  silent = all_of (λ (q : Open). Unit {0}) requests
      (λ q. tt);
  apart = tt;
  own = tt;
  closed = λ n i. inl i;
}

pub parted_replaced : (r : Router) (p : Open) (requests : List Open) → AreDifferentCounts (counts_of requests) → IsParted r requests (replaced p requests) []
parted_replaced r p requests different =
    let same = counts_replaced p requests in
    record {
      different = subst (λ l. AreDifferentCounts l) (sym same) different;
      silent = all_of (λ (q : Open). Unit {0}) (replaced p requests) (λ q. tt);
      apart = tt;
      own = tt;
      closed = λ n i. inl (subst (λ l. IsIn n l) (sym same) i);
    }

pub parted_without : (r : Router) (q : Open) (t : Answered) (requests : List Open) → AreDifferentCounts (counts_of requests) → IsIn q requests
    → t.id ≡ id_of r q.count
    → IsParted r requests (without q.count requests) (t ∷ [])
parted_without r q t requests different stands own = record {
  different = different_without q.count requests different;
  silent = all_weaken (λ (p : Open). p.count ≢ q.count) (λ (p : Open). AllByRecursion (λ (t : Answered). t.id ≢ id_of r p.count) (t ∷ []))
      (without q.count requests)
      (λ p other. ((λ e. other (ap (λ (i : RequestId). i.count) (sym e ∙ own))), tt)) (others_without q.count requests);
  apart = (tt, tt);
  own = ((q, stands, own), tt);
  closed = λ n i. by_left n (left_without n q.count requests i);
}
  where
    by_left : (n : ℕ) → IsIn n (counts_of (without q.count requests)) ⊎ (n ≡ q.count)
        → IsIn n (counts_of (without q.count requests)) ⊎ IsIn (id_of r n) (t.id ∷ [])
    by_left n (inl i) = inl i
    by_left n (inr e) = inr (subst (λ i. IsIn i (t.id ∷ [])) (own ∙ ap (λ m. id_of r m) (sym e)) (in_first t.id []))
