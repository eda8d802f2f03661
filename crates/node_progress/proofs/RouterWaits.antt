-- What an open request of a router waits for after a step is what it waited for, and did not come; or it is requested in this step.
use Rattle.std.proofs.Common.{◌≡◌, ◌≢◌, ◌⊎◌, inl, inr, ℕ, List, [], ◌∷◌, ◌++◌, refl, sym, ap, subst, ◌∙◌, Bool}
use Rattle.std.specs.Prelude.{Some, true, false, ◌==◌, if◌then◌else◌}
use Rattle.std.specs.List.{AllByRecursion, flat_map}
use Rattle.std.proofs.lemmas.Bool.{eqb-false}
use Rattle.history_model.specs.History.{IsIn}
use Rattle.history_model.proofs.Lists.{all_append, all_from, in_first, in_later, in_prefix, in_back, in_cons, in_none}
use Rattle.base_model.specs.Identities.{RequestId}
use Rattle.node_model.specs.Letters.{Letter, Input, letter_input}
use Rattle.node_model.specs.States.{Router, Open, without, replaced}
use Rattle.node_model.specs.RouterRequests.{id_of, shards_of, untold}
use Rattle.node_model.specs.RouterNext.{awaited}
use Rattle.node_laws.proofs.OpenRequests.{all_replaced}
use Rattle.node_progress.specs.UnderWay.{Thing, things_of, IsFor}
use Rattle.node_progress.proofs.Things.{awaits, InSameLife, same_things}
use Rattle.node_progress.proofs.Lateness.{IsGoing, WaitFits, IsFresh, named_in, names_own}
use Rattle.node_progress.proofs.Sends.{AreSent}

-- what is known of an open request
pub record IsWaiting (q : Open) : Type 0 where
  pub going : IsGoing q.work
  pub fits : WaitFits q.work q.wait
  pub untried : q.tries ≡ []
  pub fresh : IsFresh q.work

-- it was open before, and what it waits for it waited for then, and did not come
pub record StillWaits (r u : Router) (i : Input) (q : Open) : Type 0 where
  pub before : Open
  pub there : IsIn before r.requests
  pub own : id_of u q.count ≡ id_of r before.count
  pub known : IsWaiting before → IsWaiting q
  pub some : things_of r before ≢ [] → things_of u q ≢ []
  pub among : (t : Thing) → IsIn t (things_of u q) → IsIn t (things_of r before)
  pub not_come : (t : Thing) → IsIn t (things_of u q) → (m : Letter) → i ≡ letter_input m → IsFor t m → ⊥

-- it is requested now
pub record WaitsAnew (u : Router) (mail : List Letter) (q : Open) : Type 0 where
  pub going : IsGoing q.work
  pub fits : WaitFits q.work q.wait
  pub sent : AreSent mail (things_of u q)
  pub untried : q.tries ≡ []
  pub fresh : IsFresh q.work

abbrev pub WaitsAfter : (r u : Router) → Input → List Letter → Open → Type 0
WaitsAfter r u i mail q = StillWaits r u i q ⊎ WaitsAnew u mail q

pub same_id : (r u : Router) (count : ℕ) → InSameLife r u → id_of u count ≡ id_of r count
same_id r u count same = λ i. record { router = same.me i; life = same.life i; count = count }

-- it waits for the same
pub unchanged_as : (r u : Router) (i : Input) (q p : Open) → InSameLife r u → IsIn q r.requests → p.count ≡ q.count → things_of r p ≡ things_of r q
    → (IsWaiting q → IsWaiting p) → ((t : Thing) → IsIn t (things_of r q) → (m : Letter) → i ≡ letter_input m → IsFor t m → ⊥) → StillWaits r u i p
unchanged_as r u i q p same there counts those known none =
    let things = same_things r u p same ∙ those in
    record {
      before = q;
      there = there;
      own = same_id r u p.count same ∙ ap (id_of r) counts;
      known = known;
      some = λ some e. some (sym things ∙ e);
      among = λ t one. subst (λ l. IsIn t l) things one;
      not_come = λ t one. none t (subst (λ l. IsIn t l) things one);
    }

-- nothing of it changes
pub unchanged : (r u : Router) (i : Input) (q : Open) → InSameLife r u → IsIn q r.requests
    → ((t : Thing) → IsIn t (things_of r q) → (m : Letter) → i ≡ letter_input m → IsFor t m → ⊥) → StillWaits r u i q
unchanged r u i q same there none = unchanged_as r u i q q same there refl refl (λ w. w) none

-- LISTS

pub all_others : (P : Open → Type 0) (count : ℕ) (requests : List Open) → ((q : Open) → IsIn q requests → q.count ≢ count → P q)
    → AllByRecursion P (without count requests)
all_others P count [] each = tt
all_others P count (q ∷ requests) each = by_test (q.count == count) refl (all_others P count requests (λ p i. each p (in_later p q requests i)))
  where
    by_test : (b : Bool) → (q.count == count) ≡ b → AllByRecursion P (without count requests)
        → AllByRecursion P (if b then without count requests else q ∷ without count requests)
    by_test true h more = more
    by_test false h more = (each q (in_first q requests) (λ e. eqb-false _ _ h e), more)

pub all_flat : {X Y : Type 0} (P : Y → Type 0) (g : X → List Y) (xs : List X) → ((x : X) → IsIn x xs → AllByRecursion P (g x)) → AllByRecursion P (flat_map g xs)
all_flat P g [] each = tt
all_flat P g (x ∷ xs) each = all_append P (g x) (flat_map g xs) (each x (in_first x xs)) (all_flat P g xs (λ y i. each y (in_later y x xs i)))

pub in_flat : {X Y : Type 0} (g : X → List Y) (xs : List X) (x : X) (y : Y) → IsIn x xs → IsIn y (g x) → IsIn y (flat_map g xs)
in_flat g [] x y i j = absurd (in_none x i)
in_flat {X = X} g (z ∷ xs) x y i j = by_place (in_cons x z xs i) (λ k. in_flat g xs x y k j)
  where
    by_place : (x ≡ z) ⊎ IsIn x xs → (IsIn x xs → IsIn y (flat_map g xs)) → IsIn y (g z ++ flat_map g xs)
    by_place (inl same) later = in_prefix y (g z) (flat_map g xs) (subst (λ k. IsIn y (g k)) same j)
    by_place (inr there) later = in_back y (g z) (flat_map g xs) (later there)

-- OTHER REQUESTS

module _ (r u : Router) (i : Input) where
  -- where no open request changes
  pub all_wait : (mail : List Letter) → InSameLife r u
      → ((q : Open) → IsIn q r.requests → (t : Thing) → IsIn t (things_of r q) → (m : Letter) → i ≡ letter_input m → IsFor t m → ⊥)
      → AllByRecursion (WaitsAfter r u i mail) r.requests
  all_wait mail same none = all_from (WaitsAfter r u i mail) r.requests (λ q there. inl (unchanged r u i q same there (none q there)))

-- the message names one request
module _ (r u : Router) (m : Letter) (mail : List Letter) (q : Open) (id : RequestId) (same : InSameLife r u) (own : id ≡ id_of r q.count)
    (names : (t : Thing) → IsFor t m → named_in t ≡ Some id) where
  others_wait : (p : Open) → IsIn p r.requests → p.count ≢ q.count → WaitsAfter r u (letter_input m) mail p
  others_wait p there other = inl (unchanged r u (letter_input m) p same there (λ t one n is brings.
      let letter : m ≡ n = cc is in
      let named = names t (subst (λ x. IsFor t x) (sym letter) brings) in
      let mine : id ≡ id_of r p.count =
      names_own (id_of r p.count) r.me (untold p.told (shards_of r)) (awaited p.targets p.parts) p.namespace p.work p.wait t id (awaits r p t one) named in
      other (ap (λ (x : RequestId). x.count) (sym mine ∙ own))))

  -- it is answered
  pub answered_wait : AllByRecursion (WaitsAfter r u (letter_input m) mail) (without q.count r.requests)
  answered_wait = all_others (WaitsAfter r u (letter_input m) mail) q.count r.requests others_wait

  -- it proceeds
  pub replaced_wait : (p : Open) → p.count ≡ q.count → WaitsAfter r u (letter_input m) mail p
      → AllByRecursion (WaitsAfter r u (letter_input m) mail) (replaced p r.requests)
  replaced_wait p count waits =
      all_replaced (WaitsAfter r u (letter_input m) mail) p r.requests waits
      (all_from (λ (x : Open). x.count ≢ p.count → WaitsAfter r u (letter_input m) mail x) r.requests
      (λ x there other. others_wait x there (λ e. other (e ∙ sym count))))
