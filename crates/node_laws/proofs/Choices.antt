-- A time that is decided for a read stays so.
use Rattle.std.proofs.Common.{◌≡◌, ◌≢◌, ℕ, List, [], ◌∷◌, ◌++◌, refl, ap, ◌∙◌, Bool}
use Rattle.std.specs.Prelude.{Some, None, true, false, if◌then◌else◌}
use Rattle.std.specs.List.{AllByRecursion}
use Rattle.base_model.specs.Identities.{RequestId, same_request}
use Rattle.reply_facts.proofs.Requests.{same_id}
use Rattle.node_laws.proofs.Views.{Choice, View, chosen_time, Later}
use Rattle.node_laws.proofs.SeenStatements.{own_session}

pub chosen_longer : (id : RequestId) (at : ℕ) (chosen more : List Choice) → chosen_time id chosen ≡ Some at → chosen_time id (chosen ++ more) ≡ Some at
chosen_longer id at [] more e = absurd (cc)
chosen_longer id at (c ∷ chosen) more e = by_test (same_request c.id id) e (λ f. chosen_longer id at chosen more f)
  where
    by_test : (b : Bool) → (if b then Some c.at else chosen_time id chosen) ≡ Some at
        → (chosen_time id chosen ≡ Some at → chosen_time id (chosen ++ more) ≡ Some at) → (if b then Some c.at else chosen_time id (chosen ++ more)) ≡ Some at
    by_test true e later = e
    by_test false e later = later e

pub none_longer : (id : RequestId) (chosen more : List Choice) → chosen_time id chosen ≡ None → chosen_time id more ≡ None
    → chosen_time id (chosen ++ more) ≡ None
none_longer id [] more e f = f
none_longer id (c ∷ chosen) more e f = by_test (same_request c.id id) e (λ g. none_longer id chosen more g f)
  where
    by_test : (b : Bool) → (if b then Some c.at else chosen_time id chosen) ≡ None → (chosen_time id chosen ≡ None → chosen_time id (chosen ++ more) ≡ None)
        → (if b then Some c.at else chosen_time id (chosen ++ more)) ≡ None
    by_test true e later = absurd (cc)
    by_test false e later = later e

-- what is decided where nothing was
pub chosen_last : (id : RequestId) (at : ℕ) (chosen : List Choice) → chosen_time id chosen ≡ None
    → chosen_time id (chosen ++ record { id = id; at = at } ∷ []) ≡ Some at
chosen_last id at [] e = ap (λ b. if b then Some at else None) (own_session id)
chosen_last id at (c ∷ chosen) e = by_test (same_request c.id id) e (λ f. chosen_last id at chosen f)
  where
    by_test : (b : Bool) → (if b then Some c.at else chosen_time id chosen) ≡ None
        → (chosen_time id chosen ≡ None → chosen_time id (chosen ++ record { id = id; at = at } ∷ []) ≡ Some at)
        → (if b then Some c.at else chosen_time id (chosen ++ record { id = id; at = at } ∷ [])) ≡ Some at
    by_test true e later = absurd (cc)
    by_test false e later = later e

pub none_of_others : (id : RequestId) (chosen : List Choice) → AllByRecursion (λ (c : Choice). c.id ≢ id) chosen → chosen_time id chosen ≡ None
none_of_others id [] all = refl
none_of_others id (c ∷ chosen) all = by_test (same_request c.id id) refl (none_of_others id chosen all.1)
  where
    by_test : (b : Bool) → same_request c.id id ≡ b → chosen_time id chosen ≡ None → (if b then Some c.at else chosen_time id chosen) ≡ None
    by_test true h later = absurd (all.0 (same_id c.id id h))
    by_test false h later = later

pub decided_stays : (v w : View) (id : RequestId) (at : ℕ) → Later v w → chosen_time id v.chosen ≡ Some at → chosen_time id w.chosen ≡ Some at
decided_stays v w id at later e = ap (λ l. chosen_time id l) later.decided.same ∙ chosen_longer id at v.chosen later.decided.news e
