-- The order of sessions distinguishes them as their views do.
use Rattle.std.proofs.Common.{◌≡◌, ℕ, List, [], ◌∷◌, refl, sym, ap, ◌∙◌, arith}
use Rattle.std.specs.Prelude.{Bool, ◌&&◌, Option, Some, ◌==◌, if◌then◌else◌}
use Rattle.std.specs.declared.cmp.Ordering.{Ordering}
use Rattle.std.specs.Ordering.{is_eq, nat_cmp, ordering_then}
use Rattle.std.specs.Map.{lookup}
use Rattle.std.specs.BTreeMap.{BTreeMap, is_at, get}
use Rattle.std.proofs.lemmas.Bool.Decides.{nat_tests}
use Rattle.std.proofs.lemmas.Map.Text.{is_eq-slice_cmp}
use Rattle.cluster_base.specs.declared.identity.Session.{Session}
use Rattle.cluster_base.specs.declared.identity.Session.TheVariants.{Client, Router}
use Rattle.cluster_base.specs.contracts.identity.SessionOrd.TheImpl as session_ord
use Rattle.history_model.specs.History as history
use Rattle.history_model.specs.History.{client_session, router_session}
use Rattle.history_model.specs.Notes.{same_session}
use Rattle.statement_views.specs.Views.{session_view}
use Rattle.session_book.specs.Places.{place_of}

abbrev pub session_order : Session → Session → Ordering
session_order = (session_ord.ghosts).cmp

abbrev pub session_of : history.Session → Session
session_of (client_session id) = Client id
session_of (router_session node life request) = Router (record { 0 = node }) life request

pub meant_of : (x : history.Session) → session_view (session_of x) ≡ x
meant_of (client_session id) = refl
meant_of (router_session node life request) = refl

three : (a b c d e f : ℕ) → is_eq (ordering_then (nat_cmp a b) (ordering_then (nat_cmp c d) (nat_cmp e f))) ≡ (a == b && (c == d && e == f))
three a b c d e f = grind (arith, nat_tests)

pub order_is : (a b : Session) → is_eq (session_order a b) ≡ same_session (session_view a) (session_view b)
order_is (Client a) (Client b) = is_eq-slice_cmp a b
order_is (Client a) (Router m k q) = refl
order_is (Router n l r) (Client b) = refl
order_is (Router n l r) (Router m k q) = three n.0 m.0 l k r q

lookup_alike : {K X : Type 0} (p q : K → Bool) → ((k : K) → p k ≡ q k) → (es : List (K × X)) → lookup p es ≡ lookup q es
lookup_alike p q alike [] = refl
lookup_alike p q alike (e ∷ es) = rw (alike e.0, lookup_alike p q alike es) refl

-- what the map has at a session is the place of its meaning
pub place_at : (m : BTreeMap Session ℕ) (s : Session) → place_of m.entries (session_view s) ≡ get session_order m s
place_at m s = lookup_alike (λ k. same_session (session_view s) (session_view k)) (is_at (session_order s)) (λ k. sym (order_is s k)) m.entries

place_is : (m : BTreeMap Session ℕ) (x : history.Session) → place_of m.entries x ≡ get session_order m (session_of x)
place_is m x = ap (λ (y : history.Session). place_of m.entries y) (sym (meant_of x)) ∙ place_at m (session_of x)

-- the places once the map has another at one session
pub place_after : (old new : BTreeMap Session ℕ) (s : Session) (place : ℕ) →
    ((q : Session) → get session_order new q ≡ (if is_at (session_order s) q then Some place else get session_order old q)) →
    (x : history.Session) → place_of new.entries x ≡ (if same_session (session_view s) x then Some place else place_of old.entries x)
place_after old new s place changed x =
    place_is new x ∙ changed (session_of x)
    ∙ ap (λ (b : Bool). if b then Some place else get session_order old (session_of x)) (order_is s (session_of x) ∙ ap (λ (y : history.Session). same_session (session_view s) y) (meant_of x))
    ∙ ap (λ (o : Option ℕ). if same_session (session_view s) x then Some place else o) (sym (place_is old x))
