-- The sessions of a map, in its order, are in the order of sessions.
use Rattle.std.proofs.Common.{◌≡◌, ◌<◌, ℕ, suc, List, [], ◌∷◌, ◌++◌, append_assoc, inl, inr, ◌⊎◌, subst, refl, sym, ap, ◌∙◌, arith, Ordering, Less, Equal, Greater}
use Rattle.std.specs.Prelude.{true, ◌&&◌, ◌||◌, ◌==◌, nat_lt, Option, Some, None, map}
use Rattle.std.specs.Ordering.{nat_cmp, ordering_then}
use Rattle.std.specs.Cmp.Lexicographic.{slice_cmp}
use Rattle.std.specs.List.{AllByRecursion}
use Rattle.std.specs.List.Sorted.{IsStrictlySortedBy}
use Rattle.std.specs.Map.{keys_of}
use Rattle.std.proofs.lemmas.Bool.Decides.{nat_tests}
use Rattle.std.proofs.lemmas.List.{map-append}
use Rattle.cluster_base.specs.declared.identity.Session.{Session}
use Rattle.cluster_base.specs.declared.identity.Session.TheVariants.{Client, Router}
use Rattle.history_model.specs.History as history
use Rattle.history_model.specs.Sessions as sessions
use Rattle.history_model.specs.Sessions.{bytes_before, session_before, is_next, indices_rise, sessions_rise}
use Rattle.statement_views.specs.Views.{session_view, session_record_view, statement_record_view}
use Rattle.statement_views.specs.declared.sessions.StatementRecord.{StatementRecord}
use Rattle.statement_views.specs.declared.sessions.SessionRecord.{SessionRecord}
use Rattle.session_book.specs.Statements.{IsRising}
use Rattle.session_book.proofs.Sessions.{session_order}

bytes_less : (a b : List ℕ) → slice_cmp nat_cmp a b ≡ Less → bytes_before a b ≡ true
bytes_less [] [] e = absurd cc
bytes_less [] (y ∷ ys) e = refl
bytes_less (x ∷ xs) [] e = absurd cc
bytes_less (x ∷ xs) (y ∷ ys) e = by_first (nat_cmp x y) refl e (bytes_less xs ys)
  where
    by_first : (o : Ordering) → nat_cmp x y ≡ o → ordering_then o (slice_cmp nat_cmp xs ys) ≡ Less → (slice_cmp nat_cmp xs ys ≡ Less → bytes_before xs ys ≡ true) →
        (nat_lt x y || ((x == y) && bytes_before xs ys)) ≡ true
    by_first Less o e rest = grind (arith, nat_tests, o)
    by_first Equal o e rest = let more = rest e in grind (arith, nat_tests, o, more)
    by_first Greater o e rest = absurd cc

routers_less : (a b c d e f : ℕ) → ordering_then (nat_cmp a b) (ordering_then (nat_cmp c d) (nat_cmp e f)) ≡ Less →
    (nat_lt a b || ((a == b) && (nat_lt c d || ((c == d) && nat_lt e f)))) ≡ true
routers_less a b c d e f less = grind (arith, nat_tests, less)

pub comes_before : (a b : Session) → session_order a b ≡ Less → session_before (session_view a) (session_view b) ≡ true
comes_before (Client a) (Client b) e = bytes_less a b e
comes_before (Client a) (Router m k q) e = refl
comes_before (Router n l r) (Client b) e = absurd cc
comes_before (Router n l r) (Router m k q) e = routers_less n.0 m.0 l k r q e

-- the indexes of statements rise
rise_from : (last : Option ℕ) (first : StatementRecord) (statements : List StatementRecord) → IsRising (first ∷ statements) → is_next nat_lt last first.index ≡ true →
    indices_rise last (map statement_record_view (first ∷ statements)) ≡ true
rise_from last first [] rising next = rw next refl
rise_from last first (s ∷ statements) rising next =
    let less : first.index < s.index = rising 0 1 s (omega arith) (omega arith) in
    let after : nat_lt first.index s.index ≡ true = grind (arith, nat_tests, less) in
    rw (next, rise_from (Some first.index) s statements (λ i j d lt inside. rising (suc i) (suc j) d (omega (arith, lt)) (omega (arith, inside))) after) refl

pub indices_are : (statements : List StatementRecord) → IsRising statements → indices_rise None (map statement_record_view statements) ≡ true
indices_are [] rising = refl
indices_are (s ∷ statements) rising = rise_from None s statements rising refl

abbrev pub last_of : List SessionRecord → Option history.Session
last_of [] = None
last_of (r ∷ []) = Some (session_view r.session)
last_of (r ∷ q ∷ records) = last_of (q ∷ records)

-- records in order: what follows them is in order after the last one
abbrev pub Rise : List SessionRecord → Type 0
Rise records = (tail : List sessions.SessionRecord) → sessions_rise None (map session_record_view records ++ tail) ≡ sessions_rise (last_of records) tail

-- each key comes after the last record
abbrev pub AreAfter : Option history.Session → List Session → Type 0
AreAfter last keys = AllByRecursion (λ k. is_next session_before last (session_view k) ≡ true) keys

last_push : (records : List SessionRecord) (r : SessionRecord) → last_of (records ++ r ∷ []) ≡ Some (session_view r.session)
last_push [] r = refl
last_push (q ∷ []) r = refl
last_push (q ∷ p ∷ records) r = last_push (p ∷ records) r

rise_push : (records : List SessionRecord) (r : SessionRecord) → Rise records → is_next session_before (last_of records) (session_view r.session) ≡ true →
    IsRising r.statements.items → Rise (records ++ r ∷ [])
rise_push records r rise next rising tail =
    ap (λ (rs : List sessions.SessionRecord). sessions_rise None (rs ++ tail)) (map-append session_record_view records (r ∷ []))
    ∙ ap (λ (rs : List sessions.SessionRecord). sessions_rise None rs) (append_assoc (map session_record_view records) (session_record_view r ∷ []) tail)
    ∙ rise (session_record_view r ∷ tail)
    ∙ rw (next, indices_are r.statements.items rising) refl
    ∙ ap (λ (last : Option history.Session). sessions_rise last tail) (sym (last_push records r))

after_key : (k : Session) (keys : List Session) → AllByRecursion (λ j. session_order k j ≡ Less) keys → AreAfter (Some (session_view k)) keys
after_key k [] all = tt
after_key k (j ∷ keys) all = (comes_before k j all.0, after_key k keys all.1)

-- what floors keeps: the records rise, and the keys that are left come after them, in order
pub record Ordered (records : List SessionRecord) (keys : List Session) : Type 0 where
  pub rise : Rise records
  pub after : AreAfter (last_of records) keys
  pub sorted : IsStrictlySortedBy session_order keys

all_first : (keys : List Session) → AreAfter None keys
all_first [] = tt
all_first (k ∷ keys) = (refl, all_first keys)

pub none_yet : (keys : List Session) → IsStrictlySortedBy session_order keys → Ordered [] keys
none_yet keys sorted = record { rise = λ tail. refl; after = all_first keys; sorted = sorted }

-- a session without statements
pub passed : (records : List SessionRecord) (k : Session) (keys : List Session) → Ordered records (k ∷ keys) → Ordered records keys
unfolding IsStrictlySortedBy
passed records k keys o = record { rise = o.rise; after = o.after.1; sorted = o.sorted.1 }

-- a session that is added
pub one_added : (records : List SessionRecord) (r : SessionRecord) (keys : List Session) → Ordered records (r.session ∷ keys) → IsRising r.statements.items →
    Ordered (records ++ r ∷ []) keys
unfolding IsStrictlySortedBy
one_added records r keys o rising = record {
  rise = rise_push records r o.rise o.after.0 rising;
  after = rw (last_push records r) (after_key r.session keys o.sorted.0);
  sorted = o.sorted.1;
}

-- where none is left, all are in order
append_none : (records : List SessionRecord) → map session_record_view records ++ [] ≡ map session_record_view records
append_none [] = refl
append_none (r ∷ records) = ap (λ (rs : List sessions.SessionRecord). session_record_view r ∷ rs) (append_none records)

pub are_ordered : (records : List SessionRecord) (keys : List Session) → Ordered records keys → sessions_rise None (map session_record_view records) ≡ true
are_ordered records keys o = ap (λ (rs : List sessions.SessionRecord). sessions_rise None rs) (sym (append_none records)) ∙ o.rise []

-- one entry of the map more: its session was added, or nothing
pub order_step : (old new : List SessionRecord) (e : Session × ℕ) (left rest : List (Session × ℕ)) → left ≡ e ∷ rest → Ordered old (keys_of left) →
    ((new ≡ old) ⊎ ((r : SessionRecord) × (new ≡ old ++ r ∷ []) × (r.session ≡ e.0) × IsRising r.statements.items)) → Ordered new (keys_of rest)
order_step old new e left rest front o (inl same) =
    let here : Ordered old (e.0 ∷ keys_of rest) = subst (λ (es : List (Session × ℕ)). Ordered old (keys_of es)) front o in
    subst (λ (rs : List SessionRecord). Ordered rs (keys_of rest)) (sym same) (passed old e.0 (keys_of rest) here)
order_step old new e left rest front o (inr added) =
    let here : Ordered old (e.0 ∷ keys_of rest) = subst (λ (es : List (Session × ℕ)). Ordered old (keys_of es)) front o in
    let own : Ordered old (added.0.session ∷ keys_of rest) = subst (λ (s : Session). Ordered old (s ∷ keys_of rest)) (sym added.2) here in
    subst (λ (rs : List SessionRecord). Ordered rs (keys_of rest)) (sym added.1) (one_added old added.0 (keys_of rest) own added.3)
