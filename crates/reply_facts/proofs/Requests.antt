-- Numbers of requests and their entries: an entry under a router's own number is of one request.
use Rattle.std.proofs.Common.{◌≡◌, ◌⊎◌, inl, inr, ℕ, List, [], ◌∷◌, ◌++◌, refl, sym, ap, subst, ◌∙◌, Bool}
use Rattle.std.specs.Prelude.{true, false, Option, Some, None, ◌==◌, ◌&&◌, map, if◌then◌else◌}
use Rattle.std.specs.List.{AllByRecursion}
use Rattle.std.proofs.lemmas.Bool.{eqb-true}
use Rattle.std.proofs.lemmas.Bool.Decides.{Decides-eqb}
use Rattle.command_model.specs.Writes.{ClientNumber}
use Rattle.history_model.specs.History.{client_session, router_session, StatementNumber, Entry, IsIn}
use Rattle.history_model.proofs.Lists.{in_cons, in_first, in_later, in_none}
use Rattle.base_model.specs.Identities.{RequestId, same_request}
use Rattle.reply_model.specs.Exchanges.{Asked, Answered, number_for, is_session_of, entries_by}
use Rattle.reply_model.specs.Right.{Sends}
use Rattle.reply_model.specs.OneHistory.{ids_asked, ids_told, AreDifferent}

-- numbers that compare equal are one
pub same_id : (a b : RequestId) → same_request a b ≡ true → a ≡ b
same_id a b e = by_test (a.router == b.router) (a.life == b.life) (a.count == b.count) refl refl refl e
  where
    by_test : (x y z : Bool) → (a.router == b.router) ≡ x → (a.life == b.life) ≡ y → (a.count == b.count) ≡ z → (x && (y && z)) ≡ true → a ≡ b
    by_test true true true p q r e =
        let router : a.router ≡ b.router = eqb-true _ _ p in
        let life : a.life ≡ b.life = eqb-true _ _ q in
        let count : a.count ≡ b.count = eqb-true _ _ r in
        λ i. record { router = router i; life = life i; count = count i }
    by_test true true false p q r e = absurd (cc)
    by_test true false z p q r e = absurd (cc)
    by_test false y z p q r e = absurd (cc)

-- the session of a request's own numbers is its own
pub own_session : (id : RequestId) → same_request id id ≡ true
own_session id =
    both (id.router == id.router) ((id.life == id.life) && (id.count == id.count)) ((Decides-eqb id.router id.router).1 refl)
    (both (id.life == id.life) (id.count == id.count) ((Decides-eqb id.life id.life).1 refl) ((Decides-eqb id.count id.count).1 refl))
  where
    both : (a b : Bool) → a ≡ true → b ≡ true → (a && b) ≡ true
    both a b h k = ap (λ x. x && b) h ∙ k

-- a router's own number is of one request
pub number_same : (a b : RequestId) (given : Option ClientNumber) (i j : ℕ) → number_for None a i ≡ number_for given b j → a ≡ b
number_same a b (Some by) i j e =
    absurd (let s : router_session a.router a.life a.count ≡ client_session by.session = ap (λ (n : StatementNumber). n.session) e in cc)
number_same a b None i j e =
    let s : router_session a.router a.life a.count ≡ router_session b.router b.life b.count = ap (λ (n : StatementNumber). n.session) e in
    let router : a.router ≡ b.router = cc in
    let life : a.life ≡ b.life = cc in
    let count : a.count ≡ b.count = cc in
    λ i. record { router = router i; life = life i; count = count i }

pub own_entry : (a b : Asked) (e : Entry) (sends : Sends a e) → sends.write.number ≡ None → Sends b e → a.id ≡ b.id
own_entry a b e sends own other =
    number_same a.id b.id other.write.number sends.index other.index
    (ap (λ (given : Option ClientNumber). number_for given a.id sends.index) (sym own) ∙ sym sends.entry.statement.same_number
    ∙ other.entry.statement.same_number)

-- of different numbers each is in one place
one_place : {X : Type 0} (id_of : X → RequestId) (a b : X) (xs : List X) → AreDifferent (map id_of xs) → IsIn a xs → IsIn b xs → id_of a ≡ id_of b → a ≡ b
one_place id_of a b [] different i j same = absurd (in_none a i)
one_place {X = X} id_of a b (c ∷ xs) different i j same =
    by_place (in_cons a c xs i) (in_cons b c xs j) (λ k l. one_place id_of a b xs different.1 k l same)
  where
    other : (x : X) (ys : List X) → AllByRecursion (λ id. ¬ (id ≡ id_of c)) (map id_of ys) → IsIn x ys → id_of x ≡ id_of c → ⊥
    other x [] all k e = in_none x k
    other x (y ∷ ys) all k e = by_first (in_cons x y ys k) (λ l. other x ys all.1 l e)
      where
        by_first : (x ≡ y) ⊎ IsIn x ys → (IsIn x ys → ⊥) → ⊥
        by_first (inl z) later = all.0 (ap id_of (sym z) ∙ e)
        by_first (inr l) later = later l

    by_place : (a ≡ c) ⊎ IsIn a xs → (b ≡ c) ⊎ IsIn b xs → (IsIn a xs → IsIn b xs → a ≡ b) → a ≡ b
    by_place (inl x) (inl y) later = x ∙ sym y
    by_place (inl x) (inr k) later = absurd (other b xs different.0 k (sym same ∙ ap id_of x))
    by_place (inr k) (inl y) later = absurd (other a xs different.0 k (same ∙ ap id_of y))
    by_place (inr k) (inr l) later = later k l

pub one_asked : (a b : Asked) (asked : List Asked) → AreDifferent (ids_asked asked) → IsIn a asked → IsIn b asked → a.id ≡ b.id → a ≡ b
one_asked a b asked different i j same = one_place (λ (x : Asked). x.id) a b asked different i j same

pub one_told : (s t : Answered) (answered : List Answered) → AreDifferent (ids_told answered) → IsIn s answered → IsIn t answered → s.id ≡ t.id → s ≡ t
one_told s t answered different i j same = one_place (λ (x : Answered). x.id) s t answered different i j same

-- no reply comes after another to the same request
pub once_told : (prefix middle back : List Answered) (s t : Answered) → AreDifferent (ids_told (prefix ++ s ∷ (middle ++ t ∷ back))) → s.id ≡ t.id → ⊥
once_told (x ∷ prefix) middle back s t different same = once_told prefix middle back s t different.1 same
once_told [] middle back s t different same = behind middle different.0
  where
    behind : (ys : List Answered) → AllByRecursion (λ id. ¬ (id ≡ s.id)) (ids_told (ys ++ t ∷ back)) → ⊥
    behind [] all = all.0 (sym same)
    behind (y ∷ ys) all = behind ys all.1

-- the entries of a request are those of the history with its session
pub by_in : (id : RequestId) (history : List Entry) (e : Entry) → IsIn e (entries_by id history) → IsIn e history × (is_session_of id e.number.session ≡ true)
by_in id [] e i = absurd (in_none e i)
by_in id (d ∷ history) e i = by_test (is_session_of id d.number.session) refl i (λ j. by_in id history e j)
  where
    by_place : is_session_of id d.number.session ≡ true → (e ≡ d) ⊎ IsIn e (entries_by id history)
        → (IsIn e (entries_by id history) → IsIn e history × (is_session_of id e.number.session ≡ true))
        → IsIn e (d ∷ history) × (is_session_of id e.number.session ≡ true)
    by_place own (inl same) later = (
      subst (λ (x : Entry). IsIn x (d ∷ history)) (sym same) (in_first d history),
      ap (λ (x : Entry). is_session_of id x.number.session) same ∙ own,
    )
    by_place own (inr j) later = let l = later j in (in_later e d history l.0, l.1)

    by_test : (test : Bool) → is_session_of id d.number.session ≡ test → IsIn e (if test then d ∷ entries_by id history else entries_by id history)
        → (IsIn e (entries_by id history) → IsIn e history × (is_session_of id e.number.session ≡ true))
        → IsIn e (d ∷ history) × (is_session_of id e.number.session ≡ true)
    by_test true own j later = by_place own (in_cons e d (entries_by id history) j) later
    by_test false own j later = let l = later j in (in_later e d history l.0, l.1)

pub entry_by : (id : RequestId) (e : Entry) (entries : List Entry) → IsIn e entries → is_session_of id e.number.session ≡ true
    → IsIn e (entries_by id entries)
entry_by id e [] stands own = absurd (in_none e stands)
entry_by id e (d ∷ entries) stands own = by_place (in_cons e d entries stands) (λ i. entry_by id e entries i own)
  where
    by_test : (t : Bool) → IsIn e (entries_by id entries) → IsIn e (if t then d ∷ entries_by id entries else entries_by id entries)
    by_test true i = in_later e d (entries_by id entries) i
    by_test false i = i

    by_place : (e ≡ d) ⊎ IsIn e entries → (IsIn e entries → IsIn e (entries_by id entries)) → IsIn e (entries_by id (d ∷ entries))
    by_place (inl same) later =
        let first : is_session_of id d.number.session ≡ true = ap (λ (c : Entry). is_session_of id c.number.session) (sym same) ∙ own in
        subst (λ l. IsIn e l) (ap (λ t. if t then d ∷ entries_by id entries else entries_by id entries) (sym first))
        (subst (λ c. IsIn e (c ∷ entries_by id entries)) same (in_first e (entries_by id entries)))
    by_place (inr i) later = by_test (is_session_of id d.number.session) (later i)
