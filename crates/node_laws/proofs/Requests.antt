-- What new requests and answers leave of the facts on old ones.
use Rattle.std.proofs.Common.{◌≡◌, ◌≢◌, ℕ, ◌+◌, ◌<◌, List, [], ◌∷◌, ◌++◌, refl, sym, ap, ◌∙◌, arith, Bool}
use Rattle.std.specs.Prelude.{Option, Some, None, true, false, if◌then◌else◌}
use Rattle.std.specs.List.{AllByRecursion}
use Rattle.history_model.proofs.Lists.{all_weaken, all_append, all_at}
use Rattle.command_model.specs.Writes.{ClientNumber}
use Rattle.history_model.specs.History.{Session, client_session, router_session, StatementNumber, Entry}
use Rattle.base_model.specs.Identities.{RequestId, same_request}
use Rattle.reply_model.specs.Exchanges.{Asked, Answered, number_for, is_session_of, entries_by}
use Rattle.reply_model.specs.Right.{Sends}
use Rattle.reply_model.specs.OneHistory.{StandsInPart, IsNotBefore, IsFresh, ids_asked, AreDifferent}
use Rattle.node_model.specs.Letters.{Taken, Reply}
use Rattle.node_model.specs.World.{asked_by, answered_by}
use Rattle.reply_facts.proofs.Requests.{same_id}
use Rattle.reply_facts.proofs.Statements.{part_none}
use Rattle.node_laws.proofs.Views.{Reach}
use Rattle.node_laws.proofs.WriteFacts.{WasMade}
use Rattle.node_laws.proofs.Lists.{all_of}
use Rattle.node_laws.proofs.SeenStatements.{own_session}

-- a request that is new: none before has its number
abbrev pub IsNew : List Asked → Asked → Type 0
IsNew asked a = AllByRecursion (λ (b : Asked). b.id ≢ a.id) asked

-- the requests after others of different numbers are new
pub new_ones : (asked more : List Asked) → AreDifferent (ids_asked (asked ++ more)) → AllByRecursion (IsNew asked) more
new_ones [] more all = all_of (IsNew []) more (λ a. tt)
new_ones (b ∷ asked) more all = joined more (behind asked more all.0) (new_ones asked more all.1)
  where
    behind : (xs ys : List Asked) → AllByRecursion (λ other. ¬ (other ≡ b.id)) (ids_asked (xs ++ ys)) → AllByRecursion (λ (a : Asked). a.id ≢ b.id) ys
    behind [] [] all = tt
    behind [] (y ∷ ys) all = (all.0, behind [] ys all.1)
    behind (x ∷ xs) ys all = behind xs ys all.1

    joined : (ys : List Asked) → AllByRecursion (λ (a : Asked). a.id ≢ b.id) ys → AllByRecursion (IsNew asked) ys → AllByRecursion (IsNew (b ∷ asked)) ys
    joined [] ps qs = tt
    joined (y ∷ ys) ps qs = (((λ e. ps.0 (sym e)), qs.0), joined ys ps.1 qs.1)

-- a session of one request is none of another
pub other_made : (a b : RequestId) (session : Session) → a ≢ b → is_session_of a session ≡ true → is_session_of b session ≡ false
other_made a b (client_session name) other own = absurd (cc)
other_made a b (router_session node life request) other own = by_test (same_request (record { router = node; life = life; count = request }) b) refl
  where
    by_test : (t : Bool) → same_request (record { router = node; life = life; count = request }) b ≡ t
        → same_request (record { router = node; life = life; count = request }) b ≡ false
    by_test true e = absurd (other (sym (same_id (record { router = node; life = life; count = request }) a own)
        ∙ same_id (record { router = node; life = life; count = request }) b e))
    by_test false e = e

-- a number of one request is under no session of another
pub other_number : (given : Option ClientNumber) (a b : RequestId) (index : ℕ) → a ≢ b → is_session_of b (number_for given a index).session ≡ false
other_number None a b index other = other_made a b (router_session a.router a.life a.count) other (own_session a)
other_number (Some by) a b index other = refl

pub other_sent : (a : Asked) (b : RequestId) (e : Entry) → Sends a e → a.id ≢ b → is_session_of b e.number.session ≡ false
other_sent a b e sends other =
    ap (λ (n : StatementNumber). is_session_of b n.session) sends.entry.statement.same_number ∙ other_number sends.write.number a.id b sends.index other

-- a new request made no entry
pub none_by : (entries : List Entry) (asked : List Asked) (notes : List Reach) (a : Asked) (history : List Entry) → IsNew asked a
    → AllByRecursion (WasMade entries asked notes) history
    → entries_by a.id history ≡ []
none_by entries asked notes a [] new sent = refl
none_by entries asked notes a (e ∷ history) new sent =
    let s = sent.0 in
    let other : s.request.id ≢ a.id = all_at (λ (b : Asked). b.id ≢ a.id) s.request asked new s.taken in
    ap (λ t. if t then e ∷ entries_by a.id history else entries_by a.id history) (other_sent s.request a.id e s.sends other)
    ∙ none_by entries asked notes a history new sent.1

-- so of each request a prefix is stored, also of new ones
pub parts_grow : (asked more : List Asked) (notes : List Reach) (history entries : List Entry) → AreDifferent (ids_asked (asked ++ more))
    → AllByRecursion (WasMade history asked notes) entries
    → AllByRecursion (StandsInPart entries) asked → AllByRecursion (StandsInPart entries) (asked ++ more)
parts_grow asked more notes history entries different sent parts =
    all_append (StandsInPart entries) asked more parts
    (all_weaken (IsNew asked) (StandsInPart entries) more
    (λ a new write asks own. part_none entries a.id write (none_by history asked notes a entries new sent))
    (new_ones asked more different))

-- what is answered in this step is answered in it, by this router
pub answered_now : (now : ℕ) (replies : List Reply) → AllByRecursion (λ (t : Answered). t.step ≡ now) (answered_by now replies)
answered_now now [] = tt
answered_now now (x ∷ replies) = (refl, answered_now now replies)

pub answered_here : (now at : ℕ) (replies : List Reply) → AllByRecursion (λ (x : Reply). x.id.router ≡ at) replies
    → AllByRecursion (λ (t : Answered). t.id.router ≡ at) (answered_by now replies)
answered_here now at [] all = tt
answered_here now at (x ∷ replies) all = (all.0, answered_here now at replies all.1)

pub asked_now : (now : ℕ) (taken : List Taken) → AllByRecursion (λ (a : Asked). a.came ≡ now) (asked_by now taken)
asked_now now [] = tt
asked_now now (x ∷ taken) = (refl, asked_now now taken)

pub asked_here : (now at : ℕ) (taken : List Taken) → AllByRecursion (λ (x : Taken). x.id.router ≡ at) taken
    → AllByRecursion (λ (a : Asked). a.id.router ≡ at) (asked_by now taken)
asked_here now at [] all = tt
asked_here now at (x ∷ taken) all = (all.0, asked_here now at taken all.1)

-- what is replied in a step was not replied before a request that came in it or earlier
pub still_fresh : (answered news : List Answered) (now : ℕ) (a : Asked) → a.came < now + 1 → AllByRecursion (λ (t : Answered). t.step ≡ now) news
    → IsFresh answered a → IsFresh (answered ++ news) a
still_fresh answered news now a came told fresh =
    all_append (IsNotBefore a) answered news fresh
    (all_weaken (λ (t : Answered). t.step ≡ now) (IsNotBefore a) news (λ t e time router life before told. absurd (omega arith)) told)
