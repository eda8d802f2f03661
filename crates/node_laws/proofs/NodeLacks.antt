-- Facts stay where a node takes no step, for a lack.
use Rattle.std.proofs.Common.{◌≡◌, inl, inr, ℕ, ◌+◌, ◌<◌, ◌≤◌, List, [], ◌∷◌, ◌++◌, refl, sym, ap, subst, ◌∙◌, arith, append-nil, Bool}
use Rattle.std.specs.Prelude.{Option, Some, None, true, false, ◌==◌, if◌then◌else◌}
use Rattle.std.specs.List.{AllByRecursion, slice_get, slice_set}
use Rattle.history_model.proofs.Lists.{all_weaken, all_append, all_at, in_prefix, in_back, in_first}
use Rattle.chunk_model.specs.Tables.{first_shard}
use Rattle.history_model.specs.History.{IsIn}
use Rattle.reply_model.specs.Exchanges.{Asked, Answered}
use Rattle.reply_model.specs.Accounts.{Given, Dated, Lack, Missed, TurnedAway}
use Rattle.reply_model.specs.Outcomes.{lack_refusal}
use Rattle.command_model.specs.Answers.{refusal_answer, answer_document}
use Rattle.node_model.specs.Journal.{Kept, entries_kept}
use Rattle.node_model.specs.Letters.{At, no_time, at_time, Body, table_ask, table_told, split_ask, split_done, write_ask, write_done, read_ask, half_ask, read_rows, refused, Refused, of_request, of_table, time_ask, time_told, Letter, Input, client_input, letter_input, moment_input, opened_input, Effect, nothing, sends}
use Rattle.node_model.specs.States.{NodeState, catalogue_state, shard_state, router_state, time_of_node}
use Rattle.node_model.specs.Steps.{number_of}
use Rattle.node_model.specs.Lacks.{requested_of, refusal_to, misses}
use Rattle.node_model.specs.World.{Held, World, away_by, steps_after, after_lack}
use Rattle.node_model.proofs.Journals.{journal_got}
use Rattle.node_laws.proofs.Views.{Book, View, view_of, Later}
use Rattle.node_laws.proofs.Facts.{HasLack, BodyFits, StateFits, IsMet, SentFits, IsAwayOf, Good}
use Rattle.node_laws.proofs.Owes.{IsSaid, StaysHeard, Owes}
use Rattle.node_laws.proofs.Growth.{lack_grows, met_later, met_max}
use Rattle.node_laws.proofs.Journals.{with_more, more_self}
use Rattle.node_laws.proofs.HeardTimes.{leaves_all, still_heard}
use Rattle.node_laws.proofs.ReplySteps.{IsBased, AreBased}
use Rattle.node_laws.proofs.CausedWrites.{misses_caused}
use Rattle.node_laws.proofs.CatalogueRows.{catalogue_mails}
use Rattle.node_laws.proofs.ShardRows.{shard_mails}
use Rattle.node_laws.proofs.RouterRows.{router_rests}
use Rattle.node_laws.proofs.Moments.{moments_miss}
use Rattle.node_laws.proofs.Keeps.{turned, book_after, good_after}
use Rattle.node_laws.proofs.StepsKeep.{WasPosted, fits_here, set_set, get_set, reach_here, hears_here, rests_owe, rests_heard, HasBook, tick_good, AreTrue, MissesKeep}

-- WHAT IS RETURNED

-- the number of a node is its place
own_number : (v : View) (asked : List Asked) (answered : List Answered) (at : ℕ) (kept : List Kept) (s : NodeState) → StateFits v asked answered at kept s
    → number_of s ≡ at
own_number v asked answered at kept (catalogue_state c) f = f.own
own_number v asked answered at kept (shard_state s) f = f.own
own_number v asked answered at kept (router_state r) f = f.own

-- a time that was met, and one not above it
met_below : (v : View) (given : List Given) (early late : ℕ) → early ≤ late → IsMet v given late → IsMet v given early
met_below v given early late le (inl zero) = inl (omega (arith, le, zero))
met_below v given early late le (inr (inl (g, i, past))) = inr (inl (g, i, omega (arith, le, past)))
met_below v given early late le (inr (inr (inl (x, i, past)))) = inr (inr (inl (x, i, omega (arith, le, past))))
met_below v given early late le (inr (inr (inr (e, i, past)))) = inr (inr (inr (e, i, omega (arith, le, past))))

-- a time that a request for a table names is not above the message's
abbrev NamesPast : Refused → ℕ → Type 0
NamesPast (of_request id turn first) time = Unit {0}
NamesPast (of_table namespace create no_time) time = Unit {0}
NamesPast (of_table namespace create (at_time at)) time = at ≤ time

some_same : {X : Type 0} {x y : X} → Some x ≡ Some y → x ≡ y
some_same e = cc

none_same : {X : Type 0} {x : X} → None ≡ Some x → ⊥
none_same e = cc

table_past : (v : View) (asked : List Asked) (sender receiver time : ℕ) (namespace : List ℕ) (create : Bool) (at : At)
    → BodyFits v asked sender receiver time (table_ask namespace create at) → NamesPast (of_table namespace create at) time
table_past v asked sender receiver time namespace create no_time f = tt
table_past v asked sender receiver time namespace true (at_time at) f = f.0
table_past v asked sender receiver time namespace false (at_time at) f = f

names_past : (v : View) (asked : List Asked) (sender receiver time : ℕ) (s : NodeState) (b : Body) (what : Refused) → BodyFits v asked sender receiver time b
    → requested_of s b ≡ Some what → NamesPast what time
names_past v asked sender receiver time (router_state r) b what f is = absurd (none_same is)
names_past v asked sender receiver time (catalogue_state c) (table_ask namespace create at) what f is =
    subst (λ x. NamesPast x time) (some_same is) (table_past v asked sender receiver time namespace create at f)
names_past v asked sender receiver time (catalogue_state c) (split_ask id namespace middle) what f is = subst (λ x. NamesPast x time) (some_same is) tt
names_past v asked sender receiver time (catalogue_state c) (table_told namespace create at table) what f is = absurd (none_same is)
names_past v asked sender receiver time (catalogue_state c) (split_done id found) what f is = absurd (none_same is)
names_past v asked sender receiver time (catalogue_state c) (write_ask id turn ordered namespace statements sent) what f is = absurd (none_same is)
names_past v asked sender receiver time (catalogue_state c) (write_done id dones) what f is = absurd (none_same is)
names_past v asked sender receiver time (catalogue_state c) (read_ask id turn namespace at half sent) what f is = absurd (none_same is)
names_past v asked sender receiver time (catalogue_state c) (half_ask id turn namespace at half documents) what f is = absurd (none_same is)
names_past v asked sender receiver time (catalogue_state c) (read_rows id turn rows) what f is = absurd (none_same is)
names_past v asked sender receiver time (catalogue_state c) (refused own cause) what f is = absurd (none_same is)
names_past v asked sender receiver time (catalogue_state c) (time_ask id) what f is = absurd (none_same is)
names_past v asked sender receiver time (catalogue_state c) (time_told id) what f is = absurd (none_same is)
names_past v asked sender receiver time (shard_state s) (write_ask id turn ordered namespace [] sent) what f is = subst (λ x. NamesPast x time) (some_same is) tt
names_past v asked sender receiver time (shard_state s) (write_ask id turn ordered namespace (x ∷ statements) sent) what f is =
    subst (λ x. NamesPast x time) (some_same is) tt
names_past v asked sender receiver time (shard_state s) (read_ask id turn namespace at half sent) what f is = subst (λ x. NamesPast x time) (some_same is) tt
names_past v asked sender receiver time (shard_state s) (half_ask id turn namespace at half documents) what f is =
    subst (λ x. NamesPast x time) (some_same is) tt
names_past v asked sender receiver time (shard_state s) (time_ask id) what f is = subst (λ x. NamesPast x time) (some_same is) tt
names_past v asked sender receiver time (shard_state s) (table_ask namespace create at) what f is = absurd (none_same is)
names_past v asked sender receiver time (shard_state s) (table_told namespace create at table) what f is = absurd (none_same is)
names_past v asked sender receiver time (shard_state s) (split_ask id namespace middle) what f is = absurd (none_same is)
names_past v asked sender receiver time (shard_state s) (split_done id found) what f is = absurd (none_same is)
names_past v asked sender receiver time (shard_state s) (write_done id dones) what f is = absurd (none_same is)
names_past v asked sender receiver time (shard_state s) (read_rows id turn rows) what f is = absurd (none_same is)
names_past v asked sender receiver time (shard_state s) (refused own cause) what f is = absurd (none_same is)
names_past v asked sender receiver time (shard_state s) (time_told id) what f is = absurd (none_same is)

-- what says so fits
says_lack : (v : View) (asked : List Asked) (given : List Given) (me time sender late : ℕ) (what : Refused) (lack : Lack) → HasLack v me lack → IsMet v given time
    → IsMet v given late → NamesPast what late → IsSaid v asked given (refusal_to me time sender what lack)
says_lack v asked given me time sender late (of_request id turn first) lack had met other past = (had, met, tt)
says_lack v asked given me time sender late (of_table namespace create no_time) lack had met other past = (had, met, tt)
says_lack v asked given me time sender late (of_table namespace create (at_time at)) lack had met other past =
    (had, met_max v given time at met (met_below v given at late past other), tt)

-- an input says what was sent, where it is a message
abbrev SaysIn : World → Book → Input → Type 0
SaysIn w book (letter_input m) = SentFits (view_of w.nodes book) w.changed w.asked w.answered w.given m
SaysIn w book (client_input link number request) = Unit {0}
SaysIn w book (moment_input moment) = Unit {0}
SaysIn w book opened_input = Unit {0}

says_in : (w : World) (book : Book) (i : Input) → Good w book → WasPosted w i → SaysIn w book i
says_in w book (letter_input m) good there = all_at (SentFits (view_of w.nodes book) w.changed w.asked w.answered w.given) m w.sent good.letters there
says_in w book (client_input link number request) good there = tt
says_in w book (moment_input moment) good there = tt
says_in w book opened_input good there = tt

mail_fits : (w : World) (book : Book) (u : View) (asked : List Asked) (s : NodeState) (lack : Lack) (i : Input) → Later (view_of w.nodes book) u
    → HasLack u (number_of s) lack → IsMet u w.given (time_of_node s) → SaysIn w book i → AllByRecursion (IsSaid u asked w.given) (misses s lack i).mail
mail_fits w book u asked s lack (letter_input m) later had met f = by_own (m.receiver == number_of s)
  where
    by_asked : (o : Option Refused) → requested_of s m.body ≡ o → AllByRecursion (IsSaid u asked w.given) (elim o as (λ (x : Option Refused). Effect) [
      | None ↦ nothing
      | Some what ↦ sends (refusal_to (number_of s) (time_of_node s) m.sender what lack ∷ [])
    ]).mail
    by_asked None is = tt
    by_asked (Some what) is = (
      says_lack u asked w.given (number_of s) (time_of_node s) m.sender m.time what lack had met (met_later (view_of w.nodes book) u w.given m.time later f.1)
          (names_past (view_of w.nodes book) w.asked m.sender m.receiver m.time s m.body what f.0 is),
      tt,
    )

    by_own : (b : Bool) → AllByRecursion (IsSaid u asked w.given) (if b then elim (requested_of s m.body) as (λ (x : Option Refused). Effect) [
      | None ↦ nothing
      | Some what ↦ sends (refusal_to (number_of s) (time_of_node s) m.sender what lack ∷ [])
    ] else nothing).mail
    by_own true = by_asked (requested_of s m.body) refl
    by_own false = tt
mail_fits w book u asked (catalogue_state c) lack (client_input link number request) later had met f = tt
mail_fits w book u asked (shard_state s) lack (client_input link number request) later had met f = tt
mail_fits w book u asked (router_state r) lack (client_input link number request) later had met f = tt
mail_fits w book u asked s lack (moment_input moment) later had met f = tt
mail_fits w book u asked s lack opened_input later had met f = tt

-- a router returns none
abbrev NoMail : NodeState → List Letter → Type 0
NoMail (catalogue_state c) mail = Unit {0}
NoMail (shard_state s) mail = Unit {0}
NoMail (router_state r) mail = mail ≡ []

no_mail : (w : World) (s : NodeState) (lack : Lack) (i : Input) → NoMail s (misses s lack i).mail
no_mail w (catalogue_state c) lack i = tt
no_mail w (shard_state t) lack i = tt
no_mail w (router_state r) lack (client_input link number request) = refl
no_mail w (router_state r) lack (moment_input moment) = refl
no_mail w (router_state r) lack opened_input = refl
no_mail w (router_state r) lack (letter_input m) = by_own (m.receiver == r.me)
  where
    by_own : (b : Bool) → (if b then nothing else nothing).mail ≡ []
    by_own true = refl
    by_own false = refl

-- a request that a router does not take is refused
away_fits : (missed : List Missed) (x : Missed) (at : ℕ) (s : NodeState) (i : Input) → IsIn x missed → x.node ≡ at → number_of s ≡ at
    → AllByRecursion (IsAwayOf missed) (away_by at x.step (misses s x.lack i).away)
away_fits missed x at (catalogue_state c) (client_input link number request) had own me = tt
away_fits missed x at (shard_state s) (client_input link number request) had own me = tt
away_fits missed x at (router_state r) (client_input link number request) had own me =
    (record { lack = x; had = had; own = own; during = refl; same = ap (λ n. answer_document (refusal_answer (lack_refusal n x.lack))) me }, tt)
away_fits missed x at s (moment_input moment) had own me = tt
away_fits missed x at s opened_input had own me = tt
away_fits missed x at s (letter_input m) had own me = by_own (m.receiver == number_of s)
  where
    by_asked : (o : Option Refused) → AllByRecursion (IsAwayOf missed) (away_by at x.step (elim o as (λ (y : Option Refused). Effect) [
      | None ↦ nothing
      | Some what ↦ sends (refusal_to (number_of s) (time_of_node s) m.sender what x.lack ∷ [])
    ]).away)
    by_asked None = tt
    by_asked (Some what) = tt

    by_own : (b : Bool) → AllByRecursion (IsAwayOf missed) (away_by at x.step (if b then elim (requested_of s m.body) as (λ (y : Option Refused). Effect) [
      | None ↦ nothing
      | Some what ↦ sends (refusal_to (number_of s) (time_of_node s) m.sender what x.lack ∷ [])
    ] else nothing).away)
    by_own true = by_asked (requested_of s m.body)
    by_own false = tt

away_still : (missed : List Missed) (x : Missed) (y : TurnedAway) → IsAwayOf missed y → IsAwayOf (missed ++ x ∷ []) y
away_still missed x y h = record { lack = h.lack; had = in_prefix h.lack missed (x ∷ []) h.had; own = h.own; during = h.during; same = h.same }

-- THE STEP

-- only messages are sent
mails_owe : (w : World) (book : Book) (at : ℕ) (kept : List Kept) (steps : ℕ) (s : NodeState) (mail : List Letter) → Good w book
    → slice_get w.nodes at ≡ Some (record { state = s; kept = kept; steps = steps })
    → NoMail s mail
    → ((v : View) → Later (view_of w.nodes book) v → AllByRecursion (IsSaid v w.asked w.given) mail)
    → Owes w book at (record { state = s; kept = kept }) (sends mail) s
mails_owe w book at kept steps (catalogue_state c) mail good here none letters = catalogue_mails w book at kept c mail good (fits_here w book at _ good here) letters
mails_owe w book at kept steps (shard_state s) mail good here none letters =
    shard_mails w book at kept s mail good (journal_got w.nodes at _ here) (fits_here w book at _ good here) letters
mails_owe w book at kept steps (router_state r) mail good here none letters =
    subst (λ l. Owes w book at (record { state = router_state r; kept = kept }) (sends l) (router_state r)) (sym none)
    (router_rests w book at kept r good (reach_here w book at _ good here) (fits_here w book at _ good here))

mails_heard : (w : World) (book : Book) (at : ℕ) (kept : List Kept) (steps : ℕ) (s : NodeState) (mail : List Letter) → Good w book
    → slice_get w.nodes at ≡ Some (record { state = s; kept = kept; steps = steps }) → StaysHeard w at (sends mail) s
mails_heard w book at kept steps (catalogue_state c) mail good here = λ v others. tt
mails_heard w book at kept steps (shard_state s) mail good here = λ v others. tt
mails_heard w book at kept steps (router_state r) mail good here = λ v others.
    still_heard (view_of w.nodes book) v w.asked w.answered w.now r r opened_input (sends mail)
    (let place = (fits_here w book at (record { state = router_state r; kept = kept; steps = steps }) good here).state.place in
    ap (λ l. entries_kept l) (others first_shard (λ e. omega (arith, e, place))))
    good.came good.one tt (hears_here w book at _ good here) (leaves_all r _ _ r (λ n. refl) refl (omega arith) refl)

pub misses_keep : MissesKeep
misses_keep w v at i there (known, moments, told, based, caused) m = (
  subst (λ x. HasBook x) (sym m.then) (record { book = book_two; good = tick_good (after_lack w at m.old m.lack Back) book_two good_three }),
  moments_miss w v at i moments m,
  subst (λ x. AreTrue x) (sym m.then) told,
  subst (λ x. AreBased x) (sym m.then) (record {
    steps = all_weaken (λ (d : Dated). d.step < w.now) (λ (d : Dated). d.step < w.now + 1) w.changed (λ d l. omega arith) based.steps;
    replies = all_weaken (IsBased w.now w.changed) (IsBased (w.now + 1) w.changed) w.answered
        (λ t h. let before = h.before in record { before = omega (arith, before); rests = h.rests }) based.replies;
  }),
  misses_caused w v known.book at i known.good caused m,
)
  where
    Back : Effect
    Back = misses m.old.state m.lack i

    x : Missed
    x = record { node = at; lack = m.lack; step = w.now }

    Steps : ℕ
    Steps = steps_after m.lack m.old.steps

    AllMissed : List Missed
    AllMissed = w.missed ++ x ∷ []

    AllAway : List TurnedAway
    AllAway = w.away ++ away_by at w.now Back.away

    good : Good w known.book
    good = known.good

    me : number_of m.old.state ≡ at
    me = own_number (view_of w.nodes known.book) w.asked w.answered at m.old.kept m.old.state (fits_here w known.book at m.old good m.here).state

    owes_one : Owes w known.book at (record { state = m.old.state; kept = m.old.kept }) nothing m.old.state
    owes_one = rests_owe w known.book at m.old.kept m.old.steps m.old.state good m.here

    w_one : World
    w_one = turned w at m.old nothing m.old.state Steps AllMissed AllAway

    book_one : Book
    book_one = book_after w known.book at m.old nothing m.old.state AllMissed owes_one

    good_one : Good w_one book_one
    good_one = good_after w known.book at m.old nothing m.old.state Steps AllMissed AllAway good m.here (record { news = x ∷ []; same = refl })
        (all_append (λ (y : Missed). y.step < w.now + 1) w.missed (x ∷ []) good.lacks (omega arith, tt))
        (all_append (IsAwayOf AllMissed) w.away (away_by at w.now Back.away)
        (all_weaken (IsAwayOf w.missed) (IsAwayOf AllMissed) w.away (λ y h. away_still w.missed x y h) good.away)
        (away_fits AllMissed x at m.old.state i (in_back x w.missed (x ∷ []) (in_first x [])) refl me))
        (inr tt) (rests_heard w known.book at m.old.kept m.old.steps m.old.state good m.here) owes_one

    held_one : Held
    held_one = with_more m.old [] m.old.state Steps

    here_one : slice_get w_one.nodes at ≡ Some held_one
    here_one = get_set w.nodes at m.old held_one m.here

    said : SaysIn w_one book_one i
    said = says_in w_one book_one i good_one (posted i there)
      where
        posted : (j : Input) → WasPosted w j → WasPosted w_one j
        posted (letter_input l) p = in_prefix l w.sent [] p
        posted (client_input link number request) p = tt
        posted (moment_input moment) p = tt
        posted opened_input p = tt

    had : HasLack (view_of w_one.nodes book_one) (number_of m.old.state) m.lack
    had = record { missed = x; had = in_back x w.missed (x ∷ []) (in_first x []); own = sym me; same = refl }

    owes_two : Owes w_one book_one at (record { state = m.old.state; kept = held_one.kept }) (sends Back.mail) m.old.state
    owes_two = mails_owe w_one book_one at held_one.kept Steps m.old.state Back.mail good_one here_one (no_mail w m.old.state m.lack i)
        (λ u later. mail_fits w_one book_one u w_one.asked m.old.state m.lack i later (lack_grows (view_of w_one.nodes book_one) u (number_of m.old.state) m.lack later had)
        (met_later (view_of w_one.nodes book_one) u w_one.given (time_of_node m.old.state) later (fits_here w_one book_one at held_one good_one here_one).met) said)

    book_two : Book
    book_two = book_after w_one book_one at held_one (sends Back.mail) m.old.state AllMissed owes_two

    good_two : Good (turned w_one at held_one (sends Back.mail) m.old.state Steps AllMissed AllAway) book_two
    good_two = good_after w_one book_one at held_one (sends Back.mail) m.old.state Steps AllMissed AllAway good_one here_one (more_self AllMissed) good_one.lacks
        good_one.away (inr tt) (mails_heard w_one book_one at held_one.kept Steps m.old.state Back.mail good_one here_one) owes_two

    good_three : Good (after_lack w at m.old m.lack Back) book_two
    good_three =
        let n = set_set w.nodes at held_one (record { state = m.old.state; kept = (m.old.kept ++ []) ++ []; steps = Steps })
        ∙ ap (λ (l : List Kept). slice_set w.nodes at (record { state = m.old.state; kept = l; steps = Steps }))
        (append-nil (m.old.kept ++ []) ∙ append-nil m.old.kept) in
        let s = ap (λ l. l ++ Back.mail) (append-nil w.sent) in
        let a = append-nil (w.asked ++ []) ∙ append-nil w.asked in
        let d = append-nil (w.answered ++ []) ∙ append-nil w.answered in
        let same : turned w_one at held_one (sends Back.mail) m.old.state Steps AllMissed AllAway ≡ after_lack w at m.old m.lack Back = λ j. record {
          nodes = n j;
          sent = s j;
          asked = a j;
          answered = d j;
          given = w.given;
          learned = w.learned;
          missed = AllMissed;
          away = AllAway;
          changed = w.changed;
          now = w.now;
        } in
        subst (λ y. Good y book_two) same good_two
