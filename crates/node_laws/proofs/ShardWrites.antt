-- Where a shard serves a request and stores its entries, all facts stay.
use Rattle.std.proofs.Common.{◌≡◌, ◌⊎◌, inl, inr, ℕ, ◌+◌, ◌<◌, ◌≤◌, List, [], ◌∷◌, ◌++◌, refl, sym, ap, subst, ◌∙◌, arith, append-nil, Bool}
use Rattle.std.specs.Prelude.{Option, Some, None, true, false, max, map, length, drop}
use Rattle.std.specs.List.{AllByRecursion}
use Rattle.history_model.proofs.Lists.{all_weaken, all_both, all_append, all_at, all_from, in_back}
use Rattle.chunk_model.specs.Tables.{first_shard}
use Rattle.history_model.specs.History.{StatementNumber, Operation, Entry, IsIn, Legal}
use Rattle.command_model.specs.Writes.{ClientNumber}
use Rattle.base_model.specs.Identities.{RequestId}
use Rattle.reply_model.specs.Exchanges.{Asked, number_for, entries_by}
use Rattle.reply_model.specs.Outcomes.{Done}
use Rattle.reply_model.specs.Right.{ends, AreStatements, IsPart}
use Rattle.reply_facts.proofs.Statements.{ordered_part, part_ordered, part_single}
use Rattle.reply_model.specs.OneHistory.{StandsInPart, IsPlaced, AreNumbered}
use Rattle.node_model.specs.Journal.{Kept, kept_entry, entries_kept, time_kept, greatest_kept}
use Rattle.node_model.specs.Letters.{Statement, write_done, Letter}
use Rattle.node_model.specs.States.{Shard, shard_state}
use Rattle.node_model.specs.Service.{Serves, serves_no_more, serves_again, serves_new, ends_again, ends_new}
use Rattle.node_model.specs.RouterRequests.{statements_from}
use Rattle.node_model.specs.ShardRows.{heard, greatest_entry, says}
use Rattle.node_model.specs.World.{World, journal_at}
use Rattle.node_laws.proofs.Views.{Reach, reach_of, Book, View, view_of, entries_in, changes_in, IsShardAt, history_in, IsAbove}
use Rattle.node_laws.proofs.WriteFacts.{AreAnswers, OnlyLast, AreDoneBefore, WasMade}
use Rattle.node_laws.proofs.Facts.{Node, IsKnownTable, IsOwned, IsStatementOf, AreNext, IsWriteOf, HasBegun, IsDoneOf, ParkedFits, ShardFits, IsMet, Good}
use Rattle.node_laws.proofs.Owes.{Owes}
use Rattle.node_laws.proofs.Lists.{all_mapped}
use Rattle.node_laws.proofs.GreatestTimes.{greatest_both, greatest_entries, greatest_made, within_more}
use Rattle.node_laws.proofs.LongerJournals.{entries_longer, IsNewAt, still_grows}
use Rattle.node_laws.proofs.Histories.{shard_entries, entry_of_shard}
use Rattle.node_laws.proofs.Growth.{entry_grows, made_later, known_grows, placed_grows, met_later}
use Rattle.node_laws.proofs.NotedOutcomes.{HasNoOther, made_no_other, answers_stand}
use Rattle.node_laws.proofs.SeenStatements.{true_false}
use Rattle.node_laws.proofs.CatalogueTables.{placed_first}
use Rattle.node_laws.proofs.SingleParts.{IsFrom, singles}
use Rattle.node_laws.proofs.ServedStatements.{AreUpTo, Rises, IsEntryOf, up_to_later, serves_rises, serves_legal, serves_numbered, legal_joined, serves_entries, serves_told, serves_last}
use Rattle.node_laws.proofs.MadeEntries.{drop_statements, parted, few_answers, front_done, IsMadeAt, serves_made}
use Rattle.node_laws.proofs.RequestParts.{owned_by_first, owned_placed, ask_own, request_part, IsBy, parts_longer}
use Rattle.node_laws.proofs.ShardSteps.{wrote, parked_later, AreToldBy, told_done, begun_owned}

abbrev pub held_shard : Shard → List Kept → Node
held_shard s kept = record { state = shard_state s; kept = kept }

-- a shard that fits in a world, at its place
pub record Stood (w : World) (book : Book) (at : ℕ) (kept : List Kept) (s : Shard) : Type 0 where
  pub good : Good w book
  pub here : journal_at w.nodes at ≡ kept
  pub fits : ShardFits (view_of w.nodes book) w.asked at kept s
  pub met : IsMet (view_of w.nodes book) w.given s.time
  pub within : greatest_kept kept ≤ s.time

pub heard_later : (s : Shard) (m : Letter) → s.time ≤ heard s m
heard_later s m = omega arith

entries_only : (made : List Entry) → entries_kept (map kept_entry made) ≡ made
entries_only [] = refl
entries_only (e ∷ made) = ap (λ l. e ∷ l) (entries_only made)

kept_above : (at time : ℕ) (made : List Entry) → IsShardAt at → AllByRecursion (IsNewAt at time) made → AllByRecursion (IsAbove at time) (map kept_entry made)
kept_above at time made place all = all_mapped (IsAbove at time) kept_entry made
    (all_weaken (IsNewAt at time) (λ (e : Entry). (e.shard ≡ at) × (time < e.time) × IsShardAt at) made (λ e h. (h.0, h.1, place)) all)

-- what is served of a request that fits
pub record Served (w : World) (book : Book) (at : ℕ) (s : Shard) (time : ℕ) (id : RequestId) (dones : List Done) (made : List Entry) (last : ℕ) : Type 0 where
  pub rises : Rises time made last
  pub past : AreUpTo last (s.entries ++ made)
  pub legal : Legal (s.entries ++ made)
  pub sent : AllByRecursion (WasMade (s.entries ++ made) w.asked book.reached) made
  pub numbers : AreNumbered (s.entries ++ made)
  pub placed : AllByRecursion (IsPlaced (changes_in (view_of w.nodes book))) made
  pub parts : AllByRecursion (StandsInPart (s.entries ++ made)) w.asked
  pub own : AllByRecursion (λ (e : Entry). e.shard ≡ s.me) made
  pub told : AreToldBy (view_of w.nodes book) w.asked (s.entries ++ made) last id dones

-- the journal at the shard's place has its entries, which are the history's
own_entries : (w : World) (book : Book) (at : ℕ) (kept : List Kept) (s : Shard) → Stood w book at kept s → IsShardAt at
    → history_in (view_of w.nodes book) ≡ s.entries
own_entries w book at kept s is place = sym (shard_entries (view_of w.nodes book) at place)
    ∙ ap (λ k. entries_kept k) is.here ∙ sym is.fits.entries

part_moved : (a : RequestId) (from into : List ℕ) (x y : Bool) (operations : List Operation) (entries : List Entry) → from ≡ into → x ≡ y
    → AreStatements a from x 0 operations (entries_by a entries) → AreStatements a into y 0 operations (entries_by a entries)
part_moved a from into x y operations entries name order part =
    subst (λ n. AreStatements a n y 0 operations (entries_by a entries)) name
    (subst (λ o. AreStatements a from o 0 operations (entries_by a entries)) order part)

-- the statements that are served, where some have outcomes
pub first_served : (shard : ℕ) (namespace : List ℕ) (ordered : Bool) (entries : List Entry) (time : ℕ) (statements : List Statement) (dones : List Done)
    (made : List Entry) (last : ℕ) → Serves shard namespace ordered entries time statements dones made last
    → (dones ≡ []) ⊎ ((s : Statement) × (rest : List Statement) × (statements ≡ s ∷ rest))
first_served shard namespace ordered _ _ _ _ _ _ (serves_no_more entries time rest) = inl refl
first_served shard namespace ordered _ _ _ _ _ _ (serves_again entries time s rest d dones made last seen on more) = inr (s, rest, refl)
first_served shard namespace ordered _ _ _ _ _ _ (serves_new entries time s rest dones made last new on more) = inr (s, rest, refl)
first_served shard namespace ordered _ _ _ _ _ _ (ends_again entries time s rest d seen over) = inr (s, rest, refl)
first_served shard namespace ordered _ _ _ _ _ _ (ends_new entries time s rest new over) = inr (s, rest, refl)

-- where some have outcomes, the collection was created
pub begun_by : (v : View) (asked : List Asked) (receiver early time : ℕ) (id : RequestId) (ordered : Bool) (namespace : List ℕ) (statements : List Statement)
    (d : Done) (dones : List Done)
    → early ≤ time → (ask : IsWriteOf v asked receiver early id ordered namespace statements)
    → (d ∷ dones ≡ []) ⊎ ((s : Statement) × (rest : List Statement) × (statements ≡ s ∷ rest)) → HasBegun v time ask.write.namespace
begun_by v asked receiver early time id ordered namespace statements d dones le ask (inl none) = absurd (cc)
begun_by v asked receiver early time id ordered namespace statements d dones le ask (inr (s, rest, same)) =
    begun_owned v early time namespace ask.write.namespace receiver s le ask.name
    (subst (λ l. AllByRecursion (IsOwned v early namespace receiver) l) same ask.owned).0

-- and the first shard has the request
pub first_by : (v : View) (asked : List Asked) (receiver time : ℕ) (id : RequestId) (ordered : Bool) (namespace : List ℕ) (statements : List Statement)
    (d : Done) (dones : List Done) → IsWriteOf v asked receiver time id ordered namespace statements
    → (d ∷ dones ≡ []) ⊎ ((s : Statement) × (rest : List Statement) × (statements ≡ s ∷ rest)) → IsShardAt receiver
first_by v asked receiver time id ordered namespace statements d dones ask (inl none) = absurd (cc)
first_by v asked receiver time id ordered namespace statements d dones ask (inr (s, rest, same)) =
    owned_by_first v time namespace receiver s (subst (λ l. AllByRecursion (IsOwned v time namespace receiver) l) same ask.owned).0

-- an entry that was made for a request was so among more entries
pub longer_made : (old new : List Entry) (asked : List Asked) (notes raises : List Reach) (e : Entry) → ((d : Entry) → IsIn d old → IsIn d new)
    → WasMade old asked notes e → WasMade new asked (notes ++ raises) e
longer_made old new asked notes raises e stays m =
    subst (λ l. WasMade new l (notes ++ raises) e) (append-nil asked) (entry_grows old new asked [] notes raises e stays m)

-- what all have under a condition each has under it
where_so : {X : Type 0} (b : Bool) (P : X → Type 0) (xs : List X) → (b ≡ true → AllByRecursion P xs) → AllByRecursion (λ x. b ≡ true → P x) xs
where_so true P xs f = all_weaken P (λ x. true ≡ true → P x) xs (λ x p e. p) (f refl)
where_so false P xs f = all_from (λ x. false ≡ true → P x) xs (λ x i e. absurd (cc))

index_of : (given : Option ClientNumber) (id : RequestId) (n : ℕ) → (number_for given id n).index ≡ n
index_of None id n = refl
index_of (Some by) id n = refl

-- the last time is one that was met: that of the message, or of the last entry
last_met : (w : World) (book : Book) (at : ℕ) (v : View) (time last : ℕ) (made entries : List Entry) → IsShardAt at → entries_in v at ≡ entries ++ made
    → IsMet v w.given time → (last ≡ time) ⊎ ((e : Entry) × IsIn e made × (last ≡ e.time)) → IsMet v w.given last
last_met w book at v time last made entries place same met (inl e) = subst (λ t. IsMet v w.given t) (sym e) met
last_met w book at v time last made entries place same met (inr (e, i, t)) =
    inr (inr (inr (e, entry_of_shard v at e place (subst (λ l. IsIn e l) (sym same) (in_back e entries made i)), omega (arith, t))))

module _ (w : World) (book : Book) (at : ℕ) (kept : List Kept) (s : Shard) (is : Stood w book at kept s) (place : IsShardAt at)
    (receiver early now : ℕ) (id : RequestId) (ordered : Bool) (namespace : List ℕ) (statements : List Statement) (dones : List Done) (made : List Entry)
    (last : ℕ) (ask : IsWriteOf (view_of w.nodes book) w.asked receiver early id ordered namespace statements) (later : s.time ≤ now) (reached : early ≤ now)
    (serves : Serves s.me namespace ordered s.entries now statements dones made last) where
  abbrev Own : Asked
  Own = ask.request

  past : AreUpTo now s.entries
  past = up_to_later s.time now s.entries later is.fits.past

  -- ORDERED

  module _ (in_order : ordered ≡ true) where
    nexts : AreNext (view_of w.nodes book) early ask.write id statements
    nexts = ask.next in_order

    goes_on : AllByRecursion (λ d. ends ordered d ≡ false) nexts.front
    goes_on = subst (λ b. AllByRecursion (λ d. ends b d ≡ false) nexts.front) (sym in_order) nexts.goes_on

    -- the outcomes that were returned before, at the request's own number
    before : AreAnswers s.entries early ask.write Own.id 0 nexts.front
    before =
        subst (λ i. AreAnswers s.entries early ask.write i 0 nexts.front) (sym ask.own)
        (subst (λ l. AreAnswers l early ask.write id 0 nexts.front) (own_entries w book at kept s is place) nexts.answered)

    next : drop (length nexts.front) (statements_from ask.write.number Own.id 0 ask.write.operations) ≡ statements ++ nexts.back
    next = subst (λ i. drop (length nexts.front) (statements_from ask.write.number i 0 ask.write.operations) ≡ statements ++ nexts.back) (sym ask.own)
        nexts.next

    done_before : AreDoneBefore s.entries (now + 1) ask.write Own.id (length nexts.front)
    done_before = λ i below.
        let d = front_done s.entries early ask.write Own.id ordered 0 nexts.front in_order before goes_on i (omega arith) (omega arith) in
        let at = d.past in
        (d.entry, d.stands, d.numbered, d.good, omega (arith, at, reached))

    made_next : AllByRecursion (IsMadeAt Own ask.write ordered (s.entries ++ made)) made
    made_next =
        let few = few_answers s.entries early ask.write Own.id 0 nexts.front before (omega arith) in
        let p = parted ask.write.operations (length nexts.front) (omega (arith, few)) in
        let zero_at : length nexts.front ≡ 0 + length nexts.front = omega arith in
        serves_made Own ask.write s.me namespace ordered ask.name s.entries now statements dones made last serves (length nexts.front) p.front
        (drop (length nexts.front) ask.write.operations) nexts.back p.both p.count
        (ap (λ n. statements_from ask.write.number Own.id n (drop (length nexts.front) ask.write.operations)) zero_at
        ∙ sym (drop_statements ask.write.number Own.id 0 (length nexts.front) ask.write.operations) ∙ next) past (λ h. done_before)

    -- of a request without a client's number a prefix is stored
    prefix_stands : ask.write.number ≡ None → IsPart (s.entries ++ made) Own.id ask.write
    prefix_stands none =
        let in_turn : ask.write.ordered ≡ true = sym ask.order ∙ in_order in
        let part : AreStatements Own.id ask.write.namespace ask.write.ordered 0 ask.write.operations (entries_by Own.id s.entries) =
        ordered_part s.entries Own.id ask.write in_turn
        (all_at (StandsInPart s.entries) Own w.asked is.fits.parts ask.taken ask.write ask.asks none) in
        let u : View = view_of w.nodes book in
        let zero : AllByRecursion HasNoOther s.entries = all_weaken (WasMade (history_in u) w.asked u.reached) HasNoOther s.entries
        (λ e m. made_no_other (history_in u) w.asked u.reached e m) is.fits.sent in
        let told = answers_stand s.entries early ask.write Own.id nexts.front none zero part before in
        part_ordered (s.entries ++ made) Own.id ask.write in_turn
        (part_moved Own.id namespace ask.write.namespace ordered ask.write.ordered ask.write.operations (s.entries ++ made) ask.name ask.order
        (request_part Own.id s.me namespace ordered ask.write.operations s.entries now statements dones made last serves nexts.front told.0 nexts.back told.1
        goes_on zero (subst (λ g. drop (length nexts.front) (statements_from g Own.id 0 ask.write.operations) ≡ statements ++ nexts.back) none next)
        (part_moved Own.id ask.write.namespace namespace ask.write.ordered ordered ask.write.operations s.entries (sym ask.name) (sym ask.order) part)))

  -- UNORDERED

  -- an entry of a statement of the write
  loose_made : ordered ≡ false → (e : Entry) → IsEntryOf s.me namespace (IsStatementOf ask.write id) e → IsMadeAt Own ask.write ordered (s.entries ++ made) e
  loose_made loose e (shard, name, f) = record {
    index = length f.before;
    entry = record {
      prefix = f.before;
      operation = f.operation;
      back = f.back;
      both = f.all;
      at = refl;
      statement = record {
        same_number = f.numbered ∙ ap (λ i. number_for ask.write.number i (length f.before)) (sym ask.own);
        name = name ∙ ask.name;
        does = f.does;
      };
    };
    reached = λ in_order. absurd (true_false (sym in_order ∙ loose));
  }

  -- EITHER

  made_at : AllByRecursion (IsMadeAt Own ask.write ordered (s.entries ++ made)) made
  made_at = by_order ordered refl
    where
      by_order : (b : Bool) → ordered ≡ b → AllByRecursion (IsMadeAt Own ask.write ordered (s.entries ++ made)) made
      by_order true h = made_next h
      by_order false h =
          all_weaken (IsEntryOf s.me namespace (IsStatementOf ask.write id)) (IsMadeAt Own ask.write ordered (s.entries ++ made)) made
          (λ e m. loose_made h e m)
          (serves_entries (IsStatementOf ask.write id) s.me namespace ordered s.entries now statements dones made last serves ask.each)

  part_stands : AreNumbered (s.entries ++ made) → ask.write.number ≡ None → IsPart (s.entries ++ made) Own.id ask.write
  part_stands numbers none = by_order ordered refl
    where
      u : View
      u = view_of w.nodes book

      by_order : (b : Bool) → ordered ≡ b → IsPart (s.entries ++ made) Own.id ask.write
      by_order true h = prefix_stands h none
      by_order false h =
          part_single (s.entries ++ made) Own.id ask.write (sym ask.order ∙ h)
          (singles w.asked Own ask.write is.good.one ask.taken ask.asks none (s.entries ++ made)
          (all_append (IsFrom w.asked) s.entries made
          (all_weaken (WasMade (history_in u) w.asked u.reached) (IsFrom w.asked) s.entries
          (λ e m. record { request = m.request; taken = m.taken; sends = m.sends }) is.fits.sent)
          (all_weaken (IsMadeAt Own ask.write ordered (s.entries ++ made)) (IsFrom w.asked) made
          (λ e m. record {
            request = Own;
            taken = ask.taken;
            sends = record { write = ask.write; index = m.index; asks = ask.asks; entry = m.entry };
          }) made_at))
          numbers
          (all_append (λ (e : Entry). e.shard ≡ first_shard) s.entries made
          (all_weaken (IsPlaced (changes_in u)) (λ (e : Entry). e.shard ≡ first_shard) s.entries
          (λ e p. placed_first (changes_in u) is.fits.still e p) is.fits.placed)
          (all_weaken (IsEntryOf s.me namespace (IsOwned u early namespace receiver)) (λ (e : Entry). e.shard ≡ first_shard) made
          (λ e o. o.0 ∙ is.fits.own ∙ place)
          (serves_entries (IsOwned u early namespace receiver) s.me namespace ordered s.entries now statements dones made last serves ask.owned))))

  -- it is noted that its statement was sent
  abbrev IsNotedAt : Entry → Type 0
  IsNotedAt e = ordered ≡ true → e.number.index < reach_of id book.reached

  served_all : HasBegun (view_of w.nodes book) last ask.write.namespace → Served w book at s now id dones made last
  served_all begun =
      let u : View = view_of w.nodes book in
      let rises = serves_rises s.me namespace ordered s.entries now statements dones made last serves in
      let first : s.me ≡ first_shard = is.fits.own ∙ place in
      let numbers : AreNumbered (s.entries ++ made) =
      serves_numbered s.me namespace ordered s.entries now statements dones made last serves is.fits.numbers in
      let owned : AllByRecursion (IsEntryOf s.me namespace (IsOwned u early namespace receiver)) made =
      serves_entries (IsOwned u early namespace receiver) s.me namespace ordered s.entries now statements dones made last serves ask.owned in
      record {
        rises = rises;
        past = all_append (λ (e : Entry). e.time ≤ last) s.entries made (up_to_later now last s.entries rises.later past) rises.past;
        legal = legal_joined s.entries made is.fits.legal (serves_legal s.me namespace ordered s.entries now statements dones made last serves past);
        sent = all_both (IsMadeAt Own ask.write ordered (s.entries ++ made)) (λ (e : Entry). (now < e.time) × IsNotedAt e)
            (WasMade (s.entries ++ made) w.asked book.reached) made
            (λ e h (above, noted). record {
              request = Own;
              taken = ask.taken;
              sends = record { write = ask.write; index = h.index; asks = ask.asks; entry = h.entry };
              later = let f = ask.fresh in omega (arith, f, above, reached);
              reached = λ in_order. h.reached (ask.order ∙ in_order);
              below = λ in_order.
                  let less : e.number.index < reach_of Own.id book.reached =
                  subst (λ i. e.number.index < reach_of i book.reached) (sym ask.own) (noted (ask.order ∙ in_order)) in
                  let place : e.number.index ≡ h.index = ap (λ (n : StatementNumber). n.index) h.entry.statement.same_number
                  ∙ index_of ask.write.number Own.id h.index in
                  omega (arith, less, place);
            }) made_at
            (all_both (λ (e : Entry). now < e.time) (IsEntryOf s.me namespace (λ (x : Statement). ordered ≡ true → x.number.index < reach_of id book.reached))
            (λ (e : Entry). (now < e.time) × IsNotedAt e) made (λ e above h. (above, h.2)) rises.above
            (serves_entries (λ (x : Statement). ordered ≡ true → x.number.index < reach_of id book.reached) s.me namespace ordered s.entries now statements dones
            made last serves
            (where_so ordered (λ (x : Statement). x.number.index < reach_of id book.reached) statements ask.below)));
        numbers = numbers;
        placed = all_both (IsEntryOf s.me namespace (IsOwned u early namespace receiver)) (λ (e : Entry). now < e.time) (IsPlaced (changes_in u)) made
            (λ e h above. owned_placed u early namespace receiver e (h.0 ∙ first, h.1, h.2) (omega arith)) owned rises.above;
        parts = parts_longer w.asked s.entries made Own ask.write is.good.one ask.taken ask.asks
            (all_weaken (IsMadeAt Own ask.write ordered (s.entries ++ made)) (IsBy ask.write.number Own.id) made
            (λ e h. (h.index, h.entry.statement.same_number)) made_at)
            (part_stands numbers) is.fits.parts;
        own = all_weaken (IsEntryOf s.me namespace (IsOwned u early namespace receiver)) (λ (e : Entry). e.shard ≡ s.me) made (λ e h. h.0) owned;
        told = record {
          request = Own;
          write = ask.write;
          taken = ask.taken;
          own = ask.own;
          asks = ask.asks;
          each = serves_told ask.write id s.me namespace ordered s.entries now statements dones made last serves
              (ask_own u w.asked receiver early id ordered namespace statements ask) past;
          last = subst (λ b. OnlyLast b dones) ask.order (serves_last s.me namespace ordered s.entries now statements dones made last serves);
          begun = begun;
        };
      }

pub served : (w : World) (book : Book) (at : ℕ) (kept : List Kept) (s : Shard) (receiver time : ℕ) (id : RequestId) (ordered : Bool) (namespace : List ℕ)
    (statements : List Statement) (d : Done) (dones : List Done) (made : List Entry) (last : ℕ)
    → Stood w book at kept s → IsShardAt at → IsWriteOf (view_of w.nodes book) w.asked receiver time id ordered namespace statements → (now : ℕ)
    → s.time ≤ now → time ≤ now
    → Serves s.me namespace ordered s.entries now statements (d ∷ dones) made last → Served w book at s now id (d ∷ dones) made last
served w book at kept s receiver time id ordered namespace statements d dones made last is place ask now later reached serves =
    let rises = serves_rises s.me namespace ordered s.entries now statements (d ∷ dones) made last serves in
    let risen = rises.later in
    served_all w book at kept s is place receiver time now id ordered namespace statements (d ∷ dones) made last ask later reached serves
    (begun_by (view_of w.nodes book) w.asked receiver time last id ordered namespace statements d dones (omega arith) ask
    (first_served s.me namespace ordered s.entries now statements (d ∷ dones) made last serves))

-- entries that are stored are not later than the shard
made_past : (entries made : List Entry) (last : ℕ) → AllByRecursion (λ (e : Entry). e.time ≤ last) (entries ++ made)
    → AllByRecursion (λ (e : Entry). e.time ≤ last) made
made_past [] made last all = all
made_past (e ∷ entries) made last all = made_past entries made last all.1

kept_past : (last : ℕ) (made : List Entry) → AllByRecursion (λ (e : Entry). e.time ≤ last) made
    → AllByRecursion (λ k. time_kept k ≤ last) (map kept_entry made)
kept_past last [] all = tt
kept_past last (e ∷ made) all = (all.0, kept_past last made all.1)

-- where served entries are kept, the shard fits and answers
pub writes_all : (w : World) (book : Book) (at : ℕ) (kept : List Kept) (s : Shard) (m : Letter) (id : RequestId) (dones : List Done)
    (made : List Entry) (last : ℕ)
    → Stood w book at kept s → IsShardAt at → IsMet (view_of w.nodes book) w.given (heard s m) → Served w book at s (heard s m) id dones made last
    → Owes w book at (held_shard s kept) (record {
      written = map kept_entry made;
      mail = says s id.router last (write_done id dones) ∷ [];
      taken = [];
      replies = [];
      away = [];
    }) (shard_state (record { me = s.me; time = last; tables = s.tables; entries = s.entries ++ made; ceiling = s.ceiling; parked = s.parked }))
writes_all w book at kept s m id dones made last is place met h =
    let u : View = view_of w.nodes book in
    let le : s.time ≤ last = let l = h.rises.later in omega arith in
    let tops : max s.ceiling (greatest_entry (s.entries ++ made)) ≡ greatest_kept (kept ++ map kept_entry made) =
    let before : max s.ceiling (greatest_entry s.entries) ≡ greatest_kept kept = is.fits.tops in
    let stored = greatest_both kept (map kept_entry made) in
    let written = greatest_made made in
    let entered = greatest_entries s.entries made in
    omega (arith, before, stored, written, entered) in
    let within : greatest_kept (kept ++ map kept_entry made) ≤ last = within_more kept (map kept_entry made) s.time last is.within le
    (kept_past last made (made_past s.entries made last h.past)) in
    let longer : entries_kept (kept ++ map kept_entry made) ≡ s.entries ++ made = entries_longer kept (map kept_entry made)
    ∙ ap (λ l. l ++ entries_kept (map kept_entry made)) (sym is.fits.entries) ∙ ap (λ l. s.entries ++ l) (entries_only made) in
    wrote w book at (held_shard s kept) (map kept_entry made) (says s id.router last (write_done id dones) ∷ []) _ is.good tt tt
    (kept_above at s.time made place (all_both (λ (e : Entry). heard s m < e.time) (λ (e : Entry). e.shard ≡ s.me) (IsNewAt at s.time) made
    (λ e l own. (own ∙ is.fits.own, omega arith)) h.rises.above h.own)) le within
    (λ v grows journal bound.
    let entries : entries_in v at ≡ s.entries ++ made = ap (λ k. entries_kept k) journal ∙ longer in
    let reached : IsMet v w.given last = last_met w book at v (heard s m) last made s.entries place entries
    (met_later u v w.given (heard s m) grows met) h.rises.reached in
    record {
      node = record {
        own = is.fits.own;
        came = is.fits.came;
        entries = sym longer;
        tops = tops;
        past = h.past;
        legal = h.legal;
        sent = all_append (WasMade (history_in v) w.asked v.reached) s.entries made
            (all_weaken (WasMade (history_in u) w.asked u.reached) (WasMade (history_in v) w.asked v.reached) s.entries
            (λ e m. made_later u v w.asked e grows m) is.fits.sent)
            (all_weaken (WasMade (s.entries ++ made) w.asked book.reached) (WasMade (history_in v) w.asked v.reached) made
            (λ e m. subst (λ n. WasMade (history_in v) w.asked n e) (sym grows.reached.same)
            (longer_made (s.entries ++ made) (history_in v) w.asked book.reached grows.reached.news e
            (λ d i. entry_of_shard v at d place (subst (λ l. IsIn d l) (sym entries) i)) m)) h.sent);
        numbers = h.numbers;
        placed = all_weaken (IsPlaced (changes_in u)) (IsPlaced (changes_in v)) (s.entries ++ made) (λ e p. placed_grows u v e grows is.fits.still p)
            (all_append (IsPlaced (changes_in u)) s.entries made is.fits.placed h.placed);
        parts = h.parts;
        still = still_grows u v grows is.fits.still;
        tables = all_weaken (IsKnownTable u s.time) (IsKnownTable v last) s.tables (λ t k. known_grows u v s.time last t grows le k) is.fits.tables;
        parked = all_weaken (ParkedFits u w.asked s.time) (ParkedFits v w.asked last) s.parked
            (λ l p. parked_later u v w.asked s.time last l grows le p) is.fits.parked;
      };
      met = reached;
      cursors = tt;
      letters = (
        (
          (
            is.fits.own ∙ place,
            subst (λ n. IsDoneOf v w.asked n last id dones) (sym is.fits.own)
                (told_done u v w.asked at last id (s.entries ++ made) dones grows entries h.told),
          ),
          reached,
          tt,
        ),
        tt,
      );
    })
