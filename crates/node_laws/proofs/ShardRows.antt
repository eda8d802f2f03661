-- The rows of a shard keep all facts.
use Rattle.std.proofs.Common.{◌≡◌, ◌⊎◌, inl, inr, ℕ, ◌<◌, ◌≤◌, List, [], ◌∷◌, ◌++◌, refl, sym, ap, subst, ◌∙◌, arith, append-nil, Bool}
use Rattle.std.specs.Prelude.{Option, Some, None, true, false, not, max, filter}
use Rattle.std.specs.List.{AllByRecursion, flat_map}
use Rattle.history_model.proofs.Lists.{all_weaken, all_both, all_append}
use Rattle.bson_model.specs.Tree.{Fields}
use Rattle.base_model.specs.Times.{time_of_moment}
use Rattle.pipeline_model.specs.Halves.{Half, Rows, IsHalf}
use Rattle.pipeline_model.specs.Runs.{Runs, overflowed}
use Rattle.pipeline_model.specs.Split.{split}
use Rattle.pipeline_laws.proofs.OutsideSpan.{split_half_lists}
use Rattle.chunk_model.specs.Tables.{Table, with_table}
use Rattle.history_model.specs.History.{Entry}
use Rattle.chunk_model.specs.Verdicts.{Sent}
use Rattle.base_model.specs.Identities.{RequestId}
use Rattle.reply_model.specs.Exchanges.{Asked}
use Rattle.reply_model.specs.Outcomes.{Done}
use Rattle.node_model.specs.Journal.{Kept, kept_table, kept_ceiling, entries_kept, greatest_kept}
use Rattle.node_model.specs.Letters.{sends, nothing, At, no_time, Statement, Body, refused, of_table, of_request, is_lack, table_told, write_ask, write_done, read_ask, half_ask, time_ask, Letter, Input, letter_input, Effect}
use Rattle.node_model.specs.States.{Shard, shard_state}
use Rattle.node_model.specs.Service.{Repeats, repeats_no_more, repeats, ends_repeat, documents_at}
use Rattle.node_model.specs.ShardRows.{heard, at_later, under, greatest_entry, top, says, Ask, ask_in, wants_table, tries, index_shown, refuses, shard_no_table, asks_table, ShardRow, shard_write, shard_repeat, shard_empty, shard_park, shard_waits, shard_stale, shard_read, shard_read_above, shard_rows, shard_excess, shard_overflow, shard_time, shard_learn, shard_known, shard_skip, shard_moment, shard_opened, shard_client}
use Rattle.node_model.specs.Steps.{IsFor}
use Rattle.node_model.specs.World.{World, journal_at}
use Rattle.node_laws.proofs.Views.{Book, View, view_of, entries_in, IsShardAt, Later}
use Rattle.node_laws.proofs.GreatestTimes.{greatest_both, within_more}
use Rattle.node_laws.proofs.WriteFacts.{OnlyLast}
use Rattle.node_laws.proofs.ReadFacts.{IsReadOf, IsShown, IsMade}
use Rattle.node_laws.proofs.Facts.{HasLack, IsKnownTable, IsWriteOf, IsDoneOf, BodyFits, ParkedFits, ShardFits, NodeFits, IsMet, Good}
use Rattle.node_laws.proofs.Owes.{InputFits, IsSaid, Owes}
use Rattle.node_laws.proofs.Lists.{all_filtered, all_mapped}
use Rattle.node_laws.proofs.LongerJournals.{entries_longer}
use Rattle.node_laws.proofs.Growth.{lack_grows, read_grows, known_grows, met_later, met_max}
use Rattle.node_laws.proofs.ServedStatements.{up_to_later, repeats_told, repeats_last}
use Rattle.node_laws.proofs.RequestParts.{ask_own}
use Rattle.node_laws.proofs.ShardSteps.{wrote, quiet, letter_later, shown_later, shard_later, ask_receiver, never_stale, retried_fits, asks_again_fit, tells_none, AreToldBy, told_done}
use Rattle.node_laws.proofs.ShardWrites.{held_shard, Stood, heard_later, first_served, begun_by, first_by, served, writes_all}
use Rattle.node_laws.proofs.KnownTables.{all_with}
use Rattle.node_laws.proofs.Keeps.{nodes_keep}
use Rattle.reply_model.specs.Accounts.{Given, Lack}

-- QUIET ROWS

-- its time rises to one that was met, and it sends what fits
at_rest : (w : World) (book : Book) (at : ℕ) (kept : List Kept) (s : Shard) (time : ℕ) (mail : List Letter) → Stood w book at kept s → s.time ≤ time
    → IsMet (view_of w.nodes book) w.given time
    → ((v : View) → Later (view_of w.nodes book) v → IsMet v w.given time → entries_in v at ≡ s.entries → v.bound at ≡ greatest_kept kept
    → AllByRecursion (IsSaid v w.asked w.given) mail)
    → Owes w book at (held_shard s kept) (record { written = []; mail = mail; taken = []; replies = []; away = [] }) (shard_state (at_later s time))
at_rest w book at kept s time mail is later met letters =
    quiet w book at (held_shard s kept) mail (shard_state (at_later s time)) is.good tt tt later (let n = is.within in omega (arith, n, later))
    (λ v grows journal bound. record {
      node = shard_later (view_of w.nodes book) v w.asked at time kept s grows later is.fits;
      met = met_later (view_of w.nodes book) v w.given time grows met;
      cursors = tt;
      letters = letters v grows (met_later (view_of w.nodes book) v w.given time grows met) (ap (λ k. entries_kept k) journal ∙ sym is.fits.entries) bound;
    })

heard_met : (w : World) (book : Book) (at : ℕ) (kept : List Kept) (s : Shard) (m : Letter) → Stood w book at kept s
    → IsMet (view_of w.nodes book) w.given m.time
    → IsMet (view_of w.nodes book) w.given (heard s m)
heard_met w book at kept s m is met = met_max (view_of w.nodes book) w.given s.time m.time is.met met

-- a message is received, and one is sent back
heard_back : (w : World) (book : Book) (at : ℕ) (kept : List Kept) (s : Shard) (m : Letter) (mail : List Letter) → Stood w book at kept s
    → InputFits w book at (letter_input m)
    → ((v : View) → Later (view_of w.nodes book) v → IsMet v w.given (heard s m) → entries_in v at ≡ s.entries → v.bound at ≡ greatest_kept kept
    → AllByRecursion (IsSaid v w.asked w.given) mail)
    → Owes w book at (held_shard s kept) (record { written = []; mail = mail; taken = []; replies = []; away = [] }) (shard_state (at_later s (heard s m)))
heard_back w book at kept s m mail is comes letters = at_rest w book at kept s (heard s m) mail is (heard_later s m)
    (heard_met w book at kept s m is comes.1) letters

-- ROWS BY WHAT THEY ANSWER

-- what a message says that was received, at the node's own numbers
body_is : (w : World) (book : Book) (at : ℕ) (m : Letter) (b : Body) → m.body ≡ b → InputFits w book at (letter_input m)
    → BodyFits (view_of w.nodes book) w.asked m.sender m.receiver m.time b
body_is w book at m b is comes = subst (λ x. BodyFits (view_of w.nodes book) w.asked m.sender m.receiver m.time x) is comes.0

-- retries get their outcomes again
first_repeated : (ordered : Bool) (entries : List Entry) (statements : List Statement) (dones : List Done) → Repeats ordered entries statements dones
    → (dones ≡ []) ⊎ ((s : Statement) × (rest : List Statement) × (statements ≡ s ∷ rest))
first_repeated ordered entries _ _ (repeats_no_more rest) = inl refl
first_repeated ordered entries _ _ (repeats s rest d dones seen on more) = inr (s, rest, refl)
first_repeated ordered entries _ _ (ends_repeat s rest d seen over) = inr (s, rest, refl)

tells_again : (w : World) (book : Book) (at : ℕ) (kept : List Kept) (s : Shard) (m : Letter) (id : RequestId) (ordered : Bool) (namespace : List ℕ)
    (statements : List Statement) (d : Done) (dones : List Done) → Stood w book at kept s → m.receiver ≡ s.me → InputFits w book at (letter_input m)
    → IsWriteOf (view_of w.nodes book) w.asked m.receiver m.time id ordered namespace statements → Repeats ordered s.entries statements (d ∷ dones)
    → Owes w book at (held_shard s kept)
    (record { written = []; mail = says s id.router (heard s m) (write_done id (d ∷ dones)) ∷ []; taken = []; replies = []; away = [] })
    (shard_state (at_later s (heard s m)))
tells_again w book at kept s m id ordered namespace statements d dones is to comes ask repeated =
    let first = first_repeated ordered s.entries statements (d ∷ dones) repeated in
    let told : AreToldBy (view_of w.nodes book) w.asked s.entries (heard s m) id (d ∷ dones) = record {
      request = ask.request;
      write = ask.write;
      taken = ask.taken;
      own = ask.own;
      asks = ask.asks;
      each = repeats_told ask.write id ordered s.entries (heard s m) statements (d ∷ dones) repeated
          (ask_own (view_of w.nodes book) w.asked m.receiver m.time id ordered namespace statements ask)
          (up_to_later s.time (heard s m) s.entries (heard_later s m) is.fits.past);
      last = subst (λ b. OnlyLast b (d ∷ dones)) ask.order (repeats_last ordered s.entries statements (d ∷ dones) repeated);
      begun = begun_by (view_of w.nodes book) w.asked m.receiver m.time (heard s m) id ordered namespace statements d dones (omega arith) ask
          first;
    } in
    heard_back w book at kept s m _ is comes
    (λ v grows met entries bound. (
      (
        (
          sym to ∙ first_by (view_of w.nodes book) w.asked m.receiver m.time id ordered namespace statements d dones ask first,
          subst (λ n. IsDoneOf v w.asked n (heard s m) id (d ∷ dones)) (sym is.fits.own)
              (told_done (view_of w.nodes book) v w.asked at (heard s m) id s.entries (d ∷ dones) grows entries told),
        ),
        met,
        tt,
      ),
      tt,
    ))

-- a request waits
parks : (w : World) (book : Book) (at : ℕ) (kept : List Kept) (s : Shard) (m : Letter) (a : Ask) → Stood w book at kept s → m.receiver ≡ s.me
    → InputFits w book at (letter_input m)
    → ask_in m.body ≡ Some a
    → Owes w book at (held_shard s kept) (record { written = []; mail = asks_table s (heard s m) a.namespace ∷ []; taken = []; replies = []; away = [] })
    (shard_state (record { me = s.me; time = heard s m; tables = s.tables; entries = s.entries; ceiling = s.ceiling; parked = s.parked ++ m ∷ [] }))
parks w book at kept s m a is to comes asks =
    quiet w book at (held_shard s kept) (asks_table s (heard s m) a.namespace ∷ []) _ is.good tt tt (heard_later s m) (let n = is.within in omega (arith, n))
    (λ v grows journal bound.
    let met : IsMet v w.given (heard s m) = met_later (view_of w.nodes book) v w.given (heard s m) grows (heard_met w book at kept s m is comes.1) in
    let f = shard_later (view_of w.nodes book) v w.asked at (heard s m) kept s grows (heard_later s m) is.fits in
    record {
      node = record {
        own = f.own;
        came = all_append (λ (l : Letter). l.receiver ≡ at) s.parked (m ∷ []) f.came (to ∙ is.fits.own, tt);
        entries = f.entries;
        tops = f.tops;
        past = f.past;
        legal = f.legal;
        sent = f.sent;
        numbers = f.numbers;
        placed = f.placed;
        parts = f.parts;
        still = f.still;
        tables = f.tables;
        parked = all_append (ParkedFits v w.asked (heard s m)) s.parked (m ∷ []) f.parked (
          (
            letter_later (view_of w.nodes book) v w.asked m grows comes.0,
            (omega arith),
            ask_receiver (view_of w.nodes book) w.asked m.sender m.receiver m.time m.body a asks comes.0,
          ),
          tt,
        );
      };
      met = met;
      cursors = tt;
      letters = ((tt, met, tt), tt);
    })

-- the documents of a read are taken, at a time that is stored after the step
documents_shown : (w : World) (book : Book) (at : ℕ) (kept : List Kept) (s : Shard) (m : Letter) (v : View) (id : RequestId) (namespace : List ℕ) (moment : ℕ)
    (half : Half) → Stood w book at kept s → IsShardAt s.me → Later (view_of w.nodes book) v → entries_in v at ≡ s.entries → moment ≤ v.bound at
    → moment ≤ m.time
    → IsReadOf (view_of w.nodes book) w.asked id namespace moment half
    → IsShown v w.asked s.me (heard s m) id namespace moment half (documents_at s.entries namespace moment half)
documents_shown w book at kept s m v id namespace moment half is first grows entries reached early reads =
    let own : at ≡ s.me = sym is.fits.own in
    let here : entries_in v s.me ≡ s.entries = subst (λ n. entries_in v n ≡ s.entries) own entries in
    record {
      read = subst (λ l. IsReadOf v l id namespace moment half) (append-nil w.asked)
          (read_grows (view_of w.nodes book) v w.asked [] id namespace moment half grows reads);
      owner = first;
      documents_are = ap (λ l. documents_at l namespace moment half) (sym here);
      settled = subst (λ n. moment ≤ v.bound n) own reached;
      past = omega (arith, early);
    }

takes_documents : (w : World) (book : Book) (at : ℕ) (kept : List Kept) (s : Shard) (m : Letter) (id : RequestId) (turn : ℕ) (namespace : List ℕ) (moment : ℕ)
    (half : Half) (sent : Sent) → Stood w book at kept s → m.receiver ≡ s.me → InputFits w book at (letter_input m)
    → m.body ≡ read_ask id turn namespace moment half sent
    → moment ≤ top s
    → Owes w book at (held_shard s kept) (record {
      written = [];
      mail = says s s.me (heard s m)
          (half_ask id turn namespace moment half (documents_at s.entries namespace moment half)) ∷ [];
      taken = [];
      replies = [];
      away = [];
    })
    (shard_state (at_later s (heard s m)))
takes_documents w book at kept s m id turn namespace moment half sent is to comes asks covered =
    let f = body_is w book at m (read_ask id turn namespace moment half sent) asks comes in
    let tops : top s ≡ greatest_kept kept = is.fits.tops in
    heard_back w book at kept s m _ is comes
    (λ v grows met entries bound. (
      (
        (documents_shown w book at kept s m v id namespace moment half is (sym to ∙ f.2) grows entries (omega (arith, covered, tops, bound)) f.1 f.0, sym to ∙ f.2),
        met,
        tt,
      ),
      tt,
    ))

-- and the time is a ceiling from now on
under_fits : (u v : View) (asked : List Asked) (at time ceiling : ℕ) (kept : List Kept) (s : Shard) → Later u v → s.time ≤ time → top s < ceiling
    → ShardFits u asked at kept s → ShardFits v asked at (kept ++ kept_ceiling ceiling ∷ []) (under s time ceiling)
under_fits u v asked at time ceiling kept s later le above fits =
    let f = shard_later u v asked at time kept s later le fits in
    let longer : entries_kept (kept ++ kept_ceiling ceiling ∷ []) ≡ s.entries = entries_longer kept (kept_ceiling ceiling ∷ []) ∙ append-nil (entries_kept kept)
    ∙ sym fits.entries in
    let before : max s.ceiling (greatest_entry s.entries) ≡ greatest_kept kept = fits.tops in
    let stored = greatest_both kept (kept_ceiling ceiling ∷ []) in
    record {
      own = f.own;
      came = f.came;
      entries = sym longer;
      tops = omega (arith, before, stored, above);
      past = f.past;
      legal = f.legal;
      sent = f.sent;
      numbers = f.numbers;
      placed = f.placed;
      parts = f.parts;
      still = f.still;
      tables = f.tables;
      parked = f.parked;
    }

takes_above : (w : World) (book : Book) (at : ℕ) (kept : List Kept) (s : Shard) (m : Letter) (id : RequestId) (turn : ℕ) (namespace : List ℕ) (moment : ℕ)
    (half : Half) (sent : Sent) → Stood w book at kept s → m.receiver ≡ s.me → InputFits w book at (letter_input m)
    → m.body ≡ read_ask id turn namespace moment half sent
    → top s < moment
    → Owes w book at (held_shard s kept) (record {
      written = kept_ceiling moment ∷ [];
      mail = says s s.me (heard s m)
          (half_ask id turn namespace moment half (documents_at s.entries namespace moment half)) ∷ [];
      taken = [];
      replies = [];
      away = [];
    })
    (shard_state (under s (heard s m) moment))
takes_above w book at kept s m id turn namespace moment half sent is to comes asks above =
    let f = body_is w book at m (read_ask id turn namespace moment half sent) asks comes in
    let early : moment ≤ m.time = f.1 in
    let longer : entries_kept (kept ++ kept_ceiling moment ∷ []) ≡ s.entries = entries_longer kept (kept_ceiling moment ∷ []) ∙ append-nil (entries_kept kept)
    ∙ sym is.fits.entries in
    let stored = greatest_both kept (kept_ceiling moment ∷ []) in
    wrote w book at (held_shard s kept) (kept_ceiling moment ∷ [])
    (says s s.me (heard s m) (half_ask id turn namespace moment half (documents_at s.entries namespace moment half)) ∷ []) _ is.good tt tt (tt, tt)
    (heard_later s m)
    (within_more kept (kept_ceiling moment ∷ []) s.time (heard s m) is.within (heard_later s m) (omega (arith, early), tt))
    (λ v grows journal bound.
    let met : IsMet v w.given (heard s m) = met_later (view_of w.nodes book) v w.given (heard s m) grows (heard_met w book at kept s m is comes.1) in
    record {
      node = under_fits (view_of w.nodes book) v w.asked at (heard s m) moment kept s grows (heard_later s m) above is.fits;
      met = met;
      cursors = tt;
      letters = (
        (
          (
            documents_shown w book at kept s m v id namespace moment half is (sym to ∙ f.2) grows (ap (λ k. entries_kept k) journal ∙ longer)
                (omega (arith, bound, stored)) early f.0,
            sym to ∙ f.2,
          ),
          met,
          tt,
        ),
        tt,
      );
    })

-- what is made of the documents that were taken
made_of : (w : World) (book : Book) (at : ℕ) (kept : List Kept) (s : Shard) (m : Letter) (v : View) (id : RequestId) (turn : ℕ) (namespace : List ℕ)
    (moment : ℕ) (half : Half)
    (documents : List Fields) (rows : Rows) → Stood w book at kept s → m.receiver ≡ s.me → InputFits w book at (letter_input m)
    → m.body ≡ half_ask id turn namespace moment half documents
    → Later (view_of w.nodes book) v → IsHalf half documents rows → IsMade v w.asked s.me (heard s m) id rows
made_of w book at kept s m v id turn namespace moment half documents rows is to comes asks grows makes =
    let f = body_is w book at m (half_ask id turn namespace moment half documents) asks comes in
    let from : m.sender ≡ s.me = f.0.owner ∙ sym f.1 ∙ to in
    record {
      namespace = namespace;
      at = moment;
      half = half;
      documents = documents;
      shown = subst (λ n. IsShown v w.asked n (heard s m) id namespace moment half documents) from
          (shown_later (view_of w.nodes book) v w.asked m.sender m.time (heard s m) id namespace moment half documents grows (omega arith) f.0);
      makes = makes;
    }

-- no half that a pipeline is split into overflows
never_overflows : (w : World) (book : Book) (at : ℕ) (m : Letter) (id : RequestId) (turn : ℕ) (namespace : List ℕ) (moment : ℕ) (half : Half)
    (documents : List Fields)
    → InputFits w book at (letter_input m) → m.body ≡ half_ask id turn namespace moment half documents → Runs half.stages documents overflowed → ⊥
never_overflows w book at m id turn namespace moment half documents comes asks runs =
    let f = body_is w book at m (half_ask id turn namespace moment half documents) asks comes in
    split_half_lists f.0.read.read.stages (split f.0.read.read.stages).0 (split f.0.read.read.stages).1 documents refl
    (subst (λ (l : Half). Runs l.stages documents overflowed) f.0.read.shows runs)

-- a table is kept, and what waited for it is tried again
learns : (w : World) (book : Book) (at : ℕ) (kept : List Kept) (s : Shard) (m : Letter) (namespace : List ℕ) (create : Bool) (moment : At) (t : Table)
    → Stood w book at kept s → InputFits w book at (letter_input m) → m.body ≡ table_told namespace create moment (Some t)
    → Owes w book at (held_shard s kept) (record {
      written = kept_table t ∷ [];
      mail = tries s (heard s m) (filter (wants_table t.namespace) s.parked);
      taken = [];
      replies = [];
      away = [];
    })
    (shard_state (record {
      me = s.me;
      time = heard s m;
      tables = with_table t s.tables;
      entries = s.entries;
      ceiling = s.ceiling;
      parked = filter (λ p. not (wants_table t.namespace p)) s.parked;
    }))
learns w book at kept s m namespace create moment t is comes told =
    let known = body_is w book at m (table_told namespace create moment (Some t)) told comes in
    let longer : entries_kept (kept ++ kept_table t ∷ []) ≡ s.entries = entries_longer kept (kept_table t ∷ []) ∙ append-nil (entries_kept kept)
    ∙ sym is.fits.entries in
    let same : greatest_kept (kept ++ kept_table t ∷ []) ≡ greatest_kept kept = let both = greatest_both kept (kept_table t ∷ []) in omega (arith, both) in
    wrote w book at (held_shard s kept) (kept_table t ∷ []) (tries s (heard s m) (filter (wants_table t.namespace) s.parked)) _ is.good tt tt (tt, tt)
    (heard_later s m)
    (within_more kept (kept_table t ∷ []) s.time (heard s m) is.within (heard_later s m) (omega arith, tt))
    (λ v grows journal bound.
    let met : IsMet v w.given (heard s m) = met_later (view_of w.nodes book) v w.given (heard s m) grows (heard_met w book at kept s m is comes.1) in
    let f = shard_later (view_of w.nodes book) v w.asked at (heard s m) kept s grows (heard_later s m) is.fits in
    record {
      node = record {
        own = f.own;
        came = all_weaken (λ (p : Letter). (p.receiver ≡ at) × (not (wants_table t.namespace p) ≡ true)) (λ (p : Letter). p.receiver ≡ at)
            (filter (λ p. not (wants_table t.namespace p)) s.parked) (λ p h. h.0)
            (all_filtered (λ (p : Letter). p.receiver ≡ at) (λ p. not (wants_table t.namespace p)) s.parked f.came);
        entries = sym longer;
        tops = is.fits.tops ∙ sym same;
        past = f.past;
        legal = f.legal;
        sent = f.sent;
        numbers = f.numbers;
        placed = f.placed;
        parts = f.parts;
        still = f.still;
        tables = all_with (IsKnownTable v (heard s m)) t s.tables
            (known_grows (view_of w.nodes book) v m.time (heard s m) t grows (omega arith) known.0) f.tables;
        parked = all_weaken (λ p. ParkedFits v w.asked (heard s m) p × (not (wants_table t.namespace p) ≡ true)) (ParkedFits v w.asked (heard s m))
            (filter (λ p. not (wants_table t.namespace p)) s.parked) (λ p h. h.0)
            (all_filtered (ParkedFits v w.asked (heard s m)) (λ p. not (wants_table t.namespace p)) s.parked f.parked);
      };
      met = met;
      cursors = tt;
      letters = all_mapped (IsSaid v w.asked w.given) (λ (l : Letter). says s s.me (heard s m) l.body)
          (filter (wants_table t.namespace) s.parked)
          (all_weaken (λ p. (ParkedFits v w.asked (heard s m) p × (p.receiver ≡ at)) × (wants_table t.namespace p ≡ true))
          (λ (l : Letter). IsSaid v w.asked w.given (says s s.me (heard s m) l.body))
          (filter (wants_table t.namespace) s.parked)
          (λ l h. (
            retried_fits v w.asked s (heard s m) (heard s m) t.namespace l (h.0.1 ∙ sym is.fits.own) (omega arith) h.0.0 h.1,
            met,
            tells_none v w.asked s.me
                (heard s m) t.namespace l.body h.1,
          ))
          (all_filtered (λ p. ParkedFits v w.asked (heard s m) p × (p.receiver ≡ at)) (wants_table t.namespace) s.parked
          (all_both (ParkedFits v w.asked (heard s m)) (λ (p : Letter). p.receiver ≡ at) (λ p. ParkedFits v w.asked (heard s m) p × (p.receiver ≡ at)) s.parked
          (λ p fit came. (fit, came)) f.parked f.came)));
    })

-- a table can't be had: what waited for it is refused
refuses_fit : (v : View) (asked : List Asked) (given : List Given) (s : Shard) (time node : ℕ) (lack : Lack) (parked : List Letter) → IsMet v given time
    → HasLack v node lack → AllByRecursion (IsSaid v asked given) (flat_map (refuses s time node lack) parked)
refuses_fit v asked given s time node lack [] met had = tt
refuses_fit v asked given s time node lack (m ∷ parked) met had = by_ask (ask_in m.body) (refuses_fit v asked given s time node lack parked met had)
  where
    by_ask : (o : Option Ask) → AllByRecursion (IsSaid v asked given) (flat_map (refuses s time node lack) parked)
        → AllByRecursion (IsSaid v asked given) ((elim o as (λ (x : Option Ask). List Letter) [
          | None ↦ []
          | Some a ↦ says s a.id.router time (refused (of_request a.id a.turn (index_shown a.first)) (is_lack node lack)) ∷ []
        ]) ++ flat_map (refuses s time node lack) parked)
    by_ask None more = more
    by_ask (Some a) more = ((had, met, tt), more)

refuses_all : (w : World) (book : Book) (at : ℕ) (kept : List Kept) (s : Shard) (m : Letter) (namespace : List ℕ) (node : ℕ) (lack : Lack)
    → Stood w book at kept s → InputFits w book at (letter_input m) → m.body ≡ refused (of_table namespace false no_time) (is_lack node lack)
    → Owes w book at (held_shard s kept) (record {
      written = [];
      mail = flat_map (refuses s (heard s m) node lack) (filter (wants_table namespace) s.parked);
      taken = [];
      replies = [];
      away = [];
    })
    (shard_state (record {
      me = s.me;
      time = heard s m;
      tables = s.tables;
      entries = s.entries;
      ceiling = s.ceiling;
      parked = filter (λ p. not (wants_table namespace p)) s.parked;
    }))
refuses_all w book at kept s m namespace node lack is comes told =
    quiet w book at (held_shard s kept) (flat_map (refuses s (heard s m) node lack) (filter (wants_table namespace) s.parked)) _ is.good tt tt (heard_later s m)
    (let n = is.within in omega (arith, n))
    (λ v grows journal bound.
    let met : IsMet v w.given (heard s m) = met_later (view_of w.nodes book) v w.given (heard s m) grows (heard_met w book at kept s m is comes.1) in
    let had : HasLack (view_of w.nodes book) node lack = body_is w book at m (refused (of_table namespace false no_time) (is_lack node lack)) told comes in
    let f = shard_later (view_of w.nodes book) v w.asked at (heard s m) kept s grows (heard_later s m) is.fits in
    record {
      node = record {
        own = f.own;
        came = all_weaken (λ (p : Letter). (p.receiver ≡ at) × (not (wants_table namespace p) ≡ true)) (λ (p : Letter). p.receiver ≡ at)
            (filter (λ p. not (wants_table namespace p)) s.parked) (λ p h. h.0)
            (all_filtered (λ (p : Letter). p.receiver ≡ at) (λ p. not (wants_table namespace p)) s.parked f.came);
        entries = f.entries;
        tops = f.tops;
        past = f.past;
        legal = f.legal;
        sent = f.sent;
        numbers = f.numbers;
        placed = f.placed;
        parts = f.parts;
        still = f.still;
        tables = f.tables;
        parked = all_weaken (λ p. ParkedFits v w.asked (heard s m) p × (not (wants_table namespace p) ≡ true)) (ParkedFits v w.asked (heard s m))
            (filter (λ p. not (wants_table namespace p)) s.parked) (λ p h. h.0)
            (all_filtered (ParkedFits v w.asked (heard s m)) (λ p. not (wants_table namespace p)) s.parked f.parked);
      };
      met = met;
      cursors = tt;
      letters = refuses_fit v w.asked w.given s (heard s m) node lack (filter (wants_table namespace) s.parked) met
          (lack_grows (view_of w.nodes book) v node lack grows had);
    })

-- where nothing happens
pub shard_rests : (w : World) (book : Book) (at : ℕ) (kept : List Kept) (s : Shard) → Good w book → journal_at w.nodes at ≡ kept
    → NodeFits (view_of w.nodes book) w.asked w.answered w.given at (record { state = shard_state s; kept = kept })
    → Owes w book at (record { state = shard_state s; kept = kept }) nothing (shard_state s)
shard_rests w book at kept s good here fits =
    at_rest w book at kept s s.time [] (record { good = good; here = here; fits = fits.state; met = fits.met; within = fits.within }) (omega arith) fits.met
    (λ v grows met entries bound. tt)

-- where only messages are sent
pub shard_mails : (w : World) (book : Book) (at : ℕ) (kept : List Kept) (s : Shard) (mail : List Letter) → Good w book → journal_at w.nodes at ≡ kept
    → NodeFits (view_of w.nodes book) w.asked w.answered w.given at (record { state = shard_state s; kept = kept })
    → ((v : View) → Later (view_of w.nodes book) v → AllByRecursion (IsSaid v w.asked w.given) mail)
    → Owes w book at (record { state = shard_state s; kept = kept }) (sends mail) (shard_state s)
shard_mails w book at kept s mail good here fits letters =
    at_rest w book at kept s s.time mail (record { good = good; here = here; fits = fits.state; met = fits.met; within = fits.within }) (omega arith) fits.met
    (λ v grows met entries bound. letters v grows)

-- ALL ROWS

owes_row : (w : World) (book : Book) (at : ℕ) (kept : List Kept) (s t : Shard) (i : Input) (f : Effect) → Stood w book at kept s → IsFor s.me i → InputFits w book at i
    → ShardRow s i f t
    → Owes w book at (held_shard s kept) f (shard_state t)
owes_row w book at kept _ _ _ _ is own comes (shard_write s m id turn ordered namespace statements sent d dones made last asks fits serves) =
    let ask = (body_is w book at m (write_ask id turn ordered namespace statements sent) asks comes).0 in
    let place : IsShardAt at = sym is.fits.own ∙ sym own
    ∙ first_by (view_of w.nodes book) w.asked m.receiver m.time id ordered namespace statements d dones ask
    (first_served s.me namespace ordered s.entries (heard s m) statements (d ∷ dones) made last serves) in
    writes_all w book at kept s m id (d ∷ dones) made last is place (heard_met w book at kept s m is comes.1)
    (served w book at kept s m.receiver m.time id ordered namespace statements d dones made last is place ask (heard s m) (heard_later s m) (omega arith) serves)
owes_row w book at kept _ _ _ _ is own comes (shard_repeat s m id turn ordered namespace statements sent d dones asks other repeated) =
    tells_again w book at kept s m id ordered namespace statements d dones is own comes
    (body_is w book at m (write_ask id turn ordered namespace statements sent) asks comes).0 repeated
owes_row w book at kept _ _ _ _ is own comes (shard_empty s m id turn ordered namespace sent asks) =
    heard_back w book at kept s m [] is comes (λ v grows met entries bound. tt)
owes_row w book at kept _ _ _ _ is own comes (shard_park s m a asks new old waits) = parks w book at kept s m a is own comes asks
owes_row w book at kept _ _ _ _ is own comes (shard_waits s m a asks new old waits) = heard_back w book at kept s m [] is comes (λ v grows met entries bound. tt)
owes_row w book at kept _ _ _ _ is own comes (shard_stale s m a version asks new old) =
    absurd (never_stale (view_of w.nodes book) w.asked m.sender m.receiver m.time s.time s.me s.tables m.body a version
    (nodes_keep (view_of w.nodes book) w.asked w.answered w.given w.nodes is.good.order is.good.nodes (λ p. refl) (λ p. refl) is.good.one).begun.fitting
    is.fits.tables own comes.0 asks old)
owes_row w book at kept _ _ _ _ is own comes (shard_read s m id turn namespace moment half sent asks fits covered) =
    takes_documents w book at kept s m id turn namespace moment half sent is own comes asks covered
owes_row w book at kept _ _ _ _ is own comes (shard_read_above s m id turn namespace moment half sent asks fits above) =
    takes_above w book at kept s m id turn namespace moment half sent is own comes asks above
owes_row w book at kept _ _ _ _ is own comes (shard_rows s m id turn namespace moment half documents rows asks makes few) =
    heard_back w book at kept s m _ is comes
    (λ v grows met entries bound. ((made_of w book at kept s m v id turn namespace moment half documents rows is own comes asks grows makes, met, tt), tt))
owes_row w book at kept _ _ _ _ is own comes (shard_excess s m id turn namespace moment half documents rows length n asks makes much told) =
    heard_back w book at kept s m _ is comes
    (λ v grows met entries bound. (
      (
        record {
          rows = rows;
          made = made_of w book at kept s m v id turn namespace moment half documents rows is own comes asks grows makes;
          length = length;
          excess = much;
          told = told;
        },
        met,
        tt,
      ),
      tt,
    ))
owes_row w book at kept _ _ _ _ is own comes (shard_overflow s m id turn namespace moment half documents asks runs) =
    absurd (never_overflows w book at m id turn namespace moment half documents comes asks runs)
owes_row w book at kept _ _ _ _ is own comes (shard_time s m id asks) =
    heard_back w book at kept s m _ is comes
    (λ v grows met entries bound.
    let here : s.entries ≡ entries_in v s.me = sym (subst (λ n. entries_in v n ≡ s.entries) (sym is.fits.own) entries) in (
      (
        body_is w book at m (time_ask id) asks comes,
        met,
        subst (λ l. AllByRecursion (λ (e : Entry). e.time ≤ heard s m) l) here (up_to_later s.time (heard s m) s.entries (heard_later s m) is.fits.past),
      ),
      tt,
    ))
owes_row w book at kept _ _ _ _ is own comes (shard_learn s m namespace create moment t told news) = learns w book at kept s m namespace create moment t
    is comes told
owes_row w book at kept _ _ _ _ is own comes (shard_known s m namespace create moment table told old) =
    heard_back w book at kept s m [] is comes (λ v grows met entries bound. tt)
owes_row w book at kept _ _ _ _ is own comes (shard_no_table s m namespace node lack says_so) = refuses_all w book at kept s m namespace node lack is comes says_so
owes_row w book at kept _ _ _ _ is own comes (shard_skip s m none) = at_rest w book at kept s s.time [] is (omega arith) is.met (λ v grows met entries bound. tt)
owes_row w book at kept _ _ _ _ is own comes (shard_moment s moment) =
    at_rest w book at kept s (max s.time (time_of_moment moment)) _ is (omega arith)
    (met_max (view_of w.nodes book) w.given s.time (time_of_moment moment) is.met comes.0)
    (λ v grows met entries bound. asks_again_fit v w.asked w.given s (max s.time (time_of_moment moment)) s.parked met)
owes_row w book at kept _ _ _ _ is own comes (shard_opened s) = at_rest w book at kept s s.time [] is (omega arith) is.met (λ v grows met entries bound. tt)
owes_row w book at kept _ _ _ _ is own comes (shard_client s link number request) =
    at_rest w book at kept s s.time [] is (omega arith) is.met (λ v grows met entries bound. tt)

pub shard_owes : (w : World) (book : Book) (at : ℕ) (kept : List Kept) (s t : Shard) (i : Input) (f : Effect) → Good w book
    → journal_at w.nodes at ≡ kept
    → NodeFits (view_of w.nodes book) w.asked w.answered w.given at (record { state = shard_state s; kept = kept }) → IsFor s.me i → InputFits w book at i
    → ShardRow s i f t
    → Owes w book at (record { state = shard_state s; kept = kept }) f (shard_state t)
shard_owes w book at kept s t i f good here fits own comes row = owes_row w book at kept s t i f
    (record { good = good; here = here; fits = fits.state; met = fits.met; within = fits.within }) own comes row
