-- A step in which its node stops owes what it owes: its records are stored, its requests are taken, and the node is started on its journal.
use Rattle.std.proofs.Common.{◌≡◌, ◌≢◌, ℕ, suc, ◌<◌, List, [], ◌++◌, refl, sym, ap, subst, arith, append-nil}
use Rattle.std.specs.Prelude.{Some, filter}
use Rattle.std.specs.List.{slice_get}
use Rattle.chunk_model.specs.Changes.{Change}
use Rattle.reply_model.specs.Cursors.{Cursor}
use Rattle.reply_model.specs.Exchanges.{Asked, Answered}
use Rattle.reply_model.specs.OneHistory.{ids_asked, ids_told, AreDifferent}
use Rattle.node_model.specs.Journal.{changes_kept}
use Rattle.node_model.specs.Letters.{Input, Effect, nothing}
use Rattle.node_model.specs.States.{NodeState, catalogue_state, shard_state, router_state}
use Rattle.node_model.specs.Steps.{Step, catalogue_step, shard_step, router_step, begin_step, other_step}
use Rattle.node_model.specs.World.{Held, World, answered_by, journal_at}
use Rattle.node_laws.proofs.Views.{Book, Reach, View, view_of, changes_in, More, Later}
use Rattle.node_laws.proofs.Facts.{NodeFits, node_of, AnswersFit, no_answer, SameKind, is_of, ReachFits, raises_of, Good}
use Rattle.node_laws.proofs.Owes.{asked_after, answered_after, StaysHeard, OwesIn, Owes}
use Rattle.node_laws.proofs.Places.{each_get}
use Rattle.node_laws.proofs.TimeFacts.{HeardFits}
use Rattle.node_laws.proofs.Others.{Decided, other_fits}
use Rattle.node_laws.proofs.LongerJournals.{more_changes}
use Rattle.node_laws.proofs.StepsKeep.{fits_here}
use Rattle.node_replay.specs.Durable.{DurableState, durable_catalogue, durable_shard, durable_router, durable_of, empty_of}
use Rattle.node_replay.specs.Holds.{HoldsOwn, Replays}
use Rattle.node_replay.specs.Openings.{opened}
use Rattle.node_replay.specs.Replays.{replayed, records_of}
use Rattle.node_replay.specs.Restarts.{cut_off}
use Rattle.node_replay.proofs.Restarts.{became}
use Rattle.restart_laws.proofs.Openings.{in_notes, SameNotes, Stood, opened_fits}
use Rattle.restart_laws.proofs.StoredTables.{StorePastTables, StoresOwn, past_of, tables_after}

-- KINDS

pub kind_self : (s : NodeState) → SameKind s s
kind_self (catalogue_state c) = tt
kind_self (shard_state s) = tt
kind_self (router_state r) = tt

pub kind_step : (s t : NodeState) (i : Input) (f : Effect) → Step s i f t → SameKind s t
kind_step _ _ _ _ (catalogue_step c d i f own row) = tt
kind_step _ _ _ _ (shard_step s t i f own row) = tt
kind_step _ _ _ _ (router_step r q i f own row) = tt
kind_step _ _ _ _ (begin_step r q i f closed before row) = tt
kind_step _ _ _ _ (other_step s m other) = kind_self s

-- a start does not change the kind of a node
pub kind_opened : (s t : NodeState) (time stored : ℕ) → SameKind s t → SameKind s (opened time (durable_of stored t))
kind_opened (catalogue_state c) (catalogue_state d) time stored same = tt
kind_opened (shard_state c) (shard_state d) time stored same = tt
kind_opened (router_state c) (router_state d) time stored same = tt
kind_opened (catalogue_state c) (shard_state d) time stored same = absurd same
kind_opened (catalogue_state c) (router_state d) time stored same = absurd same
kind_opened (shard_state c) (catalogue_state d) time stored same = absurd same
kind_opened (shard_state c) (router_state d) time stored same = absurd same
kind_opened (router_state c) (catalogue_state d) time stored same = absurd same
kind_opened (router_state c) (shard_state d) time stored same = absurd same

-- NO STEP

later_by : (u v : View) (cursors : List Cursor) (notes : List Reach) → More u.reached notes → Later u v → Later u (in_notes cursors notes v)
later_by u v cursors notes more later = record {
  longer = later.longer;
  times = later.times;
  decided = later.decided;
  given = later.given;
  missed = later.missed;
  reached = more;
}

-- a node that does nothing owes what it owes
pub nothing_owes : (w : World) (book : Book) (at : ℕ) (old : Held) → Good w book → slice_get w.nodes at ≡ Some old
    → Owes w book at (node_of old) nothing old.state
nothing_owes w book at old good here =
    let one : AreDifferent (ids_asked (w.asked ++ [])) = subst (λ l. AreDifferent (ids_asked l)) (sym (append-nil w.asked)) good.one in
    record {
      kind = kind_self old.state;
      rises = tt;
      taken = tt;
      told = tt;
      one = one;
      once = subst (λ l. AreDifferent (ids_told l)) (sym (append-nil w.answered)) good.once;
      fresh = tt;
      in_order = tt;
      news = [];
      chose = tt;
      cursors = book.cursors;
      raised = each_get (λ j (h : Held). ReachFits book.reached h.state) 0 at w.nodes old good.reach here;
      elsewhere = λ router other. refl;
      owed = λ v later apart journal bound chosen cursors noted.
          (let decides : Decided (suc at) (view_of w.nodes book) v = record { news = []; same = chosen; theirs = tt } in
          record {
            node = subst (λ k. NodeFits v (w.asked ++ []) (w.answered ++ []) w.given at (record { state = old.state; kept = k })) (sym (append-nil old.kept))
                (other_fits (view_of w.nodes book) v w.asked [] w.answered [] w.given at (suc at) old (λ e. absurd (omega (arith, e))) later decides
                (λ router other. ap (λ l. filter (is_of router) l) cursors) one tt tt (fits_here w book at old good here));
            letters = tt;
            answers = subst (λ l. AnswersFit v (w.asked ++ []) (w.answered ++ []) book.cursors [] l) (sym cursors) (no_answer book.cursors);
            known = tt;
            met = tt;
          });
    }

-- WHAT ROUTERS HEARD

-- how many shards a router knows of; other nodes know of none
abbrev shards_in : DurableState → ℕ
shards_in (durable_catalogue d) = 0
shards_in (durable_shard d) = 0
shards_in (durable_router d) = d.shards

abbrev IsSome : NodeState → Type 0
IsSome (catalogue_state c) = Unit {0}
IsSome (shard_state s) = Unit {0}
IsSome (router_state r) = 0 < r.shards

some_heard : (v : View) (asked : List Asked) (answered : List Answered) (s : NodeState) → HeardFits v asked answered s → IsSome s
some_heard v asked answered (catalogue_state c) heard = tt
some_heard v asked answered (shard_state s) heard = tt
some_heard v asked answered (router_state r) heard = heard.some

some_same : (s t : NodeState) → empty_of t ≡ empty_of s → SameKind s t → IsSome s → IsSome t
some_same (router_state r) (router_state q) same kind some = subst (λ n. 0 < n) (sym (ap shards_in same)) some
some_same (catalogue_state c) (router_state q) same kind some = absurd kind
some_same (shard_state s) (router_state q) same kind some = absurd kind
some_same s (catalogue_state d) same kind some = tt
some_same s (shard_state t) same kind some = tt

-- a router that is started has no open request
opened_heard : (v : View) (asked : List Asked) (answered : List Answered) (time stored : ℕ) (s : NodeState) → IsSome s
    → HeardFits v asked answered (opened time (durable_of stored s))
opened_heard v asked answered time stored (catalogue_state c) some = tt
opened_heard v asked answered time stored (shard_state s) some = tt
opened_heard v asked answered time stored (router_state r) some = record { some = some; requests = tt }

-- HOW FAR STATEMENTS WERE SENT

-- a node that is started has no open request
opened_raised : (notes : List Reach) (time stored : ℕ) (s : NodeState) → ReachFits notes (opened time (durable_of stored s))
opened_raised notes time stored (catalogue_state c) = tt
opened_raised notes time stored (shard_state s) = tt
opened_raised notes time stored (router_state r) = tt

same_notes : (s : NodeState) (time stored : ℕ) (notes old : List Reach) → notes ≡ old ++ raises_of (opened time (durable_of stored s))
    → SameNotes notes (old ++ raises_of s) s
same_notes (catalogue_state c) time stored notes old same = tt
same_notes (shard_state s) time stored notes old same = same
same_notes (router_state r) time stored notes old same = tt

-- A STEP

-- what is known of a node that stops in a step, with these changes of the catalogue
pub record Halts (changes : List Change) (old : Held) (f : Effect) (reached : NodeState) : Type 0 where
  pub early : ℕ
  pub late : ℕ
  pub leads : replayed (Some (durable_of early old.state)) (records_of f.written) ≡ Some (durable_of late reached)
  pub replays : Replays (record { state = reached; kept = old.kept ++ f.written; steps = 0 })
  pub holds : HoldsOwn
      (record { state = became (record { state = reached; kept = old.kept ++ f.written; steps = 0 }); kept = old.kept ++ f.written; steps = 0 })
  pub tables : StorePastTables changes old.kept old.state
  pub own : StoresOwn f.written reached
  pub same : empty_of reached ≡ empty_of old.state

-- what it is started as
abbrev pub halted : Held → Effect → NodeState → NodeState
halted old f reached = became (record { state = reached; kept = old.kept ++ f.written; steps = 0 })

module _ (w : World) (book : Book) (at : ℕ) (old : Held) (f : Effect) (reached : NodeState) (good : Good w book) (here : slice_get w.nodes at ≡ Some old)
    (owes : Owes w book at (node_of old) f reached) (halts : Halts (changes_kept (journal_at w.nodes 0)) old f reached) where
  -- the view in which the step was whole
  abbrev InWhole : View → View
  InWhole v = in_notes owes.cursors (book.reached ++ raises_of reached) v

  cut_owed : (v : View) → Later (view_of w.nodes book) v → ((p : ℕ) → p ≢ at → v.journal p ≡ journal_at w.nodes p) → v.journal at ≡ old.kept ++ f.written
      → v.reached ≡ book.reached ++ raises_of (halted old f reached) → OwesIn (InWhole v) w book at (node_of old) f reached
      → OwesIn (in_notes book.cursors v.reached v) w book at (node_of old) (cut_off f) (halted old f reached)
  cut_owed v later apart journal noted owed =
      let news = more_changes (view_of w.nodes book) v later in
      let stood : Stood (InWhole v) book.cursors v.reached (asked_after w f) w.answered (answered_by w.now f.replies) w.given at old.state f.written
      (record { state = reached; kept = old.kept ++ f.written; steps = 0 }) =
      record {
        fits = owed.node;
        replays = halts.replays;
        holds = halts.holds;
        tables = tables_after (changes_kept (journal_at w.nodes 0)) (changes_in v) news.more old.kept f.written old.state reached
            owes.kind news.same halts.tables halts.own
            (past_of (InWhole v) (asked_after w f) (answered_after w f) at (old.kept ++ f.written) reached owed.node.state);
        noted = same_notes reached _ _ v.reached book.reached noted;
        kind = owes.kind;
        early = halts.early;
        late = halts.late;
        leads = halts.leads;
        cursors_fit = (fits_here w book at old good here).cursors;
      } in
      record {
        node = subst (λ l. NodeFits (in_notes book.cursors v.reached v) (asked_after w f) l w.given at
            (record { state = halted old f reached; kept = old.kept ++ f.written })) (sym (append-nil w.answered))
            (opened_fits (InWhole v) book.cursors v.reached (asked_after w f) w.answered (answered_by w.now f.replies) w.given at old.state reached
            f.written (old.kept ++ f.written) stood);
        letters = tt;
        answers = no_answer book.cursors;
        known = owed.known;
        met = tt;
      }

  pub cut_heard : StaysHeard w at (cut_off f) (halted old f reached)
  cut_heard v apart =
      opened_heard v (asked_after w (cut_off f)) (answered_after w (cut_off f)) _ _ reached
      (some_same old.state reached halts.same owes.kind
      (some_heard (view_of w.nodes book) w.asked w.answered old.state
      (each_get (λ k (x : Held). HeardFits (view_of w.nodes book) w.asked w.answered x.state) 0 at w.nodes old good.heard here)))

  pub cut_owes : Owes w book at (node_of old) (cut_off f) (halted old f reached)
  cut_owes = record {
    kind = kind_opened old.state reached _ _ owes.kind;
    rises = owes.rises;
    taken = owes.taken;
    told = tt;
    one = owes.one;
    once = subst (λ l. AreDifferent (ids_told l)) (sym (append-nil w.answered)) good.once;
    fresh = owes.fresh;
    in_order = owes.in_order;
    news = owes.news;
    chose = owes.chose;
    cursors = book.cursors;
    raised = opened_raised book.reached _ _ reached;
    elsewhere = λ router other. refl;
    owed = λ v later apart journal bound chosen cursors noted.
        subst (λ l. OwesIn (in_notes l v.reached v) w book at (node_of old) (cut_off f) (halted old f reached)) (sym cursors)
        (cut_owed v later apart journal noted.reached
        (owes.owed (InWhole v)
        (later_by (view_of w.nodes book) v owes.cursors (book.reached ++ raises_of reached) (record { news = raises_of reached; same = refl }) later)
        apart journal bound chosen refl (record { given = noted.given; lacks = noted.lacks; reached = refl })));
  }
