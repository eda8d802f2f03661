-- What the rows of the catalogue owe.
use Rattle.std.proofs.Common.{◌≡◌, inl, inr, ℕ, ◌+◌, ◌<◌, ◌≤◌, List, [], ◌∷◌, ◌++◌, refl, sym, ap, subst, ◌∙◌, arith, append-nil, Bool}
use Rattle.std.specs.Prelude.{Option, Some, None, true, false, max}
use Rattle.std.specs.List.{AllByRecursion}
use Rattle.history_model.proofs.Lists.{all_at, all_weaken, in_first}
use Rattle.bson_model.specs.Tree.{Datum}
use Rattle.base_model.specs.Identities.{RequestId}
use Rattle.base_model.specs.Times.{time_of_moment}
use Rattle.chunk_model.specs.Tables.{Table}
use Rattle.chunk_model.specs.Changes.{Change, create_change, split_change, commit_change, time_of, known_table, creations, split_table}
use Rattle.chunk_model.specs.Placement.{Follows, AreFitting}
use Rattle.chunk_model.specs.Requests.{changed, unchanged, no_collection, create_answer, split_answer}
use Rattle.chunk_laws.proofs.Placed.{cover}
use Rattle.chunk_laws.proofs.Requests.{create_follows, split_follows}
use Rattle.history_model.specs.History.{IsIn}
use Rattle.reply_model.specs.Exchanges.{Asked, Answered}
use Rattle.reply_model.specs.OneHistory.{WasWanted, ids_asked, ids_told, AreDifferent}
use Rattle.reply_model.specs.Cursors.{Cursor}
use Rattle.node_model.specs.Journal.{Kept, kept_change, kept_none, changes_kept, time_kept, greatest_kept}
use Rattle.node_model.specs.Letters.{nothing, At, no_time, at_time, table_ask, split_ask, Letter, Input, letter_input, Effect, sends, writes}
use Rattle.node_model.specs.States.{Catalogue, catalogue_state}
use Rattle.node_model.specs.CatalogueRows.{told, split_told, none_at, at_later, with_change, CatalogueRow, catalogue_create, catalogue_tell, catalogue_split, catalogue_bound, catalogue_none, catalogue_skip, catalogue_moment, catalogue_opened, catalogue_client}
use Rattle.node_model.specs.World.{World}
use Rattle.node_laws.proofs.Views.{Book, View, view_of, changes_in, MovesNothing, IsAbove, Later}
use Rattle.node_laws.proofs.GreatestTimes.{greatest_both, within_more}
use Rattle.node_laws.proofs.CatalogueTables.{some_created, IsNoCreation, none_created, table_name, wanted_still}
use Rattle.node_laws.proofs.CatalogueAnswers.{created_is, splits, has_bound, no_table, split_known}
use Rattle.node_laws.proofs.SplitTables.{split_bound, begins_already}
use Rattle.node_laws.proofs.ReadFacts.{BeginsAfter}
use Rattle.node_laws.proofs.SplitFacts.{IsSplitOf}
use Rattle.node_laws.proofs.Facts.{IsKnownTable, IsWanted, TableFits, AtFits, BodyFits, CatalogueFits, NodeFits, IsMet, AnswersFit, no_answer, Good}
use Rattle.node_laws.proofs.Owes.{InputFits, IsSaid, Owes}
use Rattle.node_laws.proofs.LongerJournals.{changes_longer}
use Rattle.node_laws.proofs.Growth.{met_later, met_max}

-- QUIET STEPS: nothing is taken, replied or written

-- a step that takes and replies nothing requests no more than before
pub one_still : (w : World) → AreDifferent (ids_asked w.asked) → AreDifferent (ids_asked (w.asked ++ []))
one_still w d = subst (λ l. AreDifferent (ids_asked l)) (sym (append-nil w.asked)) d

pub once_still : (w : World) → AreDifferent (ids_told w.answered) → AreDifferent (ids_told (w.answered ++ []))
once_still w d = subst (λ l. AreDifferent (ids_told l)) (sym (append-nil w.answered)) d

-- nor does it reply anything
pub no_answers : (v : View) (asked : List Asked) (answered : List Answered) (cursors : List Cursor) → v.cursors ≡ cursors
    → AnswersFit v asked answered cursors [] v.cursors
no_answers v asked answered cursors same = subst (λ l. AnswersFit v asked answered cursors [] l) (sym same) (no_answer cursors)

-- WHAT TABLES SAY

-- the changes of the catalogue as a view has them, none of them later than a time
record AreStored (v : View) (time : ℕ) (changes : List Change) : Type 0 where
  pub same : changes_in v ≡ changes
  pub past : AllByRecursion (λ x. time_of x ≤ time) changes
  pub fitting : AreFitting changes
  pub still : AllByRecursion MovesNothing changes

-- a table that they make is known
table_known : (v : View) (time : ℕ) (changes : List Change) (namespace : List ℕ) (t : Table) → AreStored v time changes
    → known_table namespace changes ≡ Some t → IsKnownTable v time t × (t.namespace ≡ namespace)
table_known v time changes namespace t s known =
    let name : t.namespace ≡ namespace = table_name namespace changes t known in
    let c = some_created namespace changes t known in (
      record {
        more = [];
        older = changes;
        all = s.same;
        begun = record {
          creation = c.creation;
          begun = c.begun;
          name = c.name ∙ sym name;
          before = all_at (λ x. time_of x ≤ time) (create_change c.creation) changes s.past c.begun;
        };
        known = ap (λ n. known_table n changes) name ∙ known;
        fitting = s.fitting;
        still = subst (λ l. AllByRecursion MovesNothing l) (sym s.same) s.still;
      },
      name,
    )

no_creation_after : (namespace : List ℕ) (time : ℕ) (x : Change) → IsNoCreation namespace x → BeginsAfter namespace time x
no_creation_after namespace time (create_change c) other = λ same. absurd (other same)
no_creation_after namespace time (split_change s) other = tt
no_creation_after namespace time (commit_change c) other = tt

-- what the catalogue returns is true
tell_fits : (v : View) (time early : ℕ) (changes : List Change) (namespace : List ℕ) (at : At) → AreStored v time changes
    → greatest_kept (none_at at (known_table namespace changes)) ≤ v.bound 0 → AtFits at early → TableFits v time namespace at (known_table namespace changes)
tell_fits v time early changes namespace at s bound fits = by_table (known_table namespace changes) refl bound
  where
    none_began : known_table namespace changes ≡ None → (at_is : At) → greatest_kept (none_at at_is None) ≤ v.bound 0 → AtFits at_is early
        → TableFits v time namespace at_is None
    none_began e no_time bound fits = tt
    none_began e (at_time t) bound fits = (
      omega (arith, bound),
      subst (λ l. AllByRecursion (BeginsAfter namespace t) l) (sym s.same)
          (all_weaken (IsNoCreation namespace) (BeginsAfter namespace t) changes (λ x h. no_creation_after namespace t x h)
          (none_created namespace changes e)),
    )

    by_table : (o : Option Table) → known_table namespace changes ≡ o → greatest_kept (none_at at o) ≤ v.bound 0 → TableFits v time namespace at o
    by_table None e bound = none_began e at bound fits
    by_table (Some t) e bound = table_known v time changes namespace t s e

at_fits : (v : View) (asked : List Asked) (sender receiver time : ℕ) (namespace : List ℕ) (create : Bool) (at : At)
    → BodyFits v asked sender receiver time (table_ask namespace create at) → AtFits at time
at_fits v asked sender receiver time namespace true at f = f.0
at_fits v asked sender receiver time namespace false at f = f

wanted_for : (asked : List Asked) (namespace : List ℕ) (time at epoch : ℕ) → time < at → IsWanted asked namespace time
    → WasWanted asked (create_change (record { namespace = namespace; epoch = epoch; at = at }))
wanted_for asked namespace time at epoch less s =
    record { request = s.request; taken = s.taken; asks = s.asks; later = let p = s.past in omega arith }

split_for : (asked : List Asked) (id : RequestId) (namespace : List ℕ) (middle : Datum) (time at : ℕ) → time < at
    → IsSplitOf asked id namespace middle time
    → WasWanted asked (split_change (record { namespace = namespace; middle = middle; at = at }))
split_for asked id namespace middle time at less s =
    record { request = s.request; taken = s.taken; asks = s.asks; later = let p = s.past in omega arith }

-- STEPS

-- the facts on the catalogue at a later time
later_catalogue : (asked : List Asked) (at time : ℕ) (kept : List Kept) (c : Catalogue) → c.time ≤ time → CatalogueFits asked at kept c
    → CatalogueFits asked at kept (at_later c time)
later_catalogue asked at time kept c le f = record {
  own = f.own;
  place = f.place;
  changes = f.changes;
  past = all_weaken (λ x. time_of x ≤ c.time) (λ x. time_of x ≤ time) (changes_kept kept) (λ x h. omega arith) f.past;
  fitting = f.fitting;
  wanted = f.wanted;
}

still_kept : (asked : List Asked) (at : ℕ) (kept : List Kept) (c : Catalogue) → CatalogueFits asked at kept c
    → AllByRecursion MovesNothing (changes_kept kept)
still_kept asked at kept c f = all_weaken (WasWanted asked) MovesNothing (changes_kept kept) (λ x h. wanted_still asked x h) f.wanted

-- what it stores, as a view has it
stored : (v : View) (asked : List Asked) (at time : ℕ) (kept : List Kept) (c : Catalogue) → CatalogueFits asked at kept c → c.time ≤ time
    → v.journal at ≡ kept → AreStored v time c.changes
stored v asked at time kept c f le own = record {
  same = ap (λ p. changes_kept (v.journal p)) (sym f.place) ∙ ap (λ k. changes_kept k) own ∙ sym f.changes;
  past = subst (λ l. AllByRecursion (λ x. time_of x ≤ time) l) (sym f.changes)
      (all_weaken (λ x. time_of x ≤ c.time) (λ x. time_of x ≤ time) (changes_kept kept) (λ x h. omega arith) f.past);
  fitting = subst (λ l. AreFitting l) (sym f.changes) f.fitting;
  still = subst (λ l. AllByRecursion MovesNothing l) (sym f.changes) (still_kept asked at kept c f);
}

-- a step of the catalogue that writes nothing: its later state, and its messages in a view after it
quiet : (w : World) (book : Book) (at : ℕ) (kept : List Kept) (c d : Catalogue) (mail : List Letter) → Good w book
    → NodeFits (view_of w.nodes book) w.asked w.answered w.given at (record { state = catalogue_state c; kept = kept }) → c.time ≤ d.time
    → CatalogueFits w.asked at kept d → IsMet (view_of w.nodes book) w.given d.time
    → ((v : View) → Later (view_of w.nodes book) v → v.journal at ≡ kept → AllByRecursion (IsSaid v w.asked w.given) mail)
    → Owes w book at (record { state = catalogue_state c; kept = kept }) (sends mail) (catalogue_state d)
quiet w book at kept c d mail good fits le new met letters = record {
  kind = tt;
  rises = tt;
  taken = tt;
  told = tt;
  one = one_still w good.one;
  once = once_still w good.once;
  fresh = tt;
  in_order = tt;
  news = [];
  chose = tt;
  cursors = book.cursors;
  raised = tt;
  elsewhere = λ router other. refl;
  owed = λ v later others own time chosen cursors notes. record {
    node = rw (append-nil w.asked, append-nil w.answered, append-nil kept)
        (record { state = new; met = met_later (view_of w.nodes book) v w.given d.time later met; cursors = tt; within = (let n = fits.within in omega (arith, n, le)) });
    letters = rw (append-nil w.asked) (letters v later (own ∙ append-nil kept));
    answers = no_answers v (w.asked ++ []) (w.answered ++ []) book.cursors cursors;
    known = tt;
    met = tt;
  };
}

-- a change that it makes: later than all before it, which it fits, for a request, at the catalogue's time then
record IsNext (asked : List Asked) (c : Catalogue) (now : ℕ) (x : Change) : Type 0 where
  pub follows : Follows x c.changes
  pub wanted : WasWanted asked x
  pub at : time_of x ≡ now

-- the catalogue with it
grown : (asked : List Asked) (at now : ℕ) (kept : List Kept) (c : Catalogue) (x : Change) → c.time ≤ now → CatalogueFits asked at kept c
    → IsNext asked c now x → CatalogueFits asked at (kept ++ kept_change x ∷ []) (with_change c now x)
grown asked at now kept c x le f n =
    let longer : x ∷ c.changes ≡ changes_kept (kept ++ kept_change x ∷ []) = ap (λ l. x ∷ l) f.changes ∙ sym (changes_longer kept (kept_change x ∷ [])) in
    let own = n.at in
    record {
      own = f.own;
      place = f.place;
      changes = longer;
      past = subst (λ l. AllByRecursion (λ y. time_of y ≤ now) l) longer (
        omega arith,
        subst (λ l. AllByRecursion (λ y. time_of y ≤ now) l) (sym f.changes)
            (all_weaken (λ y. time_of y ≤ c.time) (λ y. time_of y ≤ now) (changes_kept kept) (λ y h. omega arith) f.past),
      );
      fitting = subst (λ l. AreFitting l) longer (n.follows, subst (λ l. AreFitting l) (sym f.changes) f.fitting);
      wanted = subst (λ l. AllByRecursion (WasWanted asked) l) longer
          (n.wanted, subst (λ l. AllByRecursion (WasWanted asked) l) (sym f.changes) f.wanted);
    }

-- a step in which it makes one
makes : (w : World) (book : Book) (at : ℕ) (kept : List Kept) (c : Catalogue) (now : ℕ) (x : Change) (mail : List Letter) → Good w book
    → NodeFits (view_of w.nodes book) w.asked w.answered w.given at (record { state = catalogue_state c; kept = kept })
    → c.time < now → IsNext w.asked c now x
    → ((v : View) → Later (view_of w.nodes book) v → AreStored v now (x ∷ c.changes) → now ≤ v.bound 0 → IsMet v w.given now
    → AllByRecursion (IsSaid v w.asked w.given) mail)
    → Owes w book at (record { state = catalogue_state c; kept = kept }) (writes (kept_change x ∷ []) mail) (catalogue_state (with_change c now x))
makes w book at kept c now x mail good fits less n letters =
    let own = n.at in
    let next = grown w.asked at now kept c x (omega arith) fits.state n in
    let within : greatest_kept (kept ++ kept_change x ∷ []) ≤ now =
    within_more kept (kept_change x ∷ []) c.time now fits.within (omega (arith, less)) (omega (arith, own), tt) in
    record {
      kind = tt;
      rises = ((omega arith, wanted_still w.asked x n.wanted), tt);
      taken = tt;
      told = tt;
      one = one_still w good.one;
      once = once_still w good.once;
      fresh = tt;
      in_order = tt;
      news = [];
      chose = tt;
      cursors = book.cursors;
      raised = tt;
      elsewhere = λ router other. refl;
      owed = λ v later others journal time chosen cursors notes.
          let s : AreStored v now (x ∷ c.changes) = stored v w.asked at now (kept ++ kept_change x ∷ []) (with_change c now x) next (omega arith) journal in
          let stores = greatest_both kept (kept_change x ∷ []) in
          let bound_is : v.bound 0 ≡ greatest_kept (kept ++ kept_change x ∷ []) = ap (λ p. v.bound p) (sym fits.state.place) ∙ time in
          let bound : now ≤ v.bound 0 = omega (arith, stores, bound_is, own) in
          let met : IsMet v w.given now = inr (inr (inl (x, subst (λ l. IsIn x l) (sym s.same) (in_first x c.changes), (let h = n.at in omega (arith, h))))) in
          record {
            node = rw (append-nil w.asked, append-nil w.answered) (record { state = next; met = met; cursors = tt; within = within });
            letters = rw (append-nil w.asked) (letters v later s bound met);
            answers = no_answers v (w.asked ++ []) (w.answered ++ []) book.cursors cursors;
            known = tt;
            met = tt;
          };
    }

-- its answer to a message, at the time of that or its own
answers : (w : World) (book : Book) (at : ℕ) (kept : List Kept) (c : Catalogue) (m l : Letter) → Good w book
    → NodeFits (view_of w.nodes book) w.asked w.answered w.given at (record { state = catalogue_state c; kept = kept }) → InputFits w book at (letter_input m)
    → ((v : View) → Later (view_of w.nodes book) v → AreStored v (max c.time m.time) c.changes
    → IsMet v w.given (max c.time m.time)
    → IsSaid v w.asked w.given l)
    → Owes w book at (record { state = catalogue_state c; kept = kept }) (sends (l ∷ [])) (catalogue_state (at_later c (max c.time m.time)))
answers w book at kept c m l good fits comes letter =
    let met : IsMet (view_of w.nodes book) w.given (max c.time m.time) = met_max (view_of w.nodes book) w.given c.time m.time fits.met comes.1 in
    quiet w book at kept c (at_later c (max c.time m.time)) (l ∷ []) good fits (omega arith)
    (later_catalogue w.asked at (max c.time m.time) kept c (omega arith) fits.state) met
    (λ v later own. (
      letter v later (stored v w.asked at (max c.time m.time) kept c fits.state (omega arith) own)
          (met_later (view_of w.nodes book) v w.given (max c.time m.time) later met),
      tt,
    ))

-- its answer to a request of a table: that there is none at a time is stored
no_change_told : (kept : List Kept) (at : At) (table : Option Table) → changes_kept (kept ++ none_at at table) ≡ changes_kept kept
no_change_told kept no_time table = changes_longer kept []
no_change_told kept (at_time t) None = changes_longer kept (kept_none t ∷ [])
no_change_told kept (at_time t) (Some table) = changes_longer kept []

told_above : (place time : ℕ) (at : At) (table : Option Table) → AllByRecursion (IsAbove place time) (none_at at table)
told_above place time no_time table = tt
told_above place time (at_time t) None = (tt, tt)
told_above place time (at_time t) (Some table) = tt

told_past : (early late : ℕ) (at : At) (table : Option Table) → early ≤ late → AtFits at early → AllByRecursion (λ k. time_kept k ≤ late) (none_at at table)
told_past early late no_time table le fits = tt
told_past early late (at_time t) None le fits = (omega (arith, le, fits), tt)
told_past early late (at_time t) (Some table) le fits = tt

told_below : (early : ℕ) (at : At) (table : Option Table) → AtFits at early → greatest_kept (none_at at table) ≤ early
told_below early no_time table fits = omega arith
told_below early (at_time t) None fits = omega (arith, fits)
told_below early (at_time t) (Some table) fits = omega arith

-- the same facts where no change is stored
same_changes : (asked : List Asked) (at : ℕ) (kept more : List Kept) (c : Catalogue) → changes_kept more ≡ changes_kept kept → CatalogueFits asked at kept c
    → CatalogueFits asked at more c
same_changes asked at kept more c same f = record {
  own = f.own;
  place = f.place;
  changes = f.changes ∙ sym same;
  past = subst (λ l. AllByRecursion (λ x. time_of x ≤ c.time) l) (sym same) f.past;
  fitting = subst (λ l. AreFitting l) (sym same) f.fitting;
  wanted = subst (λ l. AllByRecursion (WasWanted asked) l) (sym same) f.wanted;
}

tells_table : (w : World) (book : Book) (at : ℕ) (kept : List Kept) (c : Catalogue) (m : Letter) (namespace : List ℕ) (create : Bool) (asked_at : At)
    → Good w book
    → NodeFits (view_of w.nodes book) w.asked w.answered w.given at (record { state = catalogue_state c; kept = kept }) → InputFits w book at (letter_input m)
    → AtFits asked_at m.time
    → Owes w book at (record { state = catalogue_state c; kept = kept })
    (writes (none_at asked_at (known_table namespace c.changes))
    (told c m (max c.time m.time) namespace create asked_at (known_table namespace c.changes) ∷ []))
    (catalogue_state (at_later c (max c.time m.time)))
tells_table w book at kept c m namespace create asked_at good fits comes early =
    let written : List Kept = none_at asked_at (known_table namespace c.changes) in
    let now : ℕ = max c.time m.time in
    let met : IsMet (view_of w.nodes book) w.given now = met_max (view_of w.nodes book) w.given c.time m.time fits.met comes.1 in
    let next : CatalogueFits w.asked at (kept ++ written) (at_later c now) =
    same_changes w.asked at kept (kept ++ written) (at_later c now) (no_change_told kept asked_at (known_table namespace c.changes))
    (later_catalogue w.asked at now kept c (omega arith) fits.state) in
    let both : greatest_kept (kept ++ written) ≡ max (greatest_kept kept) (greatest_kept written) = greatest_both kept written in
    record {
      kind = tt;
      rises = told_above at c.time asked_at (known_table namespace c.changes);
      taken = tt;
      told = tt;
      one = one_still w good.one;
      once = once_still w good.once;
      fresh = tt;
      in_order = tt;
      news = [];
      chose = tt;
      cursors = book.cursors;
      raised = tt;
      elsewhere = λ router other. refl;
      owed = λ v later others journal time chosen cursors notes.
          let s : AreStored v now c.changes = stored v w.asked at now (kept ++ written) (at_later c now) next (omega arith) journal in
          let bound : v.bound 0 ≡ greatest_kept (kept ++ written) = ap (λ p. v.bound p) (sym fits.state.place) ∙ time in
          let told_met : IsMet v w.given now = met_later (view_of w.nodes book) v w.given now later met in
          record {
            node = rw (append-nil w.asked, append-nil w.answered) (record {
              state = next;
              met = told_met;
              cursors = tt;
              within = within_more kept written c.time now fits.within (omega arith)
                  (told_past m.time now asked_at (known_table namespace c.changes) (omega arith) early);
            });
            letters = ((tell_fits v now m.time c.changes namespace asked_at s (omega (arith, bound, both)) early, told_met, tt), tt);
            answers = no_answers v (w.asked ++ []) (w.answered ++ []) book.cursors cursors;
            known = tt;
            met = tt;
          };
    }

-- where nothing happens
pub catalogue_rests : (w : World) (book : Book) (at : ℕ) (kept : List Kept) (c : Catalogue) → Good w book
    → NodeFits (view_of w.nodes book) w.asked w.answered w.given at (record { state = catalogue_state c; kept = kept })
    → Owes w book at (record { state = catalogue_state c; kept = kept }) nothing (catalogue_state c)
catalogue_rests w book at kept c good fits = quiet w book at kept c c [] good fits (omega arith) fits.state fits.met (λ v later own. tt)

-- where only messages are sent
pub catalogue_mails : (w : World) (book : Book) (at : ℕ) (kept : List Kept) (c : Catalogue) (mail : List Letter) → Good w book
    → NodeFits (view_of w.nodes book) w.asked w.answered w.given at (record { state = catalogue_state c; kept = kept })
    → ((v : View) → Later (view_of w.nodes book) v → AllByRecursion (IsSaid v w.asked w.given) mail)
    → Owes w book at (record { state = catalogue_state c; kept = kept }) (sends mail) (catalogue_state c)
catalogue_mails w book at kept c mail good fits letters =
    quiet w book at kept c c mail good fits (omega arith) fits.state fits.met (λ v later own. letters v later)

-- ALL ROWS

module _ (w : World) (book : Book) (at : ℕ) (kept : List Kept) (c : Catalogue) (good : Good w book)
    (fits : NodeFits (view_of w.nodes book) w.asked w.answered w.given at (record { state = catalogue_state c; kept = kept })) (m : Letter)
    (comes : InputFits w book at (letter_input m)) where
  earlier : AllByRecursion (λ y. time_of y < max c.time m.time + 1) c.changes
  earlier =
      subst (λ l. AllByRecursion (λ y. time_of y < max c.time m.time + 1) l) (sym fits.state.changes)
      (all_weaken (λ y. time_of y ≤ c.time) (λ y. time_of y < max c.time m.time + 1) (changes_kept kept) (λ y h. omega arith) fits.state.past)

  creates : (namespace : List ℕ) (asked_at : At) (x : Change) → m.body ≡ table_ask namespace true asked_at
      → create_answer namespace (max c.time m.time + 1) c.changes ≡ changed x
      → Owes w book at (record { state = catalogue_state c; kept = kept })
      (writes (kept_change x ∷ []) (told c m (max c.time m.time + 1) namespace true asked_at (known_table namespace (x ∷ c.changes)) ∷ []))
      (catalogue_state (with_change c (max c.time m.time + 1) x))
  creates namespace asked_at x says new =
      let asks : BodyFits (view_of w.nodes book) w.asked m.sender m.receiver m.time (table_ask namespace true asked_at) = subst
      (λ b. BodyFits (view_of w.nodes book) w.asked m.sender m.receiver m.time b) says comes.0 in
      let is = created_is namespace (max c.time m.time + 1) c.changes x new in
      makes w book at kept c (max c.time m.time + 1) x _ good fits (omega arith)
      (record {
        follows = create_follows namespace (max c.time m.time + 1) c.changes x earlier new;
        wanted = subst (λ y. WasWanted w.asked y) (sym is)
            (wanted_for w.asked namespace m.time (max c.time m.time + 1) (creations namespace c.changes + 1) (omega arith) asks.1);
        at = ap (λ y. time_of y) is;
      })
      (λ v later s bound met. (
        (
          tell_fits v (max c.time m.time + 1) m.time (x ∷ c.changes) namespace asked_at s
              (let below = told_below m.time asked_at (known_table namespace (x ∷ c.changes)) asks.0 in omega (arith, below, bound)) asks.0,
          met,
          tt,
        ),
        tt,
      ))

  split_asked : (id : RequestId) (namespace : List ℕ) (middle : Datum) → m.body ≡ split_ask id namespace middle
      → IsSplitOf w.asked id namespace middle m.time
  split_asked id namespace middle says =
      subst (λ b. BodyFits (view_of w.nodes book) w.asked m.sender m.receiver m.time b) says comes.0

  divides : (id : RequestId) (namespace : List ℕ) (middle : Datum) (x : Change) → m.body ≡ split_ask id namespace middle
      → split_answer namespace middle (max c.time m.time + 1) c.changes ≡ changed x
      → Owes w book at (record { state = catalogue_state c; kept = kept })
      (writes (kept_change x ∷ []) (split_told c m (max c.time m.time + 1) id true ∷ []))
      (catalogue_state (with_change c (max c.time m.time + 1) x))
  divides id namespace middle x says new =
      let asks = split_asked id namespace middle says in
      let parts = splits namespace middle (max c.time m.time + 1) c.changes x new in
      makes w book at kept c (max c.time m.time + 1) x _ good fits (omega arith)
      (record {
        follows = split_follows namespace middle (max c.time m.time + 1) c.changes x earlier asks.key new;
        wanted = subst (λ y. WasWanted w.asked y) (sym parts.is)
            (split_for w.asked id namespace middle m.time (max c.time m.time + 1) (omega arith) asks);
        at = ap (λ y. time_of y) parts.is;
      })
      (λ v later s bound met. (
        (
          record {
            request = asks.request;
            taken = asks.taken;
            own = asks.own;
            split = record { namespace = namespace; middle = middle };
            asks = asks.asks;
            begins = record {
              later = [];
              older = x ∷ c.changes;
              table = split_table middle parts.table;
              all = s.same;
              past = s.past;
              known = ap (λ y. known_table namespace (y ∷ c.changes)) parts.is
                  ∙ split_known namespace middle (max c.time m.time + 1) c.changes parts.table parts.known;
              bound = split_bound middle parts.table parts.can;
            };
          },
          met,
          tt,
        ),
        tt,
      ))

  bounds : (id : RequestId) (namespace : List ℕ) (middle : Datum) → m.body ≡ split_ask id namespace middle
      → split_answer namespace middle (max c.time m.time + 1) c.changes ≡ unchanged
      → Owes w book at (record { state = catalogue_state c; kept = kept }) (sends (split_told c m (max c.time m.time) id true ∷ []))
      (catalogue_state (at_later c (max c.time m.time)))
  bounds id namespace middle says there =
      let asks = split_asked id namespace middle says in
      let b = has_bound namespace middle (max c.time m.time + 1) c.changes there in
      answers w book at kept c m _ good fits comes
      (λ v later s met. (
        record {
          request = asks.request;
          taken = asks.taken;
          own = asks.own;
          split = record { namespace = namespace; middle = middle };
          asks = asks.asks;
          begins = record {
            later = [];
            older = c.changes;
            table = b.table;
            all = s.same;
            past = s.past;
            known = b.known;
            bound = begins_already middle b.table.chunks (cover namespace c.changes b.table s.fitting b.known) asks.key b.cannot;
          };
        },
        met,
        tt,
      ))

  misses : (id : RequestId) (namespace : List ℕ) (middle : Datum) → m.body ≡ split_ask id namespace middle
      → split_answer namespace middle (max c.time m.time + 1) c.changes ≡ no_collection
      → Owes w book at (record { state = catalogue_state c; kept = kept }) (sends (split_told c m (max c.time m.time) id false ∷ []))
      (catalogue_state (at_later c (max c.time m.time)))
  misses id namespace middle says none =
      let asks = split_asked id namespace middle says in
      answers w book at kept c m _ good fits comes
      (λ v later s met. (
        tt,
        met,
        record {
          request = asks.request;
          taken = asks.taken;
          own = asks.own;
          split = record { namespace = namespace; middle = middle };
          asks = asks.asks;
          none = ap (λ l. known_table namespace l) s.same ∙ no_table namespace middle (max c.time m.time + 1) c.changes none;
        },
      ))

pub catalogue_owes : (w : World) (book : Book) (at : ℕ) (kept : List Kept) (c d : Catalogue) (i : Input) (f : Effect) → Good w book
    → NodeFits (view_of w.nodes book) w.asked w.answered w.given at (record { state = catalogue_state c; kept = kept }) → InputFits w book at i
    → CatalogueRow c i f d
    → Owes w book at (record { state = catalogue_state c; kept = kept }) f (catalogue_state d)
catalogue_owes w book at kept _ _ _ _ good fits comes (catalogue_skip c m skips) = quiet w book at kept c c [] good fits (omega arith) fits.state
    fits.met (λ v later own. tt)
catalogue_owes w book at kept _ _ _ _ good fits comes (catalogue_opened c) = quiet w book at kept c c [] good fits (omega arith) fits.state fits.met
    (λ v later own. tt)
catalogue_owes w book at kept _ _ _ _ good fits comes (catalogue_client c link number request) = quiet w book at kept c c [] good fits (omega arith)
    fits.state fits.met (λ v later own. tt)
catalogue_owes w book at kept _ _ _ _ good fits comes (catalogue_moment c moment) =
    quiet w book at kept c (at_later c (max c.time (time_of_moment moment))) [] good fits (omega arith)
    (later_catalogue w.asked at (max c.time (time_of_moment moment)) kept c (omega arith) fits.state)
    (met_max (view_of w.nodes book) w.given c.time (time_of_moment moment) fits.met comes.0) (λ v later own. tt)
catalogue_owes w book at kept _ _ _ _ good fits comes (catalogue_tell c m namespace create asked_at says may) =
    let asks : BodyFits (view_of w.nodes book) w.asked m.sender m.receiver m.time (table_ask namespace create asked_at) = subst
    (λ b. BodyFits (view_of w.nodes book) w.asked m.sender m.receiver m.time b) says comes.0 in
    let early = at_fits (view_of w.nodes book) w.asked m.sender m.receiver m.time namespace create asked_at asks in
    tells_table w book at kept c m namespace create asked_at good fits comes early
catalogue_owes w book at kept _ _ _ _ good fits comes (catalogue_create c m namespace asked_at x says new) =
    creates w book at kept c good fits m comes namespace asked_at x says new
catalogue_owes w book at kept _ _ _ _ good fits comes (catalogue_split c m id namespace middle x says new) =
    divides w book at kept c good fits m comes id namespace middle x says new
catalogue_owes w book at kept _ _ _ _ good fits comes (catalogue_bound c m id namespace middle says there) =
    bounds w book at kept c good fits m comes id namespace middle says there
catalogue_owes w book at kept _ _ _ _ good fits comes (catalogue_none c m id namespace middle says none) =
    misses w book at kept c good fits m comes id namespace middle says none
