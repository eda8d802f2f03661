-- The record of each transition of the catalogue may follow, and leads to its durable part after it.
use Rattle.std.proofs.Common.{◌≡◌, ℕ, ◌+◌, ◌<◌, ◌≤◌, List, [], ◌∷◌, refl, ap, subst, ◌∙◌, arith}
use Rattle.std.specs.Prelude.{max, Bool, true, false, ◌&&◌, ◌==◌, Option, Some, None, is_none, nat_lt, if◌then◌else◌}
use Rattle.std.specs.Option.{option_map}
use Rattle.std.proofs.lemmas.Bool.{and_from, lt-ltb, eq-eqb}
use Rattle.base_model.specs.Times.{time_of_moment}
use Rattle.bson_model.specs.Tree.{Datum}
use Rattle.chunk_model.specs.Catalogue.{Creation, Split}
use Rattle.chunk_model.specs.Changes.{Change, create_change, split_change, known_table, creations, can_split}
use Rattle.chunk_model.specs.Requests.{CatalogueAnswer, changed, unchanged, no_collection, create_answer, split_answer}
use Rattle.chunk_model.specs.Tables.{Table}
use Rattle.node_model.specs.CatalogueRows.{heard, none_at, CatalogueRow, catalogue_create, catalogue_tell, catalogue_split, catalogue_bound, catalogue_none, catalogue_skip, catalogue_moment, catalogue_opened, catalogue_client}
use Rattle.node_model.specs.Journal.{kept_change, greatest_kept}
use Rattle.node_model.specs.Letters.{At, no_time, at_time, Input, Effect}
use Rattle.node_model.specs.States.{Catalogue}
use Rattle.node_replay.specs.Durable.{DurableCatalogue, durable_catalogue, catalogue_part}
use Rattle.node_replay.specs.Follow.{is_inside, with_change}
use Rattle.node_replay.specs.Replays.{replayed, records_of}
use Rattle.node_replay.specs.ReadTimes.{IsNamedBy, ReadsBy, IsInTime, ComesInTime}

-- the greatest time that is stored, after a step
abbrev pub stored_with : (stored : ℕ) → Effect → ℕ
stored_with stored f = max stored (greatest_kept f.written)

-- what a step of the catalogue has to show; that it holds what nodes hold, where its input comes in time
pub record CatalogueFollows (stored : ℕ) (c : Catalogue) (i : Input) (f : Effect) (d : Catalogue) : Type 0 where
  pub own : d.me ≡ c.me
  pub leads : replayed (Some (durable_catalogue (catalogue_part stored c))) (records_of f.written)
      ≡ Some (durable_catalogue (catalogue_part (stored_with stored f) d))
  pub holds : ComesInTime i → stored_with stored f ≤ d.time

abbrev pub durable_from : (me stored : ℕ) → List Change → DurableCatalogue
durable_from me stored changes = record { me = me; top = stored; changes = changes }

-- a change that is later than others leads to just these with it
record Leads (me stored at : ℕ) (changes : List Change) (x : Change) : Type 0 where
  pub follows : replayed (Some (durable_catalogue (durable_from me stored changes))) (records_of (kept_change x ∷ []))
      ≡ Some (durable_catalogue (durable_from me (max stored (greatest_kept (kept_change x ∷ []))) (x ∷ changes)))
  pub past : max stored (greatest_kept (kept_change x ∷ [])) ≤ at

create_leads : (me stored at : ℕ) (changes : List Change) (namespace : List ℕ) → stored < at → known_table namespace changes ≡ None
    → Leads me stored at changes (create_change (record { namespace = namespace; epoch = creations namespace changes + 1; at = at }))
create_leads me stored at changes namespace later none =
    let c : Creation = record { namespace = namespace; epoch = creations namespace changes + 1; at = at } in
    let d : DurableCatalogue = durable_from me stored changes in
    let may : (nat_lt stored at
    && (is_none (known_table namespace changes) && creations namespace changes + 1 == creations namespace changes + 1)) ≡ true =
    and_from _ _ (lt-ltb stored at later)
    (and_from _ _ (ap (λ (o : Option Table). is_none o) none) (eq-eqb (creations namespace changes + 1) (creations namespace changes + 1) refl)) in
    let next : at ≡ max stored (max at 0) = omega (arith, later) in
    record {
      follows = ap (λ t. replayed (option_map durable_catalogue (if t then Some (with_change d at (create_change c)) else None)) []) may
          ∙ ap (λ n. Some (durable_catalogue (record { me = me; top = n; changes = create_change c ∷ changes }))) next;
      past = omega (arith, later);
    }

created_leads : (me stored at : ℕ) (changes : List Change) (namespace : List ℕ) (x : Change) → stored < at
    → create_answer namespace at changes ≡ changed x → Leads me stored at changes x
created_leads me stored at changes namespace x later answer = by_table (known_table namespace changes) refl answer
  where
    by_table : (o : Option Table) → known_table namespace changes ≡ o
        → (elim o as (λ (o : Option Table). CatalogueAnswer) [
          | None ↦ changed (create_change (record { namespace = namespace; epoch = creations namespace changes + 1; at = at }))
          | Some t ↦ unchanged
        ]) ≡ changed x → Leads me stored at changes x
    by_table None none same =
        let is : create_change (record { namespace = namespace; epoch = creations namespace changes + 1; at = at }) ≡ x = cc in
        subst (λ y. Leads me stored at changes y) is (create_leads me stored at changes namespace later none)
    by_table (Some t) some same = absurd (cc)

split_leads : (me stored at : ℕ) (changes : List Change) (namespace : List ℕ) (middle : Datum) (t : Table) → stored < at
    → known_table namespace changes ≡ Some t → can_split middle t.chunks ≡ true
    → Leads me stored at changes (split_change (record { namespace = namespace; middle = middle; at = at }))
split_leads me stored at changes namespace middle t later some can =
    let s : Split = record { namespace = namespace; middle = middle; at = at } in
    let d : DurableCatalogue = durable_from me stored changes in
    let may : (nat_lt stored at && is_inside middle (known_table namespace changes)) ≡ true =
    and_from _ _ (lt-ltb stored at later) (ap (λ (o : Option Table). is_inside middle o) some ∙ can) in
    let next : at ≡ max stored (max at 0) = omega (arith, later) in
    record {
      follows = ap (λ b. replayed (option_map durable_catalogue (if b then Some (with_change d at (split_change s)) else None)) []) may
          ∙ ap (λ n. Some (durable_catalogue (record { me = me; top = n; changes = split_change s ∷ changes }))) next;
      past = omega (arith, later);
    }

was_split : (me stored at : ℕ) (changes : List Change) (namespace : List ℕ) (middle : Datum) (x : Change) → stored < at
    → split_answer namespace middle at changes ≡ changed x → Leads me stored at changes x
was_split me stored at changes namespace middle x later answer = by_table (known_table namespace changes) refl answer
  where
    by_test : (t : Table) (b : Bool) → known_table namespace changes ≡ Some t → can_split middle t.chunks ≡ b
        → (if b then changed (split_change (record { namespace = namespace; middle = middle; at = at })) else unchanged) ≡ changed x
        → Leads me stored at changes x
    by_test t true some can same =
        let is : split_change (record { namespace = namespace; middle = middle; at = at }) ≡ x = cc in
        subst (λ y. Leads me stored at changes y) is (split_leads me stored at changes namespace middle t later some can)
    by_test t false some can same = absurd (cc)

    by_table : (o : Option Table) → known_table namespace changes ≡ o
        → (elim o as (λ (o : Option Table). CatalogueAnswer) [
          | None ↦ no_collection
          | Some t ↦ if can_split middle t.chunks then changed (split_change (record { namespace = namespace; middle = middle; at = at })) else unchanged
        ]) ≡ changed x → Leads me stored at changes x
    by_table None none same = absurd (cc)
    by_table (Some t) some same = by_test t (can_split middle t.chunks) some refl same

-- what is stored with a table that is returned: that there is none at a time may always follow
told_leads : (me stored : ℕ) (changes : List Change) (at : At) (table : Option Table)
    → replayed (Some (durable_catalogue (durable_from me stored changes))) (records_of (none_at at table))
    ≡ Some (durable_catalogue (durable_from me (max stored (greatest_kept (none_at at table))) changes))
told_leads me stored changes no_time table =
    let same : stored ≡ max stored 0 = omega arith in
    ap (λ n. Some (durable_catalogue (durable_from me n changes))) same
told_leads me stored changes (at_time at) None =
    let next : max stored at ≡ max stored (max at 0) = omega arith in
    ap (λ n. Some (durable_catalogue (durable_from me n changes))) next
told_leads me stored changes (at_time at) (Some table) =
    let same : stored ≡ max stored 0 = omega arith in
    ap (λ n. Some (durable_catalogue (durable_from me n changes))) same

told_past : (stored late : ℕ) (at : At) (table : Option Table) → stored ≤ late → IsNamedBy late at → max stored (greatest_kept (none_at at table)) ≤ late
told_past stored late no_time table le by = omega (arith, le)
told_past stored late (at_time at) None le by = omega (arith, le, by)
told_past stored late (at_time at) (Some table) le by = omega (arith, le)

named_later : (early late : ℕ) (at : At) → early ≤ late → IsNamedBy early at → IsNamedBy late at
named_later early late no_time le by = tt
named_later early late (at_time at) le by = omega (arith, le, by)

-- TRANSITIONS

still : (stored : ℕ) (c : Catalogue) (i : Input) (f : Effect) (time : ℕ) → f.written ≡ [] → c.time ≤ time → stored ≤ c.time
    → CatalogueFollows stored c i f (record { me = c.me; time = time; changes = c.changes })
still stored c i f time none le past =
    let nothing_more : greatest_kept f.written ≡ 0 = ap (λ l. greatest_kept l) none in
    let same : stored ≡ max stored (greatest_kept f.written) = omega (arith, nothing_more) in
    record {
      own = refl;
      leads = ap (λ l. replayed (Some (durable_catalogue (durable_from c.me stored c.changes))) (records_of l)) none
          ∙ ap (λ n. Some (durable_catalogue (durable_from c.me n c.changes))) same;
      holds = λ input. omega (arith, le, past, nothing_more);
    }

pub catalogue_follows : (stored : ℕ) (c d : Catalogue) (i : Input) (f : Effect) → stored ≤ c.time → CatalogueRow c i f d → CatalogueFollows stored c i f d
catalogue_follows stored _ _ _ _ past (catalogue_create c m namespace at x asks answer) =
    let l = created_leads c.me stored (heard c m + 1) c.changes namespace x (omega (arith, past)) answer in
    record { own = refl; leads = l.follows; holds = λ input. l.past }
catalogue_follows stored _ _ _ _ past (catalogue_tell c m namespace create at asks known) =
    let by : IsInTime m → IsNamedBy (heard c m) at =
    λ input. named_later m.time (heard c m) at (omega arith) (subst (λ b. ReadsBy m.time b) asks input) in
    record {
      own = refl;
      leads = told_leads c.me stored c.changes at (known_table namespace c.changes);
      holds = λ input. told_past stored (heard c m) at (known_table namespace c.changes) (omega (arith, past)) (by input);
    }
catalogue_follows stored _ _ _ _ past (catalogue_split c m id namespace middle x asks answer) =
    let l = was_split c.me stored (heard c m + 1) c.changes namespace middle x (omega (arith, past)) answer in
    record { own = refl; leads = l.follows; holds = λ input. l.past }
catalogue_follows stored _ _ _ _ past (catalogue_bound c m id namespace middle asks answer) = still stored c _ _ (heard c m) refl (omega arith) past
catalogue_follows stored _ _ _ _ past (catalogue_none c m id namespace middle asks answer) = still stored c _ _ (heard c m) refl (omega arith) past
catalogue_follows stored _ _ _ _ past (catalogue_skip c m none) = still stored c _ _ c.time refl (omega arith) past
catalogue_follows stored _ _ _ _ past (catalogue_moment c moment) =
    still stored c _ _ (max c.time (time_of_moment moment)) refl (omega arith) past
catalogue_follows stored _ _ _ _ past (catalogue_opened c) = still stored c _ _ c.time refl (omega arith) past
catalogue_follows stored _ _ _ _ past (catalogue_client c link number request) = still stored c _ _ c.time refl (omega arith) past
