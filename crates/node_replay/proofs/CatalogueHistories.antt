-- A journal of the catalogue that replays stores changes of which each may follow those before it.
use Rattle.std.proofs.Common.{◌≡◌, ℕ, ◌+◌, ◌<◌, ◌≤◌, List, [], ◌∷◌, refl, ap, subst, arith}
use Rattle.std.specs.Prelude.{max, Bool, true, false, ◌==◌, Option, Some, None, is_none, nat_lt, if◌then◌else◌}
use Rattle.std.specs.List.{AllByRecursion}
use Rattle.std.specs.Option.{option_map}
use Rattle.std.proofs.lemmas.Bool.{ltb-true, eqb-true}
use Rattle.bson_model.specs.Tree.{Datum}
use Rattle.bson_model.proofs.Booleans.{both}
use Rattle.chunk_model.specs.Catalogue.{Creation, Split}
use Rattle.chunk_model.specs.Changes.{Change, create_change, split_change, time_of, known_table, creations, can_split}
use Rattle.chunk_model.specs.Placement.{AreFitting, ChangeFits}
use Rattle.chunk_model.specs.Tables.{Table}
use Rattle.history_model.proofs.Lists.{all_weaken}
use Rattle.record_model.specs.Records.{Record, create_record, split_record, catalogue_ceiling_record}
use Rattle.node_replay.specs.Durable.{DurableCatalogue, durable_catalogue, empty_catalogue}
use Rattle.node_replay.specs.Follow.{may_create, may_split, is_inside, with_change}
use Rattle.node_replay.specs.Histories.{changes_over, HasKey, AreChanges}
use Rattle.node_replay.specs.Replays.{replayed}
use Rattle.node_replay.proofs.ShardHistories.{none_is}

-- what is known before the records that are left
record Grows (older : List Change) (d : DurableCatalogue) : Type 0 where
  pub kept : d.changes ≡ older
  pub fitting : AreFitting d.changes
  pub past : AllByRecursion (λ x. time_of x ≤ d.top) d.changes

-- one change more, which is later and fits
change_grows : (older : List Change) (d : DurableCatalogue) (x : Change) → Grows older d → d.top < time_of x → ChangeFits x d.changes
    → Grows (x ∷ older) (with_change d (time_of x) x)
change_grows older d x g later fits = record {
  kept = ap (λ l. x ∷ l) g.kept;
  fitting = (
    record { later = all_weaken (λ y. time_of y ≤ d.top) (λ y. time_of y < time_of x) d.changes (λ y le. omega (arith, le, later)) g.past; fits = fits },
    g.fitting,
  );
  past = (omega arith, all_weaken (λ y. time_of y ≤ d.top) (λ y. time_of y ≤ time_of x) d.changes (λ y le. omega (arith, le, later)) g.past);
}

created : (older : List Change) (d : DurableCatalogue) (c : Creation) → Grows older d → may_create d c ≡ true
    → Grows (create_change c ∷ older) (with_change d c.at (create_change c))
created older d c g may =
    let p = both (nat_lt d.top c.at) _ may in
    let q = both (is_none (known_table c.namespace d.changes)) (c.epoch == creations c.namespace d.changes + 1) p.1 in
    change_grows older d (create_change c) g (ltb-true d.top c.at p.0)
    (record { absent = none_is (known_table c.namespace d.changes) q.0; next = eqb-true c.epoch (creations c.namespace d.changes + 1) q.1 })

record HasTable (middle : Datum) (o : Option Table) : Type 0 where
  pub table : Table
  pub known : o ≡ Some table
  pub inside : can_split middle table.chunks ≡ true

inside_some : (middle : Datum) (o : Option Table) → is_inside middle o ≡ true → HasTable middle o
inside_some middle None e = absurd (cc)
inside_some middle (Some t) e = record { table = t; known = refl; inside = e }

was_split : (older : List Change) (d : DurableCatalogue) (s : Split) → Grows older d → HasKey (split_record s) → may_split d s ≡ true
    → Grows (split_change s ∷ older) (with_change d s.at (split_change s))
was_split older d s g key may =
    let p = both (nat_lt d.top s.at) _ may in
    let t = inside_some s.middle (known_table s.namespace d.changes) p.1 in
    change_grows older d (split_change s) g (ltb-true d.top s.at p.0)
    (record { table = t.table; known = t.known; key = key; inside = t.inside })

grows_goes : (older : List Change) (records : List Record) (d x : DurableCatalogue) → Grows older d → AllByRecursion HasKey records
    → replayed (Some (durable_catalogue d)) records ≡ Some (durable_catalogue x) → Grows (changes_over older records) x
grows_goes older [] d x g keyed same = let is : d ≡ x = cc in subst (λ y. Grows older y) is g
grows_goes older (create_record c ∷ records) d x g keyed same =
    by_next (may_create d c) refl (λ h more. grows_goes (create_change c ∷ older) records (with_change d c.at (create_change c)) x h keyed.1 more) same
  where
    by_next : (t : Bool) → may_create d c ≡ t
        → (Grows (create_change c ∷ older) (with_change d c.at (create_change c))
        → replayed (Some (durable_catalogue (with_change d c.at (create_change c)))) records ≡ Some (durable_catalogue x)
        → Grows (changes_over (create_change c ∷ older) records) x)
        → replayed (option_map durable_catalogue (if t then Some (with_change d c.at (create_change c)) else None)) records ≡ Some (durable_catalogue x)
        → Grows (changes_over (create_change c ∷ older) records) x
    by_next true may later more = later (created older d c g may) more
    by_next false may later more = absurd (cc)
grows_goes older (split_record s ∷ records) d x g keyed same =
    by_next (may_split d s) refl (λ h more. grows_goes (split_change s ∷ older) records (with_change d s.at (split_change s)) x h keyed.1 more) same
  where
    by_next : (t : Bool) → may_split d s ≡ t
        → (Grows (split_change s ∷ older) (with_change d s.at (split_change s))
        → replayed (Some (durable_catalogue (with_change d s.at (split_change s)))) records ≡ Some (durable_catalogue x)
        → Grows (changes_over (split_change s ∷ older) records) x)
        → replayed (option_map durable_catalogue (if t then Some (with_change d s.at (split_change s)) else None)) records ≡ Some (durable_catalogue x)
        → Grows (changes_over (split_change s ∷ older) records) x
    by_next true may later more = later (was_split older d s g keyed.0 may) more
    by_next false may later more = absurd (cc)
grows_goes older (catalogue_ceiling_record time ∷ records) d x g keyed same =
    grows_goes older records (record { me = d.me; top = max d.top time; changes = d.changes }) x (record {
      kept = g.kept;
      fitting = g.fitting;
      past = all_weaken (λ y. time_of y ≤ d.top) (λ y. time_of y ≤ max d.top time) d.changes (λ y le. omega (arith, le)) g.past;
    }) keyed.1 same
grows_goes older (r ∷ records) d x g keyed same = absurd (cc)

pub catalogue_changes : (me : ℕ) (records : List Record) (d : DurableCatalogue) → AllByRecursion HasKey records
    → replayed (Some (durable_catalogue (empty_catalogue me))) records ≡ Some (durable_catalogue d) → AreChanges records d
catalogue_changes me records d keyed same =
    let g = grows_goes [] records (empty_catalogue me) d (record { kept = refl; fitting = tt; past = tt }) keyed same in
    record { kept = g.kept; fitting = g.fitting; past = g.past }
