-- Places and shards of statements that are to be sent.
use Rattle.std.proofs.Common.{◌≡◌, refl, ap, sym, ◌∙◌, ℕ, ◌+◌, ◌<◌, List, [], ◌∷◌, ◌++◌, drop, map, length, get_or, Bool, true, false, ◌==◌, ◌||◌, if◌then◌else◌}
use Rattle.std.proofs.Math.Bool.{or-true, or-false}
use Rattle.std.proofs.lemmas.Bool.{eqb-true}
use Rattle.std.proofs.lemmas.Bool.Decides.{Decides-eqb}
use Rattle.std.proofs.lemmas.List.{append_assoc, get_or_default, map-append}
use Rattle.std.proofs.lemmas.List.Folds.{list_any-append}
use Rattle.std.specs.Prelude.{Option, Some, None, filter, not}
use Rattle.std.specs.List.{list_any}
use Rattle.chunk_model.specs.Tables.{Table}
use Rattle.chunk_model.specs.Verdicts.{sent_by}
use Rattle.chunk_table.specs.Shards.{shard_number}
use Rattle.cluster_base.specs.declared.identity.NodeId.{NodeId}
use Rattle.node_model.specs.Letters.{Statement}
use Rattle.node_model.specs.RouterRequests.{all_runs, indices_of, is_on, run_of, shard_for, shards_for}
use Rattle.node_model.specs.States.{Run}
use Rattle.reply_model.specs.Outcomes.{Try}
use Rattle.write_runs.proofs.Steps.{next_cut}
use Rattle.write_runs.specs.Places.{all_placed, indices_to, place_view, runs_to, shards_among}
use Rattle.write_runs.specs.declared.places.Place.{Place}

-- BY THE STATEMENTS

module _ (t : Table) (tries : List (List Try)) where
  -- the place of a statement, if it has a shard, and those of others
  abbrev with_place : ℕ → Option ℕ → List (ℕ × ℕ) → List (ℕ × ℕ)
  with_place index owner places = elim owner as (λ (o : Option ℕ). List (ℕ × ℕ)) [ None ↦ places | Some shard ↦ (index, shard) ∷ places ]

  pub placed_both : (s : Statement) (statements : List Statement) → all_placed t tries (s ∷ statements) ≡ all_placed t tries (s ∷ []) ++ all_placed t tries statements
  placed_both s statements = by_owner (shard_for t tries s)
    where
      by_owner : (owner : Option ℕ) → with_place s.number.index owner (all_placed t tries statements) ≡ with_place s.number.index owner [] ++ all_placed t tries statements
      by_owner None = refl
      by_owner (Some shard) = refl

  pub placed_there : (s : Statement) (shard : ℕ) → shard_for t tries s ≡ Some shard → all_placed t tries (s ∷ []) ≡ (s.number.index, shard) ∷ []
  placed_there s shard owned = ap (λ (o : Option ℕ). with_place s.number.index o []) owned

  pub placed_nowhere : (s : Statement) → shard_for t tries s ≡ None → all_placed t tries (s ∷ []) ≡ []
  placed_nowhere s none = ap (λ (o : Option ℕ). with_place s.number.index o []) none

  shards_placed : (statements : List Statement) → shards_among (all_placed t tries statements) ≡ shards_for t tries statements
  shards_placed [] = refl
  shards_placed (s ∷ statements) = by_owner (shard_for t tries s) (shards_placed statements)
    where
      by_owner : (owner : Option ℕ) → shards_among (all_placed t tries statements) ≡ shards_for t tries statements
          → shards_among (with_place s.number.index owner (all_placed t tries statements)) ≡ (elim owner as (λ (o : Option ℕ). List ℕ) [
            | None ↦ shards_for t tries statements
            | Some shard ↦ shard ∷ filter (λ other. not (other == shard)) (shards_for t tries statements)
          ])
      by_owner None same = same
      by_owner (Some shard) same = ap (λ l. shard ∷ filter (λ other. not (other == shard)) l) same

  abbrev going : ℕ → List Statement → List Statement
  going shard statements = filter (λ (s : Statement). is_on shard (shard_for t tries s)) statements

  indices_placed : (shard : ℕ) (statements : List Statement) → indices_to shard (all_placed t tries statements) ≡ indices_of (going shard statements)
  indices_placed shard [] = refl
  indices_placed shard (s ∷ statements) = by_owner (shard_for t tries s) (indices_placed shard statements)
    where
      by_test : (b : Bool) → indices_to shard (all_placed t tries statements) ≡ indices_of (going shard statements) → (n : ℕ)
          → map (λ (p : ℕ × ℕ). p.0) (if b then (s.number.index, n) ∷ filter (λ (p : ℕ × ℕ). p.1 == shard) (all_placed t tries statements)
          else filter (λ (p : ℕ × ℕ). p.1 == shard) (all_placed t tries statements))
          ≡ indices_of (if b then s ∷ going shard statements else going shard statements)
      by_test true same n = ap (λ l. s.number.index ∷ l) same
      by_test false same n = same

      by_owner : (owner : Option ℕ) → indices_to shard (all_placed t tries statements) ≡ indices_of (going shard statements)
          → indices_to shard (with_place s.number.index owner (all_placed t tries statements))
          ≡ indices_of (if is_on shard owner then s ∷ going shard statements else going shard statements)
      by_owner None same = same
      by_owner (Some n) same = by_test (n == shard) same n

  abbrev run_with : ℕ → List ℕ → Run
  run_with shard indices = record { shard = shard; sent = sent_by t shard; indices = indices }

  each_run : (places : List (ℕ × ℕ)) (statements : List Statement) → places ≡ all_placed t tries statements → (shards : List ℕ)
      → runs_to t shards places ≡ map (λ shard. run_of t shard (filter (λ (s : Statement). is_on shard (shard_for t tries s)) statements)) shards
  each_run places statements are [] = refl
  each_run places statements are (shard ∷ shards) =
      ap (λ (l : List ℕ). run_with shard l ∷ runs_to t shards places)
      (ap (λ ps. indices_to shard ps) are ∙ indices_placed shard statements)
      ∙ ap (λ (l : List Run). run_of t shard (going shard statements) ∷ l) (each_run places statements are shards)

  -- the runs to the shards of all places are all runs
  pub runs_placed : (places : List (ℕ × ℕ)) (statements : List Statement) → places ≡ all_placed t tries statements
      → runs_to t (shards_among places) places ≡ all_runs t tries statements
  runs_placed places statements are =
      ap (λ shards. runs_to t shards places) (ap (λ ps. shards_among ps) are ∙ shards_placed statements) ∙ each_run places statements are (shards_for t tries statements)

-- SHARDS, EACH ONCE

abbrev pub has_shard : List ℕ → ℕ → Bool
has_shard shards shard = list_any (λ other. other == shard) shards

-- those that are none of these
abbrev pub others : List ℕ → List ℕ → List ℕ
others found shards = filter (λ shard. not (has_shard found shard)) shards

-- of a shard that was found the later places find nothing
found_skips : (found : List ℕ) (shard : ℕ) → has_shard found shard ≡ true → (shards : List ℕ)
    → others found (filter (λ other. not (other == shard)) shards) ≡ others found shards
found_skips found shard has [] = refl
found_skips found shard has (r ∷ shards) = by_test (r == shard) refl (found_skips found shard has shards)
  where
    by_test : (b : Bool) → (r == shard) ≡ b → others found (filter (λ other. not (other == shard)) shards) ≡ others found shards
        → others found (if not b then r ∷ filter (λ other. not (other == shard)) shards else filter (λ other. not (other == shard)) shards)
        ≡ (if not (has_shard found r) then r ∷ others found shards else others found shards)
    by_test true same later =
        later ∙ sym (ap (λ (b : Bool). if not b then r ∷ others found shards else others found shards) (ap (λ n. has_shard found n) (eqb-true r shard same) ∙ has))
    by_test false other later = ap (λ l. if not (has_shard found r) then r ∷ l else l) later

pub equal_back : (a b : ℕ) → (a == b) ≡ true → (b == a) ≡ true
equal_back a b same = (Decides-eqb b a).1 (sym (eqb-true a b same))

pub differ_back : (a b : ℕ) → (a == b) ≡ false → (b == a) ≡ false
differ_back a b other = by_test (b == a) refl
  where
    by_test : (t : Bool) → (b == a) ≡ t → (b == a) ≡ false
    by_test true same = absurd (cc (sym (equal_back b a same) ∙ other))
    by_test false is = is

has_more : (found : List ℕ) (shard r : ℕ) → has_shard (found ++ shard ∷ []) r ≡ (has_shard found r || (shard == r))
has_more found shard r = list_any-append (λ other. other == r) found (shard ∷ []) ∙ ap (λ b. has_shard found r || b) (or-false (shard == r))

-- one more is found
new_skips : (found : List ℕ) (shard : ℕ) (shards : List ℕ)
    → others found (filter (λ other. not (other == shard)) shards) ≡ others (found ++ shard ∷ []) shards
new_skips found shard [] = refl
new_skips found shard (r ∷ shards) = by_test (r == shard) refl (new_skips found shard shards)
  where
    by_test : (b : Bool) → (r == shard) ≡ b → others found (filter (λ other. not (other == shard)) shards) ≡ others (found ++ shard ∷ []) shards
        → others found (if not b then r ∷ filter (λ other. not (other == shard)) shards else filter (λ other. not (other == shard)) shards)
        ≡ (if not (has_shard (found ++ shard ∷ []) r) then r ∷ others (found ++ shard ∷ []) shards else others (found ++ shard ∷ []) shards)
    by_test true same later =
        later ∙ sym (ap (λ (b : Bool). if not b then r ∷ others (found ++ shard ∷ []) shards else others (found ++ shard ∷ []) shards)
        (has_more found shard r ∙ ap (λ b. has_shard found r || b) (equal_back r shard same) ∙ or-true (has_shard found r)))
    by_test false other later =
        ap (λ l. if not (has_shard found r) then r ∷ l else l) later
        ∙ ap (λ (b : Bool). if not b then r ∷ others (found ++ shard ∷ []) shards else others (found ++ shard ∷ []) shards)
        (sym (has_more found shard r ∙ ap (λ b. has_shard found r || b) (differ_back r shard other) ∙ or-false (has_shard found r)))

-- the place of a shard that was found
pub known_shard : (found : List ℕ) (shard : ℕ) (shards whole : List ℕ) → has_shard found shard ≡ true
    → found ++ others found (shard ∷ filter (λ other. not (other == shard)) shards) ≡ whole → found ++ others found shards ≡ whole
known_shard found shard shards whole has inv =
    ap (λ l. found ++ l) (sym (ap (λ (b : Bool). if not b then shard ∷ others found (filter (λ other. not (other == shard)) shards)
    else others found (filter (λ other. not (other == shard)) shards)) has ∙ found_skips found shard has shards)) ∙ inv

-- the first place of a shard
pub new_shard : (found : List ℕ) (shard : ℕ) (shards whole : List ℕ) → has_shard found shard ≡ false
    → found ++ others found (shard ∷ filter (λ other. not (other == shard)) shards) ≡ whole → (found ++ shard ∷ []) ++ others (found ++ shard ∷ []) shards ≡ whole
new_shard found shard shards whole none inv =
    append_assoc found (shard ∷ []) (others (found ++ shard ∷ []) shards)
    ∙ ap (λ l. found ++ l) (ap (λ l. shard ∷ l) (sym (new_skips found shard shards))
    ∙ sym (ap (λ (b : Bool). if not b then shard ∷ others found (filter (λ other. not (other == shard)) shards)
    else others found (filter (λ other. not (other == shard)) shards)) none)) ∙ inv

-- where none was found all are others
pub none_found : (shards : List ℕ) → others [] shards ≡ shards
none_found [] = refl
none_found (shard ∷ shards) = ap (λ l. shard ∷ l) (none_found shards)

-- THE NEXT PLACE

-- what stands where no place is
abbrev pub no_place : Place
no_place = record { index = 0; shard = record { 0 = 0 } }

module _ (places : List Place) (k : ℕ) (less : k < length places) where
  abbrev pub p : Place
  p = get_or places k no_place

  at_next : (found : List ℕ) (whole : List ℕ) → found ++ others found (shards_among (map place_view (drop k places))) ≡ whole
      → found ++ others found (p.shard.0 ∷ filter (λ other. not (other == p.shard.0)) (shards_among (map place_view (drop (k + 1) places)))) ≡ whole
  at_next found whole inv = ap (λ (l : List Place). found ++ others found (shards_among (map place_view l))) (sym (next_cut places k p less (get_or_default places k no_place p less))) ∙ inv

  -- its shard was found
  pub stays_found : (list all : List NodeId) (whole : List ℕ) → all ≡ list → has_shard (map shard_number all) p.shard.0 ≡ true
      → map shard_number list ++ others (map shard_number list) (shards_among (map place_view (drop k places))) ≡ whole
      → map shard_number list ++ others (map shard_number list) (shards_among (map place_view (drop (k + 1) places))) ≡ whole
  stays_found list all whole same has inv =
      known_shard (map shard_number list) p.shard.0 (shards_among (map place_view (drop (k + 1) places))) whole
      (ap (λ (l : List NodeId). has_shard (map shard_number l) p.shard.0) (sym same) ∙ has) (at_next (map shard_number list) whole inv)

  -- it is a new one
  pub is_found : (list all new : List NodeId) (whole : List ℕ) → all ≡ list → new ≡ list ++ p.shard ∷ [] → has_shard (map shard_number all) p.shard.0 ≡ false
      → map shard_number list ++ others (map shard_number list) (shards_among (map place_view (drop k places))) ≡ whole
      → map shard_number new ++ others (map shard_number new) (shards_among (map place_view (drop (k + 1) places))) ≡ whole
  is_found list all new whole same pushed none inv =
      ap (λ (l : List ℕ). l ++ others l (shards_among (map place_view (drop (k + 1) places))))
      (ap (λ (l : List NodeId). map shard_number l) pushed ∙ map-append shard_number list (p.shard ∷ []))
      ∙ new_shard (map shard_number list) p.shard.0 (shards_among (map place_view (drop (k + 1) places))) whole
      (ap (λ (l : List NodeId). has_shard (map shard_number l) p.shard.0) (sym same) ∙ none) (at_next (map shard_number list) whole inv)
