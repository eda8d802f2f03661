-- Which parts have come, and what is awaited.
use Rattle.std.proofs.Common.{◌≡◌, ◌≢◌, refl, ap, sym, ◌∙◌, ℕ, ◌+◌, ◌<◌, List, [], ◌∷◌, ◌++◌, drop, map, length, get_or, Bool, true, false, ◌==◌, if◌then◌else◌, add-one, drop-cons}
use Rattle.std.proofs.lemmas.Bool.{eqb-true}
use Rattle.std.specs.Prelude.{Option, Some, None, Result, is_some, not, ◌||◌}
use Rattle.pipeline_model.specs.Halves.{Rows}
use Rattle.node_model.specs.Letters.{HalfFault}
use Rattle.node_model.specs.RouterNext.{also_part, awaited, part_of}
use Rattle.node_model.specs.States.{Part, Target}

-- the first of two values, if it is there, or else the second
abbrev or_else : Option (Result Rows HalfFault) → Option (Result Rows HalfFault) → Option (Result Rows HalfFault)
or_else (Some r) other = Some r
or_else None other = other

part_after : (shard : ℕ) (parts : List Part) (p : Part) → part_of shard (parts ++ p ∷ []) ≡ or_else (part_of shard parts) (if p.shard == shard then Some p.rows else None)
part_after shard [] p = refl
part_after shard (q ∷ parts) p = by (q.shard == shard) (part_after shard parts p) where
  by : (same : Bool) → part_of shard (parts ++ p ∷ []) ≡ or_else (part_of shard parts) (if p.shard == shard then Some p.rows else None)
      → (if same then Some q.rows else part_of shard (parts ++ p ∷ [])) ≡ or_else (if same then Some q.rows else part_of shard parts) (if p.shard == shard then Some p.rows else None)
  by true next = refl
  by false next = next

-- what another shard than the sender returned, and what the sender did, is as it was
module _ (shard sender : ℕ) (parts : List Part) (told : Result Rows HalfFault) where
  kept : (own : Option (Result Rows HalfFault)) (same : Bool) → part_of shard parts ≡ own → (sender == shard) ≡ same → is_some (part_of sender parts) ≡ true
      → part_of shard parts ≡ or_else own (if same then Some told else None)
  kept (Some r) same is hit had = is
  kept None true is hit had = absurd (cc (sym had ∙ ap (λ (s : ℕ). is_some (part_of s parts)) (eqb-true sender shard hit) ∙ ap (λ (o : Option (Result Rows HalfFault)). is_some o) is))
  kept None false is hit had = is

  among : part_of shard (also_part parts sender told) ≡ or_else (part_of shard parts) (if sender == shard then Some told else None)
  among = by (is_some (part_of sender parts)) refl where
    by : (had : Bool) → is_some (part_of sender parts) ≡ had
        → part_of shard (if had then parts else parts ++ record { shard = sender; rows = told } ∷ []) ≡ or_else (part_of shard parts) (if sender == shard then Some told else None)
    by true had = kept (part_of shard parts) (sender == shard) refl refl had
    by false had = part_after shard parts (record { shard = sender; rows = told })

  -- a part that was there counts
  pub first_counts : (rows : Result Rows HalfFault) → Some rows ≡ part_of shard parts → Some rows ≡ part_of shard (also_part parts sender told)
  first_counts rows is = sym (among ∙ ap (λ (o : Option (Result Rows HalfFault)). or_else o (if sender == shard then Some told else None)) (sym is))

  -- else that of the sender, which comes now
  pub comes_now : None ≡ part_of shard parts → (sender == shard) ≡ true → Some told ≡ part_of shard (also_part parts sender told)
  comes_now is hit =
      sym (among ∙ ap (λ (o : Option (Result Rows HalfFault)). or_else o (if sender == shard then Some told else None)) (sym is)
      ∙ ap (λ (b : Bool). if b then Some told else None) hit)

  pub comes_not : None ≡ part_of shard parts → (sender == shard) ≡ false → None ≡ part_of shard (also_part parts sender told)
  comes_not is other =
      sym (among ∙ ap (λ (o : Option (Result Rows HalfFault)). or_else o (if sender == shard then Some told else None)) (sym is)
      ∙ ap (λ (b : Bool). if b then Some told else None) other)

  some_else : (own : Option (Result Rows HalfFault)) (same : Bool) → ((same || is_some own)) ≡ is_some (or_else own (if same then Some told else None))
  some_else (Some r) true = refl
  some_else (Some r) false = refl
  some_else None true = refl
  some_else None false = refl

  -- which have come
  pub has_come : ((sender == shard) || is_some (part_of shard parts)) ≡ is_some (part_of shard (also_part parts sender told))
  has_come = some_else (part_of shard parts) (sender == shard) ∙ ap (λ (o : Option (Result Rows HalfFault)). is_some o) (sym among)

-- the next of the targets
module _ {X : Type 0} (meant : X → Target) (parts : List Part) (xs : List X) (i : ℕ) (d : X) (inside : i < length xs) where
  awaits : (come : Bool) → is_some (part_of (meant (get_or xs i d)).shard parts) ≡ come
      → awaited (map meant (drop i xs)) parts ≡ (if not come then meant (get_or xs i d) ∷ awaited (map meant (drop (i + 1) xs)) parts else awaited (map meant (drop (i + 1) xs)) parts)
  awaits come is =
      let cut : drop i xs ≡ get_or xs i d ∷ drop (i + 1) xs = rw add-one (drop-cons xs i d inside) in
      ap (λ (l : List X). awaited (map meant l) parts) cut
      ∙ ap (λ (b : Bool). if not b then meant (get_or xs i d) ∷ awaited (map meant (drop (i + 1) xs)) parts else awaited (map meant (drop (i + 1) xs)) parts) is

  -- one that has come is not awaited
  pub passed : is_some (part_of (meant (get_or xs i d)).shard parts) ≡ true → awaited (map meant (drop (i + 1) xs)) parts ≡ awaited (map meant (drop i xs)) parts
  passed come = sym (awaits true come)

  -- one that has not is
  pub is_awaited : is_some (part_of (meant (get_or xs i d)).shard parts) ≡ false
      → awaited (map meant (drop i xs)) parts ≡ meant (get_or xs i d) ∷ awaited (map meant (drop (i + 1) xs)) parts
  is_awaited missing = awaits false missing

  pub not_all : (whole : List Target) → is_some (part_of (meant (get_or xs i d)).shard parts) ≡ false → awaited (map meant (drop i xs)) parts ≡ whole → whole ≢ []
  not_all whole missing is none = cc (sym (awaits false missing) ∙ is ∙ none)

-- before any part has come all are awaited
pub all_awaited : (targets : List Target) → awaited targets [] ≡ targets
all_awaited [] = refl
all_awaited (t ∷ targets) = ap (λ (l : List Target). t ∷ l) (all_awaited targets)
