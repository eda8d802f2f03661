-- Tries that met a later table.
use Rattle.std.proofs.Common.{◌≡◌, refl, ap, sym, ◌∙◌, ℕ, zero, suc, ◌+◌, ◌-◌, ◌<◌, ◌≤◌, List, [], ◌∷◌, ◌++◌, append-nil, drop, length, map, get_or, arith}
use Rattle.std.proofs.lemmas.List.{at_drop_all, get_or_default, map-append, map-set}
use Rattle.std.specs.declared.vec.Vec.{Vec}
use Rattle.std.specs.Prelude.{Option, Some, None}
use Rattle.std.specs.List.{slice_get, slice_set}
use Rattle.chunk_model.specs.Versions.{Version}
use Rattle.chunk_table.specs.Meanings.{version_view}
use Rattle.node_model.specs.RouterRequests.{last_met, tries_at, with_tries, with_try}
use Rattle.protocol_model.specs.Refusals.{try_view}
use Rattle.protocol_model.specs.declared.refused.Try.{Try}
use Rattle.reply_model.specs.Outcomes as outcomes
use Rattle.write_runs.proofs.Steps.{next_cut}
use Rattle.write_runs.specs.Runs.{all_tries_view, tries_view}

-- THE LAST

last_got : (tries : List Try) (n : ℕ) (x : Try) → n + 1 ≡ length tries → slice_get tries n ≡ Some x → Some (version_view x.met) ≡ last_met (tries_view tries)
last_got [] n x long got = absurd (omega (arith, long))
last_got (y ∷ []) zero x long got = let same : x ≡ y = cc in ap (λ (z : Try). Some (version_view z.met)) same
last_got (y ∷ []) (suc n) x long got = absurd (omega (arith, long))
last_got (y ∷ z ∷ tries) zero x long got = absurd (omega (arith, long))
last_got (y ∷ z ∷ tries) (suc n) x long got =
    ap (λ (o : Option Version). elim o as (λ (o : Option Version). Option Version) [ None ↦ Some (version_view y.met) | Some met ↦ Some met ])
    (last_got (z ∷ tries) n x (omega (arith, long)) got)

pub last_of : (tries : List Try) (x : Try) → Some x ≡ slice_get tries (length tries - 1) → Some (version_view x.met) ≡ last_met (tries_view tries)
last_of [] x got = absurd cc
last_of (y ∷ tries) x got = last_got (y ∷ tries) (length (y ∷ tries) - 1) x (omega arith) (sym got)

pub tries_long : (tries : List Try) → length tries ≡ length (tries_view tries)
tries_long [] = refl
tries_long (x ∷ tries) = ap suc (tries_long tries)

-- THOSE OF A STATEMENT

module _ {Z : Type 0} where
  pub tries_here : (tries : List (Vec Try Z)) (index : ℕ) (own : Vec Try Z) → index < length tries → own ≡ get_or tries index own
      → tries_view own.items ≡ tries_at index (all_tries_view tries)
  tries_here [] index own less here = absurd (omega (arith, less))
  tries_here (x ∷ tries) zero own less here = ap (λ (v : Vec Try Z). tries_view v.items) here
  tries_here (x ∷ tries) (suc index) own less here = tries_here tries index own (omega (arith, less)) here

  pub tries_past : (tries : List (Vec Try Z)) (index : ℕ) → length tries ≤ index → [] ≡ tries_at index (all_tries_view tries)
  tries_past [] index past = refl
  tries_past (x ∷ tries) zero past = absurd (omega (arith, past))
  tries_past (x ∷ tries) (suc index) past = tries_past tries index (omega (arith, past))

-- ONE MORE

with_one : (x : outcomes.Try) (index : ℕ) (own : List outcomes.Try) (tries : List (List outcomes.Try)) → index < length tries → own ≡ get_or tries index own
    → slice_set tries index (own ++ x ∷ []) ≡ with_try x index tries
with_one x index own [] less here = absurd (omega (arith, less))
with_one x zero own (y ∷ tries) less here = ap (λ (l : List outcomes.Try). (l ++ x ∷ []) ∷ tries) here
with_one x (suc index) own (y ∷ tries) less here = ap (λ (l : List (List outcomes.Try)). y ∷ l) (with_one x index own tries (omega (arith, less)) here)

with_none : (x : outcomes.Try) (index : ℕ) (tries : List (List outcomes.Try)) → length tries ≤ index → tries ≡ with_try x index tries
with_none x index [] past = refl
with_none x zero (y ∷ tries) past = absurd (omega (arith, past))
with_none x (suc index) (y ∷ tries) past = ap (λ (l : List (List outcomes.Try)). y ∷ l) (with_none x index tries (omega (arith, past)))

module _ {Z : Type 0} where
  all_long : (tries : List (Vec Try Z)) → length (all_tries_view tries) ≡ length tries
  all_long [] = refl
  all_long (x ∷ tries) = ap suc (all_long tries)

  seen_here : (tries : List (Vec Try Z)) (index : ℕ) (own : Vec Try Z) → index < length tries → own ≡ get_or tries index own
      → tries_view own.items ≡ get_or (all_tries_view tries) index (tries_view own.items)
  seen_here [] index own less here = absurd (omega (arith, less))
  seen_here (x ∷ tries) zero own less here = ap (λ (v : Vec Try Z). tries_view v.items) here
  seen_here (x ∷ tries) (suc index) own less here = seen_here tries index own (omega (arith, less)) here

  -- a try is added to those of a statement
  pub one_added : (old new : List (Vec Try Z)) (index : ℕ) (own more : Vec Try Z) (x : Try) → index < length old → own ≡ get_or old index own
      → more.items ≡ own.items ++ x ∷ [] → new ≡ slice_set old index more
      → all_tries_view new ≡ with_try (try_view x) index (all_tries_view old)
  one_added old new index own more x less here pushed set =
      ap (λ (l : List (Vec Try Z)). all_tries_view l) set
      ∙ map-set (λ (v : Vec Try Z). tries_view v.items) old index more
      ∙ ap (λ (l : List outcomes.Try). slice_set (all_tries_view old) index l) (ap (λ (l : List Try). tries_view l) pushed ∙ map-append try_view own.items (x ∷ []))
      ∙ with_one (try_view x) index (tries_view own.items) (all_tries_view old) (omega (arith, less, all_long old)) (seen_here old index own less here)

  pub none_added : (tries : List (Vec Try Z)) (index : ℕ) (x : Try) → length tries ≤ index → all_tries_view tries ≡ with_try (try_view x) index (all_tries_view tries)
  none_added tries index x past = with_none (try_view x) index (all_tries_view tries) (omega (arith, past, all_long tries))

-- SEVERAL MORE

with_both : (x : outcomes.Try) (i j : ℕ) (tries : List (List outcomes.Try)) → with_try x i (with_try x j tries) ≡ with_try x j (with_try x i tries)
with_both x i j [] = refl
with_both x zero zero (y ∷ tries) = refl
with_both x zero (suc j) (y ∷ tries) = refl
with_both x (suc i) zero (y ∷ tries) = refl
with_both x (suc i) (suc j) (y ∷ tries) = ap (λ (l : List (List outcomes.Try)). y ∷ l) (with_both x i j tries)

first_later : (x : outcomes.Try) (i : ℕ) (indices : List ℕ) (tries : List (List outcomes.Try))
    → with_tries x indices (with_try x i tries) ≡ with_try x i (with_tries x indices tries)
first_later x i [] tries = refl
first_later x i (j ∷ indices) tries =
    ap (λ (l : List (List outcomes.Try)). with_try x j l) (first_later x i indices tries) ∙ with_both x j i (with_tries x indices tries)

-- the next of the statements has one more
pub next_added : (x : outcomes.Try) (indices : List ℕ) (k index : ℕ) → k < length indices → index ≡ get_or indices k index → (now new whole : List (List outcomes.Try))
    → new ≡ with_try x index now → with_tries x (drop k indices) now ≡ whole → with_tries x (drop (k + 1) indices) new ≡ whole
next_added x indices k index less here now new whole is inv =
    ap (λ (l : List (List outcomes.Try)). with_tries x (drop (k + 1) indices) l) is
    ∙ first_later x index (drop (k + 1) indices) now
    ∙ sym (ap (λ (l : List ℕ). with_tries x l now) (next_cut indices k index less here)) ∙ inv

pub item_added : (x : outcomes.Try) (indices : List ℕ) (k d : ℕ) → k < length indices → (now new whole : List (List outcomes.Try))
    → new ≡ with_try x (get_or indices k d) now → with_tries x (drop k indices) now ≡ whole → with_tries x (drop (k + 1) indices) new ≡ whole
item_added x indices k d less now new whole is inv =
    next_added x indices k (get_or indices k d) less (get_or_default indices k d (get_or indices k d) less) now new whole is inv

-- NONE YET

abbrev pub nothing : List outcomes.Try
nothing = []

none_seen : {A B : Type 0} (f : A → B) (statements : List A) → map (λ (s : B). nothing) (map f statements) ≡ map (λ (s : A). nothing) statements
none_seen f [] = refl
none_seen f (s ∷ statements) = ap (λ (l : List (List outcomes.Try)). [] ∷ l) (none_seen f statements)

pub no_tries_of_all : {Z A B : Type 0} (f : A → B) (tries : List (Vec Try Z)) (i : ℕ) (statements : List A) → length statements ≤ i
    → all_tries_view tries ++ map (λ (s : A). nothing) (drop i statements) ≡ map (λ (s : A). nothing) statements
    → all_tries_view tries ≡ map (λ (s : B). nothing) (map f statements)
no_tries_of_all {Z} {A} {B} f tries i statements past inv =
    sym (append-nil (all_tries_view tries))
    ∙ sym (at_drop_all (λ (l : List A). all_tries_view tries ++ map (λ (s : A). nothing) l) statements i past)
    ∙ inv ∙ sym (none_seen f statements)
