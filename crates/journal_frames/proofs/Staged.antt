-- The file after a crash in each of the two steps of writing records, and of closing the end.
use Rattle.std.proofs.Common.{◌≡◌, ◌≢◌, inl, inr, ℕ, ◌+◌, ◌<◌, ◌≤◌, ◌^◌, min, List, [], ◌∷◌, ◌++◌, length, get_or, take, drop, refl, sym, ◌∙◌, ap, subst, arith, append_assoc, length-append, take-append-drop}
use Rattle.std.proofs.lemmas.List.{take_at, drop_at, drop_more, take_all, drop_all, append-nil, drop-drop}
use Rattle.std.proofs.lemmas.Bool.{cases_eq}
use Rattle.std.proofs.ByRecursion.{All-append}
use Rattle.outside.specs.Disks.{Holds, Torn}
use Rattle.journal_frames.specs.Files.{Fit, IsShut, Stands, StandsWithOrWithout, blocks}
use Rattle.journal_frames.specs.Views.{at_rest}
use Rattle.journal_frames.proofs.Scanned.{blocks-append}

-- a write within the old bytes or at their end
pub holds_is : (at : ℕ) (piece old new : List ℕ) → at ≤ length old → Holds at piece old new → new ≡ take at old ++ (piece ++ drop (at + length piece) old)
holds_is at piece old new within holds =
    let some : min at (length old) ≡ at = omega (arith, within) in
    let prefix : take at new ≡ take at old = subst (λ n. take n new ≡ take at old) some holds.before in
    let back : drop at new ≡ piece ++ drop (at + length piece) old =
    sym (take-append-drop (length piece) (drop at new)) ∙ ap (λ (l : List ℕ). l ++ drop (length piece) (drop at new)) holds.here
    ∙ ap (λ (l : List ℕ). piece ++ l) (drop-drop (length piece) at new ∙ holds.after) in
    sym (take-append-drop at new) ∙ ap (λ (l : List ℕ). l ++ drop at new) prefix ∙ ap (λ (l : List ℕ). take at old ++ l) back

shut : (gate : ℕ) (rest : List ℕ) → gate ≢ 1 → IsShut (gate ∷ rest)
shut gate [] is_not = tt
shut gate (b ∷ rest) is_not = is_not

-- a gate that is not open ends the records, whatever bytes follow it
pub stands_shut : (records : List (List ℕ)) (gate : ℕ) (rest : List ℕ) → Fit records → gate ≢ 1 → Stands (blocks records ++ gate ∷ rest) records
stands_shut records gate rest fits is_not = record { rest = gate ∷ rest; fits = fits; split = refl; shut = inl (shut gate rest is_not) }

-- the last byte of a file is no open gate
pub stands_last : (records : List (List ℕ)) (gate : ℕ) → Fit records → Stands (blocks records ++ gate ∷ []) records
stands_last records gate fits = record { rest = gate ∷ []; fits = fits; split = refl; shut = inl tt }

-- the file with a piece after the gate
abbrev pub staged : List (List ℕ) → ℕ → List ℕ → List ℕ
staged records gate piece = blocks records ++ gate ∷ piece

-- records whose gates but the first are open
pub staged_open : (records more : List (List ℕ)) (piece : List ℕ) → 1 ∷ piece ≡ at_rest more → staged records 1 piece ≡ at_rest (records ++ more)
staged_open records more piece is = ap (λ (l : List ℕ). blocks records ++ l) is ∙ sym (blocks-append records more (0 ∷ []))

-- whole records after any gate are in the file or they aren't
pub staged_gate : (records more : List (List ℕ)) (gate : ℕ) (piece : List ℕ) → Fit records → Fit more → 1 ∷ piece ≡ at_rest more
    → StandsWithOrWithout records more (staged records gate piece)
staged_gate records more gate piece fits fit is = elim (cases_eq gate 1) [
  | inl open_gate ↦ inr (subst (λ f. Stands f (records ++ more)) (sym (ap (λ (g : ℕ). staged records g piece) open_gate
      ∙ staged_open records more piece is)) (stands_last (records ++ more) 0 (All-append (λ r. length r < 2 ^ 64) records more fits fit)))
  | inr is_not ↦ inl (stands_shut records gate piece fits is_not)
]

module _ (records : List (List ℕ)) (fits : Fit records) (end : ℕ) (size : end ≡ length (blocks records)) where
  pub length-at_rest : length (at_rest records) ≡ end + 1
  length-at_rest = omega (arith, size, length-append (blocks records) (0 ∷ []))

  -- the closed gate is in each outcome of the first write
  pub torn_behind : (n : ℕ) (c : List ℕ) → Torn (end + 1) n (at_rest records) c → Stands c records
  torn_behind n c torn =
      let long = length-at_rest in
      let some : min (end + 1) (length (at_rest records)) ≡ end + 1 = omega (arith, long) in
      let prefix : take (end + 1) c ≡ at_rest records = subst (λ m. take m c ≡ take (end + 1) (at_rest records)) some torn.before
      ∙ take_all (end + 1) (at_rest records) (omega (arith, long)) in
      let whole : c ≡ blocks records ++ 0 ∷ drop (end + 1) c = sym (take-append-drop (end + 1) c)
      ∙ ap (λ (l : List ℕ). l ++ drop (end + 1) c) prefix ∙ append_assoc (blocks records) (0 ∷ []) (drop (end + 1) c) in
      subst (λ f. Stands f records) (sym whole) (stands_shut records 0 (drop (end + 1) c) fits (λ e. absurd (omega (arith, e))))

  pub held_behind : (piece c : List ℕ) → Holds (end + 1) piece (at_rest records) c → c ≡ staged records 0 piece
  held_behind piece c holds =
      let long = length-at_rest in
      holds_is (end + 1) piece (at_rest records) c (omega (arith, long)) holds
      ∙ ap (λ (l : List ℕ). l ++ (piece ++ drop (end + 1 + length piece) (at_rest records))) (take_all (end + 1) (at_rest records) (omega (arith, long)))
      ∙ ap (λ (l : List ℕ). at_rest records ++ (piece ++ l)) (drop_all (end + 1 + length piece) (at_rest records) (omega (arith, long)))
      ∙ ap (λ (l : List ℕ). at_rest records ++ l) (append-nil piece)
      ∙ append_assoc (blocks records) (0 ∷ []) piece

  -- the file from the gate on
  from_gate : (gate : ℕ) (rest : List ℕ) → drop (end + 1) (blocks records ++ gate ∷ rest) ≡ rest
  from_gate gate rest =
      ap (λ (l : List ℕ). drop (end + 1) l) (sym (append_assoc (blocks records) (gate ∷ []) rest))
      ∙ drop_at (blocks records ++ gate ∷ []) rest (end + 1) (omega (arith, size, length-append (blocks records) (gate ∷ [])))

  to_gate : (gate : ℕ) (rest : List ℕ) → take end (blocks records ++ gate ∷ rest) ≡ blocks records
  to_gate gate rest = take_at (blocks records) (gate ∷ rest) end (sym size)

  -- each outcome of a write of the gate alone has some gate there
  pub torn_at : (gate : ℕ) (rest c : List ℕ) → Torn end 1 (blocks records ++ gate ∷ rest) c → (g : ℕ) × (c ≡ blocks records ++ g ∷ rest)
  torn_at gate rest c torn =
      let long : length (blocks records ++ gate ∷ rest) ≡ end + 1 + length rest = omega (arith, size, length-append (blocks records) (gate ∷ rest)) in
      let some : min end (length (blocks records ++ gate ∷ rest)) ≡ end = omega (arith, long) in
      let prefix : take end c ≡ blocks records = subst (λ m. take m c ≡ take end (blocks records ++ gate ∷ rest)) some torn.before ∙ to_gate gate rest in
      let more : drop end c ≡ get_or c end 0 ∷ drop (end + 1) c = drop_more c end 0 (omega (arith, torn.no_shorter, long)) in (
        get_or c end 0,
        sym (take-append-drop end c) ∙ ap (λ (l : List ℕ). l ++ drop end c) prefix ∙ ap (λ (l : List ℕ). blocks records ++ l) (more
            ∙ ap (λ (l : List ℕ). get_or c end 0 ∷ l) (torn.after ∙ from_gate gate rest)),
      )

  pub held_at : (new gate : ℕ) (rest c : List ℕ) → Holds end (new ∷ []) (blocks records ++ gate ∷ rest) c → c ≡ blocks records ++ new ∷ rest
  held_at new gate rest c holds =
      let long : length (blocks records ++ gate ∷ rest) ≡ end + 1 + length rest = omega (arith, size, length-append (blocks records) (gate ∷ rest)) in
      holds_is end (new ∷ []) (blocks records ++ gate ∷ rest) c (omega (arith, long)) holds
      ∙ ap (λ (l : List ℕ). l ++ new ∷ drop (end + 1) (blocks records ++ gate ∷ rest)) (to_gate gate rest)
      ∙ ap (λ (l : List ℕ). blocks records ++ new ∷ l) (from_gate gate rest)

  pub torn_gate : (more : List (List ℕ)) (piece c : List ℕ) → Fit more → 1 ∷ piece ≡ at_rest more → Torn end 1 (staged records 0 piece) c
      → StandsWithOrWithout records more c
  torn_gate more piece c fit piece_is torn =
      let is = torn_at 0 piece c torn in
      subst (λ f. StandsWithOrWithout records more f) (sym is.1) (staged_gate records more is.0 piece fits fit piece_is)

  pub held_gate : (more : List (List ℕ)) (piece c : List ℕ) → 1 ∷ piece ≡ at_rest more → Holds end (1 ∷ []) (staged records 0 piece) c
      → c ≡ at_rest (records ++ more)
  held_gate more piece c piece_is holds = held_at 1 0 piece c holds ∙ staged_open records more piece piece_is
