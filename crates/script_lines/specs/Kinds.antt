-- The kinds of messages that lines name, also those that no node sends yet (own).
use Rattle.std.specs.Prelude.{Bool, IsTrue, List, ℕ, [], ◌∷◌, codes}
use Rattle.std.specs.List.{list_any}
use Rattle.std.specs.Str.{bytes_eq}

abbrev pub kinds : List (List ℕ)
kinds =
    codes "TableAsk" ∷ codes "TableTold" ∷ codes "SplitAsk" ∷ codes "SplitDone" ∷ codes "WriteAsk" ∷ codes "ReadAsk" ∷ codes "MoveAsk"
    ∷ codes "TimeAsk" ∷ codes "HalfAsk" ∷ codes "WriteDone" ∷ codes "ReadRows" ∷ codes "MoveDone" ∷ codes "TimeTold" ∷ codes "Refused"
    ∷ codes "ReceiveAsk" ∷ codes "Batch" ∷ codes "Floors" ∷ codes "Release" ∷ codes "ReceiveReady" ∷ codes "ReceiveBusy" ∷ codes "ReceiveLost"
    ∷ codes "BatchDone" ∷ codes "FloorsDone" ∷ codes "Released" ∷ codes "CommitAsk" ∷ codes "ResolveAsk" ∷ codes "Settled" ∷ []

-- the word is one of these
abbrev pub is_among : List (List ℕ) → List ℕ → Bool
is_among words word = list_any (λ w. bytes_eq w word) words

-- the word names a kind
abbrev pub IsKind : List ℕ → Type 0
IsKind word = IsTrue (is_among kinds word)
