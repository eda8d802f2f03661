-- The names of files.
use Rattle.std.specs.Prelude.{ℕ, zero, suc, ◌+◌, ◌/◌, ◌%◌, List, [], ◌∷◌, ◌++◌, codes}

-- the journal's file of a node: node, the number in two digits, .journal
abbrev pub journal_name : ℕ → List ℕ
journal_name node = codes "node" ++ (48 + node / 10 % 10) ∷ (48 + node % 10) ∷ codes ".journal"

-- those of the first nodes, in order
abbrev pub journal_names : ℕ → List (List ℕ)
journal_names zero = []
journal_names (suc count) = journal_names count ++ journal_name count ∷ []
