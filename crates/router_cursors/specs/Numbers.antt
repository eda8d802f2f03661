-- The numbers of cursors, which are reserved in blocks.
use Rattle.std.specs.Prelude.{ℕ, ◌+◌, ◌*◌, List, [], ◌∷◌, Option, Some, None, nat_lt, if◌then◌else◌}
use Rattle.node_model.specs.Journal.{Kept, kept_block}

-- the next number, given how many blocks were written and the last number
abbrev pub number_given : (blocks gave : ℕ) → ℕ
number_given blocks gave = if nat_lt gave (64 * blocks) then gave + 1 else 64 * blocks + 1

-- the number of the block that is written for it, if one is
abbrev pub block_given : (blocks gave : ℕ) → Option ℕ
block_given blocks gave = if nat_lt gave (64 * blocks) then None else Some blocks

-- how many blocks are written afterwards
abbrev pub blocks_then : (blocks gave : ℕ) → ℕ
blocks_then blocks gave = if nat_lt gave (64 * blocks) then blocks else blocks + 1

-- the record of a block, if one is written
abbrev pub block_kept : Option ℕ → List Kept
block_kept None = []
block_kept (Some n) = kept_block n ∷ []
