-- Each node's journal has a name of its own.
use Rattle.std.specs.Prelude.{◌≡◌, ◌≢◌, ℕ, ◌+◌, ◌/◌, ◌%◌, ◌<◌, List, get_or}
use Rattle.std.proofs.Common.{ap, arith}
use Rattle.cluster_main.specs.Names.{journal_name}

-- two numbers of two digits differ in one of these
differ : (i j : ℕ) → i < j → j < 100 → 48 + i / 10 % 10 ≡ 48 + j / 10 % 10 → 48 + i % 10 ≡ 48 + j % 10 → ⊥
differ i j less few tens ones = omega (arith, less, few, tens, ones)

pub own_names : (i j : ℕ) → i < j → j < 100 → journal_name i ≢ journal_name j
own_names i j less few same = differ i j less few (ap (λ (name : List ℕ). get_or name 4 0) same) (ap (λ (name : List ℕ). get_or name 5 0) same)
