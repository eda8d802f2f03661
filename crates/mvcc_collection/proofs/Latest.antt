-- The time of the last of versions.
use Rattle.std.proofs.Common.{◌≡◌, ◌+◌, ◌-◌, ℕ, zero, suc, List, [], ◌∷◌, length, map, sym, ap, arith}
use Rattle.std.specs.Prelude.{Option, Some}
use Rattle.std.specs.List.{slice_get}
use Rattle.std.specs.Option.{unwrap_or}
use Rattle.mvcc_collection.specs.Chains.{last_time}
use Rattle.mvcc_collection.specs.View.{dated}
use Rattle.mvcc_collection.specs.declared.chain.Version.{Version}

last_got : (vs : List Version) (n : ℕ) (v : Version) → n + 1 ≡ length vs → slice_get vs n ≡ Some v → Some v.time.0 ≡ last_time (map dated vs)
last_got [] n v long got = absurd (omega (arith, long))
last_got (x ∷ []) zero v long got = let same : v ≡ x = cc in ap (λ (y : Version). Some y.time.0) same
last_got (x ∷ []) (suc n) v long got = absurd (omega (arith, long))
last_got (x ∷ y ∷ vs) zero v long got = absurd (omega (arith, long))
last_got (x ∷ y ∷ vs) (suc n) v long got = ap (λ (t : Option ℕ). Some (unwrap_or t x.time.0)) (last_got (y ∷ vs) n v (omega (arith, long)) got)

pub last_among : (vs : List Version) (v : Version) → Some v ≡ slice_get vs (length vs - 1) → Some v.time.0 ≡ last_time (map dated vs)
last_among [] v got = absurd cc
last_among (x ∷ vs) v got = last_got (x ∷ vs) (length (x ∷ vs) - 1) v (omega arith) (sym got)
