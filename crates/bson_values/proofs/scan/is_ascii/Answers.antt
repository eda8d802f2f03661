use Rattle.std.proofs.Common.{arith, ◌≤◌, slice_index, inl, inr}
use Rattle.std.proofs.Math.Nat.{eq-or-lt_of_le}
use Rattle.std.proofs.lemmas.Nat.{le_or_l, le_or_r}
use Rattle.bson_values.proofs.scan.is_ascii.Goals as goal

pub loop-byte-preserved : goal.loop-byte-preserved
loop-byte-preserved c i before =
    let joined = c.loop-byte.joined in
    let last = slice_index c.args.bytes.now c.loop-byte.byte-index in
    let upto : i ≤ c.loop-byte.byte-index = omega arith in
    elim (eq-or-lt_of_le upto) [
      | inl same ↦ rw same (le_or_r joined last)
      | inr sooner ↦ omega (arith, c.loop-byte.invariant i sooner, le_or_l joined last)
    ]
