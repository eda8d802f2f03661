use Rattle.std.proofs.Common.{ℕ, drop}
use Rattle.router_cursors.specs.Closing.{CloseSoFar, Has}
use Rattle.router_cursors.specs.CursorLists.{cursors_of}
use Rattle.router_cursors.proofs.list.CursorList.closing.Given as goal

abbrev pub invariant-loop-number : goal.invariant-loop-number
invariant-loop-number l = record {
  closed : Has l.closed l.closing.killed.items;
  kills : (router life count : ℕ) → CloseSoFar (record { router = router; life = life; count = count }) l.namespace (cursors_of router life l.self)
      (drop l.number-index l.numbers) l.numbers l.closing.killed.items l.closing.missing.items;
}
