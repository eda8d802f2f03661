use Rattle.std.proofs.Common.{◌≡◌, ℕ, drop}
use Rattle.router_cursors.specs.CursorLists.{closed_all, cursors_of}
use Rattle.router_cursors.proofs.list.CursorList.close.Given as goal

abbrev pub invariant-loop-number : goal.invariant-loop-number
invariant-loop-number l = record {
  blocks : l.self.blocks ≡ l.fn.self.blocks;
  gave : l.self.gave ≡ l.fn.self.gave;
  cursors : (router life count : ℕ) → closed_all (record { router = router; life = life; count = count }) (drop l.number-index l.numbers) (cursors_of router life l.self)
      ≡ closed_all (record { router = router; life = life; count = count }) l.numbers (cursors_of router life l.fn.self);
}
