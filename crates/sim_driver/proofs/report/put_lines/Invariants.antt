use Rattle.std.proofs.Common.{◌≡◌, ◌++◌, drop}
use Rattle.sim_driver.specs.Scripts.{reply_lines}
use Rattle.sim_driver.proofs.report.put_lines.Given as goal

-- the lines of the replies before were put
abbrev pub invariant-replies : goal.invariant-replies
invariant-replies l = l.text.items ++ reply_lines l.numbers (drop l.reply-index l.replies) ≡ l.fn.text.items ++ reply_lines l.numbers l.replies
