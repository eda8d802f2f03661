use Rattle.std.proofs.Common.{◌≡◌, codes, false, sym, ◌∙◌}
use Rattle.std.specs.Str.{bytes_eq}
use Rattle.command_words.proofs.kill_cursors.KillFormRules.ruling.Goals as goal

pub returns-else-eq : goal.returns-else-eq
returns-else-eq c =
    let no_cursors : bytes_eq (codes "cursors") c.args.name.now ≡ false = sym c.eq.ensures ∙ c.if-eq.false in
    rw no_cursors c.common_ruling.ensures
