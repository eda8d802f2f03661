use Rattle.std.proofs.Common.{◌≡◌, codes, false, sym, ◌∙◌}
use Rattle.std.specs.Str.{bytes_eq}
use Rattle.command_words.proofs.split.SplitFormRules.ruling.Goals as goal

pub returns-else-eq : goal.returns-else-eq
returns-else-eq c =
    let no_middle : bytes_eq (codes "middle") c.args.name.now ≡ false = sym c.eq.ensures ∙ c.if-eq.false in
    rw no_middle c.common_ruling.ensures
