use Rattle.std.proofs.Common.{◌≡◌, codes, false, sym, ◌∙◌}
use Rattle.std.specs.Str.{bytes_eq}
use Rattle.command_words.proofs.find.FindRulesRules.ruling.Goals as goal

pub returns-else-eq-3 : goal.returns-else-eq-3
returns-else-eq-3 c =
    let no_filter : bytes_eq (codes "filter") c.args.name.now ≡ false = sym c.eq.ensures ∙ c.if-eq.false in
    let no_sort : bytes_eq (codes "sort") c.args.name.now ≡ false = sym c.eq-else-eq.ensures ∙ c.if-eq-2.false in
    let no_projection : bytes_eq (codes "projection") c.args.name.now ≡ false = sym c.eq-else-eq-2.ensures ∙ c.if-eq-3.false in
    rw (no_filter, no_sort, no_projection) c.plain_ruling.ensures
