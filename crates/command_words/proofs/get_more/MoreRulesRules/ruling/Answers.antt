use Rattle.std.proofs.Common.{◌≡◌, codes, false, sym, ◌∙◌}
use Rattle.std.specs.Str.{bytes_eq}
use Rattle.command_words.proofs.get_more.MoreRulesRules.ruling.Goals as goal

pub returns-else-eq-2 : goal.returns-else-eq-2
returns-else-eq-2 c =
    let no_collection : bytes_eq (codes "collection") c.args.name.now ≡ false = sym c.eq.ensures ∙ c.if-eq.false in
    let no_batchSize : bytes_eq (codes "batchSize") c.args.name.now ≡ false = sym c.eq-else-eq.ensures ∙ c.if-eq-2.false in
    rw (no_collection, no_batchSize) c.common_ruling.ensures
