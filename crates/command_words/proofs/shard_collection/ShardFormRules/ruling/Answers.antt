use Rattle.std.proofs.Common.{◌≡◌, codes, false, sym, ◌∙◌}
use Rattle.std.specs.Str.{bytes_eq}
use Rattle.command_words.proofs.shard_collection.ShardFormRules.ruling.Goals as goal

pub returns-else-eq : goal.returns-else-eq
returns-else-eq c =
    let no_key : bytes_eq (codes "key") c.args.name.now ≡ false = sym c.eq.ensures ∙ c.if-eq.false in
    rw no_key c.common_ruling.ensures
