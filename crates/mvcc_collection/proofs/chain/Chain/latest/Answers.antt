use Rattle.std.proofs.Common.{map, ap, sym, ◌∙◌}
use Rattle.mvcc_collection.specs.Chains.{last_time}
use Rattle.mvcc_collection.specs.View.{dated, dated_with}
use Rattle.mvcc_collection.proofs.Chains.{last_push}
use Rattle.mvcc_collection.proofs.chain.Chain.latest.Goals as goal

pub returns-in-Some : goal.returns-in-Some
returns-in-Some c =
    let older = c.self.inside.older.items in
    sym (last_push (map dated older) (dated c.in-Some.last)) ∙ ap (λ l. last_time (dated_with l older)) (sym c.in-Some.is)
    ∙ ap (λ p. last_time p.versions) c.self.view_is
