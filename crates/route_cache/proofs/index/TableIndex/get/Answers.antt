use Rattle.std.proofs.Common.{◌≡◌, ◌∙◌, ap, ap₂, rules, ℕ, List}
use Rattle.std.specs.Prelude.{Some}
use Rattle.chunk_model.specs.Tables.{Table, table_of}
use Rattle.route_cache.proofs.Puts.{found}
use Rattle.route_cache.proofs.index.TableIndex.get.Goals as goal

pub returns-in-Some : goal.returns-in-Some
returns-in-Some c =
    let same : c.self.inside.tables.keys ≡ c.args.self.now.tables = search rules in
    let name : c.as_str.result.now ≡ c.args.namespace.now = search rules in
    ap (λ (t : Table). Some t) c.named.view_is
    ∙ c.in-Some.ensures.key
    ∙ found c.as_str.result.now c.self.inside.tables.keys
    ∙ ap₂ (λ (n : List ℕ) (ts : List Table). table_of n ts) name same

pub returns-in-None : goal.returns-in-None
returns-in-None c =
    let same : c.self.inside.tables.keys ≡ c.args.self.now.tables = search rules in
    let name : c.as_str.result.now ≡ c.args.namespace.now = search rules in
    c.in-None.ensures.key
    ∙ found c.as_str.result.now c.self.inside.tables.keys
    ∙ ap₂ (λ (n : List ℕ) (ts : List Table). table_of n ts) name same
