use Rattle.std.proofs.Common.{◌≡◌, ◌∙◌, rules}
use Rattle.std.specs.Arc.{arc_value}
use Rattle.std.specs.Option.{option_map}
use Rattle.chunk_model.specs.Tables.{table_of}
use Rattle.chunk_catalogue.proofs.Placed.{found_covers, found_owner}
use Rattle.chunk_catalogue.proofs.catalogue.Catalogue.shared_table.Goals as goal

pub returns-clause-cover : goal.returns-clause-cover
returns-clause-cover c =
    let ns = c.args.namespace.now in
    let self = c.args.self.now in
    let found : option_map (λ t. arc_value t.now) c.get.result ≡ table_of ns self.tables.tables = search rules in
    found_covers (λ t. arc_value t.now) ns _ c.get.result self.fitting (found ∙ self.known ns)

pub returns-clause-owners : goal.returns-clause-owners
returns-clause-owners c =
    let ns = c.args.namespace.now in
    let self = c.args.self.now in
    let found : option_map (λ t. arc_value t.now) c.get.result ≡ table_of ns self.tables.tables = search rules in
    found_owner (λ t. arc_value t.now) ns _ c.get.result self.fitting (found ∙ self.known ns)
