use Rattle.chunk_catalogue.specs.Catalogues.{changes_of}
use Rattle.catalogue_replay.specs.CatalogueParts.{part_of}
use Rattle.node_replay.specs.Durable.{empty_catalogue}
use Rattle.node_open.proofs.Parts.{catalogue_opened}
use Rattle.node_open.proofs.open.open_catalogue.Goals as goal

pub returns-clause-opened : goal.returns-clause-opened
returns-clause-opened c =
    let r = c.into_parts-catalogue.result in
    catalogue_opened (part_of c.empty.result) (empty_catalogue c.args.me.0) (part_of c.in_ok-part.part) c.as_slice.result.now c.args.records r.0.0 r.1.0
    (changes_of r.2) _ c.empty.ensures c.as_slice.ensures c.in_ok-part.ensures.replayed c.into_parts-catalogue.ensures.part c.restored.ensures.state
