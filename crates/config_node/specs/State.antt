-- The state of the definitions that the catalogue is in.
use Rattle.chunk_catalogue.specs.Catalogues.{changes_of}
use Rattle.node_model.specs.States.{Catalogue, NodeState, catalogue_state}
use Rattle.config_node.specs.declared.state.ConfigNode.{ConfigNode}

abbrev pub catalogue_of : ConfigNode → Catalogue
catalogue_of c = record { me = c.me.0; time = c.time.0; changes = changes_of c.catalogue }

abbrev pub state_of : ConfigNode → NodeState
state_of c = catalogue_state (catalogue_of c)
