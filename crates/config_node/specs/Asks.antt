-- What is requested of the catalogue.
use Rattle.node_model.specs.Letters.{Body}
use Rattle.protocol_model.specs.Bodies.{split_ask_view, table_ask_view}
use Rattle.config_node.specs.declared.asks.Ask.{Ask}
use Rattle.config_node.specs.declared.asks.Ask.TheVariants.{Table, Split}

abbrev pub ask_view : Ask → Body
ask_view (Table ask) = table_ask_view ask.now
ask_view (Split ask) = split_ask_view ask.now
