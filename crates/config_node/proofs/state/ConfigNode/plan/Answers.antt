use Rattle.std.proofs.Common.{ap, rules}
use Rattle.node_model.specs.CatalogueRows.{catalogue_client, catalogue_opened}
use Rattle.node_model.specs.Letters.{client_input, opened_input}
use Rattle.protocol_model.specs.Inputs.{input_of}
use Rattle.protocol_model.specs.Requests.{request_of}
use Rattle.config_node.specs.State.{catalogue_of}
use Rattle.config_node.proofs.Plans.{at_moment, stays}
use Rattle.config_node.proofs.state.ConfigNode.plan.Goals as goal

pub returns-in-Moment-clause-planned : goal.returns-in-Moment-clause-planned
returns-in-Moment-clause-planned c =
    let n = catalogue_of c.args.self.now in
    let made = c.of_time.ensures in
    at_moment n c.of_time.result made.change made.answer made.records (input_of c.args.input.now) c.in-Moment.moment (ap input_of c.in-Moment.is) (search rules)

pub returns-in-Client-clause-planned : goal.returns-in-Client-clause-planned
returns-in-Client-clause-planned c =
    let n = catalogue_of c.args.self.now in
    let i = client_input c.in-Client.link c.in-Client.number (request_of c.in-Client.request) in
    let made = c.of_time-in-Client.ensures in
    stays n c.of_time-in-Client.result made.change made.answer made.records i (input_of c.args.input.now) (ap input_of c.in-Client.is) tt
    (catalogue_client n c.in-Client.link c.in-Client.number (request_of c.in-Client.request)) (ap (λ t. t.0) made.time)

pub returns-in-Opened-clause-planned : goal.returns-in-Opened-clause-planned
returns-in-Opened-clause-planned c =
    let n = catalogue_of c.args.self.now in
    let made = c.of_time-in-Opened.ensures in
    stays n c.of_time-in-Opened.result made.change made.answer made.records opened_input (input_of c.args.input.now) (ap input_of c.in-Opened.is) tt
    (catalogue_opened n) (ap (λ t. t.0) made.time)
