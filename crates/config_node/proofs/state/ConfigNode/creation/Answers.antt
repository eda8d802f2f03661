use Rattle.chunk_catalogue.specs.Catalogues.{changes_of}
use Rattle.config_node.proofs.Ready.{past_before}
use Rattle.config_node.proofs.Rows.{answered, answered_none, made_table, made_writable}
use Rattle.config_node.proofs.state.ConfigNode.creation.Goals as goal

pub create-requires : goal.create-requires
create-requires c = record { later = past_before c.args.self.now.time.0 c.args.at.0 _ c.requires.late c.args.self.now.past }

pub returns-then-ask-clause-answer : goal.returns-then-ask-clause-answer
returns-then-ask-clause-answer c = answered _ c.create.result c.create.ensures.answer

pub returns-then-ask-clause-none : goal.returns-then-ask-clause-none
returns-then-ask-clause-none c =
    answered_none c.args.ask.now.namespace c.args.ask.now.create c.args.at.0 (changes_of c.args.self.now.catalogue) c.create.result c.create.ensures.answer

pub returns-then-ask-clause-writable : goal.returns-then-ask-clause-writable
returns-then-ask-clause-writable c =
    made_writable c.args.ask.now.namespace c.args.at.0 (changes_of c.args.self.now.catalogue) c.create.result c.create.ensures.answer

pub returns-then-ask-clause-table : goal.returns-then-ask-clause-table
returns-then-ask-clause-table c =
    made_table c.create.new.self c.args.ask.now.namespace c.args.at.0 (changes_of c.args.self.now.catalogue) c.create.result c.create.ensures.changes
    c.create.ensures.answer c.create.ensures.next
