use Rattle.std.proofs.Common.{◌+◌, rules, arith, sym, refl}
use Rattle.config_node.proofs.Planned.{bound_planned, none_planned, split_planned}
use Rattle.config_node.proofs.Ready.{past_before, ready_made, ready_told}
use Rattle.config_node.proofs.Rows.{split_writable}
use Rattle.config_node.specs.State.{catalogue_of}
use Rattle.config_node.proofs.state.ConfigNode.plan_split.Goals as goal

pub split-requires : goal.split-requires
split-requires c = record {
  later = past_before c.args.self.now.time.0 (c.args.heard.0 + 1) _ (omega (arith, c.requires.late)) c.args.self.now.past;
  writable = c.in_ok-writable.ensures (search rules);
}

pub make-requires : goal.make-requires
make-requires c =
    let answered = rw c.in-Ok-Some.field-0-is at c.in-Ok-Some.ensures.answer in
    split_writable c.args.ask.now.namespace c.args.ask.now.middle (c.args.heard.0 + 1) _ _ (sym answered) (c.in_ok-writable.ensures (search rules))

pub returns-in-Ok-Some-clause-planned : goal.returns-in-Ok-Some-clause-planned
returns-in-Ok-Some-clause-planned c = λ m late is here.
    let made = c.make.ensures in
    let answered = rw c.in-Ok-Some.field-0-is at c.in-Ok-Some.ensures.answer in
    split_planned (catalogue_of c.args.self.now) m c.args.heard late here c.args.ask.now is _ refl c.in-Ok-Some.change c.make.result (sym answered)
    made.time made.change made.answer made.records made.readable

pub returns-in-Ok-Some-clause-ready : goal.returns-in-Ok-Some-clause-ready
returns-in-Ok-Some-clause-ready c =
    let next = rw c.in-Ok-Some.field-0-is at c.in-Ok-Some.ensures.next in
    let timed = rw c.in-Ok-Some.field-0-is at c.in-Ok-Some.ensures.time in
    ready_made c.args.self.now c.in-Ok-Some.change _ c.make.result (omega (arith, c.requires.late)) next timed c.make.ensures.time c.make.ensures.change

pub returns-in-Ok-None-clause-planned : goal.returns-in-Ok-None-clause-planned
returns-in-Ok-None-clause-planned c = λ m late is here.
    let told = c.split_told.ensures in
    let answered = rw c.in-Ok-None.field-0-is at c.in-Ok-None.ensures.answer in
    bound_planned (catalogue_of c.args.self.now) m c.args.heard late here c.args.ask.now is _ refl c.split_told.result (sym answered) told.time told.change
    told.answer told.records

pub returns-in-Ok-None-clause-ready : goal.returns-in-Ok-None-clause-ready
returns-in-Ok-None-clause-ready c =
    let told = c.split_told in
    ready_told c.args.self.now told.result c.args.heard c.requires.late told.ensures.time told.ensures.change

pub returns-in-Err-NoCollection-clause-planned : goal.returns-in-Err-NoCollection-clause-planned
returns-in-Err-NoCollection-clause-planned c = λ m late is here.
    let told = c.split_told-in-Err-NoCollection.ensures in
    let fault = rw c.in-Err-NoCollection.field-0-is at c.in-Err-NoCollection.ensures.fault in
    none_planned (catalogue_of c.args.self.now) m c.args.heard late here c.args.ask.now is _ refl c.split_told-in-Err-NoCollection.result fault told.time
    told.change told.answer told.records

pub returns-in-Err-NoCollection-clause-ready : goal.returns-in-Err-NoCollection-clause-ready
returns-in-Err-NoCollection-clause-ready c =
    let told = c.split_told-in-Err-NoCollection in
    ready_told c.args.self.now told.result c.args.heard c.requires.late told.ensures.time told.ensures.change
