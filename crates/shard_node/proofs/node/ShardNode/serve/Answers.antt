use Rattle.std.proofs.Common.{◌≡◌, ◌≢◌, ap, sym, refl, rules, ◌∙◌}
use Rattle.std.specs.Option.{option_map}
use Rattle.std.specs.Prelude.{Some}
use Rattle.shard_store.specs.Outcomes.{done_view}
use Rattle.shard_store.specs.Plans.{time_of}
use Rattle.shard_node.proofs.Writing.{step_new, step_old, told_short}
use Rattle.shard_node.proofs.node.ShardNode.serve.Goals as goal

pub entry_bytes-requires : goal.entry_bytes-requires
entry_bytes-requires c =
    let index = c.args.statement.now.index in
    let served = c.in_ok-told.ensures.served in
    let later : time_of c.serve.new.plan ≢ time_of c.args.entries.now = λ e. c.if-time-before.false (c.time.ensures ∙ e ∙ sym c.time-before.ensures) in
    record {
      key = told_short _ _ _ _ _ _ served.0 _ index c.in-WasDone.entry served.2 later
          (ap (option_map (done_view index)) c.in-Some.is ∙ ap (λ t. Some (done_view index t)) c.in-WasDone.is);
    }

pub returns-clause-served : goal.returns-clause-served
returns-clause-served c =
    let id = c.args.ask.now.id in
    let index = c.args.statement.now.index in
    let later : time_of c.serve.new.plan ≢ time_of c.args.entries.now = λ e. c.if-time-before.false (c.time.ensures ∙ e ∙ sym c.time-before.ensures) in
    step_new _ c.args.self.now.me.0 c.args.ask.now.namespace _ c.args.entries.now c.serve.new.plan _ _ _ _ _ c.args.ask.now.number id index c.in-WasDone.entry c.statement_number-number.result _ _ _ (search rules)
    c.in_ok-told.ensures.served (rw (c.requires.number, c.requires.id, c.lend_words-words.ensures.words) refl)
    (ap (option_map (done_view index)) c.in-Some.is ∙ ap (λ t. Some (done_view index t)) c.in-WasDone.is) c.in_ok-done-2.ensures later
    c.statement_number-number.ensures refl refl c.in_ok-record.ensures.0 c.in_ok-record.ensures.1 refl

pub returns-then-time-before-clause-served : goal.returns-then-time-before-clause-served
returns-then-time-before-clause-served c =
    let index = c.args.statement.now.index in
    let still : time_of c.serve.new.plan ≡ time_of c.args.entries.now = sym c.time.ensures ∙ c.if-time-before.true ∙ c.time-before.ensures in
    step_old _ c.args.self.now.me.0 c.args.ask.now.namespace _ c.args.entries.now c.serve.new.plan _ _ _ _ _ _ _ (search rules)
    c.in_ok-told.ensures.served (rw (c.requires.number, c.requires.id, c.lend_words-words.ensures.words) refl)
    (ap (option_map (done_view index)) c.in-Some.is) c.in_ok-done.ensures still refl
