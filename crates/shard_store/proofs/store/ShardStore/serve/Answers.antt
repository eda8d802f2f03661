use Rattle.std.proofs.Common.{◌+◌, ◌++◌, ◌∷◌, ℕ, List, [], refl, sym, ap, subst, ◌∙◌, append-nil, arith, rules}
use Rattle.std.specs.Prelude.{Option, Some, map}
use Rattle.std.proofs.lemmas.List.{map-append}
use Rattle.cluster_base.specs.declared.identity.RequestId.{RequestId}
use Rattle.command_replies.specs.Kinds.{given_view}
use Rattle.command_replies.specs.declared.answer.ClientNumber.{ClientNumber}
use Rattle.node_model.specs.Exchanges.{number_for}
use Rattle.node_traits.specs.Ids.{id_view}
use Rattle.shard_store.proofs.Following.{again, next_from, own_from, served_next}
use Rattle.shard_store.proofs.Lists.{none_passes}
use Rattle.shard_store.specs.Entries.{entry_view, operation_in, operation_of}
use Rattle.shard_store.specs.Outcomes.{done_view}
use Rattle.shard_store.specs.Plans.{AreNext, IsEffect, IsServed, left_for_later, made_by, time_of}
use Rattle.shard_store.specs.Stores.{entries_of, last_of, shard_of}
use Rattle.shard_store.specs.declared.entry.Planned.{Planned}
use Rattle.shard_store.specs.declared.outcome.EntryResult.{EntryResult}
use Rattle.shard_store.specs.declared.outcome.StatementOutcome.TheVariants.{WasDone}
use Rattle.shard_store.proofs.store.ShardStore.serve.Goals as goal

pub returns-in-Some-clause-served : goal.returns-in-Some-clause-served
returns-in-Some-clause-served c = (
  [],
  sym (append-nil (made_by (shard_of c.args.self.now) c.args.namespace.now c.args.plan.now)),
  again (shard_of c.args.self.now) c.args.namespace.now (entries_of c.args.self.now) (last_of c.args.self.now) c.args.plan.now.number c.args.plan.now.id
      c.args.plan.now.planned.items c.args.index (time_of c.args.plan.now) (operation_in c.args.words) (done_view c.args.index c.in-Some.told)
      c.requires.plan.next (search rules),
)

pub returns-then-index-plan-clause-served : goal.returns-then-index-plan-clause-served
returns-then-index-plan-clause-served c = ([], sym (append-nil (made_by (shard_of c.args.self.now) c.args.namespace.now c.args.plan.now)), left_for_later)

pub returns-then-has_key-clause-served : goal.returns-then-has_key-clause-served
returns-then-has_key-clause-served c = ([], sym (append-nil (made_by (shard_of c.args.self.now) c.args.namespace.now c.args.plan.now)), left_for_later)

pub returns-then-has_key-clause-first : goal.returns-then-has_key-clause-first
returns-then-has_key-clause-first c = λ none.
    absurd (none_passes _ _ _ (c.has_key.ensures (entries_of c.args.self.now) (last_of c.args.self.now) c.args.namespace.now c.requires.plan) c.if-has_key.true none)

pub push-requires-clause-key : goal.push-requires-clause-key
push-requires-clause-key c =
    sym (c.has_key.ensures (entries_of c.args.self.now) (last_of c.args.self.now) c.args.namespace.now c.requires.plan) ∙ c.if-has_key.false

pub returns-clause-plan : goal.returns-clause-plan
returns-clause-plan c =
    let store = c.args.self.now in
    let name = c.args.namespace.now in
    let plan = c.args.plan.now in
    let e = c.in_ok-key.field-0 in
    let p : Planned = record {
      statement = c.statement_number.result;
      time = record { 0 = plan.last.0 + 1 };
      words = c.in_ok-words.words;
      key = e.key;
      left = e.left;
      outcome = e.outcome;
    } in
    let does : IsEffect (entries_of store) name (operation_of p.words) p.key p.left p.outcome = rw c.in_ok-words.ensures c.in_ok-key.ensures in
    let next = next_from (entries_of store) (last_of store) name p plan.number plan.id c.args.index (omega (arith, c.requires.plan.before)) c.statement_number.ensures does (search rules) in
    c.in_ok-push.ensures.plan (entries_of store) (last_of store) name c.requires.plan next (own_from plan.number plan.id p.statement c.args.index c.statement_number.ensures)

pub returns-clause-served : goal.returns-clause-served
returns-clause-served c =
    let store = c.args.self.now in
    let name = c.args.namespace.now in
    let plan = c.args.plan.now in
    let e = c.in_ok-key.field-0 in
    let p : Planned = record {
      statement = c.statement_number.result;
      time = record { 0 = plan.last.0 + 1 };
      words = c.in_ok-words.words;
      key = e.key;
      left = e.left;
      outcome = e.outcome;
    } in
    let told : EntryResult = record { time = p.time; outcome = c.in_ok-copy.field-0 } in
    let does : IsEffect (entries_of store) name (operation_of p.words) p.key p.left p.outcome = rw c.in_ok-words.ensures c.in_ok-key.ensures in
    let next = next_from (entries_of store) (last_of store) name p plan.number plan.id c.args.index (omega (arith, c.requires.plan.before)) c.statement_number.ensures does (search rules) in
    let pushed = c.in_ok-push.ensures.plan (entries_of store) (last_of store) name c.requires.plan next (own_from plan.number plan.id p.statement c.args.index c.statement_number.ensures) in
    let all : AreNext (entries_of store) (last_of store) name plan.number plan.id (plan.planned.items ++ p ∷ []) =
    subst (λ (l : List Planned). AreNext (entries_of store) (last_of store) name plan.number plan.id l) c.in_ok-push.ensures.planned
    (subst (λ (i : RequestId). AreNext (entries_of store) (last_of store) name plan.number i c.push.new.self.planned.items) c.in_ok-push.ensures.id
    (subst (λ (g : Option ClientNumber). AreNext (entries_of store) (last_of store) name g c.push.new.self.id c.push.new.self.planned.items)
    c.in_ok-push.ensures.number pushed.next)) in (
      entry_view (shard_of store) name p ∷ [],
      ap (λ (l : List Planned). map (entry_view (shard_of store) name) l) c.in_ok-push.ensures.planned
          ∙ map-append (entry_view (shard_of store) name) plan.planned.items (p ∷ []),
      subst
          (λ (t : ℕ). IsServed (shard_of store) name (entries_of store ++ made_by (shard_of store) name plan) (time_of plan)
          (record { number = number_for (given_view plan.number) (id_view plan.id) c.args.index; operation = operation_in c.args.words })
          (Some (done_view c.args.index (WasDone told))) (entry_view (shard_of store) name p ∷ []) t)
          (sym c.in_ok-push.ensures.time)
          (served_next (shard_of store) name (entries_of store) (last_of store) plan.number plan.id plan.planned.items p c.args.index (time_of plan) (operation_in c.args.words) told all
          c.statement_number.ensures refl c.in_ok-words.ensures refl c.in_ok-copy.ensures),
    )
