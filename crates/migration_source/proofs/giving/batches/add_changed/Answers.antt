-- One key more; the walk ends at one that finds no room, or after the last.
use Rattle.std.proofs.Common.{◌≡◌, ◌∙◌, ◌++◌, ap, sym, subst}
use Rattle.std.specs.Prelude.{List}
use Rattle.mvcc_collection.specs.Present.{rows_of}
use Rattle.move_model.specs.Batches.{fitting}
use Rattle.migration_source.specs.Changed.{changed_among}
use Rattle.migration_source.specs.Filled.{members_in}
use Rattle.migration_source.proofs.Changes.{Entries}
use Rattle.migration_source.specs.Fills.{members_under}
use Rattle.migration_source.proofs.Fills.{Adds, adds_all, adds_next, adds_none, adds_stop}
use Rattle.migration_source.proofs.giving.batches.add_changed.Goals as goal

pub loop-key-preserved : goal.loop-key-preserved
loop-key-preserved c =
    let rows = rows_of c.args.c.now in
    let old = members_in c.args.filling.now in
    let now = members_in c.loop-key.filling in
    let all = changed_among c.into_iter-key-iterator.result in
    let adds = subst (λ (l : Entries). Adds rows old now all (changed_among l)) c.in-Some.ensures.steps c.loop-key.invariant in
    adds_next rows old now (members_in c.add_if.new.filling) all c.in-Some.key.now c.in-Some.changed.now c.next.new.self
    (c.in_ok-found.ensures.added c.if-not-found.false) adds

pub returns-then-not-found-clause-more : goal.returns-then-not-found-clause-more
returns-then-not-found-clause-more c =
    let rows = rows_of c.args.c.now in
    let old = members_in c.args.filling.now in
    let now = members_in c.loop-key.filling in
    let all = changed_among c.into_iter-key-iterator.result in
    let adds = subst (λ (l : Entries). Adds rows old now all (changed_among l)) c.in-Some.ensures.steps c.loop-key.invariant in
    (adds.found, (c.in_ok-found.ensures.full c.if-not-found.true).1 ∙ adds.grown)

pub returns-then-not-found-clause-fit : goal.returns-then-not-found-clause-fit
returns-then-not-found-clause-fit c =
    let rows = rows_of c.args.c.now in
    let old = members_in c.args.filling.now in
    let now = members_in c.loop-key.filling in
    let all = changed_among c.into_iter-key-iterator.result in
    let adds = subst (λ (l : Entries). Adds rows old now all (changed_among l)) c.in-Some.ensures.steps c.loop-key.invariant in
    let full = c.in_ok-found.ensures.full c.if-not-found.true in
    let given = c.into_iter-key-iterator.ensures.into_iter_gives ∙ c.iter-key-items.ensures.rest in
    ap (λ (l : Entries). fitting 0 0 (old ++ members_under rows (changed_among l))) (sym given)
    ∙ adds_stop rows old now all c.in-Some.key.now c.in-Some.changed.now c.next.new.self c.loop-key.filling.fit full.0 full.2 adds ∙ sym full.1

pub loop-key-init : goal.loop-key-init
loop-key-init c = adds_none _ _ _

pub returns-clause-more : goal.returns-clause-more
returns-clause-more c = (c.loop-key.invariant.found, c.loop-key.invariant.grown)

pub returns-clause-fit : goal.returns-clause-fit
returns-clause-fit c =
    let rows = rows_of c.args.c.now in
    let old = members_in c.args.filling.now in
    let now = members_in c.loop-key.filling in
    let all = changed_among c.into_iter-key-iterator.result in
    let adds = subst (λ (l : Entries). Adds rows old now all (changed_among l)) c.in-None.ensures.steps.0 c.loop-key.invariant in
    let given = c.into_iter-key-iterator.ensures.into_iter_gives ∙ c.iter-key-items.ensures.rest in
    ap (λ (l : Entries). fitting 0 0 (old ++ members_under rows (changed_among l))) (sym given) ∙ adds_all rows old now all c.loop-key.filling.fit adds
