use Rattle.std.proofs.Common.{◌≤◌, length, rules, subst}
use Rattle.cluster_base.specs.declared.identity.Stmt.{Stmt}
use Rattle.session_book.specs.Books.{room_in}
use Rattle.shard_store.proofs.Facts.{on_ok, same_rooms}
use Rattle.shard_store.proofs.store.ShardStore.reserve.Goals as goal

pub returns-clause-room : goal.returns-clause-room
returns-clause-room c =
    on_ok c.reserve_all.result _ _
    (λ rooms. record {
      versions = same_rooms c.reserve_all.new.self c.as_str.result.now c.args.namespace.now c.deref.result.now c.args.plan.now.planned.items c.as_str.ensures.text c.deref.ensures.value rooms;
      notes = subst (λ (s : Stmt). length c.args.plan.now.planned.items ≤ room_in c.reserve_run.new.self s.session) c.statement_number.ensures (search rules);
    })
    c.reserve_all.ensures.room
