use Rattle.std.proofs.Common.{◌≡◌, ◌≤◌, ◌+◌, ◌++◌, ◌∷◌, ℕ, List, [], length, sym, ap, subst, ◌∙◌, append_assoc, arith}
use Rattle.std.specs.Prelude.{Bool, map, if◌then◌else◌}
use Rattle.std.specs.List.{AllByRecursion}
use Rattle.std.specs.Vec.Iter.{into_iter_items}
use Rattle.cluster_base.specs.declared.identity.Session.{Session}
use Rattle.cluster_base.specs.declared.identity.Stmt.{Stmt}
use Rattle.session_book.specs.Books.{room_in}
use Rattle.history_model.proofs.Lists.{all_both}
use Rattle.node_model.specs.History.{Entry}
use Rattle.shard_store.proofs.Following.{next_on}
use Rattle.shard_store.proofs.Seen.{sessions_same}
use Rattle.shard_store.specs.Collections.{room_under}
use Rattle.shard_store.specs.Entries.{entry_view}
use Rattle.shard_store.specs.Outcomes.{statement_of}
use Rattle.shard_store.specs.Plans.{AreNext, IsBehind, IsOf}
use Rattle.shard_store.specs.Stores.{entries_of, last_of, shard_of}
use Rattle.shard_store.specs.declared.entry.Planned.{Planned}
use Rattle.shard_store.proofs.store.ShardStore.commit.Goals as goal

pub loop-planned-preserved : goal.loop-planned-preserved
loop-planned-preserved c =
    let at = c.loop-planned in
    let was = at.invariant in
    let p = c.in-Some.planned in
    let name = c.args.namespace.now in
    let given = c.args.plan.number in
    let id = c.args.plan.id in
    let rest = into_iter_items c.next.new.self in
    let entry = entry_view (shard_of at.self) name p in
    let steps : into_iter_items at.planned-iterator ≡ p ∷ rest = c.in-Some.ensures.steps.0 in
    let next : AreNext (entries_of at.self) (last_of at.self) name given id (p ∷ rest) =
    subst (λ (l : List Planned). AreNext (entries_of at.self) (last_of at.self) name given id l) steps was.next in
    let past : AllByRecursion (λ (q : Planned). q.time.0 ≤ c.args.plan.last.0) (p ∷ rest) =
    subst (λ (l : List Planned). AllByRecursion (λ (q : Planned). q.time.0 ≤ c.args.plan.last.0) l) steps was.past in
    let versions : AllByRecursion (λ (q : Planned). 1 ≤ room_under at.self.collections name q.key) (p ∷ rest) =
    subst (λ (l : List Planned). AllByRecursion (λ (q : Planned). 1 ≤ room_under at.self.collections name q.key) l) steps was.versions in
    let after : AreNext (entries_of c.enter.new.self) (last_of c.enter.new.self) name given id rest =
    subst (λ (l : List Entry). AreNext l (last_of c.enter.new.self) name given id rest) (sym c.enter.ensures.entries)
    (subst (λ (t : ℕ). AreNext (entries_of at.self ++ entry ∷ []) t name given id rest) (sym c.enter.ensures.last)
    (next_on (shard_of at.self) name (entries_of at.self) (last_of at.self) given id p rest next)) in
    record {
      len =
          let long = was.len in
          let gone = c.in-Some.ensures.steps.1 in
          let short = ap length steps in
          omega arith;
      next = after;
      whole =
          ap (λ (l : List Entry). l ++ map (entry_view (shard_of c.enter.new.self) name) rest) c.enter.ensures.entries
          ∙ ap (λ (s : ℕ). (entries_of at.self ++ entry ∷ []) ++ map (entry_view s name) rest) c.enter.ensures.shard
          ∙ append_assoc (entries_of at.self) (entry ∷ []) (map (entry_view (shard_of at.self) name) rest)
          ∙ ap (λ (l : List Planned). entries_of at.self ++ map (entry_view (shard_of at.self) name) l) (sym steps)
          ∙ was.whole;
      last = omega (arith, c.enter.ensures.last, past.0);
      past = past.1;
      shard = c.enter.ensures.shard ∙ was.shard;
      versions = all_both (λ (q : Planned). 1 ≤ room_under at.self.collections name q.key) (IsBehind p)
          (λ (q : Planned). 1 ≤ room_under c.enter.new.self.collections name q.key) rest
          (λ q one behind.
          let kept : room_under at.self.collections name q.key ≤ room_under c.enter.new.self.collections name q.key + 0 =
          subst (λ (b : Bool). room_under at.self.collections name q.key ≤ room_under c.enter.new.self.collections name q.key + (if b then 1 else 0))
          behind.key (c.enter.ensures.versions q.key) in
          omega (arith, one, kept)) versions.1 next.turn.0;
      notes =
          let short = ap length steps in
          let left = was.notes in
          let one = c.enter.ensures.notes (statement_of given id 0).session in
          omega arith;
    }

pub enter-requires-clause-note : goal.enter-requires-clause-note
enter-requires-clause-note c =
    let was = c.loop-planned.invariant in
    let p = c.in-Some.planned in
    let given = c.args.plan.number in
    let id = c.args.plan.id in
    let steps : into_iter_items c.loop-planned.planned-iterator ≡ p ∷ into_iter_items c.next.new.self = c.in-Some.ensures.steps.0 in
    let own : AllByRecursion (IsOf given id) (p ∷ into_iter_items c.next.new.self) =
    subst (λ (l : List Planned). AllByRecursion (IsOf given id) l) steps was.next.own in
    let session : (statement_of given id 0).session ≡ p.statement.session =
    sessions_same given id 0 p.statement.index ∙ sym (ap (λ (s : Stmt). s.session) own.0) in
    let left = was.notes in
    let some = ap length steps in
    subst (λ (s : Session). 1 ≤ room_in c.loop-planned.self.book s) session (omega arith)
