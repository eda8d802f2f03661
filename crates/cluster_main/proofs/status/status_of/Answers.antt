use Rattle.std.proofs.Common.{◌≡◌, sym, refl, ap, subst, inl, inr, append-nil}
use Rattle.std.specs.Prelude.{None, IsOkAnd, IsSome}
use Rattle.outside.specs.Devices.{sink_call, source_call}
use Rattle.cluster_service.specs.Arguments.{command_of, node_count_of}
use Rattle.cluster_main.specs.Disks.{command_in}
use Rattle.cluster_main.proofs.Unstarted.{as_they_were, if_some, none_unless, port_last, port_or}
use Rattle.cluster_main.proofs.status.status_of.Goals as goal

pub returns-in-Err-Unreadable-clause-disks : goal.returns-in-Err-Unreadable-clause-disks
returns-in-Err-Unreadable-clause-disks g c =
    let never : ¬ IsOkAnd c.args.words (λ given. IsSome (node_count_of given.items)) = rw c.in-Err-Unreadable.is (λ started. absurd started) in
    let unread : command_in c.args.words (λ given. given.items) ≡ None = rw c.in-Err-Unreadable.is refl in (
      0,
      rw c.unstarted.ensures.disks (as_they_were _ _ _ (source_call g.S.Source.tells g.S.Source.left g.S.Source.fault_count c.args.input.now c.args.input.now) (sink_call g.K.Sink.tells g.K.Sink.held g.K.Sink.fault_count c.args.out.now c.args.out.now) _ _ _ _ c.args.disks.items never unread (λ told. refl, refl) (λ told. sym (append-nil (g.K.Sink.held c.args.out.now)), refl) (inl c.unstarted.ensures.status)),
    )

pub returns-in-Err-Memory-clause-disks : goal.returns-in-Err-Memory-clause-disks
returns-in-Err-Memory-clause-disks g c =
    let never : ¬ IsOkAnd c.args.words (λ given. IsSome (node_count_of given.items)) = rw c.in-Err-Memory.is (λ started. absurd started) in
    let unread : command_in c.args.words (λ given. given.items) ≡ None = rw c.in-Err-Memory.is refl in (
      0,
      rw c.unstarted-in-Err-Memory.ensures.disks (as_they_were _ _ _ (source_call g.S.Source.tells g.S.Source.left g.S.Source.fault_count c.args.input.now c.args.input.now) (sink_call g.K.Sink.tells g.K.Sink.held g.K.Sink.fault_count c.args.out.now c.args.out.now) _ _ _ _ c.args.disks.items never unread (λ told. refl, refl) (λ told. sym (append-nil (g.K.Sink.held c.args.out.now)), refl) (inr c.unstarted-in-Err-Memory.ensures.status)),
    )

pub returns-clause-disks : goal.returns-clause-disks
returns-clause-disks g c =
    let count = node_count_of c.deref.result.now in
    let e = c.run-ended.ensures in
    let same : IsOkAnd c.args.words (λ given. IsSome (node_count_of given.items)) ≡ IsSome count = rw c.in-Ok.is (rw c.deref.ensures.value refl) in
    let read : command_in c.args.words (λ given. given.items) ≡ command_of c.deref.result.now = rw c.in-Ok.is (rw c.deref.ensures.value refl) in
    let starts : IsOkAnd c.args.words (λ given. IsSome (node_count_of given.items)) → IsSome count = λ started. subst (λ (T : Type 0). T) same started in
    let back : IsSome count → IsOkAnd c.args.words (λ given. IsSome (node_count_of given.items)) = λ some. subst (λ (T : Type 0). T) (sym same) some in (
      c.run-ended.result.rest,
      record {
        places = e.places;
        disk_fault = e.disk_fault;
        none_fell = e.none_fell;
        unstarted = λ never.
            let two = e.words.1 (none_unless count (λ some. never (back some))) in
            let rest = e.untouched (inl two) in
            (ap (λ ds. ds.items) (e.arguments two), rest.0, rest.1, rest.2);
        untouched = λ is. (e.untouched is).0;
        six = rw read e.six;
        refused =
            rw read (if_some (command_of c.deref.result.now) _ _ e.refused (λ command all told bad.
            let done = all told bad in
            (port_or _ _ _ _ (λ same. ap (λ ds. ds.items) same) done.0, done.1)));
        headline = rw read e.headline;
        durable = λ started told failed. port_last _ _ _ _ _ (λ all. ap (λ ds. ds.items) all) (e.durable (starts started) told failed);
      },
    )

pub returns-clause-server : goal.returns-clause-server
returns-clause-server g c =
    let read : command_in c.args.words (λ given. given.items) ≡ command_of c.deref.result.now = rw c.in-Ok.is (rw c.deref.ensures.value refl) in
    rw read (if_some (command_of c.deref.result.now) _ _ c.run-ended.ensures.server (λ command both is. let all = both is in (all.0, all.1)))

pub returns-clause-served : goal.returns-clause-served
returns-clause-served g c =
    let read : command_in c.args.words (λ given. given.items) ≡ command_of c.deref.result.now = rw c.in-Ok.is (rw c.deref.ensures.value refl) in
    rw read c.run-ended.ensures.served

pub returns-in-Err-Unreadable-clause-server : goal.returns-in-Err-Unreadable-clause-server
returns-in-Err-Unreadable-clause-server g c = rw c.in-Err-Unreadable.is tt

pub returns-in-Err-Unreadable-clause-served : goal.returns-in-Err-Unreadable-clause-served
returns-in-Err-Unreadable-clause-served g c = rw c.in-Err-Unreadable.is tt

pub returns-in-Err-Memory-clause-server : goal.returns-in-Err-Memory-clause-server
returns-in-Err-Memory-clause-server g c = rw c.in-Err-Memory.is tt

pub returns-in-Err-Memory-clause-served : goal.returns-in-Err-Memory-clause-served
returns-in-Err-Memory-clause-served g c = rw c.in-Err-Memory.is tt

pub returns-clause-words : goal.returns-clause-words
returns-clause-words g c = rw c.in-Ok.is (rw c.deref.ensures.value at c.run-ended.ensures.words)
