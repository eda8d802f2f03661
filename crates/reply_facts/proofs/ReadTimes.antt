-- The times that reads return.
use Rattle.std.proofs.Common.{◌≡◌, ℕ, ◌≤◌, ◌⊎◌, inl, inr, List, refl, sym, ap, subst, ◌∙◌, arith}
use Rattle.std.specs.Prelude.{Option, Some, None, Result, Ok, Err}
use Rattle.bson_model.specs.Tree.{Fields}
use Rattle.base_model.specs.Errors.{overflow, query_exceeded_memory}
use Rattle.base_model.specs.Refusals.{Refusal, bytes_evidence, time_ahead, without_evidence}
use Rattle.base_model.specs.ReplyParts.{operation_time}
use Rattle.command_model.specs.Writes.{WriteKind, insert_kind, update_kind, delete_kind}
use Rattle.command_model.specs.Reading.{Reading}
use Rattle.command_model.specs.Cursors.{Batch}
use Rattle.command_model.specs.Command.{Command, hello_command, legacy_command, ping_command, end_sessions_command, write_command, find_command, count_command, more_command, kill_command, shard_collection_command, split_command, command_of}
use Rattle.command_model.specs.Answers.{first_answer, count_answer, refusal_answer, answer_document}
use Rattle.command_model.proofs.AnswerTimes.{time_refused}
use Rattle.reply_facts.proofs.ToldRefusals.{never_ahead}
use Rattle.reply_model.specs.Exchanges.{Asked, Answered}
use Rattle.reply_model.specs.Accounts.{Lack, no_memory, no_steps, Account}
use Rattle.reply_model.specs.Outcomes.{stale_refusal, lack_refusal, Done, answer_of}
use Rattle.reply_model.specs.Cursors.{Cursor}
use Rattle.reply_model.specs.Reads.{IsTimeRead, named_time, own_time, later_time, IfReached, IsAhead, time_wanted}
use Rattle.reply_model.specs.Right.{IsGivenUp, given_up_late, given_up_lacking, Reads, find_reads, count_reads, IsReadRefused, refused_overflow, refused_excess, refused_ahead, IsRight}
use Rattle.reply_facts.proofs.RightAnswers.{TellsGivenUp, IsNotRead, not_read, not_tried, not_finished, RightBy, right_by}

-- a read that names no time is of none before its router's
pub not_before : (a : Asked) (t : Answered) (reading : Reading) (time : ℕ) → IsTimeRead a t reading time → reading.at ≡ None → a.time ≤ time
not_before a t reading time (named_time named at risen) none = absurd (let both : None ≡ Some named = sym none ∙ at in cc)
not_before a t reading time (own_time at reached) none = omega arith
not_before a t reading time (later_time later after at wants less reached risen) none = omega arith

-- nor before the one that it is to reach
pub not_before_after : (a : Asked) (t : Answered) (reading : Reading) (time after : ℕ) → IsTimeRead a t reading time → reading.at ≡ None → reading.after
    ≡ Some after
    → after ≤ time
not_before_after a t reading time after (named_time named at risen) none wants = absurd (let both : None ≡ Some named = sym none ∙ at in cc)
not_before_after a t reading time after (own_time at reached) none wants = subst (λ (o : Option ℕ). IfReached o a.time) wants reached
not_before_after a t reading time after (later_time later other at are less reached risen) none wants =
    let same : other ≡ after = (let both : Some other ≡ Some after = sym are ∙ wants in cc) in
    omega (arith, same)

module _ (account : Account) (cursors : List Cursor) (a : Asked)
    (t : Answered) where
  -- a read that is refused shows no time
  timeless : (reading : Reading) (now : ℕ) → IsReadRefused account a t reading → operation_time (Some t.document) ≡ Some now → ⊥
  timeless reading now (refused_overflow time read gives says) shown = none_shown (without_evidence overflow) says
    where
      none_shown : (refusal : Refusal) → t.document ≡ answer_document (refusal_answer refusal) → ⊥
      none_shown refusal says = let both : None ≡ Some now = sym (time_refused refusal) ∙ ap (λ (d : Fields). operation_time (Some d)) (sym says) ∙ shown in cc
  timeless reading now (refused_excess time n read excess says) shown =
      let both : None ≡ Some now = sym (time_refused (record { error = query_exceeded_memory; evidence = bytes_evidence n }))
      ∙ ap (λ (d : Fields). operation_time (Some d)) (sym says) ∙ shown in cc
  timeless reading now (refused_ahead ahead says) shown =
      let both : None ≡ Some now = sym (time_refused (time_ahead t.time)) ∙ ap (λ (d : Fields). operation_time (Some d)) (sym says) ∙ shown in cc

  untimed : (reading : Reading) (now : ℕ) → IsNotRead account cursors a t reading → operation_time (Some t.document) ≡ Some now → ⊥
  untimed reading now (not_read refused) shown = timeless reading now refused shown
  untimed reading now (not_tried stale) shown =
      let both : None ≡ Some now = sym (time_refused (stale_refusal stale.tries)) ∙ ap (λ (d : Fields). operation_time (Some d)) (sym stale.says) ∙ shown in cc
  untimed reading now (not_finished tells) shown =
      let both : None ≡ Some now = sym (time_refused tells.refusal) ∙ ap (λ (d : Fields). operation_time (Some d)) (sym tells.says) ∙ shown in cc

  shown_by : (r : Result Command Refusal) (next : List Cursor) (reading : Reading) (now : ℕ) → Reads r reading
      → RightBy account cursors a t r next
      → operation_time (Some t.document) ≡ Some now → IsTimeRead a t reading now
  shown_by r next reading now (find_reads find) (inl first) shown =
      let both : Some first.batch.time ≡ Some now = ap (λ (d : Fields). operation_time (Some d)) (sym first.says) ∙ shown in
      let same : first.batch.time ≡ now = cc in
      subst (λ n. IsTimeRead a t find.reading n) same first.time
  shown_by r next reading now (find_reads find) (inr refused) shown = absurd (untimed find.reading now refused.0 shown)
  shown_by r next reading now (count_reads other) (inl counted, same) shown =
      let both : Some counted.time ≡ Some now = ap (λ (d : Fields). operation_time (Some d)) (sym counted.says) ∙ shown in
      let one : counted.time ≡ now = cc in
      subst (λ n. IsTimeRead a t other n) one counted.read
  shown_by r next reading now (count_reads other) (inr refused, same) shown = absurd (untimed other now refused shown)

  -- the time that an answer to a read shows is one that the read may be of
  pub shown_time : (next : List Cursor) (reading : Reading) (now : ℕ) → Reads (command_of a.request) reading
      → IsRight account cursors a t next
      → operation_time (Some t.document) ≡ Some now → IsTimeRead a t reading now
  shown_time next reading now asks right shown =
      shown_by (command_of a.request) next reading now asks (right_by account cursors a t next right) shown

  -- A TIME THAT IS AHEAD

  write_not_ahead : (kind : WriteKind) (dones : List Done) (s : ℕ)
      → answer_document (answer_of kind t.time dones) ≡ answer_document (refusal_answer (time_ahead s)) → ⊥
  write_not_ahead insert_kind dones s same = cc
  write_not_ahead update_kind dones s same = cc
  write_not_ahead delete_kind dones s same = cc

  refused_so : (reading : Reading) (s : ℕ) → IsReadRefused account a t reading → t.document
      ≡ answer_document (refusal_answer (time_ahead s))
      → (s ≡ t.time) × IsAhead account a t reading
  refused_so reading s (refused_overflow time read gives says) told = absurd (let e = sym says ∙ told in cc)
  refused_so reading s (refused_excess time n read excess says) told = absurd (let e = sym says ∙ told in cc)
  refused_so reading s (refused_ahead ahead says) told =
      (let e : answer_document (refusal_answer (time_ahead t.time)) ≡ answer_document (refusal_answer (time_ahead s)) = sym says ∙ told in cc, ahead)

  lack_not_ahead : (node : ℕ) (lack : Lack) (s : ℕ) → answer_document (refusal_answer (lack_refusal node lack))
      ≡ answer_document (refusal_answer (time_ahead s)) → ⊥
  lack_not_ahead node no_memory s same = cc
  lack_not_ahead node (no_steps steps) s same = cc

  given_up_not_ahead : (refusal : Refusal) (s : ℕ) → IsGivenUp account a t refusal → answer_document (refusal_answer refusal)
      ≡ answer_document (refusal_answer (time_ahead s)) → ⊥
  given_up_not_ahead _ s (given_up_late now is) same = cc
  given_up_not_ahead _ s (given_up_lacking node lack was) same = lack_not_ahead node lack s same

  not_ahead : (tells : TellsGivenUp account cursors a t) (s : ℕ) → t.document ≡ answer_document (refusal_answer (time_ahead s)) → ⊥
  not_ahead tells s told = given_up_not_ahead tells.refusal s tells.why (sym tells.says ∙ told)

  unread_so : (reading : Reading) (s : ℕ) → IsNotRead account cursors a t reading → t.document ≡ answer_document (refusal_answer (time_ahead s))
      → (s ≡ t.time) × IsAhead account a t reading
  unread_so reading s (not_read refused) told = refused_so reading s refused told
  unread_so reading s (not_tried stale) told = absurd (let e = sym stale.says ∙ told in cc)
  unread_so reading s (not_finished tells) told = absurd (not_ahead tells s told)

  first_not_ahead : (batch : Batch) (s : ℕ) → answer_document (first_answer batch) ≡ answer_document (refusal_answer (time_ahead s)) → ⊥
  first_not_ahead batch s same = cc

  count_not_ahead : (n time s : ℕ) → answer_document (count_answer n time) ≡ answer_document (refusal_answer (time_ahead s)) → ⊥
  count_not_ahead n time s same = cc

  ahead_by : (r : Result Command Refusal) (next : List Cursor) (s : ℕ) → command_of a.request ≡ r → RightBy account cursors a t r next
      → t.document ≡ answer_document (refusal_answer (time_ahead s)) → s ≡ t.time
  ahead_by (Ok hello_command) next s asks right told = absurd (let e = sym right.0 ∙ told in cc)
  ahead_by (Ok (legacy_command legacy)) next s asks right told = absurd (let e = sym right.0 ∙ told in cc)
  ahead_by (Ok ping_command) next s asks right told = absurd (let e = sym right.0 ∙ told in cc)
  ahead_by (Ok end_sessions_command) next s asks right told = absurd (let e = sym right.0 ∙ told in cc)
  ahead_by (Ok (write_command write)) next s asks right told = absurd (write_not_ahead write.kind right.0.dones s (sym right.0.says ∙ told))
  ahead_by (Ok (find_command find)) next s asks (inl first) told = absurd (first_not_ahead first.batch s (sym first.says ∙ told))
  ahead_by (Ok (find_command find)) next s asks (inr refused) told = (unread_so find.reading s refused.0 told).0
  ahead_by (Ok (count_command reading)) next s asks (inl counted, same) told = absurd (count_not_ahead counted.number counted.time s (sym counted.says ∙ told))
  ahead_by (Ok (count_command reading)) next s asks (inr refused, same) told = (unread_so reading s refused told).0
  ahead_by (Ok (more_command more)) next s asks (inl shown) told = absurd (let e = sym shown.says ∙ told in cc)
  ahead_by (Ok (more_command more)) next s asks (inr none) told = absurd (let e = sym none.0.says ∙ told in cc)
  ahead_by (Ok (kill_command kill)) next s asks right told = absurd (let e = sym right.says ∙ told in cc)
  ahead_by (Ok (shard_collection_command namespace)) next s asks (inl sharded, same) told = absurd (let e = sym sharded.says ∙ told in cc)
  ahead_by (Ok (shard_collection_command namespace)) next s asks (inr tells, same) told = absurd (not_ahead tells s told)
  ahead_by (Ok (split_command split)) next s asks (inl changed, same) told = absurd (let e = sym changed.says ∙ told in cc)
  ahead_by (Ok (split_command split)) next s asks (inr (inl none), same) told = absurd (let e = sym none ∙ told in cc)
  ahead_by (Ok (split_command split)) next s asks (inr (inr tells), same) told = absurd (not_ahead tells s told)
  ahead_by (Err refusal) next s asks right told = absurd (never_ahead a.request refusal s asks (sym right.0 ∙ told))

  -- a greatest time that is returned is the router's
  pub ahead_time : (next : List Cursor) (s : ℕ) → IsRight account cursors a t next
      → t.document ≡ answer_document (refusal_answer (time_ahead s))
      → s ≡ t.time
  ahead_time next s right told = ahead_by (command_of a.request) next s refl (right_by account cursors a t next right) told

  read_ahead_by : (r : Result Command Refusal) (next : List Cursor) (reading : Reading) (s : ℕ) → Reads r reading
      → RightBy account cursors a t r next
      → t.document ≡ answer_document (refusal_answer (time_ahead s)) → IsAhead account a t reading
  read_ahead_by r next reading s (find_reads find) (inl first) told = absurd (first_not_ahead first.batch s (sym first.says ∙ told))
  read_ahead_by r next reading s (find_reads find) (inr refused) told = (unread_so find.reading s refused.0 told).1
  read_ahead_by r next reading s (count_reads other) (inl counted, same) told = absurd (count_not_ahead counted.number counted.time s (sym counted.says ∙ told))
  read_ahead_by r next reading s (count_reads other) (inr refused, same) told = (unread_so other s refused told).1

  -- a read that returns one is ahead
  pub is_ahead : (next : List Cursor) (reading : Reading) (s : ℕ) → Reads (command_of a.request) reading
      → IsRight account cursors a t next
      → t.document ≡ answer_document (refusal_answer (time_ahead s)) → IsAhead account a t reading
  is_ahead next reading s asks right told =
      read_ahead_by (command_of a.request) next reading s asks (right_by account cursors a t next right) told

-- the time that is wanted
pub wanted_is : (reading : Reading) (wanted time : ℕ) → time_wanted reading ≡ Some wanted → (reading.at ≡ Some time)
    ⊎ ((reading.at ≡ None) × (reading.after ≡ Some time))
    → wanted ≡ time
wanted_is reading wanted time is (inl at) =
    let both : Some wanted ≡ Some time = sym is ∙ ap (λ (o : Option ℕ). elim o as
    (λ (p : Option ℕ). Option ℕ) [ None ↦ reading.after | Some named ↦ Some named ]) at in cc
wanted_is reading wanted time is (inr after) =
    let both : Some wanted ≡ Some time = sym is ∙ ap (λ (o : Option ℕ). elim o as
    (λ (p : Option ℕ). Option ℕ) [ None ↦ reading.after | Some named ↦ Some named ]) after.0 ∙ after.1 in cc
