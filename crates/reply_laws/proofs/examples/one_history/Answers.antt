-- Two inserts and a find, at two routers.
use Rattle.std.proofs.Common.{◌≡◌, ◌≤◌, ℕ, inl, inr, List, [], ◌∷◌, refl, sym, ap, subst, codes, arith}
use Rattle.std.specs.Prelude.{true, Some, None}
use Rattle.base_model.specs.SampleReplies.{done_reply, duplicate_reply}
use Rattle.command_laws.specs.SampleRequests.{five, long_five, shown, with_id}
use Rattle.bson_model.specs.Tree.{Fields}
use Rattle.base_model.specs.Times.{timestamp}
use Rattle.command_model.specs.Writes.{WriteCommand, insert_kind}
use Rattle.chunk_model.specs.SampleCollections.{creation}
use Rattle.chunk_model.specs.Changes.{create_change}
use Rattle.history_model.specs.History.{Legal, IsIn, insert_operation, StatementNumber, router_session}
use Rattle.history_model.proofs.Lists.{all_at, in_first, in_later, in_none}
use Rattle.base_model.specs.Identities.{RequestId}
use Rattle.reply_model.specs.Exchanges.{Asked, Answered, number_for}
use Rattle.reply_model.specs.Outcomes.{Done}
use Rattle.reply_model.specs.Accounts.{Given}
use Rattle.reply_model.specs.OneHistory.{AreDifferent, Shows, WasMet, WasSent, WasWanted, IsRightOf, AreRight, nothing_told, then_told, IsKnown, IsPlaced, IsCaused, changes_by}
use Rattle.reply_model.specs.Right.{AreTold, IsPart, IsRight, Sends}
use Rattle.reply_model.specs.Reads.{own_time}
use Rattle.reply_laws.specs.SampleExchanges.{find_of, all_told, all_asked, both_entries, first, first_entry, first_told, id_at, second, second_entry, second_told, tells, third, third_told, created, created_dated, account_of}
use Rattle.reply_laws.proofs.CausedReplies.{by_find, by_write, caused_by, made_by}
use Rattle.reply_laws.proofs.OwnWrites.{none_before, own_right, own_shown, same_write}
use Rattle.command_model.specs.Command.{time_limit}
use Rattle.reply_facts.specs.Earlier.{IsTold}
use Rattle.reply_laws.proofs.Quiet.{quiet}
use Rattle.reply_laws.proofs.NumberedWrites.{told_by_entries, gives_elsewhere}
use Rattle.reply_facts.proofs.Requests.{number_same}
use Rattle.reply_laws.proofs.KeyFinds.{key_find_right_among}
use Rattle.reply_facts.proofs.Freshness.{told_to, told_write}
use Rattle.reply_laws.proofs.examples.one_history.Goals as goal

-- THE WHOLE

abbrev two_moment : Given
two_moment = record { node = 2; moment = 1000000; step = 0 }

abbrev three_moment : Given
three_moment = record { node = 3; moment = 1000000; step = 1 }

abbrev inserts_five : WriteCommand
inserts_five = record { kind = insert_kind; namespace = codes "d.c"; operations = insert_operation (with_id five) ∷ []; ordered = true; number = None }

abbrev inserts_long_five : WriteCommand
inserts_long_five = record {
  kind = insert_kind;
  namespace = codes "d.c";
  operations = insert_operation (with_id long_five) ∷ [];
  ordered = true;
  number = None;
}

abbrev first_sends : Sends first first_entry
first_sends = record {
  write = inserts_five;
  index = 0;
  asks = refl;
  entry = record {
    prefix = [];
    operation = insert_operation (with_id five);
    back = [];
    both = refl;
    at = refl;
    statement = record { same_number = refl; name = refl; does = refl };
  };
}

first_part : IsPart both_entries (id_at 2 1) inserts_five
first_part = (record { same_number = refl; name = refl; does = refl }, (λ e. refl), tt)

second_part : IsPart both_entries (id_at 3 1) inserts_long_five
second_part = (record { same_number = refl; name = refl; does = refl }, (λ e. refl), tt)

another_count : id_at 2 2 ≡ id_at 2 1 → ⊥
another_count e = let counts = ap (λ (id : RequestId). id.count) e in cc

another_router : (a b : ℕ) → id_at 3 a ≡ id_at 2 b → ⊥
another_router a b e = let routers = ap (λ (id : RequestId). id.router) e in cc

first_shown : (t : Answered) → IsIn t all_told → t.id ≡ first.id → Shows (account_of both_entries all_asked all_told) first t inserts_five
first_shown t i own =
    all_at (λ (x : Answered). x.id ≡ first.id → Shows (account_of both_entries all_asked all_told) first x inserts_five) t all_told (
      (λ same. own_shown both_entries all_asked first first_told inserts_five refl all_told (record { part = first_part; all = refl }) (omega arith, tt) refl),
      ((λ same. absurd (another_router 1 1 same)), ((λ same. absurd (another_count same)), tt)),
    ) i own

second_shown : (t : Answered) → IsIn t all_told → t.id ≡ second.id → Shows (account_of both_entries all_asked all_told) second t inserts_long_five
second_shown t i own =
    all_at (λ (x : Answered). x.id ≡ second.id → Shows (account_of both_entries all_asked all_told) second x inserts_long_five) t all_told (
      (λ same. absurd (another_router 1 1 (sym same))),
      (
        (λ same. own_shown both_entries all_asked second second_told inserts_long_five refl all_told (record { part = second_part; all = refl })
            (omega arith, tt) refl),
        ((λ same. absurd (another_router 1 2 (sym same))), tt),
      ),
    ) i own

first_sent : WasSent (account_of both_entries all_asked all_told) first_entry
first_sent = record {
  request = first;
  taken = in_first first (second ∷ third ∷ []);
  sends = first_sends;
  later = omega arith;
  goes_on = λ t i own. (first_shown t i own, λ before. none_before inserts_five (first_shown t i own).dones before);
}

abbrev IsInAll : Asked → Type 0
IsInAll a = IsIn a all_asked

second_taken : IsInAll second
second_taken = in_later second first (second ∷ third ∷ []) (in_first second (third ∷ []))

third_taken : IsInAll third
third_taken = in_later third first (second ∷ third ∷ []) (in_later third second (third ∷ []) (in_first third []))

abbrev second_sends : Sends second second_entry
second_sends = record {
  write = inserts_long_five;
  index = 0;
  asks = refl;
  entry = record {
    prefix = [];
    operation = insert_operation (with_id long_five);
    back = [];
    both = refl;
    at = refl;
    statement = record { same_number = refl; name = refl; does = refl };
  };
}

second_sent : WasSent (account_of both_entries all_asked all_told) second_entry
second_sent = record {
  request = second;
  taken = second_taken;
  sends = second_sends;
  later = omega arith;
  goes_on = λ t i own. (second_shown t i own, λ before. none_before inserts_long_five (second_shown t i own).dones before);
}

first_placed : IsPlaced created first_entry
first_placed = record {
  creation = creation;
  key = five;
  begun = in_first (create_change creation) [];
  name = refl;
  before = omega arith;
  writes = refl;
  owner = refl;
}

second_placed : IsPlaced created second_entry
second_placed = record {
  creation = creation;
  key = long_five;
  begun = in_first (create_change creation) [];
  name = refl;
  before = omega arith;
  writes = refl;
  owner = refl;
}

wanted : WasWanted all_asked (create_change creation)
wanted = record {
  request = first;
  taken = in_first first (second ∷ third ∷ []);
  asks = inl (record { write = inserts_five; asks = refl; name = refl });
  later = omega arith;
}

right_of : (a : Asked) (step counter : ℕ) (document : Fields) → IsIn a all_asked → a.came ≤ step → a.time ≤ timestamp 1000 counter
    → WasMet (account_of both_entries all_asked all_told) (timestamp 1000 counter)
    → IsRight (account_of both_entries all_asked all_told) [] a (tells a step counter document) []
    → IsRightOf (account_of both_entries all_asked all_told) [] (tells a step counter document) []
right_of a step counter document there came risen met right =
    record { request = a; taken = there; own = refl; link = refl; number = refl; same = refl; came = came; risen = risen; met = met; right = right }

met_first : WasMet (account_of both_entries all_asked all_told) (timestamp 1000 2)
met_first = inr (inr (inr (first_entry, in_first first_entry (second_entry ∷ []), omega arith)))

met_second : WasMet (account_of both_entries all_asked all_told) (timestamp 1000 3)
met_second = inr (inr (inr (second_entry, in_later second_entry first_entry (second_entry ∷ []) (in_first second_entry []), omega arith)))

first_right : IsRightOf (account_of both_entries all_asked all_told) [] first_told []
first_right =
    right_of first 3 2 done_reply (in_first first (second ∷ third ∷ [])) (omega arith) (omega arith) met_first
    (own_right both_entries all_asked first first_told inserts_five refl all_told refl refl (record { part = first_part; all = refl }) (omega arith, tt) refl
    (omega arith) refl)

second_right : IsRightOf (account_of both_entries all_asked all_told) [] second_told []
second_right =
    right_of second 5 3 duplicate_reply second_taken (omega arith) (omega arith) met_second
    (own_right both_entries all_asked second second_told inserts_long_five refl all_told refl refl (record { part = second_part; all = refl })
    (omega arith, tt) refl (omega arith) refl)

third_right : IsRightOf (account_of both_entries all_asked all_told) [] third_told []
third_right =
    right_of third 7 2 (shown (with_id five ∷ []) 2) third_taken (omega arith) (omega arith) met_first
    (key_find_right_among both_entries all_asked all_told third third_told long_five None (timestamp 1000 2) (with_id five ∷ []) refl (own_time refl tt) refl
    (omega arith) refl refl)

all_right : AreRight (account_of both_entries all_asked all_told) [] all_told
all_right =
    then_told [] [] first_told (second_told ∷ third_told ∷ []) first_right
    (then_told [] [] second_told (third_told ∷ []) second_right (then_told [] [] third_told [] third_right (nothing_told [])))

-- each router had its moment, and router 2 its own entry after that
first_known : IsKnown (account_of both_entries all_asked all_told) first
first_known = record { moment = refl; time = inr (inl (two_moment, in_first two_moment (three_moment ∷ []), omega arith)); reached = omega arith }

second_known : IsKnown (account_of both_entries all_asked all_told) second
second_known = record {
  moment = refl;
  time = inr (inl (three_moment, in_later three_moment two_moment (three_moment ∷ []) (in_first three_moment []), omega arith));
  reached = omega arith;
}

third_known : IsKnown (account_of both_entries all_asked all_told) third
third_known = record { moment = refl; time = inr (inr (inr (first_entry, in_first first_entry (second_entry ∷ []), omega arith))); reached = omega arith }

-- the collection was created before all replies
all_caused : (t : Answered) → IsIn t all_told → changes_by created_dated t ≡ created → creation.at ≤ t.time → IsCaused (account_of both_entries all_asked all_told) t
all_caused t i same past =
    caused_by (account_of both_entries all_asked all_told) t (
      by_write (account_of both_entries all_asked all_told) first t inserts_five (λ own. first_shown t i (sym own)) (made_by created_dated t same past),
      (
        by_write (account_of both_entries all_asked all_told) second t inserts_long_five (λ own. second_shown t i (sym own))
            (made_by created_dated t same past),
        (by_find (account_of both_entries all_asked all_told) third t (find_of long_five None), tt),
      ),
    )

all_different : AreDifferent (id_at 2 1 ∷ id_at 3 1 ∷ id_at 2 2 ∷ [])
all_different = ((another_router 1 1, (another_count, tt)), (((λ e. another_router 1 2 (sym e)), tt), (tt, tt)))

other_session : first_entry.number ≡ second_entry.number → ⊥
other_session e = let sessions : router_session 2 1 1 ≡ router_session 3 1 1 = ap (λ (n : StatementNumber). n.session) e in cc

shows_two : (time : ℕ) → Some (timestamp 1000 2) ≡ Some time → time ≤ timestamp 1000 2
shows_two time shows = let same : timestamp 1000 2 ≡ time = cc in omega (arith, same)

both_legal : Legal both_entries
both_legal = (
  record { rises = tt; told = refl; once = tt },
  (
    record { rises = (inl (omega arith), tt); told = refl; once = ((λ same. other_session same.number), tt) },
    tt,
  ),
)

pub returns-clause-whole : goal.returns-clause-whole
returns-clause-whole c = record {
  legal = both_legal;
  sent = (first_sent, (second_sent, tt));
  numbers = ((record { apart = λ shard e. other_session (sym e); rises = λ shard e. refl }, tt), (tt, tt));
  reached = ((λ ordered i less. absurd (omega (arith, less))), ((λ ordered i less. absurd (omega (arith, less))), tt));
  placed = (first_placed, (second_placed, tt));
  parts = (
    (λ write asks none. subst (IsPart both_entries (id_at 2 1)) (same_write inserts_five write asks) first_part),
    (
      (λ write asks none. subst (IsPart both_entries (id_at 3 1)) (same_write inserts_long_five write asks) second_part),
      ((λ write asks none. absurd (cc)), tt),
    ),
  );
  wanted = (wanted, tt);
  fitting = (record { later = tt; fits = record { absent = refl; next = refl } }, tt);
  steps = refl;
  caused = (
    all_caused first_told (in_first first_told (second_told ∷ third_told ∷ [])) refl (omega arith),
    (
      all_caused second_told (in_later second_told first_told (second_told ∷ third_told ∷ []) (in_first second_told (third_told ∷ []))) refl (omega arith),
      (
        all_caused third_told
            (in_later third_told first_told (second_told ∷ third_told ∷ []) (in_later third_told second_told (third_told ∷ []) (in_first third_told []))) refl
            (omega arith),
        tt,
      ),
    ),
  );
  right = all_right;
  away = tt;
  one = all_different;
  once = all_different;
  fresh = (
    (
      (λ time router life before shows. omega (arith, before)),
      ((λ time router life before shows. omega (arith, before)), ((λ time router life before shows. omega (arith, before)), tt)),
    ),
    (
      (
        (λ time router life before shows. absurd (cc)),
        ((λ time router life before shows. omega (arith, before)), ((λ time router life before shows. omega (arith, before)), tt)),
      ),
      (
        (
          (λ time router life before shows. shows_two time shows),
          ((λ time router life before shows. absurd (cc)), ((λ time router life before shows. omega (arith, before)), tt)),
        ),
        tt,
      ),
    ),
  );
  order = (
    ((λ router life before. omega arith), ((λ router life before. omega arith), ((λ router life before. omega (arith, before)), tt))),
    (
      ((λ router life before. omega arith), ((λ router life before. omega arith), ((λ router life before. absurd (cc)), tt))),
      (((λ router life before. omega arith), ((λ router life before. omega arith), ((λ router life before. omega arith), tt))), tt),
    ),
  );
  known = (first_known, (second_known, (third_known, tt)));
  anew = refl;
}

-- WHAT IS NONE

free : (a : Asked) → IsInAll a → time_limit a.request ≡ 0
free a i = all_at (λ (x : Asked). time_limit x.request ≡ 0) a all_asked (refl, (refl, (refl, tt))) i

no_sender : (a : Asked) → (id_at 3 1 ≡ a.id → ⊥) → Sends a second_entry → ⊥
no_sender a other sends = other (number_same (id_at 3 1) a.id sends.write.number 0 sends.index sends.entry.statement.same_number)

pub returns-clause-nobody_sent : goal.returns-clause-nobody_sent
returns-clause-nobody_sent c one =
    let s = one.sent.1.0 in
    all_at (λ (a : Asked). Sends a second_entry → ⊥) s.request (first ∷ third ∷ [])
    (no_sender first (another_router 1 1), (no_sender third (another_router 1 2), tt)) s.taken s.sends

pub returns-clause-lost : goal.returns-clause-lost
returns-clause-lost c one =
    let told = told_write (account_of [] all_asked all_told) one first_told inserts_five (in_first first_told (second_told ∷ third_told ∷ [])) refl in
    no_first told.request told.is told.tells.dones told.tells.tells
  where
    no_first : (a : Asked) → IsTold all_asked all_told a first_told → (dones : List Done)
        → AreTold (account_of [] all_asked all_told) a first_told inserts_five 0 inserts_five.operations dones → ⊥
    no_first a is [] told = told
    no_first a is (d ∷ dones) told =
        told_by_entries (account_of [] all_asked all_told) a first_told (quiet [] all_asked all_told a first_told (free a is.taken)) None (number_for None first_told.id 0) (codes "d.c") (insert_operation (with_id five))
        (λ x. ⊥) d.answer tt told.1

pub returns-clause-lost_duplicate : goal.returns-clause-lost_duplicate
returns-clause-lost_duplicate c one =
    let told = told_write (account_of (first_entry ∷ []) all_asked all_told) one second_told inserts_long_five
    (in_later second_told first_told (second_told ∷ third_told ∷ []) (in_first second_told (third_told ∷ []))) refl in
    no_first told.request told.is told.tells.dones told.tells.tells
  where
    other_session_of : router_session 2 1 1 ≡ router_session 3 1 1 → ⊥
    other_session_of same = cc

    no_first : (a : Asked) → IsTold all_asked all_told a second_told → (dones : List Done)
        → AreTold (account_of (first_entry ∷ []) all_asked all_told) a second_told inserts_long_five 0 inserts_long_five.operations dones → ⊥
    no_first a is [] told = told
    no_first a is (d ∷ dones) told =
        told_by_entries (account_of (first_entry ∷ []) all_asked all_told) a second_told
        (quiet (first_entry ∷ []) all_asked all_told a second_told (free a is.taken)) None (number_for None second_told.id 0) (codes "d.c")
        (insert_operation (with_id long_five)) (λ x. ⊥) d.answer
        (gives_elsewhere all_asked second_told (number_for None second_told.id 0) (λ x. ⊥) first_entry (λ same. other_session_of same), tt) told.1

pub returns-clause-not_asked : goal.returns-clause-not_asked
returns-clause-not_asked c one =
    let there = in_later third_told first_told (second_told ∷ third_told ∷ []) (in_later third_told second_told (third_told ∷ []) (in_first third_told [])) in
    let r = told_to (account_of both_entries (first ∷ second ∷ []) all_told) one third_told there in
    all_at (λ (a : Asked). a.id ≡ id_at 2 2 → ⊥) r.request (first ∷ second ∷ [])
    ((λ own. another_count (sym own)), ((λ own. another_router 1 2 own), tt)) r.is.taken r.is.own

pub returns-clause-not_begun : goal.returns-clause-not_begun
returns-clause-not_begun c one = in_none (create_change one.placed.0.creation) one.placed.0.begun
