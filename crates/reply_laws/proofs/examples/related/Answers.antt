-- By their numbers and times.
use Rattle.std.proofs.Common.{◌<◌, inl, inr, [], ◌∷◌, refl, ap, codes, arith}
use Rattle.std.specs.Prelude.{true, None}
use Rattle.command_laws.specs.SampleRequests.{five, long_five, with_id}
use Rattle.chunk_model.specs.SampleCollections.{creation}
use Rattle.chunk_model.specs.Changes.{Change, create_change, time_of}
use Rattle.command_model.specs.Writes.{insert_kind}
use Rattle.history_model.specs.History.{insert_operation}
use Rattle.history_model.proofs.Lists.{all_at, in_first, in_none}
use Rattle.base_model.specs.Identities.{RequestId}
use Rattle.reply_model.specs.Exchanges.{Asked}
use Rattle.reply_model.specs.Right.{Sends}
use Rattle.reply_model.specs.OneHistory.{AsksFor, IsPlaced, WasWanted}
use Rattle.reply_laws.specs.SampleExchanges.{all_asked, id_at, first, first_entry, second, second_entry, third, created, created_late}
use Rattle.reply_facts.proofs.Requests.{number_same}
use Rattle.reply_laws.proofs.examples.related.Goals as goal

own : Sends first first_entry
own = record {
  write = record { kind = insert_kind; namespace = codes "d.c"; operations = insert_operation (with_id five) ∷ []; ordered = true; number = None };
  index = 0;
  asks = refl;
  entry = record {
    prefix = [];
    operation = insert_operation (with_id five);
    back = [];
    both = refl;
    at = refl;
    statement = record { same_number = refl; name = refl; does = refl };
  };
}

another_router : Sends second first_entry → ⊥
another_router sends =
    let ids = number_same (id_at 2 1) second.id sends.write.number 0 sends.index sends.entry.statement.same_number in
    let routers = ap (λ (id : RequestId). id.router) ids in cc

pub returns-clause-own : goal.returns-clause-own
returns-clause-own c = (own, another_router)

placed : IsPlaced created second_entry
placed = record {
  creation = creation;
  key = long_five;
  begun = in_first (create_change creation) [];
  name = refl;
  before = omega arith;
  writes = refl;
  owner = refl;
}

unplaced : IsPlaced [] second_entry → ⊥
unplaced is = in_none (create_change is.creation) is.begun

pub returns-clause-placed : goal.returns-clause-placed
returns-clause-placed c = (placed, unplaced)

pub returns-clause-before_collection : goal.returns-clause-before_collection
returns-clause-before_collection c is = all_at (λ (x : Change). time_of x < second_entry.time → ⊥) (create_change is.creation) created_late
    ((λ less. omega (arith, less)), tt) is.begun is.before

wanted : WasWanted all_asked (create_change creation)
wanted = record {
  request = first;
  taken = in_first first (second ∷ third ∷ []);
  asks = inl (record {
    write = record {
      kind = insert_kind;
      namespace = codes "d.c";
      operations = insert_operation (with_id five) ∷ [];
      ordered = true;
      number = None;
    };
    asks = refl;
    name = refl;
  });
  later = omega arith;
}

by_no_write : AsksFor third (create_change creation) → ⊥
by_no_write (inl write) = let e = write.asks in cc
by_no_write (inr asks) = cc

by_no_find : WasWanted (third ∷ []) (create_change creation) → ⊥
by_no_find w = all_at (λ (a : Asked). AsksFor a (create_change creation) → ⊥) w.request (third ∷ []) (by_no_write, tt) w.taken w.asks

pub returns-clause-wanted : goal.returns-clause-wanted
returns-clause-wanted c = (wanted, by_no_find)
