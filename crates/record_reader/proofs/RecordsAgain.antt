-- Every record is read as it is encoded.
use Rattle.std.proofs.Common.{◌≡◌, ℕ, ◌<◌, ◌^◌, List, [], ◌∷◌, ◌++◌, Bool, true, false, refl, sym, ap, ◌∙◌}
use Rattle.std.specs.Prelude.{Option, Some, None, Result, Ok, Err, IfOk, IsTrue, ◌↔◌}
use Rattle.bson_values.specs.declared.text.Memory as values
use Rattle.base_model.specs.Identities.{RequestId}
use Rattle.chunk_model.specs.Tables.{Table}
use Rattle.record_model.specs.Moves.{MoveEnd}
use Rattle.record_model.specs.Records.{Record, table_record, entry_record, ceiling_record, floor_record, move_start_record, section_record, move_end_record, released_record, receive_start_record, batch_record, receive_done_record, receive_end_record, deletion_record, create_record, split_record, commit_record, resolve_record, purge_record, catalogue_ceiling_record, life_record, block_record}
use Rattle.record_model.specs.RecordFormat.{eight, spelled_table, kind_byte, spelled_fields, spelled, IsSoundTable, IsSound}
use Rattle.record_model.specs.MoveFormat.{spelled_request, spelled_move_end, IsSoundRequest, IsSoundMoveEnd}
use Rattle.record_parts.specs.declared.fault.RecordFault.{RecordFault}
use Rattle.record_parts.specs.declared.fault.RecordFault.TheVariants.{NoRecord, Memory}
use Rattle.shard_records.specs.Readable.{IsHeld, IsHeldTable}
use Rattle.record_parts.specs.Finds.{Finds}
use Rattle.record_parts.specs.Readers.{◌>>=◌, byte_at, eight_at, table_at}
use Rattle.record_reader.specs.Decided.{IsDecided}
use Rattle.record_reader.specs.RecordReaders.{request_at, table_record_at, number_at, released_at, given_end_at, receive_end_at, shard_fields_at, move_fields_at, catalogue_fields_at, router_fields_at, fields_at, record_at}
use Rattle.record_parts.proofs.Again.{stepped, last, eight_again}
use Rattle.record_parts.proofs.TablesAgain.{table_again}
use Rattle.record_reader.proofs.MovesAgain.{request_again, move_start_again, section_again, move_end_again, receive_start_again, received_again, receive_done_again, deletion_again, split_again, commit_again, resolve_again, purge_again, entry_again, creation_again}

number_again : (number_record : ℕ → Record) (n : ℕ) → n < 2 ^ 64 → number_at number_record (eight n) ≡ Some (number_record n)
unfolding number_at
number_again number_record n fits = stepped _ (last eight_at (eight n) (eight_again n [] fits)) refl

table_record_again : (t : Table) → IsSoundTable t → IsHeldTable t → table_record_at (spelled_table t) ≡ Some (table_record t)
unfolding table_record_at
table_record_again t sound held = stepped _ (last table_at (spelled_table t) (table_again t [] sound held)) refl

released_again : (id : RequestId) → IsSoundRequest id → released_at (spelled_request id) ≡ Some (released_record id)
unfolding released_at
released_again id sound = stepped _ (last request_at (spelled_request id) (request_again id [] sound)) refl

given_end_again : (m : MoveEnd) → IsSoundMoveEnd m → IsHeldTable m.table → given_end_at (spelled_move_end m) ≡ Some (move_end_record m)
unfolding given_end_at
given_end_again m sound held = stepped _ (move_end_again m sound held) refl

receive_end_again : (m : MoveEnd) → IsSoundMoveEnd m → IsHeldTable m.table → receive_end_at (spelled_move_end m) ≡ Some (receive_end_record m)
unfolding receive_end_at
receive_end_again m sound held = stepped _ (move_end_again m sound held) refl

fields_again : (r : Record) → IsSound r → IsHeld r → fields_at (kind_byte r) (spelled_fields r) ≡ Some r
unfolding fields_at shard_fields_at move_fields_at catalogue_fields_at router_fields_at
fields_again (table_record t) sound held = table_record_again t sound held
fields_again (entry_record e) sound held = entry_again e sound held.0 held.1
fields_again (ceiling_record n) sound held = number_again ceiling_record n sound
fields_again (floor_record n) sound held = number_again floor_record n sound
fields_again (move_start_record m) sound held = move_start_again m sound held
fields_again (section_record s) sound held = section_again s sound
fields_again (move_end_record m) sound held = given_end_again m sound held
fields_again (released_record id) sound held = released_again id sound
fields_again (receive_start_record m) sound held = receive_start_again m sound held
fields_again (batch_record b) sound held = received_again b sound held
fields_again (receive_done_record r) sound held = receive_done_again r sound held
fields_again (receive_end_record m) sound held = receive_end_again m sound held
fields_again (deletion_record d) sound held = deletion_again d sound held
fields_again (create_record c) sound held = creation_again c sound held
fields_again (split_record s) sound held = split_again s sound held
fields_again (commit_record c) sound held = commit_again c sound held
fields_again (resolve_record r) sound held = resolve_again r sound held
fields_again (purge_record p) sound held = purge_again p sound held
fields_again (catalogue_ceiling_record n) sound held = number_again catalogue_ceiling_record n sound
fields_again (life_record n) sound held = number_again life_record n sound
fields_again (block_record n) sound held = number_again block_record n sound

pub record_again : (r : Record) → IsSound r → IsHeld r → record_at (spelled 1 r) ≡ Some r
unfolding record_at byte_at
record_again r sound held = fields_again r sound held

-- What a call found in bytes that encode a record is that record.
pub found_record : {X : Type 0} (view : X → Record) (x : X) (bytes : List ℕ) (r : Record) → record_at bytes ≡ Some (view x) → IsSound r → IsHeld r →
    spelled 1 r ≡ bytes → Path (Option Record) (Some r) (Some (view x))
found_record view x bytes r found sound held same = sym (record_again r sound held) ∙ ap record_at same ∙ found

some_is : (a b : Record) → Path (Option Record) (Some a) (Some b) → a ≡ b
some_is a b e = cc

-- Where the bytes are not the encoding of what was found, they encode no record.
pub no_other : {X : Type 0} (view : X → Record) (x : X) (bytes : List ℕ) (same_bytes : Bool) (r : Record) → record_at bytes ≡ Some (view x) →
    (IsTrue same_bytes ↔ (spelled 1 (view x) ≡ bytes)) → same_bytes ≡ false → IsSound r → IsHeld r → spelled 1 r ≡ bytes → Path (Option Record) (Some r) None
no_other view x bytes false r found tells other sound held same =
    let one : r ≡ view x = some_is r (view x) (found_record view x bytes r found sound held same) in
    absurd (cc (tells.1 (ap (λ (s : Record). spelled 1 s) (sym one) ∙ same)))
no_other view x bytes true r found tells other sound held same = absurd (cc (other))

-- Bytes in which a call found none encode no record.
pub found_err : {X : Type 0} (view : X → Record) (e : RecordFault) (bytes : List ℕ) (r : Record) → Finds view (Err e) (record_at bytes) → IsSound r →
    IsHeld r → spelled 1 r ≡ bytes → Finds view (Err e) (Some r)
found_err view NoRecord bytes r found sound held same = sym (record_again r sound held) ∙ ap record_at same ∙ found
found_err view Memory bytes r found sound held same = tt

-- What is decided of what a call found is what the bytes are.
pub decided_only : {X : Type 0} (view : X → Record) (x : X) (bytes : List ℕ) (told : Result Bool values.Memory) (result : Result X RecordFault)
    (r : Record) → record_at bytes ≡ Some (view x) → IfOk told (λ b. IsTrue b ↔ (spelled 1 (view x) ≡ bytes)) → IsDecided x told result →
    IsSound r → IsHeld r → spelled 1 r ≡ bytes → Finds view result (Some r)
decided_only view x bytes (Ok true) result r found tells is sound held same = rw is (found_record view x bytes r found sound held same)
decided_only view x bytes (Ok false) result r found tells is sound held same = rw is (no_other view x bytes false r found tells refl sound held same)
decided_only view x bytes (Err e) result r found tells is sound held same = rw is tt

-- What is decided is what was kept, of which all holds that holds where it is the same.
pub decided_holds : {X : Type 0} (P : X → Type 0) (x : X) (told : Result Bool values.Memory) (result : Result X RecordFault) →
    IfOk told (λ b. IsTrue b → P x) → IsDecided x told result → IfOk result P
decided_holds P x (Ok true) result holds is = rw is (holds refl)
decided_holds P x (Ok false) result holds is = rw is tt
decided_holds P x (Err e) result holds is = rw is tt

pub told_same : (Q : Type 0) (told : Result Bool values.Memory) → IfOk told (λ b. IsTrue b ↔ Q) → IfOk told (λ b. IsTrue b → Q)
told_same Q (Ok b) tells = tells.0
told_same Q (Err e) tells = tt

pub told_sound : (Q : Type 0) (told : Result Bool values.Memory) → IfOk told (λ (b : Bool). Q) → IfOk told (λ b. IsTrue b → Q)
told_sound Q (Ok b) q = λ yes. q
told_sound Q (Err e) q = tt

pub told_any : {Q : Type 0} (told : Result Bool values.Memory) → Q → IfOk told (λ b. IsTrue b → Q)
told_any (Ok b) q = λ yes. q
told_any (Err e) q = tt
