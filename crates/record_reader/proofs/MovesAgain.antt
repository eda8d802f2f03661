-- The encoding of a part of what moves and changes store, whatever comes after it, is read as that part; and so are they.
use Rattle.std.proofs.Common.{◌≡◌, ℕ, ◌<◌, ◌≤◌, List, [], ◌∷◌, ◌++◌, length, Bool, true, false, refl, ap, ◌∙◌, arith}
use Rattle.std.specs.Prelude.{ℤ, Option, Some, None, nat_lt, if◌then◌else◌}
use Rattle.std.specs.Int.{w64, cast_unsigned, cast_signed}
use Rattle.std.specs.List.{AllByRecursion}
use Rattle.std.specs.Str.{IsUtf8}
use Rattle.std.proofs.lemmas.Int.{to_z-of_z}
use Rattle.std.proofs.Math.Facts.{Fits-of_z}
use Rattle.bson_model.specs.Limits.{IsWritable, most_bytes_kept}
use Rattle.bson_model.specs.Spelling.{written}
use Rattle.bson_model.specs.Tree.{Fields}
use Rattle.base_model.specs.Identities.{RequestId}
use Rattle.value_model.specs.Keys.{IsRange}
use Rattle.history_model.specs.Sessions.{StatementRecord, SessionRecord, are_in_order}
use Rattle.chunk_model.specs.Catalogue.{Creation, Split, Commit, Resolve, Purge}
use Rattle.record_model.specs.Moves.{MoveStart, Section, MoveEnd, ReceiveStart, MovedDocument, ReceivedBatch, ReceiveDone, Deletion}
use Rattle.record_model.specs.Records.{EntryWords, entry_record, move_start_record, section_record, receive_start_record, batch_record, receive_done_record, deletion_record, create_record, split_record, commit_record, resolve_record, purge_record}
use Rattle.record_model.specs.RecordFormat.{four, eight, spelled_string, key_document, spelled_session, spelled_number, spelled_operation, spelled_outcome, spelled_entry, spelled_creation, spelled_list, spelled_bound, spelled_version, spelled_table, IsSoundEntry, IsSoundCreation}
use Rattle.record_model.specs.MoveFormat.{spelled_request, spelled_range, spelled_key_value, spelled_flag, spelled_document, spelled_moved, spelled_statement, spelled_transaction, spelled_session_record, spelled_move_start, spelled_section, spelled_move_end, spelled_receive_start, spelled_received, spelled_receive_done, spelled_deletion, spelled_split, spelled_commit, spelled_resolve, spelled_purge, IsSoundRequest, IsSoundOption, IsSoundMoved, IsSoundStatement, IsSoundSessionRecord, IsSoundMoveStart, IsSoundSection, IsSoundMoveEnd, IsSoundReceiveStart, IsSoundReceived, IsSoundReceiveDone, IsSoundDeletion, IsSoundSplit, IsSoundCommit, IsSoundResolve, IsSoundPurge}
use Rattle.shard_records.specs.Sizes.{IsWritableRecord, IsWritableOption, IsWritableMoved, IsWritableStatement, IsWritableSession, IsWritableReceived, IsWritableDone}
use Rattle.shard_records.specs.Readable.{IsHeldRange, IsHeldTable}
use Rattle.record_parts.specs.Readers.{◌>>=◌, Found, byte_at, four_at, eight_at, namespace_at, document_at, key_at, session_at, statement_at, operation_at, outcome_at, bound_at, range_at, version_at, list_at, table_at}
use Rattle.record_reader.specs.RecordReaders.{request_at, flag_at, stored_at, some_document_at, option_document_at, moved_at, statement_record_at, session_record_at, move_start_at, section_at, move_end_at, receive_start_at, received_at, sessions_in, receive_done_at, deletion_at, split_at, commit_at, resolve_at, purge_at, entry_at, creation_at}
use Rattle.record_parts.proofs.Again.{stepped, first, last, four_again, eight_again, namespace_again, document_again, key_again, session_again, statement_again, operation_again, outcome_again}
use Rattle.record_parts.proofs.TablesAgain.{bound_again, version_again, range_again, table_again}
use Rattle.record_parts.proofs.Items.{list_again}

pub request_again : (x : RequestId) (rest : List ℕ) → IsSoundRequest x → request_at (spelled_request x ++ rest) ≡ Some (x, rest)
unfolding request_at
request_again x rest sound =
    let b1 : List ℕ = eight x.life ++ eight x.count in
    stepped _ (first four_at (four x.router) b1 rest (four_again x.router (b1 ++ rest) sound.router))
    (stepped _ (first eight_at (eight x.life) (eight x.count) rest (eight_again x.life ((eight x.count) ++ rest) sound.life))
    (stepped _ (eight_again x.count rest sound.count) refl))

flag_again : (b : Bool) (rest : List ℕ) → flag_at (spelled_flag b ++ rest) ≡ Some (b, rest)
unfolding flag_at byte_at
flag_again true rest = refl
flag_again false rest = refl

kept_there : (document : Fields) (rest : List ℕ) → nat_lt most_bytes_kept (length (written document)) ≡ false →
    Path (Found Fields) (if nat_lt most_bytes_kept (length (written document)) then None else Some (document, rest)) (Some (document, rest))
kept_there document rest small = rw small refl

stored_again : (document : Fields) (rest : List ℕ) → IsSoundOption (Some document) → IsWritableOption (Some document) →
    stored_at (written document ++ rest) ≡ Some (document, rest)
unfolding stored_at
stored_again document rest sound fits =
    let most : length (written document) ≤ most_bytes_kept = fits.1 in
    let small : nat_lt most_bytes_kept (length (written document)) ≡ false = grind (arith, most) in
    stepped _ (document_again document rest sound (omega (arith, most))) (kept_there document rest small)

option_document_again : (o : Option Fields) (rest : List ℕ) → IsSoundOption o → IsWritableOption o →
    option_document_at (spelled_document o ++ rest) ≡ Some (o, rest)
unfolding option_document_at some_document_at byte_at
option_document_again None rest sound fits = refl
option_document_again (Some document) rest sound fits = stepped _ (stored_again document rest sound fits) refl

-- sound, and of a form that can be written
abbrev IsFineMoved : MovedDocument → Type 0
IsFineMoved m = IsSoundMoved m × IsWritableMoved m

all_moved : (xs : List MovedDocument) → AllByRecursion IsSoundMoved xs → AllByRecursion IsWritableMoved xs → AllByRecursion IsFineMoved xs
all_moved [] sound held = tt
all_moved (x ∷ xs) sound held = ((sound.0, held.0), all_moved xs sound.1 held.1)

abbrev IsFineStatement : StatementRecord → Type 0
IsFineStatement s = IsSoundStatement s × IsWritableStatement s

all_statements : (xs : List StatementRecord) → AllByRecursion IsSoundStatement xs → AllByRecursion IsWritableStatement xs → AllByRecursion IsFineStatement xs
all_statements [] sound held = tt
all_statements (x ∷ xs) sound held = ((sound.0, held.0), all_statements xs sound.1 held.1)

abbrev IsFineSession : SessionRecord → Type 0
IsFineSession s = IsSoundSessionRecord s × IsWritableSession s

all_sessions : (xs : List SessionRecord) → AllByRecursion IsSoundSessionRecord xs → AllByRecursion IsWritableSession xs → AllByRecursion IsFineSession xs
all_sessions [] sound held = tt
all_sessions (x ∷ xs) sound held = ((sound.0, held.0), all_sessions xs sound.1 held.1)

moved_again : (x : MovedDocument) (rest : List ℕ) → IsFineMoved x → moved_at (spelled_moved x ++ rest) ≡ Some (x, rest)
unfolding moved_at
moved_again x rest fine =
    let sound = fine.0 in
    let held = fine.1 in
    stepped _ (first key_at (spelled_key_value x.key) (spelled_document x.document) rest
    (key_again x.key ((spelled_document x.document) ++ rest) sound.key held.key))
    (stepped _ (option_document_again x.document rest sound.document held.document) refl)

statement_record_again : (x : StatementRecord) (rest : List ℕ) → IsFineStatement x → statement_record_at (spelled_statement x ++ rest) ≡ Some (x, rest)
unfolding statement_record_at
statement_record_again x rest fine =
    let sound = fine.0 in
    let held = fine.1 in
    let b1 : List ℕ = eight x.time ++ spelled_outcome x.outcome in
    stepped _ (first four_at (four x.index) b1 rest (four_again x.index (b1 ++ rest) sound.index))
    (stepped _ (first eight_at (eight x.time) (spelled_outcome x.outcome) rest (eight_again x.time ((spelled_outcome x.outcome) ++ rest) sound.time))
    (stepped _ (outcome_again x.outcome rest sound.outcome held) refl))

session_record_again : (x : SessionRecord) (rest : List ℕ) → IsFineSession x → session_record_at (spelled_session_record x ++ rest) ≡ Some (x, rest)
unfolding session_record_at
session_record_again x rest fine =
    let sound = fine.0 in
    let held = fine.1 in
    let b1 : List ℕ = spelled_transaction x.transaction ++ spelled_list spelled_statement x.statements in
    stepped _ (first session_at (spelled_session x.session) b1 rest (session_again x.session (b1 ++ rest) sound.session))
    (stepped _ (first eight_at (eight (cast_unsigned w64 x.transaction)) (spelled_list spelled_statement x.statements) rest
    (eight_again (cast_unsigned w64 x.transaction) ((spelled_list spelled_statement x.statements) ++ rest) (Fits-of_z sound.transaction).fits))
    (stepped _ (list_again statement_record_at spelled_statement IsFineStatement statement_record_again x.statements rest sound.count
    (all_statements x.statements sound.statements held.statements))
    (ap (λ (z : ℤ). Some (record { session = x.session; transaction = z; statements = x.statements }, rest))
    (to_z-of_z w64 x.transaction sound.transaction))))

pub move_start_again : (x : MoveStart) → IsSoundMoveStart x → IsUtf8 x.namespace × IsHeldRange x.range →
    move_start_at (spelled_move_start x) ≡ Some (move_start_record x)
unfolding move_start_at
move_start_again x sound held =
    stepped _ (request_again x.id _ sound.id)
    (stepped _ (namespace_again x.namespace _ sound.namespace held.0)
    (stepped _ (range_again x.range _ sound.range held.1)
    (stepped _ (four_again x.to _ sound.to)
    (stepped _ (version_again x.version _ sound.version)
    (stepped _ (last eight_at (eight x.time) (eight_again x.time [] sound.time)) refl)))))

pub section_again : (x : Section) → IsSoundSection x → section_at (spelled_section x) ≡ Some (section_record x)
unfolding section_at
section_again x sound =
    stepped _ (request_again x.id _ sound.id)
    (stepped _ (last eight_at (eight x.time) (eight_again x.time [] sound.time)) refl)

pub move_end_again : (x : MoveEnd) → IsSoundMoveEnd x → IsHeldTable x.table → move_end_at (spelled_move_end x) ≡ Some x
unfolding move_end_at
move_end_again x sound held =
    stepped _ (request_again x.id _ sound.id)
    (stepped _ (flag_again x.committed _)
    (stepped _ (table_again x.table _ sound.table held)
    (stepped _ (eight_again x.time _ sound.time)
    (stepped _ (last eight_at (eight x.due) (eight_again x.due [] sound.due)) refl))))

pub receive_start_again : (x : ReceiveStart) → IsSoundReceiveStart x → IsUtf8 x.namespace × (IsHeldRange x.range × IsHeldTable x.table) →
    receive_start_at (spelled_receive_start x) ≡ Some (receive_start_record x)
unfolding receive_start_at
receive_start_again x sound held =
    stepped _ (request_again x.id _ sound.id)
    (stepped _ (namespace_again x.namespace _ sound.namespace held.0)
    (stepped _ (range_again x.range _ sound.range held.1.0)
    (stepped _ (four_again x.from _ sound.from)
    (stepped _ (table_again x.table _ sound.table held.1.1)
    (stepped _ (last eight_at (eight x.time) (eight_again x.time [] sound.time)) refl)))))

pub received_again : (x : ReceivedBatch) → IsSoundReceived x → IsWritableReceived x → received_at (spelled_received x) ≡ Some (batch_record x)
unfolding received_at
received_again x sound held =
    stepped _ (request_again x.id _ sound.id)
    (stepped _ (eight_again x.batch.number _ sound.number)
    (stepped _ (eight_again x.time _ sound.time)
    (stepped _ (bound_again x.batch.upto _ sound.upto held.upto)
    (stepped _ (last (list_at moved_at) (spelled_list spelled_moved x.batch.docs)
    (list_again moved_at spelled_moved IsFineMoved moved_again x.batch.docs [] sound.count (all_moved x.batch.docs sound.docs held.docs))) refl))))

pub deletion_again : (x : Deletion) → IsSoundDeletion x → IsUtf8 x.namespace × IsHeldRange x.range → deletion_at (spelled_deletion x) ≡ Some (deletion_record x)
unfolding deletion_at
deletion_again x sound held =
    stepped _ (namespace_again x.namespace _ sound.namespace held.0)
    (stepped _ (range_again x.range _ sound.range held.1)
    (stepped _ (last eight_at (eight x.until) (eight_again x.until [] sound.until)) refl))

pub split_again : (x : Split) → IsSoundSplit x → IsUtf8 x.namespace × IsWritable (key_document x.middle) → split_at (spelled_split x) ≡ Some (split_record x)
unfolding split_at
split_again x sound held =
    stepped _ (namespace_again x.namespace _ sound.namespace held.0)
    (stepped _ (key_again x.middle _ sound.middle held.1)
    (stepped _ (last eight_at (eight x.at) (eight_again x.at [] sound.at)) refl))

pub commit_again : (x : Commit) → IsSoundCommit x → IsUtf8 x.namespace × IsHeldRange x.range → commit_at (spelled_commit x) ≡ Some (commit_record x)
unfolding commit_at
commit_again x sound held =
    stepped _ (request_again x.id _ sound.id)
    (stepped _ (namespace_again x.namespace _ sound.namespace held.0)
    (stepped _ (range_again x.range _ sound.range held.1)
    (stepped _ (four_again x.from _ sound.from)
    (stepped _ (four_again x.to _ sound.to)
    (stepped _ (last eight_at (eight x.at) (eight_again x.at [] sound.at)) refl)))))

pub resolve_again : (x : Resolve) → IsSoundResolve x → IsUtf8 x.namespace × IsHeldRange x.range → resolve_at (spelled_resolve x) ≡ Some (resolve_record x)
unfolding resolve_at
resolve_again x sound held =
    stepped _ (request_again x.id _ sound.id)
    (stepped _ (namespace_again x.namespace _ sound.namespace held.0)
    (stepped _ (range_again x.range _ sound.range held.1)
    (stepped _ (last eight_at (eight x.at) (eight_again x.at [] sound.at)) refl)))

pub purge_again : (x : Purge) → IsSoundPurge x → IsUtf8 x.namespace → purge_at (spelled_purge x) ≡ Some (purge_record x)
unfolding purge_at
purge_again x sound held =
    stepped _ (namespace_again x.namespace _ sound.namespace held)
    (stepped _ (eight_again x.below _ sound.below)
    (stepped _ (last eight_at (eight x.at) (eight_again x.at [] sound.at)) refl))

sessions_there : (sessions : List SessionRecord) → are_in_order sessions ≡ true → sessions_in sessions ≡ Some sessions
sessions_there sessions order = rw order refl

pub receive_done_again : (x : ReceiveDone) → IsSoundReceiveDone x → IsWritableDone x × (are_in_order x.sessions ≡ true) →
    receive_done_at (spelled_receive_done x) ≡ Some (receive_done_record x)
unfolding receive_done_at
receive_done_again x sound held =
    stepped _ (request_again x.id _ sound.id)
    (stepped _ (last (list_at session_record_at) (spelled_list spelled_session_record x.sessions)
    (list_again session_record_at spelled_session_record IsFineSession session_record_again x.sessions [] sound.count
    (all_sessions x.sessions sound.sessions held.0.sessions)))
    (stepped _ (sessions_there x.sessions held.1) refl))

pub entry_again : (e : EntryWords) → IsSoundEntry e → IsUtf8 e.namespace → IsWritableRecord (entry_record e) →
    entry_at (spelled_entry e) ≡ Some (entry_record e)
unfolding entry_at
entry_again e sound text fits =
    stepped _ (eight_again e.time _ sound.time)
    (stepped _ (namespace_again e.namespace _ sound.namespace text)
    (stepped _ (statement_again e.number _ sound.number)
    (stepped _ (operation_again e.operation _ sound.operation fits.0)
    (stepped _ (last outcome_at (spelled_outcome e.outcome) (outcome_again e.outcome [] sound.outcome fits.1)) refl))))

pub creation_again : (c : Creation) → IsSoundCreation c → IsUtf8 c.namespace → creation_at (spelled_creation c) ≡ Some (create_record c)
unfolding creation_at
creation_again c sound text =
    stepped _ (namespace_again c.namespace _ sound.namespace text)
    (stepped _ (eight_again c.epoch _ sound.epoch)
    (stepped _ (last eight_at (eight c.at) (eight_again c.at [] sound.at)) refl))
