-- Each part of what moves and changes of the catalogue keep ends where the bytes before say.
use Rattle.std.proofs.Common.{◌≡◌, ℕ, List, [], ◌∷◌, ◌++◌, refl, ap, arith}
use Rattle.std.specs.Prelude.{Bool, Option, Some, None}
use Rattle.bson_model.specs.Tree.{Datum, Fields}
use Rattle.bson_model.specs.Spelling.{boolean_byte}
use Rattle.base_model.specs.Identities.{RequestId}
use Rattle.value_model.specs.Keys.{Range}
use Rattle.history_model.specs.Sessions.{StatementRecord, SessionRecord}
use Rattle.chunk_model.specs.Catalogue.{Split, Commit, Resolve, Purge}
use Rattle.record_model.specs.Moves.{MoveStart, Section, MoveEnd, ReceiveStart, MovedDocument, ReceivedBatch, ReceiveDone, Deletion}
use Rattle.record_model.specs.PartFormat.{four, eight, spelled_string, key_document, spelled_session, spelled_outcome, spelled_list, spelled_bound, spelled_version, spelled_table, IsSoundKeyValue}
use Rattle.record_model.specs.MoveFormat.{spelled_request, spelled_range, spelled_key_value, spelled_flag, spelled_document, spelled_moved, spelled_statement, spelled_transaction, spelled_session_record, spelled_move_start, spelled_section, spelled_move_end, spelled_receive_start, spelled_received, spelled_receive_done, spelled_deletion, spelled_split, spelled_commit, spelled_resolve, spelled_purge, IsSoundRequest, IsSoundRange, IsSoundOption, IsSoundMoved, IsSoundStatement, IsSoundSessionRecord, IsSoundMoveStart, IsSoundSection, IsSoundMoveEnd, IsSoundReceiveStart, IsSoundReceived, IsSoundReceiveDone, IsSoundDeletion, IsSoundSplit, IsSoundCommit, IsSoundResolve, IsSoundPurge}
use Rattle.record_model.proofs.Prefixes.{first_byte, behind, regroup, same_four, same_eight, same_name, same_document, key_in, same_session, same_transaction, same_outcome, same_upsert}
use Rattle.record_model.proofs.TablePrefixes.{same_bound, same_version, same_list, same_table}

same_flag : (a b : Bool) (xs ys : List ℕ) → Unit {0} → Unit {0} → spelled_flag a ++ xs ≡ spelled_flag b ++ ys → (a ≡ b) × (xs ≡ ys)
same_flag a b xs ys p q e = same_upsert a b xs ys e

same_key_value : (a b : Datum) (xs ys : List ℕ) → IsSoundKeyValue a → IsSoundKeyValue b → spelled_key_value a ++ xs ≡ spelled_key_value b ++ ys → (a ≡ b) × (xs ≡ ys)
same_key_value a b xs ys p q e =
    let document = same_document (key_document a) (key_document b) xs ys p.spelled q.spelled e in
    (key_in a b document.0, document.1)

same_option : (a b : Option Fields) (xs ys : List ℕ) → IsSoundOption a → IsSoundOption b → spelled_document a ++ xs ≡ spelled_document b ++ ys → (a ≡ b) × (xs ≡ ys)
same_option None None xs ys p q e = (refl, behind 0 0 xs ys e)
same_option None (Some b) xs ys p q e = absurd (omega (arith, first_byte 0 1 _ _ e))
same_option (Some a) None xs ys p q e = absurd (omega (arith, first_byte 1 0 _ _ e))
same_option (Some a) (Some b) xs ys p q e =
    let document = same_document a b xs ys p.spelled q.spelled (behind 1 1 _ _ e) in
    (ap Some document.0, document.1)

pub same_request : (a b : RequestId) (xs ys : List ℕ) → IsSoundRequest a → IsSoundRequest b → spelled_request a ++ xs ≡ spelled_request b ++ ys → (a ≡ b) × (xs ≡ ys)
same_request a b xs ys p q e =
    let a_1 : List ℕ = eight a.life ++ eight a.count in
    let b_1 : List ℕ = eight b.life ++ eight b.count in
    let s0 = same_four a.router b.router (a_1 ++ xs) (b_1 ++ ys) p.router q.router (regroup (four a.router) a_1 xs (four b.router) b_1 ys e) in
    let s1 = same_eight a.life b.life (eight a.count ++ xs) (eight b.count ++ ys) p.life q.life (regroup (eight a.life) (eight a.count) xs (eight b.life) (eight b.count) ys s0.1) in
    let s2 = same_eight a.count b.count xs ys p.count q.count s1.1 in
    (λ i. record { router = s0.0 i; life = s1.0 i; count = s2.0 i }, s2.1)

pub same_range : (a b : Range) (xs ys : List ℕ) → IsSoundRange a → IsSoundRange b → spelled_range a ++ xs ≡ spelled_range b ++ ys → (a ≡ b) × (xs ≡ ys)
same_range a b xs ys p q e =
    let s0 = same_bound a.min b.min (spelled_bound a.max ++ xs) (spelled_bound b.max ++ ys) p.min q.min (regroup (spelled_bound a.min) (spelled_bound a.max) xs (spelled_bound b.min) (spelled_bound b.max) ys e) in
    let s1 = same_bound a.max b.max xs ys p.max q.max s0.1 in
    (λ i. record { min = s0.0 i; max = s1.0 i }, s1.1)

pub same_moved : (a b : MovedDocument) (xs ys : List ℕ) → IsSoundMoved a → IsSoundMoved b → spelled_moved a ++ xs ≡ spelled_moved b ++ ys → (a ≡ b) × (xs ≡ ys)
same_moved a b xs ys p q e =
    let s0 = same_key_value a.key b.key (spelled_document a.document ++ xs) (spelled_document b.document ++ ys) p.key q.key (regroup (spelled_key_value a.key) (spelled_document a.document) xs (spelled_key_value b.key) (spelled_document b.document) ys e) in
    let s1 = same_option a.document b.document xs ys p.document q.document s0.1 in
    (λ i. record { key = s0.0 i; document = s1.0 i }, s1.1)

pub same_statement : (a b : StatementRecord) (xs ys : List ℕ) → IsSoundStatement a → IsSoundStatement b → spelled_statement a ++ xs ≡ spelled_statement b ++ ys → (a ≡ b) × (xs ≡ ys)
same_statement a b xs ys p q e =
    let a_1 : List ℕ = eight a.time ++ spelled_outcome a.outcome in
    let b_1 : List ℕ = eight b.time ++ spelled_outcome b.outcome in
    let s0 = same_four a.index b.index (a_1 ++ xs) (b_1 ++ ys) p.index q.index (regroup (four a.index) a_1 xs (four b.index) b_1 ys e) in
    let s1 = same_eight a.time b.time (spelled_outcome a.outcome ++ xs) (spelled_outcome b.outcome ++ ys) p.time q.time (regroup (eight a.time) (spelled_outcome a.outcome) xs (eight b.time) (spelled_outcome b.outcome) ys s0.1) in
    let s2 = same_outcome a.outcome b.outcome xs ys p.outcome q.outcome s1.1 in
    (λ i. record { index = s0.0 i; time = s1.0 i; outcome = s2.0 i }, s2.1)

pub same_session_record : (a b : SessionRecord) (xs ys : List ℕ) → IsSoundSessionRecord a → IsSoundSessionRecord b → spelled_session_record a ++ xs ≡ spelled_session_record b ++ ys → (a ≡ b) × (xs ≡ ys)
same_session_record a b xs ys p q e =
    let a_1 : List ℕ = spelled_transaction a.transaction ++ spelled_list spelled_statement a.statements in
    let b_1 : List ℕ = spelled_transaction b.transaction ++ spelled_list spelled_statement b.statements in
    let s0 = same_session a.session b.session (a_1 ++ xs) (b_1 ++ ys) p.session q.session (regroup (spelled_session a.session) a_1 xs (spelled_session b.session) b_1 ys e) in
    let s1 = same_transaction a.transaction b.transaction (spelled_list spelled_statement a.statements ++ xs) (spelled_list spelled_statement b.statements ++ ys) p.transaction q.transaction (regroup (spelled_transaction a.transaction) (spelled_list spelled_statement a.statements) xs (spelled_transaction b.transaction) (spelled_list spelled_statement b.statements) ys s0.1) in
    let s2 = same_list spelled_statement IsSoundStatement same_statement a.statements b.statements xs ys p.count q.count p.statements q.statements s1.1 in
    (λ i. record { session = s0.0 i; transaction = s1.0 i; statements = s2.0 i }, s2.1)

pub same_move_start : (a b : MoveStart) (xs ys : List ℕ) → IsSoundMoveStart a → IsSoundMoveStart b → spelled_move_start a ++ xs ≡ spelled_move_start b ++ ys → (a ≡ b) × (xs ≡ ys)
same_move_start a b xs ys p q e =
    let a_4 : List ℕ = spelled_version a.version ++ eight a.time in
    let b_4 : List ℕ = spelled_version b.version ++ eight b.time in
    let a_3 : List ℕ = four a.to ++ a_4 in
    let b_3 : List ℕ = four b.to ++ b_4 in
    let a_2 : List ℕ = spelled_range a.range ++ a_3 in
    let b_2 : List ℕ = spelled_range b.range ++ b_3 in
    let a_1 : List ℕ = spelled_string a.namespace ++ a_2 in
    let b_1 : List ℕ = spelled_string b.namespace ++ b_2 in
    let s0 = same_request a.id b.id (a_1 ++ xs) (b_1 ++ ys) p.id q.id (regroup (spelled_request a.id) a_1 xs (spelled_request b.id) b_1 ys e) in
    let s1 = same_name a.namespace b.namespace (a_2 ++ xs) (b_2 ++ ys) p.namespace q.namespace (regroup (spelled_string a.namespace) a_2 xs (spelled_string b.namespace) b_2 ys s0.1) in
    let s2 = same_range a.range b.range (a_3 ++ xs) (b_3 ++ ys) p.range q.range (regroup (spelled_range a.range) a_3 xs (spelled_range b.range) b_3 ys s1.1) in
    let s3 = same_four a.to b.to (a_4 ++ xs) (b_4 ++ ys) p.to q.to (regroup (four a.to) a_4 xs (four b.to) b_4 ys s2.1) in
    let s4 = same_version a.version b.version (eight a.time ++ xs) (eight b.time ++ ys) p.version q.version (regroup (spelled_version a.version) (eight a.time) xs (spelled_version b.version) (eight b.time) ys s3.1) in
    let s5 = same_eight a.time b.time xs ys p.time q.time s4.1 in
    (λ i. record { id = s0.0 i; namespace = s1.0 i; range = s2.0 i; to = s3.0 i; version = s4.0 i; time = s5.0 i }, s5.1)

pub same_section : (a b : Section) (xs ys : List ℕ) → IsSoundSection a → IsSoundSection b → spelled_section a ++ xs ≡ spelled_section b ++ ys → (a ≡ b) × (xs ≡ ys)
same_section a b xs ys p q e =
    let s0 = same_request a.id b.id (eight a.time ++ xs) (eight b.time ++ ys) p.id q.id (regroup (spelled_request a.id) (eight a.time) xs (spelled_request b.id) (eight b.time) ys e) in
    let s1 = same_eight a.time b.time xs ys p.time q.time s0.1 in
    (λ i. record { id = s0.0 i; time = s1.0 i }, s1.1)

pub same_move_end : (a b : MoveEnd) (xs ys : List ℕ) → IsSoundMoveEnd a → IsSoundMoveEnd b → spelled_move_end a ++ xs ≡ spelled_move_end b ++ ys → (a ≡ b) × (xs ≡ ys)
same_move_end a b xs ys p q e =
    let a_3 : List ℕ = eight a.time ++ eight a.due in
    let b_3 : List ℕ = eight b.time ++ eight b.due in
    let a_2 : List ℕ = spelled_table a.table ++ a_3 in
    let b_2 : List ℕ = spelled_table b.table ++ b_3 in
    let a_1 : List ℕ = spelled_flag a.committed ++ a_2 in
    let b_1 : List ℕ = spelled_flag b.committed ++ b_2 in
    let s0 = same_request a.id b.id (a_1 ++ xs) (b_1 ++ ys) p.id q.id (regroup (spelled_request a.id) a_1 xs (spelled_request b.id) b_1 ys e) in
    let s1 = same_flag a.committed b.committed (a_2 ++ xs) (b_2 ++ ys) tt tt (regroup (spelled_flag a.committed) a_2 xs (spelled_flag b.committed) b_2 ys s0.1) in
    let s2 = same_table a.table b.table (a_3 ++ xs) (b_3 ++ ys) p.table q.table (regroup (spelled_table a.table) a_3 xs (spelled_table b.table) b_3 ys s1.1) in
    let s3 = same_eight a.time b.time (eight a.due ++ xs) (eight b.due ++ ys) p.time q.time (regroup (eight a.time) (eight a.due) xs (eight b.time) (eight b.due) ys s2.1) in
    let s4 = same_eight a.due b.due xs ys p.due q.due s3.1 in
    (λ i. record { id = s0.0 i; committed = s1.0 i; table = s2.0 i; time = s3.0 i; due = s4.0 i }, s4.1)

pub same_receive_start : (a b : ReceiveStart) (xs ys : List ℕ) → IsSoundReceiveStart a → IsSoundReceiveStart b → spelled_receive_start a ++ xs ≡ spelled_receive_start b ++ ys → (a ≡ b) × (xs ≡ ys)
same_receive_start a b xs ys p q e =
    let a_4 : List ℕ = spelled_table a.table ++ eight a.time in
    let b_4 : List ℕ = spelled_table b.table ++ eight b.time in
    let a_3 : List ℕ = four a.from ++ a_4 in
    let b_3 : List ℕ = four b.from ++ b_4 in
    let a_2 : List ℕ = spelled_range a.range ++ a_3 in
    let b_2 : List ℕ = spelled_range b.range ++ b_3 in
    let a_1 : List ℕ = spelled_string a.namespace ++ a_2 in
    let b_1 : List ℕ = spelled_string b.namespace ++ b_2 in
    let s0 = same_request a.id b.id (a_1 ++ xs) (b_1 ++ ys) p.id q.id (regroup (spelled_request a.id) a_1 xs (spelled_request b.id) b_1 ys e) in
    let s1 = same_name a.namespace b.namespace (a_2 ++ xs) (b_2 ++ ys) p.namespace q.namespace (regroup (spelled_string a.namespace) a_2 xs (spelled_string b.namespace) b_2 ys s0.1) in
    let s2 = same_range a.range b.range (a_3 ++ xs) (b_3 ++ ys) p.range q.range (regroup (spelled_range a.range) a_3 xs (spelled_range b.range) b_3 ys s1.1) in
    let s3 = same_four a.from b.from (a_4 ++ xs) (b_4 ++ ys) p.from q.from (regroup (four a.from) a_4 xs (four b.from) b_4 ys s2.1) in
    let s4 = same_table a.table b.table (eight a.time ++ xs) (eight b.time ++ ys) p.table q.table (regroup (spelled_table a.table) (eight a.time) xs (spelled_table b.table) (eight b.time) ys s3.1) in
    let s5 = same_eight a.time b.time xs ys p.time q.time s4.1 in
    (λ i. record { id = s0.0 i; namespace = s1.0 i; range = s2.0 i; from = s3.0 i; table = s4.0 i; time = s5.0 i }, s5.1)

pub same_received : (a b : ReceivedBatch) (xs ys : List ℕ) → IsSoundReceived a → IsSoundReceived b → spelled_received a ++ xs ≡ spelled_received b ++ ys → (a ≡ b) × (xs ≡ ys)
same_received a b xs ys p q e =
    let a_3 : List ℕ = spelled_bound a.batch.upto ++ spelled_list spelled_moved a.batch.docs in
    let b_3 : List ℕ = spelled_bound b.batch.upto ++ spelled_list spelled_moved b.batch.docs in
    let a_2 : List ℕ = eight a.time ++ a_3 in
    let b_2 : List ℕ = eight b.time ++ b_3 in
    let a_1 : List ℕ = eight a.batch.number ++ a_2 in
    let b_1 : List ℕ = eight b.batch.number ++ b_2 in
    let s0 = same_request a.id b.id (a_1 ++ xs) (b_1 ++ ys) p.id q.id (regroup (spelled_request a.id) a_1 xs (spelled_request b.id) b_1 ys e) in
    let s1 = same_eight a.batch.number b.batch.number (a_2 ++ xs) (b_2 ++ ys) p.number q.number (regroup (eight a.batch.number) a_2 xs (eight b.batch.number) b_2 ys s0.1) in
    let s2 = same_eight a.time b.time (a_3 ++ xs) (b_3 ++ ys) p.time q.time (regroup (eight a.time) a_3 xs (eight b.time) b_3 ys s1.1) in
    let s3 = same_bound a.batch.upto b.batch.upto (spelled_list spelled_moved a.batch.docs ++ xs) (spelled_list spelled_moved b.batch.docs ++ ys) p.upto q.upto (regroup (spelled_bound a.batch.upto) (spelled_list spelled_moved a.batch.docs) xs (spelled_bound b.batch.upto) (spelled_list spelled_moved b.batch.docs) ys s2.1) in
    let s4 = same_list spelled_moved IsSoundMoved same_moved a.batch.docs b.batch.docs xs ys p.count q.count p.docs q.docs s3.1 in
    (λ i. record { id = s0.0 i; time = s2.0 i; batch = record { number = s1.0 i; upto = s3.0 i; docs = s4.0 i } }, s4.1)

pub same_receive_done : (a b : ReceiveDone) (xs ys : List ℕ) → IsSoundReceiveDone a → IsSoundReceiveDone b → spelled_receive_done a ++ xs ≡ spelled_receive_done b ++ ys → (a ≡ b) × (xs ≡ ys)
same_receive_done a b xs ys p q e =
    let s0 = same_request a.id b.id (spelled_list spelled_session_record a.sessions ++ xs) (spelled_list spelled_session_record b.sessions ++ ys) p.id q.id (regroup (spelled_request a.id) (spelled_list spelled_session_record a.sessions) xs (spelled_request b.id) (spelled_list spelled_session_record b.sessions) ys e) in
    let s1 = same_list spelled_session_record IsSoundSessionRecord same_session_record a.sessions b.sessions xs ys p.count q.count p.sessions q.sessions s0.1 in
    (λ i. record { id = s0.0 i; sessions = s1.0 i }, s1.1)

pub same_deletion : (a b : Deletion) (xs ys : List ℕ) → IsSoundDeletion a → IsSoundDeletion b → spelled_deletion a ++ xs ≡ spelled_deletion b ++ ys → (a ≡ b) × (xs ≡ ys)
same_deletion a b xs ys p q e =
    let a_1 : List ℕ = spelled_range a.range ++ eight a.until in
    let b_1 : List ℕ = spelled_range b.range ++ eight b.until in
    let s0 = same_name a.namespace b.namespace (a_1 ++ xs) (b_1 ++ ys) p.namespace q.namespace (regroup (spelled_string a.namespace) a_1 xs (spelled_string b.namespace) b_1 ys e) in
    let s1 = same_range a.range b.range (eight a.until ++ xs) (eight b.until ++ ys) p.range q.range (regroup (spelled_range a.range) (eight a.until) xs (spelled_range b.range) (eight b.until) ys s0.1) in
    let s2 = same_eight a.until b.until xs ys p.until q.until s1.1 in
    (λ i. record { namespace = s0.0 i; range = s1.0 i; until = s2.0 i }, s2.1)

pub same_split : (a b : Split) (xs ys : List ℕ) → IsSoundSplit a → IsSoundSplit b → spelled_split a ++ xs ≡ spelled_split b ++ ys → (a ≡ b) × (xs ≡ ys)
same_split a b xs ys p q e =
    let a_1 : List ℕ = spelled_key_value a.middle ++ eight a.at in
    let b_1 : List ℕ = spelled_key_value b.middle ++ eight b.at in
    let s0 = same_name a.namespace b.namespace (a_1 ++ xs) (b_1 ++ ys) p.namespace q.namespace (regroup (spelled_string a.namespace) a_1 xs (spelled_string b.namespace) b_1 ys e) in
    let s1 = same_key_value a.middle b.middle (eight a.at ++ xs) (eight b.at ++ ys) p.middle q.middle (regroup (spelled_key_value a.middle) (eight a.at) xs (spelled_key_value b.middle) (eight b.at) ys s0.1) in
    let s2 = same_eight a.at b.at xs ys p.at q.at s1.1 in
    (λ i. record { namespace = s0.0 i; middle = s1.0 i; at = s2.0 i }, s2.1)

pub same_commit : (a b : Commit) (xs ys : List ℕ) → IsSoundCommit a → IsSoundCommit b → spelled_commit a ++ xs ≡ spelled_commit b ++ ys → (a ≡ b) × (xs ≡ ys)
same_commit a b xs ys p q e =
    let a_4 : List ℕ = four a.to ++ eight a.at in
    let b_4 : List ℕ = four b.to ++ eight b.at in
    let a_3 : List ℕ = four a.from ++ a_4 in
    let b_3 : List ℕ = four b.from ++ b_4 in
    let a_2 : List ℕ = spelled_range a.range ++ a_3 in
    let b_2 : List ℕ = spelled_range b.range ++ b_3 in
    let a_1 : List ℕ = spelled_string a.namespace ++ a_2 in
    let b_1 : List ℕ = spelled_string b.namespace ++ b_2 in
    let s0 = same_request a.id b.id (a_1 ++ xs) (b_1 ++ ys) p.id q.id (regroup (spelled_request a.id) a_1 xs (spelled_request b.id) b_1 ys e) in
    let s1 = same_name a.namespace b.namespace (a_2 ++ xs) (b_2 ++ ys) p.namespace q.namespace (regroup (spelled_string a.namespace) a_2 xs (spelled_string b.namespace) b_2 ys s0.1) in
    let s2 = same_range a.range b.range (a_3 ++ xs) (b_3 ++ ys) p.range q.range (regroup (spelled_range a.range) a_3 xs (spelled_range b.range) b_3 ys s1.1) in
    let s3 = same_four a.from b.from (a_4 ++ xs) (b_4 ++ ys) p.from q.from (regroup (four a.from) a_4 xs (four b.from) b_4 ys s2.1) in
    let s4 = same_four a.to b.to (eight a.at ++ xs) (eight b.at ++ ys) p.to q.to (regroup (four a.to) (eight a.at) xs (four b.to) (eight b.at) ys s3.1) in
    let s5 = same_eight a.at b.at xs ys p.at q.at s4.1 in
    (λ i. record { id = s0.0 i; namespace = s1.0 i; range = s2.0 i; from = s3.0 i; to = s4.0 i; at = s5.0 i }, s5.1)

pub same_resolve : (a b : Resolve) (xs ys : List ℕ) → IsSoundResolve a → IsSoundResolve b → spelled_resolve a ++ xs ≡ spelled_resolve b ++ ys → (a ≡ b) × (xs ≡ ys)
same_resolve a b xs ys p q e =
    let a_2 : List ℕ = spelled_range a.range ++ eight a.at in
    let b_2 : List ℕ = spelled_range b.range ++ eight b.at in
    let a_1 : List ℕ = spelled_string a.namespace ++ a_2 in
    let b_1 : List ℕ = spelled_string b.namespace ++ b_2 in
    let s0 = same_request a.id b.id (a_1 ++ xs) (b_1 ++ ys) p.id q.id (regroup (spelled_request a.id) a_1 xs (spelled_request b.id) b_1 ys e) in
    let s1 = same_name a.namespace b.namespace (a_2 ++ xs) (b_2 ++ ys) p.namespace q.namespace (regroup (spelled_string a.namespace) a_2 xs (spelled_string b.namespace) b_2 ys s0.1) in
    let s2 = same_range a.range b.range (eight a.at ++ xs) (eight b.at ++ ys) p.range q.range (regroup (spelled_range a.range) (eight a.at) xs (spelled_range b.range) (eight b.at) ys s1.1) in
    let s3 = same_eight a.at b.at xs ys p.at q.at s2.1 in
    (λ i. record { id = s0.0 i; namespace = s1.0 i; range = s2.0 i; at = s3.0 i }, s3.1)

pub same_purge : (a b : Purge) (xs ys : List ℕ) → IsSoundPurge a → IsSoundPurge b → spelled_purge a ++ xs ≡ spelled_purge b ++ ys → (a ≡ b) × (xs ≡ ys)
same_purge a b xs ys p q e =
    let a_1 : List ℕ = eight a.below ++ eight a.at in
    let b_1 : List ℕ = eight b.below ++ eight b.at in
    let s0 = same_name a.namespace b.namespace (a_1 ++ xs) (b_1 ++ ys) p.namespace q.namespace (regroup (spelled_string a.namespace) a_1 xs (spelled_string b.namespace) b_1 ys e) in
    let s1 = same_eight a.below b.below (eight a.at ++ xs) (eight b.at ++ ys) p.below q.below (regroup (eight a.below) (eight a.at) xs (eight b.below) (eight b.at) ys s0.1) in
    let s2 = same_eight a.at b.at xs ys p.at q.at s1.1 in
    (λ i. record { namespace = s0.0 i; below = s1.0 i; at = s2.0 i }, s2.1)
