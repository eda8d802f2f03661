-- The bytes of what moves of chunks and changes of the catalogue store, in a format that is own; and which of them have an encoding that
-- determines them.
use Rattle.std.specs.Prelude.{ℕ, ℤ, Bool, ◌<◌, ◌^◌, List, [], ◌∷◌, ◌++◌, length, Option, Some, None, FitsSigned}
use Rattle.std.specs.Int.{w64, cast_unsigned}
use Rattle.std.specs.List.{AllByRecursion}
use Rattle.bson_model.specs.Tree.{Datum, Fields}
use Rattle.bson_model.specs.Spelling.{written, boolean_byte}
use Rattle.base_model.specs.Identities.{RequestId}
use Rattle.base_model.specs.Names.{IsNamespace}
use Rattle.value_model.specs.Keys.{Range}
use Rattle.history_model.specs.Sessions.{StatementRecord, SessionRecord}
use Rattle.chunk_model.specs.Catalogue.{Split, Commit, Resolve, Purge}
use Rattle.record_model.specs.Moves.{MoveStart, Section, MoveEnd, ReceiveStart, MovedDocument, Batch, ReceivedBatch, ReceiveDone, Deletion}
use Rattle.record_model.specs.PartFormat.{four, eight, spelled_string, key_document, spelled_session, spelled_outcome, spelled_list, spelled_bound, spelled_version, spelled_table, IsSoundDocument, IsSoundKeyValue, IsSoundSession, IsSoundOutcome, IsSoundBound, IsSoundVersion, IsSoundTable}

abbrev pub spelled_request : RequestId → List ℕ
spelled_request r = four r.router ++ (eight r.life ++ eight r.count)

abbrev pub spelled_range : Range → List ℕ
spelled_range r = spelled_bound r.min ++ spelled_bound r.max

abbrev pub spelled_key_value : Datum → List ℕ
spelled_key_value key = written (key_document key)

abbrev pub spelled_flag : Bool → List ℕ
spelled_flag b = boolean_byte b ∷ []

-- 00 for none; 01 and the document
abbrev pub spelled_document : Option Fields → List ℕ
spelled_document None = 0 ∷ []
spelled_document (Some document) = 1 ∷ written document

abbrev pub spelled_moved : MovedDocument → List ℕ
spelled_moved m = spelled_key_value m.key ++ spelled_document m.document

abbrev pub spelled_statement : StatementRecord → List ℕ
spelled_statement s = four s.index ++ (eight s.time ++ spelled_outcome s.outcome)

abbrev pub spelled_transaction : ℤ → List ℕ
spelled_transaction n = eight (cast_unsigned w64 n)

abbrev pub spelled_session_record : SessionRecord → List ℕ
spelled_session_record s = spelled_session s.session ++ (spelled_transaction s.transaction ++ spelled_list spelled_statement s.statements)

abbrev pub spelled_move_start : MoveStart → List ℕ
spelled_move_start m = spelled_request m.id ++ (spelled_string m.namespace ++ (spelled_range m.range ++ (four m.to ++ (spelled_version m.version ++ eight m.time))))

abbrev pub spelled_section : Section → List ℕ
spelled_section s = spelled_request s.id ++ eight s.time

abbrev pub spelled_move_end : MoveEnd → List ℕ
spelled_move_end m = spelled_request m.id ++ (spelled_flag m.committed ++ (spelled_table m.table ++ (eight m.time ++ eight m.due)))

abbrev pub spelled_receive_start : ReceiveStart → List ℕ
spelled_receive_start m = spelled_request m.id ++ (spelled_string m.namespace ++ (spelled_range m.range ++ (four m.from ++ (spelled_table m.table ++ eight m.time))))

abbrev pub spelled_received : ReceivedBatch → List ℕ
spelled_received b = spelled_request b.id ++ (eight b.batch.number ++ (eight b.time ++ (spelled_bound b.batch.upto ++ spelled_list spelled_moved b.batch.docs)))

abbrev pub spelled_receive_done : ReceiveDone → List ℕ
spelled_receive_done r = spelled_request r.id ++ spelled_list spelled_session_record r.sessions

abbrev pub spelled_deletion : Deletion → List ℕ
spelled_deletion d = spelled_string d.namespace ++ (spelled_range d.range ++ eight d.until)

abbrev pub spelled_split : Split → List ℕ
spelled_split s = spelled_string s.namespace ++ (spelled_key_value s.middle ++ eight s.at)

abbrev pub spelled_commit : Commit → List ℕ
spelled_commit c = spelled_request c.id ++ (spelled_string c.namespace ++ (spelled_range c.range ++ (four c.from ++ (four c.to ++ eight c.at))))

abbrev pub spelled_resolve : Resolve → List ℕ
spelled_resolve r = spelled_request r.id ++ (spelled_string r.namespace ++ (spelled_range r.range ++ eight r.at))

abbrev pub spelled_purge : Purge → List ℕ
spelled_purge p = spelled_string p.namespace ++ (eight p.below ++ eight p.at)

-- a number that fits four bytes, and one that fits eight
abbrev pub FitsFour : ℕ → Type 0
FitsFour n = n < 2 ^ 32

abbrev pub FitsEight : ℕ → Type 0
FitsEight n = n < 2 ^ 64

pub record IsSoundRequest (r : RequestId) : Type 0 where
  pub router : FitsFour r.router
  pub life : FitsEight r.life
  pub count : FitsEight r.count

pub record IsSoundRange (r : Range) : Type 0 where
  pub min : IsSoundBound r.min
  pub max : IsSoundBound r.max

abbrev pub IsSoundOption : Option Fields → Type 0
IsSoundOption None = Unit {0}
IsSoundOption (Some document) = IsSoundDocument document

pub record IsSoundMoved (m : MovedDocument) : Type 0 where
  pub key : IsSoundKeyValue m.key
  pub document : IsSoundOption m.document

pub record IsSoundStatement (s : StatementRecord) : Type 0 where
  pub index : FitsFour s.index
  pub time : FitsEight s.time
  pub outcome : IsSoundOutcome s.outcome

pub record IsSoundSessionRecord (s : SessionRecord) : Type 0 where
  pub session : IsSoundSession s.session
  pub transaction : FitsSigned w64 s.transaction
  pub count : FitsFour (length s.statements)
  pub statements : AllByRecursion IsSoundStatement s.statements

pub record IsSoundMoveStart (m : MoveStart) : Type 0 where
  pub id : IsSoundRequest m.id
  pub namespace : IsNamespace m.namespace
  pub range : IsSoundRange m.range
  pub to : FitsFour m.to
  pub version : IsSoundVersion m.version
  pub time : FitsEight m.time

pub record IsSoundSection (s : Section) : Type 0 where
  pub id : IsSoundRequest s.id
  pub time : FitsEight s.time

pub record IsSoundMoveEnd (m : MoveEnd) : Type 0 where
  pub id : IsSoundRequest m.id
  pub table : IsSoundTable m.table
  pub time : FitsEight m.time
  pub due : FitsEight m.due

pub record IsSoundReceiveStart (m : ReceiveStart) : Type 0 where
  pub id : IsSoundRequest m.id
  pub namespace : IsNamespace m.namespace
  pub range : IsSoundRange m.range
  pub from : FitsFour m.from
  pub table : IsSoundTable m.table
  pub time : FitsEight m.time

pub record IsSoundReceived (b : ReceivedBatch) : Type 0 where
  pub id : IsSoundRequest b.id
  pub number : FitsEight b.batch.number
  pub time : FitsEight b.time
  pub upto : IsSoundBound b.batch.upto
  pub count : FitsFour (length b.batch.docs)
  pub docs : AllByRecursion IsSoundMoved b.batch.docs

pub record IsSoundReceiveDone (r : ReceiveDone) : Type 0 where
  pub id : IsSoundRequest r.id
  pub count : FitsFour (length r.sessions)
  pub sessions : AllByRecursion IsSoundSessionRecord r.sessions

pub record IsSoundDeletion (d : Deletion) : Type 0 where
  pub namespace : IsNamespace d.namespace
  pub range : IsSoundRange d.range
  pub until : FitsEight d.until

pub record IsSoundSplit (s : Split) : Type 0 where
  pub namespace : IsNamespace s.namespace
  pub middle : IsSoundKeyValue s.middle
  pub at : FitsEight s.at

pub record IsSoundCommit (c : Commit) : Type 0 where
  pub id : IsSoundRequest c.id
  pub namespace : IsNamespace c.namespace
  pub range : IsSoundRange c.range
  pub from : FitsFour c.from
  pub to : FitsFour c.to
  pub at : FitsEight c.at

pub record IsSoundResolve (r : Resolve) : Type 0 where
  pub id : IsSoundRequest r.id
  pub namespace : IsNamespace r.namespace
  pub range : IsSoundRange r.range
  pub at : FitsEight r.at

pub record IsSoundPurge (p : Purge) : Type 0 where
  pub namespace : IsNamespace p.namespace
  pub below : FitsEight p.below
  pub at : FitsEight p.at
