-- The bytes of a record, in a format that is own: the format's number, the kind, and the fields. And which records have an encoding that
-- determines them.
use Rattle.std.specs.Prelude.{ℕ, ◌<◌, ◌^◌, List, ◌∷◌}
use Rattle.record_model.specs.Records.{Record, table_record, entry_record, ceiling_record, floor_record, move_start_record, section_record, move_end_record, released_record, receive_start_record, batch_record, receive_done_record, receive_end_record, deletion_record, create_record, split_record, commit_record, resolve_record, purge_record, catalogue_ceiling_record, life_record, block_record}
pub use Rattle.record_model.specs.PartFormat.{four, eight, spelled_string, key_document, spelled_key, spelled_session, spelled_number, spelled_operation, spelled_outcome, spelled_entry, spelled_creation, spelled_list, spelled_bound, spelled_version, spelled_owned, spelled_chunk, spelled_table, IsSpellable, IsSoundDocument, IsSoundKeyValue, IsSoundKey, IsSoundSession, IsSoundNumber, IsSoundOperation, IsSoundOutcome, IsSoundEntry, IsSoundCreation, IsSoundBound, IsSoundVersion, IsSoundOwned, IsSoundChunk, IsSoundTable}
use Rattle.record_model.specs.MoveFormat.{spelled_request, spelled_move_start, spelled_section, spelled_move_end, spelled_receive_start, spelled_received, spelled_receive_done, spelled_deletion, spelled_split, spelled_commit, spelled_resolve, spelled_purge, IsSoundRequest, IsSoundMoveStart, IsSoundSection, IsSoundMoveEnd, IsSoundReceiveStart, IsSoundReceived, IsSoundReceiveDone, IsSoundDeletion, IsSoundSplit, IsSoundCommit, IsSoundResolve, IsSoundPurge}

-- the byte of the kind of a record
abbrev pub kind_byte : Record → ℕ
kind_byte (table_record t) = 0x01
kind_byte (entry_record e) = 0x02
kind_byte (ceiling_record n) = 0x03
kind_byte (floor_record n) = 0x04
kind_byte (move_start_record m) = 0x05
kind_byte (section_record s) = 0x06
kind_byte (move_end_record m) = 0x07
kind_byte (released_record id) = 0x08
kind_byte (receive_start_record m) = 0x09
kind_byte (batch_record b) = 0x0A
kind_byte (receive_done_record r) = 0x0B
kind_byte (receive_end_record m) = 0x0C
kind_byte (deletion_record d) = 0x0D
kind_byte (create_record c) = 0x20
kind_byte (split_record s) = 0x21
kind_byte (commit_record c) = 0x22
kind_byte (resolve_record r) = 0x23
kind_byte (purge_record p) = 0x24
kind_byte (catalogue_ceiling_record n) = 0x25
kind_byte (life_record n) = 0x30
kind_byte (block_record n) = 0x31

abbrev pub spelled_fields : Record → List ℕ
spelled_fields (table_record t) = spelled_table t
spelled_fields (entry_record e) = spelled_entry e
spelled_fields (ceiling_record n) = eight n
spelled_fields (floor_record n) = eight n
spelled_fields (move_start_record m) = spelled_move_start m
spelled_fields (section_record s) = spelled_section s
spelled_fields (move_end_record m) = spelled_move_end m
spelled_fields (released_record id) = spelled_request id
spelled_fields (receive_start_record m) = spelled_receive_start m
spelled_fields (batch_record b) = spelled_received b
spelled_fields (receive_done_record r) = spelled_receive_done r
spelled_fields (receive_end_record m) = spelled_move_end m
spelled_fields (deletion_record d) = spelled_deletion d
spelled_fields (create_record c) = spelled_creation c
spelled_fields (split_record s) = spelled_split s
spelled_fields (commit_record c) = spelled_commit c
spelled_fields (resolve_record r) = spelled_resolve r
spelled_fields (purge_record p) = spelled_purge p
spelled_fields (catalogue_ceiling_record n) = eight n
spelled_fields (life_record n) = eight n
spelled_fields (block_record n) = eight n

-- a record in a format
abbrev pub spelled : ℕ → Record → List ℕ
spelled format r = format ∷ kind_byte r ∷ spelled_fields r

-- numbers fit their bytes, namespaces and keys are of their form, and documents are those that can be stored, encoded by their bytes
abbrev pub IsSound : Record → Type 0
IsSound (table_record t) = IsSoundTable t
IsSound (entry_record e) = IsSoundEntry e
IsSound (ceiling_record n) = n < 2 ^ 64
IsSound (floor_record n) = n < 2 ^ 64
IsSound (move_start_record m) = IsSoundMoveStart m
IsSound (section_record s) = IsSoundSection s
IsSound (move_end_record m) = IsSoundMoveEnd m
IsSound (released_record id) = IsSoundRequest id
IsSound (receive_start_record m) = IsSoundReceiveStart m
IsSound (batch_record b) = IsSoundReceived b
IsSound (receive_done_record r) = IsSoundReceiveDone r
IsSound (receive_end_record m) = IsSoundMoveEnd m
IsSound (deletion_record d) = IsSoundDeletion d
IsSound (create_record c) = IsSoundCreation c
IsSound (split_record s) = IsSoundSplit s
IsSound (commit_record c) = IsSoundCommit c
IsSound (resolve_record r) = IsSoundResolve r
IsSound (purge_record p) = IsSoundPurge p
IsSound (catalogue_ceiling_record n) = n < 2 ^ 64
IsSound (life_record n) = n < 2 ^ 64
IsSound (block_record n) = n < 2 ^ 64
