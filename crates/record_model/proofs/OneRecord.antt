-- Bytes encode one record.
use Rattle.std.proofs.Common.{◌≡◌, ℕ, ◌<◌, ◌^◌, List, [], ◌++◌, ap, arith}
use Rattle.record_model.specs.Records.{Record, table_record, entry_record, ceiling_record, floor_record, move_start_record, section_record, move_end_record, released_record, receive_start_record, batch_record, receive_done_record, receive_end_record, deletion_record, create_record, split_record, commit_record, resolve_record, purge_record, catalogue_ceiling_record, life_record, block_record}
use Rattle.record_model.specs.PartFormat.{eight, spelled_table, IsSoundTable}
use Rattle.record_model.specs.MoveFormat.{spelled_request, spelled_move_start, spelled_section, spelled_move_end, spelled_receive_start, spelled_received, spelled_receive_done, spelled_deletion, spelled_split, spelled_commit, spelled_resolve, spelled_purge, IsSoundRequest, IsSoundMoveStart, IsSoundSection, IsSoundMoveEnd, IsSoundReceiveStart, IsSoundReceived, IsSoundReceiveDone, IsSoundDeletion, IsSoundSplit, IsSoundCommit, IsSoundResolve, IsSoundPurge}
use Rattle.record_model.specs.RecordFormat.{spelled, IsSound}
use Rattle.record_model.proofs.Prefixes.{first_byte, behind, same_eight, same_entry, same_creation}
use Rattle.record_model.proofs.TablePrefixes.{EndsItself, same_table}
use Rattle.record_model.proofs.MovePrefixes.{same_request, same_move_start, same_section, same_move_end, same_receive_start, same_received, same_receive_done, same_deletion, same_split, same_commit, same_resolve, same_purge}

same_count : (n m : ℕ) → n < 2 ^ 64 → m < 2 ^ 64 → eight n ≡ eight m → n ≡ m
same_count n m p q e = (same_eight n m [] [] p q (ap (λ (l : List ℕ). l ++ []) e)).0

-- what ends itself is determined by its bytes
alone : {X : Type 0} (spelled_item : X → List ℕ) (IsSoundItem : X → Type 0) → EndsItself spelled_item IsSoundItem → (a b : X) → IsSoundItem a → IsSoundItem b → spelled_item a ≡ spelled_item b → a ≡ b
alone spelled_item IsSoundItem item a b p q e = (item a b [] [] p q (ap (λ (l : List ℕ). l ++ []) e)).0

pub one_record : (a b : Record) → IsSound a → IsSound b → spelled 1 a ≡ spelled 1 b → a ≡ b
one_record (table_record a) (table_record b) p q e =
    ap table_record (alone spelled_table IsSoundTable same_table a b p q (behind 0x01 0x01 _ _ (behind 1 1 _ _ e)))
one_record (entry_record a) (entry_record b) p q e =
    ap entry_record (same_entry a b p q (behind 0x02 0x02 _ _ (behind 1 1 _ _ e)))
one_record (ceiling_record n) (ceiling_record m) p q e =
    ap ceiling_record (same_count n m p q (behind 0x03 0x03 _ _ (behind 1 1 _ _ e)))
one_record (floor_record n) (floor_record m) p q e =
    ap floor_record (same_count n m p q (behind 0x04 0x04 _ _ (behind 1 1 _ _ e)))
one_record (move_start_record a) (move_start_record b) p q e =
    ap move_start_record (alone spelled_move_start IsSoundMoveStart same_move_start a b p q (behind 0x05 0x05 _ _ (behind 1 1 _ _ e)))
one_record (section_record a) (section_record b) p q e =
    ap section_record (alone spelled_section IsSoundSection same_section a b p q (behind 0x06 0x06 _ _ (behind 1 1 _ _ e)))
one_record (move_end_record a) (move_end_record b) p q e =
    ap move_end_record (alone spelled_move_end IsSoundMoveEnd same_move_end a b p q (behind 0x07 0x07 _ _ (behind 1 1 _ _ e)))
one_record (released_record a) (released_record b) p q e =
    ap released_record (alone spelled_request IsSoundRequest same_request a b p q (behind 0x08 0x08 _ _ (behind 1 1 _ _ e)))
one_record (receive_start_record a) (receive_start_record b) p q e =
    ap receive_start_record (alone spelled_receive_start IsSoundReceiveStart same_receive_start a b p q (behind 0x09 0x09 _ _ (behind 1 1 _ _ e)))
one_record (batch_record a) (batch_record b) p q e =
    ap batch_record (alone spelled_received IsSoundReceived same_received a b p q (behind 0x0A 0x0A _ _ (behind 1 1 _ _ e)))
one_record (receive_done_record a) (receive_done_record b) p q e =
    ap receive_done_record (alone spelled_receive_done IsSoundReceiveDone same_receive_done a b p q (behind 0x0B 0x0B _ _ (behind 1 1 _ _ e)))
one_record (receive_end_record a) (receive_end_record b) p q e =
    ap receive_end_record (alone spelled_move_end IsSoundMoveEnd same_move_end a b p q (behind 0x0C 0x0C _ _ (behind 1 1 _ _ e)))
one_record (deletion_record a) (deletion_record b) p q e =
    ap deletion_record (alone spelled_deletion IsSoundDeletion same_deletion a b p q (behind 0x0D 0x0D _ _ (behind 1 1 _ _ e)))
one_record (create_record a) (create_record b) p q e =
    ap create_record (same_creation a b p q (behind 0x20 0x20 _ _ (behind 1 1 _ _ e)))
one_record (split_record a) (split_record b) p q e =
    ap split_record (alone spelled_split IsSoundSplit same_split a b p q (behind 0x21 0x21 _ _ (behind 1 1 _ _ e)))
one_record (commit_record a) (commit_record b) p q e =
    ap commit_record (alone spelled_commit IsSoundCommit same_commit a b p q (behind 0x22 0x22 _ _ (behind 1 1 _ _ e)))
one_record (resolve_record a) (resolve_record b) p q e =
    ap resolve_record (alone spelled_resolve IsSoundResolve same_resolve a b p q (behind 0x23 0x23 _ _ (behind 1 1 _ _ e)))
one_record (purge_record a) (purge_record b) p q e =
    ap purge_record (alone spelled_purge IsSoundPurge same_purge a b p q (behind 0x24 0x24 _ _ (behind 1 1 _ _ e)))
one_record (catalogue_ceiling_record n) (catalogue_ceiling_record m) p q e =
    ap catalogue_ceiling_record (same_count n m p q (behind 0x25 0x25 _ _ (behind 1 1 _ _ e)))
one_record (life_record n) (life_record m) p q e =
    ap life_record (same_count n m p q (behind 0x30 0x30 _ _ (behind 1 1 _ _ e)))
one_record (block_record n) (block_record m) p q e =
    ap block_record (same_count n m p q (behind 0x31 0x31 _ _ (behind 1 1 _ _ e)))
-- the second bytes differ
one_record a b p q e = absurd (omega (arith, first_byte _ _ _ _ (behind _ _ _ _ e)))
