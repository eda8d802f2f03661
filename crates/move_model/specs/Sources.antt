-- What the source of a moving range keeps of the copy, while clients go on writing (MongoDB manual, "Chunk Migration
-- Procedure": documents are copied, then what changed meanwhile; numbers, cursor and changed keys are own).
use Rattle.std.specs.Prelude.{◌≡◌, ℕ, List, [], ◌∷◌, Bool, true, false, ◌&&◌, ◌||◌, ◌==◌, not, if◌then◌else◌}
use Rattle.std.specs.List.{list_any}
use Rattle.std.specs.List.Sorted.{IsStrictlySortedBy}
use Rattle.std.specs.Ordering.{is_le, is_lt}
use Rattle.bson_model.specs.Tree.{Datum}
use Rattle.value_model.specs.Order.{order, same_value}
use Rattle.value_model.specs.Keys.{Bound, min_bound, key_bound, order_bounds, Range, range_span, inside}

pub record Source : Type 0 where
  -- the keys that move
  pub range : Range
  -- the number of the last batch that was handed out; 0 before the first
  pub number : ℕ
  -- the keys of the range up to it were handed out
  pub cursor : Bound
  -- keys that were written after they were handed out, in key order
  pub changed : List Datum
  -- the last batch is not answered yet
  pub unanswered : Bool

-- Up to the cursor: at the cursor `At k` this includes k itself, at the end of a range it is each key of the range, and at
-- MinKey, where a copy starts, no key.
abbrev pub is_up_to : Bound → Datum → Bool
is_up_to cursor key = is_le (order_bounds (key_bound key) cursor)

-- the key is one of the range, and was handed out
abbrev pub is_handed_out : Source → Datum → Bool
is_handed_out s key = inside (range_span s.range) key && is_up_to s.cursor key

-- the key is one of these; keys that compare equal are one
abbrev pub has_key : Datum → List Datum → Bool
has_key key keys = list_any (λ k. same_value k key) keys

-- the keys rise, so that each is there once
abbrev pub AreRising : List Datum → Type 0
AreRising keys = IsStrictlySortedBy order keys

-- before the first batch
abbrev pub source_start : Range → Source
source_start range = record { range = range; number = 0; cursor = min_bound; changed = []; unanswered = false }

-- What a write of the key changes: the key is among the changed keys from then on, if it was handed out; nothing else.
pub record Marks (key : Datum) (old new : Source) : Type 0 where
  pub range : new.range ≡ old.range
  pub number : new.number ≡ old.number
  pub cursor : new.cursor ≡ old.cursor
  pub unanswered : new.unanswered ≡ old.unanswered
  pub rising : AreRising new.changed
  pub changed : (q : Datum) → has_key q new.changed ≡ ((is_handed_out old key && same_value key q) || has_key q old.changed)

-- the batch of that number is answered; any but the unanswered one changes nothing
abbrev pub source_answered : ℕ → Source → Source
source_answered number s = record {
  range = s.range;
  number = s.number;
  cursor = s.cursor;
  changed = s.changed;
  unanswered = s.unanswered && not (s.number == number);
}

-- how far the copy is
pub data Stage : Type 0 where
  -- this batch is not answered
  unanswered_stage : ℕ → Stage
  -- the next batch may be handed out, and the cursor is before the end of the range
  ready_stage : Stage
  -- the cursor is at the end; whether a changed key is left to hand out
  at_end_stage : Bool → Stage

abbrev pub has_some : List Datum → Bool
has_some [] = false
has_some (key ∷ keys) = true

abbrev pub stage_of : Source → Stage
stage_of s =
    if s.unanswered then unanswered_stage s.number
    else if is_lt (order_bounds s.cursor s.range.max) then ready_stage else at_end_stage (has_some s.changed)
