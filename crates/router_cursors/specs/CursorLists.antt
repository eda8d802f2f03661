-- The cursors of a router, by the definitions.
use Rattle.std.specs.Prelude.{◌≡◌, ◌≤◌, ◌^◌, ℕ, ℤ, pos, List, [], ◌∷◌, drop, map, Bool, Option, Some, None, if◌then◌else◌}
use Rattle.std.specs.Arc.{arc_value}
use Rattle.cursor_shelf.specs.Cursors.{OpenCursor}
use Rattle.cursor_shelf.specs.Shelves.{cursor_in}
use Rattle.cursor_shelf.specs.declared.shelf.Batch as shelves
use Rattle.reply_model.specs.Cursors.{Cursor, has_number, with_remaining}
use Rattle.command_model.specs.Cursors.{Batch}
use Rattle.base_model.specs.Identities.{RequestId}
use Rattle.router_cursors.specs.Marks.{cursor_by}
use Rattle.router_cursors.specs.Numbers.{number_given}
use Rattle.router_cursors.specs.declared.list.CursorList.{CursorList}

-- how many blocks of numbers were written, and the last number that was used
abbrev pub blocks_of : CursorList → ℕ
blocks_of list = list.blocks

abbrev pub gave_of : CursorList → ℕ
gave_of list = list.gave

-- the cursors that this router opened in this one of its lives
abbrev pub cursors_of : (router life : ℕ) → CursorList → List Cursor
cursors_of router life list = map (λ m. cursor_by router life (λ i. cursor_in list.shelf i) m) list.opened.items

-- there is room for the next cursor, on documents of a namespace at a time
abbrev pub HasRoomFor : CursorList → (namespace : List ℕ) → (time : ℕ) → Type 0
HasRoomFor list namespace time =
    (number_given list.blocks list.gave ≤ 2 ^ 62)
    × (cursor_in list.shelf (pos (number_given list.blocks list.gave)) ≡ Some (record { namespace = namespace; time = time; remaining = [] }))

-- the cursors after these were closed, one after another
abbrev pub closed_all : RequestId → List ℤ → List Cursor → List Cursor
closed_all id [] cursors = cursors
closed_all id (number ∷ numbers) cursors = closed_all id numbers (with_remaining id number [] cursors)

-- the cursors after this number of documents of one were shown
abbrev pub advanced : RequestId → ℤ → (count : ℕ) → List Cursor → List Cursor
advanced id number count [] = []
advanced id number count (c ∷ cursors) =
    if has_number id number c then record { router = c.router; life = c.life; number = c.number; namespace = c.namespace; time = c.time; remaining = drop count c.remaining } ∷ cursors
    else c ∷ advanced id number count cursors

-- the batch of the cursor of this number, in that namespace, from the shelf's
abbrev pub batch_of : (number : ℤ) → (namespace : List ℕ) → shelves.Batch → Batch
batch_of number namespace b = record { cursor = if b.is_last then pos 0 else number; namespace = namespace; documents = map arc_value b.documents.items; time = b.time.0 }
