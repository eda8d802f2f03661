-- The cursors that were opened, each with its namespace and its mark, and the documents that a shelf has of them.
use Rattle.std.specs.Prelude.{◌≡◌, ℕ, ℤ, pos, List, [], ◌∷◌, Bool, true, false, ◌&&◌, Option, Some, None, int_le, nat_le, nat_lt, if◌then◌else◌}
use Rattle.std.specs.Ordering.{int_eq}
use Rattle.cursor_shelf.specs.Cursors.{OpenCursor}
use Rattle.bson_model.specs.Tree.{Fields}
use Rattle.reply_model.specs.Cursors.{Cursor}
use Rattle.router_cursors.specs.declared.mark.Mark.{Mark}

abbrev pub Marked : Type 0
Marked = List ℕ × Mark

-- each number is greater than the one before, the first is greater than `least`, and none is greater than `greatest`
abbrev pub rises : (least greatest : ℕ) → List Marked → Bool
rises least greatest [] = nat_le least greatest
rises least greatest (m ∷ marks) = nat_lt least m.1.number && rises m.1.number greatest marks

-- the namespace and the time of the cursor with this number
abbrev pub mark_of : ℤ → List Marked → Option (List ℕ × ℕ)
mark_of number [] = None
mark_of number (m ∷ marks) = if int_eq (pos m.1.number) number then Some (m.0, m.1.time.0) else mark_of number marks

abbrev pub is_left : List Fields → Bool
is_left [] = false
is_left (document ∷ documents) = true

-- what a shelf has under each number, up to this one, is a cursor that was opened and has documents left
abbrev pub AreKept : (ℤ → Option OpenCursor) → (gave : ℕ) → List Marked → Type 0
AreKept look gave marks =
    (number : ℤ) (c : OpenCursor) → look number ≡ Some c → int_le number (pos gave) ≡ true → (mark_of number marks ≡ Some (c.namespace, c.time)) × (is_left c.remaining ≡ true)

abbrev pub left_in : Option OpenCursor → List Fields
left_in None = []
left_in (Some c) = c.remaining

-- a cursor that was opened by this router in this one of its lives, with the documents that a shelf has
abbrev pub cursor_by : (router life : ℕ) → (ℤ → Option OpenCursor) → Marked → Cursor
cursor_by router life look m = record { router = router; life = life; number = pos m.1.number; namespace = m.0; time = m.1.time.0; remaining = left_in (look (pos m.1.number)) }
