-- Which cursors are open on a shelf.
use Rattle.std.specs.Prelude.{ℕ, ℤ, List, Option}
use Rattle.std.specs.BTreeMap.{get_by}
use Rattle.std.specs.Ordering.{int_cmp}
use Rattle.cursor_shelf.specs.Cursors.{OpenCursor, under}
use Rattle.cursor_shelf.specs.declared.shelf.Shelf.{Shelf}

-- the cursor of that id
unfoldable pub cursor_in : Shelf → ℤ → Option OpenCursor
cursor_in shelf id = get_by (int_cmp id) shelf.cursors

-- the cursor of that id, where it belongs to that namespace
abbrev pub cursor_under : Shelf → ℤ → List ℕ → Option OpenCursor
cursor_under shelf id namespace = under namespace (cursor_in shelf id)
