-- What is known of a run, as plain data (own).
use Rattle.std.specs.Prelude.{⊤, ◌≡◌, ℕ, ◌+◌, ◌%◌, ◌^◌, ◌==◌, List, [], ◌∷◌, ◌++◌, map, Option, Some, None, if◌then◌else◌}
use Rattle.std.specs.List.{slice_set}
use Rattle.atomic_table.specs.Table.{Me, Step as TableStep}
use Rattle.driver_steps.specs.declared.seat.Seat.{Seat}
use Rattle.node_traits.specs.declared.outputs.ToLink.{ToLink}
use Rattle.group_steps.specs.declared.group.Part.{Part}
use Rattle.outside.specs.Logs.{LogFacts}
use Rattle.node_cell.specs.declared.view.Safe.{Safe}
use Rattle.node_cell.specs.declared.view.Taken.{Taken}
use Rattle.node_cell.specs.declared.view.View.{View}

-- the disks of all nodes, in order: where each is, and a moment of its clock
abbrev pub Sights : Type 0
Sights = List (List ℕ × ℕ)

-- the disk of a log, at the moment of its clock
abbrev pub sight_of : {L : Type 0} → LogFacts L → L → List ℕ × ℕ
sight_of facts log = (facts.place log, facts.moment log)

abbrev pub sights_of : {N L : Type 0} → LogFacts L → List (Seat N L) → Sights
sights_of facts seats = map (λ s. sight_of facts s.log) seats

abbrev pub view_of : {N L M I : Type 0} → (held : List (ℕ × Seat N L)) → (board : List Sights) → (seen : List M) → (told : List (ℕ × ToLink))
    → (taken : List (Taken I)) → (safe : List Safe) → View N L M I
view_of held board seen told taken safe = record { held = held; board = board; seen = seen; told = told; taken = taken; safe = safe }

abbrev pub nothing_seen : {N L M I : Type 0} → View N L M I
nothing_seen = view_of [] [] [] [] [] []

-- these nodes, of which nothing was seen yet
abbrev pub nodes_held : {N L M I : Type 0} → List (ℕ × Seat N L) → View N L M I
nodes_held held = view_of held [] [] [] [] []

-- the board alone
abbrev pub board_held : {N L M I : Type 0} → List Sights → View N L M I
board_held board = view_of [] board [] [] [] []

-- the same without nodes and without the board
abbrev pub noted : {N L M I : Type 0} → View N L M I → View N L M I
noted v = view_of [] [] v.seen v.told v.taken v.safe

-- the same without the board
abbrev pub board_off : {N L M I : Type 0} → View N L M I → View N L M I
board_off v = view_of v.held [] v.seen v.told v.taken v.safe

abbrev pub both_views : {N L M I : Type 0} → View N L M I → View N L M I → View N L M I
both_views v w = view_of (v.held ++ w.held) (v.board ++ w.board) (v.seen ++ w.seen) (v.told ++ w.told) (v.taken ++ w.taken) (v.safe ++ w.safe)

-- a reply of the step with a number is safe from these moments of the disks on
abbrev pub safe_from : Sights → ℕ × ToLink → Safe
safe_from disks told = record { number = told.0; reply = told.1; disks = disks }

-- the replies that were seen are safe from what the board shows on
abbrev pub safe_by : List Sights → List (ℕ × ToLink) → List Safe
safe_by [] told = []
safe_by (disks ∷ []) told = map (λ r. safe_from disks r) told
safe_by (disks ∷ other ∷ more) told = []

-- a note that has seen that the replies are safe
abbrev pub shown : {N L M I : Type 0} → View N L M I → View N L M I
shown v = view_of [] [] v.seen v.told v.taken (v.safe ++ safe_by v.board v.told)

-- the pass holds no slot of the table, and not the board
abbrev pub IsFree : {N L M I : Type 0} → Me ⊤ (View N L M I) → Type 0
IsFree me = (me.1 ≡ []) × (me.0.board ≡ [])

-- the first with a number, where there is one
abbrev pub holder : {S : Type 0} → ℕ → List (ℕ × S) → Option S
holder k [] = None
holder k (x ∷ held) = if x.0 == k then Some x.1 else holder k held

abbrev pub numbered : {S : Type 0} → ℕ → List S → List (ℕ × S)
numbered k [] = []
numbered k (s ∷ seats) = (k, s) ∷ numbered (k + 1) seats

-- a pass that has the nodes at the start, and the board
abbrev pub all_at_start : {N L M I : Type 0} → LogFacts L → List (Seat N L) → View N L M I
all_at_start facts seats = view_of (numbered 0 seats) (sights_of facts seats ∷ []) [] [] [] []

abbrev pub without : {S : Type 0} → ℕ → List (ℕ × S) → List (ℕ × S)
without k [] = []
without k (x ∷ held) = if x.0 == k then without k held else x ∷ without k held

-- all but the first with its number, and it alone
abbrev pub first_off : {S : Type 0} → List (ℕ × S) → List (ℕ × S)
first_off [] = []
first_off (x ∷ held) = without x.0 held

abbrev pub first_alone : {S : Type 0} → List (ℕ × S) → List (ℕ × S)
first_alone [] = []
first_alone (x ∷ held) = x ∷ []

-- Steps of the node at a place, one after another: each with its input, its messages and its replies; and the node with its log after them, and its disk.
pub record Given (N L M I : Type 0) : Type 0 where
  pub at : ℕ
  pub parts : List (Part M I)
  pub new : Seat N L
  pub sight : List ℕ × ℕ

abbrev pub given_by : {N L M I : Type 0} → LogFacts L → (at : ℕ) → List (Part M I) → Seat N L → Given N L M I
given_by facts at parts new = record { at = at; parts = parts; new = new; sight = sight_of facts new.log }

-- the disk at a place is seen anew
abbrev pub seen_anew : (at : ℕ) → List ℕ × ℕ → List Sights → List Sights
seen_anew at sight board = map (λ disks. slice_set disks at sight) board

abbrev pub renewed : {S : Type 0} → List (ℕ × S) → S → List (ℕ × S)
renewed [] s = []
renewed (x ∷ held) s = (x.0, s) ∷ held

-- the messages of steps
abbrev pub mail_of : {M I : Type 0} → List (Part M I) → List M
mail_of [] = []
mail_of (p ∷ parts) = p.outputs.mail ++ mail_of parts

-- the number of the next step, as the counter counts
abbrev pub next_number : ℕ → ℕ
next_number number = (number + 1) % 2 ^ 64

-- the replies of steps, of which the first has this number
abbrev pub told_from : {M I : Type 0} → (number : ℕ) → List (Part M I) → List (ℕ × ToLink)
told_from number [] = []
told_from number (p ∷ parts) = map (λ r. (number, r)) p.outputs.replies ++ told_from (next_number number) parts

-- the steps themselves
abbrev pub taken_from : {M I : Type 0} → (number at : ℕ) → List (Part M I) → List (Taken I)
taken_from number at [] = []
taken_from number at (p ∷ parts) = record { number = number; at = at; input = p.input.value } ∷ taken_from (next_number number) at parts

-- what is known after steps, of which the first has this number
abbrev pub after_steps : {N L M I : Type 0} → Given N L M I → (number : ℕ) → View N L M I → View N L M I
after_steps g number v =
    view_of (renewed v.held g.new) (seen_anew g.at g.sight v.board) (v.seen ++ mail_of g.parts) (v.told ++ told_from number g.parts)
    (v.taken ++ taken_from number g.at g.parts) v.safe

-- the steps that were given are taken, with the number that was found and those after it
abbrev pub takes : {N L M I : Type 0} → Option (Given N L M I) → TableStep ⊤ → Me ⊤ (View N L M I) → (found : ℕ) → Me ⊤ (View N L M I) → Type 0
takes None s me found left = Unit {0}
takes (Some g) s me found left = left ≡ (after_steps g found me.0, me.1)
