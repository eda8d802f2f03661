-- One after another.
use Rattle.std.proofs.Common.{◌≡◌, pos, [], ◌∷◌, refl, codes}
use Rattle.std.specs.Prelude.{false, negsuc}
use Rattle.command_laws.specs.SampleRequests.{with_id}
use Rattle.reply_model.specs.Cursors.{kills_none, kills, misses}
use Rattle.reply_model.specs.Right.{right_kill}
use Rattle.reply_laws.specs.SampleReads.{killing, open_with, told_killed, two}
use Rattle.reply_laws.proofs.SortedFinds.{killed_right}
use Rattle.reply_laws.proofs.cursor_examples.closed_cursors.Goals as goal

pub returns-clause-closed : goal.returns-clause-closed
returns-clause-closed c =
    right_kill (record { namespace = codes "d.c"; cursors = pos 1 ∷ pos 1 ∷ pos 2 ∷ negsuc 0 ∷ [] }) (pos 1 ∷ []) (pos 1 ∷ pos 2 ∷ negsuc 0 ∷ [])
    (open_with [] ∷ []) refl
    (kills (open_with (with_id two ∷ []) ∷ []) (open_with [] ∷ []) (pos 1) (pos 1 ∷ pos 2 ∷ negsuc 0 ∷ []) [] (pos 1 ∷ pos 2 ∷ negsuc 0 ∷ [])
    (open_with (with_id two ∷ [])) refl
    (misses (open_with [] ∷ []) (open_with [] ∷ []) (pos 1) (pos 2 ∷ negsuc 0 ∷ []) [] (pos 2 ∷ negsuc 0 ∷ []) refl
    (misses (open_with [] ∷ []) (open_with [] ∷ []) (pos 2) (negsuc 0 ∷ []) [] (negsuc 0 ∷ []) refl
    (misses (open_with [] ∷ []) (open_with [] ∷ []) (negsuc 0) [] [] [] refl (kills_none (open_with [] ∷ [])))))) refl

pub returns-clause-twice : goal.returns-clause-twice
returns-clause-twice c next right =
    let e : pos 1 ∷ pos 1 ∷ [] ≡ pos 1 ∷ [] =
    killed_right [] [] (open_with (with_id two ∷ []) ∷ []) next (killing false (codes "c") (pos 1 ∷ pos 1 ∷ []))
    (told_killed (killing false (codes "c") (pos 1 ∷ pos 1 ∷ [])) (pos 1 ∷ pos 1 ∷ []) [])
    (record { namespace = codes "d.c"; cursors = pos 1 ∷ pos 1 ∷ [] }) (pos 1 ∷ pos 1 ∷ []) [] refl refl right in cc

pub returns-clause-elsewhere : goal.returns-clause-elsewhere
returns-clause-elsewhere c =
    right_kill (record { namespace = codes "d.b"; cursors = pos 1 ∷ [] }) [] (pos 1 ∷ []) (open_with (with_id two ∷ []) ∷ []) refl
    (misses (open_with (with_id two ∷ []) ∷ []) (open_with (with_id two ∷ []) ∷ []) (pos 1) [] [] [] refl
    (kills_none (open_with (with_id two ∷ []) ∷ []))) refl

pub returns-clause-closed_elsewhere : goal.returns-clause-closed_elsewhere
returns-clause-closed_elsewhere c next right =
    let e : pos 1 ∷ [] ≡ [] =
    killed_right [] [] (open_with (with_id two ∷ []) ∷ []) next (killing false (codes "b") (pos 1 ∷ []))
    (told_killed (killing false (codes "b") (pos 1 ∷ [])) (pos 1 ∷ []) [])
    (record { namespace = codes "d.b"; cursors = pos 1 ∷ [] }) (pos 1 ∷ []) [] refl refl right in cc
