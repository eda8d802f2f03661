-- What a note has seen once the board was shown to it.
use Rattle.std.proofs.Common.{◌≡◌, ℕ, List, [], ◌∷◌, ◌++◌, map, refl, sym, ap, subst, append-nil}
use Rattle.std.specs.Prelude.{⊤}
use Rattle.std.specs.List.{AllByRecursion}
use Rattle.atomic_table.specs.Table.{Me}
use Rattle.node_traits.specs.declared.outputs.ToLink.{ToLink}
use Rattle.group_steps.specs.Parts.{Among}
use Rattle.history_model.proofs.Lists.{all_weaken}
use Rattle.node_cell.specs.declared.view.Safe.{Safe}
use Rattle.node_cell.specs.declared.view.View.{View}
use Rattle.node_cell.specs.Standing.{AreAmong, IsPart}
use Rattle.node_cell.specs.Views.{Sights, board_held, both_views, noted, safe_from, shown}
use Rattle.node_cell.proofs.Closing.{part_front, part_self}
use Rattle.node_cell.proofs.Lists.{all_unmap, among_behind, sits}

module _ {N L M I : Type 0} where
  -- a note, the board, and the note again
  abbrev after : View N L M I → Sights → View N L M I
  after n disks = both_views n (shown (both_views (noted n) (board_held (disks ∷ []))))

  pub shown_out : (n : View N L M I) (a next told own board both seen out : Me ⊤ (View N L M I)) (disks : Sights) → n ≡ a.0 → next ≡ a
      → told ≡ (noted a.0, []) → own ≡ (board_held (disks ∷ []), []) → board ≡ (board_held own.0.board, []) → both ≡ (both_views told.0 board.0, told.1)
      → seen ≡ (shown both.0, []) → out ≡ (both_views next.0 seen.0, next.1) → out.0 ≡ after n disks
  shown_out n a next told own board both seen out disks is same noted_is own_is board_is both_is seen_is out_is =
      rw (out_is, seen_is, both_is, board_is, own_is, noted_is, same, is) refl

  pub part_shown : (n : View N L M I) (disks : Sights) (out : View N L M I) → out ≡ after n disks → IsPart n out
  part_shown n disks out is =
      subst (λ (v : View N L M I). IsPart n v) (sym is) (part_front n n (shown (both_views (noted n) (board_held (disks ∷ [])))) (part_self n))

  -- its replies are safe
  pub safe_shown : (n : View N L M I) (disks : Sights) (out : View N L M I) → out ≡ after n disks
      → AllByRecursion (λ r. Among (safe_from disks r) out.safe) n.told
  safe_shown n disks out is =
      let marks = map (λ r. safe_from disks r) n.told in
      let told : map (λ r. safe_from disks r) (n.told ++ []) ≡ marks = ap (λ (l : List (ℕ × ToLink)). map (λ r. safe_from disks r) l) (append-nil n.told) in
      let all : AreAmong marks (n.safe ++ ((n.safe ++ []) ++ marks)) =
      all_weaken (λ x. Among x ((n.safe ++ []) ++ marks)) (λ x. Among x (n.safe ++ ((n.safe ++ []) ++ marks))) marks
      (λ x there. among_behind x n.safe ((n.safe ++ []) ++ marks) there) (sits (n.safe ++ []) marks) in
      subst (λ (v : View N L M I). AllByRecursion (λ r. Among (safe_from disks r) v.safe) n.told) (sym is)
      (subst (λ (l : List Safe). AllByRecursion (λ r. Among (safe_from disks r) (n.safe ++ ((n.safe ++ []) ++ l))) n.told) (sym told)
      (all_unmap (λ r. safe_from disks r) (λ x. Among x (n.safe ++ ((n.safe ++ []) ++ marks))) n.told all))
