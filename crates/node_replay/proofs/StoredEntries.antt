-- The history has the entries of each journal, and no others.
use Rattle.std.proofs.Common.{◌⊎◌, inl, inr, List, ◌∷◌, [], sym, subst}
use Rattle.std.specs.Prelude.{map}
use Rattle.history_laws.proofs.Merging.{all_with, in_a_journal, in_merged}
use Rattle.history_laws.specs.Merged.{merged}
use Rattle.history_model.proofs.Lists.{all_at, all_from}
use Rattle.history_model.specs.History.{Entry, IsIn}
use Rattle.node_model.specs.Journal.{entries_kept}
use Rattle.node_model.specs.World.{Held, history_of}

abbrev journals_of : List Held → List (List Entry)
journals_of nodes = map (λ (h : Held). entries_kept h.kept) nodes

-- an entry of the first journal
pub in_first_journal : (e : Entry) (h : Held) (nodes : List Held) → IsIn e (entries_kept h.kept) → IsIn e (history_of (h ∷ nodes))
in_first_journal e h nodes i = in_merged e (entries_kept h.kept) [] (journals_of nodes) i

-- an entry of a later one
pub in_later_journals : (e : Entry) (h : Held) (nodes : List Held) → IsIn e (history_of nodes) → IsIn e (history_of (h ∷ nodes))
in_later_journals e h nodes i =
    by_journal (all_at (λ (x : Entry). (journal : List Entry) × IsIn journal (journals_of nodes) × IsIn x journal) e (history_of nodes)
    (in_a_journal (journals_of nodes)) i)
  where
    by_journal : (journal : List Entry) × IsIn journal (journals_of nodes) × IsIn e journal → IsIn e (history_of (h ∷ nodes))
    by_journal (journal, (before, after, same), own) =
        subst (λ l. IsIn e (merged (entries_kept h.kept ∷ l))) (sym same) (in_merged e journal (entries_kept h.kept ∷ before) after own)

-- an entry is of the first journal or of a later one
pub of_history : (e : Entry) (h : Held) (nodes : List Held) → IsIn e (history_of (h ∷ nodes)) → IsIn e (entries_kept h.kept) ⊎ IsIn e (history_of nodes)
of_history e h nodes i =
    let P : Entry → Type 0 = λ x. IsIn x (entries_kept h.kept) ⊎ IsIn x (history_of nodes) in
    all_at P e (history_of (h ∷ nodes))
    (all_with P (entries_kept h.kept) (history_of nodes) (all_from P (entries_kept h.kept) (λ x own. inl own))
    (all_from P (history_of nodes) (λ x other. inr other)))
    i
