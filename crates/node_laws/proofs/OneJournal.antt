-- The history is the first shard's journal: nothing moves yet, so that no other stores entries.
use Rattle.std.proofs.Common.{◌≡◌, ℕ, suc, List, [], ◌∷◌, Bool, refl, sym, ap, subst, ◌∙◌}
use Rattle.std.specs.Prelude.{true, false, map, ◌==◌}
use Rattle.std.specs.List.{AllByRecursion}
use Rattle.std.proofs.lemmas.Bool.{eqb-true, eqb-false}
use Rattle.history_model.proofs.Lists.{all_weaken}
use Rattle.chunk_model.specs.Tables.{first_shard}
use Rattle.history_model.specs.History.{Entry}
use Rattle.history_laws.specs.Merged.{merged, merged_with, IsRising, IsJournalOf}
use Rattle.history_laws.proofs.Merging.{one_alone}
use Rattle.history_laws.proofs.MergedLegal.{legal_journal}
use Rattle.reply_model.specs.OneHistory.{IsPlaced}
use Rattle.node_model.specs.Journal.{entries_kept}
use Rattle.node_model.specs.World.{Held, World, entries_at, history_of}
use Rattle.node_laws.proofs.Views.{Book, View, view_of, changes_in}
use Rattle.node_laws.proofs.Facts.{IsFirstAlone, InOrder, Good}
use Rattle.node_laws.proofs.CatalogueTables.{placed_first}
use Rattle.node_laws.proofs.Keeps.{the_shard}

-- the entries of each journal
abbrev journals_of : List Held → List (List Entry)
journals_of nodes = map (λ (h : Held). entries_kept h.kept) nodes

none_stored : (nodes : List Held) → ((at : ℕ) → entries_at nodes at ≡ []) → merged (journals_of nodes) ≡ []
none_stored [] none = refl
none_stored (h ∷ nodes) none =
    ap (λ l. merged_with l (merged (journals_of nodes))) (none 0) ∙ none_stored nodes (λ at. none (suc at))

first_stores : (nodes : List Held) → InOrder nodes → IsFirstAlone nodes → IsRising (entries_at nodes first_shard)
    → history_of nodes ≡ entries_at nodes first_shard
first_stores nodes (c, s, others, same, is_c, is_s) = subst
    (λ l. IsFirstAlone l → IsRising (entries_at l first_shard) → history_of l ≡ entries_at l first_shard) (sym same)
    (λ beside rising.
    ap (λ l. merged_with l (merged (journals_of (s ∷ others)))) (beside 0 (λ e. cc e))
    ∙ ap (λ l. merged_with (entries_kept s.kept) l) (none_stored others (λ at. beside (suc (suc at)) (λ e. cc e)))
    ∙ one_alone (entries_kept s.kept) rising)

-- the first shard's journal has its own entries, and they rise
first_is_own : (w : World) (book : Book) → Good w book → IsJournalOf first_shard (entries_at w.nodes first_shard)
first_is_own w book good =
    let v : View = view_of w.nodes book in
    let s = the_shard v w.asked w.answered w.given w.nodes good.order good.nodes in
    let own : AllByRecursion (λ (e : Entry). e.shard ≡ first_shard) s.shard.entries =
    all_weaken (IsPlaced (changes_in v)) (λ (e : Entry). e.shard ≡ first_shard) s.shard.entries (λ e p. placed_first (changes_in v) s.fits.still e p)
    s.fits.placed in
    subst (λ l. IsJournalOf first_shard l) (s.fits.entries ∙ sym (ap (λ k. entries_kept k) s.journal)) (legal_journal first_shard s.shard.entries own s.fits.legal)

-- so has every journal
pub journals_are_own : (w : World) (book : Book) → Good w book → (at : ℕ) → IsJournalOf at (entries_at w.nodes at)
journals_are_own w book good at = by_place (at == first_shard) refl
  where
    by_place : (b : Bool) → (at == first_shard) ≡ b → IsJournalOf at (entries_at w.nodes at)
    by_place true is = subst (λ n. IsJournalOf n (entries_at w.nodes n)) (sym (eqb-true at first_shard is)) (first_is_own w book good)
    by_place false is = subst (λ l. IsJournalOf at l) (sym (good.beside at (eqb-false at first_shard is))) (record { own = tt; rising = tt })

pub history_is : (w : World) (book : Book) → Good w book → history_of w.nodes ≡ entries_at w.nodes first_shard
history_is w book good = first_stores w.nodes good.order good.beside (first_is_own w book good).rising
