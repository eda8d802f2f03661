-- What the catalogue and the shard keep, as a router sees it.
use Rattle.std.proofs.Common.{◌≡◌, ◌≢◌, ℕ, ◌<◌, ◌≤◌, [], ◌++◌, refl, sym, ap, subst, arith, append-nil}
use Rattle.std.specs.List.{AllByRecursion}
use Rattle.history_model.proofs.Lists.{all_weaken}
use Rattle.chunk_model.specs.Changes.{time_of}
use Rattle.chunk_model.specs.Placement.{AreFitting}
use Rattle.chunk_model.specs.Tables.{first_shard}
use Rattle.reply_model.specs.OneHistory.{StandsInPart, IsPlaced, AreNumbered}
use Rattle.node_model.specs.Journal.{entries_kept, changes_kept}
use Rattle.node_model.specs.World.{World, journal_at}
use Rattle.node_laws.proofs.Views.{Book, View, view_of, changes_in, MovesNothing, Later, history_in, IsWithin}
use Rattle.node_laws.proofs.WriteFacts.{WasMade}
use Rattle.node_laws.proofs.Facts.{NeighboursFit, Good}
use Rattle.node_laws.proofs.Growth.{placed_grows, entry_grows}
use Rattle.node_laws.proofs.Keeps.{nodes_keep}

-- in a view in which only a router's journal is another
pub neighbours : (w : World) (book : Book) (at : ℕ) (v : View) → Good w book → first_shard < at → Later (view_of w.nodes book) v
    → ((p : ℕ) → p ≢ at → v.journal p ≡ journal_at w.nodes p)
    → NeighboursFit v w.asked
neighbours w book at v good place later others =
    let u : View = view_of w.nodes book in
    let k : NeighboursFit u w.asked = nodes_keep (view_of w.nodes book) w.asked w.answered w.given w.nodes good.order good.nodes (λ p. refl)
    (λ p. refl) good.one in
    let rises : u.bound 0 ≤ v.bound 0 = later.times 0 in
    let changes : changes_in v ≡ changes_in u = ap (λ l. changes_kept l) (others 0 (λ e. omega arith)) in
    let entries : history_in v ≡ history_in u = ap (λ l. entries_kept l) (others first_shard (λ e. omega arith)) in
    record {
      begun = record {
        fitting = subst (λ l. AreFitting l) (sym changes) k.begun.fitting;
        past = subst (λ l. AllByRecursion (λ x. time_of x ≤ v.bound 0) l) (sym changes)
            (all_weaken (λ x. time_of x ≤ u.bound 0) (λ x. time_of x ≤ v.bound 0) (changes_in u) (λ x l. omega arith) k.begun.past);
        still = subst (λ l. AllByRecursion MovesNothing l) (sym changes) k.begun.still;
      };
      one = k.one;
      past = subst (λ l. AllByRecursion (IsWithin v.bound) l) (sym entries)
          (all_weaken (IsWithin u.bound) (IsWithin v.bound) (history_in u)
          (λ e h. (h.0, (let within = h.1 in let risen : u.bound e.shard ≤ v.bound e.shard = later.times e.shard in omega (arith, within, risen)))) k.past);
      sent = subst (λ l. AllByRecursion (WasMade l w.asked v.reached) l) (sym entries)
          (all_weaken (WasMade (history_in u) w.asked u.reached) (WasMade (history_in u) w.asked v.reached) (history_in u)
          (λ e m. subst (λ n. WasMade (history_in u) w.asked n e) (sym later.reached.same)
          (subst (λ l. WasMade (history_in u) l (u.reached ++ later.reached.news) e) (append-nil w.asked)
          (entry_grows (history_in u) (history_in u) w.asked [] u.reached later.reached.news e (λ d i. i) m))) k.sent);
      numbers = subst (λ l. AreNumbered l) (sym entries) k.numbers;
      parts = subst (λ l. AllByRecursion (StandsInPart l) w.asked) (sym entries) k.parts;
      placed = subst (λ l. AllByRecursion (IsPlaced (changes_in v)) l) (sym entries)
          (all_weaken (IsPlaced (changes_in u)) (IsPlaced (changes_in v)) (history_in u) (λ e p. placed_grows u v e later k.begun.still p) k.placed);
    }
