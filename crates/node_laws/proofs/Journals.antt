-- A step makes one journal longer.
use Rattle.std.proofs.Common.{◌≡◌, ◌≢◌, ℕ, zero, suc, ◌≤◌, List, [], ◌∷◌, ◌++◌, refl, sym, ap, subst, arith, append-nil, append_assoc, ◌∙◌, Bool}
use Rattle.std.specs.Prelude.{Some, true, false, ◌==◌}
use Rattle.std.specs.List.{AllByRecursion, slice_get, slice_set}
use Rattle.std.proofs.lemmas.Bool.{eqb-true, eqb-false}
use Rattle.reply_model.specs.Cursors.{Cursor}
use Rattle.reply_model.specs.Accounts.{Given, Missed}
use Rattle.history_model.proofs.Lists.{all_weaken}
use Rattle.node_model.specs.Journal.{Kept, greatest_kept}
use Rattle.node_model.specs.States.{NodeState, time_of_node}
use Rattle.node_model.specs.World.{Held, journal_at}
use Rattle.node_model.proofs.Journals.{journal_here, journal_got}
use Rattle.node_laws.proofs.Views.{Choice, Reach, Book, View, view_of, IsAbove, Longer, More, Later}
use Rattle.node_laws.proofs.GreatestTimes.{above_less, greatest_front}

abbrev pub with_more : Held → List Kept → NodeState → (steps : ℕ) → Held
with_more old written new steps = record { state = new; kept = old.kept ++ written; steps = steps }

pub more_self : {X : Type 0} (xs : List X) → More xs xs
more_self xs = record { news = []; same = sym (append-nil xs) }

pub more_then : {X : Type 0} (xs ys zs : List X) → More xs ys → More ys zs → More xs zs
more_then xs ys zs f g =
    record { news = f.news ++ g.news; same = g.same ∙ ap (λ l. l ++ g.news) f.same ∙ append_assoc xs f.news g.news }

pub longer_self : (at time : ℕ) (kept : List Kept) → Longer at time kept kept
longer_self at time kept = record { written = []; same = sym (append-nil kept); rises = tt }

pub later_self : (v : View) → Later v v
later_self v = record {
  longer = λ at. longer_self at (v.bound at) (v.journal at);
  times = λ at. omega arith;
  decided = more_self v.chosen;
  given = more_self v.given;
  missed = more_self v.missed;
  reached = more_self v.reached;
}

-- JOURNALS AND TIMES BY PLACE

-- the other journals stay
pub journal_else : (nodes : List Held) (at : ℕ) (new : Held) (p : ℕ) → p ≢ at → journal_at (slice_set nodes at new) p ≡ journal_at nodes p
journal_else [] at new p other = refl
journal_else (h ∷ nodes) zero new zero other = absurd (other refl)
journal_else (h ∷ nodes) zero new (suc p) other = refl
journal_else (h ∷ nodes) (suc at) new zero other = refl
journal_else (h ∷ nodes) (suc at) new (suc p) other = journal_else nodes at new p (λ e. other (ap suc e))

-- A LATER VIEW

-- a journal with more after it
with_written : (at : ℕ) (old : List Kept) (written : List Kept) → AllByRecursion (IsAbove at (greatest_kept old)) written
    → Longer at (greatest_kept old) old (old ++ written)
with_written at old written rises = record { written = written; same = refl; rises = rises }

longer_at : (nodes : List Held) (at : ℕ) (old : Held) (written : List Kept) (new : NodeState) (steps : ℕ) → slice_get nodes at ≡ Some old
    → AllByRecursion (IsAbove at (greatest_kept old.kept)) written → (p : ℕ)
    → Longer p (greatest_kept (journal_at nodes p)) (journal_at nodes p) (journal_at (slice_set nodes at (with_more old written new steps)) p)
longer_at nodes at old written new steps here rises p = by_place (p == at) refl
  where
    own : Longer at (greatest_kept (journal_at nodes at)) (journal_at nodes at) (journal_at (slice_set nodes at (with_more old written new steps)) at)
    own = subst (λ k. Longer at (greatest_kept k) k (journal_at (slice_set nodes at (with_more old written new steps)) at)) (sym (journal_got nodes at old here))
        (subst (λ l. Longer at (greatest_kept old.kept) old.kept l) (sym (journal_here nodes at old (with_more old written new steps) here))
        (with_written at old.kept written rises))

    by_place : (b : Bool) → (p == at) ≡ b
        → Longer p (greatest_kept (journal_at nodes p)) (journal_at nodes p) (journal_at (slice_set nodes at (with_more old written new steps)) p)
    by_place true same =
        subst (λ n. Longer n (greatest_kept (journal_at nodes n)) (journal_at nodes n) (journal_at (slice_set nodes at (with_more old written new steps)) n))
        (sym (eqb-true p at same)) own
    by_place false other =
        subst (λ l. Longer p (greatest_kept (journal_at nodes p)) (journal_at nodes p) l)
        (sym (journal_else nodes at (with_more old written new steps) p (eqb-false p at other)))
        (longer_self p (greatest_kept (journal_at nodes p)) (journal_at nodes p))

-- the book after a step
abbrev pub with_news : Book → List Choice → List Cursor → List Given → List Missed → List Reach → Book
with_news book news cursors given missed raises =
    record { chosen = book.chosen ++ news; cursors = cursors; given = given; missed = missed; reached = book.reached ++ raises }

-- what is written is above the node's time, and so above what it stored
pub views_later : (nodes : List Held) (at : ℕ) (old : Held) (written : List Kept) (new : NodeState) (steps : ℕ) (book : Book) (news : List Choice)
    (cursors : List Cursor) (given : List Given) (missed : List Missed) (raises : List Reach) → More book.given given → More book.missed missed
    → slice_get nodes at ≡ Some old → AllByRecursion (IsAbove at (time_of_node old.state)) written → greatest_kept old.kept ≤ time_of_node old.state
    → Later (view_of nodes book) (view_of (slice_set nodes at (with_more old written new steps)) (with_news book news cursors given missed raises))
views_later nodes at old written new steps book news cursors given missed raises more_given more_missed here rises within =
    let longer : (p : ℕ) → Longer p (greatest_kept (journal_at nodes p)) (journal_at nodes p) (journal_at (slice_set nodes at (with_more old written new steps)) p) =
    longer_at nodes at old written new steps here
    (all_weaken (IsAbove at (time_of_node old.state)) (IsAbove at (greatest_kept old.kept)) written
    (λ k h. above_less at (greatest_kept old.kept) (time_of_node old.state) k within h) rises) in
    record {
      longer = longer;
      times = λ p. subst (λ l. greatest_kept (journal_at nodes p) ≤ greatest_kept l) (sym (longer p).same)
          (greatest_front (journal_at nodes p) (longer p).written);
      decided = record { news = news; same = refl };
      given = more_given;
      missed = more_missed;
      reached = record { news = raises; same = refl };
    }
