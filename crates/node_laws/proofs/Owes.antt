-- What a step of one node owes, so that all facts stay.
use Rattle.std.proofs.Common.{◌≡◌, ◌≢◌, ℕ, ◌+◌, ◌<◌, List, ◌++◌}
use Rattle.std.specs.Prelude.{filter}
use Rattle.std.specs.List.{AllByRecursion}
use Rattle.base_model.specs.Times.{time_of_moment}
use Rattle.reply_model.specs.Cursors.{Cursor}
use Rattle.reply_model.specs.Exchanges.{Asked, Answered}
use Rattle.reply_model.specs.Accounts.{Given, Dated, Missed}
use Rattle.history_model.specs.History.{IsIn}
use Rattle.reply_model.specs.OneHistory.{IsFresh, IsInOrder, ids_asked, ids_told, AreDifferent}
use Rattle.node_model.specs.Letters.{Letter, Input, client_input, letter_input, moment_input, opened_input, Taken, Reply, Effect}
use Rattle.node_model.specs.Journal.{greatest_kept}
use Rattle.node_model.specs.States.{NodeState, time_of_node}
use Rattle.node_model.specs.World.{World, asked_by, answered_by, dated_onto, journal_at}
use Rattle.node_laws.proofs.Views.{Choice, Book, View, view_of, IsAbove, Later}
use Rattle.node_laws.proofs.TimeFacts.{HeardFits}
use Rattle.node_laws.proofs.Facts.{LetterFits, SentFits, TellsAll, Node, NodeFits, ReachFits, raises_of, IsMet, AnswersFit, SameKind, is_of}

-- what is known of an input: a message fits, and its time was met; so was a moment's time, which is given to the node, after all requests came
abbrev pub InputFits : World → Book → (at : ℕ) → Input → Type 0
InputFits w book at (letter_input m) = SentFits (view_of w.nodes book) w.changed w.asked w.answered w.given m
InputFits w book at (moment_input moment) =
    IsMet (view_of w.nodes book) w.given (time_of_moment moment) × IsIn (record { node = at; moment = moment; step = w.now }) w.given
    × AllByRecursion (λ (a : Asked). a.came < w.now) w.asked
InputFits w book at (client_input link number request) = Unit {0}
InputFits w book at opened_input = Unit {0}

abbrev pub asked_after : World → Effect → List Asked
asked_after w f = w.asked ++ asked_by w.now f.taken

abbrev pub answered_after : World → Effect → List Answered
answered_after w f = w.answered ++ answered_by w.now f.replies

abbrev pub dated_after : World → Effect → List Dated
dated_after w f = dated_onto w.now w.changed f.written

-- a message that is sent: it fits, its time was met, and if a shard sends its time, no entry of it is later
abbrev pub IsSaid : View → List Asked → List Given → Letter → Type 0
IsSaid v asked given m = LetterFits v asked m × IsMet v given m.time × TellsAll v asked m.sender m.time m.body

-- what a router heard of the times of shards is said in each view after the step
abbrev pub StaysHeard : World → (at : ℕ) → Effect → NodeState → Type 0
StaysHeard w at f new = (v : View) → ((p : ℕ) → p ≢ at → v.journal p ≡ journal_at w.nodes p) → HeardFits v (asked_after w f) (answered_after w f) new

-- what the node at a place owes in a view of the world after the step
pub record OwesIn (v : View) (w : World) (book : Book) (at : ℕ) (old : Node) (f : Effect) (new : NodeState) : Type 0 where
  pub node : NodeFits v (asked_after w f) (answered_after w f) w.given at (record { state = new; kept = old.kept ++ f.written })
  pub letters : AllByRecursion (IsSaid v (asked_after w f) w.given) f.mail
  pub answers : AnswersFit v (asked_after w f) (answered_after w f) book.cursors (answered_by w.now f.replies) v.cursors
  pub known : AllByRecursion (λ (a : Asked). IsMet v w.given a.time) (asked_by w.now f.taken)
  pub met : AllByRecursion (λ (t : Answered). IsMet v w.given t.time) (answered_by w.now f.replies)

-- what is noted in a view after the step
pub record IsNotedIn (v : View) (w : World) (book : Book) (new : NodeState) : Type 0 where
  pub given : v.given ≡ w.given
  pub lacks : AllByRecursion (λ (x : Missed). x.step < w.now + 1) v.missed
  pub reached : v.reached ≡ book.reached ++ raises_of new

pub record Owes (w : World) (book : Book) (at : ℕ) (old : Node) (f : Effect) (new : NodeState) : Type 0 where
  pub kind : SameKind old.state new
  -- what it writes is above its time, and its entries are its own
  pub rises : AllByRecursion (IsAbove at (time_of_node old.state)) f.written
  -- what it takes and replies is its own, and new
  pub taken : AllByRecursion (λ (x : Taken). x.id.router ≡ at) f.taken
  pub told : AllByRecursion (λ (x : Reply). x.id.router ≡ at) f.replies
  pub one : AreDifferent (ids_asked (asked_after w f))
  pub once : AreDifferent (ids_told (answered_after w f))
  pub fresh : AllByRecursion (IsFresh w.answered) (asked_by w.now f.taken)
  pub in_order : AllByRecursion (IsInOrder w.asked) (asked_by w.now f.taken)
  -- the times that it decides are for requests of its own
  pub news : List Choice
  pub chose : AllByRecursion (λ (c : Choice). (c.id.router ≡ at) × IsIn c.id (ids_asked (asked_after w f))) news
  -- the cursors after the step: those of the other routers stay
  pub cursors : List Cursor
  -- of its open requests not more is noted than was sent
  pub raised : ReachFits book.reached new
  pub elsewhere : (router : ℕ) → router ≢ at → filter (is_of router) cursors ≡ filter (is_of router) book.cursors
  -- the rest is owed in the view after the step, in which the other journals stay, and its own is this
  pub owed : (v : View) → Later (view_of w.nodes book) v → ((p : ℕ) → p ≢ at → v.journal p ≡ journal_at w.nodes p) → v.journal at ≡ old.kept ++ f.written
      → v.bound at ≡ greatest_kept (old.kept ++ f.written)
      → v.chosen ≡ book.chosen ++ news → v.cursors ≡ cursors → IsNotedIn v w book new → OwesIn v w book at old f new
