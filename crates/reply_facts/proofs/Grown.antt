-- What is right stays right as an account grows: more entries, requests, moments and lacks, and changes in front of the others.
use Rattle.std.proofs.Common.{◌≡◌, ℕ, ◌<◌, ◌+◌, List, [], ◌∷◌, ◌++◌, sym, ap, subst, ◌∙◌}
use Rattle.std.specs.Prelude.{Option, Bool, true, false}
use Rattle.std.proofs.lemmas.List.{append_assoc}
use Rattle.base_model.specs.Refusals.{Refusal}
use Rattle.chunk_model.specs.Changes.{Change, create_change}
use Rattle.chunk_model.specs.Versions.{Version}
use Rattle.command_model.specs.Writes.{ClientNumber, WriteCommand}
use Rattle.history_model.specs.History.{StatementNumber, Operation, Entry, IsIn}
use Rattle.history_model.proofs.Lists.{all_weaken, in_back}
use Rattle.reply_model.specs.Exchanges.{Asked, Answered, number_for}
use Rattle.reply_model.specs.Accounts.{Given, Learned, Lack, Missed, Account}
use Rattle.reply_model.specs.Outcomes.{Try, StatementOutcome, Done}
use Rattle.reply_model.specs.Right.{HadSent, WasMissed, IsExpired, IsGivenUp, given_up_late, given_up_lacking, HadVersion, WereStale, MayBeTold, told_own, told_other, told_older, told_stale, told_given_up, AreTold, ends, WasCreated}
use Rattle.reply_facts.proofs.Statements.{UnlessEnded}

-- what a request's reply rests on is still there; and what its router had received before the request came is the same
pub record Grows (old new : Account) (a : Asked) : Type 0 where
  pub stays : (e : Entry) → IsIn e old.history → IsIn e new.history
  pub taken : (b : Asked) → IsIn b old.asked → IsIn b new.asked
  pub given : (x : Given) → IsIn x old.given → IsIn x new.given
  pub missed : (x : Missed) → IsIn x old.missed → IsIn x new.missed
  pub learned : (x : Learned) → IsIn x new.learned → x.step < a.came → IsIn x old.learned
  pub more : List Change
  pub changes : new.changes ≡ more ++ old.changes

module _ (old new : Account) (a : Asked) (t : Answered) (g : Grows old new a) where
  pub created_still : (namespace : List ℕ) (time : ℕ) → WasCreated old.changes namespace time → WasCreated new.changes namespace time
  created_still namespace time was = record {
    creation = was.creation;
    begun = subst (λ l. IsIn (create_change was.creation) l) (sym g.changes) (in_back (create_change was.creation) g.more old.changes was.begun);
    name = was.name;
    before = was.before;
  }

  version_still : (namespace : List ℕ) (version : Version) → HadVersion old.changes namespace version → HadVersion new.changes namespace version
  version_still namespace version had = record {
    later = g.more ++ had.later;
    older = had.older;
    table = had.table;
    all = g.changes ∙ ap (λ (l : List Change). g.more ++ l) had.all ∙ sym (append_assoc g.more had.later had.older);
    known = had.known;
    same = had.same;
  }

  pub stale_still : (namespace : List ℕ) (tries : List Try) → WereStale old a namespace tries → WereStale new a namespace tries
  stale_still namespace tries were = record {
    all = were.all;
    turns = were.turns;
    had = all_weaken (λ (x : Try). HadVersion old.changes namespace x.sent × HadVersion old.changes namespace x.met)
        (λ (x : Try). HadVersion new.changes namespace x.sent × HadVersion new.changes namespace x.met) tries
        (λ x both. (version_still namespace x.sent both.0, version_still namespace x.met both.1)) were.had;
    first = λ x i own before name. were.first x (g.learned x i before) own before name;
  }

  missed_still : (node : ℕ) (lack : Lack) → WasMissed old t node lack → WasMissed new t node lack
  missed_still node lack was =
      record { missed = was.missed; had = g.missed was.missed was.had; own = was.own; same = was.same; before = was.before }

  expired_still : (now : ℕ) → IsExpired old a t now → IsExpired new a t now
  expired_still now is = record {
    given = is.given;
    had = g.given is.given is.had;
    own = is.own;
    moment = is.moment;
    after = is.after;
    same = is.same;
    limited = is.limited;
    passed = is.passed;
  }

  pub given_up_still : (refusal : Refusal) → IsGivenUp old a t refusal → IsGivenUp new a t refusal
  given_up_still _ (given_up_late now is) = given_up_late now (expired_still now is)
  given_up_still _ (given_up_lacking node lack was) = given_up_lacking node lack (missed_still node lack was)

  sent_still : (e : Entry) → HadSent old.asked e t → HadSent new.asked e t
  sent_still e had = record { request = had.request; taken = g.taken had.request had.taken; sends = had.sends; came = had.came }

  -- an outcome that a statement may have
  may_stay : (given : Option ClientNumber) (number : StatementNumber) (namespace : List ℕ) (operation : Operation) (answer : StatementOutcome)
      → MayBeTold old a t given number namespace operation answer → MayBeTold new a t given number namespace operation answer
  may_stay given number namespace operation _ (told_own e i is past) = told_own e (g.stays e i) is past
  may_stay given number namespace operation _ (told_other e by i some is past had) = told_other e by (g.stays e i) some is past (sent_still e had)
  may_stay given number namespace operation _ (told_older e by i some is less past had) =
      told_older e by (g.stays e i) some is less past (sent_still e had)
  may_stay given number namespace operation _ (told_stale tries were) = told_stale tries (stale_still namespace tries were)
  may_stay given number namespace operation _ (told_given_up refusal is) = told_given_up refusal (given_up_still refusal is)

  pub told_stays : (write : WriteCommand) (index : ℕ) (operations : List Operation) (dones : List Done) → AreTold old a t write index operations dones
      → AreTold new a t write index operations dones
  told_stays write index [] dones told = told
  told_stays write index (operation ∷ operations) [] told = absurd told
  told_stays write index (operation ∷ operations) (d ∷ dones) told = (
    told.0,
    may_stay write.number (number_for write.number t.id index) write.namespace operation d.answer told.1,
    by_end (ends write.ordered d) told.2 (λ rest. told_stays write (index + 1) operations dones rest),
  )
    where
      by_end : (b : Bool) → UnlessEnded b dones (AreTold old a t write (index + 1) operations dones)
          → (AreTold old a t write (index + 1) operations dones → AreTold new a t write (index + 1) operations dones)
          → UnlessEnded b dones (AreTold new a t write (index + 1) operations dones)
      by_end true none later = none
      by_end false rest later = later rest
