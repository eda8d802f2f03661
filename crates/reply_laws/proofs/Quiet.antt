-- Where no table changes, no node lacks anything and a request has no time limit, nothing is given up.
use Rattle.std.proofs.Common.{◌≡◌, ℕ, inl, inr, List, [], ◌∷◌, ◌++◌, refl, sym, ap, subst, ◌∙◌, arith}
use Rattle.std.specs.Prelude.{Bool, true, false, Some, None, if◌then◌else◌}
use Rattle.std.specs.Str.{bytes_eq}
use Rattle.base_model.specs.Refusals.{Refusal}
use Rattle.command_model.specs.Command.{time_limit}
use Rattle.command_model.specs.Reading.{Reading}
use Rattle.command_model.specs.Cursors.{Batch}
use Rattle.command_model.specs.Answers.{first_answer, count_answer, answer_document}
use Rattle.chunk_model.specs.SampleCollections.{creation}
use Rattle.chunk_model.specs.Changes.{Change, known_table}
use Rattle.chunk_model.specs.Tables.{Table, first_table, collection_version}
use Rattle.chunk_model.specs.Versions.{Version, is_later}
use Rattle.history_model.specs.History.{Entry, IsIn}
use Rattle.history_model.proofs.Lists.{in_none}
use Rattle.reply_model.specs.Exchanges.{Asked, Answered}
use Rattle.reply_model.specs.Accounts.{Missed, Account}
use Rattle.reply_model.specs.Cursors.{Cursor}
use Rattle.reply_model.specs.Outcomes.{Try}
use Rattle.reply_model.specs.Right.{IsGivenUp, given_up_late, given_up_lacking, HadVersion, WereStale, IsReadRefused, refused_overflow, refused_excess, refused_ahead}
use Rattle.reply_facts.proofs.RightAnswers.{IsNotRead, not_read, not_tried, not_finished}
use Rattle.reply_laws.specs.SampleExchanges.{created, account_of}
use Rattle.reply_laws.specs.UnfinishedReads.{IsUnfinished}

-- a reply to the request may say of nothing that it was given up
abbrev pub IsQuiet : Account → Asked → Answered → Type 0
IsQuiet account a t =
    ((namespace : List ℕ) (tries : List Try) → WereStale account a namespace tries → ⊥) × ((refusal : Refusal) → IsGivenUp account a t refusal → ⊥)

pub never_given_up : (account : Account) (a : Asked) (t : Answered) → account.missed ≡ [] → time_limit a.request ≡ 0
    → (refusal : Refusal) → IsGivenUp account a t refusal → ⊥
never_given_up account a t none free _ (given_up_late now is) = let limited = is.limited in omega (arith, free, limited)
never_given_up account a t none free _ (given_up_lacking node lack was) = in_none was.missed (subst (λ (l : List Missed). IsIn was.missed l) none was.had)

-- the one table of the collection has one version
one_version : (namespace : List ℕ) (later older : List Change) (table : Table) → created ≡ later ++ older → known_table namespace older ≡ Some table
    → collection_version table ≡ collection_version (first_table creation)
one_version namespace [] older table all known =
    by_name (bytes_eq creation.namespace namespace) (ap (known_table namespace) all ∙ known)
  where
    by_name : (b : Bool) → (if b then Some (first_table creation) else None) ≡ Some table → collection_version table ≡ collection_version (first_table creation)
    by_name true is = let same : first_table creation ≡ table = cc in ap collection_version (sym same)
    by_name false is = absurd (cc)
one_version namespace (x ∷ []) [] table all known = absurd (cc)
one_version namespace (x ∷ []) (y ∷ older) table all known = absurd (cc)
one_version namespace (x ∷ y ∷ later) older table all known = absurd (cc)

had_one : (namespace : List ℕ) (version : Version) → HadVersion created namespace version → version ≡ collection_version (first_table creation)
had_one namespace version had = sym had.same ∙ one_version namespace had.later had.older had.table had.all had.known

never_stale : (account : Account) (a : Asked) → account.changes ≡ created → (namespace : List ℕ) (tries : List Try) → WereStale account a namespace tries → ⊥
never_stale account a one namespace [] were = let all = were.all in omega (arith, all)
never_stale account a one namespace (x ∷ tries) were =
    let had = subst (λ (l : List Change). HadVersion l namespace x.sent × HadVersion l namespace x.met) one were.had.0 in
    let sent : x.sent ≡ collection_version (first_table creation) = had_one namespace x.sent had.0 in
    let met : x.met ≡ collection_version (first_table creation) = had_one namespace x.met had.1 in
    let later : is_later (collection_version (first_table creation)) (collection_version (first_table creation)) ≡ true =
    subst (λ (v : Version). is_later v (collection_version (first_table creation)) ≡ true) met
    (subst (λ (v : Version). is_later x.met v ≡ true) sent were.turns.0) in
    cc

pub quiet_of : (account : Account) (a : Asked) (t : Answered) → account.changes ≡ created → account.missed ≡ [] → time_limit a.request ≡ 0 → IsQuiet account a t
quiet_of account a t one none free = (never_stale account a one, never_given_up account a t none free)

module _ (history : List Entry) (asked : List Asked) (answered : List Answered) (a : Asked) (t : Answered) where
  pub quiet : time_limit a.request ≡ 0 → IsQuiet (account_of history asked answered) a t
  quiet free = quiet_of (account_of history asked answered) a t refl refl free

  -- a read has no result only where it is refused
  pub read_refused : (cursors : List Cursor) (reading : Reading) → time_limit a.request ≡ 0
      → IsNotRead (account_of history asked answered) cursors a t reading → IsReadRefused (account_of history asked answered) a t reading
  read_refused cursors reading free (not_read refused) = refused
  read_refused cursors reading free (not_tried stale) = absurd (never_stale (account_of history asked answered) a refl reading.namespace stale.tries stale.were)
  read_refused cursors reading free (not_finished tells) =
      absurd (never_given_up (account_of history asked answered) a t refl free tells.refusal tells.why)

-- A READ WITHOUT A RESULT

module _ (account : Account) (cursors : List Cursor) (a : Asked) (t : Answered) (reading : Reading) where
  -- returns no batch
  pub never_batch : (b : Batch) → t.document ≡ answer_document (first_answer b) → IsNotRead account cursors a t reading → ⊥
  never_batch b says (not_read (refused_overflow when read gives told)) = let e = sym told ∙ says in cc
  never_batch b says (not_read (refused_excess when n read excess told)) = let e = sym told ∙ says in cc
  never_batch b says (not_read (refused_ahead ahead told)) = let e = sym told ∙ says in cc
  never_batch b says (not_tried stale) = let e = sym stale.says ∙ says in cc
  never_batch b says (not_finished tells) = let e = sym tells.says ∙ says in cc

  -- nor a number
  pub never_count : (n time : ℕ) → t.document ≡ answer_document (count_answer n time) → IsNotRead account cursors a t reading → ⊥
  never_count n time says (not_read (refused_overflow when read gives told)) = let e = sym told ∙ says in cc
  never_count n time says (not_read (refused_excess when m read excess told)) = let e = sym told ∙ says in cc
  never_count n time says (not_read (refused_ahead ahead told)) = let e = sym told ∙ says in cc
  never_count n time says (not_tried stale) = let e = sym stale.says ∙ says in cc
  never_count n time says (not_finished tells) = let e = sym tells.says ∙ says in cc

  -- the reply says why
  pub unfinished : IsNotRead account cursors a t reading → IsUnfinished account a t reading
  unfinished (not_read refused) = inl refused
  unfinished (not_tried stale) = inr (inl (stale.tries, stale.were, stale.says))
  unfinished (not_finished tells) = inr (inr (tells.refusal, tells.why, tells.says))
