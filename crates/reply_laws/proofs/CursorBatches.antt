-- What the replies about one cursor are, from the one that opened it on.
use Rattle.std.proofs.Common.{◌≡◌, ◌≢◌, ℕ, ℤ, pos, inl, inr, List, [], ◌∷◌, ◌++◌, length, take, drop, refl, sym, ap, subst, ◌∙◌, append_assoc}
use Rattle.std.specs.Prelude.{Bool, true, false, ◌==◌, ◌&&◌, Some, None, Result, Ok, Err, if◌then◌else◌}
use Rattle.std.specs.List.{AllByRecursion}
use Rattle.std.specs.Option.{unwrap_or}
use Rattle.std.specs.Ordering.{int_eq}
use Rattle.std.proofs.lemmas.List.{take-append-drop}
use Rattle.bson_model.specs.Tree.{Fields}
use Rattle.base_model.specs.Errors.{cursor_not_found}
use Rattle.base_model.specs.Refusals.{Refusal, cursor_evidence}
use Rattle.opmsg_model.specs.Requests.{Request}
use Rattle.command_model.specs.Find.{Find}
use Rattle.command_model.specs.Cursors.{Batch}
use Rattle.command_model.specs.GetMore.{GetMore}
use Rattle.command_model.specs.Command.{Command, hello_command, legacy_command, ping_command, end_sessions_command, write_command, find_command, count_command, more_command, kill_command, shard_collection_command, split_command, command_of}
use Rattle.command_model.specs.Answers.{next_answer, refusal_answer, answer_document}
use Rattle.pipeline_model.specs.Runs.{listed}
use Rattle.base_model.specs.Identities.{RequestId}
use Rattle.reply_model.specs.Exchanges.{Asked, Answered}
use Rattle.reply_model.specs.Accounts.{Account}
use Rattle.reply_model.specs.Cursors.{Cursor, has_number, open_cursor, with_remaining, IsNewNumber, Opens, opens_none, opens_one, ShowsFirst, ShowsNext, number_left}
use Rattle.reply_model.specs.Reads.{MayGive}
use Rattle.reply_model.specs.Right.{asks_for_one, usual_size, unless_silent}
use Rattle.reply_model.specs.OneHistory.{IsRightOf, AreRight, nothing_told, then_told}
use Rattle.reply_laws.specs.CursorReplies.{OpensCursor, AsksMore, AsksToClose, Shows, shows_nothing, shows_batch, shows_other, EndsCursor, shows_last, closes}
use Rattle.reply_laws.proofs.Quiet.{never_batch}
use Rattle.reply_facts.proofs.RightAnswers.{RightBy, right_by, right_of, TellsNext, same_first, same_next}
use Rattle.reply_laws.proofs.StandingCursors.{Stands, StandsStill, IsNamed, cursor_with, found_open, number_found, found_standing, none_found, itself, named, set_own, set_other, opens_stays, found_still, kills_still, kills_leave, kills_end}

pub unless_silent_not : (request : Request) (before after : List Cursor) → request.more ≡ false → unless_silent request before after ≡ after
unless_silent_not request before after e = ap (λ (b : Bool). if b then before else after) e

pub unless_silent_is : (request : Request) (before after : List Cursor) → request.more ≡ true → unless_silent request before after ≡ before
unless_silent_is request before after e = ap (λ (b : Bool). if b then before else after) e

-- the part that is shown and the one that is left are the whole
parts : (batch documents : List Fields) → batch ≡ take (length batch) documents → documents ≡ batch ++ drop (length batch) documents
parts batch documents front = sym (take-append-drop (length batch) documents) ∙ ap (λ (l : List Fields). l ++ drop (length batch) documents) (sym front)

module _ (account : Account) where
  abbrev RestRight : List Cursor → List Answered → Type 0
  RestRight cursors [] = Unit {0}
  RestRight cursors (t ∷ later) = (next : List Cursor) × IsRightOf account cursors t next
      × AreRight account next later

  pub unrolled : (cursors : List Cursor) (told : List Answered) → AreRight account cursors told → RestRight cursors told
  unrolled cursors told (nothing_told c) = tt
  unrolled cursors told (then_told c next t later right rest) = (next, right, rest)

  -- the replies after a part, from the cursors that there are then
  pub behind : (cursors : List Cursor) (front back : List Answered) → AreRight account cursors (front ++ back)
      → (found : List Cursor) × AreRight account found back
  behind cursors [] back right = (cursors, right)
  behind cursors (t ∷ front) back right = let r = unrolled cursors (t ∷ (front ++ back)) right in behind r.0 front back r.2

  -- WHAT OPENS ONE

  module _ (s : Answered) (find : Find) (first : Batch) where
    -- it is there with these documents
    abbrev pub IsThere : List Fields → List Cursor → Type 0
    IsThere remaining cursors = Stands s.id.router s.id.life first.cursor first.namespace first.time remaining cursors

    abbrev IsOwn : RequestId → ℤ → Type 0
    IsOwn id n = IsNamed s.id.router s.id.life first.cursor first.namespace first.time id n

    -- the documents of the read, of which the first batch shows a part; and no cursor of the router had the number
    pub record IsOpened (cursors next : List Cursor) : Type 0 where
      pub rest : List Fields
      pub some : rest ≢ []
      pub gives : MayGive account.history find.reading first.time (listed (first.documents ++ rest))
      pub there : IsThere rest next
      pub new : IsNewNumber s.id first.cursor cursors

    abbrev IsApart : List Cursor → ℕ → ℤ → Type 0
    IsApart cursors router number = AllByRecursion (λ (c : Cursor). ((c.router == router) && int_eq c.number number) ≡ false) cursors

    others_of_new : (id : RequestId) (n : ℤ) (cursors : List Cursor) → IsNewNumber id n cursors → id.router ≡ s.id.router → n ≡ first.cursor
        → (remaining : List Fields)
        → id.life ≡ s.id.life → IsThere remaining (cursors ++ record {
          router = id.router;
          life = id.life;
          number = n;
          namespace = first.namespace;
          time = first.time;
          remaining = remaining;
        } ∷ [])
    others_of_new id n cursors new router_is number_is remaining life_is = record {
      front = cursors;
      back = [];
      is = λ i. cursors ++ record {
        router = router_is i;
        life = life_is i;
        number = number_is i;
        namespace = first.namespace;
        time = first.time;
        remaining = remaining;
      } ∷ [];
      before = subst (λ (m : ℤ). IsApart cursors s.id.router m) number_is (subst (λ (r : ℕ). IsApart cursors r n) router_is new.1);
      behind = tt;
    }

    opened_by : (id : RequestId) (single : Bool) (cursors : List Cursor) (rest : List Fields) (n : ℤ) (next : List Cursor) → n ≡ first.cursor
        → first.cursor ≢ pos 0 → id ≡ s.id
        → MayGive account.history find.reading first.time (listed (first.documents ++ rest)) → Opens id single first.namespace first.time cursors rest n next
        → IsOpened cursors next
    opened_by id single cursors rest n next number_is some own gives (opens_none r why) = absurd (some (sym number_is))
    opened_by id single cursors rest n next number_is some own gives (opens_one r m more other new) = record {
      rest = r;
      some = more;
      gives = gives;
      there = others_of_new id m cursors new (ap (λ (i : RequestId). i.router) own) number_is r (ap (λ (i : RequestId). i.life) own);
      new = subst (λ (i : RequestId). IsNewNumber i first.cursor cursors) own (subst (λ (k : ℤ). IsNewNumber id k cursors) number_is new);
    }

    first_of : (a : Asked) (cursors next : List Cursor) → a.id ≡ s.id → OpensCursor s find first
        → RightBy account cursors a s (Ok (find_command find)) next → IsOpened cursors next
    first_of a cursors next own opens (inr refused) = absurd (never_batch account cursors a s find.reading first opens.told refused.0)
    first_of a cursors next own opens (inl told) =
        let same : told.batch ≡ first = same_first told.batch first (sym told.says ∙ opens.told) in
        let shows = subst (λ (b : Batch). ShowsFirst a.id (unwrap_or find.batches.size usual_size)
        (asks_for_one find.batches a.request) cursors told.documents b next) same told.shows in
        let gives = subst (λ (b : Batch). MayGive account.history find.reading b.time (listed told.documents)) same told.gives in
        let rest : List Fields = drop (length first.documents) told.documents in
        opened_by a.id (asks_for_one find.batches a.request) cursors rest first.cursor next refl opens.opens own
        (subst (λ (l : List Fields). MayGive account.history find.reading first.time (listed l))
        (parts first.documents told.documents shows.batch_of.front) gives) shows.opens

    -- the find whose reply has the number opened a cursor
    pub opened : (cursors next : List Cursor) → OpensCursor s find first → IsRightOf account cursors s next
        → IsOpened cursors next
    opened cursors next opens right =
        first_of right.request cursors next right.own opens
        (right_of account cursors right.request s (Ok (find_command find)) next (ap command_of right.same ∙ opens.asks) right.right)

    -- EACH STEP

    same_still : (remaining : List Fields) (cursors next : List Cursor) → next ≡ cursors → IsThere remaining cursors
        → StandsStill s.id.router s.id.life first.cursor first.namespace first.time remaining next
    same_still remaining cursors next same there = record {
      left = remaining;
      stands = subst (λ (l : List Cursor). IsThere remaining l) (sym same) there;
      stays_ended = λ none. none;
    }

    shown_still : (a : Asked) (t : Answered) (more : GetMore) (cursors next : List Cursor) (remaining : List Fields)
        (told : TellsNext account cursors a t more next)
        (silent : Bool) → a.request.more ≡ silent → IsThere remaining cursors
        → StandsStill s.id.router s.id.life first.cursor first.namespace first.time remaining next
    shown_still a t more cursors next remaining told true silent there = same_still remaining cursors next
        (told.then ∙ unless_silent_is a.request cursors told.shown silent) there
    shown_still a t more cursors next remaining told false silent there =
        let left : List Fields = drop (length told.batch.documents) told.cursor.remaining in
        let number : told.cursor.number ≡ more.cursor = number_found a.id more.cursor told.cursor
        (found_open a.id more.cursor more.namespace cursors told.cursor told.found).number in
        let after : next ≡ with_remaining a.id more.cursor left cursors =
        told.then ∙ unless_silent_not a.request cursors told.shown silent ∙ told.shows.rest ∙ ap (λ (n : ℤ). with_remaining a.id n left cursors) number in
        subst (λ (l : List Cursor). StandsStill s.id.router s.id.life first.cursor first.namespace first.time remaining l) (sym after)
        (found_still s.id.router s.id.life first.cursor first.namespace first.time a.id more.cursor more.namespace left remaining cursors told.cursor
        told.found there)

    still_by : (r : Result Command Refusal) (a : Asked) (t : Answered) (cursors next : List Cursor) (remaining : List Fields)
        → RightBy account cursors a t r next → IsThere remaining cursors
        → StandsStill s.id.router s.id.life first.cursor first.namespace first.time remaining next
    still_by (Ok hello_command) a t cursors next remaining right there = same_still remaining cursors next right.1 there
    still_by (Ok (legacy_command legacy)) a t cursors next remaining right there = same_still remaining cursors next right.1 there
    still_by (Ok ping_command) a t cursors next remaining right there = same_still remaining cursors next right.1 there
    still_by (Ok end_sessions_command) a t cursors next remaining right there = same_still remaining cursors next right.1 there
    still_by (Ok (write_command write)) a t cursors next remaining right there = same_still remaining cursors next right.1 there
    still_by (Ok (find_command other)) a t cursors next remaining (inl told) there = record {
      left = remaining;
      stands = opens_stays s.id.router s.id.life first.cursor first.namespace first.time a.id
          (asks_for_one other.batches a.request) told.batch.namespace told.batch.time cursors
          (drop (length told.batch.documents) told.documents) told.batch.cursor next remaining told.shows.opens there;
      stays_ended = λ none. none;
    }
    still_by (Ok (find_command other)) a t cursors next remaining (inr refused) there = same_still remaining cursors next refused.1 there
    still_by (Ok (count_command reading)) a t cursors next remaining right there = same_still remaining cursors next right.1 there
    still_by (Ok (more_command more)) a t cursors next remaining (inl told) there = shown_still a t more cursors next remaining told a.request.more refl there
    still_by (Ok (more_command more)) a t cursors next remaining (inr none) there = same_still remaining cursors next none.1 there
    still_by (Ok (kill_command kill)) a t cursors next remaining right there =
        kills_still s.id.router s.id.life first.cursor first.namespace first.time a.id kill.namespace cursors kill.cursors right.killed right.missing next
        remaining right.kills there
    still_by (Ok (shard_collection_command namespace)) a t cursors next remaining right there = same_still remaining cursors next right.1 there
    still_by (Ok (split_command split)) a t cursors next remaining right there = same_still remaining cursors next right.1 there
    still_by (Err refusal) a t cursors next remaining right there = same_still remaining cursors next right.1 there

    -- whatever is replied, the cursor is there
    pub still : (t : Answered) (cursors next : List Cursor) (remaining : List Fields) → IsRightOf account cursors t next
        → IsThere remaining cursors
        → StandsStill s.id.router s.id.life first.cursor first.namespace first.time remaining next
    still t cursors next remaining right there =
        still_by (command_of right.request.request) right.request t cursors next remaining
        (right_by account cursors right.request t next right.right) there

    -- A STEP THAT DOES NOT CONCERN IT

    leaves_shown : (a : Asked) (t : Answered) (more : GetMore) (cursors next : List Cursor) (remaining : List Fields) → a.id ≡ t.id → a.request ≡ t.request
        → command_of a.request ≡ Ok (more_command more) → ¬ (AsksMore s first t × (t.request.more ≡ false))
        → TellsNext account cursors a t more next
        → (silent : Bool) → a.request.more ≡ silent → IsThere remaining cursors → IsThere remaining next
    leaves_shown a t more cursors next remaining own same asks never told true silent there =
        subst (λ (l : List Cursor). IsThere remaining l) (sym (told.then ∙ unless_silent_is a.request cursors told.shown silent)) there
    leaves_shown a t more cursors next remaining own same asks never told false silent there =
        subst (λ (l : List Cursor). IsThere remaining l) (sym after) (by_test (has_number a.id more.cursor
        (cursor_with s.id.router s.id.life first.cursor first.namespace first.time remaining)) refl)
      where
        left : List Fields
        left = drop (length told.batch.documents) told.cursor.remaining

        number : told.cursor.number ≡ more.cursor
        number = number_found a.id more.cursor told.cursor (found_open a.id more.cursor more.namespace cursors told.cursor told.found).number

        after : next ≡ with_remaining a.id more.cursor left cursors
        after = told.then ∙ unless_silent_not a.request cursors told.shown silent ∙ told.shows.rest ∙ ap (λ (n : ℤ). with_remaining a.id n left cursors) number

        by_test : (b : Bool) → has_number a.id more.cursor (cursor_with s.id.router s.id.life first.cursor first.namespace first.time remaining) ≡ b
            → IsThere remaining (with_remaining a.id more.cursor left cursors)
        by_test true is =
            let names : IsOwn a.id more.cursor = named s.id.router s.id.life first.cursor first.namespace first.time a.id more.cursor remaining is in
            let it = itself s.id.router s.id.life first.cursor first.namespace first.time a.id more.cursor more.namespace remaining cursors told.cursor
            names there told.found in
            absurd (never (
              record {
                more = more;
                asks = ap command_of (sym same) ∙ asks;
                number = names.number_is;
                name = it.name_is;
                life = (ap (λ (i : RequestId). i.router) (sym own) ∙ names.router_is, ap (λ (i : RequestId). i.life) (sym own) ∙ names.life_is);
              },
              ap (λ (q : Request). q.more) (sym same) ∙ silent,
            ))
        by_test false is = set_other s.id.router s.id.life first.cursor first.namespace first.time a.id more.cursor left remaining cursors is there

    same_there : (remaining : List Fields) (cursors next : List Cursor) → next ≡ cursors → IsThere remaining cursors → IsThere remaining next
    same_there remaining cursors next same there = subst (λ (l : List Cursor). IsThere remaining l) (sym same) there

    leaves_by : (r : Result Command Refusal) (a : Asked) (t : Answered) (cursors next : List Cursor) (remaining : List Fields) → a.id ≡ t.id → a.request
        ≡ t.request
        → command_of a.request ≡ r → ¬ (AsksMore s first t × (t.request.more ≡ false)) → ¬ AsksToClose s first t
        → RightBy account cursors a t r next → IsThere remaining cursors → IsThere remaining next
    leaves_by (Ok hello_command) a t cursors next remaining own same asks never closed right there = same_there remaining cursors next right.1 there
    leaves_by (Ok (legacy_command legacy)) a t cursors next remaining own same asks never closed right there = same_there remaining cursors next right.1 there
    leaves_by (Ok ping_command) a t cursors next remaining own same asks never closed right there = same_there remaining cursors next right.1 there
    leaves_by (Ok end_sessions_command) a t cursors next remaining own same asks never closed right there = same_there remaining cursors next right.1 there
    leaves_by (Ok (write_command write)) a t cursors next remaining own same asks never closed right there = same_there remaining cursors next right.1 there
    leaves_by (Ok (find_command other)) a t cursors next remaining own same asks never closed (inl told) there =
        opens_stays s.id.router s.id.life first.cursor first.namespace first.time a.id
        (asks_for_one other.batches a.request) told.batch.namespace told.batch.time cursors
        (drop (length told.batch.documents) told.documents) told.batch.cursor next remaining told.shows.opens there
    leaves_by (Ok (find_command other)) a t cursors next remaining own same asks never closed (inr refused) there =
        same_there remaining cursors next refused.1 there
    leaves_by (Ok (count_command reading)) a t cursors next remaining own same asks never closed right there =
        same_there remaining cursors next right.1 there
    leaves_by (Ok (more_command more)) a t cursors next remaining own same asks never closed (inl told) there =
        leaves_shown a t more cursors next remaining own same asks never told a.request.more refl there
    leaves_by (Ok (more_command more)) a t cursors next remaining own same asks never closed (inr none) there = same_there remaining cursors next none.1 there
    leaves_by (Ok (kill_command kill)) a t cursors next remaining own same asks never closed right there =
        kills_leave s.id.router s.id.life first.cursor first.namespace first.time a.id kill.namespace cursors kill.cursors right.killed right.missing next
        remaining
        (λ i name router_is life_is. closed (record {
          kill = kill;
          asks = ap command_of (sym same) ∙ asks;
          number = i;
          name = name;
          life = (ap (λ (q : RequestId). q.router) (sym own) ∙ router_is, ap (λ (q : RequestId). q.life) (sym own) ∙ life_is);
        }))
        right.kills there
    leaves_by (Ok (shard_collection_command namespace)) a t cursors next remaining own same asks never closed right there =
        same_there remaining cursors next right.1 there
    leaves_by (Ok (split_command split)) a t cursors next remaining own same asks never closed right there = same_there remaining cursors next right.1 there
    leaves_by (Err refusal) a t cursors next remaining own same asks never closed right there = same_there remaining cursors next right.1 there

    pub leaves : (t : Answered) (cursors next : List Cursor) (remaining : List Fields) → ¬ (AsksMore s first t × (t.request.more ≡ false))
        → ¬ AsksToClose s first t
        → IsRightOf account cursors t next → IsThere remaining cursors → IsThere remaining next
    leaves t cursors next remaining never closed right there =
        leaves_by (command_of right.request.request) right.request t cursors next remaining right.own right.same refl never closed
        (right_by account cursors right.request t next right.right) there

    -- ITS NEXT BATCH

    pub record NextShown (t : Answered) (next : List Cursor) (remaining : List Fields) : Type 0 where
      pub batch : Batch
      pub left : List Fields
      pub says : t.document ≡ answer_document (next_answer batch)
      pub split : remaining ≡ batch.documents ++ left
      pub name : batch.namespace ≡ first.namespace
      pub time : batch.time ≡ first.time
      pub number : batch.cursor ≡ number_left first.cursor left
      pub there : t.request.more ≡ false → IsThere left next

    owns : (a : Asked) (t : Answered) (more : AsksMore s first t) → a.id ≡ t.id → IsOwn a.id more.more.cursor
    owns a t more own = record {
      router_is = ap (λ (i : RequestId). i.router) own ∙ more.life.0;
      life_is = ap (λ (i : RequestId). i.life) own ∙ more.life.1;
      number_is = more.number;
    }

    next_by : (a : Asked) (t : Answered) (cursors next : List Cursor) (remaining : List Fields) (more : AsksMore s first t) → a.id ≡ t.id
        → a.request ≡ t.request → remaining ≢ []
        → RightBy account cursors a t (Ok (more_command more.more)) next → IsThere remaining cursors → NextShown t next remaining
    next_by a t cursors next remaining more own same some (inr none) there =
        let found = found_standing s.id.router s.id.life first.cursor first.namespace first.time a.id more.more.cursor remaining cursors
        (owns a t more own) some there in
        absurd (let e : None ≡ Some (cursor_with s.id.router s.id.life first.cursor first.namespace first.time remaining) =
        sym none.0.closed ∙ ap (λ (n : List ℕ). open_cursor a.id more.more.cursor n cursors) more.name ∙ found in cc)
    next_by a t cursors next remaining more own same some (inl told) there = record {
      batch = told.batch;
      left = drop (length told.batch.documents) remaining;
      says = told.says;
      split = parts told.batch.documents remaining shows.batch_of.front;
      name = shows.name;
      time = shows.time;
      number = shows.number;
      there = λ loud. subst (λ (l : List Cursor). IsThere (drop (length told.batch.documents) remaining) l)
          (sym (told.then ∙ unless_silent_not a.request cursors told.shown (ap (λ (q : Request). q.more) same ∙ loud) ∙ shows.rest))
          (set_own s.id.router s.id.life first.cursor first.namespace first.time a.id first.cursor
          (drop (length told.batch.documents) remaining) remaining cursors named_so there);
    }
      where
        named_so : IsOwn a.id first.cursor
        named_so = let o = owns a t more own in record { router_is = o.router_is; life_is = o.life_is; number_is = refl }

        shows : ShowsNext a.id more.more.size cursors (cursor_with s.id.router s.id.life first.cursor first.namespace first.time remaining) told.batch
            told.shown
        shows = subst (λ (c : Cursor). ShowsNext a.id more.more.size cursors c told.batch told.shown)
            (sym (itself s.id.router s.id.life first.cursor first.namespace first.time a.id more.more.cursor more.more.namespace remaining cursors
            told.cursor (owns a t more own) there told.found).same)
            told.shows

    -- a request of the next batch of an open cursor gets it
    pub next_shown : (t : Answered) (cursors next : List Cursor) (remaining : List Fields) → AsksMore s first t → remaining ≢ []
        → IsRightOf account cursors t next → IsThere remaining cursors → NextShown t next remaining
    next_shown t cursors next remaining more some right there =
        next_by right.request t cursors next remaining more right.own right.same some
        (right_of account cursors right.request t (Ok (more_command more.more)) next
        (ap command_of right.same ∙ more.asks) right.right) there

    -- and one that has ended is not found
    pub gone : (t : Answered) (cursors next : List Cursor) → AsksMore s first t → IsRightOf account cursors t next
        → IsThere [] cursors
        → t.document ≡ answer_document (refusal_answer (record { error = cursor_not_found; evidence = cursor_evidence first.cursor }))
    gone t cursors next more right there =
        by_found (right_of account cursors right.request t (Ok (more_command more.more)) next
        (ap command_of right.same ∙ more.asks) right.right)
      where
        none : open_cursor right.request.id more.more.cursor more.more.namespace cursors ≡ None
        none = none_found s.id.router s.id.life first.cursor first.namespace first.time right.request.id more.more.cursor more.more.namespace cursors
            (owns right.request t more right.own) there

        by_found : RightBy account cursors right.request t (Ok (more_command more.more)) next
            → t.document ≡ answer_document (refusal_answer (record { error = cursor_not_found; evidence = cursor_evidence first.cursor }))
        by_found (inl told) = absurd (let e : None ≡ Some told.cursor = sym none ∙ told.found in cc)
        by_found (inr closed) =
            closed.0.says ∙ ap (λ (n : ℤ). answer_document (refusal_answer (record { error = cursor_not_found; evidence = cursor_evidence n }))) more.number

    -- ALL REPLIES AFTER IT

    pub record Remains (remaining shown : List Fields) (back : List Answered) : Type 0 where
      pub left : List Fields
      pub split : remaining ≡ shown ++ left
      pub some : left ≢ []
      pub cursors : List Cursor
      pub there : IsThere left cursors
      pub right : AreRight account cursors back

    some_left : (left : List Fields) → first.cursor ≢ pos 0 → first.cursor ≡ number_left first.cursor left → left ≢ []
    some_left [] some number none = some number
    some_left (document ∷ documents) some number none = cc

    -- the documents that are shown and those that remain are all
    pub shown_there : (later : List Answered) (shown : List Fields) (back : List Answered) (cursors : List Cursor) (remaining : List Fields)
        → first.cursor ≢ pos 0 → remaining ≢ []
        → Shows s first later shown → AreRight account cursors (later ++ back) → IsThere remaining cursors
        → Remains remaining shown back
    shown_there later shown back cursors remaining number some shows_nothing right there =
        record { left = remaining; split = refl; some = some; cursors = cursors; there = there; right = right }
    shown_there later shown back cursors remaining number some (shows_batch t rest batch documents more loud says is shows) right there =
        let r = unrolled cursors (t ∷ (rest ++ back)) right in
        let n = next_shown t cursors r.0 remaining more some r.1 there in
        let same : n.batch ≡ batch = same_next n.batch batch (sym n.says ∙ says) in
        let left : n.left ≢ [] = some_left n.left number (sym is ∙ ap (λ (b : Batch). b.cursor) (sym same) ∙ n.number) in
        let more_left = shown_there rest documents back r.0 n.left number left shows r.2 (n.there loud) in
        record {
          left = more_left.left;
          split = n.split ∙ ap (λ (b : Batch). b.documents ++ n.left) same ∙ ap (λ (l : List Fields). batch.documents ++ l) more_left.split
              ∙ sym (append_assoc batch.documents documents more_left.left);
          some = more_left.some;
          cursors = more_left.cursors;
          there = more_left.there;
          right = more_left.right;
        }
    shown_there later shown back cursors remaining number some (shows_other t rest documents never closed shows) right there =
        let r = unrolled cursors (t ∷ (rest ++ back)) right in
        shown_there rest documents back r.0 remaining number some shows r.2 (leaves t cursors r.0 remaining never closed r.1 there)

    -- it is there, whatever is replied
    pub record RemainsSo (remaining : List Fields) (back : List Answered) : Type 0 where
      pub left : List Fields
      pub cursors : List Cursor
      pub there : IsThere left cursors
      pub stays_ended : remaining ≡ [] → left ≡ []
      pub right : AreRight account cursors back

    pub there_still : (middle back : List Answered) (cursors : List Cursor) (remaining : List Fields)
        → AreRight account cursors (middle ++ back)
        → IsThere remaining cursors → RemainsSo remaining back
    there_still [] back cursors remaining right there = record {
      left = remaining;
      cursors = cursors;
      there = there;
      stays_ended = λ none. none;
      right = right;
    }
    there_still (t ∷ middle) back cursors remaining right there =
        let r = unrolled cursors (t ∷ (middle ++ back)) right in
        let first = still t cursors r.0 remaining r.1 there in
        let last = there_still middle back r.0 first.left r.2 first.stands in
        record {
          left = last.left;
          cursors = last.cursors;
          there = last.there;
          stays_ended = λ none. last.stays_ended (first.stays_ended none);
          right = last.right;
        }

    none_left : (left : List Fields) → first.cursor ≢ pos 0 → pos 0 ≡ number_left first.cursor left → left ≡ []
    none_left [] some number = refl
    none_left (document ∷ documents) some number = absurd (some (sym number))

    -- what ends it
    pub ends_there : (u : Answered) (cursors next : List Cursor) (remaining : List Fields) → first.cursor ≢ pos 0 → remaining ≢ [] → EndsCursor s first u
        → IsRightOf account cursors u next → IsThere remaining cursors → IsThere [] next
    ends_there u cursors next remaining number some (shows_last batch more loud says is) right there =
        let n = next_shown u cursors next remaining more some right there in
        let same : n.batch ≡ batch = same_next n.batch batch (sym n.says ∙ says) in
        subst (λ (l : List Fields). IsThere l next) (none_left n.left number (sym is ∙ ap (λ (b : Batch). b.cursor) (sym same) ∙ n.number)) (n.there loud)
    ends_there u cursors next remaining number some (closes closed) right there =
        let told = right_of account cursors right.request u (Ok (kill_command closed.kill)) next
        (ap command_of right.same ∙ closed.asks) right.right in
        kills_end s.id.router s.id.life first.cursor first.namespace first.time right.request.id closed.kill.namespace cursors closed.kill.cursors told.killed
        told.missing next remaining
        closed.number closed.name (ap (λ (i : RequestId). i.router) right.own ∙ closed.life.0)
        (ap (λ (i : RequestId). i.life) right.own ∙ closed.life.1) told.kills there
