-- While the catalogue runs, each change that the table of a message does not have is later than the message: the table is sent with all changes that there are,
-- and the next change is above the catalogue's time.
use Rattle.std.proofs.Common.{◌≡◌, ℕ, ◌+◌, ◌<◌, ◌≤◌, List, [], ◌∷◌, ◌++◌, refl, sym, ap, ◌∙◌, arith, append_assoc, Bool}
use Rattle.std.specs.Prelude.{Option, nat_lt, not, true, false, if◌then◌else◌}
use Rattle.std.specs.List.{AllByRecursion}
use Rattle.std.proofs.lemmas.Bool.{ltb-true, ltb-false}
use Rattle.history_model.proofs.Lists.{all_weaken, all_append}
use Rattle.chunk_model.specs.Changes.{Change, time_of, known_table}
use Rattle.chunk_model.specs.Tables.{Table}
use Rattle.node_model.specs.CatalogueRows.{heard, CatalogueRow, catalogue_create, catalogue_tell, catalogue_split, catalogue_bound, catalogue_none, catalogue_skip, catalogue_moment, catalogue_opened, catalogue_client}
use Rattle.node_model.specs.Letters.{Body, table_ask, table_told, split_ask, split_done, write_ask, write_done, read_ask, half_ask, read_rows, refused, time_ask, time_told, Letter, Input, Effect}
use Rattle.node_model.specs.States.{Catalogue}
use Rattle.node_laws.proofs.CatalogueAnswers.{created_is, splits}
use Rattle.restart_laws.specs.Tables.{changes_up_to, SaysTableAt, SaysTableOfItsTime}
use Rattle.restart_laws.proofs.SentTables.{HasNoTable, SaysNoTable}

-- THE CHANGES UP TO A TIME

abbrev pub AreLater : ℕ → List Change → Type 0
AreLater time changes = AllByRecursion (λ (x : Change). time < time_of x) changes

abbrev pub AreUpTo : ℕ → List Change → Type 0
AreUpTo time changes = AllByRecursion (λ (x : Change). time_of x ≤ time) changes

all_up_to : (time : ℕ) (older : List Change) → AreUpTo time older → changes_up_to time older ≡ older
all_up_to time [] past = refl
all_up_to time (x ∷ older) past = by_test (nat_lt time (time_of x)) refl (all_up_to time older past.1)
  where
    by_test : (b : Bool) → nat_lt time (time_of x) ≡ b → changes_up_to time older ≡ older
        → (if not b then x ∷ changes_up_to time older else changes_up_to time older) ≡ x ∷ older
    by_test true h rest = absurd (let less = ltb-true time (time_of x) h in let le = past.0 in omega (arith, less, le))
    by_test false h rest = ap (λ l. x ∷ l) rest

none_of_later : (time : ℕ) (newer older : List Change) → AreLater time newer → AreUpTo time older → changes_up_to time (newer ++ older) ≡ older
none_of_later time [] older later past = all_up_to time older past
none_of_later time (x ∷ newer) older later past = by_test (nat_lt time (time_of x)) refl (none_of_later time newer older later.1 past)
  where
    by_test : (b : Bool) → nat_lt time (time_of x) ≡ b → changes_up_to time (newer ++ older) ≡ older
        → (if not b then x ∷ changes_up_to time (newer ++ older) else changes_up_to time (newer ++ older)) ≡ older
    by_test true h rest = rest
    by_test false h rest = absurd (let le = ltb-false time (time_of x) h in let less = later.0 in omega (arith, less, le))

-- A MESSAGE

-- of a table that was sent by a time of the catalogue
pub record IsTold (changes : List Change) (now time : ℕ) (namespace : List ℕ) (table : Option Table) : Type 0 where
  pub newer : List Change
  pub older : List Change
  pub all : changes ≡ newer ++ older
  pub known : known_table namespace older ≡ table
  pub later : AreLater time newer
  pub past : AreUpTo time older
  pub sent : time ≤ now

abbrev pub TellsBody : List Change → (now time : ℕ) → Body → Type 0
TellsBody changes now time (table_told namespace create at table) = IsTold changes now time namespace table
TellsBody changes now time body = Unit {0}

abbrev pub TellsBy : List Change → (now : ℕ) → Letter → Type 0
TellsBy changes now m = TellsBody changes now m.time m.body

body_none : (changes : List Change) (now time : ℕ) (b : Body) → HasNoTable b → TellsBody changes now time b
body_none changes now time (table_told namespace create at table) none = absurd none
body_none changes now time (table_ask namespace create at) none = tt
body_none changes now time (split_ask id namespace middle) none = tt
body_none changes now time (split_done id found) none = tt
body_none changes now time (write_ask id turn ordered namespace statements sent) none = tt
body_none changes now time (write_done id dones) none = tt
body_none changes now time (read_ask id turn namespace at half sent) none = tt
body_none changes now time (half_ask id turn namespace at half documents) none = tt
body_none changes now time (read_rows id turn rows) none = tt
body_none changes now time (refused what cause) none = tt
body_none changes now time (time_ask id) none = tt
body_none changes now time (time_told id) none = tt

-- what says no table
pub all_none : (changes : List Change) (now : ℕ) (mail : List Letter) → AllByRecursion SaysNoTable mail → AllByRecursion (TellsBy changes now) mail
all_none changes now mail all = all_weaken SaysNoTable (TellsBy changes now) mail (λ (m : Letter) none. body_none changes now m.time m.body none) all

-- where later changes are above the time
body_later : (changes more later : List Change) (now next time : ℕ) (b : Body) → later ≡ more ++ changes → AreLater now more → now ≤ next
    → TellsBody changes now time b → TellsBody later next time b
body_later changes more later now next time (table_told namespace create at table) same above on is =
    let sent = is.sent in
    record {
      newer = more ++ is.newer;
      older = is.older;
      all = same ∙ ap (λ l. more ++ l) is.all ∙ sym (append_assoc more is.newer is.older);
      known = is.known;
      later = all_append (λ (x : Change). time < time_of x) more is.newer
          (all_weaken (λ (x : Change). now < time_of x) (λ (x : Change). time < time_of x) more (λ x less. omega (arith, less, sent)) above) is.later;
      past = is.past;
      sent = omega (arith, sent, on);
    }
body_later changes more later now next time (table_ask namespace create at) same above on is = tt
body_later changes more later now next time (split_ask id namespace middle) same above on is = tt
body_later changes more later now next time (split_done id found) same above on is = tt
body_later changes more later now next time (write_ask id turn ordered namespace statements sent) same above on is = tt
body_later changes more later now next time (write_done id dones) same above on is = tt
body_later changes more later now next time (read_ask id turn namespace at half sent) same above on is = tt
body_later changes more later now next time (half_ask id turn namespace at half documents) same above on is = tt
body_later changes more later now next time (read_rows id turn rows) same above on is = tt
body_later changes more later now next time (refused what cause) same above on is = tt
body_later changes more later now next time (time_ask id) same above on is = tt
body_later changes more later now next time (time_told id) same above on is = tt

-- so it says the table of its time
body_says : (changes : List Change) (now time : ℕ) (b : Body) → TellsBody changes now time b → SaysTableAt changes time b
body_says changes now time (table_told namespace create at table) is =
    ap (λ l. known_table namespace l) (ap (λ l. changes_up_to time l) is.all ∙ none_of_later time is.newer is.older is.later is.past) ∙ is.known
body_says changes now time (table_ask namespace create at) is = tt
body_says changes now time (split_ask id namespace middle) is = tt
body_says changes now time (split_done id found) is = tt
body_says changes now time (write_ask id turn ordered namespace statements sent) is = tt
body_says changes now time (write_done id dones) is = tt
body_says changes now time (read_ask id turn namespace at half sent) is = tt
body_says changes now time (half_ask id turn namespace at half documents) is = tt
body_says changes now time (read_rows id turn rows) is = tt
body_says changes now time (refused what cause) is = tt
body_says changes now time (time_ask id) is = tt
body_says changes now time (time_told id) is = tt

pub tells_says : (changes : List Change) (now : ℕ) (mail : List Letter) → AllByRecursion (TellsBy changes now) mail
    → AllByRecursion (SaysTableOfItsTime changes) mail
tells_says changes now mail all =
    all_weaken (TellsBy changes now) (SaysTableOfItsTime changes) mail (λ (m : Letter) is. body_says changes now m.time m.body is) all

-- A STEP

-- more changes, above the time of the catalogue, which does not fall; and what is sent
pub record GoesOn (changes : List Change) (now : ℕ) (later : List Change) (next : ℕ) (mail : List Letter) : Type 0 where
  pub more : List Change
  pub same : later ≡ more ++ changes
  pub above : AreLater now more
  pub on : now ≤ next
  pub tells : AllByRecursion (TellsBy later next) mail

-- what was sent before, and now
pub still_tells : (changes : List Change) (now : ℕ) (later : List Change) (next : ℕ) (said mail : List Letter) → GoesOn changes now later next mail
    → AllByRecursion (TellsBy changes now) said → AllByRecursion (TellsBy later next) (said ++ mail)
still_tells changes now later next said mail g all =
    all_append (TellsBy later next) said mail
    (all_weaken (TellsBy changes now) (TellsBy later next) said
    (λ (m : Letter) is. body_later changes g.more later now next m.time m.body g.same g.above g.on is) all)
    g.tells

-- all changes that there are, at the time
told_now : (changes : List Change) (time : ℕ) (namespace : List ℕ) → AreUpTo time changes → IsTold changes time time namespace (known_table namespace changes)
told_now changes time namespace past =
    record { newer = []; older = changes; all = refl; known = refl; later = tt; past = past; sent = omega arith }

past_later : (early late : ℕ) (changes : List Change) → early ≤ late → AreUpTo early changes → AreUpTo late changes
past_later early late changes le past =
    all_weaken (λ (x : Change). time_of x ≤ early) (λ (x : Change). time_of x ≤ late) changes (λ x h. omega (arith, h, le)) past

-- no change is made
no_change : (c : Catalogue) (next : ℕ) (mail : List Letter) → c.time ≤ next → AllByRecursion (TellsBy c.changes next) mail
    → GoesOn c.changes c.time c.changes next mail
no_change c next mail on tells = record { more = []; same = refl; above = tt; on = on; tells = tells }

-- a change is made, at the next time
one_change : (c : Catalogue) (next : ℕ) (x : Change) (mail : List Letter) → c.time < next → time_of x ≡ next
    → AllByRecursion (TellsBy (x ∷ c.changes) next) mail → GoesOn c.changes c.time (x ∷ c.changes) next mail
one_change c next x mail less at tells = record { more = x ∷ []; same = refl; above = (omega (arith, less, at), tt); on = omega (arith, less); tells = tells }

pub catalogue_goes_on : (c d : Catalogue) (i : Input) (f : Effect) → AreUpTo c.time c.changes → CatalogueRow c i f d
    → GoesOn c.changes c.time d.changes d.time f.mail
catalogue_goes_on _ _ _ _ past (catalogue_create c m namespace at x says new) =
    let made : time_of x ≡ heard c m + 1 = ap (λ y. time_of y) (created_is namespace (heard c m + 1) c.changes x new) in
    one_change c (heard c m + 1) x _ (omega arith) made (
      told_now (x ∷ c.changes) (heard c m + 1) namespace (omega (arith, made), past_later c.time (heard c m + 1) c.changes (omega arith) past),
      tt,
    )
catalogue_goes_on _ _ _ _ past (catalogue_tell c m namespace create at says may) =
    no_change c (heard c m) _ (omega arith) (told_now c.changes (heard c m) namespace (past_later c.time (heard c m) c.changes (omega arith) past), tt)
catalogue_goes_on _ _ _ _ past (catalogue_split c m id namespace middle x says new) =
    one_change c (heard c m + 1) x _ (omega arith) (ap (λ y. time_of y) (splits namespace middle (heard c m + 1) c.changes x new).is) (tt, tt)
catalogue_goes_on _ _ _ _ past (catalogue_bound c m id namespace middle says there) = no_change c (heard c m) _ (omega arith) (tt, tt)
catalogue_goes_on _ _ _ _ past (catalogue_none c m id namespace middle says none) = no_change c (heard c m) _ (omega arith) (tt, tt)
catalogue_goes_on _ _ _ _ past (catalogue_skip c m skips) = no_change c c.time [] (omega arith) tt
catalogue_goes_on _ _ _ _ past (catalogue_moment c moment) = no_change c _ [] (omega arith) tt
catalogue_goes_on _ _ _ _ past (catalogue_opened c) = no_change c c.time [] (omega arith) tt
catalogue_goes_on _ _ _ _ past (catalogue_client c link number request) = no_change c c.time [] (omega arith) tt
