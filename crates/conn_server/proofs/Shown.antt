-- What is noted before replies are written.
use Rattle.std.proofs.Common.{◌≡◌, ℕ, ◌+◌, List, [], ◌∷◌, ◌++◌, length, map, Bool, IsTrue, refl, sym, ap, ◌∙◌, subst, arith, append-nil, length-append}
use Rattle.std.specs.Prelude.{Option, Some, None, MatchOption}
use Rattle.std.specs.List.{AllByRecursion}
use Rattle.std.specs.Option.{unwrap_or}
use Rattle.outside.specs.Notes.{Note}
use Rattle.outside.specs.Streams.{Put}
use Rattle.outside.specs.declared.exchange.Exchange.{Exchange}
use Rattle.pipe_driver.specs.Pieces.{PutInPart}
use Rattle.node_model.specs.Letters.{Input}
use Rattle.node_traits.specs.declared.outputs.ToLink.{ToLink}
use Rattle.history_model.proofs.Lists.{all_weaken}
use Rattle.group_steps.specs.Parts.{Among}
use Rattle.driver_steps.specs.Crashes.{Noted}
use Rattle.node_cell.specs.declared.view.Safe.{Safe}
use Rattle.node_cell.specs.declared.view.View.{View}
use Rattle.node_cell.specs.Board.{notes_at}
use Rattle.node_cell.specs.Courses.{WasSafe}
use Rattle.node_cell.specs.Standing.{AreAmong, IsPart, step_of}
use Rattle.node_cell.specs.Views.{Sights, safe_from}
use Rattle.node_cell.proofs.Lists.{all_at, are_among_front, are_among_on, are_among_self, sits}
use Rattle.conn_server.specs.Conversations.{AreMarked, IsMarked}
use Rattle.conn_server.specs.Talks.{AreShown, HasShown, IsAsked, IsNoted, IsReplied, IsShown, exchange_of, replies_of, reply_on}

-- WHAT WAS NOTED STAYS NOTED

still_one : (tells : Bool) (notes more : List Note) (before : ℕ) (safe wide : List Safe) (r : ℕ × ToLink) → (IsTrue tells → AreAmong notes more)
    → AreAmong safe wide → IsShown tells notes before safe r → IsShown tells more before wide r
still_one tells notes more before safe wide r grows part s = record {
  disks = s.disks;
  here = all_at (λ x. Among x wide) safe s.here.0 (safe_from s.disks r) s.here.1 part;
  noted = λ told. are_among_on (notes_at before s.disks) notes more (s.noted told) (grows told);
}

pub still_shown : (tells : Bool) (notes more : List Note) (before : ℕ) (safe wide : List Safe) (link : ℕ) (said : List Exchange)
    → (IsTrue tells → AreAmong notes more) → AreAmong safe wide → AreShown tells notes before safe link said → AreShown tells more before wide link said
still_shown tells notes more before safe wide link [] grows part are = tt
still_shown tells notes more before safe wide link (e ∷ said) grows part are = (
  by_reply e.reply are.0,
  still_shown tells notes more (before + length (unwrap_or e.reply [])) safe wide link said grows part are.1,
)
  where
    by_reply : (reply : Option (List ℕ)) → MatchOption reply (Unit {0}) (λ bytes. IsShown tells notes before safe (e.step, reply_on link bytes))
        → MatchOption reply (Unit {0}) (λ bytes. IsShown tells more before wide (e.step, reply_on link bytes))
    by_reply None is = tt
    by_reply (Some bytes) is = still_one tells notes more before safe wide (e.step, reply_on link bytes) grows part is

-- ONE EXCHANGE MORE

abbrev OfReply : Bool → List Note → (before : ℕ) → List Safe → (link : ℕ) → Exchange → Type 0
OfReply tells notes before safe link e = MatchOption e.reply (Unit {0}) (λ bytes. IsShown tells notes before safe (e.step, reply_on link bytes))

pub shown_more : (tells : Bool) (notes : List Note) (before : ℕ) (safe : List Safe) (link : ℕ) (said : List Exchange) (e : Exchange)
    → AreShown tells notes before safe link said → OfReply tells notes (before + length (replies_of said)) safe link e
    → AreShown tells notes before safe link (said ++ e ∷ [])
shown_more tells notes before safe link [] e are one =
    (subst (λ (k : ℕ). OfReply tells notes k safe link e) (let same : before + 0 ≡ before = omega arith in same) one, tt)
shown_more tells notes before safe link (x ∷ said) e are one =
    let first = length (unwrap_or x.reply []) in
    let at : before + length (unwrap_or x.reply [] ++ replies_of said) ≡ (before + first) + length (replies_of said) =
    omega (arith, length-append (unwrap_or x.reply []) (replies_of said)) in
    (are.0, shown_more tells notes (before + first) safe link said e are.1 (subst (λ (k : ℕ). OfReply tells notes k safe link e) at one))

replies_more : (said : List Exchange) (e : Exchange) → length (replies_of (said ++ e ∷ [])) ≡ length (replies_of said) + length (unwrap_or e.reply [])
replies_more [] e = omega (arith, length-append (unwrap_or e.reply []) [])
replies_more (x ∷ said) e =
    omega (
      arith,
      length-append (unwrap_or x.reply []) (replies_of (said ++ e ∷ [])),
      length-append (unwrap_or x.reply []) (replies_of said),
      replies_more said e,
    )

module _ (tells : Bool) (held : List ℕ) (notes : List Note) (before : ℕ) (safe wide : List Safe) (link : ℕ) (said all : List Exchange)
    (has : HasShown tells held notes before safe link said) (part : AreAmong safe wide) where
  -- nothing was said
  pub shown_same : all ≡ said → AreShown tells notes before wide link all
  shown_same same =
      subst (λ (l : List Exchange). AreShown tells notes before wide link l) (sym same)
      (still_shown tells notes notes before safe wide link said (λ told. are_among_self notes) part has.shown)

  -- a request without a reply
  pub has_silent : (came : ℕ) (copy : List ℕ) → all ≡ said ++ exchange_of came came copy None ∷ [] → HasShown tells held notes before wide link all
  has_silent came copy more =
      subst (λ (l : List Exchange). HasShown tells held notes before wide link l) (sym more)
      (record {
        at = λ told. omega (arith, has.at told, replies_more said (exchange_of came came copy None));
        shown = shown_more tells notes before wide link said (exchange_of came came copy None)
            (still_shown tells notes notes before safe wide link said (λ told. are_among_self notes) part has.shown) tt;
      })

  module _ (now : List Note) (disks : Sights) (came step : ℕ) (copy reply : List ℕ) (more : all ≡ said ++ exchange_of came step copy (Some reply) ∷ [])
      (noted : IsTrue tells → now ≡ notes ++ notes_at (length held) disks) (is_safe : Among (safe_from disks (step, reply_on link reply)) wide) where
    one : IsShown tells now (before + length (replies_of said)) wide (step, reply_on link reply)
    one = record {
      disks = disks;
      here = is_safe;
      noted = λ told. subst (λ (k : ℕ). AreAmong (notes_at k disks) now) (has.at told)
          (subst (λ (l : List Note). AreAmong (notes_at (length held) disks) l) (sym (noted told)) (sits notes (notes_at (length held) disks)));
    }

    grows : IsTrue tells → AreAmong notes now
    grows told = subst (λ (l : List Note). AreAmong notes l) (sym (noted told)) (are_among_front notes notes (notes_at (length held) disks) (are_among_self notes))

    -- one with a reply, whether it was written whole or not
    pub shown_replied : AreShown tells now before wide link all
    shown_replied =
        subst (λ (l : List Exchange). AreShown tells now before wide link l) (sym more)
        (shown_more tells now before wide link said (exchange_of came step copy (Some reply))
        (still_shown tells notes now before safe wide link said grows part has.shown) one)

    pub has_replied : (after : List ℕ) → (IsTrue tells → after ≡ held ++ reply) → HasShown tells after now before wide link all
    has_replied after put = record {
      at = λ told.
          let long : length after ≡ length held + length reply = ap (λ (l : List ℕ). length l) (put told) ∙ length-append held reply in
          let count : length (replies_of all) ≡ length (replies_of said) + length reply =
          ap (λ (l : List Exchange). length (replies_of l)) more ∙ replies_more said (exchange_of came step copy (Some reply)) in
          omega (arith, has.at told, long, count);
      shown = shown_replied;
    }

-- nothing was said yet
pub has_none : (tells : Bool) (held : List ℕ) (notes : List Note) (safe : List Safe) (link : ℕ) (said : List Exchange) → said ≡ []
    → HasShown tells held notes (length held) safe link said
has_none tells held notes safe link said none =
    subst (λ (l : List Exchange). HasShown tells held notes (length held) safe link l) (sym none) (record { at = λ told. omega arith; shown = tt })

-- the same by other names
pub shown_as : (tells : Bool) (notes : List Note) (from before : ℕ) (safe of_note : List Safe) (number link : ℕ) (said talk : List Exchange) → from ≡ before
    → safe ≡ of_note → number ≡ link → said ≡ talk → AreShown tells notes before of_note link talk → AreShown tells notes from safe number said
shown_as tells notes from before safe of_note number link said talk starts notes_are numbers same are =
    subst (λ (k : ℕ). AreShown tells notes k safe number said) (sym starts)
    (subst (λ (l : List Safe). AreShown tells notes before l number said) (sym notes_are)
    (subst (λ (k : ℕ). AreShown tells notes before of_note k said) (sym numbers)
    (subst (λ (l : List Exchange). AreShown tells notes before of_note link l) (sym same) are)))

pub has_as : (tells : Bool) (held now : List ℕ) (notes later : List Note) (before : ℕ) (safe : List Safe) (link number : ℕ) (said : List Exchange)
    → now ≡ held → later ≡ notes → number ≡ link → HasShown tells held notes before safe link said → HasShown tells now later before safe number said
has_as tells held now notes later before safe link number said held_is notes_are numbers has =
    subst (λ (h : List ℕ). HasShown tells h later before safe number said) (sym held_is)
    (subst (λ (l : List Note). HasShown tells held l before safe number said) (sym notes_are)
    (subst (λ (k : ℕ). HasShown tells held notes before safe k said) (sym numbers) has))

-- the same disks were noted
pub shown_by : (tells : Bool) (notes later : List Note) (before : ℕ) (safe : List Safe) (link number : ℕ) (said : List Exchange) → later ≡ notes
    → number ≡ link → AreShown tells notes before safe link said → AreShown tells later before safe number said
shown_by tells notes later before safe link number said notes_are numbers are =
    subst (λ (l : List Note). AreShown tells l before safe number said) (sym notes_are)
    (subst (λ (k : ℕ). AreShown tells notes before safe k said) (sym numbers) are)

-- what a note knows to be safe stays known
pub safe_more : (old new more : List Safe) → new ≡ old ++ more → AreAmong old new
safe_more old new more is = subst (λ (l : List Safe). AreAmong old l) (sym is) (are_among_front old old more (are_among_self old))

pub safe_same : {N L M I : Type 0} (v w : View N L M I) → w ≡ v → AreAmong v.safe w.safe
safe_same {N} {L} {M} {I} v w same = subst (λ (u : View N L M I). AreAmong v.safe u.safe) (sym same) (are_among_self v.safe)

-- WHAT A NOTE HAS SEEN STAYS SEEN

pub asked_part : {N L M I : Type 0} (meaning : I → Input) (v w : View N L M I) (link came : ℕ) (bytes : List ℕ) → IsPart v w
    → IsAsked meaning v.taken link came bytes → IsAsked meaning w.taken link came bytes
asked_part meaning v w link came bytes part a =
    record { at = a.at; input = a.input; is = a.is; here = all_at (λ x. Among x w.taken) v.taken a.here.0 (step_of came a.at a.input) a.here.1 part.taken }

pub told_part : {N L M I : Type 0} (v w : View N L M I) (r : ℕ × ToLink) → IsPart v w → Among r v.told → Among r w.told
told_part v w r part there = all_at (λ x. Among x w.told) v.told there.0 r there.1 part.told

pub replied_part : {N L M I : Type 0} (v w : View N L M I) (link came step : ℕ) (reply : Option (List ℕ)) → IsPart v w
    → IsReplied v.told link came step reply → IsReplied w.told link came step reply
replied_part v w link came step None part r = r
replied_part v w link came step (Some bytes) part r = all_at (λ x. Among x w.told) v.told r.0 (step, reply_on link bytes) r.1 part.told

pub noted_part : {N L M I : Type 0} (meaning : I → Input) (v w : View N L M I) (link : ℕ) (said : List Exchange) → IsPart v w
    → AllByRecursion (λ e. IsNoted meaning link v e) said → AllByRecursion (λ e. IsNoted meaning link w e) said
noted_part meaning v w link said part are =
    all_weaken (λ e. IsNoted meaning link v e) (λ e. IsNoted meaning link w e) said
    (λ e n. record { asked = asked_part meaning v w link e.came e.request part n.asked; replied = replied_part v w link e.came e.step e.reply part n.replied })
    are

-- the reply that was just seen is safe
pub told_safe : (told : List (ℕ × ToLink)) (safe : List Safe) (disks : Sights) (r : ℕ × ToLink) → AllByRecursion (λ x. Among (safe_from disks x) safe) told
    → Among r told → Among (safe_from disks r) safe
told_safe told safe disks r are there = all_at (λ x. Among (safe_from disks x) safe) told there.0 r there.1 are

-- IN ONE RUN

pub all_marked : (places : List (List ℕ)) (first : ℕ) (marks : List Noted) (tells : Bool) (notes : List Note) (before : ℕ) (safe : List Safe) (link : ℕ)
    (said : List Exchange) → AllByRecursion (λ s. WasSafe places first marks s) safe → AreShown tells notes before safe link said
    → AreMarked tells notes before places first marks link said
all_marked places first marks tells notes before safe link [] saw are = tt
all_marked places first marks tells notes before safe link (e ∷ said) saw are = (
  by_reply e.reply are.0,
  all_marked places first marks tells notes (before + length (unwrap_or e.reply [])) safe link said saw are.1,
)
  where
    by_reply : (reply : Option (List ℕ)) → MatchOption reply (Unit {0}) (λ bytes. IsShown tells notes before safe (e.step, reply_on link bytes))
        → MatchOption reply (Unit {0}) (λ bytes. IsMarked tells notes before places first marks (e.step, reply_on link bytes))
    by_reply None is = tt
    by_reply (Some bytes) is = record {
      disks = is.disks;
      safe = all_at (λ s. WasSafe places first marks s) safe is.here.0 (safe_from is.disks (e.step, reply_on link bytes)) is.here.1 saw;
      noted = is.noted;
    }

-- bytes were put from where a link was before a note
pub put_from : (tells : Bool) (a now b piece : List ℕ) → now ≡ a → Put tells now piece b → Put tells a piece b
put_from tells a now b piece same put = subst (λ (h : List ℕ). Put tells h piece b) same put

pub part_from : (tells : Bool) (a now b piece : List ℕ) → now ≡ a → PutInPart tells now piece b → PutInPart tells a piece b
part_from tells a now b piece same put = subst (λ (h : List ℕ). PutInPart tells h piece b) same put
