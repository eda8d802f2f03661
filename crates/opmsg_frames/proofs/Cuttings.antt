-- A conversation with a framer returns the requests in the bytes that were fed.
use Rattle.std.proofs.Common.{◌≡◌, ℕ, ◌+◌, ◌⊎◌, inl, inr, Option, Some, None, Ok, Err, List, [], ◌∷◌, ◌++◌, length, refl, sym, ap, subst, ◌∙◌, append_assoc}
use Rattle.std.proofs.lemmas.List.{append-nil}
use Rattle.opmsg_model.specs.Frames.{IsFirst, FramesFrom, ends, fails, goes_on, Frames}
use Rattle.opmsg_model.specs.Outline as wire
use Rattle.opmsg_model.specs.Requests as requests
use Rattle.opmsg_frames.specs.declared.fault.FrameFault.TheVariants.{Malformed, Memory}
use Rattle.opmsg_frames.specs.declared.fault.Malformed as faults
use Rattle.opmsg_frames.specs.declared.fault.Malformed.TheVariants.{BadLength, TooLong, BadOpcode, BadFlags, BadKind, BadSection, TwoBodies, NoBody, BadQuery}
use Rattle.opmsg_frames.specs.declared.request.Request.{Request}
use Rattle.opmsg_frames.specs.Outlines.{fault_view}
use Rattle.opmsg_frames.specs.RequestMeanings.{IsMeant}
use Rattle.opmsg_frames.specs.FramerViews.{FramerView}
use Rattle.opmsg_frames.specs.Framers.{Given, Told}
use Rattle.opmsg_frames.specs.Conversations.{Step, took, refused, answered, IsStep, IsConversation, new_framer, piece_of, fed, request_of, given, AreMeant, IsToldAgain, OnlyTell}
use Rattle.bson_model.specs.Grammar.{AreBytes}
use Rattle.opmsg_frames.proofs.Stays.{whole_stays, fault_stays}
use Rattle.opmsg_frames.proofs.OneReading.{first_once, behind_bytes}

-- the bytes at an offset are requests, one after another, and then the bytes at another offset
abbrev Prefix : ℕ → List ℕ → List requests.Request → ℕ → List ℕ → Type 0
Prefix offset bytes [] end rest = (end ≡ offset) × (rest ≡ bytes)
Prefix offset bytes (r ∷ rs) end rest = (behind : List ℕ) × IsFirst bytes r behind × Prefix (offset + length r.bytes) behind rs end rest

first_stays : (bytes piece : List ℕ) (r : requests.Request) (behind : List ℕ) → IsFirst bytes r behind → IsFirst (bytes ++ piece) r (behind ++ piece)
first_stays bytes piece r behind first = record {
  whole = whole_stays bytes piece (length r.bytes) first.whole;
  split = ap (λ (l : List ℕ). l ++ piece) first.split ∙ append_assoc r.bytes behind piece;
  reads = first.reads;
}

prefix_fed : (offset : ℕ) (bytes piece : List ℕ) (rs : List requests.Request) (end : ℕ) (rest : List ℕ) → Prefix offset bytes rs end rest → Prefix offset (bytes ++ piece) rs end (rest ++ piece)
prefix_fed offset bytes piece [] end rest f = (f.0, ap (λ (l : List ℕ). l ++ piece) f.1)
prefix_fed offset bytes piece (r ∷ rs) end rest f =
    (f.0 ++ piece, first_stays bytes piece r f.0 f.1, prefix_fed (offset + length r.bytes) f.0 piece rs end rest f.2)

prefix_more : (offset : ℕ) (bytes : List ℕ) (rs : List requests.Request) (end : ℕ) (rest : List ℕ) (r : requests.Request) (behind : List ℕ) → Prefix offset bytes rs end rest → IsFirst rest r behind → Prefix offset bytes (rs ++ r ∷ []) (end + length r.bytes) behind
prefix_more offset bytes [] end rest r behind f first =
    (behind, rw f.1 at first, (ap (λ (n : ℕ). n + length r.bytes) f.0, refl))
prefix_more offset bytes (q ∷ rs) end rest r behind f first =
    (f.0, f.1, prefix_more (offset + length q.bytes) f.0 rs end rest r behind f.2 first)

prefix_then : (offset : ℕ) (bytes : List ℕ) (rs : List requests.Request) (end : ℕ) (rest : List ℕ) (more : List requests.Request) (left : List ℕ) (fault : Option (wire.FrameFault × ℕ)) → Prefix offset bytes rs end rest → FramesFrom end rest more left fault → FramesFrom offset bytes (rs ++ more) left fault
prefix_then offset bytes [] end rest more left fault f frames = rw (f.0, f.1) at frames
prefix_then offset bytes (r ∷ rs) end rest more left fault f frames =
    goes_on offset bytes f.0 r (rs ++ more) left fault f.1 (prefix_then (offset + length r.bytes) f.0 rs end rest more left fault f.2 frames)

prefix_first : (offset : ℕ) (bytes : List ℕ) (r : requests.Request) (behind : List ℕ) (all : List requests.Request) (left : List ℕ) (fault : Option (wire.FrameFault × ℕ)) → AreBytes bytes → IsFirst bytes r behind → FramesFrom offset bytes all left fault
    → (more : List requests.Request) × (all ≡ r ∷ more) × FramesFrom (offset + length r.bytes) behind more left fault
prefix_first offset bytes r behind _ _ _ are first (ends _ _ e) = absurd (let q : wire.partial_outline ≡ wire.message_outline (length r.bytes) = sym e ∙ first.whole in cc)
prefix_first offset bytes r behind _ _ _ are first (fails _ _ f e) = absurd (let q : wire.faulty_outline f ≡ wire.message_outline (length r.bytes) = sym e ∙ first.whole in cc)
prefix_first offset bytes r behind _ _ _ are first (goes_on _ _ rest s more left fault other frames) =
    let same = first_once bytes r s behind rest are first other in
    (more, ap (λ (q : requests.Request). q ∷ more) (sym same.0), rw (sym same.0, sym same.1) at frames)

prefix_is : (offset : ℕ) (bytes : List ℕ) (rs : List requests.Request) (end : ℕ) (rest : List ℕ) (all : List requests.Request) (left : List ℕ) (fault : Option (wire.FrameFault × ℕ)) → AreBytes bytes → Prefix offset bytes rs end rest → FramesFrom offset bytes all left fault
    → (more : List requests.Request) × (all ≡ rs ++ more)
prefix_is offset bytes [] end rest all left fault are f frames = (all, refl)
prefix_is offset bytes (r ∷ rs) end rest all left fault are f frames =
    let x = prefix_first offset bytes r f.0 all left fault are f.1 frames in
    let y = prefix_is (offset + length r.bytes) f.0 rs end rest x.0 left fault (behind_bytes bytes r f.0 are f.1) f.2 x.2 in
    (y.0, x.1 ∙ ap (λ (l : List requests.Request). r ∷ l) y.1)

-- a fault that was returned is in the bytes
abbrev Stands : Option wire.FrameFault → List ℕ → Type 0
Stands None bytes = Unit {0}
Stands (Some fault) bytes = wire.outline bytes ≡ wire.faulty_outline fault

-- what was fed and returned
record Spoken (all : List ℕ) (requests_given : List Request) (now : FramerView) : Type 0 where
  meants : List requests.Request
  meant : AreMeant requests_given meants
  prefix : Prefix 0 all meants now.offset now.bytes
  told : Stands now.fault now.bytes

none_spoken : Spoken [] [] new_framer
none_spoken = record { meants = []; meant = refl; prefix = (refl, refl); told = tt }

meant_more : (given_so_far : List Request) (meants : List requests.Request) (request : Request) (meant : requests.Request) → AreMeant given_so_far meants → IsMeant request meant → AreMeant (given_so_far ++ request ∷ []) (meants ++ meant ∷ [])
meant_more [] meants request meant are is = (meant, [], ap (λ (l : List requests.Request). l ++ meant ∷ []) are, is, refl)
meant_more (g ∷ given_so_far) meants request meant (m, others, e, first, behind) is =
    (m, others ++ meant ∷ [], ap (λ (l : List requests.Request). l ++ meant ∷ []) e, first, meant_more given_so_far others request meant behind is)

stands_fed : (fault : Option wire.FrameFault) (bytes piece : List ℕ) → Stands fault bytes → Stands fault (bytes ++ piece)
stands_fed None bytes piece s = tt
stands_fed (Some fault) bytes piece s = fault_stays bytes piece fault s

told_stands : (fault : wire.FrameFault) (old new : FramerView) (offset : ℕ) → Told old new fault offset → Stands old.fault old.bytes → wire.outline old.bytes ≡ wire.faulty_outline fault
told_stands fault old new offset t s = pick t.cause
  where
    pick : (old.fault ≡ Some fault) ⊎ ((old.fault ≡ None) × (wire.outline old.bytes ≡ wire.faulty_outline fault)) → wire.outline old.bytes ≡ wire.faulty_outline fault
    pick (inl e) = subst (λ (f : Option wire.FrameFault). Stands f old.bytes) e s
    pick (inr e) = e.1

-- nothing was fed or given
kept : (all : List ℕ) (so_far : List Request) (now : FramerView) → Spoken all so_far now → Spoken (all ++ []) (so_far ++ []) now
kept all so_far now s = rw (append-nil all, append-nil so_far) s

same_view : (all : List ℕ) (so_far : List Request) (old new : FramerView) → new ≡ old → Spoken all so_far old → Spoken (all ++ []) (so_far ++ []) new
same_view all so_far old new e s = rw e (kept all so_far old s)

took_piece : (all : List ℕ) (so_far : List Request) (old new : FramerView) (piece : List ℕ) → IsStep old (took piece) new → Spoken all so_far old → Spoken (all ++ piece) (so_far ++ []) new
took_piece all so_far old new piece e s = record {
  meants = s.meants;
  meant = rw (append-nil so_far) s.meant;
  prefix = rw (e.0, e.1) (prefix_fed 0 all piece s.meants old.offset old.bytes s.prefix);
  told = rw (e.0, e.2) (stands_fed old.fault old.bytes piece s.told);
}

one_more : (all : List ℕ) (so_far : List Request) (old new : FramerView) (request : Request) (meant : requests.Request) → Given old new request meant → Spoken all so_far old → Spoken (all ++ []) (so_far ++ request ∷ []) new
one_more all so_far old new request meant g s = record {
  meants = s.meants ++ meant ∷ [];
  meant = meant_more so_far s.meants request meant s.meant g.meant_is;
  prefix = rw (append-nil all, g.offset) (prefix_more 0 all s.meants old.offset old.bytes meant new.bytes s.prefix g.first);
  told = rw g.fault tt;
}

told_once : (all : List ℕ) (so_far : List Request) (old new : FramerView) (fault : wire.FrameFault) (offset : ℕ) → Told old new fault offset → Spoken all so_far old → Spoken (all ++ []) (so_far ++ []) new
told_once all so_far old new fault offset t s = record {
  meants = s.meants;
  meant = rw (append-nil so_far) s.meant;
  prefix = rw (append-nil all, t.offset_is, t.bytes) s.prefix;
  told = rw (t.kept, t.bytes) (told_stands fault old new offset t s.told);
}

spoken_step : (all : List ℕ) (so_far : List Request) (old : FramerView) (step : Step) (new : FramerView) → IsStep old step new → Spoken all so_far old → Spoken (all ++ piece_of step) (so_far ++ request_of step) new
spoken_step all so_far old (took piece) new e s = took_piece all so_far old new piece e s
spoken_step all so_far old refused new e s =
    took_piece all so_far old new [] (e.0 ∙ sym (append-nil old.bytes), e.1, e.2) s
spoken_step all so_far old (answered (Ok None)) new e s = same_view all so_far old new e.2 s
spoken_step all so_far old (answered (Ok (Some request))) new e s = one_more all so_far old new request e.1.0 e.1.1 s
spoken_step all so_far old (answered (Err (Malformed fault offset))) new e s = told_once all so_far old new (fault_view fault) offset e s
spoken_step all so_far old (answered (Err Memory)) new e s = same_view all so_far old new e.1 s

spoken_steps : (all : List ℕ) (so_far : List Request) (old : FramerView) (steps : List Step) (new : FramerView) → IsConversation old steps new → Spoken all so_far old → Spoken (all ++ fed steps) (so_far ++ given steps) new
spoken_steps all so_far old [] new e s = same_view all so_far old new e s
spoken_steps all so_far old (step ∷ steps) new (between, first, behind) s =
    rw (sym (append_assoc all (piece_of step) (fed steps)), sym (append_assoc so_far (request_of step) (given steps)))
    (spoken_steps (all ++ piece_of step) (so_far ++ request_of step) between steps new behind (spoken_step all so_far old step between first s))

spoken : (steps : List Step) (end : FramerView) → IsConversation new_framer steps end → Spoken (fed steps) (given steps) end
spoken steps end talk = spoken_steps [] [] new_framer steps end talk none_spoken

-- the steps before the last ones
split : (old : FramerView) (steps last : List Step) (new : FramerView) → IsConversation old (steps ++ last) new → (between : FramerView) × IsConversation old steps between × IsConversation between last new
split old [] last new talk = (old, refl, talk)
split old (step ∷ steps) last new (next, first, behind) =
    let s = split next steps last new behind in
    (s.0, (next, first, s.1), s.2)

pub a_prefix : (steps : List Step) (end : FramerView) → AreBytes (fed steps) → IsConversation new_framer steps end → (all : List requests.Request) (rest : List ℕ) (fault : Option (wire.FrameFault × ℕ)) → Frames (fed steps) all rest fault
    → (first others : List requests.Request) × (all ≡ first ++ others) × AreMeant (given steps) first
a_prefix steps end are talk all rest fault frames =
    let s = spoken steps end talk in
    let f = prefix_is 0 (fed steps) s.meants end.offset end.bytes all rest fault are s.prefix frames in
    (s.meants, f.0, f.1, s.meant)

pub all_given : (steps : List Step) (end : FramerView) → IsConversation new_framer (steps ++ answered (Ok None) ∷ []) end → (all : List requests.Request) × AreMeant (given steps) all × Frames (fed steps) all end.bytes None
all_given steps end talk =
    let t = split new_framer steps (answered (Ok None) ∷ []) end talk in
    let s = spoken steps t.0 t.1 in
    let last = t.2.1 in
    let same : end.bytes ≡ t.0.bytes = ap (λ (v : FramerView). v.bytes) (t.2.2 ∙ last.2) in
    let frames = prefix_then 0 (fed steps) s.meants t.0.offset t.0.bytes [] t.0.bytes None s.prefix (ends t.0.offset t.0.bytes last.1) in
    (s.meants, s.meant, rw (append-nil s.meants, sym same) at frames)

pub fault_told : (steps : List Step) (fault : faults.Malformed) (offset : ℕ) (end : FramerView) → IsConversation new_framer (steps ++ answered (Err (Malformed fault offset)) ∷ []) end
    → (all : List requests.Request) × AreMeant (given steps) all × Frames (fed steps) all end.bytes (Some (fault_view fault, offset))
fault_told steps fault offset end talk =
    let t = split new_framer steps (answered (Err (Malformed fault offset)) ∷ []) end talk in
    let s = spoken steps t.0 t.1 in
    let last : Told t.0 t.2.0 (fault_view fault) offset = t.2.1 in
    let same : end.bytes ≡ t.0.bytes = ap (λ (v : FramerView). v.bytes) t.2.2 ∙ last.bytes in
    let stands = told_stands (fault_view fault) t.0 t.2.0 offset last s.told in
    let frames = prefix_then 0 (fed steps) s.meants t.0.offset t.0.bytes [] t.0.bytes (Some (fault_view fault, t.0.offset)) s.prefix (fails t.0.offset t.0.bytes (fault_view fault) stands) in
    (s.meants, s.meant, rw (append-nil s.meants, sym same, sym last.at) at frames)

-- a fault is returned again

-- one fault of the program is one of the definitions
abbrev told_as : wire.FrameFault → faults.Malformed
told_as wire.bad_length = BadLength
told_as wire.too_long = TooLong
told_as wire.bad_opcode = BadOpcode
told_as wire.bad_flags = BadFlags
told_as wire.bad_kind = BadKind
told_as wire.bad_section = BadSection
told_as wire.two_bodies = TwoBodies
told_as wire.no_body = NoBody
told_as wire.bad_query = BadQuery

told_back : (f : faults.Malformed) → told_as (fault_view f) ≡ f
told_back BadLength = refl
told_back TooLong = refl
told_back BadOpcode = refl
told_back BadFlags = refl
told_back BadKind = refl
told_back BadSection = refl
told_back TwoBodies = refl
told_back NoBody = refl
told_back BadQuery = refl

fault_once : (f g : faults.Malformed) → fault_view f ≡ fault_view g → f ≡ g
fault_once f g e = sym (told_back f) ∙ ap (λ (h : wire.FrameFault). told_as h) e ∙ told_back g

-- a fault was returned
abbrev Holds : faults.Malformed → ℕ → FramerView → Type 0
Holds fault offset now = (now.fault ≡ Some (fault_view fault)) × (now.offset ≡ offset)

told_again : (fault : faults.Malformed) (offset : ℕ) (old : FramerView) (step : Step) (new : FramerView) → Holds fault offset old → IsStep old step new → IsToldAgain fault offset step × Holds fault offset new
told_again fault offset old (took piece) new h e = (tt, (e.2 ∙ h.0, e.1 ∙ h.1))
told_again fault offset old refused new h e = (tt, (e.2 ∙ h.0, e.1 ∙ h.1))
told_again fault offset old (answered (Ok None)) new h e = absurd (let q : None ≡ Some (fault_view fault) = sym e.0 ∙ h.0 in cc)
told_again fault offset old (answered (Ok (Some request))) new h e = absurd (let q : None ≡ Some (fault_view fault) = sym e.0 ∙ h.0 in cc)
told_again fault offset old (answered (Err Memory)) new h e = absurd (let q : None ≡ Some (fault_view fault) = sym e.0 ∙ h.0 in cc)
told_again fault offset old (answered (Err (Malformed g there))) new h t =
    let same : g ≡ fault = by_cause t.cause in
    let at : there ≡ offset = t.at ∙ h.1 in
    (cc (same, at), (t.kept ∙ ap (λ (f : faults.Malformed). Some (fault_view f)) same, t.offset_is ∙ h.1))
  where
    by_cause : (old.fault ≡ Some (fault_view g)) ⊎ ((old.fault ≡ None) × (wire.outline old.bytes ≡ wire.faulty_outline (fault_view g))) → g ≡ fault
    by_cause (inl e) = let q : Some (fault_view g) ≡ Some (fault_view fault) = sym e ∙ h.0 in fault_once g fault (cc)
    by_cause (inr e) = absurd (let q : None ≡ Some (fault_view fault) = sym e.0 ∙ h.0 in cc)

only_told : (fault : faults.Malformed) (offset : ℕ) (old : FramerView) (steps : List Step) (new : FramerView) → Holds fault offset old → IsConversation old steps new → OnlyTell fault offset steps
only_told fault offset old [] new h talk = tt
only_told fault offset old (step ∷ steps) new h (between, first, behind) =
    let a = told_again fault offset old step between h first in
    (a.0, only_told fault offset between steps new a.1 behind)

pub again : (before after : List Step) (fault : faults.Malformed) (offset : ℕ) (start end : FramerView) → IsConversation start (before ++ answered (Err (Malformed fault offset)) ∷ after) end → OnlyTell fault offset after
again before after fault offset start end talk =
    let t = split start before (answered (Err (Malformed fault offset)) ∷ after) end talk in
    let told : Told t.0 t.2.0 (fault_view fault) offset = t.2.1 in
    only_told fault offset t.2.0 after end (told.kept, told.offset_is ∙ sym told.at) t.2.2
