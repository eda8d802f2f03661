-- Bytes have one reading.
use Rattle.std.proofs.Common.{◌≡◌, ℕ, ◌+◌, Option, Some, List, length, take, drop, refl, sym, ap, ◌∙◌}
use Rattle.std.proofs.lemmas.List.{take_at, drop_at}
use Rattle.opmsg_model.specs.Requests.{Request}
use Rattle.opmsg_model.specs.Frames.{IsFirst, FramesFrom, ends, fails, goes_on}
use Rattle.opmsg_model.specs.Outline.{FrameFault, partial_outline, message_outline, faulty_outline, outline}
use Rattle.bson_values.proofs.Leaves.{AreBytes-take, AreBytes-drop}
use Rattle.bson_model.specs.Grammar.{AreBytes}
use Rattle.opmsg_frames.proofs.OneRequest.{one_request}

-- one request comes first
pub first_once : (bytes : List ℕ) (r s : Request) (behind rest : List ℕ) → AreBytes bytes → IsFirst bytes r behind → IsFirst bytes s rest → (r ≡ s) × (behind ≡ rest)
first_once bytes r s behind rest are a b =
    let whole : message_outline (length r.bytes) ≡ message_outline (length s.bytes) = sym a.whole ∙ b.whole in
    let size : length r.bytes ≡ length s.bytes = cc in
    let prefix : take (length r.bytes) bytes ≡ r.bytes = ap (λ (l : List ℕ). take (length r.bytes) l) a.split ∙ take_at r.bytes behind (length r.bytes) refl in
    let same : r.bytes ≡ s.bytes = sym prefix ∙ ap (λ (l : List ℕ). take (length r.bytes) l) b.split ∙ take_at s.bytes rest (length r.bytes) (sym size) in
    let left : drop (length r.bytes) bytes ≡ behind = ap (λ (l : List ℕ). drop (length r.bytes) l) a.split ∙ drop_at r.bytes behind (length r.bytes) refl in (
      one_request r s (rw prefix at (AreBytes-take (length r.bytes) bytes are)) same a.reads b.reads,
      sym left ∙ ap (λ (l : List ℕ). drop (length r.bytes) l) b.split ∙ drop_at s.bytes rest (length r.bytes) (sym size),
    )

-- the bytes after a request
pub behind_bytes : (bytes : List ℕ) (r : Request) (behind : List ℕ) → AreBytes bytes → IsFirst bytes r behind → AreBytes behind
behind_bytes bytes r behind are a =
    let left : drop (length r.bytes) bytes ≡ behind = ap (λ (l : List ℕ). drop (length r.bytes) l) a.split ∙ drop_at r.bytes behind (length r.bytes) refl in
    rw left at (AreBytes-drop (length r.bytes) bytes are)

-- what bytes begin with
not_partial : (bytes : List ℕ) (r : Request) (behind : List ℕ) → outline bytes ≡ partial_outline → IsFirst bytes r behind → ⊥
not_partial bytes r behind e a = let q : partial_outline ≡ message_outline (length r.bytes) = sym e ∙ a.whole in cc

not_faulty : (bytes : List ℕ) (r : Request) (behind : List ℕ) (fault : FrameFault) → outline bytes ≡ faulty_outline fault → IsFirst bytes r behind → ⊥
not_faulty bytes r behind fault e a = let q : faulty_outline fault ≡ message_outline (length r.bytes) = sym e ∙ a.whole in cc

not_both : (bytes : List ℕ) (fault : FrameFault) → outline bytes ≡ partial_outline → outline bytes ≡ faulty_outline fault → ⊥
not_both bytes fault e f = let q : partial_outline ≡ faulty_outline fault = sym e ∙ f in cc

pub record Alike (requests others : List Request) (rest more : List ℕ) (fault other : Option (FrameFault × ℕ)) : Type 0 where
  pub requests_are : requests ≡ others
  pub rest_is : rest ≡ more
  pub fault_is : fault ≡ other

placed : FrameFault → ℕ → Option (FrameFault × ℕ)
placed fault offset = Some (fault, offset)

same_placed : (f g : FrameFault) (offset : ℕ) → f ≡ g → placed f offset ≡ placed g offset
same_placed f g offset e = ap (λ (h : FrameFault). placed h offset) e

same_fault : (bytes : List ℕ) (f g : FrameFault) → outline bytes ≡ faulty_outline f → outline bytes ≡ faulty_outline g → f ≡ g
same_fault bytes f g a b = let q : faulty_outline f ≡ faulty_outline g = sym a ∙ b in cc

pub one_reading : (offset : ℕ) (bytes : List ℕ) (requests others : List Request) (rest more : List ℕ) (fault other : Option (FrameFault × ℕ)) → AreBytes bytes → FramesFrom offset bytes requests rest fault → FramesFrom offset bytes others more other → Alike requests others rest more fault other
unfolding placed
one_reading offset bytes _ _ _ _ _ _ are (ends _ _ e) (ends _ _ f) = record { requests_are = refl; rest_is = refl; fault_is = refl }
one_reading offset bytes _ _ _ _ _ _ are (ends _ _ e) (fails _ _ g f) = absurd (not_both bytes g e f)
one_reading offset bytes _ _ _ _ _ _ are (ends _ _ e) (goes_on _ _ behind s others _ _ f more) = absurd (not_partial bytes s behind e f)
one_reading offset bytes _ _ _ _ _ _ are (fails _ _ g e) (ends _ _ f) = absurd (not_both bytes g f e)
one_reading offset bytes _ _ _ _ _ _ are (fails _ _ g e) (fails _ _ h f) = record { requests_are = refl; rest_is = refl; fault_is = same_placed g h offset (same_fault bytes g h e f) }
one_reading offset bytes _ _ _ _ _ _ are (fails _ _ g e) (goes_on _ _ behind s others _ _ f more) = absurd (not_faulty bytes s behind g e f)
one_reading offset bytes _ _ _ _ _ _ are (goes_on _ _ behind r requests _ _ e more) (ends _ _ f) = absurd (not_partial bytes r behind f e)
one_reading offset bytes _ _ _ _ _ _ are (goes_on _ _ behind r requests _ _ e more) (fails _ _ g f) = absurd (not_faulty bytes r behind g f e)
one_reading offset bytes _ _ _ _ _ _ are (goes_on _ _ behind r requests rest fault e rs) (goes_on _ _ behind' s others more other f ss) =
    let first = first_once bytes r s behind behind' are e f in
    let same : r ≡ s = first.0 in
    let next : FramesFrom (offset + length r.bytes) behind others more other = rw (sym first.0, sym first.1) at ss in
    let behind_it = one_reading (offset + length r.bytes) behind requests others rest more fault other (behind_bytes bytes r behind are e) rs next in
    let all : requests ≡ others = behind_it.requests_are in
    record { requests_are = cc (same, all); rest_is = behind_it.rest_is; fault_is = behind_it.fault_is }
