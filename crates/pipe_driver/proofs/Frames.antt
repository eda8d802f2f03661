-- Requests one after another.
use Rattle.std.proofs.Common.{◌≡◌, ◌≤◌, ℕ, ◌+◌, List, [], ◌∷◌, ◌++◌, length, refl, sym, subst, arith, append_assoc, length-append}
use Rattle.std.specs.Prelude.{Option}
use Rattle.std.specs.List.{flat_map, AllByRecursion}
use Rattle.opmsg_frames.specs.Requests.{Request, IsRequest}
use Rattle.opmsg_frames.specs.Outline.{FrameFault}
use Rattle.opmsg_frames.specs.Frames.{IsFirst, FramesFrom, goes_on}
use Rattle.opmsg_frames.proofs.SpelledOutlines.{spelled_outline}
use Rattle.opmsg_frames.proofs.Stays.{whole_stays}
use Rattle.opmsg_frames.proofs.WholeMessages.{is_whole}

pub all_more : {X : Type 0} (P : X → Type 0) (xs : List X) (x : X) → AllByRecursion P xs → P x → AllByRecursion P (xs ++ x ∷ [])
all_more P [] x all one = (one, tt)
all_more P (y ∷ xs) x all one = (all.0, all_more P xs x all.1 one)

-- the bytes of requests, one after another
abbrev pub bytes_of : List Request → List ℕ
bytes_of requests = flat_map (λ (r : Request). r.bytes) requests

-- a request is first in its bytes, whatever comes after them
pub stands_first : (r : Request) (behind : List ℕ) → IsRequest r → IsFirst (r.bytes ++ behind) r behind
stands_first r behind is = record { whole = whole_stays r.bytes behind (length r.bytes) (spelled_outline r is); split = refl; reads = is }

-- requests before bytes that are read so
pub frames_behind : (place : ℕ) (requests : List Request) (bytes : List ℕ) (more : List Request) (rest : List ℕ) (fault : Option (FrameFault × ℕ))
    → AllByRecursion IsRequest requests → FramesFrom (place + length (bytes_of requests)) bytes more rest fault
    → FramesFrom place (bytes_of requests ++ bytes) (requests ++ more) rest fault
frames_behind place [] bytes more rest fault all frames =
    let same : place + 0 ≡ place = omega arith in
    subst (λ (p : ℕ). FramesFrom p bytes more rest fault) same frames
frames_behind place (r ∷ requests) bytes more rest fault all frames =
    let behind : List ℕ = bytes_of requests ++ bytes in
    let same : place + length (r.bytes ++ bytes_of requests) ≡ (place + length r.bytes) + length (bytes_of requests) = omega (
      arith,
      length-append r.bytes
          (bytes_of requests),
    ) in
    let later = frames_behind (place + length r.bytes) requests bytes more rest fault all.1 (subst (λ (p : ℕ). FramesFrom p bytes more rest fault) same
    frames) in
    subst (λ (b : List ℕ). FramesFrom place b (r ∷ requests ++ more) rest fault) (sym (append_assoc r.bytes (bytes_of requests) bytes))
    (goes_on place (r.bytes ++ behind) behind r (requests ++ more) rest fault (stands_first r behind all.0) later)

-- a request has some bytes
pub some_bytes : (bytes behind : List ℕ) (r : Request) → IsFirst bytes r behind → 16 ≤ length r.bytes
some_bytes bytes behind r first = (is_whole (length r.bytes) bytes first.whole).least
