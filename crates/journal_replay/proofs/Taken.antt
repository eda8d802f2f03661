-- Records that were replayed, and the next one.
use Rattle.std.proofs.Common.{◌≡◌, ◌+◌, ◌<◌, ◌≤◌, ℕ, zero, suc, List, [], ◌∷◌, ◌++◌, refl, ap, ◌∙◌, sym, subst, arith, map, take, length, get_or, Bool, true, false}
use Rattle.std.specs.Prelude.{max, Option, Some, None, slice_get}
use Rattle.history_model.proofs.Lists.{all_append}
use Rattle.record_model.specs.RecordFormat.{spelled}
use Rattle.record_model.specs.Records.{Record}
use Rattle.shard_records.specs.Readable.{IsReadable}
use Rattle.node_replay.specs.Durable.{DurableState}
use Rattle.node_replay.specs.Replays.{follow, replayed, latest_time, time_in}
use Rattle.journal_replay.specs.Replayed.{IsRead, IsReplayed, IsRefused, IsTaken}

replayed_one : (o : Option DurableState) → replayed o [] ≡ o
replayed_one None = refl
replayed_one (Some d) = refl

replayed_push : (o : Option DurableState) (records : List Record) (r : Record) (d e : DurableState) → replayed o records ≡ Some d → follow d r ≡ Some e
    → replayed o (records ++ r ∷ []) ≡ Some e
replayed_push None records r d e before next = absurd (cc)
replayed_push (Some a) [] r d e before next =
    let is : a ≡ d = cc in
    replayed_one (follow a r) ∙ (ap (λ x. follow x r) is ∙ next)
replayed_push (Some a) (q ∷ records) r d e before next = replayed_push (follow a q) records r d e before next

latest_push : (records : List Record) (r : Record) → latest_time (records ++ r ∷ []) ≡ max (latest_time records) (time_in r)
latest_push [] r = omega arith
latest_push (q ∷ records) r = let h = latest_push records r in omega (arith, h)

map_push : {X Y : Type 0} (f : X → Y) (xs : List X) (x : X) → map f (xs ++ x ∷ []) ≡ map f xs ++ f x ∷ []
map_push f [] x = refl
map_push f (y ∷ xs) x = ap (λ l. f y ∷ l) (map_push f xs x)

got_at : {X : Type 0} (xs : List X) (i : ℕ) (d : X) → i < length xs → slice_get xs i ≡ Some (get_or xs i d)
got_at [] i d less = absurd (omega arith)
got_at (x ∷ xs) zero d less = refl
got_at (x ∷ xs) (suc i) d less = got_at xs i d (omega arith)

-- the bytes that were read are those at the place
pub read_here : (bytes : List (List ℕ)) (i : ℕ) (b x : List ℕ) → i < length bytes → b ≡ x → x ≡ get_or bytes i x → slice_get bytes i ≡ Some b
read_here bytes i b x less same is = got_at bytes i x less ∙ ap (λ y. Some y) (sym (same ∙ is))

take_next : {X : Type 0} (xs : List X) (i : ℕ) (x : X) → slice_get xs i ≡ Some x → take (suc i) xs ≡ take i xs ++ x ∷ []
take_next [] i x here = absurd (cc)
take_next (y ∷ xs) zero x here = let same : y ≡ x = cc in ap (λ z. z ∷ []) same
take_next (y ∷ xs) (suc i) x here = ap (λ l. y ∷ l) (take_next xs i x here)

take_all : {X : Type 0} (xs : List X) (i : ℕ) → length xs ≤ i → take i xs ≡ xs
take_all [] zero le = refl
take_all [] (suc i) le = refl
take_all (x ∷ xs) zero le = absurd (omega (arith, le))
take_all (x ∷ xs) (suc i) le = ap (λ l. x ∷ l) (take_all xs i (omega (arith, le)))

pub none_yet : (empty : DurableState) (bytes : List (List ℕ)) (time : ℕ) → time ≡ 0 → IsReplayed empty (take 0 bytes) empty time
none_yet empty bytes time early = record { records = []; readable = tt; encoded = refl; leads = refl; latest = early }

one_more : (empty : DurableState) (bytes : List (List ℕ)) (b : List ℕ) (d e : DurableState) (time later : ℕ) → IsReplayed empty bytes d time
    → IsRead d time b e later → IsReplayed empty (bytes ++ b ∷ []) e later
one_more empty bytes b d e time later so_far read = record {
  records = so_far.records ++ read.next ∷ [];
  readable = all_append IsReadable so_far.records (read.next ∷ []) so_far.readable ((read.sound, read.held), tt);
  encoded = map_push (spelled 1) so_far.records read.next ∙ (ap (λ l. l ++ spelled 1 read.next ∷ []) so_far.encoded ∙ ap (λ x. bytes ++ x ∷ []) read.encoded);
  leads = replayed_push (Some empty) so_far.records read.next d e so_far.leads read.leads;
  latest = read.latest ∙ (ap (λ t. max t (time_in read.next)) so_far.latest ∙ sym (latest_push so_far.records read.next));
}

-- after the record at a place was taken in
pub replayed_next : (empty : DurableState) (bytes : List (List ℕ)) (i : ℕ) (b : List ℕ) (d e : DurableState) (time later : ℕ) (taken : Bool)
    → slice_get bytes i ≡ Some b → IsReplayed empty (take i bytes) d time → IsTaken d time b e later taken → taken ≡ true
    → IsReplayed empty (take (i + 1) bytes) e later
replayed_next empty bytes i b d e time later true here so_far read is =
    let one : i + 1 ≡ suc i = omega arith in
    let next : take (i + 1) bytes ≡ take i bytes ++ b ∷ [] = ap (λ n. take n bytes) one ∙ take_next bytes i b here in
    subst (λ l. IsReplayed empty l e later) (sym next) (one_more empty (take i bytes) b d e time later so_far read)
replayed_next empty bytes i b d e time later false here so_far read is = absurd (cc)

-- where the record at a place was not taken in
pub refused_at : (empty : DurableState) (bytes : List (List ℕ)) (i : ℕ) (b : List ℕ) (d e : DurableState) (time later : ℕ) (taken : Bool)
    → slice_get bytes i ≡ Some b → IsReplayed empty (take i bytes) d time → IsTaken d time b e later taken → taken ≡ false → IsRefused empty bytes i
refused_at empty bytes i b d e time later true here so_far read is = absurd (cc)
refused_at empty bytes i b d e time later false here so_far read is = record {
  d = d;
  time = time;
  next = b;
  before = so_far;
  here = here;
  refused = read;
}

-- after all of them
pub replayed_all : (empty : DurableState) (bytes : List (List ℕ)) (i : ℕ) (d : DurableState) (time : ℕ) → length bytes ≤ i
    → IsReplayed empty (take i bytes) d time → IsReplayed empty bytes d time
replayed_all empty bytes i d time le so_far = subst (λ l. IsReplayed empty l d time) (take_all bytes i le) so_far
