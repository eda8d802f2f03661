-- The fault that a call returns is the first one.
use Rattle.std.proofs.Common.{◌≡◌, ◌≢◌, ℕ, ◌<◌, ◌⊎◌, inl, inr, List, Result, Ok, Err, refl, sym, ap, subst, ◌∙◌, arith}
use Rattle.std.specs.Prelude.{IfErr}
use Rattle.bson_model.specs.Faults.{Fault, short_fault, length_fault, type_fault, string_fault, boolean_fault, depth_fault, trailing_fault, Step, ends_at, faulty, Walks, walks_to_end, walks_to_fault, first_step, HasFirstFault}
use Rattle.bson_model.specs.Grammar.{AreBytes, BeginsWith}
use Rattle.bson_model.specs.Tree.{Fields}
use Rattle.bson_model.proofs.WalkEnds.{ends_later}
use Rattle.bson_model.proofs.Walks.{one_outcome}
use Rattle.bson_values.specs.declared.fault.BsonFault.{BsonFault}
use Rattle.bson_values.specs.declared.fault.BsonFault.TheVariants.{Short, BadLength, BadType, BadText, BadBool, Deep, Trailing, Memory}
use Rattle.bson_values.specs.ReadFaults.{Fails, Gives, fault_from}
use Rattle.bson_values.specs.Readers.{whole_at}
use Rattle.bson_values.proofs.ReaderWalks.{stop, Goes}
use Rattle.bson_values.proofs.WalkedValues.{whole_goes}
use Rattle.bson_values.proofs.Whole.{whole_takes, whole_again}

-- the error that a step results in
abbrev told : Step → BsonFault
told (faulty fault offset) = fault_from fault offset
told step = Memory

told_stop : (e : BsonFault) → told (stop e) ≡ e
told_stop (Short offset) = refl
told_stop (BadLength offset) = refl
told_stop (BadType offset byte) = refl
told_stop (BadText offset) = refl
told_stop (BadBool offset) = refl
told_stop (Deep offset) = refl
told_stop (Trailing offset) = refl
told_stop Memory = refl

walks_to_stop : (bytes : List ℕ) (e : BsonFault) → Walks bytes (stop e) (stop e)
walks_to_stop bytes (Short offset) = walks_to_fault short_fault offset
walks_to_stop bytes (BadLength offset) = walks_to_fault length_fault offset
walks_to_stop bytes (BadType offset byte) = walks_to_fault (type_fault byte) offset
walks_to_stop bytes (BadText offset) = walks_to_fault string_fault offset
walks_to_stop bytes (BadBool offset) = walks_to_fault boolean_fault offset
walks_to_stop bytes (Deep offset) = walks_to_fault depth_fault offset
walks_to_stop bytes (Trailing offset) = walks_to_fault trailing_fault offset
walks_to_stop bytes Memory = walks_to_end 0

-- what fails in reading is the first fault
read_fails : (bytes : List ℕ) (read : Result (Fields × ℕ) BsonFault) (fault : Fault) (offset : ℕ) → Goes bytes (first_step bytes) read (λ x. ends_at x.1)
    → HasFirstFault bytes fault offset → read ≡ Err (fault_from fault offset)
read_fails bytes (Ok x) fault offset goes first =
    let same : ends_at x.1 ≡ faulty fault offset = one_outcome bytes _ _ _ (goes (ends_at x.1) (walks_to_end x.1)) first in
    absurd (cc (same))
read_fails bytes (Err e) fault offset goes first =
    let same : stop e ≡ faulty fault offset = one_outcome bytes _ _ _ (goes (stop e) (walks_to_stop bytes e)) first in
    ap (λ (d : BsonFault). Err d) (sym (told_stop e) ∙ ap told same)

pub is_faulty : (bytes : List ℕ) (result : Result (Fields × ℕ) BsonFault) → AreBytes bytes → Gives (λ x. x) result (whole_at bytes)
    → (fault : Fault) (offset : ℕ) → HasFirstFault bytes fault offset → Gives (λ x. x) result (Err (fault_from fault offset))
is_faulty bytes result is_bytes gives fault offset first =
    subst (λ (read : Result (Fields × ℕ) BsonFault). Gives (λ x. x) result read)
    (read_fails bytes (whole_at bytes) fault offset (whole_goes bytes is_bytes) first) gives

abbrev pub TellsFirst : List ℕ → BsonFault → Type 0
TellsFirst bytes e = (fault : Fault) × (offset : ℕ) × (e ≡ fault_from fault offset) × HasFirstFault bytes fault offset

-- what an error says, where the walk ends at its fault
tells : (bytes : List ℕ) (e : BsonFault) → e ≢ Memory → Walks bytes (first_step bytes) (stop e) → TellsFirst bytes e
tells bytes (Short offset) other w = (short_fault, offset, refl, w)
tells bytes (BadLength offset) other w = (length_fault, offset, refl, w)
tells bytes (BadType offset byte) other w = (type_fault byte, offset, refl, w)
tells bytes (BadText offset) other w = (string_fault, offset, refl, w)
tells bytes (BadBool offset) other w = (boolean_fault, offset, refl, w)
tells bytes (Deep offset) other w = (depth_fault, offset, refl, w)
tells bytes (Trailing offset) other w = (trailing_fault, offset, refl, w)
tells bytes Memory other w = absurd (other refl)

fails_so : {A : Type 0} (e : BsonFault) (read : Result A BsonFault) → e ≢ Memory → Fails e read → read ≡ Err e
fails_so (Short offset) read other h = h
fails_so (BadLength offset) read other h = h
fails_so (BadType offset byte) read other h = h
fails_so (BadText offset) read other h = h
fails_so (BadBool offset) read other h = h
fails_so (Deep offset) read other h = h
fails_so (Trailing offset) read other h = h
fails_so Memory read other h = absurd (other refl)

pub is_first : (bytes : List ℕ) (result : Result (Fields × ℕ) BsonFault) → AreBytes bytes → Gives (λ x. x) result (whole_at bytes)
    → IfErr result (λ e. e ≢ Memory → TellsFirst bytes e)
is_first bytes (Ok x) is_bytes gives = tt
is_first bytes (Err e) is_bytes gives = λ other.
    let goes = subst (λ (read : Result (Fields × ℕ) BsonFault). Goes bytes (first_step bytes) read (λ x. ends_at x.1))
    (fails_so e (whole_at bytes) other gives) (whole_goes bytes is_bytes) in
    tells bytes e other (goes (stop e) (walks_to_stop bytes e))

pub one_fault : (bytes : List ℕ) (f g : Fault) (p q : ℕ) → HasFirstFault bytes f p → HasFirstFault bytes g q → (f ≡ g) × (p ≡ q)
one_fault bytes f g p q first second = let same : faulty f p ≡ faulty g q = one_outcome bytes _ _ _ first second in (cc (same), cc (same))

-- ---- a document or a fault

pub never_memory : (bytes : List ℕ) → AreBytes bytes → whole_at bytes ≡ Err Memory → ⊥
never_memory bytes are e =
    let goes = subst (λ (read : Result (Fields × ℕ) BsonFault). Goes bytes (first_step bytes) read (λ x. ends_at x.1)) e (whole_goes bytes are) in
    let later : 0 < 0 = ends_later bytes 0 (goes (ends_at 0) (walks_to_end 0)) in
    omega arith

pub document_or_fault : (bytes : List ℕ) → AreBytes bytes
    → ((n : ℕ) × (ms : Fields) × BeginsWith bytes n ms) ⊎ ((fault : Fault) × (offset : ℕ) × HasFirstFault bytes fault offset)
document_or_fault bytes are = by_result (whole_at bytes) refl
  where
    by_result : (read : Result (Fields × ℕ) BsonFault) → whole_at bytes ≡ read
        → ((n : ℕ) × (ms : Fields) × BeginsWith bytes n ms) ⊎ ((fault : Fault) × (offset : ℕ) × HasFirstFault bytes fault offset)
    by_result (Ok x) e = let t = whole_takes bytes x are e in inl (x.1, x.0, (t.within, t.reads, t.low))
    by_result (Err d) e =
        let goes = subst (λ (read : Result (Fields × ℕ) BsonFault). Goes bytes (first_step bytes) read (λ x. ends_at x.1)) e (whole_goes bytes are) in
        let t = tells bytes d (λ q. never_memory bytes are (e ∙ ap (λ (c : BsonFault). Err c) q)) (goes (stop d) (walks_to_stop bytes d)) in
        inr (t.0, t.1, t.3)

pub never_both : (bytes : List ℕ) (n : ℕ) (ms : Fields) (fault : Fault) (offset : ℕ) → AreBytes bytes → BeginsWith bytes n ms
    → HasFirstFault bytes fault offset → ⊥
never_both bytes n ms fault offset are begins first =
    let read = whole_again bytes ms n begins.0 begins.1 begins.2 in
    let failed = read_fails bytes (whole_at bytes) fault offset (whole_goes bytes are) first in
    let both : Ok (ms, n) ≡ Err (fault_from fault offset) = sym read ∙ failed in
    cc
