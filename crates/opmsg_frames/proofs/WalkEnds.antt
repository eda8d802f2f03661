-- A document is read, or it has a first fault: a walk ends after the document's first byte.
use Rattle.std.proofs.Common.{◌≡◌, ℕ, ◌-◌, ◌⊎◌, inl, inr, List, Result, Ok, Err, refl}
use Rattle.bson_model.specs.Tree.{Fields}
use Rattle.bson_model.specs.Faults.{Fault, HasFirstFault}
use Rattle.bson_values.specs.declared.fault.BsonFault.{BsonFault}
use Rattle.bson_values.specs.declared.fault.BsonFault.TheVariants.{Short, BadLength, BadType, BadText, BadBool, Deep, Trailing, Memory}
use Rattle.bson_values.specs.Readers.{whole_at}
use Rattle.bson_values.proofs.FirstFault.{is_first, never_memory}
use Rattle.bson_values.proofs.Whole.{whole_takes}
use Rattle.opmsg_model.specs.Sections.{IsStated}
use Rattle.opmsg_model.specs.Requests.{IsReadable}
use Rattle.bson_model.specs.Grammar.{AreBytes}
use Rattle.opmsg_frames.proofs.Wholes.{is_whole}

abbrev pub HasFault : List ℕ → Type 0
HasFault bytes = (fault : Fault) × (offset : ℕ) × HasFirstFault bytes fault offset

pub read_or_faulty : (bytes : List ℕ) → AreBytes bytes → IsStated bytes → IsReadable bytes ⊎ HasFault bytes
read_or_faulty bytes are stated = by_result (whole_at bytes) refl
  where
    by_result : (result : Result (Fields × ℕ) BsonFault) → whole_at bytes ≡ result → IsReadable bytes ⊎ HasFault bytes
    by_result (Ok x) e = let t = whole_takes bytes x are e in inl (x.0, is_whole bytes x.1 x.0 stated t.within t.reads t.low)
    by_result (Err Memory) e = absurd (never_memory bytes are e)
    by_result (Err (Short offset)) e = let t = is_first bytes (Err (Short offset)) are e (λ q. cc) in inr (t.0, t.1, t.3)
    by_result (Err (BadLength offset)) e = let t = is_first bytes (Err (BadLength offset)) are e (λ q. cc) in inr (t.0, t.1, t.3)
    by_result (Err (BadType offset byte)) e = let t = is_first bytes (Err (BadType offset byte)) are e (λ q. cc) in inr (t.0, t.1, t.3)
    by_result (Err (BadText offset)) e = let t = is_first bytes (Err (BadText offset)) are e (λ q. cc) in inr (t.0, t.1, t.3)
    by_result (Err (BadBool offset)) e = let t = is_first bytes (Err (BadBool offset)) are e (λ q. cc) in inr (t.0, t.1, t.3)
    by_result (Err (Deep offset)) e = let t = is_first bytes (Err (Deep offset)) are e (λ q. cc) in inr (t.0, t.1, t.3)
    by_result (Err (Trailing offset)) e = let t = is_first bytes (Err (Trailing offset)) are e (λ q. cc) in inr (t.0, t.1, t.3)
