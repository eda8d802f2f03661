-- The bodies of the program's requests that are bodies of the definitions, and small.
use Rattle.std.proofs.Common.{◌≡◌, refl, ap, ◌∙◌, sym, subst, ℕ, suc, ◌+◌, ◌<◌, ◌≤◌, List, [], ◌∷◌, drop, length, get_or, true, false, add-one, drop-cons}
use Rattle.std.specs.Prelude.{is_some, pos, Option, Some, Result, Ok}
use Rattle.bson_model.specs.Faults.{short_fault, length_fault, type_fault, string_fault, boolean_fault, depth_fault, trailing_fault}
use Rattle.bson_values.specs.ReadFaults.{fault_offset}
use Rattle.bson_values.specs.declared.fault.BsonFault.{BsonFault}
use Rattle.bson_values.specs.declared.fault.BsonFault.TheVariants.{Short, BadLength, BadType, BadText, BadBool, Deep, Trailing, Memory}
use Rattle.command_model.proofs.Taken.{command_taken}
use Rattle.command_model.specs.Command.{Command, command_in}
use Rattle.command_model.specs.CommandSizes.{IsSmallCommand, IsTaken}
use Rattle.opmsg_model.specs.MessageSizes.{IsSmall, IsSmallBody}
use Rattle.base_model.specs.Refusals.{Refusal}
use Rattle.bson_model.specs.Tree.{Fields}
use Rattle.opmsg_frames.specs.Lists.{pairs_of}
use Rattle.opmsg_frames.specs.RequestMeanings.{IsBody}
use Rattle.opmsg_model.specs.Requests as wire
use Rattle.opmsg_frames.specs.declared.lists.Sequence.{Sequence}
use Rattle.opmsg_frames.specs.declared.request.Body.{Body}
use Rattle.opmsg_frames.specs.declared.request.Body.TheVariants.{Read, Faulty}
use Rattle.opmsg_model.specs.Messages.{most_bytes}
use Rattle.protocol_model.specs.Requests.{body_of, faulty_body_of}
use Rattle.router_replies.specs.Bodies.{AreSmall, AreSmallSequences, IsTakenBody}

fault_view : (fault : BsonFault) → is_some (fault_offset fault) ≡ true → IsBody (Faulty fault) (faulty_body_of fault)
fault_view (Short offset) e = (short_fault, offset, refl, refl)
fault_view (BadLength offset) e = (length_fault, offset, refl, refl)
fault_view (BadType offset byte) e = (type_fault byte, offset, refl, refl)
fault_view (BadText offset) e = (string_fault, offset, refl, refl)
fault_view (BadBool offset) e = (boolean_fault, offset, refl, refl)
fault_view (Deep offset) e = (depth_fault, offset, refl, refl)
fault_view (Trailing offset) e = (trailing_fault, offset, refl, refl)
fault_view Memory e = absurd (cc e)

-- the offset of a fault within a message
fault_small : (fault : BsonFault) (offset : ℕ) → fault_offset fault ≡ Some offset → offset ≤ most_bytes → IsSmallBody (faulty_body_of fault)
fault_small (Short place) offset e inside = let same : place ≡ offset = cc in rw same inside
fault_small (BadLength place) offset e inside = let same : place ≡ offset = cc in rw same inside
fault_small (BadType place byte) offset e inside = let same : place ≡ offset = cc in rw same inside
fault_small (BadText place) offset e inside = let same : place ≡ offset = cc in rw same inside
fault_small (BadBool place) offset e inside = let same : place ≡ offset = cc in rw same inside
fault_small (Deep place) offset e inside = let same : place ≡ offset = cc in rw same inside
fault_small (Trailing place) offset e inside = let same : place ≡ offset = cc in rw same inside
fault_small Memory offset e inside = absurd (cc e)

module _ (body : Body) where
  -- documents that were read
  pub read_taken : (document : Fields) (sequences : List (List ℕ × List Fields)) → body ≡ Read document sequences → IsSmall document → AreSmallSequences sequences → IsTakenBody body
  read_taken document sequences is small smalls = subst (λ (b : Body). IsTakenBody b) (sym is) (record { meant = refl; small = (small, smalls) })

  -- a fault
  pub faulty_taken : (fault : BsonFault) → body ≡ Faulty fault → (offset : ℕ) × (fault_offset fault ≡ Some offset) × (offset ≤ most_bytes) → IsTakenBody body
  faulty_taken fault is inside =
      subst (λ (b : Body). IsTakenBody b) (sym is) (record {
        meant = fault_view fault (ap (λ (o : Option ℕ). is_some o) inside.1);
        small = fault_small fault inside.0 inside.1 inside.2;
      })

-- the command of a small request is small
pub taken_small : (sent : wire.Form) (body : Body) (command : Command) → IsTakenBody body → command_in sent (body_of body) ≡ Ok command → IsSmallCommand command
taken_small sent body command taken told =
    subst (λ (r : Result Command Refusal). IsTaken r) told (command_taken (record { id = pos 0; more = false; form = sent; body = body_of body; bytes = [] }) taken.small)

-- sequences, from an index on
pub sequences_on : (sequences : List Sequence) (i : ℕ) (s : Sequence) → i < length sequences → s ≡ get_or sequences i s → AreSmall s.documents
    → AreSmallSequences (pairs_of (drop (i + 1) sequences)) → AreSmallSequences (pairs_of (drop i sequences))
sequences_on sequences i s inside here small rest =
    let cut : drop i sequences ≡ s ∷ drop (i + 1) sequences = rw add-one (drop-cons sequences i s inside ∙ ap (λ (first : Sequence). first ∷ drop (suc i) sequences) (sym here)) in
    subst (λ (l : List Sequence). AreSmallSequences (pairs_of l)) (sym cut) (small, rest)
