-- A body with a fault.
use Rattle.std.proofs.Common.{◌≡◌, ◌≢◌, ℕ, ◌<◌, ◌^◌, List, Result, Ok, Err, refl, sym, ap}
use Rattle.std.specs.Prelude.{ℤ, IfOk}
use Rattle.std.specs.Int.{w32, cast_signed, cast_unsigned}
use Rattle.std.proofs.lemmas.Int.{of_z-to_z}
use Rattle.bson_model.specs.Faults.{Fault}
use Rattle.bson_values.specs.declared.fault.BsonFault.{BsonFault}
use Rattle.bson_values.specs.declared.fault.BsonFault.TheVariants.{Memory}
use Rattle.bson_values.specs.ReadFaults.{fault_from}
use Rattle.opmsg_model.specs.Requests as wire
use Rattle.opmsg_model.specs.Sections.{Section, documents_in}
use Rattle.opmsg_frames.specs.declared.request.Body.{Body}
use Rattle.opmsg_frames.specs.declared.request.Body.TheVariants.{Faulty}
use Rattle.opmsg_frames.specs.RequestMeanings.{IsBody}

pub told : {E : Type 0} (sections : List Section) (result : Result Body E) (e : BsonFault) → IfOk result (λ body. (e ≢ Memory) × (body ≡ Faulty e)) → (e ≢ Memory → (fault : Fault) × (offset : ℕ) × (e ≡ fault_from fault offset) × wire.FirstFaulty (documents_in sections) fault offset)
    → IfOk result (λ body. (meant : wire.Body) × IsBody body meant × wire.HasBody sections meant)
told sections (Ok body) e h first =
    let x = first h.0 in
    rw h.1 (wire.faulty_body x.0 x.1, (x.0, x.1, x.2, refl), x.3)
told sections (Err none) e h first = tt

-- a number that was read as a signed one
pub signed_back : (n : ℕ) (z : ℤ) → n < 2 ^ 32 → z ≡ cast_signed w32 n → cast_signed w32 n ≡ cast_signed w32 (cast_unsigned w32 z)
signed_back n z low e = sym (rw e (ap (λ (k : ℕ). cast_signed w32 k) (of_z-to_z w32 n low)))
