-- The nodes take the requests as they are read.
use Rattle.std.specs.Prelude.{◌≡◌, ℕ}
use Rattle.std.proofs.Common.{refl, ap, sym, ◌∙◌}
use Rattle.bson_values.specs.Faults.{Fault, short_fault, length_fault, type_fault, string_fault, boolean_fault, depth_fault, trailing_fault}
use Rattle.bson_values.specs.ReadFaults.{fault_from}
use Rattle.opmsg_frames.specs.RequestMeanings.{IsBody}
use Rattle.opmsg_frames.specs.Requests as wire
use Rattle.opmsg_frames.specs.declared.request.Body.{Body}
use Rattle.opmsg_frames.specs.declared.request.Body.TheVariants.{Read, Faulty}
use Rattle.pipe_driver.specs.Progress.{AreAskedAsRead}
use Rattle.protocol_model.specs.Requests.{request_of, body_of, faulty_body_of}

faulty : (fault : Fault) (offset : ℕ) → faulty_body_of (fault_from fault offset) ≡ wire.faulty_body fault offset
faulty short_fault offset = refl
faulty length_fault offset = refl
faulty (type_fault byte) offset = refl
faulty string_fault offset = refl
faulty boolean_fault offset = refl
faulty depth_fault offset = refl
faulty trailing_fault offset = refl

same_body : (body : Body) (meant : wire.Body) → IsBody body meant → meant ≡ body_of body
same_body (Read document sequences) meant is = is
same_body (Faulty e) meant is = is.3 ∙ sym (faulty is.0 is.1) ∙ ap faulty_body_of (sym is.2)

pub asked_as_read : AreAskedAsRead request_of
asked_as_read request meant is =
    let body : meant.body ≡ body_of request.body = same_body request.body meant.body is.body in
    λ i. record { id = sym is.id i; more = sym is.more i; form = sym is.form i; body = sym body i; bytes = sym is.bytes i }
