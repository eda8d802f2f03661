-- The program's requests as those of the definitions.
use Rattle.std.specs.Prelude.{◌≡◌, ◌≢◌, ℕ, Result, Ok, Err}
use Rattle.bson_model.specs.Faults.{Fault}
use Rattle.bson_values.specs.declared.fault.BsonFault.{BsonFault}
use Rattle.bson_values.specs.declared.fault.BsonFault.TheVariants.{Memory}
use Rattle.bson_values.specs.ReadFaults.{fault_from}
use Rattle.opmsg_model.specs.Requests as wire
use Rattle.opmsg_frames.specs.declared.request.Form.{Form}
use Rattle.opmsg_frames.specs.declared.request.Form.TheVariants.{Msg, Query}
use Rattle.opmsg_frames.specs.declared.request.Body.{Body}
use Rattle.opmsg_frames.specs.declared.request.Body.TheVariants.{Read, Faulty}
use Rattle.opmsg_frames.specs.declared.request.Content.{Content}
use Rattle.opmsg_frames.specs.declared.request.Request.{Request}

abbrev pub form_view : Form → wire.Form
form_view Msg = wire.msg_form
form_view Query = wire.query_form

abbrev pub IsBody : Body → wire.Body → Type 0
IsBody (Read doc sequences) body = body ≡ wire.read_body doc sequences
IsBody (Faulty e) body = (fault : Fault) × (offset : ℕ) × (e ≡ fault_from fault offset) × (body ≡ wire.faulty_body fault offset)

-- a request of the program and the request of the definitions that it shows
pub record IsMeant (request : Request) (meant : wire.Request) : Type 0 where
  pub id : meant.id ≡ request.id
  pub more : meant.more ≡ request.more
  pub form : meant.form ≡ form_view request.form
  pub body : IsBody request.body meant.body
  pub bytes : meant.bytes ≡ request.bytes

-- the same, without the bytes
pub record IsContent (content : Content) (meant : wire.Request) : Type 0 where
  pub id : meant.id ≡ content.id
  pub more : meant.more ≡ content.more
  pub form : meant.form ≡ form_view content.form
  pub body : IsBody content.body meant.body

-- what was read, or a fault; unless memory ran out
abbrev pub ReadOutcome : {X : Type 0} → (X → Type 0) → (Fault → ℕ → Type 0) → Result X BsonFault → Type 0
ReadOutcome reads fails (Ok x) = reads x
ReadOutcome reads fails (Err e) = e ≢ Memory → (fault : Fault) × (offset : ℕ) × (e ≡ fault_from fault offset) × fails fault offset
