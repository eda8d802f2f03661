-- The program's requests, by the definitions, as a function.
use Rattle.bson_model.specs.Faults.{short_fault, length_fault, type_fault, string_fault, boolean_fault, depth_fault, trailing_fault}
use Rattle.opmsg_model.specs.Requests as wire
use Rattle.bson_values.specs.declared.fault.BsonFault.{BsonFault}
use Rattle.bson_values.specs.declared.fault.BsonFault.TheVariants.{Short, BadLength, BadType, BadText, BadBool, Deep, Trailing, Memory}
use Rattle.opmsg_frames.specs.declared.request.Body.{Body}
use Rattle.opmsg_frames.specs.declared.request.Body.TheVariants.{Read, Faulty}
use Rattle.opmsg_frames.specs.declared.request.Request.{Request}
use Rattle.opmsg_frames.specs.RequestMeanings.{form_view}

-- A framer returns out of memory itself, so no request has it as its fault; the value for it has no meaning.
abbrev pub faulty_body_of : BsonFault → wire.Body
faulty_body_of (Short offset) = wire.faulty_body short_fault offset
faulty_body_of (BadLength offset) = wire.faulty_body length_fault offset
faulty_body_of (BadType offset byte) = wire.faulty_body (type_fault byte) offset
faulty_body_of (BadText offset) = wire.faulty_body string_fault offset
faulty_body_of (BadBool offset) = wire.faulty_body boolean_fault offset
faulty_body_of (Deep offset) = wire.faulty_body depth_fault offset
faulty_body_of (Trailing offset) = wire.faulty_body trailing_fault offset
faulty_body_of Memory = wire.faulty_body short_fault 0

abbrev pub body_of : Body → wire.Body
body_of (Read document sequences) = wire.read_body document sequences
body_of (Faulty fault) = faulty_body_of fault

abbrev pub request_of : Request → wire.Request
request_of r = record { id = r.id; more = r.more; form = form_view r.form; body = body_of r.body; bytes = r.bytes }
