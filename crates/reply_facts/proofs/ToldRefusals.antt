-- Replies to requests that are refused.
use Rattle.std.proofs.Common.{◌≡◌, ℕ, ap, ◌∙◌}
use Rattle.std.specs.Prelude.{Result, Ok, Err}
use Rattle.opmsg_model.specs.Requests.{Form, Body, read_body, faulty_body, Request}
use Rattle.base_model.specs.Errors.{ErrorCode}
use Rattle.base_model.specs.Refusals.{Refusal, no_document_at, time_ahead, without_evidence}
use Rattle.base_model.specs.ReplyParts.{refusal_reply}
use Rattle.command_model.specs.Command.{Command, command_asked, command_in, command_of, or_refusal}

-- no request is refused with a time that is ahead
refused_by : (r : Result Command ErrorCode) (refusal : Refusal) (s : ℕ) → or_refusal r ≡ Err refusal → refusal_reply refusal ≡ refusal_reply (time_ahead s) → ⊥
refused_by (Ok command) refusal s e same = cc
refused_by (Err error) refusal s e same =
    let refusals : without_evidence error ≡ refusal = cc in
    let replies : refusal_reply (without_evidence error) ≡ refusal_reply (time_ahead s) = ap refusal_reply refusals ∙ same in
    cc

body_refused : (sent : Form) (body : Body) (refusal : Refusal) (s : ℕ) → command_in sent body ≡ Err refusal → refusal_reply refusal ≡ refusal_reply (time_ahead s) → ⊥
body_refused sent (read_body document sequences) refusal s e same = refused_by (command_asked sent document sequences) refusal s e same
body_refused sent (faulty_body fault place) refusal s e same =
    let refusals : no_document_at place ≡ refusal = cc in
    let replies : refusal_reply (no_document_at place) ≡ refusal_reply (time_ahead s) = ap refusal_reply refusals ∙ same in
    cc

pub never_ahead : (r : Request) (refusal : Refusal) (s : ℕ) → command_of r ≡ Err refusal → refusal_reply refusal ≡ refusal_reply (time_ahead s) → ⊥
never_ahead r refusal s e same = body_refused r.form r.body refusal s e same
