use Rattle.std.proofs.Common.{◌≡◌, ℕ, List}
use Rattle.opmsg_model.specs.Outline.{message_outline, outline}
use Rattle.bson_model.specs.Grammar.{AreBytes}
use Rattle.opmsg_frames.proofs.SomeReading as some
use Rattle.opmsg_frames.proofs.laws.some_reading.Goals as goal

pub returns-clause-request : goal.returns-clause-request
returns-clause-request c = λ (bytes : List ℕ) (n : ℕ) (are : AreBytes bytes) (e : outline bytes ≡ message_outline n). some.some_request n bytes are e

pub returns-clause-reading : goal.returns-clause-reading
returns-clause-reading c = some.some_reading
