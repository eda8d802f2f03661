-- Whole requests are passed, up to a rest that begins with none.
use Rattle.std.proofs.Common.{◌≡◌, ℕ, ◌+◌, ◌-◌, ◌<◌, ◌≤◌, List, [], ◌∷◌, length, take, drop, None, Some, refl, sym, arith, length-drop}
use Rattle.std.proofs.lemmas.List.{take_rest}
use Rattle.opmsg_frames.specs.Outline.{outline, message_outline}
use Rattle.opmsg_frames.specs.Frames.{ends, fails, goes_on}
use Rattle.opmsg_frames.specs.declared.outline.Outline.{Outline}
use Rattle.opmsg_frames.specs.declared.outline.Outline.TheVariants.{Partial, Message, Faulty}
use Rattle.opmsg_frames.specs.Outlines.{fault_view, outline_view}
use Rattle.bson_values.proofs.Leaves.{AreBytes-drop}
use Rattle.bson_values.specs.Grammar.{AreBytes}
use Rattle.opmsg_frames.proofs.SomeReading.{some_request}
use Rattle.opmsg_frames.proofs.WholeMessages.{is_whole}
use Rattle.pipe_driver.specs.Rest.{Unframed}

-- what comes after the last whole request of the rest comes after that of all bytes
abbrev pub Leads : List ℕ → List ℕ → Type 0
Leads bytes rest = (count : ℕ) → Unframed rest count → Unframed bytes count

-- a request at the beginning of the rest
one_less : (n : ℕ) (rest : List ℕ) → AreBytes rest → outline rest ≡ message_outline n → (count : ℕ) → Unframed (drop n rest) count → Unframed rest count
one_less n rest are seen count behind place =
    let first = some_request n rest are seen in
    let others = behind (place + length first.0.bytes) in
    (first.0 ∷ others.0, others.1, others.2, goes_on place rest (drop n rest) first.0 others.0 others.1 others.2 first.2 others.3, others.4)

-- a request is passed
pub passed : (bytes rest : List ℕ) (n : ℕ) → Leads bytes rest → AreBytes rest → message_outline n ≡ outline rest
    → Leads bytes (take (length rest - n) (drop n rest)) × AreBytes (take (length rest - n) (drop n rest))
passed bytes rest n leads are seen =
    rw (take_rest rest n) ((λ count behind. leads count (one_less n rest are (sym seen) count behind)), AreBytes-drop n rest are)

-- what begins with no whole request is all that is left
pub none_left : (seen : Outline) (rest : List ℕ) → outline_view seen ≡ outline rest → ((n : ℕ) → seen ≡ Message n → ⊥) → Unframed rest (length rest)
none_left Partial rest e other place = ([], rest, None, ends place rest (sym e), refl)
none_left (Message n) rest e other place = absurd (other n refl)
none_left (Faulty fault) rest e other place = ([], rest, Some (fault_view fault, place), fails place rest (fault_view fault) (sym e), refl)

-- a whole message is within the bytes
pub message_fits : (n : ℕ) (rest : List ℕ) → message_outline n ≡ outline rest → n ≤ length rest
message_fits n rest seen = (is_whole n rest (sym seen)).fits

-- what comes after it is shorter than all
pub rest_shorter : (n : ℕ) (rest : List ℕ) → message_outline n ≡ outline rest → length (take (length rest - n) (drop n rest)) < length rest
rest_shorter n rest seen =
    let whole = is_whole n rest (sym seen) in
    rw (take_rest rest n) (omega (arith, length-drop n rest, whole.least, whole.fits))
