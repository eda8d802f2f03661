-- Messages and their views.
use Rattle.std.proofs.Common.{◌≡◌, List, [], ◌∷◌, refl, ap}
use Rattle.std.specs.Prelude.{map, filter, Bool, true, false, if◌then◌else◌}
use Rattle.node_model.specs.Letters.{Letter}
use Rattle.protocol_model.specs.Messages.{letter_of}
use Rattle.protocol_model.specs.declared.message.Message.{Message}

-- messages that pass a test of their views
pub filter_view : (test : Letter → Bool) (ms : List Message) → map letter_of (filter (λ (m : Message). test (letter_of m)) ms) ≡ filter test (map letter_of ms)
filter_view test [] = refl
filter_view test (m ∷ ms) = by_test (test (letter_of m)) (filter_view test ms)
  where
    by_test : (b : Bool) → map letter_of (filter (λ (x : Message). test (letter_of x)) ms) ≡ filter test (map letter_of ms)
        → map letter_of (if b then m ∷ filter (λ (x : Message). test (letter_of x)) ms else filter (λ (x : Message). test (letter_of x)) ms)
        ≡ (if b then letter_of m ∷ filter test (map letter_of ms) else filter test (map letter_of ms))
    by_test true e = ap (λ (ls : List Letter). letter_of m ∷ ls) e
    by_test false e = e
