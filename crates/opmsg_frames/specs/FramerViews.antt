-- What contracts see of a framer.
use Rattle.std.specs.Prelude.{◌≡◌, ℕ, List, Option, ◌==◌, if◌then◌else◌, refl}
use Rattle.std.specs.Coded.{Coded, code_by, coded×, coded_list, coded_option, coded_ℕ}
use Rattle.opmsg_model.specs.Outline.{FrameFault, bad_length, too_long, bad_opcode, bad_flags, bad_kind, bad_section, two_bodies, no_body, bad_query}

-- the bytes that were fed but not returned, the offset of the first of them, the fault, if one was returned, and for how many bytes there is room
pub record FramerView : Type 0 where
  pub bytes : List ℕ
  pub offset : ℕ
  pub fault : Option FrameFault
  pub room : ℕ

abbrev pub fault_number : FrameFault → ℕ
fault_number bad_length = 0
fault_number too_long = 1
fault_number bad_opcode = 2
fault_number bad_flags = 3
fault_number bad_kind = 4
fault_number bad_section = 5
fault_number two_bodies = 6
fault_number no_body = 7
fault_number bad_query = 8

abbrev pub fault_numbered : ℕ → FrameFault
fault_numbered n =
    if n == 0 then bad_length
    else if n == 1 then too_long
    else if n == 2 then bad_opcode
    else if n == 3 then bad_flags
    else if n == 4 then bad_kind
    else if n == 5 then bad_section
    else if n == 6 then two_bodies
    else if n == 7 then no_body
    else bad_query

abbrev pub fault_back : (f : FrameFault) → fault_numbered (fault_number f) ≡ f
fault_back bad_length = refl
fault_back too_long = refl
fault_back bad_opcode = refl
fault_back bad_flags = refl
fault_back bad_kind = refl
fault_back bad_section = refl
fault_back two_bodies = refl
fault_back no_body = refl
fault_back bad_query = refl

abbrev pub fault_code : Coded FrameFault
fault_code = code_by ℕ coded_ℕ fault_number fault_numbered fault_back

abbrev pub framer_code : Coded FramerView
framer_code =
    code_by (List ℕ × (ℕ × (Option FrameFault × ℕ))) (coded× (coded_list coded_ℕ) (coded× coded_ℕ (coded× (coded_option fault_code) coded_ℕ)))
    (λ f. (f.bytes, (f.offset, (f.fault, f.room)))) (λ p. record { bytes = p.0; offset = p.1.0; fault = p.1.1.0; room = p.1.1.1 }) (λ _. refl)
