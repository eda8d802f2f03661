-- A walk over bytes stays within them: the offset of a first fault is at most their number.
use Rattle.std.proofs.Common.{◌≡◌, ℕ, ◌+◌, ◌-◌, ◌≤◌, ◌^◌, Bool, true, false, Option, Some, None, List, [], ◌∷◌, length, take, drop, refl, ap, arith, length-append, length-drop}
use Rattle.std.specs.Prelude.{nat_lt, nat_le, ◌==◌, ◌||◌, slice_index, if◌then◌else◌}
use Rattle.std.specs.Int.{w32, from_le_bytes}
use Rattle.std.specs.Str.{is_utf8}
use Rattle.std.proofs.lemmas.List.{length-take}
use Rattle.std.proofs.lemmas.Bool.Decides.{nat_tests}
use Rattle.bson_model.specs.Faults.{Fault, length_fault, string_fault, boolean_fault, depth_fault, trailing_fault, Holder, last, Step, goes_on, ends_at, faulty, Form, fixed_form, string_form, holder_form, binary_form, boolean_form, form_of, before_zero, closed, short, fixed_step, boolean_step, stated_step, length_step, string_step, binary_step, holder_step, value_step, named_step, typed_step, element_step, first_step, Walks, walks_to_end, walks_to_fault, walks_on, HasFirstFault}
use Rattle.opmsg_frames.proofs.Spellings.{zero_splits}

-- the offset of a step that is not an end
abbrev Within : ℕ → Step → Type 0
Within n (goes_on offset holders) = offset ≤ n
Within n (ends_at offset) = Unit {0}
Within n (faulty fault offset) = offset ≤ n

either : (n : ℕ) (test : Bool) (a b : Step) → (test ≡ true → Within n a) → (test ≡ false → Within n b) → Within n (if test then a else b)
either n true a b p q = p refl
either n false a b p q = q refl

-- a name that was found, and its 00
abbrev Fits : ℕ → ℕ → Option (List ℕ) → Type 0
Fits n offset None = Unit {0}
Fits n offset (Some name) = offset + length name + 1 ≤ n

found_fits : (bytes : List ℕ) (room offset : ℕ) (found : Option (List ℕ)) → offset ≤ length bytes → before_zero (take room (drop offset bytes)) ≡ found → Fits (length bytes) offset found
found_fits bytes room offset None le e = tt
found_fits bytes room offset (Some name) le e =
    let s = zero_splits (take room (drop offset bytes)) name e in
    omega (arith, le, ap (λ (l : List ℕ). length l) s.1, length-append name (0 ∷ s.0), length-take room (drop offset bytes), length-drop offset bytes)

module _ (bytes : List ℕ) where
  stated_within : (least beside end offset n : ℕ) (further : ℕ → Step) → offset ≤ length bytes → Within (length bytes) (further n) → Within (length bytes) (stated_step bytes least beside end offset n further)
  stated_within least beside end offset n further le within =
      let fault = faulty length_fault offset in
      let third = if nat_lt end (offset + (n + beside)) then fault else further n in
      let second = if nat_le (2 ^ 31) n then fault else third in
      either (length bytes) (nat_lt n least) fault second (λ e. le)
      (λ e. either (length bytes) (nat_le (2 ^ 31) n) fault third (λ f. le)
      (λ f. either (length bytes) (nat_lt end (offset + (n + beside))) fault (further n) (λ g. le) (λ g. within)))

  length_within : (least beside end offset : ℕ) (cut : Step) (further : ℕ → Step) → offset ≤ length bytes → Within (length bytes) cut → ((n : ℕ) → offset + 4 ≤ length bytes → Within (length bytes) (further n)) → Within (length bytes) (length_step bytes least beside end offset cut further)
  length_within least beside end offset cut further le c within =
      let n = from_le_bytes w32 (take 4 (drop offset bytes)) in
      let stated = stated_step bytes least beside end offset n further in
      let third = if nat_lt (length bytes) (offset + 4) then cut else stated in
      let second = if nat_lt end (offset + 5) then faulty length_fault offset else third in
      either (length bytes) (nat_le (length bytes) offset) (short bytes) second (λ e. omega arith)
      (λ e. either (length bytes) (nat_lt end (offset + 5)) (faulty length_fault offset) third (λ f. le)
      (λ f. either (length bytes) (nat_lt (length bytes) (offset + 4)) cut stated (λ g. c)
      (λ g. stated_within least beside end offset n further le (within n (grind (arith, nat_tests, g))))))

  module _ (h : Holder) (outer : List Holder) where
    text_within : (n offset : ℕ) → offset ≤ length bytes → Within (length bytes) (string_step bytes n offset h outer)
    text_within n offset le =
        let found = if is_utf8 (take (n - 1) (drop offset bytes)) then goes_on (offset + n) (h ∷ outer) else faulty string_fault offset in
        let ended = if slice_index bytes (offset + n - 1) == 0 then found else faulty string_fault offset in
        either (length bytes) (nat_lt (length bytes) (offset + n)) (short bytes) ended (λ e. omega arith)
        (λ e. either (length bytes) (slice_index bytes (offset + n - 1) == 0) found (faulty string_fault offset)
        (λ f. either (length bytes) (is_utf8 (take (n - 1) (drop offset bytes))) (goes_on (offset + n) (h ∷ outer)) (faulty string_fault offset) (λ g. grind (arith, nat_tests, e)) (λ g. le))
        (λ f. le))

    binary_within : (n offset : ℕ) → Within (length bytes) (binary_step bytes n offset h outer)
    binary_within n offset =
        either (length bytes) (nat_lt (length bytes) (offset + (n + 1))) (short bytes) (goes_on (offset + (n + 1)) (h ∷ outer)) (λ e. omega arith) (λ e. grind (arith, nat_tests, e))

    fixed_within : (n offset : ℕ) → Within (length bytes) (fixed_step bytes n offset h outer)
    fixed_within n offset =
        let cut = if nat_lt (length bytes) h.end then short bytes else faulty trailing_fault (last h) in
        let fits = if nat_lt (length bytes) (offset + n) then short bytes else goes_on (offset + n) (h ∷ outer) in
        either (length bytes) (nat_lt h.end (offset + n)) cut fits
        (λ e. either (length bytes) (nat_lt (length bytes) h.end) (short bytes) (faulty trailing_fault (last h)) (λ f. omega arith) (λ f. grind (arith, nat_tests, f)))
        (λ e. either (length bytes) (nat_lt (length bytes) (offset + n)) (short bytes) (goes_on (offset + n) (h ∷ outer)) (λ f. omega arith) (λ f. grind (arith, nat_tests, f)))

    boolean_within : (offset : ℕ) → offset ≤ length bytes → Within (length bytes) (boolean_step bytes offset h outer)
    boolean_within offset le =
        let read = if nat_lt (slice_index bytes offset) 2 then goes_on (offset + 1) (h ∷ outer) else faulty boolean_fault offset in
        either (length bytes) (nat_le (length bytes) offset) (short bytes) read (λ e. omega arith)
        (λ e. either (length bytes) (nat_lt (slice_index bytes offset) 2) (goes_on (offset + 1) (h ∷ outer)) (faulty boolean_fault offset) (λ f. grind (arith, nat_tests, e)) (λ f. le))

    holder_within : (is_array : Bool) (offset : ℕ) → offset ≤ length bytes → Within (length bytes) (holder_step bytes is_array offset h outer)
    holder_within is_array offset le =
        let inner : ℕ → Step = λ n. goes_on (offset + 4) (record { is_array = is_array; end = offset + n } ∷ h ∷ outer) in
        let deep : ℕ → Step = λ n. faulty depth_fault offset in
        either (length bytes) (nat_lt (length (h ∷ outer)) 100) (length_step bytes 5 0 h.end offset (short bytes) inner) (length_step bytes 5 0 h.end offset (faulty depth_fault offset) deep)
        (λ e. length_within 5 0 h.end offset (short bytes) inner le (omega arith) (λ n room. room))
        (λ e. length_within 5 0 h.end offset (faulty depth_fault offset) deep le le (λ n room. le))

    value_within : (form : Form) (offset : ℕ) → offset ≤ length bytes → Within (length bytes) (value_step bytes form offset h outer)
    value_within (fixed_form n) offset le = fixed_within n offset
    value_within string_form offset le = length_within 1 4 h.end offset (short bytes) (λ n. string_step bytes n (offset + 4) h outer) le (omega arith) (λ n room. text_within n (offset + 4) room)
    value_within (holder_form is_array) offset le = holder_within is_array offset le
    value_within binary_form offset le = length_within 0 5 h.end offset (short bytes) (λ n. binary_step bytes n (offset + 4) h outer) le (omega arith) (λ n room. binary_within n (offset + 4))
    value_within boolean_form offset le = boolean_within offset le

    named_within : (form : Form) (offset : ℕ) (name : Option (List ℕ)) → offset ≤ length bytes → Fits (length bytes) offset name → Within (length bytes) (named_step bytes form offset h outer name)
    named_within form offset None le fits =
        either (length bytes) (nat_lt (length bytes) h.end) (short bytes) (faulty string_fault offset) (λ e. omega arith) (λ e. le)
    named_within form offset (Some name) le fits =
        let value = value_step bytes form (offset + (length name + 1)) h outer in
        let found = if offset + length name == last h then faulty trailing_fault (last h) else value in
        either (length bytes) (h.is_array || is_utf8 name) found (faulty string_fault offset)
        (λ e. either (length bytes) (offset + length name == last h) (faulty trailing_fault (last h)) value (λ f. grind (arith, nat_tests, f, fits)) (λ f. value_within form (offset + (length name + 1)) (omega (arith, fits))))
        (λ e. le)

    typed_within : (offset : ℕ) (form : Option Form) → offset + 1 ≤ length bytes → Within (length bytes) (typed_step bytes offset h outer form)
    typed_within offset None le = omega (arith, le)
    typed_within offset (Some form) le =
        let name = before_zero (take (h.end - (offset + 1)) (drop (offset + 1) bytes)) in
        either (length bytes) (offset == last h) (faulty trailing_fault (last h)) (named_step bytes form (offset + 1) h outer name)
        (λ e. grind (arith, nat_tests, e, le))
        (λ e. named_within form (offset + 1) name le (found_fits bytes (h.end - (offset + 1)) (offset + 1) name le refl))

    closed_within : (offset : ℕ) (holders : List Holder) → offset ≤ length bytes → Within (length bytes) (closed offset holders)
    closed_within offset [] le = tt
    closed_within offset (g ∷ holders) le = le

    element_within : (offset : ℕ) → offset ≤ length bytes → Within (length bytes) (element_step bytes offset h outer)
    element_within offset le =
        let close = if offset == last h then closed h.end outer else faulty trailing_fault offset in
        let typed = typed_step bytes offset h outer (form_of (slice_index bytes offset)) in
        let third = if slice_index bytes offset == 0 then close else typed in
        let second = if nat_le (length bytes) offset then short bytes else third in
        either (length bytes) (nat_le h.end offset) (faulty trailing_fault (last h)) second (λ e. grind (arith, nat_tests, e, le))
        (λ e. either (length bytes) (nat_le (length bytes) offset) (short bytes) third (λ f. omega arith)
        (λ f. let some : offset + 1 ≤ length bytes = grind (arith, nat_tests, f) in
        either (length bytes) (slice_index bytes offset == 0) close typed
        (λ g. either (length bytes) (offset == last h) (closed h.end outer) (faulty trailing_fault offset) (λ k. closed_within h.end outer (grind (arith, nat_tests, e, some, k))) (λ k. le))
        (λ g. typed_within offset (form_of (slice_index bytes offset)) some)))

  walk_within : (step outcome : Step) → Walks bytes step outcome → Within (length bytes) step → Within (length bytes) outcome
  walk_within _ _ (walks_to_end offset) within = within
  walk_within _ _ (walks_to_fault fault offset) within = within
  walk_within _ outcome (walks_on offset h outer _ walk) within = walk_within (element_step bytes offset h outer) outcome walk (element_within h outer offset within)

  first_within : Within (length bytes) (first_step bytes)
  first_within = length_within 5 0 (2 ^ 31) 0 (short bytes) (λ n. goes_on 4 (record { is_array = false; end = n } ∷ [])) (omega arith) (omega arith) (λ n room. room)

pub fault_within : (bytes : List ℕ) (fault : Fault) (offset : ℕ) → HasFirstFault bytes fault offset → offset ≤ length bytes
fault_within bytes fault offset first = walk_within bytes (first_step bytes) (faulty fault offset) first (first_within bytes)
