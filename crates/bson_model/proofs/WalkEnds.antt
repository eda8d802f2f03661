-- A walk that reaches a document's end has walked over some bytes.
use Rattle.std.proofs.Common.{◌≡◌, ℕ, ◌+◌, ◌-◌, ◌<◌, ◌≤◌, Bool, true, false, Option, Some, None, List, [], ◌∷◌, length, take, drop, refl, arith}
use Rattle.std.specs.Prelude.{nat_lt, nat_le, ◌==◌, ◌||◌, slice_index, if◌then◌else◌}
use Rattle.std.specs.Int.{w32, from_le_bytes}
use Rattle.std.specs.Str.{is_utf8}
use Rattle.std.specs.List.{AllByRecursion}
use Rattle.std.proofs.lemmas.Bool.Decides.{nat_tests}
use Rattle.bson_model.specs.Limits.{length_limit, most_depth_kept}
use Rattle.bson_model.specs.Faults.{length_fault, string_fault, boolean_fault, depth_fault, trailing_fault, Holder, last, Step, goes_on, ends_at, faulty, Form, fixed_form, string_form, holder_form, binary_form, boolean_form, form_of, before_zero, closed, short, fixed_step, boolean_step, stated_step, length_step, string_step, binary_step, holder_step, value_step, named_step, typed_step, element_step, first_step, Walks, walks_to_end, walks_to_fault, walks_on}

-- every open document ends after the first byte, and so does the whole
abbrev EndsLater : Step → Type 0
EndsLater (goes_on offset holders) = AllByRecursion (λ h. 0 < h.end) holders
EndsLater (ends_at offset) = 0 < offset
EndsLater (faulty fault offset) = Unit {0}

either : (test : Bool) (a b : Step) → EndsLater a → EndsLater b → EndsLater (if test then a else b)
either true a b p q = p
either false a b p q = q

past : (n least : ℕ) (test : Bool) (a b : Step) → nat_lt n least ≡ test → EndsLater a → (least ≤ n → EndsLater b) → EndsLater (if test then a else b)
past n least true a b e p q = p
past n least false a b e p q = q (grind (arith, nat_tests))

closed_later : (offset : ℕ) (outer : List Holder) → 0 < offset → AllByRecursion (λ h. 0 < h.end) outer → EndsLater (closed offset outer)
closed_later offset [] some all = some
closed_later offset (h ∷ outer) some all = all

stated_later : (bytes : List ℕ) (least beside end offset n : ℕ) (further : ℕ → Step) → (least ≤ n → EndsLater (further n))
    → EndsLater (stated_step bytes least beside end offset n further)
stated_later bytes least beside end offset n further later =
    past n least (nat_lt n least) (faulty length_fault offset)
    (if nat_le length_limit n then faulty length_fault offset else if nat_lt end (offset + (n + beside)) then faulty length_fault offset else further n)
    refl tt
    (λ le. either (nat_le length_limit n) (faulty length_fault offset)
    (if nat_lt end (offset + (n + beside)) then faulty length_fault offset else further n) tt
    (either (nat_lt end (offset + (n + beside))) (faulty length_fault offset) (further n) tt (later le)))

length_later : (bytes : List ℕ) (least beside end offset : ℕ) (cut : Step) (further : ℕ → Step) → EndsLater cut
    → ((n : ℕ) → least ≤ n → EndsLater (further n)) → EndsLater (length_step bytes least beside end offset cut further)
length_later bytes least beside end offset cut further c later =
    let n = from_le_bytes w32 (take 4 (drop offset bytes)) in
    let stated = stated_step bytes least beside end offset n further in
    either (nat_le (length bytes) offset) (short bytes)
    (if nat_lt end (offset + 5) then faulty length_fault offset else if nat_lt (length bytes) (offset + 4) then cut else stated) tt
    (either (nat_lt end (offset + 5)) (faulty length_fault offset) (if nat_lt (length bytes) (offset + 4) then cut else stated) tt
    (either (nat_lt (length bytes) (offset + 4)) cut stated c (stated_later bytes least beside end offset n further (later n))))

module _ (bytes : List ℕ) (h : Holder) (outer : List Holder) (some : 0 < h.end) (all : AllByRecursion (λ h. 0 < h.end) outer) where
  text_later : (n offset : ℕ) → EndsLater (string_step bytes n offset h outer)
  text_later n offset =
      let found = if is_utf8 (take (n - 1) (drop offset bytes)) then goes_on (offset + n) (h ∷ outer) else faulty string_fault offset in
      either (nat_lt (length bytes) (offset + n)) (short bytes) (if slice_index bytes (offset + n - 1) == 0 then found else faulty string_fault offset) tt
      (either (slice_index bytes (offset + n - 1) == 0) found (faulty string_fault offset)
      (either (is_utf8 (take (n - 1) (drop offset bytes))) (goes_on (offset + n) (h ∷ outer)) (faulty string_fault offset) (some, all) tt) tt)

  binary_later : (n offset : ℕ) → EndsLater (binary_step bytes n offset h outer)
  binary_later n offset = either (nat_lt (length bytes) (offset + (n + 1))) (short bytes) (goes_on (offset + (n + 1)) (h ∷ outer)) tt (some, all)

  fixed_later : (n offset : ℕ) → EndsLater (fixed_step bytes n offset h outer)
  fixed_later n offset =
      let cut = if nat_lt (length bytes) h.end then short bytes else faulty trailing_fault (last h) in
      let fits = if nat_lt (length bytes) (offset + n) then short bytes else goes_on (offset + n) (h ∷ outer) in
      either (nat_lt h.end (offset + n)) cut fits (either (nat_lt (length bytes) h.end) (short bytes) (faulty trailing_fault (last h)) tt tt)
      (either (nat_lt (length bytes) (offset + n)) (short bytes) (goes_on (offset + n) (h ∷ outer)) tt (some, all))

  boolean_later : (offset : ℕ) → EndsLater (boolean_step bytes offset h outer)
  boolean_later offset =
      either (nat_le (length bytes) offset) (short bytes)
      (if nat_lt (slice_index bytes offset) 2 then goes_on (offset + 1) (h ∷ outer) else faulty boolean_fault offset) tt
      (either (nat_lt (slice_index bytes offset) 2) (goes_on (offset + 1) (h ∷ outer)) (faulty boolean_fault offset) (some, all) tt)

  holder_later : (is_array : Bool) (offset : ℕ) → EndsLater (holder_step bytes is_array offset h outer)
  holder_later is_array offset =
      let inner : ℕ → Step = λ n. goes_on (offset + 4) (record { is_array = is_array; end = offset + n } ∷ h ∷ outer) in
      let deep : ℕ → Step = λ n. faulty depth_fault offset in
      either (nat_lt (length (h ∷ outer)) most_depth_kept) (length_step bytes 5 0 h.end offset (short bytes) inner)
      (length_step bytes 5 0 h.end offset (faulty depth_fault offset) deep)
      (length_later bytes 5 0 h.end offset (short bytes) inner tt (λ n le. (omega (arith, le), (some, all))))
      (length_later bytes 5 0 h.end offset (faulty depth_fault offset) deep tt (λ n le. tt))

  value_later : (form : Form) (offset : ℕ) → EndsLater (value_step bytes form offset h outer)
  value_later (fixed_form n) offset = fixed_later n offset
  value_later string_form offset =
      length_later bytes 1 4 h.end offset (short bytes) (λ n. string_step bytes n (offset + 4) h outer) tt (λ n le. text_later n (offset + 4))
  value_later (holder_form is_array) offset = holder_later is_array offset
  value_later binary_form offset =
      length_later bytes 0 5 h.end offset (short bytes) (λ n. binary_step bytes n (offset + 4) h outer) tt (λ n le. binary_later n (offset + 4))
  value_later boolean_form offset = boolean_later offset

  named_later : (form : Form) (offset : ℕ) (name : Option (List ℕ)) → EndsLater (named_step bytes form offset h outer name)
  named_later form offset None = either (nat_lt (length bytes) h.end) (short bytes) (faulty string_fault offset) tt tt
  named_later form offset (Some name) =
      let value = value_step bytes form (offset + (length name + 1)) h outer in
      let found = if offset + length name == last h then faulty trailing_fault (last h) else value in
      either (h.is_array || is_utf8 name) found (faulty string_fault offset)
      (either (offset + length name == last h) (faulty trailing_fault (last h)) value tt (value_later form (offset + (length name + 1)))) tt

  typed_later : (offset : ℕ) (form : Option Form) → EndsLater (typed_step bytes offset h outer form)
  typed_later offset None = tt
  typed_later offset (Some form) =
      let name = before_zero (take (h.end - (offset + 1)) (drop (offset + 1) bytes)) in
      either (offset == last h) (faulty trailing_fault (last h)) (named_step bytes form (offset + 1) h outer name) tt (named_later form (offset + 1) name)

  element_later : (offset : ℕ) → EndsLater (element_step bytes offset h outer)
  element_later offset =
      let close = if offset == last h then closed h.end outer else faulty trailing_fault offset in
      let typed = typed_step bytes offset h outer (form_of (slice_index bytes offset)) in
      either (nat_le h.end offset) (faulty trailing_fault (last h))
      (if nat_le (length bytes) offset then short bytes else if slice_index bytes offset == 0 then close else typed) tt
      (either (nat_le (length bytes) offset) (short bytes) (if slice_index bytes offset == 0 then close else typed) tt
      (either (slice_index bytes offset == 0) close typed
      (either (offset == last h) (closed h.end outer) (faulty trailing_fault offset) (closed_later h.end outer some all) tt)
      (typed_later offset (form_of (slice_index bytes offset)))))

walk_later : (bytes : List ℕ) (step outcome : Step) → Walks bytes step outcome → EndsLater step → EndsLater outcome
walk_later bytes _ _ (walks_to_end offset) later = later
walk_later bytes _ _ (walks_to_fault fault offset) later = later
walk_later bytes _ outcome (walks_on offset h outer _ walk) later = walk_later bytes (element_step bytes offset h outer) outcome walk
    (element_later bytes h outer later.0 later.1 offset)

first_later : (bytes : List ℕ) → EndsLater (first_step bytes)
first_later bytes =
    length_later bytes 5 0 length_limit 0 (short bytes) (λ n. goes_on 4 (record { is_array = false; end = n } ∷ [])) tt (λ n le. (omega (arith, le), tt))

pub ends_later : (bytes : List ℕ) (offset : ℕ) → Walks bytes (first_step bytes) (ends_at offset) → 0 < offset
ends_later bytes offset walk = walk_later bytes (first_step bytes) (ends_at offset) walk (first_later bytes)
