-- The limits of a batch; which batches change nothing; and the later of two members.
use Rattle.std.proofs.Common.{◌≡◌, ◌≢◌, ◌⊎◌, inl, inr, ℕ, ◌+◌, ◌≤◌, ◌<◌, List, [], ◌∷◌, ◌++◌, length, refl, sym, ap, ◌∙◌, arith}
use Rattle.std.specs.Prelude.{Bool, true, false, ◌&&◌, ◌||◌, ◌==◌, Option, nat_lt, nat_le, if◌then◌else◌}
use Rattle.std.proofs.lemmas.Bool.{ne_eqb, leb-true, ltb-true}
use Rattle.bson_model.specs.Tree.{Datum, Fields}
use Rattle.bson_model.proofs.Booleans.{both}
use Rattle.value_model.specs.Order.{same_value}
use Rattle.history_model.specs.Documents.{Rows}
use Rattle.move_model.specs.Sources.{Source}
use Rattle.record_model.specs.Moves.{MovedDocument, Batch}
use Rattle.move_model.specs.Batches.{document_bytes, has_room, fitting, members_bytes, members_left, members_next, most_bytes, most_keys}
use Rattle.move_model.specs.Recipients.{Fit, next_fit, known_fit, strange_fit, fit_of, overlay}
use Rattle.move_model.specs.Copies.{Copy, copy_by_fit, copy_received}
use Rattle.move_model.proofs.Relation.{next_is}

-- a member after others finds room within the limits
room_is : (keys bytes more : ℕ) → 1 ≤ keys → has_room keys bytes more ≡ true → (keys < most_keys) × (bytes + more ≤ most_bytes)
room_is keys bytes more some e =
    let other : (keys == 0) ≡ false = ne_eqb keys 0 (λ none. omega (arith, none, some)) in
    let rest : (nat_lt keys most_keys && nat_le (bytes + more) most_bytes)
    ≡ true = sym (ap (λ (t : Bool). t || (nat_lt keys most_keys && nat_le (bytes + more) most_bytes)) other) ∙ e in
    let parts = both (nat_lt keys most_keys) (nat_le (bytes + more) most_bytes) rest in
    (ltb-true keys most_keys parts.0, leb-true (bytes + more) most_bytes parts.1)

-- the members after others
more_within : (keys bytes : ℕ) (ms : List MovedDocument) → 1 ≤ keys → keys ≤ most_keys →
    (keys + length (fitting keys bytes ms) ≤ most_keys) × ((bytes + members_bytes (fitting keys bytes ms) ≤ most_bytes) ⊎ (fitting keys bytes ms ≡ []))
more_within keys bytes [] some less = (omega (arith, less), inr refl)
more_within keys bytes (m ∷ ms) some less =
    by (has_room keys bytes (document_bytes m.document)) refl (λ h. more_within (keys + 1) (bytes + document_bytes m.document) ms (omega (arith, some)) h)
  where
    after : List MovedDocument
    after = fitting (keys + 1) (bytes + document_bytes m.document) ms

    by : (b : Bool) → has_room keys bytes (document_bytes m.document) ≡ b →
        (keys + 1 ≤ most_keys → ((keys + 1) + length (fitting (keys + 1) (bytes + document_bytes m.document) ms) ≤ most_keys)
        × (((bytes + document_bytes m.document) + members_bytes (fitting (keys + 1) (bytes + document_bytes m.document) ms) ≤ most_bytes) ⊎ (fitting (keys + 1) (bytes + document_bytes m.document) ms ≡ []))) →
        (keys + length (if b then m ∷ fitting (keys + 1) (bytes + document_bytes m.document) ms else []) ≤ most_keys)
        × ((bytes + members_bytes (if b then m ∷ fitting (keys + 1) (bytes + document_bytes m.document) ms else []) ≤ most_bytes)
        ⊎ ((if b then m ∷ fitting (keys + 1) (bytes + document_bytes m.document) ms else []) ≡ []))
    by false e rest = (omega (arith, less), inr refl)
    by true e rest =
        let room = room_is keys bytes (document_bytes m.document) some e in
        let below : keys + 1 ≤ most_keys = omega (arith, room.0) in
        let h = rest below in
        (omega (arith, h.0), inl (bytes_by h.1 room.1))
      where
        bytes_by : ((bytes + document_bytes m.document) + members_bytes (fitting (keys + 1) (bytes + document_bytes m.document) ms) ≤ most_bytes) ⊎ (fitting (keys + 1) (bytes + document_bytes m.document) ms ≡ []) →
            bytes + document_bytes m.document ≤ most_bytes →
            bytes + (document_bytes m.document + members_bytes (fitting (keys + 1) (bytes + document_bytes m.document) ms)) ≤ most_bytes
        bytes_by (inl h) own = omega (arith, h)
        bytes_by (inr none) own = let z : members_bytes (fitting (keys + 1) (bytes + document_bytes m.document) ms)
            ≡ 0 = ap members_bytes none in omega (arith, own, z)

first_within : (ms : List MovedDocument) →
    (length (fitting 0 0 ms) ≤ most_keys) × ((members_bytes (fitting 0 0 ms) ≤ most_bytes) ⊎ (length (fitting 0 0 ms) ≤ 1))
first_within [] = (omega arith, inr (omega arith))
first_within (m ∷ ms) = by (more_within 1 (0 + document_bytes m.document) ms (omega arith) (omega arith))
  where
    by : (1 + length (fitting 1 (0 + document_bytes m.document) ms) ≤ most_keys)
        × (((0 + document_bytes m.document) + members_bytes (fitting 1 (0 + document_bytes m.document) ms) ≤ most_bytes) ⊎ (fitting 1 (0 + document_bytes m.document) ms ≡ [])) →
        (length (m ∷ fitting 1 (0 + document_bytes m.document) ms) ≤ most_keys)
        × ((members_bytes (m ∷ fitting 1 (0 + document_bytes m.document) ms) ≤ most_bytes) ⊎ (length (m ∷ fitting 1 (0 + document_bytes m.document) ms) ≤ 1))
    by (n, inl h) = (omega (arith, n), inl (omega (arith, h)))
    by (n, inr none) = (omega (arith, n), inr (let z : length (fitting 1 (0 + document_bytes m.document) ms) ≡ 0 = ap length none in omega (arith, z)))

pub within_limits : (s : Source) (rows : Rows) →
    (length (members_next s rows) ≤ most_keys) × ((members_bytes (members_next s rows) ≤ most_bytes) ⊎ (length (members_next s rows) ≤ 1))
within_limits s rows = first_within (members_left s rows)

pub at_least_one : (s : Source) (rows : Rows) → 1 ≤ length (members_left s rows) → 1 ≤ length (members_next s rows)
at_least_one s rows some = by (members_left s rows) some
  where
    by : (ms : List MovedDocument) → 1 ≤ length ms → 1 ≤ length (fitting 0 0 ms)
    by [] some = some
    by (m ∷ ms) some = omega arith

pub not_next : (c : Copy) (b : Batch) → b.number ≢ c.applied + 1 → copy_received b c ≡ c
not_next c b other = by (fit_of c.applied b.number) (λ e. other (next_is c.applied b.number e))
  where
    by : (f : Fit) → (f ≡ next_fit → ⊥) → copy_by_fit f b c ≡ c
    by next_fit never = absurd (never refl)
    by known_fit never = refl
    by strange_fit never = refl

pub later_counts : (ms : List MovedDocument) (m : MovedDocument) (key : Datum) (before : Option Fields) →
    overlay (ms ++ m ∷ []) key before ≡ (if same_value m.key key then m.document else overlay ms key before)
later_counts [] m key before = refl
later_counts (n ∷ ms) m key before = later_counts ms m key (if same_value n.key key then n.document else before)
