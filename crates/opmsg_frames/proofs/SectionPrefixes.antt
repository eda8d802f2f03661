-- The section that comes first in the encoding of sections.
use Rattle.std.proofs.Common.{◌≡◌, ℕ, ◌+◌, ◌<◌, ◌≤◌, ◌^◌, false, eqb, Option, Some, None, List, [], ◌∷◌, ◌++◌, length, drop, refl, sym, ap, ◌∙◌, arith, length-append, append_assoc}
use Rattle.std.specs.List.{AllByRecursion, concat, flat_map}
use Rattle.std.specs.Str.{IsUtf8}
use Rattle.std.proofs.lemmas.Bool.Decides.{nat_tests}
use Rattle.std.proofs.lemmas.List.{take_at, drop_at}
use Rattle.std.proofs.lemmas.Nat.{from_le_bytes-to_le_bytes_4}
use Rattle.std.proofs.lemmas.Str.{is_utf8-from_IsUtf8}
use Rattle.bson_model.specs.Faults.{before_zero}
use Rattle.bson_model.specs.Grammar.{HasNoZero}
use Rattle.opmsg_model.specs.Messages.{int32}
use Rattle.opmsg_model.specs.Sections.{Section, body_section, sequence_section, sequence_bytes, section_bytes, IsStated, IsSection}
use Rattle.opmsg_model.specs.Outline.{Next, no_section, next_body, next_sequence, next_section}
use Rattle.opmsg_frames.specs.Outlines.{sequence_parts}
use Rattle.opmsg_frames.proofs.DocumentReads.{first_number, is_stated}

-- the size of a section of kind 1, with what it counts, is as many bytes as it states
abbrev sized : List ℕ → List ℕ
sized content = int32 (length content + 4) ++ content

sized_stated : (content : List ℕ) → 1 ≤ length content → length content + 4 < 2 ^ 32 → IsStated (sized content)
sized_stated content some low = (omega (arith, some), from_le_bytes-to_le_bytes_4 (length content + 4) low ∙ (let l : length content + 4 ≡ length (sized content) = omega arith in l))

-- what comes next, by the sections that are left
abbrev pub next_of : List Section → Next
next_of [] = no_section
next_of (body_section document ∷ sections) = next_body document (flat_map section_bytes sections)
next_of (sequence_section identifier documents ∷ sections) = next_sequence (sequence_bytes identifier documents) (flat_map section_bytes sections)

body_next : (document more : List ℕ) → IsStated document → next_section (0 ∷ (document ++ more)) ≡ next_body document more
body_next document more stated =
    rw (is_stated document more stated, first_number document more stated, take_at document more (length document) refl, drop_at document more (length document) refl) refl

stated_next : (section more : List ℕ) → IsStated section → next_section (1 ∷ (section ++ more)) ≡ next_sequence (drop 4 section) more
stated_next section more stated =
    rw (is_stated section more stated, first_number section more stated, take_at section more (length section) refl, drop_at section more (length section) refl) refl

sequence_next : (content more : List ℕ) → 1 ≤ length content → length content + 4 < 2 ^ 32 → next_section (1 ∷ (sized content ++ more)) ≡ next_sequence content more
sequence_next content more some low = stated_next (sized content) more (sized_stated content some low)

pub next_is : (sections : List Section) → AllByRecursion IsSection sections → length (flat_map section_bytes sections) < 2 ^ 32 → next_section (flat_map section_bytes sections) ≡ next_of sections
next_is [] each low = refl
next_is (body_section document ∷ sections) each low = body_next document (flat_map section_bytes sections) each.0
next_is (sequence_section identifier documents ∷ sections) each low =
    let content = sequence_bytes identifier documents in
    let more = flat_map section_bytes sections in
    let l = length-append content more in
    sequence_next content more (omega (arith, length-append identifier (0 ∷ concat documents))) (omega (arith, low, l))

-- an identifier is read back
pub name_ends : (name more : List ℕ) → HasNoZero name → before_zero (name ++ 0 ∷ more) ≡ Some name
name_ends [] more no_zero = refl
name_ends (b ∷ name) more no_zero =
    let e : eqb b 0 ≡ false = grind (arith, nat_tests, no_zero.0) in
    rw (e, name_ends name more no_zero.1) refl

pub behind_zero : (name more : List ℕ) → drop (length name + 1) (name ++ 0 ∷ more) ≡ more
behind_zero name more = ap (λ (bytes : List ℕ). drop (length name + 1) bytes) (sym (append_assoc name (0 ∷ []) more)) ∙ drop_at (name ++ 0 ∷ []) more (length name + 1) (omega (arith, length-append name (0 ∷ [])))

pub parts_are : (identifier : List ℕ) (documents : List (List ℕ)) → IsUtf8 identifier → HasNoZero identifier → sequence_parts (sequence_bytes identifier documents) ≡ Some (identifier, concat documents)
parts_are identifier documents text no_zero =
    rw (name_ends identifier (concat documents) no_zero, is_utf8-from_IsUtf8 identifier text)
    (ap (λ (rest : List ℕ). Some (identifier, rest)) (behind_zero identifier (concat documents)))

abbrev prefix_in : Option (List ℕ × List ℕ) → List ℕ
prefix_in None = []
prefix_in (Some parts) = parts.0

abbrev behind_in : Option (List ℕ × List ℕ) → List ℕ
behind_in None = []
behind_in (Some parts) = parts.1

pub parts_read : (content name rest identifier : List ℕ) (documents : List (List ℕ)) → Some (name, rest) ≡ sequence_parts content → content ≡ sequence_bytes identifier documents → IsSection (sequence_section identifier documents) → (name ≡ identifier) × (rest ≡ concat documents)
parts_read content name rest identifier documents e split section =
    let p = e ∙ ap (λ (bytes : List ℕ). sequence_parts bytes) split ∙ parts_are identifier documents section.0 section.1 in
    (ap (λ (parts : Option (List ℕ × List ℕ)). prefix_in parts) p, ap (λ (parts : Option (List ℕ × List ℕ)). behind_in parts) p)

pub some_parts : (content identifier : List ℕ) (documents : List (List ℕ)) → None ≡ sequence_parts content → content ≡ sequence_bytes identifier documents → IsSection (sequence_section identifier documents) → ⊥
some_parts content identifier documents e split section =
    let p = e ∙ ap (λ (bytes : List ℕ). sequence_parts bytes) split ∙ parts_are identifier documents section.0 section.1 in
    cc
