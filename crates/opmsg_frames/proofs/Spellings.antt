-- Sections without a fault are the encoding of sections.
use Rattle.std.proofs.Common.{◌≡◌, ◌≢◌, ℕ, zero, suc, ◌+◌, Bool, true, false, eqb, Option, Some, None, List, [], ◌∷◌, ◌++◌, length, take, drop, refl, sym, ap, ◌∙◌, arith, length-drop}
use Rattle.std.specs.Prelude.{◌||◌, not, if◌then◌else◌}
use Rattle.std.specs.Int.{w32, from_le_bytes}
use Rattle.std.specs.List.{AllByRecursion, concat, flat_map}
use Rattle.std.specs.Option.{option_map}
use Rattle.std.specs.Str.{is_utf8}
use Rattle.std.proofs.lemmas.Bool.Decides.{nat_tests}
use Rattle.std.proofs.lemmas.List.{length-take-le, take-append-drop, take-take}
use Rattle.std.proofs.lemmas.Str.{IsUtf8-from_is_utf8}
use Rattle.bson_model.specs.Faults.{before_zero}
use Rattle.bson_model.specs.Grammar.{HasNoZero, AreBytes}
use Rattle.opmsg_model.specs.Messages.{int32, number_at}
use Rattle.opmsg_model.specs.Sections.{Section, body_section, sequence_section, sequence_bytes, section_bytes, IsStated, IsSection, bodies}
use Rattle.opmsg_model.specs.Outline.{Next, no_section, unknown_kind, bad_size, next_body, next_sequence, next_section, has_stated, are_documents, is_named, is_sequence, ended_fault, behind_fault, sections_fault, bad_kind, bad_section, no_body, two_bodies}
use Rattle.opmsg_frames.proofs.Bytes.{number_prefix}
use Rattle.bson_values.proofs.Leaves.{AreBytes-take, AreBytes-drop}
use Rattle.opmsg_frames.proofs.SectionPrefixes.{behind_zero}
use Rattle.opmsg_frames.proofs.StatedDocuments.{within}
use Rattle.bson_model.proofs.Booleans.{both}

-- the prefix of the stated length
pub stated_prefix : (bytes : List ℕ) → has_stated bytes ≡ true → IsStated (take (number_at 0 bytes) bytes)
stated_prefix bytes e =
    let w = within bytes e in
    let l : length (take (number_at 0 bytes) bytes) ≡ number_at 0 bytes = length-take-le (number_at 0 bytes) bytes w.1 in
    let n : number_at 0 (take (number_at 0 bytes) bytes) ≡ number_at 0 bytes = ap (λ (four : List ℕ). from_le_bytes w32 four) (take-take 4 (number_at 0 bytes) bytes (omega (arith, w.0))) in
    (omega (arith, l, w.0), n ∙ sym l)

-- bytes that are documents
abbrev Documents : List ℕ → Type 0
Documents bytes = (documents : List (List ℕ)) × (bytes ≡ concat documents) × AllByRecursion IsStated documents

by_stated : (n : ℕ) (all : List ℕ) (s : Bool) → has_stated all ≡ s → ((rest : List ℕ) → are_documents n rest ≡ true → Documents rest) → (if s then are_documents n (drop (number_at 0 all) all) else false) ≡ true → Documents all
by_stated n all false t others e = absurd (let r : false ≡ true = e in cc)
by_stated n all true t others e =
    let more = others (drop (number_at 0 all) all) e in
    (take (number_at 0 all) all ∷ more.0, sym (take-append-drop (number_at 0 all) all) ∙ ap (λ (rest : List ℕ). take (number_at 0 all) all ++ rest) more.1, (stated_prefix all t, more.2))

pub documents_exist : (n : ℕ) (bytes : List ℕ) → are_documents n bytes ≡ true → Documents bytes
unfolding are_documents
documents_exist n [] e = ([], refl, tt)
documents_exist zero (b ∷ bytes) e = absurd (let q : false ≡ true = e in cc)
documents_exist (suc n) (b ∷ bytes) e = by_stated n (b ∷ bytes) (has_stated (b ∷ bytes)) refl (λ rest q. documents_exist n rest q) e

-- a name and the first 00 after it
abbrev Splits : List ℕ → List ℕ → Type 0
Splits bytes name = (more : List ℕ) × (bytes ≡ name ++ 0 ∷ more) × HasNoZero name

abbrev or_nothing : Option (List ℕ) → List ℕ
or_nothing None = []
or_nothing (Some x) = x

by_zero : (b : ℕ) (bytes name : List ℕ) (z : Bool) (found : Option (List ℕ)) → eqb b 0 ≡ z → ((x : List ℕ) → found ≡ Some x → Splits bytes x) → (if z then Some [] else option_map (λ x. b ∷ x) found) ≡ Some name → Splits (b ∷ bytes) name
by_zero b bytes name true found t split e =
    let n : [] ≡ name = ap (λ (x : Option (List ℕ)). or_nothing x) e in
    let k : b ≡ 0 = grind (arith, nat_tests) in
    rw (sym n, k) (bytes, refl, tt)
by_zero b bytes name false None t split e = absurd (let r : None ≡ Some name = e in cc)
by_zero b bytes name false (Some x) t split e =
    let n : b ∷ x ≡ name = ap (λ (y : Option (List ℕ)). or_nothing y) e in
    let k : b ≢ 0 = grind (arith, nat_tests) in
    let s = split x refl in
    rw (sym n) (s.0, ap (λ (l : List ℕ). b ∷ l) s.1, (k, s.2))

pub zero_splits : (bytes name : List ℕ) → before_zero bytes ≡ Some name → Splits bytes name
zero_splits [] name e = absurd (let q : None ≡ Some name = e in cc)
zero_splits (b ∷ bytes) name e = by_zero b bytes name (eqb b 0) (before_zero bytes) refl (λ x q. zero_splits bytes x q) e

-- the content of a document sequence
abbrev Sequence : List ℕ → Type 0
Sequence content = (identifier : List ℕ) × (documents : List (List ℕ)) × (content ≡ sequence_bytes identifier documents) × IsSection (sequence_section identifier documents)

by_name : (content : List ℕ) (found : Option (List ℕ)) → before_zero content ≡ found → is_named content found ≡ true → Sequence content
by_name content None t e = absurd (let q : false ≡ true = e in cc)
by_name content (Some name) t e =
    let p = both (is_utf8 name) (are_documents (length content) (drop (length name + 1) content)) e in
    let s = zero_splits content name t in
    let more : drop (length name + 1) content ≡ s.0 = ap (λ (l : List ℕ). drop (length name + 1) l) s.1 ∙ behind_zero name s.0 in
    let d = documents_exist (length content) (drop (length name + 1) content) p.1 in
    (name, d.0, s.1 ∙ ap (λ (l : List ℕ). name ++ 0 ∷ l) (sym more ∙ d.1), (IsUtf8-from_is_utf8 name p.0, s.2, d.2))

pub sequence_exists : (content : List ℕ) → is_sequence content ≡ true → Sequence content
sequence_exists content e = by_name content (before_zero content) refl e

-- what comes next, in the bytes
abbrev Spelled : List ℕ → Next → Type 0
Spelled bytes no_section = bytes ≡ []
Spelled bytes unknown_kind = Unit {0}
Spelled bytes bad_size = Unit {0}
Spelled bytes (next_body document rest) = (bytes ≡ 0 ∷ (document ++ rest)) × IsStated document × AreBytes rest
Spelled bytes (next_sequence content rest) = (bytes ≡ 1 ∷ ((int32 (length content + 4) ++ content) ++ rest)) × AreBytes rest

sized_prefix : (s : List ℕ) → AreBytes s → IsStated s → s ≡ int32 (length (drop 4 s) + 4) ++ drop 4 s
sized_prefix s are stated =
    let n : number_at 0 s ≡ length (drop 4 s) + 4 = stated.1 ∙ omega (arith, length-drop 4 s, stated.0) in
    number_prefix 0 s are (omega (arith, stated.0)) ∙ ap (λ (k : ℕ). int32 k ++ drop 4 s) n

by_kind : (kind : ℕ) (bytes : List ℕ) (z one stated : Bool) → eqb kind 0 ≡ z → eqb kind 1 ≡ one → has_stated bytes ≡ stated → AreBytes bytes → Spelled (kind ∷ bytes) (if z then (if stated then next_body (take (number_at 0 bytes) bytes) (drop (number_at 0 bytes) bytes) else bad_size) else if one then (if stated then next_sequence (drop 4 (take (number_at 0 bytes) bytes)) (drop (number_at 0 bytes) bytes) else bad_size) else unknown_kind)
by_kind kind bytes true one true t u v are =
    let k : kind ≡ 0 = grind (arith, nat_tests) in
    (rw k (ap (λ (l : List ℕ). 0 ∷ l) (sym (take-append-drop (number_at 0 bytes) bytes))), stated_prefix bytes v, AreBytes-drop (number_at 0 bytes) bytes are)
by_kind kind bytes true one false t u v are = tt
by_kind kind bytes false true true t u v are =
    let k : kind ≡ 1 = grind (arith, nat_tests) in
    let prefix = sized_prefix (take (number_at 0 bytes) bytes) (AreBytes-take (number_at 0 bytes) bytes are) (stated_prefix bytes v) in
    (rw k (ap (λ (l : List ℕ). 1 ∷ l) (sym (take-append-drop (number_at 0 bytes) bytes) ∙ ap (λ (l : List ℕ). l ++ drop (number_at 0 bytes) bytes) prefix)), AreBytes-drop (number_at 0 bytes) bytes are)
by_kind kind bytes false true false t u v are = tt
by_kind kind bytes false false stated t u v are = tt

tail_bytes : (b : ℕ) (bytes : List ℕ) → AreBytes (b ∷ bytes) → AreBytes bytes
tail_bytes b bytes are i = are (suc i)

next_spelled : (bytes : List ℕ) → AreBytes bytes → Spelled bytes (next_section bytes)
next_spelled [] are = refl
next_spelled (kind ∷ bytes) are = by_kind kind bytes (eqb kind 0) (eqb kind 1) (has_stated bytes) refl refl refl (tail_bytes kind bytes are)

-- sections that are encoded
pub record Exist (seen : ℕ) (bad : Bool) (bytes : List ℕ) : Type 0 where
  pub sections : List Section
  pub split : bytes ≡ flat_map section_bytes sections
  pub each : AllByRecursion IsSection sections
  pub one : seen + bodies sections ≡ 1
  pub good : bad ≡ false

ended_well : (seen : ℕ) (bad : Bool) → ended_fault seen bad ≡ None → (seen ≡ 1) × (bad ≡ false)
ended_well seen true e = absurd (let q : Some bad_section ≡ None = e in cc)
ended_well zero false e = absurd (let q : Some no_body ≡ None = e in cc)
ended_well (suc zero) false e = (refl, refl)
ended_well (suc (suc seen)) false e = absurd (let q : Some two_bodies ≡ None = e in cc)

well : (bad good : Bool) → (bad || not good) ≡ false → (bad ≡ false) × (good ≡ true)
well false true e = (refl, refl)
well false false e = absurd (let q : true ≡ false = e in cc)
well true good e = absurd (let q : true ≡ false = e in cc)

by_next : (n seen : ℕ) (bad : Bool) (bytes : List ℕ) (next : Next) → Spelled bytes next → ((k : ℕ) (b : Bool) (rest : List ℕ) → AreBytes rest → sections_fault n k b rest ≡ None → Exist k b rest) → behind_fault (sections_fault n) seen bad next ≡ None → Exist seen bad bytes
unfolding behind_fault
by_next n seen bad bytes no_section s others e =
    let w = ended_well seen bad e in
    record { sections = []; split = s; each = tt; one = omega (arith, w.0); good = w.1 }
by_next n seen bad bytes unknown_kind s others e = absurd (let q : Some bad_kind ≡ None = e in cc)
by_next n seen bad bytes bad_size s others e = absurd (let q : Some bad_section ≡ None = e in cc)
by_next n seen bad bytes (next_body document rest) s others e =
    let o = others (seen + 1) bad rest s.2 e in
    record {
      sections = body_section document ∷ o.sections;
      split = s.0 ∙ ap (λ (l : List ℕ). 0 ∷ (document ++ l)) o.split;
      each = (s.1, o.each);
      one = omega (arith, o.one);
      good = o.good;
    }
by_next n seen bad bytes (next_sequence content rest) s others e =
    let o = others seen (bad || not (is_sequence content)) rest s.1 e in
    let w = well bad (is_sequence content) o.good in
    let q = sequence_exists content w.1 in
    record {
      sections = sequence_section q.0 q.1 ∷ o.sections;
      split = s.0 ∙ ap (λ (c : List ℕ). 1 ∷ ((int32 (length c + 4) ++ c) ++ rest)) q.2 ∙ ap (λ (l : List ℕ). 1 ∷ ((int32 (length (sequence_bytes q.0 q.1) + 4) ++ sequence_bytes q.0 q.1) ++ l)) o.split;
      each = (q.3, o.each);
      one = o.one;
      good = w.0;
    }

pub sections_exist : (n seen : ℕ) (bad : Bool) (bytes : List ℕ) → AreBytes bytes → sections_fault n seen bad bytes ≡ None → Exist seen bad bytes
unfolding sections_fault
sections_exist zero seen bad bytes are e = absurd (let q : Some bad_section ≡ None = e in cc)
sections_exist (suc n) seen bad bytes are e = by_next n seen bad bytes (next_section bytes) (next_spelled bytes are) (λ k b rest a q. sections_exist n k b rest a q) e
