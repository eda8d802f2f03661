-- The outline of the bytes of an encoded request is a message of their length.
use Rattle.std.proofs.Common.{◌≡◌, ℕ, zero, suc, ◌+◌, ◌-◌, ◌<◌, ◌≤◌, ◌^◌, ◌⊎◌, inl, inr, Bool, true, false, Option, Some, None, List, [], ◌∷◌, ◌++◌, length, take, drop, refl, sym, ap, ◌∙◌, arith, length-append, length-drop}
use Rattle.std.specs.Prelude.{◌&&◌, ◌||◌, ◌==◌, not, nat_lt, nat_le, slice_index, if◌then◌else◌}
use Rattle.std.specs.List.{AllByRecursion, concat, flat_map}
use Rattle.std.specs.Str.{is_utf8, bytes_eq}
use Rattle.std.proofs.lemmas.Bool.Decides.{nat_tests}
use Rattle.std.proofs.lemmas.List.{drop_at}
use Rattle.std.proofs.lemmas.Str.{is_utf8-from_IsUtf8}
use Rattle.std.proofs.Math.Seq.{take-length}
use Rattle.bson_model.specs.Faults.{before_zero}
use Rattle.opmsg_model.specs.Messages.{int32, number_at, stated_length, opcode, op_msg, op_query, most_bytes}
use Rattle.opmsg_model.specs.Sections.{Section, body_section, sequence_section, sequence_bytes, section_bytes, IsStated, IsSection, bodies}
use Rattle.opmsg_model.specs.Requests.{Request, Form, msg_form, query_form, IsForm, IsRequest, IsMsg, IsQuery, IsGreeting, low_flags, admin_command}
use Rattle.opmsg_model.specs.Outline.{Next, FrameFault, bad_length, too_long, bad_opcode, bad_flags, bad_query, message_outline, outline, headed_outline, whole_outline, header_fault, message_fault, msg_fault, is_query, greets, takes_flags, has_stated, are_documents, is_named, is_sequence, ended_fault, behind_fault, sections_fault}
use Rattle.opmsg_frames.proofs.DocumentReads.{first_number, is_stated}
use Rattle.opmsg_frames.proofs.SectionPrefixes.{next_is, name_ends, behind_zero}
use Rattle.opmsg_frames.proofs.StatedDocuments.{none_left, step}
use Rattle.opmsg_frames.proofs.Stays.{cut_outline, outline_by, short_outline}
use Rattle.opmsg_frames.proofs.MessageParts.{msg_parts, query_parts}

-- ---- sections

abbrev stated_by : Bool → ℕ → List ℕ → Bool
stated_by stated n rest = if stated then are_documents n rest else false

documents_are : (n : ℕ) (documents : List (List ℕ)) → AllByRecursion IsStated documents → length (concat documents) ≤ n → are_documents n (concat documents) ≡ true
documents_are n [] each fit = none_left n
documents_are n (d ∷ documents) each fit =
    let all = d ++ concat documents in
    let l = length-append d (concat documents) in
    let stated : has_stated all ≡ true = is_stated d (concat documents) each.0 in
    let size : number_at 0 all ≡ length d = first_number d (concat documents) each.0 in
    let behind : drop (number_at 0 all) all ≡ concat documents = ap (λ (k : ℕ). drop k all) size ∙ drop_at d (concat documents) (length d) refl in
    step n all (omega (arith, l, each.0.0)) fit
    ∙ ap (λ (b : Bool). stated_by b (n - 1) (drop (number_at 0 all) all)) stated
    ∙ ap (λ (rest : List ℕ). are_documents (n - 1) rest) behind
    ∙ documents_are (n - 1) documents each.1 (omega (arith, l, fit, each.0.0))

sequence_is : (identifier : List ℕ) (documents : List (List ℕ)) → IsSection (sequence_section identifier documents) → is_sequence (sequence_bytes identifier documents) ≡ true
sequence_is identifier documents section =
    let content = sequence_bytes identifier documents in
    let l = length-append identifier (0 ∷ concat documents) in
    let found : is_sequence content ≡ is_named content (Some identifier) = ap (λ (name : Option (List ℕ)). is_named content name) (name_ends identifier (concat documents) section.1) in
    let text : is_utf8 identifier ≡ true = is_utf8-from_IsUtf8 identifier section.0 in
    let behind : drop (length identifier + 1) content ≡ concat documents = behind_zero identifier (concat documents) in
    let are : are_documents (length content) (concat documents) ≡ true = documents_are (length content) documents section.2 (omega arith) in
    found ∙ ap (λ (b : Bool). b && are_documents (length content) (drop (length identifier + 1) content)) text ∙ ap (λ (l : List ℕ). are_documents (length content) l) behind ∙ are

one_body : (seen : ℕ) → seen ≡ 1 → ended_fault seen false ≡ None
one_body seen e = ap (λ (n : ℕ). ended_fault n false) e

by_next : (n seen : ℕ) (sections : List Section) → AllByRecursion IsSection sections → length sections < n → seen + bodies sections ≡ 1 → length (flat_map section_bytes sections) < 2 ^ 32 → sections_fault n seen false (flat_map section_bytes sections) ≡ None
unfolding sections_fault behind_fault
by_next zero seen sections each room one low = absurd (omega (arith, room))
by_next (suc n) seen [] each room one low = one_body seen (omega (arith, one))
by_next (suc n) seen (body_section d ∷ sections) each room one low =
    let less : length (flat_map section_bytes sections) < 2 ^ 32 = omega (arith, low, length-append d (flat_map section_bytes sections)) in
    ap (λ (x : Next). behind_fault (sections_fault n) seen false x) (next_is (body_section d ∷ sections) each low)
    ∙ by_next n (seen + 1) sections each.1 (omega (arith, room)) (omega (arith, one)) less
by_next (suc n) seen (sequence_section i ds ∷ sections) each room one low =
    let less : length (flat_map section_bytes sections) < 2 ^ 32 = omega (arith, low, length-append (sequence_bytes i ds) (flat_map section_bytes sections)) in
    ap (λ (x : Next). behind_fault (sections_fault n) seen false x) (next_is (sequence_section i ds ∷ sections) each low)
    ∙ ap (λ (b : Bool). sections_fault n seen (not b) (flat_map section_bytes sections)) (sequence_is i ds each.0)
    ∙ by_next n seen sections each.1 (omega (arith, room)) one less

fewer : (sections : List Section) → length sections ≤ length (flat_map section_bytes sections)
fewer [] = omega arith
fewer (body_section d ∷ sections) = omega (arith, fewer sections, length-append d (flat_map section_bytes sections))
fewer (sequence_section i ds ∷ sections) = omega (arith, fewer sections, length-append (sequence_bytes i ds) (flat_map section_bytes sections))

-- ---- messages

flags_taken : (low : ℕ) → (low ≡ 0) ⊎ (low ≡ 2) → ((low == 0) || (low == 2)) ≡ true
flags_taken low (inl e) = ap (λ (n : ℕ). (n == 0) || (n == 2)) e
flags_taken low (inr e) = ap (λ (n : ℕ). (n == 0) || (n == 2)) e

msg_by : Bool → Bool → Option FrameFault → Option FrameFault
msg_by short taken sections = if short then Some bad_flags else if taken then sections else Some bad_flags

msg_right : (r : Request) (sections : List Section) → IsMsg r sections → msg_fault r.bytes ≡ None
unfolding msg_by
msg_right r sections m =
    let p = msg_parts r sections m in
    let long : nat_lt (length r.bytes) 20 ≡ false = grind (arith, nat_tests, p.least) in
    let taken : takes_flags (number_at 16 r.bytes) ≡ true = flags_taken (low_flags (number_at 16 r.bytes)) p.taken in
    let size : length (flat_map section_bytes sections) ≡ length r.bytes - 20 = ap (λ (l : List ℕ). length l) (sym p.behind) ∙ length-drop 20 r.bytes in
    let right : sections_fault (length r.bytes) 0 false (flat_map section_bytes sections) ≡ None = by_next (length r.bytes) 0 sections m.each (omega (arith, fewer sections, size, p.least)) (omega (arith, m.one)) (omega (arith, size, p.most)) in
    ap (λ (b : Bool). msg_by b (takes_flags (number_at 16 r.bytes)) (sections_fault (length r.bytes) 0 false (drop 20 r.bytes))) long
    ∙ ap (λ (b : Bool). msg_by false b (sections_fault (length r.bytes) 0 false (drop 20 r.bytes))) taken
    ∙ ap (λ (l : List ℕ). sections_fault (length r.bytes) 0 false l) p.behind
    ∙ right

name_greets : (name : List ℕ) → IsGreeting name → greets (Some name) ≡ true
name_greets name (inl e) = ap (λ (n : List ℕ). greets (Some n)) e
name_greets name (inr (inl e)) = ap (λ (n : List ℕ). greets (Some n)) e
name_greets name (inr (inr e)) = ap (λ (n : List ℕ). greets (Some n)) e

abbrev query_by : Bool → Bool → Bool → Bool → Bool → Bool
query_by long collection stated some greeting = long && collection && stated && some && greeting

all_true : (a b c d e : Bool) → a ≡ true → b ≡ true → c ≡ true → d ≡ true → e ≡ true → query_by a b c d e ≡ true
all_true a b c d e p q r s t = rw (p, q, r, s, t) refl

greeting_read : (name behind : List ℕ) → IsGreeting name → greets (before_zero (name ++ 0 ∷ behind)) ≡ true
greeting_read name behind (inl e) = ap (λ (n : List ℕ). greets (before_zero (n ++ 0 ∷ behind))) e
greeting_read name behind (inr (inl e)) = ap (λ (n : List ℕ). greets (before_zero (n ++ 0 ∷ behind))) e
greeting_read name behind (inr (inr e)) = ap (λ (n : List ℕ). greets (before_zero (n ++ 0 ∷ behind))) e

query_right : (r : Request) (document : List ℕ) → IsQuery r document → is_query r.bytes ≡ true
query_right r document q = by_greeting q.greeting
  where
    by_greeting : (kind : ℕ) × (name : List ℕ) × (behind : List ℕ) × IsGreeting name × (0 < kind) × (document ≡ int32 (length document) ++ (kind ∷ name ++ 0 ∷ behind)) → is_query r.bytes ≡ true
    by_greeting (kind, name, behind, greeting, some, parts) =
        let p = query_parts r document q in
        let at : slice_index r.bytes 43 ≡ kind = ap (λ (l : List ℕ). slice_index l 43) q.whole ∙ ap (λ (l : List ℕ). slice_index l 4) parts in
        let named : drop 44 r.bytes ≡ name ++ 0 ∷ behind = ap (λ (l : List ℕ). drop 44 l) q.whole ∙ ap (λ (l : List ℕ). drop 5 l) parts in
        let number : number_at 39 r.bytes ≡ length document = ap (λ (l : List ℕ). number_at 0 l) p.behind ∙ q.stated.1 in
        let least : 5 ≤ length document = q.stated.0 in
        let long : nat_le 44 (length r.bytes) ≡ true = grind (arith, nat_tests, p.size, least) in
        let collection : bytes_eq (take 11 (drop 20 r.bytes)) admin_command ≡ true = ap (λ (l : List ℕ). bytes_eq (take 11 (drop 20 l)) admin_command) q.whole in
        let size : number_at 39 r.bytes ≡ length r.bytes - 39 = number ∙ omega (arith, p.size) in
        let stated : (number_at 39 r.bytes == length r.bytes - 39) ≡ true = grind (arith, nat_tests, size) in
        let positive : nat_lt 0 (slice_index r.bytes 43) ≡ true = grind (arith, nat_tests, at, some) in
        all_true (nat_le 44 (length r.bytes)) (bytes_eq (take 11 (drop 20 r.bytes)) admin_command) (number_at 39 r.bytes == length r.bytes - 39) (nat_lt 0 (slice_index r.bytes 43)) (greets (before_zero (drop 44 r.bytes)))
        long collection stated positive (ap (λ (l : List ℕ). greets (before_zero l)) named ∙ greeting_read name behind greeting)

-- the fault of a header, by four tests
abbrev header_by : Bool → Bool → Bool → Bool → Option FrameFault
header_by short negative long known = if short || negative then Some bad_length else if long then Some too_long else if known then None else Some bad_opcode

none_wrong : (short negative long known : Bool) → short ≡ false → negative ≡ false → long ≡ false → known ≡ true → header_by short negative long known ≡ None
none_wrong short negative long known p q r s = rw (p, q, r, s) refl

code_known : (code : ℕ) → (code ≡ op_msg) ⊎ (code ≡ op_query) → ((code == op_msg) || (code == op_query)) ≡ true
code_known code (inl e) = ap (λ (n : ℕ). (n == op_msg) || (n == op_query)) e
code_known code (inr e) = ap (λ (n : ℕ). (n == op_msg) || (n == op_query)) e

right_header : (bytes : List ℕ) → 16 ≤ length bytes → length bytes ≤ most_bytes → stated_length bytes ≡ length bytes → (opcode bytes ≡ op_msg) ⊎ (opcode bytes ≡ op_query) → header_fault bytes ≡ None
right_header bytes least most stated code = by_number (stated_length bytes) stated
  where
    by_number : (n : ℕ) → n ≡ length bytes → header_by (nat_lt n 16) (nat_le (2 ^ 31) n) (nat_lt most_bytes n) ((opcode bytes == op_msg) || (opcode bytes == op_query)) ≡ None
    by_number n e =
        let low : nat_lt n 16 ≡ false = grind (arith, nat_tests, e, least) in
        let negative : nat_le (2 ^ 31) n ≡ false = grind (arith, nat_tests, e, most) in
        let long : nat_lt most_bytes n ≡ false = grind (arith, nat_tests, e, most) in
        none_wrong (nat_lt n 16) (nat_le (2 ^ 31) n) (nat_lt most_bytes n) ((opcode bytes == op_msg) || (opcode bytes == op_query)) low negative long (code_known (opcode bytes) code)

message_by : Bool → Bool → Option FrameFault → Option FrameFault
message_by msg query fault = if msg then fault else if query then None else Some bad_query

whole_by : (bytes : List ℕ) → 16 ≤ length bytes → length bytes ≤ most_bytes → stated_length bytes ≡ length bytes → (opcode bytes ≡ op_msg) ⊎ (opcode bytes ≡ op_query) → message_fault bytes ≡ None → outline bytes ≡ message_outline (length bytes)
whole_by bytes least most stated code right =
    let n = length bytes in
    let short : nat_lt (length bytes) 16 ≡ false = grind (arith, nat_tests, least) in
    let cut : nat_lt (length bytes) (length bytes) ≡ false = grind (arith, nat_tests) in
    ap (λ (s : Bool). short_outline s bytes) short
    ∙ ap (λ (f : Option FrameFault). headed_outline bytes f) (right_header bytes least most stated code)
    ∙ ap (λ (k : ℕ). cut_outline k bytes) stated
    ∙ ap (λ (c : Bool). outline_by n c (take n bytes)) cut
    ∙ ap (λ (m : List ℕ). outline_by n false m) (take-length bytes)
    ∙ ap (λ (f : Option FrameFault). whole_outline n f) right

by_form : (r : Request) (form : Form) → IsForm r form → outline r.bytes ≡ message_outline (length r.bytes)
unfolding message_by
by_form r msg_form (sections, m, b) =
    let p = msg_parts r sections m in
    let code : (opcode r.bytes == op_msg) ≡ true = ap (λ (n : ℕ). n == op_msg) p.code in
    whole_by r.bytes (omega (arith, p.least)) p.most p.stated (inl p.code)
    (ap (λ (b : Bool). message_by b (is_query r.bytes) (msg_fault r.bytes)) code ∙ msg_right r sections m)
by_form r query_form (document, q, b) =
    let p = query_parts r document q in
    let code : (opcode r.bytes == op_msg) ≡ false = ap (λ (n : ℕ). n == op_msg) p.code in
    whole_by r.bytes (omega (arith, p.size)) p.most p.stated (inr p.code)
    (ap (λ (b : Bool). message_by b (is_query r.bytes) (msg_fault r.bytes)) code ∙ ap (λ (b : Bool). message_by false b (msg_fault r.bytes)) (query_right r document q))

pub spelled_outline : (r : Request) → IsRequest r → outline r.bytes ≡ message_outline (length r.bytes)
spelled_outline r is = by_form r r.form is
