-- Sections have one body.
use Rattle.std.proofs.Common.{◌≡◌, ℕ, suc, ◌+◌, inl, inr, List, [], ◌∷◌, ◌++◌, length, take, Result, Ok, Err, refl, sym, ap, ◌∙◌, arith}
use Rattle.std.specs.List.{AllByRecursion, concat, flat_map}
use Rattle.std.proofs.lemmas.List.{take_at, drop_at}
use Rattle.std.proofs.Math.Seq.{take-length}
use Rattle.bson_model.specs.Tree.{Fields}
use Rattle.bson_model.specs.Grammar.{ReadsAs, AreBytes}
use Rattle.bson_model.specs.Faults.{Fault, HasFirstFault}
use Rattle.bson_values.specs.declared.fault.BsonFault.{BsonFault}
use Rattle.bson_values.specs.ReadFaults.{fault_from}
use Rattle.bson_values.proofs.FirstFault.{is_faulty, one_fault}
use Rattle.bson_values.proofs.Whole.{one_spelling, whole_again}
use Rattle.opmsg_model.specs.Messages.{int32}
use Rattle.opmsg_model.specs.Sections.{Section, body_section, sequence_section, sequence_bytes, section_bytes, documents_in}
use Rattle.opmsg_model.specs.Requests.{Body, read_body, faulty_body, IsKept, IsReadable, AreKept, FirstFaulty, Hold, HasBody}
use Rattle.bson_values.proofs.Leaves.{AreBytes-take, AreBytes-drop}

-- ---- documents are read in one way

kept_once : (bytes : List ℕ) (ms ns : Fields) → IsKept bytes ms → IsKept bytes ns → ms ≡ ns
kept_once bytes ms ns a b = (one_spelling bytes bytes [] [] ms ns a.0 b.0 refl).1

are_kept_once : (documents : List (List ℕ)) (mss nss : List Fields) → AreKept documents mss → AreKept documents nss → mss ≡ nss
are_kept_once [] mss nss a b = a ∙ sym b
are_kept_once (d ∷ documents) mss nss (m, others, e, k, ks) (n, rest, f, l, ls) =
    let same : m ≡ n = kept_once d m n k l in
    let behind : others ≡ rest = are_kept_once documents others rest ks ls in
    cc (e, f, same, behind)

abbrev pub named : List ℕ → List Fields → List ℕ × List Fields
named identifier kept = (identifier, kept)

hold_once : (sections : List Section) (mss nss : List Fields) (s t : List (List ℕ × List Fields)) → Hold sections mss s → Hold sections nss t → (mss ≡ nss) × (s ≡ t)
hold_once [] mss nss s t a b = (a.0 ∙ sym b.0, a.1 ∙ sym b.1)
hold_once (body_section d ∷ sections) mss nss s t (m, others, e, k, ks) (n, rest, f, l, ls) =
    let same : m ≡ n = kept_once d m n k l in
    let both = hold_once sections others rest s t ks ls in
    let behind : others ≡ rest = both.0 in
    (cc (e, f, same, behind), both.1)
hold_once (sequence_section i documents ∷ sections) mss nss s t (m, others, e, k, ks) (n, rest, f, l, ls) =
    let same : m ≡ n = are_kept_once documents m n k l in
    let both = hold_once sections mss nss others rest ks ls in
    let behind : others ≡ rest = both.1 in
    let first : named i m ≡ named i n = ap (λ (x : List Fields). named i x) same in
    (both.0, cc (e, f, first, behind))

-- a supported document has no fault

apart : (bytes : List ℕ) (ms : Fields) (fault : Fault) (offset : ℕ) → AreBytes bytes → IsKept bytes ms → HasFirstFault bytes fault offset → ⊥
apart bytes ms fault offset are kept first =
    let all : ReadsAs (take (length bytes) bytes) ms = rw take-length kept.0 in
    let found : Result (Fields × ℕ) BsonFault = Ok (ms, length bytes) in
    let e : Err (fault_from fault offset) ≡ found = is_faulty bytes found are (whole_again bytes ms (length bytes) (omega arith) all kept.1) fault offset first in
    cc

none_faulty : (documents : List (List ℕ)) (fault : Fault) (offset : ℕ) → AllByRecursion AreBytes documents → AllByRecursion IsReadable documents → FirstFaulty documents fault offset → ⊥
none_faulty [] fault offset are kept found = absurd found
none_faulty (d ∷ documents) fault offset are kept (inl first) = apart d kept.0.0 fault offset are.0 kept.0.1 first
none_faulty (d ∷ documents) fault offset are kept (inr found) = none_faulty documents fault offset are.1 kept.1 found.1

faulty_once : (documents : List (List ℕ)) (f g : Fault) (p q : ℕ) → AllByRecursion AreBytes documents → FirstFaulty documents f p → FirstFaulty documents g q → (f ≡ g) × (p ≡ q)
faulty_once [] f g p q are a b = absurd a
faulty_once (d ∷ documents) f g p q are (inl a) (inl b) = one_fault d f g p q a b
faulty_once (d ∷ documents) f g p q are (inl a) (inr b) = absurd (apart d b.0.0 f p are.0 b.0.1 a)
faulty_once (d ∷ documents) f g p q are (inr a) (inl b) = absurd (apart d a.0.0 g q are.0 a.0.1 b)
faulty_once (d ∷ documents) f g p q are (inr a) (inr b) = faulty_once documents f g p q are.1 a.1 b.1

-- ---- the documents of sections

pub all_append : {X : Type 0} (P : X → Type 0) (xs ys : List X) → AllByRecursion P xs → AllByRecursion P ys → AllByRecursion P (xs ++ ys)
all_append P [] ys a b = b
all_append P (x ∷ xs) ys a b = (a.0, all_append P xs ys a.1 b)

pub prefixes : {X : Type 0} (P : X → Type 0) (xs ys : List X) → AllByRecursion P (xs ++ ys) → AllByRecursion P xs
prefixes P [] ys a = tt
prefixes P (x ∷ xs) ys a = (a.0, prefixes P xs ys a.1)

pub backs : {X : Type 0} (P : X → Type 0) (xs ys : List X) → AllByRecursion P (xs ++ ys) → AllByRecursion P ys
backs P [] ys a = a
backs P (x ∷ xs) ys a = backs P xs ys a.1

are_readable : (documents : List (List ℕ)) (mss : List Fields) → AreKept documents mss → AllByRecursion IsReadable documents
are_readable [] mss kept = tt
are_readable (d ∷ documents) mss (m, others, e, k, ks) = ((m, k), are_readable documents others ks)

held_readable : (sections : List Section) (mss : List Fields) (s : List (List ℕ × List Fields)) → Hold sections mss s → AllByRecursion IsReadable (documents_in sections)
held_readable [] mss s held = tt
held_readable (body_section d ∷ sections) mss s (m, others, e, k, ks) = ((m, k), held_readable sections others s ks)
held_readable (sequence_section i documents ∷ sections) mss s (m, others, e, k, ks) =
    all_append IsReadable documents (documents_in sections) (are_readable documents m k) (held_readable sections mss others ks)

prefix_bytes : (a b : List ℕ) → AreBytes (a ++ b) → AreBytes a
prefix_bytes a b are = rw (take_at a b (length a) refl) at (AreBytes-take (length a) (a ++ b) are)

back_bytes : (a b : List ℕ) → AreBytes (a ++ b) → AreBytes b
back_bytes a b are = rw (drop_at a b (length a) refl) at (AreBytes-drop (length a) (a ++ b) are)

tail_bytes : (b : ℕ) (bytes : List ℕ) → AreBytes (b ∷ bytes) → AreBytes bytes
tail_bytes b bytes are i = are (suc i)

concat_bytes : (documents : List (List ℕ)) → AreBytes (concat documents) → AllByRecursion AreBytes documents
concat_bytes [] are = tt
concat_bytes (d ∷ documents) are = (prefix_bytes d (concat documents) are, concat_bytes documents (back_bytes d (concat documents) are))

sequence_documents : (i : List ℕ) (documents : List (List ℕ)) → AreBytes (sequence_bytes i documents) → AllByRecursion AreBytes documents
sequence_documents i documents are = concat_bytes documents (tail_bytes 0 (concat documents) (back_bytes i (0 ∷ concat documents) are))

pub section_documents : (sections : List Section) → AreBytes (flat_map section_bytes sections) → AllByRecursion AreBytes (documents_in sections)
section_documents [] are = tt
section_documents (body_section d ∷ sections) are =
    let inner = tail_bytes 0 (d ++ flat_map section_bytes sections) are in
    (prefix_bytes d (flat_map section_bytes sections) inner, section_documents sections (back_bytes d (flat_map section_bytes sections) inner))
section_documents (sequence_section i documents ∷ sections) are =
    let size = int32 (length (sequence_bytes i documents) + 4) in
    let inner = tail_bytes 1 ((size ++ sequence_bytes i documents) ++ flat_map section_bytes sections) are in
    let content = back_bytes size (sequence_bytes i documents) (prefix_bytes (size ++ sequence_bytes i documents) (flat_map section_bytes sections) inner) in
    all_append AreBytes documents (documents_in sections) (sequence_documents i documents content) (section_documents sections (back_bytes (size ++ sequence_bytes i documents) (flat_map section_bytes sections) inner))

pub body_once : (sections : List Section) (b c : Body) → AreBytes (flat_map section_bytes sections) → HasBody sections b → HasBody sections c → b ≡ c
body_once sections (read_body m s) (read_body n t) are a b =
    let x = hold_once sections (m ∷ []) (n ∷ []) s t a b in
    let one : m ∷ [] ≡ n ∷ [] = x.0 in
    let same : m ≡ n = cc in
    let others : s ≡ t = x.1 in
    cc
body_once sections (read_body m s) (faulty_body f p) are a b = absurd (none_faulty (documents_in sections) f p (section_documents sections are) (held_readable sections (m ∷ []) s a) b)
body_once sections (faulty_body f p) (read_body m s) are a b = absurd (none_faulty (documents_in sections) f p (section_documents sections are) (held_readable sections (m ∷ []) s b) a)
body_once sections (faulty_body f p) (faulty_body g q) are a b =
    let x = faulty_once (documents_in sections) f g p q (section_documents sections are) a b in
    let same : f ≡ g = x.0 in
    let offset : p ≡ q = x.1 in
    cc
