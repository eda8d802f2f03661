-- Each part of a record's encoding ends where the bytes before say, so what comes after two equal parts is equal too.
use Rattle.std.proofs.Common.{◌≡◌, ℕ, ◌+◌, ◌<◌, ◌^◌, List, [], ◌∷◌, ◌++◌, length, refl, sym, ap, subst, ◌∙◌, arith, append_assoc}
use Rattle.std.specs.Prelude.{ℤ, Bool, Option, Some, None, FitsSigned}
use Rattle.std.specs.Int.{w32, w64, from_le_bytes, cast_unsigned, cast_signed}
use Rattle.std.proofs.lemmas.Nat.{from_le_bytes-to_le_bytes_4, from_le_bytes-to_le_bytes_8}
use Rattle.std.proofs.lemmas.Int.{to_z-of_z}
use Rattle.std.proofs.Math.Facts.{Fits-of_z}
use Rattle.bson_model.specs.Tree.{Datum, Fields}
use Rattle.bson_model.specs.Spelling.{framed, written, written_fields, boolean_byte}
use Rattle.bson_model.specs.Grammar.{ReadsAs}
use Rattle.base_model.specs.Names.{IsNamespace, full_name}
use Rattle.bson_model.proofs.OneDocument.{one_document}
use Rattle.history_model.specs.History.{Session, client_session, router_session, StatementNumber, Operation, insert_operation, update_operation, delete_operation}
use Rattle.chunk_model.specs.Catalogue.{Creation}
use Rattle.record_model.specs.Records.{OutcomeWords, EntryWords}
use Rattle.record_model.specs.PartFormat.{four, eight, spelled_string, key_document, spelled_key, spelled_session, spelled_number, spelled_operation, spelled_outcome, spelled_entry, spelled_creation, IsSpellable, IsSoundDocument, IsSoundKeyValue, IsSoundKey, IsSoundSession, IsSoundNumber, IsSoundOperation, IsSoundOutcome, IsSoundEntry, IsSoundCreation}
use Rattle.bson_model.proofs.Lengths.{length-framed}
use Rattle.bson_model.proofs.Parts.{same_prefix, same_boolean}

pub first_byte : (b c : ℕ) (xs ys : List ℕ) → b ∷ xs ≡ c ∷ ys → b ≡ c
first_byte b c xs ys e = cc

pub behind : (b c : ℕ) (xs ys : List ℕ) → b ∷ xs ≡ c ∷ ys → xs ≡ ys
behind b c xs ys e = cc

pub regroup : (a b xs c d ys : List ℕ) → (a ++ b) ++ xs ≡ (c ++ d) ++ ys → a ++ (b ++ xs) ≡ c ++ (d ++ ys)
regroup a b xs c d ys e = sym (append_assoc a b xs) ∙ e ∙ append_assoc c d ys

pub same_four : (n m : ℕ) (xs ys : List ℕ) → n < 2 ^ 32 → m < 2 ^ 32 → four n ++ xs ≡ four m ++ ys → (n ≡ m) × (xs ≡ ys)
same_four n m xs ys p q e =
    let prefix = same_prefix (four n) (four m) xs ys refl e in
    (sym (from_le_bytes-to_le_bytes_4 n p) ∙ ap (λ (l : List ℕ). from_le_bytes w32 l) prefix.0 ∙ from_le_bytes-to_le_bytes_4 m q, prefix.1)

pub same_eight : (n m : ℕ) (xs ys : List ℕ) → n < 2 ^ 64 → m < 2 ^ 64 → eight n ++ xs ≡ eight m ++ ys → (n ≡ m) × (xs ≡ ys)
same_eight n m xs ys p q e =
    let prefix = same_prefix (eight n) (eight m) xs ys refl e in
    (sym (from_le_bytes-to_le_bytes_8 n p) ∙ ap (λ (l : List ℕ). from_le_bytes w64 l) prefix.0 ∙ from_le_bytes-to_le_bytes_8 m q, prefix.1)

same_code : (n m : ℤ) (xs ys : List ℕ) → FitsSigned w32 n → FitsSigned w32 m → four (cast_unsigned w32 n) ++ xs ≡ four (cast_unsigned w32 m) ++ ys → (n ≡ m) × (xs ≡ ys)
same_code n m xs ys p q e =
    let prefix = same_four (cast_unsigned w32 n) (cast_unsigned w32 m) xs ys (Fits-of_z p).fits (Fits-of_z q).fits e in
    (sym (to_z-of_z w32 n p) ∙ ap (λ (k : ℕ). cast_signed w32 k) prefix.0 ∙ to_z-of_z w32 m q, prefix.1)

pub same_transaction : (n m : ℤ) (xs ys : List ℕ) → FitsSigned w64 n → FitsSigned w64 m → eight (cast_unsigned w64 n) ++ xs ≡ eight (cast_unsigned w64 m) ++ ys → (n ≡ m) × (xs ≡ ys)
same_transaction n m xs ys p q e =
    let prefix = same_eight (cast_unsigned w64 n) (cast_unsigned w64 m) xs ys (Fits-of_z p).fits (Fits-of_z q).fits e in
    (sym (to_z-of_z w64 n p) ∙ ap (λ (k : ℕ). cast_signed w64 k) prefix.0 ∙ to_z-of_z w64 m q, prefix.1)

-- a namespace's length is a number of four bytes
pub short_name : (name : List ℕ) → IsNamespace name → length name < 2 ^ 31
short_name name is =
    let same : length name ≡ length (full_name is.0 is.1) = ap (λ (l : List ℕ). length l) is.2 in
    omega (arith, same, is.3.short)

pub same_text : (s t xs ys : List ℕ) → length s < 2 ^ 31 → length t < 2 ^ 31 → spelled_string s ++ xs ≡ spelled_string t ++ ys → (s ≡ t) × (xs ≡ ys)
same_text s t xs ys p q e =
    let number = same_four (length s) (length t) (s ++ xs) (t ++ ys) (omega arith) (omega arith) e in
    same_prefix s t xs ys number.0 number.1

pub same_name : (s t xs ys : List ℕ) → IsNamespace s → IsNamespace t → spelled_string s ++ xs ≡ spelled_string t ++ ys → (s ≡ t) × (xs ≡ ys)
same_name s t xs ys p q e = same_text s t xs ys (short_name s p) (short_name t q) e

-- a spellable document's own length is a number of four bytes
short : (ms : Fields) → IsSpellable ms → length (written_fields ms) + 5 < 2 ^ 32
short ms p =
    let same : length (written ms) ≡ length (framed p.0) = ap (λ (l : List ℕ). length l) p.1 in
    omega (arith, same, length-framed (written_fields ms), length-framed p.0, p.2)

-- a document's first four bytes are its length
pub same_document : (a b : Fields) (xs ys : List ℕ) → IsSpellable a → IsSpellable b → written a ++ xs ≡ written b ++ ys → (a ≡ b) × (xs ≡ ys)
same_document a b xs ys p q e =
    let n = same_four (length (written_fields a) + 5) (length (written_fields b) + 5) ((written_fields a ++ 0 ∷ []) ++ xs) ((written_fields b ++ 0 ∷ []) ++ ys) (short a p) (short b q) e in
    let size : length (written a) ≡ length (written b) = length-framed (written_fields a) ∙ n.0 ∙ sym (length-framed (written_fields b)) in
    let prefix = same_prefix (written a) (written b) xs ys size e in
    (one_document (written a) a b p (subst (λ (l : List ℕ). ReadsAs l b) (sym prefix.0) q), prefix.1)

pub key_in : (a b : Datum) → key_document a ≡ key_document b → a ≡ b
key_in a b e = cc

pub same_key : (a b : Option Datum) (xs ys : List ℕ) → IsSoundKey a → IsSoundKey b → spelled_key a ++ xs ≡ spelled_key b ++ ys → (a ≡ b) × (xs ≡ ys)
same_key None None xs ys p q e = (refl, behind 0 0 xs ys e)
same_key None (Some b) xs ys p q e =
    absurd (omega (arith, first_byte 0 1 _ _ e))
same_key (Some a) None xs ys p q e =
    absurd (omega (arith, first_byte 1 0 _ _ e))
same_key (Some a) (Some b) xs ys p q e =
    let document = same_document (key_document a) (key_document b) xs ys p.spelled q.spelled (behind 1 1 _ _ e) in
    (ap Some (key_in a b document.0), document.1)

pub same_session : (s t : Session) (xs ys : List ℕ) → IsSoundSession s → IsSoundSession t → spelled_session s ++ xs ≡ spelled_session t ++ ys → (s ≡ t) × (xs ≡ ys)
same_session (client_session id) (client_session other) xs ys p q e =
    let prefix = same_prefix id other xs ys (p ∙ sym q) (behind 0 0 _ _ e) in
    (ap client_session prefix.0, prefix.1)
same_session (client_session id) (router_session node life request) xs ys p q e =
    absurd (omega (arith, first_byte 0 1 _ _ e))
same_session (router_session node life request) (client_session id) xs ys p q e =
    absurd (omega (arith, first_byte 1 0 _ _ e))
same_session (router_session node life request) (router_session m l r) xs ys p q e =
    let a = same_four node m ((eight life ++ eight request) ++ xs) ((eight l ++ eight r) ++ ys) p.0 q.0 (behind 1 1 _ _ e) in
    let b = same_eight life l (eight request ++ xs) (eight r ++ ys) p.1 q.1 a.1 in
    let c = same_eight request r xs ys p.2 q.2 b.1 in
    (ap (λ k. router_session k life request) a.0 ∙ ap (λ k. router_session m k request) b.0 ∙ ap (λ k. router_session m l k) c.0, c.1)

same_number : (n m : StatementNumber) (xs ys : List ℕ) → IsSoundNumber n → IsSoundNumber m → spelled_number n ++ xs ≡ spelled_number m ++ ys → (n ≡ m) × (xs ≡ ys)
same_number n m xs ys p q e =
    let n_rest : List ℕ = eight (cast_unsigned w64 n.transaction) ++ four n.index in
    let m_rest : List ℕ = eight (cast_unsigned w64 m.transaction) ++ four m.index in
    let a = same_session n.session m.session (n_rest ++ xs) (m_rest ++ ys) p.session q.session (regroup (spelled_session n.session) n_rest xs (spelled_session m.session) m_rest ys e) in
    let b = same_transaction n.transaction m.transaction (four n.index ++ xs) (four m.index ++ ys) p.transaction q.transaction a.1 in
    let c = same_four n.index m.index xs ys p.index q.index b.1 in
    (λ i. record { session = a.0 i; transaction = b.0 i; index = c.0 i }, c.1)

pub same_upsert : (a b : Bool) (xs ys : List ℕ) → boolean_byte a ∷ xs ≡ boolean_byte b ∷ ys → (a ≡ b) × (xs ≡ ys)
same_upsert a b xs ys e =
    let byte : boolean_byte a ≡ boolean_byte b = cc in
    (same_boolean a b byte, behind _ _ xs ys e)

same_update : (f c g d : Fields) (u v : Bool) (xs ys : List ℕ) → IsSpellable f → IsSpellable c → IsSpellable g → IsSpellable d → (written f ++ (written c ++ boolean_byte u ∷ [])) ++ xs ≡ (written g ++ (written d ++ boolean_byte v ∷ [])) ++ ys → (f ≡ g) × (c ≡ d) × (u ≡ v) × (xs ≡ ys)
same_update f c g d u v xs ys pf pc pg pd e =
    let first = same_document f g ((written c ++ boolean_byte u ∷ []) ++ xs) ((written d ++ boolean_byte v ∷ []) ++ ys) pf pg (regroup (written f) (written c ++ boolean_byte u ∷ []) xs (written g) (written d ++ boolean_byte v ∷ []) ys e) in
    let second = same_document c d (boolean_byte u ∷ xs) (boolean_byte v ∷ ys) pc pd (regroup (written c) (boolean_byte u ∷ []) xs (written d) (boolean_byte v ∷ []) ys first.1) in
    let last = same_upsert u v xs ys second.1 in
    (first.0, second.0, last.0, last.1)

same_operation : (a b : Operation) (xs ys : List ℕ) → IsSoundOperation a → IsSoundOperation b → spelled_operation a ++ xs ≡ spelled_operation b ++ ys → (a ≡ b) × (xs ≡ ys)
same_operation (insert_operation d) (insert_operation f) xs ys p q e =
    let document = same_document d f xs ys p.spelled q.spelled (behind 1 1 _ _ e) in
    (ap insert_operation document.0, document.1)
same_operation (update_operation f c u) (update_operation g d v) xs ys p q e =
    let s = same_update f c g d u v xs ys p.0.spelled p.1.spelled q.0.spelled q.1.spelled (behind 2 2 _ _ e) in
    (ap (λ k. update_operation k c u) s.0 ∙ ap (λ k. update_operation g k u) s.1 ∙ ap (λ k. update_operation g d k) s.2, s.3)
same_operation (delete_operation f) (delete_operation g) xs ys p q e =
    let document = same_document f g xs ys p.spelled q.spelled (behind 3 3 _ _ e) in
    (ap delete_operation document.0, document.1)
same_operation (insert_operation d) (update_operation g c v) xs ys p q e =
    absurd (omega (arith, first_byte 1 2 _ _ e))
same_operation (insert_operation d) (delete_operation g) xs ys p q e =
    absurd (omega (arith, first_byte 1 3 _ _ e))
same_operation (update_operation f c u) (insert_operation d) xs ys p q e =
    absurd (omega (arith, first_byte 2 1 _ _ e))
same_operation (update_operation f c u) (delete_operation g) xs ys p q e =
    absurd (omega (arith, first_byte 2 3 _ _ e))
same_operation (delete_operation f) (insert_operation d) xs ys p q e =
    absurd (omega (arith, first_byte 3 1 _ _ e))
same_operation (delete_operation f) (update_operation g c v) xs ys p q e =
    absurd (omega (arith, first_byte 3 2 _ _ e))

pub same_outcome : (a b : OutcomeWords) (xs ys : List ℕ) → IsSoundOutcome a → IsSoundOutcome b → spelled_outcome a ++ xs ≡ spelled_outcome b ++ ys → (a ≡ b) × (xs ≡ ys)
same_outcome a b xs ys p q e =
    let a_code : List ℕ = four (cast_unsigned w32 a.code) in
    let b_code : List ℕ = four (cast_unsigned w32 b.code) in
    let c = same_four a.count b.count ((four a.modified ++ (spelled_key a.upserted ++ a_code)) ++ xs) ((four b.modified ++ (spelled_key b.upserted ++ b_code)) ++ ys) p.count q.count e in
    let m = same_four a.modified b.modified ((spelled_key a.upserted ++ a_code) ++ xs) ((spelled_key b.upserted ++ b_code) ++ ys) p.modified q.modified c.1 in
    let u = same_key a.upserted b.upserted (a_code ++ xs) (b_code ++ ys) p.upserted q.upserted (regroup (spelled_key a.upserted) a_code xs (spelled_key b.upserted) b_code ys m.1) in
    let k = same_code a.code b.code xs ys p.code q.code u.1 in
    (λ i. record { count = c.0 i; modified = m.0 i; upserted = u.0 i; code = k.0 i }, k.1)

pub same_entry : (a b : EntryWords) → IsSoundEntry a → IsSoundEntry b → spelled_entry a ≡ spelled_entry b → a ≡ b
same_entry a b p q e =
    let a_told : List ℕ = spelled_operation a.operation ++ spelled_outcome a.outcome in
    let b_told : List ℕ = spelled_operation b.operation ++ spelled_outcome b.outcome in
    let t = same_eight a.time b.time (spelled_string a.namespace ++ (spelled_number a.number ++ a_told)) (spelled_string b.namespace ++ (spelled_number b.number ++ b_told)) p.time q.time e in
    let n = same_text a.namespace b.namespace (spelled_number a.number ++ a_told) (spelled_number b.number ++ b_told) (short_name a.namespace p.namespace) (short_name b.namespace q.namespace) t.1 in
    let s = same_number a.number b.number a_told b_told p.number q.number n.1 in
    let w = same_operation a.operation b.operation (spelled_outcome a.outcome) (spelled_outcome b.outcome) p.operation q.operation s.1 in
    let o = same_outcome a.outcome b.outcome [] [] p.outcome q.outcome (ap (λ (l : List ℕ). l ++ []) w.1) in
    λ i. record { time = t.0 i; namespace = n.0 i; number = s.0 i; operation = w.0 i; outcome = o.0 i }

pub same_creation : (a b : Creation) → IsSoundCreation a → IsSoundCreation b → spelled_creation a ≡ spelled_creation b → a ≡ b
same_creation a b p q e =
    let n = same_text a.namespace b.namespace (eight a.epoch ++ eight a.at) (eight b.epoch ++ eight b.at) (short_name a.namespace p.namespace) (short_name b.namespace q.namespace) e in
    let k = same_eight a.epoch b.epoch (eight a.at) (eight b.at) p.epoch q.epoch n.1 in
    let t = same_eight a.at b.at [] [] p.at q.at (ap (λ (l : List ℕ). l ++ []) k.1) in
    λ i. record { namespace = n.0 i; epoch = k.0 i; at = t.0 i }
