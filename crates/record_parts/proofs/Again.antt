-- The encoding of a part of a record, whatever comes after it, is read as that part.
use Rattle.std.proofs.Common.{◌≡◌, ℕ, ◌<◌, ◌≤◌, ◌^◌, List, [], ◌∷◌, ◌++◌, length, take, drop, Bool, true, false, refl, sym, ap, subst, ◌∙◌, arith, codes, append_assoc, length-append, Ok}
use Rattle.std.specs.Prelude.{ℤ, Option, Some, None, nat_lt, FitsSigned}
use Rattle.std.specs.Int.{w32, w64, from_le_bytes, cast_unsigned, cast_signed}
use Rattle.std.specs.Str.{IsUtf8}
use Rattle.std.proofs.lemmas.List.{take_at, drop_at, append-nil}
use Rattle.std.proofs.lemmas.Nat.{from_le_bytes-to_le_bytes_4, from_le_bytes-to_le_bytes_8}
use Rattle.std.proofs.lemmas.Int.{to_z-of_z}
use Rattle.std.proofs.Math.Facts.{Fits-of_z}
use Rattle.bson_model.specs.Grammar.{ReadsAs}
use Rattle.bson_model.specs.Limits.{IsWritable, most_bytes_written}
use Rattle.bson_model.specs.Spelling.{written, boolean_byte}
use Rattle.bson_model.specs.Tree.{Datum, Fields, value_depth, document_depth}
use Rattle.bson_values.specs.Readers.{whole_at}
use Rattle.value_model.specs.Keys.{valid_key}
use Rattle.history_model.specs.History.{Session, client_session, router_session, StatementNumber, Operation, insert_operation, update_operation, delete_operation}
use Rattle.base_model.specs.Names.{IsNamespace}
use Rattle.record_model.specs.Records.{OutcomeWords}
use Rattle.record_model.specs.RecordFormat.{four, eight, spelled_string, key_document, spelled_key, spelled_session, spelled_number, spelled_operation, spelled_outcome, IsSoundDocument, IsSoundKeyValue, IsSoundKey, IsSoundSession, IsSoundNumber, IsSoundOperation, IsSoundOutcome}
use Rattle.record_model.proofs.Prefixes.{short_name}
use Rattle.shard_records.specs.Sizes.{IsWritableOperation, IsWritableKey}
use Rattle.record_parts.specs.Readers.{◌>>=◌, Found, byte_at, bytes_at, four_at, eight_at, name_in, namespace_at, whole_in, document_at, key_in, key_at, some_key_at, option_key_at, client_at, router_at, session_at, statement_at, insert_at, update_at, delete_at, operation_at, outcome_at}
use Rattle.record_parts.proofs.Documents.{found_whole, flat_key}
use Rattle.record_parts.proofs.Names.{name_again}

-- a step finds something, and the next ones proceed with it
pub stepped : {A B : Type 0} {found : Option A} {x : A} {y : Option B} (f : A → Option B) → found ≡ Some x → f x ≡ y → (found >>= f) ≡ y
stepped f e next = ap (λ o. o >>= f) e ∙ next

-- what is read of the first of two parts
pub first : {X : Type 0} {y : Option X} (at : List ℕ → Option X) (a b rest : List ℕ) → at (a ++ (b ++ rest)) ≡ y → at ((a ++ b) ++ rest) ≡ y
first at a b rest e = ap at (append_assoc a b rest) ∙ e

-- what is read of a part after which nothing comes
pub last : {X : Type 0} {y : Option X} (at : List ℕ → Option X) (a : List ℕ) → at (a ++ []) ≡ y → at a ≡ y
last at a e = ap at (sym (append-nil a)) ∙ e

pub bytes_again : (n : ℕ) (xs rest : List ℕ) → length xs ≡ n → bytes_at n (xs ++ rest) ≡ Some (xs, rest)
unfolding bytes_at
bytes_again n xs rest e =
    let enough : nat_lt (length (xs ++ rest)) n ≡ false = grind (arith, length-append xs rest, e) in
    rw (enough, take_at xs rest n e, drop_at xs rest n e) refl

pub four_again : (n : ℕ) (rest : List ℕ) → n < 2 ^ 32 → four_at (four n ++ rest) ≡ Some (n, rest)
unfolding four_at
four_again n rest p =
    stepped _ (bytes_again 4 (four n) rest refl) (ap (λ (m : ℕ). Some (m, rest)) (from_le_bytes-to_le_bytes_4 n p))

pub eight_again : (n : ℕ) (rest : List ℕ) → n < 2 ^ 64 → eight_at (eight n ++ rest) ≡ Some (n, rest)
unfolding eight_at
eight_again n rest p =
    stepped _ (bytes_again 8 (eight n) rest refl) (ap (λ (m : ℕ). Some (m, rest)) (from_le_bytes-to_le_bytes_8 n p))

pub namespace_again : (name rest : List ℕ) → IsNamespace name → IsUtf8 name → namespace_at (spelled_string name ++ rest) ≡ Some (name, rest)
unfolding namespace_at
namespace_again name rest is text =
    let short : length name < 2 ^ 31 = short_name name is in
    stepped _ (first four_at (four (length name)) name rest (four_again (length name) (name ++ rest) (omega arith)))
    (stepped _ (bytes_again (length name) name rest refl) (stepped _ (name_again name text is) refl))

pub document_again : (document : Fields) (rest : List ℕ) → IsSoundDocument document → length (written document) ≤ most_bytes_written → document_at (written document ++ rest) ≡ Some (document, rest)
unfolding document_at
document_again document rest sound fits =
    let n : ℕ = length (written document) in
    let prefix : take n (written document ++ rest) ≡ written document = take_at (written document) rest n refl in
    let reads : ReadsAs (take n (written document ++ rest)) document = subst (λ (l : List ℕ). ReadsAs l document) (sym prefix) sound.spelled in
    let whole = found_whole (written document ++ rest) document n (omega (arith, length-append (written document) rest)) reads sound.within in
    let small : nat_lt most_bytes_written n ≡ false = grind (arith, fits) in
    stepped _ whole (rw (small, drop_at (written document) rest n refl) refl)

pub key_again : (key : Datum) (rest : List ℕ) → IsSoundKeyValue key → IsWritable (key_document key) → key_at (written (key_document key) ++ rest) ≡ Some (key, rest)
unfolding key_at
key_again key rest sound fits =
    let flat : value_depth key ≡ 0 = flat_key key sound.kind in
    let low : document_depth (key_document key) ≤ 100 = rw flat (omega arith) in
    let valid : valid_key (key_document key) ≡ Ok key = rw sound.kind refl in
    stepped _ (document_again (key_document key) rest (record { spelled = sound.spelled; within = low }) fits.1) (stepped _ (ap key_in valid) refl)

pub option_key_again : (key : Option Datum) (rest : List ℕ) → IsSoundKey key → IsWritableKey key → option_key_at (spelled_key key ++ rest) ≡ Some (key, rest)
unfolding option_key_at some_key_at byte_at
option_key_again None rest sound fits = refl
option_key_again (Some key) rest sound fits = stepped _ (key_again key rest sound fits) refl

pub session_again : (s : Session) (rest : List ℕ) → IsSoundSession s → session_at (spelled_session s ++ rest) ≡ Some (s, rest)
unfolding session_at byte_at client_at router_at
session_again (client_session id) rest sound = stepped _ (bytes_again 16 id rest sound) refl
session_again (router_session node life request) rest sound =
    stepped _ (first four_at (four node) (eight life ++ eight request) rest (four_again node ((eight life ++ eight request) ++ rest) sound.0))
    (stepped _ (first eight_at (eight life) (eight request) rest (eight_again life (eight request ++ rest) sound.1))
    (stepped _ (eight_again request rest sound.2) refl))

pub statement_again : (n : StatementNumber) (rest : List ℕ) → IsSoundNumber n → statement_at (spelled_number n ++ rest) ≡ Some (n, rest)
unfolding statement_at
statement_again n rest sound =
    let behind : List ℕ = eight (cast_unsigned w64 n.transaction) ++ four n.index in
    stepped _ (first session_at (spelled_session n.session) behind rest (session_again n.session (behind ++ rest) sound.session))
    (stepped _ (first eight_at (eight (cast_unsigned w64 n.transaction)) (four n.index) rest (eight_again (cast_unsigned w64 n.transaction) (four n.index ++ rest) (Fits-of_z sound.transaction).fits))
    (stepped _ (four_again n.index rest sound.index)
    (ap (λ (z : ℤ). Some (record { session = n.session; transaction = z; index = n.index }, rest)) (to_z-of_z w64 n.transaction sound.transaction))))

pub operation_again : (o : Operation) (rest : List ℕ) → IsSoundOperation o → IsWritableOperation o → operation_at (spelled_operation o ++ rest) ≡ Some (o, rest)
unfolding operation_at byte_at insert_at update_at delete_at
operation_again (insert_operation document) rest sound fits = stepped _ (document_again document rest sound fits.1) refl
operation_again (update_operation filter change true) rest sound fits =
    stepped _ (first document_at (written filter) (written change ++ 1 ∷ []) rest (document_again filter ((written change ++ 1 ∷ []) ++ rest) sound.0 fits.0.1))
    (stepped _ (first document_at (written change) (1 ∷ []) rest (document_again change (1 ∷ rest) sound.1 fits.1.1)) refl)
operation_again (update_operation filter change false) rest sound fits =
    stepped _ (first document_at (written filter) (written change ++ 0 ∷ []) rest (document_again filter ((written change ++ 0 ∷ []) ++ rest) sound.0 fits.0.1))
    (stepped _ (first document_at (written change) (0 ∷ []) rest (document_again change (0 ∷ rest) sound.1 fits.1.1)) refl)
operation_again (delete_operation filter) rest sound fits = stepped _ (document_again filter rest sound fits.1) refl

pub outcome_again : (o : OutcomeWords) (rest : List ℕ) → IsSoundOutcome o → IsWritableKey o.upserted → outcome_at (spelled_outcome o ++ rest) ≡ Some (o, rest)
unfolding outcome_at
outcome_again o rest sound fits =
    let code : List ℕ = four (cast_unsigned w32 o.code) in
    let behind : List ℕ = spelled_key o.upserted ++ code in
    stepped _ (first four_at (four o.count) (four o.modified ++ behind) rest (four_again o.count ((four o.modified ++ behind) ++ rest) sound.count))
    (stepped _ (first four_at (four o.modified) behind rest (four_again o.modified (behind ++ rest) sound.modified))
    (stepped _ (first option_key_at (spelled_key o.upserted) code rest (option_key_again o.upserted (code ++ rest) sound.upserted fits))
    (stepped _ (four_again (cast_unsigned w32 o.code) rest (Fits-of_z sound.code).fits)
    (ap (λ (z : ℤ). Some (record { count = o.count; modified = o.modified; upserted = o.upserted; code = z }, rest)) (to_z-of_z w32 o.code sound.code)))))
