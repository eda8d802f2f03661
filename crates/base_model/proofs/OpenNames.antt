-- The test of a namespace, and what makes one.
use Rattle.std.proofs.Common.{◌≡◌, ℕ, List, [], ◌∷◌, length, refl, sym, ◌∙◌, subst, Bool, true, false, ◌&&◌, not, arith}
use Rattle.std.specs.Prelude.{nat_le}
use Rattle.std.specs.List.{AllByRecursion, list_any}
use Rattle.base_model.specs.Names.{IsDatabaseByte, IsCollectionByte, IsDatabaseName, IsCollectionName, MakeNamespace, BeginsWell, all_pass, begins_with_dot, full_name, is_collection_byte, is_collection_name, is_database_byte, is_database_name, is_open_namespace, is_reserved}
use Rattle.bson_model.proofs.Booleans.{both, is_false, not_or}

all_from : (test : ℕ → Bool) (P : ℕ → Type 0) → ((b : ℕ) → test b ≡ true → P b) → (bytes : List ℕ) → all_pass test bytes ≡ true → AllByRecursion P bytes
all_from test P fact [] e = tt
all_from test P fact (b ∷ bytes) e =
    let h = both (test b) (all_pass test bytes) (sym (not_or (test b) (list_any (λ c. not (test c)) bytes)) ∙ e) in
    (fact b h.0, all_from test P fact bytes h.1)

all_to : (test : ℕ → Bool) (P : ℕ → Type 0) → ((b : ℕ) → P b → test b ≡ true) → (bytes : List ℕ) → AllByRecursion P bytes → all_pass test bytes ≡ true
all_to test P pass [] all = refl
all_to test P pass (b ∷ bytes) all =
    let rest : all_pass test bytes ≡ true = all_to test P pass bytes all.1 in
    not_or (test b) (list_any (λ c. not (test c)) bytes) ∙ rw (pass b all.0) rest

database_byte : (b : ℕ) → is_database_byte b ≡ true → IsDatabaseByte b
database_byte b e = record {
  dot = λ is. let h : is_database_byte 46 ≡ true = subst (λ c. is_database_byte c ≡ true) is e in cc;
  space = λ is. let h : is_database_byte 32 ≡ true = subst (λ c. is_database_byte c ≡ true) is e in cc;
  quote = λ is. let h : is_database_byte 34 ≡ true = subst (λ c. is_database_byte c ≡ true) is e in cc;
  dollar = λ is. let h : is_database_byte 36 ≡ true = subst (λ c. is_database_byte c ≡ true) is e in cc;
  slash = λ is. let h : is_database_byte 47 ≡ true = subst (λ c. is_database_byte c ≡ true) is e in cc;
  backslash = λ is. let h : is_database_byte 92 ≡ true = subst (λ c. is_database_byte c ≡ true) is e in cc;
  zero_byte = λ is. let h : is_database_byte 0 ≡ true = subst (λ c. is_database_byte c ≡ true) is e in cc;
}

is_database_byte_of : (b : ℕ) → IsDatabaseByte b → is_database_byte b ≡ true
is_database_byte_of b f = grind (arith, f.dot, f.space, f.quote, f.dollar, f.slash, f.backslash, f.zero_byte)

collection_byte : (b : ℕ) → is_collection_byte b ≡ true → IsCollectionByte b
collection_byte b e = record {
  dollar = λ is. let h : is_collection_byte 36 ≡ true = subst (λ c. is_collection_byte c ≡ true) is e in cc;
  zero_byte = λ is. let h : is_collection_byte 0 ≡ true = subst (λ c. is_collection_byte c ≡ true) is e in cc;
}

is_collection_byte_of : (b : ℕ) → IsCollectionByte b → is_collection_byte b ≡ true
is_collection_byte_of b f = grind (arith, f.dollar, f.zero_byte)

begins_well : (bytes : List ℕ) → not (begins_with_dot bytes) ≡ true → BeginsWell bytes
begins_well [] e = tt
begins_well (b ∷ bytes) e = grind (arith, e)

begins_without_dot : (bytes : List ℕ) → BeginsWell bytes → not (begins_with_dot bytes) ≡ true
begins_without_dot [] f = refl
begins_without_dot (b ∷ bytes) f = grind (arith, f)

pub database_name : (name : List ℕ) → is_database_name name ≡ true → IsDatabaseName name
database_name name e =
    let h = both (nat_le 1 (length name) && nat_le (length name) 63) (all_pass is_database_byte name) e in
    let g = both (nat_le 1 (length name)) (nat_le (length name) 63) h.0 in
    record { some = grind (arith, g.0); short = grind (arith, g.1); bytes = all_from is_database_byte IsDatabaseByte database_byte name h.1 }

pub is_database_name_of : (name : List ℕ) → IsDatabaseName name → is_database_name name ≡ true
is_database_name_of name f =
    let bytes : all_pass is_database_byte name ≡ true = all_to is_database_byte IsDatabaseByte is_database_byte_of name f.bytes in
    grind (arith, f.some, f.short, bytes)

pub collection_name : (name : List ℕ) → is_collection_name name ≡ true → IsCollectionName name
collection_name name e =
    let h = both (nat_le 1 (length name) && not (begins_with_dot name)) (all_pass is_collection_byte name) e in
    let g = both (nat_le 1 (length name)) (not (begins_with_dot name)) h.0 in
    record { some = grind (arith, g.0); first = begins_well name g.1; bytes = all_from is_collection_byte IsCollectionByte collection_byte name h.1 }

pub is_collection_name_of : (name : List ℕ) → IsCollectionName name → is_collection_name name ≡ true
is_collection_name_of name f =
    let bytes : all_pass is_collection_byte name ≡ true = all_to is_collection_byte IsCollectionByte is_collection_byte_of name f.bytes in
    let first : not (begins_with_dot name) ≡ true = begins_without_dot name f.first in
    grind (arith, f.some, first, bytes)

-- such names pass the test
pub open_namespace : (database collection : List ℕ) → MakeNamespace database collection → is_reserved database ≡ false → is_open_namespace database collection ≡ true
open_namespace database collection made open_to =
    let one : is_database_name database ≡ true = is_database_name_of database made.database_name in
    let two : is_collection_name collection ≡ true = is_collection_name_of collection made.collection_name in
    grind (arith, one, two, made.short, open_to)

-- what passes it are such names
pub makes : (database collection : List ℕ) → is_open_namespace database collection ≡ true → MakeNamespace database collection × (is_reserved database ≡ false)
makes database collection e =
    let a = both (is_database_name database && is_collection_name collection && nat_le (length (full_name database collection)) 255) (not (is_reserved database)) e in
    let b = both (is_database_name database && is_collection_name collection) (nat_le (length (full_name database collection)) 255) a.0 in
    let c = both (is_database_name database) (is_collection_name collection) b.0 in
    (record { database_name = database_name database c.0; collection_name = collection_name collection c.1; short = grind (arith, b.1) }, grind (arith, a.1))

-- others don't
pub reserved_namespace : (database collection : List ℕ) → is_reserved database ≡ true → is_open_namespace database collection ≡ false
reserved_namespace database collection reserved = is_false _ (λ e. let open_to : is_reserved database ≡ false = (makes database collection e).1 in let clash : true ≡ false = sym reserved ∙ open_to in cc)

pub no_namespace : (database collection : List ℕ) → ¬ (MakeNamespace database collection) → is_open_namespace database collection ≡ false
no_namespace database collection not_made = is_false _ (λ e. not_made (makes database collection e).0)
