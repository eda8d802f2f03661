-- Names of databases, collections and namespaces (MongoDB manual, "Naming Restrictions").
use Rattle.std.specs.Prelude.{◌≡◌, ◌≢◌, ℕ, ◌≤◌, List, [], ◌∷◌, ◌++◌, length, codes, Bool, false, ◌&&◌, ◌||◌, not, nat_le, ◌==◌}
use Rattle.std.specs.List.{AllByRecursion, list_any}
use Rattle.std.specs.Str.{bytes_eq}

-- a byte that a database's name may have: none of . space " $ / \ and 00
pub record IsDatabaseByte (b : ℕ) : Type 0 where
  pub dot : b ≢ 46
  pub space : b ≢ 32
  pub quote : b ≢ 34
  pub dollar : b ≢ 36
  pub slash : b ≢ 47
  pub backslash : b ≢ 92
  pub zero_byte : b ≢ 0

pub record IsDatabaseName (name : List ℕ) : Type 0 where
  pub some : 1 ≤ length name
  pub short : length name ≤ 63
  pub bytes : AllByRecursion IsDatabaseByte name

-- a byte that a collection's name may have: no $ and no 00
pub record IsCollectionByte (b : ℕ) : Type 0 where
  pub dollar : b ≢ 36
  pub zero_byte : b ≢ 0

-- what a collection's name may begin with: any such byte but a dot
abbrev pub BeginsWell : List ℕ → Type 0
BeginsWell [] = Unit {0}
BeginsWell (b ∷ bytes) = b ≢ 46

pub record IsCollectionName (name : List ℕ) : Type 0 where
  pub some : 1 ≤ length name
  pub first : BeginsWell name
  pub bytes : AllByRecursion IsCollectionByte name

-- the full name: database, dot, collection
abbrev pub full_name : List ℕ → List ℕ → List ℕ
full_name database collection = database ++ 46 ∷ collection

-- these two make a namespace, of at most 255 bytes
pub record MakeNamespace (database collection : List ℕ) : Type 0 where
  pub database_name : IsDatabaseName database
  pub collection_name : IsCollectionName collection
  pub short : length (full_name database collection) ≤ 255

-- bytes are the full name of a namespace
abbrev pub IsNamespace : List ℕ → Type 0
IsNamespace text = (database : List ℕ) × (collection : List ℕ) × (text ≡ full_name database collection) × MakeNamespace database collection

-- databases that hold no collections of clients
abbrev pub is_reserved : List ℕ → Bool
is_reserved database = bytes_eq database (codes "admin") || bytes_eq database (codes "config") || bytes_eq database (codes "local")

-- Tests of names: they pass what the records above allow.

abbrev pub is_database_byte : ℕ → Bool
is_database_byte b = not (list_any (λ c. c == b) (46 ∷ 32 ∷ 34 ∷ 36 ∷ 47 ∷ 92 ∷ 0 ∷ []))

abbrev pub is_collection_byte : ℕ → Bool
is_collection_byte b = not (b == 36 || b == 0)

abbrev pub all_pass : (ℕ → Bool) → List ℕ → Bool
all_pass test bytes = not (list_any (λ b. not (test b)) bytes)

abbrev pub begins_with_dot : List ℕ → Bool
begins_with_dot [] = false
begins_with_dot (b ∷ bytes) = b == 46

abbrev pub is_database_name : List ℕ → Bool
is_database_name name = nat_le 1 (length name) && nat_le (length name) 63 && all_pass is_database_byte name

abbrev pub is_collection_name : List ℕ → Bool
is_collection_name name = nat_le 1 (length name) && not (begins_with_dot name) && all_pass is_collection_byte name

-- these two make a namespace that clients may use
abbrev pub is_open_namespace : List ℕ → List ℕ → Bool
is_open_namespace database collection =
    is_database_name database && is_collection_name collection && nat_le (length (full_name database collection)) 255 && not (is_reserved database)
