-- That what a store says of itself has one proof at most.
use Rattle.std.specs.Prelude.{◌≡◌, ℕ, ℤ, List, Option, Some, None, refl}
use Rattle.std.specs.Coded.{Coded, Coded-set, code_by, coded×, coded_ℕ, coded_ℤ, coded_option}
use Rattle.bson_values.specs.Code.{fields_code}
use Rattle.bson_values.specs.Tree.{Datum}
use Rattle.value_compare.specs.declared.words.Reply.{Reply}
use Rattle.history_model.specs.History.{Entry, document_at}
use Rattle.history_model.specs.Notes.{Note, Seen, new_statement, done_before, older_than, seen}
use Rattle.session_book.specs.Books.{NotesAre, seen_in}
use Rattle.session_book.specs.Code.{reply_code}
use Rattle.session_book.specs.declared.book.Book.{Book}
use Rattle.shard_store.specs.Collections.{shown_in}
use Rattle.shard_store.specs.declared.collections.Collections.{Collections}

-- at each time the collections show what the entries left
abbrev pub AreShown : Collections → List Entry → Type 0
AreShown c entries = (n : List ℕ) (k : Datum) (t : ℕ) → shown_in c n k t ≡ document_at entries n (Some k) t

pub shown-prop : (c : Collections) (entries : List Entry) → IsProp (AreShown c entries)
shown-prop c entries = λ p q i n k t. Coded-set (coded_option fields_code) (shown_in c n k t) (document_at entries n (Some k) t) (p n k t) (q n k t) i

-- what is seen, as the time and the reply of what was done, or a greater transaction
abbrev pub SeenParts : Type 0
SeenParts = Option (ℕ × Reply) × Option ℤ

abbrev pub seen_parts : Seen Reply → SeenParts
seen_parts new_statement = (None, None)
seen_parts (done_before time reply) = (Some (time, reply), None)
seen_parts (older_than transaction) = (None, Some transaction)

abbrev pub seen_from : SeenParts → Seen Reply
seen_from (Some told, older) = done_before told.0 told.1
seen_from (None, Some transaction) = older_than transaction
seen_from (None, None) = new_statement

pub seen_back : (s : Seen Reply) → seen_from (seen_parts s) ≡ s
seen_back new_statement = refl
seen_back (done_before time reply) = refl
seen_back (older_than transaction) = refl

abbrev pub seen_code : Coded (Seen Reply)
seen_code = code_by SeenParts (coded× (coded_option (coded× coded_ℕ reply_code)) (coded_option coded_ℤ)) seen_parts seen_from seen_back

pub noted-prop : (book : Book) (notes : List (Note Reply)) → IsProp (NotesAre book notes)
noted-prop book notes = λ p q i number. Coded-set seen_code (seen_in book number) (seen notes number) (p number) (q number) i
