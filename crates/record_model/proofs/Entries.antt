-- Records keep one list of entries: a record has each field of its entry but the shard and the error's name.
use Rattle.std.proofs.Common.{◌≡◌, ℕ, List, [], ◌∷◌, ◌++◌, map, refl, sym, ap, ◌∙◌}
use Rattle.std.specs.Prelude.{Option, Some, None, Result, Ok, Err}
use Rattle.std.specs.List.{AllByRecursion}
use Rattle.bson_model.specs.Tree.{Fields}
use Rattle.history_model.specs.History.{Operation, read_operation, outcome_of, effect_read, effect, Entry}
use Rattle.query_model.specs.Edits.{WriteFault, duplicate_fault, immutable_fault, overflow_fault, too_large_fault, not_number_fault, not_document_fault}
use Rattle.query_model.specs.Effects.{Effect, effect_of}
use Rattle.query_model.specs.Writes.{Write}
use Rattle.query_model.specs.Queries.{QueryFault}
use Rattle.record_model.specs.Records.{EntryWords, Record, entry_record, record_of}
use Rattle.record_model.specs.RecordContents.{IsKnown, Keeps, KeepEntries}

-- what an entry record says
abbrev said : Record → EntryWords → EntryWords
said (entry_record w) other = w
said r other = other

one_entry : (shard : ℕ) (w : EntryWords) (a b : Entry) → Keeps shard w a → Keeps shard w b → a ≡ b
one_entry shard w a b p q =
    let words = ap (λ r. said r w) (p.own ∙ sym q.own) in
    let operation = ap (λ k. k.operation) words in
    let times = ap (λ k. k.time) words in
    let numbers = ap (λ k. k.number) words in
    let namespaces = ap (λ k. k.namespace) words in
    let counts = ap (λ k. k.outcome.count) words in
    let changes = ap (λ k. k.outcome.modified) words in
    let upserts = ap (λ k. k.outcome.upserted) words in
    let errors = p.error ∙ sym q.error in
    let shards = p.place ∙ sym q.place in
    λ i. record {
      time = times i;
      shard = shards i;
      number = numbers i;
      namespace = namespaces i;
      operation = operation i;
      outcome = record { count = counts i; modified = changes i; upserted = upserts i; error = errors i };
    }

pub one_list : (shard : ℕ) (records : List Record) (entries others : List Entry) → KeepEntries shard records entries → KeepEntries shard records others → entries ≡ others
one_list shard [] entries others p q = p ∙ sym q
one_list shard (entry_record w ∷ records) entries others p q =
    let first = one_entry shard w p.0 q.0 p.3 q.3 in
    let later = one_list shard records p.1 q.1 p.4 q.4 in
    p.2 ∙ ap (λ e. e ∷ p.1) first ∙ ap (λ es. q.0 ∷ es) later ∙ sym q.2
one_list shard (r ∷ records) entries others p q = one_list shard records entries others p q

-- the records of a shard's entries keep these
pub own_entries : (shard : ℕ) (entries : List Entry) → AllByRecursion (λ e. (e.shard ≡ shard) × IsKnown e.outcome.error) entries → KeepEntries shard (map record_of entries) entries
own_entries shard [] all = refl
own_entries shard (e ∷ entries) all =
    (e, entries, refl, record { own = refl; place = all.0.0; error = all.0.1 }, own_entries shard entries all.1)

pub in_parts : (shard : ℕ) (prefix back : List Record) (entries later : List Entry) → KeepEntries shard prefix entries → KeepEntries shard back later → KeepEntries shard (prefix ++ back) (entries ++ later)
in_parts shard [] back entries later p q = rw p q
in_parts shard (entry_record w ∷ prefix) back entries later p q =
    (p.0, p.1 ++ later, ap (λ (es : List Entry). es ++ later) p.2, p.3, in_parts shard prefix back p.1 later p.4 q)
in_parts shard (r ∷ prefix) back entries later p q = in_parts shard prefix back entries later p q

known_outcome : (r : Result Effect WriteFault) → IsKnown (outcome_of r).error
known_outcome (Ok effect) = refl
known_outcome (Err duplicate_fault) = refl
known_outcome (Err immutable_fault) = refl
known_outcome (Err overflow_fault) = refl
known_outcome (Err too_large_fault) = refl
known_outcome (Err not_number_fault) = refl
known_outcome (Err not_document_fault) = refl

known_read : (read : Result Write QueryFault) (before : Option Fields) → IsKnown (effect_read read before).1.error
known_read (Ok write) before = known_outcome (effect_of write before)
known_read (Err fault) before = refl

-- the outcome of an operation
pub known_effect : (operation : Operation) (before : Option Fields) → IsKnown (effect operation before).1.error
known_effect operation before = known_read (read_operation operation) before
