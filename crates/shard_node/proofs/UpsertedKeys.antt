-- The key that an upsert inserts is in a document that is stored, so it is short.
use Rattle.std.proofs.Common.{◌≡◌, ◌≤◌, length, refl, sym, ap, subst, ◌∙◌, arith}
use Rattle.std.specs.Prelude.{Bool, true, false, ◌||◌, Option, Some, None, Result, Ok, Err, codes, if◌then◌else◌}
use Rattle.std.proofs.lemmas.Bool.{ltb-false}
use Rattle.bson_values.specs.Tree.{Datum, Fields, no_fields, document_depth}
use Rattle.bson_values.specs.Spelling.{written, written_fields}
use Rattle.bson_model.specs.Limits.{IsWritable, most_bytes_kept, most_depth_kept}
use Rattle.bson_model.proofs.Lengths.{length-field, length-framed}
use Rattle.value_model.specs.Keys.{key_of}
use Rattle.query_model.specs.Changes.{Change}
use Rattle.query_model.specs.Edits.{WriteFault, too_large_fault, ◌>>=◌, is_too_large, changed, changed_by}
use Rattle.query_model.specs.Holds.{holds}
use Rattle.query_model.specs.Queries.{QueryFault}
use Rattle.query_model.specs.Writes.{Write, insert_write, update_write, delete_write}
use Rattle.query_model.specs.Effects.{inserted, unmet, updated, upserted_with, deleted, not_met, effect_of}
use Rattle.command_model.proofs.Inside.{got_inside}
use Rattle.shard_records.specs.RecordFormat.{key_document}
use Rattle.shard_records.specs.Sizes.{IsWritableKey}
use Rattle.node_traits.specs.History.{Operation, Outcome, effect, effect_read, outcome_of, read_operation}

both_false : (a b : Bool) → (a || b) ≡ false → (a ≡ false) × (b ≡ false)
both_false true b e = absurd cc
both_false false b e = (refl, e)

-- a key inside a document that is not too large
kept_key : (document : Fields) (key : Datum) → key_of document ≡ Some key → is_too_large document ≡ false → IsWritable (key_document key)
kept_key document key found small =
    let parts = both_false _ _ small in
    let short : length (written document) ≤ most_bytes_kept = ltb-false most_bytes_kept (length (written document)) parts.0 in
    let low : document_depth document ≤ most_depth_kept = ltb-false most_depth_kept (document_depth document) parts.1 in
    let there = got_inside (codes "_id") document key found in (
      omega (arith, low, there.0),
      omega (arith, short, there.1, length-field (codes "_id") key no_fields, length-framed (written_fields (key_document key)), length-framed (written_fields document)),
    )

judged : (made after : Fields) (large : Bool) → is_too_large made ≡ large → (if large then Err too_large_fault else Ok made) ≡ Ok after → is_too_large after ≡ false
judged made after true is e = absurd cc
judged made after false is e = let same : made ≡ after = cc in ap (λ (x : Fields). is_too_large x) (sym same) ∙ is

-- what a change makes is not too large
small_made : (made : Result Fields WriteFault) (after : Fields) → (made >>= λ x. if is_too_large x then Err too_large_fault else Ok x) ≡ Ok after → is_too_large after ≡ false
small_made (Ok made) after e = judged made after (is_too_large made) refl e
small_made (Err fault) after e = absurd cc

begun_short : (change : Change) (start : Fields) (made : Result Fields WriteFault) → changed change start ≡ made →
    IsWritableKey (outcome_of (made >>= λ after. Ok (upserted_with after))).upserted
begun_short change start (Err fault) is = tt
begun_short change start (Ok after) is = by_key (key_of after) refl
  where
    by_key : (found : Option Datum) → key_of after ≡ found → IsWritableKey found
    by_key None there = tt
    by_key (Some key) there = kept_key after key there (small_made (changed_by change start) after is)

met_short : (change : Change) (start : Option Fields) (before : Fields) (met : Bool) (made : Result Fields WriteFault) →
    IsWritableKey (outcome_of (if met then (made >>= λ after. Ok (updated before after)) else not_met start before)).upserted
met_short change start before true (Ok after) = tt
met_short change start before true (Err fault) = tt
met_short change None before false made = tt
met_short change (Some start) before false made = tt

put_short : (document : Fields) (large : Bool) → IsWritableKey (outcome_of (if large then Err too_large_fault else Ok (inserted document))).upserted
put_short document true = tt
put_short document false = tt

taken_short : (before : Fields) (met : Bool) → IsWritableKey (outcome_of (Ok (if met then deleted else unmet (Some before)))).upserted
taken_short before true = tt
taken_short before false = tt

write_short : (write : Write) (before : Option Fields) → IsWritableKey (outcome_of (effect_of write before)).upserted
write_short (insert_write document) None = put_short document (is_too_large document)
write_short (insert_write document) (Some before) = tt
write_short (update_write asked change start) (Some before) = met_short change start before (holds asked before) (changed change before)
write_short (update_write asked change None) None = tt
write_short (update_write asked change (Some start)) None = begun_short change start (changed change start) refl
write_short (delete_write asked) (Some before) = taken_short before (holds asked before)
write_short (delete_write asked) None = tt

read_short : (read : Result Write QueryFault) (before : Option Fields) → IsWritableKey (effect_read read before).1.upserted
read_short (Ok write) before = write_short write before
read_short (Err fault) before = tt

pub short_key : (operation : Operation) (before : Option Fields) (told : Outcome) → told ≡ (effect operation before).1 → IsWritableKey told.upserted
short_key operation before told is = subst (λ (o : Outcome). IsWritableKey o.upserted) (sym is) (read_short (read_operation operation) before)
