-- What statements do, from the words of their writes.
use Rattle.std.proofs.Common.{◌≡◌, ◌<◌, ◌≤◌, ℕ, List, refl, sym, ap, subst, ◌∙◌, arith, length}
use Rattle.std.specs.Prelude.{Bool, true, false, Option, Some, None, Result, Ok, Err, IfOk, is_some, if◌then◌else◌}
use Rattle.std.specs.Option.{option_map}
use Rattle.bson_values.specs.Tree.{Datum, Fields}
use Rattle.bson_values.specs.Spelling.{written}
use Rattle.bson_model.specs.Limits.{most_bytes_kept}
use Rattle.value_compare.specs.declared.words.OpWords.{OpWords}
use Rattle.value_compare.specs.declared.words.OpWords.TheVariants as words
use Rattle.command_model.specs.MessageSizes.{IsSmall}
use Rattle.query_model.proofs.Sizes.{not_large, too_long}
use Rattle.query_model.specs.Queries.{QueryFault}
use Rattle.query_model.specs.Changes.{Change}
use Rattle.query_model.specs.Edits as edits
use Rattle.query_model.specs.Edits.{◌>>=◌, duplicate_fault, too_large_fault, is_too_large, changed}
use Rattle.query_model.specs.Holds.{holds}
use Rattle.query_model.specs.Writes.{Write, insert_write, update_write, delete_write}
use Rattle.query_model.specs.Effects.{Effect, inserted, unmet, updated, upserted_with, deleted, not_met, effect_of, left_by, write_key}
use Rattle.node_model.specs.Errors.{duplicate_key, object_too_large}
use Rattle.node_model.specs.History.{Operation, Entry, done, document_left, effect_read, error_of, fails_with, key_read, outcome_of, read_operation}
use Rattle.update_ops.specs.ApplyFaults.{Fails}
use Rattle.update_ops.specs.Ops.{effect_shown, read_words}
use Rattle.update_ops.specs.declared.effect.Applied.{Applied}
use Rattle.update_ops.specs.declared.fault.ApplyFault.{ApplyFault}
use Rattle.statement_views.specs.Views.{operation_view}
use Rattle.shard_store.specs.Effects.{Does}
use Rattle.shard_store.specs.Entries.{left_behind}
use Rattle.shard_store.specs.Faults.{IsFault, applied_as, error_view}
use Rattle.shard_store.specs.Outcomes.{outcome_view}
use Rattle.shard_store.specs.Plans.{IsEffect}
use Rattle.shard_store.specs.declared.effect.Effect as program
use Rattle.shard_store.specs.declared.entry.Left.{Left}
use Rattle.shard_store.specs.declared.entry.Left.TheVariants.{Same}
use Rattle.shard_store.specs.declared.fault.WriteFault.{WriteFault}
use Rattle.shard_store.specs.declared.fault.WriteFault.TheVariants.{Duplicate, Immutable, Overflow, TooLarge, NotNumber, NotDocument}
use Rattle.shard_store.specs.declared.outcome.EntryOutcome.{EntryOutcome}

-- words read as their operation does
pub read_same : (w : OpWords) → read_words w ≡ read_operation (operation_view w)
read_same (words.Insert document) = refl
read_same (words.Update filter change upsert) = refl
read_same (words.Delete filter) = refl

-- what a write does its operation does
effect_from : (entries : List Entry) (namespace : List ℕ) (operation : Operation) (write : Write) (key : Datum) (left : Left) (outcome : EntryOutcome) →
    read_operation operation ≡ Ok write → write_key write ≡ Some key → Does write (document_left namespace (Some key) entries) left outcome →
    IsEffect entries namespace operation key left outcome
effect_from entries namespace operation write key left outcome reads under does = record {
  under = ap (λ (r : Result Write QueryFault). key_read r) reads ∙ under;
  leaves = does.leaves ∙ ap (λ (r : Result Write QueryFault). (effect_read r (document_left namespace (Some key) entries)).0) (sym reads);
  told = does.told ∙ ap (λ (r : Result Write QueryFault). (effect_read r (document_left namespace (Some key) entries)).1) (sym reads);
}

-- the same of what was returned
pub ok_effect : {E : Type 0} (entries : List Entry) (namespace : List ℕ) (operation : Operation) (write : Write) (key : Datum) (r : Result program.Effect E) →
    read_operation operation ≡ Ok write → write_key write ≡ Some key → IfOk r (λ e. e.key ≡ key) →
    IfOk r (λ e. Does write (document_left namespace (Some key) entries) e.left e.outcome) → IfOk r (λ e. IsEffect entries namespace operation e.key e.left e.outcome)
ok_effect entries namespace operation write key (Ok e) reads under same does =
    subst (λ (k : Datum). IsEffect entries namespace operation k e.left e.outcome) (sym same)
    (effect_from entries namespace operation write key e.left e.outcome reads under does)
ok_effect entries namespace operation write key (Err fault) reads under same does = tt

pub some_mapped : {A B : Type 0} (f : A → B) (o : Option A) (p : Option B) → option_map f o ≡ p → is_some o ≡ is_some p
some_mapped f None p e = ap (λ x. is_some x) e
some_mapped f (Some a) p e = ap (λ x. is_some x) e

-- WHERE NOTHING MATCHES, THE DOCUMENT IS UNCHANGED

makes_one : (made : Result Fields edits.WriteFault) (make : Fields → Effect) (e : Effect) → ((after : Fields) → (make after).count ≡ 1) →
    (made >>= λ after. Ok (make after)) ≡ Ok e → e.count ≡ 0 → ⊥
makes_one (Ok after) make e one is none =
    let same : make after ≡ e = cc in
    let never : (make after).count ≡ 0 = ap (λ (x : Effect). x.count) same ∙ none in
    omega (arith, one after, never)
makes_one (Err fault) make e one is none = cc

put_one : (document : Fields) (large : Bool) (e : Effect) → (if large then Err too_large_fault else Ok (inserted document)) ≡ Ok e → e.count ≡ 0 → ⊥
put_one document true e is none = cc
put_one document false e is none =
    let same : inserted document ≡ e = cc in
    let never : (inserted document).count ≡ 0 = ap (λ (x : Effect). x.count) same ∙ none in
    omega (arith, never)

unmet_is : (before : Option Fields) (e : Effect) → Path (Result Effect edits.WriteFault) (Ok (unmet before)) (Ok e) → e.after ≡ before
unmet_is before e is = let same : unmet before ≡ e = cc in sym (ap (λ (x : Effect). x.after) same)

update_stays : (change : Change) (start : Option Fields) (before : Fields) (met : Bool) (e : Effect) →
    (if met then (changed change before >>= λ after. Ok (updated before after)) else not_met start before) ≡ Ok e → e.count ≡ 0 → e.after ≡ Some before
update_stays change start before true e is none = absurd (makes_one (changed change before) (λ after. updated before after) e (λ after. refl) is none)
update_stays change None before false e is none = unmet_is (Some before) e is
update_stays change (Some start) before false e is none = absurd cc

delete_stays : (before : Fields) (met : Bool) (e : Effect) → Path (Result Effect edits.WriteFault) (Ok (if met then deleted else unmet (Some before))) (Ok e) → e.count ≡ 0 →
    e.after ≡ Some before
delete_stays before true e is none =
    let same : deleted ≡ e = cc in
    let never : deleted.count ≡ 0 = ap (λ (x : Effect). x.count) same ∙ none in
    absurd (omega (arith, never))
delete_stays before false e is none = unmet_is (Some before) e is

pub unmet_stays : (write : Write) (before : Option Fields) (e : Effect) → effect_of write before ≡ Ok e → e.count ≡ 0 → e.after ≡ before
unmet_stays (insert_write document) None e is none = absurd (put_one document (is_too_large document) e is none)
unmet_stays (insert_write document) (Some before) e is none = absurd cc
unmet_stays (update_write asked change start) (Some before) e is none = update_stays change start before (holds asked before) e is none
unmet_stays (update_write asked change None) None e is none = unmet_is None e is
unmet_stays (update_write asked change (Some start)) None e is none = absurd (makes_one (changed change start) (λ after. upserted_with after) e (λ after. refl) is none)
unmet_stays (delete_write asked) (Some before) e is none = delete_stays before (holds asked before) e is none
unmet_stays (delete_write asked) None e is none = unmet_is None e is

-- WHAT IS DONE AND REFUSED

pub done_does : (write : Write) (before : Option Fields) (a : Applied) (left : Left) (outcome : EntryOutcome) → effect_of write before ≡ Ok (effect_shown a) →
    left_behind left before ≡ a.after →
    outcome_view outcome ≡ record { count = a.reply.n; modified = a.reply.modified; upserted = a.reply.upserted; error = None } → Does write before left outcome
done_does write before a left outcome made after told = record {
  leaves = after ∙ ap (λ (r : Result Effect edits.WriteFault). left_by before r) (sym made);
  told = told ∙ ap (λ (r : Result Effect edits.WriteFault). outcome_of r) (sym made);
}

-- the fault of a write is that of the definitions
record IsToldAs (fault : WriteFault) (made : Result Effect edits.WriteFault) : Type 0 where
  pub error : edits.WriteFault
  pub made_is : made ≡ Err error
  pub same : error_view fault ≡ error_of error

told_as : (fault : WriteFault) (made : Result Effect edits.WriteFault) → Fails (applied_as fault) made → IsToldAs fault made
told_as Duplicate made is = record { error = duplicate_fault; made_is = is; same = refl }
told_as Immutable made is = record { error = edits.immutable_fault; made_is = is; same = refl }
told_as Overflow made is = record { error = edits.overflow_fault; made_is = is; same = refl }
told_as TooLarge made is = record { error = too_large_fault; made_is = is; same = refl }
told_as NotNumber made is = record { error = edits.not_number_fault; made_is = is; same = refl }
told_as NotDocument made is = record { error = edits.not_document_fault; made_is = is; same = refl }

pub refused_does : (write : Write) (before : Option Fields) (error : edits.WriteFault) (left : Left) (outcome : EntryOutcome) → effect_of write before ≡ Err error → left ≡ Same →
    outcome_view outcome ≡ fails_with (error_of error) → Does write before left outcome
refused_does write before error left outcome made same told = record {
  leaves = ap (λ (l : Left). left_behind l before) same ∙ ap (λ (r : Result Effect edits.WriteFault). left_by before r) (sym made);
  told = told ∙ ap (λ (r : Result Effect edits.WriteFault). outcome_of r) (sym made);
}

pub fault_does : (write : Write) (before : Option Fields) (fault : WriteFault) (was : ApplyFault) (left : Left) (outcome : EntryOutcome) → Fails was (effect_of write before) →
    IsFault fault was → left ≡ Same → outcome_view outcome ≡ fails_with (error_view fault) → Does write before left outcome
fault_does write before fault was left outcome fails is same told =
    let as_told = told_as fault (effect_of write before) (subst (λ (f : ApplyFault). Fails f (effect_of write before)) is fails) in
    refused_does write before as_told.error left outcome as_told.made_is same (told ∙ ap (λ e. fails_with e) as_told.same)

-- INSERTS

pub insert_stands : (document : Fields) (before : Option Fields) (left : Left) (outcome : EntryOutcome) → true ≡ is_some before → left ≡ Same →
    outcome_view outcome ≡ fails_with duplicate_key → Does (insert_write document) before left outcome
insert_stands document None left outcome stands same told = absurd cc
insert_stands document (Some before) left outcome stands same told =
    refused_does (insert_write document) (Some before) duplicate_fault left outcome refl same told

insert_sized : (document : Fields) (before : Option Fields) (large : Bool) → false ≡ is_some before → is_too_large document ≡ large →
    effect_of (insert_write document) before ≡ (if large then Err too_large_fault else Ok (inserted document))
insert_sized document None large none sized = ap (λ (b : Bool). if b then Err too_large_fault else Ok (inserted document)) sized
insert_sized document (Some before) large none sized = absurd cc

pub insert_large : (document : Fields) (before : Option Fields) (left : Left) (outcome : EntryOutcome) → false ≡ is_some before →
    most_bytes_kept < length (written document) → left ≡ Same → outcome_view outcome ≡ fails_with object_too_large → Does (insert_write document) before left outcome
insert_large document before left outcome none long same told =
    refused_does (insert_write document) before too_large_fault left outcome (insert_sized document before true none (too_long document long)) same told

pub insert_puts : (document : Fields) (before : Option Fields) (left : Left) (outcome : EntryOutcome) → false ≡ is_some before →
    IsSmall document → length (written document) ≤ most_bytes_kept → left_behind left before ≡ Some document → outcome_view outcome ≡ done →
    Does (insert_write document) before left outcome
insert_puts document before left outcome none small short put told =
    let made : effect_of (insert_write document) before ≡ Ok (inserted document) = insert_sized document before false none (not_large document short small.0) in
    record {
      leaves = put ∙ ap (λ (r : Result Effect edits.WriteFault). left_by before r) (sym made);
      told = told ∙ ap (λ (r : Result Effect edits.WriteFault). outcome_of r) (sym made);
    }
