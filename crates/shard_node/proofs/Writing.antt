-- The record of an entry that is served.
use Rattle.std.proofs.Common.{◌≡◌, ◌≢◌, ◌+◌, ℕ, List, [], ◌∷◌, ◌++◌, refl, sym, ap, subst, ◌∙◌, arith}
use Rattle.std.specs.Prelude.{Option, Some, None}
use Rattle.cluster_base.specs.declared.identity.RequestId.{RequestId}
use Rattle.cluster_base.specs.declared.identity.Stmt.{Stmt}
use Rattle.command_replies.specs.Kinds.{given_view}
use Rattle.command_replies.specs.declared.answer.ClientNumber.{ClientNumber}
use Rattle.node_model.specs.Outcomes.{Done, done_of, outcome_in, was_done}
use Rattle.node_model.specs.Service.{entry_for}
use Rattle.node_traits.specs.Exchanges.{number_for}
use Rattle.node_traits.specs.History.{Operation, Outcome, Entry, document_left, key_written}
use Rattle.node_traits.specs.Ids.{id_view}
use Rattle.node_traits.specs.Letters.{Statement}
use Rattle.node_traits.specs.Lists.{listed}
use Rattle.protocol_model.specs.Statements as protocol
use Rattle.statement_views.specs.Views as words
use Rattle.shard_records.specs.Records.{Record, entry_record, outcome_words, record_of}
use Rattle.shard_records.specs.RecordFormat.{spelled}
use Rattle.shard_records.specs.Readable.{IsReadable}
use Rattle.shard_records.specs.Sizes.{IsWritableKey}
use Rattle.shard_store.proofs.Seen.{number_is}
use Rattle.shard_store.specs.Outcomes.{outcome_view, done_view, statement_of}
use Rattle.shard_store.specs.Plans.{IsServed, served_again, served_new, left_for_later, made_by}
use Rattle.shard_store.specs.declared.outcome.EntryResult.{EntryResult}
use Rattle.shard_store.specs.declared.outcome.StatementOutcome.TheVariants.{WasDone}
use Rattle.shard_store.specs.declared.plan.EntryPlan.{EntryPlan}
use Rattle.shard_requests.specs.declared.answers.StatementResult.{StatementResult}
use Rattle.shard_node.proofs.UpsertedKeys.{short_key}
use Rattle.shard_requests.specs.EntryRecords.{entry_record_of}
use Rattle.shard_node.specs.Writes.{AreKept, IsStep}

done_parts : (s t : ℕ) (a b : Outcome) → was_done s a ≡ was_done t b → (s ≡ t) × (a ≡ b)
done_parts s t a b same = (cc, cc)

module _ (shard : ℕ) (namespace : List ℕ) (entries : List Entry) (time : ℕ) (s : Statement) where
  never_later : (t : ℕ) → t ≡ t + 1 → ⊥
  never_later t e = omega (arith, e)

  -- where no time was taken nothing was made
  pub kept_none : (o : Option Done) (more : List Entry) (after : ℕ) → IsServed shard namespace entries time s o more after → after ≡ time → AreKept more []
  kept_none o more after (served_again e seen) same = record { spelled = refl; readable = tt }
  kept_none o more after (served_new unseen) same = absurd (never_later time (sym same))
  kept_none o more after left_for_later same = record { spelled = refl; readable = tt }

  -- where one was, the key of the outcome is short
  pub told_short : (o : Option Done) (more : List Entry) (after : ℕ) (index : ℕ) (told : EntryResult) → IsServed shard namespace entries time s o more after → after ≢ time →
      o ≡ Some (done_view index (WasDone told)) → IsWritableKey (outcome_view told.outcome).upserted
  told_short o more after index told (served_again e seen) later is = absurd (later refl)
  told_short o more after index told left_for_later later is = absurd (later refl)
  told_short o more after index told (served_new unseen) later is =
      let same : done_of (entry_for entries (time + 1) shard namespace s) ≡ done_view index (WasDone told) = cc in
      short_key s.operation (document_left namespace (key_written s.operation) entries) (outcome_view told.outcome) (sym (ap (λ (d : Done). outcome_in d.answer) same))

  -- where one was, the entry has the outcome that was returned
  pub kept_one : (o : Option Done) (more : List Entry) (after : ℕ) (index : ℕ) (told : EntryResult) (statement : Stmt) (operation : Operation) (bytes : List ℕ) →
      IsServed shard namespace entries time s o more after → after ≢ time → o ≡ Some (done_view index (WasDone told)) → words.number_view statement ≡ s.number →
      s.operation ≡ operation → bytes ≡ spelled 1 (entry_record_of told namespace statement operation) → IsReadable (entry_record_of told namespace statement operation) →
      AreKept more (bytes ∷ [])
  kept_one o more after index told statement operation bytes (served_again e seen) later is number same_words spells readable = absurd (later refl)
  kept_one o more after index told statement operation bytes left_for_later later is number same_words spells readable = absurd (later refl)
  kept_one o more after index told statement operation bytes (served_new unseen) later is number same_words spells readable =
      let e = entry_for entries (time + 1) shard namespace s in
      let same : done_of e ≡ done_view index (WasDone told) = cc in
      let parts = done_parts e.time told.time.0 e.outcome (outcome_view told.outcome) (ap (λ (d : Done). d.answer) same) in
      let r : record_of e ≡ entry_record_of told namespace statement operation =
      λ i. entry_record (record {
        time = parts.0 i;
        namespace = namespace;
        number = sym number i;
        operation = same_words i;
        outcome = outcome_words (parts.1 i);
      }) in
      record {
        spelled = ap (λ (b : List ℕ). b ∷ []) (spells ∙ ap (λ (x : Record). spelled 1 x) (sym r));
        readable = (subst (λ (x : Record). IsReadable x) (sym r) readable, tt);
      }

-- the number of a statement of a request
own_number : (given : Option ClientNumber) (id : RequestId) (index : ℕ) (statement : Stmt) → statement ≡ statement_of given id index →
    words.number_view statement ≡ number_for (given_view given) (id_view id) index
own_number given id index statement is = ap (λ (x : Stmt). words.number_view x) is ∙ number_is given id index

-- a statement that takes no time makes none
pub step_old : (store shard : ℕ) (namespace : List ℕ) (entries : List Entry) (plan plan_then : EntryPlan) (time after : ℕ) (t s : Statement) (o : Option Done) (d : Done)
    (served : StatementResult) → store ≡ shard
    → ((more : List Entry) × (made_by store namespace plan_then ≡ made_by store namespace plan ++ more) × IsServed store namespace (entries ++ made_by store namespace plan) time t o more after)
    → t ≡ s → o ≡ Some d → protocol.done_view served.done ≡ d → after ≡ time → served.record ≡ None
    → IsStep shard namespace entries (made_by shard namespace plan) time s (Some served) (made_by shard namespace plan_then) after
step_old store shard namespace entries plan plan_then time after t s o d served own served_there same is done still unwritten =
    let served_is = subst
    (λ (n : ℕ). (more : List Entry) × (made_by n namespace plan_then ≡ made_by n namespace plan ++ more) × IsServed n namespace (entries ++ made_by n namespace plan) time t o more after)
    own served_there in
    let serving : IsServed shard namespace (entries ++ made_by shard namespace plan) time s o served_is.0 after =
    subst (λ (x : Statement). IsServed shard namespace (entries ++ made_by shard namespace plan) time x o served_is.0 after) same served_is.2 in
    record {
      more = served_is.0;
      grown = served_is.1;
      served_is = subst (λ (x : Option Done). IsServed shard namespace (entries ++ made_by shard namespace plan) time s x served_is.0 after) (is ∙ ap (λ (x : Done). Some x) (sym done)) serving;
      kept = subst (λ (x : Option (List ℕ)). AreKept served_is.0 (listed x)) (sym unwritten)
          (kept_none shard namespace (entries ++ made_by shard namespace plan) time s o served_is.0 after serving still);
    }

-- a statement that takes a time makes an entry, with its record
pub step_new : (store shard : ℕ) (namespace : List ℕ) (entries : List Entry) (plan plan_then : EntryPlan) (time after : ℕ) (t s : Statement) (o : Option Done) (given : Option ClientNumber) (id : RequestId)
    (index : ℕ) (told : EntryResult) (statement : Stmt) (operation : Operation) (served : StatementResult) (bytes : List ℕ) → store ≡ shard
    → ((more : List Entry) × (made_by store namespace plan_then ≡ made_by store namespace plan ++ more) × IsServed store namespace (entries ++ made_by store namespace plan) time t o more after)
    → t ≡ s → o ≡ Some (done_view index (WasDone told)) → protocol.done_view served.done ≡ done_view index (WasDone told) → after ≢ time → statement ≡ statement_of given id index
    → number_for (given_view given) (id_view id) index ≡ s.number → s.operation ≡ operation
    → bytes ≡ spelled 1 (entry_record_of told namespace statement operation) → IsReadable (entry_record_of told namespace statement operation) → served.record ≡ Some bytes
    → IsStep shard namespace entries (made_by shard namespace plan) time s (Some served) (made_by shard namespace plan_then) after
step_new store shard namespace entries plan plan_then time after t s o given id index told statement operation served bytes own served_there same is done later number numbered same_words spells readable written =
    let served_is = subst
    (λ (n : ℕ). (more : List Entry) × (made_by n namespace plan_then ≡ made_by n namespace plan ++ more) × IsServed n namespace (entries ++ made_by n namespace plan) time t o more after)
    own served_there in
    let serving : IsServed shard namespace (entries ++ made_by shard namespace plan) time s o served_is.0 after =
    subst (λ (x : Statement). IsServed shard namespace (entries ++ made_by shard namespace plan) time x o served_is.0 after) same served_is.2 in
    record {
      more = served_is.0;
      grown = served_is.1;
      served_is = subst (λ (x : Option Done). IsServed shard namespace (entries ++ made_by shard namespace plan) time s x served_is.0 after) (is ∙ ap (λ (d : Done). Some d) (sym done)) serving;
      kept = subst (λ (x : Option (List ℕ)). AreKept served_is.0 (listed x)) (sym written)
          (kept_one shard namespace (entries ++ made_by shard namespace plan) time s o served_is.0 after index told statement operation bytes serving later is
          (own_number given id index statement number ∙ numbered) same_words spells readable);
    }
