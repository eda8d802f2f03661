-- Faults and the numbers of their errors.
use Rattle.std.proofs.Common.{◌≡◌, refl, ap, ◌∙◌}
use Rattle.std.specs.Prelude.{Option, Some, None}
use Rattle.std.specs.Option.{option_map}
use Rattle.value_compare.specs.declared.words.Reply.{Reply}
use Rattle.node_model.specs.History.{Outcome}
use Rattle.shard_store.specs.Faults.{code_told, error_view, fault_told}
use Rattle.shard_store.specs.Outcomes.{outcome_view, reply_view}
use Rattle.shard_store.specs.declared.outcome.EntryOutcome.{EntryOutcome}
use Rattle.shard_store.specs.declared.fault.WriteFault.{WriteFault}
use Rattle.shard_store.specs.declared.fault.WriteFault.TheVariants.{Duplicate, Immutable, Overflow, TooLarge, NotNumber, NotDocument}

-- a number determines its fault
pub told_back : (fault : Option WriteFault) → fault_told (code_told fault) ≡ fault
told_back None = refl
told_back (Some Duplicate) = refl
told_back (Some Immutable) = refl
told_back (Some Overflow) = refl
told_back (Some TooLarge) = refl
told_back (Some NotNumber) = refl
told_back (Some NotDocument) = refl

abbrev as_outcome : Reply → Option WriteFault → Outcome
as_outcome r fault = record { count = r.n; modified = r.modified; upserted = r.upserted; error = option_map error_view fault }

-- a reply has the outcome that it was made of
pub reply_back : (o : EntryOutcome) (r : Reply) (told : Outcome) → r ≡ reply_view (outcome_view o) →
    told ≡ record { count = r.n; modified = r.modified; upserted = r.upserted; error = option_map error_view (fault_told r.code) } →
    told ≡ outcome_view o
reply_back o r told is e =
    e
    ∙ ap (λ (x : Reply). as_outcome x (fault_told x.code)) is
    ∙ ap (λ (f : Option WriteFault). as_outcome (reply_view (outcome_view o)) f) (told_back o.fault)
