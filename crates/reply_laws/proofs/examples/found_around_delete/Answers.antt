-- The document is there up to the time of the delete.
use Rattle.std.proofs.Common.{◌≡◌, [], ◌∷◌, refl, arith}
use Rattle.std.specs.Prelude.{None, Some}
use Rattle.command_laws.specs.SampleRequests.{five, with_id}
use Rattle.base_model.specs.Times.{timestamp}
use Rattle.reply_model.specs.Reads.{named_time, own_time}
use Rattle.reply_laws.specs.SampleExchanges.{changed_five, finding_later, is_shown_later, three_writes}
use Rattle.reply_laws.proofs.KeyFinds.{key_find_right, tells_key}
use Rattle.reply_laws.proofs.examples.found_around_delete.Goals as goal

pub returns-clause-before : goal.returns-clause-before
returns-clause-before c =
    key_find_right three_writes (finding_later (Some (timestamp 1000 3))) (is_shown_later (Some (timestamp 1000 3)) (changed_five ∷ []) 3) five
    (Some (timestamp 1000 3)) (timestamp 1000 3)
    (changed_five ∷ []) refl (named_time (timestamp 1000 3) refl (omega arith)) refl (omega arith) refl refl

pub returns-clause-at : goal.returns-clause-at
returns-clause-at c =
    key_find_right three_writes (finding_later (Some (timestamp 1000 4))) (is_shown_later (Some (timestamp 1000 4)) [] 4) five (Some (timestamp 1000 4))
    (timestamp 1000 4)
    [] refl (named_time (timestamp 1000 4) refl (omega arith)) refl (omega arith) refl refl

pub returns-clause-after : goal.returns-clause-after
returns-clause-after c = key_find_right three_writes (finding_later None) (is_shown_later None [] 5) five None (timestamp 1000 5) [] refl
    (own_time refl tt) refl (omega arith) refl refl

pub returns-clause-unchanged : goal.returns-clause-unchanged
returns-clause-unchanged c next right =
    let e : changed_five ∷ [] ≡ with_id five ∷ [] =
    (tells_key three_writes (finding_later (Some (timestamp 1000 3))) (is_shown_later (Some (timestamp 1000 3)) (with_id five ∷ []) 3) next five
    (Some (timestamp 1000 3)) (with_id five ∷ [])
    (timestamp 1000 3) right refl refl refl refl).documents_are in cc

pub returns-clause-gone_early : goal.returns-clause-gone_early
returns-clause-gone_early c next right =
    let e : changed_five ∷ [] ≡ [] =
    (tells_key three_writes (finding_later (Some (timestamp 1000 3))) (is_shown_later (Some (timestamp 1000 3)) [] 3) next five (Some (timestamp 1000 3)) []
    (timestamp 1000 3) right refl refl refl refl).documents_are in cc

pub returns-clause-still_there : goal.returns-clause-still_there
returns-clause-still_there c next right =
    let e : [] ≡ changed_five ∷ [] =
    (tells_key three_writes (finding_later (Some (timestamp 1000 4))) (is_shown_later (Some (timestamp 1000 4)) (changed_five ∷ []) 4) next five
    (Some (timestamp 1000 4)) (changed_five ∷ [])
    (timestamp 1000 4) right refl refl refl refl).documents_are in cc

pub returns-clause-back_again : goal.returns-clause-back_again
returns-clause-back_again c next right =
    let e : [] ≡ changed_five ∷ [] =
    (tells_key three_writes (finding_later None) (is_shown_later None (changed_five ∷ []) 5) next five None (changed_five ∷ [])
    (timestamp 1000 5) right refl refl refl refl).documents_are in cc
