-- The key is there, in other bits, from its time on.
use Rattle.std.proofs.Common.{◌≡◌, [], ◌∷◌, refl, arith}
use Rattle.std.specs.Prelude.{None, Some}
use Rattle.command_laws.specs.SampleRequests.{five, long_five, six, with_id}
use Rattle.base_model.specs.Times.{timestamp}
use Rattle.history_model.proofs.Lists.{in_none}
use Rattle.reply_model.specs.Reads.{named_time, own_time}
use Rattle.reply_model.specs.Right.{find_reads, refused_ahead, right_refused_read}
use Rattle.reply_laws.specs.SampleExchanges.{both_entries, find_of, finding, is_shown, third, third_told}
use Rattle.reply_laws.proofs.KeyFinds.{key_find_right, tells_key}
use Rattle.reply_laws.proofs.examples.found.Goals as goal

pub returns-clause-right : goal.returns-clause-right
returns-clause-right c = key_find_right both_entries third third_told long_five None (timestamp 1000 2) (with_id five ∷ []) refl (own_time refl tt) refl
    (omega arith) refl refl

pub returns-clause-wrong : goal.returns-clause-wrong
returns-clause-wrong c next right =
    let e : with_id five ∷ [] ≡ [] = (tells_key both_entries third (is_shown long_five None [] 2) next long_five None []
    (timestamp 1000 2) right refl refl refl refl).documents_are in cc

pub returns-clause-other_key : goal.returns-clause-other_key
returns-clause-other_key c =
    key_find_right both_entries (finding six None) (is_shown six None [] 2) six None (timestamp 1000 2) [] refl (own_time refl tt) refl (omega arith) refl refl

pub returns-clause-right_before : goal.returns-clause-right_before
returns-clause-right_before c =
    key_find_right both_entries (finding five (Some (timestamp 1000 1))) (is_shown five (Some (timestamp 1000 1)) [] 1) five (Some (timestamp 1000 1))
    (timestamp 1000 1) [] refl
    (named_time (timestamp 1000 1) refl (omega arith)) refl (omega arith) refl refl

pub returns-clause-wrong_before : goal.returns-clause-wrong_before
returns-clause-wrong_before c next right =
    let e : [] ≡ with_id five ∷ [] =
    (tells_key both_entries (finding five (Some (timestamp 1000 1))) (is_shown five (Some (timestamp 1000 1)) (with_id five ∷ []) 1) next five
    (Some (timestamp 1000 1)) (with_id five ∷ [])
    (timestamp 1000 1) right refl refl refl refl).documents_are in cc

pub returns-clause-right_ahead : goal.returns-clause-right_ahead
returns-clause-right_ahead c =
    right_refused_read (find_of five (Some (timestamp 1000 3))).reading (find_reads (find_of five (Some (timestamp 1000 3))))
    (refused_ahead (record {
      wanted = timestamp 1000 3;
      wants = refl;
      ahead = omega arith;
      of_all = λ s write index e i before asks j numbered shows nothing. absurd (in_none s i);
    }) refl)
