-- What contracts see of a recipient's part: which move and range it is, and the number of the last batch that was applied.
use Rattle.std.specs.Prelude.{ℕ}
use Rattle.cluster_base.specs.declared.identity.RequestId.{RequestId}
use Rattle.value_compare.specs.Keys.{Range}
use Rattle.move_model.specs.Recipients as recipients
use Rattle.move_model.specs.Recipients.{next_fit, known_fit, strange_fit}
use Rattle.migration_recipient.specs.declared.taking.Fit.{Fit}
use Rattle.migration_recipient.specs.declared.taking.Fit.TheVariants.{Next, Known, Strange}
use Rattle.migration_recipient.specs.declared.taking.Taking.{Taking}

abbrev pub id_of : Taking → RequestId
id_of t = t.id

abbrev pub range_of : Taking → Range
range_of t = t.range

-- 0 before the first
abbrev pub applied_of : Taking → ℕ
applied_of t = t.applied

abbrev pub fit_view : Fit → recipients.Fit
fit_view Next = next_fit
fit_view Known = known_fit
fit_view Strange = strange_fit
