-- Rules for operands that were read before.
use Rattle.std.specs.Prelude.{List, [], ◌∷◌, drop, codes}
use Rattle.command_model.specs.Checks.{Verdict}
use Rattle.command_model.specs.Fields.{Rule, document_needed}
use Rattle.command_model.specs.Find.{find_rules}
use Rattle.command_model.specs.Aggregate.{aggregate_rules}
use Rattle.command_model.specs.Count.{count_rules}
use Rattle.command_model.specs.GetMore.{more_rules}
use Rattle.command_fields.specs.Words.{array_needed}

abbrev pub find_rules_held : (filter sort projection : Verdict) → List Rule
find_rules_held filter sort projection =
    record { name = codes "filter"; check = document_needed (λ ms. filter) }
    ∷ record { name = codes "sort"; check = document_needed (λ ms. sort) }
    ∷ record { name = codes "projection"; check = document_needed (λ ms. projection) }
    ∷ drop 3 find_rules

abbrev pub aggregate_rules_held : (pipeline : Verdict) → List Rule
aggregate_rules_held pipeline = record { name = codes "pipeline"; check = array_needed pipeline } ∷ drop 1 aggregate_rules

abbrev pub count_rules_held : (query : Verdict) → List Rule
count_rules_held query = record { name = codes "query"; check = document_needed (λ ms. query) } ∷ drop 1 count_rules

abbrev pub more_rules_held : (collection : Verdict) → List Rule
more_rules_held collection = record { name = codes "collection"; check = λ value. collection } ∷ drop 1 (more_rules [])
