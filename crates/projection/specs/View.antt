-- The rules of the program as plain data.
use Rattle.std.specs.Prelude.{List, map, filter_map, Bool, Option, option_and_then}
use Rattle.bson_model.specs.Tree.{Items, document_value}
use Rattle.query_model.specs.Paths.{Path, as_document, elements}
use Rattle.pipeline_model.specs.Operands.{items_of, value_from}
use Rattle.pipeline_model.specs.Projections as model
use Rattle.pipeline_model.specs.Projections.{include_it, exclude_it, compute_it, includes, excludes, computes}
use Rattle.projection.specs.declared.rules.Kind.{Kind}
use Rattle.projection.specs.declared.rules.Kind.TheVariants as kinds
use Rattle.projection.specs.declared.rules.NameRule.{NameRule}
use Rattle.projection.specs.declared.rules.Treatment.{Treatment}
use Rattle.projection.specs.declared.rules.Treatment.TheVariants.{Include, Exclude, Compute}

abbrev pub treatment_of : Treatment → model.Treatment
treatment_of Include = include_it
treatment_of Exclude = exclude_it
treatment_of (Compute path) = compute_it path

abbrev pub rule_of : NameRule → model.NameRule
rule_of rule = record { name = rule.name; treatment = treatment_of rule.treatment }

abbrev pub rules_of : List NameRule → List model.NameRule
rules_of rules = map rule_of rules

abbrev pub has_kind : Kind → model.Treatment → Bool
has_kind kinds.Include = includes
has_kind kinds.Exclude = excludes
has_kind kinds.Compute = computes

-- the values at what is left of a path in those elements that are documents and have one
abbrev pub values_in : Path → Items → Items
values_in path ds = items_of (filter_map (λ ms. value_from path (document_value ms)) (filter_map as_document (elements ds)))
