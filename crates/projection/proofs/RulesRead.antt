-- Reading rules one after the other.
use Rattle.std.proofs.Common.{◌≡◌, ◌≢◌, ℕ, List, [], ◌∷◌, length, Result, Ok, Err, refl, sym, ap, ◌∙◌, arith, ne_eqb}
use Rattle.std.specs.Prelude.{None}
use Rattle.std.specs.Result.{result_map_both}
use Rattle.bson_model.specs.Tree.{Datum, string_value, Fields, no_fields, field}
use Rattle.field_paths.proofs.FieldLists.{read_each}
use Rattle.query_model.specs.Paths.{Path, PathFault, read_path}
use Rattle.query_model.specs.Queries.{QueryFault, bad_operand, path_fault}
use Rattle.query_model.specs.Reading.{◌>>=◌}
use Rattle.query_model.proofs.Names.{name_of_path}
use Rattle.pipeline_model.specs.Operands.{named_path, read_name}
use Rattle.pipeline_model.specs.Projections.{Treatment, NameRule, Projection, one_part, read_treatment, read_rules}
use Rattle.projection.specs.RuleReading.{read_rule}

-- a rule, and those after it
abbrev ruled : List ℕ → Treatment → NameRule
ruled part treatment = record { name = part; treatment = treatment }

grouped : (path : Result Path QueryFault) (treatment : Result Treatment QueryFault) (others : Result Projection QueryFault) →
    ((path >>= λ p. one_part p >>= λ part. treatment >>= λ t. Ok (ruled part t)) >>= λ first. others >>= λ more. Ok (first ∷ more))
    ≡ (path >>= λ p. one_part p >>= λ part. treatment >>= λ t. others >>= λ more. Ok (ruled part t ∷ more))
grouped (Err e) treatment others = refl
grouped (Ok []) treatment others = refl
grouped (Ok (part ∷ next ∷ parts)) treatment others = refl
grouped (Ok (part ∷ [])) (Err e) others = refl
grouped (Ok (part ∷ [])) (Ok t) others = refl

pub rules_each : (ms : Fields) → read_each read_rule ms ≡ read_rules ms
rules_each no_fields = refl
rules_each (field name d ms) =
    grouped (read_name name) (read_treatment d) (read_each read_rule ms)
    ∙ ap (λ (others : Result Projection QueryFault). read_name name >>= λ p. one_part p >>= λ part. read_treatment d >>= λ t. others >>= λ more. Ok (ruled part t ∷ more)) (rules_each ms)

-- a path of one part is its name
pub one_part_is : (name : List ℕ) (path : Path) → read_path name ≡ Ok path → length path ≡ 1 → one_part path ≡ Ok name
one_part_is name [] e h = absurd (omega arith)
one_part_is name (part ∷ []) e h = ap (λ (x : List ℕ). Ok x) (name_of_path name (part ∷ []) e)
one_part_is name (part ∷ next ∷ parts) e h = absurd (omega arith)

pub more_parts : (path : Path) → length path ≢ 1 → one_part path ≡ Err bad_operand
more_parts [] h = refl
more_parts (part ∷ []) h = absurd (h refl)
more_parts (part ∷ next ∷ parts) h = refl

plain : (read : Result Path PathFault) (path : Path) → result_map_both (λ p. p) path_fault read ≡ Ok path → read ≡ Ok path
plain (Ok p) path h = cc
plain (Err e) path h = absurd cc

by_parts : (name : Result Path QueryFault) (value : Result Treatment QueryFault) (path : Path) (part : List ℕ) (t : Treatment) → name ≡ Ok path →
    one_part path ≡ Ok part → value ≡ Ok t → (name >>= λ p. one_part p >>= λ first. value >>= λ treatment. Ok (ruled first treatment)) ≡ Ok (ruled part t)
by_parts name value path part t h one k = rw (h, one, k) refl

-- a rule is read, its name by its text
pub rule_read : (name text copied : List ℕ) (d : Datum) (path : Path) (t : Treatment) → text ≡ name → read_name text ≡ Ok path → length path ≡ 1 →
    read_treatment d ≡ Ok t → copied ≡ name → read_rule name d ≡ Ok (ruled copied t)
rule_read name text copied d path t is h one treated kept =
    let read : read_name name ≡ Ok path = ap (λ (x : List ℕ). read_name x) (sym is) ∙ h in
    by_parts (read_name name) (read_treatment d) path name t read (one_part_is name path (plain (read_path name) path read) one) treated
    ∙ ap (λ (x : List ℕ). Ok (ruled x t)) (sym kept)

pub no_dollar : (bs : List ℕ) → ((rest : List ℕ) → bs ≢ 36 ∷ rest) → named_path bs ≡ None
no_dollar [] h = refl
no_dollar (b ∷ bs) h = rw (ne_eqb b 36 (λ e. h bs (ap (λ (x : ℕ). x ∷ bs) e))) refl

-- a text without a leading $ computes nothing
pub not_computed : (bs : List ℕ) → ((rest : List ℕ) → bs ≢ 36 ∷ rest) → read_treatment (string_value bs) ≡ Err bad_operand
not_computed bs h = rw (no_dollar bs h, read_treatment) refl
