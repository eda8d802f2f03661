-- A full name is cut at its first dot.
use Rattle.std.proofs.Common.{◌≡◌, ℕ, ◌+◌, ◌<◌, List, [], ◌∷◌, ◌++◌, length, get_or, sym, ◌∙◌, ap, true, false, None, Ok, Err, arith}
use Rattle.std.specs.Prelude.{Result}
use Rattle.std.specs.List.{position_or_len, before_first, after_first}
use Rattle.std.proofs.lemmas.List.{drop_all}
use Rattle.std.proofs.lemmas.List.Sums.{split_at_first, passes_at_first}
use Rattle.base_model.specs.Names.{full_name, is_open_namespace}
use Rattle.base_model.specs.Errors.{invalid_namespace}
use Rattle.base_model.proofs.OpenNames.{no_namespace}
use Rattle.cluster_base.specs.declared.namespace.Namespace.{Namespace}
use Rattle.command_model.specs.AdminCommands.{is_dot, is_open_name}
use Rattle.command_model.specs.Checks.{unless_passes}
use Rattle.command_fields.specs.Verdicts.{ReadsBy}
use Rattle.command_fields.specs.declared.fault.CheckFault.{CheckFault}
use Rattle.command_fields.specs.declared.fault.CheckFault.TheVariants.{Refused, Memory}

-- the parts make the whole
pub whole_name : (text : List ℕ) → position_or_len is_dot text < length text → full_name (before_first is_dot text) (after_first is_dot text) ≡ text
whole_name text found =
    let dot : is_dot (get_or text (position_or_len is_dot text) 0) ≡ true = passes_at_first is_dot text 0 found in
    let is_46 : get_or text (position_or_len is_dot text) 0 ≡ 46 = grind (arith, dot) in
    sym (split_at_first is_dot text 0 found ∙ ap (λ b. before_first is_dot text ++ (b ∷ after_first is_dot text)) is_46)

no_collection : (database collection : List ℕ) → collection ≡ [] → is_open_namespace database collection ≡ false
no_collection database [] none = no_namespace database [] (λ made. absurd (omega (arith, made.collection_name.some)))
no_collection database (b ∷ collection) none = absurd cc

-- a text without a dot is none
pub no_dot : (text : List ℕ) → position_or_len is_dot text ≡ length text → is_open_name text ≡ false
no_dot text none = no_collection (before_first is_dot text) (after_first is_dot text) (drop_all (position_or_len is_dot text + 1) text (omega (arith, none)))

-- what is read of the two parts is read of the whole
pub cut_read : (text database collection : List ℕ) (read : Result Namespace CheckFault) → database ≡ before_first is_dot text → collection ≡ after_first is_dot text → position_or_len is_dot text < length text →
    ReadsBy (λ n. n ≡ full_name database collection) read (unless_passes (is_open_namespace database collection) invalid_namespace) →
    ReadsBy (λ n. n ≡ text) read (unless_passes (is_open_name text) invalid_namespace)
cut_read text database collection (Ok n) before after found told =
    let passes : unless_passes (is_open_name text) invalid_namespace ≡ None = rw (before, after) at told.0 in
    let name : n ≡ full_name (before_first is_dot text) (after_first is_dot text) = rw (before, after) at told.1 in
    (passes, name ∙ whole_name text found)
cut_read text database collection (Err (Refused code)) before after found told = rw (before, after) at told
cut_read text database collection (Err Memory) before after found told = tt
