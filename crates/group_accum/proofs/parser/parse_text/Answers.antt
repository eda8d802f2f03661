use Rattle.std.proofs.Common.{ℕ, List, Ok, ap, ◌∙◌, sym, arith}
use Rattle.bson_model.specs.Tree.{string_value}
use Rattle.std.proofs.lemmas.Str.Pattern.{strip_prefix_char}
use Rattle.pipeline_model.specs.Operands.{constant_operand}
use Rattle.group_accum.proofs.PartsRead.{plain_text}
use Rattle.group_accum.proofs.parser.parse_text.Goals as goal

pub returns-in_ok-text-in-None : goal.returns-in_ok-text-in-None
returns-in_ok-text-in-None c =
    let none = rw c.in-None.is at (strip_prefix_char 36 c.args.text.now c.strip_prefix.result c.strip_prefix.ensures.cases (omega arith)) in
    record { gives = plain_text c.args.text.now none ∙ ap (λ (s : List ℕ). Ok (constant_operand (string_value s))) (sym c.in_ok-text-in-None.ensures) }
