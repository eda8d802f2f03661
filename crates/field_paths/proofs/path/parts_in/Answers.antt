use Rattle.std.proofs.Common.{◌≡◌, ℕ, List, ◌∷◌, [], ap, sym, ◌∙◌, arith}
use Rattle.std.proofs.lemmas.Str.Pattern.{split_parts}
use Rattle.query_model.proofs.Names.{one_part}
use Rattle.field_paths.proofs.path.parts_in.Goals as goal

-- a name without a dot is its one part
pub returns-in_ok-of-in-None : goal.returns-in_ok-of-in-None
returns-in_ok-of-in-None c =
    let none = rw c.in-None.is at (split_parts 46 c.args.name.now c.split_once.result c.split_once.ensures.cases (omega arith)) in
    ap (λ (t : List ℕ). t ∷ []) c.in_ok-of-in-None.ensures ∙ sym (one_part c.args.name.now none)
