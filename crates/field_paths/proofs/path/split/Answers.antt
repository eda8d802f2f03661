use Rattle.std.proofs.Common.{◌≡◌, ℕ, List, [], ◌∷◌, ◌++◌, arith, ap, ◌∙◌, rules}
use Rattle.std.proofs.lemmas.Str.Pattern.{split_parts}
use Rattle.query_model.specs.Paths.{parts_of}
use Rattle.query_model.proofs.Names.{parts_around, one_part}
use Rattle.field_paths.proofs.Parts.{grown, grown_last}
use Rattle.field_paths.proofs.path.split.Goals as goal

pub parts-preserved : goal.parts-preserved
parts-preserved c =
    let l = c.parts in
    let cut = rw c.in-Some.is at (split_parts 46 l.rest.now c.split_once.result c.split_once.ensures.cases (omega arith)) in
    let split : parts_of l.rest.now ≡ c.in-Some.part.now ∷ parts_of c.in-Some.others.now =
    ap parts_of cut.0 ∙ parts_around c.in-Some.part.now c.in-Some.others.now cut.1 in
    record {
      text = search rules;
      whole = grown l.parts.items c.push.new.self.items (parts_of c.in-Some.others.now) (parts_of c.args.name.now) c.in-Some.part.now l.rest.now
          (c.in_ok-push.ensures.items ∙ ap (λ (t : List ℕ). l.parts.items ++ t ∷ []) c.in_ok-of.ensures) split l.invariant.whole;
    }

pub returns : goal.returns
returns c =
    let l = c.parts in
    let none = rw c.in_default.is at (split_parts 46 l.rest.now c.split_once.result c.split_once.ensures.cases (omega arith)) in
    c.shrink_to_fit.ensures.items
    ∙ grown_last l.parts.items c.push-2.new.self.items (parts_of c.args.name.now) l.rest.now
    (c.in_ok-push-2.ensures.items ∙ ap (λ (t : List ℕ). l.parts.items ++ t ∷ []) c.in_ok-of-2.ensures) (one_part l.rest.now none) l.invariant.whole
