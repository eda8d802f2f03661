use Rattle.std.proofs.Common.{codes, sym, ap, ◌∙◌}
use Rattle.std.specs.Str.{bytes_eq}
use Rattle.std.proofs.lemmas.Result.{err_from_is_err_and}
use Rattle.bson_values.specs.View.{datum_of}
use Rattle.field_paths.proofs.FieldLists.{passes_on}
use Rattle.group_accum.proofs.PartLoops.{field_fails, field_put, key_fails, key_put}
use Rattle.group_accum.proofs.parser.push_part.Goals as goal

pub returns-then-is_key-clause-pushed : goal.returns-then-is_key-clause-pushed
returns-then-is_key-clause-pushed c =
    key_put c.args.field.now.name (datum_of c.args.field.now.value) c.args.parts.now.keys.items c.args.parts.now.fields.items _ c.in_ok-key.key
    c.in_ok-push.ensures.items (ap (λ n. bytes_eq n (codes "_id")) (sym c.as_str.ensures.text) ∙ sym c.is_key.ensures ∙ c.if-is_key.true) c.in_ok-key.ensures.gives

pub returns-in_err-key-clause-fault : goal.returns-in_err-key-clause-fault
returns-in_err-key-clause-fault c =
    let p = err_from_is_err_and c.from_residual.result c.from_residual.ensures.1 in
    rw (p.1, p.2)
    (passes_on _ _ _ (λ f h. key_fails c.args.field.now.name (datum_of c.args.field.now.value) f (ap (λ n. bytes_eq n (codes "_id")) (sym c.as_str.ensures.text) ∙ sym c.is_key.ensures ∙ c.if-is_key.true) h)
    c.in_err-key.ensures.gives)

pub returns-clause-pushed : goal.returns-clause-pushed
returns-clause-pushed c =
    field_put c.args.field.now.name (datum_of c.args.field.now.value) c.args.parts.now.keys.items c.args.parts.now.fields.items _
    (record { name = c.in_ok-name.name; accumulator = c.in_ok-accumulator.accumulator })
    c.in_ok-push-2.ensures.items (ap (λ n. bytes_eq n (codes "_id")) (sym c.as_str.ensures.text) ∙ sym c.is_key.ensures ∙ c.if-is_key.false) c.in_ok-name.ensures c.in_ok-accumulator.ensures.gives

pub returns-in_err-accumulator-clause-fault : goal.returns-in_err-accumulator-clause-fault
returns-in_err-accumulator-clause-fault c =
    let p = err_from_is_err_and c.from_residual-in_err-accumulator.result c.from_residual-in_err-accumulator.ensures.1 in
    rw (p.1, p.2)
    (passes_on _ _ _ (λ f h. field_fails c.args.field.now.name (datum_of c.args.field.now.value) f (ap (λ n. bytes_eq n (codes "_id")) (sym c.as_str.ensures.text) ∙ sym c.is_key.ensures ∙ c.if-is_key.false) h)
    c.in_err-accumulator.ensures.gives)
