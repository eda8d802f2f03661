use Rattle.std.proofs.Common.{◌≡◌, Ok, Some, true, subst, sym}
use Rattle.query_model.specs.Writes.{read_start}
use Rattle.update_ops.specs.Starts.{is_plain_filter}
use Rattle.update_ops.proofs.FilterNames.{start_has_key, start_read}
use Rattle.update_ops.proofs.statement.read_start.Goals as goal

pub invariant_of-result : goal.invariant_of-result
invariant_of-result c =
    let plain : is_plain_filter c.args.filter.now ≡ true = cc in
    start_has_key c.args.filter.now c.args.asked.now c.in_ok-document.document c.in-Some._key.now c.requires plain c.in-Some.ensures c.in_ok-document.ensures

pub returns : goal.returns
returns c =
    let plain : is_plain_filter c.args.filter.now ≡ true = cc in
    let upsert : c.args.upsert ≡ true = cc in
    record {
      gives =
          subst (λ b. read_start b c.args.asked.now ≡ Ok (Some c.in_ok-document.document)) (sym upsert)
          (start_read c.args.filter.now c.args.asked.now c.in_ok-document.document c.in-Some._key.now c.requires plain c.in-Some.ensures c.in_ok-document.ensures);
    }
