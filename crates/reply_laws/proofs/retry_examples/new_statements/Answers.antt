-- The first statement was done before.
use Rattle.std.proofs.Common.{◌≡◌, pos, [], ◌∷◌, refl, ap, arith}
use Rattle.command_laws.specs.SampleNumbers.{sevens}
use Rattle.history_model.specs.History.{StatementNumber}
use Rattle.history_model.proofs.Lists.{in_first}
use Rattle.reply_laws.specs.SampleRetries.{number_in, put_five, second_done}
use Rattle.reply_laws.proofs.retry_examples.new_statements.Goals as goal

pub returns-clause-longer : goal.returns-clause-longer
returns-clause-longer c = (
  (
    (
      record { apart = λ shard same. let indices : 1 ≡ 0 = ap (λ (n : StatementNumber). n.index) same in cc; rises = λ shard same. refl },
      tt,
    ),
    (tt, tt),
  ),
  (λ ordered i less.
      let zero : 0 ≡ i = omega (arith, less) in
      (put_five, in_first put_five (second_done 3 ∷ []), ap (λ n. number_in sevens (pos 4) n) zero, refl, omega arith)),
)
