use Rattle.std.specs.Prelude.{◌≤◌}
use Rattle.std.proofs.Common.{arith}
use Rattle.std.proofs.lemmas.Grind.{common_steps}
use Rattle.cluster_service.specs.Arguments.{routers_of, shards_of}
use Rattle.cluster_service.specs.Numbers.{most_routers, most_shards}
use Rattle.cluster_service.proofs.OptionRanges.{of_few}
use Rattle.cluster_service.proofs.arguments.read_command.Goals as goal

pub returns-in_ok-read_options-in-len1-up-clause-command : goal.returns-in_ok-read_options-in-len1-up-clause-command
returns-in_ok-read_options-in-len1-up-clause-command c = grind (arith, common_steps)

pub returns-in_ok-read_options-in-len1-up-clause-some_shards : goal.returns-in_ok-read_options-in-len1-up-clause-some_shards
returns-in_ok-read_options-in-len1-up-clause-some_shards c =
    of_few c.args.words.now c.command.result (λ command. 1 ≤ shards_of command) (returns-in_ok-read_options-in-len1-up-clause-command c)
    (λ command few. few.0.0)

pub returns-in_ok-read_options-in-len1-up-clause-few_shards : goal.returns-in_ok-read_options-in-len1-up-clause-few_shards
returns-in_ok-read_options-in-len1-up-clause-few_shards c =
    of_few c.args.words.now c.command.result (λ command. shards_of command ≤ most_shards) (returns-in_ok-read_options-in-len1-up-clause-command c)
    (λ command few. few.0.1)

pub returns-in_ok-read_options-in-len1-up-clause-some : goal.returns-in_ok-read_options-in-len1-up-clause-some
returns-in_ok-read_options-in-len1-up-clause-some c =
    of_few c.args.words.now c.command.result (λ command. 1 ≤ routers_of command) (returns-in_ok-read_options-in-len1-up-clause-command c)
    (λ command few. few.1.0)

pub returns-in_ok-read_options-in-len1-up-clause-few : goal.returns-in_ok-read_options-in-len1-up-clause-few
returns-in_ok-read_options-in-len1-up-clause-few c =
    of_few c.args.words.now c.command.result (λ command. routers_of command ≤ most_routers) (returns-in_ok-read_options-in-len1-up-clause-command c)
    (λ command few. few.1.1)
