-- What the words that are left make of what was given is what all words make.
use Rattle.std.proofs.Common.{◌≡◌, drop}
use Rattle.std.specs.Prelude.{Some}
use Rattle.cluster_service.specs.Options.{nothing_given, options_in}
use Rattle.cluster_service.proofs.options.read_options.Given as goal

abbrev pub invariant-loop-word : goal.invariant-loop-word
invariant-loop-word l = options_in (Some l.given) (drop l.word-index l.words) ≡ options_in (Some nothing_given) l.words
