use Rattle.std.proofs.Common.{◌∙◌, List, ℕ, sym, ap}
use Rattle.std.specs.Prelude.{Some}
use Rattle.cluster_service.specs.Options.{after_word}
use Rattle.cluster_service.proofs.OptionWords.{option_refused}
use Rattle.cluster_service.proofs.options.read_options.Goals as goal

pub returns-in_err-given : goal.returns-in_err-given
returns-in_err-given c =
    c.from_residual.ensures
    ∙ option_refused c.loop-word.given c.args.words.now c.loop-word.word-index c.word-item.result _ c.loop-word-test.true c.word-item.is
    (sym c.in_err-given.was ∙ (c.after.ensures ∙ ap (λ (w : List ℕ). after_word (Some c.loop-word.given) w) c.as_str.ensures.text)) c.loop-word.invariant
