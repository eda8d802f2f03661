use Rattle.std.proofs.Common.{sym, ap, subst, map}
use Rattle.node_traits.proofs.Calls.{left_alone}
use Rattle.node_traits.specs.Calls.{log_call}
use Rattle.node_traits.specs.CatalogueRows.{catalogue_opened}
use Rattle.node_traits.specs.Effects.{StepDone}
use Rattle.node_traits.specs.Letters.{nothing}
use Rattle.node_traits.specs.Steps.{catalogue_step}
use Rattle.node_tests.specs.Idle.{idle_input, idle_state, silent_letter}
use Rattle.node_tests.proofs.idle.IdleNode.step.Goals as goal

pub returns-in-Opened-clause-done : goal.returns-in-Opened-clause-done
returns-in-Opened-clause-done g c =
    let sent = c.nothing-in-Opened in
    subst (λ i. StepDone (idle_state c.args.self.now) i (map silent_letter sent.result.mail) sent.result.replies (log_call g.L.Log.facts c.args._log.now c.args._log.now) (idle_state c.args.self.now)) (sym (ap
    idle_input c.in-Opened.is)) (record {
      effect = nothing;
      step = catalogue_step _ _ _ nothing tt (catalogue_opened _);
      sent = sym (ap (λ mail. map silent_letter mail) sent.ensures.mail);
      told = sent.ensures.replies;
      readable = tt;
      kept = left_alone g.L.Log.facts c.args._log.now;
    })
