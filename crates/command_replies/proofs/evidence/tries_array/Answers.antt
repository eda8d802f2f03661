use Rattle.std.proofs.Common.{get_or, refl}
use Rattle.bson_model.specs.Tree.{document_value}
use Rattle.base_model.specs.Refusals.{try_items}
use Rattle.command_replies.specs.Refusals.{shown_tries_view, shown_try_view, try_fields}
use Rattle.command_replies.specs.declared.evidence.ShownTry.{ShownTry}
use Rattle.command_replies.proofs.Arrays.{all_made, one_more}
use Rattle.command_replies.proofs.evidence.tries_array.Goals as goal

pub loop-shown-preserved : goal.loop-shown-preserved
loop-shown-preserved c =
    let none : ShownTry = record { sent = record { epoch = 0; major = 0 }; met = record { epoch = 0; major = 0 } } in
    one_more (λ ts. try_items (shown_tries_view ts)) (λ t. document_value (try_fields (shown_try_view t))) refl (λ t ts. refl) _ c.loop-shown.items c.push.new.self c.args.tries.now
    c.loop-shown.shown-index (get_or c.args.tries.now c.loop-shown.shown-index none) none c.loop-shown.invariant c.loop-shown-test.true refl (rw (← c.in_ok-try_document.ensures) c.in_ok-push.ensures.ok)

pub returns : goal.returns
returns c =
    all_made (λ ts. try_items (shown_tries_view ts)) (λ t. document_value (try_fields (shown_try_view t))) refl (λ t ts. refl) _ c.loop-shown.items c.args.tries.now
    c.loop-shown.shown-index c.loop-shown.invariant c.loop-shown-test.false
