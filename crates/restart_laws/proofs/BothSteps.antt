-- One step after another of the same node, in which a life begins before the input.
use Rattle.std.proofs.Common.{◌≡◌, ℕ, List, [], ◌∷◌, ◌++◌, refl, sym, ap, ◌∙◌, append_assoc}
use Rattle.std.specs.List.{slice_set}
use Rattle.node_model.specs.Journal.{Kept}
use Rattle.node_model.specs.Letters.{Taken, Reply, Effect, both}
use Rattle.node_model.specs.States.{NodeState}
use Rattle.node_model.specs.World.{Held, World, asked_by, answered_by}
use Rattle.node_laws.proofs.Journals.{with_more}
use Rattle.node_laws.proofs.Dates.{dated_more}
use Rattle.node_laws.proofs.StepsKeep.{set_set}
use Rattle.node_replay.specs.Restarts.{after_start}

asked_more : (now : ℕ) (xs ys : List Taken) → asked_by now (xs ++ ys) ≡ asked_by now xs ++ asked_by now ys
asked_more now [] ys = refl
asked_more now (x ∷ xs) ys =
    ap (λ l. record { id = x.id; link = x.link; number = x.number; came = now; time = x.time; moment = x.moment; request = x.request } ∷ l)
    (asked_more now xs ys)

answered_more : (now : ℕ) (xs ys : List Reply) → answered_by now (xs ++ ys) ≡ answered_by now xs ++ answered_by now ys
answered_more now [] ys = refl
answered_more now (x ∷ xs) ys =
    ap (λ l. record { id = x.id; link = x.link; number = x.number; request = x.request; step = now; time = x.time; document = x.document } ∷ l)
    (answered_more now xs ys)

-- the world after both
pub start_both : (w : World) (at : ℕ) (old : Held) (count steps : ℕ) (f g : Effect) (u t : NodeState)
    → after_start (after_start w at old count f u) at (with_more old f.written u count) steps g t ≡ after_start w at old steps (both f g) t
start_both w at old count steps f g u t =
    let n = set_set w.nodes at (with_more old f.written u count) (record { state = t; kept = (old.kept ++ f.written) ++ g.written; steps = steps })
    ∙ ap (λ (l : List Kept). slice_set w.nodes at (record { state = t; kept = l; steps = steps })) (append_assoc old.kept f.written g.written) in
    let s = append_assoc w.sent f.mail g.mail in
    let a = append_assoc w.asked (asked_by w.now f.taken) (asked_by w.now g.taken) ∙ ap (λ l. w.asked ++ l) (sym (asked_more w.now f.taken g.taken)) in
    let d = append_assoc w.answered (answered_by w.now f.replies) (answered_by w.now g.replies)
    ∙ ap (λ l. w.answered ++ l) (sym (answered_more w.now f.replies g.replies)) in
    let c = sym (dated_more w.now w.changed f.written g.written) in
    λ i. record {
      nodes = n i;
      sent = s i;
      asked = a i;
      answered = d i;
      given = w.given;
      learned = w.learned;
      missed = w.missed;
      away = w.away;
      changed = c i;
      now = w.now;
    }
