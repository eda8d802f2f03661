use Rattle.std.proofs.Common.{◌≡◌, refl, ap, ◌∙◌, ℕ, List, [], map}
use Rattle.std.specs.Prelude.{Result}
use Rattle.command_replies.specs.AnswerMeanings.{answer_view}
use Rattle.node_model.specs.Letters.{HalfFault}
use Rattle.node_model.specs.RouterNext as nexts
use Rattle.pipeline_eval.specs.Rows.{rows_of}
use Rattle.pipeline_model.specs.Halves.{Rows}
use Rattle.protocol_model.specs.Bodies.{rows_view}
use Rattle.read_parts.specs.Parts.{part_view, target_view}
use Rattle.read_parts.specs.declared.parts.Part.{Part}
use Rattle.read_parts.specs.declared.parts.Target.{Target}
use Rattle.router_requests.specs.Works.{open_view, stages_of, telling_view}
use Rattle.router_node.specs.RouterStates.{router_of}
use Rattle.router_node.proofs.Told.{may_exceed, may_fail, may_merged}
use Rattle.router_node.proofs.node.RouterNode.plan_gathered.Goals as goal

-- the rows that were gathered
gathered_so : (targets given : List Target) (parts held : List Part) (from sender : ℕ) (told : Result Rows HalfFault) → given ≡ targets → held ≡ parts → from ≡ sender
    → nexts.rows_of (map target_view targets) (nexts.also_part (map part_view parts) from told) ≡ nexts.rows_of (map target_view given) (nexts.also_part (map part_view held) sender told)
gathered_so targets given parts held from sender told same alike is = rw (same, alike, is) refl

pub returns-in-Ok : goal.returns-in-Ok
returns-in-Ok c = λ m id from late part last work.
    let n = c.args.self.now in
    let q = open_view n.me.0 n.life c.args.request.now in
    let read = c.args.read.now in
    let told = rows_view c.args.told in
    let all : nexts.awaited q.targets (nexts.also_part q.parts m.sender told) ≡ [] = ap (λ (s : ℕ). nexts.awaited q.targets (nexts.also_part q.parts s told)) from ∙ last in
    let same = gathered_so c.args.request.now.targets.items c.deref.result.now c.args.request.now.parts.items c.deref-2.result.now m.sender c.args.sender.0 told
    c.deref.ensures.value c.deref-2.ensures.value from in
    c.plan_merged.ensures m late
    (may_merged (router_of n) m id q told read.named read.at.0 (stages_of read.parts) (telling_view read.telling) part work all (map rows_of c.in-Ok.all.items) (same ∙ c.in-Ok.ensures))

pub returns-in-Err-Overflow : goal.returns-in-Err-Overflow
returns-in-Err-Overflow c = λ m id from late part last work.
    let n = c.args.self.now in
    let q = open_view n.me.0 n.life c.args.request.now in
    let read = c.args.read.now in
    let told = rows_view c.args.told in
    let all : nexts.awaited q.targets (nexts.also_part q.parts m.sender told) ≡ [] = ap (λ (s : ℕ). nexts.awaited q.targets (nexts.also_part q.parts s told)) from ∙ last in
    let same = gathered_so c.args.request.now.targets.items c.deref.result.now c.args.request.now.parts.items c.deref-2.result.now m.sender c.args.sender.0 told
    c.deref.ensures.value c.deref-2.ensures.value from in
    let gathered = rw c.in-Err-Overflow.field-0-is at c.in-Err-Overflow.ensures in
    c.plan_answer.ensures m late
    (may_fail (router_of n) m id q told read.named read.at.0 (stages_of read.parts) (telling_view read.telling) part work all
    (answer_view c.overflow_answer.result) (same ∙ gathered) c.overflow_answer.ensures)

pub returns-in-Err-TooMuch : goal.returns-in-Err-TooMuch
returns-in-Err-TooMuch c = λ m id from late part last work.
    let n = c.args.self.now in
    let q = open_view n.me.0 n.life c.args.request.now in
    let read = c.args.read.now in
    let told = rows_view c.args.told in
    let all : nexts.awaited q.targets (nexts.also_part q.parts m.sender told) ≡ [] = ap (λ (s : ℕ). nexts.awaited q.targets (nexts.also_part q.parts s told)) from ∙ last in
    let same = gathered_so c.args.request.now.targets.items c.deref.result.now c.args.request.now.parts.items c.deref-2.result.now m.sender c.args.sender.0 told
    c.deref.ensures.value c.deref-2.ensures.value from in
    let gathered = rw c.in-Err-TooMuch.field-0-is at c.in-Err-TooMuch.ensures in
    c.plan_answer-in-Err-TooMuch.ensures m late
    (may_exceed (router_of n) m id q told read.named read.at.0 (stages_of read.parts) (telling_view read.telling) part work all
    c.in-Err-TooMuch.bytes (answer_view c.excess_answer.result) (same ∙ gathered) c.excess_answer.ensures)
