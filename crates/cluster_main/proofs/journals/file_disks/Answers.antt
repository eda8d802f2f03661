use Rattle.std.proofs.Common.{◌≡◌, ◌+◌, ◌++◌, ◌∷◌, [], List, ℕ, map, replicate, string_bytes, ap, sym, ◌∙◌, arith}
use Rattle.std.proofs.lemmas.List.{map-append}
use Rattle.cluster_main.specs.Names.{journal_names}
use Rattle.cluster_main.proofs.Lists.{names_more, replicate_more}
use Rattle.cluster_main.proofs.journals.file_disks.Goals as goal

pub loop-node-init : goal.loop-node-init
loop-node-init g c = (c.new-disks.ensures.len, ap (λ ds. map (λ d. d.faults) ds) c.new-disks.ensures.items, ap (λ ds. map (λ d. string_bytes d.path) ds) c.new-disks.ensures.items)

pub loop-node-preserved : goal.loop-node-preserved
loop-node-preserved g c = (
  omega (arith, c.in_ok-push.ensures.len, c.loop-node.invariant.0),
  ap (λ ds. map (λ d. d.faults) ds) c.in_ok-push.ensures.items
      ∙ map-append (λ d. d.faults) c.loop-node.disks.items (c.new.result ∷ [])
      ∙ ap (λ (ns : List ℕ). ns ++ c.new.result.faults ∷ []) c.loop-node.invariant.1
      ∙ ap (λ (n : ℕ). replicate c.loop-node.node 0 ++ n ∷ []) c.new.ensures.faults
      ∙ sym (replicate_more c.loop-node.node (c.loop-node.node + 1) 0 (omega arith)),
  ap (λ ds. map (λ d. string_bytes d.path) ds) c.in_ok-push.ensures.items
      ∙ map-append (λ d. string_bytes d.path) c.loop-node.disks.items (c.new.result ∷ [])
      ∙ ap (λ (names : List (List ℕ)). names ++ string_bytes c.new.result.path ∷ []) c.loop-node.invariant.2
      ∙ ap (λ (name : List ℕ). journal_names c.loop-node.node ++ name ∷ []) (c.new.ensures.place ∙ c.in_ok-name_of.ensures)
      ∙ sym (names_more c.loop-node.node (c.loop-node.node + 1) (omega arith)),
)

pub returns-clause-len : goal.returns-clause-len
returns-clause-len g c = omega (arith, c.loop-node.invariant.0, c.loop-node-test.false, c.loop-node.auto.node-end)

pub returns-clause-calm : goal.returns-clause-calm
returns-clause-calm g c = c.loop-node.invariant.1 ∙ ap (λ (n : ℕ). replicate n 0) (omega (arith, c.loop-node-test.false, c.loop-node.auto.node-end))

pub returns-clause-places : goal.returns-clause-places
returns-clause-places g c =
    let all : c.loop-node.node ≡ c.args.count = omega (arith, c.loop-node-test.false, c.loop-node.auto.node-end) in
    c.loop-node.invariant.2 ∙ ap (λ (n : ℕ). journal_names n) all
