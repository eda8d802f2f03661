use Rattle.std.proofs.Common.{arith, map, ap, sym, ◌∙◌, ◌≡◌}
use Rattle.std.specs.Arc.{arc_value}
use Rattle.std.specs.Option.{option_map}
use Rattle.mvcc_collection.specs.View.{dated, dated_with}
use Rattle.mvcc_collection.specs.Chains.{document_left}
use Rattle.mvcc_collection.proofs.Chains.{last_leaves, older_leave, shown}
use Rattle.mvcc_collection.proofs.chain.Chain.document_at.Goals.{in_default-via-in-Some+else-last-time, in_default-via-in_default}
use Rattle.mvcc_collection.proofs.chain.Chain.document_at.Goals as goal

pub returns-in-Some : goal.returns-in-Some
returns-in-Some c =
    let t = c.args.time.0 in
    let older = c.self.inside.older.items in
    shown arc_value c.as_ref.result ∙ ap (option_map arc_value) c.as_ref.ensures.value ∙ last_leaves c.in-Some.last older t c.if-last-time.true
    ∙ ap (λ l. document_left (dated_with l older) t) (sym c.in-Some.is) ∙ ap (λ p. document_left p.versions t) c.self.view_is

pub returns-in_default : goal.returns-in_default
returns-in_default c =
    let t = c.args.time.0 in
    let older = c.self.inside.older.items in
    let among = c.document_among.ensures ∙ ap (λ vs. document_left (map dated vs) t) c.deref.ensures.value in
    let left : document_left (map dated older) t ≡ document_left (dated_with c.self.inside.last older) t =
    elim c.in_default.branch [
      | in_default-via-in-Some+else-last-time w ↦ older_leave w.in-Some.last older t (omega (arith, w.if-last-time.false)) ∙ ap (λ l. document_left (dated_with l older) t) (sym w.in-Some.is)
      | in_default-via-in_default w ↦ ap (λ l. document_left (dated_with l older) t) (sym w.in_default.is)
    ] in
    among ∙ left ∙ ap (λ p. document_left p.versions t) c.self.view_is
