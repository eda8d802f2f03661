use Rattle.std.proofs.Common.{◌≡◌, ◌∙◌, ◌+◌, ◌≤◌, ◌++◌, ◌∷◌, [], ℕ, List, length, sym, ap, subst, arith}
use Rattle.std.specs.List.{AllByRecursion}
use Rattle.outside.specs.declared.exchange.Exchange.{Exchange}
use Rattle.outside.specs.declared.exchange.Spoken.{Spoken}
use Rattle.node_model.specs.Letters.{Input}
use Rattle.node_cell.specs.declared.view.View.{View}
use Rattle.conn_server.specs.Conversations.{AreHeard, InTurn, LinkFacts, WasHeard, WasShown, WasTalked, link_facts}
use Rattle.conn_server.specs.Talks.{IsNoted}
use Rattle.conn_server.proofs.Exchanged.{heard_more}
use Rattle.conn_server.proofs.Shown.{shown_as}
use Rattle.conn_server.proofs.links.Links.add.Goals as goal

heard_after : {N L M I S : Type 0} (meaning : I → Input) (bytes : LinkFacts S) (next : ℕ) (spoken all : List (Spoken S)) (notes all_notes : List (View N L M I))
    (s : Spoken S) (v : View N L M I) (link : ℕ) → all ≡ spoken ++ s ∷ [] → all_notes ≡ notes ++ v ∷ [] → AreHeard meaning bytes 0 next spoken notes
    → next ≤ link → AllByRecursion (λ e. IsNoted meaning link v e) s.said.items → InTurn s.said.items → WasHeard bytes s → WasShown bytes link s v
    → AreHeard meaning bytes 0 (link + 1) all all_notes
heard_after {N} {L} {M} {I} {S} meaning bytes next spoken all notes all_notes s v link is notes_are before high noted in_turn heard shown =
    subst (λ (l : List (Spoken S)). AreHeard meaning bytes 0 (link + 1) l all_notes) (sym is)
    (subst (λ (l : List (View N L M I)). AreHeard meaning bytes 0 (link + 1) (spoken ++ s ∷ []) l) (sym notes_are)
    (heard_more meaning bytes 0 next spoken notes s v link before high noted in_turn heard shown))

pub invariant_of-self-2 : goal.invariant_of-self-2
invariant_of-self-2 g c =
    let facts = link_facts g.S.Source.tells g.S.Source.left g.S.Sink.tells g.S.Sink.held g.S.Sink.noted g.S.Link.is_closed in
    let one : Spoken g.row.S.Denot = record {
      opened = c.into_snapshot-opened.result;
      link = c.heard.inside.link;
      end = c.heard.inside.end;
      said = c.into_parts-said.result.0;
    } in
    heard_after g.N.Node.meaning facts c.self.inside.next c.self.inside.spoken.items c.push_reserved.new.self.items
    c.self.inside.notes.items c.push_reserved-2.new.self.items one c.into_parts-said.result.1 c.link-number.result
    (c.push_reserved.ensures.items ∙ ap (λ l. l ++ one ∷ []) c.reserve.ensures.items)
    (c.push_reserved-2.ensures.items ∙ ap (λ l. l ++ c.into_parts-said.result.1 ∷ []) c.reserve-else-is_err.ensures.items)
    c.self.invariant (omega (arith, c.if-number-self.false))
    (subst (λ (k : ℕ). AllByRecursion (λ e. IsNoted g.N.Node.meaning k c.into_parts-said.result.1 e) c.into_parts-said.result.0.items)
    (sym c.link-number.ensures) c.into_parts-said.ensures.noted)
    (_, c.into_parts-said.ensures.in_turn)
    (record {
      talked = subst (λ (o : g.row.S.Denot). WasTalked facts c.heard.inside.end o c.heard.inside.link c.into_parts-said.result.0.items)
          (sym c.into_snapshot-opened.ensures)
          (subst (λ (l : List Exchange). WasTalked facts c.heard.inside.end (g.O.Opened.shown c.heard.inside.opened) c.heard.inside.link l)
          (sym c.into_parts-said.ensures.said) c.heard.invariant.0);
      closed = c.heard.invariant.1;
    })
    (shown_as g.S.Sink.tells (g.S.Sink.noted c.heard.inside.link) _ _ c.into_parts-said.result.1.safe c.heard.inside.talk.note.safe c.link-number.result
    c.heard.inside.talk.link c.into_parts-said.result.0.items c.heard.inside.talk.said
    (ap (λ (o : g.row.S.Denot). length (g.S.Sink.held o)) c.into_snapshot-opened.ensures) (ap (λ v. v.safe) c.into_parts-said.ensures.note)
    c.link-number.ensures c.into_parts-said.ensures.said c.heard.invariant.2)
