use Rattle.std.proofs.Common.{◌≡◌, ℕ}
use Rattle.std.specs.Prelude.{None}
use Rattle.conn_server.specs.Talks.{HasShown, SpokeSome}
use Rattle.conn_server.proofs.link.exchange_all.Given as goal

-- the requests so far were asked, and their replies written
abbrev pub invariant-requests : goal.invariant-requests
invariant-requests g l = record {
  link : l.talk.link ≡ l.fn.talk.link;
  left : g.S.Source.left l.link ≡ g.S.Source.left l.fn.link;
  fault : l.fn.framer.fault ≡ None → l.framer.fault ≡ None;
  some : SpokeSome g.S.Sink.tells (g.S.Sink.held l.fn.link) (g.S.Sink.held l.link) l.fn.talk.said l.talk.said
      l.fn.framer.offset l.fn.framer.bytes l.framer.offset l.framer.bytes;
  shown : (before : ℕ)
      → HasShown g.S.Sink.tells (g.S.Sink.held l.fn.link) (g.S.Sink.noted l.fn.link) before l.fn.talk.note.safe l.fn.talk.link l.fn.talk.said
      → HasShown g.S.Sink.tells (g.S.Sink.held l.link) (g.S.Sink.noted l.link) before l.talk.note.safe l.fn.talk.link l.talk.said;
}
