use Rattle.std.proofs.Common.{◌≡◌, ℕ, List, [], length, vec_len}
use Rattle.std.specs.Prelude.{None}
use Rattle.opmsg_model.specs.Outline.{outline, partial_outline}
use Rattle.outside.specs.Streams.{Took}
use Rattle.conn_server.specs.Talks.{HasShown, SpokeSome}
use Rattle.conn_server.proofs.link.serve_requests.Given as goal

-- what was taken is requests that were asked, and what the framer has left, which begins no whole one
abbrev pub invariant-pieces : goal.invariant-pieces
invariant-pieces g l = record {
  len : vec_len l.piece ≡ 65536;
  fault : l.framer.fault ≡ None;
  partial : outline l.framer.bytes ≡ partial_outline;
  went : (read : List ℕ) × Took g.S.Source.tells (g.S.Source.left l.fn.link) read (g.S.Source.left l.link)
      × SpokeSome g.S.Sink.tells (g.S.Sink.held l.fn.link) (g.S.Sink.held l.link) [] l.talk.said 0 read l.framer.offset l.framer.bytes;
  link : l.talk.link ≡ l.fn.talk.link;
  shown : HasShown g.S.Sink.tells (g.S.Sink.held l.link) (g.S.Sink.noted l.link) (length (g.S.Sink.held l.fn.link)) l.talk.note.safe l.fn.talk.link l.talk.said;
}
