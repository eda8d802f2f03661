use Rattle.std.proofs.Common.{◌≡◌, ◌+◌, ◌∙◌, ap, sym, length}
use Rattle.std.specs.Option.{unwrap_or}
use Rattle.statement_views.specs.Views.{session_view}
use Rattle.session_book.specs.Records.{counted}
use Rattle.session_book.proofs.Sessions.{place_after, place_at}
use Rattle.session_book.proofs.Counts.{counted_here, counted_more}
use Rattle.session_book.proofs.merges.added.Goals as goal

pub returns-clause-count : goal.returns-clause-count
returns-clause-count c =
    sym (counted_here c.args.counts.now.entries c.insert.new.self.entries (session_view c.args.record.now.session) c.in-Some.count
    (place_after c.args.counts.now c.insert.new.self c.args.record.now.session c.in-Some.count (λ q. c.in_ok-insert.ensures.updates.0 q)))

pub returns-clause-counts : goal.returns-clause-counts
returns-clause-counts c =
    let s = session_view c.args.record.now.session in
    let before : c.unwrap_or-before.result ≡ counted c.args.counts.now.entries (session_view c.args.record.now.session) =
    c.unwrap_or-before.ensures ∙ ap (λ o. unwrap_or o 0) (c.copied.ensures ∙ c.get.ensures.value ∙ sym (place_at c.args.counts.now c.args.record.now.session)) in
    let more : c.in-Some.count ≡ counted c.args.counts.now.entries (session_view c.args.record.now.session) + length c.args.record.now.statements.items =
    c.in-Some.ensures.1 ∙ ap (λ n. n + c.len.result) before ∙ ap (λ n. counted c.args.counts.now.entries (session_view c.args.record.now.session) + n) (c.len.ensures ∙ c.args.record.now.statements.ok.0) in
    counted_more c.args.counts.now.entries c.insert.new.self.entries s c.in-Some.count
    (place_after c.args.counts.now c.insert.new.self c.args.record.now.session c.in-Some.count (λ q. c.in_ok-insert.ensures.updates.0 q))
    (length c.args.record.now.statements.items) more
