use Rattle.std.proofs.Common.{rules, ◌≡◌, sym, ap, ◌∙◌}
use Rattle.session_book.specs.Meanings.{session_view}
use Rattle.session_book.specs.Places.{place_of}
use Rattle.session_book.proofs.Sessions.{place_at}
use Rattle.session_book.proofs.book.Book.place.Goals as goal

pub returns-in-Some : goal.returns-in-Some
returns-in-Some c =
    let latest = c.in-Some.latest in
    let same : session_view latest.session ≡ session_view c.args.session.now = c.is_same.ensures (search rules) in
    sym (c.args.self.now.known latest c.in-Some.is) ∙ ap (λ x. place_of c.args.self.now.places.entries x) same

pub returns-in_default : goal.returns-in_default
returns-in_default c = c.copied.ensures ∙ c.get.ensures.value ∙ sym (place_at c.args.self.now.places c.args.session.now)
