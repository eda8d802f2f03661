use Rattle.std.proofs.Common.{◌≡◌, Some, None, refl, sym, ap, rules}
use Rattle.std.specs.Prelude.{FitsSigned}
use Rattle.std.specs.Int.{w64}
use Rattle.std.proofs.Math.Facts.{to_z-of_z}
use Rattle.session_book.specs.Meanings.{session_view, number_view}
use Rattle.session_book.specs.Places.{place_of, statements_at}
use Rattle.session_book.specs.Books.{kept_of, seen_of, seen_in}
use Rattle.session_book.proofs.Places.{kept_there}
use Rattle.session_book.proofs.book.Book.look.Goals as goal

pub index-requires : goal.index-requires
index-requires c =
    let s = session_view c.args.s.now.session in
    let at : place_of c.args.self.now.places.entries s ≡ Some c.in-Some.place = sym c.in-Some.ensures in
    rw c.args.self.now.kept.ok.0 (c.args.self.now.apart.inside s c.in-Some.place at)

pub returns-in-Some : goal.returns-in-Some
unfolding seen_in
returns-in-Some c =
    let s = session_view c.args.s.now.session in
    let book = c.args.self.now in
    let fits : FitsSigned w64 c.args.s.now.txn = search rules in
    let at : place_of c.args.self.now.places.entries s ≡ Some c.in-Some.place = sym c.in-Some.ensures in
    let here : kept_of c.args.self.now s ≡ Some c.index.result.now =
    kept_there book.places.entries book.kept.items book.apart s c.in-Some.place at c.index.result.now c.index.ensures in
    rw (here, c.look.ensures, to_z-of_z fits) refl

pub returns-in-None : goal.returns-in-None
unfolding seen_in
returns-in-None c =
    let s = session_view c.args.s.now.session in
    let at : place_of c.args.self.now.places.entries s ≡ None = sym c.in-None.ensures in
    sym (ap (λ o. seen_of (statements_at c.args.self.now.kept.items o) (number_view c.args.s.now)) at)
