use Rattle.std.proofs.Common.{◌≡◌, ◌∙◌, ◌++◌, ◌∷◌, [], length, ℕ, Some, sym, ap, subst, refl}
use Rattle.std.proofs.lemmas.Option.{same_Some}
use Rattle.session_book.specs.Meanings.{session_view}
use Rattle.session_book.specs.Places.{place_of}
use Rattle.session_book.specs.declared.book.Place.{Place}
use Rattle.session_book.proofs.Sessions.{place_after}
use Rattle.session_book.proofs.Places.{added_apart, added_last, added_there}
use Rattle.session_book.proofs.book.Book.begin.Goals as goal

pub invariant_of-self-2 : goal.invariant_of-self-2
invariant_of-self-2 c =
    let s = session_view c.args.s in
    let ks = c.args.self.now.kept.items in
    let old = c.args.self.now.places in
    let more = c.insert.new.self in
    let behind : c.push_reserved.new.self.items ≡ c.args.self.now.kept.items ++ c.args.kept ∷ [] = rw (c.push_reserved.ensures.items, c.in_ok-reserve.ensures.items) refl in
    let long : c.in-Ok.place ≡ length c.args.self.now.kept.items = c.in-Ok.ensures.1 ∙ c.len.ensures ∙ c.args.self.now.kept.ok.0 in
    let added = place_after old more c.args.s (length ks) (λ q. rw (sym long) (c.in_ok-insert.ensures.updates.0 q)) in
    record {
      known = λ p is.
          subst (λ (q : Place). place_of more.entries (session_view q.session) ≡ Some q.place) (same_Some _ p is)
          (added_there old.entries ks c.args.self.now.apart s c.requires more.entries c.args.kept added ∙ ap (λ (n : ℕ). Some n) (sym long));
      apart = rw behind (added_apart old.entries ks c.args.self.now.apart s c.requires more.entries c.args.kept added);
    }

pub returns-clause-ok : goal.returns-clause-ok
returns-clause-ok c = λ x.
    let s = session_view c.args.s in
    let ks = c.args.self.now.kept.items in
    let old = c.args.self.now.places in
    let more = c.insert.new.self in
    let behind : c.push_reserved.new.self.items ≡ c.args.self.now.kept.items ++ c.args.kept ∷ [] = rw (c.push_reserved.ensures.items, c.in_ok-reserve.ensures.items) refl in
    let long : c.in-Ok.place ≡ length c.args.self.now.kept.items = c.in-Ok.ensures.1 ∙ c.len.ensures ∙ c.args.self.now.kept.ok.0 in
    let added = place_after old more c.args.s (length ks) (λ q. rw (sym long) (c.in_ok-insert.ensures.updates.0 q)) in
    rw behind (added_last old.entries ks c.args.self.now.apart s c.requires more.entries c.args.kept added x)
