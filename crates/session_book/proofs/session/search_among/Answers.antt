use Rattle.std.proofs.Common.{rules}
use Rattle.std.proofs.lemmas.List.Sorted.{answers_always}
use Rattle.session_book.proofs.Rising.{searched}
use Rattle.session_book.proofs.session.search_among.Goals as goal

-- the closure gives a note's index
pub returns : goal.returns
returns c =
    let facts = c.binary_search_by_key.ensures in
    let by_index = facts.position (λ noted. noted.index) (answers_always _ _ _ (λ f a r g called. search rules)) in
    searched _ c.requires c.args.index _ facts.bound by_index
