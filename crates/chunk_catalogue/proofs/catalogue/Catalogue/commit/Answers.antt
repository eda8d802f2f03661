use Rattle.std.proofs.Common.{◌≡◌, ◌∙◌, sym, rules, arith}
use Rattle.std.specs.Arc.{arc_value}
use Rattle.std.proofs.lemmas.List.Sorted.{list_any-IsPermutation}
use Rattle.base_model.specs.Identities.{same_request}
use Rattle.chunk_catalogue.specs.Catalogues.{changes_of}
use Rattle.chunk_catalogue.specs.Views.{id_view, words_view}
use Rattle.chunk_catalogue.proofs.Next.{commit_made}
use Rattle.chunk_catalogue.proofs.catalogue.Catalogue.commit.Goals as goal

pub invariant_of-self : goal.invariant_of-self
invariant_of-self c = record {
  known = c.args.self.now.known;
  settled =
      λ id. sym (list_any-IsPermutation (λ k. same_request (id_view id) (id_view k)) _ _ c.reserve.ensures.keys.0) ∙ c.args.self.now.settled id;
  fitting = c.args.self.now.fitting;
}

pub returns-clause-next : goal.returns-clause-next
returns-clause-next c =
    let name : c.in_ok-copy.field-0 ≡ c.args.words.now.namespace = search rules in
    let keys : c.in_ok-copy-2.field-0 ≡ c.args.words.now.range = search rules in
    let same : arc_value c.in_ok-new.field-0 ≡ c.in_ok-table.table = search rules in
    let made = commit_made (words_view c.args.words.now) _ _ c.args.at.0 (changes_of c.args.self.now) _ _ name keys c.requires.later
    c.in_ok-table.ensures.answer c.in_ok-table.ensures.table same in
    record { follows = made.0; table = made.1; room = search (rules, arith) }
