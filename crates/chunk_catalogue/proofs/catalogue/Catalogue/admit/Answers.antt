use Rattle.std.proofs.Common.{◌≡◌, ◌∙◌, sym, ap, subst, subst₂, ◌||◌, ◌∷◌, List}
use Rattle.std.specs.Arc.{arc_value}
use Rattle.std.proofs.Math.Logic.{∥∥₁_map}
use Rattle.chunk_model.specs.Tables.{table_of}
use Rattle.chunk_model.specs.Changes.{Change, known_table, namespace_of, is_committed}
use Rattle.chunk_model.specs.Placement.{AreFitting}
use Rattle.chunk_catalogue.specs.Admitted.{AreKnown, commits_id, newest_first}
use Rattle.chunk_catalogue.specs.Views.{change_view, id_view}
use Rattle.chunk_catalogue.specs.Catalogues.{changes_of}
use Rattle.chunk_catalogue.proofs.Known.{known_next}
use Rattle.chunk_catalogue.proofs.Lists.{newest_after, committed_after}
use Rattle.chunk_catalogue.proofs.Names.{next_named}
use Rattle.chunk_catalogue.proofs.Rooms.{table_room}
use Rattle.chunk_catalogue.proofs.catalogue.Catalogue.admit.Goals as goal

pub put-requires : goal.put-requires
put-requires c =
    let self = c.args.self.now in
    let x = change_view c.args.change.fields in
    let t = arc_value c.args.change.table in
    let name = next_named x (changes_of self) t c.requires.next.table in
    record {
      room = λ none. table_room self c.args.change.fields (known_table (namespace_of x) (changes_of self)) t c.requires.next.room
          c.requires.next.table (sym (self.known (namespace_of x)) ∙ ap (λ n. table_of n self.tables.tables) (sym name) ∙ none);
    }

pub invariant_of-self : goal.invariant_of-self
invariant_of-self c =
    let self = c.args.self.now in
    let fields = c.args.change.fields in
    let x = change_view fields in
    let older = changes_of self in
    let newest : newest_first c.with-self.result.items ≡ x ∷ older = ap newest_first c.with-self.ensures ∙ newest_after self.admitted.items fields _ in
    record {
      known = subst₂ AreKnown (sym c.put.ensures) (sym newest)
          (known_next x older self.tables.tables (arc_value c.args.change.table) self.known c.requires.next.table);
      settled = λ id.
          c.remember.ensures id
          ∙ ap (λ b. commits_id fields id || b) (self.settled id)
          ∙ sym (committed_after fields older id)
          ∙ ap (λ (changes : List Change). is_committed (id_view id) changes) (sym newest);
      fitting = subst (λ (changes : List Change). ∥ AreFitting changes ∥₁) (sym newest) (∥∥₁_map self.fitting (λ f. (c.requires.next.follows, f)));
    }

pub returns : goal.returns
returns c = ap newest_first c.with-self.ensures ∙ newest_after c.args.self.now.admitted.items c.args.change.fields _
