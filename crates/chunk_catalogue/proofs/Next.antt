-- A change that was made for a request follows those that were admitted, and the table made with it is the one after it.
use Rattle.std.proofs.Common.{◌≡◌, sym, subst, ◌∙◌, ℕ, ◌<◌, List, ap}
use Rattle.std.specs.Prelude.{Some, None}
use Rattle.std.specs.List.{AllByRecursion}
use Rattle.value_model.specs.Keys.{Range}
use Rattle.chunk_model.specs.Tables.{Table, first_table}
use Rattle.chunk_model.specs.Changes.{Change, commit_change, namespace_of, time_of, known_table, table_after}
use Rattle.chunk_model.specs.Placement.{Follows}
use Rattle.chunk_model.specs.Requests.{CommitWords, commit_answer}
use Rattle.chunk_laws.proofs.Requests.{create_follows, commit_follows}
use Rattle.chunk_catalogue.specs.Moves.{committed_by, moved_answer}
use Rattle.chunk_catalogue.proofs.Answered.{creation_of, created, table_created}

-- the change follows the others, and this is the table after it
abbrev pub Made : Change → List Change → Table → Type 0
Made x changes t = Follows x changes × (table_after x (known_table (namespace_of x) changes) ≡ Some t)

abbrev AreEarlier : ℕ → List Change → Type 0
AreEarlier at changes = AllByRecursion (λ y. time_of y < at) changes

pub creation_made : (ns given : List ℕ) (at : ℕ) (changes : List Change) (t : Table) → given ≡ ns → AreEarlier at changes
    → known_table ns changes ≡ None → t ≡ first_table (record { namespace = ns; epoch = 1; at = at })
    → Made (creation_of given 1 at) changes t
creation_made ns given at changes t same later is first =
    subst (λ n. Made (creation_of n 1 at) changes t) (sym same)
    (create_follows ns at changes _ later (created ns at changes is), table_created ns at changes is ∙ ap (λ u. Some u) (sym first))

-- the change of a request for a move, with this name and range
abbrev pub commit_with : CommitWords → List ℕ → Range → ℕ → Change
commit_with words ns range at =
    commit_change (record { id = words.id; namespace = ns; range = range; from = words.from; to = words.to; at = at })

pub commit_made : (words : CommitWords) (ns : List ℕ) (range : Range) (at : ℕ) (changes : List Change) (t u : Table) → ns ≡ words.namespace
    → range ≡ words.range → AreEarlier at changes → commit_answer words at changes ≡ moved_answer words at
    → table_after (committed_by words at) (known_table words.namespace changes) ≡ Some u → t ≡ u → Made (commit_with words ns range at) changes t
commit_made words ns range at changes t u name keys later answer after same =
    subst (λ n. Made (commit_with words n range at) changes t) (sym name)
    (subst (λ r. Made (commit_with words words.namespace r at) changes t) (sym keys)
    (commit_follows words at changes _ later answer, after ∙ ap (λ v. Some v) (sym same)))
