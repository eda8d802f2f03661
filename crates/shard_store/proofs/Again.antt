-- Entries that are made again.
use Rattle.std.proofs.Common.{◌≡◌, List, refl, sym, ap, ◌∙◌}
use Rattle.std.specs.Prelude.{Bool, true, false, Option, Some, None, is_none}
use Rattle.value_compare.specs.declared.words.Reply.{Reply}
use Rattle.node_model.specs.History.{StatementNumber, Operation, Outcome, Entry, document_left, effect}
use Rattle.node_model.specs.Outcomes.{Done}
use Rattle.node_model.specs.Service.{seen_before, entry_for}
use Rattle.history_model.specs.Notes.{Seen, new_statement, done_before, older_than, seen}
use Rattle.session_book.specs.Books.{is_new}
use Rattle.statement_views.specs.Views.{number_view}
use Rattle.std.specs.Prelude.{ℕ}
use Rattle.shard_store.proofs.Seen.{look_new, new_kept}
use Rattle.shard_store.specs.Entries.{Kept, entries_kept, entry_view, notes_kept, operation_of}
use Rattle.shard_store.specs.Outcomes.{outcome_view}
use Rattle.shard_store.specs.Plans.{IsEffect}
use Rattle.shard_store.specs.declared.entry.Planned.{Planned}

new_is : (s : Seen Reply) → is_new s ≡ true → s ≡ new_statement
new_is new_statement e = refl
new_is (done_before time reply) e = absurd cc
new_is (older_than transaction) e = absurd cc

-- a statement that the book does not have is new
pub unseen_again : (shard : ℕ) (number : StatementNumber) (kept : List Kept) (s : Seen Reply) → s ≡ seen (notes_kept kept) number → is_new s ≡ true
    → seen_before number (entries_kept shard kept) ≡ None
unseen_again shard number kept s is new = sym (look_new shard number kept (sym is ∙ new_is s new))

-- and one that it has is not
pub seen_again : (shard : ℕ) (number : StatementNumber) (kept : List Kept) (s : Seen Reply) → s ≡ seen (notes_kept kept) number → is_new s ≡ false
    → is_none (seen_before number (entries_kept shard kept)) ≡ false
seen_again shard number kept s is old = by_case (seen_before number (entries_kept shard kept)) refl
  where
    by_case : (o : Option Done) → seen_before number (entries_kept shard kept) ≡ o → is_none o ≡ false
    by_case (Some d) e = refl
    by_case None e =
        let fresh : is_new s ≡ true = ap is_new (is ∙ new_kept shard number kept e) in
        absurd (cc)

-- the planned entry is that of its operation
pub entry_again : (shard : ℕ) (entries : List Entry) (namespace : List ℕ) (p : Planned) (operation : Operation) → operation_of p.words ≡ operation
    → IsEffect entries namespace operation p.key p.left p.outcome
    → entry_view shard namespace p ≡ entry_for entries p.time.0 shard namespace (record { number = number_view p.statement; operation = operation })
entry_again shard entries namespace p operation same does =
    let made : Operation → Outcome → Entry = λ o out. record {
      time = p.time.0;
      shard = shard;
      number = number_view p.statement;
      namespace = namespace;
      operation = o;
      outcome = out;
    } in
    ap (λ o. made o (outcome_view p.outcome)) same
    ∙ ap (λ out. made operation out) (does.told ∙ ap (λ k. (effect operation (document_left namespace k entries)).1) (sym does.under))
