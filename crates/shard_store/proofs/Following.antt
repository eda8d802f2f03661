-- Entries that are planned, once the first of them is made.
use Rattle.std.proofs.Common.{◌≡◌, ◌<◌, ◌+◌, ℕ, List, [], ◌∷◌, ◌++◌, refl, sym, ap, subst, ◌∙◌, arith, append_assoc, append-nil}
use Rattle.std.specs.Prelude.{Bool, true, false, ◌&&◌, Option, Some, None, map}
use Rattle.std.specs.Str.{bytes_eq}
use Rattle.bson_values.specs.Tree.{Datum, Fields}
use Rattle.cluster_base.specs.declared.identity.RequestId.{RequestId}
use Rattle.cluster_base.specs.declared.identity.Stmt.{Stmt}
use Rattle.command_replies.specs.Kinds.{given_view}
use Rattle.command_replies.specs.declared.answer.ClientNumber.{ClientNumber}
use Rattle.node_model.specs.Exchanges.{number_for}
use Rattle.node_model.specs.History.{StatementNumber, Operation, Outcome, same_key, key_written, effect, Entry, writes_to, document_left}
use Rattle.node_model.specs.Letters.{Statement}
use Rattle.node_model.specs.Outcomes.{Done, done_of, was_done}
use Rattle.node_model.specs.Service.{told_again, seen_before, entry_for}
use Rattle.history_model.specs.Notes.{Seen, same_number}
use Rattle.history_model.proofs.LegalHistories.{others_untouched}
use Rattle.history_model.proofs.Lists.{all_both}
use Rattle.history_model.proofs.Noted.{same_number_is}
use Rattle.statement_views.specs.Views.{number_view}
use Rattle.node_traits.specs.Ids.{id_view}
use Rattle.shard_store.specs.Entries.{entry_view, left_behind, operation_of}
use Rattle.shard_store.specs.Outcomes.{outcome_view, done_view, statement_of}
use Rattle.shard_store.proofs.Seen.{index_from, index_is, number_is, other_than_new, seen_aside, seen_number, transactions_same}
use Rattle.shard_store.specs.Plans.{IsEffect, IsNext, IsBehind, IsOf, AreNext, IsServed, served_again, served_new}
use Rattle.shard_store.specs.declared.entry.Planned.{Planned}
use Rattle.shard_store.specs.declared.outcome.EntryResult.{EntryResult}
use Rattle.shard_store.specs.declared.outcome.StatementOutcome.TheVariants.{WasDone}

other_number : (p q : Planned) → p.statement.index < q.statement.index → same_number (number_view p.statement) (number_view q.statement) ≡ false
other_number p q less = by_test (same_number (number_view p.statement) (number_view q.statement)) refl
  where
    by_test : (b : Bool) → same_number (number_view p.statement) (number_view q.statement) ≡ b → b ≡ false
    by_test false h = refl
    by_test true h = absurd (omega (arith, less, ap (λ (n : StatementNumber). n.index) (same_number_is (number_view p.statement) (number_view q.statement) h)))

and_false : (a : Bool) → (a && false) ≡ false
and_false true = refl
and_false false = refl

-- where the same document is stored, an entry does the same
effect_on : (namespace : List ℕ) (entries more : List Entry) (q : Planned) → document_left namespace (Some q.key) entries ≡ document_left namespace (Some q.key) more →
    IsEffect entries namespace (operation_of q.words) q.key q.left q.outcome → IsEffect more namespace (operation_of q.words) q.key q.left q.outcome
effect_on namespace entries more q same does = record {
  under = does.under;
  leaves = subst (λ (b : Option Fields). left_behind q.left b ≡ (effect (operation_of q.words) b).0) same does.leaves;
  told = subst (λ (b : Option Fields). outcome_view q.outcome ≡ (effect (operation_of q.words) b).1) same does.told;
}

-- statements of one request are of one transaction
same_transaction : (given : Option ClientNumber) (id : RequestId) (s t : Stmt) → s ≡ statement_of given id s.index → t ≡ statement_of given id t.index → s.txn ≡ t.txn
same_transaction given id s t first second =
    ap (λ (x : Stmt). x.txn) first ∙ transactions_same given id s.index t.index ∙ sym (ap (λ (x : Stmt). x.txn) second)

module _ (shard : ℕ) (namespace : List ℕ) where
  -- one that comes after another may follow it
  item_on : (entries : List Entry) (last : ℕ) (p q : Planned) → IsNext entries last namespace p → IsNext entries last namespace q → IsBehind p q →
      p.statement.txn ≡ q.statement.txn → IsNext (entries ++ entry_view shard namespace p ∷ []) p.time.0 namespace q
  item_on entries last p q first next behind transaction =
      let other : writes_to namespace (Some q.key) (entry_view shard namespace p) ≡ false =
      ap (λ (written : Option Datum). bytes_eq namespace namespace && same_key written (Some q.key)) first.does.under
      ∙ ap (λ (b : Bool). bytes_eq namespace namespace && b) behind.key ∙ and_false (bytes_eq namespace namespace) in
      let same : document_left namespace (Some q.key) entries ≡ document_left namespace (Some q.key) (entries ++ entry_view shard namespace p ∷ []) =
      sym (others_untouched namespace (Some q.key) None entries (entry_view shard namespace p) other) in
      record {
        later = behind.later;
        does = effect_on namespace entries (entries ++ entry_view shard namespace p ∷ []) q same next.does;
        unseen =
            ap (λ (found : Seen Outcome). told_again (number_view q.statement) found)
            (seen_aside entries (entry_view shard namespace p) (number_view q.statement) first.unseen transaction (other_number p q behind.index))
            ∙ next.unseen;
      }

  pub next_on : (entries : List Entry) (last : ℕ) (given : Option ClientNumber) (id : RequestId) (p : Planned) (ps : List Planned) →
      AreNext entries last namespace given id (p ∷ ps) → AreNext (entries ++ entry_view shard namespace p ∷ []) p.time.0 namespace given id ps
  next_on entries last given id p ps next = record {
    each = all_both (IsNext entries last namespace) (λ (q : Planned). IsBehind p q × IsOf given id q)
        (IsNext (entries ++ entry_view shard namespace p ∷ []) p.time.0 namespace) ps
        (λ q is own. item_on entries last p q next.each.0 is own.0 (same_transaction given id p.statement q.statement next.own.0 own.1)) next.each.1
        (all_both (IsBehind p) (IsOf given id) (λ (q : Planned). IsBehind p q × IsOf given id q) ps (λ q behind own. (behind, own)) next.turn.0 next.own.1);
    turn = next.turn.1;
    own = next.own.1;
  }

  -- after all others the last does what it was planned to do, and was not applied before
  pub record StandsLast (entries : List Entry) (q : Planned) : Type 0 where
    pub does : IsEffect entries namespace (operation_of q.words) q.key q.left q.outcome
    pub unseen : seen_before (number_view q.statement) entries ≡ None

  pub last_stands : (entries : List Entry) (last : ℕ) (given : Option ClientNumber) (id : RequestId) (ps : List Planned) (q : Planned) →
      AreNext entries last namespace given id (ps ++ q ∷ []) → StandsLast (entries ++ map (entry_view shard namespace) ps) q
  last_stands entries last given id [] q next =
      subst (λ (l : List Entry). StandsLast l q) (sym (append-nil entries)) (record { does = next.each.0.does; unseen = next.each.0.unseen })
  last_stands entries last given id (p ∷ ps) q next =
      subst (λ (l : List Entry). StandsLast l q) (append_assoc entries (entry_view shard namespace p ∷ []) (map (entry_view shard namespace) ps))
      (last_stands (entries ++ entry_view shard namespace p ∷ []) p.time.0 given id ps q (next_on entries last given id p (ps ++ q ∷ []) next))

  -- SERVING

  -- the outcome of a statement of the request without an entry is its outcome after those that are planned too
  told_on : (entries : List Entry) (last : ℕ) (given : Option ClientNumber) (id : RequestId) (ps : List Planned) (s : Stmt) (d : Done) →
      AreNext entries last namespace given id ps → s ≡ statement_of given id s.index → seen_before (number_view s) entries ≡ Some d →
      seen_before (number_view s) (entries ++ map (entry_view shard namespace) ps) ≡ Some d
  told_on entries last given id [] s d next own told = ap (λ (l : List Entry). seen_before (number_view s) l) (append-nil entries) ∙ told
  told_on entries last given id (p ∷ ps) s d next own told =
      let unseen = next.each.0.unseen in
      let aside : seen_before (number_view s) (entries ++ entry_view shard namespace p ∷ []) ≡ seen_before (number_view s) entries =
      ap (λ (found : Seen Outcome). told_again (number_view s) found)
      (seen_aside entries (entry_view shard namespace p) (number_view s) unseen (same_transaction given id p.statement s next.own.0 own)
      (other_than_new entries (number_view p.statement) (number_view s) d unseen told)) in
      ap (λ (l : List Entry). seen_before (number_view s) l) (sym (append_assoc entries (entry_view shard namespace p ∷ []) (map (entry_view shard namespace) ps)))
      ∙ told_on (entries ++ entry_view shard namespace p ∷ []) p.time.0 given id ps s d (next_on entries last given id p ps next) own (aside ∙ told)

  pub again : (entries : List Entry) (last : ℕ) (given : Option ClientNumber) (id : RequestId) (ps : List Planned) (index time : ℕ) (operation : Operation) (d : Done) →
      AreNext entries last namespace given id ps → Some d ≡ seen_before (number_for (given_view given) (id_view id) index) entries →
      IsServed shard namespace (entries ++ map (entry_view shard namespace) ps) time
      (record { number = number_for (given_view given) (id_view id) index; operation = operation }) (Some d) [] time
  again entries last given id ps index time operation d next told =
      let s : Stmt = statement_of given id index in
      let number : number_view s ≡ number_for (given_view given) (id_view id) index = number_is given id index in
      let own : s ≡ statement_of given id s.index = ap (λ (i : ℕ). statement_of given id i) (sym (index_is given id index)) in
      let stays : seen_before (number_view s) (entries ++ map (entry_view shard namespace) ps) ≡ Some d =
      told_on entries last given id ps s d next own (ap (λ (n : StatementNumber). seen_before n entries) number ∙ sym told) in
      served_again d (ap (λ (n : StatementNumber). seen_before n (entries ++ map (entry_view shard namespace) ps)) (sym number) ∙ stays)

  pub served_next : (entries : List Entry) (last : ℕ) (given : Option ClientNumber) (id : RequestId) (ps : List Planned) (p : Planned) (index time : ℕ)
      (operation : Operation) (told : EntryResult) → AreNext entries last namespace given id (ps ++ p ∷ []) → p.statement ≡ statement_of given id index →
      p.time.0 ≡ time + 1 → operation_of p.words ≡ operation → told.time ≡ p.time → outcome_view told.outcome ≡ outcome_view p.outcome →
      IsServed shard namespace (entries ++ map (entry_view shard namespace) ps) time
      (record { number = number_for (given_view given) (id_view id) index; operation = operation })
      (Some (done_view index (WasDone told))) (entry_view shard namespace p ∷ []) (time + 1)
  served_next entries last given id ps p index time operation told next own timed same at words =
      let before = entries ++ map (entry_view shard namespace) ps in
      let s : Statement = record { number = number_for (given_view given) (id_view id) index; operation = operation } in
      let stands = last_stands entries last given id ps p next in
      let number : number_view p.statement ≡ number_for (given_view given) (id_view id) index = ap number_view own ∙ number_is given id index in
      let outcome : outcome_view p.outcome ≡ (effect s.operation (document_left namespace (key_written s.operation) before)).1 =
      stands.does.told
      ∙ ap (λ (written : Option Datum). (effect (operation_of p.words) (document_left namespace written before)).1) (sym stands.does.under)
      ∙ ap (λ (o : Operation). (effect o (document_left namespace (key_written o) before)).1) same in
      let is : entry_view shard namespace p ≡ entry_for before (time + 1) shard namespace s =
      λ i. record { time = timed i; shard = shard; number = number i; namespace = namespace; operation = same i; outcome = outcome i } in
      let unseen : seen_before s.number before ≡ None = ap (λ (n : StatementNumber). seen_before n before) (sym number) ∙ stands.unseen in
      let index_same : p.statement.index ≡ index = index_from given id index p.statement own in
      let done_is : done_of (entry_view shard namespace p) ≡ done_view index (WasDone told) =
      λ i. record { index = index_same i; answer = was_done (sym at i).0 (sym words i) } in
      subst (λ (d : Done). IsServed shard namespace before time s (Some d) (entry_view shard namespace p ∷ []) (time + 1)) done_is
      (subst (λ (e : Entry). IsServed shard namespace before time s (Some (done_of e)) (e ∷ []) (time + 1)) (sym is) (served_new unseen))

-- the entry of a new statement, planned by what it does
pub next_from : (entries : List Entry) (last : ℕ) (namespace : List ℕ) (p : Planned) (given : Option ClientNumber) (id : RequestId) (index : ℕ) → last < p.time.0 →
    p.statement ≡ statement_of given id index → IsEffect entries namespace (operation_of p.words) p.key p.left p.outcome →
    None ≡ seen_before (number_for (given_view given) (id_view id) index) entries → IsNext entries last namespace p
next_from entries last namespace p given id index later own does unseen = record {
  later = later;
  does = does;
  unseen = seen_number entries given id index p.statement own ∙ sym unseen;
}

pub own_from : (given : Option ClientNumber) (id : RequestId) (s : Stmt) (index : ℕ) → s ≡ statement_of given id index → s ≡ statement_of given id s.index
own_from given id s index own = own ∙ ap (λ (i : ℕ). statement_of given id i) (sym (index_from given id index s own))
