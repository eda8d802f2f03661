-- The keys and the errors of outcomes, one after another.
use Rattle.std.proofs.lemmas.List.{append_assoc}
use Rattle.std.proofs.Common.{◌≡◌, refl, ap, sym, ◌∙◌, ℕ, suc, ◌-◌, List, [], ◌∷◌, ◌++◌, drop, map, length, get_or, ◌+◌, ◌<◌, add-one, drop-cons}
use Rattle.std.specs.Arc.{arc_value}
use Rattle.std.specs.Prelude.{Option, Some, None}
use Rattle.bson_model.specs.Spelling.{written_value}
use Rattle.command_replies.specs.declared.answer.WriteError.{WriteError}
use Rattle.command_replies.specs.declared.answer.Upserted.{Upserted}
use Rattle.command_replies.specs.Errors.{errors_view, error_view}
use Rattle.command_replies.specs.Upserts.{upserted_view, key_view}
use Rattle.command_model.specs.CommandSizes.{keys_length}
use Rattle.bson_model.specs.Tree.{Datum}
use Rattle.command_model.specs.Writes as writes
use Rattle.reply_model.specs.Outcomes.{Done, errors_of, outcome_in, refusal_in, upserted_by}
use Rattle.base_model.specs.Refusals.{Refusal}
use Rattle.protocol_model.specs.Statements.{done_view}
use Rattle.protocol_model.specs.declared.statement.Done as program

pub errors_pushed : (errors : List WriteError) (e : WriteError) → errors_view (errors ++ e ∷ []) ≡ errors_view errors ++ error_view e ∷ []
errors_pushed [] e = refl
errors_pushed (d ∷ errors) e = ap (λ l. error_view d ∷ l) (errors_pushed errors e)

pub keys_pushed : (keys : List Upserted) (u : Upserted) → upserted_view (keys ++ u ∷ []) ≡ upserted_view keys ++ key_view u ∷ []
keys_pushed [] u = refl
keys_pushed (k ∷ keys) u = ap (λ l. key_view k ∷ l) (keys_pushed keys u)

-- the errors and the keys of a list are those of its first outcome and of the others
pub errors_both : (d : Done) (rest : List Done) → errors_of (d ∷ rest) ≡ errors_of (d ∷ []) ++ errors_of rest
errors_both d rest = by_error (refusal_in d.answer) where
  by_error : (told : Option Refusal) → (elim told as (λ (o : Option Refusal). List writes.WriteError) [ None ↦ errors_of rest | Some r ↦ record { index = d.index; refusal = r } ∷ errors_of rest ])
      ≡ (elim told as (λ (o : Option Refusal). List writes.WriteError) [ None ↦ [] | Some r ↦ record { index = d.index; refusal = r } ∷ [] ]) ++ errors_of rest
  by_error None = refl
  by_error (Some r) = refl

pub keys_both : (d : Done) (rest : List Done) → upserted_by (d ∷ rest) ≡ upserted_by (d ∷ []) ++ upserted_by rest
keys_both d rest = by_key (outcome_in d.answer).upserted where
  by_key : (upserted : Option Datum) → (elim upserted as (λ (o : Option Datum). List writes.Upserted) [ None ↦ upserted_by rest | Some k ↦ record { index = d.index; key = k } ∷ upserted_by rest ])
      ≡ (elim upserted as (λ (o : Option Datum). List writes.Upserted) [ None ↦ [] | Some k ↦ record { index = d.index; key = k } ∷ [] ]) ++ upserted_by rest
  by_key None = refl
  by_key (Some k) = refl

-- the error and the key of one statement
pub error_told : (d : Done) (told : Option Refusal) → told ≡ refusal_in d.answer
    → errors_of (d ∷ []) ≡ (elim told as (λ (o : Option Refusal). List writes.WriteError) [ None ↦ [] | Some r ↦ record { index = d.index; refusal = r } ∷ [] ])
error_told d told is =
    ap (λ (told : Option Refusal). elim told as (λ (o : Option Refusal). List writes.WriteError) [ None ↦ [] | Some r ↦ record { index = d.index; refusal = r } ∷ [] ]) (sym is)

pub key_told : (d : Done) (upserted : Option Datum) → upserted ≡ (outcome_in d.answer).upserted
    → upserted_by (d ∷ []) ≡ (elim upserted as (λ (o : Option Datum). List writes.Upserted) [ None ↦ [] | Some k ↦ record { index = d.index; key = k } ∷ [] ])
key_told d upserted is =
    ap (λ (upserted : Option Datum). elim upserted as (λ (o : Option Datum). List writes.Upserted) [ None ↦ [] | Some k ↦ record { index = d.index; key = k } ∷ [] ]) (sym is)

-- one more outcome, of a list that maps each outcome
pub goes_on : {X : Type 0} (of : List Done → List X) → ((d : Done) (rest : List Done) → of (d ∷ rest) ≡ of (d ∷ []) ++ of rest)
    → (dones : List program.Done) (i : ℕ) (d : program.Done) (told new whole : List X) → i < length dones → d ≡ get_or dones i d
    → new ≡ told ++ of (done_view d ∷ []) → told ++ of (map done_view (drop i dones)) ≡ whole → new ++ of (map done_view (drop (i + 1) dones)) ≡ whole
goes_on {X} of both dones i d told new whole inside here more inv =
    let cut : drop i dones ≡ d ∷ drop (i + 1) dones = rw add-one (drop-cons dones i d inside ∙ ap (λ (first : program.Done). first ∷ drop (suc i) dones) (sym here)) in
    ap (λ (l : List X). l ++ of (map done_view (drop (i + 1) dones))) more
    ∙ append_assoc told (of (done_view d ∷ [])) (of (map done_view (drop (i + 1) dones)))
    ∙ ap (λ (l : List X). told ++ l) (sym (both (done_view d) (map done_view (drop (i + 1) dones))))
    ∙ ap (λ (l : List program.Done). told ++ of (map done_view l)) (sym cut)
    ∙ inv

-- the length of the keys from an index on
pub length_on : (keys : List Upserted) (i : ℕ) (u : Upserted) → i < length keys → u ≡ get_or keys i u
    → keys_length (upserted_view (drop i keys)) ≡ length (written_value (arc_value u.key)) + keys_length (upserted_view (drop (i + 1) keys))
length_on keys i u inside here =
    let cut : drop i keys ≡ u ∷ drop (i + 1) keys = rw add-one (drop-cons keys i u inside ∙ ap (λ (first : Upserted). first ∷ drop (suc i) keys) (sym here)) in
    ap (λ (l : List Upserted). keys_length (upserted_view l)) cut
