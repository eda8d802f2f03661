-- Arrays, built one value at a time.
use Rattle.std.proofs.Common.{◌≡◌, ℕ, suc, ◌+◌, ◌<◌, ◌≤◌, List, ◌∷◌, length, get_or, drop, refl, sym, ◌∙◌, ap, add-one, drop-cons, arith, codes, [], Option, Some, None}
use Rattle.std.proofs.lemmas.List.{drop_all}
use Rattle.bson_model.specs.Tree.{Datum, array_value, Items, no_items, item, joined_items, Fields, no_fields, field, joined}
use Rattle.base_model.specs.ReplyParts.{shown_if}
use Rattle.command_model.specs.AnswerParts.{number}
use Rattle.command_model.specs.Writes.{upserted_items, upserted_shown, write_error_items, write_errors_shown}
use Rattle.command_replies.specs.Errors.{errors_view}
use Rattle.command_replies.specs.Upserts.{upserted_view}
use Rattle.command_replies.specs.declared.answer.Upserted.{Upserted}
use Rattle.command_replies.specs.declared.answer.WriteError.{WriteError}
use Rattle.std.specs.Arc.{arc_value}
use Rattle.bson_model.proofs.Joined.{joined_items_none, joined_items_one, joined_none}

-- no evidence is shown
pub nothing_shown : (ms : Fields) (o : Option Fields) → None ≡ o → ms ≡ joined ms (shown_if o)
nothing_shown ms None e = sym (joined_none ms)
nothing_shown ms (Some document) e = absurd cc

-- arrays of the values of a list
module _ {A : Type 0} (items : List A → Items) (value : A → Datum) (none : items [] ≡ no_items) (more : (x : A) (xs : List A) → items (x ∷ xs) ≡ item (value x) (items xs)) where
  -- one more value
  pub one_more : (all made new : Items) (list : List A) (i : ℕ) (x other : A) → joined_items made (items (drop i list)) ≡ all → i < length list → x ≡ get_or list i other → new ≡ joined_items made (item (value x) no_items) →
      joined_items new (items (drop (i + 1) list)) ≡ all
  one_more all made new list i x other whole inside is new_is =
      let cut : drop i list ≡ x ∷ drop (i + 1) list = rw add-one (drop-cons list i other inside ∙ ap (λ (first : A). first ∷ drop (suc i) list) (sym is)) in
      let left : joined_items made (item (value x) (items (drop (i + 1) list))) ≡ all = rw (cut, more x (drop (i + 1) list)) at whole in
      rw new_is (joined_items_one made (items (drop (i + 1) list)) (value x) ∙ left)

  -- all values
  pub all_made : (all made : Items) (list : List A) (i : ℕ) → joined_items made (items (drop i list)) ≡ all → length list ≤ i → made ≡ all
  all_made all made list i whole outside =
      let left : joined_items made no_items ≡ all = rw (drop_all i list outside, none) at whole in
      sym (joined_items_none made) ∙ left

-- errors are shown where there are some
pub errors_shown : (errors : List WriteError) (more : Fields) → ¬ (length errors ≡ 0) → write_errors_shown (errors_view errors) more ≡ field (codes "writeErrors") (array_value (write_error_items (errors_view errors))) more
errors_shown [] more some = absurd (some refl)
errors_shown (e ∷ errors) more some = refl

-- the key of an upserted document
abbrev pub key_shown : Upserted → Fields
key_shown u = field (codes "index") (number u.index) (field (codes "_id") (arc_value u.key) no_fields)

-- keys are shown where there are some
pub keys_shown : (upserted : List Upserted) (more : Fields) → ¬ (length upserted ≡ 0) → upserted_shown (upserted_view upserted) more ≡ field (codes "upserted") (array_value (upserted_items (upserted_view upserted))) more
keys_shown [] more some = absurd (some refl)
keys_shown (u ∷ upserted) more some = refl

-- nothing is shown where there is none
pub no_errors_shown : (errors : List WriteError) (more : Fields) → length errors ≡ 0 → write_errors_shown (errors_view errors) more ≡ more
no_errors_shown [] more none = refl
no_errors_shown (e ∷ errors) more none = absurd (omega arith)

pub no_keys_shown : (upserted : List Upserted) (more : Fields) → length upserted ≡ 0 → upserted_shown (upserted_view upserted) more ≡ more
no_keys_shown [] more none = refl
no_keys_shown (u ∷ upserted) more none = absurd (omega arith)
