-- What a number is against notes that stand after others.
use Rattle.std.proofs.Common.{◌≡◌, ◌≢◌, ℕ, ℤ, List, [], ◌∷◌, ◌++◌, refl, sym, ap, subst, ◌∙◌, arith}
use Rattle.std.specs.Prelude.{Bool, true, false, ◌&&◌, Option, Some, None, ◌==◌, int_lt, if◌then◌else◌}
use Rattle.std.specs.Int.{int_max}
use Rattle.std.specs.Option.{unwrap_or, option_or}
use Rattle.std.specs.Ordering.{int_eq}
use Rattle.std.proofs.lemmas.Int.{ints, clamps}
use Rattle.bson_model.proofs.Booleans.{both}
use Rattle.history_model.specs.History.{Session, StatementNumber}
use Rattle.history_model.specs.Notes.{Note, Seen, new_statement, done_before, older_than, same_session, same_number, greatest_of, noted, seen_beside, seen}
use Rattle.history_model.specs.Merges.{seen_by_both}
use Rattle.history_model.proofs.Noted.{same_session_is, same_number_is}

-- the greater of two transactions, where there are any
abbrev greater : Option ℤ → Option ℤ → Option ℤ
greater None other = other
greater (Some a) None = Some a
greater (Some a) (Some b) = Some (int_max a b)

-- the greatest with that of one note more, in front
abbrev beside : Bool → ℤ → Option ℤ → Option ℤ
beside b t rest = if b then Some (int_max t (unwrap_or rest t)) else rest

beside_greater : (b : Bool) (t : ℤ) (g h : Option ℤ) → beside b t (greater g h) ≡ greater (beside b t g) h
beside_greater false t g h = refl
beside_greater true t None None = refl
beside_greater true t None (Some y) = ap (λ (x : ℤ). Some x) (omega (arith, ints, clamps))
beside_greater true t (Some x) None = refl
beside_greater true t (Some x) (Some y) = ap (λ (z : ℤ). Some z) (omega (arith, ints, clamps))

module _ {A : Type 0} where
  greatest_append : (session : Session) (notes others : List (Note A)) →
      greatest_of session (notes ++ others) ≡ greater (greatest_of session notes) (greatest_of session others)
  greatest_append session [] others = refl
  greatest_append session (m ∷ notes) others =
      ap (λ (g : Option ℤ). beside (same_session m.number.session session) m.number.transaction g) (greatest_append session notes others)
      ∙ beside_greater (same_session m.number.session session) m.number.transaction (greatest_of session notes) (greatest_of session others)

  first_of : (b : Bool) (m : Note A) (found more : Option (Note A)) → (if b then Some m else option_or found more) ≡ option_or (if b then Some m else found) more
  first_of true m found more = refl
  first_of false m found more = refl

  noted_append : (number : StatementNumber) (notes others : List (Note A)) →
      noted number (notes ++ others) ≡ option_or (noted number notes) (noted number others)
  noted_append number [] others = refl
  noted_append number (m ∷ notes) others =
      ap (λ (found : Option (Note A)). if same_number m.number number then Some m else found) (noted_append number notes others)
      ∙ first_of (same_number m.number number) m (noted number notes) (noted number others)

  none_beside : (b c : Bool) (t : ℤ) (g : Option ℤ) (m : Note A) (found : Option (Note A)) → (g ≡ None → found ≡ None) →
      beside b t g ≡ None → (if b && c then Some m else found) ≡ None
  none_beside true c t g m found none e = absurd cc
  none_beside false c t g m found none e = none e

  -- a session without notes has none of its numbers
  pub none_noted : (number : StatementNumber) (notes : List (Note A)) → greatest_of number.session notes ≡ None → noted number notes ≡ None
  none_noted number [] e = refl
  none_noted number (m ∷ notes) e =
      none_beside (same_session m.number.session number.session) (int_eq m.number.transaction number.transaction && m.number.index == number.index) m.number.transaction
      (greatest_of number.session notes) m (noted number notes) (none_noted number notes) e

  pub both_new : (x : Seen A) → seen_by_both x new_statement ≡ x
  both_new new_statement = refl
  both_new (done_before time told) = refl
  both_new (older_than t) = refl

  abbrev older : ℤ → Seen A
  older t = older_than t

  one_older : (t u : ℤ) → t ≡ u → older t ≡ older u
  one_older t u e = ap (λ (x : ℤ). older x) e

  -- the answer with that greatest transaction and that note, by whether the transaction is less
  abbrev answer : Bool → ℤ → Option (Note A) → Seen A
  answer less g None = if less then older_than g else new_statement
  answer less g (Some m) = if less then older_than g else done_before m.time m.told

  answer_is : (number : StatementNumber) (g : ℤ) (found : Option (Note A)) → seen_beside number (Some g) found ≡ answer (int_lt number.transaction g) g found
  answer_is number g None = refl
  answer_is number g (Some m) = refl

  answer_older : (g : ℤ) (found : Option (Note A)) → answer true g found ≡ older_than g
  answer_older g None = refl
  answer_older g (Some m) = refl

  by_answers : (t a b : ℤ) (found other : Option (Note A)) (less more least : Bool) → int_lt t a ≡ less → int_lt t b ≡ more → int_lt t (int_max a b) ≡ least →
      answer least (int_max a b) (option_or found other) ≡ seen_by_both (answer less a found) (answer more b other)
  by_answers t a b found other true true true l m e = answer_older (int_max a b) (option_or found other) ∙ sym (rw (answer_older a found, answer_older b other) refl)
  by_answers t a b found other true true false l m e = absurd (omega (arith, ints, clamps))
  by_answers t a b found None true false true l m e = answer_older (int_max a b) (option_or found None) ∙ one_older (int_max a b) a (omega (arith, ints, clamps)) ∙ sym (rw (answer_older a found) refl)
  by_answers t a b found (Some k) true false true l m e = answer_older (int_max a b) (option_or found (Some k)) ∙ one_older (int_max a b) a (omega (arith, ints, clamps)) ∙ sym (rw (answer_older a found) refl)
  by_answers t a b found other true false false l m e = absurd (omega (arith, ints, clamps))
  by_answers t a b None other false true true l m e = answer_older (int_max a b) other ∙ one_older (int_max a b) b (omega (arith, ints, clamps)) ∙ sym (answer_older b other)
  by_answers t a b (Some k) other false true true l m e = answer_older (int_max a b) (option_or (Some k) other) ∙ one_older (int_max a b) b (omega (arith, ints, clamps)) ∙ sym (rw (answer_older b other) refl)
  by_answers t a b found other false true false l m e = absurd (omega (arith, ints, clamps))
  by_answers t a b found other false false true l m e = absurd (omega (arith, ints, clamps))
  by_answers t a b None None false false false l m e = refl
  by_answers t a b None (Some k) false false false l m e = refl
  by_answers t a b (Some k) None false false false l m e = refl
  by_answers t a b (Some k) (Some j) false false false l m e = refl

  or_none : (found : Option (Note A)) → option_or found None ≡ found
  or_none None = refl
  or_none (Some m) = refl

  beside_both : (number : StatementNumber) (g h : Option ℤ) (found other : Option (Note A)) → (g ≡ None → found ≡ None) → (h ≡ None → other ≡ None) →
      seen_beside number (greater g h) (option_or found other) ≡ seen_by_both (seen_beside number g found) (seen_beside number h other)
  beside_both number None h found other none none_other = ap (λ (f : Option (Note A)). seen_beside number h (option_or f other)) (none refl)
  beside_both number (Some a) None found other none none_other =
      ap (λ (f : Option (Note A)). seen_beside number (Some a) (option_or found f)) (none_other refl)
      ∙ ap (λ (f : Option (Note A)). seen_beside number (Some a) f) (or_none found)
      ∙ sym (both_new (seen_beside number (Some a) found))
  beside_both number (Some a) (Some b) found other none none_other =
      answer_is number (int_max a b) (option_or found other)
      ∙ by_answers number.transaction a b found other (int_lt number.transaction a) (int_lt number.transaction b) (int_lt number.transaction (int_max a b)) refl refl refl
      ∙ sym (rw (answer_is number a found, answer_is number b other) refl)

  -- notes that stand after others
  pub seen_after_others : (notes others : List (Note A)) (number : StatementNumber) →
      seen (notes ++ others) number ≡ seen_by_both (seen notes number) (seen others number)
  seen_after_others notes others number =
      ap (λ (g : Option ℤ). seen_beside number g (noted number (notes ++ others))) (greatest_append number.session notes others)
      ∙ ap (λ (f : Option (Note A)). seen_beside number (greater (greatest_of number.session notes) (greatest_of number.session others)) f) (noted_append number notes others)
      ∙ beside_both number (greatest_of number.session notes) (greatest_of number.session others) (noted number notes) (noted number others) (none_noted number notes) (none_noted number others)

  -- the same notes twice are those notes
  pub both_itself : (x : Seen A) → seen_by_both x x ≡ x
  both_itself new_statement = refl
  both_itself (done_before time told) = refl
  both_itself (older_than t) = ap (λ (u : ℤ). older_than u) (omega (arith, ints, clamps))

  -- the order of merges does not count
  pub both_joined : (x y z : Seen A) → seen_by_both (seen_by_both x y) z ≡ seen_by_both x (seen_by_both y z)
  both_joined new_statement y z = refl
  both_joined (done_before time told) new_statement z = refl
  both_joined (done_before time told) (done_before other also) new_statement = refl
  both_joined (done_before time told) (done_before other also) (done_before third too) = refl
  both_joined (done_before time told) (done_before other also) (older_than u) = refl
  both_joined (done_before time told) (older_than t) new_statement = refl
  both_joined (done_before time told) (older_than t) (done_before other also) = refl
  both_joined (done_before time told) (older_than t) (older_than u) = refl
  both_joined (older_than t) new_statement z = refl
  both_joined (older_than t) (done_before time told) new_statement = refl
  both_joined (older_than t) (done_before time told) (done_before other also) = refl
  both_joined (older_than t) (done_before time told) (older_than u) = refl
  both_joined (older_than t) (older_than u) new_statement = refl
  both_joined (older_than t) (older_than u) (done_before time told) = refl
  both_joined (older_than t) (older_than u) (older_than v) = ap (λ (w : ℤ). older_than w) (omega (arith, ints, clamps))

  -- what is new by both is new by each
  pub new_by_both : (x y : Seen A) → seen_by_both x y ≡ new_statement → (x ≡ new_statement) × (y ≡ new_statement)
  new_by_both new_statement y e = (refl, e)
  new_by_both (done_before time told) new_statement e = absurd cc
  new_by_both (done_before time told) (done_before other also) e = absurd cc
  new_by_both (done_before time told) (older_than t) e = absurd cc
  new_by_both (older_than t) new_statement e = absurd cc
  new_by_both (older_than t) (done_before time told) e = absurd cc
  new_by_both (older_than t) (older_than u) e = absurd cc
