-- The state of a number with respect to notes, after one more note.
use Rattle.std.proofs.Common.{◌≡◌, ◌≢◌, ℕ, ℤ, List, [], ◌∷◌, ◌++◌, refl, sym, ap, subst, ◌∙◌, arith, inl, inr, ◌⊎◌}
use Rattle.std.specs.Prelude.{Bool, true, false, ◌&&◌, Option, Some, None, ◌==◌, int_lt, if◌then◌else◌, map}
use Rattle.std.specs.Int.{int_max}
use Rattle.std.specs.List.{AllByRecursion}
use Rattle.std.specs.Option.{unwrap_or, option_or}
use Rattle.std.specs.Ordering.{int_eq, int_cmp}
use Rattle.std.specs.Str.{bytes_eq}
use Rattle.std.proofs.lemmas.Bool.{eqb-true, eq-eqb}
use Rattle.std.proofs.lemmas.Int.{ints, clamps}
use Rattle.std.proofs.lemmas.Slice.Eq.{bytes_eq-Decides}
use Rattle.std.proofs.lemmas.Cmp.{int_eq_equiv}
use Rattle.std.proofs.lemmas.Map.Lookups.{exact_signed}
use Rattle.history_model.specs.History.{Session, client_session, router_session, StatementNumber}
use Rattle.history_model.specs.Notes.{Note, Seen, new_statement, done_before, older_than, same_session, same_number, greatest_of, noted, seen_beside, seen, seen_with}
use Rattle.bson_model.proofs.Booleans.{both}
use Rattle.query_model.proofs.Entries.{equal_is}

pub same_session_is : (a b : Session) → same_session a b ≡ true → a ≡ b
same_session_is (client_session a) (client_session b) e = ap (λ s. client_session s) ((bytes_eq-Decides a b).0 e)
same_session_is (client_session a) (router_session m k q) e = absurd cc
same_session_is (router_session n l r) (client_session b) e = absurd cc
same_session_is (router_session n l r) (router_session m k q) e =
    let first = both (n == m) (l == k && r == q) e in
    let rest = both (l == k) (r == q) first.1 in
    ap (λ (x : ℕ). router_session x l r) (eqb-true n m first.0) ∙ ap (λ (x : ℕ). router_session m x r) (eqb-true l k rest.0) ∙ ap (λ (x : ℕ). router_session m k x) (eqb-true r q rest.1)

int_eq_is : (a b : ℤ) → int_eq a b ≡ true → a ≡ b
int_eq_is a b e = exact_signed a b (equal_is (int_cmp a b) e)

number_from : (a b : StatementNumber) → a.session ≡ b.session → a.transaction ≡ b.transaction → a.index ≡ b.index → a ≡ b
number_from a b s t i =
    ap (λ (x : Session). record { session = x; transaction = a.transaction; index = a.index }) s
    ∙ ap (λ (x : ℤ). record { session = b.session; transaction = x; index = a.index }) t
    ∙ ap (λ (x : ℕ). record { session = b.session; transaction = b.transaction; index = x }) i

pub same_number_is : (a b : StatementNumber) → same_number a b ≡ true → a ≡ b
same_number_is a b e =
    let first = both (same_session a.session b.session) (int_eq a.transaction b.transaction && a.index == b.index) e in
    let rest = both (int_eq a.transaction b.transaction) (a.index == b.index) first.1 in
    number_from a b (same_session_is a.session b.session first.0) (int_eq_is a.transaction b.transaction rest.0) (eqb-true a.index b.index rest.1)

max_self : (a : ℤ) → int_max a a ≡ a
max_self a = omega (arith, ints, clamps)

max_three : (a b c : ℤ) → int_max a (int_max b c) ≡ int_max (int_max a b) c
max_three a b c = omega (arith, ints, clamps)

same_session_itself : (a : Session) → same_session a a ≡ true
same_session_itself (client_session id) = (bytes_eq-Decides id id).1 refl
same_session_itself (router_session node life request) = rw (eq-eqb node node refl, eq-eqb life life refl, eq-eqb request request refl) refl

not_below : (a : ℤ) → int_lt a a ≡ false
not_below a = by_test (int_lt a a) refl
  where
    by_test : (b : Bool) → int_lt a a ≡ b → b ≡ false
    by_test true h = absurd (omega (arith, ints))
    by_test false h = refl

equal_itself : (a : ℤ) → int_eq a a ≡ true
equal_itself a = int_eq_equiv.refl a

same_number_itself : (n : StatementNumber) → same_number n n ≡ true
same_number_itself n = rw (same_session_itself n.session, equal_itself n.transaction, eq-eqb n.index n.index refl) refl

-- the greater of a transaction and the greatest one before
abbrev risen : Bool → ℤ → Option ℤ → Option ℤ
risen false t was = was
risen true t None = Some t
risen true t (Some g) = Some (int_max g t)

risen_none : (b : Bool) (t u : ℤ) → Some (int_max u (unwrap_or (risen b t None) u)) ≡ risen b t (Some (int_max u u))
risen_none false t u = refl
risen_none true t u = ap (λ (x : ℤ). Some (int_max x t)) (sym (max_self u))

risen_some : (b : Bool) (t u g : ℤ) → Some (int_max u (unwrap_or (risen b t (Some g)) u)) ≡ risen b t (Some (int_max u g))
risen_some false t u g = refl
risen_some true t u g = ap (λ (x : ℤ). Some x) (max_three u g t)

risen_under : (b : Bool) (t u : ℤ) (was : Option ℤ) → Some (int_max u (unwrap_or (risen b t was) u)) ≡ risen b t (Some (int_max u (unwrap_or was u)))
risen_under b t u None = risen_none b t u
risen_under b t u (Some g) = risen_some b t u g

as_max : (t g : ℤ) → Some (int_max g t) ≡ Some t → int_max g t ≡ t
as_max t g e = cc

-- what is not less than t is not less than a lesser number
below : (a t g : ℤ) → int_lt a t ≡ false → int_max g t ≡ t → int_lt a g ≡ false
below a t g less e = by_test (int_lt a g) refl
  where
    by_test : (b : Bool) → int_lt a g ≡ b → b ≡ false
    by_test true h = absurd (omega (arith, ints, clamps))
    by_test false h = refl

first_greatest : (b : Bool) (t : ℤ) → (if b then Some (int_max t t) else None) ≡ risen b t None
first_greatest false t = refl
first_greatest true t = ap (λ (x : ℤ). Some x) (max_self t)

-- the greatest after one more note
abbrev beside : Bool → ℤ → Option ℤ → Option ℤ
beside b u rest = if b then Some (int_max u (unwrap_or rest u)) else rest

beside_risen : (b c : Bool) (t u : ℤ) (was : Option ℤ) → beside b u (risen c t was) ≡ risen c t (beside b u was)
beside_risen true c t u was = risen_under c t u was
beside_risen false c t u was = refl

module _ {A : Type 0} where
  greatest_push : (session : Session) (notes : List (Note A)) (note : Note A) →
      greatest_of session (notes ++ note ∷ []) ≡ risen (same_session note.number.session session) note.number.transaction (greatest_of session notes)
  greatest_push session [] note = first_greatest (same_session note.number.session session) note.number.transaction
  greatest_push session (m ∷ notes) note =
      ap (λ (rest : Option ℤ). beside (same_session m.number.session session) m.number.transaction rest) (greatest_push session notes note)
      ∙ beside_risen (same_session m.number.session session) (same_session note.number.session session) note.number.transaction m.number.transaction (greatest_of session notes)

  first_of : (b : Bool) (m : Note A) (was more : Option (Note A)) → (if b then Some m else option_or was more) ≡ option_or (if b then Some m else was) more
  first_of true m was more = refl
  first_of false m was more = refl

  noted_push : (number : StatementNumber) (notes : List (Note A)) (note : Note A) →
      noted number (notes ++ note ∷ []) ≡ option_or (noted number notes) (if same_number note.number number then Some note else None)
  noted_push number [] note = refl
  noted_push number (m ∷ notes) note =
      ap (λ (rest : Option (Note A)). if same_number m.number number then Some m else rest) (noted_push number notes note)
      ∙ first_of (same_number m.number number) m (noted number notes) (if same_number note.number number then Some note else None)

  none_beside : (b c : Bool) (u : ℤ) (greatest : Option ℤ) (m : Note A) (was : Option (Note A)) → (greatest ≡ None → was ≡ None) →
      beside b u greatest ≡ None → (if b && c then Some m else was) ≡ None
  none_beside true c u greatest m was none e = absurd cc
  none_beside false c u greatest m was none e = none e

  -- a session without notes has none of its numbers
  none_noted : (number : StatementNumber) (notes : List (Note A)) → greatest_of number.session notes ≡ None → noted number notes ≡ None
  none_noted number [] e = refl
  none_noted number (m ∷ notes) e =
      none_beside (same_session m.number.session number.session) (int_eq m.number.transaction number.transaction && m.number.index == number.index) m.number.transaction
      (greatest_of number.session notes) m (noted number notes) (none_noted number notes) e

  -- a new number has no note, and its session no greater transaction
  pub record IsNew (number : StatementNumber) (greatest : Option ℤ) (found : Option (Note A)) : Type 0 where
    pub none : found ≡ None
    pub greatest_is : risen true number.transaction greatest ≡ Some number.transaction

  abbrev older_or_new : Bool → ℤ → Seen A
  older_or_new less g = if less then older_than g else new_statement

  new_among : (number : StatementNumber) (g : ℤ) (less : Bool) → int_lt number.transaction g ≡ less → older_or_new less g ≡ new_statement →
      IsNew number (Some g) None
  new_among number g true e h = absurd cc
  new_among number g false e h = record { none = refl; greatest_is = ap (λ (x : ℤ). Some x) (omega (arith, ints, clamps)) }

  never_new : (less : Bool) (g : ℤ) (time : ℕ) (told : A) → (if less then older_than g else done_before time told) ≢ new_statement
  never_new true g time told h = cc
  never_new false g time told h = cc

  new_from : (number : StatementNumber) (greatest : Option ℤ) (found : Option (Note A)) → (greatest ≡ None → found ≡ None) →
      seen_beside number greatest found ≡ new_statement → IsNew number greatest found
  new_from number None found none e = record { none = none refl; greatest_is = refl }
  new_from number (Some g) None none e = new_among number g (int_lt number.transaction g) refl e
  new_from number (Some g) (Some m) none e = absurd (never_new (int_lt number.transaction g) g m.time m.told e)

  pub is_new : (notes : List (Note A)) (number : StatementNumber) → seen notes number ≡ new_statement →
      IsNew number (greatest_of number.session notes) (noted number notes)
  is_new notes number e = new_from number (greatest_of number.session notes) (noted number notes) (none_noted number notes) e

  older_whatever : (number : StatementNumber) (t : ℤ) (found : Option (Note A)) → int_lt number.transaction t ≡ true →
      seen_beside number (Some t) found ≡ older_than t
  older_whatever number t None e = rw e refl
  older_whatever number t (Some m) e = rw e refl

  -- a greater transaction of a session changes nothing for a transaction that is no less
  same_beside : (number : StatementNumber) (t : ℤ) (greatest : Option ℤ) (found : Option (Note A)) → (greatest ≡ None → found ≡ None) →
      risen true t greatest ≡ Some t → int_lt number.transaction t ≡ false → seen_beside number (Some t) found ≡ seen_beside number greatest found
  same_beside number t None found none e less = rw (none refl, less) refl
  same_beside number t (Some g) None none e less =
      rw (less, below number.transaction t g less (as_max t g e)) refl
  same_beside number t (Some g) (Some m) none e less =
      rw (less, below number.transaction t g less (as_max t g e)) refl

  or_none : (found : Option (Note A)) → option_or found None ≡ found
  or_none None = refl
  or_none (Some m) = refl

  -- in the session of the note, whose transaction is now the greatest
  within_session : (notes : List (Note A)) (note : Note A) (number : StatementNumber) (less same : Bool) →
      int_lt number.transaction note.number.transaction ≡ less → same_number note.number number ≡ same → (same ≡ true → noted number notes ≡ None) →
      risen true note.number.transaction (greatest_of number.session notes) ≡ Some note.number.transaction →
      seen_beside number (Some note.number.transaction) (option_or (noted number notes) (if same then Some note else None))
      ≡ (if less then older_than note.number.transaction else if same then done_before note.time note.told else seen notes number)
  within_session notes note number true same l s none rises = older_whatever number note.number.transaction (option_or (noted number notes) (if same then Some note else None)) l
  within_session notes note number false true l s none rises = rw (none refl, l) refl
  within_session notes note number false false l s none rises =
      ap (λ (found : Option (Note A)). seen_beside number (Some note.number.transaction) found) (or_none (noted number notes))
      ∙ same_beside number note.number.transaction (greatest_of number.session notes) (noted number notes) (none_noted number notes) rises l

  by_session : (notes : List (Note A)) (note : Note A) (number : StatementNumber) (b : Bool) → same_session note.number.session number.session ≡ b →
      seen notes note.number ≡ new_statement →
      seen_beside number (risen b note.number.transaction (greatest_of number.session notes)) (option_or (noted number notes) (if b && (int_eq note.number.transaction number.transaction && note.number.index == number.index) then Some note else None))
      ≡ (if b then (if int_lt number.transaction note.number.transaction then older_than note.number.transaction else if same_number note.number number then done_before note.time note.told else seen notes number) else seen notes number)
  by_session notes note number false s new = ap (λ (found : Option (Note A)). seen_beside number (greatest_of number.session notes) found) (or_none (noted number notes))
  by_session notes note number true s new =
      let was : IsNew note.number (greatest_of note.number.session notes) (noted note.number notes) = is_new notes note.number new in
      let session : note.number.session ≡ number.session = same_session_is note.number.session number.session s in
      let rises : risen true note.number.transaction (greatest_of number.session notes) ≡ Some note.number.transaction =
      subst (λ (x : Session). risen true note.number.transaction (greatest_of x notes) ≡ Some note.number.transaction) session was.greatest_is in
      let tested : same_number note.number number ≡ (int_eq note.number.transaction number.transaction && note.number.index == number.index) = ap (λ (x : Bool). x && (int_eq note.number.transaction number.transaction && note.number.index == number.index)) s in
      ap (λ (x : Option ℤ). seen_beside number x (option_or (noted number notes) (if int_eq note.number.transaction number.transaction && note.number.index == number.index then Some note else None))) rises
      ∙ within_session notes note number (int_lt number.transaction note.number.transaction) (int_eq note.number.transaction number.transaction && note.number.index == number.index) refl tested
      (λ e. subst (λ (x : StatementNumber). noted x notes ≡ None) (same_number_is note.number number (tested ∙ e)) was.none) rises
      ∙ ap (λ (x : Bool). if int_lt number.transaction note.number.transaction then older_than note.number.transaction else if x then done_before note.time note.told else seen notes number) (sym tested)

  -- one more note, of a number that was new
  pub one_more_note : (notes : List (Note A)) (note : Note A) (number : StatementNumber) → seen notes note.number ≡ new_statement →
      seen (notes ++ note ∷ []) number ≡ seen_with note number (seen notes number)
  one_more_note notes note number new =
      ap (λ (g : Option ℤ). seen_beside number g (noted number (notes ++ note ∷ []))) (greatest_push number.session notes note)
      ∙ ap (λ (found : Option (Note A)). seen_beside number (risen (same_session note.number.session number.session) note.number.transaction (greatest_of number.session notes)) found) (noted_push number notes note)
      ∙ by_session notes note number (same_session note.number.session number.session) refl new

  -- what was noted is returned again
  pub noted_again : (notes : List (Note A)) (note : Note A) → seen notes note.number ≡ new_statement →
      seen (notes ++ note ∷ []) note.number ≡ done_before note.time note.told
  noted_again notes note new =
      one_more_note notes note note.number new
      ∙ itself_seen note.number (same_session note.number.session note.number.session) (int_lt note.number.transaction note.number.transaction) (same_number note.number note.number)
      (same_session_itself note.number.session) (not_below note.number.transaction) (same_number_itself note.number)
    where
      itself_seen : (number : StatementNumber) (session less same : Bool) → session ≡ true → less ≡ false → same ≡ true →
          (if session then (if less then older_than number.transaction else if same then done_before note.time note.told else seen notes number) else seen notes number) ≡ done_before note.time note.told
      itself_seen number session less same s l n = rw (s, l, n) refl
