-- What a shard finds of a statement among its entries.
use Rattle.std.proofs.Common.{◌≡◌, ◌≢◌, ◌⊎◌, inl, inr, List, [], ◌∷◌, refl, sym, ap, subst, ◌∙◌, arith, ℤ}
use Rattle.std.specs.Prelude.{Option, Some, None, Bool, true, false, cond, ◌==◌, ◌&&◌, int_lt, if◌then◌else◌}
use Rattle.std.specs.Int.{int_max}
use Rattle.std.specs.List.{AllByRecursion}
use Rattle.std.specs.Option.{unwrap_or}
use Rattle.std.specs.Ordering.{int_eq}
use Rattle.std.proofs.lemmas.Int.{ints}
use Rattle.std.proofs.lemmas.Bool.Decides.{Decides-eqb, Decides-int_eq}
use Rattle.std.proofs.lemmas.Slice.Eq.{bytes_eq-Decides}
use Rattle.history_model.specs.Notes.{Note, new_statement, done_before, older_than, same_session, same_number, greatest_of, noted, seen_beside, notes_of}
use Rattle.history_model.proofs.Lists.{all_weaken, all_both, in_first, in_later}
use Rattle.history_model.proofs.Noted.{same_session_is, same_number_is}
use Rattle.history_model.specs.History.{Session, client_session, router_session, StatementNumber, Outcome, Entry, IsIn}
use Rattle.base_model.specs.Identities.{RequestId}
use Rattle.reply_model.specs.Exchanges.{is_session_of, entries_by}
pub use Rattle.reply_facts.proofs.Requests.{own_session, entry_by}
use Rattle.reply_model.specs.Outcomes.{was_done, is_older, Done, done_of}
use Rattle.node_model.specs.Service.{told_again, seen_before}

-- A NUMBER IS EQUAL TO ITSELF

and_both : (a b : Bool) → a ≡ true → b ≡ true → (a && b) ≡ true
and_both a b h k = ap (λ x. x && b) h ∙ k

session_itself : (a : Session) → same_session a a ≡ true
session_itself (client_session a) = (bytes_eq-Decides a a).1 refl
session_itself (router_session n l r) =
    and_both (n == n) ((l == l) && (r == r)) ((Decides-eqb n n).1 refl) (and_both (l == l) (r == r) ((Decides-eqb l l).1 refl) ((Decides-eqb r r).1 refl))

number_itself : (a : StatementNumber) → same_number a a ≡ true
number_itself a =
    and_both (same_session a.session a.session) (int_eq a.transaction a.transaction && (a.index == a.index)) (session_itself a.session)
    (and_both (int_eq a.transaction a.transaction) (a.index == a.index) ((Decides-int_eq a.transaction a.transaction).1 refl)
    ((Decides-eqb a.index a.index).1 refl))

-- WHAT IS FOUND

-- the earlier outcome of a number: of an entry under it, or of one of a greater transaction of its session
pub data IsFound (entries : List Entry) (number : StatementNumber) : Done → Type 0 where
  found_entry : (e : Entry) → IsIn e entries → e.number ≡ number → IsFound entries number (done_of e)
  found_older : (e : Entry) → IsIn e entries → e.number.session ≡ number.session → int_lt number.transaction e.number.transaction ≡ true
      → IsFound entries number (record { index = number.index; answer = is_older e.number.transaction })

abbrev note_of : Entry → Note Outcome
note_of e = record { number = e.number; time = e.time; told = e.outcome }

-- an entry under a number, with its note
record HasNote (number : StatementNumber) (entries : List Entry) (n : Note Outcome) : Type 0 where
  pub entry : Entry
  pub stands : IsIn entry entries
  pub numbered : entry.number ≡ number
  pub notes : n ≡ note_of entry

abbrev IsNoted : StatementNumber → List Entry → Option (Note Outcome) → Type 0
IsNoted number entries None = AllByRecursion (λ (e : Entry). e.number ≢ number) entries
IsNoted number entries (Some n) = HasNote number entries n

pub true_false : true ≡ false → ⊥
true_false e = cc

noted_is : (number : StatementNumber) (entries : List Entry) → IsNoted number entries (noted number (notes_of entries))
noted_is number [] = tt
noted_is number (e ∷ entries) = by_test (same_number e.number number) refl (noted number (notes_of entries)) (noted_is number entries)
  where
    by_test : (t : Bool) → same_number e.number number ≡ t → (o : Option (Note Outcome)) → IsNoted number entries o
        → IsNoted number (e ∷ entries) (if t then Some (note_of e) else o)
    by_test true h o rest = record { entry = e; stands = in_first e entries; numbered = same_number_is e.number number h; notes = refl }
    by_test false h None rest = ((λ same. true_false (sym (number_itself number) ∙ (sym (ap (λ n. same_number n number) same) ∙ h))), rest)
    by_test false h (Some n) rest = record {
      entry = rest.entry;
      stands = in_later rest.entry e entries rest.stands;
      numbered = rest.numbered;
      notes = rest.notes;
    }

-- the greatest transaction of a session is that of an entry, and none is above it
record HasGreatest (session : Session) (entries : List Entry) (greatest : ℤ) : Type 0 where
  pub entry : Entry
  pub stands : IsIn entry entries
  pub session_is : entry.number.session ≡ session
  pub transaction_is : entry.number.transaction ≡ greatest
  pub most : AllByRecursion (λ (e : Entry). e.number.session ≡ session → int_lt greatest e.number.transaction ≡ false) entries

abbrev IsGreatest : Session → List Entry → Option ℤ → Type 0
IsGreatest session entries None = AllByRecursion (λ (e : Entry). e.number.session ≢ session) entries
IsGreatest session entries (Some greatest) = HasGreatest session entries greatest

-- not to be below is transitive
below_none : (a b c : ℤ) → int_lt a b ≡ false → int_lt b c ≡ false → int_lt a c ≡ false
below_none a b c h k = by_test (int_lt a c) refl
  where
    by_test : (t : Bool) → int_lt a c ≡ t → int_lt a c ≡ false
    by_test true e = absurd (omega (arith, ints))
    by_test false e = e

-- the greater of two
record IsMax (a b greatest : ℤ) : Type 0 where
  pub one : (greatest ≡ a) ⊎ (greatest ≡ b)
  pub first : int_lt greatest a ≡ false
  pub second : int_lt greatest b ≡ false

not_itself : (a : ℤ) → int_lt a a ≡ false
not_itself a = by_test (int_lt a a) refl
  where
    by_test : (t : Bool) → int_lt a a ≡ t → int_lt a a ≡ false
    by_test true e = absurd (omega (arith, ints))
    by_test false e = e

max_is : (a b : ℤ) → IsMax a b (int_max a b)
max_is a b = by_test (int_lt b a) refl
  where
    turned : int_lt b a ≡ true → int_lt a b ≡ false
    turned h = by_other (int_lt a b) refl
      where
        by_other : (t : Bool) → int_lt a b ≡ t → int_lt a b ≡ false
        by_other true e = absurd (omega (arith, ints))
        by_other false e = e

    by_test : (t : Bool) → int_lt b a ≡ t → IsMax a b (cond t a b)
    by_test true h = record { one = inl refl; first = not_itself a; second = turned h }
    by_test false h = record { one = inr refl; first = h; second = not_itself b }

greatest_is : (session : Session) (entries : List Entry) → IsGreatest session entries (greatest_of session (notes_of entries))
greatest_is session [] = tt
greatest_is session (e ∷ entries) =
    by_test (same_session e.number.session session) refl (greatest_of session (notes_of entries)) (greatest_is session entries)
  where
    by_test : (t : Bool) → same_session e.number.session session ≡ t → (o : Option ℤ) → IsGreatest session entries o
        → IsGreatest session (e ∷ entries) (if t then Some (int_max e.number.transaction (unwrap_or o e.number.transaction)) else o)
    by_test true h None rest =
        let m = max_is e.number.transaction e.number.transaction in
        record {
          entry = e;
          stands = in_first e entries;
          session_is = same_session_is e.number.session session h;
          transaction_is = either_one m.one;
          most = (
            (λ s. m.first),
            all_weaken (λ (d : Entry). d.number.session ≢ session)
                (λ (d : Entry). d.number.session ≡ session → int_lt (int_max e.number.transaction e.number.transaction) d.number.transaction ≡ false) entries
                (λ d other s. absurd (other s)) rest,
          );
        }
      where
        either_one : {g : ℤ} → (g ≡ e.number.transaction) ⊎ (g ≡ e.number.transaction) → e.number.transaction ≡ g
        either_one (inl s) = sym s
        either_one (inr s) = sym s
    by_test true h (Some g) rest = by_one (max_is e.number.transaction g).one
      where
        most : AllByRecursion (λ (d : Entry). d.number.session ≡ session → int_lt (int_max e.number.transaction g) d.number.transaction ≡ false) (e ∷ entries)
        most = (
          (λ s. (max_is e.number.transaction g).first),
          all_weaken (λ (d : Entry). d.number.session ≡ session → int_lt g d.number.transaction ≡ false)
              (λ (d : Entry). d.number.session ≡ session → int_lt (int_max e.number.transaction g) d.number.transaction ≡ false) entries
              (λ d l s. below_none (int_max e.number.transaction g) g d.number.transaction (max_is e.number.transaction g).second (l s)) rest.most,
        )

        by_one : (int_max e.number.transaction g ≡ e.number.transaction) ⊎ (int_max e.number.transaction g ≡ g)
            → HasGreatest session (e ∷ entries) (int_max e.number.transaction g)
        by_one (inl s) =
            record { entry = e; stands = in_first e entries; session_is = same_session_is e.number.session session h; transaction_is = sym s; most = most }
        by_one (inr s) = record {
          entry = rest.entry;
          stands = in_later rest.entry e entries rest.stands;
          session_is = rest.session_is;
          transaction_is = rest.transaction_is ∙ sym s;
          most = most;
        }
    by_test false h None rest = ((λ s. true_false (sym (ap (λ x. same_session x session) s ∙ session_itself session) ∙ h)), rest)
    by_test false h (Some g) rest = record {
      entry = rest.entry;
      stands = in_later rest.entry e entries rest.stands;
      session_is = rest.session_is;
      transaction_is = rest.transaction_is;
      most = ((λ s. absurd (true_false (sym (ap (λ x. same_session x session) s ∙ session_itself session) ∙ h))), rest.most);
    }

module _ (number : StatementNumber) (entries : List Entry) where
  -- the earlier outcome of a number
  pub seen_found : (d : Done) → seen_before number entries ≡ Some d → IsFound entries number d
  seen_found d seen =
      by_greatest (greatest_of number.session (notes_of entries)) (greatest_is number.session entries) (noted number (notes_of entries))
      (noted_is number entries) seen
    where
      older_is : (g : ℤ) → Some (record { index = number.index; answer = is_older g }) ≡ Some d → record { index = number.index; answer = is_older g } ≡ d
      older_is g e = cc

      noted_as : (n : Note Outcome) → Some (record { index = number.index; answer = was_done n.time n.told }) ≡ Some d
          → record { index = number.index; answer = was_done n.time n.told } ≡ d
      noted_as n e = cc

      by_old : (g : ℤ) → int_lt number.transaction g ≡ true → HasGreatest number.session entries g → record { index = number.index; answer = is_older g } ≡ d
          → IsFound entries number d
      by_old g less most same =
          subst (λ x. IsFound entries number x) same
          (subst (λ t. IsFound entries number (record { index = number.index; answer = is_older t })) most.transaction_is
          (found_older most.entry most.stands most.session_is (ap (λ t. int_lt number.transaction t) most.transaction_is ∙ less)))

      by_note : {n : Note Outcome} → HasNote number entries n → record { index = number.index; answer = was_done n.time n.told } ≡ d → IsFound entries number d
      by_note {n = n} note same =
          let index : note.entry.number.index ≡ number.index = ap (λ (x : StatementNumber). x.index) note.numbered in
          let told : done_of note.entry ≡ record { index = number.index; answer = was_done n.time n.told } =
          ap (λ i. record { index = i; answer = was_done note.entry.time note.entry.outcome }) index
          ∙ ap (λ (x : Note Outcome). record { index = number.index; answer = was_done x.time x.told }) (sym note.notes) in
          subst (λ x. IsFound entries number x) (told ∙ same) (found_entry note.entry note.stands note.numbered)

      by_new : (g : ℤ) (t : Bool) → told_again number (if t then older_than g else new_statement) ≡ Some d → HasGreatest number.session entries g
          → int_lt number.transaction g ≡ t → IsFound entries number d
      by_new g true e most less = by_old g less most (older_is g e)
      by_new g false e most less = absurd (cc)

      by_less : (g : ℤ) (n : Note Outcome) (t : Bool) → int_lt number.transaction g ≡ t → HasGreatest number.session entries g → HasNote number entries n
          → told_again number (if t then older_than g else done_before n.time n.told) ≡ Some d → IsFound entries number d
      by_less g n true h most note e = by_old g h most (older_is g e)
      by_less g n false h most note e = by_note note (noted_as n e)

      by_greatest : (greatest : Option ℤ) → IsGreatest number.session entries greatest → (o : Option (Note Outcome)) → IsNoted number entries o
          → told_again number (seen_beside number greatest o) ≡ Some d → IsFound entries number d
      by_greatest None most o note e = absurd (cc)
      by_greatest (Some g) most None note e = by_new g (int_lt number.transaction g) e most refl
      by_greatest (Some g) most (Some n) note e = by_less g n (int_lt number.transaction g) refl most note e

  -- a number that was not seen is new, and its session has no greater transaction
  abbrev pub IsNewBehind : Entry → Type 0
  IsNewBehind e = (e.number ≢ number) × (e.number.session ≡ number.session → int_lt number.transaction e.number.transaction ≡ false)

  pub unseen_new : seen_before number entries ≡ None → AllByRecursion IsNewBehind entries
  unseen_new unseen =
      by_greatest (greatest_of number.session (notes_of entries)) (greatest_is number.session entries) (noted number (notes_of entries))
      (noted_is number entries) unseen
    where
      by_less : (g : ℤ) (t : Bool) → int_lt number.transaction g ≡ t → HasGreatest number.session entries g
          → AllByRecursion (λ (e : Entry). e.number ≢ number) entries
          → told_again number (if t then older_than g else new_statement) ≡ None → AllByRecursion IsNewBehind entries
      by_less g true h most others e = absurd (cc)
      by_less g false h most others e =
          all_both (λ (c : Entry). c.number ≢ number) (λ (c : Entry). c.number.session ≡ number.session → int_lt g c.number.transaction ≡ false) IsNewBehind
          entries (λ c other l. (other, λ s. below_none number.transaction g c.number.transaction h (l s))) others most.most

      by_told : (g : ℤ) (n : Note Outcome) (t : Bool) → told_again number (if t then older_than g else done_before n.time n.told) ≡ None → ⊥
      by_told g n true e = cc
      by_told g n false e = cc

      by_greatest : (greatest : Option ℤ) → IsGreatest number.session entries greatest → (o : Option (Note Outcome)) → IsNoted number entries o
          → told_again number (seen_beside number greatest o) ≡ None → AllByRecursion IsNewBehind entries
      by_greatest None none o note e =
          all_weaken (λ (c : Entry). c.number.session ≢ number.session) IsNewBehind entries
          (λ c other. ((λ same. other (ap (λ (x : StatementNumber). x.session) same)), λ s. absurd (other s))) none
      by_greatest (Some g) most None note e = by_less g (int_lt number.transaction g) refl most note e
      by_greatest (Some g) most (Some n) note e = absurd (by_told g n (int_lt number.transaction g) e)

-- ENTRIES OF A REQUEST

pub all_by : (P : Entry → Type 0) (id : RequestId) (entries : List Entry) → AllByRecursion P entries → AllByRecursion P (entries_by id entries)
all_by P id [] all = tt
all_by P id (e ∷ entries) all = by_test (is_session_of id e.number.session) (all_by P id entries all.1)
  where
    by_test : (t : Bool) → AllByRecursion P (entries_by id entries) → AllByRecursion P (if t then e ∷ entries_by id entries else entries_by id entries)
    by_test true more = (all.0, more)
    by_test false more = more
