-- The sequences of a command.
use Rattle.std.proofs.Common.{◌≡◌, ℕ, ◌≤◌, List, [], ◌∷◌, length, get_or, refl, sym, ◌∙◌, ap, subst, Bool, true, false, ◌||◌, not, Option, Some, None, if◌then◌else◌, arith}
use Rattle.std.specs.Option.{is_some, option_map}
use Rattle.std.specs.Str.{bytes_eq}
use Rattle.std.proofs.lemmas.Slice.Eq.{bytes_eq-Decides}
use Rattle.bson_model.specs.Tree.{Datum, Fields, no_fields, field, get}
use Rattle.base_model.specs.Errors.{failed_to_parse}
use Rattle.command_model.specs.Checks.{Verdict, first_of, is_one_of}
use Rattle.command_model.specs.Fields.{names_of}
use Rattle.command_model.specs.Forms.{SequenceRule, Sequences, check_sequence, check_sequences}
use Rattle.opmsg_frames.specs.Lists.{pairs_of}
use Rattle.opmsg_frames.specs.declared.lists.Sequence.{Sequence}

given_step : (b x : Bool) (value : Datum) (rest : Option Datum) → x ≡ is_some rest → (b || x) ≡ is_some (if b then Some value else rest)
given_step true x value rest e = refl
given_step false x value rest e = e

-- a name occurred where there is a field of that name
pub given_is : (name : List ℕ) (ms : Fields) → is_one_of name (names_of ms) ≡ is_some (get name ms)
given_is name no_fields = refl
given_is name (field first value ms) = given_step (bytes_eq first name) (is_one_of name (names_of ms)) value (get name ms) (given_is name ms)

-- a second sequence is refused: its identifier occurred before, or the command does not have it
second_told : (rule : SequenceRule) (first name : List ℕ) (documents : List Fields) (given : List (List ℕ)) (w : Verdict) → bytes_eq first rule.identifier ≡ true →
    first_of (check_sequence (Some rule) (is_one_of name (first ∷ given)) (name, documents) ∷ w ∷ []) ≡ Some failed_to_parse
second_told rule first name documents given w named = by_test (bytes_eq name rule.identifier) refl
  where
    or_true : (x : Bool) → (x || true) ≡ true
    or_true true = refl
    or_true false = refl

    by_test : (b : Bool) → bytes_eq name rule.identifier ≡ b → first_of (check_sequence (Some rule) (is_one_of name (first ∷ given)) (name, documents) ∷ w ∷ []) ≡ Some failed_to_parse
    by_test true e =
        let mine : first ≡ rule.identifier = (bytes_eq-Decides first rule.identifier).0 named in
        let theirs : name ≡ rule.identifier = (bytes_eq-Decides name rule.identifier).0 e in
        let same : bytes_eq first name ≡ true = (bytes_eq-Decides first name).1 (mine ∙ sym theirs) in
        rw same refl
    by_test false e = rw (e, or_true (is_one_of name (first ∷ given))) refl

passed_name : (rule : SequenceRule) (given : Bool) (s : List ℕ × List Fields) → check_sequence (Some rule) given s ≡ None → bytes_eq s.0 rule.identifier ≡ true
passed_name rule given s none = by_case given (bytes_eq s.0 rule.identifier) (rule.check s.1) none
  where
    by_case : (x b : Bool) (v : Verdict) → (if x || not b then Some failed_to_parse else v) ≡ None → b ≡ true
    by_case x true v e = refl
    by_case true false v e = cc
    by_case false false v e = cc

-- this decides where the first one passes
two_refused : (rule : Option SequenceRule) (given : List (List ℕ)) (s t : List ℕ × List Fields) (more : Sequences) → check_sequence rule (is_one_of s.0 given) s ≡ None → check_sequences rule given (s ∷ t ∷ more) ≡ Some failed_to_parse
two_refused None given s t more none = absurd cc
two_refused (Some rule) given s t more none =
    let second : check_sequences (Some rule) (s.0 ∷ given) (t ∷ more) ≡ Some failed_to_parse =
    second_told rule s.0 t.0 t.1 given (check_sequences (Some rule) (t.0 ∷ s.0 ∷ given) more) (passed_name rule (is_one_of s.0 given) s none) in
    ap (λ v. first_of (v ∷ check_sequences (Some rule) (s.0 ∷ given) (t ∷ more) ∷ [])) none ∙ ap (λ v. first_of (None ∷ v ∷ [])) second

-- the same for a list with a known length and first sequence
pub two_known : (rule : Option SequenceRule) (given : List (List ℕ)) (sequences : List Sequence) (s : Sequence) → 2 ≤ length sequences → s ≡ get_or sequences 0 s → None ≡ check_sequence rule (is_one_of s.identifier given) (s.identifier, s.documents) →
    Some failed_to_parse ≡ check_sequences rule given (pairs_of sequences)
two_known rule given [] s two is none = absurd (omega arith)
two_known rule given (a ∷ []) s two is none = absurd (omega arith)
two_known rule given (a ∷ b ∷ more) s two is none =
    let first : None ≡ check_sequence rule (is_one_of a.identifier given) (a.identifier, a.documents) = subst (λ (t : Sequence). None ≡ check_sequence rule (is_one_of t.identifier given) (t.identifier, t.documents)) is none in
    sym (two_refused rule given (a.identifier, a.documents) (b.identifier, b.documents) (pairs_of more) (sym first))

mapped : {A : Type 0} (f : A → Datum) (o : Option A) → is_some (option_map f o) ≡ is_some o
mapped f None = refl
mapped f (Some x) = refl

-- a name occurred where a field of it was found
pub given_by_get : {A : Type 0} (f : A → Datum) (o : Option A) (found : Bool) (name : List ℕ) (ms : Fields) → option_map f o ≡ get name ms → found ≡ is_some o → is_one_of name (names_of ms) ≡ found
given_by_get f o found name ms got is = given_is name ms ∙ ap (λ (p : Option Datum). is_some p) (sym got) ∙ mapped f o ∙ sym is
