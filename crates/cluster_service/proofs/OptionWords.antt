-- The words of options, one after another.
use Rattle.std.proofs.Common.{◌≡◌, ℕ, zero, suc, ◌+◌, ◌<◌, ◌≤◌, List, [], ◌∷◌, length, get_or, drop, refl, sym, ap, ◌∙◌, arith, add-one, drop-cons}
use Rattle.std.specs.Prelude.{Option, Some, None, nat_lt}
use Rattle.std.specs.List.{after_first, before_first, position_or_len}
use Rattle.std.proofs.lemmas.Bool.{lt-ltb, ltb-true}
use Rattle.cluster_service.specs.Options.{after_word, assigned, awaited, is_equals_sign, name_in, options_in, word_in}
use Rattle.cluster_service.specs.declared.options.Given.{Given}
use Rattle.cluster_service.proofs.Numbers.{false_unless}

cut_at : (words : List (List ℕ)) (i : ℕ) (word : List ℕ) → i < length words → word ≡ get_or words i word → drop i words ≡ word ∷ drop (i + 1) words
cut_at words i word less is =
    rw add-one (drop-cons words i word less ∙ ap (λ (first : List ℕ). first ∷ drop (suc i) words) (sym is))

-- one word more was read
pub option_next : (g next : Given) (words : List (List ℕ)) (i : ℕ) (word : List ℕ) (whole : Option Given) → i < length words → word ≡ get_or words i word
    → Some next ≡ after_word (Some g) word → options_in (Some g) (drop i words) ≡ whole → options_in (Some next) (drop (i + 1) words) ≡ whole
option_next g next words i word whole less is step so_far =
    ap (λ (o : Option Given). options_in o (drop (i + 1) words)) step
    ∙ (sym (ap (λ (l : List (List ℕ)). options_in (Some g) l) (cut_at words i word less is)) ∙ so_far)

-- after a word that is refused nothing is accepted
refused : (words : List (List ℕ)) → options_in None words ≡ None
refused [] = refl
refused (word ∷ words) = refused words

pub option_refused : (g : Given) (words : List (List ℕ)) (i : ℕ) (word : List ℕ) (whole : Option Given) → i < length words → word ≡ get_or words i word
    → None ≡ after_word (Some g) word → options_in (Some g) (drop i words) ≡ whole → None ≡ whole
option_refused g words i word whole less is step so_far =
    sym (refused (drop (i + 1) words)) ∙ (ap (λ (o : Option Given). options_in o (drop (i + 1) words)) step
    ∙ (sym (ap (λ (l : List (List ℕ)). options_in (Some g) l) (cut_at words i word less is)) ∙ so_far))

none_left_at : (i : ℕ) (words : List (List ℕ)) → length words ≤ i → drop i words ≡ []
none_left_at zero [] end = refl
none_left_at zero (word ∷ words) end = absurd (omega (arith, end))
none_left_at (suc i) [] end = refl
none_left_at (suc i) (word ∷ words) end = none_left_at i words (omega (arith, end))

-- all were read
pub options_read : (g : Given) (words : List (List ℕ)) (i : ℕ) (whole : Option Given) → length words ≤ i → options_in (Some g) (drop i words) ≡ whole
    → Some g ≡ whole
options_read g words i whole end so_far =
    sym (ap (λ (l : List (List ℕ)). options_in (Some g) l) (none_left_at i words end)) ∙ so_far

-- A WORD WITH A VALUE, OR WITHOUT

pub with_sign : (word name value : List ℕ) (g : Given)
    → (position_or_len is_equals_sign word < length word) × (name ≡ before_first is_equals_sign word) × (value ≡ after_first is_equals_sign word)
    → assigned (name_in name) value g ≡ word_in word g
with_sign word name value g (less, before, after) =
    rw (before, after, lt-ltb (position_or_len is_equals_sign word) (length word) less) refl

pub without_sign : (word : List ℕ) (g : Given) → position_or_len is_equals_sign word ≡ length word → awaited (name_in word) g ≡ word_in word g
without_sign word g none = rw (none, false_unless (nat_lt (length word) (length word)) (λ is. omega (arith, ltb-true (length word) (length word) is))) refl
