use Rattle.std.proofs.Common.{◌≡◌, ◌⊎◌, inl, inr, ◌∙◌, ◌++◌, ◌∷◌, List, ℕ, sym, subst, rules}
use Rattle.std.specs.Prelude.{codes}
use Rattle.std.proofs.lemmas.Bool.Decides.{Decides-eqb}
use Rattle.std.proofs.lemmas.Slice.Eq.{slice_eq-Decides}
use Rattle.script_lines.specs.Lines.{Says, says_kept, says_lost, kept_line, lost_line}
use Rattle.script_lines.specs.Words.{IsNumber}
use Rattle.script_lines.proofs.Cuts.{no_cut, same_cut}
use Rattle.script_lines.proofs.Reading.{stop_refused, stop_words}
use Rattle.script_lines.proofs.line.stop_of.Goals as goal

pub returns-in_default-clause-refused : goal.returns-in_default-clause-refused
returns-in_default-clause-refused c e other =
    stop_refused c.args.first.now c.args.words.now c.args.node c.requires
    (λ word last k whole none which is. no_cut 32 c.args.words.now word last (c.in_default.ensures.none (search rules)) whole) other

pub returns-in_default-number_of-clause-refused : goal.returns-in_default-number_of-clause-refused
returns-in_default-number_of-clause-refused c e other =
    let cut = c.in-Some.ensures.found in
    stop_refused c.args.first.now c.args.words.now c.args.node c.requires
    (λ word last k whole none which is.
    let same = same_cut 32 word last _ _ none cut.first (sym whole ∙ cut.whole) in
    c.in_default-number_of.not-Some k (c.number_of.ensures.only k (subst (λ (l : List ℕ). IsNumber l k) same.1 is))) other

pub returns-then-eq-clause-says : goal.returns-then-eq-clause-says
returns-then-eq-clause-says c =
    let same = (slice_eq-Decides Decides-eqb _ _ _ c.eq.ensures).0 c.if-eq.true ∙ c.as_slice.ensures in
    subst (λ (l : List ℕ). Says (codes "restart" ++ 32 ∷ (c.args.first.now ++ 32 ∷ l)) (kept_line c.args.node c.in-Some-number_of.k))
    (sym (stop_words c.args.words.now _ _ c.in-Some.ensures.found (codes "kept") same))
    (says_kept c.args.first.now _ c.args.node c.in-Some-number_of.k c.requires c.in-Some-number_of.ensures.is)

pub returns-then-eq-2-clause-says : goal.returns-then-eq-2-clause-says
returns-then-eq-2-clause-says c =
    let same = (slice_eq-Decides Decides-eqb _ _ _ c.eq-2.ensures).0 c.if-eq-2.true ∙ c.as_slice-2.ensures in
    subst (λ (l : List ℕ). Says (codes "restart" ++ 32 ∷ (c.args.first.now ++ 32 ∷ l)) (lost_line c.args.node c.in-Some-number_of.k))
    (sym (stop_words c.args.words.now _ _ c.in-Some.ensures.found (codes "lost") same))
    (says_lost c.args.first.now _ c.args.node c.in-Some-number_of.k c.requires c.in-Some-number_of.ensures.is)

pub returns-clause-refused : goal.returns-clause-refused
returns-clause-refused c e other =
    let cut = c.in-Some.ensures.found in
    stop_refused c.args.first.now c.args.words.now c.args.node c.requires
    (λ word last k whole none which is.
    let same = same_cut 32 word last _ _ none cut.first (sym whole ∙ cut.whole) in
    by_word word (sym same.0) which) other
  where
    by_word : (word : List ℕ) → c.in-Some.word.now ≡ word → (word ≡ codes "kept") ⊎ (word ≡ codes "lost") → ⊥
    by_word word same (inl is) =
        let yes = (slice_eq-Decides Decides-eqb _ _ _ c.eq.ensures).1 ((same ∙ is) ∙ sym c.as_slice.ensures) in absurd (cc (yes, c.if-eq.false))
    by_word word same (inr is) =
        let yes = (slice_eq-Decides Decides-eqb _ _ _ c.eq-2.ensures).1 ((same ∙ is) ∙ sym c.as_slice-2.ensures) in absurd (cc (yes, c.if-eq-2.false))
