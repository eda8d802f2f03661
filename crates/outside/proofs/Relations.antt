-- Two calls of a stream are like one call for all their bytes; and a count that rose and then did not fall has risen.
use Rattle.std.proofs.Common.{◌≡◌, ℕ, ◌≤◌, List, [], ◌∷◌, ◌++◌, Bool, inl, inr, arith, append_assoc, sym, ◌∙◌, ap, subst}
use Rattle.outside.specs.Causes.{Rose}
use Rattle.outside.specs.Devices.{NoneFell, OneRose}
use Rattle.outside.specs.Streams.{Took, Put}

-- two takes, one after the other, are one
pub took_then : (tells : Bool) (left bytes left' more left'' : List ℕ) → Took tells left bytes left' →
    Took tells left' more left'' → Took tells left (bytes ++ more) left''
took_then tells left bytes left' more left'' took took' told =
    took told ∙ ap (λ xs. bytes ++ xs) (took' told) ∙ sym (append_assoc bytes more left'')

-- two writes, one after the other, are one
pub put_then : (tells : Bool) (held bytes held' more held'' : List ℕ) → Put tells held bytes held' →
    Put tells held' more held'' → Put tells held (bytes ++ more) held''
put_then tells held bytes held' more held'' put put' told =
    put' told ∙ ap (λ xs. xs ++ more) (put told) ∙ append_assoc held bytes more

-- a count that did not fall and then rose rose
pub later_rose : (before between after : ℕ) → before ≤ between → Rose between after → Rose before after
later_rose before between after later rose = omega arith

-- a count that rose after none fell rose from before
pub one_rose_later : (a b c : List ℕ) → NoneFell a b → OneRose b c → OneRose a c
one_rose_later [] [] c fell rose = absurd rose
one_rose_later [] (y ∷ b) c fell rose = absurd fell
one_rose_later (x ∷ a) [] c fell rose = absurd fell
one_rose_later (x ∷ a) (y ∷ b) [] fell rose = absurd rose
one_rose_later (x ∷ a) (y ∷ b) (z ∷ c) fell (inl rose) = inl (later_rose x y z fell.0 rose)
one_rose_later (x ∷ a) (y ∷ b) (z ∷ c) fell (inr rose) = inr (one_rose_later a b c fell.1 rose)

-- counts that did not fall in two steps did not fall
pub none_fell_then : (a b c : List ℕ) → NoneFell a b → NoneFell b c → NoneFell a c
none_fell_then [] [] [] fell more = tt
none_fell_then [] [] (z ∷ c) fell more = absurd more
none_fell_then [] (y ∷ b) c fell more = absurd fell
none_fell_then (x ∷ a) [] c fell more = absurd fell
none_fell_then (x ∷ a) (y ∷ b) [] fell more = absurd more
none_fell_then (x ∷ a) (y ∷ b) (z ∷ c) fell more = (omega (arith, fell.0, more.0), none_fell_then a b c fell.1 more.1)

-- counts have not fallen from themselves
pub none_fell_self : (a : List ℕ) → NoneFell a a
none_fell_self [] = tt
none_fell_self (x ∷ a) = (omega arith, none_fell_self a)

-- counts that stayed did not fall
pub none_fell_same : (a b : List ℕ) → b ≡ a → NoneFell a b
none_fell_same a b same = subst (NoneFell a) (sym same) (none_fell_self a)
