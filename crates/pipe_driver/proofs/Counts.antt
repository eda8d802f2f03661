-- Counts of faults that rise, or are as before.
use Rattle.std.specs.Prelude.{◌≡◌, ℕ, List, Result, Err}
use Rattle.std.proofs.Common.{sym, subst, ap, ◌∙◌}
use Rattle.outside.specs.Causes.{Rose}
use Rattle.outside.specs.Devices.{NoneFell}
use Rattle.pipe_driver.specs.Counts.{HaveRisenWhere, RoseWhere}
use Rattle.pipe_driver.specs.declared.status.Status.{Status}

-- a call after one that left the count
pub rose_after : (failed : Type 0) (a b c : ℕ) → b ≡ a → RoseWhere failed b c → RoseWhere failed a c
rose_after failed a b c same where_it = subst (λ (n : ℕ). RoseWhere failed n c) same where_it

pub have_risen_after : (failed : Type 0) (a b c : List ℕ) → b ≡ a → HaveRisenWhere failed b c → HaveRisenWhere failed a c
have_risen_after failed a b c same where_it = subst (λ (ns : List ℕ). HaveRisenWhere failed ns c) same where_it

pub none_fell_after : (a b c : List ℕ) → b ≡ a → NoneFell b c → NoneFell a c
none_fell_after a b c same fell = subst (λ (ns : List ℕ). NoneFell ns c) same fell

pub same_err : {X : Type 0} (answer : Result X Status) (told known : Status) → answer ≡ Err told → answer ≡ Err known → told ≡ known
same_err answer told known is e = cc

-- the same said of another happening
pub rose_as : (failed other : Type 0) (a b : ℕ) → (failed → other) → (other → failed) → RoseWhere failed a b → RoseWhere other a b
rose_as failed other a b there back where_it = (λ is. where_it.0 (back is), λ never. where_it.1 (λ is. never (there is)))

pub have_risen_as : (failed other : Type 0) (a b : List ℕ) → (failed → other) → (other → failed) → HaveRisenWhere failed a b → HaveRisenWhere other a b
have_risen_as failed other a b there back where_it = (λ is. where_it.0 (back is), λ never. where_it.1 (λ is. never (there is)))

-- the count rose, or it is as before
pub it_rose : (failed : Type 0) (a b : ℕ) → failed → Rose a b → RoseWhere failed a b
it_rose failed a b is rose = (λ any. rose, λ never. absurd (never is))

pub still : (failed : Type 0) (a b : ℕ) → ¬ failed → b ≡ a → RoseWhere failed a b
still failed a b never same = (λ is. absurd (never is), λ any. same)

pub none_has_risen : (failed : Type 0) (a b : List ℕ) → ¬ failed → b ≡ a → HaveRisenWhere failed a b
none_has_risen failed a b never same = (λ is. absurd (never is), λ any. same)

-- what a call that answered with this status says, of a run that ends with it
pub rose_by : {X : Type 0} (answer : Result X Status) (status told known : Status) (a b c : ℕ) → answer ≡ Err told → status ≡ told → b ≡ a
    → RoseWhere (answer ≡ Err known) b c → RoseWhere (status ≡ known) a c
rose_by answer status told known a b c is ends same where_it =
    rose_after (status ≡ known) a b c same (rose_as (answer ≡ Err known) (status ≡ known) b c (λ e. ends ∙ same_err answer told known is e) (λ e. is
    ∙ ap (λ (s : Status). Err s) (sym ends ∙ e)) where_it)

pub have_risen_by : {X : Type 0} (answer : Result X Status) (status told known : Status) (a b c : List ℕ) → answer ≡ Err told → status ≡ told → b ≡ a
    → HaveRisenWhere (answer ≡ Err known) b c → HaveRisenWhere (status ≡ known) a c
have_risen_by answer status told known a b c is ends same where_it =
    have_risen_after (status ≡ known) a b c same (have_risen_as (answer ≡ Err known) (status ≡ known) b c (λ e. ends
    ∙ same_err answer told known is e) (λ e. is ∙ ap (λ (s : Status). Err s) (sym ends ∙ e)) where_it)
