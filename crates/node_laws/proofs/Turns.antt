-- What a router's step leaves of its cursors, and of those of all.
use Rattle.std.proofs.Common.{◌≡◌, ◌≢◌, inl, inr, ℕ, ◌+◌, ◌<◌, ◌≤◌, ◌*◌, List, [], ◌∷◌, ◌++◌, refl, sym, ap, subst, ◌∙◌, arith, Bool}
use Rattle.std.specs.Prelude.{ℤ, pos, Some, true, false, filter, ◌==◌, ◌&&◌, nat_lt, if◌then◌else◌}
use Rattle.std.specs.List.{AllByRecursion}
use Rattle.std.specs.Ordering.{int_eq}
use Rattle.std.specs.Str.{bytes_eq}
use Rattle.std.proofs.lemmas.Bool.{ltb-true, eqb-true}
use Rattle.std.proofs.lemmas.Bool.Decides.{Decides-eqb}
use Rattle.bson_model.proofs.Booleans.{both}
use Rattle.history_model.proofs.Lists.{all_weaken, all_append}
use Rattle.bson_model.specs.Tree.{Fields}
use Rattle.base_model.specs.Identities.{RequestId}
use Rattle.reply_model.specs.Cursors.{Cursor, has_number, is_open, open_cursor, with_remaining}
use Rattle.node_model.specs.States.{Router}
use Rattle.node_model.specs.RouterRows.{Opened, block_size, gives_number, next_number}
use Rattle.node_laws.proofs.Facts.{IsBy, IsGiven, is_of, is_of_life, CursorsFit}
use Rattle.node_laws.proofs.OwnCursors.{filter_with, filter_without, own_life, remaining_own, remaining_elsewhere, remaining_given, KillsAll}

-- the router has these cursors of all, and those of other routers stay
pub record Turns (before after : List Cursor) (at : ℕ) (s : Router) : Type 0 where
  pub fits : CursorsFit after at s
  pub elsewhere : (router : ℕ) → router ≢ at → filter (is_of router) after ≡ filter (is_of router) before

-- what is in this life shows that it began
pub began_by : (life now : ℕ) (begun : Bool) (P : Type 0) → life ≡ now → IsBy life now begun P → begun ≡ true
began_by life now begun P same (inl less) = absurd (omega (arith, same))
began_by life now begun P same (inr (e, began, p)) = began

-- of a life that began, or not
pub given_later : (life : ℕ) (begun is : Bool) (gave more early late : ℕ) (cursors : List Cursor) → (begun ≡ true → is ≡ true) → gave ≤ more → early ≤ late
    → AllByRecursion (IsGiven life begun gave early) cursors
    → AllByRecursion (IsGiven life is more late) cursors
given_later life begun is gave more early late cursors goes_on up later all =
    all_weaken (IsGiven life begun gave early) (IsGiven life is more late) cursors
    (λ c g. record { n = g.n; number = g.number; given = (let h = g.given in omega arith); past = by_past c g.past }) all
  where
    by_past : (c : Cursor) → IsBy c.life life begun (c.time ≤ early) → IsBy c.life life is (c.time ≤ late)
    by_past c (inl less) = inl less
    by_past c (inr (same, began, past)) = inr (same, goes_on began, omega arith)

-- a router at a later time, with the cursors that it had
pub turns_same : (cursors : List Cursor) (at : ℕ) (r s : Router) → CursorsFit cursors at r → s.life ≡ r.life → (r.begun ≡ true → s.begun ≡ true)
    → s.cursors ≡ r.cursors → s.blocks ≡ r.blocks → s.gave ≡ r.gave
    → r.time ≤ s.time → Turns cursors cursors at s
turns_same cursors at r s fits life goes_on own blocks gave later = record {
  fits = record {
    own = ap (λ l. filter (is_of_life at l) cursors) life ∙ fits.own ∙ sym own;
    given = subst (λ n. AllByRecursion (IsGiven n s.begun s.gave s.time) (filter (is_of at) cursors)) (sym life)
        (given_later r.life r.begun s.begun r.gave s.gave r.time s.time (filter (is_of at) cursors) goes_on (omega (arith, gave)) later fits.given);
    most = (let h = fits.most in omega (arith, h, ap (λ n. block_size * n) blocks, gave));
  };
  elsewhere = λ router other. refl;
}

-- A NEW CURSOR

-- the number that is given next is above those that were given, and in its block
pub next_above : (r : Router) → r.gave ≤ block_size * r.blocks → r.gave < next_number r
next_above r most = by_test (nat_lt r.gave (block_size * r.blocks)) refl
  where
    by_test : (b : Bool) → nat_lt r.gave (block_size * r.blocks) ≡ b → r.gave < (if b then r.gave + 1 else block_size * r.blocks + 1)
    by_test true h = omega arith
    by_test false h = omega arith

-- what is given of numbers after one more
pub record OneMore (r : Router) (cursors : List Cursor) (f : Opened) : Type 0 where
  pub own : f.cursors ≡ cursors
  pub gave : f.gave ≡ next_number r
  pub most : f.gave ≤ block_size * f.blocks

pub one_more_number : (r : Router) (cursors : List Cursor) → OneMore r cursors (gives_number r cursors)
one_more_number r cursors = by_test (nat_lt r.gave (block_size * r.blocks)) refl
  where
    by_test : (b : Bool) → nat_lt r.gave (block_size * r.blocks) ≡ b → OneMore r cursors (gives_number r cursors)
    by_test true h =
        let less : r.gave < block_size * r.blocks = ltb-true _ _ h in
        rw h (record { own = refl; gave = rw h refl; most = omega arith })
    by_test false h = rw h (record { own = refl; gave = rw h refl; most = omega arith })

-- a cursor is opened
pub turns_one : (cursors : List Cursor) (r s : Router) (c : Cursor) → CursorsFit cursors r.me r → c.router ≡ r.me → c.life ≡ r.life
    → c.number ≡ pos (next_number r) → c.time ≤ s.time
    → s.life ≡ r.life → s.begun ≡ true → r.time ≤ s.time → s.cursors ≡ r.cursors ++ c ∷ [] → s.gave ≡ next_number r → s.gave ≤ block_size * s.blocks
    → Turns cursors (cursors ++ c ∷ []) r.me s
turns_one cursors r s c fits router life number past same began later has gave most =
    let less = next_above r fits.most in
    let own : is_of_life r.me r.life c ≡ true = rw (router, life, (Decides-eqb r.me r.me).1 refl, (Decides-eqb r.life r.life).1 refl) refl in
    let here : is_of r.me c ≡ true = rw (router, (Decides-eqb r.me r.me).1 refl) refl in
    record {
      fits = record {
        own = ap (λ l. filter (is_of_life r.me l) (cursors ++ c ∷ [])) same ∙ filter_with (is_of_life r.me r.life) cursors c own
            ∙ ap (λ l. l ++ c ∷ []) fits.own ∙ sym has;
        given = subst (λ l. AllByRecursion (IsGiven s.life s.begun s.gave s.time) l) (sym (filter_with (is_of r.me) cursors c here))
            (subst (λ n. AllByRecursion (IsGiven n s.begun s.gave s.time) (filter (is_of r.me) cursors ++ c ∷ [])) (sym same)
            (all_append (IsGiven r.life s.begun s.gave s.time) (filter (is_of r.me) cursors) (c ∷ [])
            (given_later r.life r.begun s.begun r.gave s.gave r.time s.time (filter (is_of r.me) cursors) (λ e. began) (omega (arith, less, gave)) later fits.given)
            (record { n = next_number r; number = number; given = omega (arith, gave); past = inr (life, began, past) }, tt)));
        most = most;
      };
      elsewhere = λ at other. filter_without (is_of at) cursors c (not_of c.router at (λ e. other (sym e ∙ router)));
    }
  where
    not_of : (a b : ℕ) → a ≢ b → (a == b) ≡ false
    not_of a b other = by_test (a == b) refl
      where
        by_test : (t : Bool) → (a == b) ≡ t → (a == b) ≡ false
        by_test true e = absurd (other (eqb-true _ _ e))
        by_test false e = e

-- what remains of one changes
pub turns_left : (cursors : List Cursor) (r s : Router) (id : RequestId) (number : ℤ) (remaining : List Fields) → CursorsFit cursors r.me r → id.router ≡ r.me
    → id.life ≡ r.life
    → s.life ≡ r.life → (r.begun ≡ true → s.begun ≡ true) → s.cursors ≡ with_remaining id number remaining r.cursors → s.blocks ≡ r.blocks → s.gave ≡ r.gave → r.time ≤ s.time
    → Turns cursors (with_remaining id number remaining cursors) r.me s
turns_left cursors r s id number remaining fits router life same goes_on left blocks gave later =
    let own : filter (own_life id) cursors ≡ r.cursors = rw (router, life) fits.own in
    record {
      fits = record {
        own = ap (λ l. filter (is_of_life r.me l) (with_remaining id number remaining cursors)) (same ∙ sym life)
            ∙ ap (λ n. filter (is_of_life n id.life) (with_remaining id number remaining cursors)) (sym router)
            ∙ remaining_own id number remaining cursors ∙ ap (λ l. with_remaining id number remaining l) own ∙ sym left;
        given = subst (λ n. AllByRecursion (IsGiven n s.begun s.gave s.time) (filter (is_of r.me) (with_remaining id number remaining cursors))) (sym same)
            (given_later r.life r.begun s.begun r.gave s.gave r.time s.time (filter (is_of r.me) (with_remaining id number remaining cursors)) goes_on
            (omega (arith, gave)) later (remaining_given id number remaining r.me r.life r.begun r.gave r.time cursors fits.given));
        most = (let h = fits.most in omega (arith, h, ap (λ n. block_size * n) blocks, gave));
      };
      elsewhere = λ at other. remaining_elsewhere id number remaining at cursors (λ e. other (e ∙ router));
    }

-- some are closed
pub turns_closed : (cursors : List Cursor) (r s : Router) (id : RequestId) (namespace : List ℕ) (numbers killed missing : List ℤ) (next : List Cursor)
    → CursorsFit cursors r.me r
    → id.router ≡ r.me → id.life ≡ r.life → (k : KillsAll id namespace cursors numbers killed missing next)
    → s.life ≡ r.life → (r.begun ≡ true → s.begun ≡ true) → s.cursors ≡ next → s.blocks ≡ r.blocks → s.gave ≡ r.gave → r.time ≤ s.time → Turns cursors k.after r.me s
turns_closed cursors r s id namespace numbers killed missing next fits router life k same goes_on left blocks gave later = record {
  fits = record {
    own = ap (λ l. filter (is_of_life r.me l) k.after) (same ∙ sym life) ∙ ap (λ n. filter (is_of_life n id.life) k.after) (sym router) ∙ k.own ∙ sym left;
    given = subst (λ n. AllByRecursion (IsGiven n s.begun s.gave s.time) (filter (is_of r.me) k.after)) (sym same)
        (subst (λ n. AllByRecursion (IsGiven r.life s.begun s.gave s.time) (filter (is_of n) k.after)) router
        (given_later r.life r.begun s.begun r.gave s.gave r.time s.time (filter (is_of id.router) k.after) goes_on (omega (arith, gave)) later
        (k.given r.life r.begun r.gave r.time
        (subst (λ n. AllByRecursion (IsGiven r.life r.begun r.gave r.time) (filter (is_of n) cursors)) (sym router) fits.given))));
    most = (let h = fits.most in omega (arith, h, ap (λ n. block_size * n) blocks, gave));
  };
  elsewhere = λ at other. k.elsewhere at (λ e. other (e ∙ router));
}

-- THE CURSOR OF A REQUEST

-- its documents are of a time that is past
pub open_past : (id : RequestId) (number : ℤ) (namespace : List ℕ) (begun : Bool) (gave time : ℕ) (cursors : List Cursor) (c : Cursor)
    → open_cursor id number namespace cursors ≡ Some c
    → AllByRecursion (IsGiven id.life begun gave time) (filter (is_of id.router) cursors) → c.time ≤ time
open_past id number namespace begun gave time [] c found all = absurd (cc)
open_past id number namespace begun gave time (d ∷ cursors) c found all =
    by_found (has_number id number d) refl (bytes_eq d.namespace namespace && is_open d) found all
    (λ f g. open_past id number namespace begun gave time cursors c f g)
  where
    by_past : d.life ≡ id.life → IsBy d.life id.life begun (d.time ≤ time) → d.time ≤ time
    by_past life (inl less) = absurd (omega (arith, life))
    by_past life (inr (same, began, past)) = past

    by_router : (b : Bool) → (d.router == id.router) ≡ b
        → AllByRecursion (IsGiven id.life begun gave time) (if b then d ∷ filter (is_of id.router) cursors else filter (is_of id.router) cursors)
        → ((b ≡ true → IsGiven id.life begun gave time d) × AllByRecursion (IsGiven id.life begun gave time) (filter (is_of id.router) cursors))
    by_router true h g = (λ e. g.0, g.1)
    by_router false h g = (λ e. absurd (cc), g)

    by_found : (x : Bool) → has_number id number d ≡ x → (y : Bool) → (if x && y then Some d else open_cursor id number namespace cursors) ≡ Some c
        → AllByRecursion (IsGiven id.life begun gave time) (if d.router == id.router then d ∷ filter (is_of id.router) cursors else filter (is_of id.router) cursors)
        → (open_cursor id number namespace cursors ≡ Some c → AllByRecursion (IsGiven id.life begun gave time) (filter (is_of id.router) cursors) → c.time ≤ time)
        → c.time ≤ time
    by_found true h true found g more =
        let same : d ≡ c = cc in
        let parts = both (d.router == id.router) ((d.life == id.life) && int_eq d.number number) h in
        let given = (by_router (d.router == id.router) refl g).0 parts.0 in
        let life : d.life ≡ id.life = eqb-true _ _ (both (d.life == id.life) (int_eq d.number number) parts.1).0 in
        subst (λ (x : Cursor). x.time ≤ time) same (by_past life given.past)
    by_found true h false found g more = more found (by_router (d.router == id.router) refl g).1
    by_found false h y found g more = more found (by_router (d.router == id.router) refl g).1
