-- What a crash may leave of a disk in memory, and may have left at a moment.
use Rattle.std.proofs.Common.{◌≡◌, inr, ℕ, zero, suc, ◌+◌, ◌≤◌, List, [], ◌∷◌, ◌++◌, length, take, drop, max, min, refl, sym, ◌-◌, ◌∙◌, replicate, append_assoc, ap, subst, arith, length-append}
use Rattle.std.proofs.lemmas.Grind.{common_steps}
use Rattle.std.proofs.lemmas.List.{take_all, take_at, drop_at, take_min, length-take}
use Rattle.outside_memory.proofs.Parts.{written_back}
use Rattle.outside.specs.Disks.{Outcomes, Torn, Cut, Holds, Follows, Within, Only, Elapses, After}
use Rattle.outside_memory.specs.Memory.{written}
use Rattle.outside_memory.specs.Calls.{replayed, left_by, left_after}
use Rattle.outside_memory.specs.declared.call.Call.{Call}
use Rattle.outside_memory.specs.declared.call.Call.TheVariants.{Write, Cut as CutTo, Sync}

-- the bytes after some calls and then others
pub replayed_append : (bytes : List ℕ) (calls more : List Call) →
    replayed bytes (calls ++ more) ≡ replayed (replayed bytes calls) more
replayed_append bytes [] more = refl
replayed_append bytes (Write at piece ∷ calls) more = replayed_append (written bytes at piece) calls more
replayed_append bytes (CutTo len ∷ calls) more = replayed_append (take len bytes) calls more
replayed_append bytes (Sync ∷ calls) more = replayed_append bytes calls more

-- what a crash may leave after some calls and then others
left_append : (before : Outcomes) (bytes : List ℕ) (calls more : List Call) (c : List ℕ) →
    left_by before bytes (calls ++ more) c → left_by (left_by before bytes calls) (replayed bytes calls) more c
left_append before bytes [] more c left = left
left_append before bytes (Write at piece ∷ calls) more c left =
    left_append (After (Torn at (length piece)) before) (written bytes at piece) calls more c left
left_append before bytes (CutTo len ∷ calls) more c left = left_append (After (Cut len) before) (take len bytes) calls more c left
left_append before bytes (Sync ∷ calls) more c left = left_append (λ b. b ≡ bytes) bytes calls more c left

-- the calls up to a moment, of calls with one more
take_push : (k : ℕ) (calls : List Call) (call : Call) → k ≤ length calls → take k (calls ++ call ∷ []) ≡ take k calls
take_push zero calls call le = refl
take_push (suc k) [] call le = absurd (omega arith)
take_push (suc k) (x ∷ calls) call le = ap (λ xs. x ∷ xs) (take_push k calls call (omega arith))

-- after a call that is not listed a crash leaves what it left before
pub within_same : (start start' : List ℕ) (calls calls' : List Call) → start' ≡ start → calls' ≡ calls →
    Within (left_after start calls) (left_after start' calls')
within_same start start' calls calls' same all c left =
    subst (λ xs. left_after start xs c) all (subst (λ s. left_after s calls' c) same left)

-- one moment goes by with a call that is listed
pub elapses_listed : (start start' : List ℕ) (calls calls' : List Call) (call : Call) → start' ≡ start → calls' ≡ calls ++ call ∷ [] →
    Elapses (length calls) (length calls') (λ t. left_after start (take t calls)) (λ t. left_after start' (take t calls')) (left_after start' calls')
elapses_listed start start' calls calls' call same all = rw (same, all) record {
  later = omega (arith, length-append calls (call ∷ []));
  nothing_else = λ t c le left. subst (λ xs. left_after start xs c) (take_push t calls call le) left;
  keeps = λ t c le left. subst (λ xs. left_after start xs c) (sym (take_push t calls call le)) left;
  during = λ t c past le left. inr (subst (λ xs. left_after start xs c)
      (take_all t (calls ++ call ∷ []) (omega (arith, past, length-append calls (call ∷ [])))) left);
}

-- what is left after one more call, by what was left before it
one_more : (start start' : List ℕ) (calls calls' : List Call) (call : Call) (c : List ℕ) → start' ≡ start → calls' ≡ calls ++ call ∷ [] →
    left_after start' calls' c → left_by (left_after start calls) (replayed start calls) (call ∷ []) c
one_more start start' calls calls' call c same all left = left_append (λ b. b ≡ start) start calls (call ∷ []) c
    (subst (λ xs. left_after start xs c) all (subst (λ s. left_after s calls' c) same left))

-- after a listed write a crash leaves what it left before it, with a part of the range written
pub follows_write : (start start' : List ℕ) (calls calls' : List Call) (at : ℕ) (piece : List ℕ) → start' ≡ start →
    calls' ≡ calls ++ Write at piece ∷ [] → Follows (Torn at (length piece)) (left_after start calls) (left_after start' calls')
follows_write start start' calls calls' at piece same all c left = one_more start start' calls calls' (Write at piece) c same all left

-- after a listed cut it leaves what it left before it, cut in part
pub follows_cut : (start start' : List ℕ) (calls calls' : List Call) (len : ℕ) → start' ≡ start →
    calls' ≡ calls ++ CutTo len ∷ [] → Follows (Cut len) (left_after start calls) (left_after start' calls')
follows_cut start start' calls calls' len same all c left = one_more start start' calls calls' (CutTo len) c same all left

-- after a listed sync it leaves what the calls made of the start
pub only_synced : (start start' bytes : List ℕ) (calls calls' : List Call) → start' ≡ start → calls' ≡ calls ++ Sync ∷ [] →
    bytes ≡ replayed start calls → Only bytes (left_after start' calls')
only_synced start start' bytes calls calls' same all is c left = one_more start start' calls calls' Sync c same all left ∙ sym is

-- bytes are torn from themselves
pub torn_self : (at n : ℕ) (bytes : List ℕ) → Torn at n bytes bytes
torn_self at n bytes = record { before = take_min at bytes; after = refl; no_shorter = omega arith; no_longer = omega arith }

-- and cut from themselves
pub cut_self : (n : ℕ) (bytes : List ℕ) → Cut n bytes bytes
cut_self n bytes = record { no_shorter = omega arith; prefix = sym (take_all (length bytes) bytes (omega arith)) }

-- a call that changed nothing is a step
pub torn_same : (start start' : List ℕ) (calls calls' : List Call) (at n : ℕ) → start' ≡ start → calls' ≡ calls →
    Follows (Torn at n) (left_after start calls) (left_after start' calls')
torn_same start start' calls calls' at n same all c left = (c, within_same start start' calls calls' same all c left, torn_self at n c)

-- and so with a cut
pub cut_same : (start start' : List ℕ) (calls calls' : List Call) (n : ℕ) → start' ≡ start → calls' ≡ calls →
    Follows (Cut n) (left_after start calls) (left_after start' calls')
cut_same start start' calls calls' n same all c left = (c, within_same start start' calls calls' same all c left, cut_self n c)

-- a write holds its piece
pub written_holds : (bytes : List ℕ) (at : ℕ) (piece : List ℕ) → Holds at piece bytes (written bytes at piece)
written_holds bytes at [] = record { before = take_min at bytes; here = refl; after = refl }
written_holds bytes at (b ∷ piece) = record {
  before = rw (append_assoc (take at bytes ++ gap) (b ∷ piece) back, append_assoc (take at bytes) gap ((b ∷ piece) ++ back))
      (take_at (take at bytes) (gap ++ ((b ∷ piece) ++ back)) (min at (length bytes)) (length-take at bytes));
  here = written_back bytes at (b ∷ piece);
  after = drop_at (take at bytes ++ gap ++ b ∷ piece) back (at + length (b ∷ piece)) (grind (arith, common_steps));
}
  where
    gap : List ℕ
    gap = replicate (at - length bytes) 0

    back : List ℕ
    back = drop (at + length (b ∷ piece)) bytes

-- how long bytes are after a write
length-written : (bytes : List ℕ) (at : ℕ) (piece : List ℕ) →
    (length bytes ≤ length (written bytes at piece)) × (length (written bytes at piece) ≤ max (length bytes) (at + length piece))
length-written bytes at [] = (omega arith, omega arith)
length-written bytes at (b ∷ piece) = (grind (arith, common_steps), grind (arith, common_steps))

-- bytes with the piece are torn from those before
written_torn : (bytes : List ℕ) (at : ℕ) (piece : List ℕ) → Torn at (length piece) bytes (written bytes at piece)
written_torn bytes at piece = record {
  before = (written_holds bytes at piece).before;
  after = (written_holds bytes at piece).after;
  no_shorter = (length-written bytes at piece).0;
  no_longer = (length-written bytes at piece).1;
}

-- bytes that were cut are cut from those before
taken_cut : (n : ℕ) (bytes : List ℕ) → Cut n bytes (take n bytes)
taken_cut n bytes = record {
  no_shorter = omega (arith, length-take n bytes);
  prefix = sym (take_min n bytes) ∙ ap (λ k. take k bytes) (sym (length-take n bytes));
}

-- a crash may leave what the calls made
stays_possible : (before : Outcomes) (bytes : List ℕ) (calls : List Call) → before bytes →
    left_by before bytes calls (replayed bytes calls)
stays_possible before bytes [] now = now
stays_possible before bytes (Write at piece ∷ calls) now =
    stays_possible (After (Torn at (length piece)) before) (written bytes at piece) calls (bytes, now, written_torn bytes at piece)
stays_possible before bytes (CutTo len ∷ calls) now =
    stays_possible (After (Cut len) before) (take len bytes) calls (bytes, now, taken_cut len bytes)
stays_possible before bytes (Sync ∷ calls) now = stays_possible (λ b. b ≡ bytes) bytes calls refl

-- after a listed sync a crash leaves nothing that it might not have left before
pub within_synced : (start start' : List ℕ) (calls calls' : List Call) → start' ≡ start → calls' ≡ calls ++ Sync ∷ [] →
    Within (left_after start calls) (left_after start' calls')
within_synced start start' calls calls' same all c left =
    subst (left_after start calls) (sym (only_synced start start' (replayed start calls) calls calls' same all refl c left))
    (stays_possible (λ b. b ≡ start) start calls refl)

-- after a listed sync a crash may leave what the calls made of the start
pub stays_synced : (start start' bytes : List ℕ) (calls calls' : List Call) → start' ≡ start → calls' ≡ calls ++ Sync ∷ [] →
    bytes ≡ replayed start calls → left_after start' calls' bytes
stays_synced start start' bytes calls calls' same all is = rw (same, all, is)
    (subst (left_after start (calls ++ Sync ∷ [])) (replayed_append start calls (Sync ∷ []))
    (stays_possible (λ b. b ≡ start) start (calls ++ Sync ∷ []) refl))
