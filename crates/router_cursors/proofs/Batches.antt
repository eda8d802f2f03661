-- The next batch of a cursor.
use Rattle.std.proofs.Common.{Global, ◌≡◌, ◌≢◌, refl, ap, sym, subst, ◌∙◌, ℕ, ℤ, List, [], ◌∷◌, map, length, drop, Bool, true, false, ◌≤◌, ◌<◌, arith, if◌then◌else◌, Result, Ok, Err}
use Rattle.std.specs.Prelude.{Option, Some, None, is_some, IfOk, IfErr, ◌↔◌, ◌==◌, pos, int_le}
use Rattle.std.specs.Arc.{arc_value}
use Rattle.std.proofs.lemmas.Bool.{eqb-true, eqb-false}
use Rattle.std.proofs.lemmas.List.{length-drop, length-map}
use Rattle.std.proofs.lemmas.Slice.Eq.{bytes_eq-Decides}
use Rattle.cursor_shelf.specs.Cursors.{OpenCursor, under}
use Rattle.cursor_shelf.specs.Shelves.{cursor_in, cursor_under}
use Rattle.cursor_shelf.specs.declared.shelf.Batch as shelves
use Rattle.cursor_shelf.specs.declared.shelf.Shelf.{Shelf}
use Rattle.cursor_shelf.specs.declared.shelf.ShelfFault.{ShelfFault}
use Rattle.cursor_shelf.specs.declared.shelf.ShelfFault.TheVariants.{NotFound}
use Rattle.bson_model.specs.Tree.{Fields}
use Rattle.reply_model.specs.Cursors.{Cursor, ShowsNext, number_left, open_cursor, with_remaining}
use Rattle.pipeline_model.specs.Batches.{IsBatch}
use Rattle.router_cursors.specs.CursorLists.{advanced, batch_of}
use Rattle.router_cursors.specs.Marks.{Marked, rises, left_in, AreKept, cursor_by}
use Rattle.router_cursors.proofs.Looks.{advanced_is, open_none, open_under, under_is}

-- the number that is shown
told_zero : (number : ℤ) (documents : List Fields) → length documents ≡ 0 → number_left number documents ≡ pos 0
told_zero number [] e = refl
told_zero number (d ∷ documents) e = absurd (omega (arith, e))

told_some : (number : ℤ) (documents : List Fields) → 0 < length documents → number_left number documents ≡ number
told_some number [] some = absurd (omega (arith, some))
told_some number (d ∷ documents) some = refl

told_left : (number : ℤ) (documents : List Fields) (shown : ℕ) → shown ≤ length documents → (if length documents == shown then pos 0 else number) ≡ number_left number (drop shown documents)
told_left number documents shown low = by (length documents == shown) refl where
  by : (b : Bool) → (length documents == shown) ≡ b → (if b then pos 0 else number) ≡ number_left number (drop shown documents)
  by true e = sym (told_zero number (drop shown documents) (omega (arith, length-drop shown documents, eqb-true (length documents) shown e)))
  by false e =
      let other : length documents ≢ shown = eqb-false (length documents) shown e in
      sym (told_some number (drop shown documents) (omega (arith, length-drop shown documents, low, other)))

module _ (router life count : ℕ) (shelf : Shelf) (gave : ℕ) (marks : List Marked) (rising : rises 0 gave marks ≡ true) (kept : AreKept (λ i. cursor_in shelf i) gave marks) (number : ℤ) (namespace : List ℕ) where
  abbrev cursors : List Cursor
  cursors = map (λ m. cursor_by router life (λ i. cursor_in shelf i) m) marks

  found_in : (o : Option OpenCursor) → is_some o ≡ true → (c : OpenCursor) × (o ≡ Some c)
  found_in None e = absurd (cc e)
  found_in (Some c) e = (c, refl)

  module _ (k : ℤ) (same : k ≡ number) where
    pub shows_next : (size : Option ℕ) (result : Result shelves.Batch ShelfFault) → int_le number (pos gave) ≡ true
        → IfOk result (λ b. (c : OpenCursor) → cursor_under shelf k namespace ≡ Some c → IsBatch size c.remaining (map arc_value b.documents.items))
        → IfOk result (λ b. (c : OpenCursor) → cursor_under shelf k namespace ≡ Some c → b.time.0 ≡ c.time)
        → IfOk result (λ b. (c : OpenCursor) → cursor_under shelf k namespace ≡ Some c → b.is_last ≡ (length c.remaining == length (map arc_value b.documents.items)))
        → IfOk result (λ b. is_some (cursor_under shelf k namespace) ≡ true)
        → IfOk result (λ b. (c : Cursor) × (open_cursor (record { router = router; life = life; count = count }) number namespace cursors ≡ Some c)
        × ShowsNext (record { router = router; life = life; count = count }) size cursors c (batch_of number namespace b)
        (advanced (record { router = router; life = life; count = count }) number (length b.documents.items) cursors))
    shows_next size (Err e) given documents time last found = tt
    shows_next size (Ok b) given documents time last found =
        let f = found_in (cursor_under shelf k namespace) found in
        let c : OpenCursor = f.0 in
        let at : under namespace (cursor_in shelf number) ≡ Some c = subst (λ (i : ℤ). cursor_under shelf i namespace ≡ Some c) same f.1 in
        let is = under_is router life count (λ i. cursor_in shelf i) namespace (cursor_in shelf number) c at in
        let shown : length (map arc_value b.documents.items) ≡ length b.documents.items = length-map b.documents.items arc_value in (
          record { router = router; life = life; number = number; namespace = c.namespace; time = c.time; remaining = c.remaining },
          open_under router life count (λ i. cursor_in shelf i) number namespace gave c marks kept given at,
          record {
            batch_of = documents c f.1;
            number = ap (λ (x : Bool). if x then pos 0 else number) (last c f.1)
                ∙ told_left number c.remaining (length (map arc_value b.documents.items)) (documents c f.1).allowed.there;
            name = sym ((bytes_eq-Decides c.namespace namespace).0 is.1);
            time = time c f.1;
            rest = advanced_is router life count (λ i. cursor_in shelf i) number (length b.documents.items) marks
                ∙ ap (λ (o : Option OpenCursor). with_remaining (record { router = router; life = life; count = count }) number (drop (length b.documents.items) (left_in o)) cursors) is.0
                ∙ ap (λ (n : ℕ). with_remaining (record { router = router; life = life; count = count }) number (drop n c.remaining) cursors) (sym shown);
          },
        )

    pub none_next : (result : Result shelves.Batch ShelfFault) → ((result ≡ Err NotFound) ↔ (cursor_under shelf k namespace ≡ None))
        → IfErr result (λ fault. fault ≡ NotFound → open_cursor (record { router = router; life = life; count = count }) number namespace cursors ≡ None)
    none_next (Ok b) not_found = tt
    none_next (Err fault) not_found = λ is.
        open_none router life count (λ i. cursor_in shelf i) number namespace gave marks rising kept
        (subst (λ (i : ℤ). cursor_under shelf i namespace ≡ None) same (not_found.0 (ap (λ (f : ShelfFault). Err f) is)))
