-- Each step of a copy keeps its relation.
use Rattle.std.proofs.Common.{◌≡◌, ◌⊎◌, inl, inr, ℕ, ◌+◌, ◌≤◌, List, [], ◌∷◌, length, refl, sym, ap, ◌∙◌, subst, arith, eq-eqb}
use Rattle.std.specs.Prelude.{Bool, true, false, cond, not, ◌&&◌, ◌||◌, Option, Some, None, filter, nat_le, ◌==◌, if◌then◌else◌}
use Rattle.std.proofs.lemmas.Bool.{ne_eqb, eqb-true}
use Rattle.std.proofs.lemmas.List.Kept.{IsStrictlySortedBy-filter}
use Rattle.query_model.proofs.Entries.{sorted_insert, sorted_remove, find_insert, find_remove, equal_turned}
use Rattle.std.specs.Ordering.{is_eq}
use Rattle.bson_model.specs.Tree.{Datum, Fields}
use Rattle.value_model.specs.Keys.{Bound, Range, range_span, inside}
use Rattle.value_model.specs.Order.{order, same_value}
use Rattle.value_model.proofs.Flat.{order_total}
use Rattle.value_model.proofs.Spans.{same_inside}
use Rattle.history_model.specs.Documents.{Rows, AreInOrder, document_under, put_under}
use Rattle.history_model.specs.History.{IsIn}
use Rattle.history_model.proofs.Collections.{none_in_order}
use Rattle.history_model.proofs.Lists.{in_cons, in_none}
use Rattle.move_model.specs.Sources.{Source, is_handed_out, has_key, is_up_to, Marks, AreRising}
use Rattle.record_model.specs.Moves.{MovedDocument, Batch}
use Rattle.move_model.specs.Batches.{batch_of, keys_of_members, members_next, cursor_after}
use Rattle.move_model.specs.Recipients.{Fit, next_fit, known_fit, strange_fit, fit_of, overlay}
use Rattle.move_model.specs.Copies.{Copy, copy_start, copy_handed_out, copy_written, copy_applied, copy_by_fit, copy_received, copy_answered, last_members, will_have, IsCopied, AreNumbered, IsCopy, HasNone, QuietStep, hands_out, receives, answers, CopyStep, quiet, writes, CopyRun, copy_stays, copy_goes_on}
use Rattle.move_model.proofs.Cursors.{differ, none_up_to_least, up_to_alike}
use Rattle.move_model.proofs.Keys.{has_without, overlay_present}
use Rattle.move_model.proofs.Batches.{IsNext, next_facts}

pub will_now : (c : Copy) (key : Datum) → c.applied ≡ c.source.number → will_have c key ≡ c.copied key
will_now c key e =
    ap (λ (t : Bool). if t then c.copied key else overlay (last_members c.sent) key (c.copied key)) (eq-eqb c.applied c.source.number e)

pub will_fly : (c : Copy) (key : Datum) → c.applied + 1 ≡ c.source.number → will_have c key ≡ overlay (last_members c.sent) key (c.copied key)
will_fly c key e =
    ap (λ (t : Bool). if t then c.copied key else overlay (last_members c.sent) key (c.copied key)) (ne_eqb c.applied c.source.number (λ same. omega arith))

-- at the start
pub start_kept : (range : Range) (documents : Rows) (copied : Datum → Option Fields) → AreInOrder documents → HasNone range copied →
    IsCopy (copy_start range documents copied)
start_kept range documents copied ordered none = record {
  keys = λ key is in_range. inl (none_up_to_least key is, none key is in_range);
  in_flight = inl refl;
  count = refl;
  numbered = tt;
  rows = ordered;
  rising = none_in_order;
}

-- a batch is handed out
pub applied_all : (c : Copy) → IsCopy c → c.source.unanswered ≡ false → c.applied ≡ c.source.number
applied_all c h free = by h.in_flight
  where
    by : (c.applied ≡ c.source.number) ⊎ ((c.source.unanswered ≡ true) × (c.applied + 1 ≡ c.source.number)) → c.applied ≡ c.source.number
    by (inl e) = e
    by (inr (waits, e)) = absurd (differ (sym waits ∙ free))

module _ (c : Copy) (h : IsCopy c) (free : c.source.unanswered ≡ false) (key : Datum) (in_range : inside (range_span c.source.range) key ≡ true) where
  abbrev ms : List MovedDocument
  ms = members_next c.source c.documents

  abbrev upto : Bound
  upto = cursor_after c.source c.documents (members_next c.source c.documents)

  facts : IsNext c.source c.documents ms upto
  facts = next_facts c.source c.documents h.rows

  will_be : will_have (copy_handed_out c) key ≡ cond (has_key key (keys_of_members ms)) (document_under key c.documents) (c.copied key)
  will_be =
      will_fly (copy_handed_out c) key (ap (λ (n : ℕ). n + 1) (applied_all c h free)) ∙ overlay_present c.documents ms key (c.copied key) facts.present

  is_was : will_have c key ≡ c.copied key
  is_was = will_now c key (applied_all c h free)

  gone : has_key key (copy_handed_out c).source.changed ≡ (not (has_key key (keys_of_members ms)) && has_key key c.source.changed)
  gone = has_without key (keys_of_members ms) c.source.changed

  handed_key : (has : Bool) → has_key key (keys_of_members ms) ≡ has → (up : Bool) → is_up_to upto key ≡ up → IsCopied c key →
      IsCopied (copy_handed_out c) key
  handed_key true is up e old =
      inr (facts.handed key in_range is, inr (will_be ∙ ap (λ (t : Bool). cond t (document_under key c.documents) (c.copied key)) is))
  handed_key false is false e (inl (past, none)) =
      inl (e, will_be ∙ ap (λ (t : Bool). cond t (document_under key c.documents) (c.copied key)) is ∙ sym is_was ∙ none)
  handed_key false is true e (inl (past, none)) =
      inr (
        e,
        inr (will_be ∙ ap (λ (t : Bool). cond t (document_under key c.documents) (c.copied key)) is ∙ sym is_was ∙ none
            ∙ sym (facts.none key in_range past e is)),
      )
  handed_key false is up e (inr (here, inl changed)) =
      inr (facts.further key in_range here, inl (gone ∙ ap (λ (t : Bool). not t && has_key key c.source.changed) is ∙ changed))
  handed_key false is up e (inr (here, inr same)) =
      inr (facts.further key in_range here, inr (will_be ∙ ap (λ (t : Bool). cond t (document_under key c.documents) (c.copied key)) is ∙ sym is_was ∙ same))

pub hand_out_kept : (c : Copy) → IsCopy c → c.source.unanswered ≡ false → IsCopy (copy_handed_out c)
hand_out_kept c h free = record {
  keys = λ key is in_range. handed_key c h free key in_range (has_key key (keys_of_members (members_next c.source c.documents))) refl
      (is_up_to (cursor_after c.source c.documents (members_next c.source c.documents)) key) refl (h.keys key is in_range);
  in_flight = inr (refl, ap (λ (n : ℕ). n + 1) (applied_all c h free));
  count = count;
  numbered = (ap (λ (n : ℕ). n + 1) h.count, h.numbered);
  rows = h.rows;
  rising = rises;
}
  where
    count : c.source.number + 1 ≡ length (batch_of c.source c.documents ∷ c.sent)
    count = omega (arith, h.count)

    rises : AreRising (filter (λ key. not (has_key key (keys_of_members (members_next c.source c.documents)))) c.source.changed)
    rises = IsStrictlySortedBy-filter order (λ key. not (has_key key (keys_of_members (members_next c.source c.documents)))) c.source.changed h.rising

-- a batch arrives
pub next_is : (applied number : ℕ) → fit_of applied number ≡ next_fit → number ≡ applied + 1
next_is applied number e = by (number == applied + 1) refl e
  where
    other : (b : Bool) → (if b then known_fit else strange_fit) ≡ next_fit → ⊥
    other true e = cc
    other false e = cc

    by : (b : Bool) → (number == applied + 1) ≡ b →
        (if b then next_fit else if nat_le 1 number && nat_le number applied then known_fit else strange_fit) ≡ next_fit → number ≡ applied + 1
    by true is e = eqb-true number (applied + 1) is
    by false is e = absurd (other (nat_le 1 number && nat_le number applied) e)

-- the number of a batch among these
in_numbered : (b : Batch) (sent : List Batch) → AreNumbered sent → IsIn b sent → (b.number ≤ length sent) × (b.number ≡ length sent →
    last_members sent ≡ b.docs)
in_numbered b [] numbered i = absurd (in_none b i)
in_numbered b (a ∷ sent) numbered i = by (in_cons b a sent i) (λ j. in_numbered b sent numbered.1 j)
  where
    by : (b ≡ a) ⊎ IsIn b sent → (IsIn b sent → (b.number ≤ length sent) × (b.number ≡ length sent → last_members sent ≡ b.docs)) →
        (b.number ≤ length (a ∷ sent)) × (b.number ≡ length (a ∷ sent) → a.docs ≡ b.docs)
    by (inl e) rest =
        let n : b.number ≡ length sent + 1 = ap (λ (x : Batch). x.number) e ∙ numbered.0 in
        (omega (arith, n), λ same. ap (λ (x : Batch). x.docs) (sym e))
    by (inr j) rest = let less : b.number ≤ length sent = (rest j).0 in (omega (arith, less), λ same. absurd (omega (arith, less, same)))

module _ (c : Copy) (b : Batch) (h : IsCopy c) (i : IsIn b c.sent) where
  same_will : (key : Datum) → b.number ≡ c.source.number → c.applied + 1 ≡ c.source.number → will_have (copy_applied b c) key ≡ will_have c key
  same_will key number flies =
      will_now (copy_applied b c) key number
      ∙ ap (λ (ms : List MovedDocument). overlay ms key (c.copied key)) (sym ((in_numbered b c.sent h.numbered i).1 (number ∙ h.count)))
      ∙ sym (will_fly c key flies)

  same_copied : (key : Datum) → will_have (copy_applied b c) key ≡ will_have c key → IsCopied c key → IsCopied (copy_applied b c) key
  same_copied key same (inl (past, none)) = inl (past, same ∙ none)
  same_copied key same (inr (here, inl changed)) = inr (here, inl changed)
  same_copied key same (inr (here, inr equal)) = inr (here, inr (same ∙ equal))

  pub flies_by : b.number ≡ c.applied + 1 → c.applied + 1 ≡ c.source.number
  flies_by next = by h.in_flight
    where
      by : (c.applied ≡ c.source.number) ⊎ ((c.source.unanswered ≡ true) × (c.applied + 1 ≡ c.source.number)) → c.applied + 1 ≡ c.source.number
      by (inl e) = let less : b.number ≤ length c.sent = (in_numbered b c.sent h.numbered i).0 in let count = h.count in absurd (omega (arith, less, e, next, count))
      by (inr (waits, e)) = e

  applied_kept : b.number ≡ c.applied + 1 → IsCopy (copy_applied b c)
  applied_kept next = record {
    keys = λ key is in_range. same_copied key (same_will key (next ∙ flies_by next) (flies_by next)) (h.keys key is in_range);
    in_flight = inl (next ∙ flies_by next);
    count = h.count;
    numbered = h.numbered;
    rows = h.rows;
    rising = h.rising;
  }

  fit_kept : (f : Fit) → (f ≡ next_fit → b.number ≡ c.applied + 1) → IsCopy (copy_by_fit f b c)
  fit_kept next_fit next = applied_kept (next refl)
  fit_kept known_fit next = h
  fit_kept strange_fit next = h

  pub receive_kept : IsCopy (copy_received b c)
  receive_kept = fit_kept (fit_of c.applied b.number) (next_is c.applied b.number)

-- an answer arrives
pub answer_kept : (c : Copy) (number : ℕ) → IsCopy c → number ≤ c.applied → IsCopy (copy_answered number c)
answer_kept c number h less = record {
  keys = h.keys;
  in_flight = by h.in_flight;
  count = h.count;
  numbered = h.numbered;
  rows = h.rows;
  rising = h.rising;
}
  where
    by : (c.applied ≡ c.source.number) ⊎ ((c.source.unanswered ≡ true) × (c.applied + 1 ≡ c.source.number)) →
        (c.applied ≡ c.source.number) ⊎ (((c.source.unanswered && not (c.source.number == number)) ≡ true) × (c.applied + 1 ≡ c.source.number))
    by (inl e) = inl e
    by (inr (waits, e)) =
        let other : (c.source.number == number) ≡ false = ne_eqb c.source.number number (λ same. omega (arith, same, e, less)) in
        inr (rw (waits, other) refl, e)

-- a write at the source
put_in_order : (key : Datum) (document : Option Fields) (rows : Rows) → AreInOrder rows → AreInOrder (put_under key document rows)
put_in_order key (Some document) rows ordered = sorted_insert order_total key document rows ordered
put_in_order key None rows ordered = sorted_remove order_total (λ k. is_eq (order key k)) rows ordered

put_found : (key q : Datum) (document : Option Fields) (rows : Rows) → AreInOrder rows →
    document_under q (put_under key document rows) ≡ cond (same_value key q) document (document_under q rows)
put_found key q (Some document) rows ordered = find_insert order_total q key document rows
    ∙ ap (λ (b : Bool). cond b (Some document) (document_under q rows)) (equal_turned order_total q key)
put_found key q None rows ordered = find_remove order_total q key rows ordered

module _ (c : Copy) (written : Datum) (document : Option Fields) (s : Source) (h : IsCopy c) (marks : Marks written c.source s) (key : Datum)
    (in_range : inside (range_span c.source.range) key ≡ true) where
  will_stay : will_have (copy_written written document s c) key ≡ will_have c key
  will_stay = ap (λ (n : ℕ). if c.applied == n then c.copied key else overlay (last_members c.sent) key (c.copied key)) marks.number

  cursor_stays : is_up_to s.cursor key ≡ is_up_to c.source.cursor key
  cursor_stays = ap (λ (b : Bound). is_up_to b key) marks.cursor

  still : has_key key c.source.changed ≡ true → has_key key s.changed ≡ true
  still changed = marks.changed key ∙ ap (λ (t : Bool). (is_handed_out c.source written && same_value written key) || t) changed
      ∙ or_true (is_handed_out c.source written && same_value written key)
    where
      or_true : (b : Bool) → (b || true) ≡ true
      or_true true = refl
      or_true false = refl

  joins : same_value written key ≡ true → is_up_to c.source.cursor key ≡ true → has_key key s.changed ≡ true
  joins same here =
      let near : inside (range_span c.source.range) written ≡ true = same_inside (range_span c.source.range) written key same ∙ in_range in
      let up : is_up_to c.source.cursor written ≡ true = up_to_alike c.source.cursor written key same ∙ here in
      let own : (is_handed_out c.source written && same_value written key) ≡ true = rw (near, up, same) refl in
      marks.changed key ∙ ap (λ (t : Bool). t || has_key key c.source.changed) own

  written_key : (same : Bool) → same_value written key ≡ same → IsCopied c key → IsCopied (copy_written written document s c) key
  written_key same is (inl (past, none)) = inl (cursor_stays ∙ past, will_stay ∙ none)
  written_key same is (inr (here, inl changed)) = inr (cursor_stays ∙ here, inl (still changed))
  written_key true is (inr (here, inr equal)) = inr (cursor_stays ∙ here, inl (joins is here))
  written_key false is (inr (here, inr equal)) =
      inr (
        cursor_stays ∙ here,
        inr (will_stay ∙ equal
            ∙ sym (put_found written key document c.documents h.rows ∙ ap (λ (t : Bool). cond t document (document_under key c.documents)) is)),
      )

pub write_kept : (c : Copy) (key : Datum) (document : Option Fields) (s : Source) → IsCopy c → Marks key c.source s → IsCopy (copy_written key document s c)
write_kept c key document s h marks = record {
  keys = λ q is in_range. let near : inside (range_span c.source.range) q ≡ true = subst (λ (r : Range). inside (range_span r) q
      ≡ true) marks.range in_range in
      written_key c key document s h marks q near (same_value key q) refl (h.keys q is near);
  in_flight = in_flight h.in_flight;
  count = marks.number ∙ h.count;
  numbered = h.numbered;
  rows = put_in_order key document c.documents h.rows;
  rising = marks.rising;
}
  where
    in_flight : (c.applied ≡ c.source.number) ⊎ ((c.source.unanswered ≡ true) × (c.applied + 1 ≡ c.source.number)) →
        (c.applied ≡ s.number) ⊎ ((s.unanswered ≡ true) × (c.applied + 1 ≡ s.number))
    in_flight (inl e) = inl (e ∙ sym marks.number)
    in_flight (inr (waits, e)) = inr (marks.unanswered ∙ waits, e ∙ sym marks.number)

-- each step, and each run
pub quiet_kept : (c d : Copy) → IsCopy c → QuietStep c d → IsCopy d
quiet_kept _ _ h (hands_out c free) = hand_out_kept c h free
quiet_kept _ _ h (receives c b i) = receive_kept c b h i
quiet_kept _ _ h (answers c number less) = answer_kept c number h less

pub step_kept : (c d : Copy) → IsCopy c → CopyStep c d → IsCopy d
step_kept _ _ h (quiet c d step) = quiet_kept c d h step
step_kept _ _ h (writes c key document s marks) = write_kept c key document s h marks

pub run_kept : (c d : Copy) → IsCopy c → CopyRun c d → IsCopy d
run_kept _ _ h (copy_stays c) = h
run_kept _ _ h (copy_goes_on c d e step more) = run_kept d e (step_kept c d h step) more
