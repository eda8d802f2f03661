-- At the end of a range with nothing left both sides agree, and stay so without a write.
use Rattle.std.proofs.Common.{◌≡◌, inl, inr, ℕ, ◌≤◌, List, [], ◌∷◌, ◌++◌, length, refl, sym, ap, ◌∙◌}
use Rattle.std.specs.Prelude.{Bool, true, false, not, Some, map, filter, nat_le, if◌then◌else◌}
use Rattle.std.specs.Ordering.{is_lt}
use Rattle.std.proofs.lemmas.Cmp.{tied_itself}
use Rattle.bson_model.specs.Tree.{Datum}
use Rattle.value_model.specs.Keys.{Bound, order_bounds, value_of_bound, range_span, inside, is_key}
use Rattle.value_model.proofs.Flat.{order_total}
use Rattle.history_model.specs.Documents.{Rows, document_under}
use Rattle.history_model.specs.History.{IsIn}
use Rattle.move_model.specs.Sources.{Source, has_key, is_up_to, unanswered_stage, ready_stage, at_end_stage, has_some, stage_of}
use Rattle.record_model.specs.Moves.{MovedDocument, Batch}
use Rattle.move_model.specs.Batches.{fitting, documents_after, members_next, cursor_after, last_bound, keys_of_members, moved}
use Rattle.move_model.specs.Recipients.{Fit, next_fit, known_fit, strange_fit, fit_of}
use Rattle.move_model.specs.Copies.{Copy, copy_handed_out, copy_received, copy_answered, copy_applied, copy_by_fit, will_have, IsCopied, IsCopy, AreEqual, QuietStep, hands_out, receives, answers, QuietRun, quiet_start, quiet_more}
use Rattle.move_model.proofs.Cursors.{differ, at_end_up_to}
use Rattle.move_model.proofs.Relation.{applied_all, flies_by, next_is, quiet_kept, will_now}

-- at the end, no changed key is left, and both sides agree
pub record HasEnded (c : Copy) : Type 0 where
  pub copy : IsCopy c
  pub end : is_lt (order_bounds c.source.cursor c.source.range.max) ≡ false
  pub none : c.source.changed ≡ []
  pub equal : AreEqual c

-- what the stage says
pub record IsAtEnd (s : Source) : Type 0 where
  pub answered : s.unanswered ≡ false
  pub end : is_lt (order_bounds s.cursor s.range.max) ≡ false
  pub none : s.changed ≡ []

none_of : (keys : List Datum) → at_end_stage (has_some keys) ≡ at_end_stage false → keys ≡ []
none_of [] e = refl
none_of (key ∷ keys) e = cc

pub stage_at_end : (s : Source) → stage_of s ≡ at_end_stage false → IsAtEnd s
stage_at_end s e = by s.unanswered refl (is_lt (order_bounds s.cursor s.range.max)) refl e
  where
    by : (waits : Bool) → s.unanswered ≡ waits → (before : Bool) → is_lt (order_bounds s.cursor s.range.max) ≡ before →
        (if waits then unanswered_stage s.number else if before then ready_stage else at_end_stage (has_some s.changed)) ≡ at_end_stage false → IsAtEnd s
    by true w before b e = absurd (cc e)
    by false w true b e = absurd (cc e)
    by false w false b e = record { answered = w; end = b; none = none_of s.changed e }

module _ (c : Copy) (h : IsCopy c) (end : is_lt (order_bounds c.source.cursor c.source.range.max) ≡ false) (none : c.source.changed ≡ []) where
  -- the recipient will have what the source has
  ends_equal : (key : Datum) → is_key key ≡ true → inside (range_span c.source.range) key ≡ true → will_have c key ≡ document_under key c.documents
  ends_equal key is in_range = by (h.keys key is in_range)
    where
      by : IsCopied c key → will_have c key ≡ document_under key c.documents
      by (inl (past, nothing)) = absurd (differ (sym (at_end_up_to c.source.cursor c.source.range key end in_range) ∙ past))
      by (inr (here, inl changed)) = absurd (differ (sym changed ∙ ap (λ (keys : List Datum). has_key key keys) none))
      by (inr (here, inr equal)) = equal

  pub ended : c.applied ≡ c.source.number → HasEnded c
  ended all = record {
    copy = h;
    end = end;
    none = none;
    equal = λ key is in_range. sym (will_now c key all) ∙ ends_equal key is in_range;
  }

pub agree : (c : Copy) → IsCopy c → stage_of c.source ≡ at_end_stage false → HasEnded c
agree c h e = let at = stage_at_end c.source e in ended c h at.end at.none (applied_all c h at.answered)

-- nothing is left, so nothing is handed out
pub no_documents : (s : Source) (rows : Rows) → is_lt (order_bounds s.cursor s.range.max) ≡ false → documents_after s rows ≡ []
no_documents s [] end = refl
no_documents s (row ∷ rows) end = by (inside (range_span s.range) row.0) refl (is_up_to s.cursor row.0) refl (no_documents s rows end)
  where
    by : (near : Bool) → inside (range_span s.range) row.0 ≡ near → (up : Bool) → is_up_to s.cursor row.0 ≡ up → documents_after s rows ≡ [] →
        documents_after s (row ∷ rows) ≡ []
    by false n up u rest = rw n rest
    by true n true u rest = rw (n, u) rest
    by true n false u rest = absurd (differ (sym (at_end_up_to s.cursor s.range row.0 end n) ∙ u))

pub itself_not_less : (b : Bound) → is_lt (order_bounds b b) ≡ false
itself_not_less b = ap is_lt (tied_itself order_total (value_of_bound b))

module _ (c : Copy) (h : HasEnded c) where
  nothing_left : members_next c.source c.documents ≡ []
  nothing_left =
      ap (λ (ms : List MovedDocument). fitting 0 0 ms)
      (ap (λ (rows : Rows). map (λ row. moved row.0 (Some row.1)) rows ++ map (λ key. moved key (document_under key c.documents)) c.source.changed) (no_documents c.source c.documents h.end)
      ∙ ap (λ (keys : List Datum). map (λ key. moved key (document_under key c.documents)) keys) h.none)

  cursor_same : cursor_after c.source c.documents (members_next c.source c.documents) ≡ c.source.range.max
  cursor_same =
      ap (λ (rows : Rows). if nat_le (length rows) (length (members_next c.source c.documents)) then c.source.range.max else last_bound c.source.cursor (members_next c.source c.documents))
      (no_documents c.source c.documents h.end)
      ∙ ap (λ (ms : List MovedDocument). if nat_le 0 (length ms) then c.source.range.max else last_bound c.source.cursor ms) nothing_left

  handed_ended : c.source.unanswered ≡ false → HasEnded (copy_handed_out c)
  handed_ended free = record {
    copy = quiet_kept c (copy_handed_out c) h.copy (hands_out c free);
    end = ap (λ (b : Bound). is_lt (order_bounds b c.source.range.max)) cursor_same ∙ itself_not_less c.source.range.max;
    none = ap (λ (keys : List Datum). filter (λ key. not (has_key key (keys_of_members (members_next c.source c.documents)))) keys) h.none;
    equal = h.equal;
  }

  received_ended : (b : Batch) → IsIn b c.sent → HasEnded (copy_received b c)
  received_ended b i = by (fit_of c.applied b.number) refl (quiet_kept c (copy_received b c) h.copy (receives c b i))
    where
      by : (f : Fit) → fit_of c.applied b.number ≡ f → IsCopy (copy_by_fit f b c) → HasEnded (copy_by_fit f b c)
      by next_fit is kept =
          let next = next_is c.applied b.number is in
          ended (copy_applied b c) kept h.end h.none (next ∙ flies_by c b h.copy i next)
      by known_fit is kept = h
      by strange_fit is kept = h

  answered_ended : (number : ℕ) → number ≤ c.applied → HasEnded (copy_answered number c)
  answered_ended number less = record {
    copy = quiet_kept c (copy_answered number c) h.copy (answers c number less);
    end = h.end;
    none = h.none;
    equal = h.equal;
  }

step_ended : (c d : Copy) → HasEnded c → QuietStep c d → HasEnded d
step_ended _ _ h (hands_out c free) = handed_ended c h free
step_ended _ _ h (receives c b i) = received_ended c h b i
step_ended _ _ h (answers c number less) = answered_ended c h number less

pub run_ended : (c d : Copy) → HasEnded c → QuietRun c d → HasEnded d
run_ended _ _ h (quiet_start c) = h
run_ended _ _ h (quiet_more c d e step more) = run_ended d e (step_ended c d h step) more

-- both sides agree, and stay so
pub agree_now : (c : Copy) → IsCopy c → stage_of c.source ≡ at_end_stage false → AreEqual c
agree_now c h e = (agree c h e).equal

pub agree_later : (c d : Copy) → IsCopy c → stage_of c.source ≡ at_end_stage false → QuietRun c d → AreEqual d
agree_later c d h e run = (run_ended c d (agree c h e) run).equal
