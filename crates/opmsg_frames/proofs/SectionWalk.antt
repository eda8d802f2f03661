-- The fault of sections, section by section.
use Rattle.std.proofs.Common.{◌≡◌, ℕ, zero, suc, ◌+◌, ◌-◌, ◌<◌, ◌≤◌, Bool, true, false, List, [], ◌∷◌, length, take, drop, refl, sym, ap, ◌∙◌, arith, length-drop, Some}
use Rattle.std.specs.Prelude.{◌==◌, ◌||◌, not, if◌then◌else◌}
use Rattle.std.proofs.lemmas.List.{length-take-le}
use Rattle.opmsg_model.specs.Messages.{number_at}
use Rattle.opmsg_model.specs.Outline.{Next, has_stated, no_section, unknown_kind, bad_size, next_body, next_sequence, next_section, ended_fault, behind_fault, sections_fault, is_sequence, bad_kind, bad_section}
use Rattle.opmsg_frames.proofs.StatedDocuments.{within}

-- the fault from here on is the fault of all sections
pub record AsBefore (bodies : ℕ) (bad : Bool) (rest bytes : List ℕ) (n m : ℕ) : Type 0 where
  pub enough : length rest < m
  pub same : sections_fault m bodies bad rest ≡ sections_fault n 0 false bytes

step : (m bodies : ℕ) (bad : Bool) (rest : List ℕ) (next : Next) → length rest < m → next ≡ next_section rest → sections_fault m bodies bad rest ≡ behind_fault (sections_fault (m - 1)) bodies bad next
unfolding sections_fault
step zero bodies bad rest next enough e = absurd (omega arith)
step (suc m) bodies bad rest next enough e = let k : suc m - 1 ≡ m = omega arith in rw k (ap (λ (x : Next). behind_fault (sections_fault m) bodies bad x) (sym e))

module _ (bodies : ℕ) (bad : Bool) (rest bytes : List ℕ) (n m : ℕ) (so_far : AsBefore bodies bad rest bytes n m) where
  pub behind_body : (document behind : List ℕ) → next_body document behind ≡ next_section rest → length behind < length rest → AsBefore (bodies + 1) bad behind bytes n (m - 1)
  unfolding behind_fault
  behind_body document behind e shorter = record {
    enough = omega (arith, so_far.enough, shorter);
    same = sym (step m bodies bad rest _ so_far.enough e) ∙ so_far.same;
  }

  pub behind_sequence : (content behind : List ℕ) → next_sequence content behind ≡ next_section rest → length behind < length rest → AsBefore bodies (bad || not (is_sequence content)) behind bytes n (m - 1)
  unfolding behind_fault
  behind_sequence content behind e shorter = record {
    enough = omega (arith, so_far.enough, shorter);
    same = sym (step m bodies bad rest _ so_far.enough e) ∙ so_far.same;
  }

  pub all_seen : no_section ≡ next_section rest → ended_fault bodies bad ≡ sections_fault n 0 false bytes
  unfolding behind_fault
  all_seen e = sym (step m bodies bad rest _ so_far.enough e) ∙ so_far.same

  pub kind_unknown : unknown_kind ≡ next_section rest → Some bad_kind ≡ sections_fault n 0 false bytes
  unfolding behind_fault
  kind_unknown e = sym (step m bodies bad rest _ so_far.enough e) ∙ so_far.same

  pub size_bad : bad_size ≡ next_section rest → Some bad_section ≡ sections_fault n 0 false bytes
  unfolding behind_fault
  size_bad e = sym (step m bodies bad rest _ so_far.enough e) ∙ so_far.same

-- the content of a section is within what is left
pub content_within : (rest content behind : List ℕ) → next_sequence content behind ≡ next_section rest → length content ≤ length rest
content_within [] content behind e = absurd (let q : next_sequence content behind ≡ no_section = e in cc)
content_within (kind ∷ bytes) content behind e = by_kind (kind == 0) (kind == 1) (has_stated bytes) refl e
  where
    n : ℕ
    n = number_at 0 bytes

    front : List ℕ
    front = take n bytes

    next : (first second stated : Bool) → Next
    next first second stated =
        if first then (if stated then next_body front (drop n bytes) else bad_size)
        else if second then (if stated then next_sequence (drop 4 front) (drop n bytes) else bad_size)
        else unknown_kind

    by_kind : (first second stated : Bool) → stated ≡ has_stated bytes → next_sequence content behind ≡ next first second stated → length content ≤ length (kind ∷ bytes)
    by_kind true second true s p = absurd (let q : next_sequence content behind ≡ next_body front (drop n bytes) = p in cc)
    by_kind true second false s p = absurd (let q : next_sequence content behind ≡ bad_size = p in cc)
    by_kind false true true s p =
        let q : next_sequence content behind ≡ next_sequence (drop 4 front) (drop n bytes) = p in
        let c : content ≡ drop 4 front = cc in
        let l : length front ≡ n = length-take-le n bytes (within bytes (sym s)).1 in
        omega (arith, ap (λ (x : List ℕ). length x) c, length-drop 4 front, l, (within bytes (sym s)).1)
    by_kind false true false s p = absurd (let q : next_sequence content behind ≡ bad_size = p in cc)
    by_kind false false stated s p = absurd (let q : next_sequence content behind ≡ unknown_kind = p in cc)
