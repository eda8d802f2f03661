-- Bytes are at most one request.
use Rattle.std.proofs.Common.{◌≡◌, ℕ, zero, suc, ◌<◌, ◌^◌, Bool, Some, List, [], ◌∷◌, ◌++◌, length, get_or, take, drop, refl, sym, ap, subst, ◌∙◌, arith, length-append, length-drop}
use Rattle.std.specs.Prelude.{ℤ}
use Rattle.std.specs.Int.{w32, cast_signed}
use Rattle.std.specs.List.{AllByRecursion, concat, flat_map}
use Rattle.std.proofs.lemmas.List.{append-nil, take_at, drop_at}
use Rattle.opmsg_model.specs.Messages.{number_at, opcode}
use Rattle.opmsg_model.specs.Sections.{Section, body_section, sequence_section, sequence_bytes, section_bytes, IsStated, IsSection}
use Rattle.opmsg_model.specs.Requests.{Request, Form, msg_form, query_form, Body, HasBody, IsForm, IsRequest, is_more}
use Rattle.opmsg_model.specs.Outline.{no_section, next_body, next_sequence, next_section}
use Rattle.opmsg_frames.specs.Outlines.{sequence_parts}
use Rattle.bson_values.proofs.Leaves.{AreBytes-drop}
use Rattle.bson_model.specs.Grammar.{AreBytes}
use Rattle.opmsg_frames.proofs.DocumentReads.{first_number}
use Rattle.opmsg_frames.proofs.SectionPrefixes.{next_of, next_is, parts_are}
use Rattle.opmsg_frames.proofs.MessageParts.{msg_parts, query_parts}
use Rattle.opmsg_frames.proofs.OneBody.{body_once}

documents_once : (ds es : List (List ℕ)) → AllByRecursion IsStated ds → AllByRecursion IsStated es → concat ds ≡ concat es → ds ≡ es
documents_once [] [] a b e = refl
documents_once [] (f ∷ es) a b e = absurd (omega (arith, ap (λ (l : List ℕ). length l) e, length-append f (concat es), b.0.0))
documents_once (d ∷ ds) [] a b e = absurd (omega (arith, ap (λ (l : List ℕ). length l) e, length-append d (concat ds), a.0.0))
documents_once (d ∷ ds) (f ∷ es) a b e =
    let size : length f ≡ length d = sym (first_number f (concat es) b.0) ∙ ap (λ (l : List ℕ). number_at 0 l) (sym e) ∙ first_number d (concat ds) a.0 in
    let first : d ≡ f = sym (take_at d (concat ds) (length d) refl) ∙ ap (λ (l : List ℕ). take (length d) l) e ∙ take_at f (concat es) (length d) size in
    let behind : concat ds ≡ concat es = sym (drop_at d (concat ds) (length d) refl) ∙ ap (λ (l : List ℕ). drop (length d) l) e ∙ drop_at f (concat es) (length d) size in
    let others : ds ≡ es = documents_once ds es a.1 b.1 behind in
    cc (first, others)

sequence_once : (i j : List ℕ) (ds es : List (List ℕ)) → IsSection (sequence_section i ds) → IsSection (sequence_section j es) → sequence_bytes i ds ≡ sequence_bytes j es → (i ≡ j) × (ds ≡ es)
sequence_once i j ds es a b e =
    let same : Some (i, concat ds) ≡ Some (j, concat es) = sym (parts_are i ds a.0 a.1) ∙ ap (λ (l : List ℕ). sequence_parts l) e ∙ parts_are j es b.0 b.1 in
    let parts : (i, concat ds) ≡ (j, concat es) = cc in
    (ap (λ (p : List ℕ × List ℕ). p.0) parts, documents_once ds es a.2 b.2 (ap (λ (p : List ℕ × List ℕ). p.1) parts))

same_next : (s t : List Section) → AllByRecursion IsSection s → AllByRecursion IsSection t → length (flat_map section_bytes s) < 2 ^ 32 → flat_map section_bytes s ≡ flat_map section_bytes t → next_of s ≡ next_of t
same_next s t a b low e =
    let high : length (flat_map section_bytes t) < 2 ^ 32 = omega (arith, low, ap (λ (l : List ℕ). length l) e) in
    sym (next_is s a low) ∙ ap (λ (l : List ℕ). next_section l) e ∙ next_is t b high

by_next : (s t : List Section) → AllByRecursion IsSection s → AllByRecursion IsSection t → length (flat_map section_bytes s) < 2 ^ 32 → next_of s ≡ next_of t → s ≡ t
by_next [] [] a b low e = refl
by_next [] (body_section d ∷ t) a b low e = absurd (let q : no_section ≡ next_body d (flat_map section_bytes t) = e in cc)
by_next [] (sequence_section i ds ∷ t) a b low e = absurd (let q : no_section ≡ next_sequence (sequence_bytes i ds) (flat_map section_bytes t) = e in cc)
by_next (body_section d ∷ s) [] a b low e = absurd (let q : next_body d (flat_map section_bytes s) ≡ no_section = e in cc)
by_next (sequence_section i ds ∷ s) [] a b low e = absurd (let q : next_sequence (sequence_bytes i ds) (flat_map section_bytes s) ≡ no_section = e in cc)
by_next (body_section d ∷ s) (sequence_section i ds ∷ t) a b low e = absurd (let q : next_body d (flat_map section_bytes s) ≡ next_sequence (sequence_bytes i ds) (flat_map section_bytes t) = e in cc)
by_next (sequence_section i ds ∷ s) (body_section d ∷ t) a b low e = absurd (let q : next_sequence (sequence_bytes i ds) (flat_map section_bytes s) ≡ next_body d (flat_map section_bytes t) = e in cc)
by_next (body_section d ∷ s) (body_section f ∷ t) a b low e =
    let q : next_body d (flat_map section_bytes s) ≡ next_body f (flat_map section_bytes t) = e in
    let first : d ≡ f = cc in
    let behind : flat_map section_bytes s ≡ flat_map section_bytes t = cc in
    let less : length (flat_map section_bytes s) < 2 ^ 32 = omega (arith, low, length-append d (flat_map section_bytes s)) in
    let others : s ≡ t = by_next s t a.1 b.1 less (same_next s t a.1 b.1 less behind) in
    cc (first, others)
by_next (sequence_section i ds ∷ s) (sequence_section j es ∷ t) a b low e =
    let q : next_sequence (sequence_bytes i ds) (flat_map section_bytes s) ≡ next_sequence (sequence_bytes j es) (flat_map section_bytes t) = e in
    let content : sequence_bytes i ds ≡ sequence_bytes j es = cc in
    let behind : flat_map section_bytes s ≡ flat_map section_bytes t = cc in
    let first = sequence_once i j ds es a.0 b.0 content in
    let name : i ≡ j = first.0 in
    let documents : ds ≡ es = first.1 in
    let less : length (flat_map section_bytes s) < 2 ^ 32 = omega (arith, low, length-append (sequence_bytes i ds) (flat_map section_bytes s)) in
    let others : s ≡ t = by_next s t a.1 b.1 less (same_next s t a.1 b.1 less behind) in
    cc (name, documents, others)

pub sections_once : (s t : List Section) → AllByRecursion IsSection s → AllByRecursion IsSection t → length (flat_map section_bytes s) < 2 ^ 32 → flat_map section_bytes s ≡ flat_map section_bytes t → s ≡ t
sections_once s t a b low e = by_next s t a b low (same_next s t a b low e)

-- the document of a message that has only this one
cons_bytes : (bytes : List ℕ) → AreBytes bytes → (i : ℕ) → get_or (0 ∷ bytes) i 0 < 256
cons_bytes bytes are zero = omega arith
cons_bytes bytes are (suc i) = are i

pub lone_bytes : (document : List ℕ) → AreBytes document → AreBytes (flat_map section_bytes (body_section document ∷ []))
lone_bytes document are = cons_bytes (document ++ []) (rw (append-nil document) are)

-- what two requests have in common
record Same (r s : Request) (f g : Form) : Type 0 where
  form : f ≡ g
  id : r.id ≡ s.id
  more : r.more ≡ s.more
  body : r.body ≡ s.body

by_form : (r s : Request) (f g : Form) → AreBytes r.bytes → r.bytes ≡ s.bytes → IsForm r f → IsForm s g → Same r s f g
by_form r s msg_form msg_form are e (a, m, b) (c, n, d) =
    let p = msg_parts r a m in
    let q = msg_parts s c n in
    let l : length (flat_map section_bytes a) ≡ length (drop 20 r.bytes) = ap (λ (l : List ℕ). length l) (sym p.behind) in
    let same : a ≡ c = sections_once a c m.each n.each (omega (arith, l, length-drop 20 r.bytes, p.most)) (sym p.behind ∙ ap (λ (l : List ℕ). drop 20 l) e ∙ q.behind) in
    let of_a : HasBody a s.body = rw (sym same) at d in
    record {
      form = refl;
      id = p.id ∙ ap (λ (l : List ℕ). cast_signed w32 (number_at 4 l)) e ∙ sym q.id;
      more = p.more ∙ ap (λ (l : List ℕ). is_more (number_at 16 l)) e ∙ sym q.more;
      body = body_once a r.body s.body (rw p.behind at (AreBytes-drop 20 r.bytes are)) b of_a;
    }
by_form r s query_form query_form are e (a, m, b) (c, n, d) =
    let p = query_parts r a m in
    let q = query_parts s c n in
    let same : c ≡ a = sym q.behind ∙ ap (λ (l : List ℕ). drop 39 l) (sym e) ∙ p.behind in
    let of_a : HasBody (body_section a ∷ []) s.body = subst (λ (l : List ℕ). HasBody (body_section l ∷ []) s.body) same d in
    record {
      form = refl;
      id = p.id ∙ ap (λ (l : List ℕ). cast_signed w32 (number_at 4 l)) e ∙ sym q.id;
      more = p.more ∙ sym q.more;
      body = body_once (body_section a ∷ []) r.body s.body (lone_bytes a (rw p.behind at (AreBytes-drop 39 r.bytes are))) b of_a;
    }
by_form r s msg_form query_form are e (a, m, b) (c, n, d) =
    absurd (omega (arith, (msg_parts r a m).code, (query_parts s c n).code, ap (λ (l : List ℕ). opcode l) e))
by_form r s query_form msg_form are e (a, m, b) (c, n, d) =
    absurd (omega (arith, (query_parts r a m).code, (msg_parts s c n).code, ap (λ (l : List ℕ). opcode l) e))

made : ℤ → Bool → Form → Body → List ℕ → Request
made id more form body bytes = record { id = id; more = more; form = form; body = body; bytes = bytes }

alike : (i j : ℤ) (m n : Bool) (f g : Form) (b c : Body) (x y : List ℕ) → i ≡ j → m ≡ n → f ≡ g → b ≡ c → x ≡ y → made i m f b x ≡ made j n g c y
alike i j m n f g b c x y p q r s t = cc

pub one_request : (r s : Request) → AreBytes r.bytes → r.bytes ≡ s.bytes → IsRequest r → IsRequest s → r ≡ s
unfolding made
one_request r s are e a b =
    let same = by_form r s r.form s.form are e a b in
    alike r.id s.id r.more s.more r.form s.form r.body s.body r.bytes s.bytes same.id same.more same.form same.body e
