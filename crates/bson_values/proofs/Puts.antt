-- How the bytes grow: what is written follows what was there.
use Rattle.std.proofs.Common.{◌≡◌, ℕ, suc, ◌+◌, ◌-◌, ◌<◌, ◌≤◌, List, [], ◌∷◌, ◌++◌, length, get_or, take, drop, add-one, drop-cons, Result, Ok, Err, refl, sym, ◌∙◌, ap, arith, append_assoc, length-append}
use Rattle.std.specs.Prelude.{OnOk, OnErr}
use Rattle.std.specs.Fmt.{decimal}
use Rattle.std.specs.Int.{w32, to_le_bytes}
use Rattle.std.proofs.lemmas.List.{append-nil, take-append-drop, take_at, drop_at, take_rest, drop_all, drop-drop, length-drop}
use Rattle.std.proofs.Math.Seq.{take-append_seam}
use Rattle.bson_model.specs.Limits.{most_bytes_written}
use Rattle.bson_model.specs.Spelling.{framed, element, type_byte_of, written_value, written_items, written_fields}
use Rattle.bson_values.specs.declared.value.Field.{Field}
use Rattle.bson_values.specs.declared.value.Value.{Value}
use Rattle.bson_values.specs.View.{datum_of, fields_of, items_of}

-- while the parts of `all` are appended to `old`: the bytes written, and what is left to write
pub record Puts (all old out rest : List ℕ) : Type 0 where
  pub text : out ++ rest ≡ old ++ all
  pub kept : take (length old) out ≡ old
  pub room : length rest ≤ most_bytes_written

-- a prefix that is kept by two steps is kept by both together
pub kept_on : (old out new : List ℕ) → take (length old) out ≡ old → take (length out) new ≡ out → take (length old) new ≡ old
kept_on old out new first then =
    let new_is : new ≡ out ++ drop (length out) new = sym (take-append-drop (length out) new) ∙ ap (λ s. s ++ drop (length out) new) then in
    let out_is : out ≡ old ++ drop (length old) out = sym (take-append-drop (length old) out) ∙ ap (λ s. s ++ drop (length old) out) first in
    let whole : new ≡ old ++ (drop (length old) out ++ drop (length out) new) = new_is ∙ ap (λ s. s ++ drop (length out) new) out_is
    ∙ append_assoc old (drop (length old) out) (drop (length out) new) in
    rw whole (take-append_seam old (drop (length old) out ++ drop (length out) new))

-- four bytes written over the part of the bytes from an offset on
pub written_over : (at : ℕ) (bytes new four : List ℕ) → new ≡ four ++ drop 4 (take (length bytes - at) (drop at bytes))
    → take at bytes ++ (new ++ drop (length bytes - at) (drop at bytes)) ≡ take at bytes ++ (four ++ drop (at + 4) bytes)
written_over at bytes new four new_is =
    let rest : drop (length bytes - at) (drop at bytes) ≡ [] = drop_all (length bytes - at) (drop at bytes) (omega (arith, length-drop at bytes)) in
    let tail : new ≡ four ++ drop (at + 4) bytes = new_is ∙ ap (λ s. four ++ drop 4 s) (take_rest bytes at) ∙ ap (λ s. four ++ s) (drop-drop 4 at bytes) in
    rw (rest, append-nil, tail) refl

-- appending does not change the bytes that were there
pub kept_behind : (old more out new : List ℕ) → out ≡ old ++ more → take (length out) new ≡ out → take (length old) new ≡ old
kept_behind old more out new out_is then = kept_on old out new (rw out_is (take-append_seam old more)) then

-- a document that begins at `start`: room for its length, and its content

pub opened_length : (start : ℕ) (old grown body out : List ℕ) → start ≡ length old → grown ≡ old ++ to_le_bytes w32 0 → out ≡ grown ++ body
    → length out ≡ start + 4 + length body
opened_length start old grown body out start_is grown_is out_is =
    omega (arith, ap (λ (l : List ℕ). length l) grown_is, ap (λ (l : List ℕ). length l) out_is, length-append old (to_le_bytes w32 0), length-append grown body)

opened_framed : (start : ℕ) (old grown body out : List ℕ) → start ≡ length old → grown ≡ old ++ to_le_bytes w32 0 → out ≡ grown ++ body
    → take start out ++ framed (drop (start + 4) out) ≡ old ++ framed body
opened_framed start old grown body out start_is grown_is out_is =
    let whole : out ≡ (old ++ to_le_bytes w32 0) ++ body = out_is ∙ ap (λ (l : List ℕ). l ++ body) grown_is in
    let before : take start out ≡ old = ap (λ (l : List ℕ). take start l) (whole ∙ append_assoc old (to_le_bytes w32 0) body)
    ∙ take_at old (to_le_bytes w32 0 ++ body) start (sym start_is) in
    let behind : drop (start + 4) out ≡ body = ap (λ (l : List ℕ). drop (start + 4) l) whole
    ∙ drop_at (old ++ to_le_bytes w32 0) body (start + 4) (omega (arith, length-append old (to_le_bytes w32 0))) in
    rw (before, behind) refl

pub closed_ok : {A E : Type 0} (result : Result A E) (start : ℕ) (old grown body out new : List ℕ) → start ≡ length old → grown ≡ old ++ to_le_bytes w32 0
    → out ≡ grown ++ body
    → OnOk result (new ≡ take start out ++ framed (drop (start + 4) out)) → OnOk result (new ≡ old ++ framed body)
closed_ok (Ok x) start old grown body out new start_is grown_is out_is ok = ok ∙ opened_framed start old grown body out start_is grown_is out_is
closed_ok (Err e) start old grown body out new start_is grown_is out_is ok = tt

pub closed_kept : {A E : Type 0} (result : Result A E) (start : ℕ) (old grown body out new : List ℕ) → start ≡ length old → grown ≡ old ++ to_le_bytes w32 0
    → out ≡ grown ++ body
    → OnOk result (new ≡ take start out ++ framed (drop (start + 4) out)) → OnErr result (new ≡ out) → take (length old) new ≡ old
closed_kept (Ok x) start old grown body out new start_is grown_is out_is ok err = rw (ok ∙ opened_framed start old grown body out start_is grown_is out_is)
    (take-append_seam old (framed body))
closed_kept (Err e) start old grown body out new start_is grown_is out_is ok err =
    rw (err ∙ out_is ∙ ap (λ (l : List ℕ). l ++ body) grown_is ∙ append_assoc old (to_le_bytes w32 0) body) (take-append_seam old (to_le_bytes w32 0 ++ body))

-- ---- one element more

put_element : (all old out headed new name value rest : List ℕ) (type_byte : ℕ) → Puts all old out (element type_byte name value ++ rest)
    → headed ≡ out ++ (type_byte ∷ name ++ 0 ∷ []) → new ≡ headed ++ value → Puts all old new rest
put_element all old out headed new name value rest type_byte puts headed_is new_is =
    let grown : new ≡ out ++ ((type_byte ∷ name ++ 0 ∷ []) ++ value) = new_is ∙ ap (λ (l : List ℕ). l ++ value) headed_is
    ∙ append_assoc out (type_byte ∷ name ++ 0 ∷ []) value in
    let same : (type_byte ∷ name ++ 0 ∷ []) ++ value ≡ element type_byte name value = ap (λ (l : List ℕ). type_byte ∷ l) (append_assoc name (0 ∷ []) value) in
    let whole : new ≡ out ++ element type_byte name value = grown ∙ ap (λ (l : List ℕ). out ++ l) same in
    let before : take (length out) new ≡ out = rw whole (take-append_seam out (element type_byte name value)) in
    record {
      text = ap (λ (l : List ℕ). l ++ rest) whole ∙ append_assoc out (element type_byte name value) rest ∙ puts.text;
      kept = kept_on old out new puts.kept before;
      room = omega (arith, puts.room, length-append (element type_byte name value) rest);
    }

pub put_field : (all old out headed new name : List ℕ) (items : List Field) (i type_byte : ℕ) (m : Field)
    → Puts all old out (written_fields (fields_of (drop i items))) → i < length items → m ≡ get_or items i m
    → type_byte ≡ type_byte_of (datum_of m.value) → name ≡ m.name → headed ≡ out ++ (type_byte ∷ name ++ 0 ∷ []) → new ≡ headed ++ written_value (datum_of m.value)
    → Puts all old new (written_fields (fields_of (drop (i + 1) items)))
put_field all old out headed new name items i type_byte m puts inside m_is type_is name_is headed_is new_is =
    let cut : drop i items ≡ m ∷ drop (i + 1) items = rw add-one
    (drop-cons items i m inside ∙ ap (λ (first : Field). first ∷ drop (suc i) items) (sym m_is)) in
    let d = datum_of m.value in
    let others = written_fields (fields_of (drop (i + 1) items)) in
    let left : Puts all old out (element (type_byte_of d) m.name (written_value d) ++ others) = rw cut at puts in
    put_element all old out headed new m.name (written_value d) others (type_byte_of d) left
    (headed_is ∙ ap (λ (k : ℕ). out ++ (k ∷ name ++ 0 ∷ [])) type_is ∙ ap (λ (n : List ℕ). out ++ (type_byte_of d ∷ n ++ 0 ∷ [])) name_is) new_is

pub put_item : (all old out headed new name : List ℕ) (items : List Value) (i type_byte : ℕ) (v : Value)
    → Puts all old out (written_items i (items_of (drop i items))) → i < length items → v ≡ get_or items i v
    → type_byte ≡ type_byte_of (datum_of v) → name ≡ decimal i → headed ≡ out ++ (type_byte ∷ name ++ 0 ∷ []) → new ≡ headed ++ written_value (datum_of v)
    → Puts all old new (written_items (i + 1) (items_of (drop (i + 1) items)))
put_item all old out headed new name items i type_byte v puts inside v_is type_is name_is headed_is new_is =
    let cut : drop i items ≡ v ∷ drop (i + 1) items = rw add-one (drop-cons items i v inside ∙ ap (λ (first : Value). first ∷ drop (suc i) items) (sym v_is)) in
    let d = datum_of v in
    let others = written_items (i + 1) (items_of (drop (i + 1) items)) in
    let left : Puts all old out (element (type_byte_of d) (decimal i) (written_value d) ++ others) = rw cut at puts in
    put_element all old out headed new (decimal i) (written_value d) others (type_byte_of d) left
    (headed_is ∙ ap (λ (k : ℕ). out ++ (k ∷ name ++ 0 ∷ [])) type_is ∙ ap (λ (n : List ℕ). out ++ (type_byte_of d ∷ n ++ 0 ∷ [])) name_is) new_is

-- nothing left to write

all_put : (all old out rest : List ℕ) → Puts all old out rest → rest ≡ [] → out ≡ old ++ all
all_put all old out rest puts none = let text : out ++ [] ≡ old ++ all = rw none at puts.text in rw append-nil at text

pub all_fields_put : (all old out : List ℕ) (items : List Field) (i : ℕ) → Puts all old out (written_fields (fields_of (drop i items))) → length items ≤ i → out ≡ old ++ all
all_fields_put all old out items i puts none =
    all_put all old out _ puts (ap (λ (left : List Field). written_fields (fields_of left)) (drop_all i items none))

pub all_items_put : (all old out : List ℕ) (items : List Value) (i : ℕ) → Puts all old out (written_items i (items_of (drop i items))) → length items ≤ i → out ≡ old ++ all
all_items_put all old out items i puts none =
    all_put all old out _ puts (ap (λ (left : List Value). written_items i (items_of left)) (drop_all i items none))
