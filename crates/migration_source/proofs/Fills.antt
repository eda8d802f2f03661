-- What finds room in a batch.
use Rattle.std.proofs.Common.{◌≡◌, ℕ, ◌+◌, ◌≤◌, ◌^◌, ◌-◌, List, [], ◌∷◌, ◌++◌, length, length-append, refl, sym, ap, ◌∙◌, subst, arith, append_assoc}
use Rattle.std.specs.Prelude.{Bool, true, false, ◌||◌, ◌&&◌, ◌==◌, Option, Some, None, map, min, nat_le, nat_lt, if◌then◌else◌}
use Rattle.std.proofs.lemmas.Bool.{le-leb, leb-true}
use Rattle.std.proofs.lemmas.List.{append-nil, length-map}
use Rattle.bson_values.specs.Tree.{Datum, Fields}
use Rattle.value_model.specs.Keys.{Bound}
use Rattle.history_model.specs.Documents.{Rows, document_under}
use Rattle.record_model.specs.Moves.{MovedDocument}
use Rattle.shard_records.specs.Batches.{moved_view}
use Rattle.shard_records.specs.declared.batch.MovedDocument as code
use Rattle.move_model.specs.Sources.{Source}
use Rattle.move_model.specs.Batches.{cursor_after, document_bytes, documents_after, fitting, has_room, last_bound, members_bytes, members_next, most_bytes, most_keys, moved}
use Rattle.move_model.proofs.Batches.{cursor_ends, cursor_goes_on}
use Rattle.migration_source.specs.Changed.{changed_among}
use Rattle.migration_source.specs.Fills.{AllFit, IsCut, members_of, members_under}
use Rattle.migration_source.proofs.Changes.{Entries}

-- ONE MEMBER MORE

abbrev pub cap : ℕ
cap = 2 ^ 64 - 1

same_le : (x y m : ℕ) → (x ≤ m → y ≤ m) → (y ≤ m → x ≤ m) → nat_le x m ≡ nat_le y m
same_le x y m there back = by (nat_le x m) refl (nat_le y m) refl
  where
    by : (a : Bool) → nat_le x m ≡ a → (b : Bool) → nat_le y m ≡ b → a ≡ b
    by true e true f = refl
    by true e false f = let h : false ≡ true = sym f ∙ le-leb y m (there (leb-true x m e)) in cc
    by false e true f = let h : false ≡ true = sym e ∙ le-leb x m (back (leb-true y m f)) in cc
    by false e false f = refl

-- the test on capped numbers of bytes
pub room_is : (keys n bytes more before own sum : ℕ) → n ≡ keys → before ≡ min bytes cap → own ≡ min more cap → sum ≡ min (before + own) cap →
    ((n == 0) || (nat_lt n most_keys && nat_le sum most_bytes)) ≡ has_room keys bytes more
room_is keys n bytes more before own sum count b o s =
    let le : nat_le sum most_bytes ≡ nat_le (bytes + more) most_bytes =
    same_le sum (bytes + more) most_bytes (λ h. omega (arith, b, o, s, h)) (λ h. omega (arith, b, o, s, h)) in
    ap (λ (k : ℕ). (k == 0) || (nat_lt k most_keys && nat_le sum most_bytes)) count
    ∙ ap (λ (t : Bool). (keys == 0) || (nat_lt keys most_keys && t)) le

bytes_more : (ms : List MovedDocument) (m : MovedDocument) → members_bytes (ms ++ m ∷ []) ≡ members_bytes ms + document_bytes m.document
bytes_more [] m = omega arith
bytes_more (x ∷ ms) m = omega (arith, bytes_more ms m)

pub counted_more : (ms : List MovedDocument) (m : MovedDocument) (before own sum : ℕ) → before ≡ min (members_bytes ms) cap →
    own ≡ min (document_bytes m.document) cap → sum ≡ min (before + own) cap → sum ≡ min (members_bytes (ms ++ m ∷ [])) cap
counted_more ms m before own sum b o s = omega (arith, b, o, s, bytes_more ms m)

pub fit_none : AllFit []
fit_none = λ rest. refl

pub fit_more : (ms : List MovedDocument) (m : MovedDocument) → AllFit ms → has_room (length ms) (members_bytes ms) (document_bytes m.document) ≡ true →
    AllFit (ms ++ m ∷ [])
fit_more ms m fit room = λ rest.
    ap (λ (l : List MovedDocument). fitting 0 0 l) (append_assoc ms (m ∷ []) rest)
    ∙ fit (m ∷ rest)
    ∙ ap (λ (b : Bool). ms ++ (if b then m ∷ fitting (length ms + 1) (members_bytes ms + document_bytes m.document) rest else [])) room
    ∙ ap (λ (n : ℕ). ms ++ (m ∷ fitting n (members_bytes ms + document_bytes m.document) rest)) (sym (length-append ms (m ∷ [])))
    ∙ ap (λ (n : ℕ). ms ++ (m ∷ fitting (length (ms ++ m ∷ [])) n rest)) (sym (bytes_more ms m))
    ∙ sym (append_assoc ms (m ∷ []) (fitting (length (ms ++ m ∷ [])) (members_bytes (ms ++ m ∷ [])) rest))

-- one more, as the definitions see it
pub seen_more : (before : List code.MovedDocument) (m : code.MovedDocument) → map moved_view (before ++ m ∷ []) ≡ map moved_view before ++ moved_view m ∷ []
seen_more [] m = refl
seen_more (x ∷ l) m = ap (λ (r : List MovedDocument). moved_view x ∷ r) (seen_more l m)

-- one more, as the program counts
module _ (docs : List code.MovedDocument) (document : Option Fields) (bytes own sum : ℕ) (b : bytes ≡ min (members_bytes (map moved_view docs)) cap)
    (o : own ≡ min (document_bytes document) cap) (s : sum ≡ min (bytes + own) cap) where
  pub room_seen : (n : ℕ) → n ≡ length docs → ((n == 0) || (nat_lt n most_keys && nat_le sum most_bytes))
      ≡ has_room (length (map moved_view docs)) (members_bytes (map moved_view docs)) (document_bytes document)
  room_seen n count =
      room_is (length (map moved_view docs)) n (members_bytes (map moved_view docs)) (document_bytes document) bytes own sum
      (count ∙ sym (length-map docs moved_view)) b o s

  module _ (m : code.MovedDocument) (key : Datum) (is : moved_view m ≡ moved key document) (items : List code.MovedDocument) (pushed : items ≡ docs ++ m ∷ []) where
    pub seen_pushed : map moved_view items ≡ map moved_view docs ++ moved key document ∷ []
    seen_pushed =
        ap (λ (l : List code.MovedDocument). map moved_view l) pushed ∙ seen_more docs m
        ∙ ap (λ (x : MovedDocument). map moved_view docs ++ x ∷ []) is

    pub counted_pushed : sum ≡ min (members_bytes (map moved_view items)) cap
    counted_pushed =
        counted_more (map moved_view docs) (moved key document) bytes own sum b o s
        ∙ ap (λ (l : List MovedDocument). min (members_bytes l) cap) (sym seen_pushed)

    pub fit_pushed : AllFit (map moved_view docs) → has_room (length (map moved_view docs)) (members_bytes (map moved_view docs)) (document_bytes document) ≡ true →
        AllFit (map moved_view items)
    fit_pushed fit room = subst AllFit (sym seen_pushed) (fit_more (map moved_view docs) (moved key document) fit room)

-- ALL MEMBERS

pub fit_all : (ms : List MovedDocument) → AllFit ms → fitting 0 0 ms ≡ ms
fit_all ms fit = ap (λ (l : List MovedDocument). fitting 0 0 l) (sym (append-nil ms)) ∙ fit [] ∙ append-nil ms

pub fit_full : (ms : List MovedDocument) (m : MovedDocument) (rest : List MovedDocument) → AllFit ms →
    has_room (length ms) (members_bytes ms) (document_bytes m.document) ≡ false → fitting 0 0 (ms ++ m ∷ rest) ≡ ms
fit_full ms m rest fit full =
    fit (m ∷ rest)
    ∙ ap (λ (b : Bool). ms ++ (if b then m ∷ fitting (length ms + 1) (members_bytes ms + document_bytes m.document) rest else [])) full
    ∙ append-nil ms

-- documents that find room end before the last document
pub cut_next : (s : Source) (rows : Rows) (ms : List MovedDocument) (last : Bound) → AllFit ms → IsCut s rows ms last → members_next s rows ≡ ms
cut_next s rows ms last fit cut =
    ap (λ (l : List MovedDocument). fitting 0 0 (l ++ members_under rows s.changed)) cut.whole
    ∙ ap (λ (l : List MovedDocument). fitting 0 0 l) (append_assoc ms (cut.next ∷ cut.more) (members_under rows s.changed))
    ∙ fit_full ms cut.next (cut.more ++ members_under rows s.changed) fit cut.full

pub cut_cursor : (s : Source) (rows : Rows) (ms : List MovedDocument) (last : Bound) → AllFit ms → IsCut s rows ms last →
    last ≡ cursor_after s rows (members_next s rows)
cut_cursor s rows ms last fit cut =
    cut.last ∙ sym (cursor_goes_on s rows ms cut.next cut.more cut.whole)
    ∙ ap (λ (l : List MovedDocument). cursor_after s rows l) (sym (cut_next s rows ms last fit cut))

-- all documents find room, and changed keys after them
pub all_next : (s : Source) (rows : Rows) (docs ms : List MovedDocument) → docs ≡ members_of (documents_after s rows) →
    fitting 0 0 (docs ++ members_under rows s.changed) ≡ ms → members_next s rows ≡ ms
all_next s rows docs ms all fit = ap (λ (l : List MovedDocument). fitting 0 0 (l ++ members_under rows s.changed)) (sym all) ∙ fit

pub all_cursor : (s : Source) (rows : Rows) (docs found ms : List MovedDocument) → docs ≡ members_of (documents_after s rows) →
    fitting 0 0 (docs ++ members_under rows s.changed) ≡ ms → ms ≡ docs ++ found → s.range.max ≡ cursor_after s rows (members_next s rows)
all_cursor s rows docs found ms all fit more =
    sym (ap (λ (l : List MovedDocument). cursor_after s rows l) (all_next s rows docs ms all fit)
    ∙ cursor_ends s rows ms found (more ∙ ap (λ (l : List MovedDocument). l ++ found) all))

-- CHANGED KEYS

-- these were appended to the old members, and the keys left are still to come
pub record Adds (rows : Rows) (old now : List MovedDocument) (all left : List Datum) : Type 0 where
  pub found : List MovedDocument
  pub grown : now ≡ old ++ found
  pub whole : old ++ members_under rows all ≡ now ++ members_under rows left

pub adds_none : (rows : Rows) (old : List MovedDocument) (all : List Datum) → Adds rows old old all all
adds_none rows old all = record { found = []; grown = sym (append-nil old); whole = refl }

pub adds_full : (rows : Rows) (old now : List MovedDocument) (all : List Datum) (key : Datum) (left : List Datum) (document : Option Fields) →
    document ≡ document_under key rows → AllFit now → has_room (length now) (members_bytes now) (document_bytes document) ≡ false →
    Adds rows old now all (key ∷ left) → fitting 0 0 (old ++ members_under rows all) ≡ now
adds_full rows old now all key left document is fit full adds =
    ap (λ (l : List MovedDocument). fitting 0 0 l) adds.whole
    ∙ fit_full now (moved key (document_under key rows)) (members_under rows left) fit
    (ap (λ (d : Option Fields). has_room (length now) (members_bytes now) (document_bytes d)) (sym is) ∙ full)

pub adds_all : (rows : Rows) (old now : List MovedDocument) (all : List Datum) → AllFit now → Adds rows old now all [] →
    fitting 0 0 (old ++ members_under rows all) ≡ now
adds_all rows old now all fit adds =
    ap (λ (l : List MovedDocument). fitting 0 0 l) (adds.whole ∙ append-nil now) ∙ fit_all now fit

-- one entry of the marks more
one_entry : (rows : Rows) (now : List MovedDocument) (key : Datum) (changed : Bool) (rest : Entries) →
    now ++ members_under rows (changed_among ((key, changed) ∷ rest))
    ≡ (now ++ members_under rows (if changed then key ∷ [] else [])) ++ members_under rows (changed_among rest)
one_entry rows now key true rest = sym (append_assoc now (moved key (document_under key rows) ∷ []) (members_under rows (changed_among rest)))
one_entry rows now key false rest = ap (λ (l : List MovedDocument). l ++ members_under rows (changed_among rest)) (sym (append-nil now))

pub adds_next : (rows : Rows) (old now new : List MovedDocument) (all : List Datum) (key : Datum) (changed : Bool) (rest : Entries) →
    new ≡ now ++ members_under rows (if changed then key ∷ [] else []) → Adds rows old now all (changed_among ((key, changed) ∷ rest)) →
    Adds rows old new all (changed_among rest)
adds_next rows old now new all key changed rest is adds = record {
  found = adds.found ++ members_under rows (if changed then key ∷ [] else []);
  grown = is ∙ ap (λ (l : List MovedDocument). l ++ members_under rows (if changed then key ∷ [] else [])) adds.grown
      ∙ append_assoc old adds.found (members_under rows (if changed then key ∷ [] else []));
  whole = adds.whole ∙ one_entry rows now key changed rest ∙ ap (λ (l : List MovedDocument). l ++ members_under rows (changed_among rest)) (sym is);
}

pub adds_stop : (rows : Rows) (old now : List MovedDocument) (all : List Datum) (key : Datum) (changed : Bool) (rest : Entries) → AllFit now → changed ≡ true →
    has_room (length now) (members_bytes now) (document_bytes (document_under key rows)) ≡ false →
    Adds rows old now all (changed_among ((key, changed) ∷ rest)) → fitting 0 0 (old ++ members_under rows all) ≡ now
adds_stop rows old now all key changed rest fit is full adds =
    adds_full rows old now all key (changed_among rest) (document_under key rows) refl fit full
    (subst (λ (b : Bool). Adds rows old now all (changed_among ((key, b) ∷ rest))) is adds)
