-- Records of files are read in one way; where they replay, none of them is refused.
use Rattle.std.proofs.Common.{◌≡◌, inl, inr, ℕ, zero, suc, ◌+◌, List, [], ◌∷◌, refl, sym, ap, subst, ◌∙◌}
use Rattle.std.specs.Prelude.{map, take, Option, Some, None, slice_get}
use Rattle.std.specs.List.{AllByRecursion}
use Rattle.std.proofs.lemmas.Option.{same_Some}
use Rattle.journal_frames.specs.Files.{Stands}
use Rattle.journal_frames.proofs.Unique as unique
use Rattle.journal_replay.specs.Replayed.{IsRefused, IsReplayed, RefusesNext}
use Rattle.node_model.specs.Journal.{Kept, record_kept}
use Rattle.node_model.specs.States.{NodeState}
use Rattle.node_replay.specs.Durable.{DurableState}
use Rattle.node_replay.specs.Openings.{opened}
use Rattle.node_replay.specs.Replays.{follow, latest_time, records_of, replayed}
use Rattle.node_traits.specs.Effects.{spellings}
use Rattle.record_model.specs.RecordFormat.{spelled}
use Rattle.record_model.specs.Records.{Record}
use Rattle.record_model.proofs.OneRecord.{one_record}
use Rattle.shard_records.specs.Readable.{IsReadable}
use Rattle.journal_starts.specs.Records.{AreOpened, AreRefused, by_damage, by_record, HaveRecords, IsOpened, part_at, SomeRefused}

-- RECORDS

same_first : {X : Type 0} (x y : X) (xs ys : List X) → x ∷ xs ≡ y ∷ ys → x ≡ y
same_first x y xs ys same = cc

same_others : {X : Type 0} (x y : X) (xs ys : List X) → x ∷ xs ≡ y ∷ ys → xs ≡ ys
same_others x y xs ys same = cc

-- records that are readable are determined by their encodings
pub same_records : (a b : List Record) → AllByRecursion IsReadable a → AllByRecursion IsReadable b → map (spelled 1) a ≡ map (spelled 1) b → a ≡ b
same_records [] [] p q same = refl
same_records [] (r ∷ b) p q same = absurd (cc)
same_records (r ∷ a) [] p q same = absurd (cc)
same_records (r ∷ a) (s ∷ b) p q same =
    let one : r ≡ s = one_record r s p.0.0 q.0.0 (same_first (spelled 1 r) (spelled 1 s) (map (spelled 1) a) (map (spelled 1) b) same) in
    let others : a ≡ b = same_records a b p.1 q.1 (same_others (spelled 1 r) (spelled 1 s) (map (spelled 1) a) (map (spelled 1) b) same) in
    λ i. one i ∷ others i

pub spelled_kept : (kept : List Kept) → map (spelled 1) (records_of kept) ≡ spellings kept
spelled_kept [] = refl
spelled_kept (k ∷ kept) = ap (λ (l : List (List ℕ)). spelled 1 (record_kept k) ∷ l) (spelled_kept kept)

-- OPENINGS

-- there is one opening on records
one_opening : (empty : DurableState) (bytes : List (List ℕ)) (a b : NodeState) → IsOpened empty bytes a → IsOpened empty bytes b → a ≡ b
one_opening empty bytes a b p q =
    let records : p.replayed.records ≡ q.replayed.records =
    same_records p.replayed.records q.replayed.records p.replayed.readable q.replayed.readable (p.replayed.encoded ∙ sym q.replayed.encoded) in
    let parts : p.d ≡ q.d =
    same_Some _ _ (sym p.replayed.leads ∙ ap (λ (l : List Record). replayed (Some empty) l) records ∙ q.replayed.leads) in
    let times : p.time ≡ q.time = p.replayed.latest ∙ ap (λ (l : List Record). latest_time l) records ∙ sym q.replayed.latest in
    p.is ∙ (λ i. opened (times i) (parts i)) ∙ sym q.is

pub one_opened : (others first : ℕ) (found : List (List (List ℕ))) (a b : List NodeState) → AreOpened others first found a
    → AreOpened others first found b → a ≡ b
one_opened others first [] [] [] p q = refl
one_opened others first [] [] (t ∷ b) p q = absurd q
one_opened others first [] (s ∷ a) b p q = absurd p
one_opened others first (bytes ∷ found) [] b p q = absurd p
one_opened others first (bytes ∷ found) (s ∷ a) [] p q = absurd q
one_opened others first (bytes ∷ found) (s ∷ a) (t ∷ b) p q =
    let one : s ≡ t = one_opening (part_at others first) bytes s t p.0 q.0 in
    let rest : a ≡ b = one_opened others (first + 1) found a b p.1 q.1 in
    λ i. one i ∷ rest i

-- the files have one list of records each
pub one_found : (files : List (List ℕ)) (found others : List (List (List ℕ))) → HaveRecords files found → HaveRecords files others → found ≡ others
one_found [] [] [] p q = refl
one_found [] [] (o ∷ others) p q = absurd q
one_found [] (f ∷ found) others p q = absurd p
one_found (file ∷ files) [] others p q = absurd p
one_found (file ∷ files) (f ∷ found) [] p q = absurd q
one_found (file ∷ files) (f ∷ found) (o ∷ others) p q =
    let one : f ≡ o = unique.one_list file f o p.0 q.0 in
    let rest : found ≡ others = one_found files found others p.1 q.1 in
    λ i. one i ∷ rest i

-- REFUSALS

-- the first of records that replay lead to no state that refuses the next
never_refused : (d e left : DurableState) (early records : List Record) (index : ℕ) (next : List ℕ) → AllByRecursion IsReadable early
    → AllByRecursion IsReadable records → map (spelled 1) early ≡ take index (map (spelled 1) records) → replayed (Some d) early ≡ Some left
    → slice_get (map (spelled 1) records) index ≡ Some next → RefusesNext left next → replayed (Some d) records ≡ Some e → ⊥
never_refused d e left early [] index next p q same leads here refuses whole = absurd (cc)
never_refused d e left [] (r ∷ records) zero next p q same leads here refuses whole =
    let now : d ≡ left = same_Some _ _ leads in
    let none : follow left r ≡ None = refuses r q.0.0 q.0.1 (same_Some _ _ here) in
    let dead : replayed (follow d r) records ≡ None =
    ap (λ x. replayed (follow x r) records) now ∙ ap (λ o. replayed o records) none in
    no_state e (sym dead ∙ whole)
  where
    no_state : (x : DurableState) → None ≡ Some x → ⊥
    no_state x is = absurd (cc)
never_refused d e left (a ∷ early) (r ∷ records) zero next p q same leads here refuses whole = absurd (cc)
never_refused d e left [] (r ∷ records) (suc index) next p q same leads here refuses whole = absurd (cc)
never_refused d e left (a ∷ early) (r ∷ records) (suc index) next p q same leads here refuses whole =
    let one : a ≡ r = one_record a r p.0.0 q.0.0
    (same_first (spelled 1 a) (spelled 1 r) (map (spelled 1) early) (take index (map (spelled 1) records)) same) in
    let others : map (spelled 1) early ≡ take index (map (spelled 1) records) =
    same_others (spelled 1 a) (spelled 1 r) (map (spelled 1) early) (take index (map (spelled 1) records)) same in
    by_next (follow d r) (subst (λ (x : Record). replayed (follow d x) early ≡ Some left) one leads) whole
    (λ x l w. never_refused x e left early records index next p.1 q.1 others l here refuses w)
  where
    by_next : (o : Option DurableState) → replayed o early ≡ Some left → replayed o records ≡ Some e
        → ((x : DurableState) → replayed (Some x) early ≡ Some left → replayed (Some x) records ≡ Some e → ⊥) → ⊥
    by_next None l w goes_on = absurd (cc)
    by_next (Some x) l w goes_on = goes_on x l w

not_refused : (empty d : DurableState) (time : ℕ) (bytes : List (List ℕ)) (index : ℕ) → IsReplayed empty bytes d time → IsRefused empty bytes index → ⊥
not_refused empty d time bytes index whole r =
    never_refused empty d r.d r.before.records whole.records index r.next r.before.readable whole.readable
    (r.before.encoded ∙ ap (λ (l : List (List ℕ)). take index l) (sym whole.encoded)) r.before.leads
    (ap (λ (l : List (List ℕ)). slice_get l index) whole.encoded ∙ r.here) r.refused whole.leads

none_refused : (others first : ℕ) (found : List (List (List ℕ))) (states : List NodeState) → AreOpened others first found states
    → SomeRefused others first found → ⊥
none_refused others first [] states opens some = some
none_refused others first (bytes ∷ found) [] opens some = absurd opens
none_refused others first (bytes ∷ found) (s ∷ states) opens (inl refused) =
    not_refused (part_at others first) opens.0.d opens.0.time bytes refused.0 opens.0.replayed refused.1
none_refused others first (bytes ∷ found) (s ∷ states) opens (inr later) = none_refused others (first + 1) found states opens.1 later

-- a file that has records is there
stands_at : (files : List (List ℕ)) (found : List (List (List ℕ))) (at : ℕ) (file : List ℕ) → HaveRecords files found → slice_get files at ≡ Some file
    → (records : List (List ℕ)) × Stands file records
stands_at [] found at file have here = absurd (cc)
stands_at (f ∷ files) [] at file have here = absurd have
stands_at (f ∷ files) (records ∷ found) zero file have here = (records, subst (λ (x : List ℕ). Stands x records) (same_Some _ _ here) have.0)
stands_at (f ∷ files) (records ∷ found) (suc at) file have here = stands_at files found at file have.1 here

pub opened_are_not_refused : (others : ℕ) (files : List (List ℕ)) (found : List (List (List ℕ))) (states : List NodeState) → HaveRecords files found
    → AreOpened others 0 found states → ¬ AreRefused others files
opened_are_not_refused others files found states have opens (by_damage at offset file here damaged) =
    let s = stands_at files found at file have here in
    unique.not_both file s.0 offset s.1 damaged
opened_are_not_refused others files found states have opens (by_record these records some) =
    none_refused others 0 found states opens
    (subst (λ (l : List (List (List ℕ))). SomeRefused others 0 l) (one_found files these found records have) some)
