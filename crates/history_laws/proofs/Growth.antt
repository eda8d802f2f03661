-- One more entry at the end of a journal, and journals in another order.
use Rattle.std.proofs.Common.{◌≡◌, ◌≢◌, ◌<◌, inl, ℕ, List, [], ◌∷◌, ◌++◌, refl, sym, ap, ◌∙◌}
use Rattle.std.specs.Prelude.{Bool, true, false, Option, if◌then◌else◌, filter, map, nat_le}
use Rattle.std.specs.List.{AllByRecursion}
use Rattle.std.proofs.lemmas.Bool.{lt-leb}
use Rattle.std.proofs.lemmas.List.Elements.{filter-append}
use Rattle.bson_model.specs.Tree.{Datum}
use Rattle.history_model.specs.History.{Entry, IsBefore, writes_to, document_left, document_at}
use Rattle.history_model.proofs.Lists.{all_at, all_weaken}
use Rattle.history_laws.specs.Merged.{placed, merged_with, merged, AreJournalsOf, IsOneMore}
use Rattle.history_laws.proofs.Placed.{AreOrdered, turned, two_shards, one_more_placed, placed_twice}
use Rattle.history_laws.proofs.Merging.{kept_merged, other_shards, ordered_with}
use Rattle.history_laws.proofs.Documents.{same_document_at}
use Rattle.history_laws.proofs.MergedLegal.{rising_prefix}

placed_with : (e : Entry) (journal entries : List Entry) → AllByRecursion (λ d. AreOrdered d e) journal →
    merged_with journal (placed e entries) ≡ placed e (merged_with journal entries)
placed_with e [] entries ordered = refl
placed_with e (d ∷ journal) entries ordered =
    ap (λ (l : List Entry). placed d l) (placed_with e journal entries ordered.1) ∙ placed_twice d e (merged_with journal entries) ordered.0

at_the_end : (e : Entry) (journal entries : List Entry) → merged_with (journal ++ e ∷ []) entries ≡ merged_with journal (placed e entries)
at_the_end e [] entries = refl
at_the_end e (d ∷ journal) entries = ap (λ (l : List Entry). placed d l) (at_the_end e journal entries)

-- the entry is placed among the merged entries before
grown : (shards : List ℕ) (before after : List (List Entry)) (journal : List Entry) (e : Entry) → AreJournalsOf shards (before ++ (journal ++ e ∷ []) ∷ after) →
    merged (before ++ (journal ++ e ∷ []) ∷ after) ≡ placed e (merged (before ++ journal ∷ after))
grown [] [] after journal e are = absurd are
grown [] (other ∷ before) after journal e are = absurd are
grown (shard ∷ shards) [] after journal e are =
    at_the_end e journal (merged after)
    ∙ placed_with e journal (merged after)
    (all_weaken (λ (d : Entry). IsBefore d e) (λ (d : Entry). AreOrdered d e) journal (λ d less. inl less) (rising_prefix journal [] e are.0.rising))
grown (shard ∷ shards) (other ∷ before) after journal e are =
    ap (λ (l : List Entry). merged_with other l) (grown shards before after journal e are.2)
    ∙ placed_with e other (merged (before ++ journal ∷ after))
    (all_weaken (λ (d : Entry). d.shard ≡ shard) (λ (d : Entry). AreOrdered d e) other (λ d own. two_shards d e (λ same. elsewhere (same ∙ own))) are.0.own)
  where
    elsewhere : e.shard ≢ shard
    elsewhere =
        all_at (λ (x : Entry). x.shard ≢ shard) e (journal ++ e ∷ [])
        (all_at (λ (l : List Entry). AllByRecursion (λ (x : Entry). x.shard ≢ shard) l) (journal ++ e ∷ []) (before ++ (journal ++ e ∷ []) ∷ after)
        (other_shards shard shards (before ++ (journal ++ e ∷ []) ∷ after) are.2 are.1) (before, after, refl))
        (journal, [], refl)

pub grown_by_one : (shards : List ℕ) (before after : List (List Entry)) (journal : List Entry) (e : Entry) →
    AreJournalsOf shards (before ++ (journal ++ e ∷ []) ∷ after) →
    IsOneMore e (merged (before ++ journal ∷ after)) (merged (before ++ (journal ++ e ∷ []) ∷ after))
grown_by_one shards before after journal e are =
    let more = one_more_placed e (merged (before ++ journal ∷ after)) in
    (more.0, more.1, more.2, grown shards before after journal e are ∙ more.3)

-- what does not see the entry
unseen : (test : Entry → Bool) (e : Entry) (before after : List Entry) → IsOneMore e before after → test e ≡ false → filter test after ≡ filter test before
unseen test e before after (prefix, back, was, is) other =
    ap (λ (l : List Entry). filter test l) is
    ∙ filter-append test prefix (e ∷ back)
    ∙ ap (λ (l : List Entry). filter test prefix ++ l) (passed_over (test e) other)
    ∙ sym (filter-append test prefix back)
    ∙ ap (λ (l : List Entry). filter test l) (sym was)
  where
    passed_over : (b : Bool) → b ≡ false → (if b then e ∷ filter test back else filter test back) ≡ filter test back
    passed_over true same = absurd cc
    passed_over false same = refl

pub other_keys : (namespace : List ℕ) (key : Option Datum) (time : ℕ) (e : Entry) (before after : List Entry) → IsOneMore e before after →
    writes_to namespace key e ≡ false →
    document_at after namespace key time ≡ document_at before namespace key time
other_keys namespace key time e before after more other =
    same_document_at namespace key time after before (unseen (λ (d : Entry). writes_to namespace key d) e before after more other)

pub earlier_times : (namespace : List ℕ) (key : Option Datum) (time : ℕ) (e : Entry) (before after : List Entry) → IsOneMore e before after → time < e.time →
    document_at after namespace key time ≡ document_at before namespace key time
earlier_times namespace key time e before after more less =
    ap (λ (l : List Entry). document_left namespace key l) (unseen (λ (d : Entry). nat_le d.time time) e before after more (lt-leb e.time time less))

-- journals with the same entries up to a time have the same documents at it
pub same_until : (namespace : List ℕ) (key : Option Datum) (time : ℕ) (shards more : List ℕ) (journals later : List (List Entry)) →
    AreJournalsOf shards journals → AreJournalsOf more later →
    map (λ journal. filter (λ (e : Entry). nat_le e.time time) journal) journals ≡ map (λ journal. filter (λ (e : Entry). nat_le e.time time) journal) later →
    document_at (merged journals) namespace key time ≡ document_at (merged later) namespace key time
same_until namespace key time shards more journals later are become same =
    ap (λ (l : List Entry). document_left namespace key l)
    (kept_merged (λ (e : Entry). nat_le e.time time) shards journals are
    ∙ ap (λ (l : List (List Entry)). merged l) same
    ∙ sym (kept_merged (λ (e : Entry). nat_le e.time time) more later become))

-- journals in another order

in_turn : (some others entries : List Entry) → AllByRecursion (λ d. AllByRecursion (λ e. AreOrdered d e) others) some →
    merged_with some (merged_with others entries) ≡ merged_with others (merged_with some entries)
in_turn [] others entries ordered = refl
in_turn (d ∷ some) others entries ordered =
    ap (λ (l : List Entry). placed d l) (in_turn some others entries ordered.1)
    ∙ sym (placed_with d others (merged_with some entries)
    (all_weaken (λ (e : Entry). AreOrdered d e) (λ (e : Entry). AreOrdered e d) others (λ e o. turned d e o) ordered.0))

pub any_first : (shards : List ℕ) (before after : List (List Entry)) (journal : List Entry) → AreJournalsOf shards (before ++ journal ∷ after) →
    merged (before ++ journal ∷ after) ≡ merged (journal ∷ (before ++ after))
any_first shards [] after journal are = refl
any_first [] (other ∷ before) after journal are = absurd are
any_first (shard ∷ shards) (other ∷ before) after journal are =
    ap (λ (l : List Entry). merged_with other l) (any_first shards before after journal are.2)
    ∙ in_turn other journal (merged (before ++ after)) (ordered_with shard other journal are.0.own elsewhere)
  where
    elsewhere : AllByRecursion (λ (e : Entry). e.shard ≢ shard) journal
    elsewhere =
        all_at (λ (l : List Entry). AllByRecursion (λ (e : Entry). e.shard ≢ shard) l) journal (before ++ journal ∷ after)
        (other_shards shard shards (before ++ journal ∷ after) are.2 are.1) (before, after, refl)
