-- The document after one more entry, and at a time before later entries.
use Rattle.std.proofs.Common.{◌≡◌, ℕ, ◌<◌, List, [], ◌∷◌, ◌++◌, refl, ap}
use Rattle.std.specs.Prelude.{Bool, true, false, Option, if◌then◌else◌, filter, nat_le}
use Rattle.std.specs.List.{AllByRecursion}
use Rattle.std.proofs.lemmas.Bool.{lt-leb}
use Rattle.bson_model.specs.Tree.{Datum, Fields}
use Rattle.history_model.specs.History.{effect, Entry, writes_to, document_after, document_left, document_at}

-- one more entry
pub document_after_push : (namespace : List ℕ) (key : Option Datum) (before : Option Fields) (es : List Entry) (e : Entry) → document_after namespace key before (es ++ e ∷ []) ≡ (if writes_to namespace key e then (effect e.operation (document_after namespace key before es)).0 else document_after namespace key before es)
document_after_push namespace key before [] e = refl
document_after_push namespace key before (d ∷ es) e = document_after_push namespace key (if writes_to namespace key d then (effect d.operation before).0 else before) es e

-- no later entry is kept
filter_none : (time : ℕ) (later : List Entry) → AllByRecursion (λ e. time < e.time) later → filter (λ (e : Entry). nat_le e.time time) later ≡ []
filter_none time [] all = refl
filter_none time (e ∷ later) all = rw (lt-leb e.time time all.0) (filter_none time later all.1)

filter_later : (time : ℕ) (entries later : List Entry) → AllByRecursion (λ e. time < e.time) later → filter (λ (e : Entry). nat_le e.time time) (entries ++ later) ≡ filter (λ (e : Entry). nat_le e.time time) entries
filter_later time [] later all = filter_none time later all
filter_later time (e ∷ entries) later all = by_test (nat_le e.time time) (filter_later time entries later all)
  where
    by_test : (test : Bool) → filter (λ (e : Entry). nat_le e.time time) (entries ++ later) ≡ filter (λ (e : Entry). nat_le e.time time) entries → (if test then e ∷ filter (λ (e : Entry). nat_le e.time time) (entries ++ later) else filter (λ (e : Entry). nat_le e.time time) (entries ++ later)) ≡ (if test then e ∷ filter (λ (e : Entry). nat_le e.time time) entries else filter (λ (e : Entry). nat_le e.time time) entries)
    by_test true same = ap (λ l. e ∷ l) same
    by_test false same = same

-- later entries do not change the collection at a time before them
pub document_at_later : (entries later : List Entry) (namespace : List ℕ) (key : Option Datum) (time : ℕ) → AllByRecursion (λ e. time < e.time) later → document_at (entries ++ later) namespace key time ≡ document_at entries namespace key time
document_at_later entries later namespace key time all = ap (λ (l : List Entry). document_left namespace key l) (filter_later time entries later all)
