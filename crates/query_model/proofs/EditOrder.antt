-- The edits of a change rise by their paths, and documents of one encoding are one.
use Rattle.std.proofs.Common.{◌≡◌, ℕ, List, [], ◌∷◌, refl, sym, ap, subst, ◌∙◌}
use Rattle.std.specs.Prelude.{Bool, true, false, Result, Ok, Err, if◌then◌else◌}
use Rattle.std.specs.Cmp.{IsTotalOrder}
use Rattle.std.specs.List.Sorted.{IsStrictlySortedBy}
use Rattle.std.specs.Map.{keys_of}
use Rattle.std.specs.BTreeMap.{insert_entry}
use Rattle.std.specs.Str.{bytes_eq}
use Rattle.std.proofs.lemmas.Cmp.{lists_total, nat_list_cmp_total}
use Rattle.std.proofs.lemmas.Slice.Eq.{bytes_eq-Decides}
use Rattle.bson_model.specs.Tree.{Fields}
use Rattle.bson_model.specs.Spelling.{written}
use Rattle.bson_model.specs.Grammar.{ReadsAs}
use Rattle.bson_model.proofs.OneDocument.{one_document}
use Rattle.query_model.specs.Paths.{Path}
use Rattle.query_model.specs.Queries.{QueryFault, bad_operand}
use Rattle.query_model.specs.Reading.{◌>>=◌}
use Rattle.query_model.specs.Changes.{Edit, Change, replacement, edits, read_operators, path_order, put_among, are_apart, change_of, has_operator, read_change}
use Rattle.query_model.proofs.Entries.{sorted_insert}

pub path_order_total : IsTotalOrder path_order
path_order_total = lists_total nat_list_cmp_total

abbrev AreSorted : List (Path × Edit) → Type 0
AreSorted es = IsStrictlySortedBy path_order (keys_of es)

among : (others es : List (Path × Edit)) → AreSorted others → AreSorted (put_among others es)
among others [] sorted = sorted
among others (e ∷ es) sorted = among (insert_entry path_order others e.0 e.1) es (sorted_insert path_order_total e.0 e.1 others sorted)

none_sorted : AreSorted []
unfolding IsStrictlySortedBy
none_sorted = tt

same_edits : (xs es : List (Path × Edit)) → edits xs ≡ edits es → xs ≡ es
same_edits xs es e = cc

apart_sorted : (apart : Bool) (xs es : List (Path × Edit)) → (if apart then Ok (edits (put_among [] xs)) else Err bad_operand) ≡ Ok (edits es) → AreSorted es
apart_sorted true xs es e =
    let same : edits (put_among [] xs) ≡ edits es = cc in subst (λ (ys : List (Path × Edit)). AreSorted ys) (same_edits (put_among [] xs) es same) (among [] xs none_sorted)
apart_sorted false xs es e = absurd cc

read_sorted : (read : Result (List (Path × Edit)) QueryFault) (es : List (Path × Edit)) → (read >>= change_of) ≡ Ok (edits es) → AreSorted es
read_sorted (Ok xs) es e = apart_sorted (are_apart xs) xs es e
read_sorted (Err fault) es e = absurd cc

by_operator : (has : Bool) (document : Fields) (es : List (Path × Edit)) →
    (if has then (read_operators document >>= change_of) else Ok (replacement document)) ≡ Ok (edits es) → AreSorted es
by_operator true document es e = read_sorted (read_operators document) es e
by_operator false document es e = absurd cc

pub edits_in_order : (document : Fields) (es : List (Path × Edit)) → read_change document ≡ Ok (edits es) → AreSorted es
edits_in_order document es e = by_operator (has_operator document) document es e

pub one_spelling : (a b : Fields) → ReadsAs (written a) a → ReadsAs (written b) b → bytes_eq (written a) (written b) ≡ true → a ≡ b
one_spelling a b first second same =
    let bytes : written a ≡ written b = (bytes_eq-Decides (written a) (written b)).0 same in
    one_document (written a) a b first (subst (λ (bs : List ℕ). ReadsAs bs b) (sym bytes) second)
