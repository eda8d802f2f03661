-- Which operators the names in a filter are, and that the document that an upsert begins with has a key.
use Rattle.std.proofs.Common.{◌≡◌, ℕ, ◌≤◌, List, [], ◌∷◌, length, drop, refl, sym, ap, ◌∙◌}
use Rattle.std.specs.Prelude.{Bool, true, false, ◌&&◌, Option, Some, None, Result, Ok, Err, codes, is_some, if◌then◌else◌}
use Rattle.std.specs.List.{AllByRecursion}
use Rattle.std.specs.Result.{is_ok}
use Rattle.std.specs.Str.{bytes_eq}
use Rattle.std.proofs.lemmas.List.{drop_all}
use Rattle.bson_values.specs.declared.value.Field.{Field}
use Rattle.bson_values.specs.View.{fields_of}
use Rattle.bson_model.specs.Tree.{Datum, document_value, Fields, joined}
use Rattle.bson_model.proofs.Joined.{joined_none}
use Rattle.value_model.specs.Keys.{is_key, valid_key, KeyFault, absent_key, wrong_kind}
use Rattle.query_model.specs.Paths.{as_document}
use Rattle.query_model.specs.Queries.{Query, QueryFault, bad_operand, Operator, elem_match_operator, not_operator, operators, named}
use Rattle.query_model.specs.Reading.{is_operator_document, read_query}
use Rattle.query_model.specs.KeySpans.{key_asked, key_equal}
use Rattle.query_model.specs.Writes.{is_plain_query, read_start, start_of}
use Rattle.query_model.proofs.KeysStay.{begins_with_key}
use Rattle.query_model.proofs.Puts.{same_bytes}
use Rattle.update_ops.specs.Starts.{is_plain_filter, are_plain_operators, is_plain_operand, is_equality, equalities_in}
use Rattle.update_ops.proofs.Starts.{plain_query, begins_with_equalities}

module _ {X : Type 0} (pick : Option Operator → X) (target : List ℕ → X) (name : List ℕ) where
  -- where each entry of a table agrees with the target, so does a lookup, if the target agrees for each name that is in no entry
  looked_up : (rows : List (List ℕ × Operator)) → AllByRecursion (λ row. pick (Some row.1) ≡ target row.0) rows →
      (AllByRecursion (λ row. bytes_eq row.0 name ≡ false) rows → pick None ≡ target name) → pick (named rows name) ≡ target name
  looked_up [] rows none = none tt
  looked_up (row ∷ rows) each none = by_test (bytes_eq row.0 name) refl (λ e. looked_up rows each.1 (λ rest. none (e, rest)))
    where
      by_test : (t : Bool) → bytes_eq row.0 name ≡ t → (bytes_eq row.0 name ≡ false → pick (named rows name) ≡ target name) →
          pick (if t then Some row.1 else named rows name) ≡ target name
      by_test true e later = each.0 ∙ ap target (same_bytes row.0 name e)
      by_test false e later = later e

named_equality : (name : List ℕ) → is_equality (named operators name) ≡ bytes_eq (codes "$eq") name
named_equality name =
    looked_up is_equality (λ n. bytes_eq (codes "$eq") n) name operators (refl, (refl, (refl, (refl, (refl, (refl, (refl, (refl, (refl, (refl, (refl, (refl, (refl, tt)))))))))))))
    (λ other. sym other.0)

pub equality_named : (name : List ℕ) → bytes_eq (codes "$eq") name ≡ is_equality (named operators name)
equality_named name = sym (named_equality name)

-- of the operators that take a document, only `$elemMatch` and `$not` are read further
abbrev pub plain_inside : List ℕ → Fields → Bool
plain_inside name ms =
    if bytes_eq (codes "$elemMatch") name then (if is_operator_document ms then are_plain_operators ms else is_plain_filter ms)
    else if bytes_eq (codes "$not") name then are_plain_operators ms
    else true

inside_none : (name : List ℕ) (ms : Fields) → bytes_eq (codes "$elemMatch") name ≡ false → bytes_eq (codes "$not") name ≡ false → true ≡ plain_inside name ms
inside_none name ms no_element no_not = rw (no_element, no_not) refl

named_operand : (name : List ℕ) (ms : Fields) → is_plain_operand (named operators name) (document_value ms) ≡ plain_inside name ms
named_operand name ms =
    looked_up (λ o. is_plain_operand o (document_value ms)) (λ n. plain_inside n ms) name operators (refl, (refl, (refl, (refl, (refl, (refl, (refl, (refl, (refl, (refl, (refl, (refl, (refl, tt)))))))))))))
    (λ other. inside_none name ms other.1.1.1.1.1.1.1.1.1.1.1.0 other.1.1.1.1.1.1.1.1.1.1.1.1.0)

pub operand_named : (name : List ℕ) (ms : Fields) → plain_inside name ms ≡ is_plain_operand (named operators name) (document_value ms)
operand_named name ms = sym (named_operand name ms)

pub by_element : (name : List ℕ) (ms : Fields) (plain : Bool) → true ≡ bytes_eq (codes "$elemMatch") name →
    plain ≡ (if is_operator_document ms then are_plain_operators ms else is_plain_filter ms) → plain ≡ is_plain_operand (named operators name) (document_value ms)
by_element name ms plain named_so is =
    is
    ∙ ap (λ (b : Bool). if b then (if is_operator_document ms then are_plain_operators ms else is_plain_filter ms) else if bytes_eq (codes "$not") name then are_plain_operators ms else true) named_so
    ∙ operand_named name ms

not_element : (name : List ℕ) (ms : Fields) → false ≡ bytes_eq (codes "$elemMatch") name →
    (if bytes_eq (codes "$not") name then are_plain_operators ms else true) ≡ is_plain_operand (named operators name) (document_value ms)
not_element name ms other =
    ap (λ (b : Bool). if b then (if is_operator_document ms then are_plain_operators ms else is_plain_filter ms) else if bytes_eq (codes "$not") name then are_plain_operators ms else true) other
    ∙ operand_named name ms

pub by_negation : (name : List ℕ) (ms : Fields) (plain : Bool) → false ≡ bytes_eq (codes "$elemMatch") name → true ≡ bytes_eq (codes "$not") name →
    plain ≡ are_plain_operators ms → plain ≡ is_plain_operand (named operators name) (document_value ms)
by_negation name ms plain other named_so is = is ∙ ap (λ (b : Bool). if b then are_plain_operators ms else true) named_so ∙ not_element name ms other

pub by_other : (name : List ℕ) (ms : Fields) → false ≡ bytes_eq (codes "$elemMatch") name → false ≡ bytes_eq (codes "$not") name →
    true ≡ is_plain_operand (named operators name) (document_value ms)
by_other name ms other neither = ap (λ (b : Bool). if b then are_plain_operators ms else true) neither ∙ not_element name ms other

pub operand_scalar : (operator : Option Operator) (d : Datum) → as_document d ≡ None → is_plain_operand operator d ≡ true
operand_scalar operator (document_value ms) e = absurd cc
operand_scalar (Some elem_match_operator) d e = refl
operand_scalar (Some not_operator) d e = refl
operand_scalar operator d e = refl

-- ---- keys

abbrev keyed : Option Datum → Result Datum KeyFault
keyed found = elim found [ None ↦ Err absent_key | Some d ↦ if is_key d then Ok d else Err wrong_kind ]

abbrev equal : Option Datum → Option Datum
equal found = elim found [ None ↦ None | Some x ↦ if is_key x then Some x else None ]

key_there : (found : Option Datum) → is_some (equal found) ≡ true → is_ok (keyed found) ≡ true
key_there None e = absurd cc
key_there (Some x) e = by_kind (is_key x) e
  where
    by_kind : (t : Bool) → is_some (if t then Some x else None) ≡ true → is_ok (if t then Ok x else Err wrong_kind) ≡ true
    by_kind true h = refl
    by_kind false h = absurd cc

-- the document that an upsert begins with has the key that its filter requires
pub start_keyed : (asked : Query) (start : Fields) → start ≡ start_of asked → is_some (key_equal asked) ≡ true → is_ok (valid_key start) ≡ true
start_keyed asked start is e =
    ap (λ (x : Fields). is_ok (valid_key x)) is ∙ ap (λ (x : Option Datum). is_ok (keyed x)) (begins_with_key asked) ∙ key_there (key_asked asked) e

-- the document that an upsert begins with

abbrev started : Bool → Bool → Fields → Result (Option Fields) QueryFault
started plain keyed start = if plain && keyed then Ok (Some start) else Err bad_operand

-- a filter that is not plain
pub start_refused : (filter : Fields) (asked : Query) → read_query filter ≡ Ok asked → is_plain_filter filter ≡ false → read_start true asked ≡ Err bad_operand
start_refused filter asked read plain =
    ap (λ (b : Bool). started b (is_some (key_equal asked)) (start_of asked)) (plain_query filter asked read ∙ plain)

without_key : (plain : Bool) (start : Fields) → started plain false start ≡ Err bad_operand
without_key true start = refl
without_key false start = refl

-- a filter that requires no key
pub start_keyless : (asked : Query) → None ≡ key_equal asked → read_start true asked ≡ Err bad_operand
start_keyless asked none =
    ap (λ (o : Option Datum). started (is_plain_query asked) (is_some o) (start_of asked)) (sym none) ∙ without_key (is_plain_query asked) (start_of asked)

pub start_is : (filter : Fields) (asked : Query) (start : Fields) → read_query filter ≡ Ok asked → is_plain_filter filter ≡ true → start ≡ equalities_in filter →
    start ≡ start_of asked
start_is filter asked start read plain is = is ∙ sym (begins_with_equalities filter asked read (plain_query filter asked read ∙ plain))

pub start_read : (filter : Fields) (asked : Query) (start : Fields) (key : Datum) → read_query filter ≡ Ok asked → is_plain_filter filter ≡ true →
    Some key ≡ key_equal asked → start ≡ equalities_in filter → read_start true asked ≡ Ok (Some start)
start_read filter asked start key read plain there is =
    ap (λ (b : Bool). started b (is_some (key_equal asked)) (start_of asked)) (plain_query filter asked read ∙ plain)
    ∙ ap (λ (o : Option Datum). started true (is_some o) (start_of asked)) (sym there)
    ∙ ap (λ (x : Fields). Ok (Some x)) (sym (start_is filter asked start read plain is))

pub start_has_key : (filter : Fields) (asked : Query) (start : Fields) (key : Datum) → read_query filter ≡ Ok asked → is_plain_filter filter ≡ true →
    Some key ≡ key_equal asked → start ≡ equalities_in filter → is_ok (valid_key start) ≡ true
start_has_key filter asked start key read plain there is = start_keyed asked start (start_is filter asked start read plain is) (ap is_some (sym there))

-- the equalities of a filter, appended one after the other

-- all are appended
pub equalities_put : (all start : Fields) (ms : List Field) (i : ℕ) → joined start (equalities_in (fields_of (drop i ms))) ≡ all → length ms ≤ i → start ≡ all
equalities_put all start ms i whole past =
    sym (joined_none start) ∙ ap (λ (x : List Field). joined start (equalities_in (fields_of x))) (sym (drop_all i ms past)) ∙ whole
