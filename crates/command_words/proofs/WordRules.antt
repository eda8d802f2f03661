-- The results of rules for operands that were read, and the stages of these.
use Rattle.std.proofs.Common.{◌≡◌, ℕ, List, [], ◌∷◌, ◌++◌, append_assoc, refl, ◌∙◌, ap, Option, Some, None, Ok, Err, codes}
use Rattle.std.specs.Prelude.{Result, drop}
use Rattle.bson_model.specs.Tree.{Datum, document_value, array_value, Fields, field, get}
use Rattle.command_model.specs.Checks.{Verdict}
use Rattle.base_model.specs.Errors.{ErrorCode, failed_to_parse}
use Rattle.command_model.specs.Fields.{check_fields, document_needed}
use Rattle.command_model.specs.Reading.{unless_faulty}
use Rattle.command_model.specs.Find.{find_rules, find_stages, read_shown, shown_stages, stage_counted, stage_given}
use Rattle.command_model.specs.Aggregate.{aggregate_rules, pipeline_needed, stages_asked}
use Rattle.command_model.specs.Count.{count_rules, count_stages}
use Rattle.pipeline_model.specs.Projections.{Projection}
use Rattle.pipeline_model.specs.SortKeys.{read_sort, SortSpec}
use Rattle.pipeline_model.specs.Stages.{Stage, match_stage, sort_stage, skip_stage, limit_stage, project_stage, count_stage, read_pipeline}
use Rattle.query_model.specs.Queries.{Query, QueryFault}
use Rattle.query_model.specs.Reading.{◌>>=◌, read_query}
use Rattle.command_words.specs.FindWords.{AreFindWords, rules_with}
use Rattle.command_words.specs.HeldRules.{aggregate_rules_held, count_rules_held}
use Rattle.command_fields.specs.Words.{array_needed, or_bad_value, or_no_stages, pipeline_read, read_words, told, word_view, word_read}
use Rattle.command_words.specs.declared.find.FindWords.{FindWords}
use Rattle.command_fields.specs.declared.words.WordKind.{WordKind}
use Rattle.command_fields.specs.declared.words.WordKind.TheVariants.{Filter, Sort, Projection as Shown}
use Rattle.command_words.proofs.Alike.{TellAlike, alike_self, behind_alike}

-- ERRORS

told_read : (read : Result (List Stage) QueryFault) → told (or_bad_value read) ≡ unless_faulty read
told_read (Ok stages) = refl
told_read (Err fault) = refl

told_filter : (r : Result Query QueryFault) → unless_faulty (r >>= λ asked. Ok (match_stage asked ∷ [])) ≡ unless_faulty r
told_filter (Ok asked) = refl
told_filter (Err fault) = refl

told_sort : (r : Result SortSpec QueryFault) → unless_faulty (r >>= λ spec. Ok (sort_stage spec ∷ [])) ≡ unless_faulty r
told_sort (Ok spec) = refl
told_sort (Err fault) = refl

told_shown : (r : Result (Option Projection) QueryFault) (show : Option Projection → List Stage) → unless_faulty (r >>= λ shown. Ok (show shown)) ≡ unless_faulty r
told_shown (Ok shown) show = refl
told_shown (Err fault) show = refl

-- the error of an operand
abbrev words_verdict : WordKind → Fields → Verdict
words_verdict Filter ms = unless_faulty (read_query ms)
words_verdict Sort ms = unless_faulty (read_sort ms)
words_verdict Shown ms = unless_faulty (read_shown ms)

told_words : (kind : WordKind) (ms : Fields) → told (or_bad_value (read_words kind ms)) ≡ words_verdict kind ms
told_words Filter ms = told_read (read_words Filter ms) ∙ told_filter (read_query ms)
told_words Sort ms = told_read (read_words Sort ms) ∙ told_sort (read_sort ms)
told_words Shown ms = told_read (read_words Shown ms) ∙ told_shown (read_shown ms) _

told_of_word : (kind : WordKind) (word : Result (List Stage) ErrorCode) (found : Option Datum) (value : Datum) → word ≡ word_read kind found → found ≡ Some value →
    document_needed (λ ms. told word) value ≡ document_needed (λ ms. words_verdict kind ms) value
told_of_word kind word found (document_value ms) read is = ap told (read ∙ ap (λ (o : Option Datum). word_read kind o) is) ∙ told_words kind ms
told_of_word kind word found value read is = refl

find_alike : (words : FindWords) (document : Fields) → AreFindWords words document →
    TellAlike document (rules_with words) find_rules
find_alike words document are =
    let filter = λ (value : Datum) (is : get (codes "filter") document ≡ Some value). told_of_word Filter (word_view words.filter) (get (codes "filter") document) value are.filter is in
    let sort = λ (value : Datum) (is : get (codes "sort") document ≡ Some value). told_of_word Sort (word_view words.sort) (get (codes "sort") document) value are.sort is in
    let shown = λ (value : Datum) (is : get (codes "projection") document ≡ Some value). told_of_word Shown (word_view words.projection) (get (codes "projection") document) value are.projection is in
    (refl, (filter, (refl, (sort, (refl, (shown, alike_self document (drop 3 find_rules)))))))

count_alike : (word : Result (List Stage) ErrorCode) (document : Fields) → word ≡ word_read Filter (get (codes "query") document) → TellAlike document (count_rules_held (told word)) count_rules
count_alike word document read = (refl, ((λ value is. told_of_word Filter word (get (codes "query") document) value read is), alike_self document (drop 1 count_rules)))

told_of_pipeline : (word : Result (List Stage) ErrorCode) (found : Option Datum) (value : Datum) → word ≡ pipeline_read found → found ≡ Some value → array_needed (told word) value ≡ pipeline_needed value
told_of_pipeline word found (array_value stages) read is = ap told (read ∙ ap pipeline_read is) ∙ told_read (read_pipeline stages)
told_of_pipeline word found value read is = refl

aggregate_alike : (word : Result (List Stage) ErrorCode) (document : Fields) → word ≡ pipeline_read (get (codes "pipeline") document) → TellAlike document (aggregate_rules_held (told word)) aggregate_rules
aggregate_alike word document read = (refl, ((λ value is. told_of_pipeline word (get (codes "pipeline") document) value read is), alike_self document (drop 1 aggregate_rules)))

-- the fields after a command's own, by what was read
pub find_behind : (words : FindWords) (document : Fields) (own : List ℕ) (value : Datum) (others : Fields) → AreFindWords words document → document ≡ field own value others →
    check_fields (Some failed_to_parse) (rules_with words) (own ∷ []) others
    ≡ check_fields (Some failed_to_parse) find_rules (own ∷ []) others
find_behind words document own value others are is =
    behind_alike document (rules_with words) find_rules (Some failed_to_parse) own value others (find_alike words document are) is

pub count_behind : (word : Result (List Stage) ErrorCode) (document : Fields) (own : List ℕ) (value : Datum) (others : Fields) → word ≡ word_read Filter (get (codes "query") document) → document ≡ field own value others →
    check_fields (Some failed_to_parse) (count_rules_held (told word)) (own ∷ []) others ≡ check_fields (Some failed_to_parse) count_rules (own ∷ []) others
count_behind word document own value others read is = behind_alike document (count_rules_held (told word)) count_rules (Some failed_to_parse) own value others (count_alike word document read) is

pub aggregate_behind : (word : Result (List Stage) ErrorCode) (document : Fields) (own : List ℕ) (value : Datum) (others : Fields) → word ≡ pipeline_read (get (codes "pipeline") document) → document ≡ field own value others →
    check_fields (Some failed_to_parse) (aggregate_rules_held (told word)) (own ∷ []) others ≡ check_fields (Some failed_to_parse) aggregate_rules (own ∷ []) others
aggregate_behind word document own value others read is = behind_alike document (aggregate_rules_held (told word)) aggregate_rules (Some failed_to_parse) own value others (aggregate_alike word document read) is

-- STAGES

stages_filter : (r : Result Query QueryFault) → or_no_stages (or_bad_value (r >>= λ asked. Ok (match_stage asked ∷ []))) ≡ elim r [ Ok x ↦ match_stage x ∷ [] | Err fault ↦ [] ]
stages_filter (Ok asked) = refl
stages_filter (Err fault) = refl

stages_sort : (r : Result SortSpec QueryFault) → or_no_stages (or_bad_value (r >>= λ spec. Ok (sort_stage spec ∷ []))) ≡ elim r [ Ok x ↦ sort_stage x ∷ [] | Err fault ↦ [] ]
stages_sort (Ok spec) = refl
stages_sort (Err fault) = refl

filter_in : (o : Option Datum) → or_no_stages (word_read Filter o) ≡ elim o [ Some (document_value words) ↦ elim (read_query words) [ Ok x ↦ match_stage x ∷ [] | Err fault ↦ [] ] | other ↦ [] ]
filter_in (Some (document_value words)) = stages_filter (read_query words)
filter_in (Some value) = refl
filter_in None = refl

sort_in : (o : Option Datum) → or_no_stages (word_read Sort o) ≡ elim o [ Some (document_value words) ↦ elim (read_sort words) [ Ok x ↦ sort_stage x ∷ [] | Err fault ↦ [] ] | other ↦ [] ]
sort_in (Some (document_value words)) = stages_sort (read_sort words)
sort_in (Some value) = refl
sort_in None = refl

filter_stages : (name : List ℕ) (ms : Fields) → or_no_stages (word_read Filter (get name ms)) ≡ stage_given read_query match_stage name ms
filter_stages name ms = filter_in (get name ms)

sort_stages : (name : List ℕ) (ms : Fields) → or_no_stages (word_read Sort (get name ms)) ≡ stage_given read_sort sort_stage name ms
sort_stages name ms = sort_in (get name ms)

stages_shown : (r : Result (Option Projection) QueryFault) →
    or_no_stages (or_bad_value (r >>= λ shown. Ok (elim shown [ None ↦ [] | Some rules ↦ project_stage rules ∷ [] ])))
    ≡ elim r [ Ok shown ↦ elim shown [ None ↦ [] | Some rules ↦ project_stage rules ∷ [] ] | Err fault ↦ [] ]
stages_shown (Ok None) = refl
stages_shown (Ok (Some rules)) = refl
stages_shown (Err fault) = refl

projection_stages : (o : Option Datum) → or_no_stages (word_read Shown o) ≡ shown_stages o
projection_stages (Some (document_value words)) = stages_shown (read_shown words)
projection_stages (Some value) = refl
projection_stages None = refl

stages_or_none : (r : Result (List Stage) QueryFault) → or_no_stages (or_bad_value r) ≡ elim r [ Ok read ↦ read | Err fault ↦ [] ]
stages_or_none (Ok stages) = refl
stages_or_none (Err fault) = refl

pub pipeline_stages : (o : Option Datum) → or_no_stages (pipeline_read o) ≡ stages_asked o
pipeline_stages (Some (array_value stages)) = stages_or_none (read_pipeline stages)
pipeline_stages (Some value) = refl
pipeline_stages None = refl

-- the stages of a find and of a count, one part after the other
pub find_parts : (words : FindWords) (document : Fields) → AreFindWords words document →
    ((((or_no_stages (word_view words.filter) ++ or_no_stages (word_view words.sort)) ++ stage_counted skip_stage (codes "skip") document) ++ stage_counted limit_stage (codes "limit") document)
    ++ or_no_stages (word_view words.projection)) ≡ find_stages document
find_parts words document are =
    let a : List Stage = stage_given read_query match_stage (codes "filter") document in
    let b : List Stage = stage_given read_sort sort_stage (codes "sort") document in
    let c : List Stage = stage_counted skip_stage (codes "skip") document in
    let d : List Stage = stage_counted limit_stage (codes "limit") document in
    let e : List Stage = shown_stages (get (codes "projection") document) in
    let first : or_no_stages (word_view words.filter) ≡ a = ap or_no_stages are.filter ∙ filter_stages (codes "filter") document in
    let second : or_no_stages (word_view words.sort) ≡ b = ap or_no_stages are.sort ∙ sort_stages (codes "sort") document in
    let last : or_no_stages (word_view words.projection) ≡ e = ap or_no_stages are.projection ∙ projection_stages (get (codes "projection") document) in
    rw (first, second, last) (append_assoc ((a ++ b) ++ c) d e ∙ append_assoc (a ++ b) c (d ++ e) ∙ append_assoc a b (c ++ (d ++ e)))

pub count_parts : (word : Result (List Stage) ErrorCode) (document : Fields) → word ≡ word_read Filter (get (codes "query") document) →
    (((or_no_stages word ++ stage_counted skip_stage (codes "skip") document) ++ stage_counted limit_stage (codes "limit") document) ++ count_stage (codes "n") ∷ []) ≡ count_stages document
count_parts word document read =
    let a : List Stage = stage_given read_query match_stage (codes "query") document in
    let b : List Stage = stage_counted skip_stage (codes "skip") document in
    let c : List Stage = stage_counted limit_stage (codes "limit") document in
    let first : or_no_stages word ≡ a = ap or_no_stages read ∙ filter_stages (codes "query") document in
    rw first (append_assoc (a ++ b) c (count_stage (codes "n") ∷ []) ∙ append_assoc a b (c ++ count_stage (codes "n") ∷ []))
