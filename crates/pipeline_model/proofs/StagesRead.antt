-- What is so of each stage that is read is so of all stages of a pipeline that is read.
use Rattle.std.proofs.Common.{◌≡◌, List, [], ◌∷◌, refl}
use Rattle.std.specs.Prelude.{ℕ, Bool, true, ◌&&◌, Result, Ok, Err, ok_or, nat_lt, length}
use Rattle.std.specs.List.{list_all}
use Rattle.bson_model.specs.Tree.{Datum, document_value, Items, no_fields, field}
use Rattle.query_model.specs.Paths.{elements}
use Rattle.query_model.specs.Queries.{QueryFault, unknown_operator, bad_operand, named}
use Rattle.query_model.specs.Reading.{◌>>=◌}
use Rattle.pipeline_model.specs.Stages.{Stage, StageName, stage_names, read_stage_of, read_stage, read_stages, read_pipeline}
use Rattle.query_model.proofs.DocumentKeys.{IfRead, if_read, then_read}

-- whatever is read
pub then_any : {A B : Type 0} (Q : B → Type 0) (r : Result A QueryFault) (f : A → Result B QueryFault) → ((x : A) → IfRead Q (f x)) → IfRead Q (r >>= f)
then_any Q (Ok x) f k = k x
then_any Q (Err e) f k = tt

abbrev EachIs : (Stage → Bool) → Type 0
EachIs is_such = (which : StageName) (d : Datum) → IfRead (λ stage. is_such stage ≡ true) (read_stage_of which d)

stage_is : (is_such : Stage → Bool) → EachIs is_such → (d : Datum) → IfRead (λ stage. is_such stage ≡ true) (read_stage d)
stage_is is_such each (document_value (field name d no_fields)) = then_any (λ stage. is_such stage ≡ true) (ok_or (named stage_names name) unknown_operator) _
    (λ which. each which d)
stage_is is_such each d = tt

stages_are : (is_such : Stage → Bool) → EachIs is_such → (ds : List Datum) → IfRead (λ stages. list_all is_such stages ≡ true) (read_stages ds)
stages_are is_such each [] = refl
stages_are is_such each (d ∷ ds) =
    then_read (λ stage. is_such stage ≡ true) (λ stages. list_all is_such stages ≡ true) (read_stage d) _ (stage_is is_such each d)
    (λ first h. then_read (λ stages. list_all is_such stages ≡ true) (λ stages. list_all is_such stages ≡ true) (read_stages ds) _ (stages_are is_such each ds) (λ others k i. h i && k i))

said : {A : Type 0} (P : A → Type 0) (r : Result A QueryFault) (x : A) → r ≡ Ok x → IfRead P r → P x
said P r x e h = rw e at h

pub read_all : (is_such : Stage → Bool) → EachIs is_such → (array : Items) (stages : List Stage) → read_pipeline array ≡ Ok stages → list_all is_such stages ≡ true
read_all is_such each array stages e = said (λ stages. list_all is_such stages ≡ true) (read_pipeline array) stages e
    (if_read (λ stages. list_all is_such stages ≡ true) (nat_lt 1000 (length (elements array))) (Err bad_operand) (read_stages (elements array)) tt
    (stages_are is_such each (elements array)))
