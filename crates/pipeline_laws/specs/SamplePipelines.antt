-- Documents and specifications to try the definitions on.
use Rattle.std.specs.Prelude.{ℕ, zero, suc, pos, List, [], ◌∷◌, map, Option, Result, Ok, Err, codes}
use Rattle.std.specs.declared.cmp.Ordering.{Ordering}
use Prim.Native.String.{String}
use Rattle.bson_model.specs.Tree.{Datum, document_value, null_value, int32_value, Fields, no_fields, field}
use Rattle.query_model.specs.Queries.{QueryFault}
use Rattle.query_model.specs.Reading.{◌>>=◌}
use Rattle.query_model.specs.SampleQueries.{one}
use Rattle.pipeline_model.specs.Operands.{items_of}
use Rattle.pipeline_model.specs.Projections.{read_projection, project}
use Rattle.pipeline_model.specs.SortKeys.{ascending, KeyPart, SortSpec, sort_key, order_documents, read_sort}
use Rattle.pipeline_model.specs.GroupSpecs.{read_group}
use Rattle.pipeline_model.specs.Groups.{PartialRow, own_row, documents_of}
use Rattle.pipeline_model.specs.Stages.{Stage, read_pipeline}
use Rattle.pipeline_model.specs.Runs.{Outcome, Runs}
use Rattle.pipeline_model.specs.Halves.{Half, Merge, Merges, Rows}
use Rattle.pipeline_model.specs.Split.{split}
use Rattle.query_model.specs.SampleChanges.{text}

-- a document of these fields
abbrev pub doc : List (String × Datum) → Fields
doc [] = no_fields
doc (f ∷ fields) = field (codes f.0) f.1 (doc fields)

-- the result of a projection of a document
abbrev pub projected : Fields → Fields → Result Fields QueryFault
projected specification document = read_projection specification >>= λ rules. Ok (project rules document)

-- the key of a document, and how two documents compare
abbrev pub key_by : Fields → Fields → Result (List KeyPart) QueryFault
key_by specification document = read_sort specification >>= λ spec. Ok (sort_key spec document)

abbrev pub compared_by : Fields → Fields → Fields → Result Ordering QueryFault
compared_by specification a b = read_sort specification >>= λ spec. Ok (order_documents spec a b)

-- the group of one document, and the documents of groups
abbrev pub row_by : Fields → Fields → Result PartialRow QueryFault
row_by specification document = read_group specification >>= λ spec. Ok (own_row spec document)

abbrev pub shown_by : Fields → List PartialRow → Result (Option (List Fields)) QueryFault
shown_by specification rows = read_group specification >>= λ spec. Ok (documents_of spec rows)

-- the stages of an array of documents
abbrev pub stages_of : List Fields → Result (List Stage) QueryFault
stages_of documents = read_pipeline (items_of (map document_value documents))

-- the half and the merge that they are split into
abbrev pub split_of : List Fields → Result (Half × Merge) QueryFault
split_of documents = stages_of documents >>= λ stages. Ok (split stages)

-- the same document n times
abbrev pub repeated : ℕ → Fields → List Fields
repeated zero document = []
repeated (suc n) document = document ∷ repeated n document

-- {a: 1, a: 1, ..}
abbrev pub same_fields : ℕ → Fields
same_fields zero = no_fields
same_fields (suc n) = field (codes "a") (int32_value (pos 1)) (same_fields n)

-- upwards by `a`
abbrev pub by_a : SortSpec
by_a = record { path = codes "a" ∷ []; direction = ascending } ∷ []

-- an array of stages has this outcome for documents
abbrev pub RunsTo : List Fields → List Fields → Outcome → Type 0
RunsTo stages docs out = elim (stages_of stages) [ Ok read ↦ Runs read docs out | Err fault ↦ ⊥ ]

-- what its halves returned is merged to this outcome
abbrev pub MergesTo : List Fields → List Rows → Outcome → Type 0
MergesTo stages parts out = elim (stages_of stages) [ Ok read ↦ Merges (split read).1 parts out | Err fault ↦ ⊥ ]

-- {_id: n, x: m}
abbrev pub numbered : ℕ → ℕ → Fields
numbered n m = doc (("_id", int32_value (pos n)) ∷ ("x", int32_value (pos m)) ∷ [])

-- {$group: {_id: null, s: {$sum: "$v"}}}
abbrev pub sums : Fields
sums = one "$group" (document_value (doc (("_id", null_value) ∷ ("s", document_value (one "$sum" (text "$v"))) ∷ [])))
