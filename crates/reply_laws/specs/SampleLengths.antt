-- Reads of long documents, to try the definitions on.
use Rattle.std.specs.Prelude.{◌≡◌, ℕ, List, length, codes, None, []}
use Rattle.std.specs.List.{AllByRecursion}
use Rattle.bson_model.specs.Tree.{Fields}
use Rattle.base_model.specs.Times.{timestamp}
use Rattle.pipeline_model.specs.Stages.{Stage}
use Rattle.pipeline_model.specs.Lengths.{document_length}
use Rattle.history_model.specs.History.{Entry}
use Rattle.history_model.specs.Documents.{documents_at}
use Rattle.reply_model.specs.Reads.{IsExcess}
use Rattle.reply_laws.specs.SampleTimes.{reading_of}
use Rattle.reply_laws.specs.SampleExchanges.{account_of}

-- so many documents of so many bytes each
pub record AreLong (count bytes : ℕ) (documents : List Fields) : Type 0 where
  pub many : length documents ≡ count
  pub long : AllByRecursion (λ document. document_length document ≡ bytes) documents

-- so many are there at Timestamp(1000, 4)
abbrev pub Holds : (count bytes : ℕ) → List Entry → Type 0
Holds count bytes history = AreLong count bytes (documents_at history (codes "d.c") (timestamp 1000 4))

-- of these stages, at that time, this is too long
abbrev pub IsTooLong : List Entry → List Stage → (n : ℕ) → Type 0
IsTooLong history stages n = IsExcess (account_of history [] []) (reading_of stages None None) (timestamp 1000 4) n
