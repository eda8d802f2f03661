-- Bodies that are as small as those of a message.
use Rattle.std.specs.Prelude.{ℕ, List}
use Rattle.std.specs.List.{AllByRecursion}
use Rattle.opmsg_model.specs.MessageSizes.{IsSmall, IsSmallBody}
use Rattle.bson_model.specs.Tree.{Fields}
use Rattle.opmsg_frames.specs.RequestMeanings.{IsBody}
use Rattle.opmsg_frames.specs.declared.request.Body.{Body}
use Rattle.protocol_model.specs.Requests.{body_of}

abbrev pub AreSmall : List Fields → Type 0
AreSmall documents = AllByRecursion IsSmall documents

abbrev pub AreSmallSequences : List (List ℕ × List Fields) → Type 0
AreSmallSequences sequences = AllByRecursion (λ (s : List ℕ × List Fields). AllByRecursion IsSmall s.1) sequences

-- the body is one of the definitions, and so small
pub record IsTakenBody (body : Body) : Type 0 where
  pub meant : IsBody body (body_of body)
  pub small : IsSmallBody (body_of body)
