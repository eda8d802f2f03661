-- The operands of a find, as they were read.
use Rattle.std.specs.Prelude.{◌≡◌, List, codes}
use Rattle.bson_model.specs.Tree.{Fields, get}
use Rattle.command_model.specs.Fields.{Rule}
use Rattle.command_words.specs.HeldRules.{find_rules_held}
use Rattle.command_fields.specs.Words.{told, word_view, word_read}
use Rattle.command_words.specs.declared.find.FindWords.{FindWords}
use Rattle.command_fields.specs.declared.words.WordKind.TheVariants.{Filter, Sort, Projection}

-- they are those of the document
pub record AreFindWords (words : FindWords) (document : Fields) : Type 0 where
  pub filter : word_view words.filter ≡ word_read Filter (get (codes "filter") document)
  pub sort : word_view words.sort ≡ word_read Sort (get (codes "sort") document)
  pub projection : word_view words.projection ≡ word_read Projection (get (codes "projection") document)

-- the rules of a find with these operands
abbrev pub rules_with : FindWords → List Rule
rules_with words = find_rules_held (told (word_view words.filter)) (told (word_view words.sort)) (told (word_view words.projection))
