use Rattle.bson_values.proofs.Whole as whole
use Rattle.bson_values.proofs.reader.one_spelling.Goals as goal

pub returns : goal.returns
returns c = whole.one_spelling
