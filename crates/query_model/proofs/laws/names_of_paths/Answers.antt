use Rattle.query_model.proofs.Names.{name_of_path}
use Rattle.query_model.proofs.laws.names_of_paths.Goals as goal

pub returns : goal.returns
returns c = name_of_path
