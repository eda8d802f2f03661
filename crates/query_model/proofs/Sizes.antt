-- How many bytes and levels are too many.
use Rattle.std.proofs.Common.{◌≡◌, ◌<◌, ◌≤◌, length, refl}
use Rattle.std.specs.Prelude.{true, false}
use Rattle.std.proofs.lemmas.Bool.{lt-ltb, le-ltb}
use Rattle.bson_model.specs.Tree.{Fields, document_depth}
use Rattle.bson_model.specs.Spelling.{written}
use Rattle.query_model.specs.Edits.{is_too_large}
use Rattle.bson_model.specs.Limits.{most_bytes_kept, most_depth_kept}

pub not_large : (document : Fields) → length (written document) ≤ most_bytes_kept → document_depth document ≤ most_depth_kept → is_too_large document ≡ false
not_large document short low = rw (le-ltb most_bytes_kept (length (written document)) short, le-ltb most_depth_kept (document_depth document) low) refl

pub too_long : (document : Fields) → most_bytes_kept < length (written document) → is_too_large document ≡ true
too_long document long = rw (lt-ltb most_bytes_kept (length (written document)) long) refl
