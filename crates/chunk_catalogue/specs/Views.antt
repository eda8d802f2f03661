-- What the program's requests and changes are as plain data.
use Rattle.base_model.specs.Identities as identities
use Rattle.cluster_base.specs.declared.identity.RequestId.{RequestId}
use Rattle.chunk_table.specs.Meanings.{version_view}
use Rattle.chunk_model.specs.Changes as changes
use Rattle.chunk_model.specs.Changes.{create_change, split_change, commit_change}
use Rattle.chunk_model.specs.Requests as requests
use Rattle.chunk_catalogue.specs.declared.change.CommitWords.{CommitWords}
use Rattle.chunk_catalogue.specs.declared.change.ChangeFields.{ChangeFields}
use Rattle.chunk_catalogue.specs.declared.change.ChangeFields.TheVariants.{Create, Split, Commit}

abbrev pub id_view : RequestId → identities.RequestId
id_view id = record { router = id.router.0; life = id.life; count = id.count }

abbrev pub words_view : CommitWords → requests.CommitWords
words_view w = record {
  id = id_view w.id;
  namespace = w.namespace;
  range = w.range;
  version = version_view w.version;
  from = w.from.0;
  to = w.to.0;
}

abbrev pub change_view : ChangeFields → changes.Change
change_view (Create namespace epoch at) = create_change (record { namespace = namespace; epoch = epoch; at = at.0 })
change_view (Split namespace middle at) = split_change (record { namespace = namespace; middle = middle; at = at.0 })
change_view (Commit id namespace range from to at) =
    commit_change (record { id = id_view id; namespace = namespace; range = range; from = from.0; to = to.0; at = at.0 })
