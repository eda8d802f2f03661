-- The program's evidence and refusals, by the definitions.
use Rattle.std.specs.Prelude.{List, codes, map}
use Rattle.bson_model.specs.Tree.{Fields, no_fields, field}
use Rattle.base_model.specs.Refusals as model
use Rattle.cluster_base.specs.Codes.{meaning_of}
use Rattle.command_replies.specs.declared.evidence.Evidence.{Evidence}
use Rattle.command_replies.specs.declared.evidence.Evidence.TheVariants.{Nothing, Place, Greatest, Cursor, Moments, Disk, Steps, Node, Number, Oldest, Bytes, Tries}
use Rattle.command_replies.specs.declared.evidence.ShownTry.{ShownTry}
use Rattle.command_replies.specs.declared.evidence.ShownVersion.{ShownVersion}
use Rattle.command_replies.specs.declared.refusal.Refusal.{Refusal}

abbrev pub shown_version_view : ShownVersion → model.ShownVersion
shown_version_view v = record { epoch = v.epoch; major = v.major }

abbrev pub shown_try_view : ShownTry → model.ShownTry
shown_try_view t = record { sent = shown_version_view t.sent; met = shown_version_view t.met }

abbrev pub shown_tries_view : List ShownTry → List model.ShownTry
shown_tries_view tries = map shown_try_view tries

-- the document of a try
abbrev pub try_fields : model.ShownTry → Fields
try_fields t = field (codes "sent") (model.version_document t.sent) (field (codes "met") (model.version_document t.met) no_fields)

abbrev pub evidence_view : Evidence → model.Evidence
evidence_view Nothing = model.no_evidence
evidence_view (Place place) = model.place_evidence place
evidence_view (Greatest time) = model.greatest_evidence time.0
evidence_view (Cursor cursor) = model.cursor_evidence cursor
evidence_view (Moments arrived now) = model.moments_evidence arrived now
evidence_view (Disk node faults) = model.disk_evidence node.0 faults
evidence_view (Steps node steps) = model.steps_evidence node.0 steps
evidence_view (Node node) = model.node_evidence node.0
evidence_view (Number number) = model.number_evidence number
evidence_view (Oldest time) = model.oldest_evidence time.0
evidence_view (Bytes bytes) = model.bytes_evidence bytes
evidence_view (Tries tries) = model.tries_evidence (shown_tries_view tries.items)

abbrev pub refusal_view : Refusal → model.Refusal
refusal_view r = record { error = meaning_of r.code; evidence = evidence_view r.evidence }
