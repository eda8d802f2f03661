-- Tries, and the answers to requests that are not served, by the definitions.
use Rattle.chunk_table.specs.Meanings.{version_view}
use Rattle.reply_model.specs.Outcomes as outcomes
use Rattle.reply_model.specs.Accounts as accounts
use Rattle.reply_model.specs.Accounts.{no_memory, no_steps}
use Rattle.node_traits.specs.Ids.{id_view}
use Rattle.node_model.specs.Letters as letters
use Rattle.node_model.specs.Letters.{is_stale, is_lack, of_request, of_table, refused}
use Rattle.protocol_model.specs.declared.refused.Try.{Try}
use Rattle.protocol_model.specs.declared.refused.Lack.{Lack}
use Rattle.protocol_model.specs.declared.refused.Lack.TheVariants as lacks
use Rattle.protocol_model.specs.declared.refused.Cause.{Cause}
use Rattle.protocol_model.specs.declared.refused.Cause.TheVariants as causes
use Rattle.protocol_model.specs.declared.refused.About.{About}
use Rattle.protocol_model.specs.declared.refused.About.TheVariants as abouts
use Rattle.protocol_model.specs.declared.refused.Refused.{Refused}
use Rattle.protocol_model.specs.Tables.{at_view}

abbrev pub try_view : Try → outcomes.Try
try_view t = record { sent = version_view t.sent; met = version_view t.met }

abbrev pub lack_view : Lack → accounts.Lack
lack_view lacks.Memory = no_memory
lack_view (lacks.Steps steps) = no_steps steps

abbrev pub cause_view : Cause → letters.Cause
cause_view (causes.Stale met) = is_stale (version_view met)
cause_view (causes.Lack node lack) = is_lack node.0 (lack_view lack)

abbrev pub about_view : About → letters.Refused
about_view (abouts.Request id turn first) = of_request (id_view id) turn first
about_view (abouts.Table namespace create at) = of_table namespace create (at_view at)

abbrev pub refused_view : Refused → letters.Body
refused_view r = refused (about_view r.about) (cause_view r.cause)
