-- Where the input was read to its end, every request that was taken is answered; of a script, where its last line is `settle`.
use Rattle.std.proofs.Common.{◌≡◌, ℕ, List}
use Rattle.std.specs.Prelude.{Option}
use Rattle.opmsg_frames.specs.Outline.{FrameFault}
use Rattle.node_model.specs.World.{World}
use Rattle.pipe_driver.specs.Endings.{Cause, input_ended, read_failed, write_failed, disk_failed, no_memory, no_request, too_long}
use Rattle.pipe_driver.specs.declared.status.Status.{Status}
use Rattle.pipe_driver.specs.declared.status.Status.TheVariants as statuses
use Rattle.sim_driver.specs.Simulations.{AllPlayed, Cause as ScriptCause, input_ended as script_ended, read_failed as script_unread, write_failed as script_unput}
use Rattle.sim_driver.specs.Simulations.{disk_failed as script_unstored, no_memory as script_full, line_refused, line_unended, too_long as script_too_long}

pub all_served : (limit : ℕ) (at_end : Type 0) (taken : List ℕ) (fault : Option (FrameFault × ℕ)) (all some short : Type 0) (status : Status)
    → Cause limit at_end taken fault all some short status → status ≡ statuses.InputEnded → all
all_served limit at_end taken fault all some short _ (input_ended ends below none served) is = served
all_served limit at_end taken fault all some short _ (read_failed below none served) is = absurd (cc is)
all_served limit at_end taken fault all some short _ (write_failed part) is = absurd (cc is)
all_served limit at_end taken fault all some short _ (disk_failed part) is = absurd (cc is)
all_served limit at_end taken fault all some short _ (no_memory part) is = absurd (cc is)
all_served limit at_end taken fault all some short _ (no_request faulty served) is = absurd (cc is)
all_served limit at_end taken fault all some short _ (too_long full none served) is = absurd (cc is)

pub all_played : (first_router : ℕ) (first : World) (limit : ℕ) (at_end : Type 0) (taken : List ℕ) (lines : List (List ℕ)) (left put : List ℕ) (end : World)
    (status : Status) → ScriptCause first_router first limit at_end taken lines left put end status → status ≡ statuses.InputEnded
    → AllPlayed first_router first lines put end
all_played first_router first limit at_end taken lines left put end _ (script_ended ends below none played) is = played
all_played first_router first limit at_end taken lines left put end _ (script_unread below none played) is = absurd (cc is)
all_played first_router first limit at_end taken lines left put end _ (script_unput short) is = absurd (cc is)
all_played first_router first limit at_end taken lines left put end _ (script_unstored came) is = absurd (cc is)
all_played first_router first limit at_end taken lines left put end _ (script_full came) is = absurd (cc is)
all_played first_router first limit at_end taken lines left put end _ (line_refused bytes others next played refused) is = absurd (cc is)
all_played first_router first limit at_end taken lines left put end _ (line_unended ends below some none played) is = absurd (cc is)
all_played first_router first limit at_end taken lines left put end _ (script_too_long full none played) is = absurd (cc is)
